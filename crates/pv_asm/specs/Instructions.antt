-- The instructions of a method's lines: each with its address, its index in a pool, and the places of those to which it leads.
use Rattle.std.specs.Prelude.{◌≡◌, ℕ, ℤ, ◌+◌, Bool, true, false, nat_le, List, [], ◌∷◌, length, map, Option, Some, None, if◌then◌else◌}
use Rattle.std.specs.List.{AllByRecursion}
use Rattle.std.specs.Str.{bytes_eq}
use Rattle.pv_format.specs.Reading.{read_each}
use Rattle.pv_insn.specs.declared.insn.Case.{Case}
use Rattle.pv_insn.specs.declared.insn.Insn.{Insn}
use Rattle.pv_insn.specs.declared.insn.Insn.TheVariants as insn
use Rattle.pv_insn.specs.declared.insn.Placed.{Placed}
use Rattle.pv_listing.specs.declared.line.Line.{Line}
use Rattle.pv_listing.specs.declared.line.Line.TheVariants as lines
use Rattle.pv_listing.specs.declared.line.Operands.{Operands}
use Rattle.pv_listing.specs.declared.line.Operands.TheVariants as operands
use Rattle.pv_pool.specs.Readers.{◌>>=◌}
use Rattle.pv_asm.specs.Labels.{size_at}
use Rattle.pv_asm.specs.Listings.{need_of}
use Rattle.pv_asm.specs.Needs.{Pool}

-- ---- where a label leads

abbrev pub has_insn : List Line → Bool
has_insn [] = false
has_insn (lines.Instruction op o ∷ after) = true
has_insn (line ∷ after) = has_insn after

-- the place of the first instruction after a label, where k instructions stand before these lines; None where there is no such label or instruction
abbrev pub place_from : ℕ → List Line → List ℕ → Option ℕ
place_from k [] l = None
place_from k (lines.Label m ∷ after) l = if bytes_eq l m then if has_insn after then Some k else None else place_from k after l
place_from k (lines.Instruction op o ∷ after) l = place_from (k + 1) after l
place_from k (line ∷ after) l = place_from k after l

-- the labels that operands name
abbrev pub labels_in : Operands → List (List ℕ)
labels_in (operands.Label l) = l ∷ []
labels_in (operands.Table low default labels) = default ∷ labels
labels_in (operands.Lookup default pairs) = default ∷ map (λ (p : ℤ × List ℕ). p.1) pairs
labels_in _ = []

abbrev pub HasPlace : (List ℕ → Option ℕ) → List ℕ → Type 0
HasPlace place l = (k : ℕ) × (place l ≡ Some k)

-- each label that an instruction names has a place
abbrev pub LabelsLead : (List ℕ → Option ℕ) → List Line → Type 0
LabelsLead place [] = Unit {0}
LabelsLead place (lines.Instruction op o ∷ after) = AllByRecursion (HasPlace place) (labels_in o) × LabelsLead place after
LabelsLead place (line ∷ after) = LabelsLead place after

-- ---- instructions

-- the index that what an instruction names has in a pool, where it stands; 0 where it names nothing
abbrev pub index_in : Pool → ℕ → Operands → Option ℕ
index_in pool op o = do
  entry ← need_of pool op o
  if nat_le (length entry.pool) (length pool) then Some entry.index else None

-- a key with the place of its label
abbrev pub case_in : (List ℕ → Option ℕ) → ℤ × List ℕ → Option Case
case_in place p = do
  k ← place p.1
  Some (record { key = p.0; target = k })

-- an opcode with operands, by the places of labels and the index of what it names
abbrev pub insn_of : (List ℕ → Option ℕ) → ℕ → ℕ → Operands → Option Insn
insn_of place index op operands.Nothing = Some (insn.Plain op)
insn_of place index op (operands.Number n) = Some (insn.Push op n)
insn_of place index op (operands.Local n) = Some (insn.Local op n)
insn_of place index op (operands.Increment n k) = Some (insn.Iinc n k)
insn_of place index op (operands.Int n) = Some (insn.Pool op index)
insn_of place index op (operands.Long n) = Some (insn.Pool op index)
insn_of place index op (operands.Member s) = Some (insn.Pool op index)
insn_of place index op (operands.Label l) = do
  k ← place l
  Some (insn.Branch op k)
insn_of place index op (operands.Table low default labels) = do
  k ← place default
  ks ← read_each place labels
  Some (insn.Table k low ks)
insn_of place index op (operands.Lookup default pairs) = do
  k ← place default
  cases ← read_each (case_in place) pairs
  Some (insn.Lookup k cases)

-- the instructions of lines, the first at an address
abbrev pub placed_from : (List ℕ → Option ℕ) → Pool → ℕ → List Line → Option (List Placed)
placed_from place pool at [] = Some []
placed_from place pool at (lines.Instruction op o ∷ after) = do
  index ← index_in pool op o
  i ← insn_of place index op o
  others ← placed_from place pool (at + size_at at op o) after
  Some (record { at = at; insn = i } ∷ others)
placed_from place pool at (line ∷ after) = placed_from place pool at after

-- the instructions of all lines of a method, by the pool of its class
abbrev pub placed_of : Pool → List Line → Option (List Placed)
placed_of pool body = placed_from (place_from 0 body) pool 0 body

-- ---- the lines of methods

-- the lines of a method up to its end
abbrev pub body_of : List (Option Line) → List Line
body_of [] = []
body_of (None ∷ after) = body_of after
body_of (Some lines.End ∷ after) = []
body_of (Some line ∷ after) = line ∷ body_of after

-- those of each method
abbrev pub bodies_of : List (Option Line) → List (List Line)
bodies_of [] = []
bodies_of (Some (lines.Method t) ∷ after) = body_of after ∷ bodies_of after
bodies_of (line ∷ after) = bodies_of after
