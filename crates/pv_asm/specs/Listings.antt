-- Which line of a listing may stand where, and what it adds to the class.
use Rattle.std.specs.Prelude.{ℕ, ◌+◌, Bool, ◌&&◌, ◌||◌, nat_le, List, [], ◌∷◌, ◌++◌, length, codes, Option, Some, None, Result, Ok, Err, if◌then◌else◌}
use Rattle.std.specs.Int.{w32, w64, cast_unsigned}
use Rattle.std.specs.List.{list_any}
use Rattle.std.specs.Str.{bytes_eq}
use Rattle.pv_pool.specs.declared.entry.Entry.TheVariants.{Integer, Long}
use Rattle.pv_pool.specs.Readers.{◌>>=◌}
use Rattle.pv_listing.specs.declared.line.Line.{Line}
use Rattle.pv_listing.specs.declared.line.Line.TheVariants as lines
use Rattle.pv_listing.specs.declared.line.Title.{Title}
use Rattle.pv_listing.specs.declared.line.Operands.{Operands}
use Rattle.pv_listing.specs.declared.line.Operands.TheVariants as operands
use Rattle.pv_asm.specs.declared.seen.Signature.{Signature}
use Rattle.pv_asm.specs.declared.draft.Draft.{Draft}
use Rattle.pv_asm.specs.declared.draft.Head.{Head}
use Rattle.pv_asm.specs.declared.draft.Open.{Open}
use Rattle.pv_asm.specs.declared.draft.Place.{Place}
use Rattle.pv_asm.specs.declared.draft.Place.TheVariants.{Start, Between, Inside}
use Rattle.pv_asm.specs.Labels.{labels_from}
use Rattle.pv_asm.specs.Needs.{Pool, Needed, needed, need, need_text, need_class, need_member}
use Rattle.pv_asm.specs.Codes.{insn_bytes}

-- ---- the first line: the class and its superclass are needed

abbrev pub begin : List ℕ → Option Draft
begin name = do
  class ← need_class [] name
  super ← need_class class.pool (codes "java/lang/Object")
  Some (record { pool = super.pool; class = class.index; superclass = super.index; signatures = []; methods = [] })

-- ---- the head of a method

abbrev pub alike : Signature → Signature → Bool
alike s t = bytes_eq s.name t.name && bytes_eq s.desc t.desc

-- a signature is put after the others; None where there are 65535, or where one of them is the same
abbrev pub put_signature : List Signature → Signature → Option (List Signature)
put_signature seen s = if nat_le 65535 (length seen) || list_any (alike s) seen then None else Some (seen ++ s ∷ [])

-- the name, the descriptor and `Code` are needed, with the pool after them
abbrev pub need_head : Pool → Title → Option (Head × Pool)
need_head pool t = do
  name ← need_text pool t.name
  desc ← need_text name.pool t.desc
  code ← need_text desc.pool (codes "Code")
  Some (record { is_static = t.is_static; name = name.index; desc = desc.index; code = code.index; stack = t.stack; locals = t.locals }, code.pool)

-- a method, whose labels are those of the lines after its head
abbrev pub open_method : Draft → Title → List (Option Line) → Option Place
open_method d t after = do
  signatures ← put_signature d.signatures (record { name = t.name; desc = t.desc })
  head ← need_head d.pool t
  Some (Inside (record d { pool = head.1; signatures = signatures }) (record { head = head.0; labels = labels_from [] 0 after; seen = []; code = [] }))

-- ---- the lines of a method

-- a label, which stands nowhere earlier in the method
abbrev pub put_label : List (List ℕ) → List ℕ → Option (List (List ℕ))
put_label seen l = if list_any (bytes_eq l) seen then None else Some (seen ++ l ∷ [])

abbrev pub at_label : Open → List ℕ → Option Open
at_label m l = do
  seen ← put_label m.seen l
  Some (record m { seen = seen })

-- what an instruction needs; index 0 where it needs nothing
abbrev pub need_of : Pool → ℕ → Operands → Option Needed
need_of pool op (operands.Int n) = need pool (Integer (cast_unsigned w32 n))
need_of pool op (operands.Long n) = need pool (Long (cast_unsigned w64 n))
need_of pool op (operands.Member s) = need_member pool op s
need_of pool op _ = Some (needed 0 pool)

-- an instruction, whose bytes are put after those before it
abbrev pub at_insn : Draft → Open → ℕ → Operands → Option Place
at_insn d m op o = do
  entry ← need_of d.pool op o
  bytes ← insn_bytes m.labels (length m.code) entry.index op o
  Some (Inside (record d { pool = entry.pool }) (record m { code = m.code ++ bytes }))

-- the end, after 1 to 65535 bytes of code
abbrev pub at_end : Draft → Open → Option Draft
at_end d m =
    if nat_le 1 (length m.code) && nat_le (length m.code) 65535
    then Some (record d { methods = d.methods ++ record { head = m.head; code = m.code } ∷ [] })
    else None

-- ---- lines one after the other

-- a line, after those before it, where these lines stand after it
abbrev pub next : Place → Line → List (Option Line) → Option Place
next Start (lines.Class name) after = do
  d ← begin name
  Some (Between d)
next (Between d) (lines.Method t) after = open_method d t after
next (Inside d m) (lines.Label l) after = do
  later ← at_label m l
  Some (Inside d later)
next (Inside d m) (lines.Instruction op o) after = at_insn d m op o
next (Inside d m) lines.End after = do
  later ← at_end d m
  Some (Between later)
next _ _ after = None

-- after the last line: the class; the number, where `class` or an `end` is missing
abbrev pub ended : ℕ → Place → Result Draft ℕ
ended n (Between d) = Ok d
ended n _ = Err n

abbrev pub go_on : ℕ → (Place → Result Draft ℕ) → Option Place → Result Draft ℕ
go_on n later None = Err n
go_on n later (Some place) = later place

-- the class of lines, of which the first has this number; the number of the first one that has no reading
abbrev pub read_lines : ℕ → Place → List (Option Line) → Result Draft ℕ
read_lines n place [] = ended n place
read_lines n place (None ∷ after) = Err n
read_lines n place (Some line ∷ after) = go_on n (λ later. read_lines (n + 1) later after) (next place line after)
