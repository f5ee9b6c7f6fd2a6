-- Laws of the classes of listings.
use Rattle.std.specs.Prelude.{◌≡◌, ℕ, zero, suc, ◌+◌, ◌*◌, ◌≤◌, Bool, true, false, List, [], ◌∷◌, ◌++◌, length, map, Option, Some, None, Ok, if◌then◌else◌, slice_get}
use Rattle.std.specs.List.{AllByRecursion, AllZip, flat_map}
use Rattle.pv_class.specs.declared.class.TheConstants.{LONGEST_FILE}
use Rattle.pv_class.specs.declared.file.ClassFile.{ClassFile}
use Rattle.pv_class.specs.declared.file.Code.{Code}
use Rattle.pv_class.specs.declared.file.Method.{Method as FileMethod}
use Rattle.pv_class.specs.ClassFiles.{IsClass}
use Rattle.pv_insn.specs.declared.insn.Placed.{Placed}
use Rattle.pv_insn.specs.Codes.{IsCode}
use Rattle.pv_pool.specs.Readers.{◌>>=◌}
use Rattle.pv_listing.specs.declared.line.Line.{Line}
use Rattle.pv_listing.specs.declared.line.Line.TheVariants as lines
use Rattle.pv_listing.specs.declared.line.Operands.{Operands}
use Rattle.pv_listing.specs.declared.line.Operands.TheVariants as operands
use Rattle.pv_listing.specs.declared.line.Title.{Title}
use Rattle.pv_listing.specs.Lines.{LineFits}
use Rattle.pv_asm.specs.declared.draft.Draft.{Draft}
use Rattle.pv_asm.specs.declared.draft.Method.{Method}
use Rattle.pv_asm.specs.declared.draft.Open.{Open}
use Rattle.pv_asm.specs.declared.draft.Place.{Place}
use Rattle.pv_asm.specs.declared.draft.Place.TheVariants.{Start, Inside}
use Rattle.pv_asm.specs.Labels.{Labels, address_of, labels_from}
use Rattle.pv_asm.specs.Codes.{insn_bytes}
use Rattle.pv_asm.specs.Instructions.{LabelsLead, place_from, placed_of, bodies_of}
use Rattle.pv_asm.specs.Listings.{at_label, next, put_label, read_lines}
use Rattle.pv_asm.specs.Needs.{Pool}
use Rattle.pv_asm.specs.Classes.{text_lines, draft_of, class_of_lines, class_of_text}

-- ---- each class of a listing can be read again

-- the heads of methods in order
abbrev pub titles_of : List (Option Line) → List Title
titles_of [] = []
titles_of (Some (lines.Method t) ∷ after) = t ∷ titles_of after
titles_of (line ∷ after) = titles_of after

-- a method has a code of these sizes, without handlers
abbrev pub HasCode : Title → Option Code → Type 0
HasCode t None = ⊥
HasCode t (Some code) = (code.max_stack ≡ t.stack) × (code.max_locals ≡ t.locals) × (code.handlers ≡ 0)

-- a method of a class file is what its head says
pub record IsStated (t : Title) (m : FileMethod) : Type 0 where
  pub flags : m.flags ≡ (if t.is_static then 0x0009 else 0x0001)
  pub name : m.name ≡ t.name
  pub desc : m.desc ≡ t.desc
  pub code : HasCode t m.code

-- each line that has a reading has a spelling
abbrev pub AreFit : List (Option Line) → Type 0
AreFit [] = Unit {0}
AreFit (None ∷ after) = AreFit after
AreFit (Some line ∷ after) = LineFits line × AreFit after

-- a class of lines, if it isn't too long, is a class file with the methods that the lines have, in order
abbrev pub LinesAreClass : Type 0
LinesAreClass =
    (all : List (Option Line)) (bytes : List ℕ) → AreFit all → class_of_lines all ≡ Ok bytes → length bytes ≤ LONGEST_FILE
    → (file : ClassFile) × IsClass bytes file × AllZip IsStated (titles_of all) file.methods

-- a class of a listing, if it isn't too long, is a class file with the methods that the listing has, in order
abbrev pub ListingIsClass : Type 0
ListingIsClass =
    (text bytes : List ℕ) → class_of_text text ≡ Ok bytes → length bytes ≤ LONGEST_FILE
    → (file : ClassFile) × IsClass bytes file × AllZip IsStated (titles_of (text_lines text)) file.methods

-- ---- each entry stands once

-- no entry stands at two places of the pool
abbrev pub EntriesOnce : Type 0
EntriesOnce = (text : List ℕ) (d : Draft) → draft_of text ≡ Ok d → (i j : ℕ) (entry : List ℕ) → slice_get d.pool i ≡ Some entry → slice_get d.pool j ≡ Some entry → i ≡ j

-- ---- labels stand where their addresses say

-- the place before line i, counted from 0, if each line before it has a reading
abbrev pub place_before : ℕ → Place → List (Option Line) → Option Place
place_before zero place all = Some place
place_before (suc i) place [] = None
place_before (suc i) place (None ∷ after) = None
place_before (suc i) place (Some line ∷ after) = do
  later ← next place line after
  place_before i later after

-- where a label has a reading, the code before it has as many bytes as its address says
abbrev pub LabelsStand : Type 0
LabelsStand =
    (text : List ℕ) (i : ℕ) (d : Draft) (m later : Open) (l : List ℕ) → place_before i Start (text_lines text) ≡ Some (Inside d m) → slice_get (text_lines text) i ≡ Some (Some (lines.Label l)) → at_label m l ≡ Some later
    → address_of l m.labels ≡ Some (length m.code)

-- ---- each code spells the instructions of its lines

-- a code spells them, with their places as targets, if each label that one of them names stands before some instruction
abbrev pub IsListed : Pool → List Line → Method → Type 0
IsListed pool body m = LabelsLead (place_from 0 body) body → (placed : List Placed) × (placed_of pool body ≡ Some placed) × IsCode m.code placed

-- the codes of a class of lines, one for each method in order
abbrev pub LinesAreListed : Type 0
LinesAreListed = (all : List (Option Line)) (d : Draft) → AreFit all → read_lines 1 Start all ≡ Ok d → AllZip (IsListed d.pool) (bodies_of all) d.methods

-- those of a class of a listing
abbrev pub CodesAreListed : Type 0
CodesAreListed = (text : List ℕ) (d : Draft) → draft_of text ≡ Ok d → AllZip (IsListed d.pool) (bodies_of (text_lines text)) d.methods

-- ---- methods whose instructions need no entry have a class together

-- a method: its head, and the lines up to its end
pub record MethodLines : Type 0 where
  pub title : Title
  pub body : List Line

abbrev pub method_lines : MethodLines → List Line
method_lines m = lines.Method m.title ∷ (m.body ++ lines.End ∷ [])

-- an instruction with these operands needs an entry in the pool
abbrev pub needs_entry : Operands → Bool
needs_entry (operands.Int n) = true
needs_entry (operands.Long n) = true
needs_entry (operands.Member s) = true
needs_entry _ = false

-- the code so far with that of more lines, by all labels of the method and those that were read; None where a line has no reading in a method, or needs an entry
abbrev pub code_from : Labels → List (List ℕ) → List ℕ → List Line → Option (List ℕ)
code_from labels seen code [] = Some code
code_from labels seen code (lines.Label l ∷ after) = do
  later ← put_label seen l
  code_from labels later code after
code_from labels seen code (lines.Instruction op o ∷ after) =
    if needs_entry o then None else do
      bytes ← insn_bytes labels (length code) 0 op o
      code_from labels seen (code ++ bytes) after
code_from labels seen code _ = None

abbrev pub code_of_body : List Line → Option (List ℕ)
code_of_body body = code_from (labels_from [] 0 (map (λ (line : Line). Some line) body)) [] [] body

-- a method that needs no more than its name, its descriptor and `Code`
pub record IsPlain (m : MethodLines) : Type 0 where
  pub name : length m.title.name ≤ 65535
  pub desc : length m.title.desc ≤ 65535
  pub code : List ℕ
  pub is : code_of_body m.body ≡ Some code
  pub some : 1 ≤ length code
  pub few : length code ≤ 65535

-- no two heads have the same name and descriptor
abbrev pub AreApart : List Title → Type 0
AreApart titles = (i j : ℕ) (t u : Title) → slice_get titles i ≡ Some t → slice_get titles j ≡ Some u → t.name ≡ u.name → t.desc ≡ u.desc → i ≡ j

-- the class and its superclass need at most four entries and each method at most three, and constant_pool_count is one more than there are
abbrev pub MethodsHaveClass : Type 0
MethodsHaveClass =
    (name : List ℕ) (methods : List MethodLines) → length name ≤ 65535 → AllByRecursion IsPlain methods → AreApart (map (λ (m : MethodLines). m.title) methods) → 5 + 3 * length methods ≤ 65535
    → (bytes : List ℕ) × (class_of_lines (map (λ (line : Line). Some line) (lines.Class name ∷ flat_map method_lines methods)) ≡ Ok bytes)
