-- Laws of the instructions of a code: they stand in the table of forms, with as many bytes as the table of opcodes says, their targets are places, and their addresses ascend.
use Rattle.std.proofs.Common.{◌≡◌, ℕ, ◌+◌, ◌<◌, ◌≤◌, List, [], ◌∷◌, map, Option, Some, None, refl, sym, ap, ◌∙◌, subst, inl, inr, arith}
use Rattle.std.specs.Prelude.{◌⊎◌, ◌^◌, ℤ, pos, ◌+ℤ◌, ◌≤ℤ◌, FitsSigned, length}
use Rattle.std.specs.Int.{Width, w32, byte_len, cast_unsigned}
use Rattle.std.specs.List.{AllZip, AllByRecursion}
use Rattle.std.proofs.lemmas.Int.{ints}
use Rattle.std.proofs.lemmas.List.{length-append}
use Rattle.std.proofs.lemmas.Option.{slice_get_within}
use Rattle.std.proofs.lemmas.Slice.Zip.{AllZip-long}
use Rattle.pv_format.proofs.Cited.{IsWide, wide8, wide16, wide32}
use Rattle.pv_insn.specs.declared.form.Form.{Form}
use Rattle.pv_insn.specs.declared.form.Form.TheVariants as form
use Rattle.pv_insn.specs.declared.raw.Raw.{Raw}
use Rattle.pv_insn.specs.declared.raw.Raw.TheVariants as raw
use Rattle.pv_insn.specs.declared.raw.RawPlaced.{RawPlaced}
use Rattle.pv_insn.specs.declared.insn.Insn.{Insn}
use Rattle.pv_insn.specs.declared.insn.Insn.TheVariants as insn
use Rattle.pv_insn.specs.declared.insn.Placed.{Placed}
use Rattle.pv_insn.specs.Opcodes.{Format, size_of, wide_size_of}
use Rattle.pv_insn.specs.Opcodes as format
use Rattle.pv_insn.specs.Forms.{form_of, taken, skipped}
use Rattle.pv_insn.specs.Pieces.{Piece, instruction, unknown, IsUnsigned, IsSigned, IsIncrement, IsIndexAndShort, Operands, Widened, AfterOpcode}
use Rattle.pv_insn.specs.Codes.{Leads, LeadsCase, AreFrom, IsPlaced, Resolves, IsCode}
use Rattle.pv_insn.proofs.Each.{zip_right, map_all}
use Rattle.pv_insn.proofs.Places.{some_text}

-- ---- forms

-- an instruction as the table of forms has it; the numbers of a tableswitch end below 2 ^ 31
abbrev pub IsFormed : Insn → Type 0
IsFormed (insn.Plain o) = (o < 256) × (form_of o ≡ Some form.Plain)
IsFormed (insn.Local o n) = (o < 256) × (form_of o ≡ Some form.Local)
IsFormed (insn.Branch o k) = (o < 256) × ((form_of o ≡ Some form.Branch2) ⊎ (form_of o ≡ Some form.Branch4))
IsFormed (insn.Refused o) = (o < 256) × (((n : ℕ) × (form_of o ≡ Some (form.Skipped n))) ⊎ (form_of o ≡ Some form.SkippedLocal))
IsFormed (insn.Table default low targets) = (low +ℤ pos (length targets)) ≤ℤ pos (2 ^ 31)
IsFormed _ = Unit {0}

-- the numbers of a table end below 2 ^ 31
highest : (low high : ℤ) (n : ℕ) → FitsSigned w32 high → low +ℤ pos n ≡ high +ℤ pos 1 → (low +ℤ pos n) ≤ℤ pos (2 ^ 31)
highest low high n fits e = omega (arith, ints)

module _ (raws : List RawPlaced) (from : ℕ) (i : Insn) where
  abbrev Leads' : Raw → Type 0
  Leads' r = Resolves raws from r i

  -- what an instruction that stands so resolves to
  same : (r q : Raw) → instruction r ≡ instruction q → Leads' r → Leads' q
  same r q e l = let is : r ≡ q = cc in subst Leads' is l

  widened : (o : ℕ) (f : Option Form) (r : Raw) (rest : List ℕ) → o < 256 → form_of o ≡ f → Widened o f (instruction r) rest → Leads' r → IsFormed i
  widened o (Some form.Local) r rest byte is w l = subst IsFormed (sym (same r _ w.is l)) (byte, is)
  widened o (Some form.Increment) r rest byte is w l = subst IsFormed (sym (same r _ w.is l)) tt
  widened o (Some form.SkippedLocal) r rest byte is w l = subst IsFormed (sym (same r _ w.1 l)) (byte, inr is)
  widened o f r rest byte is w l = absurd (cc (w.0))

  after_opcode : (at o : ℕ) (f : Option Form) (r : Raw) (rest : List ℕ) → o < 256 → form_of o ≡ f → AfterOpcode at o f (instruction r) rest → Leads' r → IsFormed i
  after_opcode at o None r rest byte is b l = absurd (cc (b.0))
  after_opcode at o (Some form.Plain) r rest byte is b l = subst IsFormed (sym (same r _ b.0 l)) (byte, is)
  after_opcode at o (Some form.Local) r rest byte is b l = subst IsFormed (sym (same r _ b.is l)) (byte, is)
  after_opcode at o (Some form.Branch2) r rest byte is b l = let to = same r _ b.is l in subst IsFormed (sym to.2) (byte, inl is)
  after_opcode at o (Some form.Branch4) r rest byte is b l = let to = same r _ b.is l in subst IsFormed (sym to.2) (byte, inr is)
  after_opcode at o (Some form.Table) r rest byte is (inl b) l =
      let to = same r _ b.is l in
      let many : length b.offsets ≡ length to.targets = sym (AllZip-long (Leads raws from) b.offsets to.targets to.others) in
      let few : (b.low +ℤ pos (length b.offsets)) ≤ℤ pos (2 ^ 31) = highest b.low b.high (length b.offsets) b.stands.fits.1.1.0 b.counted in
      subst IsFormed (sym to.is) (rw (← many) few)
  after_opcode at o (Some form.Table) r rest byte is (inr b) l = let no = b.is in absurd (cc)
  after_opcode at o (Some form.Lookup) r rest byte is (inl b) l = let to = same r _ b.is l in subst IsFormed (sym to.is) tt
  after_opcode at o (Some form.Lookup) r rest byte is (inr b) l = let no = b.is in absurd (cc)
  after_opcode at o (Some (form.Skipped n)) r rest byte is b l = subst IsFormed (sym (same r _ b.1 l)) (byte, inl (n, is))
  after_opcode at o (Some form.SkippedLocal) r rest byte is b l = subst IsFormed (sym (same r _ b.1 l)) (byte, inr is)
  after_opcode at o (Some form.Wide) r rest byte is b l = widened b.op (form_of b.op) r b.rest b.byte refl b.operands l
  after_opcode at o (Some f) r rest byte is b l = subst IsFormed (sym (same r _ b.is l)) tt

all_formed : (raws here : List RawPlaced) (placed : List Placed) (at : ℕ) (bytes : List ℕ) → AreFrom at here bytes → AllZip (IsPlaced raws) here placed → AllByRecursion (λ p. IsFormed p.insn) placed
all_formed raws [] [] at bytes from all = tt
all_formed raws [] (p ∷ placed) at bytes from all = elim all [ ]
all_formed raws (r ∷ here) [] at bytes from all = elim all [ ]
all_formed raws (r ∷ here) (p ∷ placed) at bytes (text, rest, parts, stands, from) (placed_so, all) =
    let s = stands.spells in
    (after_opcode raws r.at p.insn (at + 1) s.op (form_of s.op) r.raw s.rest s.byte refl s.operands placed_so.1, all_formed raws here placed _ rest from all)

pub formed : (code : List ℕ) (placed : List Placed) → IsCode code placed → AllByRecursion (λ p. IsFormed p.insn) placed
formed code placed is = all_formed is.raws is.raws placed 0 code is.read is.resolved

-- ---- targets are places

abbrev pub targets_of : Insn → List ℕ
targets_of (insn.Branch op k) = k ∷ []
targets_of (insn.Table k low ks) = k ∷ ks
targets_of (insn.Lookup k cases) = k ∷ map (λ c. c.target) cases
targets_of _ = []

abbrev pub Below : ℕ → Insn → Type 0
Below n i = AllByRecursion (λ k. k < n) (targets_of i)

module _ (raws : List RawPlaced) where
  lead_below : (at : ℕ) (offset : ℤ) (k : ℕ) → Leads raws at offset k → k < length raws
  lead_below at offset k l = slice_get_within raws k l.target l.stands

  insn_below : (at : ℕ) (r : Raw) (i : Insn) → Resolves raws at r i → Below (length raws) i
  insn_below at (raw.Branch op offset) i h = subst (Below (length raws)) (sym h.2) (lead_below at offset h.0 h.1, tt)
  insn_below at (raw.Table default low offsets) i h = subst (Below (length raws)) (sym h.is) (lead_below at default h.otherwise h.first, zip_right (Leads raws at) _ (lead_below at) offsets h.targets h.others)
  insn_below at (raw.Lookup default cases) i h =
      let others = map_all _ (λ c. c.target) h.cases (zip_right (LeadsCase raws at) _ (λ c d l. lead_below at c.offset d.target l.1) cases h.cases h.others) in
      subst (Below (length raws)) (sym h.is) (lead_below at default h.otherwise h.first, others)
  insn_below at r i h = subst (Below (length raws)) (sym h) tt

-- each target of an instruction is below the number of instructions
pub targets_within : (code : List ℕ) (placed : List Placed) → IsCode code placed → AllByRecursion (λ p. Below (length placed) p.insn) placed
targets_within code placed c =
    let long = AllZip-long (IsPlaced c.raws) c.raws placed c.resolved in
    rw long (zip_right (IsPlaced c.raws) (λ p. Below (length c.raws) p.insn) (λ r p h. insn_below c.raws r.at r.raw p.insn h.1) c.raws placed c.resolved)

-- ---- addresses ascend

-- the first from here on, and each above the one before it
abbrev pub Ascending : ℕ → List Placed → Type 0
Ascending n [] = Unit {0}
Ascending n (p ∷ placed) = (n ≤ p.at) × Ascending (p.at + 1) placed

ascend_from : (raws some : List RawPlaced) (placed : List Placed) (n at : ℕ) (bytes : List ℕ) → n ≤ at → AreFrom at some bytes → AllZip (IsPlaced raws) some placed → Ascending n placed
ascend_from raws some [] n at bytes le h z = tt
ascend_from raws [] (p ∷ placed) n at bytes le h z = absurd z
ascend_from raws (r ∷ some) (p ∷ placed) n at bytes le h z =
    let far = some_text at r h.0 h.3 in
    (omega (arith, z.0.0, h.3.here), ascend_from raws some placed (p.at + 1) (at + length h.0) h.1 (omega (arith, far, z.0.0, h.3.here)) h.4 z.1)

-- the addresses of a code's instructions ascend
pub addresses_ascend : (code : List ℕ) (placed : List Placed) → IsCode code placed → Ascending 0 placed
addresses_ascend code placed c = ascend_from c.raws c.raws placed 0 0 code (omega arith) c.read c.resolved

-- ---- the bytes of operands

unsigned_size : (w : Width) → IsWide w → (n : ℕ) (bytes : List ℕ) → IsUnsigned w n bytes → length bytes ≡ byte_len w
unsigned_size w wide n bytes is = ap length is.1 ∙ wide.len n

signed_size : (w : Width) → IsWide w → (n : ℤ) (bytes : List ℕ) → IsSigned w n bytes → length bytes ≡ byte_len w
signed_size w wide n bytes is = ap length is.1 ∙ wide.len (cast_unsigned w n)

increment_size : (w : Width) → IsWide w → (piece : Piece) (bytes : List ℕ) → IsIncrement w piece bytes → length bytes ≡ byte_len w + byte_len w
increment_size w wide piece bytes is =
    let first = unsigned_size w wide is.local is.front is.first in
    let second = signed_size w wide is.number is.back is.second in
    omega (arith, first, second, ap length is.parts, length-append is.front is.back)

index_and_short_size : (op : ℕ) (piece : Piece) (bytes : List ℕ) → IsIndexAndShort op piece bytes → length bytes ≡ 4
index_and_short_size op piece bytes is =
    let first = unsigned_size _ wide16 is.number is.front is.spelled in
    omega (arith, first, is.any, ap length is.parts, length-append is.front is.back)

-- those of switches and those after wide differ
abbrev HasOneSize : Format → Type 0
HasOneSize format.table = ⊥
HasOneSize format.pairs = ⊥
HasOneSize format.wide_instruction = ⊥
HasOneSize f = Unit {0}

pub skipped_size : (at op : ℕ) (f : Format) (piece : Piece) (bytes : List ℕ) → Operands at op (skipped f) piece bytes → length bytes ≡ size_of f
skipped_size at op format.local piece bytes is = is.0
skipped_size at op f piece bytes is = is.0

pub taken_size : (at op : ℕ) (f : Format) (piece : Piece) (bytes : List ℕ) → HasOneSize f → Operands at op (taken f) piece bytes → length bytes ≡ size_of f
taken_size at op format.nothing piece bytes one is = ap length is.1
taken_size at op format.byte piece bytes one is = signed_size _ wide8 is.number bytes is.spelled
taken_size at op format.short piece bytes one is = signed_size _ wide16 is.number bytes is.spelled
taken_size at op format.local piece bytes one is = unsigned_size _ wide8 is.number bytes is.spelled
taken_size at op format.increment piece bytes one is = increment_size _ wide8 piece bytes is
taken_size at op format.byte_index piece bytes one is = unsigned_size _ wide8 is.number bytes is.spelled
taken_size at op format.index piece bytes one is = unsigned_size _ wide16 is.number bytes is.spelled
taken_size at op format.index_and_short piece bytes one is = index_and_short_size op piece bytes is
taken_size at op format.offset piece bytes one is = signed_size _ wide16 is.number bytes is.spelled
taken_size at op format.wide_offset piece bytes one is = signed_size _ wide32 is.number bytes is.spelled
taken_size at op format.table piece bytes one is = absurd one
taken_size at op format.pairs piece bytes one is = absurd one
taken_size at op format.wide_instruction piece bytes one is = absurd one
taken_size at op f piece bytes one is = is.0

-- ---- after wide

-- this many bytes, or wide may not stand there
abbrev HasWideSize : Option ℕ → Piece → List ℕ → Type 0
HasWideSize (Some n) piece bytes = length bytes ≡ n
HasWideSize None piece bytes = piece ≡ unknown

pub wide_taken_size : (op : ℕ) (f : Format) (piece : Piece) (bytes : List ℕ) → Widened op (Some (taken f)) piece bytes → HasWideSize (wide_size_of f) piece bytes
wide_taken_size op format.local piece bytes is = unsigned_size _ wide16 is.number bytes is.spelled
wide_taken_size op format.increment piece bytes is = increment_size _ wide16 piece bytes is
wide_taken_size op f piece bytes is = is.0

pub wide_skipped_size : (op : ℕ) (piece : Piece) (bytes : List ℕ) → Widened op (Some (skipped format.local)) piece bytes → HasWideSize (wide_size_of format.local) piece bytes
wide_skipped_size op piece bytes is = is.0
