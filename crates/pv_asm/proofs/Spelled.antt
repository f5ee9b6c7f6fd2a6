-- The bytes of an instruction are those that spell it (JVMS 6.5).
use Rattle.std.proofs.Common.{◌≡◌, ◌≢◌, inl, ℕ, suc, ◌+◌, ◌-◌, ◌*◌, ◌%◌, ◌^◌, ◌<◌, ◌≤◌, ℤ, pos, negsuc, ◌+ℤ◌, ◌-ℤ◌, ◌≤ℤ◌, ◌<ℤ◌, int_le, int_lt, Bool, true, false, cond, eqb, ltb, leb, List, [], ◌∷◌, length, map, replicate, Option, Some, None, is_some, FitsSigned, refl, sym, ap, subst, ◌∙◌, arith}
use Rattle.std.specs.Int.{w8, w16, w32, to_be_bytes, cast_unsigned}
use Rattle.std.specs.List.{AllByRecursion, AllZip, flat_map}
use Rattle.std.specs.Option.{option_map, option_and_then}
use Rattle.std.proofs.Math.Facts.{Fits-of_z, Fits-lt-pow}
use Rattle.std.proofs.lemmas.Bool.{and_parts, eqb-true, leb-true, ltb-true}
use Rattle.std.proofs.lemmas.Int.{ints}
use Rattle.std.proofs.lemmas.Slice.Zip.{AllZip-long}
use Rattle.pv_format.specs.Reading.{read_each}
use Rattle.pv_insn.specs.declared.form.Form.{Form}
use Rattle.pv_insn.specs.declared.form.Form.TheVariants as form
use Rattle.pv_insn.specs.declared.insn.Case.{Case}
use Rattle.pv_insn.specs.declared.insn.Insn.{Insn}
use Rattle.pv_insn.specs.declared.insn.Insn.TheVariants as insn
use Rattle.pv_insn.specs.Codes.{Ascends, IsOrdered, Leads, LeadsCase, Resolves}
use Rattle.pv_insn.specs.Forms.{form_of}
use Rattle.pv_insn.specs.Pieces as pieces
use Rattle.pv_insn.specs.Pieces.{instruction, signed, case_numbers, IsUnsigned, IsSigned, IsAligned, IsTable, IsLookup, AfterOpcode, Spells}
use Rattle.pv_pool.specs.Readers.{◌>>=◌}
use Rattle.pv_listing.specs.declared.line.Operands.{Operands}
use Rattle.pv_listing.specs.declared.line.Operands.TheVariants as operands
use Rattle.pv_listing.specs.declared.mnemonic.Kind.{Kind}
use Rattle.pv_listing.specs.declared.mnemonic.Kind.TheVariants as kind
use Rattle.pv_listing.specs.Mnemonics.{has_name, kind_of, name_in, names}
use Rattle.pv_listing.specs.Operands.{OperandsFit, ascend, ends_as_int}
use Rattle.pv_listing.specs.WordReading.{is_label}
use Rattle.pv_asm.specs.Codes.{offset, is_byte, is_short, branch_bytes, index_bytes, number_bytes, switch_bytes, table_numbers, case_of, lookup_numbers, operand_bytes, insn_bytes}
use Rattle.pv_asm.specs.Instructions.{case_in, insn_of}
use Rattle.pv_asm.specs.Labels.{Labels, address_of, padding, size_at}
use Rattle.pv_asm.proofs.Entered.{some_is, bound}
use Rattle.pv_asm.proofs.Leading.{Raw, RawCase, RawPlaced, Becomes, Reads, case_raw, leads, all_lead, cases_lead}
use Rattle.pv_asm.proofs.Standing.{zeros_length}

-- ---- the forms of opcodes

abbrev pub form_at : ℕ → Kind → Form
form_at op kind.Nothing = form.Plain
form_at op kind.Byte = cond (eqb op 16) form.Byte form.Short
form_at op kind.Short = cond (eqb op 16) form.Byte form.Short
form_at op kind.Local = form.Local
form_at op kind.Increment = form.Increment
form_at op kind.Label = cond (eqb op 200) form.Branch4 form.Branch2
form_at op kind.Table = form.Table
form_at op kind.Lookup = form.Lookup
form_at op _ = cond (eqb op 18) form.Index1 form.Index2

-- what agrees on all rows agrees on each opcode with a name
on_named : {A : Type 0} (f g : ℕ → A) (rows : List (ℕ × List ℕ)) (op : ℕ) → map (λ (row : ℕ × List ℕ). f row.0) rows ≡ map (λ (row : ℕ × List ℕ). g row.0) rows → is_some (name_in rows op) ≡ true → f op ≡ g op
on_named f g [] op same named = absurd (cc)
on_named {A} f g (row ∷ rows) op same named = by (eqb row.0 op) refl named (on_named f g rows op (cc (same)))
  where
    by : (b : Bool) → eqb row.0 op ≡ b → is_some (cond b (Some row.1) (name_in rows op)) ≡ true → (is_some (name_in rows op) ≡ true → f op ≡ g op) → f op ≡ g op
    by true is found more = let first : f row.0 ≡ g row.0 = cc (same) in subst (λ (n : ℕ). f n ≡ g n) (eqb-true row.0 op is) first
    by false is found more = more found

form_named : (op : ℕ) → has_name op ≡ true → form_of op ≡ Some (form_at op (kind_of op))
unfolding form_of
form_named op named = on_named form_of (λ (n : ℕ). Some (form_at n (kind_of n))) names op refl named

byte_named : (op : ℕ) → has_name op ≡ true → op < 2 ^ 8
byte_named op named = ltb-true op 256 (on_named (λ (n : ℕ). ltb n 256) (λ (n : ℕ). true) names op refl named)

-- ---- numbers

one_byte : (n : ℕ) → n < 2 ^ 8 → to_be_bytes w8 n ≡ n ∷ []
one_byte n lt = ap (λ (b : ℕ). b ∷ []) (omega (arith, lt))

unsigned_byte : (n : ℕ) → leb n 255 ≡ true → IsUnsigned w8 n (n ∷ [])
unsigned_byte n few = let le : n ≤ 255 = leb-true n 255 few in let lt : n < 256 = omega arith in (lt, sym (one_byte n lt))

signed_byte : (z : ℤ) → FitsSigned w8 z → IsSigned w8 z (cast_unsigned w8 z ∷ [])
signed_byte z fits = (fits, sym (one_byte (cast_unsigned w8 z) (Fits-lt-pow (Fits-of_z fits))))

byte_fits : (z : ℤ) → is_byte z ≡ true → FitsSigned w8 z
byte_fits (pos n) is = let le : n ≤ 127 = leb-true n 127 is in let lt : n < 128 = omega arith in record { sfits = lt }
byte_fits (negsuc n) is = let le : n ≤ 127 = leb-true n 127 (and_parts (leb n 127) true is).0 in let lt : n < 128 = omega arith in record { sfits = lt }

byte_is_short : (z : ℤ) → is_byte z ≡ true → FitsSigned w16 z
byte_is_short (pos n) is = let le : n ≤ 127 = leb-true n 127 is in let lt : n < 32768 = omega arith in record { sfits = lt }
byte_is_short (negsuc n) is = let le : n ≤ 127 = leb-true n 127 (and_parts (leb n 127) true is).0 in let lt : n < 32768 = omega arith in record { sfits = lt }

short_fits : (z : ℤ) → is_short z ≡ true → FitsSigned w16 z
short_fits (pos n) is = let le : n ≤ 32767 = leb-true n 32767 is in let lt : n < 32768 = omega arith in record { sfits = lt }
short_fits (negsuc n) is = let le : n ≤ 32767 = leb-true n 32767 (and_parts (leb n 32767) true is).0 in let lt : n < 32768 = omega arith in record { sfits = lt }

-- ---- lists that are read

pub each_reads : {S A : Type 0} (f : S → Option A) (xs : List S) (ys : List A) → read_each f xs ≡ Some ys → AllZip (Reads f) xs ys
each_reads f [] ys is = subst (λ l. AllZip (Reads f) [] l) (some_is [] ys is) tt
each_reads {S} {A} f (x ∷ xs) ys is = by (f x) refl (read_each f xs) (each_reads f xs) is
  where
    by : (first : Option A) → f x ≡ first → (rest : Option (List A)) → ((zs : List A) → rest ≡ Some zs → AllZip (Reads f) xs zs) → option_and_then (λ a. option_map (λ more. a ∷ more) rest) first ≡ Some ys
        → AllZip (Reads f) (x ∷ xs) ys
    by None here rest more e = absurd (cc)
    by (Some a) here None more e = absurd (cc)
    by (Some a) here (Some zs) more e = subst (λ (l : List A). AllZip (Reads f) (x ∷ xs) l) (some_is (a ∷ zs) ys e) (here, more zs refl)

-- ---- instructions as they stand

-- an instruction, and the bytes after its opcode
record IsSpelled (labels : Labels) (at index op : ℕ) (f : Form) (o : Operands) (rest : List ℕ) : Type 0 where
  pub item : Raw
  pub operands : pieces.Operands (at + 1) op f (instruction item) rest
  pub becomes : Becomes labels at index op o item
  pub ordered : IsOrdered item

-- no address is too large for an offset
abbrev pub AreSmall : Labels → Type 0
AreSmall labels = (l : List ℕ) (a : ℕ) → address_of l labels ≡ Some a → a ≤ 65535

-- an instruction that leads nowhere, and the bytes after its opcode
record IsAlone (at op : ℕ) (f : Form) (rest : List ℕ) (i : Insn) : Type 0 where
  pub item : Raw
  pub operands : pieces.Operands at op f (instruction item) rest
  pub ordered : IsOrdered item
  pub resolves : (raws : List RawPlaced) (from : ℕ) → Resolves raws from item i

number_spelled : (at op : ℕ) (a b : Bool) (z : ℤ) (rest : List ℕ) → is_byte z ≡ b → FitsSigned w16 z → cond a (cond b (Some (cast_unsigned w8 z ∷ [])) None) (Some (signed w16 z)) ≡ Some rest
    → IsAlone at op (cond a form.Byte form.Short) rest (insn.Push op z)
number_spelled at op true true z rest small fits is =
    record { item = _; operands = record { number = z; spelled = subst (λ (l : List ℕ). IsSigned w8 z l) (some_is (cast_unsigned w8 z ∷ []) rest is) (signed_byte z (byte_fits z small)); is = refl }; ordered = tt; resolves = λ raws from. refl }
number_spelled at op true false z rest small fits is = absurd (cc)
number_spelled at op false b z rest small fits is = record { item = _; operands = record { number = z; spelled = (fits, sym (some_is (signed w16 z) rest is)); is = refl }; ordered = tt; resolves = λ raws from. refl }

index_spelled : (at op : ℕ) (a b : Bool) (i : ℕ) (rest : List ℕ) → leb i 255 ≡ b → i < 2 ^ 16 → cond a (cond b (Some (i ∷ [])) None) (Some (to_be_bytes w16 i)) ≡ Some rest
    → IsAlone at op (cond a form.Index1 form.Index2) rest (insn.Pool op i)
index_spelled at op true true i rest small fits is =
    record { item = _; operands = record { number = i; spelled = subst (λ (l : List ℕ). IsUnsigned w8 i l) (some_is (i ∷ []) rest is) (unsigned_byte i small); is = refl }; ordered = tt; resolves = λ raws from. refl }
index_spelled at op true false i rest small fits is = absurd (cc)
index_spelled at op false b i rest small fits is = record { item = _; operands = record { number = i; spelled = (fits, sym (some_is (to_be_bytes w16 i) rest is)); is = refl }; ordered = tt; resolves = λ raws from. refl }

-- a branch, and the bytes after its opcode
record IsBranch (at op : ℕ) (f : Form) (rest : List ℕ) (z : ℤ) : Type 0 where
  pub item : Raw
  pub operands : pieces.Operands at op f (instruction item) rest
  pub ordered : IsOrdered item
  pub resolves : (raws : List RawPlaced) (from k : ℕ) → Leads raws from z k → Resolves raws from item (insn.Branch op k)

branch_spelled : (at op : ℕ) (a b : Bool) (z : ℤ) (rest : List ℕ) → is_short z ≡ b → FitsSigned w32 z → cond a (Some (signed w32 z)) (cond b (Some (signed w16 z)) None) ≡ Some rest → IsBranch at op (cond a form.Branch4 form.Branch2) rest z
branch_spelled at op true b z rest small fits is =
    record { item = _; operands = record { number = z; spelled = (fits, sym (some_is (signed w32 z) rest is)); is = refl }; ordered = tt; resolves = λ raws from k l. (k, l, refl) }
branch_spelled at op false true z rest small fits is =
    record { item = _; operands = record { number = z; spelled = (short_fits z small, sym (some_is (signed w16 z) rest is)); is = refl }; ordered = tt; resolves = λ raws from k l. (k, l, refl) }
branch_spelled at op false false z rest small fits is = absurd (cc)

-- ---- switches

aligned : (at : ℕ) (numbers : List ℤ) (rest : List ℕ) → AllByRecursion (FitsSigned w32) numbers → switch_bytes at numbers ≡ rest → IsAligned (at + 1) numbers rest
aligned at numbers rest fits is =
    let long : length {A = ℕ} (replicate (3 - at % 4) 0) ≡ 3 - at % 4 = zeros_length (3 - at % 4) in
    record { padding = replicate (padding at) 0; few = omega arith; reaches = ap (λ (n : ℕ). (at + 1 + n) % 4) long ∙ omega arith; fits = fits; spelled = sym is }

-- a switch has no highest number beyond an int
high_fits : (low : ℤ) (n : ℕ) → FitsSigned w32 low → 1 ≤ n → (low +ℤ pos n) ≤ℤ pos (2 ^ 31) → FitsSigned w32 ((low +ℤ pos n) -ℤ pos 1)
high_fits low n fits some ends = omega (arith, ints)

over_low : (low : ℤ) (n : ℕ) → 1 ≤ n → low ≤ℤ ((low +ℤ pos n) -ℤ pos 1)
over_low low n some = omega (arith, ints)

one_more : (low : ℤ) (n : ℕ) → low +ℤ pos n ≡ ((low +ℤ pos n) -ℤ pos 1) +ℤ pos 1
one_more low n = omega (arith, ints)

at_most : (a b : ℤ) → int_le a b ≡ true → a ≤ℤ b
at_most a b is = omega (arith, ints)

count_fits : (n : ℕ) → n ≤ 65535 → FitsSigned w32 (pos n)
count_fits n few = let lt : n < 2147483648 = omega arith in record { sfits = lt }

some_length : (xs : List (List ℕ)) → xs ≢ [] → 1 ≤ length xs
some_length [] some = absurd (some refl)
some_length (x ∷ xs) some = omega arith

abbrev flat : List (ℤ × ℤ) → List ℤ
flat cases = flat_map (λ c. c.0 ∷ c.1 ∷ []) cases

same_numbers : (cases : List (ℤ × ℤ)) → flat_map case_numbers (map case_raw cases) ≡ flat cases
same_numbers [] = refl
same_numbers (c ∷ cases) = ap (λ (rest : List ℤ). c.0 ∷ c.1 ∷ rest) (same_numbers cases)

count_cases : (cases : List (ℤ × ℤ)) → length (map case_raw cases) ≡ length cases
count_cases [] = refl
count_cases (c ∷ cases) = ap suc (count_cases cases)

less : (a b : ℤ) → int_lt a b ≡ true → a <ℤ b
less a b is = grind (arith, ints)

-- a tableswitch
record IsTableOf (at : ℕ) (z low : ℤ) (zs : List ℤ) (rest : List ℕ) : Type 0 where
  pub item : Raw
  pub table : IsTable at (instruction item) rest
  pub ordered : IsOrdered item
  pub resolves : (raws : List RawPlaced) (from k : ℕ) (ks : List ℕ) → Leads raws from z k → AllZip (Leads raws from) zs ks → Resolves raws from item (insn.Table k low ks)

table_spelled : (at : ℕ) (z low : ℤ) (zs : List ℤ) (rest : List ℕ) → 1 ≤ length zs → IsAligned at (table_numbers z low zs) rest → IsTableOf at z low zs rest
table_spelled at z low zs rest one stands =
    record {
      item = _;
      table = record { default = z; low = low; high = (low +ℤ pos (length zs)) -ℤ pos 1; offsets = zs; stands = stands; ordered = over_low low (length zs) one; counted = one_more low (length zs); is = refl };
      ordered = tt;
      resolves = λ raws from k ks first others. record { otherwise = k; targets = ks; first = first; others = others; is = refl };
    }

-- a lookupswitch
record IsLookupOf (at : ℕ) (z : ℤ) (cases : List RawCase) (rest : List ℕ) : Type 0 where
  pub item : Raw
  pub lookup : IsLookup at (instruction item) rest
  pub ordered : Ascends cases → IsOrdered item
  pub resolves : (raws : List RawPlaced) (from k : ℕ) (ds : List Case) → Leads raws from z k → AllZip (LeadsCase raws from) cases ds → Resolves raws from item (insn.Lookup k ds)

lookup_spelled : (at : ℕ) (z : ℤ) (cases : List RawCase) (rest : List ℕ) → IsAligned at (z ∷ pos (length cases) ∷ flat_map case_numbers cases) rest → IsLookupOf at z cases rest
lookup_spelled at z cases rest stands =
    record {
      item = _;
      lookup = record { default = z; cases = cases; stands = stands; is = refl };
      ordered = λ up. up;
      resolves = λ raws from k ds first others. record { otherwise = k; cases = ds; first = first; others = others; is = refl };
    }

-- ---- operands at an address

module _ (labels : Labels) (at : ℕ) (small : AreSmall labels) (near : at ≤ 65535) where
  difference_fits : (a : ℕ) → a ≤ 65535 → FitsSigned w32 (pos a -ℤ pos at)
  difference_fits a few = omega (arith, ints)

  offset_fits : (l : List ℕ) (z : ℤ) → offset labels at l ≡ Some z → FitsSigned w32 z
  offset_fits l z is =
      let b = bound (address_of l labels) (λ (address : ℕ). Some (pos address -ℤ pos at)) z is in
      subst (FitsSigned w32) (some_is (pos b.0 -ℤ pos at) z b.2) (difference_fits b.0 (small l b.0 b.1))

  offsets_fit : (ls : List (List ℕ)) (zs : List ℤ) → AllZip (Reads (offset labels at)) ls zs → AllByRecursion (FitsSigned w32) zs
  offsets_fit [] [] all = tt
  offsets_fit [] (z ∷ zs) all = absurd all
  offsets_fit (l ∷ ls) [] all = absurd all
  offsets_fit (l ∷ ls) (z ∷ zs) all = (offset_fits l z all.0, offsets_fit ls zs all.1)

  -- the key of a case, and its offset
  case_parts : (p : ℤ × List ℕ) (c : ℤ × ℤ) → case_of labels at p ≡ Some c → (p.0 ≡ c.0) × (offset labels at p.1 ≡ Some c.1)
  case_parts p c is =
      let b = bound (offset labels at p.1) (λ (z : ℤ). Some (p.0, z)) c is in
      let same : (p.0, b.0) ≡ c = some_is (p.0, b.0) c b.2 in
      (ap (λ (q : ℤ × ℤ). q.0) same, b.1 ∙ ap (λ (q : ℤ × ℤ). Some q.1) same)

  cases_fit : (ps : List (ℤ × List ℕ)) (cs : List (ℤ × ℤ)) → AllByRecursion (λ p. FitsSigned w32 p.0 × (is_label p.1 ≡ true)) ps → AllZip (Reads (case_of labels at)) ps cs → AllByRecursion (FitsSigned w32) (flat cs)
  cases_fit [] [] fits all = tt
  cases_fit [] (c ∷ cs) fits all = absurd all
  cases_fit (p ∷ ps) [] fits all = absurd all
  cases_fit (p ∷ ps) (c ∷ cs) fits all =
      let parts = case_parts p c all.0 in
      (subst (FitsSigned w32) parts.0 fits.0.0, (offset_fits p.1 c.1 parts.1, cases_fit ps cs fits.1 all.1))

  cases_ascend : (ps : List (ℤ × List ℕ)) (cs : List (ℤ × ℤ)) → ascend ps ≡ true → AllZip (Reads (case_of labels at)) ps cs → Ascends (map case_raw cs)
  cases_ascend [] [] up all = tt
  cases_ascend [] (c ∷ cs) up all = absurd all
  cases_ascend (p ∷ ps) [] up all = absurd all
  cases_ascend (p ∷ []) (c ∷ []) up all = tt
  cases_ascend (p ∷ []) (c ∷ d ∷ cs) up all = absurd all.1
  cases_ascend (p ∷ q ∷ ps) (c ∷ []) up all = absurd all.1
  cases_ascend (p ∷ q ∷ ps) (c ∷ d ∷ cs) up all =
      let both = and_parts (int_lt p.0 q.0) (ascend (q ∷ ps)) up in
      let first = (case_parts p c all.0).0 in
      let second = (case_parts q d all.1.0).0 in
      (less c.0 d.0 (ap (λ (z : ℤ). int_lt z d.0) (sym first) ∙ ap (λ (z : ℤ). int_lt p.0 z) (sym second) ∙ both.0), cases_ascend (q ∷ ps) (d ∷ cs) both.1 all.1)

  module _ (index op : ℕ) (low : index < 2 ^ 16) where
    abbrev Spelled : Form → Operands → List ℕ → Type 0
    Spelled f o rest = IsSpelled labels at index op f o rest

    index_is : (o : Operands) (rest : List ℕ) → ((place : List ℕ → Option ℕ) → insn_of place index op o ≡ Some (insn.Pool op index)) → index_bytes op index ≡ Some rest → Spelled (cond (eqb op 18) form.Index1 form.Index2) o rest
    index_is o rest made is =
        let s = index_spelled (at + 1) op (eqb op 18) (leb index 255) index rest refl low is in
        record { item = s.item; becomes = λ place raws lead has. (insn.Pool op index, made place, s.resolves raws at); operands = s.operands; ordered = s.ordered }

    number_is : (z : ℤ) (rest : List ℕ) → FitsSigned w16 z → number_bytes op z ≡ Some rest → Spelled (cond (eqb op 16) form.Byte form.Short) (operands.Number z) rest
    number_is z rest fits is =
        let s = number_spelled (at + 1) op (eqb op 16) (is_byte z) z rest refl fits is in
        record { item = s.item; becomes = λ place raws lead has. (insn.Push op z, refl, s.resolves raws at); operands = s.operands; ordered = s.ordered }

    branch_is : (l : List ℕ) (rest : List ℕ) → offset labels at l >>= branch_bytes op ≡ Some rest → Spelled (cond (eqb op 200) form.Branch4 form.Branch2) (operands.Label l) rest
    branch_is l rest is =
        let b = bound (offset labels at l) (branch_bytes op) rest is in
        let s = branch_spelled (at + 1) op (eqb op 200) (is_short b.0) b.0 rest refl (offset_fits l b.0 b.1) b.2 in
        record {
          item = s.item;
          becomes = λ place raws lead has.
              let k : ℕ = has.0.0 in
              (insn.Branch op k, ap (λ (o : Option ℕ). o >>= (λ (n : ℕ). Some (insn.Branch op n))) has.0.1, s.resolves raws at k (leads labels place raws lead at l k b.0 has.0.1 b.1));
          operands = s.operands;
          ordered = s.ordered;
        }

    table_is : (low : ℤ) (targets : List (List ℕ)) (name : List ℕ) (rest : List ℕ) → FitsSigned w32 low → targets ≢ [] → ends_as_int (low, (name, targets)) ≡ true
        → operand_bytes labels at index op (operands.Table low name targets) ≡ Some rest → Spelled form.Table (operands.Table low name targets) rest
    table_is low targets name rest fits some ends is =
        let b = bound (offset labels at name) (λ (first : ℤ). read_each (offset labels at) targets >>= (λ (offsets : List ℤ). Some (switch_bytes at (table_numbers first low offsets)))) rest is in
        let c = bound (read_each (offset labels at) targets) (λ (offsets : List ℤ). Some (switch_bytes at (table_numbers b.0 low offsets))) rest b.2 in
        let z : ℤ = b.0 in
        let zs : List ℤ = c.0 in
        let all = each_reads (offset labels at) targets zs c.1 in
        let many : length zs ≡ length targets = AllZip-long (Reads (offset labels at)) targets zs all in
        let one : 1 ≤ length zs = omega (arith, many, some_length targets some) in
        let within : (low +ℤ pos (length zs)) ≤ℤ pos (2 ^ 31) = subst (λ (n : ℕ). (low +ℤ pos n) ≤ℤ pos (2 ^ 31)) (sym many) (at_most (low +ℤ pos (length targets)) (pos (2 ^ 31)) ends) in
        let numbers_fit : AllByRecursion (FitsSigned w32) (table_numbers z low zs) = (offset_fits name z b.1, (fits, (high_fits low (length zs) fits one within, offsets_fit targets zs all))) in
        let stands = aligned at (table_numbers z low zs) rest numbers_fit (some_is (switch_bytes at (table_numbers z low zs)) rest c.2) in
        let t = table_spelled (at + 1) z low zs rest one stands in
        record {
          item = t.item;
          becomes = λ place raws lead has.
              let k : ℕ = has.0.0 in
              let ks = all_lead labels place raws lead at targets zs has.1 all in (
                insn.Table k low ks.0,
                ap (λ (o : Option ℕ). o >>= (λ (n : ℕ). read_each place targets >>= (λ (ns : List ℕ). Some (insn.Table n low ns)))) has.0.1
                    ∙ ap (λ (o : Option (List ℕ)). o >>= (λ (ns : List ℕ). Some (insn.Table k low ns))) ks.1,
                t.resolves raws at k ks.0 (leads labels place raws lead at name k z has.0.1 b.1) ks.2,
              );
          operands = inl t.table;
          ordered = t.ordered;
        }

    lookup_is : (pairs : List (ℤ × List ℕ)) (name : List ℕ) (rest : List ℕ) → AllByRecursion (λ p. FitsSigned w32 p.0 × (is_label p.1 ≡ true)) pairs → ascend pairs ≡ true → length pairs ≤ 65535
        → operand_bytes labels at index op (operands.Lookup name pairs) ≡ Some rest → Spelled form.Lookup (operands.Lookup name pairs) rest
    lookup_is pairs name rest fits up few is =
        let b = bound (offset labels at name) (λ (first : ℤ). read_each (case_of labels at) pairs >>= (λ (cases : List (ℤ × ℤ)). Some (switch_bytes at (lookup_numbers first cases)))) rest is in
        let c = bound (read_each (case_of labels at) pairs) (λ (cases : List (ℤ × ℤ)). Some (switch_bytes at (lookup_numbers b.0 cases))) rest b.2 in
        let z : ℤ = b.0 in
        let cs : List (ℤ × ℤ) = c.0 in
        let all = each_reads (case_of labels at) pairs cs c.1 in
        let many : length cs ≡ length pairs = AllZip-long (Reads (case_of labels at)) pairs cs all in
        let count : FitsSigned w32 (pos (length cs)) = count_fits (length cs) (omega (arith, many, few)) in
        let numbers_fit : AllByRecursion (FitsSigned w32) (lookup_numbers z cs) = (offset_fits name z b.1, (count, cases_fit pairs cs fits all)) in
        let stands = aligned at (lookup_numbers z cs) rest numbers_fit (some_is (switch_bytes at (lookup_numbers z cs)) rest c.2) in
        let same : lookup_numbers z cs ≡ z ∷ pos (length (map case_raw cs)) ∷ flat_map case_numbers (map case_raw cs) =
        ap (λ (n : ℕ). z ∷ pos n ∷ flat cs) (sym (count_cases cs)) ∙ ap (λ (ns : List ℤ). z ∷ pos (length (map case_raw cs)) ∷ ns) (sym (same_numbers cs))
        in
        let t = lookup_spelled (at + 1) z (map case_raw cs) rest (subst (λ (ns : List ℤ). IsAligned (at + 1) ns rest) same stands) in
        record {
          item = t.item;
          becomes = λ place raws lead has.
              let k : ℕ = has.0.0 in
              let ds = cases_lead labels place raws lead at pairs cs has.1 all in (
                insn.Lookup k ds.0,
                ap (λ (o : Option ℕ). o >>= (λ (n : ℕ). read_each (case_in place) pairs >>= (λ (more : List Case). Some (insn.Lookup n more)))) has.0.1
                    ∙ ap (λ (o : Option (List Case)). o >>= (λ (more : List Case). Some (insn.Lookup k more))) ds.1,
                t.resolves raws at k ds.0 (leads labels place raws lead at name k z has.0.1 b.1) ds.2,
              );
          operands = inl t.lookup;
          ordered = t.ordered (cases_ascend pairs cs up all);
        }

    few_pairs : (n : ℕ) → 1 + (3 - at % 4) + 4 * (2 + 2 * n) ≤ 65535 → n ≤ 65535
    few_pairs n few = omega arith

    operands_spelled : (k : Kind) (o : Operands) (rest : List ℕ) → OperandsFit k o → size_at at op o ≤ 65535 → operand_bytes labels at index op o ≡ Some rest → Spelled (form_at op k) o rest
    operands_spelled kind.Nothing operands.Nothing rest fits few is =
        record { item = _; operands = (refl, sym (some_is [] rest is)); becomes = λ place raws lead has. (insn.Plain op, refl, refl); ordered = tt }
    operands_spelled kind.Byte (operands.Number z) rest fits few is = number_is z rest (byte_is_short z fits.1) is
    operands_spelled kind.Short (operands.Number z) rest fits few is = number_is z rest (short_fits z fits.1) is
    operands_spelled kind.Local (operands.Local n) rest fits few is =
        record {
          item = _;
          operands = record { number = n; spelled = subst (λ (l : List ℕ). IsUnsigned w8 n l) (some_is (n ∷ []) rest is) (unsigned_byte n fits.1); is = refl };
          becomes = λ place raws lead has. (insn.Local op n, refl, refl);
          ordered = tt;
        }
    operands_spelled kind.Increment (operands.Increment n z) rest fits few is =
        record {
          item = _;
          operands = record { local = n; number = z; front = n ∷ []; back = cast_unsigned w8 z ∷ []; parts = sym (some_is (n ∷ cast_unsigned w8 z ∷ []) rest is); first = unsigned_byte n fits.0.1; second = signed_byte z (byte_fits z fits.1.1); is = refl };
          becomes = λ place raws lead has. (insn.Iinc n z, refl, refl);
          ordered = tt;
        }
    operands_spelled kind.Int (operands.Int z) rest fits few is = index_is (operands.Int z) rest (λ place. refl) is
    operands_spelled kind.Long (operands.Long z) rest fits few is = index_is (operands.Long z) rest (λ place. refl) is
    operands_spelled kind.Label (operands.Label l) rest fits few is = branch_is l rest is
    operands_spelled kind.Table (operands.Table from name targets) rest fits few is = table_is from targets name rest fits.0.0 fits.0.1.1.0 fits.1 is
    operands_spelled kind.Lookup (operands.Lookup name pairs) rest fits few is = lookup_is pairs name rest fits.0.1 fits.1 (few_pairs (length pairs) few) is
    operands_spelled kind.Field (operands.Member s) rest fits few is = index_is (operands.Member s) rest (λ place. refl) is
    operands_spelled kind.Method (operands.Member s) rest fits few is = index_is (operands.Member s) rest (λ place. refl) is
    operands_spelled k o rest fits few is = absurd fits

-- ---- whole instructions

pub record IsInstruction (labels : Labels) (at index op : ℕ) (o : Operands) (bytes : List ℕ) : Type 0 where
  pub item : Raw
  pub becomes : Becomes labels at index op o item
  pub spells : Spells at item bytes
  pub ordered : IsOrdered item

pub insn_spelled : (labels : Labels) (at index op : ℕ) (o : Operands) (bytes : List ℕ) → AreSmall labels → at ≤ 65535 → index < 2 ^ 16 → has_name op ≡ true → OperandsFit (kind_of op) o → size_at at op o ≤ 65535
    → insn_bytes labels at index op o ≡ Some bytes → IsInstruction labels at index op o bytes
insn_spelled labels at index op o bytes small near low named fits few is =
    let b = bound (operand_bytes labels at index op o) (λ (rest : List ℕ). Some (op ∷ rest)) bytes is in
    let rest : List ℕ = b.0 in
    let s = operands_spelled labels at small near index op low (kind_of op) o rest fits few b.1 in
    let after : AfterOpcode (at + 1) op (form_of op) (instruction s.item) rest = subst (λ (f : Option Form). AfterOpcode (at + 1) op f (instruction s.item) rest) (sym (form_named op named)) s.operands in
    record { item = s.item; becomes = s.becomes; spells = record { op = op; rest = rest; byte = byte_named op named; parts = sym (some_is (op ∷ rest) bytes b.2); operands = after }; ordered = s.ordered }
