-- Offsets to labels lead to the instructions at their places.
use Rattle.std.proofs.Common.{◌≡◌, ℕ, ◌+◌, ℤ, pos, ◌+ℤ◌, ◌-ℤ◌, List, [], ◌∷◌, map, Option, Some, refl, sym, ap, ◌∙◌, arith}
use Rattle.std.specs.List.{AllByRecursion, AllZip, slice_get}
use Rattle.std.specs.Option.{option_map, option_and_then}
use Rattle.std.proofs.lemmas.Int.{ints}
use Rattle.pv_format.specs.Reading.{read_each}
use Rattle.pv_insn.specs.declared.insn.Case.{Case}
use Rattle.pv_insn.specs.declared.insn.Insn.{Insn}
use Rattle.pv_insn.specs.Codes.{Leads, LeadsCase, Resolves}
use Rattle.pv_insn.specs.Codes as codes
use Rattle.pv_insn.specs.Pieces.{instruction, case_numbers}
use Rattle.pv_pool.specs.Readers.{◌>>=◌}
use Rattle.pv_listing.specs.declared.line.Operands.{Operands}
use Rattle.pv_asm.specs.Codes.{offset, case_of}
use Rattle.pv_asm.specs.Instructions.{labels_in, HasPlace, case_in, insn_of}
use Rattle.pv_asm.specs.Labels.{Labels, address_of}
use Rattle.pv_asm.proofs.Entered.{some_is, bound}

-- ---- instructions as they stand, whose types have no names outside pv_insn

abbrev FirstOf : {A B : Type 0} → (A → B) → Type 0
FirstOf {A} f = A

abbrev SecondOf : {A B : Type 0} {C : Type 1} → (A → B → C) → Type 0
SecondOf {A} {B} f = B

abbrev pub Raw : Type 0
Raw = FirstOf instruction

abbrev pub RawCase : Type 0
RawCase = FirstOf case_numbers

abbrev pub RawPlaced : Type 0
RawPlaced = SecondOf codes.IsInstruction

abbrev pub case_raw : ℤ × ℤ → RawCase
case_raw c = record { key = c.0; offset = c.1 }

-- ---- where labels lead

-- the address of a label is that of the instruction at its place, where k instructions stand before these
pub record IsTarget (labels : Labels) (k : ℕ) (raws : List RawPlaced) (place : ℕ) (l : List ℕ) : Type 0 where
  pub index : ℕ
  pub item : RawPlaced
  pub here : place ≡ k + index
  pub stands : slice_get raws index ≡ Some item
  pub address : address_of l labels ≡ Some item.at

abbrev pub Reads : {S A : Type 0} → (S → Option A) → S → A → Type 0
Reads f x y = f x ≡ Some y

pub read_more : {S A : Type 0} (f : S → Option A) (x : S) (xs : List S) (y : A) (ys : List A) → f x ≡ Some y → read_each f xs ≡ Some ys → read_each f (x ∷ xs) ≡ Some (y ∷ ys)
read_more f x xs y ys here more = ap (option_and_then (λ a. option_map (λ others. a ∷ others) (read_each f xs))) here ∙ ap (option_map (λ others. y ∷ others)) more

reaches : (a at : ℕ) (z : ℤ) → pos a -ℤ pos at ≡ z → pos a ≡ pos at +ℤ z
reaches a at z is = omega (arith, ints)

module _ (labels : Labels) (place : List ℕ → Option ℕ) (raws : List RawPlaced) (lead : (l : List ℕ) (k : ℕ) → place l ≡ Some k → IsTarget labels 0 raws k l) (at : ℕ) where
  pub leads : (l : List ℕ) (k : ℕ) (z : ℤ) → place l ≡ Some k → offset labels at l ≡ Some z → Leads raws at z k
  leads l k z here is =
      let t = lead l k here in
      let b = bound (address_of l labels) (λ (address : ℕ). Some (pos address -ℤ pos at)) z is in
      let far : b.0 ≡ t.item.at = some_is b.0 t.item.at (sym b.1 ∙ t.address) in
      let same : k ≡ t.index = t.here ∙ omega arith in
      record { target = t.item; stands = ap (slice_get raws) same ∙ t.stands; reaches = reaches t.item.at at z (ap (λ (a : ℕ). pos a -ℤ pos at) (sym far) ∙ some_is (pos b.0 -ℤ pos at) z b.2) }

  pub all_lead : (ls : List (List ℕ)) (zs : List ℤ) → AllByRecursion (HasPlace place) ls → AllZip (Reads (offset labels at)) ls zs → (ks : List ℕ) × (read_each place ls ≡ Some ks) × AllZip (Leads raws at) zs ks
  all_lead [] [] has all = ([], refl, tt)
  all_lead [] (z ∷ zs) has all = absurd all
  all_lead (l ∷ ls) [] has all = absurd all
  all_lead (l ∷ ls) (z ∷ zs) has all =
      let more = all_lead ls zs has.1 all.1 in
      let k : ℕ = has.0.0 in
      (k ∷ more.0, read_more place l ls k more.0 has.0.1 more.1, (leads l k z has.0.1 all.0, more.2))

  case_leads : (p : ℤ × List ℕ) (c : ℤ × ℤ) → HasPlace place p.1 → case_of labels at p ≡ Some c → (d : Case) × (case_in place p ≡ Some d) × LeadsCase raws at (case_raw c) d
  case_leads p c (k, here) is =
      let b = bound (offset labels at p.1) (λ (z : ℤ). Some (p.0, z)) c is in
      let same : (p.0, b.0) ≡ c = some_is (p.0, b.0) c b.2 in
      let z_is : b.0 ≡ c.1 = ap (λ (q : ℤ × ℤ). q.1) same in
      let d : Case = record { key = p.0; target = k } in
      (d, ap (λ (o : Option ℕ). o >>= (λ (n : ℕ). Some (record { key = p.0; target = n }))) here, (ap (λ (q : ℤ × ℤ). q.0) same, leads p.1 k c.1 here (b.1 ∙ ap (λ (z : ℤ). Some z) z_is)))

  pub cases_lead : (ps : List (ℤ × List ℕ)) (cs : List (ℤ × ℤ)) → AllByRecursion (HasPlace place) (map (λ (p : ℤ × List ℕ). p.1) ps) → AllZip (Reads (case_of labels at)) ps cs
      → (ds : List Case) × (read_each (case_in place) ps ≡ Some ds) × AllZip (LeadsCase raws at) (map case_raw cs) ds
  cases_lead [] [] has all = ([], refl, tt)
  cases_lead [] (c ∷ cs) has all = absurd all
  cases_lead (p ∷ ps) [] has all = absurd all
  cases_lead (p ∷ ps) (c ∷ cs) has all =
      let more = cases_lead ps cs has.1 all.1 in
      let here = case_leads p c has.0 all.0 in
      (here.0 ∷ more.0, read_more (case_in place) p ps here.0 more.0 here.1 more.1, (here.2, more.2))

-- with the places of labels for its offsets, an instruction as it stands is that of its line
abbrev pub Becomes : Labels → ℕ → ℕ → ℕ → Operands → Raw → Type 0
Becomes labels at index op o r =
    (place : List ℕ → Option ℕ) (raws : List RawPlaced) → ((l : List ℕ) (k : ℕ) → place l ≡ Some k → IsTarget labels 0 raws k l) → AllByRecursion (HasPlace place) (labels_in o)
    → (i : Insn) × (insn_of place index op o ≡ Some i) × Resolves raws at r i
