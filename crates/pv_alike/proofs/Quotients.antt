-- A node for each number.
use Rattle.std.specs.Prelude.{◌≡◌, ◌≢◌, ◌⊎◌, ℕ, ◌+◌, ◌<◌, List, [], ◌∷◌, length, map, Option, Some, slice_get, slice_set, refl}
use Rattle.std.specs.List.{AllZip, AllByRecursion}
use Rattle.std.proofs.lemmas.List.Elements.{All-from_recursion}
use Rattle.std.proofs.Common.{inl, inr, sym, ap, ◌∙◌, subst, arith}
use Rattle.std.proofs.lemmas.Option.{slice_get_within, same_Some, slice_get-get_or}
use Rattle.std.proofs.lemmas.List.{get_or-set_same, get_or-set_other}
use Rattle.pv_list.proofs.Cited.{partner}
use Rattle.pv_graph.specs.declared.node.Op.{Op}
use Rattle.pv_graph.specs.declared.node.Node.{Node}
use Rattle.pv_graph.specs.Forms.{Form, form}
use Rattle.pv_graph.specs.Graphs.{Graph, form_at, IsGraph}
use Rattle.pv_graph.proofs.Cited.{Matched, node_at, form_there, kid_within, set_length, equal_or_not}
use Rattle.pv_graph.specs.Walks.{In}
use Rattle.pv_alike.proofs.Refined.{Numbered, last_bisimulates}
use Rattle.pv_alike.specs.Algorithm.{IsNumbered, IsByNumber}
use Rattle.pv_alike.specs.Keys.{number_at, over_numbers, IsOnto}
use Rattle.pv_alike.specs.Renumbered.{AreKidsWithin}
use Rattle.pv_alike.specs.Quotient.{AreOrigins, IsOver, AreOver}
use Rattle.pv_alike.proofs.Keying.{less_or_same}
use Rattle.pv_alike.proofs.Places.{zip_length}
use Rattle.pv_alike.proofs.Search.{kid_there}

-- ---- a node that has each number

-- the numbers of the nodes below i have such a node
pub record IsOriginating (g : List Node) (number : ℕ → ℕ) (count i : ℕ) (origins : List ℕ) : Type 0 where
  pub long : length origins ≡ count
  pub each : (n : ℕ) → n < i → (number_at origins (number n) < length g) × (number (number_at origins (number n)) ≡ number n)

pub originating_none : (g : List Node) (number : ℕ → ℕ) (count : ℕ) (origins : List ℕ) → length origins ≡ count → IsOriginating g number count 0 origins
originating_none g number count origins long = record { long = long; each = λ n lt. absurd (omega arith) }

pub originating_more : (g : List Node) (number : ℕ → ℕ) (count i : ℕ) (origins : List ℕ) → i < length g → number i < count → IsOriginating g number count i origins → IsOriginating g number count (i + 1) (slice_set origins (number i) i)
originating_more g number count i origins lt low is = record { long = set_length origins (number i) i ∙ is.long; each = λ n y. by n y (equal_or_not (number n) (number i)) }
  where
    by : (n : ℕ) → n < i + 1 → (number n ≡ number i) ⊎ (number n ≢ number i) → (number_at (slice_set origins (number i) i) (number n) < length g) × (number (number_at (slice_set origins (number i) i) (number n)) ≡ number n)
    by n y (inl e) =
        let here : number_at (slice_set origins (number i) i) (number n) ≡ i = ap (number_at (slice_set origins (number i) i)) e ∙ get_or-set_same origins (number i) i 0 (omega (arith, is.long)) in
        (omega (arith, here), ap number here ∙ sym e)
    by n y (inr ne) =
        let other : number_at (slice_set origins (number i) i) (number n) ≡ number_at origins (number n) = get_or-set_other origins (number i) (number n) i 0 ne in
        let old = elim (less_or_same n i y) as (λ x. (number_at origins (number n) < length g) × (number (number_at origins (number n)) ≡ number n)) [ inl before ↦ is.each n before | inr here ↦ absurd (ne (ap number here)) ] in
        (omega (arith, other, old.0), ap number other ∙ old.1)

pub originating_end : (g : List Node) (number : ℕ → ℕ) (count : ℕ) (origins : List ℕ) → IsOnto g number count → IsOriginating g number count (length g) origins → AreOrigins g number count origins
originating_end g number count origins onto is = record {
  long = is.long;
  each = λ m lt.
      let n = onto.each m lt in
      let h = is.each n.0 n.1 in
      let same : number_at origins (number n.0) ≡ number_at origins m = ap (number_at origins) n.2 in
      (omega (arith, h.0, same), ap number (sym same) ∙ h.1 ∙ n.2);
}

-- ---- the quotient

zip_map : (number : ℕ → ℕ) (R : ℕ → ℕ → Type 0) → ((k l : ℕ) → R k l → number k ≡ number l) → (ks ls : List ℕ) → AllZip R ks ls → map number ks ≡ map number ls
zip_map number R same [] [] h = refl
zip_map number R same [] (l ∷ ls) h = absurd h
zip_map number R same (k ∷ ks) [] h = absurd h
zip_map number R same (k ∷ ks) (l ∷ ls) h =
    let first : number k ≡ number l = same k l h.0 in
    let others : map number ks ≡ map number ls = zip_map number R same ks ls h.1 in
    cc (first, others)

module _ (g : Graph) (is : IsGraph g) (number : ℕ → ℕ) (numbered : IsNumbered g.nodes number) where
  abbrev view : ℕ → Option (Form ℕ)
  view = form_at g.nodes

  -- they have one number
  abbrev pub Alike : ℕ → ℕ → Type 0
  Alike = Numbered view (kid_there g is) numbered.rank numbered.falls number

  -- nodes of one number have one operation, over kids of equal numbers
  same_over : (a b : ℕ) (o p : Op) (ks ls : List ℕ) → view a ≡ Some (form o ks) → view b ≡ Some (form p ls) → number a ≡ number b → (o ≡ p) × (map number ks ≡ map number ls)
  same_over a b o p ks ls e f same =
      let m = last_bisimulates view (kid_there g is) numbered.rank numbered.falls numbered.class number numbered.next numbered.pass numbered.finer numbered.last a b (same, (o, ks, e), (p, ls, f)) in
      let n = subst (λ (x : Option (Form ℕ)). Matched Alike x (view b)) e m in
      let h : (o ≡ p) × AllZip Alike ks ls = subst (λ (y : Option (Form ℕ)). Matched Alike (Some (form o ks)) y) f n in
      (h.0, zip_map number Alike (λ k l z. z.0) ks ls h.1)

  module _ (count : ℕ) (onto : IsOnto g.nodes number count) (origins : List ℕ) (are : AreOrigins g.nodes number count origins) (q : List Node) (over : AreOver g.nodes number origins q) where
    -- the node of a number
    node_of_number : (m : ℕ) → m < count → (x : Node) × (slice_get g.nodes (number_at origins m) ≡ Some x) × (slice_get q m ≡ Some (over_numbers number x))
    node_of_number m lt =
        let at : slice_get origins m ≡ Some (number_at origins m) = slice_get-get_or origins m 0 (omega (arith, are.long)) in
        let p = partner (IsOver g.nodes number) origins q m (number_at origins m) over at in
        (p.2.0, p.2.1, p.1 ∙ ap Some p.2.2)

    forms : (n : ℕ) (o : Op) (ks : List ℕ) → view n ≡ Some (form o ks) → form_at q (number n) ≡ Some (form o (map number ks))
    forms n o ks e =
        let node = node_at g.nodes n o ks e in
        let lt = onto.low n (slice_get_within g.nodes n node.0 node.1) in
        let x = node_of_number (number n) lt in
        let h = same_over (number_at origins (number n)) n x.0.op o x.0.kids ks (form_there g.nodes (number_at origins (number n)) x.0 x.1) e (are.each (number n) lt).1 in
        form_there q (number n) (over_numbers number x.0) x.2 ∙ ap (λ (p : Op). Some (form p (map number x.0.kids))) h.0 ∙ ap (λ (zs : List ℕ). Some (form o zs)) h.1

    pub by_number : IsByNumber g.nodes number q
    by_number = record {
      forms = forms;
      onto = λ m lt. let low : m < count = omega (arith, zip_length (IsOver g.nodes number) origins q over, are.long) in let h = are.each m low in (number_at origins m, h.0, h.1);
    }

    pub by_number_long : length q ≡ count
    by_number_long = sym (zip_length (IsOver g.nodes number) origins q over) ∙ are.long

    all_numbers : (ks : List ℕ) → ((k : ℕ) → In ks k → k < length g.nodes) → AllByRecursion (λ k. k < length q) (map number ks)
    all_numbers [] low = tt
    all_numbers (k ∷ ks) low = ((let z = onto.low k (low k (inl refl)) in omega (arith, by_number_long)), all_numbers ks (λ j m. low j (inr m)))

    pub kids_within : AreKidsWithin q
    kids_within m x at =
        let lt : m < count = omega (arith, slice_get_within q m x at, by_number_long) in
        let node = node_of_number m lt in
        let same : x ≡ over_numbers number node.0 = same_Some x (over_numbers number node.0) (sym at ∙ node.2) in
        let all : AllByRecursion (λ k. k < length q) (over_numbers number node.0).kids = all_numbers node.0.kids (λ k y. kid_within g is (number_at origins m) k node.0 node.1 y) in
        All-from_recursion (λ k. k < length q) x.kids (subst (λ (y : Node). AllByRecursion (λ k. k < length q) y.kids) (sym same) all)
