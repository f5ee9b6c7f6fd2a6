-- What is known of the first nodes stays right while a graph grows.
use Rattle.std.specs.Prelude.{◌≡◌, ◌≢◌, ◌⊎◌, ◌↔◌, ℕ, zero, suc, ◌+◌, ◌-◌, ◌<◌, ◌≤◌, Bool, IsTrue, List, [], ◌∷◌, ◌++◌, take, length, Option, Some, slice_get, slice_set, Vec, refl}
use Rattle.std.specs.declared.alloc.Global.{Global}
use Rattle.std.proofs.Common.{inl, inr, sym, ap, ◌∙◌, subst, arith, get_or, length-append}
use Rattle.std.proofs.lemmas.Option.{slice_get_within, slice_get_read, same_Some}
use Rattle.pv_value.specs.Spelled.{bind}
use Rattle.pv_graph.specs.declared.node.Node.{Node}
use Rattle.pv_graph.specs.declared.known.Known.{Known}
use Rattle.pv_graph.proofs.Elements.{push_cases, get_front}
use Rattle.pv_graph.specs.Walks.{In, Free, here, below}
use Rattle.pv_graph.specs.Graphs.{Graph, form_of, form_at, IsGraph}
use Rattle.pv_graph.specs.Reach.{AreFree, AreFreeAfter}
use Rattle.pv_graph.specs.Known.{IsShut, IsAscending, AreAllFree, AreKnown, HasMark, Knows, Shortens, Cuts}
use Rattle.pv_graph.proofs.NodeLaws.{node_at, kid_within}
use Rattle.pv_graph.proofs.Tying.{set_same, set_other, set_length, equal_or_not}
use Rattle.pv_graph.proofs.Marking.{open_place, in_place}

-- ---- nodes before which none leads out

-- what is free in a node doesn't change where the nodes before p stay, and none of them has a kid from there on
module _ (old new : List Node) (p : ℕ) (shut : (n k : ℕ) (node : Node) → n < p → slice_get old n ≡ Some node → In node.kids k → k < p) (same : (n : ℕ) → n < p → slice_get new n ≡ slice_get old n) where
  same_form : (n : ℕ) → n < p → form_at new n ≡ form_at old n
  same_form n lt = ap (λ (q : Option Node). bind q (λ x. Some (form_of x))) (same n lt)

  free_there : (d n : ℕ) → Free (form_at old) d n → n < p → Free (form_at new) d n
  free_there d n (here m o ks e s) lt = here m o ks (same_form m lt ∙ e) s
  free_there d n (below m k o ks e counts h) lt =
      let node = node_at old m o ks e in
      let r = open_place d o ks k counts in
      let low : k < p = shut m k node.0 lt node.1 (in_place node.0.kids r.0 k (ap (λ (xs : List ℕ). slice_get xs r.0) node.3 ∙ r.1)) in
      below m k o ks (same_form m lt ∙ e) counts (free_there d k h low)

module _ (old new : List Node) (p : ℕ) (shut : (n k : ℕ) (node : Node) → n < p → slice_get old n ≡ Some node → In node.kids k → k < p) (same : (n : ℕ) → n < p → slice_get new n ≡ slice_get old n) where
  pub free_stays : (d n : ℕ) → n < p → Free (form_at old) d n ↔ Free (form_at new) d n
  free_stays d n lt = (
    (λ h. free_there old new p shut same d n h lt),
    (λ h. free_there new old p (λ m k node low at i. shut m k node low (sym (same m low) ∙ at) i) (λ m low. sym (same m low)) d n h lt),
  )

  -- marks of nodes before p
  pub free_marks_stay : (d : ℕ) (marks : List Bool) → AreFree old d marks → length marks ≤ p → length marks ≤ length new → AreFree new d marks
  free_marks_stay d marks is low long = record {
    low = long;
    says = λ n b at.
        let lt : n < p = (let z = slice_get_within marks n b at in omega arith) in
        let stays = free_stays d n lt in
        ((λ t. stays.0 ((is.says n b at).0 t)), (λ h. (is.says n b at).1 (stays.1 h)));
  }

-- ---- a node more

module _ (nodes : List Node) (node : Node) (all : IsShut nodes (length nodes)) where
  front : (n : ℕ) → n < length nodes → slice_get (nodes ++ node ∷ []) n ≡ slice_get nodes n
  front n lt = get_front nodes node n lt

  longer : length (nodes ++ node ∷ []) ≡ length nodes + 1
  longer = length-append nodes (node ∷ [])

  shut_more : (p : ℕ) → IsShut nodes p → IsShut (nodes ++ node ∷ []) p
  shut_more p is = record {
    low = (let z = is.low in let y = longer in omega arith);
    shut = λ n k x lt at i. is.shut n k x lt (sym (front n (let z = is.low in omega arith)) ∙ at) i;
  }

  pub known_more : (known : Known) → AreKnown nodes known → AreKnown (nodes ++ node ∷ []) known
  known_more known is = record {
    marks = λ d marks at.
        let old = is.marks d marks at in
        free_marks_stay nodes (nodes ++ node ∷ []) (length nodes) all.shut front (d + 1) marks.items old old.low (let z = old.low in let y = longer in omega arith);
    shut = λ i p at. shut_more p (is.shut i p at);
    ascending = is.ascending;
  }

-- .. that is noted
ascending_more : (xs : List ℕ) (n : ℕ) → IsAscending xs → ((i p : ℕ) → slice_get xs i ≡ Some p → p ≤ n) → IsAscending (xs ++ n ∷ [])
ascending_more xs n is low i j p q lt at_i at_j = elim (push_cases xs n q j at_j) [
  | inl y ↦ elim (push_cases xs n p i at_i) [ inl x ↦ is i j p q lt x y | inr x ↦ absurd (let z = slice_get_within xs j q y in omega (arith, x.0)) ]
  | inr y ↦ elim (push_cases xs n p i at_i) [ inl x ↦ subst (λ (m : ℕ). p ≤ m) y.1 (low i p x) | inr x ↦ absurd (omega (arith, x.0, y.0)) ]
]

pub known_same : (nodes : List Node) (old new : Known) → AreKnown nodes old → new.marks ≡ old.marks → new.shut.items ≡ old.shut.items → AreKnown nodes new
known_same nodes old new is marks_ shut_ = record {
  marks = λ d marks at. is.marks d marks (sym (ap (λ (v : Vec (Vec Bool Global) Global). slice_get v.items d) marks_) ∙ at);
  shut = λ i p at. is.shut i p (sym (ap (λ (xs : List ℕ). slice_get xs i) shut_) ∙ at);
  ascending = subst IsAscending (sym shut_) is.ascending;
}

pub known_noted : (nodes : List Node) (old new : Known) (n : ℕ) → n ≡ length nodes → IsShut nodes (length nodes) → AreKnown nodes old → new.marks ≡ old.marks → new.shut.items ≡ old.shut.items ++ n ∷ [] → AreKnown nodes new
known_noted nodes old new n number all is marks_ shut_ = record {
  marks = λ d marks at. is.marks d marks (sym (ap (λ (v : Vec (Vec Bool Global) Global). slice_get v.items d) marks_) ∙ at);
  shut = λ i p at. elim (push_cases old.shut.items n p i (sym (ap (λ (xs : List ℕ). slice_get xs i) shut_) ∙ at)) [ inl x ↦ is.shut i p x | inr x ↦ subst (λ (q : ℕ). IsShut nodes q) (sym number ∙ x.1) all ];
  ascending = subst IsAscending (sym shut_) (ascending_more old.shut.items n is.ascending (λ i p at. subst (λ (m : ℕ). p ≤ m) (sym number) (is.shut i p at).low));
}

-- ---- a theta that is tied

pub take_cases : {X : Type 0} → (most : ℕ) (xs : List X) (n : ℕ) (x : X) → slice_get (take most xs) n ≡ Some x → (n < most) × (slice_get xs n ≡ Some x)
take_cases zero xs n x e = absurd (let z = slice_get_within (take zero xs) n x e in omega arith)
take_cases (suc most) [] n x e = absurd (let z = slice_get_within (take (suc most) []) n x e in omega arith)
take_cases (suc most) (y ∷ xs) zero x e = (omega arith, e)
take_cases (suc most) (y ∷ xs) (suc n) x e = let r = take_cases most xs n x e in (omega (arith, r.0), r.1)

module _ (nodes : List Node) (n : ℕ) (node : Node) where
  abbrev after : List Node
  after = slice_set nodes n node

  before_it : (p : ℕ) → p ≤ n → (m : ℕ) → m < p → slice_get after m ≡ slice_get nodes m
  before_it p le m lt = (let ne : m ≢ n = omega arith in set_other nodes n node m ne)

  shut_tied : (p : ℕ) → p ≤ n → IsShut nodes p → IsShut after p
  shut_tied p le is = record {
    low = subst (λ (l : ℕ). p ≤ l) (sym (set_length nodes n node)) is.low;
    shut = λ m k x lt at i. is.shut m k x lt (sym (before_it p le m lt) ∙ at) i;
  }

  module _ (old new : Known) (is : AreKnown nodes old) (by : Cuts n old new) where
    marks_tied : (d : ℕ) (marks all : List Bool) → AreFree nodes d all → marks ≡ take by.most all → AreFree after d marks
    marks_tied d marks all free e = record {
      low = low marks e;
      says = λ m b at.
          let r = take_cases by.most all m b (sym (ap (λ (xs : List Bool). slice_get xs m) e) ∙ at) in
          elim by.is [
            | inl none ↦ absurd (omega (arith, r.0, none))
            | inr some ↦
                let kept = by.shut some.0 by.most some.1 in
                let stays = free_stays nodes after by.most (is.shut some.0 by.most kept.0).shut (before_it by.most kept.1) d m r.0 in
                ((λ t. stays.0 ((free.says m b r.1).0 t)), (λ h. (free.says m b r.1).1 (stays.1 h)))
          ];
    }
      where
        shorter : (k : ℕ) (xs : List Bool) → length (take k xs) ≤ length xs
        shorter zero xs = omega arith
        shorter (suc k) [] = omega arith
        shorter (suc k) (x ∷ xs) = let z = shorter k xs in omega arith

        low : (ms : List Bool) → ms ≡ take by.most all → length ms ≤ length after
        low ms same = (let z = shorter by.most all in let y = ap (λ (xs : List Bool). length xs) same in let x = free.low in let w = set_length nodes n node in omega arith)

    pub known_tied : AreKnown after new
    known_tied = record {
      marks = λ d marks at. let r = by.marks d marks at in marks_tied (d + 1) marks.items r.0.items (is.marks d r.0 r.1) r.2;
      shut = λ i p at. let r = by.shut i p at in shut_tied p r.1 (is.shut i p r.0);
      ascending = λ i j p q lt at_i at_j. is.ascending i j p q lt (by.shut i p at_i).0 (by.shut j q at_j).0;
    }

-- ---- more marks

pub all_free_set : (nodes : List Node) (all all' : List (Vec Bool Global)) (i : ℕ) (marks : Vec Bool Global) → AreAllFree nodes all → i < length all → all' ≡ slice_set all i marks → AreFree nodes (i + 1) marks.items → AreAllFree nodes all'
all_free_set nodes all all' i marks is lt marks_ free d ms at =
    let e = sym (ap (λ (xs : List (Vec Bool Global)). slice_get xs d) marks_) ∙ at in
    elim (equal_or_not d i) [
      | inl same ↦
          let one : marks ≡ ms = same_Some marks ms (sym (set_same all i marks lt) ∙ ap (slice_get (slice_set all i marks)) (sym same) ∙ e) in
          subst (λ (v : Vec Bool Global). AreFree nodes (d + 1) v.items) one (subst (λ (k : ℕ). AreFree nodes (k + 1) marks.items) (sym same) free)
      | inr ne ↦ is d ms (sym (set_other all i marks d ne) ∙ e)
    ]

-- the marks of a depth with those found after them
pub learned : (nodes : List Node) (d : ℕ) (all : List (Vec Bool Global)) (v w new : Vec Bool Global) (known found found' : List Bool) → 1 ≤ d → AreAllFree nodes all → slice_get all (d - 1) ≡ Some v → slice_get all (d - 1) ≡ Some w → known ≡ v.items → AreFreeAfter nodes known d found
    → new.items ≡ w.items ++ found' → found' ≡ found → (length new.items ≡ length nodes) × AreFree nodes d new.items
learned nodes d all v w new known marks marks' low is at at' same by longer same' =
    let one : d - 1 + 1 ≡ d = omega arith in
    let v_w : v ≡ w = same_Some v w (sym at ∙ at') in
    let before : AreFree nodes d known = subst (λ (xs : List Bool). AreFree nodes d xs) (sym same) (subst (λ (k : ℕ). AreFree nodes k v.items) one (is (d - 1) v at)) in
    let all_ : known ++ marks ≡ new.items = ap (λ (xs : List Bool). xs ++ marks) (same ∙ ap (λ (u : Vec Bool Global). u.items) v_w) ∙ ap (λ (xs : List Bool). w.items ++ xs) (sym same') ∙ sym longer in
    subst (λ (xs : List Bool). (length xs ≡ length nodes) × AreFree nodes d xs) all_ (by before)

no_marks : (nodes : List Node) (d : ℕ) → AreFree nodes d []
no_marks nodes d = record { low = omega arith; says = λ n b at. absurd (let z = slice_get_within [] n b at in omega arith) }

-- a place for marks, which has none
pub all_free_more : (nodes : List Node) (all : List (Vec Bool Global)) (none : Vec Bool Global) → none.items ≡ [] → AreAllFree nodes all → AreAllFree nodes (all ++ none ∷ [])
all_free_more nodes all none e is d ms at = elim (push_cases all none ms d at) [
  | inl x ↦ is d ms x
  | inr x ↦ subst (λ (v : Vec Bool Global). AreFree nodes (d + 1) v.items) x.1 (subst (λ (xs : List Bool). AreFree nodes (d + 1) xs) (sym e) (no_marks nodes (d + 1)))
]

pub known_none : (nodes : List Node) (known : Known) → known.marks.items ≡ [] → known.shut.items ≡ [] → AreKnown nodes known
known_none nodes known m s = record {
  marks = λ d marks at. absurd (let z = slice_get_within known.marks.items d marks at in let y = ap (λ (xs : List (Vec Bool Global)). length xs) m in omega arith);
  shut = λ i p at. absurd (let z = slice_get_within known.shut.items i p at in let y = ap (λ (xs : List ℕ). length xs) s in omega arith);
  ascending = λ i j p q lt at_i at_j. absurd (let z = slice_get_within known.shut.items i p at_i in let y = ap (λ (xs : List ℕ). length xs) s in omega arith);
}

-- ---- how it is kept

-- numbers in ascending order up to the last that isn't more than n
pub until : (numbers : List ℕ) (count q n : ℕ) → IsAscending numbers → slice_get numbers (count - 1) ≡ Some q → q ≤ n → (i p : ℕ) → i < count → slice_get numbers i ≡ Some p → p ≤ n
until numbers count q n up last le i p lt at = elim (equal_or_not i (count - 1)) [
  | inl same ↦ subst (λ (m : ℕ). m ≤ n) (same_Some q p (sym last ∙ ap (slice_get numbers) (sym same) ∙ at)) le
  | inr ne ↦ let low : i < count - 1 = omega arith in let z = up i (count - 1) p q low at last in omega arith
]

pub shortens_none : (most : ℕ) (all : List (Vec Bool Global)) → Shortens most all all 0
shortens_none most all = record { long = refl; first = λ i marks lt at. absurd (omega arith); others = λ i le. refl }

below_or_last : (n i : ℕ) → n < i + 1 → (n < i) ⊎ (n ≡ i)
below_or_last n i lt = grind arith

pub shortens_more : (most : ℕ) (old now : List (Vec Bool Global)) (d : ℕ) (v v' : Vec Bool Global) → Shortens most old now d → slice_get now d ≡ Some v → v'.items ≡ take most v.items → Shortens most old (slice_set now d v') (d + 1)
shortens_more most old now d v v' is there less = record {
  long = set_length now d v' ∙ is.long;
  first = λ i marks lt at. elim (below_or_last i d lt) [
    | inl low ↦ let ne : i ≢ d = omega arith in is.first i marks low (sym (set_other now d v' i ne) ∙ at)
    | inr last ↦
        let one : v' ≡ marks = same_Some v' marks (sym (set_same now d v' (slice_get_within now d v there)) ∙ ap (slice_get (slice_set now d v')) (sym last) ∙ at) in
        (v, ap (slice_get old) last ∙ sym (is.others d (omega arith)) ∙ there, ap (λ (w : Vec Bool Global). w.items) (sym one) ∙ less)
  ];
  others = λ i le. (let ne : i ≢ d = omega arith in set_other now d v' i ne ∙ is.others i (omega arith));
}

-- what is left before a number
pub cuts : (n : ℕ) (old new : Known) (count most : ℕ) → new.shut.items ≡ take count old.shut.items → ((i p : ℕ) → i < count → slice_get old.shut.items i ≡ Some p → p ≤ n)
    → (most ≡ 0) ⊎ ((i : ℕ) × (slice_get new.shut.items i ≡ Some most)) → (d : ℕ) → length new.marks.items ≤ d → Shortens most old.marks.items new.marks.items d → Cuts n old new
cuts n old new count most shut_ low is d all by = record {
  most = most;
  is = is;
  marks = λ i marks at. by.first i marks (let z = slice_get_within new.marks.items i marks at in omega arith) at;
  shut = λ i p at. let r = take_cases count old.shut.items i p (sym (ap (λ (xs : List ℕ). slice_get xs i) shut_) ∙ at) in (r.1, low i p r.0 r.1);
}

pub graph_shut : (g : Graph) → IsGraph g → IsShut g.nodes (length g.nodes)
graph_shut g is = record { low = omega arith; shut = λ n k node lt at i. kid_within g is n k node at i }

pub mark_says : (nodes : List Node) (known : Known) (d n : ℕ) (yes' : Bool) → AreKnown nodes known → 1 ≤ d → HasMark known d n yes' → IsTrue yes' ↔ Free (form_at nodes) d n
mark_says nodes known d n yes' is low has =
    let one : d - 1 + 1 ≡ d = omega arith in
    subst (λ (k : ℕ). IsTrue yes' ↔ Free (form_at nodes) k n) one ((is.marks (d - 1) has.0 has.1).says n yes' has.2)

-- the marks of a depth, where there are marks of all nodes
pub known_at : (nodes : List Node) (known : Known) (d n : ℕ) (marks : Vec Bool Global) → Knows nodes d known → marks ≡ get_or known.marks.items (d - 1) marks → n < length nodes → (slice_get known.marks.items (d - 1) ≡ Some marks) × (n < length marks.items)
known_at nodes known d n marks all is lt =
    let at = slice_get_read known.marks.items (length known.marks.items) (d - 1) marks refl (slice_get_within known.marks.items (d - 1) all.0 all.1) is in
    let long : length marks.items ≡ length nodes = ap (λ (v : Vec Bool Global). length v.items) (same_Some marks all.0 (sym at ∙ all.1)) ∙ all.2 in
    (at, omega (arith, long, lt))
