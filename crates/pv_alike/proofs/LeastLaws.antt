-- What a least graph has, and that the copies of the nodes under two roots are one.
use Rattle.std.proofs.Common.{◌≡◌, ◌↔◌, ℕ, ◌<◌, List, [], ◌∷◌, length, slice_get, Some, sym, ap, ◌∙◌, subst, arith}
use Rattle.std.specs.List.{Contains, AllByRecursion, range_with_len}
use Rattle.std.proofs.lemmas.Option.{slice_get_within, same_Some}
use Rattle.pv_list.proofs.Cited.{contains_at}
use Rattle.pv_graph.specs.declared.node.Node.{Node}
use Rattle.pv_graph.proofs.Cited.{found}
use Rattle.pv_graph.specs.Unfold.{unfold_at}
use Rattle.pv_graph.specs.Graphs.{form_at}
use Rattle.pv_denote.proofs.Cited.{unfolds_value}
use Rattle.pv_alike.specs.Visits.{Visits}
use Rattle.pv_alike.specs.Least.{UnfoldEqually, UnfoldsAs, MeansAs, IsLeast}
use Rattle.pv_alike.specs.Renumbered.{IsCopyOf, IsRenumbered}
use Rattle.pv_alike.proofs.Places.{zip_length, apart_none, range_contains, range_below}
use Rattle.pv_alike.proofs.Orders.{visits_all, visits_apart, visits_closed}
use Rattle.pv_alike.proofs.Copies.{copy_unfolds, copies_visits}

-- ---- what a least graph has

-- what unfolds as a node has its values
pub unfolds_means : (h : List Node) (r : ℕ) (g : List Node) (a : ℕ) → UnfoldsAs h r g a → MeansAs h r g a
unfolds_means h r g a same w x i v = unfolds_value (form_at h) (form_at g) w x r a i v same

-- the roots and all kids are nodes of the least graph
pub record IsWithin (h : List Node) (r s : ℕ) : Type 0 where
  pub first : r < length h
  pub second : s < length h
  pub kids : (n : ℕ) (node : Node) → slice_get h n ≡ Some node → AllByRecursion (λ k. k < length h) node.kids

all_below : (n : ℕ) (ks : List ℕ) → AllByRecursion (Contains (range_with_len 0 n)) ks → AllByRecursion (λ k. k < n) ks
all_below n [] all = tt
all_below n (k ∷ ks) all = (range_below n k all.0, all_below n ks all.1)

pub least_within : {g : List Node} {a b : ℕ} {h : List Node} {r s : ℕ} → IsLeast g a b h r s → IsWithin h r s
least_within {h = h} {r = r} {s = s} least =
    let roots = visits_all h (range_with_len 0 (length h)) [] (r ∷ s ∷ []) least.numbered in
    record {
      first = range_below (length h) r roots.0;
      second = range_below (length h) s roots.1.0;
      kids = λ n node is. kids n node is;
    }
  where
    kids : (n : ℕ) (node : Node) → slice_get h n ≡ Some node → AllByRecursion (λ k. k < length h) node.kids
    kids n node is =
        let has = visits_closed h (range_with_len 0 (length h)) (r ∷ s ∷ []) least.numbered n (range_contains (length h) n (slice_get_within h n node is)) in
        let one : has.0 ≡ node = same_Some has.0 node (sym has.1 ∙ is) in
        subst (λ (y : Node). AllByRecursion (λ k. k < length h) y.kids) one (all_below (length h) has.0.kids has.2)

-- the roots are one exactly where the nodes unfold equally
pub least_one : {g : List Node} {a b : ℕ} {h : List Node} {r s : ℕ} → IsLeast g a b h r s → (r ≡ s) ↔ UnfoldEqually g a b
least_one {h = h} {r = r} {s = s} least =
    let within = least_within least in (
      (λ e m. sym (least.first_root m) ∙ ap (unfold_at (form_at h) m) e ∙ least.second_root m),
      (λ same. least.distinct r s within.first within.second (λ m. least.first_root m ∙ same m ∙ sym (least.second_root m))),
    )

-- ---- the copies of the nodes of a graph

-- no two nodes unfold equally
abbrev pub AreApart : List Node → Type 0
AreApart q = (m n : ℕ) → m < length q → n < length q → UnfoldEqually q m n → m ≡ n

-- copies of nodes of which no two unfold equally are so too
copies_distinct : (g : List Node) (order : List ℕ) (h : List Node) (todo : List ℕ) → AreApart g → Visits g order [] todo → IsRenumbered g order h → AreApart h
copies_distinct g order h todo apart visits copies m n lt lt' same =
    let long : length order ≡ length h = zip_length (IsCopyOf g order) order h copies in
    let a = found order m (omega arith) in
    let b = found order n (omega arith) in
    let low = visits_closed g order todo visits a.0 (contains_at order a.0 m a.1) in
    let low' = visits_closed g order todo visits b.0 (contains_at order b.0 n b.1) in
    let one : a.0 ≡ b.0 = apart a.0 b.0 (slice_get_within g a.0 low.0 low.1) (slice_get_within g b.0 low'.0 low'.1)
    (λ k. sym (copy_unfolds g order h copies m a.0 a.1 k) ∙ same k ∙ copy_unfolds g order h copies n b.0 b.1 k) in
    visits_apart g order [] todo visits apart_none m n a.0 a.1 (b.1 ∙ ap Some (sym one))

-- where q has a node for each class of nodes of g that unfold equally, the copies of the nodes under two nodes of q,
-- with the places of these, are the least graph of two nodes of g that unfold so
pub copies_least : (g : List Node) (a b : ℕ) (q : List Node) (c d : ℕ) (order : List ℕ) (h : List Node) (r s : ℕ) → AreApart q → UnfoldsAs q c g a → UnfoldsAs q d g b
    → Visits q order [] (c ∷ d ∷ []) → IsRenumbered q order h → slice_get order r ≡ Some c → slice_get order s ≡ Some d → IsLeast g a b h r s
copies_least g a b q c d order h r s apart at_c at_d visits copies at_r at_s = record {
  first_root = λ m. copy_unfolds q order h copies r c at_r m ∙ at_c m;
  second_root = λ m. copy_unfolds q order h copies s d at_s m ∙ at_d m;
  distinct = copies_distinct q order h (c ∷ d ∷ []) apart visits copies;
  numbered = copies_visits q order h copies (visits_apart q order [] (c ∷ d ∷ []) visits apart_none) [] (c ∷ d ∷ []) (r ∷ s ∷ []) visits (at_r, (at_s, tt));
}

-- the roots have the values of the nodes
pub first_means : {g : List Node} {a b : ℕ} {h : List Node} {r s : ℕ} → IsLeast g a b h r s → MeansAs h r g a
first_means {g = g} {a = a} {h = h} {r = r} least = unfolds_means h r g a least.first_root

pub second_means : {g : List Node} {a b : ℕ} {h : List Node} {r s : ℕ} → IsLeast g a b h r s → MeansAs h s g b
second_means {g = g} {b = b} {h = h} {s = s} least = unfolds_means h s g b least.second_root
