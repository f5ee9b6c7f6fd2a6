-- Nodes under the numbers of their places: they unfold as before, and are visited in the order of their numbers.
use Rattle.std.proofs.Common.{◌≡◌, ℕ, zero, suc, ◌<◌, List, [], ◌∷◌, ◌++◌, length, slice_get, Some, refl, sym, ap, ◌∙◌, subst, arith, length-append}
use Rattle.std.specs.List.{range_with_len}
use Rattle.std.proofs.lemmas.Option.{slice_get_within, same_Some}
use Rattle.pv_list.proofs.Cited.{place_of, partner}
use Rattle.pv_graph.specs.declared.node.Op.{Op}
use Rattle.pv_graph.specs.declared.node.Node.{Node}
use Rattle.pv_graph.specs.Unfold.{Tree, over, trees_of, unfold_at}
use Rattle.pv_graph.specs.Graphs.{form_at}
use Rattle.pv_graph.proofs.Cited.{unfold_of}
use Rattle.pv_alike.specs.Visits.{Visits, done, again, new}
use Rattle.pv_alike.specs.Least.{UnfoldsAs}
use Rattle.pv_alike.specs.Renumbered.{ArePlaces, IsCopyOf, IsRenumbered}
use Rattle.pv_alike.proofs.Places.{zip_length, zip_append, Apart, range_contains, range_below, range_more}
use Rattle.pv_alike.proofs.Orders.{front_at, next_at}

-- a place of the order, with the node that stands there, and its copy
copy_at : (g : List Node) (order : List ℕ) (h : List Node) (p n : ℕ) → IsRenumbered g order h → slice_get order p ≡ Some n → (copy : Node) × (slice_get h p ≡ Some copy) × IsCopyOf g order n copy
copy_at g order h p n copies at = partner (IsCopyOf g order) order h p n copies at

kids_unfold : (order places nodes : List ℕ) (tree tree' : ℕ → Tree) → ((p n : ℕ) → slice_get order p ≡ Some n → tree p ≡ tree' n) → ArePlaces order places nodes → trees_of places tree ≡ trees_of nodes tree'
kids_unfold order [] [] tree tree' each are = refl
kids_unfold order [] (n ∷ ns) tree tree' each are = absurd are
kids_unfold order (p ∷ ps) [] tree tree' each are = absurd are
kids_unfold order (p ∷ ps) (n ∷ ns) tree tree' each are = rw (each p n are.0, kids_unfold order ps ns tree tree' each are.1) refl

-- a copy unfolds as its node
pub copy_unfolds : (g : List Node) (order : List ℕ) (h : List Node) → IsRenumbered g order h → (p n : ℕ) → slice_get order p ≡ Some n → UnfoldsAs h p g n
unfolding unfold_at
copy_unfolds g order h copies p n at zero = refl
copy_unfolds g order h copies p n at (suc m) =
    let found = copy_at g order h p n copies at in
    let copy = found.0 in
    let node = found.2.0 in
    let is = found.2.2 in
    let kids : trees_of copy.kids (unfold_at (form_at h) m) ≡ trees_of node.kids (unfold_at (form_at g) m) =
    kids_unfold order copy.kids node.kids (unfold_at (form_at h) m) (unfold_at (form_at g) m) (λ q k there. copy_unfolds g order h copies q k there m) is.kids in
    unfold_of h p m copy found.1
    ∙ ap (λ (o : Op). over o (trees_of copy.kids (unfold_at (form_at h) m))) is.op
    ∙ ap (over node.op) kids
    ∙ sym (unfold_of g n m node found.2.1)

-- the copies are visited in the order of their numbers
pub copies_visits : (g : List Node) (order : List ℕ) (h : List Node) → IsRenumbered g order h → Apart order → (seen todo places : List ℕ) → Visits g order seen todo → ArePlaces order places todo → Visits h (range_with_len 0 (length h)) (range_with_len 0 (length seen)) places
copies_visits g order h copies apart seen [] [] (done s e) are =
    done (range_with_len 0 (length seen)) (ap (range_with_len 0) (ap length e ∙ zip_length (IsCopyOf g order) order h copies))
copies_visits g order h copies apart seen [] (p ∷ ps) visits are = absurd are
copies_visits g order h copies apart seen (n ∷ ns) [] visits are = absurd are
copies_visits g order h copies apart seen (n ∷ ns) (p ∷ ps) (again s m ms there more) are =
    let at = place_of seen n there in
    let same : at.0 ≡ p = apart at.0 p n (front_at g order seen ns more at.0 n at.1) are.0 in
    let low : p < length seen = omega (arith, slice_get_within seen at.0 n at.1) in
    again (range_with_len 0 (length seen)) p ps (range_contains (length seen) p low) (copies_visits g order h copies apart seen ns ps more are.1)
copies_visits g order h copies apart seen (n ∷ ns) (p ∷ ps) (new s m ms node absent is more) are =
    let found = copy_at g order h p n copies are.0 in
    let copy = found.0 in
    let one : found.2.0 ≡ node = same_Some found.2.0 node (sym found.2.1 ∙ is) in
    let kids : ArePlaces order copy.kids node.kids = subst (λ (y : Node). ArePlaces order copy.kids y.kids) one found.2.2.kids in
    let last : p ≡ length seen = apart p (length seen) n are.0 (next_at g order seen (node.kids ++ ns) n more) in
    let longer : length (seen ++ n ∷ []) ≡ suc (length seen) = omega (arith, length-append seen (n ∷ [])) in
    let numbers : range_with_len 0 (length (seen ++ n ∷ [])) ≡ range_with_len 0 (length seen) ++ p ∷ [] =
    ap (range_with_len 0) longer ∙ range_more (length seen) ∙ ap (λ k. range_with_len 0 (length seen) ++ k ∷ []) (sym last) in
    new (range_with_len 0 (length seen)) p ps copy
    (λ old. let lt : p < length seen = range_below (length seen) p old in absurd (omega arith))
    found.1
    (subst (λ (so_far : List ℕ). Visits h (range_with_len 0 (length h)) so_far (copy.kids ++ ps)) numbers
    (copies_visits g order h copies apart (seen ++ n ∷ []) (node.kids ++ ns) (copy.kids ++ ps) more
    (zip_append (λ q k. slice_get order q ≡ Some k) copy.kids node.kids ps ns kids are.1)))
