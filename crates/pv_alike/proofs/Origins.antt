-- Each node of a least graph unfolds as a node of the graph.
use Rattle.std.specs.Prelude.{◌≡◌, ℕ, ◌<◌, List, [], ◌∷◌, ◌++◌, length, Option, Some, None, slice_get, refl}
use Rattle.std.specs.List.{Contains, AllByRecursion, range_with_len}
use Rattle.std.proofs.Common.{ap, subst, inl, inr, arith}
use Rattle.std.proofs.lemmas.List.Elements.{Contains-push_cases}
use Rattle.std.proofs.lemmas.Option.{slice_get_within}
use Rattle.pv_value.specs.Spelled.{bind}
use Rattle.pv_graph.specs.declared.node.Node.{Node}
use Rattle.pv_graph.specs.Unfold.{tree_at, unfold_at}
use Rattle.pv_graph.specs.Graphs.{form_of, form_at}
use Rattle.pv_graph.proofs.Cited.{unfold_of}
use Rattle.pv_alike.specs.Visits.{Visits, done, again, new}
use Rattle.pv_alike.specs.Least.{UnfoldsAs, IsLeast}
use Rattle.pv_alike.proofs.Places.{range_contains}
use Rattle.pv_alike.proofs.LeastOnce.{AllUnfold, parts}

-- a node of g unfolds as this one
abbrev pub HasOrigin : List Node → List Node → ℕ → Type 0
HasOrigin h g p = (n : ℕ) × (n < length g) × UnfoldsAs h p g n

-- what unfolds as a node is a node
pub there : (h g : List Node) (p n : ℕ) (x : Node) → slice_get h p ≡ Some x → UnfoldsAs h p g n → (y : Node) × (slice_get g n ≡ Some y)
unfolding unfold_at
there h g p n x at same = by (slice_get g n) refl
  where
    by : (o : Option Node) → slice_get g n ≡ o → (y : Node) × (slice_get g n ≡ Some y)
    by (Some y) e = (y, e)
    by None e =
        let left = unfold_of h p 0 x at in
        let right = ap (λ (o : Option Node). tree_at (bind o (λ y. Some (form_of y))) (unfold_at (form_at g) 0)) e in
        let one = same 1 in
        absurd (cc)

all_origins : (h g : List Node) (ps ns : List ℕ) → AllUnfold h g ps ns → AllByRecursion (λ p. (n : ℕ) × UnfoldsAs h p g n) ps
all_origins h g [] ns all = tt
all_origins h g (p ∷ ps) [] all = absurd all
all_origins h g (p ∷ ps) (n ∷ ns) all = ((n, all.0), all_origins h g ps ns all.1)

both_parts : (P : ℕ → Type 0) (xs ys : List ℕ) → AllByRecursion P xs → AllByRecursion P ys → AllByRecursion P (xs ++ ys)
both_parts P [] ys all rest = rest
both_parts P (x ∷ xs) ys all rest = (all.0, both_parts P xs ys all.1 rest)

-- where the nodes to be visited have origins, all that are visited have
visits_origins : (h g : List Node) (order seen todo : List ℕ) → Visits h order seen todo → ((p : ℕ) → Contains seen p → HasOrigin h g p) → AllByRecursion (λ p. (n : ℕ) × UnfoldsAs h p g n) todo → (p : ℕ) → Contains order p → HasOrigin h g p
visits_origins h g order seen [] (done s e) have next = subst (λ (xs : List ℕ). (p : ℕ) → Contains xs p → HasOrigin h g p) e have
visits_origins h g order seen (m ∷ ms) (again s m' ms' old more) have next = visits_origins h g order seen ms more have next.1
visits_origins h g order seen (m ∷ ms) (new s m' ms' x absent at more) have next =
    let n = next.0.0 in
    let y = there h g m n x at next.0.1 in
    let kids = all_origins h g x.kids y.0.kids (parts h g m n x y.0 at y.1 next.0.1).1 in
    let here : HasOrigin h g m = (n, slice_get_within g n y.0 y.1, next.0.1) in
    visits_origins h g order (seen ++ m ∷ []) (x.kids ++ ms) more
    (λ p old. elim (Contains-push_cases seen m p old) [ inl front ↦ have p front | inr last ↦ subst (HasOrigin h g) last here ])
    (both_parts (λ p. (k : ℕ) × UnfoldsAs h p g k) x.kids ms kids next.1)

-- of any graph with nodes that unfold as the roots
pub origins : {g : List Node} {a b : ℕ} {h : List Node} {r s : ℕ} → IsLeast g a b h r s → (k : List Node) (c d : ℕ) → UnfoldsAs h r k c → UnfoldsAs h s k d → (p : ℕ) → p < length h → HasOrigin h k p
origins {h = h} {r = r} {s = s} least k c d same same' p lt =
    visits_origins h k (range_with_len 0 (length h)) [] (r ∷ s ∷ []) least.numbered (λ q none. absurd (omega (arith, none.1))) ((c, same), ((d, same'), tt)) p (range_contains (length h) p lt)

-- each node of the least graph unfolds as a node of the graph
pub least_origins : {g : List Node} {a b : ℕ} {h : List Node} {r s : ℕ} → IsLeast g a b h r s → (p : ℕ) → p < length h → HasOrigin h g p
least_origins {g = g} {a = a} {b = b} least = origins least g a b least.first_root least.second_root
