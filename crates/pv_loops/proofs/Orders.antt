-- A shape that is reduced to one group is in order.
use Rattle.std.proofs.Common.{◌≡◌, ◌≢◌, ℕ, ◌<◌, List, [], ◌∷◌, length, get_or, refl, sym, ◌∙◌, subst, arith, ⊎_elim}
use Rattle.pv_loops.proofs.Words.{cases_eq, Groups, Reduction, IsReversed, IsShape, IsReducible, leader_of, place_of, group_of, Leads, AreGroups, Reduced, AreRest, IsOrder}
use Rattle.pv_loops.proofs.Grouping.{source_within, one_reducible}

-- sources are a shape too
pub reversed_shape : (s sources : List (List ℕ)) → IsShape s → IsReversed s sources → IsShape sources
reversed_shape s sources S rev = record {
  entry = (let e = S.entry in omega (arith, e, rev.size));
  within = λ b a e. let lt = source_within s a b ((rev.edges a b).0 e) in omega (arith, lt, rev.size);
}

one_leader : (g : Groups) → AreGroups g → AreRest g [] → (x : ℕ) → x < length g.leader.items → leader_of g x ≡ 0
one_leader g A R x h = ⊎_elim
    (λ (e : leader_of g x ≡ 0). e)
    (λ (ne : leader_of g x ≢ 0). let k = R.all (leader_of g x) (A.led x h) ne in let lt = k.1 in absurd (omega (arith, lt)))
    (cases_eq (leader_of g x) 0)

pub one_reduces : (s : List (List ℕ)) (r : Reduction) → AreGroups r.groups → AreRest r.groups [] → Reduced s r → IsReducible s
one_reduces s r A R red = one_reducible s r.steps.items (red.applies, λ a node. let G = red.tracks.grouped in sym (G.own a node) ∙ one_leader r.groups A R a (let w = G.within a node in omega (arith, w, red.size)))

pub one_ordered : (s sources : List (List ℕ)) (r : Reduction) → IsShape sources → IsReversed s sources → AreGroups r.groups → AreRest r.groups [] → Reduced s r → IsOrder sources (group_of r.groups 0) r.groups.place.items
one_ordered s sources r S rev A R red = record {
  places = A.places ∙ size;
  first = A.first 0 leads;
  place_in = λ x h. subst (λ v. place_of r.groups x < length (group_of r.groups v)) (leader x h) (A.at x (omega (arith, h, size)));
  listed = λ x h. subst (λ v. get_or (group_of r.groups v) (place_of r.groups x) 0 ≡ x) (leader x h) (A.listed x (omega (arith, h, size)));
  node_in = λ k h. let q = A.node 0 k leads h in omega (arith, q, size);
  placed = λ k h. A.place 0 k leads h;
  fed = λ y h nz. let f = red.ordered.fed y (omega (arith, h, rev.size)) (λ e. nz (sym e ∙ leader y h)) in (f.0, (rev.edges f.0 y).1 f.1, f.3);
  spans = λ w z y x ewz eyx. red.ordered.spans w z y x ((rev.edges w z).0 ewz) ((rev.edges y x).0 eyx)
      (leader w (S.within z w ewz) ∙ sym (leader z (source_within sources z w ewz))) (leader x (source_within sources x y eyx) ∙ sym (leader z (source_within sources z w ewz)));
}
  where
    size : length r.groups.leader.items ≡ length sources
    size = red.size ∙ sym rev.size

    leader : (x : ℕ) → x < length sources → leader_of r.groups x ≡ 0
    leader x h = one_leader r.groups A R x (omega (arith, h, size))

    leads : Leads r.groups 0
    leads = (let e = S.entry in omega (arith, e, size), red.entry)

pub none_left : (l : List ℕ) → length l ≡ 0 → l ≡ []
none_left [] e = refl
none_left (x ∷ xs) e = absurd (omega arith)
