-- The least congruence: what is joined holds it, and it is in what is closed.
use Rattle.std.proofs.Common.{ℕ, List, []}
use Rattle.pv_heights.specs.Systems.{System, Joined, Relation, Subset}
use Rattle.pv_heights.specs.Closing.{Closest, IsClosedUnder, Grows, begin}
use Rattle.pv_heights.proofs.Zips.{zip_of}

module _ (S : System) (C : Subset S) (O : List ℕ) (K : Relation S) where
  pub closest-joined : (a b : S.Thing) → Closest S C O K a b → Joined S C O K [] a b
  closest-joined a b (Closest.given _ _ h) = Joined.given [] a b h
  closest-joined a b (Closest.same _ h) = Joined.same [] a h
  closest-joined a b (Closest.flip _ _ h) = Joined.flip [] a b (closest-joined b a h)
  closest-joined a b (Closest.chain _ c _ h k) = Joined.chain [] a c b (closest-joined a c h) (closest-joined c b k)
  closest-joined a b (Closest.kids _ _ o ks ls p q h k m n r) = Joined.kids [] a b o ks ls p q h k m n (λ j u v e f. closest-joined u v (r j u v e f))

  pub closest-in : (F : Relation S) → IsClosedUnder S C O K F → (a b : S.Thing) → Closest S C O K a b → F a b
  closest-in F c a b (Closest.given _ _ h) = c.given a b h
  closest-in F c a b (Closest.same _ h) = c.same a h
  closest-in F c a b (Closest.flip _ _ h) = c.flip a b (closest-in F c b a h)
  closest-in F c a b (Closest.chain _ m _ h k) = c.chain a m b (closest-in F c a m h) (closest-in F c m b k)
  closest-in F c a b (Closest.kids _ _ o ks ls p q h k m n r) = c.kids a b o ks ls p q h k m (zip_of F ks ls n (λ j u v e f. closest-in F c u v (r j u v e f)))

  pub closest-begin : (F : Relation S) → ((a b : S.Thing) → F a b → Closest S C O K a b) → Grows S C O K F
  closest-begin F p = begin O K F (λ a b h. closest-joined a b (p a b h))
