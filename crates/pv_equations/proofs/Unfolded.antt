-- What is free in a node is free in each node that unfolds equally, also in another graph.
use Rattle.std.proofs.Common.{ℕ, Bool, true, false, List, [], ◌∷◌, Option, inl, inr, refl, subst, ◌==◌, if◌then◌else◌}
use Rattle.pv_equations.proofs.Words.{Form, In, open_kids, Free, here, below, UnfoldsAs}
use Rattle.std.specs.List.{AllZip}
use Rattle.pv_graph.specs.Ops as ops
use Rattle.pv_graph.proofs.Cited.{Simulates, bisimulates_simulates, unfolds_bisimulates}

opened : {N M : Type 0} (T : N → M → Type 0) (d : ℕ) (s : ops.Shape) (ks : List N) (ls : List M) → AllZip T ks ls → AllZip T (open_kids d s ks) (open_kids d s ls)
opened {N} {M} T d (ops.eval e) (k ∷ ks) (l ∷ ls) h = go (e == d)
  where
    go : (t : Bool) → AllZip T (if t then ks else (k ∷ ks)) (if t then ls else (l ∷ ls))
    go true = h.1
    go false = h
opened {N} {M} T d (ops.pass e) ks ls h = go (e == d)
  where
    go : (t : Bool) → AllZip T (if t then [] else ks) (if t then [] else ls)
    go true = tt
    go false = h
opened T d (ops.eval e) [] [] h = h
opened T d (ops.eval e) [] (l ∷ ls) h = absurd h
opened T d (ops.eval e) (k ∷ ks) [] h = absurd h
opened T d s ks ls h = h

partner : {N M : Type 0} (T : N → M → Type 0) (ks : List N) (ls : List M) (k : N) → AllZip T ks ls → In ks k → (l : M) × In ls l × T k l
partner T [] ls k h i = absurd i
partner T (x ∷ ks) [] k h i = absurd h
partner T (x ∷ ks) (y ∷ ls) k h (inl e) = (y, inl refl, subst (λ (k : _). T k y) e h.0)
partner T (x ∷ ks) (y ∷ ls) k h (inr i) = let r = partner T ks ls k h.1 i in (r.0, inr r.1, r.2)

free_along : {N M : Type 0} (view : N → Option (Form N)) (other : M → Option (Form M)) (T : N → M → Type 0) → Simulates view other T → (d : ℕ) (a : N) (b : M) → T a b → Free view d a → Free other d b
free_along view other T sim d a b t (Free.here n o ks is z) = let r = sim a b t o ks is in here b o r.0 r.1 z
free_along view other T sim d a b t (Free.below n k o ks is i h) =
    let r = sim a b t o ks is in
    let p = partner T (open_kids d (ops.shape o) ks) (open_kids d (ops.shape o) r.0) k (opened T d (ops.shape o) ks r.0 r.2) i in
    below b p.0 o r.0 r.1 p.1 (free_along view other T sim d k p.0 p.2 h)

pub free_unfolded : {N M : Type 0} (view : N → Option (Form N)) (other : M → Option (Form M)) (d : ℕ) (a : N) (b : M) → UnfoldsAs view other a b → Free view d a → Free other d b
free_unfolded view other d a b u h = free_along view other (UnfoldsAs view other) (bisimulates_simulates view other (UnfoldsAs view other) (unfolds_bisimulates view other)) d a b u h
