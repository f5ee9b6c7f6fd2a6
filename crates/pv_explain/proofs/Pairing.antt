-- Reasons for pairs of nodes, one after the other.
use Rattle.std.specs.Prelude.{◌≡◌, ℕ, zero, suc, ◌+◌, ◌<◌, List, [], ◌∷◌, ◌++◌, length, take, Option}
use Rattle.std.specs.List.{AllByRecursion}
use denote.Bor.{Bor}
use Rattle.std.proofs.Common.{sym, ap, ◌∙◌, subst, arith}
use Rattle.std.proofs.Math.ListN.{get_or}
use Rattle.std.proofs.Math.Seq.{take-suc}
use Rattle.pv_graph.specs.Graphs.{IsGraph}
use Rattle.pv_steps.specs.declared.step.Reason.{Reason}
use Rattle.pv_steps.specs.Right.{Gives}
use Rattle.pv_writer.specs.Written.{Written, inside, GoesOn}
use Rattle.pv_explain.specs.declared.source.Search.{Search}
use Rattle.pv_explain.specs.declared.level.Level.{Level}
use Rattle.pv_explain.specs.Lines.{sides}
use Rattle.pv_explain.specs.Levels.{ends_of}
use Rattle.pv_explain.specs.Pairs.{HasLinkedPairs, LinksPairs, GiveEach}
use Rattle.pv_explain.proofs.Following.{gives_goes}
use Rattle.pv_explain.proofs.Linking.{linked_by}

-- ---- pairs

pub all_at : {A : Type 0} (P : A → Type 0) (xs : List A) (i : ℕ) (d : A) → AllByRecursion P xs → i < length xs → P (get_or xs i d)
all_at P [] i d h low = absurd (omega (arith, low))
all_at P (x ∷ xs) zero d h low = h.0
all_at P (x ∷ xs) (suc i) d h low = all_at P xs i d h.1 (omega (arith, low))

-- the lines of all joins link the pairs that the search joined
pub links_pairs : (s : Search) (map : Bor (List (Option ℕ))) (level : Level) (pairs : List (ℕ × ℕ)) → IsGraph s.graph.now → sides level.lines.items ≡ ends_of s.joins.now → HasLinkedPairs s pairs → LinksPairs (record { graph = s.graph; map = map }) level pairs
links_pairs s map level [] made ends h = tt
links_pairs s map level (p ∷ pairs) made ends h =
    let low = made.base in
    let a = h.0.first in
    let b = h.0.second in (
      record {
        first = a;
        second = b;
        linked = linked_by (length s.graph.now.nodes) level s.joins.now p.0 p.1 ends (omega (arith, low, a)) (omega (arith, low, b)) h.0.linked;
      },
      links_pairs s map level pairs made ends h.1,
    )

-- ---- their reasons

each_goes : (old new : Written) (rs : List Reason) (ps : List (ℕ × ℕ)) → GoesOn old new → GiveEach old rs ps → GiveEach new rs ps
each_goes old new [] [] goes h = tt
each_goes old new [] (p ∷ ps) goes h = absurd h
each_goes old new (r ∷ rs) [] goes h = absurd h
each_goes old new (r ∷ rs) (p ∷ ps) goes h = (gives_goes old new r p.0 p.1 goes h.0, each_goes old new rs ps goes h.1)

each_more : (w : Written) (rs : List Reason) (ps : List (ℕ × ℕ)) (r : Reason) (p : ℕ × ℕ) → GiveEach w rs ps → Gives w.before (inside w) [] r p.0 p.1 → GiveEach w (rs ++ r ∷ []) (ps ++ p ∷ [])
each_more w [] [] r p h g = (g, tt)
each_more w [] (q ∷ ps) r p h g = absurd h
each_more w (s ∷ rs) [] r p h g = absurd h
each_more w (s ∷ rs) (q ∷ ps) r p h g = (h.0, each_more w rs ps r p h.1 g)

take_next : (pairs : List (ℕ × ℕ)) (i : ℕ) → i < length pairs → take i pairs ++ get_or pairs i (0, 0) ∷ [] ≡ take (i + 1) pairs
take_next pairs i low = sym (take-suc pairs i (0, 0) low) ∙ ap (λ (n : ℕ). take n pairs) (one_more i)
  where
    one_more : (n : ℕ) → suc n ≡ n + 1
    one_more n = omega arith

-- one pair more
pub each_next : (old new : Written) (rs more : List Reason) (pairs : List (ℕ × ℕ)) (i : ℕ) (r : Reason) → i < length pairs → GoesOn old new → more ≡ rs ++ r ∷ [] → GiveEach old rs (take i pairs)
    → Gives new.before (inside new) [] r (get_or pairs i (0, 0)).0 (get_or pairs i (0, 0)).1 → GiveEach new more (take (i + 1) pairs)
each_next old new rs more pairs i r low goes e h g =
    subst (λ (xs : List Reason). GiveEach new xs (take (i + 1) pairs)) (sym e)
    (subst (λ (ps : List (ℕ × ℕ)). GiveEach new (rs ++ r ∷ []) ps) (take_next pairs i low) (each_more new rs (take i pairs) r (get_or pairs i (0, 0)) (each_goes old new rs (take i pairs) goes h) g))

-- the reason for the pair at a place
pub given_at : (w : Written) (rs : List Reason) (ps : List (ℕ × ℕ)) (i : ℕ) (r : Reason) (p : ℕ × ℕ) → GiveEach w rs ps → i < length ps → (i < length rs) × Gives w.before (inside w) [] (get_or rs i r) (get_or ps i p).0 (get_or ps i p).1
given_at w [] [] i r p h low = absurd (omega (arith, low))
given_at w [] (q ∷ ps) i r p h low = absurd h
given_at w (s ∷ rs) [] i r p h low = absurd h
given_at w (s ∷ rs) (q ∷ ps) zero r p h low = (omega arith, h.0)
given_at w (s ∷ rs) (q ∷ ps) (suc i) r p h low = let z = given_at w rs ps i r p h.1 (omega (arith, low)) in let l = z.0 in (omega (arith, l), z.1)
