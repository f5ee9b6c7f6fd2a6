-- From the first steps of a section to one more, and what is known after the last of a piece.
use Rattle.std.specs.Prelude.{◌≡◌, ◌↔◌, ℕ, suc, ◌<◌, Bool, false, List, [], ◌∷◌, ◌++◌, length, reverse, take, refl, Option, None, Some}
use Rattle.std.proofs.Math.ListN.{get_or}
use Rattle.std.proofs.Common.{inl, inr, sym, ap, ◌∙◌, subst, arith, take-suc, take_all}
use Rattle.std.proofs.lemmas.Option.{slice_get-get_or}
use Rattle.pv_graph.specs.Graphs.{Graph}
use Rattle.pv_graph.specs.Calls.{IsSame}
use Rattle.pv_steps.specs.declared.step.Step.TheVariants as steps
use Rattle.pv_steps.specs.declared.step.Step.{Step}
use Rattle.pv_steps.specs.Right.{AddsNode, Grows, GraphAfter, Instances, Right, RightOver}
use Rattle.pv_steps.specs.Accepted.{AllRight, IsConcluded, first_steps}
use Rattle.pv_steps.proofs.Cited.{after_same, graph_there}
use Rattle.pv_check.specs.Growth.{GrowsTo}
use Rattle.pv_check.specs.Kept.{AreKept}
use Rattle.pv_check.specs.Rules.{KeepPrepared}
use Rattle.pv_check.specs.Checking.{Claim, IsPiece, IsReplayed, IsSoFar}
use Rattle.pv_check.proofs.Carried.{prepared_as, adds_same, right_same}
use Rattle.pv_check.proofs.Fronts.{next_first}

back : (now graph : Graph) → IsSame now graph → prepared_as graph now.is_prepared ≡ now
back now graph e = ap (λ (g : Graph). prepared_as g now.is_prepared) e

over_now : (R : Instances) → KeepPrepared R → (now graph : Graph) → IsSame now graph → (before : List Step) (s : Step) → RightOver R graph before s → RightOver R now before s
over_now R keep now graph e before s h = subst (λ (g : Graph). RightOver R g before s) (back now graph e) (right_same R keep graph now.is_prepared before s h)

over_graph : (R : Instances) → KeepPrepared R → (now graph : Graph) → IsSame now graph → (before : List Step) (s : Step) → RightOver R now before s → RightOver R graph before s
over_graph R keep now graph e before s h = subst (λ (g : Graph). RightOver R g before s) (sym e) (right_same R keep now graph.is_prepared before s h)

record Next (s : Step) (now new : Graph) : Type 0 where
  pub next : Graph
  pub grows : Grows s now next
  pub same : IsSame next new
  pub sealed : next.is_open ≡ now.is_open

stays : (now graph new g : Graph) → IsSame now graph → g ≡ graph → IsSame g new → IsSame now new
stays now graph new g e f h = h ∙ ap (λ (x : Graph). prepared_as x new.is_prepared) (f ∙ e)

carry : (s : Step) (now graph new : Graph) → IsSame now graph → GrowsTo s graph new → Next s now new
carry (steps.Node n o kids) now graph new e h = record {
  next = h.0;
  grows = subst (λ (g : Graph). AddsNode g n o kids h.0) (back now graph e) (adds_same graph h.0 now.is_prepared n o kids h.1);
  same = h.2;
  sealed = ap (λ (g : Graph). g.is_open) h.1.grown ∙ ap (λ (g : Graph). g.is_open) e;
}
carry (steps.Axiom n a b nodes) now graph new e h = record { next = now; grows = refl; same = stays now graph new h.0 e h.1 h.2; sealed = refl }
carry (steps.Use n a b nodes) now graph new e h = record { next = now; grows = refl; same = stays now graph new h.0 e h.1 h.2; sealed = refl }
carry (steps.Flip a b f) now graph new e h = record { next = now; grows = refl; same = stays now graph new h.0 e h.1 h.2; sealed = refl }
carry (steps.Chain a b f k) now graph new e h = record { next = now; grows = refl; same = stays now graph new h.0 e h.1 h.2; sealed = refl }
carry (steps.Set cs) now graph new e h = record { next = now; grows = refl; same = stays now graph new h.0 e h.1 h.2; sealed = refl }
carry (steps.Open d pairs) now graph new e h = record { next = now; grows = refl; same = stays now graph new h.0 e h.1 h.2; sealed = refl }
carry (steps.Close d fs) now graph new e h = record { next = now; grows = refl; same = stays now graph new h.0 e h.1 h.2; sealed = refl }
carry (steps.Assume p ns) now graph new e h = record { next = now; grows = refl; same = stays now graph new h.0 e h.1 h.2; sealed = refl }
carry (steps.Finish p q t f r k) now graph new e h = record { next = now; grows = refl; same = stays now graph new h.0 e h.1 h.2; sealed = refl }

pub starts : (g graph : Graph) (section : List Step) (innermost : List ℕ) (opened : List Bool) → g.is_open ≡ false → IsSame g graph → AreKept [] innermost opened → IsReplayed g section 0 innermost opened graph
starts g graph section innermost opened sealed same kept = record { kept = kept; now = g; after = refl; same = same; sealed = ap (λ (x : Graph). x.is_open) same ∙ sealed }

pub replays : (g graph new : Graph) (section : List Step) (n : ℕ) (innermost innermost' : List ℕ) (opened opened' : List Bool) → IsReplayed g section n innermost opened graph → n < length section → (d : Step)
    → GrowsTo (get_or section n d) graph new → AreKept (take n section ++ get_or section n d ∷ []) innermost' opened' → IsReplayed g section (suc n) innermost' opened' new
replays g graph new section n innermost innermost' opened opened' h low d grows kept =
    let s : Step = get_or section n d in
    let first : first_steps (suc n) section ≡ s ∷ first_steps n section = next_first section n s (slice_get-get_or section n d low) in
    let c = carry s h.now graph new h.same grows in
    record {
      kept = subst (λ (q : List Step). AreKept q innermost' opened') (sym (take-suc section n d low)) kept;
      now = c.next;
      after = subst (λ (q : List Step). GraphAfter g q c.next) (sym first) (h.now, h.after, c.grows);
      same = c.same;
      sealed = ap (λ (x : Graph). x.is_open) c.same ∙ c.sealed ∙ sym (ap (λ (x : Graph). x.is_open) h.same) ∙ h.sealed;
    }

-- a step is right exactly where it is so over the graph of the moment
pub is_right : (R : Instances) → KeepPrepared R → (g graph : Graph) (section : List Step) (n : ℕ) (innermost : List ℕ) (opened : List Bool) → IsReplayed g section n innermost opened graph → (s : Step)
    → RightOver R graph (first_steps n section) s ↔ Right R g (first_steps n section) s
is_right R keep g graph section n innermost opened h s = (
  λ r. (h.now, h.after, over_now R keep h.now graph h.same (first_steps n section) s r),
  λ r. over_graph R keep h.now graph h.same (first_steps n section) s (subst (λ (x : Graph). RightOver R x (first_steps n section) s) (after_same g (first_steps n section) r.0 h.now r.1 h.after) r.2),
)

pub goes_on : (R : Instances) → KeepPrepared R → (g graph new : Graph) (section : List Step) (a n : ℕ) (innermost innermost' : List ℕ) (opened opened' : List Bool) → IsSoFar R g section a n innermost opened graph → n < length section → (d : Step)
    → RightOver R graph (first_steps n section) (get_or section n d) → GrowsTo (get_or section n d) graph new → AreKept (take n section ++ get_or section n d ∷ []) innermost' opened' → IsSoFar R g section a (suc n) innermost' opened' new
goes_on R keep g graph new section a n innermost innermost' opened opened' h low d right grows kept =
    let s : Step = get_or section n d in
    let first : first_steps (suc n) section ≡ s ∷ first_steps n section = next_first section n s (slice_get-get_or section n d low) in
    record {
      replayed = replays g graph new section n innermost innermost' opened opened' h.replayed low d grows kept;
      right = λ front. subst (λ (q : List Step). AllRight R g q) (sym first) ((is_right R keep g graph section n innermost opened h.replayed s).0 right, h.right front);
    }

-- ---- what a piece answers

pub is_wrong : (R : Instances) → KeepPrepared R → (q : Claim) (graph : Graph) (section : List Step) (a b n : ℕ) (innermost : List ℕ) (opened : List Bool) → IsSoFar R q.graph section a n innermost opened graph → n < length section → (d : Step)
    → (RightOver R graph (first_steps n section) (get_or section n d) → ⊥) → (m : ℕ) → m ≡ suc n → IsPiece R q section a b (Some m)
is_wrong R keep q graph section a b n innermost opened h low d wrong m e = λ front. record {
  before = n;
  number = e;
  right = h.right front;
  wrong = inl (get_or section n d, slice_get-get_or section n d low, λ r. wrong ((is_right R keep q.graph graph section n innermost opened h.replayed (get_or section n d)).1 r));
}

all_steps : (section : List Step) (n : ℕ) → n ≡ length section → take n section ≡ section
all_steps section n e = take_all n section (omega (arith, e))

pub all_kept : (R : Instances) (g graph : Graph) (section : List Step) (a n : ℕ) (innermost : List ℕ) (opened : List Bool) → IsSoFar R g section a n innermost opened graph → n ≡ length section → AreKept section innermost opened
all_kept R g graph section a n innermost opened h e = subst (λ (all : List Step). AreKept all innermost opened) (all_steps section n e) h.replayed.kept

pub no_number : (R : Instances) (q : Claim) (graph : Graph) (section : List Step) (a b n : ℕ) (innermost : List ℕ) (opened : List Bool) → IsSoFar R q.graph section a n innermost opened graph → n ≡ b → (b ≡ length section → IsConcluded (reverse section) q.first q.second) → IsPiece R q section a b None
no_number R q graph section a b n innermost opened h e c = λ front. (subst (λ (m : ℕ). AllRight R q.graph (first_steps m section)) e (h.right front), c)

pub not_concluded : (R : Instances) (q : Claim) (graph : Graph) (section : List Step) (a b n : ℕ) (innermost : List ℕ) (opened : List Bool) → IsSoFar R q.graph section a n innermost opened graph → n ≡ length section → (IsConcluded (reverse section) q.first q.second → ⊥) → (m : ℕ) → m ≡ suc n → IsPiece R q section a b (Some m)
not_concluded R q graph section a b n innermost opened h e c m f = λ front. record {
  before = n;
  number = f;
  right = h.right front;
  wrong = inr (e, λ z. c (subst (λ (all : List Step). IsConcluded (reverse all) q.first q.second) (all_steps section n e) z));
}

-- after steps that are right there is a graph, so a piece whose front has none may answer anything
pub no_front : (R : Instances) (q : Claim) (section : List Step) (a b : ℕ) → ((now : Graph) → GraphAfter q.graph (first_steps a section) now → ⊥) → (number : Option ℕ) → IsPiece R q section a b number
no_front R q section a b none number = λ front. let there = graph_there R q.graph (first_steps a section) front in absurd (none there.0 there.1)
