-- The open loop whose thetas are tied, where nodes were added before.
use Rattle.std.proofs.Common.{◌≡◌, ℕ, ◌<◌, ◌≤◌, List, [], length, Some, slice_get, inl, refl, sym, subst, arith}
use Rattle.pv_build.proofs.Words.{Loop, found, In, Graph, T, Grows, HasItsSort, ReadsOver, grows_by_then, Given, Method, Made, Opened, Theta, IsMethod, loops_at, IsStage, IsBeyond, GrowsIn, KeepsFirst, IsGivenFor, closing_of, Closing, MayTieAll, AreTied, IsOpenAt, TiesLoop}
use Rattle.pv_graph.specs.declared.node.Op.TheVariants as op
use Rattle.pv_decide.specs.declared.tree.Target.TheVariants as target
use Rattle.pv_build.proofs.Persisting.{grown}
use Rattle.pv_build.proofs.Kept.{has_no_kids, read_no_kids}
use Rattle.pv_build.proofs.GivenFor.{given_on}
use Rattle.pv_build.proofs.Staged.{flat_beyond, first_kept, first_then, stage_grown}
use Rattle.pv_build.proofs.Looped.{deep}
use Rattle.pv_build.proofs.Around.{loops_own}
use Rattle.pv_build.proofs.Ties.{tied_first}
use Rattle.pv_build.proofs.Closed.{base_after, may_tie_all}

pub first_lower : (start base : ℕ) (a b : Graph) → start ≤ base → KeepsFirst base a b → KeepsFirst start a b
first_lower start base a b le k = record { graph = k.graph; nodes = λ n x less at. k.nodes n x (omega (arith, less, le)) at; sorts = k.sorts }

module _ (m : Method) (is : IsMethod m) (g mid : Graph) (made : Made) (i : ℕ) (low : i < length m.forest.now.loops.items) (stage_is : IsStage m g made (loops_at m (Some i))) (grows : GrowsIn (length (loops_at m (Some i))) g mid) where
  abbrev loop_here : (l : Loop) × (slice_get m.forest.now.loops.items i ≡ Some l)
  loop_here = found m.forest.now.loops.items i low

  pub stage_mid : IsStage m mid made (loops_at m (Some i))
  stage_mid = stage_grown m g mid made (loops_at m (Some i)) (length (loops_at m (Some i))) (deep m is i loop_here.0 loop_here.1) grows stage_is

  -- it is open
  pub opened_there : (o : Opened) × IsOpenAt made i o
  opened_there =
      let own : In (loops_at m (Some i)) loop_here.0.header = subst (λ (A : List ℕ). In A loop_here.0.header) (sym (loops_own m is i loop_here.0 loop_here.1)) (inl refl) in
      stage_is.opens i loop_here.0 loop_here.1 own

-- the thetas of the loop are tied, where `again` was given and `never` was added
module _ (m : Method) (is : IsMethod m) (g one mid : Graph) (made : Made) (i : ℕ) (low : i < length m.forest.now.loops.items) (stage_is : IsStage m g made (loops_at m (Some i))) (first : GrowsIn (length (loops_at m (Some i))) g one) (then' : Grows one mid) where
  pub grows_here : GrowsIn (length (loops_at m (Some i))) g mid
  grows_here = let d : ℕ = length (loops_at m (Some i)) in grows_by_then (IsBeyond d) g one mid first (flat_beyond d one mid then')

  abbrev loop_is : (l : Loop) × (slice_get m.forest.now.loops.items i ≡ Some l)
  loop_is = found m.forest.now.loops.items i low

  module _ (o : Opened) (at : IsOpenAt made i o) (again : Given) (never : ℕ) (given : IsGivenFor m one made.names (Some i) target.Back again) (reads : ReadsOver one op.Never [] mid never) (sorted : HasItsSort one op.Never [] mid never)
      (thetas : List Theta) (same : thetas ≡ o.thetas.items) where
    abbrev closing : Closing
    closing = closing_of m made i loop_is.0 o

    pub may_here : MayTieAll closing mid again never thetas
    may_here =
        let d : ℕ = length (loops_at m (Some i)) in
        let p = grown (IsBeyond d) one mid (flat_beyond d one mid then') in
        subst (MayTieAll closing mid again never) (sym same)
        (may_tie_all m is mid made i loop_is.0 loop_is.1 (stage_mid m is g mid made i low stage_is grows_here) o at again never
        (given_on m one mid p made.names made.names (λ h s n i. i) (Some i) target.Back again given) (read_no_kids one mid made.names op.Never never reads) (sorted T (has_no_kids one op.Never T refl)))

    pub can_tie : (c : Closing) × MayTieAll c mid again never thetas
    can_tie = (closing, may_here)

    -- what is kept where memory runs out
    pub kept_here : (new : Graph) → ((c : Closing) → MayTieAll c mid again never thetas → KeepsFirst c.base mid new) → KeepsFirst made.start g new
    kept_here new keeps =
        first_then made.start g mid new (first_kept (IsBeyond (length (loops_at m (Some i)))) made.start g mid grows_here)
        (first_lower made.start o.base mid new (base_after m is mid made i loop_is.0 loop_is.1 (stage_mid m is g mid made i low stage_is grows_here) o at) (keeps closing may_here))

    module _ (new : Graph) (tied : (c : Closing) → MayTieAll c mid again never thetas → AreTied c mid thetas (length thetas) new) where
      pub ties_here : TiesLoop m g made i new o.token
      ties_here = record {
        loop_ = loop_is.0;
        there = loop_is.1;
        opened = o;
        at = at;
        token_is = refl;
        mid = mid;
        grows = grows_here;
        tied = subst (λ (xs : List Theta). AreTied closing mid xs (length xs) new) same (tied closing may_here);
        may = (again, never, subst (MayTieAll closing mid again never) same may_here);
      }

      pub kept_tied : KeepsFirst made.start g new
      kept_tied = kept_here new (λ c may. tied_first c mid again never thetas may (length thetas) new (tied c may))
