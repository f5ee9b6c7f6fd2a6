-- A search, seen from the least graph; one that is saturated; and the grounds of joins in a round.
use Rattle.std.proofs.Common.{◌≡◌, ℕ, suc, List, Vec, Global, Option, Some, None, Result, Ok, Err, OnOk, refl, sym, ◌∙◌, subst}
use Rattle.pv_graph.specs.Graphs.{Graph, form_at}
use Rattle.pv_steps.specs.Facts.{View}
use Rattle.pv_pattern.specs.Patterns.{Axiom}
use Rattle.pv_heights.specs.Searches.{base_view, AtLeastAt, IsSaturatedAt}
use Rattle.pv_heights.proofs.Cited.{base_view_is, graph_whole, saturated_reached}
use Rattle.pv_match.specs.declared.found.Match.{Match}
use Rattle.pv_grounds.specs.Searches.{Search, Looked, Over, Saturated, Open, axioms_of, IsSearch, IsBegun, IsOver, IsSaturatedNow, Looks, MakesRound, GoesOn}
use Rattle.pv_grounds.specs.Rounds.{AreGrounded}
use Rattle.pv_grounds.proofs.Cited.{round_grounded}
use Rattle.pv_prove.specs.declared.searches.Searches.{Searches}
use Rattle.pv_prove.specs.Finding.{or_plain}
use Rattle.pv_prove.specs.Looking.{ForOther, KeepsGrounds, GoesFurther, OtherGoes, GoOn}

module _ (g : Graph) (k : ℕ) (s : Search) (is : IsSearch g k s) where
  view_is : base_view s.graph ≡ form_at g.nodes
  view_is = base_view_is g s.graph is.grown (is.base ∙ is.least.base)

  -- the same of the least graph, with these nodes as endings, these axioms and this budget
  module _ (ends : List ℕ) (of_ends : s.endings.items ≡ ends) (table : List Axiom) (of_table : axioms_of s ≡ table) where
    pub many_there : (b : ℕ) → s.budget ≡ b → IsOver s → AtLeastAt (form_at g.nodes) ends table s.graph s.classes.numbers (suc b)
    many_there b e h =
        subst (λ (v : View). AtLeastAt v ends table s.graph s.classes.numbers (suc b)) view_is
        (subst (λ (es : List ℕ). AtLeastAt (base_view s.graph) es table s.graph s.classes.numbers (suc b)) of_ends
        (subst (λ (ts : List Axiom). AtLeastAt (base_view s.graph) s.endings.items ts s.graph s.classes.numbers (suc b)) of_table
        (subst (λ (n : ℕ). AtLeastAt (base_view s.graph) s.endings.items (axioms_of s) s.graph s.classes.numbers (suc n)) e h)))

    pub many_back : (b : ℕ) → s.budget ≡ b → AtLeastAt (form_at g.nodes) ends table s.graph s.classes.numbers (suc b) → IsOver s
    many_back b e h =
        subst (λ (n : ℕ). AtLeastAt (base_view s.graph) s.endings.items (axioms_of s) s.graph s.classes.numbers (suc n)) (sym e)
        (subst (λ (ts : List Axiom). AtLeastAt (base_view s.graph) s.endings.items ts s.graph s.classes.numbers (suc b)) (sym of_table)
        (subst (λ (es : List ℕ). AtLeastAt (base_view s.graph) es table s.graph s.classes.numbers (suc b)) (sym of_ends)
        (subst (λ (v : View). AtLeastAt v ends table s.graph s.classes.numbers (suc b)) (sym view_is) h)))

    pub saturated_there : IsSaturatedNow s → IsSaturatedAt (form_at g.nodes) ends table s.graph s.classes.numbers
    saturated_there h =
        subst (λ (v : View). IsSaturatedAt v ends table s.graph s.classes.numbers) view_is
        (subst (λ (es : List ℕ). IsSaturatedAt (base_view s.graph) es table s.graph s.classes.numbers) of_ends
        (subst (λ (ts : List Axiom). IsSaturatedAt (base_view s.graph) s.endings.items ts s.graph s.classes.numbers) of_table h))

    pub saturated_back : IsSaturatedAt (form_at g.nodes) ends table s.graph s.classes.numbers → IsSaturatedNow s
    saturated_back h =
        subst (λ (ts : List Axiom). IsSaturatedAt (base_view s.graph) s.endings.items ts s.graph s.classes.numbers) (sym of_table)
        (subst (λ (es : List ℕ). IsSaturatedAt (base_view s.graph) es table s.graph s.classes.numbers) (sym of_ends)
        (subst (λ (v : View). IsSaturatedAt v ends table s.graph s.classes.numbers) (sym view_is) h))

  -- a search in which no match joins more is also where a round would have taken it
  pub next_saturated : IsSaturatedNow s → IsSearch g (suc k) s
  next_saturated h = record {
    least = is.least;
    table_ = is.table_;
    graph_ = is.graph_;
    apart = is.apart;
    grown = is.grown;
    base = is.base;
    sealed = is.sealed;
    marks_ = is.marks_;
    knows = is.knows;
    classes_ = is.classes_;
    sorts = is.sorts;
    reached = saturated_reached g (graph_whole g is.least.made.graph) s.endings.items (axioms_of s) k s.graph s.classes.numbers is.reached (saturated_there s.endings.items refl (axioms_of s) refl h);
    last_ = is.last_;
  }

pub stays : (s : Search) → IsSaturatedNow s → GoesOn s s
stays s h = record { next = λ g k is. next_saturated g k s is h; table_ = refl; endings_ = refl; budget_ = refl }

-- a search that was looked at, and has neither too many matches nor a list of some that join more
pub still : (s : Search) (x : Looked) → Looks s x → (IsOver s → ⊥) → ((list : Vec Match Global) → x ≡ Open list → ⊥) → GoesOn s s
still s (Over n) looks few none = absurd (few looks.1)
still s Saturated looks few none = stays s looks.1
still s (Open list) looks few none = absurd (none list refl)

-- a round keeps the grounds of joins
round_keeps : (old new : Search) → IsBegun old → GoesOn old new → MakesRound old.graph new.graph old.endings.items old.classes new.classes → KeepsGrounds old new
round_keeps old new begun on made before =
    subst (λ (es : List ℕ). AreGrounded new.graph es new.classes) (sym on.endings_) (round_grounded old.graph new.graph old.endings.items old.classes new.classes begun.2.graph_ made before)

pub grows : {E : Type 0} (r : Result (Unit {0}) E) (old new : Search) → IsBegun old → OnOk r (GoesOn old new) → OnOk r (MakesRound old.graph new.graph old.endings.items old.classes new.classes) → OnOk r (GoesFurther old new)
grows (Ok u) old new begun on made = record { goes = on; grounds = round_keeps old new begun on made }
grows (Err e) old new begun on made = tt

-- where there is no other search, what holds of the plain one holds of the search with endings
other_goes : (plain next : Search) (old new : Option Search) → GoesFurther plain next → OtherGoes old new → GoesFurther (or_plain plain old) (or_plain next new)
other_goes plain next (Some old) (Some new) goes h = h
other_goes plain next None None goes h = goes
other_goes plain next (Some old) None goes h = absurd h
other_goes plain next None (Some new) goes h = absurd h

pub of_other : (Is : Search → Type 0) (plain : Search) (other : Option Search) → Is (or_plain plain other) → ForOther Is other
of_other Is plain (Some s) h = h
of_other Is plain None h = tt

-- two searches, of which the plain one has gone on
pub both_go : {E : Type 0} (r : Result (Unit {0}) E) (old new : Searches) → GoesFurther old.plain new.plain → OnOk r (OtherGoes old.other new.other) → OnOk r (GoOn old new)
both_go (Ok u) old new plain other = record { plain_ = plain; ending_ = other_goes old.plain new.plain old.other new.other plain other }
both_go (Err e) old new plain other = tt
