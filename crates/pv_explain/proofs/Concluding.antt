-- A section: the place where it begins, and what its last step concludes.
use Rattle.std.specs.Prelude.{◌≡◌, ℕ, List, [], ◌++◌, length, reverse, slice_get}
use denote.Bor.{Bor}
use Rattle.std.proofs.Common.{inr, refl, sym, ap, ◌∙◌, subst, arith}
use Rattle.std.proofs.lemmas.Option.{same_Some, slice_get_within}
use Rattle.pv_graph.specs.Walks.{In}
use Rattle.pv_graph.specs.Graphs.{Graph}
use Rattle.pv_graph.specs.Calls.{IsSame}
use Rattle.pv_graph.proofs.Cited.{bind_some, found}
use Rattle.pv_steps.specs.declared.step.Fact.{Fact}
use Rattle.pv_steps.specs.declared.step.Step.{Step}
use Rattle.pv_steps.specs.Steps.{OpenBlock, blocks, open_after, assumed_in, stated_at, numbered, Equality, AreOpen}
use Rattle.pv_steps.specs.Right.{IsFresh}
use Rattle.pv_steps.specs.Accepted.{AllRight, IsConcluded, Derives}
use Rattle.pv_steps.proofs.Cited.{in_numbered}
use Rattle.pv_axioms.specs.Entries.{ByAxioms}
use Rattle.pv_classes.specs.declared.join.Join.{Join}
use Rattle.pv_classes.specs.Blocks.{Block}
use Rattle.pv_classes.specs.Grounds.{JoinsGround}
use Rattle.pv_classes.proofs.Elements.{none_in}
use Rattle.pv_writer.specs.Written.{Written, inside, IsFact, GoesOn}
use Rattle.pv_explain.specs.declared.source.Search.{Search}
use Rattle.pv_explain.specs.declared.source.Source.{Source}
use Rattle.pv_explain.specs.declared.follow.Line.{Line}
use Rattle.pv_explain.specs.declared.level.Level.{Level}
use Rattle.pv_explain.specs.Copying.{HasBase}
use Rattle.pv_explain.specs.Sections.{IsGiven, IsGrounded, IsGrown}
use Rattle.pv_explain.specs.Lines.{IsSource, AreStated, sides}
use Rattle.pv_explain.specs.Named.{AreReady}
use Rattle.pv_explain.specs.Levels.{ends_of, HasAll, IsOutside, JoinsStand, GrowsAt, HasLast}

-- ---- the copies

-- before any step the certificate's graph has the base
pub has_base : (w : Written) (least g : Graph) → w.least ≡ least → IsGrown least g → IsSame w.least w.graph → HasBase w g
has_base w least g e grown same = record {
  nodes = λ n x low at.
      let there = found least.nodes n (let b = grown.base in omega (arith, low, b)) in
      ap (λ (q : Graph). slice_get q.nodes n) same ∙ ap (λ (q : Graph). slice_get q.nodes n) e ∙ there.1 ∙ sym (grown.extends_.nodes n there.0 there.1) ∙ at;
  sorts = λ n s low at.
      let there = found least.sorts n (let b = grown.base in let l = grown.long in omega (arith, low, b, l)) in
      ap (λ (q : Graph). slice_get q.sorts n) same ∙ ap (λ (q : Graph). slice_get q.sorts n) e ∙ there.1 ∙ sym (grown.extends_.sorts n there.0 there.1) ∙ at;
}

-- ---- the first place

pub first_place : (w : Written) (s : Source) (level : Level) (bs : List Block) (joins : List Join) → IsSource w s → IsOutside w s.graph.now → level.forest.nodes ≡ length s.graph.now.nodes → level.forest.ends ≡ [] → level.lines.items ≡ [] → level.known.items ≡ []
    → JoinsGround s.graph.now.nodes (IsGiven s.graph.now (assumed_in (inside w))) [] [] bs joins → AreReady s bs joins → JoinsStand w s level bs joins
first_place w s level bs joins source outside nodes ends lines known grounds named = record {
  assumed = assumed_in (inside w);
  ctx = [];
  before = [];
  place = record {
    source = source;
    lines = record { nodes_ = nodes; ends = ends ∙ ap sides (sym lines); stated = none_stated level.lines.items lines };
    ends = ap sides lines;
    known = none_stated level.known.items known;
    pairs = λ a b c. absurd (none_in (a, b) c);
    open_ = λ d out. outside.fresh d;
    assumes = refl;
    low = outside.low;
    one_sort = λ j c. absurd (none_in j c);
    pairs_sort = tt;
  };
  grounds = grounds;
  named = named;
}
  where
    none_stated : (ls : List Line) → ls ≡ [] → AreStated w s.map.now ls
    none_stated ls e j l at = absurd (let z = slice_get_within ls j l at in let y : length ls ≡ 0 = ap length e in omega (arith, z, y))

-- all joins have lines
pub has_all : (w : Written) (s : Source) (old new : Level) (joins : List Join) → old.lines.items ≡ [] → GrowsAt w s old new joins → HasAll w s new joins
has_all w s old new joins none grows = record { lines = grows.lines; ends = grows.ends ∙ ap (λ (ls : List Line). sides ls ++ ends_of joins) none }

-- the source is the graph of the search
pub grounds_at : (s : Source) (t : Search) (assumed : List ℕ) → s.graph ≡ t.graph → IsGrounded t assumed → JoinsGround s.graph.now.nodes (IsGiven s.graph.now assumed) [] [] t.blocks.now t.joins.now
grounds_at s t assumed e h = subst (λ (q : Bor Graph). JoinsGround q.now.nodes (IsGiven q.now assumed) [] [] t.blocks.now t.joins.now) (sym e) h

pub outside_at : (w : Written) (s : Source) (t : Search) → s.graph ≡ t.graph → IsOutside w t.graph.now → IsOutside w s.graph.now
outside_at w s t e h = subst (λ (q : Bor Graph). IsOutside w q.now) (sym e) h

pub outside_goes : (old new : Written) (g : Graph) → GoesOn old new → IsOutside old g → IsOutside new g
outside_goes old new g goes h = record {
  fresh = λ d. subst (λ (ps : List OpenBlock). IsFresh d (blocks ps)) (sym goes.blocks) (h.fresh d);
  low = λ e m. h.low e (subst (λ (ps : List OpenBlock). In (assumed_in ps) e) goes.blocks m);
}

-- ---- the last step

-- a fact of the last step, in no block, is what the steps conclude
pub concludes : (w : Written) (f : Fact) (a b : ℕ) → f.step ≡ length w.before → inside w ≡ [] → IsFact w f a b → IsConcluded w.before a b
concludes w f a b last outside shows =
    let s = bind_some (stated_at w.before f.step) _ (record { around = shows.around; left = a; right = b }) shows.stated in
    let p = bind_some (numbered s.0.pairs f.place) _ (record { around = shows.around; left = a; right = b }) s.2 in
    let same : record { around = s.0.around; left = p.0.0; right = p.0.1 } ≡ record { around = shows.around; left = a; right = b } = same_Some _ _ p.2 in
    let here : shows.around ≡ [] = subst (AreOpen shows.around) outside shows.visible in (
      outside,
      inr (record {
        stated = s.0;
        last = ap (stated_at w.before) (sym last) ∙ s.1;
        outside = ap (λ (e : Equality). e.around) same ∙ here;
        states_ = subst (λ (e : Equality). In {A = ℕ × ℕ} s.0.pairs (e.left, e.right)) same (in_numbered s.0.pairs f.place p.0 p.1);
      }),
    )

-- so the section is accepted
pub derives : (w : Written) (f : Fact) (a b : ℕ) (steps : List Step) → AllRight ByAxioms w.least w.before → reverse steps ≡ w.before → f.step ≡ length w.before → inside w ≡ [] → IsFact w f a b → Derives ByAxioms w.least a b steps
derives w f a b steps right order last outside shows =
    subst (λ (bs : List Step). AllRight ByAxioms w.least bs × IsConcluded bs a b) (sym order) (right, concludes w f a b last outside shows)

pub section_derives : (w : Written) (least : Graph) (a b : ℕ) (steps : List Step) → w.least ≡ least → AllRight ByAxioms w.least (reverse steps) → reverse steps ≡ w.before → inside w ≡ [] → HasLast w a b → Derives ByAxioms least a b steps
section_derives w least a b steps is right order none last =
    subst (λ (g : Graph). Derives ByAxioms g a b steps) is
    (derives w last.fact a b steps (subst (AllRight ByAxioms w.least) order right) order last.last none last.shows)

-- before any step no block is open
pub no_blocks : (w : Written) → w.before ≡ [] → inside w ≡ []
no_blocks w e = ap open_after e
