-- What the joins of a search rest on, from round to round.
use Rattle.std.specs.Prelude.{ℕ, Bool, List, [], ◌∷◌, ◌++◌, map, refl}
use Rattle.std.specs.List.{AllZip}
use Rattle.std.proofs.Common.{◌≡◌, sym, ◌∙◌, subst}
use Rattle.std.proofs.lemmas.List.{append-nil}
use Rattle.pv_graph.specs.Graphs.{Graph, IsGraph}
use Rattle.pv_classes.specs.declared.join.Join.{Join}
use Rattle.pv_classes.specs.Blocks.{Block}
use Rattle.pv_classes.specs.Grounds.{JoinGround, JoinsGround}
use Rattle.pv_classes.specs.Calls.{Classes, IsNew, Grows}
use Rattle.pv_classes.proofs.Cited.{grounds_blocks, grounds_on}
use Rattle.pv_induct.specs.Levels.{NoAxiom}
use Rattle.pv_induct.specs.Inducts.{Inducts}
use Rattle.pv_heights.specs.Sides.{Match}
use Rattle.pv_explain.specs.Sections.{IsGiven}
use Rattle.pv_explain.proofs.Cited.{grounds_given}
use Rattle.pv_rounds.specs.declared.owed.Owed.{Owed}
use Rattle.pv_rounds.specs.Owed.{IsOwed}
use Rattle.pv_rounds.specs.Joining.{join_of, JoinsAll}
use Rattle.pv_grounds.specs.Grounds.{HaveGrounds}
use Rattle.pv_rounds.specs.Searching.{MakesRound}
use Rattle.pv_grounds.specs.Rounds.{AreGrounded}
use Rattle.pv_grounds.proofs.Given.{grounds_stay}

pub new_grounded : (g : Graph) (assumed : List ℕ) (c : Classes) → IsNew g.nodes c → AreGrounded g assumed c
new_grounded g assumed c new = subst (λ (js : List Join). HaveGrounds g assumed [] [] c.blocks js) (sym new.joins) (JoinsGround.none [] [] c.blocks)

-- ---- the joins that a round owes

module _ (seen g : Graph) (numbers assumed : List ℕ) where
  -- the two sides of an owed join are given
  pub owed_given : (m : Match ℕ) (o : Owed) → IsOwed seen g numbers assumed m o → IsGiven g assumed o.axiom o.subst.items o.left o.right
  owed_given m o is = record {
    instance_ = is.sides;
    nodes_ = is.within;
    first = is.left;
    second = is.right;
    one_sort = is.one_sort;
  }

  pub owed_grounds : (ms : List (Match ℕ)) (owed : List Owed) → AllZip (IsOwed seen g numbers assumed) ms owed
      → (before : List Join) (blocks : List Block) → HaveGrounds g assumed [] before blocks (map join_of owed)
  owed_grounds [] [] all before blocks = JoinsGround.none [] before blocks
  owed_grounds [] (o ∷ owed) all before blocks = absurd all
  owed_grounds (m ∷ ms) [] all before blocks = absurd all
  owed_grounds (m ∷ ms) (o ∷ owed) all before blocks =
      JoinsGround.next [] before blocks (join_of o) (map join_of owed)
      (JoinGround.by_axiom before blocks (join_of o) o.axiom o.subst.items refl (owed_given m o all.0))
      (owed_grounds ms owed all.1 (before ++ join_of o ∷ []) blocks)

-- ---- classes, step by step

module _ (g : Graph) (assumed : List ℕ) (old new : Classes) where
  -- joins that have their grounds after the old ones, with as many blocks or more
  more_grounded : (more : List Join) (added : List Block) → new.joins ≡ old.joins ++ more → new.blocks ≡ old.blocks ++ added
      → HaveGrounds g assumed [] old.joins new.blocks more → AreGrounded g assumed old → AreGrounded g assumed new
  more_grounded more added joins blocks here before =
      let still : HaveGrounds g assumed [] [] new.blocks old.joins =
      subst (λ (bs : List Block). HaveGrounds g assumed [] [] bs old.joins) (sym blocks) (grounds_blocks g.nodes (IsGiven g assumed) [] [] old.blocks added old.joins before) in
      subst (λ (js : List Join). HaveGrounds g assumed [] [] new.blocks js) (sym joins) (grounds_on g.nodes (IsGiven g assumed) [] [] new.blocks old.joins more still here)

  pub induct_grounded : (found : Bool) → Inducts g.nodes old new found → AreGrounded g assumed old → AreGrounded g assumed new
  induct_grounded found i before =
      more_grounded i.more i.added i.joins i.blocks (grounds_given g.nodes NoAxiom (IsGiven g assumed) (λ n nodes a b z. absurd z) [] old.joins new.blocks i.more i.rest) before

  pub grown_grounded : Grows g.nodes old new → AreGrounded g assumed old → AreGrounded g assumed new
  grown_grounded grows before =
      subst (λ (bs : List Block). HaveGrounds g assumed [] [] bs new.joins) (sym grows.blocks) (subst (λ (js : List Join). HaveGrounds g assumed [] [] old.blocks js) (sym grows.joins) before)

  pub joined_grounded : (owed : List Owed) → JoinsAll old new owed → HaveGrounds g assumed [] old.joins new.blocks (map join_of owed) → AreGrounded g assumed old → AreGrounded g assumed new
  joined_grounded owed j here before = more_grounded (map join_of owed) [] j.joins (j.blocks ∙ sym (append-nil old.blocks)) here before

pub round_grounded : (old new : Graph) (assumed : List ℕ) (begun closed : Classes) → IsGraph old → MakesRound old new assumed begun closed → AreGrounded old assumed begun → AreGrounded new assumed closed
round_grounded old new assumed begun closed is r before =
    let stay = grounds_stay old new assumed is r.adds.grows.extends_ [] [] begun.blocks begun.joins before in
    let grown = grown_grounded new assumed begun r.grown r.grows stay in
    let here = owed_grounds r.seen new r.numbers assumed r.matches r.owed r.adds.joins r.grown.joins r.joined.blocks in
    induct_grounded new assumed r.joined closed r.found r.inducts (joined_grounded new assumed r.grown r.joined r.owed r.joins here grown)
