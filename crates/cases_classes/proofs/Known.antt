-- The nodes that the classes know: where a node is added to the graph, and after classes are restored.
use Rattle.std.proofs.Common.{◌≡◌, ◌⊎◌, inl, inr, ℕ, ◌≤◌, List, [], ◌∷◌, ◌++◌, length, take, sym, ◌∙◌, ap, subst, arith, take_all, length-append, append_assoc}
use Rattle.std.specs.Prelude.{Result, Ok, Err, IfOk}
use Rattle.std.proofs.Math.Seq.{take-append_seam}
use Rattle.std.proofs.lemmas.List.{append-nil}
use Rattle.pv_graph.specs.declared.node.Op.{Op}
use Rattle.pv_graph.specs.declared.node.Node.{Node}
use Rattle.pv_graph.specs.Graphs.{Graph}
use Rattle.pv_graph.specs.Nodes.{node_of, IsAbsent}
use Rattle.pv_graph.specs.Calls.{IsSame, Added, appended}
use Rattle.pv_classes.specs.declared.join.Join.{Join}
use Rattle.pv_classes.specs.declared.join.Reason.{Reason}
use Rattle.pv_classes.specs.Blocks.{Block}
use Rattle.pv_classes.specs.Calls.{CanRestore, Classes, Closes, Copies, HaveMore, IsSaved, Joins, Knows, KnowsFirst, Restores, Saved}

pub added_first : (old new : Graph) (c : Classes) (o : Op) (kids : List ℕ) (n : ℕ) → Knows old.nodes c → Added old new o kids n → KnowsFirst new.nodes c
added_first old new c o kids n knows added = by added.grows
  where
    known : length c.numbers ≤ length new.nodes → take (length c.numbers) new.nodes ≡ old.nodes → KnowsFirst new.nodes c
    known few e = (few, subst (λ (ns : List Node). Knows ns c) (sym e) knows)

    by : IsSame old new ⊎ (IsAbsent old.nodes (node_of o kids) × (new ≡ appended old (node_of o kids) added.fits.0 new.is_prepared)) → KnowsFirst new.nodes c
    by (inl same) =
        let e : new.nodes ≡ old.nodes = ap (λ (g : Graph). g.nodes) same in
        known (omega (arith, ap length e, knows.long)) (ap (take (length c.numbers)) e ∙ take_all (length c.numbers) old.nodes (omega (arith, knows.long)))
    by (inr grown) =
        let e : new.nodes ≡ old.nodes ++ node_of o kids ∷ [] = ap (λ (g : Graph). g.nodes) grown.1 in
        known (omega (arith, ap length e, length-append old.nodes (node_of o kids ∷ []), knows.long))
        (ap (take (length c.numbers)) e ∙ ap (λ (m : ℕ). take m (old.nodes ++ node_of o kids ∷ [])) knows.long ∙ take-append_seam old.nodes (node_of o kids ∷ []))

-- a graph that didn't change is known still
pub same_known : (old new : Graph) (c : Classes) → Knows old.nodes c → IsSame old new → Knows new.nodes c
same_known old new c knows same = subst (λ (ns : List Node). Knows ns c) (sym (ap (λ (g : Graph). g.nodes) same)) knows

-- ---- what is joined between saving and restoring

tried : (nodes : List Node) (fixed : List ℕ) (a b : ℕ) (why : Reason) (old copy mid new : Classes) → Copies old copy → (j : Joins copy mid a b why) → (c : Closes nodes fixed mid new) → HaveMore old new (record { first = a; second = b; why = why } ∷ c.more) []
tried nodes fixed a b why old copy mid new s j c = record {
  joins_are = c.joins ∙ ap (λ (l : List Join). l ++ c.more) (j.joins ∙ ap (λ (l : List Join). l ++ record { first = a; second = b; why = why } ∷ []) s.joins)
      ∙ append_assoc old.joins (record { first = a; second = b; why = why } ∷ []) c.more;
  blocks_are = c.blocks ∙ j.blocks ∙ s.blocks ∙ sym (append-nil old.blocks);
}

pub tried_restores : (nodes : List Node) (fixed : List ℕ) (a b : ℕ) (why : Reason) (old copy mid new : Classes) (saved : Saved) → IsSaved old saved → Copies old copy → Joins copy mid a b why → Closes nodes fixed mid new → CanRestore saved new
tried_restores nodes fixed a b why old copy mid new saved is s j c = record {
  outer = old;
  is = is;
  joins = record { first = a; second = b; why = why } ∷ c.more;
  blocks = [];
  more = tried nodes fixed a b why old copy mid new s j c;
}

pub restored_known : (nodes : List Node) (fixed : List ℕ) (a b : ℕ) (why : Reason) (old copy mid new last : Classes) (saved : Saved) (joins : List Join) (blocks : List Block) → Knows nodes old → IsSaved old saved → Copies old copy → Joins copy mid a b why → Closes nodes fixed mid new
    → Restores saved new last joins blocks → Knows nodes last
restored_known nodes fixed a b why old copy mid new last saved joins blocks knows is s j c r =
    subst (λ (v : Classes). Knows nodes v) (sym (r.back old (record { first = a; second = b; why = why } ∷ c.more) [] is (tried nodes fixed a b why old copy mid new s j c)).0) knows

-- what holds anyway holds where a result is Ok
pub if_always : {A E : Type 0} (r : Result A E) (P : Type 0) → P → IfOk r (λ x. P)
if_always (Ok x) P p = p
if_always (Err e) P p = tt
