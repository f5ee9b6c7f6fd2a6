-- What is given in a graph is given in those that grew from it.
use Rattle.std.specs.Prelude.{ℕ, ◌<◌, List, length}
use Rattle.std.proofs.Common.{sym, ◌∙◌}
use Rattle.pv_graph.specs.Graphs.{Graph, IsGraph, Extends}
use Rattle.pv_graph.proofs.Cited.{sort_there}
use Rattle.pv_classes.specs.declared.join.Join.{Join}
use Rattle.pv_classes.specs.Blocks.{Block}
use Rattle.pv_classes.specs.Sorts.{HaveOneSort}
use Rattle.pv_classes.specs.Grounds.{Context}
use Rattle.pv_explain.specs.Sections.{IsGiven}
use Rattle.pv_instances.proofs.Growing.{node_kept}
use Rattle.pv_rounds.proofs.Growing.{instance_grows}
use Rattle.pv_grounds.specs.Grounds.{HaveGrounds, HasGround}
use Rattle.pv_grounds.proofs.Staying.{joins_stay, block_stays}

module _ (old new : Graph) (assumed : List ℕ) (is : IsGraph old) (e : Extends old new) where
  -- two nodes of one sort have one sort still
  one_sort_stays : (a b : ℕ) → a < length old.nodes → HaveOneSort old.sorts a b → HaveOneSort new.sorts a b
  one_sort_stays a b low one = let s = sort_there old is a low in e.sorts a s.0 s.1 ∙ sym (e.sorts b s.0 (sym one ∙ s.1))

  pub given_stays : (n : ℕ) (nodes : List ℕ) (a b : ℕ) → IsGiven old assumed n nodes a b → IsGiven new assumed n nodes a b
  given_stays n nodes a b h = record {
    instance_ = instance_grows old new is e assumed n nodes a b h.nodes_ h.instance_;
    nodes_ = λ k i. node_kept old new e k (h.nodes_ k i);
    first = node_kept old new e a h.first;
    second = node_kept old new e b h.second;
    one_sort = one_sort_stays a b h.first h.one_sort;
  }

  pub grounds_stay : (ctx : Context) (before : List Join) (blocks : List Block) (joins : List Join) → HaveGrounds old assumed ctx before blocks joins → HaveGrounds new assumed ctx before blocks joins
  grounds_stay ctx before blocks joins h = joins_stay old.nodes new.nodes e.nodes (IsGiven old assumed) (IsGiven new assumed) given_stays ctx before blocks joins h

  pub ground_stays : (ctx : Context) (before : List Join) (b : Block) → HasGround old assumed ctx before b → HasGround new assumed ctx before b
  ground_stays ctx before b h = block_stays old.nodes new.nodes e.nodes (IsGiven old assumed) (IsGiven new assumed) given_stays ctx before b h
