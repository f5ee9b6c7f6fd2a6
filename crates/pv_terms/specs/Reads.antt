-- Which expression a node of a graph stands for.
--
-- While the graph of a method is made, the theta of a carried slot of a loop may have no kids yet; so in expressions it is a name,
-- and a list says which node each name is. All other operations are added once, so that two expressions are equal as written
-- exactly where they are read by one node.
use Rattle.std.specs.Prelude.{◌≡◌, ◌≢◌, ℕ, List, [], ◌∷◌, Some, slice_get, ⊤}
use Rattle.pv_graph.specs.declared.node.Op.{Op}
use Rattle.pv_graph.specs.declared.node.Op.TheVariants as op
use Rattle.pv_graph.specs.declared.node.Node.{Node}
use Rattle.pv_graph.specs.Nodes.{node_of, IsFirst}
use Rattle.pv_graph.specs.Walks.{In}
use Rattle.pv_equations.specs.Exp.{Exp, Exps, Name, Over, NoExp, Then}
use Rattle.pv_terms.specs.declared.names.Named.{Named}

-- the name of a slot at the header of a loop, with its node
abbrev pub named : ℕ → ℕ → ℕ → Named
named h s n = record { header = h; slot = s; node = n }

-- an operation that isn't a theta
abbrev pub IsNoTheta : Op → Type 0
IsNoTheta o = (d : ℕ) → o ≢ op.Theta d

abbrev mutual
  -- the node stands for the expression: that of a name is the node listed with it, and any other is the least node of the
  -- operation over nodes that stand for its kids
  pub Reads : List Node → List Named → ℕ → Exp → Type 0
  Reads nodes names n (Name h s) = In names (named h s n)
  Reads nodes names n (Over o es) = (ks : List ℕ) × IsNoTheta o × IsFirst nodes (node_of o ks) n × ReadAll nodes names ks es

  pub ReadAll : List Node → List Named → List ℕ → Exps → Type 0
  ReadAll nodes names [] NoExp = ⊤
  ReadAll nodes names (k ∷ ks) (Then e es) = Reads nodes names k e × ReadAll nodes names ks es
  ReadAll nodes names ks es = ⊥

-- the node is a theta of this depth, tied or not
abbrev pub IsTheta : List Node → ℕ → ℕ → Type 0
IsTheta nodes d n = (ks : List ℕ) × (slice_get nodes n ≡ Some (node_of (op.Theta d) ks))

-- each named node is a theta of the depth of its header's loop; a node has one name, and a name one node
pub record AreNames (depth : ℕ → ℕ) (nodes : List Node) (names : List Named) : Type 0 where
  pub thetas : (h s n : ℕ) → In names (named h s n) → IsTheta nodes (depth h) n
  pub one_name : (h s k t n : ℕ) → In names (named h s n) → In names (named k t n) → (h ≡ k) × (s ≡ t)
  pub one_node : (h s n m : ℕ) → In names (named h s n) → In names (named h s m) → n ≡ m

-- what adding nodes and tying thetas keep: the least numbers of nodes that aren't thetas, and the depths of thetas
pub record Stand (old new : List Node) : Type 0 where
  pub others : (n : ℕ) (o : Op) (ks : List ℕ) → IsNoTheta o → IsFirst old (node_of o ks) n → IsFirst new (node_of o ks) n
  pub thetas : (n d : ℕ) → IsTheta old d n → IsTheta new d n

-- each name of a list is in the other
abbrev pub Within : List Named → List Named → Type 0
Within names more = (h s n : ℕ) → In names (named h s n) → In more (named h s n)
