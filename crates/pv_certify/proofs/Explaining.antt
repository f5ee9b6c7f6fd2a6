-- What a search made is what joins are explained from.
use Rattle.std.proofs.Common.{◌≡◌, ℕ, List, [], ◌∷◌, length, Option, Some, ap, sym, ◌∙◌, subst}
use Rattle.std.proofs.lemmas.Option.{slice_get_within, get_or_from_slice_get}
use Rattle.pv_graph.specs.declared.node.Node.{Node}
use Rattle.pv_graph.specs.declared.node.Op.TheVariants as op
use Rattle.pv_graph.specs.Nodes.{node_of}
use Rattle.pv_graph.specs.Graphs.{Graph}
use Rattle.pv_endings.specs.declared.root.RootParts.{RootParts}
use Rattle.pv_endings.specs.Endings.{IsRootOver}
use Rattle.pv_classes.specs.declared.join.Join.{Join}
use Rattle.pv_classes.specs.Blocks.{Block}
use Rattle.pv_classes.specs.Grounds.{JoinsGround}
use Rattle.pv_classes.specs.Linked.{Linked}
use Rattle.pv_classes.specs.Partition.{AreOne}
use Rattle.pv_prove.proofs.Cited.{OneClass, Search, IsSearch, AreGrounded, IsGroundedSearch}
use Rattle.pv_explain.specs.declared.source.Search as made
use Rattle.pv_explain.specs.Sections.{HasLinked, IsGiven, IsGrounded, IsGrown}
use Rattle.pv_prove.specs.Meetings.{AreMetKids, KidsMeet}

-- this is what the search made
pub record IsMadeBy (m : made.Search) (s : Search) : Type 0 where
  pub graph_ : m.graph.now ≡ s.graph
  pub blocks_ : m.blocks.now ≡ s.classes.blocks
  pub joins_ : m.joins.now ≡ s.classes.joins

module _ (g : Graph) (k : ℕ) (m : made.Search) (s : Search) (is : IsSearch g k s) (by : IsMadeBy m s) where
  -- its graph grew from the least graph
  pub is_grown : IsGrown g m.graph.now
  is_grown = subst (IsGrown g) (sym by.graph_) (record {
    made = is.graph_;
    sealed = is.least.sealed;
    shut = is.sealed;
    base = is.base ∙ is.least.base;
    long = is.least.made.graph.long;
    extends_ = is.grown;
  })

  -- all its joins have their grounds
  pub is_grounded : (ends : List ℕ) → s.endings.items ≡ ends → IsGroundedSearch s → IsGrounded m ends
  is_grounded ends e grounded = by_parts m.graph.now m.blocks.now m.joins.now by.graph_ by.blocks_ by.joins_
    where
      by_parts : (h : Graph) (blocks : List Block) (joins : List Join) → h ≡ s.graph → blocks ≡ s.classes.blocks → joins ≡ s.classes.joins → JoinsGround h.nodes (IsGiven h ends) [] [] blocks joins
      by_parts h blocks joins p q r =
          subst (λ (h : Graph). JoinsGround h.nodes (IsGiven h ends) [] [] blocks joins) (sym p)
          (subst (λ (bs : List Block). JoinsGround s.graph.nodes (IsGiven s.graph ends) [] [] bs joins) (sym q)
          (subst (λ (js : List Join). JoinsGround s.graph.nodes (IsGiven s.graph ends) [] [] s.classes.blocks js) (sym r)
          (subst (λ (es : List ℕ). AreGrounded s.graph es s.classes) e grounded)))

  -- nodes in one class are linked by them
  pub has_linked : (a b : ℕ) → OneClass s.classes.numbers a b → HasLinked m a b
  has_linked a b one =
      let same : AreOne s.classes.numbers a b = get_or_from_slice_get s.classes.numbers a one.0 0 one.1 ∙ sym (get_or_from_slice_get s.classes.numbers b one.0 0 one.2) in
      let linked = (is.classes_.linked a b (slice_get_within s.classes.numbers a one.0 one.1) (slice_get_within s.classes.numbers b one.0 one.2)).0 same in
      subst (λ (h : Graph). Linked (length h.nodes) m.joins.now a b) (sym by.graph_)
      (subst (λ (js : List Join). Linked (length s.graph.nodes) js a b) (sym by.joins_)
      (subst (λ (n : ℕ). Linked n s.classes.joins a b) is.knows.long linked))

-- ---- roots over kids

abbrev kids_in : RootParts → List ℕ
kids_in r = r.token ∷ r.fault ∷ r.result ∷ r.heap ∷ []

-- a root has one list of kids
pub parts_once : (g : Graph) (p : ℕ) (l r : RootParts) → IsRootOver g p l → IsRootOver g p r → l ≡ r
parts_once g p l r a b =
    let same : ◌≡◌ {A = Option Node} (Some (node_of op.Root (kids_in l))) (Some (node_of op.Root (kids_in r))) = sym a ∙ b in
    let nodes : node_of op.Root (kids_in l) ≡ node_of op.Root (kids_in r) = cc same in
    let kids : kids_in l ≡ kids_in r = ap (λ (n : Node). n.kids) nodes in
    let token : l.token ≡ r.token = cc kids in
    let fault : l.fault ≡ r.fault = cc kids in
    let result : l.result ≡ r.result = cc kids in
    let heap : l.heap ≡ r.heap = cc kids in
    ap (λ (n : ℕ). record { token = n; fault = l.fault; result = l.result; heap = l.heap }) token
    ∙ ap (λ (n : ℕ). record { token = r.token; fault = n; result = l.result; heap = l.heap }) fault
    ∙ ap (λ (n : ℕ). record { token = r.token; fault = r.fault; result = n; heap = l.heap }) result
    ∙ ap (λ (n : ℕ). record { token = r.token; fault = r.fault; result = r.result; heap = n }) heap

-- the kids that met are these
pub kids_are : (g : Graph) (p q : ℕ) (plain ending : List ℕ) (l r : RootParts) → KidsMeet g p q plain ending → IsRootOver g p l → IsRootOver g q r → AreMetKids l r plain ending
kids_are g p q plain ending l r met is are =
    subst (λ (x : RootParts). AreMetKids x r plain ending) (parts_once g p met.0 l met.2 is)
    (subst (λ (y : RootParts). AreMetKids met.0 y plain ending) (parts_once g q met.1 r met.3 are) met.4)
