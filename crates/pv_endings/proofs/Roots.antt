-- What a root waits for, by its token.
use Rattle.std.specs.Prelude.{◌≡◌, ◌↔◌, ℕ, ◌<◌, ◌≤◌, Bool, List, [], ◌∷◌, length, slice_get, refl, Result, Ok, Err, IfOk, IsTrue}
use Rattle.std.specs.List.{AllByRecursion}
use Rattle.std.proofs.Common.{inl, inr, sym, ap, ◌∙◌, subst, arith}
use Rattle.std.proofs.lemmas.Option.{same_Some, slice_get_within}
use Rattle.pv_graph.specs.declared.node.Op.TheVariants as op
use Rattle.pv_graph.specs.declared.node.Node.{Node}
use Rattle.pv_graph.specs.Nodes.{node_of}
use Rattle.pv_graph.specs.Walks.{In}
use Rattle.pv_graph.specs.Graphs.{Graph, IsGraph}
use Rattle.pv_graph.proofs.Cited.{kid_within}
use Rattle.pv_steps.specs.Right.{MayBeAssumed, RootKids}
use Rattle.pv_endings.specs.declared.root.RootParts.{RootParts}
use Rattle.pv_graph.specs.Reach.{IsMarked}
use Rattle.pv_endings.specs.Endings.{AreEndingsOf, IsEnding, IsRootOver, WaitsFor}
use Rattle.pv_endings.specs.Spine.{IsSpine}
use Rattle.pv_endings.specs.Waiting.{AreWaitingOn, Waits}
use Rattle.pv_endings.proofs.Tested.{assumed_there, may_be_is}
use Rattle.pv_endings.proofs.Listed.{none_ascend}

-- ---- a root and its kids

abbrev node_over : RootParts → Node
node_over k = node_of op.Root (k.token ∷ k.fault ∷ k.result ∷ k.heap ∷ [])

abbrev kids_over : (g : Graph) (p : ℕ) (k : RootParts) → IsRootOver g p k → RootKids g p
kids_over g p k is = record { token = k.token; fault_ = k.fault; result = k.result; heap = k.heap; is = is }

not_root : (g : Graph) (p : ℕ) → ((k : RootParts) → IsRootOver g p k → ⊥) → RootKids g p → ⊥
not_root g p none r = none (record { token = r.token; fault = r.fault_; result = r.result; heap = r.heap }) r.is

token_same : (g : Graph) (p : ℕ) (k : RootParts) → IsRootOver g p k → (r : RootKids g p) → r.token ≡ k.token
token_same g p k is r = first _ _ _ _ (ap (λ (n : Node). n.kids) (same_Some _ _ (sym r.is ∙ is)))
  where
    first : (a b : ℕ) (xs ys : List ℕ) → a ∷ xs ≡ b ∷ ys → a ≡ b
    first a b xs ys e = cc

pub none_past : (g : Graph) (p : ℕ) → length g.nodes ≤ p → (k : RootParts) → IsRootOver g p k → ⊥
none_past g p low k is = let z = slice_get_within g.nodes p (node_over k) is in omega (arith, z, low)

-- the token is a node, over a graph of the same nodes
pub token_low : (g h : Graph) → h.nodes ≡ g.nodes → IsGraph h → (p : ℕ) (k : RootParts) → IsRootOver g p k → k.token < length h.nodes
token_low g h e graph p k is = kid_within h graph p k.token (node_over k) (ap (λ (q : List Node). slice_get q p) e ∙ is) (inl refl)

-- ---- what it waits for

-- all that waits for the token, over a graph of the same nodes
pub are_endings : (g h : Graph) (p : ℕ) (k : RootParts) (ns : List ℕ) → h.nodes ≡ g.nodes → IsRootOver g p k → AreWaitingOn h k.token ns → AreEndingsOf g p ns
are_endings g h p k ns e is on = record {
  are = λ n. (
    (λ i. (kids_over g p k is, assumed_there h g e k.token n ((on.are n).0 i))),
    (λ r. (on.are n).1 (assumed_there g h (sym e) k.token n (subst (λ (t : ℕ). MayBeAssumed g t n) (token_same g p k is r.0) r.1))),
  );
  ordered = on.ordered;
}

-- a node that is no root has none
pub no_endings : (g : Graph) (p : ℕ) → ((k : RootParts) → IsRootOver g p k → ⊥) → AreEndingsOf g p []
no_endings g p none = record { are = λ n. ((λ i. absurd i), (λ r. absurd (not_root g p none r.0))); ordered = none_ascend }

-- a root has none either where no marked node waits, and the spine of its token is marked
pub none_wait : (g : Graph) → IsGraph g → (p : ℕ) (k : RootParts) (marks : List Bool) → IsRootOver g p k → IsSpine g.nodes k.token marks → ((n : ℕ) → Waits g n → IsMarked marks n → ⊥) → AreEndingsOf g p []
none_wait g graph p k marks is spine none = record { are = λ n. ((λ i. absurd i), (λ r. absurd (nothing n r))); ordered = none_ascend }
  where
    nothing : (n : ℕ) → IsEnding g p n → ⊥
    nothing n r = let m = (may_be_is g graph k.token marks spine n).1 (subst (λ (t : ℕ). MayBeAssumed g t n) (token_same g p k is r.0) r.1) in none n m.0 m.1.1

all_in : (P : ℕ → Type 0) (xs : List ℕ) → AllByRecursion P xs → (x : ℕ) → In xs x → P x
all_in P [] h x m = absurd m
all_in P (y ∷ ys) h x (inl e) = subst P e h.0
all_in P (y ∷ ys) h x (inr m) = all_in P ys h.1 x m

in_all : (P : ℕ → Type 0) (xs : List ℕ) → ((x : ℕ) → In xs x → P x) → AllByRecursion P xs
in_all P [] h = tt
in_all P (y ∷ ys) h = (h y (inl refl), in_all P ys (λ x m. h x (inr m)))

-- given nodes, one after another
pub waits_is : (g : Graph) (p : ℕ) (k : RootParts) (nodes : List ℕ) → IsRootOver g p k → AllByRecursion (MayBeAssumed g k.token) nodes ↔ WaitsFor g p nodes
waits_is g p k nodes is = (
  λ h. record { root = kids_over g p k is; each = all_in (MayBeAssumed g k.token) nodes h },
  λ w. in_all (MayBeAssumed g k.token) nodes (λ n m. subst (λ (t : ℕ). MayBeAssumed g t n) (token_same g p k is w.root) (w.each n m)),
)

pub not_waits : (g : Graph) (p : ℕ) (nodes : List ℕ) → ((k : RootParts) → IsRootOver g p k → ⊥) → WaitsFor g p nodes → ⊥
not_waits g p nodes none w = not_root g p none w.root

-- an answer of another question with the same answer
pub if_ok_map : {E : Type 0} (r : Result Bool E) (P Q : Type 0) → (P ↔ Q) → IfOk r (λ yes. IsTrue yes ↔ P) → IfOk r (λ yes. IsTrue yes ↔ Q)
if_ok_map (Ok b) P Q f h = (λ e. f.0 (h.0 e), λ q. h.1 (f.1 q))
if_ok_map (Err e) P Q f h = tt
