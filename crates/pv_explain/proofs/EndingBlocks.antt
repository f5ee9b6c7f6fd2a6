-- An ending block: it is opened, its nodes are assumed to end in it, and it is ended.
use Rattle.std.specs.Prelude.{◌≡◌, ℕ, ◌<◌, List, [], ◌∷◌, length, slice_get}
use Rattle.std.proofs.Common.{inl, inr, refl, sym, ap, ◌∙◌, subst}
use Rattle.std.proofs.lemmas.Option.{same_Some, slice_get_within}
use Rattle.pv_graph.specs.declared.node.Op.TheVariants as op
use Rattle.pv_graph.specs.declared.node.Node.{Node}
use Rattle.pv_graph.specs.Nodes.{node_of}
use Rattle.pv_graph.specs.Walks.{In}
use Rattle.pv_graph.specs.Graphs.{Graph, IsGraph, Extends}
use Rattle.pv_graph.specs.Calls.{IsSame}
use Rattle.pv_graph.proofs.Cited.{kid_within}
use Rattle.pv_steps.specs.declared.step.Reason.{Reason}
use Rattle.pv_steps.specs.declared.step.Step.{Step}
use Rattle.pv_steps.specs.declared.step.Reason.TheVariants.{Same, By, Pair}
use Rattle.pv_steps.specs.declared.step.Step.TheVariants.{Assume, Finish}
use Rattle.pv_steps.specs.Steps.{OpenBlock, blocks, assumed_in, open_after, Shows}
use Rattle.pv_steps.specs.Right.{Gives, IsFresh, MayBeAssumed, RootKids, RightOver}
use Rattle.pv_steps.proofs.Growing.{closed_kept, spine_kept}
use Rattle.pv_axioms.specs.Entries.{ByAxioms}
use Rattle.pv_endings.specs.declared.root.RootParts.{RootParts}
use Rattle.pv_endings.specs.Endings.{IsEnding, IsRootOver, WaitsFor}
use Rattle.pv_writer.specs.Written.{Written, inside, IsLater, Pushed}
use Rattle.pv_writer.proofs.Stated.{last_shows}
use Rattle.pv_writer.proofs.Pushing.{shows_goes}
use Rattle.pv_explain.specs.Copying.{HasBase}
use Rattle.pv_explain.specs.Levels.{IsOutside, HasLast}
use Rattle.pv_explain.specs.Endings.{IsInBlock}

-- ---- the certificate's graph grows

pub grows_later : (least : Graph) (first now : Written) → IsSame least first.graph → IsLater first now → Extends least now.graph
grows_later least first now same later = record {
  nodes = λ n x e. later.nodes n x (ap (λ (q : Graph). slice_get q.nodes n) same ∙ e);
  sorts = λ n s e. later.sorts n s (ap (λ (q : Graph). slice_get q.sorts n) same ∙ e);
}

pub base_later : (old new : Written) (g : Graph) → IsLater old new → HasBase old g → HasBase new g
base_later old new g later h = record { nodes = λ n x low e. later.nodes n x (h.nodes n x low e); sorts = λ n s low e. later.sorts n s (h.sorts n s low e) }

-- ---- a root

abbrev root_over : RootParts → Node
root_over k = node_of op.Root (k.token ∷ k.fault ∷ k.result ∷ k.heap ∷ [])

abbrev root_kids : (g : Graph) (p : ℕ) (k : RootParts) → IsRootOver g p k → RootKids g p
root_kids g p k is = record { token = k.token; fault_ = k.fault; result = k.result; heap = k.heap; is = is }

pub root_kept : (old new : Graph) (p : ℕ) (k : RootParts) → Extends old new → IsRootOver old p k → IsRootOver new p k
root_kept old new p k ext is = ext.nodes p (root_over k) is

-- its kids are nodes
pub record AreKids (g : Graph) (k : RootParts) : Type 0 where
  pub token : k.token < length g.nodes
  pub fault_ : k.fault < length g.nodes
  pub result : k.result < length g.nodes
  pub heap : k.heap < length g.nodes

pub kids_low : (g : Graph) (p : ℕ) (k : RootParts) → IsGraph g → IsRootOver g p k → AreKids g k
kids_low g p k graph is = record {
  token = kid_within g graph p k.token (root_over k) is (inl refl);
  fault_ = kid_within g graph p k.fault (root_over k) is (inr (inl refl));
  result = kid_within g graph p k.result (root_over k) is (inr (inr (inl refl)));
  heap = kid_within g graph p k.heap (root_over k) is (inr (inr (inr (inl refl))));
}

token_same : (g : Graph) (p : ℕ) (k : RootParts) → IsRootOver g p k → (r : RootKids g p) → r.token ≡ k.token
token_same g p k is r = first _ _ _ _ (ap (λ (n : Node). n.kids) (same_Some _ _ (sym r.is ∙ is)))
  where
    first : (a b : ℕ) (xs ys : List ℕ) → a ∷ xs ≡ b ∷ ys → a ≡ b
    first a b xs ys e = cc

-- ---- what it waits for

pub waits_endings : (g : Graph) (p : ℕ) (k : RootParts) (nodes : List ℕ) → IsRootOver g p k → ((n : ℕ) → In nodes n → IsEnding g p n) → WaitsFor g p nodes
waits_endings g p k nodes is h = record {
  root = root_kids g p k is;
  each = λ n m. let e = h n m in subst (λ (t : ℕ). MayBeAssumed g t n) (token_same g p k is e.0) e.1;
}

pub waits_kept : (old new : Graph) (p : ℕ) (nodes : List ℕ) → IsGraph old → Extends old new → WaitsFor old p nodes → WaitsFor new p nodes
waits_kept old new p nodes graph ext h = record {
  root = record { token = h.root.token; fault_ = h.root.fault_; result = h.root.result; heap = h.root.heap; is = ext.nodes p _ h.root.is };
  each = λ n m.
      let a = h.each n m in record {
        o = a.o;
        kids = a.kids;
        is = ext.nodes n (node_of a.o a.kids) a.is;
        waits = a.waits;
        closed = closed_kept old new graph ext n (slice_get_within old.nodes n (node_of a.o a.kids) a.is) a.closed;
        spine = spine_kept old new ext h.root.token n a.spine;
      };
}

-- these are nodes
pub endings_low : (g : Graph) (p : ℕ) (nodes : List ℕ) → ((n : ℕ) → In nodes n → IsEnding g p n) → (n : ℕ) → In nodes n → n < length g.nodes
endings_low g p nodes h n m = let a = (h n m).1 in slice_get_within g.nodes n (node_of a.o a.kids) a.is

-- ---- a block is opened

pub assume_right : (w : Written) (p : ℕ) (nodes list : List ℕ) → inside w ≡ [] → WaitsFor w.graph p nodes → list ≡ nodes → RightOver ByAxioms w.graph w.before (Assume p list)
assume_right w p nodes list none h e = subst (λ (ns : List ℕ). RightOver ByAxioms w.graph w.before (Assume p ns)) (sym e) (record { outside = none; root = h.root; each = h.each })

-- ---- inside it

-- no induction is open in it
pub block_outside : (w : Written) (g : Graph) (p : ℕ) (nodes : List ℕ) → IsInBlock w p nodes → ((n : ℕ) → In nodes n → n < g.base) → IsOutside w g
block_outside w g p nodes b low = record {
  fresh = λ d. subst (λ (ps : List OpenBlock). IsFresh d (blocks ps)) (sym b.only) tt;
  low = λ e m. low e (subst (λ (ps : List OpenBlock). In (assumed_in ps) e) b.only m);
}

-- a reason from outside all blocks stands outside it still
pub outer_gives : (old new : Written) (r : Reason) (a b : ℕ) → inside old ≡ [] → IsLater old new → Gives old.before (inside old) [] r a b → Gives new.before [] [] r a b
outer_gives old new Same a b none later h = h
outer_gives old new (By f) a b none later h = shows_goes old new [] f a b later (subst (λ (ps : List OpenBlock). Shows old.before ps f a b) none h)
outer_gives old new (Pair j) a b none later h = h

-- ---- it is ended

pub finish_right : (w : Written) (p q : ℕ) (k l : RootParts) (nodes : List ℕ) (t f r h : Reason) → IsInBlock w p nodes → IsRootOver w.graph p k → IsRootOver w.graph q l → Gives w.before [] [] t k.token l.token → Gives w.before (inside w) [] f k.fault l.fault
    → Gives w.before (inside w) [] r k.result l.result → Gives w.before (inside w) [] h k.heap l.heap → RightOver ByAxioms w.graph w.before (Finish p q t f r h)
finish_right w p q k l nodes t f r h b left right tokens faults results heaps = record {
  opened = b.opened;
  nodes = nodes;
  outer = [];
  innermost = b.only;
  left = root_kids w.graph p k left;
  right = root_kids w.graph q l right;
  tokens = tokens;
  faults = faults;
  results = results;
  heaps = heaps;
}

-- its last step states that the roots are equal
pub finish_last : (old new : Written) (p q n : ℕ) (t f r h : Reason) → Pushed old new (Finish p q t f r h) n → HasLast new p q
finish_last old new p q n t f r h pushed = record {
  fact = record { step = n; place = 1 };
  last = pushed.number ∙ sym (ap length pushed.before_);
  shows = subst (λ (b : List Step). Shows b (inside new) (record { step = n; place = 1 }) p q) (sym pushed.before_)
      (last_shows (Finish p q t f r h) old.before n 1 p q (inside new) pushed.number refl (sym (ap open_after pushed.before_)));
}
