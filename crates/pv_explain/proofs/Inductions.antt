-- Inductions: what the steps of their blocks rest on, and what is visible in them and after them.
use Rattle.std.specs.Prelude.{◌≡◌, ℕ, suc, pos, map, List, [], ◌∷◌, ◌++◌, length, Some, slice_get}
use Rattle.std.specs.List.{AllZip}
use Rattle.std.proofs.Common.{inl, inr, refl, sym, ap, ◌∙◌, subst}
use Rattle.pv_value.specs.declared.heap.Kind.TheVariants as kind
use Rattle.pv_value.specs.declared.number.Num.TheVariants as num
use Rattle.pv_graph.specs.declared.node.Op.{Op}
use Rattle.pv_graph.specs.declared.node.Op.TheVariants as op
use Rattle.pv_graph.specs.Forms.{form}
use Rattle.pv_graph.specs.Walks.{In}
use Rattle.pv_graph.specs.Nodes.{node_of}
use Rattle.pv_graph.specs.Graphs.{Graph, form_at}
use Rattle.pv_graph.proofs.Cited.{form_there}
use Rattle.pv_pattern.specs.Patterns.{var, Axiom}
use Rattle.pv_pattern.specs.Instances.{Names}
use Rattle.pv_scalar.specs.Table.{scalar_axioms}
use Rattle.pv_loopax.specs.Table.{rule, eval, theta, shift, zero_, single, shifts, evals, family, loop_axioms}
use Rattle.pv_heapax.specs.Table.{heap_axioms}
use Rattle.pv_choiceax.specs.Table.{choice_axioms}
use Rattle.pv_axioms.specs.Entries.{core_axioms, axioms, IsEntry, ByAxioms, Instance}
use Rattle.pv_steps.specs.declared.step.Fact.{Fact}
use Rattle.pv_steps.specs.declared.step.Step.{Step}
use Rattle.pv_steps.specs.declared.step.Step.TheVariants.{Open, Close}
use Rattle.pv_steps.specs.Steps.{Loop, OpenBlock, outer_of, pairs_of, open_after, AreOpen, Shows}
use Rattle.pv_steps.specs.Right.{ClosesPair, RightOver}
use Rattle.pv_writer.specs.Written.{Written, inside, IsFact, IsLater, Pushed}
use Rattle.pv_writer.proofs.Stated.{last_shows}

-- ---- the two axioms of loops that an induction takes

in_left : {A : Type 0} (xs ys : List A) (x : A) → In xs x → In (xs ++ ys) x
in_left [] ys x m = absurd m
in_left (z ∷ xs) ys x (inl e) = inl e
in_left (z ∷ xs) ys x (inr m) = inr (in_left xs ys x m)

in_right : {A : Type 0} (xs ys : List A) (x : A) → In ys x → In (xs ++ ys) x
in_right [] ys x m = m
in_right (z ∷ xs) ys x m = inr (in_right xs ys x m)

abbrev plain_names : ℕ → ℕ → ℕ → Names
plain_names d a b = record { depth = d; symbols = λ k. record { class = []; name = []; desc = [] }; kinds = λ k. kind.Int; constants = λ k. num.Int (pos 0); op_ = op.Zero; kids = []; vars = a ∷ b ∷ [] }

form_of_node : (g : Graph) (n : ℕ) (o : Op) (ks : List ℕ) → slice_get g.nodes n ≡ Some (node_of o ks) → form_at g.nodes n ≡ Some (form o ks)
form_of_node g n o ks e = form_there g.nodes n (node_of o ks) e

abbrev first_rule : Axiom
first_rule = rule 301 (eval (theta (var 0) (var 1)) zero_) (eval (var 0) zero_) []

abbrev next_rule : Axiom
next_rule = rule 303 (shift (theta (var 0) (var 1))) (var 1) []

loop_entry : (a : Axiom) → In single a → In axioms a
loop_entry a i = in_left core_axioms choice_axioms a (in_right scalar_axioms (loop_axioms ++ heap_axioms) a (in_left loop_axioms heap_axioms a (in_left single (map shifts family ++ map evals family) a i)))

first_entry : IsEntry axioms 301 first_rule
first_entry = record { entry = loop_entry first_rule (inl refl); number = refl }

next_entry : IsEntry axioms 303 next_rule
next_entry = record { entry = loop_entry next_rule (inr (inr (inl refl))); number = refl }

-- at iteration 0 a theta is its first kid
pub first_instance : (g : Graph) (assumed : List ℕ) (d x a b z e f : ℕ) → slice_get g.nodes x ≡ Some (node_of (op.Theta d) (a ∷ b ∷ [])) → slice_get g.nodes z ≡ Some (node_of op.Zero [])
    → slice_get g.nodes e ≡ Some (node_of (op.Eval d) (x ∷ z ∷ [])) → slice_get g.nodes f ≡ Some (node_of (op.Eval d) (a ∷ z ∷ [])) → Instance g assumed 301 (a ∷ b ∷ []) e f
first_instance g assumed d x a b z e f theta_is zero_is left right = (
  first_rule,
  first_entry,
  record {
    names = plain_names d a b;
    are = refl;
    long = refl;
    alone = λ h. refl;
    left = (x ∷ z ∷ [], form_of_node g e (op.Eval d) (x ∷ z ∷ []) left, ((a ∷ b ∷ [], form_of_node g x (op.Theta d) (a ∷ b ∷ []) theta_is, (refl, (refl, tt))), (([], form_of_node g z op.Zero [] zero_is, tt), tt)));
    right = (a ∷ z ∷ [], form_of_node g f (op.Eval d) (a ∷ z ∷ []) right, (refl, (([], form_of_node g z op.Zero [] zero_is, tt), tt)));
    sides = tt;
  },
)

-- one iteration later it is its second kid
pub next_instance : (g : Graph) (assumed : List ℕ) (d x a b s : ℕ) → slice_get g.nodes x ≡ Some (node_of (op.Theta d) (a ∷ b ∷ [])) → slice_get g.nodes s ≡ Some (node_of (op.Shift d) (x ∷ [])) → Instance g assumed 303 (a ∷ b ∷ []) s b
next_instance g assumed d x a b s theta_is left = (
  next_rule,
  next_entry,
  record {
    names = plain_names d a b;
    are = refl;
    long = refl;
    alone = λ h. refl;
    left = (x ∷ [], form_of_node g s (op.Shift d) (x ∷ []) left, ((a ∷ b ∷ [], form_of_node g x (op.Theta d) (a ∷ b ∷ []) theta_is, (refl, (refl, tt))), tt));
    right = refl;
    sides = tt;
  },
)

-- ---- an induction is opened

pub opens_blocks : (old new : Written) (d n : ℕ) (pairs : List (ℕ × ℕ)) → Pushed old new (Open d pairs) n → inside new ≡ record { opened = suc (length old.before); block = Loop d pairs } ∷ inside old
opens_blocks old new d n pairs h = ap open_after h.before_

-- .. and states each of its pairs
pub opened_pair : (old new : Written) (d n j a b : ℕ) (pairs : List (ℕ × ℕ)) → Pushed old new (Open d pairs) n → slice_get pairs j ≡ Some (a, b) → IsFact new (record { step = n; place = suc j }) a b
opened_pair old new d n j a b pairs h at =
    subst (λ (b' : List Step). Shows b' (inside new) (record { step = n; place = suc j }) a b) (sym h.before_)
    (last_shows (Open d pairs) old.before n (suc j) a b (inside new) h.number at (sym (opens_blocks old new d n pairs h)))

-- ---- it is closed

pub close_right : (w : Written) (d opened : ℕ) (pairs : List (ℕ × ℕ)) (outer : List OpenBlock) (fs : List (Fact × Fact)) → inside w ≡ record { opened = opened; block = Loop d pairs } ∷ outer → AllZip (ClosesPair w.graph w.before d (inside w) outer) pairs fs
    → RightOver ByAxioms w.graph w.before (Close d fs)
close_right w d opened pairs outer fs at h = record { opened = opened; pairs = pairs; outer = outer; innermost = at; each = h }

pub closes_blocks : (old new : Written) (d n opened : ℕ) (pairs : List (ℕ × ℕ)) (outer : List OpenBlock) (fs : List (Fact × Fact)) → Pushed old new (Close d fs) n → inside old ≡ record { opened = opened; block = Loop d pairs } ∷ outer
    → inside new ≡ outer
closes_blocks old new d n opened pairs outer fs h at = ap open_after h.before_ ∙ ap outer_of at

-- .. and states each pair outside
pub closed_pair : (old new : Written) (d n opened j a b : ℕ) (pairs : List (ℕ × ℕ)) (outer : List OpenBlock) (fs : List (Fact × Fact)) → Pushed old new (Close d fs) n → inside old ≡ record { opened = opened; block = Loop d pairs } ∷ outer
    → slice_get pairs j ≡ Some (a, b) → IsFact new (record { step = n; place = suc j }) a b
closed_pair old new d n opened j a b pairs outer fs h at there =
    subst (λ (b' : List Step). Shows b' (inside new) (record { step = n; place = suc j }) a b) (sym h.before_)
    (last_shows (Close d fs) old.before n (suc j) a b (inside new) h.number (ap (λ (ps : List OpenBlock). slice_get (pairs_of ps) j) at ∙ there) (sym (ap open_after h.before_)))

-- a fact that was visible before the block was opened is so after it is closed
pub outer_goes : (old now new : Written) (outer : List OpenBlock) (f : Fact) (a b : ℕ) → inside old ≡ outer → IsLater old now → IsLater now new → inside new ≡ outer → IsFact old f a b → IsFact new f a b
outer_goes old now new outer f a b e h k g s = record {
  around = s.around;
  stated = k.stated f (record { around = s.around; left = a; right = b }) (h.stated f (record { around = s.around; left = a; right = b }) s.stated);
  visible = subst (λ (ps : List OpenBlock). AreOpen s.around ps) (e ∙ sym g) s.visible;
}
