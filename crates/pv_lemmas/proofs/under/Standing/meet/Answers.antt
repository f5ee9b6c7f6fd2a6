use Rattle.std.proofs.Common.{◌≡◌, ◌<◌, ℕ, List, Some, length, slice_get, refl, sym, ap, ◌∙◌, arith, true≢false}
use Rattle.std.proofs.lemmas.Option.{slice_get_within}
use Rattle.pv_graph.specs.declared.node.Op.{Op}
use Rattle.pv_graph.specs.Forms.{form}
use Rattle.pv_graph.proofs.Cited.{form_there, node_at}
use Rattle.pv_lemmas.proofs.Asking.{in_place, on_true, on_false, plain_if, variable_meets, variable_for, operation_meets, operation_for}
use Rattle.pv_lemmas.proofs.under.Standing.meet.Goals as goal

pub returns-in-Var-clause-yes : goal.returns-in-Var-clause-yes
returns-in-Var-clause-yes c =
    let inner = c.args.self.now.inner.now in
    let node = c.node-inner.result.now in
    let at = form_there inner.nodes c.args.p node c.node-inner.ensures ∙ ap (λ (o : Op). Some (form o node.kids)) c.in-Var.is in
    on_true c.is_for.result (λ yes. variable_meets inner c.args.self.now.nodes.now c.args.self.now.graph.now c.requires.inner c.args.asked.now.items c.args.p c.args.n c.in-Var.j c.in-Var.field-1 node.kids at (c.is_for.ensures.0 yes))

pub returns-in-Var-clause-no : goal.returns-in-Var-clause-no
returns-in-Var-clause-no c =
    let inner = c.args.self.now.inner.now in
    let node = c.node-inner.result.now in
    let at = form_there inner.nodes c.args.p node c.node-inner.ensures ∙ ap (λ (o : Op). Some (form o node.kids)) c.in-Var.is in
    on_false c.is_for.result
    (λ no under. absurd (true≢false (sym (c.is_for.ensures.1 (variable_for inner c.args.self.now.nodes.now c.args.self.now.graph.now c.args.p c.args.n c.in-Var.j c.in-Var.field-1 node.kids at under)) ∙ no)))

pub returns-then-n-len : goal.returns-then-n-len
returns-then-n-len c =
    let inner = c.args.self.now.inner.now in
    let graph = c.args.self.now.graph.now in
    let node = c.node-inner.result.now in
    let at = form_there inner.nodes c.args.p node c.node-inner.ensures in
    record {
      len = refl;
      yes = tt;
      no = λ under.
          let found = operation_for inner c.args.self.now.nodes.now graph c.args.p c.args.n node.op node.kids (plain_if node.op c.in_default.not-Var) at under in
          let there = node_at graph.nodes c.args.n node.op found.0 found.1 in
          let low = slice_get_within graph.nodes c.args.n there.0 there.1 in
          absurd (let z : c.args.n < length graph.nodes = low in omega (arith, z, c.if-n-len.true, c.len.ensures.len));
    }

pub returns-then-not-is_same_op : goal.returns-then-not-is_same_op
returns-then-not-is_same_op c =
    let inner = c.args.self.now.inner.now in
    let graph = c.args.self.now.graph.now in
    let node = c.node-inner.result.now in
    let other = c.node-node.result.now in
    let at = form_there inner.nodes c.args.p node c.node-inner.ensures in
    record {
      len = refl;
      yes = tt;
      no = λ under.
          let found = operation_for inner c.args.self.now.nodes.now graph c.args.p c.args.n node.op node.kids (plain_if node.op c.in_default.not-Var) at under in
          let there : Some (form node.op found.0) ≡ Some (form other.op other.kids) = sym found.1 ∙ form_there graph.nodes c.args.n other c.node-node.ensures in
          absurd (true≢false (sym (c.is_same_op.ensures.1 (let z = there in cc)) ∙ c.if-not-is_same_op.true));
    }

pub returns-then-kids-are : goal.returns-then-kids-are
returns-then-kids-are c =
    let inner = c.args.self.now.inner.now in
    let graph = c.args.self.now.graph.now in
    let node = c.node-inner.result.now in
    let other = c.node-node.result.now in
    let at = form_there inner.nodes c.args.p node c.node-inner.ensures in
    record {
      len = refl;
      yes = tt;
      no = λ under.
          let found = operation_for inner c.args.self.now.nodes.now graph c.args.p c.args.n node.op node.kids (plain_if node.op c.in_default.not-Var) at under in
          let there : Some (form node.op found.0) ≡ Some (form other.op other.kids) = sym found.1 ∙ form_there graph.nodes c.args.n other c.node-node.ensures in
          let same : found.0 ≡ other.kids = cc in
          absurd (c.if-kids-are.true (ap length c.as_slice-kids.ensures ∙ found.2 ∙ ap length same ∙ sym (ap length c.as_slice-are.ensures)));
    }

pub ask_all-requires : goal.ask_all-requires
ask_all-requires c =
    let inner = c.args.self.now.inner.now in
    let node = c.node-inner.result.now in
    let at = form_there inner.nodes c.args.p node c.node-inner.ensures in
    record {
      long = c.if-kids-are.false;
      within = λ i k kid.
          let low = c.requires.inner.late c.args.p k node.op node.kids at (in_place node.kids i k (ap (λ (xs : List ℕ). slice_get xs i) (sym c.as_slice-kids.ensures) ∙ kid)) in
          omega (arith, low, c.requires.there, c.requires.long);
    }

pub returns : goal.returns
returns c =
    let inner = c.args.self.now.inner.now in
    let graph = c.args.self.now.graph.now in
    let node = c.node-inner.result.now in
    let other = c.node-node.result.now in
    let at = form_there inner.nodes c.args.p node c.node-inner.ensures ∙ ap (λ (ks : List ℕ). Some (form node.op ks)) (sym c.as_slice-kids.ensures) in
    let same : node.op ≡ other.op = c.is_same_op.ensures.0 c.if-not-is_same_op.false in
    let there = form_there graph.nodes c.args.n other c.node-node.ensures ∙ ap (λ (o : Op). Some (form o other.kids)) (sym same) ∙ ap (λ (ks : List ℕ). Some (form node.op ks)) (sym c.as_slice-are.ensures) in
    record {
      len = c.in_ok-ask_all.ensures.len;
      yes = operation_meets inner c.args.self.now.nodes.now graph c.requires.inner c.args.asked.now.items c.ask_all.new.asked.items c.args.p c.args.n node.op _ _ (plain_if node.op c.in_default.not-Var) at there c.if-kids-are.false
          c.in_ok-ask_all.ensures.adds;
      no = tt;
    }
