use Rattle.std.proofs.Common.{◌≡◌, ℕ, ◌+◌, List, [], ◌∷◌, ◌++◌, length, length-append, Option, Some, None, slice_get, sym, ap, ◌∙◌, subst, arith}
use Rattle.pv_build.proofs.Words.{slice_get-get_or, some_of, sorted_within, IsUnnamed, Named, named, Theta, number, Begins, AreNodes}
use Rattle.pv_build.proofs.Begun.{keeps_then, keeps_opens, keeps_begins, begins_next, nodes_more, nodes_same, next_unnamed}
use Rattle.pv_build.proofs.opening.begin_all.Goals as goal

pub loop-kid-preserved-in_default : goal.loop-kid-preserved-in_default
loop-kid-preserved-in_default c =
    let kids : List (Option ℕ) = c.args.kids.now in
    let nodes : List (Option ℕ) = c.loop-kid.nodes.items in
    let at : slice_get kids c.loop-kid.kid-index ≡ Some None = slice_get-get_or kids c.loop-kid.kid-index None c.loop-kid-test.true ∙ ap (λ (k : Option ℕ). Some k) c.in_default.is in
    record {
      begins = c.loop-kid.invariant.begins;
      nodes_are = subst (AreNodes c.args.head kids c.args.names.now c.loop-kid.names c.loop-kid.thetas.items) (sym c.in_ok-push.ensures.items)
          (nodes_same c.args.head kids c.args.g.now c.args.names.now c.loop-kid.names c.loop-kid.thetas.items nodes (ap (slice_get kids) c.loop-kid.invariant.size ∙ at) c.loop-kid.invariant.nodes_are);
      size = ap length c.in_ok-push.ensures.items ∙ length-append nodes (None ∷ []) ∙ ap (λ (n : ℕ). n + 1) c.loop-kid.invariant.size;
    }

pub sort-sort-requires : goal.sort-sort-requires
sort-sort-requires c =
    let at : slice_get c.args.kids.now c.loop-kid.kid-index ≡ Some (Some c.in-Some.first) = slice_get-get_or c.args.kids.now c.loop-kid.kid-index None c.loop-kid-test.true ∙ ap (λ (k : Option ℕ). Some k) c.in-Some.is in
    let z = c.requires.can.sorted c.loop-kid.kid-index c.in-Some.first at in
    sorted_within c.loop-kid.g c.in-Some.first z.0 c.loop-kid.invariant.begins.graph (c.loop-kid.invariant.begins.extends.sorts c.in-Some.first z.0 z.1)

pub begin_name-requires-clause-sort : goal.begin_name-requires-clause-sort
begin_name-requires-clause-sort c root =
    let at : slice_get c.args.kids.now c.loop-kid.kid-index ≡ Some (Some c.in-Some.first) = slice_get-get_or c.args.kids.now c.loop-kid.kid-index None c.loop-kid-test.true ∙ ap (λ (k : Option ℕ). Some k) c.in-Some.is in
    let z = c.requires.can.sorted c.loop-kid.kid-index c.in-Some.first at in
    z.2 (some_of z.0 c.sort-sort.result (sym (c.loop-kid.invariant.begins.extends.sorts c.in-Some.first z.0 z.1) ∙ c.sort-sort.ensures) ∙ root)

pub begin_name-requires-clause-fresh : goal.begin_name-requires-clause-fresh
begin_name-requires-clause-fresh c =
    let long : c.len-n.result ≡ length c.loop-kid.nodes.items = omega (arith, c.len-n.ensures, c.loop-kid.nodes.ok) in
    subst (IsUnnamed c.loop-kid.names c.args.head.header) (sym long)
    (next_unnamed c.args.head c.args.kids.now c.args.g.now c.args.names.now c.loop-kid.names c.loop-kid.thetas.items c.loop-kid.nodes.items c.loop-kid.invariant.nodes_are c.requires.can.fresh)

pub returns-in_err-node-clause-keeps : goal.returns-in_err-node-clause-keeps
returns-in_err-node-clause-keeps c =
    keeps_then c.args.g.now c.loop-kid.g c.begin_name.new.g (keeps_begins c.args.head c.args.kids.now c.args.g.now c.args.names.now c.loop-kid.g c.loop-kid.names c.loop-kid.thetas.items c.loop-kid.invariant.begins) c.in_err-node.ensures.keeps

pub returns-in_err-push-2-clause-keeps : goal.returns-in_err-push-2-clause-keeps
returns-in_err-push-2-clause-keeps c =
    keeps_then c.args.g.now c.loop-kid.g c.begin_name.new.g (keeps_begins c.args.head c.args.kids.now c.args.g.now c.args.names.now c.loop-kid.g c.loop-kid.names c.loop-kid.thetas.items c.loop-kid.invariant.begins)
    (keeps_opens c.loop-kid.g c.begin_name.new.g c.in_ok-node.node c.in_ok-node.ensures.opens)

pub returns-in_err-push-3-clause-keeps : goal.returns-in_err-push-3-clause-keeps
returns-in_err-push-3-clause-keeps c =
    keeps_then c.args.g.now c.loop-kid.g c.begin_name.new.g (keeps_begins c.args.head c.args.kids.now c.args.g.now c.args.names.now c.loop-kid.g c.loop-kid.names c.loop-kid.thetas.items c.loop-kid.invariant.begins)
    (keeps_opens c.loop-kid.g c.begin_name.new.g c.in_ok-node.node c.in_ok-node.ensures.opens)

pub loop-kid-preserved : goal.loop-kid-preserved
loop-kid-preserved c =
    let head = c.args.head in
    let kids : List (Option ℕ) = c.args.kids.now in
    let k : ℕ = c.loop-kid.kid-index in
    let nodes : List (Option ℕ) = c.loop-kid.nodes.items in
    let names : List Named = c.loop-kid.names in
    let node : ℕ = c.in_ok-node.node in
    let slot = c.with_number-slot.result in
    let b = c.loop-kid.invariant.begins in
    let at : slice_get kids k ≡ Some (Some c.in-Some.first) = slice_get-get_or kids k None c.loop-kid-test.true ∙ ap (λ (k : Option ℕ). Some k) c.in-Some.is in
    let long : c.len-n.result ≡ length nodes = omega (arith, c.len-n.ensures, c.loop-kid.nodes.ok) in
    let here : number slot ≡ length nodes = c.with_number-slot.ensures ∙ long in
    let meant : slice_get kids (number slot) ≡ Some (Some c.in-Some.first) = ap (slice_get kids) (here ∙ c.loop-kid.invariant.size) ∙ at in
    let now : c.begin_name.new.names ≡ names ++ named head.header (number slot) node ∷ [] = c.in_ok-node.ensures.named ∙ ap (λ (s : ℕ). names ++ named head.header s node ∷ []) (sym c.with_number-slot.ensures) in
    let begins : Begins head kids c.args.g.now c.args.names.now c.begin_name.new.g c.begin_name.new.names c.push-in-loop-kid-2.new.self.items =
    begins_next head kids c.args.g.now c.args.names.now c.loop-kid.g names c.loop-kid.thetas.items b slot node c.in-Some.first c.sort-sort.result c.begin_name.new.g meant c.sort-sort.ensures c.in_ok-node.ensures.sort c.in_ok-node.ensures.theta c.in_ok-node.ensures.opens c.begin_name.new.names c.push-in-loop-kid-2.new.self.items
    now c.in_ok-push-3.ensures.items c.in_ok-node.ensures.names in
    let are : AreNodes head kids c.args.names.now (names ++ named head.header (number slot) node ∷ []) (c.loop-kid.thetas.items ++ record { slot = slot; node = node; first = c.in-Some.first } ∷ []) (nodes ++ Some node ∷ []) =
    nodes_more head kids c.args.g.now c.args.names.now c.loop-kid.g names c.loop-kid.thetas.items b slot node c.in-Some.first c.sort-sort.result c.begin_name.new.g meant c.sort-sort.ensures c.in_ok-node.ensures.sort c.in_ok-node.ensures.theta c.in_ok-node.ensures.opens nodes here c.loop-kid.invariant.nodes_are in
    record {
      begins = begins;
      nodes_are = subst (λ (ns : List Named). AreNodes head kids c.args.names.now ns c.push-in-loop-kid-2.new.self.items c.push-in-loop-kid.new.self.items) (sym now)
          (subst (λ (xs : List Theta). AreNodes head kids c.args.names.now (names ++ named head.header (number slot) node ∷ []) xs c.push-in-loop-kid.new.self.items) (sym c.in_ok-push-3.ensures.items)
          (subst (AreNodes head kids c.args.names.now (names ++ named head.header (number slot) node ∷ []) (c.loop-kid.thetas.items ++ record { slot = slot; node = node; first = c.in-Some.first } ∷ [])) (sym c.in_ok-push-2.ensures.items) are));
      size = ap length c.in_ok-push-2.ensures.items ∙ length-append nodes (Some node ∷ []) ∙ ap (λ (n : ℕ). n + 1) c.loop-kid.invariant.size;
    }
