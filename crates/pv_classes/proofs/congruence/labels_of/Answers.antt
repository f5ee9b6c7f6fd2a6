use Rattle.std.proofs.Common.{◌++◌, ◌∷◌, [], ℕ, List, get_or, take, sym, ◌∙◌, ap}
use Rattle.std.proofs.lemmas.Result.{IfOk-weaker}
use Rattle.std.proofs.lemmas.List.{take_all, take_more}
use Rattle.pv_classes.specs.Index.{labels_of}
use Rattle.pv_classes.proofs.Keys.{labels-append}
use Rattle.pv_classes.proofs.congruence.labels_of.Goals as goal

pub loop-n-preserved : goal.loop-n-preserved
loop-n-preserved c =
    c.in_ok-push.ensures.items ∙ ap (λ (xs : List ℕ). xs ++ c.label.result ∷ []) c.loop-n.invariant
    ∙ ap (λ (m : ℕ). labels_of c.args.parts.now.labels (take c.loop-n.n-index c.args.nodes.now) ++ m ∷ []) c.label.ensures
    ∙ sym (labels-append c.args.parts.now.labels (take c.loop-n.n-index c.args.nodes.now) (get_or c.args.nodes.now c.loop-n.n-index 0))
    ∙ ap (labels_of c.args.parts.now.labels) (sym (take_more c.args.nodes.now c.loop-n.n-index 0 c.loop-n-test.true))

pub returns : goal.returns
returns c =
    IfOk-weaker c.new.result _ _
    (λ (ks : List ℕ) e. e ∙ c.deref.ensures.value ∙ c.loop-n.invariant ∙ ap (labels_of c.args.parts.now.labels) (take_all c.loop-n.n-index c.args.nodes.now c.loop-n-test.false))
    c.new.ensures
