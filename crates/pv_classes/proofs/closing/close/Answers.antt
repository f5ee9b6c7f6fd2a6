use Rattle.std.proofs.Common.{◌≡◌, ◌⊎◌, [], ℕ, List, get_or, sym, ap, ◌∙◌, subst, Vec}
use Rattle.std.specs.declared.alloc.Global.{Global}
use Rattle.std.specs.List.{Contains}
use Rattle.std.proofs.lemmas.List.Elements.{Contains-get_or}
use Rattle.pv_classes.specs.Index.{Advances, IsOutsideAt, IsTracked}
use Rattle.pv_classes.specs.Closing.{IsClosing}
use Rattle.pv_classes.specs.Congruence.{index_of}
use Rattle.pv_classes.proofs.Passes.{closing_none, closing_on, closing_closed, pass_lowers, empty_of, some_of}
use Rattle.pv_classes.proofs.closing.close.Goals as goal

pub closing-init : goal.closing-init
closing-init c = record {
  joined = c.requires.joined;
  so_far = subst (λ (xs : List ℕ). IsClosing c.args.g.now.nodes c.args.fixed.now (index_of c.args.congruence.now) (index_of c.args.congruence.now) xs c.args.joins.now.items c.args.joins.now.items) (sym c.new-held.ensures.items)
      (closing_none c.args.g.now.nodes c.args.fixed.now (index_of c.args.congruence.now) c.args.joins.now.items c.requires.index c.requires.tracked);
}

pub pass-requires-clause-work : goal.pass-requires-clause-work
pass-requires-clause-work c k d lt =
    let e : c.deref.result.now ≡ c.closing.congruence.waiting.items = c.deref.ensures.value ∙ ap (λ (v : Vec ℕ Global). v.items) c.replace-work.ensures.value in
    c.closing.invariant.so_far.index.waiting_in (get_or c.deref.result.now k d) (subst (λ (xs : List ℕ). Contains xs (get_or c.deref.result.now k d)) e (Contains-get_or c.deref.result.now k d lt))

pub closing-preserved : goal.closing-preserved
closing-preserved c =
    let nodes = c.args.g.now.nodes in
    let fixed = c.args.fixed.now in
    let mid = index_of c.closing.congruence in
    let new = index_of c.pass.new.congruence in
    let e : c.deref.result.now ≡ c.closing.congruence.waiting.items = c.deref.ensures.value ∙ ap (λ (v : Vec ℕ Global). v.items) c.replace-work.ensures.value in
    let none : c.replace-work.new.dest.items ≡ [] = ap (λ (v : Vec ℕ Global). v.items) c.replace-work.ensures.after ∙ c.new.ensures.items in
    record {
      joined = c.pass.ensures.joined;
      so_far = closing_on nodes fixed (index_of c.args.congruence.now) mid new c.closing.held.items c.pass.new.held.items c.args.joins.now.items c.closing.joins.items c.pass.new.joins.items c.closing.invariant.so_far
          (record {
            advances = subst (λ (w : List ℕ). Advances nodes fixed (record mid { waiting = w }) new c.closing.joins.items c.pass.new.joins.items) none c.in_ok-pass.ensures.ok;
            tracked = subst (λ (xs : List ℕ). (n : ℕ) → Contains xs n → IsTracked nodes new n ⊎ Contains c.pass.new.held.items n) e c.in_ok-pass.ensures.tracked;
            keeps = c.in_ok-pass.ensures.keeps;
            held = subst (λ (xs : List ℕ). (n : ℕ) → Contains c.pass.new.held.items n → Contains c.closing.held.items n ⊎ (Contains xs n × (IsOutsideAt nodes fixed n → ⊥))) e c.in_ok-pass.ensures.held;
          });
    }

pub closing-smaller : goal.closing-smaller
closing-smaller c =
    let nodes = c.args.g.now.nodes in
    let fixed = c.args.fixed.now in
    let mid = index_of c.closing.congruence in
    let new = index_of c.pass.new.congruence in
    let none : c.replace-work.new.dest.items ≡ [] = ap (λ (v : Vec ℕ Global). v.items) c.replace-work.ensures.after ∙ c.new.ensures.items in
    pass_lowers nodes fixed mid new c.closing.joins.items c.pass.new.joins.items (some_of c.closing.congruence.waiting.items _ c.closing.congruence.waiting.ok.0 (sym c.is_empty.ensures ∙ c.closing-test.true))
    (subst (λ (w : List ℕ). Advances nodes fixed (record mid { waiting = w }) new c.closing.joins.items c.pass.new.joins.items) none c.in_ok-pass.ensures.ok)

pub returns-clause-ok : goal.returns-clause-ok
returns-clause-ok c =
    closing_closed c.args.g.now.nodes c.args.fixed.now (index_of c.args.congruence.now) (index_of c.closing.congruence) c.closing.held.items c.args.joins.now.items c.closing.joins.items (empty_of c.closing.congruence.waiting.items _ c.closing.congruence.waiting.ok.0 (sym c.is_empty.ensures ∙ c.closing-test.false)) c.closing.invariant.so_far
