use Rattle.std.proofs.Common.{◌≡◌, refl, ◌-◌, ℕ, List, Some, ◌∙◌, ap, subst}
use Rattle.pv_classes.specs.Blocks.{block, blocks_of}
use Rattle.pv_classes.specs.Calls.{AddsBlock}
use Rattle.pv_induct.specs.Parts.{AllJoined}
use Rattle.pv_induct.proofs.Inducting.{finished}
use Rattle.pv_induct.proofs.level.join_induction.Goals as goal

pub returns : goal.returns
returns c =
    let js = c.args.joins.items in let bs = c.args.blocks.items in let b = c.requires.block in
    let copied : c.in_ok-copy.copy.items ≡ c.args.pairs.items = c.in_ok-copy.ensures.items ∙ c.deref.ensures.value in
    let made = c.new.ensures ∙ ap (λ (l : List (ℕ × ℕ)). block c.args.depth l js (blocks_of bs)) copied in
    finished c.args.g.now c.requires.graph c.args.fixed.now c.args.depth c.args.first c.in_ok-number.number (c.in_ok-number.number - c.args.first) c.args.pairs.items c.args.c.now b.inner c.add_block.new.self c.join_all.new.c c.close.new.self js bs
    c.requires.classes c.requires.knows c.requires.first b.inside b.induction b.joins_are b.blocks_are
    (subst (λ b. AddsBlock c.args.c.now c.add_block.new.self b c.in_ok-number.number) made c.in_ok-number.ensures) refl c.requires.some
    (subst (λ l. AllJoined c.add_block.new.self c.join_all.new.c l l (Some (c.in_ok-number.number - c.args.first))) c.deref-2.ensures.value c.in_ok-join_all.ensures) c.in_ok-close.ensures
