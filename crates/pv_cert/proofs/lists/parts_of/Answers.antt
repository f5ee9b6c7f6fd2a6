use Rattle.std.proofs.Common.{rules, tests, List, ℕ}
use Rattle.std.specs.Borrow.{Bor}
use Rattle.std.proofs.lemmas.Iterator.Consumers.{map_from_collect}
use Rattle.std.proofs.lemmas.Iterator.Splits.{YieldsList-from_slice_split}
use Rattle.pv_cert.specs.SetLaws.{semicolon}
use Rattle.pv_format.proofs.Cited.{collected}
use Rattle.pv_cert.proofs.lists.parts_of.Goals as goal

pub returns : goal.returns
returns c =
    collected semicolon.is c.args.words.now c.collect.result
    (map_from_collect _ c.collect.ensures.ran
    (YieldsList-from_slice_split _ (λ (w : Bor (List ℕ)). semicolon.is w.now) c.args.words.now c.split.ensures.rest c.split.ensures.done c.split.ensures.closure (λ x r q k. search (rules, tests))))
