use Rattle.std.proofs.Common.{◌≡◌, ℕ, List, Option, sym, ap, ◌∙◌}
use Rattle.std.specs.Borrow.{Bor}
use Rattle.std.specs.Option.{option_map}
use Rattle.std.proofs.lemmas.Result.{IfOk-weaker}
use Rattle.pv_format.specs.Seen.{texts}
use Rattle.pv_listing.specs.declared.line.First.{First}
use Rattle.pv_listing.specs.declared.line.Line.{Line}
use Rattle.pv_listing.specs.Lines.{read_by, line_sentence, line_taken, line_missing}
use Rattle.pv_listing.proofs.reading.read_words.Goals as goal

abbrev seen : First × Bor (List (Bor (List ℕ))) → First × List (List ℕ)
seen p = (p.0, texts p.1.now)

pub returns-in-None : goal.returns-in-None
returns-in-None c = line_missing (texts c.args.words.now) (sym (ap (option_map seen) c.in-None.is) ∙ c.in_ok-take_first.ensures)

pub returns-in-Some : goal.returns-in-Some
returns-in-Some c =
    IfOk-weaker c.read_rest.result (λ (r : Option Line). r ≡ read_by c.in-Some.first (texts c.in-Some.rest.now)) (λ (r : Option Line). r ≡ line_sentence.reads (texts c.args.words.now))
    (λ r is. line_taken (texts c.args.words.now) (texts c.in-Some.rest.now) c.in-Some.first r (sym (ap (option_map seen) c.in-Some.is) ∙ c.in_ok-take_first.ensures) is) c.read_rest.ensures
