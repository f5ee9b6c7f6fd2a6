use Rattle.std.proofs.Common.{◌<◌, length, refl, ap, ◌∙◌, arith}
use Rattle.pv_flow.proofs.Departing.{goes_below}
use Rattle.pv_flow.proofs.Marks.{at_read}
use Rattle.pv_flow.proofs.Spans.{has_last, last_within, last_span, last_goes_below}
use Rattle.pv_flow.proofs.flow.block.Goals as goal

pub last_of-last-requires-clause-ends : goal.last_of-last-requires-clause-ends
last_of-last-requires-clause-ends c =
    has_last c.args.typed.now.program c.args.begins.now c.requires.begins c.args.typed.now.frames c.requires.well_typed c.args.first c.requires.head

pub bounds-as_slice-last : goal.bounds-as_slice-last
bounds-as_slice-last c =
    omega (arith, ap length c.as_slice.ensures, last_within c.args.typed.now.program c.args.begins.now c.requires.begins c.args.first c.last_of-last.result c.last_of-last.ensures)

pub exits-requires-clause-few : goal.exits-requires-clause-few
exits-requires-clause-few c =
    omega (arith, last_within c.args.typed.now.program c.args.begins.now c.requires.begins c.args.first c.last_of-last.result c.last_of-last.ensures)

pub exits-requires-clause-within : goal.exits-requires-clause-within
exits-requires-clause-within c =
    let p = c.args.typed.now.program in
    let last = c.last_of-last.result in
    let within : last < length c.as_slice.result.now = omega (arith, ap length c.as_slice.ensures, last_within p c.args.begins.now c.requires.begins c.args.first last c.last_of-last.ensures) in
    let at = at_read p c.as_slice.result.now last c.index-as_slice-last.result c.as_slice.ensures within c.index-as_slice-last.is in
    goes_below (length c.args.numbers.now) last c.index-as_slice-last.result
    (last_goes_below p c.args.begins.now c.requires.begins c.args.typed.now.frames c.requires.well_typed (length c.args.numbers.now) c.args.first last c.index-as_slice-last.result c.requires.numbers c.requires.head c.last_of-last.ensures at)

pub returns : goal.returns
returns c =
    let p = c.args.typed.now.program in
    let last = c.last_of-last.result in
    let within : last < length c.as_slice.result.now = omega (arith, ap length c.as_slice.ensures, last_within p c.args.begins.now c.requires.begins c.args.first last c.last_of-last.ensures) in
    record {
      place = refl;
      span = last_span p c.args.begins.now c.requires.begins c.args.first last c.requires.head.begin c.last_of-last.ensures;
      action = c.index-as_slice-last.result;
      ends = at_read p c.as_slice.result.now last c.index-as_slice-last.result c.as_slice.ensures within c.index-as_slice-last.is;
      exits = c.into.ensures ∙ c.in_ok-exits.ensures;
    }
