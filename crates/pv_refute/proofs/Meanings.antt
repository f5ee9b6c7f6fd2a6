-- Methods that differ on a try don't have the same meaning.
use Rattle.pv_machine.specs.Runs.{MethodEndsOnce}
use Rattle.pv_refute.specs.Laws.{ApartInMeaning, TriesShow}

pub tries_show : TriesShow
tries_show q t d file m other p first second = record {
  one = d.one;
  two = d.two;
  first = record { program = q.first; is = first; run = (q.steps, d.first_ends) };
  second = record { program = q.second; is = second; run = (q.steps, d.second_ends) };
  apart = d.apart;
}

-- the second would end in two ways
pub apart_in_meaning : MethodEndsOnce → ApartInMeaning
apart_in_meaning once file m other p bytes d is w world input fits h same =
    let both = same d is w world input fits h.one in
    h.apart (once other p bytes w input h.one h.two (both.0 h.first) h.second)
