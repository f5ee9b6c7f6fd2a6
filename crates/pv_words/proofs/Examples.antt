-- The words of the laws.
use Rattle.std.proofs.Common.{◌≡◌, ◌∙◌, refl, sym, arith, List, [], ◌∷◌, codes}
use Rattle.clap.specs.Faults.{fault_of}
use Rattle.clap.specs.declared.error.kind.ErrorKind.TheVariants.{ArgumentConflict, InvalidValue, TooManyValues, UnknownArgument}
use Rattle.clap.proofs.OnLiterals.{clap_on_literals}
use Rattle.pv_words.specs.Words.{AreNames, BeginsWithDash, Command, IsFileName, IsValue, Text, alone, apart, argument, ended, flag, joined, nothing, option, plain}
use Rattle.pv_words.specs.Laws.{EndsFlags, EndsOptions, GiveNothing, IsOne, RefusesDash, RefusesEnd, RefusesFlagAsValue, RefusesFlagTwice, RefusesFlagValue, RefusesTwice, RefusesUnknown, TakesFlag, TakesValueApart, TakesValueJoined, counted_of_two, rounds_of_two, two_names}
use Rattle.pv_words.specs.Matches.{app_with}
use Rattle.pv_words.proofs.Exact.{given}
use Rattle.pv_words.proofs.Turns.{not_none}

is_three : IsValue (codes "3")
is_three = record {
  some = λ e. cc;
  no_dash = λ e. omega arith;
}

a_name : IsFileName (codes "A")
a_name = record {
  some = λ e. cc;
  no_stream = λ e. cc;
}

b_name : IsFileName (codes "B")
b_name = record {
  some = λ e. cc;
  no_stream = λ e. cc;
}

no_dash_a : BeginsWithDash (codes "A") → ⊥
no_dash_a e = omega arith

no_dash_b : BeginsWithDash (codes "B") → ⊥
no_dash_b e = omega arith

pub value_apart : TakesValueApart
value_apart = record {
  parts = option (codes "rounds") (codes "3") ∷ argument (codes "A") ∷ argument (codes "B") ∷ [];
  said = apart (codes "--rounds") (codes "rounds") (codes "3") two_names _ refl (plain (codes "A") _ _ no_dash_a (plain (codes "B") _ _ no_dash_b nothing));
  known = ((refl, is_three), (a_name, (b_name, tt)));
  flagged = refl;
  once = refl;
  rest = refl;
  counted = refl;
}

pub value_joined : TakesValueJoined
value_joined = record {
  parts = argument (codes "A") ∷ option (codes "rounds") (codes "3") ∷ argument (codes "B") ∷ [];
  said = plain (codes "A") _ _ no_dash_a (joined (codes "--rounds=3") (codes "rounds") (codes "3") _ _ refl (plain (codes "B") _ _ no_dash_b nothing));
  known = (a_name, ((refl, is_three), (b_name, tt)));
  flagged = refl;
  once = refl;
  rest = refl;
  counted = refl;
}

pub options_end : EndsOptions
options_end = record {
  parts = argument (codes "-a") ∷ argument (codes "--") ∷ [];
  said = ended (codes "--") _ _ refl refl;
  known = (
    record {
      some = λ e. cc;
      no_stream = λ e. cc;
    },
    (
      record {
        some = λ e. cc;
        no_stream = λ e. cc;
      },
      tt,
    ),
  );
  flagged = refl;
  once = refl;
  rest = refl;
  counted = refl;
}

-- ---- a flag

pub flag_taken : TakesFlag
flag_taken = (
  record {
    parts = flag (codes "counted") ∷ argument (codes "A") ∷ argument (codes "B") ∷ [];
    said = alone (codes "--counted") (codes "counted") two_names _ refl (plain (codes "A") _ _ no_dash_a (plain (codes "B") _ _ no_dash_b nothing));
    known = (refl, (a_name, (b_name, tt)));
    flagged = refl;
    once = refl;
    rest = refl;
    counted = refl;
  },
  record {
    parts = argument (codes "A") ∷ flag (codes "counted") ∷ argument (codes "B") ∷ [];
    said = plain (codes "A") _ _ no_dash_a (alone (codes "--counted") (codes "counted") _ _ refl (plain (codes "B") _ _ no_dash_b nothing));
    known = (a_name, (refl, (b_name, tt)));
    flagged = refl;
    once = refl;
    rest = refl;
    counted = refl;
  },
)

counted_name : IsFileName (codes "--counted")
counted_name = record {
  some = λ e. cc;
  no_stream = λ e. cc;
}

pub flags_end : EndsFlags
flags_end = record {
  parts = argument (codes "--counted") ∷ argument (codes "B") ∷ [];
  said = ended (codes "--") _ _ refl refl;
  known = (counted_name, (b_name, tt));
  flagged = refl;
  once = refl;
  rest = refl;
  counted = refl;
}

-- ---- what clap refuses

refused : (c : Command) → AreNames c → (words : List Text) (k : _) → fault_of (app_with c.flags c.names) words ≡ k ∷ [] → GiveNothing c words
refused c names words k fault flags options arguments g = not_none k _ fault (given c words names flags options arguments g).no_fault

pub dash_refused : RefusesDash
unfolding clap_on_literals
dash_refused = refused rounds_of_two refl _ UnknownArgument refl

pub end_refused : RefusesEnd
unfolding clap_on_literals
end_refused = refused rounds_of_two refl _ InvalidValue refl

pub twice_refused : RefusesTwice
unfolding clap_on_literals
twice_refused = refused rounds_of_two refl _ ArgumentConflict refl

pub unknown_refused : RefusesUnknown
unfolding clap_on_literals
unknown_refused = (refused rounds_of_two refl _ UnknownArgument refl, refused rounds_of_two refl _ UnknownArgument refl)

pub flag_value_refused : RefusesFlagValue
unfolding clap_on_literals
flag_value_refused = refused counted_of_two refl _ TooManyValues refl

pub flag_twice_refused : RefusesFlagTwice
unfolding clap_on_literals
flag_twice_refused = refused counted_of_two refl _ ArgumentConflict refl

pub flag_as_value_refused : RefusesFlagAsValue
unfolding clap_on_literals
flag_as_value_refused = refused counted_of_two refl _ InvalidValue refl

-- ---- words give one thing

pub is_one : IsOne
is_one c names words bs ds os ps xs ys g h =
    let first = given c words names bs os xs g in
    let second = given c words names ds ps ys h in
    (first.same_flags ∙ sym second.same_flags, first.same_options ∙ sym second.same_options, first.same_arguments ∙ sym second.same_arguments)
