-- The symbol that was made gives a boolean.
use Rattle.std.proofs.Common.{sym, subst}
use Rattle.pv_types.specs.Facts.{IsTold}
use Rattle.pv_types.proofs.facts.set_is.Goals as goal
use Rattle.pv_types.proofs.Telling.{is_told}

pub tell-requires : goal.tell-requires
tell-requires c = subst IsTold (sym c.in_ok-sym.ensures) (is_told c.args.class.now)
