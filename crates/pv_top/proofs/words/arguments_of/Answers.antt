use Rattle.std.proofs.Common.{[]}
use Rattle.pv_top.proofs.words.arguments_of.Goals as goal

pub returns-in-None : goal.returns-in-None
returns-in-None c arguments = (rw c.in-None.is at c.in_ok-given.ensures) [] [] arguments
