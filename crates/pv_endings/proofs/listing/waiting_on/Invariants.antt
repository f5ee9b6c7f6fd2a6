use Rattle.pv_endings.specs.Waiting.{AreFirst}
use Rattle.pv_endings.proofs.listing.waiting_on.Given as goal

abbrev pub invariant-loop-n : goal.invariant-loop-n
invariant-loop-n l = AreFirst l.graph l.spine l.n l.nodes.items
