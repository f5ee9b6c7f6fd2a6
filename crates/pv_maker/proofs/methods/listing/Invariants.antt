use Rattle.std.proofs.Common.{◌≡◌, ◌∷◌}
use Rattle.std.specs.Prelude.{codes}
use Rattle.pv_listing.specs.declared.line.Line.TheVariants as lines
use Rattle.pv_maker.specs.Draws.{after}
use Rattle.pv_maker.specs.Methods.{methods}
use Rattle.pv_maker.proofs.methods.listing.Given as goal

abbrev pub invariant-loop-i : goal.invariant-loop-i
invariant-loop-i l = record {
  made : l.out.items ≡ lines.Class (codes "G") ∷ methods l.twin l.seed l.i;
  drawn : l.state ≡ after l.i l.seed;
}
