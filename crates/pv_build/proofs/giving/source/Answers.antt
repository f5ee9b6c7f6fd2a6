use Rattle.std.proofs.Common.{subst}
use Rattle.pv_build.proofs.Words.{NodeFits, scope_at}
use Rattle.pv_build.proofs.Sourced.{leaf_run, test_run}
use Rattle.pv_build.proofs.giving.source.Goals as goal

pub leaf-requires-clause-done : goal.leaf-requires-clause-done
leaf-requires-clause-done c =
    leaf_run c.args.walk.now.method.now c.requires.walk.method c.args.walk.now.made.now c.args.walk.now.at c.args.walk.now.target c.requires.ready c.requires.fits.0 c.in-Leaf.block c.in-Leaf.exit
    (subst (NodeFits c.args.walk.now.method.now.trees.sites.items (scope_at c.args.walk.now.method.now c.args.walk.now.at) c.args.walk.now.target c.requires.fits.0) c.in-Leaf.is c.requires.fits.1)

pub test-requires-clause-done : goal.test-requires-clause-done
test-requires-clause-done c =
    test_run c.args.walk.now.method.now c.requires.walk.method c.args.walk.now.made.now c.args.walk.now.at c.args.walk.now.target c.requires.ready c.requires.fits.0 c.in-Test.block c.in-Test.t c.in-Test.yes c.in-Test.no
    (subst (NodeFits c.args.walk.now.method.now.trees.sites.items (scope_at c.args.walk.now.method.now c.args.walk.now.at) c.args.walk.now.target c.requires.fits.0) c.in-Test.is c.requires.fits.1)
