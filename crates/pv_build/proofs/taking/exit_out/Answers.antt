use Rattle.std.proofs.Common.{sym, subst}
use Rattle.pv_build.proofs.Words.{Leaving, Goes, Returns, Throws, IsSortedExit, ReadsOutOf}
use Rattle.pv_build.proofs.Outgoing.{goes_sorted, goes_sorted_out, goes_out, returns_out, throws_out}
use Rattle.pv_build.proofs.taking.exit_out.Goals as goal

pub state_out-requires-clause-sorted : goal.state_out-requires-clause-sorted
state_out-requires-clause-sorted c =
    goes_sorted c.args.g.now c.args.typed.now.program c.args.typed.now.frames c.in-Goes.place c.in-Goes.state (subst (IsSortedExit c.args.g.now c.args.typed.now.program c.args.typed.now.frames) c.in-Goes.is c.requires.sorted)

pub returns-in_ok-state-in-Goes-clause-reads : goal.returns-in_ok-state-in-Goes-clause-reads
returns-in_ok-state-in-Goes-clause-reads c =
    subst (λ (x : Leaving). ReadsOutOf c.args.g.now c.args.c x c.state_out.new.g (Goes c.in-Goes.place c.in_ok-state-in-Goes.state)) (sym c.in-Goes.is)
    (goes_out c.args.g.now c.args.c c.state_out.new.g c.in-Goes.state c.in_ok-state-in-Goes.state c.in_ok-state-in-Goes.ensures.out c.in-Goes.place)

pub returns-in_ok-state-in-Goes-clause-sorted : goal.returns-in_ok-state-in-Goes-clause-sorted
returns-in_ok-state-in-Goes-clause-sorted c =
    goes_sorted_out c.args.g.now c.args.c c.state_out.new.g c.args.typed.now.program c.args.typed.now.frames c.in-Goes.place c.in-Goes.state c.in_ok-state-in-Goes.state c.in_ok-state-in-Goes.ensures.out
    (subst (IsSortedExit c.args.g.now c.args.typed.now.program c.args.typed.now.frames) c.in-Goes.is c.requires.sorted)

pub returns-in_ok-end_out-in-Returns-clause-reads : goal.returns-in_ok-end_out-in-Returns-clause-reads
returns-in_ok-end_out-in-Returns-clause-reads c =
    subst (λ (x : Leaving). ReadsOutOf c.args.g.now c.args.c x c.end_out.new.g (Returns c.in_ok-end_out-in-Returns.field-0)) (sym c.in-Returns.is)
    (returns_out c.args.g.now c.args.c c.end_out.new.g c.in-Returns.end c.in_ok-end_out-in-Returns.field-0 c.in_ok-end_out-in-Returns.ensures.out)

pub returns-in_ok-end_out-in-Throws-clause-reads : goal.returns-in_ok-end_out-in-Throws-clause-reads
returns-in_ok-end_out-in-Throws-clause-reads c =
    subst (λ (x : Leaving). ReadsOutOf c.args.g.now c.args.c x c.end_out-in-Throws.new.g (Throws c.in_ok-end_out-in-Throws.field-0)) (sym c.in-Throws.is)
    (throws_out c.args.g.now c.args.c c.end_out-in-Throws.new.g c.in-Throws.end c.in_ok-end_out-in-Throws.field-0 c.in_ok-end_out-in-Throws.ensures.out)
