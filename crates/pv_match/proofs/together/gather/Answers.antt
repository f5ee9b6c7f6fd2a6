use Rattle.std.proofs.Common.{◌≡◌, List, [], ◌∷◌, length, refl, sym, ◌∙◌, subst, arith}
use Rattle.pv_match.specs.declared.found.Match.{Match}
use Rattle.pv_match.specs.Gathering.{IsGathering}
use Rattle.pv_match.proofs.Gathers.{gathering_begins, gathering_more, gathering_ends, one_past}
use Rattle.pv_match.proofs.together.gather.Goals as goal

pub loop-x-init : goal.loop-x-init
loop-x-init c = record { few = c.requires; gathering = gathering_begins c.args.set.now.keys c.args.more.items }

pub returns-then-len-limit-clause-over : goal.returns-then-len-limit-clause-over
returns-then-len-limit-clause-over c = (
  one_past c.in_ok-insert.field-0 (length c.loop-x.set.keys) (length c.insert.new.self.keys) c.args.limit c.in_ok-insert.ensures.len c.loop-x.invariant.few (omega (arith, c.if-len-limit.true, c.len.ensures.len)),
  (subst (λ (ks : List Match). IsGathering c.args.set.now.keys c.args.more.items ks c.pop.new.self.items) (sym c.in_ok-insert.ensures.keys)
      (gathering_more c.args.set.now.keys c.args.more.items c.loop-x.set.keys c.loop-x.rest.items c.pop.new.self.items c.in-Some.x c.in-Some.ensures.items c.loop-x.invariant.gathering)).some_,
)

pub loop-x-preserved : goal.loop-x-preserved
loop-x-preserved c = record {
  few = omega (arith, c.if-len-limit.false, c.len.ensures.len);
  gathering = subst (λ (ks : List Match). IsGathering c.args.set.now.keys c.args.more.items ks c.pop.new.self.items) (sym c.in_ok-insert.ensures.keys)
      (gathering_more c.args.set.now.keys c.args.more.items c.loop-x.set.keys c.loop-x.rest.items c.pop.new.self.items c.in-Some.x c.in-Some.ensures.items c.loop-x.invariant.gathering);
}

empty_of : (xs : List Match) → length xs ≡ 0 → xs ≡ []
empty_of [] e = refl
empty_of (x ∷ xs) e = absurd (cc)

pub returns-clause-all : goal.returns-clause-all
returns-clause-all c = (
  c.loop-x.invariant.few,
  gathering_ends c.args.set.now.keys c.args.more.items c.loop-x.set.keys c.loop-x.rest.items (empty_of c.loop-x.rest.items (sym c.loop-x.rest.ok.0 ∙ c.in_default.ensures.cases.0)) c.loop-x.invariant.gathering,
)
