use Rattle.std.proofs.Common.{ℕ, List, ◌≡◌, ◌+◌, ◌++◌, ◌∷◌, [], length, take, get_or, sym, subst, arith}
use Rattle.std.proofs.lemmas.List.{take_more, length-take-le}
use Rattle.std.proofs.lemmas.Option.{slice_get-get_or}
use Rattle.pv_instances.specs.Seen.{instance_seen}
use Rattle.pv_witness.specs.Numbered.{numbered}
use Rattle.pv_saturate.specs.Choice.{IsChosenFor, AreChosenFor}
use Rattle.pv_saturate.proofs.Same.{same_both, same_can, chosen_back, chosen_more}
use Rattle.pv_saturate.proofs.choice.choose.Goals as goal

pub choose_one-requires-clause-can : goal.choose_one-requires-clause-can
choose_one-requires-clause-can c = same_can c.args.graph.now c.loop-j.graph c.args.numbers.now c.loop-j.invariant.same (instance_seen c.args.matched.now) c.args.witnesses.now c.requires.can

pub choose_one-requires-clause-variable : goal.choose_one-requires-clause-variable
choose_one-requires-clause-variable c = slice_get-get_or c.args.matched.now.vars.now c.loop-j.j 0 c.loop-j-test.true

pub loop-j-preserved : goal.loop-j-preserved
loop-j-preserved c =
    let g = c.args.graph.now in
    let h = numbered g c.args.numbers.now in
    let m = instance_seen c.args.matched.now in
    let vars = c.args.matched.now.vars.now in
    let v : ℕ = get_or vars c.loop-j.j 0 in
    let w : ℕ = c.in_ok-choose_one.field-0 in
    let one : IsChosenFor h g c.args.numbers.now m c.args.witnesses.now c.loop-j.j v w = chosen_back g c.loop-j.graph c.args.numbers.now c.loop-j.invariant.same m c.args.witnesses.now c.loop-j.j v w c.in_ok-choose_one.ensures.chosen in
    let long : length (take c.loop-j.j vars) ≡ c.loop-j.j = length-take-le c.loop-j.j vars (omega (arith, c.loop-j-test.true)) in
    let more = chosen_more h g c.args.numbers.now m c.args.witnesses.now (take c.loop-j.j vars) c.loop-j.chosen.items v w c.loop-j.invariant.chosen (subst (λ (i : ℕ). IsChosenFor h g c.args.numbers.now m c.args.witnesses.now i v w) (sym long) one) in
    record {
      same = same_both g c.loop-j.graph c.choose_one.new.graph c.loop-j.invariant.same c.in_ok-choose_one.ensures.same;
      chosen = subst (λ (xs : List ℕ). AreChosenFor h g c.args.numbers.now m c.args.witnesses.now (take (c.loop-j.j + 1) vars) xs) (sym c.in_ok-push.ensures.items)
          (subst (λ (xs : List ℕ). AreChosenFor h g c.args.numbers.now m c.args.witnesses.now xs (c.loop-j.chosen.items ++ w ∷ [])) (sym (take_more vars c.loop-j.j 0 c.loop-j-test.true)) more);
    }
