use Rattle.std.proofs.Common.{List, [], ◌∷◌, ◌++◌, length, slice_get, unwrap_or, length-append, ap, ◌∙◌, arith}
use Rattle.pv_value.specs.declared.name.Sym.{Sym}
use Rattle.pv_pattern.specs.Found.{empty_symbol}
use Rattle.pv_saturate.proofs.Setting.{padded, put_padded, put_there}
use Rattle.pv_saturate.proofs.telling.put_symbol.Goals as goal

pub loop-k-preserved : goal.loop-k-preserved
loop-k-preserved c =
    let old : List Sym = c.loop-k.symbols.items in
    let long = length-append old (c.in_ok-no_symbol.field-0 ∷ []) in
    record {
      long = omega (arith, ap (λ (xs : List Sym). length xs) c.in_ok-push.ensures.items, long, c.loop-k.invariant.long);
      same = λ t. ap (λ (xs : List Sym). unwrap_or (slice_get xs t) empty_symbol) (c.in_ok-push.ensures.items ∙ ap (λ (y : Sym). old ++ y ∷ []) c.in_ok-no_symbol.ensures) ∙ (padded empty_symbol old t ∙ c.loop-k.invariant.same t);
    }

pub returns : goal.returns
returns c =
    put_padded empty_symbol c.args.symbols.now.items c.loop-k.symbols.items _ c.args.s c.args.sym c.loop-k.invariant.same
    (put_there empty_symbol c.loop-k.symbols.items c.args.s c.args.sym (omega (arith, c.loop-k.invariant.long, c.loop-k-test.false)))
