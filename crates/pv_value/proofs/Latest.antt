-- The last of the entries for a call is the one that the table of calls has.
use Rattle.std.proofs.Common.{◌≡◌, List, [], ◌∷◌, Bool, true, false, cond, Option, Some, refl, ◌∙◌}
use Rattle.std.specs.Prelude.{map, find, option_map}
use Rattle.std.specs.Ordering.{is_eq}
use Rattle.std.specs.FinMap as maps
use Rattle.std.specs.FinMap.{from_entries, get, get-from_entries}
use Rattle.pv_value.specs.declared.world.Call.{Call}
use Rattle.pv_value.specs.declared.world.CallKey.{CallKey}
use Rattle.pv_value.specs.declared.outcome.Outcome.{Outcome}
use Rattle.pv_value.specs.CallOrder.{key_cmp}
use Rattle.pv_value.proofs.CallOrders.{calls_total}

abbrev pub entry : Call → CallKey × Outcome
entry c = (c.key, c.reply)

abbrev pub first_of : CallKey → List Call → Option Call
first_of key calls = find (λ call. is_eq (key_cmp key call.key)) calls

abbrev pub reply_of : Option Call → Option Outcome
reply_of call = option_map (λ c. c.reply) call

found : (key : CallKey) (calls : List Call) → maps.find key_cmp key (map entry calls) ≡ reply_of (first_of key calls)
found key [] = refl
found key (c ∷ calls) = step (is_eq (key_cmp key c.key)) (maps.find key_cmp key (map entry calls)) (first_of key calls) (found key calls)
  where
    step : (b : Bool) (o : Option Outcome) (p : Option Call) → o ≡ reply_of p → cond b (Some c.reply) o ≡ reply_of (cond b (Some c) p)
    step true o p e = refl
    step false o p e = e

pub latest_is : (key : CallKey) (calls : List Call) → get (from_entries {R = key_cmp} (map entry calls)) key ≡ reply_of (first_of key calls)
latest_is key calls = get-from_entries calls_total (map entry calls) key ∙ found key calls
