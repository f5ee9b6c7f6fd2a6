-- After a fact is told it holds, and every other call has the reply that it had: so every other fact is as it was.
use Rattle.std.specs.Prelude.{◌≡◌, ◌≢◌, ℕ, List, ℤ, true}
use Rattle.std.specs.FinMap.{FinMap, get}
use Rattle.pv_value.specs.Order.{loc_cmp}
use Rattle.pv_value.specs.declared.world.CallKey.{CallKey}
use Rattle.pv_value.specs.declared.world.World.{World}
use Rattle.pv_types.specs.Facts.{told, is, fits, is_key, fits_key}

abbrev pub IsHolds : Type 0
IsHolds = (w : World) (start : FinMap loc_cmp ℤ) (class : List ℕ) (o : ℕ) → is (told w (is_key start class o)) start class o ≡ true

abbrev pub FitsHolds : Type 0
FitsHolds = (w : World) (start : FinMap loc_cmp ℤ) (a v : ℕ) → fits (told w (fits_key start a v)) start a v ≡ true

abbrev pub OthersStay : Type 0
OthersStay = (w : World) (key other : CallKey) → other ≢ key → get (told w key).calls other ≡ get w.calls other
