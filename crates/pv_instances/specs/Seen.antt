-- Filled sides, names and instances that a program has, as definitions see them.
use Rattle.std.specs.Prelude.{ℕ, pos, List, [], ◌∷◌, slice_get, unwrap_or}
use Rattle.pv_value.specs.declared.heap.Kind.TheVariants as kind
use Rattle.pv_value.specs.declared.number.Num.TheVariants as num
use Rattle.pv_pattern.specs.Found.{empty_symbol}
use Rattle.pv_pattern.specs.Seen.{axiom_seen}
use Rattle.pv_heights.specs.Filled as f
use Rattle.pv_heights.specs.Sides.{Match}
use Rattle.pv_instances.specs.declared.side.Hole.{Hole}
use Rattle.pv_instances.specs.declared.side.Hole.TheVariants as hole
use Rattle.pv_instances.specs.declared.side.Filled.{Filled, fold-Filled}
use Rattle.pv_instances.specs.declared.side.Filled.TheOpen.{Filled-F}
use Rattle.pv_instances.specs.declared.params.Params.{Params}
use Rattle.pv_instances.specs.declared.instances.Instance.{Instance}

abbrev pub hole_seen : Hole → f.Hole
hole_seen (hole.Kid i) = f.kid i
hole_seen (hole.Variable j) = f.variable j

-- parts one after another
abbrev pub parts : List f.Filled → f.Parts
parts [] = f.no_part
parts (first ∷ rest) = f.part first (parts rest)

-- one level, with each part inside already seen
abbrev pub seen_step : Filled-F f.Filled → f.Filled
seen_step (Filled-F.At x) = f.at (hole_seen x)
seen_step (Filled-F.Of o inner) = f.of o (parts inner.items)

abbrev pub seen : Filled → f.Filled
seen = fold-Filled f.Filled seen_step

-- a number that isn't there stands for a symbol with empty parts, the kind of ints, or the int 0
abbrev pub params_seen : Params → f.Params
params_seen p = record {
  depth = p.depth;
  symbols = λ s. unwrap_or (slice_get p.symbols.items s) empty_symbol;
  kinds = λ k. unwrap_or (slice_get p.kinds.items k) kind.Int;
  constants = λ j. unwrap_or (slice_get p.constants.items j) (num.Int (pos 0));
  op_ = p.op;
}

abbrev pub instance_seen : Instance → Match ℕ
instance_seen i = record { entry = axiom_seen i.entry.now; params = params_seen i.params.now; kids = i.kids.now; vars = i.vars.now }
