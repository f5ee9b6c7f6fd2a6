-- The patterns that a program has, as definitions see them.
use Rattle.std.specs.Prelude.{List, [], ◌∷◌, map}
use Rattle.pv_graph.specs.declared.node.Op.TheVariants as op
use Rattle.pv_pattern.specs.declared.pattern.Atom.{Atom}
use Rattle.pv_pattern.specs.declared.pattern.Atom.TheVariants as atom
use Rattle.pv_pattern.specs.declared.pattern.By.{By}
use Rattle.pv_pattern.specs.declared.pattern.By.TheVariants as by
use Rattle.pv_pattern.specs.declared.pattern.Head.{Head}
use Rattle.pv_pattern.specs.declared.pattern.Head.TheVariants as head
use Rattle.pv_pattern.specs.declared.pattern.Each.{Each}
use Rattle.pv_pattern.specs.declared.pattern.Each.TheVariants as each
use Rattle.pv_pattern.specs.declared.pattern.Side.{Side}
use Rattle.pv_pattern.specs.declared.pattern.Side.TheVariants as side
use Rattle.pv_pattern.specs.declared.pattern.Pattern.{Pattern, fold-Pattern}
use Rattle.pv_pattern.specs.declared.pattern.Pattern.TheOpen.{Pattern-F}
use Rattle.pv_pattern.specs.declared.pattern.Axiom.{Axiom}
use Rattle.pv_pattern.specs.Patterns as p

abbrev pub atom_seen : Atom → p.Atom
atom_seen (atom.Number n) = p.number n
atom_seen (atom.Named j) = p.named j

abbrev pub by_seen : By → p.By
by_seen (by.Symbol s) = p.by_symbol s
by_seen (by.Kind k) = p.by_kind k

abbrev pub head_seen : Head → p.Head
head_seen (head.Int c) = p.fixed (op.Int c)
head_seen (head.Long c) = p.fixed (op.Long c)
head_seen head.Null = p.fixed op.Null
head_seen head.This = p.fixed op.This
head_seen head.Unit = p.fixed op.Unit
head_seen head.Zero = p.fixed op.Zero
head_seen head.Succ = p.fixed op.Succ
head_seen head.Both = p.fixed op.Both
head_seen head.Phi = p.fixed op.Phi
head_seen (head.Scalar o) = p.fixed (op.Scalar o)
head_seen head.Aeq = p.fixed op.Aeq
head_seen head.Thrown = p.fixed op.Thrown
head_seen head.IsClear = p.fixed op.IsClear
head_seen head.Length = p.fixed op.Length
head_seen head.Theta = p.theta_d
head_seen head.Eval = p.eval_d
head_seen head.Pass = p.pass_d
head_seen head.Shift = p.shift_d
head_seen (head.GetStatic s) = p.getstatic s
head_seen (head.PutStatic s) = p.putstatic s
head_seen (head.GetField s) = p.getfield s
head_seen (head.PutField s) = p.putfield s
head_seen (head.Load k) = p.load k
head_seen (head.Store k) = p.store k

abbrev pub each_seen : Each → p.Each
each_seen each.Bare = p.bare
each_seen each.Shifted = p.shifted
each_seen (each.Evaluated j) = p.evaluated j

abbrev pub side_seen : Side → p.Side
side_seen (side.Settled j) = p.settled j
side_seen (side.NotFree j) = p.not_free j
side_seen (side.SymbolsDiffer s t) = p.symbols_differ s t
side_seen (side.KindsDiffer k l) = p.kinds_differ k l
side_seen (side.NotByte k) = p.not_byte k
side_seen (side.ConstantsDiffer j k) = p.constants_differ j k

-- patterns one after another
abbrev pub listed : List p.Pattern → p.Patterns
listed [] = p.none
listed (first ∷ rest) = p.first first (listed rest)

-- one level, with each pattern inside already seen
abbrev pub seen_step : Pattern-F p.Pattern → p.Pattern
seen_step (Pattern-F.Var j) = p.var j
seen_step (Pattern-F.Constant j) = p.constant j
seen_step (Pattern-F.Fold o atoms) = p.fold o (map atom_seen atoms.items)
seen_step (Pattern-F.Narrowed t inner) = p.narrowed (by_seen t) inner.value
seen_step (Pattern-F.Over h inner) = p.over (head_seen h) (listed inner.items)
seen_step (Pattern-F.OverEach n e) = p.over_each n (each_seen e)

abbrev pub seen : Pattern → p.Pattern
seen = fold-Pattern p.Pattern seen_step

abbrev pub axiom_seen : Axiom → p.Axiom
axiom_seen a = record { number = a.number; left = seen a.left; right = seen a.right; sides = map side_seen a.sides.items }
