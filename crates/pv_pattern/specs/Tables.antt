-- The patterns and axioms that constants of a table write.
use Rattle.std.specs.Prelude.{List, map}
use Rattle.pv_pattern.specs.declared.table.Term.{Term, Var, Constant, Fold, Narrowed', Over0, Over1', Over2', Over3', Over4', OverEach}
use Rattle.pv_pattern.specs.declared.table.Row.{Row}
use Rattle.pv_pattern.specs.Patterns as p
use Rattle.pv_pattern.specs.Seen.{atom_seen, by_seen, head_seen, each_seen, side_seen}

-- the pattern that a constant writes
abbrev pub written : Term → p.Pattern
written (Var j) = p.var j
written (Constant j) = p.constant j
written (Fold o atoms) = p.fold o (map atom_seen atoms.now)
written (Narrowed' t at q) = p.narrowed (by_seen t) (written q)
written (Over0 h) = p.over (head_seen h) p.none
written (Over1' h at q) = p.over (head_seen h) (p.first (written q) p.none)
written (Over2' h at q at' r) = p.over (head_seen h) (p.first (written q) (p.first (written r) p.none))
written (Over3' h at q at' r at'' s) = p.over (head_seen h) (p.first (written q) (p.first (written r) (p.first (written s) p.none)))
written (Over4' h at q at' r at'' s at''' t) = p.over (head_seen h) (p.first (written q) (p.first (written r) (p.first (written s) (p.first (written t) p.none))))
written (OverEach n e) = p.over_each n (each_seen e)

abbrev pub axiom_written : Row → p.Axiom
axiom_written row = record { number = row.0; left = written row.1; right = written row.2; sides = map side_seen row.3.now }
