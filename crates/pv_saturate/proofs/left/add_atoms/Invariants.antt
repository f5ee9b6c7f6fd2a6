use Rattle.std.proofs.Common.{◌≡◌, map, drop}
use Rattle.pv_pattern.specs.Binding.{atoms_names}
use Rattle.pv_pattern.specs.Seen.{atom_seen}
use Rattle.pv_match.specs.Parameters.{once_more}
use Rattle.pv_saturate.proofs.left.add_atoms.Given as goal

abbrev pub invariant-loop-atom : goal.invariant-loop-atom
invariant-loop-atom l = once_more l.known.items (atoms_names (map atom_seen (drop l.atom-index l.atoms))) ≡ once_more l.initial.known.items (atoms_names (map atom_seen l.atoms))
