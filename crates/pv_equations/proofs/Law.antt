-- The laws of the equations.
use Rattle.pv_equations.proofs.Words.{form_at, form_of}
use Rattle.pv_equations.specs.Laws.{Solvable, Unique, TreesOnce, FreeFound}
use Rattle.pv_equations.proofs.Levels.{free_seen}
use Rattle.pv_equations.proofs.Free.{found}
use Rattle.pv_equations.proofs.Once.{tree_once}
use Rattle.pv_equations.proofs.Unfolded.{free_unfolded}
use Rattle.pv_equations.proofs.Unique.{unfolds_unique}
use Rattle.pv_equations.proofs.Exists.{solution}

pub solvable : Solvable
solvable f rank top deepest blocks slots shape compact finite below deep = solution f rank shape compact top below deepest deep blocks slots finite

pub unique : Unique
unique f rank top deepest shape compact below deep v u ev eu g r d h = unfolds_unique f rank shape compact top below deepest deep v u ev eu g r d h

pub trees_once : TreesOnce
trees_once f v R t s F b r q h k = tree_once f v R s F b t r q h k

pub free_found : FreeFound
free_found g f v rank top shape below eqs n e d u h =
    let r = found f v d e (free_unfolded (form_at g.nodes) (form_of f v) d n e u h) in
    free_seen f v rank eqs shape top below r.0 e d r.1
