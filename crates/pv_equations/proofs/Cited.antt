-- The laws that the proofs of other crates cite, from one place.
pub use Rattle.pv_equations.proofs.Lands.{lands_gone, lands_header, lands_in, lands_on, lands_once}
pub use Rattle.pv_equations.proofs.Seen.{Later, lands_around, seen_ended, seen_heads, seen_once, seen_to}
pub use Rattle.pv_equations.proofs.Moves.{About, Goes, about, move, snoc_same}
pub use Rattle.pv_equations.proofs.Walks.{Boundary, Further, IsGoal, IsNode, OutWalk, Outside, Walk, Walks, exit_out, go, header_back, node_out, on_rank, out_walk, stop, walk_around, walk_rank, walk_split, walk_then, walk_widen, walks_end, walks_rank}
pub use Rattle.pv_equations.proofs.Free.{FreeAll, found}
pub use Rattle.pv_equations.proofs.Levels.{free_seen}
pub use Rattle.pv_equations.proofs.Search.{below}
pub use Rattle.pv_equations.proofs.Decide.{Code, of_op, op_back, op_of}
pub use Rattle.pv_equations.proofs.Exists.{solution}
pub use Rattle.pv_equations.proofs.Law.{solvable}
