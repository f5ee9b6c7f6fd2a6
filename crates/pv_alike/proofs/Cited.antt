-- The laws that the proofs of other crates cite, from one place.
pub use Rattle.pv_alike.proofs.LeastLaws.{first_means, least_one, least_within, second_means}
pub use Rattle.pv_alike.proofs.LeastOnce.{least_once}
pub use Rattle.pv_alike.proofs.SameLeast.{least_moved, same_least, same_least_nodes}
