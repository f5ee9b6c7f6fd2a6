-- The lemmas that the proofs of other crates cite, from one place.
pub use Rattle.pv_writer.proofs.Carried.{adds_same, right_same}
