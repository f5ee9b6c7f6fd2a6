-- The laws that the proofs of other crates cite, from one place.
pub use Rattle.pv_types.proofs.Telling.{fits_told, is_told}
