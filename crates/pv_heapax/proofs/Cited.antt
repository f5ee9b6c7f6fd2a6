-- The laws that the proofs of other crates cite, from one place.
pub use Rattle.pv_heapax.proofs.Heap.{all_laws}
