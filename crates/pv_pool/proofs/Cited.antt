-- The laws that the proofs of other crates cite, from one place.
pub use Rattle.pv_format.proofs.Cited.{Done, IsBytes, IsBytes-left, IsBytes-right, IsWide, Number, Run, Then, bytes_after, wide16, wide32}
pub use Rattle.pv_pool.proofs.Answering.{one_answer, one_pool}
