-- The laws that the proofs of other crates cite, from one place.
pub use Rattle.pv_format.proofs.Cited.{IsBytes}
pub use Rattle.pv_insn.proofs.Answering.{code_once, fault_once, good_or_bad}
pub use Rattle.pv_insn.proofs.Places.{few}
pub use Rattle.pv_insn.proofs.Laws.{IsFormed, formed}
pub use Rattle.pv_insn.proofs.Examples.{float_code, one_code}
