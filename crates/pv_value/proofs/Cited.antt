-- The laws that the proofs of other crates cite, from one place.
pub use Rattle.pv_value.proofs.OperationLaws.{scalar_exact, scalar_fits}
pub use Rattle.pv_value.proofs.Once.{field_type_once, method_again, method_type_once, no_bracket}
pub use Rattle.pv_value.proofs.Places.{exact_places, exact_syms, locs_total, written_other, written_zero}
pub use Rattle.pv_value.proofs.FieldTypes.{is_longer, is_unread, is_whole}
pub use Rattle.pv_value.proofs.MethodTypes.{is_shorter, method_takes}
pub use Rattle.pv_value.proofs.Writes.{IsHeap-written, read_other, read_same}
pub use Rattle.pv_value.proofs.Spelling.{field_spelled, method_spelled}
pub use Rattle.pv_value.proofs.Fitting.{fits_input, type_num}
pub use Rattle.pv_value.proofs.ReceiverSymbols.{receivers_apart}
