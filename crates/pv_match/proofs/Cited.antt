-- The laws that the proofs of other crates cite, from one place.
pub use Rattle.pv_match.proofs.Readable.{tested}
pub use Rattle.pv_match.proofs.Forms.{firsts_keep}
pub use Rattle.pv_match.proofs.Numbered.{IsNumber, number_of, same_class, form_has, has_form}
pub use Rattle.pv_match.proofs.Marked.{settled_there, settled_back, unfree_there, unfree_back}
pub use Rattle.pv_match.proofs.Sound.{found_match}
pub use Rattle.pv_match.proofs.Full.{names_of, match_back}
pub use Rattle.pv_match.proofs.Finish.{depth_range}
pub use Rattle.pv_match.proofs.AllOf.{starts}
pub use Rattle.pv_match.proofs.Taking.{all_known}
