-- The laws that the proofs of other crates cite, from one place.
pub use Rattle.pv_report.proofs.Places.{all_at, all_here, by_index, contains_here, here_again, place_of, slice_at, slice_once}
pub use Rattle.pv_report.proofs.LineWords.{AreOther, AreParts, IsOther, Lacks, bad_class_other, bad_class_whole, ends_other, is_low, known, low_other, method_other, number_other, one_front, only_equivalent, other_parts, side_other, verdict_other, verdict_parts, whole_line, whole_method, whole_words}
pub use Rattle.pv_report.proofs.Lists.{lines_at, take_next, zip_length, zip_next}
pub use Rattle.pv_report.proofs.SameMeanings.{least_meaning}
pub use Rattle.pv_report.proofs.ReadClasses.{code_there}
pub use Rattle.pv_report.proofs.Judgements.{bad_pair}
pub use Rattle.pv_report.proofs.SameRoots.{one_rooted}
pub use Rattle.pv_report.proofs.VerdictOnce.{no_lack, partner_once}
pub use Rattle.pv_report.proofs.ReportOnce.{bad_twice, classes_not_bad, file_once}
