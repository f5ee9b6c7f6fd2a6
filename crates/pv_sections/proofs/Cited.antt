-- The laws that the proofs of other crates cite, from one place.
pub use Rattle.pv_sections.proofs.Accepted.{accepted_meaning}
pub use Rattle.pv_sections.proofs.SectionWords.{bad_certificate_other, bad_certificate_whole, only_accepted, whole_section}
