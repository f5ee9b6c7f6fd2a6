-- The laws that the proofs of other crates cite, from one place.
pub use Rattle.pv_links.proofs.LinkWords.{bad_chain_other, bad_chain_whole, bad_link_other, bad_link_whole, bad_stage_other, bad_stage_whole, composed_other, composed_whole, only_link, whole_link}
pub use Rattle.pv_links.proofs.Meaning.{equivalent_means, link_meaning}
