-- The laws that other crates cite.
pub use Rattle.pv_words.proofs.Examples.{is_one}
pub use Rattle.pv_words.proofs.Numbers.{one_number, one_wide}
