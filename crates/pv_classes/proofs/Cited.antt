-- The laws that the proofs of other crates cite, from one place.
pub use Rattle.pv_classes.proofs.Grounded.{block_in, grounds_blocks, grounds_each, grounds_of_kids, grounds_on, listed_blocks}
pub use Rattle.pv_classes.proofs.Sorted.{all_named_pairs, grounds_sorts}
