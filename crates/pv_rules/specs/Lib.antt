-- what is known of lemmas
pub mod Known
