-- The laws that other crates cite.
pub use Rattle.pv_token.specs.TokenLaws.{word-append, word-cons, decimal_word, shown_word, shown_meant}
pub use Rattle.pv_token.specs.LineLaws.{line_spaced}
