-- The laws that other crates cite.
pub use Rattle.pv_format.specs.Options.{some_is, mapped, chosen}
pub use Rattle.pv_format.specs.FormatLaws.{all-append, cons_some, map_some, reads_it}
pub use Rattle.pv_format.specs.SplitLaws.{body_again, body_back}
pub use Rattle.pv_format.proofs.Pairs.{pairs_odd}
pub use Rattle.pv_format.specs.ChoiceLaws.{choice_some}
pub use Rattle.pv_format.proofs.Parts.{collected}
pub use Rattle.pv_format.proofs.GrammarParts.{then_read, then_ok, then_err, read_bind, read_then, read_fails, read_give, read_here, read_check, read_steps, read_times, steps}
pub use Rattle.pv_format.proofs.GrammarReadings.{read_takes, takes_read, read_stops, stops_read, read_once, read_law, takes_then, then_takes, stops_first, stops_then, then_stops}
pub use Rattle.pv_format.proofs.Bytes.{IsBytes, IsBytes-left, IsBytes-right, bytes_after, Then, Done, Number, Run, IsWide, wide8, wide16, wide32, wide64}
pub use Rattle.pv_format.proofs.GrammarTexts.{IsTexts, same_texts, then_texts, give_texts, number_texts, run_texts, Made, made_texts}
pub use Rattle.pv_format.proofs.Spellings.{Spells, seen, number_spells, run_spells, give_spells, check_spells, here_spells, then_spells, last_spells, made_spells, counted_spells, table_spells, Along, along_spells}
pub use Rattle.pv_format.proofs.FreeGrammars.{IsBytes-append, Completed, complete, cut_stops, bind_free, many_free, either_free}
pub use Rattle.pv_format.proofs.ManyReads.{ItemsSoFar, items_begin, items_more, items_cut, items_end, ok_some, ok_none}
unfoldable pub use Rattle.pv_format.proofs.GrammarItems.{IsPlain, TakesItems}
pub use Rattle.pv_format.proofs.GrammarItems.{all_of, takes_items, items_take, items_stop, CutItem, stops_cut}
