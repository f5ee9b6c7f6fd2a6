-- The laws that the proofs of other crates cite, from one place.
pub use Rattle.pv_machine.proofs.Values.{Gives, as_type_gives, element_sort, kept_some, of_sort_type, shape, shown_gives, value_sort}
pub use Rattle.pv_machine.proofs.Performs.{IsSound, no_nums, one_num}
pub use Rattle.pv_machine.proofs.Typing.{starts, stays_typed}
