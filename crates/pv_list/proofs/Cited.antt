-- The laws that the proofs of other crates cite, from one place.
pub use Rattle.pv_list.proofs.Elements.{all_here, all_map, all_push, contains_at, found, get_front, get_last, partner, place_of, push_cases, same_lists}
