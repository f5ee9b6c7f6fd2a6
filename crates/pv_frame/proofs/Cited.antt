-- The laws that the proofs of other crates cite, from one place.
pub use Rattle.pv_frame.proofs.StackLaws.{by_sorts, has_room_map, map_reverse, moved_map, popped_map, set_local_map}
pub use Rattle.pv_frame.proofs.StackSteps.{set_local_is}
pub use Rattle.pv_frame.proofs.FrameLaws.{Less, fits_same, flows_flows, framed, goes_from, if_some, no_some, popped_sorts, some_of}
pub use Rattle.pv_frame.proofs.Inferred.{all_contains, inferred_once, leads_nowhere, reached_frame, typed_goes}
pub use Rattle.pv_frame.proofs.CauseLaws.{accepted_or_refused, one_cause, one_program}
pub use Rattle.pv_frame.proofs.Lists.{all_parts, contains_cases, contains_first, contains_more, contains_none, equal_or_not, get_set, get_set_other}
pub use Rattle.pv_frame.proofs.Meeting.{flows_itself}
