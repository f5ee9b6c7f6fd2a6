-- The laws that the proofs of other crates cite, from one place.
pub use Rattle.pv_pattern.proofs.Nodes.{eval_at, eval_is, kids_sorted, none_at, one_at, pass_is, phi_is, plain_is, same_at, settled_count, settled_has, shift_is, succ_has, succ_says, theta_first, theta_later, three_at, two_at, zero_has, zero_says}
pub use Rattle.pv_pattern.proofs.Equations.{and_one, byte_fits, e1, e10, e11, e12, e13, e139, e14, e15, e16, e17, e18, e19, e2, e20, e21, e22, e23, e24, e25, e26, e27, e28, e29, e3, e30, e31, e32, e33, e34, e37, e38, e39, e4, e40, e41, e43, e5, e6, e7, e8, e9, rem_again, short_fits, wrap_wider}
pub use Rattle.pv_pattern.proofs.Answered.{if_ok_weaker}
pub use Rattle.pv_pattern.proofs.Bound.{tested}
