use Rattle.std.proofs.Common.{◌≡◌, ◌⊎◌, ◌<◌, ◌-◌, ◌≤◌, ◌∙◌, ℕ, List, Some, inl, inr, length, slice_get, vec_len, refl, sym, ap, subst, arith}
use Rattle.std.proofs.lemmas.Option.{slice_get_read}
use Rattle.pv_graph.proofs.Knowing.{cuts}
use Rattle.pv_graph.proofs.known.Known.forget.Goals as goal
use Rattle.pv_graph.proofs.known.Known.forget.Goals.{then-count-eq0, else-count-eq0}

most_is : (c : goal.After-shorten) → (c.if-count-eq0.most ≡ 0) ⊎ ((i : ℕ) × (slice_get c.truncate.new.self.items i ≡ Some c.if-count-eq0.most))
most_is c = elim c.if-count-eq0.branch [
  | then-count-eq0 w ↦ inl w.most-is
  | else-count-eq0 w ↦
      let lt : c.count_until-count.result - 1 < length c.truncate.new.self.items = omega (arith, w.if-count-eq0.false, c.count_until-count.ensures.count, c.deref.ensures.len, c.truncate.ensures.len, c.truncate.new.self.ok.0) in
      inr (c.count_until-count.result - 1, slice_get_read c.truncate.new.self.items (length c.truncate.new.self.items) (c.count_until-count.result - 1) w.index.result.now refl lt w.index.ensures ∙ ap Some (sym w.most-is))
]

pub returns : goal.returns
returns c =
    cuts c.args.n c.args.self.now _ c.count_until-count.result c.if-count-eq0.most c.truncate.ensures.items
    (subst (λ (numbers : List ℕ). (i p : ℕ) → i < c.count_until-count.result → slice_get numbers i ≡ Some p → p ≤ c.args.n) c.deref.ensures.value c.count_until-count.ensures.until) (most_is c) (vec_len c.shorten.new.marks) (omega (arith, c.shorten.new.marks.ok.0)) c.shorten.ensures
