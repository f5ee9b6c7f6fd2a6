use Rattle.std.proofs.Common.{rules, ◌≡◌, ℕ, length, Vec, Global, ap, ◌∙◌, sym}
use Rattle.pv_flow.proofs.Numbering.{is_head, no_mark, no_frame, heads_on, heads_more}
use Rattle.pv_flow.proofs.head.number_heads.Goals as goal
use Rattle.pv_flow.proofs.head.number_heads.Goals.{then-begins-place+then-is_some+in_ok-push-2, else-begins-place, else-begins-place-via-then-begins-place+else-is_some, else-begins-place-via-else-begins-place}

pub loop-place-preserved : goal.loop-place-preserved
loop-place-preserved c =
    let begins = c.args.begins.now in
    let frames = c.args.frames.now in
    let n = c.loop-place.place in
    let slot = c.index-frames-place.result in
    let len : c.len.result ≡ length c.loop-place.places.items = search rules in
    elim c.if-begins-place.branch [
      | then-begins-place+then-is_some+in_ok-push-2 w ↦
          rw (ap (λ (v : Vec ℕ Global). v.items) w.places-is ∙ w.in_ok-push-2.ensures.items, c.in_ok-push.ensures.items, len)
          (heads_more begins frames n c.loop-place.places.items c.loop-place.numbers.items c.loop-place.invariant
          (is_head begins frames n slot c.requires.marks c.loop-place-test.true c.index-frames-place.is w.if-begins-place.true (sym w.is_some.ensures ∙ w.if-is_some.true)))
      | else-begins-place w ↦
          rw (ap (λ (v : Vec ℕ Global). v.items) w.places-is, c.in_ok-push.ensures.items, len)
          (heads_on begins frames n c.loop-place.places.items c.loop-place.numbers.items c.loop-place.invariant
          (elim w.else-begins-place.branch [
            | else-begins-place-via-then-begins-place+else-is_some v ↦ no_frame begins frames n slot c.requires.marks c.loop-place-test.true c.index-frames-place.is (sym v.is_some.ensures ∙ v.if-is_some.false)
            | else-begins-place-via-else-begins-place v ↦ no_mark begins frames n slot c.requires.marks c.loop-place-test.true c.index-frames-place.is v.if-begins-place.false
          ]))
    ]
