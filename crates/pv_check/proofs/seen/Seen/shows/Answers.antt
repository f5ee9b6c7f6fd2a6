use Rattle.pv_check.proofs.seen.Seen.shows.Goals as goal

pub returns : goal.returns
returns c =
    let v = c.visible.ensures c.args.a c.args.b in
    (λ e. v.0 (c.is_pair.ensures.0 e), λ s. c.is_pair.ensures.1 (v.1 s))
