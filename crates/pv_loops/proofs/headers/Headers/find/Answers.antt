use Rattle.std.proofs.Common.{◌≡◌, ◌↔◌, ◌≤◌, ℕ, ◌+◌, List, [], ◌∷◌, ◌++◌, true, length, get_or, sym, ◌∙◌, ap, subst, arith, Option, Some}
use Rattle.pv_loops.proofs.Words.{false≢true, Contains, Headers, IsHead}
use Rattle.pv_loops.proofs.Sweeping.{sources_nodes}
use Rattle.pv_loops.proofs.Heading.{Heading, heading_skip, heading_more, heading_all}
use Rattle.pv_loops.proofs.headers.Headers.find.Goals as goal
use Rattle.pv_loops.proofs.headers.Headers.find.Goals.{then-is_header+in_ok-push+in_ok-push-2, else-is_header+in_ok-push-3}

pub is_header-requires-clause-sources : goal.is_header-requires-clause-sources
is_header-requires-clause-sources c = sources_nodes c.args.sources.now c.loop-n.n (length c.args.place.now) c.get.result.now c.requires.shape (sym c.requires.places) c.get.ensures

pub loop-n-preserved : goal.loop-n-preserved
loop-n-preserved c =
    let heads : (c.is_header.result ≡ true) ↔ IsHead c.args.sources.now c.args.place.now c.loop-n.n =
    subst (λ (l : List ℕ). (c.is_header.result ≡ true) ↔ ((w : ℕ) × Contains l w × (get_or c.args.place.now c.loop-n.n 0 ≤ get_or c.args.place.now w 0))) c.get.ensures c.is_header.ensures in
    elim c.if-is_header.branch [
      | then-is_header+in_ok-push+in_ok-push-2 w ↦
          subst (λ (h : Headers). Heading c.args.sources.now c.args.place.now h.nodes.items h.at.items (c.loop-n.n + 1)) (sym w.headers-is)
          (subst (λ (l : List ℕ). Heading c.args.sources.now c.args.place.now l w.push.new.self.items (c.loop-n.n + 1)) (sym w.in_ok-push-2.ensures.items)
          (subst (λ (l : List (Option ℕ)). Heading c.args.sources.now c.args.place.now (c.loop-n.headers.nodes.items ++ c.loop-n.n ∷ []) l (c.loop-n.n + 1)) (sym (w.in_ok-push.ensures.items ∙ ap (λ k. c.loop-n.headers.at.items ++ Some k ∷ []) (w.len.ensures ∙ c.loop-n.headers.nodes.ok.0)))
          (heading_more c.args.sources.now c.args.place.now c.loop-n.headers.nodes.items c.loop-n.headers.at.items c.loop-n.n c.loop-n.invariant (heads.0 w.if-is_header.true))))
      | else-is_header+in_ok-push-3 w ↦
          subst (λ (h : Headers). Heading c.args.sources.now c.args.place.now h.nodes.items h.at.items (c.loop-n.n + 1)) (sym w.headers-is)
          (subst (λ (l : List (Option ℕ)). Heading c.args.sources.now c.args.place.now c.loop-n.headers.nodes.items l (c.loop-n.n + 1)) (sym w.in_ok-push-3.ensures.items)
          (heading_skip c.args.sources.now c.args.place.now c.loop-n.headers.nodes.items c.loop-n.headers.at.items c.loop-n.n c.loop-n.invariant (λ h. false≢true (sym w.if-is_header.false ∙ heads.1 h))))
    ]

pub returns : goal.returns
returns c = heading_all c.args.sources.now c.args.place.now c.loop-n.headers c.loop-n.n (omega (arith, c.requires.count)) c.loop-n.invariant
