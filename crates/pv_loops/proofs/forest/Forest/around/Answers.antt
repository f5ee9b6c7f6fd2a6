use Rattle.std.proofs.Common.{◌<◌, ℕ, List, length, map, sym, ◌∙◌, ap, subst}
use Rattle.pv_loops.proofs.Words.{All, header_at}
use Rattle.pv_loops.proofs.Leading.{row_headers, row_within}
use Rattle.pv_loops.proofs.forest.Forest.around.Goals as goal

pub returns-clause-headers : goal.returns-clause-headers
returns-clause-headers c =
    let f = c.args.self.now in
    ap (map (header_at f.loops.items)) c.get.ensures ∙ row_headers f.loops.items f.home.items f.rows f.outwards c.args.node c.requires

pub returns-clause-within : goal.returns-clause-within
returns-clause-within c =
    let f = c.args.self.now in
    subst (λ (l : List ℕ). All (λ i. i < length f.loops.items) l) (sym c.get.ensures) (row_within f.loops.items f.home.items f.rows f.outwards c.args.node c.requires)
