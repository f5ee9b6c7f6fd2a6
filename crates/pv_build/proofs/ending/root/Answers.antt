use Rattle.std.proofs.Common.{None, refl, ap, ◌∙◌, []}
use Rattle.pv_build.proofs.Words.{IfOk-weaker, Op, T, F, H, R, sort_over, Over, NoExp, Then, three, or_else, never_exp, Grows, IsOfSort, grows_then, none_of, default_sort}
use Rattle.pv_graph.specs.declared.node.Op.TheVariants as op
use Rattle.pv_build.proofs.Kept.{sort_kept, reads_kept, gives_kept, folds_kept}
use Rattle.pv_build.proofs.Defaults.{default_has}
use Rattle.pv_build.proofs.Rooting.{root_has, result_reads}
use Rattle.pv_build.proofs.ending.root.Goals as goal

pub at_end-requires-clause-gives : goal.at_end-requires-clause-gives
at_end-requires-clause-gives c = (T, c.requires.gives.token, refl)

pub at_end-requires-2-clause-gives : goal.at_end-requires-2-clause-gives
at_end-requires-2-clause-gives c = (F, gives_kept c.args.g.now c.at_end.new.g c.at_end.ensures.grows c.args.ends.now 1 None F c.requires.gives.fault, refl)

pub returns-in_err-fault-clause-grows : goal.returns-in_err-fault-clause-grows
returns-in_err-fault-clause-grows c = grows_then c.args.g.now c.at_end.new.g c.at_end-2.new.g c.at_end.ensures.grows c.at_end-2.ensures.grows

pub at_end-requires-3-clause-gives : goal.at_end-requires-3-clause-gives
at_end-requires-3-clause-gives c =
    let two : Grows c.args.g.now c.at_end-2.new.g = grows_then c.args.g.now c.at_end.new.g c.at_end-2.new.g c.at_end.ensures.grows c.at_end-2.ensures.grows in (
      default_sort c.args.of,
      gives_kept c.args.g.now c.at_end-2.new.g two c.args.returns.now 2 None (default_sort c.args.of) c.requires.gives.result_is,
      ap (λ (o : Op). sort_over o []) c.no_result.ensures ∙ default_has c.args.of,
    )

pub returns-in_err-given-clause-grows : goal.returns-in_err-given-clause-grows
returns-in_err-given-clause-grows c =
    grows_then c.args.g.now c.at_end-2.new.g c.at_end-3.new.g (grows_then c.args.g.now c.at_end.new.g c.at_end-2.new.g c.at_end.ensures.grows c.at_end-2.ensures.grows) c.at_end-3.ensures.grows

pub at_end-requires-4-clause-gives : goal.at_end-requires-4-clause-gives
at_end-requires-4-clause-gives c =
    let two : Grows c.args.g.now c.at_end-2.new.g = grows_then c.args.g.now c.at_end.new.g c.at_end-2.new.g c.at_end.ensures.grows c.at_end-2.ensures.grows in
    let all : Grows c.args.g.now c.at_end-3.new.g = grows_then c.args.g.now c.at_end-2.new.g c.at_end-3.new.g two c.at_end-3.ensures.grows in
    (H, gives_kept c.args.g.now c.at_end-3.new.g all c.args.ends.now 3 None H c.requires.gives.heap, refl)

pub returns-in_err-heap-clause-grows : goal.returns-in_err-heap-clause-grows
returns-in_err-heap-clause-grows c =
    let two : Grows c.args.g.now c.at_end-2.new.g = grows_then c.args.g.now c.at_end.new.g c.at_end-2.new.g c.at_end.ensures.grows c.at_end-2.ensures.grows in
    let all : Grows c.args.g.now c.at_end-3.new.g = grows_then c.args.g.now c.at_end-2.new.g c.at_end-3.new.g two c.at_end-3.ensures.grows in
    grows_then c.args.g.now c.at_end-3.new.g c.at_end-4.new.g all c.at_end-4.ensures.grows

pub over-requires-clause-fits : goal.over-requires-clause-fits
over-requires-clause-fits c =
    let one : Grows c.args.g.now c.at_end.new.g = c.at_end.ensures.grows in
    let two : Grows c.args.g.now c.at_end-2.new.g = grows_then c.args.g.now c.at_end.new.g c.at_end-2.new.g one c.at_end-2.ensures.grows in
    let all : Grows c.args.g.now c.at_end-3.new.g = grows_then c.args.g.now c.at_end-2.new.g c.at_end-3.new.g two c.at_end-3.ensures.grows in
    let from_two : Grows c.at_end-2.new.g c.at_end-4.new.g = grows_then c.at_end-2.new.g c.at_end-3.new.g c.at_end-4.new.g c.at_end-3.ensures.grows c.at_end-4.ensures.grows in
    let from_one : Grows c.at_end.new.g c.at_end-4.new.g = grows_then c.at_end.new.g c.at_end-2.new.g c.at_end-4.new.g c.at_end-2.ensures.grows from_two in
    let token : IsOfSort c.at_end.new.g c.in_ok-token.token T = c.in_ok-token.ensures.sort T c.requires.gives.token refl in
    let fault : IsOfSort c.at_end-2.new.g c.in_ok-fault.fault F = c.in_ok-fault.ensures.sort F (gives_kept c.args.g.now c.at_end.new.g one c.args.ends.now 1 None F c.requires.gives.fault) refl in
    let given : IsOfSort c.at_end-3.new.g c.in_ok-given.given (default_sort c.args.of) =
    c.in_ok-given.ensures.sort (default_sort c.args.of) (gives_kept c.args.g.now c.at_end-2.new.g two c.args.returns.now 2 None (default_sort c.args.of) c.requires.gives.result_is) (ap (λ (o : Op). sort_over o []) c.no_result.ensures ∙ default_has c.args.of) in
    let heap : IsOfSort c.at_end-4.new.g c.in_ok-heap.heap H = c.in_ok-heap.ensures.sort H (gives_kept c.args.g.now c.at_end-3.new.g all c.args.ends.now 3 None H c.requires.gives.heap) refl in (
      R,
      root_has c.at_end-4.new.g c.args.of c.in_ok-token.token c.in_ok-fault.fault c.in_ok-given.given c.in_ok-heap.heap (sort_kept c.at_end.new.g c.at_end-4.new.g from_one c.in_ok-token.token T token) (sort_kept c.at_end-2.new.g c.at_end-4.new.g from_two c.in_ok-fault.fault F fault)
          (sort_kept c.at_end-3.new.g c.at_end-4.new.g c.at_end-4.ensures.grows c.in_ok-given.given (default_sort c.args.of) given) heap,
    )

pub returns-clause-sort : goal.returns-clause-sort
returns-clause-sort c =
    let one : Grows c.args.g.now c.at_end.new.g = c.at_end.ensures.grows in
    let two : Grows c.args.g.now c.at_end-2.new.g = grows_then c.args.g.now c.at_end.new.g c.at_end-2.new.g one c.at_end-2.ensures.grows in
    let all : Grows c.args.g.now c.at_end-3.new.g = grows_then c.args.g.now c.at_end-2.new.g c.at_end-3.new.g two c.at_end-3.ensures.grows in
    let from_two : Grows c.at_end-2.new.g c.at_end-4.new.g = grows_then c.at_end-2.new.g c.at_end-3.new.g c.at_end-4.new.g c.at_end-3.ensures.grows c.at_end-4.ensures.grows in
    let from_one : Grows c.at_end.new.g c.at_end-4.new.g = grows_then c.at_end.new.g c.at_end-2.new.g c.at_end-4.new.g c.at_end-2.ensures.grows from_two in
    let token : IsOfSort c.at_end.new.g c.in_ok-token.token T = c.in_ok-token.ensures.sort T c.requires.gives.token refl in
    let fault : IsOfSort c.at_end-2.new.g c.in_ok-fault.fault F = c.in_ok-fault.ensures.sort F (gives_kept c.args.g.now c.at_end.new.g one c.args.ends.now 1 None F c.requires.gives.fault) refl in
    let given : IsOfSort c.at_end-3.new.g c.in_ok-given.given (default_sort c.args.of) =
    c.in_ok-given.ensures.sort (default_sort c.args.of) (gives_kept c.args.g.now c.at_end-2.new.g two c.args.returns.now 2 None (default_sort c.args.of) c.requires.gives.result_is) (ap (λ (o : Op). sort_over o []) c.no_result.ensures ∙ default_has c.args.of) in
    let heap : IsOfSort c.at_end-4.new.g c.in_ok-heap.heap H = c.in_ok-heap.ensures.sort H (gives_kept c.args.g.now c.at_end-3.new.g all c.args.ends.now 3 None H c.requires.gives.heap) refl in
    IfOk-weaker c.over.result _ _ (λ r sorted. sorted R (root_has c.at_end-4.new.g c.args.of c.in_ok-token.token c.in_ok-fault.fault c.in_ok-given.given c.in_ok-heap.heap (sort_kept c.at_end.new.g c.at_end-4.new.g from_one c.in_ok-token.token T token) (sort_kept c.at_end-2.new.g c.at_end-4.new.g from_two c.in_ok-fault.fault F fault)
    (sort_kept c.at_end-3.new.g c.at_end-4.new.g c.at_end-4.ensures.grows c.in_ok-given.given (default_sort c.args.of) given) heap)) c.over.ensures.sort

pub returns-clause-reads : goal.returns-clause-reads
returns-clause-reads c =
    let one : Grows c.args.g.now c.at_end.new.g = c.at_end.ensures.grows in
    let two : Grows c.args.g.now c.at_end-2.new.g = grows_then c.args.g.now c.at_end.new.g c.at_end-2.new.g one c.at_end-2.ensures.grows in
    let all : Grows c.args.g.now c.at_end-3.new.g = grows_then c.args.g.now c.at_end-2.new.g c.at_end-3.new.g two c.at_end-3.ensures.grows in
    let from_two : Grows c.at_end-2.new.g c.at_end-4.new.g = grows_then c.at_end-2.new.g c.at_end-3.new.g c.at_end-4.new.g c.at_end-3.ensures.grows c.at_end-4.ensures.grows in
    let from_one : Grows c.at_end.new.g c.at_end-4.new.g = grows_then c.at_end.new.g c.at_end-2.new.g c.at_end-4.new.g c.at_end-2.ensures.grows from_two in
    IfOk-weaker c.over.result _ _ (λ r reads names q f. reads names (Then (or_else q.token never_exp) (three (or_else q.fault (Over op.Clear NoExp)) (or_else q.result (none_of c.args.of)) (or_else q.heap (Over op.Heap0 NoExp)))) (
      reads_kept c.at_end.new.g c.at_end-4.new.g from_one names c.in_ok-token.token (or_else q.token never_exp) (c.in_ok-token.ensures.reads names q.token f.token),
      (
        reads_kept c.at_end-2.new.g c.at_end-4.new.g from_two names c.in_ok-fault.fault (or_else q.fault (Over op.Clear NoExp)) (c.in_ok-fault.ensures.reads names q.fault (folds_kept c.args.g.now c.at_end.new.g one names c.args.ends.now 1 None q.fault f.fault)),
        (
          reads_kept c.at_end-3.new.g c.at_end-4.new.g c.at_end-4.ensures.grows names c.in_ok-given.given (or_else q.result (none_of c.args.of))
              (result_reads c.at_end-3.new.g names c.args.of c.no_result.result c.in_ok-given.given q.result c.no_result.ensures (c.in_ok-given.ensures.reads names q.result (folds_kept c.args.g.now c.at_end-2.new.g two names c.args.returns.now 2 None q.result f.result))),
          (c.in_ok-heap.ensures.reads names q.heap (folds_kept c.args.g.now c.at_end-3.new.g all names c.args.ends.now 3 None q.heap f.heap), tt),
        ),
      ),
    )) c.over.ensures.reads

pub returns-clause-grows : goal.returns-clause-grows
returns-clause-grows c =
    let two : Grows c.args.g.now c.at_end-2.new.g = grows_then c.args.g.now c.at_end.new.g c.at_end-2.new.g c.at_end.ensures.grows c.at_end-2.ensures.grows in
    let all : Grows c.args.g.now c.at_end-3.new.g = grows_then c.args.g.now c.at_end-2.new.g c.at_end-3.new.g two c.at_end-3.ensures.grows in
    grows_then c.args.g.now c.at_end-4.new.g c.over.new.g (grows_then c.args.g.now c.at_end-3.new.g c.at_end-4.new.g all c.at_end-4.ensures.grows) c.over.ensures.grows
