use Rattle.cases_methods.proofs.flows.flow.Goals as goal

pub typed_text-requires : goal.typed_text-requires
typed_text-requires c = (c.in-Ok.ensures.exact c.in_ok-class.ensures.code.method c.in_ok-class.ensures.code.there).inferred.well_typed
