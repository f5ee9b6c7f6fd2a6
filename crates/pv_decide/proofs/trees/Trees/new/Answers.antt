use Rattle.std.proofs.Common.{◌≡◌, List, sym, ◌∙◌, subst}
use Rattle.pv_decide.proofs.Words.{Site, Whole, AreInRange, KnowAhead}
use Rattle.pv_decide.specs.declared.tree.Target.TheVariants as target
use Rattle.pv_decide.proofs.Making.{are_in_range, are_ordered, headers_low}
use Rattle.pv_decide.proofs.Reached.{are_ends, none_so}
use Rattle.pv_decide.proofs.trees.Trees.new.Goals as goal

pub ahead-ends-requires-clause-range : goal.ahead-ends-requires-clause-range
ahead-ends-requires-clause-range c = subst AreInRange (sym c.deref.ensures.value) (are_in_range c.args.flow.now c.args.forest.now c.requires c.in_ok-sites.sites.items c.in_ok-sites.ensures)

pub ahead-ends-requires-clause-known : goal.ahead-ends-requires-clause-known
ahead-ends-requires-clause-known c = none_so c.deref.result.now Whole target.Exit c.in_ok-none.none.items c.len.result (c.in_ok-none.ensures.items_if_clones_equal (λ y e. e))

pub returns : goal.returns
returns c =
    let order : c.in_ok-from_slice.field-0.items ≡ c.args.forest.now.order.items = c.in_ok-from_slice.ensures.items ∙ c.deref-2.ensures.value in
    let know : KnowAhead c.in_ok-sites.sites.items Whole target.Exit c.ahead-ends.result.items = subst (λ (sites : List Site). KnowAhead sites Whole target.Exit c.ahead-ends.result.items) c.deref.ensures.value c.ahead-ends.ensures in
    record {
      sites = c.in_ok-sites.ensures;
      follows = order;
      headers = c.in_ok-headers.ensures;
      ready = record {
        range = are_in_range c.args.flow.now c.args.forest.now c.requires c.in_ok-sites.sites.items c.in_ok-sites.ensures;
        ordered = are_ordered c.args.flow.now c.args.forest.now c.requires c.in_ok-sites.sites.items c.in_ok-sites.ensures c.in_ok-from_slice.field-0.items order;
        headers = headers_low c.args.flow.now c.args.forest.now c.requires c.in_ok-sites.sites.items c.in_ok-sites.ensures c.in_ok-headers.field-0.items c.in_ok-headers.ensures;
        size = know.0;
        ends = are_ends c.in_ok-sites.sites.items c.ahead-ends.result.items know;
      };
    }
