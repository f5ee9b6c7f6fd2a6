-- What is gathered, in order, is what is found.
use Rattle.std.specs.Prelude.{◌≤◌, ℕ, List, length}
use Rattle.std.specs.Bool.{OnFalse}
use Rattle.std.specs.List.Sorted.{IsStrictlySortedBy}
use Rattle.std.proofs.Common.{sym, ◌∙◌, subst}
use Rattle.pv_graph.specs.Graphs.{Graph}
use Rattle.pv_pattern.specs.Patterns.{Axiom}
use Rattle.pv_match.specs.declared.found.Match.{Match}
use Rattle.pv_match.specs.declared.found.Matches.{Matches}
use Rattle.pv_match.specs.declared.found.Matches.TheVariants.{All, More}
use Rattle.pv_match.specs.declared.gathered.Gathered.{Gathered}
use Rattle.pv_match.specs.All.{AreMatchesOf}
use Rattle.pv_match.specs.Orders.{match_cmp}
use Rattle.pv_match.specs.Gathering.{AreTooMany, AreMatchesAll, Finds, FindsAll, IsFound, IsFoundAll, IsListing}
use Rattle.pv_match.proofs.Parts.{on_true, on_false}

module _ (g : Graph) (numbers assumed : List ℕ) (table : List Axiom) (limit : ℕ) (got : Gathered) where
  pub found_listing : (items : List ℕ) (answer : Matches) → Finds g numbers assumed table limit items got.is_over got.list.items → OnFalse got.is_over (length got.list.items ≤ limit) → IsListing got answer → IsFound g numbers assumed table limit items answer
  found_listing items (All list) finds few is = (
    subst (AreMatchesOf g numbers assumed table items) (sym is.1) (on_false got.is_over (AreMatchesOf g numbers assumed table items got.list.items) is.0 finds.1),
    subst (IsStrictlySortedBy match_cmp) (sym is.1) got.ordered,
    subst (λ (ks : List Match). length ks ≤ limit) (sym is.1) (on_false got.is_over (length got.list.items ≤ limit) is.0 few),
  )
  found_listing items (More n) finds few is =
      let many = on_true got.is_over (AreTooMany g numbers assumed table limit got.list.items) is.0 finds.0 in
      (is.1 ∙ many.long, got.list.items, many, got.ordered)

  pub all_listing : (answer : Matches) → FindsAll g numbers assumed table limit got.is_over got.list.items → OnFalse got.is_over (length got.list.items ≤ limit) → IsListing got answer → IsFoundAll g numbers assumed table limit answer
  all_listing (All list) finds few is = (
    subst (AreMatchesAll g numbers assumed table) (sym is.1) (on_false got.is_over (AreMatchesAll g numbers assumed table got.list.items) is.0 finds.1),
    subst (IsStrictlySortedBy match_cmp) (sym is.1) got.ordered,
    subst (λ (ks : List Match). length ks ≤ limit) (sym is.1) (on_false got.is_over (length got.list.items ≤ limit) is.0 few),
  )
  all_listing (More n) finds few is =
      let many = on_true got.is_over (AreTooMany g numbers assumed table limit got.list.items) is.0 finds.0 in
      (is.1 ∙ many.long, got.list.items, many, got.ordered)
