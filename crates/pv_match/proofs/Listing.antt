-- The axioms of a table by their heads, and the nodes that have these operations.
use Rattle.std.specs.Prelude.{◌≡◌, ◌⊎◌, ℕ, zero, suc, ◌+◌, ◌<◌, ◌≤◌, Bool, true, false, ◌==◌, nat_lt, if◌then◌else◌, List, [], ◌∷◌, map, length, Some, None, slice_get, option_map, refl}
use Rattle.std.proofs.Common.{inl, inr, sym, ap, ◌∙◌, subst, arith, tests, get_or}
use Rattle.std.proofs.lemmas.Option.{same_Some, slice_get-map, slice_get_read, slice_get_past}
use Rattle.pv_pattern.specs.declared.pattern.Axiom as declared
use Rattle.pv_pattern.specs.Seen.{axiom_seen}
use Rattle.pv_graph.specs.declared.node.Node.{Node}
use Rattle.pv_graph.specs.Walks.{In}
use Rattle.pv_graph.proofs.Cited.{equal_or_not}
use Rattle.pv_pattern.specs.Numbers.{op_number}
use Rattle.pv_classes.specs.Numbered.{nodes_from, nodes_with}
use Rattle.pv_match.specs.declared.members.Group.{Group}
use Rattle.pv_match.specs.Bindings.{with_number}
use Rattle.pv_match.specs.Grouping.{Gains}
use Rattle.pv_match.specs.Kept.{AddsKept}
use Rattle.pv_match.specs.Rules.{HasItems}
use Rattle.pv_match.proofs.Adding.{in_left, in_right}

-- a member that was put is there, and others stay
pub gains_kept : (old new : List Group) (number n : ℕ) → Gains old new number n → (k j : ℕ) → In (with_number old k) j → In (with_number new k) j
gains_kept old new number n is k j i = elim (equal_or_not k number) [
  | inl e ↦ subst (λ (m : ℕ). In (with_number new m) j) (sym e) (subst (λ (xs : List ℕ). In xs j) (sym is.here) (in_left (with_number old number) (n ∷ []) j (subst (λ (m : ℕ). In (with_number old m) j) e i)))
  | inr ne ↦ subst (λ (xs : List ℕ). In xs j) (sym (is.other k ne)) i
]

pub gains_has : (old new : List Group) (number n : ℕ) → Gains old new number n → In (with_number new number) n
gains_has old new number n is = subst (λ (xs : List ℕ). In xs n) (sym is.here) (in_right (with_number old number) (n ∷ []) n (inl refl))

-- ---- nodes by the number of their operation

same_number : (k m : ℕ) → k ≡ m → (k == m) ≡ true
same_number k m e = grind (arith, e)

numbered_in : (number from n : ℕ) (nodes : List Node) (node : Node) → slice_get nodes n ≡ Some node → op_number node.op ≡ number → In (nodes_from number from nodes) (from + n)
numbered_in number from n [] node e f = absurd (cc)
numbered_in number from zero (x ∷ nodes) node e f = go (op_number x.op == number) (same_number (op_number x.op) number (ap (λ (k : Node). op_number k.op) (same_Some x node e) ∙ f))
  where
    go : (b : Bool) → b ≡ true → In (if b then from ∷ nodes_from number (suc from) nodes else nodes_from number (suc from) nodes) (from + zero)
    go true t = inl (omega arith)
    go false t = absurd (cc)
numbered_in number from (suc n) (x ∷ nodes) node e f = go (op_number x.op == number) (subst (In (nodes_from number (suc from) nodes)) (shift from n) (numbered_in number (suc from) n nodes node e f))
  where
    shift : (from n : ℕ) → suc from + n ≡ from + suc n
    shift from n = omega arith

    go : (b : Bool) → In (nodes_from number (suc from) nodes) (from + suc n) → In (if b then from ∷ nodes_from number (suc from) nodes else nodes_from number (suc from) nodes) (from + suc n)
    go true i = inr i
    go false i = i

pub node_numbered : (number n : ℕ) (nodes : List Node) (node : Node) → slice_get nodes n ≡ Some node → op_number node.op ≡ number → In (nodes_with number nodes) n
node_numbered number n nodes node e f = subst (In (nodes_with number nodes)) (from_zero n) (numbered_in number 0 n nodes node e f)
  where
    from_zero : (n : ℕ) → 0 + n ≡ n
    from_zero n = omega arith

-- where there is no rule under the number, nothing has to be listed
pub no_items : (nodes : List Node) (kept : List Bool) (rules : List Group) (number : ℕ) (items : List ℕ) → with_number rules number ≡ [] → HasItems nodes kept rules number items
no_items nodes kept rules number items e n i node at k f m = absurd (subst (λ (xs : List ℕ). In xs i) e m)

pub more_items : (nodes : List Node) (kept : List Bool) (rules : List Group) (number : ℕ) (old new with_it : List ℕ) → AddsKept kept with_it old new → with_it ≡ nodes_with number nodes → HasItems nodes kept rules number new
more_items nodes kept rules number old new with_it adds e n i node at k f m = adds.added n (subst (λ (xs : List ℕ). In xs n) (sym e) (node_numbered number n nodes node at f)) k

pub below_or_at : (n i : ℕ) → n < i + 1 → (n < i) ⊎ (n ≡ i)
below_or_at n i lt = grind arith

-- ---- the axiom at a place

within_table : (i n : ℕ) → true ≡ nat_lt i n → i < n
within_table i n e = grind (arith, tests, e)

past_table : (i n : ℕ) → false ≡ nat_lt i n → n ≤ i
past_table i n e = grind (arith, tests, e)

pub axiom_there : (table : List declared.Axiom) (i : ℕ) (a : declared.Axiom) → true ≡ nat_lt i (length table) → a ≡ get_or table i a → slice_get (map axiom_seen table) i ≡ Some (axiom_seen a)
axiom_there table i a low is = slice_get-map axiom_seen table i ∙ ap (option_map axiom_seen) (slice_get_read table (length table) i a refl (within_table i (length table) low) is)

pub axiom_past : (table : List declared.Axiom) (i : ℕ) → false ≡ nat_lt i (length table) → slice_get (map axiom_seen table) i ≡ None
axiom_past table i past = slice_get-map axiom_seen table i ∙ ap (option_map axiom_seen) (slice_get_past table i (past_table i (length table) past))
