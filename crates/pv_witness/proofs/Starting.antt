-- Marks of the nodes of which a condition holds are those that witnesses start by.
use Rattle.std.specs.Prelude.{◌≡◌, ◌↔◌, ℕ, ◌<◌, Bool, true, false, not, List, [], ◌∷◌, suc, length, map, take, IsTrue, Some, slice_get, refl}
use Rattle.std.proofs.Common.{sym, ap, ◌∙◌, arith, true≢false, option_map}
use Rattle.std.proofs.lemmas.Option.{slice_get_within, slice_get-map, same_Some}
use Rattle.pv_graph.specs.Forms.{form}
use Rattle.pv_graph.specs.Walks.{Free, here, below, Reaches, itself, along}
use Rattle.pv_graph.specs.Graphs.{Graph, form_at, IsGraph, Extends}
use Rattle.pv_graph.specs.Calls.{AreMarksOf}
use Rattle.pv_graph.proofs.Cited.{found, node_at}
use Rattle.pv_heights.specs.Heights.{IsBase}
use Rattle.pv_witness.specs.declared.condition.Condition.{Condition}
use Rattle.pv_witness.specs.declared.condition.Condition.TheVariants as condition
use Rattle.pv_witness.specs.Numbered.{AreNumbered, numbered}
use Rattle.pv_witness.specs.Conditions.{HoldsAt, HoldsOfNode, AreStartsOver}
use Rattle.pv_witness.proofs.Numbering.{get_first, of_first, numbered_extends}
use Rattle.pv_witness.proofs.Copies.{form_kept, has_kept}

-- ---- the marks of what doesn't hold

pub negated_marks : (g : Graph) (P : ℕ → Type 0) (marks more : List Bool) → more ≡ map not marks → AreMarksOf g P marks → AreMarksOf g (λ n. P n → ⊥) more
negated_marks g P marks more e m = record { long = ap length e ∙ length_map marks ∙ m.long; says = λ n b at_. says n b (sym (ap (λ (xs : List Bool). slice_get xs n) e) ∙ at_) }
  where
    length_map : (xs : List Bool) → length (map not xs) ≡ length xs
    length_map [] = refl
    length_map (x ∷ xs) = ap suc (length_map xs)

    by_mark : (n : ℕ) (b c : Bool) → slice_get marks n ≡ Some c → not c ≡ b → IsTrue b ↔ (P n → ⊥)
    by_mark n b true at_ f = (λ t. absurd (true≢false (sym t ∙ sym f)), λ none. absurd (none ((m.says n true at_).0 refl)))
    by_mark n b false at_ f = (λ t p. true≢false (sym ((m.says n false at_).1 p)), λ none. sym f)

    says : (n : ℕ) (b : Bool) → slice_get (map not marks) n ≡ Some b → IsTrue b ↔ (P n → ⊥)
    says n b at_ =
        let lt : n < length marks = (let z = slice_get_within (map not marks) n b at_ in let y = length_map marks in omega (arith, z, y)) in
        let x = found marks n lt in
        by_mark n b x.0 x.1 (same_Some (not x.0) b (ap (option_map not) (sym x.1) ∙ sym (slice_get-map not marks n) ∙ at_))

-- ---- what holds of a node of the whole graph holds of it in its first part

module _ (h g : Graph) (e : Extends h g) (is : IsGraph h) where
  reaches_on : (assumed : List ℕ) (n m : ℕ) → Reaches (form_at h.nodes) assumed n m → Reaches (form_at g.nodes) assumed n m
  reaches_on assumed n m (itself _) = itself n
  reaches_on assumed n m (along _ k _ o ks no_end at_ i r) = along n k m o ks no_end (form_kept h g is e n (form o ks) at_) i (reaches_on assumed k m r)

  free_on : (d n : ℕ) → Free (form_at h.nodes) d n → Free (form_at g.nodes) d n
  free_on d n (here _ o ks at_ s) = here n o ks (form_kept h g is e n (form o ks) at_) s
  free_on d n (below _ k o ks at_ i f) = below n k o ks (form_kept h g is e n (form o ks) at_) i (free_on d k f)

  holds_back : (assumed : List ℕ) (k : Condition) (n : ℕ) → HoldsOfNode g assumed k n → HoldsOfNode h assumed k n
  holds_back assumed condition.Settled n holds = λ m o ks r no_end at_. holds m o ks (reaches_on assumed n m r) no_end (form_kept h g is e m (form o ks) at_)
  holds_back assumed (condition.NotFree d) n holds = λ f. holds (free_on d n f)

-- ---- the marks that witnesses start by

pub are_starts : (g : Graph) (numbers assumed : List ℕ) (k : Condition) (marks : List Bool) → IsGraph (numbered g numbers) → AreNumbered g numbers → AreMarksOf g (HoldsOfNode g assumed k) marks
    → AreStartsOver g numbers assumed k (take (length numbers) marks)
are_starts g numbers assumed k marks is_graph is m least is_least e few = record {
  hold = λ n marked. holds_back (numbered g numbers) g (numbered_extends g numbers) is_graph assumed k n ((m.says n true (of_first (length numbers) marks n true marked)).0 refl);
  least = λ n base holds. marked n base holds;
}
  where
    marked : (n : ℕ) → IsBase (form_at least.nodes) n → HoldsAt (form_at least.nodes) assumed k n → slice_get (take (length numbers) marks) n ≡ Some true
    marked n (o, ks, at_) holds =
        let node = node_at least.nodes n o ks at_ in
        let lt = slice_get_within least.nodes n node.0 node.1 in
        let there = has_kept least g is_least e assumed k n lt holds in
        let long = m.long in
        let low = is.few in
        let x = found marks n (omega (arith, lt, few, long, low)) in
        let yes : x.0 ≡ true = (m.says n x.0 x.1).1 there in
        get_first (length numbers) marks n (omega (arith, lt, few)) ∙ x.1 ∙ ap Some yes
