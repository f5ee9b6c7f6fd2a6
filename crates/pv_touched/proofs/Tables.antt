-- The rules of a table, one after the other.
use Rattle.std.specs.Prelude.{◌≡◌, ℕ, ◌+◌, ◌<◌, true, List, [], ◌∷◌, ◌++◌, length, map, take}
use Rattle.std.proofs.Common.{inl, inr, sym, ap, ◌∙◌, subst, get_or}
use Rattle.std.proofs.lemmas.List.{take_more, map-append}
use Rattle.pv_graph.specs.Walks.{In}
use Rattle.pv_graph.proofs.Cited.{in_at, in_cases}
use Rattle.pv_pattern.specs.declared.pattern.Axiom as declared
use Rattle.pv_pattern.specs.Patterns.{Axiom}
use Rattle.pv_pattern.specs.Seen.{axiom_seen}
use Rattle.pv_touched.specs.Looks.{parts_within, TableWithin}

in_map : (xs : List declared.Axiom) (x : declared.Axiom) → In xs x → In (map axiom_seen xs) (axiom_seen x)
in_map [] x i = absurd i
in_map (y ∷ xs) x (inl e) = inl (ap axiom_seen e)
in_map (y ∷ xs) x (inr i) = inr (in_map xs x i)

pub rule_in : (table : List declared.Axiom) (i : ℕ) (x : declared.Axiom) → i < length table → x ≡ get_or table i x → In (map axiom_seen table) (axiom_seen x)
rule_in table i x lt e = subst (λ (y : declared.Axiom). In (map axiom_seen table) (axiom_seen y)) (sym e) (in_map table (get_or table i x) (in_at table i x lt))

pub rule_more : (steps : ℕ) (table : List declared.Axiom) (i : ℕ) (x : declared.Axiom) → i < length table → x ≡ get_or table i x → TableWithin steps (map axiom_seen (take i table)) → parts_within steps (axiom_seen x).left ≡ true → TableWithin steps (map axiom_seen (take (i + 1) table))
rule_more steps table i x lt e all one a m =
    let more : map axiom_seen (take (i + 1) table) ≡ map axiom_seen (take i table) ++ axiom_seen x ∷ [] = ap (map axiom_seen) (take_more table i x lt ∙ ap (λ (y : declared.Axiom). take i table ++ y ∷ []) (sym e)) ∙ map-append axiom_seen (take i table) (x ∷ []) in
    elim (in_cases (map axiom_seen (take i table)) (axiom_seen x) a (subst (λ (as_ : List Axiom). In as_ a) more m)) [
      | inl old ↦ all a old
      | inr here ↦ subst (λ (b : Axiom). parts_within steps b.left ≡ true) here one
    ]
