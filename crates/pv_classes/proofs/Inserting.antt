-- A new key in one of the tables.
use Rattle.std.proofs.Common.{◌≡◌, ◌≢◌, ◌⊎◌, inl, inr, ℕ, List, [], ◌∷◌, ◌++◌, Option, Some, None, refl, sym, ◌∙◌, ap, subst}
use Rattle.std.specs.List.{Contains}
use Rattle.std.proofs.lemmas.Option.{same_Some, none-some}
use Rattle.std.proofs.lemmas.List.Elements.{Contains-append_left, Contains-push, Contains-push_cases}
use Rattle.pv_graph.specs.declared.node.Node.{Node}
use Rattle.pv_graph.proofs.SameNodes.{same_or_other}
use Rattle.pv_classes.specs.Index.{Index, found_in, first_of, found_by, Enters, Inserts}

pub first_none : (o f : Option ℕ) → first_of o f ≡ None → o ≡ None
first_none None f e = refl
first_none (Some x) f e = absurd (none-some x (sym e))

pub first_cases : (o f : Option ℕ) (e : ℕ) → first_of o f ≡ Some e → (o ≡ Some e) ⊎ (f ≡ Some e)
first_cases None f e h = inr h
first_cases (Some x) f e h = inl h

-- what a table has after one more key
entered : (old new : List (Node × ℕ)) (key : Node) (n : ℕ) → Enters old new key n → (other : Node) (e : ℕ) → found_in new other ≡ Some e → (found_in old other ≡ Some e) ⊎ ((other ≡ key) × (n ≡ e))
entered old new key n h other e f = by (same_or_other other key)
  where
    by : (other ≡ key) ⊎ (other ≢ key) → (found_in old other ≡ Some e) ⊎ ((other ≡ key) × (n ≡ e))
    by (inl s) = inr (s, same_Some n e (sym h.here ∙ ap (found_in new) (sym s) ∙ f))
    by (inr d) = inl (sym (h.others other d) ∙ f)

pub inserts_shared : (old : Index) (s : List (Node × ℕ)) (key : Node) (n : ℕ) → Enters old.shared s key n → found_by old key ≡ None → Inserts old (record old { shared = s }) key n
inserts_shared old s key n h none = record {
  rest = refl;
  shared = entered old.shared s key n h;
  own = λ other e f. inl f;
  here = ap (λ (o : Option ℕ). first_of o (found_in s key)) missing ∙ h.here;
  others = λ other d. ap (first_of (found_in old.own other)) (h.others other d);
  own_others = λ other d. refl;
  noted = inl missing;
  keeps = λ m c. c;
  only = λ m c. inl c;
}
  where
    missing : found_in old.own key ≡ None
    missing = first_none (found_in old.own key) (found_in old.shared key) none

pub inserts_own : (old : Index) (o : List (Node × ℕ)) (by_own_ : List ℕ) (key : Node) (n : ℕ) → Enters old.own o key n → by_own_ ≡ old.by_own ++ n ∷ [] → Inserts old (record old { own = o; by_own = by_own_ }) key n
inserts_own old o by_own_ key n h e = record {
  rest = refl;
  shared = λ other f g. inl g;
  own = entered old.own o key n h;
  here = ap (λ (v : Option ℕ). first_of v (found_in old.shared key)) h.here;
  others = λ other d. ap (λ (v : Option ℕ). first_of v (found_in old.shared other)) (h.others other d);
  own_others = h.others;
  noted = inr (subst (λ (xs : List ℕ). Contains xs n) (sym e) (Contains-push old.by_own n));
  keeps = λ m c. subst (λ (xs : List ℕ). Contains xs m) (sym e) (Contains-append_left old.by_own (n ∷ []) m c);
  only = λ m c. Contains-push_cases old.by_own n m (subst (λ (xs : List ℕ). Contains xs m) e c);
}
