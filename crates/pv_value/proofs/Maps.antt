-- Finite maps that lists of entries make, in any total order that tells all keys apart.
use Rattle.std.proofs.Common.{◌≡◌, List, [], ◌∷◌, ◌∙◌, refl, ap, sym, cond, Option, Some, None, Bool, true, false, inl, inr}
use Rattle.std.specs.Prelude.{◌⊎◌, T, ◌&&◌, ◌||◌}
use Rattle.std.specs.Cmp.{IsTotalOrder, eq_by_cmp_equiv}
use Rattle.std.specs.Map.{lookup, keys_of}
use Rattle.std.specs.Ordering.{eq_by_cmp, is_eq, is_lt}
use Rattle.std.specs.List.{AllByRecursion, list_any}
use Rattle.std.specs.List.Sorted.{IsStrictlySortedBy}
use Rattle.std.specs.declared.cmp.Ordering.{Ordering as Order}
use Rattle.std.specs.declared.cmp.Ordering.TheVariants.{Less, Equal, Greater}
use Rattle.std.proofs.lemmas.Map.Lookups.{CmpEqualImpliesEq}
use Rattle.std.specs.FinMap.{FinMap, get, insert, remove, entries, from_entries, from_sorted, find, is_sorted, get-from_entries, get-from_sorted, entries-from_sorted, get-insert, get-remove, same_map}
use Rattle.std.specs.FinMap.Entries.{below_all}
use Rattle.std.specs.FinSet as set
use Rattle.std.specs.BTreeMap.{is_at}

module _ {K X : Type 0} (R : K → K → Order) (o : IsTotalOrder R) (exact : CmpEqualImpliesEq R) where
  find_is : (es : List (K × X)) (q : K) → find R q es ≡ lookup (is_at (R q)) es
  find_is [] q = refl
  find_is (e ∷ es) q = ap (cond (is_at (R q) e.0) (Some e.1)) (find_is es q)

  -- what the map that the entries make has at a key
  pub get_is : (es : List (K × X)) (q : K) → get (from_entries {R = R} es) q ≡ lookup (is_at (R q)) es
  get_is es q = get-from_entries o es q ∙ find_is es q

  -- entries that differ at one key make maps that differ there
  pub given : (es fs : List (K × X)) (k : K) (v : X) → ((q : K) → lookup (is_at (R q)) fs ≡ cond (is_at (R k) q) (Some v) (lookup (is_at (R q)) es)) → from_entries {R = R} fs ≡ insert (from_entries es) k v
  given es fs k v h = same_map o exact _ _ (λ q.
      get_is fs q ∙ h q ∙ ap (λ b. cond b (Some v) (lookup (is_at (R q)) es)) ((eq_by_cmp_equiv o).symm k q)
      ∙ sym (get-insert o (from_entries es) k v q ∙ ap (cond (is_at (R q) k) (Some v)) (get_is es q)))

  pub taken : (es fs : List (K × X)) (k : K) → ((q : K) → lookup (is_at (R q)) fs ≡ cond (is_at (R k) q) None (lookup (is_at (R q)) es)) → from_entries {R = R} fs ≡ remove (from_entries es) k
  taken es fs k h = same_map o exact _ _ (λ q.
      get_is fs q ∙ h q ∙ ap (λ b. cond b None (lookup (is_at (R q)) es)) ((eq_by_cmp_equiv o).symm k q)
      ∙ sym (get-remove o (from_entries es) k q ∙ ap (cond (is_at (R q) k) None) (get_is es q)))

both : (a b : Bool) → T a → T b → T (a && b)
both true b p q = q
both false b p q = p

less : (r : Order) → r ≡ Less → T (is_lt r)
less Less e = tt
less Equal e = absurd (cc)
less Greater e = absurd (cc)

module _ {K X : Type 0} (R : K → K → Order) where
  rising : (k : K) (es : List (K × X)) → AllByRecursion (λ y. R k y ≡ Less) (keys_of es) → T (below_all R k es)
  rising k [] h = tt
  rising k (e ∷ es) h = both (is_lt (R k e.0)) (below_all R k es) (less (R k e.0) h.0) (rising k es h.1)

  sorted_too : (es : List (K × X)) → IsStrictlySortedBy R (keys_of es) → T (is_sorted R es)
  unfolding IsStrictlySortedBy
  sorted_too [] h = tt
  sorted_too (e ∷ es) h = both (below_all R e.0 es) (is_sorted R es) (rising e.0 es h.0) (sorted_too es h.1)

-- the map of entries in order has these entries
pub entries_again : {K X : Type 0} (R : K → K → Order) → IsTotalOrder R → CmpEqualImpliesEq R → (es : List (K × X)) → IsStrictlySortedBy R (keys_of es) → entries (from_entries {R = R} es) ≡ es
entries_again R o exact es h =
    let sorted = sorted_too R es h in
    ap entries (same_map o exact (from_entries es) (from_sorted es) (λ q. get-from_entries o es q ∙ sym (get-from_sorted R es q sorted))) ∙ entries-from_sorted R es sorted

is_equal : (r : Order) → is_eq r ≡ true → r ≡ Equal
is_equal Less e = absurd (cc)
is_equal Equal e = refl
is_equal Greater e = absurd (cc)

either_or : (a b : Bool) → cond a true b ≡ (a || b)
either_or true b = refl
either_or false b = refl

module _ {K : Type 0} (R : K → K → Order) (o : IsTotalOrder R) (exact : CmpEqualImpliesEq R) where
  -- keys that differ at one key make sets that differ there
  pub added : (ks ls : List K) (k : K) → ((q : K) → list_any (is_at (R q)) ls ≡ cond (is_at (R k) q) true (list_any (is_at (R q)) ks)) → set.from_list {R = R} ls ≡ set.insert (set.from_list ks) k
  added ks ls k h = set.same_set o exact _ _ (λ q.
      set.contains-from_list o ls q ∙ h q ∙ ap (λ b. cond b true (list_any (is_at (R q)) ks)) ((eq_by_cmp_equiv o).symm k q)
      ∙ either_or (is_at (R q) k) (list_any (is_at (R q)) ks)
      ∙ ap (λ b. is_at (R q) k || b) (sym (set.contains-from_list o ks q)) ∙ sym (set.contains-insert o (set.from_list ks) k q))

module _ {K X : Type 0} (R : K → K → Order) (o : IsTotalOrder R) (exact : CmpEqualImpliesEq R) where
  one_of : (q k : K) (b : Bool) (v x : X) (m : Option X) → eq_by_cmp R q k ≡ b → cond b (Some v) m ≡ Some x → ((q ≡ k) × (v ≡ x)) ⊎ (m ≡ Some x)
  one_of q k true v x m is e = inl (exact q k (is_equal (R q k) is), cc)
  one_of q k false v x m is e = inr e

  -- after an insertion a key has the new value, or what it had
  pub after_given : (m : FinMap R X) (k q : K) (v x : X) → get (insert m k v) q ≡ Some x → ((q ≡ k) × (v ≡ x)) ⊎ (get m q ≡ Some x)
  after_given m k q v x e = one_of q k (eq_by_cmp R q k) v x (get m q) refl (sym (get-insert o m k v q) ∙ e)

module _ {K : Type 0} (R : K → K → Order) (o : IsTotalOrder R) (exact : CmpEqualImpliesEq R) where
  one_or : (q k : K) (a b : Bool) → eq_by_cmp R q k ≡ a → (a || b) ≡ true → (q ≡ k) ⊎ (b ≡ true)
  one_or q k true b is e = inl (exact q k (is_equal (R q k) is))
  one_or q k false b is e = inr e

  -- a member is the new one, or was one
  pub after_added : (s : set.FinSet R) (k q : K) → set.contains (set.insert s k) q ≡ true → (q ≡ k) ⊎ (set.contains s q ≡ true)
  after_added s k q e = one_or q k (eq_by_cmp R q k) (set.contains s q) refl (sym (set.contains-insert o s k q) ∙ e)
