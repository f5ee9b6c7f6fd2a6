-- How many matches there are, by a list of them.
use Rattle.std.proofs.Common.{◌≡◌, ℕ, zero, suc, ◌<◌, ◌≤◌, Bool, true, false, List, [], ◌∷◌, length, take, Some, slice_get, ◌↔◌, refl, sym, ap, ◌∙◌, subst, arith, eqb, tests, ◌||◌}
use Rattle.std.specs.List.{AllZip, AllByRecursion, IsDistinct, list_any}
use Rattle.std.proofs.lemmas.Map.Steps.{length-le_from_distinct_below}
use Rattle.std.proofs.lemmas.Option.{slice_get_within}
use Rattle.pv_graph.specs.Walks.{In}
use Rattle.pv_graph.specs.Graphs.{Graph}
use Rattle.pv_pattern.specs.declared.names.NameId.{NameId}
use Rattle.pv_pattern.specs.declared.names.NameId.TheVariants as name
use Rattle.pv_pattern.specs.Patterns.{Axiom}
use Rattle.pv_pattern.specs.Binding.{names}
use Rattle.pv_steps.specs.Facts.{View}
use Rattle.pv_heights.specs.Filled.{Params}
use Rattle.pv_heights.specs.Sides.{Match}
use Rattle.pv_heights.specs.Matches.{IsMatch, AgreeOn, AreOne, AtLeast}
use Rattle.pv_heights.specs.Searches.{AreAll, nodes, IsNode, OneClass}
use Rattle.pv_heights.proofs.Zips.{some_once, zip_flip, zip_join, zip_length}

-- ---- one match is an equivalence, where being joined is one

agree_flip : (p q : Params) (i : NameId) → AgreeOn p q i → AgreeOn q p i
agree_flip p q name.Depth e = sym e
agree_flip p q (name.Symbol s) e = sym e
agree_flip p q (name.Kind s) e = sym e
agree_flip p q (name.Constant s) e = sym e
agree_flip p q name.Operation e = sym e

agree_chain : (p q r : Params) (i : NameId) → AgreeOn p q i → AgreeOn q r i → AgreeOn p r i
agree_chain p q r name.Depth e f = e ∙ f
agree_chain p q r (name.Symbol s) e f = e ∙ f
agree_chain p q r (name.Kind s) e f = e ∙ f
agree_chain p q r (name.Constant s) e f = e ∙ f
agree_chain p q r name.Operation e f = e ∙ f

module _ {A : Type 0} (J : A → A → Type 0) (turn : (a b : A) → J a b → J b a) (chain : (a b c : A) → J a b → J b c → J a c) where
  pub one_turn : (m n : Match A) → AreOne J m n → AreOne J n m
  one_turn m n o = record {
    entry = sym o.entry;
    params = λ i v. agree_flip m.params n.params i (o.params i (subst (λ (e : Axiom). In (names e.left) i) (sym o.entry) v));
    kids = zip_flip J J turn m.kids n.kids o.kids;
    vars = zip_flip J J turn m.vars n.vars o.vars;
  }

  pub one_chain : (l m n : Match A) → AreOne J l m → AreOne J m n → AreOne J l n
  one_chain l m n o p = record {
    entry = o.entry ∙ p.entry;
    params = λ i v. agree_chain l.params m.params n.params i (o.params i v) (p.params i (subst (λ (e : Axiom). In (names e.left) i) o.entry v));
    kids = zip_join J J J chain l.kids m.kids n.kids o.kids p.kids;
    vars = zip_join J J J chain l.vars m.vars n.vars o.vars p.vars;
  }

-- ---- different places

not_equal : (a b : ℕ) → (a ≡ b → ⊥) → eqb a b ≡ false
not_equal a b n = go (eqb a b) refl
  where
    go : (t : Bool) → eqb a b ≡ t → eqb a b ≡ false
    go true e = absurd (n (grind (arith, tests, e)))
    go false e = e

below_one : (p q n : ℕ) (rest : Bool) → p < n → (rest ≡ true → q < n) → (eqb q p || rest) ≡ true → q < n
below_one p q n rest l r e = go (eqb q p) refl e
  where
    go : (t : Bool) → eqb q p ≡ t → (t || rest) ≡ true → q < n
    go true d f = let s : q ≡ p = grind (arith, tests, d) in subst (λ v. v < n) (sym s) l
    go false d f = r f

below_all : (ps : List ℕ) (n : ℕ) → AllByRecursion (λ p. p < n) ps → (q : ℕ) → list_any (eqb q) ps ≡ true → q < n
below_all [] n b q e = absurd (cc)
below_all (p ∷ ps) n b q e = below_one p q n (list_any (eqb q) ps) b.0 (below_all ps n b.1 q) e

module _ {A : Type 0} (R : A → ℕ → Type 0) (n : ℕ) (low : (a : A) (p : ℕ) → R a p → p < n) where
  all_low : (xs : List A) (ps : List ℕ) → AllZip R xs ps → AllByRecursion (λ p. p < n) ps
  all_low [] [] z = tt
  all_low [] (p ∷ ps) z = absurd z
  all_low (x ∷ xs) [] z = absurd z
  all_low (x ∷ xs) (p ∷ ps) z = (low x p z.0, all_low xs ps z.1)

  module _ (Same : A → A → Type 0) (one : (a b : A) (p : ℕ) → R a p → R b p → Same a b) where
    apart : (x : A) (p : ℕ) → R x p → (xs : List A) (ps : List ℕ) → AllZip R xs ps → ((i : ℕ) (y : A) → slice_get xs i ≡ Some y → Same x y → ⊥) → AllByRecursion (λ q. eqb p q ≡ false) ps
    apart x p r [] [] z d = tt
    apart x p r [] (q ∷ ps) z d = absurd z
    apart x p r (y ∷ xs) [] z d = absurd z
    apart x p r (y ∷ xs) (q ∷ ps) z d =
        (not_equal p q (λ e. d zero y refl (one x y q (subst (R x) e r) z.0)), apart x p r xs ps z.1 (λ i w e s. d (suc i) w e s))

    distinct : (xs : List A) (ps : List ℕ) → AllZip R xs ps → ((i j : ℕ) (x y : A) → i < j → slice_get xs i ≡ Some x → slice_get xs j ≡ Some y → Same x y → ⊥) → IsDistinct eqb ps
    unfolding IsDistinct
    distinct [] [] z d = tt
    distinct [] (p ∷ ps) z d = absurd z
    distinct (x ∷ xs) [] z d = absurd z
    distinct (x ∷ xs) (p ∷ ps) z d =
        (apart x p z.0 xs ps z.1 (λ i y e s. d zero (suc i) x y (omega arith) refl e s), distinct xs ps z.1 (λ i j u v l e f s. d (suc i) (suc j) u v (omega (arith, l)) e f s))

    -- things with places below n, no two the same, are at most n
    pub at_most : (xs : List A) (ps : List ℕ) → AllZip R xs ps → ((i j : ℕ) (x y : A) → i < j → slice_get xs i ≡ Some x → slice_get xs j ≡ Some y → Same x y → ⊥) → length xs ≤ n
    at_most xs ps z d =
        subst (λ l. l ≤ n) (sym (zip_length R xs ps z)) (length-le_from_distinct_below ps n (distinct xs ps z d) (below_all ps n (all_low xs ps z)))

take_get : {A : Type 0} (n : ℕ) (xs : List A) (i : ℕ) (x : A) → slice_get (take n xs) i ≡ Some x → slice_get xs i ≡ Some x
take_get zero xs i x e = absurd (cc)
take_get (suc n) [] i x e = e
take_get (suc n) (y ∷ xs) zero x e = e
take_get (suc n) (y ∷ xs) (suc i) x e = take_get n xs i x e

take_long : {A : Type 0} (n : ℕ) (xs : List A) → n ≤ length xs → length (take n xs) ≡ n
take_long zero xs l = refl
take_long (suc n) [] l = absurd (omega (arith, l))
take_long (suc n) (x ∷ xs) l = ap suc (take_long n xs (omega (arith, l)))

-- ---- matches on classes of nodes

module _ (view : View) (assumed : List ℕ) (table : List Axiom) (h : Graph) (numbers : List ℕ) (list : List (Match ℕ)) (a : AreAll view assumed table (nodes h) (IsNode h) (OneClass numbers) list) where
  class_turn : (m n : ℕ) → OneClass numbers m n → OneClass numbers n m
  class_turn m n c = (c.0, c.2, c.1)

  class_chain : (l m n : ℕ) → OneClass numbers l m → OneClass numbers m n → OneClass numbers l n
  class_chain l m n c d = (c.0, c.1, subst (λ v. slice_get numbers n ≡ Some v) (some_once (sym d.1 ∙ c.2)) d.2)

  -- the match is one with that at this place
  abbrev StandsAt : Match ℕ → ℕ → Type 0
  StandsAt m p = (n : Match ℕ) × (slice_get list p ≡ Some n) × AreOne (OneClass numbers) m n

  places : (ms : List (Match ℕ)) → ((i : ℕ) (m : Match ℕ) → slice_get ms i ≡ Some m → IsMatch view assumed table (nodes h) (IsNode h) (OneClass numbers) m) → (ps : List ℕ) × AllZip StandsAt ms ps
  places [] i = ([], tt)
  places (m ∷ ms) i = let p = a.all m (i zero m refl) in let r = places ms (λ j k e. i (suc j) k e) in (p.0 ∷ r.0, ((p.1, p.2, p.3), r.1))

  one_place : (m k : Match ℕ) (p : ℕ) → StandsAt m p → StandsAt k p → AreOne (OneClass numbers) m k
  one_place m k p s t =
      one_chain (OneClass numbers) class_turn class_chain m s.0 k s.2
      (one_turn (OneClass numbers) class_turn class_chain k s.0 (subst (λ n. AreOne (OneClass numbers) k n) (some_once (sym t.1 ∙ s.1)) t.2))

  no_more : (n : ℕ) → AtLeast view assumed table (nodes h) (IsNode h) (OneClass numbers) n → n ≤ length list
  no_more n c =
      let p = places c.list c.each in
      subst (λ l. l ≤ length list) c.long
      (at_most StandsAt (length list) (λ m q s. slice_get_within list q s.0 s.1) (AreOne (OneClass numbers)) one_place c.list p.0 p.1 c.once)

  as_many : (n : ℕ) → n ≤ length list → AtLeast view assumed table (nodes h) (IsNode h) (OneClass numbers) n
  as_many n l = record {
    list = take n list;
    long = take_long n list l;
    each = λ i m e. a.each i m (take_get n list i m e);
    once = λ i j m k b e f o. a.once i j m k b (take_get n list i m e) (take_get n list j k f) o;
  }

  pub list_counts : (n : ℕ) → AtLeast view assumed table (nodes h) (IsNode h) (OneClass numbers) n ↔ (n ≤ length list)
  list_counts n = (no_more n, as_many n)
