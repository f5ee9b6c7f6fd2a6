-- A question has one verdict.
use Rattle.std.proofs.Common.{◌≡◌, ℕ, zero, suc, ◌<◌, List, [], ◌∷◌, Some, slice_get, ◌⊎◌, ◌↔◌, inl, inr, refl, sym, ap, ◌∙◌, subst, arith}
use Rattle.pv_graph.specs.Walks.{In}
use Rattle.pv_heights.specs.Verdicts.{Question, AreEndings, IsOverBudget, Meets, DecidesFirst, Verdict, equivalent, apart, rounds, budget, IsVerdictWith, IsVerdict}

-- ---- ordered lists with the same members

abbrev IsOrdered : List ℕ → Type 0
IsOrdered xs = (i j m n : ℕ) → i < j → slice_get xs i ≡ Some m → slice_get xs j ≡ Some n → m < n

ordered_tail : (x : ℕ) (xs : List ℕ) → IsOrdered (x ∷ xs) → IsOrdered xs
ordered_tail x xs o i j m n l e f = o (suc i) (suc j) m n (omega (arith, l)) e f

place_of : (xs : List ℕ) (x : ℕ) → In xs x → (i : ℕ) × (slice_get xs i ≡ Some x)
place_of [] x i = absurd i
place_of (y ∷ xs) x (inl e) = (zero, ap Some e)
place_of (y ∷ xs) x (inr i) = let p = place_of xs x i in (suc p.0, p.1)

ordered_less : (x : ℕ) (xs : List ℕ) → IsOrdered (x ∷ xs) → (y : ℕ) → In xs y → x < y
ordered_less x xs o y i = let p = place_of xs y i in o zero (suc p.0) x y (omega arith) refl p.1

module _ (x y : ℕ) (xs ys : List ℕ) (o : IsOrdered (x ∷ xs)) (p : IsOrdered (y ∷ ys)) (same : (n : ℕ) → In (x ∷ xs) n ↔ In (y ∷ ys) n) where
  heads : x ≡ y
  heads = go ((same x).0 (inl refl)) ((same y).1 (inl refl))
    where
      go : (y ≡ x) ⊎ In ys x → (x ≡ y) ⊎ In xs y → x ≡ y
      go (inl e) k = sym e
      go (inr i) (inl e) = e
      go (inr i) (inr k) = let a = ordered_less y ys p x i in let b = ordered_less x xs o y k in absurd (omega (arith, a, b))

  tail_there : (n : ℕ) → In xs n → In ys n
  tail_there n i = go ((same n).0 (inr i))
    where
      go : (y ≡ n) ⊎ In ys n → In ys n
      go (inl e) = let a = ordered_less x xs o n i in let h = heads in absurd (omega (arith, a, h, e))
      go (inr k) = k

  tail_back : (n : ℕ) → In ys n → In xs n
  tail_back n i = go ((same n).1 (inr i))
    where
      go : (x ≡ n) ⊎ In xs n → In xs n
      go (inl e) = let a = ordered_less y ys p n i in let h = heads in absurd (omega (arith, a, h, e))
      go (inr k) = k

ordered_once : (xs ys : List ℕ) → IsOrdered xs → IsOrdered ys → ((n : ℕ) → In xs n ↔ In ys n) → xs ≡ ys
ordered_once [] [] o p same = refl
ordered_once [] (y ∷ ys) o p same = absurd ((same y).1 (inl refl))
ordered_once (x ∷ xs) [] o p same = absurd ((same x).0 (inl refl))
ordered_once (x ∷ xs) (y ∷ ys) o p same =
    let t = ordered_once xs ys (ordered_tail x xs o) (ordered_tail y ys p) (λ n. (tail_there x y xs ys o p same n, tail_back x y xs ys o p same n)) in
    ap (λ z. z ∷ xs) (heads x y xs ys o p same) ∙ ap (λ zs. y ∷ zs) t

pub endings_once : (q : Question) (ends more : List ℕ) → AreEndings q ends → AreEndings q more → ends ≡ more
endings_once q ends more e f = ordered_once ends more e.ordered f.ordered (λ n. ((λ i. (f.are n).1 ((e.are n).0 i)), (λ i. (e.are n).1 ((f.are n).0 i))))

-- ---- one least height

three : (j k : ℕ) → (j < k) ⊎ (j ≡ k) ⊎ (k < j)
three j k = grind arith

module _ (q : Question) (ends : List ℕ) where
  least_once : (j k : ℕ) → DecidesFirst q ends j → DecidesFirst q ends k → j ≡ k
  least_once j k a b = go (three j k)
    where
      go : (j < k) ⊎ (j ≡ k) ⊎ (k < j) → j ≡ k
      go (inl l) = absurd (b.least j l a.decides)
      go (inr (inl e)) = e
      go (inr (inr l)) = absurd (a.least k l b.decides)

  -- a height that decides within the rounds leaves none undecided
  not_ended : (k n : ℕ) → DecidesFirst q ends k → IsVerdictWith q ends (rounds n) → ⊥
  not_ended k n a b = b.1 k a.within a.decides

  meets_not : (j k : ℕ) → DecidesFirst q ends j → Meets q ends j → DecidesFirst q ends k → (Meets q ends k → ⊥) → ⊥
  meets_not j k a m b n = n (subst (Meets q ends) (least_once j k a b) m)

  over_not : (j k : ℕ) → DecidesFirst q ends j → IsOverBudget q ends j → DecidesFirst q ends k → (IsOverBudget q ends k → ⊥) → ⊥
  over_not j k a m b n = n (subst (IsOverBudget q ends) (least_once j k a b) m)

  with_once : (v w : Verdict) → IsVerdictWith q ends v → IsVerdictWith q ends w → v ≡ w
  with_once equivalent equivalent a b = refl
  with_once equivalent apart a b = absurd (meets_not a.0 b.0 a.1 a.2 b.1 b.2)
  with_once equivalent (rounds n) a b = absurd (not_ended a.0 n a.1 b)
  with_once equivalent (budget k) a b = absurd (meets_not a.0 k a.1 a.2 b.0 b.2)
  with_once apart equivalent a b = absurd (meets_not b.0 a.0 b.1 b.2 a.1 a.2)
  with_once apart apart a b = refl
  with_once apart (rounds n) a b = absurd (not_ended a.0 n a.1 b)
  with_once apart (budget k) a b = absurd (over_not k a.0 b.0 b.1 a.1 a.3)
  with_once (rounds n) equivalent a b = absurd (not_ended b.0 n b.1 a)
  with_once (rounds n) apart a b = absurd (not_ended b.0 n b.1 a)
  with_once (rounds n) (rounds m) a b = ap rounds (a.0 ∙ sym b.0)
  with_once (rounds n) (budget k) a b = absurd (not_ended k n b.0 a)
  with_once (budget k) equivalent a b = absurd (meets_not b.0 k b.1 b.2 a.0 a.2)
  with_once (budget k) apart a b = absurd (over_not k b.0 a.0 a.1 b.1 b.3)
  with_once (budget k) (rounds n) a b = absurd (not_ended k n a.0 b)
  with_once (budget k) (budget l) a b = ap budget (least_once k l a.0 b.0)

pub verdict_once : (q : Question) (v w : Verdict) → IsVerdict q v → IsVerdict q w → v ≡ w
verdict_once q v w a b = with_once q b.0 v w (subst (λ ends. IsVerdictWith q ends v) (endings_once q a.0 b.0 a.1 b.1) a.2) b.2
