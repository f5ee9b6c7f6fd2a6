-- Nodes have one number in the last pass exactly where they unfold equally.
use Rattle.std.specs.Prelude.{◌≡◌, ◌↔◌, ◌⊎◌, ℕ, zero, suc, ◌<◌, Bool, true, false, List, [], ◌∷◌, take, map, Option, Some, refl, if◌then◌else◌}
use Rattle.std.specs.List.{AllZip}
use Rattle.std.proofs.Common.{inl, inr, sym, ap, ◌∙◌, subst, arith}
use Rattle.pv_graph.specs.declared.node.Op.{Op}
use Rattle.pv_graph.specs.Ops.{shape, is_theta}
use Rattle.pv_graph.specs.Forms.{Form, form}
use Rattle.pv_graph.specs.Unfold.{UnfoldsAs}
use Rattle.pv_graph.specs.Walks.{In}
use Rattle.pv_alike.specs.Partition.{IsA, Level, IsPass, IsFiner, Classes, one, more, IsLast, IsRank, IsQuotient, earlier_kids}
use Rattle.pv_graph.proofs.Cited.{Matched, Bisimulates, bisimulates_unfolds, unfolds_bisimulates}

-- whether an operation is a theta
pub theta_or_other : (o : Op) → (is_theta (shape o) ≡ true) ⊎ (is_theta (shape o) ≡ false)
theta_or_other o = by (is_theta (shape o))
  where
    by : (t : Bool) → (t ≡ true) ⊎ (t ≡ false)
    by true = inl refl
    by false = inr refl

-- ---- earlier kids

first_in : (ks : List ℕ) (k : ℕ) → In (take 1 ks) k → In ks k
first_in [] k h = absurd h
first_in (j ∷ ks) k (inl e) = inl e
first_in (j ∷ ks) k (inr h) = absurd h

-- they are kids
pub earlier_in : (o : Op) (ks : List ℕ) (k : ℕ) → In (earlier_kids o ks) k → In ks k
earlier_in o ks k = by (is_theta (shape o))
  where
    by : (t : Bool) → In (if t then take 1 ks else ks) k → In ks k
    by true h = first_in ks k h
    by false h = h

-- all of them, but for a theta
pub earlier_all : (o : Op) (ks : List ℕ) → is_theta (shape o) ≡ false → earlier_kids o ks ≡ ks
earlier_all o ks e = ap (λ (t : Bool). if t then take 1 ks else ks) e

pub earlier_first : (o : Op) (ks : List ℕ) → is_theta (shape o) ≡ true → earlier_kids o ks ≡ take 1 ks
earlier_first o ks e = ap (λ (t : Bool). if t then take 1 ks else ks) e

first_zip : (T : ℕ → ℕ → Type 0) (ks ls : List ℕ) → AllZip T ks ls → AllZip T (take 1 ks) (take 1 ls)
first_zip T [] [] h = tt
first_zip T (k ∷ ks) (l ∷ ls) h = (h.0, tt)
first_zip T ks ls h = absurd h

earlier_zip : (T : ℕ → ℕ → Type 0) (o p : Op) (ks ls : List ℕ) → o ≡ p → AllZip T ks ls → AllZip T (earlier_kids o ks) (earlier_kids p ls)
earlier_zip T o p ks ls same h = subst (λ (q : Op). AllZip T (earlier_kids o ks) (earlier_kids q ls)) same (by (is_theta (shape o)))
  where
    by : (t : Bool) → AllZip T (if t then take 1 ks else ks) (if t then take 1 ls else ls)
    by true = first_zip T ks ls h
    by false = h

module _ (view : ℕ → Option (Form ℕ)) where
  -- nodes that unfold equally are not apart
  abbrev pub Joins : Bool → (ℕ → ℕ) → Type 0
  Joins t number = (a b : ℕ) (o p : Op) (ks ls : List ℕ) → IsA view t a o ks → IsA view t b p ls → UnfoldsAs view view a b → number a ≡ number b

  -- equal unfoldings have one operation, over kids that unfold equally
  unfolds_into : (a b : ℕ) (o p : Op) (ks ls : List ℕ) → view a ≡ Some (form o ks) → view b ≡ Some (form p ls) → UnfoldsAs view view a b → (o ≡ p) × AllZip (UnfoldsAs view view) ks ls
  unfolds_into a b o p ks ls e f u =
      let m = subst (λ (x : Option (Form ℕ)). Matched (UnfoldsAs view view) x (view b)) e (unfolds_bisimulates view view a b u) in
      subst (λ (y : Option (Form ℕ)). Matched (UnfoldsAs view view) (Some (form o ks)) y) f m

  level_of : (number : ℕ → ℕ) (ks ls : List ℕ) → ((k l : ℕ) → In ks k → In ls l → UnfoldsAs view view k l → number k ≡ number l) → AllZip (UnfoldsAs view view) ks ls → Level number ks ls
  level_of number [] [] p h = tt
  level_of number (k ∷ ks) (l ∷ ls) p h = (p k l (inl refl) (inl refl) h.0, level_of number ks ls (λ a b m n u. p a b (inr m) (inr n) u) h.1)
  level_of number ks ls p h = absurd h

  -- a node is a theta where one that unfolds equally is
  theta_alike : (t : Bool) (o p : Op) → o ≡ p → is_theta (shape o) ≡ t → is_theta (shape p) ≡ t
  theta_alike t o p e h = subst (λ (x : Op). is_theta (shape x) ≡ t) e h

  -- every kid is a node
  module _ (whole : (n k : ℕ) (o : Op) (ks : List ℕ) → view n ≡ Some (form o ks) → In ks k → (p : Op) × (ls : List ℕ) × (view k ≡ Some (form p ls)))
      (rank : ℕ → ℕ) (falls : IsRank view rank) where
    -- in a pass over classes of which none parts thetas that unfold equally, no number parts nodes that unfold equally
    joins_below : (class number : ℕ → ℕ) → IsPass view class number → Joins true class → (r a b : ℕ) (o p : Op) (ks ls : List ℕ) → rank a < r → view a ≡ Some (form o ks) → view b ≡ Some (form p ls) → UnfoldsAs view view a b → number a ≡ number b
    joins_below class number is joins zero a b o p ks ls low e f u = absurd (omega arith)
    joins_below class number is joins (suc r) a b o p ks ls low e f u =
        let same = unfolds_into a b o p ks ls e f u in
        (is a b o p ks ls e f).1 (
          same.0,
          (λ t. joins a b o p ks ls (e, t) (f, theta_alike true o p same.0 t) u),
          level_of number (earlier_kids o ks) (earlier_kids p ls)
              (λ k l m n v.
              let fall = falls a k o ks e m in
              let kid = whole a k o ks e (earlier_in o ks k m) in
              let other = whole b l p ls f (earlier_in p ls l n) in
              joins_below class number is joins r k l kid.0 other.0 kid.1 other.1 (omega arith) kid.2 other.2 v)
              (earlier_zip (UnfoldsAs view view) o p ks ls same.0 same.1),
        )

    pub pass_joins : (class number : ℕ → ℕ) → IsPass view class number → Joins true class → (a b : ℕ) (o p : Op) (ks ls : List ℕ) → view a ≡ Some (form o ks) → view b ≡ Some (form p ls) → UnfoldsAs view view a b → number a ≡ number b
    pass_joins class number is joins a b o p ks ls e f u = joins_below class number is joins (suc (rank a)) a b o p ks ls (omega arith) e f u

    -- and so for the next classes
    pub finer_joins : (class number next : ℕ → ℕ) → IsPass view class number → IsFiner view class number next → Joins true class → Joins true next
    finer_joins class number next is finer joins a b o p ks ls x y u =
        let same = unfolds_into a b o p ks ls x.0 y.0 u in
        (finer.finer a b o p ks ls x y).1 (
          joins a b o p ks ls x y u,
          same.0,
          level_of number ks ls
              (λ k l m n v.
              let kid = whole a k o ks x.0 m in
              let other = whole b l p ls y.0 n in
              pass_joins class number is joins k l kid.0 other.0 kid.1 other.1 kid.2 other.2 v)
              same.1,
        )

    -- no number of passes parts thetas that unfold equally
    pub classes_join : (class : ℕ → ℕ) → Classes view class → Joins true class
    classes_join class (one c same) a b o p ks ls x y u = same a b o p ks ls x y
    classes_join class (more c number next before is finer) a b o p ks ls x y u = finer_joins c number next is finer (classes_join c before) a b o p ks ls x y u

    -- ---- the last pass

    -- nodes of one number
    abbrev pub Numbered : (ℕ → ℕ) → ℕ → ℕ → Type 0
    Numbered number a b = (number a ≡ number b) × ((o : Op) × (ks : List ℕ) × (view a ≡ Some (form o ks))) × ((p : Op) × (ls : List ℕ) × (view b ≡ Some (form p ls)))

    level_numbered : (number : ℕ → ℕ) (ks ls : List ℕ) → ((k : ℕ) → In ks k → (o : Op) × (js : List ℕ) × (view k ≡ Some (form o js))) → ((l : ℕ) → In ls l → (o : Op) × (js : List ℕ) × (view l ≡ Some (form o js)))
        → Level number ks ls → AllZip (Numbered number) ks ls
    level_numbered number [] [] p q h = tt
    level_numbered number (k ∷ ks) (l ∷ ls) p q h = ((h.0, p k (inl refl), q l (inl refl)), level_numbered number ks ls (λ a m. p a (inr m)) (λ a m. q a (inr m)) h.1)
    level_numbered number ks ls p q h = absurd h

    matched_of : (number : ℕ → ℕ) (a b : ℕ) (o p : Op) (ks ls : List ℕ) → view a ≡ Some (form o ks) → view b ≡ Some (form p ls) → o ≡ p → Level number ks ls → Matched (Numbered number) (view a) (view b)
    matched_of number a b o p ks ls e f same h =
        let pairs : Matched (Numbered number) (Some (form o ks)) (Some (form p ls)) = (same, level_numbered number ks ls (λ k m. whole a k o ks e m) (λ l m. whole b l p ls f m) h) in
        subst (λ (x : Option (Form ℕ)). Matched (Numbered number) x (view b)) (sym e) (subst (λ (y : Option (Form ℕ)). Matched (Numbered number) (Some (form o ks)) y) (sym f) pairs)

    pub last_bisimulates : (class number next : ℕ → ℕ) → IsPass view class number → IsFiner view class number next → IsLast view class next → Bisimulates view view (Numbered number)
    last_bisimulates class number next is finer last a b h =
        let o = h.1.0 in
        let ks = h.1.1 in
        let e = h.1.2 in
        let p = h.2.0 in
        let ls = h.2.1 in
        let f = h.2.2 in
        let parts = (is a b o p ks ls e f).0 h.0 in
        elim (theta_or_other o) [
          | inl t ↦
              let s = theta_alike true o p parts.0 t in
              let next_parts = (finer.finer a b o p ks ls (e, t) (f, s)).0 (last a b o p ks ls (e, t) (f, s) (parts.1 t)) in
              matched_of number a b o p ks ls e f parts.0 next_parts.2
          | inr t ↦
              let s = theta_alike false o p parts.0 t in
              let all : Level number ks ls = subst (λ (zs : List ℕ). Level number ks zs) (earlier_all p ls s) (subst (λ (ys : List ℕ). Level number ys (earlier_kids p ls)) (earlier_all o ks t) parts.2) in
              matched_of number a b o p ks ls e f parts.0 all
        ]

    -- in the last pass nodes have one number exactly where they unfold equally
    pub last_numbers : (class number next : ℕ → ℕ) → Classes view class → IsPass view class number → IsFiner view class number next → IsLast view class next
        → (a b : ℕ) (o p : Op) (ks ls : List ℕ) → view a ≡ Some (form o ks) → view b ≡ Some (form p ls) → (number a ≡ number b) ↔ UnfoldsAs view view a b
    last_numbers class number next passes is finer last a b o p ks ls e f = (
      (λ same. bisimulates_unfolds view view (Numbered number) (last_bisimulates class number next is finer last) a b (same, (o, ks, e), (p, ls, f))),
      (λ u. pass_joins class number is (classes_join class passes) a b o p ks ls e f u),
    )

  -- ---- the graph of the numbers

  -- a number, and a node that has it
  abbrev pub Stands : (ℕ → ℕ) → ℕ → ℕ → Type 0
  Stands number m n = (m ≡ number n) × ((o : Op) × (ks : List ℕ) × (view n ≡ Some (form o ks)))

  stand_all : (number : ℕ → ℕ) (ks : List ℕ) → ((k : ℕ) → In ks k → (o : Op) × (js : List ℕ) × (view k ≡ Some (form o js))) → AllZip (Stands number) (map number ks) ks
  stand_all number [] p = tt
  stand_all number (k ∷ ks) p = ((refl, p k (inl refl)), stand_all number ks (λ a m. p a (inr m)))

  -- a number unfolds, in the graph of the numbers, as its nodes do
  pub quotient_unfolds : ((n k : ℕ) (o : Op) (ks : List ℕ) → view n ≡ Some (form o ks) → In ks k → (p : Op) × (ls : List ℕ) × (view k ≡ Some (form p ls)))
      → (number : ℕ → ℕ) (quotient : ℕ → Option (Form ℕ)) → IsQuotient view number quotient → (n : ℕ) (o : Op) (ks : List ℕ) → view n ≡ Some (form o ks) → UnfoldsAs quotient view (number n) n
  quotient_unfolds whole number quotient is n o ks e = bisimulates_unfolds quotient view (Stands number) pairs (number n) n (refl, (o, ks, e))
    where
      pairs : Bisimulates quotient view (Stands number)
      pairs m a h =
          let o = h.1.0 in
          let ks = h.1.1 in
          let there : quotient m ≡ Some (form o (map number ks)) = ap quotient h.0 ∙ is a o ks h.1.2 in
          let both : Matched (Stands number) (Some (form o (map number ks))) (Some (form o ks)) = (refl, stand_all number ks (λ k y. whole a k o ks h.1.2 y)) in
          subst (λ (x : Option (Form ℕ)). Matched (Stands number) x (view a)) (sym there) (subst (λ (y : Option (Form ℕ)). Matched (Stands number) (Some (form o (map number ks))) y) (sym h.1.2) both)
