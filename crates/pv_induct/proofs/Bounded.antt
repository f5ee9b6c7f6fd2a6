-- What is joined among the nodes, where the given pairs may also be of other numbers; and when nothing is joined.
use Rattle.std.proofs.Common.{◌≡◌, ◌≢◌, ◌⊎◌, ℕ, suc, ◌<◌, ◌≤◌, Bool, true, false, List, [], ◌∷◌, ◌++◌, length, Some, slice_get, inl, inr, refl, sym, ap, ◌∙◌, subst, arith, if◌then◌else◌, nat_lt, length-append, eqb, eqb-true, eq-eqb, true≢false, not}
use Rattle.std.proofs.lemmas.Option.{slice_get_within}
use Rattle.std.proofs.lemmas.Bool.Decides.{nat_tests}
use Rattle.pv_graph.specs.declared.node.Op.{Op}
use Rattle.pv_graph.specs.declared.node.Op.TheVariants as op
use Rattle.pv_graph.specs.Walks.{In}
use Rattle.pv_graph.specs.Graphs.{Graph, IsGraph}
use Rattle.pv_classes.specs.declared.join.Join.{Join}
use Rattle.pv_classes.specs.Partition.{at, AreOne}
use Rattle.pv_classes.specs.Closest.{Is}
use Rattle.pv_classes.specs.Linked.{Linked}
use Rattle.pv_classes.specs.Calls.{Classes, IsClasses, Knows}
use Rattle.pv_classes.proofs.Cited.{grounds_sorts, all_named_pairs}
use Rattle.pv_induct.specs.Joined.{Open, Joined}
use Rattle.pv_induct.specs.Levels.{NoAxiom, IsCoarser}
use Rattle.pv_induct.specs.Parts.{IsLevelClosed}
use Rattle.pv_induct.specs.Inducts.{OneClass, Inducts}
use Rattle.pv_induct.proofs.Nest.{joined-more}
use Rattle.pv_induct.proofs.Numbered.{IsLow, far, zero-at}
use Rattle.pv_induct.proofs.Growing.{kid-within}

-- a node, or node 0 in the place of what is none
inside : ℕ → ℕ → ℕ
inside n a = if nat_lt a n then a else 0

inside-is : (n a : ℕ) → a < n → inside n a ≡ a
unfolding inside
inside-is n a l = grind (arith, nat_tests)

inside-low : (n a : ℕ) → 0 < n → inside n a < n
unfolding inside
inside-low n a l = grind (arith, nat_tests)

inside-far : (n a : ℕ) → n ≤ a → inside n a ≡ 0
unfolding inside
inside-far n a l = grind (arith, nat_tests)

inside-at : (numbers : List ℕ) (a : ℕ) → IsLow numbers → at numbers (inside (length numbers) a) ≡ at numbers a
inside-at numbers a low = go order
  where
    order : (a < length numbers) ⊎ (length numbers ≤ a)
    order = grind arith

    go : (a < length numbers) ⊎ (length numbers ≤ a) → at numbers (inside (length numbers) a) ≡ at numbers a
    go (inl l) = ap (λ k. at numbers k) (inside-is (length numbers) a l)
    go (inr l) = ap (λ k. at numbers k) (inside-far (length numbers) a l) ∙ zero-at numbers low ∙ sym (far numbers a l)

abbrev ArePairsOf : ℕ → List Open → Type 0
ArePairsOf n os = (o : Open) → In os o → (a b : ℕ) → In o.pairs (a, b) → (a < n) × (b < n)

module _ (g : Graph) (ok : IsGraph g) (fixed numbers : List ℕ) (low : IsLow numbers) (wide : length numbers ≡ length g.nodes) (some_ : 0 < length numbers) where
  n : ℕ
  n = length numbers

  node-low : (a : ℕ) (o : Op) (ks : List ℕ) → Is g.nodes a o ks → a < length numbers
  node-low a o ks e = let z = slice_get_within g.nodes a (record { op = o; kids = ks }) e in omega arith

  kid-low : (a : ℕ) (o : Op) (ks : List ℕ) (i k : ℕ) → Is g.nodes a o ks → slice_get ks i ≡ Some k → k < length numbers
  kid-low a o ks i k e f = let z = kid-within g ok a o ks i k e f in omega arith

  at-both : (os : List Open) (a b : ℕ) → a < length numbers → b < length numbers → Joined g.nodes fixed (OneClass numbers) os a b → Joined g.nodes fixed (OneClass numbers) os (inside (length numbers) a) (inside (length numbers) b)
  at-both os a b la lb h = subst (λ v. Joined g.nodes fixed (OneClass numbers) os v (inside (length numbers) b)) (sym (inside-is (length numbers) a la)) (subst (λ v. Joined g.nodes fixed (OneClass numbers) os a v) (sym (inside-is (length numbers) b lb)) h)

  of-both : (os : List Open) (a b : ℕ) → a < length numbers → b < length numbers → Joined g.nodes fixed (OneClass numbers) os (inside (length numbers) a) (inside (length numbers) b) → Joined g.nodes fixed (OneClass numbers) os a b
  of-both os a b la lb h = subst (λ v. Joined g.nodes fixed (OneClass numbers) os v b) (inside-is (length numbers) a la) (subst (λ v. Joined g.nodes fixed (OneClass numbers) os (inside (length numbers) a) v) (inside-is (length numbers) b lb) h)

  bound : (os : List Open) → ArePairsOf (length numbers) os → (a b : ℕ) → Joined g.nodes fixed (AreOne numbers) os a b → Joined g.nodes fixed (OneClass numbers) os (inside (length numbers) a) (inside (length numbers) b)
  bound os w a b (Joined.given us x y e) = Joined.given us (inside (length numbers) x) (inside (length numbers) y) (inside-low (length numbers) x some_, inside-low (length numbers) y some_, inside-at numbers x low ∙ e ∙ sym (inside-at numbers y low))
  bound os w a b (Joined.same us x l) = Joined.same us (inside (length numbers) x) (let z = inside-low (length numbers) x some_ in omega arith)
  bound os w a b (Joined.flip us x y h) = Joined.flip us (inside (length numbers) x) (inside (length numbers) y) (bound us w y x h)
  bound os w a b (Joined.chain us x y z h k) = Joined.chain us (inside (length numbers) x) (inside (length numbers) y) (inside (length numbers) z) (bound us w x y h) (bound us w y z k)
  bound os w a b (Joined.kids us x y o ks ls e f m l h) =
      at-both us x y (node-low x o ks e) (node-low y o ls f)
      (Joined.kids us x y o ks ls e f m l (λ i k q u v. of-both us k q (kid-low x o ks i k e u) (kid-low y o ls i q f v) (bound us w k q (h i k q u v))))
  bound os w a b (Joined.outer o us x y h) = Joined.outer o us (inside (length numbers) x) (inside (length numbers) y) (bound us (λ p m. w p (inr m)) x y h)
  bound os w a b (Joined.assumed o us x y m) = let l = w o (inl refl) x y m in at-both (o ∷ us) x y l.0 l.1 (Joined.assumed o us x y m)
  bound os w a b (Joined.induction o us deeper thetas starts goes x y m) =
      let t = thetas x y m in
      at-both us x y (node-low x (op.Theta o.depth) (t.0 ∷ t.1 ∷ []) t.4) (node-low y (op.Theta o.depth) (t.2 ∷ t.3 ∷ []) t.5)
      (Joined.induction o us deeper thetas
      (λ x y p q r s m e f. of-both us p r (kid-low x (op.Theta o.depth) (p ∷ q ∷ []) 0 p e refl) (kid-low y (op.Theta o.depth) (r ∷ s ∷ []) 0 r f refl) (bound us w p r (starts x y p q r s m e f)))
      (λ x y p q r s m e f. of-both (o ∷ us) q s (kid-low x (op.Theta o.depth) (p ∷ q ∷ []) 1 q e refl) (kid-low y (op.Theta o.depth) (r ∷ s ∷ []) 1 s f refl)
      (bound (o ∷ us) (λ v n c d z. elim n [ inl i ↦ pairs-low o thetas v i c d z | inr i ↦ w v i c d z ]) q s (goes x y p q r s m e f)))
      x y m)
    where
      pairs-low : (o : Open) → ((x y : ℕ) → In o.pairs (x, y) → (p : ℕ) × (q : ℕ) × (r : ℕ) × (s : ℕ) × Is g.nodes x (op.Theta o.depth) (p ∷ q ∷ []) × Is g.nodes y (op.Theta o.depth) (r ∷ s ∷ []))
          → (v : Open) → o ≡ v → (c d : ℕ) → In v.pairs (c, d) → (c < length numbers) × (d < length numbers)
      pairs-low o thetas v i c d z =
          let t = thetas c d (subst (λ (u : Open). In u.pairs (c, d)) (sym i) z) in
          (node-low c (op.Theta o.depth) (t.0 ∷ t.1 ∷ []) t.4, node-low d (op.Theta o.depth) (t.2 ∷ t.3 ∷ []) t.5)

  pub bounded : (a b : ℕ) → a < length numbers → b < length numbers → Joined g.nodes fixed (AreOne numbers) [] a b → Joined g.nodes fixed (OneClass numbers) [] a b
  bounded a b la lb h = of-both [] a b la lb (bound [] (λ o m. absurd m) a b h)

-- nodes alone are joined
pub joined-low : (g : Graph) → IsGraph g → (fixed numbers : List ℕ) → length numbers ≡ length g.nodes → (os : List Open) → ArePairsOf (length numbers) os → (a b : ℕ) → Joined g.nodes fixed (OneClass numbers) os a b → (a < length numbers) × (b < length numbers)
joined-low g ok fixed numbers wide os w a b (Joined.given us x y e) = (e.0, e.1)
joined-low g ok fixed numbers wide os w a b (Joined.same us x l) = let z : x < length numbers = omega arith in (z, z)
joined-low g ok fixed numbers wide os w a b (Joined.flip us x y h) = let z = joined-low g ok fixed numbers wide us w y x h in (z.1, z.0)
joined-low g ok fixed numbers wide os w a b (Joined.chain us x y v h k) = let z = joined-low g ok fixed numbers wide us w x y h in let q = joined-low g ok fixed numbers wide us w y v k in (z.0, q.1)
joined-low g ok fixed numbers wide os w a b (Joined.kids us x y o ks ls e f m l h) =
    let z = slice_get_within g.nodes x (record { op = o; kids = ks }) e in let q = slice_get_within g.nodes y (record { op = o; kids = ls }) f in (omega arith, omega arith)
joined-low g ok fixed numbers wide os w a b (Joined.outer o us x y h) = joined-low g ok fixed numbers wide us (λ p m. w p (inr m)) x y h
joined-low g ok fixed numbers wide os w a b (Joined.assumed o us x y m) = w o (inl refl) x y m
joined-low g ok fixed numbers wide os w a b (Joined.induction o us deeper thetas starts goes x y m) =
    let t = thetas x y m in
    let z = slice_get_within g.nodes x (record { op = op.Theta o.depth; kids = t.0 ∷ t.1 ∷ [] }) t.4 in let q = slice_get_within g.nodes y (record { op = op.Theta o.depth; kids = t.2 ∷ t.3 ∷ [] }) t.5 in (omega arith, omega arith)

-- ---- where nothing is joined

same-all : (xs ys : List ℕ) → length xs ≡ length ys → ((k : ℕ) → k < length xs → at xs k ≡ at ys k) → xs ≡ ys
same-all [] [] l h = refl
same-all [] (y ∷ ys) l h = absurd (omega arith)
same-all (x ∷ xs) [] l h = absurd (omega arith)
same-all (x ∷ xs) (y ∷ ys) l h = ap (λ (v : ℕ). v ∷ xs) (h 0 (omega arith)) ∙ ap (λ (v : List ℕ). y ∷ v) (same-all xs ys (omega arith) (λ k m. h (suc k) (omega arith)))

pub same-numbers : (old new : Classes) → IsClasses old → IsClasses new → length new.numbers ≡ length old.numbers → IsCoarser old.numbers new.numbers → new.joins ≡ old.joins → new.numbers ≡ old.numbers
same-numbers old new was is long coarser e = same-all new.numbers old.numbers long each
  where
    back : (a b : ℕ) → a < length new.numbers → b < length new.numbers → AreOne new.numbers a b → AreOne old.numbers a b
    back a b la lb f =
        (was.linked a b (omega arith) (omega arith)).1
        (subst (λ n. Linked n old.joins a b) long (subst (λ (l : List Join). Linked (length new.numbers) l a b) e ((is.linked a b la lb).0 f)))

    each : (k : ℕ) → k < length new.numbers → at new.numbers k ≡ at old.numbers k
    each k l =
        let m : at new.numbers k ≤ k = is.low k l in
        let o : at old.numbers k ≤ k = was.low k (omega arith) in
        let up : at new.numbers (at old.numbers k) ≡ at new.numbers k = coarser (at old.numbers k) k (was.least k (omega arith)) in
        let down : at old.numbers (at new.numbers k) ≡ at old.numbers k = back (at new.numbers k) k (omega arith) l (is.least k l) in
        let p : at new.numbers (at old.numbers k) ≤ at old.numbers k = is.low (at old.numbers k) (omega arith) in
        let q : at old.numbers (at new.numbers k) ≤ at new.numbers k = was.low (at new.numbers k) (omega arith) in
        omega arith

-- ---- the whole

pub inducts : (g : Graph) → IsGraph g → (old new : Classes) (found : Bool) → IsClasses old → Knows g.nodes old → IsLevelClosed g.nodes [] 0 old new → (found ≡ true → length new.joins ≢ length old.joins) → (found ≡ false → length new.joins ≡ length old.joins)
    → Inducts g.nodes old new found
inducts g ok old new found was knows s more_ none_ = record {
  knows = s.grown.knows;
  classes = s.grown.classes;
  sound = λ a b h. bounded g ok [] old.numbers was.low knows.long (let z = s.grown.long in let l = h.0 in omega arith) a b (let z = s.grown.long in let l = h.0 in omega arith) (let z = s.grown.long in let l = h.1 in omega arith) (s.grown.sound a b h.2);
  full = λ a b h. let l = joined-low g ok [] old.numbers knows.long [] (λ o m. absurd m) a b h in let z = s.grown.long in
      (subst (λ n. a < n) (sym s.grown.long) l.0, subst (λ n. b < n) (sym s.grown.long) l.1, s.full a b (joined-more g.nodes [] (OneClass old.numbers) (AreOne old.numbers) (λ x y e. e.2) [] a b h));
  more = s.grown.more;
  joins = s.grown.joins;
  added = s.grown.added;
  blocks = s.grown.blocks;
  rest = s.grown.rest [] refl;
  one_sort = λ sorts sorted one. record {
    each = grounds_sorts g.nodes sorts sorted NoAxiom (λ n subst_ a b z. absurd z) [] old.joins new.blocks s.grown.more one tt (s.grown.rest [] refl);
    pairs = all_named_pairs g.nodes sorts sorted NoAxiom (λ n subst_ a b z. absurd z) [] old.joins new.blocks s.grown.more one tt (s.grown.rest [] refl);
  };
  yes = λ e f. more_ e (ap (λ (l : List Join). length l) (s.grown.joins ∙ ap (λ (l : List Join). old.joins ++ l) f ∙ append-none old.joins));
  no = λ e. let f = no-more s.grown.more (ap (λ (l : List Join). length l) (sym s.grown.joins) ∙ none_ e) in
      (f, s.grown.none f, same-numbers old new was s.grown.classes s.grown.long s.grown.coarser (s.grown.joins ∙ ap (λ (l : List Join). old.joins ++ l) f ∙ append-none old.joins));
}
  where
    append-none : {A : Type 0} (l : List A) → l ++ [] ≡ l
    append-none {A} [] = refl
    append-none {A} (x ∷ l) = ap (λ (m : List A). x ∷ m) (append-none l)

    no-more : (l : List Join) → length (old.joins ++ l) ≡ length old.joins → l ≡ []
    no-more [] e = refl
    no-more (x ∷ l) e = absurd (omega (arith, length-append old.joins (x ∷ l)))

-- the test for more joins
pub moved : (m n : ℕ) → (not (eqb m n) ≡ true → m ≢ n) × (not (eqb m n) ≡ false → m ≡ n)
moved m n = by (eqb m n) refl
  where
    by : (b : Bool) → eqb m n ≡ b → (not b ≡ true → m ≢ n) × (not b ≡ false → m ≡ n)
    by true e = ((λ f. absurd (true≢false (sym f))), (λ f. eqb-true m n e))
    by false e = ((λ f g. true≢false (sym (eq-eqb m n g) ∙ e)), (λ f. absurd (true≢false f)))
