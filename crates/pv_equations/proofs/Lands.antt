-- An exit comes to one place, and to which.
use Rattle.std.proofs.Common.{◌≡◌, ◌≢◌, ℕ, suc, ◌+◌, ◌≤◌, List, [], ◌∷◌, ◌++◌, length, refl, sym, ap, ◌∙◌, subst, arith, length-append, append-nil, le_refl}
use Rattle.pv_equations.proofs.Words.{Heads, Place, On, Again, Header, Gone, Lands, beside, enters, again, header, leaves, gone}

longer : (A : List ℕ) (h : ℕ) (B : List ℕ) → A ≡ B → A ≢ h ∷ B
longer A h B e d = let z : length B ≡ suc (length B) = sym (ap length e) ∙ ap length d in absurd (omega arith)

two_longer : (A B : List ℕ) (h k l : ℕ) → A ≡ h ∷ B → A ≢ k ∷ l ∷ B
two_longer A B h k l e d = let z : suc (length B) ≡ suc (suc (length B)) = sym (ap length e) ∙ ap length d in absurd (omega arith)

pub lands_once : (R A : List ℕ) (b : ℕ) (F : List ℕ) (p q : Place) → Lands R b A F p → Lands R b A F q → p ≡ q
lands_once R A b F p q (beside G e n) (beside H d m) = refl
lands_once R A b F p q (beside G e n) (enters H d) = absurd (n b _ d refl)
lands_once R A b F p q (beside G e n) (again h H z d) = absurd (n b _ d refl)
lands_once R A b F p q (beside G e n) (header B d c) = absurd (n b _ (c ∙ d) refl)
lands_once R A b F p q (beside G e n) (leaves h H r m d) = absurd (m [] e)
lands_once R A b F p q (beside G e n) (gone m) = absurd (m [] e)
lands_once R A b F p q (enters G e) (beside H d m) = absurd (m b _ e refl)
lands_once R A b F p q (enters G e) (enters H d) = refl
lands_once R A b F p q (enters G e) (again h H z d) = absurd (two_longer A (H ++ R) b b h d e)
lands_once R A b F p q (enters G e) (header B d c) = absurd (longer A b R c e)
lands_once R A b F p q (enters G e) (leaves h H r m d) = absurd (m (b ∷ []) e)
lands_once R A b F p q (enters G e) (gone m) = absurd (m (b ∷ []) e)
lands_once R A b F p q (again k G y e) (beside H d m) = absurd (m b _ e refl)
lands_once R A b F p q (again k G y e) (enters H d) = absurd (two_longer A (G ++ R) b b k e d)
lands_once R A b F p q (again k G y e) (again h H z d) = refl
lands_once R A b F p q (again k G y e) (leaves h H r m d) = absurd (m [] (e ∙ ap (λ (c : ℕ). c ∷ (H ++ R)) (sym y)))
lands_once R A b F p q (header B e c) (beside H d m) = absurd (m b _ (c ∙ e) refl)
lands_once R A b F p q (header B e c) (enters H d) = absurd (longer A b R c d)
lands_once R A b F p q (header B e c) (header C d k) = refl
lands_once R A b F p q (header B e c) (gone m) = absurd (m [] c)
lands_once R A b F p q (leaves h G r n c) (beside H d m) = absurd (n [] d)
lands_once R A b F p q (leaves h G r n c) (enters H d) = absurd (n (b ∷ []) d)
lands_once R A b F p q (leaves h G r n c) (again k H z d) = absurd (n [] (d ∙ ap (λ (c : ℕ). c ∷ (H ++ R)) (sym z)))
lands_once R A b F p q (leaves h G r n c) (leaves k H s m d) = lands_once R A b G p q c d
lands_once R A b F p q (gone n) (beside H d m) = absurd (n [] d)
lands_once R A b F p q (gone n) (enters H d) = absurd (n (b ∷ []) d)
lands_once R A b F p q (gone n) (header B d c) = absurd (n [] c)
lands_once R A b F p q (gone n) (gone m) = refl

-- a walk leaves all loops of which an exit's target isn't inside
leave_all : (C F R A : List ℕ) (m : ℕ) (p : Place) → ((X Y : List ℕ) (c : ℕ) → C ≡ X ++ c ∷ Y → (Z : List ℕ) → A ≢ Z ++ c ∷ ((Y ++ F) ++ R)) → Lands R m A F p → Lands R m A (C ++ F) p
leave_all [] F R A m p n d = d
leave_all (c ∷ C) F R A m p n d = leaves c (C ++ F) p (n [] C c refl) (leave_all C F R A m p (λ X Y y e. n (c ∷ X) Y y (ap (λ (l : List ℕ). c ∷ l) e)) d)

pub longer_than : (A Z W : List ℕ) (c : ℕ) → length A ≤ length W → A ≢ Z ++ c ∷ W
longer_than A Z W c l e = let z : length A ≡ length Z + suc (length W) = simp length-append at (ap length e) in absurd (omega arith)

tail_long : (Y F R A : List ℕ) → length A ≤ length (F ++ R) → length A ≤ length ((Y ++ F) ++ R)
tail_long Y F R A l = simp (length-append, length-append) (let z : length A ≤ length F + length R = simp length-append at l in omega arith)

pub same_or_longer : (A Z W : List ℕ) → A ≡ Z ++ W → length A ≤ length W → A ≡ W
same_or_longer A [] W e l = e
same_or_longer A (z ∷ Z) W e l = let y : length A ≡ suc (length Z) + length W = simp length-append at (ap length e) in absurd (omega arith)

leave_short : (C F R A : List ℕ) (m : ℕ) (p : Place) → length A ≤ length (F ++ R) → Lands R m A F p → Lands R m A (C ++ F) p
leave_short C F R A m p l d = leave_all C F R A m p (λ X Y c e Z. longer_than A Z ((Y ++ F) ++ R) c (tail_long Y F R A l)) d

-- out of the loops C, to a block of the region around them
pub lands_on : (C F R A : List ℕ) (m : ℕ) → A ≡ F ++ R → (Heads A m → ⊥) → Lands R m A (C ++ F) (On F m)
lands_on C F R A m e n = leave_short C F R A m (On F m) (let z : length A ≡ length (F ++ R) = ap length e in omega arith) (beside F e (λ h B z y. n (B, z ∙ ap (λ (k : ℕ). k ∷ B) (sym y))))

-- out of the loops C, and into another loop
pub lands_in : (C F R A : List ℕ) (m : ℕ) → A ≡ m ∷ (F ++ R) → ((X Y : List ℕ) (c : ℕ) → C ≡ X ++ c ∷ Y → c ≢ m) → Lands R m A (C ++ F) (On (m ∷ F) m)
lands_in C F R A m e n = leave_all C F R A m (On (m ∷ F) m) other (enters F e)
  where
    other : (X Y : List ℕ) (c : ℕ) → C ≡ X ++ c ∷ Y → (Z : List ℕ) → A ≢ Z ++ c ∷ ((Y ++ F) ++ R)
    other X Y c g Z h =
        let o : length A ≡ suc (length (F ++ R)) = ap length e in
        let l : length (F ++ R) ≤ length ((Y ++ F) ++ R) = tail_long Y F R (F ++ R) (le_refl _) in
        let q : A ≡ c ∷ ((Y ++ F) ++ R) = same_or_longer A Z (c ∷ ((Y ++ F) ++ R)) h (omega arith) in
        n X Y c g (let r : c ∷ ((Y ++ F) ++ R) ≡ m ∷ (F ++ R) = sym q ∙ e in cc)

-- out of the loops C, and back to the header of the region
pub lands_header : (C B A : List ℕ) (h : ℕ) → A ≡ h ∷ B → Lands (h ∷ B) h A C Header
lands_header C B A h e = subst (λ (G : List ℕ). Lands (h ∷ B) h A G Header) (append-nil C) (leave_short C [] (h ∷ B) A h Header (let z : length A ≡ length (h ∷ B) = ap length e in omega arith) (header B refl e))

-- out of the loops C, and back to the header of a loop that is walked
pub lands_again : (C F R A : List ℕ) (m : ℕ) → A ≡ m ∷ (F ++ R) → Lands R m A (C ++ m ∷ F) Again
lands_again C F R A m e = leave_short C (m ∷ F) R A m Again (let z : length A ≡ length (m ∷ (F ++ R)) = ap length e in omega arith) (again m F refl e)

-- out of the region
pub lands_gone : (C R A : List ℕ) (m : ℕ) → length A ≤ length R → A ≢ R → Lands R m A C Gone
lands_gone C R A m l n = subst (λ (G : List ℕ). Lands R m A G Gone) (append-nil C) (leave_short C [] R A m Gone l (gone (λ Z e. n (same_or_longer A Z R e l))))
