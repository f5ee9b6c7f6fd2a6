-- Tests that the checker computes: of lists of numbers, of operations, and of expressions as written.
use Rattle.std.proofs.Common.{◌≡◌, ◌≢◌, ℕ, suc, Bool, true, false, ◌&&◌, ◌||◌, List, [], ◌∷◌, ◌++◌, length, ◌⊎◌, inl, inr, refl, sym, ap, ◌∙◌, subst, arith, ◌==◌}
use Rattle.std.proofs.lemmas.Bool.Decides.{Decides-eqb}
use Rattle.pv_graph.specs.declared.node.Op.{Op}
use Rattle.pv_equations.specs.Exp.{Exp, Exps, Name, Over, NoExp, Then}
use Rattle.pv_loops.specs.Ranks.{Heads}
use Rattle.pv_equations.proofs.Cited.{Code, of_op, op_of, op_back}

pub same_number : (a b : ℕ) → (a == b) ≡ true → a ≡ b
same_number a b e = (Decides-eqb a b).0 e

pub number_self : (a : ℕ) → (a == a) ≡ true
number_self a = (Decides-eqb a a).1 refl

pub and_parts : (a b : Bool) → (a && b) ≡ true → (a ≡ true) × (b ≡ true)
and_parts true b e = (refl, e)
and_parts false b e = absurd (cc)

pub or_parts : (a b : Bool) → (a || b) ≡ true → (a ≡ true) ⊎ (b ≡ true)
or_parts true b e = inl refl
or_parts false b e = inr e

pub or_neither : (a b : Bool) → (a || b) ≡ false → (a ≡ false) × (b ≡ false)
or_neither true b e = absurd (cc)
or_neither false b e = (refl, e)

pub not_both : (b : Bool) → b ≡ true → b ≡ false → ⊥
not_both b t f = absurd (cc)

-- ---- lists

abbrev pub same_list : List ℕ → List ℕ → Bool
same_list [] [] = true
same_list (a ∷ A) (b ∷ B) = (a == b) && same_list A B
same_list A B = false

pub same_list_true : (A B : List ℕ) → same_list A B ≡ true → A ≡ B
same_list_true [] [] e = refl
same_list_true (a ∷ A) (b ∷ B) e = let p = and_parts (a == b) (same_list A B) e in ap (λ (a : ℕ). a ∷ A) (same_number a b p.0) ∙ ap (λ (A : List ℕ). b ∷ A) (same_list_true A B p.1)
same_list_true [] (b ∷ B) e = absurd (cc)
same_list_true (a ∷ A) [] e = absurd (cc)

pub list_self : (A : List ℕ) → same_list A A ≡ true
list_self [] = refl
list_self (a ∷ A) = rw (number_self a, list_self A) refl

-- A ends with X
abbrev pub ends_with : List ℕ → List ℕ → Bool
ends_with [] X = same_list [] X
ends_with (a ∷ A) X = same_list (a ∷ A) X || ends_with A X

pub ends_true : (A X : List ℕ) → ends_with A X ≡ true → (B : List ℕ) × (A ≡ B ++ X)
ends_true [] X e = ([], same_list_true [] X e)
ends_true (a ∷ A) X e = go (or_parts (same_list (a ∷ A) X) (ends_with A X) e) (λ e. ends_true A X e)
  where
    go : (same_list (a ∷ A) X ≡ true) ⊎ (ends_with A X ≡ true) → (ends_with A X ≡ true → (B : List ℕ) × (A ≡ B ++ X)) → (B : List ℕ) × (a ∷ A ≡ B ++ X)
    go (inl e) rest = ([], same_list_true (a ∷ A) X e)
    go (inr e) rest = let r = rest e in (a ∷ r.0, ap (λ (A : List ℕ). a ∷ A) r.1)

pub ends_self : (X : List ℕ) → ends_with X X ≡ true
ends_self [] = refl
ends_self (x ∷ X) = rw (list_self (x ∷ X)) refl

pub ends_more : (b : ℕ) (X : List ℕ) → ends_with (b ∷ X) X ≡ true
ends_more b X = go (same_list (b ∷ X) X)
  where
    go : (t : Bool) → (t || ends_with X X) ≡ true
    go true = refl
    go false = ends_self X

pub ends_not : (A X : List ℕ) → ((B : List ℕ) → A ≢ B ++ X) → ends_with A X ≡ false
ends_not A X n = go (ends_with A X) refl
  where
    go : (t : Bool) → ends_with A X ≡ t → ends_with A X ≡ false
    go true e = absurd (let r = ends_true A X e in n r.0 r.1)
    go false e = e

pub longer_not : (b : ℕ) (X : List ℕ) → same_list (b ∷ X) X ≡ false
longer_not b X = go (same_list (b ∷ X) X) refl
  where
    go : (t : Bool) → same_list (b ∷ X) X ≡ t → same_list (b ∷ X) X ≡ false
    go true e = absurd (let l : suc (length X) ≡ length X = ap length (same_list_true (b ∷ X) X e) in omega arith)
    go false e = e

abbrev pub member : List ℕ → ℕ → Bool
member [] a = false
member (b ∷ B) a = (b == a) || member B a

abbrev pub heads_by : List ℕ → ℕ → Bool
heads_by [] m = false
heads_by (h ∷ B) m = h == m

pub heads_true : (A : List ℕ) (m : ℕ) → heads_by A m ≡ true → Heads A m
heads_true [] m e = absurd (cc)
heads_true (h ∷ B) m e = (B, ap (λ (h : ℕ). h ∷ B) (same_number h m e))

pub heads_false : (A : List ℕ) (m : ℕ) → heads_by A m ≡ false → Heads A m → ⊥
heads_false A m e z = not_both (heads_by A m) (subst (λ (A : List ℕ). heads_by A m ≡ true) (sym z.1) (number_self m)) e

-- ---- expressions

abbrev same_code : Code → Code → Bool
same_code [] [] = true
same_code (a ∷ A) (b ∷ B) = same_list a b && same_code A B
same_code A B = false

same_code_true : (A B : Code) → same_code A B ≡ true → A ≡ B
same_code_true [] [] e = refl
same_code_true (a ∷ A) (b ∷ B) e = let p = and_parts (same_list a b) (same_code A B) e in ap (λ (a : List ℕ). a ∷ A) (same_list_true a b p.0) ∙ ap (λ (A : Code). b ∷ A) (same_code_true A B p.1)
same_code_true [] (b ∷ B) e = absurd (cc)
same_code_true (a ∷ A) [] e = absurd (cc)

code_self : (A : Code) → same_code A A ≡ true
code_self [] = refl
code_self (a ∷ A) = rw (list_self a, code_self A) refl

abbrev pub same_op : Op → Op → Bool
same_op o p = same_code (of_op o) (of_op p)

same_op_true : (o p : Op) → same_op o p ≡ true → o ≡ p
same_op_true o p e = sym (op_back o) ∙ ap op_of (same_code_true (of_op o) (of_op p) e) ∙ op_back p

abbrev mutual
  pub same_exp : Exp → Exp → Bool
  same_exp (Name h s) (Name k t) = (h == k) && (s == t)
  same_exp (Over o es) (Over p fs) = same_op o p && same_exps es fs
  same_exp a b = false

  pub same_exps : Exps → Exps → Bool
  same_exps NoExp NoExp = true
  same_exps (Then a es) (Then b fs) = same_exp a b && same_exps es fs
  same_exps es fs = false

mutual
  pub same_exp_true : (a b : Exp) → same_exp a b ≡ true → a ≡ b
  same_exp_true (Name h s) (Name k t) e = let p = and_parts (h == k) (s == t) e in ap (λ (h : ℕ). Name h s) (same_number h k p.0) ∙ ap (Name k) (same_number s t p.1)
  same_exp_true (Over o es) (Over p fs) e = let q = and_parts (same_op o p) (same_exps es fs) e in ap (λ (o : Op). Over o es) (same_op_true o p q.0) ∙ ap (Over p) (same_exps_true es fs q.1)
  same_exp_true (Name h s) (Over p fs) e = absurd (cc)
  same_exp_true (Over o es) (Name k t) e = absurd (cc)

  same_exps_true : (es fs : Exps) → same_exps es fs ≡ true → es ≡ fs
  same_exps_true NoExp NoExp e = refl
  same_exps_true (Then a es) (Then b fs) e = let p = and_parts (same_exp a b) (same_exps es fs) e in ap (λ (a : Exp). Then a es) (same_exp_true a b p.0) ∙ ap (Then b) (same_exps_true es fs p.1)
  same_exps_true NoExp (Then b fs) e = absurd (cc)
  same_exps_true (Then a es) NoExp e = absurd (cc)

mutual
  exp_self : (a : Exp) → same_exp a a ≡ true
  exp_self (Name h s) = rw (number_self h, number_self s) refl
  exp_self (Over o es) = rw (code_self (of_op o), exps_self es) refl

  exps_self : (es : Exps) → same_exps es es ≡ true
  exps_self NoExp = refl
  exps_self (Then a es) = rw (exp_self a, exps_self es) refl

pub same_exp_false : (a b : Exp) → same_exp a b ≡ false → a ≢ b
same_exp_false a b e q = not_both (same_exp a b) (subst (λ (b : Exp). same_exp a b ≡ true) q (exp_self a)) e
