-- Types that are read from descriptors, and lists that are read element by element.
use Rattle.std.specs.Prelude.{◌≡◌, ◌⊎◌, ℕ, suc, ◌+◌, ◌<◌, List, [], ◌∷◌, ◌++◌, length, Option, Some, None, Result, MatchOption, refl}
use Rattle.std.proofs.Common.{inl, inr, sym, ap, ◌∙◌, subst, arith, drop, get_or, append_assoc}
use Rattle.std.proofs.Math.Seq.{drop-cons}
use Rattle.std.proofs.lemmas.List.{append-nil}
use Rattle.pv_value.specs.Spelled.{bind, field_type, method_type}
use Rattle.pv_value.specs.Descriptors.{IsFieldType, IsMethodType}
use Rattle.pv_value.proofs.Cited.{field_spelled, method_spelled}
use Rattle.pv_value.specs.declared.descriptor.JType.{JType}
use Rattle.pv_value.specs.declared.descriptor.Descriptor.{Descriptor}
use Rattle.pv_value.specs.declared.outcome.Val.{Val}
use Rattle.pv_value.specs.declared.outcome.Val.TheVariants as val
use Rattle.pv_value.specs.declared.world.World.{World}
use Rattle.pv_value.specs.declared.outcome.Input.{Input}
use Rattle.pv_graph.specs.declared.node.Op.{Op}
use Rattle.pv_graph.specs.declared.node.Op.TheVariants as op
use Rattle.pv_graph.specs.declared.node.OpSort.{OpSort}
use Rattle.pv_denote.specs.Denote.{numbers, strict}
use Rattle.pv_denote.specs.Given.{Gives, Stops, leaf_of, num_in}
use Rattle.pv_denote.specs.declared.stop.Stop.{Stop}
use Rattle.pv_denote.specs.declared.stop.Stop.TheVariants.{NoValue, Memory}

-- ---- types

none_by : {A : Type 0} (o : Option A) → ((a : A) → o ≡ Some a → ⊥) → o ≡ None
none_by None h = refl
none_by (Some a) h = absurd (h a refl)

pub field_found : (text desc : List ℕ) (t : JType) → text ≡ desc → IsFieldType text t → field_type desc ≡ Some t
field_found text desc t e h = subst (λ (q : List ℕ). field_type q ≡ Some t) e ((field_spelled text t).1 h)

pub field_missing : (text desc : List ℕ) → text ≡ desc → ((t : JType) → IsFieldType text t → ⊥) → field_type desc ≡ None
field_missing text desc e h = subst (λ (q : List ℕ). field_type q ≡ None) e (none_by (field_type text) (λ t f. h t ((field_spelled text t).0 f)))

pub method_is : (text desc : List ℕ) (found : Option Descriptor) → text ≡ desc → MatchOption found ((d : Descriptor) → IsMethodType text d → ⊥) (λ d. IsMethodType text d) → method_type desc ≡ found
method_is text desc None e h = subst (λ (q : List ℕ). method_type q ≡ None) e (none_by (method_type text) (λ d f. h d ((method_spelled text d).0 f)))
method_is text desc (Some d) e h = subst (λ (q : List ℕ). method_type q ≡ Some d) e ((method_spelled text d).1 h)

-- ---- lists

-- all, once those that are left are read
abbrev pub Rest : {A B : Type 0} → (List A → Option (List B)) → List A → List B → List A → Type 0
Rest all xs found more = all xs ≡ bind (all more) (λ ys. Some (found ++ ys))

-- a list is read element by element
abbrev pub Each : {A B : Type 0} → (A → Option B) → (List A → Option (List B)) → Type 0
Each {A} {B} get all = (x : A) (xs : List A) → all (x ∷ xs) ≡ bind (get x) (λ y. bind (all xs) (λ ys. Some (y ∷ ys)))

pub rest_init : {A B : Type 0} (all : List A → Option (List B)) (xs : List A) (found : List B) → found ≡ [] → Rest all xs found xs
rest_init {A} {B} all xs found e = subst (λ (us : List B). Rest all xs us xs) (sym e) (go (all xs))
  where
    go : (o : Option (List B)) → o ≡ bind o (λ us. Some ([] ++ us))
    go None = refl
    go (Some us) = refl

at_front : {A : Type 0} (xs : List A) (p : ℕ) (x : A) → p < length xs → x ≡ get_or xs p x → drop p xs ≡ x ∷ drop (p + 1) xs
at_front xs p x lt e = let z : suc p ≡ p + 1 = omega arith in drop-cons xs p x lt ∙ ap (λ (q : ℕ). get_or xs p x ∷ drop q xs) z ∙ ap (λ y. y ∷ drop (p + 1) xs) (sym e)

pub rest_step : {A B : Type 0} (get : A → Option B) (all : List A → Option (List B)) → Each get all → (xs : List A) (p : ℕ) (x : A) (y : B) (found new : List B) → p < length xs → x ≡ get_or xs p x
    → get x ≡ Some y → new ≡ found ++ y ∷ [] → Rest all xs found (drop p xs) → Rest all xs new (drop (p + 1) xs)
rest_step {A} {B} get all each xs p x y found new lt is e n h =
    subst (λ (us : List B). Rest all xs us (drop (p + 1) xs)) (sym n)
    (h ∙ ap (λ (ls : List A). bind (all ls) (λ us. Some (found ++ us))) (at_front xs p x lt is) ∙ ap (λ (o : Option (List B)). bind o (λ us. Some (found ++ us))) (each x (drop (p + 1) xs))
    ∙ ap (λ (q : Option B). bind (bind q (λ u. bind (all (drop (p + 1) xs)) (λ us. Some (u ∷ us)))) (λ us. Some (found ++ us))) e ∙ go (all (drop (p + 1) xs)))
  where
    go : (o : Option (List B)) → bind (bind o (λ us. Some (y ∷ us))) (λ us. Some (found ++ us)) ≡ bind o (λ us. Some ((found ++ y ∷ []) ++ us))
    go None = refl
    go (Some us) = ap Some (sym (append_assoc found (y ∷ []) us))

pub rest_stop : {A B : Type 0} (get : A → Option B) (all : List A → Option (List B)) → Each get all → (xs : List A) (p : ℕ) (x : A) (found : List B) (e : Stop) → p < length xs → x ≡ get_or xs p x
    → Stops e (get x) → Rest all xs found (drop p xs) → Stops e (all xs)
rest_stop get all each xs p x found Memory lt is s h = tt
rest_stop {A} {B} get all each xs p x found NoValue lt is s h =
    h ∙ ap (λ (ls : List A). bind (all ls) (λ us. Some (found ++ us))) (at_front xs p x lt is) ∙ ap (λ (o : Option (List B)). bind o (λ us. Some (found ++ us))) (each x (drop (p + 1) xs))
    ∙ ap (λ (q : Option B). bind (bind q (λ u. bind (all (drop (p + 1) xs)) (λ us. Some (u ∷ us)))) (λ us. Some (found ++ us))) s

pub rest_end : {A B : Type 0} (all : List A → Option (List B)) (xs : List A) (p : ℕ) (found : List B) → all [] ≡ Some [] → drop p xs ≡ [] → Rest all xs found (drop p xs) → all xs ≡ Some found
rest_end {A} {B} all xs p found n e h =
    h ∙ ap (λ (ls : List A). bind (all ls) (λ us. Some (found ++ us))) e ∙ ap (λ (o : Option (List B)). bind o (λ us. Some (found ++ us))) n ∙ ap Some (append-nil found)

pub each_number : Each num_in numbers
each_number (val.Num n) vs = refl
each_number v vs = refl

-- ---- operations without kids

pub leaf_gives : (r : Result Val Stop) (w : World) (x : Input) (p o : Op) (v : Val) → p ≡ o → strict w x o [] ≡ Some v → ((u : Val) (us : List Val) → strict w x o (u ∷ us) ≡ None) → (vs : List Val) → Gives r (leaf_of v vs)
    → Gives r (strict w x p vs)
leaf_gives r w x p o v e a b [] h = subst (λ (q : Op). Gives r (strict w x q [])) (sym e) (subst (λ (q : Option Val). Gives r q) (sym a) h)
leaf_gives r w x p o v e a b (u ∷ us) h = subst (λ (q : Op). Gives r (strict w x q (u ∷ us))) (sym e) (subst (λ (q : Option Val). Gives r q) (sym (b u us)) h)

-- ---- operations that don't need the values of all their kids, and never

none_at : (w : World) (x : Input) (o p : Op) (vs : List Val) → o ≡ p → strict w x p vs ≡ None → strict w x o vs ≡ None
none_at w x o p vs e h = subst (λ (q : Op). strict w x q vs ≡ None) (sym e) h

pub none_gives : (w : World) (x : Input) (o : Op) (vs : List Val)
    → (o ≡ op.Never) ⊎ ((o ≡ op.Phi) ⊎ (((d : ℕ) × (o ≡ op.Theta d)) ⊎ (((d : ℕ) × (o ≡ op.Eval d)) ⊎ (((d : ℕ) × (o ≡ op.Pass d)) ⊎ (((d : ℕ) × (o ≡ op.Shift d)) ⊎ ((o ≡ op.Root) ⊎ ((j : ℕ) × (s : OpSort) × (o ≡ op.Var j s)))))))) → strict w x o vs ≡ None
unfolding strict
none_gives w x o vs (inl e) = none_at w x o op.Never vs e refl
none_gives w x o vs (inr (inl e)) = none_at w x o op.Phi vs e refl
none_gives w x o vs (inr (inr (inl e))) = none_at w x o (op.Theta e.0) vs e.1 refl
none_gives w x o vs (inr (inr (inr (inl e)))) = none_at w x o (op.Eval e.0) vs e.1 refl
none_gives w x o vs (inr (inr (inr (inr (inl e))))) = none_at w x o (op.Pass e.0) vs e.1 refl
none_gives w x o vs (inr (inr (inr (inr (inr (inl e)))))) = none_at w x o (op.Shift e.0) vs e.1 refl
none_gives w x o vs (inr (inr (inr (inr (inr (inr (inl e))))))) = none_at w x o op.Root vs e refl
none_gives w x o vs (inr (inr (inr (inr (inr (inr (inr e))))))) = none_at w x o (op.Var e.0 e.1) vs e.2 refl
