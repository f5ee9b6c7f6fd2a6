-- What the sorts of an operation say: which sorts each shape takes, and how many kids.
use Rattle.std.specs.Prelude.{◌≡◌, ℕ, suc, ◌<◌, Bool, true, false, ◌&&◌, List, [], ◌∷◌, length, Option, Some, None, if◌then◌else◌, refl, ⊤}
use Rattle.std.specs.List.{AllZip}
use Rattle.std.proofs.Common.{sym, ap, ◌∙◌, subst, arith}
use Rattle.std.proofs.lemmas.Bool.Decides.{nat_tests}
use Rattle.pv_graph.specs.declared.node.Op.{Op}
use Rattle.pv_graph.specs.declared.node.Op.TheVariants as op
use Rattle.pv_graph.specs.declared.node.OpSort.{OpSort}
use Rattle.pv_graph.specs.declared.node.OpSort.TheVariants.{I, L, A, N, F, T, H, R}
use Rattle.pv_graph.specs.declared.node.OpSort.TheVariants as sort
use Rattle.pv_graph.specs.Ops.{Shape, plain, choice, theta, eval, pass, shift, root, shape, same_sort, same_sorts, exactly, but_root, is_result, is_depth, alike, choice_sort, eval_sort, shift_sort, root_sort, sort_over}

pub same_sort_is : (s t : OpSort) → same_sort s t ≡ true → s ≡ t
same_sort_is I I e = refl
same_sort_is L L e = refl
same_sort_is A A e = refl
same_sort_is N N e = refl
same_sort_is F F e = refl
same_sort_is T T e = refl
same_sort_is H H e = refl
same_sort_is R R e = refl
same_sort_is s t e = absurd (cc)

and_left : (a b : Bool) → (a && b) ≡ true → a ≡ true
and_left true b e = refl
and_left false b e = absurd (cc)

and_right : (a b : Bool) → (a && b) ≡ true → b ≡ true
and_right true b e = e
and_right false b e = absurd (cc)

same_sorts_are : (ss ts : List OpSort) → same_sorts ss ts ≡ true → ss ≡ ts
same_sorts_are [] [] e = refl
same_sorts_are [] (t ∷ ts) e = absurd (cc)
same_sorts_are (s ∷ ss) [] e = absurd (cc)
same_sorts_are (s ∷ ss) (t ∷ ts) e =
    let one : s ≡ t = same_sort_is s t (and_left (same_sort s t) (same_sorts ss ts) e) in
    let others : ss ≡ ts = same_sorts_are ss ts (and_right (same_sort s t) (same_sorts ss ts) e) in
    cc (one, others)

pub if_some : {A : Type 0} (t : Bool) (a b : A) → (if t then Some a else None) ≡ Some b → (t ≡ true) × (a ≡ b)
if_some true a b e = (refl, cc)
if_some false a b e = absurd (cc)

-- kids of exactly these sorts
pub exactly_are : (takes : List OpSort) (gives : OpSort) (ss : List OpSort) (s : OpSort) → exactly takes gives ss ≡ Some s → (takes ≡ ss) × (gives ≡ s)
exactly_are takes gives ss s e = let both = if_some (same_sorts takes ss) gives s e in (same_sorts_are takes ss both.0, both.1)

-- ---- what the shapes take

-- the sorts that an operation of this shape takes, and the sort that it gives
abbrev pub ShapeTakes : Shape → List OpSort → OpSort → Type 0
ShapeTakes plain ss s = ⊤
ShapeTakes choice ss s = ss ≡ I ∷ s ∷ s ∷ []
ShapeTakes (theta d) ss s = ss ≡ s ∷ s ∷ []
ShapeTakes (eval d) ss s = ss ≡ s ∷ sort.N ∷ []
ShapeTakes (pass d) ss s = (ss ≡ I ∷ []) × (s ≡ sort.N)
ShapeTakes (shift d) ss s = ss ≡ s ∷ []
ShapeTakes root ss s = (t : OpSort) × (ss ≡ T ∷ F ∷ t ∷ H ∷ []) × (is_result t ≡ true) × (s ≡ R)

-- how many kids it takes
abbrev pub KidCount : Shape → ℕ → Type 0
KidCount plain n = ⊤
KidCount choice n = n ≡ 3
KidCount (theta d) n = n ≡ 2
KidCount (eval d) n = n ≡ 2
KidCount (pass d) n = n ≡ 1
KidCount (shift d) n = n ≡ 1
KidCount root n = n ≡ 4

pub zip_length : {N : Type 0} (typed : N → OpSort → Type 0) (ks : List N) (ss : List OpSort) → AllZip typed ks ss → length ks ≡ length ss
zip_length typed [] [] h = refl
zip_length typed (k ∷ ks) (s ∷ ss) h = ap suc (zip_length typed ks ss h.1)
zip_length typed ks ss h = absurd h

pub kid_count : (s : Shape) (ss : List OpSort) (t : OpSort) (n : ℕ) → ShapeTakes s ss t → n ≡ length ss → KidCount s n
kid_count plain ss t n k e = tt
kid_count choice ss t n k e = e ∙ ap length k
kid_count (theta d) ss t n k e = e ∙ ap length k
kid_count (eval d) ss t n k e = e ∙ ap length k
kid_count (pass d) ss t n k e = e ∙ ap length k.0
kid_count (shift d) ss t n k e = e ∙ ap length k
kid_count root ss t n k e = e ∙ ap length k.1

but_root_is : (s t : OpSort) → but_root s ≡ Some t → s ≡ t
but_root_is R t e = absurd (cc)
but_root_is s t e = cc

if_depth : {X : Type 0} (t : Bool) (o : Option X) (y : X) → (if t then o else None) ≡ Some y → (t ≡ true) × (o ≡ Some y)
if_depth true o y e = (refl, e)
if_depth false o y e = absurd (cc)

alike_are : (ss : List OpSort) (s : OpSort) → alike ss ≡ Some s → ss ≡ s ∷ s ∷ []
alike_are [] s e = absurd (cc)
alike_are (a ∷ []) s e = absurd (cc)
alike_are (a ∷ b ∷ []) s e =
    let t = if_depth (same_sort a b) (but_root a) s e in
    let one : a ≡ b = same_sort_is a b t.0 in
    let two : a ≡ s = but_root_is a s t.1 in
    cc (one, two)
alike_are (a ∷ b ∷ c ∷ ss) s e = absurd (cc)

choice_are : (ss : List OpSort) (s : OpSort) → choice_sort ss ≡ Some s → ss ≡ I ∷ s ∷ s ∷ []
choice_are [] s e = absurd (cc)
choice_are (I ∷ ss) s e = ap (λ (z : List OpSort). I ∷ z) (alike_are ss s e)
choice_are (a ∷ ss) s e = absurd (cc)

eval_are : (ss : List OpSort) (s : OpSort) → eval_sort ss ≡ Some s → ss ≡ s ∷ sort.N ∷ []
eval_are (a ∷ sort.N ∷ []) s e = ap (λ (z : OpSort). z ∷ sort.N ∷ []) (but_root_is a s e)
eval_are ss s e = absurd (cc)

shift_are : (ss : List OpSort) (s : OpSort) → shift_sort ss ≡ Some s → ss ≡ s ∷ []
shift_are (a ∷ []) s e = ap (λ (z : OpSort). z ∷ []) (but_root_is a s e)
shift_are ss s e = absurd (cc)

root_are : (ss : List OpSort) (s : OpSort) → root_sort ss ≡ Some s → (t : OpSort) × (ss ≡ T ∷ F ∷ t ∷ H ∷ []) × (is_result t ≡ true) × (s ≡ R)
root_are (T ∷ F ∷ t ∷ H ∷ []) s e = let z = if_some (is_result t) R s e in (t, refl, z.0, sym z.1)
root_are ss s e = absurd (cc)

pub shape_takes : (o : Op) (ss : List OpSort) (s : OpSort) → sort_over o ss ≡ Some s → ShapeTakes (shape o) ss s
shape_takes op.Phi ss s e = choice_are ss s e
shape_takes (op.Theta d) ss s e = alike_are ss s (if_depth (is_depth d) (alike ss) s e).1
shape_takes (op.Eval d) ss s e = eval_are ss s (if_depth (is_depth d) (eval_sort ss) s e).1
shape_takes (op.Pass d) ss s e = let z = exactly_are (I ∷ []) sort.N ss s (if_depth (is_depth d) (exactly (I ∷ []) sort.N ss) s e).1 in (sym z.0, sym z.1)
shape_takes (op.Shift d) ss s e = shift_are ss s (if_depth (is_depth d) (shift_sort ss) s e).1
shape_takes op.Root ss s e = root_are ss s e
shape_takes o ss s e = tt

-- the depth of a theta that has a sort
depth_below : (d : ℕ) → is_depth d ≡ true → d < 17
depth_below d e = grind (arith, nat_tests)

pub theta_depth : (o : Op) (d : ℕ) (ss : List OpSort) (s : OpSort) → shape o ≡ theta d → sort_over o ss ≡ Some s → d < 17
theta_depth (op.Theta e) d ss s is f = subst (λ (z : ℕ). z < 17) (let y : e ≡ d = cc in y) (depth_below e (if_depth (is_depth e) (alike ss) s f).0)
theta_depth o d ss s is f = absurd (cc)
