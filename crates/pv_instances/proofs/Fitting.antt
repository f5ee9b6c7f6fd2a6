-- A side that passes the test can be written, and has the sort that is said.
use Rattle.std.specs.Prelude.{◌≡◌, ◌≢◌, ◌⊎◌, ℕ, suc, ◌+◌, ◌==◌, ℤ, Bool, true, false, ◌&&◌, ◌||◌, List, [], ◌∷◌, map, length, Option, Some, None, slice_get, if◌then◌else◌, refl}
use Rattle.std.specs.List.{AllZip, AllByRecursion}
use Rattle.std.proofs.Common.{inl, inr, sym, ap, ◌∙◌, subst, arith}
use Rattle.std.proofs.lemmas.Bool.Decides.{Decides-eqb}
use Rattle.pv_value.specs.Spelled.{bind, field_type, method_type}
use Rattle.pv_value.specs.declared.descriptor.JType.{JType}
use Rattle.pv_value.specs.declared.descriptor.JType.TheVariants as jtype
use Rattle.pv_value.specs.declared.heap.Kind as kinds
use Rattle.pv_value.specs.declared.heap.Kind.TheVariants as kind
use Rattle.pv_value.specs.declared.name.Sym.{Sym}
use Rattle.pv_value.specs.declared.number.Num.{Num}
use Rattle.pv_value.specs.declared.number.Num.TheVariants as num
use Rattle.pv_value.specs.declared.operation.ScalarOp.{ScalarOp}
use Rattle.pv_value.specs.declared.outcome.Val.TheVariants as val
use Rattle.pv_value.specs.Operations.{Word, int, long, takes, gives}
use Rattle.pv_denote.specs.Denote.{scalar_on, num_of}
use Rattle.pv_graph.specs.declared.node.Op.{Op}
use Rattle.pv_graph.specs.declared.node.Op.TheVariants as op
use Rattle.pv_graph.specs.declared.node.OpSort.{OpSort}
use Rattle.pv_graph.specs.declared.node.OpSort.TheVariants.{I, L, A, N, F, T, H, R}
use Rattle.pv_graph.specs.Ops.{same_sort, same_sorts, exactly, but_root, alike, choice_sort, eval_sort, shift_sort, is_result, word_sort, type_sort, type_sorts, kind_sort, field_sort, result_sort, CallSorts, call_sorts, is_depth, sort_over}
use Rattle.pv_graph.proofs.Cited.{bind_some, exactly_are, same_sort_is, shape_takes}
use Rattle.pv_pattern.specs.Patterns.{Atom, number, named, By, by_symbol, by_kind, Head, fixed, theta_d, eval_d, pass_d, shift_d, getstatic, putstatic, getfield, putfield, load, store, Each, bare, shifted, evaluated, Pattern, var, constant, fold, narrowed, over, over_each, Patterns, none, first}
use Rattle.pv_pattern.specs.Instances.{head_op, atom_of, type_by, kind_type}
use Rattle.pv_heights.specs.Filled.{Params, kid, Filled, at, of, Parts, no_part, part, over0, over1, over2, constant_part, narrow, each_part, each_parts, filled, all_filled}
use Rattle.pv_heights.specs.Filled as hole
use Rattle.pv_heights.specs.Filled.{named as without_nodes}
use Rattle.pv_instances.specs.Sorted.{IsSorted, AreSorted}
use Rattle.pv_instances.specs.Facts.{num_sort, Said, whole, is, field, element, same_said, sort_said, Gives, any, gives_, unsaid, op_gives, head_gives, head_takes, Fact, variable, word, depth, symbol, family, whole_is, same_fact, has_fact, Tells, head_tells}
use Rattle.pv_instances.specs.Fits.{said_by, gives_said, all_known, atom_fits, atoms_fit, by_said, by_tells, each_fits, fits, fit_all}

-- ---- tests

pub both : (a b : Bool) → (a && b) ≡ true → (a ≡ true) × (b ≡ true)
both true b e = (refl, e)
both false b e = absurd (cc)

either : (a b : Bool) → (a || b) ≡ true → (a ≡ true) ⊎ (b ≡ true)
either true b e = inl refl
either false b e = inr e

same_saids : (s t : Said) → same_said s t ≡ true → s ≡ t
same_saids whole whole e = refl
same_saids (is s) (is t) e = ap is (same_sort_is s t e)
same_saids (field j) (field k) e = ap field ((Decides-eqb j k).0 e)
same_saids (element j) (element k) e = ap element ((Decides-eqb j k).0 e)
same_saids s t e = absurd (cc)

same_facts : (f g : Fact) → same_fact f g ≡ true → f ≡ g
same_facts (variable j s) (variable k t) e =
    let p = both (j == k) (same_said s t) e in
    let one : j ≡ k = (Decides-eqb j k).0 p.0 in
    let two : s ≡ t = same_saids s t p.1 in
    cc (one, two)
same_facts (word j s) (word k t) e =
    let p = both (j == k) (same_said s t) e in
    let one : j ≡ k = (Decides-eqb j k).0 p.0 in
    let two : s ≡ t = same_saids s t p.1 in
    cc (one, two)
same_facts depth depth e = refl
same_facts (symbol j) (symbol k) e = ap symbol ((Decides-eqb j k).0 e)
same_facts (family j s) (family k t) e =
    let p = both (j == k) (same_said s t) e in
    let one : j ≡ k = (Decides-eqb j k).0 p.0 in
    let two : s ≡ t = same_saids s t p.1 in
    cc (one, two)
same_facts (whole_is s) (whole_is t) e = ap whole_is (same_saids s t e)
same_facts f g e = absurd (cc)

-- ---- sorts

same_itself : (s : OpSort) → same_sort s s ≡ true
same_itself I = refl
same_itself L = refl
same_itself A = refl
same_itself N = refl
same_itself F = refl
same_itself T = refl
same_itself H = refl
same_itself R = refl

sames_itself : (ss : List OpSort) → same_sorts ss ss ≡ true
sames_itself [] = refl
sames_itself (s ∷ ss) = rw (same_itself s) (sames_itself ss)

pub exactly_itself : (ss : List OpSort) (s : OpSort) → exactly ss s ss ≡ Some s
exactly_itself ss s = ap (λ (t : Bool). if t then Some s else None) (sames_itself ss)

alike_itself : (s : OpSort) → s ≢ R → alike (s ∷ s ∷ []) ≡ Some s
alike_itself I ne = refl
alike_itself L ne = refl
alike_itself A ne = refl
alike_itself N ne = refl
alike_itself F ne = refl
alike_itself T ne = refl
alike_itself H ne = refl
alike_itself R ne = absurd (ne refl)

but_itself : (s : OpSort) → s ≢ R → but_root s ≡ Some s
but_itself I ne = refl
but_itself L ne = refl
but_itself A ne = refl
but_itself N ne = refl
but_itself F ne = refl
but_itself T ne = refl
but_itself H ne = refl
but_itself R ne = absurd (ne refl)

at_depth : (t : Bool) (o : Option OpSort) → t ≡ true → (if t then o else None) ≡ o
at_depth true o e = refl
at_depth false o e = absurd (cc)

-- no operation takes a root
type_not_root : (t : JType) (s : OpSort) → type_sort t ≡ Some s → s ≢ R
type_not_root jtype.J s e f = absurd (cc)
type_not_root jtype.A s e f = absurd (cc)
type_not_root jtype.F s e f = absurd (cc)
type_not_root jtype.D s e f = absurd (cc)
type_not_root t s e f = absurd (cc)

pub kind_not_root : (k : kinds.Kind) → kind_sort k ≢ R
kind_not_root kind.Long f = absurd (cc)
kind_not_root kind.Ref f = absurd (cc)
kind_not_root k f = absurd (cc)

pub field_not_root : (y : Sym) (s : OpSort) → field_sort y ≡ Some s → s ≢ R
field_not_root y s e = let t = bind_some (field_type y.desc) type_sort s e in type_not_root t.0 s t.2

abbrev pub NoRoots : List OpSort → Type 0
NoRoots ss = AllByRecursion (λ s. s ≢ R) ss

types_no_roots : (ts : List JType) (ss : List OpSort) → type_sorts ts ≡ Some ss → NoRoots ss
types_no_roots [] ss e = subst NoRoots (let y : [] ≡ ss = cc in y) tt
types_no_roots (t ∷ ts) ss e =
    let one = bind_some (type_sort t) _ ss e in
    let others = bind_some (type_sorts ts) _ ss one.2 in
    subst NoRoots (let y : one.0 ∷ others.0 ≡ ss = let z = others.2 in cc in y) (type_not_root t one.0 one.1, types_no_roots ts others.0 others.1)

call_no_roots : (y : Sym) (c : CallSorts) → call_sorts y ≡ Some c → NoRoots c.kids
call_no_roots y c e =
    let d = bind_some (method_type y.desc) _ c e in
    let params = bind_some (type_sorts d.0.params) _ c d.2 in
    let r = bind_some (result_sort d.0.result) _ c params.2 in
    let same : H ∷ params.0 ≡ c.kids = ap (λ (o : Option CallSorts). kids_or o) r.2 in
    subst NoRoots same (λ f. absurd (cc), types_no_roots d.0.params params.0 params.1)
  where
    kids_or : Option CallSorts → List OpSort
    kids_or None = []
    kids_or (Some x) = x.kids

words_no_roots : (ws : List Word) → NoRoots (map word_sort ws)
words_no_roots [] = tt
words_no_roots (int ∷ ws) = (λ f. absurd (cc), words_no_roots ws)
words_no_roots (long ∷ ws) = (λ f. absurd (cc), words_no_roots ws)

exactly_no_roots : (takes : List OpSort) (gives : OpSort) (ss : List OpSort) (s : OpSort) → NoRoots takes → exactly takes gives ss ≡ Some s → NoRoots ss
exactly_no_roots takes gives ss s rootless e = subst NoRoots (exactly_are takes gives ss s e).0 rootless

alike_not_root : (s : OpSort) → alike (s ∷ s ∷ []) ≡ Some s → s ≢ R
alike_not_root R e f = absurd (cc)
alike_not_root s e f = absurd (cc)

but_not_root : (s : OpSort) → but_root s ≡ Some s → s ≢ R
but_not_root R e f = absurd (cc)
but_not_root s e f = absurd (cc)

result_not_root : (t : OpSort) → is_result t ≡ true → t ≢ R
result_not_root R e f = absurd (cc)
result_not_root t e f = absurd (cc)

-- the operations that take kids of any one sort give that sort, which is no root's
choice_no_root : (ss : List OpSort) (s : OpSort) → choice_sort ss ≡ Some s → s ≢ R
choice_no_root ss s e = alike_not_root s (ap choice_sort (sym (shape_takes op.Phi ss s e)) ∙ e)

theta_no_root : (d : ℕ) (ss : List OpSort) (s : OpSort) → sort_over (op.Theta d) ss ≡ Some s → s ≢ R
theta_no_root d ss s e = alike_not_root s (ap alike (sym (shape_takes (op.Theta d) ss s e)) ∙ (if_depth (is_depth d) (alike ss) s e).1)
  where
    if_depth : (t : Bool) (o : Option OpSort) (y : OpSort) → (if t then o else None) ≡ Some y → (t ≡ true) × (o ≡ Some y)
    if_depth true o y e = (refl, e)
    if_depth false o y e = absurd (cc)

eval_no_root : (d : ℕ) (ss : List OpSort) (s : OpSort) → sort_over (op.Eval d) ss ≡ Some s → s ≢ R
eval_no_root d ss s e = but_not_root s (ap eval_sort (sym (shape_takes (op.Eval d) ss s e)) ∙ (if_depth (is_depth d) (eval_sort ss) s e).1)
  where
    if_depth : (t : Bool) (o : Option OpSort) (y : OpSort) → (if t then o else None) ≡ Some y → (t ≡ true) × (o ≡ Some y)
    if_depth true o y e = (refl, e)
    if_depth false o y e = absurd (cc)

shift_no_root : (d : ℕ) (ss : List OpSort) (s : OpSort) → sort_over (op.Shift d) ss ≡ Some s → s ≢ R
shift_no_root d ss s e = but_not_root s (ap shift_sort (sym (shape_takes (op.Shift d) ss s e)) ∙ (if_depth (is_depth d) (shift_sort ss) s e).1)
  where
    if_depth : (t : Bool) (o : Option OpSort) (y : OpSort) → (if t then o else None) ≡ Some y → (t ≡ true) × (o ≡ Some y)
    if_depth true o y e = (refl, e)
    if_depth false o y e = absurd (cc)

known_not : (s : OpSort) → same_sort s R ≡ false → s ≢ R
known_not R e f = absurd (cc)
known_not s e f = absurd (cc)

pub no_roots : (o : Op) (ss : List OpSort) (s : OpSort) → sort_over o ss ≡ Some s → NoRoots ss
no_roots op.Phi ss s e = let rootless = choice_no_root ss s e in subst NoRoots (sym (shape_takes op.Phi ss s e)) (known_not I refl, (rootless, (rootless, tt)))
no_roots (op.Theta d) ss s e = let rootless = theta_no_root d ss s e in subst NoRoots (sym (shape_takes (op.Theta d) ss s e)) (rootless, (rootless, tt))
no_roots (op.Eval d) ss s e = subst NoRoots (sym (shape_takes (op.Eval d) ss s e)) (eval_no_root d ss s e, (known_not N refl, tt))
no_roots (op.Pass d) ss s e = subst NoRoots (sym (shape_takes (op.Pass d) ss s e).0) (known_not I refl, tt)
no_roots (op.Shift d) ss s e = subst NoRoots (sym (shape_takes (op.Shift d) ss s e)) (shift_no_root d ss s e, tt)
no_roots op.Root ss s e =
    let t = shape_takes op.Root ss s e in
    subst NoRoots (sym t.1) (known_not T refl, (known_not F refl, (result_not_root t.0 t.2, (known_not H refl, tt))))
no_roots (op.Int c) ss s e = exactly_no_roots [] I ss s tt e
no_roots (op.Long c) ss s e = exactly_no_roots [] L ss s tt e
no_roots op.Null ss s e = exactly_no_roots [] A ss s tt e
no_roots (op.Literal t) ss s e = exactly_no_roots [] A ss s tt e
no_roots (op.Param j p) ss s e = let q = bind_some _ (λ p. exactly [] p ss) s e in exactly_no_roots [] q.0 ss s tt q.2
no_roots op.This ss s e = exactly_no_roots [] A ss s tt e
no_roots op.Heap0 ss s e = exactly_no_roots [] H ss s tt e
no_roots op.Unit ss s e = exactly_no_roots [] T ss s tt e
no_roots op.Never ss s e = exactly_no_roots [] T ss s tt e
no_roots op.Clear ss s e = exactly_no_roots [] F ss s tt e
no_roots op.FNull ss s e = exactly_no_roots [] F ss s tt e
no_roots op.FArith ss s e = exactly_no_roots [] F ss s tt e
no_roots op.FIndex ss s e = exactly_no_roots [] F ss s tt e
no_roots op.Zero ss s e = exactly_no_roots [] N ss s tt e
no_roots op.Succ ss s e = exactly_no_roots (N ∷ []) N ss s (known_not N refl, tt) e
no_roots op.Thrown ss s e = exactly_no_roots (A ∷ []) F ss s (known_not A refl, tt) e
no_roots op.IsClear ss s e = exactly_no_roots (F ∷ []) I ss s (known_not F refl, tt) e
no_roots op.Both ss s e = exactly_no_roots (T ∷ T ∷ []) T ss s (known_not T refl, (known_not T refl, tt)) e
no_roots (op.Scalar o) ss s e = exactly_no_roots (map word_sort (takes o)) (word_sort (gives o)) ss s (words_no_roots (takes o)) e
no_roots op.Aeq ss s e = exactly_no_roots (A ∷ A ∷ []) I ss s (known_not A refl, (known_not A refl, tt)) e
no_roots (op.GetStatic y) ss s e = let t = bind_some (field_sort y) _ s e in exactly_no_roots (H ∷ []) t.0 ss s (known_not H refl, tt) t.2
no_roots (op.PutStatic y) ss s e = let t = bind_some (field_sort y) _ s e in exactly_no_roots (H ∷ t.0 ∷ []) H ss s (known_not H refl, (field_not_root y t.0 t.1, tt)) t.2
no_roots (op.GetField y) ss s e = let t = bind_some (field_sort y) _ s e in exactly_no_roots (H ∷ A ∷ []) t.0 ss s (known_not H refl, (known_not A refl, tt)) t.2
no_roots (op.PutField y) ss s e = let t = bind_some (field_sort y) _ s e in exactly_no_roots (H ∷ A ∷ t.0 ∷ []) H ss s (known_not H refl, (known_not A refl, (field_not_root y t.0 t.1, tt))) t.2
no_roots (op.Load k) ss s e = exactly_no_roots (H ∷ A ∷ I ∷ []) (kind_sort k) ss s (known_not H refl, (known_not A refl, (known_not I refl, tt))) e
no_roots (op.Store k) ss s e = exactly_no_roots (H ∷ A ∷ I ∷ kind_sort k ∷ []) H ss s (known_not H refl, (known_not A refl, (known_not I refl, (kind_not_root k, tt)))) e
no_roots op.Length ss s e = exactly_no_roots (A ∷ []) I ss s (known_not A refl, tt) e
no_roots (op.CallEnd y) ss s e = let c = bind_some (call_sorts y) _ s e in exactly_no_roots c.0.kids T ss s (call_no_roots y c.0 c.1) c.2
no_roots (op.CallRes y) ss s e =
    let c = bind_some (call_sorts y) _ s e in
    let t = bind_some c.0.result _ s c.2 in
    exactly_no_roots c.0.kids t.0 ss s (call_no_roots y c.0 c.1) t.2
no_roots (op.CallFault y) ss s e = let c = bind_some (call_sorts y) _ s e in exactly_no_roots c.0.kids F ss s (call_no_roots y c.0 c.1) c.2
no_roots (op.CallHeap y) ss s e = let c = bind_some (call_sorts y) _ s e in exactly_no_roots c.0.kids H ss s (call_no_roots y c.0 c.1) c.2
no_roots (op.Var j t) ss s e = exactly_no_roots [] t ss s tt e

-- a side that the test reads has no root's sort
exactly_not_root : (takes : List OpSort) (gives : OpSort) (ss : List OpSort) (s : OpSort) → gives ≢ R → exactly takes gives ss ≡ Some s → s ≢ R
exactly_not_root takes gives ss s ne e f = ne ((exactly_are takes gives ss s e).1 ∙ f)

word_not_root : (w : Word) → word_sort w ≢ R
word_not_root int f = absurd (cc)
word_not_root long f = absurd (cc)

op_not_root : (o : Op) (ss : List OpSort) (s : OpSort) (said : Said) → said_by (op_gives o) ≡ Some said → sort_over o ss ≡ Some s → s ≢ R
op_not_root op.Phi ss s said h e = choice_no_root ss s e
op_not_root (op.Int c) ss s said h e = exactly_not_root [] I ss s (known_not I refl) e
op_not_root (op.Long c) ss s said h e = exactly_not_root [] L ss s (known_not L refl) e
op_not_root op.Null ss s said h e = exactly_not_root [] A ss s (known_not A refl) e
op_not_root op.This ss s said h e = exactly_not_root [] A ss s (known_not A refl) e
op_not_root op.Unit ss s said h e = exactly_not_root [] T ss s (known_not T refl) e
op_not_root op.Zero ss s said h e = exactly_not_root [] N ss s (known_not N refl) e
op_not_root op.Succ ss s said h e = exactly_not_root (N ∷ []) N ss s (known_not N refl) e
op_not_root op.Both ss s said h e = exactly_not_root (T ∷ T ∷ []) T ss s (known_not T refl) e
op_not_root (op.Scalar o) ss s said h e = exactly_not_root (map word_sort (takes o)) (word_sort (gives o)) ss s (word_not_root (gives o)) e
op_not_root op.Aeq ss s said h e = exactly_not_root (A ∷ A ∷ []) I ss s (known_not I refl) e
op_not_root op.Thrown ss s said h e = exactly_not_root (A ∷ []) F ss s (known_not F refl) e
op_not_root op.IsClear ss s said h e = exactly_not_root (F ∷ []) I ss s (known_not I refl) e
op_not_root op.Length ss s said h e = exactly_not_root (A ∷ []) I ss s (known_not I refl) e
op_not_root o ss s said h e = absurd (cc)

pub not_root : (m : Params) (h : Head) (ss : List OpSort) (s : OpSort) (said : Said) → said_by (head_gives h) ≡ Some said → sort_over (head_op (without_nodes m) h) ss ≡ Some s → s ≢ R
not_root m (fixed o) ss s said h e = op_not_root o ss s said h e
not_root m theta_d ss s said h e = theta_no_root m.depth ss s e
not_root m eval_d ss s said h e = eval_no_root m.depth ss s e
not_root m pass_d ss s said h e = λ f. known_not N refl (sym (shape_takes (op.Pass m.depth) ss s e).1 ∙ f)
not_root m shift_d ss s said h e = shift_no_root m.depth ss s e
not_root m (getstatic k) ss s said h e =
    let t = bind_some (field_sort (m.symbols k)) _ s e in
    exactly_not_root (H ∷ []) t.0 ss s (field_not_root (m.symbols k) t.0 t.1) t.2
not_root m (putstatic k) ss s said h e = let t = bind_some (field_sort (m.symbols k)) _ s e in exactly_not_root (H ∷ t.0 ∷ []) H ss s (known_not H refl) t.2
not_root m (getfield k) ss s said h e =
    let t = bind_some (field_sort (m.symbols k)) _ s e in
    exactly_not_root (H ∷ A ∷ []) t.0 ss s (field_not_root (m.symbols k) t.0 t.1) t.2
not_root m (putfield k) ss s said h e = let t = bind_some (field_sort (m.symbols k)) _ s e in exactly_not_root (H ∷ A ∷ t.0 ∷ []) H ss s (known_not H refl) t.2
not_root m (load k) ss s said h e = exactly_not_root (H ∷ A ∷ I ∷ []) (kind_sort (m.kinds k)) ss s (kind_not_root (m.kinds k)) e
not_root m (store k) ss s said h e = exactly_not_root (H ∷ A ∷ I ∷ kind_sort (m.kinds k) ∷ []) H ss s (known_not H refl) e

-- ---- folds

-- the constant of a word
abbrev IsWord : Word → Num → Type 0
IsWord w n = num_sort n ≡ Some (word_sort w)

fold_one : (o : ScalarOp) (w : Word) (a : Num) → IsWord w a → (n : ℤ) × (scalar_on o (w ∷ []) (val.Num a ∷ []) ≡ Some n)
fold_one o int (num.Int c) e = (_, refl)
fold_one o int (num.Long c) e = absurd (cc)
fold_one o int (num.Ref c) e = absurd (cc)
fold_one o long (num.Int c) e = absurd (cc)
fold_one o long (num.Long c) e = (_, refl)
fold_one o long (num.Ref c) e = absurd (cc)

fold_two : (o : ScalarOp) (w v : Word) (a b : Num) → IsWord w a → IsWord v b → (n : ℤ) × (scalar_on o (w ∷ v ∷ []) (val.Num a ∷ val.Num b ∷ []) ≡ Some n)
fold_two o int int (num.Int c) (num.Int d) e f = (_, refl)
fold_two o int long (num.Int c) (num.Long d) e f = (_, refl)
fold_two o long int (num.Long c) (num.Int d) e f = (_, refl)
fold_two o long long (num.Long c) (num.Long d) e f = (_, refl)
fold_two o int v (num.Long c) b e f = absurd (cc)
fold_two o int v (num.Ref c) b e f = absurd (cc)
fold_two o long v (num.Int c) b e f = absurd (cc)
fold_two o long v (num.Ref c) b e f = absurd (cc)
fold_two o w int a (num.Long d) e f = absurd (cc)
fold_two o w int a (num.Ref d) e f = absurd (cc)
fold_two o w long a (num.Int d) e f = absurd (cc)
fold_two o w long a (num.Ref d) e f = absurd (cc)

num_sorted : (w : Word) (n : ℤ) → num_sort (num_of w n) ≡ Some (word_sort w)
num_sorted int n = refl
num_sorted long n = refl

-- ---- the test is right

module _ (m : Params) (kids vars : List OpSort) (r : OpSort) (whole_not : r ≢ R) where
  abbrev Tell : Fact → Type 0
  Tell f = Tells m kids vars r f

  abbrev Says : Said → OpSort → Type 0
  Says said s = sort_said m r said ≡ Some s

  has : (known : List Fact) (f : Fact) → AllByRecursion Tell known → has_fact known f ≡ true → Tell f
  has [] f all e = absurd (cc)
  has (g ∷ known) f all e = elim (either (same_fact g f) (has_fact known f) e) [ inl h ↦ subst Tell (same_facts g f h) all.0 | inr h ↦ has known f all.1 h ]

  have : (known fs : List Fact) → AllByRecursion Tell known → all_known known fs ≡ true → AllByRecursion Tell fs
  have known [] all e = tt
  have known (f ∷ fs) all e = let p = both (has_fact known f) (all_known known fs) e in (has known f all p.0, have known fs all p.1)

  -- what an operation gives agrees with what is said
  abbrev Agree : Gives → Said → Type 0
  Agree any said = said ≢ is R
  Agree (gives_ t) said = (s : OpSort) → Says said s → Says t s
  Agree unsaid said = ⊥

  agree : (known : List Fact) (g : Gives) (said : Said) → AllByRecursion Tell known → gives_said known g said ≡ true → Agree g said
  agree known any (is R) all e = absurd (cc)
  agree known any said all e = λ f. absurd (cc)
  agree known (gives_ t) whole all e = λ s says. has known (whole_is t) all e ∙ says
  agree known (gives_ t) (is u) all e = λ s says. ap (sort_said m r) (same_saids t (is u) e) ∙ says
  agree known (gives_ t) (field k) all e = λ s says. ap (sort_said m r) (same_saids t (field k) e) ∙ says
  agree known (gives_ t) (element k) all e = λ s says. ap (sort_said m r) (same_saids t (element k) e) ∙ says
  agree known unsaid said all e = absurd (cc)

  -- what is said of an operation of kids of any one sort is no root's
  any_not_root : (said : Said) (s : OpSort) → said ≢ is R → Says said s → s ≢ R
  any_not_root whole s ne says = λ f. whole_not (let y : r ≡ s = cc in y ∙ f)
  any_not_root (is t) s ne says = λ f. ne (let y : t ≡ s = cc in ap is (y ∙ f))
  any_not_root (field k) s ne says = field_not_root (m.symbols k) s says
  any_not_root (element k) s ne says = λ f. kind_not_root (m.kinds k) (let y : kind_sort (m.kinds k) ≡ s = cc in y ∙ f)

  -- the sorts that are said of the kids
  abbrev Sorts : Op → List Said → OpSort → Type 0
  Sorts o saids s = (ss : List OpSort) × AllZip Says saids ss × (sort_over o ss ≡ Some s)

  said_is : (said other : Said) (s t : OpSort) → same_said said other ≡ true → Says said s → Says other t → s ≡ t
  said_is said other s t e a b = let same = same_saids said other e in let c : Some s ≡ Some t = sym a ∙ (ap (sort_said m r) same ∙ b) in cc

  words_said : (ws : List Word) → AllZip Says (map (λ w. is (word_sort w)) ws) (map word_sort ws)
  words_said [] = tt
  words_said (w ∷ ws) = (refl, words_said ws)

  -- it gives exactly this sort over these
  given : (o : Op) (saids : List Said) (ss : List OpSort) (g : Said) (t s : OpSort) (said : Said) → AllZip Says saids ss → sort_over o ss ≡ Some t → Says g t → Agree (gives_ g) said → Says said s → Sorts o saids s
  given o saids ss g t s said z e sg agrees says = (ss, z, e ∙ (sym sg ∙ agrees s says))

  op_sorts : (o : Op) (said : Said) (s : OpSort) → Agree (op_gives o) said → Says said s → Sorts o (head_takes (fixed o) said) s
  op_sorts (op.Int c) said s e says = given (op.Int c) [] [] (is I) I s said tt refl refl e says
  op_sorts (op.Long c) said s e says = given (op.Long c) [] [] (is L) L s said tt refl refl e says
  op_sorts op.Null said s e says = given op.Null [] [] (is A) A s said tt refl refl e says
  op_sorts op.This said s e says = given op.This [] [] (is A) A s said tt refl refl e says
  op_sorts op.Unit said s e says = given op.Unit [] [] (is T) T s said tt refl refl e says
  op_sorts op.Zero said s e says = given op.Zero [] [] (is N) N s said tt refl refl e says
  op_sorts op.Succ said s e says = given op.Succ (is N ∷ []) (N ∷ []) (is N) N s said (refl, tt) refl refl e says
  op_sorts op.Both said s e says = given op.Both (is T ∷ is T ∷ []) (T ∷ T ∷ []) (is T) T s said (refl, (refl, tt)) refl refl e says
  op_sorts op.Phi said s e says = (I ∷ s ∷ s ∷ [], (refl, (says, (says, tt))), alike_itself s (any_not_root said s e says))
  op_sorts (op.Scalar o) said s e says =
      given (op.Scalar o) (map (λ w. is (word_sort w)) (takes o)) (map word_sort (takes o)) (is (word_sort (gives o))) (word_sort (gives o)) s said (words_said (takes o))
      (exactly_itself (map word_sort (takes o)) (word_sort (gives o))) refl e says
  op_sorts op.Aeq said s e says = given op.Aeq (is A ∷ is A ∷ []) (A ∷ A ∷ []) (is I) I s said (refl, (refl, tt)) refl refl e says
  op_sorts op.Thrown said s e says = given op.Thrown (is A ∷ []) (A ∷ []) (is F) F s said (refl, tt) refl refl e says
  op_sorts op.IsClear said s e says = given op.IsClear (is F ∷ []) (F ∷ []) (is I) I s said (refl, tt) refl refl e says
  op_sorts op.Length said s e says = given op.Length (is A ∷ []) (A ∷ []) (is I) I s said (refl, tt) refl refl e says
  op_sorts o said s e says = absurd e

  head_sorts : (h : Head) (said : Said) (s : OpSort) → Agree (head_gives h) said → AllByRecursion Tell (head_tells h) → Says said s → Sorts (head_op (without_nodes m) h) (head_takes h said) s
  head_sorts (fixed o) said s e told says = op_sorts o said s e says
  head_sorts theta_d said s e told says = (s ∷ s ∷ [], (says, (says, tt)), at_depth (is_depth m.depth) (alike (s ∷ s ∷ [])) told.0 ∙ alike_itself s (any_not_root said s e says))
  head_sorts eval_d said s e told says = (s ∷ N ∷ [], (says, (refl, tt)), at_depth (is_depth m.depth) (eval_sort (s ∷ N ∷ [])) told.0 ∙ but_itself s (any_not_root said s e says))
  head_sorts pass_d said s e told says = given (op.Pass m.depth) (is I ∷ []) (I ∷ []) (is N) N s said (refl, tt) (at_depth (is_depth m.depth) (Some N) told.0) refl e says
  head_sorts shift_d said s e told says = (s ∷ [], (says, tt), at_depth (is_depth m.depth) (shift_sort (s ∷ [])) told.0 ∙ but_itself s (any_not_root said s e says))
  head_sorts (getstatic k) said s e told says =
      let t = told.0 in
      given (op.GetStatic (m.symbols k)) (is H ∷ []) (H ∷ []) (field k) t.0 s said (refl, tt) (ap (λ (o : Option OpSort). bind o (λ t. exactly (H ∷ []) t (H ∷ []))) t.1) t.1 e says
  head_sorts (putstatic k) said s e told says =
      let t = told.0 in
      given (op.PutStatic (m.symbols k)) (is H ∷ field k ∷ []) (H ∷ t.0 ∷ []) (is H) H s said (refl, (t.1, tt))
      (ap (λ (o : Option OpSort). bind o (λ u. exactly (H ∷ u ∷ []) H (H ∷ t.0 ∷ []))) t.1 ∙ exactly_itself (H ∷ t.0 ∷ []) H) refl e says
  head_sorts (getfield k) said s e told says =
      let t = told.0 in
      given (op.GetField (m.symbols k)) (is H ∷ is A ∷ []) (H ∷ A ∷ []) (field k) t.0 s said (refl, (refl, tt)) (ap (λ (o : Option OpSort). bind o (λ t. exactly (H ∷ A ∷ []) t (H ∷ A ∷ []))) t.1) t.1 e says
  head_sorts (putfield k) said s e told says =
      let t = told.0 in
      given (op.PutField (m.symbols k)) (is H ∷ is A ∷ field k ∷ []) (H ∷ A ∷ t.0 ∷ []) (is H) H s said (refl, (refl, (t.1, tt)))
      (ap (λ (o : Option OpSort). bind o (λ u. exactly (H ∷ A ∷ u ∷ []) H (H ∷ A ∷ t.0 ∷ []))) t.1 ∙ exactly_itself (H ∷ A ∷ t.0 ∷ []) H) refl e says
  head_sorts (load k) said s e told says =
      given (op.Load (m.kinds k)) (is H ∷ is A ∷ is I ∷ []) (H ∷ A ∷ I ∷ []) (element k) (kind_sort (m.kinds k)) s said (refl, (refl, (refl, tt))) refl refl e says
  head_sorts (store k) said s e told says =
      given (op.Store (m.kinds k)) (is H ∷ is A ∷ is I ∷ element k ∷ []) (H ∷ A ∷ I ∷ kind_sort (m.kinds k) ∷ []) (is H) H s said (refl, (refl, (refl, (refl, tt))))
      (exactly_itself (H ∷ A ∷ I ∷ kind_sort (m.kinds k) ∷ []) H) refl e says

  -- a fold's constants are of the words that it takes
  atom_word : (known : List Fact) (w : Word) (a : Atom) → AllByRecursion Tell known → atom_fits known w a ≡ true → IsWord w (atom_of (without_nodes m) a)
  atom_word known int (number (num.Int c)) all e = refl
  atom_word known int (number (num.Long c)) all e = absurd (cc)
  atom_word known int (number (num.Ref c)) all e = absurd (cc)
  atom_word known long (number (num.Int c)) all e = absurd (cc)
  atom_word known long (number (num.Long c)) all e = refl
  atom_word known long (number (num.Ref c)) all e = absurd (cc)
  atom_word known int (named j) all e = has known (word j (is I)) all e
  atom_word known long (named j) all e = has known (word j (is L)) all e

  fold_value : (known : List Fact) (o : ScalarOp) (ws : List Word) (atoms : List Atom) → AllByRecursion Tell known → atoms_fit known ws atoms ≡ true
      → (n : ℤ) × (scalar_on o ws (map (λ a. val.Num (atom_of (without_nodes m) a)) atoms) ≡ Some n)
  fold_value known o [] atoms all e = absurd (cc)
  fold_value known o (w ∷ []) [] all e = absurd (cc)
  fold_value known o (w ∷ []) (a ∷ []) all e = fold_one o w (atom_of (without_nodes m) a) (atom_word known w a all e)
  fold_value known o (w ∷ []) (a ∷ b ∷ atoms) all e = absurd (cc)
  fold_value known o (w ∷ v ∷ []) [] all e = absurd (cc)
  fold_value known o (w ∷ v ∷ []) (a ∷ []) all e = absurd (cc)
  fold_value known o (w ∷ v ∷ []) (a ∷ b ∷ []) all e =
      let p = both (atom_fits known w a) (atom_fits known v b) e in
      fold_two o w v (atom_of (without_nodes m) a) (atom_of (without_nodes m) b) (atom_word known w a all p.0) (atom_word known v b all p.1)
  fold_value known o (w ∷ v ∷ []) (a ∷ b ∷ c ∷ atoms) all e = absurd (cc)
  fold_value known o (w ∷ v ∷ u ∷ ws) atoms all e = absurd (cc)

  kind_typed : (k : kinds.Kind) → type_sort (kind_type k) ≡ Some (kind_sort k)
  kind_typed kind.Int = refl
  kind_typed kind.Long = refl
  kind_typed kind.Ref = refl
  kind_typed kind.Byte = refl
  kind_typed kind.Char = refl
  kind_typed kind.Short = refl

  narrowing : (known : List Fact) (t : By) (said : Said) (s : OpSort) → same_said (by_said t) said ≡ true → AllByRecursion Tell (by_tells t) → Says said s
      → (y : JType) × (type_by (without_nodes m) t ≡ Some y) × (type_sort y ≡ Some s)
  narrowing known (by_symbol k) said s e told says =
      let f = told.0 in
      let y = bind_some (field_type (m.symbols k).desc) type_sort f.0 f.1 in
      (y.0, y.1, y.2 ∙ ap Some (said_is (field k) said f.0 s e f.1 says))
  narrowing known (by_kind k) said s e told says = (kind_type (m.kinds k), refl, kind_typed (m.kinds k) ∙ ap Some (said_is (element k) said (kind_sort (m.kinds k)) s e refl says))

  first_kid : (i : ℕ) (s : OpSort) (ss : List OpSort) → ((j : ℕ) (u : OpSort) → slice_get (s ∷ ss) j ≡ Some u → slice_get kids (i + j) ≡ Some u) → slice_get kids i ≡ Some s
  first_kid i s ss are = let one : slice_get kids (i + 0) ≡ Some s = are 0 s refl in subst (λ (k : ℕ). slice_get kids k ≡ Some s) (omega arith) one

  later_kids : (i : ℕ) (s : OpSort) (ss : List OpSort) → ((j : ℕ) (u : OpSort) → slice_get (s ∷ ss) j ≡ Some u → slice_get kids (i + j) ≡ Some u)
      → (j : ℕ) (u : OpSort) → slice_get ss j ≡ Some u → slice_get kids (suc i + j) ≡ Some u
  later_kids i s ss are j u e = subst (λ (k : ℕ). slice_get kids k ≡ Some u) (omega arith) (are (suc j) u e)

  -- the parts that stand for the kids from the i-th on have the sorts of those
  each_sorted : (known : List Fact) (e : Each) (i : ℕ) (ss : List OpSort) → AllByRecursion Tell known → each_fits known e ≡ true → NoRoots ss
      → ((j : ℕ) (s : OpSort) → slice_get ss j ≡ Some s → slice_get kids (i + j) ≡ Some s) → AreSorted kids vars (each_parts m e i (length ss)) ss
  each_sorted known e i [] all f rootless are = tt
  each_sorted known bare i (s ∷ ss) all f rootless are =
      (first_kid i s ss are, each_sorted known bare (suc i) ss all f rootless.1 (later_kids i s ss are))
  each_sorted known shifted i (s ∷ ss) all f rootless are = (
    (s ∷ [], at_depth (is_depth m.depth) (shift_sort (s ∷ [])) (has known depth all f) ∙ but_itself s rootless.0, (first_kid i s ss are, tt)),
    each_sorted known shifted (suc i) ss all f rootless.1 (later_kids i s ss are),
  )
  each_sorted known (evaluated j) i (s ∷ ss) all f rootless are =
      let p = both (has_fact known depth) (has_fact known (variable j (is N))) f in (
        (s ∷ N ∷ [], at_depth (is_depth m.depth) (eval_sort (s ∷ N ∷ [])) (has known depth all p.0) ∙ but_itself s rootless.0, (first_kid i s ss are, (has known (variable j (is N)) all p.1, tt))),
        each_sorted known (evaluated j) (suc i) ss all f rootless.1 (later_kids i s ss are),
      )

  number_sorted : (c : Num) (s : OpSort) → num_sort c ≡ Some s → (f : Filled) × (constant_part c ≡ Some f) × IsSorted kids vars f s
  number_sorted (num.Int c) s e = (over0 (op.Int c), refl, ([], e, tt))
  number_sorted (num.Long c) s e = (over0 (op.Long c), refl, ([], e, tt))
  number_sorted (num.Ref c) s e = absurd (cc)

  narrow_sorted : (y : JType) (f : Filled) (s : OpSort) → type_sort y ≡ Some s → IsSorted kids vars f s → IsSorted kids vars (narrow y f) s
  narrow_sorted jtype.Z f s e h = (I ∷ I ∷ [], e, (subst (IsSorted kids vars f) (let y : s ≡ I = cc in y) h, (([], refl, tt), tt)))
  narrow_sorted jtype.B f s e h = (I ∷ [], e, (subst (IsSorted kids vars f) (let y : s ≡ I = cc in y) h, tt))
  narrow_sorted jtype.C f s e h = (I ∷ [], e, (subst (IsSorted kids vars f) (let y : s ≡ I = cc in y) h, tt))
  narrow_sorted jtype.S f s e h = (I ∷ [], e, (subst (IsSorted kids vars f) (let y : s ≡ I = cc in y) h, tt))
  narrow_sorted y f s e h = h

  -- the filled pattern is there and has the sort
  abbrev pub Fills : Pattern → OpSort → Type 0
  Fills p s = (f : Filled) × (filled m (length kids) p ≡ Some f) × IsSorted kids vars f s

  mutual
    pub fitting : (known : List Fact) (p : Pattern) (said : Said) (s : OpSort) → AllByRecursion Tell known → fits known p said ≡ true → Says said s → Fills p s
    fitting known (var j) said s all e says = (at (hole.variable j), refl, has known (variable j said) all e ∙ says)
    fitting known (constant j) said s all e says = number_sorted (m.constants j) s (has known (word j said) all e ∙ says)
    fitting known (fold o atoms) said s all e says =
        let p = both (same_said (is (word_sort (gives o))) said) (atoms_fit known (takes o) atoms) e in
        let n = fold_value known o (takes o) atoms all p.1 in
        let c = number_sorted (num_of (gives o) n.0) s (num_sorted (gives o) n.0 ∙ ap Some (said_is (is (word_sort (gives o))) said (word_sort (gives o)) s p.0 refl says)) in
        (c.0, ap (λ (v : Option ℤ). bind (bind v (λ n. Some (num_of (gives o) n))) constant_part) n.1 ∙ c.1, c.2)
    fitting known (narrowed t p) said s all e says =
        let one = both (same_said (by_said t) said && all_known known (by_tells t)) (fits known p said) e in
        let two = both (same_said (by_said t) said) (all_known known (by_tells t)) one.0 in
        let y = narrowing known t said s two.0 (have known (by_tells t) all two.1) says in
        let f = fitting known p said s all one.1 says in (
          narrow y.0 f.0,
          ap (λ (v : Option JType). bind v (λ t. bind (filled m (length kids) p) (λ s. Some (narrow t s)))) y.1 ∙ ap (λ (v : Option Filled). bind v (λ s. Some (narrow y.0 s))) f.1,
          narrow_sorted y.0 f.0 s y.2 f.2,
        )
    fitting known (over h ps) said s all e says =
        let one = both (gives_said known (head_gives h) said && all_known known (head_tells h)) (fit_all known ps (head_takes h said)) e in
        let two = both (gives_said known (head_gives h) said) (all_known known (head_tells h)) one.0 in
        let ss = head_sorts h said s (agree known (head_gives h) said all two.0) (have known (head_tells h) all two.1) says in
        let qs = fitting_all known ps (head_takes h said) ss.0 all one.1 ss.1 in
        (of (head_op (without_nodes m) h) qs.0, ap (λ (v : Option Parts). bind v (λ ss. Some (of (head_op (without_nodes m) h) ss))) qs.1, (ss.0, ss.2, qs.2))
    fitting known (over_each n e) said s all f says =
        let p = both (has_fact known (family n said)) (each_fits known e) f in
        let t = has known (family n said) all p.0 in
        let is_ : sort_over m.op_ kids ≡ Some s = t.1 ∙ says in
        let same : (j : ℕ) (u : OpSort) → slice_get kids j ≡ Some u → slice_get kids (0 + j) ≡ Some u = λ j u at_. subst (λ (k : ℕ). slice_get kids k ≡ Some u) (omega arith) at_ in (
          of m.op_ (each_parts m e 0 (length kids)),
          ap (λ (b : Bool). if b then Some (of m.op_ (each_parts m e 0 (length kids))) else None) t.0,
          (kids, is_, each_sorted known e 0 kids all p.1 (no_roots m.op_ kids s is_) same),
        )

    fitting_all : (known : List Fact) (ps : Patterns) (saids : List Said) (ss : List OpSort) → AllByRecursion Tell known → fit_all known ps saids ≡ true → AllZip Says saids ss
        → (qs : Parts) × (all_filled m (length kids) ps ≡ Some qs) × AreSorted kids vars qs ss
    fitting_all known none [] [] all e z = (no_part, refl, tt)
    fitting_all known none [] (s ∷ ss) all e z = absurd z
    fitting_all known none (said ∷ saids) ss all e z = absurd (cc)
    fitting_all known (first p ps) [] ss all e z = absurd (cc)
    fitting_all known (first p ps) (said ∷ saids) [] all e z = absurd z
    fitting_all known (first p ps) (said ∷ saids) (s ∷ ss) all e z =
        let t = both (fits known p said) (fit_all known ps saids) e in
        let one = fitting known p said s all t.0 z.0 in
        let others = fitting_all known ps saids ss all t.1 z.1 in (
          part one.0 others.0,
          ap (λ (v : Option Filled). bind v (λ s. bind (all_filled m (length kids) ps) (λ ss. Some (part s ss)))) one.1 ∙ ap (λ (v : Option Parts). bind v (λ ss. Some (part one.0 ss))) others.1,
          (one.2, others.2),
        )
