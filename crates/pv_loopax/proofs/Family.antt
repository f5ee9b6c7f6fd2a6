-- The laws of the families: shift_d and eval_d go over an operation to its kids.
use Rattle.std.specs.Prelude.{◌≡◌, ℕ, suc, Bool, true, false, nat_le, ◌&&◌, ◌||◌, List, [], ◌∷◌, ◌++◌, map, Option, Some, slice_get, if◌then◌else◌, refl}
use Rattle.std.specs.List.{AllZip, AllByRecursion}
use Rattle.std.proofs.Common.{sym, ap, ◌∙◌, subst}
use Rattle.std.proofs.lemmas.Option.{same_Some}
use Rattle.pv_value.specs.Spelled.{method_type}
use Rattle.pv_value.specs.Operations.{takes, gives}
use Rattle.pv_value.specs.declared.name.Sym.{Sym}
use Rattle.pv_value.specs.declared.operation.ScalarOp.{ScalarOp}
use Rattle.pv_value.specs.declared.operation.ScalarOp.TheVariants.{Iadd, Imul, Ladd, Lmul}
use Rattle.pv_value.specs.declared.world.World.{World}
use Rattle.pv_value.specs.declared.outcome.Input.{Input}
use Rattle.pv_value.specs.declared.outcome.Val.{Val}
use Rattle.pv_value.specs.declared.outcome.Val.TheVariants as val
use Rattle.pv_graph.specs.declared.node.Op.{Op}
use Rattle.pv_graph.specs.declared.node.Op.TheVariants as op
use Rattle.pv_graph.specs.declared.node.OpSort.{OpSort}
use Rattle.pv_graph.specs.declared.node.OpSort.TheVariants.{H}
use Rattle.pv_graph.specs.Ops.{Shape, plain, choice, shape, sort_over, word_sort, field_sort, CallSorts, call_sorts, type_sorts, result_sort}
use Rattle.pv_graph.specs.Forms.{Form, form}
use Rattle.pv_denote.specs.Denote.{Index, at_depth, Value}
use Rattle.pv_denote.specs.Means.{Means}
use Rattle.pv_graph.specs.Graphs.{Graph, form_at}
use Rattle.pv_graph.proofs.Cited.{bind_some, HasSortAt, exactly_are}
use Rattle.pv_denote.proofs.Cited.{den_makes, value_says}
use Rattle.pv_pattern.specs.Patterns.{shift_d, eval_d, bare, evaluated, var, over_each, Axiom}
use Rattle.pv_pattern.specs.Numbers.{op_number}
use Rattle.pv_pattern.specs.Instances.{Names, IsEach}
use Rattle.pv_pattern.specs.Laws.{Law, Laws}
use Rattle.pv_pattern.proofs.Cited.{one_at, two_at, same_at, kids_sorted, shift_is, eval_is, eval_at}
use Rattle.pv_loopax.specs.Table.{single, family, shifts, evals, loop_axioms}
use Rattle.pv_loopax.proofs.Single.{law_301, law_302, law_303, law_304, law_306, law_307, law_308, law_inside, law_313}

-- ---- the operations of a family

-- an operation that needs all its kids, or chooses
abbrev is_simple : Shape → Bool
is_simple plain = true
is_simple choice = true
is_simple s = false

abbrev between : ℕ → ℕ → ℕ → Bool
between low n high = nat_le low n && nat_le n high

abbrev in_family : ℕ → Bool
in_family n = between 14 n 18 || (between 30 n 47 || (between 50 n 65 || (between 70 n 76 || between 80 n 83)))

simple : (o : Op) → in_family (op_number o) ≡ true → is_simple (shape o) ≡ true
simple (op.Theta d) e = absurd (cc)
simple (op.Eval d) e = absurd (cc)
simple (op.Pass d) e = absurd (cc)
simple (op.Shift d) e = absurd (cc)
simple op.Root e = absurd (cc)
simple o e = refl

abbrev all_are : List ℕ → Bool
all_are [] = true
all_are (n ∷ ns) = in_family n && all_are ns

both_are : (a b : Bool) → (a && b) ≡ true → (a ≡ true) × (b ≡ true)
both_are true b e = (refl, e)
both_are false b e = absurd (cc)

-- ---- each has a kid

takes_some : (o : ScalarOp) → map word_sort (takes o) ≡ [] → ⊥
takes_some Iadd e = absurd (cc)
takes_some o e = absurd (cc)

call_takes : (s : Sym) (c : CallSorts) → call_sorts s ≡ Some c → (ps : List OpSort) × (c.kids ≡ H ∷ ps)
call_takes s c e =
    let d = bind_some (method_type s.desc) _ c e in
    let p = bind_some (type_sorts d.0.params) _ c d.2 in
    let r = bind_some (result_sort d.0.result) _ c p.2 in
    (p.0, ap (λ (q : CallSorts). q.kids) (sym (same_Some _ c r.2)))

no_call : (s : Sym) (c : CallSorts) → call_sorts s ≡ Some c → c.kids ≡ [] → ⊥
no_call s c e z = let h = call_takes s c e in let y : H ∷ h.0 ≡ [] = sym h.1 ∙ z in absurd (cc)

some_kid : (o : Op) (s : OpSort) → in_family (op_number o) ≡ true → sort_over o [] ≡ Some s → ⊥
some_kid (op.Int c) s f e = absurd (cc)
some_kid (op.Long c) s f e = absurd (cc)
some_kid op.Null s f e = absurd (cc)
some_kid (op.Literal t) s f e = absurd (cc)
some_kid (op.Param j t) s f e = absurd (cc)
some_kid op.This s f e = absurd (cc)
some_kid op.Heap0 s f e = absurd (cc)
some_kid op.Unit s f e = absurd (cc)
some_kid op.Never s f e = absurd (cc)
some_kid op.Clear s f e = absurd (cc)
some_kid op.FNull s f e = absurd (cc)
some_kid op.FArith s f e = absurd (cc)
some_kid op.FIndex s f e = absurd (cc)
some_kid op.Zero s f e = absurd (cc)
some_kid (op.Theta d) s f e = absurd (cc)
some_kid (op.Eval d) s f e = absurd (cc)
some_kid (op.Pass d) s f e = absurd (cc)
some_kid (op.Shift d) s f e = absurd (cc)
some_kid (op.Scalar o) s f e = takes_some o (exactly_are (map word_sort (takes o)) (word_sort (gives o)) [] s e).0
some_kid (op.GetStatic y) s f e = let z = bind_some (field_sort y) _ s e in let u = z.2 in absurd (cc)
some_kid (op.PutStatic y) s f e = let z = bind_some (field_sort y) _ s e in let u = z.2 in absurd (cc)
some_kid (op.GetField y) s f e = let z = bind_some (field_sort y) _ s e in let u = z.2 in absurd (cc)
some_kid (op.PutField y) s f e = let z = bind_some (field_sort y) _ s e in let u = z.2 in absurd (cc)
some_kid (op.CallEnd y) s f e = let z = bind_some (call_sorts y) _ s e in no_call y z.0 z.1 (exactly_are z.0.kids _ [] s z.2).0
some_kid (op.CallRes y) s f e =
    let z = bind_some (call_sorts y) _ s e in
    let u = bind_some z.0.result _ s z.2 in
    no_call y z.0 z.1 (exactly_are z.0.kids _ [] s u.2).0
some_kid (op.CallFault y) s f e = let z = bind_some (call_sorts y) _ s e in no_call y z.0 z.1 (exactly_are z.0.kids _ [] s z.2).0
some_kid (op.CallHeap y) s f e = let z = bind_some (call_sorts y) _ s e in no_call y z.0 z.1 (exactly_are z.0.kids _ [] s z.2).0
some_kid o s f e = absurd (cc)

-- ---- an operation over other kids

module _ (view : ℕ → Option (Form ℕ)) (w : World) (x : Input) where
  -- where kids at i and those at j have the same values, so has the operation
  over_kids : (Z : ℕ → ℕ → Type 0) (i j : Index) → ((k l : ℕ) (u : Val) → Z k l → Value view w x k i u → Value view w x l j u)
      → (s : Shape) → is_simple s ≡ true → (o : Op) (ks ls : List ℕ) (v : Val) → AllZip Z ks ls → Means w x (Value view w x) s o ks i v → Means w x (Value view w x) s o ls j v
  over_kids Z i j step plain is o ks ls v z h = (h.0, each ks ls h.0 z h.1, h.2)
    where
      each : (ks ls : List ℕ) (vs : List Val) → AllZip Z ks ls → AllZip (λ k u. Value view w x k i u) ks vs → AllZip (λ k u. Value view w x k j u) ls vs
      each [] [] [] z h = tt
      each (k ∷ ks) (l ∷ ls) (u ∷ us) z h = (step k l u z.0 h.0, each ks ls us z.1 h.1)
      each ks ls vs z h = absurd (assumption)
  over_kids Z i j step choice is o (c ∷ a ∷ b ∷ []) (d ∷ e ∷ f ∷ []) v z h = (h.0, (h.1.0, step c d h.1.0 z.0 h.1.1, h.1.2), chosen h.0 h.2)
    where
      chosen : (t : Bool) → Value view w x (if t then a else b) i v → Value view w x (if t then e else f) j v
      chosen true y = step a e v z.1.0 y
      chosen false y = step b f v z.1.1.0 y
  over_kids Z i j step s is o ks ls v z h = absurd (first_of (assumption, cc))

  -- where it has a value, so has its first kid
  first_has : (s : Shape) → is_simple s ≡ true → (o : Op) (k : ℕ) (ks : List ℕ) (i : Index) (v : Val) → Means w x (Value view w x) s o (k ∷ ks) i v → (u : Val) × Value view w x k i u
  first_has plain is o k ks i v h = go h.0 h.1
    where
      go : (vs : List Val) → AllZip (λ n u. Value view w x n i u) (k ∷ ks) vs → (u : Val) × Value view w x k i u
      go (u ∷ us) z = (u, z.0)
      go vs z = absurd (assumption)
  first_has choice is o c (a ∷ b ∷ []) i v h = (h.1.0, h.1.1)
  first_has s is o k ks i v h = absurd (first_of (assumption, cc))

turned : (Z : ℕ → ℕ → Type 0) (ks ls : List ℕ) → AllZip Z ks ls → AllZip (λ l k. Z k l) ls ks
turned Z [] [] h = tt
turned Z (k ∷ ks) (l ∷ ls) h = (h.0, turned Z ks ls h.1)
turned Z ks ls h = absurd h

itself : (ks ls : List ℕ) → AllZip (λ k l. k ≡ l) ks ls → ks ≡ ls
itself [] [] h = refl
itself (k ∷ ks) (l ∷ ls) h = let e = h.0 in let f = itself ks ls h.1 in cc
itself ks ls h = absurd h

-- ---- shift_d

pub law_shifts : (n : ℕ) → in_family n ≡ true → Law (shifts n)
law_shifts n member g assumed subst_ l r w x set is i v =
    let view = form_at g.nodes in
    let m = is.names in
    let y = one_at view m shift_d (over_each n bare) l is.left in
    let ks = y.2.0 in
    let ls = is.right.0 in
    let same : m.kids ≡ ks = itself m.kids ks y.2.3 in
    let fits = simple m.op_ (ap in_family y.2.2 ∙ member) in
    let Z = λ (k p : ℕ). view p ≡ Some (form (op.Shift m.depth) (k ∷ [])) in
    let zip : AllZip Z ks ls = subst (λ (zs : List ℕ). AllZip Z zs ls) same is.right.3 in
    let s = shape m.op_ in
    let left = shift_is view w x l m.depth y.0 i v y.1 in (
      λ h. den_makes view w x r i v m.op_ ls is.right.1
          (over_kids view w x Z (at_depth i m.depth (suc (i m.depth))) i (λ k p u e h. (shift_is view w x p m.depth k i u e).1 h) s fits m.op_ ks ls v zip (value_says view w x y.0 (at_depth i m.depth (suc (i m.depth))) v m.op_ ks y.2.1 (left.0 h))),
      λ h. left.1 (den_makes view w x y.0 (at_depth i m.depth (suc (i m.depth))) v m.op_ ks y.2.1
          (over_kids view w x (λ p k. Z k p) i (at_depth i m.depth (suc (i m.depth))) (λ p k u e h. (shift_is view w x p m.depth k i u e).0 h) s fits m.op_ ls ks v (turned Z ks ls zip) (value_says view w x r i v m.op_ ls is.right.1 h))),
    )

-- ---- eval_d

-- the node is eval_d of the kid at p
abbrev IsEval : (ℕ → Option (Form ℕ)) → ℕ → ℕ → ℕ → ℕ → Type 0
IsEval view d p k q = view q ≡ Some (form (op.Eval d) (k ∷ p ∷ []))

at_one : (view : ℕ → Option (Form ℕ)) (m : Names) (p : ℕ) → slice_get m.vars 0 ≡ Some p → (ks ls : List ℕ) → AllZip (IsEach view m (evaluated 0)) ks ls → AllZip (IsEval view m.depth p) ks ls
at_one view m p e [] [] h = tt
at_one view m p e (k ∷ ks) (q ∷ ls) h =
    let one : h.0.0 ≡ p = same_at (slice_get m.vars 0) h.0.0 p h.0.1 e in
    (subst (λ (n : ℕ). view q ≡ Some (form (op.Eval m.depth) (k ∷ n ∷ []))) one h.0.2, at_one view m p e ks ls h.1)
at_one view m p e ks ls h = absurd (assumption)

-- where a kid has a value, the place at which it is evaluated has a count
some_count : (view : ℕ → Option (Form ℕ)) (w : World) (x : Input) (d p : ℕ) (s : Shape) → is_simple s ≡ true → (o : Op) (ks ls : List ℕ) → AllZip (IsEval view d p) ks ls → (i : Index) (v : Val)
    → (ls ≡ [] → ⊥) → Means w x (Value view w x) s o ls i v → (k : ℕ) × Value view w x p i (val.Count k)
some_count view w x d p s is o (k ∷ ks) (q ∷ ls) z i v some h =
    let u = first_has view w x s is o q ls i v h in
    let m = (eval_is view w x q d k p i u.0 z.0).0 u.1 in
    (m.0, m.1)
some_count view w x d p s is o [] [] z i v some h = absurd (some refl)
some_count view w x d p s is o ks ls z i v some h = absurd (assumption)

no_sorts : (g : Graph) (ls : List ℕ) (ss : List OpSort) → AllZip (HasSortAt g) ls ss → ls ≡ [] → ss ≡ []
no_sorts g [] [] h e = refl
no_sorts g [] (s ∷ ss) h e = absurd h
no_sorts g (l ∷ ls) ss h e = absurd (cc)

pub law_evals : (n : ℕ) → in_family n ≡ true → Law (evals n)
law_evals n member g assumed subst_ l r w x set is i v =
    let view = form_at g.nodes in
    let m = is.names in
    let d = m.depth in
    let y = two_at view m eval_d (over_each n bare) (var 0) l is.left in
    let p = y.1 in
    let ks = y.3.0 in
    let ls = is.right.0 in
    let same : m.kids ≡ ks = itself m.kids ks y.3.3 in
    let good : in_family (op_number m.op_) ≡ true = ap in_family y.3.2 ∙ member in
    let s = shape m.op_ in
    let fits = simple m.op_ good in
    let zip : AllZip (IsEval view d p) ks ls = at_one view m p y.4 ks ls (subst (λ (zs : List ℕ). AllZip (IsEach view m (evaluated 0)) zs ls) same is.right.3) in
    let sorts = kids_sorted g w x assumed set r m.op_ ls is.right.1 in
    let some = λ (e : ls ≡ []). some_kid m.op_ sorts.0 good (subst (λ (ss : List OpSort). sort_over m.op_ ss ≡ Some sorts.0) (no_sorts g ls sorts.1 sorts.2 e) sorts.3) in (
      λ h. let a = (eval_is view w x l d y.0 p i v y.2).0 h in
          den_makes view w x r i v m.op_ ls is.right.1
          (over_kids view w x (IsEval view d p) (at_depth i d a.0) i (λ k q u e c. (eval_at view w x q d k p i a.0 u e a.1).1 c) s fits m.op_ ks ls v zip (value_says view w x y.0 (at_depth i d a.0) v m.op_ ks y.3.1 a.2)),
      λ h. let b = value_says view w x r i v m.op_ ls is.right.1 h in
          let a = some_count view w x d p s fits m.op_ ks ls zip i v some b in
          (eval_is view w x l d y.0 p i v y.2).1 (
            a.0,
            a.1,
            den_makes view w x y.0 (at_depth i d a.0) v m.op_ ks y.3.1
                (over_kids view w x (λ q k. IsEval view d p k q) i (at_depth i d a.0) (λ q k u e c. (eval_at view w x q d k p i a.0 u e a.1).0 c) s fits m.op_ ls ks v (turned (IsEval view d p) ks ls zip) b),
          ),
    )

-- ---- the table

all_laws_of : (f : ℕ → Axiom) → ((n : ℕ) → in_family n ≡ true → Law (f n)) → (ns : List ℕ) → AllByRecursion (λ n. in_family n ≡ true) ns → Laws (map f ns)
all_laws_of f law [] h = tt
all_laws_of f law (n ∷ ns) h = (law n h.0, all_laws_of f law ns h.1)

laws_append : (a b : List Axiom) → Laws a → Laws b → Laws (a ++ b)
laws_append [] b p q = q
laws_append (r ∷ a) b p q = (p.0, laws_append a b p.1 q)

all_in : (ns : List ℕ) → all_are ns ≡ true → AllByRecursion (λ n. in_family n ≡ true) ns
all_in [] e = tt
all_in (n ∷ ns) e = let y = both_are (in_family n) (all_are ns) e in (y.0, all_in ns y.1)

all_single : Laws single
all_single =
    (law_301, (law_302, (law_303, (law_304, (law_306, (law_307, (law_308, (law_inside Imul 309, (law_inside Lmul 310, (law_inside Iadd 311, (law_inside Ladd 312, (law_313, tt))))))))))))

pub all_laws : Laws loop_axioms
all_laws =
    laws_append single (map shifts family ++ map evals family) all_single
    (laws_append (map shifts family) (map evals family) (all_laws_of shifts law_shifts family (all_in family refl)) (all_laws_of evals law_evals family (all_in family refl)))
