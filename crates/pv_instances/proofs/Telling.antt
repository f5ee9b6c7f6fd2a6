-- What a side tells that has a sort, holds.
use Rattle.std.specs.Prelude.{◌≡◌, ℕ, suc, ◌+◌, ◌==◌, Bool, true, false, List, [], ◌∷◌, ◌++◌, map, length, Option, Some, None, slice_get, if◌then◌else◌, refl}
use Rattle.std.specs.List.{AllZip, AllByRecursion}
use Rattle.std.proofs.Common.{sym, ap, ◌∙◌, subst, arith}
use Rattle.pv_value.specs.Operations.{Word, takes, gives}
use Rattle.pv_graph.specs.declared.node.Op.{Op}
use Rattle.pv_graph.specs.declared.node.Op.TheVariants as op
use Rattle.pv_graph.specs.declared.node.OpSort.{OpSort}
use Rattle.pv_graph.specs.declared.node.OpSort.TheVariants.{I, L, A, N, F, T, H}
use Rattle.pv_graph.specs.Ops.{word_sort, field_sort, kind_sort, is_depth, exactly, alike, eval_sort, shift_sort, sort_over}
use Rattle.pv_graph.proofs.Cited.{exactly_are, shape_takes, bind_some}
use Rattle.pv_value.specs.declared.number.Num.{Num}
use Rattle.pv_value.specs.declared.number.Num.TheVariants as num
use Rattle.pv_pattern.specs.Numbers.{op_number}
use Rattle.pv_pattern.specs.Patterns.{bare, shifted, evaluated, Head, fixed, theta_d, eval_d, pass_d, shift_d, getstatic, putstatic, getfield, putfield, load, store, Pattern, var, constant, fold, narrowed, over, over_each, Patterns, none, first}
use Rattle.pv_pattern.specs.Instances.{head_op}
use Rattle.pv_heights.specs.Filled.{Params, named, variable, Filled, at, of, Parts, no_part, part, constant_part, each_parts, filled, all_filled}
use Rattle.pv_instances.specs.Sorted.{IsSorted, AreSorted}
use Rattle.pv_instances.specs.Facts.{num_sort, Said, whole, is, field, element, sort_said, Gives, any, gives_, unsaid, head_gives, head_takes, Fact, family, Tells, head_tells, whole_tells, tells, tell_all}
use Rattle.pv_instances.specs.Fits.{said_by}

if_depth : (t : Bool) (o : Option OpSort) (y : OpSort) → (if t then o else None) ≡ Some y → (t ≡ true) × (o ≡ Some y)
if_depth true o y e = (refl, e)
if_depth false o y e = absurd (cc)

pub all_append : {A : Type 0} (P : A → Type 0) (xs ys : List A) → AllByRecursion P xs → AllByRecursion P ys → AllByRecursion P (xs ++ ys)
all_append P [] ys a b = b
all_append P (x ∷ xs) ys a b = (a.0, all_append P xs ys a.1 b)

module _ (m : Params) (kids vars : List OpSort) (r : OpSort) where
  -- the sort is the one that is said
  abbrev pub Says : Said → OpSort → Type 0
  Says said s = sort_said m r said ≡ Some s

  -- what is said of the kids are their sorts, or nothing is said
  abbrev Kids : List Said → List OpSort → Type 0
  Kids [] ss = Unit {0}
  Kids (said ∷ saids) ss = AllZip Says (said ∷ saids) ss

  words_said : (ws : List Word) → AllZip Says (map (λ w. is (word_sort w)) ws) (map word_sort ws)
  words_said [] = tt
  words_said (w ∷ ws) = (refl, words_said ws)

  kids_zip : (saids : List Said) (ss : List OpSort) → AllZip Says saids ss → Kids saids ss
  kids_zip [] ss z = tt
  kids_zip (said ∷ saids) ss z = z

  -- an operation that takes kids of these sorts
  taken : (saids : List Said) (takes : List OpSort) (gives : OpSort) (ss : List OpSort) (s : OpSort) → AllZip Says saids takes → exactly takes gives ss ≡ Some s → Kids saids ss
  taken saids takes gives ss s z e = kids_zip saids ss (subst (AllZip Says saids) (exactly_are takes gives ss s e).0 z)

  op_kids : (o : Op) (said : Said) (s : OpSort) (ss : List OpSort) → Says said s → sort_over o ss ≡ Some s → Kids (head_takes (fixed o) said) ss
  op_kids op.Succ said s ss says e = taken (is N ∷ []) (N ∷ []) N ss s (refl, tt) e
  op_kids op.Both said s ss says e = taken (is T ∷ is T ∷ []) (T ∷ T ∷ []) T ss s (refl, (refl, tt)) e
  op_kids op.Phi said s ss says e = subst (AllZip Says (is I ∷ said ∷ said ∷ [])) (sym (shape_takes op.Phi ss s e)) (refl, (says, (says, tt)))
  op_kids (op.Scalar o) said s ss says e = taken (map (λ w. is (word_sort w)) (takes o)) (map word_sort (takes o)) (word_sort (gives o)) ss s (words_said (takes o)) e
  op_kids op.Aeq said s ss says e = taken (is A ∷ is A ∷ []) (A ∷ A ∷ []) I ss s (refl, (refl, tt)) e
  op_kids op.Thrown said s ss says e = taken (is A ∷ []) (A ∷ []) F ss s (refl, tt) e
  op_kids op.IsClear said s ss says e = taken (is F ∷ []) (F ∷ []) I ss s (refl, tt) e
  op_kids op.Length said s ss says e = taken (is A ∷ []) (A ∷ []) I ss s (refl, tt) e
  op_kids o said s ss says e = tt

  head_kids : (h : Head) (said : Said) (s : OpSort) (ss : List OpSort) → Says said s → sort_over (head_op (named m) h) ss ≡ Some s → Kids (head_takes h said) ss
  head_kids (fixed o) said s ss says e = op_kids o said s ss says e
  head_kids theta_d said s ss says e = subst (AllZip Says (said ∷ said ∷ [])) (sym (shape_takes (op.Theta m.depth) ss s e)) (says, (says, tt))
  head_kids eval_d said s ss says e = subst (AllZip Says (said ∷ is N ∷ [])) (sym (shape_takes (op.Eval m.depth) ss s e)) (says, (refl, tt))
  head_kids pass_d said s ss says e = subst (AllZip Says (is I ∷ [])) (sym (shape_takes (op.Pass m.depth) ss s e).0) (refl, tt)
  head_kids shift_d said s ss says e = subst (AllZip Says (said ∷ [])) (sym (shape_takes (op.Shift m.depth) ss s e)) (says, tt)
  head_kids (getstatic k) said s ss says e = let t = bind_some (field_sort (m.symbols k)) _ s e in taken (is H ∷ []) (H ∷ []) t.0 ss s (refl, tt) t.2
  head_kids (putstatic k) said s ss says e = let t = bind_some (field_sort (m.symbols k)) _ s e in taken (is H ∷ field k ∷ []) (H ∷ t.0 ∷ []) H ss s (refl, (t.1, tt)) t.2
  head_kids (getfield k) said s ss says e = let t = bind_some (field_sort (m.symbols k)) _ s e in taken (is H ∷ is A ∷ []) (H ∷ A ∷ []) t.0 ss s (refl, (refl, tt)) t.2
  head_kids (putfield k) said s ss says e = let t = bind_some (field_sort (m.symbols k)) _ s e in taken (is H ∷ is A ∷ field k ∷ []) (H ∷ A ∷ t.0 ∷ []) H ss s (refl, (refl, (t.1, tt))) t.2
  head_kids (load k) said s ss says e = taken (is H ∷ is A ∷ is I ∷ []) (H ∷ A ∷ I ∷ []) (kind_sort (m.kinds k)) ss s (refl, (refl, (refl, tt))) e
  head_kids (store k) said s ss says e = taken (is H ∷ is A ∷ is I ∷ element k ∷ []) (H ∷ A ∷ I ∷ kind_sort (m.kinds k) ∷ []) H ss s (refl, (refl, (refl, (refl, tt)))) e

  abbrev Tell : Fact → Type 0
  Tell f = Tells m kids vars r f

  head_told : (h : Head) (s : OpSort) (ss : List OpSort) → sort_over (head_op (named m) h) ss ≡ Some s → AllByRecursion Tell (head_tells h)
  head_told (fixed o) s ss e = tt
  head_told theta_d s ss e = ((if_depth (is_depth m.depth) (alike ss) s e).0, tt)
  head_told eval_d s ss e = ((if_depth (is_depth m.depth) (eval_sort ss) s e).0, tt)
  head_told pass_d s ss e = ((if_depth (is_depth m.depth) (exactly (I ∷ []) N ss) s e).0, tt)
  head_told shift_d s ss e = ((if_depth (is_depth m.depth) (shift_sort ss) s e).0, tt)
  head_told (getstatic k) s ss e = let t = bind_some (field_sort (m.symbols k)) _ s e in ((t.0, t.1), tt)
  head_told (putstatic k) s ss e = let t = bind_some (field_sort (m.symbols k)) _ s e in ((t.0, t.1), tt)
  head_told (getfield k) s ss e = let t = bind_some (field_sort (m.symbols k)) _ s e in ((t.0, t.1), tt)
  head_told (putfield k) s ss e = let t = bind_some (field_sort (m.symbols k)) _ s e in ((t.0, t.1), tt)
  head_told (load k) s ss e = tt
  head_told (store k) s ss e = tt

  number_said : (c : Num) (f : Filled) (s : OpSort) → constant_part c ≡ Some f → IsSorted kids vars f s → num_sort c ≡ Some s
  number_said (num.Int c) f s e h = let y : of (op.Int c) no_part ≡ f = cc in go (subst (λ (x : Filled). IsSorted kids vars x s) (sym y) h)
    where
      go : IsSorted kids vars (of (op.Int c) no_part) s → Some I ≡ Some s
      go (ss, e, all) = ap Some (exactly_are [] I ss s e).1
  number_said (num.Long c) f s e h = let y : of (op.Long c) no_part ≡ f = cc in go (subst (λ (x : Filled). IsSorted kids vars x s) (sym y) h)
    where
      go : IsSorted kids vars (of (op.Long c) no_part) s → Some L ≡ Some s
      go (ss, e, all) = ap Some (exactly_are [] L ss s e).1
  number_said (num.Ref c) f s e h = absurd (cc)

  -- the parts that stand for the kids from the i-th on have the sorts of those
  bare_sorts : (i : ℕ) (later ss : List OpSort) → ((j : ℕ) (s : OpSort) → slice_get later j ≡ Some s → slice_get kids (i + j) ≡ Some s) → AreSorted kids vars (each_parts m bare i (length later)) ss → later ≡ ss
  bare_sorts i [] [] are all = refl
  bare_sorts i [] (s ∷ ss) are all = absurd all
  bare_sorts i (t ∷ later) [] are all = absurd all
  bare_sorts i (t ∷ later) (s ∷ ss) are all =
      let one : slice_get kids (i + 0) ≡ Some t = are 0 t refl in
      let here : slice_get kids i ≡ Some t = subst (λ (k : ℕ). slice_get kids k ≡ Some t) (omega arith) one in
      let same : t ≡ s = let y : Some t ≡ Some s = sym here ∙ all.0 in cc in
      let more : (j : ℕ) (u : OpSort) → slice_get later j ≡ Some u → slice_get kids (suc i + j) ≡ Some u = λ j u e. subst (λ (k : ℕ). slice_get kids k ≡ Some u) (omega arith) (are (suc j) u e) in
      let others : later ≡ ss = bare_sorts (suc i) later ss more all.1 in
      cc (same, others)

  -- what the head says that it gives is the sort of the whole, where this is r
  op_said : (o : Op) (ss : List OpSort) → sort_over o ss ≡ Some r → (said : Said) → said_by (head_gives (fixed o)) ≡ Some said → Says said r
  op_said op.Phi ss e said h = subst (λ (x : Said). Says x r) (let y : whole ≡ said = cc in y) refl
  op_said (op.Int c) ss e said h = let t = exactly_are [] I ss r e in subst (λ (x : Said). Says x r) (let y : is I ≡ said = cc in y) (ap Some t.1)
  op_said (op.Long c) ss e said h = let t = exactly_are [] L ss r e in subst (λ (x : Said). Says x r) (let y : is L ≡ said = cc in y) (ap Some t.1)
  op_said op.Null ss e said h = let t = exactly_are [] A ss r e in subst (λ (x : Said). Says x r) (let y : is A ≡ said = cc in y) (ap Some t.1)
  op_said op.This ss e said h = let t = exactly_are [] A ss r e in subst (λ (x : Said). Says x r) (let y : is A ≡ said = cc in y) (ap Some t.1)
  op_said op.Unit ss e said h = let t = exactly_are [] T ss r e in subst (λ (x : Said). Says x r) (let y : is T ≡ said = cc in y) (ap Some t.1)
  op_said op.Zero ss e said h = let t = exactly_are [] N ss r e in subst (λ (x : Said). Says x r) (let y : is N ≡ said = cc in y) (ap Some t.1)
  op_said op.Succ ss e said h = let t = exactly_are (N ∷ []) N ss r e in subst (λ (x : Said). Says x r) (let y : is N ≡ said = cc in y) (ap Some t.1)
  op_said op.Both ss e said h = let t = exactly_are (T ∷ T ∷ []) T ss r e in subst (λ (x : Said). Says x r) (let y : is T ≡ said = cc in y) (ap Some t.1)
  op_said (op.Scalar o) ss e said h =
      let t = exactly_are (map word_sort (takes o)) (word_sort (gives o)) ss r e in
      subst (λ (x : Said). Says x r) (let y : is (word_sort (gives o)) ≡ said = cc in y) (ap Some t.1)
  op_said op.Aeq ss e said h = let t = exactly_are (A ∷ A ∷ []) I ss r e in subst (λ (x : Said). Says x r) (let y : is I ≡ said = cc in y) (ap Some t.1)
  op_said op.Thrown ss e said h = let t = exactly_are (A ∷ []) F ss r e in subst (λ (x : Said). Says x r) (let y : is F ≡ said = cc in y) (ap Some t.1)
  op_said op.IsClear ss e said h = let t = exactly_are (F ∷ []) I ss r e in subst (λ (x : Said). Says x r) (let y : is I ≡ said = cc in y) (ap Some t.1)
  op_said op.Length ss e said h = let t = exactly_are (A ∷ []) I ss r e in subst (λ (x : Said). Says x r) (let y : is I ≡ said = cc in y) (ap Some t.1)
  op_said o ss e said h = absurd (cc)

  pub head_says : (h : Head) (ss : List OpSort) → sort_over (head_op (named m) h) ss ≡ Some r → (said : Said) → said_by (head_gives h) ≡ Some said → Says said r
  head_says (fixed o) ss e said h = op_said o ss e said h
  head_says theta_d ss e said h = subst (λ (x : Said). Says x r) (let y : whole ≡ said = cc in y) refl
  head_says eval_d ss e said h = subst (λ (x : Said). Says x r) (let y : whole ≡ said = cc in y) refl
  head_says pass_d ss e said h = subst (λ (x : Said). Says x r) (let y : is N ≡ said = cc in y) (ap Some (sym (shape_takes (op.Pass m.depth) ss r e).1))
  head_says shift_d ss e said h = subst (λ (x : Said). Says x r) (let y : whole ≡ said = cc in y) refl
  head_says (getstatic k) ss e said h =
      let t = bind_some (field_sort (m.symbols k)) _ r e in
      subst (λ (x : Said). Says x r) (let y : field k ≡ said = cc in y) (t.1 ∙ ap Some (exactly_are (H ∷ []) t.0 ss r t.2).1)
  head_says (putstatic k) ss e said h =
      let t = bind_some (field_sort (m.symbols k)) _ r e in
      subst (λ (x : Said). Says x r) (let y : is H ≡ said = cc in y) (ap Some (exactly_are (H ∷ t.0 ∷ []) H ss r t.2).1)
  head_says (getfield k) ss e said h =
      let t = bind_some (field_sort (m.symbols k)) _ r e in
      subst (λ (x : Said). Says x r) (let y : field k ≡ said = cc in y) (t.1 ∙ ap Some (exactly_are (H ∷ A ∷ []) t.0 ss r t.2).1)
  head_says (putfield k) ss e said h =
      let t = bind_some (field_sort (m.symbols k)) _ r e in
      subst (λ (x : Said). Says x r) (let y : is H ≡ said = cc in y) (ap Some (exactly_are (H ∷ A ∷ t.0 ∷ []) H ss r t.2).1)
  head_says (load k) ss e said h =
      subst (λ (x : Said). Says x r) (let y : element k ≡ said = cc in y) (ap Some (exactly_are (H ∷ A ∷ I ∷ []) (kind_sort (m.kinds k)) ss r e).1)
  head_says (store k) ss e said h =
      subst (λ (x : Said). Says x r) (let y : is H ≡ said = cc in y) (ap Some (exactly_are (H ∷ A ∷ I ∷ kind_sort (m.kinds k) ∷ []) H ss r e).1)

  -- so where a head gives a sort of its own and its value has that of the whole, this sort is the whole's
  whole_told : (h : Head) (said : Said) (s : OpSort) (ss : List OpSort) → Says said s → sort_over (head_op (named m) h) ss ≡ Some s → AllByRecursion Tell (whole_tells (head_gives h) said)
  whole_told h said s ss says e = go (head_gives h) refl said says
    where
      go : (g : Gives) → head_gives h ≡ g → (u : Said) → Says u s → AllByRecursion Tell (whole_tells g u)
      go (gives_ t) same whole y = (head_says h ss (e ∙ sym y) t (ap said_by same), tt)
      go (gives_ t) same (is o) y = tt
      go (gives_ t) same (field k) y = tt
      go (gives_ t) same (element k) y = tt
      go any same u y = tt
      go unsaid same u y = tt

  -- where the filled pattern has the sort, what it tells holds
  abbrev Told : Pattern → Option Filled → Said → OpSort → Type 0
  Told p o said s = (f : Filled) → o ≡ Some f → IsSorted kids vars f s → AllByRecursion Tell (tells p said)

  family_told : (n : ℕ) (said : Said) (s : OpSort) (t : Bool) → (op_number m.op_ == n) ≡ t → Says said s → (f : Filled) → (if t then Some (of m.op_ (each_parts m bare 0 (length kids))) else None) ≡ Some f
      → IsSorted kids vars f s → AllByRecursion Tell (family n said ∷ [])
  family_told n said s true same says f e h = let y : of m.op_ (each_parts m bare 0 (length kids)) ≡ f = cc in go (subst (λ (x : Filled). IsSorted kids vars x s) (sym y) h)
    where
      go : IsSorted kids vars (of m.op_ (each_parts m bare 0 (length kids))) s → AllByRecursion Tell (family n said ∷ [])
      go (ss, over_, all) =
          let equal : kids ≡ ss = bare_sorts 0 kids ss (λ j u at_. subst (λ (k : ℕ). slice_get kids k ≡ Some u) (omega arith) at_) all in
          ((same, subst (λ (z : List OpSort). sort_over m.op_ z ≡ Some s) (sym equal) over_ ∙ sym says), tt)
  family_told n said s false same says f e h = absurd (cc)

  mutual
    pub told : (p : Pattern) (said : Said) (s : OpSort) → Says said s → Told p (filled m (length kids) p) said s
    told (var j) said s says f e h = let y : at (variable j) ≡ f = cc in (subst (λ (x : Filled). IsSorted kids vars x s) (sym y) h ∙ sym says, tt)
    told (constant j) said s says f e h = (number_said (m.constants j) f s e h ∙ sym says, tt)
    told (fold o atoms) said s says f e h = tt
    told (narrowed t p) said s says f e h = tt
    told (over h ps) said s says f e sorted =
        let parts = bind_some (all_filled m (length kids) ps) _ f e in
        let y : of (head_op (named m) h) parts.0 ≡ f = (let z = parts.2 in cc) in
        let here : IsSorted kids vars (of (head_op (named m) h) parts.0) s = subst (λ (x : Filled). IsSorted kids vars x s) (sym y) sorted in
        all_append Tell (whole_tells (head_gives h) said) (head_tells h ++ tell_all ps (head_takes h said)) (whole_told h said s here.0 says here.1)
        (all_append Tell (head_tells h) (tell_all ps (head_takes h said)) (head_told h s here.0 here.1)
        (told_all ps (head_takes h said) here.0 parts.0 parts.1 (head_kids h said s here.0 says here.1) here.2))
    told (over_each n bare) said s says f e h = family_told n said s (op_number m.op_ == n) refl says f e h
    told (over_each n shifted) said s says f e h = tt
    told (over_each n (evaluated j)) said s says f e h = tt

    told_all : (ps : Patterns) (saids : List Said) (ss : List OpSort) (qs : Parts) → all_filled m (length kids) ps ≡ Some qs → Kids saids ss → AreSorted kids vars qs ss → AllByRecursion Tell (tell_all ps saids)
    told_all none saids ss qs e k all = tt
    told_all (first p ps) [] ss qs e k all = tt
    told_all (first p ps) (said ∷ saids) [] qs e k all = absurd k
    told_all (first p ps) (said ∷ saids) (s ∷ ss) qs e k all =
        let one = bind_some (filled m (length kids) p) _ qs e in
        let others = bind_some (all_filled m (length kids) ps) _ qs one.2 in
        let y : part one.0 others.0 ≡ qs = (let z = others.2 in cc) in
        let here : AreSorted kids vars (part one.0 others.0) (s ∷ ss) = subst (λ (x : Parts). AreSorted kids vars x (s ∷ ss)) (sym y) all in
        all_append Tell (tells p said) (tell_all ps saids) (told p said s k.0 one.0 one.1 here.0) (told_all ps saids ss others.0 others.1 (kids_zip saids ss k.1) here.1)
