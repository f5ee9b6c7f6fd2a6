-- A walk along the spine of a token.
use Rattle.std.specs.Prelude.{◌≡◌, ◌⊎◌, ℕ, zero, suc, ◌+◌, ◌<◌, Bool, true, false, List, [], ◌∷◌, ◌++◌, length, replicate, Option, Some, slice_get, slice_set, refl}
use Rattle.std.proofs.Common.{inl, inr, sym, ap, ◌∙◌, subst, arith, length-append}
use Rattle.std.proofs.lemmas.Option.{same_Some, slice_get_within}
use Rattle.pv_graph.specs.declared.node.Op.{Op}
use Rattle.pv_graph.specs.declared.node.Op.TheVariants as op
use Rattle.pv_graph.specs.declared.node.Node.{Node}
use Rattle.pv_graph.specs.Ops.{shape, eval}
use Rattle.pv_graph.specs.Forms.{Form, form}
use Rattle.pv_graph.specs.Walks.{In, Spine, token, left, right, count}
use Rattle.pv_graph.specs.Graphs.{Graph, IsGraph, form_at}
use Rattle.pv_graph.specs.Reach.{IsMarked, unmarked}
use Rattle.pv_graph.proofs.Cited.{form_there, in_cases, in_front, in_last, kid_within, set_length, set_same}
use Rattle.pv_endings.specs.declared.spine.Next.{Next}
use Rattle.pv_endings.specs.declared.spine.Next.TheVariants.{Tokens, Count, Nothing}
use Rattle.pv_endings.specs.declared.spine.Walk.{Walk}
use Rattle.pv_endings.specs.Spine.{next_by, next_of, IsSpine, IsNoted, LeadsOn, IsDone, IsWalk, AreWithin, Follows}

-- ---- marks

pub set_kept : (xs : List Bool) (i m : ℕ) → IsMarked xs m → IsMarked (slice_set xs i true) m
set_kept [] i m e = absurd (cc)
set_kept (x ∷ xs) zero zero e = refl
set_kept (x ∷ xs) zero (suc m) e = e
set_kept (x ∷ xs) (suc i) zero e = e
set_kept (x ∷ xs) (suc i) (suc m) e = set_kept xs i m e

pub set_only : (xs : List Bool) (i m : ℕ) → IsMarked (slice_set xs i true) m → IsMarked xs m ⊎ (m ≡ i)
set_only [] i m e = absurd (cc)
set_only (x ∷ xs) zero zero e = inr refl
set_only (x ∷ xs) zero (suc m) e = inl e
set_only (x ∷ xs) (suc i) zero e = inl e
set_only (x ∷ xs) (suc i) (suc m) e = elim (set_only xs i m e) [ inl z ↦ inl z | inr z ↦ inr (ap suc z) ]

set_count : (xs : List Bool) (i : ℕ) → slice_get xs i ≡ Some false → suc (unmarked (slice_set xs i true)) ≡ unmarked xs
set_count [] i e = absurd (cc)
set_count (false ∷ xs) zero e = refl
set_count (true ∷ xs) zero e = absurd (cc)
set_count (false ∷ xs) (suc i) e = ap suc (set_count xs i e)
set_count (true ∷ xs) (suc i) e = set_count xs i e

pub noted_already : (marks : List Bool) (work : List ℕ) (n : ℕ) → IsMarked marks n → IsNoted marks marks work work n
noted_already marks work n e = record { long = refl; kept = λ m h. h; only = λ m h. inl h; there = e; waits = λ m h. h; noted = λ m h. inl h; queued = λ m h. inl h; count = refl }

pub noted_new : (marks new : List Bool) (work after : List ℕ) (n : ℕ) → slice_get marks n ≡ Some false → new ≡ slice_set marks n true → after ≡ work ++ n ∷ [] → IsNoted marks new work after n
noted_new marks new work after n e f g = subst (λ (q : List Bool). IsNoted marks q work after n) (sym f) (subst (λ (q : List ℕ). IsNoted marks (slice_set marks n true) work q n) (sym g) (record {
  long = set_length marks n true;
  kept = set_kept marks n;
  only = set_only marks n;
  there = set_same marks n true (slice_get_within marks n false e);
  waits = in_front work n;
  noted = λ m h. elim (set_only marks n m h) [ inl z ↦ inl z | inr z ↦ inr (subst (In (work ++ n ∷ [])) (sym z) (in_last work n)) ];
  queued = in_cases work n;
  count = let a = set_count marks n e in let b = length-append work (n ∷ []) in omega (arith, a, b);
}))

-- ---- where the spine goes on

forms : (o p : Op) (ks ls : List ℕ) → ◌≡◌ {A = Option (Form ℕ)} (Some (form o ks)) (Some (form p ls)) → (o ≡ p) × (ks ≡ ls)
forms o p ks ls e = let z = same_Some _ _ e in (cc, cc)

eval_next : (o : Op) (d a p : ℕ) → shape o ≡ eval d → next_by o (a ∷ p ∷ []) ≡ Count p
eval_next (op.Eval e) d a p h = refl
eval_next o d a p h = absurd (cc)

next_is : (nodes : List Node) (n : ℕ) (node : Node) (o : Op) (ks : List ℕ) → slice_get nodes n ≡ Some node → form_at nodes n ≡ Some (form o ks) → next_of node ≡ next_by o ks
next_is nodes n node o ks e f = let z = forms node.op o node.kids ks (sym (form_there nodes n node e) ∙ f) in ap (λ (q : Op). next_by q node.kids) z.0 ∙ ap (next_by o) z.1

tokens_same : (a b x y : ℕ) → Tokens a b ≡ Tokens x y → (a ≡ x) × (b ≡ y)
tokens_same a b x y e = (cc, cc)

count_same : (p q : ℕ) → Count p ≡ Count q → p ≡ q
count_same p q e = cc

pub done_by : (nodes : List Node) (spine walked : List Bool) (n : ℕ) (node : Node) → slice_get nodes n ≡ Some node → IsMarked spine n
    → ((a b : ℕ) → next_of node ≡ Tokens a b → IsMarked walked a × IsMarked walked b) → ((p : ℕ) → next_of node ≡ Count p → IsMarked spine p) → IsDone nodes spine walked n
done_by nodes spine walked n node e self_ two one = record {
  self_ = self_;
  tokens = λ a b f. two a b (next_is nodes n node op.Both (a ∷ b ∷ []) e f);
  count = λ a p o d f h. one p (next_is nodes n node o (a ∷ p ∷ []) e f ∙ eval_next o d a p h);
}

-- a node is a form again
both_form : (nodes : List Node) (n : ℕ) (node : Node) (a b : ℕ) → slice_get nodes n ≡ Some node → next_of node ≡ Tokens a b → form_at nodes n ≡ Some (form op.Both (a ∷ b ∷ []))
both_form nodes n node a b e h = form_there nodes n node e ∙ go node.op node.kids h
  where
    go : (o : Op) (ks : List ℕ) → next_by o ks ≡ Tokens a b → ◌≡◌ {A = Option (Form ℕ)} (Some (form o ks)) (Some (form op.Both (a ∷ b ∷ [])))
    go op.Both (x ∷ (y ∷ [])) h = let z = tokens_same x y a b h in ap (λ (q : ℕ). Some (form op.Both (q ∷ y ∷ []))) z.0 ∙ ap (λ (q : ℕ). Some (form op.Both (a ∷ q ∷ []))) z.1
    go (op.Eval d) (x ∷ (y ∷ [])) h = absurd (cc)
    go o ks h = absurd (cc)

eval_form : (nodes : List Node) (n : ℕ) (node : Node) (p : ℕ) → slice_get nodes n ≡ Some node → next_of node ≡ Count p → (a d : ℕ) × (form_at nodes n ≡ Some (form (op.Eval d) (a ∷ p ∷ [])))
eval_form nodes n node p e h = let z = go node.op node.kids h in (z.0, z.1, form_there nodes n node e ∙ z.2)
  where
    go : (o : Op) (ks : List ℕ) → next_by o ks ≡ Count p → (a d : ℕ) × ◌≡◌ {A = Option (Form ℕ)} (Some (form o ks)) (Some (form (op.Eval d) (a ∷ p ∷ [])))
    go op.Both (x ∷ (y ∷ [])) h = absurd (cc)
    go (op.Eval d) (x ∷ (y ∷ [])) h = (x, d, ap (λ (q : ℕ). Some (form (op.Eval d) (x ∷ q ∷ []))) (count_same y p h))
    go o ks h = absurd (cc)

none_marked : (len n : ℕ) → IsMarked (replicate len false) n → ⊥
none_marked zero n e = absurd (cc)
none_marked (suc len) zero e = absurd (cc)
none_marked (suc len) (suc n) e = none_marked len n e

replicate_long : (len : ℕ) → length (replicate len false) ≡ len
replicate_long zero = refl
replicate_long (suc len) = ap suc (replicate_long len)

pub walk_start : (nodes : List Node) (t len : ℕ) (spine walked : List Bool) (work : List ℕ) → len ≡ length nodes → spine ≡ replicate len false → IsNoted (replicate len false) walked [] work t → IsWalk nodes t spine walked work
walk_start nodes t len spine walked work e is h = subst (λ (q : List Bool). IsWalk nodes t q walked work) (sym is) (record {
  long = replicate_long len ∙ e;
  wide = h.long ∙ replicate_long len ∙ e;
  start = h.there;
  found = λ n m. absurd (none_marked len n m);
  leads = λ n m k s. elim (h.only n m) [ inl z ↦ absurd (none_marked len n z) | inr z ↦ subst (λ (q : ℕ). Spine (form_at nodes) q k) z s ];
  waits = λ n m. elim (h.queued n m) [ inl z ↦ absurd z | inr z ↦ subst (IsMarked walked) z h.there ];
  done = λ n m. elim (h.noted n m) [ inl z ↦ absurd (none_marked len n z) | inr z ↦ inl z ];
})

-- what a step from node n changes, whichever it is
record Steps (nodes : List Node) (t n : ℕ) (old new : Walk) : Type 0 where
  long : length new.spine.items ≡ length old.spine.items
  wide : length new.walked.items ≡ length old.walked.items
  found : (m : ℕ) → IsMarked new.spine.items m → IsMarked old.spine.items m ⊎ Spine (form_at nodes) t m
  kept : (m : ℕ) → IsMarked old.spine.items m → IsMarked new.spine.items m
  leads : (m : ℕ) → IsMarked new.walked.items m → IsMarked old.walked.items m ⊎ LeadsOn nodes t m
  more : (m : ℕ) → IsMarked old.walked.items m → IsMarked new.walked.items m
  noted : (m : ℕ) → IsMarked new.walked.items m → IsMarked old.walked.items m ⊎ In new.work.items m
  waits : (m : ℕ) → In old.work.items m → In new.work.items m
  queued : (m : ℕ) → In new.work.items m → In old.work.items m ⊎ IsMarked new.walked.items m
  done : IsDone nodes new.spine.items new.walked.items n

-- .. after which the walk knows what it knew while n was still to come
abbrev pub IsWalkAt : List Node → ℕ → Walk → List ℕ → Type 0
IsWalkAt nodes t w work = IsWalk nodes t w.spine.items w.walked.items work

still_done : (nodes : List Node) (old new : Walk) (n : ℕ) → ((m : ℕ) → IsMarked old.spine.items m → IsMarked new.spine.items m) → ((m : ℕ) → IsMarked old.walked.items m → IsMarked new.walked.items m)
    → IsDone nodes old.spine.items old.walked.items n → IsDone nodes new.spine.items new.walked.items n
still_done nodes old new n f g d = record {
  self_ = f n d.self_;
  tokens = λ a b e. let z = d.tokens a b e in (g a z.0, g b z.1);
  count = λ a p o d' e h. f p (d.count a p o d' e h);
}

stepped : (nodes : List Node) (t n : ℕ) (old new : Walk) → IsWalkAt nodes t old (old.work.items ++ n ∷ []) → Steps nodes t n old new → IsWalkAt nodes t new new.work.items
stepped nodes t n old new w s = record {
  long = s.long ∙ w.long;
  wide = s.wide ∙ w.wide;
  start = s.more t w.start;
  found = λ m h. elim (s.found m h) [ inl z ↦ w.found m z | inr z ↦ z ];
  leads = λ m h. elim (s.leads m h) [ inl z ↦ w.leads m z | inr z ↦ z ];
  waits = λ m h. elim (s.queued m h) [ inl z ↦ s.more m (w.waits m (in_front old.work.items n m z)) | inr z ↦ z ];
  done = λ m h. by m (s.noted m h);
}
  where
    again : (m : ℕ) → (In (old.work.items ++ n ∷ []) m) ⊎ IsDone nodes old.spine.items old.walked.items m → In new.work.items m ⊎ IsDone nodes new.spine.items new.walked.items m
    again m (inl i) = elim (in_cases old.work.items n m i) [ inl z ↦ inl (s.waits m z) | inr z ↦ inr (subst (IsDone nodes new.spine.items new.walked.items) z s.done) ]
    again m (inr d) = inr (still_done nodes old new m s.kept s.more d)

    by : (m : ℕ) → IsMarked old.walked.items m ⊎ In new.work.items m → In new.work.items m ⊎ IsDone nodes new.spine.items new.walked.items m
    by m (inl z) = again m (w.done m z)
    by m (inr z) = inl z

mark_more : (nodes : List Node) (t : ℕ) (spine : List Bool) (n m : ℕ) → Spine (form_at nodes) t n → IsMarked (slice_set spine n true) m → IsMarked spine m ⊎ Spine (form_at nodes) t m
mark_more nodes t spine n m s h = elim (set_only spine n m h) [ inl z ↦ inl z | inr z ↦ inr (subst (Spine (form_at nodes) t) (sym z) s) ]

pub walk_step : (nodes : List Node) (t n : ℕ) (node : Node) (old new : Walk) → slice_get nodes n ≡ Some node → n < length nodes → IsWalkAt nodes t old (old.work.items ++ n ∷ [])
    → (next : Next) → next_of node ≡ next → Follows next n old new → AreWithin next (length nodes) → IsWalkAt nodes t new new.work.items
walk_step nodes t n node old new at low w next is f within = stepped nodes t n old new w (go next is f within)
  where
    marked : IsMarked old.walked.items n
    marked = w.waits n (in_last old.work.items n)

    on : Spine (form_at nodes) t n
    on = w.leads n marked n (token n)

    here : IsMarked (slice_set old.spine.items n true) n
    here = set_same old.spine.items n true (let z = w.long in omega (arith, z, low))

    go : (next : Next) → next_of node ≡ next → Follows next n old new → AreWithin next (length nodes) → Steps nodes t n old new
    go (Tokens a b) is (set, (mid, half, one, two)) within =
        let view = both_form nodes n node a b at is in record {
          long = ap length set ∙ set_length old.spine.items n true;
          wide = two.long ∙ one.long;
          found = λ m h. mark_more nodes t old.spine.items n m on (subst (λ (q : List Bool). IsMarked q m) set h);
          kept = λ m h. subst (λ (q : List Bool). IsMarked q m) (sym set) (set_kept old.spine.items n m h);
          leads = λ m h. elim (two.only m h) [
            | inl y ↦ elim (one.only m y) [ inl z ↦ inl z | inr z ↦ inr (λ k s. w.leads n marked k (left n a b k view (subst (λ (q : ℕ). Spine (form_at nodes) q k) z s))) ]
            | inr y ↦ inr (λ k s. w.leads n marked k (right n a b k view (subst (λ (q : ℕ). Spine (form_at nodes) q k) y s)))
          ];
          more = λ m h. two.kept m (one.kept m h);
          noted = λ m h. elim (two.noted m h) [ inl y ↦ elim (one.noted m y) [ inl z ↦ inl z | inr z ↦ inr (two.waits m z) ] | inr y ↦ inr y ];
          waits = λ m h. two.waits m (one.waits m h);
          queued = λ m h. elim (two.queued m h) [
            | inl y ↦ elim (one.queued m y) [ inl z ↦ inl z | inr z ↦ inr (two.kept m (subst (IsMarked mid) z one.there)) ]
            | inr y ↦ inr (subst (IsMarked new.walked.items) y two.there)
          ];
          done = done_by nodes new.spine.items new.walked.items n node at (subst (λ (q : List Bool). IsMarked q n) (sym set) here)
              (λ x y e. let z = tokens_same a b x y (sym is ∙ e) in (subst (IsMarked new.walked.items) z.0 (two.kept a one.there), subst (IsMarked new.walked.items) z.1 two.there))
              (λ p e. absurd (let z = sym is ∙ e in cc));
        }
    go (Count p) is (set, (same, work_)) within =
        let view = eval_form nodes n node p at is in
        let counted : Spine (form_at nodes) t p = w.leads n marked p (count n view.0 p (op.Eval view.1) view.1 view.2 refl) in
        let there : IsMarked new.spine.items p =
        subst (λ (q : List Bool). IsMarked q p) (sym set) (set_same (slice_set old.spine.items n true) p true (let z = set_length old.spine.items n true in let y = w.long in omega (arith, z, y, within))) in
        record {
          long = ap length set ∙ set_length (slice_set old.spine.items n true) p true ∙ set_length old.spine.items n true;
          wide = ap length same;
          found = λ m h. elim (set_only (slice_set old.spine.items n true) p m (subst (λ (q : List Bool). IsMarked q m) set h)) [
            | inl z ↦ mark_more nodes t old.spine.items n m on z
            | inr z ↦ inr (subst (Spine (form_at nodes) t) (sym z) counted)
          ];
          kept = λ m h. subst (λ (q : List Bool). IsMarked q m) (sym set) (set_kept (slice_set old.spine.items n true) p m (set_kept old.spine.items n m h));
          leads = λ m h. inl (subst (λ (q : List Bool). IsMarked q m) same h);
          more = λ m h. subst (λ (q : List Bool). IsMarked q m) (sym same) h;
          noted = λ m h. inl (subst (λ (q : List Bool). IsMarked q m) same h);
          waits = λ m h. subst (λ (q : List ℕ). In q m) (sym work_) h;
          queued = λ m h. inl (subst (λ (q : List ℕ). In q m) work_ h);
          done = done_by nodes new.spine.items new.walked.items n node at (subst (λ (q : List Bool). IsMarked q n) (sym set) (set_kept (slice_set old.spine.items n true) p n here))
              (λ x y e. absurd (let z = sym is ∙ e in cc))
              (λ q e. subst (IsMarked new.spine.items) (count_same p q (sym is ∙ e)) there);
        }
    go Nothing is (set, (same, work_)) within = record {
      long = ap length set ∙ set_length old.spine.items n true;
      wide = ap length same;
      found = λ m h. mark_more nodes t old.spine.items n m on (subst (λ (q : List Bool). IsMarked q m) set h);
      kept = λ m h. subst (λ (q : List Bool). IsMarked q m) (sym set) (set_kept old.spine.items n m h);
      leads = λ m h. inl (subst (λ (q : List Bool). IsMarked q m) same h);
      more = λ m h. subst (λ (q : List Bool). IsMarked q m) (sym same) h;
      noted = λ m h. inl (subst (λ (q : List Bool). IsMarked q m) same h);
      waits = λ m h. subst (λ (q : List ℕ). In q m) (sym work_) h;
      queued = λ m h. inl (subst (λ (q : List ℕ). In q m) work_ h);
      done = done_by nodes new.spine.items new.walked.items n node at (subst (λ (q : List Bool). IsMarked q n) (sym set) here)
          (λ x y e. absurd (let z = sym is ∙ e in cc)) (λ q e. absurd (let z = sym is ∙ e in cc));
    }

pub walk_count : (next : Next) (n : ℕ) (old new : Walk) → Follows next n old new → length new.work.items + unmarked new.walked.items ≡ length old.work.items + unmarked old.walked.items
walk_count (Tokens a b) n old new (set, (mid, half, one, two)) = two.count ∙ one.count
walk_count (Count p) n old new (set, (same, work_)) = ap (λ (q : List ℕ). length q + unmarked new.walked.items) work_ ∙ ap (λ (q : List Bool). length old.work.items + unmarked q) same
walk_count Nothing n old new (set, (same, work_)) = ap (λ (q : List ℕ). length q + unmarked new.walked.items) work_ ∙ ap (λ (q : List Bool). length old.work.items + unmarked q) same

pub walk_end : (nodes : List Node) (t : ℕ) (spine walked : List Bool) → IsWalk nodes t spine walked [] → IsSpine nodes t spine
walk_end nodes t spine walked w = record { long = w.long; says = λ n. (w.found n, λ s. reach t n s w.start) }
  where
    is_done : (n : ℕ) → IsMarked walked n → IsDone nodes spine walked n
    is_done n h = elim (w.done n h) [ inl z ↦ absurd z | inr z ↦ z ]

    reach : (u n : ℕ) → Spine (form_at nodes) u n → IsMarked walked u → IsMarked spine n
    reach u n (token t) h = (is_done u h).self_
    reach u n (left t a b m e s) h = reach a n s ((is_done u h).tokens a b e).0
    reach u n (right t a b m e s) h = reach b n s ((is_done u h).tokens a b e).1
    reach u n (count t a p o d e f) h = (is_done u h).count a p o d e f

pub next_within : (g : Graph) → IsGraph g → (n : ℕ) (node : Node) → slice_get g.nodes n ≡ Some node → AreWithin (next_of node) (length g.nodes)
next_within g graph n node e = go node.op node.kids (λ k. kid_within g graph n k node e)
  where
    go : (o : Op) (ks : List ℕ) → ((k : ℕ) → In ks k → k < length g.nodes) → AreWithin (next_by o ks) (length g.nodes)
    go op.Both (a ∷ (b ∷ [])) h = (h a (inl refl), h b (inr (inl refl)))
    go (op.Eval d) (a ∷ (p ∷ [])) h = h p (inr (inl refl))
    go o ks h = tt

pub walk_done : (nodes : List Node) (t : ℕ) (spine walked : List Bool) (work : List ℕ) → length work ≡ 0 → IsWalk nodes t spine walked work → IsSpine nodes t spine
walk_done nodes t spine walked [] e w = walk_end nodes t spine walked w
walk_done nodes t spine walked (n ∷ work) e w = absurd (omega (arith, e))

pub walk_low : (nodes : List Node) (t n : ℕ) (spine walked : List Bool) (rest : List ℕ) → IsWalk nodes t spine walked (rest ++ n ∷ []) → n < length nodes
walk_low nodes t n spine walked rest w = let z = slice_get_within walked n true (w.waits n (in_last rest n)) in let y = w.wide in omega (arith, z, y)
