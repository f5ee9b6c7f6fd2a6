-- Many steps of a closing, and its end.
use Rattle.std.proofs.Common.{◌≡◌, ◌≢◌, ◌⊎◌, inl, inr, ℕ, suc, ◌+◌, ◌<◌, ◌≤◌, List, [], ◌∷◌, ◌++◌, length, get_or, take, Some, slice_get, refl, sym, ◌∙◌, ap, subst, append_assoc, arith, ◌==◌, true, false}
use Rattle.std.proofs.lemmas.Bool.Decides.{nat_tests}
use Rattle.std.specs.List.{Contains}
use Rattle.std.proofs.lemmas.List.{append-nil}
use Rattle.std.proofs.lemmas.Option.{slice_get_within, same_Some}
use Rattle.std.proofs.lemmas.List.Elements.{Contains-append_left, Contains-push, Contains-push_cases}
use Rattle.pv_graph.specs.declared.node.Op.{Op}
use Rattle.pv_graph.specs.declared.node.Node.{Node}
use Rattle.pv_graph.specs.Nodes.{node_of}
use Rattle.pv_classes.specs.declared.join.Join.{Join}
use Rattle.pv_classes.specs.Partition.{at, AreOne, Parts, total}
use Rattle.pv_classes.specs.Closest.{Is, IsOutside, Closest, AreOfKids}
use Rattle.pv_classes.specs.Index.{Index, found_by, labels_of, key_of, IsIndex, IsFound, IsTracked, Advances, IsOutsideAt}
use Rattle.pv_classes.specs.Closing.{IsClosing, Closed, waits}
use Rattle.pv_classes.proofs.Elements.{none_in, in_take, take_cases, take_keeps, take_new}
use Rattle.pv_classes.proofs.Links.{closest_over, of_kids_more}

-- nothing done
pub advances_none : (nodes : List Node) (fixed : List ℕ) (i : Index) (joins : List Join) → IsIndex nodes i → Advances nodes fixed i i joins joins
advances_none nodes fixed i joins index = record {
  index = index;
  coarser = λ a b la lb e. e;
  sound = λ a b la lb e. Closest.joined a b la lb e;
  more = [];
  joins = sym (append-nil joins);
  of_kids = AreOfKids.none joins;
  tracked = λ m lt h. h;
  less = inr (refl, refl);
}

-- one after another
pub advances_on : (nodes : List Node) (fixed : List ℕ) (i j k : Index) (before between after : List Join) → Advances nodes fixed i j before between → Advances nodes fixed j k between after → Advances nodes fixed i k before after
advances_on nodes fixed i j k before between after g h = record {
  index = h.index;
  coarser = λ a b la lb e. h.coarser a b la lb (g.coarser a b la lb e);
  sound = λ a b la lb e. closest_over nodes fixed (AreOne j.parts.labels) (AreOne i.parts.labels) g.sound a b (h.sound a b la lb e);
  more = g.more ++ h.more;
  joins = h.joins ∙ ap (λ (xs : List Join). xs ++ h.more) g.joins ∙ append_assoc before g.more h.more;
  of_kids = of_kids_more nodes fixed before g.more h.more g.of_kids (subst (λ (xs : List Join). AreOfKids nodes fixed xs h.more) g.joins h.of_kids);
  tracked = λ m lt s. h.tracked m lt (g.tracked m lt s);
  less = less g.less h.less;
}
  where
    less : (total j.parts.numbers < total i.parts.numbers) ⊎ ((j.parts ≡ i.parts) × (j.waiting ≡ i.waiting)) → (total k.parts.numbers < total j.parts.numbers) ⊎ ((k.parts ≡ j.parts) × (k.waiting ≡ j.waiting))
        → (total k.parts.numbers < total i.parts.numbers) ⊎ ((k.parts ≡ i.parts) × (k.waiting ≡ i.waiting))
    less (inl p) (inl q) = inl (omega arith)
    less (inl p) (inr q) = inl (subst (λ (v : ℕ). v < total i.parts.numbers) (sym (ap (λ (x : Parts). total x.numbers) q.0)) p)
    less (inr p) (inl q) = inl (subst (λ (v : ℕ). total k.parts.numbers < v) (ap (λ (x : Parts). total x.numbers) p.0) q)
    less (inr p) (inr q) = inr (q.0 ∙ p.0, q.1 ∙ p.1)

-- ---- a pass

-- what was said of the nodes of a pass so far
pub record IsPass (nodes : List Node) (fixed : List ℕ) (work : List ℕ) (old new : Index) (before after : List Join) (first holds : List ℕ) : Type 0 where
  pub advances : Advances nodes fixed old new before after
  pub tracked : (n : ℕ) → Contains work n → IsTracked nodes new n ⊎ Contains holds n
  pub keeps : (n : ℕ) → Contains first n → Contains holds n
  pub held : (n : ℕ) → Contains holds n → Contains first n ⊎ (Contains work n × (IsOutsideAt nodes fixed n → ⊥))

pub pass_none : (nodes : List Node) (fixed : List ℕ) (i : Index) (joins : List Join) (holds : List ℕ) → IsIndex nodes i → IsPass nodes fixed [] i i joins joins holds holds
pass_none nodes fixed i joins holds index = record {
  advances = advances_none nodes fixed i joins index;
  tracked = λ n c. absurd (none_in n c);
  keeps = λ n c. c;
  held = λ n c. inl c;
}

module _ (nodes : List Node) (fixed : List ℕ) (work : List ℕ) (at_ : ℕ) (lt : at_ < length work) (old mid : Index) (before between : List Join) (first holds : List ℕ)
    (so_far : IsPass nodes fixed (take at_ work) old mid before between first holds) where
  -- the next node was visited
  pub pass_visits : (new : Index) (after : List Join) → ((n : ℕ) → Contains work n → n < length nodes) → Advances nodes fixed mid new between after → IsTracked nodes new (get_or work at_ 0)
      → IsPass nodes fixed (take (at_ + 1) work) old new before after first holds
  pass_visits new after low advances tracked = record {
    advances = advances_on nodes fixed old mid new before between after so_far.advances advances;
    tracked = λ n c. by n (take_cases work at_ n lt c);
    keeps = so_far.keeps;
    held = λ n c. elim (so_far.held n c) [ inl d ↦ inl d | inr d ↦ inr (take_keeps work at_ n lt d.0, d.1) ];
  }
    where
      all : (n : ℕ) → Contains (take at_ work) n → Contains work n
      all n c = in_take work at_ n c

      old_one : (n : ℕ) → Contains (take at_ work) n → IsTracked nodes mid n ⊎ Contains holds n → IsTracked nodes new n ⊎ Contains holds n
      old_one n c (inl s) = inl (advances.tracked n (low n (all n c)) s)
      old_one n c (inr h) = inr h

      by : (n : ℕ) → Contains (take at_ work) n ⊎ (get_or work at_ 0 ≡ n) → IsTracked nodes new n ⊎ Contains holds n
      by n (inl c) = old_one n c (so_far.tracked n c)
      by n (inr e) = inl (subst (λ (v : ℕ). IsTracked nodes new v) e tracked)

  -- the next node is held
  pub pass_holds : (more : List ℕ) → more ≡ holds ++ get_or work at_ 0 ∷ [] → (IsOutsideAt nodes fixed (get_or work at_ 0) → ⊥) → IsPass nodes fixed (take (at_ + 1) work) old mid before between first more
  pass_holds more e inside = record {
    advances = so_far.advances;
    tracked = λ n c. by n (take_cases work at_ n lt c);
    keeps = λ n c. in_more n (so_far.keeps n c);
    held = λ n c. goes n (Contains-push_cases holds (get_or work at_ 0) n (subst (λ (xs : List ℕ). Contains xs n) e c));
  }
    where
      in_more : (n : ℕ) → Contains holds n → Contains more n
      in_more n c = subst (λ (xs : List ℕ). Contains xs n) (sym e) (Contains-append_left holds (get_or work at_ 0 ∷ []) n c)

      old_one : (n : ℕ) → IsTracked nodes mid n ⊎ Contains holds n → IsTracked nodes mid n ⊎ Contains more n
      old_one n (inl s) = inl s
      old_one n (inr h) = inr (in_more n h)

      by : (n : ℕ) → Contains (take at_ work) n ⊎ (get_or work at_ 0 ≡ n) → IsTracked nodes mid n ⊎ Contains more n
      by n (inl c) = old_one n (so_far.tracked n c)
      by n (inr f) = inr (subst (λ (xs : List ℕ). Contains xs n) (sym e) (subst (λ (v : ℕ). Contains (holds ++ get_or work at_ 0 ∷ []) v) f (Contains-push holds (get_or work at_ 0))))

      goes : (n : ℕ) → Contains holds n ⊎ (get_or work at_ 0 ≡ n) → Contains first n ⊎ (Contains (take (at_ + 1) work) n × (IsOutsideAt nodes fixed n → ⊥))
      goes n (inl c) = elim (so_far.held n c) [ inl d ↦ inl d | inr d ↦ inr (take_keeps work at_ n lt d.0, d.1) ]
      goes n (inr f) = inr (subst (λ (v : ℕ). Contains (take (at_ + 1) work) v) f (take_new work at_ lt), subst (λ (v : ℕ). IsOutsideAt nodes fixed v → ⊥) f inside)

-- ---- the passes

found_still : (nodes : List Node) (i : Index) (w : List ℕ) (n : ℕ) → IsFound nodes i n → IsFound nodes (record i { waiting = w }) n
found_still nodes i w n f = record { node = f.node; e = f.e; is = f.is; finds = f.finds; one = f.one; noted = f.noted }

-- one pass more
pub closing_on : (nodes : List Node) (fixed : List ℕ) (old mid new : Index) (holds more : List ℕ) (before between after : List Join) → IsClosing nodes fixed old mid holds before between
    → IsPass nodes fixed mid.waiting (record mid { waiting = [] }) new between after holds more → IsClosing nodes fixed old new more before after
closing_on nodes fixed old mid new holds more before between after c p =
    let a = p.advances in
    record {
      index = a.index;
      coarser = λ u v lu lv e. a.coarser u v lu lv (c.coarser u v lu lv e);
      sound = λ u v lu lv e. closest_over nodes fixed (AreOne mid.parts.labels) (AreOne old.parts.labels) c.sound u v (a.sound u v lu lv e);
      more = c.more ++ a.more;
      joins = a.joins ∙ ap (λ (xs : List Join). xs ++ a.more) c.joins ∙ append_assoc before c.more a.more;
      of_kids = of_kids_more nodes fixed before c.more a.more c.of_kids (subst (λ (xs : List Join). AreOfKids nodes fixed xs a.more) c.joins a.of_kids);
      tracked = λ m lt. by m lt (c.tracked m lt);
      held = λ m h. goes m (p.held m h);
    }
  where
    by : (m : ℕ) → m < length nodes → IsTracked nodes mid m ⊎ Contains holds m → IsTracked nodes new m ⊎ Contains more m
    by m lt (inl (inl w)) = p.tracked m w
    by m lt (inl (inr f)) = inl (p.advances.tracked m lt (inr (found_still nodes mid [] m f)))
    by m lt (inr h) = inr (p.keeps m h)

    goes : (m : ℕ) → Contains holds m ⊎ (Contains mid.waiting m × (IsOutsideAt nodes fixed m → ⊥)) → (m < length nodes) × (IsOutsideAt nodes fixed m → ⊥)
    goes m (inl h) = c.held m h
    goes m (inr w) = (c.index.waiting_in m w.0, w.1)

pub closing_none : (nodes : List Node) (fixed : List ℕ) (i : Index) (joins : List Join) → IsIndex nodes i → ((n : ℕ) → n < length nodes → IsTracked nodes i n) → IsClosing nodes fixed i i [] joins joins
closing_none nodes fixed i joins index tracked = record {
  index = index;
  coarser = λ a b la lb e. e;
  sound = λ a b la lb e. Closest.joined a b la lb e;
  more = [];
  joins = sym (append-nil joins);
  of_kids = AreOfKids.none joins;
  tracked = λ m lt. inl (tracked m lt);
  held = λ m c. absurd (none_in m c);
}

-- a pass lowers the sum of the numbers, or leaves no node that waits
pub pass_lowers : (nodes : List Node) (fixed : List ℕ) (mid new : Index) (between after : List Join) → (mid.waiting ≢ []) → Advances nodes fixed (record mid { waiting = [] }) new between after
    → total new.parts.numbers + waits new.waiting < total mid.parts.numbers + waits mid.waiting
pass_lowers nodes fixed mid new between after some a = by a.less
  where
    waits_some : (ws : List ℕ) → (ws ≢ []) → waits ws ≡ 1
    waits_some [] h = absurd (h refl)
    waits_some (w ∷ ws) h = refl

    at_most : (ws : List ℕ) → waits ws ≤ 1
    at_most [] = omega arith
    at_most (w ∷ ws) = omega arith

    by : (total new.parts.numbers < total mid.parts.numbers) ⊎ ((new.parts ≡ mid.parts) × (new.waiting ≡ [])) → total new.parts.numbers + waits new.waiting < total mid.parts.numbers + waits mid.waiting
    by (inl l) = let e = waits_some mid.waiting some in let m = at_most new.waiting in omega arith
    by (inr s) =
        let e = waits_some mid.waiting some in let f : total new.parts.numbers ≡ total mid.parts.numbers = ap (λ (x : Parts). total x.numbers) s.0 in let g : waits new.waiting ≡ 0 = ap waits s.1 in omega arith

-- ---- the end

-- where no node waits, all is joined that is to be joined
pub closing_closed : (nodes : List Node) (fixed : List ℕ) (old new : Index) (holds : List ℕ) (before after : List Join) → new.waiting ≡ [] → IsClosing nodes fixed old new holds before after
    → Closed nodes fixed old (record new { waiting = holds }) before after
closing_closed nodes fixed old new holds before after empty c = record {
  index = record {
    long = c.index.long;
    parts = c.index.parts;
    kids = c.index.kids;
    parents_long = c.index.parents_long;
    parents = c.index.parents;
    parents_in = c.index.parents_in;
    numbers_long = c.index.numbers_long;
    numbered = c.index.numbered;
    shared = c.index.shared;
    own = c.index.own;
    waiting_in = λ n h. (c.held n h).0;
    by_own_in = c.index.by_own_in;
  };
  tracked = λ m lt. tracked m (c.tracked m lt);
  sound = c.sound;
  full = full;
  more = c.more;
  joins = c.joins;
  of_kids = c.of_kids;
}
  where
    tracked : (m : ℕ) → IsTracked nodes new m ⊎ Contains holds m → IsTracked nodes (record new { waiting = holds }) m
    tracked m (inl (inl w)) = absurd (none_in m (subst (λ (xs : List ℕ). Contains xs m) empty w))
    tracked m (inl (inr f)) = inr (found_still nodes new holds m f)
    tracked m (inr h) = inl h

    outside_found : (m : ℕ) (node : Node) → slice_get nodes m ≡ Some node → IsOutside fixed node.op → IsTracked nodes new m ⊎ Contains holds m → IsFound nodes new m
    outside_found m node is out (inl (inl w)) = absurd (none_in m (subst (λ (xs : List ℕ). Contains xs m) empty w))
    outside_found m node is out (inl (inr f)) = f
    outside_found m node is out (inr h) = absurd ((c.held m h).1 (λ other is'. subst (λ (x : Node). IsOutside fixed x.op) (same_Some node other (sym is ∙ is')) out))

    kids_one : (a b : ℕ) (o : Op) (ks ls : List ℕ) → Is nodes a o ks → Is nodes b o ls → IsOutside fixed o → labels_of new.parts.labels ks ≡ labels_of new.parts.labels ls → AreOne new.parts.labels a b
    kids_one a b o ks ls p q out e =
        let f = outside_found a (node_of o ks) p out (c.tracked a (slice_get_within nodes a (node_of o ks) p)) in
        let g = outside_found b (node_of o ls) q out (c.tracked b (slice_get_within nodes b (node_of o ls) q)) in
        let ff = ap (λ (x : Node). found_by new (key_of new.parts.labels x)) (same_Some f.node (node_of o ks) (sym f.is ∙ p)) in
        let gg = ap (λ (x : Node). found_by new (key_of new.parts.labels x)) (same_Some g.node (node_of o ls) (sym g.is ∙ q)) in
        let one : f.e ≡ g.e = same_Some f.e g.e (sym f.finds ∙ ff ∙ ap (λ (xs : List ℕ). found_by new (node_of o xs)) e ∙ sym gg ∙ g.finds) in
        sym f.one ∙ ap (at new.parts.labels) one ∙ g.one

    labels_same : (ks ls : List ℕ) → length ks ≡ length ls → ((i k l : ℕ) → slice_get ks i ≡ Some k → slice_get ls i ≡ Some l → AreOne new.parts.labels k l) → labels_of new.parts.labels ks ≡ labels_of new.parts.labels ls
    labels_same [] [] long each = refl
    labels_same [] (l ∷ ls) long each = absurd (omega arith)
    labels_same (k ∷ ks) [] long each = absurd (omega arith)
    labels_same (k ∷ ks) (l ∷ ls) long each = let here = each 0 k l refl refl in let rest = labels_same ks ls (omega arith) (λ i x y e f. each (suc i) x y e f) in λ i. here i ∷ rest i

    full : (a b : ℕ) → Closest nodes fixed (AreOne old.parts.labels) a b → AreOne new.parts.labels a b
    full a b (Closest.joined _ _ la lb e) = c.coarser a b la lb e
    full a b (Closest.same _ lt) = refl
    full a b (Closest.flip _ _ h) = sym (full b a h)
    full a b (Closest.chain _ m _ h k) = full a m h ∙ full m b k
    full a b (Closest.kids _ _ o ks ls p q out long each) = kids_one a b o ks ls p q out (labels_same ks ls long (λ i k l e f. full k l (each i k l e f)))

-- ---- whether a list is empty

pub empty_of : (xs : List ℕ) (n : ℕ) → n ≡ length xs → (n == 0) ≡ true → xs ≡ []
empty_of [] n e h = refl
empty_of (x ∷ xs) n e h = absurd (grind (arith, nat_tests))

pub some_of : (xs : List ℕ) (n : ℕ) → n ≡ length xs → (n == 0) ≡ false → xs ≢ []
some_of xs n e h f = let g : n ≡ 0 = e ∙ ap length f in grind (arith, nat_tests)
