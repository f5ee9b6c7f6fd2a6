-- What calls do, as callers see it.
use Rattle.std.proofs.Common.{◌≡◌, ◌⊎◌, ◌↔◌, inl, inr, ℕ, ◌<◌, List, [], ◌∷◌, ◌++◌, length, Option, Some, None, refl, sym, ◌∙◌, ap, subst}
use Rattle.std.specs.List.{Contains}
use Rattle.std.proofs.lemmas.Option.{none-some}
use Rattle.std.proofs.lemmas.List.Elements.{Contains-append_left, Contains-append_right, Contains-append_cases}
use Rattle.pv_graph.specs.declared.node.Node.{Node}
use Rattle.pv_classes.specs.declared.join.Join.{Join}
use Rattle.pv_classes.specs.declared.join.Reason.{Reason}
use Rattle.pv_classes.specs.Blocks.{Block}
use Rattle.pv_classes.specs.Partition.{AreOne, Parts, IsPartition, IsThrough}
use Rattle.pv_classes.specs.Linked.{Linked}
use Rattle.pv_classes.specs.Closest.{Closest}
use Rattle.pv_classes.specs.Index.{Index, found_in, first_of, key_of, IsIndex, IsTracked, AreJoined, JoinsNodes, IsCopy}
use Rattle.pv_classes.specs.Closing.{Closed}
use Rattle.pv_classes.specs.Learning.{Learns}
use Rattle.pv_classes.specs.Calls.{classes_of, IsClasses, Grows, Knows, Joins, Closes, Copies, AddsBlock}
use Rattle.pv_classes.proofs.Elements.{none_in}
use Rattle.pv_classes.proofs.Links.{closest_over}
use Rattle.pv_classes.proofs.Advancing.{joined_index, tracked_after}

abbrev in_labels : (p : Parts) → IsPartition p → (k : ℕ) → k < length p.numbers → k < length p.labels
in_labels p h k lt = subst (λ (n : ℕ). k < n) h.long lt

abbrev in_numbers : (p : Parts) → IsPartition p → (k : ℕ) → k < length p.labels → k < length p.numbers
in_numbers p h k lt = subst (λ (n : ℕ). k < n) (sym h.long) lt

pub classes_are : (i : Index) (joins : List Join) (blocks : List Block) → AreJoined i.parts joins → IsClasses (classes_of i joins blocks)
classes_are i joins blocks h =
    let p = i.parts in
    let q = h.parts in
    record {
      few = subst (λ (n : ℕ). n < 4294967296) (sym q.long) q.few;
      low = λ k lt. q.low k (in_labels p q k lt);
      least = λ k lt. q.least k (in_labels p q k lt);
      within = λ j c. let w = h.within j c in (in_numbers p q j.first w.0, in_numbers p q j.second w.1);
      linked = λ a b la lb.
          let la' = in_labels p q a la in
          let lb' = in_labels p q b lb in (
            (λ e. subst (λ (n : ℕ). Linked n joins a b) (sym q.long) ((h.linked a b la' lb').0 ((q.one a b la' lb').1 e))),
            (λ l. (q.one a b la' lb').0 ((h.linked a b la' lb').1 (subst (λ (n : ℕ). Linked n joins a b) q.long l))),
          );
    }

-- ---- join

pub joins_are : (old new : Index) (before after : List Join) (blocks : List Block) (a b : ℕ) (why : Reason) → AreJoined old.parts before → AreJoined new.parts after
    → a < length old.parts.numbers → b < length old.parts.numbers → JoinsNodes old new before after (record { first = a; second = b; why = why })
    → Joins (classes_of old before blocks) (classes_of new after blocks) a b why
joins_are old new before after blocks a b why h k la lb j =
    let p = old.parts in
    let q = new.parts in
    let m = j.merges in
    record {
      long = k.parts.long ∙ m.long ∙ sym h.parts.long;
      coarser = λ u v lu lv e.
          let lu' = in_labels p h.parts u lu in
          let lv' = in_labels p h.parts v lv in
          (k.parts.one u v (to_new u lu') (to_new v lv')).0 (m.coarser u v lu' lv' ((h.parts.one u v lu' lv').1 e));
      one = (k.parts.one a b (to_new a (in_labels p h.parts a la)) (to_new b (in_labels p h.parts b lb))).0 m.one;
      only = λ u v lu lv e.
          let lu' = in_labels p h.parts u lu in
          let lv' = in_labels p h.parts v lv in
          through u v lu' lv' (m.only u v lu' lv' ((k.parts.one u v (to_new u lu') (to_new v lv')).1 e));
      joins = j.joins;
      blocks = refl;
      knows = λ nodes s. knows nodes s;
      classes = classes_are new after blocks k;
    }
  where
    to_new : (x : ℕ) → x < length old.parts.labels → x < length new.parts.labels
    to_new x lt = subst (λ (n : ℕ). x < n) (sym j.merges.long) lt

    through : (u v : ℕ) → u < length old.parts.labels → v < length old.parts.labels → IsThrough old.parts.labels a b u v → IsThrough old.parts.numbers a b u v
    through u v lu lv (inl e) = inl ((h.parts.one u v lu lv).0 e)
    through u v lu lv (inr (inl e)) = inr (inl ((h.parts.one u a lu (in_labels old.parts h.parts a la)).0 e.0, (h.parts.one b v (in_labels old.parts h.parts b lb) lv).0 e.1))
    through u v lu lv (inr (inr e)) = inr (inr ((h.parts.one u b lu (in_labels old.parts h.parts b lb)).0 e.0, (h.parts.one a v (in_labels old.parts h.parts a la) lv).0 e.1))

    knows : (nodes : List Node) → Knows nodes (classes_of old before blocks) → Knows nodes (classes_of new after blocks)
    knows nodes s = record {
      numbers = refl;
      long = k.parts.long ∙ j.merges.long ∙ s.index.long;
      index = subst (λ (i : Index). IsIndex nodes i) (sym j.rest) (joined_index nodes old s.index new.parts new.waiting (record { first = a; second = b; why = why }) j.moved j.merges j.woken);
      tracked = λ n lt. subst (λ (i : Index). IsTracked nodes i n) (sym j.rest)
          (tracked_after nodes old s.index new.parts new.waiting (record { first = a; second = b; why = why }) j.moved j.merges j.woken n lt (s.tracked n lt));
    }

-- ---- close

pub closes_are : (nodes : List Node) (fixed : List ℕ) (old new : Index) (before after : List Join) (blocks : List Block) → Knows nodes (classes_of old before blocks) → AreJoined new.parts after
    → Closed nodes fixed old new before after → Closes nodes fixed (classes_of old before blocks) (classes_of new after blocks)
closes_are nodes fixed old new before after blocks s k c = record {
  long = k.parts.long ∙ c.index.long ∙ sym s.long;
  sound = λ a b la lb e. closest_over nodes fixed (AreOne old.parts.labels) (AreOne old.parts.numbers)
      (λ u v lu lv r. Closest.joined u v lu lv ((s.index.parts.one u v (low u lu) (low v lv)).0 r)) a b (c.sound a b la lb ((k.parts.one a b (low' a la) (low' b lb)).1 e));
  full = λ a b la lb h. (k.parts.one a b (low' a la) (low' b lb)).0 (c.full a b (closest_over nodes fixed (AreOne old.parts.numbers) (AreOne old.parts.labels)
      (λ u v lu lv r. Closest.joined u v lu lv ((s.index.parts.one u v (low u lu) (low v lv)).1 r)) a b h));
  more = c.more;
  joins = c.joins;
  of_kids = c.of_kids;
  blocks = refl;
  knows = record { numbers = refl; long = k.parts.long ∙ c.index.long; index = c.index; tracked = c.tracked };
  classes = classes_are new after blocks k;
}
  where
    low : (u : ℕ) → u < length nodes → u < length old.parts.labels
    low u lt = subst (λ (n : ℕ). u < n) (sym s.index.long) lt

    low' : (u : ℕ) → u < length nodes → u < length new.parts.labels
    low' u lt = subst (λ (n : ℕ). u < n) (sym c.index.long) lt

-- ---- copy

pub copies : (old new : Index) (before : List Join) (blocks : List Block) → AreJoined old.parts before → IsCopy old new → Copies (classes_of old before blocks) (classes_of new before blocks)
copies old new before blocks h c = record {
  numbers = ap (λ (i : Index). i.parts.numbers) c.rest;
  joins = refl;
  blocks = refl;
  knows = knows;
  classes = classes_are new before blocks (subst (λ (i : Index). AreJoined i.parts before) (sym c.rest) h);
}
  where
    found_shared : (o f : Option ℕ) (e : ℕ) → o ≡ None → first_of o f ≡ Some e → f ≡ Some e
    found_shared None f e m g = g
    found_shared (Some x) f e m g = absurd (none-some x (sym m))

    tracked : (nodes : List Node) (n : ℕ) → IsTracked nodes old n → IsTracked nodes (record old { own = []; waiting = new.waiting; by_own = [] }) n
    tracked nodes n (inl w) = inl ((c.waits n).1 (inl w))
    tracked nodes n (inr f) = by f.noted
      where
        by : (found_in old.own (key_of old.parts.labels f.node) ≡ None) ⊎ Contains old.by_own n → IsTracked nodes (record old { own = []; waiting = new.waiting; by_own = [] }) n
        by (inl none) = inr (record {
          node = f.node;
          e = f.e;
          is = f.is;
          finds = found_shared (found_in old.own (key_of old.parts.labels f.node)) (found_in old.shared (key_of old.parts.labels f.node)) f.e none f.finds;
          one = f.one;
          noted = inl refl;
        })
        by (inr s) = inl ((c.waits n).1 (inr s))

    index : (nodes : List Node) → IsIndex nodes old → IsIndex nodes (record old { own = []; waiting = new.waiting; by_own = [] })
    index nodes s = record {
      long = s.long;
      parts = s.parts;
      kids = s.kids;
      parents_long = s.parents_long;
      parents = s.parents;
      parents_in = s.parents_in;
      numbers_long = s.numbers_long;
      numbered = s.numbered;
      shared = s.shared;
      own = λ key e g. absurd (none-some e g);
      waiting_in = λ n w. elim ((c.waits n).0 w) [ inl d ↦ s.waiting_in n d | inr d ↦ s.by_own_in n d ];
      by_own_in = λ n w. absurd (none_in n w);
    }

    knows : (nodes : List Node) → Knows nodes (classes_of old before blocks) → Knows nodes (classes_of new before blocks)
    knows nodes s = subst (λ (i : Index). Knows nodes (classes_of i before blocks)) (sym c.rest)
        (record { numbers = refl; long = s.long; index = index nodes s.index; tracked = λ n lt. tracked nodes n (s.tracked n lt) })

-- what waits in a copy
pub waits_both : (w s after : List ℕ) → after ≡ w ++ s → (n : ℕ) → Contains after n ↔ (Contains w n ⊎ Contains s n)
waits_both w s after e n = (
  (λ c. Contains-append_cases w s n (subst (λ (xs : List ℕ). Contains xs n) e c)),
  (λ d. subst (λ (xs : List ℕ). Contains xs n) (sym e) (elim d [ inl c ↦ Contains-append_left w s n c | inr c ↦ Contains-append_right w s n c ])),
)

-- ---- add_block

pub adds_block : (i : Index) (joins : List Join) (blocks more : List Block) (b : Block) (n : ℕ) → AreJoined i.parts joins → n ≡ length blocks → more ≡ blocks ++ b ∷ [] → AddsBlock (classes_of i joins blocks) (classes_of i joins more) b n
adds_block i joins blocks more b n h number added = record {
  number = number;
  blocks = added;
  numbers = refl;
  joins = refl;
  knows = λ nodes s. record { numbers = refl; long = s.long; index = s.index; tracked = s.tracked };
  classes = classes_are i joins more h;
}

-- ---- grow and new

pub grows_are : (nodes : List Node) (old new : Index) (joins : List Join) (blocks : List Block) → AreJoined new.parts joins → Learns nodes old new → Grows nodes (classes_of old joins blocks) (classes_of new joins blocks)
grows_are nodes old new joins blocks h l = record {
  long = h.parts.long ∙ l.more.long;
  kept = l.more.kept;
  own = l.more.own;
  joins = refl;
  blocks = refl;
  knows = record { numbers = refl; long = h.parts.long ∙ l.more.long; index = l.index; tracked = l.tracked };
  classes = classes_are new joins blocks h;
}
