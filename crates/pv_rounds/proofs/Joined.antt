-- The joins of a round, one after another.
use Rattle.std.specs.Prelude.{◌≡◌, ℕ, ◌<◌, List, [], ◌∷◌, ◌++◌, map, length, refl}
use Rattle.std.proofs.Common.{inl, inr, sym, ap, ◌∙◌, subst, arith, get_or}
use Rattle.std.proofs.lemmas.List.{map-append, append-nil}
use Rattle.pv_graph.specs.Walks.{In}
use Rattle.pv_graph.proofs.Cited.{in_at, in_cases, in_front, in_last}
use Rattle.pv_classes.specs.declared.join.Join.{Join}
use Rattle.pv_classes.specs.declared.join.Reason.TheVariants as reason
use Rattle.pv_classes.specs.Partition.{IsThrough}
use Rattle.pv_classes.specs.Calls.{Classes, IsClasses, Joins}
use Rattle.pv_heights.specs.Searches.{OneClass, Joining}
use Rattle.pv_rounds.specs.declared.owed.Owed.{Owed}
use Rattle.pv_rounds.specs.Joining.{pair_of, pairs_of, join_of, AreWithin, Linked, given, flip, chain, JoinsAll}
use Rattle.pv_rounds.proofs.Numbers.{one_of, of_one}

pub joins_none : (c : Classes) → IsClasses c → JoinsAll c c []
joins_none c is = record {
  long = refl;
  joined = λ a b j. elim j [ inl o ↦ o | inr i ↦ absurd i ];
  only = λ a b o. given a b (inl o);
  joins = sym (append-nil c.joins);
  blocks = refl;
  knows = λ nodes k. k;
  classes = is;
}

-- the sides of the owed join at a place have numbers
pub within_at : (n m : ℕ) (owed : List Owed) (i : ℕ) (o : Owed) → i < length owed → o ≡ get_or owed i o → m ≡ n → AreWithin n owed → (o.left < m) × (o.right < m)
within_at n m owed i o lt e same all =
    let w = subst (λ (x : Owed). (x.left < n) × (x.right < n)) (sym e) (all (get_or owed i o) (in_at owed i o lt)) in
    (omega (arith, w.0, same), omega (arith, w.1, same))

-- more pairs link more
linked_more : (numbers : List ℕ) (few many : List (ℕ × ℕ)) → ((p : ℕ × ℕ) → In few p → In many p) → (a b : ℕ) → Linked numbers few a b → Linked numbers many a b
linked_more numbers few many up a b (given _ _ (inl o)) = given a b (inl o)
linked_more numbers few many up a b (given _ _ (inr i)) = given a b (inr (up (a, b) i))
linked_more numbers few many up a b (flip _ _ l) = flip a b (linked_more numbers few many up b a l)
linked_more numbers few many up a b (chain _ m _ l r) = chain a m b (linked_more numbers few many up a m l) (linked_more numbers few many up m b r)

module _ (old mid new : Classes) (owed : List Owed) (o : Owed) (all : JoinsAll old mid owed) (one : Joins mid new o.left o.right (reason.Axiom o.axiom o.subst.items)) where
  abbrev more : List Owed
  more = owed ++ o ∷ []

  pairs_more : pairs_of more ≡ pairs_of owed ++ pair_of o ∷ []
  pairs_more = map-append pair_of owed (o ∷ [])

  stays : (a b : ℕ) → OneClass mid.numbers a b → OneClass new.numbers a b
  stays a b c =
      let x = one_of mid.numbers a b c in
      let l = one.long in
      of_one new.numbers a b (omega (arith, x.0, l)) (omega (arith, x.1, l)) (one.coarser a b x.0 x.1 x.2)

  module _ (left : o.left < length mid.numbers) (right : o.right < length mid.numbers) where
    joined : (a b : ℕ) → Joining old.numbers (pairs_of more) a b → OneClass new.numbers a b
    joined a b (inl c) = stays a b (all.joined a b (inl c))
    joined a b (inr i) = elim (in_cases (pairs_of owed) (pair_of o) (a, b) (subst (λ (ps : List (ℕ × ℕ)). In ps (a, b)) pairs_more i)) [
      | inl before ↦ stays a b (all.joined a b (inr before))
      | inr e ↦ here e
    ]
      where
        here : pair_of o ≡ (a, b) → OneClass new.numbers a b
        here e = subst (λ (p : ℕ × ℕ). OneClass new.numbers p.0 p.1) e (let l = one.long in of_one new.numbers o.left o.right (omega (arith, left, l)) (omega (arith, right, l)) one.one)

    link : (a b : ℕ) → OneClass mid.numbers a b → Linked old.numbers (pairs_of more) a b
    link a b c = linked_more old.numbers (pairs_of owed) (pairs_of more) (λ p i. subst (λ (ps : List (ℕ × ℕ)). In ps p) (sym pairs_more) (in_front (pairs_of owed) (pair_of o) p i)) a b (all.only a b c)

    pair : Linked old.numbers (pairs_of more) o.left o.right
    pair = given o.left o.right (inr (subst (λ (ps : List (ℕ × ℕ)). In ps (pair_of o)) (sym pairs_more) (in_last (pairs_of owed) (pair_of o))))

    through : (a b : ℕ) → a < length mid.numbers → b < length mid.numbers → IsThrough mid.numbers o.left o.right a b → Linked old.numbers (pairs_of more) a b
    through a b la lb (inl c) = link a b (of_one mid.numbers a b la lb c)
    through a b la lb (inr (inl (c, d))) = chain a o.left b (link a o.left (of_one mid.numbers a o.left la left c)) (chain o.left o.right b pair (link o.right b (of_one mid.numbers o.right b right lb d)))
    through a b la lb (inr (inr (c, d))) = chain a o.right b (link a o.right (of_one mid.numbers a o.right la right c)) (chain o.right o.left b (flip o.right o.left pair) (link o.left b (of_one mid.numbers o.left b left lb d)))

    only : (a b : ℕ) → OneClass new.numbers a b → Linked old.numbers (pairs_of more) a b
    only a b c =
        let x = one_of new.numbers a b c in
        let l = one.long in
        let la : a < length mid.numbers = omega (arith, x.0, l) in
        let lb : b < length mid.numbers = omega (arith, x.1, l) in
        through a b la lb (one.only a b la lb x.2)

    pub joins_more : JoinsAll old new more
    joins_more = record {
      long = one.long ∙ all.long;
      joined = joined;
      only = only;
      joins = one.joins ∙ ap (λ (js : List Join). js ++ join_of o ∷ []) all.joins ∙ append_both old.joins (map join_of owed) (join_of o ∷ []) ∙ ap (λ (js : List Join). old.joins ++ js) (sym (map-append join_of owed (o ∷ [])));
      blocks = one.blocks ∙ all.blocks;
      knows = λ nodes k. one.knows nodes (all.knows nodes k);
      classes = one.classes;
    }
      where
        append_both : (xs ys zs : List Join) → (xs ++ ys) ++ zs ≡ xs ++ (ys ++ zs)
        append_both [] ys zs = refl
        append_both (x ∷ xs) ys zs = ap (λ (js : List Join). x ∷ js) (append_both xs ys zs)
