-- The walk, block by block.
use Rattle.std.proofs.Common.{◌≡◌, ◌≢◌, ℕ, zero, suc, ◌+◌, ◌<◌, ◌≤◌, Bool, true, false, List, ◌++◌, length, take, get_or, set, replicate, Some, slice_get, ◌⊎◌, ⊎_elim, refl, sym, ap, ◌∙◌, subst, subst₂, arith, append-nil}
use Rattle.pv_decide.proofs.Words.{Result, Ok, Err, IfOk, slice_index, slice_get-get_or, slice_get_within, get_or-set_same, get_or-set_other, Heads, Flow, Values, OfToken, first_of_region, first_loops, tree_of, Memory, Site, Whole, Loop, TreeNode, AreInRange, AreOrdered, place_of, IsScope, first_of, loops_of, Inside, at_dead, AreSound, HasNothing, PlaceFits, ArePlaces, IsPlaced, AreAhead, IsWalk, Follows, IsPlace, target_of, leaves_of, tests_of, dead_of, HasTrees, Gives}
use Rattle.pv_decide.specs.declared.aim.Scope as scope
use Rattle.pv_decide.specs.declared.tree.Target as aim
use Rattle.pv_decide.specs.declared.tree.Target.TheVariants as target
use Rattle.pv_decide.specs.declared.tree.TreeNode.TheVariants as node
use Rattle.pv_decide.proofs.Cut.{cut_last}
use Rattle.pv_decide.proofs.Folding.{grows_refl, folds_grow}
use Rattle.pv_decide.proofs.Places.{place_low, place_is, at_place, same_place}
use Rattle.pv_decide.proofs.Exits.{is_inside}
use Rattle.pv_decide.proofs.Dead.{dead_tree}

pub root_place : (places : List ℕ) (n m k : ℕ) → n ≡ m → k ≡ get_or places n k → n < length places → slice_index places m ≡ k
root_place places n m k e d low =
    let a : slice_get places n ≡ Some (get_or places n k) = slice_get-get_or places n k low in
    let b : slice_get places n ≡ Some (get_or places n 0) = slice_get-get_or places n 0 low in
    let s : get_or places n 0 ≡ get_or places n k = cc in
    ap (λ (i : ℕ). slice_index places i) (sym e) ∙ s ∙ sym d

pub first_low : (sites : List Site) (r : scope.Scope) → AreInRange sites → IsScope sites r → first_of r < length sites
first_low sites Whole ranges is = ranges.some
first_low sites (Loop h) ranges is = is

is_first : (f : Flow) (r : scope.Scope) → ((h : ℕ) → r ≡ Loop h → Heads (f.around h) h) → f.entry ≡ 0 → (first_of_region f (loops_of f r) ≡ first_of r) × (f.around (first_of r) ≡ first_loops f (loops_of f r) ++ loops_of f r)
is_first f Whole n e = (e, ap f.around (sym e) ∙ sym (append-nil (f.around f.entry)))
is_first f (Loop h) n e = let a = n h refl in
    (subst (λ (R : List ℕ). first_of_region f R ≡ h) (sym a.1) refl, subst (λ (R : List ℕ). f.around h ≡ first_loops f R ++ R) (sym a.1) a.1)

module _ (sites : List Site) (order : List ℕ) (r : scope.Scope) (t : aim.Target) (ahead : List Bool) where
  -- the blocks of the region from place k of the order on have their places
  abbrev pub HasPlaces : List ℕ → List TreeNode → ℕ → Type 0
  HasPlaces places nodes k = (f : Flow) (rank : ℕ → ℕ) → IsPlaced f rank sites r t → AreAhead f sites r t ahead → (v : Values) (s : ℕ) → HasTrees f v (loops_of f r) (target_of t) s
      → (m : ℕ) (F : List ℕ) → k ≤ place_of order m → m < length sites → f.around m ≡ F ++ loops_of f r → Gives f v r t s nodes (slice_index places m) (v.tree (loops_of f r) (target_of t) s F m)

module _ (sites : List Site) (r : scope.Scope) (t : aim.Target) (ahead : List Bool) (ranges : AreInRange sites) where
  -- the place of a dead block
  pub place_dead : (places : List ℕ) (old : List TreeNode) (b : ℕ) → b < length sites → t ≢ target.Leave → slice_get ahead b ≡ Some false → slice_get old 1 ≡ Some node.Dead → IsPlace sites r t ahead places old old b 1
  place_dead places old b low ne un d = (
    grows_refl old,
    λ f rank v order s F w al.
        at_dead 1 (v.tree (loops_of f r) (target_of t) s F b) d (dead_tree f rank sites r t w.placed ranges order w.ordered v s w.trees ne b F low w.around ((al b low).1 un)),
  )

  -- .. and of another
  pub place_alive : (places : List ℕ) (old new : List TreeNode) (b n : ℕ) → b < length sites → (t ≡ target.Leave) ⊎ (slice_get ahead b ≡ Some true) → Follows sites r t places old new b n → IsPlace sites r t ahead places old new b n
  place_alive places old new b n low yes' fo = (fo.0, λ f rank v order s F w al. fo.1 f rank v order s F w (⊎_elim (λ e o. absurd (none e s o)) (λ e o. (al b low).0 e) yes'))
    where
      none : t ≡ target.Leave → (s : ℕ) → OfToken (target_of t) s → ⊥
      none e s o = let z : OfToken (target_of target.Leave) s = subst (λ (t : aim.Target). OfToken (target_of t) s) e o in z

  pub place_alive_ok : (places : List ℕ) (old new : List TreeNode) (b : ℕ) (res : Result ℕ Memory) → b < length sites → (t ≡ target.Leave) ⊎ (slice_get ahead b ≡ Some true) → IfOk res (λ n. Follows sites r t places old new b n) → IfOk res (λ n. IsPlace sites r t ahead places old new b n)
  place_alive_ok places old new b (Ok n) low yes' fo = place_alive places old new b n low yes' fo
  place_alive_ok places old new b (Err e) low yes' fo = fo

  module _ (order : List ℕ) (ordered : AreOrdered sites order) where
    pub no_places : (places : List ℕ) (nodes : List TreeNode) (k : ℕ) → length order ≤ k → HasPlaces sites order r t ahead places nodes k
    no_places places nodes k l f rank pl al v s trees m F o less a = absurd (let z = place_low sites order ordered m less in omega arith)

    -- a block that isn't in the region
    pub places_outside : (places : List ℕ) (nodes : List TreeNode) (k j c : ℕ) → k ≡ suc j → slice_get order j ≡ Some c → (Inside sites r c → ⊥) → HasPlaces sites order r t ahead places nodes k → HasPlaces sites order r t ahead places nodes j
    places_outside places nodes k j c e at un h f rank pl al v s trees m F o less a = ⊎_elim
        (λ z. absurd (un (subst (Inside sites r) (here z) (is_inside f rank sites r t pl m F less a))))
        (λ z. h f rank pl al v s trees m F z less a)
        (let y : (place_of order m ≡ j) ⊎ (k ≤ place_of order m) = grind arith in y)
      where
        here : place_of order m ≡ j → m ≡ c
        here z = let p : slice_get order j ≡ Some m = subst (λ (i : ℕ). slice_get order i ≡ Some m) z (at_place sites order ordered m less) in cc

    -- a block that is
    pub places_more : (places : List ℕ) (old new : List TreeNode) (k j c n : ℕ) → k ≡ suc j → slice_get order j ≡ Some c → c < length places → IsPlace sites r t ahead places old new c n → HasPlaces sites order r t ahead places old k
        → HasPlaces sites order r t ahead (set places c n) new j
    places_more places old new k j c n e at low p h f rank pl al v s trees m F o less a = ⊎_elim
        (λ z. here z)
        (λ z. there z (later z))
        (let y : (m ≡ c) ⊎ (m ≢ c) = grind arith in y)
      where
        grow : (i : ℕ) (q : _) → Gives f v r t s old i q → Gives f v r t s new i q
        grow i q d = folds_grow (leaves_of f v (loops_of f r) (target_of t) s) (tests_of f v (loops_of f r)) (dead_of (target_of t) s) old new p.0 i q d

        place : place_of order c ≡ j
        place = place_is sites order ordered j c at

        later : m ≢ c → k ≤ place_of order m
        later ne =
            let same : place_of order m ≢ j = λ z. ne (same_place sites order ordered m c less (ordered.blocks j c at) (z ∙ sym place)) in
            let y : (place_of order m ≡ j) ⊎ (k ≤ place_of order m) = grind arith in
            ⊎_elim (λ z. absurd (same z)) (λ z. z) y

        there : m ≢ c → k ≤ place_of order m → Gives f v r t s new (slice_index (set places c n) m) (v.tree (loops_of f r) (target_of t) s F m)
        there ne z = subst (λ (i : ℕ). Gives f v r t s new i (v.tree (loops_of f r) (target_of t) s F m)) (sym (get_or-set_other places c m n 0 ne)) (grow (slice_index places m) (v.tree (loops_of f r) (target_of t) s F m) (h f rank pl al v s trees m F z less a))

        here : m ≡ c → Gives f v r t s new (slice_index (set places c n) m) (v.tree (loops_of f r) (target_of t) s F m)
        here z = subst₂ (λ (i m : ℕ). Gives f v r t s new i (v.tree (loops_of f r) (target_of t) s F m)) (sym (ap (slice_index (set places c n)) z ∙ get_or-set_same places c n 0 low)) (sym z)
            (p.1 f rank v order s F (record { placed = pl; ordered = ordered; trees = trees; done = λ i G y l a. h f rank pl al v s trees i G (omega (arith, place, y, e)) l a; around = ap f.around (sym z) ∙ a }) al)

    -- the root
    pub rooted : (places : List ℕ) (nodes : List TreeNode) → IsScope sites r → HasPlaces sites order r t ahead places nodes 0 → (f : Flow) (rank : ℕ → ℕ) → IsPlaced f rank sites r t → AreAhead f sites r t ahead → (v : Values) (s : ℕ) → HasTrees f v (loops_of f r) (target_of t) s
        → Gives f v r t s nodes (slice_index places (first_of r)) (tree_of f v (loops_of f r) (target_of t) s)
    rooted places nodes is h f rank pl al v s trees =
        let z = is_first f r pl.region pl.under.entry in
        subst (λ (m : ℕ). Gives f v r t s nodes (slice_index places (first_of r)) (v.tree (loops_of f r) (target_of t) s (first_loops f (loops_of f r)) m)) (sym z.0)
        (h f rank pl al v s trees (first_of r) (first_loops f (loops_of f r)) (omega arith) (first_low sites r ranges is) z.1)

    -- .. is the last node that is kept
    pub walked : (places : List ℕ) (nodes : List TreeNode) → IsScope sites r → AreSound sites r t nodes → slice_index places (first_of r) < length nodes → HasPlaces sites order r t ahead places nodes 0 → IsWalk sites r t ahead (take (slice_index places (first_of r) + 1) nodes)
    walked places nodes is sound low h f rank pl al v s trees =
        cut_last sites r t (leaves_of f v (loops_of f r) (target_of t) s) (tests_of f v (loops_of f r)) (dead_of (target_of t) s) nodes (slice_index places (first_of r)) (tree_of f v (loops_of f r) (target_of t) s) sound low (rooted places nodes is h f rank pl al v s trees)

-- the start of a walk
pub first_places : (sites : List Site) (t : aim.Target) (nodes : List TreeNode) (places : List ℕ) (n : ℕ) → HasNothing nodes → places ≡ replicate n 0 → ArePlaces sites t nodes places
first_places sites t nodes places n h e m less = subst (PlaceFits sites t nodes m) (sym (ap (λ (xs : List ℕ). slice_index xs m) e ∙ zeros n m)) (slice_get_within nodes 0 node.Nothing h, λ k order q low ordered o. omega arith)
  where
    zeros : (n m : ℕ) → slice_index (replicate n 0) m ≡ 0
    zeros zero m = refl
    zeros (suc n) zero = refl
    zeros (suc n) (suc m) = zeros n m
