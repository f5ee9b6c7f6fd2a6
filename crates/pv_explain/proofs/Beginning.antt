-- The pairs of an induction: what is stated of them outside its block, inside it, and after it.
use Rattle.std.specs.Prelude.{◌≡◌, ℕ, zero, suc, ◌+◌, ◌<◌, ◌≤◌, true, List, [], ◌∷◌, ◌++◌, length, Some, slice_get, take, Option}
use Rattle.std.specs.List.{AllZip, Contains}
use Rattle.std.proofs.Common.{inl, inr, refl, sym, ap, ◌∙◌, subst, arith, length-append}
use Rattle.std.proofs.Math.ListN.{get_or}
use Rattle.std.proofs.lemmas.List.{take_more}
use Rattle.std.proofs.lemmas.Bool.Decides.{nat_tests}
use Rattle.std.proofs.lemmas.Option.{same_Some, slice_get_within, slice_get-get_or, none-some}
use Rattle.pv_graph.specs.declared.node.Op.TheVariants as op
use Rattle.pv_graph.specs.declared.node.Node.{Node}
use Rattle.pv_graph.specs.Ops.{is_depth}
use Rattle.pv_graph.specs.Nodes.{node_of}
use Rattle.pv_graph.specs.Walks.{In}
use Rattle.pv_graph.proofs.Cited.{found, get_last, push_cases}
use Rattle.pv_steps.specs.declared.step.Fact.{Fact}
use Rattle.pv_steps.specs.declared.step.Reason.{Reason}
use Rattle.pv_steps.specs.declared.step.Reason.TheVariants.{Same}
use Rattle.pv_steps.specs.declared.step.Step.TheVariants.{Open, Close}
use Rattle.pv_steps.specs.Steps.{AreOpen, Loop, OpenBlock, blocks, outer_of, assumed_in, Shows}
use Rattle.pv_steps.specs.Right.{AreOfOneSort, ClosesPair, IsFresh, RightOver}
use Rattle.pv_axioms.specs.Entries.{ByAxioms}
use Rattle.pv_classes.specs.declared.join.Join.{Join}
use Rattle.pv_classes.specs.Blocks.{Block, depth_of, inner_of, joins_of, listed, pairs_of}
use Rattle.pv_classes.specs.Grounds.{Context, IsDeeper, IsStep, JoinsGround, BlockGround, depths}
use Rattle.pv_classes.specs.Sorts.{HaveOneSort, PairOneSort}
use Rattle.pv_classes.proofs.Elements.{contains_at, in_first, in_rest, zip_map}
use Rattle.pv_classes.proofs.Sorted.{pairs_sorts}
use Rattle.pv_writer.specs.Written.{Written, inside, AreCongruent, GoesOn, IsFact, IsLater, Pushed}
use Rattle.pv_writer.proofs.Pushing.{fact_goes, later_push, later_trans, shows_goes}
use Rattle.pv_explain.specs.declared.source.Source.{Source}
use Rattle.pv_explain.specs.declared.follow.Equal.{Equal}
use Rattle.pv_explain.specs.declared.follow.Line.{Line}
use Rattle.pv_explain.specs.declared.level.Level.{Level}
use Rattle.pv_explain.specs.declared.iteration.Unrolled.{Unrolled}
use Rattle.pv_explain.specs.declared.induction.Begun.{Begun}
use Rattle.pv_explain.specs.Copies.{IsCopied}
use Rattle.pv_explain.specs.Sections.{IsGiven}
use Rattle.pv_explain.specs.Lines.{IsSource, AreStated, GivesCopies, LinkedBy, sides}
use Rattle.pv_explain.specs.Levels.{GrowsAt, HaveLines, IsPlace, JoinsStand, ends_of}
use Rattle.pv_explain.specs.Iterations.{AreBegun, AreLinesOf, BlockStands, Ends, GoOn, IsBegun, IsInside, IsTheta, IsUnrolled, MayBegin, MayGoOn, Opens, both_copies, line_of}
use Rattle.pv_explain.proofs.Copying.{sort_of, source_later}
use Rattle.pv_explain.proofs.Linking.{at_index, linked_by}
use Rattle.pv_explain.proofs.Congruent.{level_goes}
use Rattle.pv_explain.specs.Named.{IsReady}
use Rattle.pv_explain.proofs.Naming.{inside_named, pair_named}
use Rattle.pv_explain.proofs.Following.{stated_goes}
use Rattle.pv_explain.proofs.Placing.{front_there, graph_sorts}
use Rattle.pv_explain.proofs.Inductions.{close_right, closed_pair, closes_blocks, opened_pair, opens_blocks}
use Rattle.pv_explain.proofs.Iterating.{kid_low, theta_same, unrolled_goes, unrolled_later}

-- ---- a pair, outside the block

pub begin_theta : (s : Source) (level : Level) (d : ℕ) (pair : ℕ × ℕ) → MayBegin s level d pair → IsTheta s.graph.now.nodes d pair.0 × IsTheta s.graph.now.nodes d pair.1
begin_theta s level d pair h = ((h.p, h.q, h.left), (h.r, h.s_, h.right))

-- the lines link the first kids
pub begin_linked : (old new : Written) (s : Source) (level : Level) (d z y : ℕ) (pair : ℕ × ℕ) (u v : Unrolled) → MayBegin s level d pair → IsUnrolled old s d z pair.0 u → IsUnrolled new s d y pair.1 v → LinkedBy (length s.graph.now.nodes) level u.first v.first
begin_linked old new s level d z y pair u v h left right =
    subst (λ (n : ℕ). LinkedBy (length s.graph.now.nodes) level n v.first) (theta_same s.graph.now.nodes pair.0 d h.p h.q u.first u.second h.left left.is).0
    (subst (λ (n : ℕ). LinkedBy (length s.graph.now.nodes) level h.p n) (theta_same s.graph.now.nodes pair.1 d h.r h.s_ v.first v.second h.right right.is).0 h.linked)

-- so both are congruent at iteration 0
pub congruent_starts : (w : Written) (s : Source) (d z x y : ℕ) (u v : Unrolled) (why : Reason) → IsUnrolled w s d z x u → IsUnrolled w s d z y v → GivesCopies w s.map.now why u.first v.first → IsFresh d (blocks (inside w)) → AreCongruent w u.start.right v.start.right (why ∷ Same ∷ [])
congruent_starts w s d z x y u v why left right gives fresh = record {
  o = op.Eval d;
  lefts = left.a ∷ z ∷ [];
  rights = right.a ∷ z ∷ [];
  left_is = left.start_.right;
  right_is = right.start_.right;
  kids = (gives left.a right.a left.first right.first, (refl, tt));
  fresh = λ e looks. subst (λ (n : ℕ). IsFresh n (blocks (inside w))) (same_Some d e looks) fresh;
}

pub fresh_goes : (old new : Written) (d : ℕ) → GoesOn old new → IsFresh d (blocks (inside old)) → IsFresh d (blocks (inside new))
fresh_goes old new d goes h = subst (λ (ps : List OpenBlock). IsFresh d (blocks ps)) (sym goes.blocks) h

pub begun_goes : (old new : Written) (s : Source) (d z : ℕ) (pair : ℕ × ℕ) (b : Begun) → GoesOn old new → IsBegun old (inside old) s d z pair b → IsBegun new (inside new) s d z pair b
begun_goes old new s d z pair b goes h = record {
  left = unrolled_goes old new s d z pair.0 b.left goes h.left;
  right = unrolled_goes old new s d z pair.1 b.right goes h.right;
  start_ = fact_goes old new b.start b.left.start.left b.right.start.left goes h.start_;
}

pub all_begun_goes : (old new : Written) (s : Source) (d z : ℕ) (pairs : List (ℕ × ℕ)) (begun : List Begun) → GoesOn old new → AllZip (IsBegun old (inside old) s d z) pairs begun → AllZip (IsBegun new (inside new) s d z) pairs begun
all_begun_goes old new s d z pairs begun goes h =
    zip_map (IsBegun old (inside old) s d z) (IsBegun new (inside new) s d z) pairs begun (λ pair b c e r. begun_goes old new s d z pair b goes r) h

-- ---- lists, one by one

pub zip_push : {A B : Type 0} → (R : A → B → Type 0) (xs : List A) (ys : List B) (x : A) (y : B) → AllZip R xs ys → R x y → AllZip R (xs ++ x ∷ []) (ys ++ y ∷ [])
zip_push R [] [] x y h r = (r, tt)
zip_push R [] (b ∷ ys) x y h r = absurd h
zip_push R (a ∷ xs) [] x y h r = absurd h
zip_push R (a ∷ xs) (b ∷ ys) x y h r = (h.0, zip_push R xs ys x y h.1 r)

zip_right : {A B : Type 0} → (R : A → B → Type 0) (xs : List A) (ys : List B) (i : ℕ) (x : A) → AllZip R xs ys → slice_get xs i ≡ Some x → (y : B) × (slice_get ys i ≡ Some y) × R x y
zip_right R [] ys i x h e = absurd (none-some x e)
zip_right R (a ∷ xs) [] i x h e = absurd h
zip_right R (a ∷ xs) (b ∷ ys) zero x h e = (b, refl, subst (λ v. R v b) (same_Some a x e) h.0)
zip_right R (a ∷ xs) (b ∷ ys) (suc i) x h e = zip_right R xs ys i x h.1 e

zip_left : {A B : Type 0} → (R : A → B → Type 0) (xs : List A) (ys : List B) (i : ℕ) (y : B) → AllZip R xs ys → slice_get ys i ≡ Some y → (x : A) × (slice_get xs i ≡ Some x) × R x y
zip_left R [] [] i y h e = absurd (none-some y e)
zip_left R [] (b ∷ ys) i y h e = absurd h
zip_left R (a ∷ xs) [] i y h e = absurd h
zip_left R (a ∷ xs) (b ∷ ys) zero y h e = (a, refl, subst (λ v. R a v) (same_Some b y e) h.0)
zip_left R (a ∷ xs) (b ∷ ys) (suc i) y h e = zip_left R xs ys i y h.1 e

abbrev no_fact : Fact
no_fact = record { step = 0; place = 0 }

abbrev no_equal : Equal
no_equal = record { left = 0; right = 0; fact = no_fact }

abbrev no_unrolled : Unrolled
no_unrolled = record { theta = 0; first = 0; second = 0; copy = 0; start = no_equal; next = no_equal }

-- what reads past the end of a list
abbrev pub no_begun : Begun
no_begun = record { left = no_unrolled; right = no_unrolled; start = no_fact }

pub take_at : {A : Type 0} → (xs : List A) (i : ℕ) (d : A) → i < length xs → take i xs ++ get_or xs i d ∷ [] ≡ take (i + 1) xs
take_at xs i d low = sym (take_more xs i d low)

pub read_in : {A : Type 0} → (xs : List A) (i : ℕ) (d : A) → i < length xs → Contains xs (get_or xs i d)
read_in xs i d low = contains_at xs (get_or xs i d) i (slice_get-get_or xs i d low)

-- ---- the lines of pairs

pub copies_more : (begun : List Begun) (b : Begun) → both_copies (begun ++ b ∷ []) ≡ both_copies begun ++ (b.left.copy, b.right.copy) ∷ []
copies_more [] b = refl
copies_more (c ∷ begun) b = ap (λ (ps : List (ℕ × ℕ)). (c.left.copy, c.right.copy) ∷ ps) (copies_more begun b)

copies_at : (begun : List Begun) (i : ℕ) (b : Begun) → slice_get begun i ≡ Some b → slice_get (both_copies begun) i ≡ Some (b.left.copy, b.right.copy)
copies_at [] i b e = absurd (none-some b e)
copies_at (c ∷ begun) zero b e = ap (λ (q : Begun). Some (q.left.copy, q.right.copy)) (same_Some c b e)
copies_at (c ∷ begun) (suc i) b e = copies_at begun i b e

pub no_lines : (step : ℕ) → AreLinesOf step [] []
no_lines step = record { long = refl; each = λ i l e. absurd (none-some l e) }

pub lines_more : (step : ℕ) (begun : List Begun) (lines : List Line) (b : Begun) (l : Line) → AreLinesOf step begun lines → l ≡ line_of b (record { step = step; place = suc (length lines) }) → AreLinesOf step (begun ++ b ∷ []) (lines ++ l ∷ [])
lines_more step begun lines b l h is = record {
  long = let p = length-append lines (l ∷ []) in let q = length-append begun (b ∷ []) in let r = h.long in omega (arith, p, q, r);
  each = λ i k e. elim (push_cases lines l k i e) [
    | inl f ↦ let z = h.each i k f in (z.0, front_there begun (b ∷ []) i z.0 z.1, z.2)
    | inr f ↦ (
      b,
      ap (slice_get (begun ++ b ∷ [])) (f.0 ∙ h.long) ∙ get_last begun b,
      sym f.1 ∙ is ∙ ap (λ (n : ℕ). line_of b (record { step = step; place = suc n })) (sym f.0),
    )
  ];
}

-- what the step states, the lines state
pub lines_stated : (old new : Written) (outer : List OpenBlock) (s : Source) (d z step : ℕ) (pairs : List (ℕ × ℕ)) (begun : List Begun) (lines : List Line) → AllZip (IsBegun old outer s d z) pairs begun → AreLinesOf step begun lines
    → ((j a b : ℕ) → slice_get (both_copies begun) j ≡ Some (a, b) → IsFact new (record { step = step; place = suc j }) a b) → AreStated new s.map.now lines
lines_stated old new outer s d z step pairs begun lines all are shows j l e =
    let at = are.each j l e in
    let p = zip_left (IsBegun old outer s d z) pairs begun j at.0 all at.1 in
    let left : l.first ≡ p.0.0 = ap (λ (k : Line). k.first) at.2 ∙ p.2.left.theta_ in
    let right : l.second ≡ p.0.1 = ap (λ (k : Line). k.second) at.2 ∙ p.2.right.theta_ in
    record {
      left = subst (λ (n : ℕ). IsCopied s.map.now n l.left) (sym left) (subst (IsCopied s.map.now p.0.0) (sym (ap (λ (k : Line). k.left) at.2)) p.2.left.copy_);
      right = subst (λ (n : ℕ). IsCopied s.map.now n l.right) (sym right) (subst (IsCopied s.map.now p.0.1) (sym (ap (λ (k : Line). k.right) at.2)) p.2.right.copy_);
      known = subst (λ (k : Line). IsFact new k.fact k.left k.right) (sym at.2) (shows j at.0.left.copy at.0.right.copy (copies_at begun j at.0 at.1));
    }

-- each pair has its line
pub lines_have : (w : Written) (outer : List OpenBlock) (s : Source) (d z step : ℕ) (pairs : List (ℕ × ℕ)) (begun : List Begun) (lines : List Line) → AllZip (IsBegun w outer s d z) pairs begun → AreLinesOf step begun lines → HaveLines pairs lines
lines_have w outer s d z step pairs begun lines all are a b c =
    let p = zip_right (IsBegun w outer s d z) pairs begun c.0 (a, b) all (at_index pairs c.0 (a, b) c.1 (sym c.2)) in
    let l = found lines c.0 (let low = slice_get_within begun c.0 p.0 p.1 in let long = are.long in omega (arith, low, long)) in
    let at = are.each c.0 l.0 l.1 in
    let same : at.0 ≡ p.0 = same_Some _ _ (sym at.1 ∙ p.1) in (
      l.0,
      record {
        place = c.0;
        there = l.1;
        first = ap (λ (k : Line). k.first) at.2 ∙ ap (λ (q : Begun). q.left.theta) same ∙ p.2.left.theta_;
        second = ap (λ (k : Line). k.second) at.2 ∙ ap (λ (q : Begun). q.right.theta) same ∙ p.2.right.theta_;
      },
    )

-- ---- the block of an induction, where it has its ground

module _ (nodes : List Node) (Given : ℕ → List ℕ → ℕ → ℕ → Type 0) where
  block_deeper : (ctx : Context) (before : List Join) (b : Block) → BlockGround nodes Given ctx before b → IsDeeper (depths ctx) (depth_of b)
  block_deeper ctx before b (BlockGround.rests _ _ _ deeper steps h) = deeper

  block_steps : (ctx : Context) (before : List Join) (b : Block) → BlockGround nodes Given ctx before b → (x y : ℕ) → Contains (pairs_of b) (x, y) → IsStep nodes before (joins_of b) (depth_of b) x y
  block_steps ctx before b (BlockGround.rests _ _ _ deeper steps h) = steps

  block_joins : (ctx : Context) (before : List Join) (b : Block) → BlockGround nodes Given ctx before b → JoinsGround nodes Given ((depth_of b, pairs_of b) ∷ ctx) before (listed (inner_of b)) (joins_of b)
  block_joins ctx before b (BlockGround.rests _ _ _ deeper steps h) = h

-- each pair may be begun
pub block_begin : (w : Written) (s : Source) (level : Level) (b : Block) → BlockStands w s level b → (pair : ℕ × ℕ) → Contains (pairs_of b) pair → MayBegin s level (depth_of b) pair
block_begin w s level b h pair c =
    let step = block_steps s.graph.now.nodes (IsGiven s.graph.now h.assumed) h.ctx h.before b h.ground pair.0 pair.1 c in
    let named = pair_named (IsReady s) b pair h.named c in
    record {
      p = step.p;
      q = step.q;
      r = step.r;
      s_ = step.s;
      left = step.first;
      right = step.second;
      linked = linked_by (length s.graph.now.nodes) level h.before step.p step.r h.place.ends (kid_low s.graph.now h.place.source.made pair.0 (depth_of b) step.p step.q step.first).0
          (kid_low s.graph.now h.place.source.made pair.1 (depth_of b) step.r step.s step.second).0 step.starts;
      left_copy = named.0 (slice_get_within s.graph.now.nodes pair.0 (node_of (op.Theta (depth_of b)) (step.p ∷ step.q ∷ [])) step.first);
      right_copy = named.1 (slice_get_within s.graph.now.nodes pair.1 (node_of (op.Theta (depth_of b)) (step.r ∷ step.s ∷ [])) step.second);
    }

-- no open block has its depth
pub block_fresh : (w : Written) (s : Source) (level : Level) (b : Block) → BlockStands w s level b → IsFresh (depth_of b) (blocks (inside w))
block_fresh w s level b h = h.place.open_ (depth_of b) (λ c. absurd (let z = (block_deeper s.graph.now.nodes (IsGiven s.graph.now h.assumed) h.ctx h.before b h.ground).deeper (depth_of b) c in omega (arith, z)))

place_goes : (old new : Written) (s : Source) (level : Level) (assumed : List ℕ) (ctx : Context) (before : List Join) → GoesOn old new → IsPlace old s level assumed ctx before → IsPlace new s level assumed ctx before
place_goes old new s level assumed ctx before goes h = record {
  source = source_later old new s goes.later h.source;
  lines = level_goes old new s level goes h.lines;
  ends = h.ends;
  known = stated_goes old new s.map.now level.known.items goes h.known;
  pairs = h.pairs;
  open_ = λ d out. subst (λ (ps : List OpenBlock). IsFresh d (blocks ps)) (sym goes.blocks) (h.open_ d out);
  assumes = ap assumed_in goes.blocks ∙ h.assumes;
  low = h.low;
  one_sort = h.one_sort;
  pairs_sort = h.pairs_sort;
}

pub block_goes : (old new : Written) (s : Source) (level : Level) (b : Block) → GoesOn old new → BlockStands old s level b → BlockStands new s level b
block_goes old new s level b goes h = record { assumed = h.assumed; ctx = h.ctx; before = h.before; place = place_goes old new s level h.assumed h.ctx h.before goes h.place; ground = h.ground; named = h.named }

-- ---- it is opened

deep_is : (d : ℕ) → 1 ≤ d → d ≤ 16 → is_depth d ≡ true
deep_is d p q = grind (arith, nat_tests)

-- its pairs are of one sort
block_sorts : (w : Written) (s : Source) (level : Level) (b : Block) → BlockStands w s level b → PairOneSort s.graph.now.sorts (pairs_of b)
block_sorts w s level b h =
    pairs_sorts s.graph.now.nodes s.graph.now.sorts (graph_sorts s.graph.now h.place.source.made h.place.source.sealed) (IsGiven s.graph.now h.assumed) (λ n ns x y given. given.one_sort) h.ctx h.before b h.place.one_sort h.ground

copies_sort : (w : Written) (s : Source) (d z : ℕ) (pair : ℕ × ℕ) (b : Begun) (outer : List OpenBlock) → IsSource w s → HaveOneSort s.graph.now.sorts pair.0 pair.1 → IsBegun w outer s d z pair b → AreOfOneSort w.graph (b.left.copy, b.right.copy)
copies_sort w s d z pair b outer source one h =
    let t = sort_of s.graph.now source.made source.sealed pair.0 (node_of (op.Theta d) (b.left.first ∷ b.left.second ∷ [])) h.left.is in
    (t.0, source.copies.sorts pair.0 b.left.copy t.0 h.left.copy_ t.1, source.copies.sorts pair.1 b.right.copy t.0 h.right.copy_ (sym one ∙ t.1))

all_copies_sort : (w : Written) (s : Source) (d z : ℕ) (outer : List OpenBlock) → IsSource w s → (pairs : List (ℕ × ℕ)) (begun : List Begun) → PairOneSort s.graph.now.sorts pairs → AllZip (IsBegun w outer s d z) pairs begun
    → (p : ℕ × ℕ) → In {A = ℕ × ℕ} (both_copies begun) p → AreOfOneSort w.graph p
all_copies_sort w s d z outer source [] [] one h p m = absurd m
all_copies_sort w s d z outer source [] (b ∷ begun) one h p m = absurd h
all_copies_sort w s d z outer source (pair ∷ pairs) [] one h p m = absurd h
all_copies_sort w s d z outer source (pair ∷ pairs) (b ∷ begun) one h p (inl e) = subst (AreOfOneSort w.graph) e (copies_sort w s d z pair b outer source (one pair.0 pair.1 (in_first pairs pair)) h.0)
all_copies_sort w s d z outer source (pair ∷ pairs) (b ∷ begun) one h p (inr m) = all_copies_sort w s d z outer source pairs begun (λ x y c. one x y (in_rest pairs pair (x, y) c)) h.1 p m

pub open_right : (w : Written) (s : Source) (level : Level) (b : Block) (begun : List Begun) (outer : List OpenBlock) (list : List (ℕ × ℕ)) → list ≡ both_copies begun → BlockStands w s level b → AreBegun w outer s (depth_of b) (pairs_of b) begun
    → RightOver ByAxioms w.graph w.before (Open (depth_of b) list)
open_right w s level b begun outer list e h all =
    let deeper = block_deeper s.graph.now.nodes (IsGiven s.graph.now h.assumed) h.ctx h.before b h.ground in (
      deep_is (depth_of b) deeper.least deeper.most,
      block_fresh w s level b h,
      λ p m. all_copies_sort w s (depth_of b) all.0 outer h.place.source (pairs_of b) begun (block_sorts w s level b h) all.1 p (subst (λ (ps : List (ℕ × ℕ)). In {A = ℕ × ℕ} ps p) e m),
    )

pub block_opened : (old new : Written) (d step : ℕ) (begun : List Begun) (list : List (ℕ × ℕ)) → list ≡ both_copies begun → Pushed old new (Open d list) step → Opens old new d begun
block_opened old new d step begun list e h = record {
  later = later_push old new (Open d list) step h;
  opened = suc (length old.before);
  blocks_ = opens_blocks old new d step list h ∙ ap (λ (ps : List (ℕ × ℕ)). record { opened = suc (length old.before); block = Loop d ps } ∷ inside old) e;
}

-- what was visible is visible inside
pub inside_fact : (old new : Written) (d : ℕ) (begun : List Begun) → Opens old new d begun → (f : Fact) (a b : ℕ) → IsFact old f a b → IsFact new f a b
inside_fact old new d begun h f a b k =
    let there = shows_goes old new (inside old) f a b h.later k in
    record { around = there.around; stated = there.stated; visible = subst (AreOpen there.around) (sym h.blocks_) (inr there.visible) }

inside_stated : (old new : Written) (d : ℕ) (begun : List Begun) (map : List (Option ℕ)) (lines : List Line) → Opens old new d begun → AreStated old map lines → AreStated new map lines
inside_stated old new d begun map lines opens h j l e = let k = h j l e in record { left = k.left; right = k.right; known = inside_fact old new d begun opens l.fact l.left l.right k.known }

-- the level inside
pub record IsInner (nodes : ℕ) (outer inner : Level) (known : List Line) : Type 0 where
  pub nodes_ : inner.forest.nodes ≡ nodes
  pub ends : inner.forest.ends ≡ sides outer.lines.items
  pub lines : inner.lines.items ≡ outer.lines.items
  pub known_ : inner.known.items ≡ known

inner_place : (old new : Written) (s : Source) (level inner : Level) (b : Block) (begun : List Begun) (known : List Line) (h : BlockStands old s level b) → Opens old new (depth_of b) begun → AreStated new s.map.now known → HaveLines (pairs_of b) known
    → IsInner (length s.graph.now.nodes) level inner known → IsPlace new s inner h.assumed ((depth_of b, pairs_of b) ∷ h.ctx) h.before
inner_place old new s level inner b begun known h opens stated have is = record {
  source = source_later old new s opens.later h.place.source;
  lines = record {
    nodes_ = is.nodes_;
    ends = is.ends ∙ ap sides (sym is.lines);
    stated = subst (AreStated new s.map.now) (sym is.lines) (inside_stated old new (depth_of b) begun s.map.now level.lines.items opens h.place.lines.stated);
  };
  ends = ap sides is.lines ∙ h.place.ends;
  known = subst (AreStated new s.map.now) (sym is.known_) stated;
  pairs = subst (HaveLines (pairs_of b)) (sym is.known_) have;
  open_ = λ d out. subst (λ (ps : List OpenBlock). IsFresh d (blocks ps)) (sym opens.blocks_)
      (λ e. out (subst (λ (n : ℕ). Contains (depth_of b ∷ depths h.ctx) n) (sym e) (in_first (depths h.ctx) (depth_of b))), h.place.open_ d (λ c. out (in_rest (depths h.ctx) (depth_of b) d c)));
  assumes = ap assumed_in opens.blocks_ ∙ h.place.assumes;
  low = h.place.low;
  one_sort = h.place.one_sort;
  pairs_sort = (block_sorts old s level b h, h.place.pairs_sort);
}

pub inner_stand : (old new : Written) (s : Source) (level inner : Level) (b : Block) (begun : List Begun) (known : List Line) → BlockStands old s level b → Opens old new (depth_of b) begun → AreStated new s.map.now known → HaveLines (pairs_of b) known
    → IsInner (length s.graph.now.nodes) level inner known → JoinsStand new s inner (listed (inner_of b)) (joins_of b)
inner_stand old new s level inner b begun known h opens stated have is = record {
  assumed = h.assumed;
  ctx = (depth_of b, pairs_of b) ∷ h.ctx;
  before = h.before;
  place = inner_place old new s level inner b begun known h opens stated have is;
  grounds = block_joins s.graph.now.nodes (IsGiven s.graph.now h.assumed) h.ctx h.before b h.ground;
  named = inside_named (IsReady s) b h.named;
}

-- the lines of its pairs are known inside, so its joins have their grounds there
pub open_stands : (old new : Written) (s : Source) (level inner : Level) (b : Block) (begun : List Begun) (list : List (ℕ × ℕ)) (step : ℕ) (known : List Line) → BlockStands old s level b → AreBegun old (inside old) s (depth_of b) (pairs_of b) begun → list ≡ both_copies begun
    → Pushed old new (Open (depth_of b) list) step → AreLinesOf step begun known → IsInner (length s.graph.now.nodes) level inner known → JoinsStand new s inner (listed (inner_of b)) (joins_of b)
open_stands old new s level inner b begun list step known stands all e pushed are is =
    inner_stand old new s level inner b begun known stands (block_opened old new (depth_of b) step begun list e pushed)
    (lines_stated old new (inside old) s (depth_of b) all.0 step (pairs_of b) begun known all.1 are (λ j x y at. opened_pair old new (depth_of b) step j x y list pushed (ap (λ (ps : List (ℕ × ℕ)). slice_get ps j) e ∙ at)))
    (lines_have old (inside old) s (depth_of b) all.0 step (pairs_of b) begun known all.1 are) is

-- ---- inside it

-- what is stated of the pairs stays
begun_later : (old new : Written) (outer : List OpenBlock) (s : Source) (d z : ℕ) (pairs : List (ℕ × ℕ)) (begun : List Begun) → IsLater old new → ((f : Fact) (m n : ℕ) → IsFact old f m n → IsFact new f m n) → AllZip (IsBegun old outer s d z) pairs begun
    → AllZip (IsBegun new outer s d z) pairs begun
begun_later old new outer s d z pairs begun later facts h =
    zip_map (IsBegun old outer s d z) (IsBegun new outer s d z) pairs begun (λ pair b c e r. record {
      left = unrolled_later old new s d z pair.0 b.left later facts r.left;
      right = unrolled_later old new s d z pair.1 b.right later facts r.right;
      start_ = shows_goes old new outer b.start b.left.start.left b.right.start.left later r.start_;
    }) h

pub begun_inside : (old now new : Written) (s : Source) (d : ℕ) (pairs : List (ℕ × ℕ)) (begun : List Begun) → Opens old now d begun → GoesOn now new → AreBegun old (inside old) s d pairs begun → AreBegun new (outer_of (inside new)) s d pairs begun
begun_inside old now new s d pairs begun opens goes h =
    let outer : inside old ≡ outer_of (inside new) = sym (ap outer_of (goes.blocks ∙ opens.blocks_)) in (
      h.0,
      subst (λ (ps : List OpenBlock). AllZip (IsBegun new ps s d h.0) pairs begun) outer
          (begun_later now new (inside old) s d h.0 pairs begun goes.later (λ f m n k. fact_goes now new f m n goes k) (begun_later old now (inside old) s d h.0 pairs begun opens.later (inside_fact old now d begun opens) h.1)),
    )

pub still_inside : (old now new : Written) (d : ℕ) (begun : List Begun) → Opens old now d begun → GoesOn now new → IsInside new d begun
still_inside old now new d begun opens goes =
    let e = goes.blocks ∙ opens.blocks_ in
    (opens.opened, e ∙ ap (λ (ps : List OpenBlock). record { opened = opens.opened; block = Loop d (both_copies begun) } ∷ ps) (sym (ap outer_of e)))

ends_both : (before joins : List Join) → ends_of before ++ ends_of joins ≡ ends_of (before ++ joins)
ends_both [] joins = refl
ends_both (j ∷ before) joins = ap (λ (es : List (ℕ × ℕ)). (j.first, j.second) ∷ es) (ends_both before joins)

-- each pair may go on, where the level has the lines of the joins of the block
pub block_goes_on : (first new : Written) (s : Source) (level inner last : Level) (b : Block) (begun : List Begun) (outer : List OpenBlock) → BlockStands first s level b → AreBegun new outer s (depth_of b) (pairs_of b) begun → inner.lines.items ≡ level.lines.items
    → GrowsAt new s inner last (joins_of b) → (p : Begun) → Contains begun p → MayGoOn new s last p
block_goes_on first new s level inner last b begun outer h all same grows p c =
    let at = zip_left (IsBegun new outer s (depth_of b) all.0) (pairs_of b) begun c.0 p all.1 (at_index begun c.0 p c.1 (sym c.2)) in
    let pair = at.0 in
    let step = block_steps s.graph.now.nodes (IsGiven s.graph.now h.assumed) h.ctx h.before b h.ground pair.0 pair.1 (contains_at (pairs_of b) pair c.0 at.1) in
    let left = theta_same s.graph.now.nodes pair.0 (depth_of b) step.p step.q p.left.first p.left.second step.first at.2.left.is in
    let right = theta_same s.graph.now.nodes pair.1 (depth_of b) step.r step.s p.right.first p.right.second step.second at.2.right.is in
    let ends : sides last.lines.items ≡ ends_of (h.before ++ joins_of b) =
    grows.ends ∙ ap (λ (es : List (ℕ × ℕ)). es ++ ends_of (joins_of b)) (ap sides same ∙ h.place.ends) ∙ ends_both h.before (joins_of b) in
    let linked = linked_by (length s.graph.now.nodes) last (h.before ++ joins_of b) step.q step.s ends (kid_low s.graph.now h.place.source.made pair.0 (depth_of b) step.p step.q step.first).1
    (kid_low s.graph.now h.place.source.made pair.1 (depth_of b) step.r step.s step.second).1 step.goes_on in
    record {
      left = subst (IsCopied s.map.now p.left.second) (sym at.2.left.next_.right) at.2.left.second;
      right = subst (IsCopied s.map.now p.right.second) (sym at.2.right.next_.right) at.2.right.second;
      left_known = at.2.left.next_.known;
      right_known = at.2.right.next_.known;
      linked = subst (λ (n : ℕ). LinkedBy (length s.graph.now.nodes) last n p.right.second) left.1 (subst (λ (n : ℕ). LinkedBy (length s.graph.now.nodes) last step.q n) right.1 linked);
    }

pub go_on_later : (old new : Written) (s : Source) (level : Level) (b : Begun) → GoesOn old new → MayGoOn old s level b → MayGoOn new s level b
go_on_later old new s level b goes h = record {
  left = h.left;
  right = h.right;
  left_known = fact_goes old new b.left.next.fact b.left.next.left b.left.next.right goes h.left_known;
  right_known = fact_goes old new b.right.next.fact b.right.next.left b.right.next.right goes h.right_known;
  linked = h.linked;
}

pub all_go_on : (old new : Written) (begun : List Begun) (fs : List (Fact × Fact)) → GoesOn old new → AllZip (GoOn old) begun fs → AllZip (GoOn new) begun fs
all_go_on old new begun fs goes h = zip_map (GoOn old) (GoOn new) begun fs (λ b f c e r. (r.0, fact_goes old new f.1 b.left.next.left b.right.next.left goes r.1)) h

-- ---- it is ended

closes_all : (w : Written) (outer : List OpenBlock) (s : Source) (d z : ℕ) (pairs : List (ℕ × ℕ)) (begun : List Begun) (fs : List (Fact × Fact)) → AllZip (IsBegun w outer s d z) pairs begun → AllZip (GoOn w) begun fs
    → AllZip (ClosesPair w.graph w.before d (inside w) outer) (both_copies begun) fs
closes_all w outer s d z [] [] [] h k = tt
closes_all w outer s d z [] [] (f ∷ fs) h k = absurd k
closes_all w outer s d z [] (b ∷ begun) fs h k = absurd h
closes_all w outer s d z (pair ∷ pairs) [] fs h k = absurd h
closes_all w outer s d z (pair ∷ pairs) (b ∷ begun) [] h k = absurd k
closes_all w outer s d z (pair ∷ pairs) (b ∷ begun) (f ∷ fs) h k = (
  record {
    zero_ = z;
    first_left = b.left.start.left;
    first_right = b.right.start.left;
    next_left = b.left.next.left;
    next_right = b.right.next.left;
    is_zero = h.0.left.start_.zero_;
    is_first_left = h.0.left.start_.left;
    is_first_right = h.0.right.start_.left;
    is_next_left = h.0.left.next_.left;
    is_next_right = h.0.right.next_.left;
    starts = subst (λ (g : Fact). Shows w.before outer g b.left.start.left b.right.start.left) (sym k.0.0) h.0.start_;
    goes_on = k.0.1;
  },
  closes_all w outer s d z pairs begun fs h.1 k.1,
)

pub block_close_right : (old new : Written) (s : Source) (d : ℕ) (pairs : List (ℕ × ℕ)) (begun : List Begun) (fs : List (Fact × Fact)) → GoesOn old new → IsInside old d begun → AreBegun old (outer_of (inside old)) s d pairs begun → AllZip (GoOn new) begun fs
    → RightOver ByAxioms new.graph new.before (Close d fs)
block_close_right old new s d pairs begun fs goes is h k =
    let all = begun_later old new (outer_of (inside old)) s d h.0 pairs begun goes.later (λ f m n r. fact_goes old new f m n goes r) h.1 in
    close_right new d is.0 (both_copies begun) (outer_of (inside old)) fs (goes.blocks ∙ is.1) (closes_all new (outer_of (inside old)) s d h.0 pairs begun fs all k)

pub block_closed : (old now new : Written) (d step : ℕ) (begun : List Begun) (fs : List (Fact × Fact)) → GoesOn old now → IsInside old d begun → Pushed now new (Close d fs) step → Ends old new
block_closed old now new d step begun fs goes is h = record {
  later = later_trans old now new goes.later (later_push now new (Close d fs) step h);
  blocks_ = closes_blocks now new d step is.0 (both_copies begun) (outer_of (inside old)) fs h (goes.blocks ∙ is.1);
}

-- its lines are stated outside
pub closed_stated : (old now new : Written) (s : Source) (d step : ℕ) (pairs : List (ℕ × ℕ)) (begun : List Begun) (fs : List (Fact × Fact)) (lines : List Line) → GoesOn old now → IsInside old d begun → AreBegun old (outer_of (inside old)) s d pairs begun
    → Pushed now new (Close d fs) step → AreLinesOf step begun lines → AreStated new s.map.now lines
closed_stated old now new s d step pairs begun fs lines goes is h pushed are =
    lines_stated old new (outer_of (inside old)) s d h.0 step pairs begun lines h.1 are (λ j a b at. closed_pair now new d step is.0 j a b (both_copies begun) (outer_of (inside old)) fs pushed (goes.blocks ∙ is.1) at)

-- after all the outer blocks are open, as before
pub block_done : (first old now new last : Written) (d : ℕ) (begun : List Begun) → GoesOn first old → Opens old now d begun → GoesOn now new → Ends new last → GoesOn first last
block_done first old now new last d begun begins opens goes ends = record {
  later = later_trans first old last begins.later (later_trans old now last opens.later (later_trans now new last goes.later ends.later));
  blocks = ends.blocks_ ∙ ap outer_of (goes.blocks ∙ opens.blocks_) ∙ begins.blocks;
}
