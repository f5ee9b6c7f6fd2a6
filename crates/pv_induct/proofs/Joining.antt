-- Joining the pairs of an induction, and its block.
use Rattle.std.proofs.Common.{◌≡◌, ◌≢◌, ℕ, ◌+◌, ◌<◌, ◌≤◌, List, [], ◌∷◌, ◌++◌, length, drop, Option, Some, None, slice_get, inl, inr, refl, sym, ap, ◌∙◌, subst, arith, append_assoc, length-append}
use Rattle.std.proofs.lemmas.List.{nil_from_length}
use Rattle.std.specs.List.{Contains}
use Rattle.pv_graph.specs.declared.node.Node.{Node}
use Rattle.pv_graph.specs.declared.node.Op.TheVariants as op
use Rattle.pv_graph.specs.Walks.{In}
use Rattle.pv_graph.specs.Graphs.{Graph, IsGraph}
use Rattle.pv_classes.specs.declared.join.Join.{Join}
use Rattle.pv_classes.specs.declared.join.Reason.TheVariants as reason
use Rattle.pv_classes.specs.Blocks.{Block, block, blocks_of}
use Rattle.pv_classes.specs.Partition.{AreOne, IsThrough}
use Rattle.pv_classes.specs.Linked.{Linked}
use Rattle.pv_classes.specs.Closest.{Is}
use Rattle.pv_classes.specs.Grounds.{Context, depths, JoinGround, JoinsGround, BlockGround}
use Rattle.pv_classes.specs.Calls.{Classes, IsClasses, Knows, Joins, Copies, AddsBlock}
use Rattle.pv_classes.proofs.Cited.{grounds_each, grounds_on, block_in, listed_blocks}
use Rattle.pv_induct.specs.Joined.{Joined}
use Rattle.pv_induct.specs.Levels.{NoAxiom, IsCoarser, IsGrown, Merged}
use Rattle.pv_induct.specs.Parts.{IsJoinBy, reason_of, AllJoined, IsInside, IsJoinedInduction}
use Rattle.pv_induct.proofs.Contained.{in-of, of-in, in-at, in-left, in-append, drop-all, drop-last}
use Rattle.pv_induct.proofs.Numbered.{far, zero-at, all-of, coarser-all}
use Rattle.pv_induct.proofs.Growing.{merged-joined, merged-on}

append-none : {A : Type 0} (l : List A) → l ++ [] ≡ l
append-none {A} [] = refl
append-none {A} (x ∷ l) = ap (λ (m : List A). x ∷ m) (append-none l)

-- ---- joining pairs

pub all-joined-none : (c : Classes) (pairs : List (ℕ × ℕ)) (b : Option ℕ) → IsClasses c → AllJoined c c pairs [] b
all-joined-none c pairs b is = record {
  long = refl;
  coarser = λ x y e. e;
  one = λ x y m. absurd m;
  only = λ x y e. Merged.old x y e;
  more = [];
  joins = sym (append-none c.joins);
  count = refl;
  each = λ j m. absurd m;
  blocks = refl;
  knows = λ nodes k. k;
  classes = is;
}

through-merged : (numbers : List ℕ) (a b u v : ℕ) → IsThrough numbers a b u v → Merged (AreOne numbers) ((a, b) ∷ []) u v
through-merged numbers a b u v (inl e) = Merged.old u v e
through-merged numbers a b u v (inr (inl e)) = Merged.chain u a v (Merged.old u a e.0) (Merged.chain a b v (Merged.pair a b (inl refl)) (Merged.old b v e.1))
through-merged numbers a b u v (inr (inr e)) = Merged.chain u b v (Merged.old u b e.0) (Merged.chain b a v (Merged.flip b a (Merged.pair a b (inl refl))) (Merged.old a v e.1))

pub all-joined-more : (old mid new : Classes) (pairs done : List (ℕ × ℕ)) (bl : Option ℕ) (a b i : ℕ) → IsClasses old → AllJoined old mid pairs done bl → slice_get pairs i ≡ Some (a, b) → Joins mid new a b (reason_of bl i) → AllJoined old new pairs (done ++ (a, b) ∷ []) bl
all-joined-more old mid new pairs done bl a b i was h e j = record {
  long = j.long ∙ h.long;
  coarser = λ x y f. further x y (h.coarser x y f);
  one = λ x y m. elim (in-append done ((a, b) ∷ []) (x, y) m) [ inl k ↦ further x y (h.one x y k) | inr k ↦ elim k [ inl f ↦ subst (λ (v : ℕ × ℕ). AreOne new.numbers v.0 v.1) f j.one | inr f ↦ absurd f ] ];
  only = all-of new.numbers (Merged (AreOne old.numbers) (done ++ (a, b) ∷ [])) j.classes.low (λ u v m. Merged.flip u v m) (λ u v w m n. Merged.chain u v w m n)
      (λ u v lu lv f. merged-on (AreOne old.numbers) (AreOne mid.numbers) (done ++ (a, b) ∷ []) ((a, b) ∷ [])
      (λ x y g. merged-on (AreOne old.numbers) (AreOne old.numbers) (done ++ (a, b) ∷ []) done (λ x y g. Merged.old x y g) (λ x y m. Merged.pair x y (in-left done ((a, b) ∷ []) (x, y) m)) x y (h.only x y g))
      last u v (through-merged mid.numbers a b u v (j.only u v (let z = j.long in omega arith) (let z = j.long in omega arith) f)))
      (λ v l. Merged.old 0 v (zero-at old.numbers was.low ∙ sym (far old.numbers v (let z = j.long in let y = h.long in omega arith))));
  more = h.more ++ record { first = a; second = b; why = reason_of bl i } ∷ [];
  joins = j.joins ∙ ap (λ (l : List Join). l ++ record { first = a; second = b; why = reason_of bl i } ∷ []) h.joins ∙ append_assoc old.joins h.more (record { first = a; second = b; why = reason_of bl i } ∷ []);
  count = let z = h.count in omega (arith, length-append h.more (record { first = a; second = b; why = reason_of bl i } ∷ []), length-append done ((a, b) ∷ []));
  each = λ k m. elim (in-append h.more (record { first = a; second = b; why = reason_of bl i } ∷ []) k m) [ inl n ↦ h.each k n | inr n ↦ elim n [ inl f ↦ subst (λ (v : Join). IsJoinBy pairs bl v) f (i, e, refl) | inr f ↦ absurd f ] ];
  blocks = j.blocks ∙ h.blocks;
  knows = λ nodes k. j.knows nodes (h.knows nodes k);
  classes = j.classes;
}
  where
    further : IsCoarser mid.numbers new.numbers
    further = coarser-all mid.numbers new.numbers j.long h.classes.low j.classes.low j.coarser

    last : (x y : ℕ) → In {A = ℕ × ℕ} ((a, b) ∷ []) (x, y) → Merged (AreOne old.numbers) (done ++ (a, b) ∷ []) x y
    last x y (inl f) = Merged.pair x y (in-end done)
      where
        in-end : (l : List (ℕ × ℕ)) → In {A = ℕ × ℕ} (l ++ (a, b) ∷ []) (x, y)
        in-end [] = inl f
        in-end (z ∷ l) = inr (in-end l)
    last x y (inr f) = absurd f

pub all-joined-copy : (old copy new : Classes) (pairs : List (ℕ × ℕ)) (bl : Option ℕ) → Copies old copy → AllJoined copy new pairs pairs bl → AllJoined old new pairs pairs bl
all-joined-copy old copy new pairs bl e h = record {
  long = h.long ∙ ap (λ (l : List ℕ). length l) e.numbers;
  coarser = λ x y f. h.coarser x y (subst (λ (l : List ℕ). AreOne l x y) (sym e.numbers) f);
  one = h.one;
  only = λ x y f. subst (λ (l : List ℕ). Merged (AreOne l) pairs x y) e.numbers (h.only x y f);
  more = h.more;
  joins = h.joins ∙ ap (λ (l : List Join). l ++ h.more) e.joins;
  count = h.count;
  each = h.each;
  blocks = h.blocks ∙ e.blocks;
  knows = λ nodes k. h.knows nodes (e.knows nodes k);
  classes = h.classes;
}

-- ---- the block of an induction

module _ (nodes : List Node) (fixed : List ℕ) (d : ℕ) (pairs : List (ℕ × ℕ)) (old inner : Classes) (joins : List Join) (blocks : List Block) (was : IsClasses old) (wide : length old.numbers ≡ length nodes) (in_ : IsInside nodes fixed d pairs old inner)
    (ind : IsJoinedInduction nodes fixed d pairs old inner) (ej : joins ≡ drop (length old.joins) inner.joins) (eb : blocks ≡ drop (length old.blocks) inner.blocks) where
  both : inner.joins ≡ old.joins ++ (in_.begun.more ++ in_.grown.more)
  both = in_.grown.joins ∙ ap (λ (l : List Join). l ++ in_.grown.more) in_.begun.joins ∙ append_assoc old.joins in_.begun.more in_.grown.more

  own : joins ≡ in_.begun.more ++ in_.grown.more
  own = ej ∙ ap (λ (l : List Join). drop (length old.joins) l) both ∙ drop-all old.joins (in_.begun.more ++ in_.grown.more)

  pub all : inner.joins ≡ old.joins ++ joins
  all = both ∙ ap (λ (l : List Join). old.joins ++ l) (sym own)

  linked-outside : (a b : ℕ) → a < length nodes → b < length nodes → AreOne old.numbers a b → Linked (length nodes) old.joins a b
  linked-outside a b la lb e = subst (λ n. Linked n old.joins a b) wide ((was.linked a b (omega arith) (omega arith)).0 e)

  inner-wide : length inner.numbers ≡ length nodes
  inner-wide = in_.grown.long ∙ in_.begun.long ∙ wide

  linked-inside : (a b : ℕ) → a < length nodes → b < length nodes → AreOne inner.numbers a b → Linked (length nodes) (old.joins ++ joins) a b
  linked-inside a b la lb e =
      let z = inner-wide in
      subst (λ (l : List Join). Linked (length nodes) l a b) all (subst (λ n. Linked n inner.joins a b) inner-wide ((in_.grown.classes.linked a b (omega arith) (omega arith)).0 e))

  pub block-ground : (g : Graph) → IsGraph g → nodes ≡ g.nodes → ((n p q : ℕ) → Is nodes n (op.Theta d) (p ∷ q ∷ []) → (p < length nodes) × (q < length nodes)) → (ctx : Context) → depths ctx ≡ fixed → BlockGround nodes NoAxiom ctx old.joins (block d pairs joins (blocks_of blocks))
  block-ground g ok gn within ctx e =
      BlockGround.rests ctx old.joins (block d pairs joins (blocks_of blocks))
      (record { least = ind.depth.0; most = ind.depth.1; deeper = λ f m. ind.deeper f (in-of fixed f (subst (λ (l : List ℕ). Contains l f) e m)) })
      (λ x y m. let u = ind.each x y (in-of pairs (x, y) m) in let wx = within x u.0.first u.0.second u.4 in let wy = within y u.1.first u.1.second u.5 in
      record {
        p = u.0.first;
        q = u.0.second;
        r = u.1.first;
        s = u.1.second;
        first = u.4;
        second = u.5;
        starts = linked-outside u.0.first u.1.first wx.0 wy.0 u.6;
        goes_on = linked-inside u.0.second u.1.second wx.1 wy.1 u.7;
      })
      (subst (λ (l : List Block). JoinsGround nodes NoAxiom ((d, pairs) ∷ ctx) old.joins l joins) (sym (listed_blocks blocks))
      (subst (λ (l : List Join). JoinsGround nodes NoAxiom ((d, pairs) ∷ ctx) old.joins blocks l) (sym own)
      (grounds_on nodes NoAxiom ((d, pairs) ∷ ctx) old.joins blocks in_.begun.more in_.grown.more
      (grounds_each nodes NoAxiom ((d, pairs) ∷ ctx) old.joins blocks in_.begun.more (λ j xs m among. let u = in_.begun.each j (in-of in_.begun.more j m) in JoinGround.by_pair d pairs ctx xs blocks j u.0 u.2 u.1))
      (subst (λ (l : List Block). JoinsGround nodes NoAxiom ((d, pairs) ∷ ctx) (old.joins ++ in_.begun.more) l in_.grown.more) (sym eb)
      (subst (λ (l : List Join). JoinsGround nodes NoAxiom ((d, pairs) ∷ ctx) l (drop (length old.blocks) inner.blocks) in_.grown.more) in_.begun.joins
      (in_.grown.rest ((d, pairs) ∷ ctx) (ap (λ (l : List ℕ). d ∷ l) e)))))))

  -- .. and the pairs joined by it
  pub pairs-grown : (g : Graph) → IsGraph g → nodes ≡ g.nodes → ((n p q : ℕ) → Is nodes n (op.Theta d) (p ∷ q ∷ []) → (p < length nodes) × (q < length nodes)) → (first n k : ℕ) (mid new : Classes) → Knows nodes old → first ≤ length old.blocks → k + first ≡ n → pairs ≢ []
      → AddsBlock old mid (block d pairs joins (blocks_of blocks)) n → AllJoined mid new pairs pairs (Some k) → IsGrown nodes fixed first old new
  pairs-grown g ok gn within first n k mid new knows low ek some_ ab h = record {
    long = h.long ∙ ap (λ (l : List ℕ). length l) ab.numbers;
    knows = h.knows nodes (ab.knows nodes knows);
    classes = h.classes;
    sound = λ a b e. merged-joined nodes fixed (AreOne mid.numbers) (AreOne old.numbers) pairs (λ x y f. Joined.given [] x y (subst (λ (l : List ℕ). AreOne l x y) ab.numbers f)) ind.joined_ a b (h.only a b e);
    coarser = λ a b e. h.coarser a b (subst (λ (l : List ℕ). AreOne l a b) (sym ab.numbers) e);
    more = h.more;
    joins = h.joins ∙ ap (λ (l : List Join). l ++ h.more) ab.joins;
    added = block d pairs joins (blocks_of blocks) ∷ [];
    blocks = h.blocks ∙ ab.blocks;
    none = λ e. absurd (some_ (nil_from_length pairs (sym h.count ∙ ap (λ (l : List Join). length l) e)));
    rest = λ ctx e. grounds_each nodes NoAxiom ctx old.joins (drop first new.blocks) h.more (λ j xs m among. let u = h.each j (in-of h.more j m) in
        JoinGround.by_induction ctx xs (drop first new.blocks) j k (block d pairs joins (blocks_of blocks)) u.2 there (of-in pairs (j.first, j.second) (in-at pairs u.0 (j.first, j.second) u.1))
        (block_in nodes NoAxiom ctx old.joins xs (block d pairs joins (blocks_of blocks)) among (block-ground g ok gn within ctx e)));
  }
    where
      there : slice_get (drop first new.blocks) k ≡ Some (block d pairs joins (blocks_of blocks))
      there = ap (λ (l : List Block). slice_get (drop first l) k) (h.blocks ∙ ab.blocks) ∙ drop-last first old.blocks (block d pairs joins (blocks_of blocks)) k (ek ∙ ab.number)

pub not-kids : (b : Option ℕ) (i : ℕ) → reason_of b i ≡ reason.Kids → ⊥
not-kids None i e = cc
not-kids (Some n) i e = cc
