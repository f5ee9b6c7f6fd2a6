-- How classes grow: by closing, by joining the pairs of an induction, and one after the other.
use Rattle.std.proofs.Common.{Bool, true, false, if◌then◌else◌, ◌≡◌, ◌⊎◌, ℕ, zero, suc, ◌<◌, ◌≤◌, List, [], ◌∷◌, ◌++◌, length, drop, Option, Some, None, slice_get, inl, inr, refl, sym, ap, ◌∙◌, subst, arith, append_assoc, length-append}
use Rattle.std.proofs.lemmas.Option.{slice_get_within}
use Rattle.pv_graph.specs.declared.node.Op.{Op}
use Rattle.pv_graph.specs.declared.node.Op.TheVariants as op
use Rattle.pv_graph.specs.declared.node.Node.{Node}
use Rattle.pv_graph.specs.Walks.{In}
use Rattle.std.proofs.lemmas.Bool.Decides.{nat_tests}
use Rattle.pv_graph.specs.declared.node.OpSort.{OpSort}
use Rattle.pv_graph.specs.Nodes.{node_of}
use Rattle.pv_graph.specs.Ops.{is_depth, alike, HasSort}
use Rattle.pv_graph.specs.Graphs.{Graph, IsGraph, IsUnfinished}
use Rattle.pv_classes.specs.declared.join.Join.{Join}
use Rattle.pv_classes.specs.Blocks.{Block}
use Rattle.pv_classes.specs.Partition.{at, AreOne}
use Rattle.pv_classes.specs.Closest.{Is, Closest, AreOfKids}
use Rattle.pv_classes.specs.Grounds.{JoinsGround}
use Rattle.pv_classes.specs.Calls.{Classes, IsClasses, Closes}
use Rattle.pv_classes.proofs.Cited.{grounds_of_kids, grounds_blocks, grounds_on}
use Rattle.pv_induct.specs.Joined.{Joined}
use Rattle.pv_induct.specs.Levels.{NoAxiom, IsSound, IsFull, IsCoarser, IsClosed, IsGrown, Merged, HoldsInductions, IsFrom}
use Rattle.pv_induct.proofs.Nest.{close-into, close-close}
use Rattle.pv_induct.proofs.Contained.{in-at, outside-aside, aside-outside, drop-append}
use Rattle.pv_induct.proofs.Numbered.{far, all-of, coarser-all}

pub kid-within : (g : Graph) → IsGraph g → (n : ℕ) (o : Op) (ks : List ℕ) (i k : ℕ) → Is g.nodes n o ks → slice_get ks i ≡ Some k → k < length g.nodes
kid-within g ok n o ks i k e f = go order
  where
    ln : n < length g.nodes
    ln = slice_get_within g.nodes n (record { op = o; kids = ks }) e

    order : (n < g.base) ⊎ (g.base ≤ n)
    order = grind arith

    go : (n < g.base) ⊎ (g.base ≤ n) → k < length g.nodes
    go (inl l) = let h : k < g.base = ok.early n k (record { op = o; kids = ks }) e l (in-at ks i k f) in let b : g.base ≤ length g.nodes = ok.base in omega arith
    go (inr l) = let h : k < n = ok.late n k (record { op = o; kids = ks }) e l (in-at ks i k f) in let m : n < length g.nodes = ln in omega arith

-- a closing without inductions joins nothing else
pub closest-joined : (nodes : List Node) (fixed : List ℕ) (R : ℕ → ℕ → Type 0) (a b : ℕ) → Closest nodes fixed R a b → Joined nodes fixed R [] a b
closest-joined nodes fixed R a b (Closest.joined _ _ _ _ h) = Joined.given [] a b h
closest-joined nodes fixed R a b (Closest.same _ l) = Joined.same [] a l
closest-joined nodes fixed R a b (Closest.flip _ _ h) = Joined.flip [] a b (closest-joined nodes fixed R b a h)
closest-joined nodes fixed R a b (Closest.chain _ c _ h k) = Joined.chain [] a c b (closest-joined nodes fixed R a c h) (closest-joined nodes fixed R c b k)
closest-joined nodes fixed R a b (Closest.kids _ _ o ks ls e f m n h) =
    Joined.kids [] a b o ks ls e f (outside-aside fixed o m) n (λ i k l u v. closest-joined nodes fixed R k l (h i k l u v))

pub sound-chain : (nodes : List Node) (fixed old mid new : List ℕ) → IsSound nodes fixed old mid → IsSound nodes fixed mid new → IsSound nodes fixed old new
sound-chain nodes fixed old mid new p q a b h = close-close nodes fixed (AreOne mid) (AreOne old) p a b (q a b h)

-- ---- closing

module _ (g : Graph) (ok : IsGraph g) (fixed : List ℕ) (old new : Classes) (was : IsClasses old) (wide : length old.numbers ≡ length g.nodes) (c : Closes g.nodes fixed old new) where
  within : (k : ℕ) → k < length old.numbers → k < length g.nodes
  within k l = omega arith

  pub closes-sound : IsSound g.nodes fixed old.numbers new.numbers
  closes-sound =
      all-of new.numbers (Joined g.nodes fixed (AreOne old.numbers) []) c.classes.low (λ u v h. Joined.flip [] u v h) (λ u v w h k. Joined.chain [] u v w h k)
      (λ u v lu lv e. closest-joined g.nodes fixed (AreOne old.numbers) u v (c.sound u v (let z = c.long in omega arith) (let z = c.long in omega arith) e))
      (λ v l. Joined.given [] 0 v (zero_at ∙ sym (far old.numbers v (let z = c.long in omega arith))))
    where
      zero_at : at old.numbers 0 ≡ 0
      zero_at = go order
        where
          order : (0 < length old.numbers) ⊎ (length old.numbers ≤ 0)
          order = grind arith

          go : (0 < length old.numbers) ⊎ (length old.numbers ≤ 0) → at old.numbers 0 ≡ 0
          go (inl l) = let z : at old.numbers 0 ≤ 0 = was.low 0 l in omega arith
          go (inr l) = far old.numbers 0 l

  pub closes-coarser : IsCoarser old.numbers new.numbers
  closes-coarser = coarser-all old.numbers new.numbers c.long was.low c.classes.low (λ u v lu lv e. c.full u v (within u lu) (within v lv) (Closest.joined u v (within u lu) (within v lv) e))

  pub closes-closed : IsClosed g.nodes fixed new.numbers
  closes-closed a b o ks ls e f m n h =
      c.full a b (slice_get_within g.nodes a (record { op = o; kids = ks }) e) (slice_get_within g.nodes b (record { op = o; kids = ls }) f)
      (Closest.kids a b o ks ls e f (aside-outside fixed o m) n (λ i k l u v. c.sound k l (kid-within g ok a o ks i k e u) (kid-within g ok b o ls i l f v) (h i k l u v)))

  pub closes-grown : (first : ℕ) → IsGrown g.nodes fixed first old new
  closes-grown first = record {
    long = c.long;
    knows = c.knows;
    classes = c.classes;
    sound = closes-sound;
    coarser = closes-coarser;
    more = c.more;
    joins = c.joins;
    added = [];
    blocks = c.blocks ∙ sym (append-none old.blocks);
    none = λ e. refl;
    rest = λ ctx e. grounds_of_kids g.nodes NoAxiom ctx old.joins (drop first new.blocks) c.more (subst (λ (ds : List ℕ). AreOfKids g.nodes ds old.joins c.more) (sym e) c.of_kids);
  }
    where
      append-none : (l : List Block) → l ++ [] ≡ l
      append-none [] = refl
      append-none (x ∷ l) = ap (λ (m : List Block). x ∷ m) (append-none l)

-- ---- one after the other

both-none : {A : Type 0} (xs ys : List A) → xs ++ ys ≡ [] → (xs ≡ []) × (ys ≡ [])
both-none {A} [] ys e = (refl, e)
both-none {A} (x ∷ xs) ys e = absurd (cc)

pub grown-chain : (nodes : List Node) (fixed : List ℕ) (first : ℕ) (old mid new : Classes) → first ≤ length old.blocks → IsGrown nodes fixed first old mid → IsGrown nodes fixed first mid new → IsGrown nodes fixed first old new
grown-chain nodes fixed first old mid new low p q = record {
  long = q.long ∙ p.long;
  knows = q.knows;
  classes = q.classes;
  sound = sound-chain nodes fixed old.numbers mid.numbers new.numbers p.sound q.sound;
  coarser = λ a b e. q.coarser a b (p.coarser a b e);
  more = p.more ++ q.more;
  joins = q.joins ∙ ap (λ (l : List Join). l ++ q.more) p.joins ∙ append_assoc old.joins p.more q.more;
  added = p.added ++ q.added;
  blocks = q.blocks ∙ ap (λ (l : List Block). l ++ q.added) p.blocks ∙ append_assoc old.blocks p.added q.added;
  none = λ e. let f = both-none p.more q.more e in ap (λ (l : List Block). l ++ q.added) (p.none f.0) ∙ q.none f.1;
  rest = λ ctx e. grounds_on nodes NoAxiom ctx old.joins (drop first new.blocks) p.more q.more
      (subst (λ (l : List Block). JoinsGround nodes NoAxiom ctx old.joins l p.more) (sym later) (grounds_blocks nodes NoAxiom ctx old.joins (drop first mid.blocks) q.added p.more (p.rest ctx e)))
      (subst (λ (l : List Join). JoinsGround nodes NoAxiom ctx l (drop first new.blocks) q.more) p.joins (q.rest ctx e));
}
  where
    low_mid : first ≤ length mid.blocks
    low_mid = omega (arith, ap length p.blocks, length-append old.blocks p.added)

    later : drop first new.blocks ≡ drop first mid.blocks ++ q.added
    later = ap (λ (l : List Block). drop first l) q.blocks ∙ drop-append first mid.blocks q.added low_mid

-- ---- the end

sort-at : {A : Type 0} (xs : List A) (i : ℕ) → i < length xs → (x : A) × (slice_get xs i ≡ Some x)
sort-at {A} [] i l = absurd (omega arith)
sort-at {A} (x ∷ xs) zero l = (x, refl)
sort-at {A} (x ∷ xs) (suc i) l = sort-at xs i (omega arith)

depth-or : {A : Type 0} (t : Bool) (o : Option A) (s : A) → (if t then o else None) ≡ Some s → t ≡ true
depth-or {A} true o s e = refl
depth-or {A} false o s e = absurd (cc)

-- a theta with two kids has a depth of loops
pub theta-depth : (g : Graph) → IsGraph g → (n d p q : ℕ) → Is g.nodes n (op.Theta d) (p ∷ q ∷ []) → (1 ≤ d) × (d ≤ 16)
theta-depth g ok n d p q e = bounds d (go (ok.sorted n (node_of (op.Theta d) (p ∷ q ∷ [])) s.0 e s.1))
  where
    s : (s : OpSort) × (slice_get g.sorts n ≡ Some s)
    s = let z = slice_get_within g.nodes n (node_of (op.Theta d) (p ∷ q ∷ [])) e in let y = ok.long in sort-at g.sorts n (omega (arith, z, y))

    bounds : (d : ℕ) → is_depth d ≡ true → (1 ≤ d) × (d ≤ 16)
    bounds d e = (grind (arith, nat_tests), grind (arith, nat_tests))

    no-kids : (ks : List ℕ) → ks ≡ p ∷ q ∷ [] → ks ≡ [] → ⊥
    no-kids ks e f = cc

    go : HasSort g.sorts (op.Theta d) (p ∷ q ∷ []) s.0 ⊎ ((g.is_open ≡ true) × IsUnfinished (node_of (op.Theta d) (p ∷ q ∷ [])) s.0) → is_depth d ≡ true
    go (inl x) = depth-or (is_depth d) (alike x.sorts) s.0 x.over
    go (inr x) = absurd (no-kids (p ∷ q ∷ []) refl x.1.kids)

-- closed classes that hold the inductions at all depths hold all that may be joined
pub full-exit : (g : Graph) → IsGraph g → (fixed old new : List ℕ) (from : ℕ) → IsFrom fixed from → IsCoarser old new → ((a : ℕ) → AreOne new a a) → IsClosed g.nodes fixed new
    → ((d : ℕ) → from ≤ d → d < 17 → HoldsInductions g.nodes fixed new d) → IsFull g.nodes fixed old new
full-exit g ok fixed old new from above coarser own closed holds a b h =
    close-into g.nodes fixed (AreOne old) (AreOne new) coarser (λ x l. refl) (λ x y e. sym e) (λ x y z e f. e ∙ f) closed
    (λ d P i x y m. let t = i.thetas x y m in let r = theta-depth g ok x d t.0 t.1 t.4 in let l = r.1 in
    holds d (above.up d r.0 i.deeper) (omega arith) P i x y m) a b h

-- ---- merging

pub merged-joined : (nodes : List Node) (fixed : List ℕ) (R K : ℕ → ℕ → Type 0) (pairs : List (ℕ × ℕ)) → ((a b : ℕ) → R a b → Joined nodes fixed K [] a b) → ((a b : ℕ) → In pairs (a, b) → Joined nodes fixed K [] a b)
    → (a b : ℕ) → Merged R pairs a b → Joined nodes fixed K [] a b
merged-joined nodes fixed R K pairs p q a b (Merged.old _ _ h) = p a b h
merged-joined nodes fixed R K pairs p q a b (Merged.pair _ _ m) = q a b m
merged-joined nodes fixed R K pairs p q a b (Merged.flip _ _ h) = Joined.flip [] a b (merged-joined nodes fixed R K pairs p q b a h)
merged-joined nodes fixed R K pairs p q a b (Merged.chain _ c _ h k) = Joined.chain [] a c b (merged-joined nodes fixed R K pairs p q a c h) (merged-joined nodes fixed R K pairs p q c b k)

-- merging on from what was merged
pub merged-on : (R S : ℕ → ℕ → Type 0) (P Q : List (ℕ × ℕ)) → ((a b : ℕ) → S a b → Merged R P a b) → ((a b : ℕ) → In Q (a, b) → Merged R P a b) → (a b : ℕ) → Merged S Q a b → Merged R P a b
merged-on R S P Q p q a b (Merged.old _ _ h) = p a b h
merged-on R S P Q p q a b (Merged.pair _ _ m) = q a b m
merged-on R S P Q p q a b (Merged.flip _ _ h) = Merged.flip a b (merged-on R S P Q p q b a h)
merged-on R S P Q p q a b (Merged.chain _ c _ h k) = Merged.chain a c b (merged-on R S P Q p q a c h) (merged-on R S P Q p q c b k)
