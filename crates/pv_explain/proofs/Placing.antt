-- The place where a join is explained: what its ground gives there, and the place after it.
use Rattle.std.specs.Prelude.{◌≡◌, ◌⊎◌, ℕ, zero, suc, ◌+◌, ◌<◌, ◌≤◌, false, Option, None, Result, Ok, Err, IfOk, OnOk, IfSome, List, [], ◌∷◌, ◌++◌, length, Some, slice_get, drop, take}
use Rattle.std.specs.List.{Contains}
use Rattle.std.specs.Option.{IsSome}
use Rattle.std.proofs.Common.{inl, inr, refl, sym, ap, ◌∙◌, subst, arith, append_assoc}
use Rattle.std.proofs.Math.ListN.{get_or}
use Rattle.std.proofs.Math.Seq.{drop-cons, take-suc}
use Rattle.std.proofs.lemmas.List.{append-nil}
use Rattle.std.proofs.lemmas.Option.{get_or_from_slice_get, same_Some, slice_get_within}
use Rattle.std.proofs.lemmas.List.Elements.{Contains-push_cases}
use Rattle.pv_graph.specs.declared.node.Op.{Op}
use Rattle.pv_graph.specs.declared.node.Op.TheVariants as op
use Rattle.pv_graph.specs.declared.node.OpSort.{OpSort}
use Rattle.pv_graph.specs.declared.node.Node.{Node}
use Rattle.pv_graph.specs.Ops.{shape}
use Rattle.pv_graph.specs.Nodes.{node_of}
use Rattle.pv_graph.specs.Walks.{In}
use Rattle.pv_graph.specs.Graphs.{Graph, IsGraph}
use Rattle.pv_graph.specs.Calls.{AreSorts}
use Rattle.pv_graph.proofs.Cited.{kid_within, push_cases, tied}
use Rattle.pv_steps.specs.Steps.{OpenBlock, blocks, assumed_in}
use Rattle.pv_steps.specs.Right.{IsFresh, looks_at}
use Rattle.pv_axioms.specs.Entries.{Instance}
use Rattle.pv_classes.specs.declared.join.Join.{Join}
use Rattle.pv_classes.specs.declared.join.Reason.TheVariants as reason
use Rattle.pv_classes.specs.Blocks.{Block, block, blocks_of, inner_of, pairs_of, size_of, size_of_all}
use Rattle.pv_classes.specs.Closest.{IsOutside as IsAside, IsOfKids}
use Rattle.pv_classes.specs.Grounds.{Context, depths, JoinGround, JoinsGround}
use Rattle.pv_classes.specs.Sorts.{HaveOneSort, JoinOneSort}
use Rattle.pv_classes.proofs.Elements.{contains_at, in_first}
use Rattle.pv_classes.proofs.Sorted.{ContextOneSort, grounds_sorts}
use Rattle.pv_paths.specs.Paths.{Joined}
use Rattle.pv_writer.specs.Written.{Written, GoesOn}
use Rattle.pv_explain.specs.declared.source.Source.{Source}
use Rattle.pv_explain.specs.declared.follow.Line.{Line}
use Rattle.pv_explain.specs.declared.level.Level.{Level}
use Rattle.pv_explain.specs.Sections.{IsGiven}
use Rattle.pv_explain.specs.Lines.{IsLevel, IsSource, AreKidsLinked, IsInstanceAt, IsStated, AreStated, IsLineOf, sides}
use Rattle.pv_explain.specs.Levels.{AreLow, ends_of, IsFound, PairsOneSort, IsPlace, JoinStands, JoinsStand, LearnsAt, GrowsAt}
use Rattle.pv_explain.specs.Iterations.{BlockStands}
use Rattle.pv_explain.specs.Named.{IsReady, OfJoin}
use Rattle.pv_explain.proofs.Copying.{copied_low, source_later}
use Rattle.pv_explain.proofs.Naming.{axiom_copies}
use Rattle.pv_explain.proofs.Following.{stated_goes}
use Rattle.pv_explain.proofs.Congruent.{level_goes}
use Rattle.pv_explain.proofs.Linking.{all_linked_by, at_index, ends_more, sides_more, sides_next}

-- ---- a join by kids

-- the depth at whose other iterations an operation looks isn't fixed
aside_depth : (fixed : List ℕ) (o : Op) (d : ℕ) → IsAside fixed o → looks_at (shape o) ≡ Some d → Contains fixed d → ⊥
aside_depth fixed (op.Theta e) d h looks c = h (subst (Contains fixed) (sym (same_Some e d looks)) c)
aside_depth fixed (op.Eval e) d h looks c = h (subst (Contains fixed) (sym (same_Some e d looks)) c)
aside_depth fixed (op.Pass e) d h looks c = h (subst (Contains fixed) (sym (same_Some e d looks)) c)
aside_depth fixed (op.Shift e) d h looks c = h (subst (Contains fixed) (sym (same_Some e d looks)) c)
aside_depth fixed o d h looks c = absurd (cc)

kids_linked : (w : Written) (s : Source) (level : Level) (assumed : List ℕ) (ctx : Context) (before : List Join) (j : Join) → IsPlace w s level assumed ctx before → OfJoin (IsReady s) j → IsOfKids s.graph.now.nodes (depths ctx) before j → AreKidsLinked w s level j.first j.second
kids_linked w s level assumed ctx before j place named h =
    let low = λ (n : ℕ) (ks : List ℕ) (is : slice_get s.graph.now.nodes n ≡ Some (node_of h.o ks)) (k : ℕ) (m : In ks k). kid_within s.graph.now place.source.made n k (node_of h.o ks) is m in
    record {
      o = h.o;
      lefts = h.ks;
      rights = h.ls;
      left_is = h.first;
      right_is = h.second;
      linked = all_linked_by (length s.graph.now.nodes) level before h.ks h.ls place.ends (low j.first h.ks h.first) (low j.second h.ls h.second) h.kids;
      fresh = λ d looks. place.open_ d (aside_depth (depths ctx) h.o d h.outside looks);
      first = named.first (slice_get_within s.graph.now.nodes j.first (node_of h.o h.ks) h.first);
      second = named.second (slice_get_within s.graph.now.nodes j.second (node_of h.o h.ls) h.second);
    }

pub join_kids : (w : Written) (s : Source) (level : Level) (bs : List Block) (j : Join) → JoinStands w s level bs j → j.why ≡ reason.Kids → AreKidsLinked w s level j.first j.second
join_kids w s level bs j h e = by h.ctx h.before h.place h.ground
  where
    by : (ctx : Context) (before : List Join) → IsPlace w s level h.assumed ctx before → JoinGround s.graph.now.nodes (IsGiven s.graph.now h.assumed) ctx before bs j → AreKidsLinked w s level j.first j.second
    by ctx before place (JoinGround.by_axiom _ _ _ n ns why given) = absurd (let z = sym why ∙ e in cc)
    by ctx before place (JoinGround.by_kids _ _ _ _ k) = kids_linked w s level h.assumed ctx before j place h.named.join k
    by ctx before place (JoinGround.by_induction _ _ _ _ n b why at_n there g) = absurd (let z = sym why ∙ e in cc)
    by ctx before place (JoinGround.by_pair d pairs outer _ _ _ i why at_i) = absurd (let z = sym why ∙ e in cc)

-- ---- a join by an axiom

given_at : (w : Written) (s : Source) (level : Level) (assumed : List ℕ) (ctx : Context) (before : List Join) (n : ℕ) (ns : List ℕ) (j : Join) → IsPlace w s level assumed ctx before → OfJoin (IsReady s) j → j.why ≡ reason.Axiom n ns → IsGiven s.graph.now assumed n ns j.first j.second
    → IsInstanceAt w s n ns j.first j.second
given_at w s level assumed ctx before n ns j place named why given = record {
  instance_ = subst (λ (es : List ℕ). Instance s.graph.now es n ns j.first j.second) (sym place.assumes) given.instance_;
  low = λ e m. place.low e (subst (λ (es : List ℕ). In es e) place.assumes m);
  copies = axiom_copies s j n ns named why given.nodes_;
  first = named.first given.first;
  second = named.second given.second;
}

pub join_axiom : (w : Written) (s : Source) (level : Level) (bs : List Block) (j : Join) (n : ℕ) (ns list : List ℕ) → JoinStands w s level bs j → j.why ≡ reason.Axiom n ns → list ≡ ns → IsInstanceAt w s n list j.first j.second
join_axiom w s level bs j n ns list h e f = by h.ctx h.before h.place h.ground
  where
    by : (ctx : Context) (before : List Join) → IsPlace w s level h.assumed ctx before → JoinGround s.graph.now.nodes (IsGiven s.graph.now h.assumed) ctx before bs j → IsInstanceAt w s n list j.first j.second
    by ctx before place (JoinGround.by_axiom _ _ _ m ms why given) =
        let z : reason.Axiom m ms ≡ reason.Axiom n ns = sym why ∙ e in
        let p : m ≡ n = cc in
        let q : ms ≡ list = let y : ms ≡ ns = cc in y ∙ sym f in
        subst (λ (k : ℕ). IsInstanceAt w s k list j.first j.second) p (subst (λ (ks : List ℕ). IsInstanceAt w s m ks j.first j.second) q (given_at w s level h.assumed [] before m ms j place h.named.join why given))
    by ctx before place (JoinGround.by_kids _ _ _ _ k) = absurd (let z = sym k.why ∙ e in cc)
    by ctx before place (JoinGround.by_induction _ _ _ _ m b why at_m there g) = absurd (let z = sym why ∙ e in cc)
    by ctx before place (JoinGround.by_pair d pairs outer _ _ _ i why at_i) = absurd (let z = sym why ∙ e in cc)

-- ---- a join by an induction

-- the block that it cites, which has its ground there
pub record HasBlock (w : Written) (s : Source) (level : Level) (bs : List Block) (n : ℕ) (j : Join) : Type 0 where
  pub b : Block
  pub there : slice_get bs n ≡ Some b
  pub pair : Contains (pairs_of b) (j.first, j.second)
  pub stands : BlockStands w s level b

pub join_block : (w : Written) (s : Source) (level : Level) (bs : List Block) (j : Join) (n : ℕ) → JoinStands w s level bs j → j.why ≡ reason.Induction n → HasBlock w s level bs n j
join_block w s level bs j n h e = by h.ctx h.before h.place h.ground
  where
    by : (ctx : Context) (before : List Join) → IsPlace w s level h.assumed ctx before → JoinGround s.graph.now.nodes (IsGiven s.graph.now h.assumed) ctx before bs j → HasBlock w s level bs n j
    by ctx before place (JoinGround.by_axiom _ _ _ m ms why given) = absurd (let z = sym why ∙ e in cc)
    by ctx before place (JoinGround.by_kids _ _ _ _ k) = absurd (let z = sym k.why ∙ e in cc)
    by ctx before place (JoinGround.by_induction _ _ _ _ m b why at_m there g) =
        let z : reason.Induction m ≡ reason.Induction n = sym why ∙ e in
        let p : m ≡ n = cc in
        record { b = b; there = subst (λ (k : ℕ). slice_get bs k ≡ Some b) p at_m; pair = there; stands = record { assumed = h.assumed; ctx = ctx; before = before; place = place; ground = g; named = h.named.cited m b why at_m } }
    by ctx before place (JoinGround.by_pair d pairs outer _ _ _ i why at_i) = absurd (let z = sym why ∙ e in cc)

-- each block is no greater than all
pub size_in : (bs : List Block) (n : ℕ) (b : Block) → slice_get bs n ≡ Some b → size_of b ≤ size_of_all (blocks_of bs)
size_in [] n b e = absurd (cc)
size_in (c ∷ bs) zero b e = let z = ap size_of (same_Some c b e) in omega (arith, z)
size_in (c ∷ bs) (suc n) b e = let z = size_in bs n b e in omega (arith, z)

-- the blocks inside a block are smaller
pub size_inside : (b : Block) (bs : List Block) → blocks_of bs ≡ inner_of b → suc (size_of_all (blocks_of bs)) ≡ size_of b
size_inside (block d pairs joins inner) bs e = let z = ap size_of_all e in omega (arith, z)

-- ---- a join by a pair of the innermost induction

pub join_pair : (w : Written) (s : Source) (level : Level) (bs : List Block) (j : Join) (n : ℕ) → JoinStands w s level bs j → j.why ≡ reason.Pair n → (l : Line) × IsFound level.known.items j.first j.second l
join_pair w s level bs j n h e = by h.ctx h.before h.place h.ground
  where
    by : (ctx : Context) (before : List Join) → IsPlace w s level h.assumed ctx before → JoinGround s.graph.now.nodes (IsGiven s.graph.now h.assumed) ctx before bs j → (l : Line) × IsFound level.known.items j.first j.second l
    by ctx before place (JoinGround.by_axiom _ _ _ m ms why given) = absurd (let z = sym why ∙ e in cc)
    by ctx before place (JoinGround.by_kids _ _ _ _ k) = absurd (let z = sym k.why ∙ e in cc)
    by ctx before place (JoinGround.by_induction _ _ _ _ m b why at_m there g) = absurd (let z = sym why ∙ e in cc)
    by ctx before place (JoinGround.by_pair d pairs outer _ _ _ i why at_i) = place.pairs j.first j.second (contains_at pairs (j.first, j.second) i at_i)

-- a line that is found is one of its nodes
pub found_line : (w : Written) (map : List (Option ℕ)) (lines : List Line) (a b : ℕ) (l : Line) → AreStated w map lines → IsFound lines a b l → IsLineOf w map a b l
found_line w map lines a b l stated f = record { first = f.first; second = f.second; stated = stated f.place l f.there }

-- one of no nodes among the last lines, and one line more
pub none_more : (lines : List Line) (i a b n : ℕ) (d : Line) → n + i + 1 ≡ length lines → ((get_or lines n d).first ≡ a → (get_or lines n d).second ≡ b → ⊥) → ((k : Line) (f : IsFound lines a b k) → length lines ≤ f.place + i → ⊥)
    → (k : Line) (f : IsFound lines a b k) → length lines ≤ f.place + (i + 1) → ⊥
none_more lines i a b n d long other before k f high = by (split f.place high)
  where
    split : (p : ℕ) → length lines ≤ p + (i + 1) → (length lines ≤ p + i) ⊎ (p ≡ n)
    split p h = grind arith

    by : (length lines ≤ f.place + i) ⊎ (f.place ≡ n) → ⊥
    by (inl h) = before k f h
    by (inr same) =
        let here : get_or lines n d ≡ k = ap (λ (m : ℕ). get_or lines m d) (sym same) ∙ get_or_from_slice_get lines f.place k d f.there in
        other (ap (λ (l : Line). l.first) here ∙ f.first) (ap (λ (l : Line). l.second) here ∙ f.second)

pub some_line : (o : Option Line) → (o ≡ None → ⊥) → IsSome o
some_line None f = absurd (f refl)
some_line (Some l) f = refl

pub line_of_some : (lines : List Line) (a b : ℕ) (o : Option Line) (l : Line) → IfSome o (λ k. IsFound lines a b k) → o ≡ Some l → IsFound lines a b l
line_of_some lines a b None l h e = absurd (cc)
line_of_some lines a b (Some k) l h e = subst (IsFound lines a b) (same_Some k l e) h

-- ---- the next place

-- each node has its sort
pub graph_sorts : (g : Graph) → IsGraph g → g.is_open ≡ false → AreSorts g.nodes g.sorts
graph_sorts g is sealed = record { long = is.long; each = λ n node s e f. tied g sealed node s (is.sorted n node s e f) }

context_sorts : (nodes : List Node) (sorts : List OpSort) (sorted : AreSorts nodes sorts) (ctx : Context) → PairsOneSort sorts ctx → ContextOneSort nodes sorts sorted ctx
context_sorts nodes sorts sorted [] h = tt
context_sorts nodes sorts sorted (c ∷ ctx) h = (h.0, context_sorts nodes sorts sorted ctx h.1)

-- the nodes of a join that has its ground have one sort
join_sorts : (w : Written) (s : Source) (level : Level) (assumed : List ℕ) (ctx : Context) (before : List Join) (bs : List Block) (j : Join) → IsPlace w s level assumed ctx before → JoinGround s.graph.now.nodes (IsGiven s.graph.now assumed) ctx before bs j
    → HaveOneSort s.graph.now.sorts j.first j.second
join_sorts w s level assumed ctx before bs j place ground =
    let nodes = s.graph.now.nodes in
    let sorts = s.graph.now.sorts in
    let sorted = graph_sorts s.graph.now place.source.made place.source.sealed in
    grounds_sorts nodes sorts sorted (IsGiven s.graph.now assumed) (λ n ns a b given. given.one_sort) ctx before bs (j ∷ []) place.one_sort (context_sorts nodes sorts sorted ctx place.pairs_sort)
    (JoinsGround.next ctx before bs j [] ground (JoinsGround.none ctx (before ++ j ∷ []) bs)) j (in_first [] j)

one_sort_more : (sorts : List OpSort) (before : List Join) (j : Join) → JoinOneSort sorts before → HaveOneSort sorts j.first j.second → JoinOneSort sorts (before ++ j ∷ [])
one_sort_more sorts before j one h k there = elim (Contains-push_cases before j k there) [ inl c ↦ one k c | inr e ↦ subst (λ (v : Join). HaveOneSort sorts v.first v.second) e h ]

stated_more : (w : Written) (map : List (Option ℕ)) (lines : List Line) (l : Line) → AreStated w map lines → IsStated w map l → AreStated w map (lines ++ l ∷ [])
stated_more w map lines l h s j k e = elim (push_cases lines l k j e) [ inl f ↦ h j k f | inr f ↦ subst (IsStated w map) f.1 s ]

-- a level with one line more
pub record IsPushed (old new : Level) (l : Line) : Type 0 where
  pub nodes_ : new.forest.nodes ≡ old.forest.nodes
  pub ends : new.forest.ends ≡ old.forest.ends ++ (l.first, l.second) ∷ []
  pub lines : new.lines.items ≡ old.lines.items ++ l ∷ []
  pub known : new.known.items ≡ old.known.items

pub front_there : {A : Type 0} (xs ys : List A) (i : ℕ) (x : A) → slice_get xs i ≡ Some x → slice_get (xs ++ ys) i ≡ Some x
front_there [] ys i x e = absurd (cc)
front_there (z ∷ xs) ys zero x e = e
front_there (z ∷ xs) ys (suc i) x e = front_there xs ys i x e

found_more : (old new more : List Line) (a b : ℕ) → new ≡ old ++ more → ((l : Line) × IsFound old a b l) → (l : Line) × IsFound new a b l
found_more old new more a b e (l, f) = (l, record { place = f.place; there = subst (λ (ls : List Line). slice_get ls f.place ≡ Some l) (sym e) (front_there old more f.place l f.there); first = f.first; second = f.second })

level_pushed : (w : Written) (s : Source) (old new : Level) (l : Line) → IsLevel w s old → IsPushed old new l → IsStated w s.map.now l → IsLevel w s new
level_pushed w s old new l h p stated = record {
  nodes_ = p.nodes_ ∙ h.nodes_;
  ends = p.ends ∙ ap (λ (es : List (ℕ × ℕ)). es ++ (l.first, l.second) ∷ []) h.ends ∙ sym (sides_more old.lines.items l) ∙ ap sides (sym p.lines);
  stated = subst (AreStated w s.map.now) (sym p.lines) (stated_more w s.map.now old.lines.items l h.stated stated);
}

level_learnt : (w : Written) (s : Source) (old new : Level) → IsLevel w s old → LearnsAt w s old new → IsLevel w s new
level_learnt w s old new h learns = record {
  nodes_ = ap (λ (f : Joined). f.nodes) learns.forest_ ∙ h.nodes_;
  ends = ap (λ (f : Joined). f.ends) learns.forest_ ∙ h.ends ∙ ap sides (sym learns.lines);
  stated = subst (AreStated w s.map.now) (sym learns.lines) h.stated;
}

-- after a join has its line
next_place : (old new : Written) (s : Source) (first then last : Level) (assumed : List ℕ) (ctx : Context) (before : List Join) (bs : List Block) (j : Join) (l : Line) → IsPlace old s first assumed ctx before
    → JoinGround s.graph.now.nodes (IsGiven s.graph.now assumed) ctx before bs j → GoesOn old new → LearnsAt new s first then → IsLineOf new s.map.now j.first j.second l → IsPushed then last l → IsPlace new s last assumed ctx (before ++ j ∷ [])
next_place old new s first then last assumed ctx before bs j l place ground goes learns line pushed = record {
  source = source_later old new s goes.later place.source;
  lines = level_pushed new s then last l (level_learnt new s first then (level_goes old new s first goes place.lines) learns) pushed line.stated;
  ends = ap sides pushed.lines ∙ sides_next then.lines.items l before j (ap sides learns.lines ∙ place.ends) line.first line.second;
  known = subst (AreStated new s.map.now) (sym pushed.known) learns.stated;
  pairs = λ a b c. found_more first.known.items last.known.items learns.more a b (pushed.known ∙ learns.known_) (place.pairs a b c);
  open_ = λ d out. subst (λ (ps : List OpenBlock). IsFresh d (blocks ps)) (sym goes.blocks) (place.open_ d out);
  assumes = ap assumed_in goes.blocks ∙ place.assumes;
  low = place.low;
  one_sort = one_sort_more s.graph.now.sorts before j place.one_sort (join_sorts old s first assumed ctx before bs j place ground);
  pairs_sort = place.pairs_sort;
}

-- ---- joins, one after the other

first_ground : (nodes : List Node) (Given : ℕ → List ℕ → ℕ → ℕ → Type 0) (ctx : Context) (before : List Join) (bs : List Block) (j : Join) (joins : List Join) → JoinsGround nodes Given ctx before bs (j ∷ joins) → JoinGround nodes Given ctx before bs j
first_ground nodes Given ctx before bs j joins (JoinsGround.next _ _ _ _ _ g h) = g

rest_grounds : (nodes : List Node) (Given : ℕ → List ℕ → ℕ → ℕ → Type 0) (ctx : Context) (before : List Join) (bs : List Block) (j : Join) (joins : List Join) → JoinsGround nodes Given ctx before bs (j ∷ joins)
    → JoinsGround nodes Given ctx (before ++ j ∷ []) bs joins
rest_grounds nodes Given ctx before bs j joins (JoinsGround.next _ _ _ _ _ g h) = h

pub first_stands : (w : Written) (s : Source) (level : Level) (bs : List Block) (j : Join) (joins : List Join) → JoinsStand w s level bs (j ∷ joins) → JoinStands w s level bs j
first_stands w s level bs j joins h = record { assumed = h.assumed; ctx = h.ctx; before = h.before; place = h.place; ground = first_ground s.graph.now.nodes (IsGiven s.graph.now h.assumed) h.ctx h.before bs j joins h.grounds; named = h.named.0 }

pub rest_stand : (old new : Written) (s : Source) (first then last : Level) (bs : List Block) (j : Join) (joins : List Join) (l : Line) → JoinsStand old s first bs (j ∷ joins) → GoesOn old new → LearnsAt new s first then → IsLineOf new s.map.now j.first j.second l
    → IsPushed then last l → JoinsStand new s last bs joins
rest_stand old new s first then last bs j joins l h goes learns line pushed = record {
  assumed = h.assumed;
  ctx = h.ctx;
  before = h.before ++ j ∷ [];
  place =
      next_place old new s first then last h.assumed h.ctx h.before bs j l h.place (first_ground s.graph.now.nodes (IsGiven s.graph.now h.assumed) h.ctx h.before bs j joins h.grounds) goes learns line pushed;
  grounds = rest_grounds s.graph.now.nodes (IsGiven s.graph.now h.assumed) h.ctx h.before bs j joins h.grounds;
  named = h.named.1;
}

-- ---- all lines of a level

pub grows_none : (w : Written) (s : Source) (level : Level) (bs : List Block) (joins : List Join) → JoinsStand w s level bs joins → GrowsAt w s level level []
grows_none w s level bs joins h = record {
  lines = h.place.lines;
  ends = sym (append-nil (sides level.lines.items));
  more = [];
  known_ = sym (append-nil level.known.items);
  stated = h.place.known;
}

pub grows_next : (old new : Written) (s : Source) (first middle then last : Level) (bs : List Block) (j : Join) (joins done : List Join) (l : Line) → JoinsStand old s middle bs (j ∷ joins) → GrowsAt old s first middle done → GoesOn old new → LearnsAt new s middle then
    → IsLineOf new s.map.now j.first j.second l → IsPushed then last l → GrowsAt new s first last (done ++ j ∷ [])
grows_next old new s first middle then last bs j joins done l h grows goes learns line pushed =
    let place = (rest_stand old new s middle then last bs j joins l h goes learns line pushed).place in
    record {
      lines = place.lines;
      ends =
          ap sides pushed.lines ∙ ap (λ (ls : List Line). sides (ls ++ l ∷ [])) learns.lines ∙ sides_more middle.lines.items l
          ∙ ap (λ (es : List (ℕ × ℕ)). es ++ (l.first, l.second) ∷ []) grows.ends ∙ append_assoc (sides first.lines.items) (ends_of done) ((l.first, l.second) ∷ [])
          ∙ ap (λ (p : ℕ × ℕ). sides first.lines.items ++ (ends_of done ++ p ∷ [])) (pair line.first line.second) ∙ ap (λ (es : List (ℕ × ℕ)). sides first.lines.items ++ es) (sym (ends_more done j));
      more = grows.more ++ learns.more;
      known_ = pushed.known ∙ learns.known_ ∙ ap (λ (ls : List Line). ls ++ learns.more) grows.known_ ∙ append_assoc first.known.items grows.more learns.more;
      stated = place.known;
    }
  where
    pair : l.first ≡ j.first → l.second ≡ j.second → ◌≡◌ {A = ℕ × ℕ} (l.first, l.second) (j.first, j.second)
    pair e f = ap (λ (m : ℕ). (m, l.second)) e ∙ ap (λ (m : ℕ). (j.first, m)) f

-- ---- what is learnt at a level

pub learns_none : (w : Written) (s : Source) (level : Level) → AreStated w s.map.now level.known.items → LearnsAt w s level level
learns_none w s level h = record { forest_ = refl; lines = refl; more = []; known_ = sym (append-nil level.known.items); stated = h }

both_stated : (w : Written) (map : List (Option ℕ)) (xs ys : List Line) → AreStated w map xs → AreStated w map ys → AreStated w map (xs ++ ys)
both_stated w map [] ys h k j l e = k j l e
both_stated w map (x ∷ xs) ys h k zero l e = h 0 l e
both_stated w map (x ∷ xs) ys h k (suc j) l e = both_stated w map xs ys (λ i m f. h (suc i) m f) k j l e

pub learns_more : (w : Written) (s : Source) (old new : Level) (more : List Line) → new.forest ≡ old.forest → new.lines.items ≡ old.lines.items → new.known.items ≡ old.known.items ++ more → AreStated w s.map.now old.known.items → AreStated w s.map.now more → LearnsAt w s old new
learns_more w s old new more e f g h k = record { forest_ = e; lines = f; more = more; known_ = g; stated = subst (AreStated w s.map.now) (sym g) (both_stated w s.map.now old.known.items more h k) }

-- a line was stated, and the level is as it was
pub learns_where_ok : {T E : Type 0} → (old new : Written) (s : Source) (level : Level) (r : Result T E) → AreStated old s.map.now level.known.items → IfOk r (λ l. GoesOn old new) → OnOk r (LearnsAt new s level level)
learns_where_ok old new s level (Ok l) stated goes = learns_none new s level (stated_goes old new s.map.now level.known.items goes stated)
learns_where_ok old new s level (Err e) stated goes = tt

-- ---- as the loop over joins has it

pub joins_at : (w : Written) (s : Source) (level : Level) (bs : List Block) (joins : List Join) (i : ℕ) (j : Join) → i < length joins → j ≡ get_or joins i j → JoinsStand w s level bs (drop i joins) → JoinsStand w s level bs (j ∷ drop (i + 1) joins)
joins_at w s level bs joins i j low at h =
    subst (λ (k : ℕ). JoinsStand w s level bs (j ∷ drop k joins)) (one_more i)
    (subst (λ (k : Join). JoinsStand w s level bs (k ∷ drop (suc i) joins)) (sym at) (subst (JoinsStand w s level bs) (drop-cons joins i j low) h))
  where
    one_more : (n : ℕ) → suc n ≡ n + 1
    one_more n = omega arith

pub take_next : (joins : List Join) (i : ℕ) (j : Join) → i < length joins → j ≡ get_or joins i j → take i joins ++ j ∷ [] ≡ take (i + 1) joins
take_next joins i j low at = ap (λ (k : Join). take i joins ++ k ∷ []) at ∙ sym (take-suc joins i j low) ∙ ap (λ (n : ℕ). take n joins) (one_more i)
  where
    one_more : (n : ℕ) → suc n ≡ n + 1
    one_more n = omega arith

-- the nodes of a line are nodes of the forest
pub line_low : (old new : Written) (s : Source) (level : Level) (bs : List Block) (joins : List Join) (a b : ℕ) (l : Line) → JoinsStand old s level bs joins → GoesOn old new → IsLineOf new s.map.now a b l → (l.first < level.forest.nodes) × (l.second < level.forest.nodes)
line_low old new s level bs joins a b l h goes line =
    let source = source_later old new s goes.later h.place.source in
    let p = copied_low s.graph.now new.graph s.map.now l.first l.left source.copies line.stated.left in
    let q = copied_low s.graph.now new.graph s.map.now l.second l.right source.copies line.stated.right in
    let n = h.place.lines.nodes_ in
    (omega (arith, p, n), omega (arith, q, n))

-- ---- a level again

-- what reads past the end of a list
abbrev pub no_line : Line
no_line = record { first = 0; second = 0; left = 0; right = 0; fact = record { step = 0; place = 0 } }

-- the lines of a level are of its nodes
pub lines_low : (w : Written) (s : Source) (level : Level) → IsSource w s → IsLevel w s level → AreLow (length s.graph.now.nodes) level.lines.items
lines_low w s level source h l c =
    let k = h.stated c.0 l (at_index level.lines.items c.0 l c.1 (sym c.2)) in
    (copied_low s.graph.now w.graph s.map.now l.first l.left source.copies k.left, copied_low s.graph.now w.graph s.map.now l.second l.right source.copies k.right)
