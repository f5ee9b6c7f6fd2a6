-- What a right step states holds where all facts before it do, over the graph in which the section ends.
use Rattle.std.specs.Prelude.{◌≡◌, ◌↔◌, ℕ, zero, suc, ◌<◌, Bool, true, false, List, [], ◌∷◌, length, Some, slice_get, ◌==◌}
use Rattle.std.specs.List.{AllZip}
use Rattle.std.proofs.Common.{inl, inr, refl, sym, ap, ◌∙◌, subst}
use Rattle.std.proofs.lemmas.Option.{slice_get_within, same_Some}
use Rattle.pv_value.specs.declared.world.World.{World}
use Rattle.pv_value.specs.declared.outcome.Input.{Input}
use Rattle.pv_value.specs.declared.outcome.Val.{Val}
use Rattle.pv_value.specs.declared.outcome.Val.TheVariants as val
use Rattle.pv_graph.specs.declared.node.Op.TheVariants as op
use Rattle.pv_graph.specs.Ops.{Shape, theta, eval, pass, shift, root, shape}
use Rattle.pv_graph.specs.Forms.{form}
use Rattle.pv_denote.specs.Denote.{Index, Value, SameAt}
use Rattle.pv_graph.specs.Walks.{In, IsClosed, Spine}
use Rattle.pv_graph.specs.Graphs.{Graph, form_at, IsGraph, IsWellMade, Extends}
use Rattle.pv_graph.proofs.Cited.{found, bind_some}
use Rattle.pv_denote.proofs.Cited.{den_makes, Moves, means_map, value_says, closed_value, spine_has, growth_law}
use Rattle.pv_steps.specs.Steps as steps
use Rattle.pv_steps.specs.Steps.{Fact, Reason, Same, By, Pair, Congruence, Step, Axiom, Use, Flip, Chain, Set, Open, Close, Assume, Finish, Block, Loop, Ending, OpenBlock, blocks, outer_of, pairs_of, assumed_in, Stated, both_sides, states, open_after, stated_at, numbered, Equality, equality_of, equality_at, AreOpen, Shows}
use Rattle.pv_steps.specs.Right.{IsFresh, looks_at, GraphAfter, Gives, GiveAll, AreOutside, RightCongruence, ClosesPair, RightClose, RightAssume, RightFinish, Rule, by_axiom, by_lemma, Instances, RightOver, Right}
use Rattle.pv_steps.specs.Accepted.{AllRight}
use Rattle.pv_steps.specs.Facts.{View, HaveValues, Satisfies, Holds}
use Rattle.pv_steps.specs.Laws.{AreSound}
use Rattle.pv_steps.proofs.Blocks.{Under, holds_under, IsReason, set_holds, Closes, close_holds}
use Rattle.pv_steps.proofs.Growing.{step_grown, after_grown, after_same, extends_trans, form_kept, spine_kept, closed_kept}

-- ---- what is kept over the steps

-- an open block of right steps: an induction at a depth that no outer one has; or the only one, for a root and with
-- closed nodes of the graph on the spine of its token
abbrev pub IsProper : View → Graph → Block → List OpenBlock → Type 0
IsProper view g (Loop d ps) outer = IsFresh d (blocks outer)
IsProper view g (Ending p ns) outer =
    (outer ≡ []) × ((t f r h : ℕ) × (view p ≡ Some (form op.Root (t ∷ f ∷ r ∷ h ∷ []))) × ((n : ℕ) → In ns n → (n < length g.nodes) × IsClosed view n × Spine view t n))

abbrev pub AreProper : View → Graph → List OpenBlock → Type 0
AreProper view g [] = Unit {0}
AreProper view g (p ∷ ps) = IsProper view g p.block ps × AreProper view g ps

abbrev pub StatedHolds : View → Stated → Type 0
StatedHolds view s = (a b : ℕ) → In s.pairs (a, b) → Holds view (blocks s.around) a b

abbrev pub AllHold : View → List Step → Type 0
AllHold view before = (k : ℕ) (s : Stated) → stated_at before k ≡ Some s → StatedHolds view s

low_more : (old new : Graph) → Extends old new → (n : ℕ) → n < length old.nodes → n < length new.nodes
low_more old new ext n low = let x = found old.nodes n low in slice_get_within new.nodes n x.0 (ext.nodes n x.0 x.1)

proper_block_more : (view : View) (old new : Graph) → Extends old new → (b : Block) (outer : List OpenBlock) → IsProper view old b outer → IsProper view new b outer
proper_block_more view old new ext (Loop d ps) outer h = h
proper_block_more view old new ext (Ending p ns) outer h =
    let o = h.1 in (h.0, (o.0, o.1, o.2, o.3, o.4, λ n m. let z = o.5 n m in (low_more old new ext n z.0, z.1, z.2)))

proper_more : (view : View) (old new : Graph) → Extends old new → (ps : List OpenBlock) → AreProper view old ps → AreProper view new ps
proper_more view old new ext [] h = tt
proper_more view old new ext (p ∷ ps) h = (proper_block_more view old new ext p.block ps h.0, proper_more view old new ext ps h.1)

-- ---- cited facts

pub in_at : {A : Type 0} (xs : List A) (j : ℕ) (x : A) → slice_get xs j ≡ Some x → In xs x
in_at [] j x h = absurd (cc)
in_at (y ∷ ys) zero x h = inl (cc)
in_at (y ∷ ys) (suc j) x h = inr (in_at ys j x h)

pub in_numbered : {A : Type 0} (xs : List A) (j : ℕ) (x : A) → numbered xs j ≡ Some x → In xs x
in_numbered xs zero x h = absurd (cc)
in_numbered xs (suc j) x h = in_at xs j x h

pub under : (r bs : List OpenBlock) → AreOpen r bs → Under (blocks r) (blocks bs)
under r [] h = ap blocks h
under r (b ∷ bs) (inl h) = inl (ap blocks h)
under r (b ∷ bs) (inr h) = inr (under r bs h)

-- a cited equality holds inside its own blocks
cited_equality : (view : View) (before : List Step) → AllHold view before → (f : Fact) (e : Equality) → equality_at before f ≡ Some e → Holds view (blocks e.around) e.left e.right
cited_equality view before all f e h =
    let s = bind_some (stated_at before f.step) _ e h in
    let p = bind_some (numbered s.0.pairs f.place) _ e s.2 in
    let same : record { around = s.0.around; left = p.0.0; right = p.0.1 } ≡ e = same_Some _ _ p.2 in
    let there = all f.step s.0 s.1 p.0.0 p.0.1 (in_numbered s.0.pairs f.place p.0 p.1) in
    subst (λ (q : Equality). Holds view (blocks q.around) q.left q.right) same there

shown : (view : View) (before : List Step) → AllHold view before → (inside : List OpenBlock) (f : Fact) (a b : ℕ) → Shows before inside f a b → Holds view (blocks inside) a b
shown view before all inside f a b h =
    holds_under view (blocks h.around) (blocks inside) a b (under h.around inside h.visible)
    (cited_equality view before all f (record { around = h.around; left = a; right = b }) h.stated)

holds_flip : (view : View) (bs : List Block) (a b : ℕ) → Holds view bs b a → Holds view bs a b
holds_flip view bs a b h w x world input it s i y v = ((h w x world input it s i y v).1, (h w x world input it s i y v).0)

holds_chain : (view : View) (bs : List Block) (a c b : ℕ) → Holds view bs a c → Holds view bs c b → Holds view bs a b
holds_chain view bs a c b h k w x world input it s i y v =
    (λ z. (k w x world input it s i y v).0 ((h w x world input it s i y v).0 z), λ z. (h w x world input it s i y v).1 ((k w x world input it s i y v).1 z))

holds_same : (view : View) (bs : List Block) (a b : ℕ) → a ≡ b → Holds view bs a b
holds_same view bs a b e = subst (λ (c : ℕ). Holds view bs a c) e (λ w x world input it s i y v. (λ z. z, λ z. z))

-- a reason without pairs holds
given : (view : View) (before : List Step) → AllHold view before → (inside : List OpenBlock) (r : Reason) (a b : ℕ) → Gives before inside [] r a b → Holds view (blocks inside) a b
given view before all inside Same a b h = holds_same view (blocks inside) a b h
given view before all inside (By f) a b h = shown view before all inside f a b h
given view before all inside (Pair n) a b h = absurd (in_numbered {A = ℕ × ℕ} [] n (a, b) h)

-- ---- rules

block_assumed : (view : View) (w : World) (x : Input) (it : Index) (ps : List OpenBlock) (b : Block) → Satisfies view w x it (b ∷ blocks ps) → (Satisfies view w x it (blocks ps) → HaveValues view w x (assumed_in ps))
    → HaveValues view w x (elim b [ Loop d qs ↦ assumed_in ps | Ending n es ↦ es ])
block_assumed view w x it ps (Loop d qs) s r = r s.1
block_assumed view w x it ps (Ending n es) s r = s.0

-- where the open blocks are satisfied, the assumed nodes have values
assumed_have : (view : View) (w : World) (x : Input) (it : Index) (ps : List OpenBlock) → Satisfies view w x it (blocks ps) → HaveValues view w x (assumed_in ps)
assumed_have view w x it [] s = λ e i m. absurd m
assumed_have view w x it (p ∷ ps) s = block_assumed view w x it ps p.block s (assumed_have view w x it ps)

block_low : (view : View) (g : Graph) (ps : List OpenBlock) (b : Block) → IsProper view g b ps → ((n : ℕ) → In (assumed_in ps) n → n < length g.nodes)
    → (n : ℕ) → In (elim b [ Loop d qs ↦ assumed_in ps | Ending p es ↦ es ]) n → n < length g.nodes
block_low view g ps (Loop d qs) h r = r
block_low view g ps (Ending p es) h r = λ n m. (h.1.5 n m).0

assumed_low : (view : View) (g : Graph) (ps : List OpenBlock) → AreProper view g ps → (n : ℕ) → In (assumed_in ps) n → n < length g.nodes
assumed_low view g [] h = λ n m. absurd m
assumed_low view g (p ∷ ps) h = block_low view g ps p.block h.0 (assumed_low view g ps h.1)

rule_step : (Instance : Instances) → AreSound Instance → (last old : Graph) → IsWellMade old → old.is_open ≡ false → Extends old last → (inside : List OpenBlock) → AreProper (form_at last.nodes) old inside
    → (r : Rule) (a b : ℕ) (nodes : List ℕ) → Instance old (assumed_in inside) r nodes a b → Holds (form_at last.nodes) (blocks inside) a b
rule_step Instance sound last old made sealed ext inside proper r a b nodes is w x world input it s i y v =
    let sides = sound.sides old (assumed_in inside) r nodes a b made is in
    let have = assumed_have (form_at last.nodes) w x it inside s in
    let kept : (m : ℕ) (j : Index) (u : Val) → m < length old.nodes → Value (form_at last.nodes) w x m j u ↔ Value (form_at old.nodes) w x m j u = λ m j u low. growth_law old last made.graph ext m low w x j u in
    let have' : HaveValues (form_at old.nodes) w x (assumed_in inside) = λ e j m. let z = have e j m in (z.0, (kept e j z.0 (assumed_low (form_at last.nodes) old inside proper e m)).0 z.1) in
    let same = sound.same old (assumed_in inside) r nodes a b made sealed is w x world input have' i v in
    (λ z. (kept b i v sides.1).1 (same.0 ((kept a i v sides.0).0 z)), λ z. (kept a i v sides.0).1 (same.1 ((kept b i v sides.1).0 z)))

-- ---- set

in_sides : (cs : List Congruence) (a b : ℕ) → In (both_sides cs) (a, b) → (c : Congruence) × In cs c × (c.left ≡ a) × (c.right ≡ b)
in_sides [] a b h = absurd h
in_sides (c ∷ cs) a b (inl h) = (c, inl refl, ap (λ (z : ℕ × ℕ). z.0) h, ap (λ (z : ℕ × ℕ). z.1) h)
in_sides (c ∷ cs) a b (inr h) = let r = in_sides cs a b h in (r.0, inr r.1, r.2, r.3)

-- the blocks around a fact that a set step cites
pub record CitedBlocks (before : List Step) (cs : List Congruence) (r : List Block) : Type 0 where
  pub c : Congruence
  pub there : In cs c
  pub f : Fact
  pub cites : In c.reasons (By f)
  pub e : Equality
  pub stated : equality_at before f ≡ Some e
  pub around : r ≡ blocks e.around
  pub visible : AreOpen e.around (open_after before)

moves_of : (P : ℕ → Type 0) (s : Shape) → ((d : ℕ) → looks_at s ≡ Some d → P d) → Moves P s
moves_of P (theta d) h = h d refl
moves_of P (eval d) h = h d refl
moves_of P (pass d) h = h d refl
moves_of P (shift d) h = h d refl
moves_of P s h = tt

module _ (view : View) (before : List Step) (all : AllHold view before) (cs : List Congruence) where
  reasons : (c : Congruence) → In cs c → (rs : List Reason) → ((r : Reason) → In rs r → In c.reasons r) → (ks ls : List ℕ) → GiveAll before (open_after before) (both_sides cs) rs ks ls
      → AllZip (IsReason view (CitedBlocks before cs) (both_sides cs)) ks ls
  reasons c m [] i [] [] h = tt
  reasons c m (Same ∷ rs) i (k ∷ ks) (l ∷ ls) h = (inl (inl h.0), reasons c m rs (λ r z. i r (inr z)) ks ls h.1)
  reasons c m (By f ∷ rs) i (k ∷ ks) (l ∷ ls) h =
      let o = h.0 in
      let e : Equality = record { around = o.around; left = k; right = l } in (
        inl (inr (blocks o.around, record { c = c; there = m; f = f; cites = i (By f) (inl refl); e = e; stated = o.stated; around = refl; visible = o.visible }, cited_equality view before all f e o.stated)),
        reasons c m rs (λ r z. i r (inr z)) ks ls h.1,
      )
  reasons c m (Pair n ∷ rs) i (k ∷ ks) (l ∷ ls) h = (inr (in_numbered (both_sides cs) n (k, l) h.0), reasons c m rs (λ r z. i r (inr z)) ks ls h.1)
  reasons c m _ i _ _ h = absurd (assumption)

  fresh : (d : ℕ) → AreOutside before cs d → (r : List Block) → CitedBlocks before cs r → IsFresh d r
  fresh d h r z = subst (IsFresh d) (sym z.around) (h z.c z.there (By z.f) z.cites z.e z.stated)

set_step : (g last : Graph) → Extends g last → (before : List Step) → AllHold (form_at last.nodes) before → (cs : List Congruence)
    → ((c : Congruence) → In cs c → RightCongruence g before (open_after before) cs c) → (a b : ℕ) → In (both_sides cs) (a, b) → Holds (form_at last.nodes) (blocks (open_after before)) a b
set_step g last ext before all cs right = set_holds (form_at last.nodes) (blocks (open_after before)) (CitedBlocks before cs) (both_sides cs) (
  λ r z. subst (λ (q : List Block). Under q (blocks (open_after before))) (sym z.around) (under z.e.around (open_after before) z.visible),
  λ a b m.
      let p = in_sides cs a b m in
      let q = right p.0 p.1 in
      record {
        o = q.o;
        lefts = q.lefts;
        rights = q.rights;
        left = subst (λ (n : ℕ). form_at last.nodes n ≡ Some (form q.o q.lefts)) p.2 (form_kept g last ext p.0.left q.o q.lefts q.left);
        right = subst (λ (n : ℕ). form_at last.nodes n ≡ Some (form q.o q.rights)) p.3 (form_kept g last ext p.0.right q.o q.rights q.right);
        moves = moves_of _ (shape q.o) (λ d e. fresh (form_at last.nodes) before all cs d (q.depth d e));
        kids = reasons (form_at last.nodes) before all cs p.0 p.1 p.0.reasons (λ r z. z) q.lefts q.rights q.kids;
      },
)

-- ---- close

zip_in : {A B : Type 0} (R : A → B → Type 0) (xs : List A) (ys : List B) (x : A) → AllZip R xs ys → In xs x → (y : B) × R x y
zip_in R [] ys x h m = absurd m
zip_in R (z ∷ xs) [] x h m = absurd h
zip_in R (z ∷ xs) (y ∷ ys) x h (inl m) = (y, subst (λ u. R u y) m h.0)
zip_in R (z ∷ xs) (y ∷ ys) x h (inr m) = zip_in R xs ys x h.1 m

proper_first : (view : View) (g : Graph) (p : OpenBlock) (ps inside : List OpenBlock) → inside ≡ p ∷ ps → AreProper view g inside → IsProper view g p.block ps
proper_first view g p ps inside e h = (subst (AreProper view g) e h).0

proper_outer : (view : View) (g : Graph) (inside : List OpenBlock) → AreProper view g inside → AreProper view g (outer_of inside)
proper_outer view g [] h = tt
proper_outer view g (p ∷ ps) h = h.1

close_step : (g last : Graph) → Extends g last → (before : List Step) → AllHold (form_at last.nodes) before → AreProper (form_at last.nodes) g (open_after before) → (d : ℕ) (fs : List (Fact × Fact)) → RightClose g before d fs
    → (a b : ℕ) → In (pairs_of (open_after before)) (a, b) → Holds (form_at last.nodes) (blocks (outer_of (open_after before))) a b
close_step g last ext before all proper d fs right a b m =
    subst (λ (q : List OpenBlock). Holds (form_at last.nodes) (blocks (outer_of q)) a b) (sym right.innermost)
    (close_holds (form_at last.nodes) (blocks right.outer) d right.pairs (proper_first (form_at last.nodes) g _ right.outer (open_after before) right.innermost proper) each a b
    (subst (λ (q : List OpenBlock). In (pairs_of q) (a, b)) right.innermost m))
  where
    inside : (f : Fact) (a b : ℕ) → Shows before (open_after before) f a b → Holds (form_at last.nodes) (Loop d right.pairs ∷ blocks right.outer) a b
    inside f a b h = subst (λ (q : List OpenBlock). Holds (form_at last.nodes) (blocks q) a b) right.innermost (shown (form_at last.nodes) before all (open_after before) f a b h)

    each : (a b : ℕ) → In right.pairs (a, b) → Closes (form_at last.nodes) (blocks right.outer) d right.pairs a b
    each a b m =
        let y = zip_in (ClosesPair g before d (open_after before) right.outer) right.pairs fs (a, b) right.each m in
        let q = y.1 in
        record {
          zero_ = q.zero_;
          first_left = q.first_left;
          first_right = q.first_right;
          next_left = q.next_left;
          next_right = q.next_right;
          is_zero = form_kept g last ext _ _ _ q.is_zero;
          is_first_left = form_kept g last ext _ _ _ q.is_first_left;
          is_first_right = form_kept g last ext _ _ _ q.is_first_right;
          is_next_left = form_kept g last ext _ _ _ q.is_next_left;
          is_next_right = form_kept g last ext _ _ _ q.is_next_right;
          starts = shown (form_at last.nodes) before all right.outer y.0.0 q.first_left q.first_right q.starts;
          goes_on = inside y.0.1 q.next_left q.next_right q.goes_on;
        }

-- ---- finish

root_token : (view : View) (w : World) (x : Input) (p t f r h : ℕ) (i : Index) (v : Val) → view p ≡ Some (form op.Root (t ∷ f ∷ r ∷ h ∷ [])) → Value view w x p i v → Value view w x t i val.Unit
root_token view w x p t f r h i v e z = (value_says view w x p i v op.Root (t ∷ f ∷ r ∷ h ∷ []) e z).2

roots_lead : (view : View) (w : World) (x : Input) (p q t f r h t' f' r' h' : ℕ) (i : Index) (v : Val) → view p ≡ Some (form op.Root (t ∷ f ∷ r ∷ h ∷ [])) → view q ≡ Some (form op.Root (t' ∷ f' ∷ r' ∷ h' ∷ []))
    → SameAt view w x i t t' → SameAt view w x i f f' → SameAt view w x i r r' → SameAt view w x i h h' → Value view w x p i v → Value view w x q i v
roots_lead view w x p q t f r h t' f' r' h' i v e e' a b c d z =
    den_makes view w x q i v op.Root (t' ∷ f' ∷ r' ∷ h' ∷ []) e'
    (means_map w x (λ j. j ≡ i) (Value view w x) (Value view w x) (λ m n. SameAt view w x i m n)
    (λ m n j u s y o. subst (λ (j : Index). Value view w x n j u) (sym y) ((s u).0 (subst (λ (j : Index). Value view w x m j u) y o)))
    root op.Root (t ∷ f ∷ r ∷ h ∷ []) (t' ∷ f' ∷ r' ∷ h' ∷ []) i v tt (a, (b, (c, (d, tt)))) refl (value_says view w x p i v op.Root (t ∷ f ∷ r ∷ h ∷ []) e z))

same_flip : (view : View) (w : World) (x : Input) (i : Index) (a b : ℕ) → SameAt view w x i a b → SameAt view w x i b a
same_flip view w x i a b h v = ((h v).1, (h v).0)

first_kid : (view : View) (p t f r h t' f' r' h' : ℕ) → view p ≡ Some (form op.Root (t ∷ f ∷ r ∷ h ∷ [])) → view p ≡ Some (form op.Root (t' ∷ f' ∷ r' ∷ h' ∷ [])) → t ≡ t'
first_kid view p t f r h t' f' r' h' a b = let z = sym a ∙ b in cc

finish_step : (g last : Graph) → Extends g last → (before : List Step) → AllHold (form_at last.nodes) before → AreProper (form_at last.nodes) g (open_after before) → (p q : ℕ) (wt wf wr wh : Reason) → RightFinish g before p q wt wf wr wh
    → Holds (form_at last.nodes) (blocks (outer_of (open_after before))) p q
finish_step g last ext before all proper p q wt wf wr wh right =
    subst (λ (o : List OpenBlock). Holds (form_at last.nodes) (blocks (outer_of o)) p q) (sym right.innermost) holds
  where
    left_is : (form_at last.nodes) p ≡ Some (form op.Root (right.left.token ∷ right.left.fault_ ∷ right.left.result ∷ right.left.heap ∷ []))
    left_is = form_kept g last ext p op.Root _ right.left.is

    right_is : (form_at last.nodes) q ≡ Some (form op.Root (right.right.token ∷ right.right.fault_ ∷ right.right.result ∷ right.right.heap ∷ []))
    right_is = form_kept g last ext q op.Root _ right.right.is

    block : IsProper (form_at last.nodes) g (Ending p right.nodes) right.outer
    block = proper_first (form_at last.nodes) g _ right.outer (open_after before) right.innermost proper

    same_token : block.1.0 ≡ right.left.token
    same_token = first_kid (form_at last.nodes) p _ _ _ _ _ _ _ _ block.1.4 left_is

    -- where the token has a value, so have the assumed nodes, at every index
    ends : (w : World) (x : Input) (i : Index) → Value (form_at last.nodes) w x right.left.token i val.Unit → HaveValues (form_at last.nodes) w x right.nodes
    ends w x i o n j at =
        let z = block.1.5 n at in
        let u = spine_has (form_at last.nodes) w x right.left.token n i (subst (λ (t : ℕ). Spine (form_at last.nodes) t n) same_token z.2) val.Unit o in
        (u.0, closed_value (form_at last.nodes) w x n i j u.0 z.1 u.1)

    inside : (why : Reason) (a b : ℕ) → Gives before (open_after before) [] why a b → Holds (form_at last.nodes) (Ending p right.nodes ∷ blocks right.outer) a b
    inside why a b z = subst (λ (o : List OpenBlock). Holds (form_at last.nodes) (blocks o) a b) right.innermost (given (form_at last.nodes) before all (open_after before) why a b z)

    holds : Holds (form_at last.nodes) (blocks right.outer) p q
    holds w x world input it s i y v =
        let tokens : SameAt (form_at last.nodes) w x i right.left.token right.right.token = given (form_at last.nodes) before all right.outer wt right.left.token right.right.token right.tokens w x world input it s i y in
        let faults = λ (o : Value (form_at last.nodes) w x right.left.token i val.Unit). inside wf right.left.fault_ right.right.fault_ right.faults w x world input it (ends w x i o, s) i y in
        let results = λ (o : Value (form_at last.nodes) w x right.left.token i val.Unit). inside wr right.left.result right.right.result right.results w x world input it (ends w x i o, s) i y in
        let heaps = λ (o : Value (form_at last.nodes) w x right.left.token i val.Unit). inside wh right.left.heap right.right.heap right.heaps w x world input it (ends w x i o, s) i y in (
          λ z. let o = root_token (form_at last.nodes) w x p _ _ _ _ i v left_is z in
              roots_lead (form_at last.nodes) w x p q _ _ _ _ _ _ _ _ i v left_is right_is tokens (faults o) (results o) (heaps o) z,
          λ z. let o = (tokens val.Unit).1 (root_token (form_at last.nodes) w x q _ _ _ _ i v right_is z) in
              roots_lead (form_at last.nodes) w x q p _ _ _ _ _ _ _ _ i v right_is left_is (same_flip (form_at last.nodes) w x i _ _ tokens) (same_flip (form_at last.nodes) w x i _ _ (faults o)) (same_flip (form_at last.nodes) w x i _ _ (results o)) (same_flip (form_at last.nodes) w x i _ _ (heaps o)) z,
        )

-- ---- one step

single : (view : View) (bs : List Block) (a b m n : ℕ) → In {A = ℕ × ℕ} ((a, b) ∷ []) (m, n) → Holds view bs a b → Holds view bs m n
single view bs a b m n (inl z) h = subst (λ (q : ℕ × ℕ). Holds view bs q.0 q.1) z h
single view bs a b m n (inr z) h = absurd z

assume_proper : (g last : Graph) → IsGraph g → Extends g last → (before : List Step) (p : ℕ) (ns : List ℕ) → RightAssume g before p ns → IsProper (form_at last.nodes) g (Ending p ns) (open_after before)
assume_proper g last is ext before p ns h =
    let r = h.root in (
      h.outside,
      (
        r.token,
        r.fault_,
        r.result,
        r.heap,
        form_kept g last ext p op.Root _ r.is,
        λ n m.
            let z = h.each n m in
            let low : n < length g.nodes = slice_get_within g.nodes n _ z.is in
            (low, closed_kept g last is ext n low z.closed, spine_kept g last ext r.token n z.spine),
      ),
    )

-- what a right step states holds, and the blocks are proper after it
pub step_holds : (Instance : Instances) → AreSound Instance → (g last : Graph) → IsWellMade g → g.is_open ≡ false → Extends g last
    → (before : List Step) → AllHold (form_at last.nodes) before → AreProper (form_at last.nodes) g (open_after before) → (s : Step) (k : ℕ) → RightOver Instance g before s
    → StatedHolds (form_at last.nodes) (states s k (open_after before)) × AreProper (form_at last.nodes) g (states s k (open_after before)).around
step_holds Instance sound g last made sealed ext before all proper (steps.Node n o kids) k right = (λ a b m. absurd m, proper)
step_holds Instance sound g last made sealed ext before all proper (Axiom n a b nodes) k right =
    (λ c e m. single (form_at last.nodes) _ a b c e m (rule_step Instance sound last g made sealed ext (open_after before) proper (by_axiom n) a b nodes right), proper)
step_holds Instance sound g last made sealed ext before all proper (Use n a b nodes) k right =
    (λ c e m. single (form_at last.nodes) _ a b c e m (rule_step Instance sound last g made sealed ext (open_after before) proper (by_lemma n) a b nodes right), proper)
step_holds Instance sound g last made sealed ext before all proper (Flip a b f) k right =
    (λ c e m. single (form_at last.nodes) _ a b c e m (holds_flip (form_at last.nodes) _ a b (shown (form_at last.nodes) before all (open_after before) f b a right)), proper)
step_holds Instance sound g last made sealed ext before all proper (Chain a b f h) k right = (
  λ c e m. single (form_at last.nodes) _ a b c e m
      (holds_chain (form_at last.nodes) _ a right.0 b (shown (form_at last.nodes) before all (open_after before) f a right.0 right.1) (shown (form_at last.nodes) before all (open_after before) h right.0 b right.2)),
  proper,
)
step_holds Instance sound g last made sealed ext before all proper (Set cs) k right = (set_step g last ext before all cs right, proper)
step_holds Instance sound g last made sealed ext before all proper (Open d ps) k right = (λ a b m w x world input it s i y. s.0 i y a b m, (right.1, proper))
step_holds Instance sound g last made sealed ext before all proper (Close d fs) k right = (close_step g last ext before all proper d fs right, proper_outer (form_at last.nodes) g (open_after before) proper)
step_holds Instance sound g last made sealed ext before all proper (Assume p ns) k right = (λ a b m. absurd m, (assume_proper g last made.graph ext before p ns right, proper))
step_holds Instance sound g last made sealed ext before all proper (Finish p q t f r h) k right =
    (λ c e m. single (form_at last.nodes) _ p q c e m (finish_step g last ext before all proper p q t f r h right), proper_outer (form_at last.nodes) g (open_after before) proper)

-- ---- all steps

later : (view : View) (s : Step) (before : List Step) → StatedHolds view (states s (suc (length before)) (open_after before)) → AllHold view before → AllHold view (s ∷ before)
later view s before now all k st = go (k == suc (length before))
  where
    go : (t : Bool) → elim t [ true ↦ Some (states s (suc (length before)) (open_after before)) | false ↦ stated_at before k ] ≡ Some st → StatedHolds view st
    go true e = subst (StatedHolds view) (same_Some _ _ e) now
    go false e = all k st e

-- over a graph in which the section goes on, all that its right steps state holds
pub section_holds : (Instance : Instances) → AreSound Instance → (g last : Graph) → IsWellMade g → g.is_open ≡ false → (before : List Step) → AllRight Instance g before
    → (now : Graph) → GraphAfter g before now → Extends now last → AllHold (form_at last.nodes) before × AreProper (form_at last.nodes) now (open_after before)
section_holds Instance sound g last made sealed [] right now after ext = (λ k s e. absurd (cc), tt)
section_holds Instance sound g last made sealed (s ∷ before) right now after ext =
    let old = after_grown g before after.0 made sealed after.1 in
    let more = step_grown s after.0 now old.made old.sealed after.2 in
    let here = extends_trans after.0 now last more.extends_ ext in
    let r = section_holds Instance sound g last made sealed before right.1 after.0 after.1 here in
    let same : right.0.0 ≡ after.0 = after_same g before right.0.0 after.0 right.0.1 after.1 in
    let over = subst (λ (q : Graph). RightOver Instance q before s) same right.0.2 in
    let h = step_holds Instance sound after.0 last old.made old.sealed here before r.0 r.1 s (suc (length before)) over in
    (later (form_at last.nodes) s before h.0 r.0, proper_more (form_at last.nodes) after.0 now more.extends_ (states s (suc (length before)) (open_after before)).around h.1)

-- right steps make a graph
pub graph_there : (Instance : Instances) (g : Graph) (before : List Step) → AllRight Instance g before → (now : Graph) × GraphAfter g before now
graph_there Instance g [] right = (g, refl)
graph_there Instance g (s ∷ before) right = go s right.0
  where
    go : (s : Step) → Right Instance g before s → (now : Graph) × GraphAfter g (s ∷ before) now
    go (steps.Node n o kids) h = (h.2.0, (h.0, h.1, h.2.1))
    go (Axiom n a b nodes) h = (h.0, (h.0, h.1, refl))
    go (Use n a b nodes) h = (h.0, (h.0, h.1, refl))
    go (Flip a b f) h = (h.0, (h.0, h.1, refl))
    go (Chain a b f i) h = (h.0, (h.0, h.1, refl))
    go (Set cs) h = (h.0, (h.0, h.1, refl))
    go (Open d ps) h = (h.0, (h.0, h.1, refl))
    go (Close d fs) h = (h.0, (h.0, h.1, refl))
    go (Assume p ns) h = (h.0, (h.0, h.1, refl))
    go (Finish p q t f r i) h = (h.0, (h.0, h.1, refl))
