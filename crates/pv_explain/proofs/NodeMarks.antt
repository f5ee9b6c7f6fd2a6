-- Marks on the nodes that are named, and on all nodes below them.
use Rattle.std.specs.Prelude.{◌≡◌, ◌⊎◌, ℕ, zero, suc, ◌+◌, ◌-◌, ◌<◌, ◌≤◌, Bool, true, List, [], ◌∷◌, ◌++◌, length, Some, slice_get, take}
use Rattle.std.specs.List.{AllByRecursion}
use Rattle.std.proofs.Common.{inl, inr, refl, sym, ap, ◌∙◌, subst, arith}
use Rattle.std.proofs.Math.ListN.{get_or}
use Rattle.std.proofs.lemmas.List.{take_more}
use Rattle.std.proofs.lemmas.Option.{same_Some, slice_get_within}
use Rattle.pv_list.proofs.Elements.{all_map, all_push}
use Rattle.pv_graph.specs.Walks.{In}
use Rattle.pv_graph.specs.Graphs.{Graph}
use Rattle.pv_classes.specs.declared.join.Join.{Join}
use Rattle.pv_classes.specs.declared.join.Reason.{Reason}
use Rattle.pv_classes.specs.declared.join.Reason.TheVariants as reason
use Rattle.pv_classes.specs.Blocks.{Block}
use Rattle.pv_classes.specs.Grounds.{Context, JoinGround}
use Rattle.pv_writer.specs.Written.{Written}
use Rattle.pv_explain.specs.declared.source.Search.{Search}
use Rattle.pv_explain.specs.declared.source.Source.{Source}
use Rattle.pv_explain.specs.Sections.{IsGiven, IsGrounded}
use Rattle.pv_explain.specs.Marks.{IsMarked, KeepsMarks, MarksMore}
use Rattle.pv_explain.specs.Copying.{AreFirstCopies}
use Rattle.pv_explain.specs.Named.{AreCitedMarked, AreKidsMarked, AreNamedMarked, AreReady, CiteMarked, CitesBelow, IsCiteMarked, IsMarkedNode, IsMarkedWithKids, IsReady, OfBlock, OfCited, OfJoin, OfPair, axiom_nodes}
use Rattle.pv_explain.proofs.Marked.{join_at}
use Rattle.pv_explain.proofs.Naming.{block_map, cited_map, join_map, pair_map}

-- ---- marks stay

pub keeps_refl : (marks : List Bool) → KeepsMarks marks marks
keeps_refl marks = record { long = refl; stay = λ k h. h }

pub keeps_trans : (old then new : List Bool) → KeepsMarks old then → KeepsMarks then new → KeepsMarks old new
keeps_trans old then new g h = record { long = h.long ∙ g.long; stay = λ k on. h.stay k (g.stay k on) }

pub keeps_more : (before : ℕ) (old new : List Bool) → MarksMore before old new → KeepsMarks old new
keeps_more before old new h = record { long = h.long; stay = h.stay }

pub node_keeps : (old new : List Bool) → KeepsMarks old new → (k : ℕ) → IsMarkedNode old k → IsMarkedNode new k
node_keeps old new h k on low = h.stay k (on (let z = h.long in omega (arith, low, z)))

pub pair_keeps : (old new : List Bool) → KeepsMarks old new → (p : ℕ × ℕ) → OfPair (IsMarkedNode old) p → OfPair (IsMarkedNode new) p
pair_keeps old new h p of = pair_map (IsMarkedNode old) (IsMarkedNode new) (node_keeps old new h) p of

pub join_keeps : (old new : List Bool) → KeepsMarks old new → (j : Join) → OfJoin (IsMarkedNode old) j → OfJoin (IsMarkedNode new) j
join_keeps old new h j of = join_map (IsMarkedNode old) (IsMarkedNode new) (node_keeps old new h) j of

pub block_keeps : (old new : List Bool) → KeepsMarks old new → (b : Block) → OfBlock (IsMarkedNode old) b → OfBlock (IsMarkedNode new) b
block_keeps old new h b of = block_map (IsMarkedNode old) (IsMarkedNode new) (node_keeps old new h) b of

pub pairs_keep : (old new : List Bool) → KeepsMarks old new → (pairs : List (ℕ × ℕ)) → AllByRecursion (OfPair (IsMarkedNode old)) pairs → AllByRecursion (OfPair (IsMarkedNode new)) pairs
pairs_keep old new h pairs of = all_map (OfPair (IsMarkedNode old)) (OfPair (IsMarkedNode new)) (pair_keeps old new h) pairs of

pub joins_keep : (old new : List Bool) → KeepsMarks old new → (joins : List Join) → AllByRecursion (OfJoin (IsMarkedNode old)) joins → AllByRecursion (OfJoin (IsMarkedNode new)) joins
joins_keep old new h joins of = all_map (OfJoin (IsMarkedNode old)) (OfJoin (IsMarkedNode new)) (join_keeps old new h) joins of

-- ---- lists, one by one

-- one more, where what holds stays
pub all_next : {A : Type 0} (P Q : A → Type 0) (xs : List A) (i : ℕ) (d x : A) → ((y : A) → P y → Q y) → i < length xs → x ≡ get_or xs i d → AllByRecursion P (take i xs) → Q x → AllByRecursion Q (take (i + 1) xs)
all_next P Q xs i d x f low at h here =
    subst (AllByRecursion Q) (ap (λ y. take i xs ++ y ∷ []) at ∙ sym (take_more xs i d low)) (all_push Q (take i xs) x (all_map P Q f (take i xs) h) here)

-- ---- joins

-- the nodes of a reason that is no axiom
pub no_axiom : (P : ℕ → Type 0) (why r : Reason) → why ≡ r → axiom_nodes r ≡ [] → AllByRecursion P (axiom_nodes why)
no_axiom P why r e none = subst (AllByRecursion P) (sym (ap axiom_nodes e ∙ none)) tt

pub axiom_marked : (P : ℕ → Type 0) (why : Reason) (n : ℕ) (ns list : List ℕ) → why ≡ reason.Axiom n ns → list ≡ ns → AllByRecursion P list → AllByRecursion P (axiom_nodes why)
axiom_marked P why n ns list e same h = subst (AllByRecursion P) (same ∙ sym (ap axiom_nodes e)) h

-- a join that has its ground cites a block that is there
pub cites_low : (s : Search) (assumed : List ℕ) (i : ℕ) (j : Join) → IsGrounded s assumed → slice_get s.joins.now i ≡ Some j → CitesBelow (length s.blocks.now) j.why
cites_low s assumed i j g at n e = by [] (take i s.joins.now) (join_at s assumed i j g at)
  where
    by : (ctx : Context) (before : List Join) → JoinGround s.graph.now.nodes (IsGiven s.graph.now assumed) ctx before s.blocks.now j → n < length s.blocks.now
    by ctx before (JoinGround.by_axiom _ _ _ m ms why given) = absurd (let z = sym why ∙ e in cc)
    by ctx before (JoinGround.by_kids _ _ _ _ k) = absurd (let z = sym k.why ∙ e in cc)
    by ctx before (JoinGround.by_induction _ _ _ _ m b why at_m there h) =
        let z : reason.Induction m ≡ reason.Induction n = sym why ∙ e in
        let p : m ≡ n = cc in
        subst (λ (k : ℕ). k < length s.blocks.now) p (slice_get_within s.blocks.now m b at_m)
    by ctx before (JoinGround.by_pair d pairs outer _ _ _ m why at_i) = absurd (let z = sym why ∙ e in cc)

split_last : (k i : ℕ) → k < i + 1 → (k < i) ⊎ (k ≡ i)
split_last k i h = grind arith

-- the blocks that one join more cites are marked
pub cite_next : (joins : List Join) (old new : List Bool) (i : ℕ) (here : Join) → KeepsMarks old new → slice_get joins i ≡ Some here → IsCiteMarked here.why new → ((k : ℕ) (j : Join) → k < i → slice_get joins k ≡ Some j → IsCiteMarked j.why old)
    → (k : ℕ) (j : Join) → k < i + 1 → slice_get joins k ≡ Some j → IsCiteMarked j.why new
cite_next joins old new i here keeps at now earlier k j low e n why = elim (split_last k i low) [
  | inl h ↦ keeps.stay n (earlier k j h e n why)
  | inr h ↦ now n (ap (λ (q : Join). q.why) (same_Some here j (sym at ∙ ap (slice_get joins) (sym h) ∙ e)) ∙ why)
]

-- what one block more names is marked, if it is cited
pub cited_next : (cited old new : List Bool) (blocks : List Block) (i : ℕ) (b : Block) (is : Bool) → KeepsMarks old new → slice_get blocks i ≡ Some b → slice_get cited i ≡ Some is → (is ≡ true → OfBlock (IsMarkedNode new) b)
    → ((n : ℕ) (c : Block) → n < i → IsMarked cited n → slice_get blocks n ≡ Some c → OfBlock (IsMarkedNode old) c) → (n : ℕ) (c : Block) → n < i + 1 → IsMarked cited n → slice_get blocks n ≡ Some c → OfBlock (IsMarkedNode new) c
cited_next cited old new blocks i b is keeps at mark here earlier n c low on e = elim (split_last n i low) [
  | inl h ↦ block_keeps old new keeps c (earlier n c h on e)
  | inr h ↦ subst (OfBlock (IsMarkedNode new)) (same_Some b c (sym at ∙ ap (slice_get blocks) (sym h) ∙ e)) (here (same_Some is true (sym mark ∙ ap (slice_get cited) (sym h) ∙ on)))
]

-- ---- kids

pub in_read : (xs : List ℕ) (i d : ℕ) → i < length xs → In xs (get_or xs i d)
in_read [] i d low = absurd (omega (arith, low))
in_read (x ∷ xs) zero d low = inl refl
in_read (x ∷ xs) (suc i) d low = inr (in_read xs i d (omega (arith, low)))

kids_keep : (g : Graph) (old new : List Bool) (n : ℕ) → KeepsMarks old new → AreKidsMarked g old n → AreKidsMarked g new n
kids_keep g old new n keeps h node e = all_map (IsMarked old) (IsMarked new) keeps.stay node.kids (h node e)

-- the kids of the next node down are marked, if it is
pub closed_next : (g : Graph) (old new : List Bool) (nodes k : ℕ) → k < nodes → MarksMore (nodes - 1 - k) old new → ((i : ℕ) → nodes ≤ i + k → g.base ≤ i → IsMarked old i → AreKidsMarked g old i) → (IsMarked new (nodes - 1 - k) → AreKidsMarked g new (nodes - 1 - k))
    → (i : ℕ) → nodes ≤ i + (k + 1) → g.base ≤ i → IsMarked new i → AreKidsMarked g new i
closed_next g old new nodes k low more earlier here i high late on = by (split i high)
  where
    split : (n : ℕ) → nodes ≤ n + (k + 1) → (nodes ≤ n + k) ⊎ (n ≡ nodes - 1 - k)
    split n h = grind arith

    by : (nodes ≤ i + k) ⊎ (i ≡ nodes - 1 - k) → AreKidsMarked g new i
    by (inl h) = kids_keep g old new i (keeps_more (nodes - 1 - k) old new more) (earlier i h late (more.rest i (omega (arith, h, low)) on))
    by (inr e) = subst (AreKidsMarked g new) (sym e) (here (subst (IsMarked new) e on))

-- ---- all that are named

pub named_marked : (s : Search) (cited first then last : List Bool) → AllByRecursion (OfJoin (IsMarkedNode first)) s.joins.now → KeepsMarks first then → KeepsMarks then last → CiteMarked s.joins.now cited → AreCitedMarked cited s.blocks.now then → AreNamedMarked s last
named_marked s cited first then last joins keeps more cite of = by s.joins.now joins cite
  where
    by : (js : List Join) → AllByRecursion (OfJoin (IsMarkedNode first)) js → CiteMarked js cited → AllByRecursion (OfCited (IsMarkedNode last) s.blocks.now) js
    by [] h c = tt
    by (j ∷ js) h c = (
      record { join = join_keeps first last (keeps_trans first then last keeps more) j h.0; cited = λ n b why at. block_keeps then last more b (of n b (c 0 j refl n why) at) },
      by js h.1 (λ k i e. c (suc k) i e),
    )

-- so each that is named has a copy
pub named_ready : (w : Written) (s : Source) (marks : List Bool) (bs : List Block) (joins : List Join) → AreFirstCopies w s.graph.now marks (length s.graph.now.nodes) s.map.now → length marks ≡ length s.graph.now.nodes → AllByRecursion (OfCited (IsMarkedNode marks) bs) joins
    → AreReady s bs joins
named_ready w s marks bs joins first long named = cited_map (IsMarkedNode marks) (IsReady s) (λ k on low. first.all k low (on (omega (arith, low, long)))) bs joins named

-- ---- the nodes that a block rests on

-- one more node that is named
pub with_kids_next : (g : Graph) (named old new : List Bool) (n : ℕ) (is : Bool) → KeepsMarks old new → slice_get named n ≡ Some is → (is ≡ true → IsMarkedWithKids g new n) → ((k : ℕ) → k < n → IsMarked named k → IsMarkedWithKids g old k)
    → (k : ℕ) → k < n + 1 → IsMarked named k → IsMarkedWithKids g new k
with_kids_next g named old new n is keeps mark here earlier k low on = elim (split_last k n low) [
  | inl h ↦ λ l. let z = earlier k h on l in (keeps.stay k z.0, kids_keep g old new k keeps z.1)
  | inr h ↦ subst (IsMarkedWithKids g new) (sym h) (here (same_Some is true (sym mark ∙ ap (slice_get named) (sym h) ∙ on)))
]

pub block_rests : (g : Graph) (named marks : List Bool) (b : Block) → length named ≡ length g.nodes → OfBlock (IsMarkedNode named) b → ((n : ℕ) → IsMarked named n → IsMarkedWithKids g marks n) → OfBlock (IsMarkedWithKids g marks) b
block_rests g named marks b long h all = block_map (IsMarkedNode named) (IsMarkedWithKids g marks) (λ k on low. all k (on (omega (arith, low, long))) low) b h
