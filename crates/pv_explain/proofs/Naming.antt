-- What holds of the nodes that joins and blocks name.
use Rattle.std.specs.Prelude.{◌≡◌, ℕ, zero, suc, ◌<◌, List, [], ◌∷◌, length, Some, slice_get}
use Rattle.std.specs.List.{AllByRecursion, Contains}
use Rattle.std.proofs.Common.{inl, inr, refl, sym, ap, subst}
use Rattle.std.proofs.lemmas.Option.{same_Some}
use Rattle.pv_list.proofs.Elements.{all_here, all_map}
use Rattle.pv_graph.specs.Walks.{In}
use Rattle.pv_classes.specs.declared.join.Join.{Join}
use Rattle.pv_classes.specs.declared.join.Reason.TheVariants as reason
use Rattle.pv_classes.specs.Blocks.{Block, block, Blocks, blocks_of, inner_of, joins_of, listed, pairs_of}
use Rattle.pv_explain.specs.declared.source.Source.{Source}
use Rattle.pv_explain.specs.Lines.{HaveCopies}
use Rattle.pv_explain.specs.Named.{IsReady, OfBlock, OfBlocks, OfCited, OfJoin, OfPair, axiom_nodes}
use Rattle.pv_explain.proofs.Linking.{at_index}

-- ---- inside a block

blocks_at : (P : ℕ → Type 0) (bs : Blocks) (n : ℕ) (b : Block) → OfBlocks P bs → slice_get (listed bs) n ≡ Some b → OfBlock P b
blocks_at P Blocks.none n b h e = absurd (cc)
blocks_at P (Blocks.first c bs) zero b h e = subst (OfBlock P) (same_Some c b e) h.0
blocks_at P (Blocks.first c bs) (suc n) b h e = blocks_at P bs n b h.1 e

-- its joins cite blocks inside it
pub inside_named : (P : ℕ → Type 0) (b : Block) → OfBlock P b → AllByRecursion (OfCited P (listed (inner_of b))) (joins_of b)
inside_named P (block d pairs joins bs) h = all_map (OfJoin P) (OfCited P (listed bs)) (λ j of. record { join = of; cited = λ n b why at. blocks_at P bs n b h.2 at }) joins h.1

pair_of : (P : ℕ → Type 0) (b : Block) → OfBlock P b → AllByRecursion (OfPair P) (pairs_of b)
pair_of P (block d pairs joins bs) h = h.0

pub pair_named : (P : ℕ → Type 0) (b : Block) (pair : ℕ × ℕ) → OfBlock P b → Contains (pairs_of b) pair → OfPair P pair
pair_named P b pair h c = all_here (OfPair P) (pairs_of b) c.0 pair (pair_of P b h) (at_index (pairs_of b) c.0 pair c.1 (sym c.2))

-- the copies of the nodes of an axiom
pub axiom_copies : (s : Source) (j : Join) (n : ℕ) (ns : List ℕ) → OfJoin (IsReady s) j → j.why ≡ reason.Axiom n ns → ((k : ℕ) → In ns k → k < length s.graph.now.nodes) → HaveCopies s.map.now ns
axiom_copies s j n ns of why low = copies ns low (subst (AllByRecursion (IsReady s)) (ap axiom_nodes why) of.axiom_)
  where
    copies : (ks : List ℕ) → ((k : ℕ) → In ks k → k < length s.graph.now.nodes) → AllByRecursion (IsReady s) ks → HaveCopies s.map.now ks
    copies [] f h = tt
    copies (k ∷ ks) f h = (h.0 (f k (inl refl)), copies ks (λ m i. f m (inr i)) h.1)

-- ---- of a block, by its parts

pub block_named : (P : ℕ → Type 0) (b : Block) → AllByRecursion (OfPair P) (pairs_of b) → AllByRecursion (OfJoin P) (joins_of b) → OfBlocks P (inner_of b) → OfBlock P b
block_named P (block d pairs joins bs) p j h = (p, j, h)

pub blocks_named : (P : ℕ → Type 0) (bs : List Block) → AllByRecursion (OfBlock P) bs → OfBlocks P (blocks_of bs)
blocks_named P [] h = tt
blocks_named P (b ∷ bs) h = (h.0, blocks_named P bs h.1)

-- ---- where P gives Q

pub pair_map : (P Q : ℕ → Type 0) → ((k : ℕ) → P k → Q k) → (pair : ℕ × ℕ) → OfPair P pair → OfPair Q pair
pair_map P Q f pair h = (f pair.0 h.0, f pair.1 h.1)

pub join_map : (P Q : ℕ → Type 0) → ((k : ℕ) → P k → Q k) → (j : Join) → OfJoin P j → OfJoin Q j
join_map P Q f j h = record { first = f j.first h.first; second = f j.second h.second; axiom_ = all_map P Q f (axiom_nodes j.why) h.axiom_ }

mutual
  pub block_map : (P Q : ℕ → Type 0) → ((k : ℕ) → P k → Q k) → (b : Block) → OfBlock P b → OfBlock Q b
  block_map P Q f (block d pairs joins bs) h = (
    all_map (OfPair P) (OfPair Q) (λ p of. pair_map P Q f p of) pairs h.0,
    all_map (OfJoin P) (OfJoin Q) (λ j of. join_map P Q f j of) joins h.1,
    blocks_map P Q f bs h.2,
  )

  pub blocks_map : (P Q : ℕ → Type 0) → ((k : ℕ) → P k → Q k) → (bs : Blocks) → OfBlocks P bs → OfBlocks Q bs
  blocks_map P Q f Blocks.none h = tt
  blocks_map P Q f (Blocks.first b bs) h = (block_map P Q f b h.0, blocks_map P Q f bs h.1)

pub cited_map : (P Q : ℕ → Type 0) → ((k : ℕ) → P k → Q k) → (bs : List Block) (joins : List Join) → AllByRecursion (OfCited P bs) joins → AllByRecursion (OfCited Q bs) joins
cited_map P Q f bs joins h = all_map (OfCited P bs) (OfCited Q bs) (λ j of. record { join = join_map P Q f j of.join; cited = λ n b why at. block_map P Q f b (of.cited n b why at) }) joins h
