-- A program is structured or meets one cause of its blocks.
use Rattle.std.proofs.Common.{◌≡◌, ℕ, ◌<◌, ◌+◌, List, length, Err, refl, sym, ap, subst, ◌∙◌, arith}
use Rattle.pv_layout.proofs.Words.{length-map, slice_get_within, Cause, Refused, Program, cause, Block, edges_of, MOST_BLOCKS, Answers, HasTooMany, entry_block, edges_within, one_flow, TStep, MAX_DEPTH, IsShape, Stuck, IsReducible, NestsUpTo, HasDepth, HasEdges, IsStructured, MeetsShape, Structures}
use Rattle.pv_frame.specs.declared.cause.Refused.TheVariants as refused
use Rattle.pv_frame.specs.declared.cause.CauseKind.TheVariants as kind

-- the edges of a program's blocks are one list
one_edges : (p : Program) (a b : List (List ℕ)) → HasEdges p a → HasEdges p b → a ≡ b
one_edges p a b x y = x.edges_are ∙ ap edges_of (one_flow p x.blocks y.blocks x.flow y.flow) ∙ sym y.edges_are

many_or_few : (p : Program) (edges : List (List ℕ)) → HasTooMany p → HasEdges p edges → ⊥
many_or_few p edges x y =
    let many = subst (λ (blocks : List Block). MOST_BLOCKS < length blocks) (one_flow p x.0 y.blocks x.1 y.flow) x.2 in
    absurd (omega (arith, many, y.few))

stuck_or_reducible : (p : Program) (a b : List (List ℕ)) (steps : List TStep) → HasEdges p a → HasEdges p b → Stuck a steps → IsReducible b → ⊥
stuck_or_reducible p a b steps x y stuck reducible = reducible steps (subst (λ (edges : List (List ℕ)). Stuck edges steps) (one_edges p a b x y) stuck)

-- ---- the edges as a shape

pub is_shape : (p : Program) (edges : List (List ℕ)) → HasEdges p edges → IsShape edges
is_shape p edges x =
    let first = entry_block p x.blocks x.flow in
    let entry : 0 < length x.blocks = slice_get_within x.blocks 0 first.0 first.1 in
    let size : length (edges_of x.blocks) ≡ length x.blocks = simp length-map in
    let shape : IsShape (edges_of x.blocks) = record {
      entry = subst (λ (n : ℕ). 0 < n) (sym size) entry;
      within = λ a b edge. subst (λ (n : ℕ). b < n) (sym size) (edges_within p x.blocks x.flow a b edge).1;
    } in
    subst IsShape (sym x.edges_are) shape

-- ---- what the blocks and the shape answer

pub too_many_blocks : (p : Program) (e : Refused) → Answers p (Err e) → Structures p (Err e)
too_many_blocks p (refused.Cause c) h = subst (MeetsShape p) (sym h.0) (MeetsShape.blocks h.1)
too_many_blocks p refused.Memory h = tt

pub deep : (p : Program) (edges : List (List ℕ)) (d : ℕ) → HasEdges p edges → (d ≡ MAX_DEPTH + 1) × IsReducible edges × HasDepth edges d → MeetsShape p (cause kind.Depth 0)
deep p edges d x h = MeetsShape.depth edges x h.1 (subst (λ (n : ℕ). HasDepth edges n) h.0 h.2)

-- ---- one cause

pub one_shape_cause : (p : Program) (c d : Cause) → MeetsShape p c → MeetsShape p d → c ≡ d
one_shape_cause p c d (MeetsShape.blocks x) (MeetsShape.blocks y) = refl
one_shape_cause p c d (MeetsShape.blocks x) (MeetsShape.irreducible e ts y s) = absurd (many_or_few p e x y)
one_shape_cause p c d (MeetsShape.blocks x) (MeetsShape.depth e y r h) = absurd (many_or_few p e x y)
one_shape_cause p c d (MeetsShape.irreducible e ts x s) (MeetsShape.blocks y) = absurd (many_or_few p e y x)
one_shape_cause p c d (MeetsShape.irreducible e ts x s) (MeetsShape.irreducible f us y t) = refl
one_shape_cause p c d (MeetsShape.irreducible e ts x s) (MeetsShape.depth f y r h) = absurd (stuck_or_reducible p e f ts x y s r)
one_shape_cause p c d (MeetsShape.depth e x r h) (MeetsShape.blocks y) = absurd (many_or_few p e y x)
one_shape_cause p c d (MeetsShape.depth e x r h) (MeetsShape.irreducible f us y t) = absurd (stuck_or_reducible p f e us y x t r)
one_shape_cause p c d (MeetsShape.depth e x r h) (MeetsShape.depth f y q k) = refl

pub not_structured : (p : Program) (c : Cause) → MeetsShape p c → IsStructured p → ⊥
not_structured p c (MeetsShape.blocks x) s = many_or_few p s.edges x s.has
not_structured p c (MeetsShape.irreducible e ts x stuck) s = stuck_or_reducible p e s.edges ts x s.has stuck s.reducible
not_structured p c (MeetsShape.depth e x r deep) s =
    let shallow = subst (λ (edges : List (List ℕ)). NestsUpTo edges MAX_DEPTH) (one_edges p s.edges e s.has x) s.shallow in
    absurd (omega (arith, shallow deep.0 deep.1 deep.2, deep.3))
