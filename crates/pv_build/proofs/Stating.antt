-- What is held in cells, slot by slot.
use Rattle.std.proofs.Common.{◌≡◌, ℕ, List, length, Some, None, slice_get, ◌∙◌, subst}
use Rattle.pv_build.proofs.Words.{Sort, Node, Graph, Exp, Named, Reads, Grows, Cell, State, IsCellOf, Part, Given, number_in, IsKnown, CellReadsFold, CellsFold, CellsRead, ReadsState}
use Rattle.pv_build.specs.declared.slot.Part.TheVariants as part
use Rattle.pv_build.proofs.Kept.{cell_kept, reads_kept, folds_kept}
use Rattle.pv_build.proofs.Cells.{by_slot}

-- ---- a cell where a block begins

pub record EnterCell (old : Graph) (x : Given) (which : Part) (sorts : List Sort) (g : Graph) (i : ℕ) (c : Cell) : Type 0 where
  pub of : Sort
  pub at : slice_get sorts i ≡ Some of
  pub is : IsCellOf g c of
  pub reads : (names : List Named) (base : ℕ → Exp) → CellsFold old.nodes names x which sorts base → IsKnown c.sort → Reads g.nodes names c.node (base (number_in which (length sorts) i))

pub enter_cell_kept : (first : Graph) (x : Given) (which : Part) (sorts : List Sort) (old new : Graph) → Grows old new → (i : ℕ) (c : Cell) → EnterCell first x which sorts old i c → EnterCell first x which sorts new i c
enter_cell_kept first x which sorts old new grows i c s =
    record { of = s.of; at = s.at; is = cell_kept old new grows c s.of s.is; reads = λ names base folds known. reads_kept old new grows names c.node (base (number_in which (length sorts) i)) (s.reads names base folds known) }

pub enter_cell : (first : Graph) (x : Given) (which : Part) (sorts : List Sort) (old new : Graph) → Grows first old → (i : ℕ) (t : Sort) (s : ℕ) (c : Cell) → slice_get sorts i ≡ Some t → s ≡ number_in which (length sorts) i
    → IsCellOf new c t → CellReadsFold old x s t new c → EnterCell first x which sorts new i c
enter_cell first x which sorts old new grows i t s c at same is reads =
    let n : ℕ = number_in which (length sorts) i in
    record {
      of = t;
      at = at;
      is = is;
      reads = λ names base folds known.
          let k : IsKnown t = λ un. known (is.0 ∙ un) in
          subst (λ (s : ℕ). CellReadsFold old x s t new c) same reads k names (base n) (folds_kept first old grows names x n None (Some (base n)) (folds i t at k));
    }

-- ---- slots, from cells

pub state_reads : (nodes : List Node) (names : List Named) (c : State) (base : ℕ → Exp) → Reads nodes names c.token (base 0) → Reads nodes names c.heap (base 3)
    → CellsRead nodes names c.locals part.Locals (length c.locals) base → CellsRead nodes names c.stack part.Stack (length c.stack) base → ReadsState nodes names c base
state_reads nodes names c base = by_slot c (λ s n. Reads nodes names n (base s))

pub cells_read_kept : (old new : Graph) → Grows old new → (names : List Named) (cells : List Cell) (which : Part) (count : ℕ) (base : ℕ → Exp) → CellsRead old.nodes names cells which count base → CellsRead new.nodes names cells which count base
cells_read_kept old new grows names cells which count base reads i c at known = reads_kept old new grows names c.node (base (number_in which count i)) (reads i c at known)
