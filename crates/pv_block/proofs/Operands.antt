-- What is left of a block whose last action takes its operands.
use Rattle.std.proofs.Common.{◌≡◌, ℕ, suc, Bool, true, false, List, ◌∷◌, Option, Some, None, refl, ap, sym, subst, ◌∙◌}
use Rattle.pv_block.proofs.Words.{if◌then◌else◌, map, AllZip, some_of, no_some, ◌>>=◌, JType, Sort, Action, Taken, popped, takes, Node, HaveSorts, T, H, Graph, Chain, Grows, cell_sort, acted_on, acted, to, chain_with, last_chain, ends_method, bound, Cell, Held, Row, Ending, Ran, sort_in, CellStands, HoldsFor, op_sort, AreSorted, IsSorted, IsPlain, popped_in, ActsOn, given_nodes, given_parts, Fit, row_for, LeavesByRow, RowFits, KeepsSorts, AreKnown, ended, LeavesBy, AreSortedExits, chain_from, LeavesFrom, LeavesAs, GivesResult}
use Rattle.pv_frame.specs.declared.action.Action.TheVariants as act
use Rattle.pv_runs.specs.Held as parts
use Rattle.pv_block.specs.Ran.{result_sort}
use Rattle.pv_block.proofs.Exits.{ends_on, ended_for}
use Rattle.pv_block.proofs.Lines.{stands_later, sorts_later}
use Rattle.pv_block.proofs.Popped.{pops}
use Rattle.pv_block.proofs.Changed.{given_stand, given_have}
use Rattle.pv_block.proofs.ByRow.{goes_by_row, ends_by_row, row_fits}

-- ---- what is left of a block

module _ (r : Option JType) (k : ℕ) (a : Action) (old new : List Node) (c : Held) where
  pub leaves_popped : (rest : Held) (cells : List Cell) (o : Option Ran) → popped_in a c ≡ Some (cells, rest) → LeavesFrom r (suc k) a old rest cells new o → LeavesAs r k a old c new o
  leaves_popped rest cells o is leaves at h x hold e =
      let b = bound (popped cell_sort (takes a) h.stack) (λ (q : List parts.Cell × List parts.Cell). chain_from r (suc k) a (record h { stack = q.1 }) q.0) x e in
      let p = pops at old a c h b.0 hold b.1 in
      let same = some_of _ _ (sym p.popped_ ∙ is) in
      let l = leaves at (record h { stack = b.0.1 }) b.0.0 x (subst (λ (z : List Cell × Held). HoldsFor at old z.1 (record h { stack = b.0.1 })) same p.holds) (subst (λ (z : List Cell × Held). AllZip (CellStands at old) z.0 b.0.0) same p.operands) b.2 in
      let acts : acted_on a (record h { stack = b.0.1 }) b.0.0 ≡ acted a h = ap (λ (t : Taken parts.Cell). t >>= λ q. acted_on a (record h { stack = q.1 }) q.0) (sym b.1) in
      (l.0, l.1, subst (λ (after : Option parts.Held). LeavesBy at new after l.0 x) acts l.2)

  pub leaves_none : popped_in a c ≡ None → LeavesAs r k a old c new None
  leaves_none is at h x hold e =
      let b = bound (popped cell_sort (takes a) h.stack) (λ (q : List parts.Cell × List parts.Cell). chain_from r (suc k) a (record h { stack = q.1 }) q.0) x e in
      let p = pops at old a c h b.0 hold b.1 in
      no_some _ (sym is ∙ p.popped_)

-- ---- an action with its operands

module _ (r : Option JType) (next : ℕ) (a : Action) (old new : Graph) (rest : Held) (cells : List Cell) (known : AreKnown cells) (ran : Ran) where
  abbrev Left : Graph → Held → Type 0
  Left mid after = LeavesByRow (row_for r next a) mid.nodes (given_nodes rest cells) (ended rest) after new.nodes ran

  -- one that ends the method
  pub ends_from : ends_method a ≡ true → Left old rest → LeavesFrom r next a old.nodes rest cells new.nodes (Some ran)
  ends_from ends left at h ds x hold z e =
      let last = ap (λ (b : Bool). if b then last_chain r a h ds else acted_on a h ds >>= λ after. chain_with r a h ds (to next after)) (sym ends) ∙ e in
      (ran, refl, left at (given_parts h ds) h (acted_on a h ds) x hold.stand (given_stand at old.nodes rest h hold cells ds known z) (ended_for at old.nodes rest h hold) (λ g acts. no_after a h g ds (HoldsFor at old.nodes rest g) ends acts) (ends_by_row r next a h (acted_on a h ds) ds x ends last))
    where
      no_after : (a : Action) (h g : parts.Held) (ds : List parts.Cell) (G : Type 0) → ends_method a ≡ true → acted_on a h ds ≡ Some g → G
      no_after (act.Give s) h g ds G ends e = no_some g e
      no_after act.Throw h g ds G ends e = no_some g e
      no_after a h g ds G ends e = absurd (cc)

  -- one that goes on
  module _ (mid : Graph) (grows : Grows old mid) (goes : ends_method a ≡ false) where
    next_chain : (h : parts.Held) (ds : List parts.Cell) (x : Chain) → chain_from r next a h ds ≡ Some x → (acted_on a h ds >>= λ after. chain_with r a h ds (to next after)) ≡ Some x
    next_chain h ds x e = ap (λ (b : Bool). if b then last_chain r a h ds else acted_on a h ds >>= λ after. chain_with r a h ds (to next after)) (sym goes) ∙ e

    pub goes_from : (after : Held) → ActsOn a old.nodes rest cells mid.nodes (Some after) → Left mid after → LeavesFrom r next a old.nodes rest cells new.nodes (Some ran)
    goes_from after acts left at h ds x hold z e =
        let b = bound (acted_on a h ds) (λ after. chain_with r a h ds (to next after)) x (next_chain h ds x e) in
        let d = acts at h b.0 ds hold z b.1 in
        let there : HoldsFor at mid.nodes after b.0 = subst (λ (c : Held). HoldsFor at mid.nodes c b.0) (sym (some_of _ _ d.1)) d.2 in
        let given = stands_later old mid grows at (given_nodes rest cells) (given_parts h ds) (given_stand at old.nodes rest h hold cells ds known z) in (
          ran,
          refl,
          subst (λ (o : Option parts.Held). LeavesBy at new.nodes o ran x) (sym b.1)
              (left at (given_parts h ds) h (Some b.0) x there.stand given (ends_on at old mid (ended rest) h grows (ended_for at old.nodes rest h hold)) (λ g same. subst (HoldsFor at mid.nodes after) (some_of _ _ same) there)
              (goes_by_row r next a h b.0 ds x b.1 b.2)),
        )

pub goes_none : (r : Option JType) (next : ℕ) (a : Action) (old mid new : Graph) (rest : Held) (cells : List Cell) → ends_method a ≡ false → ActsOn a old.nodes rest cells mid.nodes None → LeavesFrom r next a old.nodes rest cells new.nodes None
goes_none r next a old mid new rest cells goes acts at h ds x hold z e =
    let last = ap (λ (b : Bool). if b then last_chain r a h ds else acted_on a h ds >>= λ after. chain_with r a h ds (to next after)) (sym goes) ∙ e in
    let b = bound (acted_on a h ds) (λ after. chain_with r a h ds (to next after)) x last in
    let d = acts at h b.0 ds hold z b.1 in
    no_some _ d.1

-- ---- sorts

given_sorted : (old new : Graph) (a : Action) (held : Held) (cells : List Cell) → Grows old new → IsSorted old held → AreSorted old cells → map sort_in cells ≡ takes a → HaveSorts new.sorts (given_nodes held cells) (T ∷ H ∷ map op_sort (takes a))
given_sorted old new a held cells g s t m = sorts_later old new g (given_nodes held cells) (T ∷ H ∷ map op_sort (takes a)) (subst (λ (l : List Sort). HaveSorts old.sorts (given_nodes held cells) (T ∷ H ∷ map op_sort l)) m (given_have old held s cells t))

pub row_fit : (old new : Graph) (r : Option JType) (next : ℕ) (a : Action) (held : Held) (cells : List Cell) (row : Row) (given : List ℕ) → row ≡ row_for r next a → given ≡ given_nodes held cells → Grows old new → IsPlain a → GivesResult r a → IsSorted old held → AreSorted old cells → map sort_in cells ≡ takes a → Fit new given row.lines
row_fit old new r next a held cells row given e f g p v s t m =
    let fits = row_fits r next a p v in
    let fit : Fit new (given_nodes held cells) (row_for r next a).lines = record { sorts = T ∷ H ∷ map op_sort (takes a); given_have = given_sorted old new a held cells g s t m; made = fits.made; are = fits.are } in
    subst (λ (r : Row). Fit new given r.lines) (sym e) (subst (λ (ks : List ℕ). Fit new ks (row_for r next a).lines) (sym f) fit)

pub same_left : (row row' : Row) (given given' : List ℕ) (ends ends' : Ending) (old new : List Node) (c : Held) (ran : Ran) → row ≡ row' → given ≡ given' → ends ≡ ends' → LeavesByRow row old given ends c new ran → LeavesByRow row' old given' ends' c new ran
same_left row row' given given' ends ends' old new c ran e f g left =
    subst (λ (r : Row). LeavesByRow r old given' ends' c new ran) e (subst (λ (ks : List ℕ). LeavesByRow row old ks ends' c new ran) f (subst (λ (e : Ending). LeavesByRow row old given e c new ran) g left))

pub left_sorted : (old new mid : Graph) (r : Option JType) (next : ℕ) (a : Action) (held : Held) (cells : List Cell) (row : Row) (given : List ℕ) (ran : Ran) → Grows old mid → IsPlain a → GivesResult r a → IsSorted old held → AreSorted old cells → map sort_in cells ≡ takes a
    → row ≡ row_for r next a → given ≡ given_nodes held cells → KeepsSorts row mid given new ran → AreSortedExits new (result_sort r) ran
left_sorted old new mid r next a held cells row given ran g p v s t m e f keeps =
    let ss = T ∷ H ∷ map op_sort (takes a) in
    keeps ss (result_sort r) (subst (λ (ks : List ℕ). HaveSorts mid.sorts ks ss) (sym f) (given_sorted old mid a held cells g s t m)) (subst (RowFits ss (result_sort r)) (sym e) (row_fits r next a p v))
