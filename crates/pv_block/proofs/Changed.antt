-- What is held after an effect: it stands for what is held in parts after it, and has its sorts.
use Rattle.std.proofs.Common.{◌≡◌, ◌≢◌, ℕ, zero, suc, List, [], ◌∷◌, Some, None, inr, refl, sym, ap, subst, ◌∙◌}
use Rattle.pv_block.proofs.Words.{map, option_map, slice_set, AllZip, ◌>>=◌, Sort, Action, fits, takes, some_of, no_some, if_some, fits_same, Node, OpSort, I, T, H, HaveSorts, Graph, Part, Grows, IsOfSort, push, local_cell, bound, mapped, Cell, Held, Kid, Effect, sort_in, local_of, IsPlain, op_sort, IsSortedCell, AreSorted, IsSorted, Entry, StandsFor, CellStands, HoldsFor, ActsOn, AreKnown, pick, all_made, part_made, node_at, Stands, Fit, AreMade, effect_for, node_in, given_nodes, read_in, cell_part, given_parts, read_parts, changed, changed_parts, ChangeFits, HoldsAfter, SortedAfter}
use Rattle.pv_frame.specs.declared.sort.Sort.TheVariants as sort
use Rattle.pv_frame.specs.declared.action.Action.TheVariants as act
use Rattle.pv_runs.specs.Held as parts
use Rattle.pv_block.specs.declared.effect.Change.{Change}
use Rattle.pv_block.specs.declared.effect.Change.TheVariants.{Pushes, Writes, Sets, Calls, CallsFor}
use Rattle.pv_block.proofs.Sorts.{fits_known}
use Rattle.pv_block.proofs.Standing.{grown, known_stands}
use Rattle.pv_block.proofs.Holding.{local_both, holds_on}
use Rattle.pv_block.proofs.Exits.{sorted_on}
use Rattle.pv_block.proofs.Lines.{stands_later, sorts_later, picked}
use Rattle.pv_block.proofs.ByEffect.{given_sorts, by_effect, effect_fits}

-- ---- what it stands for

locals_set : (at : Entry) (nodes : List Node) (k : ℕ) (c : Cell) (d : parts.Cell) (cs : List Cell) (ds : List parts.Cell) → CellStands at nodes c d → AllZip (CellStands at nodes) cs ds → AllZip (CellStands at nodes) (slice_set cs k c) (slice_set ds k d)
locals_set at nodes k c d [] [] r h = tt
locals_set at nodes k c d [] (e ∷ ds) r h = absurd h
locals_set at nodes k c d (b ∷ cs) [] r h = absurd h
locals_set at nodes zero c d (b ∷ cs) (e ∷ ds) r h = (r, h.1)
locals_set at nodes (suc k) c d (b ∷ cs) (e ∷ ds) r h = (h.0, locals_set at nodes k c d cs ds r h.1)

module _ (at : Entry) (nodes : List Node) (given made : List ℕ) (ps qs : List Part) (c : Held) (h : parts.Held) (x : HoldsFor at nodes c h) (given_stand : Stands at nodes given ps) (made_stand : Stands at nodes made qs) where
  kid_stands : (k : Kid) (p : Part) → pick ps qs k ≡ Some p → StandsFor at nodes (node_at given made k) p
  kid_stands k p i = picked (StandsFor at nodes) given made ps qs given_stand made_stand k p i

  change_holds : (y : Change) (g : parts.Held) → changed_parts ps qs h y ≡ Some g → HoldsFor at nodes (changed given made c y) g
  change_holds (Pushes s k) g e =
      let a = bound (pick ps qs k) (λ p. Some (push h s p)) g e in
      subst (HoldsFor at nodes (changed given made c (Pushes s k))) (some_of _ _ a.2)
      (record { stand = x.stand; stack = ((refl, inr (kid_stands k a.0 a.1)), x.stack); locals = x.locals; heap = x.heap; token = x.token; unit = x.unit; clear = x.clear; start = x.start })
  change_holds (Writes k) g e =
      let a = bound (pick ps qs k) (λ p. Some (record h { heap = p })) g e in
      subst (HoldsFor at nodes (changed given made c (Writes k))) (some_of _ _ a.2)
      (record { stand = x.stand; stack = x.stack; locals = x.locals; heap = kid_stands k a.0 a.1; token = x.token; unit = x.unit; clear = x.clear; start = x.start })
  change_holds (Sets n k) g e =
      let a = bound (pick ps qs k) (λ p. Some (record h { locals = slice_set h.locals n (record { sort = sort.Int; part = p }) })) g e in
      subst (HoldsFor at nodes (changed given made c (Sets n k))) (some_of _ _ a.2)
      (record { stand = x.stand; stack = x.stack; locals = locals_set at nodes n _ _ c.locals h.locals (refl, inr (kid_stands k a.0 a.1)) x.locals; heap = x.heap; token = x.token; unit = x.unit; clear = x.clear; start = x.start })
  change_holds (Calls t k) g e =
      let a = bound (pick ps qs t) (λ q. pick ps qs k >>= λ p. Some (record h { heap = p; token = q })) g e in
      let b = bound (pick ps qs k) (λ p. Some (record h { heap = p; token = a.0 })) g a.2 in
      subst (HoldsFor at nodes (changed given made c (Calls t k))) (some_of _ _ b.2)
      (record { stand = x.stand; stack = x.stack; locals = x.locals; heap = kid_stands k b.0 b.1; token = kid_stands t a.0 a.1; unit = x.unit; clear = x.clear; start = x.start })
  change_holds (CallsFor t k s r) g e =
      let a = bound (pick ps qs t) (λ q. pick ps qs k >>= λ p. pick ps qs r >>= λ v. Some (push (record h { heap = p; token = q }) s v)) g e in
      let b = bound (pick ps qs k) (λ p. pick ps qs r >>= λ v. Some (push (record h { heap = p; token = a.0 }) s v)) g a.2 in
      let d = bound (pick ps qs r) (λ v. Some (push (record h { heap = b.0; token = a.0 }) s v)) g b.2 in
      subst (HoldsFor at nodes (changed given made c (CallsFor t k s r))) (some_of _ _ d.2)
      (record { stand = x.stand; stack = ((refl, inr (kid_stands r d.0 d.1)), x.stack); locals = x.locals; heap = kid_stands k b.0 b.1; token = kid_stands t a.0 a.1; unit = x.unit; clear = x.clear; start = x.start })

-- ---- its sorts

locals_sorted : (g : Graph) (k : ℕ) (c : Cell) (cs : List Cell) → IsSortedCell g c → AreSorted g cs → AreSorted g (slice_set cs k c)
locals_sorted g k c [] x h = tt
locals_sorted g zero c (d ∷ cs) x h = (x, h.1)
locals_sorted g (suc k) c (d ∷ cs) x h = (h.0, locals_sorted g k c cs x h.1)

module _ (g : Graph) (given made : List ℕ) (ss ts : List OpSort) (c : Held) (x : IsSorted g c) (given_have : HaveSorts g.sorts given ss) (made_have : HaveSorts g.sorts made ts) where
  kid_sorted : (k : Kid) (t : OpSort) → pick ss ts k ≡ Some t → IsOfSort g (node_at given made k) t
  kid_sorted k t i = picked (IsOfSort g) given made ss ts given_have made_have k t i

  change_sorted : (y : Change) → ChangeFits ss ts y → IsSorted g (changed given made c y)
  change_sorted (Pushes s k) f = record { graph = x.graph; stack = (kid_sorted k (op_sort s) f, x.stack); locals = x.locals; heap = x.heap; token = x.token; unit = x.unit; clear = x.clear; start = x.start }
  change_sorted (Writes k) f = record { graph = x.graph; stack = x.stack; locals = x.locals; heap = kid_sorted k H f; token = x.token; unit = x.unit; clear = x.clear; start = x.start }
  change_sorted (Sets n k) f = record { graph = x.graph; stack = x.stack; locals = locals_sorted g n _ c.locals (kid_sorted k I f) x.locals; heap = x.heap; token = x.token; unit = x.unit; clear = x.clear; start = x.start }
  change_sorted (Calls t k) f = record { graph = x.graph; stack = x.stack; locals = x.locals; heap = kid_sorted k H f.1; token = kid_sorted t T f.0; unit = x.unit; clear = x.clear; start = x.start }
  change_sorted (CallsFor t k s r) f =
      record { graph = x.graph; stack = (kid_sorted r (op_sort s) f.2, x.stack); locals = x.locals; heap = kid_sorted k H f.1; token = kid_sorted t T f.0; unit = x.unit; clear = x.clear; start = x.start }

-- ---- an effect

module _ (old new : Graph) (e : Effect) (given made : List ℕ) (c : Held) (grows : Grows old new) (is_made : AreMade old given e.lines new made) where
  pub effect_holds : HoldsAfter e old.nodes given c new.nodes (changed given made c e.change)
  effect_holds at ps h g stand x i =
      let b = bound (all_made part_made ps e.lines []) (λ qs. changed_parts ps qs h e.change) g i in
      change_holds at new.nodes given made ps b.0 c h (holds_on at old.nodes new.nodes (grown old new grows) c h x) (stands_later old new grows at given ps stand) (is_made.stand at ps b.0 x.stand stand b.1) e.change g b.2

  pub effect_sorted : IsSorted old c → SortedAfter e old given new (changed given made c e.change)
  effect_sorted s ss have f = change_sorted new given made ss f.made c (sorted_on old new c grows s) (sorts_later old new grows given ss have) (is_made.sorts ss f.made have f.are) e.change f.change

-- ---- what an action reads

local_known : (s : Sort) (k : ℕ) (cells : List Cell) (c : Cell) → local_of s k cells ≡ Some c → c.sort ≢ sort.Unknown
local_known s k [] c e = absurd (let y = e in cc)
local_known s zero (d ∷ cells) c e = let f = if_some (fits d.sort s) d c e in subst (λ (b : Cell). b.sort ≢ sort.Unknown) f.1 (fits_known d.sort s f.0)
local_known s (suc k) (d ∷ cells) c e = local_known s k cells c e

local_has : (g : Graph) (s : Sort) (k : ℕ) (cells : List Cell) (c : Cell) → local_of s k cells ≡ Some c → AreSorted g cells → IsOfSort g c.node (op_sort s)
local_has g s k [] c e h = absurd (let y = e in cc)
local_has g s zero (d ∷ cells) c e h =
    let f = if_some (fits d.sort s) d c e in
    subst (λ (b : Cell). IsOfSort g b.node (op_sort s)) f.1 (subst (λ (t : Sort). IsOfSort g d.node (op_sort t)) (fits_same d.sort s f.0) h.0)
local_has g s (suc k) (d ∷ cells) c e h = local_has g s k cells c e h.1

module _ (at : Entry) (nodes : List Node) (c : Held) (h : parts.Held) (x : HoldsFor at nodes c h) where
  pub given_stand : (cells : List Cell) (ds : List parts.Cell) → AreKnown cells → AllZip (CellStands at nodes) cells ds → Stands at nodes (given_nodes c cells) (given_parts h ds)
  given_stand cells ds k z = (x.start, (x.heap, nodes_stand cells ds k z))
    where
      nodes_stand : (cells : List Cell) (ds : List parts.Cell) → AreKnown cells → AllZip (CellStands at nodes) cells ds → Stands at nodes (map node_in cells) (map cell_part ds)
      nodes_stand [] [] k z = tt
      nodes_stand [] (d ∷ ds) k z = absurd z
      nodes_stand (b ∷ cells) [] k z = absurd z
      nodes_stand (b ∷ cells) (d ∷ ds) k z = (known_stands at nodes b d k.0 z.0, nodes_stand cells ds k.1 z.1)

  local_read : (s : Sort) (k : ℕ) (cs : List parts.Cell) → option_map (λ l. l ∷ []) (local_cell h k s) ≡ Some cs → (es : List Cell) × (option_map (λ l. l ∷ []) (local_of s k c.locals) ≡ Some es) × Stands at nodes (given_nodes c es) (given_parts h cs)
  local_read s k cs e =
      let m = mapped (λ (d : parts.Cell). d ∷ []) (local_cell h k s) cs e in
      let l = local_both at nodes k s c.locals h.locals m.0 x.locals m.1 in
      (l.0 ∷ [], ap (option_map (λ (d : Cell). d ∷ [])) l.1, subst (λ (cs : List parts.Cell). Stands at nodes (given_nodes c (l.0 ∷ [])) (given_parts h cs)) m.2 (x.start, (x.heap, (known_stands at nodes l.0 m.0 (local_known s k c.locals l.0 l.1) l.2, tt))))

  read_both : (a : Action) (cells : List Cell) (ds cs : List parts.Cell) → AreKnown cells → AllZip (CellStands at nodes) cells ds → read_parts a h ds ≡ Some cs → (es : List Cell) × (read_in a c cells ≡ Some es) × Stands at nodes (given_nodes c es) (given_parts h cs)
  read_both (act.Load s k) cells ds cs known z e = local_read s k cs e
  read_both (act.Increase k n) cells ds cs known z e = local_read sort.Int k cs e
  read_both a cells ds cs known z e = (cells, refl, subst (λ (cs : List parts.Cell). Stands at nodes (given_nodes c cells) (given_parts h cs)) (some_of _ _ e) (given_stand cells ds known z))

module _ (g : Graph) (c : Held) (x : IsSorted g c) where
  pub given_have : (cells : List Cell) → AreSorted g cells → HaveSorts g.sorts (given_nodes c cells) (T ∷ H ∷ map op_sort (map sort_in cells))
  given_have cells h = (x.start, (x.heap, nodes_have cells h))
    where
      nodes_have : (cells : List Cell) → AreSorted g cells → HaveSorts g.sorts (map node_in cells) (map op_sort (map sort_in cells))
      nodes_have [] h = tt
      nodes_have (b ∷ cells) h = (h.0, nodes_have cells h.1)

  local_sorted : (s : Sort) (k : ℕ) (es : List Cell) → option_map (λ l. l ∷ []) (local_of s k c.locals) ≡ Some es → HaveSorts g.sorts (given_nodes c es) (T ∷ H ∷ op_sort s ∷ [])
  local_sorted s k es e =
      let m = mapped (λ (d : Cell). d ∷ []) (local_of s k c.locals) es e in
      subst (λ (es : List Cell). HaveSorts g.sorts (given_nodes c es) (T ∷ H ∷ op_sort s ∷ [])) m.2 (x.start, (x.heap, (local_has g s k c.locals m.0 m.1 x.locals, tt)))

  read_sorted : (a : Action) (cells es : List Cell) → AreSorted g cells → map sort_in cells ≡ takes a → read_in a c cells ≡ Some es → HaveSorts g.sorts (given_nodes c es) (given_sorts a)
  read_sorted (act.Load s k) cells es h m e = local_sorted s k es e
  read_sorted (act.Increase k n) cells es h m e = local_sorted sort.Int k es e
  read_sorted a cells es h m e =
      subst (λ (es : List Cell). HaveSorts g.sorts (given_nodes c es) (given_sorts a)) (some_of _ _ e) (subst (λ (l : List Sort). HaveSorts g.sorts (given_nodes c cells) (T ∷ H ∷ map op_sort l)) m (given_have cells h))

-- ---- an action by its effect

module _ (a : Action) (e : Effect) (is : effect_for a ≡ Some e) (old : Graph) (c : Held) (cells : List Cell) where
  pub reads_none : (new : Graph) → AreKnown cells → read_in a c cells ≡ None → ActsOn a old.nodes c cells new.nodes None
  reads_none new known none at h g ds x z i =
      let m = by_effect h g a e ds is i in
      let r = read_both at old.nodes c h x a cells ds m.cells known z m.read in
      no_some r.0 (sym none ∙ r.1)

  module _ (es : List Cell) (read : read_in a c cells ≡ Some es) where
    pub acts_by_effect : (new : Graph) (after : Held) → AreKnown cells → HoldsAfter e old.nodes (given_nodes c es) c new.nodes after → ActsOn a old.nodes c cells new.nodes (Some after)
    acts_by_effect new after known holds at h g ds x z i =
        let m = by_effect h g a e ds is i in
        let r = read_both at old.nodes c h x a cells ds m.cells known z m.read in
        let stand = subst (λ (l : List Cell). Stands at old.nodes (given_nodes c l) (given_parts h m.cells)) (some_of _ _ (sym r.1 ∙ read)) r.2 in
        (after, refl, holds at (given_parts h m.cells) h g stand x m.is)

    module _ (plain_ : IsPlain a) (sorted : IsSorted old c) (operands : AreSorted old cells) (takes_ : map sort_in cells ≡ takes a) where
      pub effect_fit : Fit old (given_nodes c es) e.lines
      effect_fit = let f = effect_fits a e is plain_ in record { sorts = given_sorts a; given_have = read_sorted old c sorted a cells es operands takes_ read; made = f.made; are = f.are }

      pub sorted_by_effect : (new : Graph) (after : Held) → SortedAfter e old (given_nodes c es) new after → IsSorted new after
      sorted_by_effect new after keeps = keeps (given_sorts a) (read_sorted old c sorted a cells es operands takes_ read) (effect_fits a e is plain_)
