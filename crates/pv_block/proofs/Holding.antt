-- What is held in nodes stands for what is held in parts: where a graph grows, and after actions that move values alone.
use Rattle.std.proofs.Common.{◌≡◌, ℕ, zero, suc, Bool, true, false, List, [], ◌∷◌, length, Option, Some, None, inl, refl, ap, subst, ◌∙◌}
use Rattle.pv_block.proofs.Words.{if◌then◌else◌, option_map, slice_get, nat_lt, AllZip, ◌>>=◌, Sort, Move, Action, fits, is_wide, last_local, has_room, first_cleared, moved, set_local, some_of, no_some, if_some, fits_same, Node, Stand, stand_then, Slot, cell_sort, of_cell, unset, unit_part, clear_part, acted_on, moved_both, lists_found, Cell, Held, sort_in, cell_of, local_of, empty, Entry, CellStands, HoldsFor, shifted, rearranged, effect_for}
use Rattle.pv_frame.specs.declared.action.Action.TheVariants as act
use Rattle.pv_runs.specs.Held as parts
use Rattle.pv_block.proofs.Standing.{stands_on, cell_on}

-- ---- growth

pub zip_on : (at : Entry) (old new : List Node) → Stand old new → (cs : List Cell) (ds : List parts.Cell) → AllZip (CellStands at old) cs ds → AllZip (CellStands at new) cs ds
zip_on at old new s [] [] h = tt
zip_on at old new s [] (d ∷ ds) h = absurd h
zip_on at old new s (c ∷ cs) [] h = absurd h
zip_on at old new s (c ∷ cs) (d ∷ ds) h = (cell_on at old new c d s h.0, zip_on at old new s cs ds h.1)

pub holds_on : (at : Entry) (old new : List Node) → Stand old new → (c : Held) (h : parts.Held) → HoldsFor at old c h → HoldsFor at new c h
holds_on at old new s c h x = record {
  stand = stand_then at.nodes old new x.stand s;
  stack = zip_on at old new s c.stack h.stack x.stack;
  locals = zip_on at old new s c.locals h.locals x.locals;
  heap = stands_on at old new c.heap h.heap s x.heap;
  token = stands_on at old new c.token h.token s x.token;
  unit = stands_on at old new c.unit unit_part s x.unit;
  clear = stands_on at old new c.clear clear_part s x.clear;
  start = stands_on at old new c.start (Slot 0) s x.start;
}

-- ---- locals

module _ (at : Entry) (nodes : List Node) where
  abbrev R : Cell → parts.Cell → Type 0
  R c d = CellStands at nodes c d

  cell_found : (s : Sort) (c : Cell) (d e : parts.Cell) → R c d → of_cell s d ≡ Some e → (cell_of s c ≡ Some c) × (d ≡ e) × (c.sort ≡ s)
  cell_found s c d e r is =
      let found = if_some (fits d.sort s) d e is in
      let f : fits c.sort s ≡ true = ap (λ (z : Sort). fits z s) r.0 ∙ found.0 in
      (ap (λ (b : Bool). if b then Some c else None) f, found.1, fits_same c.sort s f)

  pub local_both : (k : ℕ) (s : Sort) (cs : List Cell) (ds : List parts.Cell) (e : parts.Cell) → AllZip R cs ds → (slice_get ds k >>= of_cell s) ≡ Some e → (c : Cell) × (local_of s k cs ≡ Some c) × R c e × (c.sort ≡ s)
  local_both k s [] [] e h is = absurd (let y = is in cc)
  local_both k s [] (d ∷ ds) e h is = absurd h
  local_both k s (c ∷ cs) [] e h is = absurd h
  local_both zero s (c ∷ cs) (d ∷ ds) e h is = let z = cell_found s c d e h.0 is in (c, z.0, subst (R c) z.1 h.0, z.2)
  local_both (suc k) s (c ∷ cs) (d ∷ ds) e h is = local_both k s cs ds e h.1 is

  long_as : (cs : List Cell) (ds : List parts.Cell) → AllZip R cs ds → length cs ≡ length ds
  long_as [] [] h = refl
  long_as [] (d ∷ ds) h = absurd h
  long_as (c ∷ cs) [] h = absurd h
  long_as (c ∷ cs) (d ∷ ds) h = ap suc (long_as cs ds h.1)

  module _ (u : ℕ) where
    unset_both : R (empty u) unset
    unset_both = (refl, inl refl)

    lost : (c : Cell) (d : parts.Cell) → R c d → R (if is_wide c.sort then empty u else c) (if is_wide d.sort then unset else d)
    lost c d r = subst (λ (z : Sort). R (if is_wide c.sort then empty u else c) (if is_wide z then unset else d)) r.0 (elim (is_wide c.sort) as (λ b. R (if b then empty u else c) (if b then unset else d)) [ true ↦ unset_both | false ↦ r ])

    cleared : (cs : List Cell) (ds : List parts.Cell) → AllZip R cs ds → AllZip R (first_cleared (empty u) cs) (first_cleared unset ds)
    cleared [] [] h = tt
    cleared [] (d ∷ ds) h = absurd h
    cleared (c ∷ cs) [] h = absurd h
    cleared (c ∷ cs) (d ∷ ds) h = (unset_both, h.1)

    pub set_both : (k : ℕ) (c : Cell) (d : parts.Cell) (cs : List Cell) (ds : List parts.Cell) → R c d → AllZip R cs ds → AllZip R (set_local sort_in (empty u) k c cs) (set_local cell_sort unset k d ds)
    set_both k c d [] [] r h = tt
    set_both k c d [] (e ∷ ds) r h = absurd h
    set_both k c d (m ∷ cs) [] r h = absurd h
    set_both zero c d (m ∷ cs) (e ∷ ds) r h = (
      r,
      subst (λ (z : Sort). AllZip R (if is_wide c.sort then first_cleared (empty u) cs else cs) (if is_wide z then first_cleared unset ds else ds)) r.0
          (elim (is_wide c.sort) as (λ b. AllZip R (if b then first_cleared (empty u) cs else cs) (if b then first_cleared unset ds else ds)) [ true ↦ cleared cs ds h.1 | false ↦ h.1 ]),
    )
    set_both (suc zero) c d (m ∷ cs) (e ∷ ds) r h = (lost m e h.0, set_both zero c d cs ds r h.1)
    set_both (suc (suc k)) c d (m ∷ cs) (e ∷ ds) r h = (h.0, set_both (suc k) c d cs ds r h.1)

  -- ---- actions that move values alone

  abbrev Becomes : Option Held → parts.Held → Type 0
  Becomes o g = (c : Held) × (o ≡ Some c) × HoldsFor at nodes c g

  store_one : (s : Sort) (k : ℕ) (c : Held) (h g : parts.Held) (cell : Cell) (d : parts.Cell) → HoldsFor at nodes c h → R cell d → acted_on (act.Store s k) h (d ∷ []) ≡ Some g → Becomes (rearranged (act.Store s k) c (cell ∷ [])) g
  store_one s k c h g cell d x r e =
      let after : parts.Held = record h { locals = set_local cell_sort unset k d h.locals } in
      let done : Held = record c { locals = set_local sort_in (empty c.unit) k cell c.locals } in
      let found = if_some (has_room d.sort k h.locals) after g e in
      let room : has_room cell.sort k c.locals ≡ true = ap (λ (z : Sort). has_room z k c.locals) r.0 ∙ ap (nat_lt (last_local d.sort k)) (long_as c.locals h.locals x.locals) ∙ found.0 in (
        done,
        ap (λ (b : Bool). if b then Some done else None) room,
        subst (HoldsFor at nodes done) found.1 (record { stand = x.stand; stack = x.stack; locals = set_both c.unit k cell d c.locals h.locals r x.locals; heap = x.heap; token = x.token; unit = x.unit; clear = x.clear; start = x.start }),
      )

  store_holds : (s : Sort) (k : ℕ) (c : Held) (h g : parts.Held) (cells : List Cell) (ds : List parts.Cell) → HoldsFor at nodes c h → AllZip R cells ds → acted_on (act.Store s k) h ds ≡ Some g → Becomes (rearranged (act.Store s k) c cells) g
  store_holds s k c h g [] [] x z e = no_some g e
  store_holds s k c h g [] (d ∷ ds) x z e = absurd z
  store_holds s k c h g (cell ∷ cells) [] x z e = absurd z
  store_holds s k c h g (cell ∷ []) (d ∷ []) x z e = store_one s k c h g cell d x z.0 e
  store_holds s k c h g (cell ∷ []) (d ∷ d' ∷ ds) x z e = absurd z.1
  store_holds s k c h g (cell ∷ cell' ∷ cells) (d ∷ []) x z e = absurd z.1
  store_holds s k c h g (cell ∷ cell' ∷ cells) (d ∷ d' ∷ ds) x z e = no_some g e

  move_holds : (m : Move) (c : Held) (h g : parts.Held) → HoldsFor at nodes c h → option_map (λ stack. record h { stack = stack }) (moved cell_sort m h.stack) ≡ Some g → Becomes (shifted m c) g
  move_holds m c h g x e = go (moved cell_sort m h.stack) refl e
    where
      go : (o : Option (List parts.Cell)) → moved cell_sort m h.stack ≡ o → option_map (λ stack. record h { stack = stack }) o ≡ Some g → Becomes (shifted m c) g
      go None is e = no_some g e
      go (Some stack) is e =
          let f = lists_found R (moved sort_in m c.stack) (moved cell_sort m h.stack) stack (moved_both R sort_in cell_sort (λ a b r. r.0) m c.stack h.stack x.stack) is in
          let after : Held = record c { stack = f.0 } in (
            after,
            ap (option_map (λ (stack : List Cell). record c { stack = stack })) f.1,
            subst (HoldsFor at nodes after) (some_of _ _ e) (record { stand = x.stand; stack = f.2; locals = x.locals; heap = x.heap; token = x.token; unit = x.unit; clear = x.clear; start = x.start }),
          )

  stays : (c : Held) (h g : parts.Held) → HoldsFor at nodes c h → Some h ≡ Some g → Becomes (Some c) g
  stays c h g x e = (c, refl, subst (HoldsFor at nodes c) (some_of _ _ e) x)

  pub rearranged_holds : (a : Action) (c : Held) (h g : parts.Held) (cells : List Cell) (ds : List parts.Cell) → effect_for a ≡ None → HoldsFor at nodes c h → AllZip R cells ds → acted_on a h ds ≡ Some g → Becomes (rearranged a c cells) g
  rearranged_holds act.Nop c h g cells ds n x z e = stays c h g x e
  rearranged_holds (act.Branch t target) c h g cells ds n x z e = stays c h g x e
  rearranged_holds (act.Jump target) c h g cells ds n x z e = stays c h g x e
  rearranged_holds (act.Switch default cases) c h g cells ds n x z e = stays c h g x e
  rearranged_holds (act.Store s k) c h g cells ds n x z e = store_holds s k c h g cells ds x z e
  rearranged_holds (act.Move m) c h g cells ds n x z e = move_holds m c h g x e
  rearranged_holds (act.Give s) c h g cells ds n x z e = no_some g e
  rearranged_holds act.Throw c h g cells ds n x z e = no_some g e
  rearranged_holds a c h g cells ds n x z e = absurd (let y = n in cc)
