-- After actions that move values alone all that is held still has its sort.
use Rattle.std.proofs.Common.{◌≡◌, ℕ, zero, suc, true, false, List, [], ◌∷◌, Option, Some, None, refl, ap, sym, subst, ◌∙◌}
use Rattle.pv_block.proofs.Words.{if◌then◌else◌, option_map, IfSome, AllZip, Sort, Move, Action, is_wide, has_room, first_cleared, moved, set_local, some_of, no_some, if_some, T, Graph, IsOfSort, moved_both, lists_found, Cell, Held, sort_in, empty, IsSortedCell, AreSorted, IsSorted, shifted, rearranged}
use Rattle.pv_frame.specs.declared.action.Action.TheVariants as act

module _ (g : Graph) where
  -- one cell, which has its sort
  abbrev pub Same : Cell → Cell → Type 0
  Same x y = (x ≡ y) × IsSortedCell g x

  pub to_zip : (cells : List Cell) → AreSorted g cells → AllZip Same cells cells
  to_zip [] h = tt
  to_zip (c ∷ cells) h = ((refl, h.0), to_zip cells h.1)

  pub of_zip : (xs ys : List Cell) → AllZip Same xs ys → AreSorted g xs
  of_zip [] [] h = tt
  of_zip [] (y ∷ ys) h = absurd h
  of_zip (x ∷ xs) [] h = absurd h
  of_zip (x ∷ xs) (y ∷ ys) h = (h.0.1, of_zip xs ys h.1)

  moved_sorted : (m : Move) (stack after : List Cell) → moved sort_in m stack ≡ Some after → AreSorted g stack → AreSorted g after
  moved_sorted m stack after e h =
      let f = lists_found Same (moved sort_in m stack) (moved sort_in m stack) after (moved_both Same sort_in sort_in (λ a b r. ap sort_in r.0) m stack stack (to_zip stack h)) e in
      subst (AreSorted g) (some_of _ _ (sym f.1 ∙ e)) (of_zip f.0 after f.2)

  module _ (u : ℕ) (unit : IsOfSort g u T) where
    cleared_sorted : (cells : List Cell) → AreSorted g cells → AreSorted g (first_cleared (empty u) cells)
    cleared_sorted [] h = tt
    cleared_sorted (c ∷ cells) h = (unit, h.1)

    set_sorted : (k : ℕ) (c : Cell) (cells : List Cell) → IsSortedCell g c → AreSorted g cells → AreSorted g (set_local sort_in (empty u) k c cells)
    set_sorted k c [] x h = tt
    set_sorted zero c (d ∷ cells) x h = (x, elim (is_wide c.sort) as (λ b. AreSorted g (if b then first_cleared (empty u) cells else cells)) [ true ↦ cleared_sorted cells h.1 | false ↦ h.1 ])
    set_sorted (suc zero) c (d ∷ cells) x h = (elim (is_wide d.sort) as (λ b. IsSortedCell g (if b then empty u else d)) [ true ↦ unit | false ↦ h.0 ], set_sorted zero c cells x h.1)
    set_sorted (suc (suc k)) c (d ∷ cells) x h = (h.0, set_sorted (suc k) c cells x h.1)

  store_sorted : (s : Sort) (k : ℕ) (c d : Held) (cells : List Cell) → IsSorted g c → AreSorted g cells → rearranged (act.Store s k) c cells ≡ Some d → IsSorted g d
  store_sorted s k c d [] x h e = no_some d e
  store_sorted s k c d (cell ∷ []) x h e =
      let after : Held = record c { locals = set_local sort_in (empty c.unit) k cell c.locals } in
      subst (IsSorted g) (if_some (has_room cell.sort k c.locals) after d e).1 (record { graph = x.graph; stack = x.stack; locals = set_sorted c.unit x.unit k cell c.locals h.0 x.locals; heap = x.heap; token = x.token; unit = x.unit; clear = x.clear; start = x.start })
  store_sorted s k c d (cell ∷ cell' ∷ cells) x h e = no_some d e

  shift_sorted : (m : Move) (c d : Held) → IsSorted g c → shifted m c ≡ Some d → IsSorted g d
  shift_sorted m c d x e = go (moved sort_in m c.stack) refl e
    where
      go : (o : Option (List Cell)) → moved sort_in m c.stack ≡ o → option_map (λ stack. record c { stack = stack }) o ≡ Some d → IsSorted g d
      go None is e = no_some d e
      go (Some stack) is e =
          subst (IsSorted g) (some_of _ _ e) (record { graph = x.graph; stack = moved_sorted m c.stack stack is x.stack; locals = x.locals; heap = x.heap; token = x.token; unit = x.unit; clear = x.clear; start = x.start })

  stays_sorted : (c d : Held) → IsSorted g c → Some c ≡ Some d → IsSorted g d
  stays_sorted c d x e = subst (IsSorted g) (some_of _ _ e) x

  pub rearranged_sorted : (a : Action) (c d : Held) (cells : List Cell) → IsSorted g c → AreSorted g cells → rearranged a c cells ≡ Some d → IsSorted g d
  rearranged_sorted act.Nop c d cells x h e = stays_sorted c d x e
  rearranged_sorted (act.Branch t target) c d cells x h e = stays_sorted c d x e
  rearranged_sorted (act.Jump target) c d cells x h e = stays_sorted c d x e
  rearranged_sorted (act.Switch default cases) c d cells x h e = stays_sorted c d x e
  rearranged_sorted (act.Store s k) c d cells x h e = store_sorted s k c d cells x h e
  rearranged_sorted (act.Move m) c d cells x h e = shift_sorted m c d x e
  rearranged_sorted a c d cells x h e = no_some d e

  pub if_sorted : (a : Action) (c : Held) (cells : List Cell) (o : Option Held) → IsSorted g c → AreSorted g cells → o ≡ rearranged a c cells → IfSome o (λ after. IsSorted g after)
  if_sorted a c cells None x h e = tt
  if_sorted a c cells (Some d) x h e = rearranged_sorted a c d cells x h (sym e)
