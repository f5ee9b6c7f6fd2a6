-- Stores into locals, and reading them, by the machine and by the block.
use Rattle.std.proofs.Common.{◌≡◌, ℕ, zero, suc, Bool, true, false, List, [], ◌∷◌, length, Option, Some, None, refl, ap, sym, subst, ◌∙◌, inl, inr}
use Rattle.pv_outcomes.proofs.Words.{◌⊎◌, if◌then◌else◌, slice_get, slice_set, nat_lt, AllZip, ◌>>=◌, Num, World, Input, Val, Sort, fits, is_wide, last_local, has_room, first_cleared, set_local, sort_of_local, fits_same, of_sort, PartIs, Cell, cell_sort, unset, of_cell, InRange, StackIs, LocalIs}
use Rattle.pv_value.specs.declared.outcome.Val.TheVariants as val
use Rattle.pv_frame.specs.declared.sort.Sort.TheVariants as sort
use Rattle.pv_denote.specs.Denote.{strict}

module _ (w : World) (x : Input) (σ : ℕ → Val) where
  abbrev L : Option Num → Cell → Type 0
  L l c = LocalIs w x σ l c

  unset_is : L None unset
  unfolding strict
  unset_is = record { sort = inr refl; value = val.Unit; is = ([], refl, refl); told = λ n e. absurd (cc); range = λ n e. absurd (cc) }

  -- a local whose value is lost
  lost : (l : Option Num) (c : Cell) → L l c → L (if is_wide (sort_of_local l) then None else l) (if is_wide c.sort then unset else c)
  lost l c h = go h.sort
    where
      both : (b : Bool) → L (if b then None else l) (if b then unset else c)
      both true = unset_is
      both false = h

      kept : c.sort ≡ sort.Unknown → (b : Bool) → L (if b then None else l) c
      kept e true = record { sort = inr e; value = h.value; is = h.is; told = λ n z. absurd (let y = z in cc); range = λ n z. absurd (let y = z in cc) }
      kept e false = h

      go : (c.sort ≡ sort_of_local l) ⊎ (c.sort ≡ sort.Unknown) → L (if is_wide (sort_of_local l) then None else l) (if is_wide c.sort then unset else c)
      go (inl e) = subst (λ (z : Sort). L (if is_wide (sort_of_local l) then None else l) (if is_wide z then unset else c)) (sym e) (both (is_wide (sort_of_local l)))
      go (inr e) = subst (λ (z : Sort). L (if is_wide (sort_of_local l) then None else l) (if is_wide z then unset else c)) (sym e) (kept e (is_wide (sort_of_local l)))

  cleared : (ls : List (Option Num)) (cs : List Cell) → AllZip L ls cs → AllZip L (first_cleared None ls) (first_cleared unset cs)
  cleared [] [] h = tt
  cleared [] (c ∷ cs) h = absurd h
  cleared (l ∷ ls) [] h = absurd h
  cleared (l ∷ ls) (c ∷ cs) h = (unset_is, h.1)

  pub set_local_is : (k : ℕ) (l : Option Num) (c : Cell) (ls : List (Option Num)) (cs : List Cell) → sort_of_local l ≡ c.sort → L l c → AllZip L ls cs → AllZip L (set_local sort_of_local None k l ls) (set_local cell_sort unset k c cs)
  set_local_is k l c [] [] e r h = tt
  set_local_is k l c [] (d ∷ cs) e r h = absurd h
  set_local_is k l c (m ∷ ls) [] e r h = absurd h
  set_local_is zero l c (m ∷ ls) (d ∷ cs) e r h = (r, subst (λ (z : Sort). AllZip L (if is_wide (sort_of_local l) then first_cleared None ls else ls) (if is_wide z then first_cleared unset cs else cs)) e (go (is_wide (sort_of_local l))))
    where
      go : (b : Bool) → AllZip L (if b then first_cleared None ls else ls) (if b then first_cleared unset cs else cs)
      go true = cleared ls cs h.1
      go false = h.1
  set_local_is (suc zero) l c (m ∷ ls) (d ∷ cs) e r h = (lost m d h.0, set_local_is zero l c ls cs e r h.1)
  set_local_is (suc (suc k)) l c (m ∷ ls) (d ∷ cs) e r h = (h.0, set_local_is (suc k) l c ls cs e r h.1)

  long_as : (ls : List (Option Num)) (cs : List Cell) → AllZip L ls cs → length ls ≡ length cs
  long_as [] [] h = refl
  long_as [] (c ∷ cs) h = absurd h
  long_as (l ∷ ls) [] h = absurd h
  long_as (l ∷ ls) (c ∷ cs) h = ap suc (long_as ls cs h.1)

  pub room_as : (s : Sort) (k : ℕ) (ls : List (Option Num)) (cs : List Cell) → AllZip L ls cs → has_room s k ls ≡ has_room s k cs
  room_as s k ls cs h = ap (nat_lt (last_local s k)) (long_as ls cs h)

  -- the local that a cell of a sort stands for holds a value of that sort
  pub record Found (s : Sort) (o : Option Num) (c : Cell) : Type 0 where
    pub num : Num
    pub is : o ≡ Some num
    pub cell : StackIs w x σ num c
    pub sort : c.sort ≡ s

  held_local : (s : Sort) (l : Option Num) (c : Cell) → L l c → c.sort ≡ s → fits s s ≡ true → Found s (of_sort s l) c
  held_local s l c h e f = go h.sort
    where
      some : (l : Option Num) → s ≡ sort_of_local l → ((n : Num) → l ≡ Some n → h.value ≡ val.Num n) → ((n : Num) → l ≡ Some n → InRange n) → Found s (of_sort s l) c
      some None z t r = absurd (let y = subst (λ (z : Sort). fits z z ≡ true) z f in cc)
      some (Some n) z t r = record {
        num = n;
        is = subst (λ (z : Sort). (if fits z s then Some n else None) ≡ Some n) z (ap (λ (b : Bool). if b then Some n else None) f);
        cell = record { sort = sym z ∙ sym e; range = r n refl; is = subst (λ (v : Val). PartIs w x σ c.part v) (t n refl) h.is };
        sort = e;
      }

      go : (c.sort ≡ sort_of_local l) ⊎ (c.sort ≡ sort.Unknown) → Found s (of_sort s l) c
      go (inl z) = some l (sym e ∙ z) h.told h.range
      go (inr z) = absurd (let y = subst (λ (z : Sort). fits z z ≡ true) (sym e ∙ z) f in cc)

  fits_itself : (s t : Sort) → fits s t ≡ true → (s ≡ t) × (fits t t ≡ true)
  fits_itself s t e = let z = fits_same s t e in (z, subst (λ (u : Sort). fits u t ≡ true) z e)

  of_cell_says : (s : Sort) (c d : Cell) → of_cell s c ≡ Some d → (c ≡ d) × (c.sort ≡ s) × (fits s s ≡ true)
  of_cell_says s c d e = go (fits c.sort s) refl e
    where
      go : (b : Bool) → fits c.sort s ≡ b → (if b then Some c else None) ≡ Some d → (c ≡ d) × (c.sort ≡ s) × (fits s s ≡ true)
      go true f e = let z = fits_itself c.sort s f in ((let y = e in cc), z.0, z.1)
      go false f e = absurd (cc)

  pub local_is : (k : ℕ) (s : Sort) (ls : List (Option Num)) (cs : List Cell) (c : Cell) → AllZip L ls cs → (slice_get cs k >>= of_cell s) ≡ Some c → Found s (slice_get ls k >>= of_sort s) c
  local_is k s [] [] c h e = absurd (let y = e in cc)
  local_is k s [] (d ∷ cs) c h e = absurd h
  local_is k s (l ∷ ls) [] c h e = absurd h
  local_is zero s (l ∷ ls) (d ∷ cs) c h e = let z = of_cell_says s d c e in subst (Found s (of_sort s l)) z.0 (held_local s l d h.0 z.1 z.2)
  local_is (suc k) s (l ∷ ls) (d ∷ cs) c h e = local_is k s ls cs c h.1 e

  pub set_is : (k : ℕ) (l : Option Num) (c : Cell) (ls : List (Option Num)) (cs : List Cell) → L l c → AllZip L ls cs → AllZip L (slice_set ls k l) (slice_set cs k c)
  set_is k l c [] [] r h = tt
  set_is k l c [] (d ∷ cs) r h = absurd h
  set_is k l c (m ∷ ls) [] r h = absurd h
  set_is zero l c (m ∷ ls) (d ∷ cs) r h = (r, h.1)
  set_is (suc k) l c (m ∷ ls) (d ∷ cs) r h = (h.0, set_is k l c ls cs r h.1)
