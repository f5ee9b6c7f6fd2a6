-- Operands that are popped: they stand for those that are popped in parts, and have the sorts that the action takes, which are known.
use Rattle.std.proofs.Common.{◌≡◌, ◌≢◌, true, false, Vec, Global, List, [], ◌∷◌, ◌++◌, reverse, Option, Some, None, refl, ap, sym, subst, ◌∙◌}
use Rattle.pv_block.proofs.Words.{map, option_map, if◌then◌else◌, AllZip, AllByRecursion, reverse-append, ◌>>=◌, Sort, Action, Taken, fits, with_first, turned, popped, takes, map_reverse, some_of, no_some, popped_sorts, Node, Graph, cell_sort, acted_on, popped_both, taken_found, Cell, Held, sort_in, Entry, CellStands, HoldsFor, AreSorted, IsSorted, popped_in, ActsOn, Acts, AreKnown}
use Rattle.pv_frame.specs.declared.sort.Sort.TheVariants as sort
use Rattle.pv_frame.specs.Stacks.{taken}
use Rattle.pv_runs.specs.Held as parts
use Rattle.pv_block.proofs.Sorts.{fits_known}
use Rattle.pv_block.proofs.Rearranged.{Same, to_zip, of_zip}

-- the operands and what is held without them, where there are operands in parts
pub record Pops (at : Entry) (nodes : List Node) (a : Action) (c : Held) (h : parts.Held) (q : List parts.Cell × List parts.Cell) : Type 0 where
  pub cells : List Cell
  pub rest : Held
  pub popped_ : popped_in a c ≡ Some (cells, rest)
  pub operands : AllZip (CellStands at nodes) cells q.0
  pub holds : HoldsFor at nodes rest (record h { stack = q.1 })

pub pops : (at : Entry) (nodes : List Node) (a : Action) (c : Held) (h : parts.Held) (q : List parts.Cell × List parts.Cell) → HoldsFor at nodes c h → popped cell_sort (takes a) h.stack ≡ Some q → Pops at nodes a c h q
pops at nodes a c h q x e =
    let R : Cell → parts.Cell → Type 0 = CellStands at nodes in
    let f = taken_found R (popped sort_in (takes a) c.stack) (popped cell_sort (takes a) h.stack) q (popped_both R sort_in cell_sort (λ a b r. r.0) (takes a) c.stack h.stack x.stack) e in
    record {
      cells = f.0.0;
      rest = record c { stack = f.0.1 };
      popped_ = ap (option_map (λ (q : List Cell × List Cell). (q.0, record c { stack = q.1 }))) f.1;
      operands = f.2;
      holds = record { stand = x.stand; stack = f.3; locals = x.locals; heap = x.heap; token = x.token; unit = x.unit; clear = x.clear; start = x.start };
    }

pub acts_popped : (a : Action) (old new : List Node) (c rest : Held) (cells : List Cell) (o : Option Held) → popped_in a c ≡ Some (cells, rest) → ActsOn a old rest cells new o → Acts a old c new o
acts_popped a old new c rest cells o is acts at h g x e = go (popped cell_sort (takes a) h.stack) refl e
  where
    go : (t : Taken parts.Cell) → popped cell_sort (takes a) h.stack ≡ t → (t >>= λ x. acted_on a (record h { stack = x.1 }) x.0) ≡ Some g → (d : Held) × (o ≡ Some d) × HoldsFor at new d g
    go None i e = no_some g e
    go (Some q) i e =
        let p = pops at old a c h q x i in
        let same = some_of _ _ (sym p.popped_ ∙ is) in
        acts at (record h { stack = q.1 }) g q.0 (subst (λ (z : List Cell × Held). HoldsFor at old z.1 (record h { stack = q.1 })) same p.holds) (subst (λ (z : List Cell × Held). AllZip (CellStands at old) z.0 q.0) same p.operands) e

pub acts_none : (a : Action) (old new : List Node) (c : Held) → popped_in a c ≡ None → Acts a old c new None
acts_none a old new c is at h g x e = go (popped cell_sort (takes a) h.stack) refl e
  where
    go : (t : Taken parts.Cell) → popped cell_sort (takes a) h.stack ≡ t → (t >>= λ x. acted_on a (record h { stack = x.1 }) x.0) ≡ Some g → (d : Held) × (None ≡ Some d) × HoldsFor at new d g
    go None i e = no_some g e
    go (Some q) i e = let p = pops at old a c h q x i in no_some _ (sym is ∙ p.popped_)

-- ---- sorts

pub record PopsSorted (g : Graph) (a : Action) (cells : List Cell) (rest : Held) : Type 0 where
  pub operands : AreSorted g cells
  pub sorted : IsSorted g rest
  pub takes_ : map sort_in cells ≡ takes a

pub pops_sorted : (g : Graph) (a : Action) (c rest : Held) (cells : List Cell) → IsSorted g c → popped_in a c ≡ Some (cells, rest) → PopsSorted g a cells rest
pops_sorted g a c rest cells x e = go (popped sort_in (takes a) c.stack) refl e
  where
    go : (t : Taken Cell) → popped sort_in (takes a) c.stack ≡ t → option_map {U = List Cell × Held} (λ q. (q.0, record c { stack = q.1 })) t ≡ Some (cells, rest) → PopsSorted g a cells rest
    go None i e = no_some _ e
    go (Some q) i e =
        let f = taken_found (Same g) (popped sort_in (takes a) c.stack) (popped sort_in (takes a) c.stack) q (popped_both (Same g) sort_in sort_in (λ a b r. ap sort_in r.0) (takes a) c.stack c.stack (to_zip g c.stack x.stack)) i in
        let same : f.0 ≡ q = some_of _ _ (sym f.1 ∙ i) in
        let operands : AreSorted g q.0 = subst (λ (z : List Cell × List Cell). AreSorted g z.0) same (of_zip g f.0.0 q.0 f.2) in
        let stack : AreSorted g q.1 = subst (λ (z : List Cell × List Cell). AreSorted g z.1) same (of_zip g f.0.1 q.1 f.3) in
        let is = some_of _ _ e in
        let done : PopsSorted g a q.0 (record c { stack = q.1 }) = record {
          operands = operands;
          sorted = record { graph = x.graph; stack = stack; locals = x.locals; heap = x.heap; token = x.token; unit = x.unit; clear = x.clear; start = x.start };
          takes_ = popped_sorts sort_in (takes a) c.stack q i;
        } in
        subst (λ (z : List Cell × Held). PopsSorted g a z.0 z.1) is done

-- ---- they have sorts

abbrev IsKnown : Sort → Type 0
IsKnown s = s ≢ sort.Unknown

taken_known : (sorts : List Sort) (stack : List Cell) (q : List Cell × List Cell) → taken sort_in sorts stack ≡ Some q → AllByRecursion IsKnown (map sort_in q.0)
taken_known [] stack q e = subst (λ (p : List Cell × List Cell). AllByRecursion IsKnown (map sort_in p.0)) (some_of _ _ e) tt
taken_known (s ∷ sorts) [] q e = no_some q e
taken_known (s ∷ sorts) (x ∷ stack) q e = elim (fits x.sort s) as (λ b. fits x.sort s ≡ b → (if b then with_first x (taken sort_in sorts stack) else None) ≡ Some q → AllByRecursion IsKnown (map sort_in q.0)) [
  | true ↦ λ b e. elim (taken sort_in sorts stack) as (λ t. taken sort_in sorts stack ≡ t → with_first x t ≡ Some q → AllByRecursion IsKnown (map sort_in q.0)) [
    | None ↦ λ _ e. no_some q e
    | Some r ↦ λ is e. subst (λ (p : List Cell × List Cell). AllByRecursion IsKnown (map sort_in p.0)) (some_of _ _ e) (fits_known x.sort s b, taken_known sorts stack r is)
  ] refl e
  | false ↦ λ _ e. no_some q e
] refl e

all_more : (xs : List Sort) (x : Sort) → AllByRecursion IsKnown xs → IsKnown x → AllByRecursion IsKnown (xs ++ x ∷ [])
all_more [] x h i = (i, tt)
all_more (y ∷ xs) x h i = (h.0, all_more xs x h.1 i)

all_reverse : (xs : List Sort) → AllByRecursion IsKnown xs → AllByRecursion IsKnown (reverse xs)
all_reverse [] h = tt
all_reverse (x ∷ xs) h = subst (AllByRecursion IsKnown) (sym (reverse-append (x ∷ []) xs)) (all_more (reverse xs) x (all_reverse xs h.1) h.0)

popped_known : (sorts : List Sort) (stack : List Cell) (q : List Cell × List Cell) → popped sort_in sorts stack ≡ Some q → AreKnown q.0
popped_known sorts stack q e = elim (taken sort_in (reverse sorts) stack) as (λ t. taken sort_in (reverse sorts) stack ≡ t → turned t ≡ Some q → AreKnown q.0) [
  | None ↦ λ _ e. no_some q e
  | Some r ↦ λ is e. subst (λ (p : List Cell × List Cell). AreKnown p.0) (some_of _ _ e) (subst (AllByRecursion IsKnown) (sym (map_reverse sort_in r.0)) (all_reverse (map sort_in r.0) (taken_known (reverse sorts) stack r is)))
] refl e

pub pops_known : (a : Action) (c rest : Held) (cells : List Cell) → popped_in a c ≡ Some (cells, rest) → AreKnown cells
pops_known a c rest cells e = go (popped sort_in (takes a) c.stack) refl e
  where
    go : (t : Taken Cell) → popped sort_in (takes a) c.stack ≡ t → option_map {U = List Cell × Held} (λ (q : List Cell × List Cell). (q.0, record c { stack = q.1 })) t ≡ Some (cells, rest) → AreKnown cells
    go None i e = no_some _ e
    go (Some q) i e = subst (λ (z : List Cell × Held). AreKnown z.0) (some_of _ _ e) (popped_known (takes a) c.stack q i)

-- what is popped, as pairs
pub popped_none : (a : Action) (c : Held) (o : Option (Vec Cell Global × Held)) → option_map (λ q. (q.0.items, q.1)) o ≡ popped_in a c → o ≡ None → popped_in a c ≡ None
popped_none a c o e is = sym e ∙ ap (option_map (λ q. (q.0.items, q.1))) is

pub popped_some : (a : Action) (c : Held) (o : Option (Vec Cell Global × Held)) (v : Vec Cell Global) (rest : Held) → option_map (λ q. (q.0.items, q.1)) o ≡ popped_in a c → o ≡ Some (v, rest) → popped_in a c ≡ Some (v.items, rest)
popped_some a c o v rest e is = sym e ∙ ap (option_map (λ q. (q.0.items, q.1))) is
