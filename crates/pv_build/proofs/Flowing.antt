-- The flow of a method, for walks.
use Rattle.std.proofs.Common.{◌≡◌, ℕ, zero, suc, ◌<◌, ◌^◌, Bool, true, false, List, [], ◌∷◌, length, map, length-append, get_or, Option, Some, slice_get, refl, sym, ap, ◌∙◌, subst, arith}
use Rattle.pv_build.proofs.Words.{AllZip, All, length-map, slice_get_within, slice_get-get_or, Action, Program, Frame, some_of, Block, Departure, branched, branches_on_no, departures, IsExit, targets_of, edges_of, entry_block, edges_within, Forest, IsShape, IsForest, IsOrdered, Exit, Chain, Leave, To, Flow, dest_of, GoTo, exit_at, test_at, AreForWalks, IsOver, Held, place_chain, numbered_dest, numbered_exit, numbered, block_chain, flow_of, IsRanked, program_clean, Departs, exits_of, number_is, has_chain, chain_at, typed_chain, method_ranked, IsRoutine}
use Rattle.pv_frame.specs.declared.action.Action.TheVariants as act
use Rattle.pv_flow.specs.declared.block.Exit as kinds
use Rattle.pv_flow.specs.declared.block.Exit.TheVariants as exit
use Rattle.pv_flow.specs.declared.block.Flow as code
use Rattle.pv_flow.specs.Exits.{Goes, Returns, Throws}
use Rattle.pv_equations.specs.Flow as flow
use Rattle.pv_runs.specs.Held.{Cell}

-- ---- the exits of chains

pub exit_numbered : (blocks : List Block) (c : Chain) (e : ℕ) → exit_at (numbered blocks c) e ≡ numbered_exit blocks (exit_at c e)
exit_numbered blocks (Leave x) e = refl
exit_numbered blocks (flow.Test t x c) zero = refl
exit_numbered blocks (flow.Test t x c) (suc e) = exit_numbered blocks c e

pub test_numbered : (blocks : List Block) (c : Chain) (e : ℕ) → test_at (numbered blocks c) e ≡ test_at c e
test_numbered blocks (Leave x) e = refl
test_numbered blocks (flow.Test t x c) zero = refl
test_numbered blocks (flow.Test t x c) (suc e) = test_numbered blocks c e

module _ (blocks : List Block) (up : (m n : ℕ) (b c : Block) → m < n → slice_get blocks m ≡ Some b → slice_get blocks n ≡ Some c → b.first < c.first) (a : Action) (h : Held) (cells : List Cell) where
  goes_as : (d : Departure) (e : Exit) (x : kinds.Exit) → Departs a h cells d e → IsExit blocks d x → numbered_dest blocks e.dest ≡ dest_of x
  goes_as (Goes place) e (exit.To n) (g, is, held) at = ap (λ (e : Exit). numbered_dest blocks e.dest) is ∙ ap To (number_is blocks up n place at)
  goes_as (Goes place) e exit.Return d at = absurd at
  goes_as (Goes place) e exit.Throw d at = absurd at
  goes_as Returns e (exit.To n) d at = absurd at
  goes_as Returns e exit.Return (q, is) at = ap (λ (e : Exit). numbered_dest blocks e.dest) is
  goes_as Returns e exit.Throw d at = absurd at
  goes_as Throws e (exit.To n) d at = absurd at
  goes_as Throws e exit.Return d at = absurd at
  goes_as Throws e exit.Throw (q, g, is, held) at = ap (λ (e : Exit). numbered_dest blocks e.dest) is

  go_to : (c : Chain) (ds : List Departure) (xs : List kinds.Exit) → AllZip (Departs a h cells) ds (exits_of c) → AllZip (IsExit blocks) ds xs → GoTo (numbered blocks c) xs
  go_to (Leave e) [] xs p q = absurd p
  go_to (Leave e) (d ∷ []) [] p q = absurd q
  go_to (Leave e) (d ∷ []) (x ∷ []) p q = goes_as d e x p.0 q.0
  go_to (Leave e) (d ∷ []) (x ∷ y ∷ xs) p q = absurd (q.1)
  go_to (Leave e) (d ∷ k ∷ ds) xs p q = absurd (p.1)
  go_to (flow.Test t e c) [] xs p q = absurd p
  go_to (flow.Test t e c) (d ∷ ds) [] p q = absurd q
  go_to (flow.Test t e c) (d ∷ ds) (x ∷ xs) p q = (goes_as d e x p.0 q.0, go_to c ds xs p.1 q.1)

some_departs : (k : ℕ) (a : Action) → 0 < length (departures k a)
some_departs k (act.Branch t target) = two (branches_on_no t)
  where
    two : (b : Bool) → 0 < length (branched b target (suc k))
    two true = omega arith
    two false = omega arith
some_departs k (act.Switch default cases) =
    let l = length-append (map (λ c. Goes c.target) cases) (Goes default ∷ []) in
    let one : length (Goes default ∷ []) ≡ 1 = refl in
    omega (arith, l, one)
some_departs k a = omega arith

zip_some : {A B : Type 0} → (R : A → B → Type 0) (xs : List A) (ys : List B) → 0 < length xs → AllZip R xs ys → 0 < length ys
zip_some R [] ys low all = absurd (omega arith)
zip_some R (x ∷ xs) [] low all = absurd all
zip_some R (x ∷ xs) (y ∷ ys) low all = omega arith

module _ (p : Program) (frames : List (Option Frame)) (blocks : List Block) (forest : Forest) (is : IsRoutine p frames blocks forest) where
  abbrev pub F : Flow
  F = flow_of p frames blocks forest

  pub ranked : IsRanked F (length blocks)
  ranked = method_ranked is.file is.method p frames blocks forest is.shaped

  pub chains : (n : ℕ) (b : Block) → slice_get blocks n ≡ Some b → (c : Chain) × (place_chain p frames b ≡ Some c)
  chains = typed_chain p frames is.shaped.well_typed (program_clean is.file is.method p is.shaped.program) blocks is.shaped.flow

  pub chain_goes : (n : ℕ) (b : Block) (c : Chain) → slice_get blocks n ≡ Some b → place_chain p frames b ≡ Some c → GoTo (numbered blocks c) b.exits
  chain_goes n b c at e =
      let k = is.shaped.flow.each n b at in
      let h = has_chain p frames b c e in
      let same : h.action ≡ k.action = some_of h.action k.action (sym h.at ∙ k.ends) in
      go_to blocks is.shaped.flow.ascend h.action (record h.last { stack = h.exits.stack }) h.exits.cells c (departures b.last h.action) b.exits h.exits.exits
      (subst (λ (a : Action). AllZip (IsExit blocks) (departures b.last a) b.exits) (sym same) k.exits)

  pub block_goes : (n : ℕ) (b : Block) → slice_get blocks n ≡ Some b → GoTo (block_chain p frames blocks n) b.exits
  block_goes n b at = let c = chains n b at in subst (λ (d : Chain). GoTo d b.exits) (sym (chain_at p frames blocks n b c.0 at c.1)) (chain_goes n b c.0 at c.1)

  shape : IsShape (edges_of blocks)
  shape =
      let size : length (edges_of blocks) ≡ length blocks = length-map blocks (λ (b : Block). targets_of b.exits) in
      record {
        entry = subst (λ (n : ℕ). 0 < n) (sym size) (let b = entry_block p blocks is.shaped.flow in slice_get_within blocks 0 b.0 b.1);
        within = λ a b e. subst (λ (n : ℕ). b < n) (sym size) (edges_within p blocks is.shaped.flow a b e).1;
      }

  some_exits : All (λ (b : Block). 0 < length b.exits) blocks
  some_exits n d low =
      let b : Block = get_or blocks n d in
      let k = is.shaped.flow.each n b (slice_get-get_or blocks n d low) in
      zip_some (IsExit blocks) (departures b.last k.action) b.exits (some_departs b.last k.action) k.exits

  module _ (whole : code.Flow) (same : whole.blocks ≡ blocks) where
    pub for_walks : AreForWalks whole forest
    for_walks = record {
      shape = subst (λ (bs : List Block). IsShape (edges_of bs)) (sym same) shape;
      loops = subst (λ (bs : List Block). IsForest (edges_of bs) forest) (sym same) is.shaped.loops;
      ordered = subst (λ (bs : List Block). IsOrdered (edges_of bs) forest) (sym same) is.ordered;
      few = subst (λ (bs : List Block). length bs < 2 ^ 32) (sym same) (let z = is.few in omega arith);
      exits = subst (λ (bs : List Block). All (λ (b : Block). 0 < length b.exits) bs) (sym same) some_exits;
    }

    pub is_over : IsOver F ranked.rank whole forest
    is_over = record {
      shape = ranked.shape;
      entry = refl;
      around = λ b low. refl;
      chains = λ b k at. block_goes b k (subst (λ (bs : List Block). slice_get bs b ≡ Some k) same at);
    }
