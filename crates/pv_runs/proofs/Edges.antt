-- The exits of the blocks of a flow, by number, are its edges.
use Rattle.std.proofs.Common.{◌≡◌, ℕ, zero, suc, ◌-◌, ◌<◌, true, false, List, [], ◌∷◌, Option, Some, None, refl, ap, sym, subst, ◌∙◌, inl, inr, arith, if◌then◌else◌}
use Rattle.pv_runs.proofs.Words.{◌⊎◌, ◌==◌, slice_get, unwrap_or, option_map, Contains, AllZip, eqb-true, eq-eqb, ◌>>=◌, Action, Program, Frame, successors, IsAt, some_of, no_some, contains_cases, contains_none, Block, Departure, Goes, Returns, Throws, departures, IsBlockAt, IsExit, IsFlow, edges_of, goes_to_successors, edges_of_code, edges_within, Dest, To, End, Return, Exit, Chain, Leave, InChain, Held, to, chain_of, held_first, acted_along, place_chain, number_at, numbered_dest, numbered_exit, numbered, no_chain, block_chain}
use Rattle.pv_list.proofs.Cited.{found}
use Rattle.pv_flow.specs.declared.block.Exit as kinds
use Rattle.pv_flow.specs.declared.block.Exit.TheVariants as exit
use Rattle.pv_flow.specs.Edges as edges
use Rattle.pv_equations.specs.Flow as flow
use Rattle.pv_runs.proofs.Options.{bound}
use Rattle.pv_runs.proofs.Departures.{Departs, HasExits, has_exits, exit_departs, departs_exit}

-- ---- the numbers of blocks

abbrev Ascend : List Block → Type 0
Ascend blocks = (m n : ℕ) (b c : Block) → m < n → slice_get blocks m ≡ Some b → slice_get blocks n ≡ Some c → b.first < c.first

-- the number that is found for a place is that of the block that begins there
pub number_is : (blocks : List Block) → Ascend blocks → (n place : ℕ) → IsBlockAt blocks n place → number_at blocks place ≡ n
number_is [] up n place (b, at, e) = no_some b at
number_is (c ∷ blocks) up zero place (b, at, e) =
    let same : c.first ≡ place = ap (λ (b : Block). b.first) (some_of c b at) ∙ e in
    ap (λ (t : _). if t then 0 else suc (number_at blocks place)) (eq-eqb c.first place same)
number_is (c ∷ blocks) up (suc n) place (b, at, e) =
    let less : c.first < b.first = up 0 (suc n) c b (omega arith) refl at in
    elim (c.first == place) as (λ t. (c.first == place) ≡ t → (if t then 0 else suc (number_at blocks place)) ≡ suc n) [
      | true ↦ λ t. let same = eqb-true c.first place t in absurd (omega (arith, same))
      | false ↦ λ t. ap suc (number_is blocks (λ m n b c lt. up (suc m) (suc n) b c (omega arith)) n place (b, at, e))
    ] refl

-- ---- chains by number

pub in_numbered : (blocks : List Block) (c : Chain) (e : Exit) → InChain (numbered blocks c) e → (x : Exit) × InChain c x × (numbered_exit blocks x ≡ e)
in_numbered blocks (Leave x) e i = (x, refl, i)
in_numbered blocks (flow.Test t x c) e (inl i) = (x, inl refl, i)
in_numbered blocks (flow.Test t x c) e (inr i) = let q = in_numbered blocks c e i in (q.0, inr q.1, q.2)

numbered_in : (blocks : List Block) (c : Chain) (x : Exit) → InChain c x → InChain (numbered blocks c) (numbered_exit blocks x)
numbered_in blocks (Leave y) x i = ap (numbered_exit blocks) i
numbered_in blocks (flow.Test t y c) x (inl i) = inl (ap (numbered_exit blocks) i)
numbered_in blocks (flow.Test t y c) x (inr i) = inr (numbered_in blocks c x i)

-- the chain of a block, from what is held at its beginning to its last action
pub record HasChain (p : Program) (frames : List (Option Frame)) (b : Block) (c : Chain) : Type 0 where
  pub start : Held
  pub begins : held_first frames b ≡ Some start
  pub last : Held
  pub along : acted_along p (b.last - b.first) b.first start ≡ Some last
  pub action : Action
  pub at : IsAt p b.last action
  pub is : chain_of p.desc.result b.last action last ≡ Some c
  pub exits : HasExits b.last action last c

pub has_chain : (p : Program) (frames : List (Option Frame)) (b : Block) (c : Chain) → place_chain p frames b ≡ Some c → HasChain p frames b c
has_chain p frames b c e =
    let x = bound (held_first frames b) (λ h. acted_along p (b.last - b.first) b.first h >>= λ g. slice_get p.actions b.last >>= λ a. chain_of p.desc.result b.last a g) c e in
    let y = bound (acted_along p (b.last - b.first) b.first x.0) (λ g. slice_get p.actions b.last >>= λ a. chain_of p.desc.result b.last a g) c x.2 in
    let z = bound (slice_get p.actions b.last) (λ a. chain_of p.desc.result b.last a y.0) c y.2 in
    record { start = x.0; begins = x.1; last = y.0; along = y.1; action = z.0; at = z.1; is = z.2; exits = has_exits p.desc.result b.last z.0 y.0 c z.2 }

-- an exit of block n, and the exit to a place from which it comes
pub record ExitOf (p : Program) (frames : List (Option Frame)) (blocks : List Block) (n : ℕ) (e : Exit) : Type 0 where
  pub block : Block
  pub at : slice_get blocks n ≡ Some block
  pub chain : Chain
  pub has : HasChain p frames block chain
  pub exit : Exit
  pub within : InChain chain exit
  pub same : numbered_exit blocks exit ≡ e

-- each exit at a number is that of a block, or the one where there is none
pub exit_of : (p : Program) (frames : List (Option Frame)) (blocks : List Block) (n : ℕ) (e : Exit) → InChain (block_chain p frames blocks n) e → InChain no_chain e ⊎ ExitOf p frames blocks n e
exit_of p frames blocks n e i =
    elim (slice_get blocks n) as (λ o. slice_get blocks n ≡ o → InChain (unwrap_or (option_map (numbered blocks) (o >>= place_chain p frames)) no_chain) e → InChain no_chain e ⊎ ExitOf p frames blocks n e) [
      | None ↦ λ at i. inl i
      | Some b ↦ λ at i. of_block b at (place_chain p frames b) refl i
    ] refl i
  where
    of_block : (b : Block) → slice_get blocks n ≡ Some b → (o : Option Chain) → place_chain p frames b ≡ o → InChain (unwrap_or (option_map (numbered blocks) o) no_chain) e → InChain no_chain e ⊎ ExitOf p frames blocks n e
    of_block b at None is i = inl i
    of_block b at (Some c) is i =
        let q = in_numbered blocks c e i in
        inr (record { block = b; at = at; chain = c; has = has_chain p frames b c is; exit = q.0; within = q.1; same = q.2 })

-- where a block has a chain, that is the chain at its number
pub chain_at : (p : Program) (frames : List (Option Frame)) (blocks : List Block) (n : ℕ) (b : Block) (c : Chain) → slice_get blocks n ≡ Some b → place_chain p frames b ≡ Some c → block_chain p frames blocks n ≡ numbered blocks c
chain_at p frames blocks n b c at is =
    ap (λ (o : Option Block). unwrap_or (option_map (numbered blocks) (o >>= place_chain p frames)) no_chain) at
    ∙ ap (λ (o : Option Chain). unwrap_or (option_map (numbered blocks) o) no_chain) is

-- ---- where exits go

to_of : (x y : ℕ) → To x ≡ To y → x ≡ y
to_of x y e = cc

-- only a departure to a place has an exit to one
pub goes_place : (a : Action) (h : Held) (cells : List _) (d : Departure) (e : Exit) (place : ℕ) → Departs a h cells d e → e.dest ≡ To place → d ≡ Goes place
goes_place a h cells (Goes j) e place (g, is, held) t = ap Goes (to_of j place (ap (λ (e : Exit). e.dest) (sym is) ∙ t))
goes_place a h cells Returns e place (q, is) t = absurd (let x = ap (λ (e : Exit). e.dest) (sym is) ∙ t in cc)
goes_place a h cells Throws e place (q, g, is, held) t = absurd (let x = ap (λ (e : Exit). e.dest) (sym is) ∙ t in cc)

-- the block to which a departure of another one goes
block_from : (blocks : List Block) (ds : List Departure) (exits : List kinds.Exit) (place : ℕ) → AllZip (IsExit blocks) ds exits → Contains ds (Goes place) → (n : ℕ) × IsBlockAt blocks n place
block_from blocks [] exits place all among = absurd (contains_none (Goes place) among)
block_from blocks (d ∷ ds) [] place all among = absurd all
block_from blocks (d ∷ ds) (x ∷ exits) place all among = elim (contains_cases d (Goes place) ds among) [
  | inl e ↦ first x (subst (λ (d : Departure). IsExit blocks d x) e all.0)
  | inr more ↦ block_from blocks ds exits place all.1 more
]
  where
    first : (x : kinds.Exit) → IsExit blocks (Goes place) x → (n : ℕ) × IsBlockAt blocks n place
    first (exit.To n) is = (n, is)
    first exit.Return is = absurd is
    first exit.Throw is = absurd is

-- an exit by numbers goes to a block only where the exit from which it comes goes to a place
pub placed : (blocks : List Block) (d : Dest) (m : ℕ) → numbered_dest blocks d ≡ To m → (place : ℕ) × (d ≡ To place) × (number_at blocks place ≡ m)
placed blocks (To place) m e = (place, refl, to_of _ m e)
placed blocks (End k) m e = absurd (cc)

-- an exit to the place where block m begins goes to m
dest_at : (blocks : List Block) → Ascend blocks → (m : ℕ) (b : Block) (e : Exit) (g : Held) → slice_get blocks m ≡ Some b → e ≡ to b.first g → numbered_dest blocks e.dest ≡ To m
dest_at blocks up m b e g at is = ap (λ (e : Exit). numbered_dest blocks e.dest) is ∙ ap To (number_is blocks up m b.first (b, at, refl))

pub no_exit : (e : Exit) (m : ℕ) → InChain no_chain e → e.dest ≡ To m → ⊥
no_exit e m i t = let x : End Return ≡ To m = ap (λ (e : Exit). e.dest) i ∙ t in cc

module _ (p : Program) (frames : List (Option Frame)) (blocks : List Block) (is : IsFlow p blocks) where
  -- an exit of block n goes to block m only along an edge
  pub exit_edge : (n m : ℕ) (e : Exit) → InChain (block_chain p frames blocks n) e → e.dest ≡ To m → edges.Edge (edges_of blocks) n m
  exit_edge n m e i t = elim (exit_of p frames blocks n e i) [ inl none ↦ absurd (no_exit e m none t) | inr x ↦ along x ]
    where
      along : ExitOf p frames blocks n e → edges.Edge (edges_of blocks) n m
      along x =
          let h = x.has in
          let b = is.each n x.block x.at in
          let to_place = placed blocks x.exit.dest m (ap (λ (e : Exit). e.dest) x.same ∙ t) in
          let d = exit_departs (Departs h.action (record h.last { stack = h.exits.stack }) h.exits.cells) (departures x.block.last h.action) x.chain x.exit h.exits.exits x.within in
          let goes = goes_place h.action (record h.last { stack = h.exits.stack }) h.exits.cells d.0 x.exit to_place.0 d.2 to_place.1 in
          let leads : Contains (departures x.block.last h.action) (Goes to_place.0) = subst (Contains (departures x.block.last h.action)) goes d.1 in
          let same : h.action ≡ b.action = some_of h.action b.action (sym h.at ∙ b.ends) in
          let found = block_from blocks (departures x.block.last b.action) x.block.exits to_place.0 b.exits (subst (λ (a : Action). Contains (departures x.block.last a) (Goes to_place.0)) same leads) in
          let there = found.1 in
          let number : found.0 ≡ m = sym (number_is blocks is.ascend found.0 to_place.0 there) ∙ to_place.2 in
          let after : Contains (successors x.block.last h.action) there.0.first = subst (Contains (successors x.block.last h.action)) (sym there.2) ((goes_to_successors x.block.last h.action to_place.0).0 leads) in
          subst (edges.Edge (edges_of blocks) n) number ((edges_of_code p blocks is n found.0 x.block there.0 h.action x.at there.1 h.at).1 after)

  -- .. and along each edge of a block that has a chain there is an exit
  pub edge_exit : ((n : ℕ) (b : Block) → slice_get blocks n ≡ Some b → (c : Chain) × (place_chain p frames b ≡ Some c)) → (n m : ℕ) → edges.Edge (edges_of blocks) n m
      → (e : Exit) × InChain (block_chain p frames blocks n) e × (e.dest ≡ To m)
  edge_exit chains n m edge =
      let lt = edges_within p blocks is n m edge in
      let b = found blocks n lt.0 in
      let there = found blocks m lt.1 in
      let c = chains n b.0 b.1 in
      let h = has_chain p frames b.0 c.0 c.1 in
      let after = (edges_of_code p blocks is n m b.0 there.0 h.action b.1 there.1 h.at).0 edge in
      let leads = (goes_to_successors b.0.last h.action there.0.first).1 after in
      let x = departs_exit (Departs h.action (record h.last { stack = h.exits.stack }) h.exits.cells) (departures b.0.last h.action) c.0 (Goes there.0.first) h.exits.exits leads in (
        numbered_exit blocks x.0,
        subst (λ (d : Chain). InChain d (numbered_exit blocks x.0)) (sym (chain_at p frames blocks n b.0 c.0 b.1 c.1)) (numbered_in blocks c.0 x.0 x.1),
        dest_at blocks is.ascend m there.0 x.0 x.2.0 there.1 x.2.1,
      )
