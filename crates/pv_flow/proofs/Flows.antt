-- Laws of a flow: where instructions stand, and what is reached along edges.
use Rattle.std.proofs.Common.{◌≡◌, ℕ, zero, suc, ◌<◌, ◌≤◌, List, [], ◌∷◌, length, get_or, Some, refl, sym, ap, ◌∙◌, subst, inl, inr, arith}
use Rattle.std.specs.Prelude.{◌↔◌, slice_get, Contains}
use Rattle.std.specs.List.{AllZip}
use Rattle.std.proofs.lemmas.Bool.{cases_lt}
use Rattle.std.proofs.lemmas.Option.{slice_get_within}
use Rattle.pv_list.proofs.Cited.{found}
use Rattle.pv_frame.specs.declared.action.Action.{Action}
use Rattle.pv_frame.specs.declared.program.Program.{Program}
use Rattle.pv_frame.specs.Effects.{successors}
use Rattle.pv_frame.specs.Programs.{IsAt}
use Rattle.pv_frame.specs.Frames.{Reached}
use Rattle.pv_frame.specs.Frames as frames
use Rattle.pv_frame.proofs.Cited.{some_of, no_some, contains_first, contains_more, contains_cases, contains_none}
use Rattle.pv_flow.specs.declared.block.Exit.{Exit}
use Rattle.pv_flow.specs.declared.block.Exit.TheVariants as exit
use Rattle.pv_flow.specs.declared.block.Block.{Block}
use Rattle.pv_flow.specs.Exits.{Departure, Goes, Returns, Throws, departures, targets}
use Rattle.pv_flow.specs.Blocks.{Begins, IsBlockAt, IsExit, IsBlock, IsFlow}
use Rattle.pv_flow.specs.Blocks as begin
use Rattle.pv_flow.specs.Edges.{targets_of, edges_of, Edge, FromEntry, entry, along}
use Rattle.pv_flow.specs.Laws.{StandsIn, GoesToNext}
use Rattle.pv_flow.proofs.Departing.{goes_to_successors}
use Rattle.pv_flow.proofs.Spans.{before_no_begin, inside_at, inside_reached}

-- ---- exits and edges

zip_to : {A B : Type 0} (R : A → B → Type 0) (xs : List A) (ys : List B) (x : A) → AllZip R xs ys → Contains xs x → (y : B) × Contains ys y × R x y
zip_to R [] ys x all among = absurd (contains_none x among)
zip_to R (w ∷ xs) [] x all among = elim all [ ]
zip_to R (w ∷ xs) (z ∷ ys) x all among = elim (contains_cases w x xs among) [
  | inl e ↦ (z, contains_first z ys, subst (λ (v : _). R v z) e all.0)
  | inr more ↦ let found = zip_to R xs ys x all.1 more in (found.0, contains_more z found.0 ys found.1, found.2)
]

zip_from : {A B : Type 0} (R : A → B → Type 0) (xs : List A) (ys : List B) (y : B) → AllZip R xs ys → Contains ys y → (x : A) × Contains xs x × R x y
zip_from R xs [] y all among = absurd (contains_none y among)
zip_from R [] (z ∷ ys) y all among = elim all [ ]
zip_from R (w ∷ xs) (z ∷ ys) y all among = elim (contains_cases z y ys among) [
  | inl e ↦ (w, contains_first w xs, subst (λ (v : _). R w v) e all.0)
  | inr more ↦ let found = zip_from R xs ys y all.1 more in (found.0, contains_more w found.0 xs found.1, found.2)
]

among_targets : (exits : List Exit) (n : ℕ) → Contains exits (exit.To n) → Contains (targets_of exits) n
among_targets [] n among = absurd (contains_none (exit.To n) among)
among_targets (exit.To m ∷ exits) n among = elim (contains_cases (exit.To m) (exit.To n) exits among) [
  | inl e ↦ let same : m ≡ n = cc in (0, omega arith, same)
  | inr more ↦ contains_more m n (targets_of exits) (among_targets exits n more)
]
among_targets (exit.Return ∷ exits) n among = elim (contains_cases exit.Return (exit.To n) exits among) [ inl e ↦ absurd (cc) | inr more ↦ among_targets exits n more ]
among_targets (exit.Throw ∷ exits) n among = elim (contains_cases exit.Throw (exit.To n) exits among) [ inl e ↦ absurd (cc) | inr more ↦ among_targets exits n more ]

target_among : (exits : List Exit) (n : ℕ) → Contains (targets_of exits) n → Contains exits (exit.To n)
target_among [] n among = absurd (contains_none n among)
target_among (exit.To m ∷ exits) n among = elim (contains_cases m n (targets_of exits) among) [
  | inl e ↦ subst (λ (i : ℕ). Contains (exit.To m ∷ exits) (exit.To i)) e (contains_first (exit.To m) exits)
  | inr more ↦ contains_more (exit.To m) (exit.To n) exits (target_among exits n more)
]
target_among (exit.Return ∷ exits) n among = contains_more exit.Return (exit.To n) exits (target_among exits n among)
target_among (exit.Throw ∷ exits) n among = contains_more exit.Throw (exit.To n) exits (target_among exits n among)

edges_at : (blocks : List Block) (m : ℕ) (b : Block) → slice_get blocks m ≡ Some b → get_or (edges_of blocks) m [] ≡ targets_of b.exits
edges_at [] m b is = no_some b is
edges_at (c ∷ blocks) zero b is = ap (λ (d : Block). targets_of d.exits) (some_of c b is)
edges_at (c ∷ blocks) (suc m) b is = edges_at blocks m b is

edge_source : (blocks : List Block) (m n : ℕ) → Edge (edges_of blocks) m n → (b : Block) × (slice_get blocks m ≡ Some b)
edge_source [] m n among = absurd (contains_none n among)
edge_source (c ∷ blocks) zero n among = (c, refl)
edge_source (c ∷ blocks) (suc m) n among = edge_source blocks m n among

to_block : (blocks : List Block) (place : ℕ) (e : Exit) → IsExit blocks (Goes place) e → (n : ℕ) × (e ≡ exit.To n) × IsBlockAt blocks n place
to_block blocks place (exit.To n) is = (n, refl, is)
to_block blocks place exit.Return is = elim is [ ]
to_block blocks place exit.Throw is = elim is [ ]

from_place : (blocks : List Block) (d : Departure) (n : ℕ) → IsExit blocks d (exit.To n) → (place : ℕ) × (d ≡ Goes place) × IsBlockAt blocks n place
from_place blocks (Goes place) n is = (place, refl, is)
from_place blocks Returns n is = elim is [ ]
from_place blocks Throws n is = elim is [ ]

-- ---- a flow

module _ (p : Program) (blocks : List Block) (flow : IsFlow p blocks) where
  pub straight : (n : ℕ) (b : Block) → slice_get blocks n ≡ Some b → (k : ℕ) → b.first ≤ k → k < b.last → GoesToNext p k
  straight n b at k from lt =
      let is = flow.each n b at in
      let here = inside_at p b.first b.last is.span is.action is.ends k (omega arith) in
      let both = before_no_begin p k here.0 here.1 (is.span.whole (suc k) (omega arith) (omega arith)) in
      record { action = here.0; at = here.1; successor = both.0; exit = both.1 }

  pub untargeted : (n : ℕ) (b : Block) → slice_get blocks n ≡ Some b → (k : ℕ) → b.first < k → k ≤ b.last → (i : ℕ) (a : Action) → IsAt p i a → Contains (targets a) k → ⊥
  untargeted n b at k lt le i a here among = let is = flow.each n b at in is.span.whole k lt le (begin.target i k a here among)

  pub stands_reached : (n k : ℕ) → StandsIn blocks n k → Reached p k
  stands_reached n k s = let is = flow.each n s.block s.at in inside_reached p s.block.first s.block.last is.span is.action is.ends is.reached k s.from s.up_to

  -- two blocks share no instruction
  apart : (m n k : ℕ) → m < n → StandsIn blocks m k → StandsIn blocks n k → ⊥
  apart m n k lt s t =
      let is = flow.each m s.block s.at in
      let other = flow.each n t.block t.at in
      let less = flow.ascend m n s.block t.block lt s.at t.at in
      is.span.whole t.block.first less (omega (arith, t.from, s.up_to)) other.span.begins

  pub one_number : (m n k : ℕ) → StandsIn blocks m k → StandsIn blocks n k → m ≡ n
  one_number m n k s t = elim (cases_lt m n) [
    | inl less ↦ absurd (apart m n k less s t)
    | inr ge ↦ elim (cases_lt n m) [ inl more ↦ absurd (apart n m k more t s) | inr le ↦ omega arith ]
  ]

  begins_there : (n k : ℕ) → IsBlockAt blocks n k → StandsIn blocks n k
  begins_there n k (b, at, e) = let is = flow.each n b at in record { block = b; at = at; from = omega (arith, e); up_to = omega (arith, e, is.span.some) }

  -- the block at place 0 is the first
  entry_number : (n : ℕ) → IsBlockAt blocks n 0 → n ≡ 0
  entry_number n (b, at, e) = elim (cases_lt 0 n) [
    | inl more ↦
        let within = slice_get_within blocks n b at in
        let start = found blocks 0 (omega arith) in
        let less = flow.ascend 0 n start.0 b more start.1 at in
        absurd (omega (arith, e))
    | inr le ↦ omega arith
  ]

  pub entry_block : IsBlockAt blocks 0 0
  entry_block =
      let found = flow.all 0 begin.first frames.first in
      subst (λ (n : ℕ). IsBlockAt blocks n 0) (entry_number found.0 found.1) found.1

  -- an instruction that may lead to a place is the last before an edge to the block that begins there
  leads_along : (m : ℕ) (b : Block) (a : Action) (j : ℕ) → slice_get blocks m ≡ Some b → IsAt p b.last a → Contains (successors b.last a) j → (n : ℕ) × IsBlockAt blocks n j × Edge (edges_of blocks) m n
  leads_along m b a j at here among =
      let is = flow.each m b at in
      let same : a ≡ is.action = some_of a is.action (sym here ∙ is.ends) in
      let goes = (goes_to_successors b.last is.action j).1 (subst (λ (x : Action). Contains (successors b.last x) j) same among) in
      let found = zip_to (IsExit blocks) (departures b.last is.action) b.exits (Goes j) is.exits goes in
      let n = to_block blocks j found.0 found.2 in
      let listed = among_targets b.exits n.0 (subst (λ (x : Exit). Contains b.exits x) n.1 found.1) in
      (n.0, n.2, subst (λ (ns : List ℕ). Contains ns n.0) (sym (edges_at blocks m b at)) listed)

  -- an edge goes to the block that begins at a place to which the last instruction leads
  along_leads : (m n : ℕ) (b : Block) → slice_get blocks m ≡ Some b → Edge (edges_of blocks) m n → (a : Action) × IsAt p b.last a × ((j : ℕ) × Contains (successors b.last a) j × IsBlockAt blocks n j)
  along_leads m n b at edge =
      let is = flow.each m b at in
      let listed = target_among b.exits n (subst (λ (ns : List ℕ). Contains ns n) (edges_at blocks m b at) edge) in
      let found = zip_from (IsExit blocks) (departures b.last is.action) b.exits (exit.To n) is.exits listed in
      let j = from_place blocks found.0 n found.2 in
      (is.action, is.ends, (j.0, (goes_to_successors b.last is.action j.0).0 (subst (λ (d : Departure). Contains (departures b.last is.action) d) j.1 found.1), j.2))

  pub edges_within : (m n : ℕ) → Edge (edges_of blocks) m n → (m < length blocks) × (n < length blocks)
  edges_within m n edge =
      let b = edge_source blocks m n edge in
      let goes = along_leads m n b.0 b.1 edge in
      let there = goes.2.2 in
      (slice_get_within blocks m b.0 b.1, slice_get_within blocks n there.0 there.1)

  pub edges_of_code : (m n : ℕ) (b c : Block) (a : Action) → slice_get blocks m ≡ Some b → slice_get blocks n ≡ Some c → IsAt p b.last a → Edge (edges_of blocks) m n ↔ Contains (successors b.last a) c.first
  edges_of_code m n b c a at there here = (forth, back)
    where
      forth : Edge (edges_of blocks) m n → Contains (successors b.last a) c.first
      forth edge =
          let goes = along_leads m n b at edge in
          let block = goes.2.2 in
          let same : goes.0 ≡ a = some_of goes.0 a (sym goes.1 ∙ here) in
          let place : goes.2.0 ≡ c.first = sym block.2 ∙ ap (λ (d : Block). d.first) (some_of block.0 c (sym block.1 ∙ there)) in
          subst (λ (j : ℕ). Contains (successors b.last a) j) place (subst (λ (x : Action). Contains (successors b.last x) goes.2.0) same goes.2.1)

      back : Contains (successors b.last a) c.first → Edge (edges_of blocks) m n
      back among =
          let goes = leads_along m b a c.first at here among in
          let same = one_number goes.0 n c.first (begins_there goes.0 c.first goes.1) (begins_there n c.first (c, there, refl)) in
          subst (Edge (edges_of blocks) m) same goes.2

  -- each instruction that is reached stands in a block that is reached along edges
  pub home : (k : ℕ) → Reached p k → (n : ℕ) × StandsIn blocks n k × FromEntry (edges_of blocks) n
  home k frames.first = (0, begins_there 0 0 entry_block, entry)
  home k (frames.next i j a reached at among) =
      let before = home i reached in
      let s = before.1 in
      elim (cases_lt i s.block.last) [
        | inl inside ↦
            let on = straight before.0 s.block s.at i s.from inside in
            let same : on.action ≡ a = some_of on.action a (sym on.at ∙ at) in
            let only : successors i a ≡ suc i ∷ [] = ap (successors i) (sym same) ∙ on.successor in
            let e : j ≡ suc i = elim (contains_cases (suc i) j [] (subst (λ (l : List ℕ). Contains l j) only among)) [ inl e ↦ sym e | inr none ↦ absurd (contains_none j none) ] in
            (before.0, record { block = s.block; at = s.at; from = omega (arith, s.from); up_to = omega arith }, before.2)
        | inr ge ↦
            let last : i ≡ s.block.last = omega (arith, s.up_to) in
            let goes = leads_along before.0 s.block a j s.at (subst (λ (l : ℕ). IsAt p l a) last at) (subst (λ (l : ℕ). Contains (successors l a) j) last among) in
            (goes.0, begins_there goes.0 j goes.1, along before.0 goes.0 before.2 goes.2)
      ]

  pub edges_reach : (n : ℕ) → n < length blocks → FromEntry (edges_of blocks) n
  edges_reach n lt =
      let b = found blocks n lt in
      let is = flow.each n b.0 b.1 in
      let found = home b.0.first is.reached in
      subst (FromEntry (edges_of blocks)) (one_number found.0 n b.0.first found.1 (begins_there n b.0.first (b.0, b.1, refl))) found.2
