-- Whether a small flow has the shape of a flow, computed by the checker; then its equations have a solution.
use Rattle.std.proofs.Common.{◌≡◌, ◌≢◌, ℕ, zero, suc, ◌<◌, ◌≤◌, Bool, true, false, not, ◌&&◌, ◌||◌, List, [], ◌∷◌, ◌++◌, length, ◌⊎◌, inl, inr, ⊎_elim, refl, sym, ap, ◌∙◌, subst, subst₂, arith, ◌==◌, nat_le}
use Rattle.std.proofs.lemmas.Bool.{leb-true, le-leb}
use Rattle.pv_loops.specs.Ranks.{Heads}
use Rattle.pv_equations.specs.Flow.{Part, Parts, Slot, Of, NoPart, More, NamesBelow, AllBelow, Dest, To, End, Exit, InChain, InTests, Flow, TokenPart, kept as same_token, Edge, LeadsBack, turns, passes, Shape, Compact, IsFinite}
use Rattle.pv_equations.specs.Equations.{Values, AreEquations}
use Rattle.examples_flows.proofs.Tests.{same_number, number_self, and_parts, or_parts, not_both, same_list, same_list_true, ends_with, ends_true, ends_self, member, heads_by, heads_true, heads_false}
use Rattle.pv_equations.proofs.Cited.{solution}
use Rattle.examples_flows.proofs.Flows.{Block, Way, Ways, Go, If, exit_of, chain_of, slots_of, block_at, no_block, flow_of}

abbrev at_least : ℕ → ℕ → Bool
at_least n m = nat_le m n

pub less_true : (a b : ℕ) → nat_le (suc a) b ≡ true → a < b
less_true a b e = let l : suc a ≤ b = leb-true (suc a) b e in omega arith

-- ---- tests of all of something

abbrev all_of : (ℕ → Bool) → List ℕ → Bool
all_of q [] = true
all_of q (n ∷ ns) = q n && all_of q ns

all_true : (q : ℕ → Bool) (ns : List ℕ) (n : ℕ) → all_of q ns ≡ true → member ns n ≡ true → q n ≡ true
all_true q [] n a m = absurd (cc)
all_true q (k ∷ ns) n a m = go (or_parts (k == n) (member ns n) m) (and_parts (q k) (all_of q ns) a) (λ a m. all_true q ns n a m)
  where
    go : ((k == n) ≡ true) ⊎ (member ns n ≡ true) → (q k ≡ true) × (all_of q ns ≡ true) → (all_of q ns ≡ true → member ns n ≡ true → q n ≡ true) → q n ≡ true
    go (inl e) p rec = subst (λ (k : ℕ). q k ≡ true) (same_number k n e) p.0
    go (inr e) p rec = rec p.1 e

abbrev pub all_below : ℕ → (ℕ → Bool) → Bool
all_below zero q = true
all_below (suc n) q = q n && all_below n q

pub below_true : (n : ℕ) (q : ℕ → Bool) (b : ℕ) → all_below n q ≡ true → b < n → q b ≡ true
below_true zero q b a l = absurd (omega arith)
below_true (suc n) q b a l = go (order b n l) (and_parts (q n) (all_below n q) a) (λ a l. below_true n q b a l)
  where
    order : (b n : ℕ) → b < suc n → (b ≡ n) ⊎ (b < n)
    order b n l = grind arith

    go : (b ≡ n) ⊎ (b < n) → (q n ≡ true) × (all_below n q ≡ true) → (all_below n q ≡ true → b < n → q b ≡ true) → q b ≡ true
    go (inl e) p rec = subst (λ (n : ℕ). q n ≡ true) (sym e) p.0
    go (inr l) p rec = rec p.1 l

beyond : (blocks : List Block) (b : ℕ) → length blocks ≤ b → block_at blocks b ≡ no_block
beyond [] b l = refl
beyond (x ∷ xs) zero l = absurd (omega arith)
beyond (x ∷ xs) (suc b) l = beyond xs b (omega arith)

-- what is true of each block that is listed, and of those that aren't, is true of all
everywhere : (blocks : List Block) (q : ℕ → Block → Bool) → all_below (length blocks) (λ b. q b (block_at blocks b)) ≡ true → ((b : ℕ) → q b no_block ≡ true) → (b : ℕ) → q b (block_at blocks b) ≡ true
everywhere blocks q a none b = go (order b (length blocks))
  where
    order : (b n : ℕ) → (b < n) ⊎ (n ≤ b)
    order b n = grind arith

    go : (b < length blocks) ⊎ (length blocks ≤ b) → q b (block_at blocks b) ≡ true
    go (inl l) = below_true (length blocks) (λ b. q b (block_at blocks b)) b a l
    go (inr l) = subst (λ (x : Block). q b x ≡ true) (sym (beyond blocks b l)) (none b)

abbrev pub all_ways : (Way → Bool) → Ways → Bool
all_ways q (Go w) = q w
all_ways q (If t w ws) = q w && all_ways q ws

pub ways_true : (q : Way → Bool) (ws : Ways) (e : Exit) → all_ways q ws ≡ true → InChain (chain_of ws) e → (w : Way) × (exit_of w ≡ e) × (q w ≡ true)
ways_true q (Go w) e a i = (w, i, a)
ways_true q (If t w ws) e a (inl i) = (w, i, (and_parts (q w) (all_ways q ws) a).0)
ways_true q (If t w ws) e a (inr i) = ways_true q ws e (and_parts (q w) (all_ways q ws) a).1 i

abbrev to_block : (ℕ → Bool) → Dest → Bool
to_block q (To m) = q m
to_block q (End k) = true

-- what is true of the blocks to which exits go
dests_true : (q : ℕ → Bool) (ws : Ways) (e : Exit) (m : ℕ) → all_ways (λ w. to_block q w.dest) ws ≡ true → InChain (chain_of ws) e → e.dest ≡ To m → q m ≡ true
dests_true q ws e m a i d =
    let r = ways_true (λ w. to_block q w.dest) ws e a i in
    subst (λ (d : Dest). to_block q d ≡ true) (ap (λ (e : Exit). e.dest) r.1 ∙ d) r.2

-- ---- parts

abbrev pub is_slot : ℕ → Part → Bool
is_slot s (Slot t) = t == s
is_slot s (Of o p ps) = false

pub slot_true : (s : ℕ) (p : Part) → is_slot s p ≡ true → p ≡ Slot s
slot_true s (Slot t) e = ap Slot (same_number t s e)
slot_true s (Of o p ps) e = absurd (cc)

abbrev mutual
  names_below : ℕ → Part → Bool
  names_below n (Slot s) = nat_le (suc s) n
  names_below n (Of o p ps) = all_names n ps

  all_names : ℕ → Parts → Bool
  all_names n NoPart = true
  all_names n (More p ps) = names_below n p && all_names n ps

mutual
  names_true : (n : ℕ) (p : Part) → names_below n p ≡ true → NamesBelow n p
  names_true n (Slot s) e = less_true s n e
  names_true n (Of o p ps) e = names_all n ps e

  names_all : (n : ℕ) (ps : Parts) → all_names n ps ≡ true → AllBelow n ps
  names_all n NoPart e = tt
  names_all n (More p ps) e = let r = and_parts (names_below n p) (all_names n ps) e in (names_true n p r.0, names_all n ps r.1)

abbrev list_below : ℕ → List Part → Bool
list_below n [] = true
list_below n (p ∷ ps) = names_below n p && list_below n ps

list_true : (n : ℕ) (ps : List Part) → list_below n ps ≡ true → (s : ℕ) → NamesBelow n (slots_of ps s)
list_true n [] e s = tt
list_true n (p ∷ ps) e zero = names_true n p (and_parts (names_below n p) (list_below n ps) e).0
list_true n (p ∷ ps) e (suc s) = list_true n ps (and_parts (names_below n p) (list_below n ps) e).1 s

abbrev tests_below : ℕ → Ways → Bool
tests_below n (Go w) = true
tests_below n (If t w ws) = names_below n t && tests_below n ws

tests_true : (n : ℕ) (ws : Ways) (t : Part) → tests_below n ws ≡ true → InTests (chain_of ws) t → NamesBelow n t
tests_true n (Go w) t a i = absurd i
tests_true n (If c w ws) t a (inl i) = subst (NamesBelow n) i (names_true n c (and_parts (names_below n c) (tests_below n ws) a).0)
tests_true n (If c w ws) t a (inr i) = tests_true n ws t (and_parts (names_below n c) (tests_below n ws) a).1 i

-- ---- ranks

abbrev pub rank_at : List ℕ → ℕ → ℕ
rank_at [] b = 0
rank_at (r ∷ rs) zero = r
rank_at (r ∷ rs) (suc b) = rank_at rs b

rank_below : (top : ℕ) (rs : List ℕ) → all_of (λ r. nat_le (suc r) top) rs ≡ true → 0 < top → (b : ℕ) → rank_at rs b < top
rank_below top [] a l b = l
rank_below top (r ∷ rs) a l zero = less_true r top (and_parts (nat_le (suc r) top) (all_of (λ r. nat_le (suc r) top) rs) a).0
rank_below top (r ∷ rs) a l (suc b) = rank_below top rs (and_parts (nat_le (suc r) top) (all_of (λ r. nat_le (suc r) top) rs) a).1 l b

-- ---- the shape

module _ (blocks : List Block) (ranks : List ℕ) where
  abbrev F : Flow
  F = flow_of blocks

  abbrev rank : ℕ → ℕ
  rank b = rank_at ranks b

  abbrev around : ℕ → List ℕ
  around b = (block_at blocks b).around

  -- an edge out of the loops before D
  abbrev edge_at : ℕ → ℕ → List ℕ → List ℕ → Bool
  edge_at b m M D = (same_list M D && heads_by D m) || (nat_le (suc (rank b)) (rank m) && (not (m == 0) && ((same_list M D && not (heads_by D m)) || same_list M (m ∷ D))))

  abbrev edge_by : ℕ → ℕ → List ℕ → List ℕ → Bool
  edge_by b m M [] = edge_at b m M []
  edge_by b m M (h ∷ A) = edge_at b m M (h ∷ A) || edge_by b m M A

  abbrev edges_by : ℕ → Block → Bool
  edges_by b x = all_ways (λ w. to_block (λ m. edge_by b m (around m) x.around) w.dest) x.ways

  not_true : (b : Bool) → not b ≡ true → b ≡ false
  not_true true e = absurd (cc)
  not_true false e = refl

  Tail : ℕ → ℕ → List ℕ → Type 0
  Tail b m D = ((around m ≡ D) × Heads D m) ⊎ ((rank b < rank m) × (m ≢ 0) × (((around m ≡ D) × (Heads D m → ⊥)) ⊎ (around m ≡ m ∷ D)))

  edge_at_true : (b m : ℕ) (D : List ℕ) → edge_at b m (around m) D ≡ true → Tail b m D
  unfolding Tail
  edge_at_true b m D e = ⊎_elim
      (λ e. let p = and_parts (same_list (around m) D) (heads_by D m) e in inl (same_list_true (around m) D p.0, heads_true D m p.1))
      (λ e.
      let p = and_parts (nat_le (suc (rank b)) (rank m)) _ e in
      let q = and_parts (not (m == 0)) _ p.1 in
      inr (
        less_true (rank b) (rank m) p.0,
        (λ z. not_both (m == 0) (ap (λ (k : ℕ). k == 0) z ∙ number_self 0) (not_true (m == 0) q.0)),
        ⊎_elim (λ e. let r = and_parts (same_list (around m) D) (not (heads_by D m)) e in inl (same_list_true (around m) D r.0, heads_false D m (not_true (heads_by D m) r.1))) (λ e. inr (same_list_true (around m) (m ∷ D) e)) (or_parts _ _ q.1),
      ))
      (or_parts _ _ e)

  edge_true : (b m : ℕ) (A : List ℕ) → edge_by b m (around m) A ≡ true → (C D : List ℕ) × (A ≡ C ++ D) × Tail b m D
  edge_true b m [] e = ([], [], refl, edge_at_true b m [] e)
  edge_true b m (h ∷ A) e = go (or_parts (edge_at b m (around m) (h ∷ A)) (edge_by b m (around m) A) e) (λ e. edge_true b m A e)
    where
      go : (edge_at b m (around m) (h ∷ A) ≡ true) ⊎ (edge_by b m (around m) A ≡ true) → (edge_by b m (around m) A ≡ true → (C D : List ℕ) × (A ≡ C ++ D) × Tail b m D) → (C D : List ℕ) × (h ∷ A ≡ C ++ D) × Tail b m D
      go (inl e) rec = ([], h ∷ A, refl, edge_at_true b m (h ∷ A) e)
      go (inr e) rec = let r = rec e in (h ∷ r.0, r.1, ap (λ (A : List ℕ). h ∷ A) r.2, r.3)

  -- the loops around a block, by their headers
  abbrev headers_of : ℕ → List ℕ → Bool
  headers_of b [] = true
  headers_of b (h ∷ B) = (same_list (around h) (h ∷ B) && nat_le (rank h) (rank b)) && headers_of b B

  abbrev headers_by : ℕ → Block → Bool
  headers_by b x = headers_of b x.around

  headers_true : (b : ℕ) (A : List ℕ) (h : ℕ) (G B : List ℕ) → headers_of b A ≡ true → A ≡ G ++ h ∷ B → (around h ≡ h ∷ B) × (rank h ≤ rank b)
  headers_true b [] h [] B a e = absurd (cc)
  headers_true b [] h (g ∷ G) B a e = absurd (cc)
  headers_true b (k ∷ A) h [] B a e =
      let p = and_parts (same_list (around k) (k ∷ A)) (nat_le (rank k) (rank b)) (and_parts _ (headers_of b A) a).0 in
      subst₂ (λ (h : ℕ) (B : List ℕ). (around h ≡ h ∷ B) × (rank h ≤ rank b)) (let z : k ≡ h = cc in z) (let z : A ≡ B = cc in z) (same_list_true (around k) (k ∷ A) p.0, leb-true (rank k) (rank b) p.1)
  headers_true b (k ∷ A) h (g ∷ G) B a e = headers_true b A h G B (and_parts (same_list (around k) (k ∷ A) && nat_le (rank k) (rank b)) (headers_of b A) a).1 (let z : A ≡ G ++ h ∷ B = cc in z)

  -- a way back to the header, along at most n exits
  abbrev any_way : (Way → Bool) → Ways → Bool
  any_way q (Go w) = q w
  any_way q (If t w ws) = q w || any_way q ws

  any_true : (q : Way → Bool) (ws : Ways) → any_way q ws ≡ true → (w : Way) × InChain (chain_of ws) (exit_of w) × (q w ≡ true)
  any_true q (Go w) e = (w, refl, e)
  any_true q (If t w ws) e = go (or_parts (q w) (any_way q ws) e) (λ e. any_true q ws e)
    where
      go : (q w ≡ true) ⊎ (any_way q ws ≡ true) → (any_way q ws ≡ true → (w : Way) × InChain (chain_of ws) (exit_of w) × (q w ≡ true)) → (u : Way) × InChain (chain_of (If t w ws)) (exit_of u) × (q u ≡ true)
      go (inl e) rec = (w, inl refl, e)
      go (inr e) rec = let r = rec e in (r.0, inr r.1, r.2)

  abbrev leads_to : (ℕ → Bool) → List ℕ → ℕ → Dest → Bool
  leads_to q A h (To m) = (m == h) || (ends_with (around m) A && q m)
  leads_to q A h (End k) = false

  abbrev leads_by : ℕ → List ℕ → ℕ → ℕ → Bool
  leads_by zero A h b = false
  leads_by (suc n) A h b = any_way (λ w. leads_to (λ m. leads_by n A h m) A h w.dest) (block_at blocks b).ways

  leads_true : (n : ℕ) (A : List ℕ) (h b : ℕ) → leads_by n A h b ≡ true → LeadsBack F A h b
  leads_true zero A h b e = absurd (cc)
  leads_true (suc n) A h b e = go (any_true (λ w. leads_to (λ m. leads_by n A h m) A h w.dest) (block_at blocks b).ways e) (λ m e. leads_true n A h m e)
    where
      kind : (w : Way) (d : Dest) → w.dest ≡ d → InChain (chain_of (block_at blocks b).ways) (exit_of w) → leads_to (λ m. leads_by n A h m) A h d ≡ true → ((m : ℕ) → leads_by n A h m ≡ true → LeadsBack F A h m) → LeadsBack F A h b
      kind w (To m) q i e rec = ⊎_elim
          (λ e. turns b (exit_of w) i (q ∙ ap To (same_number m h e)))
          (λ e. let p = and_parts (ends_with (around m) A) (leads_by n A h m) e in let r = ends_true (around m) A p.0 in passes b m (exit_of w) r.0 i q r.1 (rec m p.1))
          (or_parts (m == h) _ e)
      kind w (End k) q i e rec = absurd (cc)

      go : (w : Way) × InChain (chain_of (block_at blocks b).ways) (exit_of w) × (leads_to (λ m. leads_by n A h m) A h w.dest ≡ true) → ((m : ℕ) → leads_by n A h m ≡ true → LeadsBack F A h m) → LeadsBack F A h b
      go z rec = kind z.0 z.0.dest refl z.1 z.2 rec

  abbrev loops_by : ℕ → Block → Bool
  loops_by b x = not (heads_by x.around b) || leads_by (length blocks) x.around b b

  -- tokens, and what loops don't change
  abbrev tokens_by : ℕ → Block → Bool
  tokens_by b x = all_ways (λ w. is_slot 0 (slots_of w.parts 0)) x.ways

  abbrev carries_by : ℕ → Block → Bool
  carries_by b x = not (member x.kept 0)

  -- an exit to a block leaves the slot as it is
  abbrev keeps_slot : ℕ → Dest → List Part → Bool
  keeps_slot s (To m) ps = is_slot s (slots_of ps s)
  keeps_slot s (End k) ps = true

  abbrev keeps_by : ℕ → Block → Bool
  keeps_by b x = all_of (λ h. all_of (λ s. all_ways (λ w. keeps_slot s w.dest w.parts) x.ways) (block_at blocks h).kept) x.around

  -- the ranks of loops that are left
  abbrev left_by : ℕ → List ℕ → Bool
  left_by m [] = true
  left_by m (h ∷ B) = (ends_with (around m) (h ∷ B) || all_below (length blocks) (λ c. not (ends_with (around c) (h ∷ B)) || nat_le (suc (rank c)) (rank m))) && left_by m B

  abbrev compact_by : ℕ → Block → Bool
  compact_by b x = all_ways (λ w. to_block (λ m. not (nat_le (suc (rank b)) (rank m)) || left_by m x.around) w.dest) x.ways

  -- finitely many
  abbrev targets_by : ℕ → Block → Bool
  targets_by b x = all_ways (λ w. to_block (λ m. nat_le (suc m) (length blocks)) w.dest) x.ways

  abbrev tests_by : ℕ → ℕ → Block → Bool
  tests_by slots b x = tests_below slots x.ways

  abbrev parts_by : ℕ → ℕ → Block → Bool
  parts_by slots b x = all_ways (λ w. list_below slots w.parts) x.ways

  abbrev deep_by : ℕ → ℕ → Block → Bool
  deep_by deepest b x = nat_le (length x.around) deepest

  -- everything that is asked of a flow, test by test
  pub record IsShaped (slots top deepest : ℕ) : Type 0 where
    pub entry : nat_le 1 (length blocks) ≡ true
    pub slotted : nat_le 1 slots ≡ true
    pub some_top : nat_le 1 top ≡ true
    pub edges : all_below (length blocks) (λ b. edges_by b (block_at blocks b)) ≡ true
    pub headers : all_below (length blocks) (λ b. headers_by b (block_at blocks b)) ≡ true
    pub loops : all_below (length blocks) (λ b. loops_by b (block_at blocks b)) ≡ true
    pub first : (same_list (around 0) [] || same_list (around 0) (0 ∷ [])) ≡ true
    pub tokens : all_below (length blocks) (λ b. tokens_by b (block_at blocks b)) ≡ true
    pub carries : all_below (length blocks) (λ b. carries_by b (block_at blocks b)) ≡ true
    pub keeps : all_below (length blocks) (λ b. keeps_by b (block_at blocks b)) ≡ true
    pub compact : all_below (length blocks) (λ b. compact_by b (block_at blocks b)) ≡ true
    pub targets : all_below (length blocks) (λ b. targets_by b (block_at blocks b)) ≡ true
    pub tests : all_below (length blocks) (λ b. tests_by slots b (block_at blocks b)) ≡ true
    pub parts : all_below (length blocks) (λ b. parts_by slots b (block_at blocks b)) ≡ true
    pub low : all_of (λ r. nat_le (suc r) top) ranks ≡ true
    pub deep : all_below (length blocks) (λ b. deep_by deepest b (block_at blocks b)) ≡ true

  -- everything that is asked of a flow, as one test
  abbrev pub is_shaped : ℕ → ℕ → ℕ → Bool
  is_shaped slots top deepest = nat_le 1 (length blocks) && (nat_le 1 slots && (nat_le 1 top && (all_below (length blocks) (λ b. edges_by b (block_at blocks b)) && (all_below (length blocks) (λ b. headers_by b (block_at blocks b)) && (all_below (length blocks) (λ b. loops_by b (block_at blocks b)) && ((same_list (around 0) [] || same_list (around 0) (0 ∷ [])) && (all_below (length blocks) (λ b. tokens_by b (block_at blocks b)) && (all_below (length blocks) (λ b. carries_by b (block_at blocks b)) && (all_below (length blocks) (λ b. keeps_by b (block_at blocks b)) && (all_below (length blocks) (λ b. compact_by b (block_at blocks b)) && (all_below (length blocks) (λ b. targets_by b (block_at blocks b)) && (all_below (length blocks) (λ b. tests_by slots b (block_at blocks b)) && (all_below (length blocks) (λ b. parts_by slots b (block_at blocks b)) && (all_of (λ r. nat_le (suc r) top) ranks && (all_below (length blocks) (λ b. deep_by deepest b (block_at blocks b)))))))))))))))))

  pub shaped : (slots top deepest : ℕ) → is_shaped slots top deepest ≡ true → IsShaped slots top deepest
  shaped slots top deepest e =
      let p0 = and_parts _ _ e in
      let p1 = and_parts _ _ p0.1 in
      let p2 = and_parts _ _ p1.1 in
      let p3 = and_parts _ _ p2.1 in
      let p4 = and_parts _ _ p3.1 in
      let p5 = and_parts _ _ p4.1 in
      let p6 = and_parts _ _ p5.1 in
      let p7 = and_parts _ _ p6.1 in
      let p8 = and_parts _ _ p7.1 in
      let p9 = and_parts _ _ p8.1 in
      let p10 = and_parts _ _ p9.1 in
      let p11 = and_parts _ _ p10.1 in
      let p12 = and_parts _ _ p11.1 in
      let p13 = and_parts _ _ p12.1 in
      let p14 = and_parts _ _ p13.1 in
      record { entry = p0.0; slotted = p1.0; some_top = p2.0; edges = p3.0; headers = p4.0; loops = p5.0; first = p6.0; tokens = p7.0; carries = p8.0; keeps = p9.0; compact = p10.0; targets = p11.0; tests = p12.0; parts = p13.0; low = p14.0; deep = p14.1 }

  module _ (slots top deepest : ℕ) (s : IsShaped slots top deepest) where
    edges : (b m : ℕ) (e : Exit) → InChain (F.chain b) e → e.dest ≡ To m → Edge F rank b m
    unfolding Tail
    edges b m e i d = edge_true b m (around b) (dests_true (λ m. edge_by b m (around m) (around b)) (block_at blocks b).ways e m (everywhere blocks edges_by s.edges (λ b. refl) b) i d)

    loops : (h : ℕ) (B : List ℕ) → around h ≡ h ∷ B → LeadsBack F (h ∷ B) h h
    loops h B a = go (or_parts (not (heads_by (around h) h)) (leads_by (length blocks) (around h) h h) (everywhere blocks loops_by s.loops (λ b. refl) h))
      where
        go : (not (heads_by (around h) h) ≡ true) ⊎ (leads_by (length blocks) (around h) h h ≡ true) → LeadsBack F (h ∷ B) h h
        go (inl e) = absurd (heads_false (around h) h (not_true (heads_by (around h) h) e) (B, a))
        go (inr e) = subst (λ (A : List ℕ). LeadsBack F A h h) a (leads_true (length blocks) (around h) h h e)

    first : (around 0 ≡ []) ⊎ (around 0 ≡ 0 ∷ [])
    first = ⊎_elim (λ e. inl (same_list_true (around 0) [] e)) (λ e. inr (same_list_true (around 0) (0 ∷ []) e)) (or_parts _ _ s.first)

    tokens : (b : ℕ) (e : Exit) → InChain (F.chain b) e → TokenPart (e.slots 0)
    tokens b e i =
        let r = ways_true (λ w. is_slot 0 (slots_of w.parts 0)) (block_at blocks b).ways e (everywhere blocks tokens_by s.tokens (λ b. refl) b) i in
        subst TokenPart (sym (sym (ap (λ (e : Exit). e.slots 0) r.1) ∙ slot_true 0 (slots_of r.0.parts 0) r.2)) same_token

    not_is : (b : Bool) → not b ≡ false → b ≡ true
    not_is true e = refl
    not_is false e = absurd (cc)

    member_in : (A : List ℕ) (h : ℕ) (G B : List ℕ) → A ≡ G ++ h ∷ B → member A h ≡ true
    member_in A h [] B e = rw (e, number_self h) refl
    member_in [] h (g ∷ G) B e = absurd (cc)
    member_in (a ∷ A) h (g ∷ G) B e = go (a == h) (member_in A h G B (let z : A ≡ G ++ h ∷ B = cc in z))
      where
        go : (t : Bool) → member A h ≡ true → (t || member A h) ≡ true
        go true m = refl
        go false m = m

    keeps : (b m h t : ℕ) (G B : List ℕ) (e : Exit) → around b ≡ G ++ h ∷ B → F.carried h t ≡ false → InChain (F.chain b) e → e.dest ≡ To m → e.slots t ≡ Slot t
    keeps b m h t G B e a c i d =
        let x = all_true (λ h. all_of (λ s. all_ways (λ w. keeps_slot s w.dest w.parts) (block_at blocks b).ways) (block_at blocks h).kept) (around b) h (everywhere blocks keeps_by s.keeps (λ b. refl) b) (member_in (around b) h G B a) in
        let y = all_true (λ s. all_ways (λ w. keeps_slot s w.dest w.parts) (block_at blocks b).ways) (block_at blocks h).kept t x (not_is (member (block_at blocks h).kept t) c) in
        let r = ways_true (λ w. keeps_slot t w.dest w.parts) (block_at blocks b).ways e y i in
        sym (ap (λ (e : Exit). e.slots t) r.1) ∙ slot_true t (slots_of r.0.parts t) (subst (λ (d : Dest). keeps_slot t d r.0.parts ≡ true) (ap (λ (e : Exit). e.dest) r.1 ∙ d) r.2)

    pub shape_is : Shape F rank
    shape_is = record {
      edges = edges;
      headers = λ b h G B e. headers_true b (around b) h G B (everywhere blocks headers_by s.headers (λ b. refl) b) e;
      loops = loops;
      first = first;
      tokens = tokens;
      carries = λ h. everywhere blocks carries_by s.carries (λ b. refl) h;
      starts_unit = refl;
      keeps = keeps;
    }

    ends_app : (X D A : List ℕ) → A ≡ X ++ D → ends_with A D ≡ true
    ends_app [] D A e = rw (e, ends_self D) refl
    ends_app (x ∷ X) D [] e = absurd (cc)
    ends_app (x ∷ X) D (a ∷ A) e = go (same_list (a ∷ A) D) (ends_app X D A (let z : A ≡ X ++ D = cc in z))
      where
        go : (t : Bool) → ends_with A D ≡ true → (t || ends_with A D) ≡ true
        go true m = refl
        go false m = m

    left_true : (m : ℕ) (A : List ℕ) (h : ℕ) (G B : List ℕ) → left_by m A ≡ true → A ≡ G ++ h ∷ B → ((Y : List ℕ) → around m ≢ Y ++ h ∷ B) → (c : ℕ) (X : List ℕ) → around c ≡ X ++ h ∷ B → rank c < rank m
    left_true m [] h [] B l a n c X ac = absurd (cc)
    left_true m [] h (g ∷ G) B l a n c X ac = absurd (cc)
    left_true m (k ∷ A) h (g ∷ G) B l a n c X ac = left_true m A h G B (and_parts _ (left_by m A) l).1 (let z : A ≡ G ++ h ∷ B = cc in z) n c X ac
    left_true m (k ∷ A) h [] B l a n c X ac = go (or_parts (ends_with (around m) (k ∷ A)) _ (and_parts _ (left_by m A) l).0)
      where
        same : k ∷ A ≡ h ∷ B
        same = a

        at_c : (not (ends_with (around c) (h ∷ B)) || nat_le (suc (rank c)) (rank m)) ≡ true → rank c < rank m
        at_c e = ⊎_elim
            (λ e. absurd (not_both (ends_with (around c) (h ∷ B)) (ends_app X (h ∷ B) (around c) ac) (not_true (ends_with (around c) (h ∷ B)) e)))
            (λ e. less_true (rank c) (rank m) e) (or_parts _ _ e)

        go : (ends_with (around m) (k ∷ A) ≡ true) ⊎ (all_below (length blocks) (λ c. not (ends_with (around c) (k ∷ A)) || nat_le (suc (rank c)) (rank m)) ≡ true) → rank c < rank m
        go (inl e) = absurd (let r = ends_true (around m) (k ∷ A) e in n r.0 (r.1 ∙ ap (λ (D : List ℕ). r.0 ++ D) same))
        go (inr e) = at_c (subst (λ (D : List ℕ). (not (ends_with (around c) D) || nat_le (suc (rank c)) (rank m)) ≡ true) same (everywhere blocks (λ c x. not (ends_with x.around (k ∷ A)) || nat_le (suc (rank c)) (rank m)) e (λ c. refl) c))

    compact : Compact F rank
    compact h B G X b c m e ab ac i d on n =
        go (or_parts (not (nat_le (suc (rank b)) (rank m))) _ (dests_true (λ m. not (nat_le (suc (rank b)) (rank m)) || left_by m (around b)) (block_at blocks b).ways e m (everywhere blocks compact_by s.compact (λ b. refl) b) i d))
      where
        go : (not (nat_le (suc (rank b)) (rank m)) ≡ true) ⊎ (left_by m (around b) ≡ true) → rank c < rank m
        go (inl e) = absurd (not_both (nat_le (suc (rank b)) (rank m)) (le-leb (suc (rank b)) (rank m) (omega (arith, on))) (not_true (nat_le (suc (rank b)) (rank m)) e))
        go (inr e) = left_true m (around b) h G B e ab n c X ac

    in_loops : (b h : ℕ) (B : List ℕ) → around b ≡ h ∷ B → b < length blocks
    in_loops b h B a = go (order b (length blocks))
      where
        order : (b n : ℕ) → (b < n) ⊎ (n ≤ b)
        order b n = grind arith

        go : (b < length blocks) ⊎ (length blocks ≤ b) → b < length blocks
        go (inl l) = l
        go (inr l) = absurd (let z : [] ≡ h ∷ B = sym (ap (λ (x : Block). x.around) (beyond blocks b l)) ∙ a in cc)

    finite : IsFinite F (length blocks) slots
    finite = record {
      entry = less_true 0 (length blocks) s.entry;
      targets = λ b m e i d. less_true m (length blocks) (dests_true (λ m. nat_le (suc m) (length blocks)) (block_at blocks b).ways e m (everywhere blocks targets_by s.targets (λ b. refl) b) i d);
      loops = in_loops;
      tests = λ b t i. tests_true slots (block_at blocks b).ways t (everywhere blocks (tests_by slots) s.tests (λ b. refl) b) i;
      parts = parts;
    }
      where
        no_parts : (b : ℕ) → parts_by slots b no_block ≡ true
        no_parts b = rw s.slotted refl

        parts : (b t : ℕ) (e : Exit) → InChain (F.chain b) e → NamesBelow slots (e.slots t)
        parts b t e i =
            let r = ways_true (λ w. list_below slots w.parts) (block_at blocks b).ways e (everywhere blocks (parts_by slots) s.parts no_parts b) i in
            subst (λ (e : Exit). NamesBelow slots (e.slots t)) r.1 (list_true slots r.0.parts r.2 t)

    pub below_top : (b : ℕ) → rank b < top
    below_top b = rank_below top ranks s.low (less_true 0 top s.some_top) b

    pub deep : (b : ℕ) → length (around b) ≤ deepest
    deep b = leb-true (length (around b)) deepest (everywhere blocks (deep_by deepest) s.deep (λ b. le-leb 0 deepest (omega arith)) b)

    solves : (v : Values) × AreEquations F v
    solves = solution F rank shape_is compact top below_top deepest deep (length blocks) slots finite

  -- the equations of a flow that passes the test have a solution
  pub shaped_solution : (slots top deepest : ℕ) → is_shaped slots top deepest ≡ true → (v : Values) × AreEquations F v
  shaped_solution slots top deepest e = solves slots top deepest (shaped slots top deepest e)
