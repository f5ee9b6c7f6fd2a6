-- Whether a target or the end is ahead of a block, decided for finite flows.
use Rattle.std.proofs.Common.{◌≡◌, ℕ, List, inl, inr, ⊎_elim, refl, sym, subst}
use Rattle.pv_equations.proofs.Words.{Dest, To, End, Exit, Chain, Leave, Test, InChain, Flow, IsFinite, Target, Node, Back, Finish, Returning, Leaving, Hits, Ahead, now, later}
use Rattle.pv_equations.proofs.Same.{heads_dec}
use Rattle.pv_equations.proofs.Search.{Decided, number, equally, Reach, there, onward, reach, below, in_below}

-- an exit of a chain
exit_of : (P : Exit → Type 0) → ((e : Exit) → Decided (P e)) → (ch : Chain) → Decided ((e : Exit) × InChain ch e × P e)
exit_of P dec (Leave d) = equally (P d) _ (λ p. (d, refl, p)) (λ z. subst P (sym z.1) z.2) (dec d)
exit_of P dec (Test t d rest) = go (dec d) (exit_of P dec rest)
  where
    go : Decided (P d) → Decided ((e : Exit) × InChain rest e × P e) → Decided ((e : Exit) × InChain (Test t d rest) e × P e)
    go (inl p) q = inl (d, inl refl, p)
    go (inr n) (inl q) = inl (q.0, inr q.1, q.2)
    go (inr n) (inr m) = inr (λ z. ⊎_elim (λ e. n (subst P (sym e) z.2)) (λ i. m (z.0, i, z.2)) z.1)

hits : (R : List ℕ) (t : Target) (d : Dest) → Decided (Hits R t d)
hits R t (End k) = inl tt
hits R (Node n) (To m) = number m n
hits R Back (To m) = heads_dec R m
hits R Finish (To m) = inr (λ z. z)
hits R Returning (To m) = inr (λ z. z)
hits R Leaving (To m) = inr (λ z. z)

goes_to : (m : ℕ) (d : Dest) → Decided (d ≡ To m)
goes_to m (End k) = inr (λ e. absurd (cc))
goes_to m (To n) = equally (n ≡ m) (To n ≡ To m) (λ e. cc) (λ e. cc) (number n m)

module _ (f : Flow) (R : List ℕ) (t : Target) where
  Step : ℕ → ℕ → Type 0
  Step b m = (e : Exit) × InChain (f.chain b) e × (e.dest ≡ To m)

  Goal : ℕ → Type 0
  Goal b = (e : Exit) × InChain (f.chain b) e × Hits R t e.dest

  to_reach : (b : ℕ) → Ahead f R t b → Reach ℕ Step Goal b
  unfolding Step Goal
  to_reach b (now b' e i h) = there b' (e, i, h)
  to_reach b (later b' m e i d a) = onward b' m (e, i, d) (to_reach m a)

  from_reach : (b : ℕ) → Reach ℕ Step Goal b → Ahead f R t b
  unfolding Step Goal
  from_reach b (there b' z) = now b' z.0 z.1 z.2
  from_reach b (onward b' m z r) = later b' m z.0 z.1 z.2 (from_reach m r)

  pub ahead : (blocks slots : ℕ) → IsFinite f blocks slots → (b : ℕ) → Decided (Ahead f R t b)
  unfolding Step Goal
  ahead blocks slots finite b = equally (Reach ℕ Step Goal b) (Ahead f R t b) (from_reach b) (to_reach b)
      (reach ℕ Step Goal (λ a c. exit_of (λ e. e.dest ≡ To c) (λ e. goes_to c e.dest) (f.chain a)) (λ a. exit_of (λ e. Hits R t e.dest) (λ e. hits R t e.dest) (f.chain a))
      (below blocks) (λ a c z. in_below blocks c (finite.targets a c z.0 z.1 z.2)) b)
