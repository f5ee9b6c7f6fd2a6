-- The search for what is ahead.
use Rattle.std.proofs.Common.{◌≡◌, ◌≢◌, ℕ, zero, suc, ◌+◌, ◌<◌, ◌≤◌, ◌++◌, Bool, true, false, List, [], ◌∷◌, length, set, take, drop, get_or, replicate, Some, slice_get, ◌⊎◌, inl, inr, ⊎_elim, refl, sym, ap, ◌∙◌, subst, arith}
use Rattle.pv_decide.proofs.Words.{slice_get_within, slice_get-get_or, get_or-set_other, length-set, Decides, Heads, Dest, To, End, Flow, Target, Finish, Hits, Ahead, now, later, Site, Whole, Loop, dest_of, exit_at, AreInRange, loops_of, target_of, IsPlaced, HitsAt, LeadsOn, Leads, AreSo, IsDone, unmarked, Swept, KnowAhead, AreEnds}
use Rattle.pv_flow.specs.declared.block.Exit as code
use Rattle.pv_flow.specs.declared.block.Exit.TheVariants as dest
use Rattle.pv_decide.specs.declared.aim.Scope as scope
use Rattle.pv_decide.specs.declared.tree.Target as aim
use Rattle.pv_decide.specs.declared.tree.Target.TheVariants as target
use Rattle.pv_decide.proofs.Chains.{found, chain_exit, chain_at, exit_range}

goes_to : (d : code.Exit) (m : ℕ) → dest_of d ≡ To m → d ≡ dest.To m
goes_to (dest.To k) m e = let z : k ≡ m = cc in ap dest.To z
goes_to dest.Return m e = absurd (cc)
goes_to dest.Throw m e = absurd (cc)

module _ (f : Flow) (rank : ℕ → ℕ) (sites : List Site) (r : scope.Scope) (t : aim.Target) (placed : IsPlaced f rank sites r t) where
  header_loop : (r : scope.Scope) → ((h : ℕ) → r ≡ Loop h → Heads (f.around h) h) → (m : ℕ) → Heads (loops_of f r) m → r ≡ Loop m
  header_loop Whole n m hd = absurd (let e = hd.1 in cc)
  header_loop (Loop h) n m hd = let a = n h refl in let e : h ∷ a.0 ≡ m ∷ hd.0 = sym a.1 ∙ hd.1 in let y : h ≡ m = cc in ap Loop y

  hits_to : (t : aim.Target) (d : code.Exit) → HitsAt r t d → Hits (loops_of f r) (target_of t) (dest_of d)
  hits_to (target.Node n) (dest.To m) h = h
  hits_to target.Back (dest.To m) h = subst (λ (q : scope.Scope). Heads (loops_of f q) m) (sym h) (placed.region m h)
  hits_to target.Exit (dest.To m) h = h
  hits_to target.Return (dest.To m) h = h
  hits_to target.Leave (dest.To m) h = h
  hits_to t dest.Return h = tt
  hits_to t dest.Throw h = tt

  hits_from : (t : aim.Target) (d : code.Exit) → Hits (loops_of f r) (target_of t) (dest_of d) → HitsAt r t d
  hits_from (target.Node n) (dest.To m) h = h
  hits_from target.Back (dest.To m) h = header_loop r placed.region m h
  hits_from target.Exit (dest.To m) h = h
  hits_from target.Return (dest.To m) h = h
  hits_from target.Leave (dest.To m) h = h
  hits_from (target.Node n) dest.Return h = tt
  hits_from target.Back dest.Return h = tt
  hits_from target.Exit dest.Return h = tt
  hits_from target.Return dest.Return h = tt
  hits_from target.Leave dest.Return h = tt
  hits_from (target.Node n) dest.Throw h = tt
  hits_from target.Back dest.Throw h = tt
  hits_from target.Exit dest.Throw h = tt
  hits_from target.Return dest.Throw h = tt
  hits_from target.Leave dest.Throw h = tt

  leads_ahead : (known : List Bool) → ((m : ℕ) → slice_get known m ≡ Some true → Ahead f (loops_of f r) (target_of t) m) → (b : ℕ) → Leads sites r t known b → Ahead f (loops_of f r) (target_of t) b
  leads_ahead known sound b (k, e, d, here, at, inl h) =
      let x = chain_exit (f.chain b) k.exits.items e d (placed.under.stand b k here).1 at in
      now b (exit_at (f.chain b) e) x.0 (subst (Hits (loops_of f r) (target_of t)) (sym x.1) (hits_to t d h))
  leads_ahead known sound b (k, e, dest.To m, here, at, inr h) =
      let x = chain_exit (f.chain b) k.exits.items e (dest.To m) (placed.under.stand b k here).1 at in
      later b m (exit_at (f.chain b) e) x.0 x.1 (sound m h)
  leads_ahead known sound b (k, e, dest.Return, here, at, inr h) = absurd h
  leads_ahead known sound b (k, e, dest.Throw, here, at, inr h) = absurd h

  ahead_leads : (known : List Bool) → length known ≡ length sites → AreInRange sites → ((m : ℕ) → slice_get known m ≡ Some false → Leads sites r t known m → ⊥) → (b : ℕ) → b < length sites → Ahead f (loops_of f r) (target_of t) b → slice_get known b ≡ Some false → ⊥
  ahead_leads known len ranges done b low (now c x inc h) un =
      let k = found sites b low in
      let z = chain_at (f.chain b) k.0.exits.items x (placed.under.stand b k.0 k.1).1 inc in
      done b un (k.0, z.0, z.1, k.1, z.2, inl (hits_from t z.1 (subst (Hits (loops_of f r) (target_of t)) z.3 h)))
  ahead_leads known len ranges done b low (later c m x inc e a) un =
      let k = found sites b low in
      let z = chain_at (f.chain b) k.0.exits.items x (placed.under.stand b k.0 k.1).1 inc in
      let to : z.1 ≡ dest.To m = goes_to z.1 m (sym z.3 ∙ e) in
      let at : slice_get k.0.exits.items z.0 ≡ Some (dest.To m) = z.2 ∙ ap Some to in
      let lowm : m < length sites = exit_range sites ranges b z.0 k.0 (dest.To m) k.1 at in
      known_or (get_or known m false) (slice_get-get_or known m false (omega (arith, len))) (λ q. ahead_leads known len ranges done m lowm a q) (λ q. done b un (k.0, z.0, dest.To m, k.1, at, inr q))
    where
      known_or : (w : Bool) → slice_get known m ≡ Some w → (slice_get known m ≡ Some false → ⊥) → (slice_get known m ≡ Some true → ⊥) → ⊥
      known_or true e p q = q e
      known_or false e p q = p e

pub unmarked_set : (known : List Bool) (b : ℕ) → slice_get known b ≡ Some false → suc (unmarked (set known b true)) ≡ unmarked known
unmarked_set [] b e = absurd (cc)
unmarked_set (true ∷ known) zero e = absurd (cc)
unmarked_set (false ∷ known) zero e = refl
unmarked_set (true ∷ known) (suc b) e = unmarked_set known b e
unmarked_set (false ∷ known) (suc b) e = ap suc (unmarked_set known b e)

-- a list of marks that is written back where another of its length was
pub written : (n : ℕ) (old new : List Bool) → n ≡ length old → length new ≡ length old → take n (new ++ drop (length new) old) ≡ new
written n old new e l = subst (λ (n : ℕ). take n (new ++ drop (length new) old) ≡ new) (sym e) (go old new l)
  where
    go : (old new : List Bool) → length new ≡ length old → take (length old) (new ++ drop (length new) old) ≡ new
    go [] [] l = refl
    go [] (y ∷ new) l = absurd (omega arith)
    go (x ∷ old) [] l = absurd (omega arith)
    go (x ∷ old) (y ∷ new) l = ap (λ (ks : List Bool). y ∷ ks) (go old new (omega arith))

abbrev pub one_if : Bool → ℕ
one_if true = 1
one_if false = 0

module _ (sites : List Site) (r : scope.Scope) (t : aim.Target) where
  set_true : (known : List Bool) (b m : ℕ) → b < length known → slice_get (set known b true) m ≡ Some true → (m ≡ b) ⊎ (slice_get known m ≡ Some true)
  set_true known b m low e = ⊎_elim (λ z. inl z) (λ z. inr (other z)) (let y : (m ≡ b) ⊎ (m ≢ b) = grind arith in y)
    where
      other : m ≢ b → slice_get known m ≡ Some true
      other ne =
          let l : length (set known b true) ≡ length known = length-set known b true in
          let less : m < length (set known b true) = slice_get_within (set known b true) m true e in
          slice_get-get_or known m false (omega arith) ∙ ap Some (sym (get_or-set_other known b m true false ne)) ∙ sym (slice_get-get_or (set known b true) m false less) ∙ e

  pub so_more : (known : List Bool) (b : ℕ) → b < length known → AreSo sites r t known → Leads sites r t known b → AreSo sites r t (set known b true)
  so_more known b low so le f rank pl m e = ⊎_elim
      (λ z. subst (Ahead f (loops_of f r) (target_of t)) (sym z) (leads_ahead f rank sites r t pl known (so f rank pl) b le))
      (λ z. so f rank pl m z)
      (set_true known b m low e)

  pub done_more : (known : List Bool) (c b : ℕ) → c ≡ suc b → ((slice_get known b ≡ Some true) ⊎ (Leads sites r t known b → ⊥)) → IsDone sites r t known c → IsDone sites r t known b
  done_more known c b e why done m o un le = ⊎_elim
      (λ z. ⊎_elim (λ w. absurd (let q : Some true ≡ Some false = sym w ∙ subst (λ (m : ℕ). slice_get known m ≡ Some false) z un in cc)) (λ w. w (subst (Leads sites r t known) z le)) why)
      (λ z. done m z un le)
      (let y : (m ≡ b) ⊎ (c ≤ m) = grind arith in y)

  pub know_ahead : (known : List Bool) → AreInRange sites → length known ≡ length sites → AreSo sites r t known → IsDone sites r t known 0 → KnowAhead sites r t known
  know_ahead known ranges len so done = (len, λ f rank pl b low. (λ e. so f rank pl b e, λ e a. ahead_leads f rank sites r t pl known len ranges (λ m un le. done m (omega arith) un le) b low a e))

  pub swept : (old new : List Bool) (changed : Bool) → unmarked new + one_if changed ≤ unmarked old → (changed ≡ false → IsDone sites r t new 0) → Swept sites r t old new changed
  swept old new true fewer done = omega (arith, fewer)
  swept old new false fewer done = done refl

  pub no_leads : (known : List Bool) (b : ℕ) (k : Site) → slice_get sites b ≡ Some k → ((e : ℕ) (d : code.Exit) → e < length k.exits.items → slice_get k.exits.items e ≡ Some d → LeadsOn r t known d → ⊥) → Leads sites r t known b → ⊥
  no_leads known b k here un (j, e, d, at, ex, le) =
      let same : j ≡ k = (let q : Some j ≡ Some k = sym at ∙ here in cc) in
      let ex' : slice_get k.exits.items e ≡ Some d = subst (λ (j : Site). slice_get j.exits.items e ≡ Some d) same ex in
      un e d (slice_get_within k.exits.items e d ex') ex' le

-- an end of the method counts for every target
pub any_ahead : (f : Flow) (R : List ℕ) (t : Target) (b : ℕ) → Ahead f [] Finish b → Ahead f R t b
any_ahead f R t b (now c x inc h) = now b x inc (ends x.dest h)
  where
    ends : (d : Dest) → Hits [] Finish d → Hits R t d
    ends (To m) h = absurd h
    ends (End k) h = tt
any_ahead f R t b (later c m x inc e a) = later b m x inc e (any_ahead f R t m a)

pub are_ends : (sites : List Site) (known : List Bool) → KnowAhead sites Whole target.Exit known → AreEnds sites known
are_ends sites known know f rank under m is R t =
    let placed : IsPlaced f rank sites Whole target.Exit = record { under = under; region = λ h e. absurd (cc); target = tt } in
    any_ahead f R t m ((know.1 f rank placed m (let z = slice_get_within known m true is in let y = know.0 in omega arith)).0 is)

pub ends_so : (sites : List Site) (r : scope.Scope) (t : aim.Target) (ends : List Bool) → AreEnds sites ends → AreSo sites r t ends
ends_so sites r t ends are f rank placed m is = are f rank placed.under m is (loops_of f r) (target_of t)

no_marks : (n m : ℕ) → slice_get (replicate n false) m ≡ Some true → ⊥
no_marks zero m e = absurd (cc)
no_marks (suc n) zero e = absurd (cc)
no_marks (suc n) (suc m) e = no_marks n m e

pub none_so : (sites : List Site) (r : scope.Scope) (t : aim.Target) (known : List Bool) (n : ℕ) → known ≡ replicate n false → AreSo sites r t known
none_so sites r t known n e f rank placed m is = absurd (no_marks n m (subst (λ (ks : List Bool). slice_get ks m ≡ Some true) e is))

pub until : (r : scope.Scope) (t : aim.Target) (known : List Bool) (ds : List code.Exit) (i : ℕ) (z : Bool) → i < length ds → ((e : ℕ) (d : code.Exit) → e < i → slice_get ds e ≡ Some d → LeadsOn r t known d → ⊥) → Decides z (LeadsOn r t known (get_or ds i (dest.To 0))) → z ≡ false
    → (e : ℕ) (d : code.Exit) → e < i + 1 → slice_get ds e ≡ Some d → LeadsOn r t known d → ⊥
until r t known ds i z low before dec un e d less at lo = ⊎_elim
    (λ o. before e d o at lo)
    (λ o.
    let there : slice_get ds i ≡ Some d = subst (λ (e : ℕ). slice_get ds e ≡ Some d) o at in
    let g : slice_get ds i ≡ Some (get_or ds i (dest.To 0)) = slice_get-get_or ds i (dest.To 0) low in
    let same : d ≡ get_or ds i (dest.To 0) = cc in
    let yes' : z ≡ true = dec.1 (subst (LeadsOn r t known) same lo) in
    absurd (cc))
    (let y : (e < i) ⊎ (e ≡ i) = grind arith in y)
