-- A block from which neither the target nor an end is ahead gives `never` for the token, and else nothing.
use Rattle.std.proofs.Common.{◌≡◌, ◌≢◌, ℕ, zero, suc, ◌+◌, ◌<◌, ◌≤◌, List, ◌++◌, length, Option, Some, None, inl, inr, ⊎_elim, refl, sym, ap, ◌∙◌, subst, arith}
use Rattle.pv_decide.proofs.Words.{Exp, Heads, Part, put, To, Exit, Chain, Leave, Test, InChain, Flow, Place, On, Again, Header, Gone, Ended, Joins, IsChain, Values, outs, AtPlace, IsExit, IsTree, OfToken, Hits, Ahead, now, later, never_exp, About, about, Site, dest_of, GoesTo, AreInRange, IsInRange, AreOrdered, place_of, loops_of, target_of, dead_of, HasTrees, IsPlaced}
use Rattle.pv_flow.specs.declared.block.Exit as code
use Rattle.pv_flow.specs.declared.block.Exit.TheVariants as dest
use Rattle.pv_decide.specs.declared.aim.Scope as scope
use Rattle.pv_decide.specs.declared.tree.Target as aim
use Rattle.pv_decide.specs.declared.tree.Target.TheVariants as target
use Rattle.pv_decide.proofs.Places.{place_low, goes_on}
use Rattle.pv_decide.proofs.Chains.{found, chain_at, exit_range, goes_as}
use Rattle.pv_decide.proofs.Exits.{not_on}

chain_none : (X : Exit → Option Exp → Type 0) (g : Part → Exp) (c : Chain) (q : Option Exp) → ((x : Exit) (q : Option Exp) → InChain c x → X x q → q ≡ None) → IsChain X g c q → q ≡ None
chain_none X g (Leave x) q h is = h x q refl is
chain_none X g (Test t y rest) q h (u, v, xu, iv, j) =
    let eu = h y u (inl refl) xu in
    let ev = chain_none X g rest v (λ x q i z. h x q (inr i) z) iv in
    subst (λ (o : Option Exp). Joins (g t) o v q) eu j ∙ ev

module _ (f : Flow) (rank : ℕ → ℕ) (sites : List Site) (r : scope.Scope) (t : aim.Target) (placed : IsPlaced f rank sites r t) (ranges : AreInRange sites) (order : List ℕ) (ordered : AreOrdered sites order) (v : Values) (s : ℕ) (trees : HasTrees f v (loops_of f r) (target_of t) (suc s)) where
  dead_on : (t : aim.Target) → t ≢ target.Leave → (b m : ℕ) (F G : List ℕ) (x : Exit) (q : Option Exp) → (Hits (loops_of f r) (target_of t) (To m) → ⊥) → AtPlace f v (loops_of f r) (target_of t) (suc s) F b x (On G m) q → q ≡ v.tree (loops_of f r) (target_of t) (suc s) G m
  dead_on (target.Node n) ne b m F G x q un (inl z) = absurd (un z.1)
  dead_on (target.Node n) ne b m F G x q un (inr z) = z.1
  dead_on target.Back ne b m F G x q un z = z
  dead_on target.Exit ne b m F G x q un z = z
  dead_on target.Return ne b m F G x q un z = z
  dead_on target.Leave ne b m F G x q un z = z

  dead_again : (t : aim.Target) (b : ℕ) (F : List ℕ) (x : Exit) (q : Option Exp) → AtPlace f v (loops_of f r) (target_of t) (suc s) F b x Again q → q ≡ None
  dead_again (target.Node n) b F x q z = z
  dead_again target.Back b F x q z = z
  dead_again target.Exit b F x q z = z
  dead_again target.Return b F x q z = z
  dead_again target.Leave b F x q z = z

  dead_header : (t : aim.Target) → t ≢ target.Leave → (b m : ℕ) (F : List ℕ) (x : Exit) (q : Option Exp) → Heads (loops_of f r) m → (Hits (loops_of f r) (target_of t) (To m) → ⊥) → AtPlace f v (loops_of f r) (target_of t) (suc s) F b x Header q → q ≡ None
  dead_header (target.Node n) ne b m F x q hd un z = z
  dead_header target.Back ne b m F x q hd un z = absurd (un hd)
  dead_header target.Exit ne b m F x q hd un z = z
  dead_header target.Return ne b m F x q hd un z = z
  dead_header target.Leave ne b m F x q hd un z = absurd (ne refl)

  dead_gone : (t : aim.Target) → t ≢ target.Leave → (b : ℕ) (F : List ℕ) (x : Exit) (q : Option Exp) → AtPlace f v (loops_of f r) (target_of t) (suc s) F b x Gone q → q ≡ None
  dead_gone (target.Node n) ne b F x q z = z
  dead_gone target.Back ne b F x q z = z
  dead_gone target.Exit ne b F x q z = z
  dead_gone target.Return ne b F x q z = z
  dead_gone target.Leave ne b F x q z = absurd (ne refl)

  on_around : (R F : List ℕ) (b k m : ℕ) (G : List ℕ) → About f rank R F b m (On G k) → f.around m ≡ G ++ R
  on_around R F b k m G (e, less, ne, C, X, x, inl z) = z.1 ∙ ap (λ (A : List ℕ). A ++ R) (sym z.0)
  on_around R F b k m G (e, less, ne, C, X, x, inr z) = z.1 ∙ ap (λ (A : List ℕ). A ++ R) (sym z.0)

  -- the tree of another slot gives nothing; at most n blocks come later
  none : t ≢ target.Leave → (n b : ℕ) (F : List ℕ) → length order ≤ n + place_of order b → b < length sites → f.around b ≡ F ++ loops_of f r → (Ahead f (loops_of f r) (target_of t) b → ⊥) → v.tree (loops_of f r) (target_of t) (suc s) F b ≡ None
  none ne zero b F few low a un = absurd (let z = place_low sites order ordered b low in omega arith)
  none ne (suc n) b F few low a un = tree (λ m G o less c d. none ne n m G (omega arith) less c d) (trees F b a)
    where
      further : ((m : ℕ) (G : List ℕ) → place_of order b < place_of order m → m < length sites → f.around m ≡ G ++ loops_of f r → (Ahead f (loops_of f r) (target_of t) m → ⊥) → v.tree (loops_of f r) (target_of t) (suc s) G m ≡ None)
          → (x : Exit) (q : Option Exp) (m : ℕ) (p : Place) → InChain (f.chain b) x → x.dest ≡ To m → m < length sites → GoesTo sites b m → About f rank (loops_of f r) F b m p → AtPlace f v (loops_of f r) (target_of t) (suc s) F b x p q → q ≡ None
      further deeper x q m (On G k) inc e less goes ab at =
          let o = goes_on sites order ordered b m low less goes (λ i. not_on f rank sites placed.under b m i ab.1) in
          let at' = subst (λ (k : ℕ). AtPlace f v (loops_of f r) (target_of t) (suc s) F b x (On G k) q) ab.0 at in
          dead_on t ne b m F G x q (λ h. un (now b x inc (subst (Hits (loops_of f r) (target_of t)) (sym e) h))) at'
          ∙ deeper m G o less (on_around (loops_of f r) F b k m G ab) (λ h. un (later b m x inc e h))
      further deeper x q m Again inc e less goes ab at = dead_again t b F x q at
      further deeper x q m Header inc e less goes ab at = dead_header t ne b m F x q ab.0 (λ h. un (now b x inc (subst (Hits (loops_of f r) (target_of t)) (sym e) h))) at
      further deeper x q m Gone inc e less goes ab at = dead_gone t ne b F x q at
      further deeper x q m (Ended k) inc e less goes ab at = absurd ab

      to : ((m : ℕ) (G : List ℕ) → place_of order b < place_of order m → m < length sites → f.around m ≡ G ++ loops_of f r → (Ahead f (loops_of f r) (target_of t) m → ⊥) → v.tree (loops_of f r) (target_of t) (suc s) G m ≡ None)
          → (x : Exit) (q : Option Exp) → InChain (f.chain b) x → IsExit f v (loops_of f r) (target_of t) (suc s) F b x q → (d : code.Exit) → IsInRange sites d → ((m : ℕ) → d ≡ dest.To m → GoesTo sites b m) → x.dest ≡ dest_of d → q ≡ None
      to deeper x q inc is (dest.To m) less goes e = further deeper x q m is.0 inc e less (goes m refl) (about f rank placed.under.shape (loops_of f r) F b m x is.0 a inc e is.1) is.2
      to deeper x q inc is dest.Return less goes e = absurd (un (now b x inc (subst (Hits (loops_of f r) (target_of t)) (sym e) tt)))
      to deeper x q inc is dest.Throw less goes e = absurd (un (now b x inc (subst (Hits (loops_of f r) (target_of t)) (sym e) tt)))

      exits : ((m : ℕ) (G : List ℕ) → place_of order b < place_of order m → m < length sites → f.around m ≡ G ++ loops_of f r → (Ahead f (loops_of f r) (target_of t) m → ⊥) → v.tree (loops_of f r) (target_of t) (suc s) G m ≡ None)
          → (x : Exit) (q : Option Exp) → InChain (f.chain b) x → IsExit f v (loops_of f r) (target_of t) (suc s) F b x q → q ≡ None
      exits deeper x q inc is =
          let k = found sites b low in
          let g = chain_at (f.chain b) k.0.exits.items x (placed.under.stand b k.0 k.1).1 inc in
          to deeper x q inc is g.1 (exit_range sites ranges b g.0 k.0 g.1 k.1 g.2) (goes_as sites b g.0 k.0 g.1 k.1 g.2) g.3

      token : (t : aim.Target) → OfToken (target_of t) (suc s) → ⊥
      token (target.Node n) o = o
      token target.Back o = o
      token target.Exit o = o
      token target.Return o = o
      token target.Leave o = o

      tree : ((m : ℕ) (G : List ℕ) → place_of order b < place_of order m → m < length sites → f.around m ≡ G ++ loops_of f r → (Ahead f (loops_of f r) (target_of t) m → ⊥) → v.tree (loops_of f r) (target_of t) (suc s) G m ≡ None)
          → IsTree f v (loops_of f r) (target_of t) (suc s) F b (v.tree (loops_of f r) (target_of t) (suc s) F b) → v.tree (loops_of f r) (target_of t) (suc s) F b ≡ None
      tree deeper (inl z) = absurd (token t z.0)
      tree deeper (inr z) = chain_none (IsExit f v (loops_of f r) (target_of t) (suc s) F b) (λ c. outs v F (put (v.value b) c)) (f.chain b) (v.tree (loops_of f r) (target_of t) (suc s) F b) (λ x q i is. exits deeper x q i is) z.1

token_of : (t : aim.Target) → t ≢ target.Leave → OfToken (target_of t) 0
token_of (target.Node n) ne = tt
token_of target.Back ne = tt
token_of target.Exit ne = tt
token_of target.Return ne = tt
token_of target.Leave ne = absurd (ne refl)

dead_token : (t : aim.Target) → t ≢ target.Leave → dead_of (target_of t) 0 ≡ Some never_exp
dead_token (target.Node n) ne = refl
dead_token target.Back ne = refl
dead_token target.Exit ne = refl
dead_token target.Return ne = refl
dead_token target.Leave ne = absurd (ne refl)

dead_other : (t : aim.Target) (s : ℕ) → dead_of (target_of t) (suc s) ≡ None
dead_other (target.Node n) s = refl
dead_other target.Back s = refl
dead_other target.Exit s = refl
dead_other target.Return s = refl
dead_other target.Leave s = refl

pub dead_tree : (f : Flow) (rank : ℕ → ℕ) (sites : List Site) (r : scope.Scope) (t : aim.Target) → IsPlaced f rank sites r t → AreInRange sites → (order : List ℕ) → AreOrdered sites order → (v : Values) (s : ℕ) → HasTrees f v (loops_of f r) (target_of t) s → t ≢ target.Leave → (b : ℕ) (F : List ℕ)
    → b < length sites → f.around b ≡ F ++ loops_of f r → (Ahead f (loops_of f r) (target_of t) b → ⊥) → v.tree (loops_of f r) (target_of t) s F b ≡ dead_of (target_of t) s
dead_tree f rank sites r t placed ranges order ordered v zero trees ne b F low a un = ⊎_elim (λ z. z.2 ∙ sym (dead_token t ne)) (λ z. absurd (un (z.0 (token_of t ne)))) (trees F b a)
dead_tree f rank sites r t placed ranges order ordered v (suc s) trees ne b F low a un = none f rank sites r t placed ranges order ordered v s trees ne (length order) b F (omega arith) low a un ∙ sym (dead_other t s)
