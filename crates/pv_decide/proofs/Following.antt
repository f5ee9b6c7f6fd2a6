-- The places of exits and of sites.
use Rattle.std.proofs.Common.{◌≡◌, ℕ, suc, ◌+◌, ◌-◌, ◌<◌, List, ◌++◌, length, take, Option, Some, slice_get, inl, inr, sym, ap, ◌∙◌, subst, subst₂, arith, length-append}
use Rattle.pv_decide.proofs.Words.{Result, Ok, Err, IfOk, slice_index, Exp, Part, put, Exit, Chain, InChain, Flow, Joins, IsChain, Values, outs, IsExit, IsTree, OfToken, Ahead, Memory, Site, TreeNode, Landing, Verdict, slice_get_within, dest_of, exit_at, IsInRange, loops_of, IsLanding, verdict_of, at_leaf, at_nothing, Grows, Pushed, HasNothing, Joined, Walking, FollowsTo, Follows, target_of, inner, exit_gives, leaves_of, tests_of, dead_of, Gives}
use Rattle.std.proofs.Math.Seq.{take-append_seam}
use Rattle.pv_flow.specs.declared.block.Exit as code
use Rattle.pv_decide.specs.declared.aim.Scope as scope
use Rattle.pv_decide.specs.declared.tree.Target as aim
use Rattle.pv_decide.specs.declared.tree.TreeNode.TheVariants as node
use Rattle.pv_decide.specs.declared.landing.Verdict.TheVariants as verdict
use Rattle.pv_flow.specs.declared.block.Exit.TheVariants as dest
use Rattle.pv_decide.proofs.Folding.{grows_refl, grows_get, pushed_grows, pushed_get, folds_grow}
use Rattle.pv_decide.proofs.Chains.{chain_exit, goes_as, from, chain_last, chain_test}
use Rattle.pv_decide.proofs.Exits.{Makes, exit_makes}

pub inner_is : (R F A : List ℕ) → A ≡ F ++ R → inner R A ≡ F
inner_is R F A e =
    let l : length A ≡ length F + length R = ap length e ∙ length-append F R in
    let n : length A - length R ≡ length F = omega arith in
    subst₂ (λ (k : ℕ) (A : List ℕ). take k A ≡ F) (sym n) (sym e) (take-append_seam F R)

module _ (sites : List Site) (r : scope.Scope) (t : aim.Target) (places : List ℕ) (b e : ℕ) (k : Site) (d : code.Exit) (here : slice_get sites b ≡ Some k) (exit : slice_get k.exits.items e ≡ Some d) (range : IsInRange sites d)
    (lan : Landing) (lands : IsLanding sites r b d lan) (ans : Verdict) (says : ans ≡ verdict_of r t lan) where
  made : (f : Flow) (rank : ℕ → ℕ) (v : Values) (order : List ℕ) (s : ℕ) (F : List ℕ) (old : List TreeNode) (w : Walking f rank v sites order r t s places old b F) (inc : InChain (f.chain b) (exit_at (f.chain b) e))
      → (exit_at (f.chain b) e).dest ≡ dest_of d → (q : Option Exp) → IsExit f v (loops_of f r) (target_of t) s F b (exit_at (f.chain b) e) q → (a : Verdict) → ans ≡ a
      → Makes f rank sites r t w.placed order w.ordered v s b F w.around (slice_get_within sites b k here) (exit_at (f.chain b) e) inc q t a
  made f rank v order s F old w inc go q is a eq =
      subst (Makes f rank sites r t w.placed order w.ordered v s b F w.around (slice_get_within sites b k here) (exit_at (f.chain b) e) inc q t) (sym says ∙ eq)
      (exit_makes f rank sites r t w.placed order w.ordered v s b F w.around (slice_get_within sites b k here) (exit_at (f.chain b) e) inc q d lan go range (goes_as sites b e k d here exit) lands is)

  pub follows_leaf : (old new : List TreeNode) (n : ℕ) → ans ≡ verdict.Leaf → Pushed old new (node.Leaf b e) n → FollowsTo sites r t places old new b e n
  follows_leaf old new n y p = (
    pushed_grows old new (node.Leaf b e) n p,
    λ f rank v order s F w q is.
        let c = chain_exit (f.chain b) k.exits.items e d (w.placed.under.stand b k here).1 exit in
        let z : q ≡ Some (exit_gives f v (loops_of f r) (target_of t) s F b (exit_at (f.chain b) e)) = made f rank v order s F old w c.0 c.1 q is verdict.Leaf y in
        let i : inner (loops_of f r) (f.around b) ≡ F = inner_is (loops_of f r) F (f.around b) w.around in
        at_leaf n b e q (pushed_get old new (node.Leaf b e) n p) (z ∙ ap Some (ap (λ (F : List ℕ). exit_gives f v (loops_of f r) (target_of t) s F b (exit_at (f.chain b) e)) (sym i))),
  )

  pub follows_leaf_ok : (old new : List TreeNode) (res : Result ℕ Memory) → ans ≡ verdict.Leaf → IfOk res (λ n. Pushed old new (node.Leaf b e) n) → IfOk res (λ n. FollowsTo sites r t places old new b e n)
  follows_leaf_ok old new (Ok n) y p = follows_leaf old new n y p
  follows_leaf_ok old new (Err k) y p = p

  pub follows_goes : (old : List TreeNode) (m n : ℕ) → ans ≡ verdict.Goes m → n ≡ slice_index places m → FollowsTo sites r t places old old b e n
  follows_goes old m n y p = (
    grows_refl old,
    λ f rank v order s F w q is.
        let c = chain_exit (f.chain b) k.exits.items e d (w.placed.under.stand b k here).1 exit in
        let z = made f rank v order s F old w c.0 c.1 q is (verdict.Goes m) y in
        subst₂ (λ (n : ℕ) (q : Option Exp). Gives f v r t s old n q) (sym p) (sym z.4) (w.done m z.2 z.0 z.1 z.3),
  )

  pub follows_nothing : (old : List TreeNode) → ans ≡ verdict.Nothing → HasNothing old → FollowsTo sites r t places old old b e 0
  follows_nothing old y h = (
    grows_refl old,
    λ f rank v order s F w q is.
        let c = chain_exit (f.chain b) k.exits.items e d (w.placed.under.stand b k here).1 exit in
        let z = made f rank v order s F old w c.0 c.1 q is verdict.Nothing y in at_nothing 0 q h z,
  )

pub nothing_grows : (a b : List TreeNode) → Grows a b → HasNothing a → HasNothing b
nothing_grows a b g h = grows_get a b 0 node.Nothing g h

module _ (sites : List Site) (r : scope.Scope) (t : aim.Target) (places : List ℕ) (b : ℕ) where
  walking_grow : (f : Flow) (rank : ℕ → ℕ) (v : Values) (order : List ℕ) (s : ℕ) (F : List ℕ) (old new : List TreeNode) → Grows old new → Walking f rank v sites order r t s places old b F → Walking f rank v sites order r t s places new b F
  walking_grow f rank v order s F old new g w = record {
    placed = w.placed;
    ordered = w.ordered;
    trees = w.trees;
    around = w.around;
    done = λ m G after less a. folds_grow (leaves_of f v (loops_of f r) (target_of t) s) (tests_of f v (loops_of f r)) (dead_of (target_of t) s) old new g (slice_index places m) (v.tree (loops_of f r) (target_of t) s G m) (w.done m G after less a);
  }

  -- the node n gives what the chain of b gives from its exit e on
  abbrev pub GivesFrom : List TreeNode → List TreeNode → ℕ → ℕ → Type 0
  GivesFrom old new e n = (f : Flow) (rank : ℕ → ℕ) (v : Values) (order : List ℕ) (s : ℕ) (F : List ℕ) → Walking f rank v sites order r t s places old b F → (q : Option Exp)
      → IsChain (IsExit f v (loops_of f r) (target_of t) s F b) (λ c. outs v F (put (v.value b) c)) (from e (f.chain b)) q → Gives f v r t s new n q

  module _ (k : Site) (here : slice_get sites b ≡ Some k) (old : List TreeNode) where
    pub from_last : (new : List TreeNode) (e n : ℕ) → suc e ≡ length k.exits.items → FollowsTo sites r t places old new b e n → GivesFrom old new e n
    from_last new e n l fo f rank v order s F w q is =
        let z = chain_last (f.chain b) k.exits.items e (dest.To 0) (w.placed.under.stand b k here).1 l in
        fo.1 f rank v order s F w q (subst (λ (x : Exit). IsExit f v (loops_of f r) (target_of t) s F b x q) z.at (subst (λ (c : Chain). IsChain (IsExit f v (loops_of f r) (target_of t) s F b) (λ c. outs v F (put (v.value b) c)) c q) z.is is))

    pub from_test : (now middle new : List TreeNode) (e place yes' n : ℕ) → suc e < length k.exits.items → Grows old now → GivesFrom old now (suc e) place
        → FollowsTo sites r t places now middle b e yes' → Joined middle new b e yes' place n → GivesFrom old new e n
    from_test now middle new e place yes' n l g rest fo jo f rank v order s F w q is =
        let z = chain_test (f.chain b) k.exits.items e (dest.To 0) (w.placed.under.stand b k here).1 l in
        let c = subst (λ (c : Chain). IsChain (IsExit f v (loops_of f r) (target_of t) s F b) (λ c. outs v F (put (v.value b) c)) c q) z.is is in
        let y = fo.1 f rank v order s F (walking_grow f rank v order s F old now g w) c.0 (subst (λ (x : Exit). IsExit f v (loops_of f r) (target_of t) s F b x c.0) z.at c.2) in
        let m = folds_grow (leaves_of f v (loops_of f r) (target_of t) s) (tests_of f v (loops_of f r)) (dead_of (target_of t) s) now middle fo.0 place c.1 (rest f rank v order s F w c.1 c.3) in
        let i : inner (loops_of f r) (f.around b) ≡ F = inner_is (loops_of f r) F (f.around b) w.around in
        let te : outs v F (put (v.value b) z.test) ≡ tests_of f v (loops_of f r) b e = ap (λ (F : List ℕ). outs v F (put (v.value b) z.test)) (sym i) ∙ ap (λ (p : Part). outs v (inner (loops_of f r) (f.around b)) (put (v.value b) p)) z.test_is in
        jo.1 (leaves_of f v (loops_of f r) (target_of t) s) (tests_of f v (loops_of f r)) (dead_of (target_of t) s) c.0 c.1 q y m (subst (λ (a : Exp). Joins a c.0 c.1 q) te c.4)

    pub from_first : (new : List TreeNode) (n : ℕ) → Grows old new → GivesFrom old new 0 n → Follows sites r t places old new b n
    from_first new n g gives = (g, λ f rank v order s F w alive. go f rank v order s F w alive (w.trees F b w.around))
      where
        go : (f : Flow) (rank : ℕ → ℕ) (v : Values) (order : List ℕ) (s : ℕ) (F : List ℕ) → Walking f rank v sites order r t s places old b F → (OfToken (target_of t) s → Ahead f (loops_of f r) (target_of t) b)
            → IsTree f v (loops_of f r) (target_of t) s F b (v.tree (loops_of f r) (target_of t) s F b) → Gives f v r t s new n (v.tree (loops_of f r) (target_of t) s F b)
        go f rank v order s F w alive (inl z) = absurd (z.1 (alive z.0))
        go f rank v order s F w alive (inr z) = gives f rank v order s F w (v.tree (loops_of f r) (target_of t) s F b) z.1
