-- What the slots at the blocks of a flow are, as equations between expressions.
--
-- A slot at a block is a tree of the tests that decide by which exit a run comes to the block, with what the exits give. A
-- slot that a loop carries is a theta, with a name; a slot after a loop is an eval at the pass of the loop (theta, eval and pass
-- as of Tate, Stepp, Tatlock and Lerner, "Equality Saturation: a New Approach to Optimization", POPL 2009).
--
-- A region is given by a list R of headers, the innermost first: it has the blocks inside all of these loops, and [] is the
-- whole method. A block of the region is inside further loops F, so that f.around b ≡ F ++ R. A walk in a region ends at an exit
-- back to a header, so trees are finite. The depth of a loop is the number of loops around its header, itself among them.
use Rattle.std.specs.Prelude.{◌≡◌, ◌≢◌, ℕ, zero, suc, pos, true, false, List, [], ◌∷◌, ◌++◌, length, Option, Some, None, ◌⊎◌, ⊤, ◌<◌}
use Rattle.pv_graph.specs.declared.node.Op.{Op}
use Rattle.pv_graph.specs.declared.node.Op.TheVariants as op
use Rattle.pv_graph.specs.Ops as ops
use Rattle.pv_graph.specs.Ops.{shape}
use Rattle.pv_graph.specs.Forms.{Form, form}
use Rattle.pv_graph.specs.Walks.{In, open_kids}
use Rattle.pv_equations.specs.Exp.{Exp, Exps, Name, Over, NoExp, one, two, three, listed, made}
use Rattle.pv_loops.specs.Ranks.{Heads}
use Rattle.pv_equations.specs.Flow.{Part, put, Kind, Return, Dest, To, End, Exit, Chain, Leave, Test, InChain, Flow}

-- what a tree of a region is for
pub data Target : Type 0 where
  -- a slot where a block, or the loop of a header, is entered
  Node : ℕ → Target
  -- a slot where the region's innermost loop begins again
  Back : Target
  -- a slot where the method ends, by a Return or a Throw
  Finish : Target
  -- a slot where the method ends by a Return
  Returning : Target
  -- whether the region's innermost loop is left: 1 where it is, 0 where it begins again
  Leaving : Target

-- where an exit comes to, seen from a region
pub data Place : Type 0 where
  -- on to a block of the region, inside these further loops
  On : List ℕ → ℕ → Place
  -- back to the header of a loop inside the region
  Again : Place
  -- back to the header of the region's innermost loop
  Header : Place
  -- out of the region
  Gone : Place
  -- to the end of the method
  Ended : Kind → Place

-- the place of an exit to b, which is inside the loops A, from a block of the region inside the further loops F: loops of F are
-- left, the innermost first, until b is inside all that are left over
pub data Lands (R : List ℕ) (b : ℕ) (A : List ℕ) : List ℕ → Place → Type 0 where
  -- b is no header, and the loops around it are those that are left over
  beside : (F : List ℕ) → A ≡ F ++ R → ((h : ℕ) (B : List ℕ) → A ≡ h ∷ B → b ≢ h) → Lands R b A F (On F b)
  -- b is the header of a loop that is entered from those that are left over
  enters : (F : List ℕ) → A ≡ b ∷ (F ++ R) → Lands R b A F (On (b ∷ F) b)
  -- b is the header of the innermost loop that is left over, or of the region's
  again : (h : ℕ) (F : List ℕ) → h ≡ b → A ≡ b ∷ (F ++ R) → Lands R b A (h ∷ F) Again
  header : (B : List ℕ) → R ≡ b ∷ B → A ≡ R → Lands R b A [] Header
  -- b is not inside the loop of h
  leaves : (h : ℕ) (F : List ℕ) (p : Place) → ((B : List ℕ) → A ≢ B ++ h ∷ (F ++ R)) → Lands R b A F p → Lands R b A (h ∷ F) p
  gone : ((B : List ℕ) → A ≢ B ++ R) → Lands R b A [] Gone

-- the place of an exit that goes to d
abbrev pub Seen : Flow → List ℕ → List ℕ → Dest → Place → Type 0
Seen f R F (To b) p = Lands R b (f.around b) F p
Seen f R F (End k) p = p ≡ Ended k

abbrev pub unit_exp : Exp
unit_exp = Over op.Unit NoExp

abbrev pub never_exp : Exp
never_exp = Over op.Never NoExp

-- that a loop is left, and that it begins again
abbrev pub true_exp : Exp
true_exp = Over (op.Int (pos 1)) NoExp

abbrev pub false_exp : Exp
false_exp = Over (op.Int (pos 0)) NoExp

-- a test c with what its two sides give: the one side that gives something, or either one where they are equal as written, or a
-- phi of both
abbrev pub Joins : Exp → Option Exp → Option Exp → Option Exp → Type 0
Joins c None v r = r ≡ v
Joins c (Some u) None r = r ≡ Some u
Joins c (Some u) (Some v) r = ((u ≡ v) × (r ≡ Some u)) ⊎ ((u ≢ v) × (r ≡ Some (Over op.Phi (three c u v))))

-- what a chain of tests gives, where X says what an exit gives, and c gives the expression of a test
abbrev pub IsChain : (Exit → Option Exp → Type 0) → (Part → Exp) → Chain → Option Exp → Type 0
IsChain X c (Leave e) r = X e r
IsChain X c (Test t yes' rest) r = (u v : Option Exp) × X yes' u × IsChain X c rest v × Joins (c t) u v r

-- the unknowns of the equations
pub record Values : Type 0 where
  -- a slot at the beginning of a block
  pub value : ℕ → ℕ → Exp
  -- what the tests from a block on give for a target and a slot: `tree R t s F b` is that of the region R from its block b inside
  -- the further loops F; None where no walk from there comes to the target
  pub tree : List ℕ → Target → ℕ → List ℕ → ℕ → Option Exp
  -- an expression in the loop of a header, as it is in the iteration in which the loop is left
  pub out : ℕ → Exp → Exp
  -- whether the loop of a header is left in an iteration: 1 where it is, 0 where it begins again
  pub ending : ℕ → Exp
  -- a slot where the loop of a header is entered
  pub entering : ℕ → ℕ → Exp
  -- a slot where the loop of a header begins again
  pub again : ℕ → ℕ → Exp

-- an expression, taken out of loops, the innermost first
abbrev pub outs : Values → List ℕ → Exp → Exp
outs v [] x = x
outs v (h ∷ F) x = outs v F (v.out h x)

-- the token, taken out of a loop, and out of loops: in the loop it begins as unit, so that the token from before the loop is added
abbrev pub token_out : Values → Flow → ℕ → Exp → Exp
token_out v f h x = made op.Both (two (v.entering h 0) (Over (op.Eval (length (f.around h))) (two x (Over (op.Pass (length (f.around h))) (one (v.ending h))))))

abbrev pub token_outs : Values → Flow → List ℕ → Exp → Exp
token_outs v f [] x = x
token_outs v f (h ∷ F) x = token_outs v f F (token_out v f h x)

-- a slot at an exit of the block b, as it is outside the loops F around b; slot 0 is the token
abbrev pub leaf : Values → Flow → List ℕ → ℕ → Exit → ℕ → Exp
leaf v f F b e zero = token_outs v f F (put (v.value b) (e.slots 0))
leaf v f F b e (suc s) = outs v F (put (v.value b) (e.slots (suc s)))

-- what an exit gives for a target, by the place to which it comes: the slot where the target is reached, the tree from there where
-- the walk goes on, and else nothing. A block is a target where it stands in the region itself, or as the header of a loop in it.
abbrev pub AtPlace : Flow → Values → List ℕ → Target → ℕ → List ℕ → ℕ → Exit → Place → Option Exp → Type 0
AtPlace f v R (Node n) s F b e (On G m) r = (((G ≡ []) ⊎ (G ≡ m ∷ [])) × (m ≡ n) × (r ≡ Some (leaf v f F b e s))) ⊎ (((m ≢ n) ⊎ ((G ≢ []) × (G ≢ m ∷ []))) × (r ≡ v.tree R (Node n) s G m))
AtPlace f v R t s F b e (On G m) r = r ≡ v.tree R t s G m
AtPlace f v R t s F b e Again r = r ≡ None
AtPlace f v R Back s F b e Header r = r ≡ Some (leaf v f F b e s)
AtPlace f v R Leaving s F b e Header r = r ≡ Some false_exp
AtPlace f v R t s F b e Header r = r ≡ None
AtPlace f v R Leaving s F b e Gone r = r ≡ Some true_exp
AtPlace f v R t s F b e Gone r = r ≡ None
AtPlace f v R Leaving s F b e (Ended k) r = r ≡ Some true_exp
AtPlace f v [] Finish s F b e (Ended k) r = r ≡ Some (leaf v f F b e s)
AtPlace f v [] Returning s F b e (Ended Return) r = r ≡ Some (leaf v f F b e s)
AtPlace f v R t s F b e (Ended k) r = r ≡ None

abbrev pub IsExit : Flow → Values → List ℕ → Target → ℕ → List ℕ → ℕ → Exit → Option Exp → Type 0
IsExit f v R t s F b e r = (p : Place) × Seen f R F e.dest p × AtPlace f v R t s F b e p r

-- an exit goes to the target, or to the end of the method
abbrev pub Hits : List ℕ → Target → Dest → Type 0
Hits R t (End k) = ⊤
Hits R (Node n) (To m) = m ≡ n
Hits R Back (To m) = Heads R m
Hits R t (To m) = ⊥

-- from b the target or the end of the method is reached along exits
pub data Ahead (f : Flow) (R : List ℕ) (t : Target) : ℕ → Type 0 where
  now : (b : ℕ) (e : Exit) → InChain (f.chain b) e → Hits R t e.dest → Ahead f R t b
  later : (b m : ℕ) (e : Exit) → InChain (f.chain b) e → e.dest ≡ To m → Ahead f R t m → Ahead f R t b

-- the tree is one for the token
abbrev pub OfToken : Target → ℕ → Type 0
OfToken Leaving s = ⊥
OfToken t zero = ⊤
OfToken t (suc s) = ⊥

-- the tree from b inside the loops F: what the tests give. But where neither the target nor the end is ahead, runs from b go on
-- without end, and the token is `never`.
abbrev pub IsTree : Flow → Values → List ℕ → Target → ℕ → List ℕ → ℕ → Option Exp → Type 0
IsTree f v R t s F b r = (OfToken t s × (Ahead f R t b → ⊥) × (r ≡ Some never_exp))
    ⊎ ((OfToken t s → Ahead f R t b) × IsChain (IsExit f v R t s F b) (λ c. outs v F (put (v.value b) c)) (f.chain b) r)

-- the block at which a region begins, and the loops inside the region around it
abbrev pub first_of_region : Flow → List ℕ → ℕ
first_of_region f [] = f.entry
first_of_region f (h ∷ R) = h

abbrev pub first_loops : Flow → List ℕ → List ℕ
first_loops f [] = f.around f.entry
first_loops f (h ∷ R) = []

-- the tree of a region for a target
abbrev pub tree_of : Flow → Values → List ℕ → Target → ℕ → Option Exp
tree_of f v R t s = v.tree R t s (first_loops f R) (first_of_region f R)

-- what a tree gives, or else d
abbrev pub or_else : Option Exp → Exp → Exp
or_else None d = d
or_else (Some a) d = a

-- a is what a tree gives; where it gives nothing no run comes there, and a is `never`
abbrev pub Given : Option Exp → Exp → Type 0
Given r a = a ≡ or_else r never_exp

-- the first kid of the theta of a slot; that of the token is unit
abbrev pub first_kid : Values → ℕ → ℕ → Exp
first_kid v h zero = unit_exp
first_kid v h (suc s) = v.entering h (suc s)

-- an expression as a node of a graph: a name is the theta of its slot, at the depth of its loop
abbrev pub form_of : Flow → Values → Exp → Option (Form Exp)
form_of f v (Name h s) = Some (form (op.Theta (length (f.around h))) (first_kid v h s ∷ v.again h s ∷ []))
form_of f v (Over o es) = Some (form o (listed es))

-- the rule on names: depth d is free in an expression in which, through open kids, a theta of depth d is found. The theta of a name
-- of that depth is one; names of deeper loops are followed into the kids of their thetas, and those of other loops aren't.
pub data FreeIn (f : Flow) (v : Values) (d : ℕ) : Exp → Type 0 where
  theta : (o : Op) (es : Exps) → shape o ≡ ops.theta d → FreeIn f v d (Over o es)
  name : (h s : ℕ) → length (f.around h) ≡ d → FreeIn f v d (Name h s)
  entered : (h s : ℕ) → d < length (f.around h) → FreeIn f v d (first_kid v h s) → FreeIn f v d (Name h s)
  begun : (h s : ℕ) → d < length (f.around h) → FreeIn f v d (v.again h s) → FreeIn f v d (Name h s)
  kid : (o : Op) (es : Exps) (k : Exp) → In (open_kids d (shape o) (listed es)) k → FreeIn f v d k → FreeIn f v d (Over o es)

-- the value of a slot at the entry
abbrev pub at_start : Flow → ℕ → Exp
at_start f s = Over (f.start s) NoExp

-- trees, and what is taken out of loops, are right for the slots
pub record AreTrees (f : Flow) (v : Values) : Type 0 where
  pub trees : (R : List ℕ) (t : Target) (s : ℕ) (F : List ℕ) (b : ℕ) → f.around b ≡ F ++ R → IsTree f v R t s F b (v.tree R t s F b)
  pub no_loops : (h s : ℕ) → (Heads (f.around h) h → ⊥) → (v.entering h s ≡ never_exp) × (v.again h s ≡ never_exp)
  pub outs_are : (h : ℕ) (x : Exp) (B : List ℕ) → f.around h ≡ h ∷ B
      → (FreeIn f v (length (h ∷ B)) x × (v.out h x ≡ Over (op.Eval (length (h ∷ B))) (two x (Over (op.Pass (length (h ∷ B))) (one (v.ending h))))))
      ⊎ ((FreeIn f v (length (h ∷ B)) x → ⊥) × (v.out h x ≡ x))

-- THE EQUATIONS: v solves them
pub record AreEquations (f : Flow) (v : Values) : Type 0 where
  -- each tree
  pub trees : (R : List ℕ) (t : Target) (s : ℕ) (F : List ℕ) (b : ℕ) → f.around b ≡ F ++ R → IsTree f v R t s F b (v.tree R t s F b)
  -- the slots at the entry, where it is no header
  pub starts : (s : ℕ) → (Heads (f.around f.entry) f.entry → ⊥) → v.value f.entry s ≡ at_start f s
  -- those at another block that is no header
  pub blocks : (b s : ℕ) → (Heads (f.around b) b → ⊥) → b ≢ f.entry → Given (tree_of f v (f.around b) (Node b) s) (v.value b s)
  -- those at a header, carried by its loop or not
  pub names : (h s : ℕ) (B : List ℕ) → f.around h ≡ h ∷ B → f.carried h s ≡ true → v.value h s ≡ Name h s
  pub others : (h s : ℕ) (B : List ℕ) → f.around h ≡ h ∷ B → f.carried h s ≡ false → v.value h s ≡ v.entering h s
  -- where a loop is entered
  pub first_entries : (s : ℕ) → Heads (f.around f.entry) f.entry → v.entering f.entry s ≡ at_start f s
  pub entries : (h s : ℕ) (B : List ℕ) → f.around h ≡ h ∷ B → h ≢ f.entry → Given (tree_of f v B (Node h) s) (v.entering h s)
  -- at a block that is no header nothing is entered or begins again
  pub no_loops : (h s : ℕ) → (Heads (f.around h) h → ⊥) → (v.entering h s ≡ never_exp) × (v.again h s ≡ never_exp)
  -- where a loop begins again, and whether it is left
  pub agains : (h s : ℕ) (B : List ℕ) → f.around h ≡ h ∷ B → Given (tree_of f v (h ∷ B) Back s) (v.again h s)
  pub endings : (h : ℕ) (B : List ℕ) → f.around h ≡ h ∷ B → Given (tree_of f v (h ∷ B) Leaving 0) (v.ending h)
  -- what is taken out of a loop: an eval where the depth of the loop is free in it, else the same expression
  pub outs_are : (h : ℕ) (x : Exp) (B : List ℕ) → f.around h ≡ h ∷ B
      → (FreeIn f v (length (h ∷ B)) x × (v.out h x ≡ Over (op.Eval (length (h ∷ B))) (two x (Over (op.Pass (length (h ∷ B))) (one (v.ending h))))))
      ⊎ ((FreeIn f v (length (h ∷ B)) x → ⊥) × (v.out h x ≡ x))
