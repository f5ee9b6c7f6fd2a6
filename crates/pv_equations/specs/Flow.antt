-- A method as a flow: blocks with tests and exits, and the loops around them.
--
-- Slot 0 is the token, which has a value where all calls so far have ended; which slots hold the fault, the result, the heap, the
-- locals and the stack is said in Root and by the layers above.
use Rattle.std.specs.Prelude.{◌≡◌, ◌≢◌, ℕ, ◌<◌, ◌≤◌, Bool, true, false, List, [], ◌∷◌, ◌++◌, ◌⊎◌, ⊤, refl}
use Rattle.pv_value.specs.declared.name.Sym.{Sym}
use Rattle.pv_loops.specs.Ranks.{Heads}
use Rattle.pv_graph.specs.declared.node.Op.{Op}
use Rattle.pv_graph.specs.declared.node.Op.TheVariants as op
use Rattle.pv_graph.specs.Ops.{plain, shape}
use Rattle.pv_equations.specs.Exp.{Exp, Exps, NoExp, Then, made}

mutual
  -- what a block computes from the slots at its beginning: one of them, or an operation that needs the values of all its kids
  pub data Part : Type 0 where
    Slot : ℕ → Part
    Of : (o : Op) → shape o ≡ plain → Parts → Part

  pub data Parts : Type 0 where
    NoPart : Parts
    More : Part → Parts → Parts

-- the expression of a part, where f gives those of the slots
abbrev mutual
  pub put : (ℕ → Exp) → Part → Exp
  put f (Slot s) = f s
  put f (Of o p ps) = made o (put_all f ps)

  pub put_all : (ℕ → Exp) → Parts → Exps
  put_all f NoPart = NoExp
  put_all f (More p ps) = Then (put f p) (put_all f ps)

-- how a method ends
pub data Kind : Type 0 where
  Return : Kind
  Throw : Kind

-- where an exit goes: to a block, or to the end of the method
pub data Dest : Type 0 where
  To : ℕ → Dest
  End : Kind → Dest

-- an exit of a block: where it goes, and each slot there
pub record Exit : Type 0 where
  pub dest : Dest
  pub slots : ℕ → Part

-- the tests of a block: where a test is true the block is left by its exit, else the next test decides
pub data Chain : Type 0 where
  Leave : Exit → Chain
  Test : Part → Exit → Chain → Chain

-- d is an exit of the chain
abbrev pub InChain : Chain → Exit → Type 0
InChain (Leave e) d = e ≡ d
InChain (Test t y rest) d = (y ≡ d) ⊎ InChain rest d

pub record Flow : Type 0 where
  -- the block at which runs begin
  pub entry : ℕ
  -- the tests and exits of each block
  pub chain : ℕ → Chain
  -- the headers of the loops around a block, the innermost first; a header is inside its own loop
  pub around : ℕ → List ℕ
  -- whether the loop of a header may change a slot
  pub carried : ℕ → ℕ → Bool
  -- each slot at the entry of the method, an operation without kids
  pub start : ℕ → Op
  pub start_plain : (s : ℕ) → shape (start s) ≡ plain

-- the token after a call of s: the one before it, and the end of the call
abbrev pub call_token : Sym → Parts → Part
call_token s ps = Of op.Both refl (More (Slot 0) (More (Of (op.CallEnd s) refl ps) NoPart))

-- the token at an exit: that of the block, or that and the end of a call
pub data TokenPart : Part → Type 0 where
  kept : TokenPart (Slot 0)
  calls : (s : Sym) (ps : Parts) → TokenPart (call_token s ps)

-- an edge from b to m leaves the loops C around b and stays in the others, D. It goes back to the header of D, or on to a block of
-- higher rank that is not the entry: one that is in D and in no other loop, or the header of a loop in D
abbrev pub Edge : Flow → (ℕ → ℕ) → ℕ → ℕ → Type 0
Edge f rank b m = (C D : List ℕ) × (f.around b ≡ C ++ D)
    × (((f.around m ≡ D) × Heads D m) ⊎ ((rank b < rank m) × (m ≢ f.entry) × (((f.around m ≡ D) × (Heads D m → ⊥)) ⊎ (f.around m ≡ m ∷ D))))

-- from b a way through blocks of the loop A leads back to its header h
pub data LeadsBack (f : Flow) (A : List ℕ) (h : ℕ) : ℕ → Type 0 where
  turns : (b : ℕ) (e : Exit) → InChain (f.chain b) e → e.dest ≡ To h → LeadsBack f A h b
  passes : (b m : ℕ) (e : Exit) (G : List ℕ) → InChain (f.chain b) e → e.dest ≡ To m → f.around m ≡ G ++ A → LeadsBack f A h m → LeadsBack f A h b

-- each loop has one header, at which alone it is entered; but for the edges back to headers the blocks are in the order of their
-- ranks; and what a loop doesn't carry it doesn't change
pub record Shape (f : Flow) (rank : ℕ → ℕ) : Type 0 where
  pub edges : (b m : ℕ) (e : Exit) → InChain (f.chain b) e → e.dest ≡ To m → Edge f rank b m
  -- the loops around a header are those around it for each block of its loop, and it has the lowest rank
  pub headers : (b h : ℕ) (G B : List ℕ) → f.around b ≡ G ++ h ∷ B → (f.around h ≡ h ∷ B) × (rank h ≤ rank b)
  -- a loop can begin again
  pub loops : (h : ℕ) (B : List ℕ) → f.around h ≡ h ∷ B → LeadsBack f (h ∷ B) h h
  -- the entry is in no loop, or the header of one that is in no other
  pub first : (f.around f.entry ≡ []) ⊎ (f.around f.entry ≡ f.entry ∷ [])
  -- what an exit does to the token; each loop carries it; it starts as unit
  pub tokens : (b : ℕ) (e : Exit) → InChain (f.chain b) e → TokenPart (e.slots 0)
  pub carries : (h : ℕ) → f.carried h 0 ≡ true
  pub starts_unit : f.start 0 ≡ op.Unit
  -- an exit of a block of the loop to a block leaves each slot as it is that the loop doesn't carry
  pub keeps : (b m h s : ℕ) (G B : List ℕ) (e : Exit) → f.around b ≡ G ++ h ∷ B → f.carried h s ≡ false → InChain (f.chain b) e → e.dest ≡ To m → e.slots s ≡ Slot s

-- the ranks keep loops together: where an edge goes on out of a loop to a block m, all blocks of the loop have lower ranks than m
abbrev pub Compact : Flow → (ℕ → ℕ) → Type 0
Compact f rank = (h : ℕ) (B G X : List ℕ) (b c m : ℕ) (e : Exit) → f.around b ≡ G ++ h ∷ B → f.around c ≡ X ++ h ∷ B → InChain (f.chain b) e → e.dest ≡ To m → rank b < rank m → ((Y : List ℕ) → f.around m ≢ Y ++ h ∷ B) → rank c < rank m

-- ---- finite flows

-- the slots that a part names are below n
abbrev mutual
  pub NamesBelow : ℕ → Part → Type 0
  NamesBelow n (Slot s) = s < n
  NamesBelow n (Of o p ps) = AllBelow n ps

  pub AllBelow : ℕ → Parts → Type 0
  AllBelow n NoPart = ⊤
  AllBelow n (More p ps) = NamesBelow n p × AllBelow n ps

-- t is a test of the chain
abbrev pub InTests : Chain → Part → Type 0
InTests (Leave e) t = ⊥
InTests (Test u yes' rest) t = (u ≡ t) ⊎ InTests rest t

-- the flow has finitely many blocks and slots, numbered from 0: exits go to blocks below `blocks`, only those stand in loops,
-- and what stands in tests and at exits names slots below `slots`
pub record IsFinite (f : Flow) (blocks slots : ℕ) : Type 0 where
  pub entry : f.entry < blocks
  pub targets : (b m : ℕ) (e : Exit) → InChain (f.chain b) e → e.dest ≡ To m → m < blocks
  pub loops : (b h : ℕ) (B : List ℕ) → f.around b ≡ h ∷ B → b < blocks
  pub tests : (b : ℕ) (t : Part) → InTests (f.chain b) t → NamesBelow slots t
  pub parts : (b s : ℕ) (e : Exit) → InChain (f.chain b) e → NamesBelow slots (e.slots s)
