-- The flow of a method's blocks and loops is ranked, and finite.
use Rattle.std.proofs.Common.{◌<◌, ◌≡◌, ℕ, zero, suc, ◌+◌, ◌*◌, ◌-◌, List, ◌∷◌, length, Option, Some, None, refl, sym, subst, arith}
use Rattle.pv_runs.proofs.Words.{slice_get, unwrap_or, option_map, length-map, slice_get_within, ◌>>=◌, ClassFile, Method, Program, Frame, AreFrames, Block, IsFlow, targets_of, edges_of, entry_block, edges_within, Forest, IsForest, around, IsRanking, Part, Flow, To, Exit, Chain, InChain, LeadsBack, turns, passes, Shape, Compact, NamesBelow, InTests, IsFinite, place_chain, numbered, no_chain, block_chain}
use Rattle.pv_loops.specs.Shapes.{IsShape}
use Rattle.pv_loops.proofs.Cited.{ranking}
use Rattle.pv_loops.specs.Ranks as ranks
use Rattle.pv_equations.specs.Flow as flow
use Rattle.pv_runs.specs.Methods.{flow_of, IsShaped}
use Rattle.pv_runs.specs.Laws.{IsRanked}
use Rattle.pv_runs.proofs.Clean.{program_clean}
use Rattle.pv_runs.proofs.Typed.{typed_chain}
use Rattle.pv_runs.proofs.Options.{bound}
use Rattle.pv_runs.proofs.Edges.{has_chain, exit_edge, edge_exit}
use Rattle.pv_runs.proofs.Frames.{frame_long, frame_room}
use Rattle.pv_runs.proofs.Below.{HeldBelow, ChainBelow, chain_below, along_below, start_below, exit_below, tested_below}
use Rattle.pv_runs.proofs.Members.{in_shape}
use Rattle.pv_runs.proofs.Keeping.{first_frame, exit_token, exit_keeps}

-- ---- slots

-- the heap and the token, and for each local and each place of the stack a slot
abbrev pub slot_count : Program → ℕ
slot_count p = 4 + 2 * (p.max_locals + p.max_stack)

numbered_below : (n : ℕ) (blocks : List Block) (c : Chain) → ChainBelow n c → ChainBelow n (numbered blocks c)
numbered_below n blocks (flow.Leave e) b = b
numbered_below n blocks (flow.Test t e c) b = (b.0, b.1, numbered_below n blocks c b.2)

module _ (p : Program) (frames : List (Option Frame)) (blocks : List Block) (well_typed : AreFrames p frames) (is : IsFlow p blocks) where
  block_below : (b : Block) (c : Chain) → place_chain p frames b ≡ Some c → ChainBelow (slot_count p) c
  block_below b c e =
      let h = has_chain p frames b c e in
      let f = first_frame frames b h.start h.begins in
      let long = frame_long p frames well_typed b.first f.0 f.1 in
      let room = frame_room p frames well_typed b.first f.0 f.1 in
      let start = subst (HeldBelow (slot_count p)) f.2 (start_below (slot_count p) f.0 (omega (arith, long)) (omega (arith, room))) in
      let last = along_below (slot_count p) p (b.last - b.first) b.first h.start h.last (omega arith) start h.along in
      chain_below (slot_count p) p.desc.result b.last h.action h.last c (omega arith) last h.is

  none_below : ChainBelow (slot_count p) no_chain
  none_below zero = omega arith
  none_below (suc zero) = tt
  none_below (suc (suc zero)) = tt
  none_below (suc (suc (suc zero))) = omega arith
  none_below (suc (suc (suc (suc n)))) = tt

  -- what stands at a number names slots of the method alone
  number_below : (n : ℕ) → ChainBelow (slot_count p) (block_chain p frames blocks n)
  number_below n = go (slice_get blocks n >>= place_chain p frames) refl
    where
      go : (o : Option Chain) → (slice_get blocks n >>= place_chain p frames) ≡ o → ChainBelow (slot_count p) (unwrap_or (option_map (numbered blocks) o) no_chain)
      go None e = none_below
      go (Some c) e = let b = bound (slice_get blocks n) (place_chain p frames) c e in numbered_below (slot_count p) blocks c (block_below b.0 c b.2)

  -- ---- the shape

  module _ (chains : (n : ℕ) (b : Block) → slice_get blocks n ≡ Some b → (c : Chain) × (place_chain p frames b ≡ Some c)) (forest : Forest) (loops : IsForest (edges_of blocks) forest) (rank : ℕ → ℕ) (ranking : IsRanking (edges_of blocks) (around forest) rank) where
    abbrev F : Flow
    F = flow_of p frames blocks forest

    leads_back : (A : List ℕ) (h b : ℕ) → ranks.LeadsBack (edges_of blocks) (around forest) A h b → LeadsBack F A h b
    leads_back A h _ (ranks.turns a e) = let x = edge_exit p frames blocks is chains a h e in turns a x.0 x.1 x.2
    leads_back A h _ (ranks.passes a b G e inside w) = let x = edge_exit p frames blocks is chains a b e in passes a b x.0 G x.1 x.2 inside (leads_back A h b w)

    shape : Shape F rank
    shape = record {
      edges = λ b m e i t. ranking.edges b m (exit_edge p frames blocks is b m e i t);
      headers = ranking.headers;
      loops = λ h B e. leads_back (h ∷ B) h h (ranking.loops h B e);
      first = ranking.first;
      tokens = λ b e i. exit_token p frames blocks b e i;
      carries = λ h. refl;
      starts_unit = refl;
      keeps = λ b m h s G B e. exit_keeps p frames blocks well_typed is forest loops b m h s G B e;
    }

    compact : Compact F rank
    compact h B G X b c m e u v i t lt out = ranking.compact h B G X b c m u v (exit_edge p frames blocks is b m e i t) lt out

    finite : IsFinite F (length blocks) (slot_count p)
    finite = record {
      entry = let b = entry_block p blocks is in slice_get_within blocks 0 b.0 b.1;
      targets = λ b m e i t. (edges_within p blocks is b m (exit_edge p frames blocks is b m e i t)).1;
      loops = λ b h B e. let lt = in_shape forest b h B e in omega (arith, lt, loops.homes, length-map blocks (λ (b : Block). targets_of b.exits));
      tests = λ b t i. tested_below (slot_count p) (block_chain p frames blocks b) t (number_below b) i;
      parts = λ b s e i. exit_below (slot_count p) (block_chain p frames blocks b) e (number_below b) i s;
    }

-- THE FLOW OF A METHOD IS RANKED
pub method_ranked : (file : ClassFile) (m : Method) (p : Program) (frames : List (Option Frame)) (blocks : List Block) (forest : Forest) → IsShaped file m p frames blocks forest → IsRanked (flow_of p frames blocks forest) (length blocks)
method_ranked file m p frames blocks forest is =
    let chains = typed_chain p frames is.well_typed (program_clean file m p is.program) blocks is.flow in
    let edges : IsShape (edges_of blocks) = record { entry = subst (λ (n : ℕ). 0 < n) (sym (length-map blocks (λ (b : Block). targets_of b.exits))) (let b = entry_block p blocks is.flow in slice_get_within blocks 0 b.0 b.1); within = λ a b e. subst (λ (n : ℕ). b < n) (sym (length-map blocks (λ (b : Block). targets_of b.exits))) (edges_within p blocks is.flow a b e).1 } in
    let r = ranking (edges_of blocks) forest edges is.reducible is.shallow is.loops in
    record {
      rank = r.0;
      top = r.1;
      slots = slot_count p;
      shape = shape p frames blocks is.well_typed is.flow chains forest is.loops r.0 r.3;
      compact = compact p frames blocks is.well_typed is.flow chains forest is.loops r.0 r.3;
      below = r.2;
      deep = r.4;
      finite = finite p frames blocks is.well_typed is.flow chains forest is.loops r.0 r.3;
    }
