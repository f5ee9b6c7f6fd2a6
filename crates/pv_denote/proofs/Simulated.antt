-- Nodes that have one operation over kids that are so paired again have the same values; nodes that
-- unfold equally are so paired, also in two graphs.
use Rattle.std.specs.Prelude.{◌↔◌, ℕ, zero, suc, Option}
use Rattle.pv_value.specs.declared.world.World.{World}
use Rattle.pv_value.specs.declared.outcome.Input.{Input}
use Rattle.pv_value.specs.declared.outcome.Val.{Val}
use Rattle.pv_graph.specs.Ops.{shape}
use Rattle.pv_graph.specs.Forms.{Form}
use Rattle.pv_denote.specs.Denote.{Index, den, Value}
use Rattle.pv_graph.specs.Unfold.{UnfoldsAs}
use Rattle.pv_graph.proofs.Cited.{Bisimulates, Simulates, bisimulates_simulates, bisimulates_flip, unfolds_bisimulates}
use Rattle.pv_denote.proofs.Values.{With, den_says, den_makes}
use Rattle.pv_denote.proofs.Mapped.{moves_all, Stays, means_map}

simulated_with : {N M : Type 0} (view : N → Option (Form N)) (other : M → Option (Form M)) (T : N → M → Type 0) → Simulates view other T
    → (w : World) (x : Input) (fuel : ℕ) (a : N) (b : M) (i : Index) (v : Val) → T a b → With view w x fuel a i v → Value other w x b i v
unfolding den
simulated_with view other T sim w x zero a b i v t h = absurd (cc)
simulated_with view other T sim w x (suc fuel) a b i v t h =
    let r = den_says view w x fuel a i v h in
    let n = sim a b t r.0 r.1 r.2 in
    den_makes other w x b i v r.0 n.0 n.1
    (means_map w x (λ _. Unit {0}) (With view w x fuel) (Value other w x) T (λ a b j u t _ z. simulated_with view other T sim w x fuel a b j u t z) (shape r.0) r.0 r.1 n.0 i v
    (moves_all (Stays (λ _. Unit {0})) (λ d j k _. tt) (shape r.0)) n.2 tt r.3)

-- values go along
pub simulated : {N M : Type 0} (view : N → Option (Form N)) (other : M → Option (Form M)) (T : N → M → Type 0) → Simulates view other T
    → (w : World) (x : Input) (a : N) (b : M) (i : Index) (v : Val) → T a b → Value view w x a i v → Value other w x b i v
simulated view other T sim w x a b i v t h = simulated_with view other T sim w x h.0 a b i v t h.1

-- values go both ways
pub bisimulated : {N M : Type 0} (view : N → Option (Form N)) (other : M → Option (Form M)) (T : N → M → Type 0) → Bisimulates view other T
    → (w : World) (x : Input) (a : N) (b : M) (i : Index) (v : Val) → T a b → Value view w x a i v ↔ Value other w x b i v
bisimulated view other T bi w x a b i v t = (
  simulated view other T (bisimulates_simulates view other T bi) w x a b i v t,
  simulated other view (λ b a. T a b) (bisimulates_simulates other view (λ b a. T a b) (bisimulates_flip view other T bi)) w x b a i v t,
)

-- nodes that unfold equally, also in two graphs, have the same values
pub unfolds_value : {N M : Type 0} (view : N → Option (Form N)) (other : M → Option (Form M)) (w : World) (x : Input) (a : N) (b : M) (i : Index) (v : Val) → UnfoldsAs view other a b → Value view w x a i v ↔ Value other w x b i v
unfolds_value view other w x a b i v u = bisimulated view other (UnfoldsAs view other) (unfolds_bisimulates view other) w x a b i v u
