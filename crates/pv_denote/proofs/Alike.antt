-- The value of a node of a sealed graph depends on the iterations of depths 1 to 16 alone.
use Rattle.std.specs.Prelude.{◌≡◌, ℕ, zero, suc, ◌<◌, ◌≤◌, ◌^◌, false, List, [], ◌∷◌, length, Option, Some, None, if◌then◌else◌, refl}
use Rattle.std.proofs.Common.{sym, ap, ◌∙◌, subst, arith, get_or, lit<}
use Rattle.pv_value.specs.declared.world.World.{World}
use Rattle.pv_value.specs.declared.heap.Heap.{Heap}
use Rattle.pv_value.specs.declared.outcome.Input.{Input}
use Rattle.pv_value.specs.declared.outcome.Fault.{Fault}
use Rattle.pv_value.specs.declared.outcome.Fault.TheVariants as fault
use Rattle.pv_value.specs.declared.outcome.Val.{Val}
use Rattle.pv_graph.specs.declared.node.Op.{Op}
use Rattle.pv_graph.specs.Ops.{Shape, plain, choice, theta, eval, pass, shift, root, shape}
use Rattle.pv_graph.specs.Forms.{Form, form}
use Rattle.pv_graph.specs.Graphs.{Graph, form_at, IsGraph}
use Rattle.pv_graph.proofs.Cited.{bind_some, node_at}
use Rattle.pv_denote.specs.Denote.{Index, at_depth, truth, count_of, unit_of, fault_of, heap_of, by_iteration, ending, shaped, formed, den, looks}
use Rattle.pv_denote.specs.Meaning.{index_of, AreSmall}
use Rattle.pv_denote.specs.Given.{MayEvaluate}
use Rattle.pv_denote.proofs.Values.{IsKept, bind_kept, values_kept, looked_kept}
use Rattle.pv_denote.proofs.Indices.{at_agree}
use Rattle.pv_denote.proofs.Mapped.{Moves}
use Rattle.pv_denote.proofs.Evaluating.{IsDepth, node_depth}

-- the same iterations at the depths that loops have
abbrev pub Alike : Index → Index → Type 0
Alike i j = (d : ℕ) → d ≤ 16 → i d ≡ j d

alike_at : (i j : Index) (d k : ℕ) → Alike i j → Alike (at_depth i d k) (at_depth j d k)
alike_at i j d k h e le = at_agree i j d k e (λ _. h e le)

module _ {N : Type 0} (w : World) (x : Input) (ev : N → Index → Option Val) (later : ℕ → N → Index → ℕ → Option Val)
    (p : (n : N) (i j : Index) → Alike i j → IsKept (ev n i) (ev n j)) (q : (d : ℕ) (c : N) (i j : Index) (m : ℕ) → Alike i j → IsKept (later d c i m) (later d c j m)) where
  by_iteration_alike : (d : ℕ) (a b : N) (i j : Index) (n : ℕ) → Alike i j → IsKept (by_iteration ev d a b i n) (by_iteration ev d a b j n)
  by_iteration_alike d a b i j zero h = p a i j h
  by_iteration_alike d a b i j (suc k) h = p b (at_depth i d k) (at_depth j d k) (alike_at i j d k h)

  ending_alike : (r : N) (i j : Index) (m : Heap) (e : Fault) → Alike i j → IsKept (ending ev r i m e) (ending ev r j m e)
  ending_alike r i j m fault.Clear h = bind_kept _ _ _ _ (p r i j h) (λ v u same. same)
  ending_alike r i j m e h = λ v same. same

  shaped_alike : (s : Shape) (o : Op) (ks : List N) (i j : Index) → Moves IsDepth s → Alike i j → IsKept (shaped w x ev later s o ks i) (shaped w x ev later s o ks j)
  shaped_alike plain o ks i j m h = bind_kept _ _ _ _ (values_kept (λ k. ev k i) (λ k. ev k j) ks (λ k. p k i j h)) (λ vs v same. same)
  shaped_alike choice o (c ∷ a ∷ b ∷ []) i j m h = bind_kept (ev c i) _ _ _ (p c i j h) (λ v. bind_kept (truth v) _ _ _ (λ t same. same) (λ t. p (if t then a else b) i j h))
  shaped_alike (theta d) o (a ∷ b ∷ []) i j m h =
      subst (λ (n : ℕ). IsKept (by_iteration ev d a b i (i d)) (by_iteration ev d a b j n)) (h d m.1) (by_iteration_alike d a b i j (i d) h)
  shaped_alike (eval d) o (a ∷ n ∷ []) i j m h = bind_kept (ev n i) _ _ _ (p n i j h) (λ v. bind_kept (count_of v) _ _ _ (λ k same. same) (λ k. p a (at_depth i d k) (at_depth j d k) (alike_at i j d k h)))
  shaped_alike (pass d) o (c ∷ []) i j m h =
      bind_kept (ev c (at_depth i d 0)) _ _ _ (p c (at_depth i d 0) (at_depth j d 0) (alike_at i j d 0 h))
      (λ v. bind_kept (truth v) _ _ _ (λ t same. same) (λ t. looked_kept 0 t (later d c i) (later d c j) (λ l. q d c i j l h)))
  shaped_alike (shift d) o (a ∷ []) i j m h =
      subst (λ (n : ℕ). IsKept (ev a (at_depth i d (suc (i d)))) (ev a (at_depth j d (suc n)))) (h d m.1) (p a (at_depth i d (suc (i d))) (at_depth j d (suc (i d))) (alike_at i j d (suc (i d)) h))
  shaped_alike root o (t ∷ f ∷ r ∷ y ∷ []) i j m h =
      bind_kept (ev t i) _ _ _ (p t i j h) (λ u. bind_kept (unit_of u) _ _ _ (λ v e. e) (λ _. bind_kept (ev f i) _ _ _ (p f i j h) (λ g. bind_kept (fault_of g) _ _ _ (λ v e. e) (λ n.
      bind_kept (ev y i) _ _ _ (p y i j h) (λ z. bind_kept (heap_of z) _ _ _ (λ v e. e) (λ b. ending_alike r i j b n h))))))
  shaped_alike s o ks i j m h = λ v e. absurd (cc)

  formed_alike : (fm : Form N) (i j : Index) → ((o : Op) (ks : List N) → fm ≡ form o ks → Moves IsDepth (shape o)) → Alike i j → IsKept (formed w x ev later i fm) (formed w x ev later j fm)
  formed_alike (form o ks) i j m h = shaped_alike (shape o) o ks i j (m o ks refl) h

-- each node has a depth that loops have
abbrev pub HasDepths : {N : Type 0} → (N → Option (Form N)) → Type 0
HasDepths {N} view = (n : N) (o : Op) (ks : List N) → view n ≡ Some (form o ks) → Moves IsDepth (shape o)

mutual
  unfolding den

  den_alike : {N : Type 0} (view : N → Option (Form N)) → HasDepths view → (w : World) (x : Input) (fuel : ℕ) (n : N) (i j : Index) → Alike i j → IsKept (den view w x fuel n i) (den view w x fuel n j)
  den_alike view has w x zero n i j h = λ v e. absurd (cc)
  den_alike view has w x (suc fuel) n i j h = λ v e.
      let a = bind_some (view n) _ v e in
      rw a.1 (formed_alike w x (den view w x fuel) (looks view w x fuel) (λ k i j h. den_alike view has w x fuel k i j h) (λ d c i j m h. looks_alike view has w x fuel d c i j m h)
      a.0 i j (λ o ks is. has n o ks (a.1 ∙ ap Some is)) h v a.2)

  looks_alike : {N : Type 0} (view : N → Option (Form N)) → HasDepths view → (w : World) (x : Input) (fuel d : ℕ) (c : N) (i j : Index) (m : ℕ) → Alike i j → IsKept (looks view w x fuel d c i m) (looks view w x fuel d c j m)
  looks_alike view has w x zero d c i j m h = λ v e. absurd (cc)
  looks_alike view has w x (suc fuel) d c i j m h =
      bind_kept (den view w x fuel c (at_depth i d m)) _ _ _ (den_alike view has w x fuel c (at_depth i d m) (at_depth j d m) (alike_at i j d m h))
      (λ v. bind_kept (truth v) _ _ _ (λ t same. same) (λ t. looked_kept m t (looks view w x fuel d c i) (looks view w x fuel d c j) (λ l. looks_alike view has w x fuel d c i j l h)))

same_of : (o p : Option Val) → IsKept o p → IsKept p o → o ≡ p
same_of None None h k = refl
same_of None (Some b) h k = k b refl
same_of (Some a) p h k = sym (h a refl)

pub den_same : {N : Type 0} (view : N → Option (Form N)) → HasDepths view → (w : World) (x : Input) (fuel : ℕ) (n : N) (i j : Index) → Alike i j → den view w x fuel n i ≡ den view w x fuel n j
den_same view has w x fuel n i j h = same_of _ _ (den_alike view has w x fuel n i j h) (den_alike view has w x fuel n j i (λ d le. sym (h d le)))

-- ---- graphs

graph_depths : (g : Graph) → IsGraph g → g.is_open ≡ false → HasDepths (form_at g.nodes)
graph_depths g graph sealed n o ks e =
    let node = node_at g.nodes n o ks e in
    subst (λ (p : Op). Moves IsDepth (shape p)) node.2 (node_depth g graph sealed n node.0 node.1)

pub den_index : (g : Graph) → IsGraph g → g.is_open ≡ false → (w : World) (x : Input) (fuel n : ℕ) (i : Index) (index : List ℕ) → ((d : ℕ) → d ≤ 16 → i d ≡ index_of index d)
    → den (form_at g.nodes) w x fuel n i ≡ den (form_at g.nodes) w x fuel n (index_of index)
den_index g graph sealed w x fuel n i index h = den_same (form_at g.nodes) (graph_depths g graph sealed) w x fuel n i (index_of index) h

small_at : (index : List ℕ) (d : ℕ) → AreSmall index → get_or index d 0 < 2 ^ 62
small_at [] d h = lit< tt
small_at (k ∷ ks) zero h = h.0
small_at (k ∷ ks) (suc d) h = small_at ks d h.1

small_index : (index : List ℕ) (d : ℕ) → AreSmall index → index_of index d < 2 ^ 62
small_index index zero h = lit< tt
small_index index (suc d) h = small_at index d h

-- a node may be evaluated at small iterations
pub may_start : (g : Graph) (n fuel : ℕ) (i : Index) (index : List ℕ) → IsGraph g → g.is_open ≡ false → n < length g.nodes → AreSmall index → fuel < 2 ^ 62 → ((d : ℕ) → d ≤ 16 → i d ≡ index_of index d) → MayEvaluate g (n ∷ []) i fuel
may_start g n fuel i index graph sealed there small low h = record {
  graph = graph;
  sealed = sealed;
  there = (there, tt);
  room = λ d le. let a = small_index index d small in let b = h d le in omega arith;
  fuel_ = low;
}
