-- The evaluation of nodes: what it requires is kept, and each shape gives what it means.
use Rattle.std.specs.Prelude.{◌≡◌, ◌≢◌, ℕ, zero, suc, ◌+◌, ◌-◌, ◌<◌, ◌≤◌, ◌^◌, Bool, true, false, List, [], ◌∷◌, length, Option, Some, None, Result, slice_get, ◌==◌, if◌then◌else◌, refl}
use Rattle.std.specs.List.{AllByRecursion}
use Rattle.std.proofs.Common.{inl, inr, sym, ap, ◌∙◌, subst, arith, get_or}
use Rattle.std.proofs.lemmas.Bool.Decides.{nat_tests}
use Rattle.std.proofs.lemmas.Grind.{get_or_default_zero}
use Rattle.std.proofs.lemmas.Option.{slice_get_within}
use Rattle.pv_value.specs.Spelled.{bind}
use Rattle.pv_value.specs.declared.world.World.{World}
use Rattle.pv_value.specs.declared.outcome.Input.{Input}
use Rattle.pv_value.specs.declared.outcome.Val.{Val}
use Rattle.pv_value.specs.declared.outcome.Val.TheVariants as val
use Rattle.pv_graph.specs.declared.node.Op.{Op}
use Rattle.pv_graph.specs.declared.node.Op.TheVariants as op
use Rattle.pv_graph.specs.declared.node.OpSort.{OpSort}
use Rattle.pv_graph.specs.declared.node.OpSort.TheVariants.{I, N}
use Rattle.pv_graph.specs.declared.node.Node.{Node}
use Rattle.pv_graph.specs.Ops.{plain, shape, is_depth, alike, eval_sort, shift_sort, exactly, sort_over}
use Rattle.pv_graph.specs.Forms.{Form}
use Rattle.pv_graph.specs.Walks.{In}
use Rattle.pv_graph.specs.Graphs.{Graph, form_at, IsGraph}
use Rattle.pv_graph.proofs.Cited.{bind_some, form_there, kid_within, sort_there, tied}
use Rattle.pv_denote.specs.Denote.{Index, at_depth, values, truth, looked, count_of, by_iteration, formed, den, looks}
use Rattle.pv_denote.specs.Given.{Gives, Stops, MayEvaluate, IsSmall, over_kids, value_of}
use Rattle.pv_denote.specs.declared.setting.Setting.{Setting}
use Rattle.pv_denote.specs.declared.stop.Stop.{Stop}
use Rattle.pv_denote.specs.declared.stop.Stop.TheVariants.{NoValue, Memory}
use Rattle.pv_denote.proofs.Mapped.{Moves}
use Rattle.pv_denote.proofs.Counting.{count_low}
use Rattle.pv_denote.proofs.Readings.{Each}

pub none_of : (e : Stop) (o : Option Val) → e ≡ NoValue → Stops e o → o ≡ None
none_of NoValue o is h = h
none_of Memory o is h = absurd (cc)

-- ---- what is required is kept

all_at : (n : ℕ) (ks : List ℕ) (j : ℕ) → AllByRecursion (λ k. k < n) ks → j < length ks → get_or ks j 0 < n
all_at n [] j h lt = absurd (omega arith)
all_at n (k ∷ ks) zero h lt = h.0
all_at n (k ∷ ks) (suc j) h lt = all_at n ks j h.1 (omega arith)

at_low : (i : Index) (d m n : ℕ) → ((e : ℕ) → e ≤ 16 → i e < n) → m < n → (e : ℕ) → e ≤ 16 → at_depth i d m e < n
at_low i d m n h b e le = go (e == d) (h e le)
  where
    go : (t : Bool) → i e < n → (if t then m else i e) < n
    go true z = b
    go false z = z

-- a kid at another iteration of a depth
pub may_kid : (g : Graph) (ks : List ℕ) (i j : Index) (fuel less d m p : ℕ) → MayEvaluate g ks i (fuel + 1) → p < length ks → less ≤ fuel → m + less < 2 ^ 63 → j ≡ at_depth i d m → MayEvaluate g (get_or ks p 0 ∷ []) j less
may_kid g ks i j fuel less d m p h lt le b e = record {
  graph = h.graph;
  sealed = h.sealed;
  there = (all_at (length g.nodes) ks p h.there lt, tt);
  room = λ f low. let all : (e : ℕ) → e ≤ 16 → i e < 2 ^ 63 - less = (λ e y. omega (arith, h.room e y)) in
      let here : at_depth i d m f < 2 ^ 63 - less = at_low i d m (2 ^ 63 - less) all (omega arith) f low in
      subst (λ (q : Index). q f + less < 2 ^ 63) (sym e) (omega arith);
  fuel_ = let z = h.fuel_ in omega arith;
}

all_in : (n : ℕ) (ks : List ℕ) → ((k : ℕ) → In ks k → k < n) → AllByRecursion (λ k. k < n) ks
all_in n [] h = tt
all_in n (k ∷ ks) h = (h k (inl refl), all_in n ks (λ l m. h l (inr m)))

-- the kids of a node
pub may_kids : (g : Graph) (n : ℕ) (i : Index) (fuel : ℕ) (node : Node) (ks : List ℕ) → MayEvaluate g (n ∷ []) i fuel → slice_get g.nodes n ≡ Some node → fuel ≢ 0 → ks ≡ node.kids → MayEvaluate g ks i ((fuel - 1) + 1)
may_kids g n i fuel node ks h is some e =
    let same : fuel ≡ (fuel - 1) + 1 = omega arith in
    let all : AllByRecursion (λ k. k < length g.nodes) ks = subst (λ (ls : List ℕ). AllByRecursion (λ k. k < length g.nodes) ls) (sym e) (all_in (length g.nodes) node.kids (λ k m. kid_within g h.graph n k node is m)) in
    subst (λ (f : ℕ). MayEvaluate g ks i f) same (record { graph = h.graph; sealed = h.sealed; there = all; room = h.room; fuel_ = h.fuel_ })

-- ---- depths

abbrev pub IsDepth : ℕ → Type 0
IsDepth d = (1 ≤ d) × (d ≤ 16)

is_depth_is : (d : ℕ) → is_depth d ≡ true → IsDepth d
is_depth_is d e = (grind (arith, nat_tests), grind (arith, nat_tests))

if_depth : {X : Type 0} (d : ℕ) (o : Option X) (y : X) → (if is_depth d then o else None) ≡ Some y → IsDepth d
if_depth d o y e = is_depth_is d (go (is_depth d) e)
  where
    go : (t : Bool) → (if t then o else None) ≡ Some y → t ≡ true
    go true z = refl
    go false z = absurd (cc)

sorted_depth : (o : Op) (ss : List OpSort) (s : OpSort) → sort_over o ss ≡ Some s → Moves IsDepth (shape o)
sorted_depth (op.Theta d) ss s e = if_depth d (alike ss) s e
sorted_depth (op.Eval d) ss s e = if_depth d (eval_sort ss) s e
sorted_depth (op.Pass d) ss s e = if_depth d (exactly (I ∷ []) N ss) s e
sorted_depth (op.Shift d) ss s e = if_depth d (shift_sort ss) s e
sorted_depth o ss s e = tt

-- the depth of a node of a sealed graph is one of 1 to 16
pub node_depth : (g : Graph) → IsGraph g → g.is_open ≡ false → (n : ℕ) (node : Node) → slice_get g.nodes n ≡ Some node → Moves IsDepth (shape node.op)
node_depth g graph sealed n node is =
    let s = sort_there g graph n (slice_get_within g.nodes n node is) in
    let sorted = tied g sealed node s.0 (graph.sorted n node s.0 is s.1) in
    sorted_depth node.op sorted.sorts s.0 sorted.over

pub depths : (g : Graph) (n : ℕ) (i : Index) (fuel : ℕ) (node : Node) (o : Op) → MayEvaluate g (n ∷ []) i fuel → slice_get g.nodes n ≡ Some node → node.op ≡ o → Moves IsDepth (shape o)
depths g n i fuel node o h is e = subst (λ (p : Op). Moves IsDepth (shape p)) e (node_depth g h.graph h.sealed n node is)

-- ---- a node is its operation over its kids

pub den_none : {M : Type 0} (view : M → Option (Form M)) (w : World) (x : Input) (fuel : ℕ) (n : M) (i : Index) → fuel ≡ 0 → den view w x fuel n i ≡ None
unfolding den
den_none view w x fuel n i e = ap (λ (f : ℕ). den view w x f n i) e

den_over : (s : Setting) (fuel n : ℕ) (i : Index) (node : Node) → slice_get s.graph.now.nodes n ≡ Some node → fuel ≢ 0 → value_of s fuel n i ≡ over_kids s (fuel - 1) node.op node.kids i
unfolding den
den_over s zero n i node is some = absurd (some refl)
den_over s (suc fuel) n i node is some =
    let less : fuel ≡ suc fuel - 1 = omega arith in
    ap (λ (f : Option (Form ℕ)). bind f (formed s.world.now s.input.now (value_of s fuel) (looks (form_at s.graph.now.nodes) s.world.now s.input.now fuel) i)) (form_there s.graph.now.nodes n node is)
    ∙ ap (λ (f : ℕ). over_kids s f node.op node.kids i) less

pub value_gives : (r : Result Val Stop) (s : Setting) (fuel n : ℕ) (i : Index) (node : Node) (o : Op) (ks : List ℕ) → slice_get s.graph.now.nodes n ≡ Some node → fuel ≢ 0 → node.op ≡ o → ks ≡ node.kids
    → Gives r (over_kids s (fuel - 1) o ks i) → Gives r (value_of s fuel n i)
value_gives r s fuel n i node o ks is some e f h =
    let over : value_of s fuel n i ≡ over_kids s (fuel - 1) o ks i =
    den_over s fuel n i node is some ∙ ap (λ (p : Op). over_kids s (fuel - 1) p node.kids i) e ∙ ap (λ (ls : List ℕ). over_kids s (fuel - 1) o ls i) (sym f) in
    subst (λ (q : Option Val). Gives r q) (sym over) h

pub plain_shape : (o : Op) → (o ≡ op.Phi → ⊥) → ((d : ℕ) → o ≡ op.Theta d → ⊥) → ((d : ℕ) → o ≡ op.Eval d → ⊥) → ((d : ℕ) → o ≡ op.Pass d → ⊥) → ((d : ℕ) → o ≡ op.Shift d → ⊥) → (o ≡ op.Root → ⊥) → shape o ≡ plain
plain_shape op.Phi a b c d e f = absurd (a refl)
plain_shape (op.Theta k) a b c d e f = absurd (b k refl)
plain_shape (op.Eval k) a b c d e f = absurd (c k refl)
plain_shape (op.Pass k) a b c d e f = absurd (d k refl)
plain_shape (op.Shift k) a b c d e f = absurd (e k refl)
plain_shape op.Root a b c d e f = absurd (f refl)
plain_shape o a b c d e f = refl

-- ---- the values of all kids

pub each_value : (kid : ℕ → Option Val) → Each kid (values kid)
each_value kid k ks = refl

pub kid_is : (ks : List ℕ) (p : ℕ) → p < length ks → get_or ks p 0 ≡ get_or ks p (get_or ks p 0)
kid_is ks p lt = sym (get_or_default_zero ks p (get_or ks p 0) lt)

small_of : (v : Val) → ((k : ℕ) → v ≡ val.Count k → k < 2 ^ 62) → IsSmall v
small_of (val.Count k) h = h k refl
small_of v h = tt

-- counts among the values of kids
pub values_small : {M : Type 0} (view : M → Option (Form M)) (w : World) (x : Input) (fuel : ℕ) (i : Index) (ks : List M) (vs : List Val) → fuel < 2 ^ 62 → values (λ k. den view w x fuel k i) ks ≡ Some vs → AllByRecursion IsSmall vs
values_small view w x fuel i [] vs low e = subst (λ (us : List Val). AllByRecursion IsSmall us) (let z : [] ≡ vs = cc in z) tt
values_small view w x fuel i (k ∷ ks) vs low e =
    let a = bind_some (den view w x fuel k i) _ vs e in
    let b = bind_some (values (λ l. den view w x fuel l i) ks) _ vs a.2 in
    let whole : a.0 ∷ b.0 ≡ vs = (let z = b.2 in cc) in
    subst (λ (us : List Val). AllByRecursion IsSmall us) whole (
      small_of a.0 (λ j is. let z = count_low view w x fuel k i j (a.1 ∙ ap Some is) in omega arith),
      values_small view w x fuel i ks b.0 low b.1,
    )

-- ---- iterations

pub counted : {M : Type 0} (view : M → Option (Form M)) (w : World) (x : Input) (fuel : ℕ) (n : M) (i : Index) (v : Val) (k : ℕ) → den view w x fuel n i ≡ Some v → count_of v ≡ Some k → k < fuel
counted view w x fuel n i (val.Count j) k e c = count_low view w x fuel n i k (e ∙ ap (λ (q : ℕ). Some (val.Count q)) (let z : j ≡ k = cc in z))
counted view w x fuel n i v k e c = absurd (cc)

module _ (r : Result Val Stop) (s : Setting) (fuel d : ℕ) where
  theta_later : (a b : ℕ) (i : Index) (k n : ℕ) → k ≡ n → k ≢ 0 → Gives r (value_of s fuel b (at_depth i d (k - 1))) → Gives r (by_iteration (value_of s fuel) d a b i n)
  theta_later a b i zero n e some h = absurd (some refl)
  theta_later a b i (suc k) n e some h =
      let less : suc k - 1 ≡ k = omega arith in
      subst (λ (m : ℕ). Gives r (by_iteration (value_of s fuel) d a b i m)) e (subst (λ (m : ℕ). Gives r (value_of s fuel b (at_depth i d m))) less h)

  pub theta_gives : (ks : List ℕ) (i j : Index) (k : ℕ) → 2 ≤ length ks → length ks < 3 → k ≡ i d → k ≢ 0 → j ≡ at_depth i d (k - 1) → Gives r (value_of s fuel (get_or ks 1 0) j)
      → Gives r (over_kids s fuel (op.Theta d) ks i)
  theta_gives (a ∷ b ∷ []) i j k low high e some there h = theta_later a b i k (i d) e some (subst (λ (q : Index). Gives r (value_of s fuel b q)) there h)
  theta_gives [] i j k low high e some there h = absurd (omega arith)
  theta_gives (a ∷ []) i j k low high e some there h = absurd (omega arith)
  theta_gives (a ∷ b ∷ y ∷ ks) i j k low high e some there h = absurd (omega arith)

  pub eval_gives : (ks : List ℕ) (i j : Index) (v : Val) (k : ℕ) → 2 ≤ length ks → length ks < 3 → value_of s fuel (get_or ks 1 0) i ≡ Some v → count_of v ≡ Some k → j ≡ at_depth i d k
      → Gives r (value_of s fuel (get_or ks 0 0) j) → Gives r (over_kids s fuel (op.Eval d) ks i)
  eval_gives (a ∷ p ∷ []) i j v k low high e c there h = rw (e, c) (subst (λ (q : Index). Gives r (value_of s fuel a q)) there h)
  eval_gives [] i j v k low high e c there h = absurd (omega arith)
  eval_gives (a ∷ []) i j v k low high e c there h = absurd (omega arith)
  eval_gives (a ∷ b ∷ y ∷ ks) i j v k low high e c there h = absurd (omega arith)

  pub shift_gives : (ks : List ℕ) (i j : Index) (k : ℕ) → 1 ≤ length ks → length ks < 2 → k ≡ i d → j ≡ at_depth i d (k + 1) → Gives r (value_of s fuel (get_or ks 0 0) j) → Gives r (over_kids s fuel (op.Shift d) ks i)
  shift_gives (a ∷ []) i j k low high e there h =
      let next : k + 1 ≡ suc (i d) = omega (arith, e) in
      subst (λ (q : Index). Gives r (value_of s fuel a q)) (there ∙ ap (λ (m : ℕ). at_depth i d m) next) h
  shift_gives [] i j k low high e there h = absurd (omega arith)
  shift_gives (a ∷ b ∷ ks) i j k low high e there h = absurd (omega arith)

-- ---- a pass

module _ (s : Setting) (d c : ℕ) (i : Index) where
  -- the looks from iteration k on, where that one has this much fuel left
  abbrev pub Looks : ℕ → ℕ → Option Val
  Looks left k = looks (form_at s.graph.now.nodes) s.world.now s.input.now (suc left) d c i k

  tested : (left k : ℕ) → Looks left k ≡ bind (value_of s left c (at_depth i d k)) (λ v. bind (truth v) (λ t. looked k t (looks (form_at s.graph.now.nodes) s.world.now s.input.now left d c i)))
  unfolding den
  tested left k = refl

  tested_at : (left k : ℕ) (j : Index) (o : Option Val) → j ≡ at_depth i d k → value_of s left c j ≡ o
      → Looks left k ≡ bind o (λ v. bind (truth v) (λ t. looked k t (looks (form_at s.graph.now.nodes) s.world.now s.input.now left d c i)))
  tested_at left k j o there e =
      let here : value_of s left c (at_depth i d k) ≡ o = subst (λ (q : Index). value_of s left c q ≡ o) there e in
      tested left k ∙ ap (λ (q : Option Val). bind q (λ v. bind (truth v) (λ t. looked k t (looks (form_at s.graph.now.nodes) s.world.now s.input.now left d c i)))) here

  pub look_yes : (left k : ℕ) (j : Index) (v : Val) → j ≡ at_depth i d k → value_of s left c j ≡ Some v → truth v ≡ Some true → Looks left k ≡ Some (val.Count k)
  look_yes left k j v there e t = tested_at left k j (Some v) there e ∙ rw t refl

  look_no : (left k : ℕ) (j : Index) (v : Val) → j ≡ at_depth i d k → value_of s left c j ≡ Some v → truth v ≡ Some false → Looks left k ≡ looks (form_at s.graph.now.nodes) s.world.now s.input.now left d c i (suc k)
  look_no left k j v there e t = tested_at left k j (Some v) there e ∙ rw t refl

  pub look_next : (fuel k : ℕ) (j : Index) (v : Val) → k < fuel → j ≡ at_depth i d k → value_of s (fuel - k) c j ≡ Some v → truth v ≡ Some false → Looks (fuel - k) k ≡ Looks (fuel - (k + 1)) (k + 1)
  look_next fuel k j v lt there e t =
      let less : fuel - k ≡ suc (fuel - (k + 1)) = omega arith in
      let next : suc k ≡ k + 1 = omega arith in
      look_no (fuel - k) k j v there e t ∙ ap (λ (m : ℕ). looks (form_at s.graph.now.nodes) s.world.now s.input.now m d c i (suc k)) less ∙ ap (λ (m : ℕ). Looks (fuel - (k + 1)) m) next

  pub look_stops : (left k : ℕ) (j : Index) (e : Stop) → j ≡ at_depth i d k → Stops e (value_of s left c j) → Stops e (Looks left k)
  look_stops left k j Memory there h = tt
  look_stops left k j NoValue there h = tested_at left k j None there h

  pub truth_stops : (left k : ℕ) (j : Index) (v : Val) (e : Stop) → j ≡ at_depth i d k → value_of s left c j ≡ Some v → Stops e (truth v) → Stops e (Looks left k)
  truth_stops left k j v Memory there e h = tt
  truth_stops left k j v NoValue there e h = tested_at left k j (Some v) there e ∙ rw h refl

  pub look_none : (left k : ℕ) → left ≡ 0 → Looks left k ≡ None
  unfolding den
  look_none left k e = ap (λ (m : ℕ). looks (form_at s.graph.now.nodes) s.world.now s.input.now (suc m) d c i k) e

pub pass_looks : (s : Setting) (fuel d : ℕ) (ks : List ℕ) (i : Index) → 1 ≤ length ks → length ks < 2 → over_kids s fuel (op.Pass d) ks i ≡ Looks s d (get_or ks 0 0) i (fuel - 0) 0
unfolding den
pass_looks s fuel d (c ∷ []) i low high = let same : fuel ≡ fuel - 0 = omega arith in ap (λ (m : ℕ). Looks s d c i m 0) same
pass_looks s fuel d [] i low high = absurd (omega arith)
pass_looks s fuel d (c ∷ b ∷ ks) i low high = absurd (omega arith)
