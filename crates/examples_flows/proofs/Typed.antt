-- Whether the slots of a small flow have the right sorts, computed by the checker; then what unfolds as its root has the values with
-- which its runs end.
use Rattle.std.proofs.Common.{◌≡◌, ◌≢◌, ℕ, zero, suc, ◌<◌, ℤ, pos, Bool, true, false, not, ◌&&◌, ◌||◌, List, [], ◌∷◌, length, Option, Some, None, ◌⊎◌, inl, inr, ⊎_elim, refl, sym, ap, ◌∙◌, subst, ◌↔◌, nat_le, slice_get}
use Rattle.std.specs.Ordering.{int_eq}
use Rattle.pv_value.specs.Spelled.{bind}
use Rattle.pv_value.specs.declared.world.World.{World}
use Rattle.pv_value.specs.declared.heap.Heap.{Heap}
use Rattle.pv_value.specs.declared.number.Num.{Num}
use Rattle.pv_value.specs.declared.number.Num.TheVariants as num
use Rattle.pv_value.specs.declared.operation.ScalarOp.{ScalarOp}
use Rattle.pv_value.specs.declared.operation.ScalarOp.TheVariants.{Iadd, Ilt}
use Rattle.pv_value.specs.declared.outcome.Input.{Input}
use Rattle.pv_value.specs.declared.outcome.Fault.{Fault}
use Rattle.pv_value.specs.declared.outcome.Fault.TheVariants as fault
use Rattle.pv_value.specs.declared.outcome.Outcome.{Outcome}
use Rattle.pv_value.specs.declared.outcome.Outcome.TheVariants.{Returned, Threw}
use Rattle.pv_value.specs.declared.outcome.Val.{Val}
use Rattle.pv_value.specs.declared.outcome.Val.TheVariants as vals
use Rattle.pv_value.specs.Operations.{scalar_of}
use Rattle.pv_graph.specs.declared.node.Op.{Op}
use Rattle.pv_graph.specs.declared.node.Op.TheVariants as op
use Rattle.pv_graph.specs.declared.node.OpSort.TheVariants as sort
use Rattle.pv_denote.specs.Denote.{strict, truth, result_of, number_of}
use Rattle.pv_equations.specs.Flow.{Part, Parts, Slot, Of, NoPart, More, Kind, Return, Throw, Dest, To, End, Exit, InChain, Flow, call_token}
use Rattle.pv_conversion.specs.Runs.{PartIs, PartsAre, Chooses, Steps, Starts, Runnable}
use Rattle.pv_denote.specs.Denote.{Index}
use Rattle.pv_denote.specs.Meaning.{Value}
use Rattle.pv_graph.specs.Graphs.{Graph, form_at}
use Rattle.pv_graph.specs.Unfold.{UnfoldsAs}
use Rattle.pv_equations.specs.Exp.{Exp}
use Rattle.pv_equations.specs.Equations.{Values, form_of, AreEquations}
use Rattle.pv_equations.specs.Root.{root_of}
use Rattle.pv_conversion.specs.Outcomes.{IsOutcome, EndsWith, Finishes}
use Rattle.pv_conversion.proofs.Cited.{graph_blocks, chooses_in}
use Rattle.examples_flows.proofs.Tests.{and_parts, or_parts}
use Rattle.examples_flows.proofs.Flows.{Block, Way, Ways, Go, If, exit_of, chain_of, slots_of, block_at, flow_of}
use Rattle.examples_flows.proofs.Shapes.{all_below, below_true, all_ways, ways_true, is_slot, slot_true, less_true, rank_at, is_shaped, shaped, shape_is, below_top, deep}

-- ---- sorts of values

pub data Sort : Type 0 where
  a_unit : Sort
  an_int : Sort
  a_clear : Sort
  a_fault : Sort
  a_heap : Sort

abbrev pub Has : Sort → Val → Type 0
Has a_unit v = v ≡ vals.Unit
Has an_int v = (n : ℤ) × (v ≡ vals.Num (num.Int n))
Has a_clear v = v ≡ vals.Fault fault.Clear
Has a_fault v = (e : Fault) × (v ≡ vals.Fault e) × (e ≢ fault.Clear)
Has a_heap v = (m : Heap) × (v ≡ vals.Heap m)

abbrev AllHave : List Sort → List Val → Type 0
AllHave [] [] = Unit {0}
AllHave (t ∷ ts) (v ∷ vs) = Has t v × AllHave ts vs
AllHave ts vs = ⊥

abbrev same_sort : Sort → Sort → Bool
same_sort a_unit a_unit = true
same_sort an_int an_int = true
same_sort a_clear a_clear = true
same_sort a_fault a_fault = true
same_sort a_heap a_heap = true
same_sort s t = false

same_sort_true : (s t : Sort) → same_sort s t ≡ true → s ≡ t
same_sort_true a_unit a_unit e = refl
same_sort_true an_int an_int e = refl
same_sort_true a_clear a_clear e = refl
same_sort_true a_fault a_fault e = refl
same_sort_true a_heap a_heap e = refl
same_sort_true s t e = absurd (cc)

abbrev is_sort : Sort → Option Sort → Bool
is_sort t None = false
is_sort t (Some s) = same_sort s t

is_sort_true : (t : Sort) (o : Option Sort) → is_sort t o ≡ true → o ≡ Some t
is_sort_true t None e = absurd (cc)
is_sort_true t (Some s) e = ap Some (same_sort_true s t e)

abbrev has_sort : Option Sort → Bool
has_sort None = false
has_sort (Some s) = true

has_sort_true : (o : Option Sort) → has_sort o ≡ true → (t : Sort) × (o ≡ Some t)
has_sort_true None e = absurd (cc)
has_sort_true (Some s) e = (s, refl)

-- the sorts of some slots; the others are unit
abbrev pub sort_at : List Sort → ℕ → Sort
sort_at [] s = a_unit
sort_at (t ∷ ts) zero = t
sort_at (t ∷ ts) (suc s) = sort_at ts s

abbrev pub Holds : List Sort → (ℕ → Val) → Type 0
Holds ts σ = (s : ℕ) → Has (sort_at ts s) (σ s)

-- ---- sorts of parts

abbrev on_ints : ScalarOp → Bool
on_ints Iadd = true
on_ints Ilt = true
on_ints o = false

abbrev op_sort : Op → List Sort → Option Sort
op_sort op.Unit [] = Some a_unit
op_sort op.Clear [] = Some a_clear
op_sort op.FNull [] = Some a_fault
op_sort (op.Int c) [] = Some an_int
op_sort (op.Scalar Iadd) (an_int ∷ an_int ∷ []) = Some an_int
op_sort (op.Scalar Ilt) (an_int ∷ an_int ∷ []) = Some an_int
op_sort o ts = None

abbrev mutual
  pub part_sort : List Sort → Part → Option Sort
  part_sort env (Slot s) = Some (sort_at env s)
  part_sort env (Of o p ps) = bind (part_sorts env ps) (op_sort o)

  pub part_sorts : List Sort → Parts → Option (List Sort)
  part_sorts env NoPart = Some []
  part_sorts env (More p ps) = bind (part_sort env p) (λ t. bind (part_sorts env ps) (λ ts. Some (t ∷ ts)))

some_same : {A : Type 0} (a b : A) → Some a ≡ Some b → a ≡ b
some_same a b e = cc

module _ (w : World) (x : Input) where
  op_has : (o : Op) (ts : List Sort) (t : Sort) (vs : List Val) → op_sort o ts ≡ Some t → AllHave ts vs → (v : Val) × (strict w x o vs ≡ Some v) × Has t v
  unfolding strict
  op_has op.Unit [] t [] e h = (vals.Unit, refl, subst (λ (t : Sort). Has t vals.Unit) (some_same a_unit t e) refl)
  op_has op.Clear [] t [] e h = (vals.Fault fault.Clear, refl, subst (λ (t : Sort). Has t (vals.Fault fault.Clear)) (some_same a_clear t e) refl)
  op_has op.FNull [] t [] e h = (vals.Fault fault.Null, refl, subst (λ (t : Sort). Has t (vals.Fault fault.Null)) (some_same a_fault t e) (fault.Null, refl, (λ z. absurd (cc))))
  op_has (op.Int c) [] t [] e h = (vals.Num (num.Int c), refl, subst (λ (t : Sort). Has t (vals.Num (num.Int c))) (some_same an_int t e) (c, refl))
  op_has (op.Scalar Iadd) (an_int ∷ an_int ∷ []) t (u ∷ v ∷ []) e h =
      let r = vals.Num (num.Int (scalar_of Iadd h.0.0 h.1.0.0)) in
      (r, rw (h.0.1, h.1.0.1) refl, subst (λ (t : Sort). Has t r) (some_same an_int t e) (scalar_of Iadd h.0.0 h.1.0.0, refl))
  op_has (op.Scalar Ilt) (an_int ∷ an_int ∷ []) t (u ∷ v ∷ []) e h =
      let r = vals.Num (num.Int (scalar_of Ilt h.0.0 h.1.0.0)) in
      (r, rw (h.0.1, h.1.0.1) refl, subst (λ (t : Sort). Has t r) (some_same an_int t e) (scalar_of Ilt h.0.0 h.1.0.0, refl))
  op_has o [] t (v ∷ vs) e h = absurd h
  op_has o (s ∷ ts) t [] e h = absurd h
  op_has o (s ∷ []) t (v ∷ u ∷ vs) e h = absurd h.1
  op_has o (s ∷ s' ∷ ts) t (v ∷ []) e h = absurd h.1
  op_has o (s ∷ s' ∷ []) t (v ∷ u ∷ z ∷ vs) e h = absurd h.1.1
  op_has o ts t vs e h = absurd (cc)

  -- a part with a sort has a value of it
  mutual
    part_has : (env : List Sort) (σ : ℕ → Val) → Holds env σ → (p : Part) (t : Sort) → part_sort env p ≡ Some t → (v : Val) × PartIs w x σ p v × Has t v
    part_has env σ h (Slot s) t e = (σ s, refl, subst (λ (t : Sort). Has t (σ s)) (some_same (sort_at env s) t e) (h s))
    part_has env σ h (Of o p ps) t e = go (part_sorts env ps) e (λ ts q. parts_have env σ h ps ts q) refl
      where
        go : (r : Option (List Sort)) → bind r (op_sort o) ≡ Some t → ((ts : List Sort) → part_sorts env ps ≡ Some ts → (vs : List Val) × PartsAre w x σ ps vs × AllHave ts vs) → part_sorts env ps ≡ r → (v : Val) × PartIs w x σ (Of o p ps) v × Has t v
        go None e rec q = absurd (cc)
        go (Some ts) e rec q =
            let r = rec ts q in
            let v = op_has o ts t r.0 e r.2 in
            (v.0, (r.0, r.1, v.1), v.2)

    parts_have : (env : List Sort) (σ : ℕ → Val) → Holds env σ → (ps : Parts) (ts : List Sort) → part_sorts env ps ≡ Some ts → (vs : List Val) × PartsAre w x σ ps vs × AllHave ts vs
    parts_have env σ h NoPart ts e = ([], refl, subst (λ (ts : List Sort). AllHave ts []) (some_same [] ts e) tt)
    parts_have env σ h (More p ps) ts e = go (part_sort env p) (part_sorts env ps) e (λ t q. part_has env σ h p t q) (λ ts q. parts_have env σ h ps ts q) refl refl
      where
        go : (a : Option Sort) (b : Option (List Sort)) → bind a (λ t. bind b (λ ts. Some (t ∷ ts))) ≡ Some ts → ((t : Sort) → part_sort env p ≡ Some t → (v : Val) × PartIs w x σ p v × Has t v)
            → ((ts : List Sort) → part_sorts env ps ≡ Some ts → (vs : List Val) × PartsAre w x σ ps vs × AllHave ts vs) → part_sort env p ≡ a → part_sorts env ps ≡ b → (vs : List Val) × PartsAre w x σ (More p ps) vs × AllHave ts vs
        go None b e one rest qa qb = absurd (cc)
        go (Some t) None e one rest qa qb = absurd (cc)
        go (Some t) (Some us) e one rest qa qb =
            let u = one t qa in
            let r = rest us qb in
            (u.0 ∷ r.0, (u.0, r.0, u.1, r.1, refl), subst (λ (ts : List Sort). AllHave ts (u.0 ∷ r.0)) (some_same (t ∷ us) ts e) (u.2, r.2))

  -- and only that one
  mutual
    pub part_once : (σ : ℕ → Val) (p : Part) (u v : Val) → PartIs w x σ p u → PartIs w x σ p v → u ≡ v
    part_once σ (Slot s) u v a b = sym a ∙ b
    part_once σ (Of o p ps) u v a b = some_same u v (sym a.2 ∙ ap (λ (vs : List Val). strict w x o vs) (parts_once σ ps a.0 b.0 a.1 b.1) ∙ b.2)

    parts_once : (σ : ℕ → Val) (ps : Parts) (us vs : List Val) → PartsAre w x σ ps us → PartsAre w x σ ps vs → us ≡ vs
    parts_once σ NoPart us vs a b = a ∙ sym b
    parts_once σ (More p ps) us vs a b =
        a.4 ∙ ap (λ (v : Val). v ∷ a.1) (part_once σ p a.0 b.0 a.2 b.2) ∙ ap (λ (vs : List Val). b.0 ∷ vs) (parts_once σ ps a.1 b.1 a.3 b.3) ∙ sym b.4

  sorted : (env : List Sort) (σ : ℕ → Val) → Holds env σ → (p : Part) (t : Sort) → part_sort env p ≡ Some t → (v : Val) → PartIs w x σ p v → Has t v
  sorted env σ h p t e v a = let r = part_has env σ h p t e in subst (Has t) (part_once σ p r.0 v r.1 a) r.2

  -- ---- tests and exits

  abbrev tests_typed : List Sort → Ways → Bool
  tests_typed env (Go u) = true
  tests_typed env (If t u us) = is_sort an_int (part_sort env t) && tests_typed env us

  chosen : (env : List Sort) (σ : ℕ → Val) → Holds env σ → (us : Ways) → tests_typed env us ≡ true → (e : Exit) × Chooses w x σ (chain_of us) e
  chosen env σ h (Go u) q = (exit_of u, refl)
  chosen env σ h (If t u us) q = go (part_has env σ h t an_int (is_sort_true an_int (part_sort env t) p.0)) (chosen env σ h us p.1)
    where
      p : (is_sort an_int (part_sort env t) ≡ true) × (tests_typed env us ≡ true)
      p = and_parts _ _ q

      side : (n : ℤ) (v : Val) → v ≡ vals.Num (num.Int n) → PartIs w x σ t v → (b : Bool) → not (int_eq n (pos 0)) ≡ b → (e : Exit) × Chooses w x σ (chain_of us) e → (e : Exit) × Chooses w x σ (chain_of (If t u us)) e
      side n v is a true z rest = (exit_of u, (v, a, inl (ap truth is ∙ ap Some z, refl)))
      side n v is a false z rest = (rest.0, (v, a, inr (ap truth is ∙ ap Some z, rest.1)))

      go : (v : Val) × PartIs w x σ t v × Has an_int v → (e : Exit) × Chooses w x σ (chain_of us) e → (e : Exit) × Chooses w x σ (chain_of (If t u us)) e
      go r rest = side r.2.0 r.0 r.2.1 r.1 (not (int_eq r.2.0 (pos 0))) refl rest

  abbrev all_typed : List Sort → List Part → Bool
  all_typed env [] = true
  all_typed env (p ∷ ps) = has_sort (part_sort env p) && all_typed env ps

  typed_at : (env : List Sort) (ps : List Part) → all_typed env ps ≡ true → (s : ℕ) → (t : Sort) × (part_sort env (slots_of ps s) ≡ Some t)
  typed_at env [] q s = (a_unit, refl)
  typed_at env (p ∷ ps) q zero = has_sort_true (part_sort env p) (and_parts _ (all_typed env ps) q).0
  typed_at env (p ∷ ps) q (suc s) = typed_at env ps (and_parts (has_sort (part_sort env p)) (all_typed env ps) q).1 s

  -- the parts have the sorts that are wanted
  abbrev match_sorts : List Sort → List Part → List Sort → Bool
  match_sorts env [] [] = true
  match_sorts env (p ∷ ps) (t ∷ ts) = is_sort t (part_sort env p) && match_sorts env ps ts
  match_sorts env [] (t ∷ ts) = same_sort a_unit t && match_sorts env [] ts
  match_sorts env (p ∷ ps) [] = is_sort a_unit (part_sort env p) && match_sorts env ps []

  match_true : (env : List Sort) (ps : List Part) (ts : List Sort) → match_sorts env ps ts ≡ true → (s : ℕ) → part_sort env (slots_of ps s) ≡ Some (sort_at ts s)
  match_true env [] [] q s = refl
  match_true env (p ∷ ps) (t ∷ ts) q zero = is_sort_true t (part_sort env p) (and_parts _ (match_sorts env ps ts) q).0
  match_true env (p ∷ ps) (t ∷ ts) q (suc s) = match_true env ps ts (and_parts (is_sort t (part_sort env p)) (match_sorts env ps ts) q).1 s
  match_true env [] (t ∷ ts) q zero = ap Some (same_sort_true a_unit t (and_parts _ (match_sorts env [] ts) q).0)
  match_true env [] (t ∷ ts) q (suc s) = match_true env [] ts (and_parts (same_sort a_unit t) (match_sorts env [] ts) q).1 s
  match_true env (p ∷ ps) [] q zero = is_sort_true a_unit (part_sort env p) (and_parts _ (match_sorts env ps []) q).0
  match_true env (p ∷ ps) [] q (suc s) = match_true env ps [] (and_parts (is_sort a_unit (part_sort env p)) (match_sorts env ps []) q).1 s

  module _ (blocks : List Block) (types : List (List Sort)) where
    abbrev env_at : List (List Sort) → ℕ → List Sort
    env_at [] b = []
    env_at (ts ∷ tss) zero = ts
    env_at (ts ∷ tss) (suc b) = env_at tss b

    -- where an exit goes its parts have the sorts that are wanted there
    abbrev arrives : List Sort → Dest → List Part → Bool
    arrives env (To m) ps = nat_le (suc m) (length blocks) && match_sorts env ps (env_at types m)
    arrives env (End Return) ps = is_sort a_clear (part_sort env (slots_of ps 1)) && ((is_sort an_int (part_sort env (slots_of ps 2)) || is_sort a_unit (part_sort env (slots_of ps 2))) && is_sort a_heap (part_sort env (slots_of ps 3)))
    arrives env (End Throw) ps = is_sort a_fault (part_sort env (slots_of ps 1)) && is_sort a_heap (part_sort env (slots_of ps 3))

    abbrev way_typed : List Sort → Way → Bool
    way_typed env u = is_slot 0 (slots_of u.parts 0) && (all_typed env u.parts && arrives env u.dest u.parts)

    abbrev block_typed : ℕ → Bool
    block_typed b = tests_typed (env_at types b) (block_at blocks b).ways && all_ways (way_typed (env_at types b)) (block_at blocks b).ways

    abbrev pub is_typed : Bool
    is_typed = all_below (length blocks) block_typed

    -- the states of the right sorts
    abbrev pub Sorted : ℕ → (ℕ → Val) → Type 0
    Sorted b σ = (b < length blocks) × Holds (env_at types b) σ

    module _ (typed : is_typed ≡ true) where
      parts_at : (b : ℕ) → b < length blocks → (tests_typed (env_at types b) (block_at blocks b).ways ≡ true) × (all_ways (way_typed (env_at types b)) (block_at blocks b).ways ≡ true)
      parts_at b l = and_parts _ _ (below_true (length blocks) block_typed b typed l)

      -- what is known of an exit
      abbrev Known : ℕ → Exit → Type 0
      Known b e = (u : Way) × (exit_of u ≡ e) × (is_slot 0 (slots_of u.parts 0) ≡ true) × (all_typed (env_at types b) u.parts ≡ true) × (arrives (env_at types b) u.dest u.parts ≡ true)

      known : (b : ℕ) (e : Exit) → b < length blocks → InChain (chain_of (block_at blocks b).ways) e → Known b e
      known b e l i =
          let r = ways_true (way_typed (env_at types b)) (block_at blocks b).ways e (parts_at b l).1 i in
          let p = and_parts (is_slot 0 (slots_of r.0.parts 0)) _ r.2 in
          let q = and_parts (all_typed (env_at types b) r.0.parts) _ p.1 in
          (r.0, r.1, p.0, q.0, q.1)

      abbrev IsSlot : Part → Type 0
      IsSlot (Slot s) = Unit {0}
      IsSlot (Of o p ps) = ⊥

      abbrev F : Flow
      F = flow_of blocks

      no_call : (b : ℕ) (e : Exit) (s : _) (ps : Parts) → Known b e → e.slots 0 ≡ call_token s ps → ⊥
      no_call b e s ps k z =
          let same : Slot 0 ≡ call_token s ps = sym (slot_true 0 (slots_of k.0.parts 0) k.2) ∙ ap (λ (e : Exit). e.slots 0) k.1 ∙ z in
          subst IsSlot same tt

      moves : (b : ℕ) (σ : ℕ → Val) → Sorted b σ → (d : Exit) × (τ : ℕ → Val) × Steps w x F b σ d τ
      moves b σ st =
          let c = chosen (env_at types b) σ st.1 (block_at blocks b).ways (parts_at b st.0).0 in
          let k = known b c.0 st.0 (chooses_in w x σ (chain_of (block_at blocks b).ways) c.0 c.1) in
          let slot = λ (s : ℕ). typed_at (env_at types b) k.0.parts k.3 s in
          let value = λ (s : ℕ). part_has (env_at types b) σ st.1 (slots_of k.0.parts s) (slot s).0 (slot s).1 in
          (c.0, (λ s. (value s).0), (c.1, λ s. subst (λ (e : Exit). PartIs w x σ (e.slots s) (value s).0) k.1 (value s).1))

      -- a part of an exit, as it is known
      part_at : (b : ℕ) (σ τ : ℕ → Val) (e : Exit) (k : Known b e) → Holds (env_at types b) σ → ((s : ℕ) → PartIs w x σ (e.slots s) (τ s)) → (s : ℕ) (t : Sort) → part_sort (env_at types b) (slots_of k.0.parts s) ≡ Some t → Has t (τ s)
      part_at b σ τ e k h st s t q = sorted (env_at types b) σ h (slots_of k.0.parts s) t q (τ s) (subst (λ (e : Exit). PartIs w x σ (e.slots s) (τ s)) (sym k.1) (st s))

      stays : (b m : ℕ) (σ τ : ℕ → Val) (e : Exit) → Sorted b σ → Steps w x F b σ e τ → e.dest ≡ To m → Sorted m τ
      stays b m σ τ e st step d =
          let k = known b e st.0 (chooses_in w x σ (chain_of (block_at blocks b).ways) e step.0) in
          let p = and_parts (nat_le (suc m) (length blocks)) _ (subst (λ (d : Dest). arrives (env_at types b) d k.0.parts ≡ true) (ap (λ (e : Exit). e.dest) k.1 ∙ d) k.4) in
          (less_true m (length blocks) p.0, λ s. part_at b σ τ e k st.1 step.1 s (sort_at (env_at types m) s) (match_true (env_at types b) k.0.parts (env_at types m) p.1 s))

      runnable : Runnable w x F Sorted
      runnable = record {
        args = λ b σ e s ps st i z. absurd (no_call b e s ps (known b e st.0 i) z);
        moves = λ b σ st. inl (moves b σ st);
        stays = stays;
      }

      -- the outcome of slots of these sorts
      return_of : (τ : ℕ → Val) → Has a_clear (τ 1) → Has an_int (τ 2) ⊎ Has a_unit (τ 2) → Has a_heap (τ 3) → (o : Outcome) × IsOutcome Return τ o
      return_of τ c (inl r) h = (Returned (Some (num.Int r.0)) h.0, (h.0, Some (num.Int r.0), c, h.1, ap result_of r.1, refl))
      return_of τ c (inr r) h = (Returned None h.0, (h.0, None, c, h.1, ap result_of r, refl))

      throw_of : (τ : ℕ → Val) → Has a_fault (τ 1) → Has a_heap (τ 3) → (o : Outcome) × IsOutcome Throw τ o
      throw_of τ c h = (Threw c.0 h.0, (c.0, h.0, c.2, c.1, h.1, refl))

      ended : (b : ℕ) (σ τ : ℕ → Val) (e : Exit) (k : Known b e) → Holds (env_at types b) σ → ((s : ℕ) → PartIs w x σ (e.slots s) (τ s)) → (z : Kind) → arrives (env_at types b) (End z) k.0.parts ≡ true → (o : Outcome) × IsOutcome z τ o
      ended b σ τ e k h st Return q =
          let p = and_parts (is_sort a_clear (part_sort (env_at types b) (slots_of k.0.parts 1))) _ q in
          let r = and_parts (is_sort an_int (part_sort (env_at types b) (slots_of k.0.parts 2)) || is_sort a_unit (part_sort (env_at types b) (slots_of k.0.parts 2))) _ p.1 in
          return_of τ (part_at b σ τ e k h st 1 a_clear (is_sort_true a_clear _ p.0))
          (⊎_elim (λ y. inl (part_at b σ τ e k h st 2 an_int (is_sort_true an_int _ y))) (λ y. inr (part_at b σ τ e k h st 2 a_unit (is_sort_true a_unit _ y))) (or_parts _ _ r.0))
          (part_at b σ τ e k h st 3 a_heap (is_sort_true a_heap _ r.1))
      ended b σ τ e k h st Throw q =
          let p = and_parts (is_sort a_fault (part_sort (env_at types b) (slots_of k.0.parts 1))) _ q in
          throw_of τ (part_at b σ τ e k h st 1 a_fault (is_sort_true a_fault _ p.0)) (part_at b σ τ e k h st 3 a_heap (is_sort_true a_heap _ p.1))

      finishes : Finishes w x F Sorted
      finishes = record { outcome = outcome }
        where
          outcome : (b : ℕ) (σ τ : ℕ → Val) (e : Exit) (z : Kind) → Sorted b σ → Steps w x F b σ e τ → e.dest ≡ End z → (o : Outcome) × IsOutcome z τ o
          outcome b σ τ e z st step d =
              let k = known b e st.0 (chooses_in w x σ (chain_of (block_at blocks b).ways) e step.0) in
              ended b σ τ e k st.1 step.1 z (subst (λ (d : Dest). arrives (env_at types b) d k.0.parts ≡ true) (ap (λ (e : Exit). e.dest) k.1 ∙ d) k.4)

      -- what unfolds as the root of a flow of the right shape and sorts has the values with which runs end
      pub typed_law : (ranks : List ℕ) (slots top deepest : ℕ) → is_shaped blocks ranks slots top deepest ≡ true → (g : Graph) (v : Values) → AreEquations F v → (d : Exp) (r : ℕ) → UnfoldsAs (form_at g.nodes) (form_of F v) r (root_of F v d)
          → (σ : ℕ → Val) → Starts w x F σ → Sorted 0 σ → (i : Index) (o : Outcome) → Value g w x r i (vals.End o) ↔ EndsWith w x F 0 σ o
      typed_law ranks slots top deepest shape g v eqs d r unfolds σ starts st i o =
          let s = shaped blocks ranks slots top deepest shape in
          graph_blocks g w x F v (rank_at ranks) (shape_is blocks ranks slots top deepest s) top (below_top blocks ranks slots top deepest s) deepest (deep blocks ranks slots top deepest s) eqs Sorted runnable finishes d r unfolds σ starts st i o

-- the sorts of the slots at the entry: two ints
abbrev pub start_sorts : List Sort
start_sorts = a_unit ∷ a_clear ∷ a_unit ∷ a_heap ∷ an_int ∷ an_int ∷ []

module _ (w : World) (x : Input) where
  an_argument : (n : Option Num) → (k : ℤ) × (number_of sort.I n ≡ num.Int k)
  an_argument None = (pos 0, refl)
  an_argument (Some (num.Int k)) = (k, refl)
  an_argument (Some (num.Long k)) = (pos 0, refl)
  an_argument (Some (num.Ref r)) = (pos 0, refl)

  pub starts_hold : (blocks : List Block) (σ : ℕ → Val) → Starts w x (flow_of blocks) σ → Holds start_sorts σ
  unfolding strict
  starts_hold blocks σ st zero = some_same _ _ (sym (st 0))
  starts_hold blocks σ st (suc zero) = some_same _ _ (sym (st 1))
  starts_hold blocks σ st (suc (suc zero)) = some_same _ _ (sym (st 2))
  starts_hold blocks σ st (suc (suc (suc zero))) = (x.heap, some_same _ _ (sym (st 3)))
  starts_hold blocks σ st (suc (suc (suc (suc zero)))) = let a = an_argument (slice_get x.args 0) in (a.0, some_same _ _ (sym (st 4)) ∙ ap vals.Num a.1)
  starts_hold blocks σ st (suc (suc (suc (suc (suc zero))))) = let a = an_argument (slice_get x.args 1) in (a.0, some_same _ _ (sym (st 5)) ∙ ap vals.Num a.1)
  starts_hold blocks σ st (suc (suc (suc (suc (suc (suc s)))))) = some_same _ _ (sym (st (suc (suc (suc (suc (suc (suc s))))))))

-- THE LAW of a small flow that passes the tests: what unfolds as its root has the values with which its runs end
abbrev pub RootLaw : List Block → Type 0
RootLaw blocks = (w : World) (x : Input) (g : Graph) (v : Values) → AreEquations (flow_of blocks) v → (d : Exp) (r : ℕ) → UnfoldsAs (form_at g.nodes) (form_of (flow_of blocks) v) r (root_of (flow_of blocks) v d)
    → (σ : ℕ → Val) → Starts w x (flow_of blocks) σ → (i : Index) (o : Outcome) → Value g w x r i (vals.End o) ↔ EndsWith w x (flow_of blocks) 0 σ o

pub root_law : (blocks : List Block) (ranks : List ℕ) (slots top deepest : ℕ) (types : List (List Sort)) → is_shaped blocks ranks slots top deepest ≡ true → ((w : World) (x : Input) → is_typed w x blocks (start_sorts ∷ types) ≡ true) → RootLaw blocks
root_law blocks ranks slots top deepest types shape typed w x g v eqs d r unfolds σ starts i o =
    typed_law w x blocks (start_sorts ∷ types) (typed w x) ranks slots top deepest shape g v eqs d r unfolds σ starts (less_true 0 (length blocks) (shaped blocks ranks slots top deepest shape).entry, starts_hold w x blocks σ starts) i o
