-- A graph in which a loop never ends, and what the axioms without their conditions say of it.
use Rattle.std.specs.Prelude.{◌≡◌, ℕ, zero, suc, ◌+◌, ◌<◌, ◌≤◌, ℤ, pos, Bool, true, false, List, [], ◌∷◌, Some, None, slice_get, refl, if◌then◌else◌}
use Rattle.std.specs.List.{AllByRecursion}
use Rattle.std.specs.FinMap.{empty, get-empty}
use Rattle.std.specs.FinSet as set
use Rattle.std.specs.Ordering.{nat_cmp}
use Rattle.pv_value.specs.Order.{name_cmp, loc_cmp}
use Rattle.pv_value.specs.CallOrder.{key_cmp}
use Rattle.std.proofs.Common.{inl, inr, sym, ap, ◌∙◌, subst, arith, lit<}
use Rattle.std.proofs.lemmas.Option.{same_Some}
use Rattle.pv_value.specs.Reading.{field_at}
use Rattle.pv_value.specs.Worlds.{empty_world, IsWorld}
use Rattle.pv_value.specs.Inputs.{IsInput}
use Rattle.pv_value.specs.declared.name.Sym.{Sym}
use Rattle.pv_value.specs.declared.heap.Kind.TheVariants as kind
use Rattle.pv_value.specs.declared.descriptor.JType.TheVariants as jtype
use Rattle.pv_value.specs.declared.operation.ScalarOp.TheVariants.{Imul}
use Rattle.pv_value.specs.declared.number.Num.TheVariants as num
use Rattle.pv_value.specs.declared.outcome.Input.{Input}
use Rattle.pv_value.specs.declared.outcome.Val.{Val}
use Rattle.pv_value.specs.declared.outcome.Val.TheVariants as val
use Rattle.pv_graph.specs.declared.node.Op.{Op}
use Rattle.pv_graph.specs.declared.node.Op.TheVariants as op
use Rattle.pv_graph.specs.declared.node.OpSort.{OpSort}
use Rattle.pv_graph.specs.declared.node.OpSort.TheVariants.{I, N, H}
use Rattle.pv_graph.specs.declared.node.Node.{Node}
use Rattle.pv_graph.specs.Ops.{plain, theta, shape, HasSort, may_not_end, is_variable}
use Rattle.pv_graph.specs.Forms.{form}
use Rattle.pv_denote.specs.Denote.{Index, outside, strict, truth, den, Value}
use Rattle.pv_graph.specs.Walks.{In, Free, here, below, open_kids, Reaches, itself, along, Move, Edge, Walk, stop, step, KeepsRule}
use Rattle.pv_graph.specs.Graphs.{Graph, form_at, IsRanged, IsGraph}
use Rattle.pv_denote.proofs.Cited.{value_once}
use Rattle.pv_graph.proofs.Cited.{node_at}
use Rattle.pv_pattern.specs.Instances.{Names, IsInstance}
use Rattle.pv_pattern.specs.Laws.{Setting, Law}
use Rattle.pv_pattern.proofs.Nodes.{plain_is, phi_is, eval_is, pass_is, const_has, zip_one, zip_two}
use Rattle.pv_pattern.specs.Conditions.{product_with_0, equal_sides, eval_not_settled, eval_of_free, shift_of_free, read_back, NoLaws}

abbrev symbol : Sym
symbol = record { class = []; name = []; desc = 73 ∷ [] }

abbrev node : Op → List ℕ → Node
node o ks = record { op = o; kids = ks }

-- 2 counts the iterations of a loop that never ends, so 3 and what needs it have no value
abbrev nodes : List Node
nodes =
    node (op.Int (pos 0)) []
    ∷ node (op.Int (pos 1)) []
    ∷ node (op.Pass 1) (0 ∷ [])
    ∷ node (op.Eval 1) (1 ∷ 2 ∷ [])
    ∷ node (op.Scalar Imul) (3 ∷ 0 ∷ [])
    ∷ node (op.Heap0) []
    ∷ node (op.Phi) (3 ∷ 5 ∷ 5 ∷ [])
    ∷ node (op.PutStatic symbol) (6 ∷ 1 ∷ [])
    ∷ node (op.GetStatic symbol) (7 ∷ [])
    ∷ node (op.Theta 1) (0 ∷ 1 ∷ [])
    ∷ node (op.Shift 1) (9 ∷ [])
    ∷ node (op.Phi) (3 ∷ 1 ∷ 1 ∷ [])
    ∷ node (op.Zero) []
    ∷ node (op.Eval 1) (9 ∷ 12 ∷ [])
    ∷ []

abbrev sorts : List OpSort
sorts = I ∷ I ∷ N ∷ I ∷ I ∷ H ∷ H ∷ H ∷ I ∷ I ∷ I ∷ I ∷ N ∷ I ∷ []

abbrev graph : Graph
graph = record { nodes = nodes; sorts = sorts; is_open = false; base = 0; is_prepared = false }

abbrev input : Input
input = record { this = 1; args = []; heap = empty }

-- ---- it is well made

abbrev Sorted : List Node → List OpSort → Type 0
Sorted [] [] = Unit {0}
Sorted (x ∷ xs) (s ∷ ss) = HasSort sorts x.op x.kids s × Sorted xs ss
Sorted xs ss = ⊥

sorted_at : (xs : List Node) (ss : List OpSort) → Sorted xs ss → (n : ℕ) (x : Node) (s : OpSort) → slice_get xs n ≡ Some x → slice_get ss n ≡ Some s → HasSort sorts x.op x.kids s
sorted_at [] ss h n x s e f = absurd (cc)
sorted_at (y ∷ xs) [] h n x s e f = absurd h
sorted_at (y ∷ xs) (t ∷ ss) h zero x s e f = subst (λ (q : Node). HasSort sorts q.op q.kids s) (same_Some y x e) (subst (λ (q : OpSort). HasSort sorts y.op y.kids q) (same_Some t s f) h.0)
sorted_at (y ∷ xs) (t ∷ ss) h (suc n) x s e f = sorted_at xs ss h.1 n x s e f

abbrev Low : ℕ → List Node → Type 0
Low j [] = Unit {0}
Low j (x ∷ xs) = (AllByRecursion (λ k. k < j) x.kids × IsRanged x.op) × Low (suc j) xs

all_in : (P : ℕ → Type 0) (ks : List ℕ) → AllByRecursion P ks → (k : ℕ) → In ks k → P k
all_in P [] h k m = absurd m
all_in P (l ∷ ks) h k (inl e) = subst P e h.0
all_in P (l ∷ ks) h k (inr m) = all_in P ks h.1 k m

low_at : (j : ℕ) (xs : List Node) → Low j xs → (n : ℕ) (x : Node) → slice_get xs n ≡ Some x → AllByRecursion (λ k. k < j + n) x.kids × IsRanged x.op
low_at j [] h n x e = absurd (cc)
low_at j (y ∷ xs) h zero x e = subst (λ (q : Node). AllByRecursion (λ k. k < j + 0) q.kids × IsRanged q.op) (same_Some y x e) (subst (λ (b : ℕ). AllByRecursion (λ k. k < b) y.kids) (omega arith) h.0.0, h.0.1)
low_at j (y ∷ xs) h (suc n) x e = let r = low_at (suc j) xs h.1 n x e in (subst (λ (b : ℕ). AllByRecursion (λ k. k < b) x.kids) (omega arith) r.0, r.1)

-- no variable is among them
abbrev is_without : List Node → Bool
is_without [] = true
is_without (x ∷ xs) = if is_variable x.op then false else is_without xs

first_without : (b c : Bool) → (if b then false else c) ≡ true → (b ≡ false) × (c ≡ true)
first_without true c e = absurd (cc)
first_without false c e = (refl, e)

without_at : (xs : List Node) → is_without xs ≡ true → (n : ℕ) (x : Node) → slice_get xs n ≡ Some x → is_variable x.op ≡ false
without_at [] h n x e = absurd (cc)
without_at (y ∷ xs) h zero x e = subst (λ (q : Node). is_variable q.op ≡ false) (same_Some y x e) (first_without (is_variable y.op) (is_without xs) h).0
without_at (y ∷ xs) h (suc n) x e = without_at xs (first_without (is_variable y.op) (is_without xs) h).1 n x e

all_sorted : Sorted nodes sorts
unfolding field_at
all_sorted = (
  record { sorts = []; kids_have = tt; over = refl },
  (
    record { sorts = []; kids_have = tt; over = refl },
    (
      record { sorts = (I ∷ []); kids_have = (refl, tt); over = refl },
      (
        record { sorts = (I ∷ N ∷ []); kids_have = (refl, (refl, tt)); over = refl },
        (
          record { sorts = (I ∷ I ∷ []); kids_have = (refl, (refl, tt)); over = refl },
          (
            record { sorts = []; kids_have = tt; over = refl },
            (
              record { sorts = (I ∷ H ∷ H ∷ []); kids_have = (refl, (refl, (refl, tt))); over = refl },
              (
                record { sorts = (H ∷ I ∷ []); kids_have = (refl, (refl, tt)); over = refl },
                (
                  record { sorts = (H ∷ []); kids_have = (refl, tt); over = refl },
                  (
                    record { sorts = (I ∷ I ∷ []); kids_have = (refl, (refl, tt)); over = refl },
                    (
                      record { sorts = (I ∷ []); kids_have = (refl, tt); over = refl },
                      (
                        record { sorts = (I ∷ I ∷ I ∷ []); kids_have = (refl, (refl, (refl, tt))); over = refl },
                        (
                          record { sorts = []; kids_have = tt; over = refl },
                          (
                            record { sorts = (I ∷ N ∷ []); kids_have = (refl, (refl, tt)); over = refl },
                            tt,
                          ),
                        ),
                      ),
                    ),
                  ),
                ),
              ),
            ),
          ),
        ),
      ),
    ),
  ),
)

all_low : Low 0 nodes
all_low = (
  (tt, record { sfits = lit< tt }),
  (
    (tt, record { sfits = lit< tt }),
    (
      ((lit< tt, tt), tt),
      (
        ((lit< tt, (lit< tt, tt)), tt),
        (
          ((lit< tt, (lit< tt, tt)), tt),
          (
            (tt, tt),
            (
              ((lit< tt, (lit< tt, (lit< tt, tt))), tt),
              (
                ((lit< tt, (lit< tt, tt)), tt),
                (
                  ((lit< tt, tt), tt),
                  (
                    ((lit< tt, (lit< tt, tt)), tt),
                    (
                      ((lit< tt, tt), tt),
                      (
                        ((lit< tt, (lit< tt, (lit< tt, tt))), tt),
                        (
                          (tt, tt),
                          (
                            ((lit< tt, (lit< tt, tt)), tt),
                            tt,
                          ),
                        ),
                      ),
                    ),
                  ),
                ),
              ),
            ),
          ),
        ),
      ),
    ),
  ),
)

is_graph : IsGraph graph
is_graph = record {
  long = refl;
  base = omega arith;
  open_ = λ e. absurd (cc);
  sorted = λ n x s e f. inl (sorted_at nodes sorts all_sorted n x s e f);
  early = λ n k x e low. absurd (omega arith);
  late = λ n k x e high m. all_in (λ k. k < n) x.kids (subst (λ (b : ℕ). AllByRecursion (λ k. k < b) x.kids) (omega arith) (low_at 0 nodes all_low n x e).0) k m;
  ranged = λ n x e. (low_at 0 nodes all_low n x e).1;
  variables = λ n x e high. without_at nodes refl n x e;
}

in_at : (ks : List ℕ) (p k : ℕ) → slice_get ks p ≡ Some k → In ks k
in_at [] p k e = absurd (cc)
in_at (l ∷ ks) zero k e = inl (same_Some l k e)
in_at (l ∷ ks) (suc p) k e = inr (in_at ks p k e)

edge_down : (n k : ℕ) (m : Move) → Edge (form_at nodes) n m k → k < n
edge_down n k m e =
    let x = node_at nodes n e.o e.ks e.is in
    let h = (low_at 0 nodes all_low n x.0 x.1).0 in
    let g = subst (λ (zs : List ℕ). AllByRecursion (λ k. k < 0 + n) zs) x.3 h in
    let y = all_in (λ k. k < 0 + n) e.ks g k (in_at e.ks e.place k e.there) in
    omega arith

walk_down : (n o : ℕ) (ms : List Move) → Walk (form_at nodes) n ms o → o ≤ n
walk_down n o [] (stop k) = omega arith
walk_down n o (m ∷ ms) (step a k b c ds e w) = let h = edge_down n k m e in let y = walk_down k o ms w in omega arith

rule_kept : KeepsRule (form_at nodes)
rule_kept n m ms (step a k b c ds e w) = absurd (let h = edge_down n k m e in let y = walk_down k n ms w in omega arith)

is_world : IsWorld empty_world
is_world = record {
  lengths = λ r n e. absurd (let z : None ≡ Some n = sym (get-empty nat_cmp r) ∙ e in cc);
  booleans = λ r t. absurd (let z : false ≡ true = sym (set.contains-empty nat_cmp r) ∙ t in cc);
  literals = λ r n e. absurd (let z : None ≡ Some n = sym (get-empty name_cmp r) ∙ e in cc);
  calls = λ r n e. absurd (let z : None ≡ Some n = sym (get-empty key_cmp r) ∙ e in cc);
}

is_input : IsInput input
is_input = record { args = tt; this = lit< tt; not_null = λ e. absurd (omega arith); heap = λ r n e. absurd (let z : None ≡ Some n = sym (get-empty loc_cmp r) ∙ e in cc) }

setting : Setting graph empty_world input []
setting = record { made = record { graph = is_graph; rule = rule_kept }; sealed = refl; world = is_world; input = is_input; ended = λ e j m. absurd m }

-- ---- what has a value

abbrev V : ℕ → Index → Val → Type 0
V n i v = Value (form_at nodes) empty_world input n i v

abbrev an_int : ℤ → Val
an_int n = val.Num (num.Int n)

zero_has : (i : Index) → V 0 i (an_int (pos 0))
zero_has i = const_has (form_at nodes) empty_world input i (op.Int (pos 0)) 0 (num.Int (pos 0)) refl refl

one_has : (i : Index) → V 1 i (an_int (pos 1))
one_has i = const_has (form_at nodes) empty_world input i (op.Int (pos 1)) 1 (num.Int (pos 1)) refl refl

endless : (i : Index) (v : Val) → V 2 i v → ⊥
endless i v h =
    let p = (pass_is (form_at nodes) empty_world input 2 1 0 i v refl).0 h in
    let u : p.ends.0 ≡ an_int (pos 0) = value_once (form_at nodes) empty_world input 0 _ p.ends.0 (an_int (pos 0)) p.ends.1 (zero_has _) in
    let t : Some false ≡ Some true = sym (ap truth u) ∙ p.ends.2 in
    absurd (cc)

after_endless : (i : Index) (v : Val) → V 3 i v → ⊥
after_endless i v h = let p = (eval_is (form_at nodes) empty_world input 3 1 1 2 i v refl).0 h in endless i (val.Count p.0) p.1

no_product : (i : Index) (v : Val) → V 4 i v → ⊥
no_product i v h =
    let p = (plain_is (form_at nodes) empty_world input 4 (op.Scalar Imul) (3 ∷ 0 ∷ []) i v refl refl).0 h in
    let r = zip_two (λ k u. V k i u) 3 0 p.0 p.1 in
    after_endless i r.0.0 r.0.1

no_heap : (i : Index) (v : Val) → V 6 i v → ⊥
no_heap i v h = let p = (phi_is (form_at nodes) empty_world input 6 3 5 5 i v refl).0 h in after_endless i p.1.0 p.1.1

no_read : (i : Index) (v : Val) → V 8 i v → ⊥
no_read i v h =
    let p = (plain_is (form_at nodes) empty_world input 8 (op.GetStatic symbol) (7 ∷ []) i v refl refl).0 h in
    let r = zip_one (λ k u. V k i u) 7 p.0 p.1 in
    let q = (plain_is (form_at nodes) empty_world input 7 (op.PutStatic symbol) (6 ∷ 1 ∷ []) i r.0 refl refl).0 r.1 in
    let s = zip_two (λ k u. V k i u) 6 1 q.0 q.1 in
    no_heap i s.0.0 s.0.1

no_choice : (i : Index) (v : Val) → V 11 i v → ⊥
no_choice i v h = let p = (phi_is (form_at nodes) empty_world input 11 3 1 1 i v refl).0 h in after_endless i p.1.0 p.1.1

first_now : V 9 outside (an_int (pos 0))
unfolding den strict
first_now = (3, refl)

shifted_now : V 10 outside (an_int (pos 1))
unfolding den strict
shifted_now = (4, refl)

once_now : V 9 (λ e. 1) (an_int (pos 1))
unfolding den strict
once_now = (3, refl)

evaluated_now : V 13 (λ e. 1) (an_int (pos 0))
unfolding den strict
evaluated_now = (4, refl)

-- ---- instances

abbrev names : List ℕ → Names
names vars = record { depth = 1; symbols = λ j. symbol; kinds = λ j. kind.Int; constants = λ j. num.Int (pos 0); op_ = op.Null; kids = []; vars = vars }

leaf_settled : (n m : ℕ) → form_at nodes n ≡ Some (form op.Zero []) → Reaches (form_at nodes) [] n m → (o : Op) (ks : List ℕ) → form_at nodes m ≡ Some (form o ks) → may_not_end o ≡ false
leaf_settled n m e (itself k) o ks f = let y : op.Zero ≡ o = (let z = sym e ∙ f in cc) in subst (λ (q : Op). may_not_end q ≡ false) y refl
leaf_settled n m e (along a k b p ls out f inn r) o ks g = absurd (let y : ls ≡ [] = (let z = sym f ∙ e in cc) in subst (λ (q : List ℕ). In q k) y inn)

leaf_closed : (d n : ℕ) → form_at nodes n ≡ Some (form (op.Int (pos 1)) []) → Free (form_at nodes) d n → ⊥
leaf_closed d n e (here k o ks f s) = let y : op.Int (pos 1) ≡ o = (let z = sym e ∙ f in cc) in let t : plain ≡ theta d = ap shape y ∙ s in absurd (cc)
leaf_closed d n e (below k l o ks f inn r) =
    let y : op.Int (pos 1) ≡ o = (let z = sym e ∙ f in cc) in
    let t : [] ≡ ks = (let z = sym e ∙ f in cc) in
    subst (λ (q : List ℕ). In (open_kids d plain q) l) (sym t) (subst (λ (q : Op). In (open_kids d (shape q) ks) l) (sym y) inn)

case_11 : Law product_with_0 → ⊥
case_11 law =
    let a : IsInstance graph [] product_with_0 (3 ∷ []) 4 0 =
    record { names = names (3 ∷ []); are = refl; long = refl; alone = λ e. refl; left = (3 ∷ 0 ∷ [], refl, (refl, (([], refl, tt), tt))); right = ([], refl, tt); sides = tt } in
    no_product outside (an_int (pos 0)) ((law graph [] (3 ∷ []) 4 0 empty_world input setting a outside (an_int (pos 0))).1 (zero_has outside))

case_203 : Law equal_sides → ⊥
case_203 law =
    let a : IsInstance graph [] equal_sides (3 ∷ 1 ∷ []) 11 1 =
    record { names = names (3 ∷ 1 ∷ []); are = refl; long = refl; alone = λ e. refl; left = (3 ∷ 1 ∷ 1 ∷ [], refl, (refl, (refl, (refl, tt)))); right = refl; sides = tt } in
    no_choice outside (an_int (pos 1)) ((law graph [] (3 ∷ 1 ∷ []) 11 1 empty_world input setting a outside (an_int (pos 1))).1 (one_has outside))

case_302_settled : Law eval_not_settled → ⊥
case_302_settled law =
    let a : IsInstance graph [] eval_not_settled (1 ∷ 2 ∷ []) 3 1 =
    record { names = names (1 ∷ 2 ∷ []); are = refl; long = refl; alone = λ e. refl; left = (1 ∷ 2 ∷ [], refl, (refl, (refl, tt))); right = refl; sides = ((1, refl, leaf_closed 1 1 refl), tt) } in
    after_endless outside (an_int (pos 1)) ((law graph [] (1 ∷ 2 ∷ []) 3 1 empty_world input setting a outside (an_int (pos 1))).1 (one_has outside))

case_302_free : Law eval_of_free → ⊥
case_302_free law =
    let a : IsInstance graph [] eval_of_free (9 ∷ 12 ∷ []) 13 9 =
    record { names = names (9 ∷ 12 ∷ []); are = refl; long = refl; alone = λ e. refl; left = (9 ∷ 12 ∷ [], refl, (refl, (refl, tt))); right = refl; sides = ((12, refl, λ m o ks r out e. leaf_settled 12 m refl r o ks e), tt) } in
    let h = (law graph [] (9 ∷ 12 ∷ []) 13 9 empty_world input setting a (λ e. 1) (an_int (pos 0))).0 evaluated_now in
    let y : an_int (pos 0) ≡ an_int (pos 1) = value_once (form_at nodes) empty_world input 9 (λ e. 1) (an_int (pos 0)) (an_int (pos 1)) h once_now in
    absurd (cc)

case_304 : Law shift_of_free → ⊥
case_304 law =
    let a : IsInstance graph [] shift_of_free (9 ∷ []) 10 9 =
    record { names = names (9 ∷ []); are = refl; long = refl; alone = λ e. refl; left = (9 ∷ [], refl, (refl, tt)); right = refl; sides = tt } in
    let h = (law graph [] (9 ∷ []) 10 9 empty_world input setting a outside (an_int (pos 1))).0 shifted_now in
    let y : an_int (pos 1) ≡ an_int (pos 0) = value_once (form_at nodes) empty_world input 9 outside (an_int (pos 1)) (an_int (pos 0)) h first_now in
    absurd (cc)

case_501 : Law read_back → ⊥
unfolding field_at
case_501 law =
    let a : IsInstance graph [] read_back (6 ∷ 1 ∷ []) 8 1 =
    record {
      names = names (6 ∷ 1 ∷ []);
      are = refl;
      long = refl;
      alone = λ e. refl;
      left = (7 ∷ [], refl, ((6 ∷ 1 ∷ [], refl, (refl, (refl, tt))), tt));
      right = (jtype.I, refl, refl);
      sides = tt;
    } in
    no_read outside (an_int (pos 1)) ((law graph [] (6 ∷ 1 ∷ []) 8 1 empty_world input setting a outside (an_int (pos 1))).1 (one_has outside))

pub refuted : NoLaws
refuted = record { product_with_0_ = case_11; equal_sides_ = case_203; eval_not_settled_ = case_302_settled; eval_of_free_ = case_302_free; shift_of_free_ = case_304; read_back_ = case_501 }
