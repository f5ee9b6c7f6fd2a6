-- A loop that counts up, by its parts.
use Rattle.std.specs.Prelude.{◌≡◌, ℕ, ◌<◌, pos, List, [], ◌∷◌, length, Option, Some, None, MatchOption, slice_get, slice_index_or, refl}
use Rattle.std.proofs.Common.{inl, inr, sym, subst, arith}
use Rattle.pv_value.specs.declared.operation.ScalarOp.TheVariants.{Iadd, Ilt}
use Rattle.pv_graph.specs.declared.node.Node.{Node}
use Rattle.pv_graph.specs.declared.node.Op.TheVariants as op
use Rattle.pv_graph.specs.Graphs.{Graph, form_at, IsGraph}
use Rattle.pv_graph.proofs.Cited.{form_there}
use Rattle.pv_counted.specs.Counted.{CountsUp, IsInt, AddsOne}
use Rattle.pv_counted.specs.Recognized.{IsOver, IsTest, CountsAs, IsTestFrom, IsLoop, IsLoopThatStays}
use Rattle.pv_counted.proofs.Shapes.{kid_low}

-- a test has one counter and one bound
pub test_once : (g : Graph) (test c b d e : ℕ) → IsTest g test c b → IsTest g test d e → (c ≡ d) × (b ≡ e)
test_once g test c b d e (less, zr, on, phi, z, o, lt) (less', zr', on', phi', z', o', lt') =
    let same : less ≡ less' = cc (phi, phi') in
    let both = subst (λ (n : ℕ). IsOver g n (op.Scalar Ilt) (c ∷ b ∷ [])) same lt in
    (cc (both, lt'), cc (both, lt'))

pub counter_low : (g : Graph) (test c b : ℕ) → IsGraph g → IsTest g test c b → c < length g.nodes
counter_low g test c b is (less, zr, on, phi, z, o, lt) = kid_low g less 0 (op.Scalar Ilt) (c ∷ b ∷ []) is lt (omega arith)

pub bound_low : (g : Graph) (test c b : ℕ) → IsGraph g → IsTest g test c b → b < length g.nodes
bound_low g test c b is (less, zr, on, phi, z, o, lt) = kid_low g less 1 (op.Scalar Ilt) (c ∷ b ∷ []) is lt (omega arith)

-- ---- a counter has one start

-- a theta has one first kid
theta_once : (g : Graph) (d s s' x x' y y' : ℕ) → x ≡ x' → IsOver g x (op.Theta d) (s ∷ y ∷ []) → IsOver g x' (op.Theta d) (s' ∷ y' ∷ []) → s ≡ s'
theta_once g d s s' x x' y y' same e e' = let z = subst (λ (n : ℕ). IsOver g n (op.Theta d) (s ∷ y ∷ [])) same e in cc (z, e')

-- no theta is a constant; or a sum
no_constant : (g : Graph) (d x one : ℕ) (ks : List ℕ) → x ≡ one → IsOver g x (op.Theta d) ks → IsInt (form_at g.nodes) (pos 1) one → ⊥
no_constant g d x one ks same e i = let z = subst (λ (n : ℕ). IsOver g n (op.Theta d) ks) same e in absurd (cc (z, i))

no_sum : (g : Graph) (d x y : ℕ) (ks ls : List ℕ) → x ≡ y → IsOver g x (op.Theta d) ks → IsOver g y (op.Scalar Iadd) ls → ⊥
no_sum g d x y ks ls same e i = let z = subst (λ (n : ℕ). IsOver g n (op.Theta d) ks) same e in absurd (cc (z, i))

no_adding : (g : Graph) (d x y z : ℕ) (ks : List ℕ) → x ≡ y → IsOver g x (op.Theta d) ks → AddsOne (form_at g.nodes) z y → ⊥
no_adding g d x y z ks same e (one, i, inl sum) = no_sum g d x y ks (z ∷ one ∷ []) same e sum
no_adding g d x y z ks same e (one, i, inr sum) = no_sum g d x y ks (one ∷ z ∷ []) same e sum

-- of the two kids of such a sum one is a theta, and the other the constant
module _ (g : Graph) (d s s' x x' y y' y'' : ℕ) (t : IsOver g x (op.Theta d) (s ∷ y' ∷ [])) (t' : IsOver g x' (op.Theta d) (s' ∷ y'' ∷ [])) where
  sum_once : AddsOne (form_at g.nodes) x y → AddsOne (form_at g.nodes) x' y → s ≡ s'
  sum_once (one, i, inl e) (one', i', inl f) = theta_once g d s s' x x' y' y'' (let z : x ≡ x' = cc (e, f) in z) t t'
  sum_once (one, i, inl e) (one', i', inr f) = absurd (no_constant g d x one' (s ∷ y' ∷ []) (let z : x ≡ one' = cc (e, f) in z) t i')
  sum_once (one, i, inr e) (one', i', inl f) = absurd (no_constant g d x' one (s' ∷ y'' ∷ []) (let z : x' ≡ one = cc (e, f) in z) t' i)
  sum_once (one, i, inr e) (one', i', inr f) = theta_once g d s s' x x' y' y'' (let z : x ≡ x' = cc (e, f) in z) t t'

pub start_once : (g : Graph) (d s s' c : ℕ) → CountsAs g d s c → CountsAs g d s' c → s ≡ s'
start_once g d s s' c (x, y, (t, a), inl e) (x', y', (t', a'), inl f) = theta_once g d s s' x x' y y' (let z : x ≡ x' = cc (e, f) in z) t t'
start_once g d s s' c (x, y, (t, a), inl e) (x', y', (t', a'), inr f) = absurd (no_adding g d x y' x' (s ∷ y ∷ []) (let z : x ≡ y' = cc (e, f) in z) t a')
start_once g d s s' c (x, y, (t, a), inr e) (x', y', (t', a'), inl f) = absurd (no_adding g d x' y x (s' ∷ y' ∷ []) (let z : x' ≡ y = cc (e, f) in z) t' a)
start_once g d s s' c (x, y, (t, a), inr e) (x', y', (t', a'), inr f) =
    sum_once g d s s' x x' y y y' t t' a (subst (λ (n : ℕ). AddsOne (form_at g.nodes) x' n) (let z : y' ≡ y = cc (e, f) in z) a')

-- ---- loops

-- a test of a found counter and bound is from no other start and bound
pub test_through : (g : Graph) (depth test start bound c b : ℕ) → IsTest g test c b → IsTestFrom g depth test start bound → CountsAs g depth start c × (b ≡ bound)
test_through g depth test start bound c b t (c', t', h) =
    let both = test_once g test c' bound c b t' t in
    (subst (λ (n : ℕ). CountsAs g depth start n) both.0 h, sym both.1)

-- a pass has one test
pub loop_through : (g : Graph) (p depth start bound test : ℕ) → IsOver g p (op.Pass depth) (test ∷ []) → IsLoop g p depth start bound → IsTestFrom g depth test start bound
loop_through g p depth start bound test e (test', e', t) =
    let same : test' ≡ test = cc (e, e') in
    subst (λ (n : ℕ). IsTestFrom g depth n start bound) same t

-- a loop of a depth has one start and one bound
pub loop_once : (g : Graph) (p depth s b s' b' : ℕ) → IsLoop g p depth s b → IsLoop g p depth s' b' → (s ≡ s') × (b ≡ b')
loop_once g p depth s b s' b' (test, e, (c, t, h)) l =
    let q = test_through g depth test s' b' c b t (loop_through g p depth s' b' test e l) in
    (start_once g depth s s' c h q.0, q.1)

pub loop_bound_low : (g : Graph) (p depth s b : ℕ) → IsGraph g → IsLoop g p depth s b → b < length g.nodes
loop_bound_low g p depth s b is (test, e, (c, t, h)) = bound_low g test c b is t

-- a loop that counts up is one that doesn't change its bound
pub counts_up_is : (g : Graph) (p start bound : ℕ) → CountsUp (form_at g.nodes) p start bound → (depth : ℕ) × IsLoopThatStays g p depth start bound
counts_up_is g p start bound l = (l.depth, ((l.test, l.pass_, (l.counter, (l.less, l.zero_, l.one_, l.test_, l.goes_on, l.ends, l.below), (l.x, l.y, (l.theta_, l.step), l.either))), l.stays))

pub is_counts_up : (g : Graph) (p depth start bound : ℕ) → IsLoopThatStays g p depth start bound → CountsUp (form_at g.nodes) p start bound
is_counts_up g p depth start bound ((test, e, (counter, (less, zr, on, phi, z, o, lt), (x, y, (t, s), h))), stays) = record {
  depth = depth;
  test = test;
  less = less;
  zero_ = zr;
  one_ = on;
  counter = counter;
  x = x;
  y = y;
  pass_ = e;
  test_ = phi;
  goes_on = z;
  ends = o;
  below = lt;
  either = h;
  theta_ = t;
  step = s;
  stays = stays;
}

-- a pass has one depth
depth_once : (g : Graph) (p depth start bound : ℕ) → IsLoop g p depth start bound → (e : ℕ) (test : ℕ) → IsOver g p (op.Pass e) (test ∷ []) → depth ≡ e
depth_once g p depth start bound (test', h, t) e test f = cc (h, f)

pub depth_at : (g : Graph) (p depth start bound : ℕ) (node : Node) (e : ℕ) → IsLoop g p depth start bound → slice_get g.nodes p ≡ Some node → node.op ≡ op.Pass e → depth ≡ e
depth_at g p depth start bound node e (test, h, t) at is = let f = form_there g.nodes p node at in cc (h, f, is)

pub parts_low : (g : Graph) (p start bound : ℕ) → IsGraph g → CountsUp (form_at g.nodes) p start bound → (start < length g.nodes) × (bound < length g.nodes)
parts_low g p start bound is l = (
  kid_low g l.x 0 (op.Theta l.depth) (start ∷ l.y ∷ []) is l.theta_ (omega arith),
  kid_low g l.less 1 (op.Scalar Ilt) (l.counter ∷ bound ∷ []) is l.below (omega arith),
)

-- a pass has one start and one bound
pub counts_up_once : (g : Graph) (p s b s' b' : ℕ) → CountsUp (form_at g.nodes) p s b → CountsUp (form_at g.nodes) p s' b' → (s ≡ s') × (b ≡ b')
counts_up_once g p s b s' b' l m =
    let one = counts_up_is g p s b l in
    let other = counts_up_is g p s' b' m in
    let depth : other.0 ≡ one.0 = depth_once g p other.0 s' b' other.1.0 one.0 one.1.0.0 one.1.0.1 in
    loop_once g p one.0 s b s' b' one.1.0 (subst (λ (d : ℕ). IsLoop g p d s' b') depth other.1.0)

-- ---- options and lists of kids

pub match_same : {A : Type 0} → (o : Option A) (P P' : Type 0) (Q Q' : A → Type 0) → MatchOption o P Q → (P → P') → ((a : A) → Q a → Q' a) → MatchOption o P' Q'
match_same None P P' Q Q' h none some = none h
match_same (Some a) P P' Q Q' h none some = some a h

pub one_kid : (ks : List ℕ) → length ks ≡ 1 → ks ≡ slice_index_or ks 0 0 ∷ []
one_kid [] e = absurd (omega (arith, e))
one_kid (k ∷ []) e = refl
one_kid (k ∷ j ∷ ks) e = absurd (omega (arith, e))
