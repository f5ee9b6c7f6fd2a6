-- What a graph keeps that grows, and a graph to which one node is added.
use Rattle.std.specs.Prelude.{◌≡◌, ◌⊎◌, ℕ, zero, suc, ◌+◌, ◌<◌, ◌≤◌, Bool, true, false, List, [], ◌∷◌, ◌++◌, length, Some, slice_get, if◌then◌else◌, refl}
use Rattle.std.specs.List.{AllZip}
use Rattle.std.proofs.Common.{inl, inr, sym, ap, ◌∙◌, subst, arith, get_or, take, map, option_map, length-append, Result, Ok, Err, IfOk}
use Rattle.std.proofs.lemmas.Option.{slice_get_within, slice_get-get_or, slice_get-map, same_Some}
use Rattle.std.proofs.lemmas.List.{take_more, map-append}
use Rattle.pv_graph.specs.declared.node.Op.{Op}
use Rattle.pv_graph.specs.declared.node.OpSort.{OpSort}
use Rattle.pv_graph.specs.declared.node.Node.{Node}
use Rattle.pv_graph.specs.Forms.{Form, form}
use Rattle.pv_graph.specs.Ops.{sort_over, HaveSorts}
use Rattle.pv_graph.specs.Graphs.{Graph, form_at, IsGraph, Extends}
use Rattle.pv_graph.specs.Nodes.{node_of, IsAbsent}
use Rattle.pv_graph.specs.Calls.{IsSame, appended, Added, AreNodes, IsDistinct}
use Rattle.pv_graph.proofs.Cited.{bind_some, found, get_front, get_last, push_cases, form_there, sort_there, tied}
use Rattle.pv_heights.specs.Searches.{IsNode}
use Rattle.pv_instances.specs.Made.{GrowsBy, KeepsDistinct}

pub if_ok_more : {A E : Type 0} (r : Result A E) (P Q : A → Type 0) → ((a : A) → P a → Q a) → IfOk r P → IfOk r Q
if_ok_more (Ok a) P Q f h = f a h
if_ok_more (Err e) P Q f h = h

-- ---- a loop over a list

pub mapped_at : {A B : Type 0} (v : A → B) (xs : List A) (i : ℕ) (x : A) → i < length xs → x ≡ get_or xs i x → slice_get (map v xs) i ≡ Some (v x)
mapped_at v xs i x lt e = slice_get-map v xs i ∙ ap (option_map v) (slice_get-get_or xs i x lt ∙ ap Some (sym e))

pub mapped_more : {A B : Type 0} (v : A → B) (xs : List A) (i : ℕ) (x : A) → i < length xs → x ≡ get_or xs i x → map v (take (i + 1) xs) ≡ map v (take i xs) ++ v x ∷ []
mapped_more v xs i x lt e = ap (map v) (take_more xs i x lt) ∙ map-append v (take i xs) (get_or xs i x ∷ []) ∙ ap (λ y. map v (take i xs) ++ v y ∷ []) (sym e)

-- ---- lists place by place

pub zip_get : {A B : Type 0} (R : A → B → Type 0) (xs : List A) (ys : List B) (j : ℕ) (y : B) → AllZip R xs ys → slice_get ys j ≡ Some y → (x : A) × (slice_get xs j ≡ Some x) × R x y
zip_get R [] [] j y z e = absurd (cc)
zip_get R [] (b ∷ ys) j y z e = absurd z
zip_get R (a ∷ xs) [] j y z e = absurd z
zip_get R (a ∷ xs) (b ∷ ys) zero y z e = (a, refl, subst (R a) (same_Some b y e) z.0)
zip_get R (a ∷ xs) (b ∷ ys) (suc j) y z e = zip_get R xs ys j y z.1 e

pub zip_more : {A B : Type 0} (R Q : A → B → Type 0) (xs : List A) (ys : List B) → ((x : A) (y : B) → R x y → Q x y) → AllZip R xs ys → AllZip Q xs ys
zip_more R Q [] [] f z = tt
zip_more R Q [] (b ∷ ys) f z = absurd z
zip_more R Q (a ∷ xs) [] f z = absurd z
zip_more R Q (a ∷ xs) (b ∷ ys) f z = (f a b z.0, zip_more R Q xs ys f z.1)

-- each node has one sort
pub sorts_once : (all : List OpSort) (ks : List ℕ) (ss ts : List OpSort) → HaveSorts all ks ss → HaveSorts all ks ts → ss ≡ ts
sorts_once all [] [] [] a b = refl
sorts_once all [] [] (t ∷ ts) a b = absurd b
sorts_once all [] (s ∷ ss) ts a b = absurd a
sorts_once all (k ∷ ks) [] ts a b = absurd a
sorts_once all (k ∷ ks) (s ∷ ss) [] a b = absurd b
sorts_once all (k ∷ ks) (s ∷ ss) (t ∷ ts) a b =
    let one : s ≡ t = same_Some s t (sym a.0 ∙ b.0) in
    let others : ss ≡ ts = sorts_once all ks ss ts a.1 b.1 in
    cc (one, others)

-- ---- what a graph keeps that grows

pub same_extends : (g : Graph) → Extends g g
same_extends g = record { nodes = λ n x e. e; sorts = λ n s e. e }

pub extends_both : (a b c : Graph) → Extends a b → Extends b c → Extends a c
extends_both a b c p q = record { nodes = λ n x e. q.nodes n x (p.nodes n x e); sorts = λ n s e. q.sorts n s (p.sorts n s e) }

pub form_kept : (g h : Graph) → Extends g h → (n : ℕ) (f : Form ℕ) → form_at g.nodes n ≡ Some f → form_at h.nodes n ≡ Some f
form_kept g h e n f at_ = let x = bind_some (slice_get g.nodes n) _ f at_ in form_there h.nodes n x.0 (e.nodes n x.0 x.1) ∙ x.2

pub sorts_kept : (g h : Graph) → Extends g h → (ks : List ℕ) (ss : List OpSort) → HaveSorts g.sorts ks ss → HaveSorts h.sorts ks ss
sorts_kept g h e ks ss z = zip_more (λ k s. slice_get g.sorts k ≡ Some s) (λ k s. slice_get h.sorts k ≡ Some s) ks ss (λ k s at_. e.sorts k s at_) z

pub form_within : (g : Graph) (n : ℕ) (f : Form ℕ) → form_at g.nodes n ≡ Some f → IsNode g n
form_within g n f e = let x = bind_some (slice_get g.nodes n) _ f e in slice_get_within g.nodes n x.0 x.1

pub node_kept : (g h : Graph) → Extends g h → (n : ℕ) → IsNode g n → IsNode h n
node_kept g h e n lt = let x = found g.nodes n lt in slice_get_within h.nodes n x.0 (e.nodes n x.0 x.1)

-- ---- a node is added

last_or_old : (n m : ℕ) → n < m + 1 → (n < m) ⊎ (n ≡ m)
last_or_old n m h = grind arith

length_push : (xs : List Node) (x : Node) → length (xs ++ x ∷ []) ≡ length xs + 1
length_push xs x = omega (arith, length-append xs (x ∷ []))

abbrev pub Is : Graph → Op → List ℕ → ℕ → Type 0
Is h o ks k = form_at h.nodes k ≡ Some (form o ks)

same_grows : (g h : Graph) (o : Op) (ks : List ℕ) → IsSame g h → GrowsBy g h (Is h o ks)
same_grows g h o ks e = record {
  extends_ = record {
    nodes = λ k x at_. ap (λ (i : Graph). slice_get i.nodes k) e ∙ at_;
    sorts = λ k s at_. ap (λ (i : Graph). slice_get i.sorts k) e ∙ at_;
  };
  sealed = ap (λ (i : Graph). i.is_open) e;
  base = ap (λ (i : Graph). i.base) e;
  news = λ k low high. absurd (let z : length h.nodes ≡ length g.nodes = ap (λ (i : Graph). length i.nodes) e in omega arith);
}

base_stays : (b : Bool) (m n : ℕ) → b ≡ false → (if b then m else n) ≡ n
base_stays true m n e = absurd (cc)
base_stays false m n e = refl

more_grows : (g h : Graph) (o : Op) (ks : List ℕ) (s : OpSort) (p : Bool) → g.is_open ≡ false → h ≡ appended g (node_of o ks) s p → GrowsBy g h (Is h o ks)
more_grows g h o ks s p sealed e = record {
  extends_ = record {
    nodes = λ k x at_. ap (λ (i : Graph). slice_get i.nodes k) e ∙ get_front g.nodes (node_of o ks) k (slice_get_within g.nodes k x at_) ∙ at_;
    sorts = λ k t at_. ap (λ (i : Graph). slice_get i.sorts k) e ∙ get_front g.sorts s k (slice_get_within g.sorts k t at_) ∙ at_;
  };
  sealed = ap (λ (i : Graph). i.is_open) e;
  base = ap (λ (i : Graph). i.base) e ∙ base_stays g.is_open (length g.nodes + 1) g.base sealed;
  news = λ k low high. new_is k low high;
}
  where
    new_is : (k : ℕ) → length g.nodes ≤ k → k < length h.nodes → Is h o ks k
    new_is k low high =
        let long : length h.nodes ≡ length g.nodes + 1 = ap (λ (i : Graph). length i.nodes) e ∙ length_push g.nodes (node_of o ks) in
        let at_ : k ≡ length g.nodes = omega arith in
        let there : slice_get h.nodes (length g.nodes) ≡ Some (node_of o ks) = ap (λ (i : Graph). slice_get i.nodes (length g.nodes)) e ∙ get_last g.nodes (node_of o ks) in
        form_there h.nodes k (node_of o ks) (subst (λ (j : ℕ). slice_get h.nodes j ≡ Some (node_of o ks)) (sym at_) there)

-- the graph keeps its nodes, and a new one is that node
pub added_grows : (g h : Graph) (o : Op) (ks : List ℕ) (n : ℕ) → g.is_open ≡ false → Added g h o ks n → GrowsBy g h (Is h o ks)
added_grows g h o ks n sealed a = elim a.grows [ inl e ↦ same_grows g h o ks e | inr e ↦ more_grows g h o ks a.fits.0 h.is_prepared sealed e.1 ]

distinct_more : (nodes : List Node) (node : Node) → IsAbsent nodes node → IsDistinct nodes → IsDistinct (nodes ++ node ∷ [])
distinct_more nodes node absent d a b x e f = cases (push_cases nodes node x a e) (push_cases nodes node x b f)
  where
    cases : (slice_get nodes a ≡ Some x) ⊎ ((a ≡ length nodes) × (node ≡ x)) → (slice_get nodes b ≡ Some x) ⊎ ((b ≡ length nodes) × (node ≡ x)) → a ≡ b
    cases (inl p) (inl q) = d a b x p q
    cases (inl p) (inr q) = absurd (absent a (p ∙ ap Some (sym q.1)))
    cases (inr p) (inl q) = absurd (absent b (q ∙ ap Some (sym p.1)))
    cases (inr p) (inr q) = p.0 ∙ sym q.0

-- .. which is there once
pub added_distinct : (g h : Graph) (o : Op) (ks : List ℕ) (n : ℕ) → Added g h o ks n → KeepsDistinct g h
added_distinct g h o ks n a d = elim a.grows [
  | inl e ↦ subst (λ (i : Graph). IsDistinct i.nodes) (sym e) d
  | inr e ↦ subst (λ (i : Graph). IsDistinct i.nodes) (sym e.1) (distinct_more g.nodes (node_of o ks) e.0 d)
]

pub nothing_new : (g : Graph) (Kind : ℕ → Type 0) → GrowsBy g g Kind
nothing_new g Kind = record { extends_ = same_extends g; sealed = refl; base = refl; news = λ k low high. absurd (omega arith) }

pub nodes_have : (g : Graph) → IsGraph g → (ks : List ℕ) (ss : List OpSort) → HaveSorts g.sorts ks ss → AreNodes g ks
nodes_have g is [] [] z = tt
nodes_have g is [] (s ∷ ss) z = absurd z
nodes_have g is (k ∷ ks) [] z = absurd z
nodes_have g is (k ∷ ks) (s ∷ ss) z = ((let y = slice_get_within g.sorts k s z.0 in let x = is.long in omega arith), nodes_have g is ks ss z.1)

low_or_high : (n m : ℕ) → (n < m) ⊎ (m ≤ n)
low_or_high n m = grind arith

-- what grows twice grows by what either adds
pub grows_both : (a b c : Graph) (P Q R : ℕ → Type 0) → GrowsBy a b P → GrowsBy b c Q → ((n : ℕ) → P n → R n) → ((n : ℕ) → Q n → R n) → GrowsBy a c R
grows_both a b c P Q R p q f g = record {
  extends_ = extends_both a b c p.extends_ q.extends_;
  sealed = q.sealed ∙ p.sealed;
  base = q.base ∙ p.base;
  news = λ n low high. elim (low_or_high n (length b.nodes)) [ inl l ↦ f n (p.news n low l) | inr l ↦ g n (q.news n l high) ];
}

-- the sort of a node of a sealed graph is the one that its operation gives
pub sort_is : (g : Graph) → IsGraph g → g.is_open ≡ false → (n : ℕ) (o : Op) (ks : List ℕ) (ss : List OpSort) (s : OpSort) → slice_get g.nodes n ≡ Some (node_of o ks) → HaveSorts g.sorts ks ss → sort_over o ss ≡ Some s
    → slice_get g.sorts n ≡ Some s
sort_is g is sealed n o ks ss s at_ have over_ =
    let t = sort_there g is n (slice_get_within g.nodes n (node_of o ks) at_) in
    let h = tied g sealed (node_of o ks) t.0 (is.sorted n (node_of o ks) t.0 at_ t.1) in
    let same : h.sorts ≡ ss = sorts_once g.sorts ks h.sorts ss h.kids_have have in
    let equal : Some t.0 ≡ Some s = sym h.over ∙ (ap (sort_over o) same ∙ over_) in
    t.1 ∙ equal
