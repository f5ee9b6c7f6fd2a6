-- Numbers by keys: a pass, and the next classes.
use Rattle.std.specs.Prelude.{◌≡◌, ◌≢◌, ◌⊎◌, ℕ, ◌+◌, ◌<◌, ◌≤◌, Bool, true, false, List, [], ◌∷◌, ◌++◌, length, map, take, Some, slice_get, slice_set, refl, if◌then◌else◌}
use Rattle.std.specs.List.{list_any}
use Rattle.std.proofs.Common.{inl, inr, sym, ap, ◌∙◌, arith, length-append, true≢false}
use Rattle.std.proofs.lemmas.Option.{slice_get_within, same_Some, none-some}
use Rattle.std.proofs.lemmas.List.{get_or-set_same, get_or-set_other}
use Rattle.std.proofs.lemmas.List.Folds.{list_any_at}
use Rattle.indexmap.specs.IndexSet.{insert_key}
use Rattle.pv_list.proofs.Cited.{place_of, contains_at}
use Rattle.pv_graph.specs.contracts.node.NodePartialEq.TheImpl.{eq-value as node_eq}
use Rattle.pv_graph.specs.contracts.node.NodeEq.TheImpl.Laws.{laws-law}
use Rattle.pv_graph.specs.declared.node.Op.{Op}
use Rattle.pv_graph.specs.declared.node.Node.{Node}
use Rattle.pv_graph.proofs.Cited.{push_cases, get_front, found, node_at, same_nodes, set_length}
use Rattle.pv_graph.specs.Ops.{shape, is_theta}
use Rattle.pv_graph.specs.Nodes.{node_of, IsAbsent}
use Rattle.pv_graph.specs.Calls.{IsDistinct}
use Rattle.pv_graph.specs.Walks.{In}
use Rattle.pv_graph.specs.Graphs.{form_at}
use Rattle.pv_alike.specs.Partition.{IsA, Level, earlier_kids, IsPass}
use Rattle.pv_alike.specs.BottomUp.{IsBottomUp}
use Rattle.pv_alike.specs.Keys.{Keyed, number_at, over_class, over_numbers, key_of, IsKeyed, IsOnto}
use Rattle.pv_alike.proofs.Upward.{kid_before, upward_low, upward_few}

-- ---- keys

-- what an insertion does
pub keyed : (old new : List Node) (key stored : Node) (n : ℕ) → new ≡ insert_key node_eq.it old key → slice_get new n ≡ Some stored → node_eq.it key stored ≡ true → Keyed old new key n
keyed old new key stored n e at same = record { there = at ∙ ap Some (sym (same_nodes key stored same)); grows = by (list_any (node_eq.it key) old) refl }
  where
    absent : list_any (node_eq.it key) old ≡ false → IsAbsent old key
    absent none m there = let c = contains_at old key m there in true≢false (sym (list_any_at (node_eq.it key) old c.0 key c.1 (ap (node_eq.it key) c.2 ∙ laws-law.refl key)) ∙ none)

    by : (b : Bool) → list_any (node_eq.it key) old ≡ b → (new ≡ old) ⊎ (IsAbsent old key × (new ≡ old ++ key ∷ []))
    by true f = inl (e ∙ ap (λ (b : Bool). if b then old else old ++ key ∷ []) f)
    by false f = inr (absent f, e ∙ ap (λ (b : Bool). if b then old else old ++ key ∷ []) f)

module _ (old new : List Node) (key : Node) (v : ℕ) (is : Keyed old new key v) where
  -- keys stay at their places
  pub keyed_kept : (m : ℕ) (x : Node) → slice_get old m ≡ Some x → slice_get new m ≡ Some x
  keyed_kept m x at = elim is.grows [
    | inl same ↦ ap (λ (xs : List Node). slice_get xs m) same ∙ at
    | inr more ↦ ap (λ (xs : List Node). slice_get xs m) more.1 ∙ get_front old key m (slice_get_within old m x at) ∙ at
  ]

  pub keyed_distinct : IsDistinct old → IsDistinct new
  keyed_distinct apart a b x at at' = elim is.grows [
    | inl same ↦ apart a b x (ap (λ (xs : List Node). slice_get xs a) (sym same) ∙ at) (ap (λ (xs : List Node). slice_get xs b) (sym same) ∙ at')
    | inr more ↦
        elim (push_cases old key x a (ap (λ (xs : List Node). slice_get xs a) (sym more.1) ∙ at)) [
          | inl left ↦ elim (push_cases old key x b (ap (λ (xs : List Node). slice_get xs b) (sym more.1) ∙ at')) [
            | inl right ↦ apart a b x left right
            | inr right ↦ absurd (more.0 a (left ∙ ap Some (sym right.1)))
          ]
          | inr left ↦ elim (push_cases old key x b (ap (λ (xs : List Node). slice_get xs b) (sym more.1) ∙ at')) [
            | inl right ↦ absurd (more.0 b (right ∙ ap Some (sym left.1)))
            | inr right ↦ left.0 ∙ sym right.0
          ]
        ]
  ]

  pub keyed_few : length new ≤ length old + 1
  keyed_few = elim is.grows [ inl same ↦ omega (arith, ap length same) | inr more ↦ omega (arith, ap length more.1, length-append old (key ∷ [])) ]

  -- a key is an old one, or this one
  pub keyed_cases : (m : ℕ) → m < length new → (m < length old) ⊎ (m ≡ v)
  keyed_cases m lt = elim is.grows [
    | inl same ↦ inl (omega (arith, ap length same))
    | inr more ↦ elim (push_cases old key key v (ap (λ (xs : List Node). slice_get xs v) (sym more.1) ∙ is.there)) [
      | inl left ↦ absurd (more.0 v left)
      | inr last ↦ elim (less_or_last m (length old) (omega (arith, ap length more.1, length-append old (key ∷ [])))) [ inl low ↦ inl low | inr e ↦ inr (e ∙ sym last.0) ]
    ]
  ]
    where
      less_or_last : (a b : ℕ) → a < b + 1 → (a < b) ⊎ (a ≡ b)
      less_or_last a b lt = grind arith

-- ---- numbers of lists

pub map_same : (f g : ℕ → ℕ) (ks : List ℕ) → ((k : ℕ) → In ks k → f k ≡ g k) → map f ks ≡ map g ks
map_same f g [] same = refl
map_same f g (k ∷ ks) same =
    let one : f k ≡ g k = same k (inl refl) in
    let others : map f ks ≡ map g ks = map_same f g ks (λ j m. same j (inr m)) in
    cc (one, others)

pub level_map : (number : ℕ → ℕ) (ks ls : List ℕ) → Level number ks ls → map number ks ≡ map number ls
level_map number [] [] h = refl
level_map number [] (l ∷ ls) h = absurd h
level_map number (k ∷ ks) [] h = absurd h
level_map number (k ∷ ks) (l ∷ ls) h =
    let one : number k ≡ number l = h.0 in
    let others : map number ks ≡ map number ls = level_map number ks ls h.1 in
    cc (one, others)

pub map_level : (number : ℕ → ℕ) (ks ls : List ℕ) → map number ks ≡ map number ls → Level number ks ls
map_level number [] [] e = tt
map_level number [] (l ∷ ls) e = absurd (cc)
map_level number (k ∷ ks) [] e = absurd (cc)
map_level number (k ∷ ks) (l ∷ ls) e = ((let z : number k ≡ number l = cc in z), map_level number ks ls (let z : map number ks ≡ map number ls = cc in z))

-- ---- keys of a pass

-- what a node is numbered by, as it is a theta or not
kids_by : Bool → ℕ → List ℕ → List ℕ
kids_by true class numbers = class ∷ numbers
kids_by false class numbers = numbers

-- the key is the operation over the class, for a theta, and the numbers of the earlier kids
key_is : (class number : ℕ → ℕ) (n : ℕ) (node : Node) → key_of class number n node ≡ node_of node.op (kids_by (is_theta (shape node.op)) (class n) (map number (earlier_kids node.op node.kids)))
unfolding kids_by
key_is class number n node = by (is_theta (shape node.op))
  where
    by : (t : Bool) → (if t then over_class (class n) number node.op (take 1 node.kids) else over_numbers number node) ≡ node_of node.op (kids_by t (class n) (map number (if t then take 1 node.kids else node.kids)))
    by true = refl
    by false = refl

-- numbers that agree on the earlier kids give the key
pub key_same : (class number other : ℕ → ℕ) (n : ℕ) (node : Node) → ((k : ℕ) → In (earlier_kids node.op node.kids) k → number k ≡ other k) → key_of class number n node ≡ key_of class other n node
key_same class number other n node same =
    key_is class number n node ∙ ap (λ (js : List ℕ). node_of node.op (kids_by (is_theta (shape node.op)) (class n) js)) (map_same number other (earlier_kids node.op node.kids) same) ∙ sym (key_is class other n node)

abbrev pub node_like : Node → Op → List ℕ → Type 0
node_like node o ks = (node.op ≡ o) × (node.kids ≡ ks)

-- a node that is one
pub a_node : (g : List Node) (t : Bool) (n : ℕ) (o : Op) (ks : List ℕ) → IsA (form_at g) t n o ks → (node : Node) × (slice_get g n ≡ Some node) × (node.op ≡ o) × (node.kids ≡ ks) × (is_theta (shape node.op) ≡ t)
a_node g t n o ks a = let x = node_at g n o ks a.0 in (x.0, x.1, x.2, x.3, ap (λ (p : Op). is_theta (shape p)) x.2 ∙ a.1)

module _ (g : List Node) (class number : ℕ → ℕ) (keys : List Node) (is : IsKeyed g class number keys) where
  -- two nodes have one number where they have one key
  key_one : (a b : ℕ) (x y : Node) → slice_get g a ≡ Some x → slice_get g b ≡ Some y → number a ≡ number b → key_of class number a x ≡ key_of class number b y
  key_one a b x y at at' e = same_Some (key_of class number a x) (key_of class number b y) (sym (is.each a x at) ∙ ap (slice_get keys) e ∙ is.each b y at')

  one_key : (a b : ℕ) (x y : Node) → slice_get g a ≡ Some x → slice_get g b ≡ Some y → key_of class number a x ≡ key_of class number b y → number a ≡ number b
  one_key a b x y at at' e = is.distinct (number a) (number b) (key_of class number a x) (is.each a x at) (is.each b y at' ∙ ap Some (sym e))

  -- what the key of a node is made of
  key_at : (n : ℕ) (o : Op) (ks : List ℕ) (x : Node) → node_like x o ks → key_of class number n x ≡ node_of o (kids_by (is_theta (shape o)) (class n) (map number (earlier_kids o ks)))
  key_at n o ks x e =
      key_is class number n x ∙ ap (λ (q : Op). node_of q (kids_by (is_theta (shape q)) (class n) (map number (earlier_kids q x.kids)))) e.0 ∙ ap (λ (zs : List ℕ). node_of o (kids_by (is_theta (shape o)) (class n) (map number (earlier_kids o zs)))) e.1

  kids_apart : (t : Bool) (c d : ℕ) (ms ns : List ℕ) → kids_by t c ms ≡ kids_by t d ns → (t ≡ true → c ≡ d) × (ms ≡ ns)
  unfolding kids_by
  kids_apart true c d ms ns e = ((λ h. let z : c ≡ d = cc in z), let z : ms ≡ ns = cc in z)
  kids_apart false c d ms ns e = ((λ h. absurd (cc)), e)

  kids_same : (t : Bool) (c d : ℕ) (ms : List ℕ) → (t ≡ true → c ≡ d) → kids_by t c ms ≡ kids_by t d ms
  unfolding kids_by
  kids_same true c d ms e = ap (λ (x : ℕ). x ∷ ms) (e refl)
  kids_same false c d ms e = refl

  pub keyed_pass : IsPass (form_at g) class number
  keyed_pass a b o p ks ls e f =
      let m = node_at g a o ks e in
      let n = node_at g b p ls f in
      let left = key_at a o ks m.0 (m.2, m.3) in
      let right = key_at b p ls n.0 (n.2, n.3) in (
        (λ same.
            let z = sym left ∙ key_one a b m.0 n.0 m.1 n.1 same ∙ right in
            let ops : o ≡ p = ap (λ (w : Node). w.op) z in
            let kids = ap (λ (w : Node). w.kids) z ∙ ap (λ (q : Op). kids_by (is_theta (shape q)) (class b) (map number (earlier_kids p ls))) (sym ops) in
            let parts = kids_apart (is_theta (shape o)) (class a) (class b) (map number (earlier_kids o ks)) (map number (earlier_kids p ls)) kids in
            (ops, parts.0, map_level number (earlier_kids o ks) (earlier_kids p ls) parts.1)),
        (λ h.
            let kids = ap (kids_by (is_theta (shape o)) (class a)) (level_map number (earlier_kids o ks) (earlier_kids p ls) h.2) ∙ kids_same (is_theta (shape o)) (class a) (class b) (map number (earlier_kids p ls)) h.1 in
            one_key a b m.0 n.0 m.1 n.1 (left ∙ ap (node_of o) kids ∙ ap (λ (q : Op). node_of q (kids_by (is_theta (shape q)) (class b) (map number (earlier_kids p ls)))) h.0 ∙ sym right)),
      )

-- ---- the loop of a pass

-- the first i nodes of the order have the numbers of their keys
pub record IsPassing (g : List Node) (class : ℕ → ℕ) (order : List ℕ) (i : ℕ) (numbers : List ℕ) (keys : List Node) : Type 0 where
  pub long : length numbers ≡ length g
  pub reached : i ≤ length order
  pub few : length keys ≤ i
  pub distinct : IsDistinct keys
  pub each : (p n : ℕ) (node : Node) → p < i → slice_get order p ≡ Some n → slice_get g n ≡ Some node → slice_get keys (number_at numbers n) ≡ Some (key_of class (number_at numbers) n node)
  pub met : (m : ℕ) → m < length keys → (p n : ℕ) × (p < i) × (slice_get order p ≡ Some n) × (number_at numbers n ≡ m)

pub passing_none : (g : List Node) (class : ℕ → ℕ) (order numbers : List ℕ) → length numbers ≡ length g → IsPassing g class order 0 numbers []
passing_none g class order numbers long = record {
  long = long;
  reached = omega arith;
  few = omega arith;
  distinct = λ a b x e f. absurd (none-some x e);
  each = λ p n node lt at is. absurd (omega arith);
  met = λ m lt. absurd (omega arith);
}

pub less_or_same : (p i : ℕ) → p < i + 1 → (p < i) ⊎ (p ≡ i)
less_or_same p i lt = grind arith

module _ (g : List Node) (class : ℕ → ℕ) (order : List ℕ) (up : IsBottomUp g order) (i n : ℕ) (node : Node) (numbers : List ℕ) (keys keys' : List Node) (v : ℕ) (at : slice_get order i ≡ Some n) (node_is : slice_get g n ≡ Some node)
    (is : IsPassing g class order i numbers keys) (put : Keyed keys keys' (key_of class (number_at numbers) n node) v) where
  abbrev numbers' : List ℕ
  numbers' = slice_set numbers n v

  low : n < length numbers
  low = omega (arith, slice_get_within g n node node_is, is.long)

  new_number : number_at numbers' n ≡ v
  new_number = get_or-set_same numbers n v 0 low

  old_number : (m : ℕ) → m ≢ n → number_at numbers' m ≡ number_at numbers m
  old_number m ne = get_or-set_other numbers n m v 0 ne

  -- another node of the order is not n
  other : (p m : ℕ) → p < i → slice_get order p ≡ Some m → m ≢ n
  other p m lt there e = let same : p ≡ i = up.up.apart p i n (there ∙ ap Some e) at in omega arith

  -- kids of nodes up to this place keep their numbers
  kid_kept : (p m : ℕ) (x : Node) → p ≤ i → slice_get order p ≡ Some m → slice_get g m ≡ Some x → (k : ℕ) → In (earlier_kids x.op x.kids) k → number_at numbers' k ≡ number_at numbers k
  kid_kept p m x le there x_is k h = let b = kid_before g order p m k x up.up there x_is h in old_number k (other b.0 k (omega (arith, b.1)) b.2)

  each_now : (p m : ℕ) (x : Node) → p < i + 1 → slice_get order p ≡ Some m → slice_get g m ≡ Some x → slice_get keys' (number_at numbers' m) ≡ Some (key_of class (number_at numbers') m x)
  each_now p m x lt there x_is = elim (less_or_same p i lt) [
    | inl before ↦
        let key = key_same class (number_at numbers') (number_at numbers) m x (kid_kept p m x (omega arith) there x_is) in
        ap (slice_get keys') (old_number m (other p m before there)) ∙ keyed_kept keys keys' (key_of class (number_at numbers) n node) v put (number_at numbers m) (key_of class (number_at numbers) m x) (is.each p m x before there x_is) ∙ ap Some (sym key)
    | inr here ↦
        let same : m ≡ n = same_Some m n (sym there ∙ ap (slice_get order) here ∙ at) in
        let one : x ≡ node = same_Some x node (sym x_is ∙ ap (slice_get g) same ∙ node_is) in
        let key = key_same class (number_at numbers') (number_at numbers) m x (kid_kept p m x (omega arith) there x_is) in
        ap (λ (j : ℕ). slice_get keys' (number_at numbers' j)) same ∙ ap (slice_get keys') new_number ∙ put.there
        ∙ ap (λ (j : ℕ). Some (key_of class (number_at numbers) j node)) (sym same) ∙ ap (λ (y : Node). Some (key_of class (number_at numbers) m y)) (sym one) ∙ ap Some (sym key)
  ]

  met_now : (m : ℕ) → m < length keys' → (p q : ℕ) × (p < i + 1) × (slice_get order p ≡ Some q) × (number_at numbers' q ≡ m)
  met_now m lt = elim (keyed_cases keys keys' (key_of class (number_at numbers) n node) v put m lt) [
    | inl old ↦ let h = is.met m old in (h.0, h.1, omega (arith, h.2), h.3, old_number h.1 (other h.0 h.1 h.2 h.3) ∙ h.4)
    | inr e ↦ (i, n, omega arith, at, new_number ∙ sym e)
  ]

  pub passing_more : IsPassing g class order (i + 1) numbers' keys'
  passing_more = record {
    long = set_length numbers n v ∙ is.long;
    reached = (let z = slice_get_within order i n at in omega arith);
    few = omega (arith, is.few, keyed_few keys keys' (key_of class (number_at numbers) n node) v put);
    distinct = keyed_distinct keys keys' (key_of class (number_at numbers) n node) v put is.distinct;
    each = each_now;
    met = met_now;
  }

module _ (g : List Node) (class : ℕ → ℕ) (order : List ℕ) (up : IsBottomUp g order) (i : ℕ) (numbers : List ℕ) (keys : List Node) (is : IsPassing g class order i numbers keys) (all : length order ≤ i) where
  place : (n : ℕ) → n < length g → (p : ℕ) × (p < i) × (slice_get order p ≡ Some n)
  place n lt = let at = place_of order n (up.all n lt) in (at.0, omega (arith, slice_get_within order at.0 n at.1), at.1)

  pub passing_end : IsKeyed g class (number_at numbers) keys
  passing_end = record { distinct = is.distinct; each = λ n node at. let p = place n (slice_get_within g n node at) in is.each p.0 n node p.1 p.2 at }

  pub passing_onto : IsOnto g (number_at numbers) (length keys)
  passing_onto = record {
    few = omega (arith, is.few, is.reached, upward_few g order up.up);
    low = λ n lt. let x = found g n lt in let p = place n lt in slice_get_within keys (number_at numbers n) (key_of class (number_at numbers) n x.0) (is.each p.0 n x.0 p.1 p.2 x.1);
    each = λ m lt. let h = is.met m lt in (h.1, upward_low g order h.0 h.1 up.up h.3, h.4);
  }
