-- The next classes of thetas, by keys.
use Rattle.std.specs.Prelude.{◌≡◌, ℕ, ◌+◌, ◌<◌, ◌≤◌, true, false, List, [], ◌∷◌, ◌++◌, length, map, Some, slice_get, refl}
use Rattle.std.proofs.Common.{inl, inr, sym, ap, ◌∙◌, arith, length-append, true≢false}
use Rattle.std.proofs.lemmas.Option.{slice_get_within, same_Some, none-some}
use Rattle.std.proofs.lemmas.List.{get_or_append_left}
use Rattle.pv_graph.specs.declared.node.Op.{Op}
use Rattle.pv_graph.specs.declared.node.Node.{Node}
use Rattle.pv_graph.specs.Ops.{shape, is_theta}
use Rattle.pv_graph.specs.Nodes.{node_of}
use Rattle.pv_graph.specs.Calls.{IsDistinct}
use Rattle.pv_graph.specs.Graphs.{form_at}
use Rattle.pv_alike.specs.Partition.{IsFiner}
use Rattle.pv_graph.proofs.Cited.{form_there}
use Rattle.pv_alike.specs.Algorithm.{IsDense}
use Rattle.pv_alike.specs.Keys.{Keyed, number_at, theta_key}
use Rattle.pv_alike.proofs.Keying.{keyed_kept, keyed_distinct, keyed_few, keyed_cases, map_level, level_map, a_node, less_or_same}

-- the thetas below i have the classes of their keys
pub record IsClassing (g : List Node) (class number : ℕ → ℕ) (i : ℕ) (next : List ℕ) (keys : List Node) : Type 0 where
  pub long : length next ≡ i
  pub few : length keys ≤ i
  pub distinct : IsDistinct keys
  pub each : (n : ℕ) (node : Node) → n < i → slice_get g n ≡ Some node → is_theta (shape node.op) ≡ true → slice_get keys (number_at next n) ≡ Some (theta_key class number n node)
  pub met : (m : ℕ) → m < length keys → (n : ℕ) × (node : Node) × (n < i) × (slice_get g n ≡ Some node) × (is_theta (shape node.op) ≡ true) × (number_at next n ≡ m)

pub classing_none : (g : List Node) (class number : ℕ → ℕ) → IsClassing g class number 0 [] []
classing_none g class number = record {
  long = refl;
  few = omega arith;
  distinct = λ a b x e f. absurd (none-some x e);
  each = λ n node lt at is. absurd (omega arith);
  met = λ m lt. absurd (omega arith);
}

-- the number at the end
last_number : (xs : List ℕ) (v : ℕ) → number_at (xs ++ v ∷ []) (length xs) ≡ v
last_number [] v = refl
last_number (x ∷ xs) v = last_number xs v

front_number : (xs : List ℕ) (v n : ℕ) → n < length xs → number_at (xs ++ v ∷ []) n ≡ number_at xs n
front_number xs v n lt = get_or_append_left xs (v ∷ []) 0 n lt

module _ (g : List Node) (class number : ℕ → ℕ) (i : ℕ) (node : Node) (next : List ℕ) (keys : List Node) (node_is : slice_get g i ≡ Some node) (is : IsClassing g class number i next keys) where
  old_class : (v n : ℕ) → n < i → number_at (next ++ v ∷ []) n ≡ number_at next n
  old_class v n lt = front_number next v n (omega (arith, is.long))

  new_class : (v : ℕ) → number_at (next ++ v ∷ []) i ≡ v
  new_class v = ap (number_at (next ++ v ∷ [])) (sym is.long) ∙ last_number next v

  -- a node that is no theta
  pub classing_same : (v : ℕ) → is_theta (shape node.op) ≡ false → IsClassing g class number (i + 1) (next ++ v ∷ []) keys
  classing_same v flat = record {
    long = length-append next (v ∷ []) ∙ ap (λ (n : ℕ). n + 1) is.long;
    few = omega (arith, is.few);
    distinct = is.distinct;
    each = λ n x lt at theta. elim (less_or_same n i lt) [
      | inl before ↦ ap (slice_get keys) (old_class v n before) ∙ is.each n x before at theta
      | inr here ↦ let one : x ≡ node = same_Some x node (sym at ∙ ap (slice_get g) here ∙ node_is) in absurd (true≢false (sym theta ∙ ap (λ (y : Node). is_theta (shape y.op)) one ∙ flat))
    ];
    met = λ m lt. let h = is.met m lt in (h.0, h.1, omega (arith, h.2), h.3, h.4, old_class v h.0 h.2 ∙ h.5);
  }

  -- a theta
  module _ (theta : is_theta (shape node.op) ≡ true) (keys' : List Node) (v : ℕ) (put : Keyed keys keys' (theta_key class number i node) v) where
    pub classing_more : IsClassing g class number (i + 1) (next ++ v ∷ []) keys'
    classing_more = record {
      long = length-append next (v ∷ []) ∙ ap (λ (n : ℕ). n + 1) is.long;
      few = omega (arith, is.few, keyed_few keys keys' (theta_key class number i node) v put);
      distinct = keyed_distinct keys keys' (theta_key class number i node) v put is.distinct;
      each = λ n x lt at is_one. elim (less_or_same n i lt) [
        | inl before ↦ ap (slice_get keys') (old_class v n before) ∙ keyed_kept keys keys' (theta_key class number i node) v put (number_at next n) (theta_key class number n x) (is.each n x before at is_one)
        | inr here ↦
            let one : x ≡ node = same_Some x node (sym at ∙ ap (slice_get g) here ∙ node_is) in
            ap (λ (j : ℕ). slice_get keys' (number_at (next ++ v ∷ []) j)) here ∙ ap (slice_get keys') (new_class v) ∙ put.there
            ∙ ap (λ (j : ℕ). Some (theta_key class number j node)) (sym here) ∙ ap (λ (y : Node). Some (theta_key class number n y)) (sym one)
      ];
      met = λ m lt. elim (keyed_cases keys keys' (theta_key class number i node) v put m lt) [
        | inl old ↦ let h = is.met m old in (h.0, h.1, omega (arith, h.2), h.3, h.4, old_class v h.0 h.2 ∙ h.5)
        | inr e ↦ (i, node, omega arith, node_is, theta, new_class v ∙ sym e)
      ];
    }

module _ (g : List Node) (class number : ℕ → ℕ) (next : List ℕ) (keys : List Node) (is : IsClassing g class number (length g) next keys) where
  theta_at : (n : ℕ) (node : Node) → slice_get g n ≡ Some node → is_theta (shape node.op) ≡ true → slice_get keys (number_at next n) ≡ Some (theta_key class number n node)
  theta_at n node at theta = is.each n node (slice_get_within g n node at) at theta

  pub classing_finer : IsFiner (form_at g) class number (number_at next)
  classing_finer = record {
    finer = λ a b o p ks ls x y.
        let m = a_node g true a o ks x in
        let n = a_node g true b p ls y in
        let left : theta_key class number a m.0 ≡ node_of o (class a ∷ map number ks) = ap (λ (q : Op). node_of q (class a ∷ map number m.0.kids)) m.2 ∙ ap (λ (zs : List ℕ). node_of o (class a ∷ map number zs)) m.3 in
        let right : theta_key class number b n.0 ≡ node_of p (class b ∷ map number ls) = ap (λ (q : Op). node_of q (class b ∷ map number n.0.kids)) n.2 ∙ ap (λ (zs : List ℕ). node_of p (class b ∷ map number zs)) n.3 in (
          (λ e.
              let z : node_of o (class a ∷ map number ks) ≡ node_of p (class b ∷ map number ls) =
              sym left ∙ same_Some (theta_key class number a m.0) (theta_key class number b n.0) (sym (theta_at a m.0 m.1 m.4) ∙ ap (slice_get keys) e ∙ theta_at b n.0 n.1 n.4) ∙ right in
              let kids : class a ∷ map number ks ≡ class b ∷ map number ls = ap (λ (w : Node). w.kids) z in
              ((let c : class a ≡ class b = cc in c), ap (λ (w : Node). w.op) z, map_level number ks ls (let c : map number ks ≡ map number ls = cc in c))),
          (λ h.
              is.distinct (number_at next a) (number_at next b) (theta_key class number a m.0) (theta_at a m.0 m.1 m.4)
              (theta_at b n.0 n.1 n.4 ∙ ap Some (right ∙ ap (λ (c : ℕ). node_of p (c ∷ map number ls)) (sym h.0) ∙ ap (λ (q : Op). node_of q (class a ∷ map number ls)) (sym h.1) ∙ ap (λ (zs : List ℕ). node_of o (class a ∷ zs)) (sym (level_map number ks ls h.2)) ∙ sym left))),
        );
  }

  pub classing_dense : IsDense (form_at g) (number_at next) (length keys)
  classing_dense = record {
    low = λ a o ks x. let m = a_node g true a o ks x in slice_get_within keys (number_at next a) (theta_key class number a m.0) (theta_at a m.0 m.1 m.4);
    each = λ c lt. let h = is.met c lt in (h.0, h.1.op, h.1.kids, (form_there g h.0 h.1 h.3, h.4), h.5);
  }
