-- The search for the nodes after the first ones in which a depth is free.
use Rattle.std.specs.Prelude.{◌≡◌, ◌⊎◌, ◌↔◌, ℕ, zero, suc, ◌+◌, ◌-◌, ◌<◌, ◌≤◌, Bool, true, IsTrue, List, [], ◌∷◌, ◌++◌, length, Some, slice_get, take, drop, refl}
use Rattle.std.proofs.Common.{inl, inr, sym, ap, ◌∙◌, subst, arith, get_or, length-append, take_all}
use Rattle.std.proofs.lemmas.Option.{slice_get_within, same_Some}
use Rattle.std.proofs.lemmas.List.{take_more, length-take-le, length-drop}
use Rattle.pv_graph.specs.declared.node.Op.{Op}
use Rattle.pv_graph.specs.declared.node.Node.{Node}
use Rattle.pv_graph.specs.declared.reach.Use.{Use}
use Rattle.pv_graph.specs.declared.reach.Look.{Look}
use Rattle.pv_graph.specs.declared.reach.Look.TheVariants as look
use Rattle.pv_graph.proofs.Elements.{found, push_cases, get_front, get_last}
use Rattle.pv_graph.specs.Graphs.{form_at}
use Rattle.pv_graph.specs.Walks.{Free, here, below}
use Rattle.pv_graph.specs.Reach.{begins, follows, Uses, IsMarked, AreUsesFrom, AreReached, AreOut, BeginsOrMeets, IsBegunAfter, AreBegunAfter, AreFree, AreFreeAfter, Hits, KidsWithin, AllKidsWithin}
use Rattle.pv_graph.specs.Reach as hits
use Rattle.pv_graph.proofs.NodeLaws.{node_at, form_there, low_or_high}
use Rattle.pv_graph.proofs.Marking.{begins_theta, theta_begins, open_in, open_place, out_free}

-- ---- lists

pub get_drop : {X : Type 0} → (k : ℕ) (xs : List X) (i : ℕ) → slice_get (drop k xs) i ≡ slice_get xs (k + i)
get_drop zero xs i = ap (slice_get xs) (let z : i ≡ 0 + i = omega arith in z)
get_drop (suc k) [] i = refl
get_drop (suc k) (x ∷ xs) i = get_drop k xs i ∙ ap (slice_get (x ∷ xs)) (let z : suc (k + i) ≡ suc k + i = omega arith in z)

-- what is left of a list after its first elements
pub rest_is : {X : Type 0} → (xs : List X) (k : ℕ) → take (length xs - k) (drop k xs) ≡ drop k xs
rest_is xs k = take_all (length xs - k) (drop k xs) (let z = length-drop k xs in omega arith)

-- an element of two lists one after the other is one of the first, or of the second
pub append_cases : {X : Type 0} → (xs ys : List X) (n : ℕ) (x : X) → slice_get (xs ++ ys) n ≡ Some x → (slice_get xs n ≡ Some x) ⊎ ((i : ℕ) × (n ≡ length xs + i) × (slice_get ys i ≡ Some x))
append_cases [] ys n x e = inr (n, omega arith, e)
append_cases (y ∷ xs) ys zero x e = inl e
append_cases (y ∷ xs) ys (suc n) x e = elim (append_cases xs ys n x e) [ inl a ↦ inl a | inr r ↦ inr (r.0, omega (arith, r.1), r.2) ]

-- ---- the starts

begun_after_front : (known : List Bool) (nodes : List Node) (node : Node) (l : Look) (n : ℕ) → IsBegunAfter known nodes l n → IsBegunAfter known (nodes ++ node ∷ []) l n
begun_after_front known nodes node l n b = (b.0, get_front nodes node n (slice_get_within nodes n b.0 b.1) ∙ b.1, b.2)

module _ (known : List Bool) (nodes : List Node) (l : Look) (i : ℕ) (node : Node) (lt : i < length nodes) (is_node : node ≡ get_or nodes i node) (b : Bool) (is_b : IsTrue b ↔ BeginsOrMeets known l node) where
  short : length (take i nodes) ≡ i
  short = length-take-le i nodes (omega arith)

  taken : take (i + 1) nodes ≡ take i nodes ++ node ∷ []
  taken = take_more nodes i node lt ∙ ap (λ (x : Node). take i nodes ++ x ∷ []) (sym is_node)

  pub begun_after_more : (starts : List Bool) → AreBegunAfter known (take i nodes) l starts → AreBegunAfter known (take (i + 1) nodes) l (starts ++ b ∷ [])
  begun_after_more starts is = subst (λ (xs : List Node). AreBegunAfter known xs l (starts ++ b ∷ [])) (sym taken) (record {
    long = length-append starts (b ∷ []) ∙ ap (λ (n : ℕ). n + 1) is.long ∙ sym (length-append (take i nodes) (node ∷ []));
    says = λ n. (
      (λ m. elim (push_cases starts b true n m) [
        | inl x ↦ begun_after_front known (take i nodes) node l n ((is.says n).0 x)
        | inr y ↦
            let at : n ≡ i = y.0 ∙ is.long ∙ short in
            (node, ap (slice_get (take i nodes ++ node ∷ [])) (at ∙ sym short) ∙ get_last (take i nodes) node, is_b.0 y.1)
      ]),
      (λ g. elim (push_cases (take i nodes) node g.0 n g.1) [
        | inl x ↦ let h = (is.says n).1 (g.0, x, g.2) in get_front starts b n (slice_get_within starts n true h) ∙ h
        | inr y ↦
            let at : n ≡ length starts = y.0 ∙ sym is.long in
            ap (slice_get (starts ++ b ∷ [])) at ∙ get_last starts b ∙ ap Some (is_b.1 (subst (λ (x : Node). BeginsOrMeets known l x) (sym y.1) g.2))
      ]),
    );
  })

-- ---- the marks

module _ (nodes : List Node) (known : List Bool) (d : ℕ) (low : length known ≤ length nodes) (rest : List Node) (is_rest : rest ≡ drop (length known) nodes) (out : List Bool) (are_out : AreOut (length rest) [] out) (uses : Uses) (are_uses : AreUsesFrom (length known) rest out uses)
    (starts : List Bool) (begun : AreBegunAfter known rest (look.Free d) starts) (marks : List Bool) (reached : AreReached rest uses (look.Free d) starts marks) (is : AreFree nodes d known) where
  abbrev first : ℕ
  first = length known

  at_rest : (i : ℕ) → slice_get rest i ≡ slice_get nodes (first + i)
  at_rest i = ap (λ (xs : List Node). slice_get xs i) is_rest ∙ get_drop first nodes i

  hit_free : (i : ℕ) → Hits rest uses (look.Free d) starts i → Free (form_at nodes) d (first + i)
  hit_free i (hits.begin m s) =
      let b = (begun.says m).0 s in
      let there = form_there nodes (first + m) b.0 (sym (at_rest m) ∙ b.1) in
      elim b.2 [
        | inl t ↦ here (first + m) b.0.op b.0.kids there (begins_theta d b.0.op t)
        | inr met ↦ below (first + m) met.1 b.0.op b.0.kids there (open_in d b.0.op b.0.kids met.0 met.1 met.2 met.4) ((is.says met.1 true met.3).0 refl)
      ]
  hit_free i (hits.along m k u use_ passes e h) =
      let r = (are_uses k u).0 use_ in
      let same : passes.0 ≡ r.0 = same_Some passes.0 r.0 (sym passes.1 ∙ r.1) in
      let there = form_there nodes (first + u.node) r.0 (sym (at_rest u.node) ∙ r.1) in
      let counts = open_in d r.0.op r.0.kids u.place (first + k) r.3 (ap (λ (x : Node). follows (look.Free d) x.op u.place) (sym same) ∙ passes.2) in
      subst (λ (j : ℕ). Free (form_at nodes) d (first + j)) e (below (first + u.node) (first + k) r.0.op r.0.kids there counts (hit_free k h))

  marked : (k : ℕ) → k < first → Free (form_at nodes) d k → IsMarked known k
  marked k lt free = let b = found known k lt in b.1 ∙ ap Some ((is.says k b.0 b.1).1 free)

  free_hit : (n : ℕ) → Free (form_at nodes) d n → (i : ℕ) → n ≡ first + i → Hits rest uses (look.Free d) starts i
  free_hit n (here m o ks e s) i same =
      let node = node_at nodes m o ks e in
      let at = at_rest i ∙ ap (slice_get nodes) (sym same) ∙ node.1 in
      hits.begin i ((begun.says i).1 (node.0, at, inl (ap (λ (x : Op). begins (look.Free d) x) node.2 ∙ theta_begins d o s)))
  free_hit n (below m k o ks e counts h) i same =
      let node = node_at nodes m o ks e in
      let at = at_rest i ∙ ap (slice_get nodes) (sym same) ∙ node.1 in
      let r = open_place d o ks k counts in
      let kid : slice_get node.0.kids r.0 ≡ Some k = ap (λ (xs : List ℕ). slice_get xs r.0) node.3 ∙ r.1 in
      let f : follows (look.Free d) node.0.op r.0 ≡ true = ap (λ (x : Op). follows (look.Free d) x r.0) node.2 ∙ r.2 in
      elim (low_or_high k first) [
        | inl lt ↦ hits.begin i ((begun.says i).1 (node.0, at, inr (r.0, k, kid, marked k lt h, f)))
        | inr le ↦
            let j : ℕ = k - first in
            let is_k : k ≡ first + j = omega arith in
            let u : Use = record { node = i; place = r.0 } in
            let clear = out_free (length rest) [] out are_out i (slice_get_within rest i node.0 at) (λ z. z) in
            hits.along i j u ((are_uses j u).1 (node.0, at, clear, kid ∙ ap Some is_k)) (node.0, at, f) refl (free_hit k h j is_k)
      ]

  says : (n : ℕ) (b : Bool) → slice_get (known ++ marks) n ≡ Some b → IsTrue b ↔ Free (form_at nodes) d n
  says n b at = elim (append_cases known marks n b at) [
    | inl x ↦ is.says n b x
    | inr r ↦ (
      (λ t. subst (λ (k : ℕ). Free (form_at nodes) d k) (sym r.1) (hit_free r.0 ((reached.says r.0).0 (r.2 ∙ ap Some t)))),
      (λ free. same_Some b true (sym r.2 ∙ (reached.says r.0).1 (free_hit n free r.0 r.1))),
    )
  ]

  pub free_after : (length (known ++ marks) ≡ length nodes) × AreFree nodes d (known ++ marks)
  free_after =
      let rest_long : length rest ≡ length nodes - first = ap (λ (xs : List Node). length xs) is_rest ∙ length-drop first nodes in
      let long : length (known ++ marks) ≡ length nodes = (let z = length-append known marks in let y = reached.long in omega arith) in
      (long, record { low = omega (arith, long); says = says })
