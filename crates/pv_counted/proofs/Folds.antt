-- Equal nodes made one unfold as they did.
use Rattle.std.specs.Prelude.{◌≡◌, ◌<◌, ◌≤◌, ◌+◌, ℕ, zero, suc, List, [], ◌∷◌, ◌++◌, length, map, Some, slice_get, refl}
use Rattle.std.proofs.Common.{inl, inr, sym, ap, ◌∙◌, subst, arith, get_or, length-append, take}
use Rattle.std.proofs.lemmas.Option.{slice_get_within, same_Some, none-some}
use Rattle.std.proofs.lemmas.List.{take_more}
use Rattle.pv_graph.specs.declared.node.Op.{Op}
use Rattle.pv_graph.specs.declared.node.Node.{Node}
use Rattle.pv_graph.specs.Forms.{form}
use Rattle.pv_graph.specs.Walks.{In}
use Rattle.pv_graph.specs.Graphs.{form_at}
use Rattle.pv_graph.proofs.Cited.{found, form_there, node_at, push_cases}
use Rattle.pv_alike.specs.Least.{UnfoldsAs}
use Rattle.pv_alike.specs.Keys.{Keyed, number_at, over_numbers}
use Rattle.pv_alike.specs.Partition.{IsQuotient}
use Rattle.pv_alike.proofs.Keying.{keyed_kept, keyed_distinct, keyed_few, keyed_cases}
use Rattle.pv_alike.proofs.Refined.{quotient_unfolds}
use Rattle.pv_counted.specs.Folding.{KidsAreNodes, ArePlaces, IsFolded}

-- ---- places

pub places_none : ArePlaces [] [] []
places_none = record {
  long = refl;
  few = omega arith;
  distinct = λ a b x e f. absurd (none-some x e);
  each = λ n node e. absurd (none-some node e);
  met = λ m lt. absurd (omega (arith, lt));
  all = λ le. refl;
}

number_front : (xs : List ℕ) (x n : ℕ) → n < length xs → number_at (xs ++ x ∷ []) n ≡ number_at xs n
number_front [] x n lt = absurd (omega (arith, lt))
number_front (y ∷ xs) x zero lt = refl
number_front (y ∷ xs) x (suc n) lt = number_front xs x n (omega (arith, lt))

number_last : (xs : List ℕ) (x : ℕ) → number_at (xs ++ x ∷ []) (length xs) ≡ x
number_last [] x = refl
number_last (y ∷ xs) x = number_last xs x

module _ (nodes : List Node) (places : List ℕ) (kept kept' : List Node) (node : Node) (v : ℕ) (is : ArePlaces nodes places kept) (put : Keyed kept kept' node v) where
  each : (n : ℕ) (x : Node) → slice_get (nodes ++ node ∷ []) n ≡ Some x → slice_get kept' (number_at (places ++ v ∷ []) n) ≡ Some x
  each n x e = elim (push_cases nodes node x n e) [
    | inl old ↦
        let lt : n < length places = (let z = slice_get_within nodes n x old in let y = is.long in omega (arith, z, y)) in
        ap (slice_get kept') (number_front places v n lt) ∙ keyed_kept kept kept' node v put (number_at places n) x (is.each n x old)
    | inr new ↦
        let at : n ≡ length places = new.0 ∙ sym is.long in
        ap (λ (k : ℕ). slice_get kept' (number_at (places ++ v ∷ []) k)) at ∙ ap (slice_get kept') (number_last places v) ∙ put.there ∙ ap Some new.1
  ]

  met : (m : ℕ) → m < length kept' → (n : ℕ) × (n < length (nodes ++ node ∷ [])) × (number_at (places ++ v ∷ []) n ≡ m)
  met m lt = elim (keyed_cases kept kept' node v put m lt) [
    | inl old ↦ let h = is.met m old in (h.0, omega (arith, h.1, length-append nodes (node ∷ [])), number_front places v h.0 (omega (arith, h.1, is.long)) ∙ h.2)
    | inr e ↦ (length places, omega (arith, is.long, length-append nodes (node ∷ [])), number_last places v ∙ sym e)
  ]

  all : length (nodes ++ node ∷ []) ≤ length kept' → kept' ≡ nodes ++ node ∷ []
  all le = elim put.grows [
    | inl same ↦ absurd (omega (arith, le, ap length same, is.few, length-append nodes (node ∷ [])))
    | inr more ↦ more.1 ∙ ap (λ (xs : List Node). xs ++ node ∷ []) (is.all (omega (arith, le, ap length more.1, length-append kept (node ∷ []), length-append nodes (node ∷ []))))
  ]

  pub places_more : ArePlaces (nodes ++ node ∷ []) (places ++ v ∷ []) kept'
  places_more = record {
    long = length-append places (v ∷ []) ∙ ap (λ (k : ℕ). k + 1) is.long ∙ sym (length-append nodes (node ∷ []));
    few = omega (arith, is.few, keyed_few kept kept' node v put, length-append nodes (node ∷ []));
    distinct = keyed_distinct kept kept' node v put is.distinct;
    each = each;
    met = met;
    all = all;
  }

pub places_step : (nodes : List Node) (i : ℕ) (places : List ℕ) (kept kept' : List Node) (node : Node) (v : ℕ) → i < length nodes → node ≡ get_or nodes i node → ArePlaces (take i nodes) places kept → Keyed kept kept' node v
    → ArePlaces (take (i + 1) nodes) (places ++ v ∷ []) kept'
places_step nodes i places kept kept' node v lt at is put =
    subst (λ (xs : List Node). ArePlaces xs (places ++ v ∷ []) kept') (sym (take_more nodes i node lt ∙ ap (λ (x : Node). take i nodes ++ x ∷ []) (sym at))) (places_more (take i nodes) places kept kept' node v is put)

-- ---- nodes over places

in_map : (f : ℕ → ℕ) (ks : List ℕ) (k : ℕ) → In (map f ks) k → (j : ℕ) × In ks j × (f j ≡ k)
in_map f [] k m = absurd m
in_map f (j ∷ ks) k (inl e) = (j, inl refl, e)
in_map f (j ∷ ks) k (inr m) = let r = in_map f ks k m in (r.0, inr r.1, r.2)

length_map : {A B : Type 0} → (f : A → B) (xs : List A) → length (map f xs) ≡ length xs
length_map f [] = refl
length_map f (x ∷ xs) = ap suc (length_map f xs)

get_map : {A B : Type 0} → (f : A → B) (xs : List A) (n : ℕ) (x : A) → slice_get xs n ≡ Some x → slice_get (map f xs) n ≡ Some (f x)
get_map f [] n x e = absurd (none-some x e)
get_map f (y ∷ xs) zero x e = ap Some (ap f (same_Some y x e))
get_map f (y ∷ xs) (suc n) x e = get_map f xs n x e

map_get : {A B : Type 0} → (f : A → B) (xs : List A) (n : ℕ) (z : B) → slice_get (map f xs) n ≡ Some z → (x : A) × (slice_get xs n ≡ Some x) × (f x ≡ z)
map_get f [] n z e = absurd (none-some z e)
map_get f (y ∷ xs) zero z e = (y, refl, same_Some (f y) z e)
map_get f (y ∷ xs) (suc n) z e = map_get f xs n z e

-- the kids of nodes without repetitions have places
pub kept_low : (nodes : List Node) (places : List ℕ) (kept : List Node) → KidsAreNodes nodes → ArePlaces nodes places kept → (n k : ℕ) (node : Node) → slice_get kept n ≡ Some node → In node.kids k → k < length places
kept_low nodes places kept within is n k node e m =
    let o = is.met n (slice_get_within kept n node e) in
    let x = found nodes o.0 o.1 in
    let same : x.0 ≡ node = same_Some x.0 node (sym (is.each o.0 x.0 x.1) ∙ ap (slice_get kept) o.2 ∙ e) in
    let lt = within o.0 k x.0 x.1 (subst (λ (y : Node). In y.kids k) (sym same) m) in
    omega (arith, lt, is.long)

module _ (mid : List Node) (places : List ℕ) (kept : List Node) (within : KidsAreNodes mid) (is : ArePlaces mid places kept) where
  abbrev place : ℕ → ℕ
  place = number_at places

  abbrev pub over_kept : List Node
  over_kept = map (over_numbers place) kept

  long : length over_kept ≡ length kept
  long = length_map (over_numbers place) kept

  place_low : (n : ℕ) → n < length mid → place n < length over_kept
  place_low n lt = let x = found mid n lt in let z = slice_get_within kept (place n) x.0 (is.each n x.0 x.1) in omega (arith, z, long)

  quotient : IsQuotient (form_at mid) place (form_at over_kept)
  quotient n o ks e =
      let x = node_at mid n o ks e in
      form_there over_kept (place n) (over_numbers place x.0) (get_map (over_numbers place) kept (place n) x.0 (is.each n x.0 x.1))
      ∙ ap (λ (p : Op). Some (form p (map place x.0.kids))) x.2 ∙ ap (λ (zs : List ℕ). Some (form o (map place zs))) x.3

  kid_there : (n k : ℕ) (o : Op) (ks : List ℕ) → form_at mid n ≡ Some (form o ks) → In ks k → (p : Op) × (ls : List ℕ) × (form_at mid k ≡ Some (form p ls))
  kid_there n k o ks e m =
      let x = node_at mid n o ks e in
      let y = found mid k (within n k x.0 x.1 (subst (λ (zs : List ℕ). In zs k) (sym x.3) m)) in
      (y.0.op, y.0.kids, form_there mid k y.0 y.1)

  place_unfolds : (n : ℕ) → n < length mid → UnfoldsAs over_kept (place n) mid n
  place_unfolds n lt = let x = found mid n lt in quotient_unfolds (form_at mid) kid_there place (form_at over_kept) quotient n x.0.op x.0.kids (form_there mid n x.0 x.1)

  over_within : KidsAreNodes over_kept
  over_within n k node e m =
      let x = map_get (over_numbers place) kept n node e in
      let j = in_map place x.0.kids k (subst (λ (y : Node). In y.kids k) (sym x.2) m) in
      let low = kept_low mid places kept within is n j.0 x.0 x.1 j.1 in
      let z = place_low j.0 (omega (arith, low, is.long)) in
      omega (arith, z, j.2)

  over_origin : (old : List Node) → ((p : ℕ) → p < length mid → (n : ℕ) × (n < length old) × UnfoldsAs mid p old n) → (p : ℕ) → p < length over_kept → (n : ℕ) × (n < length old) × UnfoldsAs over_kept p old n
  over_origin old each p lt =
      let o = is.met p (omega (arith, lt, long)) in
      let r = each o.0 o.1 in
      (r.0, r.1, subst (λ (q : ℕ). UnfoldsAs over_kept q old r.0) o.2 (λ k. place_unfolds o.0 o.1 k ∙ r.2 k))

  pub folded_more : (old : List Node) (a b r s : ℕ) → IsFolded old a b mid r s → IsFolded old a b over_kept (place r) (place s)
  folded_more old a b r s f = record {
    few = omega (arith, f.few, is.few, long);
    within = over_within;
    first_low = place_low r f.first_low;
    second_low = place_low s f.second_low;
    first = λ k. place_unfolds r f.first_low k ∙ f.first k;
    second = λ k. place_unfolds s f.second_low k ∙ f.second k;
    each = over_origin old f.each;
  }

pub folded_none : (old : List Node) (a b : ℕ) → KidsAreNodes old → a < length old → b < length old → IsFolded old a b old a b
folded_none old a b within low low' = record {
  few = omega arith;
  within = within;
  first_low = low;
  second_low = low';
  first = λ k. refl;
  second = λ k. refl;
  each = λ p lt. (p, lt, λ k. refl);
}

pub folded_same : (old : List Node) (a b : ℕ) (xs ys : List Node) (r r' s s' : ℕ) → xs ≡ ys → r ≡ r' → s ≡ s' → IsFolded old a b ys r' s' → IsFolded old a b xs r s
folded_same old a b xs ys r r' s s' e f g is =
    subst (λ (zs : List Node). IsFolded old a b zs r s) (sym e) (subst (λ (x : ℕ). IsFolded old a b ys x s) (sym f) (subst (λ (y : ℕ). IsFolded old a b ys r' y) (sym g) is))
