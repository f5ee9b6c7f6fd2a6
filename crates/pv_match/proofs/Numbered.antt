-- Classes by number: the number of a class is its least node.
use Rattle.std.proofs.Common.{◌≡◌, ℕ, zero, suc, ◌<◌, List, [], ◌∷◌, map, Option, Some, None, slice_get, option_map, inl, inr, refl, sym, ap, ◌∙◌, subst, arith}
use Rattle.std.specs.List.{AllByRecursion}
use Rattle.std.proofs.lemmas.Option.{slice_get_within, slice_get-get_or, slice_get-map}
use Rattle.pv_value.specs.Spelled.{bind}
use Rattle.pv_graph.specs.declared.node.Op.{Op}
use Rattle.pv_graph.specs.Walks.{In}
use Rattle.pv_graph.specs.Graphs.{Graph}
use Rattle.pv_marks.specs.Classes.{class_of, HasForm}
use Rattle.pv_heights.specs.Sides.{ClassHas}
use Rattle.pv_heights.specs.Searches.{nodes, IsNode, OneClass}
use Rattle.pv_match.specs.Agreeing.{AreLeast}
use Rattle.pv_heights.proofs.Cited.{base_is_node, graph_whole, nodes_closed}

pub all_in : {A : Type 0} (P : A → Type 0) (xs : List A) → ((x : A) → In xs x → P x) → AllByRecursion P xs
all_in P [] h = tt
all_in P (x ∷ xs) h = (h x (inl refl), all_in P xs (λ y i. h y (inr i)))

pub all_get : {A : Type 0} (P : A → Type 0) (xs : List A) → ((j : ℕ) (x : A) → slice_get xs j ≡ Some x → P x) → AllByRecursion P xs
all_get P [] h = tt
all_get P (x ∷ xs) h = (h zero x refl, all_get P xs (λ j y e. h (suc j) y e))

pub all_at : {A : Type 0} (P : A → Type 0) (xs : List A) → AllByRecursion P xs → (j : ℕ) (x : A) → slice_get xs j ≡ Some x → P x
all_at P [] h j x e = absurd (cc)
all_at P (y ∷ xs) h zero x e = subst P (some_once_ e) h.0
  where
    some_once_ : {A : Type 0} {a b : A} → Some a ≡ Some b → a ≡ b
    some_once_ e = cc
all_at P (y ∷ xs) h (suc j) x e = all_at P xs h.1 j x e

pub In-map : (f : ℕ → ℕ) (xs : List ℕ) (y : ℕ) → In (map f xs) y → (x : ℕ) × In xs x × (f x ≡ y)
In-map f [] y i = absurd i
In-map f (x ∷ xs) y (inl e) = (x, inl refl, e)
In-map f (x ∷ xs) y (inr i) = let r = In-map f xs y i in (r.0, inr r.1, r.2)

pub some_once : {A : Type 0} {a b : A} → Some a ≡ Some b → a ≡ b
some_once e = cc

pub bind_some : {A B : Type 0} (f : Option A) (h : A → Option B) (b : B) → bind f h ≡ Some b → (a : A) × (f ≡ Some a) × (h a ≡ Some b)
bind_some None h b e = absurd (cc)
bind_some (Some a) h b e = (a, refl, e)

pub no_kids : (f : ℕ → ℕ) (ks : List ℕ) → map f ks ≡ [] → ks ≡ []
no_kids f [] e = refl
no_kids f (k ∷ ks) e = absurd (cc)

module _ (g : Graph) (numbers : List ℕ) (a : AreLeast g numbers) where
  abbrev pub J : ℕ → ℕ → Type 0
  J = OneClass numbers

  -- a node that is the number of its class
  abbrev pub IsNumber : ℕ → Type 0
  IsNumber c = IsNode g c × (class_of numbers c ≡ c)

  pub get_class : (n : ℕ) → IsNode g n → slice_get numbers n ≡ Some (class_of numbers n)
  get_class n l = slice_get-get_or numbers n 0 (subst (λ k. n < k) (sym a.long) l)

  pub number_of : (n : ℕ) → IsNode g n → IsNumber (class_of numbers n)
  number_of n l = let b = a.low n l in (omega (arith, b, l), a.least n l)

  pub one : (m n : ℕ) → IsNode g m → IsNode g n → class_of numbers m ≡ class_of numbers n → J m n
  one m n k l e = (class_of numbers n, get_class m k ∙ ap Some e, get_class n l)

  pub is_node : (m n : ℕ) → J m n → IsNode g m × IsNode g n
  is_node m n j = (subst (λ l. m < l) a.long (slice_get_within numbers m j.0 j.1), subst (λ l. n < l) a.long (slice_get_within numbers n j.0 j.2))

  pub same_class : (m n : ℕ) → J m n → class_of numbers m ≡ class_of numbers n
  same_class m n j = let d = is_node m n j in some_once (sym (get_class m d.0) ∙ (j.1 ∙ (sym j.2 ∙ get_class n d.1)))

  -- the kids of a thing of a class are nodes
  pub kids_are : (t : ℕ) (o : Op) (ks : List ℕ) → ClassHas (nodes g) (IsNode g) J t o ks → AllByRecursion (IsNode g) ks
  kids_are t o ks c = all_in (IsNode g) ks (λ k i. nodes_closed g (graph_whole g a.graph) c.thing o ks k c.is c.has i)

  pub form_has : (c : ℕ) (o : Op) (cs : List ℕ) → HasForm g numbers c o cs → (t : ℕ) → IsNode g t → class_of numbers t ≡ c
      → (ks : List ℕ) × ClassHas (nodes g) (IsNode g) J t o ks × (map (class_of numbers) ks ≡ cs)
  form_has c o cs h t l e =
      let n = base_is_node g h.node (o, h.kids, h.is) in
      (h.kids, record { thing = h.node; is = n; joins = one h.node t n l (h.here ∙ sym e); has = h.is }, h.classes)

  pub has_form : (t : ℕ) (o : Op) (ks : List ℕ) → ClassHas (nodes g) (IsNode g) J t o ks → HasForm g numbers (class_of numbers t) o (map (class_of numbers) ks)
  has_form t o ks c = record { node = c.thing; kids = ks; is = c.has; here = same_class c.thing t c.joins; classes = refl }

  pub mapped_class : (xs : List ℕ) (j x : ℕ) → slice_get xs j ≡ Some x → slice_get (map (class_of numbers) xs) j ≡ Some (class_of numbers x)
  mapped_class xs j x e = slice_get-map (class_of numbers) xs j ∙ ap (option_map (class_of numbers)) e
