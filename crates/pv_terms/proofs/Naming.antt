-- One name more.
use Rattle.std.proofs.Common.{◌≡◌, ℕ, ◌<◌, List, [], ◌∷◌, ◌++◌, length, Some, slice_get, ◌⊎◌, inl, inr, ⊎_elim, refl, sym, ap, ◌∙◌, subst, arith}
use Rattle.pv_terms.proofs.Words.{slice_get_within, OpSort, get_last, begun_extends, node_of, In, Graph, IsGraph, Begun, Named, named, IsTheta, AreNames, Within, IsOfSort, IsUnnamed, StayNames}
use Rattle.pv_graph.specs.declared.node.Op.TheVariants as op
use Rattle.pv_terms.proofs.Reading.{names_stand, extends_stand}

-- a name of the longer list is one of the others, or the last
pushed : (names : List Named) (x y : Named) → In (names ++ x ∷ []) y → In names y ⊎ (x ≡ y)
pushed [] x y (inl e) = inr e
pushed [] x y (inr e) = absurd e
pushed (z ∷ names) x y (inl e) = inl (inl e)
pushed (z ∷ names) x y (inr i) = ⊎_elim (λ j. inl (inr j)) (λ e. inr e) (pushed names x y i)

pub names_within : (names more : List Named) → Within names (names ++ more)
names_within names more h s n i = front names i
  where
    front : (names : List Named) → In names (named h s n) → In (names ++ more) (named h s n)
    front [] i = absurd i
    front (z ∷ names) (inl e) = inl e
    front (z ∷ names) (inr i) = inr (front names i)

pub name_last : (names : List Named) (x : Named) → In (names ++ x ∷ []) x
name_last [] x = inl refl
name_last (z ∷ names) x = inr (name_last names x)

pub begun_theta : (old new : Graph) (d : ℕ) (s : OpSort) (n : ℕ) → Begun old new d s n → slice_get new.nodes n ≡ Some (node_of (op.Theta d) [])
begun_theta old new d s n begun = ap (λ (g : Graph). slice_get g.nodes n) begun.grows ∙ ap (slice_get (old.nodes ++ node_of (op.Theta d) [] ∷ [])) begun.number ∙ get_last old.nodes (node_of (op.Theta d) [])

pub begun_sort : (old new : Graph) (d : ℕ) (s : OpSort) (n : ℕ) → IsGraph old → Begun old new d s n → IsOfSort new n s
begun_sort old new d s n is begun = ap (λ (g : Graph). slice_get g.sorts n) begun.grows ∙ ap (slice_get (old.sorts ++ s ∷ [])) (begun.number ∙ sym is.long) ∙ get_last old.sorts s

module _ (old new : Graph) (names : List Named) (h s d : ℕ) (t : OpSort) (n : ℕ) (is : IsGraph old) (begun : Begun old new d t n) (fresh : IsUnnamed names h s) where
  abbrev more : List Named
  more = names ++ named h s n ∷ []

  -- a node that has a name is an old one
  old_node : (depth : ℕ → ℕ) → AreNames depth old.nodes names → (k u m : ℕ) → In names (named k u m) → m ≡ n → ⊥
  old_node depth are k u m i e =
      let z = are.thetas k u m i in
      let low : m < length old.nodes = slice_get_within old.nodes m (node_of (op.Theta (depth k)) z.0) z.1 in
      let number = begun.number in
      absurd (omega arith)

  header_is : (k u m : ℕ) → named h s n ≡ named k u m → h ≡ k
  header_is k u m e = ap (λ (x : Named). x.header) e

  slot_is : (k u m : ℕ) → named h s n ≡ named k u m → s ≡ u
  slot_is k u m e = ap (λ (x : Named). x.slot) e

  node_is : (k u m : ℕ) → named h s n ≡ named k u m → n ≡ m
  node_is k u m e = ap (λ (x : Named). x.node) e

  pub stay_names : StayNames old names h d new more
  stay_names depth deep are = record {
    thetas = λ k u m i. ⊎_elim
        (λ j. (names_stand depth old.nodes new.nodes names (extends_stand old new (begun_extends old new d t n is begun)) are).thetas k u m j)
        (λ e. subst (λ (m : ℕ). IsTheta new.nodes (depth k) m) (node_is k u m e) (subst (λ (k : ℕ). IsTheta new.nodes (depth k) n) (header_is k u m e) (subst (λ (d : ℕ). IsTheta new.nodes d n) (sym deep) ([], begun_theta old new d t n begun))))
        (pushed names (named h s n) (named k u m) i);
    one_name = λ k u l w m i j. ⊎_elim
        (λ a. ⊎_elim
        (λ b. are.one_name k u l w m a b)
        (λ b. absurd (old_node depth are k u m a (sym (node_is l w m b))))
        (pushed names (named h s n) (named l w m) j))
        (λ a. ⊎_elim
        (λ b. absurd (old_node depth are l w m b (sym (node_is k u m a))))
        (λ b. (sym (header_is k u m a) ∙ header_is l w m b, sym (slot_is k u m a) ∙ slot_is l w m b))
        (pushed names (named h s n) (named l w m) j))
        (pushed names (named h s n) (named k u m) i);
    one_node = λ k u m l i j. ⊎_elim
        (λ a. ⊎_elim
        (λ b. are.one_node k u m l a b)
        (λ b. absurd (was_fresh k u m a (header_is k u l b) (slot_is k u l b)))
        (pushed names (named h s n) (named k u l) j))
        (λ a. ⊎_elim
        (λ b. absurd (was_fresh k u l b (header_is k u m a) (slot_is k u m a)))
        (λ b. sym (node_is k u m a) ∙ node_is k u l b)
        (pushed names (named h s n) (named k u l) j))
        (pushed names (named h s n) (named k u m) i);
  }
    where
      was_fresh : (k u m : ℕ) → In names (named k u m) → h ≡ k → s ≡ u → ⊥
      was_fresh k u m i p q = fresh m (subst (λ (u : ℕ). In names (named h u m)) (sym q) (subst (λ (k : ℕ). In names (named k u m)) (sym p) i))
