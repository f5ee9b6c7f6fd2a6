-- Bindings that are added to others.
use Rattle.std.specs.Prelude.{◌≡◌, ◌⊎◌, ◌↔◌, ℕ, List, [], ◌∷◌, ◌++◌, map, length, Option, Some, slice_get, refl}
use Rattle.std.specs.List.{AllZip}
use Rattle.std.proofs.Common.{inl, inr, sym, ap, ◌∙◌, subst}
use Rattle.pv_graph.specs.Walks.{In}
use Rattle.pv_graph.specs.Forms.{form}
use Rattle.pv_graph.specs.Graphs.{Graph, form_at}
use Rattle.pv_graph.specs.declared.node.Op.{Op}
use Rattle.pv_graph.specs.declared.node.Op.TheVariants as op
use Rattle.pv_pattern.specs.declared.names.NameId.{NameId}
use Rattle.pv_pattern.specs.declared.names.NameId.TheVariants.{Constant, Operation}
use Rattle.pv_pattern.specs.Patterns.{bare, var, constant, over_each}
use Rattle.pv_pattern.specs.Numbers.{op_number}
use Rattle.pv_pattern.specs.Instances.{Names, constant_of}
use Rattle.pv_pattern.specs.Binding.{names}
use Rattle.pv_marks.specs.Classes.{class_of, HasForm}
use Rattle.pv_match.specs.declared.binding.Binding.{Binding}
use Rattle.pv_match.specs.Standing.{HoldsConstant, StandsIn}
use Rattle.pv_match.specs.Parameters.{once_more}
use Rattle.pv_match.specs.Bindings.{ShowsAt, Agrees, SomeAgrees, bound, Binds, NeverBinds, BindsVar, AddsWhere, AreMembers, IsConstantNode, IsConstantOf}
use Rattle.pv_match.specs.Reading.{reads}
use Rattle.pv_match.proofs.Naming.{once_append}

-- ---- lists

pub in_left : {X : Type 0} → (xs ys : List X) (x : X) → In xs x → In (xs ++ ys) x
in_left [] ys x m = absurd m
in_left (y ∷ xs) ys x (inl e) = inl e
in_left (y ∷ xs) ys x (inr m) = inr (in_left xs ys x m)

pub in_right : {X : Type 0} → (xs ys : List X) (x : X) → In ys x → In (xs ++ ys) x
in_right [] ys x m = m
in_right (y ∷ xs) ys x m = inr (in_right xs ys x m)

pub in_both : {X : Type 0} → (xs ys : List X) (x : X) → In (xs ++ ys) x → In xs x ⊎ In ys x
in_both [] ys x m = inr m
in_both (y ∷ xs) ys x (inl e) = inl (inl e)
in_both (y ∷ xs) ys x (inr m) = elim (in_both xs ys x m) [ inl h ↦ inl (inr h) | inr h ↦ inr h ]

module _ (g : Graph) (numbers : List ℕ) where
  abbrev Adds : List Binding → List Binding → Binding → (Names → Type 0) → List NameId → Option ℕ → Type 0
  Adds old new b P ns known = AddsWhere g numbers old new b P ns known

  pub more_agree : (m : Names) (old new : List Binding) → ((x : Binding) → In old x → In new x) → SomeAgrees g numbers m old → SomeAgrees g numbers m new
  more_agree m old new kept s = (s.0, kept s.0 s.1, s.2)

  pub adds_none : (old : List Binding) (b : Binding) (P : Names → Type 0) (ns : List NameId) (known : Option ℕ) → ((m : Names) → Agrees g numbers m b → P m → ⊥) → Adds old old b P ns known
  adds_none old b P ns known never = record {
    sound = λ m s. inl s;
    kept = λ x i. i;
    full = λ m a p. absurd (never m a p);
    shape = λ x i. inl i;
  }

  -- all the bindings of a list are added
  pub adds_all : (old more : List Binding) (b : Binding) (P : Names → Type 0) (ns : List NameId) (known : Option ℕ)
      → ((m : Names) → SomeAgrees g numbers m more ↔ (Agrees g numbers m b × P m))
      → ((x : Binding) → In more x → (bound x ≡ once_more (bound b) ns) × (known ≡ Some (length x.vars.items)))
      → Adds old (old ++ more) b P ns known
  adds_all old more b P ns known exact shape = record {
    sound = λ m s. elim (in_both old more s.0 s.1) [ inl i ↦ inl (s.0, i, s.2) | inr i ↦ inr ((exact m).0 (s.0, i, s.2)) ];
    kept = λ x i. in_left old more x i;
    full = λ m a p. let s = (exact m).1 (a, p) in (s.0, in_right old more s.0 s.1, s.2);
    shape = λ x i. elim (in_both old more x i) [ inl j ↦ inl j | inr j ↦ inr (shape x j) ];
  }

  pub adds_one : (old : List Binding) (new b : Binding) (P : Names → Type 0) (ns : List NameId) (known : Option ℕ)
      → ((m : Names) → Agrees g numbers m new ↔ (Agrees g numbers m b × P m)) → bound new ≡ once_more (bound b) ns → known ≡ Some (length new.vars.items)
      → Adds old (old ++ new ∷ []) b P ns known
  adds_one old new b P ns known exact is k = adds_all old (new ∷ []) b P ns known
      (λ m. (
        (λ s. elim s.1 [ inl e ↦ (exact m).0 (subst (λ (x : Binding). Agrees g numbers m x) (sym e) s.2) | inr i ↦ absurd i ]),
        (λ h. (new, inl refl, (exact m).1 h)),
      ))
      (λ x i. elim i [
        | inl e ↦ (sym (ap bound e) ∙ is, k ∙ ap (λ (y : Binding). Some (length y.vars.items)) e)
        | inr j ↦ absurd j
      ])

  pub adds_same : (old new : List Binding) (b : Binding) (P Q : Names → Type 0) (ns : List NameId) (known : Option ℕ)
      → ((m : Names) → Agrees g numbers m b → P m ↔ Q m) → Adds old new b P ns known → Adds old new b Q ns known
  adds_same old new b P Q ns known same is = record {
    sound = λ m s. elim (is.sound m s) [ inl x ↦ inl x | inr y ↦ inr (y.0, (same m y.0).0 y.1) ];
    kept = is.kept;
    full = λ m a q. is.full m a ((same m a).1 q);
    shape = is.shape;
  }

  pub adds_then : (old mid new : List Binding) (b : Binding) (P Q : Names → Type 0) (ns : List NameId) (known : Option ℕ)
      → Adds old mid b P ns known → Adds mid new b Q ns known → Adds old new b (λ m. P m ⊎ Q m) ns known
  adds_then old mid new b P Q ns known is then = record {
    sound = λ m s. elim (then.sound m s) [
      | inl x ↦ elim (is.sound m x) [ inl y ↦ inl y | inr y ↦ inr (y.0, inl y.1) ]
      | inr y ↦ inr (y.0, inr y.1)
    ];
    kept = λ x i. then.kept x (is.kept x i);
    full = λ m a h. elim h [ inl p ↦ more_agree m mid new then.kept (is.full m a p) | inr q ↦ then.full m a q ];
    shape = λ x i. elim (then.shape x i) [ inl j ↦ is.shape x j | inr h ↦ inr h ];
  }

  -- what is added from a further binding
  pub adds_through : (old new : List Binding) (from b : Binding) (P Q : Names → Type 0) (ms ns : List NameId) (known : Option ℕ)
      → ((m : Names) → Agrees g numbers m b ↔ (Agrees g numbers m from × Q m)) → bound b ≡ once_more (bound from) ms
      → Adds old new b P ns known → Adds old new from (λ m. Q m × P m) (ms ++ ns) known
  adds_through old new from b P Q ms ns known exact is adds = record {
    sound = λ m s. elim (adds.sound m s) [ inl x ↦ inl x | inr y ↦ let h = (exact m).0 y.0 in inr (h.0, (h.1, y.1)) ];
    kept = adds.kept;
    full = λ m a h. adds.full m ((exact m).1 (a, h.0)) h.1;
    shape = λ x i. elim (adds.shape x i) [
      | inl j ↦ inl j
      | inr h ↦ inr (h.0 ∙ (ap (λ (l : List NameId). once_more l ns) is ∙ sym (once_append (bound from) ms ns)), h.1)
    ];
  }

  -- ---- constants

  constant_shown : (m : Names) (j n : ℕ) → IsConstantNode g n → ShowsAt g numbers m (Constant j) n ↔ IsConstantOf g m j (n ∷ [])
  constant_shown m j n is = (
    (λ s.
        let same : Some (form s.0 s.1) ≡ Some (form is.0 []) = sym s.2 ∙ is.2 in
        let ops : s.0 ≡ is.0 = cc in
        (n, is.0, inl refl, is.2, subst (λ (o : Op). constant_of o ≡ Some (m.constants j)) ops s.3)),
    (λ h.
        let at : form_at g.nodes n ≡ Some (form h.1 []) = elim h.2 [ inl e ↦ ap (form_at g.nodes) e ∙ h.3 | inr i ↦ absurd i ] in
        (h.1, [], at, h.4)),
  )

  pub constant_added : (old mid : List Binding) (from new : Binding) (j n : ℕ) (before : List ℕ) → IsConstantNode g n
      → Adds old mid from (λ m. IsConstantOf g m j before) (Constant j ∷ []) (Some (length from.vars.items)) → Binds g numbers from (Constant j) n new
      → Adds old (mid ++ new ∷ []) from (λ m. IsConstantOf g m j (before ++ n ∷ [])) (Constant j ∷ []) (Some (length from.vars.items))
  constant_added old mid from new j n before is adds binds =
      adds_same old (mid ++ new ∷ []) from (λ m. IsConstantOf g m j before ⊎ ShowsAt g numbers m (Constant j) n) (λ m. IsConstantOf g m j (before ++ n ∷ [])) (Constant j ∷ []) (Some (length from.vars.items))
      (λ m a. (
        (λ h. elim h [
          | inl x ↦ (x.0, x.1, in_left before (n ∷ []) x.0 x.2, x.3, x.4)
          | inr s ↦ let y = (constant_shown m j n is).0 s in (y.0, y.1, in_right before (n ∷ []) y.0 y.2, y.3, y.4)
        ]),
        (λ x. elim (in_both before (n ∷ []) x.0 x.2) [ inl i ↦ inl (x.0, x.1, i, x.3, x.4) | inr i ↦ inr ((constant_shown m j n is).1 (x.0, x.1, i, x.3, x.4)) ]),
      ))
      (adds_then old mid (mid ++ new ∷ []) from (λ m. IsConstantOf g m j before) (λ m. ShowsAt g numbers m (Constant j) n) (Constant j ∷ []) (Some (length from.vars.items)) adds
      (adds_one mid new from (λ m. ShowsAt g numbers m (Constant j) n) (Constant j ∷ []) (Some (length from.vars.items)) binds.exact binds.bound_ (ap (λ (xs : List ℕ). Some (length xs)) (sym binds.vars))))

  pub constant_left : (old new : List Binding) (from : Binding) (j n : ℕ) (before : List ℕ)
      → ((m : Names) → Agrees g numbers m from → IsConstantOf g m j (n ∷ []) → ⊥)
      → Adds old new from (λ m. IsConstantOf g m j before) (Constant j ∷ []) (Some (length from.vars.items))
      → Adds old new from (λ m. IsConstantOf g m j (before ++ n ∷ [])) (Constant j ∷ []) (Some (length from.vars.items))
  constant_left old new from j n before never adds =
      adds_same old new from (λ m. IsConstantOf g m j before) (λ m. IsConstantOf g m j (before ++ n ∷ [])) (Constant j ∷ []) (Some (length from.vars.items))
      (λ m a. (
        (λ x. (x.0, x.1, in_left before (n ∷ []) x.0 x.2, x.3, x.4)),
        (λ x. elim (in_both before (n ∷ []) x.0 x.2) [ inl i ↦ (x.0, x.1, i, x.3, x.4) | inr i ↦ absurd (never m a (x.0, x.1, i, x.3, x.4)) ]),
      ))
      adds

  pub not_constant : (m : Names) (j n : ℕ) → (IsConstantNode g n → ⊥) → IsConstantOf g m j (n ∷ []) → ⊥
  not_constant m j n not x = elim x.2 [ inl e ↦ not (x.1, m.constants j, ap (form_at g.nodes) e ∙ x.3, x.4) | inr i ↦ absurd i ]

  pub never_constant : (from : Binding) (j n : ℕ) → IsConstantNode g n → NeverBinds g numbers from (Constant j) n → (m : Names) → Agrees g numbers m from → IsConstantOf g m j (n ∷ []) → ⊥
  never_constant from j n is never m a x = never m a ((constant_shown m j n is).1 x)

  -- a class holds a constant where one of its members under the numbers of constants is one
  pub holds_constant : (m : Names) (j c : ℕ) (ints longs : List ℕ) → AreMembers g numbers c 0 ints → AreMembers g numbers c 1 longs
      → (IsConstantOf g m j ints ⊎ IsConstantOf g m j longs) ↔ HoldsConstant g numbers c (m.constants j)
  holds_constant m j c ints longs is are = (
    (λ h. elim h [
      | inl x ↦ let y = is.0 x.0 x.2 in (x.1, record { node = x.0; kids = []; is = x.3; here = y.3; classes = refl }, x.4)
      | inr x ↦ let y = are.0 x.0 x.2 in (x.1, record { node = x.0; kids = []; is = x.3; here = y.3; classes = refl }, x.4)
    ]),
    (λ h. back h.0 h.1 h.2),
  )
    where
      no_kids : (ks : List ℕ) → map (class_of numbers) ks ≡ [] → ks ≡ []
      no_kids [] e = refl
      no_kids (k ∷ ks) e = absurd (cc)

      back : (o : Op) → HasForm g numbers c o [] → constant_of o ≡ Some (m.constants j) → IsConstantOf g m j ints ⊎ IsConstantOf g m j longs
      back (op.Int k) f e = let y = is.1 (op.Int k) [] f refl in inl (y.0, op.Int k, y.2, y.3 ∙ ap (λ (ks : List ℕ). Some (form (op.Int k) ks)) (no_kids y.1 y.4), e)
      back (op.Long k) f e = let y = are.1 (op.Long k) [] f refl in inr (y.0, op.Long k, y.2, y.3 ∙ ap (λ (ks : List ℕ). Some (form (op.Long k) ks)) (no_kids y.1 y.4), e)
      back o f e = absurd (cc)

  -- ---- families

  zip_same : (xs ys : List ℕ) → AllZip (λ k c. k ≡ c) xs ys → xs ≡ ys
  zip_same [] [] z = refl
  zip_same [] (y ∷ ys) z = absurd z
  zip_same (x ∷ xs) [] z = absurd z
  zip_same (x ∷ xs) (y ∷ ys) z = ap (λ (k : ℕ). k ∷ xs) z.0 ∙ ap (λ (ks : List ℕ). y ∷ ks) (zip_same xs ys z.1)

  same_zip : (xs : List ℕ) → AllZip (λ (k : ℕ) (c : ℕ). k ≡ c) xs xs
  same_zip [] = tt
  same_zip (x ∷ xs) = (refl, same_zip xs)

  -- one of these nodes has the operation of the family, over its kids
  abbrev pub IsFamilyOf : Names → List ℕ → Type 0
  IsFamilyOf m nodes = (n : ℕ) × In nodes n × ShowsAt g numbers m Operation n

  pub family_stands : (m : Names) (which c : ℕ) (nodes : List ℕ) → AreMembers g numbers c which nodes → IsFamilyOf m nodes ↔ StandsIn g numbers m (over_each which bare) c
  family_stands m which c nodes are = (
    (λ x.
        let s = x.2 in
        let y = are.0 x.0 x.1 in
        let same : Some (form s.0 s.1) ≡ Some (form y.0 y.1) = sym s.2 ∙ y.2 in
        let ops : s.0 ≡ y.0 = cc in
        let is : m.op_ ≡ y.0 = sym s.3.0 ∙ ops in (
          m.kids,
          record { node = x.0; kids = s.1; is = s.2 ∙ ap (λ (o : Op). Some (form o s.1)) s.3.0; here = y.3; classes = s.3.1 },
          ap op_number is ∙ y.4,
          same_zip m.kids,
        )),
    (λ h.
        let y = are.1 m.op_ h.0 h.1 h.2 in
        (y.0, y.2, (m.op_, y.1, y.3, (refl, y.4 ∙ sym (zip_same m.kids h.0 h.3))))),
  )

  -- ---- what is taken from one node after the other

  pub adds_more : {X : Type 0} → (old mid new : List Binding) (from : Binding) (P : X → Names → Type 0) (before : List X) (n : X) (ns : List NameId) (known : Option ℕ)
      → Adds old mid from (λ m. (k : X) × In before k × P k m) ns known → Adds mid new from (P n) ns known
      → Adds old new from (λ m. (k : X) × In (before ++ n ∷ []) k × P k m) ns known
  adds_more {X} old mid new from P before n ns known is then =
      adds_same old new from (λ m. ((k : X) × In before k × P k m) ⊎ P n m) (λ m. (k : X) × In (before ++ n ∷ []) k × P k m) ns known
      (λ m a. (
        (λ h. elim h [ inl x ↦ (x.0, in_left before (n ∷ []) x.0 x.1, x.2) | inr p ↦ (n, in_right before (n ∷ []) n (inl refl), p) ]),
        (λ x. elim (in_both before (n ∷ []) x.0 x.1) [
          | inl i ↦ inl (x.0, i, x.2)
          | inr i ↦ elim i [ inl e ↦ inr (subst (λ (k : X). P k m) (sym e) x.2) | inr j ↦ absurd j ]
        ]),
      ))
      (adds_then old mid new from (λ m. (k : X) × In before k × P k m) (P n) ns known is then)

  -- a variable for constants in a class
  pub constant_extends : (old mid new : List Binding) (from b : Binding) (j c : ℕ) (ints longs : List ℕ) → BindsVar g numbers from j c b → AreMembers g numbers c 0 ints → AreMembers g numbers c 1 longs
      → Adds old mid b (λ m. IsConstantOf g m j ints) (Constant j ∷ []) (Some (length b.vars.items)) → Adds mid new b (λ m. IsConstantOf g m j longs) (Constant j ∷ []) (Some (length b.vars.items))
      → Adds old new from (λ m. StandsIn g numbers m (constant j) c) (names (constant j)) (reads (length from.vars.items) (constant j))
  constant_extends old mid new from b j c ints longs binds is are first_ second =
      let both_ = adds_then old mid new b (λ m. IsConstantOf g m j ints) (λ m. IsConstantOf g m j longs) (Constant j ∷ []) (Some (length b.vars.items)) first_ second in
      let through = adds_through old new from b (λ m. IsConstantOf g m j ints ⊎ IsConstantOf g m j longs) (λ m. slice_get m.vars j ≡ Some c) [] (Constant j ∷ []) (Some (length b.vars.items)) binds.exact binds.bound_ both_ in
      subst (λ (k : Option ℕ). Adds old new from (λ m. StandsIn g numbers m (constant j) c) (names (constant j)) k) (sym binds.known)
      (adds_same old new from (λ m. (slice_get m.vars j ≡ Some c) × (IsConstantOf g m j ints ⊎ IsConstantOf g m j longs)) (λ m. StandsIn g numbers m (constant j) c) (Constant j ∷ []) (Some (length b.vars.items))
      (λ m a. ((λ h. (h.0, (holds_constant m j c ints longs is are).0 h.1)), (λ h. (h.0, (holds_constant m j c ints longs is are).1 h.1)))) through)

  -- a variable in a class
  pub var_extends : (old : List Binding) (from b : Binding) (j c : ℕ) → BindsVar g numbers from j c b → Adds old (old ++ b ∷ []) from (λ m. StandsIn g numbers m (var j) c) (names (var j)) (reads (length from.vars.items) (var j))
  var_extends old from b j c binds = adds_one old b from (λ m. StandsIn g numbers m (var j) c) [] (reads (length from.vars.items) (var j)) binds.exact binds.bound_ binds.known

  -- a family's operation at one node
  pub family_added : (old mid : List Binding) (from new : Binding) (n : ℕ) (before : List ℕ)
      → Adds old mid from (λ m. (k : ℕ) × In before k × ShowsAt g numbers m Operation k) (Operation ∷ []) (Some (length from.vars.items)) → Binds g numbers from Operation n new
      → Adds old (mid ++ new ∷ []) from (λ m. (k : ℕ) × In (before ++ n ∷ []) k × ShowsAt g numbers m Operation k) (Operation ∷ []) (Some (length from.vars.items))
  family_added old mid from new n before is binds =
      adds_more old mid (mid ++ new ∷ []) from (λ k m. ShowsAt g numbers m Operation k) before n (Operation ∷ []) (Some (length from.vars.items)) is
      (adds_one mid new from (λ m. ShowsAt g numbers m Operation n) (Operation ∷ []) (Some (length from.vars.items)) binds.exact binds.bound_ (ap (λ (xs : List ℕ). Some (length xs)) (sym binds.vars)))

  pub family_left : (old mid : List Binding) (from : Binding) (n : ℕ) (before : List ℕ)
      → Adds old mid from (λ m. (k : ℕ) × In before k × ShowsAt g numbers m Operation k) (Operation ∷ []) (Some (length from.vars.items)) → NeverBinds g numbers from Operation n
      → Adds old mid from (λ m. (k : ℕ) × In (before ++ n ∷ []) k × ShowsAt g numbers m Operation k) (Operation ∷ []) (Some (length from.vars.items))
  family_left old mid from n before is never =
      adds_more old mid mid from (λ k m. ShowsAt g numbers m Operation k) before n (Operation ∷ []) (Some (length from.vars.items)) is
      (adds_none mid from (λ m. ShowsAt g numbers m Operation n) (Operation ∷ []) (Some (length from.vars.items)) never)

  pub family_extends : (old new : List Binding) (from : Binding) (which c : ℕ) (nodes : List ℕ) → AreMembers g numbers c which nodes
      → Adds old new from (λ m. (k : ℕ) × In nodes k × ShowsAt g numbers m Operation k) (Operation ∷ []) (Some (length from.vars.items))
      → Adds old new from (λ m. StandsIn g numbers m (over_each which bare) c) (Operation ∷ []) (Some (length from.vars.items))
  family_extends old new from which c nodes are is =
      adds_same old new from (λ m. (k : ℕ) × In nodes k × ShowsAt g numbers m Operation k) (λ m. StandsIn g numbers m (over_each which bare) c) (Operation ∷ []) (Some (length from.vars.items)) (λ m a. family_stands m which c nodes are) is
