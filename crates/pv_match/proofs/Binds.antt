-- One more name, or one more variable.
use Rattle.std.specs.Prelude.{◌≡◌, ◌≢◌, ◌↔◌, ℕ, ◌<◌, ◌≤◌, ◌+◌, Bool, true, false, IsTrue, List, [], ◌∷◌, ◌++◌, map, length, Option, Some, None, slice_get, nat_lt, nat_eq, if◌then◌else◌, refl}
use Rattle.std.proofs.Common.{inl, inr, sym, ap, ◌∙◌, subst, arith, eq-eqb, length-append}
use Rattle.std.proofs.lemmas.Option.{slice_get_within, same_Some}
use Rattle.std.proofs.lemmas.List.{map-append}
use Rattle.pv_graph.proofs.Cited.{in_cases, in_front, in_last, push_cases, get_front, get_last}
use Rattle.std.specs.Prelude.{Result, Ok, Err, IfOk, MatchOption}
use Rattle.pv_value.specs.declared.memory.Memory.{Memory}
use Rattle.pv_graph.specs.Walks.{In}
use Rattle.pv_graph.specs.Forms.{form}
use Rattle.pv_graph.specs.Graphs.{Graph, form_at}
use Rattle.pv_graph.specs.declared.node.Op.{Op}
use Rattle.pv_graph.specs.declared.node.Node.{Node}
use Rattle.pv_pattern.specs.declared.names.NameId.{NameId}
use Rattle.pv_pattern.specs.Patterns.{Head}
use Rattle.pv_pattern.specs.Instances.{Names, head_op}
use Rattle.pv_pattern.specs.Binding.{listed_name}
use Rattle.pv_pattern.specs.Found.{head_name}
use Rattle.pv_marks.specs.Classes.{class_of}
use Rattle.pv_match.specs.declared.binding.Named.{Named}
use Rattle.pv_match.specs.declared.binding.Binding.{Binding}
use Rattle.pv_match.specs.Parameters.{is_among, once_more}
use Rattle.pv_match.specs.Bindings.{named, IsNamed, ShowsAt, Agrees, bound, Binds, NeverBinds, IsPlace, HasHead, BindsHead, NeverBindsHead, IsUnderHead, BindsVar, NeverBindsVar, IsEmpty}
use Rattle.pv_match.specs.Reading.{next_var}
use Rattle.pv_match.proofs.Naming.{once_known, once_new, ShowsHead, head_is}

module _ (g : Graph) (numbers : List ℕ) where
  -- bindings of the same
  pub agrees_same : (m : Names) (b new : Binding) → new.names.items ≡ b.names.items → new.vars.items ≡ b.vars.items → Agrees g numbers m b → Agrees g numbers m new
  agrees_same m b new e f a = record {
    shown = λ x i. a.shown x (subst (λ (xs : List Named). In xs x) e i);
    vars = λ j c h. a.vars j c (sym (ap (λ (xs : List ℕ). slice_get xs j) f) ∙ h);
  }

  pub empty_agrees : (m : Names) (b : Binding) → IsEmpty b → Agrees g numbers m b
  empty_agrees m b is = record {
    shown = λ x i. absurd (subst (λ (xs : List Named). In xs x) is.names i);
    vars = λ j c h. absurd (let e = sym (ap (λ (xs : List ℕ). slice_get xs j) is.vars) ∙ h in cc);
  }

  -- ---- a name that is bound

  module _ (b : Binding) (name : NameId) (a n : ℕ) (place : IsPlace b name a) (same : Bool) (says : (m : Names) → ShowsAt g numbers m name a → (IsTrue same ↔ ShowsAt g numbers m name n)) where
    pub binds_known : (new : Binding) → same ≡ true → new.names.items ≡ b.names.items → new.vars.items ≡ b.vars.items → Binds g numbers b name n new
    binds_known new t e f = record {
      exact = λ m. (
        (λ h. let old = agrees_same m new b (sym e) (sym f) h in (old, (says m (old.shown (named name a) place.1)).0 t)),
        (λ h. agrees_same m b new e f h.0),
      );
      bound_ = ap (λ (xs : List Named). map (λ x. x.name) xs) e ∙ sym (once_known (bound b) name place.0);
      vars = f;
    }

    pub never_binds : same ≡ false → NeverBinds g numbers b name n
    never_binds t m h s = let e = (says m (h.shown (named name a) place.1)).1 s in absurd (let f = sym t ∙ e in cc)

  -- ---- a new name

  pub binds_new : (b : Binding) (name : NameId) (n : ℕ) (new : Binding) → is_among (bound b) name ≡ false → new.names.items ≡ b.names.items ++ named name n ∷ [] → new.vars.items ≡ b.vars.items → Binds g numbers b name n new
  binds_new b name n new fresh e f = record {
    exact = λ m. (
      (λ h. (
        record {
          shown = λ x i. h.shown x (subst (λ (xs : List Named). In xs x) (sym e) (in_front b.names.items (named name n) x i));
          vars = λ j c v. h.vars j c (ap (λ (xs : List ℕ). slice_get xs j) f ∙ v);
        },
        h.shown (named name n) (subst (λ (xs : List Named). In xs (named name n)) (sym e) (in_last b.names.items (named name n))),
      )),
      (λ h. record {
        shown = λ x i. elim (in_cases b.names.items (named name n) x (subst (λ (xs : List Named). In xs x) e i)) [
          | inl y ↦ h.0.shown x y
          | inr y ↦ subst (λ (z : Named). ShowsAt g numbers m z.name z.node) y h.1
        ];
        vars = λ j c v. h.0.vars j c (sym (ap (λ (xs : List ℕ). slice_get xs j) f) ∙ v);
      }),
    );
    bound_ = ap (λ (xs : List Named). map (λ x. x.name) xs) e ∙ map-append (λ (x : Named). x.name) b.names.items (named name n ∷ []) ∙ sym (once_new (bound b) name fresh);
    vars = f;
  }

  -- ---- a head

  module _ (b : Binding) (h : Head) (n : ℕ) (node : Node) (at : form_at g.nodes n ≡ Some (form node.op node.kids)) where
    op_here : (m : Names) → HasHead g m h n → node.op ≡ head_op m h
    op_here m x = let e = sym at ∙ x.1 in cc

    pub not_under : (IsUnderHead h node.op → ⊥) → NeverBindsHead g numbers b h n
    not_under not m a x = not ((head_is m h node.op []).0 (op_here m x)).0

    module _ (under : IsUnderHead h node.op) where
      pub head_named : (name : NameId) → head_name h ≡ Some name → (m : Names) → HasHead g m h n ↔ ShowsAt g numbers m name n
      head_named name e m = (
        (λ x. (node.op, node.kids, at, subst (λ (o : Option NameId). ShowsHead m o node.op (map (class_of numbers) node.kids)) e ((head_is m h node.op (map (class_of numbers) node.kids)).0 (op_here m x)).1)),
        (λ s.
            let same : Some (form node.op node.kids) ≡ Some (form s.0 s.1) = sym at ∙ s.2 in
            let ops : s.0 ≡ node.op = cc in
            let kids : s.1 ≡ node.kids = cc in
            let shows : IsNamed m name node.op (map (class_of numbers) node.kids) = subst (λ (o : Op). IsNamed m name o (map (class_of numbers) node.kids)) ops (subst (λ (ks : List ℕ). IsNamed m name s.0 (map (class_of numbers) ks)) kids s.3) in
            let is : node.op ≡ head_op m h = (head_is m h node.op (map (class_of numbers) node.kids)).1 (under, subst (λ (o : Option NameId). ShowsHead m o node.op (map (class_of numbers) node.kids)) (sym e) shows) in
            (node.kids, at ∙ ap (λ (o : Op). Some (form o node.kids)) is)),
      )

      pub binds_head : (name : NameId) (new : Binding) → head_name h ≡ Some name → Binds g numbers b name n new → BindsHead g numbers b h n new
      binds_head name new e is = record {
        exact = λ m. (
          (λ x. let y = (is.exact m).0 x in (y.0, (head_named name e m).1 y.1)),
          (λ x. (is.exact m).1 (x.0, (head_named name e m).0 x.1)),
        );
        bound_ = is.bound_ ∙ ap (λ (o : Option NameId). once_more (bound b) (listed_name o)) (sym e);
        vars = is.vars;
      }

      pub never_head : (name : NameId) → head_name h ≡ Some name → NeverBinds g numbers b name n → NeverBindsHead g numbers b h n
      never_head name e never m a x = never m a ((head_named name e m).0 x)

      pub binds_fixed : (new : Binding) → head_name h ≡ None → new.names.items ≡ b.names.items → new.vars.items ≡ b.vars.items → BindsHead g numbers b h n new
      binds_fixed new e f v = record {
        exact = λ m. (
          (λ x. (
            agrees_same m new b (sym f) (sym v) x,
            let is : node.op ≡ head_op m h = (head_is m h node.op []).1 (under, subst (λ (o : Option NameId). ShowsHead m o node.op []) (sym e) tt) in
                (node.kids, at ∙ ap (λ (o : Op). Some (form o node.kids)) is),
          )),
          (λ x. agrees_same m b new f v x.0),
        );
        bound_ = ap (λ (xs : List Named). map (λ x. x.name) xs) f ∙ ap (λ (o : Option NameId). once_more (bound b) (listed_name o)) (sym e);
        vars = v;
      }

  pub no_node : (b : Binding) (h : Head) (n : ℕ) → form_at g.nodes n ≡ None → NeverBindsHead g numbers b h n
  no_node b h n e m a x = absurd (let f = sym e ∙ x.1 in cc)

  -- ---- a variable

  known_before : (n j : ℕ) → j < n → next_var n j ≡ Some n
  known_before n j lt = ap (λ (t : Bool). if t then Some n else (if nat_eq j n then Some (n + 1) else None)) (lt_true j n lt)
    where
      lt_true : (a b : ℕ) → a < b → nat_lt a b ≡ true
      lt_true a b h = grind arith

  known_next : (n : ℕ) → next_var n n ≡ Some (n + 1)
  known_next n = ap (λ (t : Bool). if t then Some n else (if nat_eq n n then Some (n + 1) else None)) (not_below n) ∙ ap (λ (t : Bool). if t then Some (n + 1) else None) (eq-eqb n n refl)
    where
      not_below : (a : ℕ) → nat_lt a a ≡ false
      not_below a = grind arith

  pub next_is : (n j k : ℕ) → n ≤ j → next_var n j ≡ Some k → j ≡ n
  next_is n j k h e = grind (arith)

  pub binds_var : (b new : Binding) (j c : ℕ) → slice_get b.vars.items j ≡ Some c → new.names.items ≡ b.names.items → new.vars.items ≡ b.vars.items → BindsVar g numbers b j c new
  binds_var b new j c at e f = record {
    exact = λ m. (
      (λ h. let old = agrees_same m new b (sym e) (sym f) h in (old, old.vars j c at)),
      (λ h. agrees_same m b new e f h.0),
    );
    bound_ = ap (λ (xs : List Named). map (λ x. x.name) xs) e;
    known = known_before (length b.vars.items) j (slice_get_within b.vars.items j c at) ∙ ap (λ (xs : List ℕ). Some (length xs)) (sym f);
  }

  pub never_var : (b : Binding) (j c d : ℕ) → slice_get b.vars.items j ≡ Some d → d ≢ c → NeverBindsVar g numbers b j c
  never_var b j c d at ne m a h = ne (same_Some d c (sym (a.vars j d at) ∙ h))

  pub binds_next : (b new : Binding) (j c : ℕ) → j ≡ length b.vars.items → new.names.items ≡ b.names.items → new.vars.items ≡ b.vars.items ++ c ∷ [] → BindsVar g numbers b j c new
  binds_next b new j c is e f = record {
    exact = λ m. (
      (λ h. (
        record {
          shown = λ x i. h.shown x (subst (λ (xs : List Named). In xs x) (sym e) i);
          vars = λ i d v. h.vars i d (ap (λ (xs : List ℕ). slice_get xs i) f ∙ (get_front b.vars.items c i (slice_get_within b.vars.items i d v) ∙ v));
        },
        h.vars j c (ap (λ (xs : List ℕ). slice_get xs j) f ∙ (ap (slice_get (b.vars.items ++ c ∷ [])) is ∙ get_last b.vars.items c)),
      )),
      (λ h. record {
        shown = λ x i. h.0.shown x (subst (λ (xs : List Named). In xs x) e i);
        vars = λ i d v. elim (push_cases b.vars.items c d i (sym (ap (λ (xs : List ℕ). slice_get xs i) f) ∙ v)) [
          | inl x ↦ h.0.vars i d x
          | inr y ↦ ap (slice_get m.vars) (y.0 ∙ sym is) ∙ (h.1 ∙ ap Some y.1)
        ];
      }),
    );
    bound_ = ap (λ (xs : List Named). map (λ x. x.name) xs) e;
    known = ap (next_var (length b.vars.items)) is ∙ (known_next (length b.vars.items) ∙ ap Some (sym (ap (λ (xs : List ℕ). length xs) f ∙ length-append b.vars.items (c ∷ []))));
  }

  -- what a bind of the head's name gives
  pub head_of_bind : (b : Binding) (h : Head) (n : ℕ) (node : Node) → form_at g.nodes n ≡ Some (form node.op node.kids) → IsUnderHead h node.op → (name : NameId) → head_name h ≡ Some name
      → (r : Result (Option Binding) Memory) → IfOk r (λ o. MatchOption o (NeverBinds g numbers b name n) (λ new. Binds g numbers b name n new))
      → IfOk r (λ o. MatchOption o (NeverBindsHead g numbers b h n) (λ new. BindsHead g numbers b h n new))
  head_of_bind b h n node at under name e (Ok (Some new)) is = binds_head b h n node at under name new e is
  head_of_bind b h n node at under name e (Ok None) is = never_head b h n node at under name e is
  head_of_bind b h n node at under name e (Err x) is = is
