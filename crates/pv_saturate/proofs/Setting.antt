-- What the names stand for after one of them is told.
use Rattle.std.proofs.Common.{◌≡◌, ℕ, zero, suc, ◌<◌, Bool, true, false, List, [], ◌∷◌, ◌++◌, length, Option, slice_get, slice_set, unwrap_or, refl, sym, ap, ◌∙◌, ◌==◌, if◌then◌else◌, arith, true≢false}
use Rattle.pv_value.specs.declared.name.Sym.{Sym}
use Rattle.pv_value.specs.declared.heap.Kind.{Kind}
use Rattle.pv_value.specs.declared.number.Num.{Num}
use Rattle.pv_graph.specs.declared.node.Op.{Op}
use Rattle.pv_graph.proofs.Cited.{set_other, set_same}
use Rattle.pv_pattern.specs.declared.names.NameId.{NameId}
use Rattle.pv_pattern.specs.declared.names.NameId.TheVariants as name
use Rattle.pv_heights.specs.Filled.{Params}
use Rattle.pv_heights.specs.Matches.{AgreeOn}
use Rattle.pv_match.specs.declared.found.Param.{Param}
use Rattle.pv_saturate.specs.Told.{told, IsPut, IsTold}

-- ---- lists by numbers

-- elements that aren't there stand for d, so one more d changes nothing
pub padded : {A : Type 0} (d : A) (xs : List A) (t : ℕ) → unwrap_or (slice_get (xs ++ d ∷ []) t) d ≡ unwrap_or (slice_get xs t) d
padded d [] zero = refl
padded d [] (suc t) = refl
padded d (x ∷ xs) zero = refl
padded d (x ∷ xs) (suc t) = padded d xs t

equal_number : (m n : ℕ) → (m == n) ≡ true → m ≡ n
equal_number m n e = grind (arith)

same_number : (m n : ℕ) → m ≡ n → (m == n) ≡ true
same_number m n e = grind (arith)

pub put_there : {A : Type 0} (d : A) (xs : List A) (k : ℕ) (x : A) → k < length xs → IsPut d xs (slice_set xs k x) k x
put_there {A} d xs k x lt t = go (t == k) refl
  where
    go : (b : Bool) → (t == k) ≡ b → unwrap_or (slice_get (slice_set xs k x) t) d ≡ (if t == k then x else unwrap_or (slice_get xs t) d)
    go true s =
        ap (λ (o : Option A). unwrap_or o d) (ap (slice_get (slice_set xs k x)) (equal_number t k s) ∙ set_same xs k x lt)
        ∙ sym (ap (λ (c : Bool). if c then x else unwrap_or (slice_get xs t) d) s)
    go false s =
        ap (λ (o : Option A). unwrap_or o d) (set_other xs k x t (λ e. true≢false (sym (same_number t k e) ∙ s)))
        ∙ sym (ap (λ (c : Bool). if c then x else unwrap_or (slice_get xs t) d) s)

-- .. also after some more that are d
pub put_padded : {A : Type 0} (d : A) (xs ys zs : List A) (k : ℕ) (x : A) → ((t : ℕ) → unwrap_or (slice_get ys t) d ≡ unwrap_or (slice_get xs t) d) → IsPut d ys zs k x → IsPut d xs zs k x
put_padded {A} d xs ys zs k x same p t = p t ∙ ap (λ (y : A). if t == k then x else y) (same t)

-- ---- one name

at_put : {A : Type 0} (f h q : ℕ → A) (k : ℕ) (x : A) → ((t : ℕ) → h t ≡ (if t == k then x else q t)) → f k ≡ x → (t : ℕ) → f t ≡ q t → f t ≡ h t
at_put {A} f h q k x p e t g = go (t == k) refl
  where
    go : (b : Bool) → (t == k) ≡ b → f t ≡ h t
    go true s = ap f (equal_number t k s) ∙ (e ∙ (ap (λ (c : Bool). if c then x else q t) (sym s) ∙ sym (p t)))
    go false s = g ∙ (ap (λ (c : Bool). if c then x else q t) (sym s) ∙ sym (p t))

at_itself : {A : Type 0} (h q : ℕ → A) (k : ℕ) (x : A) → ((t : ℕ) → h t ≡ (if t == k then x else q t)) → h k ≡ x
at_itself h q k x p = p k ∙ ap (λ (c : Bool). if c then x else q k) (same_number k k refl)

module _ (family : ℕ) (own : List Param) (old : Params) where
  pub tell_depth : (d : ℕ) → d ≡ (told family own).depth → IsTold family own name.Depth old (record old { depth = d })
  tell_depth d e = record { now = λ m a. a ∙ sym e; kept = kept }
    where
      kept : (m : Params) → AgreeOn m (told family own) name.Depth → (j : NameId) → AgreeOn m old j → AgreeOn m (record old { depth = d }) j
      kept m a name.Depth g = a ∙ sym e
      kept m a (name.Symbol s) g = g
      kept m a (name.Kind k) g = g
      kept m a (name.Constant j) g = g
      kept m a name.Operation g = g

  pub tell_op : (o : Op) → o ≡ (told family own).op_ → IsTold family own name.Operation old (record old { op_ = o })
  tell_op o e = record { now = λ m a. a ∙ sym e; kept = kept }
    where
      kept : (m : Params) → AgreeOn m (told family own) name.Operation → (j : NameId) → AgreeOn m old j → AgreeOn m (record old { op_ = o }) j
      kept m a name.Depth g = g
      kept m a (name.Symbol s) g = g
      kept m a (name.Kind k) g = g
      kept m a (name.Constant j) g = g
      kept m a name.Operation g = a ∙ sym e

  pub tell_symbol : (s : ℕ) (f : ℕ → Sym) (x : Sym) → x ≡ (told family own).symbols s → ((t : ℕ) → f t ≡ (if t == s then x else old.symbols t)) → IsTold family own (name.Symbol s) old (record old { symbols = f })
  tell_symbol s f x e p = record { now = λ m a. a ∙ (sym e ∙ sym (at_itself f old.symbols s x p)); kept = kept }
    where
      kept : (m : Params) → AgreeOn m (told family own) (name.Symbol s) → (j : NameId) → AgreeOn m old j → AgreeOn m (record old { symbols = f }) j
      kept m a name.Depth g = g
      kept m a (name.Symbol t) g = at_put m.symbols f old.symbols s x p (a ∙ sym e) t g
      kept m a (name.Kind k) g = g
      kept m a (name.Constant j) g = g
      kept m a name.Operation g = g

  pub tell_kind : (k : ℕ) (f : ℕ → Kind) (x : Kind) → x ≡ (told family own).kinds k → ((t : ℕ) → f t ≡ (if t == k then x else old.kinds t)) → IsTold family own (name.Kind k) old (record old { kinds = f })
  tell_kind k f x e p = record { now = λ m a. a ∙ (sym e ∙ sym (at_itself f old.kinds k x p)); kept = kept }
    where
      kept : (m : Params) → AgreeOn m (told family own) (name.Kind k) → (j : NameId) → AgreeOn m old j → AgreeOn m (record old { kinds = f }) j
      kept m a name.Depth g = g
      kept m a (name.Symbol s) g = g
      kept m a (name.Kind t) g = at_put m.kinds f old.kinds k x p (a ∙ sym e) t g
      kept m a (name.Constant j) g = g
      kept m a name.Operation g = g

  pub tell_constant : (j : ℕ) (f : ℕ → Num) (x : Num) → x ≡ (told family own).constants j → ((t : ℕ) → f t ≡ (if t == j then x else old.constants t)) → IsTold family own (name.Constant j) old (record old { constants = f })
  tell_constant j f x e p = record { now = λ m a. a ∙ (sym e ∙ sym (at_itself f old.constants j x p)); kept = kept }
    where
      kept : (m : Params) → AgreeOn m (told family own) (name.Constant j) → (i : NameId) → AgreeOn m old i → AgreeOn m (record old { constants = f }) i
      kept m a name.Depth g = g
      kept m a (name.Symbol s) g = g
      kept m a (name.Kind k) g = g
      kept m a (name.Constant t) g = at_put m.constants f old.constants j x p (a ∙ sym e) t g
      kept m a name.Operation g = g
