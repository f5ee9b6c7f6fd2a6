-- What joins link, their lines link, too.
use Rattle.std.specs.Prelude.{◌≡◌, ℕ, zero, suc, ◌<◌, List, [], ◌∷◌, ◌++◌, length, Some, slice_get}
use Rattle.std.specs.List.{AllZip}
use Rattle.std.proofs.Common.{inl, inr, refl, sym, ap, ◌∙◌, subst}
use Rattle.std.proofs.lemmas.Option.{same_Some, slice_get_within, slice_get_read}
use Rattle.std.proofs.Math.ListN.{get_or}
use Rattle.pv_graph.specs.Walks.{In}
use Rattle.pv_paths.specs.declared.forest.Way.TheVariants.{Forth}
use Rattle.pv_paths.specs.Paths.{AreLinked}
use Rattle.pv_paths.proofs.Legs.{leads_append, leads_back}
use Rattle.pv_classes.specs.declared.join.Join.{Join}
use Rattle.pv_classes.specs.Linked.{Linked, joined, same, flip, chain}
use Rattle.pv_explain.specs.declared.follow.Line.{Line}
use Rattle.pv_explain.specs.declared.level.Level.{Level}
use Rattle.pv_explain.specs.Lines.{sides, LinkedBy}
use Rattle.pv_explain.specs.Levels.{ends_of}

pub at_index : {A : Type 0} (xs : List A) (i : ℕ) (x : A) → i < length xs → x ≡ get_or xs i x → slice_get xs i ≡ Some x
at_index xs i x low e = slice_get_read xs (length xs) i x refl low e

pub ends_at : (joins : List Join) (i : ℕ) (j : Join) → slice_get joins i ≡ Some j → slice_get (ends_of joins) i ≡ Some (j.first, j.second)
ends_at [] i j e = absurd (cc)
ends_at (k ∷ joins) zero j e = ap (λ (q : Join). Some (q.first, q.second)) (same_Some _ _ e)
ends_at (k ∷ joins) (suc i) j e = ends_at joins i j e

-- nodes that joins link have a path
pub linked_path : (n : ℕ) (joins : List Join) (a b : ℕ) → Linked n joins a b → AreLinked (ends_of joins) (length joins) a b
linked_path n joins a b (joined c d j there first second) =
    let e = at_index joins there.0 j there.1 (sym there.2) in
    (Forth there.0 ∷ [], (b, (slice_get_within joins there.0 j e, ends_at joins there.0 j e ∙ ap (λ (p : ℕ × ℕ). Some p) (pair c d j first second)), refl))
  where
    pair : (c d : ℕ) (j : Join) → j.first ≡ c → j.second ≡ d → ◌≡◌ {A = ℕ × ℕ} (j.first, j.second) (c, d)
    pair c d j e f = ap (λ (m : ℕ). (m, j.second)) e ∙ ap (λ (m : ℕ). (c, m)) f
linked_path n joins a b (same c low) = ([], refl)
linked_path n joins a b (flip c d h) = let r = linked_path n joins d c h in leads_back (ends_of joins) (length joins) r.0 d c r.1
linked_path n joins a b (chain c d e h k) =
    let p = linked_path n joins c d h in
    let q = linked_path n joins d e k in
    (p.0 ++ q.0, leads_append (ends_of joins) (length joins) p.0 q.0 c d e p.1 q.1)

ends_long : (joins : List Join) → length (ends_of joins) ≡ length joins
ends_long [] = refl
ends_long (j ∷ joins) = ap suc (ends_long joins)

sides_long : (lines : List Line) → length (sides lines) ≡ length lines
sides_long [] = refl
sides_long (l ∷ lines) = ap suc (sides_long lines)

-- the lines of joins link what these link
pub linked_by : (nodes : ℕ) (level : Level) (joins : List Join) (a b : ℕ) → sides level.lines.items ≡ ends_of joins → a < nodes → b < nodes → Linked nodes joins a b → LinkedBy nodes level a b
linked_by nodes level joins a b e p q h = record {
  first = p;
  second = q;
  path =
      let long : length joins ≡ length level.lines.items = sym (ends_long joins) ∙ ap length (sym e) ∙ sides_long level.lines.items in
      subst (λ (n : ℕ). AreLinked (sides level.lines.items) n a b) long (subst (λ (es : List (ℕ × ℕ)). AreLinked es (length joins) a b) (sym e) (linked_path nodes joins a b h));
}

pub all_linked_by : (nodes : ℕ) (level : Level) (joins : List Join) (ks ls : List ℕ) → sides level.lines.items ≡ ends_of joins → ((k : ℕ) → In ks k → k < nodes) → ((l : ℕ) → In ls l → l < nodes) → AllZip (Linked nodes joins) ks ls → AllZip (LinkedBy nodes level) ks ls
all_linked_by nodes level joins [] [] e p q h = tt
all_linked_by nodes level joins [] (l ∷ ls) e p q h = absurd h
all_linked_by nodes level joins (k ∷ ks) [] e p q h = absurd h
all_linked_by nodes level joins (k ∷ ks) (l ∷ ls) e p q h =
    (linked_by nodes level joins k l e (p k (inl refl)) (q l (inl refl)) h.0, all_linked_by nodes level joins ks ls e (λ n m. p n (inr m)) (λ n m. q n (inr m)) h.1)

-- one join more
pub ends_more : (joins : List Join) (j : Join) → ends_of (joins ++ j ∷ []) ≡ ends_of joins ++ (j.first, j.second) ∷ []
ends_more [] j = refl
ends_more (k ∷ joins) j = ap (λ (es : List (ℕ × ℕ)). (k.first, k.second) ∷ es) (ends_more joins j)

pub sides_more : (lines : List Line) (l : Line) → sides (lines ++ l ∷ []) ≡ sides lines ++ (l.first, l.second) ∷ []
sides_more [] l = refl
sides_more (k ∷ lines) l = ap (λ (es : List (ℕ × ℕ)). (k.first, k.second) ∷ es) (sides_more lines l)

pub sides_next : (lines : List Line) (l : Line) (joins : List Join) (j : Join) → sides lines ≡ ends_of joins → l.first ≡ j.first → l.second ≡ j.second → sides (lines ++ l ∷ []) ≡ ends_of (joins ++ j ∷ [])
sides_next lines l joins j e f s =
    sides_more lines l ∙ ap (λ (es : List (ℕ × ℕ)). es ++ (l.first, l.second) ∷ []) e ∙ ap (λ (m : ℕ). ends_of joins ++ (m, l.second) ∷ []) f ∙ ap (λ (m : ℕ). ends_of joins ++ (j.first, m) ∷ []) s ∙ sym (ends_more joins j)
