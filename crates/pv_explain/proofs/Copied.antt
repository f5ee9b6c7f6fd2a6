-- An instance of an axiom stays one where its nodes are copied.
use Rattle.std.specs.Prelude.{◌≡◌, ℕ, zero, suc, ◌<◌, Bool, true, false, List, [], ◌∷◌, ◌++◌, length, Option, Some, slice_get, ◌==◌, if◌then◌else◌}
use Rattle.std.specs.List.{AllZip, AllByRecursion}
use Rattle.std.proofs.Common.{inl, inr, refl, sym, ap, ◌∙◌, subst}
use Rattle.std.proofs.lemmas.Option.{same_Some}
use Rattle.pv_value.specs.declared.descriptor.JType.{JType}
use Rattle.pv_value.specs.declared.descriptor.JType.TheVariants as jtype
use Rattle.pv_value.specs.declared.operation.ScalarOp.TheVariants.{Iand, I2b, I2c, I2s}
use Rattle.pv_graph.specs.declared.node.Op.{Op}
use Rattle.pv_graph.specs.declared.node.Op.TheVariants as op
use Rattle.pv_graph.specs.Ops.{Shape, plain, choice, theta, eval, pass, shift, root, shape}
use Rattle.pv_graph.specs.Forms.{Form, form}
use Rattle.pv_graph.specs.Walks.{In, open_kids, Free, here, below, Reaches, itself, along, IsSettled}
use Rattle.pv_graph.specs.Nodes.{node_of}
use Rattle.pv_graph.specs.Graphs.{Graph, form_at}
use Rattle.pv_graph.proofs.Cited.{form_there}
use Rattle.pv_pattern.specs.Patterns.{Each, bare, shifted, evaluated, Pattern, var, constant, fold, narrowed, over, over_each, Patterns, none, first, Side, settled, not_free, symbols_differ, kinds_differ, not_byte, constants_differ}
use Rattle.pv_pattern.specs.Instances.{Names, head_op, Narrows, IsEach, Stands, StandAll, Holds}
use Rattle.pv_axioms.specs.Entries.{Instance}
use Rattle.pv_explain.specs.Copies.{IsCopied, AreCopies}

same_form : (o p : Op) (ks ls : List ℕ) → ◌≡◌ {A = Option (Form ℕ)} (Some (form o ks)) (Some (form p ls)) → (o ≡ p) × (ks ≡ ls)
same_form o p ks ls e = (let z : o ≡ p = cc in z, let z : ks ≡ ls = cc in z)

-- ---- lists side by side

zip_in : {A B : Type 0} (R : A → B → Type 0) (xs : List A) (ys : List B) (y : B) → AllZip R xs ys → In ys y → (x : A) × In xs x × R x y
zip_in R [] [] y h m = absurd m
zip_in R [] (z ∷ ys) y h m = absurd h
zip_in R (x ∷ xs) [] y h m = absurd h
zip_in R (x ∷ xs) (z ∷ ys) y h (inl e) = (x, inl refl, subst (R x) e h.0)
zip_in R (x ∷ xs) (z ∷ ys) y h (inr m) = let r = zip_in R xs ys y h.1 m in (r.0, inr r.1, r.2)

zip_at : {A B : Type 0} (R : A → B → Type 0) (xs : List A) (ys : List B) (j : ℕ) (x : A) → AllZip R xs ys → slice_get xs j ≡ Some x → (y : B) × (slice_get ys j ≡ Some y) × R x y
zip_at R [] ys j x h e = absurd (cc)
zip_at R (z ∷ xs) [] j x h e = absurd h
zip_at R (z ∷ xs) (y ∷ ys) zero x h e = (y, refl, subst (λ q. R q y) (same_Some _ _ e) h.0)
zip_at R (z ∷ xs) (y ∷ ys) (suc j) x h e = zip_at R xs ys j x h.1 e

zip_long : {A B : Type 0} (R : A → B → Type 0) (xs : List A) (ys : List B) → AllZip R xs ys → length ys ≡ length xs
zip_long R [] [] h = refl
zip_long R [] (y ∷ ys) h = absurd h
zip_long R (x ∷ xs) [] h = absurd h
zip_long R (x ∷ xs) (y ∷ ys) h = ap suc (zip_long R xs ys h.1)

zip_nil : {A B : Type 0} (R : A → B → Type 0) (xs : List A) (ys : List B) → AllZip R xs ys → xs ≡ [] → ys ≡ []
zip_nil R [] [] h e = refl
zip_nil R [] (y ∷ ys) h e = absurd h
zip_nil R (x ∷ xs) ys h e = absurd (cc)

-- the parts of a list that stand beside the parts of another
record Parts {A B : Type 0} (R : A → B → Type 0) (xs zs : List A) (ys : List B) : Type 0 where
  left : List B
  right : List B
  are : ys ≡ left ++ right
  lefts : AllZip R xs left
  rights : AllZip R zs right

zip_parts : {A B : Type 0} (R : A → B → Type 0) (xs zs : List A) (ys : List B) → AllZip R (xs ++ zs) ys → Parts R xs zs ys
zip_parts R [] zs ys h = record { left = []; right = ys; are = refl; lefts = tt; rights = h }
zip_parts R (x ∷ xs) zs [] h = absurd h
zip_parts R (x ∷ xs) zs (y ∷ ys) h = let r = zip_parts R xs zs ys h.1 in record { left = y ∷ r.left; right = r.right; are = ap (λ (q : List _). y ∷ q) r.are; lefts = (h.0, r.lefts); rights = r.rights }

module _ (from to : Graph) (map : List (Option ℕ)) (copies : AreCopies from to map) where
  copied_once : (k m n : ℕ) → IsCopied map k m → IsCopied map k n → m ≡ n
  copied_once k m n h i = same_Some m n (same_Some (Some m) (Some n) (sym h ∙ i))

  -- the copy of an operation over kids
  form_copied : (k m : ℕ) (o : Op) (ks : List ℕ) → IsCopied map k m → form_at from.nodes k ≡ Some (form o ks) → (ms : List ℕ) × AllZip (IsCopied map) ks ms × (form_at to.nodes m ≡ Some (form o ms))
  form_copied k m o ks h e =
      let c = copies.each k m h in
      let s = same_form c.node.op o c.node.kids ks (sym (form_there from.nodes k c.node c.node_is) ∙ e) in (
        c.kids,
        subst (λ (qs : List ℕ). AllZip (IsCopied map) qs c.kids) s.1 c.kids_are,
        form_there to.nodes m (node_of c.node.op c.kids) c.copy_is ∙ ap (λ (p : Op). Some (form p c.kids)) s.0,
      )

  -- .. and what it is the copy of
  form_back : (k m : ℕ) (o : Op) (ms : List ℕ) → IsCopied map k m → form_at to.nodes m ≡ Some (form o ms) → (ks : List ℕ) × AllZip (IsCopied map) ks ms × (form_at from.nodes k ≡ Some (form o ks))
  form_back k m o ms h e =
      let c = copies.each k m h in
      let s = same_form c.node.op o c.kids ms (sym (form_there to.nodes m (node_of c.node.op c.kids) c.copy_is) ∙ e) in (
        c.node.kids,
        subst (λ (qs : List ℕ). AllZip (IsCopied map) c.node.kids qs) s.1 c.kids_are,
        form_there from.nodes k c.node c.node_is ∙ ap (λ (p : Op). Some (form p c.node.kids)) s.0,
      )

  -- ---- conditions

  reach_back : (assumed : List ℕ) → ((e : ℕ) → In assumed e → e < from.base) → (n m x : ℕ) → IsCopied map n m → Reaches (form_at to.nodes) assumed m x → (y : ℕ) × IsCopied map y x × Reaches (form_at from.nodes) assumed n y
  reach_back assumed low n m x h (itself u) = (n, h, itself n)
  reach_back assumed low n m x h (along u k v o ms out e i r) =
      let f = form_back n u o ms h e in
      let z = zip_in (IsCopied map) f.0 ms k f.1 i in
      let rest = reach_back assumed low z.0 k v z.2 r in
      (rest.0, rest.1, along n z.0 rest.0 o f.0 (λ j. out (subst (In assumed) (copied_once n n u (copies.base_ n (low n j)) h) j)) f.2 z.1 rest.2)

  settled_copied : (assumed : List ℕ) → ((e : ℕ) → In assumed e → e < from.base) → (n m : ℕ) → IsCopied map n m → IsSettled (form_at from.nodes) assumed n → IsSettled (form_at to.nodes) assumed m
  settled_copied assumed low n m h is x o ms r out e =
      let b = reach_back assumed low n m x h r in
      let f = form_back b.0 x o ms b.1 e in
      is b.0 o f.0 b.2 (λ j. out (subst (In assumed) (copied_once b.0 b.0 x (copies.base_ b.0 (low b.0 j)) b.1) j)) f.2

  open_back : (d : ℕ) (s : Shape) (ks ms : List ℕ) (m : ℕ) → AllZip (IsCopied map) ks ms → In (open_kids d s ms) m → (k : ℕ) × In (open_kids d s ks) k × IsCopied map k m
  open_back d (eval e) [] [] m h i = absurd i
  open_back d (eval e) [] (n ∷ ms) m h i = absurd h
  open_back d (eval e) (k ∷ ks) [] m h i = absurd h
  open_back d (eval e) (k ∷ ks) (n ∷ ms) m h i = pick (e == d) i
    where
      pick : (t : Bool) → In (if t then ms else n ∷ ms) m → (q : ℕ) × In (if t then ks else k ∷ ks) q × IsCopied map q m
      pick true j = zip_in (IsCopied map) ks ms m h.1 j
      pick false j = zip_in (IsCopied map) (k ∷ ks) (n ∷ ms) m h j
  open_back d (pass e) ks ms m h i = pick (e == d) i
    where
      pick : (t : Bool) → In (if t then [] else ms) m → (q : ℕ) × In (if t then [] else ks) q × IsCopied map q m
      pick true j = absurd j
      pick false j = zip_in (IsCopied map) ks ms m h j
  open_back d plain ks ms m h i = zip_in (IsCopied map) ks ms m h i
  open_back d choice ks ms m h i = zip_in (IsCopied map) ks ms m h i
  open_back d (theta e) ks ms m h i = zip_in (IsCopied map) ks ms m h i
  open_back d (shift e) ks ms m h i = zip_in (IsCopied map) ks ms m h i
  open_back d root ks ms m h i = zip_in (IsCopied map) ks ms m h i

  free_back : (d n m : ℕ) → IsCopied map n m → Free (form_at to.nodes) d m → Free (form_at from.nodes) d n
  free_back d n m h (here u o ms e s) = let f = form_back n u o ms h e in here n o f.0 f.2 s
  free_back d n m h (below u k o ms e i r) =
      let f = form_back n u o ms h e in
      let z = open_back d (shape o) f.0 ms k f.1 i in
      below n z.0 o f.0 f.2 z.1 (free_back d z.0 k z.2 r)

  -- ---- sides

  one_kid : (k : ℕ) (ms : List ℕ) → AllZip (IsCopied map) (k ∷ []) ms → (m : ℕ) × (ms ≡ m ∷ []) × IsCopied map k m
  one_kid k [] h = absurd h
  one_kid k (m ∷ []) h = (m, refl, h.0)
  one_kid k (m ∷ n ∷ ms) h = absurd h.1

  two_kids : (k l : ℕ) (ms : List ℕ) → AllZip (IsCopied map) (k ∷ l ∷ []) ms → (m : ℕ) × (n : ℕ) × (ms ≡ m ∷ n ∷ []) × IsCopied map k m × IsCopied map l n
  two_kids k l [] h = absurd h
  two_kids k l (m ∷ []) h = absurd h.1
  two_kids k l (m ∷ n ∷ []) h = (m, n, refl, h.0, h.1.0)
  two_kids k l (m ∷ n ∷ q ∷ ms) h = absurd h.1.1

  form_none : (n m : ℕ) (o : Op) → IsCopied map n m → form_at from.nodes n ≡ Some (form o []) → form_at to.nodes m ≡ Some (form o [])
  form_none n m o h e = let f = form_copied n m o [] h e in f.2 ∙ ap (λ (ms : List ℕ). Some (form o ms)) (zip_nil (IsCopied map) [] f.0 f.1 refl)

  form_one : (n m : ℕ) (o : Op) (k : ℕ) → IsCopied map n m → form_at from.nodes n ≡ Some (form o (k ∷ [])) → (k' : ℕ) × IsCopied map k k' × (form_at to.nodes m ≡ Some (form o (k' ∷ [])))
  form_one n m o k h e =
      let f = form_copied n m o (k ∷ []) h e in
      let z = one_kid k f.0 f.1 in
      (z.0, z.2, f.2 ∙ ap (λ (ms : List ℕ). Some (form o ms)) z.1)

  form_two : (n m : ℕ) (o : Op) (k l : ℕ) → IsCopied map n m → form_at from.nodes n ≡ Some (form o (k ∷ l ∷ [])) → (k' l' : ℕ) × IsCopied map k k' × IsCopied map l l' × (form_at to.nodes m ≡ Some (form o (k' ∷ l' ∷ [])))
  form_two n m o k l h e =
      let f = form_copied n m o (k ∷ l ∷ []) h e in
      let z = two_kids k l f.0 f.1 in
      (z.0, z.1, z.3, z.4, f.2 ∙ ap (λ (ms : List ℕ). Some (form o ms)) z.2)

  narrows_copied : (t : JType) (Q R : ℕ → Type 0) → ((k m : ℕ) → IsCopied map k m → Q k → R m) → (n m : ℕ) → IsCopied map n m → Narrows (form_at from.nodes) t Q n → Narrows (form_at to.nodes) t R m
  narrows_copied jtype.Z Q R f n m h (k, one, e, q, c) =
      let z = form_two n m (op.Scalar Iand) k one h e in
      (z.0, z.1, z.4, f k z.0 z.2 q, form_none one z.1 (op.Int _) z.3 c)
  narrows_copied jtype.B Q R f n m h (k, e, q) = let z = form_one n m (op.Scalar I2b) k h e in (z.0, z.2, f k z.0 z.1 q)
  narrows_copied jtype.C Q R f n m h (k, e, q) = let z = form_one n m (op.Scalar I2c) k h e in (z.0, z.2, f k z.0 z.1 q)
  narrows_copied jtype.S Q R f n m h (k, e, q) = let z = form_one n m (op.Scalar I2s) k h e in (z.0, z.2, f k z.0 z.1 q)
  narrows_copied t Q R f n m h q = f n m h q

  module _ (names : Names) (kids vars : List ℕ) (kids_are : AllZip (IsCopied map) names.kids kids) (vars_are : AllZip (IsCopied map) names.vars vars) where
    abbrev pub copied_names : Names
    copied_names = record { depth = names.depth; symbols = names.symbols; kinds = names.kinds; constants = names.constants; op_ = names.op_; kids = kids; vars = vars }

    each_copied : (e : Each) (k k' n m : ℕ) → IsCopied map k k' → IsCopied map n m → IsEach (form_at from.nodes) names e k n → IsEach (form_at to.nodes) copied_names e k' m
    each_copied bare k k' n m h i e = copied_once n k' m (subst (λ (q : ℕ). IsCopied map q k') e h) i
    each_copied shifted k k' n m h i e = let z = form_one n m (op.Shift names.depth) k i e in z.2 ∙ ap (λ (q : ℕ). Some (form (op.Shift names.depth) (q ∷ []))) (copied_once k z.0 k' z.1 h)
    each_copied (evaluated j) k k' n m h i (p, at, e) =
        let z = form_two n m (op.Eval names.depth) k p i e in
        let v = zip_at (IsCopied map) names.vars vars j p vars_are at in
        (v.0, v.1, z.4 ∙ ap (λ (q : ℕ). Some (form (op.Eval names.depth) (q ∷ z.1 ∷ []))) (copied_once k z.0 k' z.2 h) ∙ ap (λ (q : ℕ). Some (form (op.Eval names.depth) (k' ∷ q ∷ []))) (copied_once p z.1 v.0 z.3 v.2))

    eaches_copied : (e : Each) (ks ks' ns ms : List ℕ) → AllZip (IsCopied map) ks ks' → AllZip (IsCopied map) ns ms → AllZip (IsEach (form_at from.nodes) names e) ks ns → AllZip (IsEach (form_at to.nodes) copied_names e) ks' ms
    eaches_copied e [] [] [] [] h i z = tt
    eaches_copied e (k ∷ ks) (k' ∷ ks') (n ∷ ns) (m ∷ ms) h i z = (each_copied e k k' n m h.0 i.0 z.0, eaches_copied e ks ks' ns ms h.1 i.1 z.1)
    eaches_copied e [] (k' ∷ ks') ns ms h i z = absurd h
    eaches_copied e (k ∷ ks) [] ns ms h i z = absurd h
    eaches_copied e [] [] (n ∷ ns) ms h i z = absurd z
    eaches_copied e [] [] [] (m ∷ ms) h i z = absurd i
    eaches_copied e (k ∷ ks) (k' ∷ ks') [] ms h i z = absurd z
    eaches_copied e (k ∷ ks) (k' ∷ ks') (n ∷ ns) [] h i z = absurd i

    at_copied : (j n m : ℕ) → IsCopied map n m → slice_get names.vars j ≡ Some n → slice_get vars j ≡ Some m
    at_copied j n m h e = let v = zip_at (IsCopied map) names.vars vars j n vars_are e in v.1 ∙ ap (λ (q : ℕ). Some q) (copied_once n v.0 m v.2 h)

    mutual
      stands_copied : (p : Pattern) (n m : ℕ) → IsCopied map n m → Stands (form_at from.nodes) names p n → Stands (form_at to.nodes) copied_names p m
      stands_copied (var j) n m h e = at_copied j n m h e
      stands_copied (constant j) n m h (e, (o, is, c)) = (at_copied j n m h e, (o, form_none n m o h is, c))
      stands_copied (fold o atoms) n m h (c, e, (p, is, k)) = (c, e, (p, form_none n m p h is, k))
      stands_copied (narrowed t p) n m h (y, e, s) = (y, e, narrows_copied y (Stands (form_at from.nodes) names p) (Stands (form_at to.nodes) copied_names p) (λ k k' i z. stands_copied p k k' i z) n m h s)
      stands_copied (over hd ps) n m h (ks, e, s) = let f = form_copied n m (head_op names hd) ks h e in (f.0, f.2, stand_copied ps ks f.0 f.1 s)
      stands_copied (over_each which e) n m h (ks, is, number, z) = let f = form_copied n m names.op_ ks h is in (f.0, f.2, number, eaches_copied e names.kids kids ks f.0 kids_are f.1 z)

      stand_copied : (ps : Patterns) (ks ms : List ℕ) → AllZip (IsCopied map) ks ms → StandAll (form_at from.nodes) names ps ks → StandAll (form_at to.nodes) copied_names ps ms
      stand_copied none [] [] h s = tt
      stand_copied none [] (m ∷ ms) h s = absurd h
      stand_copied none (k ∷ ks) ms h s = absurd s
      stand_copied (first p ps) [] ms h s = absurd s
      stand_copied (first p ps) (k ∷ ks) [] h s = absurd h
      stand_copied (first p ps) (k ∷ ks) (m ∷ ms) h s = (stands_copied p k m h.0 s.0, stand_copied ps ks ms h.1 s.1)

    holds_copied : (assumed : List ℕ) → ((e : ℕ) → In assumed e → e < from.base) → (s : Side) → Holds from assumed names s → Holds to assumed copied_names s
    holds_copied assumed low (settled j) (n, at, is) = let v = zip_at (IsCopied map) names.vars vars j n vars_are at in (v.0, v.1, settled_copied assumed low n v.0 v.2 is)
    holds_copied assumed low (not_free j) (n, at, is) = let v = zip_at (IsCopied map) names.vars vars j n vars_are at in (v.0, v.1, λ f. is (free_back names.depth n v.0 v.2 f))
    holds_copied assumed low (symbols_differ s t) is = is
    holds_copied assumed low (kinds_differ k l) is = is
    holds_copied assumed low (not_byte k) is = is
    holds_copied assumed low (constants_differ j k) is = is

    all_copied : (assumed : List ℕ) → ((e : ℕ) → In assumed e → e < from.base) → (sides : List Side) → AllByRecursion (Holds from assumed names) sides → AllByRecursion (Holds to assumed copied_names) sides
    all_copied assumed low [] h = tt
    all_copied assumed low (s ∷ sides) h = (holds_copied assumed low s h.0, all_copied assumed low sides h.1)

  -- an instance over copies
  pub instance_copied : (assumed : List ℕ) → ((e : ℕ) → In assumed e → e < from.base) → (n : ℕ) (nodes nodes' : List ℕ) (a b a' b' : ℕ) → AllZip (IsCopied map) nodes nodes' → IsCopied map a a' → IsCopied map b b'
      → Instance from assumed n nodes a b → Instance to assumed n nodes' a' b'
  instance_copied assumed low n nodes nodes' a b a' b' zip h k (ax, entry, i) =
      let p = zip_parts (IsCopied map) i.names.kids i.names.vars nodes' (subst (λ (q : List ℕ). AllZip (IsCopied map) q nodes') i.are zip) in (
        ax,
        entry,
        record {
          names = copied_names i.names p.left p.right p.lefts p.rights;
          are = p.are;
          long = zip_long (IsCopied map) i.names.vars p.right p.rights ∙ i.long;
          alone = λ e. zip_nil (IsCopied map) i.names.kids p.left p.lefts (i.alone e);
          left = stands_copied i.names p.left p.right p.lefts p.rights ax.left a a' h i.left;
          right = stands_copied i.names p.left p.right p.lefts p.rights ax.right b b' k i.right;
          sides = all_copied i.names p.left p.right p.lefts p.rights assumed low ax.sides i.sides;
        },
      )
