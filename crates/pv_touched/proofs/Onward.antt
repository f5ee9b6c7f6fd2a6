-- What held at the earlier look holds still, of the classes of now.
use Rattle.std.proofs.Common.{◌≡◌, ℕ, ◌<◌, ◌≤◌, Bool, true, false, List, [], ◌∷◌, ◌++◌, map, length, Option, Some, None, slice_get, option_map, inl, inr, refl, sym, ap, ap₂, ◌∙◌, subst, arith, ◌==◌, if◌then◌else◌}
use Rattle.std.specs.List.{AllZip, AllByRecursion, flat_map}
use Rattle.std.proofs.lemmas.List.{length-map, map-append}
use Rattle.std.proofs.lemmas.Option.{slice_get_within, slice_get-map}
use Rattle.pv_value.specs.Spelled.{bind}
use Rattle.pv_graph.specs.declared.node.Op.{Op}
use Rattle.pv_graph.specs.Forms.{form}
use Rattle.pv_graph.specs.Ops.{Shape, plain, choice, theta, eval, pass, shift, root, shape}
use Rattle.pv_graph.specs.Walks.{In, Free, here, below, Reaches, itself, along, open_kids}
use Rattle.pv_graph.specs.Graphs.{Graph, form_at, IsGraph, Extends}
use Rattle.pv_graph.proofs.Cited.{form_there, found, kid_within, node_at}
use Rattle.pv_value.specs.declared.number.Num.{Num}
use Rattle.pv_pattern.specs.declared.names.NameId.{NameId}
use Rattle.pv_pattern.specs.declared.names.NameId.TheVariants as name
use Rattle.pv_pattern.specs.Patterns.{Head, fixed, theta_d, eval_d, pass_d, shift_d, getstatic, putstatic, getfield, putfield, load, store, bare, shifted, evaluated, Pattern, var, constant, fold, narrowed, over, over_each, Patterns, none, first, Side, settled, not_free, symbols_differ, kinds_differ, not_byte, constants_differ, Axiom, variables}
use Rattle.pv_pattern.specs.Instances.{Names, head_op}
use Rattle.pv_pattern.specs.Binding.{names}
use Rattle.pv_marks.specs.Classes.{class_of, HasForm, Trait, unfree, counted, NodeHas, ClassHas, by_node, by_kids}
use Rattle.pv_marks.specs.Classes as marks
use Rattle.pv_match.specs.declared.found.Param.{Param}
use Rattle.pv_match.specs.Parameters.{name_params, once_more, params_of}
use Rattle.pv_match.specs.Standing.{HoldsConstant, IsEachIn, StandsIn, AllStandIn}
use Rattle.pv_match.specs.Matches.{HoldsIn, IsMatch}
use Rattle.pv_match.specs.Reading.{reads, reads_all, IsReadable}

-- ---- lists

pub map_same : (f h : ℕ → ℕ) (xs : List ℕ) → ((x : ℕ) → In xs x → f x ≡ h x) → map f xs ≡ map h xs
map_same f h [] e = refl
map_same f h (x ∷ xs) e = ap₂ (λ y ys. y ∷ ys) (e x (inl refl)) (map_same f h xs (λ y i. e y (inr i)))

pub map_twice : (f h : ℕ → ℕ) (xs : List ℕ) → map f (map h xs) ≡ map (λ x. f (h x)) xs
map_twice f h [] = refl
map_twice f h (x ∷ xs) = ap (λ ys. f (h x) ∷ ys) (map_twice f h xs)

pub in_map : (f : ℕ → ℕ) (xs : List ℕ) (y : ℕ) → In (map f xs) y → (x : ℕ) × In xs x × (f x ≡ y)
in_map f [] y i = absurd i
in_map f (x ∷ xs) y (inl e) = (x, inl refl, e)
in_map f (x ∷ xs) y (inr i) = let r = in_map f xs y i in (r.0, inr r.1, r.2)

flat_same : (f h : NameId → List Param) (xs : List NameId) → ((x : NameId) → f x ≡ h x) → flat_map f xs ≡ flat_map h xs
flat_same f h [] e = refl
flat_same f h (x ∷ xs) e = ap₂ (λ a b. a ++ b) (e x) (flat_same f h xs e)

-- ---- the kids through which a depth is free

open_in : (d : ℕ) (s : Shape) (ks : List ℕ) (k : ℕ) → In (open_kids d s ks) k → In ks k
open_in d (eval e) [] k i = i
open_in d (eval e) (l ∷ ks) k i = go (e == d) i
  where
    go : (b : Bool) → In (if b then ks else l ∷ ks) k → In (l ∷ ks) k
    go true i = inr i
    go false i = i
open_in d (pass e) ks k i = go (e == d) i
  where
    go : (b : Bool) → In (if b then [] else ks) k → In ks k
    go true i = absurd i
    go false i = i
open_in d plain ks k i = i
open_in d choice ks k i = i
open_in d (theta e) ks k i = i
open_in d (shift e) ks k i = i
open_in d root ks k i = i

open_map : (f : ℕ → ℕ) (d : ℕ) (s : Shape) (ks : List ℕ) (k : ℕ) → In (open_kids d s (map f ks)) k → (x : ℕ) × In (open_kids d s ks) x × (f x ≡ k)
open_map f d (eval e) [] k i = absurd i
open_map f d (eval e) (l ∷ ks) k i = go (e == d) i
  where
    go : (b : Bool) → In (if b then map f ks else f l ∷ map f ks) k → (x : ℕ) × In (if b then ks else l ∷ ks) x × (f x ≡ k)
    go true i = in_map f ks k i
    go false i = in_map f (l ∷ ks) k i
open_map f d (pass e) ks k i = go (e == d) i
  where
    go : (b : Bool) → In (if b then [] else map f ks) k → (x : ℕ) × In (if b then [] else ks) x × (f x ≡ k)
    go true i = absurd i
    go false i = in_map f ks k i
open_map f d plain ks k i = in_map f ks k i
open_map f d choice ks k i = in_map f ks k i
open_map f d (theta e) ks k i = in_map f ks k i
open_map f d (shift e) ks k i = in_map f ks k i
open_map f d root ks k i = in_map f ks k i

counted_map : (f : ℕ → ℕ) (t : Trait) (o : Op) (ks : List ℕ) (k : ℕ) → In (counted t o (map f ks)) k → (x : ℕ) × In (counted t o ks) x × (f x ≡ k)
counted_map f marks.settled o ks k i = in_map f ks k i
counted_map f (unfree d) o ks k i = open_map f d (shape o) ks k i

-- ---- names over other classes

abbrev pub moved_names : (ℕ → ℕ) → Names → Names
moved_names f m = record { depth = m.depth; symbols = m.symbols; kinds = m.kinds; constants = m.constants; op_ = m.op_; kids = map f m.kids; vars = map f m.vars }

head_moved : (f : ℕ → ℕ) (m : Names) (h : Head) → head_op (moved_names f m) h ≡ head_op m h
head_moved f m (fixed o) = refl
head_moved f m theta_d = refl
head_moved f m eval_d = refl
head_moved f m pass_d = refl
head_moved f m shift_d = refl
head_moved f m (getstatic s) = refl
head_moved f m (putstatic s) = refl
head_moved f m (getfield s) = refl
head_moved f m (putfield s) = refl
head_moved f m (load k) = refl
head_moved f m (store k) = refl

name_moved : (f : ℕ → ℕ) (m : Names) (n : NameId) → name_params m n ≡ name_params (moved_names f m) n
name_moved f m name.Depth = refl
name_moved f m (name.Symbol s) = refl
name_moved f m (name.Kind k) = refl
name_moved f m (name.Constant j) = refl
name_moved f m name.Operation = refl

params_moved : (f : ℕ → ℕ) (m : Names) (left : Pattern) → params_of m left ≡ params_of (moved_names f m) left
params_moved f m left = flat_same (name_params m) (name_params (moved_names f m)) (once_more [] (names left)) (name_moved f m)

pub bind_some : {A B : Type 0} (f : Option A) (h : A → Option B) (b : B) → bind f h ≡ Some b → (a : A) × (f ≡ Some a) × (h a ≡ Some b)
bind_some None h b e = absurd (cc)
bind_some (Some a) h b e = (a, refl, e)

-- ---- a graph that grew

module _ (e g : Graph) (ie : IsGraph e) (grown : Extends e g) where
  pub same_form : (n : ℕ) → n < length e.nodes → form_at g.nodes n ≡ form_at e.nodes n
  same_form n lt = let node = found e.nodes n lt in form_there g.nodes n node.0 (grown.nodes n node.0 node.1) ∙ sym (form_there e.nodes n node.0 node.1)

  pub is_there : (n : ℕ) (o : Op) (ks : List ℕ) → form_at e.nodes n ≡ Some (form o ks) → n < length e.nodes
  is_there n o ks at = let w = node_at e.nodes n o ks at in slice_get_within e.nodes n w.0 w.1

  pub kid_there : (n k : ℕ) (o : Op) (ks : List ℕ) → form_at e.nodes n ≡ Some (form o ks) → In ks k → k < length e.nodes
  kid_there n k o ks at m = let node = node_at e.nodes n o ks at in kid_within e ie n k node.0 node.1 (subst (λ (xs : List ℕ). In xs k) (sym node.3) m)

  free_back : (d n : ℕ) → n < length e.nodes → Free (form_at g.nodes) d n → Free (form_at e.nodes) d n
  free_back d n lt (here _ o ks at is) = here n o ks (sym (same_form n lt) ∙ at) is
  free_back d n lt (below _ k o ks at m f) =
      let at' : form_at e.nodes n ≡ Some (form o ks) = sym (same_form n lt) ∙ at in
      below n k o ks at' m (free_back d k (kid_there n k o ks at' (open_in d (shape o) ks k m)) f)

  reach_back : (assumed : List ℕ) (n m : ℕ) → n < length e.nodes → Reaches (form_at g.nodes) assumed n m → Reaches (form_at e.nodes) assumed n m × (m < length e.nodes)
  reach_back assumed n m lt (itself _) = (itself n, lt)
  reach_back assumed n m lt (along _ k _ o ks not at i r) =
      let at' : form_at e.nodes n ≡ Some (form o ks) = sym (same_form n lt) ∙ at in
      let y = reach_back assumed k m (kid_there n k o ks at' i) r in
      (along n k m o ks not at' i y.0, y.1)

  has_still : (assumed : List ℕ) (t : Trait) (n : ℕ) → n < length e.nodes → NodeHas e assumed t n → NodeHas g assumed t n
  has_still assumed marks.settled n lt s = λ m o ks r not at. let y = reach_back assumed n m lt r in s m o ks y.0 not (sym (same_form m y.1) ∙ at)
  has_still assumed (unfree d) n lt s = λ f. s (free_back d n lt f)

  -- ---- and whose classes were joined

  module _ (old numbers assumed : List ℕ) (base : g.base ≡ e.base) (low : (k : ℕ) → k < length e.nodes → class_of old k ≤ k) (least : (k : ℕ) → k < length e.nodes → class_of old (class_of old k) ≡ class_of old k)
      (joined : (a b : ℕ) → a < length e.nodes → b < length e.nodes → class_of old a ≡ class_of old b → class_of numbers a ≡ class_of numbers b) where
    abbrev f : ℕ → ℕ
    f = class_of numbers

    -- the class of now of a class is that of its nodes
    pub class_moved : (k : ℕ) → k < length e.nodes → f (class_of old k) ≡ f k
    class_moved k lt = joined (class_of old k) k (let l = low k lt in omega (arith, l, lt)) lt (least k lt)

    pub all_moved : (ks : List ℕ) → ((k : ℕ) → In ks k → k < length e.nodes) → map f (map (class_of old) ks) ≡ map f ks
    all_moved ks within = map_twice f (class_of old) ks ∙ map_same (λ k. f (class_of old k)) f ks (λ k i. class_moved k (within k i))

    form_onward : (c : ℕ) (o : Op) (cs : List ℕ) → HasForm e old c o cs → HasForm g numbers (f c) o (map f cs)
    form_onward c o cs h =
        let lt = is_there h.node o h.kids h.is in
        record {
          node = h.node;
          kids = h.kids;
          is = same_form h.node lt ∙ h.is;
          here = sym (class_moved h.node lt) ∙ ap f h.here;
          classes = sym (all_moved h.kids (λ k i. kid_there h.node k o h.kids h.is i)) ∙ ap (map f) h.classes;
        }

    class_onward : (t : Trait) (c : ℕ) → ClassHas e old assumed t c → ClassHas g numbers assumed t (f c)
    class_onward t c (by_node _ n l at has) =
        let lt : n < length e.nodes = let b = ie.base in omega (arith, b, l) in
        by_node (f c) n (omega (arith, l, base)) (sym (class_moved n lt) ∙ ap f at) (has_still assumed t n lt has)
    class_onward t c (by_kids _ o cs h p r) =
        by_kids (f c) o (map f cs) (form_onward c o cs h) p
        (λ k i. let x = counted_map f t o cs k i in subst (ClassHas g numbers assumed t) x.2 (class_onward t x.0 (r x.0 x.1)))

    constant_onward : (c : ℕ) (n : Num) → HoldsConstant e old c n → HoldsConstant g numbers (f c) n
    constant_onward c n h = (h.0, form_onward c h.0 [] h.1, h.2)

    module _ (m : Names) where
      abbrev fm : Names
      fm = moved_names f m

      var_onward : (j c : ℕ) → slice_get m.vars j ≡ Some c → slice_get fm.vars j ≡ Some (f c)
      var_onward j c at = slice_get-map f m.vars j ∙ ap (option_map f) at

      each_onward : (ks cs : List ℕ) → AllZip (IsEachIn e old m bare) ks cs → AllZip (IsEachIn g numbers fm bare) (map f ks) (map f cs)
      each_onward [] [] z = tt
      each_onward [] (c ∷ cs) z = absurd z
      each_onward (k ∷ ks) [] z = absurd z
      each_onward (k ∷ ks) (c ∷ cs) z = (ap f z.0, each_onward ks cs z.1)

      mutual
        stands_onward : (n k : ℕ) (p : Pattern) → reads n p ≡ Some k → (c : ℕ) → StandsIn e old m p c → StandsIn g numbers fm p (f c)
        stands_onward n k (var j) r c h = var_onward j c h
        stands_onward n k (constant j) r c h = (var_onward j c h.0, constant_onward c (m.constants j) h.1)
        stands_onward n k (fold o atoms) r c h = absurd (cc)
        stands_onward n k (narrowed t p) r c h = absurd (cc)
        stands_onward n k (over h ps) r c s = (
          map f s.0,
          subst (λ o. HasForm g numbers (f c) o (map f s.0)) (sym (head_moved f m h)) (form_onward c (head_op m h) s.0 s.1),
          all_onward n k ps r s.0 s.2,
        )
        stands_onward n k (over_each w bare) r c s = (map f s.0, form_onward c m.op_ s.0 s.1, s.2, each_onward m.kids s.0 s.3)
        stands_onward n k (over_each w shifted) r c s = absurd (cc)
        stands_onward n k (over_each w (evaluated j)) r c s = absurd (cc)

        all_onward : (n k : ℕ) (ps : Patterns) → reads_all n ps ≡ Some k → (cs : List ℕ) → AllStandIn e old m ps cs → AllStandIn g numbers fm ps (map f cs)
        all_onward n k none r [] h = tt
        all_onward n k none r (c ∷ cs) h = absurd h
        all_onward n k (first p ps) r [] h = absurd h
        all_onward n k (first p ps) r (c ∷ cs) h =
            let b = bind_some (reads n p) (λ j. reads_all j ps) k r in
            (stands_onward n b.0 p b.1 c h.0, all_onward b.0 k ps b.2 cs h.1)

      side_onward : (s : Side) → HoldsIn e old assumed m s → HoldsIn g numbers assumed fm s
      side_onward (settled j) h = (f h.0, var_onward j h.0 h.1, class_onward marks.settled h.0 h.2)
      side_onward (not_free j) h = (f h.0, var_onward j h.0 h.1, class_onward (unfree m.depth) h.0 h.2)
      side_onward (symbols_differ s t) h = h
      side_onward (kinds_differ k l) h = h
      side_onward (not_byte k) h = h
      side_onward (constants_differ j k) h = h

      sides_onward : (ss : List Side) → AllByRecursion (HoldsIn e old assumed m) ss → AllByRecursion (HoldsIn g numbers assumed fm) ss
      sides_onward [] h = tt
      sides_onward (s ∷ ss) h = (side_onward s h.0, sides_onward ss h.1)

    pub match_onward : (a : Axiom) (params : List Param) (classes : List ℕ) → IsReadable a → IsMatch e old assumed a params classes → IsMatch g numbers assumed a params (map f classes)
    match_onward a params classes r i =
        let m = i.names in
        record {
          names = moved_names f m;
          at_ = f i.at_;
          stands = subst (λ p. StandsIn g numbers (moved_names f m) p (f i.at_)) (sym r.left) (stands_onward m 0 (variables a.left) (over r.head r.parts) r.reads_ i.at_ (subst (λ p. StandsIn e old m p i.at_) r.left i.stands));
          fits = record {
            sides = sides_onward m a.sides i.fits.sides;
            long = length-map m.vars f ∙ i.fits.long;
            alone = λ n. ap (map f) (i.fits.alone n);
            are = ap (map f) i.fits.are ∙ map-append f m.kids m.vars;
            params_ = i.fits.params_ ∙ params_moved f m a.left;
          };
        }
