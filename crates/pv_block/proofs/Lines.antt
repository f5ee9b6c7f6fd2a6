-- What lines make, line by line.
use Rattle.std.proofs.Common.{◌≡◌, ℕ, zero, suc, ◌+◌, ◌<◌, Bool, true, false, List, [], ◌∷◌, ◌++◌, length, get_or, drop, Option, Some, None, refl, sym, ap, subst, ◌∙◌, add-one, drop-cons}
use Rattle.pv_block.proofs.Words.{slice_get, slice_index_or, if◌then◌else◌, AllZip, ◌>>=◌, some_of, no_some, Op, Node, OpSort, Shape, plain, shape, sort_over, HaveSorts, Graph, IsGraph, FitsOver, Part, Of, IsFlat, has_depth, Grows, IsOfSort, HasItsSort, Stand, stand_then, grows_same, grows_then, bound, Kid, Given, Made, Kids, WithHeap, Operands, Zero, One, Two, Three, Line, Entry, StandsFor, AllStand, StandsOver, pick, but_first, taken, all_made, sort_made, parts_in, part_over, part_made, node_at, after_first, nodes_for, Stands, Fit, AreMade}
use Rattle.pv_block.proofs.Standing.{grown, stands_on}

-- ---- what a line takes

at_place : {A : Type 0} (R : ℕ → A → Type 0) (ns : List ℕ) (xs : List A) → AllZip R ns xs → (k : ℕ) (x : A) → slice_get xs k ≡ Some x → R (slice_index_or ns k 0) x
at_place R [] [] h k x e = no_some x e
at_place R [] (y ∷ xs) h k x e = absurd h
at_place R (n ∷ ns) [] h k x e = absurd h
at_place R (n ∷ ns) (y ∷ xs) h zero x e = subst (R n) (some_of _ _ e) h.0
at_place R (n ∷ ns) (y ∷ xs) h (suc k) x e = at_place R ns xs h.1 k x e

zip_grown : {A : Type 0} (R S : ℕ → A → Type 0) → ((n : ℕ) (x : A) → R n x → S n x) → (ns : List ℕ) (xs : List A) → AllZip R ns xs → AllZip S ns xs
zip_grown R S grow [] [] h = tt
zip_grown R S grow [] (x ∷ xs) h = absurd h
zip_grown R S grow (n ∷ ns) [] h = absurd h
zip_grown R S grow (n ∷ ns) (x ∷ xs) h = (grow n x h.0, zip_grown R S grow ns xs h.1)

pub stands_later : (old new : Graph) → Grows old new → (at : Entry) (ns : List ℕ) (ps : List Part) → Stands at old.nodes ns ps → Stands at new.nodes ns ps
stands_later old new g at ns ps h = zip_grown (StandsFor at old.nodes) (StandsFor at new.nodes) (λ n p s. stands_on at old.nodes new.nodes n p (grown old new g) s) ns ps h

pub sorts_later : (old new : Graph) → Grows old new → (ns : List ℕ) (ss : List OpSort) → HaveSorts old.sorts ns ss → HaveSorts new.sorts ns ss
sorts_later old new g ns ss h = zip_grown (IsOfSort old) (IsOfSort new) (λ n s i. g.extends.sorts n s i) ns ss h

zip_more : {A : Type 0} (R : ℕ → A → Type 0) (ns : List ℕ) (xs : List A) (n : ℕ) (x : A) → AllZip R ns xs → R n x → AllZip R (ns ++ n ∷ []) (xs ++ x ∷ [])
zip_more R [] [] n x h r = (r, tt)
zip_more R [] (y ∷ xs) n x h r = absurd h
zip_more R (m ∷ ns) [] n x h r = absurd h
zip_more R (m ∷ ns) (y ∷ xs) n x h r = (h.0, zip_more R ns xs n x h.1 r)

pub picked : {A : Type 0} (R : ℕ → A → Type 0) (given made : List ℕ) (xs ys : List A) → AllZip R given xs → AllZip R made ys → (k : Kid) (x : A) → pick xs ys k ≡ Some x → R (node_at given made k) x
picked R given made xs ys h i (Given k) x e = at_place R given xs h k x e
picked R given made xs ys h i (Made k) x e = at_place R made ys i k x e

but_first_zip : {A : Type 0} (R : ℕ → A → Type 0) (ns : List ℕ) (xs zs : List A) → AllZip R ns xs → but_first xs ≡ Some zs → AllZip R (after_first ns) zs
but_first_zip R [] [] zs h e = no_some zs e
but_first_zip R [] (x ∷ xs) zs h e = absurd h
but_first_zip R (n ∷ ns) [] zs h e = absurd h
but_first_zip R (n ∷ ns) (x ∷ xs) zs h e = subst (AllZip R ns) (some_of _ _ e) h.1

taken_zip : {A : Type 0} (R : ℕ → A → Type 0) (given made : List ℕ) (xs ys : List A) → AllZip R given xs → AllZip R made ys → (ks : Kids) (zs : List A) → taken xs ys ks ≡ Some zs → AllZip R (nodes_for given made ks) zs
taken_zip R given made xs ys h i WithHeap zs e = but_first_zip R given xs zs h e
taken_zip R given made xs ys h i Operands zs e = let b = bound (but_first xs) but_first zs e in but_first_zip R (after_first given) b.0 zs (but_first_zip R given xs b.0 h b.1) b.2
taken_zip R given made xs ys h i Zero zs e = subst (AllZip R []) (some_of _ _ e) tt
taken_zip R given made xs ys h i (One a) zs e =
    let b = bound (pick xs ys a) (λ x. Some (x ∷ [])) zs e in
    subst (AllZip R (nodes_for given made (One a))) (some_of _ _ b.2) (picked R given made xs ys h i a b.0 b.1, tt)
taken_zip R given made xs ys h i (Two a c) zs e =
    let b = bound (pick xs ys a) (λ x. pick xs ys c >>= λ y. Some (x ∷ y ∷ [])) zs e in
    let d = bound (pick xs ys c) (λ y. Some (b.0 ∷ y ∷ [])) zs b.2 in
    subst (AllZip R (nodes_for given made (Two a c))) (some_of _ _ d.2) (picked R given made xs ys h i a b.0 b.1, (picked R given made xs ys h i c d.0 d.1, tt))
taken_zip R given made xs ys h i (Three a c k) zs e =
    let b = bound (pick xs ys a) (λ x. pick xs ys c >>= λ y. pick xs ys k >>= λ z. Some (x ∷ y ∷ z ∷ [])) zs e in
    let d = bound (pick xs ys c) (λ y. pick xs ys k >>= λ z. Some (b.0 ∷ y ∷ z ∷ [])) zs b.2 in
    let f = bound (pick xs ys k) (λ z. Some (b.0 ∷ d.0 ∷ z ∷ [])) zs d.2 in
    subst (AllZip R (nodes_for given made (Three a c k))) (some_of _ _ f.2) (picked R given made xs ys h i a b.0 b.1, (picked R given made xs ys h i c d.0 d.1, (picked R given made xs ys h i k f.0 f.1, tt)))

-- ---- one line

-- after one line more, what the others make is left
next_line : {A : Type 0} (R S : ℕ → A → Type 0) (f : Op → List A → Option A) (given made : List ℕ) (xs ys zs : List A) (l : Line) (rest : List Line) (n : ℕ) → ((n : ℕ) (x : A) → R n x → S n x) → AllZip R given xs → AllZip R made ys
    → all_made f xs (l ∷ rest) ys ≡ Some zs → ((vs : List A) (v : A) → AllZip R (nodes_for given made l.kids) vs → f l.op vs ≡ Some v → S n v) → (us : List A) × AllZip S (made ++ n ∷ []) us × (all_made f xs rest us ≡ Some zs)
next_line R S f given made xs ys zs l rest n grow h i e over =
    let b = bound (taken xs ys l.kids >>= f l.op) (λ x. all_made f xs rest (ys ++ x ∷ [])) zs e in
    let t = bound (taken xs ys l.kids) (f l.op) b.0 b.1 in
    (ys ++ b.0 ∷ [], zip_more S made ys n b.0 (zip_grown R S grow made ys i) (over t.0 b.0 (taken_zip R given made xs ys h i l.kids t.0 t.1) t.2), b.2)

if_not : {A : Type 0} (b : Bool) (o : Option A) (a : A) → (if b then None else o) ≡ Some a → (b ≡ false) × (o ≡ Some a)
if_not true o a e = no_some a e
if_not false o a e = (refl, e)

plain_part : (o : Op) (s : Shape) (e : shape o ≡ s) (vs : List Part) (p : Part) → part_over o s e vs ≡ Some p → (q : shape o ≡ plain) × (Of o q (parts_in vs) ≡ p)
plain_part o plain e vs p i = (e, some_of _ _ i)
plain_part o s e vs p i = no_some p i

all_in : (at : Entry) (nodes : List Node) (ns : List ℕ) (ps : List Part) → Stands at nodes ns ps → AllStand at nodes ns (parts_in ps)
all_in at nodes [] [] h = tt
all_in at nodes [] (p ∷ ps) h = absurd h
all_in at nodes (n ∷ ns) [] h = absurd h
all_in at nodes (n ∷ ns) (p ∷ ps) h = (h.0, all_in at nodes ns ps h.1)

-- ---- some lines

-- some lines are done, which made these nodes, and the rest is left
pub record SoFar (old : Graph) (given : List ℕ) (lines rest : List Line) (now : Graph) (made : List ℕ) : Type 0 where
  pub grows : Grows old now
  pub sorts : (ss ts : List OpSort) → HaveSorts old.sorts given ss → all_made sort_made ss lines [] ≡ Some ts → (us : List OpSort) × HaveSorts now.sorts made us × (all_made sort_made ss rest us ≡ Some ts)
  pub stand : (at : Entry) (ps qs : List Part) → Stand at.nodes old.nodes → Stands at old.nodes given ps → all_made part_made ps lines [] ≡ Some qs → (rs : List Part) × Stands at now.nodes made rs × (all_made part_made ps rest rs ≡ Some qs)

pub so_far_none : (old : Graph) (given : List ℕ) (lines : List Line) → IsGraph old → SoFar old given lines lines old []
so_far_none old given lines g = record { grows = grows_same old g; sorts = λ ss ts h e. ([], tt, e); stand = λ at ps qs o h e. ([], tt, e) }

module _ (old : Graph) (given : List ℕ) (lines : List Line) (now : Graph) (made : List ℕ) where
  pub so_far_all : SoFar old given lines [] now made → AreMade old given lines now made
  so_far_all s = record {
    sorts = λ ss ts h e. let r = s.sorts ss ts h e in subst (HaveSorts now.sorts made) (some_of _ _ r.2) r.1;
    stand = λ at ps qs o h e. let r = s.stand at ps qs o h e in subst (Stands at now.nodes made) (some_of _ _ r.2) r.1;
  }

  module _ (l : Line) (rest : List Line) (s : SoFar old given lines (l ∷ rest) now made) where
    pub line_fits : Fit old given lines → IsFlat l.op × FitsOver now l.op (nodes_for given made l.kids)
    line_fits f =
        let r = s.sorts f.sorts f.made f.given_have f.are in
        let b = bound (taken f.sorts r.0 l.kids >>= sort_made l.op) (λ x. all_made sort_made f.sorts rest (r.0 ++ x ∷ [])) f.made r.2 in
        let t = bound (taken f.sorts r.0 l.kids) (sort_made l.op) b.0 b.1 in
        let i = if_not (has_depth l.op) (sort_over l.op t.0) b.0 t.2 in
        let h = sorts_later old now s.grows given f.sorts f.given_have in
        (i.0, (b.0, record { sorts = t.0; kids_have = taken_zip (IsOfSort now) given made f.sorts r.0 h r.1 l.kids t.0 t.1; over = i.1 }))

    pub so_far_next : (new : Graph) (n : ℕ) → Grows now new → StandsOver now.nodes l.op (nodes_for given made l.kids) new.nodes n → HasItsSort now l.op (nodes_for given made l.kids) new n → SoFar old given lines rest new (made ++ n ∷ [])
    so_far_next new n g over its = record {
      grows = grows_then old now new s.grows g;
      sorts = λ ss ts h e.
          let r = s.sorts ss ts h e in
          next_line (IsOfSort now) (IsOfSort new) sort_made given made ss r.0 ts l rest n (λ n x i. g.extends.sorts n x i) (sorts_later old now s.grows given ss h) r.1 r.2
          (λ vs v z f. its v (record { sorts = vs; kids_have = z; over = (if_not (has_depth l.op) (sort_over l.op vs) v f).1 }));
      stand = λ at ps qs o h e.
          let r = s.stand at ps qs o h e in
          next_line (StandsFor at now.nodes) (StandsFor at new.nodes) part_made given made ps r.0 qs l rest n (λ n x i. stands_on at now.nodes new.nodes n x (grown now new g) i)
          (stands_later old now s.grows at given ps h) r.1 r.2
          (λ vs v z f.
          let q = plain_part l.op (shape l.op) refl vs v f in
          subst (StandsFor at new.nodes n) q.1 (over at (parts_in vs) q.0 (stand_then at.nodes old.nodes now.nodes o (grown old now s.grows)) (all_in at now.nodes (nodes_for given made l.kids) vs z)));
    }

-- the first of the lines that are left
pub next_left : (lines : List Line) (k : ℕ) (l : Line) → k < length lines → l ≡ get_or lines k l → drop k lines ≡ l ∷ drop (k + 1) lines
next_left lines k l less is = drop-cons lines k l less ∙ ap (λ (x : Line). x ∷ drop (suc k) lines) (sym is) ∙ ap (λ (j : ℕ). l ∷ drop j lines) (sym (add-one k))
