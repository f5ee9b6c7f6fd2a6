-- There is one least graph of two nodes.
use Rattle.std.proofs.Common.{◌≡◌, ℕ, suc, ◌<◌, List, [], ◌∷◌, ◌++◌, length, slice_get, Some, refl, sym, ap, ◌∙◌, subst, arith}
use Rattle.std.specs.List.{Contains, AllZip, AllByRecursion, range_with_len}
use Rattle.std.proofs.lemmas.Option.{same_Some}
use Rattle.std.proofs.lemmas.List.FromFn.{length-range_with_len}
use Rattle.pv_list.proofs.Cited.{place_of, contains_at, partner}
use Rattle.pv_graph.specs.declared.node.Op.{Op}
use Rattle.pv_graph.specs.declared.node.Node.{Node}
use Rattle.pv_graph.proofs.Cited.{found, unfold_of}
use Rattle.pv_graph.specs.Unfold.{over, trees_of, unfold_at}
use Rattle.pv_graph.specs.Graphs.{form_at}
use Rattle.pv_alike.specs.Visits.{Visits, done, again, new}
use Rattle.pv_alike.specs.Least.{UnfoldEqually, UnfoldsAs, IsLeast}
use Rattle.pv_alike.proofs.Places.{zip_length, zip_append, range_get, range_below}
use Rattle.pv_alike.proofs.Orders.{front_at, visits_all}
use Rattle.pv_alike.proofs.LeastLaws.{least_within}

-- ---- two graphs side by side

-- nodes that unfold equally, of one graph and of another
abbrev pub AllUnfold : List Node → List Node → List ℕ → List ℕ → Type 0
AllUnfold h h' ps qs = AllZip (λ p q. UnfoldsAs h p h' q) ps qs

all_unfold : (h h' : List Node) (ks ls : List ℕ) → ((m : ℕ) → trees_of ks (unfold_at (form_at h) m) ≡ trees_of ls (unfold_at (form_at h') m)) → AllUnfold h h' ks ls
all_unfold h h' [] [] same = tt
all_unfold h h' [] (l ∷ ls) same = let e = same 0 in absurd (cc)
all_unfold h h' (k ∷ ks) [] same = let e = same 0 in absurd (cc)
all_unfold h h' (k ∷ ks) (l ∷ ls) same = ((λ m. let e = same m in cc), all_unfold h h' ks ls (λ m. let e = same m in cc))

-- nodes that unfold equally have one operation, and kids that unfold equally
pub parts : (h h' : List Node) (p q : ℕ) (x y : Node) → slice_get h p ≡ Some x → slice_get h' q ≡ Some y → UnfoldsAs h p h' q → (x.op ≡ y.op) × AllUnfold h h' x.kids y.kids
parts h h' p q x y at at' same =
    let both : (m : ℕ) → over x.op (trees_of x.kids (unfold_at (form_at h) m)) ≡ over y.op (trees_of y.kids (unfold_at (form_at h') m)) =
    λ m. sym (unfold_of h p m x at) ∙ same (suc m) ∙ unfold_of h' q m y at' in
    ((let e = both 0 in cc), all_unfold h h' x.kids y.kids (λ m. let e = both m in cc))

-- the other way round
pub back : (h h' : List Node) (ps qs : List ℕ) → AllUnfold h h' ps qs → AllUnfold h' h qs ps
back h h' [] [] all = tt
back h h' [] (q ∷ qs) all = absurd all
back h h' (p ∷ ps) [] all = absurd all
back h h' (p ∷ ps) (q ∷ qs) all = ((λ m. sym (all.0 m)), back h h' ps qs all.1)

-- what makes the numbers of an order nodes of a graph in which nodes that unfold equally are one
record IsKept (h : List Node) (order : List ℕ) : Type 0 where
  pub below : (n : ℕ) → Contains order n → n < length h
  pub distinct : (m n : ℕ) → m < length h → n < length h → UnfoldEqually h m n → m ≡ n

-- of two nodes that unfold equally, where the one has been visited, the other has been too
also_seen : (h h' : List Node) (order' seen seen' : List ℕ) (p q : ℕ) (todo' : List ℕ) → IsKept h' order' → AllUnfold h h' seen seen' → Contains seen p → UnfoldsAs h p h' q → Visits h' order' seen' todo' → Contains order' q → Contains seen' q
also_seen h h' order' seen seen' p q todo' kept alike there same visits in' =
    let at = place_of seen p there in
    let other = partner (λ m n. UnfoldsAs h m h' n) seen seen' at.0 p alike at.1 in
    let old : other.0 < length h' = kept.below other.0 (contains_at order' other.0 at.0 (front_at h' order' seen' todo' visits at.0 other.0 other.1)) in
    let one : other.0 ≡ q = kept.distinct other.0 q old (kept.below q in') (λ m. sym (other.2 m) ∙ same m) in
    contains_at seen' q at.0 (other.1 ∙ ap Some one)

-- visits of nodes that unfold equally have orders whose nodes do
side_by_side : (h h' : List Node) (order order' seen todo seen' todo' : List ℕ) → IsKept h order → IsKept h' order' → Visits h order seen todo → Visits h' order' seen' todo' → AllUnfold h h' seen seen' → AllUnfold h h' todo todo' → AllUnfold h h' order order'
side_by_side h h' order order' seen [] seen' [] kept kept' (done s e) (done s' e') alike next =
    subst (λ (xs : List ℕ). AllUnfold h h' xs order') e (subst (λ (ys : List ℕ). AllUnfold h h' seen ys) e' alike)
side_by_side h h' order order' seen [] seen' (q ∷ qs) kept kept' v v' alike next = absurd next
side_by_side h h' order order' seen (p ∷ ps) seen' [] kept kept' v v' alike next = absurd next
side_by_side h h' order order' seen (p ∷ ps) seen' (q ∷ qs) kept kept' (again s m ms there more) (again s' n ns there' more') alike next =
    side_by_side h h' order order' seen ps seen' qs kept kept' more more' alike next.1
side_by_side h h' order order' seen (p ∷ ps) seen' (q ∷ qs) kept kept' (again s m ms there more) (new s' n ns y absent' is' more') alike next =
    absurd (absent' (also_seen h h' order' seen seen' p q (q ∷ qs) kept' alike there next.0 (new s' n ns y absent' is' more') (visits_all h' order' seen' (q ∷ qs) (new s' n ns y absent' is' more')).0))
side_by_side h h' order order' seen (p ∷ ps) seen' (q ∷ qs) kept kept' (new s m ms x absent is more) (again s' n ns there' more') alike next =
    absurd (absent (also_seen h' h order seen' seen q p (p ∷ ps) kept (back h h' seen seen' alike) there' (λ m. sym (next.0 m)) (new s m ms x absent is more) (visits_all h order seen (p ∷ ps) (new s m ms x absent is more)).0))
side_by_side h h' order order' seen (p ∷ ps) seen' (q ∷ qs) kept kept' (new s m ms x absent is more) (new s' n ns y absent' is' more') alike next =
    let kids = (parts h h' p q x y is is' next.0).1 in
    side_by_side h h' order order' (seen ++ p ∷ []) (x.kids ++ ps) (seen' ++ q ∷ []) (y.kids ++ qs) kept kept' more more'
    (zip_append (λ m n. UnfoldsAs h m h' n) seen seen' (p ∷ []) (q ∷ []) alike (next.0, tt))
    (zip_append (λ m n. UnfoldsAs h m h' n) x.kids y.kids ps qs kids next.1)

-- ---- one least graph

kept_least : {g : List Node} {a b : ℕ} {h : List Node} {r s : ℕ} → IsLeast g a b h r s → IsKept h (range_with_len 0 (length h))
kept_least {h = h} least = record { below = λ n there. range_below (length h) n there; distinct = least.distinct }

-- a number below both lengths is a node that unfolds as in the other graph
record AreAlike (h h' : List Node) : Type 0 where
  pub long : length h ≡ length h'
  pub each : (n : ℕ) → n < length h → UnfoldsAs h n h' n

alike : {g : List Node} {a b : ℕ} {h h' : List Node} {r s r' s' : ℕ} → IsLeast g a b h r s → IsLeast g a b h' r' s' → AreAlike h h'
alike {h = h} {h' = h'} {r = r} {s = s} {r' = r'} {s' = s'} p q =
    let orders : AllUnfold h h' (range_with_len 0 (length h)) (range_with_len 0 (length h')) =
    side_by_side h h' (range_with_len 0 (length h)) (range_with_len 0 (length h')) [] (r ∷ s ∷ []) [] (r' ∷ s' ∷ [])
    (kept_least p) (kept_least q) p.numbered q.numbered tt
    ((λ m. p.first_root m ∙ sym (q.first_root m)), ((λ m. p.second_root m ∙ sym (q.second_root m)), tt)) in
    let R : ℕ → ℕ → Type 0 = λ m n. UnfoldsAs h m h' n in
    let long : length h ≡ length h' =
    sym (length-range_with_len 0 (length h)) ∙ zip_length R (range_with_len 0 (length h)) (range_with_len 0 (length h')) orders ∙ length-range_with_len 0 (length h') in
    record {
      long = long;
      each = λ n lt.
          let other = partner R (range_with_len 0 (length h)) (range_with_len 0 (length h')) n n orders (range_get (length h) n lt) in
          let one : other.0 ≡ n = same_Some other.0 n (sym other.1 ∙ range_get (length h') n (omega arith)) in
          subst (λ (k : ℕ). UnfoldsAs h n h' k) one other.2;
    }

-- nodes that unfold as one node of the other graph are one
one_of : (h h' : List Node) (p q : ℕ) → AreAlike h h' → ((m n : ℕ) → m < length h' → n < length h' → UnfoldEqually h' m n → m ≡ n) → p < length h → q < length h' → UnfoldsAs h p h' q → p ≡ q
one_of h h' p q both distinct lt lt' same = distinct p q (omega (arith, both.long)) lt' (λ m. sym (both.each p lt m) ∙ same m)

kids_one : (h h' : List Node) (ks ls : List ℕ) → AreAlike h h' → ((m n : ℕ) → m < length h' → n < length h' → UnfoldEqually h' m n → m ≡ n) → AllByRecursion (λ k. k < length h) ks → AllByRecursion (λ k. k < length h') ls → AllUnfold h h' ks ls → ks ≡ ls
kids_one h h' [] [] both distinct low low' all = refl
kids_one h h' [] (l ∷ ls) both distinct low low' all = absurd all
kids_one h h' (k ∷ ks) [] both distinct low low' all = absurd all
kids_one h h' (k ∷ ks) (l ∷ ls) both distinct low low' all =
    let one : k ≡ l = one_of h h' k l both distinct low.0 low'.0 all.0 in
    let others : ks ≡ ls = kids_one h h' ks ls both distinct low.1 low'.1 all.1 in
    cc (one, others)

same_node : (x y : Node) → x.op ≡ y.op → x.kids ≡ y.kids → x ≡ y
same_node x y p q = ap (λ (o : Op). record { op = o; kids = x.kids }) p ∙ ap (λ (ks : List ℕ). record { op = y.op; kids = ks }) q

-- two lists that have the same at each number are one
same_everywhere : (xs ys : List Node) → length xs ≡ length ys → ((n : ℕ) → n < length xs → slice_get xs n ≡ slice_get ys n) → xs ≡ ys
same_everywhere [] [] e each = refl
same_everywhere [] (y ∷ ys) e each = absurd (omega arith)
same_everywhere (x ∷ xs) [] e each = absurd (omega arith)
same_everywhere (x ∷ xs) (y ∷ ys) e each =
    let one : x ≡ y = same_Some x y (each 0 (omega arith)) in
    let others : xs ≡ ys = same_everywhere xs ys (omega arith) (λ n lt. each (suc n) (omega arith)) in
    cc (one, others)

nodes_one : {g : List Node} {a b : ℕ} {h h' : List Node} {r s r' s' : ℕ} → IsLeast g a b h r s → IsLeast g a b h' r' s' → AreAlike h h' → (n : ℕ) → n < length h → slice_get h n ≡ slice_get h' n
nodes_one {h = h} {h' = h'} p q both n lt =
    let x = found h n lt in
    let y = found h' n (omega (arith, both.long)) in
    let have = parts h h' n n x.0 y.0 x.1 y.1 (both.each n lt) in
    let kids : x.0.kids ≡ y.0.kids =
    kids_one h h' x.0.kids y.0.kids both q.distinct ((least_within p).kids n x.0 x.1) ((least_within q).kids n y.0 y.1) have.1 in
    x.1 ∙ ap Some (same_node x.0 y.0 have.0 kids) ∙ sym y.1

-- two nodes of a graph have one least graph: one list of nodes, with the same roots
pub least_once : {g : List Node} {a b : ℕ} {h h' : List Node} {r s r' s' : ℕ} → IsLeast g a b h r s → IsLeast g a b h' r' s' → (h ≡ h') × (r ≡ r') × (s ≡ s')
least_once {h = h} {h' = h'} {r = r} {s = s} {r' = r'} {s' = s'} p q =
    let both = alike p q in
    let within = least_within p in
    let within' = least_within q in (
      same_everywhere h h' both.long (λ n lt. nodes_one p q both n lt),
      one_of h h' r r' both q.distinct within.first within'.first (λ m. p.first_root m ∙ sym (q.first_root m)),
      one_of h h' s s' both q.distinct within.second within'.second (λ m. p.second_root m ∙ sym (q.second_root m)),
    )
