-- How the supports of a condition are found.
use Rattle.std.specs.Prelude.{◌≡◌, ◌⊎◌, ◌↔◌, ℕ, zero, suc, ◌+◌, ◌<◌, ◌≤◌, Bool, true, false, List, [], ◌∷◌, ◌++◌, length, map, Some, slice_get, slice_set, ◌==◌, if◌then◌else◌, refl}
use Rattle.std.proofs.Common.{inl, inr, sym, ap, ◌∙◌, subst, arith, get_or, take, length-append, append_assoc, true≢false, replicate}
use Rattle.std.proofs.lemmas.Option.{slice_get_within, slice_get-get_or, same_Some}
use Rattle.std.proofs.lemmas.List.{take_more}
use Rattle.pv_graph.specs.declared.node.Op.{Op}
use Rattle.pv_graph.specs.declared.node.Node.{Node}
use Rattle.pv_graph.specs.Forms.{form}
use Rattle.pv_graph.specs.Ops.{Shape, plain, choice, theta, eval, pass, shift, root, shape}
use Rattle.pv_graph.specs.Walks.{In, open_kids}
use Rattle.pv_graph.specs.Reach.{IsMarked, unmarked}
use Rattle.pv_graph.specs.Graphs.{Graph, form_of, IsGraph}
use Rattle.pv_graph.proofs.Cited.{equal_or_not, form_there, in_cases, in_last, set_length, set_other, set_same, bind_some}
use Rattle.pv_witness.specs.declared.condition.Condition.{Condition}
use Rattle.pv_witness.specs.declared.condition.Condition.TheVariants as condition
use Rattle.pv_marks.specs.Classes.{class_of}
use Rattle.pv_marks.specs.Parents.{NodeLists, IsListed, AreParents}
use Rattle.pv_witness.specs.Supports.{HandsOn, counted, Covers, IsReady, IsSupport, AreSupports, none, more, AreAllSupports}
use Rattle.pv_witness.specs.Found.{IsFound, IsReadyBy, Lists, Spreads, Begins, IsSwept}

-- ---- counting

unmarked_set : (has : List Bool) (c : ℕ) → slice_get has c ≡ Some false → suc (unmarked (slice_set has c true)) ≡ unmarked has
unmarked_set [] c e = absurd (cc)
unmarked_set (true ∷ has) zero e = absurd (cc)
unmarked_set (false ∷ has) zero e = refl
unmarked_set (true ∷ has) (suc c) e = unmarked_set has c e
unmarked_set (false ∷ has) (suc c) e = ap suc (unmarked_set has c e)

all_unmarked : (has : List Bool) → ((c : ℕ) (b : Bool) → slice_get has c ≡ Some b → b ≡ false) → unmarked has ≡ length has
all_unmarked [] f = refl
all_unmarked (true ∷ has) f = absurd (true≢false (f 0 true refl))
all_unmarked (false ∷ has) f = ap suc (all_unmarked has (λ c b e. f (suc c) b e))

-- ---- lists that hold classes

pub holds_front : (numbers xs ys : List ℕ) (c : ℕ) → Covers numbers xs c → Covers numbers (xs ++ ys) c
holds_front numbers xs ys c (b, i, e) = (b, in_more xs ys b i, e)
  where
    in_more : (xs ys : List ℕ) (b : ℕ) → In xs b → In (xs ++ ys) b
    in_more [] ys b i = absurd i
    in_more (x ∷ xs) ys b (inl e) = inl e
    in_more (x ∷ xs) ys b (inr i) = inr (in_more xs ys b i)

pub ready_more : (g : Graph) (numbers : List ℕ) (t : Condition) (xs ys : List ℕ) (n : ℕ) → IsReady g numbers t xs n → IsReady g numbers t (xs ++ ys) n
ready_more g numbers t xs ys n r = record { o = r.o; ks = r.ks; is = r.is; passes = r.passes; kids = λ k i. holds_front numbers xs ys (class_of numbers k) (r.kids k i) }

-- ---- one node is listed

module _ (g : Graph) (numbers list : List ℕ) (has : List Bool) (n : ℕ) where
  found_more : IsFound g numbers list has → slice_get has (class_of numbers n) ≡ Some false → IsFound g numbers (list ++ n ∷ []) (slice_set has (class_of numbers n) true)
  found_more f e = record {
    long = set_length has (class_of numbers n) true ∙ f.long;
    says = λ d. (there d, back d);
    room = (let a = length-append list (n ∷ []) in let b = unmarked_set has (class_of numbers n) e in let z = set_length has (class_of numbers n) true in let r = f.room in omega (arith, a, b, z, r));
  }
    where
      low : class_of numbers n < length has
      low = slice_get_within has (class_of numbers n) false e

      there : (d : ℕ) → IsMarked (slice_set has (class_of numbers n) true) d → Covers numbers (list ++ n ∷ []) d
      there d m = elim (equal_or_not d (class_of numbers n)) [
        | inl same ↦ (n, in_last list n, sym same)
        | inr ne ↦ holds_front numbers list (n ∷ []) d ((f.says d).0 (sym (set_other has (class_of numbers n) true d ne) ∙ m))
      ]

      back : (d : ℕ) → Covers numbers (list ++ n ∷ []) d → IsMarked (slice_set has (class_of numbers n) true) d
      back d (b, i, is) = elim (equal_or_not d (class_of numbers n)) [
        | inl same ↦ ap (slice_get (slice_set has (class_of numbers n) true)) same ∙ set_same has (class_of numbers n) true low
        | inr ne ↦ elim (in_cases list n b i) [
          | inl old ↦ set_other has (class_of numbers n) true d ne ∙ (f.says d).1 (b, old, is)
          | inr new ↦ absurd (ne (sym is ∙ ap (class_of numbers) (sym new)))
        ]
      ]

-- what a list of supports is after one node was looked at
pub listed_found : (g : Graph) (numbers : List ℕ) (n : ℕ) (old new : List ℕ) (old_has new_has : List Bool) → IsFound g numbers old old_has → Lists numbers n old new old_has new_has → IsFound g numbers new new_has
listed_found g numbers n old new old_has new_has f l = elim l.cases [
  | inl s ↦ subst (λ (xs : List ℕ). IsFound g numbers xs new_has) (sym s.1) (subst (IsFound g numbers old) (sym s.2) f)
  | inr m ↦ subst (λ (xs : List ℕ). IsFound g numbers xs new_has) (sym m.1) (subst (IsFound g numbers (old ++ n ∷ [])) (sym m.2) (found_more g numbers old old_has n f m.0))
]

pub listed_holds : (g : Graph) (numbers : List ℕ) (n : ℕ) (old new : List ℕ) (old_has new_has : List Bool) → IsFound g numbers old old_has → Lists numbers n old new old_has new_has → Covers numbers new (class_of numbers n)
listed_holds g numbers n old new old_has new_has f l = elim l.cases [
  | inl s ↦ subst (λ (xs : List ℕ). Covers numbers xs (class_of numbers n)) (sym s.1) ((f.says (class_of numbers n)).0 s.0)
  | inr m ↦ subst (λ (xs : List ℕ). Covers numbers xs (class_of numbers n)) (sym m.1) (n, in_last old n, refl)
]

pub listed_supports : (g : Graph) (numbers : List ℕ) (t : Condition) (starts : List Bool) (n : ℕ) (old new : List ℕ) (old_has new_has : List Bool) → IsSupport g numbers t starts old n → AreSupports g numbers t starts old
    → Lists numbers n old new old_has new_has → AreSupports g numbers t starts new
listed_supports g numbers t starts n old new old_has new_has is a l = elim l.cases [
  | inl s ↦ subst (AreSupports g numbers t starts) (sym s.1) a
  | inr m ↦ subst (AreSupports g numbers t starts) (sym m.1) (more old n a is)
]

-- the list has grown by some nodes, which are n
pub record Later (n : ℕ) (old new : List ℕ) : Type 0 where
  pub later : List ℕ
  pub are : new ≡ old ++ later
  pub only : (m : ℕ) → In later m → n ≡ m

append_none : (xs : List ℕ) → xs ≡ xs ++ []
append_none [] = refl
append_none (x ∷ xs) = ap (λ (ys : List ℕ). x ∷ ys) (append_none xs)

pub listed_later : (numbers : List ℕ) (n : ℕ) (old new : List ℕ) (old_has new_has : List Bool) → Lists numbers n old new old_has new_has → Later n old new
listed_later numbers n old new old_has new_has l = elim l.cases [
  | inl s ↦ record { later = []; are = s.1 ∙ append_none old; only = λ m i. absurd i }
  | inr m ↦ record { later = n ∷ []; are = m.1; only = λ k i. elim i [ inl e ↦ e | inr no_more ↦ absurd no_more ] }
]

-- ---- ready by marks

counted_within : (t : Condition) (o : Op) (ks : List ℕ) (k : ℕ) → In (counted t o ks) k → In ks k
counted_within condition.Settled o ks k i = i
counted_within (condition.NotFree d) o ks k i = open_within (shape o) ks i
  where
    if_within : (b : Bool) (xs ys : List ℕ) → In (if b then xs else ys) k → In xs k ⊎ In ys k
    if_within true xs ys i = inl i
    if_within false xs ys i = inr i

    open_within : (s : Shape) (ks : List ℕ) → In (open_kids d s ks) k → In ks k
    open_within plain ks i = i
    open_within choice ks i = i
    open_within (theta e) ks i = i
    open_within (eval e) [] i = i
    open_within (eval e) (a ∷ ks) i = elim (if_within (e == d) ks (a ∷ ks) i) [ inl j ↦ inr j | inr j ↦ j ]
    open_within (pass e) ks i = elim (if_within (e == d) [] ks i) [ inl j ↦ absurd j | inr j ↦ j ]
    open_within (shift e) ks i = i
    open_within root ks i = i

pub counted_is_kid : (t : Condition) (o : Op) (ks : List ℕ) (k : ℕ) → In (counted t o ks) k → In ks k
counted_is_kid t o ks k i = counted_within t o ks k i

pub ready_by : (g : Graph) (numbers : List ℕ) (t : Condition) (list : List ℕ) (has : List Bool) (n : ℕ) (node : Node) → IsFound g numbers list has → slice_get g.nodes n ≡ Some node
    → IsReadyBy numbers t has node ↔ IsReady g numbers t list n
ready_by g numbers t list has n node f at_ = (
  λ r. record { o = node.op; ks = node.kids; is = form_there g.nodes n node at_; passes = r.0; kids = λ k i. (f.says (class_of numbers k)).0 (r.1 k i) },
  λ r. back r,
)
  where
    back : IsReady g numbers t list n → IsReadyBy numbers t has node
    back r =
        let e : Some (form_of node) ≡ Some (form r.o r.ks) = sym (form_there g.nodes n node at_) ∙ r.is in
        let one : node.op ≡ r.o = cc in
        let two : node.kids ≡ r.ks = cc in (
          subst (HandsOn t) (sym one) r.passes,
          λ k i. (f.says (class_of numbers k)).1 (r.kids k (subst (λ (o : Op). In (counted t o r.ks) k) one (subst (λ (ks : List ℕ). In (counted t node.op ks) k) two i))),
        )

-- ---- nodes are looked at, one after another

pub spreads_none : (g : Graph) (numbers : List ℕ) (t : Condition) (list : List ℕ) (has : List Bool) → IsFound g numbers list has → Spreads g numbers t [] list list has
spreads_none g numbers t list has f = record { found = f; supports = λ starts a. a; later = []; are = append_none list; within = λ n i. absurd i; done = λ n i. absurd i }

later_cases : (xs ys : List ℕ) (m : ℕ) → In (xs ++ ys) m → In xs m ⊎ In ys m
later_cases [] ys m i = inr i
later_cases (x ∷ xs) ys m (inl e) = inl (inl e)
later_cases (x ∷ xs) ys m (inr i) = elim (later_cases xs ys m i) [ inl j ↦ inl (inr j) | inr j ↦ inr j ]

pub spreads_more : (g : Graph) (numbers : List ℕ) (t : Condition) (nodes old mid new : List ℕ) (mid_has new_has : List Bool) (n : ℕ) → n < length g.nodes → Spreads g numbers t nodes old mid mid_has → IsReady g numbers t mid n
    → Lists numbers n mid new mid_has new_has → Spreads g numbers t (nodes ++ n ∷ []) old new new_has
spreads_more g numbers t nodes old mid new mid_has new_has n low s ready l =
    let more = listed_later numbers n mid new mid_has new_has l in
    record {
      found = listed_found g numbers n mid new mid_has new_has s.found l;
      supports = λ starts a. listed_supports g numbers t starts n mid new mid_has new_has (inr ready) (s.supports starts a) l;
      later = s.later ++ more.later;
      are = more.are ∙ ap (λ (xs : List ℕ). xs ++ more.later) s.are ∙ append_assoc old s.later more.later;
      within = λ m i. elim (later_cases s.later more.later m i) [ inl j ↦ s.within m j | inr j ↦ subst (λ (k : ℕ). k < length g.nodes) (more.only m j) low ];
      done = λ m i r. elim (in_cases nodes n m i) [
        | inl j ↦ subst (λ (xs : List ℕ). Covers numbers xs (class_of numbers m)) (sym more.are) (holds_front numbers mid more.later (class_of numbers m) (s.done m j r))
        | inr e ↦ subst (λ (k : ℕ). Covers numbers new (class_of numbers k)) e (listed_holds g numbers n mid new mid_has new_has s.found l)
      ];
    }

pub spreads_past : (g : Graph) (numbers : List ℕ) (t : Condition) (nodes old mid : List ℕ) (mid_has : List Bool) (n : ℕ) → Spreads g numbers t nodes old mid mid_has → (IsReady g numbers t mid n → ⊥)
    → Spreads g numbers t (nodes ++ n ∷ []) old mid mid_has
spreads_past g numbers t nodes old mid mid_has n s never = record {
  found = s.found;
  supports = s.supports;
  later = s.later;
  are = s.are;
  within = s.within;
  done = λ m i r. elim (in_cases nodes n m i) [
    | inl j ↦ s.done m j r
    | inr e ↦ absurd (never (subst (λ (xs : List ℕ). IsReady g numbers t xs n) (sym s.are) (ready_more g numbers t old s.later n (subst (IsReady g numbers t old) (sym e) r))))
  ];
}

-- ---- the beginning

pub begins_none : (g : Graph) (numbers : List ℕ) (t : Condition) (starts has : List Bool) → length has ≡ length g.nodes → ((c : ℕ) (b : Bool) → slice_get has c ≡ Some b → b ≡ false) → Begins g numbers t starts 0 [] has
begins_none g numbers t starts has long all = record {
  found = record { long = long; says = λ c. (λ m. absurd (true≢false (all c true m)), λ (b, i, e). absurd i); room = (let z = all_unmarked has all in omega (arith, z)) };
  supports = none;
  within = λ n i. absurd i;
  done = λ n lt. absurd (omega arith);
}

below_or_at : (n i : ℕ) → n < i + 1 → (n < i) ⊎ (n ≡ i)
below_or_at n i lt = grind arith

pub begins_more : (g : Graph) (numbers : List ℕ) (t : Condition) (starts : List Bool) (i : ℕ) (mid new : List ℕ) (mid_has new_has : List Bool) → i < length g.nodes → Begins g numbers t starts i mid mid_has → IsSupport g numbers t starts mid i
    → Lists numbers i mid new mid_has new_has → Begins g numbers t starts (i + 1) new new_has
begins_more g numbers t starts i mid new mid_has new_has low b is l =
    let more = listed_later numbers i mid new mid_has new_has l in
    record {
      found = listed_found g numbers i mid new mid_has new_has b.found l;
      supports = listed_supports g numbers t starts i mid new mid_has new_has is b.supports l;
      within = λ m j. elim (later_cases mid more.later m (subst (λ (xs : List ℕ). In xs m) more.are j)) [ inl x ↦ b.within m x | inr x ↦ subst (λ (k : ℕ). k < length g.nodes) (more.only m x) low ];
      done = λ n lt support. elim (below_or_at n i lt) [
        | inl x ↦ subst (λ (xs : List ℕ). Covers numbers xs (class_of numbers n)) (sym more.are) (holds_front numbers mid more.later (class_of numbers n) (b.done n x support))
        | inr e ↦ subst (λ (k : ℕ). Covers numbers new (class_of numbers k)) (sym e) (listed_holds g numbers i mid new mid_has new_has b.found l)
      ];
    }

pub begins_past : (g : Graph) (numbers : List ℕ) (t : Condition) (starts : List Bool) (i : ℕ) (mid : List ℕ) (mid_has : List Bool) → Begins g numbers t starts i mid mid_has → (IsMarked starts i → ⊥) → (IsReady g numbers t mid i → ⊥)
    → Begins g numbers t starts (i + 1) mid mid_has
begins_past g numbers t starts i mid mid_has b no_start never = record {
  found = b.found;
  supports = b.supports;
  within = b.within;
  done = λ n lt support. elim (below_or_at n i lt) [
    | inl x ↦ b.done n x support
    | inr e ↦ elim support [
      | inl s ↦ absurd (no_start (subst (IsMarked starts) e s))
      | inr r ↦ absurd (never (subst (IsReady g numbers t mid) e (ready_more g numbers t [] mid n r)))
    ]
  ];
}

-- ---- all classes of the list are looked at

pub swept_none : (g : Graph) (numbers : List ℕ) (t : Condition) (starts : List Bool) (list : List ℕ) (has : List Bool) → IsGraph g → Begins g numbers t starts (length g.nodes) list has → IsSwept g numbers t starts 0 list has
swept_none g numbers t starts list has is_graph b = record {
  found_ = b.found;
  supports = b.supports;
  within = b.within;
  started = λ n lt s. b.done n lt (inl s);
  low = omega arith;
  closed = λ n r. b.done n (let x = bind_some (slice_get g.nodes n) _ (form r.o r.ks) r.is in slice_get_within g.nodes n x.0 x.1) (inr r);
}

-- either all these lie in classes of the first nodes, or one lies in the class of the last
split_kids : (numbers xs : List ℕ) (b : ℕ) (cs : List ℕ) → ((k : ℕ) → In cs k → Covers numbers (xs ++ b ∷ []) (class_of numbers k))
    → ((k : ℕ) → In cs k → Covers numbers xs (class_of numbers k)) ⊎ ((k : ℕ) × In cs k × (class_of numbers k ≡ class_of numbers b))
split_kids numbers xs b [] all = inl (λ k i. absurd i)
split_kids numbers xs b (c ∷ cs) all = go (all c (inl refl)) (split_kids numbers xs b cs (λ k i. all k (inr i)))
  where
    go : Covers numbers (xs ++ b ∷ []) (class_of numbers c) → ((k : ℕ) → In cs k → Covers numbers xs (class_of numbers k)) ⊎ ((k : ℕ) × In cs k × (class_of numbers k ≡ class_of numbers b))
        → ((k : ℕ) → In (c ∷ cs) k → Covers numbers xs (class_of numbers k)) ⊎ ((k : ℕ) × In (c ∷ cs) k × (class_of numbers k ≡ class_of numbers b))
    go h (inr (k, i, e)) = inr (k, inr i, e)
    go (d, i, e) (inl rest) = elim (in_cases xs b d i) [
      | inl old ↦ inl (λ k j. elim j [ inl same ↦ subst (λ (x : ℕ). Covers numbers xs (class_of numbers x)) same (d, old, e) | inr later ↦ rest k later ])
      | inr new ↦ inr (c, inl refl, sym e ∙ ap (class_of numbers) (sym new))
    ]

pub take_front : (xs ys : List ℕ) (i : ℕ) → i ≤ length xs → take i (xs ++ ys) ≡ take i xs
take_front xs ys zero le = refl
take_front [] ys (suc i) le = absurd (omega arith)
take_front (x ∷ xs) ys (suc i) le = ap (λ (zs : List ℕ). x ∷ zs) (take_front xs ys i (omega arith))

in_map : (numbers : List ℕ) (ks : List ℕ) (k : ℕ) → In ks k → In (map (class_of numbers) ks) (class_of numbers k)
in_map numbers [] k i = absurd i
in_map numbers (x ∷ ks) k (inl e) = inl (ap (class_of numbers) e)
in_map numbers (x ∷ ks) k (inr i) = inr (in_map numbers ks k i)

take_all_of : (xs : List ℕ) (i : ℕ) → i ≤ length xs → (later : List ℕ) × (xs ≡ take i xs ++ later)
take_all_of xs zero le = (xs, refl)
take_all_of [] (suc i) le = absurd (omega arith)
take_all_of (x ∷ xs) (suc i) le = let r = take_all_of xs i (omega arith) in (r.0, ap (λ (zs : List ℕ). x ∷ zs) r.1)

pub swept_more : (g : Graph) (numbers : List ℕ) (t : Condition) (starts : List Bool) (lists : NodeLists) (next b : ℕ) (old new nodes : List ℕ) (old_has new_has : List Bool) → AreParents g numbers (length g.nodes) lists
    → ((n : ℕ) → IsListed lists (class_of numbers b) n → In nodes n) → next < length old → b ≡ get_or old next b → IsSwept g numbers t starts next old old_has → Spreads g numbers t nodes old new new_has
    → IsSwept g numbers t starts (next + 1) new new_has
swept_more g numbers t starts lists next b old new nodes old_has new_has parents nodes_are low at_ w s = record {
  found_ = s.found;
  supports = s.supports starts w.supports;
  within = λ n i. elim (later_cases old s.later n (subst (λ (xs : List ℕ). In xs n) s.are i)) [ inl x ↦ w.within n x | inr x ↦ s.within n x ];
  started = λ n lt m. kept n (w.started n lt m);
  low = (let z : length new ≡ length old + length s.later = ap length s.are ∙ length-append old s.later in omega (arith, z));
  closed = λ n r. closed_now n (subst (λ (xs : List ℕ). IsReady g numbers t xs n) firsts r);
}
  where
    kept : (n : ℕ) → Covers numbers old (class_of numbers n) → Covers numbers new (class_of numbers n)
    kept n h = subst (λ (xs : List ℕ). Covers numbers xs (class_of numbers n)) (sym s.are) (holds_front numbers old s.later (class_of numbers n) h)

    firsts : take (next + 1) new ≡ take next old ++ b ∷ []
    firsts = ap (take (next + 1)) s.are ∙ take_front old s.later (next + 1) (omega arith) ∙ take_more old next b low ∙ ap (λ (x : ℕ). take next old ++ x ∷ []) (sym at_)

    closed_now : (n : ℕ) → IsReady g numbers t (take next old ++ b ∷ []) n → Covers numbers new (class_of numbers n)
    closed_now n r = elim (split_kids numbers (take next old) b (counted t r.o r.ks) r.kids) [
      | inl all ↦ kept n (w.closed n (record { o = r.o; ks = r.ks; is = r.is; passes = r.passes; kids = all }))
      | inr one ↦
          let kid = counted_is_kid t r.o r.ks one.0 one.1 in
          let node = bind_some (slice_get g.nodes n) _ (form r.o r.ks) r.is in
          let listed = parents.has n r.o r.ks (slice_get_within g.nodes n node.0 node.1) r.is (class_of numbers one.0) (in_map numbers r.ks one.0 kid) in
          let here = nodes_are n (subst (λ (c : ℕ). IsListed lists c n) one.2 listed) in
          let rest = take_all_of old (next + 1) (omega arith) in
          let first_of : take (next + 1) old ≡ take next old ++ b ∷ [] = take_more old next b low ∙ ap (λ (x : ℕ). take next old ++ x ∷ []) (sym at_) in
          s.done n here (subst (λ (xs : List ℕ). IsReady g numbers t xs n) (sym (rest.1 ∙ ap (λ (xs : List ℕ). xs ++ rest.0) first_of)) (ready_more g numbers t (take next old ++ b ∷ []) rest.0 n r))
    ]

pub swept_all : (g : Graph) (numbers : List ℕ) (t : Condition) (starts : List Bool) (next : ℕ) (list : List ℕ) (has : List Bool) → length list ≤ next → IsSwept g numbers t starts next list has → AreAllSupports g numbers t starts list
swept_all g numbers t starts next list has over_ w = record {
  supports = w.supports;
  within = w.within;
  started = w.started;
  closed = λ n r. w.closed n (subst (λ (xs : List ℕ). IsReady g numbers t xs n) (sym (take_whole list next over_)) r);
}
  where
    take_whole : (xs : List ℕ) (i : ℕ) → length xs ≤ i → take i xs ≡ xs
    take_whole [] zero le = refl
    take_whole [] (suc i) le = refl
    take_whole (x ∷ xs) zero le = absurd (omega arith)
    take_whole (x ∷ xs) (suc i) le = ap (λ (zs : List ℕ). x ∷ zs) (take_whole xs i (omega arith))

-- what is read of a list of marks
pub mark_at : (has : List Bool) (c : ℕ) (b : Bool) → c < length has → get_or has c false ≡ b → slice_get has c ≡ Some b
mark_at has c b lt e = slice_get-get_or has c false lt ∙ ap Some e

pub all_false : (n c : ℕ) (b : Bool) → slice_get (replicate n false) c ≡ Some b → b ≡ false
all_false zero c b e = absurd (cc)
all_false (suc n) zero b e = sym (same_Some false b e)
all_false (suc n) (suc c) b e = all_false n c b e
