-- A copy of a node fits, and has the node's sort.
use Rattle.std.specs.Prelude.{◌≡◌, ◌⊎◌, ℕ, zero, suc, ◌+◌, ◌<◌, ◌≤◌, Bool, true, false, List, [], ◌∷◌, ◌++◌, length, Some, slice_get, take, drop, Option}
use Rattle.std.specs.List.{AllByRecursion, AllZip}
use Rattle.std.proofs.Math.ListN.{get_or}
use Rattle.std.proofs.Math.Seq.{drop-cons, take-suc}
use Rattle.std.proofs.Common.{inl, inr, refl, sym, ap, ◌∙◌, subst, arith, length-append}
use Rattle.std.proofs.lemmas.Option.{same_Some, slice_get_within}
use Rattle.pv_graph.specs.declared.node.Op.{Op}
use Rattle.pv_graph.specs.declared.node.OpSort.{OpSort}
use Rattle.pv_graph.specs.declared.node.Node.{Node}
use Rattle.pv_graph.specs.Ops.{HaveSorts, HasSort}
use Rattle.pv_graph.specs.Walks.{In}
use Rattle.pv_graph.specs.Nodes.{node_of}
use Rattle.pv_graph.specs.Graphs.{Graph, IsGraph, IsUnfinished}
use Rattle.pv_graph.specs.Calls.{AreNodes, FitsOver}
use Rattle.pv_graph.proofs.Cited.{found, get_front, get_last, push_cases}
use Rattle.pv_steps.proofs.Cited.{has_sort_same}
use Rattle.pv_writer.specs.Written.{Written, IsLater, GoesOn, HasNode}
use Rattle.pv_explain.specs.declared.source.Source.{Source}
use Rattle.pv_explain.specs.Copies.{IsCopied, HasCopy, IsCopyOver, AreCopies}
use Rattle.pv_explain.specs.Marks.{IsMarked}
use Rattle.pv_explain.specs.Named.{AreClosed}
use Rattle.pv_explain.specs.Copying.{AreFirstCopies, AreOwnCopies, HasBase, IsCopyIf, IsCopyOf}
use Rattle.pv_explain.specs.Lines.{HaveCopies, IsSource}

-- the sort of a node of a sealed graph fits it
pub sort_of : (g : Graph) → IsGraph g → g.is_open ≡ false → (n : ℕ) (node : Node) → slice_get g.nodes n ≡ Some node → (s : OpSort) × (slice_get g.sorts n ≡ Some s) × HasSort g.sorts node.op node.kids s
sort_of g is sealed n node e =
    let s = found g.sorts n (let z = slice_get_within g.nodes n node e in let y = is.long in omega (arith, z, y)) in
    (s.0, s.1, by s.0 (is.sorted n node s.0 e s.1))
  where
    by : (s : OpSort) → HasSort g.sorts node.op node.kids s ⊎ ((g.is_open ≡ true) × IsUnfinished node s) → HasSort g.sorts node.op node.kids s
    by s (inl h) = h
    by s (inr h) = absurd (let z = sym sealed ∙ h.0 in cc)

copied_sorts : (from to : Graph) (map : List (Option ℕ)) → AreCopies from to map → (ks ms : List ℕ) (ss : List OpSort) → AllZip (IsCopied map) ks ms → HaveSorts from.sorts ks ss → HaveSorts to.sorts ms ss
copied_sorts from to map copies [] [] [] z h = tt
copied_sorts from to map copies [] [] (s ∷ ss) z h = absurd h
copied_sorts from to map copies [] (m ∷ ms) ss z h = absurd z
copied_sorts from to map copies (k ∷ ks) [] ss z h = absurd z
copied_sorts from to map copies (k ∷ ks) (m ∷ ms) [] z h = absurd h
copied_sorts from to map copies (k ∷ ks) (m ∷ ms) (s ∷ ss) z h = (copies.sorts k m s z.0 h.0, copied_sorts from to map copies ks ms ss z.1 h.1)

pub copied_nodes : (from to : Graph) (map : List (Option ℕ)) → AreCopies from to map → (ks ms : List ℕ) → AllZip (IsCopied map) ks ms → AreNodes to ms
copied_nodes from to map copies [] [] z = tt
copied_nodes from to map copies [] (m ∷ ms) z = absurd z
copied_nodes from to map copies (k ∷ ks) [] z = absurd z
copied_nodes from to map copies (k ∷ ks) (m ∷ ms) z = let c = copies.each k m z.0 in (slice_get_within to.nodes m (node_of c.node.op c.kids) c.copy_is, copied_nodes from to map copies ks ms z.1)

has_copied : (from to : Graph) (map : List (Option ℕ)) → AreCopies from to map → (o : Op) (ks ms : List ℕ) (s : OpSort) → AllZip (IsCopied map) ks ms → HasSort from.sorts o ks s → HasSort to.sorts o ms s
has_copied from to map copies o ks ms s z h = record { sorts = h.sorts; kids_have = copied_sorts from to map copies ks ms h.sorts z h.kids_have; over = h.over }

pub copied_fits : (from to : Graph) (map : List (Option ℕ)) → IsGraph from → from.is_open ≡ false → AreCopies from to map → (n : ℕ) (node : Node) (ms : List ℕ) → slice_get from.nodes n ≡ Some node → AllZip (IsCopied map) node.kids ms → FitsOver to node.op ms
copied_fits from to map is sealed copies n node ms e z = let s = sort_of from is sealed n node e in (s.0, has_copied from to map copies node.op node.kids ms s.0 z s.2)

more_sorts : (old new : List OpSort) → ((n : ℕ) (s : OpSort) → slice_get old n ≡ Some s → slice_get new n ≡ Some s) → (ks : List ℕ) (ss : List OpSort) → HaveSorts old ks ss → HaveSorts new ks ss
more_sorts old new f [] [] h = tt
more_sorts old new f [] (s ∷ ss) h = absurd h
more_sorts old new f (k ∷ ks) [] h = absurd h
more_sorts old new f (k ∷ ks) (s ∷ ss) h = (f k s h.0, more_sorts old new f ks ss h.1)

pub copy_made : (old new : Written) (g : Graph) (map : List (Option ℕ)) → IsGraph g → g.is_open ≡ false → AreCopies g old.graph map → (n m : ℕ) (node : Node) (ms : List ℕ) → slice_get g.nodes n ≡ Some node → AllZip (IsCopied map) node.kids ms
    → HasNode old new node.op ms m → IsCopyOf new g map n m
copy_made old new g map is sealed copies n m node ms e z h = record {
  over = record { node = node; node_is = e; kids = ms; kids_are = z; copy_is = h.is };
  sorts = λ s at.
      let s0 = sort_of g is sealed n node e in
      let old_has = has_copied g old.graph map copies node.op node.kids ms s0.0 z s0.2 in
      let new_has : HasSort new.graph.sorts node.op ms s0.0 = record { sorts = old_has.sorts; kids_have = more_sorts old.graph.sorts new.graph.sorts h.goes.later.sorts ms old_has.sorts old_has.kids_have; over = old_has.over } in
      let t = sort_of new.graph h.made h.sealed m (node_of node.op ms) h.is in
      t.1 ∙ ap (λ (q : OpSort). Some q) (has_sort_same new.graph.sorts node.op ms t.0 s0.0 t.2 new_has ∙ same_Some _ _ (sym s0.1 ∙ at));
}

-- ---- own copies

below : (k n : ℕ) → k < n + 1 → (k < n) ⊎ (k ≡ n)
below k n low = grind arith

kept : (map : List (Option ℕ)) (o : Option ℕ) (k q : ℕ) → IsCopied map k q → IsCopied (map ++ o ∷ []) k q
kept map o k q c = get_front map o k (slice_get_within map k (Some q) c) ∙ c

pub own_more : (n : ℕ) (map more : List (Option ℕ)) → AreOwnCopies n map → more ≡ map ++ Some n ∷ [] → AreOwnCopies (n + 1) more
own_more n map more h e = subst (AreOwnCopies (n + 1)) (sym e) (record {
  long = let z = length-append map (Some n ∷ []) in let y = h.long in omega (arith, z, y);
  own = λ k low. own k (below k n low);
  only = λ k m c. only k m (push_cases map (Some n) (Some m) k c);
})
  where
    own : (k : ℕ) → (k < n) ⊎ (k ≡ n) → IsCopied (map ++ Some n ∷ []) k k
    own k (inl low) = kept map (Some n) k k (h.own k low)
    own k (inr same) = ap (slice_get (map ++ Some n ∷ [])) (same ∙ sym h.long) ∙ get_last map (Some n) ∙ ap (λ (q : ℕ). Some (Some q)) (sym same)

    only : (k m : ℕ) → IsCopied map k m ⊎ ((k ≡ length map) × (Some n ≡ Some m)) → (k < n + 1) × (m ≡ k)
    only k m (inl c) = let z = h.only k m c in let y = z.0 in (omega (arith, y), z.1)
    only k m (inr c) = let y = c.0 in let l = h.long in (omega (arith, y, l), sym (same_Some n m c.1) ∙ sym h.long ∙ sym c.0)

own_zip : (map : List (Option ℕ)) (base : ℕ) → AreOwnCopies base map → (ks : List ℕ) → ((k : ℕ) → In ks k → k < base) → AllZip (IsCopied map) ks ks
own_zip map base h [] f = tt
own_zip map base h (k ∷ ks) f = (h.own k (f k (inl refl)), own_zip map base h ks (λ n m. f n (inr m)))

pub base_source : (w : Written) (g : Graph) (marks : List Bool) (map : List (Option ℕ)) → IsGraph g → HasBase w g → AreOwnCopies g.base map → AreFirstCopies w g marks g.base map
base_source w g marks map is has own = record {
  copies = record {
    base_ = own.own;
    each = λ k m c.
        let o = own.only k m c in
        let x = found g.nodes k (let y = o.0 in let z = is.base in omega (arith, y, z)) in record {
          node = x.0;
          node_is = x.1;
          kids = x.0.kids;
          kids_are = own_zip map g.base own x.0.kids (λ n i. is.early k n x.0 x.1 o.0 i);
          copy_is = subst (λ (q : ℕ). slice_get w.graph.nodes q ≡ Some x.0) (sym o.1) (has.nodes k x.0 o.0 x.1);
        };
    sorts = λ k m s c e. let o = own.only k m c in subst (λ (q : ℕ). slice_get w.graph.sorts q ≡ Some s) (sym o.1) (has.sorts k s o.0 e);
  };
  long = own.long;
  all = λ k low on. (k, own.own k low);
}

-- ---- one copy more

pub copy_next : (old new : Written) (g : Graph) (marks : List Bool) (n : ℕ) (o : Option ℕ) (b : Bool) (map more : List (Option ℕ)) → AreFirstCopies old g marks n map → GoesOn old new → slice_get marks n ≡ Some b → IsCopyIf new g map b n o → more ≡ map ++ o ∷ [] → AreFirstCopies new g marks (n + 1) more
copy_next old new g marks n o b map more h goes at copy e = subst (AreFirstCopies new g marks (n + 1)) (sym e) (record {
  copies = record {
    base_ = λ k low. kept map o k k (h.copies.base_ k low);
    each = λ k q c. each k q (push_cases map o (Some q) k c);
    sorts = λ k q s c a. sorts k q s a (push_cases map o (Some q) k c);
  };
  long = let z = length-append map (o ∷ []) in let y = h.long in omega (arith, z, y);
  all = λ k low on. all k on (below k n low);
})
  where
    kept_zip : (ks qs : List ℕ) → AllZip (IsCopied map) ks qs → AllZip (IsCopied (map ++ o ∷ [])) ks qs
    kept_zip [] [] z = tt
    kept_zip [] (q ∷ qs) z = absurd z
    kept_zip (k ∷ ks) [] z = absurd z
    kept_zip (k ∷ ks) (q ∷ qs) z = (kept map o k q z.0, kept_zip ks qs z.1)

    each : (k q : ℕ) → IsCopied map k q ⊎ ((k ≡ length map) × (o ≡ Some q)) → IsCopyOver g new.graph (map ++ o ∷ []) k q
    each k q (inl c) = let z = h.copies.each k q c in record {
      node = z.node;
      node_is = z.node_is;
      kids = z.kids;
      kids_are = kept_zip z.node.kids z.kids z.kids_are;
      copy_is = goes.later.nodes q (node_of z.node.op z.kids) z.copy_is;
    }
    each k q (inr c) = let z = (copy.is q c.1).over in record {
      node = z.node;
      node_is = ap (slice_get g.nodes) (c.0 ∙ h.long) ∙ z.node_is;
      kids = z.kids;
      kids_are = kept_zip z.node.kids z.kids z.kids_are;
      copy_is = z.copy_is;
    }

    sorts : (k q : ℕ) (s : OpSort) → slice_get g.sorts k ≡ Some s → IsCopied map k q ⊎ ((k ≡ length map) × (o ≡ Some q)) → slice_get new.graph.sorts q ≡ Some s
    sorts k q s a (inl c) = goes.later.sorts q s (h.copies.sorts k q s c a)
    sorts k q s a (inr c) = (copy.is q c.1).sorts s (ap (slice_get g.sorts) (sym (c.0 ∙ h.long)) ∙ a)

    all : (k : ℕ) → IsMarked marks k → (k < n) ⊎ (k ≡ n) → HasCopy (map ++ o ∷ []) k
    all k on (inl low) = let z = h.all k low on in (z.0, kept map o k z.0 z.1)
    all k on (inr same) =
        let z = copy.there (same_Some b true (sym at ∙ ap (slice_get marks) (sym same) ∙ on)) in
        (z.0, ap (slice_get (map ++ o ∷ [])) (same ∙ sym h.long) ∙ get_last map o ∙ ap (λ (q : Option ℕ). Some q) z.1)

marked_copies : (w : Written) (g : Graph) (marks : List Bool) (n : ℕ) (map : List (Option ℕ)) → AreFirstCopies w g marks n map → (ks : List ℕ) → ((k : ℕ) → In ks k → k < n) → AllByRecursion (IsMarked marks) ks → HaveCopies map ks
marked_copies w g marks n map h [] low on = tt
marked_copies w g marks n map h (k ∷ ks) low on = (h.all k (low k (inl refl)) on.0, marked_copies w g marks n map h ks (λ j m. low j (inr m)) on.1)

-- the kids of the next node have copies, if it is marked
pub kids_have : (w : Written) (g : Graph) (marks : List Bool) (n : ℕ) (map list : List (Option ℕ)) → IsGraph g → g.base ≤ n → AreFirstCopies w g marks n map → list ≡ map → AreClosed g marks → IsMarked marks n → (node : Node) → slice_get g.nodes n ≡ Some node → HaveCopies list node.kids
kids_have w g marks n map list is low h same closed on node e =
    subst (λ (l : List (Option ℕ)). HaveCopies l node.kids) (sym same) (marked_copies w g marks n map h node.kids (λ k m. is.late n k node e low m) (closed n low on node e))

-- ---- copies of nodes, one by one

one_more : (n : ℕ) → suc n ≡ n + 1
one_more n = omega arith

zip_more : (R : ℕ → ℕ → Type 0) (xs ys : List ℕ) (x y : ℕ) → AllZip R xs ys → R x y → AllZip R (xs ++ x ∷ []) (ys ++ y ∷ [])
zip_more R [] [] x y h r = (r, tt)
zip_more R [] (b ∷ ys) x y h r = absurd h
zip_more R (a ∷ xs) [] x y h r = absurd h
zip_more R (a ∷ xs) (b ∷ ys) x y h r = (h.0, zip_more R xs ys x y h.1 r)

pub first_copy : (map : List (Option ℕ)) (ks : List ℕ) (i : ℕ) → i < length ks → HaveCopies map (drop i ks) → HasCopy map (get_or ks i 0) × HaveCopies map (drop (i + 1) ks)
first_copy map ks i low h = let z = subst (HaveCopies map) (drop-cons ks i 0 low) h in (z.0, subst (λ (n : ℕ). HaveCopies map (drop n ks)) (one_more i) z.1)

pub copies_next : (map : List (Option ℕ)) (ks ms more : List ℕ) (i m : ℕ) → i < length ks → AllZip (IsCopied map) (take i ks) ms → IsCopied map (get_or ks i 0) m → more ≡ ms ++ m ∷ [] → AllZip (IsCopied map) (take (i + 1) ks) more
copies_next map ks ms more i m low h c e =
    subst (λ (xs : List ℕ). AllZip (IsCopied map) (take (i + 1) ks) xs) (sym e)
    (subst (λ (n : ℕ). AllZip (IsCopied map) (take n ks) (ms ++ m ∷ [])) (one_more i)
    (subst (λ (xs : List ℕ). AllZip (IsCopied map) xs (ms ++ m ∷ [])) (sym (take-suc ks i 0 low)) (zip_more (IsCopied map) (take i ks) ms (get_or ks i 0) m h c)))

-- ---- the source

pub copies_later : (old new : Written) (g : Graph) (map : List (Option ℕ)) → IsLater old new → AreCopies g old.graph map → AreCopies g new.graph map
copies_later old new g map later s = record {
  base_ = s.base_;
  each = λ k m h. let c = s.each k m h in record { node = c.node; node_is = c.node_is; kids = c.kids; kids_are = c.kids_are; copy_is = later.nodes m (node_of c.node.op c.kids) c.copy_is };
  sorts = λ k m x h e. later.sorts m x (s.sorts k m x h e);
}

pub source_later : (old new : Written) (s : Source) → IsLater old new → IsSource old s → IsSource new s
source_later old new s later h = record { made = h.made; sealed = h.sealed; copies = copies_later old new s.graph.now s.map.now later h.copies }

-- what has a copy is a node
pub copied_low : (from to : Graph) (map : List (Option ℕ)) (k m : ℕ) → AreCopies from to map → IsCopied map k m → k < length from.nodes
copied_low from to map k m copies h = let c = copies.each k m h in slice_get_within from.nodes k c.node c.node_is

-- ---- what has a copy has copies of its kids

zip_copies : (map : List (Option ℕ)) (ks ms : List ℕ) → AllZip (IsCopied map) ks ms → HaveCopies map ks
zip_copies map [] ms z = tt
zip_copies map (k ∷ ks) [] z = absurd z
zip_copies map (k ∷ ks) (m ∷ ms) z = ((m, z.0), zip_copies map ks ms z.1)

pub kids_copied : (from to : Graph) (map : List (Option ℕ)) → AreCopies from to map → (n : ℕ) (node : Node) → slice_get from.nodes n ≡ Some node → HasCopy map n → HaveCopies map node.kids
kids_copied from to map copies n node e h =
    let c = copies.each n h.0 h.1 in
    subst (λ (m : Node). HaveCopies map m.kids) (same_Some c.node node (sym c.node_is ∙ e)) (zip_copies map c.node.kids c.kids c.kids_are)

-- the copy at a place
pub copy_in : (map : List (Option ℕ)) (ks : List ℕ) (i : ℕ) → HaveCopies map ks → i < length ks → HasCopy map (get_or ks i 0)
copy_in map [] i h low = absurd (omega (arith, low))
copy_in map (k ∷ ks) zero h low = h.0
copy_in map (k ∷ ks) (suc i) h low = copy_in map ks i h.1 (omega (arith, low))
