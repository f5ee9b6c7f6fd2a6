-- Nodes of one form are those of one key.
use Rattle.std.proofs.Common.{◌≡◌, ◌≢◌, ◌⊎◌, ◌↔◌, inl, inr, ℕ, zero, suc, ◌+◌, ◌<◌, Bool, true, false, List, [], ◌∷◌, ◌++◌, length, Option, Some, None, get_or, slice_get, slice_index_or, IsTrue, refl, sym, ◌∙◌, ap, subst, arith, true≢false}
use Rattle.std.specs.List.{All, Contains, AllZip}
use Rattle.std.proofs.lemmas.List.{length-append, get_or_append_left, get_or_at}
use Rattle.std.proofs.lemmas.Option.{slice_get_within, same_Some, none-some}
use Rattle.pv_graph.specs.declared.node.Op.{Op}
use Rattle.pv_graph.specs.declared.node.Node.{Node}
use Rattle.pv_graph.specs.Nodes.{node_of}
use Rattle.pv_graph.specs.contracts.node.NodePartialEq.TheImpl.{eq-value as node_eq}
use Rattle.pv_graph.specs.contracts.node.NodeEq.TheImpl.Laws.{laws-law}
use Rattle.pv_graph.proofs.Cited.{same_nodes, same_or_other}
use Rattle.pv_classes.specs.Partition.{Parts, IsPartition, IsKept, at, AreOne}
use Rattle.pv_classes.specs.Closest.{Is}
use Rattle.pv_classes.specs.Forms.{HasForm, IsClassWith, IsFirst, AreFirst, AreMembers}
use Rattle.pv_classes.specs.Index.{Index, IsEntry, IsFound, IsIndex, IsTracked, Enters, found_by, found_in, first_of, key_of, labels_of}
use Rattle.pv_classes.specs.Keyed.{HasKey, HasClassKey, class_key, IsAlone, IsKeyedIn, IsNodeWith, Keeps, Notes, IsFirstKey, AreFirstKeys, AreFirstTo}
use Rattle.pv_classes.proofs.Elements.{zip_map}
use Rattle.pv_classes.proofs.Keys.{labels_one, zip_labels}

-- ---- forms and keys

abbrev rest : List ℕ → List ℕ
rest [] = []
rest (x ∷ xs) = xs

-- two lists of kids with one list of labels are joined place by place
pub one_labels : (labels ks ls : List ℕ) → labels_of labels ks ≡ labels_of labels ls → AllZip (AreOne labels) ks ls
one_labels labels [] [] e = tt
one_labels labels [] (l ∷ ls) e = absurd cc
one_labels labels (k ∷ ks) [] e = absurd cc
one_labels labels (k ∷ ks) (l ∷ ls) e = (ap (λ (xs : List ℕ). at xs 0) e, one_labels labels ks ls (ap rest e))

pub key_form : (nodes : List Node) (labels : List ℕ) (o : Op) (over : List ℕ) (n : ℕ) → HasKey nodes labels (node_of o (labels_of labels over)) n → HasForm nodes labels o over n
key_form nodes labels o over n h = record {
  kids = h.0.kids;
  is = subst (λ (p : Op). Is nodes n p h.0.kids) (ap (λ (x : Node). x.op) h.2) h.1;
  one = one_labels labels h.0.kids over (ap (λ (x : Node). x.kids) h.2);
}

pub form_key : (nodes : List Node) (labels : List ℕ) (o : Op) (over : List ℕ) (n : ℕ) → HasForm nodes labels o over n → HasKey nodes labels (node_of o (labels_of labels over)) n
form_key nodes labels o over n f = (node_of o f.kids, f.is, ap (λ (ks : List ℕ). node_of o ks) (labels_one labels f.kids over f.one))

-- ---- from labels to numbers

module _ (nodes : List Node) (i : Index) (is : IsIndex nodes i) (o : Op) (over : List ℕ) (within : (k : ℕ) → Contains over k → k < length i.parts.labels) (n : ℕ) where
  kid_there : (kids : List ℕ) (k : ℕ) → Is nodes n o kids → Contains kids k → k < length i.parts.labels
  kid_there kids k at_ c = subst (λ (m : ℕ). k < m) (sym is.long) (is.kids n k (node_of o kids) at_ c)

  pub form_numbers : HasForm nodes i.parts.labels o over n → HasForm nodes i.parts.numbers o over n
  form_numbers f = record {
    kids = f.kids;
    is = f.is;
    one = zip_map (AreOne i.parts.labels) (AreOne i.parts.numbers) f.kids over (λ x y c d e. (is.parts.one x y (kid_there f.kids x f.is c) (within y d)).0 e) f.one;
  }

  pub form_labels : HasForm nodes i.parts.numbers o over n → HasForm nodes i.parts.labels o over n
  form_labels f = record {
    kids = f.kids;
    is = f.is;
    one = zip_map (AreOne i.parts.numbers) (AreOne i.parts.labels) f.kids over (λ x y c d e. (is.parts.one x y (kid_there f.kids x f.is c) (within y d)).1 e) f.one;
  }

-- ---- a node of a form

all_within : (n : ℕ) (xs : List ℕ) → All (λ k. k < n) xs → (k : ℕ) → Contains xs k → k < n
all_within n xs all k c = subst (λ (m : ℕ). m < n) c.2 (all c.0 k c.1)

module _ (nodes : List Node) (i : Index) (is : IsIndex nodes i) (o : Op) (over : List ℕ) (all : All (λ k. k < length i.parts.labels) over) where
  within : (k : ℕ) → Contains over k → k < length i.parts.labels
  within = all_within (length i.parts.labels) over all

  entry_form : (e : ℕ) → IsEntry nodes i.parts.labels (node_of o (labels_of i.parts.labels over)) e → HasForm nodes i.parts.labels o over e
  entry_form e h = record {
    kids = h.kids;
    is = h.is;
    one = zip_labels (length i.parts.labels) i.parts.labels h.kids over is.parts.own within h.one;
  }

  either : (a b : Option ℕ) (e : ℕ) → first_of a b ≡ Some e → (a ≡ Some e) ⊎ (b ≡ Some e)
  either (Some x) b e h = inl h
  either None b e h = inr h

  pub found_form : (e : ℕ) → found_by i (node_of o (labels_of i.parts.labels over)) ≡ Some e → HasForm nodes i.parts.labels o over e
  found_form e h = elim (either (found_in i.own (node_of o (labels_of i.parts.labels over))) (found_in i.shared (node_of o (labels_of i.parts.labels over))) e h) [
    | inl f ↦ entry_form e (is.own (node_of o (labels_of i.parts.labels over)) e f)
    | inr f ↦ entry_form e (is.shared (node_of o (labels_of i.parts.labels over)) e f)
  ]

  -- what the tables lack, and no waiting node has, no node has
  lacked : ((n : ℕ) → n < length nodes → IsTracked nodes i n) → found_by i (node_of o (labels_of i.parts.labels over)) ≡ None → IsKeyedIn nodes i.parts.labels i.waiting (node_of o (labels_of i.parts.labels over)) None
      → (n : ℕ) → HasForm nodes i.parts.labels o over n → ⊥
  lacked tracked none kept n f = by (tracked n (slice_get_within nodes n (node_of o f.kids) f.is))
    where
      by : Contains i.waiting n ⊎ IsFound nodes i n → ⊥
      by (inl w) = kept n w (form_key nodes i.parts.labels o over n f)
      by (inr t) =
          let same : node_of o f.kids ≡ t.node = same_Some (node_of o f.kids) t.node (sym f.is ∙ t.is) in
          let key : key_of i.parts.labels t.node ≡ node_of o (labels_of i.parts.labels over) = ap (key_of i.parts.labels) (sym same) ∙ ap (λ (ks : List ℕ). node_of o ks) (labels_one i.parts.labels f.kids over f.one) in
          absurd (none-some t.e (sym none ∙ ap (found_by i) (sym key) ∙ t.finds))

  pub keyed_with : ((n : ℕ) → n < length nodes → IsTracked nodes i n) → found_by i (node_of o (labels_of i.parts.labels over)) ≡ None → (kept : Option ℕ) → IsKeyedIn nodes i.parts.labels i.waiting (node_of o (labels_of i.parts.labels over)) kept
      → IsNodeWith nodes i.parts.labels o over kept
  keyed_with tracked none (Some n) h = key_form nodes i.parts.labels o over n h
  keyed_with tracked none None h = lacked tracked none h

  -- .. and the number of its class
  pub class_some : (n c : ℕ) → HasForm nodes i.parts.labels o over n → c ≡ at i.parts.numbers n → IsClassWith nodes i.parts.numbers o over (Some c)
  class_some n c f e = (n, form_numbers nodes i is o over within n f, sym e)

  pub class_none : ((n : ℕ) → HasForm nodes i.parts.labels o over n → ⊥) → IsClassWith nodes i.parts.numbers o over None
  class_none h = λ n f. h n (form_labels nodes i is o over within n f)

pub over_labels : (p : Parts) (over : List ℕ) → IsPartition p → All (λ k. k < length p.numbers) over → All (λ k. k < length p.labels) over
over_labels p over h all = λ k d lt. subst (λ (m : ℕ). get_or over k d < m) h.long (all k d lt)

-- ---- a look for a key among some nodes

pub has_key : (nodes : List Node) (labels : List ℕ) (key mine node : Node) (n : ℕ) (is : Bool) → slice_get nodes n ≡ Some node → mine ≡ key_of labels node → is ≡ node_eq.it mine key → is ≡ true → HasKey nodes labels key n
has_key nodes labels key mine node n is at_ m e t = (node, at_, sym m ∙ same_nodes mine key (sym e ∙ t))

pub lacks_key : (nodes : List Node) (labels : List ℕ) (key mine node : Node) (n : ℕ) (is : Bool) → slice_get nodes n ≡ Some node → mine ≡ key_of labels node → is ≡ node_eq.it mine key → is ≡ false → HasKey nodes labels key n → ⊥
lacks_key nodes labels key mine node n is at_ m e f has =
    let one : node ≡ has.0 = same_Some node has.0 (sym at_ ∙ has.1) in
    let same : mine ≡ key = m ∙ ap (key_of labels) one ∙ has.2 in
    true≢false (sym (e ∙ ap (node_eq.it mine) (sym same) ∙ laws-law.refl mine) ∙ f)

-- ---- the first node of each form

-- a key that is put in
pub keeps_new : (old new : List (Node × ℕ)) (key : Node) (n : ℕ) → found_in old key ≡ None → Enters old new key n → Keeps old new key true
keeps_new old new key n none h = record {
  says = ((λ t. none), (λ e. refl));
  lacks = λ other. ((λ e. both other (same_or_other other key) e), (λ l. h.others other (λ e. l.1 (sym e)) ∙ l.0));
}
  where
    both : (other : Node) → (other ≡ key) ⊎ (other ≢ key) → found_in new other ≡ None → (found_in old other ≡ None) × (key ≢ other)
    both other (inl e) f = absurd (none-some n (sym f ∙ ap (found_in new) e ∙ h.here))
    both other (inr e) f = (sym (h.others other e) ∙ f, (λ s. e (sym s)))

pub keeps_old : (old : List (Node × ℕ)) (key : Node) (n : ℕ) → found_in old key ≡ Some n → Keeps old old key false
keeps_old old key n some = record {
  says = ((λ t. absurd cc), (λ e. absurd (none-some n (sym e ∙ some))));
  lacks = λ other. ((λ e. (e, (λ s. none-some n (sym e ∙ ap (found_in old) (sym s) ∙ some)))), (λ l. l.0));
}

-- ---- .. in its class

pub alone_members : (labels : List ℕ) (n one : ℕ) (others : List ℕ) → AreMembers labels n one others → others ≡ [] → n < length labels → IsAlone labels n
alone_members labels n one others members none lt m low e = sym (is_one m (members.each m).1 (low, e)) ∙ is_one n (members.each n).1 (lt, refl)
  where
    empty_has : (k : ℕ) → Contains [] k → ⊥
    empty_has k c = let lt = c.1 in absurd (omega arith)

    is_one : (k : ℕ) → ((k < length labels) × AreOne labels k n → (one ≡ k) ⊎ Contains others k) → (k < length labels) × AreOne labels k n → one ≡ k
    is_one k h is = elim (h is) [ inl e ↦ e | inr c ↦ absurd (empty_has k (subst (λ (xs : List ℕ). Contains xs k) none c)) ]

pub all_first : (n l : ℕ) (kids : List ℕ) → n < l → All (λ k. k < l) kids → All (λ k. k < l) (n ∷ kids)
all_first n l kids here all zero d lt = here
all_first n l kids here all (suc k) d lt = all k d (omega arith)

pub key_class : (labels : List ℕ) (m n : ℕ) (node other : Node) → class_key labels m other ≡ class_key labels n node → AreOne labels m n × (key_of labels other ≡ key_of labels node)
key_class labels m n node other e =
    let kids = ap (λ (x : Node). x.kids) e in
    (ap (λ (xs : List ℕ). at xs 0) kids, ap (λ (x : Node). node_of x.op (rest x.kids)) e)

pub class_keys : (labels : List ℕ) (m n : ℕ) (node other : Node) → AreOne labels m n → key_of labels other ≡ key_of labels node → class_key labels m other ≡ class_key labels n node
class_keys labels m n node other one e =
    ap (λ (x : Node). node_of x.op (at labels m ∷ x.kids)) e ∙ ap (λ (l : ℕ). node_of node.op (l ∷ labels_of labels node.kids)) one

pub first_none : (nodes : List Node) (labels : List ℕ) → AreFirstTo 0 nodes labels [] []
first_none nodes labels = record {
  long = refl;
  alone = λ key e m lt. absurd (omega arith);
  lacks = λ key h. refl;
  each = λ k lt. absurd (omega arith);
}

module _ (n : ℕ) (nodes : List Node) (labels : List ℕ) (below : n < length labels) (seen after : List (Node × ℕ)) (firsts : List Bool) (is_new : Bool) (h : AreFirstTo n nodes labels seen firsts) where
  before : (m : ℕ) → m < n + 1 → (m < n) ⊎ (m ≡ n)
  before m lt = grind arith

  -- a node before n in its class isn't alone
  not_alone : (m : ℕ) → m < n → IsAlone labels m → AreOne labels m n → ⊥
  not_alone m lt is one = let e = is n below (sym one) in absurd (omega arith)

  found_or_none : (key : Node) → (found_in seen key ≡ None) ⊎ (found_in seen key ≡ None → ⊥)
  found_or_none key = go (found_in seen key) refl
    where
      go : (o : Option ℕ) → found_in seen key ≡ o → (found_in seen key ≡ None) ⊎ (found_in seen key ≡ None → ⊥)
      go None e = inl e
      go (Some k) e = inr (λ none. none-some k (sym none ∙ e))

  more_firsts : (IsTrue is_new ↔ IsFirstKey nodes labels n) → (m : ℕ) → (m < n) ⊎ (m ≡ n) → IsTrue (slice_index_or (firsts ++ is_new ∷ []) m false) ↔ IsFirstKey nodes labels m
  more_firsts here m (inl lt) =
      subst (λ (b : Bool). IsTrue b ↔ IsFirstKey nodes labels m) (sym (get_or_append_left firsts (is_new ∷ []) false m (subst (λ (l : ℕ). m < l) (sym h.long) lt))) (h.each m lt)
  more_firsts here m (inr s) =
      subst (λ (b : Bool). IsTrue b ↔ IsFirstKey nodes labels m) (sym (get_or_at firsts is_new [] false m (h.long ∙ sym s))) (subst (λ (l : ℕ). IsTrue is_new ↔ IsFirstKey nodes labels l) (sym s) here)

  -- it is alone, and the table stays
  alone_more : IsAlone labels n → after ≡ seen → is_new ≡ true → AreFirstTo (n + 1) nodes labels after (firsts ++ is_new ∷ [])
  alone_more is same new_ = record {
    long = omega (arith, length-append firsts (is_new ∷ []), h.long);
    alone = λ key none m lt has. elim (before m lt) [ inl low ↦ h.alone key (ap (λ (t : List (Node × ℕ)). found_in t key) (sym same) ∙ none) m low has | inr e ↦ subst (IsAlone labels) (sym e) is ];
    lacks = λ key out. ap (λ (t : List (Node × ℕ)). found_in t key) same ∙ h.lacks key (λ m lt. out m (omega arith));
    each = λ m lt. more_firsts here m (before m lt);
  }
    where
      first : IsFirstKey nodes labels n
      first m node lt at_ has = let e = is m (omega arith) (key_class labels m n node has.0 has.2).0 in absurd (omega arith)

      here : IsTrue is_new ↔ IsFirstKey nodes labels n
      here = ((λ t. first), (λ f. subst IsTrue (sym new_) refl))

  -- its key is put in, where the table lacked it
  keyed_more : (node : Node) → slice_get nodes n ≡ Some node → Keeps seen after (class_key labels n node) is_new → AreFirstTo (n + 1) nodes labels after (firsts ++ is_new ∷ [])
  keyed_more node is k = record {
    long = omega (arith, length-append firsts (is_new ∷ []), h.long);
    alone = λ key none m lt has. elim (before m lt) [
      | inl low ↦ h.alone key ((k.lacks key).0 none).0 m low has
      | inr e ↦ absurd (((k.lacks key).0 none).1 (own key m e has))
    ];
    lacks = λ key out. (k.lacks key).1 (h.lacks key (λ m lt. out m (omega arith)), (λ s. out n (omega arith) (node, is, s)));
    each = λ m lt. more_firsts here m (before m lt);
  }
    where
      own : (key : Node) (m : ℕ) → m ≡ n → HasClassKey nodes labels key m → class_key labels n node ≡ key
      own key m e has =
          let one : has.0 ≡ node = same_Some has.0 node (sym has.1 ∙ ap (slice_get nodes) e ∙ is) in
          ap (class_key labels n) (sym one) ∙ ap (λ (l : ℕ). class_key labels l has.0) (sym e) ∙ has.2

      first : found_in seen (class_key labels n node) ≡ None → IsFirstKey nodes labels n
      first none m other lt at_ has =
          let same : class_key labels n other ≡ class_key labels n node = ap (class_key labels n) (same_Some other node (sym at_ ∙ is)) in
          let key : HasClassKey nodes labels (class_key labels n node) m = (has.0, has.1, has.2 ∙ same) in
          not_alone m lt (h.alone (class_key labels n node) none m lt key) (key_class labels m n node has.0 (has.2 ∙ same)).0

      here : IsTrue is_new ↔ IsFirstKey nodes labels n
      here = ((λ t. first (k.says.0 t)), (λ f. k.says.1 (h.lacks (class_key labels n node) (λ m lt has. f m node lt is has))))

  pub first_more : (more : List Bool) → Notes nodes labels n seen after is_new → more ≡ firsts ++ is_new ∷ [] → AreFirstTo (n + 1) nodes labels after more
  first_more more (inl a) e = subst (AreFirstTo (n + 1) nodes labels after) (sym e) (alone_more a.0 a.1 a.2)
  first_more more (inr k) e = subst (AreFirstTo (n + 1) nodes labels after) (sym e) (keyed_more k.0 k.1 k.2)

pub first_all : (n : ℕ) (nodes : List Node) (labels : List ℕ) (seen : List (Node × ℕ)) (firsts : List Bool) → n ≡ length nodes → AreFirstTo n nodes labels seen firsts → AreFirstKeys nodes labels firsts
first_all n nodes labels seen firsts e h = record { long = h.long ∙ e; each = λ k lt. h.each k (subst (λ (m : ℕ). k < m) (sym e) lt) }

pub first_forms : (nodes : List Node) (i : Index) → IsIndex nodes i → (firsts : List Bool) → AreFirstKeys nodes i.parts.labels firsts → AreFirst nodes i.parts.numbers firsts
first_forms nodes i is firsts h = record {
  long = h.long;
  each = λ n lt. ((λ t. first n lt ((h.each n lt).0 t)), (λ f. (h.each n lt).1 (first_key n lt f)));
}
  where
    kids : (n : ℕ) (node : Node) → slice_get nodes n ≡ Some node → (k : ℕ) → Contains node.kids k → k < length i.parts.labels
    kids n node at_ k c = subst (λ (m : ℕ). k < m) (sym is.long) (is.kids n k node at_ c)

    low : (n : ℕ) → n < length nodes → n < length i.parts.labels
    low n lt = subst (λ (m : ℕ). n < m) (sym is.long) lt

    first : (n : ℕ) → n < length nodes → IsFirstKey nodes i.parts.labels n → IsFirst nodes i.parts.numbers n
    first n lt f m node l at_ one form =
        let key = form_key nodes i.parts.labels node.op node.kids m (form_labels nodes i is node.op node.kids (kids n node at_) m form) in
        f m node l at_ (key.0, key.1, class_keys i.parts.labels m n node key.0 ((is.parts.one m n (low m (omega arith)) (low n lt)).1 one) key.2)

    first_key : (n : ℕ) → n < length nodes → IsFirst nodes i.parts.numbers n → IsFirstKey nodes i.parts.labels n
    first_key n lt f m node l at_ has =
        let both = key_class i.parts.labels m n node has.0 has.2 in
        let form = key_form nodes i.parts.labels node.op node.kids m (has.0, has.1, both.1) in
        f m node l at_ ((is.parts.one m n (low m (omega arith)) (low n lt)).0 both.0) (form_numbers nodes i is node.op node.kids (kids n node at_) m form)

-- ---- the nodes of a class

pub part_members : (labels least : List ℕ) (others : List (List ℕ)) (n : ℕ) → n < length labels → IsKept labels least others → AreMembers labels n (at labels n) (slice_index_or others (at labels n) [])
part_members labels least others n lt h = record {
  each = λ k. (there k, back k);
  apart = λ c. ((h.others_are (at labels n) (at labels n) (h.within n lt)).0 c).2 refl;
}
  where
    there : (k : ℕ) → (at labels n ≡ k) ⊎ Contains (slice_index_or others (at labels n) []) k → (k < length labels) × AreOne labels k n
    there k (inl e) = (subst (λ (m : ℕ). m < length labels) e (h.within n lt), ap (at labels) (sym e) ∙ h.own n lt)
    there k (inr c) = let f = (h.others_are (at labels n) k (h.within n lt)).0 c in (f.0, f.1)

    same : (k : ℕ) → (at labels n ≡ k) ⊎ (at labels n ≢ k)
    same k = grind arith

    back : (k : ℕ) → (k < length labels) × AreOne labels k n → (at labels n ≡ k) ⊎ Contains (slice_index_or others (at labels n) []) k
    back k f = elim (same k) [ inl e ↦ inl e | inr e ↦ inr ((h.others_are (at labels n) k (h.within n lt)).1 (f.0, f.1, (λ s. e (sym s)))) ]

pub class_members : (p : Parts) (n one : ℕ) (others : List ℕ) → IsPartition p → n < length p.labels → AreMembers p.labels n one others → AreMembers p.numbers n one others
class_members p n one others h lt m = record {
  each = λ k. (
    (λ c. let f = (m.each k).0 c in (subst (λ (l : ℕ). k < l) (sym h.long) f.0, (h.one k n f.0 lt).0 f.1)),
    (λ f. let l = subst (λ (l : ℕ). k < l) h.long f.0 in (m.each k).1 (l, (h.one k n l lt).1 f.1)),
  );
  apart = m.apart;
}
