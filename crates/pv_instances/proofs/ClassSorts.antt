-- Classes that have one sort each: what stands in them has their sort, and closing keeps them so.
use Rattle.std.specs.Prelude.{◌≡◌, ℕ, zero, suc, false, List, [], ◌∷◌, length, Some, slice_get, refl}
use Rattle.std.specs.List.{AllByRecursion}
use Rattle.std.proofs.Common.{sym, ap, ◌∙◌, subst, arith}
use Rattle.std.proofs.lemmas.Option.{same_Some}
use Rattle.pv_graph.specs.declared.node.Op.{Op}
use Rattle.pv_graph.specs.declared.node.Op.TheVariants as op
use Rattle.pv_graph.specs.declared.node.OpSort.{OpSort}
use Rattle.pv_graph.specs.Forms.{form}
use Rattle.pv_graph.specs.Walks.{In}
use Rattle.pv_graph.specs.Ops.{sort_over, HaveSorts, HasSort}
use Rattle.pv_graph.specs.Graphs.{Graph, form_at, IsGraph}
use Rattle.pv_graph.proofs.Cited.{node_at, sort_there, tied, shape_takes}
use Rattle.pv_heights.specs.Systems.{Hypothesis, Joined, given, same, flip, chain, kids, outer, assumed, induction}
use Rattle.pv_heights.specs.Filled.{kid, variable, Filled, at, of, Parts, no_part, part}
use Rattle.pv_heights.specs.Sides.{Match, InClass, AllInClass}
use Rattle.pv_heights.specs.Searches.{nodes, IsNode, OneClass, Joining}
use Rattle.pv_heights.specs.Heights.{Nothing}
use Rattle.pv_instances.specs.Sorted.{IsSorted, AreSorted}
use Rattle.pv_instances.specs.Classes.{JoinedHaveOneSort, SidesHaveSorts, ClosingKeepsSorts, BeginningHasSorts}

zip_left : (all : List OpSort) (xs : List ℕ) (ss : List OpSort) (j u : ℕ) (s : OpSort) → HaveSorts all xs ss → slice_get xs j ≡ Some u → slice_get all u ≡ Some s → slice_get ss j ≡ Some s
zip_left all [] ss j u s z e at_ = absurd (cc)
zip_left all (x ∷ xs) [] j u s z e at_ = absurd z
zip_left all (x ∷ xs) (t ∷ ss) zero u s z e at_ =
    let one : x ≡ u = same_Some x u e in
    let two : Some t ≡ Some s = sym z.0 ∙ (ap (slice_get all) one ∙ at_) in
    two
zip_left all (x ∷ xs) (t ∷ ss) (suc j) u s z e at_ = zip_left all xs ss j u s z.1 e at_

module _ (g : Graph) (is_graph : IsGraph g) (sealed : g.is_open ≡ false) where
  -- what an operation of a sealed graph takes
  pub sorted_at : (n : ℕ) (o : Op) (ks : List ℕ) (s : OpSort) → form_at g.nodes n ≡ Some (form o ks) → slice_get g.sorts n ≡ Some s → HasSort g.sorts o ks s
  sorted_at n o ks s e at_ =
      let node = node_at g.nodes n o ks e in
      let h = tied g sealed node.0 s (is_graph.sorted n node.0 s node.1 at_) in
      subst (λ (y : Op). HasSort g.sorts y ks s) node.2 (subst (λ (zs : List ℕ). HasSort g.sorts node.0.op zs s) node.3 h)

  all_sorts : (ks : List ℕ) → AllByRecursion (IsNode g) ks → (ss : List OpSort) × HaveSorts g.sorts ks ss
  all_sorts [] all = ([], tt)
  all_sorts (k ∷ ks) all =
      let one = sort_there g is_graph k all.0 in
      let others = all_sorts ks all.1 in
      (one.0 ∷ others.0, (one.1, others.1))

  module _ (numbers : List ℕ) (one : JoinedHaveOneSort g (OneClass numbers)) where
    module _ (m : Match ℕ) (ks vs : List OpSort) (kids_have : HaveSorts g.sorts m.kids ks) (vars_have : HaveSorts g.sorts m.vars vs) where
      mutual
        in_class : (p : Filled) (t : ℕ) (s : OpSort) → InClass (nodes g) (IsNode g) (OneClass numbers) m p t → slice_get g.sorts t ≡ Some s → IsSorted ks vs p s
        in_class (at (kid i)) t s (u, there, joins) at_ = zip_left g.sorts m.kids ks i u s kids_have there (one u t joins ∙ at_)
        in_class (at (variable j)) t s (u, there, joins) at_ = zip_left g.sorts m.vars vs j u s vars_have there (one u t joins ∙ at_)
        in_class (of o ps) t s (zs, c, all) at_ =
            let h = sorted_at c.thing o zs s c.has (one c.thing t c.joins ∙ at_) in
            (h.sorts, h.over, all_in_class ps zs h.sorts all h.kids_have)

        all_in_class : (ps : Parts) (zs : List ℕ) (ss : List OpSort) → AllInClass (nodes g) (IsNode g) (OneClass numbers) m ps zs → HaveSorts g.sorts zs ss → AreSorted ks vs ps ss
        all_in_class no_part [] [] all have = tt
        all_in_class no_part [] (s ∷ ss) all have = absurd have
        all_in_class no_part (k ∷ zs) ss all have = absurd all
        all_in_class (part p ps) [] ss all have = absurd all
        all_in_class (part p ps) (k ∷ zs) [] all have = absurd have
        all_in_class (part p ps) (k ∷ zs) (s ∷ ss) all have = (in_class p k s all.0 have.0, all_in_class ps zs ss all.1 have.1)

pub sides_have_sorts : SidesHaveSorts
sides_have_sorts g numbers m p t is_graph sealed one kids_ vars_ there stands =
    let ks = all_sorts g is_graph sealed m.kids kids_ in
    let vs = all_sorts g is_graph sealed m.vars vars_ in
    let s = sort_there g is_graph t there in
    (s.0, record { kid_sorts = ks.0; var_sorts = vs.0; kids_have = ks.1; vars_have = vs.1; sorted = in_class g is_graph sealed numbers one m ks.0 vs.0 ks.1 vs.1 p t s.0 stands s.1 }, s.1)

module _ (g : Graph) (is_graph : IsGraph g) (sealed : g.is_open ≡ false) where
  abbrev Same : ℕ → ℕ → Type 0
  Same a b = slice_get g.sorts a ≡ slice_get g.sorts b

  -- kids of the same sorts
  kids_same : (ks ls : List ℕ) (ss ts : List OpSort) → length ks ≡ length ls → ((j k l : ℕ) → slice_get ks j ≡ Some k → slice_get ls j ≡ Some l → Same k l) → HaveSorts g.sorts ks ss → HaveSorts g.sorts ls ts → ss ≡ ts
  kids_same [] [] [] [] e each a b = refl
  kids_same [] [] [] (t ∷ ts) e each a b = absurd b
  kids_same [] [] (s ∷ ss) ts e each a b = absurd a
  kids_same [] (l ∷ ls) ss ts e each a b = absurd (omega arith)
  kids_same (k ∷ ks) [] ss ts e each a b = absurd (omega arith)
  kids_same (k ∷ ks) (l ∷ ls) [] ts e each a b = absurd a
  kids_same (k ∷ ks) (l ∷ ls) (s ∷ ss) [] e each a b = absurd b
  kids_same (k ∷ ks) (l ∷ ls) (s ∷ ss) (t ∷ ts) e each a b =
      let one : s ≡ t = same_Some s t (sym a.0 ∙ each 0 k l refl refl ∙ b.0) in
      let others : ss ≡ ts = kids_same ks ls ss ts (omega arith) (λ j x y p q. each (suc j) x y p q) a.1 b.1 in
      cc (one, others)

  pub congruent : (a b : ℕ) (o : Op) (ks ls : List ℕ) → IsNode g a → IsNode g b → form_at g.nodes a ≡ Some (form o ks) → form_at g.nodes b ≡ Some (form o ls) → length ks ≡ length ls
      → ((j k l : ℕ) → slice_get ks j ≡ Some k → slice_get ls j ≡ Some l → Same k l) → Same a b
  congruent a b o ks ls there there' x y long each =
      let s = sort_there g is_graph a there in
      let t = sort_there g is_graph b there' in
      let h = sorted_at g is_graph sealed a o ks s.0 x s.1 in
      let i = sorted_at g is_graph sealed b o ls t.0 y t.1 in
      let same_kids : h.sorts ≡ i.sorts = kids_same ks ls h.sorts i.sorts long each h.kids_have i.kids_have in
      s.1 ∙ sym h.over ∙ ap (sort_over o) same_kids ∙ i.over ∙ sym t.1

  -- a theta has the sort of its first kid
  theta_sort : (d x p q : ℕ) → IsNode g x → form_at g.nodes x ≡ Some (form (op.Theta d) (p ∷ q ∷ [])) → Same x p
  theta_sort d x p q there e =
      let s = sort_there g is_graph x there in
      let h = sorted_at g is_graph sealed x (op.Theta d) (p ∷ q ∷ []) s.0 e s.1 in
      let have : HaveSorts g.sorts (p ∷ q ∷ []) (s.0 ∷ s.0 ∷ []) = subst (HaveSorts g.sorts (p ∷ q ∷ [])) (shape_takes (op.Theta d) h.sorts s.0 h.over) h.kids_have in
      s.1 ∙ sym have.0

  -- the pairs of open inductions have one sort each
  abbrev Pairs : List (Hypothesis ℕ) → Type 0
  Pairs [] = Unit {0}
  Pairs (b ∷ bs) = ((x y : ℕ) → In b.pairs (x, y) → Same x y) × Pairs bs

  module _ (Given : ℕ → ℕ → Type 0) (one : JoinedHaveOneSort g Given) where
    pub joined_same : (bs : List (Hypothesis ℕ)) (a b : ℕ) → Pairs bs → Joined (nodes g) (IsNode g) [] Given bs a b → Same a b
    joined_same bs a b hs (given _ _ _ k) = one a b k
    joined_same bs a b hs (same _ _ there) = refl
    joined_same bs a b hs (flip _ _ _ j) = sym (joined_same bs b a hs j)
    joined_same bs a b hs (chain _ _ c _ j k) = joined_same bs a c hs j ∙ joined_same bs c b hs k
    joined_same bs a b hs (kids _ _ _ o ks ls there there' x y out long each) = congruent a b o ks ls there there' x y long (λ j k l p q. joined_same bs k l hs (each j k l p q))
    joined_same (h ∷ bs) a b hs (outer _ _ _ _ j) = joined_same bs a b hs.1 j
    joined_same (h ∷ bs) a b hs (assumed _ _ _ _ i) = hs.0 a b i
    joined_same bs a b hs (induction h _ above thetas first second _ _ i) =
        let t = thetas a b i in
        theta_sort h.depth a t.p t.q t.is_left t.left ∙ joined_same bs t.p t.r hs (first a b t.p t.q t.r t.s i t.left t.right) ∙ sym (theta_sort h.depth b t.r t.s t.is_right t.right)

pub closing_keeps_sorts : ClosingKeepsSorts
closing_keeps_sorts g numbers after pairs is_graph sealed one are a b c = joined_same g is_graph sealed (Joining numbers pairs) one [] a b tt (are.sound a b c)

pub beginning_has_sorts : BeginningHasSorts
beginning_has_sorts g after is_graph sealed are a b c = joined_same g is_graph sealed Nothing (λ x y n. absurd n) [] a b tt (are.sound a b c)
