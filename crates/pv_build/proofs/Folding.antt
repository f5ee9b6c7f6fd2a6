-- The fold of a tree over what is given for its nodes.
use Rattle.std.proofs.Common.{◌≡◌, ℕ, zero, suc, ◌-◌, ◌<◌, List, [], ◌∷◌, length, get_or, Option, Some, None, unwrap_or, slice_get, sym, ap, ◌∙◌, subst, arith}
use Rattle.pv_build.proofs.Words.{slice_index, length-map, slice_get-get_or, slice_get_within, OpSort, I, Node, Op, found, Graph, Exp, Over, NoExp, or_else, TreeNode, Named, Reads, IsOfSort, ReadsOver, GivenSort, HaveOneSort, AreGiven, ReadsFold, FoldKeepsSort, ReadsMaybe, IsMaybeOf, Source, Given, given_by, given_nodes, Gives, GivesOne, FoldsTo, FoldsToOne, MaybeReads, MaybeSorted}
use Rattle.pv_decide.specs.declared.tree.TreeNode.TheVariants as node
use Rattle.pv_build.specs.Sources.{IsTree}
use Rattle.pv_build.proofs.Kept.{read_no_kids}

given_at : (sources : List Source) (s n : ℕ) (k : Source) → slice_get sources n ≡ Some k → slice_index (given_nodes sources s) n ≡ unwrap_or (given_by k s) 0
given_at [] s n k e = absurd (cc)
given_at (y ∷ sources) s zero k e = ap (λ (k : Source). unwrap_or (given_by k s) 0) (let z : y ≡ k = cc in z)
given_at (y ∷ sources) s (suc n) k e = given_at sources s n k e

-- the node that is given
node_at : (sources : List Source) (s n : ℕ) (k : Source) (o : ℕ) → slice_get sources n ≡ Some k → given_by k s ≡ Some o → slice_index (given_nodes sources s) n ≡ o
node_at sources s n k o at is = given_at sources s n k at ∙ ap (λ (o : Option ℕ). unwrap_or o 0) is

module _ (x : Given) (s : ℕ) (dead : Option ℕ) where
  abbrev given_ : List ℕ
  given_ = given_nodes x.sources.items s

  -- something is given for each node
  source_at : length x.sources.items ≡ length x.nodes.items → (n : ℕ) (y : TreeNode) → slice_get x.nodes.items n ≡ Some y → (k : Source) × (slice_get x.sources.items n ≡ Some k)
  source_at size n y at = found x.sources.items n (let low = slice_get_within x.nodes.items n y at in omega (arith, low, size))

  pub given_sort : (g : Graph) (t : OpSort) → Gives g x s dead t → GivenSort g x.nodes.items given_ dead t
  given_sort g t gives = record {
    value = gives.value;
    leaves = λ n b e at. (
        let k = source_at gives.size n (node.Leaf b e) at in
        let h = gives.each n (node.Leaf b e) k.0 at k.1 in
        subst (λ (o : ℕ). IsOfSort g o t) (sym (node_at x.sources.items s n k.0 h.0 k.1 h.1)) h.2);
    tests = λ n b e y m at. (
        let k = source_at gives.size n (node.Test b e y m) at in
        let h = gives.each n (node.Test b e y m) k.0 at k.1 in
        subst (λ (o : ℕ). IsOfSort g o I) (sym (node_at x.sources.items s n k.0 h.0 k.1 h.1)) h.2);
    dead_is = gives.dead_is;
  }

  given_reads : (nodes : List Node) (names : List Named) (q : Option Exp) (f : FoldsTo nodes names x s dead q) → AreGiven nodes names x.nodes.items given_ dead f.leaf f.test f.ended
  given_reads nodes names q f = record {
    leaves = λ n b e at. (
        let k = source_at f.size n (node.Leaf b e) at in
        let h = f.each n (node.Leaf b e) k.0 at k.1 in
        subst (λ (o : ℕ). Reads nodes names o (f.leaf b e)) (sym (node_at x.sources.items s n k.0 h.0 k.1 h.1)) h.2);
    tests = λ n b e y m at. (
        let k = source_at f.size n (node.Test b e y m) at in
        let h = f.each n (node.Test b e y m) k.0 at k.1 in
        subst (λ (o : ℕ). Reads nodes names o (f.test b e)) (sym (node_at x.sources.items s n k.0 h.0 k.1 h.1)) h.2);
    dead_gives = f.dead_gives;
  }

  module _ (given : List ℕ) (is : given ≡ given_) where
    pub given_length : length x.sources.items ≡ length x.nodes.items → length given ≡ length x.nodes.items
    given_length size = ap length is ∙ length-map x.sources.items (λ (k : Source). unwrap_or (given_by k s) 0) ∙ size

    pub have_one : (g : Graph) → GivesOne g x s dead → HaveOneSort g x.nodes.items given dead
    have_one g one = (one.0, subst (λ (xs : List ℕ). GivenSort g x.nodes.items xs dead one.0) (sym is) (given_sort g one.0 one.1))

    module _ (old new : Graph) (made : List (Option ℕ)) (count : length made ≡ length x.nodes.items) (tree_is : IsTree x.nodes.items) where
      last : length x.nodes.items - 1 < length made
      last = let z = tree_is.root in omega (arith, z, count)

      pub root_reads : ReadsFold old x.nodes.items given dead new made → ((d : Option ℕ) → MaybeReads old x s dead new (get_or made (length x.nodes.items - 1) d))
      root_reads reads d names q f =
          subst (λ (xs : List ℕ). ReadsFold old x.nodes.items xs dead new made) is reads f.depth names f.leaf f.test f.ended f.are_names (given_reads old.nodes names q f) (length x.nodes.items - 1) q (get_or made (length x.nodes.items - 1) d)
          (slice_get-get_or made (length x.nodes.items - 1) d last) f.folds

      pub root_sorted : FoldKeepsSort old x.nodes.items given dead new made → ((d : Option ℕ) → MaybeSorted old x s dead new (get_or made (length x.nodes.items - 1) d))
      root_sorted keeps d t gives = keeps t (subst (λ (xs : List ℕ). GivenSort old x.nodes.items xs dead t) (sym is) (given_sort old t gives)) (length x.nodes.items - 1) d last

-- where the tree gives an expression, a node is made
pub not_none : (old new : Graph) (x : Given) (s : ℕ) (dead r : Option ℕ) → FoldsToOne old.nodes x s dead → MaybeReads old x s dead new r → r ≡ None → ⊥
not_none old new x s dead r one reads none = let z : Some one.1 ≡ None = subst (λ (r : Option ℕ). ReadsMaybe new.nodes one.0 r (Some one.1)) none (reads one.0 (Some one.1) one.2) in absurd (cc)

pub some_read : (new : Graph) (names : List Named) (r : Option ℕ) (n : ℕ) (e : Exp) → r ≡ Some n → ReadsMaybe new.nodes names r (Some e) → Reads new.nodes names n e
some_read new names r n e is reads =
    let z = subst (λ (r : Option ℕ). ReadsMaybe new.nodes names r (Some e)) is reads in
    subst (Reads new.nodes names n) (let w : z.0 ≡ e = (let q : Some e ≡ Some z.0 = z.2 in cc) in w) z.1

pub some_sorted : (new : Graph) (r : Option ℕ) (n : ℕ) (t : OpSort) → r ≡ Some n → IsMaybeOf new t r → IsOfSort new n t
some_sorted new r n t is sorted = subst (λ (r : Option ℕ). IsMaybeOf new t r) is sorted

-- what a tree gives, or else an operation without kids
pub some_or_else : (new : Graph) (names : List Named) (r : Option ℕ) (n : ℕ) (q : Option Exp) (o : Op) → r ≡ Some n → ReadsMaybe new.nodes names r q → Reads new.nodes names n (or_else q (Over o NoExp))
some_or_else new names r n q o is reads =
    let z = subst (λ (r : Option ℕ). ReadsMaybe new.nodes names r q) is reads in
    subst (λ (q : Option Exp). Reads new.nodes names n (or_else q (Over o NoExp))) (sym z.2) z.1

pub none_or_else : (old new : Graph) (names : List Named) (r : Option ℕ) (n : ℕ) (q : Option Exp) (o : Op) → r ≡ None → ReadsMaybe old.nodes names r q → ReadsOver old o [] new n → Reads new.nodes names n (or_else q (Over o NoExp))
none_or_else old new names r n q o is reads over =
    let z : q ≡ None = subst (λ (r : Option ℕ). ReadsMaybe old.nodes names r q) is reads in
    subst (λ (q : Option Exp). Reads new.nodes names n (or_else q (Over o NoExp))) (sym z) (read_no_kids old new names o n over)
