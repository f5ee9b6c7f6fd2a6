-- What is kept as a graph grows.
use Rattle.std.proofs.Common.{◌≡◌, ℕ, Bool, true, false, if◌then◌else◌, List, [], ◌∷◌, Option, Some, None, refl, sym, ◌∙◌}
use Rattle.pv_build.proofs.Words.{Sort, OpSort, Op, is_depth, alike, eval_sort, shift_sort, sort_over, HasSort, Graph, Exp, Over, NoExp, TreeNode, Named, Reads, IsFlat, Grows, IsOfSort, ReadsOver, ReadsMaybe, names_stand, Cell, IsCellOf, Part, Source, Given, HasNodeOf, GivesAt, Gives, HasNodeFor, ReadsAt, FoldsTo, CellsGive, CellsFold, AreCellsOf}
use Rattle.pv_graph.specs.declared.node.Op.TheVariants as op
use Rattle.pv_decide.specs.declared.tree.TreeNode.TheVariants as node
use Rattle.pv_build.proofs.Persisting as on
use Rattle.pv_build.proofs.Persisting.{Persists, grown}

-- ---- operations without kids

pub has_no_kids : (g : Graph) (o : Op) (t : OpSort) → sort_over o [] ≡ Some t → HasSort g.sorts o [] t
has_no_kids g o t e = record { sorts = []; kids_have = tt; over = e }

pub read_no_kids : (old new : Graph) (names : List Named) (o : Op) (n : ℕ) → ReadsOver old o [] new n → Reads new.nodes names n (Over o NoExp)
read_no_kids old new names o n reads = reads names NoExp tt

-- none of them has a depth
either : (b : Bool) (r : Option OpSort) (t : OpSort) → r ≡ None → (if b then r else None) ≡ Some t → ⊥
either true r t none e = absurd (let z : None ≡ Some t = sym none ∙ e in cc)
either false r t none e = absurd (cc)

pub no_depth : (o : Op) (t : OpSort) → sort_over o [] ≡ Some t → IsFlat o
no_depth (op.Theta d) t e = absurd (either (is_depth d) (alike []) t refl e)
no_depth (op.Eval d) t e = absurd (either (is_depth d) (eval_sort []) t refl e)
no_depth (op.Pass d) t e = absurd (either (is_depth d) None t refl e)
no_depth (op.Shift d) t e = absurd (either (is_depth d) (shift_sort []) t refl e)
no_depth o t e = refl

-- ---- as nodes go on standing for what they stand for

module _ (old new : Graph) (p : Persists old new) where
  has_on : (given : Option ℕ) (t : OpSort) → HasNodeOf old given t → HasNodeOf new given t
  has_on given t (n, at, is) = (n, at, on.sort_on old new p n t is)

  for_on : (names : List Named) (given : Option ℕ) (e : Exp) → HasNodeFor old.nodes names given e → HasNodeFor new.nodes names given e
  for_on names given e (n, at, r) = (n, at, on.reads_on old new p names names (λ h s n i. i) n e r)

  at_on : (k : Source) (s : ℕ) (t : OpSort) (y : TreeNode) → GivesAt old k s t y → GivesAt new k s t y
  at_on k s t (node.Leaf b e) is = has_on _ t is
  at_on k s t (node.Test b e y m) is = has_on _ _ is
  at_on k s t node.Nothing is = tt
  at_on k s t node.Dead is = tt

  read_on : (names : List Named) (k : Source) (s : ℕ) (leaf test : ℕ → ℕ → Exp) (y : TreeNode) → ReadsAt old.nodes names k s leaf test y → ReadsAt new.nodes names k s leaf test y
  read_on names k s leaf test (node.Leaf b e) is = for_on names _ _ is
  read_on names k s leaf test (node.Test b e y m) is = for_on names _ _ is
  read_on names k s leaf test node.Nothing is = tt
  read_on names k s leaf test node.Dead is = tt

  maybe_reads_on : (names : List Named) (n : Option ℕ) (r : Option Exp) → ReadsMaybe old.nodes names n r → ReadsMaybe new.nodes names n r
  maybe_reads_on names None r h = h
  maybe_reads_on names (Some n) r h = (h.0, on.reads_on old new p names names (λ h s n i. i) n h.0 h.1, h.2)

  pub gives_on : (x : Given) (s : ℕ) (dead : Option ℕ) (t : OpSort) → Gives old x s dead t → Gives new x s dead t
  gives_on x s dead t is = record { value = is.value; size = is.size; each = λ n y k at from. at_on k s t y (is.each n y k at from); dead_is = on.maybe_on old new p dead t is.dead_is }

  pub folds_on : (names : List Named) (x : Given) (s : ℕ) (dead : Option ℕ) (q : Option Exp) → FoldsTo old.nodes names x s dead q → FoldsTo new.nodes names x s dead q
  folds_on names x s dead q is = record {
    depth = is.depth;
    are_names = names_stand is.depth old.nodes new.nodes names p.stand is.are_names;
    size = is.size;
    leaf = is.leaf;
    test = is.test;
    ended = is.ended;
    each = λ n y k at from. read_on names k s is.leaf is.test y (is.each n y k at from);
    dead_gives = maybe_reads_on names dead is.ended is.dead_gives;
    folds = is.folds;
  }

-- ---- growth

module _ (old new : Graph) (grows : Grows old new) where
  p : Persists old new
  p = grown IsFlat old new grows

  pub sort_kept : (n : ℕ) (t : OpSort) → IsOfSort old n t → IsOfSort new n t
  sort_kept n t is = on.sort_on old new p n t is

  pub reads_kept : (names : List Named) (n : ℕ) (e : Exp) → Reads old.nodes names n e → Reads new.nodes names n e
  reads_kept names n e r = on.reads_on old new p names names (λ h s n i. i) n e r

  pub cell_kept : (c : Cell) (t : Sort) → IsCellOf old c t → IsCellOf new c t
  cell_kept c t is = on.cell_on old new p c t is

  pub cells_kept : (cells : List Cell) (sorts : List Sort) → AreCellsOf old cells sorts → AreCellsOf new cells sorts
  cells_kept [] [] all = tt
  cells_kept [] (t ∷ sorts) all = absurd all
  cells_kept (c ∷ cells) [] all = absurd all
  cells_kept (c ∷ cells) (t ∷ sorts) all = (cell_kept c t all.0, cells_kept cells sorts all.1)

  pub gives_kept : (x : Given) (s : ℕ) (dead : Option ℕ) (t : OpSort) → Gives old x s dead t → Gives new x s dead t
  gives_kept x s dead t is = gives_on old new p x s dead t is

  pub folds_kept : (names : List Named) (x : Given) (s : ℕ) (dead : Option ℕ) (q : Option Exp) → FoldsTo old.nodes names x s dead q → FoldsTo new.nodes names x s dead q
  folds_kept names x s dead q is = folds_on old new p names x s dead q is

  pub cells_give_kept : (x : Given) (which : Part) (sorts : List Sort) → CellsGive old x which sorts → CellsGive new x which sorts
  cells_give_kept x which sorts give i t at known = gives_kept x _ None _ (give i t at known)

  pub cells_fold_kept : (names : List Named) (x : Given) (which : Part) (sorts : List Sort) (base : ℕ → Exp) → CellsFold old.nodes names x which sorts base → CellsFold new.nodes names x which sorts base
  cells_fold_kept names x which sorts base fold i t at known = folds_kept names x _ None _ (fold i t at known)
