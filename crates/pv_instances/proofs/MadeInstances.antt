-- Both sides of an instance, made one after the other.
use Rattle.std.specs.Prelude.{◌≡◌, ℕ, List, [], ◌∷◌, length, Some, slice_get, refl}
use Rattle.std.proofs.Common.{inl, inr, sym, ◌∙◌, subst, arith}
use Rattle.std.proofs.lemmas.Option.{same_Some}
use Rattle.pv_graph.specs.declared.node.OpSort.{OpSort}
use Rattle.pv_graph.specs.Ops.{HaveSorts}
use Rattle.pv_graph.specs.Graphs.{Graph, Extends}
use Rattle.pv_pattern.specs.Patterns.{Pattern}
use Rattle.pv_heights.specs.Filled.{Filled, filled}
use Rattle.pv_heights.specs.Sides.{Match}
use Rattle.pv_instances.specs.Laws.{KeepsSort}
use Rattle.pv_instances.specs.Made.{SortedOver, CanMake, CanMakeBoth, IsPartAt, IsPartOfInstance, MadePattern, MadeInstance}
use Rattle.pv_instances.proofs.Growing.{grows_both}
use Rattle.pv_instances.proofs.MadeSides.{side_kept, part_kept, sorted_later}

-- the lists of sorts are as long as those of nodes
have_long : (all : List OpSort) (ks : List ℕ) (ss : List OpSort) → HaveSorts all ks ss → length ks ≡ length ss
have_long all [] [] z = refl
have_long all [] (s ∷ ss) z = absurd z
have_long all (k ∷ ks) [] z = absurd z
have_long all (k ∷ ks) (s ∷ ss) z = (let r = have_long all ks ss z.1 in omega arith)

-- where the axiom keeps its sort, and the left side has one, both sides can be made
pub both_can : (g : Graph) (m : Match ℕ) (s : OpSort) → KeepsSort m.entry → CanMake g m m.entry.left s → CanMakeBoth g m
both_can g m s keeps left =
    let o = left.sorted in
    let same = have_long g.sorts m.kids o.kid_sorts o.kids_have in
    let r = keeps m.params o.kid_sorts o.var_sorts left.filled_ s (subst (λ (n : ℕ). filled m.params n m.entry.left ≡ Some left.filled_) same left.fills) o.sorted in
    record {
      sort_ = s;
      left = left;
      right = record {
        filled_ = r.0;
        fills = subst (λ (n : ℕ). filled m.params n m.entry.right ≡ Some r.0) (sym same) r.1;
        sorted = record { kid_sorts = o.kid_sorts; var_sorts = o.var_sorts; kids_have = o.kids_have; vars_have = o.vars_have; sorted = r.2 };
      };
    }

pub can_later : (g h : Graph) (m : Match ℕ) (p : Pattern) (s : OpSort) → Extends g h → CanMake g m p s → CanMake h m p s
can_later g h m p s e c = record { filled_ = c.filled_; fills = c.fills; sorted = sorted_later g h m c.filled_ s e c.sorted }

-- the sort of what was made is the one that it could be made with
made_sort : (g h : Graph) (m : Match ℕ) (p : Pattern) (s : OpSort) (n : ℕ) → CanMake g m p s → MadePattern g h m p n → slice_get h.sorts n ≡ Some s
made_sort g h m p s n can x = x.made.sort_ s (subst (λ (f : Filled). SortedOver g m f s) (same_Some can.filled_ x.filled_ (sym can.fills ∙ x.fills)) can.sorted)

pub both_made : (g h i : Graph) (m : Match ℕ) (l r : ℕ) → CanMakeBoth g m → MadePattern g h m m.entry.left l → MadePattern h i m m.entry.right r → MadeInstance g i m l r
both_made g h i m l r can x y =
    let e = y.made.grows.extends_ in
    record {
      grows = grows_both g h i (IsPartAt h m x.filled_) (IsPartAt i m y.filled_) (IsPartOfInstance i m) x.made.grows y.made.grows
          (λ n p. record { whole = x.filled_; is_whole = inl x.fills; part_ = part_kept h i e m x.filled_ n p })
          (λ n p. record { whole = y.filled_; is_whole = inr y.fills; part_ = p });
      distinct = λ d. y.made.distinct (x.made.distinct d);
      left = (x.filled_, x.fills, side_kept h i e m x.filled_ l x.made.is);
      right = (y.filled_, y.fills, y.made.is);
      one_sort = e.sorts l can.sort_ (made_sort g h m m.entry.left can.sort_ l can.left x) ∙ sym (made_sort h i m m.entry.right can.sort_ r (can_later g h m m.entry.right can.sort_ x.made.grows.extends_ can.right) y);
    }
