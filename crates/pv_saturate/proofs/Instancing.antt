-- The instance of a match, over the nodes that are chosen.
use Rattle.std.specs.Prelude.{◌≡◌, ℕ, suc, ◌<◌, false, List, [], ◌∷◌, length, Some, slice_get, refl}
use Rattle.std.specs.List.{AllZip, AllByRecursion}
use Rattle.std.proofs.Common.{inl, inr, sym, ◌∙◌, subst, arith}
use Rattle.pv_graph.specs.declared.node.OpSort.{OpSort}
use Rattle.pv_graph.specs.Forms.{form}
use Rattle.pv_graph.specs.Ops.{HaveSorts}
use Rattle.pv_graph.specs.Walks.{In}
use Rattle.pv_graph.specs.Graphs.{Graph, IsGraph}
use Rattle.pv_graph.specs.Calls.{IsSame}
use Rattle.pv_graph.proofs.Cited.{sort_there}
use Rattle.pv_heights.specs.Sides.{Match}
use Rattle.pv_heights.specs.Rounds.{ClassCopy}
use Rattle.pv_heights.specs.Rounds as copy
use Rattle.pv_heights.specs.Searches.{nodes, IsNode, OneClass}
use Rattle.pv_axioms.specs.Entries.{axioms}
use Rattle.pv_instances.specs.Laws.{KeepsSort}
use Rattle.pv_instances.specs.Classes.{JoinedHaveOneSort}
use Rattle.pv_instances.specs.Made.{SortedOver, CanMakeBoth, GrowsBy, KeepsDistinct, IsPartOfInstance, MadeInstance}
use Rattle.pv_instances.proofs.Cited.{form_kept, sorts_kept, both_can, all_kept, sides_have_sorts}
use Rattle.pv_witness.specs.Numbered.{AreNumbered, numbered}
use Rattle.pv_witness.proofs.Cited.{numbered_long, numbered_extends, numbered_graph, one_class, copy_kept, longer}
use Rattle.pv_saturate.specs.declared.choice.Witnesses.{Witnesses}
use Rattle.pv_saturate.specs.Choice.{CanChoose, IsChosenFor, AreChosenFor}
use Rattle.pv_saturate.specs.Added.{LeftStands, over, AddedMatch}
use Rattle.pv_saturate.proofs.Lists.{get_in, all_in}

in_all : {A : Type 0} (P : A → Type 0) (xs : List A) → ((x : A) → In xs x → P x) → AllByRecursion P xs
in_all P [] f = tt
in_all P (x ∷ xs) f = (f x (inl refl), in_all P xs (λ y i. f y (inr i)))

-- nodes of the same sorts, place by place
zip_sorts : (all more : List OpSort) (vs ws : List ℕ) (ss : List OpSort) → length ws ≡ length vs → ((j v w : ℕ) → slice_get vs j ≡ Some v → slice_get ws j ≡ Some w → slice_get more w ≡ slice_get all v) → HaveSorts all vs ss → HaveSorts more ws ss
zip_sorts all more [] [] [] long each z = tt
zip_sorts all more [] [] (s ∷ ss) long each z = absurd z
zip_sorts all more [] (w ∷ ws) ss long each z = absurd (omega arith)
zip_sorts all more (v ∷ vs) [] ss long each z = absurd (omega arith)
zip_sorts all more (v ∷ vs) (w ∷ ws) [] long each z = absurd z
zip_sorts all more (v ∷ vs) (w ∷ ws) (s ∷ ss) long each z = (each 0 v w refl refl ∙ z.0, zip_sorts all more vs ws ss (omega arith) (λ j x y a b. each (suc j) x y a b) z.1)

zip_copies : (R : ℕ → ℕ → Type 0) (vs ws : List ℕ) → length ws ≡ length vs → ((j v w : ℕ) → slice_get vs j ≡ Some v → slice_get ws j ≡ Some w → R v w) → AllZip R vs ws
zip_copies R [] [] long each = tt
zip_copies R [] (w ∷ ws) long each = absurd (omega arith)
zip_copies R (v ∷ vs) [] long each = absurd (omega arith)
zip_copies R (v ∷ vs) (w ∷ ws) long each = (each 0 v w refl refl, zip_copies R vs ws (omega arith) (λ j x y a b. each (suc j) x y a b))

zip_itself : (R : ℕ → ℕ → Type 0) (ks : List ℕ) → AllByRecursion (λ k. R k k) ks → AllZip R ks ks
zip_itself R [] all = tt
zip_itself R (k ∷ ks) all = (all.0, zip_itself R ks all.1)

more_all : (P Q : ℕ → Type 0) (ks : List ℕ) → ((k : ℕ) → P k → Q k) → AllByRecursion P ks → AllByRecursion Q ks
more_all P Q [] f all = tt
more_all P Q (k ∷ ks) f all = (f k all.0, more_all P Q ks f all.1)

module _ (g : Graph) (numbers : List ℕ) (m : Match ℕ) (t : Witnesses) (is_graph : IsGraph g) (sealed : g.is_open ≡ false) (is : AreNumbered g numbers) (one : JoinedHaveOneSort (numbered g numbers) (OneClass numbers)) (can : CanChoose (numbered g numbers) g numbers m t)
    (left : LeftStands (numbered g numbers) numbers m) (vars : List ℕ) (chosen : AreChosenFor (numbered g numbers) g numbers m t m.vars vars) where
  abbrev h : Graph
  h = numbered g numbers

  first_graph : IsGraph h
  first_graph = numbered_graph g numbers is_graph sealed is

  var_nodes : AllByRecursion (IsNode h) m.vars
  var_nodes = in_all (IsNode h) m.vars (λ v i. let z = can.vars v i in let y = numbered_long g numbers is in omega (arith, z, y))

  -- both sides can be made over the chosen nodes
  can_make : CanMakeBoth g (over m vars)
  can_make =
      let s = sides_have_sorts h numbers m left.stands.0 left.at_ first_graph sealed one left.kids var_nodes left.is left.stands.2 in
      let o = s.1 in
      let sorted : SortedOver g (over m vars) left.stands.0 s.0 = record {
        kid_sorts = o.kid_sorts;
        var_sorts = o.var_sorts;
        kids_have = sorts_kept h g (numbered_extends g numbers) m.kids o.kid_sorts o.kids_have;
        vars_have = zip_sorts h.sorts g.sorts m.vars vars o.var_sorts chosen.long (λ j v w a b. (chosen.each j v w a b).sort_) o.vars_have;
        sorted = o.sorted;
      } in
      both_can g (over m vars) s.0 (all_in KeepsSort axioms m.entry all_kept can.entry) (record { filled_ = left.stands.0; fills = left.stands.1; sorted = sorted })

  -- .. in a graph of the same nodes
  pub can_make_now : (k : Graph) → IsSame g k → CanMakeBoth k (over m vars)
  can_make_now k e =
      let c = can_make in
      let a = c.left.sorted in
      let b = c.right.sorted in
      subst (λ (z : Graph). CanMakeBoth z (over m vars)) (sym e) (record {
        sort_ = c.sort_;
        left = record { filled_ = c.left.filled_; fills = c.left.fills; sorted = record { kid_sorts = a.kid_sorts; var_sorts = a.var_sorts; kids_have = a.kids_have; vars_have = a.vars_have; sorted = a.sorted } };
        right = record { filled_ = c.right.filled_; fills = c.right.fills; sorted = record { kid_sorts = b.kid_sorts; var_sorts = b.var_sorts; kids_have = b.kids_have; vars_have = b.vars_have; sorted = b.sorted } };
      })

  module _ (k new : Graph) (l r : ℕ) (e : IsSame g k) (made : MadeInstance k new (over m vars) l r) where
    grows : GrowsBy g new (IsPartOfInstance new (over m vars))
    grows =
        let y = subst (λ (z : Graph). GrowsBy z new (IsPartOfInstance new (over m vars))) e made.grows in
        record { extends_ = record { nodes = y.extends_.nodes; sorts = y.extends_.sorts }; sealed = y.sealed; base = y.base; news = y.news }

    chosen_later : (j v w : ℕ) → slice_get m.vars j ≡ Some v → slice_get vars j ≡ Some w → IsChosenFor h new numbers m t j v w
    chosen_later j v w a b =
        let x = chosen.each j v w a b in
        record {
          copy = record { thing = x.copy.thing; is = x.copy.is; joins = x.copy.joins; copy = copy_kept h g new numbers grows.extends_ (longer g new grows.extends_) w x.copy.thing x.copy.copy };
          sort_ = sort_later x;
          settled_ = x.settled_;
          not_free_ = x.not_free_;
          constant = λ i. (let y = x.constant i in (y.0, y.1, form_kept g new grows.extends_ w (form y.0 []) y.2));
        }
      where
        sort_later : IsChosenFor h g numbers m t j v w → slice_get new.sorts w ≡ slice_get h.sorts v
        sort_later x =
            let s = sort_there h first_graph v (all_at j v a) in
            grows.extends_.sorts w s.0 (x.sort_ ∙ s.1) ∙ sym s.1
          where
            all_at : (j v : ℕ) → slice_get m.vars j ≡ Some v → IsNode h v
            all_at j v a = all_in (IsNode h) m.vars v var_nodes (get_in m.vars j v a)

    kid_copy : (n : ℕ) → IsNode h n → ClassCopy (nodes new) (IsNode h) (OneClass numbers) (IsNode new) n n
    kid_copy n lt =
        let y = numbered_long g numbers is in
        let low : n < length numbers = omega (arith, lt, y) in
        record { thing = n; is = lt; joins = one_class numbers n n low low refl; copy = copy.itself n n lt refl }

    abbrev Copies : ℕ → ℕ → Type 0
    Copies v w = ClassCopy (nodes new) (IsNode h) (OneClass numbers) (IsNode new) v w

    pub added : AddedMatch h g new numbers m t vars l r
    added = record {
      grows = grows;
      distinct = subst (λ (z : Graph). KeepsDistinct z new) e made.distinct;
      chosen = record { long = chosen.long; each = chosen_later };
      choice_ = record {
        entry = refl;
        params = refl;
        kids = zip_itself Copies m.kids (more_all (IsNode h) (λ n. Copies n n) m.kids kid_copy left.kids);
        vars = zip_copies Copies m.vars vars chosen.long (λ j v w a b. (chosen_later j v w a b).copy);
      };
      left = made.left;
      right = made.right;
      one_sort = made.one_sort;
    }
