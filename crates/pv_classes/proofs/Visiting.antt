-- A node is visited: what its key finds is joined with it, or it is put under its key.
use Rattle.std.proofs.Common.{◌≡◌, ◌⊎◌, inr, ℕ, ◌<◌, List, length, Some, None, slice_get, refl, sym, ◌∙◌, ap, subst}
use Rattle.std.specs.List.{Contains}
use Rattle.std.proofs.lemmas.Option.{slice_get_within}
use Rattle.pv_graph.specs.declared.node.Node.{Node}
use Rattle.pv_classes.specs.declared.join.Join.{Join}
use Rattle.pv_classes.specs.declared.join.Reason.TheVariants as reason
use Rattle.pv_classes.specs.Partition.{AreOne}
use Rattle.pv_classes.specs.Linked.{Linked}
use Rattle.pv_classes.specs.Closest.{IsOfKids}
use Rattle.pv_classes.specs.Index.{Index, found_in, found_by, key_of, IsEntry, IsIndex, IsTracked, AreJoined, JoinsNodes, Advances, IsOutsideAt, Notes, Inserts}
use Rattle.pv_classes.proofs.Elements.{zip_map}
use Rattle.pv_classes.proofs.Keys.{zip_labels}
use Rattle.pv_classes.proofs.Advancing.{found_entry, found_after, joined_advances, looked_index, looked_advances, looked_first, inserted_tracked, inserted_advances}

module _ (nodes : List Node) (old : Index) (index : IsIndex nodes old) (n : ℕ) (node : Node) (is : slice_get nodes n ≡ Some node) (key : Node) (key_is : key ≡ key_of old.parts.labels node)
    (s : List ℕ) (notes : Notes old.own key n old.by_own s) where
  abbrev noted_index : Index
  noted_index = record old { by_own = s }

  lt : n < length nodes
  lt = slice_get_within nodes n node is

  mid : IsIndex nodes noted_index
  mid = looked_index nodes old index s n lt notes.keeps notes.only

  noted : (found_in old.own (key_of old.parts.labels node) ≡ None) ⊎ Contains s n
  noted = subst (λ (k : Node). (found_in old.own k ≡ None) ⊎ Contains s n) key_is notes.noted

  back : (fixed : List ℕ) (new : Index) (before after : List Join) → Advances nodes fixed noted_index new before after → Advances nodes fixed old new before after
  back fixed new before after h = looked_first nodes old index s n lt notes.keeps notes.only fixed new before after h

  module _ (e : ℕ) (found : found_by old key ≡ Some e) where
    finds : found_by old (key_of old.parts.labels node) ≡ Some e
    finds = ap (found_by old) (sym key_is) ∙ found

    entry : IsEntry nodes old.parts.labels (key_of old.parts.labels node) e
    entry = found_entry nodes old (key_of old.parts.labels node) e index finds

    pub found_below : e < length nodes
    found_below = slice_get_within nodes e _ entry.is

    pub same_tracked : AreOne old.parts.labels e n → IsTracked nodes noted_index n
    same_tracked one = inr (record { node = node; e = e; is = is; finds = finds; one = one; noted = noted })

    pub same_advances : (fixed : List ℕ) (before : List Join) → Advances nodes fixed old noted_index before before
    same_advances fixed before = looked_advances nodes old index s n lt notes.keeps notes.only fixed before before refl

    abbrev the_join : Join
    the_join = record { first = e; second = n; why = reason.Kids }

    module _ (new : Index) (before after : List Join) (joins : JoinsNodes noted_index new before after the_join) where
      pub join_tracked : IsTracked nodes new n
      join_tracked = subst (λ (i : Index). IsTracked nodes i n) (sym joins.rest)
          (found_after nodes noted_index mid new.parts new.waiting the_join joins.moved joins.merges joins.woken n e node is finds noted joins.merges.one)

      pub join_advances : AreJoined old.parts before → (AreOne old.parts.labels e n → ⊥) → (fixed : List ℕ) → IsOutsideAt nodes fixed n → Advances nodes fixed old new before after
      join_advances links apart fixed out =
          back fixed new before after (subst (λ (i : Index). Advances nodes fixed noted_index i before after) (sym joins.rest)
          (joined_advances nodes noted_index mid new.parts new.waiting the_join joins.moved joins.merges joins.woken fixed before after links joins.joins found_below lt of_kids apart))
        where
          in_labels : (k : ℕ) → k < length nodes → k < length old.parts.labels
          in_labels k l = subst (λ (m : ℕ). k < m) (sym index.long) l

          linked : (k l : ℕ) → Contains entry.kids k → Contains node.kids l → AreOne old.parts.labels k l → Linked (length nodes) before k l
          linked k l c d h =
              subst (λ (m : ℕ). Linked m before k l) index.long
              ((links.linked k l (in_labels k (index.kids e k _ entry.is c)) (in_labels l (index.kids n l node is d))).0 h)

          of_kids : IsOfKids nodes fixed before the_join
          of_kids = record {
            why = refl;
            o = node.op;
            ks = entry.kids;
            ls = node.kids;
            first = entry.is;
            second = is;
            outside = out node is;
            kids = zip_map (AreOne old.parts.labels) (Linked (length nodes) before) entry.kids node.kids linked
                (zip_labels (length nodes) old.parts.labels entry.kids node.kids (λ k l. index.parts.own k (in_labels k l)) (λ k c. index.kids n k node is c) entry.one);
          }

  module _ (none : found_by old key ≡ None) (new : Index) (inserts : Inserts noted_index new key n) where
    none' : found_by old (key_of old.parts.labels node) ≡ None
    none' = ap (found_by old) (sym key_is) ∙ none

    inserts' : Inserts noted_index new (key_of old.parts.labels node) n
    inserts' = subst (λ (k : Node). Inserts noted_index new k n) key_is inserts

    pub insert_tracked : IsTracked nodes new n
    insert_tracked = inserted_tracked nodes noted_index new mid n node is none' inserts'

    pub insert_advances : (fixed : List ℕ) (before : List Join) → Advances nodes fixed old new before before
    insert_advances fixed before = back fixed new before before (inserted_advances nodes noted_index new mid n node is none' inserts' fixed before before refl)
