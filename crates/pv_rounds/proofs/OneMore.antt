-- The instance of one match, over the witnesses that its round has.
use Rattle.std.specs.Prelude.{◌≡◌, ◌⊎◌, ℕ, List, [], ◌∷◌, ◌++◌, Option, Some, slice_get, refl}
use Rattle.std.specs.List.{AllZip}
use Rattle.std.proofs.Common.{inl, inr, sym, subst}
use Rattle.pv_graph.specs.Walks.{In}
use Rattle.pv_graph.specs.Graphs.{Graph, form_at, IsGraph, Extends}
use Rattle.pv_axioms.specs.Entries.{axioms, Instance}
use Rattle.pv_heights.specs.Sides.{Match}
use Rattle.pv_heights.specs.Rounds.{ClassCopy, IsInstanceOf}
use Rattle.pv_heights.specs.Searches.{nodes, IsNode, OneClass, IsMatchAt}
use Rattle.pv_heights.proofs.Height.{copy_in, end_in}
use Rattle.pv_instances.specs.Made.{IsPartOfInstance}
use Rattle.pv_instances.proofs.Growing.{node_kept}
use Rattle.pv_saturate.specs.declared.choice.Witnesses.{Witnesses}
use Rattle.pv_saturate.specs.Choice.{HasWitness}
use Rattle.pv_saturate.specs.Added.{over, AddedMatch}
use Rattle.pv_saturate.specs.Tables.{HaveWitnesses, WitnessesHold}
use Rattle.pv_saturate.proofs.Cited.{certified}
use Rattle.pv_rounds.specs.declared.owed.Owed.{Owed}
use Rattle.pv_rounds.specs.declared.tables.AllWitnesses.{AllWitnesses}
use Rattle.pv_rounds.specs.Tables.{not_free_at, AreTables}
use Rattle.pv_rounds.specs.Owed.{CanAdd, IsOfMatch, AddsOne}
use Rattle.pv_rounds.proofs.Witnessing.{tables_kept}

-- the tables of a round, as those of one match
module _ (w : AllWitnesses) (m : Match ℕ) (t : Witnesses) (first : t.settled.now ≡ w.settled.items) (second : t.not_free.now ≡ not_free_at w m.params.depth) where
  abbrev Entry : List (Option ℕ) → ℕ → ℕ → Type 0
  Entry table c n = slice_get table c ≡ Some (Some n)

  pub have_witnesses : (h g : Graph) (numbers assumed : List ℕ) (ms : List (Match ℕ)) (can : CanAdd h g numbers assumed ms m w) → HaveWitnesses (form_at can.matches.least.nodes) assumed h g numbers m t
  have_witnesses h g numbers assumed ms can =
      let is = can.matches in
      record {
        of_settled = λ c n e. can.tables.settled.each c n (subst (λ (table : List (Option ℕ)). Entry table c n) first e);
        of_not_free = λ c n e. (can.tables.not_free m.params.depth).each c n (subst (λ (table : List (Option ℕ)). Entry table c n) second e);
        settled_ = λ j n i holds. subst (λ (table : List (Option ℕ)). HasWitness numbers table n) (sym first) (can.tables.all_settled (m, can.is, (j, i)) is.least is.graph is.extends_ is.few n holds);
        not_free_ = λ j n i holds. subst (λ (table : List (Option ℕ)). HasWitness numbers table n) (sym second)
            (can.tables.all_not_free m.params.depth (m, can.is, ((j, i), refl)) is.least is.graph is.extends_ is.few n holds);
      }

  hold : (h g : Graph) (numbers assumed : List ℕ) (ms : List (Match ℕ)) → AreTables h g numbers assumed ms w → WitnessesHold g assumed m t
  hold h g numbers assumed ms are = record {
    settled_ = λ j c n i e. are.settled.hold c n (subst (λ (table : List (Option ℕ)). Entry table c n) first e);
    not_free_ = λ j c n i e. (are.not_free m.params.depth).hold c n (subst (λ (table : List (Option ℕ)). Entry table c n) second e);
  }

  module _ (h old new : Graph) (numbers assumed : List ℕ) (ms : List (Match ℕ)) (can : CanAdd h old numbers assumed ms m w) (is_graph : IsGraph old) (vars : List ℕ) (l r : ℕ) (added : AddedMatch h old new numbers m t vars l r) (grown : Extends h new) where
    is_match : IsMatchAt (form_at can.matches.least.nodes) assumed axioms h numbers m
    is_match = can.matches.each m can.is

    kept : (n : ℕ) → IsNode h n → IsNode new n
    kept n lt = node_kept h new grown n lt

    zip_there : (vs ws : List ℕ) → AllZip (ClassCopy (nodes new) (IsNode h) (OneClass numbers) (IsNode new)) vs ws → (n : ℕ) → In ws n → IsNode new n
    zip_there [] [] z n i = absurd i
    zip_there [] (w ∷ ws) z n i = absurd z
    zip_there (v ∷ vs) [] z n i = absurd z
    zip_there (v ∷ vs) (w ∷ ws) z n (inl e) = subst (IsNode new) e (copy_in (nodes new) (IsNode h) (OneClass numbers) (IsNode new) kept w z.0.thing z.0.copy)
    zip_there (v ∷ vs) (w ∷ ws) z n (inr i) = zip_there vs ws z.1 n i

    split : (xs ys : List ℕ) (n : ℕ) → In (xs ++ ys) n → In xs n ⊎ In ys n
    split [] ys n i = inr i
    split (x ∷ xs) ys n (inl e) = inl (inl e)
    split (x ∷ xs) ys n (inr i) = elim (split xs ys n i) [ inl p ↦ inl (inr p) | inr q ↦ inr q ]

    within : (n : ℕ) → In (m.kids ++ vars) n → IsNode new n
    within n i = elim (split m.kids vars n i) [
      | inl k ↦ zip_there m.kids m.kids added.choice_.kids n k
      | inr v ↦ zip_there m.vars vars added.choice_.vars n v
    ]

    part : (n : ℕ) → IsPartOfInstance new (over m vars) n → IsOfMatch h new numbers m n
    part n p = record { chosen = over m vars; is_chosen = added.choice_; whole = p.whole; is_whole = p.is_whole; inner = p.part_.inner; is_inner = p.part_.is_inner; is = p.part_.is }

    pub one_added : (o : Owed) → o.axiom ≡ m.entry.number → o.subst.items ≡ m.kids ++ vars → o.left ≡ l → o.right ≡ r → AddsOne h old new numbers assumed m o
    one_added o e f u v = record {
      grows = record { extends_ = added.grows.extends_; sealed = added.grows.sealed; base = added.grows.base; news = λ n low high. part n (added.grows.news n low high) };
      distinct = added.distinct;
      is = record {
        instance_ = subst (λ (a : ℕ). IsInstanceOf (nodes new) (IsNode h) (OneClass numbers) (IsNode new) m a o.right) (sym u)
            (subst (λ (b : ℕ). IsInstanceOf (nodes new) (IsNode h) (OneClass numbers) (IsNode new) m l b) (sym v) (record { chosen = over m vars; is_chosen = added.choice_; left = added.left; right = added.right }));
        sides = subst (λ (n : ℕ). Instance new assumed n o.subst.items o.left o.right) (sym e)
            (subst (λ (ns : List ℕ). Instance new assumed m.entry.number ns o.left o.right) (sym f)
            (subst (λ (a : ℕ). Instance new assumed m.entry.number (m.kids ++ vars) a o.right) (sym u)
            (subst (λ (b : ℕ). Instance new assumed m.entry.number (m.kids ++ vars) l b) (sym v)
            (certified (form_at can.matches.least.nodes) assumed assumed h old new numbers m t vars l r can.distinct is_match (hold h new numbers assumed ms (tables_kept h old new numbers assumed ms w added.grows.extends_ is_graph can.tables)) added))));
        within = λ k i. within k (subst (λ (ns : List ℕ). In ns k) f i);
        one_sort = subst (λ (a : ℕ). slice_get new.sorts a ≡ slice_get new.sorts o.right) (sym u) (subst (λ (b : ℕ). slice_get new.sorts l ≡ slice_get new.sorts b) (sym v) added.one_sort);
        left = subst (IsNode new) (sym u) (end_in (nodes new) (IsNode h) (OneClass numbers) (IsNode new) kept m (over m vars) added.choice_ m.entry.left l (inr added.left));
        right = subst (IsNode new) (sym v) (end_in (nodes new) (IsNode h) (OneClass numbers) (IsNode new) kept m (over m vars) added.choice_ m.entry.right r (inr added.right));
      };
    }
