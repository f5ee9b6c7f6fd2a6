-- Tables of witnesses, which stay so as the graph grows.
use Rattle.std.specs.Prelude.{◌≡◌, ◌⊎◌, ℕ, suc, ◌<◌, Bool, true, false, List, [], ◌∷◌, ◌++◌, length, Option, Some, None, slice_get, refl}
use Rattle.std.specs.declared.alloc.Global.{Global}
use Rattle.std.specs.declared.vec.Vec.{Vec}
use Rattle.std.proofs.Common.{inl, inr, sym, ◌∙◌, subst, arith, length-append}
use Rattle.pv_graph.specs.Graphs.{Graph, form_at, IsGraph, Extends}
use Rattle.pv_graph.proofs.Cited.{get_front, get_last, push_cases}
use Rattle.pv_heights.specs.Sides.{Match}
use Rattle.pv_instances.specs.Made.{GrowsBy}
use Rattle.pv_instances.proofs.Cited.{extends_both, nothing_new, grows_both}
use Rattle.pv_witness.specs.declared.condition.Condition.{Condition}
use Rattle.pv_witness.specs.declared.condition.Condition.TheVariants as condition
use Rattle.pv_witness.specs.Numbered.{AreNumbered, numbered}
use Rattle.pv_witness.specs.Conditions.{AreStartsOver}
use Rattle.pv_witness.specs.Witnesses.{IsCopied, AreWitnesses}
use Rattle.pv_witness.proofs.Cited.{numbered_long, numbered_extends, numbered_graph, longer, copy_kept, witness_kept, has_kept}
use Rattle.pv_rounds.specs.declared.tables.AllWitnesses.{AllWitnesses}
use Rattle.pv_rounds.specs.Asking.{SomeSettled, SomeNotFree}
use Rattle.pv_rounds.specs.Tables.{IsTable, IsComplete, MakesTable, rows_of, MakesRows, MakesNotFree, not_free_at, AreTables, MakesTables}

pub empty_table : (h g : Graph) (numbers assumed : List ℕ) (k : Condition) → IsTable h g numbers assumed k []
empty_table h g numbers assumed k = record { each = λ c w e. absurd (cc); hold = λ c w e. absurd (cc) }

pub table_kept : (h mid new : Graph) (numbers assumed : List ℕ) (k : Condition) (table : List (Option ℕ)) → Extends mid new → IsGraph mid → IsTable h mid numbers assumed k table → IsTable h new numbers assumed k table
table_kept h mid new numbers assumed k table e is t = record {
  each = λ c w s. witness_kept h mid new numbers c w e is (t.each c w s);
  hold = λ c w s. has_kept mid new is e assumed k w (t.each c w s).there (t.hold c w s);
}

pub copied_kept : (h mid new : Graph) (numbers : List ℕ) → Extends mid new → (n : ℕ) → IsCopied h mid numbers n → IsCopied h new numbers n
copied_kept h mid new numbers e n c = (c.0, copy_kept h mid new numbers e (longer mid new e) n c.0 c.1)

pub copies_both : (h old mid new : Graph) (numbers : List ℕ) → GrowsBy old mid (IsCopied h mid numbers) → GrowsBy mid new (IsCopied h new numbers) → GrowsBy old new (IsCopied h new numbers)
copies_both h old mid new numbers a b = grows_both old mid new (IsCopied h mid numbers) (IsCopied h new numbers) (IsCopied h new numbers) a b (copied_kept h mid new numbers b.extends_) (λ n c. c)

-- ---- one table

pub not_asked : (h g : Graph) (numbers assumed : List ℕ) (k : Condition) (is_asked : Bool) → is_asked ≡ false → MakesTable h g g numbers assumed k is_asked []
not_asked h g numbers assumed k is_asked off = record {
  grows = nothing_new g (IsCopied h g numbers);
  distinct = λ d. d;
  is = empty_table h g numbers assumed k;
  all = λ yes. absurd (let z = sym off ∙ yes in cc);
}

module _ (old new : Graph) (numbers assumed : List ℕ) (k : Condition) (starts : List Bool) (table : List (Option ℕ)) (is : IsGraph old) (sealed : old.is_open ≡ false) (are : AreNumbered old numbers)
    (marked : AreStartsOver old numbers assumed k starts) (w : AreWitnesses (numbered old numbers) old new numbers k starts table) where
  abbrev h : Graph
  h = numbered old numbers

  complete : IsComplete h numbers assumed k table
  complete least graph e low n holds = w.all (form_at least.nodes) assumed (marked least graph (extends_both least h old e (numbered_extends old numbers)) low) n holds

  pub made_table : (is_asked : Bool) → MakesTable h old new numbers assumed k is_asked table
  made_table is_asked = record {
    grows = w.grows;
    distinct = w.distinct;
    is = record {
      each = w.each;
      hold = λ c n e. w.hold (form_at h.nodes) assumed (marked h (numbered_graph old numbers is sealed are) (numbered_extends old numbers) (let z = numbered_long old numbers are in omega (arith, z))) c n e;
    };
    all = λ yes. complete;
  }

-- ---- a table for each of the first depths

rows_is : (P : List (Option ℕ) → Type 0) (o : Option (Vec (Option ℕ) Global)) → (o ≡ None → P []) → ((u : Vec (Option ℕ) Global) → o ≡ Some u → P u.items) → P (rows_of o)
rows_is P None f g = f refl
rows_is P (Some u) f g = g u refl

pub no_rows : (h g : Graph) (numbers assumed : List ℕ) (ms : List (Match ℕ)) → MakesRows h g g numbers assumed ms []
no_rows h g numbers assumed ms = record {
  grows = nothing_new g (IsCopied h g numbers);
  distinct = λ d. d;
  is = λ d. empty_table h g numbers assumed (condition.NotFree d);
  all = λ d lt. absurd (omega arith);
}

module _ (h old mid new : Graph) (numbers assumed : List ℕ) (ms : List (Match ℕ)) (tables : List (Vec (Option ℕ) Global)) (v : Vec (Option ℕ) Global) (is_asked : Bool) (is_graph : IsGraph mid)
    (rows : MakesRows h old mid numbers assumed ms tables) (asked : SomeNotFree ms (length tables) → is_asked ≡ true) (made : MakesTable h mid new numbers assumed (condition.NotFree (length tables)) is_asked v.items) where
  abbrev more : List (Vec (Option ℕ) Global)
  more = tables ++ v ∷ []

  each : (d : ℕ) → IsTable h new numbers assumed (condition.NotFree d) (rows_of (slice_get more d))
  each d = rows_is (IsTable h new numbers assumed (condition.NotFree d)) (slice_get more d) (λ e. empty_table h new numbers assumed (condition.NotFree d)) (λ u e. at_ u (push_cases tables v u d e))
    where
      at_ : (u : Vec (Option ℕ) Global) → (slice_get tables d ≡ Some u) ⊎ ((d ≡ length tables) × (v ≡ u)) → IsTable h new numbers assumed (condition.NotFree d) u.items
      at_ u (inl e) = table_kept h mid new numbers assumed (condition.NotFree d) u.items made.grows.extends_ is_graph (subst (λ (o : Option (Vec (Option ℕ) Global)). IsTable h mid numbers assumed (condition.NotFree d) (rows_of o)) e (rows.is d))
      at_ u (inr (e, f)) = subst (λ (x : Vec (Option ℕ) Global). IsTable h new numbers assumed (condition.NotFree d) x.items) f (subst (λ (n : ℕ). IsTable h new numbers assumed (condition.NotFree n) v.items) (sym e) made.is)

  low_or_last : (d n : ℕ) → d < suc n → (d < n) ⊎ (d ≡ n)
  low_or_last d n lt = grind arith

  complete_at : (d : ℕ) → (d < length tables) ⊎ (d ≡ length tables) → SomeNotFree ms d → IsComplete h numbers assumed (condition.NotFree d) (rows_of (slice_get more d))
  complete_at d (inl lt) s = subst (λ (o : Option (Vec (Option ℕ) Global)). IsComplete h numbers assumed (condition.NotFree d) (rows_of o)) (sym (get_front tables v d lt)) (rows.all d lt s)
  complete_at d (inr e) s =
      let yes : SomeNotFree ms (length tables) = subst (SomeNotFree ms) e s in
      subst (λ (n : ℕ). IsComplete h numbers assumed (condition.NotFree n) (rows_of (slice_get more n))) (sym e)
      (subst (λ (o : Option (Vec (Option ℕ) Global)). IsComplete h numbers assumed (condition.NotFree (length tables)) (rows_of o)) (sym (get_last tables v)) (made.all (asked yes)))

  pub rows_more : MakesRows h old new numbers assumed ms more
  rows_more = record {
    grows = copies_both h old mid new numbers rows.grows made.grows;
    distinct = λ d. made.distinct (rows.distinct d);
    is = each;
    all = λ d lt. complete_at d (low_or_last d (length tables) (let z = length-append tables (v ∷ []) in omega (arith, z, lt)));
  }

-- ---- the tables for some matches

-- tables that some matches ask for are those of each of them
module _ (h old mid new : Graph) (numbers assumed : List ℕ) (ms : List (Match ℕ)) (w : AllWitnesses) (is_asked : Bool) (is_graph : IsGraph mid) (asked : SomeSettled ms → is_asked ≡ true)
    (first : MakesTable h old mid numbers assumed condition.Settled is_asked w.settled.items) (rest : MakesNotFree h mid new numbers assumed ms w.not_free.items) where
  pub makes_tables : MakesTables h old new numbers assumed ms w
  makes_tables = record {
    grows = copies_both h old mid new numbers first.grows rest.rows.grows;
    distinct = λ d. rest.rows.distinct (first.distinct d);
    are = record {
      settled = table_kept h mid new numbers assumed condition.Settled w.settled.items rest.rows.grows.extends_ is_graph first.is;
      not_free = rest.rows.is;
      all_settled = λ s. first.all (asked s);
      all_not_free = λ d s. rest.rows.all d (rest.enough d s) s;
    };
  }

-- the tables stay as the graph grows
pub tables_kept : (h mid new : Graph) (numbers assumed : List ℕ) (ms : List (Match ℕ)) (w : AllWitnesses) → Extends mid new → IsGraph mid → AreTables h mid numbers assumed ms w → AreTables h new numbers assumed ms w
tables_kept h mid new numbers assumed ms w e is t = record {
  settled = table_kept h mid new numbers assumed condition.Settled w.settled.items e is t.settled;
  not_free = λ d. table_kept h mid new numbers assumed (condition.NotFree d) (not_free_at w d) e is (t.not_free d);
  all_settled = t.all_settled;
  all_not_free = t.all_not_free;
}
