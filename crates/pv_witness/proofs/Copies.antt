-- Copies of nodes in a graph that grows, and what holds of them.
use Rattle.std.specs.Prelude.{◌≡◌, ◌≢◌, ◌⊎◌, ℕ, zero, suc, ◌<◌, ◌≤◌, Bool, true, false, List, [], ◌∷◌, ◌++◌, length, Option, Some, slice_get, ◌==◌, if◌then◌else◌, refl}
use Rattle.std.specs.List.{AllZip}
use Rattle.std.proofs.Common.{inl, inr, sym, ap, ◌∙◌, subst, arith}
use Rattle.std.proofs.lemmas.Option.{slice_get_within, slice_get-get_or, same_Some}
use Rattle.pv_graph.specs.declared.node.Op.{Op}
use Rattle.pv_graph.specs.declared.node.OpSort.{OpSort}
use Rattle.pv_graph.specs.Forms.{Form, form}
use Rattle.pv_graph.specs.Ops.{Shape, plain, choice, theta, eval, pass, shift, root, shape, may_not_end, HaveSorts}
use Rattle.pv_graph.specs.Walks.{In, open_kids, Free, here, below, Reaches, itself, along, IsSettled}
use Rattle.pv_graph.specs.Graphs.{Graph, form_at, IsGraph, Extends}
use Rattle.pv_graph.proofs.Cited.{found, form_there, node_at, kid_within, bind_some, sort_there}
use Rattle.pv_steps.proofs.Growing.{form_back, free_back}
use Rattle.pv_witness.specs.declared.condition.Condition.{Condition}
use Rattle.pv_witness.specs.declared.condition.Condition.TheVariants as condition
use Rattle.pv_marks.specs.Classes.{class_of}
use Rattle.pv_witness.specs.Conditions.{HoldsOfNode}
use Rattle.pv_heights.specs.Rounds.{Copy}
use Rattle.pv_heights.specs.Rounds as copy
use Rattle.pv_heights.specs.Searches.{OneClass}
use Rattle.pv_witness.specs.Supports.{HandsOn, counted}
use Rattle.pv_instances.specs.Classes.{JoinedHaveOneSort}
use Rattle.pv_witness.specs.Witnesses.{IsCopy, IsWitness}
use Rattle.pv_witness.specs.Table.{IsChosen, AreChosen}

-- ---- a graph that grows

module _ (old new : Graph) (is : IsGraph old) (e : Extends old new) where
  pub form_kept : (n : ℕ) (f : Form ℕ) → form_at old.nodes n ≡ Some f → form_at new.nodes n ≡ Some f
  form_kept n f at_ = let x = bind_some (slice_get old.nodes n) _ f at_ in form_there new.nodes n x.0 (e.nodes n x.0 x.1) ∙ x.2

  kid_low : (n k : ℕ) (o : Op) (ks : List ℕ) → n < length old.nodes → form_at new.nodes n ≡ Some (form o ks) → In ks k → k < length old.nodes
  kid_low n k o ks lt at_ i =
      let x = node_at old.nodes n o ks (form_back old new e n o ks lt at_) in
      kid_within old is n k x.0 x.1 (subst (λ (zs : List ℕ). In zs k) (sym x.3) i)

  reaches_back : (assumed : List ℕ) (n m : ℕ) → n < length old.nodes → Reaches (form_at new.nodes) assumed n m → Reaches (form_at old.nodes) assumed n m × (m < length old.nodes)
  reaches_back assumed n m lt (itself _) = (itself n, lt)
  reaches_back assumed n m lt (along _ k _ o ks no_end at_ i r) =
      let rest = reaches_back assumed k m (kid_low n k o ks lt at_ i) r in
      (along n k m o ks no_end (form_back old new e n o ks lt at_) i rest.0, rest.1)

  pub has_kept : (assumed : List ℕ) (t : Condition) (n : ℕ) → n < length old.nodes → HoldsOfNode old assumed t n → HoldsOfNode new assumed t n
  has_kept assumed condition.Settled n lt h = λ m o ks r no_end at_. (let b = reaches_back assumed n m lt r in h m o ks b.0 no_end (form_back old new e m o ks b.1 at_))
  has_kept assumed (condition.NotFree d) n lt h = λ f. h (free_back old new is e d n lt f)

settled_has : (g : Graph) (assumed : List ℕ) (n : ℕ) (o : Op) (ws : List ℕ) → form_at g.nodes n ≡ Some (form o ws) → may_not_end o ≡ false → ((w : ℕ) → In ws w → IsSettled (form_at g.nodes) assumed w)
    → (m : ℕ) (p : Op) (ks : List ℕ) → (In assumed m → ⊥) → form_at g.nodes m ≡ Some (form p ks) → Reaches (form_at g.nodes) assumed n m → may_not_end p ≡ false
settled_has g assumed n o ws at_ passes each m p ks no_end there (itself _) = let e : Some (form p ks) ≡ Some (form o ws) = sym there ∙ at_ in let same : p ≡ o = cc in ap may_not_end same ∙ passes
settled_has g assumed n o ws at_ passes each m p ks no_end there (along _ k _ q ls never is i rest) =
    let e : Some (form q ls) ≡ Some (form o ws) = sym is ∙ at_ in
    let same : ls ≡ ws = cc in
    each k (subst (λ (zs : List ℕ). In zs k) same i) m p ks rest no_end there

free_has : (g : Graph) (assumed : List ℕ) (d n : ℕ) (o : Op) (ws : List ℕ) → form_at g.nodes n ≡ Some (form o ws) → shape o ≢ theta d → ((w : ℕ) → In (open_kids d (shape o) ws) w → Free (form_at g.nodes) d w → ⊥) → Free (form_at g.nodes) d n → ⊥
free_has g assumed d n o ws at_ passes each (here _ p ks is s) = let e : Some (form p ks) ≡ Some (form o ws) = sym is ∙ at_ in let same : p ≡ o = cc in passes (ap shape (sym same) ∙ s)
free_has g assumed d n o ws at_ passes each (below _ k p ks is i rest) =
    let e : Some (form p ks) ≡ Some (form o ws) = sym is ∙ at_ in
    let one : p ≡ o = cc in
    let two : ks ≡ ws = cc in
    each k (subst (λ (q : Op). In (open_kids d (shape q) ws) k) one (subst (λ (zs : List ℕ). In (open_kids d (shape p) zs) k) two i)) rest

-- a node has the trait where its operation has it and the kids that count do
pub node_has : (g : Graph) (assumed : List ℕ) (t : Condition) (n : ℕ) (o : Op) (ws : List ℕ) → form_at g.nodes n ≡ Some (form o ws) → HandsOn t o → ((w : ℕ) → In (counted t o ws) w → HoldsOfNode g assumed t w) → HoldsOfNode g assumed t n
node_has g assumed condition.Settled n o ws at_ passes each = λ m p ks r no_end there. settled_has g assumed n o ws at_ passes each m p ks no_end there r
node_has g assumed (condition.NotFree d) n o ws at_ passes each = λ f. free_has g assumed d n o ws at_ passes each f

-- ---- copies

module _ (g mid new : Graph) (numbers : List ℕ) (e : Extends mid new) (longer : length mid.nodes ≤ length new.nodes) where
  pub copy_kept : (w u : ℕ) → IsCopy g mid numbers w u → IsCopy g new numbers w u
  copy_kept w u (copy.itself _ _ there same) = copy.itself w u there same
  copy_kept w u (copy.again _ _ o ks ls ms later at_ there of_ long each zip) =
      copy.again w u o ks ls ms (omega (arith, later, longer)) (kept w (form o ks) at_) there (kept u (form o ls) of_) long (λ j k m p q. copy_kept k m (each j k m p q)) zip
    where
      kept : (n : ℕ) (f : Form ℕ) → form_at mid.nodes n ≡ Some f → form_at new.nodes n ≡ Some f
      kept n f at_ = let x = bind_some (slice_get mid.nodes n) _ f at_ in form_there new.nodes n x.0 (e.nodes n x.0 x.1) ∙ x.2

pub longer : (g h : Graph) → Extends g h → length g.nodes ≤ length h.nodes
longer g h e = elim (low_or_high (length g.nodes) (length h.nodes)) [
  | inl le ↦ le
  | inr lt ↦ absurd (let x = found g.nodes (length h.nodes) lt in let y = slice_get_within h.nodes (length h.nodes) x.0 (e.nodes (length h.nodes) x.0 x.1) in omega arith)
]
  where
    low_or_high : (n m : ℕ) → (n ≤ m) ⊎ (m < n)
    low_or_high n m = grind arith

pub witness_kept : (g mid new : Graph) (numbers : List ℕ) (c w : ℕ) → Extends mid new → IsGraph mid → IsWitness g mid numbers c w → IsWitness g new numbers c w
witness_kept g mid new numbers c w e is h = record {
  there = (let z = longer mid new e in let y = h.there in omega (arith, z, y));
  of_ = h.of_;
  is_node = h.is_node;
  class = h.class;
  copy = copy_kept g mid new numbers e (longer mid new e) w h.of_ h.copy;
  sort_ = (let s = sort_there mid is w h.there in e.sorts w s.0 s.1 ∙ sym s.1 ∙ h.sort_);
}

-- ---- kids that are chosen

pub one_class : (numbers : List ℕ) (a b : ℕ) → a < length numbers → b < length numbers → class_of numbers a ≡ class_of numbers b → OneClass numbers a b
one_class numbers a b la lb e = (class_of numbers b, slice_get-get_or numbers a 0 la ∙ ap Some e, slice_get-get_or numbers b 0 lb)

chosen_in : (numbers : List ℕ) (table : List (Option ℕ)) (ks ws : List ℕ) (w : ℕ) → AreChosen numbers table ks ws → In ws w → (k : ℕ) × In ks k × IsChosen numbers table k w
chosen_in numbers table [] [] w z i = absurd i
chosen_in numbers table [] (x ∷ ws) w z i = absurd z
chosen_in numbers table (k ∷ ks) [] w z i = absurd z
chosen_in numbers table (k ∷ ks) (x ∷ ws) w z (inl e) = (k, inl refl, subst (IsChosen numbers table k) e z.0)
chosen_in numbers table (k ∷ ks) (x ∷ ws) w z (inr i) = let r = chosen_in numbers table ks ws w z.1 i in (r.0, inr r.1, r.2)

open_chosen : (numbers : List ℕ) (table : List (Option ℕ)) (d : ℕ) (s : Shape) (ks ws : List ℕ) (w : ℕ) → AreChosen numbers table ks ws → In (open_kids d s ws) w → (k : ℕ) × In (open_kids d s ks) k × IsChosen numbers table k w
open_chosen numbers table d plain ks ws w z i = chosen_in numbers table ks ws w z i
open_chosen numbers table d choice ks ws w z i = chosen_in numbers table ks ws w z i
open_chosen numbers table d (theta f) ks ws w z i = chosen_in numbers table ks ws w z i
open_chosen numbers table d (eval f) [] [] w z i = absurd i
open_chosen numbers table d (eval f) [] (x ∷ ws) w z i = absurd z
open_chosen numbers table d (eval f) (k ∷ ks) [] w z i = absurd z
open_chosen numbers table d (eval f) (k ∷ ks) (x ∷ ws) w z i = go (f == d) i
  where
    go : (b : Bool) → In (if b then ws else x ∷ ws) w → (j : ℕ) × In (if b then ks else k ∷ ks) j × IsChosen numbers table j w
    go true i = chosen_in numbers table ks ws w z.1 i
    go false i = chosen_in numbers table (k ∷ ks) (x ∷ ws) w z i
open_chosen numbers table d (pass f) ks ws w z i = go (f == d) i
  where
    go : (b : Bool) → In (if b then [] else ws) w → (j : ℕ) × In (if b then [] else ks) j × IsChosen numbers table j w
    go true i = absurd i
    go false i = chosen_in numbers table ks ws w z i
open_chosen numbers table d (shift f) ks ws w z i = chosen_in numbers table ks ws w z i
open_chosen numbers table d root ks ws w z i = chosen_in numbers table ks ws w z i

pub counted_chosen : (numbers : List ℕ) (table : List (Option ℕ)) (t : Condition) (o : Op) (ks ws : List ℕ) (w : ℕ) → AreChosen numbers table ks ws → In (counted t o ws) w → (k : ℕ) × In (counted t o ks) k × IsChosen numbers table k w
counted_chosen numbers table condition.Settled o ks ws w z i = chosen_in numbers table ks ws w z i
counted_chosen numbers table (condition.NotFree d) o ks ws w z i = open_chosen numbers table d (shape o) ks ws w z i

module _ (g mid : Graph) (numbers : List ℕ) (table : List (Option ℕ)) (e : Extends g mid) (long : length numbers ≡ length g.nodes) (one : JoinedHaveOneSort g (OneClass numbers))
    (each : (c w : ℕ) → slice_get table c ≡ Some (Some w) → IsWitness g mid numbers c w) where
  -- what is chosen for a kid has its sort
  chosen_sort : (k w : ℕ) (s : OpSort) → k < length g.nodes → IsChosen numbers table k w → slice_get g.sorts k ≡ Some s → slice_get mid.sorts w ≡ Some s
  chosen_sort k w s lt (inl h) at_ =
      let x = each (class_of numbers k) w h in
      let same = one_class numbers x.of_ k (let y = x.is_node in omega (arith, y, long)) (omega (arith, lt, long)) x.class in
      x.sort_ ∙ one x.of_ k same ∙ at_
  chosen_sort k w s lt (inr h) at_ = ap (slice_get mid.sorts) h.1 ∙ e.sorts k s at_

  pub chosen_sorts : (ks ws : List ℕ) (ss : List OpSort) → ((k : ℕ) → In ks k → k < length g.nodes) → AreChosen numbers table ks ws → HaveSorts g.sorts ks ss → HaveSorts mid.sorts ws ss
  chosen_sorts [] [] [] low z have = tt
  chosen_sorts [] [] (s ∷ ss) low z have = absurd have
  chosen_sorts [] (w ∷ ws) ss low z have = absurd z
  chosen_sorts (k ∷ ks) [] ss low z have = absurd z
  chosen_sorts (k ∷ ks) (w ∷ ws) [] low z have = absurd have
  chosen_sorts (k ∷ ks) (w ∷ ws) (s ∷ ss) low z have = (chosen_sort k w s (low k (inl refl)) z.0 have.0, chosen_sorts ks ws ss (λ j i. low j (inr i)) z.1 have.1)

  -- .. and is a copy of a node of its class
  pub record Copied (ks ws : List ℕ) : Type 0 where
    pub of_ : List ℕ
    pub long_ : length ws ≡ length of_
    pub copies : (j w u : ℕ) → slice_get ws j ≡ Some w → slice_get of_ j ≡ Some u → IsCopy g mid numbers w u
    pub classes : AllZip (OneClass numbers) of_ ks

  chosen_copy : (k w : ℕ) → k < length g.nodes → IsChosen numbers table k w → (u : ℕ) × IsCopy g mid numbers w u × OneClass numbers u k
  chosen_copy k w lt (inl h) =
      let x = each (class_of numbers k) w h in
      (x.of_, x.copy, one_class numbers x.of_ k (let y = x.is_node in omega (arith, y, long)) (omega (arith, lt, long)) x.class)
  chosen_copy k w lt (inr h) = (k, copy.itself w k lt h.1, one_class numbers k k (omega (arith, lt, long)) (omega (arith, lt, long)) refl)

  pub chosen_copies : (ks ws : List ℕ) → ((k : ℕ) → In ks k → k < length g.nodes) → AreChosen numbers table ks ws → Copied ks ws
  chosen_copies [] [] low z = record { of_ = []; long_ = refl; copies = λ j w u a b. absurd (cc); classes = tt }
  chosen_copies [] (w ∷ ws) low z = absurd z
  chosen_copies (k ∷ ks) [] low z = absurd z
  chosen_copies (k ∷ ks) (w ∷ ws) low z =
      let first = chosen_copy k w (low k (inl refl)) z.0 in
      let rest = chosen_copies ks ws (λ j i. low j (inr i)) z.1 in
      record { of_ = first.0 ∷ rest.of_; long_ = ap suc rest.long_; copies = λ j v u a b. at_place j v u first rest a b; classes = (first.2, rest.classes) }
    where
      at_place : (j v u : ℕ) (first : (u : ℕ) × IsCopy g mid numbers w u × OneClass numbers u k) (rest : Copied ks ws) → slice_get (w ∷ ws) j ≡ Some v → slice_get (first.0 ∷ rest.of_) j ≡ Some u → IsCopy g mid numbers v u
      at_place zero v u first rest a b = subst (λ (x : ℕ). IsCopy g mid numbers x u) (same_Some w v a) (subst (IsCopy g mid numbers w) (same_Some first.0 u b) first.1)
      at_place (suc j) v u first rest a b = rest.copies j v u a b

pub chosen_more : (numbers : List ℕ) (table : List (Option ℕ)) (ks ws : List ℕ) (k w : ℕ) → AreChosen numbers table ks ws → IsChosen numbers table k w → AreChosen numbers table (ks ++ k ∷ []) (ws ++ w ∷ [])
chosen_more numbers table [] [] k w z c = (c, tt)
chosen_more numbers table [] (v ∷ ws) k w z c = absurd z
chosen_more numbers table (j ∷ ks) [] k w z c = absurd z
chosen_more numbers table (j ∷ ks) (v ∷ ws) k w z c = (z.0, chosen_more numbers table ks ws k w z.1 c)
