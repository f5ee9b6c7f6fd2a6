-- Uses of accepted lemmas are sound.
use Rattle.std.specs.Prelude.{◌≡◌, ◌⊎◌, ℕ, suc, ◌<◌, Bool, true, false, List, [], ◌∷◌, length, map, reverse, Some, slice_get, ◌==◌}
use Rattle.std.proofs.Common.{inl, inr, sym, ap, ◌∙◌, subst, arith}
use Rattle.std.proofs.lemmas.List.{length-map}
use Rattle.std.proofs.lemmas.Option.{slice_get_within}
use Rattle.pv_value.specs.declared.world.World.{World}
use Rattle.pv_value.specs.declared.outcome.Input.{Input}
use Rattle.pv_value.specs.Worlds.{IsWorld}
use Rattle.pv_value.specs.Inputs.{IsInput}
use Rattle.pv_graph.specs.Walks.{In, IsSettled}
use Rattle.pv_graph.specs.Graphs.{Graph, form_at, IsGraph, IsWellMade}
use Rattle.pv_graph.proofs.Cited.{found, node_at}
use Rattle.pv_denote.specs.Denote.{Index, SameAt}
use Rattle.pv_steps.specs.declared.step.Lemma.{Lemma}
use Rattle.pv_steps.specs.declared.step.Var.{Var}
use Rattle.pv_steps.specs.Right.{Rule, by_axiom, by_lemma}
use Rattle.pv_steps.specs.Accepted.{LastStates}
use Rattle.pv_steps.specs.Facts.{HaveValues}
use Rattle.pv_steps.proofs.Growing.{form_more}
use Rattle.pv_axioms.proofs.Cited.{sound}
use Rattle.pv_lemmas.specs.Lemmas.{settled_from, IsOutsideBlocks, IsAccepted, IsUnder, variable, operation, IsUse, Uses, ByLemmas}
use Rattle.pv_lemmas.specs.Laws.{Sound}
use Rattle.pv_lemmas.proofs.Lists.{get_mapped, zip_from, zip_length, zip_places, all_reverse}
use Rattle.pv_lemmas.proofs.Variables.{settled_low}
use Rattle.pv_lemmas.proofs.Expanding.{AreOfSorts, Expansion, node_for, node_for_at}
use Rattle.pv_lemmas.proofs.Same.{AreSame, same_self, same_flip, same_chain, over_same, same_less}
use Rattle.pv_lemmas.proofs.Shown.{AreSoundUses, Setting, Outer, all_shown}

-- ---- the nodes under the nodes of a use

-- the node for a variable is there
node_low : (g : Graph) → IsGraph g → (vs : List Var) (nodes : List ℕ) → AreOfSorts g nodes vs → (j n : ℕ) → slice_get nodes j ≡ Some n → n < length g.nodes
node_low g is vs nodes sorts j n at =
    let x = zip_from (λ k t. slice_get g.sorts k ≡ Some t) nodes (map (λ (v : Var). v.sort) vs) j n sorts at in
    let z = slice_get_within g.sorts n x.0 x.1 in
    let l = is.long in
    omega (arith, z, l)

-- a node under those of a use is there
under_low : (g : Graph) → IsGraph g → (vs : List Var) (inner : Graph) (nodes : List ℕ) → AreOfSorts g nodes vs → (p n : ℕ) → IsUnder inner nodes g p n → n < length g.nodes
under_low g is vs inner nodes sorts p n (variable _ _ j s e at) = node_low g is vs nodes sorts j n at
under_low g is vs inner nodes sorts p n (operation _ _ o ps ns plain_ e f l kids) = let x = node_at g.nodes n o ns f in slice_get_within g.nodes n x.0 x.1

module _ (nodes : List ℕ) (g inner outer : Graph) (x : Expansion nodes g inner outer) (w : World) (input : Input) where
  abbrev at : ℕ → ℕ
  at = node_for nodes (length g.nodes)

  -- such a node is the same as that of the lemma
  under_same : (p n : ℕ) → IsUnder inner nodes g p n → AreSame (form_at outer.nodes) w input (at p) n
  under_same p n (variable _ _ j s e is) =
      let a : p ≡ j = x.variables p j s [] e in
      let b : at p ≡ n = ap at a ∙ node_for_at nodes (length g.nodes) j n is in
      subst (λ (q : ℕ). AreSame (form_at outer.nodes) w input (at p) q) b (same_self (form_at outer.nodes) w input (at p))
  under_same p n (operation _ _ o ps ns plain_ e f l kids) =
      over_same (form_at outer.nodes) w input (at p) n o (map at ps) ns (x.expands.there p o ps e plain_) (form_more g outer x.extends_ n o ns f)
      (zip_places (AreSame (form_at outer.nodes) w input) (map at ps) ns (length-map ps at ∙ l)
      (λ i k m a b. let y = get_mapped at ps i k a in
      subst (λ (q : ℕ). AreSame (form_at outer.nodes) w input q m) y.2 (under_same y.0 m (kids i y.0 m y.1 b))))

-- ---- one lemma

-- the settled variables stand for nodes of the use
settled_at : (lemma : Lemma) (g : Graph) (assumed nodes : List ℕ) (a b : ℕ) → IsUse lemma g assumed nodes a b → (p : ℕ) → In (settled_from 0 lemma.vars) p → (n : ℕ) × (slice_get nodes p ≡ Some n)
settled_at lemma g assumed nodes a b u p m =
    let low = settled_low 0 lemma.vars p m in
    let long : length nodes ≡ length lemma.vars = zip_length (λ k t. slice_get g.sorts k ≡ Some t) nodes (map (λ (v : Var). v.sort) lemma.vars) u.sorts ∙ length-map lemma.vars (λ (v : Var). v.sort) in
    found nodes p (omega (arith, low, long))

-- both sides of a use are nodes
use_sides : (lemma : Lemma) (g : Graph) (assumed nodes : List ℕ) (a b : ℕ) → IsWellMade g → IsUse lemma g assumed nodes a b → (a < length g.nodes) × (b < length g.nodes)
use_sides lemma g assumed nodes a b made u =
    (under_low g made.graph lemma.vars u.graph nodes u.sorts lemma.left a u.left_, under_low g made.graph lemma.vars u.graph nodes u.sorts lemma.right b u.right_)

-- the setting of a use
use_setting : (lemma : Lemma) (before : List Lemma) → AreSoundUses before → (g : Graph) (assumed nodes : List ℕ) (a b : ℕ) → IsWellMade g → g.is_open ≡ false → IsUse lemma g assumed nodes a b
    → (w : World) (input : Input) → IsWorld w → IsInput input → HaveValues (form_at g.nodes) w input assumed → Setting before lemma.vars (settled_from 0 lemma.vars) g assumed nodes w input
use_setting lemma before sound_ g assumed nodes a b made sealed u w input world is_input have = record {
  sound_ = sound_;
  made = made;
  sealed = sealed;
  sorts = u.sorts;
  stand = λ p m. (let n = settled_at lemma g assumed nodes a b u p m in subst (IsSettled (form_at g.nodes) assumed) (sym (node_for_at nodes (length g.nodes) p n.0 n.1)) (u.settled p n.0 m n.1));
  stand_low = λ p m. (let n = settled_at lemma g assumed nodes a b u p m in subst (λ (q : ℕ). q < length g.nodes) (sym (node_for_at nodes (length g.nodes) p n.0 n.1)) (node_low g made.graph lemma.vars nodes u.sorts p n.0 n.1));
  world = world;
  input = is_input;
  have = have;
}

-- an accepted lemma, and a use of it
module _ (lemma : Lemma) (before : List Lemma) (sound_ : AreSoundUses before) (accepted : IsAccepted (Uses before) lemma) (g : Graph) (assumed nodes : List ℕ) (a b : ℕ) (made : IsWellMade g) (sealed : g.is_open ≡ false)
    (u : IsUse lemma g assumed nodes a b) (w : World) (input : Input) (world : IsWorld w) (is_input : IsInput input) (have : HaveValues (form_at g.nodes) w input assumed) where
  abbrev setting : Setting before lemma.vars (settled_from 0 lemma.vars) g assumed nodes w input
  setting = use_setting lemma before sound_ g assumed nodes a b made sealed u w input world is_input have

  -- the lemma in the graph of the use
  there : Outer before lemma.vars (settled_from 0 lemma.vars) g assumed nodes w input setting u.graph (reverse lemma.steps)
  there = all_shown before lemma.vars (settled_from 0 lemma.vars) g assumed nodes w input setting (reverse lemma.steps) (all_reverse IsOutsideBlocks lemma.steps accepted.outside) accepted.right_ u.graph u.after

  abbrev Are : ℕ → ℕ → Type 0
  Are p q = AreSame (form_at there.outer.nodes) w input p q

  abbrev node : ℕ → ℕ
  node = node_for nodes (length g.nodes)

  -- its sides are the same there
  sides_same : (lemma.left ≡ lemma.right) ⊎ LastStates (reverse lemma.steps) lemma.left lemma.right → Are (node lemma.left) (node lemma.right)
  sides_same (inl e) = subst (λ (q : ℕ). Are (node lemma.left) (node q)) e (same_self (form_at there.outer.nodes) w input (node lemma.left))
  sides_same (inr l) = (there.shown (length (reverse lemma.steps)) l.stated l.last lemma.left lemma.right l.states_).same

  -- what stands under a node of the lemma is the same as that node
  under : (p n : ℕ) → IsUnder u.graph nodes g p n → Are (node p) n
  under p n z = under_same nodes g u.graph there.outer there.expansion w input p n z

  -- both sides of the use are the same
  use_same : AreSame (form_at g.nodes) w input a b
  use_same =
      let low = use_sides lemma g assumed nodes a b made u in
      let view = form_at there.outer.nodes in
      same_less g there.outer made.graph there.expansion.extends_ w input a b low.0 low.1
      (same_chain view w input a (node lemma.left) b (same_flip view w input (node lemma.left) a (under lemma.left a u.left_))
      (same_chain view w input (node lemma.left) (node lemma.right) b (sides_same accepted.concluded.1) (under lemma.right b u.right_)))

-- ---- all lemmas

-- uses of one lemma more are sound
next_sound : (lemma : Lemma) (before : List Lemma) → AreSoundUses before → AreSoundUses (lemma ∷ before)
next_sound lemma before ih =
    record { sides = λ g assumed n nodes a b made u. sides g assumed n nodes a b made (n == suc (length before)) u; same = λ g assumed n nodes a b made sealed u. same g assumed n nodes a b made sealed (n == suc (length before)) u }
  where
    sides : (g : Graph) (assumed : List ℕ) (n : ℕ) (nodes : List ℕ) (a b : ℕ) → IsWellMade g → (t : Bool) → (elim t as (λ (z : Bool). Type 0) [ true ↦ IsAccepted (Uses before) lemma × IsUse lemma g assumed nodes a b | false ↦ Uses before g assumed n nodes a b ])
        → (a < length g.nodes) × (b < length g.nodes)
    sides g assumed n nodes a b made true u = use_sides lemma g assumed nodes a b made u.1
    sides g assumed n nodes a b made false u = ih.sides g assumed n nodes a b made u

    same : (g : Graph) (assumed : List ℕ) (n : ℕ) (nodes : List ℕ) (a b : ℕ) → IsWellMade g → g.is_open ≡ false → (t : Bool) → (elim t as (λ (z : Bool). Type 0) [ true ↦ IsAccepted (Uses before) lemma × IsUse lemma g assumed nodes a b | false ↦ Uses before g assumed n nodes a b ])
        → (w : World) (x : Input) → IsWorld w → IsInput x → HaveValues (form_at g.nodes) w x assumed → AreSame (form_at g.nodes) w x a b
    same g assumed n nodes a b made sealed true u w x world input have = use_same lemma before ih u.0 g assumed nodes a b made sealed u.1 w x world input have
    same g assumed n nodes a b made sealed false u w x world input have = ih.same g assumed n nodes a b made sealed u w x world input have

-- uses of accepted lemmas are sound
sound_uses : (lemmas : List Lemma) → AreSoundUses lemmas
sound_uses [] = record { sides = λ g assumed n nodes a b made u. absurd u; same = λ g assumed n nodes a b made sealed u. absurd u }
sound_uses (lemma ∷ before) = next_sound lemma before (sound_uses before)

-- the axioms and the accepted lemmas are sound
pub sound_lemmas : Sound
sound_lemmas lemmas = record { sides = sides; same = same }
  where
    uses : AreSoundUses (reverse lemmas)
    uses = sound_uses (reverse lemmas)

    sides : (g : Graph) (assumed : List ℕ) (r : Rule) (nodes : List ℕ) (a b : ℕ) → IsWellMade g → ByLemmas lemmas g assumed r nodes a b → (a < length g.nodes) × (b < length g.nodes)
    sides g assumed (by_axiom n) nodes a b made i = sound.sides g assumed (by_axiom n) nodes a b made i
    sides g assumed (by_lemma n) nodes a b made i = uses.sides g assumed n nodes a b made i

    same : (g : Graph) (assumed : List ℕ) (r : Rule) (nodes : List ℕ) (a b : ℕ) → IsWellMade g → g.is_open ≡ false → ByLemmas lemmas g assumed r nodes a b
        → (w : World) (x : Input) → IsWorld w → IsInput x → HaveValues (form_at g.nodes) w x assumed → (at : Index) → SameAt (form_at g.nodes) w x at a b
    same g assumed (by_axiom n) nodes a b made sealed i = sound.same g assumed (by_axiom n) nodes a b made sealed i
    same g assumed (by_lemma n) nodes a b made sealed i = uses.same g assumed n nodes a b made sealed i
