-- What the right steps of a lemma state holds of its nodes in the outer graph.
use Rattle.std.specs.Prelude.{◌≡◌, ℕ, suc, ◌<◌, Bool, true, false, List, [], ◌∷◌, length, map, Some, ◌==◌, refl}
use Rattle.std.specs.List.{AllZip, AllByRecursion}
use Rattle.std.proofs.Common.{inl, inr, sym, ap, subst}
use Rattle.std.proofs.lemmas.Option.{slice_get_within, same_Some}
use Rattle.pv_value.specs.declared.world.World.{World}
use Rattle.pv_value.specs.declared.outcome.Input.{Input}
use Rattle.pv_value.specs.Worlds.{IsWorld}
use Rattle.pv_value.specs.Inputs.{IsInput}
use Rattle.pv_graph.specs.Ops.{shape}
use Rattle.pv_graph.specs.Nodes.{node_of}
use Rattle.pv_graph.specs.Forms.{form}
use Rattle.pv_graph.specs.Walks.{In, IsSettled}
use Rattle.pv_graph.specs.Graphs.{Graph, form_at, IsWellMade, Extends}
use Rattle.pv_graph.proofs.Cited.{bind_some, form_there}
use Rattle.pv_denote.proofs.Mapped.{moves_all}
use Rattle.pv_steps.specs.declared.step.Lemma.{Lemma}
use Rattle.pv_steps.specs.declared.step.Var.{Var}
use Rattle.pv_steps.specs.declared.step.Fact.{Fact}
use Rattle.pv_steps.specs.declared.step.Reason.{Reason}
use Rattle.pv_steps.specs.declared.step.Reason.TheVariants.{Same, By, Pair}
use Rattle.pv_steps.specs.declared.step.Congruence.{Congruence}
use Rattle.pv_steps.specs.declared.step.Step.{Step}
use Rattle.pv_steps.specs.declared.step.Step.TheVariants.{Axiom, Use, Flip, Chain, Set, Open, Close, Assume, Finish}
use Rattle.pv_steps.specs.declared.step.Step.TheVariants as steps
use Rattle.pv_steps.specs.Steps.{OpenBlock, assumed_in, Stated, both_sides, states, open_after, stated_at, numbered, Equality, equality_at, Shows}
use Rattle.pv_steps.specs.Right.{GraphAfter, GiveAll, RightCongruence, Rule, by_axiom, by_lemma, RightOver}
use Rattle.pv_steps.specs.Accepted.{AllRight}
use Rattle.pv_steps.specs.Facts.{HaveValues}
use Rattle.pv_steps.proofs.Cited.{after_same, in_numbered}
use Rattle.pv_steps.proofs.Pairs.{Alike}
use Rattle.pv_axioms.proofs.Cited.{sound}
use Rattle.pv_lemmas.specs.Lemmas.{variables_graph, InLemma, IsOutsideBlocks, Uses}
use Rattle.pv_lemmas.proofs.Variables.{inner_made}
use Rattle.pv_lemmas.proofs.Expanding.{AreOfSorts, Expansion, begins, node_for, step_expands}
use Rattle.pv_lemmas.proofs.Same.{AreSame, same_self, same_flip, same_chain, low_more, same_more, settled_more, have_more}
use Rattle.pv_lemmas.proofs.Instances.{instance_kept, uses_kept}
use Rattle.pv_lemmas.proofs.Sets.{KidsOf, node_low, pairs_same}

-- ---- a use

-- uses of these lemmas are sound
pub record AreSoundUses (lemmas : List Lemma) : Type 0 where
  pub sides : (g : Graph) (assumed : List ℕ) (n : ℕ) (nodes : List ℕ) (a b : ℕ) → IsWellMade g → Uses lemmas g assumed n nodes a b → (a < length g.nodes) × (b < length g.nodes)
  pub same : (g : Graph) (assumed : List ℕ) (n : ℕ) (nodes : List ℕ) (a b : ℕ) → IsWellMade g → g.is_open ≡ false → Uses lemmas g assumed n nodes a b
      → (w : World) (x : Input) → IsWorld w → IsInput x → HaveValues (form_at g.nodes) w x assumed → AreSame (form_at g.nodes) w x a b

-- nodes of a graph for the variables of a lemma, and a world and an input in which the assumed nodes have values
pub record Setting (lemmas : List Lemma) (vars : List Var) (settled : List ℕ) (g : Graph) (assumed nodes : List ℕ) (w : World) (x : Input) : Type 0 where
  pub sound_ : AreSoundUses lemmas
  pub made : IsWellMade g
  pub sealed : g.is_open ≡ false
  pub sorts : AreOfSorts g nodes vars
  pub stand : (p : ℕ) → In settled p → IsSettled (form_at g.nodes) assumed (node_for nodes (length g.nodes) p)
  pub stand_low : (p : ℕ) → In settled p → node_for nodes (length g.nodes) p < length g.nodes
  pub world : IsWorld w
  pub input : IsInput x
  pub have : HaveValues (form_at g.nodes) w x assumed

-- ---- what is shown

-- nodes of the lemma whose nodes in the outer graph are the same
pub record Shown (inner outer : Graph) (h : ℕ → ℕ) (w : World) (x : Input) (a b : ℕ) : Type 0 where
  pub left : a < length inner.nodes
  pub right : b < length inner.nodes
  pub same : AreSame (form_at outer.nodes) w x (h a) (h b)

-- all that these steps state is shown
abbrev pub AllShown : Graph → Graph → (ℕ → ℕ) → World → Input → List Step → Type 0
AllShown inner outer h w x before = (k : ℕ) (st : Stated) → stated_at before k ≡ Some st → (a b : ℕ) → In st.pairs (a, b) → Shown inner outer h w x a b

-- ---- one step

-- the congruence of a pair
in_sides : (cs : List Congruence) (a b : ℕ) → In (both_sides cs) (a, b) → (c : Congruence) × In cs c × (c.left ≡ a) × (c.right ≡ b)
in_sides [] a b h = absurd h
in_sides (c ∷ cs) a b (inl h) = (c, inl refl, ap (λ (z : ℕ × ℕ). z.0) h, ap (λ (z : ℕ × ℕ). z.1) h)
in_sides (c ∷ cs) a b (inr h) = let r = in_sides cs a b h in (r.0, inr r.1, r.2, r.3)

module _ (lemmas : List Lemma) (vars : List Var) (settled : List ℕ) (g : Graph) (assumed nodes : List ℕ) (w : World) (input : Input) (use_ : Setting lemmas vars settled g assumed nodes w input) where
  abbrev at : ℕ → ℕ
  at = node_for nodes (length g.nodes)

  abbrev ShownIn : Graph → Graph → ℕ → ℕ → Type 0
  ShownIn inner outer = Shown inner outer at w input

  module _ (inner outer : Graph) (x : Expansion nodes g inner outer) (before : List Step) (all : AllShown inner outer at w input before) where
    -- a cited equality is shown
    cited_shown : (f : Fact) (e : Equality) → equality_at before f ≡ Some e → ShownIn inner outer e.left e.right
    cited_shown f e is =
        let s = bind_some (stated_at before f.step) _ e is in
        let p = bind_some (numbered s.0.pairs f.place) _ e s.2 in
        let same : record { around = s.0.around; left = p.0.0; right = p.0.1 } ≡ e = same_Some _ _ p.2 in
        let there = all f.step s.0 s.1 p.0.0 p.0.1 (in_numbered s.0.pairs f.place p.0 p.1) in
        subst (λ (q : Equality). ShownIn inner outer q.left q.right) same there

    -- so is what a fact shows
    shows_shown : (inside : List OpenBlock) (f : Fact) (a b : ℕ) → Shows before inside f a b → ShownIn inner outer a b
    shows_shown inside f a b s = cited_shown f (record { around = s.around; left = a; right = b }) s.stated

    -- settled nodes stand for the settled variables in the outer graph too
    stand_outer : (p : ℕ) → In settled p → IsSettled (form_at outer.nodes) assumed (at p)
    stand_outer p m = settled_more g outer use_.made.graph x.extends_ assumed (at p) (use_.stand_low p m) (use_.stand p m)

    have_outer : HaveValues (form_at outer.nodes) w input assumed
    have_outer = have_more g outer use_.made.graph x.extends_ w input assumed use_.have

    -- an axiom or an earlier lemma
    rule_shown : (r : Rule) (ns : List ℕ) (a b : ℕ) (any : List ℕ) → InLemma (Uses lemmas) settled inner any r ns a b → ShownIn inner outer a b
    rule_shown (by_axiom n) ns a b any i =
        let sides = sound.sides inner settled (by_axiom n) ns a b x.inner_made (i.0, i.1, i.2.instance_) in
        let kept = instance_kept inner outer at x.expands settled assumed stand_outer n ns a b i in
        record { left = sides.0; right = sides.1; same = λ j. sound.same outer assumed (by_axiom n) (map at ns) (at a) (at b) x.made x.sealed kept w input use_.world use_.input have_outer j }
    rule_shown (by_lemma n) ns a b any i =
        let sides = use_.sound_.sides inner settled n ns a b x.inner_made i in
        let kept = uses_kept inner outer at x.expands settled assumed stand_outer lemmas n ns a b i in
        record { left = sides.0; right = sides.1; same = use_.sound_.same outer assumed n (map at ns) (at a) (at b) x.made x.sealed kept w input use_.world use_.input have_outer }

    -- the kids that reasons join
    kids_shown : (inside : List OpenBlock) (ps : List (ℕ × ℕ)) (rs : List Reason) (ks ls : List ℕ) → GiveAll before inside ps rs ks ls → AllZip (KidsOf nodes g inner outer x w input ps) ks ls
    kids_shown inside ps [] [] [] z = tt
    kids_shown inside ps (Same ∷ rs) (k ∷ ks) (l ∷ ls) z =
        (inl (subst (λ (n : ℕ). AreSame (form_at outer.nodes) w input (at k) (at n)) z.0 (same_self (form_at outer.nodes) w input (at k))), kids_shown inside ps rs ks ls z.1)
    kids_shown inside ps (By f ∷ rs) (k ∷ ks) (l ∷ ls) z = (inl (shows_shown inside f k l z.0).same, kids_shown inside ps rs ks ls z.1)
    kids_shown inside ps (Pair n ∷ rs) (k ∷ ks) (l ∷ ls) z = (inr (in_numbered ps n (k, l) z.0), kids_shown inside ps rs ks ls z.1)
    kids_shown inside ps _ _ _ z = absurd (assumption)

    -- the pairs of a set step
    set_shown : (inside : List OpenBlock) (cs : List Congruence) → ((c : Congruence) → In cs c → RightCongruence inner before inside cs c) → (a b : ℕ) → In (both_sides cs) (a, b) → ShownIn inner outer a b
    set_shown inside cs right a b m =
        let p = in_sides cs a b m in
        let q = right p.0 p.1 in
        record {
          left = subst (λ (n : ℕ). n < length inner.nodes) p.2 (slice_get_within inner.nodes p.0.left _ q.left);
          right = subst (λ (n : ℕ). n < length inner.nodes) p.3 (slice_get_within inner.nodes p.0.right _ q.right);
          same = pairs_same nodes g inner outer x w input (both_sides cs) alike a b m;
        }
      where
        alike : (a b : ℕ) → In (both_sides cs) (a, b) → Alike (form_at inner.nodes) (KidsOf nodes g inner outer x w input (both_sides cs)) (λ d. Unit {0}) a b
        alike a b m =
            let p = in_sides cs a b m in
            let q = right p.0 p.1 in
            record {
              o = q.o;
              lefts = q.lefts;
              rights = q.rights;
              left = subst (λ (n : ℕ). form_at inner.nodes n ≡ Some (form q.o q.lefts)) p.2 (form_there inner.nodes p.0.left (node_of q.o q.lefts) q.left);
              right = subst (λ (n : ℕ). form_at inner.nodes n ≡ Some (form q.o q.rights)) p.3 (form_there inner.nodes p.0.right (node_of q.o q.rights) q.right);
              moves = moves_all (λ d. Unit {0}) (λ d. tt) (shape q.o);
              kids = kids_shown inside (both_sides cs) p.0.reasons q.lefts q.rights q.kids;
            }

    -- the one pair of a step
    single : (a b m n : ℕ) → In {A = ℕ × ℕ} ((a, b) ∷ []) (m, n) → ShownIn inner outer a b → ShownIn inner outer m n
    single a b m n (inl z) s = subst (λ (q : ℕ × ℕ). ShownIn inner outer q.0 q.1) z s
    single a b m n (inr z) s = absurd z

    -- the other way round
    flip_shown : (a b : ℕ) → ShownIn inner outer b a → ShownIn inner outer a b
    flip_shown a b s = record { left = s.right; right = s.left; same = same_flip (form_at outer.nodes) w input (at b) (at a) s.same }

    -- one after the other
    chain_shown : (a c b : ℕ) → ShownIn inner outer a c → ShownIn inner outer c b → ShownIn inner outer a b
    chain_shown a c b s t = record { left = s.left; right = t.right; same = same_chain (form_at outer.nodes) w input (at a) (at c) (at b) s.same t.same }

    -- what a right step states is shown
    step_shown : (s : Step) (k : ℕ) → IsOutsideBlocks s → RightOver (InLemma (Uses lemmas) settled) inner before s → (a b : ℕ) → In (states s k (open_after before)).pairs (a, b) → ShownIn inner outer a b
    step_shown (steps.Node n o kids) k out right a b m = absurd m
    step_shown (Axiom n a b ns) k out right c d m = single a b c d m (rule_shown (by_axiom n) ns a b (assumed_in (open_after before)) right)
    step_shown (Use n a b ns) k out right c d m = single a b c d m (rule_shown (by_lemma n) ns a b (assumed_in (open_after before)) right)
    step_shown (Flip a b f) k out right c d m = single a b c d m (flip_shown a b (shows_shown (open_after before) f b a right))
    step_shown (Chain a b f i) k out right c d m = single a b c d m (chain_shown a right.0 b (shows_shown (open_after before) f a right.0 right.1) (shows_shown (open_after before) i right.0 b right.2))
    step_shown (Set cs) k out right c d m = set_shown (open_after before) cs right c d m
    step_shown (Open d ps) k out right a b m = absurd out
    step_shown (Close d fs) k out right a b m = absurd out
    step_shown (Assume p ns) k out right a b m = absurd out
    step_shown (Finish p q t f r i) k out right a b m = absurd out

  -- ---- all steps

  -- with one step more
  later : (inner outer : Graph) (s : Step) (before : List Step) → ((a b : ℕ) → In (states s (suc (length before)) (open_after before)).pairs (a, b) → ShownIn inner outer a b) → AllShown inner outer at w input before → AllShown inner outer at w input (s ∷ before)
  later inner outer s before now all k st = go (k == suc (length before))
    where
      go : (t : Bool) → elim t [ true ↦ Some (states s (suc (length before)) (open_after before)) | false ↦ stated_at before k ] ≡ Some st → (a b : ℕ) → In st.pairs (a, b) → ShownIn inner outer a b
      go true e a b m = now a b (subst (λ (q : Stated). In q.pairs (a, b)) (sym (same_Some _ _ e)) m)
      go false e a b m = all k st e a b m

  -- the outer graph of a lemma, and what its steps state there
  pub record Outer (inner : Graph) (before : List Step) : Type 0 where
    pub outer : Graph
    pub expansion : Expansion nodes g inner outer
    pub shown : AllShown inner outer at w input before

  -- where both graphs grow
  shown_more : (old outer inner more : Graph) (x : Expansion nodes g old outer) → Extends old inner → Extends outer more → (a b : ℕ) → ShownIn old outer a b → ShownIn inner more a b
  shown_more old outer inner more x ext ext' a b s = record {
    left = low_more old inner x.inner_made.graph ext a s.left;
    right = low_more old inner x.inner_made.graph ext b s.right;
    same = same_more outer more x.made.graph ext' w input (at a) (at b) (node_low nodes g old outer x w input [] a s.left) (node_low nodes g old outer x w input [] b s.right) s.same;
  }

  -- all that the right steps of a lemma state
  pub all_shown : (before : List Step) → AllByRecursion IsOutsideBlocks before → AllRight (InLemma (Uses lemmas) settled) (variables_graph vars) before → (inner : Graph) → GraphAfter (variables_graph vars) before inner → Outer inner before
  all_shown [] out right inner after = record {
    outer = g;
    expansion = subst (λ (q : Graph). Expansion nodes g q g) (sym after) (begins vars nodes g use_.made use_.sealed use_.sorts);
    shown = λ k st e. absurd (cc);
  }
  all_shown (s ∷ before) out right inner after =
      let r = all_shown before out.1 right.1 after.0 after.1 in
      let same : right.0.0 ≡ after.0 = after_same (variables_graph vars) before right.0.0 after.0 right.0.1 after.1 in
      let over = subst (λ (q : Graph). RightOver (InLemma (Uses lemmas) settled) q before s) same right.0.2 in
      let now = step_shown after.0 r.outer r.expansion before r.shown s (suc (length before)) out.0 over in
      let grown = step_expands nodes g after.0 r.outer inner r.expansion (inner_made vars (s ∷ before) inner after) s after.2 in
      let more = λ (a b : ℕ). shown_more after.0 r.outer inner grown.more r.expansion grown.inner_extends grown.outer_extends a b in
      record {
        outer = grown.more;
        expansion = grown.expansion;
        shown = later inner grown.more s before (λ a b m. more a b (now a b m)) (λ k st e a b m. more a b (r.shown k st e a b m));
      }
