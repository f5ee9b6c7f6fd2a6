-- Roots that met have the same values.
use Rattle.std.specs.Prelude.{ℕ, ◌<◌, List, [], ◌∷◌, length, Some}
use Rattle.std.specs.List.{AllZip}
use Rattle.std.proofs.Common.{◌≡◌, inl, inr, refl, sym, ◌∙◌, subst}
use Rattle.pv_value.specs.declared.world.World.{World}
use Rattle.pv_value.specs.declared.outcome.Input.{Input}
use Rattle.pv_value.specs.declared.outcome.Val.{Val}
use Rattle.pv_value.specs.declared.outcome.Val.TheVariants as val
use Rattle.pv_value.specs.Worlds.{IsWorld}
use Rattle.pv_value.specs.Inputs.{IsInput}
use Rattle.pv_graph.specs.declared.node.Op.TheVariants as op
use Rattle.pv_graph.specs.Forms.{form}
use Rattle.pv_graph.specs.Ops.{root}
use Rattle.pv_graph.specs.Walks.{In, Spine}
use Rattle.pv_graph.specs.Graphs.{Graph, form_at}
use Rattle.pv_denote.specs.Denote.{Index, Value, SameAt}
use Rattle.pv_denote.specs.Meaning.{Same}
use Rattle.pv_denote.proofs.Cited.{den_makes, means_map, value_says, closed_value, spine_has}
use Rattle.pv_alike.specs.Least.{Rooted}
use Rattle.pv_steps.specs.Facts.{View, HaveValues}
use Rattle.pv_steps.specs.Right.{RootKids}
use Rattle.pv_endings.specs.declared.root.RootParts.{RootParts}
use Rattle.pv_endings.specs.Endings.{IsRootOver}
use Rattle.pv_heights.specs.Searches.{OneClass}
use Rattle.pv_heights.proofs.Cited.{base_is_node, graph_whole}
use Rattle.pv_grounds.specs.Same.{ClassesSame}
use Rattle.pv_prove.specs.declared.meeting.Meeting.{Meeting}
use Rattle.pv_prove.specs.declared.meeting.Meeting.TheVariants.{Roots, Kids}
use Rattle.pv_prove.specs.declared.outcome.Limits.{Limits}
use Rattle.pv_prove.specs.declared.outcome.Outcome.{Outcome}
use Rattle.pv_prove.specs.declared.searches.Searches.{Searches}
use Rattle.pv_prove.specs.Meetings.{AreMetKids}
use Rattle.pv_prove.specs.Finding.{ending_of, HaveMade, MeetIn, IsShown, MetAreSame}

-- ---- roots over kids

abbrev kids_of : RootParts → List ℕ
kids_of r = r.token ∷ r.fault ∷ r.result ∷ r.heap ∷ []

root_form : (g : Graph) (p : ℕ) (r : RootParts) → IsRootOver g p r → form_at g.nodes p ≡ Some (form op.Root (kids_of r))
root_form g p r is = rw is refl

-- one root has one token
one_token : (g : Graph) (p : ℕ) (r : RootParts) (k : RootKids g p) → IsRootOver g p r → k.token ≡ r.token
one_token g p r k is = let e = sym (root_form g p (record { token = k.token; fault = k.fault_; result = k.result; heap = k.heap }) k.is) ∙ root_form g p r is in cc

module _ (view : View) (w : World) (x : Input) (i : Index) where
  same_flip : (a b : ℕ) → SameAt view w x i a b → SameAt view w x i b a
  same_flip a b h v = ((h v).1, (h v).0)

  kids_flip : (l r : RootParts) → AllZip (SameAt view w x i) (kids_of l) (kids_of r) → AllZip (SameAt view w x i) (kids_of r) (kids_of l)
  kids_flip l r h = (same_flip l.token r.token h.0, (same_flip l.fault r.fault h.1.0, (same_flip l.result r.result h.1.1.0, (same_flip l.heap r.heap h.1.1.1.0, tt))))

  -- a root that has a value waits for its token
  root_token : (p : ℕ) (l : RootParts) (v : Val) → view p ≡ Some (form op.Root (kids_of l)) → Value view w x p i v → Value view w x l.token i val.Unit
  root_token p l v e h = (value_says view w x p i v op.Root (kids_of l) e h).2

  -- a root over the same kids has its value too
  root_leads : (p q : ℕ) (l r : RootParts) (v : Val) → view p ≡ Some (form op.Root (kids_of l)) → view q ≡ Some (form op.Root (kids_of r)) → AllZip (SameAt view w x i) (kids_of l) (kids_of r)
      → Value view w x p i v → Value view w x q i v
  root_leads p q l r v e f same h =
      den_makes view w x q i v op.Root (kids_of r) f
      (means_map w x (λ j. j ≡ i) (Value view w x) (Value view w x) (λ m n. SameAt view w x i m n)
      (λ m n j u s y o. subst (λ (j : Index). Value view w x n j u) (sym y) ((s u).0 (subst (λ (j : Index). Value view w x m j u) y o)))
      root op.Root (kids_of l) (kids_of r) i v tt same refl (value_says view w x p i v op.Root (kids_of l) e h))

-- ---- two searches in which the roots meet

module _ (law : ClassesSame) (l : Rooted) (limits : Limits) (k : ℕ) (s : Searches) (made : HaveMade l limits k s) where
  abbrev view : View
  view = form_at l.graph.nodes

  -- nodes that the plain search joined are the same
  plain_same : (a b : ℕ) → a < length l.graph.nodes → b < length l.graph.nodes → OneClass s.plain.classes.numbers a b → Same l.graph a b
  plain_same a b low low_ one w x world input i =
      law l.graph k s.plain a b made.plain_ made.plain_grounds low low_ one w x world input (λ e j there. absurd (subst (λ (ns : List ℕ). In ns e) made.none there)) i

  kid_low : (p : ℕ) (r : RootParts) → IsRootOver l.graph p r → (n : ℕ) → In (kids_of r) n → n < length l.graph.nodes
  kid_low p r is n there = base_is_node l.graph n (graph_whole l.graph made.plain_.least.made.graph p n op.Root (kids_of r) (root_form l.graph p r is) there)

  -- roots whose kids meet, at an index
  module _ (left right : RootParts) (is_left : IsRootOver l.graph l.first left) (is_right : IsRootOver l.graph l.second right) (met : AreMetKids left right s.plain.classes.numbers (ending_of s).classes.numbers)
      (w : World) (x : Input) (world : IsWorld w) (input : IsInput x) (i : Index) where
    tokens : SameAt view w x i left.token right.token
    tokens = plain_same left.token right.token (kid_low l.first left is_left left.token (inl refl)) (kid_low l.second right is_right right.token (inl refl)) met.0 w x world input i

    module _ (o : Value view w x left.token i val.Unit) where
      -- where the first token has a value, so has each node that counts as ending, at every index
      ends_have : HaveValues view w x (ending_of s).endings.items
      ends_have n j there =
          let e = (made.ends.are n).0 there in
          let spine = subst (λ (t : ℕ). Spine view t n) (one_token l.graph l.first left e.0 is_left) e.1.spine in
          let u = spine_has view w x left.token n i spine val.Unit o in
          (u.0, closed_value view w x n i j u.0 e.1.closed u.1)

      ended : (a b : ℕ) → In (kids_of left) a → In (kids_of right) b → OneClass (ending_of s).classes.numbers a b → SameAt view w x i a b
      ended a b m n one = law l.graph k (ending_of s) a b made.ending_ made.ending_grounds (kid_low l.first left is_left a m) (kid_low l.second right is_right b n) one w x world input ends_have i

      all_kids : AllZip (SameAt view w x i) (kids_of left) (kids_of right)
      all_kids =
          let faults = ended left.fault right.fault (inr (inl refl)) (inr (inl refl)) met.1.0 in
          let results = ended left.result right.result (inr (inr (inl refl))) (inr (inr (inl refl))) met.1.1.0 in
          let heaps = ended left.heap right.heap (inr (inr (inr (inl refl)))) (inr (inr (inr (inl refl)))) met.1.1.1 in
          (tokens, (faults, (results, (heaps, tt))))

    roots_same : SameAt view w x i l.first l.second
    roots_same v = (there, back)
      where
        is_first : view l.first ≡ Some (form op.Root (kids_of left))
        is_first = root_form l.graph l.first left is_left

        is_second : view l.second ≡ Some (form op.Root (kids_of right))
        is_second = root_form l.graph l.second right is_right

        there : Value view w x l.first i v → Value view w x l.second i v
        there h = root_leads view w x i l.first l.second left right v is_first is_second (all_kids (root_token view w x i l.first left v is_first h)) h

        back : Value view w x l.second i v → Value view w x l.first i v
        back h =
            let o = (tokens val.Unit).1 (root_token view w x i l.second right v is_second h) in
            root_leads view w x i l.second l.first right left v is_second is_first (kids_flip view w x i left right (all_kids o)) h

  meeting_same : l.first < length l.graph.nodes → l.second < length l.graph.nodes → (m : Meeting) → MeetIn l s (Some m) → Same l.graph l.first l.second
  meeting_same low low_ Roots met w x world input i = plain_same l.first l.second low low_ met w x world input i
  meeting_same low low_ Kids (apart, (left, right, is_left, is_right, met)) w x world input i = roots_same left right is_left is_right met w x world input i

pub met_same : ClassesSame → (l : Rooted) (limits : Limits) (s : Searches) (outcome : Outcome) → l.first < length l.graph.nodes → l.second < length l.graph.nodes → IsShown l limits s outcome → MetAreSame l outcome
met_same law l limits s outcome low low_ shown m e = let h = shown m e in meeting_same law l limits h.0 s h.1 low low_ m h.2
