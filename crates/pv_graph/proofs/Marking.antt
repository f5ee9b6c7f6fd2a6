-- What the marks of a search say.
use Rattle.std.specs.Prelude.{◌≡◌, ◌↔◌, ℕ, zero, suc, ◌+◌, ◌<◌, ◌≤◌, Bool, true, false, not, ◌||◌, ◌==◌, List, [], ◌∷◌, ◌++◌, map, length, Option, Some, None, ◌-◌, slice_get, slice_set, IsTrue, Vec, refl, if◌then◌else◌}
use Rattle.std.proofs.Common.{inl, inr, sym, ap, ◌∙◌, subst, arith, get_or, take, length-append, replicate}
use Rattle.std.proofs.lemmas.Option.{slice_get_within, same_Some}
use Rattle.std.proofs.lemmas.List.{take_more, length-take-le}
use Rattle.std.proofs.lemmas.Bool.Decides.{nat_tests}
use Rattle.pv_graph.specs.declared.node.Op.{Op}
use Rattle.pv_graph.specs.declared.node.Op.TheVariants as op
use Rattle.pv_graph.specs.declared.node.Node.{Node}
use Rattle.pv_graph.specs.declared.reach.Use.{Use}
use Rattle.pv_graph.specs.declared.reach.Look.{Look}
use Rattle.pv_graph.specs.declared.reach.Look.TheVariants as look
use Rattle.pv_graph.proofs.Elements.{found, push_cases, get_front, get_last}
use Rattle.pv_graph.specs.Ops.{theta, eval, shape, is_variable, may_not_end, is_depth, alike, sort_over}
use Rattle.pv_graph.specs.declared.node.OpSort.{OpSort}
use Rattle.std.specs.declared.alloc.Global.{Global}
use Rattle.pv_graph.specs.Forms.{form}
use Rattle.pv_graph.specs.Graphs.{Graph, form_at, IsGraph}
use Rattle.pv_graph.specs.Walks.{In, open_kids, Free, here, below, MeetsVariable, variable, through_kid, Reaches, itself, along, IsSettled}
use Rattle.pv_graph.specs.Reach.{begins, follows, Uses, IsUse, IsMarked, AreUses, Passes, Hits, AreReached, IsBegun, AreBegun, AreOut, Leads, there, through, AreMarked, IsSearched, KidsWithin, AllKidsWithin}
use Rattle.pv_graph.specs.Reach as hits
use Rattle.pv_graph.specs.Calls.{AreFreeMarks, AreSettledMarks}
use Rattle.pv_graph.proofs.NodeLaws.{node_at, form_there, kid_within}
use Rattle.pv_graph.proofs.Tying.{set_same, set_other, set_length, equal_or_not}
use Rattle.pv_graph.proofs.Reaching.{in_front, in_last, in_cases}

-- ---- the nodes to be reached

begun_front : (nodes : List Node) (node : Node) (out : List Bool) (l : Look) (n : ℕ) → IsBegun nodes out l n → IsBegun (nodes ++ node ∷ []) out l n
begun_front nodes node out l n b = (b.0, get_front nodes node n (slice_get_within nodes n b.0 b.1) ∙ b.1, b.2, b.3)

module _ (nodes : List Node) (out : List Bool) (l : Look) (i : ℕ) (node : Node) (lt : i < length nodes) (is_node : node ≡ get_or nodes i node) (o b : Bool) (out_at : slice_get out i ≡ Some o) (is_b : b ≡ (if o then false else begins l node.op)) where
  short : length (take i nodes) ≡ i
  short = length-take-le i nodes (omega arith)

  taken : take (i + 1) nodes ≡ take i nodes ++ node ∷ []
  taken = take_more nodes i node lt ∙ ap (λ (x : Node). take i nodes ++ x ∷ []) (sym is_node)

  opened : (o : Bool) → b ≡ (if o then false else begins l node.op) → b ≡ true → (o ≡ false) × (begins l node.op ≡ true)
  opened true e t = absurd (cc)
  opened false e t = (refl, sym e ∙ t)

  pub begun_more : (starts : List Bool) → AreBegun (take i nodes) out l starts → AreBegun (take (i + 1) nodes) out l (starts ++ b ∷ [])
  begun_more starts is = subst (λ (xs : List Node). AreBegun xs out l (starts ++ b ∷ [])) (sym taken) (record {
    long = length-append starts (b ∷ []) ∙ ap (λ (n : ℕ). n + 1) is.long ∙ sym (length-append (take i nodes) (node ∷ []));
    says = λ n. (
      (λ m. elim (push_cases starts b true n m) [
        | inl x ↦ begun_front (take i nodes) node out l n ((is.says n).0 x)
        | inr y ↦
            let at : n ≡ i = y.0 ∙ is.long ∙ short in
            let both = opened o is_b y.1 in
            (node, ap (slice_get (take i nodes ++ node ∷ [])) (at ∙ sym short) ∙ get_last (take i nodes) node, ap (slice_get out) at ∙ out_at ∙ ap Some both.0, both.1)
      ]),
      (λ g. elim (push_cases (take i nodes) node g.0 n g.1) [
        | inl x ↦ let h = (is.says n).1 (g.0, x, g.2, g.3) in get_front starts b n (slice_get_within starts n true h) ∙ h
        | inr y ↦
            let at : n ≡ i = y.0 ∙ short in
            let clear : o ≡ false = same_Some o false (sym out_at ∙ ap (slice_get out) (sym at) ∙ g.2) in
            let yes_ : b ≡ true = is_b ∙ ap (λ (t : Bool). if t then false else begins l node.op) clear ∙ ap (λ (x : Node). begins l x.op) y.1 ∙ g.3 in
            ap (slice_get (starts ++ b ∷ [])) (at ∙ sym short ∙ sym is.long) ∙ get_last starts b ∙ ap Some yes_
      ]),
    );
  })

-- ---- the nodes that are left out

pub out_none : (len : ℕ) (out : List Bool) → out ≡ replicate len false → AreOut len [] out
out_none len out e = subst (λ (xs : List Bool). AreOut len [] xs) (sym e) (record { long = long len; only = λ n m. absurd (never len n m); has = λ n m lt. absurd m })
  where
    long : (k : ℕ) → length (replicate k false) ≡ k
    long zero = refl
    long (suc k) = ap suc (long k)

    never : (k n : ℕ) → IsMarked (replicate k false) n → ⊥
    never zero n m = cc
    never (suc k) zero m = cc
    never (suc k) (suc n) m = never k n m

module _ (len i : ℕ) (assumed : List ℕ) (lt : i < length assumed) (out : List Bool) (is : AreOut len (take i assumed) out) where
  abbrev one : ℕ
  one = get_or assumed i 0

  pub out_more : one < len → AreOut len (take (i + 1) assumed) (slice_set out one true)
  out_more low = subst (λ (xs : List ℕ). AreOut len xs (slice_set out one true)) (sym (take_more assumed i 0 lt)) (record {
    long = set_length out one true ∙ is.long;
    only = λ n m. elim (equal_or_not n one) [ inl same ↦ subst (λ (k : ℕ). In (take i assumed ++ one ∷ []) k) (sym same) (in_last (take i assumed) one) | inr ne ↦ in_front (take i assumed) one n (is.only n (sym (set_other out one true n ne) ∙ m)) ];
    has = λ n m k. elim (equal_or_not n one) [
      | inl same ↦ ap (slice_get (slice_set out one true)) same ∙ set_same out one true (let z = is.long in omega arith)
      | inr ne ↦ elim (in_cases (take i assumed) one n m) [ inl x ↦ set_other out one true n ne ∙ is.has n x k | inr e ↦ absurd (ne (sym e)) ]
    ];
  })

  pub out_same : len ≤ one → AreOut len (take (i + 1) assumed) out
  out_same high = subst (λ (xs : List ℕ). AreOut len xs out) (sym (take_more assumed i 0 lt)) (record {
    long = is.long;
    only = λ n m. in_front (take i assumed) one n (is.only n m);
    has = λ n m k. elim (in_cases (take i assumed) one n m) [ inl x ↦ is.has n x k | inr e ↦ absurd (omega arith) ];
  })

-- ---- the marks

module _ (nodes : List Node) (out : List Bool) (l : Look) (uses : Uses) (are : AreUses nodes out uses) (starts marks : List Bool) (begun : AreBegun nodes out l starts) (reached : AreReached nodes uses l starts marks) where
  leads : (n : ℕ) → Hits nodes uses l starts n → Leads nodes out l n
  leads n (hits.begin m s) = there m ((begun.says m).0 s)
  leads n (hits.along m k u use_ passes e h) =
      let r = (are k u).0 use_ in
      let same : passes.0 ≡ r.0 = same_Some passes.0 r.0 (sym passes.1 ∙ r.1) in
      subst (λ (j : ℕ). Leads nodes out l j) e (through u.node u.place k r.0 r.1 r.2 r.3 (ap (λ (x : Node). follows l x.op u.place) (sym same) ∙ passes.2) (leads k h))

  hit : (n : ℕ) → Leads nodes out l n → Hits nodes uses l starts n
  hit n (there m b) = hits.begin m ((begun.says m).1 b)
  hit n (through m p k node at free at_kid f h) =
      let u : Use = record { node = m; place = p } in
      hits.along m k u ((are k u).1 (node, at, free, at_kid)) (node, at, f) refl (hit k h)

  pub are_marked : AreMarked nodes out l marks
  are_marked = record { long = reached.long; says = λ n. ((λ m. leads n ((reached.says n).0 m)), (λ h. (reached.says n).1 (hit n h))) }

pub out_clear : (len : ℕ) (assumed : List ℕ) (out : List Bool) → AreOut len assumed out → (n : ℕ) → slice_get out n ≡ Some false → In assumed n → ⊥
out_clear len assumed out is n e m =
    let lt : n < len = (let z = slice_get_within out n false e in let y = is.long in omega arith) in
    absurd (let z = is.has n m lt in cc)

pub out_free : (len : ℕ) (assumed : List ℕ) (out : List Bool) → AreOut len assumed out → (n : ℕ) → n < len → (In assumed n → ⊥) → slice_get out n ≡ Some false
out_free len assumed out is n lt free = by (found out n (let y = is.long in omega arith))
  where
    by : (b : Bool) × (slice_get out n ≡ Some b) → slice_get out n ≡ Some false
    by (true, e) = absurd (free (is.only n e))
    by (false, e) = e

-- ---- a depth that is free

pub begins_theta : (d : ℕ) (o : Op) → begins (look.Free d) o ≡ true → shape o ≡ theta d
begins_theta d (op.Theta e) b = (let same : e ≡ d = grind (arith, nat_tests) in ap theta same)
begins_theta d o b = absurd (cc)

pub theta_begins : (d : ℕ) (o : Op) → shape o ≡ theta d → begins (look.Free d) o ≡ true
theta_begins d (op.Theta e) s = (let same : e ≡ d = cc in grind (arith, nat_tests))
theta_begins d o s = absurd (cc)

pub in_place : {A : Type 0} → (ks : List A) (p : ℕ) (k : A) → slice_get ks p ≡ Some k → In ks k
in_place [] p k e = absurd (let z = e in cc)
in_place (l ∷ ks) zero k e = inl (same_Some l k e)
in_place (l ∷ ks) (suc p) k e = inr (in_place ks p k e)

pub place_of : {A : Type 0} → (ks : List A) (k : A) → In ks k → (p : ℕ) × (slice_get ks p ≡ Some k)
place_of [] k m = absurd m
place_of (l ∷ ks) k (inl e) = (0, ap Some e)
place_of (l ∷ ks) k (inr m) = let r = place_of ks k m in (suc r.0, r.1)

-- the kids of an eval, of the depth or of another
abbrev eval_kids : Bool → List ℕ → List ℕ
eval_kids same [] = []
eval_kids same (a ∷ ks) = if same then ks else a ∷ ks

eval_in : (same : Bool) (ks : List ℕ) (p k : ℕ) → slice_get ks p ≡ Some k → (not same || not (p == 0)) ≡ true → In (eval_kids same ks) k
eval_in same [] p k e f = absurd (let z = e in cc)
eval_in true (a ∷ ks) zero k e f = absurd (cc)
eval_in true (a ∷ ks) (suc p) k e f = in_place ks p k e
eval_in false (a ∷ ks) p k e f = in_place (a ∷ ks) p k e

suc_not_zero : (p : ℕ) → not (suc p == 0) ≡ true
suc_not_zero p = grind (arith, nat_tests)

eval_place : (same : Bool) (ks : List ℕ) (k : ℕ) → In (eval_kids same ks) k → (p : ℕ) × (slice_get ks p ≡ Some k) × ((not same || not (p == 0)) ≡ true)
eval_place true [] k m = absurd m
eval_place false [] k m = absurd m
eval_place true (a ∷ ks) k m = let r = place_of ks k m in (suc r.0, r.1, suc_not_zero r.0)
eval_place false (a ∷ ks) k m = let r = place_of (a ∷ ks) k m in (r.0, r.1, refl)

pass_in : (same : Bool) (ks : List ℕ) (p k : ℕ) → slice_get ks p ≡ Some k → not same ≡ true → In (if same then [] else ks) k
pass_in true ks p k e f = absurd (cc)
pass_in false ks p k e f = in_place ks p k e

pass_place : (same : Bool) (ks : List ℕ) (k : ℕ) → In (if same then [] else ks) k → (p : ℕ) × (slice_get ks p ≡ Some k) × (not same ≡ true)
pass_place true ks k m = absurd m
pass_place false ks k m = let r = place_of ks k m in (r.0, r.1, refl)

open_eval : (d e : ℕ) (ks : List ℕ) → open_kids d (eval e) ks ≡ eval_kids (e == d) ks
open_eval d e [] = refl
open_eval d e (a ∷ ks) = refl

pub open_in : (d : ℕ) (o : Op) (ks : List ℕ) (p k : ℕ) → slice_get ks p ≡ Some k → follows (look.Free d) o p ≡ true → In (open_kids d (shape o) ks) k
open_in d (op.Eval e) ks p k at f = subst (λ (xs : List ℕ). In xs k) (sym (open_eval d e ks)) (eval_in (e == d) ks p k at f)
open_in d (op.Pass e) ks p k at f = pass_in (e == d) ks p k at f
open_in d o ks p k at f = in_place ks p k at

pub open_place : (d : ℕ) (o : Op) (ks : List ℕ) (k : ℕ) → In (open_kids d (shape o) ks) k → (p : ℕ) × (slice_get ks p ≡ Some k) × (follows (look.Free d) o p ≡ true)
open_place d (op.Eval e) ks k m = eval_place (e == d) ks k (subst (λ (xs : List ℕ). In xs k) (open_eval d e ks) m)
open_place d (op.Pass e) ks k m = pass_place (e == d) ks k m
open_place d o ks k m = let r = place_of ks k m in (r.0, r.1, refl)

module _ (nodes : List Node) (out : List Bool) (are : AreOut (length nodes) [] out) (d : ℕ) where
  pub leads_free : (n : ℕ) → Leads nodes out (look.Free d) n → Free (form_at nodes) d n
  leads_free n (there m b) = here m b.0.op b.0.kids (form_there nodes m b.0 b.1) (begins_theta d b.0.op b.3)
  leads_free n (through m p k node at free at_kid f h) = below m k node.op node.kids (form_there nodes m node at) (open_in d node.op node.kids p k at_kid f) (leads_free k h)

  pub free_leads : (n : ℕ) → Free (form_at nodes) d n → Leads nodes out (look.Free d) n
  free_leads n (here m o ks e s) =
      let node = node_at nodes m o ks e in
      there m (node.0, node.1, out_free (length nodes) [] out are m (slice_get_within nodes m node.0 node.1) (λ z. z), ap (λ (x : Op). begins (look.Free d) x) node.2 ∙ theta_begins d o s)
  free_leads n (below m k o ks e i h) =
      let node = node_at nodes m o ks e in
      let r = open_place d o ks k i in
      through m r.0 k node.0 node.1 (out_free (length nodes) [] out are m (slice_get_within nodes m node.0 node.1) (λ z. z))
      (ap (λ (xs : List ℕ). slice_get xs r.0) node.3 ∙ r.1) (ap (λ (x : Op). follows (look.Free d) x r.0) node.2 ∙ r.2) (free_leads k h)

-- ---- a variable that is met

as_free : (d : ℕ) (o : Op) (p : ℕ) → follows (look.Variable d) o p ≡ follows (look.Free d) o p
as_free d (op.Eval e) p = refl
as_free d (op.Pass e) p = refl
as_free d o p = refl

module _ (nodes : List Node) (out : List Bool) (are : AreOut (length nodes) [] out) (d : ℕ) where
  leads_variable : (n : ℕ) → Leads nodes out (look.Variable d) n → MeetsVariable (form_at nodes) d n
  leads_variable n (there m b) = variable m b.0.op b.0.kids (form_there nodes m b.0 b.1) b.3
  leads_variable n (through m p k node at free at_kid f h) =
      through_kid m k node.op node.kids (form_there nodes m node at) (open_in d node.op node.kids p k at_kid (sym (as_free d node.op p) ∙ f)) (leads_variable k h)

  variable_leads : (n : ℕ) → MeetsVariable (form_at nodes) d n → Leads nodes out (look.Variable d) n
  variable_leads n (variable m o ks e b) =
      let node = node_at nodes m o ks e in
      there m (node.0, node.1, out_free (length nodes) [] out are m (slice_get_within nodes m node.0 node.1) (λ z. z), ap is_variable node.2 ∙ b)
  variable_leads n (through_kid m k o ks e i h) =
      let node = node_at nodes m o ks e in
      let r = open_place d o ks k i in
      through m r.0 k node.0 node.1 (out_free (length nodes) [] out are m (slice_get_within nodes m node.0 node.1) (λ z. z))
      (ap (λ (xs : List ℕ). slice_get xs r.0) node.3 ∙ r.1) (ap (λ (x : Op). follows (look.Variable d) x r.0) node.2 ∙ (as_free d o r.0 ∙ r.2)) (variable_leads k h)

-- ---- a node that is settled

module _ (nodes : List Node) (out : List Bool) (assumed : List ℕ) (are : AreOut (length nodes) assumed out) where
  -- a node that may not end is reached
  abbrev pub Endless : ℕ → Type 0
  Endless n = (m : ℕ) × (o : Op) × (ks : List ℕ) × Reaches (form_at nodes) assumed n m × (In assumed m → ⊥) × (form_at nodes m ≡ Some (form o ks)) × (may_not_end o ≡ true)

  pub leads_endless : (n : ℕ) → Leads nodes out look.All n → Endless n
  leads_endless n (there m b) = (m, b.0.op, b.0.kids, itself m, out_clear (length nodes) assumed out are m b.2, form_there nodes m b.0 b.1, b.3)
  leads_endless n (through m p k node at free at_kid f h) =
      let r = leads_endless k h in
      (r.0, r.1, r.2, along m k r.0 node.op node.kids (out_clear (length nodes) assumed out are m free) (form_there nodes m node at) (in_place node.kids p k at_kid) r.3, r.4, r.5, r.6)

  pub endless_leads : (n m : ℕ) (o : Op) (ks : List ℕ) → Reaches (form_at nodes) assumed n m → (In assumed m → ⊥) → form_at nodes m ≡ Some (form o ks) → may_not_end o ≡ true → Leads nodes out look.All n
  endless_leads n m o ks (itself k) free e b =
      let node = node_at nodes k o ks e in
      there k (node.0, node.1, out_free (length nodes) assumed out are k (slice_get_within nodes k node.0 node.1) free, ap may_not_end node.2 ∙ b)
  endless_leads n m o ks (along a k c p js free_a at i rest) free e b =
      let node = node_at nodes a p js at in
      let r = place_of js k i in
      through a r.0 k node.0 node.1 (out_free (length nodes) assumed out are a (slice_get_within nodes a node.0 node.1) free_a) (ap (λ (xs : List ℕ). slice_get xs r.0) node.3 ∙ r.1) refl (endless_leads k c o ks rest free e b)

  -- what isn't marked is settled, and what is marked isn't
  pub unsettled : (n : ℕ) → Leads nodes out look.All n → IsSettled (form_at nodes) assumed n → ⊥
  unsettled n h calm = let r = leads_endless n h in absurd (let z = calm r.0 r.1 r.2 r.3 r.4 r.5 in let y = r.6 in cc)

  pub settled : (n : ℕ) → (Leads nodes out look.All n → ⊥) → IsSettled (form_at nodes) assumed n
  settled n none m o ks reach free e = by (may_not_end o) refl
    where
      by : (b : Bool) → may_not_end o ≡ b → may_not_end o ≡ false
      by true t = absurd (none (endless_leads n m o ks reach free e t))
      by false t = t

-- ---- what the calls answer

kid_places : (kids : List ℕ) (n : ℕ) → ((k : ℕ) → In kids k → k < n) → KidsWithin kids n
kid_places kids n h p k e = h k (in_place kids p k e)

pub all_within : (g : Graph) → IsGraph g → AllKidsWithin g.nodes (length g.nodes)
all_within g is m node at = kid_places node.kids (length g.nodes) (λ k i. kid_within g is m k node at i)

pub all_from_0 : (g : Graph) → IsGraph g → AllKidsWithin g.nodes (0 + length g.nodes)
all_from_0 g is m node at p k e = let z = all_within g is m node at p k e in omega arith

pub free_says : (g : Graph) (d n : ℕ) (marks : List Bool) (b : Bool) → IsSearched g.nodes [] (look.Free d) marks → slice_get marks n ≡ Some b → IsTrue b ↔ Free (form_at g.nodes) d n
free_says g d n marks b is at = (
  (λ t. leads_free g.nodes is.out is.are d n ((is.marked.says n).0 (at ∙ ap Some t))),
  (λ h. same_Some b true (sym at ∙ (is.marked.says n).1 (free_leads g.nodes is.out is.are d n h))),
)

pub variable_says : (g : Graph) (d n : ℕ) (marks : List Bool) (b : Bool) → IsSearched g.nodes [] (look.Variable d) marks → slice_get marks n ≡ Some b → IsTrue b ↔ MeetsVariable (form_at g.nodes) d n
variable_says g d n marks b is at = (
  (λ t. leads_variable g.nodes is.out is.are d n ((is.marked.says n).0 (at ∙ ap Some t))),
  (λ h. same_Some b true (sym at ∙ (is.marked.says n).1 (variable_leads g.nodes is.out is.are d n h))),
)

pub settled_says : (g : Graph) (assumed : List ℕ) (n : ℕ) (marks : List Bool) (b : Bool) → IsSearched g.nodes assumed look.All marks → slice_get marks n ≡ Some b → IsTrue (not b) ↔ IsSettled (form_at g.nodes) assumed n
settled_says g assumed n marks b is at = ((λ t. settled g.nodes is.out assumed is.are n (none b at t)), (λ calm. clear b at calm))
  where
    none : (b : Bool) → slice_get marks n ≡ Some b → not b ≡ true → Leads g.nodes is.out look.All n → ⊥
    none true at t h = absurd (cc)
    none false at t h = absurd (let z = (is.marked.says n).1 h in cc)

    clear : (b : Bool) → slice_get marks n ≡ Some b → IsSettled (form_at g.nodes) assumed n → not b ≡ true
    clear true at calm = absurd (unsettled g.nodes is.out assumed is.are n ((is.marked.says n).0 at) calm)
    clear false at calm = refl

pub free_marks : (g : Graph) (d : ℕ) (marks : List Bool) → IsSearched g.nodes [] (look.Free d) marks → AreFreeMarks g d marks
free_marks g d marks is = record { long = is.marked.long; says = λ n b at. free_says g d n marks b is at }

-- the other marks
not_marks : (marks : List Bool) (n : ℕ) (b : Bool) → slice_get (map not marks) n ≡ Some b → (c : Bool) × (slice_get marks n ≡ Some c) × (not c ≡ b)
not_marks [] n b at = absurd (cc)
not_marks (c ∷ marks) zero b at = (c, refl, same_Some (not c) b at)
not_marks (c ∷ marks) (suc n) b at = not_marks marks n b at

not_long : (marks : List Bool) → length (map not marks) ≡ length marks
not_long [] = refl
not_long (c ∷ marks) = ap suc (not_long marks)

pub settled_marks : (g : Graph) (assumed : List ℕ) (marks others : List Bool) → IsSearched g.nodes assumed look.All marks → others ≡ map not marks → AreSettledMarks g assumed others
settled_marks g assumed marks others is e = subst (AreSettledMarks g assumed) (sym e) (record {
  long = not_long marks ∙ is.marked.long;
  says = λ n b at. let r = not_marks marks n b at in subst (λ (c : Bool). IsTrue c ↔ IsSettled (form_at g.nodes) assumed n) r.2 (settled_says g assumed n marks r.0 is r.1);
})

-- the searches of depths so far
abbrev pub Searches : List Node → List (Vec Bool Global) → Type 0
Searches nodes free = (d : ℕ) (marks : Vec Bool Global) → slice_get free d ≡ Some marks → IsSearched nodes [] (look.Free (d + 1)) marks.items

pub searches_more : (nodes : List Node) (free : List (Vec Bool Global)) (new : Vec Bool Global) (i : ℕ) → length free ≡ i → Searches nodes free → IsSearched nodes [] (look.Free (i + 1)) new.items → Searches nodes (free ++ new ∷ [])
searches_more nodes free new i e is more d marks at = elim (push_cases free new marks d at) [
  | inl old ↦ is d marks old
  | inr last ↦ subst (λ (m : Vec Bool Global). IsSearched nodes [] (look.Free (d + 1)) m.items) last.1 (subst (λ (k : ℕ). IsSearched nodes [] (look.Free (k + 1)) new.items) (sym (last.0 ∙ e)) more)
]

-- ---- only depths of loops are free

some_if : {X : Type 0} (b : Bool) (o : Option X) (x : X) → (if b then o else None) ≡ Some x → b ≡ true
some_if true o x e = refl
some_if false o x e = absurd (cc)

depth_is : (d : ℕ) (o : Op) (ss : List OpSort) (s : OpSort) → shape o ≡ theta d → sort_over o ss ≡ Some s → is_depth d ≡ true
depth_is d (op.Theta e) ss s same over = (let one : e ≡ d = cc in ap is_depth (sym one) ∙ some_if (is_depth e) (alike ss) s over)
depth_is d o ss s same over = absurd (cc)

pub in_depths : (d : ℕ) → is_depth d ≡ true → (1 ≤ d) × (d ≤ 16)
in_depths d e = (grind (arith, nat_tests), grind (arith, nat_tests))

pub free_depth : (g : Graph) → IsGraph g → (d n : ℕ) → Free (form_at g.nodes) d n → (1 ≤ d) × (d ≤ 16)
free_depth g is d n (here m o ks e same) =
    let node = node_at g.nodes m o ks e in
    let s = found g.sorts m (let z = slice_get_within g.nodes m node.0 node.1 in let y = is.long in omega arith) in
    let there_ : shape node.0.op ≡ theta d = ap shape node.2 ∙ same in
    in_depths d (elim (is.sorted m node.0 s.0 node.1 s.1) [
      | inl has ↦ depth_is d node.0.op has.sorts s.0 there_ has.over
      | inr un ↦
          let one : un.1.depth ≡ d = (let z = sym (ap shape un.1.theta_) ∙ there_ in cc) in
          ap is_depth (sym one) ∙ un.1.loop
    ])
free_depth g is d n (below m k o ks e i h) = free_depth g is d k h

-- what is free by the marks for a depth
pub free_now_says : (g : Graph) (d n : ℕ) (marks : List Bool) (b : Bool) → 1 ≤ d → IsSearched g.nodes [] (look.Free (d - 1 + 1)) marks → slice_get marks n ≡ Some b → IsTrue b ↔ Free (form_at g.nodes) d n
free_now_says g d n marks b low is at =
    let one : d - 1 + 1 ≡ d = omega arith in
    free_says g d n marks b (subst (λ (k : ℕ). IsSearched g.nodes [] (look.Free k) marks) one is) at

pub no_depth : (g : Graph) → IsGraph g → (d n : ℕ) → ((1 ≤ d) × (d ≤ 16) → ⊥) → IsTrue false ↔ Free (form_at g.nodes) d n
no_depth g is d n out = ((λ t. absurd (let z = t in cc)), (λ h. absurd (out (free_depth g is d n h))))
