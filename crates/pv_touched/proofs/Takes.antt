-- The matches that were known can be taken over beside those at the touched nodes.
use Rattle.std.proofs.Common.{◌≡◌, ◌⊎◌, ℕ, ◌<◌, ◌≤◌, Bool, List, [], ◌∷◌, ◌++◌, map, length, Some, inl, inr, refl, sym, ap, ap₂, ◌∙◌, subst, arith}
use Rattle.std.specs.List.{AllByRecursion}
use Rattle.std.proofs.lemmas.List.{map-append}
use Rattle.std.proofs.lemmas.Option.{slice_get_within}
use Rattle.pv_graph.specs.declared.node.Op.{Op}
use Rattle.pv_graph.specs.Forms.{form}
use Rattle.pv_graph.specs.Walks.{In}
use Rattle.pv_graph.specs.Graphs.{Graph, form_at}
use Rattle.pv_graph.proofs.Cited.{node_at}
use Rattle.pv_pattern.specs.Patterns.{over, Axiom}
use Rattle.pv_pattern.specs.Instances.{head_op}
use Rattle.pv_marks.specs.Classes.{class_of}
use Rattle.pv_match.specs.declared.found.Match.{Match}
use Rattle.pv_match.specs.declared.found.Param.{Param}
use Rattle.pv_match.specs.Bindings.{depth_in}
use Rattle.pv_match.specs.Kept.{IsKept, KeepsForms}
use Rattle.pv_match.specs.Standing.{AllStandIn}
use Rattle.pv_match.specs.Matches.{IsMatch, IsMatchAt, StartsAt}
use Rattle.pv_match.specs.Reading.{IsReadable, AreReadable}
use Rattle.pv_match.specs.Rematching.{IsKnown, StartsAmong, CanTakeOver}
use Rattle.pv_match.proofs.Cited.{IsNumber, depth_range, found_match, starts}
use Rattle.pv_touched.specs.declared.since.Since.{Since}
use Rattle.pv_touched.specs.Earlier.{look_of, WasSeen, IsNow}
use Rattle.pv_touched.specs.Looks.{TableWithin}
use Rattle.pv_touched.specs.Far.{ListsTouched, ListsNear, AreFar}
use Rattle.pv_touched.proofs.Before.{match_before}
use Rattle.pv_touched.proofs.Onward.{all_moved, match_onward}

-- where all nodes are listed that have kids near a class that changed, all others are untouched
pub near_touched : (g : Graph) (s : Since) (d : ℕ) (kept near : List Bool) (touched : List ℕ) → AreFar g s d near → ListsNear g s kept near touched → ListsTouched g s d kept touched
near_touched g s d kept near touched far lists n lt keep = elim (lists n lt keep) [ inl i ↦ inl i | inr u ↦ inr (u.0, (λ o ks at k i. far (class_of s.numbers.now k) (u.1 o ks at k i))) ]

-- a match that starts at a node starts at one that is kept
kept_start : (g : Graph) (numbers assumed : List ℕ) (kept : List Bool) → KeepsForms g numbers kept → (a : Axiom) (n : ℕ) (params : List Param) (classes : List ℕ) → IsReadable a → IsMatchAt g numbers assumed a n params classes
    → (k : ℕ) × (k < length g.nodes) × IsKept kept k × IsMatchAt g numbers assumed a k params classes
kept_start g numbers assumed kept keeps a n params classes r i =
    let m = i.names in
    let o = head_op m r.head in
    let x : StartsAt g numbers m (over r.head r.parts) n = subst (λ p. StartsAt g numbers m p n) r.left i.starts in
    let k = keeps (class_of numbers n) o (map (class_of numbers) x.0) (record { node = n; kids = x.0; is = x.1; here = refl; classes = refl }) in
    let f = k.0 in
    let y : StartsAt g numbers m (over r.head r.parts) f.node = (f.kids, f.is, subst (AllStandIn g numbers m r.parts) (sym f.classes) x.2) in
    let node = node_at g.nodes f.node o f.kids f.is in
    (f.node, slice_get_within g.nodes f.node node.0 node.1, k.1, record { names = m; starts = subst (λ p. StartsAt g numbers m p f.node) (sym r.left) y; fits = i.fits })

module _ (e g : Graph) (s : Since) (assumed : List ℕ) (table : List Axiom) (known : List Match) (readable : AreReadable table) (now_ : IsNow g s.numbers.now assumed s.marks.now) (seen : WasSeen e g s.numbers.now assumed table (look_of s known)) where
  abbrev f : ℕ → ℕ
  f = class_of s.numbers.now

  abbrev old : List ℕ
  old = s.old_numbers.now

  onward : (params : List Param) (classes : List ℕ) (a : Axiom) → In table a → IsMatch e old assumed a params classes → IsMatch g s.numbers.now assumed a params (map f classes)
  onward params classes a t i =
      match_onward e g seen.graph seen.grown old s.numbers.now assumed seen.base seen.least.low seen.least.least seen.joined a params classes (readable a t) i

  stay : (x : Match) → In known x → (a : Axiom) × In table a × (x.axiom ≡ a.number) × IsMatch g s.numbers.now assumed a x.params.items (map f x.classes.items)
  stay x i =
      let k = seen.known_.over_.stay x i in (
        k.0,
        k.1,
        k.2,
        subst (λ (cs : List ℕ). IsMatch g s.numbers.now assumed k.0 x.params.items cs)
            (all_moved e g seen.graph seen.grown old s.numbers.now assumed seen.base seen.least.low seen.least.least seen.joined x.classes.items (λ c j. seen.known_.within x c i j))
            (onward x.params.items (map (class_of old) x.classes.items) k.0 k.1 k.3),
      )

  -- the numbers of classes are what they are
  numbers_stay : (xs : List ℕ) → AllByRecursion (IsNumber g s.numbers.now now_.least) xs → map f xs ≡ xs
  numbers_stay [] h = refl
  numbers_stay (x ∷ xs) h = ap₂ (λ y ys. y ∷ ys) h.0.1 (numbers_stay xs h.1)

  -- a match of now that is one of the earlier look is a known one
  known_now : (a : Axiom) (params : List Param) (classes : List ℕ) → In table a → IsMatch g s.numbers.now assumed a params classes → IsMatch e old assumed a params classes → IsKnown s.numbers.now known a params classes
  known_now a params classes t now was = elim (seen.known_.over_.rest a params classes t was) [
    | inl v ↦ absurd v.1
    | inr k ↦
        let n = found_match g s.numbers.now assumed table now_.least a t (readable a t) params classes now in
        let same : map f classes ≡ classes = ap (map f) now.fits.are ∙ (map-append f now.names.kids now.names.vars ∙ (ap₂ (λ x y. x ++ y) (numbers_stay now.names.kids n.1) (numbers_stay now.names.vars n.2) ∙ sym now.fits.are)) in (
          k.0,
          k.1,
          k.2,
          k.3,
          sym (all_moved e g seen.graph seen.grown old s.numbers.now assumed seen.base seen.least.low seen.least.least seen.joined k.0.classes.items (λ c j. seen.known_.within k.0 c k.1 j)) ∙ (ap (map f) k.4 ∙ same),
        )
  ]

  node_depth : (n : ℕ) (o : Op) (ks : List ℕ) (d : ℕ) → form_at g.nodes n ≡ Some (form o ks) → depth_in o ≡ Some d → (1 ≤ d) × (d ≤ 16)
  node_depth n o ks d at is = let w = node_at g.nodes n o ks at in depth_range g now_.least.graph n w.0 w.1 d (ap depth_in w.2 ∙ is)

  rest : (d : ℕ) (kept : List Bool) (touched : List ℕ) → KeepsForms g s.numbers.now kept → TableWithin d table → ListsTouched g s d kept touched → (a : Axiom) (params : List Param) (classes : List ℕ) → In table a → IsMatch g s.numbers.now assumed a params classes
      → StartsAmong g s.numbers.now assumed touched a params classes ⊎ IsKnown s.numbers.now known a params classes
  rest d kept touched keeps within lists a params classes t i =
      let start = (starts g s.numbers.now assumed a params classes (readable a t)).0 i in
      let at = kept_start g s.numbers.now assumed kept keeps a start.0 params classes (readable a t) start.2 in
      elim (lists at.0 at.1 at.2) [
        | inl there ↦ inl (at.0, there, at.3)
        | inr u ↦
            let was : IsMatchAt e old assumed a at.0 params classes =
            match_before e g seen.graph now_.least.graph seen.grown s seen.least.long now_.least.long assumed seen.marks_ now_.marks_ node_depth d a (readable a t) (within a t) at.0 u params classes at.3 in
            inr (known_now a params classes t i ((starts e old assumed a params classes (readable a t)).1 (at.0, (let l = u.0 in let k = seen.least.long in omega (arith, l, k)), was)))
      ]

  pub can_take_over : (d : ℕ) (kept : List Bool) (touched : List ℕ) → KeepsForms g s.numbers.now kept → TableWithin d table → ListsTouched g s d kept touched → CanTakeOver g s.numbers.now assumed table known touched
  can_take_over d kept touched keeps within lists = record { stay = stay; rest = rest d kept touched keeps within lists }

  -- where all nodes are listed
  pub takes_all : (touched : List ℕ) → ((n : ℕ) → n < length g.nodes → In touched n) → CanTakeOver g s.numbers.now assumed table known touched
  takes_all touched all = record {
    stay = stay;
    rest = λ a params classes t i. (let at = (starts g s.numbers.now assumed a params classes (readable a t)).0 i in inl (at.0, all at.0 at.1, at.2));
  }
