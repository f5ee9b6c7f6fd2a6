-- The marks of a right section, when all steps were looked at: kept steps keep what they cite, and each is wanted.
use Rattle.std.specs.Prelude.{◌≡◌, ◌≢◌, ◌⊎◌, ℕ, zero, suc, ◌+◌, ◌<◌, ◌≤◌, Bool, true, false, List, [], ◌∷◌, map, length, reverse, Option, Some, None, slice_get, if◌then◌else◌, refl}
use Rattle.std.proofs.Common.{inl, inr, sym, ap, ◌∙◌, subst, arith}
use Rattle.std.proofs.lemmas.Option.{slice_get_within, same_Some}
use Rattle.pv_graph.specs.declared.node.Op.{Op}
use Rattle.pv_graph.specs.Walks.{In}
use Rattle.pv_graph.specs.Graphs.{Graph, IsWellMade}
use Rattle.pv_graph.proofs.Cited.{bind_some}
use Rattle.pv_steps.specs.declared.step.Fact.{Fact}
use Rattle.pv_steps.specs.declared.step.Step.{Step}
use Rattle.pv_steps.specs.declared.step.Step.TheVariants as steps
use Rattle.pv_steps.specs.declared.step.Step.TheVariants.{Axiom, Use, Flip, Chain, Set, Open, Close, Assume, Finish}
use Rattle.pv_steps.specs.declared.step.Reason.{Reason}
use Rattle.pv_steps.specs.declared.step.Reason.TheVariants.{Same, By, Pair}
use Rattle.pv_steps.specs.declared.step.Congruence.{Congruence}
use Rattle.pv_steps.specs.Steps.{Block, Loop, Ending, OpenBlock, outer_of, pairs_of, both_sides, Stated, states, open_after, stated_at, numbered, Equality, equality_at}
use Rattle.std.specs.List.{AllZip}
use Rattle.pv_steps.specs.Right.{GraphAfter, Gives, ClosesPair, Instances, Right}
use Rattle.pv_steps.specs.Accepted.{AllRight, LastStates, first_steps}
use Rattle.pv_steps.proofs.Cited.{next_steps, right_at, whole_steps}
use Rattle.pv_trim.specs.Citing.{named, facts, is_end, IsInnermost, Cites}
use Rattle.pv_trim.specs.Spelling.{IsNoPair, HasMembers, HaveMembers}
use Rattle.pv_trim.specs.Moving.{count, is_kept, moved, moved_reason, moved_pair, moved_facts, moved_congruence, kept_steps}
use Rattle.pv_trim.specs.Keeping.{is_node, KeepsWithNode, KeepsCited, AllKeepCited, AreWanted}
use Rattle.pv_trim.specs.Marks.{is_on, IsOn, innermost, ended, AreEnds, IsCiting, AreMarks}
use Rattle.pv_trim.proofs.Counting.{yes_or_no}
use Rattle.pv_trim.proofs.Stated.{stated_low, numbered_sides}
use Rattle.pv_trim.proofs.Living.{facts_seen, open_below, open_started, AreBelow, AreStarted}
use Rattle.pv_trim.proofs.StepsMoved.{AreCarried}
use Rattle.pv_trim.proofs.Kept.{IsTrimmed, trimmed}
use Rattle.pv_trim.proofs.Naming.{AreOfNodes, AreLow, NamesNodes, right_names, grown_low}
use Rattle.pv_trim.proofs.Fronts.{count_first, less_cases, element, stated_first, makes_first, none_stated}

-- two tests that agree one way and the other are one
same_test : (a b : Bool) → (a ≡ true → b ≡ true) → (b ≡ true → a ≡ true) → a ≡ b
same_test true b f g = sym (f refl)
same_test false true f g = g refl
same_test false false f g = refl

-- the number of a step that states something is one more than its place
place_of : (before : List Step) (k : ℕ) (st : Stated) → stated_at before k ≡ Some st → (j : ℕ) × (k ≡ suc j)
place_of before zero st e = absurd (none_stated before st e)
place_of before (suc j) st e = (j, refl)

no_pairs : (t : Step) (k : ℕ) (inside : List OpenBlock) → is_node t ≡ true → (states t k inside).pairs ≡ []
no_pairs (steps.Node n o kids) k inside is = refl
no_pairs t k inside is = absurd (cc)

no_block : (t : Step) (k : ℕ) (inside : List OpenBlock) → is_node t ≡ true → (states t k inside).around ≡ inside
no_block (steps.Node n o kids) k inside is = refl
no_block t k inside is = absurd (cc)

below_once : (n : ℕ) (p : OpenBlock) (ps : List OpenBlock) → AreBelow n (p ∷ ps) → p.opened < n
below_once n p ps b = b.0

module _ (Instance : Instances) (of_nodes : AreOfNodes Instance) (g : Graph) (made : IsWellMade g) (sealed : g.is_open ≡ false)
    (section : List Step) (right : AllRight Instance g (reverse section)) (ends : List (Option ℕ)) (are_ends : AreEnds section ends)
    (marks nodes : List Bool) (m : AreMarks section ends (length g.nodes) (length g.nodes + length section) 0 marks nodes) where
  all_right : AllRight Instance g (first_steps (length section) section)
  all_right = subst (AllRight Instance g) (sym (whole_steps section)) right

  right_there : (k : ℕ) (s : Step) → slice_get section k ≡ Some s → Right Instance g (first_steps k section) s
  right_there k s there = right_at Instance g section (length section) k (omega arith) all_right (slice_get_within section k s there) s there

  -- a fact that a step cites is one of an earlier step that makes no node
  record IsFactOf (k j : ℕ) (x : Fact) : Type 0 where
    place : x.step ≡ suc j
    before : j < k
    t : Step
    there : slice_get section j ≡ Some t
    other : is_node t ≡ false
    states_ : (e : Equality) × (equality_at (first_steps k section) x ≡ Some e)

  fact_of : (k : ℕ) (s : Step) → slice_get section k ≡ Some s → (x : Fact) → In (facts s) x → (j : ℕ) × IsFactOf k j x
  fact_of k s there x i =
      let low = slice_get_within section k s there in
      let long = count_first section k (omega (arith, low)) in
      let r = right_there k s there in
      let sees = facts_seen Instance r.0 (first_steps k section) s r.2 x i in
      let st = bind_some (stated_at (first_steps k section) x.step) _ sees.e sees.stated in
      let place = place_of (first_steps k section) x.step st.0 st.1 in
      let late = stated_low (first_steps k section) x.step st.0 st.1 in
      let less : place.0 < k = let e = place.1 in omega (arith, late, long, e) in
      let t = element section place.0 (omega (arith, less, low)) in (
        place.0,
        record {
          place = place.1;
          before = less;
          t = t.0;
          there = t.1;
          other = elim (yes_or_no (is_node t.0)) [
            | inl is ↦
                (let p = bind_some (numbered st.0.pairs x.place) _ sees.e st.2 in
                let same : st.0 ≡ states t.0 (suc place.0) (open_after (first_steps place.0 section)) =
                same_Some _ _ (sym st.1 ∙ ap (stated_at (first_steps k section)) place.1 ∙ stated_first section k place.0 t.0 (omega (arith, low)) less t.1) in
                let none : st.0.pairs ≡ [] = ap (λ (q : Stated). q.pairs) same ∙ no_pairs t.0 (suc place.0) (open_after (first_steps place.0 section)) is in
                absurd {A = is_node t.0 ≡ false} (numbered_sides [] x.place p.0 (subst (λ (q : List (ℕ × ℕ)). numbered q x.place ≡ Some p.0) none p.1)).0)
            | inr is ↦ is
          ];
          states_ = (sees.e, sees.stated);
        },
      )

  -- the block that a step ends was opened by an earlier step that makes no node
  record IsOpened (k j : ℕ) (p : OpenBlock) : Type 0 where
    place : p.opened ≡ suc j
    before : j < k
    t : Step
    there : slice_get section j ≡ Some t
    other : is_node t ≡ false

  opened_of : (k : ℕ) → k ≤ length section → (p : OpenBlock) (ps : List OpenBlock) → open_after (first_steps k section) ≡ p ∷ ps → (j : ℕ) × IsOpened k j p
  opened_of k low p ps inner =
      let long = count_first section k low in
      let below = below_once (suc (length (first_steps k section))) p ps (subst (AreBelow (suc (length (first_steps k section)))) inner (open_below (first_steps k section))) in
      let started = first_started (open_after (first_steps k section)) inner (open_started (first_steps k section)) in
      let place = place_of (first_steps k section) p.opened started.0 started.1 in
      let less : place.0 < k = let e = place.1 in omega (arith, below, long, e) in
      let t = element section place.0 (omega (arith, less, low)) in (
        place.0,
        record {
          place = place.1;
          before = less;
          t = t.0;
          there = t.1;
          other = elim (yes_or_no (is_node t.0)) [
            | inl is ↦
                (let same : started.0 ≡ states t.0 (suc place.0) (open_after (first_steps place.0 section)) =
                same_Some _ _ (sym started.1 ∙ ap (stated_at (first_steps k section)) place.1 ∙ stated_first section k place.0 t.0 low less t.1) in
                let around : open_after (first_steps place.0 section) ≡ p ∷ ps = sym (no_block t.0 (suc place.0) (open_after (first_steps place.0 section)) is) ∙ ap (λ (q : Stated). q.around) (sym same) ∙ started.2 in
                let again = below_once (suc (length (first_steps place.0 section))) p ps (subst (AreBelow (suc (length (first_steps place.0 section)))) around (open_below (first_steps place.0 section))) in
                let short = count_first section place.0 (omega (arith, less, low)) in
                let e = place.1 in
                absurd (omega (arith, again, short, e)))
            | inr is ↦ is
          ];
        },
      )
    where
      first_started : (qs : List OpenBlock) → qs ≡ p ∷ ps → AreStarted (first_steps k section) qs → (st : Stated) × (stated_at (first_steps k section) p.opened ≡ Some st) × (st.around ≡ p ∷ ps)
      first_started qs e h = (subst (AreStarted (first_steps k section)) e h).0

  names_first : (n : ℕ) → n ≤ length section → NamesNodes Instance of_nodes g (first_steps n section) → (j : ℕ) (t : Step) → j < n → slice_get section j ≡ Some t → (now : Graph) → GraphAfter g (first_steps j section) now → AreLow (length now.nodes) (named t)
  names_first zero low names j t less there = absurd (omega (arith, less))
  names_first (suc n) low names j t less there =
      let last = element section n (omega (arith, low)) in
      let names_ : NamesNodes Instance of_nodes g (last.0 ∷ first_steps n section) = subst (NamesNodes Instance of_nodes g) (next_steps section n last.0 last.1) names in
      elim (less_cases j n less) [
        | inl h ↦ names_first n (omega (arith, low)) names_.1 j t h there
        | inr same ↦
            (let one : last.0 ≡ t = same_Some _ _ (sym last.1 ∙ ap (slice_get section) (sym same) ∙ there) in
            λ now after. subst (λ (q : Step). AreLow (length now.nodes) (named q)) one (names_.0 now (subst (λ (q : ℕ). GraphAfter g (first_steps q section) now) same after)))
      ]

  -- a named node is one of the graph of the moment
  names : (j : ℕ) (t : Step) → slice_get section j ≡ Some t → (now : Graph) → GraphAfter g (first_steps j section) now → AreLow (length now.nodes) (named t)
  names j t there =
      names_first (length section) (omega arith) (subst (NamesNodes Instance of_nodes g) (sym (whole_steps section)) (right_names Instance of_nodes g made sealed (reverse section) right)) j t (slice_get_within section j t there) there

  -- .. and of later ones
  named_at : (k : ℕ) → k ≤ length section → (now : Graph) → GraphAfter g (first_steps k section) now → (j n : ℕ) (t : Step) → j < k → slice_get section j ≡ Some t → In (named t) n → n < length now.nodes
  named_at zero low now after j n t less there i = absurd (omega (arith, less))
  named_at (suc k) low now after j n t less there i =
      let last = element section k (omega (arith, low)) in
      let after_ : GraphAfter g (last.0 ∷ first_steps k section) now = subst (λ (q : List Step). GraphAfter g q now) (next_steps section k last.0 last.1) after in
      let grows = grown_low Instance of_nodes last.0 after_.0 now after_.2 in
      let old : n < length after_.0.nodes = elim (less_cases j k less) [
        | inl h ↦ named_at k (omega (arith, low)) after_.0 after_.1 j n t h there i
        | inr same ↦ names j t there after_.0 (subst (λ (q : ℕ). GraphAfter g (first_steps q section) after_.0) (sym same) after_.1) n i
      ]
      in
      omega (arith, grows, old)

  -- the number of a node that a step makes is that of the nodes before it
  made_at : (k n : ℕ) (o : Op) (kids : List ℕ) → slice_get section k ≡ Some (steps.Node n o kids) → (now : Graph) × GraphAfter g (first_steps k section) now × (n ≡ length now.nodes)
  made_at k n o kids there = let r = right_there k (steps.Node n o kids) there in (r.0, r.1, r.2.1.number)

  first_low : (k : ℕ) (now : Graph) → GraphAfter g (first_steps k section) now → length g.nodes ≤ length now.nodes
  first_low k now after = go (first_steps k section) now after
    where
      go : (before : List Step) (now : Graph) → GraphAfter g before now → length g.nodes ≤ length now.nodes
      go [] now e = let z = ap (λ (x : Graph). length x.nodes) e in omega (arith, z)
      go (s ∷ before) now h = let z = go before h.0 h.1 in let y = grown_low Instance of_nodes s h.0 now h.2 in omega (arith, y, z)

  -- ---- kept steps keep what they cite

  node_kept : (k : ℕ) → (s : Step) → slice_get section k ≡ Some s → KeepsWithNode (is_on marks) (is_on nodes) s k
  node_kept k (steps.Node n o kids) there =
      let at = made_at k n o kids there in
      same_test (is_on marks k) (is_on nodes n) (m.made k n o kids (omega arith) there)
      (λ z. elim (m.needed k n o kids (omega arith) there z) [
        | inl y ↦ y
        | inr y ↦ elim y [
          | inl low ↦ (let z = first_low k at.0 at.1 in let e = at.2 in absurd (omega (arith, z, e, low)))
          | inr x ↦ (let (j, a, b, t) = x in
              let low = slice_get_within section k (steps.Node n o kids) there in
              let z = named_at k (omega (arith, low)) at.0 at.1 j n t.0 b t.1 t.3 in
              let e = at.2 in
              absurd (omega (arith, z, e)))
        ]
      ])
  node_kept k (Axiom n a b xs) there = tt
  node_kept k (Use n a b xs) there = tt
  node_kept k (Flip a b x) there = tt
  node_kept k (Chain a b x y) there = tt
  node_kept k (Set cs) there = tt
  node_kept k (Open d ps) there = tt
  node_kept k (Close d fs) there = tt
  node_kept k (Assume p ns) there = tt
  node_kept k (Finish p q t u v w) there = tt

  ended_is : (s : Step) (inside : List OpenBlock) (p : OpenBlock) (ps : List OpenBlock) → is_end s ≡ true → inside ≡ p ∷ ps → ended s inside ≡ Some p.opened
  ended_is s inside p ps end e = ap (λ (b : Bool). if b then innermost inside else None) end ∙ ap innermost e

  keeps_at : (k : ℕ) (s : Step) → slice_get section k ≡ Some s → (before : List Step) → before ≡ first_steps k section → KeepsCited (is_on marks) (is_on nodes) (length g.nodes + length section) before s
  keeps_at k s there before e =
      let low = slice_get_within section k s there in
      let long : length before ≡ k = ap length e ∙ count_first section k (omega (arith, low)) in
      let on : is_on marks (length before) ≡ true → IsOn marks k = λ z. ap (is_on marks) (sym long) ∙ z in
      record {
        node = subst (KeepsWithNode (is_on marks) (is_on nodes) s) (sym long) (node_kept k s there);
        nodes = λ z n i less. (m.cited k s (omega arith) there (on z)).nodes_ n i less;
        facts_ = λ z x i.
            let f = fact_of k s there x i in
            let h = f.1 in
            ap (is_kept (is_on marks)) h.place ∙ (m.cited k s (omega arith) there (on z)).facts_ x f.0 h.t i h.place h.before h.there h.other;
        ends = λ z end p ps inner.
            let inner_ : open_after (first_steps k section) ≡ p ∷ ps = ap open_after (sym e) ∙ inner in
            let f = opened_of k (omega (arith, low)) p ps inner_ in
            let h = f.1 in
            let number : slice_get ends k ≡ Some (Some (suc f.0)) = are_ends.each k s there ∙ ap Some (ended_is s (open_after (first_steps k section)) p ps end inner_ ∙ ap Some h.place) in
            ap (is_kept (is_on marks)) h.place ∙ (m.cited k s (omega arith) there (on z)).ends_ f.0 h.t number h.before h.there h.other;
      }

  all_keep : (n : ℕ) → n ≤ length section → AllKeepCited (is_on marks) (is_on nodes) (length g.nodes + length section) (first_steps n section)
  all_keep zero low = tt
  all_keep (suc n) low =
      let last = element section n (omega (arith, low)) in
      subst (AllKeepCited (is_on marks) (is_on nodes) (length g.nodes + length section)) (sym (next_steps section n last.0 last.1)) (keeps_at n last.0 last.1 (first_steps n section) refl, all_keep n (omega (arith, low)))

  -- ---- each is wanted

  number_is : (inside : List OpenBlock) (j : ℕ) → innermost inside ≡ Some (suc j) → IsInnermost inside (suc j)
  number_is [] j e = absurd (cc)
  number_is (p ∷ ps) j e = same_Some p.opened (suc j) e

  ends_block : (s : Step) (inside : List OpenBlock) (j : ℕ) → ended s inside ≡ Some (suc j) → (is_end s ≡ true) × IsInnermost inside (suc j)
  ends_block s inside j e = go (is_end s) refl e
    where
      go : (b : Bool) → is_end s ≡ b → (if b then innermost inside else None) ≡ Some (suc j) → (is_end s ≡ true) × IsInnermost inside (suc j)
      go true h z = (h, number_is inside j z)
      go false h z = absurd (cc)

  cites_at : (i k : ℕ) → i < k → IsCiting section ends marks i k → (s : Step) × (slice_get section k ≡ Some s) × IsOn marks k × Cites (first_steps k section) s (suc i)
  cites_at i k less (s, there, on, inl (x, mem, place)) = (s, there, on, inl (x, mem, place, (fact_of k s there x mem).1.states_))
  cites_at i k less (s, there, on, inr (inl e)) =
      let z : ended s (open_after (first_steps k section)) ≡ Some (suc i) = same_Some _ _ (sym (are_ends.each k s there) ∙ e) in
      (s, there, on, inr (inr (ends_block s (open_after (first_steps k section)) i z)))
  cites_at i k less (s, there, on, inr (inr (n, o, kids, is, mem))) =
      let low = slice_get_within section k s there in
      (s, there, on, inr (inl (n, mem, makes_first section k i n o kids (omega (arith, low)) less is)))

  -- W wants what the steps from place n on cite, and the last
  abbrev AllWanted : ℕ → (ℕ → Type 0) → Type 0
  AllWanted n W =
      (W (length section))
      × ((i k : ℕ) (s : Step) → n ≤ k → i < k → slice_get section k ≡ Some s → IsOn marks k → Cites (first_steps k section) s (suc i) → W (suc i))

  are_wanted : (n : ℕ) → n ≤ length section → (W : ℕ → Type 0) → AllWanted n W → AreWanted (is_on marks) W (first_steps n section)
  are_wanted zero low W h = tt
  are_wanted (suc n) low W h =
      let last = element section n (omega (arith, low)) in
      let long = count_first section n (omega (arith, low)) in
      let kept : is_on marks (length (first_steps n section)) ≡ true → IsOn marks n = λ z. ap (is_on marks) (sym long) ∙ z in
      let here : is_on marks (length (first_steps n section)) ≡ true → W (suc (length (first_steps n section))) = λ z.
      subst (λ (q : ℕ). W (suc q)) (sym long) (elim (m.wanted n (kept z)) [
        | inl e ↦ subst W (sym e) h.0
        | inr y ↦ elim y [
          | inl x ↦ (let (k, a, b, c) = x in let t = cites_at n k b c in h.1 n k t.0 (omega (arith, b)) b t.1 t.2 t.3)
          | inr x ↦ (let (v, o, kids, is, less) = x in
              let at = made_at n v o kids is in
              let l = first_low n at.0 at.1 in
              let e = at.2 in
              absurd (omega (arith, l, e, less)))
        ]
      ])
      in
      let later : AllWanted n (λ j. W j ⊎ ((is_on marks (length (first_steps n section)) ≡ true) × Cites (first_steps n section) last.0 j)) = (
        inl h.0,
        λ i k s from less there on cites. elim (from_cases n k from) [
          | inl same ↦
              (let one : s ≡ last.0 = same_Some _ _ (sym there ∙ ap (slice_get section) (sym same) ∙ last.1) in
              inr (
                ap (is_on marks) (long ∙ same) ∙ on,
                subst (λ (t : Step). Cites (first_steps n section) t (suc i)) one (subst (λ (q : ℕ). Cites (first_steps q section) s (suc i)) (sym same) cites),
              ))
          | inr more ↦ inl (h.1 i k s more less there on cites)
        ],
      )
      in
      subst (AreWanted (is_on marks) W) (sym (next_steps section n last.0 last.1)) (here, are_wanted n (omega (arith, low)) (λ j. W j ⊎ ((is_on marks (length (first_steps n section)) ≡ true) × Cites (first_steps n section) last.0 j)) later)
    where
      from_cases : (n k : ℕ) → n ≤ k → (n ≡ k) ⊎ (suc n ≤ k)
      from_cases n k h = grind arith

  -- ---- lists that must have members

  -- the pairs of a step are some
  abbrev HasPairs : ℕ → Step → Type 0
  HasPairs k s = (states s (suc k) (open_after (first_steps k section))).pairs ≢ []

  -- a marked step ends the block that step k + 1 opened
  record IsEnded (k : ℕ) : Type 0 where
    at : ℕ
    s : Step
    there : slice_get section at ≡ Some s
    on : IsOn marks at
    later : k < at
    ends_ : is_end s ≡ true
    inner : IsInnermost (open_after (first_steps at section)) (suc k)

  some_pairs : (ps : List (ℕ × ℕ)) (j : ℕ) (p : ℕ × ℕ) → numbered ps j ≡ Some p → ps ≢ []
  some_pairs ps j p e none = (numbered_sides [] j p (subst (λ (q : List (ℕ × ℕ)). numbered q j ≡ Some p) none e)).0

  -- a marked step that makes no node states something, or its block is ended by a marked step
  used : (a b : ℕ) → LastStates (reverse section) a b → (k : ℕ) (s : Step) → slice_get section k ≡ Some s → IsOn marks k → is_node s ≡ false → HasPairs k s ⊎ IsEnded k
  used a b last k s there on other = elim (m.wanted k on) [
    | inl e ↦ inl (λ none.
        let long : length (reverse section) ≡ suc k = ap length (sym (whole_steps section)) ∙ count_first section (length section) (omega arith) ∙ sym e in
        let st : Some (states s (suc k) (open_after (first_steps k section))) ≡ Some last.stated =
        sym (stated_first section (length section) k s (omega arith) (omega (arith, e)) there)
        ∙ ap (λ (q : List Step). stated_at q (suc k)) (whole_steps section) ∙ ap (stated_at (reverse section)) (sym long) ∙ last.last
        in
        subst (λ (q : List (ℕ × ℕ)). In {A = ℕ × ℕ} q (a, b)) (sym (ap (λ (q : Stated). q.pairs) (same_Some _ _ st)) ∙ none) last.states_)
    | inr y ↦ elim y [
      | inl x ↦ (let (at, low, later, cites) = x in cited_cases at later cites)
      | inr x ↦ (let (n, o, kids, is, low) = x in absurd (let z : s ≡ steps.Node n o kids = same_Some _ _ (sym there ∙ is) in let w : false ≡ true = sym other ∙ ap is_node z in cc w))
    ]
  ]
    where
      cited_cases : (at : ℕ) → k < at → IsCiting section ends marks k at → HasPairs k s ⊎ IsEnded k
      cited_cases at later (t, is, yes_, inl (x, mem, place)) =
          let f = (fact_of at t is x mem).1 in
          let st = bind_some (stated_at (first_steps at section) x.step) _ f.states_.0 f.states_.1 in
          let p = bind_some (numbered st.0.pairs x.place) _ f.states_.0 st.2 in
          let low = slice_get_within section at t is in
          let same : st.0 ≡ states s (suc k) (open_after (first_steps k section)) =
          same_Some _ _ (sym st.1 ∙ ap (stated_at (first_steps at section)) place ∙ stated_first section at k s (omega (arith, low)) later there)
          in
          inl (λ none. some_pairs st.0.pairs x.place p.0 p.1 (ap (λ (q : Stated). q.pairs) same ∙ none))
      cited_cases at later (t, is, yes_, inr (inl e)) =
          let z : ended t (open_after (first_steps at section)) ≡ Some (suc k) = same_Some _ _ (sym (are_ends.each at t is) ∙ e) in
          let h = ends_block t (open_after (first_steps at section)) k z in
          inr (record { at = at; s = t; there = is; on = yes_; later = later; ends_ = h.0; inner = h.1 })
      cited_cases at later (t, is, yes_, inr (inr (n, o, kids, made_, mem))) = absurd (let z : s ≡ steps.Node n o kids = same_Some _ _ (sym there ∙ made_) in let w : false ≡ true = sym other ∙ ap is_node z in cc w)

  -- the step whose block is ended states it
  opens : (k : ℕ) (s : Step) → slice_get section k ≡ Some s → (h : IsEnded k)
      → (p : OpenBlock) × (ps : List OpenBlock) × (open_after (first_steps h.at section) ≡ p ∷ ps) × (p.opened ≡ suc k) × ((states s (suc k) (open_after (first_steps k section))).around ≡ p ∷ ps)
  opens k s there h = go (open_after (first_steps h.at section)) refl h.inner (open_started (first_steps h.at section))
    where
      go : (qs : List OpenBlock) → open_after (first_steps h.at section) ≡ qs → IsInnermost qs (suc k) → AreStarted (first_steps h.at section) qs
          → (p : OpenBlock) × (ps : List OpenBlock) × (open_after (first_steps h.at section) ≡ p ∷ ps) × (p.opened ≡ suc k) × ((states s (suc k) (open_after (first_steps k section))).around ≡ p ∷ ps)
      go [] e i started = absurd i
      go (p ∷ ps) e i started =
          let low = slice_get_within section h.at h.s h.there in
          let same : states s (suc k) (open_after (first_steps k section)) ≡ started.0.0 =
          same_Some _ _ (sym (stated_first section h.at k s (omega (arith, low)) h.later there) ∙ ap (stated_at (first_steps h.at section)) (sym i) ∙ started.0.1)
          in
          (p, ps, e, i, ap (λ (q : Stated). q.around) same ∙ started.0.2)

  around_less : (k : ℕ) → k ≤ length section → (p : OpenBlock) (ps : List OpenBlock) → open_after (first_steps k section) ≡ p ∷ ps → p.opened < suc k
  around_less k low p ps e =
      let long = count_first section k low in
      let z = below_once (suc (length (first_steps k section))) p ps (subst (AreBelow (suc (length (first_steps k section)))) e (open_below (first_steps k section))) in
      omega (arith, z, long)

  outer_less : (k : ℕ) → k ≤ length section → (p : OpenBlock) (ps : List OpenBlock) → outer_of (open_after (first_steps k section)) ≡ p ∷ ps → p.opened < suc k
  outer_less k low p ps e = go (open_after (first_steps k section)) refl e
    where
      go : (qs : List OpenBlock) → open_after (first_steps k section) ≡ qs → outer_of qs ≡ p ∷ ps → p.opened < suc k
      go [] same z = absurd (cc)
      go (q ∷ qs) same z =
          let long = count_first section k low in
          let b : AreBelow (suc (length (first_steps k section))) (q ∷ qs) = subst (AreBelow (suc (length (first_steps k section)))) same (open_below (first_steps k section)) in
          let y = below_once q.opened p ps (subst (AreBelow q.opened) z b.1) in
          let x = b.0 in
          omega (arith, y, x, long)

  some_sides : (cs : List Congruence) → both_sides cs ≢ [] → cs ≢ []
  some_sides cs h e = h (ap both_sides e)

  some_facts : (h : Graph) (before : List Step) (d : ℕ) (inside outer : List OpenBlock) (ps : List (ℕ × ℕ)) (fs : List (Fact × Fact)) → AllZip (ClosesPair h before d inside outer) ps fs → ps ≢ [] → fs ≢ []
  some_facts h before d inside outer [] fs z some e = some refl
  some_facts h before d inside outer (p ∷ ps) [] z some e = absurd z
  some_facts h before d inside outer (p ∷ ps) (f ∷ fs) z some e = absurd (cc)

  -- a marked end of an induction ends one with pairs
  close_pairs : (a b : ℕ) → LastStates (reverse section) a b → (k d : ℕ) (fs : List (Fact × Fact)) → slice_get section k ≡ Some (Close d fs) → IsOn marks k → pairs_of (open_after (first_steps k section)) ≢ []
  close_pairs a b last k d fs there on = elim (used a b last k (Close d fs) there on refl) [
    | inl some ↦ some
    | inr h ↦ absurd (let (p, ps, inner, number, around) = opens k (Close d fs) there h in let low = slice_get_within section k (Close d fs) there in let z = outer_less k (omega (arith, low)) p ps around in omega (arith, z, number))
  ]

  no_pair : (before : List Step) (inside : List OpenBlock) (why : Reason) (a b : ℕ) → Gives before inside [] why a b → IsNoPair why
  no_pair before inside Same a b h = tt
  no_pair before inside (By x) a b h = tt
  no_pair before inside (Pair zero) a b h = absurd (cc)
  no_pair before inside (Pair (suc j)) a b h = absurd (cc)

  open_members : (a b : ℕ) → LastStates (reverse section) a b → (k d : ℕ) (ps : List (ℕ × ℕ)) → slice_get section k ≡ Some (Open d ps) → (h : IsEnded k) → ps ≢ []
  open_members a b last k d ps there h none = go h.s refl h.ends_
    where
      -- the block of the step is the innermost where it is ended
      block_is : (p : OpenBlock) × (qs : List OpenBlock) × (open_after (first_steps h.at section) ≡ p ∷ qs) × (p.block ≡ Loop d ps)
      block_is =
          let (p, qs, inner, number, around) = opens k (Open d ps) there h in
          let one : record { opened = suc k; block = Loop d ps } ≡ p = cc around in
          (p, qs, inner, sym (ap (λ (q : OpenBlock). q.block) one))

      go : (s : Step) → h.s ≡ s → is_end h.s ≡ true → ⊥
      go (Close e fs) same z =
          let (p, qs, inner, block) = block_is in
          close_pairs a b last h.at e fs (h.there ∙ ap Some same) h.on (ap pairs_of inner ∙ ap (λ (x : Block). elim x [ Loop u v ↦ v | Ending u v ↦ [] ]) block ∙ none)
      go (Finish x y t u v w) same z =
          let (p, qs, inner, block) = block_is in
          let r = (right_there h.at (Finish x y t u v w) (h.there ∙ ap Some same)).2 in
          let one : record { opened = r.opened; block = Ending x r.nodes } ≡ p = (let w : record { opened = r.opened; block = Ending x r.nodes } ∷ r.outer ≡ p ∷ qs = sym r.innermost ∙ inner in cc w) in
          let e : Ending x r.nodes ≡ Loop d ps = ap (λ (q : OpenBlock). q.block) one ∙ block in
          absurd (cc e)
      go (steps.Node n o kids) same z = absurd (let w : true ≡ false = sym z ∙ ap is_end same in cc w)
      go (Axiom n x y xs) same z = absurd (let w : true ≡ false = sym z ∙ ap is_end same in cc w)
      go (Use n x y xs) same z = absurd (let w : true ≡ false = sym z ∙ ap is_end same in cc w)
      go (Flip x y f) same z = absurd (let w : true ≡ false = sym z ∙ ap is_end same in cc w)
      go (Chain x y f e) same z = absurd (let w : true ≡ false = sym z ∙ ap is_end same in cc w)
      go (Set cs) same z = absurd (let w : true ≡ false = sym z ∙ ap is_end same in cc w)
      go (Open e qs) same z = absurd (let w : true ≡ false = sym z ∙ ap is_end same in cc w)
      go (Assume x ns) same z = absurd (let w : true ≡ false = sym z ∙ ap is_end same in cc w)

  has_members : (a b : ℕ) → LastStates (reverse section) a b → (k : ℕ) (s : Step) → slice_get section k ≡ Some s → IsOn marks k → HasMembers s
  has_members a b last k (steps.Node n o kids) there on = (right_there k (steps.Node n o kids) there).2.1.plain_
  has_members a b last k (Axiom n x y xs) there on = tt
  has_members a b last k (Use n x y xs) there on = tt
  has_members a b last k (Flip x y f) there on = tt
  has_members a b last k (Chain x y f e) there on = tt
  has_members a b last k (Set cs) there on = some_sides cs (elim (used a b last k (Set cs) there on refl) [
    | inl some ↦ some
    | inr h ↦ absurd (let (p, ps, inner, number, around) = opens k (Set cs) there h in let low = slice_get_within section k (Set cs) there in let z = around_less k (omega (arith, low)) p ps around in omega (arith, z, number))
  ])
  has_members a b last k (Open d ps) there on = elim (used a b last k (Open d ps) there on refl) [ inl some ↦ some | inr h ↦ open_members a b last k d ps there h ]
  has_members a b last k (Close d fs) there on =
      let r = (right_there k (Close d fs) there).2 in
      let some : r.pairs ≢ [] = λ none. close_pairs a b last k d fs there on (ap pairs_of r.innermost ∙ none) in
      some_facts _ (first_steps k section) d (open_after (first_steps k section)) r.outer r.pairs fs r.each some
  has_members a b last k (Assume p ns) there on = tt
  has_members a b last k (Finish p q t u v w) there on =
      let r = (right_there k (Finish p q t u v w) there).2 in
      let before = first_steps k section in (
        no_pair (first_steps k section) r.outer t r.left.token r.right.token r.tokens,
        no_pair (first_steps k section) (open_after (first_steps k section)) u r.left.fault_ r.right.fault_ r.faults,
        no_pair (first_steps k section) (open_after (first_steps k section)) v r.left.result r.right.result r.results,
        no_pair (first_steps k section) (open_after (first_steps k section)) w r.left.heap r.right.heap r.heaps,
      )

  -- .. under new numbers
  some_map : {A B : Type 0} (f : A → B) (xs : List A) → xs ≢ [] → map f xs ≢ []
  some_map f [] h e = h refl
  some_map f (x ∷ xs) h e = absurd (cc)

  reason_moved : (r : ℕ → ℕ) (why : Reason) → IsNoPair why → IsNoPair (moved_reason r why)
  reason_moved r Same h = tt
  reason_moved r (By x) h = tt
  reason_moved r (Pair j) h = h

  members_moved : (f r : ℕ → ℕ) (s : Step) → HasMembers s → HasMembers (moved f r s)
  members_moved f r (steps.Node n o kids) h = h
  members_moved f r (Axiom n x y xs) h = tt
  members_moved f r (Use n x y xs) h = tt
  members_moved f r (Flip x y z) h = tt
  members_moved f r (Chain x y z e) h = tt
  members_moved f r (Set cs) h = some_map (moved_congruence f r) cs h
  members_moved f r (Open d ps) h = some_map (moved_pair f) ps h
  members_moved f r (Close d fs) h = some_map (moved_facts r) fs h
  members_moved f r (Assume p ns) h = tt
  members_moved f r (Finish p q t u v w) h = (reason_moved r t h.0, reason_moved r u h.1, reason_moved r v h.2, reason_moved r w h.3)

  kept_members : (a b : ℕ) → LastStates (reverse section) a b → (f r : ℕ → ℕ) (n : ℕ) → n ≤ length section → HaveMembers (kept_steps (is_on marks) f r (first_steps n section))
  kept_members a b last f r zero low s i = absurd i
  kept_members a b last f r (suc n) low s i =
      let t = element section n (omega (arith, low)) in
      let long = count_first section n (omega (arith, low)) in
      let e = ap (kept_steps (is_on marks) f r) (next_steps section n t.0 t.1) in
      let again = kept_members a b last f r n (omega (arith, low)) in
      go t.0 t.1 (is_on marks (length (first_steps n section))) refl (ap (is_on marks) long) again (subst (λ (q : List Step). In q s) e i)
    where
      go : (t : Step) → slice_get section n ≡ Some t → (b' : Bool) → is_on marks (length (first_steps n section)) ≡ b' → is_on marks (length (first_steps n section)) ≡ is_on marks n → HaveMembers (kept_steps (is_on marks) f r (first_steps n section))
          → In (if is_on marks (length (first_steps n section)) then moved f r t ∷ kept_steps (is_on marks) f r (first_steps n section) else kept_steps (is_on marks) f r (first_steps n section)) s → HasMembers s
      go t there true q same again i = elim (subst (λ (c : Bool). In (if c then moved f r t ∷ kept_steps (is_on marks) f r (first_steps n section) else kept_steps (is_on marks) f r (first_steps n section)) s) q i) [
        | inl e ↦ subst HasMembers e (members_moved f r t (has_members a b last n t there (sym same ∙ q)))
        | inr j ↦ again s j
      ]
      go t there false q same again i = again s (subst (λ (c : Bool). In (if c then moved f r t ∷ kept_steps (is_on marks) f r (first_steps n section) else kept_steps (is_on marks) f r (first_steps n section)) s) q i)

  pub members : (a b : ℕ) → LastStates (reverse section) a b → (f r : ℕ → ℕ) → HaveMembers (kept_steps (is_on marks) f r (reverse section))
  members a b last f r = subst (λ (q : List Step). HaveMembers (kept_steps (is_on marks) f r q)) (whole_steps section) (kept_members a b last f r (length section) (omega arith))

  -- ---- the last step

  -- the last step states something, so it makes no node
  last_kept : (a b : ℕ) → LastStates (reverse section) a b → is_kept (is_on marks) (length section) ≡ true
  last_kept a b h =
      let long : length (reverse section) ≡ length section = ap length (sym (whole_steps section)) ∙ count_first section (length section) (omega arith) in
      let st : stated_at (first_steps (length section) section) (length section) ≡ Some h.stated = ap (λ (q : List Step). stated_at q (length section)) (whole_steps section) ∙ ap (stated_at (reverse section)) (sym long) ∙ h.last in
      let place = place_of (first_steps (length section) section) (length section) h.stated st in
      let t = element section place.0 (let e = place.1 in omega (arith, e)) in
      let same : h.stated ≡ states t.0 (suc place.0) (open_after (first_steps place.0 section)) =
      same_Some _ _ (sym st ∙ ap (stated_at (first_steps (length section) section)) place.1 ∙ stated_first section (length section) place.0 t.0 (omega arith) (let e = place.1 in omega (arith, e)) t.1)
      in
      let other : is_node t.0 ≡ false = elim (yes_or_no (is_node t.0)) [
        | inl is ↦ absurd (subst (λ (q : List (ℕ × ℕ)). In {A = ℕ × ℕ} q (a, b)) (ap (λ (q : Stated). q.pairs) same ∙ no_pairs t.0 (suc place.0) (open_after (first_steps place.0 section)) is) h.states_)
        | inr is ↦ is
      ]
      in
      ap (is_kept (is_on marks)) place.1 ∙ m.last place.0 t.0 (sym place.1) t.1 other

  -- the kept steps derive what all do, and each is cited by a later one or is the last
  pub kept_derive : AreCarried Instance → (a b : ℕ) → a < length g.nodes → b < length g.nodes → open_after (reverse section) ≡ [] → LastStates (reverse section) a b
      → IsTrimmed Instance g a b (kept_steps (is_on marks) (count (is_on nodes)) (count (is_on marks)) (reverse section))
  kept_derive carried a b low low' closed states_ =
      let long : length (reverse section) ≡ length section = ap length (sym (whole_steps section)) ∙ count_first section (length section) (omega arith) in
      let keep : AllKeepCited (is_on marks) (is_on nodes) (length g.nodes + length section) (reverse section) =
      subst (AllKeepCited (is_on marks) (is_on nodes) (length g.nodes + length section)) (whole_steps section) (all_keep (length section) (omega arith))
      in
      let want : AreWanted (is_on marks) (λ j. j ≡ length (reverse section)) (reverse section) =
      subst (AreWanted (is_on marks) (λ j. j ≡ length (reverse section))) (whole_steps section)
      (are_wanted (length section) (omega arith) (λ j. j ≡ length (reverse section)) (sym long, λ i k s from less there on cites. let l = slice_get_within section k s there in absurd (omega (arith, l, from))))
      in
      trimmed Instance carried (is_on marks) (is_on nodes) (length g.nodes + length section) g made.graph m.first a b low low' (reverse section) (omega (arith, long)) right closed states_ keep want
      (ap (is_kept (is_on marks)) long ∙ last_kept a b states_)
