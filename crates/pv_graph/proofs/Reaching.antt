-- The search for the nodes that reach some nodes: what it keeps.
use Rattle.std.specs.Prelude.{◌≡◌, ◌⊎◌, ◌↔◌, ℕ, zero, suc, ◌+◌, ◌-◌, ◌<◌, ◌≤◌, Bool, true, false, List, [], ◌∷◌, ◌++◌, length, Some, slice_get, slice_set, Vec, refl}
use Rattle.std.specs.declared.alloc.Global.{Global}
use Rattle.std.proofs.Common.{inl, inr, sym, ap, ◌∙◌, subst, arith, get_or, take, length-append}
use Rattle.std.proofs.lemmas.Option.{slice_get_within, slice_get_read, same_Some}
use Rattle.std.proofs.lemmas.List.{take_more, length-take-le}
use Rattle.pv_graph.specs.declared.node.Node.{Node}
use Rattle.pv_graph.specs.declared.reach.Use.{Use}
use Rattle.pv_graph.specs.declared.reach.Look.{Look}
use Rattle.pv_graph.proofs.Elements.{push_cases, get_front, get_last}
use Rattle.pv_graph.specs.Walks.{In}
use Rattle.pv_graph.specs.Reach.{follows, Uses, IsUse, Gains, Grows, IsMarked, AreStarts, Passes, unmarked, Spreads, Hits, begin, along, AreReached, AreUsesFrom, AreUses}
use Rattle.pv_graph.proofs.Tying.{set_same, set_other, set_length, equal_or_not}

-- the marked nodes reach a start; the starts are marked, and what passes on from a marked node is, unless that waits
pub record IsFrontier (nodes : List Node) (uses : Uses) (l : Look) (starts marks : List Bool) (work : List ℕ) : Type 0 where
  pub long : length marks ≡ length nodes
  pub sound : (n : ℕ) → IsMarked marks n → Hits nodes uses l starts n
  pub begun : (n : ℕ) → IsMarked starts n → IsMarked marks n
  pub queued : (n : ℕ) → In work n → IsMarked marks n
  pub closed : (k : ℕ) (u : Use) → IsMarked marks k → IsUse uses k u → Passes nodes l u → IsMarked marks u.node ⊎ In work k

-- ---- lists with one element more

pub in_front : {X : Type 0} → (xs : List X) (y x : X) → In xs x → In (xs ++ y ∷ []) x
in_front [] y x m = absurd m
in_front (z ∷ xs) y x (inl e) = inl e
in_front (z ∷ xs) y x (inr m) = inr (in_front xs y x m)

pub in_last : {X : Type 0} → (xs : List X) (y : X) → In (xs ++ y ∷ []) y
in_last [] y = inl refl
in_last (z ∷ xs) y = inr (in_last xs y)

pub in_cases : {X : Type 0} → (xs : List X) (y x : X) → In (xs ++ y ∷ []) x → In xs x ⊎ (y ≡ x)
in_cases [] y x (inl e) = inr e
in_cases [] y x (inr m) = absurd m
in_cases (z ∷ xs) y x (inl e) = inl (inl e)
in_cases (z ∷ xs) y x (inr m) = elim (in_cases xs y x m) [ inl n ↦ inl (inr n) | inr e ↦ inr e ]

-- ---- the places of kids

pub grows_none : (first : ℕ) (uses : Uses) (node : ℕ) → Grows first uses uses node []
grows_none first uses node k u = ((λ h. inl h), (λ h. elim h [ inl x ↦ x | inr e ↦ absurd (let z = e.1 in cc) ]))

-- one place more, of the node that is j places after the first
module _ (mid : Uses) (j : ℕ) (us us' : Vec Use Global) (v : Use) (at : slice_get mid j ≡ Some us) (more : us'.items ≡ us.items ++ v ∷ []) where
  there : slice_get (slice_set mid j us') j ≡ Some us'
  there = set_same mid j us' (slice_get_within mid j us at)

  added : IsUse (slice_set mid j us') j v
  added = (us', there, subst (λ (vs : List Use). In vs v) (sym more) (in_last us.items v))

  keep : (k : ℕ) (u : Use) → IsUse mid k u → IsUse (slice_set mid j us') k u
  keep k u h = elim (equal_or_not k j) [
    | inl same ↦
        let one : h.0 ≡ us = same_Some h.0 us (sym h.1 ∙ ap (slice_get mid) same ∙ at) in
        (us', ap (slice_get (slice_set mid j us')) same ∙ there, subst (λ (vs : List Use). In vs u) (sym more) (in_front us.items v u (subst (λ (w : Vec Use Global). In w.items u) one h.2)))
    | inr ne ↦ (h.0, set_other mid j us' k ne ∙ h.1, h.2)
  ]

  split_use : (k : ℕ) (u : Use) → IsUse (slice_set mid j us') k u → IsUse mid k u ⊎ ((k ≡ j) × (v ≡ u))
  split_use k u h = elim (equal_or_not k j) [
    | inl same ↦
        let one : h.0 ≡ us' = same_Some h.0 us' (sym h.1 ∙ ap (slice_get (slice_set mid j us')) same ∙ there) in
        elim (in_cases us.items v u (subst (λ (vs : List Use). In vs u) more (subst (λ (w : Vec Use Global). In w.items u) one h.2))) [
          | inl m ↦ inl (us, ap (slice_get mid) same ∙ at, m)
          | inr e ↦ inr (same, e)
        ]
    | inr ne ↦ inl (h.0, sym (set_other mid j us' k ne) ∙ h.1, h.2)
  ]

  pub gains_set : (first kid : ℕ) → first ≤ kid → j ≡ kid - first → Gains first mid (slice_set mid j us') kid v
  gains_set first kid le is k u = (
    (λ h. elim (split_use k u h) [ inl m ↦ inl m | inr e ↦ inr (omega (arith, le, is, e.0), e.1) ]),
    (λ h. elim h [
      | inl m ↦ keep k u m
      | inr e ↦
          let same : k ≡ j = omega (arith, le, is, e.0) in
          subst (λ (x : Use). IsUse (slice_set mid j us') k x) e.1 (subst (λ (i : ℕ). IsUse (slice_set mid j us') i v) (sym same) added)
    ]),
  )

-- a kid before the first
pub gains_none : (first : ℕ) (uses : Uses) (kid : ℕ) (v : Use) → kid < first → Gains first uses uses kid v
gains_none first uses kid v lt k u = ((λ h. inl h), (λ h. elim h [ inl x ↦ x | inr e ↦ absurd (omega (arith, lt, e.0)) ]))

module _ (first : ℕ) (old mid new : Uses) (node : ℕ) (kids : List ℕ) (i : ℕ) (lt : i < length kids) where
  abbrev kid : ℕ
  kid = get_or kids i 0

  abbrev placed : Use
  placed = record { node = node; place = i }

  short : length (take i kids) ≡ i
  short = length-take-le i kids (omega arith)

  pub grows_more : Grows first old mid node (take i kids) → Gains first mid new kid placed → Grows first old new node (take (i + 1) kids)
  grows_more is gains k u = subst (λ (ks : List ℕ). IsUse new k u ↔ (IsUse old k u ⊎ ((u.node ≡ node) × (slice_get ks u.place ≡ Some (first + k))))) (sym (take_more kids i 0 lt)) (
    (λ h. elim ((gains k u).0 h) [
      | inl m ↦ elim ((is k u).0 m) [ inl x ↦ inl x | inr e ↦ inr (e.0, get_front (take i kids) kid u.place (slice_get_within (take i kids) u.place (first + k) e.1) ∙ e.1) ]
      | inr e ↦
          let place : u.place ≡ length (take i kids) = sym (ap (λ (v : Use). v.place) e.1) ∙ sym short in
          inr (sym (ap (λ (v : Use). v.node) e.1), ap (slice_get (take i kids ++ kid ∷ [])) place ∙ get_last (take i kids) kid ∙ ap Some e.0)
    ]),
    (λ h. elim h [
      | inl x ↦ (gains k u).1 (inl ((is k u).1 (inl x)))
      | inr e ↦ elim (push_cases (take i kids) kid (first + k) u.place e.1) [
        | inl x ↦ (gains k u).1 (inl ((is k u).1 (inr (e.0, x))))
        | inr y ↦
            let same : placed ≡ u = ap (λ (n : ℕ). record { node = n; place = i }) (sym e.0) ∙ ap (λ (p : ℕ). record { node = u.node; place = p }) (sym short ∙ sym y.0) in
            (gains k u).1 (inr (y.1, same))
      ]
    ]),
  )

-- ---- the starts

module _ (starts : List Bool) (i : ℕ) (lt : i < length starts) (work : List ℕ) (is : AreStarts (take i starts) work) where
  abbrev start : Bool
  start = get_or starts i false

  shortened : length (take i starts) ≡ i
  shortened = length-take-le i starts (omega arith)

  pub starts_more : start ≡ true → AreStarts (take (i + 1) starts) (work ++ i ∷ [])
  starts_more set_ n = subst (λ (xs : List Bool). IsMarked xs n ↔ In (work ++ i ∷ []) n) (sym (take_more starts i false lt)) (
    (λ m. elim (push_cases (take i starts) start true n m) [ inl x ↦ in_front work i n ((is n).0 x) | inr y ↦ subst (λ (k : ℕ). In (work ++ i ∷ []) k) (sym (y.0 ∙ shortened)) (in_last work i) ]),
    (λ m. elim (in_cases work i n m) [
      | inl x ↦ let h = (is n).1 x in get_front (take i starts) start n (slice_get_within (take i starts) n true h) ∙ h
      | inr e ↦ ap (slice_get (take i starts ++ start ∷ [])) (sym e ∙ sym shortened) ∙ get_last (take i starts) start ∙ ap Some set_
    ]),
  )

  pub starts_same : start ≡ false → AreStarts (take (i + 1) starts) work
  starts_same clear n = subst (λ (xs : List Bool). IsMarked xs n ↔ In work n) (sym (take_more starts i false lt)) (
    (λ m. elim (push_cases (take i starts) start true n m) [ inl x ↦ (is n).0 x | inr y ↦ absurd (let z = y.1 in cc) ]),
    (λ m. let h = (is n).1 m in get_front (take i starts) start n (slice_get_within (take i starts) n true h) ∙ h),
  )

-- ---- one step of the search

unmarked_set : (marks : List Bool) (x : ℕ) → slice_get marks x ≡ Some false → unmarked (slice_set marks x true) + 1 ≡ unmarked marks
unmarked_set [] x e = absurd (cc)
unmarked_set (true ∷ marks) zero e = absurd (cc)
unmarked_set (false ∷ marks) zero e = omega arith
unmarked_set (true ∷ marks) (suc x) e = unmarked_set marks x e
unmarked_set (false ∷ marks) (suc x) e = let h = unmarked_set marks x e in omega arith

module _ (nodes : List Node) (l : Look) where
  pub spreads_none : (marks : List Bool) (work : List ℕ) → Spreads nodes l [] marks marks work work
  spreads_none marks work = record {
    long = refl;
    kept = λ n m. m;
    only = λ n m. inl m;
    all = λ u m p. absurd m;
    waits = λ n m. m;
    noted = λ n m. inl m;
    queued = λ n m. inl m;
    count = refl;
  }

  module _ (us : List Use) (u : Use) (old new : List Bool) (before after : List ℕ) (is : Spreads nodes l us old new before after) where
    pub spreads_stay : (Passes nodes l u → IsMarked new u.node) → Spreads nodes l (us ++ u ∷ []) old new before after
    spreads_stay done = record {
      long = is.long;
      kept = is.kept;
      only = λ n m. elim (is.only n m) [ inl a ↦ inl a | inr r ↦ inr (r.0, in_front us u r.0 r.1, r.2, r.3) ];
      all = λ v m p. elim (in_cases us u v m) [ inl a ↦ is.all v a p | inr e ↦ subst (λ (x : Use). IsMarked new x.node) e (done (subst (λ (x : Use). Passes nodes l x) (sym e) p)) ];
      waits = is.waits;
      noted = is.noted;
      queued = is.queued;
      count = is.count;
    }

    abbrev marked : List Bool
    marked = slice_set new u.node true

    module _ (was : slice_get new u.node ≡ Some false) (passes : Passes nodes l u) where
      now_marked : IsMarked marked u.node
      now_marked = set_same new u.node true (slice_get_within new u.node false was)

      marked_more : (n : ℕ) → IsMarked new n → IsMarked marked n
      marked_more n m = elim (equal_or_not n u.node) [ inl same ↦ ap (slice_get marked) same ∙ now_marked | inr ne ↦ set_other new u.node true n ne ∙ m ]

      marked_less : (n : ℕ) → IsMarked marked n → IsMarked new n ⊎ (u.node ≡ n)
      marked_less n m = elim (equal_or_not n u.node) [ inl same ↦ inr (sym same) | inr ne ↦ inl (sym (set_other new u.node true n ne) ∙ m) ]

      pub spreads_mark : Spreads nodes l (us ++ u ∷ []) old marked before (after ++ u.node ∷ [])
      spreads_mark = record {
        long = set_length new u.node true ∙ is.long;
        kept = λ n m. marked_more n (is.kept n m);
        only = λ n m. elim (marked_less n m) [
          | inl x ↦ elim (is.only n x) [ inl a ↦ inl a | inr r ↦ inr (r.0, in_front us u r.0 r.1, r.2, r.3) ]
          | inr e ↦ inr (u, in_last us u, passes, e)
        ];
        all = λ v m p. elim (in_cases us u v m) [ inl a ↦ marked_more v.node (is.all v a p) | inr e ↦ subst (λ (x : Use). IsMarked marked x.node) e now_marked ];
        waits = λ n m. in_front after u.node n (is.waits n m);
        noted = λ n m. elim (marked_less n m) [
          | inl x ↦ elim (is.noted n x) [ inl a ↦ inl a | inr w ↦ inr (in_front after u.node n w) ]
          | inr e ↦ inr (subst (λ (k : ℕ). In (after ++ u.node ∷ []) k) e (in_last after u.node))
        ];
        queued = λ n m. elim (in_cases after u.node n m) [
          | inl x ↦ elim (is.queued n x) [ inl a ↦ inl a | inr y ↦ inr (marked_more n y) ]
          | inr e ↦ inr (subst (λ (k : ℕ). IsMarked marked k) e now_marked)
        ];
        count = (let less = unmarked_set new u.node was in let len = length-append after (u.node ∷ []) in let c = is.count in omega arith);
      }

-- ---- the search

module _ (nodes : List Node) (uses : Uses) (l : Look) (starts : List Bool) where
  pub frontier_begin : (work : List ℕ) → length starts ≡ length nodes → AreStarts starts work → IsFrontier nodes uses l starts starts work
  frontier_begin work long are = record {
    long = long;
    sound = λ n m. begin n m;
    begun = λ n m. m;
    queued = λ n m. (are n).1 m;
    closed = λ k u m _ _. inr ((are k).0 m);
  }

  pub frontier_step : (marks marks' : List Bool) (work work' : List ℕ) (k : ℕ) (us : Vec Use Global) → IsFrontier nodes uses l starts marks (work ++ k ∷ []) → slice_get uses k ≡ Some us → Spreads nodes l us.items marks marks' work work' → IsFrontier nodes uses l starts marks' work'
  frontier_step marks marks' work work' k us is at by = record {
    long = by.long ∙ is.long;
    sound = λ n m. elim (by.only n m) [ inl a ↦ is.sound n a | inr r ↦ along n k r.0 (us, at, r.1) r.2 r.3 (is.sound k (is.queued k (in_last work k))) ];
    begun = λ n m. by.kept n (is.begun n m);
    queued = λ n m. elim (by.queued n m) [ inl a ↦ by.kept n (is.queued n (in_front work k n a)) | inr y ↦ y ];
    closed = λ j u m use_ passes. elim (by.noted j m) [
      | inl a ↦ elim (is.closed j u a use_ passes) [
        | inl x ↦ inl (by.kept u.node x)
        | inr w ↦ elim (in_cases work k j w) [
          | inl x ↦ inr (by.waits j x)
          | inr e ↦
              let one : use_.0 ≡ us = same_Some use_.0 us (sym use_.1 ∙ ap (slice_get uses) (sym e) ∙ at) in
              inl (by.all u (subst (λ (v : Vec Use Global). In v.items u) one use_.2) passes)
        ]
      ]
      | inr w ↦ inr w
    ];
  }

  pub frontier_end : (marks : List Bool) → IsFrontier nodes uses l starts marks [] → AreReached nodes uses l starts marks
  frontier_end marks is = record { long = is.long; says = λ n. (is.sound n, hit n) }
    where
      hit : (n : ℕ) → Hits nodes uses l starts n → IsMarked marks n
      hit n (begin m s) = is.begun m s
      hit n (along m k u use_ passes e h) = elim (is.closed k u (hit k h) use_ passes) [ inl x ↦ subst (λ (j : ℕ). IsMarked marks j) e x | inr w ↦ absurd w ]

pub in_at : {X : Type 0} → (xs : List X) (i : ℕ) (d : X) → i < length xs → In xs (get_or xs i d)
in_at [] i d lt = absurd (omega arith)
in_at (x ∷ xs) zero d lt = inl refl
in_at (x ∷ xs) (suc i) d lt = inr (in_at xs i d (omega arith))

-- one place more, which is marked now, or needs no mark
module _ (nodes : List Node) (l : Look) (uses : List Use) (i : ℕ) (d : Use) (lt : i < length uses) (old new : List Bool) (before after : List ℕ) (is : Spreads nodes l (take i uses) old new before after) where
  abbrev u : Use
  u = get_or uses i d

  pub spread_marks : slice_get new u.node ≡ Some false → Passes nodes l u → Spreads nodes l (take (i + 1) uses) old (slice_set new u.node true) before (after ++ u.node ∷ [])
  spread_marks was passes = subst (λ (us : List Use). Spreads nodes l us old (slice_set new u.node true) before (after ++ u.node ∷ [])) (sym (take_more uses i d lt)) (spreads_mark nodes l (take i uses) u old new before after is was passes)

  pub spread_stays : (Passes nodes l u → IsMarked new u.node) → Spreads nodes l (take (i + 1) uses) old new before after
  spread_stays done = subst (λ (us : List Use). Spreads nodes l us old new before after) (sym (take_more uses i d lt)) (spreads_stay nodes l (take i uses) u old new before after is done)

-- whether a place passes on, by its node
pub passes_by : (nodes : List Node) (l : Look) (u : Use) (node : Node) (b : Bool) → u.node < length nodes → node ≡ get_or nodes u.node node → b ≡ follows l node.op u.place → b ≡ true → Passes nodes l u
passes_by nodes l u node b lt is e t = (node, slice_get_read nodes (length nodes) u.node node refl lt is, sym e ∙ t)

pub stops_by : (nodes : List Node) (l : Look) (u : Use) (node : Node) (b : Bool) {X : Type 0} → u.node < length nodes → node ≡ get_or nodes u.node node → b ≡ follows l node.op u.place → b ≡ false → Passes nodes l u → X
stops_by nodes l u node b lt is e f p =
    let at = slice_get_read nodes (length nodes) u.node node refl lt is in
    let same : p.0 ≡ node = same_Some p.0 node (sym p.1 ∙ at) in
    let both = sym p.2 ∙ ap (λ (x : Node). follows l x.op u.place) same ∙ sym e ∙ f in
    absurd (cc)

pub is_empty : {X : Type 0} → (xs : List X) → length xs ≡ 0 → xs ≡ []
is_empty [] e = refl
is_empty (x ∷ xs) e = absurd (omega arith)

-- no places, for one node more
pub none_more : (uses : Uses) (v : Vec Use Global) → v.items ≡ [] → ((k : ℕ) (u : Use) → IsUse uses k u → ⊥) → (k : ℕ) (u : Use) → IsUse (uses ++ v ∷ []) k u → ⊥
none_more uses v e none k u h = elim (push_cases uses v h.0 k h.1) [
  | inl x ↦ none k u (h.0, x, h.2)
  | inr y ↦ absurd (subst (λ (us : List Use). In us u) e (subst (λ (w : Vec Use Global). In w.items u) (sym y.1) h.2))
]

-- ---- the places of all kids

-- the places of the kids of the first of these nodes
abbrev pub AreUsesOf : ℕ → List Node → List Bool → ℕ → Uses → Type 0
AreUsesOf first nodes out i uses = (k : ℕ) (u : Use) → IsUse uses k u ↔ ((node : Node) × (slice_get nodes u.node ≡ Some node) × (slice_get out u.node ≡ Some false) × (slice_get node.kids u.place ≡ Some (first + k)) × (u.node < i))

pub low_or_last : (n i : ℕ) → n < i + 1 → (n < i) ⊎ (n ≡ i)
low_or_last n i lt = grind arith

module _ (first : ℕ) (nodes : List Node) (out : List Bool) (i : ℕ) (node : Node) (b : Bool) (at : slice_get nodes i ≡ Some node) (out_at : slice_get out i ≡ Some b) where
  -- a node that isn't left out
  pub uses_more : (old new : Uses) → b ≡ false → AreUsesOf first nodes out i old → Grows first old new i node.kids → AreUsesOf first nodes out (i + 1) new
  uses_more old new clear are grows k u = (
    (λ h. elim ((grows k u).0 h) [
      | inl x ↦ let r = (are k u).0 x in (r.0, r.1, r.2, r.3, omega (arith, r.4))
      | inr e ↦ (node, ap (slice_get nodes) e.0 ∙ at, ap (slice_get out) e.0 ∙ out_at ∙ ap Some clear, e.1, omega (arith, e.0))
    ]),
    (λ r. elim (low_or_last u.node i r.4) [
      | inl low ↦ (grows k u).1 (inl ((are k u).1 (r.0, r.1, r.2, r.3, low)))
      | inr last ↦
          let same : r.0 ≡ node = same_Some r.0 node (sym r.1 ∙ ap (slice_get nodes) last ∙ at) in
          (grows k u).1 (inr (last, subst (λ (x : Node). slice_get x.kids u.place ≡ Some (first + k)) same r.3))
    ]),
  )

  -- a node that is left out
  pub uses_same : (uses : Uses) → b ≡ true → AreUsesOf first nodes out i uses → AreUsesOf first nodes out (i + 1) uses
  uses_same uses left are k u = (
    (λ h. let r = (are k u).0 h in (r.0, r.1, r.2, r.3, omega (arith, r.4))),
    (λ r. elim (low_or_last u.node i r.4) [
      | inl low ↦ (are k u).1 (r.0, r.1, r.2, r.3, low)
      | inr last ↦ absurd (let both = sym r.2 ∙ ap (slice_get out) last ∙ out_at ∙ ap Some left in cc)
    ]),
  )

pub uses_begin : (first : ℕ) (nodes : List Node) (out : List Bool) (uses : Uses) → ((k : ℕ) (u : Use) → IsUse uses k u → ⊥) → AreUsesOf first nodes out 0 uses
uses_begin first nodes out uses none k u = ((λ h. absurd (none k u h)), (λ r. absurd (omega (arith, r.4))))

pub uses_end : (first : ℕ) (nodes : List Node) (out : List Bool) (i : ℕ) (uses : Uses) → length nodes ≤ i → AreUsesOf first nodes out i uses → AreUsesFrom first nodes out uses
uses_end first nodes out i uses all are k u = (
  (λ h. let r = (are k u).0 h in (r.0, r.1, r.2, r.3)),
  (λ r. (are k u).1 (r.0, r.1, r.2, r.3, (let z = slice_get_within nodes u.node r.0 r.1 in omega arith))),
)

pub none_in_empty : (uses : Uses) → uses ≡ [] → (k : ℕ) (u : Use) → IsUse uses k u → ⊥
none_in_empty uses e k u h = absurd (let z = sym (ap (λ (xs : Uses). slice_get xs k) e) ∙ h.1 in cc)

-- the places of the kids of all nodes
pub uses_all : (nodes : List Node) (out : List Bool) (uses : Uses) → AreUsesFrom 0 nodes out uses → AreUses nodes out uses
uses_all nodes out uses are k u =
    let none : 0 + k ≡ k = omega arith in (
      (λ h. let r = (are k u).0 h in (r.0, r.1, r.2, r.3 ∙ ap Some none)),
      (λ r. (are k u).1 (r.0, r.1, r.2, r.3 ∙ ap Some (sym none))),
    )
