-- Sets of matches that gain others, and the matches of a table gathered node by node.
use Rattle.std.specs.Prelude.{◌≡◌, ◌⊎◌, ℕ, zero, suc, ◌+◌, ◌<◌, ◌≤◌, Bool, true, false, if◌then◌else◌, List, [], ◌∷◌, ◌++◌, map, Some, None, slice_get, length, refl}
use Rattle.std.specs.declared.cmp.Ordering.{Ordering}
use Rattle.std.specs.declared.cmp.Ordering.TheVariants.{Less, Equal, Greater}
use Rattle.std.specs.Ordering.{match_ordering}
use Rattle.std.specs.BTreeSet.{insert_key}
use Rattle.std.proofs.Common.{inl, inr, sym, ap, ◌∙◌, subst, arith}
use Rattle.std.proofs.lemmas.Option.{slice_get_within}
use Rattle.pv_graph.specs.declared.node.Node.{Node}
use Rattle.pv_graph.specs.Walks.{In}
use Rattle.pv_graph.specs.Forms.{form}
use Rattle.pv_graph.specs.Graphs.{Graph, form_at, form_of}
use Rattle.pv_graph.specs.declared.node.Op.{Op}
use Rattle.pv_graph.proofs.Cited.{node_at, form_there}
use Rattle.pv_pattern.specs.Patterns.{Axiom, Pattern, over}
use Rattle.pv_pattern.specs.Numbers.{op_number}
use Rattle.pv_pattern.specs.Instances.{head_op}
use Rattle.pv_match.specs.declared.found.Param.{Param}
use Rattle.pv_match.specs.declared.found.Match.{Match}
use Rattle.pv_match.specs.declared.members.Group.{Group}
use Rattle.pv_match.specs.Matches.{IsMatch, IsMatchAt, StartsAt}
use Rattle.pv_match.specs.Bindings.{head_number, with_number}
use Rattle.pv_match.specs.Finishing.{AreMatchesAt}
use Rattle.pv_match.specs.Reading.{AreReadable, IsReadable}
use Rattle.pv_match.specs.Standing.{AllStandIn}
use Rattle.pv_match.specs.All.{AreMatchesWhere, AreMatchesOf}
use Rattle.pv_match.specs.Orders.{match_cmp}
use Rattle.pv_marks.specs.Classes.{class_of}
use Rattle.pv_match.specs.Kept.{IsKept, KeepsForms}
use Rattle.pv_match.specs.Rules.{AreRules, AreItems}
use Rattle.pv_match.specs.Gathering.{HasOne, GathersSome, GathersAll, IsGathering, IsTried, TriedAt, AreTooMany}
use Rattle.pv_match.proofs.Adding.{in_left, in_right, in_both}
use Rattle.pv_match.proofs.Naming.{heads_number}
use Rattle.pv_match.proofs.AllOf.{where_both, where_at, starts}
use Rattle.pv_match.proofs.Ordered.{ordered}

-- ---- one more in a set

insert_each : (ks : List Match) (x y : Match) → In (insert_key match_cmp ks x) y → In ks y ⊎ (y ≡ x)
insert_each [] x y (inl e) = inr (sym e)
insert_each [] x y (inr i) = absurd i
insert_each (k ∷ ks) x y i = go (match_cmp x k) (insert_each ks x y) i
  where
    go : (o : Ordering) → (In (insert_key match_cmp ks x) y → In ks y ⊎ (y ≡ x)) → In (match_ordering o (x ∷ k ∷ ks) (k ∷ ks) (k ∷ insert_key match_cmp ks x)) y → In (k ∷ ks) y ⊎ (y ≡ x)
    go Less rest (inl e) = inr (sym e)
    go Less rest (inr j) = inl j
    go Equal rest j = inl j
    go Greater rest (inl e) = inl (inl e)
    go Greater rest (inr j) = elim (rest j) [ inl h ↦ inl (inr h) | inr e ↦ inr e ]

insert_kept : (ks : List Match) (x y : Match) → In ks y → In (insert_key match_cmp ks x) y
insert_kept [] x y i = absurd i
insert_kept (k ∷ ks) x y i = go (match_cmp x k) (insert_kept ks x y) i
  where
    go : (o : Ordering) → (In ks y → In (insert_key match_cmp ks x) y) → In (k ∷ ks) y → In (match_ordering o (x ∷ k ∷ ks) (k ∷ ks) (k ∷ insert_key match_cmp ks x)) y
    go Less rest j = inr j
    go Equal rest j = j
    go Greater rest (inl e) = inl e
    go Greater rest (inr j) = inr (rest j)

insert_has : (ks : List Match) (x : Match) → HasOne (insert_key match_cmp ks x) x
insert_has [] x = (x, inl refl, (refl, refl, refl))
insert_has (k ∷ ks) x = go (match_cmp x k) refl (insert_has ks x)
  where
    go : (o : Ordering) → match_cmp x k ≡ o → HasOne (insert_key match_cmp ks x) x → HasOne (match_ordering o (x ∷ k ∷ ks) (k ∷ ks) (k ∷ insert_key match_cmp ks x)) x
    go Less e rest = (x, inl refl, (refl, refl, refl))
    go Equal e rest = (k, inl refl, (ordered.exact x k).0 e)
    go Greater e rest = (rest.0, inr rest.1, rest.2)

-- ---- a list that goes into a set

pub gathering_begins : (old more : List Match) → IsGathering old more old more
gathering_begins old more = record { some_ = record { each = λ x i. inl i; kept = λ x i. i }; within = λ x i. i; has = λ x i. inl i }

pub gathering_more : (old more set all rest : List Match) (x : Match) → all ≡ rest ++ x ∷ [] → IsGathering old more set all → IsGathering old more (insert_key match_cmp set x) rest
gathering_more old more set all rest x e is = record {
  some_ = record {
    each = λ y i. elim (insert_each set x y i) [
      | inl j ↦ is.some_.each y j
      | inr f ↦ inr (is.within y (subst (λ (xs : List Match). In xs y) (sym e) (in_right rest (x ∷ []) y (inl (sym f)))))
    ];
    kept = λ y i. insert_kept set x y (is.some_.kept y i);
  };
  within = λ y i. is.within y (subst (λ (xs : List Match). In xs y) (sym e) (in_left rest (x ∷ []) y i));
  has = λ y i. elim (is.has y i) [
    | inl j ↦ elim (in_both rest (x ∷ []) y (subst (λ (xs : List Match). In xs y) e j)) [
      | inl k ↦ inl k
      | inr k ↦ elim k [ inl f ↦ inr (subst (HasOne (insert_key match_cmp set x)) f (insert_has set x)) | inr v ↦ absurd v ]
    ]
    | inr h ↦ inr (h.0, insert_kept set x h.0 h.1, h.2)
  ];
}

pub gathering_ends : (old more set rest : List Match) → rest ≡ [] → IsGathering old more set rest → GathersAll old more set
gathering_ends old more set rest e is = record {
  some_ = is.some_;
  has = λ x i. elim (is.has x i) [ inl j ↦ absurd (subst (λ (xs : List Match). In xs x) e j) | inr h ↦ h ];
}

-- ---- places

pub in_place : {A : Type 0} (xs : List A) (x : A) → In xs x → (i : ℕ) × (slice_get xs i ≡ Some x)
in_place [] x i = absurd i
in_place (y ∷ xs) x (inl e) = (zero, ap Some e)
in_place (y ∷ xs) x (inr i) = let r = in_place xs x i in (suc r.0, r.1)

pub place_in_list : {A : Type 0} (xs : List A) (i : ℕ) (x : A) → slice_get xs i ≡ Some x → In xs x
place_in_list [] i x e = absurd (cc)
place_in_list (y ∷ xs) zero x e = inl (cc)
place_in_list (y ∷ xs) (suc i) x e = inr (place_in_list xs i x e)

-- ---- the matches of a table

module _ (g : Graph) (numbers assumed : List ℕ) (table : List Axiom) where
  -- a set that gains a list has the matches of both
  pub where_gathered : (P : Axiom → ℕ → Type 0) (old more new : List Match) → AreMatchesWhere g numbers assumed P (old ++ more) → GathersAll old more new → AreMatchesWhere g numbers assumed P new
  where_gathered P old more new both gathers = record {
    each = λ x i. both.each x (elim (gathers.some_.each x i) [ inl j ↦ in_left old more x j | inr j ↦ in_right old more x j ]);
    all = λ b m ps cs h k. let r = both.all b m ps cs h k in elim (in_both old more r.0 r.1) [
      | inl i ↦ (r.0, gathers.some_.kept r.0 i, r.2, r.3, r.4)
      | inr i ↦ let y = gathers.has r.0 i in (y.0, y.1, sym y.2.0 ∙ r.2, sym y.2.1 ∙ r.3, sym y.2.2 ∙ r.4)
    ];
  }

  where_gathers : (P : Axiom → ℕ → Type 0) (a : Axiom) (n : ℕ) (old more new : List Match) → AreMatchesWhere g numbers assumed P old → AreMatchesAt g numbers assumed a n more → GathersAll old more new
      → AreMatchesWhere g numbers assumed (λ b m. P b m ⊎ ((b ≡ a) × (m ≡ n))) new
  where_gathers P a n old more new is at gathers =
      where_gathered (λ b m. P b m ⊎ ((b ≡ a) × (m ≡ n))) old more new (where_both g numbers assumed P (λ b m. (b ≡ a) × (m ≡ n)) old more is (where_at g numbers assumed a n more at)) gathers

  pub tried_begin : (before : List ℕ) (n : ℕ) (list : List Match) → AreMatchesOf g numbers assumed table before list → AreMatchesWhere g numbers assumed (TriedAt table before [] n) list
  tried_begin before n list is = record {
    each = λ x i. let r = is.each x i in (r.0, r.1, inl r.2, r.3, r.4);
    all = λ a m ps cs h k. elim h [ inl y ↦ is.all a m ps cs y k | inr y ↦ absurd y.0.1 ];
  }

  -- one more axiom is tried
  pub tried_more : (before places : List ℕ) (n i : ℕ) (a : Axiom) (old more new : List Match) → slice_get table i ≡ Some a → AreMatchesWhere g numbers assumed (TriedAt table before places n) old → AreMatchesAt g numbers assumed a n more
      → GathersAll old more new → AreMatchesWhere g numbers assumed (TriedAt table before (places ++ i ∷ []) n) new
  tried_more before places n i a old more new there is at gathers =
      let all = where_gathers (TriedAt table before places n) a n old more new is at gathers in
      record {
        each = λ x j. let r = all.each x j in (
          r.0,
          r.1,
          elim r.2 [
            | inl h ↦ elim h [ inl y ↦ inl y | inr y ↦ inr ((y.0.0, in_left places (i ∷ []) y.0.0 y.0.1, y.0.2), y.1) ]
            | inr e ↦ inr ((i, in_right places (i ∷ []) i (inl refl), there ∙ ap Some (sym e.0)), e.1)
          ],
          r.3,
          r.4,
        );
        all = λ b m ps cs h k. all.all b m ps cs (elim h [
          | inl y ↦ inl (inl y)
          | inr y ↦ elim (in_both places (i ∷ []) y.0.0 y.0.1) [
            | inl j ↦ inl (inr ((y.0.0, j, y.0.2), y.1))
            | inr j ↦ elim j [ inl e ↦ inr (some_is (sym y.0.2 ∙ ap (slice_get table) (sym e) ∙ there), y.1) | inr v ↦ absurd v ]
          ]
        ]) k;
      }
    where
      some_is : {A : Type 0} {x y : A} → Some x ≡ Some y → x ≡ y
      some_is e = cc

  -- a place past the table has none
  pub tried_none : (before places : List ℕ) (n i : ℕ) (list : List Match) → slice_get table i ≡ None → AreMatchesWhere g numbers assumed (TriedAt table before places n) list → AreMatchesWhere g numbers assumed (TriedAt table before (places ++ i ∷ []) n) list
  tried_none before places n i list none_ is = record {
    each = λ x j. let r = is.each x j in (r.0, r.1, elim r.2 [ inl y ↦ inl y | inr y ↦ inr ((y.0.0, in_left places (i ∷ []) y.0.0 y.0.1, y.0.2), y.1) ], r.3, r.4);
    all = λ b m ps cs h k. is.all b m ps cs (elim h [
      | inl y ↦ inl y
      | inr y ↦ elim (in_both places (i ∷ []) y.0.0 y.0.1) [
        | inl j ↦ inr ((y.0.0, j, y.0.2), y.1)
        | inr j ↦ elim j [ inl e ↦ absurd (nothing b (sym y.0.2 ∙ ap (slice_get table) (sym e) ∙ none_)) | inr v ↦ absurd v ]
      ]
    ]) k;
  }
    where
      nothing : (b : Axiom) → Some b ≡ None → ⊥
      nothing b e = absurd (cc)

  -- all axioms are tried at the node, once those are that match there
  pub tried_end : (before places : List ℕ) (n : ℕ) (list : List Match) → ((a : Axiom) (params : List Param) (classes : List ℕ) → In table a → IsMatchAt g numbers assumed a n params classes → IsTried table places a)
      → AreMatchesWhere g numbers assumed (TriedAt table before places n) list → AreMatchesOf g numbers assumed table (before ++ n ∷ []) list
  tried_end before places n list full is = record {
    each = λ x i. let r = is.each x i in (
      r.0,
      r.1,
      elim r.2 [
        | inl y ↦ (y.0, in_left before (n ∷ []) r.1 y.1)
        | inr y ↦ (place_in_list table y.0.0 r.0 y.0.2, in_right before (n ∷ []) r.1 (inl (sym y.1)))
      ],
      r.3,
      r.4,
    );
    all = λ a m ps cs h k. is.all a m ps cs (elim (in_both before (n ∷ []) m h.1) [
      | inl j ↦ inl (h.0, j)
      | inr j ↦ elim j [ inl e ↦ inr (full a ps cs h.0 (subst (λ (i : ℕ). IsMatchAt g numbers assumed a i ps cs) (sym e) k), sym e) | inr v ↦ absurd v ]
    ]) k;
  }

  -- ---- by heads

  -- the node of a match has the number of its axiom's head
  node_of : (readable : AreReadable table) → (a : Axiom) (n : ℕ) (params : List Param) (classes : List ℕ) → (there : In table a) → IsMatchAt g numbers assumed a n params classes
      → (node : Node) × (slice_get g.nodes n ≡ Some node) × (op_number node.op ≡ head_number (readable a there).head)
  node_of readable a n params classes there m =
      let r = readable a there in
      let s : StartsAt g numbers m.names (over r.head r.parts) n = subst (λ (p : Pattern). StartsAt g numbers m.names p n) r.left m.starts in
      let node = node_at g.nodes n (head_op m.names r.head) s.0 s.1 in
      (node.0, node.1, ap op_number node.2 ∙ heads_number m.names r.head)

  -- .. so its axiom is found under the number of the node's operation
  headed : (rules : List Group) → AreReadable table → AreRules table rules → (a : Axiom) (n : ℕ) (params : List Param) (classes : List ℕ) → In table a → IsMatchAt g numbers assumed a n params classes
      → (node : Node) × (slice_get g.nodes n ≡ Some node) × (i : ℕ) × In (with_number rules (op_number node.op)) i × (slice_get table i ≡ Some a)
  headed rules readable are a n params classes there m =
      let r = readable a there in
      let node = node_of readable a n params classes there m in
      let i = in_place table a there in
      (node.0, node.1, i.0, subst (λ (k : ℕ). In (with_number rules k) i.0) (sym node.2) (are i.0 a r.head r.parts i.1 r.left), i.1)

  pub tried_by : (rules : List Group) → AreReadable table → AreRules table rules → (n : ℕ) (node : Node) → form_at g.nodes n ≡ Some (form_of node) → (a : Axiom) (params : List Param) (classes : List ℕ) → In table a
      → IsMatchAt g numbers assumed a n params classes → IsTried table (with_number rules (op_number node.op)) a
  tried_by rules readable are n node at a params classes there m =
      let h = headed rules readable are a n params classes there m in
      (h.2, subst (λ (o : Op). In (with_number rules (op_number o)) h.2) (one_op h.0 node (sym (form_there g.nodes n h.0 h.1) ∙ at)) h.3, h.4)
    where
      one_op : (x y : Node) → Some (form x.op x.kids) ≡ Some (form y.op y.kids) → x.op ≡ y.op
      one_op x y e = cc

  pub match_from : AreReadable table → (a : Axiom) (n : ℕ) (params : List Param) (classes : List ℕ) → In table a → IsMatchAt g numbers assumed a n params classes → IsMatch g numbers assumed a params classes
  match_from readable a n params classes there m =
      let node = node_of readable a n params classes there m in
      (starts g numbers assumed a params classes (readable a there)).1 (n, slice_get_within g.nodes n node.0 node.1, m)

  -- the set has grown past the limit
  pub too_many : (limit : ℕ) (before places : List ℕ) (n : ℕ) (a : Axiom) (old more new : List Match) → AreReadable table → In table a → length new ≡ suc limit
      → AreMatchesWhere g numbers assumed (TriedAt table before places n) old → AreMatchesAt g numbers assumed a n more → GathersSome old more new → AreTooMany g numbers assumed table limit new
  too_many limit before places n a old more new readable there long is at gathers = record {
    long = long;
    each = λ x i. elim (gathers.each x i) [
      | inl j ↦
          let r = is.each x j in
          let t : In table r.0 = elim r.2 [ inl y ↦ y.0 | inr y ↦ place_in_list table y.0.0 r.0 y.0.2 ] in
          (r.0, t, r.3, match_from readable r.0 r.1 x.params.items x.classes.items t r.4)
      | inr j ↦ let r = at.each x j in (a, there, r.0, match_from readable a n x.params.items x.classes.items there r.1)
    ];
  }

  -- a match that starts at a node starts at one of its form that is kept
  kept_start : (kept : List Bool) → KeepsForms g numbers kept → (a : Axiom) (n : ℕ) (params : List Param) (classes : List ℕ) → IsReadable a → IsMatchAt g numbers assumed a n params classes
      → (k : ℕ) × IsKept kept k × IsMatchAt g numbers assumed a k params classes
  kept_start kept keeps a n params classes r m =
      let s : StartsAt g numbers m.names (over r.head r.parts) n = subst (λ (p : Pattern). StartsAt g numbers m.names p n) r.left m.starts in
      let h = keeps (class_of numbers n) (head_op m.names r.head) (map (class_of numbers) s.0) (record { node = n; kids = s.0; is = s.1; here = refl; classes = refl }) in
      let t : StartsAt g numbers m.names (over r.head r.parts) h.0.node = (h.0.kids, h.0.is, subst (AllStandIn g numbers m.names r.parts) (sym h.0.classes) s.2) in
      (h.0.node, h.1, record { names = m.names; starts = subst (λ (p : Pattern). StartsAt g numbers m.names p h.0.node) (sym r.left) t; fits = m.fits })

  -- the matches at the items are all matches
  pub all_found : (kept : List Bool) (rules : List Group) (items : List ℕ) (list : List Match) → AreReadable table → KeepsForms g numbers kept → AreRules table rules → AreItems g.nodes kept rules items → AreMatchesOf g numbers assumed table items list
      → (a : Axiom) (params : List Param) (classes : List ℕ) → In table a → IsMatch g numbers assumed a params classes → (x : Match) × In list x × (x.axiom ≡ a.number) × (x.params.items ≡ params) × (x.classes.items ≡ classes)
  all_found kept rules items list readable keeps are items_are is a params classes there m =
      let s = (starts g numbers assumed a params classes (readable a there)).0 m in
      let t = kept_start kept keeps a s.0 params classes (readable a there) s.2 in
      let h = headed rules readable are a t.0 params classes there t.2 in
      is.all a t.0 params classes (there, items_are t.0 h.2 h.0 h.1 t.1 h.3) t.2

  -- where there is no node, nothing starts
  pub nothing_at : AreReadable table → (before : List ℕ) (n : ℕ) (list : List Match) → form_at g.nodes n ≡ None → AreMatchesOf g numbers assumed table before list → AreMatchesOf g numbers assumed table (before ++ n ∷ []) list
  nothing_at readable before n list none_ is =
      tried_end before [] n list (λ a ps cs there m. let node = node_of readable a n ps cs there m in absurd (apart node.0 (sym (form_there g.nodes n node.0 node.1) ∙ none_))) (tried_begin before n list is)
    where
      apart : (node : Node) → Some (form node.op node.kids) ≡ None → ⊥
      apart node e = absurd (cc)

-- ---- the set's length

pub one_past : (b : Bool) (old new limit : ℕ) → new ≡ old + (if b then 1 else 0) → old ≤ limit → limit < new → new ≡ suc limit
one_past true old new limit e few past = omega (arith, e, few, past)
one_past false old new limit e few past = absurd (let f : new ≡ old + 0 = e in omega (arith, f, few, past))
