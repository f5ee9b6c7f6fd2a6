-- Thetas that are begun one after another.
use Rattle.std.proofs.Common.{◌≡◌, ℕ, ◌<◌, ◌≤◌, List, [], ◌∷◌, ◌++◌, length, Option, Some, None, slice_get, ◌⊎◌, inl, inr, ⊎_elim, sym, ap, ◌∙◌, subst, arith}
use Rattle.pv_build.proofs.Words.{slice_get_within, OpSort, Node, get_front, get_last, node_of, In, Graph, Named, named, Opens, Keeps, IsOfSort, IsUnnamed, StayNames, same_node, Within, name_last, names_within, some_of, Theta, Head, Slot, number, IsBegun, Begins, AreNodes}
use Rattle.pv_graph.specs.declared.node.Op.TheVariants as op
use Rattle.pv_layout.proofs.Cited.{push_cases}
use Rattle.pv_build.proofs.Staged.{as_long}

pub keeps_then : (a b c : Graph) → Keeps a b → Keeps b c → Keeps a c
keeps_then a b c p q = record { graph = q.graph; extends = record { nodes = λ n x at. q.extends.nodes n x (p.extends.nodes n x at); sorts = λ n s at. q.extends.sorts n s (p.extends.sorts n s at) } }

pub keeps_opens : (a b : Graph) (n : ℕ) → Opens a b n → Keeps a b
keeps_opens a b n o = record { graph = o.graph; extends = o.extends }

-- a name of the longer list is one of the others, or the last
pushed : (names : List Named) (x y : Named) → In (names ++ x ∷ []) y → In names y ⊎ (x ≡ y)
pushed [] x y (inl e) = inr e
pushed [] x y (inr e) = absurd e
pushed (z ∷ names) x y (inl e) = inl (inl e)
pushed (z ∷ names) x y (inr i) = ⊎_elim (λ j. inl (inr j)) (λ e. inr e) (pushed names x y i)

module _ (head : Head) (kids : List (Option ℕ)) (old : Graph) (names : List Named) where
  module _ (g : Graph) (now : List Named) (thetas : List Theta) (b : Begins head kids old names g now thetas) where
    pub keeps_begins : Keeps old g
    keeps_begins = record { graph = b.graph; extends = b.extends }

    -- one more theta
    module _ (slot : Slot) (n first : ℕ) (t : OpSort) (h : Graph) (meant : slice_get kids (number slot) ≡ Some (Some first)) (from : IsOfSort g first t) (sorted : IsOfSort h n t)
        (theta_ : slice_get h.nodes n ≡ Some (node_of (op.Theta head.depth) [])) (opens : Opens g h n) where
      abbrev x : Theta
      x = record { slot = slot; node = n; first = first }

      abbrev name : Named
      name = named head.header (number slot) n

      abbrev more : List Named
      more = now ++ name ∷ []

      abbrev all : List Theta
      all = thetas ++ x ∷ []

      longer : Within now more
      longer = names_within now (name ∷ [])

      long : length old.nodes ≤ length g.nodes
      long = as_long old g b.extends

      newest : IsBegun head kids (length old.nodes) h more x
      newest = record {
        meant = meant;
        is = name_last now name;
        unfinished = theta_;
        sort = (t, sorted, opens.extends.sorts first t from);
        after = let z = opens.after in omega (arith, z, long);
      }

      older : (y : Theta) → IsBegun head kids (length old.nodes) g now y → IsBegun head kids (length old.nodes) h more y
      older y is = record {
        meant = is.meant;
        is = longer head.header (number y.slot) y.node is.is;
        unfinished = opens.extends.nodes y.node _ is.unfinished;
        sort = (is.sort.0, opens.extends.sorts y.node is.sort.0 is.sort.1, opens.extends.sorts y.first is.sort.0 is.sort.2);
        after = is.after;
      }

      -- the others are older nodes
      low : (i : ℕ) (y : Theta) → slice_get thetas i ≡ Some y → y.node < n
      low i y at = let z = slice_get_within g.nodes y.node _ (b.each i y at).unfinished in let e = opens.after in omega (arith, z, e)

      theta_op : (m : ℕ) (y : Node) → slice_get h.nodes m ≡ Some y → m ≡ n → y.op ≡ op.Theta head.depth
      theta_op m y at e = ap (λ (y : Node). y.op) (same_node h.nodes n y (node_of (op.Theta head.depth) []) (ap (slice_get h.nodes) (sym e) ∙ at) theta_)

      begins_more : StayNames g now head.header head.depth h more → Begins head kids old names h more all
      begins_more stay = record {
        graph = opens.graph;
        made = λ m. opens.made (b.made m);
        extends = record { nodes = λ n x at. opens.extends.nodes n x (b.extends.nodes n x at); sorts = λ n s at. opens.extends.sorts n s (b.extends.sorts n s at) };
        open_ = opens.open_ ∙ b.open_;
        left = λ m o. ⊎_elim
            (λ was. ⊎_elim (λ y. inl y) (λ y. inr (y.0, longer head.header y.0 m y.1)) (b.left m was))
            (λ e. inr (number slot, subst (λ (m : ℕ). In more (named head.header (number slot) m)) (sym e) (name_last now name)))
            (opens.left m o);
        added = λ m y at. ⊎_elim (λ was. b.added m y was) (λ e. inr (theta_op m y at e)) (opens.added m y at);
        stay = λ depth deep are. stay depth deep (b.stay depth deep are);
        within = λ k s m i. longer k s m (b.within k s m i);
        each = λ i y at. ⊎_elim (λ was. older y (b.each i y was)) (λ last. subst (IsBegun head kids (length old.nodes) h more) last.1 newest) (push_cases thetas x y i at);
        once = λ i j y z at to same. ⊎_elim
            (λ was. ⊎_elim
            (λ too. b.once i j y z was too same)
            (λ last. absurd (let q : n ≡ z.node = ap (λ (y : Theta). y.node) last.1 in let w = low i y was in omega (arith, q, w, same)))
            (push_cases thetas x z j to))
            (λ last. ⊎_elim
            (λ was. absurd (let q : n ≡ y.node = ap (λ (y : Theta). y.node) last.1 in let w = low j z was in omega (arith, q, w, same)))
            (λ too. last.0 ∙ sym too.0)
            (push_cases thetas x z j to))
            (push_cases thetas x y i at);
      }

      pub begins_next : (now' : List Named) (thetas' : List Theta) → now' ≡ more → thetas' ≡ all → StayNames g now head.header head.depth h now' → Begins head kids old names h now' thetas'
      begins_next now' thetas' e q stay =
          subst (λ (ns : List Named). Begins head kids old names h ns thetas') (sym e) (subst (Begins head kids old names h more) (sym q) (begins_more (subst (StayNames g now head.header head.depth h) e stay)))

      pub nodes_more : (nodes : List (Option ℕ)) → number slot ≡ length nodes → AreNodes head kids names now thetas nodes → AreNodes head kids names more all (nodes ++ Some n ∷ [])
      nodes_more nodes here are = record {
        some = λ s m at. ⊎_elim
            (λ was. let z = are.some s m was in (z.0, z.1, get_front thetas x z.0 (slice_get_within thetas z.0 z.1 z.2) ∙ z.2, z.3, z.4))
            (λ last. (length thetas, x, get_last thetas x, here ∙ sym last.0, some_of n m last.1))
            (push_cases nodes (Some n) (Some m) s at);
        none = λ s at. ⊎_elim (λ was. are.none s was) (λ last. absurd (let z : Some n ≡ None = last.1 in cc)) (push_cases nodes (Some n) None s at);
        only = λ k s m i. ⊎_elim
            (λ was. ⊎_elim (λ y. inl y) (λ y. inr (y.0, get_front nodes (Some n) s (slice_get_within nodes s (Some m) y.1) ∙ y.1)) (are.only k s m was))
            (λ e. inr (
              ap (λ (y : Named). y.header) (sym e),
              ap (slice_get (nodes ++ Some n ∷ [])) (ap (λ (y : Named). y.slot) (sym e) ∙ here) ∙ get_last nodes (Some n) ∙ ap (λ (k : ℕ). Some (Some k)) (ap (λ (y : Named). y.node) e),
            ))
            (pushed now name (named k s m) i);
      }

  -- no theta for a slot without a first kid
  pub nodes_same : (now : List Named) (thetas : List Theta) (nodes : List (Option ℕ)) → slice_get kids (length nodes) ≡ Some None → AreNodes head kids names now thetas nodes → AreNodes head kids names now thetas (nodes ++ None ∷ [])
  nodes_same now thetas nodes kid are = record {
    some = λ s m at. ⊎_elim (λ was. are.some s m was) (λ last. absurd (let z : None ≡ Some m = last.1 in cc)) (push_cases nodes None (Some m) s at);
    none = λ s at. ⊎_elim (λ was. are.none s was) (λ last. ap (slice_get kids) last.0 ∙ kid) (push_cases nodes None None s at);
    only = λ k s m i. ⊎_elim (λ y. inl y) (λ y. inr (y.0, get_front nodes None s (slice_get_within nodes s (Some m) y.1) ∙ y.1)) (are.only k s m i);
  }

  -- the slot after those has no name yet
  pub next_unnamed : (now : List Named) (thetas : List Theta) (nodes : List (Option ℕ)) → AreNodes head kids names now thetas nodes → ((s : ℕ) → IsUnnamed names head.header s) → IsUnnamed now head.header (length nodes)
  next_unnamed now thetas nodes are fresh n i = ⊎_elim
      (λ was. fresh (length nodes) n was)
      (λ y. let z = slice_get_within nodes (length nodes) (Some n) y.1 in absurd (omega (arith, z)))
      (are.only head.header (length nodes) n i)
