-- What solves the equations of a flow, computed by the checker: from what is known of a solution so far, one slot after the other.
-- Where a test can't be computed the solution's own value stands, so that each equation here holds of every flow.
use Rattle.std.proofs.Common.{◌≡◌, ◌≢◌, ℕ, zero, suc, ◌<◌, ◌≤◌, Bool, true, false, not, ◌&&◌, ◌||◌, List, [], ◌∷◌, ◌++◌, length, Option, Some, None, ◌⊎◌, inl, inr, ⊎_elim, refl, sym, ap, ◌∙◌, subst, arith, ◌==◌, nat_le, if◌then◌else◌}
use Rattle.std.proofs.lemmas.Bool.{leb-true, le-leb}
use Rattle.pv_graph.specs.declared.node.Op.TheVariants as op
use Rattle.pv_graph.specs.Ops as ops
use Rattle.pv_graph.specs.Ops.{shape}
use Rattle.pv_graph.specs.Walks.{In, open_kids}
use Rattle.pv_equations.specs.Exp.{Exp, Exps, Name, Over, NoExp, Then, one, two, three, listed, made}
use Rattle.pv_loops.specs.Ranks.{Heads}
use Rattle.pv_equations.specs.Flow.{Part, Parts, Slot, Of, NoPart, More, put, put_all, Return, Throw, Dest, To, End, Exit, Chain, Leave, Test, Flow}
use Rattle.pv_equations.specs.Equations.{Target, Node, Back, Finish, Returning, Leaving, Place, On, Again, Header, Gone, Ended, Seen, Joins, IsChain, Values, outs, token_out, token_outs, leaf, AtPlace, IsExit, IsTree, OfToken, FreeIn, theta, name, entered, begun, kid, first_kid, tree_of, first_of_region, first_loops, or_else, Given, never_exp, true_exp, false_exp, at_start, AreEquations}
use Rattle.pv_equations.specs.Root.{root_of}
use Rattle.pv_equations.proofs.Cited.{below}
use Rattle.examples_flows.proofs.Tests.{same_number, number_self, and_parts, or_parts, or_neither, not_both, same_list, same_list_true, list_self, heads_by, heads_true, heads_false, same_exp, same_exp_true, same_exp_false}
use Rattle.examples_flows.proofs.Places.{place_by, place_is, ahead_by, ahead_true, lost_in, lost_of, lost_true}

-- ---- what is free

-- which kids are open
pub data Open : Type 0 where
  all_kids : Open
  but_first : Open
  no_kids : Open

abbrev opens : ℕ → ops.Shape → Open
opens d (ops.eval e) = if e == d then but_first else all_kids
opens d (ops.pass e) = if e == d then no_kids else all_kids
opens d s = all_kids

abbrev kept : Open → List Exp → List Exp
kept all_kids ks = ks
kept but_first [] = []
kept but_first (k ∷ ks) = ks
kept no_kids ks = []

open_kept : (d : ℕ) (s : ops.Shape) (ks : List Exp) → open_kids d s ks ≡ kept (opens d s) ks
open_kept d (ops.eval e) (k ∷ ks) = go (e == d)
  where
    go : (t : Bool) → (if t then ks else (k ∷ ks)) ≡ kept (if t then but_first else all_kids) (k ∷ ks)
    go true = refl
    go false = refl
open_kept d (ops.eval e) [] = go (e == d)
  where
    go : (t : Bool) → [] ≡ kept (if t then but_first else all_kids) []
    go true = refl
    go false = refl
open_kept d (ops.pass e) ks = go (e == d)
  where
    go : (t : Bool) → (if t then [] else ks) ≡ kept (if t then no_kids else all_kids) ks
    go true = refl
    go false = refl
open_kept d s ks = refl

abbrev is_theta : ℕ → ops.Shape → Bool
is_theta d (ops.theta e) = e == d
is_theta d s = false

theta_true : (d : ℕ) (s : ops.Shape) → is_theta d s ≡ true → s ≡ ops.theta d
theta_true d (ops.theta e) h = ap ops.theta (same_number e d h)
theta_true d s h = absurd (cc)

theta_self : (d : ℕ) (s : ops.Shape) → s ≡ ops.theta d → is_theta d s ≡ true
theta_self d s h = subst (λ (s : ops.Shape). is_theta d s ≡ true) (sym h) (number_self d)

-- a theta of the depth is shown, or a name of which q is true
abbrev mutual
  shows_by : (ℕ → ℕ → Bool) → ℕ → Exp → Bool
  shows_by q d (Name h s) = q h s
  shows_by q d (Over o es) = is_theta d (shape o) || any_by q d (opens d (shape o)) es

  any_by : (ℕ → ℕ → Bool) → ℕ → Open → Exps → Bool
  any_by q d no_kids es = false
  any_by q d but_first NoExp = false
  any_by q d but_first (Then e es) = any_by q d all_kids es
  any_by q d all_kids NoExp = false
  any_by q d all_kids (Then e es) = shows_by q d e || any_by q d all_kids es

module _ (f : Flow) (v : Values) (q : ℕ → ℕ → Bool) (d : ℕ) where
  mutual
    shows_true : ((h s : ℕ) → q h s ≡ true → FreeIn f v d (Name h s)) → (x : Exp) → shows_by q d x ≡ true → FreeIn f v d x
    shows_true free (Name h s) e = free h s e
    shows_true free (Over o es) e = go (or_parts (is_theta d (shape o)) (any_by q d (opens d (shape o)) es) e) (any_true free (opens d (shape o)) es)
      where
        go : (is_theta d (shape o) ≡ true) ⊎ (any_by q d (opens d (shape o)) es ≡ true) → (any_by q d (opens d (shape o)) es ≡ true → (k : Exp) × In (kept (opens d (shape o)) (listed es)) k × FreeIn f v d k) → FreeIn f v d (Over o es)
        go (inl e) rec = theta o es (theta_true d (shape o) e)
        go (inr e) rec = let r = rec e in kid o es r.0 (subst (λ (ks : List Exp). In ks r.0) (sym (open_kept d (shape o) (listed es))) r.1) r.2

    any_true : ((h s : ℕ) → q h s ≡ true → FreeIn f v d (Name h s)) → (w : Open) (es : Exps) → any_by q d w es ≡ true → (k : Exp) × In (kept w (listed es)) k × FreeIn f v d k
    any_true free no_kids es e = absurd (cc)
    any_true free but_first NoExp e = absurd (cc)
    any_true free but_first (Then a es) e = any_true free all_kids es e
    any_true free all_kids NoExp e = absurd (cc)
    any_true free all_kids (Then a es) e = go (or_parts (shows_by q d a) (any_by q d all_kids es) e) (λ e. shows_true free a e) (λ e. any_true free all_kids es e)
      where
        go : (shows_by q d a ≡ true) ⊎ (any_by q d all_kids es ≡ true) → (shows_by q d a ≡ true → FreeIn f v d a) → (any_by q d all_kids es ≡ true → (k : Exp) × In (listed es) k × FreeIn f v d k) → (k : Exp) × In (a ∷ listed es) k × FreeIn f v d k
        go (inl e) here rest = (a, inl refl, here e)
        go (inr e) here rest = let r = rest e in (r.0, inr r.1, r.2)

  any_false : (w : Open) (es : Exps) → any_by q d w es ≡ false → (k : Exp) → In (kept w (listed es)) k → shows_by q d k ≡ false
  any_false no_kids es e k i = absurd i
  any_false but_first NoExp e k i = absurd i
  any_false but_first (Then a es) e k i = any_false all_kids es e k i
  any_false all_kids NoExp e k i = absurd i
  any_false all_kids (Then a es) e k (inl i) = subst (λ (k : Exp). shows_by q d k ≡ false) i (or_neither (shows_by q d a) (any_by q d all_kids es) e).0
  any_false all_kids (Then a es) e k (inr i) = any_false all_kids es (or_neither (shows_by q d a) (any_by q d all_kids es) e).1 k i

  shows_false : ((h s : ℕ) → d ≤ length (f.around h) → q h s ≡ true) → (x : Exp) → shows_by q d x ≡ false → FreeIn f v d x → ⊥
  shows_false deep x e (theta o es z) = not_both (is_theta d (shape o)) (theta_self d (shape o) z) (or_neither (is_theta d (shape o)) (any_by q d (opens d (shape o)) es) e).0
  shows_false deep x e (name h s z) = not_both (q h s) (deep h s (omega arith)) e
  shows_false deep x e (entered h s l t) = not_both (q h s) (deep h s (omega arith)) e
  shows_false deep x e (begun h s l t) = not_both (q h s) (deep h s (omega arith)) e
  shows_false deep x e (kid o es k i t) =
      shows_false deep k (any_false (opens d (shape o)) es (or_neither (is_theta d (shape o)) (any_by q d (opens d (shape o)) es) e).1 k (subst (λ (ks : List Exp). In ks k) (open_kept d (shape o) (listed es)) i)) t

-- ---- what is known of a solution

-- u says of v only what is right
pub record Agrees (u v : Values) : Type 0 where
  pub value : (b s : ℕ) → u.value b s ≡ v.value b s
  pub tree : (R : List ℕ) (t : Target) (s : ℕ) (F : List ℕ) (b : ℕ) → u.tree R t s F b ≡ v.tree R t s F b
  pub out : (h : ℕ) (x : Exp) → u.out h x ≡ v.out h x
  pub ending : (h : ℕ) → u.ending h ≡ v.ending h
  pub entering : (h s : ℕ) → u.entering h s ≡ v.entering h s
  pub again : (h s : ℕ) → u.again h s ≡ v.again h s

agrees_first : (u v : Values) → Agrees u v → (h s : ℕ) → first_kid u h s ≡ first_kid v h s
agrees_first u v a h zero = refl
agrees_first u v a h (suc s) = a.entering h (suc s)

mutual
  put_alike : (g k : ℕ → Exp) → ((s : ℕ) → g s ≡ k s) → (p : Part) → put g p ≡ put k p
  put_alike g k h (Slot s) = h s
  put_alike g k h (Of o p ps) = ap (made o) (put_all_alike g k h ps)

  put_all_alike : (g k : ℕ → Exp) → ((s : ℕ) → g s ≡ k s) → (ps : Parts) → put_all g ps ≡ put_all k ps
  put_all_alike g k h NoPart = refl
  put_all_alike g k h (More p ps) = ap (λ (e : Exp). Then e (put_all g ps)) (put_alike g k h p) ∙ ap (Then (put k p)) (put_all_alike g k h ps)

abbrev join_by : Exp → Option Exp → Option Exp → Option Exp
join_by c None b = b
join_by c (Some a) None = Some a
join_by c (Some a) (Some b) = if same_exp a b then Some a else Some (Over op.Phi (three c a b))

join_is : (c : Exp) (a b r : Option Exp) → Joins c a b r → r ≡ join_by c a b
join_is c None b r j = j
join_is c (Some a) None r j = j
join_is c (Some a) (Some b) r j = go (same_exp a b) refl j
  where
    go : (t : Bool) → same_exp a b ≡ t → ((a ≡ b) × (r ≡ Some a)) ⊎ ((a ≢ b) × (r ≡ Some (Over op.Phi (three c a b)))) → r ≡ (if t then Some a else Some (Over op.Phi (three c a b)))
    go true e (inl j) = j.1
    go true e (inr j) = absurd (j.0 (same_exp_true a b e))
    go false e (inl j) = absurd (same_exp_false a b e j.0)
    go false e (inr j) = j.1

abbrev token_by : Target → ℕ → Bool
token_by Leaving s = false
token_by t zero = true
token_by t (suc s) = false

token_true : (t : Target) (s : ℕ) → token_by t s ≡ true → OfToken t s
token_true Leaving s e = absurd (cc)
token_true (Node k) zero e = tt
token_true Back zero e = tt
token_true Finish zero e = tt
token_true Returning zero e = tt
token_true (Node k) (suc s) e = absurd (cc)
token_true Back (suc s) e = absurd (cc)
token_true Finish (suc s) e = absurd (cc)
token_true Returning (suc s) e = absurd (cc)

token_false : (t : Target) (s : ℕ) → token_by t s ≡ false → OfToken t s → ⊥
token_false Leaving s e h = h
token_false (Node k) zero e h = absurd (cc)
token_false Back zero e h = absurd (cc)
token_false Finish zero e h = absurd (cc)
token_false Returning zero e h = absurd (cc)
token_false (Node k) (suc s) e h = h
token_false Back (suc s) e h = h
token_false Finish (suc s) e h = h
token_false Returning (suc s) e h = h

abbrev is_node : List ℕ → ℕ → Bool
is_node [] m = true
is_node (g ∷ G) m = same_list (g ∷ G) (m ∷ [])

node_true : (G : List ℕ) (m : ℕ) → is_node G m ≡ true → (G ≡ []) ⊎ (G ≡ m ∷ [])
node_true [] m e = inl refl
node_true (g ∷ G) m e = inr (same_list_true (g ∷ G) (m ∷ []) e)

node_false : (G : List ℕ) (m : ℕ) → is_node G m ≡ false → (G ≡ []) ⊎ (G ≡ m ∷ []) → ⊥
node_false [] m e h = absurd (cc)
node_false (g ∷ G) m e (inl h) = absurd (cc)
node_false (g ∷ G) m e (inr h) = not_both (same_list (g ∷ G) (m ∷ [])) (subst (λ (A : List ℕ). same_list A (m ∷ []) ≡ true) (sym h) (list_self (m ∷ []))) e

-- ---- trees

module _ (f : Flow) (blocks : ℕ) where
  -- whether the depth of a name is free, its loop's kids followed at most n times
  abbrev name_free : Values → ℕ → ℕ → ℕ → ℕ → Bool
  name_free u d zero h s = length (f.around h) == d
  name_free u d (suc n) h s = (length (f.around h) == d) || (nat_le (suc d) (length (f.around h)) && (shows_by (name_free u d n) d (first_kid u h s) || shows_by (name_free u d n) d (u.again h s)))

  abbrev may_be_free : ℕ → ℕ → ℕ → Bool
  may_be_free d h s = nat_le d (length (f.around h))

  abbrev Taken : Values → ℕ → Exp → Exp
  Taken u h x = Over (op.Eval (length (f.around h))) (two x (Over (op.Pass (length (f.around h))) (one (u.ending h))))

  abbrev out_by : Values → ℕ → Exp → Exp
  out_by u h x =
      if heads_by (f.around h) h && shows_by (name_free u (length (f.around h)) blocks) (length (f.around h)) x then Taken u h x
      else if heads_by (f.around h) h && not (shows_by (may_be_free (length (f.around h))) (length (f.around h)) x) then x
      else u.out h x

  abbrev outs_by : Values → List ℕ → Exp → Exp
  outs_by u [] x = x
  outs_by u (h ∷ F) x = outs_by u F (out_by u h x)

  abbrev leaf_by : Values → List ℕ → ℕ → Exit → ℕ → Exp
  leaf_by u F b e zero = token_outs u f F (put (u.value b) (e.slots 0))
  leaf_by u F b e (suc s) = outs_by u F (put (u.value b) (e.slots (suc s)))

  abbrev place_at : List ℕ → List ℕ → Dest → Place
  place_at R F (To b) = place_by R b (f.around b) F
  place_at R F (End k) = Ended k

  abbrev node_by : Bool → Values → (List ℕ → ℕ → Option Exp) → ℕ → List ℕ → ℕ → Exit → List ℕ → ℕ → Option Exp
  node_by true u rec s F b e G m = Some (leaf_by u F b e s)
  node_by false u rec s F b e G m = rec G m

  abbrev at_by : Values → (List ℕ → ℕ → Option Exp) → List ℕ → Target → ℕ → List ℕ → ℕ → Exit → Place → Option Exp
  at_by u rec R (Node k) s F b e (On G m) = node_by ((m == k) && is_node G m) u rec s F b e G m
  at_by u rec R t s F b e (On G m) = rec G m
  at_by u rec R t s F b e Again = None
  at_by u rec R Back s F b e Header = Some (leaf_by u F b e s)
  at_by u rec R Leaving s F b e Header = Some false_exp
  at_by u rec R t s F b e Header = None
  at_by u rec R Leaving s F b e Gone = Some true_exp
  at_by u rec R t s F b e Gone = None
  at_by u rec R Leaving s F b e (Ended k) = Some true_exp
  at_by u rec [] Finish s F b e (Ended k) = Some (leaf_by u F b e s)
  at_by u rec [] Returning s F b e (Ended Return) = Some (leaf_by u F b e s)
  at_by u rec R t s F b e (Ended k) = None

  abbrev chain_by : Values → (List ℕ → ℕ → Option Exp) → List ℕ → Target → ℕ → List ℕ → ℕ → Chain → Option Exp
  chain_by u rec R t s F b (Leave e) = at_by u rec R t s F b e (place_at R F e.dest)
  chain_by u rec R t s F b (Test c e rest) = join_by (outs_by u F (put (u.value b) c)) (at_by u rec R t s F b e (place_at R F e.dest)) (chain_by u rec R t s F b rest)

  -- the tree of a token, where something is ahead or not
  abbrev live_by : Bool → Values → (List ℕ → ℕ → Option Exp) → List ℕ → Target → ℕ → List ℕ → ℕ → Option Exp
  live_by true u rec R t s F b = chain_by u rec R t s F b (f.chain b)
  live_by false u rec R t s F b = if lost_in f R t (lost_of f R t blocks (below blocks)) b then Some never_exp else u.tree R t s F b

  abbrev guard_by : Bool → Values → (List ℕ → ℕ → Option Exp) → List ℕ → Target → ℕ → List ℕ → ℕ → Option Exp
  guard_by true u rec R t s F b = live_by (ahead_by f R t blocks b) u rec R t s F b
  guard_by false u rec R t s F b = chain_by u rec R t s F b (f.chain b)

  abbrev inside_by : Bool → Values → (List ℕ → ℕ → Option Exp) → List ℕ → Target → ℕ → List ℕ → ℕ → Option Exp
  inside_by true u rec R t s F b = guard_by (token_by t s) u rec R t s F b
  inside_by false u rec R t s F b = u.tree R t s F b

  -- a tree, along at most n exits
  abbrev pub tree_by : Values → ℕ → List ℕ → Target → ℕ → List ℕ → ℕ → Option Exp
  tree_by u zero R t s F b = u.tree R t s F b
  tree_by u (suc n) R t s F b = inside_by (same_list (f.around b) (F ++ R)) u (λ G m. tree_by u n R t s G m) R t s F b

  module _ (u v : Values) (agrees : Agrees u v) (eqs : AreEquations f v) where
    name_true : (d n h s : ℕ) → name_free u d n h s ≡ true → FreeIn f v d (Name h s)
    name_true d zero h s e = name h s (same_number (length (f.around h)) d e)
    name_true d (suc n) h s e = go (or_parts (length (f.around h) == d) _ e)
        (λ x e. shows_true f v (name_free u d n) d (λ h s e. name_true d n h s e) x e)
      where
        deeper : d < length (f.around h) → ((x : Exp) → shows_by (name_free u d n) d x ≡ true → FreeIn f v d x) → (shows_by (name_free u d n) d (first_kid u h s) ≡ true) ⊎ (shows_by (name_free u d n) d (u.again h s) ≡ true) → FreeIn f v d (Name h s)
        deeper l rec (inl e) = entered h s l (subst (FreeIn f v d) (agrees_first u v agrees h s) (rec (first_kid u h s) e))
        deeper l rec (inr e) = begun h s l (subst (FreeIn f v d) (agrees.again h s) (rec (u.again h s) e))

        go : ((length (f.around h) == d) ≡ true) ⊎ ((nat_le (suc d) (length (f.around h)) && (shows_by (name_free u d n) d (first_kid u h s) || shows_by (name_free u d n) d (u.again h s))) ≡ true)
            → ((x : Exp) → shows_by (name_free u d n) d x ≡ true → FreeIn f v d x) → FreeIn f v d (Name h s)
        go (inl e) rec = name h s (same_number (length (f.around h)) d e)
        go (inr e) rec =
            let p = and_parts (nat_le (suc d) (length (f.around h))) _ e in
            deeper (let l : suc d ≤ length (f.around h) = leb-true (suc d) (length (f.around h)) p.0 in omega arith) rec (or_parts _ _ p.1)

    not_free : (d : ℕ) (x : Exp) → shows_by (may_be_free d) d x ≡ false → FreeIn f v d x → ⊥
    not_free d x e h = shows_false f v (may_be_free d) d (λ h s l. le-leb d (length (f.around h)) l) x e h

    taken_is : (h : ℕ) (x : Exp) → Taken u h x ≡ Taken v h x
    taken_is h x = ap (λ (y : Exp). Over (op.Eval (length (f.around h))) (two x (Over (op.Pass (length (f.around h))) (one y)))) (agrees.ending h)

    out_cases : (h : ℕ) (x : Exp) → Heads (f.around h) h → (FreeIn f v (length (f.around h)) x × (v.out h x ≡ Taken v h x)) ⊎ ((FreeIn f v (length (f.around h)) x → ⊥) × (v.out h x ≡ x))
    out_cases h x z = subst (λ (A : List ℕ). (FreeIn f v (length A) x × (v.out h x ≡ Over (op.Eval (length A)) (two x (Over (op.Pass (length A)) (one (v.ending h)))))) ⊎ ((FreeIn f v (length A) x → ⊥) × (v.out h x ≡ x))) (sym z.1) (eqs.outs_are h x z.0 z.1)

    out_is : (h : ℕ) (x : Exp) → out_by u h x ≡ v.out h x
    out_is h x = go (heads_by (f.around h) h) refl (shows_by (name_free u (length (f.around h)) blocks) (length (f.around h)) x) refl (shows_by (may_be_free (length (f.around h))) (length (f.around h)) x) refl
      where
        free : Heads (f.around h) h → FreeIn f v (length (f.around h)) x → Taken u h x ≡ v.out h x
        free z y = ⊎_elim (λ c. taken_is h x ∙ sym c.1) (λ c. absurd (c.0 y)) (out_cases h x z)

        kept : Heads (f.around h) h → (FreeIn f v (length (f.around h)) x → ⊥) → x ≡ v.out h x
        kept z n = ⊎_elim (λ c. absurd (n c.0)) (λ c. sym c.1) (out_cases h x z)

        go : (a : Bool) → heads_by (f.around h) h ≡ a → (b : Bool) → shows_by (name_free u (length (f.around h)) blocks) (length (f.around h)) x ≡ b → (c : Bool) → shows_by (may_be_free (length (f.around h))) (length (f.around h)) x ≡ c
            → (if a && b then Taken u h x else if a && not c then x else u.out h x) ≡ v.out h x
        go true ha true hb c hc = free (heads_true (f.around h) h ha) (shows_true f v (name_free u (length (f.around h)) blocks) (length (f.around h)) (λ k s e. name_true (length (f.around h)) blocks k s e) x hb)
        go true ha false hb false hc = kept (heads_true (f.around h) h ha) (not_free (length (f.around h)) x hc)
        go true ha false hb true hc = agrees.out h x
        go false ha b hb c hc = agrees.out h x

    outs_is : (F : List ℕ) (x : Exp) → outs_by u F x ≡ outs v F x
    outs_is [] x = refl
    outs_is (h ∷ F) x = outs_is F (out_by u h x) ∙ ap (λ (x : Exp). outs v F x) (out_is h x)

    token_is : (h : ℕ) (x : Exp) → token_out u f h x ≡ token_out v f h x
    token_is h x =
        ap (λ (y : Exp). made op.Both (two y (Over (op.Eval (length (f.around h))) (two x (Over (op.Pass (length (f.around h))) (one (u.ending h))))))) (agrees.entering h 0)
        ∙ ap (λ (y : Exp). made op.Both (two (v.entering h 0) (Over (op.Eval (length (f.around h))) (two x (Over (op.Pass (length (f.around h))) (one y)))))) (agrees.ending h)

    tokens_is : (F : List ℕ) (x : Exp) → token_outs u f F x ≡ token_outs v f F x
    tokens_is [] x = refl
    tokens_is (h ∷ F) x = tokens_is F (token_out u f h x) ∙ ap (λ (x : Exp). token_outs v f F x) (token_is h x)

    part_is : (b : ℕ) (p : Part) → put (u.value b) p ≡ put (v.value b) p
    part_is b p = put_alike (u.value b) (v.value b) (λ s. agrees.value b s) p

    leaf_is : (F : List ℕ) (b : ℕ) (e : Exit) (s : ℕ) → leaf v f F b e s ≡ leaf_by u F b e s
    leaf_is F b e zero = sym (tokens_is F (put (u.value b) (e.slots 0)) ∙ ap (λ (x : Exp). token_outs v f F x) (part_is b (e.slots 0)))
    leaf_is F b e (suc s) = sym (outs_is F (put (u.value b) (e.slots (suc s))) ∙ ap (λ (x : Exp). outs v F x) (part_is b (e.slots (suc s))))

    test_is : (F : List ℕ) (b : ℕ) (c : Part) → outs v F (put (v.value b) c) ≡ outs_by u F (put (u.value b) c)
    test_is F b c = sym (outs_is F (put (u.value b) c) ∙ ap (λ (x : Exp). outs v F x) (part_is b c))

    place_same : (R F : List ℕ) (d : Dest) (p : Place) → Seen f R F d p → place_at R F d ≡ p
    place_same R F (To b) p h = place_is R b (f.around b) F p h
    place_same R F (End k) p h = sym h

    -- what an exit and a chain give, where the trees further on are given
    abbrev Right : (List ℕ → ℕ → Option Exp) → List ℕ → Target → ℕ → Type 0
    Right rec R t s = (G : List ℕ) (m : ℕ) → v.tree R t s G m ≡ rec G m

    node_is : (rec : List ℕ → ℕ → Option Exp) (R : List ℕ) (k s : ℕ) (F : List ℕ) (b : ℕ) (e : Exit) (G : List ℕ) (m : ℕ) (r : Option Exp) → Right rec R (Node k) s → AtPlace f v R (Node k) s F b e (On G m) r → r ≡ node_by ((m == k) && is_node G m) u rec s F b e G m
    node_is rec R k s F b e G m r right h = go (m == k) refl (is_node G m) refl h
      where
        go : (x : Bool) → (m == k) ≡ x → (y : Bool) → is_node G m ≡ y → AtPlace f v R (Node k) s F b e (On G m) r → r ≡ node_by (x && y) u rec s F b e G m
        go true hx true hy (inl h) = h.2 ∙ ap Some (leaf_is F b e s)
        go true hx true hy (inr h) = absurd (⊎_elim (λ n. n (same_number m k hx)) (λ n. ⊎_elim n.0 n.1 (node_true G m hy)) h.0)
        go true hx false hy (inl h) = absurd (node_false G m hy h.0)
        go true hx false hy (inr h) = h.1 ∙ right G m
        go false hx y hy (inl h) = absurd (not_both (m == k) (subst (λ (k : ℕ). (m == k) ≡ true) h.1 (number_self m)) hx)
        go false hx y hy (inr h) = h.1 ∙ right G m

    at_is : (rec : List ℕ → ℕ → Option Exp) (R : List ℕ) (t : Target) (s : ℕ) (F : List ℕ) (b : ℕ) (e : Exit) (p : Place) (r : Option Exp) → Right rec R t s → AtPlace f v R t s F b e p r → r ≡ at_by u rec R t s F b e p
    at_is rec R (Node k) s F b e (On G m) r right h = node_is rec R k s F b e G m r right h
    at_is rec R Back s F b e (On G m) r right h = h ∙ right G m
    at_is rec R Finish s F b e (On G m) r right h = h ∙ right G m
    at_is rec R Returning s F b e (On G m) r right h = h ∙ right G m
    at_is rec R Leaving s F b e (On G m) r right h = h ∙ right G m
    at_is rec R (Node k) s F b e Again r right h = h
    at_is rec R Back s F b e Again r right h = h
    at_is rec R Finish s F b e Again r right h = h
    at_is rec R Returning s F b e Again r right h = h
    at_is rec R Leaving s F b e Again r right h = h
    at_is rec R (Node k) s F b e Header r right h = h
    at_is rec R Back s F b e Header r right h = h ∙ ap Some (leaf_is F b e s)
    at_is rec R Finish s F b e Header r right h = h
    at_is rec R Returning s F b e Header r right h = h
    at_is rec R Leaving s F b e Header r right h = h
    at_is rec R (Node k) s F b e Gone r right h = h
    at_is rec R Back s F b e Gone r right h = h
    at_is rec R Finish s F b e Gone r right h = h
    at_is rec R Returning s F b e Gone r right h = h
    at_is rec R Leaving s F b e Gone r right h = h
    at_is rec R Leaving s F b e (Ended k) r right h = h
    at_is rec [] (Node n) s F b e (Ended k) r right h = h
    at_is rec (l ∷ R) (Node n) s F b e (Ended k) r right h = h
    at_is rec [] Back s F b e (Ended k) r right h = h
    at_is rec (l ∷ R) Back s F b e (Ended k) r right h = h
    at_is rec [] Finish s F b e (Ended k) r right h = h ∙ ap Some (leaf_is F b e s)
    at_is rec (l ∷ R) Finish s F b e (Ended k) r right h = h
    at_is rec [] Returning s F b e (Ended Return) r right h = h ∙ ap Some (leaf_is F b e s)
    at_is rec [] Returning s F b e (Ended Throw) r right h = h
    at_is rec (l ∷ R) Returning s F b e (Ended k) r right h = h

    exit_is : (rec : List ℕ → ℕ → Option Exp) (R : List ℕ) (t : Target) (s : ℕ) (F : List ℕ) (b : ℕ) (e : Exit) (r : Option Exp) → Right rec R t s → IsExit f v R t s F b e r → r ≡ at_by u rec R t s F b e (place_at R F e.dest)
    exit_is rec R t s F b e r right h = at_is rec R t s F b e (place_at R F e.dest) r right (subst (λ (p : Place). AtPlace f v R t s F b e p r) (sym (place_same R F e.dest h.0 h.1)) h.2)

    chain_is : (rec : List ℕ → ℕ → Option Exp) (R : List ℕ) (t : Target) (s : ℕ) (F : List ℕ) (b : ℕ) → Right rec R t s → (ch : Chain) (r : Option Exp) → IsChain (IsExit f v R t s F b) (λ c. outs v F (put (v.value b) c)) ch r → r ≡ chain_by u rec R t s F b ch
    chain_is rec R t s F b right (Leave e) r h = exit_is rec R t s F b e r right h
    chain_is rec R t s F b right (Test c e rest) r h =
        join_is (outs v F (put (v.value b) c)) h.0 h.1 r h.4
        ∙ ap (λ (c : Exp). join_by c h.0 h.1) (test_is F b c)
        ∙ ap (λ (x : Option Exp). join_by (outs_by u F (put (u.value b) c)) x h.1) (exit_is rec R t s F b e h.0 right h.2)
        ∙ ap (λ (y : Option Exp). join_by (outs_by u F (put (u.value b) c)) (at_by u rec R t s F b e (place_at R F e.dest)) y) (chain_is rec R t s F b right rest h.1 h.3)

    live_is : (rec : List ℕ → ℕ → Option Exp) (R : List ℕ) (t : Target) (s : ℕ) (F : List ℕ) (b : ℕ) → Right rec R t s → (OfToken t s) → IsTree f v R t s F b (v.tree R t s F b) → (x : Bool) → ahead_by f R t blocks b ≡ x → v.tree R t s F b ≡ live_by x u rec R t s F b
    live_is rec R t s F b right token (inl h) true hx = absurd (h.1 (ahead_true f R t blocks b hx))
    live_is rec R t s F b right token (inr h) true hx = chain_is rec R t s F b right (f.chain b) (v.tree R t s F b) h.1
    live_is rec R t s F b right token h false hx = lost (lost_in f R t (lost_of f R t blocks (below blocks)) b) refl h
      where
        lost : (y : Bool) → lost_in f R t (lost_of f R t blocks (below blocks)) b ≡ y → IsTree f v R t s F b (v.tree R t s F b) → v.tree R t s F b ≡ (if y then Some never_exp else u.tree R t s F b)
        lost true hy (inl h) = h.2
        lost true hy (inr h) = absurd (lost_true f R t (lost_of f R t blocks (below blocks)) b hy (h.0 token))
        lost false hy h = sym (agrees.tree R t s F b)

    guard_is : (rec : List ℕ → ℕ → Option Exp) (R : List ℕ) (t : Target) (s : ℕ) (F : List ℕ) (b : ℕ) → Right rec R t s → IsTree f v R t s F b (v.tree R t s F b) → (x : Bool) → token_by t s ≡ x → v.tree R t s F b ≡ guard_by x u rec R t s F b
    guard_is rec R t s F b right h true hx = live_is rec R t s F b right (token_true t s hx) h (ahead_by f R t blocks b) refl
    guard_is rec R t s F b right (inl h) false hx = absurd (token_false t s hx h.0)
    guard_is rec R t s F b right (inr h) false hx = chain_is rec R t s F b right (f.chain b) (v.tree R t s F b) h.1

    inside_is : (rec : List ℕ → ℕ → Option Exp) (R : List ℕ) (t : Target) (s : ℕ) (F : List ℕ) (b : ℕ) → Right rec R t s → (x : Bool) → same_list (f.around b) (F ++ R) ≡ x → v.tree R t s F b ≡ inside_by x u rec R t s F b
    inside_is rec R t s F b right true hx = guard_is rec R t s F b right (eqs.trees R t s F b (same_list_true (f.around b) (F ++ R) hx)) (token_by t s) refl
    inside_is rec R t s F b right false hx = sym (agrees.tree R t s F b)

    -- a solution has the tree that is computed
    pub tree_is : (n : ℕ) (R : List ℕ) (t : Target) (s : ℕ) (F : List ℕ) (b : ℕ) → v.tree R t s F b ≡ tree_by u n R t s F b
    tree_is zero R t s F b = sym (agrees.tree R t s F b)
    tree_is (suc n) R t s F b = inside_is (λ G m. tree_by u n R t s G m) R t s F b (λ G m. tree_is n R t s G m) (same_list (f.around b) (F ++ R)) refl

-- ---- one slot after the other

-- what is computed of a solution
pub data Wanted : Type 0 where
  -- a slot at a block
  at_block : (block slot : ℕ) → Wanted
  -- a slot where the loop of a header is entered
  where_entered : (header slot : ℕ) → Wanted
  -- a slot where the loop begins again
  where_again : (header slot : ℕ) → Wanted
  -- whether the loop is left
  whether_left : (header : ℕ) → Wanted

abbrev pub wanted_of : Values → Wanted → Exp
wanted_of v (at_block b s) = v.value b s
wanted_of v (where_entered h s) = v.entering h s
wanted_of v (where_again h s) = v.again h s
wanted_of v (whether_left h) = v.ending h

-- what is known, with one more
abbrev pub know : Values → Wanted → Exp → Values
know u (at_block b s) x = record u { value = λ c t. if (c == b) && (t == s) then x else u.value c t }
know u (where_entered h s) x = record u { entering = λ c t. if (c == h) && (t == s) then x else u.entering c t }
know u (where_again h s) x = record u { again = λ c t. if (c == h) && (t == s) then x else u.again c t }
know u (whether_left h) x = record u { ending = λ c. if c == h then x else u.ending c }

at_pair : (g k : ℕ → ℕ → Exp) → ((c t : ℕ) → g c t ≡ k c t) → (b s : ℕ) (x : Exp) → k b s ≡ x → (c t : ℕ) → (if (c == b) && (t == s) then x else g c t) ≡ k c t
at_pair g k h b s x e c t = go (c == b) refl (t == s) refl
  where
    go : (p : Bool) → (c == b) ≡ p → (q : Bool) → (t == s) ≡ q → (if p && q then x else g c t) ≡ k c t
    go true hp true hq = sym e ∙ ap (λ (b : ℕ). k b s) (sym (same_number c b hp)) ∙ ap (λ (s : ℕ). k c s) (sym (same_number t s hq))
    go true hp false hq = h c t
    go false hp q hq = h c t

at_one : (g k : ℕ → Exp) → ((c : ℕ) → g c ≡ k c) → (b : ℕ) (x : Exp) → k b ≡ x → (c : ℕ) → (if c == b then x else g c) ≡ k c
at_one g k h b x e c = go (c == b) refl
  where
    go : (p : Bool) → (c == b) ≡ p → (if p then x else g c) ≡ k c
    go true hp = sym e ∙ ap k (sym (same_number c b hp))
    go false hp = h c

know_agrees : (u v : Values) → Agrees u v → (w : Wanted) (x : Exp) → wanted_of v w ≡ x → Agrees (know u w x) v
know_agrees u v a (at_block b s) x e = record { value = at_pair u.value v.value a.value b s x e; tree = a.tree; out = a.out; ending = a.ending; entering = a.entering; again = a.again }
know_agrees u v a (where_entered h s) x e = record { value = a.value; tree = a.tree; out = a.out; ending = a.ending; entering = at_pair u.entering v.entering a.entering h s x e; again = a.again }
know_agrees u v a (where_again h s) x e = record { value = a.value; tree = a.tree; out = a.out; ending = a.ending; entering = a.entering; again = at_pair u.again v.again a.again h s x e }
know_agrees u v a (whether_left h) x e = record { value = a.value; tree = a.tree; out = a.out; ending = at_one u.ending v.ending a.ending h x e; entering = a.entering; again = a.again }

abbrev rest_of : List ℕ → List ℕ
rest_of [] = []
rest_of (h ∷ B) = B

abbrev or_never : Option Exp → Exp
or_never r = or_else r never_exp

module _ (f : Flow) (blocks : ℕ) where
  abbrev whole : Values → List ℕ → Target → ℕ → Option Exp
  whole u R t s = tree_by f blocks u (suc blocks) R t s (first_loops f R) (first_of_region f R)

  abbrev entered_by : Bool → Bool → Values → ℕ → ℕ → Exp
  entered_by false e u h s = never_exp
  entered_by true true u h s = at_start f s
  entered_by true false u h s = or_never (whole u (rest_of (f.around h)) (Node h) s)

  abbrev again_by : Bool → Values → ℕ → ℕ → Exp
  again_by false u h s = never_exp
  again_by true u h s = or_never (whole u (f.around h) Back s)

  abbrev left_by : Bool → Values → ℕ → Exp
  left_by false u h = u.ending h
  left_by true u h = or_never (whole u (f.around h) Leaving 0)

  abbrev value_by : Bool → Bool → Bool → Values → ℕ → ℕ → Exp
  value_by true true e u b s = Name b s
  value_by true false e u b s = u.entering b s
  value_by false c true u b s = at_start f s
  value_by false c false u b s = or_never (whole u (f.around b) (Node b) s)

  abbrev pub compute : Values → Wanted → Exp
  compute u (at_block b s) = value_by (heads_by (f.around b) b) (f.carried b s) (b == f.entry) u b s
  compute u (where_entered h s) = entered_by (heads_by (f.around h) h) (h == f.entry) u h s
  compute u (where_again h s) = again_by (heads_by (f.around h) h) u h s
  compute u (whether_left h) = left_by (heads_by (f.around h) h) u h

  -- all that is wanted, in this order
  abbrev pub solve : List Wanted → Values → Values
  solve [] u = u
  solve (w ∷ ws) u = solve ws (know u w (compute u w))

  abbrev pub root_by : Values → Exp → Exp
  root_by u d = Over op.Root (Then (or_never (whole u [] Finish 0))
      (three (or_else (whole u [] Finish 1) (Over op.Clear NoExp)) (or_else (whole u [] Returning 2) d) (or_else (whole u [] Finish 3) (Over op.Heap0 NoExp))))

  module _ (v : Values) (eqs : AreEquations f v) where
    whole_is : (u : Values) → Agrees u v → (R : List ℕ) (t : Target) (s : ℕ) → tree_of f v R t s ≡ whole u R t s
    whole_is u a R t s = tree_is f blocks u v a eqs (suc blocks) R t s (first_loops f R) (first_of_region f R)

    given_is : (u : Values) → Agrees u v → (R : List ℕ) (t : Target) (s : ℕ) (x : Exp) → Given (tree_of f v R t s) x → x ≡ or_never (whole u R t s)
    given_is u a R t s x g = g ∙ ap or_never (whole_is u a R t s)

    entered_is : (u : Values) → Agrees u v → (h s : ℕ) (p : Bool) → heads_by (f.around h) h ≡ p → (q : Bool) → (h == f.entry) ≡ q → v.entering h s ≡ entered_by p q u h s
    entered_is u a h s false hp q hq = (eqs.no_loops h s (heads_false (f.around h) h hp)).0
    entered_is u a h s true hp true hq =
        let e = same_number h f.entry hq in
        ap (λ (h : ℕ). v.entering h s) e ∙ eqs.first_entries s (subst (λ (h : ℕ). Heads (f.around h) h) e (heads_true (f.around h) h hp))
    entered_is u a h s true hp false hq =
        let z = heads_true (f.around h) h hp in
        given_is u a (rest_of (f.around h)) (Node h) s (v.entering h s) (subst (λ (B : List ℕ). Given (tree_of f v B (Node h) s) (v.entering h s)) (sym (ap rest_of z.1)) (eqs.entries h s z.0 z.1 (λ e. not_both (h == f.entry) (subst (λ (k : ℕ). (h == k) ≡ true) e (number_self h)) hq)))

    value_is : (u : Values) → Agrees u v → (b s : ℕ) (p : Bool) → heads_by (f.around b) b ≡ p → (c : Bool) → f.carried b s ≡ c → (q : Bool) → (b == f.entry) ≡ q → v.value b s ≡ value_by p c q u b s
    value_is u a b s true hp true hc q hq = let z = heads_true (f.around b) b hp in eqs.names b s z.0 z.1 hc
    value_is u a b s true hp false hc q hq = let z = heads_true (f.around b) b hp in eqs.others b s z.0 z.1 hc ∙ sym (a.entering b s)
    value_is u a b s false hp c hc true hq =
        let e = same_number b f.entry hq in
        ap (λ (b : ℕ). v.value b s) e ∙ eqs.starts s (subst (λ (b : ℕ). Heads (f.around b) b → ⊥) e (heads_false (f.around b) b hp))
    value_is u a b s false hp c hc false hq =
        given_is u a (f.around b) (Node b) s (v.value b s) (eqs.blocks b s (heads_false (f.around b) b hp) (λ e. not_both (b == f.entry) (subst (λ (k : ℕ). (b == k) ≡ true) e (number_self b)) hq))

    again_is : (u : Values) → Agrees u v → (h s : ℕ) (p : Bool) → heads_by (f.around h) h ≡ p → v.again h s ≡ again_by p u h s
    again_is u a h s false hp = (eqs.no_loops h s (heads_false (f.around h) h hp)).1
    again_is u a h s true hp =
        let z = heads_true (f.around h) h hp in
        given_is u a (f.around h) Back s (v.again h s) (subst (λ (A : List ℕ). Given (tree_of f v A Back s) (v.again h s)) (sym z.1) (eqs.agains h s z.0 z.1))

    left_is : (u : Values) → Agrees u v → (h : ℕ) (p : Bool) → heads_by (f.around h) h ≡ p → v.ending h ≡ left_by p u h
    left_is u a h false hp = sym (a.ending h)
    left_is u a h true hp =
        let z = heads_true (f.around h) h hp in
        given_is u a (f.around h) Leaving 0 (v.ending h) (subst (λ (A : List ℕ). Given (tree_of f v A Leaving 0) (v.ending h)) (sym z.1) (eqs.endings h z.0 z.1))

    computed : (u : Values) → Agrees u v → (w : Wanted) → wanted_of v w ≡ compute u w
    computed u a (at_block b s) = value_is u a b s (heads_by (f.around b) b) refl (f.carried b s) refl (b == f.entry) refl
    computed u a (where_entered h s) = entered_is u a h s (heads_by (f.around h) h) refl (h == f.entry) refl
    computed u a (where_again h s) = again_is u a h s (heads_by (f.around h) h) refl
    computed u a (whether_left h) = left_is u a h (heads_by (f.around h) h) refl

    solve_agrees : (ws : List Wanted) (u : Values) → Agrees u v → Agrees (solve ws u) v
    solve_agrees [] u a = a
    solve_agrees (w ∷ ws) u a = solve_agrees ws (know u w (compute u w)) (know_agrees u v a w (compute u w) (computed u a w))

    itself : Agrees v v
    itself = record { value = λ b s. refl; tree = λ R t s F b. refl; out = λ h x. refl; ending = λ h. refl; entering = λ h s. refl; again = λ h s. refl }

    -- each solution has what is computed
    pub solved : (ws : List Wanted) (w : Wanted) → wanted_of v w ≡ compute (solve ws v) w
    solved ws w = computed (solve ws v) (solve_agrees ws v itself) w

    pub solved_root : (ws : List Wanted) (d : Exp) → root_of f v d ≡ root_by (solve ws v) d
    solved_root ws d = root_alike (whole_is u a [] Finish 0) (whole_is u a [] Finish 1) (whole_is u a [] Returning 2) (whole_is u a [] Finish 3)
      where
        u : Values
        u = solve ws v

        a : Agrees (solve ws v) v
        a = solve_agrees ws v itself

        root_alike : {x x' y y' z z' w w' : Option Exp} → x ≡ x' → y ≡ y' → z ≡ z' → w ≡ w'
            → Over op.Root (Then (or_never x) (three (or_else y (Over op.Clear NoExp)) (or_else z d) (or_else w (Over op.Heap0 NoExp)))) ≡ Over op.Root (Then (or_never x') (three (or_else y' (Over op.Clear NoExp)) (or_else z' d) (or_else w' (Over op.Heap0 NoExp))))
        root_alike p q r s = rw (p, q, r, s) refl
