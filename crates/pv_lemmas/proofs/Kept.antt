-- What an expansion keeps: what is free in a node of a lemma, and what is settled.
use Rattle.std.specs.Prelude.{◌≡◌, ◌⊎◌, ℕ, Bool, true, false, List, [], ◌∷◌, map, Option, Some, None, ◌==◌, if◌then◌else◌, refl}
use Rattle.std.proofs.Common.{inl, inr, sym, ap, ◌∙◌, subst}
use Rattle.pv_graph.specs.declared.node.Op.{Op}
use Rattle.pv_graph.specs.declared.node.Op.TheVariants as op
use Rattle.pv_graph.specs.Ops.{Shape, plain, choice, theta, eval, pass, shift, root, shape, is_variable, may_not_end}
use Rattle.pv_graph.specs.Forms.{Form, form}
use Rattle.pv_graph.specs.Walks.{In, open_kids, Free, MeetsVariable, variable, through_kid, Reaches, itself, along, IsSettled}
use Rattle.pv_graph.specs.Walks as walks
use Rattle.pv_graph.specs.Graphs.{Graph, form_at}
use Rattle.pv_graph.proofs.Cited.{in_or_not}
use Rattle.pv_steps.specs.Facts.{View}
use Rattle.pv_lemmas.proofs.Lists.{bool_cases, in_mapped}
use Rattle.pv_lemmas.proofs.Expanding.{Expands}

-- ---- nodes

-- an open kid under the map
open_map : (f : ℕ → ℕ) (d : ℕ) (s : Shape) (ks : List ℕ) → open_kids d s (map f ks) ≡ map f (open_kids d s ks)
open_map f d (eval e) [] = refl
open_map f d (eval e) (a ∷ ks) = pick (e == d)
  where
    pick : (t : Bool) → (if t then map f ks else f a ∷ map f ks) ≡ map f (if t then ks else a ∷ ks)
    pick true = refl
    pick false = refl
open_map f d (pass e) ks = pick (e == d)
  where
    pick : (t : Bool) → (if t then [] else map f ks) ≡ map f (if t then [] else ks)
    pick true = refl
    pick false = refl
open_map f d plain ks = refl
open_map f d choice ks = refl
open_map f d (theta e) ks = refl
open_map f d (shift e) ks = refl
open_map f d root ks = refl

-- a variable may not end
variable_may_not_end : (o : Op) → is_variable o ≡ true → may_not_end o ≡ true
variable_may_not_end (op.Var j s) e = refl
variable_may_not_end o e = absurd (cc)

-- a number has a form or none
view_cases : (q : Option (Form ℕ)) → ((o : Op) × (ps : List ℕ) × (q ≡ Some (form o ps))) ⊎ (q ≡ None)
view_cases None = inr refl
view_cases (Some (form o ps)) = inl (o, ps, refl)

-- equal forms have one operation
same_op : (o q : Op) (ks ls : List ℕ) → Some (form o ks) ≡ Some (form q ls) → o ≡ q
same_op o q ks ls e = cc

-- .. and the same kids
same_kids : (o q : Op) (ks ls : List ℕ) → Some (form o ks) ≡ Some (form q ls) → ks ≡ ls
same_kids o q ks ls e = cc

-- node p of the inner graph is a variable, or the operation that its node in the outer graph is
pub data Back (view : View) (h : ℕ → ℕ) (p : ℕ) (o : Op) (ks : List ℕ) : Type 0 where
  variable_ : (q : Op) (ps : List ℕ) → view p ≡ Some (form q ps) → is_variable q ≡ true → Back view h p o ks
  operation_ : (ps : List ℕ) → view p ≡ Some (form o ps) → ks ≡ map h ps → Back view h p o ks

module _ (inner outer : Graph) (h : ℕ → ℕ) (e : Expands inner outer h) where
  -- what stands in the outer graph at the number of p, seen from the inner one
  back : (p : ℕ) (o : Op) (ks : List ℕ) (m : ℕ) → h p ≡ m → form_at outer.nodes m ≡ Some (form o ks) → Back (form_at inner.nodes) h p o ks
  back p o ks m same is = go (view_cases (form_at inner.nodes p))
    where
      there : form_at outer.nodes (h p) ≡ Some (form o ks)
      there = ap (form_at outer.nodes) same ∙ is

      pick : (q : Op) (ps : List ℕ) → form_at inner.nodes p ≡ Some (form q ps) → (is_variable q ≡ true) ⊎ (is_variable q ≡ false) → Back (form_at inner.nodes) h p o ks
      pick q ps f (inl v) = variable_ q ps f v
      pick q ps f (inr v) =
          let z : Some (form o ks) ≡ Some (form q (map h ps)) = sym there ∙ e.there p q ps f v in
          operation_ ps (f ∙ ap (λ (y : Op). Some (form y ps)) (sym (same_op o q ks (map h ps) z))) (same_kids o q ks (map h ps) z)

      go : ((q : Op) × (ps : List ℕ) × (form_at inner.nodes p ≡ Some (form q ps))) ⊎ (form_at inner.nodes p ≡ None) → Back (form_at inner.nodes) h p o ks
      go (inl f) = pick f.0 f.1 f.2 (bool_cases (is_variable f.0))
      go (inr none') = absurd (let z = sym (e.none p none') ∙ there in cc)

  -- a depth that is free in a node of the outer graph is so in that of the lemma, or a variable is met
  pub free_back : (d m : ℕ) → Free (form_at outer.nodes) d m → (p : ℕ) → h p ≡ m → Free (form_at inner.nodes) d p ⊎ MeetsVariable (form_at inner.nodes) d p
  free_back d m (walks.here _ o ls is s) p same = elim (back p o ls m same is) [
    | variable_ q ps f v ↦ inr (variable p q ps f v)
    | operation_ ps f k ↦ inl (walks.here p o ps f s)
  ]
  free_back d m (walks.below _ c o ls is i r) p same = elim (back p o ls m same is) [
    | variable_ q ps f v ↦ inr (variable p q ps f v)
    | operation_ ps f k ↦
        (let j : In (map h (open_kids d (shape o) ps)) c = subst (λ (q : List ℕ). In q c) (ap (open_kids d (shape o)) k ∙ open_map h d (shape o) ps) i in
        let kid = in_mapped h (open_kids d (shape o) ps) c j in
        elim (free_back d c r kid.0 kid.2) [ inl z ↦ inl (walks.below p kid.0 o ps f kid.1 z) | inr z ↦ inr (through_kid p kid.0 o ps f kid.1 z) ])
  ]

  -- settled nodes stand for these variables
  module _ (vars assumed : List ℕ) (stand : (p : ℕ) → In vars p → IsSettled (form_at outer.nodes) assumed (h p)) where
    -- what is reached from the node of a settled node may not be one that may not end
    settled_reach : (c m : ℕ) → Reaches (form_at outer.nodes) assumed c m → (p : ℕ) → h p ≡ c → IsSettled (form_at inner.nodes) vars p
        → (In assumed m → ⊥) → (o : Op) (ks : List ℕ) → form_at outer.nodes m ≡ Some (form o ks) → may_not_end o ≡ false
    settled_reach c m (itself _) p same calm out o ks is = elim (in_or_not vars p) [
      | inl v ↦ stand p v c o ks (subst (λ (q : ℕ). Reaches (form_at outer.nodes) assumed q c) (sym same) (itself c)) out is
      | inr not_in ↦ elim (back p o ks c same is) [
        | variable_ q ps f v ↦ absurd (let a = calm p q ps (itself p) not_in f in let b = variable_may_not_end q v in cc)
        | operation_ ps f k ↦ calm p o ps (itself p) not_in f
      ]
    ]
    settled_reach c m (along _ k _ q ls free is' i r) p same calm out o ks is = elim (in_or_not vars p) [
      | inl v ↦ stand p v m o ks (subst (λ (q : ℕ). Reaches (form_at outer.nodes) assumed q m) (sym same) (along c k m q ls free is' i r)) out is
      | inr not_in ↦ elim (back p q ls c same is') [
        | variable_ q ps f v ↦ absurd (let a = calm p q ps (itself p) not_in f in let b = variable_may_not_end q v in cc)
        | operation_ ps f z ↦
            (let kid = in_mapped h ps k (subst (λ (y : List ℕ). In y k) z i) in
            settled_reach k m r kid.0 kid.2 (λ a y zs s. calm a y zs (along p kid.0 a q ps not_in f kid.1 s)) out o ks is)
      ]
    ]

    -- what is settled in the lemma is so in the outer graph
    pub settled_kept : (p : ℕ) → IsSettled (form_at inner.nodes) vars p → IsSettled (form_at outer.nodes) assumed (h p)
    settled_kept p calm m o ks r out is = settled_reach (h p) m r p refl calm out o ks is
