-- The marks of the nodes of a base, and that they stay.
use Rattle.std.specs.Prelude.{◌≡◌, ◌⊎◌, ◌↔◌, ℕ, zero, suc, ◌+◌, ◌<◌, ◌≤◌, Bool, true, false, IsTrue, if◌then◌else◌, List, [], ◌∷◌, ◌++◌, length, Some, slice_index}
use Rattle.std.specs.Int.{w32, bit_at}
use Rattle.std.proofs.Common.{inl, inr, refl, sym, ◌∙◌, subst, arith}
use Rattle.std.proofs.Math.ListN.{get_or-append}
use Rattle.std.proofs.Math.Seq.{get_or-append_seam}
use Rattle.std.proofs.lemmas.Nat.Bits.{bit_at-zero, bit_at_set_other}
use Rattle.pv_graph.proofs.Cited.{form_there, kid_within, found, node_at}
use Rattle.pv_graph.specs.declared.node.Op.{Op}
use Rattle.pv_graph.specs.Forms.{form}
use Rattle.pv_graph.specs.Ops.{shape}
use Rattle.pv_graph.specs.Walks.{In, Free, here, below, Reaches, itself, along, IsSettled}
use Rattle.pv_graph.specs.Graphs.{Graph, form_at, IsGraph, Extends}
use Rattle.pv_marks.specs.Classes.{Trait, settled, unfree, NodeHas}
use Rattle.pv_marks.specs.Marks.{trait_of, AreNodeMarks}
use Rattle.pv_marks.specs.Sweep.{IsMarkBelow, AreMarksBelow}
use Rattle.pv_marks.proofs.Masks.{Gains}
use Rattle.pv_marks.proofs.Marking.{open_in}

-- ---- the marks of all nodes, a bit after the other

-- a settled node begins with bit 0, and every other one with none
pub settled_begins : (g : Graph) (assumed : List ℕ) (n : ℕ) (b : Bool) → IsTrue b ↔ IsSettled (form_at g.nodes) assumed n → IsMarkBelow g assumed 1 n (if b then 1 else 0)
settled_begins g assumed n true is zero small = ((λ h. (omega arith, is.0 refl)), (λ h. refl))
settled_begins g assumed n true is (suc q) small = ((λ h. absurd (later q h)), (λ h. absurd (omega (arith, h.0))))
  where
    later : (q : ℕ) → bit_at 1 (suc q) ≡ 1 → ⊥
    later q h = absurd (let e = bit_at_set_other w32 0 0 (omega arith) (suc q) (λ e. cc) in let z = bit_at-zero (suc q) in omega (arith, h, e, z))
settled_begins g assumed n false is q small = ((λ h. absurd (let e = sym (bit_at-zero q) ∙ h in cc)), (λ h. absurd (go q h)))
  where
    go : (q : ℕ) → (q < 1) × NodeHas g assumed (trait_of q) n → ⊥
    go zero h = absurd (let e : false ≡ true = is.1 h.1 in cc)
    go (suc q) h = absurd (omega (arith, h.0))

below_or_at : (n i : ℕ) → n < i + 1 → (n < i) ⊎ (n ≡ i)
below_or_at n i lt = grind arith

-- what holds of each mark of a list, and of one more
pub marks_push : (P : ℕ → ℕ → Type 0) (xs ys : List ℕ) (x i : ℕ) → ys ≡ xs ++ x ∷ [] → length xs ≡ i → ((n : ℕ) → n < i → P n (slice_index xs n)) → P i x → (n : ℕ) → n < i + 1 → P n (slice_index ys n)
marks_push P xs ys x i is long each last n lt = subst (λ (zs : List ℕ). P n (slice_index zs n)) (sym is) (elim (below_or_at n i lt) [
  | inl low ↦ subst (P n) (sym (get_or-append xs (x ∷ []) 0 n (subst (λ (k : ℕ). n < k) (sym long) low))) (each n low)
  | inr e ↦ subst (λ (k : ℕ). P k (slice_index (xs ++ x ∷ []) k)) (sym e) (subst (P i) (sym (subst (λ (k : ℕ). slice_index (xs ++ x ∷ []) k ≡ x) long (get_or-append_seam xs x [] 0))) last)
])

unfree_has : (g : Graph) (assumed : List ℕ) (d n : ℕ) → 1 ≤ d → (Free (form_at g.nodes) d n → ⊥) → NodeHas g assumed (trait_of d) n
unfree_has g assumed zero n low not = absurd (omega (arith, low))
unfree_has g assumed (suc d) n low not = not

has_unfree : (g : Graph) (assumed : List ℕ) (d n : ℕ) → 1 ≤ d → NodeHas g assumed (trait_of d) n → Free (form_at g.nodes) d n → ⊥
has_unfree g assumed zero n low h = absurd (omega (arith, low))
has_unfree g assumed (suc d) n low h = h

-- the mark of a node in which the depth isn't free gains its bit
pub unfree_more : (g : Graph) (assumed : List ℕ) (n d mark with : ℕ) → 1 ≤ d → d ≤ 16 → (Free (form_at g.nodes) d n → ⊥) → Gains mark d with → IsMarkBelow g assumed d n mark → IsMarkBelow g assumed (d + 1) n with
unfree_more g assumed n d mark with low high not gains is q small = (
  (λ h. elim ((gains q small).0 h) [
    | inl x ↦ let y = (is q small).0 x in (omega (arith, y.0), y.1)
    | inr y ↦ (omega (arith, y.0), subst (λ (e : ℕ). NodeHas g assumed (trait_of e) n) (sym y.0) (unfree_has g assumed d n low not))
  ]),
  (λ h. (gains q small).1 (elim (below_or_at q d h.0) [
    | inl x ↦ inl ((is q small).1 (x, h.1))
    | inr e ↦ inr (e, (subst (λ (x : ℕ). 1 ≤ x) (sym e) low, small))
  ])),
)

-- .. and that of every other node stays
pub free_same : (g : Graph) (assumed : List ℕ) (n d mark : ℕ) → 1 ≤ d → Free (form_at g.nodes) d n → IsMarkBelow g assumed d n mark → IsMarkBelow g assumed (d + 1) n mark
free_same g assumed n d mark low free is q small = (
  (λ h. let y = (is q small).0 h in (omega (arith, y.0), y.1)),
  (λ h. elim (below_or_at q d h.0) [
    | inl x ↦ (is q small).1 (x, h.1)
    | inr e ↦ absurd (has_unfree g assumed d n low (subst (λ (x : ℕ). NodeHas g assumed (trait_of x) n) e h.1) free)
  ]),
)

-- where all bits are there, these are the marks of the nodes
pub all_below : (g : Graph) (assumed marks : List ℕ) → g.base ≡ length g.nodes → AreMarksBelow g assumed 17 marks → AreNodeMarks g assumed marks
all_below g assumed marks based are = record {
  long = are.long ∙ sym based;
  says = λ q n small lt. let is = are.each n (omega (arith, based)) q small in ((λ h. (is.0 h).1), (λ h. is.1 (omega arith, h)));
}

-- ---- in a graph that grew, the base is as it was

module _ (g h : Graph) (whole : IsGraph g) (grows : Extends g h) (based : g.base ≡ length g.nodes) where
  same_form : (n : ℕ) → n < length g.nodes → form_at h.nodes n ≡ form_at g.nodes n
  same_form n lt = let node = found g.nodes n lt in form_there h.nodes n node.0 (grows.nodes n node.0 node.1) ∙ sym (form_there g.nodes n node.0 node.1)

  kid_low : (n k : ℕ) (o : Op) (ks : List ℕ) → form_at g.nodes n ≡ Some (form o ks) → In ks k → k < length g.nodes
  kid_low n k o ks at m = let node = node_at g.nodes n o ks at in kid_within g whole n k node.0 node.1 (subst (λ (xs : List ℕ). In xs k) (sym node.3) m)

  free_there : (d n : ℕ) → n < length g.nodes → Free (form_at h.nodes) d n → Free (form_at g.nodes) d n
  free_there d n lt (here _ o ks at is) = here n o ks (sym (same_form n lt) ∙ at) is
  free_there d n lt (below _ k o ks at m f) =
      let at' : form_at g.nodes n ≡ Some (form o ks) = sym (same_form n lt) ∙ at in
      below n k o ks at' m (free_there d k (kid_low n k o ks at' (open_in d (shape o) ks k m)) f)

  free_back : (d n : ℕ) → n < length g.nodes → Free (form_at g.nodes) d n → Free (form_at h.nodes) d n
  free_back d n lt (here _ o ks at is) = here n o ks (same_form n lt ∙ at) is
  free_back d n lt (below _ k o ks at m f) = below n k o ks (same_form n lt ∙ at) m (free_back d k (kid_low n k o ks at (open_in d (shape o) ks k m)) f)

  reach_there : (assumed : List ℕ) (n m : ℕ) → n < length g.nodes → Reaches (form_at h.nodes) assumed n m → Reaches (form_at g.nodes) assumed n m × (m < length g.nodes)
  reach_there assumed n m lt (itself _) = (itself n, lt)
  reach_there assumed n m lt (along _ k _ o ks not at i r) =
      let at' : form_at g.nodes n ≡ Some (form o ks) = sym (same_form n lt) ∙ at in
      let y = reach_there assumed k m (kid_low n k o ks at' i) r in
      (along n k m o ks not at' i y.0, y.1)

  reach_back : (assumed : List ℕ) (n m : ℕ) → n < length g.nodes → Reaches (form_at g.nodes) assumed n m → Reaches (form_at h.nodes) assumed n m × (m < length g.nodes)
  reach_back assumed n m lt (itself _) = (itself n, lt)
  reach_back assumed n m lt (along _ k _ o ks not at i r) =
      let y = reach_back assumed k m (kid_low n k o ks at i) r in
      (along n k m o ks not (same_form n lt ∙ at) i y.0, y.1)

  has_same : (assumed : List ℕ) (t : Trait) (n : ℕ) → n < length g.nodes → NodeHas g assumed t n ↔ NodeHas h assumed t n
  has_same assumed settled n lt = (
    (λ s m o ks r not at. let y = reach_there assumed n m lt r in s m o ks y.0 not (sym (same_form m y.1) ∙ at)),
    (λ s m o ks r not at. let y = reach_back assumed n m lt r in s m o ks y.0 not (same_form m y.1 ∙ at)),
  )
  has_same assumed (unfree d) n lt = ((λ s f. s (free_there d n lt f)), (λ s f. s (free_back d n lt f)))

  pub marks_stay : (assumed marks : List ℕ) → h.base ≡ g.base → AreNodeMarks g assumed marks → AreNodeMarks h assumed marks
  marks_stay assumed marks same are = record {
    long = are.long ∙ sym same;
    says = λ q n small lt.
        let low : n < g.base = omega (arith, same) in
        let y = has_same assumed (trait_of q) n (omega (arith, based)) in
        let z = are.says q n small low in
        ((λ b. y.0 (z.0 b)), (λ b. z.1 (y.1 b)));
  }
