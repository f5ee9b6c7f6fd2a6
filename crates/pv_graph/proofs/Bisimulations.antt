-- Nodes that have one operation over kids that are so paired again unfold equally, and nodes that unfold equally are so
-- paired, also in two graphs.
use Rattle.std.specs.Prelude.{◌≡◌, ℕ, zero, suc, List, [], ◌∷◌, Option, Some, None, refl, ⊤}
use Rattle.std.specs.List.{AllZip}
use Rattle.std.proofs.Common.{sym, ap, ◌∙◌, subst}
use Rattle.pv_graph.specs.declared.node.Op.{Op}
use Rattle.pv_graph.specs.Forms.{Form, form}
use Rattle.pv_graph.specs.Unfold.{Tree, trees_of, tree_at, unfold_at, UnfoldsAs}

-- T holds of the kids of one operation, or both are no node
abbrev pub Matched : {N M : Type 0} → (N → M → Type 0) → Option (Form N) → Option (Form M) → Type 0
Matched T None None = ⊤
Matched T None (Some q) = ⊥
Matched T (Some p) None = ⊥
Matched T (Some (form o ks)) (Some (form o' ls)) = (o ≡ o') × AllZip T ks ls

-- what T pairs has one operation, over kids that T pairs
abbrev pub Bisimulates : {N M : Type 0} → (N → Option (Form N)) → (M → Option (Form M)) → (N → M → Type 0) → Type 0
Bisimulates {N} {M} view other T = (a : N) (b : M) → T a b → Matched T (view a) (other b)

-- the same, one way: a pair of a node
abbrev pub Simulates : {N M : Type 0} → (N → Option (Form N)) → (M → Option (Form M)) → (N → M → Type 0) → Type 0
Simulates {N} {M} view other T = (a : N) (b : M) → T a b → (o : Op) (ks : List N) → view a ≡ Some (form o ks) → (ls : List M) × (other b ≡ Some (form o ls)) × AllZip T ks ls

matched_simulates : {N M : Type 0} (T : N → M → Type 0) (o : Op) (ks : List N) (p : Option (Form N)) (q : Option (Form M)) → Matched T p q → p ≡ Some (form o ks) → (ls : List M) × (q ≡ Some (form o ls)) × AllZip T ks ls
matched_simulates T o ks None q h e = absurd (cc)
matched_simulates T o ks (Some p) None h e = absurd h
matched_simulates {N} {M} T o ks (Some (form o' ks')) (Some (form o'' ls)) h e =
    let op : o' ≡ o = cc in
    let kids : ks' ≡ ks = cc in
    let op' : o'' ≡ o = sym h.0 ∙ op in
    (ls, ap (λ (z : Op). Some (form z ls)) op', subst (λ (zs : List N). AllZip T zs ls) kids h.1)

pub bisimulates_simulates : {N M : Type 0} (view : N → Option (Form N)) (other : M → Option (Form M)) (T : N → M → Type 0) → Bisimulates view other T → Simulates view other T
bisimulates_simulates view other T bi a b t o ks e = matched_simulates T o ks (view a) (other b) (bi a b t) e

zip_flip : {N M : Type 0} (T : N → M → Type 0) (ks : List N) (ls : List M) → AllZip T ks ls → AllZip (λ b a. T a b) ls ks
zip_flip T [] [] h = tt
zip_flip T (k ∷ ks) (l ∷ ls) h = (h.0, zip_flip T ks ls h.1)
zip_flip T ks ls h = absurd h

matched_flip : {N M : Type 0} (T : N → M → Type 0) (p : Option (Form N)) (q : Option (Form M)) → Matched T p q → Matched (λ b a. T a b) q p
matched_flip T None None h = tt
matched_flip T None (Some q) h = h
matched_flip T (Some p) None h = h
matched_flip T (Some (form o ks)) (Some (form o' ls)) h = (sym h.0, zip_flip T ks ls h.1)

pub bisimulates_flip : {N M : Type 0} (view : N → Option (Form N)) (other : M → Option (Form M)) (T : N → M → Type 0) → Bisimulates view other T → Bisimulates other view (λ b a. T a b)
bisimulates_flip view other T bi b a t = matched_flip T (view a) (other b) (bi a b t)

trees_alike : {N M : Type 0} (T : N → M → Type 0) (tree : N → Tree) (tree' : M → Tree) → ((a : N) (b : M) → T a b → tree a ≡ tree' b) → (ks : List N) (ls : List M) → AllZip T ks ls → trees_of ks tree ≡ trees_of ls tree'
trees_alike T tree tree' p [] [] h = refl
trees_alike T tree tree' p (k ∷ ks) (l ∷ ls) h = rw (p k l h.0, trees_alike T tree tree' p ks ls h.1) refl
trees_alike T tree tree' p ks ls h = absurd h

tree_alike : {N M : Type 0} (T : N → M → Type 0) (tree : N → Tree) (tree' : M → Tree) → ((a : N) (b : M) → T a b → tree a ≡ tree' b) → (p : Option (Form N)) (q : Option (Form M)) → Matched T p q → tree_at p tree ≡ tree_at q tree'
tree_alike T tree tree' p None None h = refl
tree_alike T tree tree' p None (Some q) h = absurd h
tree_alike T tree tree' p (Some q) None h = absurd h
tree_alike T tree tree' p (Some (form o ks)) (Some (form o' ls)) h = rw (h.0, trees_alike T tree tree' p ks ls h.1) refl

-- what is so paired unfolds equally
pub bisimulates_unfolds : {N M : Type 0} (view : N → Option (Form N)) (other : M → Option (Form M)) (T : N → M → Type 0) → Bisimulates view other T → (a : N) (b : M) → T a b → UnfoldsAs view other a b
unfolding unfold_at
bisimulates_unfolds view other T bi a b t zero = refl
bisimulates_unfolds view other T bi a b t (suc m) = tree_alike T (unfold_at view m) (unfold_at other m) (λ k l z. bisimulates_unfolds view other T bi k l z m) (view a) (other b) (bi a b t)

kids_unfold : {N M : Type 0} (view : N → Option (Form N)) (other : M → Option (Form M)) (ks : List N) (ls : List M) → ((m : ℕ) → trees_of ks (unfold_at view m) ≡ trees_of ls (unfold_at other m)) → AllZip (UnfoldsAs view other) ks ls
kids_unfold view other [] [] e = tt
kids_unfold view other [] (l ∷ ls) e = absurd (let z = e 0 in cc)
kids_unfold view other (k ∷ ks) [] e = absurd (let z = e 0 in cc)
kids_unfold view other (k ∷ ks) (l ∷ ls) e = ((λ m. let z = e m in cc), kids_unfold view other ks ls (λ m. let z = e m in cc))

forms_unfold : {N M : Type 0} (view : N → Option (Form N)) (other : M → Option (Form M)) (p : Option (Form N)) (q : Option (Form M)) → ((m : ℕ) → tree_at p (unfold_at view m) ≡ tree_at q (unfold_at other m)) → Matched (UnfoldsAs view other) p q
forms_unfold view other None None e = tt
forms_unfold view other None (Some (form o ls)) e = absurd (let z = e 0 in cc)
forms_unfold view other (Some (form o ks)) None e = absurd (let z = e 0 in cc)
forms_unfold view other (Some (form o ks)) (Some (form o' ls)) e = ((let z = e 0 in cc), kids_unfold view other ks ls (λ m. let z = e m in cc))

-- nodes that unfold equally are so paired
pub unfolds_bisimulates : {N M : Type 0} (view : N → Option (Form N)) (other : M → Option (Form M)) → Bisimulates view other (UnfoldsAs view other)
unfolding unfold_at
unfolds_bisimulates view other a b u = forms_unfold view other (view a) (other b) (λ m. u (suc m))
