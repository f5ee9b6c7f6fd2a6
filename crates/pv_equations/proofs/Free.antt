-- Which depths are free in an expression, with the number of steps in which they are found.
use Rattle.std.proofs.Common.{◌≡◌, ℕ, suc, List, [], ◌∷◌, length, Some, subst}
use Rattle.pv_equations.proofs.Words.{Op, shape, form, In, open_kids, Free, Exp, Exps, Name, Over, two, listed, Flow, Values, form_of, first_kid}
use Rattle.pv_graph.specs.declared.node.Op.TheVariants as op
use Rattle.pv_graph.specs.Ops as ops

-- depth d is free in an expression, every name followed, in at most n steps
pub data FreeAll (f : Flow) (v : Values) (d : ℕ) : ℕ → Exp → Type 0 where
  here : (n : ℕ) (o : Op) (es : Exps) → shape o ≡ ops.theta d → FreeAll f v d n (Over o es)
  named : (n h s : ℕ) → FreeAll f v d n (Over (op.Theta (length (f.around h))) (two (first_kid v h s) (v.again h s))) → FreeAll f v d (suc n) (Name h s)
  kid : (n : ℕ) (o : Op) (es : Exps) (k : Exp) → In (open_kids d (shape o) (listed es)) k → FreeAll f v d n k → FreeAll f v d (suc n) (Over o es)

module _ (f : Flow) (v : Values) (d : ℕ) where
  found_here : (e : Exp) (o : Op) (ks : List Exp) → form_of f v e ≡ Some (form o ks) → shape o ≡ ops.theta d → (n : ℕ) × FreeAll f v d n e
  found_here (Name h s) o ks e t = (1, named 0 h s (here 0 (op.Theta (length (f.around h))) (two (first_kid v h s) (v.again h s)) (subst (λ (p : Op). shape p ≡ ops.theta d) (let z : o ≡ op.Theta (length (f.around h)) = cc in z) t)))
  found_here (Over p es) o ks e t = (0, here 0 p es (subst (λ (p : Op). shape p ≡ ops.theta d) (let z : o ≡ p = cc in z) t))

  found_below : (e k : Exp) (o : Op) (ks : List Exp) → form_of f v e ≡ Some (form o ks) → In (open_kids d (shape o) ks) k → (n : ℕ) × FreeAll f v d n k → (n : ℕ) × FreeAll f v d n e
  found_below (Name h s) k o ks e i r =
      let same : o ≡ op.Theta (length (f.around h)) = cc in
      let kids : ks ≡ first_kid v h s ∷ v.again h s ∷ [] = cc in
      let there : In (open_kids d (shape (op.Theta (length (f.around h)))) (first_kid v h s ∷ v.again h s ∷ [])) k =
      subst (λ (ks : List Exp). In (open_kids d (shape (op.Theta (length (f.around h)))) ks) k) kids (subst (λ (p : Op). In (open_kids d (shape p) ks) k) same i) in
      (suc (suc r.0), named (suc r.0) h s (kid r.0 (op.Theta (length (f.around h))) (two (first_kid v h s) (v.again h s)) k there r.1))
  found_below (Over p es) k o ks e i r =
      let same : o ≡ p = cc in
      let kids : ks ≡ listed es = cc in
      (suc r.0, kid r.0 p es k (subst (λ (ks : List Exp). In (open_kids d (shape p) ks) k) kids (subst (λ (p : Op). In (open_kids d (shape p) ks) k) same i)) r.1)

  -- what is free in the node of an expression is found
  pub found : (e : Exp) → Free (form_of f v) d e → (n : ℕ) × FreeAll f v d n e
  found e (Free.here n o ks is t) = found_here n o ks is t
  found e (Free.below n k o ks is i h) = found_below n k o ks is i (found k h)
