-- A depth is free in a node where it is free in its expression.
use Rattle.std.proofs.Common.{◌≡◌, ℕ, suc, Bool, true, false, List, [], ◌∷◌, Some, inl, inr, ⊎_elim, refl, ap, ◌∙◌, subst, ◌==◌, if◌then◌else◌}
use Rattle.pv_terms.proofs.Words.{Op, Node, form, node_of, In, form_at, form_there, node_at, Exp, Exps, Name, Over, NoExp, Then, two, listed, Flow, Values, FreeIn, theta, name, entered, begun, kid, first_kid, Named, Reads, ReadAll, AreNames, depths, AreTiedBelow, FreeReads}
use Rattle.pv_graph.specs.declared.node.Op.TheVariants as op
use Rattle.pv_graph.specs.Ops as ops
use Rattle.pv_graph.specs.Walks.{open_kids, Free, here as free_here, below as free_below}
use Rattle.pv_equations.proofs.Cited.{FreeAll, free_seen}
use Rattle.pv_terms.proofs.Reading.{same_op}

-- a kid that counts stands for one that does, and the other way round
module _ (nodes : List Node) (names : List Named) where
  in_reads : (ks : List ℕ) (es : Exps) (m : ℕ) → ReadAll nodes names ks es → In ks m → (e : Exp) × In (listed es) e × Reads nodes names m e
  in_reads [] es m all i = absurd i
  in_reads (k ∷ ks) NoExp m all i = absurd all
  in_reads (k ∷ ks) (Then e es) m all (inl i) = (e, inl refl, subst (λ (k : ℕ). Reads nodes names k e) i all.0)
  in_reads (k ∷ ks) (Then e es) m all (inr i) = let z = in_reads ks es m all.1 i in (z.0, inr z.1, z.2)

  reads_in : (ks : List ℕ) (es : Exps) (e : Exp) → ReadAll nodes names ks es → In (listed es) e → (m : ℕ) × In ks m × Reads nodes names m e
  reads_in ks NoExp e all i = absurd i
  reads_in [] (Then a es) e all i = absurd all
  reads_in (k ∷ ks) (Then a es) e all (inl i) = (k, inl refl, subst (Reads nodes names k) i all.0)
  reads_in (k ∷ ks) (Then a es) e all (inr i) = let z = reads_in ks es e all.1 i in (z.0, inr z.1, z.2)

  counted_reads : (d : ℕ) (s : ops.Shape) (ks : List ℕ) (es : Exps) (m : ℕ) → ReadAll nodes names ks es → In (open_kids d s ks) m → (e : Exp) × In (open_kids d s (listed es)) e × Reads nodes names m e
  counted_reads d ops.plain ks es m all i = in_reads ks es m all i
  counted_reads d ops.choice ks es m all i = in_reads ks es m all i
  counted_reads d (ops.theta e) ks es m all i = in_reads ks es m all i
  counted_reads d (ops.shift e) ks es m all i = in_reads ks es m all i
  counted_reads d ops.root ks es m all i = in_reads ks es m all i
  counted_reads d (ops.eval e) [] es m all i = absurd i
  counted_reads d (ops.eval e) (k ∷ ks) NoExp m all i = absurd all
  counted_reads d (ops.eval e) (k ∷ ks) (Then a es) m all i = go (e == d) i
    where
      go : (z : Bool) → In (if z then ks else (k ∷ ks)) m → (x : Exp) × In (if z then listed es else (a ∷ listed es)) x × Reads nodes names m x
      go true i = in_reads ks es m all.1 i
      go false i = in_reads (k ∷ ks) (Then a es) m all i
  counted_reads d (ops.pass e) ks es m all i = go (e == d) i
    where
      go : (z : Bool) → In (if z then [] else ks) m → (x : Exp) × In (if z then [] else listed es) x × Reads nodes names m x
      go true i = absurd i
      go false i = in_reads ks es m all i

  reads_counted : (d : ℕ) (s : ops.Shape) (ks : List ℕ) (es : Exps) (x : Exp) → ReadAll nodes names ks es → In (open_kids d s (listed es)) x → (m : ℕ) × In (open_kids d s ks) m × Reads nodes names m x
  reads_counted d ops.plain ks es x all i = reads_in ks es x all i
  reads_counted d ops.choice ks es x all i = reads_in ks es x all i
  reads_counted d (ops.theta e) ks es x all i = reads_in ks es x all i
  reads_counted d (ops.shift e) ks es x all i = reads_in ks es x all i
  reads_counted d ops.root ks es x all i = reads_in ks es x all i
  reads_counted d (ops.eval e) ks NoExp x all i = absurd i
  reads_counted d (ops.eval e) [] (Then a es) x all i = absurd all
  reads_counted d (ops.eval e) (k ∷ ks) (Then a es) x all i = go (e == d) i
    where
      go : (z : Bool) → In (if z then listed es else (a ∷ listed es)) x → (m : ℕ) × In (if z then ks else (k ∷ ks)) m × Reads nodes names m x
      go true i = reads_in ks es x all.1 i
      go false i = reads_in (k ∷ ks) (Then a es) x all i
  reads_counted d (ops.pass e) ks es x all i = go (e == d) i
    where
      go : (z : Bool) → In (if z then [] else listed es) x → (m : ℕ) × In (if z then [] else ks) m × Reads nodes names m x
      go true i = absurd i
      go false i = reads_in ks es x all i

-- only thetas have the shape of a theta
theta_shape : (o : Op) (d : ℕ) → ops.shape o ≡ ops.theta d → o ≡ op.Theta d
theta_shape (op.Theta e) d q = let z : e ≡ d = cc in ap op.Theta z
theta_shape o d q = absurd (cc)

module _ (f : Flow) (v : Values) (nodes : List Node) (names : List Named) (d : ℕ) (are : AreNames (depths f) nodes names) (below : AreTiedBelow f v nodes names d) where
  -- what is free in the expression is free in the node
  to_node : (e : Exp) → FreeIn f v d e → (n : ℕ) → Reads nodes names n e → Free (form_at nodes) d n
  to_node e (theta o es q) n (ks, other, at, all) = absurd (other d (theta_shape o d q))
  to_node e (name h s q) n r =
      let t = are.thetas h s n r in
      free_here n (op.Theta (depths f h)) t.0 (form_there nodes n (node_of (op.Theta (depths f h)) t.0) t.1) (ap ops.theta q)
  to_node e (entered h s less free) n r =
      let t = below.deeper h s n r less in
      free_below n t.first (op.Theta (depths f h)) (t.first ∷ t.second ∷ []) (form_there nodes n (node_of (op.Theta (depths f h)) (t.first ∷ t.second ∷ [])) t.theta_) (inl refl)
      (to_node (first_kid v h s) free t.first t.enters)
  to_node e (begun h s less free) n r =
      let t = below.deeper h s n r less in
      free_below n t.second (op.Theta (depths f h)) (t.first ∷ t.second ∷ []) (form_there nodes n (node_of (op.Theta (depths f h)) (t.first ∷ t.second ∷ [])) t.theta_) (inr (inl refl))
      (to_node (v.again h s) free t.second t.begins)
  to_node e (kid o es k i free) n (ks, other, at, all) =
      let m = reads_counted nodes names d (ops.shape o) ks es k all i in
      free_below n m.0 o ks (form_there nodes n (node_of o ks) at.there) m.1 (to_node k free m.0 m.2)

  -- a theta of depth d stands for a name of that depth
  named_free : (n : ℕ) (o : Op) (ks : List ℕ) → form_at nodes n ≡ Some (form o ks) → ops.shape o ≡ ops.theta d → (e : Exp) → Reads nodes names n e → (i : ℕ) × FreeAll f v d i e
  named_free n o ks is q (Name h s) r =
      let x = node_at nodes n o ks is in
      let t = are.thetas h s n r in
      let z : op.Theta (depths f h) ≡ op.Theta d = same_op nodes n (op.Theta (depths f h)) (op.Theta d) t.0 ks t.1 (x.1 ∙ ap Some (node_is x.0 (op.Theta d) ks (x.2 ∙ theta_shape o d q) x.3)) in
      (1, FreeAll.named 0 h s (FreeAll.here 0 (op.Theta (depths f h)) (two (first_kid v h s) (v.again h s)) (ap ops.shape z)))
    where
      node_is : (x : Node) (o : Op) (ks : List ℕ) → x.op ≡ o → x.kids ≡ ks → x ≡ node_of o ks
      node_is x o ks p q = ap (λ (o : Op). node_of o x.kids) p ∙ ap (node_of o) q
  named_free n o ks is q (Over u es) (ls, other, at, all) = absurd (other d (theta_shape u d (subst (λ (o : Op). ops.shape o ≡ ops.theta d) (let z = form_there nodes n (node_of u ls) at.there in let y : o ≡ u = cc in y) q)))

  -- what is free in the node is free in the expression, every name followed
  from_node : (n : ℕ) → Free (form_at nodes) d n → (e : Exp) → Reads nodes names n e → (i : ℕ) × FreeAll f v d i e
  from_node n (Free.here m o ks is q) e r = named_free m o ks is q e r
  from_node n (Free.below m k o ks is i free) (Over u es) (ls, other, at, all) =
      let z = form_there nodes m (node_of u ls) at.there in
      let same : o ≡ u = cc in
      let kids : ks ≡ ls = cc in
      let x = counted_reads nodes names d (ops.shape u) ls es k all (subst (λ (ks : List ℕ). In (open_kids d (ops.shape u) ks) k) kids (subst (λ (p : Op). In (open_kids d (ops.shape p) ks) k) same i)) in
      let y = from_node k free x.0 x.2 in
      (suc y.0, FreeAll.kid y.0 u es x.0 x.1 y.1)
  from_node n (Free.below m k o ks is i free) (Name h s) r = ⊎_elim
      (λ un.
      let z = form_there nodes m (node_of (op.Theta (depths f h)) []) un in
      let same : o ≡ op.Theta (depths f h) = cc in
      let kids : ks ≡ [] = cc in
      absurd (subst (λ (ks : List ℕ). In (open_kids d (ops.shape (op.Theta (depths f h))) ks) k) kids (subst (λ (p : Op). In (open_kids d (ops.shape p) ks) k) same i)))
      (λ t. follow t.first t.second t.enters t.begins
      (let z = form_there nodes m (node_of (op.Theta (depths f h)) (t.first ∷ t.second ∷ [])) t.theta_ in
      let same : o ≡ op.Theta (depths f h) = cc in
      let kids : ks ≡ t.first ∷ t.second ∷ [] = cc in
      subst (λ (ks : List ℕ). In (open_kids d (ops.shape (op.Theta (depths f h))) ks) k) kids (subst (λ (p : Op). In (open_kids d (ops.shape p) ks) k) same i))
      (λ e r. from_node k free e r))
      (below.each h s m r)
    where
      follow : (a b : ℕ) → Reads nodes names a (first_kid v h s) → Reads nodes names b (v.again h s) → In (a ∷ b ∷ []) k → ((e : Exp) → Reads nodes names k e → (i : ℕ) × FreeAll f v d i e) → (i : ℕ) × FreeAll f v d i (Name h s)
      follow a b ra rb (inl q) rec =
          let y = rec (first_kid v h s) (subst (λ (n : ℕ). Reads nodes names n (first_kid v h s)) q ra) in
          (suc (suc y.0), FreeAll.named (suc y.0) h s (FreeAll.kid y.0 (op.Theta (depths f h)) (two (first_kid v h s) (v.again h s)) (first_kid v h s) (inl refl) y.1))
      follow a b ra rb (inr (inl q)) rec =
          let y = rec (v.again h s) (subst (λ (n : ℕ). Reads nodes names n (v.again h s)) q rb) in
          (suc (suc y.0), FreeAll.named (suc y.0) h s (FreeAll.kid y.0 (op.Theta (depths f h)) (two (first_kid v h s) (v.again h s)) (v.again h s) (inr (inl refl)) y.1))
      follow a b ra rb (inr (inr q)) rec = absurd q

pub free_reads : FreeReads
free_reads f v nodes names d m n e r = (
  (λ free. let y = from_node f v nodes names d m.are_names m.tied n free e r in free_seen f v m.rank m.equations m.shape m.top m.ranks y.0 e d y.1),
  (λ free. to_node f v nodes names d m.are_names m.tied e free n r),
)
