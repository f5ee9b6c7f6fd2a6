-- What the added nodes stand for.
use Rattle.std.proofs.Common.{◌≡◌, ◌≢◌, ℕ, List, [], ◌∷◌, length, true, Some, slice_get, ◌⊎◌, inl, inr, ⊎_elim, refl, sym, ap, ◌∙◌, subst}
use Rattle.pv_terms.proofs.Words.{Op, OpSort, Node, node_of, exactly, HaveSorts, HasSort, Graph, IsGraph, IsUnfinished, Added, IsFree, added_extends, Exp, Exps, Name, Over, NoExp, Then, one, two, FreeIn, unit_exp, Named, IsNoTheta, Reads, ReadAll, AreNames, depths, IsFlat, IsFlatOrOut, GrowsBy, Grows, IsOfSort, ReadsOver, ReadsBoth, last_of, ReadsLast, ReadsOut, ReadsTokenOut}
use Rattle.pv_graph.specs.declared.node.Op.TheVariants as op
use Rattle.pv_graph.specs.declared.node.OpSort.TheVariants as sort
use Rattle.pv_equations.specs.Exp.{made}
use Rattle.pv_terms.proofs.Reading.{same_node, same_op, same_kids, unnamed, reads_stand, all_stand, names_stand, extends_stand}
use Rattle.pv_terms.proofs.Freed.{free_reads}

-- ---- an operation

pub reads_added : (old new : Graph) (o : Op) (kids : List ℕ) (n : ℕ) → IsGraph old → IsNoTheta o → Added old new o kids n → ReadsOver old o kids new n
reads_added old new o kids n is other added names es all = (kids, other, added.first, all_stand old.nodes new.nodes names names (extends_stand old new (added_extends old new o kids n is added)) (λ h s n i. i) kids es all)

pub reads_grown_by : (P : Op → Type 0) (old new : Graph) (names : List Named) (n : ℕ) (e : Exp) → GrowsBy P old new → Reads old.nodes names n e → Reads new.nodes names n e
reads_grown_by P old new names n e grows r = reads_stand old.nodes new.nodes names names (extends_stand old new grows.extends) (λ h s n i. i) n e r

pub reads_grown : (old new : Graph) (names : List Named) (n : ℕ) (e : Exp) → Grows old new → Reads old.nodes names n e → Reads new.nodes names n e
reads_grown old new names n e grows r = reads_grown_by IsFlat old new names n e grows r

-- ---- both(unit, t) is t

over_unit : (y : Exp) → made op.Both (two unit_exp y) ≡ y
unfolding made
over_unit y = refl

kept_both : (x y : Exp) → x ≢ unit_exp → made op.Both (two x y) ≡ Over op.Both (two x y)
unfolding made
kept_both (Over op.Unit NoExp) y n = absurd (n refl)
kept_both x y n = refl

-- unit has no kids
none_over_none : (ss : List OpSort) → exactly [] sort.T ss ≡ Some sort.T → ss ≡ []
none_over_none [] e = refl
none_over_none (s ∷ ss) e = absurd (cc)

no_kids : (all : List OpSort) (ks : List ℕ) → HaveSorts all ks [] → ks ≡ []
no_kids all [] h = refl
no_kids all (k ∷ ks) h = absurd h

unit_kids : (g : Graph) (a : ℕ) (ks : List ℕ) → IsGraph g → IsOfSort g a sort.T → slice_get g.nodes a ≡ Some (node_of op.Unit ks) → ks ≡ []
unit_kids g a ks is at there = by (is.sorted a (node_of op.Unit ks) sort.T there at)
  where
    by : HasSort g.sorts op.Unit ks sort.T ⊎ ((g.is_open ≡ true) × IsUnfinished (node_of op.Unit ks) sort.T) → ks ≡ []
    by (inl h) = no_kids g.sorts ks (subst (HaveSorts g.sorts ks) (none_over_none h.sorts h.over) h.kids_have)
    by (inr h) = absurd (let z = h.1.theta_ in cc)

unit_no_theta : IsNoTheta op.Unit
unit_no_theta d e = absurd (cc)

-- what the node of unit stands for
unit_reads : (depth : ℕ → ℕ) (nodes : List Node) (names : List Named) → AreNames depth nodes names → (a : ℕ) → slice_get nodes a ≡ Some (node_of op.Unit []) → (x : Exp) → Reads nodes names a x → x ≡ unit_exp
unit_reads depth nodes names are a at (Name h s) r = absurd (unnamed depth nodes names are h s a op.Unit [] unit_no_theta at r)
unit_reads depth nodes names are a at (Over o es) (ks, other, first, all) =
    let p : o ≡ op.Unit = same_op nodes a o op.Unit ks [] first.there at in
    let q : ks ≡ [] = same_kids nodes a o op.Unit ks [] first.there at in
    ap (λ (o : Op). Over o es) p ∙ ap (Over op.Unit) (no_exps es (subst (λ (ks : List ℕ). ReadAll nodes names ks es) q all))
  where
    no_exps : (es : Exps) → ReadAll nodes names [] es → es ≡ NoExp
    no_exps NoExp h = refl
    no_exps (Then e es) h = absurd h

node_is : (x : Node) (o : Op) → x.op ≡ o → x ≡ node_of o x.kids
node_is x o p = ap (λ (o : Op). node_of o x.kids) p

pub both_unit : (g : Graph) (a b : ℕ) (x : Node) → IsGraph g → IsOfSort g a sort.T → slice_get g.nodes a ≡ Some x → x.op ≡ op.Unit → ReadsBoth g a b g b
both_unit g a b x is at there unit depth names e y are ra rb =
    let here : slice_get g.nodes a ≡ Some (node_of op.Unit x.kids) = there ∙ ap Some (node_is x op.Unit unit) in
    let none : slice_get g.nodes a ≡ Some (node_of op.Unit []) = here ∙ ap (λ (ks : List ℕ). Some (node_of op.Unit ks)) (unit_kids g a x.kids is at here) in
    subst (Reads g.nodes names b) (sym (ap (λ (e : Exp). made op.Both (two e y)) (unit_reads depth g.nodes names are a none e ra) ∙ over_unit y)) rb

pub both_other : (g new : Graph) (a b n : ℕ) (x : Node) → slice_get g.nodes a ≡ Some x → x.op ≢ op.Unit → ReadsOver g op.Both (a ∷ b ∷ []) new n → ReadsBoth g a b new n
both_other g new a b n x there other reads depth names e y are ra rb = subst (Reads new.nodes names n) (sym (kept_both e y (λ q. not_unit (subst (Reads g.nodes names a) q ra)))) (reads names (two e y) (ra, (rb, tt)))
  where
    not_unit : Reads g.nodes names a unit_exp → ⊥
    not_unit (ks, un, first, all) = other (ap (λ (x : Node). x.op) (same_node g.nodes a x (node_of op.Unit ks) there first.there))

-- ---- out of a loop

pub last_reads : (old mid new : Graph) (d ending n p r : ℕ) → GrowsBy (IsFlatOrOut d) old mid → ReadsOver old (op.Pass d) (ending ∷ []) mid p → ReadsOver mid (op.Eval d) (n ∷ p ∷ []) new r → ReadsLast old d ending n new r
last_reads old mid new d ending n p r grows pass eval names x y rx ry = eval names (two x (Over (op.Pass d) (one y))) (reads_grown_by (IsFlatOrOut d) old mid names n x grows rx, (pass names (one y) (ry, tt), tt))

-- where the depth isn't free
pub out_same : (g : Graph) (d ending n : ℕ) → (IsFree g d n → ⊥) → ReadsOut g d ending n g n
out_same g d ending n closed f v names h B x around deep making re rx =
    let e : length (h ∷ B) ≡ d = sym (ap length around) ∙ deep in
    ⊎_elim
    (λ z. absurd (closed ((free_reads f v g.nodes names d making n x rx).1 (subst (λ (d : ℕ). FreeIn f v d x) e z.0))))
    (λ z. subst (Reads g.nodes names n) (sym z.1) rx)
    (making.equations.outs_are h x B around)

-- where it is free
pub out_last : (g new : Graph) (d ending n r : ℕ) → IsFree g d n → ReadsLast g d ending n new r → ReadsOut g d ending n new r
out_last g new d ending n r free last f v names h B x around deep making re rx =
    let e : length (h ∷ B) ≡ d = sym (ap length around) ∙ deep in
    ⊎_elim
    (λ z. subst (Reads new.nodes names r) (sym (z.1 ∙ ap (λ (d : ℕ). last_of d (v.ending h) x) e)) (last names x (v.ending h) rx re))
    (λ z. absurd (z.0 (subst (λ (d : ℕ). FreeIn f v d x) (sym e) ((free_reads f v g.nodes names d making n x rx).0 free))))
    (making.equations.outs_are h x B around)

pub token_reads : (old mid new : Graph) (d entering ending n m r : ℕ) → GrowsBy (IsFlatOrOut d) old mid → ReadsLast old d ending n mid m → ReadsBoth mid entering m new r → ReadsTokenOut old d entering ending n new r
token_reads old mid new d entering ending n m r grows last both f v names h x deep are ri re rx =
    let left : Reads mid.nodes names m (last_of (depths f h) (v.ending h) x) = subst (λ (d : ℕ). Reads mid.nodes names m (last_of d (v.ending h) x)) (sym deep) (last names x (v.ending h) rx re) in
    both (depths f) names (v.entering h 0) (last_of (depths f h) (v.ending h) x) (names_stand (depths f) old.nodes mid.nodes names (extends_stand old mid grows.extends) are) (reads_grown_by (IsFlatOrOut d) old mid names entering (v.entering h 0) grows ri) left
