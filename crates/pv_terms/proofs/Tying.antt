-- Once each name has its kids, nodes unfold as their expressions.
use Rattle.std.proofs.Common.{ℕ, List, [], ◌∷◌, Option, Some, refl, sym, subst}
use Rattle.pv_terms.proofs.Words.{Node, Form, form, node_of, In, form_at, form_there, Matched, Bisimulates, bisimulates_unfolds, Exp, Exps, Name, Over, NoExp, Then, listed, Flow, Values, form_of, Named, named, Reads, ReadAll, depths, IsTiedName, TyingUnfolds}
use Rattle.std.specs.List.{AllZip}
use Rattle.pv_graph.specs.declared.node.Op.TheVariants as op

module _ (f : Flow) (v : Values) (nodes : List Node) (names : List Named) (tied : (h s n : ℕ) → In names (named h s n) → IsTiedName f v nodes names h s n) where
  abbrev Pairs : ℕ → Exp → Type 0
  Pairs n e = Reads nodes names n e

  zipped : (ks : List ℕ) (es : Exps) → ReadAll nodes names ks es → AllZip Pairs ks (listed es)
  zipped [] NoExp p = tt
  zipped [] (Then e es) p = absurd p
  zipped (k ∷ ks) NoExp p = absurd p
  zipped (k ∷ ks) (Then e es) p = (p.0, zipped ks es p.1)

  pairs : Bisimulates (form_at nodes) (form_of f v) Pairs
  pairs n (Name h s) p =
      let t = tied h s n p in
      let q : Matched Pairs (Some (form (op.Theta (depths f h)) (t.first ∷ t.second ∷ []))) (form_of f v (Name h s)) = (refl, (t.enters, (t.begins, tt))) in
      subst (λ (x : Option (Form ℕ)). Matched Pairs x (form_of f v (Name h s))) (sym (form_there nodes n (node_of (op.Theta (depths f h)) (t.first ∷ t.second ∷ [])) t.theta_)) q
  pairs n (Over o es) (ks, other, at, all) =
      let q : Matched Pairs (Some (form o ks)) (form_of f v (Over o es)) = (refl, zipped ks es all) in
      subst (λ (x : Option (Form ℕ)). Matched Pairs x (form_of f v (Over o es))) (sym (form_there nodes n (node_of o ks) at.there)) q

pub tying_unfolds : TyingUnfolds
tying_unfolds f v nodes names tied n e p = bisimulates_unfolds (form_at nodes) (form_of f v) (λ n e. Reads nodes names n e) (pairs f v nodes names tied) n e p
