-- What nodes stand for: once, and for good.
use Rattle.std.proofs.Common.{◌≡◌, ◌≢◌, ℕ, zero, suc, ◌<◌, List, [], ◌∷◌, length, Some, slice_get, slice_set, ◌⊎◌, inl, inr, ⊎_elim, refl, sym, ap, ◌∙◌, subst, arith}
use Rattle.pv_terms.proofs.Words.{slice_get_within, same_Some, Op, Node, node_of, IsFirst, found, In, Graph, Extends, Tied, Exp, Exps, Name, Over, NoExp, Then, Named, named, IsNoTheta, Reads, ReadAll, IsTheta, AreNames, Stand, Within, ReadOnce, StandingReads, GrowthStands}
use Rattle.pv_graph.specs.declared.node.Op.TheVariants as op

pub same_node : (nodes : List Node) (n : ℕ) (a b : Node) → slice_get nodes n ≡ Some a → slice_get nodes n ≡ Some b → a ≡ b
same_node nodes n a b p q = same_Some a b (sym p ∙ q)

pub same_op : (nodes : List Node) (n : ℕ) (o p : Op) (ks ls : List ℕ) → slice_get nodes n ≡ Some (node_of o ks) → slice_get nodes n ≡ Some (node_of p ls) → o ≡ p
same_op nodes n o p ks ls a b = ap (λ (x : Node). x.op) (same_node nodes n (node_of o ks) (node_of p ls) a b)

pub same_kids : (nodes : List Node) (n : ℕ) (o p : Op) (ks ls : List ℕ) → slice_get nodes n ≡ Some (node_of o ks) → slice_get nodes n ≡ Some (node_of p ls) → ks ≡ ls
same_kids nodes n o p ks ls a b = ap (λ (x : Node). x.kids) (same_node nodes n (node_of o ks) (node_of p ls) a b)

module _ (depth : ℕ → ℕ) (nodes : List Node) (names : List Named) (are : AreNames depth nodes names) where
  -- a node of another operation has no name
  pub unnamed : (h s n : ℕ) (o : Op) (ks : List ℕ) → IsNoTheta o → slice_get nodes n ≡ Some (node_of o ks) → In names (named h s n) → ⊥
  unnamed h s n o ks other at is = let t = are.thetas h s n is in other (depth h) (same_op nodes n o (op.Theta (depth h)) ks t.0 at t.1)

  mutual
    -- a node stands for one expression
    pub reads_once : (n : ℕ) (a b : Exp) → Reads nodes names n a → Reads nodes names n b → a ≡ b
    reads_once n (Name h s) (Name k t) p q = let z = are.one_name h s k t n p q in ap (λ (h : ℕ). Name h s) z.0 ∙ ap (Name k) z.1
    reads_once n (Name h s) (Over o es) p (ks, other, at, all) = absurd (unnamed h s n o ks other at.there p)
    reads_once n (Over o es) (Name h s) (ks, other, at, all) q = absurd (unnamed h s n o ks other at.there q)
    reads_once n (Over o es) (Over u fs) (ks, other, at, all) (ls, other', at', all') =
        let x = same_op nodes n o u ks ls at.there at'.there in
        let z = same_kids nodes n o u ks ls at.there at'.there in
        let y = all_once ks es fs all (subst (λ (ls : List ℕ). ReadAll nodes names ls fs) (sym z) all') in
        ap (λ (o : Op). Over o es) x ∙ ap (Over u) y

    all_once : (ks : List ℕ) (es fs : Exps) → ReadAll nodes names ks es → ReadAll nodes names ks fs → es ≡ fs
    all_once [] NoExp NoExp p q = refl
    all_once [] NoExp (Then b fs) p q = absurd q
    all_once [] (Then a es) fs p q = absurd p
    all_once (k ∷ ks) NoExp fs p q = absurd p
    all_once (k ∷ ks) (Then a es) NoExp p q = absurd q
    all_once (k ∷ ks) (Then a es) (Then b fs) p q = ap (λ (a : Exp). Then a es) (reads_once k a b p.0 q.0) ∙ ap (Then b) (all_once ks es fs p.1 q.1)

  first_one : (x : Node) (n m : ℕ) → IsFirst nodes x n → IsFirst nodes x m → (n < m) ⊎ ((m < n) ⊎ (n ≡ m)) → n ≡ m
  first_one x n m p q (inl l) = absurd (q.least n l p.there)
  first_one x n m p q (inr (inl l)) = absurd (p.least m l q.there)
  first_one x n m p q (inr (inr e)) = e

  orders : (n m : ℕ) → (n < m) ⊎ ((m < n) ⊎ (n ≡ m))
  orders n m = grind arith

  mutual
    -- an expression is read by one node
    pub reads_one : (a : Exp) (n m : ℕ) → Reads nodes names n a → Reads nodes names m a → n ≡ m
    reads_one (Name h s) n m p q = are.one_node h s n m p q
    reads_one (Over o es) n m (ks, other, at, all) (ls, other', at', all') =
        let z : ls ≡ ks = all_one es ls ks all' all in
        first_one (node_of o ks) n m at (subst (λ (ls : List ℕ). IsFirst nodes (node_of o ls) m) z at') (orders n m)

    all_one : (es : Exps) (ks ls : List ℕ) → ReadAll nodes names ks es → ReadAll nodes names ls es → ks ≡ ls
    all_one NoExp [] [] p q = refl
    all_one NoExp [] (l ∷ ls) p q = absurd q
    all_one NoExp (k ∷ ks) ls p q = absurd p
    all_one (Then e es) [] ls p q = absurd p
    all_one (Then e es) (k ∷ ks) [] p q = absurd q
    all_one (Then e es) (k ∷ ks) (l ∷ ls) p q = ap (λ (k : ℕ). k ∷ ks) (reads_one e k l p.0 q.0) ∙ ap (λ (ks : List ℕ). l ∷ ks) (all_one es ks ls p.1 q.1)

pub read_once : ReadOnce
read_once = record {
  expressions = λ depth nodes names n a b are p q. reads_once depth nodes names are n a b p q;
  nodes = λ depth nodes names n m a are p q. reads_one depth nodes names are a n m p q;
}

-- ---- nodes that stand

mutual
  pub reads_stand : (old new : List Node) (names more : List Named) → Stand old new → Within names more → (n : ℕ) (e : Exp) → Reads old names n e → Reads new more n e
  reads_stand old new names more st w n (Name h s) p = w h s n p
  reads_stand old new names more st w n (Over o es) (ks, other, at, all) = (ks, other, st.others n o ks other at, all_stand old new names more st w ks es all)

  pub all_stand : (old new : List Node) (names more : List Named) → Stand old new → Within names more → (ks : List ℕ) (es : Exps) → ReadAll old names ks es → ReadAll new more ks es
  all_stand old new names more st w [] NoExp p = tt
  all_stand old new names more st w [] (Then e es) p = absurd p
  all_stand old new names more st w (k ∷ ks) NoExp p = absurd p
  all_stand old new names more st w (k ∷ ks) (Then e es) p = (reads_stand old new names more st w k e p.0, all_stand old new names more st w ks es p.1)

pub names_stand : (depth : ℕ → ℕ) (old new : List Node) (names : List Named) → Stand old new → AreNames depth old names → AreNames depth new names
names_stand depth old new names st are = record { thetas = λ h s n is. st.thetas n (depth h) (are.thetas h s n is); one_name = are.one_name; one_node = are.one_node }

pub standing_reads : StandingReads
standing_reads = record { reads = λ old new names more n e st w p. reads_stand old new names more st w n e p; names = names_stand }

pub extends_stand : (old new : Graph) → Extends old new → Stand old.nodes new.nodes
extends_stand old new grows = record {
  others = λ n o ks other at. record {
    there = grows.nodes n (node_of o ks) at.there;
    least = λ m less there.
        let low : n < length old.nodes = slice_get_within old.nodes n (node_of o ks) at.there in
        let x = found old.nodes m (omega (arith, less, low)) in
        at.least m less (x.1 ∙ ap Some (same_node new.nodes m x.0 (node_of o ks) (grows.nodes m x.0 x.1) there));
  };
  thetas = λ n d at. (at.0, grows.nodes n (node_of (op.Theta d) at.0) at.1);
}

-- an element put in the place of one
set_there : (xs : List Node) (n : ℕ) (x : Node) → n < length xs → slice_get (slice_set xs n x) n ≡ Some x
set_there [] n x less = absurd (omega arith)
set_there (y ∷ xs) zero x less = refl
set_there (y ∷ xs) (suc n) x less = set_there xs n x (omega arith)

set_other : (xs : List Node) (n m : ℕ) (x : Node) → n ≢ m → slice_get (slice_set xs n x) m ≡ slice_get xs m
set_other [] n m x ne = refl
set_other (y ∷ xs) zero zero x ne = absurd (ne refl)
set_other (y ∷ xs) zero (suc m) x ne = refl
set_other (y ∷ xs) (suc n) zero x ne = refl
set_other (y ∷ xs) (suc n) (suc m) x ne = set_other xs n m x (λ e. ne (ap suc e))

same_or_not : (n m : ℕ) → (n ≡ m) ⊎ (n ≢ m)
same_or_not n m = grind arith

module _ (old new : List Node) (n d : ℕ) (kids : List ℕ) (open' : slice_get old n ≡ Some (node_of (op.Theta d) [])) (tied : new ≡ slice_set old n (node_of (op.Theta d) kids)) where
  at_theta : slice_get new n ≡ Some (node_of (op.Theta d) kids)
  at_theta = ap (λ (xs : List Node). slice_get xs n) tied ∙ set_there old n (node_of (op.Theta d) kids) (slice_get_within old n (node_of (op.Theta d) []) open')

  at_other : (m : ℕ) → n ≢ m → slice_get new m ≡ slice_get old m
  at_other m ne = ap (λ (xs : List Node). slice_get xs m) tied ∙ set_other old n m (node_of (op.Theta d) kids) ne

  -- what isn't a theta stands where it stood
  other_old : (m : ℕ) (o : Op) (ks : List ℕ) → IsNoTheta o → slice_get new m ≡ Some (node_of o ks) → slice_get old m ≡ Some (node_of o ks)
  other_old m o ks other at = ⊎_elim
      (λ e. absurd (other d (same_op new m o (op.Theta d) ks kids at (subst (λ (k : ℕ). slice_get new k ≡ Some (node_of (op.Theta d) kids)) e at_theta))))
      (λ ne. sym (at_other m ne) ∙ at)
      (same_or_not n m)

  other_new : (m : ℕ) (o : Op) (ks : List ℕ) → IsNoTheta o → slice_get old m ≡ Some (node_of o ks) → slice_get new m ≡ Some (node_of o ks)
  other_new m o ks other at = ⊎_elim
      (λ e. absurd (other d (same_op old m o (op.Theta d) ks [] at (subst (λ (k : ℕ). slice_get old k ≡ Some (node_of (op.Theta d) [])) e open'))))
      (λ ne. at_other m ne ∙ at)
      (same_or_not n m)

  theta_new : (m e : ℕ) → IsTheta old e m → IsTheta new e m
  theta_new m e at = ⊎_elim
      (λ q. subst (λ (k : ℕ). IsTheta new e k) q (kids, subst (λ (o : Op). slice_get new n ≡ Some (node_of o kids)) (same_op old n (op.Theta d) (op.Theta e) [] at.0 open' (subst (λ (k : ℕ). slice_get old k ≡ Some (node_of (op.Theta e) at.0)) (sym q) at.1)) at_theta))
      (λ ne. (at.0, at_other m ne ∙ at.1))
      (same_or_not n m)

  pub set_stand : Stand old new
  set_stand = record {
    others = λ m o ks other at. record { there = other_new m o ks other at.there; least = λ k less there. at.least k less (other_old k o ks other there) };
    thetas = theta_new;
  }

pub tied_stand : (old new : Graph) (n first second : ℕ) → Tied old new n first second → Stand old.nodes new.nodes
tied_stand old new n first second t = set_stand old.nodes new.nodes n t.theta_.0 (first ∷ second ∷ []) t.theta_.1 (ap (λ (g : Graph). g.nodes) t.tied)

pub stand_then : (a b c : List Node) → Stand a b → Stand b c → Stand a c
stand_then a b c p q = record { others = λ n o ks other at. q.others n o ks other (p.others n o ks other at); thetas = λ n d at. q.thetas n d (p.thetas n d at) }

pub growth_stands : GrowthStands
growth_stands = record { extends = extends_stand; tied = tied_stand; then = stand_then }
