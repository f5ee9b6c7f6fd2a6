-- A tree is determined by the values, by what is taken out, and by the trees further on: what code needs to show that its result is the tree.
use Rattle.std.proofs.Common.{◌≡◌, ◌≢◌, ℕ, List, [], ◌∷◌, Option, Some, None, ◌⊎◌, inl, inr, sym, ◌∙◌, subst}
use Rattle.pv_equations.proofs.Words.{Exp, Part, put, Kind, Return, Throw, Exit, Chain, Leave, Test, Flow, Target, Node, Back, Finish, Returning, Leaving, Place, On, Again, Header, Gone, Ended, Joins, IsChain, Values, outs, AtPlace, IsExit, IsTree}
use Rattle.pv_equations.proofs.Seen.{seen_once}

joins_once : (c : Exp) (a b r q : Option Exp) → Joins c a b r → Joins c a b q → r ≡ q
joins_once c None b r q h k = h ∙ sym k
joins_once c (Some a) None r q h k = h ∙ sym k
joins_once c (Some a) (Some b) r q (inl h) (inl k) = h.1 ∙ sym k.1
joins_once c (Some a) (Some b) r q (inr h) (inr k) = h.1 ∙ sym k.1
joins_once c (Some a) (Some b) r q (inl h) (inr k) = absurd (k.0 h.0)
joins_once c (Some a) (Some b) r q (inr h) (inl k) = absurd (h.0 k.0)

chain_once : (X : Exit → Option Exp → Type 0) (c : Part → Exp) → ((e : Exit) (r q : Option Exp) → X e r → X e q → r ≡ q) → (ch : Chain) (r q : Option Exp) → IsChain X c ch r → IsChain X c ch q → r ≡ q
chain_once X c once (Leave e) r q h k = once e r q h k
chain_once X c once (Test t e rest) r q h k =
    let a = once e h.0 k.0 h.2 k.2 in
    let b = chain_once X c once rest h.1 k.1 h.3 k.3 in
    joins_once (c t) h.0 h.1 r q h.4 (subst (λ (o : Option Exp). Joins (c t) o h.1 q) (sym a) (subst (λ (o : Option Exp). Joins (c t) k.0 o q) (sym b) k.4))

module _ (f : Flow) (v : Values) (R : List ℕ) (s : ℕ) (F : List ℕ) (b : ℕ) where
  at_once : (t : Target) (e : Exit) (p : Place) (r q : Option Exp) → AtPlace f v R t s F b e p r → AtPlace f v R t s F b e p q → r ≡ q
  at_once (Node n) e (On G m) r q (inl h) (inl k) = h.2 ∙ sym k.2
  at_once (Node n) e (On G m) r q (inr h) (inr k) = h.1 ∙ sym k.1
  at_once (Node n) e (On G m) r q (inl h) (inr k) = absurd (other h.0 h.1 k.0)
    where
      other : (G ≡ []) ⊎ (G ≡ m ∷ []) → m ≡ n → (m ≢ n) ⊎ ((G ≢ []) × (G ≢ m ∷ [])) → ⊥
      other g e (inl x) = x e
      other (inl g) e (inr x) = x.0 g
      other (inr g) e (inr x) = x.1 g
  at_once (Node n) e (On G m) r q (inr h) (inl k) = absurd (other k.0 k.1 h.0)
    where
      other : (G ≡ []) ⊎ (G ≡ m ∷ []) → m ≡ n → (m ≢ n) ⊎ ((G ≢ []) × (G ≢ m ∷ [])) → ⊥
      other g e (inl x) = x e
      other (inl g) e (inr x) = x.0 g
      other (inr g) e (inr x) = x.1 g
  at_once Back e (On G m) r q h k = h ∙ sym k
  at_once Finish e (On G m) r q h k = h ∙ sym k
  at_once Returning e (On G m) r q h k = h ∙ sym k
  at_once Leaving e (On G m) r q h k = h ∙ sym k
  at_once t e Again r q h k = again t h k
    where
      again : (t : Target) → AtPlace f v R t s F b e Again r → AtPlace f v R t s F b e Again q → r ≡ q
      again (Node n) h k = h ∙ sym k
      again Back h k = h ∙ sym k
      again Finish h k = h ∙ sym k
      again Returning h k = h ∙ sym k
      again Leaving h k = h ∙ sym k
  at_once t e Header r q h k = header t h k
    where
      header : (t : Target) → AtPlace f v R t s F b e Header r → AtPlace f v R t s F b e Header q → r ≡ q
      header (Node n) h k = h ∙ sym k
      header Back h k = h ∙ sym k
      header Finish h k = h ∙ sym k
      header Returning h k = h ∙ sym k
      header Leaving h k = h ∙ sym k
  at_once t e Gone r q h k = gone t h k
    where
      gone : (t : Target) → AtPlace f v R t s F b e Gone r → AtPlace f v R t s F b e Gone q → r ≡ q
      gone (Node n) h k = h ∙ sym k
      gone Back h k = h ∙ sym k
      gone Finish h k = h ∙ sym k
      gone Returning h k = h ∙ sym k
      gone Leaving h k = h ∙ sym k
  at_once t e (Ended o) r q h k = ended R t h k
    where
      ended : (R : List ℕ) (t : Target) → AtPlace f v R t s F b e (Ended o) r → AtPlace f v R t s F b e (Ended o) q → r ≡ q
      ended [] (Node n) h k = h ∙ sym k
      ended [] Back h k = h ∙ sym k
      ended [] Finish h k = h ∙ sym k
      ended [] Leaving h k = h ∙ sym k
      ended [] Returning h k = kind h k
        where
          kind : AtPlace f v [] Returning s F b e (Ended o) r → AtPlace f v [] Returning s F b e (Ended o) q → r ≡ q
          kind h k = at_kind o h k
            where
              at_kind : (o : Kind) → AtPlace f v [] Returning s F b e (Ended o) r → AtPlace f v [] Returning s F b e (Ended o) q → r ≡ q
              at_kind Return h k = h ∙ sym k
              at_kind Throw h k = h ∙ sym k
      ended (l ∷ R) (Node n) h k = h ∙ sym k
      ended (l ∷ R) Back h k = h ∙ sym k
      ended (l ∷ R) Finish h k = h ∙ sym k
      ended (l ∷ R) Leaving h k = h ∙ sym k
      ended (l ∷ R) Returning h k = h ∙ sym k

  exit_once : (t : Target) (e : Exit) (r q : Option Exp) → IsExit f v R t s F b e r → IsExit f v R t s F b e q → r ≡ q
  exit_once t e r q h k = at_once t e h.0 r q h.2 (subst (λ (p : Place). AtPlace f v R t s F b e p q) (seen_once f R F e.dest k.0 h.0 k.1 h.1) k.2)

  pub tree_once : (t : Target) (r q : Option Exp) → IsTree f v R t s F b r → IsTree f v R t s F b q → r ≡ q
  tree_once t r q (inl h) (inl k) = h.2 ∙ sym k.2
  tree_once t r q (inl h) (inr k) = absurd (h.1 (k.0 h.0))
  tree_once t r q (inr h) (inl k) = absurd (k.1 (h.0 k.0))
  tree_once t r q (inr h) (inr k) = chain_once (IsExit f v R t s F b) (λ c. outs v F (put (v.value b) c)) (λ e r q x y. exit_once t e r q x y) (f.chain b) r q h.1 k.1
