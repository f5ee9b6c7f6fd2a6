-- The terms of each height, and which of them are joined there.
use Rattle.std.specs.Prelude.{◌≡◌, ◌⊎◌, ℕ, zero, suc, List, [], Some}
use Rattle.std.specs.List.{AllZip}
use Rattle.pv_graph.specs.declared.node.Op.{Op}
use Rattle.pv_graph.specs.Forms.{form}
use Rattle.pv_pattern.specs.Patterns.{Axiom}
use Rattle.pv_steps.specs.Facts.{View}
use Rattle.pv_heights.specs.Systems.{Joined}
use Rattle.pv_heights.specs.Sides.{Match, StandsIn, IsSideOf}
use Rattle.pv_heights.specs.Matches.{IsMatch}
use Rattle.pv_heights.specs.Terms.{Term, base, terms, written_terms, Below}

-- a set of terms, and which of them are joined
pub record Height : Type 1 where
  pub Member : Term → Type 0
  pub Joins : Term → Term → Type 0

-- n is m over other things: R relates the thing at each hole of m to the thing at this hole of n
pub record Corresponds {A B : Type 0} (R : A → B → Type 0) (m : Match A) (n : Match B) : Type 0 where
  pub entry : m.entry ≡ n.entry
  pub params : m.params ≡ n.params
  pub kids : AllZip R m.kids n.kids
  pub vars : AllZip R m.vars n.vars

-- all terms
abbrev pub AnyTerm : Term → Type 0
AnyTerm t = Unit {0}

-- t is the right side of the match m, written over any term of its class for each variable
pub record IsRight (view : View) (assumed : List ℕ) (table : List Axiom) (h : Height) (m : Match Term) (t : Term) : Type 0 where
  pub is_match : IsMatch view assumed table (terms view) h.Member h.Joins m
  pub chosen : Match Term
  pub is_chosen : Corresponds (λ x s. h.Member s × h.Joins x s) m chosen
  pub is : IsSideOf written_terms AnyTerm chosen m.entry.right t

-- the terms of the next height: those of this one, and the right sides of all matches with their subterms
abbrev pub NextMember : View → List ℕ → List Axiom → Height → Term → Type 0
NextMember view assumed table h t = h.Member t ⊎ ((m : Match Term) × (u : Term) × IsRight view assumed table h m u × Below view t u)

-- what is given at the next height: what is joined at this one, and the two sides of each match, of which the left one is any term
-- of the class in which it stands
abbrev pub NextGiven : View → List ℕ → List Axiom → Height → Term → Term → Type 0
NextGiven view assumed table h a b = h.Joins a b
    ⊎ ((m : Match Term) × h.Member a × StandsIn (terms view) h.Member h.Joins m m.entry.left a × IsRight view assumed table h m b)

-- a node of the graph with this view
abbrev pub IsBase : View → ℕ → Type 0
IsBase view n = (o : Op) × (ks : List ℕ) × (view n ≡ Some (form o ks))

-- a term that is a node
abbrev pub FirstMember : View → Term → Type 0
FirstMember view t = (n : ℕ) × IsBase view n × (t ≡ base n)

-- no pair
abbrev pub Nothing : {A : Type 0} → A → A → Type 0
Nothing a b = ⊥

-- these terms, with all that is joined of them where these pairs are given and no depth is fixed
abbrev pub closed : View → (Term → Type 0) → (Term → Term → Type 0) → Height
closed view Member Given = record { Member = Member; Joins = Joined (terms view) Member [] Given [] }

-- the nodes, joined by congruence and inductions alone
abbrev pub first_height : View → Height
first_height view = closed view (FirstMember view) Nothing

-- the height after h
abbrev pub next_height : View → List ℕ → List Axiom → Height → Height
next_height view assumed table h = closed view (NextMember view assumed table h) (NextGiven view assumed table h)

-- height k: k times the next one
unfoldable pub height : View → List ℕ → List Axiom → ℕ → Height
height view assumed table zero = first_height view
height view assumed table (suc k) = next_height view assumed table (height view assumed table k)
