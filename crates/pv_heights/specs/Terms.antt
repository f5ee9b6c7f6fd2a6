-- Terms over the nodes of a least graph.
use Rattle.std.specs.Prelude.{◌≡◌, ℕ, List, [], ◌∷◌, map, Some}
use Rattle.pv_graph.specs.declared.node.Op.{Op}
use Rattle.pv_graph.specs.Forms.{form}
use Rattle.pv_graph.specs.Walks.{In}
use Rattle.pv_steps.specs.Facts.{View}
use Rattle.pv_heights.specs.Systems.{System}

mutual
  -- a node, or an operation over terms
  pub data Term : Type 0 where
    base : ℕ → Term
    over : Op → Terms → Term

  pub data Terms : Type 0 where
    no_term : Terms
    term : Term → Terms → Terms

abbrev pub listed : Terms → List Term
listed no_term = []
listed (term t ts) = t ∷ listed ts

-- the operation and kids of a term; a node has its own
abbrev pub TermHas : View → Term → Op → List Term → Type 0
TermHas view (base n) o ks = (ns : List ℕ) × (view n ≡ Some (form o ns)) × (ks ≡ map base ns)
TermHas view (over p ts) o ks = (p ≡ o) × (ks ≡ listed ts)

abbrev pub terms : View → System
terms view = record { Thing = Term; Has = TermHas view; node = base }

-- the term is this operation written over these terms
abbrev pub IsWritten : Term → Op → List Term → Type 0
IsWritten (base n) o ks = ⊥
IsWritten (over p ts) o ks = (p ≡ o) × (ks ≡ listed ts)

-- terms as they are written, where a node has no operation: a side over them is the term that is made of it, and no node that has its
-- operation
abbrev pub written_terms : System
written_terms = record { Thing = Term; Has = IsWritten; node = base }

-- t is u or a subterm of it
pub data Below (view : View) : Term → Term → Type 0 where
  itself : (t : Term) → Below view t t
  kid : (t u k : Term) (o : Op) (ks : List Term) → TermHas view u o ks → In ks k → Below view t k → Below view t u
