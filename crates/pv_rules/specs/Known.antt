-- What is known of the lemmas of a certificate, of which the last comes first.
use Rattle.std.specs.Prelude.{◌≡◌, ◌↔◌, ℕ, List, [], ◌∷◌, Option, None, Some}
use Rattle.pv_graph.specs.Graphs.{Graph}
use Rattle.pv_graph.specs.Calls.{IsSame}
use Rattle.pv_steps.specs.declared.step.Lemma.{Lemma}
use Rattle.pv_steps.specs.Right.{Instances}
use Rattle.pv_steps.specs.Accepted.{Derives}
use Rattle.pv_lemmas.specs.declared.known.Known.{Known}
use Rattle.pv_lemmas.specs.Lemmas.{IsAccepted, IsKnown, IsUse, LemmaGraph, Uses, variables_graph}

-- the steps of a lemma show by these rules that its sides are equal, and this is the graph after them; or they don't show it
abbrev pub IsShown : Instances → Lemma → Option Graph → Type 0
IsShown R lemma None = Derives R (variables_graph lemma.vars) lemma.left lemma.right lemma.steps → ⊥
IsShown R lemma (Some g) = Derives R (variables_graph lemma.vars) lemma.left lemma.right lemma.steps × ((after : Graph) × LemmaGraph lemma after × IsSame after g)

-- the lemma is accepted after those before it, and this is it with its graph; or it isn't accepted
abbrev pub IsStatus : List Lemma → Lemma → Option Known → Type 0
IsStatus before lemma None = IsAccepted (Uses before) lemma → ⊥
IsStatus before lemma (Some known) = IsAccepted (Uses before) lemma × (known.lemma.now ≡ lemma) × IsKnown lemma known.graph

-- this is known of each of these lemmas
abbrev pub AreKnown : List Lemma → List (Option Known) → Type 0
AreKnown [] [] = Unit {0}
AreKnown (lemma ∷ before) (k ∷ known) = IsStatus before lemma k × AreKnown before known
AreKnown lemmas known = ⊥

-- lemma n of these has no use
abbrev pub NoneUses : List Lemma → ℕ → Type 0
NoneUses lemmas n = (g : Graph) (assumed nodes : List ℕ) (a b : ℕ) → Uses lemmas g assumed n nodes a b → ⊥

-- the uses of lemma n of these are those of this one, whose graph is known
abbrev pub IsFound : List Lemma → ℕ → Known → Type 0
IsFound lemmas n known = ((g : Graph) (assumed nodes : List ℕ) (a b : ℕ) → Uses lemmas g assumed n nodes a b ↔ IsUse known.lemma.now g assumed nodes a b) × IsKnown known.lemma.now known.graph
