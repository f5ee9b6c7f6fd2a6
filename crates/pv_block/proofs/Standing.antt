-- Nodes go on standing for parts where a graph grows, and an operation over them stands for the part over theirs.
use Rattle.std.proofs.Common.{◌≡◌, ◌≢◌, ℕ, List, [], ◌∷◌, get_or, Some, inl, inr, refl, sym, subst}
use Rattle.pv_block.proofs.Words.{Op, Node, OpSort, T, plain, shape, sort_over, HaveSorts, HasSort, Graph, FitsOver, Part, Parts, Of, NoPart, More, put, put_all, Reads, ReadAll, Stand, Grows, IsOfSort, HasItsSort, ReadsOver, ReadsBoth, names_stand, standing_reads, extends_stand, Cell, Entry, IsEntered, StandsFor, AllStand, CellStands, StandsOver}
use Rattle.pv_frame.specs.declared.sort.Sort.TheVariants as sort
use Rattle.pv_graph.specs.declared.node.Op.TheVariants as op
use Rattle.pv_graph.proofs.Cited.{exactly_are}
use Rattle.pv_equations.specs.Exp.{Exp, Exps, Over, made}
use Rattle.pv_terms.specs.declared.names.Named.{Named}
use Rattle.pv_runs.specs.Held as parts

-- ---- growth

pub grown : (old new : Graph) → Grows old new → Stand old.nodes new.nodes
grown old new g = extends_stand old new g.extends

pub stands_on : (at : Entry) (old new : List Node) (n : ℕ) (p : Part) → Stand old new → StandsFor at old n p → StandsFor at new n p
stands_on at old new n p s h = λ depth names base e. standing_reads.reads old new names names n (put base p) s (λ h s n i. i) (h depth names base e)

-- ---- cells

pub cell_on : (at : Entry) (old new : List Node) (c : Cell) (d : parts.Cell) → Stand old new → CellStands at old c d → CellStands at new c d
cell_on at old new c d s (e, inl u) = (e, inl u)
cell_on at old new c d s (e, inr x) = (e, inr (stands_on at old new c.node d.part s x))

-- where the sort is known, the node stands for the part
pub known_stands : (at : Entry) (nodes : List Node) (c : Cell) (d : parts.Cell) → c.sort ≢ sort.Unknown → CellStands at nodes c d → StandsFor at nodes c.node d.part
known_stands at nodes c d k (e, inl u) = absurd (k u)
known_stands at nodes c d k (e, inr x) = x

-- ---- an operation

all_read : (at : Entry) (nodes : List Node) (ks : List ℕ) (ps : Parts) → AllStand at nodes ks ps → (depth : ℕ → ℕ) (names : List Named) (base : ℕ → Exp) → IsEntered at depth names base → ReadAll nodes names ks (put_all base ps)
all_read at nodes [] NoPart h depth names base e = tt
all_read at nodes [] (More p ps) h depth names base e = absurd h
all_read at nodes (k ∷ ks) NoPart h depth names base e = absurd h
all_read at nodes (k ∷ ks) (More p ps) h depth names base e = (h.0 depth names base e, all_read at nodes ks ps h.1 depth names base e)

made_over : (o : Op) (es : Exps) → o ≢ op.Both → made o es ≡ Over o es
unfolding made
made_over op.Both es e = absurd (e refl)
made_over o es e = refl

pub stands_over : (old new : Graph) (o : Op) (ks : List ℕ) (n : ℕ) → o ≢ op.Both → ReadsOver old o ks new n → StandsOver old.nodes o ks new.nodes n
stands_over old new o ks n e r at ps p stand h = λ depth names base entered.
    subst (Reads new.nodes names n) (sym (made_over o (put_all base ps) e)) (r names (put_all base ps) (all_read at old.nodes ks ps h depth names base entered))

-- a token that is both of two
pub record AreTwo (g : Graph) (ks : List ℕ) : Type 0 where
  pub first : ℕ
  pub second : ℕ
  pub are : ks ≡ first ∷ second ∷ []
  pub first_sort : IsOfSort g first T
  pub second_sort : IsOfSort g second T

pub both_two : (g : Graph) (ks : List ℕ) → FitsOver g op.Both ks → AreTwo g ks
both_two g ks f = two ks (subst (HaveSorts g.sorts ks) (sym (exactly_are (T ∷ T ∷ []) T f.1.sorts f.0 f.1.over).0) f.1.kids_have)
  where
    two : (ks : List ℕ) → HaveSorts g.sorts ks (T ∷ T ∷ []) → AreTwo g ks
    two [] h = absurd h
    two (a ∷ []) h = absurd h.1
    two (a ∷ b ∷ []) h = record { first = a; second = b; are = refl; first_sort = h.0; second_sort = h.1.0 }
    two (a ∷ b ∷ k ∷ ks) h = absurd h.1.1

stands_both : (old new : Graph) (a b n : ℕ) → ReadsBoth old a b new n → StandsOver old.nodes op.Both (a ∷ b ∷ []) new.nodes n
stands_both old new a b n both at (More p (More q NoPart)) is stand h = λ depth names base e.
    both depth names (put base p) (put base q) (names_stand depth at.nodes old.nodes names stand e.names_) (h.0 depth names base e) (h.1.0 depth names base e)
stands_both old new a b n both at NoPart is stand h = absurd h
stands_both old new a b n both at (More p NoPart) is stand h = absurd h.1
stands_both old new a b n both at (More p (More q (More r ps))) is stand h = absurd h.1.1

pub stands_two : (old new : Graph) (ks : List ℕ) (n : ℕ) → AreTwo old ks → ReadsBoth old (get_or ks 0 0) (get_or ks 1 0) new n → StandsOver old.nodes op.Both ks new.nodes n
stands_two old new ks n two r =
    subst (λ (ks : List ℕ). StandsOver old.nodes op.Both ks new.nodes n) (sym two.are) (stands_both old new two.first two.second n (subst (λ (ks : List ℕ). ReadsBoth old (get_or ks 0 0) (get_or ks 1 0) new n) two.are r))

pub sort_of_two : (old new : Graph) (ks : List ℕ) (n : ℕ) → IsOfSort new n T → HasItsSort old op.Both ks new n
sort_of_two old new ks n i s h = subst (IsOfSort new n) (exactly_are (T ∷ T ∷ []) T h.sorts s h.over).1 i

-- an operation over no kids
pub over_none : (g : Graph) (o : Op) (s : OpSort) → sort_over o [] ≡ Some s → HasSort g.sorts o [] s
over_none g o s e = record { sorts = []; kids_have = tt; over = e }

pub makes : (old new : Graph) (o : Op) (n : ℕ) (q : shape o ≡ plain) → o ≢ op.Both → ReadsOver old o [] new n → (at : Entry) → Stand at.nodes old.nodes → StandsFor at new.nodes n (Of o q NoPart)
makes old new o n q e r at s = stands_over old new o [] n e r at NoPart q s tt
