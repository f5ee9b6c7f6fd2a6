-- The search for the least graph finds it.
use Rattle.std.specs.Prelude.{◌≡◌, ℕ, ◌<◌, List, length, Some}
use Rattle.std.proofs.Common.{sym, ◌∙◌, subst}
use Rattle.pv_graph.specs.declared.node.Op.{Op}
use Rattle.pv_graph.specs.declared.node.Node.{Node}
use Rattle.pv_graph.proofs.Cited.{found, node_at, form_there, kid_within}
use Rattle.pv_alike.proofs.Refined.{last_numbers, quotient_unfolds}
use Rattle.pv_graph.specs.Forms.{form}
use Rattle.pv_graph.specs.Walks.{In}
use Rattle.pv_graph.specs.Graphs.{Graph, form_at, IsGraph}
use Rattle.pv_alike.specs.Least.{UnfoldsAs}
use Rattle.pv_alike.specs.Algorithm.{IsNumbered, IsByNumber}
use Rattle.pv_alike.specs.Laws.{LeastOnce, RootsOne, LeastKeepsRule, NumbersUnfold, SearchFinds}
use Rattle.pv_alike.proofs.LeastLaws.{AreApart, copies_least, least_one, first_means, second_means}
use Rattle.pv_alike.proofs.LeastOnce.{least_once}
use Rattle.pv_alike.proofs.Ruled.{least_keeps_rule}

-- in a graph each kid is a node
pub kid_there : (g : Graph) → IsGraph g → (n k : ℕ) (o : Op) (ks : List ℕ) → form_at g.nodes n ≡ Some (form o ks) → In ks k → (p : Op) × (ls : List ℕ) × (form_at g.nodes k ≡ Some (form p ls))
kid_there g is n k o ks e m =
    let node = node_at g.nodes n o ks e in
    let kid = found g.nodes k (kid_within g is n k node.0 node.1 (subst (λ (zs : List ℕ). In zs k) (sym node.3) m)) in
    (kid.0.op, kid.0.kids, form_there g.nodes k kid.0 kid.1)

pub numbers_unfold : NumbersUnfold
numbers_unfold g number a b is numbered lt lt' =
    let x = found g.nodes a lt in
    let y = found g.nodes b lt' in
    last_numbers (form_at g.nodes) (kid_there g is) numbered.rank numbered.falls numbered.class number numbered.next numbered.passes numbered.pass numbered.finer numbered.last
    a b x.0.op y.0.op x.0.kids y.0.kids (form_there g.nodes a x.0 x.1) (form_there g.nodes b y.0 y.1)

-- a number unfolds as its nodes
number_unfolds : (g : Graph) (number : ℕ → ℕ) (q : List Node) → IsGraph g → IsByNumber g.nodes number q → (n : ℕ) → n < length g.nodes → UnfoldsAs q (number n) g.nodes n
number_unfolds g number q is by n lt =
    let x = found g.nodes n lt in
    quotient_unfolds (form_at g.nodes) (kid_there g is) number (form_at q) by.forms n x.0.op x.0.kids (form_there g.nodes n x.0 x.1)

-- so no two numbers unfold equally
numbers_apart : (g : Graph) (number : ℕ → ℕ) (q : List Node) → IsGraph g → IsNumbered g.nodes number → IsByNumber g.nodes number q → AreApart q
numbers_apart g number q is numbered by m n lt lt' same =
    let a = by.onto m lt in
    let b = by.onto n lt' in
    let up : UnfoldsAs q (number a.0) g.nodes a.0 = number_unfolds g number q is by a.0 a.1 in
    let vp : UnfoldsAs q (number b.0) g.nodes b.0 = number_unfolds g number q is by b.0 b.1 in
    let same' : UnfoldsAs q (number a.0) q (number b.0) = subst (λ (x : ℕ). UnfoldsAs q x q (number b.0)) (sym a.2) (subst (λ (y : ℕ). UnfoldsAs q m q y) (sym b.2) same) in
    sym a.2 ∙ (numbers_unfold g number a.0 b.0 is numbered a.1 b.1).1 (λ k. sym (up k) ∙ same' k ∙ vp k) ∙ b.2

pub search_finds : SearchFinds
search_finds g number q a b h r s is numbered by lt lt' laid =
    copies_least g.nodes a b q (number a) (number b) laid.order h r s (numbers_apart g number q is numbered by) (number_unfolds g number q is by a lt) (number_unfolds g number q is by b lt')
    laid.visits laid.copies laid.first laid.second

pub once : LeastOnce
once g a b h k r s t u p q = least_once p q

pub roots_one : RootsOne
roots_one g a b h r s least = record { one = least_one least; first = first_means least; second = second_means least }

pub keeps_rule : LeastKeepsRule
keeps_rule g a b h r s least rule = least_keeps_rule g a b h r s least rule
