-- The section that is left.
use Rattle.std.specs.Prelude.{◌≡◌, ◌⊎◌, ℕ, ◌+◌, suc, ◌<◌, ◌≤◌, Bool, true, false, List, [], ◌∷◌, ◌++◌, length, reverse, if◌then◌else◌, Option, Result, Ok, Err, IfOk}
use Rattle.std.proofs.Common.{inl, inr, sym, ap, ◌∙◌, subst, arith}
use Rattle.std.proofs.lemmas.List.{length-reverse, reverse-append}
use Rattle.pv_graph.specs.Walks.{In}
use Rattle.pv_graph.specs.Graphs.{Graph, IsWellMade}
use Rattle.pv_graph.proofs.Cited.{in_front, in_last}
use Rattle.pv_steps.specs.declared.step.Step.{Step}
use Rattle.pv_steps.specs.Accepted.{LastStates, Derives}
use Rattle.pv_axioms.specs.Entries.{ByAxioms}
use Rattle.pv_trim.specs.Citing.{IsLean}
use Rattle.pv_trim.specs.Spelling.{HaveMembers}
use Rattle.pv_trim.specs.Moving.{count, moved, kept_steps}
use Rattle.pv_trim.specs.Marks.{is_on, AreEnds, AreMarks}
use Rattle.pv_trim.proofs.Kept.{IsTrimmed}
use Rattle.pv_trim.proofs.Marked.{kept_derive, members}
use Rattle.pv_trim.proofs.Bound.{of_nodes}
use Rattle.pv_trim.proofs.Instances.{carried}

pub record IsDone (g : Graph) (a b : ℕ) (new : List Step) : Type 0 where
  pub derives : Derives ByAxioms g a b new
  pub lean : IsLean new
  pub members : HaveMembers new

in_reverse : (xs : List Step) (x : Step) → In xs x → In (reverse xs) x
in_reverse [] x h = absurd h
in_reverse (y ∷ xs) x (inl e) = subst (λ (q : List Step). In q x) (sym (reverse-append (y ∷ []) xs)) (subst (In (reverse xs ++ y ∷ [])) e (in_last (reverse xs) y))
in_reverse (y ∷ xs) x (inr h) = subst (λ (q : List Step). In q x) (sym (reverse-append (y ∷ []) xs)) (in_front (reverse xs) y x (in_reverse xs x h))

pub done : (g : Graph) → IsWellMade g → g.is_open ≡ false → (a b : ℕ) → a < length g.nodes → b < length g.nodes → (section : List Step) → Derives ByAxioms g a b section → (a ≡ b → ⊥) → (ends : List (Option ℕ)) → AreEnds section ends
    → (marks nodes : List Bool) (base : ℕ) → base ≡ length g.nodes → AreMarks section ends base (base + length section) 0 marks nodes → (steps_ nodes_ : List Bool) → steps_ ≡ marks → nodes_ ≡ nodes
    → (new : List Step) → reverse new ≡ kept_steps (is_on steps_) (count (is_on nodes_)) (count (is_on steps_)) (reverse section) → IsDone g a b new
done g made sealed a b low low' section h differ ends are marks nodes base e m steps_ nodes_ u v new is = finish h.1.1
  where
    flags : kept_steps (is_on steps_) (count (is_on nodes_)) (count (is_on steps_)) (reverse section) ≡ kept_steps (is_on marks) (count (is_on nodes)) (count (is_on marks)) (reverse section)
    flags =
        ap (λ (q : List Bool). kept_steps (is_on q) (count (is_on nodes_)) (count (is_on q)) (reverse section)) u
        ∙ ap (λ (q : List Bool). kept_steps (is_on marks) (count (is_on q)) (count (is_on marks)) (reverse section)) v

    finish : (a ≡ b) ⊎ LastStates (reverse section) a b → IsDone g a b new
    finish (inl same) = absurd (differ same)
    finish (inr states) =
        let m_ : AreMarks section ends (length g.nodes) (length g.nodes + length section) 0 marks nodes = subst (λ (n : ℕ). AreMarks section ends n (n + length section) 0 marks nodes) e m in
        let r = kept_derive ByAxioms of_nodes g made sealed section h.0 ends are marks nodes m_ carried a b low low' h.1.0 states in
        let t : IsTrimmed ByAxioms g a b (reverse new) = subst (IsTrimmed ByAxioms g a b) (sym (is ∙ flags)) r in
        let ms : HaveMembers (reverse new) = subst HaveMembers (sym (is ∙ flags)) (members ByAxioms of_nodes g made sealed section h.0 ends are marks nodes m_ a b states (count (is_on nodes)) (count (is_on marks))) in
        record {
          derives = (t.right, t.concluded);
          lean = λ j one less. t.cited j one (let z = length-reverse new in omega (arith, z, less));
          members = λ s i. ms s (in_reverse new s i);
        }

kept_size : (keep : ℕ → Bool) (f r : ℕ → ℕ) (all : List Step) → length (kept_steps keep f r all) ≤ length all
kept_size keep f r [] = omega arith
kept_size keep f r (s ∷ before) = go (keep (length before)) (kept_size keep f r before)
  where
    go : (b : Bool) → length (kept_steps keep f r before) ≤ length before → length (if b then moved f r s ∷ kept_steps keep f r before else kept_steps keep f r before) ≤ suc (length before)
    go true low = omega (arith, low)
    go false low = omega (arith, low)

-- there are no more steps than before
pub new_size : (keep : ℕ → Bool) (f r : ℕ → ℕ) (section new : List Step) → reverse new ≡ kept_steps keep f r (reverse section) → length new ≤ length section
new_size keep f r section new is =
    let old = length-reverse section in
    let left = length-reverse new in
    let same = ap length is in
    let low = kept_size keep f r (reverse section) in
    omega (arith, old, left, same, low)

pub if_ok : {T E : Type 0} {P Q : T → Type 0} (r : Result T E) → ((x : T) → P x → Q x) → IfOk r P → IfOk r Q
if_ok (Ok x) f h = f x h
if_ok (Err e) f h = tt
