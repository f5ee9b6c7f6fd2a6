-- What a search finds of the roots of a least graph is the verdict on its methods.
use Rattle.std.proofs.Common.{◌≡◌, ◌⊎◌, ◌↔◌, ℕ, ◌<◌, List, length, None, Result, Ok, Err, inl, inr, refl, sym, ap, subst, ◌∙◌}
use Rattle.std.specs.Prelude.{IfOk}
use Rattle.pv_value.specs.declared.memory.Memory.{Memory}
use Rattle.pv_class.specs.declared.file.ClassFile.{ClassFile}
use Rattle.pv_graph.proofs.Cited.{bases_are_made}
use Rattle.pv_denote.specs.Meaning.{Same}
use Rattle.pv_alike.specs.Least.{Rooted}
use Rattle.pv_alike.proofs.Cited.{least_within}
use Rattle.pv_counted.specs.Cleared.{IsCleared}
use Rattle.pv_counted.specs.Laws.{RootsKeep}
use Rattle.pv_counted.proofs.Cited.{cleared_once}
use Rattle.pv_endings.specs.Endings.{AreEndingsOf}
use Rattle.pv_heights.specs.Laws.{OneRootEqual}
use Rattle.pv_heights.specs.Verdicts as search
use Rattle.pv_certify.specs.Searched.{IsLeastGraph, Limits, Outcome, Met, Budget, Apart, Rounds, question, verdict_of, MetAreSame}
use Rattle.pv_certify.proofs.Cited.{verdict_by_nodes}
use Rattle.pv_report.specs.declared.verdict.Detail.{Detail}
use Rattle.pv_report.specs.declared.verdict.Detail.TheVariants as detail
use Rattle.pv_report.specs.declared.verdict.Graphs.TheVariants.{Least, LeastOrCleared}
use Rattle.pv_report.specs.declared.verdict.Judgement.{Judgement}
use Rattle.pv_report.specs.declared.verdict.Verdict.{Verdict}
use Rattle.pv_report.specs.declared.verdict.Verdict.TheVariants as verdict
use Rattle.pv_report.specs.Options.{Options, options_of}
use Rattle.pv_report.specs.Verdicts.{Finds, FindsCleared, FindsEqual}
use Rattle.pv_report.specs.Judging.{IsFoundBy, IsLeastOfSome, IsLeastOnPlaces, IsVerdictBy, IsVerdictOnPlaces, said_of}
use Rattle.pv_report.specs.Proving.{IsProvedBy}
use Rattle.pv_report.proofs.Places.{slice_at}

-- ---- the least graph of two methods at their places

pub some_least : (first second : ClassFile) (k j : ℕ) (l : Rooted) → k < length first.methods → j < length second.methods → IsLeastOnPlaces first k second j (Ok l) → IsLeastOfSome l
some_least first second k j l lt low h =
    let m = slice_at first.methods k lt in
    let p = slice_at second.methods j low in
    let have = h m.0 p.0 m.1 p.1 in
    (have.roots.graph, have.roots.root, have.roots.other, have.least)

-- it is one as a search takes it
pub least_graph : (l : Rooted) → IsLeastOfSome l → IsLeastGraph l.graph
least_graph l (g, a, b, is) = record {
  made = is.made;
  distinct = bases_are_made.distinct l.graph.nodes is.least.distinct;
  sealed = is.sealed;
  base = is.base;
}

-- the verdict by it is that on the methods
pub on_places : (options : Options) (first second : ClassFile) (k j : ℕ) (l : Rooted) (r : Result Judgement Memory) → IsLeastOnPlaces first k second j (Ok l) → IfOk r (λ f. IsVerdictBy options l f.verdict) → IfOk r (λ f. IsVerdictOnPlaces options first k second j f.verdict)
on_places options first second k j l (Ok f) h by = λ m p here there. by first m second p (h m p here there)
on_places options first second k j l (Err e) h by = tt

-- the roots are nodes of it
pub roots_within : (l : Rooted) → IsLeastOfSome l → (l.first < length l.graph.nodes) × (l.second < length l.graph.nodes)
roots_within l (g, a, b, is) = let w = least_within is.least in (w.first, w.second)

-- a cleared graph is the least graph of two nodes
pub cleared_some : (l m : Rooted) → IsCleared l m → IsLeastOfSome m
cleared_some l m (counted, h, are, clearing, least) = (h, l.first, l.second, least)

-- ---- what a search finds

pub found_said : (limits : Limits) (l : Rooted) (outcome : Outcome) → Finds limits (verdict_of outcome) l → MetAreSame l outcome → IsFoundBy limits l (said_of (verdict_of outcome))
found_said limits l outcome found same = record { found = verdict_of outcome; said = refl; finds = found; same = met outcome same }
  where
    met : (o : Outcome) → MetAreSame l o → said_of (verdict_of o) ≡ verdict.Equivalent → Same l.graph l.first l.second
    met (Met k) s e = s k refl
    met (Budget k) s e = absurd (cc e)
    met Apart s e = absurd (cc e)
    met (Rounds n) s e = absurd (cc e)

-- where the roots are one node it finds under all limits that they are equal, and they have the same values
pub one_said : (limits : Limits) (l : Rooted) (ends : List ℕ) → OneRootEqual → AreEndingsOf l.graph l.first ends → l.first < length l.graph.nodes → l.first ≡ l.second → IsFoundBy limits l verdict.Equivalent
one_said limits l ends law are low one = record {
  found = search.equivalent;
  said = refl;
  finds = law (question l limits) ends (record { are = are.are; ordered = are.ordered }) low one;
  same = λ e. subst (λ (n : ℕ). Same l.graph l.first n) one itself;
}
  where
    itself : Same l.graph l.first l.first
    itself w x world input i v = (λ e. e, λ e. e)

equal_said : (v : search.Verdict) → said_of v ≡ verdict.Equivalent → v ≡ search.equivalent
equal_said search.equivalent e = refl
equal_said search.apart e = absurd (cc e)
equal_said (search.rounds n) e = absurd (cc e)
equal_said (search.budget k) e = absurd (cc e)

-- a search finds one thing of the roots of a least graph
one_found : (limits : Limits) (l : Rooted) (v w : search.Verdict) → Finds limits v l → Finds limits w l → v ≡ w
one_found limits l v w a b = verdict_by_nodes l l limits v w refl refl refl a b

-- ---- in the cleared graph

-- it finds the roots equal there exactly where it says so of one cleared graph
pub found_cleared : (limits : Limits) (l m : Rooted) (v : Verdict) → IsCleared l m → IsFoundBy limits m v → (v ≡ verdict.Equivalent) ↔ FindsCleared LeastOrCleared limits l
found_cleared limits l m v cleared by = (there, back)
  where
    there : v ≡ verdict.Equivalent → FindsCleared LeastOrCleared limits l
    there e = (m, cleared, subst (λ (w : search.Verdict). Finds limits w m) (equal_said by.found (sym by.said ∙ e)) by.finds)

    back : FindsCleared LeastOrCleared limits l → v ≡ verdict.Equivalent
    back (n, other, equal) =
        let one = cleared_once l l m n (record { graph = refl; first = refl; second = refl }) cleared other in
        by.said ∙ ap said_of (verdict_by_nodes m n limits by.found search.equivalent one.0 one.1 one.2 by.finds equal)

-- .. and then they have the same values in the least graph
pub cleared_same : (l m : Rooted) → RootsKeep l m → Same m.graph m.first m.second → Same l.graph l.first l.second
cleared_same l m keeps same w x world input i v =
    let one = keeps.first w x i v world input in
    let two = keeps.second w x i v world input in
    let both = same w x world input i v in
    (λ e. two.0 (both.0 (one.1 e)), λ e. one.0 (both.1 (two.1 e)))

-- where the detail isn't a search in both graphs it finds nothing there
pub not_cleared : (limits : Limits) (l : Rooted) (d : Detail) → (d ≡ detail.Verdict LeastOrCleared → ⊥) → FindsCleared (options_of limits d).graphs limits l → ⊥
not_cleared limits l (detail.Verdict Least) other h = h
not_cleared limits l (detail.Verdict LeastOrCleared) other h = other refl
not_cleared limits l detail.Steps other h = h

-- .. and where it is one, what it finds
pub in_cleared : (limits : Limits) (l : Rooted) (d : Detail) → d ≡ detail.Verdict LeastOrCleared → FindsCleared (options_of limits d).graphs limits l → FindsCleared LeastOrCleared limits l
in_cleared limits l d e found = subst (λ (x : Detail). FindsCleared (options_of limits x).graphs limits l) e found

limits_of : (limits : Limits) (d : Detail) → (options_of limits d).limits ≡ limits
limits_of limits (detail.Verdict graphs) = refl
limits_of limits detail.Steps = refl

-- ---- the verdict

-- a search that finds something else in the least graph, and nothing in the cleared one, doesn't find the roots equal
not_equal : (options : Options) (l : Rooted) (v : search.Verdict) → Finds options.limits v l → (said_of v ≡ verdict.Equivalent) ⊎ (FindsCleared options.graphs options.limits l → ⊥) → (said_of v ≡ verdict.Equivalent → ⊥) → FindsEqual options l → ⊥
not_equal options l v finds less other (inl equal) = other (ap said_of (one_found options.limits l v search.equivalent finds equal))
not_equal options l v finds less other (inr cleared) = elim less [
  | inl e ↦ other e
  | inr none ↦ none cleared
]

-- what is said of the least graph is the verdict, where that is `equivalent` or nothing more is found in the cleared graph
said_verdict : (options : Options) (l : Rooted) (found : search.Verdict) → Finds options.limits found l → (said_of found ≡ verdict.Equivalent → Same l.graph l.first l.second)
    → (said_of found ≡ verdict.Equivalent) ⊎ (FindsCleared options.graphs options.limits l → ⊥) → IsVerdictBy options l (said_of found)
said_verdict options l search.equivalent finds same less first m second p h = (l, h, (inl finds, same refl))
said_verdict options l search.apart finds same less first m second p h = (l, h, (not_equal options l search.apart finds less (λ e. cc e), finds))
said_verdict options l (search.rounds n) finds same less first m second p h = (l, h, (not_equal options l (search.rounds n) finds less (λ e. cc e), finds))
said_verdict options l (search.budget k) finds same less first m second p h = (l, h, (not_equal options l (search.budget k) finds less (λ e. cc e), finds))

pub found_verdict : (limits : Limits) (d : Detail) (l : Rooted) (v : Verdict) → IsFoundBy limits l v → (v ≡ verdict.Equivalent) ⊎ (FindsCleared (options_of limits d).graphs limits l → ⊥) → IsVerdictBy (options_of limits d) l v
found_verdict limits d l v by less =
    let options = options_of limits d in
    let same = sym (limits_of limits d) in
    let finds = subst (λ (x : Limits). Finds x by.found l) same by.finds in
    let more : (said_of by.found ≡ verdict.Equivalent) ⊎ (FindsCleared options.graphs options.limits l → ⊥) = elim less [
      | inl e ↦ inl (sym by.said ∙ e)
      | inr none ↦ inr (subst (λ (x : Limits). FindsCleared options.graphs x l → ⊥) same none)
    ] in
    subst (IsVerdictBy options l) (sym by.said) (said_verdict options l by.found finds (λ e. by.same (by.said ∙ e)) more)

-- where the roots are found equal in the cleared graph it is `equivalent`
pub cleared_verdict : (limits : Limits) (d : Detail) (l : Rooted) → d ≡ detail.Verdict LeastOrCleared → FindsCleared LeastOrCleared limits l → Same l.graph l.first l.second → IsVerdictBy (options_of limits d) l verdict.Equivalent
cleared_verdict limits (detail.Verdict LeastOrCleared) l e found same = λ first m second p h. (l, h, (inr found, same))
cleared_verdict limits (detail.Verdict Least) l e found same = absurd (cc e)
cleared_verdict limits detail.Steps l e found same = absurd (cc e)

-- .. and takes no steps
pub cleared_steps : (d : Detail) (l : Rooted) (f : Judgement) → d ≡ detail.Verdict LeastOrCleared → f.steps ≡ None → IsProvedBy d l f
cleared_steps (detail.Verdict graphs) l f e none = none
cleared_steps detail.Steps l f e none = absurd (cc e)
