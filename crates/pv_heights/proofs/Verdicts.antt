-- What the search answers is the verdict.
use Rattle.std.proofs.Common.{◌≡◌, ℕ, zero, suc, ◌<◌, ◌≤◌, List, [], ◌∷◌, length, Some, ◌⊎◌, ◌↔◌, inl, inr, refl, ap, subst, arith}
use Rattle.pv_value.specs.Spelled.{bind}
use Rattle.pv_graph.specs.declared.node.Op.TheVariants as op
use Rattle.pv_graph.specs.Walks.{In}
use Rattle.pv_graph.specs.Graphs.{form_of, IsGraph}
use Rattle.pv_steps.specs.Right.{RootKids}
use Rattle.pv_heights.specs.Systems.{same}
use Rattle.pv_heights.specs.Matches.{AtLeast, IsSaturated}
use Rattle.pv_heights.specs.Terms.{base, terms}
use Rattle.pv_heights.specs.Heights.{height, IsBase}
use Rattle.pv_heights.specs.Searches.{IsWhole, OneClass, SearchAt, HasAtLeast, IsSaturatedSearch, TwoSearches, SeesOver, SeesMeet, SeesSaturated, SeesNothing, UndecidedBefore, first, next, Answers, met, over, saturated, ended}
use Rattle.pv_heights.specs.Verdicts.{Question, view_of, AreEndings, plain, ending, IsOverBudget, Meets, AreSaturated, Decides, Verdict, equivalent, IsVerdictWith, IsVerdict}
use Rattle.pv_heights.proofs.Nodes.{node_is_base, graph_whole}
use Rattle.pv_heights.proofs.Reached.{exact_joined, exact_count, exact_saturated}

module _ (q : Question) (ends : List ℕ) (whole : IsWhole (view_of q)) (r1 : IsBase (view_of q) q.first) (r2 : IsBase (view_of q) q.second) where
  counts : (assumed : List ℕ) (k : ℕ) (s : SearchAt q assumed k) (n : ℕ)
      → AtLeast (view_of q) assumed q.table (terms (view_of q)) (height (view_of q) assumed q.table k).Member (height (view_of q) assumed q.table k).Joins n ↔ HasAtLeast q assumed k s n
  counts assumed k s n = exact_count q.graph whole assumed q.table k s.graph s.numbers s.reached n

  joins : (assumed : List ℕ) (k : ℕ) (s : SearchAt q assumed k) (a b : ℕ) → IsBase (view_of q) a → IsBase (view_of q) b → (height (view_of q) assumed q.table k).Joins (base a) (base b) ↔ OneClass s.numbers a b
  joins assumed k s a b = exact_joined q.graph whole assumed q.table k s.graph s.numbers s.reached a b

  saturations : (assumed : List ℕ) (k : ℕ) (s : SearchAt q assumed k)
      → IsSaturated (view_of q) assumed q.table (terms (view_of q)) (height (view_of q) assumed q.table k).Member (height (view_of q) assumed q.table k).Joins ↔ IsSaturatedSearch q assumed k s
  saturations assumed k s = exact_saturated q.graph whole assumed q.table k s.graph s.numbers s.reached

  sees_over : (k : ℕ) (b : TwoSearches q ends k) → IsOverBudget q ends k ↔ SeesOver q ends k b
  sees_over k b = (there, back)
    where
      there : IsOverBudget q ends k → SeesOver q ends k b
      there (inl h) = inl ((counts [] k b.plain (suc q.budget)).0 h)
      there (inr h) = inr ((counts ends k b.ending (suc q.budget)).0 h)

      back : SeesOver q ends k b → IsOverBudget q ends k
      back (inl h) = inl ((counts [] k b.plain (suc q.budget)).1 h)
      back (inr h) = inr ((counts ends k b.ending (suc q.budget)).1 h)

  -- a kid of a root is a node
  root_kid : (p m : ℕ) (r : RootKids q.graph p) → In (r.token ∷ r.fault_ ∷ r.result ∷ r.heap ∷ []) m → IsBase (view_of q) m
  root_kid p m r i = whole p m op.Root (r.token ∷ r.fault_ ∷ r.result ∷ r.heap ∷ []) (ap (λ f. bind f (λ n. Some (form_of n))) r.is) i

  module _ (left : RootKids q.graph q.first) (right : RootKids q.graph q.second) where
    tokens : (k : ℕ) (s : SearchAt q [] k) → (plain q k).Joins (base left.token) (base right.token) ↔ OneClass s.numbers left.token right.token
    tokens k s = joins [] k s left.token right.token (root_kid q.first left.token left (inl refl)) (root_kid q.second right.token right (inl refl))

    faults : (k : ℕ) (s : SearchAt q ends k) → (ending q ends k).Joins (base left.fault_) (base right.fault_) ↔ OneClass s.numbers left.fault_ right.fault_
    faults k s = joins ends k s left.fault_ right.fault_ (root_kid q.first left.fault_ left (inr (inl refl))) (root_kid q.second right.fault_ right (inr (inl refl)))

    results : (k : ℕ) (s : SearchAt q ends k) → (ending q ends k).Joins (base left.result) (base right.result) ↔ OneClass s.numbers left.result right.result
    results k s = joins ends k s left.result right.result (root_kid q.first left.result left (inr (inr (inl refl)))) (root_kid q.second right.result right (inr (inr (inl refl))))

    heaps : (k : ℕ) (s : SearchAt q ends k) → (ending q ends k).Joins (base left.heap) (base right.heap) ↔ OneClass s.numbers left.heap right.heap
    heaps k s = joins ends k s left.heap right.heap (root_kid q.first left.heap left (inr (inr (inr (inl refl))))) (root_kid q.second right.heap right (inr (inr (inr (inl refl)))))

  sees_meet : (k : ℕ) (b : TwoSearches q ends k) → Meets q ends k ↔ SeesMeet q ends k b
  sees_meet k b = (there, back)
    where
      there : Meets q ends k → SeesMeet q ends k b
      there (inl h) = inl ((joins [] k b.plain q.first q.second r1 r2).0 h)
      there (inr h) = inr (record {
        left = h.left;
        right = h.right;
        tokens = (tokens h.left h.right k b.plain).0 h.tokens;
        faults = (faults h.left h.right k b.ending).0 h.faults;
        results = (results h.left h.right k b.ending).0 h.results;
        heaps = (heaps h.left h.right k b.ending).0 h.heaps;
      })

      back : SeesMeet q ends k b → Meets q ends k
      back (inl h) = inl ((joins [] k b.plain q.first q.second r1 r2).1 h)
      back (inr h) = inr (record {
        left = h.left;
        right = h.right;
        tokens = (tokens h.left h.right k b.plain).1 h.tokens;
        faults = (faults h.left h.right k b.ending).1 h.faults;
        results = (results h.left h.right k b.ending).1 h.results;
        heaps = (heaps h.left h.right k b.ending).1 h.heaps;
      })

  sees_saturated : (k : ℕ) (b : TwoSearches q ends k) → AreSaturated q ends k ↔ SeesSaturated q ends k b
  sees_saturated k b = ((λ h. ((saturations [] k b.plain).0 h.0, (saturations ends k b.ending).0 h.1)), (λ h. ((saturations [] k b.plain).1 h.0, (saturations ends k b.ending).1 h.1)))

  undecided : (k : ℕ) (b : TwoSearches q ends k) → SeesNothing q ends k b → Decides q ends k → ⊥
  undecided k b n (inl h) = n.not_over ((sees_over k b).0 h)
  undecided k b n (inr (inl h)) = n.not_met ((sees_meet k b).0 h)
  undecided k b n (inr (inr h)) = n.not_saturated ((sees_saturated k b).0 h)

  -- none below i, and not i
  up_to : (i j : ℕ) → ((j : ℕ) → j < i → Decides q ends j → ⊥) → (Decides q ends i → ⊥) → j ≤ i → Decides q ends j → ⊥
  up_to i j p n l d = go order
    where
      order : (j < i) ⊎ (j ≡ i)
      order = grind arith

      go : (j < i) ⊎ (j ≡ i) → ⊥
      go (inl m) = p j m d
      go (inr e) = n (subst (Decides q ends) e d)

  below : (k : ℕ) (b : TwoSearches q ends k) → UndecidedBefore q ends k b → (j : ℕ) → j < k → Decides q ends j → ⊥
  below k b (first _) j l d = absurd (omega arith)
  below k b (next i c _ h n) j l d = up_to i j (λ m x e. below i c h m x e) (undecided i c n) (omega arith) d

  pub answers_right : (v : Verdict) → Answers q ends v → IsVerdictWith q ends v
  answers_right v (met k b l h m) = (k, record { within = l; decides = inr (inl ((sees_meet k b).1 m)); least = below k b h }, (sees_meet k b).1 m)
  answers_right v (over k b l h n m) = (record { within = l; decides = inl ((sees_over k b).1 m); least = below k b h }, (sees_over k b).1 m, (λ s. n ((sees_meet k b).0 s)))
  answers_right v (saturated k b l h n o m) =
      (k, record { within = l; decides = inr (inr ((sees_saturated k b).1 m)); least = below k b h }, (λ s. n ((sees_meet k b).0 s)), (λ s. o ((sees_over k b).0 s)))
  answers_right v (ended b h n) = (refl, λ k l d. up_to q.rounds k (below q.rounds b h) (undecided q.rounds b n) l d)

pub answers_are_verdicts : (q : Question) (ends : List ℕ) (v : Verdict) → IsGraph q.graph → q.first < length q.graph.nodes → q.second < length q.graph.nodes → AreEndings q ends → Answers q ends v → IsVerdict q v
answers_are_verdicts q ends v g l m e a = (ends, e, answers_right q ends (graph_whole q.graph g) (node_is_base q.graph q.first l) (node_is_base q.graph q.second m) v a)

-- roots that are one node meet at height 0
pub one_root_equal : (q : Question) (ends : List ℕ) → AreEndings q ends → q.first < length q.graph.nodes → q.first ≡ q.second → IsVerdict q equivalent
unfolding height
one_root_equal q ends e l s =
    let meet : Meets q ends zero = inl (subst (λ n. (plain q zero).Joins (base q.first) (base n)) s (same [] (base q.first) (q.first, node_is_base q.graph q.first l, refl))) in
    (ends, e, (zero, record { within = omega arith; decides = inr (inl meet); least = λ j m d. absurd (omega (arith, m)) }, meet))
