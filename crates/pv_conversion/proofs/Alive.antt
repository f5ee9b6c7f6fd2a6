-- Where a run has come to a block on its way to a goal, the token's tree from there gives something.
use Rattle.std.proofs.Common.{◌≡◌, ℕ, ◌<◌, true, false, pos, arith, List, [], ◌∷◌, ◌++◌, length, Some, inl, inr, refl, sym, ap, ◌∙◌, subst, subst₂, append-nil, append_assoc}
use Rattle.pv_conversion.proofs.Words.{World, Input, Val, Index, at_depth, truth, Exp, Over, NoExp, one, Dest, To, End, Exit, InChain, Flow, Shape, Target, Back, Finish, Leaving, Place, On, Again, Header, Gone, Ended, Seen, Values, OfToken, IsTree, tree_of, never_exp, true_exp, false_exp, AreEquations, Boundary, Further, IsGoal, Later, OutWalk, Outside, Walk, about, exit_out, go, node_out, out_walk, seen_heads, seen_to, stop, walk_around, walk_then, walk_widen, Meaning}
use Rattle.pv_value.specs.declared.outcome.Val.TheVariants as vals
use Rattle.pv_value.specs.declared.number.Num.TheVariants as num
use Rattle.pv_graph.specs.declared.node.Op.TheVariants as op
use Rattle.pv_conversion.proofs.Follow.{some_inj, given_is, AgreesTo}
use Rattle.pv_conversion.proofs.Leaves.{const_is, Leafs, tree_leaf, SomeAt, some_exit, some_walk}
use Rattle.pv_conversion.proofs.Aims.{EndsAt, PassIs, Chained, chain_snoc, Placed, far}

-- a widened walk's blocks
pub walk_widen_all : (f : Flow) (rank : ℕ → ℕ) (shape : Shape f rank) (F Q K : List ℕ) (b : ℕ) (H : List ℕ) (n : ℕ) → Walk f (F ++ Q) K b H n → f.around b ≡ K ++ (F ++ Q) → Walk f Q (K ++ F) b (H ++ F) n
walk_widen_all f rank shape [] Q K b H n walk a = subst₂ (λ (K H : List ℕ). Walk f Q K b H n) (sym (append-nil K)) (sym (append-nil H)) walk
walk_widen_all f rank shape (h ∷ F) Q K b H n walk a =
    subst₂ (λ (K H : List ℕ). Walk f Q K b H n) (append_assoc K (h ∷ []) F) (append_assoc H (h ∷ []) F)
    (walk_widen_all f rank shape F Q (K ++ h ∷ []) b (H ++ h ∷ []) n (walk_widen f rank shape (F ++ Q) h K b H n walk a) (a ∙ sym (append_assoc K (h ∷ []) (F ++ Q))))

pub goal_token : (Q : List ℕ) (T : Target) → IsGoal Q T → OfToken T 0
goal_token [] Finish g = tt
goal_token (q ∷ B) Back g = tt
goal_token Q T g = absurd g

pub goal_later : (Q : List ℕ) (T : Target) → IsGoal Q T → (rank : ℕ → ℕ) (m : ℕ) → Later rank T m
goal_later [] Finish g rank m = tt
goal_later (q ∷ B) Back g rank m = tt
goal_later Q T g rank m = absurd g

module _ (w : World) (x : Input) (V : Exp → Index → Val → Type 0) (f : Flow) (v : Values) (rank : ℕ → ℕ) (mean : Meaning w x V f v) (eqs : AreEquations f v) (shape : Shape f rank)
    (top : ℕ) (below_top : (b : ℕ) → rank b < top) where
  -- the loop of the region isn't left in this iteration
  abbrev pub NotNow : List ℕ → Index → Type 0
  NotNow [] j = Unit {0}
  NotNow (q ∷ B) j = (u : Val) × V (v.ending q) j u × (truth u ≡ Some false)

  pub pass_yes : (h : ℕ) (B : List ℕ) (i : Index) (n : ℕ) → PassIs w x V f v rank mean eqs shape top below_top h B i n → (u : Val) × V (v.ending h) (at_depth i (length (h ∷ B)) n) u × (truth u ≡ Some true)
  pass_yes h B i n p =
      let m = mean.says (op.Pass (length (h ∷ B))) (one (v.ending h)) i (vals.Count n) p in
      let same : m.k ≡ n = (let z = m.count in cc) in
      subst (λ (n : ℕ). (u : Val) × V (v.ending h) (at_depth i (length (h ∷ B)) n) u × (truth u ≡ Some true)) same m.ends

  pub pass_no : (h : ℕ) (B : List ℕ) (i : Index) (n l : ℕ) → PassIs w x V f v rank mean eqs shape top below_top h B i n → l < n → (u : Val) × V (v.ending h) (at_depth i (length (h ∷ B)) l) u × (truth u ≡ Some false)
  pass_no h B i n l p less =
      let m = mean.says (op.Pass (length (h ∷ B))) (one (v.ending h)) i (vals.Count n) p in
      let same : m.k ≡ n = (let z = m.count in cc) in
      m.goes_on l (omega arith) (subst (λ (n : ℕ). l < n) (sym same) less)

  part_is : (n : ℕ) (j : Index) (u : Val) → V (Over (op.Int (pos n)) NoExp) j u → u ≡ vals.Num (num.Int (pos n))
  part_is n j u h = let m = mean.says (op.Int (pos n)) NoExp j u h in const_is w x n m.0 u m.2

  pub yes_true : (j : Index) (u : Val) → V true_exp j u → truth u ≡ Some false → ⊥
  yes_true j u h t = let z = part_is 1 j u h in let y : truth (vals.Num (num.Int (pos 1))) ≡ Some false = subst (λ (u : Val). truth u ≡ Some false) z t in absurd (cc)

  pub no_false : (j : Index) (u : Val) → V false_exp j u → truth u ≡ Some true → ⊥
  no_false j u h t = let z = part_is 0 j u h in let y : truth (vals.Num (num.Int (pos 0))) ≡ Some true = subst (λ (u : Val). truth u ≡ Some true) z t in absurd (cc)

  -- the ending of the region's loop, seen from the place to which the run has come
  ending_leaf : (h : ℕ) (B K : List ℕ) (m : ℕ) (j : Index) (u : Val) → f.around h ≡ h ∷ B → f.around m ≡ K ++ h ∷ B → V (v.ending h) j u
      → EndsAt w x V f v rank mean eqs shape top below_top j (tree_of f v (h ∷ B) Leaving 0) (v.tree (h ∷ B) Leaving 0 K m) → SomeAt w x V f v rank mean eqs shape top below_top (h ∷ B) Leaving 0 K m → Leafs w x V f v rank mean eqs shape top below_top (h ∷ B) Leaving 0 K m j u
  ending_leaf h B K m j u ah am val end some =
      let o = end some.0 some.1 in
      tree_leaf w x V f v rank mean eqs shape top below_top (h ∷ B) Leaving 0 K m j u some.0 am some.1 ((o.2 u).0 (subst (λ (y : Exp). V y j u) (given_is _ _ o.0 (eqs.endings h B ah) o.1) val))

  leaving_some : (R K : List ℕ) (m : ℕ) → f.around m ≡ K ++ R → OutWalk f R K m → SomeAt w x V f v rank mean eqs shape top below_top R Leaving 0 K m
  leaving_some R K m am (H, n, e, p, walk, ch, seen, bound) = some_walk w x V f v rank mean eqs shape top below_top R Leaving 0 K m H n walk am (exit p seen bound)
    where
      an : f.around n ≡ H ++ R
      an = walk_around f rank shape R K m H n walk am

      exit : (p : Place) → Seen f R H e.dest p → Boundary p → SomeAt w x V f v rank mean eqs shape top below_top R Leaving 0 H n
      exit Header s b = some_exit w x V f v rank mean eqs shape top below_top R Leaving 0 H n e Header an ch s (λ r z. (_, z))
      exit Gone s b = some_exit w x V f v rank mean eqs shape top below_top R Leaving 0 H n e Gone an ch s (λ r z. (_, z))
      exit (Ended k) s b = some_exit w x V f v rank mean eqs shape top below_top R Leaving 0 H n e (Ended k) an ch s (λ r z. (_, z))
      exit (On G m) s b = absurd b
      exit Again s b = absurd b

  gone_none : (H : List ℕ) (n : ℕ) (e : Exit) → f.around n ≡ H ++ [] → InChain (f.chain n) e → Seen f [] H e.dest Gone → ⊥
  gone_none H n e an ch seen = go' e.dest refl
    where
      go' : (d : Dest) → e.dest ≡ d → ⊥
      go' (To m) d = about f rank shape [] H n m e Gone an ch d seen (f.around m) (sym (append-nil (f.around m)))
      go' (End k) d = let z : Seen f [] H (End k) Gone = subst (λ (d : Dest). Seen f [] H d Gone) d seen in absurd (cc)

  -- at a goal's own region
  goal_some : (Q : List ℕ) (T : Target) → IsGoal Q T → (K : List ℕ) (m : ℕ) (j : Index) → f.around m ≡ K ++ Q → NotNow Q j → ((t : Target) (s : ℕ) → Later rank t m → EndsAt w x V f v rank mean eqs shape top below_top j (tree_of f v Q t s) (v.tree Q t s K m)) → OutWalk f Q K m → SomeAt w x V f v rank mean eqs shape top below_top Q T 0 K m
  goal_some [] Finish goal K m j am notnow fol (H, n, e, p, walk, ch, seen, bound) = some_walk w x V f v rank mean eqs shape top below_top [] Finish 0 K m H n walk am (exit p seen bound)
    where
      an : f.around n ≡ H ++ []
      an = walk_around f rank shape [] K m H n walk am

      exit : (p : Place) → Seen f [] H e.dest p → Boundary p → SomeAt w x V f v rank mean eqs shape top below_top [] Finish 0 H n
      exit (Ended k) s b = some_exit w x V f v rank mean eqs shape top below_top [] Finish 0 H n e (Ended k) an ch s (λ r z. (_, z))
      exit Header s b = let o = seen_heads f [] H e.dest s in absurd (let z = o.2.1 in cc)
      exit Gone s b = absurd (gone_none H n e an ch s)
      exit (On G m) s b = absurd b
      exit Again s b = absurd b
  goal_some (q ∷ B) Back goal K m j am notnow fol (H, n, e, p, walk, ch, seen, bound) = exit p seen bound
    where
      back : (H : List ℕ) (n : ℕ) (e : Exit) → Walk f (q ∷ B) K m H n → InChain (f.chain n) e → Seen f (q ∷ B) H e.dest Header → SomeAt w x V f v rank mean eqs shape top below_top (q ∷ B) Back 0 K m
      back H n e walk ch s = some_walk w x V f v rank mean eqs shape top below_top (q ∷ B) Back 0 K m H n walk am (some_exit w x V f v rank mean eqs shape top below_top (q ∷ B) Back 0 H n e Header (walk_around f rank shape (q ∷ B) K m H n walk am) ch s (λ r z. (_, z)))

      other : SomeAt w x V f v rank mean eqs shape top below_top (q ∷ B) Leaving 0 K m → SomeAt w x V f v rank mean eqs shape top below_top (q ∷ B) Back 0 K m
      other some = leaf (ending_leaf q B K m j notnow.0 (shape.headers m q K B am).0 am notnow.1 (fol Leaving 0 tt) some)
        where
          leaf : Leafs w x V f v rank mean eqs shape top below_top (q ∷ B) Leaving 0 K m j notnow.0 → SomeAt w x V f v rank mean eqs shape top below_top (q ∷ B) Back 0 K m
          leaf (H, n, e, Header, z, walk, ch, s, stops, at', val) = back H n e walk ch s
          leaf (H, n, e, Gone, z, walk, ch, s, stops, at', val) = absurd (yes_true j notnow.0 (subst (λ (z : Exp). V z j notnow.0) (some_inj _ _ at') val) notnow.2)
          leaf (H, n, e, Ended k, z, walk, ch, s, stops, at', val) = absurd (yes_true j notnow.0 (subst (λ (z : Exp). V z j notnow.0) (some_inj _ _ at') val) notnow.2)
          leaf (H, n, e, On G l, z, walk, ch, s, stops, at', val) = absurd stops
          leaf (H, n, e, Again, z, walk, ch, s, stops, at', val) = absurd stops

      an : f.around n ≡ H ++ q ∷ B
      an = walk_around f rank shape (q ∷ B) K m H n walk am

      exit : (p : Place) → Seen f (q ∷ B) H e.dest p → Boundary p → SomeAt w x V f v rank mean eqs shape top below_top (q ∷ B) Back 0 K m
      exit Header s b = back H n e walk ch s
      exit Gone s b = other (leaving_some (q ∷ B) K m am (H, n, e, Gone, walk, ch, s, tt))
      exit (Ended k) s b = other (leaving_some (q ∷ B) K m am (H, n, e, Ended k, walk, ch, s, tt))
      exit (On G m) s b = absurd b
      exit Again s b = absurd b
  goal_some Q T goal K m j am notnow fol o = absurd goal

  -- the run is at m in the last iteration of the loops F of the goal's region, and a walk leads on: the goal's tree gives something
  pub alive : (E F Q : List ℕ) (T : Target) → IsGoal Q T → (P : List ℕ) (m : ℕ) (i jQ jF j : Index) → Placed w x V f v rank mean eqs shape top below_top i (E ++ (F ++ Q)) P m → AgreesTo (length (E ++ (F ++ Q))) i j → Chained w x V f v rank mean eqs shape top below_top E (F ++ Q) jF j → Chained w x V f v rank mean eqs shape top below_top F Q jQ jF
      → NotNow Q jQ → OutWalk f (F ++ Q) (P ++ E) m → SomeAt w x V f v rank mean eqs shape top below_top Q T 0 ((P ++ E) ++ F) m
  alive E [] Q T goal P m i jQ jF j placed g che ch notnow out =
      subst (λ (K : List ℕ). SomeAt w x V f v rank mean eqs shape top below_top Q T 0 K m) (sym (append-nil (P ++ E)))
      (goal_some Q T goal (P ++ E) m jQ (placed.0 ∙ sym (append_assoc P E Q)) notnow
      (subst (λ (j : Index). (t : Target) (s : ℕ) → Later rank t m → EndsAt w x V f v rank mean eqs shape top below_top j (tree_of f v Q t s) (v.tree Q t s (P ++ E) m)) (sym ch) (λ t s l. far w x V f v rank mean eqs shape top below_top E Q P m i jF j placed g che t s l)) out)
  alive E (h ∷ F) Q T goal P m i jQ jF j placed g che ch notnow out =
      leaf (ending_leaf h (F ++ Q) (P ++ E) m jF yes'.0 (shape.headers m h (P ++ E) (F ++ Q) am).0 am yes'.1 (far w x V f v rank mean eqs shape top below_top E (h ∷ (F ++ Q)) P m i jF j placed g che Leaving 0 tt) (leaving_some (h ∷ (F ++ Q)) (P ++ E) m am out))
      (λ o. subst (λ (K : List ℕ). SomeAt w x V f v rank mean eqs shape top below_top Q T 0 K m) same (alive (E ++ h ∷ []) F Q T goal P m i jQ ch.0 j placed' g' che' ch.2 notnow (subst (λ (K : List ℕ). OutWalk f (F ++ Q) K m) (append_assoc P E (h ∷ [])) o)))
    where
      am : f.around m ≡ (P ++ E) ++ h ∷ (F ++ Q)
      am = placed.0 ∙ sym (append_assoc P E (h ∷ (F ++ Q)))

      am' : f.around m ≡ ((P ++ E) ++ h ∷ []) ++ (F ++ Q)
      am' = am ∙ sym (append_assoc (P ++ E) (h ∷ []) (F ++ Q))

      yes' : (u : Val) × V (v.ending h) jF u × (truth u ≡ Some true)
      yes' = subst (λ (j : Index). (u : Val) × V (v.ending h) j u × (truth u ≡ Some true)) (sym ch.4) (pass_yes h (F ++ Q) ch.0 ch.1 ch.3)

      A' : (E ++ h ∷ []) ++ (F ++ Q) ≡ E ++ (h ∷ (F ++ Q))
      A' = append_assoc E (h ∷ []) (F ++ Q)

      same : (P ++ (E ++ h ∷ [])) ++ F ≡ (P ++ E) ++ (h ∷ F)
      same = ap (λ (K : List ℕ). K ++ F) (sym (append_assoc P E (h ∷ []))) ∙ append_assoc (P ++ E) (h ∷ []) F

      placed' : Placed w x V f v rank mean eqs shape top below_top i ((E ++ h ∷ []) ++ (F ++ Q)) P m
      placed' = subst (λ (A : List ℕ). Placed w x V f v rank mean eqs shape top below_top i A P m) (sym A') placed

      g' : AgreesTo (length ((E ++ h ∷ []) ++ (F ++ Q))) i j
      g' = subst (λ (A : List ℕ). AgreesTo (length A) i j) (sym A') g

      che' : Chained w x V f v rank mean eqs shape top below_top (E ++ h ∷ []) (F ++ Q) ch.0 j
      che' = chain_snoc w x V f v rank mean eqs shape top below_top E h (F ++ Q) ch.0 jF j ch.1 ch.3 ch.4 che

      -- the loop h is left: further out
      left : (H : List ℕ) (n : ℕ) (e : Exit) (p : Place) → Walk f (h ∷ (F ++ Q)) (P ++ E) m H n → InChain (f.chain n) e → Seen f (h ∷ (F ++ Q)) H e.dest p → Outside p
          → (OutWalk f (F ++ Q) ((P ++ E) ++ h ∷ []) m → SomeAt w x V f v rank mean eqs shape top below_top Q T 0 ((P ++ E) ++ (h ∷ F)) m) → SomeAt w x V f v rank mean eqs shape top below_top Q T 0 ((P ++ E) ++ (h ∷ F)) m
      left H n e p walk ch s outside ih =
          let o = exit_out f rank shape (F ++ Q) h H n e p (walk_around f rank shape (h ∷ (F ++ Q)) (P ++ E) m H n walk am) ch s outside in
          comes o.0 o.1 o.2
        where
          wide : Walk f (F ++ Q) ((P ++ E) ++ h ∷ []) m (H ++ h ∷ []) n
          wide = walk_widen f rank shape (F ++ Q) h (P ++ E) m H n walk am

          comes : (p : Place) → Seen f (F ++ Q) (H ++ h ∷ []) e.dest p → Further p → SomeAt w x V f v rank mean eqs shape top below_top Q T 0 ((P ++ E) ++ (h ∷ F)) m
          comes Header s' z = ih (H ++ h ∷ [], n, e, Header, wide, ch, s', tt)
          comes Gone s' z = ih (H ++ h ∷ [], n, e, Gone, wide, ch, s', tt)
          comes (Ended k) s' z = ih (H ++ h ∷ [], n, e, Ended k, wide, ch, s', tt)
          comes Again s' z = absurd z
          comes (On G l) s' node = ahead (eqs.trees Q T 0 (G ++ F) l (al ∙ sym (append_assoc G F Q)))
            where
              al : f.around l ≡ G ++ (F ++ Q)
              al = (seen_to f (F ++ Q) (H ++ h ∷ []) e.dest G l s').1

              walk' : Walk f (F ++ Q) ((P ++ E) ++ h ∷ []) m G l
              walk' = walk_then f (F ++ Q) ((P ++ E) ++ h ∷ []) m (H ++ h ∷ []) n G l wide (go (H ++ h ∷ []) n e G l G l ch s' (stop G l))

              ahead : IsTree f v Q T 0 (G ++ F) l (v.tree Q T 0 (G ++ F) l) → SomeAt w x V f v rank mean eqs shape top below_top Q T 0 ((P ++ E) ++ (h ∷ F)) m
              ahead (inl y) =
                  subst (λ (K : List ℕ). SomeAt w x V f v rank mean eqs shape top below_top Q T 0 K m) (append_assoc (P ++ E) (h ∷ []) F)
                  (some_walk w x V f v rank mean eqs shape top below_top Q T 0 (((P ++ E) ++ h ∷ []) ++ F) m (G ++ F) l (walk_widen_all f rank shape F Q ((P ++ E) ++ h ∷ []) m G l walk' am') (am' ∙ sym (append_assoc ((P ++ E) ++ h ∷ []) F Q)) (never_exp, y.2))
              ahead (inr y) = ih (out_walk f rank shape (F ++ Q) ((P ++ E) ++ h ∷ []) m G l walk' (node_out f rank shape Q T goal l (y.0 (goal_token Q T goal)) F (F ++ Q) G refl al node))

      leaf : Leafs w x V f v rank mean eqs shape top below_top (h ∷ (F ++ Q)) Leaving 0 (P ++ E) m jF yes'.0 → (OutWalk f (F ++ Q) ((P ++ E) ++ h ∷ []) m → SomeAt w x V f v rank mean eqs shape top below_top Q T 0 ((P ++ E) ++ (h ∷ F)) m) → SomeAt w x V f v rank mean eqs shape top below_top Q T 0 ((P ++ E) ++ (h ∷ F)) m
      leaf (H, n, e, Header, z, walk, c, s, stops, at', val) ih = absurd (no_false jF yes'.0 (subst (λ (z : Exp). V z jF yes'.0) (some_inj _ _ at') val) yes'.2)
      leaf (H, n, e, Gone, z, walk, c, s, stops, at', val) ih = left H n e Gone walk c s tt ih
      leaf (H, n, e, Ended k, z, walk, c, s, stops, at', val) ih = left H n e (Ended k) walk c s tt ih
      leaf (H, n, e, On G l, z, walk, c, s, stops, at', val) ih = absurd stops
      leaf (H, n, e, Again, z, walk, c, s, stops, at', val) ih = absurd stops
