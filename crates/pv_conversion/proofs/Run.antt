-- Where the token's tree for the end has a value, the run ends.
use Rattle.std.proofs.Common.{◌≡◌, ◌≢◌, ℕ, zero, suc, ◌+◌, ◌<◌, ◌≤◌, Bool, true, false, if◌then◌else◌, List, [], ◌∷◌, ◌++◌, length, Option, Some, None, ◌⊎◌, inl, inr, ⊎_elim, refl, sym, ap, ◌∙◌, subst, subst₂, append-nil, append_assoc, length-append, arith, le_refl}
use Rattle.pv_conversion.proofs.Words.{AllZip, World, Input, Val, Index, at_depth, truth, Means, at_same, at_at, numbers, Exp, Over, NoExp, two, three, listed, Heads, Part, Parts, call_token, put, put_all, Kind, Dest, To, End, Exit, InChain, Flow, TokenPart, kept, calls, Shape, Chain, Leave, Test, PartIs, PartsAre, Chooses, Steps, Left, Ends, Fails, Waits, Runs, ends, goes, Starts, Runnable, Target, Node, Back, Finish, Leaving, Place, On, Again, Header, Gone, Ended, Seen, Joins, IsChain, IsExit, Values, outs, leaf, token_out, token_outs, AtPlace, IsTree, tree_of, never_exp, true_exp, false_exp, AreEquations, first_kid, Goes, IsGoal, IsNode, OutWalk, Walk, go, header_back, lands_header, move, node_out, on_rank, seen_to, snoc_same, stop, walk_around, walk_rank, Meaning}
use Rattle.pv_value.specs.declared.outcome.Val.TheVariants as vals
use Rattle.pv_graph.specs.declared.node.Op.TheVariants as op
use Rattle.pv_graph.specs.Ops as ops
use Rattle.pv_denote.specs.Denote.{strict}
use Rattle.pv_graph.proofs.Cited.{bind_some}
use Rattle.pv_value.specs.Worlds as worlds
use Rattle.pv_value.specs.declared.name.Sym.{Sym}
use Rattle.pv_equations.specs.Exp.{made}
use Rattle.pv_conversion.proofs.Follow.{some_inj, given_is, AgreesTo, put_value, put_all_values, Ends_chain, Follows, agrees_self, agrees_in, Here, chooses_in, goes_on, at_on, step_on, step_in, step_back, step_start}
use Rattle.pv_conversion.proofs.Leaves.{never_none, Stops, no_snoc, stops_or_on, SomeAt, chain_some, some_exit, some_walk, made_two, token_out_says, OfGoing, Evidence, Any, goal_leaf, goal_evidence}
use Rattle.pv_conversion.proofs.Aims.{EndsAt, Settled, settle, token_first, PassIs, Chained, chain_agree, chain_outs, Placed, far, peel}
use Rattle.pv_conversion.proofs.Alive.{goal_token, goal_later, NotNow, pass_no, pass_yes, yes_true, no_false, alive}

callend_done : (w : World) (x : Input) (s : Sym) (us : List Val) (z : Val) → strict w x (op.CallEnd s) us ≡ Some z → z ≡ vals.Unit
unfolding strict
callend_done w x s (vals.Heap h ∷ us) z e =
    let a = bind_some (numbers us) _ z e in
    let o = bind_some (worlds.reply w s h a.0) _ z a.2 in
    let y = o.2 in cc
callend_done w x s us z e = absurd (cc)

-- where a block waits no exit to a block has a token
going_none : (w : World) (x : Input) (σ : ℕ → Val) (c : Chain) → Waits w x σ c → (e : Exit) (m : ℕ) (z : Val) → InChain c e → e.dest ≡ To m → PartIs w x σ (e.slots 0) z → ⊥
going_none w x σ (Leave d) waits e m z inch to p = waits.1 z (subst (λ (e : Exit). PartIs w x σ (e.slots 0) z) (sym inch) p)
going_none w x σ (Test t d rest) waits e m z (inl same) to p =
    let ended = (waits.0 z (subst (λ (e : Exit). PartIs w x σ (e.slots 0) z) (sym same) p)).0 in
    let o : End ended.0 ≡ To m = sym ended.1 ∙ ap (λ (e : Exit). e.dest) same ∙ to in
    absurd (cc)
going_none w x σ (Test t d rest) waits e m z (inr inch) to p = going_none w x σ rest waits.1 e m z inch to p

-- .. and the last one ends the method
last_ends : (w : World) (x : Input) (σ : ℕ → Val) (c : Chain) → Waits w x σ c → (e : Exit) × InChain c e × Ends e
last_ends w x σ (Leave e) waits = (e, refl, waits.0)
last_ends w x σ (Test t d rest) waits = let l = last_ends w x σ rest waits.1 in (l.0, inr l.1, l.2)

nil_cons : (c : ℕ) (B : List ℕ) → [] ≡ c ∷ B → ⊥
nil_cons c B e = absurd (cc)

module _ (w : World) (x : Input) (V : Exp → Index → Val → Type 0) (f : Flow) (v : Values) (rank : ℕ → ℕ) (mean : Meaning w x V f v) (eqs : AreEquations f v) (shape : Shape f rank)
    (top : ℕ) (below_top : (b : ℕ) → rank b < top) (deepest : ℕ) (deep : (b : ℕ) → length (f.around b) ≤ deepest) (Typed : ℕ → (ℕ → Val) → Type 0) (runnable : Runnable w x f Typed) where
  abbrev pub HereIs : Index → ℕ → (ℕ → Val) → Type 0
  HereIs i b σ = Here w x V f v rank mean eqs shape i b σ

  -- the run ends
  abbrev pub Fin : ℕ → (ℕ → Val) → Type 0
  Fin b σ = (k : Kind) × (τ : ℕ → Val) × Runs w x f k τ b σ

  -- in the next iteration of the goal's region the run ends
  abbrev pub NextFin : List ℕ → Index → Type 0
  NextFin [] jQ = Unit {0}
  NextFin (q ∷ B) jQ = (i : Index) (τ : ℕ → Val) → HereIs i q τ → AgreesTo (length B) i jQ → i (length (q ∷ B)) ≡ suc (jQ (length (q ∷ B))) → Typed q τ → Fin q τ

  -- the run is at the node c of the region inside F, that is in the last iterations of the loops F of the goal's region, and the goal's tree from there has a value
  abbrev pub State : List ℕ → List ℕ → Target → Index → Index → List ℕ → ℕ → Index → (ℕ → Val) → Type 0
  State F Q T jQ j P c i σ = HereIs i c σ × (f.around c ≡ P ++ (F ++ Q)) × IsNode P c × AgreesTo (length (F ++ Q)) i j × (P ≡ c ∷ [] → i (suc (length (F ++ Q))) ≡ 0)
      × ((y : Exp) × (u : Val) × (v.tree Q T 0 (P ++ F) c ≡ Some y) × V y jQ u) × Typed c σ

  -- from each node of higher rank the run ends
  abbrev pub Laters : List ℕ → List ℕ → Target → Index → Index → ℕ → Type 0
  Laters F Q T jQ j r = (P : List ℕ) (c : ℕ) (i : Index) (σ : ℕ → Val) → State F Q T jQ j P c i σ → r < rank c → Fin c σ

  -- .. after each of the loops F, and in the next iteration of the goal's region
  abbrev pub Stack : List ℕ → List ℕ → Target → Index → Index → Type 0
  Stack [] Q T jQ j = (jQ ≡ j) × NextFin Q jQ
  Stack (h ∷ F) Q T jQ j = (i : Index) × (n : ℕ) × Stack F Q T jQ i × PassIs w x V f v rank mean eqs shape top below_top h (F ++ Q) i n × (j ≡ at_depth i (length (h ∷ (F ++ Q))) n) × Laters F Q T jQ i (rank h)

  stack_chain : (F Q : List ℕ) (T : Target) (jQ j : Index) → Stack F Q T jQ j → Chained w x V f v rank mean eqs shape top below_top F Q jQ j
  stack_chain [] Q T jQ j s = s.0
  stack_chain (h ∷ F) Q T jQ j s = (s.0, s.1, stack_chain F Q T jQ s.0 s.2, s.3, s.4)

  stack_next : (F Q : List ℕ) (T : Target) (jQ j : Index) → Stack F Q T jQ j → NextFin Q jQ
  stack_next [] Q T jQ j s = s.1
  stack_next (h ∷ F) Q T jQ j s = stack_next F Q T jQ s.0 s.2

  -- what is left of it where the loops C are left
  drop : (C X Q : List ℕ) (T : Target) (jQ j : Index) (r : ℕ) → Stack (C ++ X) Q T jQ j → Laters (C ++ X) Q T jQ j r → ((Y : List ℕ) (h : ℕ) (Z : List ℕ) → C ≡ Y ++ h ∷ Z → rank h ≤ r)
      → (jX : Index) × Stack X Q T jQ jX × AgreesTo (length (X ++ Q)) jX j × Laters X Q T jQ jX r × Chained w x V f v rank mean eqs shape top below_top C (X ++ Q) jX j
  drop [] X Q T jQ j r s l less = (j, s, (λ d y. refl), l, refl)
  drop (h ∷ C) X Q T jQ j r s l less =
      let o = drop C X Q T jQ s.0 r s.2 (λ P c i σ st y. s.5 P c i σ st (let z = less [] h C refl in omega arith)) (λ Y k Z y. less (h ∷ Y) k Z (ap (λ (K : List ℕ). h ∷ K) y)) in
      let e = append_assoc C X Q in (
        o.0,
        o.1,
        (λ d y. o.2 d y ∙ agrees_self w x V f v rank mean eqs shape (length ((C ++ X) ++ Q)) s.1 s.0 d (tail_long C X Q d y) ∙ sym (ap (λ (j : Index). j d) s.4)),
        o.3,
        (s.0, s.1, o.4, subst (λ (B : List ℕ). PassIs w x V f v rank mean eqs shape top below_top h B s.0 s.1) e s.3, subst (λ (B : List ℕ). j ≡ at_depth s.0 (length (h ∷ B)) s.1) e s.4),
      )
    where
      tail_long : (C X Q : List ℕ) (d : ℕ) → d ≤ length (X ++ Q) → d ≤ length ((C ++ X) ++ Q)
      tail_long C X Q d l = simp (length-append, length-append) (let z : d ≤ length X + length Q = simp length-append at l in omega arith)

  placed : (i : Index) (A P : List ℕ) (c : ℕ) (σ : ℕ → Val) → HereIs i c σ → f.around c ≡ P ++ A → IsNode P c → Placed w x V f v rank mean eqs shape top below_top i A P c
  placed i A P c σ here a node = (a, follows node, λ X l B z. (here.2 (P ++ X) l B (a ∙ ap (λ (K : List ℕ). P ++ K) z ∙ sym (append_assoc P X (l ∷ B)))).0)
    where
      follows : IsNode P c → Follows w x V f v rank mean eqs shape i A P c
      follows (inl p) = subst₂ (λ (A P : List ℕ). Follows w x V f v rank mean eqs shape i A P c) (a ∙ ap (λ (P : List ℕ). P ++ A) p) (sym p) here.1
      follows (inr p) = subst (λ (P : List ℕ). Follows w x V f v rank mean eqs shape i A P c) (sym p) (here.2 [] c A (a ∙ ap (λ (P : List ℕ). P ++ A) p)).0

  allzip_once : (es : List Exp) (us vs : List Val) (j : Index) → AllZip (λ k u. V k j u) es us → AllZip (λ k u. V k j u) es vs → us ≡ vs
  allzip_once [] [] [] j a b = refl
  allzip_once (e ∷ es) (u ∷ us) (z ∷ vs) j a b = let p = mean.once e j u z a.0 b.0 in let q = allzip_once es us vs j a.1 b.1 in cc
  allzip_once [] (u ∷ us) vs j a b = absurd (assumption)
  allzip_once [] [] (z ∷ vs) j a b = absurd (assumption)
  allzip_once (e ∷ es) [] vs j a b = absurd (assumption)
  allzip_once (e ∷ es) (u ∷ us) [] j a b = absurd (assumption)

  -- a token part with a value has one in the machine
  token_is : (c : ℕ) (σ : ℕ → Val) (j : Index) (p : Part) (u : Val) → TokenPart p → ((s : ℕ) → V (v.value c s) j (σ s)) → σ 0 ≡ vals.Unit
      → ((s : Sym) (ps : Parts) → p ≡ call_token s ps → (us : List Val) × PartsAre w x σ ps us) → V (put (v.value c) p) j u → (z : Val) × PartIs w x σ p z
  unfolding made strict
  token_is c σ j p u kept slots done args h = (σ 0, refl)
  token_is c σ j p u (calls s ps) slots done args h =
      let a = args s ps refl in
      let t = (made_two w x V f v rank mean eqs shape top below_top _ _ j u h).1 in
      let m = mean.says (op.CallEnd s) (put_all (v.value c) ps) j t.0 t.1 in
      let same : m.0 ≡ a.0 = allzip_once (listed (put_all (v.value c) ps)) m.0 a.0 j m.1 (put_all_values w x V f v rank mean eqs shape (v.value c) σ j slots ps a.0 a.1) in
      let ended' : strict w x (op.CallEnd s) a.0 ≡ Some t.0 = subst (λ (us : List Val). strict w x (op.CallEnd s) us ≡ Some t.0) same m.2 in
      let is_done : t.0 ≡ vals.Unit = callend_done w x s a.0 t.0 ended' in
      (vals.Unit, (vals.Unit ∷ vals.Unit ∷ [], (vals.Unit, vals.Unit ∷ [], done, (vals.Unit, [], (a.0, a.1, ended' ∙ ap Some is_done), refl, refl), refl), refl))

  -- what an exit on the way to the goal shows: an exit of the block has a token, and the same is said of it
  at_exit : (S : ℕ → Exit → Type 0) → OfGoing w x V f v rank mean eqs shape top below_top S → (F Q : List ℕ) (T : Target) (jQ j : Index) → Chained w x V f v rank mean eqs shape top below_top F Q jQ j → (c : ℕ) (i : Index) (σ : ℕ → Val) → State F Q T jQ j [] c i σ → Evidence w x V f v rank mean eqs shape top below_top S Q F c jQ
      → (e : Exit) × (u : Val) × InChain (f.chain c) e × V (put (v.value c) (e.slots 0)) j u × S c e
  at_exit S of F Q T jQ j ch c i σ st seen = pick (settle w x V f v rank mean eqs shape top below_top S of top (F ++ Q) [] c j st.1 (λ k l. far w x V f v rank mean eqs shape top below_top [] (F ++ Q) [] c i j j at' st.3 refl (Node k) 0 l) ev (below_top ev.1))
    where
      at' : Placed w x V f v rank mean eqs shape top below_top i (F ++ Q) [] c
      at' = placed i (F ++ Q) [] c σ st.0 st.1 st.2

      ev : Evidence w x V f v rank mean eqs shape top below_top S (F ++ Q) [] c j
      ev = peel w x V f v rank mean eqs shape top below_top S of [] F Q [] c i jQ j j at' st.3 refl ch seen

      pick : Settled w x V f v rank mean eqs shape top below_top S (F ++ Q) [] c j → (e : Exit) × (u : Val) × InChain (f.chain c) e × V (put (v.value c) (e.slots 0)) j u × S c e
      pick (inl (z, e, u, c, h, said)) = (e, u, c, h, said)
      pick (inr y) = absurd (no_snoc y.0 y.1 y.6)

  -- .. so it has one in the machine
  has_token : (F Q : List ℕ) (T : Target) (jQ j : Index) (c : ℕ) (i : Index) (σ : ℕ → Val) → State F Q T jQ j [] c i σ → (e : Exit) (u : Val) → InChain (f.chain c) e → V (put (v.value c) (e.slots 0)) j u → (z : Val) × PartIs w x σ (e.slots 0) z
  has_token F Q T jQ j c i σ st e u inch val =
      token_is c σ j (e.slots 0) u (shape.tokens c e inch) (λ s. st.0.0 s j (subst (λ (A : List ℕ). AgreesTo (length A) i j) (sym st.1) st.3)) st.0.3 (λ s ps z. runnable.args c σ e s ps st.6 inch z) val

  -- of the exits of block c it is this one, or one that goes to a block
  abbrev Said : ℕ → Exit → ℕ → Exit → Type 0
  Said c d n e = n ≡ c → (e ≡ d) ⊎ ((m : ℕ) × (e.dest ≡ To m))

  -- a test of block c, taken out of the loops F
  abbrev test_out : List ℕ → ℕ → Part → Exp
  test_out F c t = outs v F (put (v.value c) t)

  -- a block on the way to the goal doesn't wait: an exit that the goal's tree shows has a token, and one with a token ends the method
  -- where its test is false, so that the tree goes on with the exits after it, of which the last is one
  no_wait : (F Q : List ℕ) (T : Target) → IsGoal Q T → (jQ j : Index) → Chained w x V f v rank mean eqs shape top below_top F Q jQ j → (c : ℕ) (i : Index) (σ : ℕ → Val) → State F Q T jQ j [] c i σ → Waits w x σ (f.chain c) → ⊥
  no_wait F Q T goal jQ j ch c i σ st wait = tree (eqs.trees Q T 0 F c st.1)
    where
      evidence : (d : Exit) (z : Exp) (u : Val) → InChain (f.chain c) d → IsExit f v Q T 0 F c d (Some z) → V z jQ u → Evidence w x V f v rank mean eqs shape top below_top (Said c d) Q F c jQ
      evidence d z u inch y h = next (stops_or_on w x V f v rank mean eqs shape top below_top Q T 0 F c d y.0 z y.2)
        where
          next : Stops T y.0 ⊎ ((G : List ℕ) × (m : ℕ) × (y.0 ≡ On G m) × (v.tree Q T 0 G m ≡ Some z)) → Evidence w x V f v rank mean eqs shape top below_top (Said c d) Q F c jQ
          next (inl q) = (F, c, d, u, stop F c, inch, subst (λ (z : Exp). V z jQ u) (goal_leaf w x V f v rank mean eqs shape top below_top Q T goal F c d y.0 z q y.2) h, λ same. inl refl)
          next (inr (G, m, q, some)) =
              let s = subst (λ (p : Place). Seen f Q F d.dest p) q y.1 in
              let am = (seen_to f Q F d.dest G m s).1 in
              let r = goal_evidence w x V f v rank mean eqs shape top below_top Q T goal G m jQ u z am some h in
              let less = on_rank f rank shape Q F c d G m st.1 inch s in
              let up = walk_rank f rank shape Q G m r.0 r.1 r.4 am in
              (r.0, r.1, r.2, r.3, go F c d G m r.0 r.1 inch s r.4, r.5, r.6, λ same. absurd (let z = ap rank same in omega arith))

      token : (d : Exit) (z : Exp) (u : Val) → InChain (f.chain c) d → IsExit f v Q T 0 F c d (Some z) → V z jQ u → (y : Val) × PartIs w x σ (d.slots 0) y
      token d z u inch y h = found (at_exit (Said c d) (λ n e m to same. inr (m, to)) F Q T jQ j ch c i σ st (evidence d z u inch y h))
        where
          which : (e : Exit) → InChain (f.chain c) e → (z : Val) × PartIs w x σ (e.slots 0) z → (e ≡ d) ⊎ ((m : ℕ) × (e.dest ≡ To m)) → (y : Val) × PartIs w x σ (d.slots 0) y
          which e i t (inl same) = subst (λ (e : Exit). (y : Val) × PartIs w x σ (e.slots 0) y) same t
          which e i t (inr to) = absurd (going_none w x σ (f.chain c) wait e to.0 t.0 i to.1 t.1)

          found : (e : Exit) × (u : Val) × InChain (f.chain c) e × V (put (v.value c) (e.slots 0)) j u × Said c d c e → (y : Val) × PartIs w x σ (d.slots 0) y
          found (e, u, i, val, said) = which e i (has_token F Q T jQ j c _ σ st e u i val) (said refl)

      -- a test that is false in the machine is false in the graph
      false_there : (t : Part) → Fails w x σ t → (u : Val) × V (test_out F c t) jQ u × (truth u ≡ Some false)
      false_there t (u, is, out) =
          (u, chain_outs w x V f v rank mean eqs shape top below_top c [] F Q jQ j st.1 ch (put (v.value c) t) u (put_value w x V f v rank mean eqs shape (v.value c) σ j (λ s. st.0.0 s j (subst (λ (A : List ℕ). AgreesTo (length A) i j) (sym st.1) st.3)) t u is), out)

      -- after an exit that ends the method and gives something the last one gives something
      rest_some : (Q : List ℕ) (T : Target) → IsGoal Q T → (d : Exit) (a : Exp) (rest : Chain) → Ends d → IsExit f v Q T 0 F c d (Some a) → Waits w x σ rest → IsChain (IsExit f v Q T 0 F c) (test_out F c) rest None → ⊥
      rest_some [] Finish goal d a rest ended y waits none =
          let l = last_ends w x σ rest waits in
          let z = chain_some w x V f v rank mean eqs shape top below_top (IsExit f v [] Finish 0 F c) (test_out F c) rest None l.0 none l.1 (λ r q. ended_some r l.0 l.2 q) in
          absurd (let o = z.1 in cc)
        where
          ended_some : (r : Option Exp) (e : Exit) → Ends e → IsExit f v [] Finish 0 F c e r → (z : Exp) × (r ≡ Some z)
          ended_some r e (k, to) (p, s, at') = (
            leaf v f F c e 0,
            subst (λ (p : Place). AtPlace f v [] Finish 0 F c e p r) (subst (λ (d : Dest). Seen f [] F d p) to s) at',
          )
      rest_some (q ∷ B) Back goal d a rest (k, to) (p, s, at') waits none =
          let o : Some a ≡ None = subst (λ (p : Place). AtPlace f v (q ∷ B) Back 0 F c d p (Some a)) (subst (λ (d : Dest). Seen f (q ∷ B) F d p) to s) at' in
          absurd (cc)
      rest_some Q T goal d a rest ended y waits none = absurd goal

      along : (ch' : Chain) (r : Option Exp) (y : Exp) (u : Val) → ((e : Exit) → InChain ch' e → InChain (f.chain c) e) → Waits w x σ ch' → IsChain (IsExit f v Q T 0 F c) (test_out F c) ch' r → r ≡ Some y → V y jQ u → ⊥
      along (Leave e) r y u inch waits k q h = let t = token e y u (inch e refl) (subst (IsExit f v Q T 0 F c e) q k) h in waits.1 t.0 t.1
      along (Test t d rest) r y u inch waits k q h = sides k.0 k.1 k.2 k.3 k.4 (λ b z h kb. along rest b z u (λ e i. inch e (inr i)) waits.1 kb)
        where
          fails : (a : Exp) → IsExit f v Q T 0 F c d (Some a) → V a jQ u → Ends d × Fails w x σ t
          fails a xa h = let o = token d a u (inch d (inl refl)) xa h in waits.0 o.0 o.1

          sides : (a b : Option Exp) → IsExit f v Q T 0 F c d a → IsChain (IsExit f v Q T 0 F c) (test_out F c) rest b → Joins (test_out F c t) a b r → ((b : Option Exp) (z : Exp) → V z jQ u → IsChain (IsExit f v Q T 0 F c) (test_out F c) rest b → b ≡ Some z → V z jQ u → ⊥) → ⊥
          sides None b xa kb n on = on b y h kb (sym n ∙ q) h
          sides (Some a) None xa kb n on =
              let same : y ≡ a = some_inj y a (sym q ∙ n) in
              rest_some Q T goal d a rest (fails a xa (subst (λ (y : Exp). V y jQ u) same h)).0 xa waits.1 kb
          sides (Some a) (Some b) xa kb (inl n) on =
              let same : y ≡ b = some_inj y a (sym q ∙ n.1) ∙ n.0 in
              let there = subst (λ (y : Exp). V y jQ u) same h in
              on (Some b) b there kb refl there
          sides (Some a) (Some b) xa kb (inr n) on =
              let m = mean.says op.Phi (three (test_out F c t) a b) jQ u (subst (λ (y : Exp). V y jQ u) (some_inj y _ (sym q ∙ n.1)) h) in
              pick m.0 m.1 m.2
            where
              pick : (t' : Bool) → (u' : Val) × V (test_out F c t) jQ u' × (truth u' ≡ Some t') → V (if t' then a else b) jQ u → ⊥
              pick true yes' h =
                  let out = false_there t (fails a xa h).1 in
                  let same : yes'.0 ≡ out.0 = mean.once (test_out F c t) jQ yes'.0 out.0 yes'.1 out.1 in
                  let z : Some true ≡ Some false = sym yes'.2 ∙ ap truth same ∙ out.2 in
                  absurd (cc)
              pick false other h = on (Some b) b h kb refl h

      tree : IsTree f v Q T 0 F c (v.tree Q T 0 F c) → ⊥
      tree (inl z) =
          let m = mean.says op.Never NoExp jQ st.5.1 (subst (λ (y : Exp). V y jQ st.5.1) (some_inj st.5.0 never_exp (sym st.5.2 ∙ z.2)) st.5.3) in
          never_none w x m.0 st.5.1 m.2
      tree (inr z) = along (f.chain c) (v.tree Q T 0 F c) st.5.0 st.5.1 (λ e i. i) wait z.1 st.5.2 st.5.3

  -- .. so the machine makes a step
  progress : (F Q : List ℕ) (T : Target) → IsGoal Q T → (jQ j : Index) → Chained w x V f v rank mean eqs shape top below_top F Q jQ j → (c : ℕ) (i : Index) (σ : ℕ → Val) → State F Q T jQ j [] c i σ → Left w x f c σ
  progress F Q T goal jQ j ch c i σ st = ⊎_elim (λ left. left) (λ wait. absurd (no_wait F Q T goal jQ j ch c i σ st wait)) (runnable.moves c σ st.6)

  -- at the next node the goal's tree gives something
  some_next : (X Q : List ℕ) (T : Target) → IsGoal Q T → (P : List ℕ) (m : ℕ) (i jQ jX : Index) → Placed w x V f v rank mean eqs shape top below_top i (X ++ Q) P m → IsNode P m → AgreesTo (length (X ++ Q)) i jX → Chained w x V f v rank mean eqs shape top below_top X Q jQ jX → NotNow w x V f v rank mean eqs shape top below_top Q jQ → SomeAt w x V f v rank mean eqs shape top below_top Q T 0 (P ++ X) m
  some_next X Q T goal P m i jQ jX at' node g ch notnow = pick (eqs.trees Q T 0 (P ++ X) m (at'.0 ∙ sym (append_assoc P X Q)))
    where
      pick : IsTree f v Q T 0 (P ++ X) m (v.tree Q T 0 (P ++ X) m) → SomeAt w x V f v rank mean eqs shape top below_top Q T 0 (P ++ X) m
      pick (inl z) = (never_exp, z.2)
      pick (inr z) =
          let out = node_out f rank shape Q T goal m (z.0 (goal_token Q T goal)) X (X ++ Q) P refl at'.0 node in
          subst (λ (K : List ℕ). SomeAt w x V f v rank mean eqs shape top below_top Q T 0 (K ++ X) m) (append-nil P)
          (alive w x V f v rank mean eqs shape top below_top [] X Q T goal P m i jQ jX jX at' g refl ch notnow (subst (λ (K : List ℕ). OutWalk f (X ++ Q) K m) (sym (append-nil P)) out))

  -- one step of a block
  step_from : (F Q : List ℕ) (T : Target) → IsGoal Q T → (jQ j : Index) → NotNow w x V f v rank mean eqs shape top below_top Q jQ → Stack F Q T jQ j → (c : ℕ) (i : Index) (σ : ℕ → Val) → State F Q T jQ j [] c i σ → Laters F Q T jQ j (rank c) → Fin c σ
  step_from F Q T goal jQ j notnow stack c i σ st laters = stepped (progress F Q T goal jQ j ch c i σ st)
    where
      ch : Chained w x V f v rank mean eqs shape top below_top F Q jQ j
      ch = stack_chain F Q T jQ j stack

      at' : Placed w x V f v rank mean eqs shape top below_top i (F ++ Q) [] c
      at' = placed i (F ++ Q) [] c σ st.0 st.1 st.2

      -- what an exit gives, seen from the goal's region
      seen_exit : (e : Exit) → Chooses w x σ (f.chain c) e → (R C : List ℕ) (jR : Index) → f.around c ≡ C ++ R → Chained w x V f v rank mean eqs shape top below_top C R jR j → (t : Target) (s : ℕ) (p : Place) → Seen f R C e.dest p
          → (r : Option Exp) × AtPlace f v R t s C c e p r × EndsAt w x V f v rank mean eqs shape top below_top jR (v.tree R t s C c) r
      seen_exit e ch' R C jR a che t s p q =
          goes_on w x V f v rank mean eqs shape i c σ e st.0.0 ch' R C a jR (λ y u h. chain_outs w x V f v rank mean eqs shape top below_top c [] C R jR j a che y u (h j (subst (λ (A : List ℕ). AgreesTo (length A) i j) (sym st.1) st.3))) t s p q

      stepped : (e : Exit) × (τ : ℕ → Val) × Steps w x f c σ e τ → Fin c σ
      stepped (e, τ, steps) = to e.dest refl
        where
          inch : InChain (f.chain c) e
          inch = chooses_in w x σ (f.chain c) e steps.0

          to : (d : Dest) → e.dest ≡ d → Fin c σ
          to (End k) d = (k, τ, ends c σ e steps d)
          to (To m) d = on' (comes (move f rank shape Q F c m e st.1 inch d))
            where
              on' : Fin m τ → Fin c σ
              on' o = (o.0, o.1, goes c m σ τ e steps d o.2)

              typed : Typed m τ
              typed = runnable.stays c m σ τ e st.6 steps d

              back : (p : Place) → Seen f Q F (To m) p → Seen f Q F e.dest p
              back p s = subst (λ (d : Dest). Seen f Q F d p) (sym d) s

              small : (C X : List ℕ) → F ≡ C ++ X → (Y : List ℕ) (h : ℕ) (Z : List ℕ) → C ≡ Y ++ h ∷ Z → rank h ≤ rank c
              small C X z Y h Z y =
                  (shape.headers c h Y ((Z ++ X) ++ Q) (st.1 ∙ ap (λ (K : List ℕ). K ++ Q) (z ∙ ap (λ (K : List ℕ). K ++ X) y ∙ append_assoc Y (h ∷ Z) X) ∙ append_assoc Y (h ∷ (Z ++ X)) Q)).1

              dropped : (C X : List ℕ) → F ≡ C ++ X → (jX : Index) × Stack X Q T jQ jX × AgreesTo (length (X ++ Q)) jX j × Laters X Q T jQ jX (rank c) × Chained w x V f v rank mean eqs shape top below_top C (X ++ Q) jX j
              dropped C X z = drop C X Q T jQ j (rank c) (subst (λ (F : List ℕ). Stack F Q T jQ j) z stack) (subst (λ (F : List ℕ). Laters F Q T jQ j (rank c)) z laters) (small C X z)

              -- a node of the region inside X
              node_fin : (C X P G : List ℕ) (i' : Index) → F ≡ C ++ X → G ≡ P ++ X → HereIs i' m τ → AgreesTo (length (X ++ Q)) i i' → f.around m ≡ P ++ (X ++ Q) → IsNode P m → (P ≡ m ∷ [] → i' (suc (length (X ++ Q))) ≡ 0)
                  → rank c < rank m → Seen f Q F e.dest (On G m) → Fin m τ
              node_fin C X P G i' z g here' same am node zero' less s =
                  let o = dropped C X z in
                  let agree : AgreesTo (length (X ++ Q)) i' o.0 = λ d l. sym (same d l) ∙ st.3 d (long d l) ∙ sym (o.2 d l) in
                  let some = some_next X Q T goal P m i' jQ o.0 (placed i' (X ++ Q) P m τ here' am node) node agree (stack_chain X Q T jQ o.0 o.1) notnow in
                  let r = seen_exit e steps.0 Q F jQ st.1 ch T 0 (On G m) s in
                  let r' = r.2 some.0 (at_on w x V f v rank mean eqs shape Q T 0 F c e G m r.0 (goal_later Q T goal rank m) r.1 ∙ ap (λ (G : List ℕ). v.tree Q T 0 G m) g ∙ some.1) in
                  let val = (r'.2 st.5.1).0 (subst (λ (y : Exp). V y jQ st.5.1) (some_inj _ _ (sym st.5.2 ∙ r'.1)) st.5.3) in
                  o.3 P m i' τ (here', am, node, agree, zero', (some.0, st.5.1, some.1, val), typed) less
                where
                  long : (d : ℕ) → d ≤ length (X ++ Q) → d ≤ length (F ++ Q)
                  long d l = let y : length F ≡ length C + length X = ap length z ∙ length-append C X in simp length-append (let u : d ≤ length X + length Q = simp length-append at l in omega arith)

              comes : Goes f rank Q F c m → Fin m τ
              comes (On G k, s, (same, less, ne, C, X, z, kind)) = which kind
                where
                  s' : Seen f Q F e.dest (On G m)
                  s' = back (On G m) (subst (λ (k : ℕ). Seen f Q F (To m) (On G k)) same s)

                  split : f.around c ≡ C ++ (X ++ Q)
                  split = st.1 ∙ ap (λ (K : List ℕ). K ++ Q) z ∙ append_assoc C X Q

                  which : ((G ≡ X) × (f.around m ≡ X ++ Q) × (Heads (f.around m) m → ⊥)) ⊎ ((G ≡ m ∷ X) × (f.around m ≡ m ∷ (X ++ Q))) → Fin m τ
                  which (inl y) =
                      node_fin C X [] G i z y.0 (step_on w x V f v rank mean eqs shape i c m C (X ++ Q) σ τ e st.0 steps d split less ne y.1 (λ h. y.2 (subst (λ (A : List ℕ). Heads A m) (sym y.1) h))) (λ d l. refl) y.1 (inl refl) (λ p. absurd (nil_cons m [] p)) less s'
                  which (inr y) =
                      node_fin C X (m ∷ []) G (at_depth i (suc (length (X ++ Q))) 0) z y.0 (step_in w x V f v rank mean eqs shape i c m C (X ++ Q) σ τ e st.0 steps d split less ne y.1) (agrees_self w x V f v rank mean eqs shape (length (X ++ Q)) 0 i) y.1 (inr refl) (λ p. at_same i (suc (length (X ++ Q))) 0) less s'
              comes (Again, s, (C, X, z, am)) =
                  let o = dropped C (m ∷ X) z in
                  let k = stack_chain (m ∷ X) Q T jQ o.0 o.1 in
                  let yes' = subst (λ (j : Index). (u : Val) × V (v.ending m) j u × (truth u ≡ Some true)) (sym k.4) (pass_yes w x V f v rank mean eqs shape top below_top m (X ++ Q) k.0 k.1 k.3) in
                  let a = st.1 ∙ ap (λ (K : List ℕ). K ++ Q) z ∙ append_assoc C (m ∷ X) Q in
                  let r = seen_exit e steps.0 (m ∷ (X ++ Q)) C o.0 a o.4 Leaving 0 Header (subst (λ (d : Dest). Seen f (m ∷ (X ++ Q)) C d Header) (sym d) (lands_header C (X ++ Q) (f.around m) m am)) in
                  let far' = far w x V f v rank mean eqs shape top below_top C (m ∷ (X ++ Q)) [] c i o.0 j (subst (λ (A : List ℕ). Placed w x V f v rank mean eqs shape top below_top i A [] c) (sym at'.0 ∙ a) at') (subst (λ (A : List ℕ). AgreesTo (length A) i j) (sym at'.0 ∙ a) st.3) o.4 Leaving 0 tt in
                  let q = Ends_chain w x V f v rank mean eqs shape o.0 _ _ _ far' r.2 false_exp r.1 in
                  absurd (no_false w x V f v rank mean eqs shape top below_top o.0 yes'.0 ((q.2 yes'.0).0 (subst (λ (y : Exp). V y o.0 yes'.0) (given_is _ _ q.0 (eqs.endings m (X ++ Q) am) q.1) yes'.1)) yes'.2)
              comes (Header, s, (hd, am)) =
                  let am' : f.around m ≡ m ∷ hd.0 = am ∙ hd.1 in
                  let a : f.around c ≡ F ++ m ∷ hd.0 = st.1 ∙ ap (λ (K : List ℕ). F ++ K) hd.1 in
                  let same : AgreesTo (length (m ∷ hd.0)) i jQ = subst (λ (K : List ℕ). AgreesTo (length K) i jQ) hd.1 (λ d l. st.3 d (simp length-append (omega arith)) ∙ sym (chain_agree w x V f v rank mean eqs shape top below_top F Q jQ j ch d l)) in
                  let next = subst (λ (K : List ℕ). NextFin K jQ) hd.1 (stack_next F Q T jQ j stack) in
                  next _ τ (step_back w x V f v rank mean eqs shape i c m F hd.0 σ τ e st.0 steps d a am') (λ d l. sym (agrees_self w x V f v rank mean eqs shape (length hd.0) _ i d l) ∙ same d (omega arith))
                  (at_same i (suc (length hd.0)) _ ∙ ap suc (same (suc (length hd.0)) (le_refl _))) typed
              comes (Gone, s, i') = away Q T goal refl notnow (back Gone s) i'
                where
                  away : (R : List ℕ) (T : Target) → IsGoal R T → R ≡ Q → NotNow w x V f v rank mean eqs shape top below_top R jQ → Seen f Q F e.dest Gone → ((B : List ℕ) → f.around m ≢ B ++ Q) → Fin m τ
                  away [] T goal q nn s out = absurd (out (f.around m) (sym (append-nil (f.around m)) ∙ ap (λ (K : List ℕ). f.around m ++ K) q))
                  away (l ∷ B) T goal q nn s out =
                      let r = seen_exit e steps.0 Q F jQ st.1 ch Leaving 0 Gone s in
                      let far' = far w x V f v rank mean eqs shape top below_top F Q [] c i jQ j at' st.3 ch Leaving 0 tt in
                      let o = Ends_chain w x V f v rank mean eqs shape jQ _ _ _ far' r.2 true_exp r.1 in
                      let al = (shape.headers c l F B (st.1 ∙ ap (λ (K : List ℕ). F ++ K) (sym q))).0 in
                      absurd (yes_true w x V f v rank mean eqs shape top below_top jQ nn.0 ((o.2 nn.0).0 (subst (λ (y : Exp). V y jQ nn.0) (given_is _ _ o.0 (eqs.endings l B al) (ap (λ (K : List ℕ). tree_of f v K Leaving 0) q ∙ o.1)) nn.1)) nn.2)
              comes (Ended k, s, i') = absurd i'

  -- the loop c of the region inside F ++ Q
  back_some : (c : ℕ) (A : List ℕ) → f.around c ≡ c ∷ A → SomeAt w x V f v rank mean eqs shape top below_top (c ∷ A) Back 0 [] c
  back_some c A ac =
      let o = header_back f rank shape c A ac in
      some_walk w x V f v rank mean eqs shape top below_top (c ∷ A) Back 0 [] c o.0 o.1 o.3 ac (some_exit w x V f v rank mean eqs shape top below_top (c ∷ A) Back 0 o.0 o.1 o.2 Header (walk_around f rank shape (c ∷ A) [] c o.0 o.1 o.3 ac) o.4 o.5 (λ r z. (_, z)))

  -- a token in iteration n of a loop: the edges back have one in each earlier iteration
  again_has : (c : ℕ) (A : List ℕ) → f.around c ≡ c ∷ A → (j : Index) (n : ℕ) (z : Val) → V (v.value c 0) (at_depth j (length (c ∷ A)) n) z → (l : ℕ) → l < n → (z : Val) × V (v.again c 0) (at_depth j (length (c ∷ A)) l) z
  again_has c A ac j zero z h l less = absurd (omega arith)
  again_has c A ac j (suc n) z h l less = pick (mean.says (op.Theta (length (c ∷ A))) (two (first_kid v c 0) (v.again c 0)) k z theta) (λ z h y. again_has c A ac j n z h l y)
    where
      k : Index
      k = at_depth j (length (c ∷ A)) (suc n)

      theta : V (Over (op.Theta (length (c ∷ A))) (two (first_kid v c 0) (v.again c 0))) (at_depth j (length (c ∷ A)) (suc n)) z
      theta = (mean.tied c 0 A (at_depth j (length (c ∷ A)) (suc n)) z ac (shape.carries c)).0 (subst (λ (y : Exp). V y (at_depth j (length (c ∷ A)) (suc n)) z) (eqs.names c 0 A ac (shape.carries c)) h)

      split : (l n : ℕ) → l < suc n → (l < n) ⊎ (l ≡ n)
      split l n e = grind arith

      pick : Means w x V (ops.theta (length (c ∷ A))) (op.Theta (length (c ∷ A))) (first_kid v c 0 ∷ v.again c 0 ∷ []) (at_depth j (length (c ∷ A)) (suc n)) z
          → ((z : Val) → V (v.value c 0) (at_depth j (length (c ∷ A)) n) z → l < n → (z : Val) × V (v.again c 0) (at_depth j (length (c ∷ A)) l) z) → (z : Val) × V (v.again c 0) (at_depth j (length (c ∷ A)) l) z
      pick (inl y) ih = absurd (let o : suc n ≡ 0 = sym (at_same j (length (c ∷ A)) (suc n)) ∙ y.0 in omega arith)
      pick (inr y) ih =
          let same : y.0 ≡ n = (let o : suc n ≡ suc y.0 = sym (at_same j (length (c ∷ A)) (suc n)) ∙ y.1 in cc) in
          let before : V (v.again c 0) (at_depth j (length (c ∷ A)) n) z =
          subst (λ (i : Index). V (v.again c 0) i z) (at_at j (length (c ∷ A)) (suc n) n) (subst (λ (l : ℕ). V (v.again c 0) (at_depth (at_depth j (length (c ∷ A)) (suc n)) (length (c ∷ A)) l) z) same y.2) in
          last before (split l n less)
        where
          last : V (v.again c 0) (at_depth j (length (c ∷ A)) n) z → (l < n) ⊎ (l ≡ n) → (z : Val) × V (v.again c 0) (at_depth j (length (c ∷ A)) l) z
          last before (inr e) = (z, subst (λ (l : ℕ). V (v.again c 0) (at_depth j (length (c ∷ A)) l) z) (sym e) before)
          last before (inl e) =
              let some = back_some c A ac in
              let val = subst (λ (y : Exp). V y (at_depth j (length (c ∷ A)) n) z) (given_is _ _ some.0 (eqs.agains c 0 A ac) some.1) before in
              let first = token_first w x V f v rank mean eqs shape top below_top c A (at_depth j (length (c ∷ A)) n) ac (goal_evidence w x V f v rank mean eqs shape top below_top (c ∷ A) Back tt [] c (at_depth j (length (c ∷ A)) n) z some.0 ac some.1 val) in
              ih first.0 first.1 e

  abbrev pub RunAt : ℕ → Type 0
  RunAt D = (F Q : List ℕ) (T : Target) → IsGoal Q T → (jQ j : Index) → NotNow w x V f v rank mean eqs shape top below_top Q jQ → Stack F Q T jQ j → deepest ≤ D + length (F ++ Q) → (P : List ℕ) (c : ℕ) (i : Index) (σ : ℕ → Val) → State F Q T jQ j P c i σ → Fin c σ

  -- what is known of a loop on the way to the goal: the number of its last iteration, and a token in it
  loop_value : (F Q : List ℕ) (T : Target) → IsGoal Q T → (jQ j : Index) → Chained w x V f v rank mean eqs shape top below_top F Q jQ j → (c : ℕ) (i : Index) (σ : ℕ → Val) → State F Q T jQ j (c ∷ []) c i σ
      → (n : ℕ) × PassIs w x V f v rank mean eqs shape top below_top c (F ++ Q) j n × ((z : Val) × V (v.value c 0) (at_depth j (length (c ∷ (F ++ Q))) n) z)
  loop_value F Q T goal jQ j ch c i σ st = pick (settle w x V f v rank mean eqs shape top below_top (Any w x V f v rank mean eqs shape top below_top) (λ n e m d. tt) top (F ++ Q) (c ∷ []) c j st.1 (λ k l. far w x V f v rank mean eqs shape top below_top [] (F ++ Q) (c ∷ []) c i j j at' st.3 refl (Node k) 0 l) ev (below_top ev.1))
    where
      at' : Placed w x V f v rank mean eqs shape top below_top i (F ++ Q) (c ∷ []) c
      at' = placed i (F ++ Q) (c ∷ []) c σ st.0 st.1 st.2

      ev : Evidence w x V f v rank mean eqs shape top below_top (Any w x V f v rank mean eqs shape top below_top) (F ++ Q) (c ∷ []) c j
      ev = peel w x V f v rank mean eqs shape top below_top (Any w x V f v rank mean eqs shape top below_top) (λ n e m d. tt) [] F Q (c ∷ []) c i jQ j j at' st.3 refl ch (goal_evidence w x V f v rank mean eqs shape top below_top Q T goal (c ∷ F) c jQ st.5.1 st.5.0 st.1 st.5.2 st.5.3)

      pick : Settled w x V f v rank mean eqs shape top below_top (Any w x V f v rank mean eqs shape top below_top) (F ++ Q) (c ∷ []) c j → (n : ℕ) × PassIs w x V f v rank mean eqs shape top below_top c (F ++ Q) j n × ((z : Val) × V (v.value c 0) (at_depth j (length (c ∷ (F ++ Q))) n) z)
      pick (inl y) = absurd (nil_cons c [] (sym y.0))
      pick (inr (L, k, H, n, e, u, z, walk, inch, val, said)) =
          let s = snoc_same [] L c k z in
          let t = token_out_says w x V f v rank mean eqs shape top below_top c (F ++ Q) _ j u st.1 (subst (λ (k : ℕ). V (token_out v f k (token_outs v f H (put (v.value n) (e.slots 0)))) j u) (sym s.1) val) in
          (t.1.0, t.1.2, token_first w x V f v rank mean eqs shape top below_top c (F ++ Q) _ st.1 (H, n, e, t.1.1, subst₂ (λ (k : ℕ) (L : List ℕ). Walk f (k ∷ (F ++ Q)) L c H n) (sym s.1) (sym s.0) walk, inch, t.1.3, tt))

  -- the iterations of a loop
  run_loop : (D : ℕ) → RunAt D → (F Q : List ℕ) (T : Target) → IsGoal Q T → (jQ j : Index) → NotNow w x V f v rank mean eqs shape top below_top Q jQ → Stack F Q T jQ j → deepest ≤ suc D + length (F ++ Q) → (c : ℕ) → f.around c ≡ c ∷ (F ++ Q) → Laters F Q T jQ j (rank c)
      → ((y : Exp) × (u : Val) × (v.tree Q T 0 (c ∷ F) c ≡ Some y) × V y jQ u) → (n : ℕ) → PassIs w x V f v rank mean eqs shape top below_top c (F ++ Q) j n → ((z : Val) × V (v.value c 0) (at_depth j (length (c ∷ (F ++ Q))) n) z)
      → (k l : ℕ) → l + k ≡ n → (i : Index) (σ : ℕ → Val) → HereIs i c σ → AgreesTo (length (F ++ Q)) i j → i (length (c ∷ (F ++ Q))) ≡ l → Typed c σ → Fin c σ
  run_loop D inner F Q T goal jQ j notnow stack bound c ac laters aim n pass token zero l z i σ here g e typed =
      inner (c ∷ F) Q T goal jQ (at_depth j (length (c ∷ (F ++ Q))) n) notnow (j, n, stack, pass, refl, laters) (omega arith) [] c i σ (
        here,
        ac,
        inl refl,
        subst (λ (m : ℕ). AgreesTo (suc (length (F ++ Q))) i (at_depth j (suc (length (F ++ Q))) m)) (let y : l ≡ n = omega arith in e ∙ y) (agrees_in w x V f v rank mean eqs shape (length (F ++ Q)) i j g),
        (λ p. absurd (nil_cons c [] p)),
        aim,
        typed,
      )
  run_loop D inner F Q T goal jQ j notnow stack bound c ac laters aim n pass token (suc k) l z i σ here g e typed =
      let some = back_some c (F ++ Q) ac in
      let has = again_has c (F ++ Q) ac j n token.0 token.1 l (omega arith) in
      let jl : Index = at_depth j (length (c ∷ (F ++ Q))) l in
      inner [] (c ∷ (F ++ Q)) Back tt jl jl (pass_no w x V f v rank mean eqs shape top below_top c (F ++ Q) j n l pass (omega arith)) (
        refl,
        λ i' τ here' g' e' typed'. run_loop D inner F Q T goal jQ j notnow stack bound c ac laters aim n pass token k (suc l) (omega arith) i' τ here'
            (λ d y. g' d y ∙ sym (agrees_self w x V f v rank mean eqs shape (length (F ++ Q)) l j d y)) (e' ∙ ap suc (at_same j (length (c ∷ (F ++ Q))) l)) typed',
      )
      (omega arith) [] c i σ (
        here,
        ac,
        inl refl,
        subst (λ (m : ℕ). AgreesTo (suc (length (F ++ Q))) i (at_depth j (suc (length (F ++ Q))) m)) e (agrees_in w x V f v rank mean eqs shape (length (F ++ Q)) i j g),
        (λ p. absurd (nil_cons c [] p)),
        (some.0, has.0, some.1, subst (λ (y : Exp). V y jl has.0) (given_is _ _ some.0 (eqs.agains c 0 (F ++ Q) ac) some.1) has.1),
        typed,
      )

  -- the nodes of a region, by rank
  run_nodes : (D : ℕ) → ((E : ℕ) → D ≡ suc E → RunAt E) → (F Q : List ℕ) (T : Target) → IsGoal Q T → (jQ j : Index) → NotNow w x V f v rank mean eqs shape top below_top Q jQ → Stack F Q T jQ j → deepest ≤ D + length (F ++ Q)
      → (M : ℕ) (P : List ℕ) (c : ℕ) (i : Index) (σ : ℕ → Val) → State F Q T jQ j P c i σ → top ≤ rank c + M → Fin c σ
  run_nodes D inner F Q T goal jQ j notnow stack bound zero P c i σ st less = absurd (let z = below_top c in omega arith)
  run_nodes D inner F Q T goal jQ j notnow stack bound (suc M) P c i σ st less = node st.2 (λ P m k τ s l. run_nodes D inner F Q T goal jQ j notnow stack bound M P m k τ s (omega arith))
    where
      inside : (D : ℕ) → ((E : ℕ) → D ≡ suc E → RunAt E) → deepest ≤ D + length (F ++ Q) → Laters F Q T jQ j (rank c) → State F Q T jQ j (c ∷ []) c i σ → Fin c σ
      inside zero inner bound laters st = absurd (let z = deep c in let y : length (f.around c) ≡ suc (length (F ++ Q)) = ap length st.1 in omega arith)
      inside (suc E) inner bound laters st =
          let o = loop_value F Q T goal jQ j (stack_chain F Q T jQ j stack) c i σ st in
          run_loop E (inner E refl) F Q T goal jQ j notnow stack bound c st.1 laters st.5 o.0 o.1 o.2 o.0 0 (omega arith) i σ st.0 st.3 (st.4 refl) st.6

      node : IsNode P c → Laters F Q T jQ j (rank c) → Fin c σ
      node (inl p) laters = step_from F Q T goal jQ j notnow stack c i σ (subst (λ (P : List ℕ). State F Q T jQ j P c i σ) p st) laters
      node (inr p) laters = inside D inner bound laters (subst (λ (P : List ℕ). State F Q T jQ j P c i σ) p st)

  run_all : (D : ℕ) → RunAt D
  run_all zero F Q T goal jQ j notnow stack bound P c i σ st = run_nodes zero (λ E e. absurd (let z : 0 ≡ suc E = e in omega arith)) F Q T goal jQ j notnow stack bound top P c i σ st (omega arith)
  run_all (suc D) F Q T goal jQ j notnow stack bound P c i σ st =
      run_nodes (suc D) (λ E e. subst RunAt (let z : D ≡ E = cc in z) (run_all D)) F Q T goal jQ j notnow stack bound top P c i σ st (omega arith)

  -- GRAPH TO MACHINE: where the token's tree of the top region for the end has a value, the run from the entry ends
  pub graph_to_machine : (σ : ℕ → Val) → Starts w x f σ → Typed f.entry σ → (j : Index) (y : Exp) (u : Val) → tree_of f v [] Finish 0 ≡ Some y → V y j u → (k : Kind) × (τ : ℕ → Val) × Runs w x f k τ f.entry σ
  graph_to_machine σ st typed j y u e h = begin (step_start w x V f v rank mean eqs shape σ st j)
    where
      begin : (i : Index) × HereIs i f.entry σ × (i 0 ≡ j 0) × ((h : ℕ) (B : List ℕ) → f.around f.entry ≡ h ∷ B → i (length (h ∷ B)) ≡ 0) → Fin f.entry σ
      begin (i, here, same, zero') =
          run_all deepest [] [] Finish tt j j tt (refl, tt) (omega arith) (f.around f.entry) f.entry i σ
          (here, sym (append-nil (f.around f.entry)), shape.first, agree, (λ p. zero' f.entry [] p), (y, u, ap (λ (K : List ℕ). v.tree [] Finish 0 K f.entry) (append-nil (f.around f.entry)) ∙ e, h), typed)
        where
          agree : AgreesTo (length {A = ℕ} []) i j
          agree d l = let z : d ≡ 0 = omega arith in subst (λ (d : ℕ). i d ≡ j d) (sym z) same
