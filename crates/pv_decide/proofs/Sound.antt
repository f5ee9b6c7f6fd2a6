-- Which nodes a walk makes.
use Rattle.std.proofs.Common.{◌≡◌, ◌≢◌, ℕ, zero, suc, ◌+◌, ◌-◌, ◌<◌, ◌≤◌, Bool, List, [], ◌∷◌, ◌++◌, length, set, get_or, Some, slice_get, ◌⊎◌, inl, inr, ⊎_elim, refl, sym, ap, ◌∙◌, subst, subst₂, arith, length-append, if◌then◌else◌}
use Rattle.pv_decide.proofs.Words.{Result, Ok, Err, IfOk, slice_index, eqb_tells, get_or-set_same, get_or-set_other, length-set, slice_get_within, slice_get_read, Memory, Site, Scope, Whole, Loop, TreeNode, Landing, Verdict, IsInRange, IsAround, GoesTo, place_of, AreOrdered, IsLanding, verdict_end, verdict_of, IsExitOf, IsTestOf, IsEarly, AimsAt, IsAimedAt, NodeFits, AreSound, Grows, Pushed, HasNothing, HasDead, TestMade, PlaceFits, ArePlaces, FitsAt}
use Rattle.pv_flow.specs.declared.block.Exit as code
use Rattle.pv_flow.specs.declared.block.Exit.TheVariants as dest
use Rattle.pv_decide.specs.declared.tree.Target.{Target}
use Rattle.pv_decide.specs.declared.tree.Target.TheVariants as target
use Rattle.pv_decide.specs.declared.tree.TreeNode.TheVariants as node
use Rattle.pv_decide.specs.declared.landing.Landing.TheVariants as l
use Rattle.pv_decide.specs.declared.landing.Verdict.TheVariants as verdict
use Rattle.pv_decide.proofs.Places.{goes_on}

push_cases : (xs : List TreeNode) (x y : TreeNode) (n : ℕ) → slice_get (xs ++ x ∷ []) n ≡ Some y → (slice_get xs n ≡ Some y) ⊎ ((n ≡ length xs) × (x ≡ y))
push_cases [] x y zero e = inr (refl, cc)
push_cases [] x y (suc n) e = absurd (cc)
push_cases (z ∷ xs) x y zero e = inl e
push_cases (z ∷ xs) x y (suc n) e = ⊎_elim (λ p. inl p) (λ q. inr (ap suc q.0, q.1)) (push_cases xs x y n e)

module _ (sites : List Site) (t : Target) where
  pub place_grow : (a b : List TreeNode) → Grows a b → (m p : ℕ) → PlaceFits sites t a m p → PlaceFits sites t b m p
  place_grow a b g m p h = let z : length b ≡ length a + length g.0 = ap length g.1 ∙ length-append a g.0 in (omega (arith, h.0), h.1)

module _ (sites : List Site) (r : Scope) (t : Target) where
  sound_push : (a b : List TreeNode) (x : TreeNode) (n : ℕ) → AreSound sites r t a → NodeFits sites r t n x → Pushed a b x n → AreSound sites r t b
  sound_push a b x n s f p k y here = ⊎_elim
      (λ z. s k y z)
      (λ z. subst₂ (λ (k : ℕ) (y : TreeNode). NodeFits sites r t k y) (p.0 ∙ sym z.0) z.1 f)
      (push_cases a x y k (subst (λ (b : List TreeNode). slice_get b k ≡ Some y) p.1 here))

  last_low : (a b : List TreeNode) (x : TreeNode) (n : ℕ) → Pushed a b x n → n < length b
  last_low a b x n p = let z : length b ≡ length a + length (x ∷ []) = ap length p.1 ∙ length-append a (x ∷ []) in let w = p.0 in omega arith

  -- an edge from b, where d goes to a block
  abbrev pub GoesAs : ℕ → code.Exit → Type 0
  GoesAs b d = (m : ℕ) → d ≡ dest.To m → GoesTo sites b m

  -- what the answers say of the blocks
  leaf_early : (lan : Landing) (b : ℕ) (d : code.Exit) → b < length sites → GoesAs b d → IsLanding sites r b d lan → verdict.Leaf ≡ verdict_of r t lan → IsEarly sites t b
  leaf_early lan b d low goes il e n order is less ordered = go d lan goes il (subst (λ (t : Target). verdict.Leaf ≡ verdict_of r t lan) is e)
    where
      go : (d : code.Exit) (lan : Landing) → GoesAs b d → IsLanding sites r b d lan → verdict.Leaf ≡ verdict_of r (target.Node n) lan → place_of order b < place_of order n
      go (dest.To m) (l.On k) goes il e = ⊎_elim
          (λ z. let same : m ≡ n = sym il.0 ∙ z.1 in
          subst (λ (m : ℕ). place_of order b < place_of order m) same (goes_on sites order ordered b m low (subst (λ (m : ℕ). m < length sites) (sym same) less) (goes m refl) il.2))
          (λ z. absurd (let y : verdict.Leaf ≡ verdict.Goes k = e ∙ ap (λ (t : Bool). if t then verdict.Leaf else verdict.Goes k) z.0 in cc))
          (eqb_tells k n)
      go (dest.To m) l.Gone goes il e = absurd (cc)
      go (dest.To m) l.Header goes il e = absurd (cc)
      go (dest.To m) l.Again goes il e = absurd (cc)
      go (dest.To m) l.Returns goes il e = absurd il
      go (dest.To m) l.Throws goes il e = absurd il
      go dest.Return l.Returns goes il e = absurd (cc)
      go dest.Throw l.Throws goes il e = absurd (cc)
      go dest.Return (l.On k) goes il e = absurd il
      go dest.Return l.Gone goes il e = absurd il
      go dest.Return l.Header goes il e = absurd il
      go dest.Return l.Again goes il e = absurd il
      go dest.Return l.Throws goes il e = absurd il
      go dest.Throw (l.On k) goes il e = absurd il
      go dest.Throw l.Gone goes il e = absurd il
      go dest.Throw l.Header goes il e = absurd il
      go dest.Throw l.Again goes il e = absurd il
      go dest.Throw l.Returns goes il e = absurd il

  -- .. and of the exit
  leaf_aimed : (lan : Landing) (b : ℕ) (d : code.Exit) → IsLanding sites r b d lan → verdict.Leaf ≡ verdict_of r t lan → AimsAt r t d
  leaf_aimed lan b d il e = go t d lan il e
    where
      go : (t : Target) (d : code.Exit) (lan : Landing) → IsLanding sites r b d lan → verdict.Leaf ≡ verdict_of r t lan → AimsAt r t d
      go target.Back (dest.To m) l.Header il e = (m, il.2, refl)
      go target.Back d (l.On k) il e = absurd (cc)
      go target.Back d l.Gone il e = absurd (cc)
      go target.Back d l.Again il e = absurd (cc)
      go target.Back d l.Returns il e = absurd (cc)
      go target.Back d l.Throws il e = absurd (cc)
      go target.Back dest.Return l.Header il e = absurd il
      go target.Back dest.Throw l.Header il e = absurd il
      go target.Leave d lan il e = tt
      go (target.Node n) (dest.To m) (l.On k) il e = ⊎_elim
          (λ z. ap dest.To (sym il.0 ∙ z.1))
          (λ z. absurd (let y : verdict.Leaf ≡ verdict.Goes k = e ∙ ap (λ (t : Bool). if t then verdict.Leaf else verdict.Goes k) z.0 in cc))
          (eqb_tells k n)
      go (target.Node n) d l.Gone il e = absurd (cc)
      go (target.Node n) d l.Header il e = absurd (cc)
      go (target.Node n) d l.Again il e = absurd (cc)
      go (target.Node n) d l.Returns il e = absurd (cc)
      go (target.Node n) d l.Throws il e = absurd (cc)
      go (target.Node n) dest.Return (l.On k) il e = absurd il
      go (target.Node n) dest.Throw (l.On k) il e = absurd il
      go target.Exit d (l.On k) il e = absurd (cc)
      go target.Exit d l.Gone il e = absurd (cc)
      go target.Exit d l.Header il e = absurd (cc)
      go target.Exit d l.Again il e = absurd (cc)
      go target.Exit (dest.To m) l.Returns il e = absurd il
      go target.Exit (dest.To m) l.Throws il e = absurd il
      go target.Exit dest.Return lan il e = inl refl
      go target.Exit dest.Throw lan il e = inr refl
      go target.Return d (l.On k) il e = absurd (cc)
      go target.Return d l.Gone il e = absurd (cc)
      go target.Return d l.Header il e = absurd (cc)
      go target.Return d l.Again il e = absurd (cc)
      go target.Return d l.Throws il e = absurd (cc)
      go target.Return (dest.To m) l.Returns il e = absurd il
      go target.Return dest.Return l.Returns il e = refl
      go target.Return dest.Throw l.Returns il e = absurd il

  aimed_at : (b e : ℕ) (k : Site) (d : code.Exit) → slice_get sites b ≡ Some k → slice_get k.exits.items e ≡ Some d → AimsAt r t d → IsAimedAt sites r t b e
  aimed_at b e k d here at a j c there exit =
      let same : j ≡ k = (let z : Some j ≡ Some k = sym there ∙ here in cc) in
      let one : d ≡ c = (let z : Some d ≡ Some c = sym at ∙ ap (λ (j : Site). slice_get j.exits.items e) (sym same) ∙ exit in cc) in
      subst (AimsAt r t) one a

  -- a pushed leaf
  pub leaf_fits : (a c : List TreeNode) (b e n : ℕ) (k : Site) (d : code.Exit) (lan : Landing) (ans : Verdict) → slice_get sites b ≡ Some k → slice_get k.exits.items e ≡ Some d → GoesAs b d → ans ≡ verdict_of r t lan → ans ≡ verdict.Leaf → IsLanding sites r b d lan
      → IsExitOf sites r b e → AreSound sites r t a → Pushed a c (node.Leaf b e) n → FitsAt sites r t c b n
  leaf_fits a c b e n j d lan ans here at goes says is il ex s p =
      let early = leaf_early lan b d (slice_get_within sites b j here) goes il (sym is ∙ says) in
      let aimed = aimed_at b e j d here at (leaf_aimed lan b d il (sym is ∙ says)) in
      (sound_push a c (node.Leaf b e) n s (ex, early, aimed) p, (last_low a c (node.Leaf b e) n p, λ k order q less ordered o. absurd (let z = early k order q less ordered in omega arith)))

  pub leaf_fits_ok : (a c : List TreeNode) (b e : ℕ) (k : Site) (d : code.Exit) (lan : Landing) (ans : Verdict) (res : Result ℕ Memory) → slice_get sites b ≡ Some k → slice_get k.exits.items e ≡ Some d → GoesAs b d → ans ≡ verdict_of r t lan → ans ≡ verdict.Leaf
      → IsLanding sites r b d lan → IsExitOf sites r b e → AreSound sites r t a → IfOk res (λ n. Pushed a c (node.Leaf b e) n) → IfOk res (λ n. FitsAt sites r t c b n)
  leaf_fits_ok a c b e k d lan ans (Ok n) here at goes says is il ex s p = leaf_fits a c b e n k d lan ans here at goes says is il ex s p
  leaf_fits_ok a c b e k d lan ans (Err x) here at goes says is il ex s p = p

  -- the place of a later block
  pub goes_fits : (a : List TreeNode) (places : List ℕ) (b m n : ℕ) → n ≡ slice_index places m → b < length sites → m < length sites → m < length places → GoesTo sites b m → (IsAround sites b m → ⊥) → AreSound sites r t a → ArePlaces sites t a places → FitsAt sites r t a b n
  goes_fits a places b m n e lb lm low goes un s f =
      let z = f m low in
      (s, subst (λ (n : ℕ). PlaceFits sites t a b n) (sym e) (z.0, λ k order q less ordered o. z.1 k order q less ordered (let y = goes_on sites order ordered b m lb lm goes un in omega arith)))

  pub nothing_fits : (a : List TreeNode) (b : ℕ) → HasNothing a → AreSound sites r t a → FitsAt sites r t a b 0
  nothing_fits a b h s = (s, (slice_get_within a 0 node.Nothing h, λ k order q less ordered o. omega arith))

  pub dead_fits : (a : List TreeNode) (b : ℕ) → HasDead a → AreSound sites r t a → FitsAt sites r t a b 1
  dead_fits a b h s = (s, (slice_get_within a 1 node.Dead h, λ k order q less ordered o. omega arith))

  -- a test
  pub test_fits : (a c : List TreeNode) (b e y m n : ℕ) → IsTestOf sites r b e → AreSound sites r t a → PlaceFits sites t a b y → PlaceFits sites t a b m → TestMade a c b e y m n → FitsAt sites r t c b n
  test_fits a c b e y m n ex s py pm (inl (k, inl z)) = subst (λ (c : List TreeNode). FitsAt sites r t c b n) (sym k) (s, subst (λ (n : ℕ). PlaceFits sites t a b n) (sym z) py)
  test_fits a c b e y m n ex s py pm (inl (k, inr z)) = subst (λ (c : List TreeNode). FitsAt sites r t c b n) (sym k) (s, subst (λ (n : ℕ). PlaceFits sites t a b n) (sym z) pm)
  test_fits a c b e y m n ex s py pm (inr (ne, ny, nm, p)) =
      let early : IsEarly sites t b = λ k order q less ordered. before k order q less ordered in
      (sound_push a c (node.Test b e y m) n s (ex, early, low y py.0, low m pm.0) p, (last_low a c (node.Test b e y m) n p, λ k order q less ordered o. absurd (let z = before k order q less ordered in omega arith)))
    where
      low : (y : ℕ) → y < length a → y < n
      low y o = let w = p.0 in omega arith

      before : (k : ℕ) (order : List ℕ) → t ≡ target.Node k → k < length sites → AreOrdered sites order → place_of order b < place_of order k
      before k order q less ordered = ⊎_elim
          (λ o. o)
          (λ o. absurd (let u = py.1 k order q less ordered o in let w = pm.1 k order q less ordered o in omega (arith, ne, ny, nm)))
          (let z : (place_of order b < place_of order k) ⊎ (place_of order k ≤ place_of order b) = grind arith in z)

  -- the places with one more
  pub places_set : (a c : List TreeNode) (places : List ℕ) (b n : ℕ) → Grows a c → b < length places → ArePlaces sites t a places → PlaceFits sites t c b n → ArePlaces sites t c (set places b n)
  places_set a c places b n g low h p m less = ⊎_elim
      (λ z. subst₂ (λ (m k : ℕ). PlaceFits sites t c m k) (sym z) (sym (ap (slice_index (set places b n)) z ∙ get_or-set_same places b n 0 low)) p)
      (λ z. subst (λ (k : ℕ). PlaceFits sites t c m k) (sym (get_or-set_other places b m n 0 z)) (place_grow sites t a c g m (slice_index places m) (h m (let w : length (set places b n) ≡ length places = length-set places b n in omega arith))))
      (let y : (m ≡ b) ⊎ (m ≢ b) = grind arith in y)

  -- the answer goes on at a later block
  pub goes_later : (lan : Landing) (b m : ℕ) (d : code.Exit) (ans : Verdict) → ans ≡ verdict_of r t lan → ans ≡ verdict.Goes m → IsLanding sites r b d lan → IsInRange sites d → GoesAs b d → (m < length sites) × GoesTo sites b m × (IsAround sites b m → ⊥)
  goes_later lan b m d ans says is il range goes = go t d lan goes il range (sym is ∙ says)
    where
      on : (t : Target) (k : ℕ) → verdict.Goes m ≡ verdict_of r t (l.On k) → m ≡ k
      on (target.Node n) k e = ⊎_elim
          (λ z. absurd (let y : verdict.Goes m ≡ verdict.Leaf = e ∙ ap (λ (t : Bool). if t then verdict.Leaf else verdict.Goes k) z.0 in cc))
          (λ z. let y : verdict.Goes m ≡ verdict.Goes k = e ∙ ap (λ (t : Bool). if t then verdict.Leaf else verdict.Goes k) z.0 in cc)
          (eqb_tells k n)
      on target.Back k e = cc
      on target.Exit k e = cc
      on target.Return k e = cc
      on target.Leave k e = cc

      fin : (r : Scope) → verdict.Goes m ≢ verdict_end r
      fin Whole e = absurd (cc)
      fin (Loop h) e = absurd (cc)

      off : (t : Target) (lan : Landing) → ((k : ℕ) → lan ≢ l.On k) → verdict.Goes m ≡ verdict_of r t lan → ⊥
      off t (l.On k) ne e = ne k refl
      off (target.Node n) l.Again ne e = absurd (cc)
      off target.Back l.Again ne e = absurd (cc)
      off target.Exit l.Again ne e = absurd (cc)
      off target.Return l.Again ne e = absurd (cc)
      off target.Leave l.Again ne e = absurd (cc)
      off (target.Node n) l.Header ne e = absurd (cc)
      off target.Back l.Header ne e = absurd (cc)
      off target.Exit l.Header ne e = absurd (cc)
      off target.Return l.Header ne e = absurd (cc)
      off target.Leave l.Header ne e = absurd (cc)
      off (target.Node n) l.Gone ne e = absurd (cc)
      off target.Back l.Gone ne e = absurd (cc)
      off target.Exit l.Gone ne e = absurd (cc)
      off target.Return l.Gone ne e = absurd (cc)
      off target.Leave l.Gone ne e = absurd (cc)
      off (target.Node n) l.Returns ne e = absurd (cc)
      off target.Back l.Returns ne e = absurd (cc)
      off target.Exit l.Returns ne e = fin r e
      off target.Return l.Returns ne e = fin r e
      off target.Leave l.Returns ne e = absurd (cc)
      off (target.Node n) l.Throws ne e = absurd (cc)
      off target.Back l.Throws ne e = absurd (cc)
      off target.Exit l.Throws ne e = fin r e
      off target.Return l.Throws ne e = absurd (cc)
      off target.Leave l.Throws ne e = absurd (cc)

      go : (t : Target) (d : code.Exit) (lan : Landing) → GoesAs b d → IsLanding sites r b d lan → IsInRange sites d → verdict.Goes m ≡ verdict_of r t lan → (m < length sites) × GoesTo sites b m × (IsAround sites b m → ⊥)
      go t (dest.To k) (l.On i) goes il range e =
          let s : m ≡ k = on t i e ∙ il.0 in
          (subst (λ (k : ℕ). k < length sites) (sym s) range, subst (λ (k : ℕ). GoesTo sites b k) (sym s) (goes k refl), subst (λ (k : ℕ). IsAround sites b k → ⊥) (sym s) il.2)
      go t (dest.To k) l.Gone goes il range e = absurd (off t l.Gone (λ k q. cc) e)
      go t (dest.To k) l.Header goes il range e = absurd (off t l.Header (λ k q. cc) e)
      go t (dest.To k) l.Again goes il range e = absurd (off t l.Again (λ k q. cc) e)
      go t (dest.To k) l.Returns goes il range e = absurd il
      go t (dest.To k) l.Throws goes il range e = absurd il
      go t dest.Return l.Returns goes il range e = absurd (off t l.Returns (λ k q. cc) e)
      go t dest.Return (l.On i) goes il range e = absurd il
      go t dest.Return l.Gone goes il range e = absurd il
      go t dest.Return l.Header goes il range e = absurd il
      go t dest.Return l.Again goes il range e = absurd il
      go t dest.Return l.Throws goes il range e = absurd il
      go t dest.Throw l.Throws goes il range e = absurd (off t l.Throws (λ k q. cc) e)
      go t dest.Throw (l.On i) goes il range e = absurd il
      go t dest.Throw l.Gone goes il range e = absurd il
      go t dest.Throw l.Header goes il range e = absurd il
      go t dest.Throw l.Again goes il range e = absurd il
      go t dest.Throw l.Returns goes il range e = absurd il

  pub first_sound : AreSound sites r t (node.Nothing ∷ node.Dead ∷ [])
  first_sound zero x e = subst (NodeFits sites r t 0) (let y : node.Nothing ≡ x = cc in y) tt
  first_sound (suc zero) x e = subst (NodeFits sites r t 1) (let y : node.Dead ≡ x = cc in y) tt
  first_sound (suc (suc n)) x e = absurd (cc)

-- an earlier exit of a block
pub exit_before : (sites : List Site) (r : Scope) (b e : ℕ) → IsExitOf sites r b e → IsExitOf sites r b (e - 1)
exit_before sites r b e (i, k, here, low) = (i, k, here, omega arith)

-- .. and the test before
pub test_before : (sites : List Site) (r : Scope) (b e : ℕ) → 0 < e → IsExitOf sites r b e → IsTestOf sites r b (e - 1)
test_before sites r b e some (i, k, here, low) = (i, k, here, omega arith)

-- an exit as it is read
pub exit_read : (sites : List Site) (r : Scope) (b e : ℕ) (k : Site) (d : code.Exit) → IsExitOf sites r b e → k ≡ get_or sites b k → d ≡ get_or (get_or sites b k).exits.items e d → (slice_get sites b ≡ Some k) × (slice_get k.exits.items e ≡ Some d)
exit_read sites r b e k d (i, j, there, low) is at =
    let here : slice_get sites b ≡ Some k = slice_get_read sites (length sites) b k refl (slice_get_within sites b j there) is in
    let same : j ≡ k = (let z : Some j ≡ Some k = sym there ∙ here in cc) in
    (here, slice_get_read k.exits.items (length k.exits.items) e d refl (subst (λ (j : Site). e < length j.exits.items) same low) (subst (λ (j : Site). d ≡ get_or j.exits.items e d) (sym is) at))
