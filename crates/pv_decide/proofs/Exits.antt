-- What a walk makes of an exit is what the equations say.
use Rattle.std.proofs.Common.{◌≡◌, ◌≢◌, ℕ, zero, suc, ◌+◌, ◌<◌, Bool, true, false, List, [], ◌∷◌, ◌++◌, length, Option, Some, None, ◌⊎◌, inl, inr, ⊎_elim, refl, sym, ap, ◌∙◌, subst, subst₂, arith, append-nil, append_assoc, length-append, if◌then◌else◌, ◌==◌}
use Rattle.pv_decide.proofs.Words.{Contains, eqb_tells, Contains-append_right, Exp, Heads, Kind, Return, Throw, Dest, To, End, Exit, InChain, Flow, Node, Back, Finish, Returning, Leaving, Place, On, Again, Header, Gone, Ended, Seen, Values, leaf, AtPlace, IsExit, true_exp, false_exp, About, about, Site, Whole, Loop, Landing, Verdict, dest_of, IsInRange, IsAround, GoesTo, place_of, AreOrdered, loops_of, Inside, IsLanding, verdict_end, verdict_of, target_of, leaving, exit_gives, IsAimed, IsUnder, IsPlaced}
use Rattle.pv_flow.specs.declared.block.Exit as code
use Rattle.pv_flow.specs.declared.block.Exit.TheVariants as dest
use Rattle.pv_decide.specs.declared.aim.Scope as scope
use Rattle.pv_decide.specs.declared.tree.Target as aim
use Rattle.pv_decide.specs.declared.tree.Target.TheVariants as target
use Rattle.pv_decide.specs.declared.landing.Landing.TheVariants as l
use Rattle.pv_decide.specs.declared.landing.Verdict.TheVariants as verdict
use Rattle.pv_decide.proofs.Places.{goes_on}
use Rattle.pv_decide.proofs.Chains.{found}

pub split_at : (xs : List ℕ) (h : ℕ) → Contains xs h → (G B : List ℕ) × (xs ≡ G ++ h ∷ B)
split_at [] h (k, less, e) = absurd (omega arith)
split_at (x ∷ xs) h (zero, less, e) = ([], xs, ap (λ (y : ℕ). y ∷ xs) e)
split_at (x ∷ xs) h (suc k, less, e) = let z = split_at xs h (k, omega arith, e) in (x ∷ z.0, z.1, ap (λ (y : List ℕ). x ∷ y) z.2)

has_head : (h : ℕ) (B : List ℕ) → Contains (h ∷ B) h
has_head h B = (0, omega arith, refl)

-- a list that is its own end
pub no_front : (G R : List ℕ) → R ≡ G ++ R → G ≡ []
no_front [] R e = refl
no_front (g ∷ G) R e = absurd (let z : length R ≡ length ((g ∷ G) ++ R) = ap length e in let y : length ((g ∷ G) ++ R) ≡ length (g ∷ G) + length R = length-append (g ∷ G) R in omega arith)

pub one_front : (G R : List ℕ) (m : ℕ) → m ∷ R ≡ G ++ R → G ≡ m ∷ []
one_front [] R m e = absurd (let z : suc (length R) ≡ length R = ap length e in omega arith)
one_front (g ∷ G) R m e = let z : m ≡ g = cc in let q : R ≡ G ++ R = cc in let y = no_front G R q in cc

-- where the region's loop is left
leaving_head : (R B : List ℕ) (m : ℕ) (d : Dest) → R ≡ m ∷ B → d ≡ To m → leaving d R ≡ false_exp
leaving_head R B m d e h = subst₂ (λ (d : Dest) (R : List ℕ). leaving d R ≡ false_exp) (sym h) (sym e) (at_self (eqb_tells m m))
  where
    at_self : ((m == m ≡ true) × (m ≡ m)) ⊎ ((m == m ≡ false) × (m ≢ m)) → (if m == m then false_exp else true_exp) ≡ false_exp
    at_self (inl z) = ap (λ (t : Bool). if t then false_exp else true_exp) z.0
    at_self (inr z) = absurd (z.1 refl)

leaving_other : (R : List ℕ) (m : ℕ) (d : Dest) → d ≡ To m → ((h : ℕ) (B : List ℕ) → R ≡ h ∷ B → m ≢ h) → leaving d R ≡ true_exp
leaving_other R m d h n = subst (λ (d : Dest). leaving d R ≡ true_exp) (sym h) (go R n)
  where
    go : (R : List ℕ) → ((h : ℕ) (B : List ℕ) → R ≡ h ∷ B → m ≢ h) → leaving (To m) R ≡ true_exp
    go [] n = refl
    go (h ∷ B) n = ⊎_elim (λ z. absurd (n h B refl z.1)) (λ z. ap (λ (t : Bool). if t then false_exp else true_exp) z.0) (eqb_tells m h)

leaving_end : (R : List ℕ) (k : Kind) (d : Dest) → d ≡ End k → leaving d R ≡ true_exp
leaving_end R k d h = subst (λ (d : Dest). leaving d R ≡ true_exp) (sym h) refl

module _ (f : Flow) (v : Values) (s b : ℕ) (F : List ℕ) (x : Exit) (q : Option Exp) where
  -- at an end of the method
  end_node : (R : List ℕ) (n : ℕ) (k : Kind) → AtPlace f v R (Node n) s F b x (Ended k) q → q ≡ None
  end_node [] n k a = a
  end_node (h ∷ B) n k a = a

  end_back : (R : List ℕ) (k : Kind) → AtPlace f v R Back s F b x (Ended k) q → q ≡ None
  end_back [] k a = a
  end_back (h ∷ B) k a = a

  end_leaving : (R : List ℕ) (k : Kind) → AtPlace f v R Leaving s F b x (Ended k) q → q ≡ Some true_exp
  end_leaving [] k a = a
  end_leaving (h ∷ B) k a = a

  end_throw : (R : List ℕ) → AtPlace f v R Returning s F b x (Ended Throw) q → q ≡ None
  end_throw [] a = a
  end_throw (h ∷ B) a = a

  end_loop : (R B : List ℕ) (h : ℕ) (k : Kind) → R ≡ h ∷ B → AtPlace f v R Finish s F b x (Ended k) q → q ≡ None
  end_loop R B h k e a = subst (λ (R : List ℕ). AtPlace f v R Finish s F b x (Ended k) q) e a

  end_loop_return : (R B : List ℕ) (h : ℕ) (k : Kind) → R ≡ h ∷ B → AtPlace f v R Returning s F b x (Ended k) q → q ≡ None
  end_loop_return R B h k e a = go k (subst (λ (R : List ℕ). AtPlace f v R Returning s F b x (Ended k) q) e a)
    where
      go : (k : Kind) → AtPlace f v (h ∷ B) Returning s F b x (Ended k) q → q ≡ None
      go Return a = a
      go Throw a = a

module _ (f : Flow) (rank : ℕ → ℕ) (sites : List Site) (under : IsUnder f rank sites) where
  -- the loops around a block in the code are those of the flow of equations
  pub around_is : (b h : ℕ) → IsAround sites b h → (G B : List ℕ) × (f.around b ≡ G ++ h ∷ B)
  around_is b h (k, here, has) = split_at (f.around b) h (subst (λ (xs : List ℕ). Contains xs h) ((under.stand b k here).0) has)

  pub is_around : (b h : ℕ) (G B : List ℕ) → b < length sites → f.around b ≡ G ++ h ∷ B → IsAround sites b h
  is_around b h G B less e =
      let k = found sites b less in
      (k.0, k.1, subst (λ (xs : List ℕ). Contains xs h) (sym e ∙ sym (under.stand b k.0 k.1).0) (Contains-append_right G (h ∷ B) h (has_head h B)))

  -- an edge to the header of a loop around its block doesn't go to a higher rank
  pub not_on : (b m : ℕ) → IsAround sites b m → rank b < rank m → ⊥
  not_on b m i o = let z = around_is b m i in let y = (under.shape.headers b m z.0 z.1 z.2).1 in absurd (omega arith)

module _ (f : Flow) (rank : ℕ → ℕ) (sites : List Site) (r : scope.Scope) (t : aim.Target) (placed : IsPlaced f rank sites r t) where
  pub inside_is : (b : ℕ) → Inside sites r b → (G : List ℕ) × (f.around b ≡ G ++ loops_of f r)
  inside_is b = go r
    where
      go : (r : scope.Scope) → Inside sites r b → (G : List ℕ) × (f.around b ≡ G ++ loops_of f r)
      go Whole i = (f.around b, sym (append-nil (f.around b)))
      go (Loop h) i =
          let s = around_is f rank sites placed.under b h i in
          (s.0, s.2 ∙ ap (λ (A : List ℕ). s.0 ++ A) (sym (placed.under.shape.headers b h s.0 s.1 s.2).0))

  pub is_inside : (b : ℕ) (G : List ℕ) → b < length sites → f.around b ≡ G ++ loops_of f r → Inside sites r b
  is_inside b G less e = go r placed.region e
    where
      go : (r : scope.Scope) → ((h : ℕ) → r ≡ Loop h → Heads (f.around h) h) → f.around b ≡ G ++ loops_of f r → Inside sites r b
      go Whole n e = tt
      go (Loop h) n e = let a = n h refl in is_around f rank sites placed.under b h G a.0 less (e ∙ ap (λ (A : List ℕ). G ++ A) a.1)

  module _ (order : List ℕ) (ordered : AreOrdered sites order) (v : Values) (s b : ℕ) (F : List ℕ) (around : f.around b ≡ F ++ loops_of f r) (low : b < length sites) (x : Exit) (inc : InChain (f.chain b) x) (q : Option Exp) where
    -- what the answer makes of the exit
    abbrev pub Makes : aim.Target → Verdict → Type 0
    Makes t verdict.Leaf = q ≡ Some (exit_gives f v (loops_of f r) (target_of t) s F b x)
    Makes t (verdict.Goes m) = (place_of order b < place_of order m) × (m < length sites) × (G : List ℕ) × (f.around m ≡ G ++ loops_of f r) × (q ≡ v.tree (loops_of f r) (target_of t) s G m)
    Makes t verdict.Nothing = q ≡ None

    -- .. and of an end that is looked for
    abbrev EndMakes : scope.Scope → Type 0
    EndMakes Whole = q ≡ Some (leaf v f F b x s)
    EndMakes (Loop h) = q ≡ None

    end_exit : (r : scope.Scope) → EndMakes r → Makes target.Exit (verdict_end r)
    end_exit Whole e = e
    end_exit (Loop h) e = e

    end_return : (r : scope.Scope) → EndMakes r → Makes target.Return (verdict_end r)
    end_return Whole e = e
    end_return (Loop h) e = e

    on_around : (G : List ℕ) (k m : ℕ) → About f rank (loops_of f r) F b m (On G k) → f.around m ≡ G ++ loops_of f r
    on_around G k m (e, less, ne, C, X, x, inl z) = z.1 ∙ ap (λ (A : List ℕ). A ++ loops_of f r) (sym z.0)
    on_around G k m (e, less, ne, C, X, x, inr z) = z.1 ∙ ap (λ (A : List ℕ). A ++ loops_of f r) (sym z.0)

    on_node : (n k : ℕ) (G : List ℕ) → place_of order b < place_of order k → k < length sites → f.around k ≡ G ++ loops_of f r → IsAimed f (loops_of f r) (Node n) → AtPlace f v (loops_of f r) (Node n) s F b x (On G k) q
        → Makes (target.Node n) (if k == n then verdict.Leaf else verdict.Goes k)
    on_node n k G later less a aimed at = ⊎_elim
        (λ z. subst (λ (t : Bool). Makes (target.Node n) (if t then verdict.Leaf else verdict.Goes k)) (sym z.0) (⊎_elim (λ y. y.2) (λ y. absurd (none z.1 y.0)) at))
        (λ z. subst (λ (t : Bool). Makes (target.Node n) (if t then verdict.Leaf else verdict.Goes k)) (sym z.0) (⊎_elim (λ y. absurd (z.1 y.1)) (λ y. (later, less, G, a, y.1)) at))
        (eqb_tells k n)
      where
        fronts : k ≡ n → (G ≢ []) × (G ≢ k ∷ []) → IsAimed f (loops_of f r) (Node n) → ⊥
        fronts e (g, h) (inl i) = g (no_front G (loops_of f r) (i ∙ ap f.around (sym e) ∙ a))
        fronts e (g, h) (inr i) = h (one_front G (loops_of f r) k (ap (λ (k : ℕ). k ∷ loops_of f r) e ∙ sym i ∙ ap f.around (sym e) ∙ a))

        none : k ≡ n → (k ≢ n) ⊎ ((G ≢ []) × (G ≢ k ∷ [])) → ⊥
        none e (inl ne) = ne e
        none e (inr g) = fronts e g aimed

    at_on : (t : aim.Target) (k : ℕ) (G : List ℕ) → place_of order b < place_of order k → k < length sites → f.around k ≡ G ++ loops_of f r → IsAimed f (loops_of f r) (target_of t) → AtPlace f v (loops_of f r) (target_of t) s F b x (On G k) q → Makes t (verdict_of r t (l.On k))
    at_on (target.Node n) k G later less a aimed at = on_node n k G later less a aimed at
    at_on target.Back k G later less a aimed at = (later, less, G, a, at)
    at_on target.Exit k G later less a aimed at = (later, less, G, a, at)
    at_on target.Return k G later less a aimed at = (later, less, G, a, at)
    at_on target.Leave k G later less a aimed at = (later, less, G, a, at)

    at_again : (t : aim.Target) → AtPlace f v (loops_of f r) (target_of t) s F b x Again q → Makes t (verdict_of r t l.Again)
    at_again (target.Node n) at = at
    at_again target.Back at = at
    at_again target.Exit at = at
    at_again target.Return at = at
    at_again target.Leave at = at

    at_header : (t : aim.Target) (m : ℕ) → x.dest ≡ To m → Heads (loops_of f r) m → AtPlace f v (loops_of f r) (target_of t) s F b x Header q → Makes t (verdict_of r t l.Header)
    at_header (target.Node n) m d hd at = at
    at_header target.Back m d hd at = at
    at_header target.Exit m d hd at = at
    at_header target.Return m d hd at = at
    at_header target.Leave m d hd at = at ∙ ap Some (sym (leaving_head (loops_of f r) hd.0 m x.dest hd.1 d))

    at_gone : (t : aim.Target) (m : ℕ) → x.dest ≡ To m → ((h : ℕ) (B : List ℕ) → loops_of f r ≡ h ∷ B → m ≢ h) → AtPlace f v (loops_of f r) (target_of t) s F b x Gone q → Makes t (verdict_of r t l.Gone)
    at_gone (target.Node n) m d ne at = at
    at_gone target.Back m d ne at = at
    at_gone target.Exit m d ne at = at
    at_gone target.Return m d ne at = at
    at_gone target.Leave m d ne at = at ∙ ap Some (sym (leaving_other (loops_of f r) m x.dest d ne))

    at_returns : (t : aim.Target) → x.dest ≡ End Return → AtPlace f v (loops_of f r) (target_of t) s F b x (Ended Return) q → Makes t (verdict_of r t l.Returns)
    at_returns (target.Node n) d at = end_node f v s b F x q (loops_of f r) n Return at
    at_returns target.Back d at = end_back f v s b F x q (loops_of f r) Return at
    at_returns target.Leave d at = end_leaving f v s b F x q (loops_of f r) Return at ∙ ap Some (sym (leaving_end (loops_of f r) Return x.dest d))
    at_returns target.Exit d at = end_exit r (go r placed.region at)
      where
        go : (r : scope.Scope) → ((h : ℕ) → r ≡ Loop h → Heads (f.around h) h) → AtPlace f v (loops_of f r) Finish s F b x (Ended Return) q → EndMakes r
        go Whole n at = at
        go (Loop h) n at = let a = n h refl in end_loop f v s b F x q (f.around h) a.0 h Return a.1 at
    at_returns target.Return d at = end_return r (go r placed.region at)
      where
        go : (r : scope.Scope) → ((h : ℕ) → r ≡ Loop h → Heads (f.around h) h) → AtPlace f v (loops_of f r) Returning s F b x (Ended Return) q → EndMakes r
        go Whole n at = at
        go (Loop h) n at = let a = n h refl in end_loop_return f v s b F x q (f.around h) a.0 h Return a.1 at

    at_throws : (t : aim.Target) → x.dest ≡ End Throw → AtPlace f v (loops_of f r) (target_of t) s F b x (Ended Throw) q → Makes t (verdict_of r t l.Throws)
    at_throws (target.Node n) d at = end_node f v s b F x q (loops_of f r) n Throw at
    at_throws target.Back d at = end_back f v s b F x q (loops_of f r) Throw at
    at_throws target.Leave d at = end_leaving f v s b F x q (loops_of f r) Throw at ∙ ap Some (sym (leaving_end (loops_of f r) Throw x.dest d))
    at_throws target.Return d at = end_throw f v s b F x q (loops_of f r) at
    at_throws target.Exit d at = end_exit r (go r placed.region at)
      where
        go : (r : scope.Scope) → ((h : ℕ) → r ≡ Loop h → Heads (f.around h) h) → AtPlace f v (loops_of f r) Finish s F b x (Ended Throw) q → EndMakes r
        go Whole n at = at
        go (Loop h) n at = let a = n h refl in end_loop f v s b F x q (f.around h) a.0 h Throw a.1 at

    header_loop : (m : ℕ) → Heads (loops_of f r) m → r ≡ Loop m
    header_loop m hd = go r placed.region hd
      where
        go : (r : scope.Scope) → ((h : ℕ) → r ≡ Loop h → Heads (f.around h) h) → Heads (loops_of f r) m → r ≡ Loop m
        go Whole n hd = absurd (let e = hd.1 in cc)
        go (Loop h) n hd = let a = n h refl in let e : h ∷ a.0 ≡ m ∷ hd.0 = sym a.1 ∙ hd.1 in let y : h ≡ m = cc in ap Loop y

    -- an edge to the region's header, or back to a loop that is walked
    header_around : (m : ℕ) → Heads (loops_of f r) m → IsAround sites b m
    header_around m hd = is_around f rank sites placed.under b m F hd.0 low (around ∙ ap (λ (A : List ℕ). F ++ A) hd.1)

    again_around : (m : ℕ) (C X : List ℕ) → F ≡ C ++ m ∷ X → IsAround sites b m
    again_around m C X e = is_around f rank sites placed.under b m C (X ++ loops_of f r) low (around ∙ ap (λ (A : List ℕ). A ++ loops_of f r) e ∙ append_assoc C (m ∷ X) (loops_of f r))

    again_other : (m : ℕ) (X : List ℕ) → f.around m ≡ m ∷ (X ++ loops_of f r) → r ≢ Loop m
    again_other m X a e =
        let y : f.around m ≡ m ∷ (X ++ f.around m) = subst (λ (r : scope.Scope). f.around m ≡ m ∷ (X ++ loops_of f r)) e a in
        let z : length (f.around m) ≡ suc (length (X ++ f.around m)) = ap length y in
        let w : length (X ++ f.around m) ≡ length X + length (f.around m) = length-append X (f.around m) in
        absurd (omega arith)

    gone_other : (m : ℕ) → ((B : List ℕ) → f.around m ≢ B ++ loops_of f r) → (h : ℕ) (B : List ℕ) → loops_of f r ≡ h ∷ B → m ≢ h
    gone_other m g h B e w = let y = header_loop h (B, e) in g [] (subst (λ (r : scope.Scope). f.around m ≡ loops_of f r) (sym y) (ap f.around w))

    pub to_block : (m : ℕ) (lan : Landing) (p : Place) → x.dest ≡ To m → m < length sites → GoesTo sites b m → IsLanding sites r b (dest.To m) lan → About f rank (loops_of f r) F b m p → AtPlace f v (loops_of f r) (target_of t) s F b x p q
        → Makes t (verdict_of r t lan)
    to_block m (l.On n) (On G k) d less goes (e, i, un) ab at =
        let same : k ≡ n = ab.0 ∙ sym e in
        let on : place_of order b < place_of order m = goes_on sites order ordered b m low less goes un in
        at_on t n G (subst (λ (n : ℕ). place_of order b < place_of order n) (sym e) on) (subst (λ (n : ℕ). n < length sites) (sym e) less) (ap f.around e ∙ on_around G k m ab) placed.target
        (subst (λ (k : ℕ). AtPlace f v (loops_of f r) (target_of t) s F b x (On G k) q) same at)
    to_block m (l.On n) Again d less goes (e, i, un) ab at = absurd (un (again_around m ab.0 ab.1 ab.2))
    to_block m (l.On n) Header d less goes (e, i, un) ab at = absurd (un (header_around m ab.0))
    to_block m (l.On n) Gone d less goes (e, i, un) ab at = absurd (let z = inside_is m i in ab z.0 z.1)
    to_block m (l.On n) (Ended k) d less goes il ab at = absurd ab
    to_block m l.Gone (On G k) d less goes il ab at = absurd (il (is_inside m G less (on_around G k m ab)))
    to_block m l.Gone Again d less goes il ab at = absurd (il (is_inside m (m ∷ ab.1) less ab.3))
    to_block m l.Gone Header d less goes il ab at = absurd (il (is_inside m [] less ab.1))
    to_block m l.Gone Gone d less goes il ab at = at_gone t m d (gone_other m ab) at
    to_block m l.Gone (Ended k) d less goes il ab at = absurd ab
    to_block m l.Header (On G k) d less goes (i, o, e) ab at = absurd (not_on f rank sites placed.under b m o ab.1)
    to_block m l.Header Again d less goes (i, o, e) ab at = absurd (again_other m ab.1 ab.3 e)
    to_block m l.Header Header d less goes il ab at = at_header t m d ab.0 at
    to_block m l.Header Gone d less goes (i, o, e) ab at = absurd (let z = inside_is m i in ab z.0 z.1)
    to_block m l.Header (Ended k) d less goes il ab at = absurd ab
    to_block m l.Again (On G k) d less goes (i, o, e) ab at = absurd (not_on f rank sites placed.under b m o ab.1)
    to_block m l.Again Again d less goes il ab at = at_again t at
    to_block m l.Again Header d less goes (i, o, e) ab at = absurd (e (header_loop m ab.0))
    to_block m l.Again Gone d less goes (i, o, e) ab at = absurd (let z = inside_is m i in ab z.0 z.1)
    to_block m l.Again (Ended k) d less goes il ab at = absurd ab
    to_block m l.Returns p d less goes il ab at = absurd il
    to_block m l.Throws p d less goes il ab at = absurd il

    -- what the answer makes of an exit is what the equations say
    pub exit_makes : (d : code.Exit) (lan : Landing) → x.dest ≡ dest_of d → IsInRange sites d → ((m : ℕ) → d ≡ dest.To m → GoesTo sites b m) → IsLanding sites r b d lan → IsExit f v (loops_of f r) (target_of t) s F b x q → Makes t (verdict_of r t lan)
    exit_makes (dest.To m) lan e less goes il is = to_block m lan is.0 e less (goes m refl) il (about f rank placed.under.shape (loops_of f r) F b m x is.0 around inc e is.1) is.2
    exit_makes dest.Return l.Returns e less goes il is =
        let p : is.0 ≡ Ended Return = subst (λ (d : Dest). Seen f (loops_of f r) F d is.0) e is.1 in
        at_returns t e (subst (λ (p : Place). AtPlace f v (loops_of f r) (target_of t) s F b x p q) p is.2)
    exit_makes dest.Throw l.Throws e less goes il is =
        let p : is.0 ≡ Ended Throw = subst (λ (d : Dest). Seen f (loops_of f r) F d is.0) e is.1 in
        at_throws t e (subst (λ (p : Place). AtPlace f v (loops_of f r) (target_of t) s F b x p q) p is.2)
    exit_makes dest.Return (l.On n) e less goes il is = absurd il
    exit_makes dest.Return l.Again e less goes il is = absurd il
    exit_makes dest.Return l.Header e less goes il is = absurd il
    exit_makes dest.Return l.Gone e less goes il is = absurd il
    exit_makes dest.Return l.Throws e less goes il is = absurd il
    exit_makes dest.Throw (l.On n) e less goes il is = absurd il
    exit_makes dest.Throw l.Again e less goes il is = absurd il
    exit_makes dest.Throw l.Header e less goes il is = absurd il
    exit_makes dest.Throw l.Gone e less goes il is = absurd il
    exit_makes dest.Throw l.Returns e less goes il is = absurd il
