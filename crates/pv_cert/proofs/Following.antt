-- Lines are read to lemmas and sections exactly where they are the lines of those, and to a fault exactly where that is there.
use Rattle.std.proofs.Common.{◌≡◌, ℕ, ◌+◌, List, [], ◌∷◌, ◌++◌, length, Option, Some, None, Result, Ok, Err, refl, sym, ap, subst, ◌∙◌, append_assoc, arith, add-zero, suc, ◌⊎◌, inl, inr}
use Rattle.std.proofs.lemmas.List.{append-nil}
use Rattle.pv_cert.specs.declared.cert.Version.{Version}
use Rattle.pv_cert.specs.declared.cert.Version.TheVariants.{One, Two}
use Rattle.pv_cert.specs.declared.cert.Body.{Body}
use Rattle.pv_cert.specs.declared.cert.CertFault.{CertFault}
use Rattle.pv_cert.specs.declared.cert.CertFault.TheVariants as fault
use Rattle.pv_cert.specs.Reading.{body_lines, BodyFits, MayHave, Place, between, proving, inside, next, ended, body_of, or_fault, read_lines}
use Rattle.pv_cert.specs.Faults.{Begins, AreWhole, FirstBad, BadLines}
use Rattle.pv_cert.proofs.Moves.{Lines, so_far, PlaceFits, moves, begins}
use Rattle.pv_cert.proofs.Leads.{Leads, body_leads, leads_read, read_leads}

-- before the first line
abbrev start : Place
start = between [] []

start_fits : (v : Version) → PlaceFits v start
start_fits v = record { lemmas_ = tt; sections_ = tt; may_have = none v; may = tt }
  where
    none : (v : Version) → MayHave v []
    none One = refl
    none Two = tt

-- the lines so far are known where lines lead
led : (v : Version) (p q : Place) (lines : Lines) → Leads v p lines q → PlaceFits v p → PlaceFits v q × (so_far q ≡ so_far p ++ lines)
led v p q [] leads fits = (subst (PlaceFits v) leads fits, ap so_far (sym leads) ∙ sym (append-nil (so_far p)))
led v p q (line ∷ lines) leads fits =
    let m = moves v p line leads.0 leads.1 in
    let rest = led v leads.0 q lines leads.2 (m.fits fits) in
    (rest.0, rest.1 ∙ ap (λ (r : Lines). r ++ lines) m.lines ∙ append_assoc (so_far p) (line ∷ []) lines)

led_from_start : (v : Version) (q : Place) (lines : Lines) → Leads v start lines q → PlaceFits v q × (so_far q ≡ lines)
led_from_start v q lines leads = led v start q lines leads (start_fits v)

-- what has been read at the end has these lines
whole : (v : Version) (q : Place) (lines : Lines) (b : Body) → ended q ≡ Ok b → PlaceFits v q → so_far q ≡ lines → BodyFits v b × (body_lines b ≡ lines)
whole v (between lemmas sections) lines b e fits is =
    let same : body_of lemmas sections ≡ b = ok_is (Ok (body_of lemmas sections)) (body_of lemmas sections) b refl e in
    (subst (BodyFits v) same fits, ap body_lines (sym same) ∙ is)
  where
    ok_is : (r : Result Body CertFault) (a b : Body) → r ≡ Ok a → r ≡ Ok b → a ≡ b
    ok_is r a b p q = cc
whole v (proving lemmas vars steps) lines b e fits is = absurd (cc)
whole v (inside lemmas sections title steps) lines b e fits is = absurd (cc)

-- what is read has these lines
pub lines_back : (v : Version) (n : ℕ) (lines : Lines) (b : Body) → read_lines v n start lines ≡ Ok b → BodyFits v b × (body_lines b ≡ lines)
lines_back v n lines b e =
    let r = read_leads v n start lines b e in
    let l = led_from_start v r.0 lines r.1 in
    whole v r.0 lines b r.2 l.0 l.1

-- what has these lines is read
pub lines_again : (v : Version) (n : ℕ) (b : Body) → BodyFits v b → read_lines v n start (body_lines b) ≡ Ok b
lines_again v n b fits = ap (read_lines v n start) (sym (append-nil (body_lines b))) ∙ leads_read v n start (between b.lemmas b.sections) (body_lines b) [] (body_leads v b fits)

-- ---- where reading stops

abbrev Stops : Version → ℕ → Place → Lines → CertFault → Type 0
Stops v n p lines fault.Truncated = (q : Place) × Leads v p lines q × (ended q ≡ Err fault.Truncated)
Stops v n p lines (fault.Step k) = (front : Lines) × (line : List ℕ) × (back : Lines) × (q : Place) × Leads v p front q × (next v q line ≡ None) × (lines ≡ front ++ line ∷ back) × (k ≡ n + length front)
Stops v n p lines fault.Header = ⊥
Stops v n p lines fault.Memory = ⊥

refused : (n : ℕ) (o : Option Place) (go : Place → Result Body CertFault) (f : CertFault) → or_fault n go o ≡ Err f → ((o ≡ None) × (f ≡ fault.Step n)) ⊎ ((q : Place) × (o ≡ Some q) × (go q ≡ Err f))
refused n None go f e = inl (refl, cc)
refused n (Some q) go f e = inr (q, refl, e)

err_is : (r : Result Body CertFault) (a b : CertFault) → r ≡ Err a → r ≡ Err b → a ≡ b
err_is r a b p q = cc

stops_later : (v : Version) (n : ℕ) (p q : Place) (line : List ℕ) (lines : Lines) (f : CertFault) → next v p line ≡ Some q → Stops v (n + 1) q lines f → Stops v n p (line ∷ lines) f
stops_later v n p q line lines fault.Truncated e s = (s.0, (q, e, s.1), s.2)
stops_later v n p q line lines (fault.Step k) e s = (line ∷ s.0, s.1, s.2, s.3, (q, e, s.4), s.5, ap (λ (r : Lines). line ∷ r) s.6, s.7 ∙ one_more n (length s.0))
  where
    one_more : (n k : ℕ) → (n + 1) + k ≡ n + suc k
    one_more n k = omega arith
stops_later v n p q line lines fault.Header e s = absurd s
stops_later v n p q line lines fault.Memory e s = absurd s

stops_at_end : (v : Version) (n : ℕ) (p : Place) (f : CertFault) → ended p ≡ Err f → Stops v n p [] f
stops_at_end v n (between lemmas sections) f e = absurd (cc)
stops_at_end v n (proving lemmas vars steps) f e = subst (Stops v n (proving lemmas vars steps) []) (err_is (Err fault.Truncated) fault.Truncated f refl e) (proving lemmas vars steps, refl, refl)
stops_at_end v n (inside lemmas sections title steps) f e = subst (Stops v n (inside lemmas sections title steps) []) (err_is (Err fault.Truncated) fault.Truncated f refl e) (inside lemmas sections title steps, refl, refl)

stops : (v : Version) (n : ℕ) (p : Place) (lines : Lines) (f : CertFault) → read_lines v n p lines ≡ Err f → Stops v n p lines f
stops v n p [] f e = stops_at_end v n p f e
stops v n p (line ∷ lines) f e =
    elim (refused n (next v p line) (λ q. read_lines v (n + 1) q lines) f e) [
      | inl here ↦ subst (Stops v n p (line ∷ lines)) (sym here.1) ([], line, lines, p, refl, here.0, refl, sym (add-zero n))
      | inr later ↦ stops_later v n p later.0 line lines f later.1 (stops v (n + 1) later.0 lines f later.2)
    ]

-- ---- faults

begins_there : (v : Version) (q : Place) (lines : Lines) → Leads v start lines q → Begins v lines
begins_there v q lines leads = let l = led_from_start v q lines leads in subst (Begins v) l.1 (begins v q l.0)

ok_or_err : (r : Result Body CertFault) (b : Body) (f : CertFault) → r ≡ Ok b → r ≡ Err f → ⊥
ok_or_err r b f p q = absurd (cc)

-- no lines of lemmas and sections go on with a line that may not stand there
none_begins : (v : Version) (q : Place) (front : Lines) (line : List ℕ) → Leads v start front q → next v q line ≡ None → Begins v (front ++ line ∷ []) → ⊥
none_begins v q front line leads none found =
    let again = lines_again v 0 found.0 found.1 in
    let read = ap (read_lines v 0 start) (found.3 ∙ append_assoc front (line ∷ []) found.2) ∙ leads_read v 0 start q front (line ∷ found.2) leads
    ∙ ap (or_fault (0 + length front) (λ q. read_lines v (0 + length front + 1) q found.2)) none in
    ok_or_err (read_lines v 0 start (body_lines found.0)) found.0 (fault.Step (0 + length front)) again read

none_whole : (v : Version) (n : ℕ) (lines : Lines) (f : CertFault) → read_lines v n start lines ≡ Err f → AreWhole v lines → ⊥
none_whole v n lines f e w = ok_or_err (read_lines v n start lines) w.0 f (ap (read_lines v n start) (sym w.2) ∙ lines_again v n w.0 w.1) e

bad_there : (v : Version) (n : ℕ) (lines : Lines) (f : CertFault) → read_lines v n start lines ≡ Err f → Stops v n start lines f → BadLines v n lines f
bad_there v n lines fault.Truncated e s = (begins_there v s.0 lines s.1, none_whole v n lines fault.Truncated e)
bad_there v n lines (fault.Step k) e s =
    (s.0, s.1, record { back = s.2; parts = s.6; begins = begins_there v s.3 s.0 s.4; bad = none_begins v s.3 s.0 s.1 s.4 s.5 }, s.7)
bad_there v n lines fault.Header e s = absurd s
bad_there v n lines fault.Memory e s = absurd s

-- where reading stops, the fault is there
pub bad_back : (v : Version) (n : ℕ) (lines : Lines) (f : CertFault) → read_lines v n start lines ≡ Err f → BadLines v n lines f
bad_back v n lines f e = bad_there v n lines f e (stops v n start lines f e)

-- a front of what begins some lemmas and sections begins them too
begins_before : (v : Version) (front back : Lines) → Begins v (front ++ back) → Begins v front
begins_before v front back found = (found.0, found.1, back ++ found.2, found.3 ∙ append_assoc front back found.2)

-- lines with a bad one among them don't begin lemmas and sections
bad_inside : (v : Version) (lines front : Lines) (line : List ℕ) → FirstBad v lines front line → Begins v lines → ⊥
bad_inside v lines front line b found = b.bad (begins_before v (front ++ line ∷ []) b.back (subst (Begins v) (b.parts ∙ sym (append_assoc front (line ∷ []) b.back)) found))

whole_begins : (v : Version) (lines : Lines) → AreWhole v lines → Begins v lines
whole_begins v lines w = (w.0, w.1, [], w.2 ∙ sym (append-nil lines))

-- of two lines of a list, one comes before the other, or their numbers are the same
order : (xs ys xr yr : Lines) (x y : List ℕ) → xs ++ x ∷ xr ≡ ys ++ y ∷ yr → (length xs ≡ length ys) ⊎ (((more : Lines) × (ys ≡ (xs ++ x ∷ []) ++ more)) ⊎ ((more : Lines) × (xs ≡ (ys ++ y ∷ []) ++ more)))
order [] [] xr yr x y e = inl refl
order [] (z ∷ ys) xr yr x y e = let first : z ≡ x = cc in inr (inl (ys, ap (λ (w : List ℕ). w ∷ ys) first))
order (z ∷ xs) [] xr yr x y e = let first : z ≡ y = cc in inr (inr (xs, ap (λ (w : List ℕ). w ∷ xs) first))
order (z ∷ xs) (w ∷ ys) xr yr x y e =
    let first : z ≡ w = cc in
    let rest : xs ++ x ∷ xr ≡ ys ++ y ∷ yr = cc in
    elim (order xs ys xr yr x y rest) [
      | inl same ↦ inl (ap suc same)
      | inr (inl more) ↦ inr (inl (more.0, ap (λ (t : List ℕ). t ∷ ys) (sym first) ∙ ap (λ (r : Lines). z ∷ r) more.1))
      | inr (inr more) ↦ inr (inr (more.0, ap (λ (t : List ℕ). t ∷ xs) first ∙ ap (λ (r : Lines). w ∷ r) more.1))
    ]

-- the first bad line is one alone
first_once : (v : Version) (lines xs ys : Lines) (x y : List ℕ) → FirstBad v lines xs x → FirstBad v lines ys y → length xs ≡ length ys
first_once v lines xs ys x y p q =
    elim (order xs ys p.back q.back x y (sym p.parts ∙ q.parts)) [
      | inl same ↦ same
      | inr (inl more) ↦ absurd (p.bad (begins_before v (xs ++ x ∷ []) more.0 (subst (Begins v) more.1 q.begins)))
      | inr (inr more) ↦ absurd (q.bad (begins_before v (ys ++ y ∷ []) more.0 (subst (Begins v) more.1 p.begins)))
    ]

-- lines have one fault at most
bad_once : (v : Version) (n : ℕ) (lines : Lines) (f g : CertFault) → BadLines v n lines f → BadLines v n lines g → f ≡ g
bad_once v n lines fault.Truncated fault.Truncated p q = refl
bad_once v n lines fault.Truncated (fault.Step k) p q = absurd (bad_inside v lines q.0 q.1 q.2 p.0)
bad_once v n lines (fault.Step k) fault.Truncated p q = absurd (bad_inside v lines p.0 p.1 p.2 q.0)
bad_once v n lines (fault.Step k) (fault.Step m) p q = ap fault.Step (p.3 ∙ ap (λ (l : ℕ). n + l) (first_once v lines p.0 q.0 p.1 q.1 p.2 q.2) ∙ sym q.3)
bad_once v n lines fault.Header g p q = absurd p
bad_once v n lines fault.Memory g p q = absurd p
bad_once v n lines f fault.Header p q = absurd q
bad_once v n lines f fault.Memory p q = absurd q

-- and none where they are all lines of some lemmas and sections
bad_or_whole : (v : Version) (n : ℕ) (lines : Lines) (f : CertFault) → BadLines v n lines f → AreWhole v lines → ⊥
bad_or_whole v n lines fault.Truncated bad w = bad.1 w
bad_or_whole v n lines (fault.Step k) bad w = bad_inside v lines bad.0 bad.1 bad.2 (whole_begins v lines w)
bad_or_whole v n lines fault.Header bad w = bad
bad_or_whole v n lines fault.Memory bad w = bad

-- the fault that is there is found
pub bad_again : (v : Version) (n : ℕ) (lines : Lines) (f : CertFault) → BadLines v n lines f → read_lines v n start lines ≡ Err f
bad_again v n lines f bad = by (read_lines v n start lines) refl
  where
    by : (r : Result Body CertFault) → read_lines v n start lines ≡ r → r ≡ Err f
    by (Ok b) e = let found = lines_back v n lines b e in absurd (bad_or_whole v n lines f bad (b, found.0, found.1))
    by (Err g) e = ap (λ (x : CertFault). Err x) (bad_once v n lines g f (bad_back v n lines g e) bad)
