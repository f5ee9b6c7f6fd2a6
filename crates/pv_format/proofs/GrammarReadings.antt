-- What is read is what the grammar takes, and the fault is that by which it stops.
use Rattle.std.proofs.Common.{◌≡◌, ◌↔◌, ◌⊎◌, ℕ, ◌+◌, ◌<◌, ◌≤◌, Bool, true, false, cond, ltb, List, ◌++◌, length, take, drop, Result, Ok, Err, inl, inr, refl, sym, ap, subst, ◌∙◌, true≢false, arith}
use Rattle.std.proofs.lemmas.Bool.{cases_lt, lt-ltb, le-ltb, false_from_ne_true}
use Rattle.std.proofs.lemmas.List.{take_at, drop_at, take-append-drop, length-take-le, length-drop, length-append}
use Rattle.pv_format.specs.Grammars.{Test, Grammar, give, here, item, check, bind, Takes, Stops}
use Rattle.pv_format.specs.GrammarReading.{read, IsRead}
use Rattle.pv_format.proofs.GrammarParts.{read_then, read_fails}

-- ---- an item, and a check

-- an item that fits, and one that doesn't
fitting : {F A : Type 0} (size after : ℕ) (short : ℕ → F) (f : List ℕ → Grammar F A) (front more : List ℕ) → length front ≡ size → after ≤ length more → read (item size after short f) (front ++ more) ≡ read (f front) more
unfolding read
fitting size after short f front more e le =
    let long = length-append front more in
    let test : ltb (length (front ++ more)) (size + after) ≡ false = le-ltb (length (front ++ more)) (size + after) (omega arith) in
    rw (test, take_at front more size e, drop_at front more size e) refl

not_fitting : {F A : Type 0} (size after : ℕ) (short : ℕ → F) (f : List ℕ → Grammar F A) (bytes : List ℕ) → length bytes < size + after → read (item size after short f) bytes ≡ Err (short (length bytes))
unfolding read
not_fitting size after short f bytes lt = rw (lt-ltb (length bytes) (size + after) lt) refl

-- what is read after an item, or after a check that passes, is read of both
after_item : {F A : Type 0} (size after : ℕ) (short : ℕ → F) (f : List ℕ → Grammar F A) (front more : List ℕ) (r : Result (A × List ℕ) F) → length front ≡ size → after ≤ length more → IsRead (f front) more r → IsRead (item size after short f) (front ++ more) r
unfolding Takes Stops
after_item size after short f front more (Ok (x, rest)) long later h = (front, more, refl, long, later, h)
after_item size after short f front more (Err e) long later h = inr (front, more, refl, long, later, h)

after_check : {F A : Type 0} (c : Test) (e : F) (g : Grammar F A) (bytes : List ℕ) (r : Result (A × List ℕ) F) → c.Holds → IsRead g bytes r → IsRead (check c e g) bytes r
unfolding Takes Stops
after_check c e g bytes (Ok (x, rest)) holds h = (holds, h)
after_check c e g bytes (Err s) holds h = inr (holds, h)

-- ---- what is read is what there is to answer

pub is_read : {F A : Type 0} (g : Grammar F A) (bytes : List ℕ) → IsRead g bytes (read g bytes)
unfolding read Takes Stops
is_read (give x) bytes = (refl, refl)
is_read (here f) bytes = is_here (read (f (length bytes)) bytes) (is_read (f (length bytes)) bytes)
  where
    is_here : (r : Result _ _) → IsRead (f (length bytes)) bytes r → IsRead (here f) bytes r
    is_here (Ok (x, rest)) h = h
    is_here (Err e) h = h
is_read (item size after short f) bytes =
    elim (cases_lt (length bytes) (size + after)) [
      | inl lt ↦ subst (IsRead (item size after short f) bytes) (sym (not_fitting size after short f bytes lt)) (inl (lt, refl))
      | inr le ↦
          let front = take size bytes in
          let more = drop size bytes in
          let later : after ≤ length more = omega (arith, length-drop size bytes) in
          let long = length-take-le size bytes (omega arith) in
          let one = after_item size after short f front more (read (f front) more) long later (is_read (f front) more) in
          let both = subst (IsRead (item size after short f) (front ++ more)) (sym (fitting size after short f front more long later)) one in
          subst (λ (u : List ℕ). IsRead (item size after short f) u (read (item size after short f) u)) (take-append-drop size bytes) both
    ]
is_read (check c e g) bytes = by c.tells refl (is_read g bytes)
  where
    by : (b : Bool) → c.tells ≡ b → IsRead g bytes (read g bytes) → IsRead (check c e g) bytes (cond b (read g bytes) (Err e))
    by true told h = after_check c e g bytes (read g bytes) (c.law.0 told) h
    by false told h = inl (λ p. true≢false (sym (c.law.1 p) ∙ told), refl)

-- and nothing else is
pub read_once : {F A : Type 0} (g : Grammar F A) (bytes : List ℕ) (r : Result (A × List ℕ) F) → IsRead g bytes r → read g bytes ≡ r
unfolding read Takes Stops
read_once (give y) bytes (Ok (x, rest)) (e, f) = ap Ok (cc (e, f))
read_once (give y) bytes (Err e) h = absurd h
read_once (here f) bytes (Ok (x, rest)) h = read_once (f (length bytes)) bytes (Ok (x, rest)) h
read_once (here f) bytes (Err e) h = read_once (f (length bytes)) bytes (Err e) h
read_once (item size after short f) bytes (Ok (x, rest)) (front, more, parts, long, later, h) = ap (read (item size after short f)) parts ∙ fitting size after short f front more long later ∙ read_once (f front) more (Ok (x, rest)) h
read_once (item size after short f) bytes (Err e) (inl (lt, is)) = not_fitting size after short f bytes lt ∙ ap Err (sym is)
read_once (item size after short f) bytes (Err e) (inr (front, more, parts, long, later, h)) = ap (read (item size after short f)) parts ∙ fitting size after short f front more long later ∙ read_once (f front) more (Err e) h
read_once (check c s g) bytes (Ok (x, rest)) (p, h) = rw (c.law.1 p) (read_once g bytes (Ok (x, rest)) h)
read_once (check c s g) bytes (Err e) (inl (none, is)) = rw (false_from_ne_true c.tells (λ told. none (c.law.0 told))) (ap Err (sym is))
read_once (check c s g) bytes (Err e) (inr (p, h)) = rw (c.law.1 p) (read_once g bytes (Err e) h)

-- Of any bytes the grammar takes a front, or it stops; this is what is read, and nothing else is.
pub read_law : {F A : Type 0} (g : Grammar F A) (bytes : List ℕ) (r : Result (A × List ℕ) F) → (read g bytes ≡ r) ↔ IsRead g bytes r
read_law g bytes r = (λ e. subst (IsRead g bytes) e (is_read g bytes), read_once g bytes r)

pub read_takes : {F A : Type 0} (g : Grammar F A) (bytes : List ℕ) (x : A) (rest : List ℕ) → read g bytes ≡ Ok (x, rest) → Takes g bytes x rest
read_takes g bytes x rest e = subst (IsRead g bytes) e (is_read g bytes)

pub takes_read : {F A : Type 0} (g : Grammar F A) (bytes : List ℕ) (x : A) (rest : List ℕ) → Takes g bytes x rest → read g bytes ≡ Ok (x, rest)
takes_read g bytes x rest h = read_once g bytes (Ok (x, rest)) h

pub read_stops : {F A : Type 0} (g : Grammar F A) (bytes : List ℕ) (e : F) → read g bytes ≡ Err e → Stops g bytes e
read_stops g bytes e h = subst (IsRead g bytes) h (is_read g bytes)

pub stops_read : {F A : Type 0} (g : Grammar F A) (bytes : List ℕ) (e : F) → Stops g bytes e → read g bytes ≡ Err e
stops_read g bytes e h = read_once g bytes (Err e) h

-- ---- one after the other

pub stops_first : {F A B : Type 0} (g : Grammar F A) (k : A → Grammar F B) (bytes : List ℕ) (e : F) → Stops g bytes e → Stops (bind g k) bytes e
stops_first g k bytes e h = read_stops (bind g k) bytes e (read_fails g k bytes e (stops_read g bytes e h))

-- what is read of the second after the first was taken is read of both
pub takes_both : {F A B : Type 0} (g : Grammar F A) (k : A → Grammar F B) (bytes : List ℕ) (x : A) (mid : List ℕ) (r : Result (B × List ℕ) F) → Takes g bytes x mid → IsRead (k x) mid r → IsRead (bind g k) bytes r
takes_both g k bytes x mid r t h = (read_law (bind g k) bytes r).0 (read_then g k bytes x mid (takes_read g bytes x mid t) ∙ read_once (k x) mid r h)

-- of both, the first stops, or it is taken and the rest is read of the second
pub both_read : {F A B : Type 0} (g : Grammar F A) (k : A → Grammar F B) (bytes : List ℕ) (r : Result (B × List ℕ) F) → IsRead (bind g k) bytes r → ((e : F) × Stops g bytes e × (r ≡ Err e)) ⊎ ((x : A) × (mid : List ℕ) × Takes g bytes x mid × IsRead (k x) mid r)
both_read {F = F} {A = A} {B = B} g k bytes r h = by (read g bytes) refl
  where
    is : read (bind g k) bytes ≡ r
    is = read_once (bind g k) bytes r h

    by : (q : Result (A × List ℕ) F) → read g bytes ≡ q → ((e : F) × Stops g bytes e × (r ≡ Err e)) ⊎ ((x : A) × (mid : List ℕ) × Takes g bytes x mid × IsRead (k x) mid r)
    by (Ok (x, mid)) e = inr (x, mid, read_takes g bytes x mid e, (read_law (k x) mid r).0 (sym (read_then g k bytes x mid e) ∙ is))
    by (Err e) s = inl (e, read_stops g bytes e s, sym is ∙ read_fails g k bytes e s)

pub takes_then : {F A B : Type 0} (g : Grammar F A) (k : A → Grammar F B) (bytes : List ℕ) (x : A) (mid : List ℕ) (y : B) (rest : List ℕ) → Takes g bytes x mid → Takes (k x) mid y rest → Takes (bind g k) bytes y rest
takes_then g k bytes x mid y rest t h = takes_both g k bytes x mid (Ok (y, rest)) t h

pub stops_then : {F A B : Type 0} (g : Grammar F A) (k : A → Grammar F B) (bytes : List ℕ) (x : A) (rest : List ℕ) (e : F) → Takes g bytes x rest → Stops (k x) rest e → Stops (bind g k) bytes e
stops_then g k bytes x rest e t h = takes_both g k bytes x rest (Err e) t h

pub then_takes : {F A B : Type 0} (g : Grammar F A) (k : A → Grammar F B) (bytes : List ℕ) (y : B) (rest : List ℕ) → Takes (bind g k) bytes y rest → (x : A) × (mid : List ℕ) × Takes g bytes x mid × Takes (k x) mid y rest
then_takes g k bytes y rest h = elim (both_read g k bytes (Ok (y, rest)) h) [ inl s ↦ let no = s.2 in absurd (cc (no)) | inr p ↦ p ]

pub then_stops : {F A B : Type 0} (g : Grammar F A) (k : A → Grammar F B) (bytes : List ℕ) (e : F) → Stops (bind g k) bytes e → Stops g bytes e ⊎ ((x : A) × (rest : List ℕ) × Takes g bytes x rest × Stops (k x) rest e)
then_stops g k bytes e h = elim (both_read g k bytes (Err e) h) [ inl s ↦ let same : s.0 ≡ e = let is = s.2 in cc in inl (subst (Stops g bytes) same s.1) | inr p ↦ inr p ]
