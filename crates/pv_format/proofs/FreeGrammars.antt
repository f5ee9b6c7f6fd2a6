-- Where a grammar that checks nothing stops, some more bytes make a text that it takes to its end; and what it takes, it takes whatever comes after.
use Rattle.std.proofs.Common.{◌≡◌, ◌≢◌, inl, inr, ℕ, zero, suc, ◌-◌, ◌<◌, Bool, true, false, List, [], ◌∷◌, ◌++◌, length, refl, sym, ap, ◌∙◌, append_assoc, arith}
use Rattle.std.proofs.lemmas.List.{length-append}
use Rattle.pv_format.specs.Grammars.{Grammar, give, here, item, check, bind, Takes, Stops}
use Rattle.pv_format.specs.FreeGrammars.{IsFree, either, many}
use Rattle.pv_format.proofs.Bytes.{IsBytes}
use Rattle.pv_format.proofs.GrammarReadings.{takes_read}

-- ---- zeros

pub zeros : ℕ → List ℕ
zeros zero = []
zeros (suc n) = 0 ∷ zeros n

pub zeros_long : (n : ℕ) → length (zeros n) ≡ n
unfolding zeros
zeros_long zero = refl
zeros_long (suc n) = ap suc (zeros_long n)

pub IsBytes-append : (t rest : List ℕ) → IsBytes t → IsBytes rest → IsBytes (t ++ rest)
IsBytes-append [] rest h k i = k i
IsBytes-append (b ∷ t) rest h k zero = h zero
IsBytes-append (b ∷ t) rest h k (suc i) = IsBytes-append t rest (λ j. h (suc j)) k i

pub zeros_bytes : (n : ℕ) → IsBytes (zeros n)
unfolding zeros
zeros_bytes zero i = omega arith
zeros_bytes (suc n) zero = omega arith
zeros_bytes (suc n) (suc i) = zeros_bytes n i

not_nil : (a b : List ℕ) → a ≢ [] → (a ++ b) ≢ []
not_nil [] b h e = h refl
not_nil (x ∷ a) b h e = absurd (cc)

-- ---- completing

-- bytes after these, with which the grammar takes all
pub record Completed {F A : Type 0} (g : Grammar F A) (bytes : List ℕ) : Type 0 where
  pub more : List ℕ
  pub small : IsBytes more
  pub item : A
  pub whole : Takes g (bytes ++ more) item []

begun : {F A : Type 0} (g : Grammar F A) → IsFree g → Completed g []
unfolding IsFree Takes
begun (give x) free = record { more = []; small = λ i. omega arith; item = x; whole = (refl, refl) }
begun (here f) free = absurd free
begun (item size after short f) free =
    let c = begun (f (zeros size)) (free.1 (zeros size)) in
    record {
      more = zeros size ++ c.more;
      small = IsBytes-append (zeros size) c.more (zeros_bytes size) c.small;
      item = c.item;
      whole = (zeros size, c.more, refl, zeros_long size, omega (arith, free.0), c.whole);
    }
begun (check c s g) free = absurd free

pub complete : {F A : Type 0} (g : Grammar F A) (bytes : List ℕ) (e : F) → IsFree g → Stops g bytes e → (c : Completed g bytes) × (c.more ≢ [])
unfolding IsFree Stops Takes
complete (give x) bytes e free h = absurd h
complete (here f) bytes e free h = absurd free
complete (item size after short f) bytes e free (inl h) =
    let fill = zeros (size - length bytes) in
    let lt : length bytes < size = omega (arith, h.0, free.0) in
    let long : length (bytes ++ fill) ≡ size = omega (arith, lt, length-append bytes fill, zeros_long (size - length bytes)) in
    let c = begun (f (bytes ++ fill)) (free.1 (bytes ++ fill)) in
    let some : fill ≢ [] = λ none. omega (arith, lt, zeros_long (size - length bytes), ap length none) in (
      record {
        more = fill ++ c.more;
        small = IsBytes-append fill c.more (zeros_bytes (size - length bytes)) c.small;
        item = c.item;
        whole = (bytes ++ fill, c.more, sym (append_assoc bytes fill c.more), long, omega (arith, free.0), c.whole);
      },
      not_nil fill c.more some,
    )
complete (item size after short f) bytes e free (inr (front, rest, parts, long, later, h)) =
    let o = complete (f front) rest e (free.1 front) h in
    let c = o.0 in (
      record {
        more = c.more;
        small = c.small;
        item = c.item;
        whole = (front, rest ++ c.more, ap (λ (u : List ℕ). u ++ c.more) parts ∙ append_assoc front rest c.more, long, omega (arith, free.0), c.whole);
      },
      o.1,
    )
complete (check c s g) bytes e free h = absurd free

-- ---- more bytes change nothing

takes_more : {F A : Type 0} (g : Grammar F A) (bytes : List ℕ) (x : A) (rest more : List ℕ) → IsFree g → Takes g bytes x rest → Takes g (bytes ++ more) x (rest ++ more)
unfolding IsFree Takes
takes_more (give y) bytes x rest more free h = (h.0, ap (λ (u : List ℕ). u ++ more) h.1)
takes_more (here f) bytes x rest more free h = absurd free
takes_more (item size after short f) bytes x rest more free (front, back, parts, long, later, h) =
    (front, back ++ more, ap (λ (u : List ℕ). u ++ more) parts ∙ append_assoc front back more, long, omega (arith, free.0), takes_more (f front) back x rest more (free.1 front) h)
takes_more (check c s g) bytes x rest more free h = absurd free

-- what is cut isn't taken
pub cut_stops : {F A : Type 0} (g : Grammar F A) (bytes more : List ℕ) (x y : A) (rest : List ℕ) → IsFree g → Takes g bytes x rest → Takes g (bytes ++ more) y [] → more ≡ []
cut_stops {A = A} g bytes more x y rest free h k =
    let one = takes_read g (bytes ++ more) x (rest ++ more) (takes_more g bytes x rest more free h) in
    let other = takes_read g (bytes ++ more) y [] k in
    let same : (x, rest ++ more) ≡ (y, []) = cc (one, other) in
    last rest (ap (λ (p : A × List ℕ). p.1) same) where
      last : (r : List ℕ) → r ++ more ≡ [] → more ≡ []
      last [] e = e
      last (b ∷ r) e = absurd (cc)

-- ---- which are free

pub bind_free : {F A B : Type 0} (g : Grammar F A) (k : A → Grammar F B) → IsFree g → ((x : A) → IsFree (k x)) → IsFree (bind g k)
unfolding IsFree bind
bind_free (give x) k free others = others x
bind_free (here f) k free others = absurd free
bind_free (item size after short f) k free others = (free.0, λ bytes. bind_free (f bytes) k (free.1 bytes) others)
bind_free (check c s g) k free others = absurd free

pub many_free : {F A : Type 0} (n : ℕ) (g : Grammar F A) → IsFree g → IsFree (many n g)
unfolding many IsFree bind
many_free zero g free = tt
many_free (suc n) g free = bind_free g _ free (λ x. bind_free (many n g) _ (many_free n g free) (λ xs. tt))

pub either_free : {F A : Type 0} (b : Bool) (g h : Grammar F A) → IsFree g → IsFree h → IsFree (either b g h)
either_free true g h free other = free
either_free false g h free other = other
