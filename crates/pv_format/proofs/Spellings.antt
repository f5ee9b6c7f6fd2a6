-- The items that a grammar takes: which text spells an item, what it must meet to fit, and what is read of it.
use Rattle.std.proofs.Common.{◌≡◌, ℕ, zero, suc, ◌≤◌, List, [], ◌∷◌, ◌++◌, length, refl, sym, ap, subst, ◌∙◌, append_assoc, arith}
use Rattle.std.specs.List.{flat_map, AllByRecursion}
use Rattle.std.specs.Int.{Width, to_be_bytes}
use Rattle.std.proofs.lemmas.List.{length-append, append-nil, nil_from_length}
use Rattle.pv_format.specs.Numbers.{FitsNumber}
use Rattle.pv_format.specs.Grammars.{Test, Grammar, give, here, check, bind, Takes, number, run, times, table}
use Rattle.pv_format.proofs.Bytes.{IsBytes, bytes_after, IsWide}
use Rattle.pv_format.proofs.GrammarTexts.{IsTexts, number_texts, run_texts}
use Rattle.pv_format.proofs.GrammarReadings.{then_takes, takes_then}

-- it takes the text of each item that fits, where at least `after` bytes come after, and nothing else; whether an item fits may depend on the bytes after it
pub record Spells {F A I : Type 0} (g : Grammar F A) (after : ℕ) (text : I → List ℕ) (Fits : I → List ℕ → Type 0) (held : I → A) : Type 0 where
  pub takes : (bytes : List ℕ) (x : A) (rest : List ℕ) → IsBytes bytes → Takes g bytes x rest → (i : I) × (bytes ≡ text i ++ rest) × (x ≡ held i) × Fits i rest
  pub again : (i : I) (rest : List ℕ) → Fits i rest → after ≤ length rest → Takes g (text i ++ rest) (held i) rest

-- other items with the same texts
pub seen : {F A I J : Type 0} {g : Grammar F A} {after : ℕ} {text : I → List ℕ} {Fits : I → List ℕ → Type 0} {held : I → A} {text' : J → List ℕ} {Fits' : J → List ℕ → Type 0} {held' : J → A} → Spells g after text Fits held
    → ((i : I) (rest : List ℕ) → Fits i rest → (j : J) × (text i ≡ text' j) × (held i ≡ held' j) × Fits' j rest)
    → ((j : J) (rest : List ℕ) → Fits' j rest → (i : I) × (text' j ≡ text i) × (held' j ≡ held i) × Fits i rest)
    → Spells g after text' Fits' held'
seen f to from = record {
  takes = λ bytes x rest fits h.
      let p = f.takes bytes x rest fits h in
      let o = to p.0 rest p.3 in
      (o.0, p.1 ∙ ap (λ (u : List ℕ). u ++ rest) o.1, p.2 ∙ o.2, o.3);
  again = λ j rest s le. let o = from j rest s in rw (o.1, o.2) (f.again o.0 rest o.3 le);
}

-- ---- single items

-- an item that is what is read
itself : {F A : Type 0} {g : Grammar F A} {after : ℕ} (text : A → List ℕ) (P : A → Type 0) → IsTexts g after (λ t x. (t ≡ text x) × P x) → Spells g after text (λ x _. P x) (λ x. x)
itself text P f = record {
  takes = λ bytes x rest fits h. let p = f.takes bytes x rest fits h in (x, p.1 ∙ ap (λ (u : List ℕ). u ++ rest) p.2.0, refl, p.2.1);
  again = λ x rest s le. f.again (text x) x rest (refl, s) le;
}

pub number_spells : {F : Type 0} (after : ℕ) (short : ℕ → F) (w : Width) → IsWide w → Spells (number after short w) after (to_be_bytes w) (λ n _. FitsNumber w n) (λ n. n)
number_spells after short w wide = itself (to_be_bytes w) (FitsNumber w) (number_texts after short w wide)

pub run_spells : {F : Type 0} (after : ℕ) (short : ℕ → F) (n : ℕ) → Spells (run after short n) after (λ bytes. bytes) (λ bytes _. length bytes ≡ n) (λ bytes. bytes)
run_spells after short n = itself (λ bytes. bytes) (λ bytes. length bytes ≡ n) (run_texts after short n)

pub give_spells : {F A : Type 0} {after : ℕ} (y : A) → Spells {F = F} (give y) after (λ (_ : Unit {0}). []) (λ _ _. Unit {0}) (λ _. y)
unfolding Takes
give_spells y = record { takes = λ bytes x rest fits h. (tt, sym h.1, h.0, tt); again = λ _ rest s le. (refl, refl) }

pub check_spells : {F A I : Type 0} {g : Grammar F A} {after : ℕ} {text : I → List ℕ} {Fits : I → List ℕ → Type 0} {held : I → A} (c : Test) (e : F) → Spells g after text Fits held → Spells (check c e g) after text (λ i rest. c.Holds × Fits i rest) held
unfolding Takes
check_spells c e f = record {
  takes = λ bytes x rest fits h. let p = f.takes bytes x rest fits h.1 in (p.0, p.1, p.2, (h.0, p.3));
  again = λ i rest s le. (s.0, f.again i rest s.1 le);
}

pub here_spells : {F A I : Type 0} {g : ℕ → Grammar F A} {after : ℕ} {text : I → List ℕ} {Fits : ℕ → I → List ℕ → Type 0} {held : I → A} → ((left : ℕ) → Spells (g left) after text (Fits left) held) → Spells (here g) after text (λ i rest. Fits (length (text i ++ rest)) i rest) held
unfolding Takes
here_spells {Fits = Fits} f = record {
  takes = λ bytes x rest fits h. let p = (f (length bytes)).takes bytes x rest fits h in (p.0, p.1, p.2, subst (λ (u : List ℕ). Fits (length u) p.0 rest) p.1 p.3);
  again = λ i rest s le. (f _).again i rest s le;
}

-- ---- one after the other

pub then_spells : {F A B I J : Type 0} {g : Grammar F A} {k : A → Grammar F B} {after : ℕ} {text : I → List ℕ} {P : I → Type 0} {held : I → A} {more : J → List ℕ} {Q : A → J → List ℕ → Type 0} {all : A → J → B}
    → Spells g after text (λ i _. P i) held → ((x : A) → Spells (k x) after more (Q x) (all x)) → Spells (bind g k) after (λ (p : I × J). text p.0 ++ more p.1) (λ p rest. P p.0 × Q (held p.0) p.1 rest) (λ p. all (held p.0) p.1)
then_spells {g = g} {k = k} {text = text} {held = held} {more = more} {all = all} f r = record {
  takes = λ bytes y rest fits h.
      let o = then_takes g k bytes y rest h in
      let p = f.takes bytes o.0 o.1 fits o.2 in
      let later : Takes (k (held p.0)) o.1 y rest = rw p.2 at o.3 in
      let q = (r (held p.0)).takes o.1 y rest (bytes_after bytes (text p.0) o.1 p.1 fits) later in
      ((p.0, q.0), p.1 ∙ ap (λ (u : List ℕ). text p.0 ++ u) q.1 ∙ sym (append_assoc (text p.0) (more q.0) rest), q.2, (p.3, q.3));
  again = λ p rest s le.
      let mid = more p.1 ++ rest in
      let first = f.again p.0 mid s.0 (omega (arith, length-append (more p.1) rest)) in
      rw append_assoc (takes_then g k (text p.0 ++ mid) (held p.0) mid (all (held p.0) p.1) rest first ((r (held p.0)).again p.1 rest s.1 le));
}

-- an item, after which something follows that has no bytes
pub last_spells : {F A B I : Type 0} {g : Grammar F A} {k : A → Grammar F B} {after : ℕ} {text : I → List ℕ} {P : I → Type 0} {held : I → A} {Q : A → List ℕ → Type 0} {all : A → B}
    → Spells g after text (λ i _. P i) held → ((x : A) → Spells (k x) after (λ (_ : Unit {0}). []) (λ _ rest. Q x rest) (λ _. all x)) → Spells (bind g k) after text (λ i rest. P i × Q (held i) rest) (λ i. all (held i))
last_spells {text = text} f r = seen (then_spells f r) (λ (i, _) rest s. (i, append-nil (text i), refl, s)) (λ i rest s. ((i, tt), sym (append-nil (text i)), refl, s))

-- an item of which something is made
pub made_spells : {F A B I : Type 0} {g : Grammar F A} {after : ℕ} {text : I → List ℕ} {P : I → Type 0} {held : I → A} (make : A → B) → Spells g after text (λ i _. P i) held → Spells (bind g (λ x. give (make x))) after text (λ i _. P i) (λ i. make (held i))
made_spells make f = seen (last_spells f (λ x. give_spells (make x))) (λ i rest s. (i, refl, refl, s.0)) (λ i rest s. (i, refl, refl, (s, tt)))

-- a number that counts what follows it
pub counted_spells : {F B J : Type 0} {k : ℕ → Grammar F B} {more : J → List ℕ} {Q : ℕ → J → List ℕ → Type 0} {all : ℕ → J → B} (after : ℕ) (short : ℕ → F) (w : Width) → IsWide w → (count : J → ℕ) → ((n : ℕ) (j : J) (rest : List ℕ) → Q n j rest → count j ≡ n)
    → ((n : ℕ) → Spells (k n) after more (Q n) (all n)) → Spells (bind (number after short w) k) after (λ j. to_be_bytes w (count j) ++ more j) (λ j rest. FitsNumber w (count j) × Q (count j) j rest) (λ j. all (count j) j)
counted_spells {more = more} {all = all} after short w wide count is r = seen (then_spells (number_spells after short w wide) r)
    (λ (n, j) rest s. let e = is n j rest s.1 in (j, ap (λ (m : ℕ). to_be_bytes w m ++ more j) (sym e), ap (λ (m : ℕ). all m j) (sym e), rw (← e) at s))
    (λ j rest s. ((count j, j), refl, refl, s))

-- ---- n of them

first_of : {I : Type 0} (is : List I) (n : ℕ) → length is ≡ suc n → (i : I) × (more : List I) × (is ≡ i ∷ more)
first_of [] n e = absurd (omega arith)
first_of (i ∷ is) n e = (i, is, refl)

pub times_spells : {F I : Type 0} {g : Grammar F (Unit {0})} {after : ℕ} (text : I → List ℕ) {P : I → Type 0} → Spells g after text (λ i _. P i) (λ _. tt) → (n : ℕ) → Spells (times n g) after (flat_map text) (λ is _. (length is ≡ n) × AllByRecursion P is) (λ _. tt)
unfolding times
times_spells text f zero = seen (give_spells tt) (λ _ rest s. ([], refl, refl, (refl, tt))) (λ is rest s. (tt, ap (flat_map text) (nil_from_length is s.0), refl, tt))
times_spells text f (suc n) = seen (then_spells f (λ _. times_spells text f n))
    (λ (i, is) rest s. (i ∷ is, refl, refl, (ap suc s.1.0, (s.0, s.1.1))))
    (λ is rest s.
    let o = first_of is n s.0 in
    let h = rw o.2 at s in
    ((o.0, o.1), ap (flat_map text) o.2, refl, (h.1.0, (omega (arith, h.0), h.1.1))))

-- a table of items, which reads as their number
pub table_spells : {F I : Type 0} {g : Grammar F (Unit {0})} {text : I → List ℕ} {P : I → Type 0} (after : ℕ) (short : ℕ → F) (w : Width) → IsWide w → Spells g after text (λ i _. P i) (λ _. tt)
    → Spells (table after short w g) after (λ is. to_be_bytes w (length is) ++ flat_map text is) (λ is _. FitsNumber w (length is) × AllByRecursion P is) length
table_spells {text = text} after short w wide f = seen (counted_spells after short w wide length (λ n is rest q. q.0) (λ n. made_spells (λ _. n) (times_spells text f n)))
    (λ is rest s. (is, refl, refl, (s.0, s.1.1)))
    (λ is rest s. (is, refl, refl, (s.0, (refl, s.1))))

-- ---- n items in a state

-- each by what is read of it leads from a state to the next
abbrev pub Along : {S A I : Type 0} → (S → A → S) → (S → I → A → Type 0) → S → List I → S → Type 0
Along next R s [] last = last ≡ s
Along {A = A} next R s (i ∷ is) last = (x : A) × R s i x × Along next R (next s x) is last

-- a loop that reads n items, each in the state that those before it lead to
pub along_spells : {F S A I : Type 0} {after : ℕ} {step : S → Grammar F A} (loop : ℕ → S → Grammar F S) (text : I → List ℕ) (next : S → A → S) (R : S → I → A → Type 0) → ((s : S) → loop 0 s ≡ give s) → ((n : ℕ) (s : S) → loop (suc n) s ≡ bind (step s) (λ x. loop n (next s x)))
    → ((s : S) → Spells (step s) after (λ (p : I × A). text p.0) (λ p _. R s p.0 p.1) (λ p. p.1)) → (n : ℕ) (s : S) → Spells (loop n s) after (λ (p : List I × S). flat_map text p.0) (λ p _. (length p.0 ≡ n) × Along next R s p.0 p.1) (λ p. p.1)
along_spells loop text next R none more f zero s = rw (none s) (seen (give_spells s) (λ _ rest h. (([], s), refl, refl, (refl, refl))) (λ (is, last) rest h. let e = nil_from_length is h.0 in (tt, ap (flat_map text) e, rw e at h.1, tt)))
along_spells loop text next R none more f (suc n) s = rw (more n s) (seen (then_spells {P = λ p. R s p.0 p.1} (f s) (λ x. along_spells loop text next R none more f n (next s x)))
    (λ ((i, x), (is, last)) rest h. ((i ∷ is, last), refl, refl, (ap suc h.1.0, (x, h.0, h.1.1))))
    (λ (is, last) rest h.
    let o = first_of is n h.0 in
    let a = rw o.2 at h.1 in
    (((o.0, a.0), (o.1, last)), ap (flat_map text) o.2, refl, (a.1, (omega (arith, h.0, ap length o.2), a.2)))))
