-- Reading by a grammar part by part: an equation for each way in which a grammar is made.
use Rattle.std.proofs.Common.{◌≡◌, ℕ, suc, ◌-◌, ◌+◌, ◌<◌, Bool, true, false, cond, ltb, if◌then◌else◌, List, length, take, drop, Result, Ok, Err, refl, ap, ◌∙◌, arith}
use Rattle.pv_format.specs.Grammars.{Grammar, Test, give, here, item, check, bind, times}
use Rattle.pv_format.specs.GrammarReading.{read}

-- what is read after what was read, or the fault
unfoldable pub then_read : {F A B : Type 0} → Result (A × List ℕ) F → (A → List ℕ → Result (B × List ℕ) F) → Result (B × List ℕ) F
then_read (Ok (x, rest)) k = k x rest
then_read (Err e) k = Err e

pub then_ok : {F A B : Type 0} (x : A) (rest : List ℕ) (k : A → List ℕ → Result (B × List ℕ) F) → then_read (Ok (x, rest)) k ≡ k x rest
unfolding then_read
then_ok x rest k = refl

pub then_err : {F A B : Type 0} (e : F) (k : A → List ℕ → Result (B × List ℕ) F) → then_read (Err e) k ≡ Err e
unfolding then_read
then_err e k = refl

then_cond : {F A B : Type 0} (b : Bool) (x y : Result (A × List ℕ) F) (k : A → List ℕ → Result (B × List ℕ) F) → cond b (then_read x k) (then_read y k) ≡ then_read (cond b x y) k
then_cond true x y k = refl
then_cond false x y k = refl

pub read_bind : {F A B : Type 0} (g : Grammar F A) (k : A → Grammar F B) (bytes : List ℕ) → read (bind g k) bytes ≡ then_read (read g bytes) (λ x rest. read (k x) rest)
unfolding read bind then_read
read_bind (give x) k bytes = refl
read_bind (here f) k bytes = read_bind (f (length bytes)) k bytes
read_bind (item size after short f) k bytes =
    let b = ltb (length bytes) (size + after) in
    let s = short (length bytes) in
    ap (cond b (Err s)) (read_bind (f (take size bytes)) k (drop size bytes)) ∙ then_cond b (Err s) (read (f (take size bytes)) (drop size bytes)) (λ x rest. read (k x) rest)
read_bind (check c e g) k bytes = ap (λ r. cond c.tells r (Err e)) (read_bind g k bytes) ∙ then_cond c.tells (read g bytes) (Err e) (λ x rest. read (k x) rest)

-- a grammar that reads, and then what follows it; one that fails, whatever follows it
pub read_then : {F A B : Type 0} (g : Grammar F A) (k : A → Grammar F B) (bytes : List ℕ) (x : A) (rest : List ℕ) → read g bytes ≡ Ok (x, rest) → read (bind g k) bytes ≡ read (k x) rest
read_then g k bytes x rest e = rw (read_bind, e, then_ok) refl

pub read_fails : {F A B : Type 0} (g : Grammar F A) (k : A → Grammar F B) (bytes : List ℕ) (e : F) → read g bytes ≡ Err e → read (bind g k) bytes ≡ Err e
read_fails g k bytes e h = rw (read_bind, h, then_err) refl

pub read_give : {F A : Type 0} (x : A) (bytes : List ℕ) → read {F = F} (give x) bytes ≡ Ok (x, bytes)
unfolding read
read_give x bytes = refl

pub read_here : {F A : Type 0} (f : ℕ → Grammar F A) (bytes : List ℕ) → read (here f) bytes ≡ read (f (length bytes)) bytes
unfolding read
read_here f bytes = refl

pub read_check : {F A : Type 0} (c : Test) (e : F) (g : Grammar F A) (bytes : List ℕ) → read (check c e g) bytes ≡ if c.tells then read g bytes else Err e
unfolding read
read_check c e g bytes = refl

-- after i of n steps, each in the state that those before it made
pub read_steps : {F S A B : Type 0} (all : ℕ → S → Grammar F B) (one : S → Grammar F A) (next : S → A → S) → ((n : ℕ) (s : S) → all (suc n) s ≡ bind (one s) (λ x. all n (next s x)))
    → (n i : ℕ) (s : S) (bytes : List ℕ) → i < n → read (all (n - i) s) bytes ≡ then_read (read (one s) bytes) (λ x rest. read (all (n - (i + 1)) (next s x)) rest)
read_steps {F = F} {B = B} all one next step n i s bytes lt =
    let e : n - i ≡ suc (n - (i + 1)) = omega arith in
    ap (λ (m : ℕ). read (all m s) bytes) e ∙ ap (λ (g : Grammar F B). read g bytes) (step (n - (i + 1)) s) ∙ read_bind (one s) (λ x. all (n - (i + 1)) (next s x)) bytes

pub read_times : {F A : Type 0} (n i : ℕ) (g : Grammar F A) (bytes : List ℕ) → i < n → read (times (n - i) g) bytes ≡ then_read (read g bytes) (λ x rest. read (times (n - (i + 1)) g) rest)
unfolding times
read_times n i g bytes lt = read_steps (λ n (s : Unit {0}). times n g) (λ s. g) (λ s x. s) (λ n s. refl) n i tt bytes lt

pub ruleset steps = (then_ok, then_err, read_bind, read_give, read_here, read_check, read_times)
