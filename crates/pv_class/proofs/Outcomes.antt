-- What reading a class file comes to, and that there is no other answer.
use Rattle.std.proofs.Common.{◌≡◌, ℕ, ◌<◌, ◌≤◌, List, [], length, drop, Result, Ok, Err, refl, sym, ap, ◌∙◌, arith}
use Rattle.std.proofs.lemmas.List.{length-drop}
use Rattle.pv_pool.specs.declared.entry.Entry.{Entry}
use Rattle.pv_pool.specs.declared.fault.PoolFault.{PoolFault}
use Rattle.pv_pool.specs.declared.fault.PoolFault.TheVariants as pool_fault
use Rattle.pv_pool.specs.Pools.{IsPoolAt}
use Rattle.pv_pool.specs.Faults as pool
use Rattle.pv_pool.specs.Answers as pool_answers
use Rattle.pv_pool.proofs.Cited.{one_answer, one_pool}
use Rattle.pv_format.specs.Grammars.{bind}
use Rattle.pv_format.specs.GrammarReading.{read}
use Rattle.pv_format.proofs.Cited.{IsBytes, read_takes, takes_read, read_stops, stops_read}
use Rattle.pv_class.specs.declared.class.TheConstants.{LONGEST_FILE}
use Rattle.pv_class.specs.declared.file.Method.{Method}
use Rattle.pv_class.specs.declared.file.ClassFile.{ClassFile}
use Rattle.pv_class.specs.declared.fault.Cause.{Cause}
use Rattle.pv_class.specs.declared.fault.Failure.{Failure}
use Rattle.pv_class.specs.declared.fault.ClassFault.{ClassFault}
use Rattle.pv_class.specs.declared.fault.ClassFault.TheVariants as fault
use Rattle.pv_format.specs.declared.stopped.Stopped.{Stopped}
use Rattle.pv_format.specs.declared.stopped.Stopped.TheVariants.{Failed, Memory}
use Rattle.pv_format.specs.Stopping.{Fails}
use Rattle.pv_class.specs.ClassGrammar.{head, tail}
use Rattle.pv_class.specs.ClassFaults.{fault_at, fault_of, IsOfPool, HasHead, IsBad, too_long, in_head, in_pool, in_tail}
use Rattle.pv_class.specs.ClassFiles.{IsClass}
use Rattle.pv_class.specs.Answers.{IsAnswer, UnlessMemory, Answers, Tells}
use Rattle.pv_class.specs.Reading.{fault_in, of_pool}
use Rattle.pv_class.proofs.ClassAgrees.{takes_class, class_taken}

abbrev pub HeadRead : List ℕ → Type 0
HeadRead bytes = (rest : List ℕ) × (read head bytes ≡ Ok (tt, rest))

abbrev PoolAnswer : Type 0
PoolAnswer = Result (List Entry × ℕ) PoolFault

-- what a file is, by what is read after its pool, and by the answer on its pool
abbrev of_tail : List ℕ → List Entry → Result (List Method × List ℕ) Failure → Result ClassFile ClassFault
of_tail bytes entries (Ok (ms, rest)) = Ok (record { pool = entries; methods = ms })
of_tail bytes entries (Err e) = Err (fault_of bytes e)

abbrev after_pool : List ℕ → PoolAnswer → Result ClassFile ClassFault
after_pool bytes (Ok (entries, after)) = of_tail bytes entries (read (tail entries) (drop after bytes))
after_pool bytes (Err e) = Err (of_pool e)

-- how far reading comes, and to what
data Comes (bytes : List ℕ) (answer : Result ClassFile ClassFault) : Type 0 where
  nowhere : LONGEST_FILE < length bytes → answer ≡ Err (fault.TooLong LONGEST_FILE) → Comes bytes answer
  to_head : length bytes ≤ LONGEST_FILE → (e : Failure) → read head bytes ≡ Err e → answer ≡ Err (fault_of bytes e) → Comes bytes answer
  to_pool : length bytes ≤ LONGEST_FILE → HeadRead bytes → (p : PoolAnswer) → pool.IsAnswer bytes 8 p → answer ≡ after_pool bytes p → Comes bytes answer

head_read : (bytes : List ℕ) → HasHead bytes → HeadRead bytes
head_read bytes h = (h.0, takes_read head bytes tt h.0 h.1)

is_of_pool : (e : PoolFault) (b : ClassFault) → IsOfPool e b → b ≡ of_pool e
is_of_pool e b h = grind arith

class_read : (bytes : List ℕ) (file : ClassFile) → IsClass bytes file → (after : ℕ) × HeadRead bytes × IsPoolAt bytes 8 file.pool after × (Ok file ≡ after_pool bytes (Ok (file.pool, after)))
class_read bytes file is =
    let t = takes_class bytes file is in
    (t.after, head_read bytes (t.rest, t.head_is), t.pool_is, sym (ap (of_tail bytes file.pool) (takes_read (tail file.pool) (drop t.after bytes) file.methods [] t.tail_is)))

is_comes : (bytes : List ℕ) (answer : Result ClassFile ClassFault) → IsAnswer bytes answer → Comes bytes answer
is_comes bytes (Ok file) is = let r = class_read bytes file is in to_pool is.small r.1 (Ok (file.pool, r.0)) r.2 r.3
is_comes bytes (Err b) (too_long long e) = nowhere long (ap Err e)
is_comes bytes (Err b) (in_head le e stops is) = to_head le e (stops_read head bytes e stops) (ap Err is)
is_comes bytes (Err b) (in_pool le h e has is) = to_pool le (head_read bytes h) (Err e) has (ap Err (is_of_pool e b is))
is_comes bytes (Err b) (in_tail le h entries after at e stops is) =
    to_pool le (head_read bytes h) (Ok (entries, after)) at (ap Err is ∙ sym (ap (of_tail bytes entries) (stops_read (tail entries) (drop after bytes) e stops)))

-- a head that is read has 8 bytes
pub head_long : (bytes : List ℕ) → HeadRead bytes → 8 ≤ length bytes
unfolding head read bind
head_long bytes h = let e = h.1 in grind (arith, length-drop)

-- ---- reading comes to one end

comes_once : (bytes : List ℕ) (a b : Result ClassFile ClassFault) → IsBytes bytes → Comes bytes a → Comes bytes b → a ≡ b
comes_once bytes a b fits (nowhere long p) (nowhere long' q) = p ∙ sym q
comes_once bytes a b fits (nowhere long p) (to_head le e h q) = absurd (omega arith)
comes_once bytes a b fits (nowhere long p) (to_pool le h r is q) = absurd (omega arith)
comes_once bytes a b fits (to_head le e h p) (nowhere long q) = absurd (omega arith)
comes_once bytes a b fits (to_head le e h p) (to_head le' e' h' q) = let same : e ≡ e' = cc (h, h') in p ∙ ap (λ (e : Failure). Err (fault_of bytes e)) same ∙ sym q
comes_once bytes a b fits (to_head le e h p) (to_pool le' h' r is q) = absurd (let i = h'.1 in cc (h, i))
comes_once bytes a b fits (to_pool le h r is p) (nowhere long q) = absurd (omega arith)
comes_once bytes a b fits (to_pool le h r is p) (to_head le' e h' q) = absurd (let i = h.1 in cc (h', i))
comes_once bytes a b fits (to_pool le h r is p) (to_pool le' h' r' is' q) = p ∙ ap (after_pool bytes) (one_answer bytes 8 r r' (head_long bytes h) fits is is') ∙ sym q

pub answer_once : (bytes : List ℕ) (a b : Result ClassFile ClassFault) → IsBytes bytes → IsAnswer bytes a → IsAnswer bytes b → a ≡ b
answer_once bytes a b fits p q = comes_once bytes a b fits (is_comes bytes a p) (is_comes bytes b q)

-- and the bytes of a class file are those of no other
pub class_once : (bytes : List ℕ) (a b : ClassFile) → IsClass bytes a → IsClass bytes b → a ≡ b
class_once bytes a b p q =
    let x = class_read bytes a p in
    let y = class_read bytes b q in
    let one = one_pool bytes 8 a.pool b.pool x.0 y.0 (head_long bytes x.1) x.2 y.2 in
    let pools : ◌≡◌ {A = List Entry × ℕ} (a.pool, x.0) (b.pool, y.0) = cc (one.0, one.1) in
    cc (x.3 ∙ ap (λ (p : List Entry × ℕ). after_pool bytes (Ok p)) pools ∙ sym y.3)

-- ---- what is answered

-- an answer, and the only one
abbrev pub Answered : List ℕ → Result ClassFile ClassFault → Type 0
Answered bytes r = record { exact : Answers bytes r; only : Tells bytes r }

unless_memory : (P : Type 0) (r : Result ClassFile ClassFault) → P → UnlessMemory r P
unless_memory P (Err fault.Memory) h = tt
unless_memory P r h = h

answered : (bytes : List ℕ) (r : Result ClassFile ClassFault) → IsBytes bytes → IsAnswer bytes r → Answered bytes r
answered bytes r fits is = record { exact = unless_memory (IsAnswer bytes r) r is; only = λ answer other. unless_memory (r ≡ answer) r (answer_once bytes r answer fits is other) }

memory : (bytes : List ℕ) → Answered bytes (Err fault.Memory)
memory bytes = record { exact = tt; only = λ answer is. tt }

has_head : (bytes : List ℕ) → HeadRead bytes → HasHead bytes
has_head bytes h = (h.0, read_takes head bytes tt h.0 h.1)

module _ (bytes : List ℕ) (fits : IsBytes bytes) (le : length bytes ≤ LONGEST_FILE) where
  pub head_fails : (s : Stopped Failure) → Fails s (read head bytes) → Answered bytes (Err (fault_in (length bytes) s))
  head_fails (Failed e) h = answered bytes (Err (fault_of bytes e)) fits (in_head le e (read_stops head bytes e h) refl)
  head_fails Memory h = memory bytes

  pub pool_fails : (e : PoolFault) → HeadRead bytes → pool_answers.Answers bytes 8 (Err e) → Answered bytes (Err (of_pool e))
  pool_fails pool_fault.Memory first h = memory bytes
  pool_fails e first h = answered bytes (Err (of_pool e)) fits (in_pool le (has_head bytes first) e h refl)

  pub tail_fails : (entries : List Entry) (after : ℕ) (s : Stopped Failure) → HeadRead bytes → IsPoolAt bytes 8 entries after → Fails s (read (tail entries) (drop after bytes)) → Answered bytes (Err (fault_in (length bytes) s))
  tail_fails entries after (Failed e) first at h = answered bytes (Err (fault_of bytes e)) fits (in_tail le (has_head bytes first) entries after at e (read_stops (tail entries) (drop after bytes) e h) refl)
  tail_fails entries after Memory first at h = memory bytes

  pub all_read : (entries : List Entry) (after : ℕ) (ms : List Method) → HeadRead bytes → IsPoolAt bytes 8 entries after → read (tail entries) (drop after bytes) ≡ Ok (ms, []) → Answered bytes (Ok (record { pool = entries; methods = ms }))
  all_read entries after ms first at e =
      answered bytes (Ok (record { pool = entries; methods = ms })) fits (class_taken bytes (record { pool = entries; methods = ms }) fits le (record {
        rest = first.0;
        head_is = read_takes head bytes tt first.0 first.1;
        after = after;
        pool_is = at;
        tail_is = read_takes (tail entries) (drop after bytes) ms [] e;
      }))

-- ---- a file's fault is never that memory ran out

no_memory : (c : Cause) (at : ℕ) → fault.Memory ≡ fault_at c at → ⊥
no_memory c at e = grind arith

pub memory_no_fault : (bytes : List ℕ) → IsBad bytes fault.Memory → ⊥
memory_no_fault bytes (too_long long is) = absurd (cc (is))
memory_no_fault bytes (in_head le e h is) = no_memory e.cause _ is
memory_no_fault bytes (in_pool le h e has is) = grind arith
memory_no_fault bytes (in_tail le h entries after at e r is) = no_memory e.cause _ is
