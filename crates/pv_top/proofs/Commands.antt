-- The words of a command.
use Rattle.std.proofs.Common.{◌≡◌, ◌⊎◌, ◌<◌, ◌^◌, ℕ, Bool, true, false, List, [], ◌∷◌, length, Option, Some, None, Result, inl, inr, refl, sym, ap, subst, ◌∙◌, arith}
use Rattle.std.specs.Prelude.{codes, map, option_map, slice_index_or, IfOk}
use Rattle.std.specs.Borrow.{Bor}
use Rattle.std.specs.Str.{bytes_eq}
use Rattle.std.proofs.lemmas.Slice.Eq.{bytes_eq-Decides}
use Rattle.pv_value.specs.declared.memory.Memory.{Memory}
use Rattle.pv_report.specs.Options.{AxiomSet}
use Rattle.pv_report.specs.Options.{Core, All}
use Rattle.pv_maker.specs.declared.class.TheConstants.{MOST_MADE}
use Rattle.pv_words.specs.Answers.{texts}
use Rattle.pv_words.specs.Words as words
use Rattle.pv_words.specs.Words.{Give, once_or_never, times_of}
use Rattle.pv_words.specs.Numbers.{IsNumber}
use Rattle.pv_words.proofs.Cited.{is_one, one_number, one_wide}
use Rattle.pv_top.specs.declared.words.TheConstants.{DEFAULT_ROUNDS, MOST_ROUNDS, DEFAULT_BUDGET, MOST_BUDGET, DEFAULT_TRIES, MOST_TRIES, DEFAULT_STEPS, MOST_STEPS, MOST_SEED, DEFAULT_WORKERS, MOST_WORKERS}
use Rattle.pv_top.specs.declared.words.Mode.{Mode}
use Rattle.pv_top.specs.declared.words.Command.{Command}
use Rattle.pv_top.specs.declared.words.Command.TheVariants.{Validate, Check, Compose, CheckChain, Migrate, Refute, Make}
use Rattle.pv_top.specs.Commands.{CanMake, named}
use Rattle.pv_top.specs.Words.{AreOf, GiveCheck, IsCommand, IsLimit, IsMode, IsSet, arguments_alone, check_words, set_word, refute_words, validate_words}

-- ---- the words are one command at most

limit_once : (least most default : ℕ) (given : Option (List ℕ)) (m n : ℕ) → most < 2 ^ 32 → IsLimit least most default given m → IsLimit least most default given n → m ≡ n
limit_once least most default None m n lt p q = p ∙ sym q
limit_once least most default (Some text) m n lt p q = one_number least most text m n lt p q

one_word : (s t : AxiomSet) → set_word s ≡ set_word t → s ≡ t
one_word Core Core e = refl
one_word All All e = refl
one_word Core All e = absurd (cc e)
one_word All Core e = absurd (cc e)

set_once : (given : Option (List ℕ)) (s t : AxiomSet) → IsSet given s → IsSet given t → s ≡ t
set_once None s t p q = p ∙ sym q
set_once (Some text) s t p q = one_word s t (sym p ∙ q)

mode_once : (counted : Bool) (cert : Option (List ℕ)) (m n : Mode (List ℕ)) → IsMode counted cert m → IsMode counted cert n → m ≡ n
mode_once false None m n p q = p ∙ sym q
mode_once true None m n p q = p ∙ sym q
mode_once false (Some name) m n p q = p ∙ sym q
mode_once true (Some name) m n p q = absurd p

-- the mode by equal words is one
same_mode : (b d : Bool) (c e : Option (List ℕ)) (m n : Mode (List ℕ)) → b ≡ d → c ≡ e → IsMode b c m → IsMode d e n → m ≡ n
same_mode b d c e m n flag cert p q = mode_once d e m n (subst (λ (x : Bool). IsMode x e m) flag (subst (λ (o : Option (List ℕ)). IsMode b o m) cert p)) q

arguments_once : (n : ℕ) (words rest more : List (List ℕ)) (name : List ℕ) (a b : List (List ℕ)) → words ≡ name ∷ rest → words ≡ name ∷ more → Give (arguments_alone n) rest [] [] a → Give (arguments_alone n) more [] [] b → a ≡ b
arguments_once n words rest more name a b is are p q =
    let same : rest ≡ more = let e = sym is ∙ are in cc e in
    (is_one (arguments_alone n) refl more _ _ _ _ _ _ (subst (λ (w : List (List ℕ)). Give (arguments_alone n) w [] [] a) same p) q).2

checked_once : (words rest more : List (List ℕ)) (name : List ℕ) (a b : List (List ℕ)) → words ≡ name ∷ rest → words ≡ name ∷ more → GiveCheck rest a → GiveCheck more b → a ≡ b
checked_once words rest more name a b is are p q =
    let same : rest ≡ more = let e = sym is ∙ are in cc e in
    (is_one check_words refl more _ _ _ _ _ _ (subst (λ (w : List (List ℕ)). Give check_words w [] (p.workers_word ∷ []) a) same p.given) q.given).2

-- words that begin with two words that differ aren't the same
words_apart : (v w : List ℕ) (rest more : List (List ℕ)) → bytes_eq v w ≡ false → v ∷ rest ≡ w ∷ more → ⊥
words_apart v w rest more differ e =
    let same : v ≡ w = cc e in
    let both : true ≡ false = sym ((bytes_eq-Decides v w).1 same) ∙ differ in
    absurd (cc both)

words_once : (words : List (List ℕ)) (c d : Command (List ℕ)) → AreOf words c → AreOf words d → c ≡ d
words_once words (Validate a b t r k m) (Validate x y u s l n) (rest, is, p) (more, are, q) =
    let same : rest ≡ more = let e = sym is ∙ are in cc e in
    let one = is_one validate_words refl more _ _ _ _ _ _ (subst (λ (w : List (List ℕ)). Give validate_words w (p.counted_flag ∷ []) (p.axioms_word ∷ p.rounds_word ∷ p.budget_word ∷ p.workers_word ∷ p.cert_word ∷ []) (a ∷ b ∷ [])) same p.given) q.given in
    let flag : p.counted_flag ≡ q.counted_flag = let e = one.0 in cc e in
    let name : p.axioms_word ≡ q.axioms_word = let e = one.1 in cc e in
    let words : p.rounds_word ≡ q.rounds_word = let e = one.1 in cc e in
    let text : p.budget_word ≡ q.budget_word = let e = one.1 in cc e in
    let file : p.cert_word ≡ q.cert_word = let e = one.1 in cc e in
    let first : a ≡ x = let e = one.2 in cc e in
    let second : b ≡ y = let e = one.2 in cc e in
    let axioms : t ≡ u = set_once q.axioms_word t u (subst (λ (o : Option (List ℕ)). IsSet o t) name p.axioms_are) q.axioms_are in
    let rounds : r ≡ s = limit_once 0 MOST_ROUNDS DEFAULT_ROUNDS q.rounds_word r s (omega arith) (subst (λ (o : Option (List ℕ)). IsLimit 0 MOST_ROUNDS DEFAULT_ROUNDS o r) words p.rounds_are) q.rounds_are in
    let budget : k ≡ l = limit_once 1 MOST_BUDGET DEFAULT_BUDGET q.budget_word k l (omega arith) (subst (λ (o : Option (List ℕ)). IsLimit 1 MOST_BUDGET DEFAULT_BUDGET o k) text p.budget_is) q.budget_is in
    let mode : m ≡ n = same_mode p.counted_flag q.counted_flag p.cert_word q.cert_word m n flag file p.mode_is q.mode_is in
    cc (first, second, axioms, rounds, budget, mode)
words_once words (Check a b c) (Check x y z) (rest, is, p) (more, are, q) = let one = checked_once words rest more (codes "check") _ _ is are p q in cc one
words_once words (Compose a b c d e f) (Compose g h i j k l) (rest, is, p) (more, are, q) = let one = arguments_once 6 words rest more (codes "compose") _ _ is are p q in cc one
words_once words (CheckChain a b c) (CheckChain x y z) (rest, is, p) (more, are, q) = let one = checked_once words rest more (codes "check-chain") _ _ is are p q in cc one
words_once words (Migrate a b) (Migrate c d) (rest, is, p) (more, are, q) = let one = arguments_once 2 words rest more (codes "migrate") _ _ is are p q in cc one
words_once words (Refute a b r k) (Refute x y s l) (rest, is, p) (more, are, q) =
    let same : rest ≡ more = let e = sym is ∙ are in cc e in
    let one = is_one refute_words refl more _ _ _ _ _ _ (subst (λ (w : List (List ℕ)). Give refute_words w [] (p.tries_word ∷ p.steps_word ∷ []) (a ∷ b ∷ [])) same p.given) q.given in
    let words : p.tries_word ≡ q.tries_word = let e = one.1 in cc e in
    let text : p.steps_word ≡ q.steps_word = let e = one.1 in cc e in
    let first : a ≡ x = let e = one.2 in cc e in
    let second : b ≡ y = let e = one.2 in cc e in
    let tries : r ≡ s = limit_once 1 MOST_TRIES DEFAULT_TRIES q.tries_word r s (omega arith) (subst (λ (o : Option (List ℕ)). IsLimit 1 MOST_TRIES DEFAULT_TRIES o r) words p.tries_are) q.tries_are in
    let steps : k ≡ l = limit_once 1 MOST_STEPS DEFAULT_STEPS q.steps_word k l (omega arith) (subst (λ (o : Option (List ℕ)). IsLimit 1 MOST_STEPS DEFAULT_STEPS o k) text p.steps_are) q.steps_are in
    cc (first, second, tries, steps)
words_once words (Make s k a b) (Make t l x y) (rest, is, p) (more, are, q) =
    let one = arguments_once 4 words rest more (codes "make") _ _ is are p.given q.given in
    let seed_word : p.seed_word ≡ q.seed_word = cc one in
    let count_word : p.count_word ≡ q.count_word = cc one in
    let first : a ≡ x = cc one in
    let second : b ≡ y = cc one in
    let seed : s ≡ t = one_wide 0 MOST_SEED q.seed_word s t (omega arith) (subst (λ (w : List ℕ). IsNumber 0 MOST_SEED w s) seed_word p.seed_is) q.seed_is in
    let count : k ≡ l = one_number 1 MOST_MADE q.count_word k l (omega arith) (subst (λ (w : List ℕ). IsNumber 1 MOST_MADE w k) count_word p.count_is) q.count_is in
    cc (seed, count, first, second)
words_once words (Compose a b c d e f) (Migrate x y) (rest, is, p) (more, are, q) = absurd (words_apart (codes "compose") (codes "migrate") rest more refl (sym is ∙ are))
words_once words (Migrate x y) (Compose a b c d e f) (rest, is, p) (more, are, q) = absurd (words_apart (codes "migrate") (codes "compose") rest more refl (sym is ∙ are))
words_once words _ _ (rest, is, p) (more, are, q) = absurd (let e = sym is ∙ are in cc e)

pub one_command : (words : List (List ℕ)) (c d : Option (Command (List ℕ))) → IsCommand words c → IsCommand words d → c ≡ d
one_command words None None p q = refl
one_command words None (Some d) p q = absurd (p d q)
one_command words (Some c) None p q = absurd (q c p)
one_command words (Some c) (Some d) p q = ap (λ (x : Command (List ℕ)). Some x) (words_once words c d p q)

-- ---- words that were read

-- the first word is the name of a command
pub called : (ws rest : List (Bor (List ℕ))) (w : Bor (List ℕ)) (name : List ℕ) → ws ≡ w ∷ rest → bytes_eq w.now name ≡ true → texts ws ≡ name ∷ texts rest
called ws rest w name are is = ap texts are ∙ ap (λ (x : List ℕ). x ∷ texts rest) ((bytes_eq-Decides w.now name).0 is)

pub whole_words : (whole words : List (List ℕ)) (r : Result (Option (Command (Bor (List ℕ)))) Memory) → whole ≡ words → IfOk r (λ c. IsCommand words (option_map named c)) → IfOk r (λ c. IsCommand whole (option_map named c))
whole_words whole words r e h = subst (λ (ws : List (List ℕ)). IfOk r (λ c. IsCommand ws (option_map named c))) (sym e) h

-- words that give `check` nothing are no command
pub no_check : (rest : List (List ℕ)) → ((a : List (List ℕ)) → GiveCheck rest a → ⊥) → (c : Command (List ℕ)) → AreOf (codes "check" ∷ rest) c → ⊥
no_check rest none (Check a b cert) (more, e, g) = none _ (subst (λ (w : List (List ℕ)). GiveCheck w (a ∷ b ∷ cert ∷ [])) (let same : more ≡ rest = cc (sym e) in same) g)
no_check rest none _ (more, e, g) = absurd (cc e)

pub no_compose : (rest : List (List ℕ)) → ((a : List (List ℕ)) → Give (arguments_alone 6) rest [] [] a → ⊥) → (c : Command (List ℕ)) → AreOf (codes "compose" ∷ rest) c → ⊥
no_compose rest none (Compose a b c x y out) (more, e, g) = none _ (subst (λ (w : List (List ℕ)). Give (arguments_alone 6) w [] [] (a ∷ b ∷ c ∷ x ∷ y ∷ out ∷ [])) (let same : more ≡ rest = cc (sym e) in same) g)
no_compose rest none (Migrate cert out) (more, e, g) = absurd (words_apart (codes "compose") (codes "migrate") rest more refl e)
no_compose rest none _ (more, e, g) = absurd (cc e)

pub no_check_chain : (rest : List (List ℕ)) → ((a : List (List ℕ)) → GiveCheck rest a → ⊥) → (c : Command (List ℕ)) → AreOf (codes "check-chain" ∷ rest) c → ⊥
no_check_chain rest none (CheckChain a b chain) (more, e, g) = none _ (subst (λ (w : List (List ℕ)). GiveCheck w (a ∷ b ∷ chain ∷ [])) (let same : more ≡ rest = cc (sym e) in same) g)
no_check_chain rest none _ (more, e, g) = absurd (cc e)

pub no_migrate : (rest : List (List ℕ)) → ((a : List (List ℕ)) → Give (arguments_alone 2) rest [] [] a → ⊥) → (c : Command (List ℕ)) → AreOf (codes "migrate" ∷ rest) c → ⊥
no_migrate rest none (Migrate cert out) (more, e, g) = none _ (subst (λ (w : List (List ℕ)). Give (arguments_alone 2) w [] [] (cert ∷ out ∷ [])) (let same : more ≡ rest = cc (sym e) in same) g)
no_migrate rest none (Compose a b c x y out) (more, e, g) = absurd (words_apart (codes "migrate") (codes "compose") rest more refl e)
no_migrate rest none _ (more, e, g) = absurd (cc e)

-- nor are words that give `validate` nothing
pub no_validate : (rest : List (List ℕ)) → ((f : List Bool) (o : List (Option (List ℕ))) (a : List (List ℕ)) → Give validate_words rest f o a → ⊥) → (c : Command (List ℕ)) → AreOf (codes "validate" ∷ rest) c → ⊥
no_validate rest none (Validate a b axioms rounds budget mode) (more, e, g) =
    none (g.counted_flag ∷ []) (g.axioms_word ∷ g.rounds_word ∷ g.budget_word ∷ g.workers_word ∷ g.cert_word ∷ []) (a ∷ b ∷ []) (subst (λ (w : List (List ℕ)). Give validate_words w (g.counted_flag ∷ []) (g.axioms_word ∷ g.rounds_word ∷ g.budget_word ∷ g.workers_word ∷ g.cert_word ∷ []) (a ∷ b ∷ [])) (let same : more ≡ rest = cc (sym e) in same) g.given)
no_validate rest none _ (more, e, g) = absurd (cc e)

-- nor are words that give `refute` nothing
pub no_refute : (rest : List (List ℕ)) → ((f : List Bool) (o : List (Option (List ℕ))) (a : List (List ℕ)) → Give refute_words rest f o a → ⊥) → (c : Command (List ℕ)) → AreOf (codes "refute" ∷ rest) c → ⊥
no_refute rest none (Refute a b tries steps) (more, e, g) =
    none [] (g.tries_word ∷ g.steps_word ∷ []) (a ∷ b ∷ []) (subst (λ (w : List (List ℕ)). Give refute_words w [] (g.tries_word ∷ g.steps_word ∷ []) (a ∷ b ∷ [])) (let same : more ≡ rest = cc (sym e) in same) g.given)
no_refute rest none _ (more, e, g) = absurd (cc e)

-- nor are words that give `make` nothing
pub no_make : (rest : List (List ℕ)) → ((a : List (List ℕ)) → Give (arguments_alone 4) rest [] [] a → ⊥) → (c : Command (List ℕ)) → AreOf (codes "make" ∷ rest) c → ⊥
no_make rest none (Make seed count a b) (more, e, g) =
    none _ (subst (λ (w : List (List ℕ)). Give (arguments_alone 4) w [] [] (g.seed_word ∷ g.count_word ∷ a ∷ b ∷ [])) (let same : more ≡ rest = cc (sym e) in same) g.given)
no_make rest none _ (more, e, g) = absurd (cc e)

-- nor those of which the first or the second argument is no number within its bounds
no_make_number : (rest : List (List ℕ)) (s k a b : List ℕ) → Give (arguments_alone 4) rest [] [] (s ∷ k ∷ a ∷ b ∷ []) → (((n : ℕ) → IsNumber 0 MOST_SEED s n → ⊥) ⊎ ((n : ℕ) → IsNumber 1 MOST_MADE k n → ⊥)) → (c : Command (List ℕ)) → AreOf (codes "make" ∷ rest) c → ⊥
no_make_number rest s k a b given none (Make seed count x y) (more, e, g) =
    let same : more ≡ rest = cc (sym e) in
    let one = (is_one (arguments_alone 4) refl rest _ _ _ _ _ _ given (subst (λ (w : List (List ℕ)). Give (arguments_alone 4) w [] [] (g.seed_word ∷ g.count_word ∷ x ∷ y ∷ [])) same g.given)).2 in
    let seed_word : s ≡ g.seed_word = cc one in
    let count_word : k ≡ g.count_word = cc one in
    elim none [
      | inl n ↦ n seed (subst (λ (w : List ℕ). IsNumber 0 MOST_SEED w seed) (sym seed_word) g.seed_is)
      | inr n ↦ n count (subst (λ (w : List ℕ). IsNumber 1 MOST_MADE w count) (sym count_word) g.count_is)
    ]
no_make_number rest s k a b given none _ (more, e, g) = absurd (cc e)

-- the number of methods of a command that was read can be made
pub can_make : (words : List (List ℕ)) (c : Command (List ℕ)) → AreOf words c → CanMake c
can_make words (Make seed count a b) (rest, is, g) = g.count_is.at_most
can_make words _ are = tt

-- nor those of which an option names no axioms, or a limit is no number within its bounds, or the flag and a certificate are given
abbrev pub IsNoValue : Bool → (t r k w cert : Option (List ℕ)) → Type 0
IsNoValue c t r k w cert =
    ((s : AxiomSet) → IsSet t s → ⊥)
    ⊎ (((n : ℕ) → IsLimit 0 MOST_ROUNDS DEFAULT_ROUNDS r n → ⊥)
    ⊎ (((n : ℕ) → IsLimit 1 MOST_BUDGET DEFAULT_BUDGET k n → ⊥)
    ⊎ (((n : ℕ) → IsLimit 1 MOST_WORKERS DEFAULT_WORKERS w n → ⊥)
    ⊎ ((m : Mode (List ℕ)) → IsMode c cert m → ⊥))))

no_value : (rest : List (List ℕ)) (c : Bool) (t r k w cert : Option (List ℕ)) (a : List (List ℕ)) → Give validate_words rest (c ∷ []) (t ∷ r ∷ k ∷ w ∷ cert ∷ []) a → IsNoValue c t r k w cert → (d : Command (List ℕ)) → AreOf (codes "validate" ∷ rest) d → ⊥
no_value rest c t r k w cert a given none (Validate x y axioms rounds budget mode) (more, e, g) =
    let same : more ≡ rest = cc (sym e) in
    let one = is_one validate_words refl rest _ _ _ _ _ _ given (subst (λ (w : List (List ℕ)). Give validate_words w (g.counted_flag ∷ []) (g.axioms_word ∷ g.rounds_word ∷ g.budget_word ∷ g.workers_word ∷ g.cert_word ∷ []) (x ∷ y ∷ [])) same g.given) in
    let flag : c ≡ g.counted_flag = let f = one.0 in cc f in
    let name : t ≡ g.axioms_word = let f = one.1 in cc f in
    let words : r ≡ g.rounds_word = let f = one.1 in cc f in
    let text : k ≡ g.budget_word = let f = one.1 in cc f in
    let crew : w ≡ g.workers_word = let f = one.1 in cc f in
    let file : cert ≡ g.cert_word = let f = one.1 in cc f in
    elim none [
      | inl n ↦ n axioms (subst (λ (o : Option (List ℕ)). IsSet o axioms) (sym name) g.axioms_are)
      | inr (inl n) ↦ n rounds (subst (λ (o : Option (List ℕ)). IsLimit 0 MOST_ROUNDS DEFAULT_ROUNDS o rounds) (sym words) g.rounds_are)
      | inr (inr (inl n)) ↦ n budget (subst (λ (o : Option (List ℕ)). IsLimit 1 MOST_BUDGET DEFAULT_BUDGET o budget) (sym text) g.budget_is)
      | inr (inr (inr (inl n))) ↦ n g.workers_are.0 (subst (λ (o : Option (List ℕ)). IsLimit 1 MOST_WORKERS DEFAULT_WORKERS o g.workers_are.0) (sym crew) g.workers_are.1)
      | inr (inr (inr (inr n))) ↦ n mode (subst (λ (b : Bool). IsMode b cert mode) (sym flag) (subst (λ (o : Option (List ℕ)). IsMode g.counted_flag o mode) (sym file) g.mode_is))
    ]
no_value rest c t r k w cert a given none _ (more, e, g) = absurd (cc e)

no_try_limit : (rest : List (List ℕ)) (f : List Bool) (r k : Option (List ℕ)) (a : List (List ℕ)) → Give refute_words rest f (r ∷ k ∷ []) a → (((n : ℕ) → IsLimit 1 MOST_TRIES DEFAULT_TRIES r n → ⊥) ⊎ ((n : ℕ) → IsLimit 1 MOST_STEPS DEFAULT_STEPS k n → ⊥))
    → (c : Command (List ℕ)) → AreOf (codes "refute" ∷ rest) c → ⊥
no_try_limit rest f r k a given none (Refute x y tries steps) (more, e, g) =
    let same : more ≡ rest = cc (sym e) in
    let one = is_one refute_words refl rest _ _ _ _ _ _ given (subst (λ (w : List (List ℕ)). Give refute_words w [] (g.tries_word ∷ g.steps_word ∷ []) (x ∷ y ∷ [])) same g.given) in
    let words : r ≡ g.tries_word = let e = one.1 in cc e in
    let text : k ≡ g.steps_word = let e = one.1 in cc e in
    elim none [
      | inl n ↦ n tries (subst (λ (o : Option (List ℕ)). IsLimit 1 MOST_TRIES DEFAULT_TRIES o tries) (sym words) g.tries_are)
      | inr n ↦ n steps (subst (λ (o : Option (List ℕ)). IsLimit 1 MOST_STEPS DEFAULT_STEPS o steps) (sym text) g.steps_are)
    ]
no_try_limit rest f r k a given none _ (more, e, g) = absurd (cc e)

-- words give no flag to a command that has none
pub no_flags : (c : words.Command) (rest : List (List ℕ)) (flags : List Bool) (options : List (Option (List ℕ))) (arguments : List (List ℕ)) → c.flags ≡ [] → Give c rest flags options arguments → Give c rest [] options arguments
no_flags c rest [] options arguments none given = given
no_flags c rest (b ∷ bs) options arguments none given = absurd (let e : ◌≡◌ {A = List ℕ} [] (map once_or_never (b ∷ bs)) = sym (ap (map (times_of given.parts)) none) ∙ given.flagged in cc e)

-- the same, by what was read
abbrev pub text_of : Option (Bor (List ℕ)) → Option (List ℕ)
text_of o = option_map (λ s. s.now) o

module _ (rest : List (List ℕ)) where
  pub no_value_at : (flags : List Bool) (options : List (Option (Bor (List ℕ)))) (arguments : List (Bor (List ℕ))) → Give validate_words rest flags (map text_of options) (texts arguments) → length flags ≡ 1 → length options ≡ 5
      → IsNoValue (slice_index_or flags 0 false) (text_of (slice_index_or options 0 None)) (text_of (slice_index_or options 1 None)) (text_of (slice_index_or options 2 None)) (text_of (slice_index_or options 3 None)) (text_of (slice_index_or options 4 None))
      → (c : Command (List ℕ)) → AreOf (codes "validate" ∷ rest) c → ⊥
  no_value_at (c ∷ []) (t ∷ r ∷ k ∷ w ∷ cert ∷ []) arguments given one long none = no_value rest c (text_of t) (text_of r) (text_of k) (text_of w) (text_of cert) (texts arguments) given none
  no_value_at _ _ arguments given one long none = absurd (omega (arith, one, long))

  pub is_validate : (flags : List Bool) (options : List (Option (Bor (List ℕ)))) (arguments : List (Bor (List ℕ))) (d : Bor (List ℕ)) (axioms : AxiomSet) (rounds budget workers : ℕ) (mode : Mode (List ℕ))
      → Give validate_words rest flags (map text_of options) (texts arguments) → length flags ≡ 1 → length options ≡ 5 → length arguments ≡ 2
      → IsSet (text_of (slice_index_or options 0 None)) axioms → IsLimit 0 MOST_ROUNDS DEFAULT_ROUNDS (text_of (slice_index_or options 1 None)) rounds → IsLimit 1 MOST_BUDGET DEFAULT_BUDGET (text_of (slice_index_or options 2 None)) budget
      → IsLimit 1 MOST_WORKERS DEFAULT_WORKERS (text_of (slice_index_or options 3 None)) workers
      → IsMode (slice_index_or flags 0 false) (text_of (slice_index_or options 4 None)) mode
      → AreOf (codes "validate" ∷ rest) (Validate (slice_index_or arguments 0 d).now (slice_index_or arguments 1 d).now axioms rounds budget mode)
  is_validate (c ∷ []) (t ∷ r ∷ k ∷ w ∷ cert ∷ []) (a ∷ b ∷ []) d axioms rounds budget workers mode given one long two h p q n m = (
    rest,
    refl,
    record {
      counted_flag = c;
      axioms_word = text_of t;
      rounds_word = text_of r;
      budget_word = text_of k;
      workers_word = text_of w;
      cert_word = text_of cert;
      given = given;
      axioms_are = h;
      rounds_are = p;
      budget_is = q;
      workers_are = (workers, n);
      mode_is = m;
    },
  )
  is_validate _ _ _ d axioms rounds budget workers mode given one long two h p q n m = absurd (omega (arith, one, long, two))

  -- nor are words of a command that checks, where the workers are no number within its bounds
  pub no_workers_at : (flags : List Bool) (options : List (Option (Bor (List ℕ)))) (arguments : List (Bor (List ℕ))) → Give check_words rest flags (map text_of options) (texts arguments) → length options ≡ 1
      → ((n : ℕ) → IsLimit 1 MOST_WORKERS DEFAULT_WORKERS (text_of (slice_index_or options 0 None)) n → ⊥) → (all : List (List ℕ)) → GiveCheck rest all → ⊥
  no_workers_at flags (w ∷ []) arguments given one none all g =
      let same = (is_one check_words refl rest _ _ _ _ _ _ given g.given).1 in
      let word : text_of w ≡ g.workers_word = cc same in
      none g.workers_are.0 (subst (λ (o : Option (List ℕ)). IsLimit 1 MOST_WORKERS DEFAULT_WORKERS o g.workers_are.0) (sym word) g.workers_are.1)
  no_workers_at flags _ arguments given one none all g = absurd (omega (arith, one))

  pub is_checked : (flags : List Bool) (options : List (Option (Bor (List ℕ)))) (arguments : List (Bor (List ℕ))) (workers : ℕ) → Give check_words rest flags (map text_of options) (texts arguments) → length options ≡ 1
      → IsLimit 1 MOST_WORKERS DEFAULT_WORKERS (text_of (slice_index_or options 0 None)) workers → GiveCheck rest (texts arguments)
  is_checked flags (w ∷ []) arguments workers given one n = record { workers_word = text_of w; given = no_flags check_words rest flags _ _ refl given; workers_are = (workers, n) }
  is_checked flags _ arguments workers given one n = absurd (omega (arith, one))

  pub no_try_limit_at : (flags : List Bool) (options : List (Option (Bor (List ℕ)))) (arguments : List (Bor (List ℕ))) → Give refute_words rest flags (map text_of options) (texts arguments) → length options ≡ 2
      → (((n : ℕ) → IsLimit 1 MOST_TRIES DEFAULT_TRIES (text_of (slice_index_or options 0 None)) n → ⊥) ⊎ ((n : ℕ) → IsLimit 1 MOST_STEPS DEFAULT_STEPS (text_of (slice_index_or options 1 None)) n → ⊥))
      → (c : Command (List ℕ)) → AreOf (codes "refute" ∷ rest) c → ⊥
  no_try_limit_at flags (r ∷ k ∷ []) arguments given long none = no_try_limit rest flags (text_of r) (text_of k) (texts arguments) given none
  no_try_limit_at flags _ arguments given long none = absurd (omega (arith, long))

  pub is_refute : (flags : List Bool) (options : List (Option (Bor (List ℕ)))) (arguments : List (Bor (List ℕ))) (d : Bor (List ℕ)) (tries steps : ℕ) → Give refute_words rest flags (map text_of options) (texts arguments) → length options ≡ 2 → length arguments ≡ 2
      → IsLimit 1 MOST_TRIES DEFAULT_TRIES (text_of (slice_index_or options 0 None)) tries → IsLimit 1 MOST_STEPS DEFAULT_STEPS (text_of (slice_index_or options 1 None)) steps
      → AreOf (codes "refute" ∷ rest) (Refute (slice_index_or arguments 0 d).now (slice_index_or arguments 1 d).now tries steps)
  is_refute flags (r ∷ k ∷ []) (a ∷ b ∷ []) d tries steps given long two p q = (rest, refl, record { tries_word = text_of r; steps_word = text_of k; given = no_flags refute_words rest flags _ _ refl given; tries_are = p; steps_are = q })
  is_refute flags _ _ d tries steps given long two p q = absurd (omega (arith, long, two))

  pub no_make_number_at : (arguments : List (Bor (List ℕ))) (d : Bor (List ℕ)) → Give (arguments_alone 4) rest [] [] (texts arguments) → length arguments ≡ 4
      → (((n : ℕ) → IsNumber 0 MOST_SEED (slice_index_or arguments 0 d).now n → ⊥) ⊎ ((n : ℕ) → IsNumber 1 MOST_MADE (slice_index_or arguments 1 d).now n → ⊥)) → (c : Command (List ℕ)) → AreOf (codes "make" ∷ rest) c → ⊥
  no_make_number_at (s ∷ k ∷ a ∷ b ∷ []) d given four none = no_make_number rest s.now k.now a.now b.now given none
  no_make_number_at _ d given four none = absurd (omega (arith, four))

  pub is_make : (arguments : List (Bor (List ℕ))) (d : Bor (List ℕ)) (seed count : ℕ) → Give (arguments_alone 4) rest [] [] (texts arguments) → length arguments ≡ 4 → IsNumber 0 MOST_SEED (slice_index_or arguments 0 d).now seed
      → IsNumber 1 MOST_MADE (slice_index_or arguments 1 d).now count → AreOf (codes "make" ∷ rest) (Make seed count (slice_index_or arguments 2 d).now (slice_index_or arguments 3 d).now)
  is_make (s ∷ k ∷ a ∷ b ∷ []) d seed count given four p q = (rest, refl, record { seed_word = s.now; count_word = k.now; given = given; seed_is = p; count_is = q })
  is_make _ d seed count given four p q = absurd (omega (arith, four))
