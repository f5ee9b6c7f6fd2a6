-- A program has one flow.
use Rattle.std.proofs.Common.{◌≡◌, ℕ, zero, suc, ◌<◌, ◌≤◌, List, [], ◌∷◌, map, Some, refl, sym, ap, ◌∙◌, subst, inl, inr, arith}
use Rattle.std.specs.Prelude.{slice_get}
use Rattle.std.specs.List.{AllZip}
use Rattle.std.proofs.lemmas.Bool.{cases_lt}
use Rattle.pv_frame.specs.declared.action.Action.{Action}
use Rattle.pv_frame.specs.declared.program.Program.{Program}
use Rattle.pv_frame.proofs.Cited.{some_of, no_some}
use Rattle.pv_flow.specs.declared.block.Exit.{Exit}
use Rattle.pv_flow.specs.declared.block.Exit.TheVariants as exit
use Rattle.pv_flow.specs.declared.block.Block.{Block}
use Rattle.pv_flow.specs.Exits.{Departure, Goes, Returns, Throws, departures}
use Rattle.pv_flow.specs.Blocks.{IsBlockAt, IsSpan, IsExit, IsFlow}

-- ---- ascending lists

abbrev Ascends : List ℕ → Type 0
Ascends xs = (m n j k : ℕ) → m < n → slice_get xs m ≡ Some j → slice_get xs n ≡ Some k → j < k

abbrev Has : List ℕ → ℕ → Type 0
Has xs k = (n : ℕ) × (slice_get xs n ≡ Some k)

ascends_rest : (x : ℕ) (xs : List ℕ) → Ascends (x ∷ xs) → Ascends xs
ascends_rest x xs up m n j k lt left right = up (suc m) (suc n) j k (omega arith) left right

-- the first of an ascending list is the least
least : (x : ℕ) (xs : List ℕ) (k : ℕ) → Ascends (x ∷ xs) → Has (x ∷ xs) k → x ≤ k
least x xs k up (zero, is) = let e = some_of x k is in omega arith
least x xs k up (suc n, is) = let less = up 0 (suc n) x k (omega arith) refl is in omega arith

-- a member other than the first is among the rest
in_rest : (x y : ℕ) (xs ys : List ℕ) → x ≡ y → Ascends (x ∷ xs) → ((k : ℕ) → Has (x ∷ xs) k → Has (y ∷ ys) k) → (k : ℕ) → Has xs k → Has ys k
in_rest x y xs ys e up into k (n, is) = go (into k (suc n, is))
  where
    go : Has (y ∷ ys) k → Has ys k
    go (zero, at) = let same = some_of y k at in let less = up 0 (suc n) x k (omega arith) refl is in absurd (omega arith)
    go (suc m, at) = (m, at)

one_list : (xs ys : List ℕ) → Ascends xs → Ascends ys → ((k : ℕ) → Has xs k → Has ys k) → ((k : ℕ) → Has ys k → Has xs k) → xs ≡ ys
one_list [] [] up_x up_y into back = refl
one_list [] (y ∷ ys) up_x up_y into back = let found = back y (0, refl) in no_some y found.1
one_list (x ∷ xs) [] up_x up_y into back = let found = into x (0, refl) in no_some x found.1
one_list (x ∷ xs) (y ∷ ys) up_x up_y into back =
    let one = least y ys x up_y (into x (0, refl)) in
    let other = least x xs y up_x (back y (0, refl)) in
    let head : x ≡ y = omega arith in
    let tail = one_list xs ys (ascends_rest x xs up_x) (ascends_rest y ys up_y) (in_rest x y xs ys head up_x into) (in_rest y x ys xs (sym head) up_y back) in
    cc (head, tail)

one_index : (xs : List ℕ) (m n k : ℕ) → Ascends xs → slice_get xs m ≡ Some k → slice_get xs n ≡ Some k → m ≡ n
one_index xs m n k up left right = elim (cases_lt m n) [
  | inl less ↦ let bad = up m n k k less left right in absurd (omega arith)
  | inr ge ↦ elim (cases_lt n m) [ inl more ↦ let bad = up n m k k more right left in absurd (omega arith) | inr le ↦ omega arith ]
]

-- ---- where blocks begin

firsts : List Block → List ℕ
firsts blocks = map (λ b. b.first) blocks

first_at : (blocks : List Block) (n k : ℕ) → IsBlockAt blocks n k → slice_get (firsts blocks) n ≡ Some k
unfolding firsts
first_at [] n k (b, at, e) = no_some b at
first_at (c ∷ blocks) zero k (b, at, e) = ap (λ (d : Block). Some d.first) (some_of c b at) ∙ ap Some e
first_at (c ∷ blocks) (suc n) k (b, at, e) = first_at blocks n k (b, at, e)

at_first : (blocks : List Block) (n k : ℕ) → slice_get (firsts blocks) n ≡ Some k → IsBlockAt blocks n k
unfolding firsts
at_first [] n k is = no_some k is
at_first (c ∷ blocks) zero k is = (c, refl, some_of c.first k is)
at_first (c ∷ blocks) (suc n) k is = at_first blocks n k is

firsts_ascend : (p : Program) (blocks : List Block) → IsFlow p blocks → Ascends (firsts blocks)
firsts_ascend p blocks flow m n j k lt left right =
    let b = at_first blocks m j left in
    let c = at_first blocks n k right in
    let less = flow.ascend m n b.0 c.0 lt b.1 c.1 in
    omega (arith, b.2, c.2)

has_all : (p : Program) (xs ys : List Block) → IsFlow p xs → IsFlow p ys → (k : ℕ) → Has (firsts xs) k → Has (firsts ys) k
has_all p xs ys in_x in_y k (n, is) =
    let b = at_first xs n k is in
    let block = in_x.each n b.0 b.1 in
    let found = in_y.all b.0.first block.span.begins block.reached in
    (found.0, first_at ys found.0 k (subst (IsBlockAt ys found.0) b.2 found.1))

same_firsts : (p : Program) (xs ys : List Block) → IsFlow p xs → IsFlow p ys → firsts xs ≡ firsts ys
same_firsts p xs ys in_x in_y = one_list (firsts xs) (firsts ys) (firsts_ascend p xs in_x) (firsts_ascend p ys in_y) (has_all p xs ys in_x in_y) (has_all p ys xs in_y in_x)

-- ---- spans and exits

not_less : (p : Program) (first l m : ℕ) → IsSpan p first l → IsSpan p first m → l < m → ⊥
not_less p first l m one other lt = other.whole (suc l) (omega (arith, one.some)) (omega arith) one.next

one_last : (p : Program) (first l m : ℕ) → IsSpan p first l → IsSpan p first m → l ≡ m
one_last p first l m one other = elim (cases_lt l m) [
  | inl less ↦ absurd (not_less p first l m one other less)
  | inr ge ↦ elim (cases_lt m l) [ inl more ↦ absurd (not_less p first m l other one more) | inr le ↦ omega arith ]
]

module _ (xs ys : List Block) (same : firsts xs ≡ firsts ys) (up : Ascends (firsts ys)) where
  one_exit : (d : Departure) (e g : Exit) → IsExit xs d e → IsExit ys d g → e ≡ g
  one_exit (Goes place) (exit.To m) (exit.To n) left right =
      let one = subst (λ (l : List ℕ). slice_get l m ≡ Some place) same (first_at xs m place left) in
      ap exit.To (one_index (firsts ys) m n place up one (first_at ys n place right))
  one_exit (Goes place) (exit.To m) exit.Return left right = elim right [ ]
  one_exit (Goes place) (exit.To m) exit.Throw left right = elim right [ ]
  one_exit (Goes place) exit.Return g left right = elim left [ ]
  one_exit (Goes place) exit.Throw g left right = elim left [ ]
  one_exit Returns (exit.To m) g left right = elim left [ ]
  one_exit Returns exit.Return (exit.To n) left right = elim right [ ]
  one_exit Returns exit.Return exit.Return left right = refl
  one_exit Returns exit.Return exit.Throw left right = elim right [ ]
  one_exit Returns exit.Throw g left right = elim left [ ]
  one_exit Throws (exit.To m) g left right = elim left [ ]
  one_exit Throws exit.Return g left right = elim left [ ]
  one_exit Throws exit.Throw (exit.To n) left right = elim right [ ]
  one_exit Throws exit.Throw exit.Return left right = elim right [ ]
  one_exit Throws exit.Throw exit.Throw left right = refl

  one_exits : (ds : List Departure) (es gs : List Exit) → AllZip (IsExit xs) ds es → AllZip (IsExit ys) ds gs → es ≡ gs
  one_exits [] [] [] left right = refl
  one_exits [] [] (g ∷ gs) left right = elim right [ ]
  one_exits [] (e ∷ es) gs left right = elim left [ ]
  one_exits (d ∷ ds) [] gs left right = elim left [ ]
  one_exits (d ∷ ds) (e ∷ es) [] left right = elim right [ ]
  one_exits (d ∷ ds) (e ∷ es) (g ∷ gs) left right =
      let head = one_exit d e g left.0 right.0 in
      let tail = one_exits ds es gs left.1 right.1 in
      cc (head, tail)

-- ---- flows

one_block : (p : Program) (xs ys : List Block) → IsFlow p xs → IsFlow p ys → firsts xs ≡ firsts ys → (n : ℕ) (b c : Block) → slice_get xs n ≡ Some b → slice_get ys n ≡ Some c → b ≡ c
one_block p xs ys in_x in_y same n b c at_b at_c =
    let one = in_x.each n b at_b in
    let other = in_y.each n c at_c in
    let first : b.first ≡ c.first = some_of b.first c.first (sym (first_at xs n b.first (b, at_b, refl)) ∙ ap (λ (l : List ℕ). slice_get l n) same ∙ first_at ys n c.first (c, at_c, refl)) in
    let last : b.last ≡ c.last = one_last p c.first b.last c.last (subst (λ (k : ℕ). IsSpan p k b.last) first one.span) other.span in
    let action : one.action ≡ other.action = some_of one.action other.action (sym one.ends ∙ ap (slice_get p.actions) last ∙ other.ends) in
    let left : AllZip (IsExit xs) (departures c.last other.action) b.exits =
    subst (λ (a : Action). AllZip (IsExit xs) (departures c.last a) b.exits) action (subst (λ (k : ℕ). AllZip (IsExit xs) (departures k one.action) b.exits) last one.exits) in
    let exits = one_exits xs ys same (firsts_ascend p ys in_y) (departures c.last other.action) b.exits c.exits left other.exits in
    λ i. record { first = first i; last = last i; exits = exits i }

same_blocks : (xs ys : List Block) → firsts xs ≡ firsts ys → ((n : ℕ) (b c : Block) → slice_get xs n ≡ Some b → slice_get ys n ≡ Some c → b ≡ c) → xs ≡ ys
unfolding firsts
same_blocks [] [] e one = refl
same_blocks [] (y ∷ ys) e one = absurd (cc)
same_blocks (x ∷ xs) [] e one = absurd (cc)
same_blocks (x ∷ xs) (y ∷ ys) e one =
    let head = one 0 x y refl refl in
    let rest : firsts xs ≡ firsts ys = cc in
    let tail = same_blocks xs ys rest (λ n b c left right. one (suc n) b c left right) in
    cc (head, tail)

pub one_flow : (p : Program) (xs ys : List Block) → IsFlow p xs → IsFlow p ys → xs ≡ ys
one_flow p xs ys in_x in_y = let same = same_firsts p xs ys in_x in_y in same_blocks xs ys same (one_block p xs ys in_x in_y same)
