-- Arguments, digit by digit.
use Rattle.std.proofs.Common.{◌≡◌, ℕ, suc, ◌+◌, ◌/◌, ◌^◌, ◌<◌, List, [], ◌∷◌, ◌++◌, length, drop, get_or, sym, ap, ◌∙◌, append_assoc, arith}
use Rattle.std.proofs.Math.Nat.{div-div-eq-div-mul, pow-suc}
use Rattle.std.proofs.lemmas.List.{drop_more}
use Rattle.pv_value.specs.declared.descriptor.JType.{JType}
use Rattle.pv_value.specs.declared.number.Num.{Num}
use Rattle.pv_refute.specs.Tries.{digit, argument, arguments}

-- what is left of a number, without one digit more
pub next_rest : (n rest i : ℕ) → rest ≡ n / 8 ^ i → rest / 8 ≡ n / 8 ^ (i + 1)
next_rest n rest i is =
    let next : i + 1 ≡ suc i = omega arith in
    ap (λ (k : ℕ). k / 8) is ∙ div-div-eq-div-mul n (8 ^ i) 8 ∙ ap (λ (k : ℕ). n / k) (sym (pow-suc 8 i)) ∙ ap (λ (k : ℕ). n / 8 ^ k) (sym next)

-- the arguments so far, and one more
pub next_argument : (n i : ℕ) (types : List JType) (d : JType) (args all : List Num) (x : Num) → i < length types → x ≡ argument (get_or types i d) (digit n i)
    → args ++ arguments n i (drop i types) ≡ all → (args ++ x ∷ []) ++ arguments n (i + 1) (drop (i + 1) types) ≡ all
next_argument n i types d args all x lt is so_far =
    let next : i + 1 ≡ suc i = omega arith in
    append_assoc args (x ∷ []) (arguments n (i + 1) (drop (i + 1) types))
    ∙ ap (λ (k : ℕ). args ++ x ∷ arguments n k (drop (i + 1) types)) next
    ∙ ap (λ (y : Num). args ++ y ∷ arguments n (suc i) (drop (i + 1) types)) is
    ∙ ap (λ (ts : List JType). args ++ arguments n i ts) (sym (drop_more types i d lt))
    ∙ so_far
