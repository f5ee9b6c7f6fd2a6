use Rattle.std.proofs.Common.{◌≡◌, ◌≢◌, ℤ, pos, [], ◌∷◌, true, false, refl, ap, sym, ◌∙◌, inl, inr, of_z, to_z, w64, Some, SFits, rules, map, if◌then◌else◌}
use Rattle.pv_machine.proofs.Words.{to_z-of_z, int_eq, Decides-int_eq, Num, ScalarOp, sort_of, sort_of_word, State, number_of, value_of, pushes, throws, divided, IsNumber}
use Rattle.pv_value.specs.declared.number.Num.TheVariants as num
use Rattle.pv_value.specs.declared.outcome.Fault.TheVariants as fault
use Rattle.pv_value.specs.Operations as operation
use Rattle.pv_machine.proofs.Values.{shape}
use Rattle.pv_machine.proofs.operations.quotient.Goals as goal

-- an operand is an int or a long
word_number : (w : operation.Word) (n : Num) (x : ℤ) → sort_of n ≡ sort_of_word w → IsNumber n x → number_of n ≡ x
word_number w (num.Int n) x e is = sym is.0
word_number w (num.Long n) x e is = sym is.0
word_number operation.int (num.Ref r) x e is = absurd (cc)
word_number operation.long (num.Ref r) x e is = absurd (cc)

divides : (op : ScalarOp) (a b : Num) (x y : ℤ) (v : Num) → sort_of a ∷ sort_of b ∷ [] ≡ map sort_of_word (operation.takes op) → IsNumber a x → IsNumber b y → y ≢ pos 0 → v ≡ value_of op x y →
    (s : State) → divided s op (a ∷ b ∷ []) ≡ Some (pushes s v)
divides op a b x y v sorts m n other is s = elim (shape op) [
  | inl (p, e) ↦ absurd (let same = sorts ∙ ap (map sort_of_word) e in cc (same))
  | inr (p, q, e) ↦
      let same = sorts ∙ ap (map sort_of_word) e in
      let first : number_of a ≡ x = word_number p a x (cc (same)) m in
      let second : number_of b ≡ y = word_number q b y (cc (same)) n in
      let value : value_of op (number_of a) (number_of b) ≡ v = ap (λ k. value_of op k (number_of b)) first ∙ ap (value_of op x) second ∙ sym is in
      let unequal : int_eq (number_of b) (pos 0) ≡ false = ap (λ k. int_eq k (pos 0)) second ∙ (elim (int_eq y (pos 0)) as (λ t. int_eq y (pos 0) ≡ t → t ≡ false) [ true ↦ λ t. absurd (other ((Decides-int_eq y (pos 0)).0 t)) | false ↦ λ _. refl ] refl) in
      ap (λ t. Some (if t then throws s fault.Arith else pushes s (value_of op (number_of a) (number_of b)))) unequal ∙ ap (λ k. Some (pushes s k)) value
]

pub returns-clause-leads : goal.returns-clause-leads
returns-clause-leads c =
    let x : SFits w64 c.number-dividend.result = search rules in
    let y : SFits w64 c.number-divisor.result = search rules in
    let same = ap (λ k. value_of c.args.op k (to_z w64 (of_z w64 c.number-divisor.result))) (to_z-of_z w64 c.number-dividend.result x) ∙ ap (value_of c.args.op c.number-dividend.result) (to_z-of_z w64 c.number-divisor.result y) in
    divides c.args.op c.args.a c.args.b _ _ _ c.requires c.number-dividend.ensures c.number-divisor.ensures (λ e. c.if-divisor-eq0.false (ap (of_z w64) e)) (c.value.ensures ∙ same)
