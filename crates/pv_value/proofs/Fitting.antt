-- Inputs that fit a descriptor are inputs, and worlds stay worlds.
use Rattle.std.proofs.Common.{ℕ, ℤ, pos, negsuc, List, [], ◌∷◌, sym, subst, FitsSigned, ◌≤◌, arith}
use Rattle.std.specs.Prelude.{◌≤ℤ◌}
use Rattle.std.proofs.Common.{inl, inr}
use Rattle.std.specs.Int.{w32}
use Rattle.std.specs.List.{AllZip, AllByRecursion}
use Rattle.std.specs.FinMap.{get-empty}
use Rattle.std.specs.FinSet as set
use Rattle.std.specs.Ordering.{nat_cmp}
use Rattle.std.specs.Cmp.{nat_cmp_total}
use Rattle.std.specs.Cmp.Lexicographic.{nat_list_cmp_total}
use Rattle.std.proofs.lemmas.Map.Lookups.{exact_unsigned, exact_bytes}
use Rattle.std.proofs.lemmas.Int.{ints}
use Rattle.pv_value.specs.declared.descriptor.JType.{JType}
use Rattle.pv_value.specs.declared.descriptor.JType.TheVariants.{Z, B, C, S, I, J, A}
use Rattle.pv_value.specs.declared.descriptor.Descriptor.{Descriptor}
use Rattle.pv_value.specs.declared.number.Num.{Num}
use Rattle.pv_value.specs.declared.number.Num.TheVariants.{Int, Long, Ref}
use Rattle.pv_value.specs.declared.outcome.Input.{Input}
use Rattle.pv_value.specs.declared.outcome.Outcome.{Outcome}
use Rattle.pv_value.specs.declared.world.CallKey.{CallKey}
use Rattle.pv_value.specs.CallOrder.{key_cmp}
use Rattle.pv_value.specs.Order.{name_cmp}
use Rattle.pv_value.specs.Numbers.{IsRef, IsNum}
use Rattle.pv_value.specs.Inputs.{IsOfType, Fits, IsInput}
use Rattle.pv_value.specs.Worlds.{IsLength, IsCall}
use Rattle.pv_value.specs.Laws.{WorldsKept}
use Rattle.pv_value.proofs.CallOrders.{calls_total, exact_calls}
use Rattle.pv_value.proofs.Maps.{after_given, after_added}

small : (high : ℕ) (n : ℤ) → pos 0 ≤ℤ n → n ≤ℤ pos high → high ≤ 65535 → FitsSigned w32 n
small high (pos n) low above h = record { sfits = omega (arith, ints) }
small high (negsuc n) low above h = absurd (omega (arith, ints))

-- a number of a type is in the range of its sort
pub type_num : (t : JType) (n : Num) → IsOfType t n → IsNum n
type_num Z (Int n) h = small 1 n h.0 h.1 (omega arith)
type_num B (Int n) h = record { sfits = omega (arith, h.sfits) }
type_num C (Int n) h = small 65535 n h.0 h.1 (omega arith)
type_num S (Int n) h = record { sfits = omega (arith, h.sfits) }
type_num I (Int n) h = h
type_num J (Long n) h = h
type_num A (Ref r) h = h
type_num t n h = absurd h

args_nums : (ts : List JType) (ns : List Num) → AllZip IsOfType ts ns → AllByRecursion IsNum ns
args_nums [] [] h = tt
args_nums [] (n ∷ ns) h = absurd h
args_nums (t ∷ ts) [] h = absurd h
args_nums (t ∷ ts) (n ∷ ns) h = (type_num t n h.0, args_nums ts ns h.1)

pub fits_input : (d : Descriptor) (input : Input) → Fits d input → IsInput input
fits_input d input h = record { args = args_nums d.params input.args h.args; this = h.this; not_null = h.not_null; heap = h.heap }

pub worlds_kept : WorldsKept
worlds_kept = record {
  none = record {
    lengths = λ r n e. absurd (let none = get-empty {X = ℤ} nat_cmp r in cc (none, e));
    booleans = λ r t. absurd (let none = set.contains-empty nat_cmp r in cc (none, t));
    literals = λ text r e. absurd (let none = get-empty {X = ℕ} name_cmp text in cc (none, e));
    calls = λ key o e. absurd (let none = get-empty {X = Outcome} key_cmp key in cc (none, e));
  };
  length_ = λ w r n world is. record {
    lengths = λ q m e. elim (after_given nat_cmp nat_cmp_total exact_unsigned w.lengths r q n m e) [
      | inl new ↦ subst (λ (k : ℕ). IsLength k m) (sym new.0) (subst (IsLength r) new.1 is)
      | inr old ↦ world.lengths q m old
    ];
    booleans = world.booleans;
    literals = world.literals;
    calls = world.calls;
  };
  boolean = λ w r world is. record {
    lengths = world.lengths;
    booleans = λ q t. elim (after_added nat_cmp nat_cmp_total exact_unsigned w.booleans r q t) [
      | inl new ↦ subst IsRef (sym new) is
      | inr old ↦ world.booleans q old
    ];
    literals = world.literals;
    calls = world.calls;
  };
  home = λ w s class world. record { lengths = world.lengths; booleans = world.booleans; literals = world.literals; calls = world.calls };
  literal = λ w text r world is. record {
    lengths = world.lengths;
    booleans = world.booleans;
    literals = λ t q e. elim (after_given name_cmp nat_list_cmp_total exact_bytes w.literals text t r q e) [
      | inl new ↦ subst IsRef new.1 is
      | inr old ↦ world.literals t q old
    ];
    calls = world.calls;
  };
  call = λ w key o world is. record {
    lengths = world.lengths;
    booleans = world.booleans;
    literals = world.literals;
    calls = λ k p e. elim (after_given key_cmp calls_total exact_calls w.calls key k o p e) [
      | inl new ↦ subst (λ (x : CallKey). IsCall x p) (sym new.0) (subst (IsCall key) new.1 is)
      | inr old ↦ world.calls k p old
    ];
  };
}
