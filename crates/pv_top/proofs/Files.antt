-- The files that were fetched.
use Rattle.std.proofs.Common.{◌≡◌, ℕ, zero, suc, ◌<◌, List, [], ◌∷◌, length, Option, Some, None, Result, Err, subst, arith}
use Rattle.std.specs.Global.{Vec}
use Rattle.std.specs.List.{Contains}
use Rattle.pv_base.specs.Stored.{Stored, AreBytes}
use Rattle.pv_base.specs.Outside.{FetchGives}
use Rattle.pv_base.specs.declared.outside.FileFault.{FileFault}
use Rattle.pv_base.specs.declared.outside.FileFault.TheVariants as file
use Rattle.pv_class.specs.declared.file.Method.{Method}
use Rattle.pv_class.specs.declared.file.ClassFile.{ClassFile}
use Rattle.pv_class.specs.ClassFiles.{IsClass}
use Rattle.pv_class.proofs.Cited.{HasBytes, class_bytes}
use Rattle.pv_report.proofs.Cited.{all_at, by_index}
use Rattle.pv_top.specs.Promise.{Holds}

long_list : (n : ℕ) → (bytes : List ℕ) × AreBytes bytes × (n < length bytes)
long_list zero = (0 ∷ [], (omega arith, tt), omega arith)
long_list (suc n) = let l = long_list n in (0 ∷ l.0, (omega arith, l.1), omega (arith, l.2))

-- a file that is too long has bytes, where the store tells them, and may have any else
pub too_long : (held : Option Stored) (name : List ℕ) (limit : ℕ) (r : Result (Vec ℕ) FileFault) → r ≡ Err file.TooLong → FetchGives held name limit r → (bytes : List ℕ) × Holds held name bytes × AreBytes bytes × (limit < length bytes)
too_long None name limit r e h = let l = long_list limit in (l.0, tt, l.1, l.2)
too_long (Some m) name limit r e h = subst (λ (x : Result (Vec ℕ) FileFault). FetchGives (Some m) name limit x) e h

-- the store has these bytes under two names
pub record HoldsBoth (held : Option Stored) (a b first second : List ℕ) : Type 0 where
  pub first_held : Holds held a first
  pub second_held : Holds held b second
  pub first_bytes : AreBytes first
  pub second_bytes : AreBytes second

-- the code of a method of a class file holds bytes
pub has_bytes : (bytes : List ℕ) (file : ClassFile) (m : Method) → AreBytes bytes → IsClass bytes file → Contains file.methods m → HasBytes m
has_bytes bytes file m fits is among = all_at HasBytes file.methods m (class_bytes bytes file (by_index bytes fits) is) among
