use Rattle.std.proofs.Common.{◌≡◌, List, ℕ, Result, Ok, Err, subst, ◌∙◌}
use Rattle.std.specs.Prelude.{IfOk}
use Rattle.std.specs.Global.{Vec}
use Rattle.pv_value.specs.declared.memory.Memory.{Memory}
use Rattle.pv_class.specs.declared.file.ClassFile.{ClassFile}
use Rattle.pv_class.specs.declared.fault.ClassFault.{ClassFault}
use Rattle.pv_class.specs.Answers.{IsAnswer}
use Rattle.pv_report.specs.declared.pair.Fetched.{Fetched}
use Rattle.pv_report.specs.declared.pair.Fetched.TheVariants.{Bytes}
use Rattle.pv_report.specs.Judging.{IsFetched, IsRead, ReadsFetched}
use Rattle.pv_report.proofs.pair.class_of.Goals as goal

class_read : (bytes : List ℕ) (r : Result (Result ClassFile ClassFault) Memory) → IfOk r (λ read. IsAnswer bytes read) → IfOk r (λ read. IfOk read (λ file. IsRead file))
class_read bytes (Ok (Ok file)) is = (bytes, is)
class_read bytes (Ok (Err fault)) is = tt
class_read bytes (Err e) is = tt

reads_bytes : (fetched : Fetched) (v : Vec ℕ) (now : List ℕ) (r : Result (Result ClassFile ClassFault) Memory) → fetched ≡ Bytes v → now ≡ v.items → IfOk r (λ read. IsAnswer now read) → IfOk r (λ read. ReadsFetched fetched read)
reads_bytes fetched v now (Ok read) e same is = λ bytes f.
    let all : v.items ≡ bytes = subst (λ (x : Fetched). IsFetched x bytes) e f in
    subst (λ (b : List ℕ). IsAnswer b read) (same ∙ all) is
reads_bytes fetched v now (Err m) e same is = tt

pub returns-in-Bytes-clause-class : goal.returns-in-Bytes-clause-class
returns-in-Bytes-clause-class c = class_read c.deref.result.now c.class_in.result c.class_in.ensures

pub returns-in-Bytes-clause-reads : goal.returns-in-Bytes-clause-reads
returns-in-Bytes-clause-reads c = reads_bytes c.args.fetched.now c.in-Bytes.bytes c.deref.result.now c.class_in.result c.in-Bytes.is c.deref.ensures.value c.class_in.ensures
