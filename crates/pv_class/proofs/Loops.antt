-- Reading n items one after the other, after i of them.
use Rattle.std.proofs.Common.{◌≡◌, ℕ, ◌+◌, ◌-◌, ◌<◌, List, [], ◌∷◌, ◌++◌, Option, refl, ap}
use Rattle.pv_pool.specs.declared.entry.Entry.{Entry}
use Rattle.pv_format.specs.GrammarReading.{read}
use Rattle.pv_format.proofs.Cited.{then_read, read_steps}
use Rattle.pv_class.specs.declared.file.Code.{Code}
use Rattle.pv_class.specs.declared.file.Method.{Method}
use Rattle.pv_class.specs.declared.signature.Signature.{Signature}
use Rattle.pv_class.specs.ClassGrammar.{attribute, attributes, method, methods, signature, signatures}

pub read_attributes : (pool : List Entry) (n i : ℕ) (so_far : Option Code) (bytes : List ℕ) → i < n → read (attributes pool (n - i) so_far) bytes ≡ then_read (read (attribute pool so_far) bytes) (λ now rest. read (attributes pool (n - (i + 1)) now) rest)
unfolding attributes
read_attributes pool = read_steps (attributes pool) (attribute pool) (λ so_far now. now) (λ n so_far. refl)

pub read_methods : (pool : List Entry) (n i : ℕ) (so_far : List Method) (bytes : List ℕ) → i < n → read (methods pool (n - i) so_far) bytes ≡ then_read (read (method pool (signatures so_far)) bytes) (λ m rest. read (methods pool (n - (i + 1)) (so_far ++ m ∷ [])) rest)
unfolding methods
read_methods pool = read_steps (methods pool) (λ so_far. method pool (signatures so_far)) (λ so_far m. so_far ++ m ∷ []) (λ n so_far. refl)

pub signatures_more : (ms : List Method) (m : Method) → signatures (ms ++ m ∷ []) ≡ signatures ms ++ signature m ∷ []
signatures_more [] m = refl
signatures_more (x ∷ ms) m = ap (λ (ss : List Signature). signature x ∷ ss) (signatures_more ms m)
