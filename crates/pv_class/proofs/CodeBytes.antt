-- The code of a method of a class file holds bytes, since the file does.
use Rattle.std.proofs.Common.{◌≡◌, ℕ, List, [], ◌∷◌, ◌++◌, Some, sym, subst}
use Rattle.std.specs.List.{AllByRecursion, AllZip, flat_map}
use Rattle.std.proofs.lemmas.List.Concat.{flat_map-cons}
use Rattle.std.proofs.lemmas.Grind.{flat_map-append}
use Rattle.pv_pool.specs.declared.entry.Entry.{Entry}
use Rattle.pv_format.proofs.Cited.{IsBytes, IsBytes-left, IsBytes-right}
use Rattle.pv_class.specs.declared.file.Code.{Code}
use Rattle.pv_class.specs.declared.file.Method.{Method}
use Rattle.pv_class.specs.declared.file.ClassFile.{ClassFile}
use Rattle.pv_class.specs.Items.{Attribute, attribute_text, MemberInfo, member_text, code_text, file_text}
use Rattle.pv_class.specs.ClassFiles.{OneCode, CodeAmong, IsMethod, IsClass}

-- the code of this method, if it has one
abbrev pub HasBytes : Method → Type 0
HasBytes m = (code : Code) → m.code ≡ Some code → IsBytes code.bytes

-- a text of bytes
record Text (text : List ℕ) : Type 0 where
  bytes : IsBytes text

front : (a b : List ℕ) → Text (a ++ b) → Text a
front a b t = record { bytes = IsBytes-left a b t.bytes }

after : (a b : List ℕ) → Text (a ++ b) → Text b
after a b t = record { bytes = IsBytes-right a b t.bytes }

-- the text of an element among others
text_at : {A : Type 0} (text : A → List ℕ) (before : List A) (x : A) (rest : List A) → Text (flat_map text (before ++ x ∷ rest)) → Text (text x)
text_at text before x rest t = front (text x) (flat_map text rest) (after (flat_map text before) _ (rw (flat_map-append text before (x ∷ rest), flat_map-cons text x rest) at t))

one_code : (pool : List Entry) (attributes : List Attribute) (code : Code) → Text (flat_map attribute_text attributes) → OneCode pool attributes code → IsBytes code.bytes
one_code pool attributes code t one =
    let text = text_at attribute_text one.before one.attribute one.after (subst (λ (l : List Attribute). Text (flat_map attribute_text l)) one.among t) in
    let contents : Text one.attribute.contents = search (front, after) in
    let items : Text (code_text one.items) = subst Text one.holds.spelled contents in
    let run : Text one.items.code = search (front, after) in
    subst (λ (c : Code). IsBytes c.bytes) (sym one.holds.held) run.bytes

method_bytes : (pool : List Entry) (m : MemberInfo) (method : Method) → Text (member_text m) → IsMethod pool m method → HasBytes method
method_bytes pool m method t is code has =
    let attributes : Text (flat_map attribute_text m.attributes) = search (front, after) in
    one_code pool m.attributes code attributes (subst (CodeAmong pool m.attributes) has is.code)

methods_bytes : (pool : List Entry) (ms : List MemberInfo) (methods : List Method) → Text (flat_map member_text ms) → AllZip (IsMethod pool) ms methods → AllByRecursion HasBytes methods
methods_bytes pool [] [] t are = tt
methods_bytes pool (m ∷ ms) (method ∷ methods) t are =
    let parts : Text (member_text m ++ flat_map member_text ms) = subst Text (flat_map-cons member_text m ms) t in
    (method_bytes pool m method (front (member_text m) _ parts) are.0, methods_bytes pool ms methods (after (member_text m) _ parts) are.1)
methods_bytes pool ms methods t are = absurd are

pub class_bytes : (bytes : List ℕ) (file : ClassFile) → IsBytes bytes → IsClass bytes file → AllByRecursion HasBytes file.methods
class_bytes bytes file fits is =
    let text : Text (file_text is.items) = record { bytes = subst IsBytes is.spelled fits } in
    let methods : Text (flat_map member_text is.items.methods) = search (front, after) depth 12 in
    methods_bytes file.pool is.items.methods file.methods methods is.describes.methods
