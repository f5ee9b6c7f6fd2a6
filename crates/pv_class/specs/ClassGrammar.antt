-- The grammar of class files (JVMS 4.1, 4.5 to 4.7.3): their items in order, and what each must pass.
use Rattle.std.specs.Prelude.{ℕ, zero, suc, ◌+◌, ◌-◌, Bool, true, false, List, [], ◌∷◌, ◌++◌, Option, Some, None, is_none, nat_le, ◌==◌, ◌&&◌, if◌then◌else◌, codes}
use Rattle.std.specs.Str.{bytes_eq}
use Rattle.pv_pool.specs.declared.entry.Entry.{Entry}
use Rattle.pv_pool.specs.Readers.{text_under}
use Rattle.pv_class.specs.declared.fault.Cause.TheVariants as cause
use Rattle.pv_class.specs.declared.room.Room.{Room}
use Rattle.pv_class.specs.declared.member.MemberHead.{MemberHead}
use Rattle.pv_class.specs.declared.member.MemberKind.{MemberKind}
use Rattle.pv_class.specs.declared.member.MemberKind.TheVariants as kind
use Rattle.pv_class.specs.declared.file.Code.{Code}
use Rattle.pv_class.specs.declared.file.Method.{Method}
use Rattle.pv_class.specs.declared.signature.Signature.{Signature}
use Rattle.pv_format.specs.Grammars.{Test, holds, give, here, check, ◌>>=◌}
use Rattle.pv_class.specs.Checks.{utf8, class, class_or_none, field_type, method_type, new}
use Rattle.pv_class.specs.Grammars.{failure, Grammar, u2, u4, run, table}

abbrev pub in_file : Room
in_file = record { after = 0; code = None }

-- In a Code attribute that begins where `start` bytes are left, with contents of `size` bytes where `left` are. Where the file ends before the attribute, its items are cut.
abbrev pub in_code : ℕ → ℕ → ℕ → Room
in_code start size left = if nat_le size left then record { after = left - size; code = Some start } else in_file

-- the index of an entry of the right kind, tested where it stands
unfoldable pub index : Room → (ℕ → Test) → Grammar ℕ
index room kind = here λ left. u2 room >>= λ i. check (kind i) (failure cause.Reference left) (give i)

abbrev pub or_nothing : Option (List ℕ) → List ℕ
or_nothing (Some bytes) = bytes
or_nothing None = []

-- the text under an index
abbrev pub text_at : List Entry → ℕ → List ℕ
text_at pool i = or_nothing (text_under pool i)

-- the length of an attribute, and contents that are skipped (JVMS 4.7)
unfoldable pub contents : Room → Grammar (Unit {0})
contents room = u4 room >>= λ size. run room size >>= λ skipped. give tt

unfoldable pub skipped : Room → List Entry → Grammar (Unit {0})
skipped room pool = index room (utf8 pool) >>= λ name. contents room

-- an interface (JVMS 4.1)
unfoldable pub interface : Room → List Entry → Grammar (Unit {0})
interface room pool = index room (class pool) >>= λ i. give tt

-- what the descriptor of a member is tested for
abbrev pub typed : MemberKind → List ℕ → Test
typed kind.Field desc = field_type desc
typed kind.Method desc = method_type desc

-- what a field or a method begins with (JVMS 4.5, 4.6)
unfoldable pub member : MemberKind → List Entry → Grammar MemberHead
member k pool = here λ left.
    u2 in_file >>= λ flags. index in_file (utf8 pool) >>= λ name. index in_file (utf8 pool) >>= λ desc.
    check (typed k (text_at pool desc)) (failure cause.Descriptor left) (give (record { flags = flags; name = name; desc = desc }))

-- a field (JVMS 4.5)
unfoldable pub field : List Entry → Grammar (Unit {0})
field pool = member kind.Field pool >>= λ m. table in_file (skipped in_file pool) >>= λ attributes. give tt

-- an entry of an exception table (JVMS 4.7.3)
unfoldable pub handler : Room → Grammar (Unit {0})
handler room = u2 room >>= λ start. u2 room >>= λ end. u2 room >>= λ target. u2 room >>= λ catch. give tt

-- a Code up to its exception table (JVMS 4.7.3): max_stack, max_locals and the code
unfoldable pub code_front : Room → ℕ → Grammar (ℕ × ℕ × List ℕ)
code_front room start =
    u2 room >>= λ max_stack. u2 room >>= λ max_locals. u4 room >>= λ n.
    check (holds (nat_le 1 n && nat_le n 65535)) (failure cause.Code start) (run room n >>= λ bytes. give (max_stack, max_locals, bytes))

-- the contents of a Code attribute, which end with it
unfoldable pub code_contents : List Entry → Room → ℕ → ℕ → ℕ → Grammar Code
code_contents pool room start size left =
    code_front room start >>= λ front. table room (handler room) >>= λ handlers. table room (skipped room pool) >>= λ attributes. here λ end.
    check (holds (end + size == left)) (failure cause.Code start) (give (record { max_stack = front.0; max_locals = front.1; bytes = front.2; handlers = handlers }))

unfoldable pub code : List Entry → ℕ → Grammar Code
code pool start = u4 in_file >>= λ size. here λ left. code_contents pool (in_code start size left) start size left

abbrev pub is_code : List Entry → ℕ → Bool
is_code pool name = bytes_eq (text_at pool name) (codes "Code")

-- an attribute of a method after its name; a Code is the first
abbrev pub attribute_named : List Entry → Option Code → ℕ → Bool → Grammar (Option Code)
attribute_named pool so_far start true = check (holds (is_none so_far)) (failure cause.Code start) (code pool start >>= λ c. give (Some c))
attribute_named pool so_far start false = contents in_file >>= λ skipped. give so_far

-- an attribute of a method, after which the method has this Code
unfoldable pub attribute : List Entry → Option Code → Grammar (Option Code)
attribute pool so_far = here λ start. index in_file (utf8 pool) >>= λ name. attribute_named pool so_far start (is_code pool name)

unfoldable pub attributes : List Entry → ℕ → Option Code → Grammar (Option Code)
attributes pool zero so_far = give so_far
attributes pool (suc n) so_far = attribute pool so_far >>= λ now. attributes pool n now

abbrev pub signature_of : List Entry → MemberHead → Signature
signature_of pool m = record { name = text_at pool m.name; desc = text_at pool m.desc }

abbrev pub method_of : List Entry → MemberHead → Option Code → Method
method_of pool m code = record { flags = m.flags; name = text_at pool m.name; desc = text_at pool m.desc; code = code }

-- a method after others with these signatures (JVMS 4.6)
unfoldable pub method : List Entry → List Signature → Grammar Method
method pool seen = here λ left. member kind.Method pool >>= λ m.
    check (new seen (signature_of pool m)) (failure cause.Duplicate left) (u2 in_file >>= λ n. attributes pool n None >>= λ code. give (method_of pool m code))

abbrev pub signature : Method → Signature
signature m = record { name = m.name; desc = m.desc }

abbrev pub signatures : List Method → List Signature
signatures [] = []
signatures (m ∷ ms) = signature m ∷ signatures ms

-- n methods more
unfoldable pub methods : List Entry → ℕ → List Method → Grammar (List Method)
methods pool zero so_far = give so_far
methods pool (suc n) so_far = method pool (signatures so_far) >>= λ m. methods pool n (so_far ++ m ∷ [])

unfoldable pub all_methods : List Entry → Grammar (List Method)
all_methods pool = u2 in_file >>= λ n. methods pool n []

-- what stands before the constant pool (JVMS 4.1)
unfoldable pub head : Grammar (Unit {0})
head = here λ start. u4 in_file >>= λ magic. check (holds (magic == 0xCAFEBABE)) (failure cause.Magic start) (here λ start.
    u2 in_file >>= λ minor. u2 in_file >>= λ major. check (holds (nat_le 45 major && nat_le major 69)) (failure cause.Version start) (give tt))

-- the flags, the class and its superclass
unfoldable pub class_front : List Entry → Grammar (Unit {0})
class_front pool = u2 in_file >>= λ flags. index in_file (class pool) >>= λ this. index in_file (class_or_none pool) >>= λ super. give tt

-- the methods and the attributes, after which nothing stands
unfoldable pub class_end : List Entry → Grammar (List Method)
class_end pool = all_methods pool >>= λ ms. table in_file (skipped in_file pool) >>= λ attributes. here λ left. check (holds (left == 0)) (failure cause.Trailing left) (give ms)

-- what stands after the constant pool; the methods are kept
unfoldable pub tail : List Entry → Grammar (List Method)
tail pool = class_front pool >>= λ front. table in_file (interface in_file pool) >>= λ interfaces. table in_file (field pool) >>= λ fields. class_end pool
