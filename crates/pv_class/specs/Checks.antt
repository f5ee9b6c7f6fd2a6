-- What items of a class file must pass besides their spelling (JVMS 4.1 to 4.7.3): the fact that holds, and by its law what tells it.
use Rattle.std.specs.Prelude.{◌≡◌, ◌⊎◌, ◌==◌, ◌||◌, ℕ, not, List, is_some}
use Rattle.std.specs.List.{Contains, list_any}
use Rattle.pv_value.specs.declared.descriptor.Descriptor.{Descriptor}
use Rattle.pv_value.specs.declared.descriptor.JType.{JType}
use Rattle.pv_value.specs.Descriptors.{IsFieldType, IsMethodType}
use Rattle.pv_pool.specs.declared.entry.Entry.{Entry}
use Rattle.pv_pool.specs.Pools.{entry_under, HasText, HasClass}
use Rattle.pv_pool.specs.Readers.{text_under}
use Rattle.pv_format.specs.Grammars.{Test}
use Rattle.pv_class.specs.declared.signature.Signature.{Signature}
use Rattle.pv_class.specs.Deciding
use Rattle.pv_class.specs.CheckLaws

-- the index of a Utf8
abbrev pub utf8 : List Entry → ℕ → Test
utf8 pool i = record { Holds = HasText pool i; tells = is_some (text_under pool i); law = CheckLaws.text_decides pool i }

-- of a Class
abbrev pub class : List Entry → ℕ → Test
class pool i = record { Holds = HasClass pool i; tells = Deciding.is_class (entry_under pool i); law = CheckLaws.class_decides pool i }

-- of a Class, or 0, which stands for no superclass
abbrev pub class_or_none : List Entry → ℕ → Test
class_or_none pool i = record { Holds = (i ≡ 0) ⊎ HasClass pool i; tells = (i == 0) || Deciding.is_class (entry_under pool i); law = CheckLaws.none_decides pool i }

abbrev pub field_type : List ℕ → Test
field_type desc = record { Holds = (t : JType) × IsFieldType desc t; tells = Deciding.is_field_type desc; law = CheckLaws.field_decides desc }

abbrev pub method_type : List ℕ → Test
method_type desc = record { Holds = (d : Descriptor) × IsMethodType desc d; tells = Deciding.is_method_type desc; law = CheckLaws.method_decides desc }

-- none of the methods before has the name and the descriptor
abbrev pub new : List Signature → Signature → Test
new seen signature = record { Holds = Contains seen signature → ⊥; tells = not (list_any (Deciding.alike signature) seen); law = CheckLaws.new_decides seen signature }
