-- Class files: bytes that spell items which meet the conditions of the format (JVMS 4.1 to 4.7.3), and what they hold.
use Rattle.std.specs.Prelude.{◌≡◌, ◌⊎◌, ℕ, ◌≤◌, List, ◌∷◌, ◌++◌, length, Option, Some, None, slice_get, codes}
use Rattle.std.specs.List.{AllByRecursion, AllZip}
use Rattle.pv_value.specs.declared.descriptor.Descriptor.{Descriptor}
use Rattle.pv_value.specs.declared.descriptor.JType.{JType}
use Rattle.pv_value.specs.Descriptors.{IsFieldType, IsMethodType}
use Rattle.pv_pool.specs.declared.entry.Entry.{Entry}
use Rattle.pv_pool.specs.Pools.{HasText, HasClass, IsPoolText}
use Rattle.pv_pool.specs.Readers.{text_under}
use Rattle.pv_class.specs.declared.class.TheConstants.{LONGEST_FILE}
use Rattle.pv_class.specs.declared.file.Code.{Code}
use Rattle.pv_class.specs.declared.file.Method.{Method}
use Rattle.pv_class.specs.declared.file.ClassFile.{ClassFile}
use Rattle.pv_class.specs.Items.{Attribute, MemberInfo, CodeItems, Items, code_text, file_text, FitsCode, FitsItems}

abbrev pub code_word : List ℕ
code_word = codes "Code"

abbrev pub IsCodeAttribute : List Entry → Attribute → Type 0
IsCodeAttribute pool a = text_under pool a.name ≡ Some code_word

-- what is kept of a Code
abbrev pub code_of : CodeItems → Code
code_of c = record { max_stack = c.max_stack; max_locals = c.max_locals; bytes = c.code; handlers = length c.handlers }

-- what a Code attribute holds
pub record HoldsCode (pool : List Entry) (contents : List ℕ) (items : CodeItems) (code : Code) : Type 0 where
  pub spelled : contents ≡ code_text items
  pub fits : FitsCode items
  pub names : AllByRecursion (λ a. HasText pool a.name) items.attributes
  pub held : code ≡ code_of items

-- one of the attributes is the Code, and no other
pub record OneCode (pool : List Entry) (attributes : List Attribute) (code : Code) : Type 0 where
  pub before : List Attribute
  pub attribute : Attribute
  pub after : List Attribute
  pub items : CodeItems
  pub among : attributes ≡ before ++ attribute ∷ after
  pub named : IsCodeAttribute pool attribute
  pub others : AllByRecursion (λ a. ¬ IsCodeAttribute pool a) (before ++ after)
  pub holds : HoldsCode pool attribute.contents items code

-- the Code among the attributes of a method, if there is one
abbrev pub CodeAmong : List Entry → List Attribute → Option Code → Type 0
CodeAmong pool attributes None = AllByRecursion (λ a. ¬ IsCodeAttribute pool a) attributes
CodeAmong pool attributes (Some code) = OneCode pool attributes code

-- a field of a class file (JVMS 4.5)
pub record IsField (pool : List Entry) (m : MemberInfo) : Type 0 where
  pub name : HasText pool m.name
  pub desc : List ℕ
  pub desc_is : text_under pool m.desc ≡ Some desc
  pub typed : (t : JType) × IsFieldType desc t
  pub attributes : AllByRecursion (λ a. HasText pool a.name) m.attributes

-- a method of a class file, and what is kept of it (JVMS 4.6)
pub record IsMethod (pool : List Entry) (m : MemberInfo) (method : Method) : Type 0 where
  pub flags : method.flags ≡ m.flags
  pub name : text_under pool m.name ≡ Some method.name
  pub desc : text_under pool m.desc ≡ Some method.desc
  pub typed : (d : Descriptor) × IsMethodType method.desc d
  pub attributes : AllByRecursion (λ a. HasText pool a.name) m.attributes
  pub code : CodeAmong pool m.attributes method.code

-- no two methods have the same name and descriptor
abbrev pub AreDistinct : List Method → Type 0
AreDistinct methods = (i j : ℕ) (m n : Method) → slice_get methods i ≡ Some m → slice_get methods j ≡ Some n → m.name ≡ n.name → m.desc ≡ n.desc → i ≡ j

-- the items meet the conditions of the format, and the class file is what they say
pub record Describes (i : Items) (file : ClassFile) : Type 0 where
  pub fits : FitsItems i
  pub old : 45 ≤ i.major
  pub young : i.major ≤ 69
  pub pool : IsPoolText i.pool_text file.pool
  pub this : HasClass file.pool i.this
  pub super : (i.super ≡ 0) ⊎ HasClass file.pool i.super
  pub interfaces : AllByRecursion (HasClass file.pool) i.interfaces
  pub fields : AllByRecursion (IsField file.pool) i.fields
  pub methods : AllZip (IsMethod file.pool) i.methods file.methods
  pub distinct : AreDistinct file.methods
  pub attributes : AllByRecursion (λ a. HasText file.pool a.name) i.attributes

-- the bytes are the class file
pub record IsClass (bytes : List ℕ) (file : ClassFile) : Type 0 where
  pub items : Items
  pub spelled : bytes ≡ file_text items
  pub small : length bytes ≤ LONGEST_FILE
  pub describes : Describes items file
