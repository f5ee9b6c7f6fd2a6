-- The items of a class file as they stand in it, and their spelling (JVMS 4.1 to 4.7.3).
use Rattle.std.specs.Prelude.{ℕ, ◌<◌, ◌^◌, List, ◌++◌, length}
use Rattle.std.specs.List.{flat_map, AllByRecursion}
use Rattle.std.specs.Int.{w16, w32, to_be_bytes}

abbrev pub u2 : ℕ → List ℕ
u2 n = to_be_bytes w16 n

abbrev pub u4 : ℕ → List ℕ
u4 n = to_be_bytes w32 n

abbrev pub IsU2 : ℕ → Type 0
IsU2 n = n < 2 ^ 16

-- a table: the number of its entries, and the entries
abbrev pub table : {A : Type 0} → (A → List ℕ) → List A → List ℕ
table text xs = u2 (length xs) ++ flat_map text xs

abbrev pub IsTable : {A : Type 0} → (A → Type 0) → List A → Type 0
IsTable P xs = IsU2 (length xs) × AllByRecursion P xs

-- an attribute (JVMS 4.7): the index of its name, and its contents
pub record Attribute : Type 0 where
  pub name : ℕ
  pub contents : List ℕ

abbrev pub attribute_text : Attribute → List ℕ
attribute_text a = u2 a.name ++ (u4 (length a.contents) ++ a.contents)

pub record FitsAttribute (a : Attribute) : Type 0 where
  pub name : IsU2 a.name
  pub contents : length a.contents < 2 ^ 32

-- a field or a method (JVMS 4.5, 4.6)
pub record MemberInfo : Type 0 where
  pub flags : ℕ
  pub name : ℕ
  pub desc : ℕ
  pub attributes : List Attribute

abbrev pub member_text : MemberInfo → List ℕ
member_text m = u2 m.flags ++ (u2 m.name ++ (u2 m.desc ++ table attribute_text m.attributes))

pub record FitsMemberInfo (m : MemberInfo) : Type 0 where
  pub flags : IsU2 m.flags
  pub name : IsU2 m.name
  pub desc : IsU2 m.desc
  pub attributes : IsTable FitsAttribute m.attributes

-- an entry of an exception table (JVMS 4.7.3)
pub record Handler : Type 0 where
  pub start : ℕ
  pub end : ℕ
  pub target : ℕ
  pub catch : ℕ

abbrev pub handler_text : Handler → List ℕ
handler_text h = u2 h.start ++ (u2 h.end ++ (u2 h.target ++ u2 h.catch))

pub record FitsHandler (h : Handler) : Type 0 where
  pub start : IsU2 h.start
  pub end : IsU2 h.end
  pub target : IsU2 h.target
  pub catch : IsU2 h.catch

-- the contents of a Code attribute (JVMS 4.7.3)
pub record CodeItems : Type 0 where
  pub max_stack : ℕ
  pub max_locals : ℕ
  pub code : List ℕ
  pub handlers : List Handler
  pub attributes : List Attribute

abbrev pub code_text : CodeItems → List ℕ
code_text c = u2 c.max_stack ++ (u2 c.max_locals ++ (u4 (length c.code) ++ (c.code ++ (table handler_text c.handlers ++ table attribute_text c.attributes))))

-- the code has 1 to 65535 bytes
pub record FitsCode (c : CodeItems) : Type 0 where
  pub max_stack : IsU2 c.max_stack
  pub max_locals : IsU2 c.max_locals
  pub some : 0 < length c.code
  pub few : length c.code < 65536
  pub handlers : IsTable FitsHandler c.handlers
  pub attributes : IsTable FitsAttribute c.attributes

-- a class file (JVMS 4.1); its constant pool has this text
pub record Items : Type 0 where
  pub minor : ℕ
  pub major : ℕ
  pub pool_text : List ℕ
  pub flags : ℕ
  pub this : ℕ
  pub super : ℕ
  pub interfaces : List ℕ
  pub fields : List MemberInfo
  pub methods : List MemberInfo
  pub attributes : List Attribute

abbrev pub file_text : Items → List ℕ
file_text i =
    u4 0xCAFEBABE ++ (u2 i.minor ++ (u2 i.major ++ (i.pool_text ++ (u2 i.flags ++ (u2 i.this ++ (u2 i.super
    ++ (table u2 i.interfaces ++ (table member_text i.fields ++ (table member_text i.methods ++ table attribute_text i.attributes)))))))))

pub record FitsItems (i : Items) : Type 0 where
  pub minor : IsU2 i.minor
  pub major : IsU2 i.major
  pub flags : IsU2 i.flags
  pub this : IsU2 i.this
  pub super : IsU2 i.super
  pub interfaces : IsTable IsU2 i.interfaces
  pub fields : IsTable FitsMemberInfo i.fields
  pub methods : IsTable FitsMemberInfo i.methods
  pub attributes : IsTable FitsAttribute i.attributes
