-- What a listing needs in its constant pool: each entry once, in the order in which it is needed first.
use Rattle.std.specs.Prelude.{ℕ, ◌+◌, nat_le, ◌==◌, List, [], ◌∷◌, ◌++◌, length, Option, Some, None, if◌then◌else◌}
use Rattle.std.specs.Int.{w16, to_be_bytes}
use Rattle.std.specs.List.{flat_map}
use Rattle.std.specs.Str.{bytes_eq}
use Rattle.pv_value.specs.declared.name.Sym.{Sym}
use Rattle.pv_pool.specs.declared.entry.Entry.{Entry}
use Rattle.pv_pool.specs.declared.entry.Entry.TheVariants.{Utf8, Class, Fieldref, Methodref, NameAndType}
use Rattle.pv_pool.specs.Entries.{entry_text}
use Rattle.pv_pool.specs.Readers.{◌>>=◌}

-- ---- pools

-- a pool as its entries, each as its bytes
abbrev pub Pool : Type 0
Pool = List (List ℕ)

-- how many indices the entry of these bytes takes: a Long, whose tag is 5, takes two (JVMS 4.4.5)
abbrev pub width : List ℕ → ℕ
width [] = 1
width (tag ∷ contents) = if tag == 5 then 2 else 1

-- the index after entries that begin at an index; after those from 1 on it is constant_pool_count
abbrev pub after : ℕ → Pool → ℕ
after i [] = i
after i (e ∷ pool) = after (i + width e) pool

-- the index of an entry among entries that begin at an index
abbrev pub index_from : ℕ → Pool → List ℕ → Option ℕ
index_from i [] text = None
index_from i (e ∷ pool) text = if bytes_eq text e then Some i else index_from (i + width e) pool text

-- constant_pool_count and the entries (JVMS 4.1)
abbrev pub pool_text : Pool → List ℕ
pool_text pool = to_be_bytes w16 (after 1 pool) ++ flat_map (λ e. e) pool

-- ---- entries that are needed

-- the index of an entry, and the pool in which it stands
pub record Needed : Type 0 where
  pub index : ℕ
  pub pool : Pool

abbrev pub needed : ℕ → Pool → Needed
needed i pool = record { index = i; pool = pool }

-- an entry that isn't there is put after the others, if constant_pool_count stays at most 65535
abbrev pub need_new : Pool → List ℕ → Option Needed
need_new pool text = if nat_le (after 1 pool + width text) 65535 then Some (needed (after 1 pool) (pool ++ text ∷ [])) else None

-- the entry of these bytes, where its index is known or None
abbrev pub need_at : Pool → List ℕ → Option ℕ → Option Needed
need_at pool text (Some i) = Some (needed i pool)
need_at pool text None = need_new pool text

abbrev pub need_bytes : Pool → List ℕ → Option Needed
need_bytes pool text = need_at pool text (index_from 1 pool text)

abbrev pub need : Pool → Entry → Option Needed
need pool e = need_bytes pool (entry_text e)

-- a text; one of more than 65535 bytes has no entry (JVMS 4.4.7)
abbrev pub need_text : Pool → List ℕ → Option Needed
need_text pool text = if nat_le (length text) 65535 then need pool (Utf8 text) else None

-- the name of a class, and its Class
abbrev pub need_class : Pool → List ℕ → Option Needed
need_class pool name = do
  text ← need_text pool name
  need text.pool (Class text.index)

-- a name, a descriptor, and their NameAndType
abbrev pub need_named : Pool → List ℕ → List ℕ → Option Needed
need_named pool name desc = do
  first ← need_text pool name
  second ← need_text first.pool desc
  need second.pool (NameAndType first.index second.index)

-- invokestatic, whose opcode is 184, names a method, and getstatic to putfield a field
abbrev pub member : ℕ → ℕ → ℕ → Entry
member op class named = if op == 184 then Methodref class named else Fieldref class named

-- a member: its class, its name and descriptor, and then itself
abbrev pub need_member : Pool → ℕ → Sym → Option Needed
need_member pool op s = do
  class ← need_class pool s.class
  named ← need_named class.pool s.name s.desc
  need named.pool (member op class.index named.index)
