-- Single items by their spelling: indices, attributes, interfaces, exception handlers and fields.
use Rattle.std.proofs.Common.{◌≡◌, ℕ, List, ◌++◌, length, Some, is_some, refl, ap, append_assoc}
use Rattle.std.specs.List.{AllByRecursion}
use Rattle.pv_pool.specs.declared.entry.Entry.{Entry}
use Rattle.pv_pool.specs.Pools.{HasText, HasClass}
use Rattle.pv_pool.specs.Readers.{text_under}
use Rattle.pv_format.proofs.Cited.{Spells, seen, give_spells, check_spells, here_spells, then_spells, last_spells, made_spells}
use Rattle.pv_class.specs.declared.room.Room.{Room}
use Rattle.pv_class.specs.declared.member.MemberHead as front
use Rattle.pv_class.specs.declared.member.MemberKind.{MemberKind}
use Rattle.pv_class.specs.declared.member.MemberKind.TheVariants as kind
use Rattle.pv_class.specs.declared.fault.Cause.TheVariants as cause
use Rattle.pv_format.specs.Grammars.{Test}
use Rattle.pv_class.specs.CheckLaws
use Rattle.pv_class.specs.Checks.{utf8, class}
use Rattle.pv_class.specs.Grammars.{failure}
use Rattle.pv_class.specs.Grammars as grammar
use Rattle.pv_class.specs.ClassGrammar.{in_file, index, contents, skipped, interface, handler, member, field, typed, text_at, or_nothing}
use Rattle.pv_class.specs.Items.{u2, u4, IsU2, table, IsTable, Attribute, attribute_text, FitsAttribute, MemberInfo, member_text, FitsMemberInfo, handler_text, FitsHandler}
use Rattle.pv_class.specs.ClassFiles.{IsField}
use Rattle.pv_class.proofs.Takings.{u2_spells, bytes_spells, sized_spells, IsU4, tables_spells}

-- ---- the text under an index

pub text_found : (pool : List Entry) (i : ℕ) → HasText pool i → text_under pool i ≡ Some (text_at pool i)
text_found pool i h = rw h.1 refl

pub text_read : (pool : List Entry) (i : ℕ) (text : List ℕ) → text_under pool i ≡ Some text → text_at pool i ≡ text
text_read pool i text e = ap or_nothing e

pub text_is : (pool : List Entry) (i : ℕ) (text : List ℕ) → text_under pool i ≡ Some text → HasText pool i
text_is pool i text e = (CheckLaws.text_decides pool i).0 (ap is_some e)

-- ---- items

abbrev pub IsIndex : (ℕ → Test) → ℕ → Type 0
IsIndex kind i = IsU2 i × (kind i).Holds

pub index_spells : (room : Room) (kind : ℕ → Test) → Spells (index room kind) room.after u2 (λ i _. IsIndex kind i) (λ i. i)
unfolding index
index_spells room kind = seen (here_spells (λ left. last_spells (u2_spells room) (λ i. check_spells (kind i) (failure cause.Reference left) (give_spells i))))
    (λ i rest (fits, is). (i, refl, refl, (fits, is.0)))
    (λ i rest (fits, is). (i, refl, refl, (fits, (is, tt))))

abbrev pub contents_text : List ℕ → List ℕ
contents_text c = u4 (length c) ++ c

pub contents_spells : (room : Room) → Spells (contents room) room.after contents_text (λ c _. IsU4 (length c)) (λ _. tt)
unfolding contents
contents_spells room = seen (sized_spells room length (λ n c rest q. q) (λ size. made_spells (λ _. tt) (bytes_spells room size)))
    (λ c rest s. (c, refl, refl, s.0))
    (λ c rest s. (c, refl, refl, (s, refl)))

-- an attribute whose name is the index of a Utf8
abbrev pub Named : List Entry → Attribute → Type 0
Named pool a = HasText pool a.name

pub skipped_spells : (room : Room) (pool : List Entry) → Spells (skipped room pool) room.after attribute_text (λ a _. FitsAttribute a × Named pool a) (λ _. tt)
unfolding skipped
skipped_spells room pool = seen (then_spells (index_spells room (utf8 pool)) (λ _. contents_spells room))
    (λ (name, c) rest ((fits, named), few). (record { name = name; contents = c }, refl, refl, (record { name = fits; contents = few }, named)))
    (λ a rest (fits, named). ((a.name, a.contents), refl, refl, ((fits.name, named), fits.contents)))

pub attributes_spells : (room : Room) (pool : List Entry) → Spells (grammar.table room (skipped room pool)) room.after (table attribute_text) (λ attrs _. IsTable FitsAttribute attrs × AllByRecursion (Named pool) attrs) length
attributes_spells room pool = tables_spells room FitsAttribute (Named pool) (skipped_spells room pool)

pub interface_spells : (room : Room) (pool : List Entry) → Spells (interface room pool) room.after u2 (λ i _. IsU2 i × HasClass pool i) (λ _. tt)
unfolding interface
interface_spells room pool = made_spells (λ _. tt) (index_spells room (class pool))

pub handler_spells : (room : Room) → Spells (handler room) room.after handler_text (λ h _. FitsHandler h) (λ _. tt)
unfolding handler
handler_spells room = seen (then_spells (u2_spells room) (λ _. then_spells (u2_spells room) (λ _. then_spells (u2_spells room) (λ _. made_spells (λ _. tt) (u2_spells room)))))
    (λ (a, (b, (c, d))) rest s. (record { start = a; end = b; target = c; catch = d }, refl, refl, assumption))
    (λ h rest s. ((h.start, (h.end, (h.target, h.catch))), refl, refl, assumption))

-- ---- fields, and what a field or a method begins with

abbrev pub front_text : front.MemberHead → List ℕ
front_text m = u2 m.flags ++ (u2 m.name ++ u2 m.desc)

pub record IsFront (k : MemberKind) (pool : List Entry) (m : front.MemberHead) : Type 0 where
  pub flags : IsU2 m.flags
  pub name : IsIndex (utf8 pool) m.name
  pub desc : IsIndex (utf8 pool) m.desc
  pub typed : (typed k (text_at pool m.desc)).Holds

pub member_spells : (k : MemberKind) (pool : List Entry) → Spells (member k pool) 0 front_text (λ m _. IsFront k pool m) (λ m. m)
unfolding member
member_spells k pool =
    let index = index_spells in_file (utf8 pool) in
    seen (here_spells (λ left. then_spells (u2_spells in_file) (λ flags. then_spells index (λ name. last_spells index (λ desc. check_spells (typed k (text_at pool desc)) (failure cause.Descriptor left) (give_spells (record { flags = flags; name = name; desc = desc })))))))
    (λ (flags, (name, desc)) rest s. (record { flags = flags; name = name; desc = desc }, refl, refl, assumption))
    (λ m rest s. ((m.flags, (m.name, m.desc)), refl, refl, assumption))

-- a field or a method by what it begins with and its attributes
abbrev pub info : front.MemberHead → List Attribute → MemberInfo
info m attributes = record { flags = m.flags; name = m.name; desc = m.desc; attributes = attributes }

abbrev pub front_of : MemberInfo → front.MemberHead
front_of m = record { flags = m.flags; name = m.name; desc = m.desc }

pub front_is : (k : MemberKind) (pool : List Entry) (m : MemberInfo) (desc : List ℕ) → FitsMemberInfo m → HasText pool m.name → text_under pool m.desc ≡ Some desc → (typed k desc).Holds → IsFront k pool (front_of m)
front_is k pool m desc f name e is = record { flags = f.flags; name = (f.name, name); desc = (f.desc, text_is pool m.desc desc e); typed = rw (text_read pool m.desc desc e) is }

pub field_spells : (pool : List Entry) → Spells (field pool) 0 member_text (λ m _. FitsMemberInfo m × IsField pool m) (λ _. tt)
unfolding field
field_spells pool = seen (then_spells (member_spells kind.Field pool) (λ _. made_spells (λ _. tt) (attributes_spells in_file pool)))
    (λ (m, attrs) rest (f, a).
    (info m attrs, simp append_assoc, refl, (record { flags = f.flags; name = f.name.0; desc = f.desc.0; attributes = a.0 }, record { name = f.name.1; desc = text_at pool m.desc; desc_is = text_found pool m.desc f.desc.1; typed = f.typed; attributes = a.1 })))
    (λ m rest (f, is). ((front_of m, m.attributes), simp append_assoc, refl, (front_is kind.Field pool m is.desc f is.name is.desc_is is.typed, (f.attributes, is.attributes))))
