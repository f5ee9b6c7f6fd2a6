-- What stands before the constant pool of a class file, and after it, by the spelling.
use Rattle.std.proofs.Common.{◌≡◌, ℕ, ◌≤◌, ◌&&◌, eqb, leb, List, [], ◌++◌, length, refl, ap, append_assoc, arith}
use Rattle.std.specs.List.{AllByRecursion}
use Rattle.std.specs.Bool.{Decides}
use Rattle.std.proofs.lemmas.Bool.Decides.{Decides-eqb, nat_tests}
use Rattle.pv_pool.specs.declared.entry.Entry.{Entry}
use Rattle.pv_pool.specs.Pools.{HasClass}
use Rattle.pv_format.proofs.Cited.{Spells, seen, give_spells, check_spells, here_spells, then_spells, last_spells, made_spells}
use Rattle.pv_class.specs.declared.file.Method.{Method}
use Rattle.pv_class.specs.declared.fault.Cause.TheVariants as cause
use Rattle.pv_format.specs.Grammars.{holds}
use Rattle.pv_class.specs.Checks.{class, class_or_none}
use Rattle.pv_class.specs.Grammars.{failure}
use Rattle.pv_class.specs.ClassGrammar.{in_file, head, class_front, class_end, tail}
use Rattle.pv_class.specs.Items.{u2, u4, IsU2, table, IsTable, Attribute, attribute_text, FitsAttribute, MemberInfo, member_text, FitsMemberInfo, Items}
use Rattle.pv_class.specs.ClassFiles.{IsField}
use Rattle.pv_class.proofs.Takings.{u2_spells, u4_spells, tables_spells}
use Rattle.pv_class.proofs.ItemTexts.{IsIndex, index_spells, Named, attributes_spells, interface_spells, field_spells}
use Rattle.pv_class.proofs.MethodLists.{AreMethods, all_methods_spells}

-- ---- before the pool

abbrev pub head_text : ℕ × ℕ → List ℕ
head_text version = u4 0xCAFEBABE ++ (u2 version.0 ++ u2 version.1)

-- a minor and a major version
pub record IsVersion (version : ℕ × ℕ) : Type 0 where
  pub minor : IsU2 version.0
  pub major : IsU2 version.1
  pub old : 45 ≤ version.1
  pub young : version.1 ≤ 69

major_decides : (n : ℕ) → Decides (leb 45 n && leb n 69) ((45 ≤ n) × (n ≤ 69))
major_decides n = (λ e. grind (arith, nat_tests), λ h. grind (arith, nat_tests))

pub head_spells : Spells head 0 head_text (λ version _. IsVersion version) (λ _. tt)
unfolding head
head_spells = seen (here_spells (λ start. then_spells (u4_spells in_file) (λ magic. check_spells (holds (eqb magic 0xCAFEBABE)) (failure cause.Magic start) (here_spells (λ start.
    then_spells (u2_spells in_file) (λ minor. last_spells (u2_spells in_file) (λ major. check_spells (holds (leb 45 major && leb major 69)) (failure cause.Version start) (give_spells tt))))))))
    (λ (magic, (minor, major)) rest s. ((minor, major), ap (λ (n : ℕ). u4 n ++ (u2 minor ++ u2 major)) ((Decides-eqb magic 0xCAFEBABE).0 s.1.0), refl, assumption ((major_decides major).0 s.1.1.1.1.0)))
    (λ (minor, major) rest s. ((0xCAFEBABE, (minor, major)), refl, refl, (omega arith, (refl, (s.minor, (s.major, ((major_decides major).1 (s.old, s.young), tt)))))))

-- ---- after the pool

abbrev pub tail_text : Items → List ℕ
tail_text i = u2 i.flags ++ (u2 i.this ++ (u2 i.super ++ (table u2 i.interfaces ++ (table member_text i.fields ++ (table member_text i.methods ++ table attribute_text i.attributes)))))

-- the items after the pool
pub record IsTail (pool : List Entry) (i : Items) (all : List Method) : Type 0 where
  pub flags : IsU2 i.flags
  pub this : IsIndex (class pool) i.this
  pub super : IsIndex (class_or_none pool) i.super
  pub interfaces : IsTable IsU2 i.interfaces × AllByRecursion (HasClass pool) i.interfaces
  pub fields : IsTable FitsMemberInfo i.fields × AllByRecursion (IsField pool) i.fields
  pub methods : AreMethods pool i.methods all
  pub attributes : IsTable FitsAttribute i.attributes × AllByRecursion (Named pool) i.attributes

front_spells : (pool : List Entry) → Spells (class_front pool) 0 (λ (x : ℕ × (ℕ × ℕ)). u2 x.0 ++ (u2 x.1.0 ++ u2 x.1.1)) (λ x _. IsU2 x.0 × (IsIndex (class pool) x.1.0 × IsIndex (class_or_none pool) x.1.1)) (λ _. tt)
unfolding class_front
front_spells pool = then_spells (u2_spells in_file) (λ flags. then_spells (index_spells in_file (class pool)) (λ this. made_spells (λ _. tt) (index_spells in_file (class_or_none pool))))

-- nothing stands after the attributes
end_spells : (pool : List Entry) → Spells (class_end pool) 0 (λ (x : (List MemberInfo × List Method) × List Attribute). table member_text x.0.0 ++ table attribute_text x.1)
    (λ x rest. AreMethods pool x.0.0 x.0.1 × (IsTable FitsAttribute x.1 × AllByRecursion (Named pool) x.1) × (length rest ≡ 0)) (λ x. x.0.1)
unfolding class_end
end_spells pool = seen (then_spells (all_methods_spells pool) (λ ms. last_spells (attributes_spells in_file pool) (λ _. here_spells (λ left. check_spells (holds (eqb left 0)) (failure cause.Trailing left) (give_spells ms)))))
    (λ x rest s. (x, refl, refl, (s.0, s.1.0, (Decides-eqb (length rest) 0).0 s.1.1.0)))
    (λ x rest s. (x, refl, refl, (s.0, (s.1, ((Decides-eqb (length rest) 0).1 s.2, tt)))))

pub tail_spells : (pool : List Entry) → Spells (tail pool) 0 (λ (x : Items × List Method). tail_text x.0) (λ x rest. IsTail pool x.0 x.1 × (length rest ≡ 0)) (λ x. x.1)
unfolding tail
tail_spells pool =
    let interfaces = tables_spells in_file IsU2 (HasClass pool) (interface_spells in_file pool) in
    let fields = tables_spells in_file FitsMemberInfo (IsField pool) (field_spells pool) in
    seen (then_spells (front_spells pool) (λ _. then_spells interfaces (λ _. then_spells fields (λ _. end_spells pool))))
    (λ ((flags, (this, super)), (interfaces, (fields, ((methods, all), attributes)))) rest s.
    let i : Items = record { minor = 0; major = 0; pool_text = []; flags = flags; this = this; super = super; interfaces = interfaces; fields = fields; methods = methods; attributes = attributes } in
    ((i, all), simp append_assoc, refl, assumption))
    (λ (i, all) rest s. (((i.flags, (i.this, i.super)), (i.interfaces, (i.fields, ((i.methods, all), i.attributes)))), simp append_assoc, refl, assumption))
