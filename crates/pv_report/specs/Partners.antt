-- The method of the other file that is compared with a method.
use Rattle.std.specs.Prelude.{◌≡◌, ℕ, List}
use Rattle.std.specs.List.{Contains}
use Rattle.pv_class.specs.declared.file.Method.{Method}
use Rattle.pv_frame.specs.Programs.{is_instance}

-- the same name, the same descriptor, and static where this one is
pub record IsLike (m other : Method) : Type 0 where
  pub name : other.name ≡ m.name
  pub desc : other.desc ≡ m.desc
  pub static : is_instance other.flags ≡ is_instance m.flags

-- the method of the other file that is like this one
pub record IsPartner (m : Method) (others : List Method) (partner : Method) : Type 0 where
  pub among : Contains others partner
  pub like : IsLike m partner

-- a method of these with this name and this descriptor. No two methods of a class have both in common (JVMS 4.6)
pub record IsNamed (name desc : List ℕ) (methods : List Method) (m : Method) : Type 0 where
  pub among : Contains methods m
  pub name_is : m.name ≡ name
  pub desc_is : m.desc ≡ desc
