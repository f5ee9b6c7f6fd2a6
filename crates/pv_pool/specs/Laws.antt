-- The laws of pools.
use Rattle.std.specs.Prelude.{◌≡◌, ◌≢◌, ℕ, List, Some}
use Rattle.std.specs.List.{AllByRecursion}
use Rattle.pv_value.specs.declared.name.Sym.{Sym}
use Rattle.pv_value.specs.declared.receiver.Form.{Form}
use Rattle.pv_value.specs.Receivers.{receiver_sym}
use Rattle.pv_pool.specs.declared.entry.Entry.{Entry}
use Rattle.pv_pool.specs.declared.constant.Member.{Member}
use Rattle.pv_pool.specs.Entries.{IsEntry}
use Rattle.pv_pool.specs.Readers.{member_under}

-- no member that a pool names has a receiver symbol as its symbol
abbrev pub NamesApart : Type 0
NamesApart = (pool : List Entry) → AllByRecursion IsEntry pool → (i : ℕ) (m : Member) → member_under pool i ≡ Some m → (form : Form) (s : Sym) → m.sym ≢ receiver_sym form s
