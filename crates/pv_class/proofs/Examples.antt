-- A worked example: the class of one method `f ()I` whose code is iconst_1, ireturn, by the spelling of its items and by the grammar.
use Rattle.std.proofs.Common.{◌≡◌, ◌∷◌, [], List, ℕ, Some, refl}
use Rattle.std.specs.Prelude.{codes, ◌++◌, drop, take, Ok, Err}
use Rattle.pv_pool.specs.declared.entry.Entry.{Entry}
use Rattle.pv_pool.specs.declared.entry.Entry.TheVariants.{Utf8, Class}
use Rattle.pv_pool.specs.Pools.{spelling}
use Rattle.pv_class.specs.declared.file.Method.{Method}
use Rattle.pv_class.specs.declared.fault.Cause.TheVariants as cause
use Rattle.pv_format.specs.Grammars.{bind, times}
use Rattle.pv_class.specs.Grammars.{failure}
use Rattle.pv_class.specs.ClassGrammar as grammar
use Rattle.pv_class.specs.Deciding.{after_params}
use Rattle.pv_value.specs.Reading.{field_at}
use Rattle.pv_format.specs.GrammarReading.{read}
use Rattle.pv_class.specs.Items.{Items, CodeItems, code_text, file_text}
use Rattle.pv_class.specs.ClassFiles.{code_of}

-- the 98 bytes
abbrev bytes : List ℕ
bytes =
    0xCA ∷ 0xFE ∷ 0xBA ∷ 0xBE ∷ 0 ∷ 0 ∷ 0 ∷ 0x34 ∷ 0 ∷ 8 ∷ 1 ∷ 0 ∷ 1 ∷ 0x41 ∷ 7 ∷ 0 ∷ 1 ∷ 1 ∷ 0 ∷ 0x10 ∷ 0x6A ∷ 0x61 ∷ 0x76 ∷ 0x61 ∷ 0x2F ∷ 0x6C ∷ 0x61 ∷ 0x6E ∷ 0x67 ∷ 0x2F ∷ 0x4F ∷ 0x62 ∷ 0x6A ∷ 0x65 ∷ 0x63 ∷ 0x74
    ∷ 7 ∷ 0 ∷ 3 ∷ 1 ∷ 0 ∷ 1 ∷ 0x66 ∷ 1 ∷ 0 ∷ 3 ∷ 0x28 ∷ 0x29 ∷ 0x49 ∷ 1 ∷ 0 ∷ 4 ∷ 0x43 ∷ 0x6F ∷ 0x64 ∷ 0x65 ∷ 0 ∷ 0x21 ∷ 0 ∷ 2 ∷ 0 ∷ 4 ∷ 0 ∷ 0 ∷ 0 ∷ 0 ∷ 0 ∷ 1 ∷ 0 ∷ 9 ∷ 0 ∷ 5 ∷ 0 ∷ 6 ∷ 0 ∷ 1 ∷ 0 ∷ 7 ∷ 0 ∷ 0 ∷ 0 ∷ 14
    ∷ 0 ∷ 1 ∷ 0 ∷ 0 ∷ 0 ∷ 0 ∷ 0 ∷ 2 ∷ 4 ∷ 0xAC ∷ 0 ∷ 0 ∷ 0 ∷ 0 ∷ 0 ∷ 0 ∷ []

abbrev pool : List Entry
pool = Utf8 (codes "A") ∷ Class 1 ∷ Utf8 (codes "java/lang/Object") ∷ Class 3 ∷ Utf8 (codes "f") ∷ Utf8 (codes "()I") ∷ Utf8 (codes "Code") ∷ []

abbrev code : CodeItems
code = record { max_stack = 1; max_locals = 0; code = 4 ∷ 0xAC ∷ []; handlers = []; attributes = [] }

abbrev items : Items
items = record {
  minor = 0;
  major = 52;
  pool_text = spelling 8 pool;
  flags = 0x21;
  this = 2;
  super = 4;
  interfaces = [];
  fields = [];
  methods = record { flags = 9; name = 5; desc = 6; attributes = record { name = 7; contents = code_text code } ∷ [] } ∷ [];
  attributes = [];
}

-- they are the spelling of its items
spelled : bytes ≡ file_text items
spelled = refl

-- and they are read, the pool by its own reader; the first 7 are cut in the major version
head_reads : (read grammar.head bytes ≡ Ok (tt, drop 8 bytes)) × (read grammar.head (take 7 bytes) ≡ Err (failure cause.Truncated 1))
unfolding read bind grammar.head
head_reads = (refl, refl)

abbrev method : Method
method = record { flags = 9; name = codes "f"; desc = codes "()I"; code = Some (code_of code) }

-- a byte after the class is one too many
tail_reads : (read (grammar.tail pool) (drop 56 bytes) ≡ Ok (method ∷ [], [])) × (read (grammar.tail pool) (drop 56 bytes ++ 0 ∷ []) ≡ Err (failure cause.Trailing 1))
unfolding read bind times grammar.tail grammar.class_front grammar.class_end grammar.index grammar.interface grammar.field grammar.member grammar.method grammar.attributes grammar.attribute grammar.code grammar.code_contents grammar.code_front grammar.skipped grammar.handler grammar.contents grammar.methods grammar.all_methods after_params field_at
tail_reads = (refl, refl)
