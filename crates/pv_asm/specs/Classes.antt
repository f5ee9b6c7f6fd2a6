-- The class of a listing.
use Rattle.std.specs.Prelude.{ℕ, List, [], ◌∷◌, map, Option, None, Result, Ok, Err, if◌then◌else◌}
use Rattle.std.specs.List.{slice_split}
use Rattle.pv_class.specs.Items.{Items, MemberInfo, Attribute, CodeItems, code_text, file_text}
use Rattle.pv_format.specs.Splits.{is_feed}
use Rattle.pv_listing.specs.declared.line.Line.{Line}
use Rattle.pv_listing.specs.Lines.{line_text}
use Rattle.pv_asm.specs.declared.draft.Draft.{Draft}
use Rattle.pv_asm.specs.declared.draft.Method.{Method}
use Rattle.pv_asm.specs.declared.draft.Place.TheVariants.{Start}
use Rattle.pv_asm.specs.Needs.{pool_text}
use Rattle.pv_asm.specs.Listings.{read_lines}

-- ---- the bytes of a class

abbrev pub code_of : Method → CodeItems
code_of m = record { max_stack = m.head.stack; max_locals = m.head.locals; code = m.code; handlers = []; attributes = [] }

abbrev pub attribute_of : Method → Attribute
attribute_of m = record { name = m.head.code; contents = code_text (code_of m) }

-- public and static, or public (JVMS 4.6)
abbrev pub member_of : Method → MemberInfo
member_of m = record { flags = if m.head.is_static then 0x0009 else 0x0001; name = m.head.name; desc = m.head.desc; attributes = attribute_of m ∷ [] }

-- version 52.0; public and super (JVMS 4.1)
abbrev pub items_of : Draft → Items
items_of d = record {
  minor = 0;
  major = 52;
  pool_text = pool_text d.pool;
  flags = 0x0021;
  this = d.class;
  super = d.superclass;
  interfaces = [];
  fields = [];
  methods = map member_of d.methods;
  attributes = [];
}

-- ---- the class of lines

abbrev pub bytes_of : Result Draft ℕ → Result (List ℕ) ℕ
bytes_of (Ok d) = Ok (file_text (items_of d))
bytes_of (Err n) = Err n

-- the bytes of the class, or the number of the first line that has no reading; so has None
abbrev pub class_of_lines : List (Option Line) → Result (List ℕ) ℕ
class_of_lines lines = bytes_of (read_lines 1 Start lines)

-- ---- the class of a listing

-- what stands after the last line feed, if anything, has no reading
abbrev pub last_line : List ℕ → List (Option Line)
last_line [] = []
last_line (b ∷ bytes) = None ∷ []

-- the lines of the parts between line feeds
abbrev pub lines_of : List (List ℕ) → List (Option Line)
lines_of [] = []
lines_of (last ∷ []) = last_line last
lines_of (line ∷ next ∷ parts) = line_text.reads line ∷ lines_of (next ∷ parts)

abbrev pub text_lines : List ℕ → List (Option Line)
text_lines text = lines_of (slice_split is_feed text)

abbrev pub draft_of : List ℕ → Result Draft ℕ
draft_of text = read_lines 1 Start (text_lines text)

-- the bytes of the class, or the number of the first line that has no reading
abbrev pub class_of_text : List ℕ → Result (List ℕ) ℕ
class_of_text text = class_of_lines (text_lines text)
