-- The opcodes (JVMS 6.5, 7): what follows each of them, and which are accepted.
use Rattle.std.specs.Prelude.{ℕ, List, [], ◌∷◌, Bool, false, Option, Some, None, nat_le, ◌&&◌, ◌||◌, if◌then◌else◌}

-- what follows an opcode
pub data Format : Type 0 where
  nothing : Format
  -- a signed number of one byte or of two, which is pushed
  byte : Format
  short : Format
  -- the number of a local, of one byte, and of two after wide
  local : Format
  -- the number of a local and a signed number, each of one byte, and of two after wide
  increment : Format
  -- an index into the constant pool, of one byte or of two
  byte_index : Format
  index : Format
  -- an index of two bytes, and then one byte or two
  index_and_byte : Format
  index_and_short : Format
  -- a signed offset of two bytes or of four
  offset : Format
  wide_offset : Format
  -- the offsets of a tableswitch, the pairs of a lookupswitch
  table : Format
  pairs : Format
  -- the type of an array's elements, of one byte
  element_type : Format
  -- an opcode with wide operands
  wide_instruction : Format

-- the bytes that follow, where all instructions of the format have as many
abbrev pub size_of : Format → ℕ
size_of byte = 1
size_of short = 2
size_of local = 1
size_of increment = 2
size_of byte_index = 1
size_of index = 2
size_of index_and_byte = 3
size_of index_and_short = 4
size_of offset = 2
size_of wide_offset = 4
size_of element_type = 1
size_of format = 0

-- the bytes that follow after wide, where wide may stand before the opcode
abbrev pub wide_size_of : Format → Option ℕ
wide_size_of local = Some 2
wide_size_of increment = Some 4
wide_size_of format = None

-- ---- sets of opcodes

-- the first and the last of opcodes that stand together
abbrev pub Opcodes : Type 0
Opcodes = List (ℕ × ℕ)

abbrev pub is_among : ℕ → Opcodes → Bool
is_among op [] = false
is_among op ((first, last) ∷ others) = (nat_le first op && nat_le op last) || is_among op others

-- ---- formats

abbrev pub formats : List (Format × Opcodes)
formats =
    -- bipush, sipush
    (byte, (16, 16) ∷ [])
    ∷ (short, (17, 17) ∷ [])
    -- iload to aload, istore to astore, ret
    ∷ (local, (21, 25) ∷ (54, 58) ∷ (169, 169) ∷ [])
    -- iinc
    ∷ (increment, (132, 132) ∷ [])
    -- ldc
    ∷ (byte_index, (18, 18) ∷ [])
    -- ldc_w, ldc2_w, getstatic to invokestatic, new, anewarray, checkcast, instanceof
    ∷ (index, (19, 20) ∷ (178, 184) ∷ (187, 187) ∷ (189, 189) ∷ (192, 193) ∷ [])
    -- multianewarray
    ∷ (index_and_byte, (197, 197) ∷ [])
    -- invokeinterface, invokedynamic
    ∷ (index_and_short, (185, 186) ∷ [])
    -- ifeq to if_acmpne, goto, jsr, ifnull, ifnonnull
    ∷ (offset, (153, 168) ∷ (198, 199) ∷ [])
    -- goto_w, jsr_w
    ∷ (wide_offset, (200, 201) ∷ [])
    -- tableswitch, lookupswitch
    ∷ (table, (170, 170) ∷ [])
    ∷ (pairs, (171, 171) ∷ [])
    -- newarray
    ∷ (element_type, (188, 188) ∷ [])
    -- wide
    ∷ (wide_instruction, (196, 196) ∷ [])
    ∷ []

-- after all others nothing follows
abbrev pub format_among : List (Format × Opcodes) → ℕ → Format
format_among [] op = nothing
format_among ((format, opcodes) ∷ others) op = if is_among op opcodes then format else format_among others op

abbrev pub format_of : ℕ → Format
format_of op = format_among formats op

-- the greatest opcode is that of jsr_w
abbrev pub is_opcode : ℕ → Bool
is_opcode op = nat_le op 201

-- ---- opcodes that are not accepted

-- those that take or give a float or a double
abbrev pub floats : Opcodes
floats =
    -- fconst_0 to dconst_1, fload, dload, fload_0 to dload_3, faload, daload
    (11, 15) ∷ (23, 24) ∷ (34, 41) ∷ (48, 49)
    -- fstore, dstore, fstore_0 to dstore_3, fastore, dastore
    ∷ (56, 57) ∷ (67, 74) ∷ (81, 82)
    -- add, sub, mul, div, rem, neg
    ∷ (98, 99) ∷ (102, 103) ∷ (106, 107) ∷ (110, 111) ∷ (114, 115) ∷ (118, 119)
    -- i2f, i2d, l2f to d2f, fcmpl to dcmpg, freturn, dreturn
    ∷ (134, 135) ∷ (137, 144) ∷ (149, 152) ∷ (174, 175) ∷ []

-- jsr, ret, jsr_w
abbrev pub subroutines : Opcodes
subroutines = (168, 169) ∷ (201, 201) ∷ []

-- invokedynamic
abbrev pub dynamic_calls : Opcodes
dynamic_calls = (186, 186) ∷ []

-- new, newarray, anewarray, multianewarray
abbrev pub allocations : Opcodes
allocations = (187, 189) ∷ (197, 197) ∷ []

-- monitorenter, monitorexit
abbrev pub monitors : Opcodes
monitors = (194, 195) ∷ []

abbrev pub is_refused : ℕ → Bool
is_refused op =
    is_among op floats || is_among op subroutines || is_among op dynamic_calls || is_among op allocations || is_among op monitors
