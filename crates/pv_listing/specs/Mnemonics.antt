-- The mnemonics: the names of the accepted instructions (JVMS 6.5), and what is written after each.
use Rattle.std.specs.Prelude.{ℕ, Bool, List, [], ◌∷◌, ◌==◌, ◌&&◌, nat_le, Option, Some, None, is_some, codes, if◌then◌else◌}
use Rattle.std.specs.Str.{bytes_eq}
use Rattle.pv_insn.specs.Opcodes.{Format, format_of, is_among}
use Rattle.pv_insn.specs.Opcodes as format
use Rattle.pv_listing.specs.declared.mnemonic.Kind.{Kind}
use Rattle.pv_listing.specs.declared.mnemonic.Kind.TheVariants as kind
use Rattle.pv_listing.specs.declared.mnemonic.Row.{Row}

-- each with its opcode; wide has none, since a listing has no wide operands, and no call on a receiver, cast, type test or store of a reference into an
-- array has one
abbrev pub names : List (ℕ × List ℕ)
names =
    (0, codes "nop")
    ∷ (1, codes "aconst_null")
    ∷ (2, codes "iconst_m1")
    ∷ (3, codes "iconst_0")
    ∷ (4, codes "iconst_1")
    ∷ (5, codes "iconst_2")
    ∷ (6, codes "iconst_3")
    ∷ (7, codes "iconst_4")
    ∷ (8, codes "iconst_5")
    ∷ (9, codes "lconst_0")
    ∷ (10, codes "lconst_1")
    ∷ (16, codes "bipush")
    ∷ (17, codes "sipush")
    ∷ (18, codes "ldc")
    ∷ (19, codes "ldc_w")
    ∷ (20, codes "ldc2_w")
    ∷ (21, codes "iload")
    ∷ (22, codes "lload")
    ∷ (25, codes "aload")
    ∷ (26, codes "iload_0")
    ∷ (27, codes "iload_1")
    ∷ (28, codes "iload_2")
    ∷ (29, codes "iload_3")
    ∷ (30, codes "lload_0")
    ∷ (31, codes "lload_1")
    ∷ (32, codes "lload_2")
    ∷ (33, codes "lload_3")
    ∷ (42, codes "aload_0")
    ∷ (43, codes "aload_1")
    ∷ (44, codes "aload_2")
    ∷ (45, codes "aload_3")
    ∷ (46, codes "iaload")
    ∷ (47, codes "laload")
    ∷ (50, codes "aaload")
    ∷ (51, codes "baload")
    ∷ (52, codes "caload")
    ∷ (53, codes "saload")
    ∷ (54, codes "istore")
    ∷ (55, codes "lstore")
    ∷ (58, codes "astore")
    ∷ (59, codes "istore_0")
    ∷ (60, codes "istore_1")
    ∷ (61, codes "istore_2")
    ∷ (62, codes "istore_3")
    ∷ (63, codes "lstore_0")
    ∷ (64, codes "lstore_1")
    ∷ (65, codes "lstore_2")
    ∷ (66, codes "lstore_3")
    ∷ (75, codes "astore_0")
    ∷ (76, codes "astore_1")
    ∷ (77, codes "astore_2")
    ∷ (78, codes "astore_3")
    ∷ (79, codes "iastore")
    ∷ (80, codes "lastore")
    ∷ (84, codes "bastore")
    ∷ (85, codes "castore")
    ∷ (86, codes "sastore")
    ∷ (87, codes "pop")
    ∷ (88, codes "pop2")
    ∷ (89, codes "dup")
    ∷ (90, codes "dup_x1")
    ∷ (91, codes "dup_x2")
    ∷ (92, codes "dup2")
    ∷ (93, codes "dup2_x1")
    ∷ (94, codes "dup2_x2")
    ∷ (95, codes "swap")
    ∷ (96, codes "iadd")
    ∷ (97, codes "ladd")
    ∷ (100, codes "isub")
    ∷ (101, codes "lsub")
    ∷ (104, codes "imul")
    ∷ (105, codes "lmul")
    ∷ (108, codes "idiv")
    ∷ (109, codes "ldiv")
    ∷ (112, codes "irem")
    ∷ (113, codes "lrem")
    ∷ (116, codes "ineg")
    ∷ (117, codes "lneg")
    ∷ (120, codes "ishl")
    ∷ (121, codes "lshl")
    ∷ (122, codes "ishr")
    ∷ (123, codes "lshr")
    ∷ (124, codes "iushr")
    ∷ (125, codes "lushr")
    ∷ (126, codes "iand")
    ∷ (127, codes "land")
    ∷ (128, codes "ior")
    ∷ (129, codes "lor")
    ∷ (130, codes "ixor")
    ∷ (131, codes "lxor")
    ∷ (132, codes "iinc")
    ∷ (133, codes "i2l")
    ∷ (136, codes "l2i")
    ∷ (145, codes "i2b")
    ∷ (146, codes "i2c")
    ∷ (147, codes "i2s")
    ∷ (148, codes "lcmp")
    ∷ (153, codes "ifeq")
    ∷ (154, codes "ifne")
    ∷ (155, codes "iflt")
    ∷ (156, codes "ifge")
    ∷ (157, codes "ifgt")
    ∷ (158, codes "ifle")
    ∷ (159, codes "if_icmpeq")
    ∷ (160, codes "if_icmpne")
    ∷ (161, codes "if_icmplt")
    ∷ (162, codes "if_icmpge")
    ∷ (163, codes "if_icmpgt")
    ∷ (164, codes "if_icmple")
    ∷ (165, codes "if_acmpeq")
    ∷ (166, codes "if_acmpne")
    ∷ (167, codes "goto")
    ∷ (170, codes "tableswitch")
    ∷ (171, codes "lookupswitch")
    ∷ (172, codes "ireturn")
    ∷ (173, codes "lreturn")
    ∷ (176, codes "areturn")
    ∷ (177, codes "return")
    ∷ (178, codes "getstatic")
    ∷ (179, codes "putstatic")
    ∷ (180, codes "getfield")
    ∷ (181, codes "putfield")
    ∷ (184, codes "invokestatic")
    ∷ (190, codes "arraylength")
    ∷ (191, codes "athrow")
    ∷ (198, codes "ifnull")
    ∷ (199, codes "ifnonnull")
    ∷ (200, codes "goto_w")
    ∷ []

-- the name of an opcode
abbrev pub name_in : List (ℕ × List ℕ) → ℕ → Option (List ℕ)
name_in [] op = None
name_in (row ∷ rows) op = if row.0 == op then Some row.1 else name_in rows op

-- the opcode of a name
abbrev pub opcode_in : List (ℕ × List ℕ) → List ℕ → Option ℕ
opcode_in [] word = None
opcode_in (row ∷ rows) word = if bytes_eq row.1 word then Some row.0 else opcode_in rows word

abbrev pub has_name : ℕ → Bool
has_name op = is_some (name_in names op)

abbrev pub text_or_none : Option (List ℕ) → List ℕ
text_or_none (Some text) = text
text_or_none None = []

abbrev pub mnemonic : ℕ → List ℕ
mnemonic op = text_or_none (name_in names op)

-- ---- what is written after a mnemonic, by what follows the opcode

abbrev pub kind_of_index : ℕ → Kind
kind_of_index op =
    -- ldc_w, ldc2_w
    if op == 19 then kind.Int else if op == 20 then kind.Long else
    -- getstatic to putfield, invokestatic
    if is_among op ((178, 181) ∷ []) then kind.Field else if op == 184 then kind.Method else kind.Nothing

abbrev pub kind_by : ℕ → Format → Kind
kind_by op format.byte = kind.Byte
kind_by op format.short = kind.Short
kind_by op format.local = kind.Local
kind_by op format.increment = kind.Increment
kind_by op format.byte_index = kind.Int
kind_by op format.index = kind_of_index op
kind_by op format.offset = kind.Label
kind_by op format.wide_offset = kind.Label
kind_by op format.table = kind.Table
kind_by op format.pairs = kind.Lookup
kind_by op _ = kind.Nothing

abbrev pub kind_of : ℕ → Kind
kind_of op = kind_by op (format_of op)

-- the kind of the first row that holds an opcode
abbrev pub kind_in : List Row → ℕ → Kind
kind_in [] op = kind.Nothing
kind_in (row ∷ rows) op = if nat_le row.0 op && nat_le op row.1 then row.2 else kind_in rows op
