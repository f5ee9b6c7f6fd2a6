-- Labels stand where their addresses say: an instruction has as many bytes as its size is.
use Rattle.std.proofs.Common.{◌≡◌, ℕ, zero, suc, ◌+◌, ◌*◌, ℤ, Bool, true, false, cond, eqb, leb, ◌||◌, List, [], ◌∷◌, ◌++◌, length, replicate, Option, Some, None, is_some, refl, sym, ap, subst, ◌∙◌, arith, length-append}
use Rattle.std.specs.Int.{w8, w16, w32, to_be_bytes, cast_unsigned}
use Rattle.std.specs.List.{flat_map, slice_get, list_any}
use Rattle.std.specs.Map.{keys_of, lookup}
use Rattle.std.specs.Option.{option_map, option_and_then}
use Rattle.std.specs.Str.{bytes_eq}
use Rattle.std.proofs.lemmas.Bool.{cond-true, cond-false, eqb-true}
use Rattle.std.proofs.lemmas.List.{map-append}
use Rattle.std.proofs.lemmas.Slice.Eq.{bytes_eq-Decides}
use Rattle.pv_format.specs.Reading.{read_each}
use Rattle.pv_insn.specs.Pieces.{signed}
use Rattle.pv_pool.specs.Readers.{◌>>=◌}
use Rattle.pv_listing.specs.declared.line.Line.{Line}
use Rattle.pv_listing.specs.declared.line.Line.TheVariants as lines
use Rattle.pv_listing.specs.declared.line.Operands.{Operands}
use Rattle.pv_listing.specs.declared.line.Operands.TheVariants as operands
use Rattle.pv_listing.specs.Lines.{LineFits}
use Rattle.pv_listing.specs.Mnemonics.{kind_of}
use Rattle.pv_listing.specs.Operands.{OperandsFit}
use Rattle.pv_asm.specs.declared.draft.Draft.{Draft}
use Rattle.pv_asm.specs.declared.draft.Head.{Head}
use Rattle.pv_asm.specs.declared.draft.Open.{Open}
use Rattle.pv_asm.specs.declared.draft.Place.{Place}
use Rattle.pv_asm.specs.declared.draft.Place.TheVariants.{Start, Between, Inside}
use Rattle.pv_asm.specs.declared.seen.Signature.{Signature}
use Rattle.pv_asm.specs.Classes.{text_lines}
use Rattle.pv_asm.specs.Codes.{offset, is_byte, is_short, branch_bytes, index_bytes, switch_bytes, table_numbers, case_of, lookup_numbers, operand_bytes, insn_bytes}
use Rattle.pv_asm.specs.Labels.{Labels, padding, size_at, address_of, put, labels_from}
use Rattle.pv_asm.specs.Laws.{place_before, LabelsStand}
use Rattle.pv_asm.specs.Listings.{begin, put_signature, need_head, put_label, at_label, need_of, at_insn, at_end, next}
use Rattle.pv_asm.specs.Needs.{Pool, Needed}
use Rattle.pv_asm.proofs.Described.{lines_fit}
use Rattle.pv_asm.proofs.Entered.{some_is, bound}
use Rattle.pv_asm.specs.Laws.{AreFit}

-- ---- how many bytes there are

pub zeros_length : (n : ℕ) → length {A = ℕ} (replicate n 0) ≡ n
zeros_length zero = refl
zeros_length (suc n) = ap suc (zeros_length n)

words_length : (zs : List ℤ) → length (flat_map (signed w32) zs) ≡ 4 * length zs
words_length [] = refl
words_length (z ∷ zs) =
    let rest : length (flat_map (signed w32) zs) ≡ 4 * length zs = words_length zs in
    let first : length (signed w32 z ++ flat_map (signed w32) zs) ≡ 4 + length (flat_map (signed w32) zs) = length-append (signed w32 z) (flat_map (signed w32) zs) in
    omega arith

switch_length : (at : ℕ) (zs : List ℤ) → length (switch_bytes at zs) ≡ padding at + 4 * length zs
switch_length at zs =
    length-append (replicate (padding at) 0) (flat_map (signed w32) zs) ∙ ap (λ (n : ℕ). n + length (flat_map (signed w32) zs)) (zeros_length (padding at)) ∙ ap (λ (n : ℕ). padding at + n) (words_length zs)

abbrev flat : List (ℤ × ℤ) → List ℤ
flat cases = flat_map (λ c. c.0 ∷ c.1 ∷ []) cases

cases_length : (cases : List (ℤ × ℤ)) → length (flat cases) ≡ 2 * length cases
cases_length [] = refl
cases_length (c ∷ cases) =
    let rest : length (flat cases) ≡ 2 * length cases = cases_length cases in
    omega arith

each_length : {S A : Type 0} (reads : S → Option A) (xs : List S) (ys : List A) → read_each reads xs ≡ Some ys → length ys ≡ length xs
each_length reads [] ys is = sym (ap length (some_is [] ys is))
each_length {S} {A} reads (x ∷ xs) ys is = by (reads x) (read_each reads xs) (each_length reads xs) is
  where
    by : (first : Option A) (rest : Option (List A)) → ((zs : List A) → rest ≡ Some zs → length zs ≡ length xs) → option_and_then (λ a. option_map (λ more. a ∷ more) rest) first ≡ Some ys → length ys ≡ suc (length xs)
    by None rest more e = absurd (cc)
    by (Some a) None more e = absurd (cc)
    by (Some a) (Some zs) more e = sym (ap length (some_is (a ∷ zs) ys e)) ∙ ap suc (more zs refl)

-- one byte or none, else two
short_length : (a b : Bool) (x : ℕ) (y rest : List ℕ) → length y ≡ 2 → cond a (cond b (Some (x ∷ [])) None) (Some y) ≡ Some rest → suc (length rest) ≡ cond a 2 3
short_length true true x y rest two is = ap (λ (l : List ℕ). suc (length l)) (sym (some_is (x ∷ []) rest is))
short_length true false x y rest two is = absurd (cc)
short_length false b x y rest two is = ap (λ (l : List ℕ). suc (length l)) (sym (some_is y rest is)) ∙ ap suc two

-- four bytes, else two or none
branch_length : (a b : Bool) (x y rest : List ℕ) → length x ≡ 4 → length y ≡ 2 → cond a (Some x) (cond b (Some y) None) ≡ Some rest → suc (length rest) ≡ cond a 5 3
branch_length true b x y rest four two is = ap (λ (l : List ℕ). suc (length l)) (sym (some_is x rest is)) ∙ ap suc four
branch_length false true x y rest four two is = ap (λ (l : List ℕ). suc (length l)) (sym (some_is y rest is)) ∙ ap suc two
branch_length false false x y rest four two is = absurd (cc)

-- an instruction other than ldc has an index of two bytes
index_length : (op i : ℕ) (o : Operands) (rest : List ℕ) → (OperandsFit (kind_of 18) o → ⊥) → OperandsFit (kind_of op) o → index_bytes op i ≡ Some rest → suc (length rest) ≡ 3
index_length op i o rest other fits is = by (eqb op 18) refl is
  where
    by : (a : Bool) → eqb op 18 ≡ a → cond a (cond (leb i 255) (Some (i ∷ [])) None) (Some (to_be_bytes w16 i)) ≡ Some rest → suc (length rest) ≡ 3
    by true t e = absurd (other (subst (λ (n : ℕ). OperandsFit (kind_of n) o) (eqb-true op 18 t) fits))
    by false t e = short_length false true i (to_be_bytes w16 i) rest refl e

operands_length : (labels : Labels) (at index op : ℕ) (o : Operands) (rest : List ℕ) → OperandsFit (kind_of op) o → operand_bytes labels at index op o ≡ Some rest → suc (length rest) ≡ size_at at op o
operands_length labels at index op operands.Nothing rest fits is = ap (λ (l : List ℕ). suc (length l)) (sym (some_is [] rest is))
operands_length labels at index op (operands.Number z) rest fits is = short_length (eqb op 16) (is_byte z) (cast_unsigned w8 z) (signed w16 z) rest refl is
operands_length labels at index op (operands.Local n) rest fits is = ap (λ (l : List ℕ). suc (length l)) (sym (some_is (n ∷ []) rest is))
operands_length labels at index op (operands.Increment n k) rest fits is = ap (λ (l : List ℕ). suc (length l)) (sym (some_is (n ∷ cast_unsigned w8 k ∷ []) rest is))
operands_length labels at index op (operands.Int z) rest fits is = short_length (eqb op 18) (leb index 255) index (to_be_bytes w16 index) rest refl is
operands_length labels at index op (operands.Long z) rest fits is = index_length op index (operands.Long z) rest (λ no. no) fits is
operands_length labels at index op (operands.Member s) rest fits is = index_length op index (operands.Member s) rest (λ no. no) fits is
operands_length labels at index op (operands.Label l) rest fits is =
    let b = bound (offset labels at l) (branch_bytes op) rest is in
    branch_length (eqb op 200) (is_short b.0) (signed w32 b.0) (signed w16 b.0) rest refl refl b.2
operands_length labels at index op (operands.Table low default targets) rest fits is =
    let b = bound (offset labels at default) (λ (first : ℤ). read_each (offset labels at) targets >>= (λ (offsets : List ℤ). Some (switch_bytes at (table_numbers first low offsets)))) rest is in
    let c = bound (read_each (offset labels at) targets) (λ (offsets : List ℤ). Some (switch_bytes at (table_numbers b.0 low offsets))) rest b.2 in
    let many : length c.0 ≡ length targets = each_length (offset labels at) targets c.0 c.1 in
    let whole : length (switch_bytes at (table_numbers b.0 low c.0)) ≡ length rest = ap length (some_is (switch_bytes at (table_numbers b.0 low c.0)) rest c.2) in
    let total : length (switch_bytes at (table_numbers b.0 low c.0)) ≡ padding at + 4 * suc (suc (suc (length c.0))) = switch_length at (table_numbers b.0 low c.0) in
    omega arith
operands_length labels at index op (operands.Lookup default pairs) rest fits is =
    let b = bound (offset labels at default) (λ (first : ℤ). read_each (case_of labels at) pairs >>= (λ (cases : List (ℤ × ℤ)). Some (switch_bytes at (lookup_numbers first cases)))) rest is in
    let c = bound (read_each (case_of labels at) pairs) (λ (cases : List (ℤ × ℤ)). Some (switch_bytes at (lookup_numbers b.0 cases))) rest b.2 in
    let many : length c.0 ≡ length pairs = each_length (case_of labels at) pairs c.0 c.1 in
    let whole : length (switch_bytes at (lookup_numbers b.0 c.0)) ≡ length rest = ap length (some_is (switch_bytes at (lookup_numbers b.0 c.0)) rest c.2) in
    let numbers : length (flat c.0) ≡ 2 * length c.0 = cases_length c.0 in
    let total : length (switch_bytes at (lookup_numbers b.0 c.0)) ≡ padding at + 4 * suc (suc (length (flat c.0))) = switch_length at (lookup_numbers b.0 c.0) in
    omega arith

pub insn_length : (labels : Labels) (at index op : ℕ) (o : Operands) (bytes : List ℕ) → OperandsFit (kind_of op) o → insn_bytes labels at index op o ≡ Some bytes → length bytes ≡ size_at at op o
insn_length labels at index op o bytes fits is =
    let b = bound (operand_bytes labels at index op o) (λ (rest : List ℕ). Some (op ∷ rest)) bytes is in
    ap length (sym (some_is (op ∷ b.0) bytes b.2)) ∙ operands_length labels at index op o b.0 fits b.1

-- ---- labels

pub seen_found : (l : List ℕ) (labels : Labels) → is_some (lookup (bytes_eq l) labels) ≡ list_any (bytes_eq l) (keys_of labels)
seen_found l [] = refl
seen_found l (p ∷ labels) = by (bytes_eq l p.0) (lookup (bytes_eq l) labels) (list_any (bytes_eq l) (keys_of labels)) (seen_found l labels)
  where
    by : (a : Bool) (o : Option ℕ) (b : Bool) → is_some o ≡ b → is_some (cond a (Some p.1) o) ≡ (a || b)
    by true o b same = refl
    by false o b same = same

pub put_last : (labels : Labels) (l : List ℕ) (at : ℕ) → list_any (bytes_eq l) (keys_of labels) ≡ false → put labels l at ≡ labels ++ (l, at) ∷ []
put_last labels l at new = cond-false (is_some (lookup (bytes_eq l) labels)) labels (labels ++ (l, at) ∷ []) (seen_found l labels ∙ new)

pub found_last : (labels : Labels) (l : List ℕ) (at : ℕ) → list_any (bytes_eq l) (keys_of labels) ≡ false → lookup (bytes_eq l) (labels ++ (l, at) ∷ []) ≡ Some at
found_last [] l at new = cond-true (bytes_eq l l) (Some at) None ((bytes_eq-Decides l l).1 refl)
found_last (p ∷ labels) l at new = by (bytes_eq l p.0) new (found_last labels l at)
  where
    by : (a : Bool) → (a || list_any (bytes_eq l) (keys_of labels)) ≡ false → (list_any (bytes_eq l) (keys_of labels) ≡ false → lookup (bytes_eq l) (labels ++ (l, at) ∷ []) ≡ Some at)
        → cond a (Some p.1) (lookup (bytes_eq l) (labels ++ (l, at) ∷ [])) ≡ Some at
    by true fresh more = absurd (cc)
    by false fresh more = more fresh

found_front : (l : List ℕ) (labels others : Labels) (a : ℕ) → lookup (bytes_eq l) labels ≡ Some a → lookup (bytes_eq l) (labels ++ others) ≡ Some a
found_front l [] others a is = absurd (cc)
found_front l (p ∷ labels) others a is = by (bytes_eq l p.0) is (found_front l labels others a)
  where
    by : (b : Bool) → cond b (Some p.1) (lookup (bytes_eq l) labels) ≡ Some a → (lookup (bytes_eq l) labels ≡ Some a → lookup (bytes_eq l) (labels ++ others) ≡ Some a) → cond b (Some p.1) (lookup (bytes_eq l) (labels ++ others)) ≡ Some a
    by true e more = e
    by false e more = more e

stays_put : (l : List ℕ) (labels : Labels) (a : ℕ) (k : List ℕ) (at : ℕ) → lookup (bytes_eq l) labels ≡ Some a → lookup (bytes_eq l) (put labels k at) ≡ Some a
stays_put l labels a k at is = by (is_some (lookup (bytes_eq k) labels))
  where
    by : (b : Bool) → lookup (bytes_eq l) (cond b labels (labels ++ (k, at) ∷ [])) ≡ Some a
    by true = is
    by false = found_front l labels ((k, at) ∷ []) a is

-- a label that is there keeps its address
pub stays : (l : List ℕ) (labels : Labels) (at : ℕ) (after : List (Option Line)) (a : ℕ) → lookup (bytes_eq l) labels ≡ Some a → lookup (bytes_eq l) (labels_from labels at after) ≡ Some a
stays l labels at [] a is = is
stays l labels at (Some lines.End ∷ after) a is = is
stays l labels at (Some (lines.Label k) ∷ after) a is = stays l (put labels k at) at after a (stays_put l labels a k at is)
stays l labels at (Some (lines.Instruction op o) ∷ after) a is = stays l labels (at + size_at at op o) after a is
stays l labels at (Some (lines.Class name) ∷ after) a is = stays l labels at after a is
stays l labels at (Some (lines.Method t) ∷ after) a is = stays l labels at after a is
stays l labels at (None ∷ after) a is = stays l labels at after a is

-- ---- lines one after the other

-- the labels that were read, and those that come yet, are those of the method
record AreReady (m : Open) (after : List (Option Line)) : Type 0 where
  pub done : Labels
  pub seen : keys_of done ≡ m.seen
  pub all : labels_from done (length m.code) after ≡ m.labels

abbrev Ready : Place → List (Option Line) → Type 0
Ready (Inside d m) after = AreReady m after
Ready place after = Unit {0}

put_label_is : (seen later : List (List ℕ)) (l : List ℕ) → put_label seen l ≡ Some later → (list_any (bytes_eq l) seen ≡ false) × (later ≡ seen ++ l ∷ [])
put_label_is seen later l h = by (list_any (bytes_eq l) seen) refl h
  where
    by : (b : Bool) → list_any (bytes_eq l) seen ≡ b → cond b None (Some (seen ++ l ∷ [])) ≡ Some later → (list_any (bytes_eq l) seen ≡ false) × (later ≡ seen ++ l ∷ [])
    by true any is = absurd (cc)
    by false any is = (any, sym (some_is (seen ++ l ∷ []) later is))

ready_label : (m later : Open) (l : List ℕ) (after : List (Option Line)) → AreReady m (Some (lines.Label l) ∷ after) → at_label m l ≡ Some later → AreReady later after
ready_label m later l after is h =
    let b = bound (put_label m.seen l) (λ (seen : List (List ℕ)). Some (record m { seen = seen })) later h in
    let put_is = put_label_is m.seen b.0 l b.1 in
    let new : list_any (bytes_eq l) (keys_of is.done) ≡ false = ap (list_any (bytes_eq l)) is.seen ∙ put_is.0 in
    let at : ℕ = length m.code in
    let more : keys_of (is.done ++ (l, at) ∷ []) ≡ b.0 =
    map-append (λ (p : List ℕ × ℕ). p.0) is.done ((l, at) ∷ []) ∙ ap (λ (keys : List (List ℕ)). keys ++ l ∷ []) is.seen ∙ sym put_is.1
    in
    let all : labels_from (is.done ++ (l, at) ∷ []) at after ≡ m.labels = ap (λ (labels : Labels). labels_from labels at after) (sym (put_last is.done l at new)) ∙ is.all in
    let ready : AreReady (record m { seen = b.0 }) after = record { done = is.done ++ (l, at) ∷ []; seen = more; all = all } in
    subst (λ (o : Open). AreReady o after) (some_is (record m { seen = b.0 }) later b.2) ready

ready_insn : (d : Draft) (m : Open) (op : ℕ) (o : Operands) (after : List (Option Line)) (later : Place) → AreReady m (Some (lines.Instruction op o) ∷ after) → OperandsFit (kind_of op) o → at_insn d m op o ≡ Some later → Ready later after
ready_insn d m op o after later is fits h =
    let make : Needed → List ℕ → Place = λ entry bytes. Inside (record d { pool = entry.pool }) (record m { code = m.code ++ bytes }) in
    let b = bound (need_of d.pool op o) (λ (entry : Needed). insn_bytes m.labels (length m.code) entry.index op o >>= (λ (bytes : List ℕ). Some (make entry bytes))) later h in
    let c = bound (insn_bytes m.labels (length m.code) b.0.index op o) (λ (bytes : List ℕ). Some (make b.0 bytes)) later b.2 in
    let size : length c.0 ≡ size_at (length m.code) op o = insn_length m.labels (length m.code) b.0.index op o c.0 fits c.1 in
    let total : length (m.code ++ c.0) ≡ length m.code + size_at (length m.code) op o = length-append m.code c.0 ∙ ap (λ (n : ℕ). length m.code + n) size in
    let all : labels_from is.done (length (m.code ++ c.0)) after ≡ m.labels = ap (λ (n : ℕ). labels_from is.done n after) total ∙ is.all in
    let ready : AreReady (record m { code = m.code ++ c.0 }) after = record { done = is.done; seen = is.seen; all = all } in
    subst (λ (p : Place). Ready p after) (some_is (make b.0 c.0) later c.2) ready

ready_next : (place : Place) (line : Line) (after : List (Option Line)) (later : Place) → Ready place (Some line ∷ after) → LineFits line → next place line after ≡ Some later → Ready later after
ready_next Start (lines.Class name) after later is fits h =
    let b = bound (begin name) (λ (d : Draft). Some (Between d)) later h in
    subst (λ (p : Place). Ready p after) (some_is (Between b.0) later b.2) tt
ready_next (Between d) (lines.Method t) after later is fits h =
    let make : List Signature → Head × Pool → Place =
    λ signatures head. Inside (record d { pool = head.1; signatures = signatures }) (record { head = head.0; labels = labels_from [] 0 after; seen = []; code = [] })
    in
    let b = bound (put_signature d.signatures (record { name = t.name; desc = t.desc })) (λ (signatures : List Signature). need_head d.pool t >>= (λ (head : Head × Pool). Some (make signatures head))) later h in
    let c = bound (need_head d.pool t) (λ (head : Head × Pool). Some (make b.0 head)) later b.2 in
    let ready : AreReady (record { head = c.0.0; labels = labels_from [] 0 after; seen = []; code = [] }) after = record { done = []; seen = refl; all = refl } in
    subst (λ (p : Place). Ready p after) (some_is (make b.0 c.0) later c.2) ready
ready_next (Inside d m) (lines.Label l) after later is fits h =
    let b = bound (at_label m l) (λ (o : Open). Some (Inside d o)) later h in
    subst (λ (p : Place). Ready p after) (some_is (Inside d b.0) later b.2) (ready_label m b.0 l after is b.1)
ready_next (Inside d m) (lines.Instruction op o) after later is fits h = ready_insn d m op o after later is fits.1 h
ready_next (Inside d m) lines.End after later is fits h =
    let b = bound (at_end d m) (λ (x : Draft). Some (Between x)) later h in
    subst (λ (p : Place). Ready p after) (some_is (Between b.0) later b.2) tt
ready_next place line after later is fits h = absurd (cc)

-- the next line is a label
label_here : (m later : Open) (l : List ℕ) (after : List (Option Line)) → AreReady m (Some (lines.Label l) ∷ after) → at_label m l ≡ Some later → address_of l m.labels ≡ Some (length m.code)
label_here m later l after is h =
    let b = bound (put_label m.seen l) (λ (seen : List (List ℕ)). Some (record m { seen = seen })) later h in
    let put_is = put_label_is m.seen b.0 l b.1 in
    let new : list_any (bytes_eq l) (keys_of is.done) ≡ false = ap (list_any (bytes_eq l)) is.seen ∙ put_is.0 in
    let at : ℕ = length m.code in
    let there : lookup (bytes_eq l) (put is.done l at) ≡ Some at = ap (lookup (bytes_eq l)) (put_last is.done l at new) ∙ found_last is.done l at new in
    ap (lookup (bytes_eq l)) (sym is.all) ∙ stays l (put is.done l at) at after at there

stand : (place : Place) (all : List (Option Line)) (i : ℕ) (d : Draft) (m later : Open) (l : List ℕ) → Ready place all → AreFit all → place_before i place all ≡ Some (Inside d m) → slice_get all i ≡ Some (Some (lines.Label l))
    → at_label m l ≡ Some later → address_of l m.labels ≡ Some (length m.code)
stand place [] i d m later l ready fits before here h = absurd (cc)
stand place (line ∷ after) zero d m later l ready fits before here h =
    let is : AreReady m (line ∷ after) = subst (λ (p : Place). Ready p (line ∷ after)) (some_is place (Inside d m) before) ready in
    label_here m later l after (subst (λ (first : Option Line). AreReady m (first ∷ after)) (some_is line (Some (lines.Label l)) here) is) h
stand place (None ∷ after) (suc i) d m later l ready fits before here h = absurd (cc)
stand place (Some line ∷ after) (suc i) d m later l ready fits before here h =
    let b = bound (next place line after) (λ (p : Place). place_before i p after) (Inside d m) before in
    stand b.0 after i d m later l (ready_next place line after b.0 ready fits.0 b.1) fits.1 b.2 here h

pub labels_stand : LabelsStand
labels_stand text i d m later l before here h = stand Start (text_lines text) i d m later l tt (lines_fit text) before here h
