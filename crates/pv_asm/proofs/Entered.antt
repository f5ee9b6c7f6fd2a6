-- What is needed stands in the pool from then on, and each entry stands there once.
use Rattle.std.proofs.Common.{◌≡◌, ◌⊎◌, inl, inr, ℕ, zero, suc, ◌+◌, ◌<◌, ◌≤◌, ◌^◌, Bool, true, false, cond, leb, eqb, List, [], ◌∷◌, ◌++◌, length, map, Option, Some, None, Result, Ok, refl, sym, ap, subst, ◌∙◌, arith, length-append, append_assoc, append-nil}
use Rattle.std.specs.List.{AllByRecursion, flat_map, slice_get}
use Rattle.std.specs.Str.{bytes_eq}
use Rattle.std.proofs.lemmas.Bool.{cond-true, cond-false, leb-true}
use Rattle.std.proofs.lemmas.Grind.{flat_map-append}
use Rattle.std.proofs.lemmas.List.{map-append}
use Rattle.std.proofs.lemmas.Option.{slice_get_within}
use Rattle.std.proofs.lemmas.Slice.Eq.{bytes_eq-Decides}
use Rattle.pv_format.specs.GrammarReading.{read}
use Rattle.pv_pool.specs.declared.entry.Entry.{Entry}
use Rattle.pv_pool.specs.declared.entry.Entry.TheVariants.{Utf8, Long, Double, Class, Text, Fieldref, Methodref, InterfaceMethodref, NameAndType}
use Rattle.pv_pool.specs.Entries.{entry_text, IsEntry}
use Rattle.pv_pool.specs.Pools.{cells, indices, cell_of, under, entry_under, HasText, HasClass, HasNameAndType, Refers}
use Rattle.pv_pool.specs.Readers.{◌>>=◌}
use Rattle.pv_pool.specs.Reading.{entry}
use Rattle.pv_pool.specs.Texts.{IsText}
use Rattle.pv_pool.proofs.Entering.{entry_again}
use Rattle.pv_value.specs.declared.name.Sym.{Sym}
use Rattle.pv_asm.specs.Needs.{Pool, Needed, needed, width, after, index_from, need_at, need, need_text, need_class, need_named, member, need_member}
use Rattle.pv_asm.proofs.Apart.{last_or}
use Rattle.pv_asm.proofs.Pools.{after_more}

-- ---- lists

pub some_is : {A : Type 0} (a b : A) → ◌≡◌ {A = Option A} (Some a) (Some b) → a ≡ b
some_is a b e = cc

pub ok_is : {A E : Type 0} (a b : A) → ◌≡◌ {A = Result A E} (Ok a) (Ok b) → a ≡ b
ok_is a b e = cc

-- what a step that may fail found
pub bound : {A B : Type 0} (o : Option A) (f : A → Option B) (b : B) → o >>= f ≡ Some b → (a : A) × (o ≡ Some a) × (f a ≡ Some b)
bound None f b is = absurd (cc)
bound (Some a) f b is = (a, refl, is)

pub kept : {X : Type 0} (xs ys : List X) (i : ℕ) (x : X) → slice_get xs i ≡ Some x → slice_get (xs ++ ys) i ≡ Some x
kept [] ys i x at = absurd (cc)
kept (y ∷ xs) ys zero x at = at
kept (y ∷ xs) ys (suc i) x at = kept xs ys i x at

pub past : {X : Type 0} (xs ys : List X) (n : ℕ) → slice_get (xs ++ ys) (length xs + n) ≡ slice_get ys n
past [] ys n = let same : 0 + n ≡ n = omega arith in ap (λ (k : ℕ). slice_get ys k) same
past (x ∷ xs) ys n =
    let same : suc (length xs) + n ≡ suc (length xs + n) = omega arith in
    ap (λ (k : ℕ). slice_get (x ∷ (xs ++ ys)) k) same ∙ past xs ys n

all_push : {X : Type 0} (P : X → Type 0) (xs : List X) (x : X) → AllByRecursion P xs → P x → AllByRecursion P (xs ++ x ∷ [])
all_push P [] x all one = (one, tt)
all_push P (y ∷ xs) x all one = (all.0, all_push P xs x all.1 one)

all_map : {X : Type 0} (P Q : X → Type 0) → ((x : X) → P x → Q x) → (xs : List X) → AllByRecursion P xs → AllByRecursion Q xs
all_map P Q f [] all = tt
all_map P Q f (x ∷ xs) all = (f x all.0, all_map P Q f xs all.1)

-- ---- entries under indices

cell_is : (o : Option (Option Entry)) (e : Entry) → cell_of o ≡ Some e → o ≡ Some (Some e)
cell_is None e is = absurd (cc)
cell_is (Some cell) e is = ap Some is

pub under_kept : (entries more : List Entry) (i : ℕ) (e : Entry) → entry_under entries i ≡ Some e → entry_under (entries ++ more) i ≡ Some e
under_kept entries more i e at =
    ap (λ (slots : List (Option Entry)). under (None ∷ slots) i) (flat_map-append cells entries more)
    ∙ ap cell_of (kept (indices entries) (flat_map cells more) i (Some e) (cell_is (slice_get (indices entries) i) e at))

first_cell : (e : Entry) (rest : List (Option Entry)) → slice_get (cells e ++ rest) 0 ≡ Some (Some e)
first_cell (Long bits) rest = refl
first_cell (Double bits) rest = refl
first_cell e rest = refl

under_new : (entries : List Entry) (e : Entry) → entry_under (entries ++ e ∷ []) (length (indices entries)) ≡ Some e
under_new entries e =
    let same : length (indices entries) ≡ length (indices entries) + 0 = omega arith in
    ap (λ (slots : List (Option Entry)). under (None ∷ slots) (length (indices entries))) (flat_map-append cells entries (e ∷ []))
    ∙ ap (λ (k : ℕ). under (indices entries ++ (cells e ++ [])) k) same
    ∙ ap cell_of (past (indices entries) (cells e ++ []) 0 ∙ first_cell e [])

text_kept : (entries more : List Entry) (i : ℕ) → HasText entries i → HasText (entries ++ more) i
text_kept entries more i has = (has.0, under_kept entries more i (Utf8 has.0) has.1)

pub class_kept : (entries more : List Entry) (i : ℕ) → HasClass entries i → HasClass (entries ++ more) i
class_kept entries more i has = (has.0, under_kept entries more i (Class has.0) has.1)

named_kept : (entries more : List Entry) (i : ℕ) → HasNameAndType entries i → HasNameAndType (entries ++ more) i
named_kept entries more i has = (has.0, has.1, under_kept entries more i (NameAndType has.0 has.1) has.2)

refers_kept : (entries more : List Entry) (e : Entry) → Refers entries e → Refers (entries ++ more) e
refers_kept entries more (Class name) refers = text_kept entries more name refers
refers_kept entries more (Text text) refers = text_kept entries more text refers
refers_kept entries more (Fieldref class named) refers = (class_kept entries more class refers.0, named_kept entries more named refers.1)
refers_kept entries more (Methodref class named) refers = (class_kept entries more class refers.0, named_kept entries more named refers.1)
refers_kept entries more (InterfaceMethodref class named) refers = (class_kept entries more class refers.0, named_kept entries more named refers.1)
refers_kept entries more (NameAndType name desc) refers = (text_kept entries more name refers.0, text_kept entries more desc refers.1)
refers_kept entries more e refers = tt

-- ---- entries and their bytes

pub entry_once : (d e : Entry) → IsEntry d → IsEntry e → entry_text d ≡ entry_text e → d ≡ e
entry_once d e is are same =
    let again = sym (entry_again d [] is) ∙ ap (λ (text : List ℕ). read entry (text ++ [])) same ∙ entry_again e [] are in
    ap (λ (p : Entry × List ℕ). p.0) (ok_is {A = Entry × List ℕ} (d, []) (e, []) again)

-- it takes as many indices as its bytes say
abbrev pub HasWidth : Entry → Type 0
HasWidth e = length (cells e) ≡ width (entry_text e)

pub after_is : (i : ℕ) (entries : List Entry) → AllByRecursion HasWidth entries → after i (map entry_text entries) ≡ i + length (flat_map cells entries)
after_is i [] wide = omega arith
after_is i (e ∷ entries) wide =
    let total : length (cells e ++ flat_map cells entries) ≡ length (cells e) + length (flat_map cells entries) = length-append (cells e) (flat_map cells entries) in
    let first : length (cells e) ≡ width (entry_text e) = wide.0 in
    let more : (i + width (entry_text e)) + length (flat_map cells entries) ≡ i + length (cells e ++ flat_map cells entries) = omega arith in
    after_is (i + width (entry_text e)) entries wide.1 ∙ more

-- the entry whose index was found
pub record IsFound (i k : ℕ) (entries : List Entry) (text : List ℕ) : Type 0 where
  pub entry : Entry
  pub place : ℕ
  pub index : k ≡ i + place
  pub stands : slice_get (flat_map cells entries) place ≡ Some (Some entry)
  pub text_is : text ≡ entry_text entry
  pub is : IsEntry entry

pub found : (i k : ℕ) (entries : List Entry) (text : List ℕ) → AllByRecursion HasWidth entries → AllByRecursion IsEntry entries → index_from i (map entry_text entries) text ≡ Some k → IsFound i k entries text
found i k [] text wide each is = absurd (cc)
found i k (e ∷ entries) text wide each is = by (bytes_eq text (entry_text e)) refl (found (i + width (entry_text e)) k entries text wide.1 each.1)
  where
    by : (b : Bool) → bytes_eq text (entry_text e) ≡ b → (index_from (i + width (entry_text e)) (map entry_text entries) text ≡ Some k → IsFound (i + width (entry_text e)) k entries text) → IsFound i k (e ∷ entries) text
    by true t more =
        let same : i ≡ k = some_is i k (sym (cond-true (bytes_eq text (entry_text e)) (Some i) (index_from (i + width (entry_text e)) (map entry_text entries) text) t) ∙ is) in
        let index : k ≡ i + 0 = omega arith in
        record { entry = e; place = 0; index = index; stands = first_cell e (flat_map cells entries); text_is = (bytes_eq-Decides text (entry_text e)).0 t; is = each.0 }
    by false t more =
        let f = more (sym (cond-false (bytes_eq text (entry_text e)) (Some i) (index_from (i + width (entry_text e)) (map entry_text entries) text) t) ∙ is) in
        let first : length (cells e) ≡ width (entry_text e) = wide.0 in
        let at : k ≡ (i + width (entry_text e)) + f.place = f.index in
        let index : k ≡ i + (length (cells e) + f.place) = omega arith in
        record { entry = f.entry; place = length (cells e) + f.place; index = index; stands = past (cells e) (flat_map cells entries) f.place ∙ f.stands; text_is = f.text_is; is = f.is }

-- ---- entries that stand once

pub record AreOnce (pool : Pool) : Type 0 where
  pub same : (i j : ℕ) (text : List ℕ) → slice_get pool i ≡ Some text → slice_get pool j ≡ Some text → i ≡ j

not_found : (k : ℕ) (pool : Pool) (text : List ℕ) (i : ℕ) → index_from k pool text ≡ None → slice_get pool i ≡ Some text → ⊥
not_found k [] text i none at = cc
not_found k (e ∷ pool) text i none at = by (bytes_eq text e) refl i at (not_found (k + width e) pool text)
  where
    by : (b : Bool) → bytes_eq text e ≡ b → (i : ℕ) → slice_get (e ∷ pool) i ≡ Some text → ((j : ℕ) → index_from (k + width e) pool text ≡ None → slice_get pool j ≡ Some text → ⊥) → ⊥
    by true t i at more = let some = sym (cond-true (bytes_eq text e) (Some k) (index_from (k + width e) pool text) t) ∙ none in cc
    by false t zero at more = let there = (bytes_eq-Decides text e).1 (sym (some_is e text at)) in cc
    by false t (suc i) at more = more i (sym (cond-false (bytes_eq text e) (Some k) (index_from (k + width e) pool text) t) ∙ none) at

once_more : (k : ℕ) (pool : Pool) (text : List ℕ) → AreOnce pool → index_from k pool text ≡ None → AreOnce (pool ++ text ∷ [])
once_more k pool text once none = record { same = λ i j t at other. by i j t (last_or pool text i t at) (last_or pool text j t other) }
  where
    by : (i j : ℕ) (t : List ℕ) → (slice_get pool i ≡ Some t) ⊎ ((i ≡ length pool) × (t ≡ text)) → (slice_get pool j ≡ Some t) ⊎ ((j ≡ length pool) × (t ≡ text)) → i ≡ j
    by i j t (inl at) (inl other) = once.same i j t at other
    by i j t (inl at) (inr last) = absurd (not_found k pool text i none (at ∙ ap Some last.1))
    by i j t (inr last) (inl other) = absurd (not_found k pool text j none (other ∙ ap Some last.1))
    by i j t (inr last) (inr end) = last.0 ∙ sym end.0

-- ---- pools that are well-formed

pub record IsGood (pool : Pool) (entries : List Entry) : Type 0 where
  pub spelled : pool ≡ map entry_text entries
  pub each : AllByRecursion IsEntry entries
  pub references : AllByRecursion (Refers entries) entries
  pub widths : AllByRecursion HasWidth entries
  pub few : after 1 pool ≤ 65535
  pub once : AreOnce pool

pub none_good : IsGood [] []
none_good = record { spelled = refl; each = tt; references = tt; widths = tt; few = omega arith; once = record { same = λ i j t at other. absurd (none t at) } }
  where
    none : (t : List ℕ) → ◌≡◌ {A = Option (List ℕ)} None (Some t) → ⊥
    none t e = cc

-- constant_pool_count is the number of indices
pub count_is : (pool : Pool) (entries : List Entry) → IsGood pool entries → after 1 pool ≡ length (indices entries)
count_is pool entries good =
    let more : 1 + length (flat_map cells entries) ≡ suc (length (flat_map cells entries)) = omega arith in
    ap (after 1) good.spelled ∙ after_is 1 entries good.widths ∙ more

pub index_small : (pool : Pool) (entries : List Entry) (i : ℕ) (e : Entry) → IsGood pool entries → entry_under entries i ≡ Some e → i < 2 ^ 16
index_small pool entries i e good at =
    let within : i < length (indices entries) = slice_get_within (indices entries) i (Some e) (cell_is (slice_get (indices entries) i) e at) in
    let count : after 1 pool ≡ length (indices entries) = count_is pool entries good in
    let few : after 1 pool ≤ 65535 = good.few in
    omega arith

-- an entry stands in the pool after it was needed, and so do those before it
pub record Adds (before : List Entry) (n : Needed) (e : Entry) : Type 0 where
  pub entries : List Entry
  pub more : List Entry
  pub grows : entries ≡ before ++ more
  pub good : IsGood n.pool entries
  pub stands : entry_under entries n.index ≡ Some e

pub adds_then : (before : List Entry) (m n : Needed) (d e : Entry) → (first : Adds before m d) → Adds first.entries n e → Adds before n e
adds_then before m n d e first second = record {
  entries = second.entries;
  more = first.more ++ second.more;
  grows = second.grows ∙ ap (λ (es : List Entry). es ++ second.more) first.grows ∙ append_assoc before first.more second.more;
  good = second.good;
  stands = second.stands;
}

-- what stood there before stands there still
pub still : (before : List Entry) (n : Needed) (e : Entry) → (a : Adds before n e) → (i : ℕ) (d : Entry) → entry_under before i ≡ Some d → entry_under a.entries i ≡ Some d
still before n e a i d at = ap (λ (es : List Entry). entry_under es i) a.grows ∙ under_kept before a.more i d at

pub adds : (pool : Pool) (entries : List Entry) (e : Entry) (n : Needed) → IsGood pool entries → IsEntry e → HasWidth e → Refers entries e → need pool e ≡ Some n → Adds entries n e
adds pool entries e n good fits wide refers h = by (index_from 1 pool (entry_text e)) refl h
  where
    room : index_from 1 pool (entry_text e) ≡ None → (b : Bool) → leb (after 1 pool + width (entry_text e)) 65535 ≡ b → cond b (Some (needed (after 1 pool) (pool ++ (entry_text e) ∷ []))) None ≡ Some n → Adds entries n e
    room none false t is = absurd (cc)
    room none true t is =
        let below : after 1 pool + width (entry_text e) ≤ 65535 = leb-true (after 1 pool + width (entry_text e)) 65535 t in
        let count : after 1 (pool ++ (entry_text e) ∷ []) ≡ after 1 pool + width (entry_text e) = after_more 1 pool (entry_text e) in
        let few : after 1 (pool ++ (entry_text e) ∷ []) ≤ 65535 = omega arith in
        let later : IsGood (pool ++ (entry_text e) ∷ []) (entries ++ e ∷ []) = record {
          spelled = ap (λ (p : Pool). p ++ (entry_text e) ∷ []) good.spelled ∙ sym (map-append entry_text entries (e ∷ []));
          each = all_push IsEntry entries e good.each fits;
          references =
              all_push (Refers (entries ++ e ∷ [])) entries e (all_map (Refers entries) (Refers (entries ++ e ∷ [])) (λ (d : Entry). refers_kept entries (e ∷ []) d) entries good.references)
              (refers_kept entries (e ∷ []) e refers);
          widths = all_push HasWidth entries e good.widths wide;
          few = few;
          once = once_more 1 pool (entry_text e) good.once none;
        }
        in
        let stands : entry_under (entries ++ e ∷ []) (after 1 pool) ≡ Some e = ap (λ (i : ℕ). entry_under (entries ++ e ∷ []) i) (count_is pool entries good) ∙ under_new entries e in
        subst (λ (m : Needed). Adds entries m e) (some_is (needed (after 1 pool) (pool ++ (entry_text e) ∷ [])) n is) (record { entries = entries ++ e ∷ []; more = e ∷ []; grows = refl; good = later; stands = stands })

    by : (o : Option ℕ) → index_from 1 pool (entry_text e) ≡ o → need_at pool (entry_text e) o ≡ Some n → Adds entries n e
    by (Some i) at is =
        let f = found 1 i entries (entry_text e) good.widths good.each (subst (λ (p : Pool). index_from 1 p (entry_text e) ≡ Some i) good.spelled at) in
        let same : e ≡ f.entry = entry_once e f.entry fits f.is f.text_is in
        let index : i ≡ 1 + f.place = f.index in
        let place : i ≡ suc f.place = omega arith in
        let stands : entry_under entries i ≡ Some e = ap (λ (k : ℕ). entry_under entries k) place ∙ ap cell_of f.stands ∙ ap Some (sym same) in
        subst (λ (m : Needed). Adds entries m e) (some_is (needed i pool) n is) (record { entries = entries; more = []; grows = sym (append-nil entries); good = good; stands = stands })
    by None at is = room at (leb (after 1 pool + width (entry_text e)) 65535) refl is

-- ---- what lines need

pub text_adds : (pool : Pool) (entries : List Entry) (text : List ℕ) (n : Needed) → IsGood pool entries → IsText text → need_text pool text ≡ Some n → Adds entries n (Utf8 text)
text_adds pool entries text n good is h = by (leb (length text) 65535) refl h
  where
    by : (b : Bool) → leb (length text) 65535 ≡ b → cond b (need pool (Utf8 text)) None ≡ Some n → Adds entries n (Utf8 text)
    by false t some = absurd (cc)
    by true t some =
        let short : length text ≤ 65535 = leb-true (length text) 65535 t in
        let small : length text < 2 ^ 16 = omega arith in
        let tag : 1 < 2 ^ 8 = omega arith in
        adds pool entries (Utf8 text) n good ((tag, (small, (tt, tt))), is) refl tt some

pub class_adds : (pool : Pool) (entries : List Entry) (name : List ℕ) (n : Needed) → IsGood pool entries → IsText name → need_class pool name ≡ Some n → (i : ℕ) × Adds entries n (Class i)
class_adds pool entries name n good is h =
    let b = bound (need_text pool name) (λ (text : Needed). need text.pool (Class text.index)) n h in
    let text : Adds entries b.0 (Utf8 name) = text_adds pool entries name b.0 good is b.1 in
    let small : b.0.index < 2 ^ 16 = index_small b.0.pool text.entries b.0.index (Utf8 name) text.good text.stands in
    let tag : 7 < 2 ^ 8 = omega arith in
    let class : Adds text.entries n (Class b.0.index) = adds b.0.pool text.entries (Class b.0.index) n text.good ((tag, (small, tt)), tt) refl (name, text.stands) b.2 in
    (b.0.index, adds_then entries b.0 n (Utf8 name) (Class b.0.index) text class)

pub named_adds : (pool : Pool) (entries : List Entry) (name desc : List ℕ) (n : Needed) → IsGood pool entries → IsText name → IsText desc → need_named pool name desc ≡ Some n
    → (i : ℕ) × (j : ℕ) × Adds entries n (NameAndType i j)
named_adds pool entries name desc n good is_name is_desc h =
    let b = bound (need_text pool name) (λ (first : Needed). need_text first.pool desc >>= (λ (second : Needed). need second.pool (NameAndType first.index second.index))) n h in
    let c = bound (need_text b.0.pool desc) (λ (second : Needed). need second.pool (NameAndType b.0.index second.index)) n b.2 in
    let first : Adds entries b.0 (Utf8 name) = text_adds pool entries name b.0 good is_name b.1 in
    let second : Adds first.entries c.0 (Utf8 desc) = text_adds b.0.pool first.entries desc c.0 first.good is_desc c.1 in
    let there : entry_under second.entries b.0.index ≡ Some (Utf8 name) = still first.entries c.0 (Utf8 desc) second b.0.index (Utf8 name) first.stands in
    let small : b.0.index < 2 ^ 16 = index_small c.0.pool second.entries b.0.index (Utf8 name) second.good there in
    let other : c.0.index < 2 ^ 16 = index_small c.0.pool second.entries c.0.index (Utf8 desc) second.good second.stands in
    let tag : 12 < 2 ^ 8 = omega arith in
    let e : Entry = NameAndType b.0.index c.0.index in
    let named : Adds second.entries n e = adds c.0.pool second.entries e n second.good ((tag, (small, (other, tt))), tt) refl ((name, there), (desc, second.stands)) c.2 in
    (b.0.index, c.0.index, adds_then entries b.0 n (Utf8 name) e first (adds_then first.entries c.0 n (Utf8 desc) e second named))

-- what may be a field or a method
member_entry : (b : Bool) (pool : Pool) (entries : List Entry) (class named : ℕ) (n : Needed) → IsGood pool entries → class < 2 ^ 16 → named < 2 ^ 16 → HasClass entries class → HasNameAndType entries named
    → need pool (cond b (Methodref class named) (Fieldref class named)) ≡ Some n → Adds entries n (cond b (Methodref class named) (Fieldref class named))
member_entry true pool entries class named n good small other has_class has_named h =
    let tag : 10 < 2 ^ 8 = omega arith in
    adds pool entries (Methodref class named) n good ((tag, (small, (other, tt))), tt) refl (has_class, has_named) h
member_entry false pool entries class named n good small other has_class has_named h =
    let tag : 9 < 2 ^ 8 = omega arith in
    adds pool entries (Fieldref class named) n good ((tag, (small, (other, tt))), tt) refl (has_class, has_named) h

pub member_adds : (pool : Pool) (entries : List Entry) (op : ℕ) (s : Sym) (n : Needed) → IsGood pool entries → IsText s.class → IsText s.name → IsText s.desc → need_member pool op s ≡ Some n
    → (i : ℕ) × (j : ℕ) × Adds entries n (member op i j)
member_adds pool entries op s n good is_class is_name is_desc h =
    let b = bound (need_class pool s.class) (λ (class : Needed). need_named class.pool s.name s.desc >>= (λ (named : Needed). need named.pool (member op class.index named.index))) n h in
    let c = bound (need_named b.0.pool s.name s.desc) (λ (named : Needed). need named.pool (member op b.0.index named.index)) n b.2 in
    let first = class_adds pool entries s.class b.0 good is_class b.1 in
    let class : Adds entries b.0 (Class first.0) = first.1 in
    let second = named_adds b.0.pool class.entries s.name s.desc c.0 class.good is_name is_desc c.1 in
    let pair : Entry = NameAndType second.0 second.1 in
    let named : Adds class.entries c.0 pair = second.2 in
    let there : entry_under named.entries b.0.index ≡ Some (Class first.0) = still class.entries c.0 pair named b.0.index (Class first.0) class.stands in
    let small : b.0.index < 2 ^ 16 = index_small c.0.pool named.entries b.0.index (Class first.0) named.good there in
    let other : c.0.index < 2 ^ 16 = index_small c.0.pool named.entries c.0.index pair named.good named.stands in
    let e : Entry = member op b.0.index c.0.index in
    let last : Adds named.entries n e = member_entry (eqb op 184) c.0.pool named.entries b.0.index c.0.index n named.good small other (first.0, there) (second.0, second.1, named.stands) c.2 in
    (b.0.index, c.0.index, adds_then entries b.0 n (Class first.0) e class (adds_then class.entries c.0 n pair e named last))
