-- Each code of a class spells the instructions of its lines.
use Rattle.std.proofs.Common.{◌≡◌, ℕ, ◌+◌, ◌^◌, ◌<◌, ◌≤◌, Bool, true, false, cond, leb, ◌&&◌, List, [], ◌∷◌, ◌++◌, length, Option, Some, None, Ok, refl, sym, ap, subst, ◌∙◌, arith, length-append, append_assoc, append-nil}
use Rattle.std.specs.Prelude.{codes}
use Rattle.std.specs.Int.{w32, w64, cast_unsigned}
use Rattle.std.specs.List.{AllZip}
use Rattle.std.specs.Str.{bytes_eq}
use Rattle.std.proofs.lemmas.Bool.{cond-true, leb-true}
use Rattle.std.proofs.lemmas.Slice.Eq.{bytes_eq-Decides}
use Rattle.pv_value.specs.declared.name.Sym.{Sym}
use Rattle.pv_pool.specs.declared.entry.Entry.TheVariants.{Utf8, Integer, Long, Class, NameAndType}
use Rattle.pv_pool.specs.Entries.{entry_text}
use Rattle.pv_pool.specs.Readers.{◌>>=◌}
use Rattle.pv_listing.specs.declared.line.Line.{Line}
use Rattle.pv_listing.specs.declared.line.Line.TheVariants as lines
use Rattle.pv_listing.specs.declared.line.Operands.{Operands}
use Rattle.pv_listing.specs.declared.line.Operands.TheVariants as operands
use Rattle.pv_listing.specs.declared.line.Title.{Title}
use Rattle.pv_listing.specs.Lines.{LineFits}
use Rattle.pv_asm.specs.declared.draft.Draft.{Draft}
use Rattle.pv_asm.specs.declared.draft.Head.{Head}
use Rattle.pv_asm.specs.declared.draft.Method.{Method}
use Rattle.pv_asm.specs.declared.draft.Open.{Open}
use Rattle.pv_asm.specs.declared.draft.Place.{Place}
use Rattle.pv_asm.specs.declared.draft.Place.TheVariants.{Start, Between, Inside}
use Rattle.pv_asm.specs.declared.seen.Signature.{Signature}
use Rattle.pv_asm.specs.Classes.{text_lines}
use Rattle.pv_asm.specs.Codes.{insn_bytes}
use Rattle.pv_asm.specs.Instructions.{body_of, bodies_of}
use Rattle.pv_asm.specs.Labels.{Labels, labels_from, put, size_at}
use Rattle.pv_asm.specs.Laws.{AreFit, IsListed, LinesAreListed, CodesAreListed}
use Rattle.pv_asm.specs.Listings.{begin, put_signature, need_head, put_label, at_label, need_of, next, go_on, read_lines}
use Rattle.pv_asm.specs.Needs.{Pool, Needed, needed, width, after, index_from, need_at, need_bytes, need, need_text, need_class, need_named, need_member, member}
use Rattle.pv_asm.proofs.Coded.{AreAssembled, HasNoEnd, seen, is_code}
use Rattle.pv_asm.proofs.Described.{lines_fit}
use Rattle.pv_asm.proofs.Entered.{some_is, ok_is, bound}
use Rattle.pv_asm.proofs.Pools.{after_more}
use Rattle.pv_asm.proofs.Standing.{insn_length}

-- ---- what was needed once has the same index in each later pool

-- a pool with an entry is a longer one, and the entry has its index there
record IsAgain (seek : Pool → Option Needed) (pool : Pool) (n : Needed) : Type 0 where
  pub more : Pool
  pub grows : n.pool ≡ pool ++ more
  pub again : (later : Pool) → seek (n.pool ++ later) ≡ Some (needed n.index (n.pool ++ later))
  pub few : after 1 n.pool ≤ 65535
  pub low : n.index < 2 ^ 16

after_least : (i : ℕ) (pool : Pool) → i ≤ after i pool
after_least i [] = omega arith
after_least i (e ∷ pool) = omega (arith, after_least (i + width e) pool)

index_most : (i : ℕ) (pool : Pool) (text : List ℕ) (k : ℕ) → index_from i pool text ≡ Some k → k ≤ after i pool
index_most i [] text k is = absurd (cc)
index_most i (e ∷ pool) text k is = by (bytes_eq text e) is (index_most (i + width e) pool text k)
  where
    by : (b : Bool) → cond b (Some i) (index_from (i + width e) pool text) ≡ Some k → (index_from (i + width e) pool text ≡ Some k → k ≤ after (i + width e) pool) → k ≤ after (i + width e) pool
    by true h more = let same : i ≡ k = some_is i k h in omega (arith, same, after_least (i + width e) pool)
    by false h more = more h

same_index : (i : ℕ) (pool later : Pool) (text : List ℕ) (k : ℕ) → index_from i pool text ≡ Some k → index_from i (pool ++ later) text ≡ Some k
same_index i [] later text k is = absurd (cc)
same_index i (e ∷ pool) later text k is = by (bytes_eq text e) is (same_index (i + width e) pool later text k)
  where
    by : (b : Bool) → cond b (Some i) (index_from (i + width e) pool text) ≡ Some k → (index_from (i + width e) pool text ≡ Some k → index_from (i + width e) (pool ++ later) text ≡ Some k) → cond b (Some i) (index_from (i + width e) (pool ++ later) text) ≡ Some k
    by true h more = h
    by false h more = more h

new_index : (i : ℕ) (pool later : Pool) (text : List ℕ) → index_from i pool text ≡ None → index_from i ((pool ++ text ∷ []) ++ later) text ≡ Some (after i pool)
new_index i [] later text none = cond-true (bytes_eq text text) (Some i) (index_from (i + width text) later text) ((bytes_eq-Decides text text).1 refl)
new_index i (e ∷ pool) later text none = by (bytes_eq text e) none (new_index (i + width e) pool later text)
  where
    by : (b : Bool) → cond b (Some i) (index_from (i + width e) pool text) ≡ None → (index_from (i + width e) pool text ≡ None → index_from (i + width e) ((pool ++ text ∷ []) ++ later) text ≡ Some (after (i + width e) pool))
        → cond b (Some i) (index_from (i + width e) ((pool ++ text ∷ []) ++ later) text) ≡ Some (after (i + width e) pool)
    by true h more = absurd (cc)
    by false h more = more h

bytes_again : (text : List ℕ) (pool : Pool) (n : Needed) → after 1 pool ≤ 65535 → need_bytes pool text ≡ Some n → IsAgain (λ p. need_bytes p text) pool n
bytes_again text pool n few h = by (index_from 1 pool text) refl h
  where
    room : index_from 1 pool text ≡ None → (b : Bool) → leb (after 1 pool + width text) 65535 ≡ b → cond b (Some (needed (after 1 pool) (pool ++ text ∷ []))) None ≡ Some n → IsAgain (λ p. need_bytes p text) pool n
    room none false t is = absurd (cc)
    room none true t is =
        let below : after 1 pool + width text ≤ 65535 = leb-true (after 1 pool + width text) 65535 t in
        let count : after 1 (pool ++ text ∷ []) ≡ after 1 pool + width text = after_more 1 pool text in
        let low : after 1 pool < 65536 = omega (arith, few) in
        let new : IsAgain (λ p. need_bytes p text) pool (needed (after 1 pool) (pool ++ text ∷ [])) = record {
          more = text ∷ [];
          grows = refl;
          again = λ later. ap (need_at ((pool ++ text ∷ []) ++ later) text) (new_index 1 pool later text none);
          few = omega (arith, below, count);
          low = low;
        }
        in
        subst (λ (m : Needed). IsAgain (λ p. need_bytes p text) pool m) (some_is (needed (after 1 pool) (pool ++ text ∷ [])) n is) new

    by : (o : Option ℕ) → index_from 1 pool text ≡ o → need_at pool text o ≡ Some n → IsAgain (λ p. need_bytes p text) pool n
    by (Some i) at is =
        let low : i < 65536 = omega (arith, few, index_most 1 pool text i at) in
        let old : IsAgain (λ p. need_bytes p text) pool (needed i pool) = record { more = []; grows = sym (append-nil pool); again = λ later. ap (need_at (pool ++ later) text) (same_index 1 pool later text i at); few = few; low = low } in
        subst (λ (m : Needed). IsAgain (λ p. need_bytes p text) pool m) (some_is (needed i pool) n is) old
    by None at is = room at (leb (after 1 pool + width text) 65535) refl is

text_again : (text : List ℕ) (pool : Pool) (n : Needed) → after 1 pool ≤ 65535 → need_text pool text ≡ Some n → IsAgain (λ p. need_text p text) pool n
text_again text pool n few h = by (leb (length text) 65535) h
  where
    by : (b : Bool) → cond b (need pool (Utf8 text)) None ≡ Some n → IsAgain (λ p. cond b (need p (Utf8 text)) None) pool n
    by true is = bytes_again (entry_text (Utf8 text)) pool n few is
    by false is = absurd (cc)

-- one after the other
both_again : (first : Pool → Option Needed) (second : ℕ → Pool → Option Needed) (pool : Pool) (n : Needed)
    → ((m : Needed) → first pool ≡ Some m → IsAgain first pool m)
    → ((m : Needed) → after 1 m.pool ≤ 65535 → second m.index m.pool ≡ Some n → IsAgain (second m.index) m.pool n)
    → first pool >>= (λ (m : Needed). second m.index m.pool) ≡ Some n
    → IsAgain (λ p. first p >>= (λ (m : Needed). second m.index m.pool)) pool n
both_again first second pool n one two h =
    let b = bound (first pool) (λ (m : Needed). second m.index m.pool) n h in
    let f = one b.0 b.1 in
    let s = two b.0 f.few b.2 in
    record {
      more = f.more ++ s.more;
      grows = s.grows ∙ ap (λ (p : Pool). p ++ s.more) f.grows ∙ append_assoc pool f.more s.more;
      again = λ later.
          let same : n.pool ++ later ≡ b.0.pool ++ (s.more ++ later) = ap (λ (p : Pool). p ++ later) s.grows ∙ append_assoc b.0.pool s.more later in
          let front : first (n.pool ++ later) ≡ Some (needed b.0.index (n.pool ++ later)) = subst (λ (p : Pool). first p ≡ Some (needed b.0.index p)) (sym same) (f.again (s.more ++ later)) in
          ap (λ (o : Option Needed). o >>= (λ (m : Needed). second m.index m.pool)) front ∙ s.again later;
      few = s.few;
      low = s.low;
    }

class_again : (name : List ℕ) (pool : Pool) (n : Needed) → after 1 pool ≤ 65535 → need_class pool name ≡ Some n → IsAgain (λ p. need_class p name) pool n
class_again name pool n few h = both_again (λ p. need_text p name) (λ i p. need p (Class i)) pool n (λ m. text_again name pool m few) (λ m. bytes_again (entry_text (Class m.index)) m.pool n) h

named_again : (name desc : List ℕ) (pool : Pool) (n : Needed) → after 1 pool ≤ 65535 → need_named pool name desc ≡ Some n → IsAgain (λ p. need_named p name desc) pool n
named_again name desc pool n few h =
    both_again (λ p. need_text p name) (λ i p. need_text p desc >>= (λ (second : Needed). need second.pool (NameAndType i second.index))) pool n (λ m. text_again name pool m few)
    (λ m few_then. both_again (λ p. need_text p desc) (λ j p. need p (NameAndType m.index j)) m.pool n (λ k. text_again desc m.pool k few_then) (λ k. bytes_again (entry_text (NameAndType m.index k.index)) k.pool n))
    h

member_again : (op : ℕ) (s : Sym) (pool : Pool) (n : Needed) → after 1 pool ≤ 65535 → need_member pool op s ≡ Some n → IsAgain (λ p. need_member p op s) pool n
member_again op s pool n few h =
    both_again (λ p. need_class p s.class) (λ i p. need_named p s.name s.desc >>= (λ (named : Needed). need named.pool (member op i named.index))) pool n (λ m. class_again s.class pool m few)
    (λ m few_then.
    both_again (λ p. need_named p s.name s.desc) (λ j p. need p (member op m.index j)) m.pool n (λ k. named_again s.name s.desc m.pool k few_then) (λ k. bytes_again (entry_text (member op m.index k.index)) k.pool n))
    h

nothing_again : (pool : Pool) (n : Needed) → after 1 pool ≤ 65535 → ◌≡◌ {A = Option Needed} (Some (needed 0 pool)) (Some n) → IsAgain (λ p. Some (needed 0 p)) pool n
nothing_again pool n few h =
    let low : 0 < 65536 = omega arith in
    let same : IsAgain (λ p. Some (needed 0 p)) pool (needed 0 pool) = record { more = []; grows = sym (append-nil pool); again = λ later. refl; few = few; low = low } in
    subst (λ (m : Needed). IsAgain (λ p. Some (needed 0 p)) pool m) (some_is (needed 0 pool) n h) same

insn_again : (op : ℕ) (o : Operands) (pool : Pool) (n : Needed) → after 1 pool ≤ 65535 → need_of pool op o ≡ Some n → IsAgain (λ p. need_of p op o) pool n
insn_again op (operands.Int z) pool n few h = bytes_again (entry_text (Integer (cast_unsigned w32 z))) pool n few h
insn_again op (operands.Long z) pool n few h = bytes_again (entry_text (Long (cast_unsigned w64 z))) pool n few h
insn_again op (operands.Member s) pool n few h = member_again op s pool n few h
insn_again op o pool n few h = nothing_again pool n few h

-- ---- the labels of a method are those of its own lines

own_labels : (labels : Labels) (at : ℕ) (all : List (Option Line)) → labels_from labels at all ≡ labels_from labels at (seen (body_of all))
own_labels labels at [] = refl
own_labels labels at (None ∷ after) = own_labels labels at after
own_labels labels at (Some lines.End ∷ after) = refl
own_labels labels at (Some (lines.Label l) ∷ after) = own_labels (put labels l at) at after
own_labels labels at (Some (lines.Instruction op o) ∷ after) = own_labels labels (at + size_at at op o) after
own_labels labels at (Some (lines.Class name) ∷ after) = own_labels labels at after
own_labels labels at (Some (lines.Method t) ∷ after) = own_labels labels at after

no_end : (all : List (Option Line)) → HasNoEnd (body_of all)
no_end [] = tt
no_end (None ∷ after) = no_end after
no_end (Some lines.End ∷ after) = tt
no_end (Some (lines.Label l) ∷ after) = no_end after
no_end (Some (lines.Instruction op o) ∷ after) = no_end after
no_end (Some (lines.Class name) ∷ after) = no_end after
no_end (Some (lines.Method t) ∷ after) = no_end after

-- ---- what the lines after a place make

record AfterMethods (d final : Draft) (all : List (Option Line)) : Type 0 where
  pub more : Pool
  pub grows : final.pool ≡ d.pool ++ more
  pub methods : List Method
  pub later : final.methods ≡ d.methods ++ methods
  pub listed : AllZip (IsListed final.pool) (bodies_of all) methods

record InMethod (d final : Draft) (m : Open) (all : List (Option Line)) : Type 0 where
  pub more : Pool
  pub grows : final.pool ≡ d.pool ++ more
  pub bytes : List ℕ
  pub assembled : AreAssembled final.pool m.labels (length m.code) (body_of all) bytes
  pub few : length (m.code ++ bytes) ≤ 65535
  pub methods : List Method
  pub later : final.methods ≡ d.methods ++ record { head = m.head; code = m.code ++ bytes } ∷ methods
  pub listed : AllZip (IsListed final.pool) (bodies_of all) methods

abbrev Makes : Place → Draft → List (Option Line) → Type 0
Makes Start final all = AllZip (IsListed final.pool) (bodies_of all) final.methods
Makes (Between d) final all = AfterMethods d final all
Makes (Inside d m) final all = InMethod d final m all

-- the pool has no more indices than there are
abbrev IsSmall : Place → Type 0
IsSmall Start = Unit {0}
IsSmall (Between d) = after 1 d.pool ≤ 65535
IsSmall (Inside d m) = after 1 d.pool ≤ 65535

-- ---- the first line

record HasBegun (d : Draft) : Type 0 where
  pub few : after 1 d.pool ≤ 65535
  pub none : d.methods ≡ []

begun : (name : List ℕ) (d : Draft) → begin name ≡ Some d → HasBegun d
begun name d h =
    let make : Needed → Needed → Draft = λ class super. record { pool = super.pool; class = class.index; superclass = super.index; signatures = []; methods = [] } in
    let none : after 1 [] ≤ 65535 = omega arith in
    let b = bound (need_class [] name) (λ (class : Needed). need_class class.pool (codes "java/lang/Object") >>= (λ (super : Needed). Some (make class super))) d h in
    let c = bound (need_class b.0.pool (codes "java/lang/Object")) (λ (super : Needed). Some (make b.0 super)) d b.2 in
    let first = class_again name [] b.0 none b.1 in
    let second = class_again (codes "java/lang/Object") b.0.pool c.0 first.few c.1 in
    subst HasBegun (some_is (make b.0 c.0) d c.2) (record { few = second.few; none = refl })

-- ---- the head of a method

record HeadGrew (pool : Pool) (p : Head × Pool) : Type 0 where
  pub more : Pool
  pub grows : p.1 ≡ pool ++ more
  pub few : after 1 p.1 ≤ 65535

head_grew : (pool : Pool) (t : Title) (p : Head × Pool) → after 1 pool ≤ 65535 → need_head pool t ≡ Some p → HeadGrew pool p
head_grew pool t p few h =
    let make : Needed → Needed → Needed → Head × Pool =
    λ name desc code. (record { is_static = t.is_static; name = name.index; desc = desc.index; code = code.index; stack = t.stack; locals = t.locals }, code.pool)
    in
    let b = bound (need_text pool t.name) (λ (name : Needed). need_text name.pool t.desc >>= (λ (desc : Needed). need_text desc.pool (codes "Code") >>= (λ (code : Needed). Some (make name desc code)))) p h in
    let c = bound (need_text b.0.pool t.desc) (λ (desc : Needed). need_text desc.pool (codes "Code") >>= (λ (code : Needed). Some (make b.0 desc code))) p b.2 in
    let d = bound (need_text c.0.pool (codes "Code")) (λ (code : Needed). Some (make b.0 c.0 code)) p c.2 in
    let name = text_again t.name pool b.0 few b.1 in
    let desc = text_again t.desc b.0.pool c.0 name.few c.1 in
    let code = text_again (codes "Code") c.0.pool d.0 desc.few d.1 in
    let grew : HeadGrew pool (make b.0 c.0 d.0) = record {
      more = name.more ++ (desc.more ++ code.more);
      grows =
          code.grows ∙ ap (λ (es : Pool). es ++ code.more) (desc.grows ∙ ap (λ (es : Pool). es ++ desc.more) name.grows) ∙ append_assoc (pool ++ name.more) desc.more code.more
          ∙ append_assoc pool name.more (desc.more ++ code.more);
      few = code.few;
    }
    in
    subst (HeadGrew pool) (some_is (make b.0 c.0 d.0) p d.2) grew

-- ---- a line, and the lines after it

class_line : (name : List ℕ) (after : List (Option Line)) (later : Place) (final : Draft) → next Start (lines.Class name) after ≡ Some later → (IsSmall later → Makes later final after) → Makes Start final (Some (lines.Class name) ∷ after)
class_line name after later final h more =
    let b = bound (begin name) (λ (d : Draft). Some (Between d)) later h in
    let is = begun name b.0 b.1 in
    let makes : IsSmall (Between b.0) → Makes (Between b.0) final after = subst (λ (p : Place). IsSmall p → Makes p final after) (sym (some_is (Between b.0) later b.2)) more in
    let r = makes is.few in
    let same : r.methods ≡ final.methods = sym (r.later ∙ ap (λ (ms : List Method). ms ++ r.methods) is.none) in
    subst (λ (ms : List Method). AllZip (IsListed final.pool) (bodies_of after) ms) same r.listed

method_line : (d : Draft) (t : Title) (after : List (Option Line)) (later : Place) (final : Draft) → IsSmall (Between d) → next (Between d) (lines.Method t) after ≡ Some later → (IsSmall later → Makes later final after)
    → Makes (Between d) final (Some (lines.Method t) ∷ after)
method_line d t after later final few h more =
    let make : List Signature → Head × Pool → Place =
    λ signatures head. Inside (record d { pool = head.1; signatures = signatures }) (record { head = head.0; labels = labels_from [] 0 after; seen = []; code = [] })
    in
    let b = bound (put_signature d.signatures (record { name = t.name; desc = t.desc })) (λ (signatures : List Signature). need_head d.pool t >>= (λ (head : Head × Pool). Some (make signatures head))) later h in
    let c = bound (need_head d.pool t) (λ (head : Head × Pool). Some (make b.0 head)) later b.2 in
    let grew = head_grew d.pool t c.0 few c.1 in
    let makes : IsSmall (make b.0 c.0) → Makes (make b.0 c.0) final after = subst (λ (p : Place). IsSmall p → Makes p final after) (sym (some_is (make b.0 c.0) later c.2)) more in
    let r = makes grew.few in
    let own : AreAssembled final.pool (labels_from [] 0 (seen (body_of after))) 0 (body_of after) r.bytes = subst (λ (labels : Labels). AreAssembled final.pool labels 0 (body_of after) r.bytes) (own_labels [] 0 after) r.assembled in
    record {
      more = grew.more ++ r.more;
      grows = r.grows ∙ ap (λ (p : Pool). p ++ r.more) grew.grows ∙ append_assoc d.pool grew.more r.more;
      methods = record { head = c.0.0; code = r.bytes } ∷ r.methods;
      later = r.later;
      listed = (is_code final.pool (body_of after) r.bytes (no_end after) r.few own, r.listed);
    }

label_line : (d : Draft) (m : Open) (l : List ℕ) (after : List (Option Line)) (later : Place) (final : Draft) → IsSmall (Inside d m) → next (Inside d m) (lines.Label l) after ≡ Some later → (IsSmall later → Makes later final after)
    → Makes (Inside d m) final (Some (lines.Label l) ∷ after)
label_line d m l after later final few h more =
    let b = bound (at_label m l) (λ (o : Open). Some (Inside d o)) later h in
    let c = bound (put_label m.seen l) (λ (seen : List (List ℕ)). Some (record m { seen = seen })) b.0 b.1 in
    let same : Inside d (record m { seen = c.0 }) ≡ later = ap (λ (o : Open). Inside d o) (some_is (record m { seen = c.0 }) b.0 c.2) ∙ some_is (Inside d b.0) later b.2 in
    let makes : IsSmall (Inside d (record m { seen = c.0 })) → Makes (Inside d (record m { seen = c.0 })) final after = subst (λ (p : Place). IsSmall p → Makes p final after) (sym same) more in
    let r = makes few in
    record { more = r.more; grows = r.grows; bytes = r.bytes; assembled = r.assembled; few = r.few; methods = r.methods; later = r.later; listed = r.listed }

insn_line : (d : Draft) (m : Open) (op : ℕ) (o : Operands) (after : List (Option Line)) (later : Place) (final : Draft) → IsSmall (Inside d m) → LineFits (lines.Instruction op o) → next (Inside d m) (lines.Instruction op o) after ≡ Some later
    → (IsSmall later → Makes later final after) → Makes (Inside d m) final (Some (lines.Instruction op o) ∷ after)
insn_line d m op o after later final few fits h more =
    let make : Needed → List ℕ → Place = λ entry bytes. Inside (record d { pool = entry.pool }) (record m { code = m.code ++ bytes }) in
    let b = bound (need_of d.pool op o) (λ (entry : Needed). insn_bytes m.labels (length m.code) entry.index op o >>= (λ (bytes : List ℕ). Some (make entry bytes))) later h in
    let c = bound (insn_bytes m.labels (length m.code) b.0.index op o) (λ (bytes : List ℕ). Some (make b.0 bytes)) later b.2 in
    let entry = insn_again op o d.pool b.0 few b.1 in
    let makes : IsSmall (make b.0 c.0) → Makes (make b.0 c.0) final after = subst (λ (p : Place). IsSmall p → Makes p final after) (sym (some_is (make b.0 c.0) later c.2)) more in
    let r = makes entry.few in
    let there : need_of final.pool op o ≡ Some (needed b.0.index final.pool) = subst (λ (p : Pool). need_of p op o ≡ Some (needed b.0.index p)) (sym r.grows) (entry.again r.more) in
    let size : length c.0 ≡ size_at (length m.code) op o = insn_length m.labels (length m.code) b.0.index op o c.0 fits.1 c.1 in
    let far : length (m.code ++ c.0) ≡ length m.code + size_at (length m.code) op o = length-append m.code c.0 ∙ ap (λ (n : ℕ). length m.code + n) size in
    let rest : AreAssembled final.pool m.labels (length m.code + size_at (length m.code) op o) (body_of after) r.bytes = subst (λ (n : ℕ). AreAssembled final.pool m.labels n (body_of after) r.bytes) far r.assembled in
    let whole : (m.code ++ c.0) ++ r.bytes ≡ m.code ++ (c.0 ++ r.bytes) = append_assoc m.code c.0 r.bytes in
    record {
      more = entry.more ++ r.more;
      grows = r.grows ∙ ap (λ (p : Pool). p ++ r.more) entry.grows ∙ append_assoc d.pool entry.more r.more;
      bytes = c.0 ++ r.bytes;
      assembled = (b.0.index, c.0, r.bytes, refl, record { entry = there; low = entry.low; named = fits.0; fits = fits.1; made = c.1 }, rest);
      few = subst (λ (code : List ℕ). length code ≤ 65535) whole r.few;
      methods = r.methods;
      later = r.later ∙ ap (λ (code : List ℕ). d.methods ++ record { head = m.head; code = code } ∷ r.methods) whole;
      listed = r.listed;
    }

abbrev closed : Draft → Open → Draft
closed d m = record d { methods = d.methods ++ record { head = m.head; code = m.code } ∷ [] }

end_line : (d : Draft) (m : Open) (after : List (Option Line)) (later : Place) (final : Draft) → IsSmall (Inside d m) → next (Inside d m) lines.End after ≡ Some later → (IsSmall later → Makes later final after)
    → Makes (Inside d m) final (Some lines.End ∷ after)
end_line d m after later final few h more = by (leb 1 (length m.code)) (leb (length m.code) 65535) refl h
  where
    made : length m.code ≤ 65535 → AfterMethods (closed d m) final after → InMethod d final m (Some lines.End ∷ after)
    made short r =
        let whole : m.code ≡ m.code ++ [] = sym (append-nil m.code) in
        let method : List ℕ → Method = λ code. record { head = m.head; code = code } in
        record {
          more = r.more;
          grows = r.grows;
          bytes = [];
          assembled = refl;
          few = subst (λ (code : List ℕ). length code ≤ 65535) whole short;
          methods = r.methods;
          later = r.later ∙ append_assoc d.methods (method m.code ∷ []) r.methods ∙ ap (λ (code : List ℕ). d.methods ++ method code ∷ r.methods) whole;
          listed = r.listed;
        }

    by : (a b : Bool) → leb (length m.code) 65535 ≡ b → (cond (a && b) (Some (closed d m)) None) >>= (λ (x : Draft). Some (Between x)) ≡ Some later → InMethod d final m (Some lines.End ∷ after)
    by false b t e = absurd (cc)
    by true false t e = absurd (cc)
    by true true t e =
        let makes : IsSmall (Between (closed d m)) → Makes (Between (closed d m)) final after = subst (λ (p : Place). IsSmall p → Makes p final after) (sym (some_is (Between (closed d m)) later e)) more in
        made (leb-true (length m.code) 65535 t) (makes few)

line_makes : (place : Place) (line : Line) (after : List (Option Line)) (later : Place) (final : Draft) → IsSmall place → LineFits line → next place line after ≡ Some later → (IsSmall later → Makes later final after) → Makes place final (Some line ∷ after)
line_makes Start (lines.Class name) after later final small fits h more = class_line name after later final h more
line_makes (Between d) (lines.Method t) after later final small fits h more = method_line d t after later final small h more
line_makes (Inside d m) (lines.Label l) after later final small fits h more = label_line d m l after later final small h more
line_makes (Inside d m) (lines.Instruction op o) after later final small fits h more = insn_line d m op o after later final small fits h more
line_makes (Inside d m) lines.End after later final small fits h more = end_line d m after later final small h more
line_makes place line after later final small fits h more = absurd (cc)

-- ---- all lines

all_made : (n : ℕ) (place : Place) (all : List (Option Line)) (final : Draft) → IsSmall place → AreFit all → read_lines n place all ≡ Ok final → Makes place final all
all_made n Start [] final small fits h = absurd (cc)
all_made n (Inside d m) [] final small fits h = absurd (cc)
all_made n (Between d) [] final small fits h =
    let same : d ≡ final = ok_is {E = ℕ} d final h in
    record { more = []; grows = ap (λ (x : Draft). x.pool) (sym same) ∙ sym (append-nil d.pool); methods = []; later = ap (λ (x : Draft). x.methods) (sym same) ∙ sym (append-nil d.methods); listed = tt }
all_made n place (None ∷ after) final small fits h = absurd (cc)
all_made n place (Some line ∷ after) final small fits h = by (next place line after) refl h (λ later e is. all_made (n + 1) later after final is fits.1 e)
  where
    by : (o : Option Place) → next place line after ≡ o → go_on n (λ later. read_lines (n + 1) later after) o ≡ Ok final → ((later : Place) → read_lines (n + 1) later after ≡ Ok final → IsSmall later → Makes later final after)
        → Makes place final (Some line ∷ after)
    by None at e more = absurd (cc)
    by (Some later) at e more = line_makes place line after later final small fits.0 at (more later e)

pub lines_are_listed : LinesAreListed
lines_are_listed all d fits h = all_made 1 Start all d tt fits h

pub codes_are_listed : CodesAreListed
codes_are_listed text d h = lines_are_listed (text_lines text) d (lines_fit text) h
