-- Methods whose instructions need no entry have a class together.
use Rattle.std.proofs.Common.{◌≡◌, ℕ, suc, ◌+◌, ◌*◌, ◌<◌, ◌≤◌, Bool, true, false, cond, leb, ◌&&◌, ◌||◌, List, [], ◌∷◌, ◌++◌, length, map, Option, Some, None, Result, Ok, refl, sym, ap, subst, ◌∙◌, arith, length-append, append_assoc}
use Rattle.std.specs.List.{AllByRecursion, flat_map, list_any, slice_get}
use Rattle.std.specs.Str.{bytes_eq}
use Rattle.std.proofs.lemmas.Bool.{le-leb, lt-leb}
use Rattle.std.proofs.lemmas.List.{length-map, map-append}
use Rattle.std.proofs.lemmas.Option.{slice_get_within}
use Rattle.std.proofs.lemmas.Slice.Eq.{bytes_eq-Decides}
use Rattle.pv_class.specs.Items.{file_text}
use Rattle.pv_pool.specs.Readers.{◌>>=◌}
use Rattle.pv_listing.specs.declared.line.Line.{Line}
use Rattle.pv_listing.specs.declared.line.Line.TheVariants as lines
use Rattle.pv_listing.specs.declared.line.Operands.{Operands}
use Rattle.pv_listing.specs.declared.line.Operands.TheVariants as operands
use Rattle.pv_listing.specs.declared.line.Title.{Title}
use Rattle.pv_asm.specs.declared.draft.Draft.{Draft}
use Rattle.pv_asm.specs.declared.draft.Head.{Head}
use Rattle.pv_asm.specs.declared.draft.Open.{Open}
use Rattle.pv_asm.specs.declared.draft.Place.{Place}
use Rattle.pv_asm.specs.declared.draft.Place.TheVariants.{Between, Inside}
use Rattle.pv_asm.specs.declared.seen.Signature.{Signature}
use Rattle.pv_asm.specs.Classes.{bytes_of, items_of}
use Rattle.pv_asm.specs.Codes.{insn_bytes}
use Rattle.pv_asm.specs.Labels.{Labels, labels_from, put, size_at}
use Rattle.pv_asm.specs.Laws.{AreApart, IsPlain, MethodLines, MethodsHaveClass, code_from, method_lines, needs_entry}
use Rattle.pv_asm.specs.Listings.{alike, at_end, go_on, need_head, need_of, put_label, put_signature, read_lines}
use Rattle.pv_asm.specs.Needs.{Needed, Pool, after, needed}
use Rattle.pv_asm.proofs.Apart.{signature}
use Rattle.pv_asm.proofs.Entered.{bound, kept, some_is}
use Rattle.pv_asm.proofs.Rooms.{begun, head_room}

abbrev seen : List Line → List (Option Line)
seen all = map (λ (line : Line). Some line) all

-- ---- the lines of a method up to its end

-- the labels are those of its own lines
labels_inside : (labels : Labels) (at : ℕ) (body : List Line) (rest : List (Option Line)) → labels_from labels at (seen body ++ Some lines.End ∷ rest) ≡ labels_from labels at (seen body)
labels_inside labels at [] rest = refl
labels_inside labels at (lines.End ∷ body) rest = refl
labels_inside labels at (lines.Label l ∷ body) rest = labels_inside (put labels l at) at body rest
labels_inside labels at (lines.Instruction op o ∷ body) rest = labels_inside labels (at + size_at at op o) body rest
labels_inside labels at (lines.Class name ∷ body) rest = labels_inside labels at body rest
labels_inside labels at (lines.Method t ∷ body) rest = labels_inside labels at body rest

needs_nothing : (pool : Pool) (op : ℕ) (o : Operands) → needs_entry o ≡ false → need_of pool op o ≡ Some (needed 0 pool)
needs_nothing pool op (operands.Int n) none = absurd (cc)
needs_nothing pool op (operands.Long n) none = absurd (cc)
needs_nothing pool op (operands.Member s) none = absurd (cc)
needs_nothing pool op _ none = refl

module _ (d : Draft) (h : Head) (labels : Labels) where
  abbrev inside : List (List ℕ) → List ℕ → Place
  inside stood code = Inside d (record { head = h; labels = labels; seen = stood; code = code })

  -- these lines lead on to this code
  record LeadsTo (n : ℕ) (place : Place) (all : List Line) (code : List ℕ) (rest : List (Option Line)) : Type 0 where
    pub number : ℕ
    pub stood : List (List ℕ)
    pub is : read_lines n place (seen all ++ rest) ≡ read_lines number (inside stood code) rest

  leads : (all : List Line) (n : ℕ) (stood : List (List ℕ)) (code last : List ℕ) (rest : List (Option Line)) → code_from labels stood code all ≡ Some last → LeadsTo n (inside stood code) all last rest
  leads [] n stood code last rest is = record { number = n; stood = stood; is = ap (λ (c : List ℕ). read_lines n (inside stood c) rest) (some_is code last is) }
  leads (lines.Label l ∷ all) n stood code last rest is =
      let step = bound (put_label stood l) (λ (later : List (List ℕ)). code_from labels later code all) last is in
      let more = leads all (n + 1) step.0 code last rest step.2 in
      let open_with : List (List ℕ) → Open = λ s. record { head = h; labels = labels; seen = s; code = code } in
      record {
        number = more.number;
        stood = more.stood;
        is =
            ap (λ (o : Option (List (List ℕ))). go_on n (λ (place : Place). read_lines (n + 1) place (seen all ++ rest)) ((o >>= (λ (s : List (List ℕ)). Some (open_with s))) >>= (λ (m : Open). Some (Inside d m)))) step.1
            ∙ more.is;
      }
  leads (lines.Instruction op o ∷ all) n stood code last rest is = by (needs_entry o) refl is (λ bytes found. leads all (n + 1) stood (code ++ bytes) last rest found)
    where
      by : (b : Bool) → needs_entry o ≡ b → cond b None (insn_bytes labels (length code) 0 op o >>= (λ (bytes : List ℕ). code_from labels stood (code ++ bytes) all)) ≡ Some last
          → ((bytes : List ℕ) → code_from labels stood (code ++ bytes) all ≡ Some last → LeadsTo (n + 1) (inside stood (code ++ bytes)) all last rest) → LeadsTo n (inside stood code) (lines.Instruction op o ∷ all) last rest
      by true none found later = absurd (cc)
      by false none found later =
          let step = bound (insn_bytes labels (length code) 0 op o) (λ (bytes : List ℕ). code_from labels stood (code ++ bytes) all) last found in
          let more = later step.0 step.2 in
          let on : Option Place → Result Draft ℕ = go_on n (λ (place : Place). read_lines (n + 1) place (seen all ++ rest)) in
          record {
            number = more.number;
            stood = more.stood;
            is =
                ap (λ (need : Option Needed). on (need >>= (λ (e : Needed). insn_bytes labels (length code) e.index op o >>= (λ (bytes : List ℕ). Some (Inside (record d { pool = e.pool }) (record { head = h; labels = labels; seen = stood; code = code ++ bytes })))))) (needs_nothing d.pool op o none)
                ∙ ap (λ (found : Option (List ℕ)). on (found >>= (λ (bytes : List ℕ). Some (inside stood (code ++ bytes))))) step.1
                ∙ more.is;
          }
  leads (lines.Class name ∷ all) n stood code last rest is = absurd (cc)
  leads (lines.Method t ∷ all) n stood code last rest is = absurd (cc)
  leads (lines.End ∷ all) n stood code last rest is = absurd (cc)

-- ---- a whole method

-- the end stands between the lines of the body and those after the method
end_apart : (body : List Line) (rest : List (Option Line)) → seen (body ++ lines.End ∷ []) ++ rest ≡ seen body ++ Some lines.End ∷ rest
end_apart [] rest = refl
end_apart (line ∷ body) rest = ap (λ (more : List (Option Line)). Some line ∷ more) (end_apart body rest)

ends : (d : Draft) (m : Open) → 1 ≤ length m.code → length m.code ≤ 65535 → at_end d m ≡ Some (record d { methods = d.methods ++ record { head = m.head; code = m.code } ∷ [] })
ends d m some few =
    let later : Option Draft = Some (record d { methods = d.methods ++ record { head = m.head; code = m.code } ∷ [] }) in
    ap (λ (b : Bool). cond (b && leb (length m.code) 65535) later None) (le-leb 1 (length m.code) some) ∙ ap (λ (b : Bool). cond b later None) (le-leb (length m.code) 65535 few)

-- these lines lead on from one class to a later one, whatever stands after them
record Adds (d : Draft) (all : List Line) (signatures : List Signature) (n : ℕ) : Type 0 where
  pub later : Draft
  pub few : after 1 later.pool ≤ n
  pub are : later.signatures ≡ signatures
  pub read : (rest : List (Option Line)) (m : ℕ) → (k : ℕ) × (read_lines m (Between d) (seen all ++ rest) ≡ read_lines k (Between later) rest)

one_method : (d : Draft) (m : MethodLines) (n : ℕ) (signatures : List Signature) → IsPlain m → put_signature d.signatures (signature m.title) ≡ Some signatures → after 1 d.pool ≤ n → n + 3 ≤ 65535 → Adds d (method_lines m) signatures (n + 3)
one_method d m n signatures plain put few room =
    let head = head_room n d.pool m.title plain.name plain.desc few room in
    let opened : Draft = record d { pool = head.head.1; signatures = signatures } in
    let all : Labels = labels_from [] 0 (seen m.body) in
    let last : List (List ℕ) → Open = λ s. record { head = head.head.0; labels = all; seen = s; code = plain.code } in
    let later : Draft = record opened { methods = opened.methods ++ record { head = head.head.0; code = plain.code } ∷ [] } in
    record {
      later = later;
      few = head.few;
      are = refl;
      read = λ rest k.
          let after_head : List (Option Line) = seen (m.body ++ lines.End ∷ []) ++ rest in
          let on : Option Place → Result Draft ℕ = go_on k (λ (place : Place). read_lines (k + 1) place after_head) in
          let start : Labels → Place = λ labels. Inside opened (record { head = head.head.0; labels = labels; seen = []; code = [] }) in
          let labels_are : labels_from [] 0 after_head ≡ all = ap (labels_from [] 0) (end_apart m.body rest) ∙ labels_inside [] 0 m.body rest in
          let body = leads opened head.head.0 all m.body (k + 1) [] [] plain.code (Some lines.End ∷ rest) plain.is in (
            body.number + 1,
            ap (λ (o : Option (List Signature)). on (o >>= (λ (s : List Signature). need_head d.pool m.title >>= (λ (h : Head × Pool). Some (Inside (record d { pool = h.1; signatures = s }) (record { head = h.0; labels = labels_from [] 0 after_head; seen = []; code = [] })))))) put
                ∙ ap (λ (o : Option (Head × Pool)). on (o >>= (λ (h : Head × Pool). Some (Inside (record d { pool = h.1; signatures = signatures }) (record { head = h.0; labels = labels_from [] 0 after_head; seen = []; code = [] }))))) head.is
                ∙ ap (λ (labels : Labels). read_lines (k + 1) (start labels) after_head) labels_are
                ∙ ap (read_lines (k + 1) (start all)) (end_apart m.body rest)
                ∙ body.is
                ∙ ap (λ (o : Option Draft). go_on body.number (λ (place : Place). read_lines (body.number + 1) place rest) (o >>= (λ (x : Draft). Some (Between x)))) (ends opened (last body.stood) plain.some plain.few),
          );
    }

-- ---- a name and a descriptor that no method before has

-- one that is alike stands somewhere
record IsAmong (titles : List Title) (u : Title) : Type 0 where
  pub index : ℕ
  pub title : Title
  pub at : slice_get titles index ≡ Some title
  pub name : title.name ≡ u.name
  pub desc : title.desc ≡ u.desc

both_true : (a b : Bool) → (a && b) ≡ true → (a ≡ true) × (b ≡ true)
both_true true b is = (refl, is)
both_true false b is = absurd (cc)

among : (titles : List Title) (u : Title) → list_any (alike (signature u)) (map signature titles) ≡ true → IsAmong titles u
among [] u is = absurd (cc)
among (t ∷ titles) u is = by (alike (signature u) (signature t)) refl is (λ later. let more = among titles u later in record { index = suc more.index; title = more.title; at = more.at; name = more.name; desc = more.desc })
  where
    by : (b : Bool) → alike (signature u) (signature t) ≡ b → (b || list_any (alike (signature u)) (map signature titles)) ≡ true → (list_any (alike (signature u)) (map signature titles) ≡ true → IsAmong (t ∷ titles) u) → IsAmong (t ∷ titles) u
    by true same is later =
        let both = both_true (bytes_eq u.name t.name) (bytes_eq u.desc t.desc) same in
        record { index = 0; title = t; at = refl; name = sym ((bytes_eq-Decides u.name t.name).0 both.0); desc = sym ((bytes_eq-Decides u.desc t.desc).0 both.1) }
    by false same is later = later is

at_seam : (front : List Title) (t : Title) (after : List Title) → slice_get (front ++ t ∷ after) (length front) ≡ Some t
at_seam [] t after = refl
at_seam (u ∷ front) t after = at_seam front t after

is_new : (front : List Title) (t : Title) (after : List Title) → AreApart (front ++ t ∷ after) → (b : Bool) → list_any (alike (signature t)) (map signature front) ≡ b → b ≡ false
is_new front t after apart false is = refl
is_new front t after apart true is =
    let found = among front t is in
    let same : found.index ≡ length front = apart found.index (length front) found.title t (kept front (t ∷ after) found.index found.title found.at) (at_seam front t after) found.name found.desc in
    let less : found.index < length front = slice_get_within front found.index found.title found.at in
    absurd (omega (arith, same, less))

put_new : (signatures : List Signature) (front : List Title) (t : Title) (after : List Title) → signatures ≡ map signature front → AreApart (front ++ t ∷ after) → length front < 65535 → put_signature signatures (signature t) ≡ Some (map signature (front ++ t ∷ []))
put_new signatures front t after is apart few =
    let all : List Signature = map signature front in
    let long : length all ≡ length front = length-map front signature in
    let room : leb 65535 (length all) ≡ false = lt-leb 65535 (length all) (omega (arith, long, few)) in
    ap (λ (s : List Signature). put_signature s (signature t)) is
    ∙ ap (λ (b : Bool). cond (b || list_any (alike (signature t)) all) None (Some (all ++ signature t ∷ []))) room
    ∙ ap (λ (b : Bool). cond b None (Some (all ++ signature t ∷ []))) (is_new front t after apart (list_any (alike (signature t)) all) refl)
    ∙ ap (λ (s : List Signature). Some s) (sym (map-append signature front (t ∷ [])))

-- ---- all methods

abbrev title_of : MethodLines → Title
title_of m = m.title

record Reads (d : Draft) (all : List Line) : Type 0 where
  pub later : Draft
  pub read : (n : ℕ) → read_lines n (Between d) (seen all) ≡ Ok later

all_methods : (methods : List MethodLines) (front : List Title) (d : Draft) → d.signatures ≡ map signature front → after 1 d.pool ≤ 5 + 3 * length front → AllByRecursion IsPlain methods → AreApart (front ++ map title_of methods) → 5 + 3 * (length front + length methods) ≤ 65535
    → Reads d (flat_map method_lines methods)
all_methods [] front d are few each apart room = record { later = d; read = λ n. refl }
all_methods (m ∷ methods) front d are few each apart room =
    let t : Title = m.title in
    let rest : List Title = map title_of methods in
    let put = put_new d.signatures front t rest are apart (omega (arith, room)) in
    let one = one_method d m (5 + 3 * length front) (map signature (front ++ t ∷ [])) each.0 put few (omega (arith, room)) in
    let long : length (front ++ t ∷ []) ≡ length front + 1 = length-append front (t ∷ []) in
    let apart_still : AreApart ((front ++ t ∷ []) ++ rest) = subst AreApart (sym (append_assoc front (t ∷ []) rest)) apart in
    let few_still : after 1 one.later.pool ≤ 5 + 3 * length (front ++ t ∷ []) = omega (arith, one.few, long) in
    let more = all_methods methods (front ++ t ∷ []) one.later one.are few_still each.1 apart_still (omega (arith, room, long)) in
    record {
      later = more.later;
      read = λ n.
          let first = one.read (seen (flat_map method_lines methods)) n in
          ap (read_lines n (Between d)) (map-append (λ (line : Line). Some line) (method_lines m) (flat_map method_lines methods)) ∙ first.1 ∙ more.read first.0;
    }

pub methods_have_class : MethodsHaveClass
methods_have_class name methods short each apart room =
    let begin_is = begun name short in
    let all : List Line = flat_map method_lines methods in
    let reads = all_methods methods [] begin_is.draft begin_is.none begin_is.few each apart (omega (arith, room)) in (
      file_text (items_of reads.later),
      ap bytes_of (ap (λ (o : Option Draft). go_on 1 (λ (place : Place). read_lines 2 place (seen all)) (o >>= (λ (d : Draft). Some (Between d)))) begin_is.is ∙ reads.read 2),
    )
