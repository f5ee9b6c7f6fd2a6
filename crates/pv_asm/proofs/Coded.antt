-- The bytes of a method's lines are a code, whose instructions lead where the labels stand.
use Rattle.std.proofs.Common.{◌≡◌, ◌⊎◌, inl, inr, ℕ, suc, ◌+◌, ◌^◌, ◌<◌, ◌≤◌, Bool, true, false, cond, leb, List, [], ◌∷◌, ◌++◌, length, map, Option, Some, None, is_some, refl, sym, ap, subst, ◌∙◌, arith, length-append}
use Rattle.std.specs.List.{AllZip, list_any, slice_get}
use Rattle.std.specs.Map.{keys_of, lookup}
use Rattle.std.specs.Str.{bytes_eq}
use Rattle.std.proofs.lemmas.Bool.{cond-false, cond-true, le-leb}
use Rattle.std.proofs.lemmas.Slice.Eq.{bytes_eq-Decides}
use Rattle.pv_insn.specs.declared.insn.Insn.{Insn}
use Rattle.pv_insn.specs.declared.insn.Placed.{Placed}
use Rattle.pv_insn.specs.Codes.{AreFrom, IsPlaced, IsCode}
use Rattle.pv_pool.specs.Readers.{◌>>=◌}
use Rattle.pv_listing.specs.declared.line.Line.{Line}
use Rattle.pv_listing.specs.declared.line.Line.TheVariants as lines
use Rattle.pv_listing.specs.declared.line.Operands.{Operands}
use Rattle.pv_listing.specs.Mnemonics.{has_name, kind_of}
use Rattle.pv_listing.specs.Operands.{OperandsFit}
use Rattle.pv_asm.specs.Codes.{insn_bytes}
use Rattle.pv_asm.specs.Instructions.{has_insn, place_from, LabelsLead, index_in, insn_of, placed_from, placed_of}
use Rattle.pv_asm.specs.Labels.{Labels, address_of, put, size_at, labels_from}
use Rattle.pv_asm.specs.Listings.{need_of}
use Rattle.pv_asm.specs.Needs.{Pool, Needed, needed}
use Rattle.pv_asm.proofs.Entered.{some_is}
use Rattle.pv_asm.proofs.Leading.{Raw, RawPlaced, IsTarget, Becomes}
use Rattle.pv_asm.proofs.Spelled.{AreSmall, insn_spelled}
use Rattle.pv_asm.proofs.Standing.{insn_length, seen_found, put_last, found_last, stays}

abbrev pub seen : List Line → List (Option Line)
seen all = map (λ (line : Line). Some line) all

-- ---- lines and their bytes

-- an instruction at an address, by the pool of its class
pub record IsAssembled (pool : Pool) (labels : Labels) (at index op : ℕ) (o : Operands) (bytes : List ℕ) : Type 0 where
  pub entry : need_of pool op o ≡ Some (needed index pool)
  pub low : index < 2 ^ 16
  pub named : has_name op ≡ true
  pub fits : OperandsFit (kind_of op) o
  pub made : insn_bytes labels at index op o ≡ Some bytes

-- the bytes of lines, the first at an address
abbrev pub AreAssembled : Pool → Labels → ℕ → List Line → List ℕ → Type 0
AreAssembled pool labels at [] code = code ≡ []
AreAssembled pool labels at (lines.Instruction op o ∷ body) code =
    (index : ℕ) × (bytes : List ℕ) × (rest : List ℕ) × (code ≡ bytes ++ rest) × IsAssembled pool labels at index op o bytes × AreAssembled pool labels (at + size_at at op o) body rest
AreAssembled pool labels at (line ∷ body) code = AreAssembled pool labels at body code

-- the instructions of lines as they stand
abbrev AreRaw : Pool → Labels → ℕ → List Line → List RawPlaced → Type 0
AreRaw pool labels at [] raws = raws ≡ []
AreRaw pool labels at (lines.Instruction op o ∷ body) raws =
    (index : ℕ) × (r : Raw) × (rest : List RawPlaced) × (raws ≡ record { at = at; raw = r } ∷ rest) × (need_of pool op o ≡ Some (needed index pool)) × Becomes labels at index op o r × AreRaw pool labels (at + size_at at op o) body rest
AreRaw pool labels at (line ∷ body) raws = AreRaw pool labels at body raws

record Reading (pool : Pool) (labels : Labels) (at : ℕ) (body : List Line) (code : List ℕ) : Type 0 where
  pub raws : List RawPlaced
  pub read : AreFrom at raws code
  pub are : AreRaw pool labels at body raws

reading : (pool : Pool) (labels : Labels) (body : List Line) (at : ℕ) (code : List ℕ) → AreSmall labels → at + length code ≤ 65535 → AreAssembled pool labels at body code → Reading pool labels at body code
reading pool labels [] at code small room all = record { raws = []; read = all; are = refl }
reading pool labels (lines.Instruction op o ∷ body) at code small room (index, bytes, rest, parts, is, all) =
    let size : length bytes ≡ size_at at op o = insn_length labels at index op o bytes is.fits is.made in
    let total : length code ≡ length bytes + length rest = ap length parts ∙ length-append bytes rest in
    let few : size_at at op o ≤ 65535 = omega (arith, size, total, room) in
    let near : at ≤ 65535 = omega (arith, room) in
    let room_after : (at + size_at at op o) + length rest ≤ 65535 = omega (arith, size, total, room) in
    let s = insn_spelled labels at index op o bytes small near is.low is.named is.fits few is.made in
    let r = reading pool labels body (at + size_at at op o) rest small room_after all in
    let first : RawPlaced = record { at = at; raw = s.item } in
    let read_after : AreFrom (at + length bytes) r.raws rest = subst (λ (n : ℕ). AreFrom (at + n) r.raws rest) (sym size) r.read in
    record { raws = first ∷ r.raws; read = (bytes, rest, parts, record { here = refl; spells = s.spells; ordered = s.ordered }, read_after); are = (index, s.item, r.raws, refl, is.entry, s.becomes, r.are) }
reading pool labels (lines.Label l ∷ body) at code small room all = let r = reading pool labels body at code small room all in record { raws = r.raws; read = r.read; are = r.are }
reading pool labels (lines.Class name ∷ body) at code small room all = let r = reading pool labels body at code small room all in record { raws = r.raws; read = r.read; are = r.are }
reading pool labels (lines.Method t ∷ body) at code small room all = let r = reading pool labels body at code small room all in record { raws = r.raws; read = r.read; are = r.are }
reading pool labels (lines.End ∷ body) at code small room all = let r = reading pool labels body at code small room all in record { raws = r.raws; read = r.read; are = r.are }

-- ---- where labels lead

-- the first of the instructions
record First (at : ℕ) (raws : List RawPlaced) : Type 0 where
  pub item : RawPlaced
  pub stands : slice_get raws 0 ≡ Some item
  pub far : item.at ≡ at

first : (pool : Pool) (labels : Labels) (body : List Line) (at : ℕ) (raws : List RawPlaced) → has_insn body ≡ true → AreRaw pool labels at body raws → First at raws
first pool labels [] at raws some are = absurd (cc)
first pool labels (lines.Instruction op o ∷ body) at raws some (index, r, rest, is, entry, stands, more) = record { item = record { at = at; raw = r }; stands = ap (λ (l : List RawPlaced). slice_get l 0) is; far = refl }
first pool labels (lines.Label l ∷ body) at raws some are = let f = first pool labels body at raws some are in record { item = f.item; stands = f.stands; far = f.far }
first pool labels (lines.Class name ∷ body) at raws some are = let f = first pool labels body at raws some are in record { item = f.item; stands = f.stands; far = f.far }
first pool labels (lines.Method t ∷ body) at raws some are = let f = first pool labels body at raws some are in record { item = f.item; stands = f.stands; far = f.far }
first pool labels (lines.End ∷ body) at raws some are = let f = first pool labels body at raws some are in record { item = f.item; stands = f.stands; far = f.far }

-- a label is put there with its address
there_then : (labels : Labels) (l m : List ℕ) (at : ℕ) → bytes_eq l m ≡ true → lookup (bytes_eq l) labels ≡ None → lookup (bytes_eq l) (put labels m at) ≡ Some at
there_then labels l m at same none =
    let new : list_any (bytes_eq l) (keys_of labels) ≡ false = sym (seen_found l labels) ∙ ap is_some none in
    subst (λ (k : List ℕ). lookup (bytes_eq l) (put labels k at) ≡ Some at) ((bytes_eq-Decides l m).0 same) (ap (lookup (bytes_eq l)) (put_last labels l at new) ∙ found_last labels l at new)

-- another one is not
not_last : (labels : Labels) (l m : List ℕ) (at : ℕ) → bytes_eq l m ≡ false → lookup (bytes_eq l) labels ≡ None → lookup (bytes_eq l) (labels ++ (m, at) ∷ []) ≡ None
not_last [] l m at other none = cond-false (bytes_eq l m) (Some at) None other
not_last (p ∷ labels) l m at other none = by (bytes_eq l p.0) none (not_last labels l m at other)
  where
    by : (b : Bool) → cond b (Some p.1) (lookup (bytes_eq l) labels) ≡ None → (lookup (bytes_eq l) labels ≡ None → lookup (bytes_eq l) (labels ++ (m, at) ∷ []) ≡ None) → cond b (Some p.1) (lookup (bytes_eq l) (labels ++ (m, at) ∷ [])) ≡ None
    by true is more = absurd (cc)
    by false is more = more is

not_then : (labels : Labels) (l m : List ℕ) (at : ℕ) → bytes_eq l m ≡ false → lookup (bytes_eq l) labels ≡ None → lookup (bytes_eq l) (put labels m at) ≡ None
not_then labels l m at other none = by (is_some (lookup (bytes_eq m) labels))
  where
    by : (b : Bool) → lookup (bytes_eq l) (cond b labels (labels ++ (m, at) ∷ [])) ≡ None
    by true = none
    by false = not_last labels l m at other none

-- no line of a method is its end
abbrev pub HasNoEnd : List Line → Type 0
HasNoEnd [] = Unit {0}
HasNoEnd (lines.End ∷ body) = ⊥
HasNoEnd (line ∷ body) = HasNoEnd body

target : (pool : Pool) (all : Labels) (l : List ℕ) (body : List Line) (labels : Labels) (k at place : ℕ) (raws : List RawPlaced) → HasNoEnd body → lookup (bytes_eq l) labels ≡ None → place_from k body l ≡ Some place → AreRaw pool all at body raws
    → IsTarget (labels_from labels at (seen body)) k raws place l
target pool all l [] labels k at place raws endless none is are = absurd (cc)
target pool all l (lines.Label m ∷ body) labels k at place raws endless none is are = by (bytes_eq l m) refl is (λ other e. target pool all l body (put labels m at) k at place raws endless (not_then labels l m at other none) e are)
  where
    here : bytes_eq l m ≡ true → (b : Bool) → has_insn body ≡ b → cond b (Some k) None ≡ Some place → IsTarget (labels_from (put labels m at) at (seen body)) k raws place l
    here same false some e = absurd (cc)
    here same true some e =
        let f = first pool all body at raws some are in
        let there : address_of l (labels_from (put labels m at) at (seen body)) ≡ Some at = stays l (put labels m at) at (seen body) at (there_then labels l m at same none) in
        let same_place : k ≡ place = some_is k place e in
        record { index = 0; item = f.item; here = omega arith; stands = f.stands; address = there ∙ ap (λ (n : ℕ). Some n) (sym f.far) }

    by : (b : Bool) → bytes_eq l m ≡ b → cond b (cond (has_insn body) (Some k) None) (place_from k body l) ≡ Some place
        → (bytes_eq l m ≡ false → place_from k body l ≡ Some place → IsTarget (labels_from (put labels m at) at (seen body)) k raws place l) → IsTarget (labels_from (put labels m at) at (seen body)) k raws place l
    by true same e more = here same (has_insn body) refl e
    by false other e more = more other e
target pool all l (lines.Instruction op o ∷ body) labels k at place raws endless none is (index, r, rest, parts, entry, stands, more) =
    let t = target pool all l body labels (k + 1) (at + size_at at op o) place rest endless none is more in
    let here : place ≡ (k + 1) + t.index = t.here in
    record { index = suc t.index; item = t.item; here = omega arith; stands = ap (λ (raws : List RawPlaced). slice_get raws (suc t.index)) parts ∙ t.stands; address = t.address }
target pool all l (lines.Class name ∷ body) labels k at place raws endless none is are = target pool all l body labels k at place raws endless none is are
target pool all l (lines.Method t ∷ body) labels k at place raws endless none is are = target pool all l body labels k at place raws endless none is are
target pool all l (lines.End ∷ body) labels k at place raws endless none is are = absurd endless

-- ---- instructions with their targets

-- what needs nothing new stands there
there : (pool : Pool) (op : ℕ) (o : Operands) (index : ℕ) → need_of pool op o ≡ Some (needed index pool) → index_in pool op o ≡ Some index
there pool op o index is =
    ap (λ (n : Option Needed). n >>= (λ (e : Needed). cond (leb (length e.pool) (length pool)) (Some e.index) None)) is
    ∙ cond-true (leb (length pool) (length pool)) (Some index) None (le-leb (length pool) (length pool) (omega arith))

record AllResolved (place : List ℕ → Option ℕ) (pool : Pool) (raws : List RawPlaced) (at : ℕ) (body : List Line) (here : List RawPlaced) : Type 0 where
  pub placed : List Placed
  pub is : placed_from place pool at body ≡ Some placed
  pub resolved : AllZip (IsPlaced raws) here placed

module _ (pool : Pool) (labels : Labels) (place : List ℕ → Option ℕ) (raws : List RawPlaced) (lead : (l : List ℕ) (k : ℕ) → place l ≡ Some k → IsTarget labels 0 raws k l) where
  all_resolved : (body : List Line) (at : ℕ) (here : List RawPlaced) → LabelsLead place body → AreRaw pool labels at body here → AllResolved place pool raws at body here
  all_resolved [] at here has are = record { placed = []; is = refl; resolved = subst (λ (l : List RawPlaced). AllZip (IsPlaced raws) l []) (sym are) tt }
  all_resolved (lines.Instruction op o ∷ body) at here has (index, r, rest, parts, entry, stands, are) =
      let more = all_resolved body (at + size_at at op o) rest has.1 are in
      let one = stands place raws lead has.0 in
      let others : Option (List Placed) = placed_from place pool (at + size_at at op o) body in
      let p : Placed = record { at = at; insn = one.0 } in
      record {
        placed = p ∷ more.placed;
        is =
            ap (λ (n : Option ℕ). n >>= (λ (k : ℕ). insn_of place k op o >>= (λ (i : Insn). others >>= (λ (ps : List Placed). Some (record { at = at; insn = i } ∷ ps))))) (there pool op o index entry)
            ∙ ap (λ (n : Option Insn). n >>= (λ (i : Insn). others >>= (λ (ps : List Placed). Some (record { at = at; insn = i } ∷ ps)))) one.1
            ∙ ap (λ (n : Option (List Placed)). n >>= (λ (ps : List Placed). Some (p ∷ ps))) more.is;
        resolved = subst (λ (l : List RawPlaced). AllZip (IsPlaced raws) l (p ∷ more.placed)) (sym parts) ((refl, one.2), more.resolved);
      }
  all_resolved (lines.Label l ∷ body) at here has are = let a = all_resolved body at here has are in record { placed = a.placed; is = a.is; resolved = a.resolved }
  all_resolved (lines.Class name ∷ body) at here has are = let a = all_resolved body at here has are in record { placed = a.placed; is = a.is; resolved = a.resolved }
  all_resolved (lines.Method t ∷ body) at here has are = let a = all_resolved body at here has are in record { placed = a.placed; is = a.is; resolved = a.resolved }
  all_resolved (lines.End ∷ body) at here has are = let a = all_resolved body at here has are in record { placed = a.placed; is = a.is; resolved = a.resolved }

-- ---- no address is too large

put_or : (m : List ℕ) (labels : Labels) (l : List ℕ) (at a : ℕ) → lookup (bytes_eq m) (labels ++ (l, at) ∷ []) ≡ Some a → (lookup (bytes_eq m) labels ≡ Some a) ⊎ (at ≡ a)
put_or m [] l at a is = by (bytes_eq m l) is
  where
    by : (b : Bool) → cond b (Some at) None ≡ Some a → (lookup (bytes_eq m) [] ≡ Some a) ⊎ (at ≡ a)
    by true e = inr (some_is at a e)
    by false e = absurd (cc)
put_or m (p ∷ labels) l at a is = by (bytes_eq m p.0) is (put_or m labels l at a)
  where
    by : (b : Bool) → cond b (Some p.1) (lookup (bytes_eq m) (labels ++ (l, at) ∷ [])) ≡ Some a → (lookup (bytes_eq m) (labels ++ (l, at) ∷ []) ≡ Some a → (lookup (bytes_eq m) labels ≡ Some a) ⊎ (at ≡ a))
        → (cond b (Some p.1) (lookup (bytes_eq m) labels) ≡ Some a) ⊎ (at ≡ a)
    by true e more = inl e
    by false e more = more e

small_put : (labels : Labels) (l : List ℕ) (at : ℕ) → at ≤ 65535 → AreSmall labels → AreSmall (put labels l at)
small_put labels l at near small m a is = by (is_some (lookup (bytes_eq l) labels)) is
  where
    one : (lookup (bytes_eq m) labels ≡ Some a) ⊎ (at ≡ a) → a ≤ 65535
    one (inl there) = small m a there
    one (inr same) = omega (arith, same, near)

    by : (b : Bool) → lookup (bytes_eq m) (cond b labels (labels ++ (l, at) ∷ [])) ≡ Some a → a ≤ 65535
    by true e = small m a e
    by false e = one (put_or m labels l at a e)

small_from : (pool : Pool) (all : Labels) (body : List Line) (labels : Labels) (at : ℕ) (code : List ℕ) → AreSmall labels → at + length code ≤ 65535 → AreAssembled pool all at body code → AreSmall (labels_from labels at (seen body))
small_from pool all [] labels at code small room are = small
small_from pool all (lines.Instruction op o ∷ body) labels at code small room (index, bytes, rest, parts, is, are) =
    let size : length bytes ≡ size_at at op o = insn_length all at index op o bytes is.fits is.made in
    let total : length code ≡ length bytes + length rest = ap length parts ∙ length-append bytes rest in
    small_from pool all body labels (at + size_at at op o) rest small (omega (arith, size, total, room)) are
small_from pool all (lines.Label l ∷ body) labels at code small room are = small_from pool all body (put labels l at) at code (small_put labels l at (omega (arith, room)) small) room are
small_from pool all (lines.Class name ∷ body) labels at code small room are = small_from pool all body labels at code small room are
small_from pool all (lines.Method t ∷ body) labels at code small room are = small_from pool all body labels at code small room are
small_from pool all (lines.End ∷ body) labels at code small room are = small

none_small : AreSmall []
none_small l a is = absurd (cc)

-- the bytes of all lines of a method are a code
pub is_code : (pool : Pool) (body : List Line) (code : List ℕ) → HasNoEnd body → length code ≤ 65535 → AreAssembled pool (labels_from [] 0 (seen body)) 0 body code → LabelsLead (place_from 0 body) body
    → (placed : List Placed) × (placed_of pool body ≡ Some placed) × IsCode code placed
is_code pool body code endless few all has =
    let labels : Labels = labels_from [] 0 (seen body) in
    let room : 0 + length code ≤ 65535 = omega (arith, few) in
    let r = reading pool labels body 0 code (small_from pool labels body [] 0 code none_small room all) room all in
    let a = all_resolved pool labels (place_from 0 body) r.raws (λ l k here. target pool labels l body [] 0 0 k r.raws endless refl here r.are) body 0 r.raws has r.are in
    (a.placed, a.is, record { raws = r.raws; read = r.read; resolved = a.resolved })
