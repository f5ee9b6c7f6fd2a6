-- What a class and its methods need has room in a pool.
use Rattle.std.proofs.Common.{◌≡◌, ℕ, ◌+◌, ◌<◌, ◌≤◌, true, leb, List, [], ◌∷◌, ◌++◌, length, Option, Some, None, refl, ap, ◌∙◌, arith}
use Rattle.std.specs.Prelude.{codes}
use Rattle.std.proofs.lemmas.Bool.{le-leb, cond-true}
use Rattle.pv_pool.specs.declared.entry.Entry.{Entry}
use Rattle.pv_pool.specs.declared.entry.Entry.TheVariants.{Utf8, Class}
use Rattle.pv_pool.specs.Entries.{entry_text}
use Rattle.pv_pool.specs.Readers.{◌>>=◌}
use Rattle.pv_listing.specs.declared.line.Title.{Title}
use Rattle.pv_asm.specs.declared.draft.Draft.{Draft}
use Rattle.pv_asm.specs.declared.draft.Head.{Head}
use Rattle.pv_asm.specs.Listings.{begin, need_head}
use Rattle.pv_asm.specs.Needs.{Pool, Needed, after, need, need_at, need_class, need_new, need_text, needed, index_from, width}
use Rattle.pv_asm.proofs.Pools.{after_more}

-- an entry, and constant_pool_count is at most n with it
pub record HasRoom (n : ℕ) (o : Option Needed) : Type 0 where
  pub entry : Needed
  pub is : o ≡ Some entry
  pub few : after 1 entry.pool ≤ n

-- an entry that takes one index
entry_room : (n : ℕ) (pool : Pool) (e : Entry) → width (entry_text e) ≡ 1 → after 1 pool ≤ n → n < 65535 → HasRoom (n + 1) (need pool e)
entry_room n pool e wide few room =
    let text : List ℕ = entry_text e in
    let one : after 1 (pool ++ text ∷ []) ≡ after 1 pool + width text = after_more 1 pool text in
    let fits : leb (after 1 pool + width text) 65535 ≡ true = le-leb (after 1 pool + width text) 65535 (omega (arith, wide, few, room)) in
    let new : HasRoom (n + 1) (need_new pool text) = record {
      entry = needed (after 1 pool) (pool ++ text ∷ []);
      is = cond-true (leb (after 1 pool + width text) 65535) (Some (needed (after 1 pool) (pool ++ text ∷ []))) None fits;
      few = omega (arith, one, wide, few);
    }
    in
    by text (index_from 1 pool text) new
  where
    by : (text : List ℕ) (o : Option ℕ) → HasRoom (n + 1) (need_new pool text) → HasRoom (n + 1) (need_at pool text o)
    by text (Some i) new = record { entry = needed i pool; is = refl; few = omega (arith, few) }
    by text None new = new

text_room : (n : ℕ) (pool : Pool) (text : List ℕ) → length text ≤ 65535 → after 1 pool ≤ n → n < 65535 → HasRoom (n + 1) (need_text pool text)
text_room n pool text short few room =
    let there = entry_room n pool (Utf8 text) refl few room in
    record { entry = there.entry; is = cond-true (leb (length text) 65535) (need pool (Utf8 text)) None (le-leb (length text) 65535 short) ∙ there.is; few = there.few }

class_room : (n : ℕ) (pool : Pool) (name : List ℕ) → length name ≤ 65535 → after 1 pool ≤ n → n + 1 < 65535 → HasRoom (n + 1 + 1) (need_class pool name)
class_room n pool name short few room =
    let text = text_room n pool name short few (omega (arith, room)) in
    let class = entry_room (n + 1) text.entry.pool (Class text.entry.index) refl text.few room in
    record { entry = class.entry; is = ap (λ (o : Option Needed). o >>= (λ (t : Needed). need t.pool (Class t.index))) text.is ∙ class.is; few = class.few }

-- ---- the class and its superclass

-- a class without methods
pub record IsBegun (o : Option Draft) : Type 0 where
  pub draft : Draft
  pub is : o ≡ Some draft
  pub few : after 1 draft.pool ≤ 5
  pub none : draft.signatures ≡ []

pub begun : (name : List ℕ) → length name ≤ 65535 → IsBegun (begin name)
begun name short =
    let make : Needed → Needed → Draft = λ class super. record { pool = super.pool; class = class.index; superclass = super.index; signatures = []; methods = [] } in
    let class = class_room 1 [] name short (omega arith) (omega arith) in
    let super = class_room 3 class.entry.pool (codes "java/lang/Object") (omega arith) class.few (omega arith) in
    record {
      draft = make class.entry super.entry;
      is = ap (λ (o : Option Needed). o >>= (λ (a : Needed). need_class a.pool (codes "java/lang/Object") >>= (λ (b : Needed). Some (make a b)))) class.is ∙ ap (λ (o : Option Needed). o >>= (λ (b : Needed). Some (make class.entry b))) super.is;
      few = super.few;
      none = refl;
    }

-- ---- the head of a method

pub record HeadHasRoom (n : ℕ) (pool : Pool) (t : Title) : Type 0 where
  pub head : Head × Pool
  pub is : need_head pool t ≡ Some head
  pub few : after 1 head.1 ≤ n

pub head_room : (n : ℕ) (pool : Pool) (t : Title) → length t.name ≤ 65535 → length t.desc ≤ 65535 → after 1 pool ≤ n → n + 3 ≤ 65535 → HeadHasRoom (n + 3) pool t
head_room n pool t short brief few room =
    let make : Needed → Needed → Needed → Head × Pool =
    λ name desc code. (record { is_static = t.is_static; name = name.index; desc = desc.index; code = code.index; stack = t.stack; locals = t.locals }, code.pool)
    in
    let name = text_room n pool t.name short few (omega (arith, room)) in
    let desc = text_room (n + 1) name.entry.pool t.desc brief name.few (omega (arith, room)) in
    let code = text_room (n + 1 + 1) desc.entry.pool (codes "Code") (omega arith) desc.few (omega (arith, room)) in
    record {
      head = make name.entry desc.entry code.entry;
      is =
          ap (λ (o : Option Needed). o >>= (λ (a : Needed). need_text a.pool t.desc >>= (λ (b : Needed). need_text b.pool (codes "Code") >>= (λ (c : Needed). Some (make a b c))))) name.is
          ∙ ap (λ (o : Option Needed). o >>= (λ (b : Needed). need_text b.pool (codes "Code") >>= (λ (c : Needed). Some (make name.entry b c)))) desc.is
          ∙ ap (λ (o : Option Needed). o >>= (λ (c : Needed). Some (make name.entry desc.entry c))) code.is;
      few = omega (arith, code.few);
    }
