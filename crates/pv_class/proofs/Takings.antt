-- The items that the grammar of class files takes, in the room that they have.
use Rattle.std.proofs.Common.{◌≡◌, ℕ, List, [], ◌∷◌, ◌++◌, length, refl}
use Rattle.std.specs.List.{AllByRecursion}
use Rattle.std.specs.Int.{w16, w32}
use Rattle.pv_format.specs.Numbers.{FitsNumber}
use Rattle.pv_format.specs.Grammars.{bind}
use Rattle.pv_format.proofs.Cited.{wide16, wide32, Spells, seen, number_spells, run_spells, counted_spells, table_spells}
use Rattle.pv_class.specs.declared.room.Room.{Room}
use Rattle.pv_class.specs.Grammars.{Grammar, short, u2, u4, run, table}
use Rattle.pv_class.specs.Items as items

abbrev pub IsU4 : ℕ → Type 0
IsU4 n = FitsNumber w32 n

pub u2_spells : (room : Room) → Spells (u2 room) room.after items.u2 (λ n _. items.IsU2 n) (λ n. n)
u2_spells room = number_spells room.after (short room) w16 wide16

pub u4_spells : (room : Room) → Spells (u4 room) room.after items.u4 (λ n _. IsU4 n) (λ n. n)
u4_spells room = number_spells room.after (short room) w32 wide32

pub bytes_spells : (room : Room) (n : ℕ) → Spells (run room n) room.after (λ bytes. bytes) (λ bytes _. length bytes ≡ n) (λ bytes. bytes)
bytes_spells room n = run_spells room.after (short room) n

-- as many bytes as a number before them says
pub sized_spells : {B J : Type 0} {k : ℕ → Grammar B} {more : J → List ℕ} {Q : ℕ → J → List ℕ → Type 0} {all : ℕ → J → B} (room : Room) (count : J → ℕ) → ((n : ℕ) (j : J) (rest : List ℕ) → Q n j rest → count j ≡ n)
    → ((n : ℕ) → Spells (k n) room.after more (Q n) (all n)) → Spells (bind (u4 room) k) room.after (λ j. items.u4 (count j) ++ more j) (λ j rest. IsU4 (count j) × Q (count j) j rest) (λ j. all (count j) j)
sized_spells room count is f = counted_spells room.after (short room) w32 wide32 count is f

pub both_of : {A : Type 0} (F H : A → Type 0) (xs : List A) → AllByRecursion (λ a. F a × H a) xs → AllByRecursion F xs × AllByRecursion H xs
both_of F H [] h = (tt, tt)
both_of F H (x ∷ xs) h = let o = both_of F H xs h.1 in ((h.0.0, o.0), (h.0.1, o.1))

pub of_both : {A : Type 0} (F H : A → Type 0) (xs : List A) → AllByRecursion F xs → AllByRecursion H xs → AllByRecursion (λ a. F a × H a) xs
of_both F H [] f h = tt
of_both F H (x ∷ xs) f h = ((f.0, h.0), of_both F H xs f.1 h.1)

-- a table of items, which fit and of which more holds
pub tables_spells : {I : Type 0} {g : Grammar (Unit {0})} {text : I → List ℕ} (room : Room) (F H : I → Type 0) → Spells g room.after text (λ i _. F i × H i) (λ _. tt) → Spells (table room g) room.after (items.table text) (λ is _. items.IsTable F is × AllByRecursion H is) length
tables_spells room F H f = seen (table_spells {P = λ i. F i × H i} room.after (short room) w16 wide16 f)
    (λ is rest (few, are). let o = both_of F H is are in (is, refl, refl, ((few, o.0), o.1)))
    (λ is rest ((few, fit), more). (is, refl, refl, (few, of_both F H is fit more)))
