-- Grammars of bytes: items that follow one another without padding, of which those before say what stands next.
-- Bytes run from an item to their end, and a place is given by how many bytes are left there. A fault is of any type.
use Rattle.std.specs.Prelude.{◌≡◌, ◌⊎◌, ◌↔◌, ℕ, zero, suc, ◌≤◌, ◌<◌, ◌+◌, Bool, true, List, ◌++◌, length}
use Rattle.std.specs.Int.{Width, byte_len, from_be_bytes}

-- a fact, and a test that tells it
pub record Test : Type 1 where
  pub Holds : Type 0
  pub tells : Bool
  pub law : (tells ≡ true) ↔ Holds

abbrev pub holds : Bool → Test
holds b = record { Holds = b ≡ true; tells = b; law = (λ e. e, λ e. e) }

pub data Grammar (F A : Type 0) : Type 1 where
  -- no more items; this was read
  give : A → Grammar F A
  -- by how many bytes are left
  here : (ℕ → Grammar F A) → Grammar F A
  -- an item of `size` bytes, with at least `after` bytes after it, and what follows it; the fault of bytes that are too few is by how many are left
  item : (size after : ℕ) → (ℕ → F) → (List ℕ → Grammar F A) → Grammar F A
  -- what was read must pass this, or it has this fault
  check : Test → F → Grammar F A → Grammar F A

-- one after the other
unfoldable pub bind : {F A B : Type 0} → Grammar F A → (A → Grammar F B) → Grammar F B
bind (give x) k = k x
bind (here f) k = here (λ left. bind (f left) k)
bind (item size after short f) k = item size after short (λ bytes. bind (f bytes) k)
bind (check c e g) k = check c e (bind g k)

infixl 10 ◌>>=◌
abbrev pub ◌>>=◌ : {F A B : Type 0} → Grammar F A → (A → Grammar F B) → Grammar F B
g >>= k = bind g k

-- the bytes begin with what the grammar says, which reads as x, and the rest comes after it
unfoldable pub Takes : {F A : Type 0} → Grammar F A → List ℕ → A → List ℕ → Type 0
Takes (give y) bytes x rest = (x ≡ y) × (rest ≡ bytes)
Takes (here f) bytes x rest = Takes (f (length bytes)) bytes x rest
Takes (item size after short f) bytes x rest = (front : List ℕ) × (more : List ℕ) × (bytes ≡ front ++ more) × (length front ≡ size) × (after ≤ length more) × Takes (f front) more x rest
Takes (check c e g) bytes x rest = c.Holds × Takes g bytes x rest

-- the first item or check that fails does so
unfoldable pub Stops : {F A : Type 0} → Grammar F A → List ℕ → F → Type 0
Stops (give y) bytes e = ⊥
Stops (here f) bytes e = Stops (f (length bytes)) bytes e
Stops (item size after short f) bytes e =
    ((length bytes < size + after) × (e ≡ short (length bytes))) ⊎ ((front : List ℕ) × (more : List ℕ) × (bytes ≡ front ++ more) × (length front ≡ size) × (after ≤ length more) × Stops (f front) more e)
Stops (check c fault g) bytes e = ((c.Holds → ⊥) × (e ≡ fault)) ⊎ (c.Holds × Stops g bytes e)

-- a number of this width, its high byte first
abbrev pub number : {F : Type 0} → ℕ → (ℕ → F) → Width → Grammar F ℕ
number after short w = item (byte_len w) after short (λ bytes. give (from_be_bytes w bytes))

-- a run of n bytes
abbrev pub run : {F : Type 0} → ℕ → (ℕ → F) → ℕ → Grammar F (List ℕ)
run after short n = item n after short (λ bytes. give bytes)

-- n of them
unfoldable pub times : {F A : Type 0} → ℕ → Grammar F A → Grammar F (Unit {0})
times zero g = give tt
times (suc n) g = g >>= λ x. times n g

-- a table: the number of its entries, and then they
abbrev pub table : {F A : Type 0} → ℕ → (ℕ → F) → Width → Grammar F A → Grammar F ℕ
table after short w g = number after short w >>= λ n. times n g >>= λ all. give n
