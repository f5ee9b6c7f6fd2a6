-- What is known of the loops while they are found, header by header in the order of a reduction.
use Rattle.std.specs.Prelude.{◌≡◌, ◌≢◌, ℕ, ◌<◌, ◌≤◌, ◌+◌, List, [], ◌∷◌, length, slice_index, slice_index_or, slice_get, Option, Some, None, ◌⊎◌, nat_eq}
use Rattle.std.specs.List.{Contains, IsDistinct}
use Rattle.std.specs.List.Sorted.{IsStrictlyIncreasing}
use Rattle.pv_loops.specs.declared.forest.Loop.{Loop}
use Rattle.pv_loops.specs.declared.nest.Nest.{Nest}
use Rattle.pv_loops.specs.declared.headers.Headers.{Headers}
use Rattle.pv_loops.specs.Bodies.{IsHead, InBody, AreBody}

-- all headers, ascending, and the place of each among them
pub record AreHeaders (sources : List (List ℕ)) (place : List ℕ) (headers : Headers) : Type 0 where
  pub ascend : IsStrictlyIncreasing headers.nodes.items
  pub heads : (k : ℕ) → k < length headers.nodes.items → IsHead sources place (slice_index headers.nodes.items k)
  pub size : length headers.at.items ≡ length sources
  pub found : (x i : ℕ) → slice_index_or headers.at.items x None ≡ Some i → (i < length headers.nodes.items) × (slice_index headers.nodes.items i ≡ x)
  pub all : (x : ℕ) → IsHead sources place x → slice_index_or headers.at.items x None ≢ None

-- of the other headers whose bodies have h, the latest
pub record IsNext (sources : List (List ℕ)) (place : List ℕ) (h outer : ℕ) : Type 0 where
  pub head : IsHead sources place outer
  pub body : InBody sources place outer h
  pub other : outer ≢ h
  pub latest : (z : ℕ) → IsHead sources place z → InBody sources place z h → z ≢ h → slice_index place z ≤ slice_index place outer

-- no other header has h in its body
abbrev pub IsAlone : List (List ℕ) → List ℕ → ℕ → Type 0
IsAlone sources place h = (z : ℕ) → IsHead sources place z → InBody sources place z h → z ≡ h

-- the headers around h, from the next one to the outermost
pub data Encloses (sources : List (List ℕ)) (place : List ℕ) : ℕ → List ℕ → Type 0 where
  alone : (h : ℕ) → IsHead sources place h → IsAlone sources place h → Encloses sources place h []
  within : (h outer : ℕ) (around : List ℕ) → IsHead sources place h → IsNext sources place h outer → Encloses sources place outer around → Encloses sources place h (outer ∷ around)

-- the place of the next header around h among the headers
abbrev pub IsParent : List (List ℕ) → List ℕ → List ℕ → ℕ → Option ℕ → Type 0
IsParent sources place headers h None = IsAlone sources place h
IsParent sources place headers h (Some p) = (p < length headers) × IsNext sources place h (slice_index headers p)

-- the loop of its header, with at most `most` headers around it, its own included
pub record IsFilled (sources : List (List ℕ)) (place headers : List ℕ) (most : ℕ) (l : Loop) : Type 0 where
  pub body : AreBody sources place l.header l.members.items
  pub ascend : IsStrictlyIncreasing l.members.items
  pub parent : IsParent sources place headers l.header l.parent
  pub around : List ℕ
  pub outer : Encloses sources place l.header around
  pub depth : l.depth ≡ length around + 1
  pub shallow : l.depth ≤ most

-- of the headers before place n whose bodies have x, the latest
abbrev pub IsHomeBefore : List (List ℕ) → List ℕ → List ℕ → ℕ → ℕ → Option ℕ → Type 0
IsHomeBefore sources place headers n x None = (z : ℕ) → IsHead sources place z → slice_index place z < n → InBody sources place z x → ⊥
IsHomeBefore sources place headers n x (Some i) = (i < length headers) × (slice_index place (slice_index headers i) < n) × InBody sources place (slice_index headers i) x
    × ((z : ℕ) → IsHead sources place z → slice_index place z < n → InBody sources place z x → slice_index place z ≤ slice_index place (slice_index headers i))

-- a loop for each header, those of the headers before place n filled, and the homes of nodes in these
pub record IsNested (sources : List (List ℕ)) (place headers : List ℕ) (most n : ℕ) (f : Nest) : Type 0 where
  pub size : length f.loops.items ≡ length headers
  pub header : (i : ℕ) (l : Loop) → slice_get f.loops.items i ≡ Some l → l.header ≡ slice_index headers i
  pub homes : length f.home.items ≡ length sources
  pub home : (x : ℕ) → x < length sources → IsHomeBefore sources place headers n x (slice_index_or f.home.items x None)
  pub filled : (i : ℕ) (l : Loop) → slice_get f.loops.items i ≡ Some l → slice_index place l.header < n → IsFilled sources place headers most l

-- these nodes, each once, are those with the home i
pub record IsMarked (i : ℕ) (home : List (Option ℕ)) (members : List ℕ) : Type 0 where
  pub within : (x : ℕ) → Contains members x → x < length home
  pub marked : (x : ℕ) → Contains members x → slice_index_or home x None ≡ Some i
  pub only : (x : ℕ) → slice_index_or home x None ≡ Some i → Contains members x
  pub distinct : IsDistinct nat_eq members

-- the other homes are kept
pub record KeepsHomes (i : ℕ) (old new : List (Option ℕ)) : Type 0 where
  pub size : length new ≡ length old
  pub kept : (x : ℕ) → slice_index_or new x None ≢ Some i → slice_index_or new x None ≡ slice_index_or old x None

-- those of these nodes that aren't before h in the order are added
pub record AddsMembers (place : List ℕ) (h : ℕ) (nodes body added : List ℕ) : Type 0 where
  pub longer : length body ≤ length added
  pub kept : (k : ℕ) → k < length body → slice_index added k ≡ slice_index body k
  pub new : (x : ℕ) → Contains added x → Contains body x ⊎ Contains nodes x × (slice_index place h ≤ slice_index place x)
  pub all : (x : ℕ) → Contains nodes x → slice_index place h ≤ slice_index place x → Contains added x
