-- What is said of what was fetched.
use Rattle.std.specs.Prelude.{ℕ, List, Option, Some, None}
use Rattle.std.specs.Global.{Vec}
use Rattle.pv_report.specs.declared.pair.Fetched.{Fetched}
use Rattle.pv_report.specs.declared.status.Status.{Status}
use Rattle.pv_report.specs.Judging.{IsFetched, IsFetchedWithin}
use Rattle.pv_sections.specs.declared.certificate.TheConstants.{LONGEST_CERT}
use Rattle.pv_links.specs.declared.chain.TheConstants.{LONGEST_CHAIN}
use Rattle.pv_links.specs.Composed.{Composed, IsChainFor}
use Rattle.pv_links.specs.Ruled.{ChainRuled}

-- ---- of three files and two certificates

-- these are the bytes that were fetched
pub record AreContents (f g h i j : Fetched) (a b c x y : List ℕ) : Type 0 where
  pub first : IsFetched f a
  pub second : IsFetched g b
  pub third : IsFetched h c
  pub one : IsFetchedWithin LONGEST_CERT i x
  pub two : IsFetchedWithin LONGEST_CERT j y

abbrev pub ComposesFetched : Fetched → Fetched → Fetched → Fetched → Fetched → List ℕ → Status → Type 0
ComposesFetched first second third one two text s = (a b c x y : List ℕ) → AreContents first second third one two a b c x y → Composed a b c x y text s

-- the bytes, if any, are the chain of what was fetched
abbrev pub ChainsFetched : Fetched → Fetched → Fetched → Fetched → Fetched → Option (Vec ℕ) → Type 0
ChainsFetched first second third one two (Some bytes) = (a b c x y : List ℕ) → AreContents first second third one two a b c x y → IsChainFor a b c x y bytes.items
ChainsFetched first second third one two None = Unit {0}

-- ---- of two files and a chain

abbrev pub ChainRulesFetched : Fetched → Fetched → Fetched → List ℕ → Status → Type 0
ChainRulesFetched first second chain said s = (a c text : List ℕ) → IsFetched first a → IsFetched second c → IsFetchedWithin LONGEST_CHAIN chain text → ChainRuled a c text said s
