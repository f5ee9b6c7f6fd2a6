-- Laws of the text of chains.
use Rattle.std.specs.Prelude.{◌≡◌, ℕ, List}
use Rattle.pv_chain.specs.declared.chain.Chain.{Chain}
use Rattle.pv_chain.specs.declared.chain.ChainFault.{ChainFault}
use Rattle.pv_chain.specs.Chains.{Fits, spelled}
use Rattle.pv_chain.specs.BadChains.{BadChain}

-- no text is the spelling of two chains
abbrev pub SpelledOnce : Type 0
SpelledOnce = (c d : Chain) → Fits c → Fits d → spelled c ≡ spelled d → c ≡ d

-- a text has one fault at most, and the spelling of a chain has none
pub record FaultsOnce : Type 0 where
  pub one : (text : List ℕ) (e f : ChainFault) → BadChain text e → BadChain text f → e ≡ f
  pub none : (c : Chain) (f : ChainFault) → Fits c → BadChain (spelled c) f → ⊥
