-- What read_chain answers.
use Rattle.std.specs.Prelude.{◌≡◌, ℕ, List, Result, Ok, Err}
use Rattle.pv_chain.specs.declared.chain.Chain.{Chain}
use Rattle.pv_chain.specs.declared.chain.ChainFault.{ChainFault}
use Rattle.pv_chain.specs.declared.chain.ChainFault.TheVariants as fault
use Rattle.pv_chain.specs.Chains.{Fits, spelled}
use Rattle.pv_chain.specs.BadChains.{BadChain}

-- what there is to answer of a text: the chain of which it is the spelling, or its fault
abbrev pub IsAnswer : List ℕ → Result Chain ChainFault → Type 0
IsAnswer text (Ok c) = Fits c × (text ≡ spelled c)
IsAnswer text (Err f) = BadChain text f

-- a fact, unless memory ran out
abbrev pub UnlessMemory : Result Chain ChainFault → Type 0 → Type 0
UnlessMemory (Err fault.Memory) P = Unit {0}
UnlessMemory result P = P

-- the answer is the chain, or the fault
abbrev pub Answers : List ℕ → Result Chain ChainFault → Type 0
Answers text result = UnlessMemory result (IsAnswer text result)

-- no other answer is right
abbrev pub Tells : List ℕ → Result Chain ChainFault → Type 0
Tells text result = (answer : Result Chain ChainFault) → IsAnswer text answer → UnlessMemory result (result ≡ answer)
