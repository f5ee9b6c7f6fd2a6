-- The exits of instructions: where each may leave the block that it ends, in the order in which its tests ask.
use Rattle.std.specs.Prelude.{ℕ, suc, Bool, true, false, List, [], ◌∷◌, ◌++◌, map}
use Rattle.pv_frame.specs.declared.action.Comparison.{Comparison}
use Rattle.pv_frame.specs.declared.action.Comparison.TheVariants as comparison
use Rattle.pv_frame.specs.declared.action.Test.{Test}
use Rattle.pv_frame.specs.declared.action.Test.TheVariants as test
use Rattle.pv_frame.specs.declared.action.Action.{Action}
use Rattle.pv_frame.specs.declared.action.Action.TheVariants as act

-- to the instruction at a place, or out of the method
pub data Departure : Type 0 where
  Goes : (place : ℕ) → Departure
  Returns : Departure
  Throws : Departure

-- A branch asks whether two values are equal or one is less than the other. `ne`, `ge` and `le` hold where `eq`, `lt` and `gt` don't, so that
-- these branch where the answer is no.
abbrev pub branches_on_no_of : Comparison → Bool
branches_on_no_of comparison.Eq = false
branches_on_no_of comparison.Ne = true
branches_on_no_of comparison.Lt = false
branches_on_no_of comparison.Ge = true
branches_on_no_of comparison.Gt = false
branches_on_no_of comparison.Le = true

abbrev pub branches_on_no : Test → Bool
branches_on_no (test.Zero c) = branches_on_no_of c
branches_on_no (test.Ints c) = branches_on_no_of c
branches_on_no test.Same = false
branches_on_no test.Other = true
branches_on_no test.Null = false
branches_on_no test.NonNull = true

-- the exit of yes, and then that of no
abbrev pub branched : Bool → ℕ → ℕ → List Departure
branched false target next = Goes target ∷ Goes next ∷ []
branched true target next = Goes next ∷ Goes target ∷ []

-- The exits of the instruction at place k. Each but the last is that of yes of a test, and the last is that of no of the last test:
-- a switch asks for each key in turn; a division whether the divisor is 0; an access whether the reference is null, then, to an
-- element, whether the index is negative, and whether it is less than the length; a store of a reference into an array whether the
-- array is null, whether the index is negative, whether it isn't less than the length, whether the reference is null, and whether it fits;
-- a cast and a type test whether the reference is null, and whether the object is of the class, and a type test goes on from each with
-- the number that it gives; a call whether it threw nothing; a call on a receiver whether that is null, and then whether the callee threw
-- nothing; a throw whether the reference is null (JVMS 6.5).
abbrev pub departures : ℕ → Action → List Departure
departures k (act.Branch t target) = branched (branches_on_no t) target (suc k)
departures k (act.Jump target) = Goes target ∷ []
departures k (act.Switch default cases) = map (λ c. Goes c.target) cases ++ Goes default ∷ []
departures k (act.Give s) = Returns ∷ []
departures k act.Throw = Throws ∷ Throws ∷ []
departures k (act.Divide o) = Throws ∷ Goes (suc k) ∷ []
departures k (act.GetField t s) = Throws ∷ Goes (suc k) ∷ []
departures k (act.PutField t s) = Throws ∷ Goes (suc k) ∷ []
departures k act.Length = Throws ∷ Goes (suc k) ∷ []
departures k (act.LoadElement e) = Throws ∷ Throws ∷ Goes (suc k) ∷ Throws ∷ []
departures k (act.StoreElement e) = Throws ∷ Throws ∷ Goes (suc k) ∷ Throws ∷ []
departures k act.StoreRef = Throws ∷ Throws ∷ Throws ∷ Goes (suc k) ∷ Goes (suc k) ∷ Throws ∷ []
departures k (act.Cast class) = Goes (suc k) ∷ Goes (suc k) ∷ Throws ∷ []
departures k (act.InstanceOf class) = Goes (suc k) ∷ Goes (suc k) ∷ Goes (suc k) ∷ []
departures k (act.Call d s) = Goes (suc k) ∷ Throws ∷ []
departures k (act.CallOn d s) = Throws ∷ Goes (suc k) ∷ Throws ∷ []
departures k _ = Goes (suc k) ∷ []

-- the instruction branches, ends the method, can throw or has a value that tests choose
abbrev pub ends_block : Action → Bool
ends_block (act.Branch t target) = true
ends_block (act.Jump target) = true
ends_block (act.Switch default cases) = true
ends_block (act.Give s) = true
ends_block act.Throw = true
ends_block (act.Divide o) = true
ends_block (act.GetField t s) = true
ends_block (act.PutField t s) = true
ends_block act.Length = true
ends_block (act.LoadElement e) = true
ends_block (act.StoreElement e) = true
ends_block act.StoreRef = true
ends_block (act.Cast class) = true
ends_block (act.InstanceOf class) = true
ends_block (act.Call d s) = true
ends_block (act.CallOn d s) = true
ends_block _ = false

-- the places that a branch or a switch names
abbrev pub targets : Action → List ℕ
targets (act.Branch t target) = target ∷ []
targets (act.Jump target) = target ∷ []
targets (act.Switch default cases) = default ∷ map (λ c. c.target) cases
targets _ = []
