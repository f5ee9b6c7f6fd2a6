-- Flows, from the tests that the checker computes to the solutions of small flows and their runs.
mod Flows
mod Tests
mod Places
mod Evaluate
mod Shapes
mod Examples
mod Typed
mod Running
mod ExampleRuns
-- Methods.
mod Methods
