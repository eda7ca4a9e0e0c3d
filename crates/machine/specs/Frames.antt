-- To be believed. What the machine has, as what the rules have.
use Rattle.std.specs.Prelude.{List, map, Some}
use Rattle.lua_model.specs.declared.Value.{Value}
use Rattle.lua_model.specs.Datum.{Datum}
use Rattle.lua_heap.specs.State.{HeapState, datum, store_of}
use Rattle.rules.specs.State as rules
use Rattle.rules.specs.State.{State, Effect, Goes, Fails, Ends, at_pc, with_results}
use Rattle.rules.specs.Calls.{call}
use Rattle.machine.specs.declared.did.Landing.{Landing}
use Rattle.machine.specs.declared.did.OpenResults.{OpenResults}
use Rattle.machine.specs.declared.did.Did.{Did}

abbrev pub landing_of : Landing → rules.Landing
landing_of (Landing.Into a) = rules.into a
landing_of (Landing.Test a negated) = rules.test a negated
landing_of (Landing.Pairs a first count) = rules.pairs a first count
landing_of (Landing.Fixed a count) = rules.fixed a count
landing_of (Landing.Open a) = rules.open_at a
landing_of (Landing.Turn a count) = rules.turn a count
landing_of Landing.Nowhere = rules.nowhere

-- what these values of a heap are
abbrev pub data_of : HeapState → List Value → List Datum
data_of h vs = map (datum h) vs

-- a state with these registers in its running frame, and the tables and globals of this heap
abbrev pub showing : State → HeapState → List Value → State
showing m h registers = record m { top = record m.top { registers = data_of h registers }; store = store_of h m.store.hosts }

abbrev pub results_of : HeapState → OpenResults → rules.OpenResults
results_of h results = record { first = results.first; values = data_of h results.values }

-- what a word did, as its effect, in the state behind it
abbrev pub effect_of : HeapState → Did → State → Effect
effect_of h Did.Next m = Goes m
effect_of h (Did.Jumps pc) m = Goes (at_pc m pc)
effect_of h (Did.Opens results) m = Goes (with_results m (Some (results_of h results)))
effect_of h (Did.Calls landing f args) m = call (landing_of landing) m (datum h f) (data_of h args)
effect_of h (Did.Fails v) m = Fails m (datum h v)
effect_of h Did.Ends m = Ends m
