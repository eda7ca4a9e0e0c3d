use Rattle.std.proofs.Common.{length, ◌≤◌}
use Rattle.lua_tree.specs.Spelled.{parameters_phrase}
use Rattle.parser.specs.Program.{parameters, reads}
use Rattle.parser.specs.Loops.{parameters_with}
use Rattle.parser.specs.Finds.{Outcome, Leads}
use Rattle.parser.proofs.cursor.Cursor.parameters.Given as goal

-- whatever the rest answers, with these names before it the whole answers
abbrev pub invariant-loop-alloc : goal.invariant-loop-alloc
invariant-loop-alloc l = record {
  leads : (outcome : Outcome parameters_phrase) → Leads (parameters_with l.names) l.self.line l.self.rest.now outcome → Leads (reads parameters) l.fn.self.line l.fn.self.rest.now outcome;
  shorter : length l.self.rest.now ≤ length l.fn.self.rest.now;
}

abbrev pub decreases-loop-alloc : goal.decreases-loop-alloc
decreases-loop-alloc l = length l.self.rest.now
