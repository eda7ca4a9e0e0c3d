use Rattle.std.proofs.Common.{length, ◌≤◌, [], ◌∷◌}
use Rattle.lua_tree.specs.Spelled.{names_phrase}
use Rattle.parser.specs.Marks.{kind_of_mark}
use Rattle.parser.specs.Loops.{names_with}
use Rattle.parser.specs.Finds.{Outcome, Leads}
use Rattle.parser.proofs.cursor.Cursor.names.Given as goal

-- whatever the rest answers, with these names before it the whole answers
abbrev pub invariant-loop-alloc : goal.invariant-loop-alloc
invariant-loop-alloc l = record {
  leads : (outcome : Outcome (names_phrase (kind_of_mark l.fn.mark))) → Leads (names_with (kind_of_mark l.fn.mark) l.names) l.self.line l.self.rest.now outcome →
      Leads (names_with (kind_of_mark l.fn.mark) (l.fn.first ∷ [])) l.fn.self.line l.fn.self.rest.now outcome;
  shorter : length l.self.rest.now ≤ length l.fn.self.rest.now;
}

abbrev pub decreases-loop-alloc : goal.decreases-loop-alloc
decreases-loop-alloc l = length l.self.rest.now
