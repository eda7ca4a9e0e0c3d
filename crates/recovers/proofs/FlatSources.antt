-- Flat sources are such as come back: their statements are calls and assignments of one value that begin with a name, and they have room.
use Rattle.std.proofs.Common.{List, [], ◌≡◌, ℕ, ◌≤◌, true, false, refl, ap, arith, if◌then◌else◌}
use Rattle.lua_num.specs.Bytes.{Text}
use Rattle.lua_tree.specs.Syntax as syntax
use Rattle.lua_tree.specs.Syntax.{Expression, Expressions, Statement, Statements, argument_list, assignment, call_expression, call_statement, false_literal, name_expression, nil_literal, no_expressions, no_statements, number_literal, text_literal, true_literal}
use Rattle.lua_tree.specs.WellFormed.{formed_expression, formed_expressions, formed_statement, formed_statements}
use Rattle.scheme.specs.Shapes.{are_flat, are_simple, is_bare_name, is_flat_statement, is_simple}
use Rattle.scheme_order.specs.Ordered.{ordered_block, ordered_statement}
use Rattle.scheme_order.specs.Turned.{with_declared}
use Rattle.same_flow.specs.Blocks.{StatementHolds, StatementsHold}
use Rattle.same_flow.specs.Space.{around_body, flow_space, has_block, has_blocks, space_of_expression, space_of_expressions, space_of_statement, space_of_statements}
use Rattle.reads_back.specs.Flows.{IsFlowBody, IsFlowPartBy}
use Rattle.reads_back.specs.Straight.{AllHaveCoresBy, HasCoreBy}
use Rattle.reads_back.proofs.Tests.{both_hold, first_of_both, not_so, second_of_both}
use Rattle.recovers.specs.Found.{FlatSourcesAreFlow}

-- ---- simple expressions

simple_has_core : (e : Expression) → is_simple e ≡ true → formed_expression e ≡ true → HasCoreBy (IsFlowBody 0) e
simple_has_core (nil_literal line) simple formed = tt
simple_has_core (true_literal line) simple formed = tt
simple_has_core (false_literal line) simple formed = tt
simple_has_core (number_literal line n) simple formed = formed
simple_has_core (text_literal line text) simple formed = tt
simple_has_core (name_expression line text) simple formed = formed
simple_has_core e simple formed = not_so simple

all_have_cores : (es : Expressions) → are_simple es ≡ true → formed_expressions es ≡ true → AllHaveCoresBy (IsFlowBody 0) es
all_have_cores no_expressions simple formed = tt
all_have_cores (syntax.expression e rest) simple formed =
    (simple_has_core e (first_of_both _ _ simple) (first_of_both _ _ formed), all_have_cores rest (second_of_both _ _ simple) (second_of_both _ _ formed))

simple_room : (e : Expression) → is_simple e ≡ true → space_of_expression e ≤ 4
simple_room (nil_literal line) simple = omega arith
simple_room (true_literal line) simple = omega arith
simple_room (false_literal line) simple = omega arith
simple_room (number_literal line n) simple = omega arith
simple_room (text_literal line text) simple = omega arith
simple_room (name_expression line text) simple = omega arith
simple_room e simple = not_so simple

all_room : (es : Expressions) → are_simple es ≡ true → space_of_expressions es ≤ 4
all_room no_expressions simple = omega arith
all_room (syntax.expression e rest) simple = omega (arith, simple_room e (first_of_both _ _ simple), all_room rest (second_of_both _ _ simple))

-- ---- statements

-- a call or an assignment of one value, with room
record IsLowAct (s : Statement) : Type 0 where
  holds : StatementHolds (IsFlowPartBy (IsFlowBody 0)) false s
  ordered : (own : List Text) → ordered_statement own s ≡ true
  room : space_of_statement s ≤ 5
  alone : has_block s ≡ false

call_is_low : (line on_line : ℕ) (on : Expression) (es : Expressions) → is_bare_name on ≡ true → are_simple es ≡ true → formed_statement (call_statement (call_expression line on (argument_list es) on_line)) ≡ true →
    IsLowAct (call_statement (call_expression line on (argument_list es) on_line))
call_is_low line on_line (name_expression at text) es named simple formed = record {
  holds = (refl, (first_of_both _ _ formed, all_have_cores es simple (second_of_both _ _ (second_of_both _ _ formed))));
  ordered = λ own. refl;
  room = omega (arith, all_room es simple);
  alone = refl;
}
call_is_low line on_line on es named simple formed = not_so named

assignment_is_low : (target e : Expression) → is_bare_name target ≡ true → is_simple e ≡ true → formed_statement (assignment (syntax.expression target no_expressions) (syntax.expression e no_expressions)) ≡ true →
    IsLowAct (assignment (syntax.expression target no_expressions) (syntax.expression e no_expressions))
assignment_is_low (name_expression line text) e named simple formed = record {
  holds = record { some = refl; targets = (first_of_both _ _ (first_of_both _ _ formed), tt); given = refl; values = (simple_has_core e simple (first_of_both _ _ (second_of_both _ _ formed)), tt) };
  ordered = λ own. refl;
  room = omega (arith, simple_room e simple);
  alone = refl;
}
assignment_is_low target e named simple formed = not_so named

flat_is_low : (s : Statement) → is_flat_statement s ≡ true → formed_statement s ≡ true → IsLowAct s
flat_is_low (assignment (syntax.expression target no_expressions) (syntax.expression e no_expressions)) flat formed = assignment_is_low target e (first_of_both _ _ flat) (second_of_both _ _ flat) formed
flat_is_low (call_statement (call_expression line on (argument_list es) on_line)) flat formed = call_is_low line on_line on es (first_of_both _ _ flat) (second_of_both _ _ flat) formed
flat_is_low s flat formed = not_so flat

-- ---- blocks

record IsLowBlock (block : Statements) : Type 0 where
  holds : StatementsHold (IsFlowPartBy (IsFlowBody 0)) false block
  ordered : (own : List Text) → ordered_block own block ≡ true
  room : space_of_statements block ≤ 6
  alone : has_blocks block ≡ false

block_is_low : (block : Statements) → are_flat block ≡ true → formed_statements block ≡ true → IsLowBlock block
block_is_low no_statements flat formed = record { holds = tt; ordered = λ own. refl; room = omega arith; alone = refl }
block_is_low (syntax.statement line semi s rest) flat formed =
    let low = flat_is_low s (first_of_both _ _ flat) (first_of_both _ _ formed) in
    let behind = block_is_low rest (second_of_both _ _ flat) (second_of_both _ _ (second_of_both _ _ formed)) in
    record {
      holds = (low.holds, behind.holds);
      ordered = λ own. both_hold _ _ (low.ordered own) (behind.ordered (with_declared own s));
      room = omega (arith, low.room, behind.room);
      alone = cc (low.alone, behind.alone);
    }

pub flat_are_flow : FlatSourcesAreFlow
flat_are_flow source well flat =
    let low = block_is_low source.body flat well.formed in
    let levels = space_of_statements source.body in
    let around : around_body source.body levels ≡ levels = ap (λ has. if has then flow_space source.body else levels) low.alone in
    (low.holds, low.ordered [], omega (arith, low.room, around))
