-- A source that is formed, scoped, plain and ordered has such statements, and such functions in them at any depth, as come back from its chunk.
use Rattle.std.proofs.Common.{◌≡◌, ℕ, zero, suc, Bool, true, false, List, [], ◌∷◌, ◌++◌, refl, sym, ◌∙◌, arith}
use Rattle.std.specs.Prelude.{is_some}
use Rattle.lua_num.specs.Bytes.{Text}
use Rattle.lua_tree.specs.Names.{are_names}
use Rattle.lua_tree.specs.Outline.{Place, beginning, statements_part, statement_part, branches_part, otherwise_part, step_part, path_part, declares, all_params, in_function, with_locals}
use Rattle.lua_tree.specs.Scoping.{Scoped}
use Rattle.lua_tree.specs.Syntax as syntax
use Rattle.lua_tree.specs.Syntax.{Statements, no_statements, Statement, assignment, call_statement, do_block, while_loop, repeat_loop, if_statement, numeric_for, generic_for, function_statement, local_function, local_statement, return_statement, break_statement, Branches, no_branches, branch, Otherwise, no_otherwise, otherwise, ForStep, no_step, by_step, FunctionBody, function_body, Expressions, no_expressions, Expression, index_expression, field_expression, Source}
use Rattle.lua_tree.specs.WellFormed.{depth_of_statements, depth_of_statement, depth_of_branches, depth_of_otherwise, depth_of_step, formed_statements, formed_statement, formed_branches, formed_otherwise, formed_step, WellFormed}
use Rattle.scheme.specs.Shapes.{plain_statements, plain_statement, plain_branches, plain_otherwise, plain_step, Plain}
use Rattle.scheme_order.specs.AllOrdered.{all_ordered_block, all_ordered_branches, all_ordered_otherwise, all_ordered_statement, all_ordered_step, IsAllOrdered}
use Rattle.scheme_order.specs.Ordered.{ordered_block}
use Rattle.scheme_order.specs.Turned.{with_all_declared, with_declared}
use Rattle.scheme_stands.proofs.Counting.{statement_counted, branches_closed, expression_closed}
use Rattle.same_flow.specs.Blocks.{BranchesHold, OtherwiseHolds, StatementHolds, StatementsHold}
use Rattle.same_flow.specs.Laid.{head_values}
use Rattle.reads_back.specs.Assignments.{with_self}
use Rattle.reads_back.specs.Flows.{IsFlowBody, IsFlowPartBy}
use Rattle.reads_back.specs.Straight.{AllHaveCoresBy, HasCoreBy}
use Rattle.recovers.proofs.BreaksInLoops.{breaks_in_loops}
use Rattle.recovers.proofs.PlainGives.{Gives, at_once, ◌and◌, so, deeper, also, keeping, knowing, later, earlier, in_turn, headed}
use Rattle.recovers.proofs.PlainValues.{Known, value_holds, values_hold, targets_hold, test_holds}
use Rattle.scheme_order.proofs.OrderedBlocks.{ordered_of_all}

module _ (P : FunctionBody → Type 0) {limit : ℕ} (known : Known P limit) where
  -- ---- statements

  -- the step of a loop that counts, if there is one
  abbrev HasStep : ForStep → Type 0
  HasStep no_step = Unit {0}
  HasStep (by_step e) = HasCoreBy P e

  step_holds : (own : List Text) (by : ForStep) (place : Place) → Gives limit (depth_of_step by) (formed_step by) (plain_step by) (all_ordered_step own by) (step_part by place).marks (HasStep by)
  step_holds own no_step place = at_once tt
  step_holds own (by_step e) place = value_holds P known own e place

  -- the values of such a loop
  heads_have : (first last : Expression) (by : ForStep) → HasCoreBy P first × HasCoreBy P last × HasStep by → AllHaveCoresBy P (head_values first last by)
  heads_have first last no_step have = (have.0, (have.1, tt))
  heads_have first last (by_step e) have = (have.0, (have.1, (have.2, tt)))

  mutual
    -- at a place that is in a loop, or is not
    pub block_holds : (own : List Text) (block : Statements) (looped : Bool) (place : Place) → place.looped ≡ looped →
        Gives limit (depth_of_statements block) (formed_statements block) (plain_statements block) (all_ordered_block own block) (statements_part block place).marks
        (StatementsHold (IsFlowPartBy P) looped block)
    block_holds own no_statements looped place same = at_once tt
    block_holds own (syntax.statement line semi s rest) looped place same =
        deeper (statement_holds own line s looped place same) and also _ (block_holds (with_declared own s) rest looped (statement_part line s place).next ((statement_counted line s place).looped ∙ same))

    statement_holds : (own : List Text) (line : ℕ) (s : Statement) (looped : Bool) (place : Place) → place.looped ≡ looped →
        Gives limit (depth_of_statement s) (formed_statement s) (plain_statement s) (all_ordered_statement own s) (statement_part line s place).marks
        (StatementHolds (IsFlowPartBy P) looped s)
    statement_holds own line (assignment targets es) looped place same =
        so (λ is. record { some = is.0; targets = is.1.0; given = is.1.1.0; values = is.1.1.1 })
        (keeping (knowing (λ are. targets_hold P known own targets place are and keeping (values_hold P known own es _))))
    statement_holds own line (call_statement e) looped place same = keeping (value_holds P known own e place)
    statement_holds own line (do_block block) looped place same = block_holds own block looped place same
    statement_holds own line (while_loop e block) looped place same = test_holds P known own e place and block_holds own block true _ refl
    statement_holds own line (repeat_loop block e) looped place same = block_holds own block true _ refl and test_holds P known (with_all_declared own block) e _
    statement_holds own line (if_statement branches last) looped place same =
        also _ (branches_hold own branches looped place same and otherwise_holds own last looped (branches_part branches place).next ((branches_closed branches place).counted.looped ∙ same))
    statement_holds own line (numeric_for name first last by block) looped place same =
        later (declares line 3 (name ∷ []) place).marks (also _ (so (λ is. (heads_have first last by is.0, is.1))
        (headed (value_holds P known own first _) (value_holds P known own last _) (step_holds own by _) (block_holds (name ∷ own) block true _ refl))))
    statement_holds own line (generic_for names es block) looped place same =
        later (declares line 3 names place).marks (also _ (also _ (values_hold P known own es _ and block_holds (names ++ own) block true _ refl)))
    statement_holds own line (function_statement path method body) looped place same =
        later (path_part line path place).marks (also _ (also _ (known (is_some method) body _)))
    statement_holds own line (local_function name body) looped place same = later (declares line 0 (name ∷ []) place).marks (keeping (known false body _))
    statement_holds own line (local_statement names es) looped place same = later (declares line 0 names place).marks (keeping (earlier [] (values_hold P known own es _)))
    statement_holds own line (return_statement es) looped place same = values_hold P known own es place
    statement_holds own line break_statement looped place same = record { holds = λ shallow f p o breaks. sym same ∙ breaks.0 }

    branches_hold : (own : List Text) (branches : Branches) (looped : Bool) (place : Place) → place.looped ≡ looped →
        Gives limit (depth_of_branches branches) (formed_branches branches) (plain_branches branches) (all_ordered_branches own branches) (branches_part branches place).marks
        (BranchesHold (IsFlowPartBy P) looped branches)
    branches_hold own no_branches looped place same = at_once tt
    branches_hold own (branch e block rest) looped place same =
        let behind = (expression_closed e place).counted.looped ∙ same in
        in_turn (test_holds P known own e place) (block_holds own block looped _ behind) (branches_hold own rest looped _ behind)

    otherwise_holds : (own : List Text) (last : Otherwise) (looped : Bool) (place : Place) → place.looped ≡ looped →
        Gives limit (depth_of_otherwise last) (formed_otherwise last) (plain_otherwise last) (all_ordered_otherwise own last) (otherwise_part last place).marks
        (OtherwiseHolds (IsFlowPartBy P) looped last)
    otherwise_holds own no_otherwise looped place same = at_once tt
    otherwise_holds own (otherwise block) looped place same = block_holds own block looped place same

-- ---- functions

-- a function, or a method with its `self`
with_parameters : (deep : ℕ) (method : Bool) (params : List Text) (vararg : Bool) (block : Statements) (first last : ℕ) → all_ordered_block (all_params method params) block ≡ true →
    StatementsHold (IsFlowPartBy (IsFlowBody deep)) false block → IsFlowBody (suc deep) (with_self method (function_body params vararg block first last))
with_parameters deep true params vararg block first last ordered holds = (holds, ordered_of_all (all_params true params) block ordered)
with_parameters deep false params vararg block first last ordered holds = (holds, ordered_of_all params block ordered)

-- those that lie less deep than so many levels
bodies_hold : (deep : ℕ) → Known (IsFlowBody deep) deep
bodies_hold zero method body place = record { holds = λ shallow f p o breaks. absurd (omega arith) }
bodies_hold (suc deep) method (function_body params vararg block first last) place = record {
  holds = λ shallow f p o breaks.
      let names = all_params method params in
      let inside = in_function vararg place in
      let begun = declares first 0 names inside in
      let place' = with_locals 0 names inside.declarations begun.next in
      with_parameters deep method params vararg block first last o
      ((later begun.marks (also (are_names params) (block_holds (IsFlowBody deep) (bodies_hold deep) names block false place' refl))).holds (omega arith) f p o breaks);
}

-- ---- sources

-- the whole, in which no function lies deeper than the levels that it has at most
pub plain_holds : (source : Source) → WellFormed source → Scoped source → Plain source → IsAllOrdered source →
    StatementsHold (IsFlowPartBy (IsFlowBody 200)) false source.body
plain_holds source well scoped plain ordered =
    (block_holds (IsFlowBody 200) (bodies_hold 200) [] source.body false beginning refl).holds well.shallow well.formed plain ordered (breaks_in_loops source scoped)

-- and no local that is compared in it changes places
pub ordered_holds : (source : Source) → IsAllOrdered source → ordered_block [] source.body ≡ true
ordered_holds source ordered = ordered_of_all [] source.body ordered
