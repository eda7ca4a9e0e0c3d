-- A main chunk that is read is spelled by all tokens and is well formed, within the depth.
use Rattle.std.proofs.Common.{◌≡◌, ℕ, ◌≤◌, true, List, [], subst, arith}
use Rattle.lua_tree.specs.Syntax.{Statements}
use Rattle.lua_tree.specs.Spelled.{Phrase, block_phrase, block_parts, Meant, Spelled}
use Rattle.lua_tree.specs.WellFormed.{formed_statements, depth_of_statements}
use Rattle.lua_tree.specs.declared.token.Token.{Token}
use Rattle.parser.specs.Program.{Goal, main_chunk, block, semicolon, one_statement, if_of, while_of, do_of, for_of, repeat_of, function_of, local_of, return_of, break_of, numeric_of, generic_of, local_function_of, local_names_of, expression_statement, branches, step, method_name, values, results, targets, body, parameters, first_parameter, more_parameters, one_name, more_names_by, expressions_at, more_expressions_at, whole, climb, simple, prefix, suffix, function_value, table_of, paren_of, field_of, index_of, method_of, call_of, arguments, listed, fields, one_field, keyed_of, named_of, separator, reads}
use Rattle.parser.specs.Runs.{Runs, done}
use Rattle.parser.proofs.Posts.{Good, Post, run_holds}
use Rattle.parser.proofs.SoundExpressions.{good_whole, good_climb, good_simple, good_function_value, good_table_of}
use Rattle.parser.proofs.SoundPrefixes.{good_prefix, good_suffix, good_paren_of, good_field_of, good_index_of, good_method_of, good_call_of, good_arguments}
use Rattle.parser.proofs.SoundLists.{good_method_name, good_values, good_results, good_body, good_parameters, good_first_parameter, good_more_parameters, good_one_name, good_more_names_by, good_expressions_at, good_more_expressions_at, good_listed, good_fields, good_one_field, good_keyed_of, good_named_of, good_separator}
use Rattle.parser.proofs.SoundStatements.{good_one_statement, good_if_of, good_while_of, good_do_of, good_for_of, good_repeat_of, good_function_of, good_local_of, good_return_of, good_break_of, good_numeric_of, good_generic_of, good_local_function_of, good_local_names_of, good_expression_statement, good_branches, good_step, good_targets}
use Rattle.parser.proofs.SoundBlocks.{good_main_chunk, good_block, good_semicolon}

good : (most : ℕ) (answer : Phrase) (goal : Goal answer) → Good most goal
good most _ main_chunk = good_main_chunk most
good most _ (block depth) = good_block most depth
good most _ semicolon = good_semicolon most
good most _ (one_statement depth) = good_one_statement most depth
good most _ (if_of depth) = good_if_of most depth
good most _ (while_of depth) = good_while_of most depth
good most _ (do_of depth) = good_do_of most depth
good most _ (for_of depth) = good_for_of most depth
good most _ (repeat_of depth) = good_repeat_of most depth
good most _ (function_of depth) = good_function_of most depth
good most _ (local_of depth) = good_local_of most depth
good most _ (return_of depth) = good_return_of most depth
good most _ (break_of depth) = good_break_of most depth
good most _ (numeric_of depth name) = good_numeric_of most depth name
good most _ (generic_of depth name) = good_generic_of most depth name
good most _ (local_function_of depth) = good_local_function_of most depth
good most _ (local_names_of depth) = good_local_names_of most depth
good most _ (expression_statement depth) = good_expression_statement most depth
good most _ (branches depth) = good_branches most depth
good most _ (step depth) = good_step most depth
good most _ method_name = good_method_name most
good most _ (values depth) = good_values most depth
good most _ (results depth) = good_results most depth
good most _ (targets depth e) = good_targets most depth e
good most _ (body depth line) = good_body most depth line
good most _ parameters = good_parameters most
good most _ first_parameter = good_first_parameter most
good most _ more_parameters = good_more_parameters most
good most _ one_name = good_one_name most
good most _ (more_names_by mark) = good_more_names_by most mark
good most _ (expressions_at depth) = good_expressions_at most depth
good most _ (more_expressions_at depth) = good_more_expressions_at most depth
good most _ (whole depth limit) = good_whole most depth limit
good most _ (climb depth limit start left) = good_climb most depth limit start left
good most _ (simple depth) = good_simple most depth
good most _ (prefix depth role) = good_prefix most depth role
good most _ (suffix depth role on) = good_suffix most depth role on
good most _ (function_value depth) = good_function_value most depth
good most _ (table_of depth) = good_table_of most depth
good most _ (paren_of depth role) = good_paren_of most depth role
good most _ (field_of depth on) = good_field_of most depth on
good most _ (index_of depth on) = good_index_of most depth on
good most _ (method_of depth role on) = good_method_of most depth role on
good most _ (call_of depth role on) = good_call_of most depth role on
good most _ (arguments depth needed) = good_arguments most depth needed
good most _ (listed depth) = good_listed most depth
good most _ (fields depth) = good_fields most depth
good most _ (one_field depth) = good_one_field most depth
good most _ (keyed_of depth) = good_keyed_of most depth
good most _ (named_of depth start name) = good_named_of most depth start name
good most _ separator = good_separator most

-- what a run of a goal gives
pub sound : {most : ℕ} {answer : Phrase} {before last : ℕ} {tokens rest : List Token} {meant : Meant answer} (goal : Goal answer) →
    Runs most answer (reads goal) before tokens (done meant last rest) → Post most goal before tokens meant last rest
sound {most} {answer} {before} {tokens} goal run = run_holds (good most) run (Post most goal before tokens) (good most answer goal before tokens)

pub record MainSound (most : ℕ) (tokens : List Token) (meant : Statements) (last : ℕ) (rest : List Token) : Type 0 where
  pub ended : rest ≡ []
  pub spelled : Spelled (block_parts meant) 1 tokens last []
  pub formed : formed_statements meant ≡ true
  pub shallow : depth_of_statements meant ≤ most

pub main_sound : {most last : ℕ} {tokens rest : List Token} {meant : Statements} → Runs most block_phrase (reads main_chunk) 1 tokens (done meant last rest) → MainSound most tokens meant last rest
main_sound {last} {tokens} {meant} run =
    let chunk = sound main_chunk run in
    let b = chunk.block in
    record {
      ended = chunk.ended;
      spelled = subst (λ x. Spelled (block_parts meant) 1 tokens last x) chunk.ended b.spelled;
      formed = b.formed;
      shallow = let s = b.shallow in omega arith;
    }
