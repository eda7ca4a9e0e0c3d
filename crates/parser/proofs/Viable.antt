-- What is read before a fault can be followed by others so that the whole is read.
use Rattle.std.proofs.Common.{◌≡◌, ℕ, List, [], ◌∷◌, ◌++◌, refl, subst, append-nil}
use Rattle.lua_tree.specs.Syntax.{Statements, no_statements}
use Rattle.lua_tree.specs.Spelled.{Phrase, block_phrase}
use Rattle.lua_tree.specs.declared.token.Token.{Token}
use Rattle.parser.specs.Program.{Goal, reads, main_chunk, block, semicolon, one_statement, if_of, while_of, do_of, for_of, repeat_of, function_of, local_of, return_of, break_of, numeric_of, generic_of, local_function_of, local_names_of, expression_statement, branches, step, method_name, values, results, targets, body, parameters, first_parameter, more_parameters, one_name, more_names_by, expressions_at, more_expressions_at, whole, climb, simple, prefix, suffix, function_value, table_of, paren_of, field_of, index_of, method_of, call_of, arguments, listed, fields, one_field, keyed_of, named_of, separator}
use Rattle.parser.specs.Runs.{Why, too_deep, done, fault, Runs, gives, looks, calls}
use Rattle.parser.proofs.Begins.{Begins, Took, taken, deeper_end}
use Rattle.parser.proofs.Completions.{stop_of, good_of, Ready, Opens, any_token, completes}
use Rattle.parser.proofs.CompletedExpressions.{body_full, open_parameters, open_first_parameter, open_more_parameters, open_one_name, open_expressions, open_more_expressions, open_whole, open_climb, open_simple, open_prefix, open_suffix, open_function_value, open_table, open_paren, open_field_of, open_index, open_method, open_call_of, open_arguments, open_listed, open_fields, open_one_field, open_keyed, open_named, open_separator}
use Rattle.parser.proofs.CompletedStatements.{open_main, open_block, open_semicolon, open_statement, open_if, open_while, open_do, open_for, open_numeric, open_generic, open_repeat, open_function, open_local, open_local_function, open_local_names, open_return, open_break, open_expression_statement, open_branches, open_step, open_method_name, open_values, open_results, open_targets, open_more_names}

-- each goal can be completed behind each of its tokens
all_open : (most : ℕ) (answer : Phrase) (goal : Goal answer) (before : ℕ) → Ready most goal → Opens most (stop_of goal) (good_of goal) (reads goal) before
all_open most answer main_chunk before ready = open_main most before
all_open most answer (block d) before ready = open_block most d before
all_open most answer semicolon before ready = open_semicolon most before
all_open most answer (one_statement d) before ready = open_statement most d before
all_open most answer (if_of d) before ready = open_if most d before
all_open most answer (while_of d) before ready = open_while most d before
all_open most answer (do_of d) before ready = open_do most d before
all_open most answer (for_of d) before ready = open_for most d before
all_open most answer (repeat_of d) before ready = open_repeat most d before
all_open most answer (function_of d) before ready = open_function most d before
all_open most answer (local_of d) before ready = open_local most d before
all_open most answer (return_of d) before ready = open_return most d before
all_open most answer (break_of d) before ready = open_break most d before
all_open most answer (numeric_of d name) before ready = open_numeric most d name before
all_open most answer (generic_of d name) before ready = open_generic most d name before ready
all_open most answer (local_function_of d) before ready = open_local_function most d before
all_open most answer (local_names_of d) before ready = open_local_names most d before
all_open most answer (expression_statement d) before ready = open_expression_statement most d before
all_open most answer (branches d) before ready = open_branches most d before
all_open most answer (step d) before ready = open_step most d before
all_open most answer method_name before ready = open_method_name most before
all_open most answer (values d) before ready = open_values most d before
all_open most answer (results d) before ready = open_results most d before
all_open most answer (targets d e) before ready = open_targets most d e before
all_open most answer (body d line) before ready = let r = body_full {most = most} {first = any_token} d line {before = before} refl in r.opens
all_open most answer parameters before ready = open_parameters most before
all_open most answer first_parameter before ready = open_first_parameter most before
all_open most answer more_parameters before ready = open_more_parameters most before
all_open most answer one_name before ready = open_one_name most before
all_open most answer (more_names_by kind) before ready = open_more_names most kind before
all_open most answer (expressions_at d) before ready = open_expressions most d before
all_open most answer (more_expressions_at d) before ready = open_more_expressions most d before
all_open most answer (whole d limit) before ready = open_whole most d limit before
all_open most answer (climb d limit start left) before ready = open_climb most d limit start left before
all_open most answer (simple d) before ready = open_simple most d before
all_open most answer (prefix d role) before ready = open_prefix most d role before
all_open most answer (suffix d role on) before ready = open_suffix most d role on before
all_open most answer (function_value d) before ready = open_function_value most d before
all_open most answer (table_of d) before ready = open_table most d before
all_open most answer (paren_of d role) before ready = open_paren most d role before
all_open most answer (field_of d on) before ready = open_field_of most d on before
all_open most answer (index_of d on) before ready = open_index most d on before
all_open most answer (method_of d role on) before ready = open_method most d role on before
all_open most answer (call_of d role on) before ready = open_call_of most d role on before
all_open most answer (arguments d needed) before ready = open_arguments most d needed before
all_open most answer (listed d) before ready = open_listed most d before
all_open most answer (fields d) before ready = open_fields most d before
all_open most answer (one_field d) before ready = open_one_field most d before
all_open most answer (keyed_of d) before ready = open_keyed most d before
all_open most answer (named_of d start name) before ready = open_named most d start name before
all_open most answer separator before ready = open_separator most before

-- tokens can be followed by others so that the whole is read
pub record CanEnd (most : ℕ) (front : List Token) : Type 0 where
  pub new : List Token
  pub meant : Statements
  pub last : ℕ
  pub run : Runs most block_phrase (reads main_chunk) 1 (front ++ new) (done meant last [])

can_end : {most : ℕ} {front : List Token} → Begins most block_phrase (reads main_chunk) 1 front → CanEnd most front
can_end {most} {front} a =
    let c = completes (stop_of main_chunk) (good_of main_chunk) (all_open most) a (all_open most block_phrase main_chunk 1 tt) in
    record { new = c.new; meant = c.meant; last = c.last; run = subst (λ x. Runs most block_phrase (reads main_chunk) 1 (front ++ x) (done c.meant c.last [])) (append-nil c.new) (c.run [] refl) }

took_can_end : (most : ℕ) (front : List Token) → Took most (reads main_chunk) 1 front → CanEnd most front
took_can_end most [] t = record { new = []; meant = no_statements; last = 1; run = calls (looks gives) (looks gives) }
took_can_end most (token ∷ front) t = can_end t

-- the tokens before a fault can be completed within the same depth
pub main_viable : {most : ℕ} {why : Why} {tokens rest : List Token} → Runs most block_phrase (reads main_chunk) 1 tokens (fault why rest) → (front : List Token) × (tokens ≡ front ++ rest) × CanEnd most front
main_viable {most} a = let t = taken a in (t.front, t.cut, took_can_end most t.front t.took)

-- and those up to one that was too deep within a greater depth
pub main_deeper : {most : ℕ} {token : Token} {tokens rest : List Token} → Runs most block_phrase (reads main_chunk) 1 tokens (fault too_deep (token ∷ rest)) → (front : List Token) × (tokens ≡ front ++ token ∷ rest) × (more : ℕ) × CanEnd more (front ++ token ∷ [])
main_deeper {token} {rest} a = let d = deeper_end a token rest refl in (d.front, d.cut, d.more, can_end d.begins)
