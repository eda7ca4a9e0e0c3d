-- The depth of trees, computed: each place of a statement and an expression, and the limit of 200.
use Rattle.std.proofs.Common.{◌≡◌, ℕ, zero, suc, ◌+◌, ◌≤◌, List, [], ◌∷◌, refl, arith}
use Rattle.std.specs.Prelude.{codes, true, false, Option, None}
use Rattle.lua_tree.specs.declared.tree.BinaryOp.TheVariants.{Add, Concat}
use Rattle.lua_tree.specs.declared.tree.Separator.TheVariants.{Comma, Missing}
use Rattle.lua_tree.specs.Syntax.{Statements, no_statements, statement, assignment, call_statement, do_block, while_loop, repeat_loop, if_statement, numeric_for, generic_for, function_statement, local_function, local_statement, return_statement, break_statement, Branches, no_branches, branch, no_otherwise, otherwise, no_step, by_step, no_expressions, Expression, nil_literal, true_literal, false_literal, vararg_expression, text_literal, function_expression, index_expression, field_expression, call_expression, method_call, and_expression, or_expression, constructor, parenthesized, argument_list, text_argument, table_argument, no_fields, positional, named, keyed}
use Rattle.lua_tree.specs.Precedence.{left_binds}
use Rattle.lua_tree.specs.WellFormed.{formed_expression, depth_of_statements, depth_of_expression, is_formed, WellFormed}
use Rattle.lua_tree.proofs.TreeExamples.{source, alone, one, pair, var, a, number, call, binary, minus, body_of, assign, f_call}

-- an expression of depth 6, and a block of depth 7
abbrev deep : Expression
deep = parenthesized 1 (parenthesized 1 (parenthesized 1 (parenthesized 1 (parenthesized 1 (number 1)))))

abbrev deep_block : Statements
deep_block = alone (return_statement (one deep))

-- what holds nothing
leaves : depth_of_statements no_statements ≡ 0 × depth_of_statements (alone break_statement) ≡ 1 × depth_of_statements (alone (do_block no_statements)) ≡ 1 × depth_of_statements (alone (return_statement no_expressions)) ≡ 1 × depth_of_statements (alone (local_statement (codes "a" ∷ []) no_expressions)) ≡ 1 × depth_of_expression (nil_literal 1) ≡ 1 × depth_of_expression (true_literal 1) ≡ 1 × depth_of_expression (false_literal 1) ≡ 1 × depth_of_expression (vararg_expression 1) ≡ 1 × depth_of_expression (number 1) ≡ 1 × depth_of_expression (text_literal 1 (codes "s")) ≡ 1 × depth_of_expression (var "a") ≡ 1 × depth_of_expression (function_expression 1 (body_of no_statements)) ≡ 1 × depth_of_expression (constructor 1 no_fields) ≡ 1
leaves = (refl, refl, refl, refl, refl, refl, refl, refl, refl, refl, refl, refl, refl, refl)

-- each place of a statement: an expression is one deeper, and a block as well
places_of_statements : depth_of_statements (alone (assignment (pair a (index_expression 1 a deep)) (one a))) ≡ 8 × depth_of_statements (alone (assignment (one a) (pair a deep))) ≡ 7 × depth_of_statements (alone (call_statement (call a (one deep)))) ≡ 8 × depth_of_statements (alone (do_block deep_block)) ≡ 8 × depth_of_statements (alone (while_loop deep no_statements)) ≡ 7 × depth_of_statements (alone (while_loop a deep_block)) ≡ 8 × depth_of_statements (alone (repeat_loop deep_block a)) ≡ 8 × depth_of_statements (alone (repeat_loop no_statements deep)) ≡ 7 × depth_of_statements (alone (return_statement (pair a deep))) ≡ 7 × depth_of_statements (alone (local_statement (codes "a" ∷ []) (pair a deep))) ≡ 7 × depth_of_statements (statement 1 false f_call deep_block) ≡ 7
places_of_statements = (refl, refl, refl, refl, refl, refl, refl, refl, refl, refl, refl)

places_of_ifs : depth_of_statements (alone (if_statement (branch deep no_statements no_branches) no_otherwise)) ≡ 7 × depth_of_statements (alone (if_statement (branch a deep_block no_branches) no_otherwise)) ≡ 8 × depth_of_statements (alone (if_statement (branch a no_statements (branch deep no_statements no_branches)) no_otherwise)) ≡ 7 × depth_of_statements (alone (if_statement (branch a no_statements (branch a deep_block no_branches)) no_otherwise)) ≡ 8 × depth_of_statements (alone (if_statement (branch a no_statements no_branches) (otherwise deep_block))) ≡ 8
places_of_ifs = (refl, refl, refl, refl, refl)

places_of_fors : depth_of_statements (alone (numeric_for (codes "i") deep a no_step no_statements)) ≡ 7 × depth_of_statements (alone (numeric_for (codes "i") a deep no_step no_statements)) ≡ 7 × depth_of_statements (alone (numeric_for (codes "i") a a (by_step deep) no_statements)) ≡ 7 × depth_of_statements (alone (numeric_for (codes "i") a a no_step deep_block)) ≡ 8 × depth_of_statements (alone (generic_for (codes "i" ∷ []) (pair a deep) no_statements)) ≡ 7 × depth_of_statements (alone (generic_for (codes "i" ∷ []) (one a) deep_block)) ≡ 8
places_of_fors = (refl, refl, refl, refl, refl, refl)

-- a function of a statement counts as an expression that holds its block, and the path has no depth
places_of_functions : depth_of_statements (alone (function_statement (codes "f" ∷ []) None (body_of deep_block))) ≡ 9 × depth_of_statements (alone (local_function (codes "f") (body_of deep_block))) ≡ 9 × depth_of_statements (alone (return_statement (one (function_expression 1 (body_of deep_block))))) ≡ 9
places_of_functions = (refl, refl, refl)

path_has_no_depth : (path : List (List ℕ)) → (method : Option (List ℕ)) → depth_of_statements (alone (function_statement path method (body_of no_statements))) ≡ 2
path_has_no_depth path method = refl

-- each place of an expression
places_of_expressions : depth_of_expression (index_expression 1 deep a) ≡ 7 × depth_of_expression (index_expression 1 a deep) ≡ 7 × depth_of_expression (field_expression 1 deep (codes "y")) ≡ 7 × depth_of_expression (and_expression 1 deep a) ≡ 7 × depth_of_expression (and_expression 1 a deep) ≡ 7 × depth_of_expression (or_expression 1 deep a) ≡ 7 × depth_of_expression (or_expression 1 a deep) ≡ 7 × depth_of_expression (binary Add deep a) ≡ 7 × depth_of_expression (binary Add a deep) ≡ 7 × depth_of_expression (minus deep) ≡ 7 × depth_of_expression (parenthesized 1 deep) ≡ 7 × depth_of_expression (constructor 1 (positional a Comma (positional deep Missing no_fields))) ≡ 7 × depth_of_expression (constructor 1 (named (codes "y") deep Missing no_fields)) ≡ 7 × depth_of_expression (constructor 1 (keyed deep a Missing no_fields)) ≡ 7 × depth_of_expression (constructor 1 (keyed a deep Missing no_fields)) ≡ 7
places_of_expressions = (refl, refl, refl, refl, refl, refl, refl, refl, refl, refl, refl, refl, refl, refl, refl)

-- a constructor as the arguments of a call is no expression of its own
places_of_calls : depth_of_expression (call_expression 1 deep (argument_list no_expressions) 1) ≡ 7 × depth_of_expression (call_expression 1 a (argument_list (pair a deep)) 1) ≡ 7 × depth_of_expression (call_expression 1 a (table_argument (positional a Comma (positional deep Missing no_fields))) 1) ≡ 7 × depth_of_expression (call_expression 1 a (table_argument (named (codes "y") deep Missing no_fields)) 1) ≡ 7 × depth_of_expression (call_expression 1 a (table_argument (keyed deep a Missing no_fields)) 1) ≡ 7 × depth_of_expression (call_expression 1 a (table_argument (keyed a deep Missing no_fields)) 1) ≡ 7 × depth_of_expression (call_expression 1 a (argument_list (one (constructor 1 (positional deep Missing no_fields)))) 1) ≡ 8 × depth_of_expression (call_expression 1 a (text_argument (codes "s")) 1) ≡ 2 × depth_of_expression (method_call 1 deep (codes "m") (argument_list no_expressions) 1) ≡ 7 × depth_of_expression (method_call 1 a (codes "m") (argument_list (pair a deep)) 1) ≡ 7 × depth_of_expression (method_call 1 a (codes "m") (table_argument (positional deep Missing no_fields)) 1) ≡ 7 × depth_of_expression (method_call 1 a (codes "m") (text_argument (codes "s")) 1) ≡ 2
places_of_calls = (refl, refl, refl, refl, refl, refl, refl, refl, refl, refl, refl, refl)

-- trees with k of something: they keep every other rule, and are well formed up to this many
record IsMost (tree : ℕ → Statements) (most : ℕ) : Type 0 where
  formed : (k : ℕ) → is_formed (source (tree k)) ≡ true
  fit : (k : ℕ) → k ≤ most → WellFormed (source (tree k))
  no_more : (k : ℕ) → WellFormed (source (tree k)) → k ≤ most

is_most : (tree : ℕ → Statements) → (most : ℕ) → ((k : ℕ) → is_formed (source (tree k)) ≡ true) → ((k : ℕ) → k ≤ most → depth_of_statements (tree k) ≤ 200) → ((k : ℕ) → depth_of_statements (tree k) ≤ 200 → k ≤ most) → IsMost tree most
is_most tree most formed fit no_more = record { formed = formed; fit = λ k few. record { formed = formed k; shallow = fit k few }; no_more = λ k well. no_more k well.shallow }

-- `e` in k pairs of parentheses
abbrev parentheses : ℕ → Expression → Expression
parentheses zero e = e
parentheses (suc k) e = parenthesized 1 (parentheses k e)

depth-parentheses : (k : ℕ) → (e : Expression) → depth_of_expression (parentheses k e) ≡ k + depth_of_expression e
depth-parentheses zero e = omega arith
depth-parentheses (suc k) e = omega (arith, depth-parentheses k e)

formed-parentheses : (k : ℕ) → (e : Expression) → formed_expression (parentheses k e) ≡ formed_expression e
formed-parentheses zero e = refl
formed-parentheses (suc k) e = formed-parentheses k e

abbrev in_parentheses : ℕ → Statements
in_parentheses k = alone (assign (parentheses k (number 1)))

parentheses_at_most : IsMost in_parentheses 198
parentheses_at_most = is_most in_parentheses 198 (λ k. rw (formed-parentheses k (number 1)) refl) (λ k few. omega (arith, few, depth-parentheses k (number 1))) (λ k shallow. omega (arith, shallow, depth-parentheses k (number 1)))

-- `1` and k times `+ 1`
abbrev sums : ℕ → Expression
sums zero = number 1
sums (suc k) = binary Add (sums k) (number 1)

depth-sums : (k : ℕ) → depth_of_expression (sums k) ≡ k + 1
depth-sums zero = refl
depth-sums (suc k) = omega (arith, depth-sums k)

binds-sums : (k : ℕ) → left_binds 5 false (sums k) ≡ true
binds-sums zero = refl
binds-sums (suc k) = refl

formed-sums : (k : ℕ) → formed_expression (sums k) ≡ true
formed-sums zero = refl
formed-sums (suc k) = rw (binds-sums k) (rw (formed-sums k) refl)

abbrev in_sums : ℕ → Statements
in_sums k = alone (assign (sums k))

sums_at_most : IsMost in_sums 198
sums_at_most = is_most in_sums 198 (λ k. rw (formed-sums k) refl) (λ k few. omega (arith, few, depth-sums k)) (λ k shallow. omega (arith, shallow, depth-sums k))

-- `a =` k times `(` `1` k times `)` `+ 1`
abbrev parentheses_and_one : ℕ → Statements
parentheses_and_one k = alone (assign (binary Add (parentheses k (number 1)) (number 1)))

binds-parentheses : (k : ℕ) → left_binds 5 false (parentheses k (number 1)) ≡ true
binds-parentheses zero = refl
binds-parentheses (suc k) = refl

parentheses_and_one_at_most : IsMost parentheses_and_one 197
parentheses_and_one_at_most = is_most parentheses_and_one 197 (λ k. rw (binds-parentheses k) (rw (formed-parentheses k (number 1)) refl)) (λ k few. omega (arith, few, depth-parentheses k (number 1))) (λ k shallow. omega (arith, shallow, depth-parentheses k (number 1)))

-- the counts themselves
parentheses_198 : WellFormed (source (in_parentheses 198))
parentheses_198 = record { formed = refl; shallow = omega arith }

parentheses_199 : WellFormed (source (in_parentheses 199)) → ⊥
parentheses_199 well = omega (arith, parentheses_at_most.no_more 199 well)

sums_198 : WellFormed (source (in_sums 198))
sums_198 = record { formed = refl; shallow = omega arith }

sums_199 : WellFormed (source (in_sums 199)) → ⊥
sums_199 well = omega (arith, sums_at_most.no_more 199 well)

parentheses_198_and_one : WellFormed (source (parentheses_and_one 198)) → ⊥
parentheses_198_and_one well = omega (arith, parentheses_and_one_at_most.no_more 198 well)

-- with so many well formed, and with one more too deep and nothing else wrong
abbrev IsLast : (ℕ → Statements) → ℕ → ℕ → Type 0
IsLast tree most depth = WellFormed (source (tree most)) × (is_formed (source (tree (suc most))) ≡ true) × (depth_of_statements (tree (suc most)) ≡ depth)

-- `1` and k times `.. 1`
abbrev dots : ℕ → Expression
dots zero = number 1
dots (suc k) = binary Concat (number 1) (dots k)

dots_last : IsLast (λ k. alone (assign (dots k))) 198 201
dots_last = (record { formed = refl; shallow = omega arith }, refl, refl)

-- k times `-`, and `1`
abbrev minuses : ℕ → Expression
minuses zero = number 1
minuses (suc k) = minus (minuses k)

minuses_last : IsLast (λ k. alone (assign (minuses k))) 198 201
minuses_last = (record { formed = refl; shallow = omega arith }, refl, refl)

-- `{` k times around `1`
abbrev tables : ℕ → Expression
tables zero = number 1
tables (suc k) = constructor 1 (positional (tables k) Missing no_fields)

tables_last : IsLast (λ k. alone (assign (tables k))) 198 201
tables_last = (record { formed = refl; shallow = omega arith }, refl, refl)

-- `f{` k times around `1`, and `f({`
abbrev table_calls : ℕ → Expression
table_calls zero = number 1
table_calls (suc k) = call_expression 1 (var "f") (table_argument (positional (table_calls k) Missing no_fields)) 1

table_calls_last : IsLast (λ k. alone (assign (table_calls k))) 198 201
table_calls_last = (record { formed = refl; shallow = omega arith }, refl, refl)

abbrev list_calls : ℕ → Expression
list_calls zero = number 1
list_calls (suc k) = call (var "f") (one (constructor 1 (positional (list_calls k) Missing no_fields)))

list_calls_last : IsLast (λ k. alone (assign (list_calls k))) 99 202
list_calls_last = (record { formed = refl; shallow = omega arith }, refl, refl)

-- `f` and k times `()`
abbrev chains : ℕ → Expression
chains zero = var "f"
chains (suc k) = call (chains k) no_expressions

chains_last : IsLast (λ k. alone (assign (chains k))) 198 201
chains_last = (record { formed = refl; shallow = omega arith }, refl, refl)

-- k times `do`, and k times `if a then` or `if a then else` around `break`
abbrev does : ℕ → Statements
does zero = no_statements
does (suc k) = alone (do_block (does k))

does_last : IsLast does 200 201
does_last = (record { formed = refl; shallow = omega arith }, refl, refl)

abbrev ifs : ℕ → Statements
ifs zero = alone break_statement
ifs (suc k) = alone (if_statement (branch a (ifs k) no_branches) no_otherwise)

ifs_last : IsLast ifs 199 201
ifs_last = (record { formed = refl; shallow = omega arith }, refl, refl)

abbrev elses : ℕ → Statements
elses zero = alone break_statement
elses (suc k) = alone (if_statement (branch a no_statements no_branches) (otherwise (elses k)))

elses_last : IsLast elses 199 201
elses_last = (record { formed = refl; shallow = omega arith }, refl, refl)

-- k times `return function()`, and `function f()`
abbrev closures : ℕ → Statements
closures zero = no_statements
closures (suc k) = alone (return_statement (one (function_expression 1 (body_of (closures k)))))

closures_last : IsLast closures 100 202
closures_last = (record { formed = refl; shallow = omega arith }, refl, refl)

abbrev functions : ℕ → Statements
functions zero = no_statements
functions (suc k) = alone (function_statement (codes "f" ∷ []) None (body_of (functions k)))

functions_last : IsLast functions 100 202
functions_last = (record { formed = refl; shallow = omega arith }, refl, refl)

-- 300 statements one behind another, and 300 arms of an `if`, are no deeper than one
abbrev rows : ℕ → Statements
rows zero = no_statements
rows (suc k) = statement 1 false (local_statement (codes "a" ∷ []) no_expressions) (rows k)

rows_are_flat : depth_of_statements (rows 300) ≡ 1
rows_are_flat = refl

abbrev arms : ℕ → Branches
arms zero = no_branches
arms (suc k) = branch a no_statements (arms k)

arms_are_flat : depth_of_statements (alone (if_statement (arms 300) no_otherwise)) ≡ 2
arms_are_flat = refl
