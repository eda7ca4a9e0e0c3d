-- To be believed. What each part of a source does (manual 2.2 to 2.8).
use Rattle.std.specs.Prelude.{ℕ, suc, ◌+◌, ◌==◌, ◌||◌, ℤ, pos, ◌+ℤ◌, nat_lt, nat_eq, Bool, true, false, not, List, [], ◌∷◌, ◌++◌, length, map, drop, slice_get, Option, Some, None, is_some, codes, if◌then◌else◌}
use Rattle.lua_num.specs.declared.arith.ArithOp.{ArithOp}
use Rattle.lua_num.specs.declared.arith.CompareOp.{CompareOp}
use Rattle.lua_tree.specs.declared.tree.BinaryOp.{BinaryOp}
use Rattle.lua_tree.specs.declared.tree.UnaryOp.{UnaryOp}
use Rattle.lua_tree.specs.Syntax.{Statements, no_statements, Statement, assignment, call_statement, do_block, while_loop, repeat_loop, if_statement, numeric_for, generic_for, function_statement, local_function, local_statement, return_statement, break_statement, Branches, no_branches, branch, Otherwise, no_otherwise, otherwise, ForStep, no_step, by_step, FunctionBody, function_body, Expressions, no_expressions, Expression, nil_literal, true_literal, false_literal, vararg_expression, number_literal, text_literal, name_expression, function_expression, index_expression, field_expression, call_expression, method_call, and_expression, or_expression, binary_expression, unary_expression, constructor, parenthesized, Arguments, argument_list, text_argument, table_argument, Fields, no_fields, positional, named, keyed, Source}
use Rattle.lua_tree.specs.Syntax as syntax
use Rattle.lua_num.specs.Bytes.{Text}
use Rattle.lua_num.specs.Arith.{wrap}
use Rattle.lua_tree.specs.Outline.{all_params}
use Rattle.lua_model.specs.Datum.{Datum, nil, boolean, number, text, table, closure, native, host, is_nil, is_true, first_of, adjusted}
use Rattle.lua_model.specs.Store.{printed, closed, Store, Host, Reply, replies_values, replies_failure, as_datum, global, with_global, new_table, with_items}
use Rattle.lua_model.specs.Acts.{Act, value, failure, used, Callee, plain, through, no_function, NativeAct, results, prints, asks, fails, protects, closes}
use Rattle.lua_model.specs.Acts as acts
use Rattle.lua_model.specs.Operators.{arith, negate, join, size, compare, index, set_index, depth_limit, protection_limit, stack_overflow, callee, with_called, loop_numbers, LoopNumbers, counts, no_count, goes_on}
use Rattle.lua_model.specs.Builtins as builtins
use Rattle.lua_model.specs.Builtins.{call_host, failure_text, start}
use Rattle.lua_model.specs.Endings.{Ended, Failed, Waiting, Going, Course}
use Rattle.source_meaning.specs.State.{Env, Closure, State, Place, Flow, goes, breaks, returns, tail_calls, Taken, taken, late, Target, to_cell, to_global, to_entry, cell, with_cell, with_store, find, meant, with_own, declared, new_closure, inside}
use Rattle.source_meaning.specs.Tasks.{Task, Gives, block, statement, target, expression, local_taken, called, item, called_item, text_item, table_item, named_item, keyed_item, test, count_test, iterator_test, while_turn, repeat_turn, count_turn, iterator_turn, call, protected_call, refused_call}
use Rattle.source_meaning.specs.Programs.{Prog, done, fault, happen, hear, ask, attempt, Outcome, worked, broke, and_then, Answer, ended, failed, waiting, going, run, eval}

-- ---- values

abbrev pub one : Datum → State → Prog (List Datum)
one v s = done (v ∷ []) s

-- an expression's value, where one is wanted
abbrev pub with_value : {B : Type 0} → Place → Expression → State → (Datum → State → Prog B) → Prog B
with_value at e s k = ask (expression at e) s (λ vs s1. k (first_of vs) s1)

-- a call that is one deeper
abbrev pub deeper : {B : Type 0} → Place → Datum → List Datum → State → (List Datum → State → Prog B) → Prog B
deeper at f args s k = ask (call (suc at.depth) f args) s k

-- what an operator answers: its value, or what its handler gives
abbrev pub perform : Place → Act → State → Prog Datum
perform at (value v) s = done v s
perform at (acts.call h args use_of) s = deeper at h args s (λ vs s1. done (used use_of (first_of vs)) s1)
perform at (failure v) s = fault v s

abbrev pub perform_one : Place → Act → State → Prog (List Datum)
perform_one at act s = and_then (perform at act s) one

-- ---- late places

-- a local of the running function, in parentheses or not
abbrev pub own_local : Place → Expression → Option ℕ
own_local at (name_expression line name) = find name at.own
own_local at (parenthesized line e) = own_local at e
own_local at _ = None

abbrev pub read : Taken → State → Datum
read (taken v) s = v
read (late c) s = cell s c

-- an expression at a late place: a local of the running function is taken as its cell
abbrev pub with_late : {B : Type 0} → Place → Expression → State → (Taken → State → Prog B) → Prog B
with_late at e s k =
    elim (own_local at e) [
      | None ↦ with_value at e s (λ v s1. k (taken v) s1)
      | Some c ↦ ask (local_taken c) s (λ u s1. k (late c) s1)
    ]

-- ---- names and functions

abbrev pub name_value : Option ℕ → Text → State → Datum
name_value None name s = global s.store name
name_value (Some c) name s = cell s c

abbrev pub make_closure : Place → FunctionBody → State → Prog Datum
make_closure at f s = done (closure (length s.closures)) (new_closure at f s)

-- ---- lists

-- the values of a list: the last item gives all of its values, and every other one its first
abbrev pub items : Expressions → Place → State → Prog (List Datum)
items no_expressions at s = done [] s
items (syntax.expression e no_expressions) at s = ask (item at e) s done
items (syntax.expression e rest) at s = ask (item at e) s (λ vs s1. and_then (items rest at s1) (λ ws s2. done (first_of vs ∷ ws) s2))

-- ---- constructors (manual 2.5.7)

-- so many items stand in the table already
abbrev pub set_entries : ℕ → ℕ → List Datum → State → State
set_entries t n vs s = with_store s (with_items s.store t (pos (suc n)) vs)

-- the items behind n stored and some pending ones: fifty pending ones are stored together
abbrev pub fields : Fields → Place → (table n : ℕ) → (pending : List Datum) → State → Prog (Unit {0})
fields no_fields at t n pending s = done tt (set_entries t n pending s)
fields (positional e sep no_fields) at t n pending s = ask (item at e) s (λ vs s1. done tt (set_entries t n (pending ++ vs) s1))
fields (positional e sep rest) at t n pending s =
    ask (item at e) s (λ vs s1. elim (length pending == 49) [
      | true ↦ fields rest at t (n + 50) [] (set_entries t n (pending ++ first_of vs ∷ []) s1)
      | false ↦ fields rest at t n (pending ++ first_of vs ∷ []) s1
    ])
fields (named name e sep rest) at t n pending s = ask (named_item at t name e) s (λ u s1. fields rest at t n pending s1)
fields (keyed k e sep rest) at t n pending s = ask (keyed_item at t k e) s (λ u s1. fields rest at t n pending s1)

-- the table is made before its items are evaluated
abbrev pub construct : Fields → Place → State → Prog Datum
construct fs at s =
    let t = length s.store.tables in
    and_then (fields fs at t 0 [] (with_store s (new_table s.store))) (λ u s1. done (table t) s1)

-- v[k] = x
abbrev pub write : Place → Datum → Datum → Datum → State → Prog (Unit {0})
write at v k x s = let w = set_index s.store v k x in and_then (perform at w.0 (with_store s w.1)) (λ u s1. done tt s1)

-- ---- calls (manual 2.5.8)

abbrev pub arguments : Arguments → Place → State → Prog (List Datum)
arguments (argument_list es) at s = items es at s
arguments (text_argument t) at s = ask (text_item t) s done
arguments (table_argument fs) at s = ask (table_item at fs) s done

-- what is called, and the arguments; a method is looked up before them
abbrev pub call_parts : Expression → Place → State → Prog (Datum × List Datum)
call_parts (call_expression line on args on_line) at s =
    with_value at on s (λ f s1. and_then (arguments args at s1) (λ vs s2. done (f, vs) s2))
call_parts (method_call line on name args on_line) at s =
    with_late at on s (λ v s1. let object = read v s1 in
    and_then (perform at (index s1.store object (text name)) s1) (λ f s2. and_then (arguments args at s2) (λ vs s3. done (f, object ∷ vs) s3)))
call_parts e at s = done (nil, []) s

-- ---- operators (manual 2.5.1 to 2.5.5)

abbrev pub negated_value : Datum → State → Prog (List Datum)
negated_value v s = one (boolean (not (is_true v))) s

abbrev pub binary : Store → BinaryOp → Datum → Datum → Act
binary s BinaryOp.Add a b = arith s ArithOp.Add a b
binary s BinaryOp.Sub a b = arith s ArithOp.Sub a b
binary s BinaryOp.Mul a b = arith s ArithOp.Mul a b
binary s BinaryOp.Div a b = arith s ArithOp.Div a b
binary s BinaryOp.Rem a b = arith s ArithOp.Rem a b
binary s BinaryOp.Pow a b = arith s ArithOp.Pow a b
binary s BinaryOp.Concat a b = join s a b
binary s BinaryOp.Eq a b = compare s CompareOp.Eq a b
binary s BinaryOp.Ne a b = compare s CompareOp.Eq a b
binary s BinaryOp.Lt a b = compare s CompareOp.Lt a b
binary s BinaryOp.Le a b = compare s CompareOp.Le a b
binary s BinaryOp.Gt a b = compare s CompareOp.Lt b a
binary s BinaryOp.Ge a b = compare s CompareOp.Le b a

-- `~=` is the negation of `==`
abbrev pub finish_binary : BinaryOp → Datum → State → Prog (List Datum)
finish_binary BinaryOp.Ne v s = negated_value v s
finish_binary op v s = one v s

-- the left operand of arithmetic or of a comparison stands at a late place, that of `..` does not
abbrev pub with_left : {B : Type 0} → BinaryOp → Place → Expression → State → (Taken → State → Prog B) → Prog B
with_left BinaryOp.Concat at e s k = with_value at e s (λ v s1. k (taken v) s1)
with_left op at e s k = with_late at e s k

abbrev pub unary : UnaryOp → Place → Datum → State → Prog (List Datum)
unary UnaryOp.Not at v s = negated_value v s
unary UnaryOp.Neg at v s = perform_one at (negate s.store v) s
unary UnaryOp.Len at v s = perform_one at (size s.store v) s

-- ---- expressions (manual 2.5)

-- the values of an expression
abbrev pub evaluate : Expression → Place → State → Prog (List Datum)
evaluate (nil_literal line) at s = one nil s
evaluate (true_literal line) at s = one (boolean true) s
evaluate (false_literal line) at s = one (boolean false) s
evaluate (vararg_expression line) at s = done at.extra s
evaluate (number_literal line n) at s = one (number n) s
evaluate (text_literal line t) at s = one (text t) s
evaluate (name_expression line name) at s = one (name_value (meant at name) name s) s
evaluate (function_expression line f) at s = and_then (make_closure at f s) one
evaluate (index_expression line on key) at s =
    with_late at on s (λ v s1. with_value at key s1 (λ k s2. perform_one at (index s2.store (read v s2) k) s2))
evaluate (field_expression line on name) at s = with_late at on s (λ v s1. perform_one at (index s1.store (read v s1) (text name)) s1)
evaluate (call_expression line on args on_line) at s =
    and_then (call_parts (call_expression line on args on_line) at s) (λ c s1. deeper at c.0 c.1 s1 done)
evaluate (method_call line on name args on_line) at s =
    and_then (call_parts (method_call line on name args on_line) at s) (λ c s1. deeper at c.0 c.1 s1 done)
evaluate (and_expression line left right) at s =
    with_value at left s (λ v s1. elim (is_true v) [ true ↦ with_value at right s1 one | false ↦ one v s1 ])
evaluate (or_expression line left right) at s =
    with_value at left s (λ v s1. elim (is_true v) [ true ↦ one v s1 | false ↦ with_value at right s1 one ])
evaluate (binary_expression line op left right) at s =
    with_left op at left s (λ a s1. with_value at right s1 (λ b s2. and_then (perform at (binary s2.store op (read a s2) b) s2) (finish_binary op)))
evaluate (unary_expression line op e) at s = with_value at e s (unary op at)
evaluate (constructor line fs) at s = and_then (construct fs at s) one
evaluate (parenthesized line e) at s = with_value at e s one

-- ---- assignment (manual 2.4.3)

-- what a target is, when its parts are evaluated
abbrev pub to_name : Option ℕ → Text → Target
to_name None name = to_global name
to_name (Some c) name = to_cell c

abbrev pub evaluate_target : Expression → Place → State → Prog Target
evaluate_target (name_expression line name) at s = done (to_name (meant at name) name) s
evaluate_target (index_expression line on key) at s = with_late at on s (λ v s1. with_late at key s1 (λ k s2. done (to_entry v k) s2))
evaluate_target (field_expression line on name) at s = with_late at on s (λ v s1. done (to_entry v (taken (text name))) s1)
evaluate_target e at s = done (to_global []) s

abbrev pub targets : Expressions → Place → State → Prog (List Target)
targets no_expressions at s = done [] s
targets (syntax.expression e rest) at s = ask (target at e) s (λ t s1. and_then (targets rest at s1) (λ ts s2. done (t ∷ ts) s2))

-- whether a local is one of the targets
abbrev pub is_target : ℕ → List Target → Bool
is_target c [] = false
is_target c (to_cell d ∷ ts) = nat_eq c d || is_target c ts
is_target c (t ∷ ts) = is_target c ts

-- a local that is a target further right is copied
abbrev pub copied : Taken → List Target → State → Taken
copied (taken v) ts s = taken v
copied (late c) ts s = if is_target c ts then taken (cell s c) else late c

abbrev pub with_copies : List Target → State → List Target
with_copies [] s = []
with_copies (to_entry on key ∷ ts) s = to_entry (copied on ts s) (copied key ts s) ∷ with_copies ts s
with_copies (t ∷ ts) s = t ∷ with_copies ts s

abbrev pub store_to : Target → Datum → Place → State → Prog (Unit {0})
store_to (to_cell c) v at s = done tt (with_cell s c v)
store_to (to_global name) v at s = done tt (with_store s (with_global s.store name v))
store_to (to_entry on key) v at s = write at (read on s) (read key s) v s

-- the last target is stored first
abbrev pub store_each : List Target → List Datum → Place → State → Prog (Unit {0})
store_each [] vs at s = done tt s
store_each (t ∷ ts) vs at s = and_then (store_each ts (drop 1 vs) at s) (λ u s1. store_to t (first_of vs) at s1)

-- the targets' parts, the copies, the right sides, the stores
abbrev pub assign : Expressions → Expressions → Place → State → Prog (Unit {0})
assign ts es at s =
    and_then (targets ts at s) (λ places s1. let settled = with_copies places s1 in
    and_then (items es at s1) (λ vs s2. store_each settled vs at s2))

-- ---- statements (manual 2.4)

-- how a statement ends that declares nothing
abbrev pub goes_on_at : Place → State → Prog Flow
goes_on_at at s = done (goes at.own) s

-- what is left of a block's end behind it: its names are no longer seen
abbrev pub leave_block : Place → Flow → State → Prog Flow
leave_block at (goes env) s = goes_on_at at s
leave_block at f s = done f s

abbrev pub inner_block : Place → Statements → State → Prog Flow
inner_block at b s = ask (block at b) s (leave_block at)

-- behind a turn of a loop
abbrev pub behind_turn : Place → Flow → State → (Env → Prog Flow) → Prog Flow
behind_turn at (goes env) s again = again env
behind_turn at breaks s again = goes_on_at at s
behind_turn at (returns vs) s again = done (returns vs) s
behind_turn at (tail_calls f vs) s again = done (tail_calls f vs) s

abbrev pub while_from : Place → Expression → Statements → State → Prog Flow
while_from at e b s = ask (test at e) s (λ holds s1. elim holds [ true ↦ ask (while_turn at e b) s1 done | false ↦ goes_on_at at s1 ])

abbrev pub count_from : Place → Text → (i limit step : ℤ) → Statements → State → Prog Flow
count_from at name i limit step b s =
    ask (count_test i limit step) s (λ holds s1. elim holds [ true ↦ ask (count_turn at name i limit step b) s1 done | false ↦ goes_on_at at s1 ])

abbrev pub count_loop : LoopNumbers → Place → Text → Statements → State → Prog Flow
-- this suite's own: the first value is wrapped to 64 bits, as each later one is
count_loop (counts i limit step) at name b s = count_from at name (wrap i) limit step b s
count_loop (no_count t) at name b s = fault (text t) s

abbrev pub iterate_from : Place → List Text → (f state control : Datum) → Statements → State → Prog Flow
iterate_from at names f state control b s =
    ask (iterator_test at f state control) s (λ vs s1. elim (is_nil (first_of vs)) [
      | true ↦ goes_on_at at s1
      | false ↦ ask (iterator_turn at names f state vs b) s1 done
    ])

abbrev pub iterate : List Datum → Place → List Text → Statements → State → Prog Flow
iterate (f ∷ state ∷ control ∷ []) at names b s = iterate_from at names f state control b s
iterate _ at names b s = goes_on_at at s

-- a block whose first locals are these
abbrev pub block_with : Place → List Text → List Datum → Statements → State → (Flow → State → Prog Flow) → Prog Flow
block_with at names vs b s k = let d = declared names vs at.own s in ask (block (with_own at d.0) b) d.1 k

abbrev pub last_branch : Otherwise → Place → State → Prog Flow
last_branch no_otherwise at s = goes_on_at at s
last_branch (otherwise b) at s = inner_block at b s

abbrev pub choose : Branches → Otherwise → Place → State → Prog Flow
choose no_branches last at s = last_branch last at s
choose (branch e b rest) last at s =
    with_value at e s (λ v s1. elim (is_true v) [ true ↦ inner_block at b s1 | false ↦ choose rest last at s1 ])

-- the path of a function statement, as an expression
abbrev pub path_from : (line : ℕ) → Expression → List Text → Expression
path_from line e [] = e
path_from line e (name ∷ names) = path_from line (field_expression line e name) names

abbrev pub path_target : List Text → Option Text → Expression
path_target [] method = nil_literal 0
path_target (name ∷ names) None = path_from 0 (name_expression 0 name) names
path_target (name ∷ names) (Some m) = path_from 0 (name_expression 0 name) (names ++ m ∷ [])

-- a method has a first parameter `self`
abbrev pub as_method : Option Text → FunctionBody → FunctionBody
as_method method (function_body params vararg b first last) = function_body (all_params (is_some method) params) vararg b first last

abbrev pub single : Expression → Expressions
single e = syntax.expression e no_expressions

abbrev pub give_results : Expressions → Place → State → Prog Flow
give_results es at s = and_then (items es at s) (λ vs s1. done (returns vs) s1)

abbrev pub leave_call : Expression → Place → State → Prog Flow
leave_call e at s = ask (called_item at e) s (λ c s1. done (tail_calls c.0 c.1) s1)

-- `return f(x)` leaves the call to who called
abbrev pub give : Expressions → Place → State → Prog Flow
give (syntax.expression (call_expression line on args on_line) no_expressions) at s = leave_call (call_expression line on args on_line) at s
give (syntax.expression (method_call line on name args on_line) no_expressions) at s = leave_call (method_call line on name args on_line) at s
give es at s = give_results es at s

abbrev pub then_goes_on : Place → Prog (Unit {0}) → Prog Flow
then_goes_on at p = and_then p (λ u s. goes_on_at at s)

abbrev pub for_step : {B : Type 0} → ForStep → Place → State → (Datum → State → Prog B) → Prog B
for_step no_step at s k = k (number (pos 1)) s
for_step (by_step e) at s k = with_value at e s k

abbrev pub execute : Statement → Place → State → Prog Flow
execute (assignment ts es) at s = then_goes_on at (assign ts es at s)
execute (call_statement e) at s = with_value at e s (λ v s1. goes_on_at at s1)
execute (do_block b) at s = inner_block at b s
execute (while_loop e b) at s = while_from at e b s
execute (repeat_loop b e) at s = ask (repeat_turn at b e) s done
execute (if_statement branches last) at s = choose branches last at s
execute (numeric_for name first last step b) at s =
    with_value at first s (λ i s1. with_value at last s1 (λ limit s2. for_step step at s2 (λ by s3. count_loop (loop_numbers i limit by) at name b s3)))
execute (generic_for names es b) at s = and_then (items es at s) (λ vs s1. iterate (adjusted 3 vs) at names b s1)
execute (function_statement path method f) at s =
    then_goes_on at (assign (single (path_target path method)) (single (function_expression 0 (as_method method f))) at s)
-- the name is in scope in the function's own body
execute (local_function name f) at s =
    let d = declared (name ∷ []) [] at.own s in
    and_then (make_closure (with_own at d.0) f d.1) (λ v s1. done (goes d.0) (with_cell s1 (length s.cells) v))
execute (local_statement names es) at s = and_then (items es at s) (λ vs s1. let d = declared names vs at.own s1 in done (goes d.0) d.1)
execute (return_statement es) at s = give es at s
execute break_statement at s = done breaks s

-- a block's statements, each with the names that the earlier ones declare
abbrev pub sequence : Statements → Place → State → Prog Flow
sequence no_statements at s = goes_on_at at s
sequence (syntax.statement line semi c rest) at s =
    ask (statement at c) s (λ f s1. elim f [
      | goes env ↦ sequence rest (with_own at env) s1
      | breaks ↦ done breaks s1
      | returns vs ↦ done (returns vs) s1
      | tail_calls g vs ↦ done (tail_calls g vs) s1
    ])

-- ---- calls

abbrev pub is_closure : Datum → Bool
is_closure (closure c) = true
is_closure f = false

-- a tail call of a function of the source takes the place of the one that calls; one of another function is a call from there
abbrev pub tail_depth : Callee → (depth : ℕ) → ℕ
tail_depth (plain f) depth = if is_closure f then depth else suc depth
tail_depth (through h) depth = if is_closure h then depth else suc depth
tail_depth (no_function e) depth = depth

-- what a function gives by the end of its block
abbrev pub results_of : (depth : ℕ) → Flow → State → Prog (List Datum)
results_of depth (goes env) s = done [] s
results_of depth breaks s = done [] s
results_of depth (returns vs) s = done vs s
results_of depth (tail_calls f vs) s = ask (call (tail_depth (callee s.store f) depth) f vs) s done

abbrev pub enter : Closure → (depth : ℕ) → List Datum → State → Prog (List Datum)
enter f depth args s = let d = declared f.params args [] s in ask (block (inside f depth args d.0) f.block) d.1 (results_of depth)

abbrev pub reply_results : Reply → State → Prog (List Datum)
reply_results (replies_values vs) s = done (map as_datum vs) s
reply_results (replies_failure t) s = fault (text t) s

-- true and the results, or false and the failure's value
abbrev pub protected_results : Outcome (List Datum) → State → Prog (List Datum)
protected_results (worked vs) s = done (boolean true ∷ vs) s
protected_results (broke v) s = done (boolean false ∷ v ∷ []) s

-- what a built-in function or a host does
abbrev pub outside_call : NativeAct → (around depth : ℕ) → State → Prog (List Datum)
outside_call (results vs new) around depth s = done vs (with_store s new)
outside_call (prints piece) around depth s = happen (printed piece) (done [] s)
outside_call (asks h vs) around depth s = hear h vs (λ r. reply_results r s)
outside_call (fails v) around depth s = fault v s
outside_call (protects f args) around depth s =
    if around == protection_limit then ask refused_call s (λ u s1. fault stack_overflow s1) else attempt (protected_call (suc around) depth f args) s protected_results
outside_call (closes h new) around depth s = happen (closed h) (done (boolean true ∷ []) (with_store s new))

-- a call of what is no function, or of a closure that is not there, of which a run knows none
abbrev pub no_such_function : Datum
no_such_function = text (codes "attempt to call a function value")

-- a call of a function of the source at depth 20,001 fails
abbrev pub enter_at : Option Closure → (depth : ℕ) → List Datum → State → Prog (List Datum)
enter_at None depth args s = fault no_such_function s
enter_at (Some f) depth args s = elim (nat_lt depth_limit depth) [ true ↦ fault stack_overflow s | false ↦ enter f depth args s ]

-- so many protected calls stand directly around the call
abbrev pub apply : Datum → (around depth : ℕ) → List Datum → State → Prog (List Datum)
apply (closure c) around depth args s = enter_at (slice_get s.closures c) depth args s
apply (native n) around depth args s = outside_call (builtins.native n args s.store) around depth s
apply (host h) around depth args s = outside_call (call_host h args s.store) around depth s
apply f around depth args s = fault no_such_function s

abbrev pub apply_callee : Callee → (around depth : ℕ) → List Datum → State → Prog (List Datum)
apply_callee (plain f) around depth args s = apply f around depth args s
apply_callee (through h) around depth args s = apply h around depth args s
apply_callee (no_function e) around depth args s = fault e s

abbrev pub apply_value : Datum → (around depth : ℕ) → List Datum → State → Prog (List Datum)
apply_value v around depth args s = apply_callee (callee s.store v) around depth (with_called (callee s.store v) v args) s

-- ---- tasks

abbrev pub program : (q : Task) → State → Prog (Gives q)
program (block at b) s = sequence b at s
program (statement at c) s = execute c at s
program (target at e) s = evaluate_target e at s
program (expression at e) s = evaluate e at s
program (local_taken c) s = done tt s
program (called at e) s = call_parts e at s
program (item at e) s = ask (expression at e) s done
program (called_item at e) s = ask (called at e) s done
program (text_item t) s = one (text t) s
program (table_item at fs) s = and_then (construct fs at s) one
program (named_item at t name e) s = with_value at e s (λ v s1. write at (table t) (text name) v s1)
program (keyed_item at t k e) s = with_late at k s (λ key s1. with_value at e s1 (λ v s2. write at (table t) (read key s2) v s2))
program (test at e) s = with_value at e s (λ v s1. done (is_true v) s1)
program (count_test i limit step) s = done (goes_on i limit step) s
program (iterator_test at f state control) s = deeper at f (state ∷ control ∷ []) s done
program (while_turn at e b) s = ask (block at b) s (λ f s1. behind_turn at f s1 (λ env. while_from at e b s1))
-- the test sees the block's locals
program (repeat_turn at b e) s =
    ask (block at b) s (λ f s1. behind_turn at f s1 (λ env. ask (test (with_own at env) e) s1 (λ holds s2. elim holds [
      | true ↦ goes_on_at at s2
      | false ↦ ask (repeat_turn at b e) s2 done
    ])))
program (count_turn at name i limit step b) s =
    block_with at (name ∷ []) (number i ∷ []) b s (λ f s1. behind_turn at f s1 (λ env. count_from at name (wrap (i +ℤ step)) limit step b s1))
program (iterator_turn at names f state vs b) s =
    block_with at names vs b s (λ g s1. behind_turn at g s1 (λ env. iterate_from at names f state (first_of vs) b s1))
program (call depth f args) s = apply_value f 0 depth args s
program (protected_call nth depth f args) s = apply_value f nth depth args s
program refused_call s = done tt s

-- ---- the meaning

abbrev pub main_place : Place
main_place = record { own = []; outer = []; extra = []; depth = 0 }

abbrev pub start_state : List Host → State
start_state hosts = record { store = start hosts; cells = []; closures = [] }

-- the main chunk is called at depth 0 without arguments
abbrev pub main_program : Source → List Host → Prog (List Datum)
main_program source hosts = ask (block main_place source.body) (start_state hosts) (results_of 0)

abbrev pub answer : Source → List Host → List Reply → (t : ℕ) → Answer (List Datum)
answer source hosts replies t = run (eval program t) (main_program source hosts) (record { ticks = t; outside = record { events = []; replies = replies } })

abbrev pub course_of : {A : Type 0} → Answer A → Course
course_of (ended a s w) = record { ending = Ended; events = w.outside.events }
course_of (failed v s w) = record { ending = Failed (failure_text v); events = w.outside.events }
course_of (waiting w) = record { ending = Waiting; events = w.outside.events }
course_of (going w) = record { ending = Going; events = w.outside.events }

-- what a source does with t ticks, for these hosts and replies
abbrev pub meaning : Source → List Host → List Reply → (t : ℕ) → Course
meaning source hosts replies t = course_of (answer source hosts replies t)
