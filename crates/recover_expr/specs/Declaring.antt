-- Serves a body. Declarations of locals, and heads of loops.
use Rattle.std.specs.List.{list_any}
use Rattle.std.specs.Prelude.{◌==◌, ◌&&◌, ◌+◌, ◌-◌, not, ℕ, suc, pos, Bool, true, false, nat_lt, List, [], ◌∷◌, ◌++◌, length, take, drop, Option, None, Some, codes, option_map, option_and_then, if◌then◌else◌}
use Rattle.std.specs.Str.{bytes_eq}
use Rattle.lua_num.specs.Bytes.{Text}
use Rattle.lua_tree.specs.Syntax.{Expressions, no_expressions, expression, Expression, number_literal, Statement, local_function, local_statement}
use Rattle.opcode.specs.declared.op.Op.{Op}
use Rattle.proto.specs.declared.parts.LocVar.{LocVar}
use Rattle.core_expr.specs.Counting.{one_more}
use Rattle.core_expr.specs.Values.{function_value, Inner}
use Rattle.core_expr.specs.Writing.{Wordings, is_multiple}
use Rattle.recover_expr.specs.Drafts.{Drafted, drafted, statement_part, head_part}
use Rattle.recover_expr.specs.Entries.{EntryValue, value_entry, missing_entry, Entries, take_from}
use Rattle.recover_expr.specs.Lists.{adjusted, is_nil}
use Rattle.recover_expr.specs.Locals.{Scope, capture_entry, declare, is_hidden, names_from, starting}
use Rattle.recover_expr.specs.Situation.{Function, Situation, take_body, target, word_at}
use Rattle.recover_expr.specs.declared.draft.DraftKind.{DraftKind}
use Rattle.recover_expr.specs.declared.function.Word.{Word}

-- ---- the statement that declares locals, with how many levels it needs

abbrev pub Made : Type 0
Made = Option ((Statement × ℕ) × Situation)

abbrev pub is_own_function : EntryValue → Bool
is_own_function (value_entry (function_value number true)) = true
is_own_function entry = false

-- one of these is a function that captures the register that it goes to
abbrev pub captures_itself : Entries → Bool
captures_itself entries = list_any is_own_function entries

abbrev pub only_function : Entries → Option ℕ
only_function (value_entry (function_value number itself) ∷ []) = Some number
only_function entries = None

abbrev pub only_name : List Text → Option Text
only_name (name ∷ []) = Some name
only_name names = None

abbrev pub local_function_of : (name : Text) → (Inner × Situation) → (Statement × ℕ) × Situation
local_function_of name p = ((local_function name p.0.body, one_more (one_more p.0.levels)), p.1)

abbrev pub named_local_function : Situation → (number : ℕ) → (name : Text) → Made
named_local_function s number name = option_map (local_function_of name) (take_body number s)

-- the one name and the one function of a `local function`
abbrev pub local_function_made : List Text → Situation → Made
local_function_made names s = option_and_then (λ number. option_and_then (named_local_function s number) (only_name names)) (only_function s.entries)

abbrev pub is_nil_entry : EntryValue → Bool
is_nil_entry (value_entry v) = is_nil v
is_nil_entry entry = false

-- it is no call and no `...`
abbrev pub is_one_value : EntryValue → Bool
is_one_value (value_entry v) = not (is_multiple v)
is_one_value entry = true

-- the last of these is a nil, alone or behind a value that cannot be several
abbrev pub ends_with_nil : Entries → Bool
ends_with_nil [] = false
ends_with_nil (last ∷ []) = is_nil_entry last
ends_with_nil (before ∷ last ∷ []) = is_nil_entry last && is_one_value before
ends_with_nil (entry ∷ entries) = ends_with_nil entries

-- the last of the values of so many locals is a nil that can be left out with the same words
abbrev pub has_last_nil : Entries → (count : ℕ) → Bool
has_last_nil entries count = (length entries == count) && ends_with_nil entries

abbrev pub without_nil : (count : ℕ) → Entries → Entries
without_nil count entries = if has_last_nil entries count then take (length entries - 1) entries ++ missing_entry ∷ [] else entries

abbrev pub local_of : List Text → (Wordings × ℕ × Situation) → (Statement × ℕ) × Situation
local_of names values = ((local_statement names values.0.words, one_more values.0.levels), values.2)

abbrev pub local_made : Function → List Text → (count : ℕ) → Situation → (Entries × Entries) → Made
local_made f names count s p = option_map (local_of names) (adjusted f count true s.taken (without_nil count p.0) (record s { entries = p.1 }))

abbrev pub statement_made : Function → (count : ℕ) → Situation → (itself : Bool) → List Text → Made
statement_made f count s true names = local_function_made names s
statement_made f count s false names = option_and_then (local_made f names count s) (take_from 0 s.entries)

-- ---- the step that declares so many locals, which start at a pc

abbrev pub and_captured : (first : ℕ) → (itself : Bool) → Scope → Scope
and_captured first true scope = capture_entry first scope
and_captured first false scope = scope

abbrev pub declared_by : Function → (at count first : ℕ) → (itself : Bool) → ((Statement × ℕ) × Situation) → Option (Drafted × Situation)
declared_by f at count first itself made =
    let s = made.1 in
    let draft = drafted (DraftKind.Declaration first count) at made.0.1 (statement_part made.0.0) s in
    option_map (λ scope. (draft, record s { scope = and_captured first itself scope })) (declare f.of.locals count at (Some s.step) s.scope)

abbrev pub locals_declared : Function → (at count : ℕ) → Situation → Option (Drafted × Situation)
locals_declared f at count s =
    let first = length s.scope.declared in
    let itself = captures_itself s.entries in
    option_and_then (declared_by f at count first itself) (option_and_then (statement_made f count s itself) (names_from f.of.locals first count))

-- ---- heads of loops

-- a loop has three hidden locals
abbrev pub hidden_count : ℕ
hidden_count = 3

abbrev pub are_named : List LocVar → (first second third : Text) → Bool
are_named (a ∷ b ∷ c ∷ []) first second third = bytes_eq a.name first && (bytes_eq b.name second && bytes_eq c.name third)
are_named locals first second third = false

-- whether it is the head of a loop over numbers
abbrev pub head_of : Op → List LocVar → Option Bool
head_of Op.ForPrep locals = if are_named locals (codes "(for index)") (codes "(for limit)") (codes "(for step)") then Some true else None
head_of Op.Jmp locals = if are_named locals (codes "(for generator)") (codes "(for state)") (codes "(for control)") then Some false else None
head_of op locals = None

-- so many from one of the list on, where there are as many
abbrev pub slice_of : List LocVar → (first count : ℕ) → List LocVar
slice_of locals first count = take count (drop first locals)

abbrev pub head_word : List LocVar → Word → Option (Word × Bool)
head_word locals w = option_map (λ numeric. (w, numeric)) (head_of w.instr.op locals)

-- the word at a pc behind the values of a loop, where so many locals start, from one of the list on
abbrev pub head_at : Function → (first count at : ℕ) → Option (Word × Bool)
head_at f first count at = if length (slice_of f.of.locals first count) == count then option_and_then (head_word (slice_of f.of.locals first count)) (word_at f at) else None

abbrev pub is_one : Expression → Bool
is_one (number_literal line (pos n)) = n == 1
is_one e = false

-- a step of 1 is left out
abbrev pub without_step_one : Expressions → Expressions
without_step_one no_expressions = no_expressions
without_step_one (expression e no_expressions) = if is_one e then no_expressions else expression e no_expressions
without_step_one (expression e rest) = expression e (without_step_one rest)

abbrev pub expression_count : Expressions → ℕ
expression_count no_expressions = 0
expression_count (expression e rest) = suc (expression_count rest)

-- the values of a loop over numbers are three single ones from the next free register on
abbrev pub fits_head : Word → (total : ℕ) → (numeric : Bool) → (Wordings × ℕ × Situation) → Bool
fits_head w total true values = (total == hidden_count) && ((expression_count values.0.words == hidden_count) && (w.instr.a == values.2.base))
fits_head w total false values = true

abbrev pub head_list : (numeric : Bool) → Wordings → Wordings
head_list true values = record values { words = without_step_one values.words }
head_list false values = values

abbrev pub head_checked : Word → (total : ℕ) → (numeric : Bool) → (Wordings × ℕ × Situation) → Option (Wordings × Situation)
head_checked w total numeric values = if fits_head w total numeric values then Some (head_list numeric values.0, values.2) else None

abbrev pub head_values_of : Function → Word → (numeric : Bool) → Situation → (Entries × Entries) → Option (Wordings × Situation)
head_values_of f w numeric s p =
    option_and_then (head_checked w (length p.0) numeric) (adjusted f hidden_count false s.taken p.0 (record s { entries = p.1 }))

-- the three values of a loop
abbrev pub head_values : Function → Word → (numeric : Bool) → Situation → Option (Wordings × Situation)
head_values f w numeric s = option_and_then (head_values_of f w numeric s) (take_from 0 s.entries)

abbrev pub loop_step : Function → Word → (numeric : Bool) → (first variables : ℕ) → (values : Wordings) → Situation → (names : List Text) → (foot : ℕ) → Drafted × Situation
loop_step f w numeric first variables values s names foot = (drafted (DraftKind.Head numeric foot first variables) w.next (one_more values.levels) (head_part values.words names) s, s)

abbrev pub variables_named : Function → Word → (numeric : Bool) → (first first_variable variables : ℕ) → (values : Wordings) → Situation → Option (Drafted × Situation)
variables_named f w numeric first first_variable variables values s =
    option_and_then (λ names. option_map (loop_step f w numeric first variables values s names) (target f w)) (names_from f.of.locals first_variable variables)

-- one variable of a loop over numbers, and one at least of any
abbrev pub fits_variables : (numeric : Bool) → (variables : ℕ) → Bool
fits_variables true variables = variables == 1
fits_variables false variables = nat_lt 0 variables

abbrev pub variables_declared : Function → Word → (numeric : Bool) → (first : ℕ) → (values : Wordings) → Situation → Scope → Option (Drafted × Situation)
variables_declared f w numeric first values s scope =
    let variables = starting f.of.locals w.next scope in
    if fits_variables numeric variables
    then option_and_then (λ behind. variables_named f w numeric first (length scope.declared) variables values (record s { scope = behind })) (declare f.of.locals variables w.next (Some s.step) scope)
    else None

abbrev pub with_head_values : Function → (at first : ℕ) → Word → (numeric : Bool) → (Wordings × Situation) → Option (Drafted × Situation)
with_head_values f at first w numeric values =
    option_and_then (variables_declared f w numeric first values.0 values.1) (declare f.of.locals hidden_count at (Some values.1.step) values.1.scope)

abbrev pub loop_of : Function → (at first : ℕ) → Situation → (Word × Bool) → Option (Drafted × Situation)
loop_of f at first s head = option_and_then (with_head_values f at first head.0 head.1) (head_values f head.0 head.1 s)

-- the head of a loop, where so many locals start at a pc
abbrev pub loop_head : Function → (at count : ℕ) → Situation → Option (Drafted × Situation)
loop_head f at count s =
    let first = length s.scope.declared in
    option_and_then (loop_of f at first s) (head_at f first count at)

-- ---- the step where so many locals start at a pc

abbrev pub declaration : Function → (at count : ℕ) → Situation → Option (Drafted × Situation)
declaration f at count s =
    if is_hidden f.of.locals (length s.scope.declared) then loop_head f at count s
    else if nat_lt (length s.entries) count then None
    else locals_declared f at count s
