-- Serves a body. Assignments, and statements of functions.
use Rattle.std.specs.Prelude.{◌&&◌, ◌-◌, ℕ, zero, suc, Bool, false, nat_le, nat_lt, max, List, [], ◌∷◌, ◌++◌, length, reverse, Option, None, Some, option_map, option_and_then, if◌then◌else◌}
use Rattle.std.specs.Str.{bytes_eq}
use Rattle.lua_num.specs.Bytes.{Text}
use Rattle.lua_tree.specs.Syntax.{FunctionBody, function_body, no_expressions, Statement, assignment, function_statement}
use Rattle.core_expr.specs.Counting.{one_more}
use Rattle.core_expr.specs.Held.{wordings_with}
use Rattle.core_expr.specs.Targets.{TargetValue, local_target, upvalue_target, global_target, index_target}
use Rattle.core_expr.specs.Values.{Value, function_value, OperandValue, constant_operand, value_operand, Inner}
use Rattle.core_expr.specs.Writing.{Wordings}
use Rattle.recover_expr.specs.Drafts.{Drafted, statement_part}
use Rattle.recover_expr.specs.Entries.{value_entry, Entries, part, place_in, take_from}
use Rattle.recover_expr.specs.Lists.{Straight, straight_value, straight_operand, assigned_values}
use Rattle.recover_expr.specs.Situation.{Function, Situation, constant_in, local_in, see, take_body, with_entries, word_at}
use Rattle.recover_expr.specs.Stores.{StoredValue, register_stored, operand_stored, Assigning, add_further, are_all, from_register, store_of, straight}
use Rattle.recover_expr.specs.Writing.{WroteList, ended, path_written, target_written}
use Rattle.recover_expr.specs.declared.draft.DraftKind.{DraftKind}
use Rattle.recover_expr.specs.declared.function.Word.{Word}
use Rattle.recover_expr.specs.declared.functions.Named.{Named}
use Rattle.recover_expr.specs.declared.stores.Place.{Place}
use Rattle.recover_expr.specs.declared.stores.Store.{Store}

-- ---- targets

abbrev pub held_at : Function → Situation → (register low : ℕ) → Option ℕ → Option (Value × Situation)
held_at f s r low None = option_map (λ v. (v, s)) (local_in f s r)
held_at f s r low (Some place) = if nat_lt place low then option_map (with_entries s) (part place s.entries) else None

-- the single value in a register as a part of a target, where the values that are stored stand from a place on
abbrev pub held : Function → (register low : ℕ) → Situation → Option (Value × Situation)
held f r low s = held_at f s r low (place_in s.base r)

abbrev pub held_operand : Function → (operand low : ℕ) → Situation → Option (OperandValue × Situation)
held_operand f o low s =
    if nat_le 256 o then option_map (λ k. (constant_operand k, s)) (constant_in f (o - 256))
    else option_map (λ p. (value_operand p.0, p.1)) (held f o low s)

abbrev pub index_to : Function → (key low : ℕ) → (Value × Situation) → Option (TargetValue × Situation)
index_to f key low on = option_map (λ p. (index_target on.0 p.0, p.1)) (held_operand f key low on.1)

abbrev pub target_of : Function → (low : ℕ) → Place → Situation → Option (TargetValue × Situation)
target_of f low (Place.Local r) s = Some (local_target r, s)
target_of f low (Place.Upvalue u) s = Some (upvalue_target u, s)
target_of f low (Place.Global k) s = Some (global_target k, s)
target_of f low (Place.Index on key) s = option_and_then (index_to f key low) (held f on low s)

-- behind these targets, those of these stores
abbrev pub targets_of : Function → (low : ℕ) → List Store → List TargetValue → Situation → Option (List TargetValue × Situation)
targets_of f low [] targets s = Some (targets, s)
targets_of f low (store ∷ stores) targets s = option_and_then (λ p. targets_of f low stores (targets ++ p.0 ∷ []) p.1) (target_of f low store.place s)

-- the targets, from the first on
abbrev pub targets : Function → (low : ℕ) → List Store → Situation → Option (List TargetValue × Situation)
targets f low stores s = targets_of f low (reverse stores) [] s

-- behind this list, these targets
abbrev pub targets_written : Function → List TargetValue → (Wordings × ℕ × Situation) → WroteList
targets_written f [] sofar = Some sofar
targets_written f (t ∷ ts) sofar = option_and_then (λ w. targets_written f ts (wordings_with sofar.0 w.0, w.1, w.2)) (target_written f sofar.1 t sofar.2)

-- targets need a level at least
abbrev pub no_targets : Wordings
no_targets = record { words = no_expressions; levels = 1 }

-- ---- a function that is stored to a path

-- a function that does not capture the register that it goes to
abbrev pub function_number : Value → Option ℕ
function_number (function_value number false) = Some number
function_number v = None

abbrev pub stored_function : Option Straight → Entries → Option ℕ
stored_function (Some (straight_value v)) entries = function_number v
stored_function None (value_entry v ∷ []) = function_number v
stored_function stored entries = None

abbrev pub view_named : Named → List Text × ℕ
view_named named = (named.path, named.number)

abbrev pub with_number : (number : ℕ) → Option (List Text) → Option (List Text × ℕ)
with_number number path = option_map (λ names. (names, number)) path

abbrev pub named_as : Function → Situation → List TargetValue → Option ℕ → Option (Option (List Text × ℕ))
named_as f s (target ∷ []) (Some number) = option_map (with_number number) (path_written f target s)
named_as f s targets number = Some None

-- the names that a function gets and its number, where a function statement can say the assignment of these values to these targets
abbrev pub named_function : Function → Situation → List TargetValue → Entries → Option Straight → Option (Option (List Text × ℕ))
named_function f s targets entries straight = named_as f s targets (stored_function straight entries)

abbrev pub self : Text
self = 115 ∷ 101 ∷ 108 ∷ 102 ∷ []

abbrev pub is_self : List Text → Bool
is_self [] = false
is_self (first ∷ params) = bytes_eq first self

abbrev pub takes_self : FunctionBody → Bool
takes_self (function_body params vararg block first last) = is_self params

abbrev pub all_but_first : List Text → List Text
all_but_first [] = []
all_but_first (first ∷ params) = params

abbrev pub without_self : FunctionBody → FunctionBody
without_self (function_body params vararg block first last) = function_body (all_but_first params) vararg block first last

abbrev pub last_name : List Text → Option Text
last_name [] = None
last_name (name ∷ []) = Some name
last_name (name ∷ names) = last_name names

abbrev pub names_before_last : List Text → List Text
names_before_last [] = []
names_before_last (name ∷ []) = []
names_before_last (name ∷ names) = name ∷ names_before_last names

-- a function whose first parameter is `self`, in a field, is a method
abbrev pub function_as : List Text → FunctionBody → Statement
function_as path body =
    if nat_lt 1 (length path) && takes_self body then function_statement (names_before_last path) (last_name path) (without_self body)
    else function_statement path None body

abbrev pub function_ended : List Text → (next : ℕ) → (Inner × Situation) → Drafted × Situation
function_ended path next p = ended DraftKind.Act next (one_more p.0.levels) (statement_part (function_as path p.0.body)) p.1

abbrev pub function_step : (next : ℕ) → Situation → (List Text × ℕ) → Option (Drafted × Situation)
function_step next s named = option_map (function_ended named.0 next) (take_body named.1 s)

-- ---- the statement of stores that are all read

abbrev pub assignment_ended : (next : ℕ) → (targets values : Wordings) → Situation → Drafted × Situation
assignment_ended next targets values s = ended DraftKind.Act next (max targets.levels values.levels) (statement_part (assignment targets.words values.words)) s

abbrev pub assignment_step : Function → List Store → Option Straight → (next : ℕ) → Entries → (Wordings × ℕ × Situation) → Option (Drafted × Situation)
assignment_step f stores straight next entries targets = option_map (λ values. assignment_ended next targets.0 values.0 values.2) (assigned_values f stores targets.1 entries straight targets.2)

abbrev pub as_statement : Function → List Store → Option Straight → (next : ℕ) → List TargetValue → Entries → Situation → Option (List Text × ℕ) → Option (Drafted × Situation)
as_statement f stores straight next targets entries s (Some named) = function_step next s named
as_statement f stores straight next targets entries s None = option_and_then (assignment_step f stores straight next entries) (targets_written f targets (no_targets, s.taken, s))

abbrev pub with_values : Function → List Store → Option Straight → (next : ℕ) → List TargetValue → Situation → (Entries × Entries) → Option (Drafted × Situation)
with_values f stores straight next targets s values =
    let s' = record s { entries = values.1 } in
    option_and_then (as_statement f stores straight next targets values.0 s') (named_function f s' targets values.0 straight)

abbrev pub with_targets : Function → Assigning → Option Straight → (next : ℕ) → (List TargetValue × Situation) → Option (Drafted × Situation)
with_targets f a straight next targets = option_and_then (with_values f a.stores straight next targets.0 targets.1) (take_from a.low targets.1.entries)

abbrev pub assigned : Function → Assigning → Option Straight → (next : ℕ) → Situation → Option (Drafted × Situation)
assigned f a straight next s = option_and_then (with_targets f a straight next) (targets f a.low a.stores s)

-- ---- the stores, until every register of the statement is used

abbrev pub and_further : Situation → Word → Assigning → (Store × StoredValue) → Option (Assigning × ℕ × Situation)
and_further s w a store = option_map (λ more. (more, w.next, s)) (add_further s.base store.0 store.1 a)

abbrev pub further_word : Function → Assigning → Situation → Word → Option (Assigning × ℕ × Situation)
further_word f a s w = option_and_then (and_further (see w.instr s) w a) (store_of f w (see w.instr s))

-- a further store at a pc, and the pc of the next word
abbrev pub further_store : Function → Assigning → (pc : ℕ) → Situation → Option (Assigning × ℕ × Situation)
further_store f a pc s = if nat_lt pc f.last then option_and_then (further_word f a s) (word_at f pc) else None

-- at most so many
abbrev pub further_stores : Function → (count : ℕ) → (Assigning × ℕ × Situation) → Option (Assigning × ℕ × Situation)
further_stores f zero p = Some p
further_stores f (suc count) p = if are_all p.0 then Some p else option_and_then (further_stores f count) (further_store f p.0 p.1 p.2)

abbrev pub assigned_from : Function → Option Straight → (next : ℕ) → Situation → Assigning → Option (Drafted × Situation)
assigned_from f straight next s a = option_and_then (λ p. assigned f p.0 straight p.1 p.2) (further_stores f (length s.entries) (a, next, s))

abbrev pub assignment_of : Function → Word → Situation → Store → StoredValue → Option (Drafted × Situation)
assignment_of f w s first (operand_stored o) = option_and_then (assigned_from f (Some (straight_operand o)) w.next s) (straight s.base (length s.entries) first)
assignment_of f w s first (register_stored place) = option_and_then (assigned_from f None w.next s) (from_register s.base (length s.entries) first place)

-- an assignment whose first store is a word
abbrev pub assignment_from : Function → Word → Situation → Option (Drafted × Situation)
assignment_from f w s = option_and_then (λ p. assignment_of f w s p.0 p.1) (store_of f w s)

abbrev pub value_assigned : Function → Word → Value → (next : ℕ) → Situation → Option (Drafted × Situation)
value_assigned f w v next s =
    let first : Store = record { pc = w.pc; place = Place.Local w.instr.a } in
    option_and_then (assigned_from f (Some (straight_value v)) next s) (straight s.base (length s.entries) first)

-- an assignment whose first store is that of a value that goes straight into a local
abbrev pub value_assignment : Function → Word → Value → (next : ℕ) → Situation → Option (Drafted × Situation)
value_assignment f w v next s = option_and_then (λ local. value_assigned f w v next s) (local_in f s w.instr.a)
