-- Serves the laws. What a call, an assignment, a declaration of locals or a return does, from the words of its parts, and how it is written.
use Rattle.std.specs.Prelude.{◌≡◌, ◌⊎◌, ◌&&◌, ◌==◌, nat_lt, not, is_some, slice_set, ℕ, suc, max, Bool, true, false, List, [], ◌∷◌, length, Option, Some, None, option_and_then, if◌then◌else◌}
use Rattle.lua_num.specs.Bytes.{Text}
use Rattle.lua_tree.specs.Names.{is_name}
use Rattle.lua_tree.specs.Syntax as syntax
use Rattle.lua_tree.specs.Syntax.{FunctionBody, Expressions, no_expressions, Expression, function_expression, parenthesized, name_expression, index_expression, field_expression, Statement, assignment, call_statement, local_statement, return_statement, local_function}
use Rattle.lua_tree.specs.WellFormed.{depth_of_body, depth_of_expression, depth_of_expressions, depth_of_statement}
use Rattle.proto.specs.declared.parts.Constant.{Constant}
use Rattle.core_expr.specs.Counting.{one_more, taken_behind, taken_behind_operand, taken_behind_values, left_by, left_by_operand, left_by_values, with_constant}
use Rattle.core_expr.specs.Held.{wordings_with}
use Rattle.core_expr.specs.Places.{Place}
use Rattle.core_expr.specs.Targets.{TargetValue, global_target, index_target, local_target, upvalue_target, path_of, word_target, taken_behind_target, left_by_target, can_write_target}
use Rattle.core_expr.specs.Values.{Value, nil_value, function_value, Values, no_values, and_value, OperandValue, value_operand, Inner}
use Rattle.core_expr.specs.Writing.{Wordings, and_wording, no_wordings, function_left, is_multiple, word, word_operand, word_values, can_write, can_write_operand, can_write_values}
use Rattle.recover_expr.specs.Assigning.{function_as, function_number, with_number}
use Rattle.recover_expr.specs.Entries.{Listed, and_last_value}
use Rattle.recover_expr.specs.Lists.{before_last, is_nil, split_last, value_count}
use Rattle.scheme.specs.Making.{Where, in_register, in_upvalue, in_globals}
use Rattle.scheme.specs.declared.making.Active.{Active}
use Rattle.scheme_stands.specs.Words.{Fn, Means, is_among}
use Rattle.proto.specs.Chunk.{own}
use Rattle.reads_back.specs.Coming.{Coming, IsOwnNext}
use Rattle.reads_back.specs.Cores.{Counted, HasNumber, core, IsCore, first_and, AreCores, IsOperand, IsKey, ends_open, IsPlainBody}
use Rattle.reads_back.specs.Straight.{IsActTargetBy, AreActTargetsBy, AssignsBy, IsActBy}

-- a call as a statement; values that go to targets, locals that are declared with values, or a return of values, where the last one gives all its values or one; behind the values that go to targets an operand may stand that goes to the last target, a part of a table
pub data Acted : Type 0 where
  called : Value → Acted
  assigned : List TargetValue → Values → (all : Bool) → (last : Option OperandValue) → Acted
  declared : List Text → Values → (all : Bool) → Acted
  returned : Values → (all : Bool) → Acted
  -- a local function that captures itself, with its number
  declared_function : Text → (number : ℕ) → Acted

-- what a name means, as a target
abbrev pub IsVariableTarget : Fn → Text → Where → TargetValue → Type 0
IsVariableTarget g text (in_register r) t = t ≡ local_target r
IsVariableTarget g text (in_upvalue slot) t = t ≡ upvalue_target slot
IsVariableTarget g text in_globals t = (number : ℕ) × HasNumber g (Constant.Text text) number × (t ≡ global_target number)

-- a name, or what is indexed with its key
abbrev pub IsTarget : Fn → List Active → Expression → Counted TargetValue
IsTarget g active (name_expression line text) before behind t = (behind ≡ before) × (w : Where) × Means g.law active text w × IsVariableTarget g text w t
IsTarget g active (index_expression line on key) before behind (index_target o k) = (mid : ℕ) × IsCore g active on before mid o × IsOperand g active key mid behind k
IsTarget g active (field_expression line on text) before behind (index_target o k) = (mid : ℕ) × IsCore g active on before mid o × IsKey g text mid behind k
IsTarget g active e before behind t = ⊥

abbrev pub AreTargets : Fn → List Active → Expressions → Counted (List TargetValue)
AreTargets g active no_expressions before behind [] = behind ≡ before
AreTargets g active (syntax.expression e es) before behind (t ∷ ts) = (mid : ℕ) × IsTarget g active e before mid t × AreTargets g active es mid behind ts
AreTargets g active es before behind ts = ⊥

-- the last one is a nil, alone or behind a value that cannot be several
abbrev pub ends_with_nil : Values → Bool
ends_with_nil no_values = false
ends_with_nil (and_value last no_values) = is_nil last
ends_with_nil (and_value before (and_value last no_values)) = is_nil last && not (is_multiple before)
ends_with_nil (and_value v rest) = ends_with_nil rest

-- a word that clears one register is read as a nil
abbrev pub with_nil : (missing_one : Bool) → Values → Values
with_nil true vs = and_last_value vs nil_value
with_nil false vs = vs

-- a last nil is left out where it is one that is missing, with the same words
abbrev pub without_nil : (left_out : Bool) → Values → Listed
without_nil true vs = record { values = before_last (split_last vs); all = false }
without_nil false vs = record { values = vs; all = true }

-- several registers that a word clears are missing
abbrev pub filled : (missing_some : Bool) → (count : ℕ) → (missing_one : Bool) → Values → Listed
filled true count missing_one vs = record { values = vs; all = false }
filled false count missing_one vs = let all = with_nil missing_one vs in without_nil ((value_count all == count) && ends_with_nil all) all

-- the values of so many locals as they are read and written: they are fewer, or the last one may give several
abbrev pub declared_values : (count : ℕ) → (is_open : Bool) → Values → Listed
declared_values count is_open vs = filled (not is_open && nat_lt (suc (value_count vs)) count) count (not is_open && (suc (value_count vs) == count)) vs

-- what is written of the values of an assignment
pub record Assigned : Type 0 where
  pub values : Values
  pub all : Bool
  pub last : Option OperandValue

abbrev pub last_target : List TargetValue → Option TargetValue
last_target [] = None
last_target (t ∷ []) = Some t
last_target (t ∷ u ∷ ts) = last_target (u ∷ ts)

abbrev pub is_part : Option TargetValue → Bool
is_part (Some (index_target on key)) = true
is_part t = false

-- a nil that is missing has the words of one that is written, but where it goes to a local
abbrev pub with_last_nil : Option TargetValue → Values → Assigned
with_last_nil (Some (local_target r)) vs = record { values = vs; all = false; last = None }
with_last_nil (Some (index_target on key)) vs = record { values = vs; all = true; last = Some (value_operand nil_value) }
with_last_nil t vs = record { values = and_last_value vs nil_value; all = true; last = None }

abbrev pub some_missing : (one : Bool) → Option TargetValue → Values → Assigned
some_missing true t vs = with_last_nil t vs
some_missing false t vs = record { values = vs; all = false; last = None }

-- the values for so many targets: where they are fewer and the last one cannot give several, nils are missing
abbrev pub values_assigned : (count : ℕ) → Option TargetValue → (is_open : Bool) → Values → Assigned
values_assigned count t is_open vs =
    if not is_open && nat_lt (value_count vs) count then some_missing (suc (value_count vs) == count) t vs
    else record { values = vs; all = true; last = None }

-- values, and an operand behind them
abbrev pub EndWithOperand : Fn → List Active → Expressions → OperandValue → Counted Values
EndWithOperand g active no_expressions o before behind vs = ⊥
EndWithOperand g active (syntax.expression e no_expressions) o before behind vs = (vs ≡ no_values) × IsOperand g active e before behind o
EndWithOperand g active (syntax.expression e (syntax.expression d es)) o before behind vs = first_and (core g active e).value (EndWithOperand g active (syntax.expression d es) o) before behind vs

-- as many values as targets, of which the last one goes to a part of a table
abbrev pub AreWithOperand : Fn → List Active → List TargetValue → Expressions → Counted Assigned
AreWithOperand g active ts es before behind to =
    (is_part (last_target ts) ≡ true) × (suc (value_count to.values) ≡ length ts) × (o : OperandValue) × EndWithOperand g active es o before behind to.values × (to.all ≡ true) × (to.last ≡ Some o)

abbrev pub AreValues : Fn → List Active → List TargetValue → Expressions → Counted Assigned
AreValues g active ts es before behind to =
    (from : Values) × AreCores g active es before behind from × ((is_part (last_target ts) && (value_count from == length ts)) ≡ false) × (values_assigned (length ts) (last_target ts) (ends_open es) from ≡ to)

abbrev pub AreAssigned : Fn → List Active → (targets es : Expressions) → List TargetValue → Counted Assigned
AreAssigned g active targets es ts before behind to = (mid : ℕ) × AreTargets g active targets before mid ts × (AreWithOperand g active ts es mid behind to ⊎ AreValues g active ts es mid behind to)

-- the next function that is made is that of a local which is active in it, and this is so of whether it captures that local
abbrev pub IsOwnMade : Fn → List Active → Text → FunctionBody → (before behind : ℕ) → (Is : (itself : Bool) → Type 0) → Type 0
IsOwnMade g active text body before behind Is = (behind ≡ suc before) × (c : Coming) × (c.functions ≡ before) × (made : IsOwnNext g active text body c) × Is (is_among text (own made.next.chunk).upvalue_names)

abbrev pub IsActed : Fn → List Active → Statement → Counted Acted
IsActed g active (call_statement e) before behind (called v) = IsCore g active e before behind v
IsActed g active (assignment targets es) before behind (assigned ts vs all last) = AreAssigned g active targets es ts before behind (record { values = vs; all = all; last = last })
IsActed g active (local_statement names es) before behind (declared others vs all) =
    (others ≡ names) × (from : Values) × AreCores g active es before behind from × (declared_values (length names) (ends_open es) from ≡ record { values = vs; all = all })
IsActed g active (local_function text body) before behind (declared names vs all) = IsOwnMade g active text body before behind (λ itself. (itself ≡ false) × (names ≡ text ∷ []) × (vs ≡ and_value (function_value before false) no_values) × (all ≡ true))
IsActed g active (local_function text body) before behind (declared_function name number) = IsOwnMade g active text body before behind (λ itself. (itself ≡ true) × (name ≡ text) × (number ≡ before))
IsActed g active (return_statement es) before behind (returned vs all) = AreCores g active es before behind vs × (all ≡ ends_open es)
IsActed g active statement before behind acted = ⊥

-- ---- how it is written

abbrev pub words_targets : Place → ℕ → List (Option Inner) → List TargetValue → Wordings
words_targets at n fs [] = no_wordings
words_targets at n fs (t ∷ ts) = and_wording (word_target at n fs t) (words_targets at (taken_behind_target t n) (left_by_target t fs) ts)

abbrev pub taken_behind_targets : List TargetValue → ℕ → ℕ
taken_behind_targets [] n = n
taken_behind_targets (t ∷ ts) n = taken_behind_targets ts (taken_behind_target t n)

abbrev pub left_by_targets : List TargetValue → List (Option Inner) → List (Option Inner)
left_by_targets [] fs = fs
left_by_targets (t ∷ ts) fs = left_by_targets ts (left_by_target t fs)

abbrev pub can_write_targets : Place → List (Option Inner) → List TargetValue → Bool
can_write_targets at fs [] = true
can_write_targets at fs (t ∷ ts) = can_write_target at fs t && can_write_targets at (left_by_target t fs) ts

abbrev pub words_assigned : Place → ℕ → List (Option Inner) → Values → (all : Bool) → (last : Option OperandValue) → Wordings
words_assigned at n fs vs all None = word_values at n fs vs all
words_assigned at n fs vs all (Some o) = wordings_with (word_values at n fs vs all) (word_operand at (taken_behind_values vs n) (left_by_values vs fs) o)

abbrev pub taken_behind_last : Option OperandValue → ℕ → ℕ
taken_behind_last None n = n
taken_behind_last (Some o) n = taken_behind_operand o n

abbrev pub left_by_last : Option OperandValue → List (Option Inner) → List (Option Inner)
left_by_last None fs = fs
left_by_last (Some o) fs = left_by_operand o fs

abbrev pub can_write_last : Place → List (Option Inner) → Option OperandValue → Bool
can_write_last at fs None = true
can_write_last at fs (Some o) = can_write_operand at fs o

-- the number of a function that is all of these values
abbrev pub function_in : Values → (last : Option OperandValue) → Option ℕ
function_in (and_value v no_values) None = function_number v
function_in no_values (Some (value_operand v)) = function_number v
function_in vs last = None

abbrev pub path_to : Place → List TargetValue → Option (List Text)
path_to at (t ∷ []) = path_of at t
path_to at ts = None

-- a function that goes alone to one target with a path is said by it
abbrev pub named_by : Place → List TargetValue → Values → (last : Option OperandValue) → Option (List Text × ℕ)
named_by at ts vs last = option_and_then (λ number. with_number number (path_to at ts)) (function_in vs last)

abbrev pub said_by : Option Inner → List Text → (otherwise : Statement) → Statement
said_by None path otherwise = otherwise
said_by (Some found) path otherwise = function_as path found.body

abbrev pub levels_by : Option Inner → (otherwise : ℕ) → ℕ
levels_by None otherwise = otherwise
levels_by (Some found) otherwise = one_more (one_more found.levels)

-- a local function, where its function is left
abbrev pub local_by : Text → Option Inner → Statement
local_by text None = local_statement (text ∷ []) no_expressions
local_by text (Some found) = local_function text found.body

abbrev pub named_or : List (Option Inner) → Option (List Text × ℕ) → (otherwise : Statement) → Statement
named_or fs None otherwise = otherwise
named_or fs (Some named) otherwise = said_by (function_left fs named.1) named.0 otherwise

abbrev pub levels_or : List (Option Inner) → Option (List Text × ℕ) → (otherwise : ℕ) → ℕ
levels_or fs None otherwise = otherwise
levels_or fs (Some named) otherwise = levels_by (function_left fs named.1) otherwise

abbrev pub assigned_statement : Place → ℕ → List (Option Inner) → List TargetValue → Values → (all : Bool) → (last : Option OperandValue) → Statement
assigned_statement at n fs ts vs all last = assignment (words_targets at n fs ts).words (words_assigned at (taken_behind_targets ts n) (left_by_targets ts fs) vs all last).words

abbrev pub assigned_levels : Place → ℕ → List (Option Inner) → List TargetValue → Values → (all : Bool) → (last : Option OperandValue) → ℕ
assigned_levels at n fs ts vs all last = one_more (max (max 1 (words_targets at n fs ts).levels) (words_assigned at (taken_behind_targets ts n) (left_by_targets ts fs) vs all last).levels)

abbrev pub act_statement : Place → ℕ → List (Option Inner) → Acted → Statement
act_statement at n fs (called v) = call_statement (word at n fs v).words
act_statement at n fs (assigned ts vs all last) = named_or fs (named_by at ts vs last) (assigned_statement at n fs ts vs all last)
act_statement at n fs (declared names vs all) = local_statement names (word_values at n fs vs all).words
act_statement at n fs (declared_function text number) = local_by text (function_left fs number)
act_statement at n fs (returned vs all) = return_statement (word_values at n fs vs all).words

abbrev pub act_levels : Place → ℕ → List (Option Inner) → Acted → ℕ
act_levels at n fs (called v) = one_more (word at n fs v).levels
act_levels at n fs (assigned ts vs all last) = levels_or fs (named_by at ts vs last) (assigned_levels at n fs ts vs all last)
act_levels at n fs (declared names vs all) = one_more (word_values at n fs vs all).levels
act_levels at n fs (declared_function text number) = levels_by (function_left fs number) 1
act_levels at n fs (returned vs all) = one_more (word_values at n fs vs all).levels

abbrev pub can_act : Place → List (Option Inner) → Acted → Bool
can_act at fs (called v) = can_write at fs v
can_act at fs (assigned ts vs all last) = can_write_targets at fs ts && (can_write_values at (left_by_targets ts fs) vs && can_write_last at (left_by_values vs (left_by_targets ts fs)) last)
can_act at fs (declared names vs all) = can_write_values at fs vs
can_act at fs (declared_function text number) = is_some (function_left fs number)
can_act at fs (returned vs all) = can_write_values at fs vs

abbrev pub left_by_act : Acted → List (Option Inner) → List (Option Inner)
left_by_act (called v) fs = left_by v fs
left_by_act (assigned ts vs all last) fs = left_by_last last (left_by_values vs (left_by_targets ts fs))
left_by_act (declared names vs all) fs = left_by_values vs fs
left_by_act (declared_function text number) fs = slice_set fs number None
left_by_act (returned vs all) fs = left_by_values vs fs

-- the name of a global is taken by its store, behind the values
abbrev pub named_behind : TargetValue → ℕ → ℕ
named_behind (global_target k) n = with_constant n k
named_behind t n = n

-- from the last one on
abbrev pub all_named_behind : List TargetValue → ℕ → ℕ
all_named_behind [] n = n
all_named_behind (t ∷ ts) n = named_behind t (all_named_behind ts n)

abbrev pub taken_behind_act : Acted → ℕ → ℕ
taken_behind_act (called v) n = taken_behind v n
taken_behind_act (assigned ts vs all last) n = all_named_behind ts (taken_behind_last last (taken_behind_values vs (taken_behind_targets ts n)))
taken_behind_act (declared names vs all) n = taken_behind_values vs n
taken_behind_act (declared_function text number) n = n
taken_behind_act (returned vs all) n = taken_behind_values vs n

-- ---- statements that are such

abbrev pub IsActTarget : Expression → Type 0
IsActTarget e = IsActTargetBy IsPlainBody e

abbrev pub AreActTargets : Expressions → Type 0
AreActTargets es = AreActTargetsBy IsPlainBody es

abbrev pub Assigns : (to from : Expressions) → Type 0
Assigns to from = AssignsBy IsPlainBody to from

abbrev pub IsAct : Statement → Type 0
IsAct s = IsActBy IsPlainBody s

-- ---- how deep they are

-- a name with fields behind it, that are named
abbrev pub is_path : Expression → Bool
is_path (name_expression line text) = is_name text
is_path (field_expression line on text) = is_path on && is_name text
is_path e = false

-- a path that a function goes to does not count
abbrev pub lean_assignment : (targets es : Expressions) → ℕ
lean_assignment (syntax.expression target no_expressions) (syntax.expression (function_expression line body) no_expressions) = if is_path target then suc (depth_of_body body) else max (depth_of_expression target) (suc (depth_of_body body))
lean_assignment targets es = max (depth_of_expressions targets) (depth_of_expressions es)

abbrev pub lean_depth : Statement → ℕ
lean_depth (assignment targets es) = lean_assignment targets es
lean_depth s = depth_of_statement s
