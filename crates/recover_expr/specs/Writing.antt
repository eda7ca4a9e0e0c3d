-- Serves a body. What is written of values at their place in a step.
use Rattle.std.specs.Prelude.{ℕ, List, Option, None, Some, if◌then◌else◌}
use Rattle.lua_num.specs.Bytes.{Text}
use Rattle.core_expr.specs.Counting.{one_more, taken_behind, taken_behind_values, taken_behind_operand, left_by, left_by_values, left_by_operand}
use Rattle.core_expr.specs.Targets.{TargetValue, word_target, taken_behind_target, left_by_target, can_write_target, Comparison, word_comparison, left_by_comparison, can_write_comparison, path_of, can_have_path}
use Rattle.core_expr.specs.Values.{Value, OperandValue}
use Rattle.core_expr.specs.Writing.{Wording, Wordings, word, word_values, word_operand, can_write, can_write_values, can_write_operand}
use Rattle.recover_expr.specs.Drafts.{Drafted, drafted, Part}
use Rattle.recover_expr.specs.Entries.{Listed}
use Rattle.recover_expr.specs.Situation.{Function, Situation, place_in_step, with_left}
use Rattle.recover_expr.specs.declared.draft.DraftKind.{DraftKind}

-- an expression or several, how many constants are taken behind it, and what is known then; none where it cannot be written
abbrev pub Wrote : Type 0
Wrote = Option (Wording × ℕ × Situation)

abbrev pub WroteList : Type 0
WroteList = Option (Wordings × ℕ × Situation)

abbrev pub value_written : Function → (taken : ℕ) → Value → Situation → Wrote
value_written f n v s =
    if can_write (place_in_step f s) s.left v then Some (word (place_in_step f s) n s.left v, taken_behind v n, with_left (left_by v s.left) s)
    else None

abbrev pub operand_written : Function → (taken : ℕ) → OperandValue → Situation → Wrote
operand_written f n o s =
    if can_write_operand (place_in_step f s) s.left o then Some (word_operand (place_in_step f s) n s.left o, taken_behind_operand o n, with_left (left_by_operand o s.left) s)
    else None

abbrev pub list_written : Function → (taken : ℕ) → Listed → Situation → WroteList
list_written f n list s =
    if can_write_values (place_in_step f s) s.left list.values
    then Some (word_values (place_in_step f s) n s.left list.values list.all, taken_behind_values list.values n, with_left (left_by_values list.values s.left) s)
    else None

abbrev pub target_written : Function → (taken : ℕ) → TargetValue → Situation → Wrote
target_written f n t s =
    if can_write_target (place_in_step f s) s.left t then Some (word_target (place_in_step f s) n s.left t, taken_behind_target t n, with_left (left_by_target t s.left) s)
    else None

abbrev pub comparison_written : Function → Comparison → Situation → Option (Wording × Situation)
comparison_written f c s =
    if can_write_comparison (place_in_step f s) s.taken s.left c
    then Some (word_comparison (place_in_step f s) s.taken s.left c, with_left (left_by_comparison (place_in_step f s) s.taken s.left c) s)
    else None

-- the names by which a function statement says a target, where it can; none where its variable has no name
abbrev pub path_written : Function → TargetValue → Situation → Option (Option (List Text))
path_written f t s = if can_have_path (place_in_step f s) t then Some (path_of (place_in_step f s) t) else None

-- the step that is read ends; it needs one level more than what it holds
abbrev pub ended : DraftKind → (next levels : ℕ) → Part → Situation → Drafted × Situation
ended kind next levels part s = (drafted kind next (one_more levels) part s, s)
