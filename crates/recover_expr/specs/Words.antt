-- Serves a body. What each word of a statement does to what is known: those that make values, and calls and returns.
use Rattle.std.specs.Prelude.{◌==◌, ◌&&◌, ◌+◌, ◌-◌, ℕ, suc, Bool, true, false, nat_le, nat_lt, [], ◌∷◌, ◌++◌, length, slice_get, Option, None, Some, option_map, option_and_then, if◌then◌else◌}
use Rattle.lua_tree.specs.declared.tree.BinaryOp.{BinaryOp}
use Rattle.lua_tree.specs.declared.tree.UnaryOp.{UnaryOp}
use Rattle.opcode.specs.declared.op.Op.{Op}
use Rattle.lua_tree.specs.Syntax.{call_statement}
use Rattle.core_expr.specs.Values.{Value, nil_value, vararg_value, constant_value, Values, no_values, and_value, OperandValue}
use Rattle.core_expr.specs.Writing.{Wording, Wordings}
use Rattle.core_expr.specs.Making.{made_index, made_binary, made_unary, made_concat, made_call, made_method}
use Rattle.recover_expr.specs.Entries.{EntryValue, value_entry, more_entry, missing_entry, open_entry, method_entry, Entries, Listed, is_at, is_method, place_in, set_next, more, take_singles, take_at, take_method, take_list}
use Rattle.recover_expr.specs.Situation.{Function, Situation, constant_in, is_return, pop, pop_operand, word_at}
use Rattle.recover_expr.specs.Drafts.{Did, makes, goes, ends, Drafted, statement_part, values_part}
use Rattle.recover_expr.specs.Writing.{value_written, list_written, ended}
use Rattle.recover_expr.specs.declared.draft.DraftKind.{DraftKind}
use Rattle.recover_expr.specs.declared.function.Word.{Word}

-- what a word does, and what is known behind it; none where it is of no source
abbrev pub Done : Type 0
Done = Option (Did × Situation)

abbrev pub made_by : Word → Situation → Option Value → Done
made_by w s v = option_map (λ v. (makes v w.next, s)) v

abbrev pub gone : (next : ℕ) → Option Situation → Done
gone next s = option_map (λ s. (goes next, s)) s

-- the next free register is set, where it is this one
abbrev pub with_register : (register : ℕ) → EntryValue → Situation → Option Situation
with_register r entry s = option_map (λ es. record s { entries = es }) (set_next s.base r entry s.entries)

abbrev pub with_more : Entries → Situation → Situation
with_more es s = record s { entries = s.entries ++ es }

-- ---- SELF, and the LOADK of a name whose number has no place in it

-- a method takes two registers
abbrev pub with_method : (register : ℕ) → Value → (name : ℕ) → Situation → Option Situation
with_method a on name s = option_map (with_more (more_entry ∷ [])) (with_register a (method_entry on name) s)

abbrev pub is_op_self : Op → Bool
is_op_self Op.Self_ = true
is_op_self op = false

abbrev pub far_method_on : Word → (name : ℕ) → Word → (Value × Situation) → Done
far_method_on w name self p = if self.instr.a + 2 == w.instr.a then gone self.next (with_method self.instr.a p.0 name p.1) else None

abbrev pub far_self : Function → Word → (name : ℕ) → Situation → Word → Done
far_self f w name s self = if is_op_self self.instr.op && self.instr.c == w.instr.a then option_and_then (far_method_on w name self) (pop f self.instr.b s) else None

-- the SELF behind a LOADK of its name, past its two registers
abbrev pub far_method : Function → Word → (name : ℕ) → Situation → Done
far_method f w name s = if nat_lt w.next f.last then option_and_then (far_self f w name s) (word_at f w.next) else None

abbrev pub loaded : Function → Word → Situation → Option ℕ → (number : ℕ) → Done
loaded f w s None k = Some (makes (constant_value k) w.next, s)
loaded f w s (Some place) k = if nat_lt (length s.entries) place then far_method f w k s else Some (makes (constant_value k) w.next, s)

abbrev pub load_constant : Function → Word → Situation → Done
load_constant f w s = option_and_then (loaded f w s (place_in s.base w.instr.a)) (constant_in f w.instr.bx)

abbrev pub method_named : Function → Word → Situation → (name : ℕ) → Done
method_named f w s name = option_and_then (λ p. gone w.next (with_method w.instr.a p.0 name p.1)) (pop f w.instr.b s)

abbrev pub method : Function → Word → Situation → Done
method f w s = if nat_le 256 w.instr.c then option_and_then (method_named f w s) (constant_in f (w.instr.c - 256)) else None

-- ---- single values

-- a nil, or several missing values
abbrev pub load_nil : Word → Situation → Done
load_nil w s =
    if w.instr.a == w.instr.b then Some (makes nil_value w.next, s)
    else if nat_le w.instr.a w.instr.b then gone w.next (option_map (with_more (more (w.instr.b - w.instr.a) missing_entry)) (with_register w.instr.a missing_entry s))
    else None

abbrev pub get_table_key : Function → Word → (OperandValue × Situation) → Done
get_table_key f w key = option_and_then (λ on. made_by w on.1 (made_index on.0 key.0)) (pop f w.instr.b key.1)

abbrev pub get_table : Function → Word → Situation → Done
get_table f w s = option_and_then (get_table_key f w) (pop_operand f w.instr.c s)

abbrev pub arithmetic_right : Function → Word → BinaryOp → (OperandValue × Situation) → Done
arithmetic_right f w op right = option_and_then (λ left. made_by w left.1 (made_binary op left.0 right.0)) (pop_operand f w.instr.b right.1)

abbrev pub arithmetic : Function → Word → BinaryOp → Situation → Done
arithmetic f w op s = option_and_then (arithmetic_right f w op) (pop_operand f w.instr.c s)

abbrev pub unary : Function → Word → UnaryOp → Situation → Done
unary f w op s = option_and_then (λ of. made_by w of.1 (made_unary op of.0)) (pop f w.instr.b s)

abbrev pub concat_from : Word → Situation → (Values × Entries) → Done
concat_from w s p = made_by w (record s { entries = p.1 }) (made_concat p.0)

abbrev pub concat_of : Word → Situation → Option ℕ → Option ℕ → Done
concat_of w s None last = None
concat_of w s (Some first) None = None
concat_of w s (Some first) (Some last) = if nat_lt first last && (length s.entries == suc last) then option_and_then (concat_from w s) (take_singles first s.entries) else None

-- CONCAT, of the values from one register up to the highest
abbrev pub concat : Word → Situation → Done
concat w s = concat_of w s (place_in s.base w.instr.b) (place_in s.base w.instr.c)

-- a word of an operator
abbrev pub operator_of : Function → Word → Situation → Op → Done
operator_of f w s Op.Add = arithmetic f w BinaryOp.Add s
operator_of f w s Op.Sub = arithmetic f w BinaryOp.Sub s
operator_of f w s Op.Mul = arithmetic f w BinaryOp.Mul s
operator_of f w s Op.Div = arithmetic f w BinaryOp.Div s
operator_of f w s Op.Mod = arithmetic f w BinaryOp.Rem s
operator_of f w s Op.Pow = arithmetic f w BinaryOp.Pow s
operator_of f w s Op.Unm = unary f w UnaryOp.Neg s
operator_of f w s Op.Not = unary f w UnaryOp.Not s
operator_of f w s Op.Len = unary f w UnaryOp.Len s
operator_of f w s Op.Concat = concat w s
operator_of f w s op = None

abbrev pub operator : Function → Word → Situation → Done
operator f w s = operator_of f w s w.instr.op

-- `...`, for one value, so many, or all
abbrev pub vararg : Word → Situation → Done
vararg w s =
    if w.instr.b == 0 then gone w.next (with_register w.instr.a (open_entry vararg_value) s)
    else if w.instr.b == 1 then None
    else if w.instr.b == 2 then Some (makes vararg_value w.next, s)
    else gone w.next (option_map (with_more (more (w.instr.b - 2) more_entry)) (with_register w.instr.a (value_entry vararg_value) s))

-- ---- calls

abbrev pub with_entries : Situation → Entries → Option Value → Option (Value × Situation)
with_entries s es v = option_map (λ v. (v, record s { entries = es })) v

abbrev pub call_on : Situation → Listed → (Value × Entries) → Option (Value × Situation)
call_on s args on = with_entries s on.1 (made_call on.0 args.values args.all)

abbrev pub plain_call : Word → (place : ℕ) → Situation → Option (Value × Situation)
plain_call w place s = option_and_then (λ args. option_and_then (call_on s args.0) (take_at place args.1)) (take_list (place + 1) w.instr.b s.entries)

abbrev pub method_on : Situation → Listed → ((Value × ℕ) × Entries) → Option (Value × Situation)
method_on s args m = with_entries s m.1 (made_method m.0.0 m.0.1 args.values args.all)

-- a field of a method call counts the value of the method too
abbrev pub method_call : Word → (place : ℕ) → Situation → Option (Value × Situation)
method_call w place s =
    if w.instr.b == 1 then None
    else option_and_then (λ args. option_and_then (method_on s args.0) (take_method place args.1)) (take_list (place + 2) (w.instr.b - 1) s.entries)

abbrev pub made_call_at : Word → Situation → Option ℕ → Option (Value × Situation)
made_call_at w s None = None
made_call_at w s (Some place) = if is_at is_method (slice_get s.entries place) then method_call w place s else plain_call w place s

-- the call of the function or the method in the register A, with the arguments behind it
abbrev pub made_call_of : Word → Situation → Option (Value × Situation)
made_call_of w s = made_call_at w s (place_in s.base w.instr.a)

-- ---- calls and returns that end a step

abbrev pub call_ended : Word → (Wording × ℕ × Situation) → Drafted × Situation
call_ended w call = ended DraftKind.Act w.next call.0.levels (statement_part (call_statement call.0.words)) call.2

abbrev pub call_written : Function → Word → (Value × Situation) → Option (Drafted × Situation)
call_written f w p = if length p.1.entries == 0 then option_map (call_ended w) (value_written f p.1.taken p.0 p.1) else None

abbrev pub as_end : (Drafted × Situation) → Did × Situation
as_end p = (ends p.0, p.1)

-- a statement, or one value, so many, or all
abbrev pub call_made : Function → Word → (Value × Situation) → Done
call_made f w p =
    if w.instr.c == 0 then gone w.next (with_register w.instr.a (open_entry p.0) p.1)
    else if w.instr.c == 1 then option_map as_end (call_written f w p)
    else gone w.next (option_map (with_more (more (w.instr.c - 2) more_entry)) (with_register w.instr.a (value_entry p.0) p.1))

abbrev pub call : Function → Word → Situation → Done
call f w s = option_and_then (call_made f w) (made_call_of w s)

abbrev pub return_ended : (next : ℕ) → (Wordings × ℕ × Situation) → Drafted × Situation
return_ended next values = ended DraftKind.Return next values.0.levels (values_part values.0.words) values.2

abbrev pub returned_values : Function → (next : ℕ) → Listed → Situation → Option (Drafted × Situation)
returned_values f next list s = option_map (return_ended next) (list_written f s.taken list s)

abbrev pub tail_written : Function → Word → (Value × Situation) → Word → Option (Drafted × Situation)
tail_written f w p behind =
    if (nat_lt w.next f.last && is_return w.instr.a 0 behind.instr) && ((length p.1.entries == 0) && (w.instr.c == 0))
    then returned_values f behind.next (record { values = and_value p.0 no_values; all = true }) p.1
    else None

abbrev pub tail_made : Function → Word → (Value × Situation) → Option (Drafted × Situation)
tail_made f w p = option_and_then (tail_written f w p) (word_at f w.next)

-- TAILCALL, with the RETURN behind it
abbrev pub tail_call : Function → Word → Situation → Option (Drafted × Situation)
tail_call f w s = option_and_then (tail_made f w) (made_call_of w s)

abbrev pub listed_at : Situation → (Listed × Entries) → Listed × Situation
listed_at s p = (p.0, record s { entries = p.1 })

-- the values of a RETURN: none, one in any register, or several from the next free register on
abbrev pub results : Function → Word → Situation → Option (Listed × Situation)
results f w s =
    if w.instr.b == 1 then (if w.instr.a == 0 then Some (record { values = no_values; all = false }, s) else None)
    else if w.instr.b == 2 then option_map (λ p. (record { values = and_value p.0 no_values; all = false }, p.1)) (pop f w.instr.a s)
    else if w.instr.a == s.base then option_map (listed_at s) (take_list 0 w.instr.b s.entries)
    else None

abbrev pub results_written : Function → Word → (Listed × Situation) → Option (Drafted × Situation)
results_written f w p = if length p.1.entries == 0 then returned_values f w.next p.0 p.1 else None

abbrev pub returned : Function → Word → Situation → Option (Drafted × Situation)
returned f w s = option_and_then (results_written f w) (results f w s)
