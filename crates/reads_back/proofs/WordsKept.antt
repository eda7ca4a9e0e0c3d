-- Words that make values, constructors, calls, returns and tests capture no locals.
use Rattle.std.proofs.Common.{◌≡◌, ℕ, suc, ◌+◌, ◌-◌, ◌&&◌, Bool, true, false, nat_le, nat_lt, [], ◌∷◌, ◌++◌, length, Option, Some, None, refl, max, option_and_then, option_map}
use Rattle.std.specs.Prelude.{◌==◌, slice_get, take}
use Rattle.opcode.specs.declared.op.Op.{Op}
use Rattle.lua_tree.specs.declared.tree.BinaryOp.{BinaryOp}
use Rattle.lua_tree.specs.declared.tree.UnaryOp.{UnaryOp}
use Rattle.core_expr.specs.Making.{and_last, depth_of, depth_of_operand, made_binary, made_call, made_concat, made_index, made_method, made_over, made_unary}
use Rattle.core_expr.specs.Values.{OperandValue, Value, Values, and_operand, and_value, binary_value, call_value, concat_value, index_value, method_value, no_items, no_operands, no_values, unary_value, vararg_value}
use Rattle.recover_expr.specs.Constructors.{item, item_at, maker_place, new_table, set_list, set_list_at}
use Rattle.recover_expr.specs.Declaring.{is_own_function}
use Rattle.recover_expr.specs.Entries.{EntryValue, Listed, is_at, is_method, is_temporary, maker_entry, missing_entry, method_entry, more, more_entry, open_entry, place_in, value_entry}
use Rattle.recover_expr.specs.Situation.{Function, Situation, constant_in, is_return, jump_behind, word_at}
use Rattle.recover_expr.specs.Testing.{TestedValue, alone, comparison, condition, test, tested_as, tested_by, tested_comparison, tested_value}
use Rattle.recover_expr.specs.Words.{arithmetic, call, call_made, call_written, concat, concat_of, far_method, far_self, get_table, gone, is_op_self, load_constant, load_nil, loaded, made_by, made_call_at, made_call_of, method, method_call, operator_of, plain_call, results, returned, returned_values, tail_call, unary, vararg, with_method, with_more, with_register}
use Rattle.recover_expr.specs.declared.function.Word.{Word}
use Rattle.reads_back.proofs.EachSome.{Each, each_if, each_map, each_next, each_none, each_of, each_some, each_then, each_there, each_where}
use Rattle.reads_back.proofs.OwnEntries.{list_items_none, none_appended, none_more, none_taken, set_next_none, take_at_none, take_list_none, take_method_none, take_singles_none, with_keyed_none}
use Rattle.reads_back.proofs.ScopesRead.{DoneAs, EndsKept, Keeps, comparison_kept, done_then, ended_kept, ends_kept, ends_then, gone_kept, keeps_entries, keeps_same, kept_then, list_kept, made_kept, pop_kept, pop_operand_kept, value_kept}

-- ---- values

-- no value that is made of others is a function that captures its own register
abbrev pub IsFree : Value → Type 0
IsFree v = is_own_function (value_entry v) ≡ false

over_free : (depth : ℕ) (make : ℕ → Value) → ((n : ℕ) → IsFree (make n)) → Each IsFree (made_over depth make)
over_free depth make all = each_where (nat_lt depth 400) (each_some (all (suc depth)))

index_free : (on : Value) (key : OperandValue) → Each IsFree (made_index on key)
index_free (index_value on keys depth) key = over_free (depth_of_operand key) (λ n. index_value on (and_last keys key) (max depth n)) (λ n. refl)
index_free on key = over_free (max (depth_of on) (depth_of_operand key)) (λ n. index_value on (and_operand key no_operands) n) (λ n. refl)

binary_free : (op : BinaryOp) (left right : OperandValue) → Each IsFree (made_binary op left right)
binary_free op left right = over_free _ (λ n. binary_value op left right n) (λ n. refl)

unary_free : (op : UnaryOp) (of : Value) → Each IsFree (made_unary op of)
unary_free op of = over_free _ (λ n. unary_value op of n) (λ n. refl)

concat_free : (operands : Values) → Each IsFree (made_concat operands)
concat_free operands = over_free _ (λ n. concat_value operands n) (λ n. refl)

call_free : (on : Value) (args : Values) (all : Bool) → Each IsFree (made_call on args all)
call_free on args all = over_free _ (λ n. call_value on args all n) (λ n. refl)

method_free : (on : Value) (name : ℕ) (args : Values) (all : Bool) → Each IsFree (made_method on name args all)
method_free on name args all = over_free _ (λ n. method_value on name args all n) (λ n. refl)

-- ---- registers that are set next

register_kept : (register : ℕ) (entry : EntryValue) (s : Situation) → is_own_function entry ≡ false → Each (Keeps s) (with_register register entry s)
register_kept register entry s is = each_map _ (set_next_none s.base register entry s.entries is) (λ entries less. keeps_entries s entries less)

more_kept : (count : ℕ) (entry : EntryValue) (s : Situation) → is_own_function entry ≡ false → Keeps s (with_more (more count entry) s)
more_kept count entry s is = keeps_entries s (s.entries ++ more count entry) (none_appended s.entries (more count entry) (none_more count entry is))

registers_kept : (register count : ℕ) (entry further : EntryValue) (s : Situation) → is_own_function entry ≡ false → is_own_function further ≡ false → Each (Keeps s) (option_map (with_more (more count further)) (with_register register entry s))
registers_kept register count entry further s is are = each_map _ (register_kept register entry s is) (λ t kept. kept_then kept (more_kept count further t are))

method_kept : (register : ℕ) (on : Value) (name : ℕ) (s : Situation) → Each (Keeps s) (with_method register on name s)
method_kept register on name s = each_map _ (register_kept register (method_entry on name) s refl) (λ t kept. kept_then kept (keeps_entries t (t.entries ++ more_entry ∷ []) (none_appended t.entries (more_entry ∷ []) refl)))

all_gone : (next : ℕ) (s : Situation) {o : Option Situation} → Each (Keeps s) o → Each (DoneAs [] s) (gone next o)
all_gone next s kept = each_map _ kept (λ t kept. gone_kept kept)

made_by_kept : (w : Word) {s t : Situation} {v : Option Value} → Keeps s t → Each IsFree v → Each (DoneAs [] s) (made_by w t v)
made_by_kept w kept free = each_map _ free (λ v is. made_kept kept is)

-- ---- SELF, and LOADK

self_kept : (f : Function) (w self : Word) (name : ℕ) (s : Situation) → Each (DoneAs [] s) (far_self f w name s self)
self_kept f w self name s = each_where (is_op_self self.instr.op && self.instr.c == w.instr.a) (each_then (pop_kept f self.instr.b s) (λ p kept.
    each_where (self.instr.a + 2 == w.instr.a) (each_of (all_gone self.next p.1 (method_kept self.instr.a p.0 name p.1)) (λ q done. done_then kept done))))

far_kept : (f : Function) (w : Word) (name : ℕ) (s : Situation) → Each (DoneAs [] s) (far_method f w name s)
far_kept f w name s = each_where (nat_lt w.next f.last) (each_next (word_at f w.next) (λ self. self_kept f w self name s))

pub constant_kept : (f : Function) (w : Word) (s : Situation) → Each (DoneAs [] s) (load_constant f w s)
constant_kept f w s = each_next (constant_in f w.instr.bx) (λ k. by k (place_in s.base w.instr.a))
  where
    by : (k : ℕ) (place : Option ℕ) → Each (DoneAs [] s) (loaded f w s place k)
    by k None = each_some (made_kept (keeps_same s) refl)
    by k (Some place) = each_if (nat_lt (length s.entries) place) (far_kept f w k s) (each_some (made_kept (keeps_same s) refl))

pub self_word_kept : (f : Function) (w : Word) (s : Situation) → Each (DoneAs [] s) (method f w s)
self_word_kept f w s = each_where (nat_le 256 w.instr.c) (each_next (constant_in f (w.instr.c - 256)) (λ name.
    each_then (pop_kept f w.instr.b s) (λ p kept. each_of (all_gone w.next p.1 (method_kept w.instr.a p.0 name p.1)) (λ q done. done_then kept done))))

-- ---- single values

pub nil_kept : (w : Word) (s : Situation) → Each (DoneAs [] s) (load_nil w s)
nil_kept w s =
    each_if (w.instr.a == w.instr.b) (each_some (made_kept (keeps_same s) refl))
    (each_where (nat_le w.instr.a w.instr.b) (all_gone w.next s (registers_kept w.instr.a (w.instr.b - w.instr.a) missing_entry missing_entry s refl refl)))

pub get_table_kept : (f : Function) (w : Word) (s : Situation) → Each (DoneAs [] s) (get_table f w s)
get_table_kept f w s = each_then (pop_operand_kept f w.instr.c s) (λ key kept. each_then (pop_kept f w.instr.b key.1) (λ on more. made_by_kept w (kept_then kept more) (index_free on.0 key.0)))

arithmetic_kept : (f : Function) (w : Word) (op : BinaryOp) (s : Situation) → Each (DoneAs [] s) (arithmetic f w op s)
arithmetic_kept f w op s = each_then (pop_operand_kept f w.instr.c s) (λ right kept. each_then (pop_operand_kept f w.instr.b right.1) (λ left more. made_by_kept w (kept_then kept more) (binary_free op left.0 right.0)))

unary_kept : (f : Function) (w : Word) (op : UnaryOp) (s : Situation) → Each (DoneAs [] s) (unary f w op s)
unary_kept f w op s = each_then (pop_kept f w.instr.b s) (λ of kept. made_by_kept w kept (unary_free op of.0))

concat_kept : (w : Word) (s : Situation) → Each (DoneAs [] s) (concat w s)
concat_kept w s = by (place_in s.base w.instr.b) (place_in s.base w.instr.c)
  where
    by : (first last : Option ℕ) → Each (DoneAs [] s) (concat_of w s first last)
    by None last = each_none
    by (Some first) None = each_none
    by (Some first) (Some last) = each_where (nat_lt first last && (length s.entries == suc last)) (each_then (take_singles_none first s.entries) (λ p less. made_by_kept w (keeps_entries s p.1 less) (concat_free p.0)))

pub operator_kept : (f : Function) (w : Word) (s : Situation) (op : Op) → Each (DoneAs [] s) (operator_of f w s op)
operator_kept f w s Op.Add = arithmetic_kept f w BinaryOp.Add s
operator_kept f w s Op.Sub = arithmetic_kept f w BinaryOp.Sub s
operator_kept f w s Op.Mul = arithmetic_kept f w BinaryOp.Mul s
operator_kept f w s Op.Div = arithmetic_kept f w BinaryOp.Div s
operator_kept f w s Op.Mod = arithmetic_kept f w BinaryOp.Rem s
operator_kept f w s Op.Pow = arithmetic_kept f w BinaryOp.Pow s
operator_kept f w s Op.Unm = unary_kept f w UnaryOp.Neg s
operator_kept f w s Op.Not = unary_kept f w UnaryOp.Not s
operator_kept f w s Op.Len = unary_kept f w UnaryOp.Len s
operator_kept f w s Op.Concat = concat_kept w s
operator_kept f w s op = each_none

pub vararg_kept : (w : Word) (s : Situation) → Each (DoneAs [] s) (vararg w s)
vararg_kept w s =
    each_if (w.instr.b == 0) (all_gone w.next s (register_kept w.instr.a (open_entry vararg_value) s refl))
    (each_if (w.instr.b == 1) each_none
    (each_if (w.instr.b == 2) (each_some (made_kept (keeps_same s) refl))
    (all_gone w.next s (registers_kept w.instr.a (w.instr.b - 2) (value_entry vararg_value) more_entry s refl refl))))

-- ---- calls

-- a value is taken off that captures nothing
record Taken (s : Situation) (p : Value × Situation) : Type 0 where
  kept : Keeps s p.1
  free : IsFree p.0

call_kept : (w : Word) (place : ℕ) (s : Situation) → Each (Taken s) (plain_call w place s)
call_kept w place s = each_then (take_list_none (place + 1) w.instr.b s.entries) (λ args less. each_then (take_at_none place args.1) (λ on fewer.
    each_map _ (call_free on.0 args.0.values args.0.all) (λ v is. record { kept = keeps_entries s on.1 (λ none. fewer (less none)); free = is })))

method_call_kept : (w : Word) (place : ℕ) (s : Situation) → Each (Taken s) (method_call w place s)
method_call_kept w place s = each_if (w.instr.b == 1) each_none (each_then (take_list_none (place + 2) (w.instr.b - 1) s.entries) (λ args less. each_then (take_method_none place args.1) (λ on fewer.
    each_map _ (method_free on.0.0 on.0.1 args.0.values args.0.all) (λ v is. record { kept = keeps_entries s on.1 (λ none. fewer (less none)); free = is }))))

made_call_kept : (w : Word) (s : Situation) → Each (Taken s) (made_call_of w s)
made_call_kept w s = by (place_in s.base w.instr.a)
  where
    by : (place : Option ℕ) → Each (Taken s) (made_call_at w s place)
    by None = each_none
    by (Some place) = each_if (is_at is_method (slice_get s.entries place)) (method_call_kept w place s) (call_kept w place s)

call_written_kept : (f : Function) (w : Word) (p : Value × Situation) → Each (EndsKept p.1) (call_written f w p)
call_written_kept f w p = each_where (length p.1.entries == 0) (each_map _ (value_kept f p.1.taken p.0 p.1) (λ call kept. ends_kept kept tt refl))

call_made_kept : (f : Function) (w : Word) (p : Value × Situation) → IsFree p.0 → Each (DoneAs [] p.1) (call_made f w p)
call_made_kept f w p free =
    each_if (w.instr.c == 0) (all_gone w.next p.1 (register_kept w.instr.a (open_entry p.0) p.1 refl))
    (each_if (w.instr.c == 1) (each_map _ (call_written_kept f w p) (λ ended kept. ended_kept kept))
    (all_gone w.next p.1 (registers_kept w.instr.a (w.instr.c - 2) (value_entry p.0) more_entry p.1 free refl)))

pub call_word_kept : (f : Function) (w : Word) (s : Situation) → Each (DoneAs [] s) (call f w s)
call_word_kept f w s = each_then (made_call_kept w s) (λ p taken. each_of (call_made_kept f w p taken.free) (λ q done. done_then taken.kept done))

-- ---- returns

values_kept : (f : Function) (next : ℕ) (list : Listed) (s : Situation) → Each (EndsKept s) (returned_values f next list s)
values_kept f next list s = each_map _ (list_kept f s.taken list s) (λ values kept. ends_kept kept tt refl)

pub tail_kept : (f : Function) (w : Word) (s : Situation) → Each (EndsKept s) (tail_call f w s)
tail_kept f w s = each_then (made_call_kept w s) (λ p taken. each_next (word_at f w.next) (λ behind.
    each_where ((nat_lt w.next f.last && is_return w.instr.a 0 behind.instr) && ((length p.1.entries == 0) && (w.instr.c == 0)))
    (each_of (values_kept f behind.next (record { values = and_value p.0 no_values; all = true }) p.1) (λ q ended. ends_then taken.kept ended))))

results_kept : (f : Function) (w : Word) (s : Situation) → Each (λ p. Keeps s p.1) (results f w s)
results_kept f w s =
    each_if (w.instr.b == 1) (each_where (w.instr.a == 0) (each_some (keeps_same s)))
    (each_if (w.instr.b == 2) (each_map _ (pop_kept f w.instr.a s) (λ p kept. kept))
    (each_where (w.instr.a == s.base) (each_map _ (take_list_none 0 w.instr.b s.entries) (λ p less. keeps_entries s p.1 less))))

pub returned_kept : (f : Function) (w : Word) (s : Situation) → Each (EndsKept s) (returned f w s)
returned_kept f w s = each_then (results_kept f w s) (λ p kept. each_where (length p.1.entries == 0) (each_of (values_kept f w.next p.0 p.1) (λ q ended. ends_then kept ended)))

-- ---- constructors

pub new_table_kept : (w : Word) (s : Situation) → Each (DoneAs [] s) (new_table w s)
new_table_kept w s = all_gone w.next s (register_kept w.instr.a (maker_entry no_items false) s refl)

pub item_kept : (f : Function) (w : Word) (s : Situation) → Each (DoneAs [] s) (item f w s)
item_kept f w s = by (maker_place w s.base s.entries)
  where
    by : (place : Option ℕ) → Each (DoneAs [] s) (item_at f w s place)
    by None = each_none
    by (Some place) = each_then (pop_operand_kept f w.instr.c s) (λ one kept. each_then (pop_operand_kept f w.instr.b one.1) (λ key more.
        all_gone w.next s (each_map _ (with_keyed_none place key.0 one.0 key.1.entries) (λ entries less. kept_then kept (kept_then more (keeps_entries key.1 entries less))))))

pub set_list_kept : (f : Function) (w : Word) (s : Situation) → Each (DoneAs [] s) (set_list f w s)
set_list_kept f w s = by (maker_place w s.base s.entries)
  where
    by : (place : Option ℕ) → Each (DoneAs [] s) (set_list_at f w s place)
    by None = each_none
    by (Some place) = each_then (list_items_none place w.instr.b s.entries) (λ entries less.
        each_map _ each_there (λ next is. gone_kept (keeps_entries s (take (place + 1) entries) (λ none. none_taken (place + 1) entries (less none)))))

-- ---- tests

comparison_word_kept : (f : Function) (w : Word) (op : BinaryOp) (s : Situation) → Each (λ p. Keeps s p.1) (comparison f w op s)
comparison_word_kept f w op s =
    each_if (is_temporary s.base w.instr.c && (is_temporary s.base w.instr.b && nat_lt w.instr.c w.instr.b))
    (each_then (pop_operand_kept f w.instr.b s) (λ left kept. each_map _ (pop_operand_kept f w.instr.c left.1) (λ right more. kept_then kept more)))
    (each_then (pop_operand_kept f w.instr.c s) (λ right kept. each_map _ (pop_operand_kept f w.instr.b right.1) (λ left more. kept_then kept more)))

tested_kept : (op : Op) (f : Function) (w : Word) (s : Situation) → Each (λ p. Keeps s p.1) (tested_as op f w s)
tested_kept Op.Eq f w s = comparison_word_kept f w BinaryOp.Eq s
tested_kept Op.Lt f w s = comparison_word_kept f w BinaryOp.Lt s
tested_kept Op.Le f w s = comparison_word_kept f w BinaryOp.Le s
tested_kept op f w s = each_map _ (pop_kept f w.instr.a s) (λ p kept. kept)

condition_kept : (f : Function) (v : TestedValue) (s : Situation) → Each (λ p. Keeps s p.1) (condition f v s)
condition_kept f (tested_value v) s = each_map _ (value_kept f s.taken v s) (λ p kept. kept)
condition_kept f (tested_comparison c) s = comparison_kept f c s

alone_kept : (f : Function) (w : Word) (s : Situation) → Each (λ p. Keeps s p.1) (option_and_then alone (tested_by f w s))
alone_kept f w s = each_then (tested_kept w.instr.op f w s) (λ p kept. each_where (length p.1.entries == 0) (each_some kept))

pub test_kept : (f : Function) (w : Word) (s : Situation) → Each (EndsKept s) (test f w s)
test_kept f w s = each_next (jump_behind f w) (λ jump.
    each_then (alone_kept f w s) (λ p kept.
    each_then (condition_kept f p.0 p.1) (λ q more. each_map _ each_there (λ to is. ends_kept (kept_then kept more) tt refl))))
