-- Words that make values, constructors, calls, returns and tests pass on a function that captures its own register, and end no step with it.
use Rattle.std.proofs.Common.{◌≡◌, ℕ, suc, ◌+◌, ◌-◌, ◌&&◌, Bool, true, false, nat_le, nat_lt, [], ◌∷◌, length, Option, Some, None, option_and_then, option_map, refl, ap, ◌∙◌, if◌then◌else◌}
use Rattle.std.proofs.Math.Bool.{or_comm}
use Rattle.std.specs.Prelude.{◌==◌, ◌||◌, slice_get}
use Rattle.opcode.specs.declared.op.Op.{Op}
use Rattle.opcode.specs.declared.word.Instr.{Instr}
use Rattle.lua_tree.specs.declared.tree.BinaryOp.{BinaryOp}
use Rattle.lua_tree.specs.declared.tree.UnaryOp.{UnaryOp}
use Rattle.core_expr.specs.Targets.{can_write_comparison}
use Rattle.core_expr.specs.Values.{OperandValue, Value, and_value, no_items, no_values, vararg_value}
use Rattle.core_expr.specs.Writing.{can_write, can_write_operand, can_write_values}
use Rattle.recover_expr.specs.Constructors.{behind_list, item, item_at, maker_place, new_table, set_list, set_list_at}
use Rattle.recover_expr.specs.Drafts.{Did, Drafted, ends, goes, makes}
use Rattle.recover_expr.specs.Entries.{Entries, EntryValue, Listed, is_at, is_method, is_temporary, maker_entry, method_entry, missing_entry, more, more_entry, open_entry, place_in, value_entry}
use Rattle.recover_expr.specs.Situation.{Function, Situation, constant_in, has_operands, is_return, jump_behind, local_in, place_in_step, pop, pop_at, pop_operand, see, see_as, see_constant, see_operand, word_at}
use Rattle.recover_expr.specs.Testing.{TestedValue, alone, comparison, condition, test, tested_as, tested_by, tested_comparison, tested_value}
use Rattle.recover_expr.specs.Words.{arithmetic, call, call_made, call_written, concat, concat_of, far_self, get_table, gone, is_op_self, load_constant, load_nil, loaded, made_by, made_call_at, made_call_of, method, method_call, operator_of, plain_call, results, returned, tail_call, unary, vararg, with_method, with_more, with_register}
use Rattle.recover_expr.specs.Writing.{list_written, operand_written, value_written}
use Rattle.recover_expr.specs.declared.function.Word.{Word}
use Rattle.reads_back.proofs.EachSome.{Each, each_if, each_map, each_next, each_none, each_of, each_refused, each_some, each_tested, each_then, each_there, each_where}
use Rattle.reads_back.proofs.OwnFirst.{appended_own, entry_own, first_own, keyed_own, list_items_own, own_alone, own_in, own_still, set_next_own, take_at_own, take_list_own, take_method_own, take_singles_own, taken_own}
use Rattle.reads_back.proofs.OwnValues.{binary_own, call_own, comparison_not_written, concat_own, holds_own, index_own, method_own, not_written, operand_not_written, operand_own, unary_own, values_not_written, values_own}
use Rattle.reads_back.proofs.Tests.{first_of_both, not_so, or_first, second_of_both}

-- a word went on with it, or made a value that holds it; it did not end the step
abbrev pub OwnDid : Situation → Did → Type 0
OwnDid behind (makes v next) = own_in (holds_own v) behind.entries ≡ true
OwnDid behind (goes next) = first_own behind.entries ≡ true
OwnDid behind (ends draft) = ⊥

pub record OwnDone (p : Did × Situation) : Type 0 where
  pub own : OwnDid p.1 p.0

abbrev pub OwnsFirst : Situation → Type 0
OwnsFirst s = first_own s.entries ≡ true

-- ---- what is written

pub value_refused : (f : Function) (taken : ℕ) (v : Value) (s : Situation) → holds_own v ≡ true → Each (λ p. ⊥) (value_written f taken v s)
value_refused f taken v s own = each_refused (can_write (place_in_step f s) s.left v) _ (not_written (place_in_step f s) s.left v own)

pub operand_refused : (f : Function) (taken : ℕ) (o : OperandValue) (s : Situation) → operand_own o ≡ true → Each (λ p. ⊥) (operand_written f taken o s)
operand_refused f taken o s own = each_refused (can_write_operand (place_in_step f s) s.left o) _ (operand_not_written (place_in_step f s) s.left o own)

pub list_refused : (f : Function) (taken : ℕ) (list : Listed) (s : Situation) → values_own list.values ≡ true → Each (λ p. ⊥) (list_written f taken list s)
list_refused f taken list s own = each_refused (can_write_values (place_in_step f s) s.left list.values) _ (values_not_written (place_in_step f s) s.left list.values own)

-- ---- what is taken off

pub sees_entries : (i : Instr) (s : Situation) → (see i s).entries ≡ s.entries
sees_entries i s = by i.op
  where
    operand : (o : ℕ) (s : Situation) → (see_operand o s).entries ≡ s.entries
    operand o s = on (nat_le 256 o)
      where
        on : (constant : Bool) → (if constant then see_constant (o - 256) s else s).entries ≡ s.entries
        on true = refl
        on false = refl

    operands : (has : Bool) → (if has then see_operand i.c (see_operand i.b s) else s).entries ≡ s.entries
    operands true = operand i.c (see_operand i.b s) ∙ operand i.b s
    operands false = refl

    by : (op : Op) → (see_as op i s).entries ≡ s.entries
    by Op.LoadK = refl
    by Op.GetGlobal = refl
    by Op.SetGlobal = refl
    by Op.GetTable = operand i.c s
    by Op.Self_ = operand i.c s
    by op = operands (has_operands op)

pop_own : (elsewhere : Bool) (f : Function) (register : ℕ) (s : Situation) → own_in elsewhere s.entries ≡ true → Each (λ p. own_in (elsewhere || holds_own p.0) p.1.entries ≡ true) (pop f register s)
pop_own elsewhere f register s own = by (place_in s.base register)
  where
    by : (place : Option ℕ) → Each (λ p. own_in (elsewhere || holds_own p.0) p.1.entries ≡ true) (pop_at f s register place)
    by (Some place) = each_map _ (take_at_own elsewhere place s.entries own) (λ p is. is)
    by None = each_map _ (each_there {o = local_in f s register}) (λ v is. own_still elsewhere (elsewhere || holds_own v) s.entries (or_first elsewhere (holds_own v)) own)

pop_operand_own : (elsewhere : Bool) (f : Function) (operand : ℕ) (s : Situation) → own_in elsewhere s.entries ≡ true → Each (λ p. own_in (elsewhere || operand_own p.0) p.1.entries ≡ true) (pop_operand f operand s)
pop_operand_own elsewhere f operand s own =
    each_if (nat_le 256 operand) (each_map _ (each_there {o = constant_in f (operand - 256)}) (λ k is. own_still elsewhere (elsewhere || false) s.entries (or_first elsewhere false) own)) (each_map _ (pop_own elsewhere f operand s own) (λ p is. is))

-- ---- registers that are set next

register_own : (elsewhere : Bool) (register : ℕ) (entry : EntryValue) (s : Situation) → own_in elsewhere s.entries ≡ true → (elsewhere ≡ true → entry_own entry ≡ true) → Each OwnsFirst (with_register register entry s)
register_own elsewhere register entry s own so = each_map _ (set_next_own elsewhere s.base register entry s.entries own so) (λ entries is. is)

registers_own : (elsewhere : Bool) (register count : ℕ) (entry further : EntryValue) (s : Situation) → own_in elsewhere s.entries ≡ true → (elsewhere ≡ true → entry_own entry ≡ true) →
    Each OwnsFirst (option_map (with_more (more count further)) (with_register register entry s))
registers_own elsewhere register count entry further s own so = each_map _ (register_own elsewhere register entry s own so) (λ t is. appended_own t.entries (more count further) is)

method_set_own : (register : ℕ) (on : Value) (name : ℕ) (s : Situation) → own_in (holds_own on) s.entries ≡ true → Each OwnsFirst (with_method register on name s)
method_set_own register on name s own = each_map _ (register_own (holds_own on) register (method_entry on name) s own (λ is. is)) (λ t is. appended_own t.entries (more_entry ∷ []) is)

gone_own : (next : ℕ) {o : Option Situation} → Each OwnsFirst o → Each OwnDone (gone next o)
gone_own next own = each_map _ own (λ t is. record { own = is })

made_own : (w : Word) (elsewhere : Bool) (s : Situation) {v : Option Value} → own_in elsewhere s.entries ≡ true → (elsewhere ≡ true → Each (λ v. holds_own v ≡ true) v) → Each OwnDone (made_by w s v)
made_own w elsewhere s {v} own so = each_map _ (by elsewhere s.entries own so) (λ v is. record { own = is })
  where
    by : (elsewhere : Bool) (entries : Entries) → own_in elsewhere entries ≡ true → (elsewhere ≡ true → Each (λ v. holds_own v ≡ true) v) → Each (λ v. own_in (holds_own v) entries ≡ true) v
    by elsewhere [] own so = so own
    by elsewhere (entry ∷ entries) own so = each_of (each_there {o = v}) (λ v is. own)

-- ---- SELF, and LOADK

self_own : (f : Function) (w self : Word) (name : ℕ) (s : Situation) → OwnsFirst s → Each OwnDone (far_self f w name s self)
self_own f w self name s own = each_where (is_op_self self.instr.op && self.instr.c == w.instr.a) (each_then (pop_own false f self.instr.b s own) (λ p more.
    each_where (self.instr.a + 2 == w.instr.a) (gone_own self.next (method_set_own self.instr.a p.0 name p.1 more))))

pub constant_own : (f : Function) (w : Word) (s : Situation) → OwnsFirst s → Each OwnDone (load_constant f w s)
constant_own f w s own = each_next (constant_in f w.instr.bx) (λ k. by k (place_in s.base w.instr.a))
  where
    by : (k : ℕ) (place : Option ℕ) → Each OwnDone (loaded f w s place k)
    by k None = each_some (record { own = own })
    by k (Some place) = each_if (nat_lt (length s.entries) place) (each_where (nat_lt w.next f.last) (each_next (word_at f w.next) (λ self. self_own f w self k s own))) (each_some (record { own = own }))

pub self_word_own : (f : Function) (w : Word) (s : Situation) → OwnsFirst s → Each OwnDone (method f w s)
self_word_own f w s own = each_where (nat_le 256 w.instr.c) (each_next (constant_in f (w.instr.c - 256)) (λ name.
    each_then (pop_own false f w.instr.b s own) (λ p more. gone_own w.next (method_set_own w.instr.a p.0 name p.1 more))))

-- ---- single values

pub nil_own : (w : Word) (s : Situation) → OwnsFirst s → Each OwnDone (load_nil w s)
nil_own w s own =
    each_if (w.instr.a == w.instr.b) (each_some (record { own = own }))
    (each_where (nat_le w.instr.a w.instr.b) (gone_own w.next (registers_own false w.instr.a (w.instr.b - w.instr.a) missing_entry missing_entry s own not_so)))

pub get_table_own : (f : Function) (w : Word) (s : Situation) → OwnsFirst s → Each OwnDone (get_table f w s)
get_table_own f w s own = each_then (pop_operand_own false f w.instr.c s own) (λ key more. each_then (pop_own (operand_own key.0) f w.instr.b key.1 more) (λ on last.
    made_own w (operand_own key.0 || holds_own on.0) on.1 last (λ is. index_own on.0 key.0 (or_comm (holds_own on.0) (operand_own key.0) ∙ is))))

arithmetic_own : (f : Function) (w : Word) (op : BinaryOp) (s : Situation) → OwnsFirst s → Each OwnDone (arithmetic f w op s)
arithmetic_own f w op s own = each_then (pop_operand_own false f w.instr.c s own) (λ right more. each_then (pop_operand_own (operand_own right.0) f w.instr.b right.1 more) (λ left last.
    made_own w (operand_own right.0 || operand_own left.0) left.1 last (λ is. binary_own op left.0 right.0 (or_comm (operand_own left.0) (operand_own right.0) ∙ is))))

unary_word_own : (f : Function) (w : Word) (op : UnaryOp) (s : Situation) → OwnsFirst s → Each OwnDone (unary f w op s)
unary_word_own f w op s own = each_then (pop_own false f w.instr.b s own) (λ of more. made_own w (holds_own of.0) of.1 more (λ is. unary_own op of.0 is))

concat_word_own : (w : Word) (s : Situation) → OwnsFirst s → Each OwnDone (concat w s)
concat_word_own w s own = by (place_in s.base w.instr.b) (place_in s.base w.instr.c)
  where
    by : (first last : Option ℕ) → Each OwnDone (concat_of w s first last)
    by None last = each_none
    by (Some first) None = each_none
    by (Some first) (Some last) = each_where (nat_lt first last && (length s.entries == suc last)) (each_then (take_singles_own false first s.entries own) (λ p more.
        made_own w (values_own p.0) (record s { entries = p.1 }) more (λ is. concat_own p.0 is)))

pub operator_own : (f : Function) (w : Word) (s : Situation) → OwnsFirst s → (op : Op) → Each OwnDone (operator_of f w s op)
operator_own f w s own Op.Add = arithmetic_own f w BinaryOp.Add s own
operator_own f w s own Op.Sub = arithmetic_own f w BinaryOp.Sub s own
operator_own f w s own Op.Mul = arithmetic_own f w BinaryOp.Mul s own
operator_own f w s own Op.Div = arithmetic_own f w BinaryOp.Div s own
operator_own f w s own Op.Mod = arithmetic_own f w BinaryOp.Rem s own
operator_own f w s own Op.Pow = arithmetic_own f w BinaryOp.Pow s own
operator_own f w s own Op.Unm = unary_word_own f w UnaryOp.Neg s own
operator_own f w s own Op.Not = unary_word_own f w UnaryOp.Not s own
operator_own f w s own Op.Len = unary_word_own f w UnaryOp.Len s own
operator_own f w s own Op.Concat = concat_word_own w s own
operator_own f w s own op = each_none

pub vararg_own : (w : Word) (s : Situation) → OwnsFirst s → Each OwnDone (vararg w s)
vararg_own w s own =
    each_if (w.instr.b == 0) (gone_own w.next (register_own false w.instr.a (open_entry vararg_value) s own not_so))
    (each_if (w.instr.b == 1) each_none
    (each_if (w.instr.b == 2) (each_some (record { own = own }))
    (gone_own w.next (registers_own false w.instr.a (w.instr.b - 2) (value_entry vararg_value) more_entry s own not_so))))

-- ---- calls

-- what is made for the entries that are left
entries_own : (s : Situation) (elsewhere : Bool) (entries : Entries) {v : Option Value} → own_in elsewhere entries ≡ true → (elsewhere ≡ true → Each (λ v. holds_own v ≡ true) v) →
    Each (λ (p : Value × Situation). own_in (holds_own p.0) p.1.entries ≡ true) (option_map (λ v. (v, record s { entries = entries })) v)
entries_own s elsewhere [] own so = each_map _ (so own) (λ v is. is)
entries_own s elsewhere (entry ∷ entries) {v} own so = each_map _ (each_there {o = v}) (λ v is. own)

plain_call_own : (w : Word) (place : ℕ) (s : Situation) → OwnsFirst s → Each (λ p. own_in (holds_own p.0) p.1.entries ≡ true) (plain_call w place s)
plain_call_own w place s own = each_then (take_list_own (place + 1) w.instr.b s.entries own) (λ args more. each_then (take_at_own (values_own args.0.values) place args.1 more) (λ on last.
    entries_own s (values_own args.0.values || holds_own on.0) on.1 last (λ is. call_own on.0 args.0.values args.0.all (or_comm (holds_own on.0) (values_own args.0.values) ∙ is))))

method_call_own : (w : Word) (place : ℕ) (s : Situation) → OwnsFirst s → Each (λ p. own_in (holds_own p.0) p.1.entries ≡ true) (method_call w place s)
method_call_own w place s own = each_if (w.instr.b == 1) each_none (each_then (take_list_own (place + 2) (w.instr.b - 1) s.entries own) (λ args more. each_then (take_method_own (values_own args.0.values) place args.1 more) (λ on last.
    entries_own s (values_own args.0.values || holds_own on.0.0) on.1 last (λ is. method_own on.0.0 on.0.1 args.0.values args.0.all (or_comm (holds_own on.0.0) (values_own args.0.values) ∙ is)))))

made_call_own : (w : Word) (s : Situation) → OwnsFirst s → Each (λ p. own_in (holds_own p.0) p.1.entries ≡ true) (made_call_of w s)
made_call_own w s own = by (place_in s.base w.instr.a)
  where
    by : (place : Option ℕ) → Each (λ p. own_in (holds_own p.0) p.1.entries ≡ true) (made_call_at w s place)
    by None = each_none
    by (Some place) = each_if (is_at is_method (slice_get s.entries place)) (method_call_own w place s own) (plain_call_own w place s own)

call_made_own : (f : Function) (w : Word) (p : Value × Situation) → own_in (holds_own p.0) p.1.entries ≡ true → Each OwnDone (call_made f w p)
call_made_own f w p own =
    each_if (w.instr.c == 0) (gone_own w.next (register_own (holds_own p.0) w.instr.a (open_entry p.0) p.1 own (λ is. is)))
    (each_if (w.instr.c == 1) (each_map {Holds = λ (ended : Drafted × Situation). ⊥} _ written (λ ended never. absurd never))
    (gone_own w.next (registers_own (holds_own p.0) w.instr.a (w.instr.c - 2) (value_entry p.0) more_entry p.1 own (λ is. is))))
  where
    written : Each (λ (ended : Drafted × Situation). ⊥) (call_written f w p)
    written = each_tested (length p.1.entries == 0) (λ empty. each_map _ (value_refused f p.1.taken p.0 p.1 (own_alone (holds_own p.0) p.1.entries empty own)) (λ call never. never))

pub call_word_own : (f : Function) (w : Word) (s : Situation) → OwnsFirst s → Each OwnDone (call f w s)
call_word_own f w s own = each_then (made_call_own w s own) (λ p more. call_made_own f w p more)

-- ---- returns

pub tail_own : (f : Function) (w : Word) (s : Situation) → OwnsFirst s → Each (λ p. ⊥) (tail_call f w s)
tail_own f w s own = each_then (made_call_own w s own) (λ p more. each_next (word_at f w.next) (λ behind.
    each_tested ((nat_lt w.next f.last && is_return w.instr.a 0 behind.instr) && ((length p.1.entries == 0) && (w.instr.c == 0))) (λ holds.
    let empty = first_of_both (length p.1.entries == 0) (w.instr.c == 0) (second_of_both (nat_lt w.next f.last && is_return w.instr.a 0 behind.instr) ((length p.1.entries == 0) && (w.instr.c == 0)) holds) in
    each_map _ (list_refused f p.1.taken (record { values = and_value p.0 no_values; all = true }) p.1 (or_first (holds_own p.0) false (own_alone (holds_own p.0) p.1.entries empty more))) (λ values never. never))))

results_own : (f : Function) (w : Word) (s : Situation) → OwnsFirst s → Each (λ p. own_in (values_own p.0.values) p.1.entries ≡ true) (results f w s)
results_own f w s own =
    each_if (w.instr.b == 1) (each_where (w.instr.a == 0) (each_some own))
    (each_if (w.instr.b == 2) (each_map _ (pop_own false f w.instr.a s own) (λ p more. own_still (holds_own p.0) (holds_own p.0 || false) p.1.entries (or_first (holds_own p.0) false) more))
    (each_where (w.instr.a == s.base) (each_map _ (take_list_own 0 w.instr.b s.entries own) (λ p more. more))))

pub returned_own : (f : Function) (w : Word) (s : Situation) → OwnsFirst s → Each (λ p. ⊥) (returned f w s)
returned_own f w s own = each_then (results_own f w s own) (λ p more. each_tested (length p.1.entries == 0) (λ empty.
    each_map _ (list_refused f p.1.taken p.0 p.1 (own_alone (values_own p.0.values) p.1.entries empty more)) (λ values never. never)))

-- ---- constructors

pub new_table_own : (w : Word) (s : Situation) → OwnsFirst s → Each OwnDone (new_table w s)
new_table_own w s own = gone_own w.next (register_own false w.instr.a (maker_entry no_items false) s own not_so)

pub item_own : (f : Function) (w : Word) (s : Situation) → OwnsFirst s → Each OwnDone (item f w s)
item_own f w s own = by (maker_place w s.base s.entries)
  where
    by : (place : Option ℕ) → Each OwnDone (item_at f w s place)
    by None = each_none
    by (Some place) = each_then (pop_operand_own false f w.instr.c s own) (λ one more. each_then (pop_operand_own (operand_own one.0) f w.instr.b one.1 more) (λ key last.
        gone_own w.next (each_map _ (keyed_own (operand_own one.0 || operand_own key.0) place key.0 one.0 key.1.entries last) (λ entries is. is))))

pub set_list_own : (f : Function) (w : Word) (s : Situation) → OwnsFirst s → Each OwnDone (set_list f w s)
set_list_own f w s own = by (maker_place w s.base s.entries)
  where
    by : (place : Option ℕ) → Each OwnDone (set_list_at f w s place)
    by None = each_none
    by (Some place) = each_then (list_items_own place w.instr.b s.entries own) (λ entries more. each_map _ (each_there {o = behind_list f w}) (λ next is. record { own = taken_own place entries more }))

-- ---- tests

abbrev tested_own : TestedValue → Bool
tested_own (tested_value v) = holds_own v
tested_own (tested_comparison c) = operand_own c.left || operand_own c.right

comparison_own : (f : Function) (w : Word) (op : BinaryOp) (s : Situation) → OwnsFirst s → Each (λ p. own_in (tested_own p.0) p.1.entries ≡ true) (comparison f w op s)
comparison_own f w op s own =
    each_if (is_temporary s.base w.instr.c && (is_temporary s.base w.instr.b && nat_lt w.instr.c w.instr.b))
    (each_then (pop_operand_own false f w.instr.b s own) (λ left more. each_map _ (pop_operand_own (operand_own left.0) f w.instr.c left.1 more) (λ right last. last)))
    (each_then (pop_operand_own false f w.instr.c s own) (λ right more. each_map _ (pop_operand_own (operand_own right.0) f w.instr.b right.1 more) (λ left last. ap (λ own. own_in own left.1.entries) (or_comm (operand_own left.0) (operand_own right.0)) ∙ last)))

tested_as_own : (op : Op) (f : Function) (w : Word) (s : Situation) → OwnsFirst s → Each (λ p. own_in (tested_own p.0) p.1.entries ≡ true) (tested_as op f w s)
tested_as_own Op.Eq f w s own = comparison_own f w BinaryOp.Eq s own
tested_as_own Op.Lt f w s own = comparison_own f w BinaryOp.Lt s own
tested_as_own Op.Le f w s own = comparison_own f w BinaryOp.Le s own
tested_as_own op f w s own = each_map _ (pop_own false f w.instr.a s own) (λ p more. more)

alone_own : (f : Function) (w : Word) (s : Situation) → OwnsFirst s → Each (λ p. tested_own p.0 ≡ true) (option_and_then alone (tested_by f w s))
alone_own f w s own = each_then (tested_as_own w.instr.op f w s own) (λ p more. each_tested (length p.1.entries == 0) (λ empty. each_some (own_alone (tested_own p.0) p.1.entries empty more)))

condition_refused : (f : Function) (v : TestedValue) (s : Situation) → tested_own v ≡ true → Each (λ p. ⊥) (condition f v s)
condition_refused f (tested_value v) s own = each_map _ (value_refused f s.taken v s own) (λ p never. never)
condition_refused f (tested_comparison c) s own = each_refused (can_write_comparison (place_in_step f s) s.taken s.left c) _ (comparison_not_written (place_in_step f s) s.taken s.left c own)

pub test_own : (f : Function) (w : Word) (s : Situation) → OwnsFirst s → Each (λ p. ⊥) (test f w s)
test_own f w s own = each_next (jump_behind f w) (λ jump. each_then (alone_own f w s own) (λ p more. each_then (condition_refused f p.0 p.1 more) (λ q never. absurd never)))
