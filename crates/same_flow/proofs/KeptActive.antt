-- Expressions, assignments and returns leave the active locals and the list of locals as they are.
use Rattle.std.proofs.Common.{◌≡◌, ℕ, zero, suc, ◌+◌, ◌-◌, Bool, true, false, cond, not, List, [], ◌∷◌, length, refl, ap, ◌∙◌}
use Rattle.std.specs.Prelude.{Option, Some, None, ℤ, ◌/◌, nat_lt, nat_le, ◌==◌, ◌&&◌, is_some, if◌then◌else◌}
use Rattle.std.specs.Bool.{beq}
use Rattle.lua_num.specs.Bytes.{Text}
use Rattle.lua_tree.specs.declared.tree.BinaryOp.{BinaryOp}
use Rattle.lua_tree.specs.declared.tree.UnaryOp.{UnaryOp}
use Rattle.lua_tree.specs.Syntax as syntax
use Rattle.lua_tree.specs.Syntax.{FunctionBody, Expressions, no_expressions, Expression, nil_literal, true_literal, false_literal, vararg_expression, number_literal, text_literal, name_expression, function_expression, index_expression, field_expression, call_expression, method_call, and_expression, or_expression, binary_expression, unary_expression, constructor, parenthesized, Arguments, argument_list, text_argument, table_argument, Fields, no_fields, positional, named, keyed}
use Rattle.lua_tree.specs.WellFormed.{is_call}
use Rattle.lua_tree.specs.Scoping.{Use}
use Rattle.opcode.specs.declared.op.Op.{Op}
use Rattle.opcode.specs.Word.{truth_field}
use Rattle.proto.specs.declared.parts.Constant.{Constant}
use Rattle.proto.specs.declared.parts.LocVar.{LocVar}
use Rattle.scheme.specs.Making.{Maker, Part, Asks, ◌>>=◌, ◌>>◌, nothing, answer, read, put, new_label, place, jump_to, take_registers, free_from, freeing, constant, Where, in_register, in_upvalue, in_globals, name, active_count, when}
use Rattle.scheme.specs.Expressions.{Coded, Want, count_field, Target, name_target, part_target, next_reg, in_next_reg, local_register, operand_by, operand, is_small, small_constant, is_local, rk_by, rk, load, next_text, rk_text, comparison_word, compare, test, is_true_constant, test_by, literal, is_vararg, is_multiple, is_comparison, plain_multi, no_target, single, read_where, name_value, coded_name, indexed_value, indexed_target, coded_index, coded_field, coded_paren, fold, load_or, arithmetic, concat, truth_value, binary_value, binary_spine, coded_binary, unary_word, unary_value, unary_jump, coded_unary, decide, logic_here, logic_jump, logic_moved, logic_value, coded_logic}
use Rattle.scheme.specs.Lists.{all_next, ends_open, all_multi, open_list, list_count, Given, results_at, call_at, method_at, by_base, coded_call, vararg_at, coded_vararg, Entry, positional_entry, named_entry, keyed_entry, is_last, positional_count, other_count, size_hint, set_list, keyed_item, pending_after, entries_from, table_at, nils, filled, adjust}
use Rattle.scheme.specs.Functions.{Inner, further_words, closure, coded_function, next_sources}
use Rattle.scheme.specs.Statements.{set_where, store_register, store_operand, store, all_targets, clashes, copied, copies, each_stored, stored_from, assign_adjusted, assign_part, with_fields, path_from, with_method, return_operand, return_call, return_list, return_part}
use Rattle.scheme.specs.Scheme.{all_coded, coded, given, entries, inner}
use Rattle.scheme.specs.declared.making.Active.{Active}
use Rattle.scheme.specs.declared.making.Piece.{Piece}

-- the active locals, and the list of locals
abbrev scope_of : Maker → List Active × List LocVar
scope_of m = (m.active, m.locals)

pub record Keeps (part : Part) : Type 0 where
  pub kept : (m : Maker) → scope_of (part m) ≡ scope_of m

pub record KeepsAsks {A : Type 0} (ask : Asks A) : Type 0 where
  pub kept : (m : Maker) → scope_of (ask m).after ≡ scope_of m

pub active_kept : {part : Part} → Keeps part → (m : Maker) → (part m).active ≡ m.active
active_kept k m = ap (λ (scope : List Active × List LocVar). scope.0) (k.kept m)

pub locals_kept : {part : Part} → Keeps part → (m : Maker) → (part m).locals ≡ m.locals
locals_kept k m = ap (λ (scope : List Active × List LocVar). scope.1) (k.kept m)

bind : {A : Type 0} {ask : Asks A} {rest : A → Part} → KeepsAsks ask → ((x : A) → Keeps (rest x)) → Keeps (ask >>= rest)
bind {A} {ask} {rest} a b = record { kept = λ m. (b (ask m).value).kept (ask m).after ∙ a.kept m }

infixl 20 ◌then◌
◌then◌ : {one two : Part} → Keeps one → Keeps two → Keeps (one >> two)
◌then◌ {one} {two} a b = record { kept = λ m. b.kept (one m) ∙ a.kept m }

no_part : Keeps nothing
no_part = record { kept = λ m. refl }

either : {one two : Part} (b : Bool) → Keeps one → Keeps two → Keeps (cond b one two)
either true p q = p
either false p q = q

either_asks : {A : Type 0} {one two : Asks A} (b : Bool) → KeepsAsks one → KeepsAsks two → KeepsAsks (cond b one two)
either_asks true p q = p
either_asks false p q = q

if_so : {part : Part} (b : Bool) → Keeps part → Keeps (when b part)
if_so true p = p
if_so false p = no_part

answered : {A : Type 0} (value : A) → KeepsAsks (answer value)
answered value = record { kept = λ m. refl }

reading : {A : Type 0} (of : Maker → A) → KeepsAsks (read of)
reading of = record { kept = λ m. refl }

putting : (line : ℕ) (piece : Piece) → Keeps (put line piece)
putting line piece = record { kept = λ m. refl }

jumping : (line label : ℕ) → Keeps (jump_to line label)
jumping line label = record { kept = λ m. refl }

labelling : KeepsAsks new_label
labelling = record { kept = λ m. refl }

placing : (label : ℕ) → Keeps (place label)
placing label = record { kept = λ m. refl }

taking : (n : ℕ) → Keeps (take_registers n)
taking n = record { kept = λ m. refl }

freed : (n : ℕ) → Keeps (free_from n)
freed n = record { kept = λ m. refl }

within : {part : Part} → Keeps part → Keeps (freeing part)
within p = record { kept = p.kept }

constants : (c : Constant) → KeepsAsks (constant c)
constants c = record { kept = λ m. refl }

naming : KeepsAsks name
naming = record { kept = λ m. refl }

-- ---- expressions

pub record Kept (c : Coded) : Type 0 where
  pub to_reg : (r : ℕ) → Keeps (c.to_reg r)
  pub jump_if : (truth : Bool) (label : ℕ) → Keeps (c.jump_if truth label)
  pub spine : Keeps c.spine
  pub multi : (op : Op) (want : Want) → Keeps (c.multi op want)
  pub target : KeepsAsks c.target

abbrev pub AllKept : List Coded → Type 0
AllKept [] = Unit {0}
AllKept (c ∷ cs) = Kept c × AllKept cs

pub next_kept : {c : Coded} → Kept c → Keeps (next_reg c)
next_kept s = record { kept = λ m. (s.to_reg m.free).kept m }

in_next_kept : {c : Coded} → Kept c → KeepsAsks (in_next_reg c)
in_next_kept s = record { kept = (next_kept s).kept }

operand_by_kept : {c : Coded} → Kept c → (o : Option ℕ) → KeepsAsks (operand_by o c)
operand_by_kept s (Some r) = record { kept = λ m. refl }
operand_by_kept s None = in_next_kept s

operand_kept : {c : Coded} → Kept c → KeepsAsks (operand c)
operand_kept {c} s = record { kept = λ m. (operand_by_kept s (local_register c.e m)).kept m }

small_kept : (k : Constant) → KeepsAsks (small_constant k)
small_kept k = record { kept = λ m. refl }

rk_by_kept : {c : Coded} → Kept c → (o : Option Constant) → KeepsAsks (rk_by o c)
rk_by_kept s (Some k) = record { kept = λ m. (either_asks (is_small k m) (small_kept k) (operand_kept s)).kept m }
rk_by_kept s None = operand_kept s

rk_kept : {c : Coded} → Kept c → KeepsAsks (rk c)
rk_kept {c} s = rk_by_kept s (literal c.e)

load_kept : (line register : ℕ) (k : Constant) → Keeps (load line register k)
load_kept line register k = record { kept = λ m. refl }

next_text_kept : (line : ℕ) (text : Text) → Keeps (next_text line text)
next_text_kept line text = record { kept = λ m. refl }

rk_text_kept : (line : ℕ) (text : Text) → KeepsAsks (rk_text line text)
rk_text_kept line text = record { kept = λ m. (either_asks (is_small (Constant.Text text) m) (small_kept (Constant.Text text)) next).kept m }
  where
    next : KeepsAsks (λ n. record { value = n.free; after = next_text line text n })
    next = record { kept = λ m. refl }

compare_kept : {c d : Coded} (line : ℕ) (op : BinaryOp) (truth : Bool) (label : ℕ) → Kept c → Kept d → Keeps (compare line op c d truth label)
compare_kept line op truth label s t = bind (rk_kept s) (λ x. bind (rk_kept t) (λ y. putting line (comparison_word op truth x y) then jumping line label))

test_kept : (c : Coded) (line : ℕ) (truth : Bool) (label : ℕ) → KeepsAsks (operand c) → Keeps (test line c truth label)
test_kept c line truth label s = bind s (λ x. putting line (Piece.Abc Op.Test x 0 (truth_field truth)) then jumping line label)

test_by_kept : (c : Coded) (o : Option Constant) (line : ℕ) (truth : Bool) (label : ℕ) → KeepsAsks (operand c) → Keeps (test_by o line c truth label)
test_by_kept c (Some k) line truth label s = if_so (beq truth (is_true_constant k)) (jumping line label)
test_by_kept c None line truth label s = within (test_kept c line truth label s)

abbrev alone : Expression → (ℕ → Part) → Coded
alone e to = record { e = e; to_reg = λ r. freeing (to r); jump_if = λ truth label. nothing; spine = nothing; multi = plain_multi; target = no_target }

single_kept : (line : ℕ) (e : Expression) (to : ℕ → Part) → ((r : ℕ) → Keeps (to r)) → Kept (single line e to)
single_kept line e to s =
    let value = λ (r : ℕ). within (s r) in
    let one : Kept (alone e to) = record { to_reg = value; jump_if = λ truth label. no_part; spine = no_part; multi = λ op want. no_part; target = answered _ } in
    record {
      to_reg = value;
      jump_if = λ truth label. test_by_kept (alone e to) (literal e) line truth label (operand_kept one);
      spine = next_kept one;
      multi = λ op want. no_part;
      target = answered _;
    }

with_target : {c : Coded} {ask : Asks Target} → Kept c → KeepsAsks ask → Kept (record c { target = ask })
with_target s t = record { to_reg = s.to_reg; jump_if = s.jump_if; spine = s.spine; multi = s.multi; target = t }

abbrev JumpsKept : (jump : Bool → ℕ → Part) → Type 0
JumpsKept jump = (truth : Bool) (label : ℕ) → Keeps (jump truth label)

with_jumps : {c : Coded} (jump : Bool → ℕ → Part) → Kept c → JumpsKept jump → Kept (record c { jump_if = jump })
with_jumps jump s p = record { to_reg = s.to_reg; jump_if = p; spine = s.spine; multi = s.multi; target = s.target }

with_spine : {c : Coded} {spine : Part} → Kept c → Keeps spine → Kept (record c { spine = spine })
with_spine s p = record { to_reg = s.to_reg; jump_if = s.jump_if; spine = p; multi = s.multi; target = s.target }

abbrev MultiKept : (Op → Want → Part) → Type 0
MultiKept multi = (op : Op) (want : Want) → Keeps (multi op want)

with_multi : {c : Coded} (multi : Op → Want → Part) → Kept c → MultiKept multi → Kept (record c { multi = multi })
with_multi multi s p = record { to_reg = s.to_reg; jump_if = s.jump_if; spine = s.spine; multi = p; target = s.target }

where_kept : (line register : ℕ) (text : Text) (w : Where) → Keeps (read_where line register text w)
where_kept line r text (in_register x) = putting line _
where_kept line r text (in_upvalue slot) = putting line _
where_kept line r text in_globals = record { kept = λ m. refl }

name_kept : (line : ℕ) (text : Text) → Kept (coded_name line text)
name_kept line text = with_target (single_kept line (name_expression line text) (name_value line text) (λ r. bind naming (λ w. where_kept line r text w))) (record { kept = λ m. refl })

indexed_kept : {on : Coded} (line : ℕ) (key : Asks ℕ) → Kept on → KeepsAsks key → (r : ℕ) → Keeps (indexed_value line on key r)
indexed_kept line key s k r = bind (operand_kept s) (λ t. bind k (λ x. putting line (Piece.Abc Op.GetTable r t x)))

indexed_target_kept : {on : Coded} (key : Asks ℕ) (key_local : Maker → Bool) → Kept on → KeepsAsks key → KeepsAsks (indexed_target on key key_local)
indexed_target_kept {on} key key_local s k = record { kept = λ m. k.kept (operand on m).after ∙ (operand_kept s).kept m }

index_kept : {on key : Coded} (line : ℕ) (e : Expression) → Kept on → Kept key → Kept (coded_index line e on key)
index_kept {on} {key} line e s k = with_target (single_kept line e (indexed_value line on (rk key)) (indexed_kept line (rk key) s (rk_kept k))) (indexed_target_kept (rk key) (is_local key.e) s (rk_kept k))

field_kept : {on : Coded} (line : ℕ) (e : Expression) (text : Text) → Kept on → Kept (coded_field line e on text)
field_kept {on} line e text s =
    let key = rk_text line text in
    with_target (single_kept line e (indexed_value line on key) (indexed_kept line key s (rk_text_kept line text))) (indexed_target_kept key (λ m. false) s (rk_text_kept line text))

paren_kept : {c : Coded} (e : Expression) → Kept c → Kept (coded_paren e c)
paren_kept e s = record { to_reg = s.to_reg; jump_if = s.jump_if; spine = next_kept s; multi = λ op want. no_part; target = answered _ }

load_or_kept : (o : Option ℤ) (line : ℕ) (to : ℕ → Part) → ((r : ℕ) → Keeps (to r)) → (r : ℕ) → Keeps (load_or o line to r)
load_or_kept (Some n) line to s r = load_kept line r (Constant.Number n)
load_or_kept None line to s r = s r

arithmetic_kept : {left right : Coded} (line : ℕ) (op : Op) → Kept left → Kept right → (r : ℕ) → Keeps (arithmetic line op left right r)
arithmetic_kept line op s t r = bind (rk_kept s) (λ x. bind (rk_kept t) (λ y. putting line (Piece.Abc op r x y)))

concat_kept : {left right : Coded} (line : ℕ) → Kept left → Kept right → (r : ℕ) → Keeps (concat line left right r)
concat_kept line s t r = bind (in_next_kept s) (λ first. t.spine then bind (reading (λ m. m.free)) (λ after. putting line (Piece.Abc Op.Concat r first (after - 1))))

truth_kept : {left right : Coded} (line : ℕ) (op : BinaryOp) → Kept left → Kept right → (r : ℕ) → Keeps (truth_value line op left right r)
truth_kept line op s t r =
    bind labelling (λ label. compare_kept line op true label s t then putting line (Piece.Abc Op.LoadBool r 0 1) then placing label then putting line (Piece.Abc Op.LoadBool r 1 0))

binary_value_kept : {left right : Coded} (line : ℕ) (op : BinaryOp) → Kept left → Kept right → (r : ℕ) → Keeps (binary_value line op left right r)
binary_value_kept line BinaryOp.Add s t = arithmetic_kept line Op.Add s t
binary_value_kept line BinaryOp.Sub s t = arithmetic_kept line Op.Sub s t
binary_value_kept line BinaryOp.Mul s t = arithmetic_kept line Op.Mul s t
binary_value_kept line BinaryOp.Div s t = arithmetic_kept line Op.Div s t
binary_value_kept line BinaryOp.Rem s t = arithmetic_kept line Op.Mod s t
binary_value_kept line BinaryOp.Pow s t = arithmetic_kept line Op.Pow s t
binary_value_kept line BinaryOp.Concat s t = concat_kept line s t
binary_value_kept line op s t = truth_kept line op s t

either_jumps : (b : Bool) (one two : Bool → ℕ → Part) → JumpsKept one → JumpsKept two → JumpsKept (cond b one two)
either_jumps true one two p q = p
either_jumps false one two p q = q

binary_spine_kept : {one two : Part} (op : BinaryOp) → Keeps one → Keeps two → Keeps (binary_spine op one two)
binary_spine_kept BinaryOp.Concat p q = p
binary_spine_kept op p q = q

binary_kept : {left right : Coded} (line : ℕ) (op : BinaryOp) (e : Expression) → Kept left → Kept right → Kept (coded_binary line op e left right)
binary_kept {left} {right} line op e s t =
    let v = single_kept line e (load_or (fold e) line (binary_value line op left right)) (load_or_kept (fold e) line _ (binary_value_kept line op s t)) in
    with_spine
    (with_jumps _ v (either_jumps (is_comparison op) _ _ (λ truth label. within (compare_kept line op truth label s t)) v.jump_if))
    (binary_spine_kept op (next_kept s then t.spine) v.spine)

unary_value_kept : {c : Coded} (line : ℕ) (op : UnaryOp) → Kept c → (r : ℕ) → Keeps (unary_value line op c r)
unary_value_kept line op s r = bind (operand_kept s) (λ x. putting line (Piece.Abc (unary_word op) r x 0))

unary_jump_kept : {c : Coded} (op : UnaryOp) (two : Bool → ℕ → Part) → Kept c → JumpsKept two → JumpsKept (unary_jump op c two)
unary_jump_kept UnaryOp.Not two s q = λ truth label. s.jump_if (not truth) label
unary_jump_kept UnaryOp.Neg two s q = q
unary_jump_kept UnaryOp.Len two s q = q

unary_kept : {c : Coded} (line : ℕ) (op : UnaryOp) (e : Expression) → Kept c → Kept (coded_unary line op e c)
unary_kept {c} line op e s =
    let v = single_kept line e (load_or (fold e) line (unary_value line op c)) (load_or_kept (fold e) line _ (unary_value_kept line op s)) in
    with_jumps _ v (unary_jump_kept op _ s v.jump_if)

decide_kept : {left : Coded} (line : ℕ) (truth : Bool) (r : ℕ) (o : Option ℕ) → Kept left → Keeps (decide line truth left r o)
decide_kept line truth r (Some x) s = record { kept = λ m. refl }
decide_kept line truth r None s = s.to_reg r then putting line (Piece.Abc Op.Test r 0 (truth_field truth))

here_kept : {left right : Coded} (line : ℕ) (truth : Bool) → Kept left → Kept right → (r : ℕ) → Keeps (logic_here line truth left right r)
here_kept {left} line truth s t r =
    bind (reading (local_register left.e)) (λ x. decide_kept line truth r x s then bind labelling (λ label. jumping line label then t.to_reg r then placing label))

logic_jump_kept : {left right : Coded} (decides : Bool) → Kept left → Kept right → JumpsKept (logic_jump decides left right)
logic_jump_kept decides s t truth label =
    either (beq decides truth) (s.jump_if truth label then t.jump_if truth label)
    (bind labelling (λ over. s.jump_if (not truth) over then t.jump_if truth label then placing over))

moved_kept : {left right : Coded} (line : ℕ) (decides : Bool) → Kept left → Kept right → (r : ℕ) → Keeps (logic_moved line decides left right r)
moved_kept line decides s t r = record { kept = λ m. (here_kept line decides s t m.free).kept m }

logic_value_kept : {left right : Coded} (line : ℕ) (decides : Bool) → Kept left → Kept right → (r : ℕ) → Keeps (logic_value line decides left right r)
logic_value_kept line decides s t r = record { kept = λ m. (either (r == m.free) (here_kept line decides s t r) (moved_kept line decides s t r)).kept m }

logic_kept : {left right : Coded} (line : ℕ) (decides : Bool) (e : Expression) → Kept left → Kept right → Kept (coded_logic line decides e left right)
logic_kept {left} {right} line decides e s t =
    with_jumps _ (single_kept line e (logic_value line decides left right) (logic_value_kept line decides s t)) (logic_jump_kept decides s t)

-- ---- lists, calls, constructors

all_next_kept : (cs : List Coded) → AllKept cs → Keeps (all_next cs)
all_next_kept [] s = no_part
all_next_kept (c ∷ cs) s = next_kept s.0 then all_next_kept cs s.1

all_multi_kept : (op : Op) (want : Want) (cs : List Coded) → AllKept cs → Keeps (all_multi op want cs)
all_multi_kept op want [] s = no_part
all_multi_kept op want (c ∷ []) s = s.0.multi op want
all_multi_kept op want (c ∷ d ∷ cs) s = next_kept s.0 then all_multi_kept op want (d ∷ cs) s.1

open_kept : (cs : List Coded) → AllKept cs → Keeps (open_list cs)
open_kept cs s = either (ends_open cs) (all_multi_kept Op.Call None cs s) (all_next_kept cs s)

results_kept : (base : ℕ) (want : Want) → Keeps (results_at base want)
results_kept base None = record { kept = λ m. refl }
results_kept base (Some n) = record { kept = λ m. refl }

call_at_kept : {on : Coded} (given : Given) (line : ℕ) → Kept on → Keeps given.part → MultiKept (call_at line on given)
call_at_kept given line s g op want = bind (reading (λ m. m.free)) (λ base. next_kept s then g then putting line (Piece.Abc op base (count_field 1 given.count) (count_field 1 want))
    then results_kept base want)

method_at_kept : {on : Coded} (given : Given) (line : ℕ) (text : Text) → Kept on → Keeps given.part → MultiKept (method_at line on text given)
method_at_kept given line text s g op want =
    bind (reading (λ m. m.free)) (λ base.
    bind (operand_kept s) (λ x. freed base then taking 2 then
    bind (rk_text_kept line text) (λ y. putting line (Piece.Abc Op.Self_ base x y) then freed (base + 2) then g then putting line (Piece.Abc op base (count_field 2 given.count) (count_field 1 want))
    then results_kept base want)))

by_base_kept : {part : Part} (line : ℕ) → Keeps part → (r : ℕ) → Keeps (by_base line part r)
by_base_kept line p r = bind (reading (λ m. m.free)) (λ base. p then if_so (not (base == r)) (putting line (Piece.Abc Op.Move r base 0)))

call_kept : (line : ℕ) (e : Expression) (at : Op → Want → Part) → MultiKept at → Kept (coded_call line e at)
call_kept line e at s = with_multi at (single_kept line e (by_base line (at Op.Call (Some 1))) (by_base_kept line (s Op.Call (Some 1)))) s

vararg_kept : (line : ℕ) → Kept (coded_vararg line)
vararg_kept line =
    with_multi (vararg_at line) (single_kept line (vararg_expression line) (λ r. put line (Piece.Abc Op.Vararg r 2 0)) (λ r. putting line (Piece.Abc Op.Vararg r 2 0)))
    (λ op want. bind (reading (λ m. m.free)) (λ base. putting line (Piece.Abc Op.Vararg base (count_field 1 want) 0) then results_kept base want))

abbrev EntriesKept : List Entry → Type 0
EntriesKept [] = Unit {0}
EntriesKept (positional_entry c ∷ entries) = Kept c × EntriesKept entries
EntriesKept (named_entry text c ∷ entries) = Kept c × EntriesKept entries
EntriesKept (keyed_entry key c ∷ entries) = (Kept key × Kept c) × EntriesKept entries

set_list_kept : (line t n done : ℕ) → Keeps (set_list line t n done)
set_list_kept line t n done = let block = (done - 1) / 50 + 1 in either (nat_le block 511) (putting line (Piece.Abc Op.SetList t n block))
    (putting line (Piece.Abc Op.SetList t n 0) then putting line (Piece.Bare block)) then freed (t + 1)

keyed_item_kept : {c : Coded} {key : Asks ℕ} (line t : ℕ) → KeepsAsks key → Kept c → Keeps (keyed_item line t key c)
keyed_item_kept line t k s = bind k (λ x. bind (rk_kept s) (λ v. putting line (Piece.Abc Op.SetTable t x v)))

entries_from_kept : (line t done pending : ℕ) (entries : List Entry) → EntriesKept entries → Keeps (entries_from line t done pending entries)
entries_from_kept line t done pending [] s = if_so (nat_lt 0 pending) (set_list_kept line t pending done)
entries_from_kept line t done pending (positional_entry c ∷ entries) s =
    either (is_last entries && is_multiple c.e)
    (s.0.multi Op.Call None then set_list_kept line t 0 (suc done))
    (next_kept s.0 then if_so (suc pending == 50) (set_list_kept line t 50 (suc done)) then entries_from_kept line t (suc done) (pending_after (suc pending)) entries s.1)
entries_from_kept line t done pending (named_entry text c ∷ entries) s = within (keyed_item_kept line t (rk_text_kept line text) s.0) then entries_from_kept line t done pending entries s.1
entries_from_kept line t done pending (keyed_entry key c ∷ entries) s = within (keyed_item_kept line t (rk_kept s.0.0) s.0.1) then entries_from_kept line t done pending entries s.1

table_at_kept : (line : ℕ) (entries : List Entry) → EntriesKept entries → Keeps (table_at line entries)
table_at_kept line entries s = bind (reading (λ m. m.free)) (λ t. putting line (Piece.Abc Op.NewTable t (size_hint (positional_count entries)) (size_hint (other_count entries))) then taking 1
    then entries_from_kept line t 0 0 entries s then freed (t + 1))

nils_kept : (line n : ℕ) → Keeps (nils line n)
nils_kept line n = record { kept = λ m. refl }

filled_kept : (line : ℕ) (cs : List Coded) → AllKept cs → (missing : ℕ) → Keeps (filled line cs missing)
filled_kept line cs s missing = either (ends_open cs) (all_multi_kept Op.Call (Some (missing + 1)) cs s) (all_next_kept cs s then nils_kept line missing)

pub adjust_kept : (line : ℕ) (cs : List Coded) → AllKept cs → (n : ℕ) → Keeps (adjust line cs n)
adjust_kept line cs s n = record { kept = λ m. (either (nat_lt (length cs) n) (filled_kept line cs s (n - length cs)) (all_next_kept cs s then freed (m.free + n))).kept m }

further_kept : (line : ℕ) (uses : List Use) (m : Maker) → scope_of (further_words line uses m) ≡ scope_of m
further_kept line [] m = refl
further_kept line (use' ∷ uses) m = further_kept line uses _

pub closure_kept : (line : ℕ) (inner : Inner) (r : ℕ) → Keeps (closure line inner r)
closure_kept line inner r = record { kept = λ m. further_kept line (next_sources m) _ }

function_kept : (line : ℕ) (body : FunctionBody) (inner : Inner) → Kept (coded_function line body inner)
function_kept line body inner = single_kept line (function_expression line body) (closure line inner) (closure_kept line inner)

mutual
  pub all_kept : (es : Expressions) → AllKept (all_coded es)
  all_kept no_expressions = tt
  all_kept (syntax.expression e rest) = (kept e, all_kept rest)

  pub kept : (e : Expression) → Kept (coded e)
  kept (nil_literal line) = single_kept line (nil_literal line) _ (λ r. putting line (Piece.Abc Op.LoadNil r r 0))
  kept (true_literal line) = single_kept line (true_literal line) _ (λ r. putting line (Piece.Abc Op.LoadBool r 1 0))
  kept (false_literal line) = single_kept line (false_literal line) _ (λ r. putting line (Piece.Abc Op.LoadBool r 0 0))
  kept (vararg_expression line) = vararg_kept line
  kept (number_literal line n) = single_kept line (number_literal line n) _ (λ r. load_kept line r (Constant.Number n))
  kept (text_literal line text) = single_kept line (text_literal line text) _ (λ r. load_kept line r (Constant.Text text))
  kept (name_expression line text) = name_kept line text
  kept (function_expression line body) = function_kept line body (inner body false)
  kept (index_expression line on key) = index_kept line (index_expression line on key) (kept on) (kept key)
  kept (field_expression line on text) = field_kept line (field_expression line on text) text (kept on)
  kept (call_expression line on args on_line) = call_kept line (call_expression line on args on_line) _ (call_at_kept (given args line) line (kept on) (given_kept args line))
  kept (method_call line on text args on_line) = call_kept line (method_call line on text args on_line) _ (method_at_kept (given args line) line text (kept on) (given_kept args line))
  kept (and_expression line left right) = logic_kept line false (and_expression line left right) (kept left) (kept right)
  kept (or_expression line left right) = logic_kept line true (or_expression line left right) (kept left) (kept right)
  kept (binary_expression line op left right) = binary_kept line op (binary_expression line op left right) (kept left) (kept right)
  kept (unary_expression line op e) = unary_kept line op (unary_expression line op e) (kept e)
  kept (constructor line fields) = single_kept line (constructor line fields) (by_base line (table_at line (entries fields))) (by_base_kept line (table_at_kept line _ (entries_kept fields)))
  kept (parenthesized line e) = paren_kept (parenthesized line e) (kept e)

  given_kept : (args : Arguments) (line : ℕ) → Keeps (given args line).part
  given_kept (argument_list es) line = open_kept _ (all_kept es)
  given_kept (text_argument text) line = next_text_kept line text
  given_kept (table_argument fields) line = table_at_kept line _ (entries_kept fields)

  entries_kept : (fields : Fields) → EntriesKept (entries fields)
  entries_kept no_fields = tt
  entries_kept (positional e separator rest) = (kept e, entries_kept rest)
  entries_kept (named text e separator rest) = (kept e, entries_kept rest)
  entries_kept (keyed key e separator rest) = ((kept key, kept e), entries_kept rest)

-- ---- assignments and returns

set_kept : (line register : ℕ) (text : Text) (w : Where) → Keeps (set_where line register text w)
set_kept line r text (in_register x) = putting line _
set_kept line r text (in_upvalue slot) = putting line _
set_kept line r text in_globals = record { kept = λ m. refl }

store_register_kept : (line : ℕ) (target : Target) (register : ℕ) → Keeps (store_register line target register)
store_register_kept line (name_target text w) r = set_kept line r text w
store_register_kept line (part_target on key on_local key_local) r = putting line _

store_operand_kept : {c : Coded} (line : ℕ) (text : Text) (w : Where) → Kept c → Keeps (store_operand line text w c)
store_operand_kept line text w s = bind (operand_kept s) (λ r. set_kept line r text w)

store_kept : {c : Coded} (line : ℕ) (target : Target) → Kept c → Keeps (store line target c)
store_kept line (name_target text (in_register x)) s = s.to_reg x
store_kept line (name_target text (in_upvalue slot)) s = store_operand_kept line text (in_upvalue slot) s
store_kept line (name_target text in_globals) s = store_operand_kept line text in_globals s
store_kept line (part_target on key on_local key_local) s = bind (rk_kept s) (λ v. putting line (Piece.Abc Op.SetTable on key v))

targets_kept : (cs : List Coded) → AllKept cs → KeepsAsks (all_targets cs)
targets_kept [] s = record { kept = λ m. refl }
targets_kept (c ∷ cs) s = record { kept = λ m. (targets_kept cs s.1).kept (c.target m).after ∙ s.0.target.kept m }

copied_kept : (line x : ℕ) (targets : List Target) → KeepsAsks (copied line x targets)
copied_kept line x targets = record { kept = λ m. refl }

copies_kept : (line count : ℕ) (targets : List Target) → KeepsAsks (copies line count targets)
copies_kept line zero targets = record { kept = λ m. refl }
copies_kept line (suc x) targets = record {
  kept = λ m.
      let before = copies line x targets m in
      (either_asks (clashes x targets) (copied_kept line x before.value) (answered before.value)).kept before.after ∙ (copies_kept line x targets).kept m;
}

each_kept : (line : ℕ) (targets : List Target) (cs : List Coded) → AllKept cs → Keeps (each_stored line targets cs)
each_kept line [] cs s = no_part
each_kept line (target ∷ []) [] s = no_part
each_kept line (target ∷ other ∷ targets) [] s = no_part
each_kept line (target ∷ []) (c ∷ cs) s = record { kept = (store_kept line target s.0).kept }
each_kept line (target ∷ other ∷ targets) (c ∷ cs) s = record {
  kept = λ m. (next_kept s.0 then each_kept line (other ∷ targets) cs s.1 then store_register_kept line target m.free).kept m;
}

stored_kept : (line register : ℕ) (targets : List Target) → Keeps (stored_from line register targets)
stored_kept line r [] = no_part
stored_kept line r (target ∷ targets) = stored_kept line (suc r) targets then store_register_kept line target r

assign_adjusted_kept : (line : ℕ) (targets : List Target) (cs : List Coded) → AllKept cs → Keeps (assign_adjusted line targets cs)
assign_adjusted_kept line targets cs s = bind (reading (λ m. m.free)) (λ base. adjust_kept line cs s (length targets) then stored_kept line base targets)

assign_kept : (line : ℕ) (targets cs : List Coded) → AllKept targets → AllKept cs → Keeps (assign_part line targets cs)
assign_kept line targets cs t s =
    bind (targets_kept targets t) (λ parts. bind (reading active_count) (λ count. bind (copies_kept line count parts) (λ places.
    either (length cs == length targets) (each_kept line places cs s) (assign_adjusted_kept line places cs s))))

pub assignment_kept : (line : ℕ) (targets es : Expressions) → Keeps (assign_part line (all_coded targets) (all_coded es))
assignment_kept line targets es = assign_kept line _ _ (all_kept targets) (all_kept es)

fields_kept : (line : ℕ) (texts : List Text) (c : Coded) → Kept c → Kept (with_fields line c texts)
fields_kept line [] c s = s
fields_kept line (text ∷ texts) c s = fields_kept line texts _ (field_kept line (field_expression line c.e text) text s)

path_kept : (line : ℕ) (path : List Text) → Kept (path_from line path)
path_kept line [] = name_kept line []
path_kept line (text ∷ texts) = fields_kept line texts _ (name_kept line text)

method_kept : (line : ℕ) (path : List Text) (method : Option Text) → Kept (with_method line (path_from line path) method)
method_kept line path None = path_kept line path
method_kept line path (Some text) = field_kept line (field_expression line (path_from line path).e text) text (path_kept line path)

pub function_statement_kept : (line : ℕ) (path : List Text) (method : Option Text) (body : FunctionBody) →
    Keeps (assign_part line (with_method line (path_from line path) method ∷ []) (coded_function line body (inner body (is_some method)) ∷ []))
function_statement_kept line path method body = assign_kept line (with_method line (path_from line path) method ∷ []) (coded_function line body (inner body (is_some method)) ∷ [])
    (method_kept line path method, tt) (function_kept line body (inner body (is_some method)), tt)

return_operand_kept : {c : Coded} (line : ℕ) → Kept c → Keeps (return_operand line c)
return_operand_kept line s = bind (operand_kept s) (λ x. putting line (Piece.Abc Op.Return x 2 0))

return_call_kept : {c : Coded} (line : ℕ) → Kept c → Keeps (return_call line c)
return_call_kept line s = bind (reading (λ m. m.free)) (λ base. s.multi Op.TailCall None then putting line (Piece.Abc Op.Return base 0 0))

return_list_kept : (line : ℕ) (cs : List Coded) → AllKept cs → Keeps (return_list line cs)
return_list_kept line cs s = bind (reading (λ m. m.free)) (λ base. open_kept cs s then putting line (Piece.Abc Op.Return base (count_field 1 (list_count cs)) 0))

either_part : {one two : Part} (b : Bool) → Keeps one → Keeps two → Keeps (if b then one else two)
either_part true p q = p
either_part false p q = q

pub return_kept : (line : ℕ) (cs : List Coded) → AllKept cs → Keeps (return_part line cs)
return_kept line [] s = putting line _
return_kept line (c ∷ []) s = either_part (is_call c.e) (return_call_kept line s.0) (either_part (is_vararg c.e) (return_list_kept line (c ∷ []) s) (return_operand_kept line s.0))
return_kept line (c ∷ d ∷ cs) s = return_list_kept line (c ∷ d ∷ cs) s
