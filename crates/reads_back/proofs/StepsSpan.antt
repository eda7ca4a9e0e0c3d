-- The words of a step that is read go up to the next step, and they capture what the step does.
use Rattle.std.proofs.Common.{◌≡◌, ℕ, zero, suc, ◌+◌, ◌-◌, ◌&&◌, Bool, true, false, nat_le, nat_lt, List, [], ◌++◌, length, Option, Some, None, option_and_then, option_map, refl, sym, ap, ◌∙◌, subst, arith, if◌then◌else◌}
use Rattle.std.specs.Prelude.{◌==◌}
use Rattle.lua_num.specs.Bytes.{Text}
use Rattle.lua_tree.specs.declared.tree.BinaryOp.{BinaryOp}
use Rattle.lua_tree.specs.declared.tree.UnaryOp.{UnaryOp}
use Rattle.opcode.specs.declared.op.Op.{Op}
use Rattle.proto.specs.declared.parts.LocVar.{LocVar}
use Rattle.core_expr.specs.Making.{made_binary, made_concat, made_index, made_unary}
use Rattle.core_expr.specs.Targets.{TargetValue}
use Rattle.core_expr.specs.Values.{Value, and_value, nil_value, no_items, no_values, vararg_value}
use Rattle.recover_expr.specs.Assigning.{as_statement, assigned, assigned_from, assignment_from, assignment_of, further_store, further_stores, named_function, no_targets, targets, targets_written, value_assignment}
use Rattle.recover_expr.specs.Closures.{behind_upvalues, captures, closure}
use Rattle.recover_expr.specs.Constructors.{item, item_at, list_items, maker_place, set_list, set_list_at, with_keyed}
use Rattle.recover_expr.specs.Declaring.{captures_itself, declaration, fits_variables, head_at, head_of, head_values, hidden_count, locals_declared, loop_head, slice_of, statement_made}
use Rattle.recover_expr.specs.Drafts.{Did, Drafted, ends, goes, makes}
use Rattle.recover_expr.specs.Entries.{Entries, maker_entry, missing_entry, more, more_entry, open_entry, place_in, take_from, take_singles, value_entry}
use Rattle.recover_expr.specs.Lists.{Straight, assigned_values, straight_operand, straight_value}
use Rattle.recover_expr.specs.Locals.{declare, is_hidden, names_from, or_zero, starting}
use Rattle.recover_expr.specs.Reading.{Turn, as_over, go_on, lone_as, lone_step, on, over, plain_as, read_word, step_at, stores_as, turn_at, turn_of, turned, value_as, value_to, words_from}
use Rattle.recover_expr.specs.Situation.{Function, Situation, begun, constant_in, global_in, is_op_jump, is_op_return, is_return, jump_behind, local_in, pop, pop_operand, see, take_body, target, upvalue_in, upvalues_in, word_at}
use Rattle.recover_expr.specs.Stores.{Assigning, StoredValue, add_further, are_all, from_register, operand_stored, register_stored, store_as, store_of, straight}
use Rattle.recover_expr.specs.Testing.{alone, condition, test, tested_by}
use Rattle.recover_expr.specs.Words.{Done, arithmetic, as_end, call, concat_of, far_method, get_table, gone, is_op_self, load_constant, load_nil, loaded, made_by, made_call_of, method, operator_of, results, returned, tail_call, unary, vararg, with_method, with_more, with_register}
use Rattle.recover_expr.specs.Writing.{list_written, value_written}
use Rattle.recover_expr.specs.declared.function.Word.{Word}
use Rattle.recover_expr.specs.declared.stores.Place.{Place}
use Rattle.recover_expr.specs.declared.stores.Store.{Store}
use Rattle.reads_back.proofs.CapturedWords.{Spans, Stands, WordSpans, captured_between, list_skips, plain_behind, plain_spans, single_spans, skips_as, spans_between, spans_none, spans_on, spans_then, stands_span, word_stands}
use Rattle.reads_back.proofs.EachSome.{Each, each_if, each_map, each_next, each_none, each_of, each_some, each_tested, each_then, each_where}
use Rattle.reads_back.proofs.ScopesCaptured.{registers_as}
use Rattle.reads_back.proofs.StepScopes.{captured_by_words, captured_on, captured_then, registers_at, registers_of}
use Rattle.reads_back.proofs.StepsExact.{captured_by_step, step_of_words}
use Rattle.reads_back.proofs.Tests.{first_of_both, not_so, second_of_both}

-- whatever is made of what is there
each_as : {A B : Type 0} {Then : B → Type 0} (g : A → B) (o : Option A) → ((x : A) → Then (g x)) → Each Then (option_map g o)
each_as g None next = each_none
each_as g (Some x) next = each_some (next x)

-- ---- what a word does

abbrev did_next : Did → ℕ
did_next (makes v next) = next
did_next (goes next) = next
did_next (ends draft) = draft.next

-- the next word is this one
record GoesTo (next : ℕ) (p : Did × Situation) : Type 0 where
  is : did_next p.0 ≡ next

-- it goes as far as its own words
record DoneSpans (f : Function) (w : Word) (p : Did × Situation) : Type 0 where
  spans : WordSpans f w (did_next p.0)

-- the step that it ends goes as far
record EndSpans (f : Function) (pc : ℕ) (registers : List ℕ) (p : Drafted × Situation) : Type 0 where
  spans : Spans f pc p.0.next registers

here : {next : ℕ} {p : Did × Situation} → did_next p.0 ≡ next → GoesTo next p
here is = record { is = is }

all_ended : {f : Function} {w : Word} {o : Option (Drafted × Situation)} → Each (EndSpans f w.pc (registers_as w.instr.op f w)) o → Each (DoneSpans f w) (option_map as_end o)
all_ended each = each_map _ each (λ p one. record { spans = one.spans })

-- one that has no words of its own
goes_single : {f : Function} {w : Word} {o : Done} (op : Op) → w.instr.op ≡ op → skips_as op f w.instr ≡ 0 → Stands f w → Each (GoesTo w.next) o → Each (DoneSpans f w) o
goes_single {f} {w} op is none stands each = each_of each (λ p goes. record { spans = subst (WordSpans f w) (sym goes.is) (single_spans op is none stands) })

-- ---- words behind a word

op_self : (op : Op) → is_op_self op ≡ true → op ≡ Op.Self_
op_self Op.Self_ is = refl
op_self op is = not_so is

op_jump : (op : Op) → is_op_jump op ≡ true → op ≡ Op.Jmp
op_jump Op.Jmp is = refl
op_jump op is = not_so is

op_return : (op : Op) → is_op_return op ≡ true → op ≡ Op.Return
op_return Op.Return is = refl
op_return op is = not_so is

jump_spans : (f : Function) (w : Word) → Each (λ jump. Spans f w.next jump.next []) (jump_behind f w)
jump_spans f w = each_then (word_stands f w.next) (λ jump stands.
    each_tested (nat_lt jump.pc f.last && is_op_jump jump.instr.op) (λ is. each_some (plain_behind Op.Jmp (op_jump jump.instr.op (second_of_both (nat_lt jump.pc f.last) (is_op_jump jump.instr.op) is)) refl refl stands)))

-- ---- words of values

gone_here : {next : ℕ} (o : Option Situation) → Each (GoesTo next) (gone next o)
gone_here o = each_as _ o (λ s. here refl)

made_here : (w : Word) (s : Situation) (v : Option Value) → Each (GoesTo w.next) (made_by w s v)
made_here w s v = each_as _ v (λ v. here refl)

arithmetic_here : (f : Function) (w : Word) (op : BinaryOp) (s : Situation) → Each (GoesTo w.next) (arithmetic f w op s)
arithmetic_here f w op s = each_next (pop_operand f w.instr.c s) (λ right. each_next (pop_operand f w.instr.b right.1) (λ left. made_here w left.1 (made_binary op left.0 right.0)))

unary_here : (f : Function) (w : Word) (op : UnaryOp) (s : Situation) → Each (GoesTo w.next) (unary f w op s)
unary_here f w op s = each_next (pop f w.instr.b s) (λ of. made_here w of.1 (made_unary op of.0))

concat_here : (w : Word) (s : Situation) (first last : Option ℕ) → Each (GoesTo w.next) (concat_of w s first last)
concat_here w s None last = each_none
concat_here w s (Some first) None = each_none
concat_here w s (Some first) (Some last) = each_where (nat_lt first last && (length s.entries == suc last)) (each_next (take_singles first s.entries) (λ p. made_here w (record s { entries = p.1 }) (made_concat p.0)))

operator_here : (f : Function) (w : Word) (s : Situation) (op : Op) → Each (GoesTo w.next) (operator_of f w s op)
operator_here f w s Op.Add = arithmetic_here f w BinaryOp.Add s
operator_here f w s Op.Sub = arithmetic_here f w BinaryOp.Sub s
operator_here f w s Op.Mul = arithmetic_here f w BinaryOp.Mul s
operator_here f w s Op.Div = arithmetic_here f w BinaryOp.Div s
operator_here f w s Op.Mod = arithmetic_here f w BinaryOp.Rem s
operator_here f w s Op.Pow = arithmetic_here f w BinaryOp.Pow s
operator_here f w s Op.Unm = unary_here f w UnaryOp.Neg s
operator_here f w s Op.Not = unary_here f w UnaryOp.Not s
operator_here f w s Op.Len = unary_here f w UnaryOp.Len s
operator_here f w s Op.Concat = concat_here w s (place_in s.base w.instr.b) (place_in s.base w.instr.c)
operator_here f w s op = each_none

-- the SELF behind the LOADK of its name
constant_spans : (f : Function) (w : Word) (s : Situation) → w.instr.op ≡ Op.LoadK → Stands f w → Each (DoneSpans f w) (load_constant f w s)
constant_spans f w s op stands = each_next (constant_in f w.instr.bx) (λ k. by k (place_in s.base w.instr.a))
  where
    single : WordSpans f w w.next
    single = single_spans Op.LoadK op refl stands

    far : (k : ℕ) → Each (DoneSpans f w) (far_method f w k s)
    far k = each_where (nat_lt w.next f.last) (each_then (word_stands f w.next) (λ self there.
        each_tested (is_op_self self.instr.op && (self.instr.c == w.instr.a)) (λ is. each_next (pop f self.instr.b s) (λ p. each_where (self.instr.a + 2 == w.instr.a)
        (each_as _ (with_method self.instr.a p.0 k p.1) (λ t. record { spans = spans_on single (plain_behind Op.Self_ (op_self self.instr.op (first_of_both (is_op_self self.instr.op) (self.instr.c == w.instr.a) is)) refl refl there) }))))))

    by : (k : ℕ) (place : Option ℕ) → Each (DoneSpans f w) (loaded f w s place k)
    by k None = each_some (record { spans = single })
    by k (Some place) = each_if (nat_lt (length s.entries) place) (far k) (each_some (record { spans = single }))

nil_here : (w : Word) (s : Situation) → Each (GoesTo w.next) (load_nil w s)
nil_here w s = each_if (w.instr.a == w.instr.b) (each_some {x = (makes nil_value w.next, s)} (here refl)) (each_where (nat_le w.instr.a w.instr.b) (gone_here (option_map (with_more (more (w.instr.b - w.instr.a) missing_entry)) (with_register w.instr.a missing_entry s))))

get_table_here : (f : Function) (w : Word) (s : Situation) → Each (GoesTo w.next) (get_table f w s)
get_table_here f w s = each_next (pop_operand f w.instr.c s) (λ key. each_next (pop f w.instr.b key.1) (λ on. made_here w on.1 (made_index on.0 key.0)))

item_here : (f : Function) (w : Word) (s : Situation) → Each (GoesTo w.next) (item f w s)
item_here f w s = by (maker_place w s.base s.entries)
  where
    by : (place : Option ℕ) → Each (GoesTo w.next) (item_at f w s place)
    by None = each_none
    by (Some place) = each_next (pop_operand f w.instr.c s) (λ item. each_next (pop_operand f w.instr.b item.1) (λ key. gone_here (option_map (λ (es : Entries). record key.1 { entries = es }) (with_keyed place key.0 item.0 key.1.entries))))

method_here : (f : Function) (w : Word) (s : Situation) → Each (GoesTo w.next) (method f w s)
method_here f w s = each_where (nat_le 256 w.instr.c) (each_next (constant_in f (w.instr.c - 256)) (λ name. each_next (pop f w.instr.b s) (λ p. gone_here (with_method w.instr.a p.0 name p.1))))

call_here : (f : Function) (w : Word) (s : Situation) → Each (GoesTo w.next) (call f w s)
call_here f w s = each_next (made_call_of w s) (λ p.
    each_if (w.instr.c == 0) (gone_here (with_register w.instr.a (open_entry p.0) p.1))
    (each_if (w.instr.c == 1) (each_map {Holds = λ (q : Drafted × Situation). q.0.next ≡ w.next} _ (each_where (length p.1.entries == 0) (each_as _ (value_written f p.1.taken p.0 p.1) (λ c. refl))) (λ q is. here is))
    (gone_here (option_map (with_more (more (w.instr.c - 2) more_entry)) (with_register w.instr.a (value_entry p.0) p.1)))))

vararg_here : (w : Word) (s : Situation) → Each (GoesTo w.next) (vararg w s)
vararg_here w s =
    each_if (w.instr.b == 0) (gone_here (with_register w.instr.a (open_entry vararg_value) s))
    (each_if (w.instr.b == 1) each_none (each_if (w.instr.b == 2) (each_some {x = (makes vararg_value w.next, s)} (here refl)) (gone_here (option_map (with_more (more (w.instr.b - 2) more_entry)) (with_register w.instr.a (value_entry vararg_value) s)))))

-- ---- words that others belong to

list_spans : (f : Function) (w : Word) (s : Situation) → w.instr.op ≡ Op.SetList → Stands f w → Each (DoneSpans f w) (set_list f w s)
list_spans f w s op stands = by (maker_place w s.base s.entries)
  where
    next : Bool → ℕ
    next far = if far then w.next + 1 else w.next

    skips : (far : Bool) → next far ≡ list_skips far + w.next
    skips true = omega arith
    skips false = omega arith

    behind : next (w.instr.c == 0) ≡ skips_as w.instr.op f w.instr + w.next
    behind = skips (w.instr.c == 0) ∙ ap (λ op. skips_as op f w.instr + w.next) (sym op)

    by : (place : Option ℕ) → Each (DoneSpans f w) (set_list_at f w s place)
    by None = each_none
    by (Some place) = each_next (list_items place w.instr.b s.entries) (λ entries. each_map _ (each_where (nat_le (next (w.instr.c == 0)) f.last) (each_some {Holds = WordSpans f w} (stands_span (next (w.instr.c == 0)) stands behind))) (λ next spans. record { spans = spans }))

closure_spans : (f : Function) (w : Word) (s : Situation) → w.instr.op ≡ Op.Closure → Stands f w → Each (DoneSpans f w) (closure f w s)
closure_spans f w s op stands = each_then (by (upvalues_in f w.instr.bx) refl) (λ next spans. each_as _ (captures f w (next - w.next) w.next false s) (λ p. record { spans = spans }))
  where
    by : (many : Option ℕ) → upvalues_in f w.instr.bx ≡ many → Each (WordSpans f w) (option_and_then (behind_upvalues f w) many)
    by None is = each_none
    by (Some count) is =
        let skips : count ≡ skips_as w.instr.op f w.instr = sym (ap or_zero is) ∙ ap (λ op. skips_as op f w.instr) (sym op) in
        each_where (nat_le (w.next + count) f.last) (each_some {Holds = WordSpans f w} (stands_span (w.next + count) stands (omega (arith, skips))))

-- ---- words that end a step

lone_spans : (f : Function) (w : Word) (s : Situation) (op : Op) → w.instr.op ≡ op → skips_as op f w.instr ≡ 0 → Stands f w → Each (DoneSpans f w) (lone_step f w s)
lone_spans f w s op is none stands = each_map _ (each_where ((s.pc == w.pc) && (length s.entries == 0)) (subst (λ op. Each (λ (draft : Drafted). WordSpans f w draft.next) (lone_as op f w s)) (sym is) (by op))) (λ draft spans. record { spans = spans })
  where
    single : WordSpans f w w.next
    single = single_spans op is none stands

    by : (op : Op) → Each (λ (draft : Drafted). WordSpans f w draft.next) (lone_as op f w s)
    by Op.Close = each_some single
    by Op.TForLoop = each_then (jump_spans f w) (λ jump more. each_as _ (target f jump) (λ to. spans_on single more))
    by Op.ForLoop = each_as _ (target f w) (λ to. single)
    by op = each_as _ (target f w) (λ to. single)

test_spans : (f : Function) (w : Word) (s : Situation) (op : Op) → w.instr.op ≡ op → skips_as op f w.instr ≡ 0 → Stands f w → Each (EndSpans f w.pc (registers_as w.instr.op f w)) (test f w s)
test_spans f w s op is none stands =
    each_then (jump_spans f w) (λ jump more. each_next (option_and_then alone (tested_by f w s)) (λ p. each_next (condition f p.0 p.1) (λ c. each_as _ (target f jump) (λ to. record { spans = spans_on (single_spans op is none stands) more }))))

returned_spans : (f : Function) (w : Word) (s : Situation) → w.instr.op ≡ Op.Return → Stands f w → Each (EndSpans f w.pc (registers_as w.instr.op f w)) (returned f w s)
returned_spans f w s op stands =
    each_next (results f w s) (λ p. each_where (length p.1.entries == 0) (each_as _ (list_written f p.1.taken p.0 p.1) (λ values. record { spans = single_spans Op.Return op refl stands })))

tail_spans : (f : Function) (w : Word) (s : Situation) → w.instr.op ≡ Op.TailCall → Stands f w → Each (EndSpans f w.pc (registers_as w.instr.op f w)) (tail_call f w s)
tail_spans f w s op stands =
    each_next (made_call_of w s) (λ p. each_then (word_stands f w.next) (λ behind there.
    each_tested ((nat_lt w.next f.last && is_return w.instr.a 0 behind.instr) && ((length p.1.entries == 0) && (w.instr.c == 0))) (λ is.
    let returns = second_of_both (nat_lt w.next f.last) (is_return w.instr.a 0 behind.instr) (first_of_both (nat_lt w.next f.last && is_return w.instr.a 0 behind.instr) ((length p.1.entries == 0) && (w.instr.c == 0)) is) in
    let is_op = op_return behind.instr.op (first_of_both (is_op_return behind.instr.op) ((behind.instr.a == w.instr.a) && ((behind.instr.b == 0) && (behind.instr.c == 0))) returns) in
    each_as _ (list_written f p.1.taken (record { values = and_value p.0 no_values; all = true }) p.1) (λ values. record { spans = spans_on (single_spans Op.TailCall op refl stands) (plain_behind Op.Return is_op refl refl there) }))))

-- ---- assignments

statement_next : (f : Function) (stores : List Store) (last : Option Straight) (next : ℕ) (targets : List TargetValue) (entries : Entries) (s : Situation) (named : Option (List Text × ℕ)) →
    Each (λ (p : Drafted × Situation). p.0.next ≡ next) (as_statement f stores last next targets entries s named)
statement_next f stores last next targets entries s (Some named) = each_as _ (take_body named.1 s) (λ p. refl)
statement_next f stores last next targets entries s None = each_next (targets_written f targets (no_targets, s.taken, s)) (λ written. each_as _ (assigned_values f stores written.1 entries last written.2) (λ values. refl))

assigned_next : (f : Function) (a : Assigning) (last : Option Straight) (next : ℕ) (s : Situation) → Each (λ (p : Drafted × Situation). p.0.next ≡ next) (assigned f a last next s)
assigned_next f a last next s =
    each_next (targets f a.low a.stores s) (λ targets. each_next (take_from a.low targets.1.entries) (λ values. each_next (named_function f (record targets.1 { entries = values.1 }) targets.0 values.0 last) (λ named.
    statement_next f a.stores last next targets.0 values.0 (record targets.1 { entries = values.1 }) named)))

-- a store captures nothing, and has no further words
store_spans : (f : Function) (w : Word) (s : Situation) → Stands f w → Each (λ p. Spans f w.pc w.next [] × WordSpans f w w.next) (store_of f w s)
store_spans f w s stands = each_map {Holds = λ p. Spans f w.pc w.next [] × WordSpans f w w.next} _ (by w.instr.op refl) (λ p both. both)
  where
    stores : {o : Option (Place × StoredValue)} (op : Op) → w.instr.op ≡ op → skips_as op f w.instr ≡ 0 → registers_as op f w ≡ [] → Each (λ p. Spans f w.pc w.next [] × WordSpans f w w.next) o
    stores op is none no_registers = record { at = λ p there. (plain_spans op is none no_registers stands, single_spans op is none stands) }

    by : (op : Op) → w.instr.op ≡ op → Each (λ p. Spans f w.pc w.next [] × WordSpans f w w.next) (store_as op f w s)
    by Op.SetGlobal is = stores Op.SetGlobal is refl refl
    by Op.SetUpval is = stores Op.SetUpval is refl refl
    by Op.SetTable is = stores Op.SetTable is refl refl
    by Op.Move is = stores Op.Move is refl refl
    by op is = each_none

further_spans : (f : Function) (a : Assigning) (pc : ℕ) (s : Situation) → Each (λ q. Spans f pc q.1 []) (further_store f a pc s)
further_spans f a pc s =
    each_where (nat_lt pc f.last) (each_then (word_stands f pc) (λ w there. each_then (store_spans f w (see w.instr s) there.0) (λ store both.
    each_as _ (add_further (see w.instr s).base store.0 store.1 a) (λ more. subst (λ pc. Spans f pc w.next []) there.1 both.0))))

further_stores_span : (f : Function) (count : ℕ) (p : Assigning × ℕ × Situation) → Each (λ q. Spans f p.1 q.1 []) (further_stores f count p)
further_stores_span f zero p = each_some spans_none
further_stores_span f (suc count) p = each_if (are_all p.0) (each_some spans_none) (each_then (further_spans f p.0 p.1 p.2) (λ q one. each_of (further_stores_span f count q) (λ r more. spans_on one more)))

assigned_spans : (f : Function) (last : Option Straight) (next : ℕ) (s : Situation) (a : Assigning) → Each (EndSpans f next []) (assigned_from f last next s a)
assigned_spans f last next s a =
    each_then (further_stores_span f (length s.entries) (a, next, s)) (λ p spans. each_of (assigned_next f p.0 last p.1 p.2) (λ q is. record { spans = subst (λ behind. Spans f next behind []) (sym is) spans }))

assignment_of_spans : (f : Function) (w : Word) (s : Situation) (first : Store) (stored : StoredValue) → Each (EndSpans f w.next []) (assignment_of f w s first stored)
assignment_of_spans f w s first (operand_stored o) = each_next (straight s.base (length s.entries) first) (λ a. assigned_spans f (Some (straight_operand o)) w.next s a)
assignment_of_spans f w s first (register_stored place) = each_next (from_register s.base (length s.entries) first place) (λ a. assigned_spans f None w.next s a)

assignment_spans : (f : Function) (w : Word) (s : Situation) → Stands f w → Each (EndSpans f w.pc (registers_as w.instr.op f w)) (assignment_from f w s)
assignment_spans f w s stands = each_then (store_spans f w s stands) (λ p both. each_of (assignment_of_spans f w s p.0 p.1) (λ q more. record { spans = spans_on both.1 more.spans }))

value_assignment_spans : (f : Function) (w : Word) (v : Value) (next : ℕ) (s : Situation) → Each (EndSpans f next []) (value_assignment f w v next s)
value_assignment_spans f w v next s = each_next (local_in f s w.instr.a) (λ there.
    each_next (straight s.base (length s.entries) (record { pc = w.pc; place = Place.Local w.instr.a })) (λ a. assigned_spans f (Some (straight_value v)) next s a))

-- ---- any word

plain_word_spans : (op : Op) (f : Function) (w : Word) (s : Situation) → w.instr.op ≡ op → Stands f w → Each (DoneSpans f w) (plain_as op f w s)
plain_word_spans Op.Move f w s is stands = goes_single Op.Move is refl stands (each_as _ (local_in f s w.instr.b) (λ v. here refl))
plain_word_spans Op.LoadK f w s is stands = constant_spans f w s is stands
plain_word_spans Op.LoadBool f w s is stands = goes_single Op.LoadBool is refl stands (each_some (here refl))
plain_word_spans Op.LoadNil f w s is stands = goes_single Op.LoadNil is refl stands (nil_here w s)
plain_word_spans Op.GetTable f w s is stands = goes_single Op.GetTable is refl stands (get_table_here f w s)
plain_word_spans Op.NewTable f w s is stands = goes_single Op.NewTable is refl stands (gone_here (with_register w.instr.a (maker_entry no_items false) s))
plain_word_spans Op.SetTable f w s is stands = goes_single Op.SetTable is refl stands (item_here f w s)
plain_word_spans Op.SetList f w s is stands = list_spans f w s is stands
plain_word_spans Op.Self_ f w s is stands = goes_single Op.Self_ is refl stands (method_here f w s)
plain_word_spans Op.Call f w s is stands = goes_single Op.Call is refl stands (call_here f w s)
plain_word_spans Op.Vararg f w s is stands = goes_single Op.Vararg is refl stands (vararg_here w s)
plain_word_spans Op.Closure f w s is stands = closure_spans f w s is stands
plain_word_spans Op.Return f w s is stands = all_ended (returned_spans f w s is stands)
plain_word_spans Op.TailCall f w s is stands = all_ended (tail_spans f w s is stands)
plain_word_spans Op.Jmp f w s is stands = lone_spans f w s Op.Jmp is refl stands
plain_word_spans Op.Close f w s is stands = lone_spans f w s Op.Close is refl stands
plain_word_spans Op.ForLoop f w s is stands = lone_spans f w s Op.ForLoop is refl stands
plain_word_spans Op.TForLoop f w s is stands = lone_spans f w s Op.TForLoop is refl stands
plain_word_spans op f w s is stands = goes_single op is refl stands (operator_here f w s w.instr.op)

value_word_spans : (op : Op) (f : Function) (w : Word) (s : Situation) → w.instr.op ≡ op → Stands f w → Each (DoneSpans f w) (value_as op f w s)
value_word_spans Op.GetGlobal f w s is stands = goes_single Op.GetGlobal is refl stands (each_as _ (global_in f w.instr) (λ name. here refl))
value_word_spans Op.GetUpval f w s is stands = goes_single Op.GetUpval is refl stands (each_as _ (upvalue_in f w.instr) (λ upvalue. here refl))
value_word_spans Op.LoadBool f w s is stands = each_where (w.instr.c == 0) (plain_word_spans w.instr.op f w s refl stands)
value_word_spans Op.TestSet f w s is stands = each_none
value_word_spans Op.Eq f w s is stands = all_ended (test_spans f w s Op.Eq is refl stands)
value_word_spans Op.Lt f w s is stands = all_ended (test_spans f w s Op.Lt is refl stands)
value_word_spans Op.Le f w s is stands = all_ended (test_spans f w s Op.Le is refl stands)
value_word_spans Op.Test f w s is stands = all_ended (test_spans f w s Op.Test is refl stands)
value_word_spans op f w s is stands = plain_word_spans w.instr.op f w s refl stands

read_word_spans : (f : Function) (w : Word) (s : Situation) → Stands f w → Each (DoneSpans f w) (read_word f w s)
read_word_spans f w s stands = each_if (stores_as w.instr.op f w s) (all_ended (assignment_spans f w s stands)) (value_word_spans w.instr.op f w s refl stands)

-- ---- declarations

head_op_spans : (f : Function) (w : Word) (locals : List LocVar) (op : Op) → w.instr.op ≡ op → Stands f w → Each (λ (numeric : Bool). Spans f w.pc w.next []) (head_of op locals)
head_op_spans f w locals Op.ForPrep is stands = record { at = λ numeric there. plain_spans Op.ForPrep is refl refl stands }
head_op_spans f w locals Op.Jmp is stands = record { at = λ numeric there. plain_spans Op.Jmp is refl refl stands }
head_op_spans f w locals op is stands = each_none

head_at_spans : (f : Function) (first count at : ℕ) → Each (λ p. Spans f at p.0.next []) (head_at f first count at)
head_at_spans f first count at = each_where (length (slice_of f.of.locals first count) == count) (each_then (word_stands f at) (λ w there.
    each_map _ (head_op_spans f w (slice_of f.of.locals first count) w.instr.op refl there.0) (λ numeric spans. subst (λ pc. Spans f pc w.next []) there.1 spans)))

loop_spans : (f : Function) (at count : ℕ) (s : Situation) → Each (EndSpans f at []) (loop_head f at count s)
loop_spans f at count s = each_then (head_at_spans f (length s.scope.declared) count at) (λ head spans.
    each_next (head_values f head.0 head.1 s) (λ values. each_next (declare f.of.locals hidden_count at (Some values.1.step) values.1.scope) (λ scope.
    let variables = starting f.of.locals head.0.next scope in
    each_where (fits_variables head.1 variables) (each_next (declare f.of.locals variables head.0.next (Some values.1.step) scope) (λ behind.
    each_next (names_from f.of.locals (length scope.declared) variables) (λ names. each_as _ (target f head.0) (λ foot. record { spans = spans })))))))

declared_spans : (f : Function) (at count : ℕ) (s : Situation) → Each (EndSpans f at []) (locals_declared f at count s)
declared_spans f at count s =
    each_next (option_and_then (statement_made f count s (captures_itself s.entries)) (names_from f.of.locals (length s.scope.declared) count)) (λ made.
    each_as _ (declare f.of.locals count at (Some made.1.step) made.1.scope) (λ scope. record { spans = spans_none }))

declaration_spans : (f : Function) (at count : ℕ) (s : Situation) → Each (EndSpans f at []) (declaration f at count s)
declaration_spans f at count s = each_if (is_hidden f.of.locals (length s.scope.declared)) (loop_spans f at count s) (each_if (nat_lt (length s.entries) count) each_none (declared_spans f at count s))

-- ---- turns

abbrev turn_next : Turn → ℕ
turn_next (on next) = next
turn_next (over draft) = draft.next

record TurnSpans (f : Function) (pc : ℕ) (registers : List ℕ) (p : Turn × Situation) : Type 0 where
  spans : Spans f pc (turn_next p.0) registers

did_spans : (f : Function) (w : Word) (registers : List ℕ) (behind : Situation) (did : Did) → Spans f w.pc (did_next did) registers → Each (TurnSpans f w.pc registers) (turned f w behind did)
did_spans f w registers behind (goes next) spans = each_some (record { spans = spans })
did_spans f w registers behind (ends draft) spans = each_some (record { spans = spans })
did_spans f w registers behind (makes v next) spans = by (place_in behind.base w.instr.a)
  where
    by : (place : Option ℕ) → Each (TurnSpans f w.pc registers) (value_to f w v next behind place)
    by None = each_map _ (value_assignment_spans f w v next behind) (λ p more. record { spans = spans_on spans more.spans })
    by (Some place) = each_as _ (with_register w.instr.a (value_entry v) behind) (λ t. record { spans = spans })

turn_spans : (f : Function) (pc : ℕ) (s : Situation) → Each (TurnSpans f pc (registers_at f pc s)) (turn_at f pc s)
turn_spans f pc s = by (nat_lt 0 (starting f.of.locals pc s.scope))
  where
    word : (there : Option Word) → Each (λ w. Stands f w × (w.pc ≡ pc)) there → Each (TurnSpans f pc (registers_of f there)) (option_and_then (turn_of f s) there)
    word None stands = each_none
    word (Some w) each =
        let stands = each.at w refl in
        each_then (read_word_spans f w (see w.instr s) stands.0) (λ p done.
        subst (λ pc. Each (TurnSpans f pc (registers_as w.instr.op f w)) (turned f w p.1 p.0)) stands.1 (did_spans f w (registers_as w.instr.op f w) p.1 p.0 done.spans))

    by : (starts : Bool) → Each (TurnSpans f pc (if starts then [] else registers_of f (word_at f pc)))
        (if starts then option_map as_over (declaration f pc (starting f.of.locals pc s.scope) s) else if nat_le f.last pc then None else option_and_then (turn_of f s) (word_at f pc))
    by true = each_map _ (declaration_spans f pc (starting f.of.locals pc s.scope) s) (λ p one. record { spans = one.spans })
    by false = each_if (nat_le f.last pc) each_none (word (word_at f pc) (word_stands f pc))

-- ---- steps

-- the words of a step go up to the next one, and capture what the step does
words_span : (f : Function) (count pc : ℕ) (s : Situation) → Each (EndSpans f pc (captured_by_words f count pc s)) (words_from f count pc s)
words_span f zero pc s = each_none
words_span f (suc count) pc s = by (λ next behind. words_span f count next behind) (turn_at f pc s) (turn_spans f pc s)
  where
    first : List ℕ
    first = registers_at f pc s

    Rest : Type 0
    Rest = (next : ℕ) (behind : Situation) → Each (EndSpans f next (captured_by_words f count next behind)) (words_from f count next behind)

    go : Rest → (turn : Turn) (behind : Situation) → Spans f pc (turn_next turn) first → Each (EndSpans f pc (first ++ captured_on (captured_by_words f count) turn behind)) (go_on (words_from f count) turn behind)
    go rest (on next) behind spans = each_of (rest next behind) (λ p more. record { spans = spans_then spans more.spans })
    go rest (over draft) behind spans = each_some (record { spans = spans_then spans spans_none })

    by : Rest → (turn : Option (Turn × Situation)) → Each (TurnSpans f pc first) turn → Each (EndSpans f pc (first ++ captured_then (captured_by_words f count) turn)) (option_and_then (λ (p : Turn × Situation). go_on (words_from f count) p.0 p.1) turn)
    by rest None each = each_none
    by rest (Some p) each = go rest p.0 p.1 (each.at p refl).spans

step_spans : (f : Function) (number pc : ℕ) (s : Situation) (draft : Drafted) (behind : Situation) → step_at f number pc s ≡ Some (draft, behind) → Spans f pc draft.next (captured_by_step f number pc s)
step_spans f number pc s draft behind is = ((words_span f (suc (f.last - pc)) pc (begun number pc s)).at (draft, behind) (step_of_words f number pc s draft behind is)).spans

-- The registers whose locals a step captures are those that the words from its pc up to the next step capture.
pub step_captures_between : (f : Function) (number pc : ℕ) (s : Situation) (draft : Drafted) (behind : Situation) → step_at f number pc s ≡ Some (draft, behind) → captured_by_step f number pc s ≡ captured_between f (draft.next - pc) pc
step_captures_between f number pc s draft behind is = sym (spans_between (step_spans f number pc s draft behind is))
