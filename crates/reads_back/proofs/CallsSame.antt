-- What is written of a call has the code of the call: a function with its arguments, and a method.
use Rattle.std.proofs.Common.{◌≡◌, ℕ, suc, ◌≤◌, max, ◌+◌, inr, Bool, true, false, cond, List, [], ◌++◌, length, Option, Some, None, refl, sym, ap, ◌∙◌, subst, arith}
use Rattle.std.specs.Prelude.{◌&&◌, not, ◌==◌, is_some, if◌then◌else◌}
use Rattle.lua_num.specs.Bytes.{Text}
use Rattle.lua_tree.specs.Names.{is_name as is_name_text}
use Rattle.lua_tree.specs.OneLine.{one_line_arguments, one_line_expression}
use Rattle.lua_tree.specs.Syntax.{Arguments, Expression, Expressions, argument_list, call_expression, method_call, text_argument, Fields, table_argument}
use Rattle.lua_tree.specs.WellFormed.{depth_of_arguments, depth_of_expression, depth_of_expressions, formed_expression, is_prefix, depth_of_fields, on_its_line}
use Rattle.opcode.specs.declared.op.Op.{Op}
use Rattle.proto.specs.declared.parts.Constant.{Constant}
use Rattle.core_expr.specs.Counting.{with_constant, taken_behind, taken_behind_values, left_by_values}
use Rattle.core_expr.specs.Making.{deepest, depth_of, made_call, made_method}
use Rattle.core_expr.specs.Places.{as_name, as_text, constant_name, place}
use Rattle.core_expr.specs.Values.{Value, call_value, method_value, Values, Inner}
use Rattle.core_expr.specs.Writing.{Wording, as_arguments, as_prefix, can_write_values, is_bare, text_or_empty, with_arguments, with_method, word_short, word_values}
use Rattle.recover_expr.specs.Situation.{Function}
use Rattle.scheme.specs.Expressions.{Coded, Want, count_field, fold, is_multiple, is_name, is_small, next_reg, next_text, operand, rk_text, small_constant}
use Rattle.scheme.specs.Lists.{Given, by_base, call_at, method_at, moved, results_at}
use Rattle.scheme.specs.Making.{Asks, Got, Maker, Part, freeing, free_from, put, take_registers, when}
use Rattle.scheme.specs.Scheme.{coded, given}
use Rattle.scheme.specs.declared.making.Piece.{Piece}
use Rattle.scheme.specs.declared.making.Active.{Active}
use Rattle.scheme_stands.proofs.Growth.{Final, before as before_part, before_free, before_put, before_take, calm, later, on_put, start}
use Rattle.scheme_stands.proofs.Parts.{grows, grows_given, grows_next, grows_operand, grows_results, grows_rk_text, grows_when}
use Rattle.scheme_stands.specs.Words.{Fn}
use Rattle.reads_back.specs.Cores.{HasCore, HasNumber}
use Rattle.reads_back.proofs.ConstantsSame.{constant_taken}
use Rattle.reads_back.proofs.Deeper.{some_depth}
use Rattle.reads_back.proofs.LiteralReads.{constant_there}
use Rattle.reads_back.proofs.Mentions.{IsAhead, Passed, ahead_behind, ahead_front, mentions_given, mentions_in, made_behind, made_both}
use Rattle.reads_back.proofs.PassedMentions.{mentions_passed, next_passes, operand_passes, rk_text_passes}
use Rattle.reads_back.proofs.Rewriting.{HasRoom, IsMadeBy, Rewritten, RewrittenGiven, arguments_wording, code, given_wording, wording}
use Rattle.reads_back.proofs.ShortWords.{AreGivenAlike, arguments_alike}
use Rattle.reads_back.proofs.Tests.{both_hold, first_of_both, given_is, second_of_both}
use Rattle.reads_back.proofs.InRoom.{IsInRoom, prefix_in}
use Rattle.reads_back.proofs.WordsSame.{levels_wrapped, made_called, next_low, next_same, next_taken, next_wrapped, operand_low, operand_same, operand_taken, operand_wrapped}

-- ---- what comes to a register from F

by_base_same : (one other : Part) (r : ℕ) (m : Maker) → one m ≡ other m → freeing (by_base 1 one r) m ≡ freeing (by_base 1 other r) m
by_base_same one other r m same = ap (λ (n : Maker). free_from m.free (moved 1 m.free r n)) same

before_base : {k : ℕ} {z : Maker} (one : Part) (r : ℕ) (m : Maker) → Final k (freeing (by_base 1 one r) m) z → Final k (one m) z
before_base one r m final =
    let move = put 1 (Piece.Abc Op.Move r m.free 0) in
    before_part (grows_when {v = calm} (not (m.free == r)) move (one m) (on_put _ _ (start (one m)))) (before_free m.free _ final)

base_keeps : (one : Part) (r : ℕ) (m : Maker) → length (freeing (by_base 1 one r) m).constants ≡ length (one m).constants
base_keeps one r m = by (not (m.free == r))
  where
    by : (b : Bool) → length (free_from m.free (when b (put 1 (Piece.Abc Op.Move r m.free 0)) (one m))).constants ≡ length (one m).constants
    by true = refl
    by false = refl

results_keep : (base : ℕ) (want : Want) (m : Maker) → length (results_at base want m).constants ≡ length m.constants
results_keep base None m = refl
results_keep base (Some n) m = refl

-- ---- a function with its arguments

call_at_same : (on off : Coded) (one other : Given) (op : Op) (want : Want) (m : Maker) → next_reg on m ≡ next_reg off m → one.part (next_reg off m) ≡ other.part (next_reg off m) → one.count ≡ other.count →
    call_at 1 on one op want m ≡ call_at 1 off other op want m
call_at_same on off one other op want m next part count =
    ap (λ (n : Maker). results_at m.free want (put 1 (Piece.Abc op m.free (count_field 1 one.count) (count_field 1 want)) (one.part n))) next
    ∙ ap (λ (n : Maker). results_at m.free want (put 1 (Piece.Abc op m.free (count_field 1 one.count) (count_field 1 want)) n)) part
    ∙ ap (λ (c : Want). results_at m.free want (put 1 (Piece.Abc op m.free (count_field 1 c) (count_field 1 want)) (other.part (next_reg off m)))) count

module _ {f : Function} {g : Fn} {active : List Active} {listed : List ℕ} {z : Maker} {lefts : ℕ → List (Option Inner)} {before mid behind : ℕ} (on : Expression) (args : Arguments) (o : Value) (values : Values) (all : Bool) (line on_line deep depth : ℕ)
    (has : HasCore on) (on_written : Rewritten f g active listed z lefts before mid on o) (args_written : RewrittenGiven f g active listed z lefts mid behind args deep values all)
    (within : deep ≤ max (depth_of_expression on) (depth_of_arguments args)) (shallow : deep ≤ 200) where
  abbrev prefix_words : (n : ℕ) → Wording
  prefix_words n = as_prefix (wording f listed z lefts before n o)

  abbrev call_words : (n : ℕ) → Wording
  call_words n = with_arguments (prefix_words n) (given_wording f listed z lefts mid (taken_behind o n) values all)

  call_words_are : (n : ℕ) → wording f listed z lefts before n (call_value o values all depth) ≡ call_words n
  call_words_are n =
      let at = place f.of listed f.short in
      ap (λ fs. with_arguments (prefix_words n) (as_arguments (f.short && not all) (word_short at (taken_behind o n) fs values) (word_values at (taken_behind o n) fs values all))) on_written.leaves

  abbrev of_call : Op → Want → Part
  of_call = call_at 1 (code on) (given (one_line_arguments args) 1)

  abbrev written_call : (n : ℕ) → Op → Want → Part
  written_call n = call_at 1 (coded (prefix_words n).words) (given (given_wording f listed z lefts mid (taken_behind o n) values all).words 1)

  alike : (n : ℕ) → AreGivenAlike (given_wording f listed z lefts mid n values all) (word_values (place f.of listed f.short) n (lefts mid) values all)
  alike n = arguments_alike (place f.of listed f.short) n (lefts mid) f.short values all

  before_word : (op : Op) (want : Want) (m : Maker) → Final (length m.labels) (of_call op want m) z → Final (length m.labels) ((given (one_line_arguments args) 1).part (next_reg (code on) m)) z
  before_word op want m final = before_put 1 _ _ (before_part (grows_results {v = calm} m.free want _) final)

  before_args : (op : Op) (want : Want) (m : Maker) → Final (length m.labels) (of_call op want m) z → Final (length m.labels) (next_reg (code on) m) z
  before_args op want m final = before_part (grows_given calm (one_line_arguments args) 1 (next_reg (code on) m)) (before_word op want m final)

  behind_on : (op : Op) (want : Want) (m : Maker) → Final (length m.labels) (of_call op want m) z → Final (length (next_reg (code on) m).labels) ((given (one_line_arguments args) 1).part (next_reg (code on) m)) z
  behind_on op want m final = let grown = grows_next {v = calm} (code on) (grows calm (one_line_expression on)) m in later grown.more (before_word op want m final)

  behind_ahead : (m : Maker) → IsAhead g active before (mentions_in on ++ mentions_given args) m → IsAhead g active mid (mentions_given args) (next_reg (code on) m)
  behind_ahead m ahead = ahead_behind (mentions_in on) (mentions_given args) on_written.makes (next_passes (mentions_in on) (code on) (mentions_passed on has) m) ahead

  call_same : (op : Op) (want : Want) (m : Maker) → IsAhead g active before (mentions_in on ++ mentions_given args) m → Final (length m.labels) (of_call op want m) z → written_call (length m.constants) op want m ≡ of_call op want m
  call_same op want m ahead final =
      let n = length m.constants in
      let on_made = next_reg (code on) m in
      call_at_same (coded (prefix_words n).words) (code on) (given (given_wording f listed z lefts mid (taken_behind o n) values all).words 1) (given (one_line_arguments args) 1) op want m
      (next_wrapped (is_prefix (wording f listed z lefts before n o).words) (wording f listed z lefts before n o) m ∙ next_same on_written m (ahead_front (mentions_in on) (mentions_given args) ahead) (before_args op want m final))
      ((alike (taken_behind o n)).part on_made ∙ ap (λ n. (given (arguments_wording f listed z lefts mid n values all).words 1).part on_made) (sym (next_taken on_written m (ahead_front (mentions_in on) (mentions_given args) ahead) (before_args op want m final))) ∙ args_written.part on_made (behind_ahead m ahead) (behind_on op want m final))
      ((alike (taken_behind o n)).count ∙ args_written.counts (taken_behind o n))

  call_taken : (op : Op) (want : Want) (m : Maker) → IsAhead g active before (mentions_in on ++ mentions_given args) m → Final (length m.labels) (of_call op want m) z →
      length (of_call op want m).constants ≡ taken_behind_values values (taken_behind o (length m.constants))
  call_taken op want m ahead final =
      results_keep m.free want _
      ∙ args_written.taken (next_reg (code on) m) (behind_ahead m ahead) (behind_on op want m final)
      ∙ ap (taken_behind_values values) (next_taken on_written m (ahead_front (mentions_in on) (mentions_given args) ahead) (before_args op want m final))

  -- in the forms of fewest levels
  call_low : f.short ≡ true → formed_expression (call_expression line on args on_line) ≡ true → (op : Op) (want : Want) (m : Maker) → IsAhead g active before (mentions_in on ++ mentions_given args) m → Final (length m.labels) (of_call op want m) z →
      HasRoom f listed z lefts before (length m.constants) (call_expression line on args on_line) (call_value o values all depth)
  call_low short formed op want m ahead final =
      let n = length m.constants in
      let parts = second_of_both (is_prefix on) _ formed in
      let given = second_of_both (on_its_line args line on_line) _ (second_of_both (formed_expression on) _ parts) in
      let here = ahead_front (mentions_in on) (mentions_given args) ahead in
      let w = wording f listed z lefts before n o in
      let one = prefix_in (is_bare (place f.of listed f.short) n o) on w (next_low on_written short (first_of_both _ _ parts) m here (before_args op want m final)) (first_of_both _ _ formed) in
      let other = args_written.low short given shallow (next_reg (code on) m) (behind_ahead m ahead) (behind_on op want m final) in
      let same = ap (λ n. (given_wording f listed z lefts mid n values all).levels) (next_taken on_written m here (before_args op want m final)) in
      subst (λ (w : Wording). IsInRoom true (call_expression line on args on_line) w) (sym (call_words_are n))
      (inr (record { low = omega (arith, one, other, same); binds = record { prefix = refl; level = refl; unary = refl; several = refl }; bare_there = λ none. refl; unfolded = refl }))

  call_written : Rewritten f g active listed z lefts before behind (call_expression line on args on_line) (call_value o values all depth)
  call_written = record {
    can = both_hold _ _ on_written.can (ap (λ fs. can_write_values (place f.of listed f.short) fs values) on_written.leaves ∙ args_written.can);
    leaves = ap (left_by_values values) on_written.leaves ∙ args_written.leaves;
    makes = args_written.makes ∙ ap (made_behind (mentions_given args)) on_written.makes ∙ sym (made_both (mentions_in on) (mentions_given args) before);
    named = λ n. ap (λ (w : Wording). is_name w.words) (call_words_are n);
    folded = λ n. ap (λ (w : Wording). fold w.words) (call_words_are n);
    several = λ n. ap (λ (w : Wording). is_multiple w.words) (call_words_are n);
    gives = λ is. refl;
    few = λ n.
        let same = ap (λ (w : Wording). w.levels) (call_words_are n) in
        let prefix_few = levels_wrapped (is_prefix (wording f listed z lefts before n o).words) (wording f listed z lefts before n o) in
        let given_few = args_written.few (taken_behind o n) in
        let no_more = (alike (taken_behind o n)).levels (omega (arith, given_few, within, shallow)) in
        omega (arith, same, prefix_few, on_written.few n, given_few, no_more, within);
    low = λ short formed m ahead as_made.
        made_called (call_expression line on args on_line) m refl (λ r final. call_low short formed Op.Call (Some 1) m ahead (before_base (of_call Op.Call (Some 1)) r m final)) (λ op want final. call_low short formed op want m ahead final) as_made;
    keys = omega arith;
    as_local = λ n r m ahead is. cc;
    to_reg = λ r m ahead final.
        ap (λ (w : Wording). (coded w.words).to_reg r m) (call_words_are (length m.constants))
        ∙ by_base_same (written_call (length m.constants) Op.Call (Some 1)) (of_call Op.Call (Some 1)) r m (call_same Op.Call (Some 1) m ahead (before_base (of_call Op.Call (Some 1)) r m final));
    taken = λ r m ahead final. base_keeps (of_call Op.Call (Some 1)) r m ∙ call_taken Op.Call (Some 1) m ahead (before_base (of_call Op.Call (Some 1)) r m final);
    multi = λ is op want m ahead final. ap (λ (w : Wording). (coded w.words).multi op want m) (call_words_are (length m.constants)) ∙ call_same op want m ahead final;
    multi_taken = λ is op want m ahead final. call_taken op want m ahead final;
  }

-- ---- a method

-- behind what a method is called on, before its arguments
abbrev self_behind : (base : ℕ) → Text → Got ℕ → Maker
self_behind base name got =
    let named = rk_text 1 name (take_registers 2 (free_from base got.after)) in
    free_from (base + 2) (put 1 (Piece.Abc Op.Self_ base got.value named.value) named.after)

method_at_same : (on off : Coded) (name : Text) (one other : Given) (op : Op) (want : Want) (m : Maker) → operand on m ≡ operand off m → one.part (self_behind m.free name (operand off m)) ≡ other.part (self_behind m.free name (operand off m)) →
    one.count ≡ other.count → method_at 1 on name one op want m ≡ method_at 1 off name other op want m
method_at_same on off name one other op want m same part count =
    ap (λ (got : Got ℕ). results_at m.free want (put 1 (Piece.Abc op m.free (count_field 2 one.count) (count_field 1 want)) (one.part (self_behind m.free name got)))) same
    ∙ ap (λ (n : Maker). results_at m.free want (put 1 (Piece.Abc op m.free (count_field 2 one.count) (count_field 1 want)) n)) part
    ∙ ap (λ (c : Want). results_at m.free want (put 1 (Piece.Abc op m.free (count_field 2 c) (count_field 1 want)) (other.part (self_behind m.free name (operand off m))))) count

-- the constant of a name is taken, as an operand or loaded
name_taken : {f : Function} {g : Fn} {active : List Active} {listed : List ℕ} {z : Maker} {j : ℕ} → IsMadeBy f g active listed z → (name : Text) (number : ℕ) (m : Maker) → HasNumber g (Constant.Text name) number →
    Final j (rk_text 1 name m).after z → length (rk_text 1 name m).after.constants ≡ with_constant (length m.constants) number
name_taken {z = z} {j = j} made name number m has final = by (is_small (Constant.Text name) m) final
  where
    asks : Bool → Asks ℕ
    asks small = cond small (small_constant (Constant.Text name)) (λ n. record { value = n.free; after = next_text 1 name n })

    by : (small : Bool) → Final j (asks small m).after z → length (asks small m).after.constants ≡ with_constant (length m.constants) number
    by true final = constant_taken made (Constant.Text name) number m has final
    by false final = constant_taken made (Constant.Text name) number m has (before_put 1 _ _ (before_take 1 _ final))

module _ {f : Function} {g : Fn} {active : List Active} {listed : List ℕ} {z : Maker} {lefts : ℕ → List (Option Inner)} {before mid behind : ℕ} (made : IsMadeBy f g active listed z)
    (on : Expression) (args : Arguments) (o : Value) (values : Values) (all : Bool) (line on_line deep depth number : ℕ) (name : Text)
    (has : HasCore on) (on_written : Rewritten f g active listed z lefts before mid on o) (args_written : RewrittenGiven f g active listed z lefts mid behind args deep values all) (within : deep ≤ max (depth_of_expression on) (depth_of_arguments args)) (shallow : deep ≤ 200)
    (numbered : HasNumber g (Constant.Text name) number) (named : is_name_text name ≡ true) where
  abbrev on_words : (n : ℕ) → Wording
  on_words n = as_prefix (wording f listed z lefts before n o)

  abbrev behind_name : (n : ℕ) → ℕ
  behind_name n = with_constant (taken_behind o n) number

  abbrev method_words : (n : ℕ) → Wording
  method_words n = with_method (on_words n) name (given_wording f listed z lefts mid (behind_name n) values all)

  name_there : constant_name (place f.of listed f.short) number ≡ Some name
  name_there = ap (λ k. as_name (as_text k)) (constant_there number (Constant.Text name) made.is_function numbered.is) ∙ ap (λ good. if good then Some name else None) named

  method_words_are : (n : ℕ) → wording f listed z lefts before n (method_value o number values all depth) ≡ method_words n
  method_words_are n =
      let at = place f.of listed f.short in
      let method_name = text_or_empty (constant_name at number) in
      ap (λ fs. with_method (on_words n) method_name (as_arguments (f.short && not all) (word_short at (behind_name n) fs values) (word_values at (behind_name n) fs values all))) on_written.leaves
      ∙ ap (λ (k : Option Text). with_method (on_words n) (text_or_empty k) (given_wording f listed z lefts mid (behind_name n) values all)) name_there

  abbrev of_method : Op → Want → Part
  of_method = method_at 1 (code on) name (given (one_line_arguments args) 1)

  abbrev written_method : (n : ℕ) → Op → Want → Part
  written_method n = method_at 1 (coded (on_words n).words) name (given (given_wording f listed z lefts mid (behind_name n) values all).words 1)

  method_alike : (n : ℕ) → AreGivenAlike (given_wording f listed z lefts mid n values all) (word_values (place f.of listed f.short) n (lefts mid) values all)
  method_alike n = arguments_alike (place f.of listed f.short) n (lefts mid) f.short values all

  abbrev before_given : Maker → Maker
  before_given m = self_behind m.free name (operand (code on) m)

  behind_given : (op : Op) (want : Want) (m : Maker) → Final (length m.labels) (of_method op want m) z → Final (length m.labels) ((given (one_line_arguments args) 1).part (before_given m)) z
  behind_given op want m final = before_put 1 _ _ (before_part (grows_results {v = calm} m.free want _) final)

  behind_rk : (op : Op) (want : Want) (m : Maker) → Final (length m.labels) (of_method op want m) z → Final (length m.labels) (rk_text 1 name (take_registers 2 (free_from m.free (operand (code on) m).after))).after z
  behind_rk op want m final = before_put 1 _ _ (before_free (m.free + 2) _ (before_part (grows_given calm (one_line_arguments args) 1 (before_given m)) (behind_given op want m final)))

  behind_operand : (op : Op) (want : Want) (m : Maker) → Final (length m.labels) (of_method op want m) z → Final (length m.labels) (operand (code on) m).after z
  behind_operand op want m final = before_free m.free _ (before_take 2 _ (before_part (grows_rk_text {v = calm} 1 name (take_registers 2 (free_from m.free (operand (code on) m).after))) (behind_rk op want m final)))

  given_final : (op : Op) (want : Want) (m : Maker) → Final (length m.labels) (of_method op want m) z → Final (length (before_given m).labels) ((given (one_line_arguments args) 1).part (before_given m)) z
  given_final op want m final =
      let one = grows_operand {v = calm} (code on) (grows calm (one_line_expression on)) m in
      let two = grows_rk_text {v = calm} 1 name (take_registers 2 (free_from m.free (operand (code on) m).after)) in
      later (omega (arith, one.more, two.more)) (behind_given op want m final)

  -- the name of a method is a constant, and so no name of the scope
  name_is_passed : (m : Maker) → Passed [] (take_registers 2 (free_from m.free (operand (code on) m).after)) (before_given m)
  name_is_passed m = let passed = rk_text_passes 1 name (take_registers 2 (free_from m.free (operand (code on) m).after)) in record { around = passed.around; behind = passed.behind }

  self_passed : (m : Maker) → Passed (mentions_in on) m (take_registers 2 (free_from m.free (operand (code on) m).after))
  self_passed m = let passed = operand_passes (mentions_in on) (code on) (mentions_passed on has) m in record { around = passed.around; behind = passed.behind }

  given_ahead : (m : Maker) → IsAhead g active before (mentions_in on ++ mentions_given args) m → IsAhead g active mid (mentions_given args) (before_given m)
  given_ahead m ahead = ahead_behind [] (mentions_given args) refl (name_is_passed m) (ahead_behind (mentions_in on) (mentions_given args) on_written.makes (self_passed m) ahead)

  given_taken : (op : Op) (want : Want) (m : Maker) → IsAhead g active before (mentions_in on ++ mentions_given args) m → Final (length m.labels) (of_method op want m) z → length (before_given m).constants ≡ behind_name (length m.constants)
  given_taken op want m ahead final =
      name_taken made name number (take_registers 2 (free_from m.free (operand (code on) m).after)) numbered (behind_rk op want m final)
      ∙ ap (λ n. with_constant n number) (operand_taken on_written m (ahead_front (mentions_in on) (mentions_given args) ahead) (behind_operand op want m final))

  method_same : (op : Op) (want : Want) (m : Maker) → IsAhead g active before (mentions_in on ++ mentions_given args) m → Final (length m.labels) (of_method op want m) z → written_method (length m.constants) op want m ≡ of_method op want m
  method_same op want m ahead final =
      let n = length m.constants in
      method_at_same (coded (on_words n).words) (code on) name (given (given_wording f listed z lefts mid (behind_name n) values all).words 1) (given (one_line_arguments args) 1) op want m
      (operand_wrapped (is_prefix (wording f listed z lefts before n o).words) (wording f listed z lefts before n o) m ∙ operand_same on_written m (ahead_front (mentions_in on) (mentions_given args) ahead) (behind_operand op want m final))
      ((method_alike (behind_name n)).part (before_given m) ∙ ap (λ n. (given (arguments_wording f listed z lefts mid n values all).words 1).part (before_given m)) (sym (given_taken op want m ahead final)) ∙ args_written.part (before_given m) (given_ahead m ahead) (given_final op want m final))
      ((method_alike (behind_name n)).count ∙ args_written.counts (behind_name n))

  method_taken : (op : Op) (want : Want) (m : Maker) → IsAhead g active before (mentions_in on ++ mentions_given args) m → Final (length m.labels) (of_method op want m) z →
      length (of_method op want m).constants ≡ taken_behind_values values (behind_name (length m.constants))
  method_taken op want m ahead final = results_keep m.free want _ ∙ args_written.taken (before_given m) (given_ahead m ahead) (given_final op want m final) ∙ ap (taken_behind_values values) (given_taken op want m ahead final)

  -- in the forms of fewest levels
  method_low : f.short ≡ true → formed_expression (method_call line on name args on_line) ≡ true → (op : Op) (want : Want) (m : Maker) → IsAhead g active before (mentions_in on ++ mentions_given args) m → Final (length m.labels) (of_method op want m) z →
      HasRoom f listed z lefts before (length m.constants) (method_call line on name args on_line) (method_value o number values all depth)
  method_low short formed op want m ahead final =
      let n = length m.constants in
      let parts = second_of_both (is_prefix on) _ formed in
      let given = second_of_both (on_its_line args line on_line) _ (second_of_both (is_name_text name) _ (second_of_both (formed_expression on) _ parts)) in
      let w = wording f listed z lefts before n o in
      let low = operand_low on_written short (first_of_both _ _ parts) m (ahead_front (mentions_in on) (mentions_given args) ahead) (behind_operand op want m final) in
      let one = prefix_in (is_bare (place f.of listed f.short) n o) on w low (first_of_both _ _ formed) in
      let other = args_written.low short given shallow (before_given m) (given_ahead m ahead) (given_final op want m final) in
      let same = ap (λ n. (given_wording f listed z lefts mid n values all).levels) (given_taken op want m ahead final) in
      subst (λ (w : Wording). IsInRoom true (method_call line on name args on_line) w) (sym (method_words_are n))
      (inr (record { low = omega (arith, one, other, same); binds = record { prefix = refl; level = refl; unary = refl; several = refl }; bare_there = λ none. refl; unfolded = refl }))

  method_written : Rewritten f g active listed z lefts before behind (method_call line on name args on_line) (method_value o number values all depth)
  method_written = record {
    can =
        both_hold _ _ on_written.can
        (both_hold _ _ (ap is_some name_there) (ap (λ fs. can_write_values (place f.of listed f.short) fs values) on_written.leaves ∙ args_written.can));
    leaves = ap (left_by_values values) on_written.leaves ∙ args_written.leaves;
    makes = args_written.makes ∙ ap (made_behind (mentions_given args)) on_written.makes ∙ sym (made_both (mentions_in on) (mentions_given args) before);
    named = λ n. ap (λ (w : Wording). is_name w.words) (method_words_are n);
    folded = λ n. ap (λ (w : Wording). fold w.words) (method_words_are n);
    several = λ n. ap (λ (w : Wording). is_multiple w.words) (method_words_are n);
    gives = λ is. refl;
    few = λ n.
        let same = ap (λ (w : Wording). w.levels) (method_words_are n) in
        let prefix_few = levels_wrapped (is_prefix (wording f listed z lefts before n o).words) (wording f listed z lefts before n o) in
        let given_few = args_written.few (behind_name n) in
        let no_more = (method_alike (behind_name n)).levels (omega (arith, given_few, within, shallow)) in
        omega (arith, same, prefix_few, on_written.few n, given_few, no_more, within);
    low = λ short formed m ahead as_made.
        made_called (method_call line on name args on_line) m refl (λ r final. method_low short formed Op.Call (Some 1) m ahead (before_base (of_method Op.Call (Some 1)) r m final)) (λ op want final. method_low short formed op want m ahead final) as_made;
    keys = omega arith;
    as_local = λ n r m ahead is. cc;
    to_reg = λ r m ahead final.
        ap (λ (w : Wording). (coded w.words).to_reg r m) (method_words_are (length m.constants))
        ∙ by_base_same (written_method (length m.constants) Op.Call (Some 1)) (of_method Op.Call (Some 1)) r m (method_same Op.Call (Some 1) m ahead (before_base (of_method Op.Call (Some 1)) r m final));
    taken = λ r m ahead final. base_keeps (of_method Op.Call (Some 1)) r m ∙ method_taken Op.Call (Some 1) m ahead (before_base (of_method Op.Call (Some 1)) r m final);
    multi = λ is op want m ahead final. ap (λ (w : Wording). (coded w.words).multi op want m) (method_words_are (length m.constants)) ∙ method_same op want m ahead final;
    multi_taken = λ is op want m ahead final. method_taken op want m ahead final;
  }

-- ---- what a call is made of

module _ {f : Function} {g : Fn} {active : List Active} {listed : List ℕ} {z : Maker} {lefts : ℕ → List (Option Inner)} {before mid behind : ℕ} (made : IsMadeBy f g active listed z) where
  pub call_rewritten : (on : Expression) (args : Arguments) (line on_line deep : ℕ) (o : Value) (values : Values) (all : Bool) (v : Value) → HasCore on → Rewritten f g active listed z lefts before mid on o →
      RewrittenGiven f g active listed z lefts mid behind args deep values all → deep ≤ max (depth_of_expression on) (depth_of_arguments args) → deep ≤ 200 → made_call o values all ≡ Some v → Rewritten f g active listed z lefts before behind (call_expression line on args on_line) v
  call_rewritten on args line on_line deep o values all v has on_written args_written within shallow is =
      let depth = suc (max (depth_of o) (deepest values)) in
      subst (λ v. Rewritten f g active listed z lefts before behind (call_expression line on args on_line) v) (given_is _ (call_value o values all depth) v is)
      (call_written on args o values all line on_line deep depth has on_written args_written within shallow)

  pub method_rewritten : (on : Expression) (args : Arguments) (line on_line deep number : ℕ) (name : Text) (o : Value) (values : Values) (all : Bool) (v : Value) → HasCore on → Rewritten f g active listed z lefts before mid on o →
      RewrittenGiven f g active listed z lefts mid behind args deep values all → deep ≤ max (depth_of_expression on) (depth_of_arguments args) → deep ≤ 200 → HasNumber g (Constant.Text name) number → is_name_text name ≡ true → made_method o number values all ≡ Some v →
      Rewritten f g active listed z lefts before behind (method_call line on name args on_line) v
  method_rewritten on args line on_line deep number name o values all v has on_written args_written within shallow numbered named is =
      let depth = suc (max (depth_of o) (deepest values)) in
      subst (λ v. Rewritten f g active listed z lefts before behind (method_call line on name args on_line) v) (given_is _ (method_value o number values all depth) v is)
      (method_written made on args o values all line on_line deep depth number name has on_written args_written within shallow numbered named)

-- ---- arguments are no deeper than a call needs

pub list_within : (on : Expression) (es : Expressions) → depth_of_expressions es ≤ max (depth_of_expression on) (depth_of_arguments (argument_list es))
list_within on es = omega arith

pub text_within : (on : Expression) (text : Text) → 1 ≤ max (depth_of_expression on) (depth_of_arguments (text_argument text))
text_within on text = omega (arith, some_depth on)

pub table_within : (on : Expression) (of : Fields) → depth_of_fields of ≤ max (depth_of_expression on) (depth_of_arguments (table_argument of))
table_within on of = omega arith
