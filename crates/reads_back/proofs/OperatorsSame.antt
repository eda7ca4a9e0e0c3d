-- What is written of an operator on values has the same code as the operator on the expressions.
use Rattle.std.proofs.Common.{◌≡◌, ℕ, suc, ◌+◌, ◌*◌, ◌≤◌, Bool, true, false, List, ◌++◌, length, max, inr, refl, sym, ap, ◌∙◌, subst, arith, nat_lt}
use Rattle.std.specs.Prelude.{Option, Some, None}
use Rattle.std.proofs.lemmas.Bool.{and_from}
use Rattle.lua_num.specs.declared.arith.ArithOp.{ArithOp}
use Rattle.lua_tree.specs.declared.tree.BinaryOp.{BinaryOp}
use Rattle.lua_tree.specs.declared.tree.UnaryOp.{UnaryOp}
use Rattle.lua_tree.specs.OneLine.{one_line_expression}
use Rattle.lua_tree.specs.Precedence.{is_right_associative, left_binds, level_of_op, right_binds}
use Rattle.lua_tree.specs.Syntax.{Expression, binary_expression, unary_expression}
use Rattle.lua_tree.specs.WellFormed.{depth_of_expression, formed_expression}
use Rattle.opcode.specs.declared.op.Op.{Op}
use Rattle.proto.specs.declared.parts.Constant.{Constant}
use Rattle.core_expr.specs.Counting.{one_more, taken_behind, taken_behind_operand, left_by_operand}
use Rattle.core_expr.specs.Making.{depth_of, depth_of_operand, made_binary, made_unary}
use Rattle.core_expr.specs.Places.{constant_at, place}
use Rattle.core_expr.specs.Values as values
use Rattle.core_expr.specs.Values.{Value, OperandValue, constant_operand, value_operand, Inner}
use Rattle.core_expr.specs.Writing.{Wording, applied, constant_word, truth, can_write_operand, is_bare, is_power, joined, on_left, on_right, unless, word, word_operand}
use Rattle.recover_expr.specs.Situation.{Function}
use Rattle.scheme.specs.Making.{Maker, free_from, freeing, put}
use Rattle.scheme.specs.Expressions.{Coded, arith_op, arithmetic, binary_value, fold, fold_binary, fold_unary, load_or, operand, rk, unary_value, unary_word}
use Rattle.scheme.specs.Scheme.{coded}
use Rattle.scheme.specs.declared.making.Active.{Active}
use Rattle.scheme.specs.declared.making.Piece.{Piece}
use Rattle.scheme_stands.proofs.Growth.{calm, Final, before as before_part, before_free, before_put, later}
use Rattle.scheme_stands.proofs.Parts.{grows, grows_rk}
use Rattle.scheme_stands.specs.Words.{Fn}
use Rattle.same_flow.specs.Space.{space_of_expression}
use Rattle.reads_back.proofs.ConstantsSame.{literal_few}
use Rattle.reads_back.proofs.Deeper.{some_depth}
use Rattle.reads_back.proofs.Mentions.{IsAhead, ahead_behind, ahead_front, mentions_in, made_behind, made_both}
use Rattle.reads_back.proofs.PassedMentions.{PassesMentions, rk_passes}
use Rattle.reads_back.proofs.Tests.{first_of_both, given_is, second_of_both}
use Rattle.reads_back.proofs.WordsSame.{fold_wrapped, levels_wrapped, made_plainly, operand_low, operand_same, operand_taken, operand_wrapped, rk_on_left, rk_on_right, same_fold}
use Rattle.reads_back.proofs.InRoom.{left_in}
use Rattle.reads_back.proofs.Rooms.{unfolded_room}
use Rattle.reads_back.proofs.Rewriting.{HasRoom, Rewritten, RewrittenOperand, code, operand_wording, wording}

-- ---- one level more

pub few_more : (n : ℕ) → one_more n ≤ suc n
few_more n = omega arith

-- ---- an operand needs no more levels than a value: what stands in parentheses as an operand has few of its own

constant_few : (k : Option Constant) → (constant_word k).levels ≤ 3
constant_few None = omega arith
constant_few (Some k) = literal_few k

truth_few : (b : Bool) → (truth b).levels ≤ 3
truth_few true = omega arith
truth_few false = omega arith

wrapped_few : (bare : Bool) (w : Wording) (e : Expression) → w.levels ≤ 3 → (unless bare w).levels ≤ 3 * depth_of_expression e + 202
wrapped_few bare w e few = omega (arith, few, levels_wrapped bare w, some_depth e)

pub constant_operand_few : (f : Function) (listed : List ℕ) (z : Maker) (lefts : ℕ → List (Option Inner)) (before : ℕ) (e : Expression) (k n : ℕ) → (operand_wording f listed z lefts before n (constant_operand k)).levels ≤ 3 * depth_of_expression e + 202
constant_operand_few f listed z lefts before e k n = wrapped_few true (constant_word (constant_at (place f.of listed f.short) k)) e (constant_few (constant_at (place f.of listed f.short) k))

module _ {f : Function} {g : Fn} {active : List Active} {listed : List ℕ} {z : Maker} {lefts : ℕ → List (Option Inner)} {before behind : ℕ} where
  pub value_operand_few : (e : Expression) (v : Value) → Rewritten f g active listed z lefts before behind e v → (n : ℕ) → (operand_wording f listed z lefts before n (value_operand v)).levels ≤ 3 * depth_of_expression e + 202
  value_operand_few e values.nil_value rewritten n = wrapped_few _ (wording f listed z lefts before n values.nil_value) e (omega arith)
  value_operand_few e (values.bool_value b) rewritten n = wrapped_few _ (wording f listed z lefts before n (values.bool_value b)) e (truth_few b)
  value_operand_few e (values.constant_value k) rewritten n = wrapped_few _ (wording f listed z lefts before n (values.constant_value k)) e (constant_few (constant_at (place f.of listed f.short) k))
  value_operand_few e v rewritten n = rewritten.few n

-- ---- arithmetic

arithmetic_same : (op : Op) (l r l' r' : Coded) (to : ℕ) (m : Maker) → rk l m ≡ rk l' m → rk r (rk l' m).after ≡ rk r' (rk l' m).after → arithmetic 1 op l r to m ≡ arithmetic 1 op l' r' to m
arithmetic_same op l r l' r' to m first second =
    ap (λ x. let y = rk r x.after in put 1 (Piece.Abc op to x.value y.value) y.after) first
    ∙ ap (λ y. put 1 (Piece.Abc op to (rk l' m).value y.value) y.after) second

-- an operator that is one word, where it is not folded
arithmetic_to : (word : Op) (op : BinaryOp) (l r : Expression) (to : ℕ) (m : Maker) → binary_value 1 op ≡ arithmetic 1 word → fold (binary_expression 1 op l r) ≡ None →
    (coded (binary_expression 1 op l r)).to_reg to m ≡ freeing (arithmetic 1 word (coded l) (coded r) to) m
arithmetic_to word op l r to m is none =
    ap (λ o. freeing (load_or o 1 (binary_value 1 op (coded l) (coded r)) to) m) none
    ∙ ap (λ value. freeing (value (coded l) (coded r) to) m) is

-- what is written of the second of two operands, behind the first
abbrev second_wording : Function → List ℕ → List (Option Inner) → ℕ → OperandValue → OperandValue → Wording
second_wording f listed left n x y = word_operand (place f.of listed f.short) (taken_behind_operand x n) (left_by_operand x left) y

second_is : (f : Function) (listed : List ℕ) (z : Maker) (lefts : ℕ → List (Option Inner)) (before mid : ℕ) (n m : ℕ) (x y : OperandValue) → left_by_operand x (lefts before) ≡ lefts mid → taken_behind_operand x n ≡ m →
    second_wording f listed (lefts before) n x y ≡ operand_wording f listed z lefts mid m y
second_is f listed z lefts before mid n m x y leaves taken =
    ap (λ fs. word_operand (place f.of listed f.short) (taken_behind_operand x n) fs y) leaves
    ∙ ap (λ n. word_operand (place f.of listed f.short) n (lefts mid) y) taken

module _ {f : Function} {g : Fn} {active : List Active} {listed : List ℕ} {z : Maker} {lefts : ℕ → List (Option Inner)} {before mid behind : ℕ} {l r : Expression} {x y : OperandValue}
    (first : RewrittenOperand f g active listed z lefts before mid l x) (second : RewrittenOperand f g active listed z lefts mid behind r y) (op : BinaryOp) where
  binary_folded : (n : ℕ) → fold (joined op (operand_wording f listed z lefts before n x) (second_wording f listed (lefts before) n x y)).words ≡ fold_binary (arith_op op) (fold l) (fold r)
  binary_folded n =
      let w = operand_wording f listed z lefts before n x in
      let u = second_wording f listed (lefts before) n x y in
      let n' = taken_behind_operand x n in
      ap (λ a. fold_binary (arith_op op) a (fold (on_right op u).words)) (fold_wrapped (left_binds (level_of_op op) (is_right_associative op) w.words) w ∙ first.folded n)
      ∙ ap (fold_binary (arith_op op) (fold l)) (fold_wrapped (right_binds (level_of_op op) (is_power op) u.words) u ∙ ap (λ w. fold w.words) (second_is f listed z lefts before mid n n' x y first.leaves refl) ∙ second.folded n')

  binary_few : ((n : ℕ) → (operand_wording f listed z lefts before n x).levels ≤ 3 * depth_of_expression l + 202) → ((n : ℕ) → (operand_wording f listed z lefts mid n y).levels ≤ 3 * depth_of_expression r + 202) → (n : ℕ) →
      (joined op (operand_wording f listed z lefts before n x) (second_wording f listed (lefts before) n x y)).levels ≤ 3 * (1 + max (depth_of_expression l) (depth_of_expression r)) + 202
  binary_few few_first few_second n =
      let w = operand_wording f listed z lefts before n x in
      let u = second_wording f listed (lefts before) n x y in
      let n' = taken_behind_operand x n in
      let same : u.levels ≡ (operand_wording f listed z lefts mid n' y).levels = ap (λ w. w.levels) (second_is f listed z lefts before mid n n' x y first.leaves refl) in
      let one = levels_wrapped (left_binds (level_of_op op) (is_right_associative op) w.words) w in
      let other = levels_wrapped (right_binds (level_of_op op) (is_power op) u.words) u in
      let all = few_more (max (on_left op w).levels (on_right op u).levels) in
      omega (arith, few_first n, few_second n', same, one, other, all)

  module _ (kept : PassesMentions (mentions_in l) (code l)) (word : Op) (is_word : binary_value 1 op ≡ arithmetic 1 word) (none : fold_binary (arith_op op) (fold l) (fold r) ≡ None) where
    code_to : (line to : ℕ) (m : Maker) → (code (binary_expression line op l r)).to_reg to m ≡ freeing (arithmetic 1 word (code l) (code r) to) m
    code_to line to m = arithmetic_to word op (one_line_expression l) (one_line_expression r) to m is_word (same_fold (binary_expression line op l r) ∙ none)

    both_of : (line to : ℕ) (m : Maker) → Final (length m.labels) ((code (binary_expression line op l r)).to_reg to m) z → Final (length m.labels) (rk (code r) (rk (code l) m).after).after z
    both_of line to m final =
        let y = rk (code r) (rk (code l) m).after in
        before_put 1 (Piece.Abc word to (rk (code l) m).value y.value) y.after (before_free m.free (arithmetic 1 word (code l) (code r) to m) (subst (λ n. Final (length m.labels) n z) (code_to line to m) final))

    front_of : (line to : ℕ) (m : Maker) → Final (length m.labels) ((code (binary_expression line op l r)).to_reg to m) z → Final (length m.labels) (rk (code l) m).after z
    front_of line to m final = before_part (grows_rk {v = calm} (code r) (grows calm (one_line_expression r)) (rk (code l) m).after) (both_of line to m final)

    behind_of : (line to : ℕ) (m : Maker) → Final (length m.labels) ((code (binary_expression line op l r)).to_reg to m) z → Final (length (rk (code l) m).after.labels) (rk (code r) (rk (code l) m).after).after z
    behind_of line to m final = let grown = grows_rk {v = calm} (code l) (grows calm (one_line_expression l)) m in later grown.more (both_of line to m final)

    behind_ahead : (m : Maker) → IsAhead g active before (mentions_in l ++ mentions_in r) m → IsAhead g active mid (mentions_in r) (rk (code l) m).after
    behind_ahead m ahead = ahead_behind (mentions_in l) (mentions_in r) first.makes (rk_passes (mentions_in l) (code l) kept m) ahead

    binary_to : (line to : ℕ) (m : Maker) → IsAhead g active before (mentions_in l ++ mentions_in r) m → Final (length m.labels) ((code (binary_expression line op l r)).to_reg to m) z →
        (coded (joined op (operand_wording f listed z lefts before (length m.constants) x) (second_wording f listed (lefts before) (length m.constants) x y)).words).to_reg to m ≡ (code (binary_expression line op l r)).to_reg to m
    binary_to line to m ahead final =
        let n = length m.constants in
        let w = operand_wording f listed z lefts before n x in
        let u = second_wording f listed (lefts before) n x y in
        let m1 = (rk (code l) m).after in
        let ahead_first = ahead_front (mentions_in l) (mentions_in r) ahead in
        let front = front_of line to m final in
        let one = rk_on_left op w m ∙ first.as_rk m ahead_first front in
        let other =
        rk_on_right op u m1
        ∙ ap (λ w. rk (coded w.words) m1) (second_is f listed z lefts before mid n (length m1.constants) x y first.leaves (sym (first.taken m ahead_first front)))
        ∙ second.as_rk m1 (behind_ahead m ahead) (behind_of line to m final) in
        arithmetic_to word op (on_left op w).words (on_right op u).words to m is_word (binary_folded n ∙ none)
        ∙ ap (free_from m.free) (arithmetic_same word (coded (on_left op w).words) (coded (on_right op u).words) (code l) (code r) to m one other)
        ∙ sym (code_to line to m)

    binary_taken : (line to : ℕ) (m : Maker) → IsAhead g active before (mentions_in l ++ mentions_in r) m → Final (length m.labels) ((code (binary_expression line op l r)).to_reg to m) z →
        length ((code (binary_expression line op l r)).to_reg to m).constants ≡ taken_behind_operand y (taken_behind_operand x (length m.constants))
    binary_taken line to m ahead final =
        ap (λ n. length n.constants) (code_to line to m)
        ∙ second.taken (rk (code l) m).after (behind_ahead m ahead) (behind_of line to m final)
        ∙ ap (taken_behind_operand y) (first.taken m (ahead_front (mentions_in l) (mentions_in r) ahead) (front_of line to m final))

    -- in the forms of fewest levels
    binary_low : (line depth : ℕ) → is_power op ≡ is_right_associative op → f.short ≡ true → formed_expression (binary_expression line op l r) ≡ true → (to : ℕ) (m : Maker) → IsAhead g active before (mentions_in l ++ mentions_in r) m →
        Final (length m.labels) ((code (binary_expression line op l r)).to_reg to m) z → HasRoom f listed z lefts before (length m.constants) (binary_expression line op l r) (values.binary_value op x y depth)
    binary_low line depth power short formed to m ahead final =
        let n = length m.constants in
        let w = operand_wording f listed z lefts before n x in
        let u = second_wording f listed (lefts before) n x y in
        let m1 = (rk (code l) m).after in
        let ahead_first = ahead_front (mentions_in l) (mentions_in r) ahead in
        let front = front_of line to m final in
        let binds = second_of_both (left_binds (level_of_op op) (is_right_associative op) l) _ formed in
        let parts = second_of_both (right_binds (level_of_op op) (is_right_associative op) r) _ binds in
        let one = (first.low short (first_of_both _ _ parts) m ahead_first front).left op (first_of_both _ _ formed) in
        let same = second_is f listed z lefts before mid n (length m1.constants) x y first.leaves (sym (first.taken m ahead_first front)) in
        let other = (second.low short (second_of_both (formed_expression l) _ parts) m1 (behind_ahead m ahead) (behind_of line to m final)).right op (ap (λ power. right_binds (level_of_op op) power r) power ∙ first_of_both _ _ binds) in
        let other_same = ap (λ (w : Wording). (on_right op w).levels) same in
        let all = few_more (max (on_left op w).levels (on_right op u).levels) in
        let room = unfolded_room (binary_expression line op l r) (1 + max (space_of_expression l) (space_of_expression r)) none in
        inr (record {
          low = omega (arith, one, other, other_same, all, room);
          binds = record { prefix = refl; level = refl; unary = refl; several = refl };
          bare_there = λ literal. refl;
          unfolded = none;
        })

    binary_rewritten : (line depth : ℕ) → is_power op ≡ is_right_associative op → ((n : ℕ) → (operand_wording f listed z lefts before n x).levels ≤ 3 * depth_of_expression l + 202) → ((n : ℕ) → (operand_wording f listed z lefts mid n y).levels ≤ 3 * depth_of_expression r + 202) →
        Rewritten f g active listed z lefts before behind (binary_expression line op l r) (values.binary_value op x y depth)
    binary_rewritten line depth power few_first few_second = record {
      can = and_from _ _ first.can (ap (λ fs. can_write_operand (place f.of listed f.short) fs y) first.leaves ∙ second.can);
      leaves = ap (left_by_operand y) first.leaves ∙ second.leaves;
      makes = second.makes ∙ ap (made_behind (mentions_in r)) first.makes ∙ sym (made_both (mentions_in l) (mentions_in r) before);
      named = λ n. refl;
      folded = λ n. binary_folded n;
      several = λ n. refl;
      gives = λ is. cc;
      few = binary_few few_first few_second;
      low = λ short formed m ahead is. made_plainly (binary_expression line op l r) m refl refl (λ to final. binary_low line depth power short formed to m ahead final) is;
      keys = omega arith;
      as_local = λ n r m ahead is. cc;
      to_reg = binary_to line;
      taken = binary_taken line;
      multi = λ is. cc;
      multi_taken = λ is. cc;
    }

module _ {f : Function} {g : Fn} {active : List Active} {listed : List ℕ} {z : Maker} {lefts : ℕ → List (Option Inner)} {before mid behind : ℕ} where
  -- operators of arithmetic that are not folded; an operand needs no more levels than a value, since what stands in parentheses as an operand has few of its own
  pub arithmetic_rewritten : (line : ℕ) (op : BinaryOp) (kind : ArithOp) (l r : Expression) (x y : OperandValue) (v : Value) → arith_op op ≡ Some kind → fold (binary_expression line op l r) ≡ None → PassesMentions (mentions_in l) (code l) →
      RewrittenOperand f g active listed z lefts before mid l x → RewrittenOperand f g active listed z lefts mid behind r y →
      ((n : ℕ) → (operand_wording f listed z lefts before n x).levels ≤ 3 * depth_of_expression l + 202) → ((n : ℕ) → (operand_wording f listed z lefts mid n y).levels ≤ 3 * depth_of_expression r + 202) →
      made_binary op x y ≡ Some v → Rewritten f g active listed z lefts before behind (binary_expression line op l r) v
  arithmetic_rewritten line op kind l r x y v is none kept first second few_first few_second made =
      subst (Rewritten f g active listed z lefts before behind (binary_expression line op l r)) (given_is (nat_lt (max (depth_of_operand x) (depth_of_operand y)) 400) _ v made) (by_op op is none (suc (max (depth_of_operand x) (depth_of_operand y))))
    where
      by_op : (op : BinaryOp) → arith_op op ≡ Some kind → fold (binary_expression line op l r) ≡ None → (depth : ℕ) → Rewritten f g active listed z lefts before behind (binary_expression line op l r) (values.binary_value op x y depth)
      by_op BinaryOp.Add is none depth = binary_rewritten first second BinaryOp.Add kept Op.Add refl none line depth refl few_first few_second
      by_op BinaryOp.Sub is none depth = binary_rewritten first second BinaryOp.Sub kept Op.Sub refl none line depth refl few_first few_second
      by_op BinaryOp.Mul is none depth = binary_rewritten first second BinaryOp.Mul kept Op.Mul refl none line depth refl few_first few_second
      by_op BinaryOp.Div is none depth = binary_rewritten first second BinaryOp.Div kept Op.Div refl none line depth refl few_first few_second
      by_op BinaryOp.Rem is none depth = binary_rewritten first second BinaryOp.Rem kept Op.Mod refl none line depth refl few_first few_second
      by_op BinaryOp.Pow is none depth = binary_rewritten first second BinaryOp.Pow kept Op.Pow refl none line depth refl few_first few_second
      by_op op is none depth = cc

-- ---- unary operators

unary_to : (op : UnaryOp) (e : Expression) (to : ℕ) (m : Maker) → fold (unary_expression 1 op e) ≡ None → (coded (unary_expression 1 op e)).to_reg to m ≡ freeing (unary_value 1 op (coded e) to) m
unary_to op e to m none = ap (λ o. freeing (load_or o 1 (unary_value 1 op (coded e)) to) m) none

module _ {f : Function} {g : Fn} {active : List Active} {listed : List ℕ} {z : Maker} {lefts : ℕ → List (Option Inner)} {before behind : ℕ} {e : Expression} {of : Value} (inside : Rewritten f g active listed z lefts before behind e of) (op : UnaryOp) where
  unary_folded : (n : ℕ) → fold (applied op (wording f listed z lefts before n of)).words ≡ fold_unary op (fold e)
  unary_folded n = let w = wording f listed z lefts before n of in ap (fold_unary op) (fold_wrapped (left_binds 7 false w.words) w ∙ inside.folded n)

  unary_few : (n : ℕ) → (applied op (wording f listed z lefts before n of)).levels ≤ 3 * (1 + depth_of_expression e) + 202
  unary_few n =
      let w = wording f listed z lefts before n of in
      let one = levels_wrapped (left_binds 7 false w.words) w in
      let all = few_more (unless (left_binds 7 false w.words) w).levels in
      omega (arith, inside.few n, one, all)

  module _ (none : fold_unary op (fold e) ≡ None) (line to : ℕ) (m : Maker) (ahead : IsAhead g active before (mentions_in e) m) (final : Final (length m.labels) ((code (unary_expression line op e)).to_reg to m) z) where
    unary_code : (code (unary_expression line op e)).to_reg to m ≡ freeing (unary_value 1 op (code e) to) m
    unary_code = unary_to op (one_line_expression e) to m (same_fold (unary_expression line op e) ∙ none)

    operand_final : Final (length m.labels) (operand (code e) m).after z
    operand_final =
        let x = operand (code e) m in
        before_put 1 (Piece.Abc (unary_word op) to x.value 0) x.after (before_free m.free (unary_value 1 op (code e) to m) (subst (λ n. Final (length m.labels) n z) unary_code final))

    unary_same : (coded (applied op (wording f listed z lefts before (length m.constants) of)).words).to_reg to m ≡ (code (unary_expression line op e)).to_reg to m
    unary_same =
        let w = wording f listed z lefts before (length m.constants) of in
        let u = unless (left_binds 7 false w.words) w in
        unary_to op u.words to m (unary_folded (length m.constants) ∙ none)
        ∙ ap (λ x. free_from m.free (put 1 (Piece.Abc (unary_word op) to x.value 0) x.after)) (operand_wrapped (left_binds 7 false w.words) w m ∙ operand_same inside m ahead operand_final)
        ∙ sym unary_code

    unary_taken : length ((code (unary_expression line op e)).to_reg to m).constants ≡ taken_behind of (length m.constants)
    unary_taken = ap (λ n. length n.constants) unary_code ∙ operand_taken inside m ahead operand_final

    unary_low : (depth : ℕ) → f.short ≡ true → formed_expression (unary_expression line op e) ≡ true → HasRoom f listed z lefts before (length m.constants) (unary_expression line op e) (values.unary_value op of depth)
    unary_low depth short formed =
        let n = length m.constants in
        let w = wording f listed z lefts before n of in
        let one = left_in (is_bare (place f.of listed f.short) n of) e w 7 false (operand_low inside short (second_of_both (left_binds 7 false e) _ formed) m ahead operand_final) (first_of_both _ _ formed) in
        let all = few_more (unless (left_binds 7 false w.words) w).levels in
        let room = unfolded_room (unary_expression line op e) (1 + space_of_expression e) none in
        inr (record {
          low = omega (arith, one, all, room);
          binds = record { prefix = refl; level = refl; unary = refl; several = refl };
          bare_there = λ literal. refl;
          unfolded = none;
        })

module _ {f : Function} {g : Fn} {active : List Active} {listed : List ℕ} {z : Maker} {lefts : ℕ → List (Option Inner)} {before behind : ℕ} where
  -- unary operators that are not folded
  pub unary_rewritten : (line : ℕ) (op : UnaryOp) (e : Expression) (of v : Value) → fold (unary_expression line op e) ≡ None → Rewritten f g active listed z lefts before behind e of →
      made_unary op of ≡ Some v → Rewritten f g active listed z lefts before behind (unary_expression line op e) v
  unary_rewritten line op e of v none inside made = subst (Rewritten f g active listed z lefts before behind (unary_expression line op e)) (given_is (nat_lt (depth_of of) 400) _ v made) (record {
    can = inside.can;
    leaves = inside.leaves;
    makes = inside.makes;
    named = λ n. refl;
    folded = unary_folded inside op;
    several = λ n. refl;
    gives = λ is. cc;
    few = unary_few inside op;
    low = λ short formed m ahead is. made_plainly (unary_expression line op e) m refl refl (λ to final. unary_low inside op none line to m ahead final (suc (depth_of of)) short formed) is;
    keys = omega arith;
    as_local = λ n r m ahead is. cc;
    to_reg = unary_same inside op none line;
    taken = unary_taken inside op none line;
    multi = λ is. cc;
    multi_taken = λ is. cc;
  })
