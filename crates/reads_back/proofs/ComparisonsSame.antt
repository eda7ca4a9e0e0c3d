-- What is written of a comparison makes the same test and takes the same constants, in whichever order its operands are written.
use Rattle.std.proofs.Common.{◌≡◌, ℕ, suc, max, nat_le, ◌<◌, ◌≤◌, ◌⊎◌, inl, inr, Bool, true, false, not, ◌&&◌, List, ◌++◌, length, Option, refl, sym, ap, ◌∙◌, subst, arith}
use Rattle.std.specs.List.{list_any}
use Rattle.std.specs.Prelude.{if◌then◌else◌}
use Rattle.std.proofs.lemmas.Bool.Decides.{nat_tests}
use Rattle.lua_tree.specs.OneLine.{one_line_expression}
use Rattle.lua_tree.specs.Precedence.{is_right_associative, left_binds, level_of_op, right_binds}
use Rattle.lua_tree.specs.Syntax.{Expression, and_expression, binary_expression, or_expression}
use Rattle.lua_tree.specs.WellFormed.{depth_of_expression, formed_expression}
use Rattle.lua_tree.specs.declared.tree.BinaryOp.{BinaryOp}
use Rattle.proto.specs.Constants.{same_constant}
use Rattle.core_expr.specs.Counting.{left_by_operand, taken_behind_operand}
use Rattle.core_expr.specs.Places.{Place, place}
use Rattle.core_expr.specs.Targets.{has_mirror, is_constant_field, is_swapped, mirrored, swapped_fields, word_both, word_comparison}
use Rattle.core_expr.specs.Values.{Inner, OperandValue, Value, constant_operand, local_value, value_operand}
use Rattle.core_expr.specs.Writing.{Wording, is_power, on_left, on_right, word_operand}
use Rattle.recover_expr.specs.Situation.{Function}
use Rattle.recover_expr.specs.Testing.{tested_comparison}
use Rattle.scheme.specs.Expressions.{comparison_word, is_comparison, rk}
use Rattle.scheme.specs.Making.{Got, Maker, free_from, jump_to, put}
use Rattle.scheme.specs.Scheme.{coded}
use Rattle.scheme.specs.declared.making.Active.{Active}
use Rattle.scheme_stands.proofs.Growth.{Final}
use Rattle.scheme_stands.specs.Words.{Fn}
use Rattle.same_flow.specs.Space.{space_of_expression}
use Rattle.reads_back.specs.Cores.{HasCore, IsOperand}
use Rattle.reads_back.proofs.ComparesSame.{IsConstantOperand, Turns, both_counted, compare_is, compared_from, constant_of, final_both, first_turns, fresh_number, in_order, in_order_low, joined_is, known_turns, new_turns, number_bound, turned_first, turned_second}
use Rattle.reads_back.proofs.ComparisonOrder.{HasLocal, IsNextNumber, MayTurn, early_second, has_local, late_first, plain_order, turned_order}
use Rattle.reads_back.proofs.ComparisonsRead.{taken_either}
use Rattle.reads_back.proofs.LocalOperands.{OneConstant, local_and_literal}
use Rattle.reads_back.proofs.LocalTurns.{literal_turns}
use Rattle.reads_back.proofs.InRoom.{IsOperandInRoom}
use Rattle.reads_back.proofs.Mentions.{IsAhead, mentions_in}
use Rattle.reads_back.proofs.OperandsSame.{operand_rewritten}
use Rattle.reads_back.proofs.OperatorsSame.{few_more}
use Rattle.reads_back.proofs.Rewriting.{AreAgain, IsMadeBy, RewrittenOperand, code}
use Rattle.reads_back.proofs.TestedAs.{BothTested, IsField, comparison_of, is_turned, taken_behind_test, word_op}
use Rattle.reads_back.proofs.WrittenSame.{rewritten_all}

-- ---- how it is written

-- a comparison as it is tested: `~=` as `==`
abbrev pub tested_op : BinaryOp → BinaryOp
tested_op BinaryOp.Ne = BinaryOp.Eq
tested_op op = op

-- the operator for operands the other way round
abbrev pub other_op : BinaryOp → BinaryOp
other_op BinaryOp.Lt = BinaryOp.Gt
other_op BinaryOp.Le = BinaryOp.Ge
other_op BinaryOp.Gt = BinaryOp.Lt
other_op BinaryOp.Ge = BinaryOp.Le
other_op op = op

module _ (at : Place) (n : ℕ) (fs : List (Option Inner)) (x y : ℕ) (o1 o2 : OperandValue) where
  abbrev written_of : BinaryOp → Bool → Wording
  written_of op swapped =
      let c = comparison_of op x y o1 o2 in
      if swapped then word_both at n fs (mirrored c.op) c.right c.left else word_both at n fs c.op c.left c.right

  -- in its order
  ordered_word : (op : BinaryOp) → is_comparison op ≡ true → is_swapped (length at.entries) n (comparison_of op x y o1 o2) ≡ is_turned op → word_comparison at n fs (comparison_of op x y o1 o2) ≡ word_both at n fs (tested_op op) o1 o2
  ordered_word BinaryOp.Eq is swapped = ap (written_of BinaryOp.Eq) swapped
  ordered_word BinaryOp.Ne is swapped = ap (written_of BinaryOp.Ne) swapped
  ordered_word BinaryOp.Lt is swapped = ap (written_of BinaryOp.Lt) swapped
  ordered_word BinaryOp.Le is swapped = ap (written_of BinaryOp.Le) swapped
  ordered_word BinaryOp.Gt is swapped = ap (written_of BinaryOp.Gt) swapped
  ordered_word BinaryOp.Ge is swapped = ap (written_of BinaryOp.Ge) swapped
  ordered_word op is swapped = cc

  -- the other way round
  turned_word : (op : BinaryOp) → has_mirror (word_op op) ≡ true → is_swapped (length at.entries) n (comparison_of op x y o1 o2) ≡ not (is_turned op) → word_comparison at n fs (comparison_of op x y o1 o2) ≡ word_both at n fs (other_op op) o2 o1
  turned_word BinaryOp.Lt is swapped = ap (written_of BinaryOp.Lt) swapped
  turned_word BinaryOp.Le is swapped = ap (written_of BinaryOp.Le) swapped
  turned_word BinaryOp.Gt is swapped = ap (written_of BinaryOp.Gt) swapped
  turned_word BinaryOp.Ge is swapped = ap (written_of BinaryOp.Ge) swapped
  turned_word op is swapped = cc

-- it makes the same word
other_word : (op : BinaryOp) (truth : Bool) (x y : ℕ) → has_mirror (word_op op) ≡ true → comparison_word (other_op op) truth y x ≡ comparison_word (tested_op op) truth x y
other_word BinaryOp.Lt truth x y is = refl
other_word BinaryOp.Le truth x y is = refl
other_word BinaryOp.Gt truth x y is = refl
other_word BinaryOp.Ge truth x y is = refl
other_word op truth x y is = cc

other_compares : (op : BinaryOp) → has_mirror (word_op op) ≡ true → is_comparison (other_op op) ≡ true
other_compares BinaryOp.Lt is = refl
other_compares BinaryOp.Le is = refl
other_compares BinaryOp.Gt is = refl
other_compares BinaryOp.Ge is = refl
other_compares op is = cc

tested_compares : (op : BinaryOp) → is_comparison op ≡ true → is_comparison (tested_op op) ≡ true
tested_compares BinaryOp.Ne is = refl
tested_compares op is = is

-- ---- values stand without parentheses on both sides

binds_more : (op : BinaryOp) → is_comparison op ≡ false → nat_le 4 (level_of_op op) ≡ true
binds_more BinaryOp.Concat is = refl
binds_more BinaryOp.Add is = refl
binds_more BinaryOp.Sub is = refl
binds_more BinaryOp.Mul is = refl
binds_more BinaryOp.Div is = refl
binds_more BinaryOp.Rem is = refl
binds_more BinaryOp.Pow is = refl
binds_more op is = cc

bare_left : (e : Expression) → HasCore e → left_binds 3 false e ≡ true
bare_left (binary_expression line op l r) has = let more = binds_more op has.0 in let less : nat_le 3 (level_of_op op) ≡ true = grind (arith, nat_tests, more) in less
bare_left (and_expression line l r) has = absurd has
bare_left (or_expression line l r) has = absurd has
bare_left e has = refl

bare_right : (e : Expression) → HasCore e → right_binds 3 false e ≡ true
bare_right (binary_expression line op l r) has = binds_more op has.0
bare_right (and_expression line l r) has = absurd has
bare_right (or_expression line l r) has = absurd has
bare_right e has = refl

compared_left : (op : BinaryOp) → is_comparison op ≡ true → (e : Expression) → HasCore e → left_binds (level_of_op op) (is_right_associative op) e ≡ true
compared_left BinaryOp.Eq is e has = bare_left e has
compared_left BinaryOp.Ne is e has = bare_left e has
compared_left BinaryOp.Lt is e has = bare_left e has
compared_left BinaryOp.Le is e has = bare_left e has
compared_left BinaryOp.Gt is e has = bare_left e has
compared_left BinaryOp.Ge is e has = bare_left e has
compared_left op is e has = cc

compared_right : (op : BinaryOp) → is_comparison op ≡ true → (e : Expression) → HasCore e → right_binds (level_of_op op) (is_power op) e ≡ true
compared_right BinaryOp.Eq is e has = bare_right e has
compared_right BinaryOp.Ne is e has = bare_right e has
compared_right BinaryOp.Lt is e has = bare_right e has
compared_right BinaryOp.Le is e has = bare_right e has
compared_right BinaryOp.Gt is e has = bare_right e has
compared_right BinaryOp.Ge is e has = bare_right e has
compared_right op is e has = cc

-- which of both it is
pub data Order (count n : ℕ) (op : BinaryOp) (x y : ℕ) (o1 o2 : OperandValue) : Type 0 where
  ordered : is_swapped count n (comparison_of op x y o1 o2) ≡ is_turned op → Order count n op x y o1 o2
  turned : has_mirror (word_op op) ≡ true → is_swapped count n (comparison_of op x y o1 o2) ≡ not (is_turned op) → MayTurn count n x y o1 o2 → Order count n op x y o1 o2

module _ {g : Fn} {active : List Active} {l r : Expression} {before behind : ℕ} (both : BothTested g active l r before behind) (n : ℕ) (few : length active ≤ 250) (next : IsNextNumber n both.first) where
  plain_by : (op : BinaryOp) → is_turned op ≡ false → has_mirror (word_op op) ≡ true → comparison_of op both.x both.y both.first both.second ≡ record { op = word_op op; b = both.x; c = both.y; left = both.first; right = both.second } → Order (length active) n op both.x both.y both.first both.second
  plain_by op plain mirror same = by (plain_order (length active) n both.x both.y both.free1 both.free2 few both.first both.second both.at_first both.at_second next)
    where
      swapped : is_swapped (length active) n (comparison_of op both.x both.y both.first both.second) ≡ swapped_fields (length active) n both.x both.y both.first both.second (is_constant_field both.x) (is_constant_field both.y)
      swapped = ap (is_swapped (length active) n) same ∙ ap (λ mirror. mirror && swapped_fields (length active) n both.x both.y both.first both.second (is_constant_field both.x) (is_constant_field both.y)) mirror

      by : (swapped_fields (length active) n both.x both.y both.first both.second (is_constant_field both.x) (is_constant_field both.y) ≡ false)
          ⊎ ((swapped_fields (length active) n both.x both.y both.first both.second (is_constant_field both.x) (is_constant_field both.y) ≡ true) × MayTurn (length active) n both.x both.y both.first both.second) →
          Order (length active) n op both.x both.y both.first both.second
      by (inl is) = ordered (swapped ∙ is ∙ sym plain)
      by (inr (is, may)) = turned mirror (swapped ∙ is ∙ sym (ap not plain)) may

  turned_by : (op : BinaryOp) → is_turned op ≡ true → has_mirror (word_op op) ≡ true → comparison_of op both.x both.y both.first both.second ≡ record { op = word_op op; b = both.y; c = both.x; left = both.second; right = both.first } → Order (length active) n op both.x both.y both.first both.second
  turned_by op is_turn mirror same = by (turned_order (length active) n both.x both.y both.free1 both.free2 few both.first both.second both.at_first both.at_second next)
    where
      swapped : is_swapped (length active) n (comparison_of op both.x both.y both.first both.second) ≡ swapped_fields (length active) n both.y both.x both.second both.first (is_constant_field both.y) (is_constant_field both.x)
      swapped = ap (is_swapped (length active) n) same ∙ ap (λ mirror. mirror && swapped_fields (length active) n both.y both.x both.second both.first (is_constant_field both.y) (is_constant_field both.x)) mirror

      by : (swapped_fields (length active) n both.y both.x both.second both.first (is_constant_field both.y) (is_constant_field both.x) ≡ true)
          ⊎ ((swapped_fields (length active) n both.y both.x both.second both.first (is_constant_field both.y) (is_constant_field both.x) ≡ false) × MayTurn (length active) n both.x both.y both.first both.second) →
          Order (length active) n op both.x both.y both.first both.second
      by (inl is) = ordered (swapped ∙ is ∙ sym is_turn)
      by (inr (is, may)) = turned mirror (swapped ∙ is ∙ sym (ap not is_turn)) may

  pub order_of : (op : BinaryOp) → is_comparison op ≡ true → Order (length active) n op both.x both.y both.first both.second
  order_of BinaryOp.Eq is = ordered refl
  order_of BinaryOp.Ne is = ordered refl
  order_of BinaryOp.Lt is = plain_by BinaryOp.Lt refl refl refl
  order_of BinaryOp.Le is = plain_by BinaryOp.Le refl refl refl
  order_of BinaryOp.Gt is = turned_by BinaryOp.Gt refl refl refl
  order_of BinaryOp.Ge is = turned_by BinaryOp.Ge refl refl refl
  order_of op is = cc

-- ---- what is made of it

-- Where its operands are written the other way round, names keep their order: both are in registers only where one of them is a number or a string. The numbers of constants do not matter.
abbrev pub CanTurn : {g : Fn} {active : List Active} {l r : Expression} {before behind : ℕ} → BothTested g active l r before behind → Type 0
CanTurn {g} {active} {l} {r} both = HasLocal (length active) both.x both.y both.first both.second → OneConstant l r

-- so it is with the leaf of a condition
abbrev pub KeepsNames : Fn → List Active → (n before behind : ℕ) → Expression → Type 0
KeepsNames g active n before behind (binary_expression line op l r) = is_comparison op ≡ true → (both : BothTested g active l r before behind) → is_swapped (length active) n (comparison_of op both.x both.y both.first both.second) ≡ not (is_turned op) → CanTurn both
KeepsNames g active n before behind e = Unit {0}

-- a local in a field of a word
field_local : (count free field free1 : ℕ) (o : OperandValue) (v : Value) → o ≡ value_operand v → field < count → count ≤ free → IsField count free field free1 o → v ≡ local_value field
field_local count free field free1 o v is low most in_field = by (subst (IsField count free field free1) is in_field)
  where
    by : IsField count free field free1 (value_operand v) → v ≡ local_value field
    by (inl there) = there.1
    by (inr there) = let same = there.0 in absurd (omega (arith, same, low, most))

-- the register behind it
field_above : (count field free1 : ℕ) (o : OperandValue) → IsField count count field free1 o → count ≤ free1
field_above count field free1 (constant_operand number) at = omega (arith, at.1)
field_above count field free1 (value_operand v) (inl at) = omega (arith, at.2)
field_above count field free1 (value_operand v) (inr at) = omega (arith, at.2)

-- the constants of both operands
counts_of : (op : BinaryOp) (n x y : ℕ) (o1 o2 : OperandValue) → taken_behind_test (tested_comparison (comparison_of op x y o1 o2)) n ≡ taken_behind_operand o2 (taken_behind_operand o1 n)
counts_of BinaryOp.Gt n x y o1 o2 = taken_either o1 o2 n
counts_of BinaryOp.Ge n x y o1 o2 = taken_either o1 o2 n
counts_of op n x y o1 o2 = refl

module _ (lefts : ℕ → List (Option Inner)) {f : Function} {g : Fn} {active : List Active} {listed : List ℕ} {z : Maker} (made : IsMadeBy f g active listed z) (again : AreAgain f g lefts) (sized : length listed ≡ length active) (line : ℕ) (op : BinaryOp) (is : is_comparison op ≡ true) (l r : Expression) (has_l : HasCore l) (has_r : HasCore r)
    (few_l : depth_of_expression l ≤ 200) (few_r : depth_of_expression r ≤ 200) {before behind : ℕ} (both : BothTested g active l r before behind) (truth : Bool) (label : ℕ) (m : Maker) (ahead : IsAhead g active before (mentions_in l ++ mentions_in r) m)
    (final : Final (length m.labels) ((code (binary_expression line (tested_op op) l r)).jump_if truth label m) z) where
  first_rewritten : RewrittenOperand f g active listed z lefts before both.mid l both.first
  first_rewritten = operand_rewritten lefts made l before both.mid both.first has_l both.is_first (λ v core. (rewritten_all lefts made again l has_l few_l).value before both.mid v core)

  second_rewritten : RewrittenOperand f g active listed z lefts both.mid behind r both.second
  second_rewritten = operand_rewritten lefts made r both.mid behind both.second has_r both.is_second (λ v core. (rewritten_all lefts made again r has_r few_r).value both.mid behind v core)

  abbrev x_made : Got ℕ
  x_made = rk (code l) m

  abbrev y_made : Got ℕ
  y_made = rk (code r) x_made.after

  source_compares : (code (binary_expression line (tested_op op) l r)).jump_if truth label m ≡ compared_from m.free (tested_op op) truth label x_made y_made
  source_compares = compare_is (tested_op op) (tested_compares op is) (one_line_expression l) (one_line_expression r) truth label m

  final_operands : Final (length m.labels) y_made.after z
  final_operands = final_both m.free label truth (tested_op op) x_made y_made (subst (λ (n : Maker). Final (length m.labels) n z) source_compares final)

  -- the constants that it takes
  pub comparison_taken : length ((code (binary_expression line (tested_op op) l r)).jump_if truth label m).constants ≡ taken_behind_test (tested_comparison (comparison_of op both.x both.y both.first both.second)) (length m.constants)
  comparison_taken =
      ap (λ (n : Maker). length n.constants) source_compares
      ∙ both_counted made l r has_l has_r first_rewritten second_rewritten m ahead final_operands
      ∙ sym (counts_of op (length m.constants) both.x both.y both.first both.second)

  next_number : (o : OperandValue) → both.first ≡ o → IsNextNumber (length m.constants) o
  next_number (constant_operand number) same =
      number_bound made l r has_l has_r first_rewritten second_rewritten m ahead final_operands number same (constant_of g active l before both.mid number (subst (IsOperand g active l before both.mid) same both.is_first))
  next_number (value_operand v) same = tt

  -- they come to the same, unless both are in registers
  turns_by : MayTurn (length active) (length m.constants) both.x both.y both.first both.second →
      Turns made l r has_l has_r first_rewritten second_rewritten m ahead final_operands ⊎ HasLocal (length active) both.x both.y both.first both.second
  turns_by (late_first (number, same, why)) = inl (by (list_any (same_constant one.constant) m.constants) refl why)
    where
      one : IsConstantOperand g l before both.mid number
      one = constant_of g active l before both.mid number (subst (IsOperand g active l before both.mid) same both.is_first)

      by : (among : Bool) → list_any (same_constant one.constant) m.constants ≡ among → (number < length m.constants) ⊎ ((taken_behind_operand both.second (length m.constants) ≡ length m.constants) × (length m.constants ≡ 255 → ⊥)) →
          Turns made l r has_l has_r first_rewritten second_rewritten m ahead final_operands
      by true there why = known_turns made l r has_l has_r first_rewritten second_rewritten m ahead final_operands number same one there
      by false none (inl low) = let next = fresh_number made l r has_l has_r first_rewritten second_rewritten m ahead final_operands number same one none in absurd (omega (arith, low, next))
      by false none (inr (no_more, no_corner)) =
          let next = fresh_number made l r has_l has_r first_rewritten second_rewritten m ahead final_operands number same one none in
          new_turns made l r has_l has_r first_rewritten second_rewritten m ahead final_operands number same one none no_more (λ last. no_corner (sym next ∙ last))
  turns_by (early_second (number, same, next)) =
      inl (first_turns made l r has_l has_r first_rewritten second_rewritten m ahead final_operands number same (constant_of g active r both.mid behind number (subst (IsOperand g active r both.mid behind) same both.is_second)) next)
  turns_by (has_local locals) = inr locals

  turns_named : CanTurn both → MayTurn (length active) (length m.constants) both.x both.y both.first both.second → Turns made l r has_l has_r first_rewritten second_rewritten m ahead final_operands
  turns_named can may = by (turns_by may)
    where
      by : Turns made l r has_l has_r first_rewritten second_rewritten m ahead final_operands ⊎ HasLocal (length active) both.x both.y both.first both.second → Turns made l r has_l has_r first_rewritten second_rewritten m ahead final_operands
      by (inl turns) = turns
      by (inr locals) = literal_turns made l r has_l has_r first_rewritten second_rewritten m ahead final_operands (local_and_literal both locals (can locals))

  -- the same test
  pub comparison_same : (is_swapped (length active) (length m.constants) (comparison_of op both.x both.y both.first both.second) ≡ not (is_turned op) → CanTurn both) →
      (coded (word_comparison (place f.of listed f.short) (length m.constants) (lefts before) (comparison_of op both.x both.y both.first both.second)).words).jump_if truth label m ≡ (code (binary_expression line (tested_op op) l r)).jump_if truth label m
  comparison_same can = by (order_of both n made.all.few (next_number both.first refl) op is)
    where
      n : ℕ
      n = length m.constants

      at : Place
      at = place f.of listed f.short

      by : Order (length active) n op both.x both.y both.first both.second → (coded (word_comparison at n (lefts before) (comparison_of op both.x both.y both.first both.second)).words).jump_if truth label m ≡ (code (binary_expression line (tested_op op) l r)).jump_if truth label m
      by (ordered swapped) =
          let words = in_order made l r has_l has_r first_rewritten second_rewritten m ahead final_operands in
          ap (λ (w : Wording). (coded w.words).jump_if truth label m) (ordered_word at n (lefts before) both.x both.y both.first both.second op is (ap (λ count. is_swapped count n (comparison_of op both.x both.y both.first both.second)) sized ∙ swapped))
          ∙ joined_is (tested_op op) (tested_compares op is) (word_operand at n (lefts before) both.first) (word_operand at (taken_behind_operand both.first n) (left_by_operand both.first (lefts before)) both.second) truth label m x_made y_made words.0 words.1
          ∙ sym source_compares
      by (turned mirror swapped may) =
          let turns = turns_named (can swapped) may in
          ap (λ (w : Wording). (coded w.words).jump_if truth label m) (turned_word at n (lefts before) both.x both.y both.first both.second op mirror (ap (λ count. is_swapped count n (comparison_of op both.x both.y both.first both.second)) sized ∙ swapped))
          ∙ joined_is (other_op op) (other_compares op mirror) (word_operand at n (lefts before) both.second) (word_operand at (taken_behind_operand both.second n) (left_by_operand both.second (lefts before)) both.first) truth label m (record { value = y_made.value; after = turns.between }) (record { value = x_made.value; after = y_made.after }) turns.second_same turns.first_same
          ∙ ap (λ piece. free_from m.free (jump_to 1 label (put 1 piece y_made.after))) (other_word op truth x_made.value y_made.value mirror)
          ∙ sym source_compares

  -- ---- how many levels it needs

  -- both operands, the other way round
  abbrev TurnedLow : Type 0
  TurnedLow =
      IsOperandInRoom r (turned_second made l r has_l has_r first_rewritten second_rewritten m ahead final_operands (length m.constants))
      × IsOperandInRoom l (turned_first made l r has_l has_r first_rewritten second_rewritten m ahead final_operands (length m.constants))

  -- a local is written the same wherever it stands, and takes no constant
  locals_low : f.short ≡ true → formed_expression l ≡ true → formed_expression r ≡ true → HasLocal (length active) both.x both.y both.first both.second → TurnedLow
  locals_low short formed_l formed_r (v, w, is_first, is_second, low) = by low
    where
      n : ℕ
      n = length m.constants

      at : Place
      at = place f.of listed f.short

      low_both : IsOperandInRoom l (word_operand at n (lefts before) both.first) × IsOperandInRoom r (word_operand at (taken_behind_operand both.first n) (left_by_operand both.first (lefts before)) both.second)
      low_both = in_order_low made l r has_l has_r first_rewritten second_rewritten m ahead final_operands short formed_l formed_r

      by : (both.x < length active) ⊎ (both.y < length active) → TurnedLow
      by (inl less) =
          let same : both.first ≡ value_operand (local_value both.x) = is_first ∙ ap value_operand (field_local (length active) (length active) both.x both.free1 both.first v is_first less (omega arith) both.at_first) in (
            subst (λ o. IsOperandInRoom r (word_operand at (taken_behind_operand o n) (left_by_operand o (lefts before)) both.second)) same low_both.1,
            subst (λ o. IsOperandInRoom l (word_operand at (taken_behind_operand both.second n) (left_by_operand both.second (lefts before)) o)) (sym same) (subst (λ o. IsOperandInRoom l (word_operand at n (lefts before) o)) same low_both.0),
          )
      by (inr less) =
          let same : both.second ≡ value_operand (local_value both.y) = is_second ∙ ap value_operand (field_local (length active) both.free1 both.y both.free2 both.second w is_second less (field_above (length active) both.x both.free1 both.first both.at_first) both.at_second) in (
            subst (λ o. IsOperandInRoom r (word_operand at n (lefts before) o)) (sym same) (subst (λ o. IsOperandInRoom r (word_operand at (taken_behind_operand both.first n) (left_by_operand both.first (lefts before)) o)) same low_both.1),
            subst (λ o. IsOperandInRoom l (word_operand at (taken_behind_operand o n) (left_by_operand o (lefts before)) both.first)) (sym same) low_both.0,
          )

  turned_low : f.short ≡ true → formed_expression l ≡ true → formed_expression r ≡ true → MayTurn (length active) (length m.constants) both.x both.y both.first both.second → TurnedLow
  turned_low short formed_l formed_r may = by (turns_by may)
    where
      by : Turns made l r has_l has_r first_rewritten second_rewritten m ahead final_operands ⊎ HasLocal (length active) both.x both.y both.first both.second → TurnedLow
      by (inl turns) = (turns.second_low short formed_r, turns.first_low short formed_l)
      by (inr locals) = locals_low short formed_l formed_r locals

  -- in the forms of fewest levels it needs no more than there is room for
  pub comparison_low : f.short ≡ true → formed_expression l ≡ true → formed_expression r ≡ true →
      (word_comparison (place f.of listed f.short) (length m.constants) (lefts before) (comparison_of op both.x both.y both.first both.second)).levels ≤ suc (max (space_of_expression l) (space_of_expression r))
  comparison_low short formed_l formed_r = by (order_of both n made.all.few (next_number both.first refl) op is)
    where
      n : ℕ
      n = length m.constants

      at : Place
      at = place f.of listed f.short

      by : Order (length active) n op both.x both.y both.first both.second → (word_comparison at n (lefts before) (comparison_of op both.x both.y both.first both.second)).levels ≤ suc (max (space_of_expression l) (space_of_expression r))
      by (ordered swapped) =
          let low = in_order_low made l r has_l has_r first_rewritten second_rewritten m ahead final_operands short formed_l formed_r in
          let w = word_operand at n (lefts before) both.first in
          let u = word_operand at (taken_behind_operand both.first n) (left_by_operand both.first (lefts before)) both.second in
          let one = low.0.left (tested_op op) (compared_left (tested_op op) (tested_compares op is) l has_l) in
          let other = low.1.right (tested_op op) (compared_right (tested_op op) (tested_compares op is) r has_r) in
          let same = ap (λ (w : Wording). w.levels) (ordered_word at n (lefts before) both.x both.y both.first both.second op is (ap (λ count. is_swapped count n (comparison_of op both.x both.y both.first both.second)) sized ∙ swapped)) in
          omega (arith, one, other, same, few_more (max (on_left (tested_op op) w).levels (on_right (tested_op op) u).levels))
      by (turned mirror swapped may) =
          let low = turned_low short formed_l formed_r may in
          let w = word_operand at n (lefts before) both.second in
          let u = word_operand at (taken_behind_operand both.second n) (left_by_operand both.second (lefts before)) both.first in
          let one = low.0.left (other_op op) (compared_left (other_op op) (other_compares op mirror) r has_r) in
          let other = low.1.right (other_op op) (compared_right (other_op op) (other_compares op mirror) l has_l) in
          let same = ap (λ (w : Wording). w.levels) (turned_word at n (lefts before) both.x both.y both.first both.second op mirror (ap (λ count. is_swapped count n (comparison_of op both.x both.y both.first both.second)) sized ∙ swapped)) in
          omega (arith, one, other, same, few_more (max (on_left (other_op op) w).levels (on_right (other_op op) u).levels))
