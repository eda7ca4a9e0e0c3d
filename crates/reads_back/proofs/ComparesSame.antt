-- What is written of a comparison in the order of its operands makes the same words; so it does with its operands the other way round, where the first one is a constant that is taken already, or the second one is the constant that is taken next, whatever the first one takes, or the first one is a constant and the second one takes none.
use Rattle.std.proofs.Common.{◌≡◌, ℕ, zero, suc, ◌+◌, ◌<◌, ◌≤◌, inl, inr, max, Bool, true, false, cond, List, [], ◌∷◌, ◌++◌, length, Option, Some, None, refl, sym, ap, ap₂, ◌∙◌, subst, arith, true≢false}
use Rattle.std.proofs.lemmas.Option.{same_Some, slice_get_within}
use Rattle.std.specs.List.{list_any}
use Rattle.std.specs.Prelude.{◌||◌, ℤ, not, slice_get}
use Rattle.lua_tree.specs.OneLine.{one_line_expression}
use Rattle.lua_tree.specs.Syntax.{Expression, binary_expression, nil_literal}
use Rattle.lua_tree.specs.WellFormed.{formed_expression}
use Rattle.lua_tree.specs.declared.tree.BinaryOp.{BinaryOp}
use Rattle.proto.proofs.ConstantPool.{same_constant-Decides}
use Rattle.proto.specs.Constants.{constant_number, same_constant, with_constant as pool_with}
use Rattle.proto.specs.declared.parts.Constant.{Constant}
use Rattle.core_expr.specs.Counting.{left_by_operand, taken_behind_operand}
use Rattle.core_expr.specs.Places.{place}
use Rattle.core_expr.specs.Values.{Inner, OperandValue, constant_operand}
use Rattle.core_expr.specs.Writing.{Wording, constant_word, joined, literal as literal_word, on_left, on_right, word_operand}
use Rattle.recover_expr.specs.Situation.{Function}
use Rattle.scheme.specs.Expressions.{binary_value, compare, comparison_word, fold, is_comparison, is_small, literal, load_or, number_or, plain_literal, rk, single, small_constant}
use Rattle.scheme.specs.Making.{Got, Maker, free_from, freeing, jump_to, put}
use Rattle.scheme.specs.Scheme.{coded}
use Rattle.scheme.specs.declared.making.Active.{Active}
use Rattle.scheme_stands.proofs.Growth.{Final, Kept, before as before_part, before_free, before_put, calm, later, length_end, on_constant, start}
use Rattle.scheme_stands.proofs.Parts.{grows, grows_rk}
use Rattle.scheme_stands.specs.Words.{Fn}
use Rattle.reads_back.specs.Cores.{HasCore, HasNumber, IsCore, IsOperand, IsOperandBy}
use Rattle.reads_back.proofs.ConstantsSame.{constant_word_is, number_is, number_stands, number_within, small_there}
use Rattle.reads_back.proofs.Framed.{GotOutcome, IsNext, another_first, both_took, got_outcome, not_taken, number_ends, other_value, plus, same_value, taken_behind_none, taken_there, untouched}
use Rattle.reads_back.proofs.FramedParts.{framed, rk_framed}
use Rattle.reads_back.proofs.InRoom.{IsOperandInRoom}
use Rattle.reads_back.proofs.Mentions.{IsAhead, ahead_behind, ahead_front, mentions_in}
use Rattle.reads_back.proofs.PassedMentions.{mentions_passed, rk_passes}
use Rattle.reads_back.proofs.Rewriting.{IsMadeBy, RewrittenOperand, code, operand_wording}
use Rattle.reads_back.proofs.Taking.{operand_taken_later}
use Rattle.reads_back.proofs.WordsSame.{rk_on_left, rk_on_right, rk_small, same_literal}

-- ---- a comparison from its operands

abbrev pub compared_from : (free : ℕ) → BinaryOp → (truth : Bool) → (label : ℕ) → (x y : Got ℕ) → Maker
compared_from free op truth label x y = free_from free (jump_to 1 label (put 1 (comparison_word op truth x.value y.value) y.after))

pub compare_is : (op : BinaryOp) → is_comparison op ≡ true → (left right : Expression) (truth : Bool) (label : ℕ) (m : Maker) →
    (coded (binary_expression 1 op left right)).jump_if truth label m ≡ compared_from m.free op truth label (rk (coded left) m) (rk (coded right) (rk (coded left) m).after)
compare_is op is left right truth label m =
    let e = binary_expression 1 op left right in
    let value = single 1 e (load_or (fold e) 1 (binary_value 1 op (coded left) (coded right))) in
    ap (λ compares. cond compares (λ truth label. freeing (compare 1 op (coded left) (coded right) truth label)) value.jump_if truth label m) is

pub joined_is : (op : BinaryOp) → is_comparison op ≡ true → (w u : Wording) (truth : Bool) (label : ℕ) (m : Maker) (x y : Got ℕ) → rk (coded w.words) m ≡ x → rk (coded u.words) x.after ≡ y →
    (coded (joined op w u).words).jump_if truth label m ≡ compared_from m.free op truth label x y
joined_is op is w u truth label m x y first second =
    compare_is op is (on_left op w).words (on_right op u).words truth label m
    ∙ ap (λ (x : Got ℕ). compared_from m.free op truth label x (rk (coded (on_right op u).words) x.after)) (rk_on_left op w m ∙ first)
    ∙ ap (λ (y : Got ℕ). compared_from m.free op truth label x y) (rk_on_right op u x.after ∙ second)

pub final_both : {j : ℕ} {z : Maker} (free label : ℕ) (truth : Bool) (op : BinaryOp) (x y : Got ℕ) → Final j (compared_from free op truth label x y) z → Final j y.after z
final_both free label truth op x y final =
    before_put 1 (comparison_word op truth x.value y.value) y.after (before_put 1 _ (put 1 (comparison_word op truth x.value y.value) y.after) (before_free free (jump_to 1 label (put 1 (comparison_word op truth x.value y.value) y.after)) final))

-- ---- constants

-- a constant stands among others at its number
stands_within : (k : Constant) (xs : List Constant) → list_any (same_constant k) xs ≡ true → constant_number k xs < length xs
stands_within k [] is = cc
stands_within k (x ∷ xs) is = by (same_constant k x) is (stands_within k xs)
  where
    by : (same : Bool) → (same || list_any (same_constant k) xs) ≡ true → (list_any (same_constant k) xs ≡ true → constant_number k xs < length xs) → cond (not same) (1 + constant_number k xs) 0 < length (x ∷ xs)
    by true is rest = omega arith
    by false is rest = let within = rest is in omega (arith, within)

any_there : (k : Constant) (xs : List Constant) (i : ℕ) → slice_get xs i ≡ Some k → list_any (same_constant k) xs ≡ true
any_there k [] i there = cc
any_there k (x ∷ xs) zero there = ap (λ same. same || list_any (same_constant k) xs) ((same_constant-Decides k x).1 (sym (same_Some x k there)))
any_there k (x ∷ xs) (suc i) there = ap (λ more. same_constant k x || more) (any_there k xs i there) ∙ or_true (same_constant k x)
  where
    or_true : (b : Bool) → (b || true) ≡ true
    or_true true = refl
    or_true false = refl

any_kept : (k : Constant) (xs ys : List Constant) → Kept xs ys → list_any (same_constant k) xs ≡ true → list_any (same_constant k) ys ≡ true
any_kept k xs ys kept is = any_there k ys (constant_number k xs) (kept (constant_number k xs) k (number_stands k xs (stands_within k xs is)))

-- an operand that is a constant
pub record IsConstantOperand (g : Fn) (e : Expression) (before behind number : ℕ) : Type 0 where
  pub constant : Constant
  pub is : literal e ≡ Some constant
  pub has : HasNumber g constant number
  pub small : number ≤ 255
  pub still : behind ≡ before

pub constant_of : (g : Fn) (active : List Active) (e : Expression) (before behind number : ℕ) → IsOperand g active e before behind (constant_operand number) → IsConstantOperand g e before behind number
constant_of g active e before behind number is = by (literal e) refl is
  where
    by : (k : Option Constant) → literal e ≡ k → IsOperandBy k g (IsCore g active e) before behind (constant_operand number) → IsConstantOperand g e before behind number
    by (Some k) known (inl (still, (other, has, small, same))) =
        let number_is : number ≡ other = cc in
        record { constant = k; is = known; has = subst (HasNumber g k) (sym number_is) has; small = subst (λ number. number ≤ 255) (sym number_is) small; still = still }
    by (Some k) known (inr (large, (v, core, same))) = cc
    by None known (v, core, same) = cc

-- what is written of it is that literal
plain_no_number : (e : Expression) (n : ℤ) → plain_literal e ≡ Some (Constant.Number n) → ⊥
plain_no_number (nil_literal line) n is = cc
plain_no_number e n is = cc

literal_word_plain : (k : Constant) → ((n : ℤ) → k ≡ Constant.Number n → ⊥) → literal (literal_word k).words ≡ Some k
literal_word_plain Constant.Nil plain = refl
literal_word_plain (Constant.Bool true) plain = refl
literal_word_plain (Constant.Bool false) plain = refl
literal_word_plain (Constant.Number n) plain = absurd (plain n refl)
literal_word_plain (Constant.Text text) plain = refl

module _ {f : Function} {g : Fn} {active : List Active} {listed : List ℕ} {z : Maker} (made : IsMadeBy f g active listed z) where
  -- where it is taken already, nothing changes
  number_known : {j : ℕ} (k : Constant) (number : ℕ) (m : Maker) → HasNumber g k number → list_any (same_constant k) m.constants ≡ true → Final j m z → small_constant k m ≡ record { value = number + 256; after = m }
  number_known {j} k number m has there final =
      let same : pool_with k m.constants ≡ m.constants = taken_there k k m.constants there in
      let is = number_is made k number m has (subst (λ (xs : List Constant). Final j (record m { constants = xs }) z) (sym same) final) in
      ap₂ (λ (number : ℕ) (xs : List Constant). record { value = number + 256; after = record m { constants = xs } }) (sym is) same

  -- where it is new, it gets the next number
  number_next : {j : ℕ} (k : Constant) (number : ℕ) (m : Maker) → HasNumber g k number → list_any (same_constant k) m.constants ≡ false → Final j (plus k m) z → (small_constant k m ≡ record { value = number + 256; after = plus k m }) × (number ≡ length m.constants)
  number_next {j} k number m has none final =
      let same : pool_with k m.constants ≡ m.constants ++ k ∷ [] = taken_behind_none k k m.constants none in
      let is = number_is made k number m has (subst (λ (xs : List Constant). Final j (record m { constants = xs }) z) (sym same) final) in
      (ap₂ (λ (number : ℕ) (xs : List Constant). record { value = number + 256; after = record m { constants = xs } }) (sym is) same, is ∙ number_ends k k m.constants none)

module _ {f : Function} {g : Fn} {active : List Active} {listed : List ℕ} {z : Maker} {lefts : ℕ → List (Option Inner)} (made : IsMadeBy f g active listed z) where
  word_literal : {before behind number : ℕ} (e : Expression) → RewrittenOperand f g active listed z lefts before behind e (constant_operand number) → (one : IsConstantOperand g e before behind number) → literal (constant_word (slice_get f.of.constants number)).words ≡ Some one.constant
  word_literal {number = number} e rewritten one = by (fold e) refl
    where
      w : Expression
      w = (constant_word (slice_get f.of.constants number)).words

      by : (folded : Option ℤ) → fold e ≡ folded → literal w ≡ Some one.constant
      by (Some n) known =
          ap (λ folded. number_or folded (plain_literal w)) (rewritten.folded 0 ∙ known) ∙ sym (ap (λ folded. number_or folded (plain_literal e)) known) ∙ one.is
      by None known =
          let plain : plain_literal e ≡ Some one.constant = sym (ap (λ folded. number_or folded (plain_literal e)) known) ∙ one.is in
          ap (λ (w : Wording). literal w.words) (constant_word_is made one.constant number one.has) ∙ literal_word_plain one.constant (λ n is. plain_no_number e n (plain ∙ ap Some is))

  -- ---- two operands

  module _ {before mid behind : ℕ} (l r : Expression) (has_l : HasCore l) (has_r : HasCore r) {o1 o2 : OperandValue} (first : RewrittenOperand f g active listed z lefts before mid l o1) (second : RewrittenOperand f g active listed z lefts mid behind r o2)
      (m : Maker) (ahead : IsAhead g active before (mentions_in l ++ mentions_in r) m) (final : Final (length m.labels) (rk (code r) (rk (code l) m).after).after z) where
    abbrev pub x_got : Got ℕ
    x_got = rk (code l) m

    abbrev pub y_got : Got ℕ
    y_got = rk (code r) x_got.after

    pub front : Final (length m.labels) x_got.after z
    front = before_part (grows_rk {v = calm} (code r) (grows calm (one_line_expression r)) x_got.after) final

    back : Final (length x_got.after.labels) y_got.after z
    back = let grown = grows_rk {v = calm} (code l) (grows calm (one_line_expression l)) m in later grown.more final

    pub ahead_left : IsAhead g active before (mentions_in l) m
    ahead_left = ahead_front (mentions_in l) (mentions_in r) ahead

    pub ahead_right : IsAhead g active mid (mentions_in r) x_got.after
    ahead_right = ahead_behind (mentions_in l) (mentions_in r) first.makes (rk_passes (mentions_in l) (code l) (mentions_passed l has_l) m) ahead

    abbrev word_first : (n : ℕ) → Wording
    word_first n = operand_wording f listed z lefts before n o1

    abbrev word_second : (n : ℕ) → Wording
    word_second n = word_operand (place f.of listed f.short) (taken_behind_operand o1 n) (left_by_operand o1 (lefts before)) o2

    -- a constant that is new has the next number
    pub fresh_number : (number : ℕ) → o1 ≡ constant_operand number → (one : IsConstantOperand g l before mid number) → list_any (same_constant one.constant) m.constants ≡ false → number ≡ length m.constants
    fresh_number number same one none =
        let final_m = before_part (grows_rk {v = calm} (code l) (grows calm (one_line_expression l)) m) front in
        let x_is : x_got ≡ small_constant one.constant m = rk_small (one_line_expression l) one.constant m (same_literal l ∙ one.is) (small_there made one.constant number m one.has one.small final_m) in
        let after = subst (λ (xs : List Constant). Final (length m.labels) (record m { constants = xs }) z) (taken_behind_none one.constant one.constant m.constants none) (subst (λ (x : Got ℕ). Final (length m.labels) x.after z) x_is front) in
        (number_next made one.constant number m one.has none after).1

    -- a constant that the first one is has no number above the count
    pub number_bound : (number : ℕ) → o1 ≡ constant_operand number → IsConstantOperand g l before mid number → number ≤ length m.constants
    number_bound number same one = by (list_any (same_constant one.constant) m.constants) refl
      where
        final_m : Final (length m.labels) m z
        final_m = before_part (grows_rk {v = calm} (code l) (grows calm (one_line_expression l)) m) front

        by : (among : Bool) → list_any (same_constant one.constant) m.constants ≡ among → number ≤ length m.constants
        by true there =
            let value = ap (λ (x : Got ℕ). x.value) (number_known made one.constant number m one.has there final_m) in
            let within = stands_within one.constant m.constants there in
            omega (arith, value, within)
        by false none = let is = fresh_number number same one none in omega (arith, is)

    -- in their order
    pub in_order : (rk (coded (word_first (length m.constants)).words) m ≡ x_got) × (rk (coded (word_second (length m.constants)).words) x_got.after ≡ y_got)
    in_order = (
      first.as_rk m ahead_left front,
      ap (λ fs. rk (coded (word_operand (place f.of listed f.short) (taken_behind_operand o1 (length m.constants)) fs o2).words) x_got.after) first.leaves
          ∙ ap (λ n. rk (coded (word_operand (place f.of listed f.short) n (lefts mid) o2).words) x_got.after) (sym (first.taken m ahead_left front))
          ∙ second.as_rk x_got.after ahead_right back,
    )

    pub both_counted : length y_got.after.constants ≡ taken_behind_operand o2 (taken_behind_operand o1 (length m.constants))
    both_counted = second.taken x_got.after ahead_right back ∙ ap (taken_behind_operand o2) (first.taken m ahead_left front)

    -- the other way round
    abbrev pub turned_second : (n : ℕ) → Wording
    turned_second n = word_operand (place f.of listed f.short) n (lefts before) o2

    abbrev pub turned_first : (n : ℕ) → Wording
    turned_first n = word_operand (place f.of listed f.short) (taken_behind_operand o2 n) (left_by_operand o2 (lefts before)) o1

    -- they come to the same
    pub record Turns : Type 0 where
      pub between : Maker
      pub second_same : rk (coded (turned_second (length m.constants)).words) m ≡ record { value = y_got.value; after = between }
      pub first_same : rk (coded (turned_first (length m.constants)).words) between ≡ record { value = x_got.value; after = y_got.after }
      -- in the forms of fewest levels they need no more than there is room for
      pub second_low : f.short ≡ true → formed_expression r ≡ true → IsOperandInRoom r (turned_second (length m.constants))
      pub first_low : f.short ≡ true → formed_expression l ≡ true → IsOperandInRoom l (turned_first (length m.constants))

    -- so it is in their order
    pub in_order_low : f.short ≡ true → formed_expression l ≡ true → formed_expression r ≡ true → IsOperandInRoom l (word_first (length m.constants)) × IsOperandInRoom r (word_second (length m.constants))
    in_order_low short formed_l formed_r = (
      first.low short formed_l m ahead_left front,
      subst (λ fs. IsOperandInRoom r (word_operand (place f.of listed f.short) (taken_behind_operand o1 (length m.constants)) fs o2)) (sym first.leaves)
          (subst (λ n. IsOperandInRoom r (word_operand (place f.of listed f.short) n (lefts mid) o2)) (first.taken m ahead_left front) (second.low short formed_r x_got.after ahead_right back)),
    )

    -- a constant is written the same wherever it stands
    constant_first_low : (number : ℕ) → o1 ≡ constant_operand number → f.short ≡ true → formed_expression l ≡ true → IsOperandInRoom l (turned_first (length m.constants))
    constant_first_low number same short formed =
        let n = length m.constants in
        let low = subst (λ o. IsOperandInRoom l (operand_wording f listed z lefts before n o)) same (first.low short formed m ahead_left front) in
        subst (λ o. IsOperandInRoom l (word_operand (place f.of listed f.short) (taken_behind_operand o2 n) (left_by_operand o2 (lefts before)) o)) (sym same) low

    constant_second_low : (number : ℕ) → o2 ≡ constant_operand number → f.short ≡ true → formed_expression r ≡ true → IsOperandInRoom r (turned_second (length m.constants))
    constant_second_low number same short formed =
        let low = subst (λ o. IsOperandInRoom r (operand_wording f listed z lefts mid (length x_got.after.constants) o)) same (second.low short formed x_got.after ahead_right back) in
        subst (λ o. IsOperandInRoom r (word_operand (place f.of listed f.short) (length m.constants) (lefts before) o)) (sym same) low

    -- the first one is a constant that is taken already
    pub known_turns : (number : ℕ) (same : o1 ≡ constant_operand number) (one : IsConstantOperand g l before mid number) → list_any (same_constant one.constant) m.constants ≡ true → Turns
    known_turns number same one there =
        let k = one.constant in
        let is : literal (one_line_expression l) ≡ Some k = same_literal l ∙ one.is in
        let first' = subst (RewrittenOperand f g active listed z lefts before mid l) same first in
        let small : is_small k m ≡ true = small_there made k number m one.has one.small (before_part (grows_rk {v = calm} (code l) (grows calm (one_line_expression l)) m) front) in
        let final_m = before_part (grows_rk {v = calm} (code l) (grows calm (one_line_expression l)) m) front in
        let x_is : x_got ≡ record { value = number + 256; after = m } = rk_small (one_line_expression l) k m is small ∙ number_known made k number m one.has there final_m in
        let after_is : x_got.after ≡ m = ap (λ (x : Got ℕ). x.after) x_is in
        let ahead_m : IsAhead g active mid (mentions_in r) m = subst (IsAhead g active mid (mentions_in r)) after_is ahead_right in
        let y_is : rk (code r) m ≡ y_got = ap (rk (code r)) (sym after_is) in
        let final_y : Final (length m.labels) (rk (code r) m).after z = subst (λ (y : Got ℕ). Final (length m.labels) y.after z) (sym y_is) final in
        let grown = grows_rk {v = calm} (code r) (grows calm (one_line_expression r)) x_got.after in
        let there_behind : list_any (same_constant k) y_got.after.constants ≡ true = any_kept k x_got.after.constants y_got.after.constants grown.constants (ap (λ (m : Maker). list_any (same_constant k) m.constants) after_is ∙ there) in
        record {
          between = y_got.after;
          second_same = ap (λ before. rk (coded (word_operand (place f.of listed f.short) (length m.constants) (lefts before) o2).words) m) (sym one.still) ∙ second.as_rk m ahead_m final_y ∙ y_is;
          first_same =
              ap (λ o. rk (coded (word_operand (place f.of listed f.short) (taken_behind_operand o2 (length m.constants)) (left_by_operand o2 (lefts before)) o).words) y_got.after) same
              ∙ rk_small (constant_word (slice_get f.of.constants number)).words k y_got.after (word_literal l first' one) (small_there made k number y_got.after one.has one.small final)
              ∙ number_known made k number y_got.after one.has there_behind final
              ∙ ap (λ (x : Got ℕ). record { value = x.value; after = y_got.after }) (sym x_is);
          second_low = λ short formed. subst (λ before. IsOperandInRoom r (word_operand (place f.of listed f.short) (length m.constants) (lefts before) o2)) one.still (second.low short formed m ahead_m final_y);
          first_low = constant_first_low number same;
        }

    -- it is new, and the second one takes no constants
    pub new_turns : (number : ℕ) (same : o1 ≡ constant_operand number) (one : IsConstantOperand g l before mid number) → list_any (same_constant one.constant) m.constants ≡ false → taken_behind_operand o2 (length m.constants) ≡ length m.constants → (number ≡ 255 → ⊥) → Turns
    new_turns number same one none no_more no_corner = by (got_outcome ((rk_framed (code r) (framed k n r has_r)).gots m (plus k m) (not_taken refl none)))
      where
        k : Constant
        k = one.constant

        n : ℕ
        n = length m.constants

        is : literal (one_line_expression l) ≡ Some k
        is = same_literal l ∙ one.is

        first' : RewrittenOperand f g active listed z lefts before mid l (constant_operand number)
        first' = subst (RewrittenOperand f g active listed z lefts before mid l) same first

        small : is_small k m ≡ true
        small = small_there made k number m one.has one.small (before_part (grows_rk {v = calm} (code l) (grows calm (one_line_expression l)) m) front)

        after_small : x_got ≡ small_constant k m
        after_small = rk_small (one_line_expression l) k m is small

        final_plus : Final (length m.labels) (plus k m) z
        final_plus = subst (λ (xs : List Constant). Final (length m.labels) (record m { constants = xs }) z) (taken_behind_none k k m.constants none) (subst (λ (x : Got ℕ). Final (length m.labels) x.after z) after_small front)

        x_is : x_got ≡ record { value = number + 256; after = plus k m }
        x_is = after_small ∙ (number_next made k number m one.has none final_plus).0

        is_next : number ≡ n
        is_next = (number_next made k number m one.has none final_plus).1

        y_is : rk (code r) (plus k m) ≡ y_got
        y_is = ap (λ (x : Got ℕ). rk (code r) x.after) (sym x_is)

        ahead_m : IsAhead g active mid (mentions_in r) m
        ahead_m =
            let there = subst (IsAhead g active mid (mentions_in r)) (ap (λ (x : Got ℕ). x.after) x_is) ahead_right in
            record { active_are = there.active_are; upvalues_are = there.upvalues_are; made_are = there.made_are; meant = there.meant }

        final_y : Final (length m.labels) (rk (code r) (plus k m)).after z
        final_y = subst (λ (y : Got ℕ). Final (length m.labels) y.after z) (sym y_is) final

        second_word : Final (length m.labels) (rk (code r) m).after z → rk (coded (turned_second n).words) m ≡ rk (code r) m
        second_word final = ap (λ before. rk (coded (word_operand (place f.of listed f.short) n (lefts before) o2).words) m) (sym one.still) ∙ second.as_rk m ahead_m final

        -- no other constant comes in between
        no_other : (c : Constant) → IsNext n c (rk (code r) (plus k m)).after → ⊥
        no_other c (inl corner) = no_corner (is_next ∙ corner)
        no_other c (inr there) =
            let within = slice_get_within (rk (code r) (plus k m)).after.constants (suc n) c there in
            let size = length_end m.constants k in
            let counted = ap (λ (y : Got ℕ). length y.after.constants) y_is ∙ second.taken x_got.after ahead_right back ∙ ap (λ (x : Got ℕ). taken_behind_operand o2 (length x.after.constants)) x_is in
            let up : max n (suc n) ≡ suc n = omega arith in
            let none_more : taken_behind_operand o2 (suc n) ≡ suc n = ap (taken_behind_operand o2) (sym up) ∙ operand_taken_later o2 n (suc n) ∙ ap (λ taken. max taken (suc n)) no_more ∙ up in
            absurd (omega (arith, within, counted, ap (taken_behind_operand o2) size, none_more))

        by : GotOutcome k n (rk (code r) m) (rk (code r) (plus k m)) → Turns
        by (same_value value (untouched after counts fresh)) =
            let a = (rk (code r) m).after in
            let final_a' : Final (length m.labels) (plus k a) z = subst (λ (after : Maker). Final (length m.labels) after z) after final_y in
            let grown = on_constant {v = calm} k (start a) in
            let final_a : Final (length m.labels) a z = before_part grown (subst (λ (xs : List Constant). Final (length m.labels) (record a { constants = xs }) z) (sym (taken_behind_none k k a.constants fresh)) final_a') in
            let next = number_next made k number a one.has fresh final_a' in
            record {
              between = a;
              second_same = second_word final_a ∙ ap (λ (value : ℕ). record { value = value; after = a }) (sym value ∙ ap (λ (y : Got ℕ). y.value) y_is);
              first_same =
                  ap (λ o. rk (coded (word_operand (place f.of listed f.short) (taken_behind_operand o2 n) (left_by_operand o2 (lefts before)) o).words) a) same
                  ∙ rk_small (constant_word (slice_get f.of.constants number)).words k a (word_literal l first' one) (small_there made k number a one.has one.small final_a)
                  ∙ next.0
                  ∙ ap₂ (λ (value : ℕ) (after : Maker). record { value = value; after = after }) (ap (λ (x : Got ℕ). x.value) (sym x_is)) (sym after ∙ ap (λ (y : Got ℕ). y.after) y_is);
              second_low = λ short formed. subst (λ before. IsOperandInRoom r (word_operand (place f.of listed f.short) n (lefts before) o2)) one.still (second.low short formed m ahead_m final_a);
              first_low = constant_first_low number same;
            }
        by (same_value value (both_took after there)) =
            let a = (rk (code r) m).after in
            let final_a : Final (length m.labels) a z = subst (λ (after : Maker). Final (length m.labels) after z) after final_y in
            let within = slice_get_within a.constants n k there in
            absurd (omega (arith, within, second.taken m ahead_m final_a, no_more))
        by (same_value value (another_first c there unlike next)) = absurd (no_other c next)
        by (other_value c there unlike next) = absurd (no_other c next)

    -- the second one is the constant that is taken next
    module _ (number : ℕ) (same : o2 ≡ constant_operand number) (two : IsConstantOperand g r mid behind number) (is_next : number ≡ length m.constants) where
      abbrev next_constant : Constant
      next_constant = two.constant

      -- it is new
      next_new : list_any (same_constant next_constant) m.constants ≡ false
      next_new = by (list_any (same_constant next_constant) m.constants) refl
        where
          by : (among : Bool) → list_any (same_constant next_constant) m.constants ≡ among → list_any (same_constant next_constant) m.constants ≡ false
          by true there =
              let final_m = before_part (grows_rk {v = calm} (code l) (grows calm (one_line_expression l)) m) front in
              let value = ap (λ (x : Got ℕ). x.value) (number_known made next_constant number m two.has there final_m) in
              absurd (omega (arith, value, stands_within next_constant m.constants there, is_next))
          by false there = there

      -- no other constant has its place
      only_next : (c : Constant) → slice_get x_got.after.constants (length m.constants) ≡ Some c → same_constant next_constant c ≡ false → ⊥
      only_next c there unlike =
          let in_end = front.constants (length m.constants) c there in
          let known = ap (λ constants. slice_get constants number) (sym made.constants) ∙ two.has.is in
          let is : next_constant ≡ c = same_Some next_constant c (sym known ∙ ap (slice_get z.constants) is_next ∙ in_end) in
          true≢false (sym ((same_constant-Decides next_constant c).1 is) ∙ unlike)

      -- what is made of it behind the first one
      behind_first : y_got ≡ small_constant next_constant x_got.after
      behind_first = rk_small (one_line_expression r) next_constant x_got.after (same_literal r ∙ two.is) (small_there made next_constant number x_got.after two.has two.small front)

      -- with its number, and the first one behind it, they come to the same
      turns_to : y_got.value ≡ number + 256 → rk (code l) (plus next_constant m) ≡ record { value = x_got.value; after = y_got.after } → Turns
      turns_to value both = record {
        between = plus next_constant m;
        second_same =
            ap (λ o. rk (coded (word_operand (place f.of listed f.short) n (lefts before) o).words) m) same
            ∙ rk_small (constant_word (slice_get f.of.constants number)).words next_constant m (word_literal r second' two) (small_there made next_constant number m two.has two.small final_m)
            ∙ (number_next made next_constant number m two.has next_new final_plus).0
            ∙ ap (λ (value : ℕ). record { value = value; after = plus next_constant m }) (sym value);
        first_same =
            ap (λ o. rk (coded (word_operand (place f.of listed f.short) (taken_behind_operand o n) (left_by_operand o (lefts before)) o1).words) (plus next_constant m)) same
            ∙ ap (λ n. rk (coded (word_operand (place f.of listed f.short) n (lefts before) o1).words) (plus next_constant m)) counts
            ∙ first.as_rk (plus next_constant m) ahead_plus final_first
            ∙ both;
        second_low = constant_second_low number same;
        first_low = λ short formed.
            subst (λ o. IsOperandInRoom l (word_operand (place f.of listed f.short) (taken_behind_operand o n) (left_by_operand o (lefts before)) o1)) (sym same)
            (subst (λ n. IsOperandInRoom l (word_operand (place f.of listed f.short) n (lefts before) o1)) (sym counts) (first.low short formed (plus next_constant m) ahead_plus final_first));
      }
        where
          n : ℕ
          n = length m.constants

          second' : RewrittenOperand f g active listed z lefts mid behind r (constant_operand number)
          second' = subst (RewrittenOperand f g active listed z lefts mid behind r) same second

          final_first : Final (length m.labels) (rk (code l) (plus next_constant m)).after z
          final_first = subst (λ (x : Got ℕ). Final (length m.labels) x.after z) (sym both) final

          final_plus : Final (length m.labels) (plus next_constant m) z
          final_plus = before_part (grows_rk {v = calm} (code l) (grows calm (one_line_expression l)) (plus next_constant m)) final_first

          final_m : Final (length m.labels) m z
          final_m = before_part (grows_rk {v = calm} (code l) (grows calm (one_line_expression l)) m) front

          ahead_plus : IsAhead g active before (mentions_in l) (plus next_constant m)
          ahead_plus = record { active_are = ahead_left.active_are; upvalues_are = ahead_left.upvalues_are; made_are = ahead_left.made_are; meant = ahead_left.meant }

          counts : taken_behind_operand (constant_operand number) n ≡ length (plus next_constant m).constants
          counts = omega (arith, number_within made next_constant number two.has, is_next, length_end m.constants next_constant)

      -- the first one has taken it too
      first_took : slice_get x_got.after.constants (length m.constants) ≡ Some next_constant → rk (code l) (plus next_constant m) ≡ x_got → Turns
      first_took there both = turns_to (ap (λ (y : Got ℕ). y.value) y_is) (both ∙ ap (λ (y : Got ℕ). record { value = x_got.value; after = y.after }) (sym y_is))
        where
          y_is : y_got ≡ record { value = number + 256; after = x_got.after }
          y_is = behind_first ∙ number_known made next_constant number x_got.after two.has (any_there next_constant x_got.after.constants (length m.constants) there) front

      -- the first one takes none
      first_took_none : list_any (same_constant next_constant) x_got.after.constants ≡ false → (rk (code l) (plus next_constant m)).value ≡ x_got.value → (rk (code l) (plus next_constant m)).after ≡ plus next_constant x_got.after → Turns
      first_took_none fresh value after =
          turns_to (ap (λ (y : Got ℕ). y.value) y_is) (ap₂ (λ (value : ℕ) (after : Maker). record { value = value; after = after }) value (after ∙ ap (λ (y : Got ℕ). y.after) (sym y_is)))
        where
          final_plus : Final (length m.labels) (plus next_constant x_got.after) z
          final_plus =
              subst (λ (xs : List Constant). Final (length m.labels) (record x_got.after { constants = xs }) z) (taken_behind_none next_constant next_constant x_got.after.constants fresh)
              (subst (λ (y : Got ℕ). Final (length m.labels) y.after z) behind_first final)

          y_is : y_got ≡ record { value = number + 256; after = plus next_constant x_got.after }
          y_is = behind_first ∙ (number_next made next_constant number x_got.after two.has fresh final_plus).0

      pub first_turns : Turns
      first_turns = by (got_outcome ((rk_framed (code l) (framed next_constant (length m.constants) l has_l)).gots m (plus next_constant m) (not_taken refl next_new)))
        where
          by : GotOutcome next_constant (length m.constants) (rk (code l) m) (rk (code l) (plus next_constant m)) → Turns
          by (same_value value (untouched after counts fresh)) = first_took_none fresh value after
          by (same_value value (both_took after there)) = first_took there (ap₂ (λ (value : ℕ) (after : Maker). record { value = value; after = after }) value after)
          by (same_value value (another_first c there unlike next)) = absurd (only_next c there unlike)
          by (other_value c there unlike next) = absurd (only_next c there unlike)
