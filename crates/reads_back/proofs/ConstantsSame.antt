-- The numbers of constants where a function is made and in the end, how many are taken with one, and what is written of a constant.
use Rattle.std.proofs.Common.{◌≡◌, ℕ, zero, suc, ◌+◌, ◌<◌, ◌≤◌, ◌^◌, ◌-◌, max, Bool, true, false, ℤ, pos, negsuc, List, [], ◌∷◌, ◌++◌, cond, length, Some, is_some, refl, sym, ap, ◌∙◌, arith, true≢false, not}
use Rattle.std.proofs.Math.IntN.{+ℤ_idl, ◌-ℤ◌}
use Rattle.std.proofs.lemmas.Bool.{eqb-true}
use Rattle.std.proofs.lemmas.List.Sums.{prefix_len_stops}
use Rattle.std.proofs.lemmas.Option.{same_Some, slice_get-get_or, slice_get_within}
use Rattle.std.specs.List.{list_any}
use Rattle.std.specs.Prelude.{◌||◌, slice_get, take, if◌then◌else◌, ◌==◌}
use Rattle.lua_num.specs.Arith.{wrap}
use Rattle.lua_tree.specs.OneLine.{one_line_expression}
use Rattle.lua_tree.specs.Syntax.{Expression, number_literal, binary_expression, unary_expression, parenthesized, name_expression, vararg_expression, call_expression, method_call}
use Rattle.lua_tree.specs.declared.tree.BinaryOp.{BinaryOp}
use Rattle.lua_tree.specs.declared.tree.UnaryOp.{UnaryOp}
use Rattle.opcode.specs.declared.op.Op.{Op}
use Rattle.proto.proofs.ConstantPool.{same_constant-Decides}
use Rattle.proto.specs.Constants.{constant_number, same_constant, with_constant as pool_with_constant}
use Rattle.proto.specs.declared.parts.Constant.{Constant}
use Rattle.core_expr.specs.Counting.{with_constant}
use Rattle.core_expr.specs.Writing.{Wording, constant_word, literal as literal_word, number_word, numeral, with_binary, with_unary}
use Rattle.recover_expr.specs.Situation.{Function}
use Rattle.scheme.specs.Expressions.{binary_value, fold, is_multiple, is_name, is_small, load, load_or, unary_value}
use Rattle.scheme.specs.Making.{Maker, Part, constant, freeing}
use Rattle.scheme.specs.Scheme.{coded}
use Rattle.scheme.specs.declared.making.Active.{Active}
use Rattle.scheme.specs.declared.making.Piece.{Piece}
use Rattle.scheme_stands.proofs.Growth.{Final, before_free, before_put, constant_at}
use Rattle.scheme_stands.proofs.Large.{constant_first, large_at}
use Rattle.scheme_stands.specs.Expressions.{IsLarge}
use Rattle.scheme_stands.specs.Words.{Fn}
use Rattle.reads_back.specs.Cores.{HasNumber}
use Rattle.reads_back.proofs.Rewriting.{IsMadeBy, code}
use Rattle.reads_back.proofs.Tests.{not_below, or_second}
use Rattle.reads_back.proofs.WholeNumbers.{IsWhole, wraps_back}
use Rattle.reads_back.proofs.WordsSame.{same_fold}

-- ---- how many constants are taken with one

pooled_front : (k y : Constant) (ys : List Constant) (among same : Bool) → length (if among then ys else ys ++ k ∷ []) ≡ max (length ys) (suc (constant_number k ys)) →
    length (if same || among then y ∷ ys else y ∷ ys ++ k ∷ []) ≡ max (suc (length ys)) (suc (cond (not same) (1 + constant_number k ys) 0))
pooled_front k y ys among true rest = omega arith
pooled_front k y ys true false rest = omega (arith, rest)
pooled_front k y ys false false rest = omega (arith, rest)

pooled_count : (k : Constant) (ks : List Constant) → length (pool_with_constant k ks) ≡ max (length ks) (suc (constant_number k ks))
pooled_count k [] = refl
pooled_count k (y ∷ ys) = pooled_front k y ys (list_any (same_constant k) ys) (same_constant k y) (pooled_count k ys)

-- ---- numbers in the end

module _ {f : Function} {g : Fn} {active : List Active} {listed : List ℕ} {z : Maker} (made : IsMadeBy f g active listed z) where
  pub constant_is : (k : Constant) (number : ℕ) → HasNumber g k number → slice_get f.of.constants number ≡ Some k
  constant_is k number has = ap (λ constants. slice_get constants number) made.is_function.constants ∙ has.is

  pub constant_word_is : (k : Constant) (number : ℕ) → HasNumber g k number → constant_word (slice_get f.of.constants number) ≡ literal_word k
  constant_word_is k number has = ap constant_word (constant_is k number has)

  pub number_within : (k : Constant) (number : ℕ) → HasNumber g k number → number < 262144
  number_within k number has = omega (arith, slice_get_within g.constants number k has.is, ap length made.constants, made.few)

  -- a constant's number is the one that it gets
  pub number_is : {j : ℕ} (k : Constant) (number : ℕ) (m : Maker) → HasNumber g k number → Final j (constant k m).after z → number ≡ constant_number k m.constants
  number_is k number m has final = sym has.first ∙ ap (constant_number k) made.constants ∙ constant_first k m final

  pub constant_taken : {j : ℕ} (k : Constant) (number : ℕ) (m : Maker) → HasNumber g k number → Final j (constant k m).after z → length (constant k m).after.constants ≡ with_constant (length m.constants) number
  constant_taken k number m has final =
      let counts = pooled_count k m.constants in
      let is = number_is k number m has final in
      let within = number_within k number has in
      omega (arith, counts, is, within)

  -- one with a small number is an operand
  pub small_there : {j : ℕ} (k : Constant) (number : ℕ) (m : Maker) → HasNumber g k number → number ≤ 255 → Final j m z → is_small k m ≡ true
  small_there k number m has small final = by (is_small k m) refl
    where
      by : (is : Bool) → is_small k m ≡ is → is_small k m ≡ true
      by true is = is
      by false is =
          let large = large_at k m is final number (ap (λ constants. slice_get constants number) (sym made.constants) ∙ has.is) in
          absurd (omega (arith, large, small))

  -- and one with no small number is none
  pub large_there : {j : ℕ} (k : Constant) (m : Maker) → IsLarge g k → (is_small k m ≡ true → Final j (constant k m).after z) → is_small k m ≡ false
  large_there k m large final = by (is_small k m) refl
    where
      by : (is : Bool) → is_small k m ≡ is → is_small k m ≡ false
      by true is =
          let number = constant_number k m.constants in
          let more = large number (ap (λ constants. slice_get constants number) made.constants ∙ constant_at k m (final is)) in
          absurd (true≢false (sym is ∙ not_below 255 number more))
      by false is = is

-- ---- literals that have no number

-- a constant stands at its number
pub number_stands : (k : Constant) (constants : List Constant) → constant_number k constants < length constants → slice_get constants (constant_number k constants) ≡ Some k
number_stands k constants within =
    let stops = prefix_len_stops (λ c. not (same_constant k c)) constants k within in
    let same = (same_constant-Decides k _).0 (by_not _ stops) in
    slice_get-get_or constants (constant_number k constants) k within ∙ ap Some (sym same)
  where
    by_not : (b : Bool) → not b ≡ false → b ≡ true
    by_not true is = refl
    by_not false is = cc

pub passes_among : (test : Constant → Bool) (k : Constant) (constants : List Constant) (limit i : ℕ) → i < limit → slice_get constants i ≡ Some k → test k ≡ true → list_any test (take limit constants) ≡ true
passes_among test k [] limit i below there passes = cc
passes_among test k (c ∷ constants) zero i below there passes = absurd (omega (arith, below))
passes_among test k (c ∷ constants) (suc limit) zero below there passes = ap (λ passes. passes || list_any test (take limit constants)) (ap test (same_Some c k there) ∙ passes)
passes_among test k (c ∷ constants) (suc limit) (suc i) below there passes = or_second (test c) (list_any test (take limit constants)) (passes_among test k constants limit i (omega (arith, below)) there passes)

-- ---- numerals

below_zero : (n : ℕ) → pos 0 -ℤ pos (suc n) ≡ negsuc n
below_zero n = +ℤ_idl (negsuc n)

-- the least number, and other ones below 0
abbrev least_word : Wording
least_word = with_binary BinaryOp.Sub (with_unary UnaryOp.Neg (number_word (pos (2 ^ 63 - 1)))) (number_word (pos 1))

abbrev negated_word : ℕ → Wording
negated_word n = with_unary UnaryOp.Neg (number_word (pos (suc n)))

by_words : (P : Wording → Type 0) → ((n : ℤ) → P (number_word n)) → P least_word → ((n : ℕ) → P (negated_word n)) → (n : ℤ) → P (numeral n)
by_words P plain least negated (pos n) = plain (pos n)
by_words P plain least negated (negsuc n) = by (n == 2 ^ 63 - 1)
  where
    by : (is : Bool) → P (if is then least_word else negated_word n)
    by true = least
    by false = negated n

pub fold_numeral : (n : ℤ) → IsWhole n → fold (numeral n).words ≡ Some n
fold_numeral (pos n) whole = refl
fold_numeral (negsuc n) whole = by (n == 2 ^ 63 - 1) refl
  where
    by : (least : Bool) → (n == 2 ^ 63 - 1) ≡ least → fold (if least then least_word else negated_word n).words ≡ Some (negsuc n)
    by true is = let same = eqb-true n (2 ^ 63 - 1) is in ap (λ (n : ℕ). Some (negsuc n)) (sym same)
    by false is = ap (λ n. Some (wrap n)) (below_zero n) ∙ ap Some (wraps_back n whole)

-- however large the number is, there is one
pub numeral_folds : (n : ℤ) → is_some (fold (numeral n).words) ≡ true
numeral_folds = by_words (λ w. is_some (fold w.words) ≡ true) (λ n. refl) refl (λ n. refl)

pub numeral_plain : (n : ℤ) → is_name (numeral n).words ≡ false
numeral_plain = by_words (λ w. is_name w.words ≡ false) (λ n. refl) refl (λ n. refl)

pub numeral_single : (n : ℤ) → is_multiple (numeral n).words ≡ false
numeral_single = by_words (λ w. is_multiple w.words ≡ false) (λ n. refl) refl (λ n. refl)

pub numeral_few : (n : ℤ) → (numeral n).levels ≤ 3
numeral_few = by_words (λ w. w.levels ≤ 3) (λ n. omega arith) (omega arith) (λ n. omega arith)

pub literal_few : (k : Constant) → (literal_word k).levels ≤ 3
literal_few Constant.Nil = omega arith
literal_few (Constant.Bool true) = omega arith
literal_few (Constant.Bool false) = omega arith
literal_few (Constant.Number n) = numeral_few n
literal_few (Constant.Text text) = omega arith

numeral_on_one_line : (n : ℤ) → one_line_expression (numeral n).words ≡ (numeral n).words
numeral_on_one_line = by_words (λ w. one_line_expression w.words ≡ w.words) (λ n. refl) refl (λ n. refl)

-- ---- constants that are loaded

abbrev pub loads : ℕ → Constant → Part
loads r k = freeing (load 1 r k)

pub before_load : {j : ℕ} {z : Maker} (r : ℕ) (k : Constant) (m : Maker) → Final j (loads r k m) z → Final j (constant k m).after z
before_load r k m final = before_put 1 (Piece.Abx Op.LoadK r (constant k m).value) (constant k m).after (before_free m.free (load 1 r k m) final)

-- what is a number is loaded, however it is written
pub number_loads : (e : Expression) (n : ℤ) → fold e ≡ Some n → (r : ℕ) (m : Maker) → (code e).to_reg r m ≡ loads r (Constant.Number n) m
number_loads (number_literal line k) n is r m = ap (λ folded. freeing (load_or folded 1 (λ r m. m) r) m) is
number_loads (parenthesized line e) n is r m = number_loads e n is r m
number_loads (unary_expression line op e) n is r m = ap (λ folded. freeing (load_or folded 1 (unary_value 1 op (code e)) r) m) (same_fold (unary_expression line op e) ∙ is)
number_loads (binary_expression line op left right) n is r m = ap (λ folded. freeing (load_or folded 1 (binary_value 1 op (code left) (code right)) r) m) (same_fold (binary_expression line op left right) ∙ is)
number_loads e n is r m = absurd cc

pub numeral_loads : (n : ℤ) → IsWhole n → (r : ℕ) (m : Maker) → (coded (numeral n).words).to_reg r m ≡ loads r (Constant.Number n) m
numeral_loads n whole r m = ap (λ e. (coded e).to_reg r m) (sym (numeral_on_one_line n)) ∙ number_loads (numeral n).words n (fold_numeral n whole) r m

pub number_no_name : (e : Expression) (n : ℤ) → fold e ≡ Some n → is_name e ≡ false
number_no_name (parenthesized line e) n is = number_no_name e n is
number_no_name (name_expression line text) n is = cc
number_no_name e n is = refl

pub number_single : (e : Expression) (n : ℤ) → fold e ≡ Some n → is_multiple e ≡ false
number_single (vararg_expression line) n is = cc
number_single (call_expression line on args on_line) n is = cc
number_single (method_call line on name args on_line) n is = cc
number_single e n is = refl
