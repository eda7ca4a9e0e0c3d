-- What is written of an operand has the same code: a constant with a small number, or a value, in parentheses where it would else be such a constant; and the name of a field as a key.
use Rattle.std.specs.List.{list_any}
use Rattle.std.proofs.Common.{◌+◌, [], zero, if◌then◌else◌, ◌≡◌, ℕ, ◌<◌, ◌≤◌, nat_le, nat_lt, not, Bool, true, false, ℤ, List, length, Option, Some, None, is_some, refl, sym, ap, ◌∙◌, subst, arith, true≢false, inl, inr, ◌⊎◌, ◌∷◌, take, lt-ltb, suc}
use Rattle.std.proofs.lemmas.Bool.Decides.{nat_tests}
use Rattle.std.proofs.lemmas.Option.{same_Some}
use Rattle.std.specs.Prelude.{◌||◌, slice_get}
use Rattle.lua_num.specs.Bytes.{Text}
use Rattle.lua_tree.specs.OneLine.{one_line_expression}
use Rattle.lua_tree.specs.Syntax.{Expression, nil_literal, true_literal, false_literal, text_literal}
use Rattle.proto.specs.Constants.{constant_number, same_constant}
use Rattle.proto.specs.declared.parts.Constant.{Constant}
use Rattle.core_expr.specs.Places.{as_text, place, text_at}
use Rattle.core_expr.specs.Values.{Value, bool_value, constant_value, OperandValue, constant_operand, value_operand, Inner}
use Rattle.core_expr.specs.Writing.{Wording, constant_word, has_no_number, is_bare, is_literal, literal as literal_word, numeral, truth, unless}
use Rattle.recover_expr.specs.Situation.{Function}
use Rattle.scheme.specs.Expressions.{fold, is_small, literal, local_register, number_or, operand, plain_literal, rk, small_constant}
use Rattle.scheme.specs.Making.{Got, Maker}
use Rattle.scheme.specs.Scheme.{coded}
use Rattle.scheme.specs.declared.making.Active.{Active}
use Rattle.scheme_stands.proofs.Growth.{Final, before as before_part, calm}
use Rattle.scheme_stands.proofs.Parts.{grows, grows_operand, grows_rk}
use Rattle.scheme_stands.specs.Expressions.{IsLarge}
use Rattle.scheme_stands.specs.Words.{Fn}
use Rattle.reads_back.specs.Cores.{HasCore, HasNumber, IsConstant, IsCore, IsKey, IsOperand, IsOperandBy}
use Rattle.reads_back.proofs.ConstantsSame.{before_load, constant_is, constant_taken, constant_word_is, literal_few, fold_numeral, large_there, loads, number_is, number_stands, numeral_folds, passes_among, small_there, numeral_few}
use Rattle.reads_back.proofs.Deeper.{some_depth}
use Rattle.reads_back.proofs.LeavesSame.{text_rewritten}
use Rattle.reads_back.proofs.PlainWords.{IsLoadable, IsShown, is_constant, is_nil, is_no_literal, is_truth, shown}
use Rattle.reads_back.proofs.Mentions.{IsAhead, mentions_in, made_behind}
use Rattle.reads_back.proofs.InRoom.{IsInRoom, IsOperandInRoom, bare_in, operand_in}
use Rattle.reads_back.proofs.Rooms.{folded_room}
use Rattle.reads_back.proofs.Rewriting.{IsMadeBy, Rewritten, RewrittenOperand, code, operand_wording, wording}
use Rattle.reads_back.proofs.Tests.{first_of_both, not_below, second_of_both, both_hold, not_so, or_first}
use Rattle.reads_back.proofs.WholeNumbers.{IsWhole, folded_whole}
use Rattle.reads_back.proofs.WordsSame.{fold_wrapped, levels_wrapped, operand_final, operand_low, operand_same, operand_taken, operand_wrapped, rk_large, rk_plain, rk_small, same_literal}
use Rattle.reads_back.proofs.MentionsMeant.{literal_nameless}

-- ---- literals

-- the number that a constant is
abbrev number_in : Option Constant → Option ℤ
number_in (Some (Constant.Number n)) = Some n
number_in k = None

plain_no_number : (e : Expression) → number_in (plain_literal e) ≡ None
plain_no_number (nil_literal line) = refl
plain_no_number e = refl

number_is_folded : (folded : Option ℤ) (plain : Option Constant) → number_in plain ≡ None → number_in (number_or folded plain) ≡ folded
number_is_folded (Some n) plain none = refl
number_is_folded None plain none = none

-- what is folded is known from the literal
fold_by : (e : Expression) → fold e ≡ number_in (literal e)
fold_by e = sym (number_is_folded (fold e) (plain_literal e) (plain_no_number e))

plain_by : (folded : Option ℤ) (plain k : Option Constant) → folded ≡ None → number_or folded plain ≡ k → plain ≡ k
plain_by (Some n) plain k none is = cc
plain_by None plain k none is = is

-- a number among constants is whole
abbrev IsWholeConstant : Constant → Type 0
IsWholeConstant k = (n : ℤ) → k ≡ Constant.Number n → IsWhole n

literal_whole : (e : Expression) (k : Constant) → HasCore e → literal e ≡ Some k → IsWholeConstant k
literal_whole e k has is n number = folded_whole e has n (fold_by e ∙ ap number_in (is ∙ ap Some number))

word_is_literal : (k : Constant) → IsWholeConstant k → literal (literal_word k).words ≡ Some k
word_is_literal Constant.Nil whole = refl
word_is_literal (Constant.Bool true) whole = refl
word_is_literal (Constant.Bool false) whole = refl
word_is_literal (Constant.Number n) whole = ap (λ folded. number_or folded (plain_literal (numeral n).words)) (fold_numeral n (whole n refl))
word_is_literal (Constant.Text text) whole = refl

-- in parentheses only a number is a literal
wrapped_literal : (bare : Bool) (w : Wording) (k other : Constant) → literal w.words ≡ Some k → literal (unless bare w).words ≡ Some other → other ≡ k
wrapped_literal true w k other is wrapped = same_Some other k (sym wrapped ∙ is)
wrapped_literal false w k other is wrapped = by (fold w.words) is wrapped
  where
    by : (folded : Option ℤ) → number_or folded (plain_literal w.words) ≡ Some k → number_or folded None ≡ Some other → other ≡ k
    by (Some n) is wrapped = same_Some other k (sym wrapped ∙ is)
    by None is wrapped = cc

-- what is no small constant is an operand
not_small : (x : Expression) (m : Maker) → ((k : Constant) → literal x ≡ Some k → is_small k m ≡ false) → rk (coded x) m ≡ operand (coded x) m
not_small x m large = by (literal x) refl
  where
    by : (k : Option Constant) → literal x ≡ k → rk (coded x) m ≡ operand (coded x) m
    by (Some k) is = rk_large x k m is (large k is)
    by None is = rk_plain x m is

-- ---- literals that are written as they are

first_of_or : (a b : Bool) → (a || b) ≡ true → b ≡ false → a ≡ true
first_of_or true b either none = refl
first_of_or false b either none = sym none ∙ either

below_255 : (n : ℕ) → nat_lt 255 n ≡ true → 255 < n
below_255 n is = grind (arith, nat_tests)

up_to_255 : (n : ℕ) → nat_le n 255 ≡ true → n ≤ 255
up_to_255 n is = grind (arith, nat_tests)

-- whether a value is written without parentheses
abbrev bare_at : Function → List ℕ → ℕ → Value → Bool
bare_at f listed n v = is_bare (place f.of listed f.short) n v

module _ {f : Function} {g : Fn} {active : List Active} {listed : List ℕ} {z : Maker} (made : IsMadeBy f g active listed z) where
  same_constants : f.of.constants ≡ z.constants
  same_constants = made.is_function.constants ∙ made.constants

  -- a literal that is none of the first 256 constants, which are all taken, gets no small number
  no_small_number : {j : ℕ} (k : Constant) (m : Maker) → is_literal k k ≡ true → has_no_number (place f.of listed f.short) (length m.constants) k ≡ true → Final j m z → is_small k m ≡ false
  no_small_number k m own none final = by (is_small k m) refl
    where
      by : (small : Bool) → is_small k m ≡ small → is_small k m ≡ false
      by true is =
          let small = up_to_255 (constant_number k m.constants) is in
          let many = below_255 (length m.constants) (first_of_both _ _ none) in
          let there = number_stands k m.constants (omega (arith, small, many)) in
          let known = ap (λ constants. slice_get constants (constant_number k m.constants)) same_constants ∙ final.constants _ k there in
          let found = passes_among (is_literal k) k f.of.constants 256 (constant_number k m.constants) (omega (arith, small)) known own in
          absurd (true≢false (sym (second_of_both _ _ none) ∙ ap not found))
      by false is = is

  truth_large : (b : Bool) (m : Maker) (k : Constant) → Final (length m.labels) m z → is_bare (place f.of listed f.short) (length m.constants) (bool_value b) ≡ true → plain_literal (truth b).words ≡ Some k → is_small k m ≡ false
  truth_large true m k final bare plain = subst (λ (k : Constant). is_small k m ≡ false) (same_Some (Constant.Bool true) k plain) (no_small_number (Constant.Bool true) m refl bare final)
  truth_large false m k final bare plain = subst (λ (k : Constant). is_small k m ≡ false) (same_Some (Constant.Bool false) k plain) (no_small_number (Constant.Bool false) m refl bare final)

  -- ---- what is written of a literal

  loaded_text : (lefts : ℕ → List (Option Inner)) (before : ℕ) (text : Text) (v : Value) → IsConstant g (Constant.Text text) v → (n : ℕ) → literal (wording f listed z lefts before n v).words ≡ Some (Constant.Text text)
  loaded_text lefts before text v (number, has, same) n =
      ap (λ (v : Value). literal (wording f listed z lefts before n v).words) same
      ∙ ap (λ there. literal (constant_word there).words) (constant_is made (Constant.Text text) number has)

  plain_written : (lefts : ℕ → List (Option Inner)) (e : Expression) (before behind : ℕ) (k : Constant) (v : Value) → plain_literal e ≡ Some k → IsCore g active e before behind v → (n : ℕ) → literal (wording f listed z lefts before n v).words ≡ Some k
  plain_written lefts (nil_literal line) before behind k v is core n = ap (λ (v : Value). literal (wording f listed z lefts before n v).words) core.1 ∙ is
  plain_written lefts (true_literal line) before behind k v is core n = ap (λ (v : Value). literal (wording f listed z lefts before n v).words) core.1 ∙ is
  plain_written lefts (false_literal line) before behind k v is core n = ap (λ (v : Value). literal (wording f listed z lefts before n v).words) core.1 ∙ is
  plain_written lefts (text_literal line text) before behind k v is core n = loaded_text lefts before text v core.1 n ∙ is
  plain_written lefts e before behind k v is core n = cc

  -- ---- a literal that is no small constant stands without parentheses

  -- one of the first constants is such
  among_first : (k : Constant) (constants : List Constant) (limit : ℕ) → list_any (is_literal k) (take limit constants) ≡ true → (i : ℕ) × (i < limit) × (slice_get constants i ≡ Some k)
  among_first k [] limit passes = none_there limit passes
    where
      none_there : {A : Type 0} (limit : ℕ) → list_any (is_literal k) (take limit []) ≡ true → A
      none_there zero passes = not_so passes
      none_there (suc limit) passes = not_so passes
  among_first k (c ∷ constants) zero passes = not_so passes
  among_first k (c ∷ constants) (suc limit) passes = by (is_literal k c) refl passes (among_first k constants limit)
    where
      same_literal_is : (k c : Constant) → is_literal k c ≡ true → c ≡ k
      same_literal_is Constant.Nil Constant.Nil is = refl
      same_literal_is (Constant.Bool true) (Constant.Bool true) is = refl
      same_literal_is (Constant.Bool false) (Constant.Bool false) is = refl
      same_literal_is k c is = cc

      by : (same : Bool) → is_literal k c ≡ same → (same || list_any (is_literal k) (take limit constants)) ≡ true → (list_any (is_literal k) (take limit constants) ≡ true → (i : ℕ) × (i < limit) × (slice_get constants i ≡ Some k)) → (i : ℕ) × (i < suc limit) × (slice_get (c ∷ constants) i ≡ Some k)
      by true same passes others = (0, omega arith, ap (λ c. Some c) (same_literal_is k c same))
      by false same passes others = let there = others passes in (suc there.0, omega (arith, there.1), there.2)

  none_first : (k : Constant) → IsLarge g k → list_any (is_literal k) (take 256 f.of.constants) ≡ false
  none_first k large = by (list_any (is_literal k) (take 256 f.of.constants)) refl
    where
      by : (any : Bool) → list_any (is_literal k) (take 256 f.of.constants) ≡ any → any ≡ false
      by true is =
          let there = among_first k f.of.constants 256 is in
          let far = large there.0 (ap (λ constants. slice_get constants there.0) (sym made.is_function.constants) ∙ there.2) in
          absurd (omega (arith, far, there.1))
      by false is = refl

  literal_bare : (e : Expression) (k : Constant) (v : Value) → plain_literal e ≡ Some k → IsLarge g k → (before behind : ℕ) → IsCore g active e before behind v → (n : ℕ) → 255 < n → bare_at f listed n v ≡ true
  literal_bare (nil_literal line) k v is large before behind core n many = ap (bare_at f listed n) core.1 ∙ both_hold _ _ (lt-ltb 255 n many) (ap not (none_first Constant.Nil (subst (IsLarge g) (same_Some k Constant.Nil (sym is)) large)))
  literal_bare (true_literal line) k v is large before behind core n many = ap (bare_at f listed n) core.1 ∙ both_hold _ _ (lt-ltb 255 n many) (ap not (none_first (Constant.Bool true) (subst (IsLarge g) (same_Some k (Constant.Bool true) (sym is)) large)))
  literal_bare (false_literal line) k v is large before behind core n many = ap (bare_at f listed n) core.1 ∙ both_hold _ _ (lt-ltb 255 n many) (ap not (none_first (Constant.Bool false) (subst (IsLarge g) (same_Some k (Constant.Bool false) (sym is)) large)))
  literal_bare (text_literal line text) k v is large before behind core n many =
      let known = core.1 in
      let far : 255 < known.0 = large known.0 (known.1.is ∙ is) in
      ap (bare_at f listed n) known.2 ∙ or_first _ _ (lt-ltb 255 known.0 far)
  literal_bare e k v is large before behind core n many = cc

-- what has no small number comes behind many constants
number_within : (k : Constant) (constants : List Constant) → constant_number k constants ≤ length constants
number_within k [] = omega arith
number_within k (c ∷ constants) = by (same_constant k c) (number_within k constants)
  where
    by : (same : Bool) → constant_number k constants ≤ length constants → (if not same then 1 + constant_number k constants else 0) ≤ suc (length constants)
    by true within = omega arith
    by false within = omega (arith, within)

not_small_many : (k : Constant) (m : Maker) → is_small k m ≡ false → 255 < length m.constants
not_small_many k m is = let within = number_within k m.constants in let far : 255 < constant_number k m.constants = grind (arith, nat_tests) in omega (arith, within, far)

-- ---- the levels of a literal

plain_in : (e : Expression) (k : Constant) → plain_literal e ≡ Some k → IsInRoom true e (literal_word k)
plain_in (nil_literal line) k is = subst (λ k. IsInRoom true (nil_literal line) (literal_word k)) (same_Some Constant.Nil k is) (inr (record { low = omega arith; binds = record { prefix = refl; level = refl; unary = refl; several = refl }; bare_there = λ none. refl; unfolded = refl }))
plain_in (true_literal line) k is = subst (λ k. IsInRoom true (true_literal line) (literal_word k)) (same_Some (Constant.Bool true) k is) (inr (record { low = omega arith; binds = record { prefix = refl; level = refl; unary = refl; several = refl }; bare_there = λ none. refl; unfolded = refl }))
plain_in (false_literal line) k is = subst (λ k. IsInRoom true (false_literal line) (literal_word k)) (same_Some (Constant.Bool false) k is) (inr (record { low = omega arith; binds = record { prefix = refl; level = refl; unary = refl; several = refl }; bare_there = λ none. refl; unfolded = refl }))
plain_in (text_literal line text) k is = subst (λ k. IsInRoom true (text_literal line text) (literal_word k)) (same_Some (Constant.Text text) k is) (inr (record { low = omega arith; binds = record { prefix = refl; level = refl; unary = refl; several = refl }; bare_there = λ none. refl; unfolded = refl }))
plain_in e k is = cc

literal_in : (e : Expression) (k : Constant) → literal e ≡ Some k → IsInRoom true e (literal_word k)
literal_in e k is = by (fold e) refl is
  where
    by : (folded : Option ℤ) → fold e ≡ folded → number_or folded (plain_literal e) ≡ Some k → IsInRoom true e (literal_word k)
    by (Some n) known is = subst (λ k. IsInRoom true e (literal_word k)) (same_Some (Constant.Number n) k is) (inl (omega (arith, numeral_few n, folded_room e n known)))
    by None known is = plain_in e k is

module _ {f : Function} {g : Fn} {active : List Active} {listed : List ℕ} {z : Maker} {lefts : ℕ → List (Option Inner)} {before behind : ℕ} (made : IsMadeBy f g active listed z) where
  -- ---- a constant with a small number

  small_rewritten : (e : Expression) (k : Constant) (number : ℕ) → HasCore e → literal e ≡ Some k → HasNumber g k number → number ≤ 255 → behind ≡ before → RewrittenOperand f g active listed z lefts before behind e (constant_operand number)
  small_rewritten e k number cored is has small same = record {
    can = ap is_some (constant_is made k number has);
    leaves = ap lefts (sym same);
    makes = same ∙ ap (λ mentions. made_behind mentions before) (sym (literal_nameless e k is));
    folded = λ n. fold_by (constant_word (slice_get f.of.constants number)).words ∙ ap number_in (word_literal ∙ sym is) ∙ sym (fold_by e);
    few = λ n. omega (arith, ap (λ (w : Wording). w.levels) word_is, literal_few k, some_depth e);
    low = λ short formed m ahead final. subst (IsOperandInRoom e) (sym word_is) (bare_in e (literal_word k) (literal_in e k is));
    as_rk = λ m ahead final. rk_small (constant_word (slice_get f.of.constants number)).words k m word_literal (small_now m final) ∙ sym (is_small_constant m final);
    taken = λ m ahead final. ap (λ (got : Got ℕ). length got.after.constants) (is_small_constant m final) ∙ constant_taken made k number m has (subst (λ (got : Got ℕ). Final (length m.labels) got.after z) (is_small_constant m final) final);
  }
    where
      word_is : constant_word (slice_get f.of.constants number) ≡ literal_word k
      word_is = constant_word_is made k number has

      word_literal : literal (constant_word (slice_get f.of.constants number)).words ≡ Some k
      word_literal = ap (λ (w : Wording). literal w.words) word_is ∙ word_is_literal k (literal_whole e k cored is)

      small_now : (m : Maker) → Final (length m.labels) (rk (code e) m).after z → is_small k m ≡ true
      small_now m final = small_there made k number m has small (before_part (grows_rk {v = calm} (code e) (grows calm (one_line_expression e)) m) final)

      is_small_constant : (m : Maker) → Final (length m.labels) (rk (code e) m).after z → rk (code e) m ≡ small_constant k m
      is_small_constant m final = rk_small (one_line_expression e) k m (same_literal e ∙ is) (small_now m final)

  -- ---- a value in a register

  value_rewritten : (e : Expression) (v : Value) → Rewritten f g active listed z lefts before behind e v → ((m : Maker) → Final (length m.labels) (rk (code e) m).after z → rk (code e) m ≡ operand (code e) m) →
      ((m : Maker) (k : Constant) → IsAhead g active before (mentions_in e) m → Final (length m.labels) (rk (code e) m).after z → Final (length m.labels) (operand (code e) m).after z → literal (operand_wording f listed z lefts before (length m.constants) (value_operand v)).words ≡ Some k → is_small k m ≡ false) →
      ((m : Maker) → fold e ≡ None → Final (length m.labels) (rk (code e) m).after z → (literal e ≡ None) ⊎ (bare_at f listed (length m.constants) v ≡ true)) →
      RewrittenOperand f g active listed z lefts before behind e (value_operand v)
  value_rewritten e v rewritten own large stays = record {
    can = rewritten.can;
    leaves = rewritten.leaves;
    makes = rewritten.makes;
    folded = λ n. fold_wrapped (bare_at f listed n v) (wording f listed z lefts before n v) ∙ rewritten.folded n;
    few = λ n. omega (arith, levels_wrapped (bare_at f listed n v) (wording f listed z lefts before n v), rewritten.few n);
    low = λ short formed m ahead final.
        let final' = subst (λ (got : Got ℕ). Final (length m.labels) got.after z) (own m final) final in
        operand_in (bare_at f listed (length m.constants) v) e (wording f listed z lefts before (length m.constants) v) (operand_low rewritten short formed m ahead final') (λ alike. stays m alike.unfolded final);
    as_rk = λ m ahead final.
        let n = length m.constants in
        let final' = subst (λ (got : Got ℕ). Final (length m.labels) got.after z) (own m final) final in
        not_small (operand_wording f listed z lefts before n (value_operand v)).words m (λ k is. large m k ahead final final' is)
        ∙ operand_wrapped (bare_at f listed n v) (wording f listed z lefts before n v) m
        ∙ operand_same rewritten m ahead final'
        ∙ sym (own m final);
    taken = λ m ahead final.
        let final' = subst (λ (got : Got ℕ). Final (length m.labels) got.after z) (own m final) final in
        ap (λ (got : Got ℕ). length got.after.constants) (own m final) ∙ operand_taken rewritten m ahead final';
  }

  -- ---- a literal with no small number

  -- where an expression is a literal, it is written as that literal
  written_literal : (e : Expression) (k : Constant) (v : Value) → literal e ≡ Some k → IsCore g active e before behind v → Rewritten f g active listed z lefts before behind e v → (n : ℕ) → literal (wording f listed z lefts before n v).words ≡ Some k
  written_literal e k v is core rewritten n = by (fold e) refl
    where
      by : (folded : Option ℤ) → fold e ≡ folded → literal (wording f listed z lefts before n v).words ≡ Some k
      by (Some number) known =
          ap (λ folded. number_or folded (plain_literal (wording f listed z lefts before n v).words)) (rewritten.folded n ∙ known)
          ∙ sym (ap (λ folded. number_or folded (plain_literal e)) known)
          ∙ is
      by None known = plain_written made lefts e before behind k v (plain_by (fold e) (plain_literal e) (Some k) known is) core n

  large_rewritten : (e : Expression) (k : Constant) (v : Value) → literal e ≡ Some k → IsLarge g k → IsCore g active e before behind v → Rewritten f g active listed z lefts before behind e v → RewrittenOperand f g active listed z lefts before behind e (value_operand v)
  large_rewritten e k v is large core rewritten =
      value_rewritten e v rewritten
      (λ m final. rk_large (one_line_expression e) k m (same_literal e ∙ is) (large_now m final))
      (λ m other ahead final final' wrapped.
      let n = length m.constants in
      let same = wrapped_literal (bare_at f listed n v) (wording f listed z lefts before n v) k other (written_literal e k v is core rewritten n) wrapped in
      subst (λ (k : Constant). is_small k m ≡ false) (sym same) (large_now m final))
      (λ m unfolded final. inr (literal_bare made e k v (plain_by (fold e) (plain_literal e) (Some k) unfolded is) large before behind core (length m.constants) (not_small_many k m (large_now m final))))
    where
      large_now : (m : Maker) → Final (length m.labels) (rk (code e) m).after z → is_small k m ≡ false
      large_now m final = large_there made k m large (λ small. subst (λ (got : Got ℕ). Final (length m.labels) got.after z) (rk_small (one_line_expression e) k m (same_literal e ∙ is) small) final)

  -- ---- what is no literal

  -- what takes a constant is no local
  constant_no_local : (e : Expression) (number : ℕ) (m : Maker) → Rewritten f g active listed z lefts before behind e (constant_value number) → IsAhead g active before (mentions_in e) m → local_register (one_line_expression e) m ≡ None
  constant_no_local e number m rewritten ahead = by (local_register (one_line_expression e) m) refl
    where
      by : (local : Option ℕ) → local_register (one_line_expression e) m ≡ local → local ≡ None
      by (Some r) is = let none = rewritten.as_local 0 r m ahead is in absurd (omega (arith, none))
      by None is = refl

  -- a string with a large number
  text_large : (e : Expression) (text : Text) (number : ℕ) (m : Maker) → HasNumber g (Constant.Text text) number → Rewritten f g active listed z lefts before behind e (constant_value number) → IsAhead g active before (mentions_in e) m → Final (length m.labels) (operand (code e) m).after z →
      is_bare (place f.of listed f.short) (length m.constants) (constant_value number) ≡ true → is_small (Constant.Text text) m ≡ false
  text_large e text number m has rewritten ahead final bare =
      not_below 255 (constant_number (Constant.Text text) m.constants) (omega (arith, more, number_is made (Constant.Text text) number m has (before_load m.free (Constant.Text text) m (subst (λ (n : Maker). Final (length m.labels) n z) loaded (operand_final (one_line_expression e) m (constant_no_local e number m rewritten ahead) final)))))
    where
      there : slice_get f.of.constants number ≡ Some (Constant.Text text)
      there = constant_is made (Constant.Text text) number has

      more : 255 < number
      more = below_255 number (first_of_or (nat_lt 255 number) (not (is_some (text_at (place f.of listed f.short) number))) bare (ap (λ k. not (is_some (as_text k))) there))

      loaded : (code e).to_reg m.free m ≡ loads m.free (Constant.Text text) m
      loaded = sym (rewritten.to_reg m.free m ahead (operand_final (one_line_expression e) m (constant_no_local e number m rewritten ahead) final)) ∙ ap (λ k. (coded (constant_word k).words).to_reg m.free m) there

  constant_large : (e : Expression) (own : Constant) (number : ℕ) (m : Maker) (k : Constant) → IsLoadable own → HasNumber g own number → fold e ≡ None → Rewritten f g active listed z lefts before behind e (constant_value number) → IsAhead g active before (mentions_in e) m → Final (length m.labels) (operand (code e) m).after z →
      is_bare (place f.of listed f.short) (length m.constants) (constant_value number) ≡ true → plain_literal (wording f listed z lefts before (length m.constants) (constant_value number)).words ≡ Some k → is_small k m ≡ false
  constant_large e (Constant.Text text) number m k loadable has none rewritten ahead final bare plain =
      let there = constant_is made (Constant.Text text) number has in
      let same = same_Some (Constant.Text text) k (sym (ap (λ k. plain_literal (constant_word k).words) there) ∙ plain) in
      subst (λ (k : Constant). is_small k m ≡ false) same (text_large e text number m has rewritten ahead final bare)
  constant_large e (Constant.Number i) number m k loadable has none rewritten ahead final bare plain =
      let there = constant_is made (Constant.Number i) number has in
      absurd (true≢false (sym (numeral_folds i) ∙ ap (λ k. is_some (fold (constant_word k).words)) (sym there) ∙ ap is_some (rewritten.folded 0 ∙ none)))
  constant_large e own number m k loadable has none rewritten ahead final bare plain = absurd loadable

  -- how a value is written that could be one
  shown_large : (e : Expression) (v : Value) (m : Maker) (k : Constant) → fold e ≡ None → Rewritten f g active listed z lefts before behind e v → IsShown g (place f.of listed f.short) (lefts before) v → IsAhead g active before (mentions_in e) m → Final (length m.labels) (operand (code e) m).after z →
      is_bare (place f.of listed f.short) (length m.constants) v ≡ true → plain_literal (wording f listed z lefts before (length m.constants) v).words ≡ Some k → is_small k m ≡ false
  shown_large e v m k none rewritten (is_nil is) ahead final =
      subst (λ (v : Value). is_bare (place f.of listed f.short) (length m.constants) v ≡ true → plain_literal (wording f listed z lefts before (length m.constants) v).words ≡ Some k → is_small k m ≡ false) (sym is)
      (λ bare plain. subst (λ (k : Constant). is_small k m ≡ false) (same_Some Constant.Nil k plain) (no_small_number made Constant.Nil m refl bare (before_part (grows_operand {v = calm} (code e) (grows calm (one_line_expression e)) m) final)))
  shown_large e v m k none rewritten (is_truth b is) ahead final =
      subst (λ (v : Value). is_bare (place f.of listed f.short) (length m.constants) v ≡ true → plain_literal (wording f listed z lefts before (length m.constants) v).words ≡ Some k → is_small k m ≡ false) (sym is)
      (truth_large made b m k (before_part (grows_operand {v = calm} (code e) (grows calm (one_line_expression e)) m) final))
  shown_large e v m k none rewritten (is_constant own number loadable has is) ahead final =
      subst (λ (v : Value). is_bare (place f.of listed f.short) (length m.constants) v ≡ true → plain_literal (wording f listed z lefts before (length m.constants) v).words ≡ Some k → is_small k m ≡ false) (sym is)
      (constant_large e own number m k loadable has none (subst (Rewritten f g active listed z lefts before behind e) is rewritten) ahead final)
  shown_large e v m k none rewritten (is_no_literal never) ahead final = λ bare plain. let words = sym (never (length m.constants)) ∙ plain in cc

  plain_rewritten : (e : Expression) (v : Value) → literal e ≡ None → IsCore g active e before behind v → Rewritten f g active listed z lefts before behind e v → RewrittenOperand f g active listed z lefts before behind e (value_operand v)
  plain_rewritten e v is core rewritten =
      value_rewritten e v rewritten
      (λ m final. rk_plain (one_line_expression e) m (same_literal e ∙ is))
      (λ m k ahead final final' wrapped. by m k ahead final' (is_bare (place f.of listed f.short) (length m.constants) v) refl wrapped)
      (λ m unfolded final. inl is)
    where
      none : fold e ≡ None
      none = fold_by e ∙ ap number_in is

      by : (m : Maker) (k : Constant) → IsAhead g active before (mentions_in e) m → Final (length m.labels) (operand (code e) m).after z → (bare : Bool) → is_bare (place f.of listed f.short) (length m.constants) v ≡ bare → literal (unless bare (wording f listed z lefts before (length m.constants) v)).words ≡ Some k → is_small k m ≡ false
      by m k ahead final true bare words =
          let n = length m.constants in
          shown_large e v m k none rewritten (shown g active (place f.of listed f.short) (lefts before) e before behind v core rewritten.can) ahead final bare (plain_by (fold (wording f listed z lefts before n v).words) (plain_literal (wording f listed z lefts before n v).words) (Some k) (rewritten.folded n ∙ none) words)
      by m k ahead final false bare words =
          let n = length m.constants in
          absurd (none_some k (sym (ap (λ folded. number_or folded None) (rewritten.folded n ∙ none)) ∙ words))
        where
          none_some : (k : Constant) → None ≡ Some k → ⊥
          none_some k is = cc

module _ {f : Function} {g : Fn} {active : List Active} {listed : List ℕ} {z : Maker} (lefts : ℕ → List (Option Inner)) (made : IsMadeBy f g active listed z) where
  pub operand_rewritten : (e : Expression) (before behind : ℕ) (o : OperandValue) → HasCore e → IsOperand g active e before behind o → ((v : Value) → IsCore g active e before behind v → Rewritten f g active listed z lefts before behind e v) →
      RewrittenOperand f g active listed z lefts before behind e o
  operand_rewritten e before behind o has is written = by (literal e) refl is
    where
      by : (k : Option Constant) → literal e ≡ k → IsOperandBy k g (IsCore g active e) before behind o → RewrittenOperand f g active listed z lefts before behind e o
      by (Some k) known (inl (as_many, (number, numbered, small, same))) = subst (RewrittenOperand f g active listed z lefts before behind e) (sym same) (small_rewritten made e k number has known numbered small as_many)
      by (Some k) known (inr (large, (v, core, same))) = subst (RewrittenOperand f g active listed z lefts before behind e) (sym same) (large_rewritten made e k v known large core (written v core))
      by None known (v, core, same) = subst (RewrittenOperand f g active listed z lefts before behind e) (sym same) (plain_rewritten made e v known core (written v core))

  -- the name of a field, as a string that is a key
  pub key_rewritten : (line : ℕ) (text : Text) (before behind : ℕ) (o : OperandValue) → IsKey g text before behind o → RewrittenOperand f g active listed z lefts before behind (text_literal line text) o
  key_rewritten line text before behind o is =
      operand_rewritten (text_literal line text) before behind o tt is
      (λ v core. subst (λ (behind : ℕ). Rewritten f g active listed z lefts before behind (text_literal line text) v) (sym core.0) (text_rewritten made line text v core.1))
