-- What is written of a list of values makes the same code as the expressions: each value goes to the next register, or the last one gives several; and a nil behind the values.
use Rattle.reads_back.proofs.InRoom.{levels_in, closed_in}
use Rattle.std.proofs.Common.{◌≡◌, ℕ, suc, ◌+◌, ◌*◌, ◌≤◌, Bool, true, false, List, [], ◌++◌, length, Option, refl, sym, ap, ◌∙◌, subst, arith, inr}
use Rattle.std.specs.Prelude.{◌&&◌, not}
use Rattle.std.proofs.Math.Bool.{and-true}
use Rattle.lua_tree.specs.OneLine.{one_line_expression, one_line_expressions}
use Rattle.lua_tree.specs.Syntax as syntax
use Rattle.lua_tree.specs.Syntax.{Expressions, no_expressions, Expression, nil_literal}
use Rattle.lua_tree.specs.WellFormed.{depth_of_expressions, formed_expressions, formed_expression}
use Rattle.opcode.specs.declared.op.Op.{Op}
use Rattle.core_expr.specs.Counting.{taken_behind, taken_behind_values, left_by, left_by_values}
use Rattle.core_expr.specs.Places.{Place, place}
use Rattle.core_expr.specs.Values.{Value, Values, no_values, and_value, Inner, nil_value}
use Rattle.core_expr.specs.Writing.{can_write, can_write_values, ends_values, is_multiple as can_be_several, single as single_word, unless, word, word_values, is_bare}
use Rattle.recover_expr.specs.Entries.{and_last_value}
use Rattle.recover_expr.specs.Lists.{value_count}
use Rattle.recover_expr.specs.Situation.{Function}
use Rattle.scheme.specs.Expressions.{Coded, Want, is_multiple, next_reg}
use Rattle.scheme.specs.Lists.{all_multi, all_next, ends_open as opens}
use Rattle.scheme.specs.Making.{Maker}
use Rattle.scheme.specs.Scheme.{all_coded, coded}
use Rattle.scheme.specs.declared.making.Active.{Active}
use Rattle.scheme_stands.proofs.Growth.{Final, before as before_part, calm, later}
use Rattle.scheme_stands.proofs.Parts.{grow_all, grows, grows_all, grows_multi, grows_next}
use Rattle.scheme_stands.specs.Words.{Fn}
use Rattle.same_flow.specs.Space.{space_of_expressions}
use Rattle.reads_back.specs.Cores.{AllHaveCores, AreCores, ends_open}
use Rattle.reads_back.proofs.GivenSame.{AllRewritten, closed_unless}
use Rattle.reads_back.proofs.Mentions.{IsAhead, ahead_behind, ahead_front, mentions_in, mentions_in_all, made_behind}
use Rattle.reads_back.proofs.PassedMentions.{mentions_passed, next_passes}
use Rattle.reads_back.proofs.Rewriting.{code, wording, HasRoom}
use Rattle.reads_back.proofs.Tests.{not_so, first_of_both, second_of_both}
use Rattle.reads_back.proofs.WordsSame.{coded_is, levels_wrapped, next_same, next_taken, next_wrapped, same_multiple, next_low}

-- the code of expressions on one line, and of what is written of values
abbrev pub codes_of : Expressions → List Coded
codes_of es = all_coded (one_line_expressions es)

abbrev pub values_coded : Place → ℕ → List (Option Inner) → Values → (all : Bool) → List Coded
values_coded at n fs vs all = all_coded (word_values at n fs vs all).words

-- ---- how many there are

pub coded_count : (at : Place) (n : ℕ) (fs : List (Option Inner)) (vs : Values) (all : Bool) → length (values_coded at n fs vs all) ≡ value_count vs
coded_count at n fs no_values all = refl
coded_count at n fs (and_value v rest) all = ap suc (coded_count at (taken_behind v n) (left_by v fs) rest all)

pub cores_count : (g : Fn) (active : List Active) (es : Expressions) (before behind : ℕ) (vs : Values) → AreCores g active es before behind vs → length (codes_of es) ≡ value_count vs
cores_count g active no_expressions before behind vs are = ap value_count (sym are.1)
cores_count g active (syntax.expression e es) before behind vs (mid, (v, rest, core, are, is)) = ap suc (cores_count g active es mid behind rest are) ∙ ap value_count (sym is)

-- the last one gives several in the code too
pub opens_is : (es : Expressions) → opens (codes_of es) ≡ ends_open es
opens_is no_expressions = refl
opens_is (syntax.expression e no_expressions) = ap is_multiple (coded_is (one_line_expression e)) ∙ same_multiple e
opens_is (syntax.expression e (syntax.expression d es)) = opens_is (syntax.expression d es)

-- ---- each of them

module _ (at : Place) (deep : ℕ) where
  -- it has few levels, and can give several as a word where it can as a value
  abbrev pub EachFine : ℕ → List (Option Inner) → Values → Type 0
  EachFine n fs no_values = Unit {0}
  EachFine n fs (and_value v rest) = ((word at n fs v).levels ≤ deep) × (is_multiple (word at n fs v).words ≡ can_be_several v) × EachFine (taken_behind v n) (left_by v fs) rest

  pub list_few : (n : ℕ) (fs : List (Option Inner)) (vs : Values) (all : Bool) → EachFine n fs vs → (word_values at n fs vs all).levels ≤ suc deep
  list_few n fs no_values all fine = omega arith
  list_few n fs (and_value v rest) all fine =
      omega (arith, fine.0, levels_wrapped (not ((ends_values rest && not all) && can_be_several v)) (word at n fs v), list_few (taken_behind v n) (left_by v fs) rest all fine.2)

  -- one value is wanted of the last one
  pub list_closed : (n : ℕ) (fs : List (Option Inner)) (vs : Values) → EachFine n fs vs → opens (values_coded at n fs vs false) ≡ false
  list_closed n fs no_values fine = refl
  list_closed n fs (and_value v no_values) fine =
      let one = unless (not (true && can_be_several v)) (word at n fs v) in
      ap is_multiple (coded_is one.words) ∙ closed_unless (can_be_several v) (word at n fs v) fine.1
  list_closed n fs (and_value v (and_value w rest)) fine = list_closed (taken_behind v n) (left_by v fs) (and_value w rest) fine.2

  pub fine_last : (n : ℕ) (fs : List (Option Inner)) (vs : Values) → 1 ≤ deep → EachFine n fs vs → EachFine n fs (and_last_value vs nil_value)
  fine_last n fs no_values some fine = (some, refl, tt)
  fine_last n fs (and_value v rest) some fine = (fine.0, fine.1, fine_last (taken_behind v n) (left_by v fs) rest some fine.2)

  pub fine_front : (n : ℕ) (fs : List (Option Inner)) (vs : Values) → EachFine n fs (and_last_value vs nil_value) → EachFine n fs vs
  fine_front n fs no_values fine = tt
  fine_front n fs (and_value v rest) fine = (fine.0, fine.1, fine_front (taken_behind v n) (left_by v fs) rest fine.2)

pub cores_fine : (f : Function) (g : Fn) (active : List Active) (listed : List ℕ) (z : Maker) (lefts : ℕ → List (Option Inner)) (deep : ℕ) (es : Expressions) (before behind : ℕ) (vs : Values) →
    depth_of_expressions es ≤ deep → AllRewritten f g active listed z lefts es → AreCores g active es before behind vs → (n : ℕ) → EachFine (place f.of listed f.short) (3 * deep + 202) n (lefts before) vs
cores_fine f g active listed z lefts deep no_expressions before behind vs shallow written are n = subst (EachFine (place f.of listed f.short) (3 * deep + 202) n (lefts before)) (sym are.1) tt
cores_fine f g active listed z lefts deep (syntax.expression e es) before behind vs shallow written (mid, (v, rest, core, are, is)) n =
    let at = place f.of listed f.short in
    let one = written.0 before mid v core in
    subst (EachFine at (3 * deep + 202) n (lefts before)) (sym is) (
      omega (arith, one.few n, shallow),
      one.several n,
      subst (λ fs. EachFine at (3 * deep + 202) (taken_behind v n) fs rest) (sym one.leaves) (cores_fine f g active listed z lefts deep es mid behind rest (omega (arith, shallow)) written.1 are (taken_behind v n)),
    )

pub cores_few : (f : Function) (g : Fn) (active : List Active) (listed : List ℕ) (z : Maker) (lefts : ℕ → List (Option Inner)) (es : Expressions) (before behind : ℕ) (vs : Values) (all : Bool) →
    AllRewritten f g active listed z lefts es → AreCores g active es before behind vs → (n : ℕ) → (word_values (place f.of listed f.short) n (lefts before) vs all).levels ≤ 3 * depth_of_expressions es + 203
cores_few f g active listed z lefts es before behind vs all written are n =
    let deep = depth_of_expressions es in
    omega (arith, list_few (place f.of listed f.short) (3 * deep + 202) n (lefts before) vs all (cores_fine f g active listed z lefts deep es before behind vs (omega arith) written are n))

-- where all values of the last one are wanted, no parentheses stand there
pub stays_bare : (a b : Bool) → not ((a && false) && b) ≡ true
stays_bare true b = refl
stays_bare false b = refl

-- ---- one more behind them

both_then : (a b c : Bool) → (a && (b && c)) ≡ ((a && b) && c)
both_then true b c = refl
both_then false b c = refl

pub left_end : (front : Values) (v : Value) (fs : List (Option Inner)) → left_by_values (and_last_value front v) fs ≡ left_by v (left_by_values front fs)
left_end no_values v fs = refl
left_end (and_value u rest) v fs = left_end rest v (left_by u fs)

-- a nil uses no function
pub left_last : (vs : Values) (fs : List (Option Inner)) → left_by_values (and_last_value vs nil_value) fs ≡ left_by_values vs fs
left_last vs fs = left_end vs nil_value fs

module _ (at : Place) where
  pub can_end : (fs : List (Option Inner)) (front : Values) (v : Value) → can_write_values at fs (and_last_value front v) ≡ (can_write_values at fs front && can_write at (left_by_values front fs) v)
  can_end fs no_values v = and-true (can_write at fs v)
  can_end fs (and_value u rest) v = ap (λ can. can_write at fs u && can) (can_end (left_by u fs) rest v) ∙ both_then (can_write at fs u) _ _

  -- a nil can be written
  pub can_last : (fs : List (Option Inner)) (vs : Values) → can_write_values at fs (and_last_value vs nil_value) ≡ can_write_values at fs vs
  can_last fs vs = can_end fs vs nil_value ∙ and-true (can_write_values at fs vs)

  -- each goes to the next register, in parentheses or not
  pub nil_next : (n : ℕ) (fs : List (Option Inner)) (vs : Values) (all : Bool) (m : Maker) → all_next (values_coded at n fs (and_last_value vs nil_value) all) m ≡ next_reg (coded (nil_literal 1)) (all_next (values_coded at n fs vs all) m)
  nil_next n fs no_values all m = next_wrapped (not (not all && false)) (single_word (nil_literal 1)) m
  nil_next n fs (and_value v rest) all m =
      let w = word at n fs v in
      let behind = values_coded at (taken_behind v n) (left_by v fs) rest all in
      let bare = not ((ends_values rest && not all) && can_be_several v) in
      nil_next (taken_behind v n) (left_by v fs) rest all _
      ∙ ap (λ m. next_reg (coded (nil_literal 1)) (all_next behind m)) (next_wrapped _ w m ∙ sym (next_wrapped bare w m))

-- ---- the code

-- what is known between the first one and the others
module _ {g : Fn} {active : List Active} {before : ℕ} (e : Expression) (es : Expressions) (has : AllHaveCores (syntax.expression e es)) (m : Maker) (ahead : IsAhead g active before (mentions_in e ++ mentions_in_all es) m) where
  pub first_ahead : IsAhead g active before (mentions_in e) m
  first_ahead = ahead_front (mentions_in e) (mentions_in_all es) ahead

  pub others_ahead : {mid : ℕ} → mid ≡ made_behind (mentions_in e) before → IsAhead g active mid (mentions_in_all es) (next_reg (code e) m)
  others_ahead counts = ahead_behind (mentions_in e) (mentions_in_all es) counts (next_passes (mentions_in e) (code e) (mentions_passed e has.0) m) ahead

module _ {z : Maker} (e : Expression) (es : Expressions) (m : Maker) where
  first_next : Final (length m.labels) (all_next (codes_of es) (next_reg (code e) m)) z → Final (length m.labels) (next_reg (code e) m) z
  first_next final = before_part (grows_all {v = calm} (codes_of es) (grow_all calm (one_line_expressions es)) (next_reg (code e) m)) final

  first_multi : (op : Op) (want : Want) → Final (length m.labels) (all_multi op want (codes_of es) (next_reg (code e) m)) z → Final (length m.labels) (next_reg (code e) m) z
  first_multi op want final = before_part (grows_multi {v = calm} op want (codes_of es) (grow_all calm (one_line_expressions es)) (next_reg (code e) m)) final

  pub others_final : {n : Maker} → Final (length m.labels) n z → Final (length (next_reg (code e) m).labels) n z
  others_final final = let grown = grows_next {v = calm} (code e) (grows calm (one_line_expression e)) m in later grown.more final

module _ (f : Function) (g : Fn) (active : List Active) (listed : List ℕ) (z : Maker) (lefts : ℕ → List (Option Inner)) where
  -- each goes to the next register, whether the last one could give all its values or not
  pub next_all : (es : Expressions) (before behind : ℕ) (vs : Values) (all : Bool) → AllHaveCores es → AllRewritten f g active listed z lefts es → AreCores g active es before behind vs →
      (m : Maker) → IsAhead g active before (mentions_in_all es) m → Final (length m.labels) (all_next (codes_of es) m) z →
      all_next (values_coded (place f.of listed f.short) (length m.constants) (lefts before) vs all) m ≡ all_next (codes_of es) m
  next_all no_expressions before behind vs all has written are m ahead final = ap (λ vs. all_next (values_coded (place f.of listed f.short) (length m.constants) (lefts before) vs all) m) are.1
  next_all (syntax.expression e es) before behind vs all has written (between, (v, rest, core, are, is)) m ahead final =
      let at = place f.of listed f.short in
      let first = written.0 before between v core in
      let mid = next_reg (code e) m in
      let here = first_next e es m final in
      ap (λ vs. all_next (values_coded at (length m.constants) (lefts before) vs all) m) is
      ∙ ap (all_next (values_coded at (taken_behind v (length m.constants)) (left_by v (lefts before)) rest all))
      (next_wrapped (not ((ends_values rest && not all) && can_be_several v)) (wording f listed z lefts before (length m.constants) v) m ∙ next_same first m (first_ahead e es has m ahead) here)
      ∙ ap (λ n. all_next (values_coded at n (left_by v (lefts before)) rest all) mid) (sym (next_taken first m (first_ahead e es has m ahead) here))
      ∙ ap (λ fs. all_next (values_coded at (length mid.constants) fs rest all) mid) first.leaves
      ∙ next_all es between behind rest all has.1 written.1 are mid (others_ahead e es has m ahead first.makes) (others_final e es m final)

  pub next_all_taken : (es : Expressions) (before behind : ℕ) (vs : Values) → AllHaveCores es → AllRewritten f g active listed z lefts es → AreCores g active es before behind vs →
      (m : Maker) → IsAhead g active before (mentions_in_all es) m → Final (length m.labels) (all_next (codes_of es) m) z → length (all_next (codes_of es) m).constants ≡ taken_behind_values vs (length m.constants)
  next_all_taken no_expressions before behind vs has written are m ahead final = ap (λ vs. taken_behind_values vs (length m.constants)) (sym are.1)
  next_all_taken (syntax.expression e es) before behind vs has written (between, (v, rest, core, are, is)) m ahead final =
      let first = written.0 before between v core in
      next_all_taken es between behind rest has.1 written.1 are (next_reg (code e) m) (others_ahead e es has m ahead first.makes) (others_final e es m final)
      ∙ ap (taken_behind_values rest) (next_taken first m (first_ahead e es has m ahead) (first_next e es m final))
      ∙ ap (λ vs. taken_behind_values vs (length m.constants)) (sym is)

  -- the last one gives several values, which are wanted
  pub multi_all : (op : Op) (want : Want) (es : Expressions) (before behind : ℕ) (vs : Values) → AllHaveCores es → AllRewritten f g active listed z lefts es → AreCores g active es before behind vs → ends_open es ≡ true →
      (m : Maker) → IsAhead g active before (mentions_in_all es) m → Final (length m.labels) (all_multi op want (codes_of es) m) z →
      all_multi op want (values_coded (place f.of listed f.short) (length m.constants) (lefts before) vs true) m ≡ all_multi op want (codes_of es) m
  multi_all op want no_expressions before behind vs has written are ends m ahead final = not_so ends
  multi_all op want (syntax.expression e no_expressions) before behind vs has written (between, (v, rest, core, are, is)) ends m ahead final =
      ap (λ vs. all_multi op want (values_coded (place f.of listed f.short) (length m.constants) (lefts before) vs true) m) (is ∙ ap (and_value v) are.1)
      ∙ (written.0 before between v core).multi ends op want m (ahead_front (mentions_in e) [] ahead) final
  multi_all op want (syntax.expression e (syntax.expression d es)) before behind vs has written (between, (v, rest, core, are, is)) ends m ahead final =
      let at = place f.of listed f.short in
      let others = syntax.expression d es in
      let first = written.0 before between v core in
      let more = are.1 in
      let mid = next_reg (code e) m in
      let here = first_multi e others m op want final in
      let here_ahead = first_ahead e others has m ahead in
      let rest_is = more.4 in
      ap (λ vs. all_multi op want (values_coded at (length m.constants) (lefts before) vs true) m) (is ∙ ap (and_value v) rest_is)
      ∙ ap (all_multi op want (values_coded at (taken_behind v (length m.constants)) (left_by v (lefts before)) (and_value more.0 more.1) true)) (next_same first m here_ahead here)
      ∙ ap (λ n. all_multi op want (values_coded at n (left_by v (lefts before)) (and_value more.0 more.1) true) mid) (sym (next_taken first m here_ahead here))
      ∙ ap (λ fs. all_multi op want (values_coded at (length mid.constants) fs (and_value more.0 more.1) true) mid) first.leaves
      ∙ ap (λ rest. all_multi op want (values_coded at (length mid.constants) (lefts between) rest true) mid) (sym rest_is)
      ∙ multi_all op want (syntax.expression d es) between behind rest has.1 written.1 are ends mid (others_ahead e others has m ahead first.makes) (others_final e others m final)

  pub multi_all_taken : (op : Op) (want : Want) (es : Expressions) (before behind : ℕ) (vs : Values) → AllHaveCores es → AllRewritten f g active listed z lefts es → AreCores g active es before behind vs → ends_open es ≡ true →
      (m : Maker) → IsAhead g active before (mentions_in_all es) m → Final (length m.labels) (all_multi op want (codes_of es) m) z → length (all_multi op want (codes_of es) m).constants ≡ taken_behind_values vs (length m.constants)
  multi_all_taken op want no_expressions before behind vs has written are ends m ahead final = not_so ends
  multi_all_taken op want (syntax.expression e no_expressions) before behind vs has written (between, (v, rest, core, are, is)) ends m ahead final =
      (written.0 before between v core).multi_taken ends op want m (ahead_front (mentions_in e) [] ahead) final
      ∙ ap (λ vs. taken_behind_values vs (length m.constants)) (sym (is ∙ ap (and_value v) are.1))
  multi_all_taken op want (syntax.expression e (syntax.expression d es)) before behind vs has written (between, (v, rest, core, are, is)) ends m ahead final =
      let others = syntax.expression d es in
      let first = written.0 before between v core in
      multi_all_taken op want (syntax.expression d es) between behind rest has.1 written.1 are ends (next_reg (code e) m) (others_ahead e others has m ahead first.makes) (others_final e others m final)
      ∙ ap (taken_behind_values rest) (next_taken first m (first_ahead e others has m ahead) (first_multi e others m op want final))
      ∙ ap (λ vs. taken_behind_values vs (length m.constants)) (sym is)

  -- ---- the levels, in the forms of fewest levels

  -- where all values of the last one are not wanted, it gives one
  pub next_all_low : (es : Expressions) (before behind : ℕ) (vs : Values) (all : Bool) → AllHaveCores es → AllRewritten f g active listed z lefts es → AreCores g active es before behind vs → (all ≡ false → ends_open es ≡ false) → f.short ≡ true → formed_expressions es ≡ true →
      (m : Maker) → IsAhead g active before (mentions_in_all es) m → Final (length m.labels) (all_next (codes_of es) m) z → (word_values (place f.of listed f.short) (length m.constants) (lefts before) vs all).levels ≤ space_of_expressions es
  next_all_low no_expressions before behind vs all has written are closed short formed m ahead final = omega (arith, ap (λ vs. (word_values (place f.of listed f.short) (length m.constants) (lefts before) vs all).levels) are.1)
  next_all_low (syntax.expression e no_expressions) before behind vs all has written (between, (v, rest, core, are, is)) closed short formed m ahead final = by all closed
    where
      n : ℕ
      n = length m.constants

      low : HasRoom f listed z lefts before n e v
      low = next_low (written.0 before between v core) short (first_of_both _ _ formed) m (first_ahead e no_expressions has m ahead) (first_next e no_expressions m final)

      by : (all : Bool) → (all ≡ false → is_multiple e ≡ false) → (word_values (place f.of listed f.short) n (lefts before) vs all).levels ≤ space_of_expressions (syntax.expression e no_expressions)
      by true closed =
          let words = ap (λ vs. (word_values (place f.of listed f.short) n (lefts before) vs true).levels) (is ∙ ap (and_value v) are.1) in
          omega (arith, words, levels_in (is_bare (place f.of listed f.short) n v) e (wording f listed z lefts before n v) low)
      by false closed =
          let words = ap (λ vs. (word_values (place f.of listed f.short) n (lefts before) vs false).levels) (is ∙ ap (and_value v) are.1) in
          omega (arith, words, closed_in (is_bare (place f.of listed f.short) n v) e (wording f listed z lefts before n v) (can_be_several v) low ((written.0 before between v core).several n) (closed refl))
  next_all_low (syntax.expression e (syntax.expression d es)) before behind vs all has written (between, (v, rest, core, are, is)) closed short formed m ahead final =
      let at = place f.of listed f.short in
      let others = syntax.expression d es in
      let first = written.0 before between v core in
      let more = are.1 in
      let mid = next_reg (code e) m in
      let here = first_next e others m final in
      let here_ahead = first_ahead e others has m ahead in
      let n = length m.constants in
      let words = ap (λ vs. (word_values at n (lefts before) vs all).levels) (is ∙ ap (and_value v) more.4) in
      let low = levels_in (is_bare at n v) e (wording f listed z lefts before n v) (next_low first short (first_of_both _ _ formed) m here_ahead here) in
      let rest_low = next_all_low (syntax.expression d es) between behind rest all has.1 written.1 are closed short (second_of_both (formed_expression e) _ formed) mid (others_ahead e others has m ahead first.makes) (others_final e others m final) in
      let taken = ap (λ n. (word_values at n (left_by v (lefts before)) (and_value more.0 more.1) all).levels) (next_taken first m here_ahead here) in
      let left = ap (λ fs. (word_values at (length mid.constants) fs (and_value more.0 more.1) all).levels) first.leaves in
      let same = ap (λ vs. (word_values at (length mid.constants) (lefts between) vs all).levels) more.4 in
      omega (arith, words, low, rest_low, taken, left, same)

  -- all values of the last one are wanted
  pub multi_all_low : (op : Op) (want : Want) (es : Expressions) (before behind : ℕ) (vs : Values) → AllHaveCores es → AllRewritten f g active listed z lefts es → AreCores g active es before behind vs → ends_open es ≡ true → f.short ≡ true → formed_expressions es ≡ true →
      (m : Maker) → IsAhead g active before (mentions_in_all es) m → Final (length m.labels) (all_multi op want (codes_of es) m) z → (word_values (place f.of listed f.short) (length m.constants) (lefts before) vs true).levels ≤ space_of_expressions es
  multi_all_low op want no_expressions before behind vs has written are ends short formed m ahead final = not_so ends
  multi_all_low op want (syntax.expression e no_expressions) before behind vs has written (between, (v, rest, core, are, is)) ends short formed m ahead final =
      let n = length m.constants in
      let words = ap (λ vs. (word_values (place f.of listed f.short) n (lefts before) vs true).levels) (is ∙ ap (and_value v) are.1) in
      let low = (written.0 before between v core).low short (first_of_both _ _ formed) m (ahead_front (mentions_in e) [] ahead) (inr (inr (ends, op, want, final))) in
      omega (arith, words, levels_in (is_bare (place f.of listed f.short) n v) e (wording f listed z lefts before n v) low)
  multi_all_low op want (syntax.expression e (syntax.expression d es)) before behind vs has written (between, (v, rest, core, are, is)) ends short formed m ahead final =
      let at = place f.of listed f.short in
      let others = syntax.expression d es in
      let first = written.0 before between v core in
      let more = are.1 in
      let mid = next_reg (code e) m in
      let here = first_multi e others m op want final in
      let here_ahead = first_ahead e others has m ahead in
      let n = length m.constants in
      let words = ap (λ vs. (word_values at n (lefts before) vs true).levels) (is ∙ ap (and_value v) more.4) in
      let low = levels_in (is_bare at n v) e (wording f listed z lefts before n v) (next_low first short (first_of_both _ _ formed) m here_ahead here) in
      let rest_low = multi_all_low op want (syntax.expression d es) between behind rest has.1 written.1 are ends short (second_of_both (formed_expression e) _ formed) mid (others_ahead e others has m ahead first.makes) (others_final e others m final) in
      let taken = ap (λ n. (word_values at n (left_by v (lefts before)) (and_value more.0 more.1) true).levels) (next_taken first m here_ahead here) in
      let left = ap (λ fs. (word_values at (length mid.constants) fs (and_value more.0 more.1) true).levels) first.leaves in
      let same = ap (λ vs. (word_values at (length mid.constants) (lefts between) vs true).levels) more.4 in
      omega (arith, words, low, rest_low, taken, left, same)
