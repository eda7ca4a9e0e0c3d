-- What is written of the values of the head of a loop makes the same code as its expressions, where a step of 1 may be left out; and takes the constants that the reader counts.
use Rattle.std.proofs.Common.{◌≡◌, ℕ, suc, ◌+◌, ◌*◌, ◌≤◌, Bool, true, false, List, [], ◌∷◌, length, nat_lt, pos, Option, Some, None, refl, sym, ap, ap₂, ◌∙◌, subst, arith}
use Rattle.std.proofs.lemmas.Bool.{eqb-false, eqb-true, ltb-false, ltb-true}
use Rattle.std.specs.Prelude.{◌^◌, ◌-◌, ◌==◌, ℤ, negsuc, slice_get, if◌then◌else◌}
use Rattle.lua_num.specs.Bytes.{Text}
use Rattle.lua_tree.specs.OneLine.{one_line_expression, one_line_expressions}
use Rattle.lua_tree.specs.Syntax as syntax
use Rattle.lua_tree.specs.Syntax.{Expressions, no_expressions, Expression, number_literal}
use Rattle.lua_tree.specs.WellFormed.{depth_of_expressions, formed_expressions, has_expressions}
use Rattle.opcode.specs.declared.op.Op.{Op}
use Rattle.proto.specs.declared.parts.Constant.{Constant}
use Rattle.core_expr.specs.Counting.{left_by, left_by_values, one_more, taken_behind, taken_behind_values}
use Rattle.core_expr.specs.Places.{Place, constant_at, constant_name, field_name, local_name, place, upvalue_name}
use Rattle.core_expr.specs.Values.{Value, Values, and_value, no_values, Inner, OperandList, no_operands, and_operand, nil_value, vararg_value, bool_value, constant_value, local_value, upvalue_value, global_value, index_value, binary_value, unary_value, concat_value, call_value, method_value, table_value, function_value}
use Rattle.core_expr.specs.Writing.{Wording, can_write_values, constant_word, function_left, function_word, name_word, numeral, unless, with_key, word, word_keys, word_operand, word_values}
use Rattle.recover_expr.specs.Declaring.{is_one, without_step_one}
use Rattle.recover_expr.specs.Drafts.{head_part}
use Rattle.recover_expr.specs.Entries.{Listed}
use Rattle.recover_expr.specs.Lists.{value_count}
use Rattle.recover_expr.specs.Placing.{Steps}
use Rattle.recover_expr.specs.Situation.{Function}
use Rattle.recover_expr.specs.declared.steps.StepKind.{StepKind}
use Rattle.scheme.specs.Expressions.{next_reg}
use Rattle.scheme.specs.Lists.{adjust, all_next}
use Rattle.scheme.specs.Making.{Got, Maker, Part, activate, declare, jump_to, put, take_registers, used}
use Rattle.scheme.specs.Scheme.{all_coded, coded}
use Rattle.scheme.specs.Statements.{generic_names, numeric_names, step_part}
use Rattle.scheme.specs.declared.making.Active.{Active}
use Rattle.scheme.specs.declared.making.Local.{Local}
use Rattle.scheme.specs.declared.making.Piece.{Piece}
use Rattle.scheme_stands.proofs.Growth.{Final, before as before_part, before_put, before_take, before_used, calm, later}
use Rattle.scheme_stands.proofs.Lines.{grows_activate, grows_declare}
use Rattle.scheme_stands.proofs.Parts.{grows, grows_next}
use Rattle.scheme_stands.specs.Words.{Fn}
use Rattle.same_flow.specs.Performed.{counted_values, head_made, kind_made}
use Rattle.same_flow.specs.Space.{space_of_expressions}
use Rattle.reads_back.specs.Cores.{AllHaveCores, AreCores, IsCore, ends_open}
use Rattle.reads_back.proofs.ActsRewritten.{AllWritten, each_written}
use Rattle.reads_back.proofs.DeclaredSame.{Adjusts, activate_constants, closed_written, declare_constants, more_written, nil_written, open_listed}
use Rattle.reads_back.proofs.Deeper.{some_depth}
use Rattle.reads_back.proofs.GivenSame.{AllRewritten, list_rewritten}
use Rattle.reads_back.proofs.HeadValues.{IsHeaded, counted_list, head_wording, headed_by, headed_values, three_of}
use Rattle.reads_back.proofs.HeadsRead.{CanHead}
use Rattle.reads_back.proofs.ListsSame.{codes_of, cores_count, cores_few, list_few, next_all, next_all_low, next_all_taken, values_coded}
use Rattle.reads_back.proofs.Mentions.{IsAhead, Mention, ahead_behind, locals_mention, made_behind, mentions_in_all, declare_passes}
use Rattle.reads_back.proofs.Rewriting.{IsMadeBy, code}
use Rattle.reads_back.proofs.Rooms.{some_room}
use Rattle.reads_back.proofs.Tests.{not_so}
use Rattle.reads_back.proofs.WordsRead.{IsFunction}

-- ---- a numeral that is written stands on line 1

abbrev OnLine : Expression → Type 0
OnLine (number_literal line n) = line ≡ 1
OnLine e = Unit {0}

either_line : (one : Bool) (v w : Wording) → OnLine v.words → OnLine w.words → OnLine (if one then v else w).words
either_line true v w first other = first
either_line false v w first other = other

unless_line : (bare : Bool) (w : Wording) → OnLine w.words → OnLine (unless bare w).words
unless_line true w on = on
unless_line false w on = tt

name_line : (name : Option Text) → OnLine (name_word name).words
name_line None = tt
name_line (Some name) = tt

numeral_line : (n : ℤ) → OnLine (numeral n).words
numeral_line (pos n) = refl
numeral_line (negsuc n) = either_line (n == 2 ^ 63 - 1) _ _ tt tt

constant_line : (constant : Option Constant) → OnLine (constant_word constant).words
constant_line None = tt
constant_line (Some Constant.Nil) = tt
constant_line (Some (Constant.Bool true)) = tt
constant_line (Some (Constant.Bool false)) = tt
constant_line (Some (Constant.Number n)) = numeral_line n
constant_line (Some (Constant.Text text)) = tt

function_line : (found : Option Inner) → OnLine (function_word found).words
function_line None = tt
function_line (Some found) = tt

key_line : (name : Option Text) (on key : Wording) → OnLine (with_key name on key).words
key_line None on key = tt
key_line (Some name) on key = tt

module _ (at : Place) where
  keys_line : (keys : OperandList) (n : ℕ) (fs : List (Option Inner)) (on : Wording) → OnLine on.words → OnLine (word_keys at n fs on keys).words
  keys_line no_operands n fs on line = line
  keys_line (and_operand key rest) n fs on line = keys_line rest _ _ (with_key (field_name at key) on (word_operand at n fs key)) (key_line (field_name at key) on (word_operand at n fs key))

  value_line : (v : Value) (n : ℕ) (fs : List (Option Inner)) → OnLine (word at n fs v).words
  value_line nil_value n fs = tt
  value_line vararg_value n fs = tt
  value_line (bool_value true) n fs = tt
  value_line (bool_value false) n fs = tt
  value_line (constant_value k) n fs = constant_line (constant_at at k)
  value_line (local_value r) n fs = name_line (local_name at r)
  value_line (upvalue_value slot) n fs = name_line (upvalue_name at slot)
  value_line (global_value k) n fs = name_line (constant_name at k)
  value_line (index_value on keys depth) n fs = keys_line keys _ _ _ (unless_line _ (word at n fs on) (value_line on n fs))
  value_line (binary_value op left right depth) n fs = tt
  value_line (unary_value op of depth) n fs = tt
  value_line (concat_value no_values depth) n fs = tt
  value_line (concat_value (and_value v no_values) depth) n fs = unless_line _ (word at n fs v) (value_line v n fs)
  value_line (concat_value (and_value v (and_value w rest)) depth) n fs = tt
  value_line (call_value on args all depth) n fs = tt
  value_line (method_value on name args all depth) n fs = tt
  value_line (table_value items all depth) n fs = tt
  value_line (function_value number itself) n fs = function_line (function_left fs number)

-- ---- a step of 1 that is left out

-- it is made all the same
one_made : (e : Expression) → OnLine e → is_one e ≡ true → (m : Maker) → step_part 1 None m ≡ next_reg (coded e) m
one_made (number_literal line (pos n)) on is m =
    let same : n ≡ 1 = eqb-true n 1 is in
    ap₂ (λ (line n : ℕ). next_reg (coded (number_literal line (pos n))) m) (sym on) (sym same)
one_made (number_literal line (negsuc n)) on is m = not_so is
one_made e on is m = not_so is

last_made : (first last by : Expression) → OnLine by → (m : Maker) → counted_values (without_step_one (three_of first last by)) m ≡ next_reg (coded by) (next_reg (coded last) (next_reg (coded first) m))
last_made first last by on m = left_out (is_one by) refl
  where
    left_out : (one : Bool) → is_one by ≡ one → counted_values (syntax.expression first (syntax.expression last (if one then no_expressions else syntax.expression by no_expressions))) m ≡ next_reg (coded by) (next_reg (coded last) (next_reg (coded first) m))
    left_out true is = one_made by on is (next_reg (coded last) (next_reg (coded first) m))
    left_out false is = refl

-- what is written makes the three values one behind the other
written_made : (at : Place) (n : ℕ) (fs : List (Option Inner)) (vs : Values) → value_count vs ≡ 3 → (m : Maker) → counted_values (without_step_one (word_values at n fs vs true).words) m ≡ all_next (values_coded at n fs vs true) m
written_made at n fs (and_value a (and_value b (and_value c no_values))) three m =
    last_made (word at n fs a).words (word at (taken_behind a n) (left_by a fs) b).words (word at (taken_behind b (taken_behind a n)) (left_by b (left_by a fs)) c).words
    (value_line at c (taken_behind b (taken_behind a n)) (left_by b (left_by a fs))) m
written_made at n fs no_values three m = absurd (omega (arith, three))
written_made at n fs (and_value a no_values) three m = absurd (omega (arith, three))
written_made at n fs (and_value a (and_value b no_values)) three m = absurd (omega (arith, three))
written_made at n fs (and_value a (and_value b (and_value c (and_value d rest)))) three m = absurd (omega (arith, three))

-- two values and a step, or none
abbrev pub AreCounted : Expressions → Type 0
AreCounted (syntax.expression first (syntax.expression last no_expressions)) = Unit {0}
AreCounted (syntax.expression first (syntax.expression last (syntax.expression by no_expressions))) = Unit {0}
AreCounted es = ⊥

-- and so does the source
source_made : (es : Expressions) → AreCounted es → (m : Maker) → counted_values (one_line_expressions es) m ≡ all_next (codes_of (counted_list es)) m
source_made (syntax.expression first (syntax.expression last no_expressions)) counted m = one_made (number_literal 1 (pos 1)) refl refl (next_reg (coded (one_line_expression last)) (next_reg (coded (one_line_expression first)) m))
source_made (syntax.expression first (syntax.expression last (syntax.expression by no_expressions))) counted m = refl
source_made (syntax.expression first (syntax.expression last (syntax.expression by (syntax.expression more rest)))) counted m = absurd counted
source_made (syntax.expression first no_expressions) counted m = absurd counted
source_made no_expressions counted m = absurd counted

pub counted_three : (es : Expressions) → AreCounted es → length (codes_of (counted_list es)) ≡ 3
counted_three (syntax.expression first (syntax.expression last no_expressions)) counted = refl
counted_three (syntax.expression first (syntax.expression last (syntax.expression by no_expressions))) counted = refl
counted_three (syntax.expression first (syntax.expression last (syntax.expression by (syntax.expression more rest)))) counted = absurd counted
counted_three (syntax.expression first no_expressions) counted = absurd counted
counted_three no_expressions counted = absurd counted

pub counted_depth : (es : Expressions) → AreCounted es → depth_of_expressions (counted_list es) ≤ depth_of_expressions es
counted_depth (syntax.expression first (syntax.expression last no_expressions)) counted = omega (arith, some_depth first)
counted_depth (syntax.expression first (syntax.expression last (syntax.expression by no_expressions))) counted = omega arith
counted_depth (syntax.expression first (syntax.expression last (syntax.expression by (syntax.expression more rest)))) counted = absurd counted
counted_depth (syntax.expression first no_expressions) counted = absurd counted
counted_depth no_expressions counted = absurd counted

pub counted_cores : (es : Expressions) → AreCounted es → AllHaveCores es → AllHaveCores (counted_list es)
counted_cores (syntax.expression first (syntax.expression last no_expressions)) counted has = (has.0, (has.1.0, (refl, tt)))
counted_cores (syntax.expression first (syntax.expression last (syntax.expression by no_expressions))) counted has = has
counted_cores (syntax.expression first (syntax.expression last (syntax.expression by (syntax.expression more rest)))) counted has = absurd counted
counted_cores (syntax.expression first no_expressions) counted has = absurd counted
counted_cores no_expressions counted has = absurd counted

-- ---- what is known of a head that is written

-- what it mentions
abbrev pub mentions_of_head : (numeric : Bool) → Expressions → List Mention
mentions_of_head true es = mentions_in_all (counted_list es)
mentions_of_head false es = mentions_in_all es

-- what its values make
abbrev values_made : (numeric : Bool) → Expressions → Part
values_made true es = counted_values es
values_made false es = adjust 1 (all_coded es) 3

-- the values that a head may have
abbrev pub AreOfHead : (numeric : Bool) → Expressions → Type 0
AreOfHead true es = AreCounted es
AreOfHead false es = has_expressions es ≡ true

-- what is written of its values makes the same as they do on one line
pub record RewrittenHead (f : Function) (g : Fn) (active : List Active) (listed : List ℕ) (z : Maker) (lefts : ℕ → List (Option Inner)) (before behind : ℕ) (numeric : Bool) (es : Expressions) (headed : Listed) : Type 0 where
  pub can : can_write_values (place f.of listed f.short) (lefts before) headed.values ≡ true
  pub leaves : left_by_values headed.values (lefts before) ≡ lefts behind
  pub makes : behind ≡ made_behind (mentions_of_head numeric es) before
  pub few : (n : ℕ) → (head_wording numeric (place f.of listed f.short) n (lefts before) headed).levels ≤ 3 * depth_of_expressions es + 203
  pub low : f.short ≡ true → formed_expressions es ≡ true → (m : Maker) → IsAhead g active before (mentions_of_head numeric es) m → Final (length m.labels) (values_made numeric (one_line_expressions es) m) z →
      (head_wording numeric (place f.of listed f.short) (length m.constants) (lefts before) headed).levels ≤ space_of_expressions es
  pub same : (m : Maker) → IsAhead g active before (mentions_of_head numeric es) m → Final (length m.labels) (values_made numeric (one_line_expressions es) m) z →
      values_made numeric (head_wording numeric (place f.of listed f.short) (length m.constants) (lefts before) headed).words m ≡ values_made numeric (one_line_expressions es) m
  pub taken : (m : Maker) → IsAhead g active before (mentions_of_head numeric es) m → Final (length m.labels) (values_made numeric (one_line_expressions es) m) z → length (values_made numeric (one_line_expressions es) m).constants ≡ taken_behind_values headed.values (length m.constants)

-- ---- a loop over numbers

module _ (f : Function) (g : Fn) (active : List Active) (listed : List ℕ) (z : Maker) (lefts : ℕ → List (Option Inner)) (is_function : IsFunction f g) (before behind : ℕ) (vs : Values) where
  abbrev at_place : Place
  at_place = place f.of listed f.short

  -- a step that is not said needs one level
  step_low : (n made_before made_behind : ℕ) (fs : List (Option Inner)) (v : Value) → IsCore g active (number_literal 1 (pos 1)) made_before made_behind v → (word at_place n fs v).levels ≤ 1
  step_low n made_before made_behind fs v (as_many, (number, has, is)) =
      let there : slice_get f.of.constants number ≡ Some (Constant.Number (pos 1)) = ap (λ (constants : List Constant). slice_get constants number) is_function.constants ∙ has.is in
      let one = ap (λ v. (word at_place n fs v).levels) is ∙ ap (λ (constant : Option Constant). (constant_word constant).levels) there in
      omega (arith, one)

  counted_low : (es : Expressions) → AreCounted es → AllHaveCores (counted_list es) → AllRewritten f g active listed z lefts (counted_list es) → AreCores g active (counted_list es) before behind vs → f.short ≡ true → formed_expressions es ≡ true →
      (m : Maker) → IsAhead g active before (mentions_in_all (counted_list es)) m → Final (length m.labels) (all_next (codes_of (counted_list es)) m) z → (word_values at_place (length m.constants) (lefts before) vs true).levels ≤ space_of_expressions es
  counted_low (syntax.expression first (syntax.expression last no_expressions)) counted has written (mid, (a, rest, core, (mid_two, (b, rest_two, core_two, (mid_three, (c, rest_three, core_three, (none_made, none), is_three)), is_two)), is)) short formed m ahead final =
      let n = length m.constants in
      let fs = lefts before in
      let n_three = taken_behind b (taken_behind a n) in
      let fs_three = left_by b (left_by a fs) in
      let two = syntax.expression first (syntax.expression last no_expressions) in
      let one : Expression = number_literal 1 (pos 1) in
      let front = and_value a (and_value b no_values) in
      let are : AreCores g active two before mid_two front = (mid, (a, and_value b no_values, core, (mid_two, (b, no_values, core_two, (refl, refl), refl)), refl)) in
      let here = before_part (grows_next {v = calm} (code one) (grows calm (one_line_expression one)) (all_next (codes_of two) m)) final in
      let low = next_all_low f g active listed z lefts two before mid_two front true (has.0, (has.1.0, tt)) (written.0, (written.1.0, tt)) are (λ is. cc) short formed m ahead here in
      let whole = ap (λ vs. (word_values at_place n fs vs true).levels) (is ∙ ap (and_value a) (is_two ∙ ap (and_value b) (is_three ∙ ap (and_value c) none))) in
      omega (arith, low, whole, step_low n_three mid_two mid_three fs_three c core_three, some_room first)
  counted_low (syntax.expression first (syntax.expression last (syntax.expression by no_expressions))) counted has written are short formed m ahead final =
      next_all_low f g active listed z lefts (three_of first last by) before behind vs true has written are (λ is. cc) short formed m ahead final
  counted_low (syntax.expression first (syntax.expression last (syntax.expression by (syntax.expression more rest)))) counted has written are short formed m ahead final = absurd counted
  counted_low (syntax.expression first no_expressions) counted has written are short formed m ahead final = absurd counted
  counted_low no_expressions counted has written are short formed m ahead final = absurd counted

module _ {f : Function} {g : Fn} {active : List Active} {listed : List ℕ} {z : Maker} (lefts : ℕ → List (Option Inner)) (made : IsMadeBy f g active listed z) (es : Expressions) (before behind : ℕ) where
  numeric_rewritten : AreCounted es → AllHaveCores (counted_list es) → AllRewritten f g active listed z lefts (counted_list es) → (vs : Values) → AreCores g active (counted_list es) before behind vs →
      RewrittenHead f g active listed z lefts before behind true es (record { values = vs; all = true })
  numeric_rewritten counted has written vs are =
      let list = counted_list es in
      let given = list_rewritten lefts made list before behind vs (ends_open list) has written are refl in
      let three : value_count vs ≡ 3 = sym (cores_count g active list before behind vs are) ∙ counted_three es counted in
      record {
        can = given.can;
        leaves = given.leaves;
        makes = given.makes;
        few = λ n. omega (arith, cores_few f g active listed z lefts list before behind vs true written are n, counted_depth es counted);
        low = λ short formed m ahead final. counted_low f g active listed z lefts made.is_function before behind vs es counted has written are short formed m ahead (subst (λ (n : Maker). Final (length m.labels) n z) (source_made es counted m) final);
        same = λ m ahead final.
            written_made (place f.of listed f.short) (length m.constants) (lefts before) vs three m
            ∙ next_all f g active listed z lefts list before behind vs true has written are m ahead (subst (λ (n : Maker). Final (length m.labels) n z) (source_made es counted m) final)
            ∙ sym (source_made es counted m);
        taken = λ m ahead final.
            ap (λ (n : Maker). length n.constants) (source_made es counted m)
            ∙ next_all_taken f g active listed z lefts list before behind vs has written are m ahead (subst (λ (n : Maker). Final (length m.labels) n z) (source_made es counted m) final);
      }

  -- ---- any other loop

  module _ (has : AllHaveCores es) (written : AllRewritten f g active listed z lefts es) (from : Values) (are : AreCores g active es before behind from) where
    abbrev Adjusted : Listed → Type 0
    Adjusted list = Adjusts f g active listed z lefts before behind 3 es list.values list.all

    closed_head : ends_open es ≡ false → (missing_some : Bool) → nat_lt (suc (value_count from)) 3 ≡ missing_some → (missing_one : Bool) → (suc (value_count from) == 3) ≡ missing_one → Adjusted (headed_by missing_some missing_one from)
    closed_head is true some missing_one one = let fewer = ltb-true _ _ some in closed_written lefts made 3 es before behind from has written are (omega (arith, fewer)) is
    closed_head is false some true one = let exact = eqb-true _ _ one in nil_written lefts made 3 es before behind from has written are (omega (arith, exact)) is exact
    closed_head is false some false one =
        let low = ltb-false _ _ some in
        let other = eqb-false _ _ one in
        more_written lefts made 3 es before behind from has written are (omega (arith, low, other))

    head_listed : (is_open : Bool) → ends_open es ≡ is_open → Adjusted (headed_values is_open from)
    head_listed true is = open_listed lefts made 3 es before behind from has written are is _ refl
    head_listed false is = closed_head is _ refl _ refl

  generic_rewritten : has_expressions es ≡ true → AllHaveCores es → AllRewritten f g active listed z lefts es → (headed : Listed) → IsHeaded g active false es before behind headed → RewrittenHead f g active listed z lefts before behind false es headed
  generic_rewritten some has written headed (from, are, is) =
      let adjusts = subst (Adjusted has written from are) is (head_listed has written from are (ends_open es) refl) in
      record {
        can = adjusts.can;
        leaves = adjusts.leaves;
        makes = adjusts.makes;
        few = λ n. omega (arith, list_few (place f.of listed f.short) (3 * depth_of_expressions es + 202) n (lefts before) headed.values headed.all (adjusts.fine n));
        low = λ short formed m ahead final. adjusts.low (λ none. not_so (sym (ap has_expressions none) ∙ some)) short formed m ahead final;
        same = adjusts.same;
        taken = adjusts.taken;
      }

-- ---- every head

module _ {f : Function} {g : Fn} {active : List Active} {listed : List ℕ} {z : Maker} (lefts : ℕ → List (Option Inner)) (made : IsMadeBy f g active listed z) where
  pub head_rewritten : (deep : ℕ) (numeric : Bool) (es : Expressions) (before behind : ℕ) (headed : Listed) → AllWritten f g active listed z lefts deep → depth_of_expressions es ≤ deep → AllHaveCores es → AreOfHead numeric es → IsHeaded g active numeric es before behind headed →
      RewrittenHead f g active listed z lefts before behind numeric es headed
  head_rewritten deep true es before behind headed all shallow has counted (are, every) =
      let has_list = counted_cores es counted has in
      subst (λ (all : Bool). RewrittenHead f g active listed z lefts before behind true es (record { values = headed.values; all = all })) (sym every)
      (numeric_rewritten lefts made es before behind counted has_list (each_written deep (counted_list es) all has_list (omega (arith, shallow, counted_depth es counted))) headed.values are)
  head_rewritten deep false es before behind headed all shallow has some is = generic_rewritten lefts made es before behind some has (each_written deep es all has shallow) headed is

  -- its values can be written
  pub head_can_be_written : (deep : ℕ) (numeric : Bool) (es : Expressions) → AllWritten f g active listed z lefts deep → depth_of_expressions es ≤ deep → AllHaveCores es → AreOfHead numeric es → CanHead f g active listed lefts numeric es
  head_can_be_written deep numeric es all shallow has are = record { can = λ before behind headed is. let written = head_rewritten deep numeric es before behind headed all shallow has are is in written.can }

-- ---- the step of a head

-- behind its values the locals become active
abbrev behind_values : (numeric : Bool) → (foot base : ℕ) → List Local → Part
behind_values true foot base variables m = take_registers (length variables) (activate variables (put 1 (Piece.Jump Op.ForPrep base foot) (activate numeric_names m)))
behind_values false foot base variables m = take_registers (length variables) (activate variables (used (base + 6) (jump_to 1 foot (activate generic_names m))))

head_is : (numeric : Bool) (foot : ℕ) (es : Expressions) (names : List Text) (m : Maker) → let named = declare names m in head_made numeric foot (head_part es names) m ≡ behind_values numeric foot named.after.free named.value (values_made numeric es named.after)
head_is true foot es names m = refl
head_is false foot es names m = refl

behind_constants : (numeric : Bool) (foot base : ℕ) (variables : List Local) (m : Maker) → (behind_values numeric foot base variables m).constants ≡ m.constants
behind_constants true foot base variables m = activate_constants variables (put 1 (Piece.Jump Op.ForPrep base foot) (activate numeric_names m)) ∙ activate_constants numeric_names m
behind_constants false foot base variables m = activate_constants variables (used (base + 6) (jump_to 1 foot (activate generic_names m))) ∙ activate_constants generic_names m

before_values : {k : ℕ} {z : Maker} (numeric : Bool) (foot base : ℕ) (variables : List Local) (m : Maker) → Final k (behind_values numeric foot base variables m) z → Final k m z
before_values true foot base variables m final =
    let prepared = put 1 (Piece.Jump Op.ForPrep base foot) (activate numeric_names m) in
    let jumped = before_part (grows_activate variables prepared) (before_take (length variables) (activate variables prepared) final) in
    before_part (grows_activate numeric_names m) (before_put 1 (Piece.Jump Op.ForPrep base foot) (activate numeric_names m) jumped)
before_values false foot base variables m final =
    let jumped = jump_to 1 foot (activate generic_names m) in
    let counted = used (base + 6) jumped in
    let here = before_used (base + 6) jumped (before_part (grows_activate variables counted) (before_take (length variables) (activate variables counted) final)) in
    before_part (grows_activate generic_names m) (before_put 1 (Piece.Jump Op.Jmp 0 foot) (activate generic_names m) here)

-- what it mentions, with its variables
abbrev pub mentions_of_loop : (numeric : Bool) → Expressions → List Text → List Mention
mentions_of_loop numeric es names = locals_mention names ∷ mentions_of_head numeric es

module _ {f : Function} {g : Fn} {active : List Active} {listed : List ℕ} {z : Maker} {lefts : ℕ → List (Option Inner)} {before behind : ℕ} {numeric : Bool} {es : Expressions} {headed : Listed} (written : RewrittenHead f g active listed z lefts before behind numeric es headed)
    (code : Steps) (foot end variables_end : ℕ) (captured : Bool) (names : List Text) (m : Maker) (ahead : IsAhead g active before (mentions_of_loop numeric es names) m) where
  abbrev kind : StepKind
  kind = StepKind.Head numeric foot end variables_end captured

  abbrev part : Part
  part = kind_made code kind (head_part (one_line_expressions es) names)

  abbrev named : Got (List Local)
  named = declare names m

  module _ (final : Final (length m.labels) (part m) z) where
    values_ahead : IsAhead g active before (mentions_of_head numeric es) named.after
    values_ahead = ahead_behind (locals_mention names ∷ []) (mentions_of_head numeric es) refl (declare_passes names m) ahead

    values_final : Final (length named.after.labels) (values_made numeric (one_line_expressions es) named.after) z
    values_final =
        let grown = grows_declare calm names m in
        let whole = subst (λ (n : Maker). Final (length m.labels) n z) (head_is numeric foot (one_line_expressions es) names m) final in
        later grown.more (before_values numeric foot named.after.free named.value (values_made numeric (one_line_expressions es) named.after) whole)

    -- with what is written of its values it makes the same
    pub head_same : kind_made code kind (head_part (head_wording numeric (place f.of listed f.short) (length m.constants) (lefts before) headed).words names) m ≡ part m
    head_same =
        head_is numeric foot (head_wording numeric (place f.of listed f.short) (length m.constants) (lefts before) headed).words names m
        ∙ ap (λ (constants : List Constant). behind_values numeric foot named.after.free named.value (values_made numeric (head_wording numeric (place f.of listed f.short) (length constants) (lefts before) headed).words named.after)) (sym (declare_constants names m))
        ∙ ap (behind_values numeric foot named.after.free named.value) (written.same named.after values_ahead values_final)
        ∙ sym (head_is numeric foot (one_line_expressions es) names m)

    -- it takes as many constants
    pub head_taken : length (part m).constants ≡ taken_behind_values headed.values (length m.constants)
    head_taken =
        ap (λ (n : Maker). length n.constants) (head_is numeric foot (one_line_expressions es) names m)
        ∙ ap length (behind_constants numeric foot named.after.free named.value (values_made numeric (one_line_expressions es) named.after))
        ∙ written.taken named.after values_ahead values_final
        ∙ ap (λ (constants : List Constant). taken_behind_values headed.values (length constants)) (declare_constants names m)

    -- in the forms of fewest levels its step needs no more than the expressions have room for, and one more
    pub head_low : f.short ≡ true → formed_expressions es ≡ true → one_more (head_wording numeric (place f.of listed f.short) (length m.constants) (lefts before) headed).levels ≤ suc (space_of_expressions es)
    head_low short formed =
        let low = written.low short formed named.after values_ahead values_final in
        let same = ap (λ (constants : List Constant). (head_wording numeric (place f.of listed f.short) (length constants) (lefts before) headed).levels) (declare_constants names m) in
        omega (arith, low, same)
