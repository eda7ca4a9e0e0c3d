-- What is written of a target, a name or a part of a table, has the same code as the target, and so have all targets of an assignment; and which places they are, also where locals are copied.
use Rattle.std.proofs.Common.{◌≡◌, ℕ, zero, suc, ◌+◌, ◌*◌, ◌≤◌, max, Bool, true, false, cond, List, [], ◌∷◌, ◌++◌, append-nil, length, Option, Some, None, is_some, refl, sym, ap, ap₂, ◌∙◌, subst, arith, inl, inr}
use Rattle.lua_num.specs.Bytes.{Text}
use Rattle.lua_tree.specs.Names.{is_name as is_good_name}
use Rattle.lua_tree.specs.OneLine.{one_line_expression, one_line_expressions}
use Rattle.lua_tree.specs.Syntax as syntax
use Rattle.lua_tree.specs.Syntax.{Expressions, no_expressions, Expression, parenthesized, name_expression, index_expression, field_expression, text_literal}
use Rattle.lua_tree.specs.WellFormed.{depth_of_expression, depth_of_expressions, formed_expression, formed_expressions, is_prefix}
use Rattle.reads_back.proofs.InRoom.{prefix_in}
use Rattle.proto.specs.declared.parts.Constant.{Constant}
use Rattle.core_expr.specs.Counting.{taken_behind, taken_behind_operand, left_by_operand}
use Rattle.core_expr.specs.Places.{Place, constant_at, field_name, place}
use Rattle.core_expr.specs.Targets.{TargetValue, index_target, can_write_target, left_by_target, taken_behind_target, word_target}
use Rattle.core_expr.specs.Values.{Value, global_value, local_value, upvalue_value, OperandValue, value_operand, Inner}
use Rattle.core_expr.specs.Writing.{Wording, as_prefix, can_write_operand, constant_word, is_bare, literal as literal_word, single as single_word, with_key, word_operand}
use Rattle.recover_expr.specs.Situation.{Function}
use Rattle.scheme.specs.Expressions.{Coded, Target, name_target, part_target, is_name, literal, operand, register_of, rk, rk_text}
use Rattle.scheme.specs.Making.{Asks, Got, Maker, Where, answer, in_globals, in_register, in_upvalue, next_name}
use Rattle.scheme.specs.Scheme.{all_coded, coded}
use Rattle.scheme.specs.Statements.{all_targets, clashes, copied, copies, is_among, renamed, with_copy}
use Rattle.scheme.specs.declared.making.Active.{Active}
use Rattle.scheme_stands.proofs.Growth.{Final, Grown, before as before_part, calm, later, on_part, on_put, on_take, start}
use Rattle.scheme_stands.proofs.Parts.{AllGrow, asks_cond, grow_all, grows, grows_operand}
use Rattle.scheme_stands.specs.Words.{Fn, Means}
use Rattle.same_flow.specs.Space.{space_of_expression, space_of_expressions}
use Rattle.reads_back.specs.Acted.{IsVariableTarget, is_part, left_by_targets, taken_behind_targets, words_targets}
use Rattle.reads_back.specs.Cores.{HasCore, IsCore, IsKey, IsOperand, IsOperandBy}
use Rattle.reads_back.proofs.ConstantsSame.{numeral_plain}
use Rattle.reads_back.proofs.Deeper.{some_depth}
use Rattle.reads_back.proofs.IndexSame.{KeySame, IsIndexing, field_indexing, index_indexing, expression_key, key_asks, key_asks_same, key_few, named_key, text_key}
use Rattle.reads_back.proofs.LeavesSame.{next_means, text_rewritten, variable_written}
use Rattle.reads_back.proofs.ListsSame.{codes_of}
use Rattle.reads_back.proofs.LocalOperands.{literal_no_name}
use Rattle.reads_back.proofs.Mentions.{AskingPasses, IsAhead, Passed, ahead_behind, ahead_front, mentions_in, mentions_in_all, passed_none, passed_then, Mention, made_behind, made_both}
use Rattle.reads_back.proofs.OperandsSame.{key_rewritten, operand_rewritten}
use Rattle.reads_back.proofs.PassedMentions.{PassesMentions, mentions_passed, operand_passes, pass_passes}
use Rattle.reads_back.proofs.Rewriting.{IsMadeBy, Rewritten, RewrittenWith, code, operand_wording, wording}
use Rattle.reads_back.proofs.Tests.{both_hold, first_of_both, second_of_both}
use Rattle.reads_back.proofs.WordsSame.{coded_is, levels_wrapped, name_wrapped, operand_low, operand_same, operand_taken, operand_wrapped, same_name}

-- ---- places that values go to

-- the place of a target: what a name means, or a part of a table
abbrev pub IsPlace : Fn → TargetValue → Target → Type 0
IsPlace g t (name_target text w) = IsVariableTarget g text w t
IsPlace g t (part_target on key on_local key_local) = is_part (Some t) ≡ true

abbrev pub ArePlaces : Fn → List TargetValue → List Target → Type 0
ArePlaces g [] [] = Unit {0}
ArePlaces g (t ∷ ts) (to ∷ others) = IsPlace g t to × ArePlaces g ts others
ArePlaces g ts others = ⊥

-- a copy of a local is in another register
copy_place : (b : Bool) (g : Fn) (t : TargetValue) (x copy : ℕ) (to : Target) → IsPlace g t to → IsPlace g t (cond b (renamed x copy to) to)
copy_place true g t x copy (name_target text w) is = is
copy_place true g t x copy (part_target on key on_local key_local) is = is
copy_place false g t x copy to is = is

with_copy_places : (g : Fn) (x copy : ℕ) (ts : List TargetValue) (to : List Target) → ArePlaces g ts to → ArePlaces g ts (with_copy x copy to)
with_copy_places g x copy [] [] are = tt
with_copy_places g x copy (t ∷ ts) (one ∷ others) are = (copy_place (is_among x others) g t x copy one are.0, with_copy_places g x copy ts others are.1)
with_copy_places g x copy ts to are = absurd are

copied_places : (b : Bool) (g : Fn) (x : ℕ) (ts : List TargetValue) (to : List Target) (m : Maker) → ArePlaces g ts to → ArePlaces g ts (cond b (copied 1 x to) (answer to) m).value
copied_places true g x ts to m are = with_copy_places g x m.free ts to are
copied_places false g x ts to m are = are

pub copies_places : (g : Fn) (count : ℕ) (ts : List TargetValue) (to : List Target) (m : Maker) → ArePlaces g ts to → ArePlaces g ts (copies 1 count to m).value
copies_places g zero ts to m are = are
copies_places g (suc x) ts to m are = let earlier = copies 1 x to m in copied_places (clashes x to) g x ts earlier.value earlier.after (copies_places g x ts to m are)

-- copies take registers alone
copied_grow : (b : Bool) (x : ℕ) (to : List Target) (m : Maker) → Grown calm m (cond b (copied 1 x to) (answer to) m).after
copied_grow b x to m = asks_cond b (copied 1 x to) (answer to) m (on_put _ _ (on_take 1 (start m))) (start m)

pub copies_grow : (count : ℕ) (to : List Target) (m : Maker) → Grown calm m (copies 1 count to m).after
copies_grow zero to m = start m
copies_grow (suc x) to m = let earlier = copies 1 x to m in on_part (copied_grow (clashes x to) x earlier.value earlier.after) (copies_grow x to m)

copied_constants : (b : Bool) (x : ℕ) (to : List Target) (m : Maker) → (cond b (copied 1 x to) (answer to) m).after.constants ≡ m.constants
copied_constants true x to m = refl
copied_constants false x to m = refl

pub copies_constants : (count : ℕ) (to : List Target) (m : Maker) → (copies 1 count to m).after.constants ≡ m.constants
copies_constants zero to m = refl
copies_constants (suc x) to m = let earlier = copies 1 x to m in copied_constants (clashes x to) x earlier.value earlier.after ∙ copies_constants x to m

-- ---- whether a key is a name

literal_plain : (k : Constant) → is_name (literal_word k).words ≡ false
literal_plain Constant.Nil = refl
literal_plain (Constant.Bool true) = refl
literal_plain (Constant.Bool false) = refl
literal_plain (Constant.Number n) = numeral_plain n
literal_plain (Constant.Text text) = refl

constant_plain : (k : Option Constant) → is_name (constant_word k).words ≡ false
constant_plain None = refl
constant_plain (Some k) = literal_plain k

module _ {f : Function} {g : Fn} {active : List Active} {listed : List ℕ} {z : Maker} {lefts : ℕ → List (Option Inner)} {before behind : ℕ} where
  -- what is written of an operand is a name where the expression is one
  operand_named : (e : Expression) (o : OperandValue) → IsOperand g active e before behind o → ((v : Value) → IsCore g active e before behind v → Rewritten f g active listed z lefts before behind e v) → (n : ℕ) → is_name (operand_wording f listed z lefts before n o).words ≡ is_name e
  operand_named e o is written n = by (literal e) refl is
    where
      value_named : (v : Value) → IsCore g active e before behind v → o ≡ value_operand v → is_name (operand_wording f listed z lefts before n o).words ≡ is_name e
      value_named v core same = ap (λ o. is_name (operand_wording f listed z lefts before n o).words) same ∙ name_wrapped (is_bare (place f.of listed f.short) n v) (wording f listed z lefts before n v) ∙ (written v core).named n

      by : (k : Option Constant) → literal e ≡ k → IsOperandBy k g (IsCore g active e) before behind o → is_name (operand_wording f listed z lefts before n o).words ≡ is_name e
      by (Some k) known (inl (as_many, (number, numbered, small, same))) =
          ap (λ o. is_name (operand_wording f listed z lefts before n o).words) same ∙ constant_plain (constant_at (place f.of listed f.short) number) ∙ sym (literal_no_name e k known)
      by (Some k) known (inr (large, (v, core, same))) = value_named v core same
      by None known (v, core, same) = value_named v core same

-- ---- what a part of a table is as a target

-- a name is a local where it means one
abbrev local_by : (named : Bool) → Maker → Bool
local_by named m = is_some (cond named (register_of (next_name m)) None)

-- with whether what is indexed and its key are names
abbrev part_at : Coded → Asks ℕ → (on_named key_named : Bool) → Asks Target
part_at on asked on_named key_named m =
    let t = operand on m in
    let k = asked t.after in
    record { value = part_target t.value k.value (local_by on_named m) (local_by key_named t.after); after = k.after }

abbrev key_is_name : Option Text → Wording → Bool
key_is_name None key = is_name (coded key.words).e
key_is_name (Some name) key = false

written_part : (name : Option Text) (on key : Wording) (m : Maker) → (coded (with_key name on key).words).target m ≡ part_at (coded on.words) (key_asks name key) (is_name (coded on.words).e) (key_is_name name key) m
written_part None on key m = refl
written_part (Some name) on key m = refl

key_named_by : (name : Option Text) (key : Wording) → ((text : Text) → name ≡ Some text → key.words ≡ text_literal 1 text) → key_is_name name key ≡ is_name key.words
key_named_by None key is = ap is_name (coded_is key.words)
key_named_by (Some text) key is = ap is_name (sym (is text refl))

-- ---- one target

module _ (f : Function) (g : Fn) (active : List Active) (listed : List ℕ) (z : Maker) (lefts : ℕ → List (Option Inner)) (before behind : ℕ) where
  pub record TargetSame (target : Expression) (t : TargetValue) : Type 0 where
    pub leaves : left_by_target t (lefts before) ≡ lefts behind
    pub makes : behind ≡ made_behind (mentions_in target) before
    pub few : (n : ℕ) → (word_target (place f.of listed f.short) n (lefts before) t).levels ≤ 3 * depth_of_expression target + 203
    pub low : f.short ≡ true → formed_expression target ≡ true → (m : Maker) → IsAhead g active before (mentions_in target) m → Final (length m.labels) ((code target).target m).after z → (word_target (place f.of listed f.short) (length m.constants) (lefts before) t).levels ≤ space_of_expression target
    pub passes : AskingPasses (mentions_in target) (code target).target
    pub same : (m : Maker) → IsAhead g active before (mentions_in target) m → Final (length m.labels) ((code target).target m).after z → (coded (word_target (place f.of listed f.short) (length m.constants) (lefts before) t).words).target m ≡ (code target).target m
    pub taken : (m : Maker) → IsAhead g active before (mentions_in target) m → Final (length m.labels) ((code target).target m).after z → length ((code target).target m).after.constants ≡ taken_behind_target t (length m.constants)
    pub is_place : (m : Maker) → IsAhead g active before (mentions_in target) m → IsPlace g t ((code target).target m).value

-- a name is written as itself, and takes nothing
record NameWritten (at : Place) (text : Text) (t : TargetValue) : Type 0 where
  can : (fs : List (Option Inner)) → can_write_target at fs t ≡ true
  unused : (fs : List (Option Inner)) → left_by_target t fs ≡ fs
  taken : (n : ℕ) → taken_behind_target t n ≡ n
  word_is : (n : ℕ) (fs : List (Option Inner)) → word_target at n fs t ≡ single_word (name_expression 1 text)

module _ {f : Function} {g : Fn} {active : List Active} {listed : List ℕ} {z : Maker} (made : IsMadeBy f g active listed z) where
  -- as the variable that it is
  name_written : (text : Text) (w : Where) (t : TargetValue) → is_good_name text ≡ true → Means g.law active text w → IsVariableTarget g text w t → NameWritten (place f.of listed f.short) text t
  name_written text (in_register x) t good means is =
      let written = λ (fs : List (Option Inner)). variable_written made fs text (in_register x) (local_value x) good (made.all.listed_as text (in_register x) means) refl in
      subst (NameWritten (place f.of listed f.short) text) (sym is) (record { can = λ fs. (written fs).can; unused = λ fs. refl; taken = λ n. refl; word_is = λ n fs. (written fs).word_is n })
  name_written text (in_upvalue slot) t good means is =
      let written = λ (fs : List (Option Inner)). variable_written made fs text (in_upvalue slot) (upvalue_value slot) good (made.all.listed_as text (in_upvalue slot) means) refl in
      subst (NameWritten (place f.of listed f.short) text) (sym is) (record { can = λ fs. (written fs).can; unused = λ fs. refl; taken = λ n. refl; word_is = λ n fs. (written fs).word_is n })
  name_written text in_globals t good means (number, has, is) =
      let written = λ (fs : List (Option Inner)). variable_written made fs text in_globals (global_value number) good tt (number, has, refl) in
      subst (NameWritten (place f.of listed f.short) text) (sym is) (record { can = λ fs. (written fs).can; unused = λ fs. refl; taken = λ n. refl; word_is = λ n fs. (written fs).word_is n })

  pub name_same : (lefts : ℕ → List (Option Inner)) (before line : ℕ) (text : Text) (w : Where) (t : TargetValue) → is_good_name text ≡ true → Means g.law active text w → IsVariableTarget g text w t →
      TargetSame f g active listed z lefts before before (name_expression line text) t
  name_same lefts before line text w t good means is =
      let written = name_written text w t good means is in
      record {
        leaves = written.unused (lefts before);
        makes = refl;
        few = λ n. omega (arith, ap (λ (w : Wording). w.levels) (written.word_is n (lefts before)));
        low = λ short formed m ahead final. omega (arith, ap (λ (w : Wording). w.levels) (written.word_is (length m.constants) (lefts before)));
        passes = pass_passes text;
        same = λ m ahead final. ap (λ (w : Wording). (coded w.words).target m) (written.word_is (length m.constants) (lefts before));
        taken = λ m ahead final. sym (written.taken (length m.constants));
        is_place = λ m ahead. subst (λ w. IsVariableTarget g text w t) (sym (next_means made text w [] m means ahead)) is;
      }

module _ {f : Function} {g : Fn} {active : List Active} {listed : List ℕ} {z : Maker} {lefts : ℕ → List (Option Inner)} {before mid behind : ℕ} (target on : Expression) (x : Value) (k : OperandValue) (asked : Asks ℕ) (key_named : Bool) (mentions : List Mention) (deep : ℕ) (good : Bool) (roomy : ℕ) {On : Type 0}
    (first : RewrittenWith f g active listed z lefts before mid On on x) (second : KeySame f g active listed z lefts mid behind asked mentions k deep good roomy) (named : (n : ℕ) → is_name (operand_wording f listed z lefts mid n k).words ≡ key_named)
    (on_passes : PassesMentions (mentions_in on) (code on)) (mentioned : mentions_in target ≡ mentions_in on ++ mentions) (deeper : suc (max (depth_of_expression on) deep) ≤ depth_of_expression target) (indexing : IsIndexing target on good roomy)
    (target_is : (m : Maker) → (code target).target m ≡ part_at (code on) asked (is_name (code on).e) key_named m) where
  abbrev words_at : ℕ → Wording
  words_at n = with_key (field_name (place f.of listed f.short) k) (as_prefix (wording f listed z lefts before n x)) (operand_wording f listed z lefts mid (taken_behind x n) k)

  words_are : (n : ℕ) → word_target (place f.of listed f.short) n (lefts before) (index_target x k) ≡ words_at n
  words_are n = ap (λ fs. with_key (field_name (place f.of listed f.short) k) (as_prefix (wording f listed z lefts before n x)) (word_operand (place f.of listed f.short) (taken_behind x n) fs k)) first.leaves

  part_few : (n : ℕ) → (word_target (place f.of listed f.short) n (lefts before) (index_target x k)).levels ≤ 3 * depth_of_expression target + 203
  part_few n =
      let w = wording f listed z lefts before n x in
      let u = operand_wording f listed z lefts mid (taken_behind x n) k in
      let one = levels_wrapped (is_prefix w.words) w in
      let all = key_few (field_name (place f.of listed f.short) k) (as_prefix w) u (3 * depth_of_expression on + 203) (3 * deep + 203) (omega (arith, first.few n, one)) (second.written.few (taken_behind x n)) in
      omega (arith, all, ap (λ (w : Wording). w.levels) (words_are n), deeper)

  part_passes : AskingPasses (mentions_in target) (code target).target
  part_passes m =
      let t = operand (code on) m in
      subst (λ (to : Got Target). Passed (mentions_in target) m to.after) (sym (target_is m))
      (subst (λ (mentions : List Mention). Passed mentions m (asked t.after).after) (sym mentioned) (passed_then (mentions_in on) mentions (operand_passes (mentions_in on) (code on) on_passes m) (second.passes t.after)))

  -- both are names on both sides
  on_named : (n : ℕ) → is_name (coded (as_prefix (wording f listed z lefts before n x)).words).e ≡ is_name (code on).e
  on_named n =
      let w = wording f listed z lefts before n x in
      ap is_name (coded_is (as_prefix w).words) ∙ name_wrapped (is_prefix w.words) w ∙ first.named n ∙ sym (same_name on) ∙ sym (ap is_name (coded_is (one_line_expression on)))

  key_same_name : (n : ℕ) → key_is_name (field_name (place f.of listed f.short) k) (operand_wording f listed z lefts mid n k) ≡ key_named
  key_same_name n =
      let at = place f.of listed f.short in
      key_named_by (field_name at k) (operand_wording f listed z lefts mid n k) (named_key at n (lefts mid) k) ∙ named n

  module _ (m : Maker) (ahead : IsAhead g active before (mentions_in target) m) (final : Final (length m.labels) ((code target).target m).after z) where
    abbrev on_at : Got ℕ
    on_at = operand (code on) m

    both_ahead : IsAhead g active before (mentions_in on ++ mentions) m
    both_ahead = subst (λ (mentions : List Mention). IsAhead g active before mentions m) mentioned ahead

    on_ahead : IsAhead g active before (mentions_in on) m
    on_ahead = ahead_front (mentions_in on) mentions both_ahead

    key_ahead : IsAhead g active mid mentions on_at.after
    key_ahead = ahead_behind (mentions_in on) mentions first.makes (operand_passes (mentions_in on) (code on) on_passes m) both_ahead

    key_final : Final (length m.labels) (asked on_at.after).after z
    key_final = subst (λ (to : Got Target). Final (length m.labels) to.after z) (target_is m) final

    on_final : Final (length m.labels) on_at.after z
    on_final = before_part (second.written.grown on_at.after) key_final

    key_later : Final (length on_at.after.labels) (asked on_at.after).after z
    key_later = let grown = grows_operand {v = calm} (code on) (grows calm (one_line_expression on)) m in later grown.more key_final

    on_taken : length on_at.after.constants ≡ taken_behind x (length m.constants)
    on_taken = operand_taken first m on_ahead on_final

    -- the part, from where its table and its key are
    abbrev part_there : Got ℕ → Asks ℕ → (of_on of_key : Bool) → Got Target
    part_there t ask of_on of_key = let k = ask t.after in record { value = part_target t.value k.value (local_by of_on m) (local_by of_key t.after); after = k.after }

    part_same : (coded (word_target (place f.of listed f.short) (length m.constants) (lefts before) (index_target x k)).words).target m ≡ (code target).target m
    part_same =
        let at = place f.of listed f.short in
        let n = length m.constants in
        let w = wording f listed z lefts before n x in
        let u = operand_wording f listed z lefts mid (taken_behind x n) k in
        ap (λ (w : Wording). (coded w.words).target m) (words_are n)
        ∙ written_part (field_name at k) (as_prefix w) u m
        ∙ ap₂ (λ (of_on of_key : Bool). part_there (operand (coded (as_prefix w).words) m) (key_asks (field_name at k) u) of_on of_key) (on_named n) (key_same_name (taken_behind x n))
        ∙ ap (λ (t : Got ℕ). part_there t (key_asks (field_name at k) u) (is_name (code on).e) key_named) (operand_wrapped (is_prefix w.words) w m ∙ operand_same first m on_ahead on_final)
        ∙ ap (λ n. part_there on_at (key_asks (field_name at k) (operand_wording f listed z lefts mid n k)) (is_name (code on).e) key_named) (sym on_taken)
        ∙ ap (λ (k : Got ℕ). record { value = part_target on_at.value k.value (local_by (is_name (code on).e) m) (local_by key_named on_at.after); after = k.after })
        (key_asks_same at (length on_at.after.constants) (lefts mid) k on_at.after ∙ second.written.as_rk on_at.after key_ahead key_later)
        ∙ sym (target_is m)

    part_low : f.short ≡ true → formed_expression target ≡ true → (word_target (place f.of listed f.short) (length m.constants) (lefts before) (index_target x k)).levels ≤ space_of_expression target
    part_low short formed =
        let n = length m.constants in
        let parts = indexing.parts formed in
        let w = wording f listed z lefts before n x in
        let u = operand_wording f listed z lefts mid (length on_at.after.constants) k in
        let one = prefix_in (is_bare (place f.of listed f.short) n x) on w (operand_low first short parts.1 m on_ahead on_final) parts.0 in
        let all = key_few (field_name (place f.of listed f.short) k) (as_prefix w) u (space_of_expression on) roomy one (second.written.low short parts.2 on_at.after key_ahead key_later) in
        let same = ap (λ (w : Wording). w.levels) (words_are n) in
        let taken = ap (λ n. (with_key (field_name (place f.of listed f.short) k) (as_prefix w) (operand_wording f listed z lefts mid n k)).levels) on_taken in
        omega (arith, same, taken, all, indexing.roomier)

    part_taken : length ((code target).target m).after.constants ≡ taken_behind_target (index_target x k) (length m.constants)
    part_taken = ap (λ (to : Got Target). length to.after.constants) (target_is m) ∙ second.written.taken on_at.after key_ahead key_later ∙ ap (taken_behind_operand k) on_taken

  part_target_same : TargetSame f g active listed z lefts before behind target (index_target x k)
  part_target_same = record {
    leaves = ap (left_by_operand k) first.leaves ∙ second.written.leaves;
    makes = second.written.makes ∙ ap (made_behind mentions) first.makes ∙ sym (made_both (mentions_in on) mentions before) ∙ ap (λ mentions. made_behind mentions before) (sym mentioned);
    few = part_few;
    low = λ short formed m ahead final. part_low m ahead final short formed;
    passes = part_passes;
    same = part_same;
    taken = part_taken;
    is_place = λ m ahead. subst (λ (to : Got Target). IsPlace g (index_target x k) to.value) (sym (target_is m)) refl;
  }

module _ {f : Function} {g : Fn} {active : List Active} {listed : List ℕ} {z : Maker} (lefts : ℕ → List (Option Inner)) (made : IsMadeBy f g active listed z) where
  pub index_same : (line : ℕ) (on key : Expression) (before mid behind : ℕ) (x : Value) (k : OperandValue) → HasCore on → HasCore key → Rewritten f g active listed z lefts before mid on x →
      ((v : Value) → IsCore g active key mid behind v → Rewritten f g active listed z lefts mid behind key v) → IsOperand g active key mid behind k →
      TargetSame f g active listed z lefts before behind (index_expression line on key) (index_target x k)
  index_same line on key before mid behind x k on_has key_has first written is =
      part_target_same (index_expression line on key) on x k (rk (code key)) (is_name (code key).e) (mentions_in key) (depth_of_expression key) (formed_expression key) (space_of_expression key) first
      (expression_key key k (mentions_passed key key_has) (operand_rewritten lefts made key mid behind k key_has is written))
      (λ n. operand_named key k is written n ∙ sym (same_name key) ∙ sym (ap is_name (coded_is (one_line_expression key)))) (mentions_passed on on_has) refl (omega arith) (index_indexing line on key) (λ m. refl)

  pub field_same : {On : Type 0} → (line : ℕ) (on : Expression) (text : Text) (before mid behind : ℕ) (x : Value) (k : OperandValue) → HasCore on → RewrittenWith f g active listed z lefts before mid On on x → IsKey g text mid behind k →
      TargetSame f g active listed z lefts before behind (field_expression line on text) (index_target x k)
  field_same line on text before mid behind x k has first is =
      part_target_same (field_expression line on text) on x k (rk_text 1 text) false [] 1 true 1 first (text_key 1 text k (key_rewritten lefts made 1 text mid behind k is))
      (operand_named (text_literal 1 text) k is (λ v core. subst (λ (behind : ℕ). Rewritten f g active listed z lefts mid behind (text_literal 1 text) v) (sym core.0) (text_rewritten made 1 text v core.1))) (mentions_passed on has) (sym (append-nil (mentions_in on))) (omega (arith, some_depth on)) (field_indexing line on text) (λ m. refl)

  -- ---- what can be written

  pub name_can : (text : Text) (w : Where) (t : TargetValue) (fs : List (Option Inner)) → is_good_name text ≡ true → Means g.law active text w → IsVariableTarget g text w t → can_write_target (place f.of listed f.short) fs t ≡ true
  name_can text w t fs good means is = let written = name_written made text w t good means is in written.can fs

  part_can : (on : Expression) (before mid : ℕ) (x : Value) (k : OperandValue) → Rewritten f g active listed z lefts before mid on x → can_write_operand (place f.of listed f.short) (lefts mid) k ≡ true → can_write_target (place f.of listed f.short) (lefts before) (index_target x k) ≡ true
  part_can on before mid x k first can = both_hold _ _ first.can (ap (λ fs. can_write_operand (place f.of listed f.short) fs k) first.leaves ∙ can)

  pub index_can : (on key : Expression) (before mid behind : ℕ) (x : Value) (k : OperandValue) → HasCore key → Rewritten f g active listed z lefts before mid on x →
      ((v : Value) → IsCore g active key mid behind v → Rewritten f g active listed z lefts mid behind key v) → IsOperand g active key mid behind k → can_write_target (place f.of listed f.short) (lefts before) (index_target x k) ≡ true
  index_can on key before mid behind x k has first written is = let operand = operand_rewritten lefts made key mid behind k has is written in part_can on before mid x k first operand.can

  pub field_can : (on : Expression) (text : Text) (before mid behind : ℕ) (x : Value) (k : OperandValue) → Rewritten f g active listed z lefts before mid on x → IsKey g text mid behind k → can_write_target (place f.of listed f.short) (lefts before) (index_target x k) ≡ true
  field_can on text before mid behind x k first is = let key = key_rewritten lefts made 1 text mid behind k is in part_can on before mid x k first key.can

-- ---- all targets

module _ (f : Function) (g : Fn) (active : List Active) (listed : List ℕ) (z : Maker) (lefts : ℕ → List (Option Inner)) (before behind : ℕ) where
  pub record TargetsSame (targets : Expressions) (ts : List TargetValue) : Type 0 where
    pub leaves : left_by_targets ts (lefts before) ≡ lefts behind
    pub makes : behind ≡ made_behind (mentions_in_all targets) before
    pub few : (n : ℕ) → (words_targets (place f.of listed f.short) n (lefts before) ts).levels ≤ 3 * depth_of_expressions targets + 203
    pub low : f.short ≡ true → formed_expressions targets ≡ true → (m : Maker) → IsAhead g active before (mentions_in_all targets) m → Final (length m.labels) (all_targets (codes_of targets) m).after z → (words_targets (place f.of listed f.short) (length m.constants) (lefts before) ts).levels ≤ space_of_expressions targets
    pub count : length (codes_of targets) ≡ length ts
    pub passes : AskingPasses (mentions_in_all targets) (all_targets (codes_of targets))
    pub same : (m : Maker) → IsAhead g active before (mentions_in_all targets) m → Final (length m.labels) (all_targets (codes_of targets) m).after z →
        all_targets (all_coded (words_targets (place f.of listed f.short) (length m.constants) (lefts before) ts).words) m ≡ all_targets (codes_of targets) m
    pub taken : (m : Maker) → IsAhead g active before (mentions_in_all targets) m → Final (length m.labels) (all_targets (codes_of targets) m).after z → length (all_targets (codes_of targets) m).after.constants ≡ taken_behind_targets ts (length m.constants)
    pub are_places : (m : Maker) → IsAhead g active before (mentions_in_all targets) m → ArePlaces g ts (all_targets (codes_of targets) m).value

-- as many are written
pub written_count : (at : Place) (n : ℕ) (fs : List (Option Inner)) (ts : List TargetValue) → length (all_coded (words_targets at n fs ts).words) ≡ length ts
written_count at n fs [] = refl
written_count at n fs (t ∷ ts) = ap suc (written_count at (taken_behind_target t n) (left_by_target t fs) ts)

pub targets_grow : (cs : List Coded) → AllGrow calm cs → (m : Maker) → Grown calm m (all_targets cs m).after
targets_grow [] grow m = start m
targets_grow (c ∷ cs) grow m = on_part (targets_grow cs grow.1 (c.target m).after) (grow.0.target m)

-- one target, and others behind it
abbrev and_targets : Got Target → Got (List Target) → Got (List Target)
and_targets one others = record { value = one.value ∷ others.value; after = others.after }

module _ {f : Function} {g : Fn} {active : List Active} {listed : List ℕ} {z : Maker} {lefts : ℕ → List (Option Inner)} {before behind : ℕ} where
  pub none_same : behind ≡ before → TargetsSame f g active listed z lefts before behind no_expressions []
  none_same same = record { leaves = ap lefts (sym same); makes = same; few = λ n. omega arith; low = λ short formed m ahead final. omega arith; count = refl; passes = λ m. passed_none; same = λ m ahead final. refl; taken = λ m ahead final. refl; are_places = λ m ahead. tt }

module _ {f : Function} {g : Fn} {active : List Active} {listed : List ℕ} {z : Maker} {lefts : ℕ → List (Option Inner)} {before mid behind : ℕ} where
  pub more_same : (target : Expression) (targets : Expressions) (t : TargetValue) (ts : List TargetValue) → TargetSame f g active listed z lefts before mid target t → TargetsSame f g active listed z lefts mid behind targets ts →
      TargetsSame f g active listed z lefts before behind (syntax.expression target targets) (t ∷ ts)
  more_same target targets t ts first others = record {
    leaves = ap (left_by_targets ts) first.leaves ∙ others.leaves;
    makes = others.makes ∙ ap (made_behind (mentions_in_all targets)) first.makes ∙ sym (made_both (mentions_in target) (mentions_in_all targets) before);
    few = λ n. omega (arith, first.few n, ap (λ fs. (words_targets at (taken_behind_target t n) fs ts).levels) first.leaves, others.few (taken_behind_target t n));
    low = λ short formed m ahead final.
        let one_low = first.low short (first_of_both _ _ formed) m (first_ahead m ahead) (first_final m final) in
        let other = others.low short (second_of_both (formed_expression target) _ formed) (one m).after (others_ahead m ahead) (others_final m final) in
        let left = ap (λ fs. (words_targets at (taken_behind_target t (length m.constants)) fs ts).levels) first.leaves in
        let taken = ap (λ n. (words_targets at n (lefts mid) ts).levels) (first.taken m (first_ahead m ahead) (first_final m final)) in
        omega (arith, one_low, other, left, taken);
    count = ap suc others.count;
    passes = λ m. passed_then (mentions_in target) (mentions_in_all targets) (first.passes m) (others.passes (one m).after);
    same = λ m ahead final.
        ap (λ one. and_targets one (all_targets (written (taken_behind_target t (length m.constants)) (left_by_target t (lefts before))) one.after)) (first.same m (first_ahead m ahead) (first_final m final))
        ∙ ap (λ n. and_targets (one m) (all_targets (written n (left_by_target t (lefts before))) (one m).after)) (sym (first.taken m (first_ahead m ahead) (first_final m final)))
        ∙ ap (λ fs. and_targets (one m) (all_targets (written (length (one m).after.constants) fs) (one m).after)) first.leaves
        ∙ ap (and_targets (one m)) (others.same (one m).after (others_ahead m ahead) (others_final m final));
    taken = λ m ahead final. others.taken (one m).after (others_ahead m ahead) (others_final m final) ∙ ap (taken_behind_targets ts) (first.taken m (first_ahead m ahead) (first_final m final));
    are_places = λ m ahead. (first.is_place m (first_ahead m ahead), others.are_places (one m).after (others_ahead m ahead));
  }
    where
      at : Place
      at = place f.of listed f.short

      written : ℕ → List (Option Inner) → List Coded
      written n fs = all_coded (words_targets at n fs ts).words

      one : (m : Maker) → Got Target
      one m = (code target).target m

      first_ahead : (m : Maker) → IsAhead g active before (mentions_in target ++ mentions_in_all targets) m → IsAhead g active before (mentions_in target) m
      first_ahead m ahead = ahead_front (mentions_in target) (mentions_in_all targets) ahead

      others_ahead : (m : Maker) → IsAhead g active before (mentions_in target ++ mentions_in_all targets) m → IsAhead g active mid (mentions_in_all targets) (one m).after
      others_ahead m ahead = ahead_behind (mentions_in target) (mentions_in_all targets) first.makes (first.passes m) ahead

      first_final : (m : Maker) → Final (length m.labels) (all_targets (codes_of targets) (one m).after).after z → Final (length m.labels) (one m).after z
      first_final m final = before_part (targets_grow (codes_of targets) (grow_all calm (one_line_expressions targets)) (one m).after) final

      others_final : (m : Maker) → Final (length m.labels) (all_targets (codes_of targets) (one m).after).after z → Final (length (one m).after.labels) (all_targets (codes_of targets) (one m).after).after z
      others_final m final = let grown = (grows calm (one_line_expression target)).target m in later grown.more final
