-- What is written of a value with a key behind it has the same code as the expression that is indexed.
use Rattle.std.proofs.Common.{◌≡◌, ℕ, suc, ◌+◌, ◌*◌, ◌≤◌, Bool, true, false, cond, List, [], ◌++◌, append-nil, length, max, refl, sym, ap, ◌∙◌, subst, arith, le-leb, lt-ltb, nat_lt, nat_le, inr}
use Rattle.std.specs.Prelude.{Option, Some, None, ◌||◌, if◌then◌else◌}
use Rattle.std.proofs.lemmas.Bool.{and_from, leb-false}
use Rattle.lua_num.specs.Bytes.{Text}
use Rattle.lua_tree.specs.Names.{is_name as is_good}
use Rattle.lua_tree.specs.OneLine.{one_line_expression}
use Rattle.lua_tree.specs.Syntax.{Expression, text_literal, index_expression, field_expression}
use Rattle.lua_tree.specs.WellFormed.{depth_of_expression, formed_expression, is_prefix}
use Rattle.lua_tree.specs.Precedence.{is_unary, level_of}
use Rattle.reads_back.proofs.InRoom.{prefix_in}
use Rattle.reads_back.proofs.Rooms.{some_room}
use Rattle.opcode.specs.declared.op.Op.{Op}
use Rattle.proto.specs.declared.parts.Constant.{Constant}
use Rattle.core_expr.specs.Counting.{taken_behind, taken_behind_operand, taken_behind_operands, left_by, left_by_operand, left_by_operands}
use Rattle.core_expr.specs.Making.{and_last, depth_of, depth_of_operand, made_index}
use Rattle.core_expr.specs.Places.{Place, as_name, as_text, constant_at, constant_name, field_name, name_of_number, place}
use Rattle.core_expr.specs.Values.{Value, index_value, constant_value, OperandValue, constant_operand, value_operand, OperandList, no_operands, and_operand, Inner}
use Rattle.core_expr.specs.Writing.{Wording, as_prefix, can_write, can_write_operand, can_write_operands, constant_word, is_bare, is_multiple as can_be_several, operand_count, unless, with_key, word, word_keys, word_operand}
use Rattle.recover_expr.specs.Situation.{Function}
use Rattle.scheme.specs.Expressions.{fold, indexed_value, is_multiple, is_name, is_small, next_text, operand, rk, rk_text, small_constant}
use Rattle.scheme.specs.Making.{Asks, Got, Maker, free_from, freeing, put}
use Rattle.scheme.specs.Scheme.{coded}
use Rattle.scheme.specs.declared.making.Active.{Active}
use Rattle.scheme.specs.declared.making.Piece.{Piece}
use Rattle.scheme_stands.proofs.Growth.{calm, Grown, Final, before as before_part, before_free, before_put, later}
use Rattle.scheme_stands.proofs.Parts.{grows, grows_operand, grows_rk, grows_rk_text}
use Rattle.scheme_stands.specs.Words.{Fn}
use Rattle.same_flow.specs.Space.{space_of_expression}
use Rattle.reads_back.proofs.Deeper.{some_depth}
use Rattle.reads_back.proofs.Mentions.{AskingPasses, IsAhead, ahead_behind, ahead_front, mentions_in, Mention, made_behind, made_both}
use Rattle.reads_back.proofs.Operators.{last_taken}
use Rattle.reads_back.proofs.OperatorsSame.{few_more}
use Rattle.reads_back.proofs.PassedMentions.{PassesMentions, operand_passes, rk_passes, rk_text_passes}
use Rattle.reads_back.proofs.Rewriting.{Rewritten, RewrittenOperand, RewrittenWith, code, keys_of, operand_wording, wording}
use Rattle.reads_back.proofs.WordsSame.{levels_wrapped, made_plainly, no_local, operand_low, operand_same, operand_taken, operand_wrapped}
use Rattle.reads_back.proofs.Tests.{first_of_both, given_is, second_of_both}
use Rattle.reads_back.proofs.WrittenFormed.{keyed_prefix, prefix_by}

-- ---- keys one behind the other, and one more

words_last : (at : Place) (n : ℕ) (fs : List (Option Inner)) (on : Wording) (keys : OperandList) (key : OperandValue) →
    word_keys at n fs on (and_last keys key) ≡ with_key (field_name at key) (word_keys at n fs on keys) (word_operand at (taken_behind_operands keys n) (left_by_operands keys fs) key)
words_last at n fs on no_operands key = refl
words_last at n fs on (and_operand o keys) key = words_last at (taken_behind_operand o n) (left_by_operand o fs) (with_key (field_name at o) on (word_operand at n fs o)) keys key

left_last : (keys : OperandList) (key : OperandValue) (fs : List (Option Inner)) → left_by_operands (and_last keys key) fs ≡ left_by_operand key (left_by_operands keys fs)
left_last no_operands key fs = refl
left_last (and_operand o keys) key fs = left_last keys key (left_by_operand o fs)

count_last : (keys : OperandList) (key : OperandValue) → operand_count (and_last keys key) ≡ suc (operand_count keys)
count_last no_operands key = refl
count_last (and_operand o keys) key = ap suc (count_last keys key)

can_last : (at : Place) (fs : List (Option Inner)) (keys : OperandList) (key : OperandValue) → can_write_operands at fs keys ≡ true → can_write_operand at (left_by_operands keys fs) key ≡ true → can_write_operands at fs (and_last keys key) ≡ true
can_last at fs no_operands key can last = and_from _ _ last refl
can_last at fs (and_operand o keys) key can last = and_from _ _ (first_of_both _ _ can) (can_last at (left_by_operand o fs) keys key (second_of_both _ _ can) last)

-- ---- what a key stands behind

prefix_keys : (at : Place) (n : ℕ) (fs : List (Option Inner)) (on : Wording) (keys : OperandList) → is_prefix on.words ≡ true → is_prefix (word_keys at n fs on keys).words ≡ true
prefix_keys at n fs on no_operands is = is
prefix_keys at n fs on (and_operand o keys) is = prefix_keys at (taken_behind_operand o n) (left_by_operand o fs) (with_key (field_name at o) on (word_operand at n fs o)) keys (keyed_prefix (field_name at o) on (word_operand at n fs o))

-- parentheses stand at most once
prefix_once : (w : Wording) → is_prefix w.words ≡ true → w ≡ as_prefix w
prefix_once w is = ap (λ bare. unless bare w) (sym is)

-- ---- what is made of a value and a key

-- what is known of it, whether the value has keys already or not
record Indexes (at : Place) (on : Value) (key : OperandValue) (v : Value) : Type 0 where
  words : (n : ℕ) (fs : List (Option Inner)) → word at n fs v ≡ with_key (field_name at key) (as_prefix (word at n fs on)) (word_operand at (taken_behind on n) (left_by on fs) key)
  taken : (n : ℕ) → taken_behind v n ≡ taken_behind_operand key (taken_behind on n)
  unused : (fs : List (Option Inner)) → left_by v fs ≡ left_by_operand key (left_by on fs)
  keys : keys_of v ≡ suc (keys_of on)
  can : (fs : List (Option Inner)) → suc (keys_of on) ≤ 200 → can_write at fs on ≡ true → can_write_operand at (left_by on fs) key ≡ true → can_write at fs v ≡ true
  several : can_be_several v ≡ false
  bare : (n : ℕ) → is_bare at n v ≡ true

first_key : (at : Place) (on : Value) (key : OperandValue) (depth : ℕ) → keys_of on ≡ 0 → Indexes at on key (index_value on (and_operand key no_operands) depth)
first_key at on key depth none = record {
  words = λ n fs. refl;
  taken = λ n. refl;
  unused = λ fs. refl;
  keys = ap suc (sym none);
  can = λ fs few first last. and_from _ _ first (and_from _ _ last refl);
  several = refl;
  bare = λ n. refl;
}

next_key : (at : Place) (on : Value) (keys : OperandList) (key : OperandValue) (depth more : ℕ) → Indexes at (index_value on keys depth) key (index_value on (and_last keys key) more)
next_key at on keys key depth more = record {
  words = λ n fs.
      let w = word at n fs (index_value on keys depth) in
      let is = prefix_keys at (taken_behind on n) (left_by on fs) (as_prefix (word at n fs on)) keys (prefix_by (is_prefix (word at n fs on).words) (word at n fs on) refl) in
      words_last at (taken_behind on n) (left_by on fs) (as_prefix (word at n fs on)) keys key
      ∙ ap (λ w. with_key (field_name at key) w (word_operand at (taken_behind (index_value on keys depth) n) (left_by (index_value on keys depth) fs) key)) (prefix_once w is);
  taken = λ n. last_taken keys key (taken_behind on n);
  unused = λ fs. left_last keys key (left_by on fs);
  keys = count_last keys key;
  can = λ fs few first last.
      let count = count_last keys key in
      let small : operand_count (and_last keys key) ≤ 200 = omega (arith, few, count) in
      let both = second_of_both _ _ first in
      and_from _ _ (le-leb _ _ small) (and_from _ _ (first_of_both _ _ both) (can_last at (left_by on fs) keys key (second_of_both _ _ both) last));
  several = refl;
  bare = λ n. refl;
}

indexes : (at : Place) (on : Value) (key : OperandValue) (v : Value) → made_index on key ≡ Some v → Indexes at on key v
indexes at (index_value on keys depth) key v made = subst (Indexes at (index_value on keys depth) key) (given_is (nat_lt (depth_of_operand key) 400) _ v made) (next_key at on keys key depth (max depth (suc (depth_of_operand key))))
indexes at on key v made = subst (Indexes at on key) (given_is (nat_lt (max (depth_of on) (depth_of_operand key)) 400) _ v made) (first_key at on key (suc (max (depth_of on) (depth_of_operand key))) refl)

-- ---- a key that is written as a field

-- what a key asks for
abbrev pub key_asks : Option Text → Wording → Asks ℕ
key_asks None key = rk (coded key.words)
key_asks (Some name) key = rk_text 1 name

small_or : (b : Bool) (text : Text) (m : Maker) → cond b (small_constant (Constant.Text text)) (operand (coded (text_literal 1 text))) m ≡ cond b (small_constant (Constant.Text text)) (λ n. record { value = n.free; after = next_text 1 text n }) m
small_or true text m = refl
small_or false text m = refl

-- a string that is no expression of its own is an operand as one that is
text_asks : (text : Text) (m : Maker) → rk (coded (text_literal 1 text)) m ≡ rk_text 1 text m
text_asks text m = small_or (is_small (Constant.Text text) m) text m

-- a constant that is a name is a string
name_is : (k : Option Constant) (name : Text) → as_name (as_text k) ≡ Some name → (constant_word k).words ≡ text_literal 1 name
name_is None name is = cc
name_is (Some (Constant.Text text)) name is = ap (text_literal 1) (given_is (is_good text) text name is)
name_is (Some Constant.Nil) name is = cc
name_is (Some (Constant.Bool b)) name is = cc
name_is (Some (Constant.Number n)) name is = cc

-- a name in a register has a number that is no operand
large_named : (at : Place) (c : ℕ) (small : Bool) (name : Text) → nat_le c 255 ≡ small → name_of_number at (if small then None else Some c) ≡ Some name → (nat_lt 255 c ≡ true) × (constant_name at c ≡ Some name)
large_named at c true name is named = cc
large_named at c false name is named = (lt-ltb 255 c (leb-false c 255 is), named)

bare_words : (large other : Bool) (w : Wording) → large ≡ true → (unless (large || other) w).words ≡ w.words
bare_words true other w is = refl
bare_words false other w is = cc

-- it is that string
pub named_key : (at : Place) (n : ℕ) (fs : List (Option Inner)) (key : OperandValue) (name : Text) → field_name at key ≡ Some name → (word_operand at n fs key).words ≡ text_literal 1 name
named_key at n fs (constant_operand c) name is = name_is (constant_at at c) name is
named_key at n fs (value_operand (constant_value c)) name is =
    let large = large_named at c (nat_le c 255) name refl is in
    bare_words (nat_lt 255 c) _ (constant_word (constant_at at c)) large.0 ∙ name_is (constant_at at c) name large.1
named_key at n fs (value_operand v) name is = cc

asks_by : (name : Option Text) (key : Wording) (m : Maker) → ((text : Text) → name ≡ Some text → key.words ≡ text_literal 1 text) → key_asks name key m ≡ rk (coded key.words) m
asks_by None key m is = refl
asks_by (Some text) key m is = sym (text_asks text m) ∙ ap (λ e. rk (coded e) m) (sym (is text refl))

pub key_asks_same : (at : Place) (n : ℕ) (fs : List (Option Inner)) (key : OperandValue) (m : Maker) → key_asks (field_name at key) (word_operand at n fs key) m ≡ rk (coded (word_operand at n fs key).words) m
key_asks_same at n fs key m = asks_by (field_name at key) (word_operand at n fs key) m (named_key at n fs key)

-- ---- the code of a value with a key behind it

index_to : (name : Option Text) (on key : Wording) (to : ℕ) (m : Maker) → (coded (with_key name on key).words).to_reg to m ≡ freeing (indexed_value 1 (coded on.words) (key_asks name key) to) m
index_to None on key to m = refl
index_to (Some name) on key to m = refl

key_plain : (name : Option Text) (on key : Wording) → is_name (with_key name on key).words ≡ false
key_plain None on key = refl
key_plain (Some name) on key = refl

key_folded : (name : Option Text) (on key : Wording) → fold (with_key name on key).words ≡ None
key_folded None on key = refl
key_folded (Some name) on key = refl

key_single : (name : Option Text) (on key : Wording) → is_multiple (with_key name on key).words ≡ false
key_single None on key = refl
key_single (Some name) on key = refl

key_level : (name : Option Text) (on key : Wording) → level_of (with_key name on key).words ≡ 9
key_level None on key = refl
key_level (Some name) on key = refl

key_unary : (name : Option Text) (on key : Wording) → is_unary (with_key name on key).words ≡ false
key_unary None on key = refl
key_unary (Some name) on key = refl

pub key_few : (name : Option Text) (on key : Wording) (deep more : ℕ) → on.levels ≤ deep → key.levels ≤ more → (with_key name on key).levels ≤ suc (max deep more)
key_few None on key deep more first second = let all = few_more (max on.levels key.levels) in omega (arith, first, second, all)
key_few (Some name) on key deep more first second = let all = few_more on.levels in omega (arith, first, all)

-- what is known of a key that asks so, where no names come behind it
pub record KeyWritten (f : Function) (g : Fn) (active : List Active) (listed : List ℕ) (z : Maker) (lefts : ℕ → List (Option Inner)) (before behind : ℕ) (asked : Asks ℕ) (mentions : List Mention) (key : OperandValue) (deep : ℕ) (formed : Bool) (roomy : ℕ) : Type 0 where
  pub can : can_write_operand (place f.of listed f.short) (lefts before) key ≡ true
  pub leaves : left_by_operand key (lefts before) ≡ lefts behind
  pub makes : behind ≡ made_behind mentions before
  pub few : (n : ℕ) → (operand_wording f listed z lefts before n key).levels ≤ 3 * deep + 203
  -- where it is well formed
  pub low : f.short ≡ true → formed ≡ true → (m : Maker) → IsAhead g active before mentions m → Final (length m.labels) (asked m).after z → (operand_wording f listed z lefts before (length m.constants) key).levels ≤ roomy
  pub grown : (m : Maker) → Grown calm m (asked m).after
  pub as_rk : (m : Maker) → IsAhead g active before mentions m → Final (length m.labels) (asked m).after z → rk (coded (operand_wording f listed z lefts before (length m.constants) key).words) m ≡ asked m
  pub taken : (m : Maker) → IsAhead g active before mentions m → Final (length m.labels) (asked m).after z → length (asked m).after.constants ≡ taken_behind_operand key (length m.constants)

-- and where names come behind it: what asks for it passes those that are in it
pub record KeySame (f : Function) (g : Fn) (active : List Active) (listed : List ℕ) (z : Maker) (lefts : ℕ → List (Option Inner)) (before behind : ℕ) (asked : Asks ℕ) (mentions : List Mention) (key : OperandValue) (deep : ℕ) (formed : Bool) (roomy : ℕ) : Type 0 where
  pub written : KeyWritten f g active listed z lefts before behind asked mentions key deep formed roomy
  pub passes : AskingPasses mentions asked

-- an expression that indexes this one, with a key that is well formed and has so much room
pub record IsIndexing (e on : Expression) (good : Bool) (roomy : ℕ) : Type 0 where
  pub parts : formed_expression e ≡ true → (is_prefix on ≡ true) × (formed_expression on ≡ true) × (good ≡ true)
  pub roomier : suc (max (space_of_expression on) roomy) ≤ space_of_expression e
  prefix : is_prefix e ≡ true
  level : level_of e ≡ 9
  unary : is_unary e ≡ false

pub index_indexing : (line : ℕ) (on key : Expression) → IsIndexing (index_expression line on key) on (formed_expression key) (space_of_expression key)
index_indexing line on key = record {
  parts = λ formed. let parts = second_of_both (is_prefix on) _ formed in (first_of_both _ _ formed, first_of_both _ _ parts, second_of_both (formed_expression on) _ parts);
  roomier = omega arith;
  prefix = refl;
  level = refl;
  unary = refl;
}

pub field_indexing : (line : ℕ) (on : Expression) (text : Text) → IsIndexing (field_expression line on text) on true 1
field_indexing line on text = record {
  parts = λ formed. (first_of_both _ _ formed, first_of_both (formed_expression on) _ (second_of_both (is_prefix on) _ formed), refl);
  roomier = omega (arith, some_room on);
  prefix = refl;
  level = refl;
  unary = refl;
}

-- the word behind both
abbrev behind_key : (to : ℕ) → Maker → ℕ → Got ℕ → Maker
behind_key to m x y = free_from m.free (put 1 (Piece.Abc Op.GetTable to x y.value) y.after)

module _ {f : Function} {g : Fn} {active : List Active} {listed : List ℕ} {z : Maker} {lefts : ℕ → List (Option Inner)} {before mid behind : ℕ} {on : Expression} {o : Value} {asked : Asks ℕ} {mentions : List Mention} {key : OperandValue} {deep : ℕ} {good : Bool} {roomy : ℕ} {v : Value} {On : Type 0}
    (first : RewrittenWith f g active listed z lefts before mid On on o) (second : KeyWritten f g active listed z lefts mid behind asked mentions key deep good roomy) (made : made_index o key ≡ Some v) where
  is : Indexes (place f.of listed f.short) o key v
  is = indexes (place f.of listed f.short) o key v made

  -- what is written, where so many constants are taken behind the value
  indexed_is : (n m : ℕ) → taken_behind o n ≡ m → wording f listed z lefts before n v ≡ with_key (field_name (place f.of listed f.short) key) (as_prefix (wording f listed z lefts before n o)) (operand_wording f listed z lefts mid m key)
  indexed_is n m taken =
      let at = place f.of listed f.short in
      is.words n (lefts before)
      ∙ ap (λ fs. with_key (field_name at key) (as_prefix (wording f listed z lefts before n o)) (word_operand at (taken_behind o n) fs key)) first.leaves
      ∙ ap (λ n'. with_key (field_name at key) (as_prefix (wording f listed z lefts before n o)) (word_operand at n' (lefts mid) key)) taken

  indexed_few : (n : ℕ) → (wording f listed z lefts before n v).levels ≤ 3 * suc (max (depth_of_expression on) deep) + 202
  indexed_few n =
      let w = wording f listed z lefts before n o in
      let u = operand_wording f listed z lefts mid (taken_behind o n) key in
      let same : (wording f listed z lefts before n v).levels ≡ (with_key (field_name (place f.of listed f.short) key) (as_prefix w) u).levels = ap (λ w. w.levels) (indexed_is n (taken_behind o n) refl) in
      let one = levels_wrapped (is_prefix w.words) w in
      let all = key_few (field_name (place f.of listed f.short) key) (as_prefix w) u (3 * depth_of_expression on + 203) (3 * deep + 203) (omega (arith, first.few n, one)) (second.few (taken_behind o n)) in
      omega (arith, same, all)

  indexed_can : suc (depth_of_expression on) ≤ 200 → can_write (place f.of listed f.short) (lefts before) o ≡ true → can_write (place f.of listed f.short) (lefts before) v ≡ true
  indexed_can few can =
      let more : suc (keys_of o) ≤ 200 = omega (arith, few, first.keys) in
      is.can (lefts before) more can (ap (λ fs. can_write_operand (place f.of listed f.short) fs key) first.leaves ∙ second.can)

  module _ (kept : PassesMentions (mentions_in on) (code on)) (to : ℕ) (m : Maker) (ahead : IsAhead g active before (mentions_in on ++ mentions) m) (final : Final (length m.labels) (freeing (indexed_value 1 (code on) asked to) m) z) where
    on_ahead : IsAhead g active before (mentions_in on) m
    on_ahead = ahead_front (mentions_in on) mentions ahead

    key_ahead : IsAhead g active mid mentions (operand (code on) m).after
    key_ahead = ahead_behind (mentions_in on) mentions first.makes (operand_passes (mentions_in on) (code on) kept m) ahead

    both_final : Final (length m.labels) (asked (operand (code on) m).after).after z
    both_final =
        let x = operand (code on) m in
        let y = asked x.after in
        before_put 1 (Piece.Abc Op.GetTable to x.value y.value) y.after (before_free m.free (indexed_value 1 (code on) asked to m) final)

    front_final : Final (length m.labels) (operand (code on) m).after z
    front_final = before_part (second.grown (operand (code on) m).after) both_final

    behind_final : Final (length (operand (code on) m).after.labels) (asked (operand (code on) m).after).after z
    behind_final = let grown = grows_operand {v = calm} (code on) (grows calm (one_line_expression on)) m in later grown.more both_final

    indexed_same : (coded (wording f listed z lefts before (length m.constants) v).words).to_reg to m ≡ freeing (indexed_value 1 (code on) asked to) m
    indexed_same =
        let at = place f.of listed f.short in
        let x = operand (code on) m in
        let m1 = x.after in
        let w = wording f listed z lefts before (length m.constants) o in
        let u = operand_wording f listed z lefts mid (length m1.constants) key in
        ap (λ w. (coded w.words).to_reg to m) (indexed_is (length m.constants) (length m1.constants) (sym (operand_taken first m on_ahead front_final)))
        ∙ index_to (field_name at key) (as_prefix w) u to m
        ∙ ap (λ x. behind_key to m x.value (key_asks (field_name at key) u x.after)) (operand_wrapped (is_prefix w.words) w m ∙ operand_same first m on_ahead front_final)
        ∙ ap (behind_key to m x.value) (key_asks_same at (length m1.constants) (lefts mid) key m1 ∙ second.as_rk m1 key_ahead behind_final)

    -- in the forms of fewest levels
    indexed_low : f.short ≡ true → formed_expression on ≡ true → is_prefix on ≡ true → good ≡ true → (wording f listed z lefts before (length m.constants) v).levels ≤ suc (max (space_of_expression on) roomy)
    indexed_low short formed prefix good =
        let n = length m.constants in
        let m1 = (operand (code on) m).after in
        let w = wording f listed z lefts before n o in
        let u = operand_wording f listed z lefts mid (length m1.constants) key in
        let same = ap (λ (w : Wording). w.levels) (indexed_is n (length m1.constants) (sym (operand_taken first m on_ahead front_final))) in
        let one = prefix_in (is_bare (place f.of listed f.short) n o) on w (operand_low first short formed m on_ahead front_final) prefix in
        let all = key_few (field_name (place f.of listed f.short) key) (as_prefix w) u (space_of_expression on) roomy one (second.low short good m1 key_ahead behind_final) in
        omega (arith, same, all)

    indexed_taken : length (freeing (indexed_value 1 (code on) asked to) m).constants ≡ taken_behind v (length m.constants)
    indexed_taken =
        second.taken (operand (code on) m).after key_ahead behind_final
        ∙ ap (taken_behind_operand key) (operand_taken first m on_ahead front_final)
        ∙ sym (is.taken (length m.constants))

  -- an expression whose code this is
  indexed_rewritten : {Can : Type 0} → Can → (e : Expression) → mentions_in e ≡ mentions_in on ++ mentions → suc (max (depth_of_expression on) deep) ≤ depth_of_expression e → is_name e ≡ false → fold e ≡ None → is_multiple e ≡ false → IsIndexing e on good roomy →
      ((to : ℕ) (m : Maker) → (code e).to_reg to m ≡ freeing (indexed_value 1 (code on) asked to) m) → PassesMentions (mentions_in on) (code on) → RewrittenWith f g active listed z lefts before behind Can e v
  indexed_rewritten can e mentioned deeper plain none single indexing code_is kept =
      let name = field_name (place f.of listed f.short) key in
      let ahead_of : (m : Maker) → IsAhead g active before (mentions_in e) m → IsAhead g active before (mentions_in on ++ mentions) m = λ m ahead. subst (λ mentions. IsAhead g active before mentions m) mentioned ahead in
      record {
        can = can;
        leaves = is.unused (lefts before) ∙ ap (left_by_operand key) first.leaves ∙ second.leaves;
        makes = second.makes ∙ ap (made_behind mentions) first.makes ∙ sym (made_both (mentions_in on) mentions before) ∙ ap (λ mentions. made_behind mentions before) (sym mentioned);
        named = λ n. ap (λ w. is_name w.words) (indexed_is n (taken_behind o n) refl) ∙ key_plain name _ _ ∙ sym plain;
        folded = λ n. ap (λ w. fold w.words) (indexed_is n (taken_behind o n) refl) ∙ key_folded name _ _ ∙ sym none;
        several = λ n. ap (λ w. is_multiple w.words) (indexed_is n (taken_behind o n) refl) ∙ key_single name _ _ ∙ sym is.several;
        gives = λ several. absurd cc;
        few = λ n. let few = indexed_few n in omega (arith, few, deeper);
        low = λ short formed m ahead as_made.
            let parts = indexing.parts formed in
            let words = ap (λ (w : Wording). w.words) (indexed_is (length m.constants) (taken_behind o (length m.constants)) refl) in
            made_plainly e m plain single (λ to final.
            let low = indexed_low kept to m (ahead_of m ahead) (subst (λ n. Final (length m.labels) n z) (code_is to m) final) short parts.1 parts.0 parts.2 in
            inr (record {
              low = omega (arith, low, indexing.roomier);
              binds = record { prefix = ap is_prefix words ∙ keyed_prefix name _ _ ∙ sym indexing.prefix; level = ap level_of words ∙ key_level name _ _ ∙ sym indexing.level; unary = ap is_unary words ∙ key_unary name _ _ ∙ sym indexing.unary; several = ap is_multiple words ∙ key_single name _ _ ∙ sym single };
              bare_there = λ literal. is.bare (length m.constants);
              unfolded = none;
            })) as_made;
        keys = let keys = is.keys in omega (arith, keys, first.keys, deeper);
        as_local = λ n r m ahead local. no_local e r m plain local;
        to_reg = λ to m ahead final. indexed_same kept to m (ahead_of m ahead) (subst (λ n. Final (length m.labels) n z) (code_is to m) final) ∙ sym (code_is to m);
        taken = λ to m ahead final. ap (λ n. length n.constants) (code_is to m) ∙ indexed_taken kept to m (ahead_of m ahead) (subst (λ n. Final (length m.labels) n z) (code_is to m) final);
        multi = λ several. absurd cc;
        multi_taken = λ several. absurd cc;
      }

-- ---- expressions that are indexed

module _ {f : Function} {g : Fn} {active : List Active} {listed : List ℕ} {z : Maker} {lefts : ℕ → List (Option Inner)} {before behind : ℕ} where
  -- a key that is an expression
  operand_key : (key : Expression) (k : OperandValue) → RewrittenOperand f g active listed z lefts before behind key k → KeyWritten f g active listed z lefts before behind (rk (code key)) (mentions_in key) k (depth_of_expression key) (formed_expression key) (space_of_expression key)
  operand_key key k operand = record {
    can = operand.can;
    leaves = operand.leaves;
    makes = operand.makes;
    few = operand.few;
    low = λ short formed m ahead final. (operand.low short formed m ahead final).low;
    grown = grows_rk (code key) (grows calm (one_line_expression key));
    as_rk = operand.as_rk;
    taken = operand.taken;
  }

module _ {f : Function} {g : Fn} {active : List Active} {listed : List ℕ} {z : Maker} {lefts : ℕ → List (Option Inner)} {before mid behind : ℕ} where
  -- a tree is no deeper than 200, so it has no more keys one behind the other
  pub index_rewritten : (line : ℕ) (on key : Expression) (o : Value) (k : OperandValue) (v : Value) → depth_of_expression (index_expression line on key) ≤ 200 → PassesMentions (mentions_in on) (code on) →
      Rewritten f g active listed z lefts before mid on o → RewrittenOperand f g active listed z lefts mid behind key k → made_index o k ≡ Some v → Rewritten f g active listed z lefts before behind (index_expression line on key) v
  index_rewritten line on key o k v shallow kept first second made =
      let key_is = operand_key key k second in
      indexed_rewritten first key_is made (indexed_can first key_is made (omega (arith, shallow)) first.can) (index_expression line on key) refl (omega arith) refl refl refl (index_indexing line on key) (λ to m. refl) kept

  -- a field, however many names stand before it
  pub field_rewritten_with : {On Can : Type 0} → Can → (line : ℕ) (on : Expression) (text : Text) (o : Value) (k : OperandValue) (v : Value) → PassesMentions (mentions_in on) (code on) →
      RewrittenWith f g active listed z lefts before mid On on o → KeySame f g active listed z lefts mid behind (rk_text 1 text) [] k 1 true 1 → made_index o k ≡ Some v → RewrittenWith f g active listed z lefts before behind Can (field_expression line on text) v
  field_rewritten_with can line on text o k v kept first key made =
      indexed_rewritten first key.written made can (field_expression line on text) (sym (append-nil (mentions_in on))) (omega (arith, some_depth on)) refl refl refl (field_indexing line on text) (λ to m. refl) kept

  pub field_rewritten : (line : ℕ) (on : Expression) (text : Text) (o : Value) (k : OperandValue) (v : Value) → depth_of_expression (field_expression line on text) ≤ 200 → PassesMentions (mentions_in on) (code on) →
      Rewritten f g active listed z lefts before mid on o → KeySame f g active listed z lefts mid behind (rk_text 1 text) [] k 1 true 1 → made_index o k ≡ Some v → Rewritten f g active listed z lefts before behind (field_expression line on text) v
  field_rewritten line on text o k v shallow kept first key made =
      field_rewritten_with (indexed_can first key.written made (omega (arith, shallow)) first.can) line on text o k v kept first key made

module _ {f : Function} {g : Fn} {active : List Active} {listed : List ℕ} {z : Maker} {lefts : ℕ → List (Option Inner)} {before behind : ℕ} where
  pub expression_key : (key : Expression) (k : OperandValue) → PassesMentions (mentions_in key) (code key) → RewrittenOperand f g active listed z lefts before behind key k → KeySame f g active listed z lefts before behind (rk (code key)) (mentions_in key) k (depth_of_expression key) (formed_expression key) (space_of_expression key)
  expression_key key k passed operand = record { written = operand_key key k operand; passes = rk_passes (mentions_in key) (code key) passed }

  pub key_deeper : {asked : Asks ℕ} {mentions : List Mention} {k : OperandValue} {deep more : ℕ} {good : Bool} {roomy : ℕ} → deep ≤ more → KeySame f g active listed z lefts before behind asked mentions k deep good roomy → KeySame f g active listed z lefts before behind asked mentions k more good roomy
  key_deeper deeper key =
      let written = key.written in
      record { written = record { can = written.can; leaves = written.leaves; makes = written.makes; few = λ n. omega (arith, written.few n, deeper); low = written.low; grown = written.grown; as_rk = written.as_rk; taken = written.taken }; passes = key.passes }

  -- the name of a field is a string, which is an operand as one that is an expression of its own
  pub text_key : (line : ℕ) (text : Text) (k : OperandValue) → RewrittenOperand f g active listed z lefts before behind (text_literal line text) k → KeySame f g active listed z lefts before behind (rk_text 1 text) [] k 1 true 1
  text_key line text k operand =
      let asked = text_asks text in
      record {
        written = record {
          can = operand.can;
          leaves = operand.leaves;
          makes = operand.makes;
          few = operand.few;
          low = λ short formed m ahead final. (operand.low short refl m ahead (subst (λ got. Final (length m.labels) got.after z) (sym (asked m)) final)).low;
          grown = grows_rk_text 1 text;
          as_rk = λ m ahead final. operand.as_rk m ahead (subst (λ got. Final (length m.labels) got.after z) (sym (asked m)) final) ∙ asked m;
          taken = λ m ahead final. ap (λ got. length got.after.constants) (sym (asked m)) ∙ operand.taken m ahead (subst (λ got. Final (length m.labels) got.after z) (sym (asked m)) final);
        };
        passes = rk_text_passes 1 text;
      }
