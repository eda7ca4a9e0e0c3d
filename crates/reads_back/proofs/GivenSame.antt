-- What is written of arguments has the code of the arguments: lists, of which the last one gives all its values or one, and a string alone.
use Rattle.std.proofs.Common.{◌≡◌, ◌≤◌, ◌*◌, ◌+◌, inr, ap₂, ℕ, suc, Bool, true, false, cond, not, List, [], ◌∷◌, ◌++◌, length, Option, Some, None, refl, sym, ap, ◌∙◌, subst, arith}
use Rattle.std.specs.Prelude.{◌&&◌, slice_get, is_some, option_map}
use Rattle.lua_num.specs.Bytes.{Text}
use Rattle.lua_tree.specs.OneLine.{one_line_expression, one_line_expressions}
use Rattle.lua_tree.specs.Syntax as syntax
use Rattle.lua_tree.specs.Syntax.{Expressions, no_expressions, Expression, argument_list, text_argument}
use Rattle.lua_tree.specs.WellFormed.{depth_of_expressions, formed_expression, formed_expressions}
use Rattle.opcode.specs.declared.op.Op.{Op}
use Rattle.proto.specs.declared.parts.Constant.{Constant}
use Rattle.core_expr.specs.Counting.{taken_behind, taken_behind_values, left_by, left_by_values}
use Rattle.core_expr.specs.Places.{as_text, place}
use Rattle.core_expr.specs.Values.{Value, constant_value, Values, no_values, and_value, Inner}
use Rattle.core_expr.specs.Writing.{Wording, as_arguments, as_text_argument, constant_word, can_write_values, as_value, ends_values, is_bare, is_multiple as can_be_several, unless, word, word_values}
use Rattle.recover_expr.specs.Situation.{Function}
use Rattle.scheme.specs.Expressions.{Coded, is_multiple, load, next_reg}
use Rattle.scheme.specs.Lists.{all_multi, all_next, ends_open as opens, list_count, open_list}
use Rattle.scheme.specs.Making.{Maker, constant}
use Rattle.scheme.specs.Scheme.{all_coded, coded}
use Rattle.scheme.specs.declared.making.Active.{Active}
use Rattle.scheme_stands.proofs.Growth.{Final, before as before_part, before_put, before_take, calm, later}
use Rattle.scheme_stands.proofs.Parts.{grow_all, grows, grows_next, grows_open}
use Rattle.scheme_stands.specs.Words.{Fn}
use Rattle.same_flow.specs.Space.{space_of_expressions}
use Rattle.reads_back.specs.Cores.{AllHaveCores, AreCores, HasCore, HasNumber, IsCore, IsTextGiven, ends_open}
use Rattle.reads_back.proofs.ConstantsSame.{constant_taken}
use Rattle.reads_back.proofs.LiteralReads.{constant_there}
use Rattle.reads_back.proofs.Mentions.{IsAhead, ahead_behind, ahead_front, mentions_in, mentions_in_all, Mention, made_behind, made_both}
use Rattle.reads_back.proofs.PassedMentions.{mentions_passed, next_passes}
use Rattle.reads_back.proofs.Rewriting.{IsMadeBy, Rewritten, RewrittenGiven, arguments_wording, code, given_wording, wording}
use Rattle.reads_back.proofs.ShortWords.{arguments_alike}
use Rattle.reads_back.proofs.InRoom.{closed_in, levels_in}
use Rattle.reads_back.proofs.Tests.{both_hold, first_of_both, second_of_both}
use Rattle.reads_back.proofs.WordsSame.{coded_is, levels_wrapped, next_low, next_same, next_taken, next_wrapped, same_multiple}

-- ---- lists

-- one value is wanted
pub closed_unless : (several : Bool) (w : Wording) → is_multiple w.words ≡ several → is_multiple (unless (not (true && several)) w).words ≡ false
closed_unless true w is = refl
closed_unless false w is = is

open_by : (cs : List Coded) (b : Bool) (m : Maker) → opens cs ≡ b → open_list cs m ≡ cond b (all_multi Op.Call None cs) (all_next cs) m
open_by cs b m is = ap (λ b. cond b (all_multi Op.Call None cs) (all_next cs) m) is

count_by : (cs : List Coded) (b : Bool) → opens cs ≡ b → list_count cs ≡ cond b None (Some (length cs))
count_by cs b is = ap (λ (b : Bool). cond b None (Some (length cs))) is

open_more : (c d : Coded) (cs : List Coded) (m : Maker) → open_list (c ∷ d ∷ cs) m ≡ open_list (d ∷ cs) (next_reg c m)
open_more c d cs m = by (opens (d ∷ cs))
  where
    by : (b : Bool) → cond b (all_multi Op.Call None (c ∷ d ∷ cs)) (all_next (c ∷ d ∷ cs)) m ≡ cond b (all_multi Op.Call None (d ∷ cs)) (all_next (d ∷ cs)) (next_reg c m)
    by true = refl
    by false = refl

count_more : (c d : Coded) (cs : List Coded) → list_count (c ∷ d ∷ cs) ≡ option_map suc (list_count (d ∷ cs))
count_more c d cs = by (opens (d ∷ cs))
  where
    by : (b : Bool) → cond b None (Some (length (c ∷ d ∷ cs))) ≡ option_map suc (cond b None (Some (length (d ∷ cs))))
    by true = refl
    by false = refl

opens_one : (w : Wording) (b : Bool) → is_multiple w.words ≡ b → opens (coded w.words ∷ []) ≡ b
opens_one w b is = ap is_multiple (coded_is w.words) ∙ is

opens_last : (e : Expression) (b : Bool) → b ≡ is_multiple e → opens (code e ∷ []) ≡ b
opens_last e b is = ap is_multiple (coded_is (one_line_expression e)) ∙ same_multiple e ∙ sym is

-- ---- what is asked of a list

-- the values of each expression are rewritten, where `lefts` are the functions that are left where so many were made
abbrev pub AllRewritten : Function → Fn → List Active → (listed : List ℕ) → Maker → (lefts : ℕ → List (Option Inner)) → Expressions → Type 0
AllRewritten f g active listed z lefts no_expressions = Unit {0}
AllRewritten f g active listed z lefts (syntax.expression e es) =
    ((before behind : ℕ) (v : Value) → IsCore g active e before behind v → Rewritten f g active listed z lefts before behind e v) × AllRewritten f g active listed z lefts es

-- the levels of a list, in the forms of fewest levels
abbrev pub ListLow : Function → Fn → List Active → (listed : List ℕ) → Maker → (lefts : ℕ → List (Option Inner)) (before : ℕ) → Expressions → (all : Bool) → Values → Type 0
ListLow f g active listed z lefts before es all values =
    f.short ≡ true → formed_expressions es ≡ true → (m : Maker) → IsAhead g active before (mentions_in_all es) m → Final (length m.labels) (open_list (all_coded (one_line_expressions es)) m) z → (word_values (place f.of listed f.short) (length m.constants) (lefts before) values all).levels ≤ space_of_expressions es

abbrev ListGiven : Function → Fn → List Active → (listed : List ℕ) → Maker → (lefts : ℕ → List (Option Inner)) (before behind : ℕ) → Expressions → (all : Bool) → Values → Type 0
ListGiven f g active listed z lefts before behind es all values = RewrittenGiven f g active listed z lefts before behind (argument_list es) (depth_of_expressions es) values all × ListLow f g active listed z lefts before es all values

-- the short form of a list needs no more
list_in : (f : Function) (listed : List ℕ) (z : Maker) (lefts : ℕ → List (Option Inner)) (before n deep most : ℕ) (values : Values) (all : Bool) → deep ≤ 200 → (arguments_wording f listed z lefts before n values all).levels ≤ 3 * deep + 204 → (arguments_wording f listed z lefts before n values all).levels ≤ most →
    (given_wording f listed z lefts before n values all).levels ≤ most
list_in f listed z lefts before n deep most values all shallow few low =
    let less = (arguments_alike (place f.of listed f.short) n (lefts before) f.short values all).levels (omega (arith, few, shallow)) in
    omega (arith, less, low)

module _ {f : Function} {g : Fn} {active : List Active} {listed : List ℕ} {z : Maker} {lefts : ℕ → List (Option Inner)} {before behind : ℕ} where
  none_given : (all : Bool) → behind ≡ before → ListGiven f g active listed z lefts before behind no_expressions all no_values
  none_given all same = (
    record {
      can = refl;
      leaves = ap lefts (sym same);
      makes = same;
      few = λ n. omega arith;
      low = λ short formed shallow m ahead final. list_in f listed z lefts before (length m.constants) 0 0 no_values all (omega arith) (omega arith) (omega arith);
      counts = λ n. refl;
      part = λ m ahead final. refl;
      taken = λ m ahead final. refl;
    },
    λ short formed m ahead final. omega arith,
  )

  -- ---- the last one

  last_open : (e : Expression) (v : Value) → Rewritten f g active listed z lefts before behind e v → true ≡ is_multiple e → ListGiven f g active listed z lefts before behind (syntax.expression e no_expressions) true (and_value v no_values)
  last_open e v written is = (
    record {
      can = both_hold _ true written.can refl;
      leaves = written.leaves;
      makes = written.makes ∙ sym (made_both (mentions_in e) [] before);
      few = few_here;
      low = λ short formed shallow m ahead final. list_in f listed z lefts before (length m.constants) (depth_of_expressions (syntax.expression e no_expressions)) (space_of_expressions (syntax.expression e no_expressions)) (and_value v no_values) true shallow (few_here (length m.constants)) (low_here short formed m ahead final);
      counts = λ n. count_by (coded (wording f listed z lefts before n v).words ∷ []) true (written_opens n) ∙ sym (count_by (code e ∷ []) true (opens_last e true is));
      part = λ m ahead final.
          open_by (coded (wording f listed z lefts before (length m.constants) v).words ∷ []) true m (written_opens (length m.constants))
          ∙ written.multi (sym is) Op.Call None m (ahead_front (mentions_in e) [] ahead) (inner m final)
          ∙ sym (open_by (code e ∷ []) true m (opens_last e true is));
      taken = λ m ahead final. ap (λ (m : Maker). length m.constants) (open_by (code e ∷ []) true m (opens_last e true is)) ∙ written.multi_taken (sym is) Op.Call None m (ahead_front (mentions_in e) [] ahead) (inner m final);
    },
    low_here,
  )
    where
      written_opens : (n : ℕ) → opens (coded (wording f listed z lefts before n v).words ∷ []) ≡ true
      written_opens n = opens_one (wording f listed z lefts before n v) true (written.several n ∙ written.gives (sym is))

      inner : (m : Maker) → Final (length m.labels) (open_list (code e ∷ []) m) z → Final (length m.labels) ((code e).multi Op.Call None m) z
      inner m final = subst (λ n. Final (length m.labels) n z) (open_by (code e ∷ []) true m (opens_last e true is)) final

      few_here : (n : ℕ) → (arguments_wording f listed z lefts before n (and_value v no_values) true).levels ≤ 3 * depth_of_expressions (syntax.expression e no_expressions) + 204
      few_here n = omega (arith, written.few n)

      low_here : ListLow f g active listed z lefts before (syntax.expression e no_expressions) true (and_value v no_values)
      low_here short formed m ahead final =
          let w = wording f listed z lefts before (length m.constants) v in
          let low = levels_in (is_bare (place f.of listed f.short) (length m.constants) v) e w (written.low short (first_of_both _ _ formed) m (ahead_front (mentions_in e) [] ahead) (inr (inr (sym is, Op.Call, None, inner m final)))) in
          omega (arith, low)

  last_closed : (e : Expression) (v : Value) → Rewritten f g active listed z lefts before behind e v → false ≡ is_multiple e → ListGiven f g active listed z lefts before behind (syntax.expression e no_expressions) false (and_value v no_values)
  last_closed e v written is = (
    record {
      can = both_hold _ true written.can refl;
      leaves = written.leaves;
      makes = written.makes ∙ sym (made_both (mentions_in e) [] before);
      few = few_here;
      low = λ short formed shallow m ahead final. list_in f listed z lefts before (length m.constants) (depth_of_expressions (syntax.expression e no_expressions)) (space_of_expressions (syntax.expression e no_expressions)) (and_value v no_values) false shallow (few_here (length m.constants)) (low_here short formed m ahead final);
      counts = λ n. count_by (coded (last n).words ∷ []) false (written_closed n) ∙ sym (count_by (code e ∷ []) false (opens_last e false is));
      part = λ m ahead final.
          open_by (coded (last (length m.constants)).words ∷ []) false m (written_closed (length m.constants))
          ∙ next_wrapped (not (true && can_be_several v)) (wording f listed z lefts before (length m.constants) v) m
          ∙ next_same written m (ahead_front (mentions_in e) [] ahead) (inner m final)
          ∙ sym (open_by (code e ∷ []) false m (opens_last e false is));
      taken = λ m ahead final. ap (λ (m : Maker). length m.constants) (open_by (code e ∷ []) false m (opens_last e false is)) ∙ next_taken written m (ahead_front (mentions_in e) [] ahead) (inner m final);
    },
    low_here,
  )
    where
      last : (n : ℕ) → Wording
      last n = unless (not (true && can_be_several v)) (wording f listed z lefts before n v)

      written_closed : (n : ℕ) → opens (coded (last n).words ∷ []) ≡ false
      written_closed n = opens_one (last n) false (closed_unless (can_be_several v) (wording f listed z lefts before n v) (written.several n))

      inner : (m : Maker) → Final (length m.labels) (open_list (code e ∷ []) m) z → Final (length m.labels) (next_reg (code e) m) z
      inner m final = subst (λ n. Final (length m.labels) n z) (open_by (code e ∷ []) false m (opens_last e false is)) final

      few_here : (n : ℕ) → (arguments_wording f listed z lefts before n (and_value v no_values) false).levels ≤ 3 * depth_of_expressions (syntax.expression e no_expressions) + 204
      few_here n = omega (arith, written.few n, levels_wrapped (not (true && can_be_several v)) (wording f listed z lefts before n v))

      low_here : ListLow f g active listed z lefts before (syntax.expression e no_expressions) false (and_value v no_values)
      low_here short formed m ahead final =
          let n = length m.constants in
          let low = closed_in (is_bare (place f.of listed f.short) n v) e (wording f listed z lefts before n v) (can_be_several v) (next_low written short (first_of_both _ _ formed) m (ahead_front (mentions_in e) [] ahead) (inner m final)) (written.several n) (sym is) in
          omega (arith, low)

  last_given : (e : Expression) (v : Value) (all : Bool) → Rewritten f g active listed z lefts before behind e v → all ≡ is_multiple e → ListGiven f g active listed z lefts before behind (syntax.expression e no_expressions) all (and_value v no_values)
  last_given e v true written is = last_open e v written is
  last_given e v false written is = last_closed e v written is

module _ {f : Function} {g : Fn} {active : List Active} {listed : List ℕ} {z : Maker} {lefts : ℕ → List (Option Inner)} {before mid behind : ℕ} where
  -- ---- one, and others behind it

  more_given : (e d : Expression) (es : Expressions) (v w : Value) (rest : Values) (all : Bool) → HasCore e → Rewritten f g active listed z lefts before mid e v → ListGiven f g active listed z lefts mid behind (syntax.expression d es) all (and_value w rest) →
      ListGiven f g active listed z lefts before behind (syntax.expression e (syntax.expression d es)) all (and_value v (and_value w rest))
  more_given e d es v w rest all has first others = (
    record {
      can = both_hold _ _ first.can (ap (λ fs. can_write_values (place f.of listed f.short) fs (and_value w rest)) first.leaves ∙ others.0.can);
      leaves = ap (left_by_values (and_value w rest)) first.leaves ∙ others.0.leaves;
      makes = others.0.makes ∙ ap (made_behind rest_mentions) first.makes ∙ sym (made_both (mentions_in e) rest_mentions before);
      few = few_here;
      low = λ short formed shallow m ahead final. list_in f listed z lefts before (length m.constants) (depth_of_expressions (syntax.expression e (syntax.expression d es))) (space_of_expressions (syntax.expression e (syntax.expression d es))) (and_value v (and_value w rest)) all shallow (few_here (length m.constants)) (low_here short formed m ahead final);
      counts = λ n.
          count_more (coded (wording f listed z lefts before n v).words) (second (taken_behind v n) (left_by v (lefts before))) (others_behind (taken_behind v n) (left_by v (lefts before)))
          ∙ ap (λ fs. option_map suc (list_count (written (taken_behind v n) fs))) first.leaves
          ∙ ap (option_map suc) (others.0.counts (taken_behind v n))
          ∙ sym (count_more (code e) (code d) (all_coded (one_line_expressions es)));
      part = λ m ahead final.
          let c = coded (wording f listed z lefts before (length m.constants) v).words in
          let on = next_reg (code e) m in
          let before_rest = here m final in
          open_more c (second (taken_behind v (length m.constants)) (left_by v (lefts before))) (others_behind (taken_behind v (length m.constants)) (left_by v (lefts before))) m
          ∙ ap (open_list (written (taken_behind v (length m.constants)) (left_by v (lefts before)))) (next_same first m (first_ahead m ahead) before_rest)
          ∙ ap (λ n. open_list (written n (left_by v (lefts before))) on) (sym (next_taken first m (first_ahead m ahead) before_rest))
          ∙ ap (λ fs. open_list (written (length on.constants) fs) on) first.leaves
          ∙ others.0.part on (others_ahead m ahead) (final_behind m final)
          ∙ sym (open_more (code e) (code d) (all_coded (one_line_expressions es)) m);
      taken = λ m ahead final.
          let on = next_reg (code e) m in
          ap (λ (m : Maker). length m.constants) (open_more (code e) (code d) (all_coded (one_line_expressions es)) m)
          ∙ others.0.taken on (others_ahead m ahead) (final_behind m final)
          ∙ ap (taken_behind_values (and_value w rest)) (next_taken first m (first_ahead m ahead) (here m final));
    },
    low_here,
  )
    where
      second : (n : ℕ) → List (Option Inner) → Coded
      second n fs = coded (as_value (ends_values rest && not all) w (word (place f.of listed f.short) n fs w)).words

      others_behind : (n : ℕ) → List (Option Inner) → List Coded
      others_behind n fs = all_coded (word_values (place f.of listed f.short) (taken_behind w n) (left_by w fs) rest all).words

      written : (n : ℕ) → List (Option Inner) → List Coded
      written n fs = all_coded (word_values (place f.of listed f.short) n fs (and_value w rest) all).words

      behind_first : List Coded
      behind_first = all_coded (one_line_expressions (syntax.expression d es))

      inner : (m : Maker) → Final (length m.labels) (open_list (code e ∷ behind_first) m) z → Final (length m.labels) (open_list behind_first (next_reg (code e) m)) z
      inner m final = subst (λ n. Final (length m.labels) n z) (open_more (code e) (code d) (all_coded (one_line_expressions es)) m) final

      here : (m : Maker) → Final (length m.labels) (open_list (code e ∷ behind_first) m) z → Final (length m.labels) (next_reg (code e) m) z
      here m final = before_part (grows_open {v = calm} behind_first (grow_all calm (one_line_expressions (syntax.expression d es))) (next_reg (code e) m)) (inner m final)

      rest_mentions : List Mention
      rest_mentions = mentions_in_all (syntax.expression d es)

      first_ahead : (m : Maker) → IsAhead g active before (mentions_in e ++ rest_mentions) m → IsAhead g active before (mentions_in e) m
      first_ahead m ahead = ahead_front (mentions_in e) rest_mentions ahead

      others_ahead : (m : Maker) → IsAhead g active before (mentions_in e ++ rest_mentions) m → IsAhead g active mid rest_mentions (next_reg (code e) m)
      others_ahead m ahead = ahead_behind (mentions_in e) rest_mentions first.makes (next_passes (mentions_in e) (code e) (mentions_passed e has) m) ahead

      final_behind : (m : Maker) → Final (length m.labels) (open_list (code e ∷ behind_first) m) z → Final (length (next_reg (code e) m).labels) (open_list behind_first (next_reg (code e) m)) z
      final_behind m final = let grown = grows_next {v = calm} (code e) (grows calm (one_line_expression e)) m in later grown.more (inner m final)

      few_here : (n : ℕ) → (arguments_wording f listed z lefts before n (and_value v (and_value w rest)) all).levels ≤ 3 * depth_of_expressions (syntax.expression e (syntax.expression d es)) + 204
      few_here n =
          let same = ap (λ fs. (word_values (place f.of listed f.short) (taken_behind v n) fs (and_value w rest) all).levels) first.leaves in
          omega (arith, same, first.few n, others.0.few (taken_behind v n))

      low_here : ListLow f g active listed z lefts before (syntax.expression e (syntax.expression d es)) all (and_value v (and_value w rest))
      low_here short formed m ahead final =
          let n = length m.constants in
          let on = next_reg (code e) m in
          let before_rest = here m final in
          let one = levels_in (is_bare (place f.of listed f.short) n v) e (wording f listed z lefts before n v) (next_low first short (first_of_both _ _ formed) m (first_ahead m ahead) before_rest) in
          let other = others.1 short (second_of_both (formed_expression e) _ formed) on (others_ahead m ahead) (final_behind m final) in
          let same_left = ap (λ fs. (word_values (place f.of listed f.short) (taken_behind v n) fs (and_value w rest) all).levels) first.leaves in
          let same_taken = ap (λ n. (word_values (place f.of listed f.short) n (lefts mid) (and_value w rest) all).levels) (next_taken first m (first_ahead m ahead) before_rest) in
          omega (arith, one, other, same_left, same_taken)

module _ {f : Function} {g : Fn} {active : List Active} {listed : List ℕ} {z : Maker} (lefts : ℕ → List (Option Inner)) (made : IsMadeBy f g active listed z) where
  -- a list, of which the last one gives all its values or one
  list_given : (es : Expressions) (before behind : ℕ) (values : Values) (all : Bool) → AllHaveCores es → AllRewritten f g active listed z lefts es → AreCores g active es before behind values → all ≡ ends_open es →
      ListGiven f g active listed z lefts before behind es all values
  list_given no_expressions before behind vs all have written are is = subst (ListGiven f g active listed z lefts before behind no_expressions all) (sym are.1) (none_given all are.0)
  list_given (syntax.expression e no_expressions) before behind vs all have written (mid, (v, rest, core, (as_many, none), is_first)) is =
      subst (ListGiven f g active listed z lefts before behind (syntax.expression e no_expressions) all) (sym (is_first ∙ ap (and_value v) none))
      (last_given e v all (subst (λ (made : ℕ). Rewritten f g active listed z lefts before made e v) (sym as_many) (written.0 before mid v core)) is)
  list_given (syntax.expression e (syntax.expression d es)) before behind vs all have written (mid, (v, rest, core, are, is_first)) is =
      let others = list_given (syntax.expression d es) mid behind rest all have.1 written.1 are is in
      let more = are.1 in
      subst (ListGiven f g active listed z lefts before behind (syntax.expression e (syntax.expression d es)) all) (sym (is_first ∙ ap (and_value v) more.4))
      (more_given e d es v more.0 more.1 all have.0 (written.0 before mid v core) (subst (ListGiven f g active listed z lefts mid behind (syntax.expression d es) all) more.4 others))

  pub list_rewritten : (es : Expressions) (before behind : ℕ) (values : Values) (all : Bool) → AllHaveCores es → AllRewritten f g active listed z lefts es → AreCores g active es before behind values → all ≡ ends_open es →
      RewrittenGiven f g active listed z lefts before behind (argument_list es) (depth_of_expressions es) values all
  list_rewritten es before behind values all have written are is = (list_given es before behind values all have written are is).0

  pub list_low : (es : Expressions) (before behind : ℕ) (values : Values) (all : Bool) → AllHaveCores es → AllRewritten f g active listed z lefts es → AreCores g active es before behind values → all ≡ ends_open es → ListLow f g active listed z lefts before es all values
  list_low es before behind values all have written are is = (list_given es before behind values all have written are is).1

module _ {f : Function} {g : Fn} {active : List Active} {listed : List ℕ} {z : Maker} {lefts : ℕ → List (Option Inner)} {before : ℕ} (made : IsMadeBy f g active listed z) where
  -- the number of a string is the only value
  text_given : (text : Text) (number : ℕ) → HasNumber g (Constant.Text text) number → RewrittenGiven f g active listed z lefts before before (text_argument text) 1 (and_value (constant_value number) no_values) false
  text_given text number has = record {
    can = both_hold _ true (ap is_some there) refl;
    leaves = refl;
    makes = refl;
    few = λ n. let same = ap (λ k. (constant_word k).levels) there in omega (arith, same);
    low = λ short formed shallow m ahead final.
        let n = length m.constants in
        let list = word_values (place f.of listed f.short) n (lefts before) (and_value (constant_value number) no_values) false in
        let same = ap₂ (λ (short : Bool) (k : Option Constant). (as_arguments (short && true) (as_text_argument (as_text k)) list).levels) short there in
        omega (arith, same);
    counts = λ n. ap (λ k. list_count (coded (constant_word k).words ∷ [])) there;
    part = λ m ahead final. ap (λ k. open_list (coded (constant_word k).words ∷ []) m) there;
    taken = λ m ahead final.
        constant_taken made (Constant.Text text) number m has (before_put 1 _ (constant (Constant.Text text) m).after (before_take 1 (load 1 m.free (Constant.Text text) m) final));
  }
    where
      there : slice_get f.of.constants number ≡ Some (Constant.Text text)
      there = constant_there number (Constant.Text text) made.is_function has.is

  -- a string alone, which is written as a list
  pub text_rewritten_given : (text : Text) (values : Values) (all : Bool) → IsTextGiven g text values all → RewrittenGiven f g active listed z lefts before before (text_argument text) 1 values all
  text_rewritten_given text values all are =
      let known = are.0.1 in
      subst (λ (all : Bool). RewrittenGiven f g active listed z lefts before before (text_argument text) 1 values all) (sym are.1)
      (subst (λ (vs : Values). RewrittenGiven f g active listed z lefts before before (text_argument text) 1 vs false) (sym (are.0.2 ∙ ap (λ v. and_value v no_values) known.2))
      (text_given text known.0 known.1))
