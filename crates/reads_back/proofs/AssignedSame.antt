-- An assignment that is written of what was read makes the same words.
use Rattle.std.proofs.Common.{◌≡◌, ℕ, suc, ◌+◌, ◌-◌, ◌*◌, ◌≤◌, ◌<◌, Bool, true, false, cond, List, [], ◌∷◌, ◌++◌, length, nat_lt, Option, Some, None, refl, sym, ap, ap₂, ◌∙◌, subst, arith, inl, inr, ◌⊎◌, max, zero}
use Rattle.std.proofs.lemmas.Bool.{eq-eqb, eqb-false, eqb-true, ltb-false, ltb-true, ne_eqb}
use Rattle.std.specs.Prelude.{◌&&◌, ◌==◌, not, if◌then◌else◌}
use Rattle.lua_num.specs.Bytes.{Text}
use Rattle.lua_tree.specs.OneLine.{one_line_expressions}
use Rattle.lua_tree.specs.Syntax as syntax
use Rattle.lua_tree.specs.Syntax.{Expression, Expressions, no_expressions, name_expression, index_expression, field_expression, assignment, nil_literal}
use Rattle.lua_tree.specs.WellFormed.{depth_of_expressions, depth_of_statement, has_expressions, formed_expressions, formed_expression, are_targets}
use Rattle.core_expr.specs.Counting.{left_by, left_by_operand, left_by_values, taken_behind, taken_behind_operand, taken_behind_values}
use Rattle.core_expr.specs.Places.{Place, place}
use Rattle.core_expr.specs.Targets.{TargetValue, global_target, index_target, local_target, upvalue_target}
use Rattle.core_expr.specs.Values.{OperandValue, Values, no_values, and_value, nil_value, value_operand, Inner}
use Rattle.core_expr.specs.Writing.{can_write_operand, can_write_values, is_bare, single as single_word, word_operand, word_values}
use Rattle.recover_expr.specs.Entries.{and_last_value}
use Rattle.recover_expr.specs.Lists.{value_count}
use Rattle.recover_expr.specs.Situation.{Function}
use Rattle.scheme.specs.Expressions.{Coded, Target}
use Rattle.scheme.specs.Lists.{adjust, all_next, nils}
use Rattle.scheme.specs.Making.{Got, Maker, active_count, answer}
use Rattle.scheme.specs.Scheme.{all_coded}
use Rattle.scheme.specs.Statements.{all_targets, assign_adjusted, assign_part, copies, each_stored, stored_from, clashes, copied}
use Rattle.scheme.specs.declared.making.Active.{Active}
use Rattle.scheme_stands.proofs.Growth.{Final, before as before_part, calm, later}
use Rattle.scheme_stands.proofs.Lines.{grows_adjust}
use Rattle.scheme_stands.proofs.Parts.{AllGrow, grow_all}
use Rattle.scheme_stands.specs.Words.{Fn}
use Rattle.same_flow.specs.Space.{space_of_expressions, space_of_statement, space_of_expression}
use Rattle.reads_back.specs.Acted.{AreActTargets, AreAssigned, AreTargets, AreValues, AreWithOperand, Assigned, EndWithOperand, Assigns, IsTarget, all_named_behind, assigned, can_write_last, is_part, last_target, left_by_last, left_by_targets, some_missing, taken_behind_targets, with_last_nil, words_assigned, words_targets, named_by, lean_assignment, function_in}
use Rattle.reads_back.specs.Cores.{AllHaveCores, AreCores, ends_open}
use Rattle.reads_back.proofs.AdjustedEntries.{count_last}
use Rattle.reads_back.proofs.DeclaredSame.{Adjusts, adjust_closed, closed_written, more_written, nil_written, nils_one, open_written}
use Rattle.reads_back.proofs.EachStoredSame.{with_operand_levels, operand_levels_are, name_no_part, EachSame, LastNoLocal, Placed, and_nil, as_many_places, before_each, before_stored, each_values, each_with_operand, nil_all_rewritten, nil_cores, nil_count, nil_from, nil_have, nil_names, nil_operand, operand_written, placed_of, places, places_are, stored_taken, targets_are, targets_of, with_operand_coded}
use Rattle.reads_back.proofs.GivenSame.{AllRewritten}
use Rattle.reads_back.proofs.ListsSame.{coded_count, codes_of, cores_count, list_few, opens_is, values_coded}
use Rattle.reads_back.proofs.LeanTargets.{IsLean}
use Rattle.reads_back.proofs.Mentions.{IsAhead, ahead_behind, ahead_front, mentions_in_all, made_behind, made_both, Passed, Mention}
use Rattle.reads_back.proofs.NamedSame.{lean_room_alone, lean_room_values, lean_alone, lean_values, named_few, named_same, said_lean}
use Rattle.reads_back.proofs.Rewriting.{IsMadeBy, RewrittenAct}
use Rattle.reads_back.proofs.Said.{can_be_said, can_say, says_function}
use Rattle.reads_back.proofs.TargetsSame.{ArePlaces, TargetsSame, copies_constants, copies_grow, copies_places, targets_grow, written_count}
use Rattle.reads_back.proofs.TargetsWritten.{TargetsWritten, lean_can_name, same_targets, targets_can}
use Rattle.reads_back.proofs.Rooms.{lean_room_assignment, some_room}
use Rattle.reads_back.proofs.Taking.{taken_by}
use Rattle.reads_back.proofs.Tests.{both_hold, not_so, first_of_both, second_of_both}
use Rattle.reads_back.proofs.WordsSame.{levels_wrapped}

-- ---- copies of locals that are targets

-- copies of locals pass none
copied_pass : {mentions : List Mention} {m : Maker} (clash : Bool) (x : ℕ) (targets : List Target) (n : Maker) → Passed mentions m n → Passed mentions m (cond clash (copied 1 x targets) (answer targets) n).after
copied_pass true x targets n passed = record { around = passed.around; behind = passed.behind }
copied_pass false x targets n passed = passed

copies_pass : {mentions : List Mention} {m : Maker} (count : ℕ) (targets : List Target) (n : Maker) → Passed mentions m n → Passed mentions m (copies 1 count targets n).after
copies_pass zero targets n passed = passed
copies_pass (suc x) targets n passed = let before = copies 1 x targets n in copied_pass (clashes x targets) x before.value before.after (copies_pass x targets n passed)

-- ---- where the values go

-- each value goes to its place, or as many as there are places do, from their registers
abbrev goes_to : {g : Fn} → List (Placed g) → List Coded → Maker → Maker
goes_to placed cs = cond (length cs == length (places placed)) (each_stored 1 (places placed) cs) (assign_adjusted 1 (places placed) cs)

goes_each : {g : Fn} (placed : List (Placed g)) (cs : List Coded) (m : Maker) → length cs ≡ length (places placed) → goes_to placed cs m ≡ each_stored 1 (places placed) cs m
goes_each placed cs m same = ap (λ same. cond same (each_stored 1 (places placed) cs) (assign_adjusted 1 (places placed) cs) m) (eq-eqb (length cs) (length (places placed)) same)

goes_adjusted : {g : Fn} (placed : List (Placed g)) (cs : List Coded) (m : Maker) → (length cs ≡ length (places placed) → ⊥) → goes_to placed cs m ≡ assign_adjusted 1 (places placed) cs m
goes_adjusted placed cs m other = ap (λ same. cond same (each_stored 1 (places placed) cs) (assign_adjusted 1 (places placed) cs) m) (ne_eqb (length cs) (length (places placed)) other)

before_goes : {k : ℕ} {z : Maker} (each : Bool) (to : List Target) (cs : List Coded) → AllGrow calm cs → (m : Maker) → Final k (cond each (each_stored 1 to cs) (assign_adjusted 1 to cs) m) z → Final k m z
before_goes true to cs grow m final = before_each to cs grow m final
before_goes false to cs grow m final = before_part (grows_adjust calm 1 cs grow (length to) m) (before_stored m.free to (adjust 1 cs (length to) m) final)

-- where they are adjusted
adjust_final : {g : Fn} {z : Maker} {k : ℕ} (placed : List (Placed g)) (es : Expressions) → (length (codes_of es) ≡ length (places placed) → ⊥) → (m : Maker) → Final k (goes_to placed (codes_of es) m) z → Final k (adjust 1 (codes_of es) (length (places placed)) m) z
adjust_final {z = z} {k = k} placed es other m final = before_stored m.free (places placed) (adjust 1 (codes_of es) (length (places placed)) m) (subst (λ (n : Maker). Final k n z) (goes_adjusted placed (codes_of es) m other) final)

-- what is written of the values
abbrev assigned_coded : Place → ℕ → List (Option Inner) → Assigned → List Coded
assigned_coded at n fs to = all_coded (words_assigned at n fs to.values to.all to.last).words

module _ (f : Function) (g : Fn) (active : List Active) (listed : List ℕ) (z : Maker) (before : ℕ) where
  -- what is written of the values, where so many constants are taken, goes to these places as the expressions do
  record Goes (placed : List (Placed g)) (es : Expressions) (written : ℕ → List Coded) (taken levels : ℕ → ℕ) (most : ℕ) : Type 0 where
    same : (m : Maker) → IsAhead g active before (mentions_in_all es) m → Final (length m.labels) (goes_to placed (codes_of es) m) z → goes_to placed (written (length m.constants)) m ≡ goes_to placed (codes_of es) m
    takes : (m : Maker) → IsAhead g active before (mentions_in_all es) m → Final (length m.labels) (goes_to placed (codes_of es) m) z → length (goes_to placed (codes_of es) m).constants ≡ all_named_behind (targets_of placed) (taken (length m.constants))
    -- in the forms of fewest levels
    low : f.short ≡ true → formed_expressions es ≡ true → (m : Maker) → IsAhead g active before (mentions_in_all es) m → Final (length m.labels) (goes_to placed (codes_of es) m) z → levels (length m.constants) ≤ most

-- a nil that is missing may stand in parentheses as an operand
abbrev nil_room : Option OperandValue → ℕ
nil_room (Some (value_operand nil_value)) = 2
nil_room last = 0

nil_two : (last : Option OperandValue) → nil_room last ≤ 2
nil_two (Some (value_operand nil_value)) = omega arith
nil_two last = omega arith

module _ (f : Function) (g : Fn) (active : List Active) (listed : List ℕ) (z : Maker) (lefts : ℕ → List (Option Inner)) (before behind : ℕ) (ts : List TargetValue) (es : Expressions) where
  -- what is asked of the values that are written, whichever places the targets have
  record Stores (to : Assigned) : Type 0 where
    can : (can_write_values (place f.of listed f.short) (lefts before) to.values && can_write_last (place f.of listed f.short) (left_by_values to.values (lefts before)) to.last) ≡ true
    leaves : left_by_last to.last (left_by_values to.values (lefts before)) ≡ lefts behind
    makes : behind ≡ made_behind (mentions_in_all es) before
    few : (n : ℕ) → (words_assigned (place f.of listed f.short) n (lefts before) to.values to.all to.last).levels ≤ 3 * depth_of_expressions es + 203
    goes : (placed : List (Placed g)) → targets_of placed ≡ ts → Goes f g active listed z before placed es (λ n. assigned_coded (place f.of listed f.short) n (lefts before) to) (taken_by to)
        (λ n. (words_assigned (place f.of listed f.short) n (lefts before) to.values to.all to.last).levels) (max (space_of_expressions es) (nil_room to.last))

-- ---- as many values as targets, and others

module _ {f : Function} {g : Fn} {active : List Active} {listed : List ℕ} {z : Maker} {before : ℕ} (placed : List (Placed g)) (es : Expressions) where
  each_goes : (written : ℕ → List Coded) (taken levels each_levels : ℕ → ℕ) (most : ℕ) → ((n : ℕ) → levels n ≤ each_levels n) → space_of_expressions es ≤ most → length (codes_of es) ≡ length (places placed) → ((n : ℕ) → length (written n) ≡ length (places placed)) → EachSame f g active listed z before placed es written taken each_levels →
      Goes f g active listed z before placed es written taken levels most
  each_goes written taken levels each_levels most less roomy exact counts each = record {
    same = λ m ahead final. goes_each placed (written (length m.constants)) m (counts (length m.constants)) ∙ each.same m ahead (inner m final) ∙ sym (goes_each placed (codes_of es) m exact);
    takes = λ m ahead final. ap (λ (n : Maker). length n.constants) (goes_each placed (codes_of es) m exact) ∙ each.takes m ahead (inner m final);
    low = λ short formed m ahead final. omega (arith, less (length m.constants), roomy, each.low short formed m ahead (inner m final));
  }
    where
      inner : (m : Maker) → Final (length m.labels) (goes_to placed (codes_of es) m) z → Final (length m.labels) (each_stored 1 (places placed) (codes_of es) m) z
      inner m final = subst (λ (n : Maker). Final (length m.labels) n z) (goes_each placed (codes_of es) m exact) final

  adjusted_goes : (lefts : ℕ → List (Option Inner)) (behind : ℕ) (made : IsMadeBy f g active listed z) (vs : Values) (all : Bool) → (es ≡ no_expressions → vs ≡ no_values) → (length (codes_of es) ≡ length (places placed) → ⊥) → (value_count vs ≡ length (places placed) → ⊥) → Adjusts f g active listed z lefts before behind (length (places placed)) es vs all →
      Goes f g active listed z before placed es (λ n. values_coded (place f.of listed f.short) n (lefts before) vs all) (taken_behind_values vs) (λ n. (word_values (place f.of listed f.short) n (lefts before) vs all).levels) (max (space_of_expressions es) 0)
  adjusted_goes lefts behind made vs all some other written_other adjusts = record {
    same = λ m ahead final.
        goes_adjusted placed (written (length m.constants)) m (λ same. written_other (sym (coded_count (place f.of listed f.short) (length m.constants) (lefts before) vs all) ∙ same))
        ∙ ap (stored_from 1 m.free (places placed)) (adjusts.same m ahead (adjusted_final m final))
        ∙ sym (goes_adjusted placed (codes_of es) m other);
    takes = λ m ahead final.
        ap (λ (n : Maker). length n.constants) (goes_adjusted placed (codes_of es) m other)
        ∙ stored_taken made m.free placed (adjust 1 (codes_of es) (length (places placed)) m) (inner m final)
        ∙ ap (all_named_behind (targets_of placed)) (adjusts.taken m ahead (adjusted_final m final));
    low = λ short formed m ahead final. omega (arith, adjusts.low some short formed m ahead (adjusted_final m final));
  }
    where
      written : ℕ → List Coded
      written n = values_coded (place f.of listed f.short) n (lefts before) vs all

      inner : (m : Maker) → Final (length m.labels) (goes_to placed (codes_of es) m) z → Final (length m.labels) (assign_adjusted 1 (places placed) (codes_of es) m) z
      inner m final = subst (λ (n : Maker). Final (length m.labels) n z) (goes_adjusted placed (codes_of es) m other) final

      adjusted_final : (m : Maker) → Final (length m.labels) (goes_to placed (codes_of es) m) z → Final (length m.labels) (adjust 1 (codes_of es) (length (places placed)) m) z
      adjusted_final m final = adjust_final placed es other m final

  -- one value is missing: it is a nil, as if one stood there in parentheses
  nil_goes : (written : ℕ → List Coded) (taken levels each_levels : ℕ → ℕ) (most : ℕ) → suc (length (codes_of es)) ≡ length (places placed) → ends_open es ≡ false → LastNoLocal (last_target (targets_of placed)) → ((n : ℕ) → length (written n) ≡ length (places placed)) →
      EachSame f g active listed z before placed (and_nil es) written taken each_levels →
      (f.short ≡ true → formed_expressions es ≡ true → (m : Maker) → IsAhead g active before (mentions_in_all es) m → Final (length m.labels) (goes_to placed (codes_of es) m) z → (formed_expressions (and_nil es) ≡ true → each_levels (length m.constants) ≤ space_of_expressions (and_nil es)) → levels (length m.constants) ≤ most) →
      Goes f g active listed z before placed es written taken levels most
  nil_goes written taken levels each_levels most exact closed no_local counts each in_room = record {
    same = λ m ahead final. goes_each placed (written (length m.constants)) m (counts (length m.constants)) ∙ each.same m (nil_ahead m ahead) (inner m final) ∙ sym (nil_is m);
    takes = λ m ahead final. ap (λ (n : Maker). length n.constants) (nil_is m) ∙ each.takes m (nil_ahead m ahead) (inner m final);
    low = λ short formed m ahead final. in_room short formed m ahead final (λ nil_formed. each.low short nil_formed m (nil_ahead m ahead) (inner m final));
  }
    where
      one : length (places placed) - length (codes_of es) ≡ 1
      one = omega (arith, exact)

      nil_is : (m : Maker) → goes_to placed (codes_of es) m ≡ each_stored 1 (places placed) (codes_of (and_nil es)) m
      nil_is m =
          goes_adjusted placed (codes_of es) m (λ same. omega (arith, same, exact))
          ∙ ap (stored_from 1 m.free (places placed))
          (adjust_closed (codes_of es) (length (places placed)) m (omega (arith, exact)) (opens_is es ∙ closed) ∙ ap (λ k. nils 1 k (all_next (codes_of es) m)) one ∙ nils_one (all_next (codes_of es) m))
          ∙ sym (nil_from placed es m (sym exact) no_local)

      nil_ahead : (m : Maker) → IsAhead g active before (mentions_in_all es) m → IsAhead g active before (mentions_in_all (and_nil es)) m
      nil_ahead m ahead = subst (λ texts. IsAhead g active before texts m) (sym (nil_names es)) ahead

      inner : (m : Maker) → Final (length m.labels) (goes_to placed (codes_of es) m) z → Final (length m.labels) (each_stored 1 (places placed) (codes_of (and_nil es)) m) z
      inner m final = subst (λ (n : Maker). Final (length m.labels) n z) (nil_is m) final

-- ---- how many there are, and the nil that is missing

-- one operand more
operand_count : (at : Place) (n : ℕ) (fs : List (Option Inner)) (vs : Values) (o : OperandValue) → length (with_operand_coded at n fs vs o) ≡ suc (value_count vs)
operand_count at n fs no_values o = refl
operand_count at n fs (and_value v rest) o = ap suc (operand_count at (taken_behind v n) (left_by v fs) rest o)

end_count : (g : Fn) (active : List Active) (es : Expressions) (before behind : ℕ) (vs : Values) (o : OperandValue) → EndWithOperand g active es o before behind vs → length (codes_of es) ≡ suc (value_count vs)
end_count g active no_expressions before behind vs o are = absurd are
end_count g active (syntax.expression e no_expressions) before behind vs o are = ap (λ vs. suc (value_count vs)) (sym are.0)
end_count g active (syntax.expression e (syntax.expression d es)) before behind vs o (mid, (v, rest, core, are, is)) =
    ap suc (end_count g active (syntax.expression d es) mid behind rest o are) ∙ ap (λ vs. suc (value_count vs)) (sym is)

nil_few : (at : Place) (n : ℕ) (fs : List (Option Inner)) → (word_operand at n fs (value_operand nil_value)).levels ≤ 2
nil_few at n fs = levels_wrapped (is_bare at n nil_value) (single_word (nil_literal 1))

-- where a function goes to a path no nil is missing
no_nil_room : (vs : Values) (last : Option OperandValue) (number : ℕ) → function_in vs last ≡ Some number → nil_room last ≡ 0
no_nil_room no_values (Some (value_operand nil_value)) number is = cc
no_nil_room (and_value v no_values) (Some (value_operand nil_value)) number is = cc
no_nil_room (and_value v (and_value u rest)) (Some (value_operand nil_value)) number is = cc
no_nil_room vs last number is = refl

-- with a nil behind them, in parentheses
nil_formed : (es : Expressions) → formed_expressions es ≡ true → formed_expressions (and_nil es) ≡ true
nil_formed no_expressions formed = refl
nil_formed (syntax.expression e es) formed = both_hold _ _ (first_of_both _ _ formed) (nil_formed es (second_of_both (formed_expression e) _ formed))

nil_roomy : (es : Expressions) → space_of_expressions (and_nil es) ≡ max (space_of_expressions es) 2
nil_roomy no_expressions = omega arith
nil_roomy (syntax.expression e es) = omega (arith, nil_roomy es)

given_some : {A : Type 0} (es : Expressions) → has_expressions es ≡ true → es ≡ no_expressions → A
given_some no_expressions given none = not_so given
given_some (syntax.expression e es) given none = cc

some_rooms : (es : Expressions) → has_expressions es ≡ true → 1 ≤ space_of_expressions es
some_rooms no_expressions some = not_so some
some_rooms (syntax.expression e es) some = omega (arith, some_room e)

first_fails : (a b : Bool) → b ≡ true → (a && b) ≡ false → a ≡ false
first_fails true b is fails = sym is ∙ fails
first_fails false b is fails = refl

assigned_is : (to : Assigned) (o : OperandValue) → to.all ≡ true → to.last ≡ Some o → record { values = to.values; all = true; last = Some o } ≡ to
assigned_is to o all last = ap₂ (λ (all : Bool) (last : Option OperandValue). record { values = to.values; all = all; last = last }) (sym all) (sym last)

-- ---- which values are written

module _ {f : Function} {g : Fn} {active : List Active} {listed : List ℕ} {z : Maker} (lefts : ℕ → List (Option Inner)) (made : IsMadeBy f g active listed z) (ts : List TargetValue) (es : Expressions) (before behind : ℕ)
    (has : AllHaveCores es) (written : AllRewritten f g active listed z lefts es) (given : has_expressions es ≡ true) where
  abbrev left : List (Option Inner)
  left = lefts before

  abbrev IsStored : Assigned → Type 0
  IsStored to = Stores f g active listed z lefts before behind ts es to

  -- how many places there are
  place_count : (placed : List (Placed g)) → targets_of placed ≡ ts → length (places placed) ≡ length ts
  place_count placed is = as_many_places placed ∙ ap length is

  last_is : (placed : List (Placed g)) → targets_of placed ≡ ts → last_target (targets_of placed) ≡ last_target ts
  last_is placed is = ap last_target is

  -- values, and an operand behind them
  operand_stores : (vs : Values) (o : OperandValue) → is_part (last_target ts) ≡ true → suc (value_count vs) ≡ length ts → EndWithOperand g active es o before behind vs → IsStored (record { values = vs; all = true; last = Some o })
  operand_stores vs o part exact are =
      let at = place f.of listed f.short in
      let all = operand_written lefts made es before behind vs o has written are in
      record {
        can = both_hold _ _ all.can (ap (λ fs. can_write_operand at fs o) all.leaves ∙ all.last_can);
        leaves = ap (left_by_operand o) all.leaves ∙ all.last_leaves;
        makes = all.makes;
        few = λ n. omega (arith, all.few n, ap (λ fs. (word_operand at (taken_behind_values vs n) fs o).levels) all.leaves, all.last_few (taken_behind_values vs n));
        goes = λ placed is.
            let count = place_count placed is in
            let counts = end_count g active es before behind vs o are ∙ exact ∙ sym count in
            each_goes placed es (λ n. with_operand_coded at n left vs o) (λ n. taken_behind_operand o (taken_behind_values vs n)) (λ n. (words_assigned at n left vs true (Some o)).levels) (λ n. with_operand_levels at n left vs o) (max (space_of_expressions es) (nil_room (Some o)))
            (λ n. omega (arith, operand_levels_are at n left vs o)) (omega arith) counts (λ n. operand_count at n left vs o ∙ exact ∙ sym count)
            (each_with_operand lefts made placed es before behind vs o counts (ap is_part (last_is placed is) ∙ part) has written are);
      }

  module _ (from : Values) (are : AreCores g active es before behind from) where
    as_many : length (codes_of es) ≡ value_count from
    as_many = cores_count g active es before behind from are

    -- only values
    values_store : (vs : Values) (all : Bool) → Adjusts f g active listed z lefts before behind (length ts) es vs all →
        ((placed : List (Placed g)) → targets_of placed ≡ ts → Goes f g active listed z before placed es (λ n. values_coded (place f.of listed f.short) n left vs all) (taken_behind_values vs) (λ n. (word_values (place f.of listed f.short) n left vs all).levels) (max (space_of_expressions es) 0)) → IsStored (record { values = vs; all = all; last = None })
    values_store vs all adjusts goes = record {
      can = both_hold _ _ adjusts.can refl;
      leaves = adjusts.leaves;
      makes = adjusts.makes;
      few = λ n. omega (arith, list_few (place f.of listed f.short) (3 * depth_of_expressions es + 202) n left vs all (adjusts.fine n));
      goes = goes;
    }

    -- each value is stored
    each_stores : value_count from ≡ length ts → is_part (last_target ts) ≡ false → IsStored (record { values = from; all = true; last = None })
    each_stores exact no_part =
        let at = place f.of listed f.short in
        values_store from true (more_written lefts made (length ts) es before behind from has written are (omega (arith, exact))) (λ placed is.
        let counts = exact ∙ sym (place_count placed is) in
        each_goes placed es (λ n. values_coded at n left from true) (taken_behind_values from) (λ n. (word_values at n left from true).levels) (λ n. (word_values at n left from true).levels) (max (space_of_expressions es) 0) (λ n. omega arith) (omega arith) (as_many ∙ counts) (λ n. coded_count at n left from true ∙ counts)
        (each_values lefts made placed es before behind from (as_many ∙ counts) (ap is_part (last_is placed is) ∙ no_part) has written are))

    -- fewer values or more: they are adjusted
    from_stores : (value_count from ≡ length ts → ⊥) → (all : Bool) → Adjusts f g active listed z lefts before behind (length ts) es from all → IsStored (record { values = from; all = all; last = None })
    from_stores other all adjusts =
        values_store from all adjusts (λ placed is.
        let count = place_count placed is in
        adjusted_goes placed es lefts behind made from all (given_some es given) (λ same. other (sym as_many ∙ same ∙ count)) (λ same. other (same ∙ count))
        (subst (λ count. Adjusts f g active listed z lefts before behind count es from all) (sym count) adjusts))

    -- one is missing
    module _ (exact : suc (value_count from) ≡ length ts) (closed : ends_open es ≡ false) where
      fewer : value_count from < length ts
      fewer = omega (arith, exact)

      last_value_stores : (t : Option TargetValue) → last_target ts ≡ t → is_part t ≡ false → LastNoLocal t → IsStored (record { values = and_last_value from nil_value; all = true; last = None })
      last_value_stores t last no_part no_local =
          let at = place f.of listed f.short in
          values_store (and_last_value from nil_value) true (nil_written lefts made (length ts) es before behind from has written are fewer closed exact) (λ placed is.
          let count = exact ∙ sym (place_count placed is) in
          let so = last_is placed is ∙ last in
          let words = λ (n : ℕ). (word_values at n left (and_last_value from nil_value) true).levels in
          let adjusts = subst (λ count. Adjusts f g active listed z lefts before behind count es (and_last_value from nil_value) true) (sym (place_count placed is)) (nil_written lefts made (length ts) es before behind from has written are fewer closed exact) in
          nil_goes placed es (λ n. values_coded at n left (and_last_value from nil_value) true) (taken_behind_values (and_last_value from nil_value)) words words (max (space_of_expressions es) 0) (ap suc as_many ∙ count) closed (subst LastNoLocal (sym so) no_local)
          (λ n. coded_count at n left (and_last_value from nil_value) true ∙ count_last from nil_value ∙ count)
          (each_values lefts made placed (and_nil es) before behind (and_last_value from nil_value) (nil_count es ∙ ap suc as_many ∙ count) (ap is_part so ∙ no_part) (nil_have es has) (nil_all_rewritten lefts made es written) (nil_cores g active es before behind from are))
          (λ short formed m ahead final other. omega (arith, adjusts.low (given_some es given) short formed m ahead (adjust_final placed es (λ same. omega (arith, same, ap suc as_many ∙ count)) m final))))

      last_operand_stores : (t : Option TargetValue) → last_target ts ≡ t → is_part t ≡ true → LastNoLocal t → IsStored (record { values = from; all = true; last = Some (value_operand nil_value) })
      last_operand_stores t last part no_local =
          let at = place f.of listed f.short in
          let nil = value_operand nil_value in
          let closed_values = closed_written lefts made (length ts) es before behind from has written are fewer closed in
          record {
            can = both_hold _ _ closed_values.can refl;
            leaves = closed_values.leaves;
            makes = closed_values.makes;
            few = λ n. omega (arith, list_few at (3 * depth_of_expressions es + 202) n left from true (closed_values.fine n), nil_few at (taken_behind_values from n) (left_by_values from left));
            goes = λ placed is.
                let count = exact ∙ sym (place_count placed is) in
                let so = last_is placed is ∙ last in
                nil_goes placed es (λ n. with_operand_coded at n left from nil) (λ n. taken_behind_operand nil (taken_behind_values from n)) (λ n. (words_assigned at n left from true (Some nil)).levels) (λ n. with_operand_levels at n left from nil) (max (space_of_expressions es) 2) (ap suc as_many ∙ count) closed (subst LastNoLocal (sym so) no_local)
                (λ n. operand_count at n left from nil ∙ count)
                (each_with_operand lefts made placed (and_nil es) before behind from nil (nil_count es ∙ ap suc as_many ∙ count) (ap is_part so ∙ part) (nil_have es has) (nil_all_rewritten lefts made es written) (nil_operand g active es before behind from are))
                (λ short formed m ahead final other. let low = other (nil_formed es formed) in omega (arith, low, nil_roomy es, operand_levels_are at (length m.constants) left from nil));
          }

      -- by what the last target is
      nil_stores : (t : Option TargetValue) → last_target ts ≡ t → IsStored (with_last_nil t from)
      nil_stores (Some (local_target r)) last = from_stores (λ same. omega (arith, same, exact)) false (closed_written lefts made (length ts) es before behind from has written are fewer closed)
      nil_stores (Some (index_target on key)) last = last_operand_stores (Some (index_target on key)) last refl tt
      nil_stores (Some (upvalue_target slot)) last = last_value_stores (Some (upvalue_target slot)) last refl tt
      nil_stores (Some (global_target number)) last = last_value_stores (Some (global_target number)) last refl tt
      nil_stores None last = last_value_stores None last refl tt

    missing_stores : value_count from < length ts → ends_open es ≡ false → (one : Bool) → (suc (value_count from) == length ts) ≡ one → IsStored (some_missing one (last_target ts) from)
    missing_stores fewer closed true one = nil_stores (eqb-true _ _ one) closed (last_target ts) refl
    missing_stores fewer closed false one = from_stores (λ same. omega (arith, same, fewer)) false (closed_written lefts made (length ts) es before behind from has written are fewer closed)

    enough_stores : length ts ≤ value_count from → (is_part (last_target ts) && (value_count from == length ts)) ≡ false → (exact : Bool) → (value_count from == length ts) ≡ exact → IsStored (record { values = from; all = true; last = None })
    enough_stores enough no_part true exact = each_stores (eqb-true _ _ exact) (first_fails (is_part (last_target ts)) (value_count from == length ts) exact no_part)
    enough_stores enough no_part false other = from_stores (eqb-false _ _ other) true (more_written lefts made (length ts) es before behind from has written are enough)

    values_stores : (is_part (last_target ts) && (value_count from == length ts)) ≡ false → (is_open fewer : Bool) → ends_open es ≡ is_open → nat_lt (value_count from) (length ts) ≡ fewer →
        IsStored (if not is_open && fewer then some_missing (suc (value_count from) == length ts) (last_target ts) from else record { values = from; all = true; last = None })
    values_stores no_part true true is fewer = let less = ltb-true _ _ fewer in from_stores (λ same. omega (arith, same, less)) true (open_written lefts made (length ts) es before behind from has written are less is)
    values_stores no_part false true is fewer = missing_stores (ltb-true _ _ fewer) is _ refl
    values_stores no_part true false is enough = enough_stores (ltb-false _ _ enough) no_part _ refl
    values_stores no_part false false is enough = enough_stores (ltb-false _ _ enough) no_part _ refl

  -- every assignment
  all_stores : (to : Assigned) → AreWithOperand g active ts es before behind to ⊎ AreValues g active ts es before behind to → IsStored to
  all_stores to (inl (part, exact, o, are, all, last)) = subst IsStored (assigned_is to o all last) (operand_stores to.values o part exact are)
  all_stores to (inr (from, are, no_part, is)) = subst IsStored is (values_stores from are no_part _ _ refl refl)

-- ---- the targets, and then the values

abbrev stored_at : (count : ℕ) → List Coded → Got (List Target) → Maker
stored_at count cs to = cond (length cs == count) (each_stored 1 to.value cs) (assign_adjusted 1 to.value cs) to.after

abbrev with_copies : Got (List Target) → Got (List Target)
with_copies to = copies 1 (active_count to.after) to.value to.after

module _ {f : Function} {g : Fn} {active : List Active} {listed : List ℕ} {z : Maker} {lefts : ℕ → List (Option Inner)} {before mid behind : ℕ} (targets es : Expressions) (ts : List TargetValue) (to : Assigned)
    (first : TargetsSame f g active listed z lefts before mid targets ts) (stores : Stores f g active listed z lefts mid behind ts es to) where
  abbrev places_of : Maker → Got (List Target)
  places_of m = with_copies (all_targets (codes_of targets) m)

  module _ (m : Maker) (ahead : IsAhead g active before (mentions_in_all targets ++ mentions_in_all es) m) where
    targets_ahead : IsAhead g active before (mentions_in_all targets) m
    targets_ahead = ahead_front (mentions_in_all targets) (mentions_in_all es) ahead

    are_there : ArePlaces g ts (places_of m).value
    are_there = let parts = all_targets (codes_of targets) m in copies_places g (active_count parts.after) ts parts.value parts.after (first.are_places m targets_ahead)

    abbrev placed_there : List (Placed g)
    placed_there = placed_of g ts (places_of m).value are_there

    es_ahead : IsAhead g active mid (mentions_in_all es) (places_of m).after
    es_ahead = let parts = all_targets (codes_of targets) m in ahead_behind (mentions_in_all targets) (mentions_in_all es) first.makes (copies_pass (active_count parts.after) parts.value parts.after (first.passes m)) ahead

    count_there : length ts ≡ length (places placed_there)
    count_there = sym (as_many_places placed_there ∙ ap length (targets_are g ts (places_of m).value are_there))

    goes_there : (cs : List Coded) (count : ℕ) → count ≡ length ts → stored_at count cs (places_of m) ≡ goes_to placed_there cs (places_of m).after
    goes_there cs count is =
        ap₂ (λ (count : ℕ) (to : List Target). cond (length cs == count) (each_stored 1 to cs) (assign_adjusted 1 to cs) (places_of m).after) (is ∙ count_there) (sym (places_are g ts (places_of m).value are_there))

    es_go : assign_part 1 (codes_of targets) (codes_of es) m ≡ goes_to placed_there (codes_of es) (places_of m).after
    es_go = goes_there (codes_of es) (length (codes_of targets)) first.count

    goes : Goes f g active listed z mid placed_there es (λ n. assigned_coded (place f.of listed f.short) n (lefts mid) to) (taken_by to) (λ n. (words_assigned (place f.of listed f.short) n (lefts mid) to.values to.all to.last).levels) (max (space_of_expressions es) (nil_room to.last))
    goes = stores.goes placed_there (targets_are g ts (places_of m).value are_there)

    module _ (final : Final (length m.labels) (assign_part 1 (codes_of targets) (codes_of es) m) z) where
      goes_final : Final (length m.labels) (goes_to placed_there (codes_of es) (places_of m).after) z
      goes_final = subst (λ (n : Maker). Final (length m.labels) n z) es_go final

      places_final : Final (length m.labels) (places_of m).after z
      places_final = before_goes (length (codes_of es) == length (places placed_there)) (places placed_there) (codes_of es) (grow_all calm (one_line_expressions es)) (places_of m).after goes_final

      targets_final : Final (length m.labels) (all_targets (codes_of targets) m).after z
      targets_final = let parts = all_targets (codes_of targets) m in before_part (copies_grow (active_count parts.after) parts.value parts.after) places_final

      goes_later : Final (length (places_of m).after.labels) (goes_to placed_there (codes_of es) (places_of m).after) z
      goes_later =
          let parts = all_targets (codes_of targets) m in
          let one = targets_grow (codes_of targets) (grow_all calm (one_line_expressions targets)) m in
          let two = copies_grow (active_count parts.after) parts.value parts.after in
          later (omega (arith, one.more, two.more)) goes_final

      taken_there : taken_behind_targets ts (length m.constants) ≡ length (places_of m).after.constants
      taken_there = let parts = all_targets (codes_of targets) m in sym (ap length (copies_constants (active_count parts.after) parts.value parts.after) ∙ first.taken m targets_ahead targets_final)

      act_made : assign_part 1 (all_coded (words_targets (place f.of listed f.short) (length m.constants) (lefts before) ts).words) (assigned_coded (place f.of listed f.short) (taken_behind_targets ts (length m.constants)) (left_by_targets ts (lefts before)) to) m
          ≡ assign_part 1 (codes_of targets) (codes_of es) m
      act_made =
          let at = place f.of listed f.short in
          let n = length m.constants in
          let targets_coded = all_coded (words_targets at n (lefts before) ts).words in
          let there = places_of m in
          ap (λ parts. stored_at (length targets_coded) (assigned_coded at (taken_behind_targets ts n) (left_by_targets ts (lefts before)) to) (with_copies parts)) (first.same m targets_ahead targets_final)
          ∙ ap₂ (λ n fs. stored_at (length targets_coded) (assigned_coded at n fs to) there) taken_there first.leaves
          ∙ goes_there (assigned_coded at (length there.after.constants) (lefts mid) to) (length targets_coded) (written_count at n (lefts before) ts)
          ∙ goes.same there.after es_ahead goes_later
          ∙ sym es_go

      act_taken : length (assign_part 1 (codes_of targets) (codes_of es) m).constants ≡ all_named_behind ts (taken_by to (taken_behind_targets ts (length m.constants)))
      act_taken =
          ap (λ (n : Maker). length n.constants) es_go
          ∙ goes.takes (places_of m).after es_ahead goes_later
          ∙ ap₂ (λ ts n. all_named_behind ts (taken_by to n)) (targets_are g ts (places_of m).value are_there) (sym taken_there)

      -- in the forms of fewest levels
      values_low : f.short ≡ true → formed_expressions es ≡ true → (words_assigned (place f.of listed f.short) (taken_behind_targets ts (length m.constants)) (left_by_targets ts (lefts before)) to.values to.all to.last).levels ≤ max (space_of_expressions es) (nil_room to.last)
      values_low short formed =
          let low = goes.low short formed (places_of m).after es_ahead goes_later in
          let same = ap₂ (λ n fs. (words_assigned (place f.of listed f.short) n fs to.values to.all to.last).levels) taken_there first.leaves in
          omega (arith, low, same)

  values_can : (let at = place f.of listed f.short in can_write_values at (left_by_targets ts (lefts before)) to.values && can_write_last at (left_by_values to.values (left_by_targets ts (lefts before))) to.last) ≡ true
  values_can = let at = place f.of listed f.short in ap (λ fs. can_write_values at fs to.values && can_write_last at (left_by_values to.values fs) to.last) first.leaves ∙ stores.can

  -- where what is no function statement is as deep as it is
  stores_act : can_say (place f.of listed f.short) (lefts before) (assigned ts to.values to.all to.last) ≡ true →
      (named_by (place f.of listed f.short) ts to.values to.last ≡ None → depth_of_statement (assignment targets es) ≤ lean_assignment targets es) →
      (named_by (place f.of listed f.short) ts to.values to.last ≡ None → space_of_statement (assignment targets es) ≤ lean_room_assignment targets es) → (has_expressions targets ≡ true → nil_room to.last ≤ space_of_expressions targets) →
      RewrittenAct f g active listed z lefts before behind (assignment targets es) (assigned ts to.values to.all to.last)
  stores_act can lean lean_room nil_low =
      let at = place f.of listed f.short in
      record {
        can = can;
        leaves = ap (λ fs. left_by_last to.last (left_by_values to.values fs)) first.leaves ∙ stores.leaves;
        makes = stores.makes ∙ ap (made_behind (mentions_in_all es)) first.makes ∙ sym (made_both (mentions_in_all targets) (mentions_in_all es) before);
        few = λ n.
            let next = taken_behind_targets ts n in
            let same = ap (λ fs. (words_assigned at next fs to.values to.all to.last).levels) first.leaves in
            let few = stores.few next in
            let high = named_few at n (lefts before) to.values to.all to.last ts (3 * lean_assignment targets es + 203) can (λ none. omega (arith, first.few n, same, few, lean none)) (λ only is. omega (arith, same, few, lean_values targets es)) in
            omega (arith, high);
        low = λ short formed m ahead final.
            let n = length m.constants in
            let behind_targets = second_of_both (are_targets targets) _ (second_of_both (has_expressions targets) _ formed) in
            let formed_es = second_of_both (has_expressions es) _ (second_of_both (formed_expressions targets) _ behind_targets) in
            let some = first_of_both _ _ formed in
            let to_low = first.low short (first_of_both _ _ behind_targets) m (targets_ahead m ahead) (targets_final m ahead final) in
            let low = values_low m ahead final short formed_es in
            named_few at n (lefts before) to.values to.all to.last ts (lean_room_assignment targets es) can (λ none. omega (arith, to_low, low, lean_room none, nil_low some, some_rooms targets some))
            (λ only is. omega (arith, low, no_nil_room to.values to.last only is, lean_room_values targets es));
        made = λ m ahead final. named_same at (length m.constants) (lefts before) to.values to.all to.last ts can m ∙ act_made m ahead final;
        taken = act_taken;
      }

module _ {f : Function} {g : Fn} {active : List Active} {listed : List ℕ} {z : Maker} (lefts : ℕ → List (Option Inner)) (made : IsMadeBy f g active listed z) where
  -- a part of a table has room for two levels
  part_room : (targets : Expressions) (before behind : ℕ) (ts : List TargetValue) → AreTargets g active targets before behind ts → is_part (last_target ts) ≡ true → 2 ≤ space_of_expressions targets
  part_room no_expressions before behind [] are part = not_so part
  part_room no_expressions before behind (t ∷ ts) are part = absurd are
  part_room (syntax.expression target targets) before behind [] are part = absurd are
  part_room (syntax.expression target targets) before behind (t ∷ []) are part = let one = alone target before are.0 t are.1 part in omega (arith, one)
    where
      alone : (target : Expression) (before behind : ℕ) (t : TargetValue) → IsTarget g active target before behind t → is_part (Some t) ≡ true → 2 ≤ space_of_expression target
      alone (name_expression line text) before behind t is part = name_no_part g text is.1 t is.3 part
      alone (index_expression line on key) before behind t is part = omega (arith, some_room on)
      alone (field_expression line on text) before behind t is part = omega (arith, some_room on)
      alone target before behind t is part = absurd is
  part_room (syntax.expression target targets) before behind (t ∷ u ∷ ts) are part = omega (arith, part_room targets are.0 behind (u ∷ ts) are.2 part)

  -- an operand that is missing goes to a part
  missing_last : (one : Bool) (t : Option TargetValue) (vs : Values) → (is_part t ≡ true) ⊎ (nil_room (some_missing one t vs).last ≡ 0)
  missing_last true (Some (index_target on key)) vs = inl refl
  missing_last true (Some (local_target r)) vs = inr refl
  missing_last true (Some (upvalue_target slot)) vs = inr refl
  missing_last true (Some (global_target number)) vs = inr refl
  missing_last true None vs = inr refl
  missing_last false t vs = inr refl

  nil_in_room : (targets es : Expressions) (before mid behind : ℕ) (ts : List TargetValue) (to : Assigned) → AreTargets g active targets before mid ts → AreWithOperand g active ts es mid behind to ⊎ AreValues g active ts es mid behind to → nil_room to.last ≤ space_of_expressions targets
  nil_in_room targets es before mid behind ts to are (inl values) = omega (arith, part_room targets before mid ts are values.0, nil_two to.last)
  nil_in_room targets es before mid behind ts to are (inr values) = by (not (ends_open es) && nat_lt (value_count values.0) (length ts)) values.3
    where
      either : (is_part (last_target ts) ≡ true) ⊎ (nil_room to.last ≡ 0) → nil_room to.last ≤ space_of_expressions targets
      either (inl part) = omega (arith, part_room targets before mid ts are part, nil_two to.last)
      either (inr none) = omega (arith, none)

      by : (missing : Bool) → (if missing then some_missing (suc (value_count values.0) == length ts) (last_target ts) values.0 else record { values = values.0; all = true; last = None }) ≡ to → nil_room to.last ≤ space_of_expressions targets
      by true is = either (subst (λ (to : Assigned). (is_part (last_target ts) ≡ true) ⊎ (nil_room to.last ≡ 0)) is (missing_last (suc (value_count values.0) == length ts) (last_target ts) values.0))
      by false is = either (inr (sym (ap (λ (to : Assigned). nil_room to.last) is)))

  -- it can be written, or a path says it
  can_store : (targets es : Expressions) (before mid behind : ℕ) (ts : List TargetValue) (to : Assigned) → IsLean targets es ⊎ TargetsWritten f g active listed z lefts targets → AreActTargets targets → AreAssigned g active targets es ts before behind to →
      AreTargets g active targets before mid ts → (let at = place f.of listed f.short in can_write_values at (left_by_targets ts (lefts before)) to.values && can_write_last at (left_by_values to.values (left_by_targets ts (lefts before))) to.last) ≡ true →
      can_say (place f.of listed f.short) (lefts before) (assigned ts to.values to.all to.last) ≡ true
  can_store targets es before mid behind ts to (inl lean) has stored are values = by (named_by (place f.of listed f.short) ts to.values to.last) refl
    where
      by : (named : Option (List Text × ℕ)) → named_by (place f.of listed f.short) ts to.values to.last ≡ named → can_say (place f.of listed f.short) (lefts before) (assigned ts to.values to.all to.last) ≡ true
      by None none = absurd (said_lean made targets es before behind ts to lean stored none)
      by (Some named) is = says_function (place f.of listed f.short) (lefts before) ts to.values to.all to.last named.0 named.1 is (lean_can_name lefts made targets es before mid ts lean are) values
  can_store targets es before mid behind ts to (inr written) has stored are values =
      can_be_said (place f.of listed f.short) (lefts before) ts to.values to.all to.last (both_hold _ _ (targets_can lefts made targets before mid ts has written are) values)

  pub assignment_rewritten_act : (targets es : Expressions) (before behind : ℕ) (ts : List TargetValue) (to : Assigned) → Assigns targets es → IsLean targets es ⊎ TargetsWritten f g active listed z lefts targets → AllRewritten f g active listed z lefts es →
      AreAssigned g active targets es ts before behind to → RewrittenAct f g active listed z lefts before behind (assignment targets es) (assigned ts to.values to.all to.last)
  assignment_rewritten_act targets es before behind ts to assigns to_written written (mid, are, are_values) =
      let first = same_targets lefts made targets es before mid ts to_written assigns.targets are in
      let stores = all_stores lefts made ts es mid behind assigns.values written assigns.given to are_values in
      let can = can_store targets es before mid behind ts to to_written assigns.targets (mid, are, are_values) are (values_can targets es ts to first stores) in
      stores_act targets es ts to first stores can
      (lean_alone made targets es before behind ts to (mid, are, are_values)) (lean_room_alone made targets es before behind ts to (mid, are, are_values))
      (λ some. nil_in_room targets es before mid behind ts to are are_values)
