-- Values that are stored to the places of targets: what is written of them makes the same code as the expressions, where each target has its value; a nil that is missing is stored as one in parentheses; and which constants the stores take.
use Rattle.reads_back.proofs.InRoom.{levels_in}
use Rattle.std.proofs.Common.{◌≡◌, ℕ, suc, ◌+◌, ◌*◌, ◌≤◌, Bool, true, false, List, [], ◌∷◌, ◌++◌, length, Option, Some, refl, sym, ap, ◌∙◌, subst, arith, true≢false, max, inl}
use Rattle.std.specs.Prelude.{◌&&◌, not}
use Rattle.lua_num.specs.Bytes.{Text}
use Rattle.lua_tree.specs.Joins.{join_expressions}
use Rattle.lua_tree.specs.OneLine.{one_line_expression, one_line_expressions}
use Rattle.lua_tree.specs.Syntax as syntax
use Rattle.lua_tree.specs.Syntax.{Expressions, no_expressions, Expression, nil_literal, parenthesized}
use Rattle.lua_tree.specs.WellFormed.{depth_of_expressions, formed_expressions, formed_expression}
use Rattle.opcode.specs.declared.op.Op.{Op}
use Rattle.proto.specs.declared.parts.Constant.{Constant}
use Rattle.core_expr.specs.Counting.{left_by, left_by_operand, left_by_values, taken_behind, taken_behind_operand, taken_behind_values}
use Rattle.core_expr.specs.Places.{Place, place}
use Rattle.core_expr.specs.Targets.{TargetValue, index_target, local_target}
use Rattle.core_expr.specs.Values.{Value, nil_value, Values, no_values, and_value, OperandValue, value_operand, Inner}
use Rattle.core_expr.specs.Writing.{can_write_operand, can_write_values, ends_values, is_multiple as can_be_several, unless, word_values, word_operand, word}
use Rattle.recover_expr.specs.Entries.{and_last_value}
use Rattle.recover_expr.specs.Situation.{Function}
use Rattle.scheme.specs.Expressions.{Coded, Target, name_target, part_target, next_reg, operand, rk}
use Rattle.scheme.specs.Lists.{all_next}
use Rattle.scheme.specs.Making.{Got, Maker, Where, constant, in_globals, in_register, in_upvalue, put}
use Rattle.scheme.specs.Scheme.{all_coded, coded}
use Rattle.scheme.specs.Statements.{each_stored, set_where, store, store_operand, store_register, stored_from}
use Rattle.scheme.specs.declared.making.Active.{Active}
use Rattle.scheme.specs.declared.making.Piece.{Piece}
use Rattle.scheme_stands.proofs.Growth.{Final, before as before_part, before_put, calm, on_constant, start}
use Rattle.scheme_stands.proofs.Parts.{AllGrow, Grows, grow_all, grows, grows_next, grows_operand, grows_rk}
use Rattle.scheme_stands.specs.Words.{Fn}
use Rattle.same_flow.specs.Space.{space_of_expressions}
use Rattle.reads_back.specs.Acted.{EndWithOperand, IsVariableTarget, all_named_behind, is_part, last_target, named_behind, words_assigned}
use Rattle.reads_back.specs.Cores.{AllHaveCores, AreCores, HasCore}
use Rattle.reads_back.proofs.ConstantsSame.{constant_taken}
use Rattle.reads_back.proofs.GivenSame.{AllRewritten}
use Rattle.reads_back.proofs.LeavesSame.{nil_rewritten, parenthesized_rewritten}
use Rattle.reads_back.proofs.ListsSame.{codes_of, first_ahead, others_ahead, others_final, values_coded, stays_bare}
use Rattle.reads_back.proofs.Mentions.{IsAhead, mentions_in, mentions_in_all, made_behind, made_both}
use Rattle.reads_back.proofs.OperandsSame.{operand_rewritten}
use Rattle.reads_back.proofs.Rewriting.{IsMadeBy, Rewritten, RewrittenOperand, code, operand_wording, wording, HasRoom}
use Rattle.reads_back.proofs.TargetsSame.{ArePlaces, IsPlace}
use Rattle.reads_back.proofs.Tests.{both_hold, first_of_both, second_of_both}
use Rattle.reads_back.proofs.WordsSame.{levels_wrapped, next_same, next_taken, next_wrapped, operand_same, operand_taken, operand_wrapped, to_reg_wrapped, next_low, operand_low}

-- a target, and the place that a value goes to
pub record Placed (g : Fn) : Type 0 where
  pub to : TargetValue
  pub there : Target
  pub is : IsPlace g to there

abbrev pub places : {g : Fn} → List (Placed g) → List Target
places [] = []
places (one ∷ others) = one.there ∷ places others

abbrev pub targets_of : {g : Fn} → List (Placed g) → List TargetValue
targets_of [] = []
targets_of (one ∷ others) = one.to ∷ targets_of others

pub as_many_places : {g : Fn} (placed : List (Placed g)) → length (places placed) ≡ length (targets_of placed)
as_many_places [] = refl
as_many_places (one ∷ others) = ap suc (as_many_places others)

module _ (g : Fn) where
  abbrev pub placed_of : (ts : List TargetValue) (to : List Target) → ArePlaces g ts to → List (Placed g)
  placed_of [] [] are = []
  placed_of (t ∷ ts) (one ∷ others) are = record { to = t; there = one; is = are.0 } ∷ placed_of ts others are.1
  placed_of ts to are = absurd are

  pub places_are : (ts : List TargetValue) (to : List Target) (are : ArePlaces g ts to) → places (placed_of ts to are) ≡ to
  places_are [] [] are = refl
  places_are (t ∷ ts) (one ∷ others) are = ap (λ others. one ∷ others) (places_are ts others are.1)
  places_are ts to are = absurd are

  pub targets_are : (ts : List TargetValue) (to : List Target) (are : ArePlaces g ts to) → targets_of (placed_of ts to are) ≡ ts
  targets_are [] [] are = refl
  targets_are (t ∷ ts) (one ∷ others) are = ap (λ ts. t ∷ ts) (targets_are ts others are.1)
  targets_are ts to are = absurd are

-- a name is no part of a table
pub name_no_part : {A : Type 0} (g : Fn) (text : Text) (w : Where) (t : TargetValue) → IsVariableTarget g text w t → is_part (Some t) ≡ true → A
name_no_part g text (in_register x) t is part = absurd (true≢false (sym part ∙ ap (λ t. is_part (Some t)) is))
name_no_part g text (in_upvalue slot) t is part = absurd (true≢false (sym part ∙ ap (λ t. is_part (Some t)) is))
name_no_part g text in_globals t (number, has, is) part = absurd (true≢false (sym part ∙ ap (λ t. is_part (Some t)) is))

-- ---- before the stores

module _ {k : ℕ} {z : Maker} where
  -- the store of a global takes its name
  name_final : (r : ℕ) (text : Text) (m : Maker) → Final k (set_where 1 r text in_globals m) z → Final k (constant (Constant.Text text) m).after z
  name_final r text m final = let name = constant (Constant.Text text) m in before_put 1 (Piece.Abx Op.SetGlobal r name.value) name.after final

  before_set : (r : ℕ) (text : Text) (w : Where) (m : Maker) → Final k (set_where 1 r text w m) z → Final k m z
  before_set r text (in_register x) m final = before_put 1 (Piece.Abc Op.Move x r 0) m final
  before_set r text (in_upvalue slot) m final = before_put 1 (Piece.Abc Op.SetUpval r slot 0) m final
  before_set r text in_globals m final = before_part (on_constant {v = calm} (Constant.Text text) (start m)) (name_final r text m final)

  before_register : (r : ℕ) (to : Target) (m : Maker) → Final k (store_register 1 to r m) z → Final k m z
  before_register r (name_target text w) m final = before_set r text w m final
  before_register r (part_target on key on_local key_local) m final = before_put 1 (Piece.Abc Op.SetTable on key r) m final

  pub before_stored : (r : ℕ) (to : List Target) (m : Maker) → Final k (stored_from 1 r to m) z → Final k m z
  before_stored r [] m final = final
  before_stored r (one ∷ others) m final = before_stored (suc r) others m (before_register r one (stored_from 1 (suc r) others m) final)

  value_final : (text : Text) (w : Where) (c : Coded) (m : Maker) → Final k (store_operand 1 text w c m) z → Final k (operand c m).after z
  value_final text w c m final = let x = operand c m in before_set x.value text w x.after final

  part_final : (on key : ℕ) (on_local key_local : Bool) (c : Coded) (m : Maker) → Final k (store 1 (part_target on key on_local key_local) c m) z → Final k (rk c m).after z
  part_final on key on_local key_local c m final = let x = rk c m in before_put 1 (Piece.Abc Op.SetTable on key x.value) x.after final

  before_store : (to : Target) (c : Coded) → Grows calm c → (m : Maker) → Final k (store 1 to c m) z → Final k m z
  before_store (name_target text (in_register x)) c grow m final = before_part (grow.to_reg x m) final
  before_store (name_target text (in_upvalue slot)) c grow m final = before_part (grows_operand c grow m) (value_final text (in_upvalue slot) c m final)
  before_store (name_target text in_globals) c grow m final = before_part (grows_operand c grow m) (value_final text in_globals c m final)
  before_store (part_target on key on_local key_local) c grow m final = before_part (grows_rk c grow m) (part_final on key on_local key_local c m final)

  pub before_each : (to : List Target) (cs : List Coded) → AllGrow calm cs → (m : Maker) → Final k (each_stored 1 to cs m) z → Final k m z
  before_each [] cs grow m final = final
  before_each (one ∷ []) [] grow m final = final
  before_each (one ∷ []) (c ∷ cs) grow m final = before_store one c grow.0 m final
  before_each (one ∷ other ∷ others) [] grow m final = final
  before_each (one ∷ other ∷ others) (c ∷ cs) grow m final =
      let behind = each_stored 1 (other ∷ others) cs (next_reg c m) in
      before_part (grows_next c grow.0 m) (before_each (other ∷ others) cs grow.1 (next_reg c m) (before_register m.free one behind final))

-- ---- which constants they take

part_names_none : (t : TargetValue) (n : ℕ) → is_part (Some t) ≡ true → named_behind t n ≡ n
part_names_none (index_target on key) n is = refl
part_names_none t n is = cc

module _ {f : Function} {g : Fn} {active : List Active} {listed : List ℕ} {z : Maker} (made : IsMadeBy f g active listed z) {k : ℕ} where
  set_taken : (r : ℕ) (text : Text) (w : Where) (t : TargetValue) (m : Maker) → IsVariableTarget g text w t → Final k (set_where 1 r text w m) z → length (set_where 1 r text w m).constants ≡ named_behind t (length m.constants)
  set_taken r text (in_register x) t m is final = ap (λ t. named_behind t (length m.constants)) (sym is)
  set_taken r text (in_upvalue slot) t m is final = ap (λ t. named_behind t (length m.constants)) (sym is)
  set_taken r text in_globals t m (number, has, is) final =
      constant_taken made (Constant.Text text) number m has (name_final r text m final) ∙ ap (λ t. named_behind t (length m.constants)) (sym is)

  register_taken : (r : ℕ) (t : TargetValue) (to : Target) (m : Maker) → IsPlace g t to → Final k (store_register 1 to r m) z → length (store_register 1 to r m).constants ≡ named_behind t (length m.constants)
  register_taken r t (name_target text w) m is final = set_taken r text w t m is final
  register_taken r t (part_target on key on_local key_local) m is final = sym (part_names_none t (length m.constants) is)

  pub stored_taken : (r : ℕ) (placed : List (Placed g)) (m : Maker) → Final k (stored_from 1 r (places placed) m) z → length (stored_from 1 r (places placed) m).constants ≡ all_named_behind (targets_of placed) (length m.constants)
  stored_taken r [] m final = refl
  stored_taken r (one ∷ others) m final =
      let behind = stored_from 1 (suc r) (places others) m in
      register_taken r one.to one.there behind one.is final ∙ ap (named_behind one.to) (stored_taken (suc r) others m (before_register r one.there behind final))

-- ---- one value

module _ {f : Function} {g : Fn} {active : List Active} {listed : List ℕ} {z : Maker} {lefts : ℕ → List (Option Inner)} {before behind : ℕ} {e : Expression} {v : Value} (written : Rewritten f g active listed z lefts before behind e v) where
  -- that goes as an operand to a name that is no local
  operand_stored : (bare : Bool) (text : Text) (w : Where) (m : Maker) → IsAhead g active before (mentions_in e) m → Final (length m.labels) (store_operand 1 text w (code e) m) z →
      store_operand 1 text w (coded (unless bare (wording f listed z lefts before (length m.constants) v)).words) m ≡ store_operand 1 text w (code e) m
  operand_stored bare text w m ahead final =
      ap (λ (x : Got ℕ). set_where 1 x.value text w x.after)
      (operand_wrapped bare (wording f listed z lefts before (length m.constants) v) m ∙ operand_same written m ahead (value_final text w (code e) m final))

  store_same : (bare : Bool) (text : Text) (w : Where) (m : Maker) → IsAhead g active before (mentions_in e) m → Final (length m.labels) (store 1 (name_target text w) (code e) m) z →
      store 1 (name_target text w) (coded (unless bare (wording f listed z lefts before (length m.constants) v)).words) m ≡ store 1 (name_target text w) (code e) m
  store_same bare text (in_register x) m ahead final = to_reg_wrapped bare (wording f listed z lefts before (length m.constants) v) x m ∙ written.to_reg x m ahead final
  store_same bare text (in_upvalue slot) m ahead final = operand_stored bare text (in_upvalue slot) m ahead final
  store_same bare text in_globals m ahead final = operand_stored bare text in_globals m ahead final

  store_low : (text : Text) (w : Where) → f.short ≡ true → formed_expression e ≡ true → (m : Maker) → IsAhead g active before (mentions_in e) m → Final (length m.labels) (store 1 (name_target text w) (code e) m) z → HasRoom f listed z lefts before (length m.constants) e v
  store_low text (in_register x) short formed m ahead final = written.low short formed m ahead (inl (x, final))
  store_low text (in_upvalue slot) short formed m ahead final = operand_low written short formed m ahead (value_final text (in_upvalue slot) (code e) m final)
  store_low text in_globals short formed m ahead final = operand_low written short formed m ahead (value_final text in_globals (code e) m final)

  module _ (made : IsMadeBy f g active listed z) where
    operand_takes : (text : Text) (w : Where) (t : TargetValue) (m : Maker) → IsVariableTarget g text w t → IsAhead g active before (mentions_in e) m → Final (length m.labels) (store_operand 1 text w (code e) m) z →
        length (store_operand 1 text w (code e) m).constants ≡ named_behind t (taken_behind v (length m.constants))
    operand_takes text w t m is ahead final =
        let x = operand (code e) m in
        set_taken made x.value text w t x.after is final ∙ ap (named_behind t) (operand_taken written m ahead (value_final text w (code e) m final))

    store_taken : (text : Text) (w : Where) (t : TargetValue) (m : Maker) → IsVariableTarget g text w t → IsAhead g active before (mentions_in e) m → Final (length m.labels) (store 1 (name_target text w) (code e) m) z →
        length (store 1 (name_target text w) (code e) m).constants ≡ named_behind t (taken_behind v (length m.constants))
    store_taken text (in_register x) t m is ahead final = written.taken x m ahead final ∙ ap (λ t. named_behind t (taken_behind v (length m.constants))) (sym is)
    store_taken text (in_upvalue slot) t m is ahead final = operand_takes text (in_upvalue slot) t m is ahead final
    store_taken text in_globals t m is ahead final = operand_takes text in_globals t m is ahead final

-- ---- as many values as targets

module _ (f : Function) (g : Fn) (active : List Active) (listed : List ℕ) (z : Maker) (before : ℕ) where
  -- what is written of the values, where so many constants are taken, is stored as the expressions are
  pub record EachSame (placed : List (Placed g)) (es : Expressions) (written : ℕ → List Coded) (taken levels : ℕ → ℕ) : Type 0 where
    pub same : (m : Maker) → IsAhead g active before (mentions_in_all es) m → Final (length m.labels) (each_stored 1 (places placed) (codes_of es) m) z → each_stored 1 (places placed) (written (length m.constants)) m ≡ each_stored 1 (places placed) (codes_of es) m
    pub takes : (m : Maker) → IsAhead g active before (mentions_in_all es) m → Final (length m.labels) (each_stored 1 (places placed) (codes_of es) m) z →
        length (each_stored 1 (places placed) (codes_of es) m).constants ≡ all_named_behind (targets_of placed) (taken (length m.constants))
    -- in the forms of fewest levels it needs no more than there is room for
    pub low : f.short ≡ true → formed_expressions es ≡ true → (m : Maker) → IsAhead g active before (mentions_in_all es) m → Final (length m.labels) (each_stored 1 (places placed) (codes_of es) m) z → levels (length m.constants) ≤ space_of_expressions es

module _ {f : Function} {g : Fn} {active : List Active} {listed : List ℕ} {z : Maker} {lefts : ℕ → List (Option Inner)} {before behind : ℕ} (made : IsMadeBy f g active listed z) where
  -- the last value goes to a name
  value_only : (t : TargetValue) (to : Target) (is : IsPlace g t to) (e : Expression) (v : Value) (bare : Bool) → bare ≡ true → is_part (Some t) ≡ false → HasCore e → Rewritten f g active listed z lefts before behind e v →
      EachSame f g active listed z before (record { to = t; there = to; is = is } ∷ []) (syntax.expression e no_expressions) (λ n. coded (unless bare (wording f listed z lefts before n v)).words ∷ []) (taken_behind v) (λ n. max (unless bare (wording f listed z lefts before n v)).levels 0)
  value_only t (name_target text w) is e v bare stays no_part has written = record {
    same = λ m ahead final. store_same written bare text w m (first_ahead e no_expressions (has, tt) m ahead) final;
    takes = λ m ahead final. store_taken written made text w t m is (first_ahead e no_expressions (has, tt) m ahead) final;
    low = λ short formed m ahead final.
        let low = levels_in _ e (wording f listed z lefts before (length m.constants) v) (store_low written text w short (first_of_both _ _ formed) m (first_ahead e no_expressions (has, tt) m ahead) final) in
        let same = ap (λ (bare : Bool). (unless bare (wording f listed z lefts before (length m.constants) v)).levels) stays in
        omega (arith, low, same);
  }
  value_only t (part_target on key on_local key_local) is e v bare stays no_part has written = absurd (true≢false (sym is ∙ no_part))

  -- or as an operand to a part of a table
  operand_only : (t : TargetValue) (to : Target) (is : IsPlace g t to) (e : Expression) (o : OperandValue) → is_part (Some t) ≡ true → HasCore e → RewrittenOperand f g active listed z lefts before behind e o →
      EachSame f g active listed z before (record { to = t; there = to; is = is } ∷ []) (syntax.expression e no_expressions) (λ n. coded (operand_wording f listed z lefts before n o).words ∷ []) (taken_behind_operand o) (λ n. (operand_wording f listed z lefts before n o).levels)
  operand_only t (name_target text w) is e o part has written = name_no_part g text w t is part
  operand_only t (part_target on key on_local key_local) is e o part has written = record {
    same = λ m ahead final. ap (λ (x : Got ℕ). put 1 (Piece.Abc Op.SetTable on key x.value) x.after) (written.as_rk m (first_ahead e no_expressions (has, tt) m ahead) (part_final on key on_local key_local (code e) m final));
    takes = λ m ahead final.
        written.taken m (first_ahead e no_expressions (has, tt) m ahead) (part_final on key on_local key_local (code e) m final) ∙ sym (part_names_none t (taken_behind_operand o (length m.constants)) part);
    low = λ short formed m ahead final.
        let low = (written.low short (first_of_both _ _ formed) m (first_ahead e no_expressions (has, tt) m ahead) (part_final on key on_local key_local (code e) m final)).low in
        omega (arith, low);
  }

  -- a value goes to the next register, the others come behind it, and then it is stored
  more_each : (one other : Placed g) (others : List (Placed g)) (e : Expression) (es : Expressions) (v : Value) (bare : Bool) (written : ℕ → List (Option Inner) → List Coded) (taken : ℕ → ℕ) (levels : ℕ → List (Option Inner) → ℕ) → bare ≡ true → AllHaveCores (syntax.expression e es) →
      Rewritten f g active listed z lefts before behind e v → EachSame f g active listed z behind (other ∷ others) es (λ n. written n (lefts behind)) taken (λ n. levels n (lefts behind)) →
      EachSame f g active listed z before (one ∷ other ∷ others) (syntax.expression e es) (λ n. coded (unless bare (wording f listed z lefts before n v)).words ∷ written (taken_behind v n) (left_by v (lefts before))) (λ n. taken (taken_behind v n)) (λ n. max (unless bare (wording f listed z lefts before n v)).levels (levels (taken_behind v n) (left_by v (lefts before))))
  more_each one other others e es v bare written taken levels stays has first rest = record {
    same = λ m ahead final.
        let n = length m.constants in
        ap (λ mid. stores m (written (taken_behind v n) (left_by v (lefts before))) mid) (next_wrapped bare (wording f listed z lefts before n v) m ∙ next_same first m (first_ahead e es has m ahead) (first_final m final))
        ∙ ap (λ n. stores m (written n (left_by v (lefts before))) (next_reg (code e) m)) (sym (next_taken first m (first_ahead e es has m ahead) (first_final m final)))
        ∙ ap (λ fs. stores m (written (length (next_reg (code e) m).constants) fs) (next_reg (code e) m)) first.leaves
        ∙ ap (store_register 1 one.there m.free) (rest.same (next_reg (code e) m) (others_ahead e es has m ahead first.makes) (others_final e es m (behind_final m final)));
    takes = λ m ahead final.
        register_taken made m.free one.to one.there (each_stored 1 (places (other ∷ others)) (codes_of es) (next_reg (code e) m)) one.is final
        ∙ ap (named_behind one.to)
        (rest.takes (next_reg (code e) m) (others_ahead e es has m ahead first.makes) (others_final e es m (behind_final m final))
        ∙ ap (λ n. all_named_behind (targets_of (other ∷ others)) (taken n)) (next_taken first m (first_ahead e es has m ahead) (first_final m final)));
    low = λ short formed m ahead final.
        let n = length m.constants in
        let one_low = levels_in _ e (wording f listed z lefts before n v) (next_low first short (first_of_both _ _ formed) m (first_ahead e es has m ahead) (first_final m final)) in
        let rest_low = rest.low short (second_of_both (formed_expression e) _ formed) (next_reg (code e) m) (others_ahead e es has m ahead first.makes) (others_final e es m (behind_final m final)) in
        let same = ap (λ (bare : Bool). (unless bare (wording f listed z lefts before n v)).levels) stays in
        let rest_taken = ap (λ n. levels n (left_by v (lefts before))) (next_taken first m (first_ahead e es has m ahead) (first_final m final)) in
        let left = ap (λ fs. levels (length (next_reg (code e) m).constants) fs) first.leaves in
        omega (arith, one_low, rest_low, same, rest_taken, left);
  }
    where
      stores : Maker → List Coded → Maker → Maker
      stores m cs mid = store_register 1 one.there m.free (each_stored 1 (places (other ∷ others)) cs mid)

      behind_final : (m : Maker) → Final (length m.labels) (each_stored 1 (places (one ∷ other ∷ others)) (codes_of (syntax.expression e es)) m) z → Final (length m.labels) (each_stored 1 (places (other ∷ others)) (codes_of es) (next_reg (code e) m)) z
      behind_final m final = before_register m.free one.there (each_stored 1 (places (other ∷ others)) (codes_of es) (next_reg (code e) m)) final

      first_final : (m : Maker) → Final (length m.labels) (each_stored 1 (places (one ∷ other ∷ others)) (codes_of (syntax.expression e es)) m) z → Final (length m.labels) (next_reg (code e) m) z
      first_final m final = before_each (places (other ∷ others)) (codes_of es) (grow_all calm (one_line_expressions es)) (next_reg (code e) m) (behind_final m final)

-- values, and an operand behind them
abbrev pub with_operand_levels : Place → ℕ → List (Option Inner) → Values → OperandValue → ℕ
with_operand_levels at n fs no_values o = (word_operand at n fs o).levels
with_operand_levels at n fs (and_value v rest) o = max (unless (not ((ends_values rest && false) && can_be_several v)) (word at n fs v)).levels (with_operand_levels at (taken_behind v n) (left_by v fs) rest o)

pub operand_levels_are : (at : Place) (n : ℕ) (fs : List (Option Inner)) (vs : Values) (o : OperandValue) → (words_assigned at n fs vs true (Some o)).levels ≡ with_operand_levels at n fs vs o
operand_levels_are at n fs no_values o = omega arith
operand_levels_are at n fs (and_value v rest) o = omega (arith, operand_levels_are at (taken_behind v n) (left_by v fs) rest o)

abbrev pub with_operand_coded : Place → ℕ → List (Option Inner) → Values → OperandValue → List Coded
with_operand_coded at n fs vs o = all_coded (words_assigned at n fs vs true (Some o)).words

module _ {f : Function} {g : Fn} {active : List Active} {listed : List ℕ} {z : Maker} (lefts : ℕ → List (Option Inner)) (made : IsMadeBy f g active listed z) where
  abbrev at : Place
  at = place f.of listed f.short

  pub each_values : (placed : List (Placed g)) (es : Expressions) (before behind : ℕ) (vs : Values) → length (codes_of es) ≡ length (places placed) → is_part (last_target (targets_of placed)) ≡ false → AllHaveCores es → AllRewritten f g active listed z lefts es → AreCores g active es before behind vs →
      EachSame f g active listed z before placed es (λ n. values_coded (place f.of listed f.short) n (lefts before) vs true) (taken_behind_values vs) (λ n. (word_values (place f.of listed f.short) n (lefts before) vs true).levels)
  each_values [] no_expressions before behind vs same no_part has written are = record { same = λ m ahead final. refl; takes = λ m ahead final. ap (λ vs. taken_behind_values vs (length m.constants)) (sym are.1); low = λ short formed m ahead final. omega (arith, ap (λ vs. (word_values at (length m.constants) (lefts before) vs true).levels) are.1) }
  each_values (one ∷ []) (syntax.expression e no_expressions) before behind vs same no_part has written (mid, (v, rest, core, (as_many, none), is)) =
      subst (λ vs. EachSame f g active listed z before (one ∷ []) (syntax.expression e no_expressions) (λ n. values_coded at n (lefts before) vs true) (taken_behind_values vs) (λ n. (word_values at n (lefts before) vs true).levels)) (sym (is ∙ ap (and_value v) none))
      (value_only made one.to one.there one.is e v true refl no_part has.0 (written.0 before mid v core))
  each_values (one ∷ other ∷ others) (syntax.expression e es) before behind vs same no_part has written (mid, (v, rest, core, are, is)) =
      subst (λ vs. EachSame f g active listed z before (one ∷ other ∷ others) (syntax.expression e es) (λ n. values_coded at n (lefts before) vs true) (taken_behind_values vs) (λ n. (word_values at n (lefts before) vs true).levels)) (sym is)
      (more_each made one other others e es v (not ((ends_values rest && false) && can_be_several v)) (λ n fs. values_coded at n fs rest true) (taken_behind_values rest) (λ n fs. (word_values at n fs rest true).levels) (stays_bare (ends_values rest) (can_be_several v)) has (written.0 before mid v core)
      (each_values (other ∷ others) es mid behind rest (omega (arith, same)) no_part has.1 written.1 are))
  each_values placed es before behind vs same no_part has written are = absurd (omega (arith, same))

  pub each_with_operand : (placed : List (Placed g)) (es : Expressions) (before behind : ℕ) (vs : Values) (o : OperandValue) → length (codes_of es) ≡ length (places placed) → is_part (last_target (targets_of placed)) ≡ true → AllHaveCores es → AllRewritten f g active listed z lefts es → EndWithOperand g active es o before behind vs →
      EachSame f g active listed z before placed es (λ n. with_operand_coded (place f.of listed f.short) n (lefts before) vs o) (λ n. taken_behind_operand o (taken_behind_values vs n)) (λ n. with_operand_levels (place f.of listed f.short) n (lefts before) vs o)
  each_with_operand [] es before behind vs o same part has written are = absurd (true≢false (sym part))
  each_with_operand placed no_expressions before behind vs o same part has written are = absurd are
  each_with_operand (one ∷ []) (syntax.expression e no_expressions) before behind vs o same part has written are =
      subst (λ vs. EachSame f g active listed z before (one ∷ []) (syntax.expression e no_expressions) (λ n. with_operand_coded at n (lefts before) vs o) (λ n. taken_behind_operand o (taken_behind_values vs n)) (λ n. with_operand_levels at n (lefts before) vs o)) (sym are.0)
      (operand_only made one.to one.there one.is e o part has.0 (operand_rewritten lefts made e before behind o has.0 are.1 (written.0 before behind)))
  each_with_operand (one ∷ other ∷ others) (syntax.expression e (syntax.expression d es)) before behind vs o same part has written (mid, (v, rest, core, are, is)) =
      let more = syntax.expression d es in
      subst (λ vs. EachSame f g active listed z before (one ∷ other ∷ others) (syntax.expression e more) (λ n. with_operand_coded at n (lefts before) vs o) (λ n. taken_behind_operand o (taken_behind_values vs n)) (λ n. with_operand_levels at n (lefts before) vs o)) (sym is)
      (more_each made one other others e more v (not ((ends_values rest && false) && can_be_several v)) (λ n fs. with_operand_coded at n fs rest o) (λ n. taken_behind_operand o (taken_behind_values rest n)) (λ n fs. with_operand_levels at n fs rest o) (stays_bare (ends_values rest) (can_be_several v)) has (written.0 before mid v core)
      (each_with_operand (other ∷ others) more mid behind rest o (omega (arith, same)) part has.1 written.1 are))
  each_with_operand placed es before behind vs o same part has written are = absurd (omega (arith, same))

-- ---- how they are written

module _ (f : Function) (listed : List ℕ) (z : Maker) (lefts : ℕ → List (Option Inner)) (before behind : ℕ) (es : Expressions) where
  -- values, and an operand behind them
  pub record Written (vs : Values) (o : OperandValue) : Type 0 where
    pub can : can_write_values (place f.of listed f.short) (lefts before) vs ≡ true
    -- so many functions were made between
    pub mid : ℕ
    pub leaves : left_by_values vs (lefts before) ≡ lefts mid
    pub makes : behind ≡ made_behind (mentions_in_all es) before
    pub few : (n : ℕ) → (word_values (place f.of listed f.short) n (lefts before) vs true).levels ≤ 3 * depth_of_expressions es + 203
    pub last_can : can_write_operand (place f.of listed f.short) (lefts mid) o ≡ true
    pub last_leaves : left_by_operand o (lefts mid) ≡ lefts behind
    pub last_few : (n : ℕ) → (operand_wording f listed z lefts mid n o).levels ≤ 3 * depth_of_expressions es + 203

module _ {f : Function} {g : Fn} {active : List Active} {listed : List ℕ} {z : Maker} (lefts : ℕ → List (Option Inner)) (made : IsMadeBy f g active listed z) where
  pub operand_written : (es : Expressions) (before behind : ℕ) (vs : Values) (o : OperandValue) → AllHaveCores es → AllRewritten f g active listed z lefts es → EndWithOperand g active es o before behind vs →
      Written f listed z lefts before behind es vs o
  operand_written no_expressions before behind vs o has written are = absurd are
  operand_written (syntax.expression e no_expressions) before behind vs o has written are =
      let last = operand_rewritten lefts made e before behind o has.0 are.1 (written.0 before behind) in
      subst (λ vs. Written f listed z lefts before behind (syntax.expression e no_expressions) vs o) (sym are.0)
      (record { can = refl; mid = before; leaves = refl; makes = last.makes ∙ sym (made_both (mentions_in e) [] before); few = λ n. omega arith; last_can = last.can; last_leaves = last.leaves; last_few = λ n. omega (arith, last.few n) })
  operand_written (syntax.expression e (syntax.expression d es)) before behind vs o has written (mid, (v, others, core, are, is)) =
      let at = place f.of listed f.short in
      let first = written.0 before mid v core in
      let bare = not ((ends_values others && false) && can_be_several v) in
      let rest = operand_written (syntax.expression d es) mid behind others o has.1 written.1 are in
      subst (λ vs. Written f listed z lefts before behind (syntax.expression e (syntax.expression d es)) vs o) (sym is) (record {
        can = both_hold _ _ first.can (ap (λ fs. can_write_values at fs others) first.leaves ∙ rest.can);
        mid = rest.mid;
        leaves = ap (left_by_values others) first.leaves ∙ rest.leaves;
        makes = rest.makes ∙ ap (made_behind (mentions_in_all (syntax.expression d es))) first.makes ∙ sym (made_both (mentions_in e) (mentions_in_all (syntax.expression d es)) before);
        few = λ n. omega (arith, first.few n, levels_wrapped bare (wording f listed z lefts before n v), ap (λ fs. (word_values at (taken_behind v n) fs others true).levels) first.leaves, rest.few (taken_behind v n));
        last_can = rest.last_can;
        last_leaves = rest.last_leaves;
        last_few = λ n. omega (arith, rest.last_few n);
      })

-- ---- a nil that is missing

abbrev pub and_nil : Expressions → Expressions
and_nil es = join_expressions es (syntax.expression (parenthesized 1 (nil_literal 1)) no_expressions)

pub nil_names : (es : Expressions) → mentions_in_all (and_nil es) ≡ mentions_in_all es
nil_names no_expressions = refl
nil_names (syntax.expression e es) = ap (λ texts. mentions_in e ++ texts) (nil_names es)

pub nil_have : (es : Expressions) → AllHaveCores es → AllHaveCores (and_nil es)
nil_have no_expressions has = (tt, tt)
nil_have (syntax.expression e es) has = (has.0, nil_have es has.1)

pub nil_count : (es : Expressions) → length (codes_of (and_nil es)) ≡ suc (length (codes_of es))
nil_count no_expressions = refl
nil_count (syntax.expression e es) = ap suc (nil_count es)

module _ {f : Function} {g : Fn} {active : List Active} {listed : List ℕ} {z : Maker} (lefts : ℕ → List (Option Inner)) (made : IsMadeBy f g active listed z) where
  pub nil_all_rewritten : (es : Expressions) → AllRewritten f g active listed z lefts es → AllRewritten f g active listed z lefts (and_nil es)
  nil_all_rewritten no_expressions written = (
    λ before behind v is. subst (λ (behind : ℕ). Rewritten f g active listed z lefts before behind (parenthesized 1 (nil_literal 1)) v) (sym is.0) (parenthesized_rewritten 1 (nil_literal 1) v (nil_rewritten made 1 v is.1)),
    tt,
  )
  nil_all_rewritten (syntax.expression e es) written = (written.0, nil_all_rewritten es written.1)

module _ (g : Fn) (active : List Active) where
  -- as a value, and as an operand
  pub nil_cores : (es : Expressions) (before behind : ℕ) (vs : Values) → AreCores g active es before behind vs → AreCores g active (and_nil es) before behind (and_last_value vs nil_value)
  nil_cores no_expressions before behind vs are = (before, (nil_value, no_values, (refl, refl), (are.0, refl), ap (λ vs. and_last_value vs nil_value) are.1))
  nil_cores (syntax.expression e es) before behind vs (mid, (v, rest, core, are, is)) = (mid, (v, and_last_value rest nil_value, core, nil_cores es mid behind rest are, ap (λ vs. and_last_value vs nil_value) is))

  pub nil_operand : (es : Expressions) (before behind : ℕ) (vs : Values) → AreCores g active es before behind vs → EndWithOperand g active (and_nil es) (value_operand nil_value) before behind vs
  nil_operand no_expressions before behind vs are = (are.1, (nil_value, (are.0, refl), refl))
  nil_operand (syntax.expression e no_expressions) before behind vs (mid, (v, rest, core, are, is)) = (mid, (v, rest, core, nil_operand no_expressions mid behind rest are, is))
  nil_operand (syntax.expression e (syntax.expression d es)) before behind vs (mid, (v, rest, core, are, is)) = (mid, (v, rest, core, nil_operand (syntax.expression d es) mid behind rest are, is))

-- the last target is no local
abbrev pub LastNoLocal : Option TargetValue → Type 0
LastNoLocal (Some (local_target r)) = ⊥
LastNoLocal t = Unit {0}

nil_stored : (g : Fn) (t : TargetValue) (to : Target) (m : Maker) → IsPlace g t to → LastNoLocal (Some t) → store 1 to (coded (parenthesized 1 (nil_literal 1))) m ≡ store_register 1 to m.free (next_reg (coded (nil_literal 1)) m)
nil_stored g t (name_target text (in_register x)) m is other = absurd (subst (λ t. LastNoLocal (Some t)) is other)
nil_stored g t (name_target text (in_upvalue slot)) m is other = refl
nil_stored g t (name_target text in_globals) m is other = refl
nil_stored g t (part_target on key on_local key_local) m is other = refl

-- all are stored from their registers
pub nil_from : {g : Fn} (placed : List (Placed g)) (es : Expressions) (m : Maker) → length (places placed) ≡ suc (length (codes_of es)) → LastNoLocal (last_target (targets_of placed)) →
    each_stored 1 (places placed) (codes_of (and_nil es)) m ≡ stored_from 1 m.free (places placed) (next_reg (coded (nil_literal 1)) (all_next (codes_of es) m))
nil_from {g} (one ∷ []) no_expressions m same other = nil_stored g one.to one.there m one.is other
nil_from (one ∷ two ∷ others) (syntax.expression e es) m same other =
    let mid = next_reg (code e) m in
    let next : mid.free ≡ suc m.free = omega (arith, (grows calm (one_line_expression e)).to_free m.free m) in
    ap (store_register 1 one.there m.free)
    (nil_from (two ∷ others) es mid (omega (arith, same)) other ∙ ap (λ r. stored_from 1 r (places (two ∷ others)) (next_reg (coded (nil_literal 1)) (all_next (codes_of es) mid))) next)
nil_from placed es m same other = absurd (omega (arith, same))
