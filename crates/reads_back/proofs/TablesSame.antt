-- What is written of a constructor has the code of the constructor: item by item, where so many values are pending.
use Rattle.std.proofs.Common.{inr, ◌≡◌, ℕ, suc, ◌*◌, ◌+◌, ◌-◌, ◌/◌, ◌≤◌, max, nat_lt, nat_le, Bool, true, false, not, cond, ◌&&◌, List, [], ◌∷◌, ◌++◌, length, Option, Some, None, refl, sym, ap, ap₂, ◌∙◌, subst, arith}
use Rattle.std.specs.Prelude.{◌==◌}
use Rattle.lua_num.specs.Bytes.{Text}
use Rattle.lua_tree.specs.OneLine.{one_line_expression, one_line_fields}
use Rattle.lua_tree.specs.Syntax.{Expression, table_argument, Fields, no_fields, positional, named, keyed, constructor}
use Rattle.lua_tree.specs.WellFormed.{depth_of_expression, depth_of_fields, ends_item, formed_expression, formed_fields}
use Rattle.lua_tree.specs.Names.{is_name}
use Rattle.reads_back.proofs.InRoom.{levels_in, unless_in}
use Rattle.reads_back.proofs.Rooms.{some_room}
use Rattle.lua_tree.specs.declared.tree.Separator.{Separator}
use Rattle.opcode.specs.declared.op.Op.{Op}
use Rattle.core_expr.specs.Counting.{left_by, left_by_items, left_by_operand, taken_behind, taken_behind_items, taken_behind_operand}
use Rattle.core_expr.specs.Places.{Place, field_name, place}
use Rattle.core_expr.specs.Values.{ItemList, OperandValue, Value, and_keyed, and_positional, and_value, no_items, no_values, table_value, Inner}
use Rattle.core_expr.specs.Writing.{FieldWording, Wording, and_keyed_item, as_arguments, as_table_argument, is_bare, unless, word_values, as_value, can_write_items, can_write_operand, ends_items, is_multiple as can_be_several, separator_before, word_items, word_operand}
use Rattle.recover_expr.specs.Situation.{Function}
use Rattle.scheme.specs.Expressions.{Coded, is_multiple, next_reg, rk, rk_text}
use Rattle.scheme.specs.Lists.{moved, Entry, positional_entry, entries_from, full_end, is_last, keyed_item, large_block, open_entry, other_count, pending_after, positional_count, set_list, size_hint, small_block, table_at}
use Rattle.scheme.specs.Making.{Asks, Got, Maker, Part, free_from, freeing, put, take_registers, when}
use Rattle.scheme.specs.Scheme.{coded, entries}
use Rattle.scheme.specs.declared.making.Active.{Active}
use Rattle.scheme.specs.declared.making.Piece.{Piece}
use Rattle.scheme_stands.proofs.Growth.{Final, Grown, before as before_part, before_free, before_put, calm, later}
use Rattle.scheme_stands.proofs.Parts.{grow_entries, grows, grows_entries, grows_next, grows_rk, grows_set_list, grows_when}
use Rattle.scheme_stands.specs.Lists.{is_last_item}
use Rattle.scheme_stands.specs.Words.{Fn}
use Rattle.same_flow.specs.Space.{space_of_expression, space_of_fields}
use Rattle.reads_back.specs.Cores.{HasCore}
use Rattle.reads_back.proofs.IndexSame.{KeySame, key_asks, key_asks_same}
use Rattle.reads_back.proofs.Mentions.{IsAhead, Passed, ahead_behind, ahead_front, mentions_in, mentions_of_fields, Mention, made_behind, made_both}
use Rattle.reads_back.proofs.PassedMentions.{PassesMentions, mentions_passed, item_passes, next_passes, set_list_passes, when_passes}
use Rattle.reads_back.proofs.Rewriting.{HasRoom, Rewritten, RewrittenGiven, RewrittenOperand, code, operand_wording, wording}
use Rattle.reads_back.proofs.ShortWords.{begun, next_table}
use Rattle.reads_back.proofs.Tests.{both_hold, first_of_both, second_of_both}
use Rattle.reads_back.proofs.WordsSame.{coded_is, same_multiple, levels_wrapped, made_plainly, next_low, next_same, next_taken, next_wrapped}

-- ---- the entries of fields

pub last_is : (fields : Fields) → is_last (entries (one_line_fields fields)) ≡ is_last_item fields
last_is no_fields = refl
last_is (positional e separator rest) = refl
last_is (named text e separator rest) = refl
last_is (keyed key e separator rest) = refl

-- constants stay where items go into the table
cond_constants : (b : Bool) (one other : Part) (m : Maker) → (one m).constants ≡ m.constants → (other m).constants ≡ m.constants → (cond b one other m).constants ≡ m.constants
cond_constants true one other m first second = first
cond_constants false one other m first second = second

set_list_constants : (t n done : ℕ) (m : Maker) → (set_list 1 t n done m).constants ≡ m.constants
set_list_constants t n done m = let block = (done - 1) / 50 + 1 in cond_constants (nat_le block 511) (small_block 1 t n block) (large_block 1 t n block) m refl refl

when_constants : (b : Bool) (part : Part) (m : Maker) → (part m).constants ≡ m.constants → (when b part m).constants ≡ m.constants
when_constants true part m same = same
when_constants false part m same = refl

-- no items have no entries
items_end : (at : Place) (n : ℕ) (fs : List (Option Inner)) (items : ItemList) (all : Bool) → ends_items items ≡ true → is_last (entries (word_items at n fs items all).words) ≡ true
items_end at n fs no_items all ends = refl
items_end at n fs items all ends = cc

-- an item that is not open
abbrev closed_from : (t done pending : ℕ) → Coded → List Entry → Part
closed_from t done pending c others m = entries_from 1 t (suc done) (pending_after (suc pending)) others (full_end 1 t (suc done) (suc pending) (next_reg c m))

closed_by : (t done pending : ℕ) (c : Coded) (others : List Entry) (m : Maker) → (is_last others && is_multiple c.e) ≡ false → entries_from 1 t done pending (positional_entry c ∷ others) m ≡ closed_from t done pending c others m
closed_by t done pending c others m is = ap (λ b. cond b (open_entry 1 t done c) (closed_from t done pending c others) m) is

-- an item with a key
abbrev keyed_from : (t done pending : ℕ) → Asks ℕ → Coded → List Entry → Part
keyed_from t done pending asked c others m = entries_from 1 t done pending others (freeing (keyed_item 1 t asked c) m)

module _ (f : Function) (listed : List ℕ) (z : Maker) (lefts : ℕ → List (Option Inner)) (before : ℕ) where
  abbrev items_wording : ℕ → ItemList → (all : Bool) → FieldWording
  items_wording n items all = word_items (place f.of listed f.short) n (lefts before) items all

module _ (f : Function) (g : Fn) (active : List Active) (listed : List ℕ) (z : Maker) (lefts : ℕ → List (Option Inner)) (before behind : ℕ) where
  -- of the items of a constructor
  pub record RewrittenItems (fields : Fields) (deep : ℕ) (items : ItemList) (all : Bool) : Type 0 where
    pub can : can_write_items (place f.of listed f.short) (lefts before) items ≡ true
    pub leaves : left_by_items items (lefts before) ≡ lefts behind
    pub makes : behind ≡ made_behind (mentions_of_fields fields) before
    pub few : (n : ℕ) → (items_wording f listed z lefts before n items all).levels ≤ 3 * deep + 203
    pub low : f.short ≡ true → formed_fields fields ≡ true → (t done pending : ℕ) (m : Maker) → IsAhead g active before (mentions_of_fields fields) m → Final (length m.labels) (entries_from 1 t done pending (entries (one_line_fields fields)) m) z →
        (items_wording f listed z lefts before (length m.constants) items all).levels ≤ space_of_fields fields
    pub last : (n : ℕ) → is_last (entries (items_wording f listed z lefts before n items all).words) ≡ is_last (entries (one_line_fields fields))
    pub positions : (n : ℕ) → positional_count (entries (items_wording f listed z lefts before n items all).words) ≡ positional_count (entries (one_line_fields fields))
    pub others : (n : ℕ) → other_count (entries (items_wording f listed z lefts before n items all).words) ≡ other_count (entries (one_line_fields fields))
    pub part : (t done pending : ℕ) (m : Maker) → IsAhead g active before (mentions_of_fields fields) m → Final (length m.labels) (entries_from 1 t done pending (entries (one_line_fields fields)) m) z →
        entries_from 1 t done pending (entries (items_wording f listed z lefts before (length m.constants) items all).words) m ≡ entries_from 1 t done pending (entries (one_line_fields fields)) m
    pub taken : (t done pending : ℕ) (m : Maker) → IsAhead g active before (mentions_of_fields fields) m → Final (length m.labels) (entries_from 1 t done pending (entries (one_line_fields fields)) m) z →
        length (entries_from 1 t done pending (entries (one_line_fields fields)) m).constants ≡ taken_behind_items items (length m.constants)

module _ {f : Function} {g : Fn} {active : List Active} {listed : List ℕ} {z : Maker} {lefts : ℕ → List (Option Inner)} {before behind : ℕ} where
  -- ---- no more items

  pub none_rewritten : (deep : ℕ) (all : Bool) → behind ≡ before → RewrittenItems f g active listed z lefts before behind no_fields deep no_items all
  none_rewritten deep all same = record {
    can = refl;
    leaves = ap lefts (sym same);
    makes = same;
    few = λ n. omega arith;
    low = λ short formed t done pending m ahead final. omega arith;
    last = λ n. refl;
    positions = λ n. refl;
    others = λ n. refl;
    part = λ t done pending m ahead final. refl;
    taken = λ t done pending m ahead final. ap (λ ks. length ks) (when_constants (nat_lt 0 pending) (set_list 1 t pending done) m (set_list_constants t pending done m));
  }

  -- ---- a last one, of which all values go into the table

  pub open_rewritten : (e : Expression) (separator : Separator) (v : Value) (deep : ℕ) → depth_of_expression e ≤ deep → Rewritten f g active listed z lefts before behind e v → is_multiple e ≡ true →
      RewrittenItems f g active listed z lefts before behind (positional e separator no_fields) deep (and_positional v no_items) true
  open_rewritten e separator v deep deeper written is = record {
    can = both_hold _ true written.can refl;
    leaves = written.leaves;
    makes = written.makes ∙ sym (made_both (mentions_in e) [] before);
    few = λ n. omega (arith, written.few n, deeper);
    low = λ short formed t done pending m ahead final.
        let n = length m.constants in
        let good = first_of_both _ _ (second_of_both (ends_item separator no_fields) _ formed) in
        let low = levels_in (is_bare (place f.of listed f.short) n v) e (wording f listed z lefts before n v) (written.low short good m (ahead_front (mentions_in e) [] ahead) (inr (inr (is, Op.Call, None, inner t done pending m final)))) in
        omega (arith, low);
    last = λ n. refl;
    positions = λ n. ap (λ (b : Bool). cond b 0 1) (several n) ∙ sym (ap (λ (b : Bool). cond b 0 1) of_code);
    others = λ n. refl;
    part = λ t done pending m ahead final.
        as_open t done pending (coded (wording f listed z lefts before (length m.constants) v).words) m (several (length m.constants))
        ∙ ap (set_list 1 t 0 (suc done)) (written.multi is Op.Call None m (ahead_front (mentions_in e) [] ahead) (inner t done pending m final))
        ∙ sym (as_open t done pending (code e) m of_code);
    taken = λ t done pending m ahead final.
        ap (λ (n : Maker). length n.constants) (as_open t done pending (code e) m of_code)
        ∙ ap (λ ks. length ks) (set_list_constants t 0 (suc done) ((code e).multi Op.Call None m))
        ∙ written.multi_taken is Op.Call None m (ahead_front (mentions_in e) [] ahead) (inner t done pending m final);
  }
    where
      several : (n : ℕ) → is_multiple (coded (wording f listed z lefts before n v).words).e ≡ true
      several n = ap is_multiple (coded_is (wording f listed z lefts before n v).words) ∙ written.several n ∙ written.gives is

      of_code : is_multiple (code e).e ≡ true
      of_code = ap is_multiple (coded_is (one_line_expression e)) ∙ same_multiple e ∙ is

      as_open : (t done pending : ℕ) (c : Coded) (m : Maker) → is_multiple c.e ≡ true → entries_from 1 t done pending (positional_entry c ∷ []) m ≡ open_entry 1 t done c m
      as_open t done pending c m many = ap (λ b. cond b (open_entry 1 t done c) (closed_from t done pending c []) m) many

      inner : (t done pending : ℕ) (m : Maker) → Final (length m.labels) (entries_from 1 t done pending (positional_entry (code e) ∷ []) m) z → Final (length m.labels) ((code e).multi Op.Call None m) z
      inner t done pending m final =
          let mid = (code e).multi Op.Call None m in
          before_part (grows_set_list {v = calm} 1 t 0 (suc done) mid) (subst (λ n. Final (length m.labels) n z) (as_open t done pending (code e) m of_code) final)

module _ {f : Function} {g : Fn} {active : List Active} {listed : List ℕ} {z : Maker} {lefts : ℕ → List (Option Inner)} {before mid behind : ℕ} where
  -- ---- an item without a key, and others behind it

  pub positional_rewritten : (e : Expression) (separator : Separator) (rest : Fields) (v : Value) (items : ItemList) (all : Bool) (deep : ℕ) → HasCore e → depth_of_expression e ≤ deep → Rewritten f g active listed z lefts before mid e v → RewrittenItems f g active listed z lefts mid behind rest deep items all →
      (is_last_item rest && is_multiple e) ≡ false → ((n : ℕ) → (is_last (entries (items_wording f listed z lefts mid n items all).words) && is_multiple (as_value (ends_items items && not all) v (wording f listed z lefts before n v)).words) ≡ false) →
      RewrittenItems f g active listed z lefts before behind (positional e separator rest) deep (and_positional v items) all
  positional_rewritten e separator rest v items all deep has deeper first others closed written_closed = record {
    can = both_hold _ _ first.can (ap (λ fs. can_write_items (place f.of listed f.short) fs items) first.leaves ∙ others.can);
    leaves = ap (left_by_items items) first.leaves ∙ others.leaves;
    makes = others.makes ∙ ap (made_behind (mentions_of_fields rest)) first.makes ∙ sym (made_both (mentions_in e) (mentions_of_fields rest) before);
    few = λ n.
        let same = ap (λ (w : FieldWording). w.levels) (behind_is n) in
        omega (arith, same, first.few n, deeper, levels_wrapped (not ((ends_items items && not all) && can_be_several v)) (wording f listed z lefts before n v), others.few (taken_behind v n));
    low = λ short formed t done pending m ahead final.
        let n = length m.constants in
        let parts = second_of_both (ends_item separator rest) _ formed in
        let on = between t done pending m in
        let on_first = first_final t done pending m final in
        let same : length on.constants ≡ taken_behind v n = ap (λ ks. length ks) (between_constants t done pending m) ∙ next_taken first m (ahead_front (mentions_in e) (mentions_of_fields rest) ahead) on_first in
        let one = item_low n (next_low first short (first_of_both _ _ parts) m (ahead_front (mentions_in e) (mentions_of_fields rest) ahead) on_first) in
        let other = others.low short (second_of_both (formed_expression e) _ parts) t (suc done) (pending_after (suc pending)) on (rest_ahead t done pending m ahead) (here t done pending m final) in
        let left = ap (λ (w : FieldWording). w.levels) (behind_is n) in
        let taken = ap (λ n. (items_wording f listed z lefts mid n items all).levels) same in
        omega (arith, one, other, left, taken);
    last = λ n. refl;
    positions = λ n.
        ap (λ (w : FieldWording). positional_count (positional_entry (coded (item n).words) ∷ entries w.words)) (behind_is n)
        ∙ ap (λ (b : Bool). cond b 0 (suc (positional_count (entries (behind_words n).words)))) (item_closed n)
        ∙ ap suc (others.positions (taken_behind v n))
        ∙ sym (ap (λ (b : Bool). cond b 0 (suc (positional_count (entries (one_line_fields rest))))) code_closed);
    others = λ n. ap (λ (w : FieldWording). other_count (entries w.words)) (behind_is n) ∙ others.others (taken_behind v n);
    part = λ t done pending m ahead final.
        let n = length m.constants in
        let c = coded (item n).words in
        let at_rest = here t done pending m final in
        let on_first = first_final t done pending m final in
        let on = between t done pending m in
        let same : length on.constants ≡ taken_behind v n = ap (λ ks. length ks) (between_constants t done pending m) ∙ next_taken first m (ahead_front (mentions_in e) (mentions_of_fields rest) ahead) on_first in
        ap (λ (w : FieldWording). entries_from 1 t done pending (positional_entry c ∷ entries w.words) m) (behind_is n)
        ∙ closed_by t done pending c (entries (behind_words n).words) m (item_closed n)
        ∙ ap (λ mid. entries_from 1 t (suc done) (pending_after (suc pending)) (entries (behind_words n).words) (full_end 1 t (suc done) (suc pending) mid)) (next_wrapped (not ((ends_items items && not all) && can_be_several v)) (wording f listed z lefts before n v) m ∙ next_same first m (ahead_front (mentions_in e) (mentions_of_fields rest) ahead) on_first)
        ∙ ap (λ n. entries_from 1 t (suc done) (pending_after (suc pending)) (entries (items_wording f listed z lefts mid n items all).words) on) (sym same)
        ∙ others.part t (suc done) (pending_after (suc pending)) on (rest_ahead t done pending m ahead) at_rest
        ∙ sym (closed_by t done pending (code e) (entries (one_line_fields rest)) m code_closed);
    taken = λ t done pending m ahead final.
        let on = between t done pending m in
        ap (λ (n : Maker). length n.constants) (closed_by t done pending (code e) (entries (one_line_fields rest)) m code_closed)
        ∙ others.taken t (suc done) (pending_after (suc pending)) on (rest_ahead t done pending m ahead) (here t done pending m final)
        ∙ ap (taken_behind_items items) (ap (λ ks. length ks) (between_constants t done pending m) ∙ next_taken first m (ahead_front (mentions_in e) (mentions_of_fields rest) ahead) (first_final t done pending m final));
  }
    where
      item : (n : ℕ) → Wording
      item n = as_value (ends_items items && not all) v (wording f listed z lefts before n v)

      behind_words : (n : ℕ) → FieldWording
      behind_words n = items_wording f listed z lefts mid (taken_behind v n) items all

      behind_is : (n : ℕ) → word_items (place f.of listed f.short) (taken_behind v n) (left_by v (lefts before)) items all ≡ behind_words n
      behind_is n = ap (λ fs. word_items (place f.of listed f.short) (taken_behind v n) fs items all) first.leaves

      item_closed : (n : ℕ) → (is_last (entries (behind_words n).words) && is_multiple (coded (item n).words).e) ≡ false
      item_closed n =
          ap₂ (λ (a b : Bool). a && b) (others.last (taken_behind v n) ∙ sym (others.last n)) (ap is_multiple (coded_is (item n).words)) ∙ written_closed n

      code_closed : (is_last (entries (one_line_fields rest)) && is_multiple (code e).e) ≡ false
      code_closed = ap₂ (λ (a b : Bool). a && b) (last_is rest) (ap is_multiple (coded_is (one_line_expression e)) ∙ same_multiple e) ∙ closed

      -- where one value of the last item is wanted, the expression gives one
      single_there : (n : ℕ) → ends_items items ≡ true → is_multiple e ≡ false
      single_there n ends =
          let last_item : is_last_item rest ≡ true = sym (last_is rest) ∙ sym (others.last n) ∙ items_end (place f.of listed f.short) n (lefts mid) items all ends in
          ap (λ (last : Bool). last && is_multiple e) (sym last_item) ∙ closed

      item_low : (n : ℕ) → HasRoom f listed z lefts before n e v → (item n).levels ≤ space_of_expression e
      item_low n low = by (ends_items items) refl
        where
          wanted_one : Bool → Bool
          wanted_one ends = not ((ends && not all) && can_be_several v)

          wrapped : (ends : Bool) → ((unless (wanted_one ends) (wording f listed z lefts before n v)).levels ≤ space_of_expression e) → ends_items items ≡ ends → (item n).levels ≤ space_of_expression e
          wrapped ends low is = let same = ap (λ (ends : Bool). (unless (wanted_one ends) (wording f listed z lefts before n v)).levels) is in omega (arith, low, same)

          stays : (open_last : Bool) → can_be_several v ≡ false → not (not open_last && can_be_several v) ≡ true
          stays true single = refl
          stays false single = ap not single

          by : (ends : Bool) → ends_items items ≡ ends → (item n).levels ≤ space_of_expression e
          by true is =
              wrapped true (unless_in (is_bare (place f.of listed f.short) n v) e (wording f listed z lefts before n v) (wanted_one true) low (λ alike. stays all (sym (first.several n) ∙ alike.several ∙ single_there n is))) is
          by false is = wrapped false (levels_in (is_bare (place f.of listed f.short) n v) e (wording f listed z lefts before n v) low) is

      between : (t done pending : ℕ) → Part
      between t done pending m = full_end 1 t (suc done) (suc pending) (next_reg (code e) m)

      between_constants : (t done pending : ℕ) (m : Maker) → (between t done pending m).constants ≡ (next_reg (code e) m).constants
      between_constants t done pending m = when_constants (suc pending == 50) (set_list 1 t 50 (suc done)) (next_reg (code e) m) (set_list_constants t 50 (suc done) (next_reg (code e) m))

      rest_ahead : (t done pending : ℕ) (m : Maker) → IsAhead g active before (mentions_in e ++ mentions_of_fields rest) m → IsAhead g active mid (mentions_of_fields rest) (between t done pending m)
      rest_ahead t done pending m ahead =
          ahead_behind [] (mentions_of_fields rest) refl (when_passes (suc pending == 50) (set_list 1 t 50 (suc done)) (set_list_passes t 50 (suc done)) (next_reg (code e) m))
          (ahead_behind (mentions_in e) (mentions_of_fields rest) first.makes (next_passes (mentions_in e) (code e) (mentions_passed e has) m) ahead)

      between_grown : (t done pending : ℕ) (m : Maker) → Grown calm (next_reg (code e) m) (between t done pending m)
      between_grown t done pending m = grows_when (suc pending == 50) (set_list 1 t 50 (suc done)) (next_reg (code e) m) (grows_set_list 1 t 50 (suc done) (next_reg (code e) m))

      rest_grown : (t done pending : ℕ) (m : Maker) → Grown calm m (entries_from 1 t done pending (entries (one_line_fields rest)) m)
      rest_grown t done pending m = grows_entries 1 t done pending (entries (one_line_fields rest)) (grow_entries calm (one_line_fields rest)) m

      whole : (t done pending : ℕ) (m : Maker) → Final (length m.labels) (entries_from 1 t done pending (positional_entry (code e) ∷ entries (one_line_fields rest)) m) z →
          Final (length m.labels) (entries_from 1 t (suc done) (pending_after (suc pending)) (entries (one_line_fields rest)) (between t done pending m)) z
      whole t done pending m final = subst (λ n. Final (length m.labels) n z) (closed_by t done pending (code e) (entries (one_line_fields rest)) m code_closed) final

      first_final : (t done pending : ℕ) (m : Maker) → Final (length m.labels) (entries_from 1 t done pending (positional_entry (code e) ∷ entries (one_line_fields rest)) m) z → Final (length m.labels) (next_reg (code e) m) z
      first_final t done pending m final = before_part (between_grown t done pending m) (before_part (rest_grown t (suc done) (pending_after (suc pending)) (between t done pending m)) (whole t done pending m final))

      here : (t done pending : ℕ) (m : Maker) → Final (length m.labels) (entries_from 1 t done pending (positional_entry (code e) ∷ entries (one_line_fields rest)) m) z →
          Final (length (between t done pending m).labels) (entries_from 1 t (suc done) (pending_after (suc pending)) (entries (one_line_fields rest)) (between t done pending m)) z
      here t done pending m final =
          let grown = grows_next {v = calm} (code e) (grows calm (one_line_expression e)) m in
          let more = between_grown t done pending m in
          later (omega (arith, grown.more, more.more)) (whole t done pending m final)

-- ---- an item with a key, and others behind it

-- by a name or an expression, it asks for its key and makes the rest
written_keyed : (name : Option Text) (key item : Wording) (separator : Separator) (rest : FieldWording) (t done pending : ℕ) (m : Maker) →
    entries_from 1 t done pending (entries (and_keyed_item name key item separator rest).words) m ≡ keyed_from t done pending (key_asks name key) (coded item.words) (entries rest.words) m
written_keyed None key item separator rest t done pending m = refl
written_keyed (Some name) key item separator rest t done pending m = refl

keyed_last : (name : Option Text) (key item : Wording) (separator : Separator) (rest : FieldWording) → is_last (entries (and_keyed_item name key item separator rest).words) ≡ false
keyed_last None key item separator rest = refl
keyed_last (Some name) key item separator rest = refl

keyed_positions : (name : Option Text) (key item : Wording) (separator : Separator) (rest : FieldWording) → positional_count (entries (and_keyed_item name key item separator rest).words) ≡ positional_count (entries rest.words)
keyed_positions None key item separator rest = refl
keyed_positions (Some name) key item separator rest = refl

keyed_others : (name : Option Text) (key item : Wording) (separator : Separator) (rest : FieldWording) → other_count (entries (and_keyed_item name key item separator rest).words) ≡ suc (other_count (entries rest.words))
keyed_others None key item separator rest = refl
keyed_others (Some name) key item separator rest = refl

keyed_few : (name : Option Text) (key item : Wording) (separator : Separator) (rest : FieldWording) (n : ℕ) → key.levels ≤ n → item.levels ≤ n → rest.levels ≤ n → (and_keyed_item name key item separator rest).levels ≤ n
keyed_few None key item separator rest n first second others = omega (arith, first, second, others)
keyed_few (Some name) key item separator rest n first second others = omega (arith, second, others)

-- the fields begin with an item that asks so for its key, by these names
pub record IsKeyed (fields : Fields) (asked : Asks ℕ) (mentions : List Mention) (e : Expression) (rest : Fields) (good : Bool) (roomy : ℕ) : Type 0 where
  names : mentions_of_fields fields ≡ (mentions ++ mentions_in e) ++ mentions_of_fields rest
  from : (t done pending : ℕ) (m : Maker) → entries_from 1 t done pending (entries (one_line_fields fields)) m ≡ keyed_from t done pending asked (code e) (entries (one_line_fields rest)) m
  last : is_last (entries (one_line_fields fields)) ≡ false
  positions : positional_count (entries (one_line_fields fields)) ≡ positional_count (entries (one_line_fields rest))
  others : other_count (entries (one_line_fields fields)) ≡ suc (other_count (entries (one_line_fields rest)))
  parts : formed_fields fields ≡ true → (good ≡ true) × (formed_expression e ≡ true) × (formed_fields rest ≡ true)
  room : max roomy (max (space_of_expression e) (space_of_fields rest)) ≤ space_of_fields fields

pub named_keyed : (text : Text) (e : Expression) (separator : Separator) (rest : Fields) → IsKeyed (named text e separator rest) (rk_text 1 text) [] e rest true 1
named_keyed text e separator rest = record {
  names = refl;
  from = λ t done pending m. refl;
  last = refl;
  positions = refl;
  others = refl;
  parts = λ formed. let parts = second_of_both (is_name text) _ (second_of_both (ends_item separator rest) _ formed) in (refl, first_of_both _ _ parts, second_of_both (formed_expression e) _ parts);
  room = omega (arith, some_room e);
}

pub keyed_keyed : (key e : Expression) (separator : Separator) (rest : Fields) → IsKeyed (keyed key e separator rest) (rk (code key)) (mentions_in key) e rest (formed_expression key) (space_of_expression key)
keyed_keyed key e separator rest = record {
  names = refl;
  from = λ t done pending m. refl;
  last = refl;
  positions = refl;
  others = refl;
  parts = λ formed.
      let behind = second_of_both (ends_item separator rest) _ formed in
      let parts = second_of_both (formed_expression key) _ behind in
      (first_of_both _ _ behind, first_of_both _ _ parts, second_of_both (formed_expression e) _ parts);
  room = omega arith;
}

module _ {f : Function} {g : Fn} {active : List Active} {listed : List ℕ} {z : Maker} {lefts : ℕ → List (Option Inner)} {before mid last behind : ℕ} (fields : Fields) (asked : Asks ℕ) (mentions : List Mention) (e : Expression) (rest : Fields) (k o : OperandValue) (items : ItemList) (all : Bool) (deep : ℕ) (good : Bool) (roomy : ℕ)
    (is : IsKeyed fields asked mentions e rest good roomy) (e_passes : PassesMentions (mentions_in e) (code e)) (key_same : KeySame f g active listed z lefts before mid asked mentions k deep good roomy) (e_same : RewrittenOperand f g active listed z lefts mid last e o) (deeper : depth_of_expression e ≤ deep)
    (rest_same : RewrittenItems f g active listed z lefts last behind rest deep items all) where
  abbrev at : Place
  at = place f.of listed f.short

  -- what is written where so many constants are taken
  abbrev key_words : ℕ → Wording
  key_words n = operand_wording f listed z lefts before n k

  abbrev e_words : ℕ → Wording
  e_words n = operand_wording f listed z lefts mid n o

  abbrev rest_words : ℕ → FieldWording
  rest_words n = items_wording f listed z lefts last n items all

  written_is : (n : ℕ) → items_wording f listed z lefts before n (and_keyed k o items) all ≡ and_keyed_item (field_name at k) (key_words n) (e_words (taken_behind_operand k n)) (separator_before items) (rest_words (taken_behind_operand o (taken_behind_operand k n)))
  written_is n =
      let n1 = taken_behind_operand k n in
      let n2 = taken_behind_operand o n1 in
      ap (λ fs. and_keyed_item (field_name at k) (key_words n) (word_operand at n1 fs o) (separator_before items) (word_items at n2 (left_by_operand o fs) items all)) key_same.written.leaves
      ∙ ap (λ fs. and_keyed_item (field_name at k) (key_words n) (e_words n1) (separator_before items) (word_items at n2 fs items all)) e_same.leaves

  -- behind its key and its value
  item_makes : last ≡ made_behind (mentions ++ mentions_in e) before
  item_makes = e_same.makes ∙ ap (made_behind (mentions_in e)) key_same.written.makes ∙ sym (made_both mentions (mentions_in e) before)

  module _ (t done pending : ℕ) (m : Maker) (ahead : IsAhead g active before (mentions_of_fields fields) m) (final : Final (length m.labels) (entries_from 1 t done pending (entries (one_line_fields fields)) m) z) where
    -- behind the key, the item, and its word
    abbrev key_got : Got ℕ
    key_got = asked m

    abbrev e_got : Got ℕ
    e_got = rk (code e) key_got.after

    abbrev behind_it : Maker
    behind_it = freeing (keyed_item 1 t asked (code e)) m

    item_ahead : IsAhead g active before ((mentions ++ mentions_in e) ++ mentions_of_fields rest) m
    item_ahead = subst (λ mentions. IsAhead g active before mentions m) is.names ahead

    both_ahead : IsAhead g active before (mentions ++ mentions_in e) m
    both_ahead = ahead_front (mentions ++ mentions_in e) (mentions_of_fields rest) item_ahead

    key_ahead : IsAhead g active before mentions m
    key_ahead = ahead_front mentions (mentions_in e) both_ahead

    e_ahead : IsAhead g active mid (mentions_in e) key_got.after
    e_ahead = ahead_behind mentions (mentions_in e) key_same.written.makes (key_same.passes m) both_ahead

    rest_ahead : IsAhead g active last (mentions_of_fields rest) behind_it
    rest_ahead = ahead_behind (mentions ++ mentions_in e) (mentions_of_fields rest) item_makes (item_passes t mentions (mentions_in e) asked (code e) key_same.passes e_passes m) item_ahead

    whole : Final (length m.labels) (keyed_from t done pending asked (code e) (entries (one_line_fields rest)) m) z
    whole = subst (λ n. Final (length m.labels) n z) (is.from t done pending m) final

    behind_final : Final (length m.labels) behind_it z
    behind_final = before_part (grows_entries {v = calm} 1 t done pending (entries (one_line_fields rest)) (grow_entries calm (one_line_fields rest)) behind_it) whole

    e_final : Final (length m.labels) e_got.after z
    e_final = before_put 1 (Piece.Abc Op.SetTable t key_got.value e_got.value) e_got.after (before_free m.free (keyed_item 1 t asked (code e) m) behind_final)

    key_final : Final (length m.labels) key_got.after z
    key_final = before_part (grows_rk {v = calm} (code e) (grows calm (one_line_expression e)) key_got.after) e_final

    e_later : Final (length key_got.after.labels) e_got.after z
    e_later = let grown = key_same.written.grown m in later grown.more e_final

    rest_later : Final (length behind_it.labels) (entries_from 1 t done pending (entries (one_line_fields rest)) behind_it) z
    rest_later =
        let grown = key_same.written.grown m in
        let more = grows_rk {v = calm} (code e) (grows calm (one_line_expression e)) key_got.after in
        later (omega (arith, grown.more, more.more)) whole

    key_count : length key_got.after.constants ≡ taken_behind_operand k (length m.constants)
    key_count = key_same.written.taken m key_ahead key_final

    e_count : length behind_it.constants ≡ taken_behind_operand o (taken_behind_operand k (length m.constants))
    e_count = e_same.taken key_got.after e_ahead e_later ∙ ap (taken_behind_operand o) key_count

    keyed_same : entries_from 1 t done pending (entries (items_wording f listed z lefts before (length m.constants) (and_keyed k o items) all).words) m ≡ entries_from 1 t done pending (entries (one_line_fields fields)) m
    keyed_same =
        let n = length m.constants in
        let n1 = taken_behind_operand k n in
        let n2 = taken_behind_operand o n1 in
        ap (λ (w : FieldWording). entries_from 1 t done pending (entries w.words) m) (written_is n)
        ∙ written_keyed (field_name at k) (key_words n) (e_words n1) (separator_before items) (rest_words n2) t done pending m
        ∙ ap (λ (got : Got ℕ). behind_key got (coded (e_words n1).words) (entries (rest_words n2).words)) (key_asks_same at n (lefts before) k m ∙ key_same.written.as_rk m key_ahead key_final)
        ∙ ap (λ n1. behind_key key_got (coded (e_words n1).words) (entries (rest_words n2).words)) (sym key_count)
        ∙ ap (λ (got : Got ℕ). behind_item key_got got (entries (rest_words n2).words)) (e_same.as_rk key_got.after e_ahead e_later)
        ∙ ap (λ n2. entries_from 1 t done pending (entries (rest_words n2).words) behind_it) (sym e_count)
        ∙ rest_same.part t done pending behind_it rest_ahead rest_later
        ∙ sym (is.from t done pending m)
      where
        behind_item : Got ℕ → Got ℕ → List Entry → Maker
        behind_item key item others = entries_from 1 t done pending others (free_from m.free (put 1 (Piece.Abc Op.SetTable t key.value item.value) item.after))

        behind_key : Got ℕ → Coded → List Entry → Maker
        behind_key key c others = behind_item key (rk c key.after) others

    -- in the forms of fewest levels
    keyed_low : f.short ≡ true → formed_fields fields ≡ true → (items_wording f listed z lefts before (length m.constants) (and_keyed k o items) all).levels ≤ space_of_fields fields
    keyed_low short formed =
        let n = length m.constants in
        let n1 = taken_behind_operand k n in
        let n2 = taken_behind_operand o n1 in
        let parts = is.parts formed in
        let one = key_same.written.low short parts.0 m key_ahead key_final in
        let other = (e_same.low short parts.1 key_got.after e_ahead e_later).low in
        let rest_low = rest_same.low short parts.2 t done pending behind_it rest_ahead rest_later in
        let e_taken = ap (λ n. (e_words n).levels) key_count in
        let rest_taken = ap (λ n. (rest_words n).levels) e_count in
        let room = is.room in
        let all_low = keyed_few (field_name at k) (key_words n) (e_words n1) (separator_before items) (rest_words n2) (space_of_fields fields) (omega (arith, one, room)) (omega (arith, other, e_taken, room)) (omega (arith, rest_low, rest_taken, room)) in
        omega (arith, ap (λ (w : FieldWording). w.levels) (written_is n), all_low)

    keyed_taken : length (entries_from 1 t done pending (entries (one_line_fields fields)) m).constants ≡ taken_behind_items (and_keyed k o items) (length m.constants)
    keyed_taken = ap (λ (n : Maker). length n.constants) (is.from t done pending m) ∙ rest_same.taken t done pending behind_it rest_ahead rest_later ∙ ap (taken_behind_items items) e_count

  pub keyed_rewritten : RewrittenItems f g active listed z lefts before behind fields deep (and_keyed k o items) all
  keyed_rewritten = record {
    can = both_hold _ _ key_same.written.can (both_hold _ _ (ap (λ fs. can_write_operand at fs o) key_same.written.leaves ∙ e_same.can) (ap (λ fs. can_write_items at (left_by_operand o fs) items) key_same.written.leaves ∙ ap (λ fs. can_write_items at fs items) e_same.leaves ∙ rest_same.can));
    leaves = ap (λ fs. left_by_items items (left_by_operand o fs)) key_same.written.leaves ∙ ap (left_by_items items) e_same.leaves ∙ rest_same.leaves;
    makes = rest_same.makes ∙ ap (made_behind (mentions_of_fields rest)) item_makes ∙ sym (made_both (mentions ++ mentions_in e) (mentions_of_fields rest) before) ∙ ap (λ mentions. made_behind mentions before) (sym is.names);
    few = λ n.
        let n1 = taken_behind_operand k n in
        let same = ap (λ (w : FieldWording). w.levels) (written_is n) in
        let low = keyed_few (field_name at k) (key_words n) (e_words n1) (separator_before items) (rest_words (taken_behind_operand o n1)) (3 * deep + 203) (key_same.written.few n) (omega (arith, e_same.few n1, deeper)) (rest_same.few (taken_behind_operand o n1)) in
        omega (arith, same, low);
    low = λ short formed t done pending m ahead final. keyed_low t done pending m ahead final short formed;
    last = λ n. ap (λ (w : FieldWording). is_last (entries w.words)) (written_is n) ∙ keyed_last (field_name at k) _ _ _ _ ∙ sym is.last;
    positions = λ n. ap (λ (w : FieldWording). positional_count (entries w.words)) (written_is n) ∙ keyed_positions (field_name at k) _ _ _ _ ∙ rest_same.positions (taken_behind_operand o (taken_behind_operand k n)) ∙ sym is.positions;
    others = λ n. ap (λ (w : FieldWording). other_count (entries w.words)) (written_is n) ∙ keyed_others (field_name at k) _ _ _ _ ∙ ap suc (rest_same.others (taken_behind_operand o (taken_behind_operand k n))) ∙ sym is.others;
    part = keyed_same;
    taken = keyed_taken;
  }

-- ---- the whole

module _ {f : Function} {g : Fn} {active : List Active} {listed : List ℕ} {z : Maker} {lefts : ℕ → List (Option Inner)} {before behind : ℕ} {fields : Fields} {deep : ℕ} {items : ItemList} {all : Bool} (same : RewrittenItems f g active listed z lefts before behind fields deep items all) where
  abbrev written : ℕ → List Entry
  written n = entries (items_wording f listed z lefts before n items all).words

  begun_same : (n : ℕ) (m : Maker) → begun (written n) m ≡ begun (entries (one_line_fields fields)) m
  begun_same n m = ap₂ (λ a b. take_registers 1 (put 1 (Piece.Abc Op.NewTable m.free (size_hint a) (size_hint b)) m)) (same.positions n) (same.others n)

  items_final : (m : Maker) → Final (length m.labels) (table_at 1 (entries (one_line_fields fields)) m) z → Final (length m.labels) (entries_from 1 m.free 0 0 (entries (one_line_fields fields)) (begun (entries (one_line_fields fields)) m)) z
  items_final m final = before_free (m.free + 1) _ final

  begun_passes : (others : List Entry) (m : Maker) → Passed [] m (begun others m)
  begun_passes others m = record { around = refl; behind = refl }

  begun_ahead : (m : Maker) → IsAhead g active before (mentions_of_fields fields) m → IsAhead g active before (mentions_of_fields fields) (begun (entries (one_line_fields fields)) m)
  begun_ahead m ahead = ahead_behind [] (mentions_of_fields fields) refl (begun_passes (entries (one_line_fields fields)) m) ahead

  table_same : (m : Maker) → IsAhead g active before (mentions_of_fields fields) m → Final (length m.labels) (table_at 1 (entries (one_line_fields fields)) m) z → table_at 1 (written (length m.constants)) m ≡ table_at 1 (entries (one_line_fields fields)) m
  table_same m ahead final =
      ap (λ n. free_from (m.free + 1) (entries_from 1 m.free 0 0 (written (length m.constants)) n)) (begun_same (length m.constants) m)
      ∙ ap (free_from (m.free + 1)) (same.part m.free 0 0 (begun (entries (one_line_fields fields)) m) (begun_ahead m ahead) (items_final m final))

  table_taken : (m : Maker) → IsAhead g active before (mentions_of_fields fields) m → Final (length m.labels) (table_at 1 (entries (one_line_fields fields)) m) z → length (table_at 1 (entries (one_line_fields fields)) m).constants ≡ taken_behind_items items (length m.constants)
  table_taken m ahead final = same.taken m.free 0 0 (begun (entries (one_line_fields fields)) m) (begun_ahead m ahead) (items_final m final)

  abbrev table_code : ℕ → Maker → Maker
  table_code r m = free_from m.free (moved 1 m.free r (table_at 1 (entries (one_line_fields fields)) m))

  moved_final : (b : Bool) (k r base : ℕ) (m : Maker) → Final k (when b (put 1 (Piece.Abc Op.Move r base 0)) m) z → Final k m z
  moved_final true k r base m final = before_put 1 (Piece.Abc Op.Move r base 0) m final
  moved_final false k r base m final = final

  inner : (r : ℕ) (m : Maker) → Final (length m.labels) (table_code r m) z → Final (length m.labels) (table_at 1 (entries (one_line_fields fields)) m) z
  inner r m final = moved_final (not (m.free == r)) (length m.labels) r m.free (table_at 1 (entries (one_line_fields fields)) m) (before_free m.free _ final)

  pub table_rewritten : (line depth : ℕ) → depth_of_fields fields ≡ deep → Rewritten f g active listed z lefts before behind (constructor line fields) (table_value items all depth)
  table_rewritten line depth is_deep = record {
    can = same.can;
    leaves = same.leaves;
    makes = same.makes;
    named = λ n. refl;
    folded = λ n. refl;
    several = λ n. refl;
    gives = λ several. cc;
    few = λ n. omega (arith, same.few n, is_deep);
    low = λ short formed m ahead as_made.
        made_plainly (constructor line fields) m refl refl (λ r final.
        let low = same.low short formed m.free 0 0 (begun (entries (one_line_fields fields)) m) (begun_ahead m ahead) (items_final m (inner r m final)) in
        inr (record { low = omega (arith, low); binds = record { prefix = refl; level = refl; unary = refl; several = refl }; bare_there = λ none. refl; unfolded = refl })) as_made;
    keys = omega arith;
    as_local = λ n r m ahead is. cc;
    to_reg = λ r m ahead final. ap (λ n. free_from m.free (moved 1 m.free r n)) (table_same m ahead (inner r m final));
    taken = λ r m ahead final. ap (λ ks. length ks) (moved_constants (not (m.free == r)) r m.free (table_at 1 (entries (one_line_fields fields)) m)) ∙ table_taken m ahead (inner r m final);
    multi = λ several. cc;
    multi_taken = λ several. cc;
  }
    where
      moved_constants : (b : Bool) (r base : ℕ) (m : Maker) → (when b (put 1 (Piece.Abc Op.Move r base 0)) m).constants ≡ m.constants
      moved_constants true r base m = refl
      moved_constants false r base m = refl

  -- ---- as the only argument

  pub table_rewritten_given : (depth : ℕ) → depth_of_fields fields ≡ deep → RewrittenGiven f g active listed z lefts before behind (table_argument fields) deep (and_value (table_value items all depth) no_values) false
  table_rewritten_given depth is_deep = record {
    can = both_hold _ true same.can refl;
    leaves = same.leaves;
    makes = same.makes;
    few = λ n. omega (arith, same.few n);
    low = λ short formed shallow m ahead final.
        let n = length m.constants in
        let list = word_values (place f.of listed f.short) n (lefts before) (and_value (table_value items all depth) no_values) false in
        let form = ap (λ (short : Bool). (as_arguments (short && true) (Some (as_table_argument (items_wording f listed z lefts before n items all))) list).levels) short in
        let low = same.low short formed m.free 0 0 (begun (entries (one_line_fields fields)) m) (begun_ahead m ahead) (items_final m final) in
        omega (arith, form, low);
    counts = λ n. refl;
    part = λ m ahead final. next_table (written (length m.constants)) (grow_entries calm (items_wording f listed z lefts before (length m.constants) items all).words) (items_wording f listed z lefts before (length m.constants) items all).words m ∙ table_same m ahead final;
    taken = λ m ahead final. table_taken m ahead final;
  }
