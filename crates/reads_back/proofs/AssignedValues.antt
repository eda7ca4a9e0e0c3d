-- What is written of the values that go to targets, by what stands in the registers of the step and what goes straight to the last target.
use Rattle.std.proofs.Common.{◌≡◌, ℕ, suc, ◌+◌, ◌<◌, nat_lt, Bool, true, false, ◌&&◌, List, ◌++◌, length, Option, Some, None, refl, sym, ap, ap₂, ◌∙◌, arith, lt-ltb, eq-eqb}
use Rattle.std.proofs.lemmas.Bool.{ltb-true, ne_eqb}
use Rattle.std.specs.Prelude.{option_and_then, option_map, if◌then◌else◌}
use Rattle.std.proofs.Math.Bool.{and-true}
use Rattle.lua_tree.specs.Joins.{join_expressions}
use Rattle.lua_tree.specs.Syntax as syntax
use Rattle.lua_tree.specs.Syntax.{no_expressions}
use Rattle.core_expr.specs.Counting.{taken_behind, taken_behind_operand, taken_behind_values, left_by, left_by_operand, left_by_values}
use Rattle.core_expr.specs.Held.{wordings_with}
use Rattle.core_expr.specs.Places.{Place}
use Rattle.core_expr.specs.Values.{Value, Values, no_values, and_value, Inner, nil_value, OperandValue, value_operand, local_value}
use Rattle.core_expr.specs.Writing.{Wording, Wordings, and_wording, as_value, can_write, can_write_operand, can_write_values, ends_values, word, word_operand, word_values}
use Rattle.recover_expr.specs.Entries.{Entries, Listed, and_last_value, missing_entry, more, more_entry, singles_of}
use Rattle.recover_expr.specs.Lists.{Straight, adjusted, adjusted_list, all_of, and_straight, before_last, ends_multiple, ends_with_nil, first_place, is_last, is_nil, leading, list_and_straight, operand_last, split_last, stored_singles, stored_to, stored_values, straight_operand, straight_value, straight_written as straight_word, value_count}
use Rattle.recover_expr.specs.Situation.{Function, Situation, place_in_step, with_left}
use Rattle.recover_expr.specs.Writing.{WroteList, list_written}
use Rattle.recover_expr.specs.declared.stores.Place as stores
use Rattle.recover_expr.specs.declared.stores.Store.{Store}
use Rattle.reads_back.specs.Acted.{Assigned, is_part}
use Rattle.reads_back.proofs.AdjustedEntries.{all_lead, count_last, further_adjusted, last_split, length_more, missing_adjusted, others_follow, taken_end}
use Rattle.reads_back.proofs.Comes.{AreEntries}
use Rattle.reads_back.proofs.ListsSame.{can_end, left_end}
use Rattle.reads_back.proofs.StoredTargets.{Destination, WritesValues, assigned_written, place_to, target_to, to_local, to_part}
use Rattle.reads_back.proofs.TakenEntries.{count_of_entries}
use Rattle.reads_back.proofs.Tests.{not_more, not_so}

-- ---- values, and one more behind them

-- where all its values are wanted it has no parentheses
as_it_is : (is_last : Bool) (v : Value) (w : Wording) → as_value (is_last && false) v w ≡ w
as_it_is true v w = refl
as_it_is false v w = refl

begins_with : (w : Wording) (ws : Wordings) (last : Wording) → and_wording w (wordings_with ws last) ≡ wordings_with (and_wording w ws) last
begins_with w ws last =
    let words = syntax.expression w.words (join_expressions ws.words (syntax.expression last.words no_expressions)) in
    ap (λ (levels : ℕ). record { words = words; levels = levels }) (omega arith)

words_end : (at : Place) (n : ℕ) (fs : List (Option Inner)) (front : Values) (v : Value) →
    word_values at n fs (and_last_value front v) true ≡ wordings_with (word_values at n fs front true) (word at (taken_behind_values front n) (left_by_values front fs) v)
words_end at n fs no_values v =
    let w = word at n fs v in
    ap (λ (levels : ℕ). record { words = syntax.expression w.words no_expressions; levels = levels }) (omega arith)
words_end at n fs (and_value u rest) v =
    let w = word at n fs u in
    let front = word_values at (taken_behind u n) (left_by u fs) rest true in
    let last = word at (taken_behind_values rest (taken_behind u n)) (left_by_values rest (left_by u fs)) v in
    ap₂ and_wording (as_it_is (ends_values (and_last_value rest v)) u w) (words_end at (taken_behind u n) (left_by u fs) rest v)
    ∙ begins_with w front last
    ∙ ap (λ w. wordings_with (and_wording w front) last) (sym (as_it_is (ends_values rest) u w))

-- ---- values alone, or the last one goes straight to its target

abbrev values_alone : Listed → Assigned
values_alone list = record { values = list.values; all = list.all; last = None }

abbrev pub with_operand : Values → OperandValue → Assigned
with_operand front o = record { values = front; all = true; last = Some o }

module _ (f : Function) (n : ℕ) (s : Situation) where
  abbrev at : Place
  at = place_in_step f s

  abbrev wrote : (can : Bool) → Wordings → (taken : ℕ) → (left : List (Option Inner)) → WroteList
  wrote can words taken left = if can then Some (words, taken, with_left left s) else None

  alone_is : (list : Listed) → list_written f n list s ≡ assigned_written f n (values_alone list) s
  alone_is list =
      ap (λ can. wrote can (word_values at n s.left list.values list.all) (taken_behind_values list.values n) (left_by_values list.values s.left)) (sym (and-true (can_write_values at s.left list.values)))

  module _ (front : Values) where
    abbrev words : Wordings
    words = word_values at n s.left front true

    abbrev taken : ℕ
    taken = taken_behind_values front n

    abbrev left : List (Option Inner)
    left = left_by_values front s.left

    -- what goes straight can be written so behind the others
    module _ (straight : Straight) (can : Bool) (w : Wording) (k : ℕ) (fs : List (Option Inner)) (is : straight_word f taken straight (with_left left s) ≡ (if can then Some (w, k, with_left fs s) else None)) where
      then_last : (can : Bool) → option_map (λ (last : Wording × ℕ × Situation). (wordings_with words last.0, last.1, last.2)) (if can then Some (w, k, with_left fs s) else None) ≡ wrote can (wordings_with words w) k fs
      then_last true = refl
      then_last false = refl

      front_first : (front_can : Bool) → option_and_then (and_straight f straight) (wrote front_can words taken left) ≡ wrote (front_can && can) (wordings_with words w) k fs
      front_first true = ap (option_map (λ (last : Wording × ℕ × Situation). (wordings_with words last.0, last.1, last.2))) is ∙ then_last can
      front_first false = refl

    operand_is : (o : OperandValue) → list_and_straight f n front (straight_operand o) s ≡ assigned_written f n (with_operand front o) s
    operand_is o = front_first (straight_operand o) (can_write_operand at left o) (word_operand at taken left o) (taken_behind_operand o taken) (left_by_operand o left) refl (can_write_values at s.left front)

    value_is : (v : Value) → list_and_straight f n front (straight_value v) s ≡ list_written f n (all_of (and_last_value front v)) s
    value_is v =
        let all = and_last_value front v in
        let w = word at taken left v in
        front_first (straight_value v) (can_write at left v) w (taken_behind v taken) (left_by v left) refl (can_write_values at s.left front)
        ∙ sym (ap₂ (λ (can : Bool) (words : Wordings). wrote can words (taken_behind_values all n) (left_by_values all s.left)) (can_end at s.left front v) (words_end at n s.left front v)
        ∙ ap₂ (wrote (can_write_values at s.left front && can_write at left v) (wordings_with words w)) (taken_end front v n) (left_end front v s.left))

-- ---- values that come from registers

module _ (f : Function) (written : List Store) (n : ℕ) (s : Situation) where
  abbrev stored_by : Entries → (others_follow : Bool) → WroteList
  stored_by entries others_follow = if others_follow then adjusted f (length written) false n entries s else option_and_then (stored_singles f written n s) (singles_of entries)

  abbrev singles_by : Values → (as_many : Bool) → WroteList
  singles_by vs as_many = if as_many then stored_to f (first_place written) (length written) n vs s else list_written f n (all_of vs) s

  singles_stored : (entries : Entries) (vs : Values) → AreEntries entries vs → stored_values f written n entries s ≡ stored_singles f written n s vs
  singles_stored entries vs are = ap (stored_by entries) (ap (λ k. nat_lt k (length entries)) (all_lead entries vs are) ∙ not_more (length entries)) ∙ ap (option_and_then (stored_singles f written n s)) are

  -- single ones, and others behind them
  others_stored : (before behind : Entries) (list : Listed) → AreEntries before list.values → leading behind ≡ 0 → 0 < length behind → adjusted_list (length written) false (before ++ behind) ≡ Some list →
      stored_values f written n (before ++ behind) s ≡ assigned_written f n (values_alone list) s
  others_stored before behind list are none some listed =
      ap (stored_by (before ++ behind)) (others_follow before behind list.values are none some) ∙ ap (option_and_then (λ list. list_written f n list s)) listed ∙ alone_is f n s list

  -- as many as there are targets
  as_many_stored : (vs : Values) (place : stores.Place) (count : ℕ) → first_place written ≡ Some place → length written ≡ count → value_count vs ≡ count → stored_singles f written n s vs ≡ stored_to f (Some place) count n vs s
  as_many_stored vs place count first counts exact =
      ap (singles_by vs) (eq-eqb (value_count vs) (length written) (exact ∙ sym counts)) ∙ ap₂ (λ (place : Option stores.Place) (count : ℕ). stored_to f place count n vs s) first counts

  more_stored : (vs : Values) → length written < value_count vs → stored_singles f written n s vs ≡ list_written f n (all_of vs) s
  more_stored vs more = ap (singles_by vs) (ne_eqb (value_count vs) (length written) (λ same. omega (arith, more, same)))

-- no nil is left out where the last target is a name
no_nil_stored : (f : Function) (last : Destination) (count n : ℕ) (vs : Values) (s : Situation) → is_part (Some (target_to last)) ≡ false → ((r : ℕ) → last ≡ to_local r → 1 < count → ends_with_nil vs ≡ false) →
    stored_to f (Some (place_to last)) count n vs s ≡ list_written f n (all_of vs) s
no_nil_stored f (to_local r) count n vs s named no_nil =
    let front = list_written f n (record { values = before_last (split_last vs); all = false }) s in
    ap (λ left_out. if left_out then front else list_written f n (all_of vs) s) (by (nat_lt 1 count) refl)
  where
    by : (several : Bool) → nat_lt 1 count ≡ several → (several && ends_with_nil vs) ≡ false
    by true is = no_nil r refl (ltb-true 1 count is)
    by false is = refl
no_nil_stored f (to_part on key x y) count n vs s named no_nil = not_so (sym named)
no_nil_stored f last count n vs s named no_nil = refl

-- the value of a part of a table is an operand
part_stored : (f : Function) (last : Destination) (count n : ℕ) (front : Values) (v : Value) (s : Situation) → is_part (Some (target_to last)) ≡ true →
    stored_to f (Some (place_to last)) count n (and_last_value front v) s ≡ assigned_written f n (with_operand front (value_operand v)) s
part_stored f (to_part on key x y) count n front v s part = ap (option_and_then (operand_last f n s)) (last_split front v) ∙ operand_is f n s front (value_operand v)
part_stored f last count n front v s part = not_so part

-- ---- what is written

module _ (f : Function) (entries : Entries) (last : Destination) (count : ℕ) where
  -- the last value goes straight to its name
  pub straight_written : (front : Values) (v : Value) → AreEntries entries front → WritesValues f entries (Some (straight_value v)) last count (record { values = and_last_value front v; all = true; last = None })
  straight_written front v are written n s place counts = ap (option_and_then (λ values. list_and_straight f n values (straight_value v) s)) are ∙ value_is f n s front v ∙ alone_is f n s (all_of (and_last_value front v))

  -- a local is written alike as an operand
  pub local_written : (front : Values) (r : ℕ) → AreEntries entries front → WritesValues f entries (Some (straight_operand (value_operand (local_value r)))) last count (record { values = and_last_value front (local_value r); all = true; last = None })
  local_written front r are = straight_written front (local_value r) are

  -- an operand goes to a part of a table
  pub operand_written : (front : Values) (o : OperandValue) → AreEntries entries front → WritesValues f entries (Some (straight_operand o)) last count (record { values = front; all = true; last = Some o })
  operand_written front o are written n s place counts = ap (option_and_then (λ values. list_and_straight f n values (straight_operand o) s)) are ∙ operand_is f n s front o

  -- as many values as targets, the last one for a name, where it is no nil for a local among several
  pub singles_written : (from : Values) → AreEntries entries from → value_count from ≡ count → is_part (Some (target_to last)) ≡ false → ((r : ℕ) → last ≡ to_local r → 1 < count → ends_with_nil from ≡ false) →
      WritesValues f entries None last count (record { values = from; all = true; last = None })
  singles_written from are exact named no_nil written n s place counts =
      singles_stored f written n s entries from are
      ∙ as_many_stored f written n s from (place_to last) count place counts exact
      ∙ no_nil_stored f last count n from s named no_nil
      ∙ alone_is f n s (all_of from)

  -- as many, the last one for a part of a table
  pub last_written : (front : Values) (v : Value) → AreEntries entries (and_last_value front v) → suc (value_count front) ≡ count → is_part (Some (target_to last)) ≡ true →
      WritesValues f entries None last count (record { values = front; all = true; last = Some (value_operand v) })
  last_written front v are exact part written n s place counts =
      let all = and_last_value front v in
      singles_stored f written n s entries all are ∙ as_many_stored f written n s all (place_to last) count place counts (count_last front v ∙ exact) ∙ part_stored f last count n front v s part

  -- more values than targets
  pub more_written : (from : Values) → AreEntries entries from → count < value_count from → WritesValues f entries None last count (record { values = from; all = true; last = None })
  more_written from are more written n s place counts = singles_stored f written n s entries from are ∙ more_stored f written n s from (omega (arith, more, counts)) ∙ alone_is f n s (all_of from)

-- a nil that goes from a register to a local is one that is missing
pub nil_written : (f : Function) (entries : Entries) (r : ℕ) (from : Values) → AreEntries entries (and_last_value from nil_value) → 0 < value_count from → WritesValues f entries None (to_local r) (suc (value_count from)) (record { values = from; all = false; last = None })
nil_written f entries r from are some written n s place counts =
    let all = and_last_value from nil_value in
    let written_by = λ (several : Bool) (last : Option (Values × Value)). if several && is_last is_nil last then list_written f n (record { values = before_last last; all = false }) s else list_written f n (all_of all) s in
    singles_stored f written n s entries all are
    ∙ as_many_stored f written n s all (stores.Place.Local r) (suc (value_count from)) place counts (count_last from nil_value)
    ∙ ap₂ written_by (lt-ltb 1 (suc (value_count from)) (omega (arith, some))) (last_split from nil_value)
    ∙ alone_is f n s (record { values = from; all = false })

-- others are missing
pub missing_written : (f : Function) (entries : Entries) (last : Destination) (n : ℕ) (from : Values) → AreEntries entries from → 0 < value_count from →
    WritesValues f (entries ++ more (suc n) missing_entry) None last (value_count from + suc n) (record { values = from; all = false; last = None })
missing_written f entries last n from are some written k s place counts =
    let size = count_of_entries entries from are in
    others_stored f written k s entries (more (suc n) missing_entry) (record { values = from; all = false }) are refl (omega (arith, length_more (suc n) missing_entry))
    (missing_adjusted (length written) false n entries from are (lt-ltb 0 (length entries) (omega (arith, some, size))) (omega (arith, counts, size)))

-- the last value gives others
pub further_written : (f : Function) (entries : Entries) (last : Destination) (n : ℕ) (from : Values) → AreEntries entries from → ends_multiple from ≡ true →
    WritesValues f (entries ++ more (suc n) more_entry) None last (value_count from + suc n) (record { values = from; all = true; last = None })
further_written f entries last n from are several written k s place counts =
    let size = count_of_entries entries from are in
    others_stored f written k s entries (more (suc n) more_entry) (all_of from) are refl (omega (arith, length_more (suc n) more_entry))
    (further_adjusted (length written) false n entries from are (omega (arith, counts, size)) several)
