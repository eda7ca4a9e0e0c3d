-- What is taken of an assignment whose stores are all read: its targets, from the first one on, with what stands of their parts in registers of the step, and what is written of it.
use Rattle.std.proofs.Common.{◌≡◌, ℕ, ◌+◌, ◌-◌, ◌<◌, max, true, List, [], ◌∷◌, ◌++◌, append-nil, append_assoc, length, length-append, reverse, Option, Some, None, refl, sym, ap, ap₂, ◌∙◌, arith, le-leb, lt-ltb}
use Rattle.std.proofs.lemmas.List.{reverse-append}
use Rattle.std.proofs.lemmas.Option.{same_Some, slice_get_within}
use Rattle.std.specs.Prelude.{option_map, option_and_then, slice_get, slice_set, if◌then◌else◌}
use Rattle.lua_num.specs.Bytes.{Text}
use Rattle.lua_tree.specs.Joins.{join_expressions}
use Rattle.lua_tree.specs.Syntax.{Expressions, no_expressions, expression, Expression}
use Rattle.core_expr.specs.Counting.{left_by_values, taken_behind_values}
use Rattle.core_expr.specs.Held.{wordings_with}
use Rattle.core_expr.specs.Targets.{TargetValue, can_write_target, index_target, left_by_target, taken_behind_target, word_target}
use Rattle.core_expr.specs.Values.{Value, constant_operand, local_value, value_operand}
use Rattle.core_expr.specs.Writing.{Wording, Wordings, and_wording, no_wordings}
use Rattle.recover_expr.specs.Assigning.{as_statement, assignment_ended, assignment_step, held, held_at, held_operand, index_to, named_as, no_targets, target_of, targets, targets_of, targets_written}
use Rattle.recover_expr.specs.Drafts.{Drafted}
use Rattle.recover_expr.specs.Entries.{Entries, EntryValue, value_entry, held_entry, part, part_at, single_of}
use Rattle.recover_expr.specs.Lists.{Straight, assigned_values}
use Rattle.recover_expr.specs.Situation.{Function, Situation, constant_in, place_in_step, with_entries, with_left}
use Rattle.recover_expr.specs.Writing.{WroteList}
use Rattle.recover_expr.specs.declared.stores.Store.{Store}
use Rattle.reads_back.specs.Acted.{Assigned, assigned, can_act, can_write_targets, left_by_last, left_by_targets, taken_behind_last, taken_behind_targets, words_assigned, words_targets, function_in, named_by}
use Rattle.reads_back.proofs.ActsRead.{act_draft, after_act}
use Rattle.reads_back.proofs.BothOperands.{as_operand, with_constant}
use Rattle.reads_back.proofs.FunctionSteps.{assignment_step_is, function_ends, one_named, several_named}
use Rattle.reads_back.proofs.HeldOperands.{Kept, in_next, in_word, in_local, operand_of}
use Rattle.reads_back.proofs.PartsRead.{left_of, value_of}
use Rattle.reads_back.proofs.PartsUsed.{all_there_length, get_front, held_length, set_again, set_front, there_length}
use Rattle.reads_back.proofs.StoredTargets.{AreThere, Destination, HeldAt, IsThere, assigned_written, place_to, store_to, target_to, targets_to, to_global, to_local, to_part, to_upvalue}
use Rattle.reads_back.proofs.StoresRead.{IsInStep, IsValueKept, local_there, no_place}
use Rattle.reads_back.proofs.Tests.{first_of_both, not_below, second_of_both}
use Rattle.reads_back.proofs.Said.{can_say, said_path, said_written}
use Rattle.reads_back.proofs.ValueWords.{place_of_next}

-- ---- the targets

-- the stores to these targets, from the last one back, whose words stand from a pc on
abbrev pub stores_back : (pc : ℕ) → List Destination → List Store
stores_back pc [] = []
stores_back pc (d ∷ ds) = stores_back pc ds ++ store_to (pc + length ds) d ∷ []

pub count_stores : (pc : ℕ) (ds : List Destination) → length (stores_back pc ds) ≡ length ds
count_stores pc [] = refl
count_stores pc (d ∷ ds) = omega (arith, length-append (stores_back pc ds) (store_to (pc + length ds) d ∷ []), count_stores pc ds)

abbrev with_parts : (parts values : Entries) → Situation → Situation
with_parts parts values s = record s { entries = parts ++ values }

abbrev with_rest : Entries → Value → Value × Entries
with_rest rest v = (v, rest)

-- what is left of the entry stays in its place
part_at_place : (n : ℕ) (entry : EntryValue) (v : Value) (entries : Entries) → slice_get entries n ≡ Some entry → single_of entry ≡ Some v → part_at n entries (Some entry) ≡ Some (v, slice_set entries n (left_of entry))
part_at_place n (value_entry (local_value r)) v entries there single =
    ap₂ (λ (v : Value) (rest : Entries). Some (v, rest)) (same_Some (local_value r) v single) (sym (set_again entries n (value_entry (local_value r)) there))
part_at_place n entry v entries there single = ap (option_map (with_rest (slice_set entries n held_entry))) single

part_there : (n : ℕ) (entry : EntryValue) (v : Value) (parts values : Entries) → slice_get parts n ≡ Some entry → single_of entry ≡ Some v → part n (parts ++ values) ≡ Some (v, slice_set parts n (left_of entry) ++ values)
part_there n entry v parts values there single =
    let within : n < length parts = slice_get_within parts n entry there in
    let at : slice_get (parts ++ values) n ≡ Some entry = get_front parts values n within ∙ there in
    ap (part_at n (parts ++ values)) at ∙ part_at_place n entry v (parts ++ values) at single ∙ ap (λ rest. Some (v, rest)) (set_front parts values n (left_of entry) within)

targets_with : (ds : List Destination) (d : Destination) → targets_to (ds ++ d ∷ []) ≡ targets_to ds ++ target_to d ∷ []
targets_with [] d = refl
targets_with (e ∷ ds) d = ap (λ ts. target_to e ∷ ts) (targets_with ds d)

module _ {f : Function} {count : ℕ} {listed : List ℕ} {s : Situation} (step : IsInStep f count listed s) (low : ℕ) (values : Entries) where
  value_held : (kept : Kept) (x : ℕ) (parts behind : Entries) → IsValueKept kept → HeldAt f count listed parts kept x behind → low ≡ length parts → held f x low (with_parts parts values s) ≡ Some (value_of kept, with_parts behind values s)
  value_held (in_word number) x parts behind value held_at_x is = absurd value
  value_held (in_local r) x parts behind value held_at_x is =
      let t = with_parts parts values s in
      ap (λ x. held f x low t) held_at_x.0
      ∙ ap (held_at f t r low) (no_place step r held_at_x.1)
      ∙ ap (option_map (λ v. (v, t))) (local_there step r held_at_x.3 held_at_x.4)
      ∙ ap (λ parts. Some (local_value r, with_parts parts values s)) (sym held_at_x.5)
  value_held (in_next entry v) x parts behind value held_at_x is =
      let t = with_parts parts values s in
      let n = held_at_x.0 in
      ap (held_at f t x low) (place_of_next s.base n x (omega (arith, held_at_x.1, step.base)))
      ∙ ap (λ below. if below then option_map (with_entries t) (part n t.entries) else None) (lt-ltb n low (omega (arith, is, slice_get_within parts n entry held_at_x.3)))
      ∙ ap (option_map (with_entries t)) (part_there n entry v parts values held_at_x.3 held_at_x.4)
      ∙ ap (λ parts. Some (v, with_parts parts values s)) (sym held_at_x.5)

  -- a value as a key
  value_key : (kept : Kept) (x : ℕ) (parts behind : Entries) → IsValueKept kept → x < 256 → HeldAt f count listed parts kept x behind → low ≡ length parts →
      held_operand f x low (with_parts parts values s) ≡ Some (value_operand (value_of kept), with_parts behind values s)
  value_key kept x parts behind value small held_at_x is =
      let t = with_parts parts values s in
      ap (λ far. if far then option_map (with_constant t) (constant_in f (x - 256)) else option_map as_operand (held f x low t)) (not_below x 256 small)
      ∙ ap (option_map as_operand) (value_held kept x parts behind value held_at_x is)

  key_held : (kept : Kept) (x : ℕ) (parts behind : Entries) → HeldAt f count listed parts kept x behind → low ≡ length parts → held_operand f x low (with_parts parts values s) ≡ Some (operand_of kept, with_parts behind values s)
  key_held (in_word number) x parts behind held_at_x is =
      let t = with_parts parts values s in
      let minus : number + 256 - 256 ≡ number = omega arith in
      ap (λ x. held_operand f x low t) held_at_x.0
      ∙ ap (λ far. if far then option_map (with_constant t) (constant_in f (number + 256 - 256)) else option_map as_operand (held f (number + 256) low t)) (le-leb 256 (number + 256) (omega arith))
      ∙ ap (λ n. option_map (with_constant t) (constant_in f n)) minus
      ∙ ap (λ within. option_map (with_constant t) (if within then Some number else None)) (lt-ltb number (length f.of.constants) held_at_x.1)
      ∙ ap (λ parts. Some (constant_operand number, with_parts parts values s)) (sym held_at_x.2)
  key_held (in_local r) x parts behind held_at_x is = value_key (in_local r) x parts behind tt (omega (arith, held_at_x.0, held_at_x.1, held_at_x.2)) held_at_x is
  key_held (in_next entry v) x parts behind held_at_x is = value_key (in_next entry v) x parts behind tt (omega (arith, held_at_x.2)) held_at_x is

  target_there : (d : Destination) (parts behind : Entries) → IsThere f count listed parts d behind → low ≡ length parts → target_of f low (place_to d) (with_parts parts values s) ≡ Some (target_to d, with_parts behind values s)
  target_there (to_local r) parts behind there is = ap (λ parts. Some (target_to (to_local r), with_parts parts values s)) (sym there.3)
  target_there (to_upvalue slot) parts behind there is = ap (λ parts. Some (target_to (to_upvalue slot), with_parts parts values s)) (sym there.2)
  target_there (to_global number) parts behind there is = ap (λ parts. Some (target_to (to_global number), with_parts parts values s)) (sym there.2)
  target_there (to_part on key x y) parts behind there is =
      ap (option_and_then (index_to f y low)) (value_held on x parts there.0 there.1 there.2 is)
      ∙ ap (option_map (λ p. (index_target (value_of on) p.0, p.1))) (key_held key y there.0 behind there.3 (is ∙ sym (held_length f count listed parts there.0 on x there.2)))

  -- the stores are turned round
  targets_then : (pc : ℕ) (ds : List Destination) (rest : List Store) (before : List TargetValue) (parts behind : Entries) → AreThere f count listed parts ds behind → low ≡ length parts →
      targets_of f low (reverse (stores_back pc ds) ++ rest) before (with_parts parts values s) ≡ targets_of f low rest (before ++ targets_to ds) (with_parts behind values s)
  targets_then pc [] rest before parts behind there is = ap₂ (λ (before : List TargetValue) (parts : Entries). targets_of f low rest before (with_parts parts values s)) (sym (append-nil before)) (sym there)
  targets_then pc (d ∷ ds) rest before parts behind there is =
      let store = store_to (pc + length ds) d in
      ap (λ (back : List Store). targets_of f low (back ++ rest) before (with_parts parts values s)) (reverse-append (stores_back pc ds) (store ∷ []))
      ∙ ap (option_and_then (λ p. targets_of f low (reverse (stores_back pc ds) ++ rest) (before ++ p.0 ∷ []) p.1)) (target_there d parts there.0 there.1 is)
      ∙ targets_then pc ds rest (before ++ target_to d ∷ []) there.0 behind there.2 (is ∙ sym (there_length f count listed parts there.0 d there.1))
      ∙ ap (λ (before : List TargetValue). targets_of f low rest before (with_parts behind values s)) (append_assoc before (target_to d ∷ []) (targets_to ds))

  pub targets_are : (pc first : ℕ) (ds : List Destination) (d : Destination) (parts mid behind : Entries) → AreThere f count listed parts ds mid → IsThere f count listed mid d behind → low ≡ length parts →
      targets f low (store_to pc d ∷ stores_back first ds) (with_parts parts values s) ≡ Some (targets_to (ds ++ d ∷ []), with_parts behind values s)
  targets_are pc first ds d parts mid behind there last is =
      ap (λ (stores : List Store). targets_of f low stores [] (with_parts parts values s)) (reverse-append (store_to pc d ∷ []) (stores_back first ds))
      ∙ targets_then first ds (store_to pc d ∷ []) [] parts mid there is
      ∙ ap (option_and_then (λ p. Some (targets_to ds ++ p.0 ∷ [], p.1))) (target_there d mid behind last (is ∙ sym (all_there_length f count listed parts mid ds there)))
      ∙ ap (λ ts. Some (ts, with_parts behind values s)) (sym (targets_with ds d))

-- ---- what is written

-- a function that goes alone to one target is named by it, and several targets are no statement of a function
pub function_named : (f : Function) (ds : List Destination) (d : Destination) (s : Situation) (read : Option ℕ) (to : Assigned) → (ds ≡ [] → read ≡ function_in to.values to.last) → can_say (place_in_step f s) s.left (assigned (targets_to (ds ++ d ∷ [])) to.values to.all to.last) ≡ true →
    named_as f s (targets_to (ds ++ d ∷ [])) read ≡ Some (named_by (place_in_step f s) (targets_to (ds ++ d ∷ [])) to.values to.last)
function_named f [] d s read to function can =
    ap (named_as f s (target_to d ∷ [])) (function refl) ∙ one_named f s (target_to d) (function_in to.values to.last) (λ number is. said_path (place_in_step f s) s.left (target_to d) to.values to.all to.last number is can)
function_named f (e ∷ []) d s read to function can = several_named f s (target_to e) (target_to d) [] read (function_in to.values to.last)
function_named f (e ∷ e1 ∷ ds) d s read to function can = several_named f s (target_to e) (target_to e1) (targets_to (ds ++ d ∷ [])) read (function_in to.values to.last)

-- what is written so far, and more behind it
abbrev joined : Wordings → Wordings → Wordings
joined sofar more = record { words = join_expressions sofar.words more.words; levels = max sofar.levels more.levels }

expressions_end : (es : Expressions) → join_expressions es no_expressions ≡ es
expressions_end no_expressions = refl
expressions_end (expression e es) = ap (expression e) (expressions_end es)

expressions_grow : (es more : Expressions) (e : Expression) → join_expressions (join_expressions es (expression e no_expressions)) more ≡ join_expressions es (expression e more)
expressions_grow no_expressions more e = refl
expressions_grow (expression x es) more e = ap (expression x) (expressions_grow es more e)

joined_end : (sofar : Wordings) → sofar ≡ joined sofar no_wordings
joined_end sofar =
    let none : sofar.levels ≡ max sofar.levels 0 = omega arith in
    ap₂ (λ (es : Expressions) (n : ℕ). record { words = es; levels = n }) (sym (expressions_end sofar.words)) none

joined_with : (sofar more : Wordings) (w : Wording) → joined (wordings_with sofar w) more ≡ joined sofar (and_wording w more)
joined_with sofar more w =
    let levels : max (max sofar.levels w.levels) more.levels ≡ max sofar.levels (max w.levels more.levels) = omega arith in
    ap₂ (λ (es : Expressions) (n : ℕ). record { words = es; levels = n }) (expressions_grow sofar.words more.words w.words) levels

module _ (f : Function) where
  targets_are_written : (ts : List TargetValue) (sofar : Wordings) (n : ℕ) (s : Situation) → can_write_targets (place_in_step f s) s.left ts ≡ true →
      targets_written f ts (sofar, n, s) ≡ Some (joined sofar (words_targets (place_in_step f s) n s.left ts), taken_behind_targets ts n, with_left (left_by_targets ts s.left) s)
  targets_are_written [] sofar n s can = ap (λ (sofar : Wordings). Some (sofar, n, s)) (joined_end sofar)
  targets_are_written (t ∷ ts) sofar n s can =
      let at = place_in_step f s in
      let w = word_target at n s.left t in
      let m = taken_behind_target t n in
      let fs = left_by_target t s.left in
      let wrote : Wording × ℕ × Situation = (w, m, with_left fs s) in
      let others : (Wording × ℕ × Situation) → WroteList = λ w. targets_written f ts (wordings_with sofar w.0, w.1, w.2) in
      ap (λ can. option_and_then others (if can then Some wrote else None)) (first_of_both _ _ can)
      ∙ targets_are_written ts (wordings_with sofar w) m (with_left fs s) (second_of_both (can_write_target at s.left t) _ can)
      ∙ ap (λ (all : Wordings). Some (all, taken_behind_targets ts m, with_left (left_by_targets ts fs) s)) (joined_with sofar (words_targets at m fs ts) w)

  -- an assignment, where no names say it
  assignment_ends : (stores : List Store) (straight : Option Straight) (next : ℕ) (ts : List TargetValue) (entries : Entries) (to : Assigned) (s : Situation) → named_by (place_in_step f s) ts to.values to.last ≡ None → can_act (place_in_step f s) s.left (assigned ts to.values to.all to.last) ≡ true →
      assigned_values f stores (taken_behind_targets ts s.taken) entries straight (with_left (left_by_targets ts s.left) s)
      ≡ assigned_written f (taken_behind_targets ts s.taken) to (with_left (left_by_targets ts s.left) s) →
      as_statement f stores straight next ts entries s None ≡ Some (act_draft f next (assigned ts to.values to.all to.last) s, after_act (assigned ts to.values to.all to.last) s)
  assignment_ends stores straight next ts entries to s none can writes =
      let at = place_in_step f s in
      let n = taken_behind_targets ts s.taken in
      let fs = left_by_targets ts s.left in
      let begun = joined no_targets (words_targets at s.taken s.left ts) in
      let wrote : Wordings × ℕ × Situation = (words_assigned at n fs to.values to.all to.last, taken_behind_last to.last (taken_behind_values to.values n), with_left (left_by_last to.last (left_by_values to.values fs)) s) in
      let ending : (Wordings × ℕ × Situation) → Drafted × Situation = λ values. assignment_ended next begun values.0 values.2 in
      ap (option_and_then (assignment_step f stores straight next entries)) (targets_are_written ts no_targets s.taken s (first_of_both _ _ can))
      ∙ ap (option_map ending) writes
      ∙ ap (λ can. option_map ending (if can then Some wrote else None)) (second_of_both _ _ can)
      ∙ assignment_step_is f next ts to s none

  -- the statement, where of what stands in the registers these values are written: an assignment, or what the names of a function say
  pub statement_ends : (stores : List Store) (straight : Option Straight) (next : ℕ) (ts : List TargetValue) (entries : Entries) (to : Assigned) (s : Situation) → can_say (place_in_step f s) s.left (assigned ts to.values to.all to.last) ≡ true →
      assigned_values f stores (taken_behind_targets ts s.taken) entries straight (with_left (left_by_targets ts s.left) s)
      ≡ assigned_written f (taken_behind_targets ts s.taken) to (with_left (left_by_targets ts s.left) s) →
      as_statement f stores straight next ts entries s (named_by (place_in_step f s) ts to.values to.last) ≡ Some (act_draft f next (assigned ts to.values to.all to.last) s, after_act (assigned ts to.values to.all to.last) s)
  statement_ends stores straight next ts entries to s can writes = by (named_by (place_in_step f s) ts to.values to.last) refl
    where
      by : (named : Option (List Text × ℕ)) → named_by (place_in_step f s) ts to.values to.last ≡ named → as_statement f stores straight next ts entries s named ≡ Some (act_draft f next (assigned ts to.values to.all to.last) s, after_act (assigned ts to.values to.all to.last) s)
      by None is = assignment_ends stores straight next ts entries to s is (said_written (place_in_step f s) s.left ts to.values to.all to.last is can) writes
      by (Some named) is = function_ends f next ts to s named.0 named.1 is can
