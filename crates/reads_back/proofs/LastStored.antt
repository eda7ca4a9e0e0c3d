-- The last of as many values as targets goes to its target by its own words: straight, by a MOVE, or as an operand of the store.
use Rattle.std.proofs.Common.{◌≡◌, ◌⊎◌, ℕ, suc, ◌+◌, ◌<◌, ◌≤◌, nat_le, max, Bool, true, false, List, [], ◌∷◌, ◌++◌, append-nil, append_assoc, length, length-append, Option, Some, None, refl, sym, ap, ap₂, ◌∙◌, subst, arith, inl, inr, le-leb, lt-ltb}
use Rattle.std.proofs.Math.Nat.{max-zero}
use Rattle.std.specs.Prelude.{option_map}
use Rattle.lua_tree.specs.Syntax.{Expression}
use Rattle.core_expr.specs.Counting.{one_more, taken_behind, taken_behind_operand, taken_behind_values}
use Rattle.core_expr.specs.Values.{Value, Values, OperandValue, constant_operand, local_value, value_operand, and_value, no_values}
use Rattle.recover_expr.specs.Assigning.{assigned_from, function_number, stored_function}
use Rattle.recover_expr.specs.Effects.{is_from, reads_from}
use Rattle.recover_expr.specs.Entries.{Entries, EntryValue, and_last_value, single_of}
use Rattle.recover_expr.specs.Items.{is_so}
use Rattle.recover_expr.specs.Lists.{Straight, is_last, is_nil, straight_value, value_count}
use Rattle.recover_expr.specs.Locals.{Scope}
use Rattle.recover_expr.specs.Reading.{Turn, as_over, turn_at}
use Rattle.recover_expr.specs.Situation.{Function, Situation, instr_at}
use Rattle.scheme.specs.Expressions.{Target, name_target, part_target}
use Rattle.scheme.specs.Making.{in_globals, in_register, in_upvalue}
use Rattle.scheme.specs.declared.making.Active.{Active}
use Rattle.scheme_stands.specs.Expressions.{OneAt, OperandAt, RkAt}
use Rattle.scheme_stands.specs.Relation.{related}
use Rattle.scheme_stands.specs.Statements.{StoreAt}
use Rattle.scheme_stands.specs.Words.{Fn, Spot, Stretch, WordAt}
use Rattle.reads_back.specs.Acted.{Assigned, function_in, is_part, taken_behind_last}
use Rattle.reads_back.specs.Cores.{Counted, IsCore, IsOperand}
use Rattle.reads_back.proofs.AdjustedEntries.{count_last, last_split, taken_end}
use Rattle.reads_back.proofs.AssignedValues.{last_written, local_written, operand_written, singles_written, straight_written, with_operand}
use Rattle.reads_back.proofs.BehindWords.{HasLocals, SameLocals, behind_words, quiet_same, same_then, locals_then}
use Rattle.reads_back.proofs.BothOperands.{counted}
use Rattle.reads_back.proofs.Comes.{Arrives, IsOperandWanted, Made, Moved, ReadsCore}
use Rattle.reads_back.proofs.FirstStores.{Follows, first_no_item, not_temporary}
use Rattle.reads_back.proofs.GivenLists.{AllCome}
use Rattle.reads_back.proofs.HeldOperands.{Kept, StandsIn, counts_none, entries_in, in_local, in_next, in_word, operand_held, operand_of, rk_held}
use Rattle.reads_back.proofs.NameReads.{AreListed}
use Rattle.reads_back.proofs.OneTarget.{core_of}
use Rattle.reads_back.proofs.PartsRead.{value_of}
use Rattle.reads_back.proofs.Reaches.{Reaches, reaches_on, reaches_then}
use Rattle.reads_back.proofs.SeveralValues.{behind_all}
use Rattle.reads_back.proofs.StoredTargets.{Destination, IsThere, StoreWordAt, WritesValues, first_stored, parts_used, seen_with, store_piece, target_to, to_global, to_local, to_part, to_upvalue}
use Rattle.reads_back.proofs.StoresRead.{IsInStep, IsValueKept, is_value_kept, only_entry, straight_of}
use Rattle.reads_back.proofs.TableWords.{and_last_entry}
use Rattle.reads_back.proofs.TakenEntries.{count_of_entries}
use Rattle.reads_back.proofs.Taking.{max_swap, taken_by}
use Rattle.reads_back.proofs.TargetsCome.{Fits, IsSaid}
use Rattle.reads_back.proofs.TargetsStored.{CanTake, moved_turn, operand_turn, register_turn, store_keeps, straight_turn}
use Rattle.reads_back.proofs.Tests.{both_hold, not_so, or_second}
use Rattle.reads_back.proofs.ValueWords.{next_free}
use Rattle.reads_back.proofs.WordsBegin.{instr_is, reads_want}
use Rattle.reads_back.proofs.WordsRead.{IsFunction, IsQuiet, abc_is_read, abx_is_read, quiet_before, quiet_from}

-- A word is read as the first store, to the last target, where so many values are left. What is known before it is what the words of the parts left, which stand in the registers of the step.
pub record Begun (f : Function) (count : ℕ) (s : Situation) (others : ℕ) (d : Destination) (to : Assigned) (first next : ℕ) : Type 0 where
  pub pc : ℕ
  pub before : Situation
  pub reaches : Reaches f first s pc before
  pub later : pc < next
  pub scope : Scope
  pub same : SameLocals s.scope scope
  pub values : Entries
  pub straight : Option Straight
  pub used : List Bool
  pub turn :
      turn_at f pc before ≡ option_map as_over (assigned_from f straight next
      (record s { scope = scope; entries = s.entries ++ values; seen = seen_with d (taken_behind_last to.last (taken_behind_values to.values s.seen)) }) (first_stored pc d (parts_used count (length s.entries) d) others used))
  pub enough : others ≤ length values
  pub writes : WritesValues f values straight d (suc others) to
  pub function : others ≡ 0 → stored_function straight values ≡ function_in to.values to.last

-- the value goes to a name; or an operand goes to a part of a table
abbrev pub GoesTo : Fn → List Active → Expression → Destination → Values → Counted Assigned
GoesTo g active e d front before behind to =
    ((is_part (Some (target_to d)) ≡ false) × (v : Value) × IsCore g active e before behind v × (to ≡ record { values = and_last_value front v; all = true; last = None }))
    ⊎ ((is_part (Some (target_to d)) ≡ true) × (o : OperandValue) × IsOperand g active e before behind o × (to ≡ record { values = front; all = true; last = Some o }))

pub record LastStored (f : Function) (g : Fn) (active : List Active) (e : Expression) (before behind : ℕ) (d : Destination) (s : Situation) (others : ℕ) (front : Values) (first next : ℕ) : Type 0 where
  pub to : Assigned
  pub goes : GoesTo g active e d front before behind to
  pub begun : Begun f (length active) s others d to first next

-- ---- the target

-- its store takes a constant before or behind the value
seen_before : (d : Destination) (n c : ℕ) → max (seen_with d n) c ≡ seen_with d (max n c)
seen_before (to_global k) n c = max_swap n (one_more k) c
seen_before (to_part on key x y) n c = max_swap n (counted y) c
seen_before d n c = refl

name_takes : (d : Destination) (kept : Kept) → ((r : ℕ) → d ≡ to_local r → ⊥) → IsValueKept kept → CanTake d kept
name_takes (to_local r) kept far value = absurd (far r refl)
name_takes (to_part on key x y) kept far value = tt
name_takes d kept far value = value

part_takes : (d : Destination) (kept : Kept) → is_part (Some (target_to d)) ≡ true → CanTake d kept
part_takes (to_part on key x y) kept part = tt
part_takes d kept part = not_so part

-- the word of its store reads what it stores
pub store_reads : {f : Function} {g : Fn} (base : ℕ) (d : Destination) (r : ℕ) (p q : Spot) → IsFunction f g → base ≤ r → r < 256 → StoreWordAt g d r p q → is_so (λ i. reads_from i base) (instr_at f p.pc) ≡ true
store_reads base (to_local x) r p q is_function above small at = ap (is_so (λ i. reads_from i base)) (instr_is is_function at (abc_is_read is_function at)) ∙ le-leb base r above
store_reads base (to_upvalue slot) r p q is_function above small at = ap (is_so (λ i. reads_from i base)) (instr_is is_function at (abc_is_read is_function at)) ∙ le-leb base r above
store_reads base (to_global number) r p q is_function above small at = ap (is_so (λ i. reads_from i base)) (instr_is is_function at (abx_is_read is_function at)) ∙ le-leb base r above
store_reads base (to_part on key x y) r p q is_function above small at =
    ap (is_so (λ i. reads_from i base)) (instr_is is_function at (abc_is_read is_function at))
    ∙ or_second (nat_le base x) _ (or_second (is_from y base) _ (both_hold (nat_le base r) _ (le-leb base r above) (lt-ltb r 256 small)))

store_next : {g : Fn} (d : Destination) (r : ℕ) (p q : Spot) → StoreWordAt g d r p q → q.pc ≡ suc p.pc
store_next {g} d r p q at = let word : WordAt g (store_piece d r) p q = at in word.next

-- ---- the value

-- the number of a function that it is
abbrev operand_number : OperandValue → Option ℕ
operand_number (value_operand v) = function_number v
operand_number (constant_operand k) = None

-- where no entry stands before the last one, and no value before the last one, both are the same function
only_read : (entries : Entries) (entry : EntryValue) (v : Value) → single_of entry ≡ Some v → length entries ≡ 0 → stored_function None (entries ++ entry ∷ []) ≡ function_number v
only_read [] entry v single none = only_entry entry v single
only_read (other ∷ entries) entry v single none = absurd (omega (arith, none))

only_named : (front : Values) (v : Value) → value_count front ≡ 0 → function_number v ≡ function_in (and_last_value front v) None
only_named no_values v none = refl
only_named (and_value w ws) v none = absurd (omega (arith, none))

only_part : (front : Values) (o : OperandValue) → value_count front ≡ 0 → operand_number o ≡ function_in front (Some o)
only_part no_values (value_operand v) none = refl
only_part no_values (constant_operand k) none = refl
only_part (and_value w ws) o none = absurd (omega (arith, none))

abbrev to_name : Values → Value → Assigned
to_name front v = record { values = and_last_value front v; all = true; last = None }

-- ---- the first store

module _ {f : Function} {g : Fn} {active : List Active} {listed : List ℕ} (is_function : IsFunction f g) (s : Situation) (locals : HasLocals active listed s) (entries behind : Entries) (height : length entries ≡ length s.entries)
    {Front : Values → Type 0} {deep others first begun : ℕ} (front : AllCome f Front deep s others first begun) where
  size : length front.entries ≡ others
  size = count_of_entries front.entries front.values front.singles ∙ front.counts

  in_step : (scope : Scope) (entries : Entries) (seen : ℕ) → SameLocals front.scope scope → IsInStep f (length active) listed (record s { scope = scope; entries = entries; seen = seen })
  in_step scope entries seen same = record { base = locals.base; places = same.active ∙ front.same.active ∙ locals.places }

  -- what the turn of the first store comes to, where these entries are in the registers of the step, so many of them parts of targets
  abbrev stored : Destination → Option Straight → (used : List Bool) → (pc next : ℕ) → Scope → (entries : Entries) → (seen : ℕ) → (parts : ℕ) → Option (Turn × Situation)
  stored d straight used pc next scope entries seen parts =
      option_map as_over (assigned_from f straight next (record s { scope = scope; entries = entries; seen = seen }) (first_stored pc d (parts_used (length active) parts d) others used))

  taken_all : (v : Value) (seen : ℕ) → taken_behind v front.seen ≡ seen → seen ≡ taken_by (to_name front.values v) s.seen
  taken_all v seen taken = sym (taken_end front.values v s.seen ∙ ap (taken_behind v) front.taken ∙ taken)

  -- the last word makes it, for a local
  made_begins : (e : Expression) (made_before made_behind r : ℕ) {low last : ℕ} → IsThere f (length active) listed entries (to_local r) behind → (made : Made f (IsCore g active e made_before made_behind) low (behind_all front) r begun last) →
      Begun f (length active) s others (to_local r) (to_name front.values made.value) first last
  made_begins e made_before made_behind r {last = last} there made =
      let v = made.value in
      let all = s.entries ++ front.entries in
      let straight = Some (straight_value v) in
      let u = record s { scope = made.scope; entries = all; seen = made.seen } in
      record {
        pc = made.word.pc;
        before = made.before;
        reaches = reaches_then front.reaches made.reaches;
        later = made.later;
        scope = made.scope;
        same = same_then front.same made.same;
        values = front.entries;
        straight = straight;
        used = [];
        turn =
            straight_turn is_function made.word v r last (length s.entries) others entries behind made.before u (in_step made.scope all made.seen made.same) there (omega (arith, length-append s.entries front.entries, size)) made.turn made.register made.makes
            ∙ ap (λ (seen : ℕ). stored (to_local r) straight [] made.word.pc last made.scope all seen (length s.entries)) (taken_all v made.seen made.taken);
        enough = omega (arith, size);
        writes = straight_written f front.entries (to_local r) (suc others) front.values v front.singles;
        function = λ none. only_named front.values v (front.counts ∙ none);
      }

  -- it comes to the next register
  next_there : (entry : EntryValue) → s.entries ++ (front.entries ++ entry ∷ []) ≡ (s.entries ++ front.entries) ++ entry ∷ []
  next_there entry = sym (append_assoc s.entries front.entries (entry ∷ []))

  next_size : (entry : EntryValue) → length (s.entries ++ (front.entries ++ entry ∷ [])) ≡ suc (length s.entries + others)
  next_size entry = omega (arith, length-append s.entries (front.entries ++ entry ∷ []), length-append front.entries (entry ∷ []), size)

  next_enough : (entry : EntryValue) → others ≤ length (front.entries ++ entry ∷ [])
  next_enough entry = omega (arith, length-append front.entries (entry ∷ []), size)

  next_reached : (scope : Scope) (seen last : ℕ) (entry : EntryValue) → Reaches f begun (behind_all front) last (behind_words scope seen (entry ∷ []) (behind_all front)) →
      Reaches f first s last (record s { scope = scope; entries = s.entries ++ (front.entries ++ entry ∷ []); seen = seen })
  next_reached scope seen last entry reaches = reaches_then front.reaches (subst (λ (entries : Entries). Reaches f begun (behind_all front) last (record s { scope = scope; entries = entries; seen = seen })) (sym (next_there entry)) reaches)

  next_read : (entry : EntryValue) (v : Value) → single_of entry ≡ Some v → others ≡ 0 → stored_function None (front.entries ++ entry ∷ []) ≡ function_number v
  next_read entry v single none = only_read front.entries entry v single (omega (arith, size, none))

  next_written : (d : Destination) (entry : EntryValue) (v : Value) → single_of entry ≡ Some v → is_part (Some (target_to d)) ≡ false → ((r : ℕ) → d ≡ to_local r → is_nil v ≡ false) →
      WritesValues f (front.entries ++ entry ∷ []) None d (suc others) (to_name front.values v)
  next_written d entry v single named no_nil =
      singles_written f (front.entries ++ entry ∷ []) d (suc others) (and_last_value front.values v) (and_last_entry front.entries front.values entry v front.singles single)
      (count_last front.values v ∙ ap suc front.counts) named (λ r local more. ap (is_last is_nil) (last_split front.values v) ∙ no_nil r local)

  part_written : (d : Destination) (entry : EntryValue) (v : Value) → single_of entry ≡ Some v → is_part (Some (target_to d)) ≡ true → WritesValues f (front.entries ++ entry ∷ []) None d (suc others) (with_operand front.values (value_operand v))
  part_written d entry v single part = last_written f (front.entries ++ entry ∷ []) d (suc others) front.values v (and_last_entry front.entries front.values entry v front.singles single) (ap suc front.counts) part

  -- it moves on from there to a local
  moved_begins : (e : Expression) (made_before made_behind r : ℕ) {low last : ℕ} → IsThere f (length active) listed entries (to_local r) behind → next_free (behind_all front) ≤ 250 →
      (moved : Moved f (IsCore g active e made_before made_behind) low (behind_all front) r begun last) → Begun f (length active) s others (to_local r) (to_name front.values moved.comes.value) first last
  moved_begins e made_before made_behind r {last = last} there few moved =
      let come = moved.comes in
      let v = come.value in
      let all = s.entries ++ front.entries in
      let t = behind_words come.scope come.seen (come.entry ∷ []) (behind_all front) in
      let counts : length t.entries ≡ suc (length entries + others) = ap length (sym (next_there come.entry)) ∙ next_size come.entry ∙ ap (λ (n : ℕ). suc (n + others)) (sym height) in
      let free : next_free (behind_all front) ≡ length active + (length entries + others) = omega (arith, length-append s.entries front.entries, size, height, locals.base) in
      record {
        pc = moved.mid;
        before = t;
        reaches = reaches_then front.reaches come.reaches;
        later = moved.later;
        scope = come.scope;
        same = same_then front.same come.same;
        values = front.entries ++ come.entry ∷ [];
        straight = None;
        used = true ∷ [];
        turn =
            moved.turn
            ∙ moved_turn is_function r others (next_free (behind_all front)) moved.mid last entries behind t (in_step come.scope t.entries come.seen come.same) there (omega (arith, counts)) free (omega (arith, few))
            ∙ ap (λ (parts : ℕ). stored (to_local r) None (true ∷ []) moved.mid last come.scope t.entries come.seen parts) height
            ∙ ap₂ (λ (entries : Entries) (seen : ℕ). stored (to_local r) None (true ∷ []) moved.mid last come.scope entries seen (length s.entries)) (sym (next_there come.entry)) (taken_all v come.seen come.taken);
        enough = next_enough come.entry;
        writes = next_written (to_local r) come.entry v come.single refl (λ r local. moved.no_nil);
        function = λ none. next_read come.entry v come.single none ∙ only_named front.values v (front.counts ∙ none);
      }

  -- an operand x of the word of the store comes to this situation
  module _ (d : Destination) (there : IsThere f (length active) listed entries d behind) (free x free1 : ℕ) (next : free ≡ next_free (behind_all front)) (p q : Spot) (follows : Follows f s others d q.pc)
      (scope : Scope) (same : SameLocals front.scope scope) (seen : ℕ) (quiet : IsQuiet f s.scope p.pc q.pc) (word : StoreWordAt g d x p q) where
    same_all : SameLocals s.scope scope
    same_all = same_then front.same same

    later : p.pc < q.pc
    later = omega (arith, store_next d x p q word)

    seen_all : (to : Assigned) → max seen (counted x) ≡ taken_by to s.seen → max (seen_with d seen) (counted x) ≡ seen_with d (taken_by to s.seen)
    seen_all to taken = seen_before d seen (counted x) ∙ ap (seen_with d) taken

    -- it stands in the next register
    next_begins : (to : Assigned) (entry : EntryValue) (v : Value) → StandsIn f (length active) listed free x free1 (in_next entry v) → (others ≡ 0 → function_number v ≡ function_in to.values to.last) → Reaches f begun (behind_all front) p.pc (behind_words scope seen (entry ∷ []) (behind_all front)) →
        max seen (counted x) ≡ taken_by to s.seen → WritesValues f (front.entries ++ entry ∷ []) None d (suc others) to → Begun f (length active) s others d to first q.pc
    next_begins to entry v stands function reaches taken writes =
        let all = s.entries ++ (front.entries ++ entry ∷ []) in
        let t = record s { scope = scope; entries = all; seen = seen } in
        let few : x < 250 = omega (arith, stands.0, stands.1) in
        let at : x ≡ length active + (length entries + others) = omega (arith, stands.0, next, length-append s.entries front.entries, size, height, locals.base) in
        let none = first_no_item (in_step scope all seen same) s d others p.pc q.pc x entries behind (front.entries ++ entry ∷ []) there height refl same_all refl (store_next d x p q word) follows
        (inr (omega (arith, at, height, locals.base), omega (arith, few))) in
        let is_seen : seen_with d seen ≡ seen_with d (taken_by to s.seen) = ap (seen_with d) (sym (max-zero seen) ∙ ap (max seen) (sym (counts_none x (omega (arith, few)))) ∙ taken) in
        record {
          pc = p.pc;
          before = t;
          reaches = next_reached scope seen p.pc entry reaches;
          later = later;
          scope = scope;
          same = same_all;
          values = front.entries ++ entry ∷ [];
          straight = None;
          used = true ∷ [];
          turn =
              register_turn is_function d others x q.pc entries behind p q t (in_step scope all seen same) there none (omega (arith, next_size entry, height)) at few
              (quiet_same same_all quiet) (omega arith) word
              ∙ ap₂ (λ (parts seen : ℕ). stored d None (true ∷ []) p.pc q.pc scope all seen parts) height is_seen;
          enough = next_enough entry;
          writes = writes;
          function = λ none. next_read entry v stands.3 none ∙ function none;
        }

    -- it is a local or a constant
    straight_begins : (to : Assigned) (kept : Kept) → StandsIn f (length active) listed free x free1 kept → entries_in kept ≡ [] → CanTake d kept → (others ≡ 0 → stored_function (straight_of kept) front.entries ≡ function_in to.values to.last) →
        Reaches f begun (behind_all front) p.pc (behind_words scope seen [] (behind_all front)) → max seen (counted x) ≡ taken_by to s.seen → WritesValues f front.entries (straight_of kept) d (suc others) to → Begun f (length active) s others d to first q.pc
    straight_begins to kept stands straight_kept can function reaches taken writes =
        let all = s.entries ++ front.entries in
        let t = record s { scope = scope; entries = all; seen = seen } in
        let counts : length all ≡ length entries + others = omega (arith, length-append s.entries front.entries, size, height) in
        let none = first_no_item (in_step scope all seen same) s d others p.pc q.pc x entries behind front.entries there height refl same_all refl (store_next d x p q word) follows
        (inl (not_temporary f (length active) listed s.base free x free1 kept locals.base stands straight_kept, omega (arith, counts, height))) in
        record {
          pc = p.pc;
          before = t;
          reaches = reaches_then front.reaches (subst (λ (entries : Entries). Reaches f begun (behind_all front) p.pc (record s { scope = scope; entries = entries; seen = seen })) (append-nil all) reaches);
          later = later;
          scope = scope;
          same = same_all;
          values = front.entries;
          straight = straight_of kept;
          used = [];
          turn =
              operand_turn is_function d kept others x free free1 q.pc entries behind p q t (in_step scope all seen same) there none counts stands straight_kept can
              (quiet_same same_all quiet) (omega arith) word
              ∙ ap₂ (λ (parts seen : ℕ). stored d (straight_of kept) [] p.pc q.pc scope all seen parts) height (seen_all to taken);
          enough = omega (arith, size);
          writes = writes;
          function = function;
        }

    -- it goes to a name that is no local
    name_begins : (kept : Kept) → is_part (Some (target_to d)) ≡ false → ((r : ℕ) → d ≡ to_local r → ⊥) → IsValueKept kept → max seen (counted x) ≡ taken_behind_operand (operand_of kept) front.seen →
        StandsIn f (length active) listed free x free1 kept → Reaches f begun (behind_all front) p.pc (behind_words scope seen (entries_in kept) (behind_all front)) → Begun f (length active) s others d (to_name front.values (value_of kept)) first q.pc
    name_begins (in_word number) named far value taken stands reaches = absurd value
    name_begins (in_local r) named far value taken stands reaches =
        straight_begins (to_name front.values (local_value r)) (in_local r) stands refl (name_takes d (in_local r) far tt) (λ none. only_named front.values (local_value r) (front.counts ∙ none)) reaches (taken_all (local_value r) (max seen (counted x)) (sym taken)) (local_written f front.entries d (suc others) front.values r front.singles)
    name_begins (in_next entry v) named far value taken stands reaches =
        next_begins (to_name front.values v) entry v stands (λ none. only_named front.values v (front.counts ∙ none)) reaches (taken_all v (max seen (counted x)) (sym taken)) (next_written d entry v stands.3 named (λ r local. absurd (far r local)))

    -- it goes to a part of a table
    part_begins : (kept : Kept) → is_part (Some (target_to d)) ≡ true → max seen (counted x) ≡ taken_behind_operand (operand_of kept) front.seen →
        StandsIn f (length active) listed free x free1 kept → Reaches f begun (behind_all front) p.pc (behind_words scope seen (entries_in kept) (behind_all front)) → Begun f (length active) s others d (with_operand front.values (operand_of kept)) first q.pc
    part_begins kept part taken stands reaches = by kept (taken ∙ ap (taken_behind_operand (operand_of kept)) (sym front.taken)) stands reaches
      where
        by : (kept : Kept) → max seen (counted x) ≡ taken_behind_operand (operand_of kept) (taken_behind_values front.values s.seen) → StandsIn f (length active) listed free x free1 kept →
            Reaches f begun (behind_all front) p.pc (behind_words scope seen (entries_in kept) (behind_all front)) → Begun f (length active) s others d (with_operand front.values (operand_of kept)) first q.pc
        by (in_word number) taken stands reaches =
            straight_begins (with_operand front.values (constant_operand number)) (in_word number) stands refl (part_takes d (in_word number) part) (λ none. only_part front.values (constant_operand number) (front.counts ∙ none)) reaches taken (operand_written f front.entries d (suc others) front.values (constant_operand number) front.singles)
        by (in_local r) taken stands reaches =
            straight_begins (with_operand front.values (value_operand (local_value r))) (in_local r) stands refl (part_takes d (in_local r) part) (λ none. only_part front.values (value_operand (local_value r)) (front.counts ∙ none)) reaches taken (operand_written f front.entries d (suc others) front.values (value_operand (local_value r)) front.singles)
        by (in_next entry v) taken stands reaches = next_begins (with_operand front.values (value_operand v)) entry v stands (λ none. only_part front.values (value_operand v) (front.counts ∙ none)) reaches taken (part_written d entry v stands.3 part)

-- ---- the last value goes to its target by its own words

-- the word of the store says the target
store_said : {g : Fn} (d : Destination) {operand : (free x free1 : ℕ) → Stretch} {store : (x : ℕ) → Stretch} {free : ℕ} {p q : Spot} → ((r : ℕ) (p q : Spot) → store r p q → StoreWordAt g d r p q) → OneAt operand free store p q → OneAt operand free (StoreWordAt g d) p q
store_said d {q = q} said at = record { x = at.x; free1 = at.free1; mid = at.mid; operand_at = at.operand_at; words_at = said at.x at.mid q at.words_at }

module _ {f : Function} {g : Fn} {active : List Active} {listed : List ℕ} (is_function : IsFunction f g) (all : AreListed f g active listed) (d : Destination) (e : Expression) (reads : ReadsCore f g active listed e) where
  module _ (s : Situation) (entries behind : Entries) {Front : Values → Type 0} {deep others first : ℕ} (free : ℕ) (p q : Spot) (locals : HasLocals active listed s) (there : IsThere f (length active) listed entries d behind) (height : length entries ≡ length s.entries)
      (follows : Follows f s others d q.pc) (front : AllCome f Front deep s others first p.pc) (next : free ≡ next_free (behind_all front)) (few : free ≤ 250) (quiet : IsQuiet f s.scope p.pc q.pc) where
    locals_there : HasLocals active listed (behind_all front)
    locals_there = locals_then front.same locals

    quiet_there : IsQuiet f front.scope p.pc q.pc
    quiet_there = quiet_same front.same quiet

    abbrev Gives : Destination → Type 0
    Gives d = LastStored f g active e p.functions q.functions d s others front.values first q.pc

    arrived : (r : ℕ) → IsThere f (length active) listed entries (to_local r) behind → {low : ℕ} → Arrives f (IsCore g active e p.functions q.functions) low (behind_all front) r p.pc q.pc → Gives (to_local r)
    arrived r there (inl made) = record {
      to = to_name front.values made.value;
      goes = inl (refl, made.value, made.is, refl);
      begun = made_begins is_function s locals entries behind height front e p.functions q.functions r there made;
    }
    arrived r there (inr (inl (same, comes))) = absurd (omega (arith, same, locals.base, there.0))
    arrived r there (inr (inr moved)) = record {
      to = to_name front.values moved.comes.value;
      goes = inl (refl, moved.comes.value, moved.comes.is, refl);
      begun = moved_begins is_function s locals entries behind height front e p.functions q.functions r there (omega (arith, next, few)) moved;
    }

    local_stored : (r : ℕ) → IsThere f (length active) listed entries (to_local r) behind → (related g e).to_reg active free r p q → Gives (to_local r)
    local_stored r there at =
        let below : r < s.base = omega (arith, there.0, locals.base) in
        arrived r there (reads.arrives free r p q (behind_all front) locals_there next (inr below) quiet_there (λ same. absurd (omega (arith, same, below))) at)

    -- an operand that comes to the next register is wanted by the word of the store
    operand_wanted : (x free1 : ℕ) (mid : Spot) → p.pc ≤ mid.pc → StoreWordAt g d x mid q → IsOperandWanted f (behind_all front) free x free1 mid.pc
    operand_wanted x free1 mid on word is more =
        let stay = quiet_there.stays mid.pc on (omega (arith, store_next d x mid q word)) in
        reads_want f mid.pc (behind_all front) stay (store_reads s.base d x mid q is_function (omega (arith, is, next)) (omega (arith, is, few)) word)

    quiet_operand : (x : ℕ) (mid : Spot) → StoreWordAt g d x mid q → IsQuiet f front.scope p.pc mid.pc
    quiet_operand x mid word = quiet_before mid.pc (omega (arith, store_next d x mid q word)) quiet_there

    name_stored : is_part (Some (target_to d)) ≡ false → ((r : ℕ) → d ≡ to_local r → ⊥) → OneAt (OperandAt g active (related g e)) free (StoreWordAt g d) p q → Gives d
    name_stored named far at =
        let on = (operand_held is_function all e reads).forward free at.x at.free1 p at.mid at.operand_at in
        let held = (operand_held is_function all e reads).comes free at.x at.free1 p at.mid (behind_all front) locals_there next (quiet_operand at.x at.mid at.words_at) (operand_wanted at.x at.free1 at.mid on at.words_at) at.operand_at in
        let value = is_value_kept (IsCore g active e p.functions at.mid.functions) held.kept held.is in
        let core = core_of (IsCore g active e p.functions at.mid.functions) held.kept held.is in
        let is = subst (λ (made : ℕ). IsCore g active e p.functions made (value_of held.kept)) (sym (store_keeps d at.x at.mid q at.words_at)) core in
        record {
          to = to_name front.values (value_of held.kept);
          goes = inl (named, value_of held.kept, is, refl);
          begun =
              name_begins is_function s locals entries behind height front d there free at.x at.free1 next at.mid q follows held.scope held.same held.seen (quiet_from at.mid.pc (reaches_on held.reaches) quiet) at.words_at held.kept named far value held.taken held.stands held.reaches;
        }

    part_stored : is_part (Some (target_to d)) ≡ true → OneAt (RkAt g active (related g e)) free (StoreWordAt g d) p q → Gives d
    part_stored part at =
        let on = (rk_held is_function all e reads).forward free at.x at.free1 p at.mid at.operand_at in
        let held = (rk_held is_function all e reads).comes free at.x at.free1 p at.mid (behind_all front) locals_there next (quiet_operand at.x at.mid at.words_at) (operand_wanted at.x at.free1 at.mid on at.words_at) at.operand_at in
        let is = subst (λ (made : ℕ). IsOperand g active e p.functions made (operand_of held.kept)) (sym (store_keeps d at.x at.mid q at.words_at)) held.is in
        record {
          to = with_operand front.values (operand_of held.kept);
          goes = inr (part, operand_of held.kept, is, refl);
          begun =
              part_begins is_function s locals entries behind height front d there free at.x at.free1 next at.mid q follows held.scope held.same held.seen (quiet_from at.mid.pc (reaches_on held.reaches) quiet) at.words_at held.kept part held.taken held.stands held.reaches;
        }

    -- by what the place says
    by_place : (place : Target) → IsSaid g place d → Fits place d → StoreAt g place (related g e) active free p q → Gives d
    by_place (name_target text (in_register x)) said fits at = subst Gives (sym fits) (local_stored x (subst (λ d. IsThere f (length active) listed entries d behind) fits there) at)
    by_place (name_target text (in_upvalue slot)) said fits at = name_stored fits.0 fits.1 (store_said d said at)
    by_place (name_target text in_globals) said fits at = name_stored fits.0 fits.1 (store_said d said at)
    by_place (part_target on key on_local key_local) said fits at = part_stored fits (store_said d said at)

module _ {f : Function} {g : Fn} {active : List Active} {listed : List ℕ} (is_function : IsFunction f g) (all : AreListed f g active listed) (place : Target) (d : Destination) (said : IsSaid g place d) (fits : Fits place d) (e : Expression)
    (reads : ReadsCore f g active listed e) where
  -- the parts stand in these entries, where the target's are taken behind those of the others
  pub last_stored : {Front : Values → Type 0} (s : Situation) (entries behind : Entries) {deep others first : ℕ} (free : ℕ) (p q : Spot) → HasLocals active listed s → IsThere f (length active) listed entries d behind → length entries ≡ length s.entries → Follows f s others d q.pc →
      (front : AllCome f Front deep s others first p.pc) → free ≡ length active + (length s.entries + others) → free ≤ 250 → IsQuiet f s.scope p.pc q.pc → StoreAt g place (related g e) active free p q → LastStored f g active e p.functions q.functions d s others front.values first q.pc
  last_stored s entries behind free p q locals there height follows front is few quiet at =
      let next : free ≡ next_free (behind_all front) = omega (arith, is, locals.base, length-append s.entries front.entries, count_of_entries front.entries front.values front.singles, front.counts) in
      by_place is_function all d e reads s entries behind free p q locals there height follows front next few quiet place said fits at
