-- Each word of a sound chunk, done in a state that is as it should be.
use Rattle.std.proofs.Common.{◌≡◌, ◌⊎◌, inl, inr, ℕ, zero, suc, pred, ◌+◌, ◌-◌, ◌<◌, ◌≤◌, ℤ, pos, Bool, true, false, cond, ◌&&◌, ◌||◌, not, List, [], ◌∷◌, map, filter, length, take, drop, replicate, None, Some, refl, sym, ap, subst, ◌∙◌, true≢false, arith, nat_lt, nat_le, le-leb, leb-true, lt-ltb, ltb-false, ltb-true, eqb-true, ne_eqb, length-set}
use Rattle.std.proofs.lemmas.List.{length-replicate}
use Rattle.std.proofs.lemmas.Bool.{false_from_ne_true, lt-leb}
use Rattle.std.specs.Prelude.{Option, slice_get, slice_set, option_map, option_and_then, ◌==◌, ◌+ℤ◌, ◌-ℤ◌}
use Rattle.opcode.specs.declared.op.Op.{Op}
use Rattle.opcode.specs.declared.word.Instr.{Instr}
use Rattle.opcode.specs.Word.{truth_field}
use Rattle.proto.specs.Chunk.{Chunk, own, functions}
use Rattle.proto.specs.declared.parts.Constant.{Constant}
use Rattle.lua_num.specs.declared.arith.ArithOp.{ArithOp}
use Rattle.lua_num.specs.declared.arith.CompareOp.{CompareOp}
use Rattle.lua_model.specs.Datum.{Datum, nil, boolean, number, table, is_true, adjusted}
use Rattle.lua_model.specs.Store.{new_table, with_global}
use Rattle.lua_model.specs.Acts.{Act, value, call as calls, failure}
use Rattle.lua_model.specs.Operators.{arith as arith_of, negate, size, compare, index, set_index, LoopNumbers, counts, no_count, loop_numbers}
use Rattle.lua_num.specs.Arith.{wrap}
use Rattle.rules.specs.declared.rule.Rule.{Rule}
use Rattle.rules.specs.Words.{instr_at, is_test}
use Rattle.std.specs.List.{list_any}
use Rattle.rules.specs.Places.{belonging_to, next_pc, as_pc, target, is_place, jmp_at, test_ways, ways, is_pc, is_edge}
use Rattle.rules.specs.Notes.{Note, Registers, is_among, is_from_to, writes, closes, captures, prepares, touches, spares, after, AsksLess, FollowsIn}
use Rattle.rules.specs.Breaks.{reaches, operands, names, has_order, constants_of, upvalues_of, is_no_text, wants, leaves, wanted_at, jumps, stays_in, is_shape, instr_breaks, breaks_register, breaks_name, breaks_numbers, breaks_captured}
use Rattle.rules.specs.State.{into, test, turn, nowhere, OpenResults, Cell, State, Effect, need, at_pc, with_registers, with_results, with_store, register, constant, value_of, operand, name_of, global_name, span, set}
use Rattle.rules.specs.Cells.{read_cell, close_from}
use Rattle.rules.specs.Calls.{jump, skip, next_jmp, leave}
use Rattle.rules.specs.Step.{loop_number, number_of, turn_loop, three, prepare, set_list, do_setlist, give, give_test, give_nowhere, do_arith, do_compare, open_list, listed, count_of, landing_of, effect}
use Rattle.rules.proofs.Lists.{get_some, set_other, set_same, or_cases, or_left, length-adjusted, some_one, clash, and_true, and_first, and_second, not_false, or_first_false, or_second_false, reach_head, reach_tail}
use Rattle.rules.proofs.Further.{kept}
use Rattle.rules.proofs.Invariant.{IsNumber, Holds, Known, Met, Arrival, nothing, only, Branches, Awaits, AreThere, BaseOf, left_of, Fine}
use Rattle.rules.proofs.Landing.{need_fine, check_fine, cond_fine, arrival_any, set_fine, set_all_fine, branch_fine, branches_written, join_fine, land_fine, call_fine, not_eqb, not_among, not_from_to, base_registers, arrival_less, arrival_part, arrival_number, has_them}
use Rattle.rules.proofs.Closing.{leave_fine, tail_call_fine, closed_opens, base_closed}
use Rattle.rules.proofs.Sharing.{cell_is_read, write_cell_fine}
use Rattle.rules.proofs.Arriving.{Target, first_target, first_way, second_way, Doing, arrive_at, arrive_next, arrive_open, arrive_test, near, spares_each}

abbrev pub word : Op → ℕ → ℕ → ℕ → ℕ → ℤ → Instr
word op a b c bx sbx = record { op = op; a = a; b = b; c = c; bx = bx; sbx = sbx }

-- ---- operators' answers

pub give_fine : (m : State) (base : BaseOf m) (a : ℕ) → a < length m.top.registers → Arrival m.top.function base.known.notes m.cells (length m.below) m.top.registers m.top.pc (only a) None → (act : Act) → Fine (give m a act)
give_fine m base a there arrival (value v) = set_fine m base a v there arrival
give_fine m base a there arrival (calls h args how) = call_fine (into a) m base (there, arrival) h args
give_fine m base a there arrival (failure v) = base

pub give_test_fine : (m : State) (base : BaseOf m) (a : ℕ) → Branches m.top.function base.known.notes m.cells (length m.below) m.top.registers m.top.pc nothing → (act : Act) → Fine (give_test m a act)
give_test_fine m base a ways_are (value v) = branch_fine m base nothing ways_are _
give_test_fine m base a ways_are (calls h args how) = call_fine (test a _) m base ways_are h args
give_test_fine m base a ways_are (failure v) = base

pub give_nowhere_fine : (m : State) (base : BaseOf m) → Arrival m.top.function base.known.notes m.cells (length m.below) m.top.registers m.top.pc nothing None → (act : Act) → Fine (give_nowhere m act)
give_nowhere_fine m base arrival (value v) = land_fine nowhere m base arrival []
give_nowhere_fine m base arrival (calls h args how) = call_fine nowhere m base arrival h args
give_nowhere_fine m base arrival (failure v) = base

-- ---- operands

operand_is : (m : State) (x : ℕ) → (nat_lt x 256 ≡ true → x < length m.top.registers) → (nat_lt x 256 ≡ false → x - 256 < length (own m.top.function).constants) → (v : Datum) × (operand m x ≡ Some v)
operand_is m x low high = go (nat_lt x 256) low high
  where
    go : (b : Bool) → (b ≡ true → x < length m.top.registers) → (b ≡ false → x - 256 < length (own m.top.function).constants) → (v : Datum) × (cond b (register m x) (constant m (x - 256)) ≡ Some v)
    go true l h = get_some m.top.registers x (l refl)
    go false l h = let k = get_some (own m.top.function).constants (x - 256) (h refl) in (value_of k.0, ap (λ o. option_map value_of o) k.1)

filter_head : (limit : ℕ) (t : ℕ → Bool) (x : ℕ) (xs : List ℕ) → reaches limit (filter t (x ∷ xs)) ≡ false → t x ≡ true → x < limit
filter_head limit t x xs e is = reach_head limit x (filter t xs) (subst (λ b. reaches limit (cond b (x ∷ filter t xs) (filter t xs)) ≡ false) is e)

filter_tail : (limit : ℕ) (t : ℕ → Bool) (x : ℕ) (xs : List ℕ) → reaches limit (filter t (x ∷ xs)) ≡ false → reaches limit (filter t xs) ≡ false
filter_tail limit t x xs e = go (t x) e
  where
    go : (b : Bool) → reaches limit (cond b (x ∷ filter t xs) (filter t xs)) ≡ false → reaches limit (filter t xs) ≡ false
    go true h = reach_tail limit x (filter t xs) h
    go false h = h

abbrev less : List ℕ → List ℕ
less xs = map (λ x. x - 256) (filter (λ x. nat_le 256 x) xs)

less_head : (limit x : ℕ) (xs : List ℕ) → reaches limit (less (x ∷ xs)) ≡ false → nat_lt x 256 ≡ false → x - 256 < limit
less_head limit x xs e is =
    let high : 256 ≤ x = ltb-false x 256 is in
    reach_head limit (x - 256) (less xs) (subst (λ b. reaches limit (map (λ y. y - 256) (cond b (x ∷ filter (λ y. nat_le 256 y) xs) (filter (λ y. nat_le 256 y) xs))) ≡ false) (le-leb 256 x high) e)

less_tail : (limit x : ℕ) (xs : List ℕ) → reaches limit (less (x ∷ xs)) ≡ false → reaches limit (less xs) ≡ false
less_tail limit x xs e = go (nat_le 256 x) e
  where
    go : (b : Bool) → reaches limit (map (λ y. y - 256) (cond b (x ∷ filter (λ y. nat_le 256 y) xs) (filter (λ y. nat_le 256 y) xs))) ≡ false → reaches limit (less xs) ≡ false
    go true h = reach_tail limit (x - 256) (less xs) h
    go false h = h

next_zero : (pc n : ℕ) → n ≡ 0 → suc pc ≡ suc pc + n
next_zero pc n e = omega arith

-- ---- lists of values

span_is : (m : State) (a n : ℕ) → AreThere a n (length m.top.registers) → span m a n ≡ Some (take n (drop a m.top.registers))
span_is m a n there = ap (λ b. cond b (Some (take n (drop a m.top.registers))) None) (has_them m a n there)

open_list_fine : (m : State) (first : ℕ) (o : Option OpenResults) → Met (length m.top.registers) (Some first) (left_of o) → (next : State → List Datum → Effect) → ((results : Option OpenResults) (vs : List Datum) → Fine (next (with_results m results) vs)) → Fine (need o (λ results. open_list m first results next))
open_list_fine m first None met next fine = absurd met
open_list_fine m first (Some results) met next fine =
    let low : first ≤ results.first = met.0 in
    let high : results.first < length m.top.registers = met.1 in
    check_fine (nat_le first results.first) _ (le-leb first results.first low) (need_fine (span m first (results.first - first)) _ _ (span_is m first (results.first - first) (λ some. omega arith)) (fine None _))

-- the list of a word whose B counts one more than its values
pub counted_fine : (m : State) (first b : ℕ) → ((n : ℕ) → b ≡ suc n → AreThere first n (length m.top.registers)) → (b ≡ 0 → Met (length m.top.registers) (Some first) (left_of m.top.results)) → (next : State → List Datum → Effect) → ((results : Option OpenResults) (vs : List Datum) → Fine (next (with_results m results) vs)) → Fine (listed m first (count_of b) next)
counted_fine m first zero there met next fine = open_list_fine m first m.top.results (met refl) next fine
counted_fine m first (suc n) there met next fine = need_fine (span m first n) _ _ (span_is m first n (there n refl)) (fine m.top.results _)

suc_is_not_zero : (n : ℕ) → (suc n == 0) ≡ false
suc_is_not_zero n = ne_eqb (suc n) 0 (λ e. omega arith)

-- what a CALL writes is among its results
call_writes : (a n r : ℕ) → (nat_le a r && nat_lt (suc r) (a + suc n)) ≡ false → is_among a n r ≡ false
call_writes a n r e = false_from_ne_true (is_among a n r) (λ h.
    let low : a ≤ r = leb-true a r (and_first (nat_le a r) (nat_lt r (a + n)) h) in
    let high : r < a + n = ltb-true r (a + n) (and_second (nat_le a r) (nat_lt r (a + n)) h) in
    clash (and_true (nat_le a r) (nat_lt (suc r) (a + suc n)) (le-leb a r low) (lt-ltb (suc r) (a + suc n) (omega arith))) e)

prepare_fine : (m : State) → BaseOf m → (i : Instr) (n : LoopNumbers) → ((x y z : ℤ) → Fine (jump (with_registers m (three m.top.registers i.a x y z)) i.sbx)) → Fine (prepare m i n)
prepare_fine m base i (counts first limit step) fine = fine (wrap (first -ℤ step)) limit step
prepare_fine m base i (no_count why) fine = base

set_list_fine : (m : State) (base : BaseOf m) → Arrival m.top.function base.known.notes m.cells (length m.below) m.top.registers m.top.pc nothing None → (block : ℕ) (v : Datum) (vs : List Datum) → Fine (set_list m block v vs)
set_list_fine m base arrival block (table t) vs = land_fine nowhere (with_store m _) base arrival []
set_list_fine m base arrival block _ vs = base

length-three : (registers : List Datum) (a : ℕ) (x y z : ℤ) → length (three registers a x y z) ≡ length registers
length-three registers a x y z =
    length-set (slice_set (slice_set registers a (number x)) (a + 1) (number y)) (a + 2) (number z) ∙ length-set (slice_set registers a (number x)) (a + 1) (number y) ∙ length-set registers a (number x)

three_other : (registers : List Datum) (a : ℕ) (x y z : ℤ) (r : ℕ) → (a ≤ r → r < a + 3 → ⊥) → slice_get (three registers a x y z) r ≡ slice_get registers r
three_other registers a x y z r out =
    set_other (slice_set (slice_set registers a (number x)) (a + 1) (number y)) (a + 2) r (number z) (λ e. out (omega arith) (omega arith)) ∙ set_other (slice_set registers a (number x)) (a + 1) r (number y) (λ e. out (omega arith) (omega arith)) ∙ set_other registers a r (number x) (λ e. out (omega arith) (omega arith))

three_numbers : (registers : List Datum) (a : ℕ) (x y z : ℤ) (r : ℕ) → a + 2 < length registers → a ≤ r → r ≤ a + 2 → IsNumber (three registers a x y z) r
three_numbers registers a x y z r there low high =
    elim (near a r low high) [
      | inl same ↦ (x, subst (λ s. slice_get (three registers a x y z) s ≡ Some (number x)) same (set_other (slice_set (slice_set registers a (number x)) (a + 1) (number y)) (a + 2) a (number z) (λ e. omega arith) ∙ set_other (slice_set registers a (number x)) (a + 1) a (number y) (λ e. omega arith) ∙ set_same registers a (number x) (omega arith)))
      | inr (inl same) ↦ (y, subst (λ s. slice_get (three registers a x y z) s ≡ Some (number y)) same (set_other (slice_set (slice_set registers a (number x)) (a + 1) (number y)) (a + 2) (a + 1) (number z) (λ e. omega arith) ∙ set_same (slice_set registers a (number x)) (a + 1) (number y) (let len = length-set registers a (number x) in omega arith)))
      | inr (inr same) ↦ (z, subst (λ s. slice_get (three registers a x y z) s ≡ Some (number z)) same (set_same (slice_set (slice_set registers a (number x)) (a + 1) (number y)) (a + 2) (number z) (let len = length-set (slice_set registers a (number x)) (a + 1) (number y) in let len1 = length-set registers a (number x) in omega arith)))
    ]

-- behind FORPREP, whose three registers are then numbers
prepared : (f : Chunk) (known : Known f) (pc : ℕ) (i : Instr) (a : ℕ) (note : Note) → instr_at f pc ≡ Some i → known.notes pc ≡ Some note → (cells : List Cell) (k : ℕ) (registers after1 : List Datum) → Holds cells k registers note → length after1 ≡ length registers → ((r : ℕ) → writes i.op i r ≡ false → slice_get after1 r ≡ slice_get registers r) → ((r : ℕ) → a ≤ r → r ≤ a + 2 → IsNumber after1 r) → ((r : ℕ) → a ≤ r → r ≤ a + 2 → note.captured r ≡ false) → ((x : ℕ) → prepares i.op i x ≡ true → a ≡ x) → ((r : ℕ) → closes i.op i r ≡ false) → (t : ℕ) → is_edge f pc i t ≡ true → wanted_at f t ≡ None → Arrival f known.notes cells k after1 t nothing None
prepared f known pc i a note at noted cells k registers after1 holds len same numbers free preps kept_open t edge none =
    go (known.notes t) refl (known.noted.consistent.edges pc t i note at noted edge)
  where
    loop : (n : Note) → AsksLess (after f pc i note) n → (x : ℕ) → n.loops x ≡ true → ((note.loops x && spares f pc i x) ≡ true) ⊎ (prepares i.op i x ≡ true)
    loop n follows x l = or_cases (note.loops x && spares f pc i x) (prepares i.op i x) (follows.loops x l)

    old_number : (x r : ℕ) → (note.loops x && spares f pc i x) ≡ true → x ≤ r → r ≤ x + 2 → IsNumber after1 r
    old_number x r l low high =
        let n = holds.numbers x r (and_first (note.loops x) (spares f pc i x) l) low high in
        let clean = spares_each (touches f pc i) x r (and_second (note.loops x) (spares f pc i x) l) low high in
        (n.0, same r (or_first_false (writes i.op i r) (captures f pc i r) clean) ∙ n.1)

    go : (o : Option Note) → known.notes t ≡ o → FollowsIn (after f pc i note) o → Arrival f known.notes cells k after1 t nothing None
    go None e follows = absurd follows
    go (Some n) e follows = record {
      place = and_first _ _ edge;
      note = n;
      noted = e;
      holds = record {
        captured = λ r is. follows.captured r (or_left _ _ (and_true _ _ (holds.captured r is) (ap not (kept_open r))));
        numbers = λ x r l low high. elim (loop n follows x l) [
          | inl old ↦ old_number x r old low high
          | inr new ↦ let eq = preps x new in numbers r (omega arith) (omega arith)
        ];
        alone = λ x r l low high is. elim (loop n follows x l) [
          | inl old ↦ holds.alone x r (and_first _ _ old) low high is
          | inr new ↦ let eq = preps x new in clash (holds.captured r is) (free r (omega arith) (omega arith))
        ];
      };
      spared = λ x r l low high. refl;
      met = subst (λ o. Met (length after1) o None) (sym none) tt;
    }

-- The running frame is at a word of a sound function, and everything else is as it should be.
module _ (m0 : State) (base : BaseOf m0) where
  abbrev pub DoingOf : Instr → Type 0
  DoingOf i = Doing m0.top.function base.known m0.cells (length m0.below) m0.top.registers m0.top.pc i

  -- the state in which the word is done
  abbrev pub m : State
  m = at_pc m0 (suc m0.top.pc)

  abbrev pub ArrivalOf : ℕ → Registers → Option ℕ → Type 0
  ArrivalOf t written left = Arrival m0.top.function base.known.notes m0.cells (length m0.below) m0.top.registers t written left

  pub keeps : (i : Instr) → DoingOf i → (rule : Rule) → is_shape rule ≡ false → instr_breaks m0.top.function (base.known.notes m0.top.pc) m0.top.pc i rule ≡ false
  keeps i d rule other = kept m0.top.function base.known.main base.known.notes base.known.noted m0.top.pc i d.solid d.at rule other

  pub registers_kept : (i : Instr) → DoingOf i → breaks_register m0.top.function m0.top.pc i ≡ false
  registers_kept i d = keeps i d Rule.Register refl

  -- what the rules say of a word's fields
  order_ok : (i : Instr) → DoingOf i → has_order i.op i ≡ true
  order_ok i d = not_false _ (or_first_false _ _ (or_first_false _ _ (or_first_false _ _ (registers_kept i d))))

  names_ok : (i : Instr) → DoingOf i → reaches (length m0.top.registers) (names i.op i) ≡ false
  names_ok i d = subst (λ n. reaches n (names i.op i) ≡ false) (sym base.size) (or_second_false _ _ (or_first_false _ _ (or_first_false _ _ (registers_kept i d))))

  operands_ok : (i : Instr) → DoingOf i → reaches (length m0.top.registers) (filter (λ x. nat_lt x 256) (operands i.op i)) ≡ false
  operands_ok i d = subst (λ n. reaches n (filter (λ x. nat_lt x 256) (operands i.op i)) ≡ false) (sym base.size) (or_second_false _ _ (or_first_false _ _ (registers_kept i d)))

  constants_ok : (i : Instr) → DoingOf i → reaches (length (own m0.top.function).constants) (constants_of i.op i) ≡ false
  constants_ok i d = keeps i d Rule.Constant refl

  upvalues_ok : (i : Instr) → DoingOf i → reaches (length m0.top.cells) (upvalues_of i.op i) ≡ false
  upvalues_ok i d = subst (λ n. reaches n (upvalues_of i.op i) ≡ false) (sym base.counted) (or_first_false _ _ (keeps i d Rule.Upvalue refl))

  name_ok : (i : Instr) → DoingOf i → breaks_name m0.top.function i.op i ≡ false
  name_ok i d = keeps i d Rule.NameConstant refl

  abbrev pub plain : Instr → Type 0
  plain i = ways m0.top.function m0.top.pc i ≡ Some (next_pc m0.top.function m0.top.pc i) ∷ []

  -- a word that goes on to the next one, closes nothing and leaves nothing
  pub step_next : (i : Instr) → DoingOf i → ((r : ℕ) → closes i.op i r ≡ false) → ((a : ℕ) → prepares i.op i a ≡ false) → stays_in i.op ≡ false → leaves i.op i ≡ None → belonging_to (functions m0.top.function) i.op i ≡ 0 → plain i → ArrivalOf (suc m0.top.pc) (writes i.op i) None
  step_next i d kept_open none goes lv alone way =
      arrive_next m0.top.function base.known m0.cells (length m0.below) m0.top.registers m0.top.pc i d m0.cells (λ r is. inl (is, kept_open r)) none goes lv (suc m0.top.pc) (next_zero m0.top.pc _ alone) (subst (λ ws. list_any (is_pc (suc m0.top.pc)) ws ≡ true) (sym way) (first_way (suc m0.top.pc) (next_pc m0.top.function m0.top.pc i) [] (sym (next_zero m0.top.pc _ alone))))

  -- R(A) is there, of a word that names it first
  pub first_there : (i : Instr) (a : ℕ) (rest : List ℕ) → DoingOf i → names i.op i ≡ a ∷ rest → a < length m0.top.registers
  first_there i a rest d is = reach_head _ a rest (subst (λ xs. reaches (length m0.top.registers) xs ≡ false) is (names_ok i d))

  second_there : (i : Instr) (a b : ℕ) (rest : List ℕ) → DoingOf i → names i.op i ≡ a ∷ b ∷ rest → b < length m0.top.registers
  second_there i a b rest d is = reach_head _ b rest (reach_tail _ a (b ∷ rest) (subst (λ xs. reaches (length m0.top.registers) xs ≡ false) is (names_ok i d)))

  constant_is : (k : ℕ) → k < length (own m0.top.function).constants → (v : Datum) × (constant m0 k ≡ Some v)
  constant_is k there = let c = get_some (own m0.top.function).constants k there in (value_of c.0, ap (λ o. option_map value_of o) c.1)

  -- the first and the second operand of a word with two
  first_operand : (i : Instr) (x y : ℕ) → DoingOf i → operands i.op i ≡ x ∷ y ∷ [] → constants_of i.op i ≡ less (x ∷ y ∷ []) → (v : Datum) × (operand m0 x ≡ Some v)
  first_operand i x y d is ks =
      operand_is m0 x (filter_head (length m0.top.registers) (λ z. nat_lt z 256) x (y ∷ []) (subst (λ xs. reaches (length m0.top.registers) (filter (λ z. nat_lt z 256) xs) ≡ false) is (operands_ok i d))) (less_head (length (own m0.top.function).constants) x (y ∷ []) (subst (λ xs. reaches (length (own m0.top.function).constants) xs ≡ false) ks (constants_ok i d)))

  second_operand : (i : Instr) (x y : ℕ) → DoingOf i → operands i.op i ≡ x ∷ y ∷ [] → constants_of i.op i ≡ less (x ∷ y ∷ []) → (v : Datum) × (operand m0 y ≡ Some v)
  second_operand i x y d is ks =
      operand_is m0 y (filter_head (length m0.top.registers) (λ z. nat_lt z 256) y [] (filter_tail (length m0.top.registers) (λ z. nat_lt z 256) x (y ∷ []) (subst (λ xs. reaches (length m0.top.registers) (filter (λ z. nat_lt z 256) xs) ≡ false) is (operands_ok i d)))) (less_head (length (own m0.top.function).constants) y [] (less_tail (length (own m0.top.function).constants) x (y ∷ []) (subst (λ xs. reaches (length (own m0.top.function).constants) xs ≡ false) ks (constants_ok i d))))

  only_operand : (i : Instr) (x : ℕ) → DoingOf i → operands i.op i ≡ x ∷ [] → constants_of i.op i ≡ less (x ∷ []) → (v : Datum) × (operand m0 x ≡ Some v)
  only_operand i x d is ks =
      operand_is m0 x (filter_head (length m0.top.registers) (λ z. nat_lt z 256) x [] (subst (λ xs. reaches (length m0.top.registers) (filter (λ z. nat_lt z 256) xs) ≡ false) is (operands_ok i d))) (less_head (length (own m0.top.function).constants) x [] (subst (λ xs. reaches (length (own m0.top.function).constants) xs ≡ false) ks (constants_ok i d)))

  -- the name of a global
  name_is : (k : ℕ) → k < length (own m0.top.function).constants → is_no_text (slice_get (own m0.top.function).constants k) ≡ false → (t : List ℕ) × (global_name m0 k ≡ Some t)
  name_is k there text_is =
      let c = get_some (own m0.top.function).constants k there in
      let named = go c.0 (subst (λ o. is_no_text o ≡ false) c.1 text_is) in
      (named.0, ap (λ o. option_and_then name_of (option_map value_of o)) c.1 ∙ named.1)
    where
      go : (c : Constant) → is_no_text (Some c) ≡ false → (t : List ℕ) × (name_of (value_of c) ≡ Some t)
      go (Constant.Text t) e = (t, refl)
      go Constant.Nil e = absurd (true≢false e)
      go (Constant.Bool b) e = absurd (true≢false e)
      go (Constant.Number n) e = absurd (true≢false e)

  -- ---- words to a register

  pub move_fine : (a b c bx : ℕ) (sbx : ℤ) → DoingOf (word Op.Move a b c bx sbx) → Fine (effect Op.Move m (word Op.Move a b c bx sbx))
  move_fine a b c bx sbx d =
      let v = get_some m0.top.registers b (second_there (word Op.Move a b c bx sbx) a b [] d refl) in
      need_fine (register m b) v.0 _ v.1 (set_fine m base a v.0 (first_there (word Op.Move a b c bx sbx) a (b ∷ []) d refl) (step_next (word Op.Move a b c bx sbx) d (λ r. refl) (λ x. refl) refl refl refl refl))

  pub loadk_fine : (a b c bx : ℕ) (sbx : ℤ) → DoingOf (word Op.LoadK a b c bx sbx) → Fine (effect Op.LoadK m (word Op.LoadK a b c bx sbx))
  loadk_fine a b c bx sbx d =
      let i : Instr = word Op.LoadK a b c bx sbx in
      let v = constant_is bx (reach_head _ bx [] (constants_ok (word Op.LoadK a b c bx sbx) d)) in
      need_fine (constant m bx) v.0 _ v.1 (set_fine m base a v.0 (first_there (word Op.LoadK a b c bx sbx) a [] d refl) (step_next (word Op.LoadK a b c bx sbx) d (λ r. refl) (λ x. refl) refl refl refl refl))

  pub getupval_fine : (a b c bx : ℕ) (sbx : ℤ) → DoingOf (word Op.GetUpval a b c bx sbx) → Fine (effect Op.GetUpval m (word Op.GetUpval a b c bx sbx))
  getupval_fine a b c bx sbx d =
      let cell = get_some m0.top.cells b (reach_head _ b [] (upvalues_ok (word Op.GetUpval a b c bx sbx) d)) in
      let v = cell_is_read m base cell.0 (base.named b cell.0 cell.1) in
      need_fine (slice_get m0.top.cells b) cell.0 _ cell.1 (need_fine (read_cell m cell.0) v.0 _ v.1 (set_fine m base a v.0 (first_there (word Op.GetUpval a b c bx sbx) a [] d refl) (step_next (word Op.GetUpval a b c bx sbx) d (λ r. refl) (λ x. refl) refl refl refl refl)))

  pub getglobal_fine : (a b c bx : ℕ) (sbx : ℤ) → DoingOf (word Op.GetGlobal a b c bx sbx) → Fine (effect Op.GetGlobal m (word Op.GetGlobal a b c bx sbx))
  getglobal_fine a b c bx sbx d =
      let name = name_is bx (reach_head _ bx [] (constants_ok (word Op.GetGlobal a b c bx sbx) d)) (name_ok (word Op.GetGlobal a b c bx sbx) d) in
      need_fine (global_name m bx) name.0 _ name.1 (set_fine m base a _ (first_there (word Op.GetGlobal a b c bx sbx) a [] d refl) (step_next (word Op.GetGlobal a b c bx sbx) d (λ r. refl) (λ x. refl) refl refl refl refl))

  pub gettable_fine : (a b c bx : ℕ) (sbx : ℤ) → DoingOf (word Op.GetTable a b c bx sbx) → Fine (effect Op.GetTable m (word Op.GetTable a b c bx sbx))
  gettable_fine a b c bx sbx d =
      let on = get_some m0.top.registers b (second_there (word Op.GetTable a b c bx sbx) a b [] d refl) in
      let key = only_operand (word Op.GetTable a b c bx sbx) c d refl refl in
      need_fine (register m b) on.0 _ on.1 (need_fine (operand m c) key.0 _ key.1 (give_fine m base a (first_there (word Op.GetTable a b c bx sbx) a (b ∷ []) d refl) (step_next (word Op.GetTable a b c bx sbx) d (λ r. refl) (λ x. refl) refl refl refl refl) (index m.store on.0 key.0)))

  pub newtable_fine : (a b c bx : ℕ) (sbx : ℤ) → DoingOf (word Op.NewTable a b c bx sbx) → Fine (effect Op.NewTable m (word Op.NewTable a b c bx sbx))
  newtable_fine a b c bx sbx d =
      set_fine (with_store m (new_table m.store)) base a _ (first_there (word Op.NewTable a b c bx sbx) a [] d refl) (step_next (word Op.NewTable a b c bx sbx) d (λ r. refl) (λ x. refl) refl refl refl refl)

  pub not_fine : (a b c bx : ℕ) (sbx : ℤ) → DoingOf (word Op.Not a b c bx sbx) → Fine (effect Op.Not m (word Op.Not a b c bx sbx))
  not_fine a b c bx sbx d =
      let v = get_some m0.top.registers b (second_there (word Op.Not a b c bx sbx) a b [] d refl) in
      need_fine (register m b) v.0 _ v.1 (set_fine m base a _ (first_there (word Op.Not a b c bx sbx) a (b ∷ []) d refl) (step_next (word Op.Not a b c bx sbx) d (λ r. refl) (λ x. refl) refl refl refl refl))

  pub unm_fine : (a b c bx : ℕ) (sbx : ℤ) → DoingOf (word Op.Unm a b c bx sbx) → Fine (effect Op.Unm m (word Op.Unm a b c bx sbx))
  unm_fine a b c bx sbx d =
      let v = get_some m0.top.registers b (second_there (word Op.Unm a b c bx sbx) a b [] d refl) in
      need_fine (register m b) v.0 _ v.1 (give_fine m base a (first_there (word Op.Unm a b c bx sbx) a (b ∷ []) d refl) (step_next (word Op.Unm a b c bx sbx) d (λ r. refl) (λ x. refl) refl refl refl refl) (negate m.store v.0))

  pub len_fine : (a b c bx : ℕ) (sbx : ℤ) → DoingOf (word Op.Len a b c bx sbx) → Fine (effect Op.Len m (word Op.Len a b c bx sbx))
  len_fine a b c bx sbx d =
      let v = get_some m0.top.registers b (second_there (word Op.Len a b c bx sbx) a b [] d refl) in
      need_fine (register m b) v.0 _ v.1 (give_fine m base a (first_there (word Op.Len a b c bx sbx) a (b ∷ []) d refl) (step_next (word Op.Len a b c bx sbx) d (λ r. refl) (λ x. refl) refl refl refl refl) (size m.store v.0))

  -- the six words of arithmetic are alike
  pub arith_fine : (how : ArithOp) (op : Op) (a b c bx : ℕ) (sbx : ℤ) → DoingOf (word op a b c bx sbx) → names op (word op a b c bx sbx) ≡ a ∷ [] → operands op (word op a b c bx sbx) ≡ b ∷ c ∷ [] → constants_of op (word op a b c bx sbx) ≡ less (b ∷ c ∷ []) → ArrivalOf (suc m0.top.pc) (only a) None → Fine (do_arith how m (word op a b c bx sbx))
  arith_fine how op a b c bx sbx d named ops ks arrival =
      let x = first_operand (word op a b c bx sbx) b c d ops ks in
      let y = second_operand (word op a b c bx sbx) b c d ops ks in
      need_fine (operand m b) x.0 _ x.1 (need_fine (operand m c) y.0 _ y.1 (give_fine m base a (first_there (word op a b c bx sbx) a [] d named) arrival (arith_of m.store how x.0 y.0)))

  pub concat_fine : (a b c bx : ℕ) (sbx : ℤ) → DoingOf (word Op.Concat a b c bx sbx) → Fine (effect Op.Concat m (word Op.Concat a b c bx sbx))
  concat_fine a b c bx sbx d =
      let order : nat_lt b c ≡ true = order_ok (word Op.Concat a b c bx sbx) d in
      let low : b < c = ltb-true b c order in
      let there : c < length m0.top.registers = reach_head _ c [] (reach_tail _ b (c ∷ []) (reach_tail _ a (b ∷ c ∷ []) (names_ok (word Op.Concat a b c bx sbx) d))) in
      let v = get_some m0.top.registers c there in
      check_fine (nat_lt b c) _ order (need_fine (register m c) v.0 _ v.1 (join_fine (c - b) m base a b (first_there (word Op.Concat a b c bx sbx) a (b ∷ c ∷ []) d refl) (omega arith) (step_next (word Op.Concat a b c bx sbx) d (λ r. refl) (λ x. refl) refl refl refl refl) v.0))

  -- ---- words whose answer goes nowhere

  pub setglobal_fine : (a b c bx : ℕ) (sbx : ℤ) → DoingOf (word Op.SetGlobal a b c bx sbx) → Fine (effect Op.SetGlobal m (word Op.SetGlobal a b c bx sbx))
  setglobal_fine a b c bx sbx d =
      let name = name_is bx (reach_head _ bx [] (constants_ok (word Op.SetGlobal a b c bx sbx) d)) (name_ok (word Op.SetGlobal a b c bx sbx) d) in
      let v = get_some m0.top.registers a (first_there (word Op.SetGlobal a b c bx sbx) a [] d refl) in
      need_fine (global_name m bx) name.0 _ name.1 (need_fine (register m a) v.0 _ v.1 (land_fine nowhere (with_store m (with_global m.store name.0 v.0)) base (step_next (word Op.SetGlobal a b c bx sbx) d (λ r. refl) (λ x. refl) refl refl refl refl) []))

  pub setupval_fine : (a b c bx : ℕ) (sbx : ℤ) → DoingOf (word Op.SetUpval a b c bx sbx) → Fine (effect Op.SetUpval m (word Op.SetUpval a b c bx sbx))
  setupval_fine a b c bx sbx d =
      let v = get_some m0.top.registers a (first_there (word Op.SetUpval a b c bx sbx) a [] d refl) in
      let cell = get_some m0.top.cells b (reach_head _ b [] (upvalues_ok (word Op.SetUpval a b c bx sbx) d)) in
      need_fine (register m a) v.0 _ v.1 (need_fine (slice_get m0.top.cells b) cell.0 _ cell.1 (write_cell_fine m base (step_next (word Op.SetUpval a b c bx sbx) d (λ r. refl) (λ x. refl) refl refl refl refl) cell.0 (base.named b cell.0 cell.1) v.0))

  pub settable_fine : (a b c bx : ℕ) (sbx : ℤ) → DoingOf (word Op.SetTable a b c bx sbx) → Fine (effect Op.SetTable m (word Op.SetTable a b c bx sbx))
  settable_fine a b c bx sbx d =
      let on = get_some m0.top.registers a (first_there (word Op.SetTable a b c bx sbx) a [] d refl) in
      let key = first_operand (word Op.SetTable a b c bx sbx) b c d refl refl in
      let v = second_operand (word Op.SetTable a b c bx sbx) b c d refl refl in
      need_fine (register m a) on.0 _ on.1 (need_fine (operand m b) key.0 _ key.1 (need_fine (operand m c) v.0 _ v.1 (give_nowhere_fine (with_store m (set_index m.store on.0 key.0 v.0).1) base (step_next (word Op.SetTable a b c bx sbx) d (λ r. refl) (λ x. refl) refl refl refl refl) (set_index m.store on.0 key.0 v.0).0)))

  -- ---- SELF

  pub self_fine : (a b c bx : ℕ) (sbx : ℤ) → DoingOf (word Op.Self_ a b c bx sbx) → Fine (effect Op.Self_ m (word Op.Self_ a b c bx sbx))
  self_fine a b c bx sbx d =
      let on = get_some m0.top.registers b (second_there (word Op.Self_ a b c bx sbx) (suc a) b [] d refl) in
      let next_there : suc a < length m0.top.registers = first_there (word Op.Self_ a b c bx sbx) (suc a) (b ∷ []) d refl in
      let old = get_some m0.top.registers (suc a) next_there in
      let len : length (slice_set m0.top.registers (suc a) on.0) ≡ length m0.top.registers = length-set m0.top.registers (suc a) on.0 in
      let key = operand_is (with_registers m (slice_set m0.top.registers (suc a) on.0)) c (λ e. subst (λ n. c < n) (sym len) (filter_head (length m0.top.registers) (λ z. nat_lt z 256) c [] (operands_ok (word Op.Self_ a b c bx sbx) d) e)) (less_head (length (own m0.top.function).constants) c [] (constants_ok (word Op.Self_ a b c bx sbx) d)) in
      need_fine (register m b) on.0 _ on.1 (need_fine (register m (suc a)) old.0 _ old.1 (need_fine (operand (with_registers m (slice_set m0.top.registers (suc a) on.0)) c) key.0 _ key.1 (
      give_fine (with_registers m (slice_set m0.top.registers (suc a) on.0)) (base_registers m0.top.function m0.top.cells m0.top.registers (slice_set m0.top.registers (suc a) on.0) m0.top.landing m0.below m0.cells m0.closures base len) a (let there = next_there in omega arith) (
      arrival_part m0.top.function base.known.notes m0.cells (length m0.below) m0.top.registers (suc m0.top.pc) (is_among a 2) (only a) None (slice_set m0.top.registers (suc a) on.0) (step_next (word Op.Self_ a b c bx sbx) d (λ r. refl) (λ x. refl) refl refl refl refl) len (λ r e. set_other m0.top.registers (suc a) r on.0 (λ same. not_among a 2 r e (omega arith) (omega arith))) (λ r e. ne_eqb a r (λ same. not_among a 2 r e (omega arith) (omega arith)))) (index m.store on.0 key.0))))

  -- ---- jumps and tests

  jump_fine : (i : Instr) → DoingOf i → (t : ℕ) → target m0.top.pc i.sbx ≡ Some t → ArrivalOf t nothing None → Fine (jump m i.sbx)
  jump_fine i d t is arrival =
      need_fine (as_pc (pos (suc m0.top.pc) +ℤ i.sbx)) t _ is (land_fine nowhere (at_pc m t) base arrival [])

  pub jmp_fine : (a b c bx : ℕ) (sbx : ℤ) → DoingOf (word Op.Jmp a b c bx sbx) → Fine (effect Op.Jmp m (word Op.Jmp a b c bx sbx))
  jmp_fine a b c bx sbx d =
      let to : Target m0.top.function (target m0.top.pc sbx) = first_target m0.top.function base.known m0.top.pc (word Op.Jmp a b c bx sbx) d.solid d.at (target m0.top.pc sbx) [] refl in
      jump_fine (word Op.Jmp a b c bx sbx) d to.0 to.1 (arrive_at m0.top.function base.known m0.cells (length m0.below) m0.top.registers m0.top.pc (word Op.Jmp a b c bx sbx) d m0.cells (λ r is. inl (is, refl)) (λ x. refl) to.0 to.2 to.3 (subst (λ o. list_any (is_pc to.0) (o ∷ []) ≡ true) (sym to.1) (first_way to.0 to.0 [] refl)))

  -- behind a test that closes, prepares and leaves nothing
  pub test_ways_of : (i : Instr) → DoingOf i → ((r : ℕ) → closes i.op i r ≡ false) → ((a : ℕ) → prepares i.op i a ≡ false) → is_test i.op ≡ true → belonging_to (functions m0.top.function) i.op i ≡ 0 → jumps m0.top.pc i ≡ Some (suc (suc m0.top.pc)) ∷ [] → ways m0.top.function m0.top.pc i ≡ test_ways m0.top.pc (jmp_at m0.top.function (suc m0.top.pc)) → Branches m0.top.function base.known.notes m0.cells (length m0.below) m0.top.registers (suc m0.top.pc) (writes i.op i)
  test_ways_of i d kept_open none tests alone skips_is ways_are =
      arrive_test m0.top.function base.known m0.cells (length m0.below) m0.top.registers m0.top.pc i d (λ r is. inl (is, kept_open r)) none tests alone skips_is ways_are

  pub compare_fine : (how : CompareOp) (op : Op) (a b c bx : ℕ) (sbx : ℤ) → DoingOf (word op a b c bx sbx) → operands op (word op a b c bx sbx) ≡ b ∷ c ∷ [] → constants_of op (word op a b c bx sbx) ≡ less (b ∷ c ∷ []) → Branches m0.top.function base.known.notes m0.cells (length m0.below) m0.top.registers (suc m0.top.pc) nothing → Fine (do_compare how m (word op a b c bx sbx))
  compare_fine how op a b c bx sbx d ops ks ways_are =
      let x = first_operand (word op a b c bx sbx) b c d ops ks in
      let y = second_operand (word op a b c bx sbx) b c d ops ks in
      need_fine (next_jmp m) ways_are.s _ ways_are.jmp (need_fine (operand m b) x.0 _ x.1 (need_fine (operand m c) y.0 _ y.1 (give_test_fine m base a ways_are (compare m.store how x.0 y.0))))

  pub test_fine : (a b c bx : ℕ) (sbx : ℤ) → DoingOf (word Op.Test a b c bx sbx) → Fine (effect Op.Test m (word Op.Test a b c bx sbx))
  test_fine a b c bx sbx d =
      let v = get_some m0.top.registers a (first_there (word Op.Test a b c bx sbx) a [] d refl) in
      need_fine (register m a) v.0 _ v.1 (branch_fine m base nothing (test_ways_of (word Op.Test a b c bx sbx) d (λ r. refl) (λ x. refl) refl refl refl refl) _)

  pub testset_fine : (a b c bx : ℕ) (sbx : ℤ) → DoingOf (word Op.TestSet a b c bx sbx) → Fine (effect Op.TestSet m (word Op.TestSet a b c bx sbx))
  testset_fine a b c bx sbx d =
      let v = get_some m0.top.registers b (second_there (word Op.TestSet a b c bx sbx) a b [] d refl) in
      let old = get_some m0.top.registers a (first_there (word Op.TestSet a b c bx sbx) a (b ∷ []) d refl) in
      let ways_are : Branches m0.top.function base.known.notes m0.cells (length m0.below) m0.top.registers (suc m0.top.pc) (only a) = test_ways_of (word Op.TestSet a b c bx sbx) d (λ r. refl) (λ x. refl) refl refl refl refl in
      need_fine (next_jmp m) ways_are.s _ ways_are.jmp (need_fine (register m b) v.0 _ v.1 (cond_fine (truth_field (not (is_true v.0)) == c) _ _ (
      branch_fine m base (only a) ways_are false) (
      need_fine (register m a) old.0 _ old.1 (
      branch_fine (with_registers m (slice_set m0.top.registers a v.0)) (base_registers m0.top.function m0.top.cells m0.top.registers (slice_set m0.top.registers a v.0) m0.top.landing m0.below m0.cells m0.closures base (length-set m0.top.registers a v.0)) nothing (branches_written m0.top.function base.known.notes m0.cells (length m0.below) m0.top.registers (suc m0.top.pc) (only a) (slice_set m0.top.registers a v.0) ways_are (length-set m0.top.registers a v.0) (λ r e. set_other m0.top.registers a r v.0 (not_eqb a r e))) true))))

  -- ---- calls

  call_arrival : (a b c bx : ℕ) (sbx : ℤ) → DoingOf (word Op.Call a b c bx sbx) → Awaits m0.top.function base.known.notes m0.cells (length m0.below) m0.top.registers (suc m0.top.pc) (landing_of a (count_of c))
  call_arrival a b zero bx sbx d =
      let there : a + pred b < length m0.top.registers = first_there (word Op.Call a b 0 bx sbx) (a + pred b) _ d refl in
      (omega arith, arrival_less m0.top.function base.known.notes m0.cells (length m0.below) m0.top.registers (suc m0.top.pc) (writes Op.Call (word Op.Call a b 0 bx sbx)) nothing (Some a) (λ r e. refl) (arrive_open m0.top.function base.known m0.cells (length m0.below) m0.top.registers m0.top.pc (word Op.Call a b 0 bx sbx) d (λ r is. inl (is, refl)) (λ x. refl) refl a (omega arith) refl (sym (next_zero m0.top.pc 0 refl)) (first_way (suc m0.top.pc) (next_pc m0.top.function m0.top.pc (word Op.Call a b 0 bx sbx)) [] (sym (next_zero m0.top.pc 0 refl)))))
  call_arrival a b (suc n) bx sbx d =
      let last : a + (suc n - 2) < length m0.top.registers = second_there (word Op.Call a b (suc n) bx sbx) (a + pred b) (a + (suc n - 2)) [] d refl in
      (λ some. omega arith, arrival_less m0.top.function base.known.notes m0.cells (length m0.below) m0.top.registers (suc m0.top.pc) (writes Op.Call (word Op.Call a b (suc n) bx sbx)) (is_among a n) None (λ r e. call_writes a n r e) (step_next (word Op.Call a b (suc n) bx sbx) d (λ r. refl) (λ x. refl) refl (ap (λ t. cond t (Some a) None) (suc_is_not_zero n)) refl refl))

  pub call_word_fine : (a b c bx : ℕ) (sbx : ℤ) → DoingOf (word Op.Call a b c bx sbx) → Met (length m0.top.registers) (wants Op.Call (word Op.Call a b c bx sbx)) (left_of m0.top.results) → Fine (effect Op.Call m (word Op.Call a b c bx sbx))
  call_word_fine a b c bx sbx d met =
      let there : a + pred b < length m0.top.registers = first_there (word Op.Call a b c bx sbx) (a + pred b) _ d refl in
      let f = get_some m0.top.registers a (omega arith) in
      need_fine (register m a) f.0 _ f.1 (counted_fine m (suc a) b (λ n e some. let same : pred b ≡ n = ap pred e in omega arith) (λ e. subst (λ k. Met (length m0.top.registers) (cond (k == 0) (Some (suc a)) None) (left_of m0.top.results)) e met) _ (λ results args. call_fine (landing_of a (count_of c)) (with_results m results) base (call_arrival a b c bx sbx d) f.0 args))

  pub tailcall_fine : (a b c bx : ℕ) (sbx : ℤ) → DoingOf (word Op.TailCall a b c bx sbx) → Met (length m0.top.registers) (wants Op.TailCall (word Op.TailCall a b c bx sbx)) (left_of m0.top.results) → Fine (effect Op.TailCall m (word Op.TailCall a b c bx sbx))
  tailcall_fine a b c bx sbx d met =
      let there : a + pred b < length m0.top.registers = first_there (word Op.TailCall a b c bx sbx) (a + pred b) _ d refl in
      let f = get_some m0.top.registers a (omega arith) in
      need_fine (register m a) f.0 _ f.1 (counted_fine m (suc a) b (λ n e some. let same : pred b ≡ n = ap pred e in omega arith) (λ e. subst (λ k. Met (length m0.top.registers) (cond (k == 0) (Some (suc a)) None) (left_of m0.top.results)) e met) _ (λ results args. tail_call_fine a (with_results m results) base (omega arith, arrive_open m0.top.function base.known m0.cells (length m0.below) m0.top.registers m0.top.pc (word Op.TailCall a b c bx sbx) d (λ r is. inl (is, refl)) (λ x. refl) refl a (omega arith) refl (sym (next_zero m0.top.pc 0 refl)) (first_way (suc m0.top.pc) (next_pc m0.top.function m0.top.pc (word Op.TailCall a b c bx sbx)) [] (sym (next_zero m0.top.pc 0 refl)))) f.0 args))

  pub return_fine : (a b c bx : ℕ) (sbx : ℤ) → DoingOf (word Op.Return a b c bx sbx) → Met (length m0.top.registers) (wants Op.Return (word Op.Return a b c bx sbx)) (left_of m0.top.results) → Fine (effect Op.Return m (word Op.Return a b c bx sbx))
  return_fine a b c bx sbx d met =
      let there : a + (b - 2) < length m0.top.registers = first_there (word Op.Return a b c bx sbx) (a + (b - 2)) _ d refl in
      counted_fine m a b (λ n e some. omega arith) (λ e. subst (λ k. Met (length m0.top.registers) (cond (k == 0) (Some a) None) (left_of m0.top.results)) e met) leave (λ results vs. leave_fine (with_results m results) base vs)

  pub vararg_fine : (a b c bx : ℕ) (sbx : ℤ) → DoingOf (word Op.Vararg a b c bx sbx) → Fine (effect Op.Vararg m (word Op.Vararg a b c bx sbx))
  vararg_fine a zero c bx sbx d =
      let there : a + (0 - 2) < length m0.top.registers = first_there (word Op.Vararg a 0 c bx sbx) (a + (0 - 2)) [] d refl in
      record {
        base = base;
        ready = arrival_less m0.top.function base.known.notes m0.cells (length m0.below) m0.top.registers (suc m0.top.pc) (writes Op.Vararg (word Op.Vararg a 0 c bx sbx)) nothing (Some a) (λ r e. refl) (arrive_open m0.top.function base.known m0.cells (length m0.below) m0.top.registers m0.top.pc (word Op.Vararg a 0 c bx sbx) d (λ r is. inl (is, refl)) (λ x. refl) refl a (omega arith) refl (sym (next_zero m0.top.pc 0 refl)) (first_way (suc m0.top.pc) (next_pc m0.top.function m0.top.pc (word Op.Vararg a 0 c bx sbx)) [] (sym (next_zero m0.top.pc 0 refl))));
      }
  vararg_fine a (suc n) c bx sbx d =
      set_all_fine m base a n (adjusted n m0.top.extra) (length-adjusted n m0.top.extra) (λ some.
      let there : a + (suc n - 2) < length m0.top.registers = first_there (word Op.Vararg a (suc n) c bx sbx) (a + (suc n - 2)) [] d (ap (λ t. cond t [] ((a + (suc n - 2)) ∷ [])) (ne_eqb (suc n) 1 (λ e. omega arith))) in
      omega arith) (arrival_less m0.top.function base.known.notes m0.cells (length m0.below) m0.top.registers (suc m0.top.pc) (writes Op.Vararg (word Op.Vararg a (suc n) c bx sbx)) (is_among a n) None (λ r e. call_writes a n r e) (step_next (word Op.Vararg a (suc n) c bx sbx) d (λ r. refl) (λ x. refl) refl (ap (λ t. cond t (Some a) None) (suc_is_not_zero n)) refl refl))

  -- ---- the other words that go to one register or several

  pub loadbool_fine : (a b c bx : ℕ) (sbx : ℤ) → DoingOf (word Op.LoadBool a b c bx sbx) → Fine (effect Op.LoadBool m (word Op.LoadBool a b c bx sbx))
  loadbool_fine a b c bx sbx d = go (c == 0) refl
    where
      go : (t : Bool) → (c == 0) ≡ t → Fine (set (cond t m (skip m)) a (boolean (not (b == 0))))
      go true e =
          set_fine m base a (boolean (not (b == 0))) (first_there (word Op.LoadBool a b c bx sbx) a [] d refl) (arrive_next m0.top.function base.known m0.cells (length m0.below) m0.top.registers m0.top.pc (word Op.LoadBool a b c bx sbx) d m0.cells (λ r is. inl (is, refl)) (λ x. refl) refl refl (suc m0.top.pc) (next_zero m0.top.pc 0 refl) (first_way (suc m0.top.pc) (cond (c == 0) (suc m0.top.pc) (suc (suc m0.top.pc))) [] (ap (λ t. cond t (suc m0.top.pc) (suc (suc m0.top.pc))) e)))
      go false e =
          let to : Target m0.top.function (Some (suc (suc m0.top.pc))) = first_target m0.top.function base.known m0.top.pc (word Op.LoadBool a b c bx sbx) d.solid d.at (Some (suc (suc m0.top.pc))) [] (ap (λ t. cond t [] (Some (suc (suc m0.top.pc)) ∷ [])) e) in
          let same : suc (suc m0.top.pc) ≡ to.0 = some_one _ _ to.1 in
          set_fine (skip m) base a (boolean (not (b == 0))) (first_there (word Op.LoadBool a b c bx sbx) a [] d refl) (arrive_at m0.top.function base.known m0.cells (length m0.below) m0.top.registers m0.top.pc (word Op.LoadBool a b c bx sbx) d m0.cells (λ r is. inl (is, refl)) (λ x. refl) (suc (suc m0.top.pc)) (subst (λ t. is_place m0.top.function (Some t) ≡ true) (sym same) to.2) (subst (λ t. wanted_at m0.top.function t ≡ None) (sym same) to.3) (first_way (suc (suc m0.top.pc)) (cond (c == 0) (suc m0.top.pc) (suc (suc m0.top.pc))) [] (ap (λ t. cond t (suc m0.top.pc) (suc (suc m0.top.pc))) e)))

  pub loadnil_fine : (a b c bx : ℕ) (sbx : ℤ) → DoingOf (word Op.LoadNil a b c bx sbx) → Fine (effect Op.LoadNil m (word Op.LoadNil a b c bx sbx))
  loadnil_fine a b c bx sbx d =
      let order : nat_le a b ≡ true = order_ok (word Op.LoadNil a b c bx sbx) d in
      let low : a ≤ b = leb-true a b order in
      let high : b < length m0.top.registers = second_there (word Op.LoadNil a b c bx sbx) a b [] d refl in
      set_all_fine m base a (suc b - a) (replicate (suc b - a) nil) (length-replicate (suc b - a) nil) (λ some. omega arith) (
      arrival_less m0.top.function base.known.notes m0.cells (length m0.below) m0.top.registers (suc m0.top.pc) (is_from_to a b) (is_among a (suc b - a)) None (λ r e. false_from_ne_true (is_among a (suc b - a) r) (λ h.
      let l : a ≤ r = leb-true a r (and_first (nat_le a r) (nat_lt r (a + (suc b - a))) h) in
      let u : r < a + (suc b - a) = ltb-true r (a + (suc b - a)) (and_second (nat_le a r) (nat_lt r (a + (suc b - a))) h) in
      not_from_to a b r e l (omega arith))) (step_next (word Op.LoadNil a b c bx sbx) d (λ r. refl) (λ x. refl) refl refl refl refl))

  pub tforloop_fine : (a b c bx : ℕ) (sbx : ℤ) → DoingOf (word Op.TForLoop a b c bx sbx) → Fine (effect Op.TForLoop m (word Op.TForLoop a b c bx sbx))
  tforloop_fine a b c bx sbx d =
      let far : a + 5 < length m0.top.registers = first_there (word Op.TForLoop a b c bx sbx) (a + 5) _ d refl in
      let last : a + 2 + c < length m0.top.registers = second_there (word Op.TForLoop a b c bx sbx) (a + 5) (a + 2 + c) [] d refl in
      let f = get_some m0.top.registers a (omega arith) in
      let state = get_some m0.top.registers (a + 1) (omega arith) in
      let control = get_some m0.top.registers (a + 2) (omega arith) in
      let ways_are : Branches m0.top.function base.known.notes m0.cells (length m0.below) m0.top.registers (suc m0.top.pc) (is_from_to (a + 2) (a + 2 + c)) = test_ways_of (word Op.TForLoop a b c bx sbx) d (λ r. refl) (λ x. refl) refl refl refl refl in
      need_fine (next_jmp m) ways_are.s _ ways_are.jmp (need_fine (register m a) f.0 _ f.1 (need_fine (register m (a + 1)) state.0 _ state.1 (need_fine (register m (a + 2)) control.0 _ control.1 (
      call_fine (turn a c) m base (omega arith, omega arith, ways_are) f.0 (state.0 ∷ control.0 ∷ [])))))

  -- ---- SETLIST and CLOSE

  do_setlist_fine : (a b c bx : ℕ) (sbx : ℤ) → DoingOf (word Op.SetList a b c bx sbx) → Met (length m0.top.registers) (wants Op.SetList (word Op.SetList a b c bx sbx)) (left_of m0.top.results) → (pc block : ℕ) → ArrivalOf pc nothing None → Fine (do_setlist (at_pc m0 pc) (word Op.SetList a b c bx sbx) block)
  do_setlist_fine a b c bx sbx d met pc block arrival =
      let last : a + b < length m0.top.registers = first_there (word Op.SetList a b c bx sbx) (a + b) [] d refl in
      let t = get_some m0.top.registers a (omega arith) in
      need_fine (register (at_pc m0 pc) a) t.0 _ t.1 (go (b == 0) met last t.0)
    where
      go : (z : Bool) → Met (length m0.top.registers) (cond z (Some (suc a)) None) (left_of m0.top.results) → a + b < length m0.top.registers → (t : Datum) → Fine (listed (at_pc m0 pc) (suc a) (cond z None (Some b)) (λ m1 vs. set_list m1 block t vs))
      go true met1 last t = open_list_fine (at_pc m0 pc) (suc a) m0.top.results met1 (λ m1 vs. set_list m1 block t vs) (λ results vs. set_list_fine (with_results (at_pc m0 pc) results) base arrival block t vs)
      go false met1 last t = need_fine (span (at_pc m0 pc) (suc a) b) (take b (drop (suc a) m0.top.registers)) (λ vs. set_list (at_pc m0 pc) block t vs) (span_is (at_pc m0 pc) (suc a) b (λ some. omega arith)) (set_list_fine (at_pc m0 pc) base arrival block t (take b (drop (suc a) m0.top.registers)))

  pub setlist_fine : (a b c bx : ℕ) (sbx : ℤ) → DoingOf (word Op.SetList a b c bx sbx) → Met (length m0.top.registers) (wants Op.SetList (word Op.SetList a b c bx sbx)) (left_of m0.top.results) → Fine (effect Op.SetList m (word Op.SetList a b c bx sbx))
  setlist_fine a b c bx sbx d met = go (c == 0) refl
    where
      arrival : (n : ℕ) → cond (c == 0) 1 0 ≡ n → (t : ℕ) → t ≡ suc m0.top.pc + n → ArrivalOf t nothing None
      arrival n e t is =
          arrive_next m0.top.function base.known m0.cells (length m0.below) m0.top.registers m0.top.pc (word Op.SetList a b c bx sbx) d m0.cells (λ r h. inl (h, refl)) (λ x. refl) refl refl t (is ∙ ap (λ k. suc m0.top.pc + k) (sym e)) (first_way t (next_pc m0.top.function m0.top.pc (word Op.SetList a b c bx sbx)) [] (sym (is ∙ ap (λ k. suc m0.top.pc + k) (sym e))))

      go : (z : Bool) → (c == 0) ≡ z → Fine (cond z (need (slice_get (own m0.top.function).code (suc m0.top.pc)) (λ block. do_setlist (skip m) (word Op.SetList a b c bx sbx) block)) (do_setlist m (word Op.SetList a b c bx sbx) c))
      go true e =
          let next : ArrivalOf (suc (suc m0.top.pc)) nothing None = arrival 1 (ap (λ z. cond z 1 0) e) (suc (suc m0.top.pc)) (omega arith) in
          let low : suc (suc m0.top.pc) < length (own m0.top.function).code = ltb-true _ _ (and_first _ _ next.place) in
          let w = get_some (own m0.top.function).code (suc m0.top.pc) (omega arith) in
          need_fine (slice_get (own m0.top.function).code (suc m0.top.pc)) w.0 _ w.1 (do_setlist_fine a b c bx sbx d met (suc (suc m0.top.pc)) w.0 next)
      go false e = do_setlist_fine a b c bx sbx d met (suc m0.top.pc) c (arrival 0 (ap (λ z. cond z 1 0) e) (suc m0.top.pc) (omega arith))

  pub close_fine : (a b c bx : ℕ) (sbx : ℤ) → DoingOf (word Op.Close a b c bx sbx) → Fine (effect Op.Close m (word Op.Close a b c bx sbx))
  close_fine a b c bx sbx d = record {
    base = base_closed m a base;
    ready = arrival_any m0.top.function base.known.notes (close_from m a).cells (length m0.below) m0.top.registers (suc m0.top.pc) nothing (left_of m0.top.results) (
        arrive_next m0.top.function base.known m0.cells (length m0.below) m0.top.registers m0.top.pc (word Op.Close a b c bx sbx) d (close_from m a).cells (λ r is. let was = closed_opens (length m0.below) a m0.top.registers m0.cells (length m0.below) r is in inl (was.0, lt-leb a r (was.1 refl))) (λ x. refl) refl refl (suc m0.top.pc) (next_zero m0.top.pc 0 refl) (first_way (suc m0.top.pc) (next_pc m0.top.function m0.top.pc (word Op.Close a b c bx sbx)) [] (sym (next_zero m0.top.pc 0 refl))));
  }

  -- ---- numeric loops

  numbers_ok : (a b c bx : ℕ) (sbx : ℤ) (d : DoingOf (word Op.ForLoop a b c bx sbx)) → d.note.loops a ≡ true
  numbers_ok a b c bx sbx d =
      not_false (d.note.loops a) (subst (λ o. breaks_numbers o Op.ForLoop (word Op.ForLoop a b c bx sbx) ≡ false) d.noted (keeps (word Op.ForLoop a b c bx sbx) d Rule.LoopNumbers refl))

  loop_number_is : (r : ℕ) → (n : IsNumber m0.top.registers r) → loop_number m0 r ≡ Some n.0
  loop_number_is r n = ap (λ o. option_and_then number_of o) n.1

  turn_fine : (a b c bx : ℕ) (sbx : ℤ) (d : DoingOf (word Op.ForLoop a b c bx sbx)) (now : ℤ) (t : Bool) → Fine (turn_loop (with_registers m (slice_set m0.top.registers a (number now))) (word Op.ForLoop a b c bx sbx) now t)
  turn_fine a b c bx sbx d now true =
      let far : a + 3 < length m0.top.registers = first_there (word Op.ForLoop a b c bx sbx) (a + 3) [] d refl in
      let len1 : length (slice_set m0.top.registers a (number now)) ≡ length m0.top.registers = length-set m0.top.registers a (number now) in
      let len2 : length (slice_set (slice_set m0.top.registers a (number now)) (a + 3) (number now)) ≡ length m0.top.registers = length-set (slice_set m0.top.registers a (number now)) (a + 3) (number now) ∙ len1 in
      let old = get_some (slice_set m0.top.registers a (number now)) (a + 3) (omega arith) in
      let to : Target m0.top.function (target m0.top.pc sbx) = first_target m0.top.function base.known m0.top.pc (word Op.ForLoop a b c bx sbx) d.solid d.at (target m0.top.pc sbx) [] refl in
      let arrival : ArrivalOf to.0 (only (a + 3)) None = arrive_at m0.top.function base.known m0.cells (length m0.below) m0.top.registers m0.top.pc (word Op.ForLoop a b c bx sbx) d m0.cells (λ r is. inl (is, refl)) (λ x. refl) to.0 to.2 to.3 (subst (λ o. list_any (is_pc to.0) (o ∷ Some (suc m0.top.pc) ∷ []) ≡ true) (sym to.1) (first_way to.0 to.0 (Some (suc m0.top.pc) ∷ []) refl)) in
      need_fine (register (with_registers m (slice_set m0.top.registers a (number now))) (a + 3)) old.0 _ old.1 (
      need_fine (as_pc (pos (suc m0.top.pc) +ℤ sbx)) to.0 _ to.1 (
      land_fine nowhere (at_pc (with_registers m (slice_set (slice_set m0.top.registers a (number now)) (a + 3) (number now))) to.0) (base_registers m0.top.function m0.top.cells m0.top.registers (slice_set (slice_set m0.top.registers a (number now)) (a + 3) (number now)) m0.top.landing m0.below m0.cells m0.closures base len2) (
      arrival_part m0.top.function base.known.notes m0.cells (length m0.below) (slice_set m0.top.registers a (number now)) to.0 (only (a + 3)) nothing None (slice_set (slice_set m0.top.registers a (number now)) (a + 3) (number now)) (
      arrival_number m0.top.function base.known.notes m0.cells (length m0.below) m0.top.registers to.0 (only (a + 3)) None a now (omega arith) arrival) (length-set (slice_set m0.top.registers a (number now)) (a + 3) (number now)) (λ r e. set_other (slice_set m0.top.registers a (number now)) (a + 3) r (number now) (not_eqb (a + 3) r e)) (λ r e. refl)) []))
  turn_fine a b c bx sbx d now false =
      let far : a + 3 < length m0.top.registers = first_there (word Op.ForLoop a b c bx sbx) (a + 3) [] d refl in
      let arrival : ArrivalOf (suc m0.top.pc) (only (a + 3)) None = arrive_next m0.top.function base.known m0.cells (length m0.below) m0.top.registers m0.top.pc (word Op.ForLoop a b c bx sbx) d m0.cells (λ r is. inl (is, refl)) (λ x. refl) refl refl (suc m0.top.pc) (next_zero m0.top.pc 0 refl) (second_way (suc m0.top.pc) (target m0.top.pc sbx) (Some (suc m0.top.pc) ∷ []) (first_way (suc m0.top.pc) (suc m0.top.pc) [] refl)) in
      land_fine nowhere (with_registers m (slice_set m0.top.registers a (number now))) (base_registers m0.top.function m0.top.cells m0.top.registers (slice_set m0.top.registers a (number now)) m0.top.landing m0.below m0.cells m0.closures base (length-set m0.top.registers a (number now))) (
      arrival_less m0.top.function base.known.notes m0.cells (length m0.below) (slice_set m0.top.registers a (number now)) (suc m0.top.pc) (only (a + 3)) nothing None (λ r e. refl) (
      arrival_number m0.top.function base.known.notes m0.cells (length m0.below) m0.top.registers (suc m0.top.pc) (only (a + 3)) None a now (omega arith) arrival)) []

  pub forloop_fine : (a b c bx : ℕ) (sbx : ℤ) → DoingOf (word Op.ForLoop a b c bx sbx) → Fine (effect Op.ForLoop m (word Op.ForLoop a b c bx sbx))
  forloop_fine a b c bx sbx d =
      let l : d.note.loops a ≡ true = numbers_ok a b c bx sbx d in
      let n0 : IsNumber m0.top.registers a = d.holds.numbers a a l (omega arith) (omega arith) in
      let n1 : IsNumber m0.top.registers (a + 1) = d.holds.numbers a (a + 1) l (omega arith) (omega arith) in
      let n2 : IsNumber m0.top.registers (a + 2) = d.holds.numbers a (a + 2) l (omega arith) (omega arith) in
      need_fine (loop_number m a) n0.0 _ (loop_number_is a n0) (need_fine (loop_number m (a + 1)) n1.0 _ (loop_number_is (a + 1) n1) (need_fine (loop_number m (a + 2)) n2.0 _ (loop_number_is (a + 2) n2) (turn_fine a b c bx sbx d _ _)))

  pub forprep_fine : (a b c bx : ℕ) (sbx : ℤ) → DoingOf (word Op.ForPrep a b c bx sbx) → Fine (effect Op.ForPrep m (word Op.ForPrep a b c bx sbx))
  forprep_fine a b c bx sbx d =
      let far : a + 2 < length m0.top.registers = first_there (word Op.ForPrep a b c bx sbx) (a + 2) [] d refl in
      let v0 = get_some m0.top.registers a (omega arith) in
      let v1 = get_some m0.top.registers (a + 1) (omega arith) in
      let v2 = get_some m0.top.registers (a + 2) (omega arith) in
      need_fine (register m a) v0.0 _ v0.1 (need_fine (register m (a + 1)) v1.0 _ v1.1 (need_fine (register m (a + 2)) v2.0 _ v2.1 (
      prepare_fine m base (word Op.ForPrep a b c bx sbx) (loop_numbers v0.0 v1.0 v2.0) (goes far))))
    where
      free : (r : ℕ) → a ≤ r → r ≤ a + 2 → d.note.captured r ≡ false
      free r low high =
          let all : (d.note.captured a || d.note.captured (a + 1) || d.note.captured (a + 2)) ≡ false = subst (λ o. breaks_captured o Op.ForPrep (word Op.ForPrep a b c bx sbx) ≡ false) d.noted (keeps (word Op.ForPrep a b c bx sbx) d Rule.LoopCaptured refl) in
          elim (near a r low high) [
            | inl same ↦ subst (λ s. d.note.captured s ≡ false) same (or_first_false _ _ (or_first_false _ _ all))
            | inr (inl same) ↦ subst (λ s. d.note.captured s ≡ false) same (or_second_false _ _ (or_first_false _ _ all))
            | inr (inr same) ↦ subst (λ s. d.note.captured s ≡ false) same (or_second_false _ _ all)
          ]

      goes : a + 2 < length m0.top.registers → (x y z : ℤ) → Fine (jump (with_registers m (three m0.top.registers a x y z)) sbx)
      goes far x y z =
          let to : Target m0.top.function (target m0.top.pc sbx) = first_target m0.top.function base.known m0.top.pc (word Op.ForPrep a b c bx sbx) d.solid d.at (target m0.top.pc sbx) [] refl in
          need_fine (as_pc (pos (suc m0.top.pc) +ℤ sbx)) to.0 _ to.1 (
          land_fine nowhere (at_pc (with_registers m (three m0.top.registers a x y z)) to.0) (base_registers m0.top.function m0.top.cells m0.top.registers (three m0.top.registers a x y z) m0.top.landing m0.below m0.cells m0.closures base (length-three m0.top.registers a x y z)) (
          prepared m0.top.function base.known m0.top.pc (word Op.ForPrep a b c bx sbx) a d.note d.at d.noted m0.cells (length m0.below) m0.top.registers (three m0.top.registers a x y z) d.holds (length-three m0.top.registers a x y z) (λ r e. three_other m0.top.registers a x y z r (λ low high. not_among a 3 r e low high)) (λ r low high. three_numbers m0.top.registers a x y z r far low high) free (λ s e. eqb-true a s e) (λ r. refl) to.0 (and_true (is_place m0.top.function (Some to.0)) _ to.2 (subst (λ o. list_any (is_pc to.0) (o ∷ []) ≡ true) (sym to.1) (first_way to.0 to.0 [] refl))) to.3) [])
