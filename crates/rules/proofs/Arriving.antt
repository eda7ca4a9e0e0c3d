-- Where a word of a sound function leads, and what is there.
use Rattle.std.proofs.Common.{◌≡◌, ◌⊎◌, inl, inr, ℕ, zero, suc, ◌+◌, ◌<◌, ◌≤◌, ℤ, Bool, true, false, cond, ◌&&◌, not, List, [], ◌∷◌, length, None, Some, refl, sym, ap, subst, ◌∙◌, true≢false, arith, nat_le, leb-true, leb-false, lt-ltb, ltb-false, eq-eqb, length-drop, ◌||◌}
use Rattle.std.specs.Prelude.{Option, option_and_then, is_some, is_none}
use Rattle.opcode.specs.declared.op.Op.{Op}
use Rattle.opcode.specs.declared.word.Instr.{Instr}
use Rattle.proto.specs.Chunk.{Chunk, own, functions}
use Rattle.lua_model.specs.Datum.{Datum}
use Rattle.rules.specs.declared.rule.Rule.{Rule}
use Rattle.rules.specs.Words.{instr_at, is_test}
use Rattle.std.specs.List.{list_any}
use Rattle.rules.specs.Places.{belonging_to, is_further, next_pc, target, is_place, jmp_at, jmp_by, jmp_of, test_ways, ways, is_pc, is_edge}
use Rattle.rules.specs.Notes.{Note, Registers, AsksLess, FollowsIn, after, writes, closes, captures, prepares, touches, spares}
use Rattle.rules.specs.Breaks.{wants, leaves, wanted_at, left_before, is_unmet, wants_at, plain_jumps, jumps, stays_in}
use Rattle.rules.specs.State.{Cell}
use Rattle.rules.proofs.Lists.{none_some, some_one, clash, and_true, and_first, and_second, not_true, not_false, or_cases, or_left, or_right, or_first_false, or_second_false, some_head}
use Rattle.rules.proofs.Further.{kept, next_is_solid, between_is_further}
use Rattle.rules.proofs.Invariant.{IsOpen, Holds, Known, Met, Arrival, Branches}
use Rattle.rules.proofs.Starting.{unwanted_at_start}

pub near : (a r : ℕ) → a ≤ r → r ≤ a + 2 → (a ≡ r) ⊎ ((a + 1 ≡ r) ⊎ (a + 2 ≡ r))
near a r low high = go (nat_le r a) refl
  where
    next : (b : Bool) → nat_le r (a + 1) ≡ b → a < r → (a ≡ r) ⊎ ((a + 1 ≡ r) ⊎ (a + 2 ≡ r))
    next true e above = let le = leb-true r (a + 1) e in inr (inl (omega arith))
    next false e above = let lt = leb-false r (a + 1) e in inr (inr (omega arith))

    go : (b : Bool) → nat_le r a ≡ b → (a ≡ r) ⊎ ((a + 1 ≡ r) ⊎ (a + 2 ≡ r))
    go true e = let le = leb-true r a e in inl (omega arith)
    go false e = let lt = leb-false r a e in next (nat_le r (a + 1)) refl lt

pub spares_each : (touched : Registers) (a r : ℕ) → (not (touched a) && not (touched (a + 1)) && not (touched (a + 2))) ≡ true → a ≤ r → r ≤ a + 2 → touched r ≡ false
spares_each touched a r e low high =
    elim (near a r low high) [
      | inl same ↦ subst (λ s. touched s ≡ false) same (not_true (touched a) (and_first _ _ (and_first _ _ e)))
      | inr (inl same) ↦ subst (λ s. touched s ≡ false) same (not_true (touched (a + 1)) (and_second _ _ (and_first _ _ e)))
      | inr (inr same) ↦ subst (λ s. touched s ≡ false) same (not_true (touched (a + 2)) (and_second _ _ e))
    ]

-- What is open after a word, of the running frame: what was and is not closed, and what the word captures.
abbrev pub Opens : Chunk → ℕ → Instr → ℕ → List Cell → List Cell → Type 0
Opens f pc i k cells cells1 = (r : ℕ) → IsOpen cells1 k r → (IsOpen cells k r × (closes i.op i r ≡ false)) ⊎ (captures f pc i r ≡ true)

-- along an edge a frame arrives, whatever the word writes
pub arrive : (f : Chunk) (known : Known f) (pc : ℕ) (i : Instr) (note : Note) → instr_at f pc ≡ Some i → known.notes pc ≡ Some note → (cells cells1 : List Cell) (k : ℕ) (registers : List Datum) → Holds cells k registers note → Opens f pc i k cells cells1 → ((a : ℕ) → prepares i.op i a ≡ false) → (t : ℕ) → is_edge f pc i t ≡ true → (left : Option ℕ) → Met (length registers) (wanted_at f t) left → Arrival f known.notes cells1 k registers t (writes i.op i) left
arrive f known pc i note at noted cells cells1 k registers holds opens none t edge left met =
    go (known.notes t) refl (known.noted.consistent.edges pc t i note at noted edge)
  where
    -- a loop of the note behind the word is one before it, which the word spares
    loop : (n : Note) → AsksLess (after f pc i note) n → (a : ℕ) → n.loops a ≡ true → (note.loops a && spares f pc i a) ≡ true
    loop n follows a l =
        elim (or_cases (note.loops a && spares f pc i a) (prepares i.op i a) (follows.loops a l)) [
          | inl kept_loop ↦ kept_loop
          | inr prepared ↦ clash prepared (none a)
        ]

    spared : (a r : ℕ) → (note.loops a && spares f pc i a) ≡ true → a ≤ r → r ≤ a + 2 → touches f pc i r ≡ false
    spared a r l low high = spares_each (touches f pc i) a r (and_second (note.loops a) (spares f pc i a) l) low high

    go : (o : Option Note) → known.notes t ≡ o → FollowsIn (after f pc i note) o → Arrival f known.notes cells1 k registers t (writes i.op i) left
    go None e follows = absurd follows
    go (Some n) e follows = record {
      place = and_first _ _ edge;
      note = n;
      noted = e;
      holds = record {
        captured = λ r is. follows.captured r (elim (opens r is) [
          | inl old ↦ or_left _ _ (and_true _ _ (holds.captured r old.0) (ap not old.1))
          | inr new ↦ or_right _ _ new
        ]);
        numbers = λ a r l low high. holds.numbers a r (and_first _ _ (loop n follows a l)) low high;
        alone = λ a r l low high is. elim (opens r is) [
          | inl old ↦ holds.alone a r (and_first _ _ (loop n follows a l)) low high old.0
          | inr new ↦ clash new (or_second_false _ _ (spared a r (loop n follows a l) low high))
        ];
      };
      spared = λ a r l low high. or_first_false _ _ (spared a r (loop n follows a l) low high);
      met = met;
    }

-- ---- the next word

-- the word before the next one leaves what the instruction leaves, where none belongs to it
left_next : (f : Chunk) (pc : ℕ) (i : Instr) → is_further f pc ≡ false → instr_at f pc ≡ Some i → left_before f (suc pc) ≡ leaves i.op i
left_next f pc i solid at =
    ap (λ b. cond b None (option_and_then (λ j. leaves j.op j) (instr_at f pc))) solid ∙ ap (λ o. option_and_then (λ j. leaves j.op j) o) at

-- before the pc behind the words that belong to an instruction nothing is left, where the instruction leaves nothing
left_none : (f : Chunk) (pc : ℕ) (i : Instr) (n t : ℕ) → is_further f pc ≡ false → instr_at f pc ≡ Some i → leaves i.op i ≡ None → n ≡ belonging_to (functions f) i.op i → t ≡ suc pc + n → t < length (own f).code → left_before f t ≡ None
left_none f pc i n zero solid at none count is there = refl
left_none f pc i zero (suc t) solid at none count is there =
    ap (left_before f) (let same : suc t ≡ suc pc = omega arith in same) ∙ left_next f pc i solid at ∙ none
left_none f pc i (suc n) (suc t) solid at none count is there =
    ap (λ b. cond b None (option_and_then (λ j. leaves j.op j) (instr_at f t))) (between_is_further f pc i t n solid at (let e = is in omega arith) (subst (λ k. n < k) count (omega arith)) (let len = length-drop (suc pc) (own f).code in omega arith))

-- nothing is wanted at a pc before which nothing is left
unwanted : (f : Chunk) (known : Known f) (t : ℕ) → is_further f t ≡ false → left_before f t ≡ None → wanted_at f t ≡ None
unwanted f known t solid left = go (instr_at f t) refl
  where
    go : (o : Option Instr) → instr_at f t ≡ o → option_and_then (λ i. wants i.op i) o ≡ None
    go None e = refl
    go (Some i) e =
        unwanted_at_start (wants i.op i) (subst (λ l. is_unmet (wants i.op i) l ≡ false) left (or_first_false _ _ (or_first_false _ _ (kept f known.main known.notes known.noted t i solid e Rule.OpenResults refl))))

met_of : (size : ℕ) (o : Option ℕ) (a : ℕ) → a < size → is_unmet o (Some a) ≡ false → Met size o (Some a)
met_of size None a there e = tt
met_of size (Some start) a there e = (ltb-false a start e, there)

-- what is wanted at a pc before which open results are left is met by these
wanted_met : (f : Chunk) (known : Known f) (t a size : ℕ) → is_further f t ≡ false → left_before f t ≡ Some a → a < size → Met size (wanted_at f t) (Some a)
wanted_met f known t a size solid left there = go (instr_at f t) refl
  where
    go : (o : Option Instr) → instr_at f t ≡ o → Met size (option_and_then (λ i. wants i.op i) o) (Some a)
    go None e = tt
    go (Some i) e =
        met_of size (wants i.op i) a there (subst (λ l. is_unmet (wants i.op i) l ≡ false) left (or_first_false _ _ (or_first_false _ _ (kept f known.main known.notes known.noted t i solid e Rule.OpenResults refl))))

-- the pc behind an instruction that goes on is a place
next_place : (f : Chunk) (known : Known f) (pc : ℕ) (i : Instr) (t : ℕ) → is_further f pc ≡ false → instr_at f pc ≡ Some i → stays_in i.op ≡ false → t ≡ next_pc f pc i → (is_place f (Some t) ≡ true) × (t < length (own f).code) × (is_further f t ≡ false)
next_place f known pc i t solid at goes is =
    let ends = kept f known.main known.notes known.noted pc i solid at Rule.FallsOff refl in
    let open_end : nat_le (length (own f).code) (next_pc f pc i) ≡ false = go (nat_le (length (own f).code) (next_pc f pc i)) (stays_in i.op) ends goes in
    let low : next_pc f pc i < length (own f).code = leb-false _ _ open_end in
    let there : t < length (own f).code = omega arith in
    let free : is_further f t ≡ false = next_is_solid f pc i t solid at is in
    (and_true _ _ (lt-ltb t (length (own f).code) there) (ap not free), there, free)
  where
    go : (x y : Bool) → (x && not y) ≡ false → y ≡ false → x ≡ false
    go true true e h = absurd (true≢false h)
    go true false e h = absurd (true≢false e)
    go false y e h = refl

-- ---- jumps

abbrev pub Target : Chunk → Option ℕ → Type 0
Target f o = (t : ℕ) × (o ≡ Some t) × (is_place f (Some t) ≡ true) × (wanted_at f t ≡ None)

target_of : (f : Chunk) (o : Option ℕ) → is_place f o ≡ true → wants_at f o ≡ false → Target f o
target_of f None place free = absurd (true≢false (sym place))
target_of f (Some t) place free = (t, refl, place, none (wanted_at f t) free)
  where
    none : (w : Option ℕ) → is_some w ≡ false → w ≡ None
    none None e = refl
    none (Some x) e = absurd (true≢false e)

-- where an instruction jumps to first
pub first_target : (f : Chunk) (known : Known f) (pc : ℕ) (i : Instr) → is_further f pc ≡ false → instr_at f pc ≡ Some i → (o : Option ℕ) (rest : List (Option ℕ)) → jumps pc i ≡ o ∷ rest → Target f o
first_target f known pc i solid at o rest is =
    let places : list_any (λ t. not (is_place f t)) (jumps pc i) ≡ false = kept f known.main known.notes known.noted pc i solid at Rule.JumpTarget refl in
    let frees : list_any (wants_at f) (jumps pc i) ≡ false = or_second_false _ _ (kept f known.main known.notes known.noted pc i solid at Rule.OpenResults refl) in
    target_of f o (not_false (is_place f o) (some_head (λ t. not (is_place f t)) o rest (subst (λ js. list_any (λ t. not (is_place f t)) js ≡ false) is places))) (some_head (wants_at f) o rest (subst (λ js. list_any (wants_at f) js ≡ false) is frees))

jmp_jumps : (pc : ℕ) (op : Op) (i : Instr) (s : ℤ) → jmp_by op i ≡ Some s → cond (is_test op) (Some (suc (suc pc)) ∷ []) (plain_jumps pc op i) ≡ target pc s ∷ []
jmp_jumps pc Op.Jmp i s e = ap (λ x. target pc x ∷ []) (some_one i.sbx s e)
jmp_jumps pc _ i s e = none_some s e

-- where the JMP at a pc leads
jmp_target : (f : Chunk) (known : Known f) (pc : ℕ) (s : ℤ) → is_further f pc ≡ false → jmp_at f pc ≡ Some s → Target f (target pc s)
jmp_target f known pc s solid jmp = go (instr_at f pc) refl jmp
  where
    go : (o : Option Instr) → instr_at f pc ≡ o → jmp_of o ≡ Some s → Target f (target pc s)
    go None e h = none_some s h
    go (Some j) e h = first_target f known pc j solid e (target pc s) [] (jmp_jumps pc j.op j s h)

pub first_way : (t u : ℕ) (rest : List (Option ℕ)) → u ≡ t → list_any (is_pc t) (Some u ∷ rest) ≡ true
first_way t u rest same = ap (λ b. b || list_any (is_pc t) rest) (eq-eqb u t same)

pub second_way : (t : ℕ) (o : Option ℕ) (rest : List (Option ℕ)) → list_any (is_pc t) rest ≡ true → list_any (is_pc t) (o ∷ rest) ≡ true
second_way t o rest e = go (is_pc t o)
  where
    go : (b : Bool) → (b || list_any (is_pc t) rest) ≡ true
    go true = refl
    go false = e

-- ---- a word that is to be done, of a function that is sound

pub record Doing (f : Chunk) (known : Known f) (cells : List Cell) (k : ℕ) (registers : List Datum) (pc : ℕ) (i : Instr) : Type 0 where
  pub solid : is_further f pc ≡ false
  pub at : instr_at f pc ≡ Some i
  pub note : Note
  pub noted : known.notes pc ≡ Some note
  pub holds : Holds cells k registers note

module _ (f : Chunk) (known : Known f) (cells : List Cell) (k : ℕ) (registers : List Datum) (pc : ℕ) (i : Instr) (d : Doing f known cells k registers pc i) where
  -- the frame arrives at an edge at which nothing is wanted
  pub arrive_at : (cells1 : List Cell) → Opens f pc i k cells cells1 → ((a : ℕ) → prepares i.op i a ≡ false) → (t : ℕ) → is_place f (Some t) ≡ true → wanted_at f t ≡ None → list_any (is_pc t) (ways f pc i) ≡ true → Arrival f known.notes cells1 k registers t (writes i.op i) None
  arrive_at cells1 opens none t place free way =
      arrive f known pc i d.note d.at d.noted cells cells1 k registers d.holds opens none t (and_true _ _ place way) None (subst (λ o. Met (length registers) o None) (sym free) tt)

  -- it arrives at the next word
  pub arrive_next : (cells1 : List Cell) → Opens f pc i k cells cells1 → ((a : ℕ) → prepares i.op i a ≡ false) → stays_in i.op ≡ false → leaves i.op i ≡ None → (t : ℕ) → t ≡ next_pc f pc i → list_any (is_pc t) (ways f pc i) ≡ true → Arrival f known.notes cells1 k registers t (writes i.op i) None
  arrive_next cells1 opens none goes leaves_none t is way =
      let place = next_place f known pc i t d.solid d.at goes is in
      arrive_at cells1 opens none t place.0 (unwanted f known t place.2 (left_none f pc i (belonging_to (functions f) i.op i) t d.solid d.at leaves_none refl is place.1)) way

  -- it arrives at the next word, with the open results that the word leaves
  pub arrive_open : Opens f pc i k cells cells → ((a : ℕ) → prepares i.op i a ≡ false) → stays_in i.op ≡ false → (a : ℕ) → a < length registers → leaves i.op i ≡ Some a → next_pc f pc i ≡ suc pc → list_any (is_pc (suc pc)) (ways f pc i) ≡ true → Arrival f known.notes cells k registers (suc pc) (writes i.op i) (Some a)
  arrive_open opens none goes a there leaves_a is way =
      let place = next_place f known pc i (suc pc) d.solid d.at goes (sym is) in
      arrive f known pc i d.note d.at d.noted cells cells k registers d.holds opens none (suc pc) (and_true _ _ place.0 way) (Some a) (wanted_met f known (suc pc) a (length registers) place.2 (left_next f pc i d.solid d.at ∙ leaves_a) there)

  -- behind a test
  pub arrive_test : Opens f pc i k cells cells → ((a : ℕ) → prepares i.op i a ≡ false) → is_test i.op ≡ true → belonging_to (functions f) i.op i ≡ 0 → jumps pc i ≡ Some (suc (suc pc)) ∷ [] → ways f pc i ≡ test_ways pc (jmp_at f (suc pc)) → Branches f known.notes cells k registers (suc pc) (writes i.op i)
  arrive_test opens none tests alone skips_is ways_are = go (jmp_at f (suc pc)) refl
    where
      go : (o : Option ℤ) → jmp_at f (suc pc) ≡ o → Branches f known.notes cells k registers (suc pc) (writes i.op i)
      go None e =
          clash (and_true (is_test i.op) (is_none (jmp_at f (suc pc))) tests (ap is_none e)) (kept f known.main known.notes known.noted pc i d.solid d.at Rule.NoJump refl)
      go (Some s) e =
          let solid1 : is_further f (suc pc) ≡ false = next_is_solid f pc i (suc pc) d.solid d.at (let b = alone in omega arith) in
          let jump_to : Target f (target (suc pc) s) = jmp_target f known (suc pc) s solid1 e in
          let skip_to : Target f (Some (suc (suc pc))) = first_target f known pc i d.solid d.at (Some (suc (suc pc))) [] skips_is in
          let all : ways f pc i ≡ target (suc pc) s ∷ Some (suc (suc pc)) ∷ [] = ways_are ∙ ap (test_ways pc) e in
          record {
            s = s;
            jmp = e;
            t = jump_to.0;
            goes = jump_to.1;
            yes = arrive_at cells opens none jump_to.0 jump_to.2 jump_to.3 (subst (λ ws. list_any (is_pc jump_to.0) ws ≡ true) (sym (all ∙ ap (λ o. o ∷ Some (suc (suc pc)) ∷ []) jump_to.1)) (first_way jump_to.0 jump_to.0 (Some (suc (suc pc)) ∷ []) refl));
            skips = arrive_at cells opens none (suc (suc pc)) (subst (λ t. is_place f (Some t) ≡ true) (sym (some_one (suc (suc pc)) skip_to.0 skip_to.1)) skip_to.2) (subst (λ t. wanted_at f t ≡ None) (sym (some_one (suc (suc pc)) skip_to.0 skip_to.1)) skip_to.3) (subst (λ ws. list_any (is_pc (suc (suc pc))) ws ≡ true) (sym all) (second_way (suc (suc pc)) (target (suc pc) s) (Some (suc (suc pc)) ∷ []) (first_way (suc (suc pc)) (suc (suc pc)) [] refl)));
          }
