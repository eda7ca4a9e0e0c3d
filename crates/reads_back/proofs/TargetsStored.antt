-- Words that store to targets, from the last one back, are read as one assignment: the first of them begins it, each of the others takes one value and the parts of its target, and the last one ends it.
use Rattle.std.proofs.Common.{◌≡◌, ℕ, zero, suc, ◌+◌, ◌-◌, ◌<◌, ◌≤◌, ◌==◌, max, not, Bool, true, false, List, [], ◌∷◌, ◌++◌, append-nil, append_assoc, length, length-append, Option, Some, None, is_some, refl, sym, ap, ap₂, ◌∙◌, subst, arith, lt-ltb}
use Rattle.std.proofs.Math.Nat.{max-zero}
use Rattle.std.specs.Prelude.{replicate, option_map, option_and_then, slice_get, if◌then◌else◌}
use Rattle.opcode.specs.declared.op.Op.{Op}
use Rattle.core_expr.specs.Places.{place}
use Rattle.core_expr.specs.Values.{Value, constant_operand}
use Rattle.recover_expr.specs.Assigning as assigning
use Rattle.recover_expr.specs.Assigning.{and_further, as_statement, assigned_from, assignment_from, assignment_of, further_store, further_stores, further_word, stored_function, value_assigned, with_targets, with_values}
use Rattle.recover_expr.specs.Drafts.{Drafted, makes}
use Rattle.recover_expr.specs.Entries.{Entries, place_in}
use Rattle.recover_expr.specs.Items.{is_item}
use Rattle.recover_expr.specs.Lists.{Straight, straight_operand, straight_value}
use Rattle.recover_expr.specs.Reading.{Turn, as_over, is_store, read_word, turn_at, turn_of, turned, value_as, value_to}
use Rattle.recover_expr.specs.Situation.{Function, Situation, constant_in, is_good_name, place_in_step, see, with_left, word_at}
use Rattle.recover_expr.specs.Stores as storing
use Rattle.recover_expr.specs.Stores.{Assigning, StoredValue, add, operand_stored, register_of, register_stored, store_of, stored_operand, stored_register, straight, to_place}
use Rattle.recover_expr.specs.Words.{Done, as_end}
use Rattle.recover_expr.specs.declared.function.Word.{Word}
use Rattle.recover_expr.specs.declared.stores.Place as stores
use Rattle.recover_expr.specs.declared.stores.Store.{Store}
use Rattle.scheme.specs.declared.making.Piece.{Piece}
use Rattle.scheme_stands.specs.Words.{Fn, Spot, WordAt, IsRead, instr_by}
use Rattle.reads_back.specs.Acted.{Assigned, assigned, function_in, left_by_targets, taken_behind_targets}
use Rattle.reads_back.proofs.ActsRead.{act_draft, after_act}
use Rattle.reads_back.proofs.BothOperands.{counted, seen_with_both}
use Rattle.reads_back.proofs.HeldOperands.{Kept, in_next, in_word, in_local, StandsIn, counts_none, entries_in, operand_of}
use Rattle.reads_back.proofs.NameReads.{good_text}
use Rattle.reads_back.proofs.PartsUsed.{all_there_length, all_used, all_used_length, begins_in_register, begins_straight, further_added, none_walked, parts_length, there_length, used_with_last, walked}
use Rattle.reads_back.proofs.StoredTargets.{AreThere, Destination, IsThere, StoreWordAt, StoreWordsAt, WritesValues, first_stored, parts_used, seen_with, seen_with_all, store_piece, store_to, targets_to, to_global, to_local, to_part, to_upvalue, unused, used_by, used_by_all}
use Rattle.reads_back.proofs.StoresRead.{IsInStep, IsValueKept, local_there, no_place, operand_there, register_there, stored_at, straight_of}
use Rattle.reads_back.proofs.TableItems.{not_none}
use Rattle.reads_back.proofs.TakenEntries.{behind_taken}
use Rattle.reads_back.proofs.TargetsTaken.{count_stores, function_named, statement_ends, stores_back, targets_are}
use Rattle.reads_back.proofs.Said.{can_say}
use Rattle.reads_back.proofs.Tests.{not_below}
use Rattle.reads_back.proofs.ValueWords.{place_of_next}
use Rattle.reads_back.proofs.WordsRead.{IsFunction, IsQuiet, abc_is_read, abx_is_read, turn_there, word_of, word_there}

abbrev behind_store : Destination → Situation → Situation
behind_store d s = record s { seen = seen_with d s.seen }

-- the word names an operand too
abbrev behind_operand_store : Destination → (z : ℕ) → Situation → Situation
behind_operand_store d z s = record s { seen = max (seen_with d s.seen) (counted z) }

-- behind the stores to these targets, from the last one back
abbrev behind_stores : List Destination → Situation → Situation
behind_stores ds s = record s { seen = seen_with_all ds s.seen }

-- what stands straight in the word of the store can go there
abbrev pub CanTake : Destination → Kept → Type 0
CanTake (to_local r) kept = ⊥
CanTake (to_part on key x y) kept = Unit {0}
CanTake d kept = IsValueKept kept

-- ---- the word of a store

abbrev pub store_word : (pc : ℕ) → Destination → (r : ℕ) → Word
store_word pc d r = word_of pc (store_piece d r)

-- it is no item of a constructor that stands in the register of the table
abbrev pub IsNoItem : Function → Situation → (pc r : ℕ) → Destination → Type 0
IsNoItem f t pc r (to_part on key x y) = is_item f (store_word pc (to_part on key x y) r) t ≡ false
IsNoItem f t pc r d = Unit {0}

store_is_read : {f : Function} {g : Fn} (d : Destination) (r : ℕ) (p q : Spot) → IsFunction f g → StoreWordAt g d r p q → IsRead p.pc (store_piece d r)
store_is_read (to_local x) r p q is_function at = abc_is_read is_function at
store_is_read (to_upvalue slot) r p q is_function at = abc_is_read is_function at
store_is_read (to_global number) r p q is_function at = abx_is_read is_function at
store_is_read (to_part on key x y) r p q is_function at = abc_is_read is_function at

-- it takes the name of a global, or a key that is a constant; what it stores is no constant
none_counted : (n r : ℕ) → r < 256 → max n (counted r) ≡ n
none_counted n r small = ap (max n) (counts_none r small) ∙ max-zero n

seen_store : (d : Destination) (pc r : ℕ) (t : Situation) → r < 256 → see (store_word pc d r).instr t ≡ behind_store d t
seen_store (to_local x) pc r t small = refl
seen_store (to_upvalue slot) pc r t small = refl
seen_store (to_global number) pc r t small = refl
seen_store (to_part on key x y) pc r t small = seen_with_both y r t ∙ ap (λ n. record t { seen = n }) (none_counted (max t.seen (counted y)) r small)

abbrev store_at : (pc : ℕ) → Option (stores.Place × StoredValue) → Option (Store × StoredValue)
store_at pc = option_map (λ p. (record { pc = pc; place = p.0 }, p.1))

-- ---- a local or a constant

no_constant : (f : Function) (count : ℕ) (listed : List ℕ) (free z free1 : ℕ) (kept : Kept) → IsValueKept kept → entries_in kept ≡ [] → StandsIn f count listed free z free1 kept → z < 256
no_constant f count listed free z free1 (in_word number) value none stands = absurd value
no_constant f count listed free z free1 (in_local r) value none stands = omega (arith, stands.0, stands.1, stands.2)
no_constant f count listed free z free1 (in_next entry v) value none stands = cc

-- it stands so whatever register is free
stands_still : (f : Function) (count : ℕ) (listed : List ℕ) (free z free1 : ℕ) (kept : Kept) → entries_in kept ≡ [] → StandsIn f count listed free z free1 kept → StandsIn f count listed (count + 0) z (count + 0) kept
stands_still f count listed free z free1 (in_word number) none stands = (stands.0, stands.1, refl)
stands_still f count listed free z free1 (in_local r) none stands = (stands.0, stands.1, stands.2, refl, stands.4, stands.5)
stands_still f count listed free z free1 (in_next entry v) none stands = cc

stored_straight : (kept : Kept) → entries_in kept ≡ [] → stored_at 0 kept ≡ operand_stored (operand_of kept)
stored_straight (in_word number) none = refl
stored_straight (in_local r) none = refl
stored_straight (in_next entry v) none = cc

straight_is : (kept : Kept) → entries_in kept ≡ [] → Some (straight_operand (operand_of kept)) ≡ straight_of kept
straight_is (in_word number) none = refl
straight_is (in_local r) none = refl
straight_is (in_next entry v) none = cc

-- ---- what a word stores

module _ {f : Function} {count : ℕ} {listed : List ℕ} {t : Situation} (step : IsInStep f count listed t) where
  register_in : (place r : ℕ) → r ≡ count + place → stored_register f t r ≡ Some (register_stored place)
  register_in place r is = ap (register_of f t r) (place_of_next t.base place r (omega (arith, is, step.base)))

  -- what stands in a register or is a constant goes to an upvalue, a global or a part
  upvalue_store : (slot pc r : ℕ) (stored : StoredValue) (entries behind : Entries) → IsThere f count listed entries (to_upvalue slot) behind → stored_register f t r ≡ Some stored →
      store_of f (store_word pc (to_upvalue slot) r) t ≡ Some (store_to pc (to_upvalue slot), stored)
  upvalue_store slot pc r stored entries behind there is =
      let to : Option ℕ → Option (Store × StoredValue) = λ upvalue. store_at pc (option_and_then (λ slot. option_map (to_place (stores.Place.Upvalue slot)) (stored_register f t r)) upvalue) in
      ap (λ good. to (if good then Some slot else None)) (good_text (slice_get f.of.upvalue_names slot) there.0 there.1) ∙ ap (λ stored. store_at pc (option_map (to_place (stores.Place.Upvalue slot)) stored)) is

  global_store : (number pc r : ℕ) (stored : StoredValue) (entries behind : Entries) → IsThere f count listed entries (to_global number) behind → stored_register f t r ≡ Some stored →
      store_of f (store_word pc (to_global number) r) t ≡ Some (store_to pc (to_global number), stored)
  global_store number pc r stored entries behind there is =
      let to : Option ℕ → Option (Store × StoredValue) = λ name. store_at pc (option_and_then (λ number. option_map (to_place (stores.Place.Global number)) (stored_register f t r)) name) in
      ap (λ constant. to (if is_good_name constant then Some number else None)) there.1.there ∙ ap (λ good. to (if good then Some number else None)) there.1.named ∙ ap (λ stored. store_at pc (option_map (to_place (stores.Place.Global number)) stored)) is

  part_store : (on key : Kept) (x y pc z : ℕ) (stored : StoredValue) → stored_operand f t z ≡ Some stored → store_of f (store_word pc (to_part on key x y) z) t ≡ Some (store_to pc (to_part on key x y), stored)
  part_store on key x y pc z stored is = ap (λ stored. store_at pc (option_map (to_place (stores.Place.Index x y)) stored)) is

  -- a register of the step goes to a target
  store_there : (d : Destination) (pc place r : ℕ) (entries behind : Entries) → IsThere f count listed entries d behind → r ≡ count + place → r < 256 → store_of f (store_word pc d r) t ≡ Some (store_to pc d, register_stored place)
  store_there (to_local x) pc place r entries behind there is small =
      ap (λ from. store_at pc (storing.to_local f t x from (place_in t.base x))) (place_of_next t.base place r (omega (arith, is, step.base)))
      ∙ ap (λ to. store_at pc (storing.to_local f t x (Some place) to)) (no_place step x there.0)
      ∙ ap (λ local. store_at pc (option_map (λ v. (stores.Place.Local x, register_stored place)) local)) (local_there step x there.1 there.2)
  store_there (to_upvalue slot) pc place r entries behind there is small = upvalue_store slot pc r (register_stored place) entries behind there (register_in place r is)
  store_there (to_global number) pc place r entries behind there is small = global_store number pc r (register_stored place) entries behind there (register_in place r is)
  store_there (to_part on key x y) pc place r entries behind there is small =
      part_store on key x y pc r (register_stored place)
      (ap (λ far. if far then option_map (λ k. operand_stored (constant_operand k)) (constant_in f (r - 256)) else stored_register f t r) (not_below r 256 small) ∙ register_in place r is)

  -- so does a local or a constant
  straight_there : (d : Destination) (kept : Kept) (pc free z free1 : ℕ) (entries behind : Entries) → IsThere f count listed entries d behind → StandsIn f count listed free z free1 kept → entries_in kept ≡ [] → CanTake d kept →
      store_of f (store_word pc d z) t ≡ Some (store_to pc d, operand_stored (operand_of kept))
  straight_there (to_local x) kept pc free z free1 entries behind there stands none can = absurd can
  straight_there (to_upvalue slot) kept pc free z free1 entries behind there stands none can =
      upvalue_store slot pc z (operand_stored (operand_of kept)) entries behind there
      (register_there step 0 (count + 0) z (count + 0) kept can (stands_still f count listed free z free1 kept none stands) refl ∙ ap Some (stored_straight kept none))
  straight_there (to_global number) kept pc free z free1 entries behind there stands none can =
      global_store number pc z (operand_stored (operand_of kept)) entries behind there
      (register_there step 0 (count + 0) z (count + 0) kept can (stands_still f count listed free z free1 kept none stands) refl ∙ ap Some (stored_straight kept none))
  straight_there (to_part on key x y) kept pc free z free1 entries behind there stands none can =
      part_store on key x y pc z (operand_stored (operand_of kept))
      (operand_there step 0 (count + 0) z (count + 0) kept (stands_still f count listed free z free1 kept none stands) refl ∙ ap Some (stored_straight kept none))

  -- the word of a register of the step stores it
  is_stored : (d : Destination) (pc place r : ℕ) → IsNoItem f t pc r d → r ≡ count + place → is_store f (store_word pc d r) t ≡ true
  is_stored (to_local x) pc place r none is = ap is_some (place_of_next t.base place r (omega (arith, is, step.base)))
  is_stored (to_upvalue slot) pc place r none is = refl
  is_stored (to_global number) pc place r none is = refl
  is_stored (to_part on key x y) pc place r none is = ap not none

  is_straight_stored : (d : Destination) (kept : Kept) (pc z : ℕ) → IsNoItem f t pc z d → CanTake d kept → is_store f (store_word pc d z) t ≡ true
  is_straight_stored (to_local x) kept pc z none can = absurd can
  is_straight_stored (to_upvalue slot) kept pc z none can = refl
  is_straight_stored (to_global number) kept pc z none can = refl
  is_straight_stored (to_part on key x y) kept pc z none can = ap not none

-- the word names an operand too
seen_straight : (f : Function) (count : ℕ) (listed : List ℕ) (d : Destination) (kept : Kept) (pc free z free1 : ℕ) (t : Situation) → StandsIn f count listed free z free1 kept → entries_in kept ≡ [] → CanTake d kept →
    see (store_word pc d z).instr t ≡ behind_operand_store d z t
seen_straight f count listed (to_local x) kept pc free z free1 t stands none can = absurd can
seen_straight f count listed (to_upvalue slot) kept pc free z free1 t stands none can =
    ap (λ n. record t { seen = n }) (sym (none_counted t.seen z (no_constant f count listed free z free1 kept can none stands)))
seen_straight f count listed (to_global number) kept pc free z free1 t stands none can =
    ap (λ n. record t { seen = n }) (sym (none_counted (seen_with (to_global number) t.seen) z (no_constant f count listed free z free1 kept can none stands)))
seen_straight f count listed (to_part on key x y) kept pc free z free1 t stands none can = seen_with_both y z t

-- an assignment that a word ends is its turn
ended_turn : (f : Function) (w : Word) (ended : Option (Drafted × Situation)) → option_and_then (λ p. turned f w p.1 p.0) (option_map as_end ended) ≡ option_map as_over ended
ended_turn f w None = refl
ended_turn f w (Some p) = refl

-- a word that stores begins an assignment
turn_stores : {f : Function} {g : Fn} (d : Destination) (r last : ℕ) (p q : Spot) (t u : Situation) → IsFunction f g → IsQuiet f t.scope p.pc last → q.pc ≤ last → StoreWordAt g d r p q → see (store_word p.pc d r).instr t ≡ u → is_store f (store_word p.pc d r) u ≡ true →
    turn_at f p.pc t ≡ option_map as_over (assignment_from f (store_word p.pc d r) u)
turn_stores {f} {g} d r last p q t u is_function quiet before at sees is =
    let w = store_word p.pc d r in
    let word : WordAt g (store_piece d r) p q = at in
    let done : Done → Option (Turn × Situation) = option_and_then (λ p. turned f w p.1 p.0) in
    turn_there p.pc t quiet (omega arith) (omega (arith, word.next)) (word_there is_function word (store_is_read d r p q is_function at) (omega (arith, word.next, quiet.within)))
    ∙ ap (λ (t : Situation). done (read_word f w t)) sees
    ∙ ap (λ store. done (if store then option_map as_end (assignment_from f w u) else value_as w.instr.op f w u)) is
    ∙ ended_turn f w (assignment_from f w u)

-- ---- the other stores

pub count_words : (g : Fn) (r : ℕ) (ds : List Destination) (p q : Spot) → StoreWordsAt g r ds p q → q.pc ≡ p.pc + length ds
count_words g r [] p q at = omega (arith, at.pc)
count_words g r (d ∷ ds) p q at = omega (arith, count_words g (suc r) ds p at.mid at.first_at, at.second_at.next)

-- a store makes no function
pub store_keeps : {g : Fn} (d : Destination) (r : ℕ) (p q : Spot) → StoreWordAt g d r p q → q.functions ≡ p.functions
store_keeps {g} d r p q at = let word : WordAt g (store_piece d r) p q = at in word.functions

pub words_keep : (g : Fn) (r : ℕ) (ds : List Destination) (p q : Spot) → StoreWordsAt g r ds p q → q.functions ≡ p.functions
words_keep g r [] p q at = at.functions
words_keep g r (d ∷ ds) p q at = store_keeps d r at.mid q at.second_at ∙ words_keep g (suc r) ds p at.mid at.first_at

-- the last target stands behind the others
pub there_last : (f : Function) (count : ℕ) (listed : List ℕ) (ds : List Destination) (d : Destination) (entries behind : Entries) → AreThere f count listed entries (ds ++ d ∷ []) behind →
    (mid : Entries) × AreThere f count listed entries ds mid × IsThere f count listed mid d behind
there_last f count listed [] d entries behind there = (entries, refl, subst (λ behind. IsThere f count listed entries d behind) (sym there.2) there.1)
there_last f count listed (e ∷ ds) d entries behind there =
    let rest = there_last f count listed ds d there.0 behind there.2 in
    (rest.0, (there.0, there.1, rest.1), rest.2)

-- no register is left
none_further : (f : Function) (count left : ℕ) (before : List Store) (parts used : List Bool) (next : ℕ) (t : Situation) → unused parts + left ≡ 0 → further_stores f count (walked before parts left used, next, t) ≡ Some (walked before parts left used, next, t)
none_further f zero left before parts used next t none = refl
none_further f (suc count) left before parts used next t none =
    let a = walked before parts left used in
    ap (λ left. if left == 0 then Some (a, next, t) else option_and_then (further_stores f count) (further_store f a next t)) none

module _ {f : Function} {g : Fn} {count : ℕ} {listed : List ℕ} (is_function : IsFunction f g) where
  -- one word
  store_further : (d : Destination) (k r : ℕ) (before : List Store) (parts used : List Bool) (entries behind : Entries) (p q : Spot) (t : Situation) → IsInStep f count listed t → IsThere f count listed entries d behind → length parts ≡ length entries →
      r ≡ count + (length parts + k) → r < 250 → q.pc ≤ f.last → StoreWordAt g d r p q →
      further_store f (walked before parts (suc k) used) p.pc t ≡ Some (walked (before ++ store_to p.pc d ∷ []) (used_by count d parts) k (true ∷ used), q.pc, behind_store d t)
  store_further d k r before parts used entries behind p q t step there same is few within at =
      let w = store_word p.pc d r in
      let a = walked before parts (suc k) used in
      let u = behind_store d t in
      let here : IsInStep f count listed u = record { base = step.base; places = step.places } in
      let word : WordAt g (store_piece d r) p q = at in
      let below : p.pc < f.last = omega (arith, word.next, within) in
      let small : r < 256 = omega (arith, few) in
      ap (λ below. if below then option_and_then (further_word f a t) (word_at f p.pc) else None) (lt-ltb p.pc f.last below)
      ∙ ap (option_and_then (further_word f a t)) (word_there is_function word (store_is_read d r p q is_function at) below)
      ∙ ap (λ (u : Situation). option_and_then (and_further u w a) (store_of f w u)) (seen_store d p.pc r t small)
      ∙ ap (option_and_then (and_further u w a)) (store_there here d p.pc (length parts + k) r entries behind there is small)
      ∙ ap (option_map (λ more. (more, suc p.pc, u))) (further_added here d p.pc k entries behind there before parts used same)
      ∙ ap (λ (next : ℕ). Some (walked (before ++ store_to p.pc d ∷ []) (used_by count d parts) k (true ∷ used), next, u)) (sym word.next)

  -- all words; so many more stores may be read as these are
  stores_further : (ds : List Destination) (k n r few more : ℕ) (before : List Store) (parts used : List Bool) (entries behind : Entries) (p q : Spot) (s : Situation) → IsInStep f count listed s → AreThere f count listed entries ds behind → length parts ≡ length entries →
      r ≡ count + (length parts + k) → n ≡ k + length ds → more ≡ few + length ds → count + (length parts + n) ≤ 250 → q.pc ≤ f.last → StoreWordsAt g r ds p q →
      further_stores f more (walked before parts n used, p.pc, s) ≡ further_stores f few (walked (before ++ stores_back p.pc ds) (used_by_all count ds parts) k (replicate (length ds) true ++ used), q.pc, behind_stores ds s)
  stores_further [] k n r few more before parts used entries behind p q s step there same is left count_is low within at =
      let same_left : n ≡ k = omega (arith, left) in
      let same_count : more ≡ few = omega (arith, count_is) in
      ap₂ (λ (m n : ℕ). further_stores f m (walked before parts n used, p.pc, s)) same_count same_left
      ∙ ap₂ (λ (before : List Store) (next : ℕ). further_stores f few (walked before parts k used, next, s)) (sym (append-nil before)) (sym at.pc)
  stores_further (d ∷ ds) k n r few more before parts used entries behind p q s step there same is left count_is low within at =
      let back = before ++ stores_back p.pc ds in
      let all : List Bool = replicate (length ds) true ++ used in
      let parts1 = used_by_all count ds parts in
      let t = behind_stores ds s in
      let a = walked back parts1 (suc k) all in
      let here : IsInStep f count listed t = record { base = step.base; places = step.places } in
      let long : length parts1 ≡ length parts = all_used_length count ds parts in
      let word : WordAt g (store_piece d r) at.mid q = at.second_at in
      let further : more ≡ suc few + length ds = omega (arith, count_is) in
      stores_further ds (suc k) n (suc r) (suc few) more before parts used there.0 behind p at.mid s step there.2 (same ∙ sym (there_length f count listed entries there.0 d there.1)) (omega (arith, is)) (omega (arith, left)) further low
      (omega (arith, within, word.next)) at.first_at
      ∙ ap (λ over. if over then Some (a, at.mid.pc, t) else option_and_then (further_stores f few) (further_store f a at.mid.pc t)) (not_none (unused parts1 + suc k) (omega arith))
      ∙ ap (option_and_then (further_stores f few)) (store_further d k r back parts1 all entries there.0 at.mid q t here there.1 (long ∙ same) (omega (arith, is, long)) (omega (arith, is, left, low)) within at.second_at)
      ∙ ap (λ (before : List Store). further_stores f few (walked before (used_by_all count (d ∷ ds) parts) k (true ∷ all), q.pc, behind_store d t))
      (ap (λ (pc : ℕ). back ++ store_to pc d ∷ []) (count_words g (suc r) ds p at.mid at.first_at) ∙ append_assoc before (stores_back p.pc ds) (store_to (p.pc + length ds) d ∷ []))

module _ {f : Function} {g : Fn} {count : ℕ} {listed : List ℕ} (is_function : IsFunction f g) where
  -- ---- the first store

  -- the last register of the step goes to a target; so many registers below it are parts of targets, and so many others are values
  pub register_turn : (d : Destination) (k r last : ℕ) (entries behind : Entries) (p q : Spot) (t : Situation) → IsInStep f count listed t → IsThere f count listed entries d behind → IsNoItem f t p.pc r d → length entries + k < length t.entries → r ≡ count + (length entries + k) → r < 250 →
      IsQuiet f t.scope p.pc last → q.pc ≤ last → StoreWordAt g d r p q →
      turn_at f p.pc t ≡ option_map as_over (assigned_from f None q.pc (behind_store d t) (first_stored p.pc d (parts_used count (length entries) d) k (true ∷ [])))
  register_turn d k r last entries behind p q t step there none within is few quiet before at =
      let w = store_word p.pc d r in
      let u = behind_store d t in
      let here : IsInStep f count listed u = record { base = step.base; places = step.places } in
      let n = length entries + k in
      let small : r < 256 = omega (arith, few) in
      let word : WordAt g (store_piece d r) p q = at in
      let parts = parts_used count (length entries) d in
      turn_stores d r last p q t u is_function quiet before at (seen_store d p.pc r t small) (is_stored here d p.pc n r none is)
      ∙ ap (λ store. option_map as_over (option_and_then (λ p. assignment_of f w u p.0 p.1) store)) (store_there here d p.pc n r entries behind there is small)
      ∙ ap (λ a. option_map as_over (option_and_then (assigned_from f None (suc p.pc) u) a)) (begins_in_register here d p.pc k entries behind there (length t.entries) within)
      ∙ ap (λ (next : ℕ). option_map as_over (assigned_from f None next u (first_stored p.pc d parts k (true ∷ [])))) (sym word.next)

  -- what stands there goes to a local with the word that moves it
  pub moved_turn : (x k r pc next : ℕ) (entries behind : Entries) (t : Situation) → IsInStep f count listed t → IsThere f count listed entries (to_local x) behind → length entries + k < length t.entries → r ≡ count + (length entries + k) → r < 256 →
      turn_of f t (record { pc = pc; next = next; instr = instr_by pc (Piece.Abc Op.Move x r 0) }) ≡ option_map as_over (assigned_from f None next t (first_stored pc (to_local x) (parts_used count (length entries) (to_local x)) k (true ∷ [])))
  moved_turn x k r pc next entries behind t step there within is small =
      let w : Word = record { pc = pc; next = next; instr = instr_by pc (Piece.Abc Op.Move x r 0) } in
      let n = length entries + k in
      let done : Done → Option (Turn × Situation) = option_and_then (λ p. turned f w p.1 p.0) in
      ap (λ store. done (if store then option_map as_end (assignment_from f w t) else value_as Op.Move f w t)) (is_stored step (to_local x) pc n r tt is)
      ∙ ended_turn f w (assignment_from f w t)
      ∙ ap (λ store. option_map as_over (option_and_then (λ p. assignment_of f w t p.0 p.1) store)) (store_there step (to_local x) pc n r entries behind there is small)
      ∙ ap (λ a. option_map as_over (option_and_then (assigned_from f None next t) a)) (begins_in_register step (to_local x) pc k entries behind there (length t.entries) within)

  -- a local or a constant goes to a target
  pub operand_turn : (d : Destination) (kept : Kept) (k z free free1 last : ℕ) (entries behind : Entries) (p q : Spot) (t : Situation) → IsInStep f count listed t → IsThere f count listed entries d behind → IsNoItem f t p.pc z d → length t.entries ≡ length entries + k →
      StandsIn f count listed free z free1 kept → entries_in kept ≡ [] → CanTake d kept → IsQuiet f t.scope p.pc last → q.pc ≤ last → StoreWordAt g d z p q →
      turn_at f p.pc t ≡ option_map as_over (assigned_from f (straight_of kept) q.pc (behind_operand_store d z t) (first_stored p.pc d (parts_used count (length entries) d) k []))
  operand_turn d kept k z free free1 last entries behind p q t step there none size stands straight_kept can quiet before at =
      let w = store_word p.pc d z in
      let u = behind_operand_store d z t in
      let here : IsInStep f count listed u = record { base = step.base; places = step.places } in
      let word : WordAt g (store_piece d z) p q = at in
      let parts = parts_used count (length entries) d in
      turn_stores d z last p q t u is_function quiet before at (seen_straight f count listed d kept p.pc free z free1 t stands straight_kept can) (is_straight_stored here d kept p.pc z none can)
      ∙ ap (λ store. option_map as_over (option_and_then (λ p. assignment_of f w u p.0 p.1) store)) (straight_there here d kept p.pc free z free1 entries behind there stands straight_kept can)
      ∙ ap (λ (n : ℕ). option_map as_over (option_and_then (assigned_from f (Some (straight_operand (operand_of kept))) (suc p.pc) u) (straight t.base n (store_to p.pc d)))) size
      ∙ ap (λ a. option_map as_over (option_and_then (assigned_from f (Some (straight_operand (operand_of kept))) (suc p.pc) u) a)) (begins_straight here d p.pc k entries behind there)
      ∙ ap₂ (λ (straight : Option Straight) (next : ℕ). option_map as_over (assigned_from f straight next u (first_stored p.pc d parts k []))) (straight_is kept straight_kept) (sym word.next)

  -- a word makes a value, straight for a local
  pub straight_turn : (w : Word) (v : Value) (r last parts k : ℕ) (entries behind : Entries) (before u : Situation) → IsInStep f count listed u → IsThere f count listed entries (to_local r) behind → length u.entries ≡ parts + k →
      turn_at f w.pc before ≡ turn_of f before w → w.instr.a ≡ r → read_word f w (see w.instr before) ≡ Some (makes v last, u) →
      turn_at f w.pc before ≡ option_map as_over (assigned_from f (Some (straight_value v)) last u (first_stored w.pc (to_local r) (replicate parts false) k []))
  straight_turn w v r last parts k entries behind before u step there size turn is does =
      let at : Word = record w { instr = record w.instr { a = r } } in
      let to : (a : ℕ) → Option (Turn × Situation) = λ a. value_to f (record w { instr = record w.instr { a = a } }) v last u (place_in u.base a) in
      let ending : Option Assigning → Option (Turn × Situation) = λ a. option_map as_over (option_and_then (assigned_from f (Some (straight_value v)) last u) a) in
      turn
      ∙ ap (option_and_then (λ p. turned f w p.1 p.0)) does
      ∙ ap to is
      ∙ ap (value_to f at v last u) (no_place step r there.0)
      ∙ ap (λ local. option_map as_over (option_and_then (λ local. value_assigned f at v last u) local)) (local_there step r there.1 there.2)
      ∙ ap (λ (n : ℕ). ending (straight u.base n (store_to w.pc (to_local r)))) size
      ∙ ap (λ a. ending (add u.base (store_to w.pc (to_local r)) a)) (none_walked parts k)

  -- ---- the other stores, and the end

  -- every register is stored or a part
  stores_read : (ds : List Destination) (d : Destination) (pc : ℕ) (used : List Bool) (parts values mid : Entries) (p q : Spot) (s : Situation) → IsInStep f count listed s → s.entries ≡ parts ++ values → AreThere f count listed parts ds mid →
      used_by_all count (ds ++ d ∷ []) (replicate (length parts) false) ≡ replicate (length parts) true → length ds ≤ length values → count + (length parts + length ds) ≤ 250 → StoreWordsAt g (count + length parts) ds p q → q.pc ≤ f.last →
      further_stores f (length s.entries) (first_stored pc d (parts_used count (length parts) d) (length ds) used, p.pc, s)
      ≡ Some (walked (store_to pc d ∷ stores_back p.pc ds) (used_by_all count ds (parts_used count (length parts) d)) 0 (replicate (length ds) true ++ used), q.pc, behind_stores ds s)
  stores_read ds d pc used parts values mid p q s step is there all enough few at within =
      let begun = parts_used count (length parts) d in
      let more = length s.entries - length ds in
      let long : length begun ≡ length parts = parts_length count (length parts) d in
      let counts : length s.entries ≡ length parts + length values = ap length is ∙ length-append parts values in
      let none : unused (used_by_all count ds begun) + 0 ≡ 0 = omega (arith, ap unused (sym (used_with_last count ds d (replicate (length parts) false)) ∙ all), all_used (length parts)) in
      stores_further is_function ds 0 (length ds) (count + length parts) more (length s.entries) (store_to pc d ∷ []) begun used parts mid p q s step there long
      (omega (arith, long)) (omega arith) (omega (arith, counts, enough)) (omega (arith, few, long)) within at
      ∙ none_further f more 0 (store_to pc d ∷ stores_back p.pc ds) (used_by_all count ds begun) (replicate (length ds) true ++ used) q.pc (behind_stores ds s) none

  pub targets_end : (ds : List Destination) (d : Destination) (pc : ℕ) (straight : Option Straight) (used : List Bool) (to : Assigned) (parts values behind : Entries) (p q : Spot) (s : Situation) → IsInStep f count listed s → s.entries ≡ parts ++ values →
      AreThere f count listed parts (ds ++ d ∷ []) behind → used_by_all count (ds ++ d ∷ []) (replicate (length parts) false) ≡ replicate (length parts) true → length ds ≤ length values → count + (length parts + length ds) ≤ 250 →
      StoreWordsAt g (count + length parts) ds p q → q.pc ≤ f.last → WritesValues f values straight d (suc (length ds)) to → (ds ≡ [] → stored_function straight values ≡ function_in to.values to.last) →
      can_say (place_in_step f s) s.left (assigned (targets_to (ds ++ d ∷ [])) to.values to.all to.last) ≡ true →
      assigned_from f straight p.pc s (first_stored pc d (parts_used count (length parts) d) (length ds) used)
      ≡ Some (act_draft f q.pc (assigned (targets_to (ds ++ d ∷ [])) to.values to.all to.last) (behind_stores ds s), after_act (assigned (targets_to (ds ++ d ∷ [])) to.values to.all to.last) (record (behind_stores ds s) { entries = behind }))
  targets_end ds d pc straight used to parts values behind p q s step is there all enough few at within writes function can =
      let split = there_last f count listed ds d parts behind there in
      let mid = split.0 in
      let parts1 = used_by_all count ds (parts_used count (length parts) d) in
      let a = walked (store_to pc d ∷ stores_back p.pc ds) parts1 0 (replicate (length ds) true ++ used) in
      let ts = targets_to (ds ++ d ∷ []) in
      let t = behind_stores ds s in
      let u = record t { entries = behind } in
      let here : IsInStep f count listed t = record { base = step.base; places = step.places } in
      let low : length parts1 + 0 ≡ length parts = omega (arith, all_used_length count ds (parts_used count (length parts) d), parts_length count (length parts) d) in
      let low_behind : length parts1 + 0 ≡ length behind = low ∙ sym (all_there_length f count listed parts behind (ds ++ d ∷ []) there) in
      let count_is : suc (length (stores_back p.pc ds)) ≡ suc (length ds) = ap suc (count_stores p.pc ds) in
      ap (option_and_then (λ p. assigning.assigned f p.0 straight p.1 p.2)) (stores_read ds d pc used parts values mid p q s step is split.1 all enough few at within)
      ∙ ap (λ (entries : Entries). assigning.assigned f a straight q.pc (record t { entries = entries })) is
      ∙ ap (option_and_then (with_targets f a straight q.pc)) (targets_are here (length parts1 + 0) values pc p.pc ds d parts mid behind split.1 split.2 low)
      ∙ ap (option_and_then (with_values f a.stores straight q.pc ts (record t { entries = behind ++ values }))) (behind_taken behind values (length parts1 + 0) low_behind)
      ∙ ap (option_and_then (as_statement f a.stores straight q.pc ts values u)) (function_named f ds d u (stored_function straight values) to function can)
      ∙ statement_ends f a.stores straight q.pc ts values to u can (writes a.stores (taken_behind_targets ts s.taken) (with_left (left_by_targets ts s.left) u) refl count_is)
