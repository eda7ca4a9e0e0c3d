-- Targets that values go to: how the words of their stores say them, where their parts stand among what is in the registers of the step, and what is written of the values.
use Rattle.std.proofs.Common.{◌≡◌, ℕ, suc, ◌+◌, ◌-◌, ◌<◌, ◌≤◌, max, Bool, true, false, List, [], ◌∷◌, ◌++◌, length, Option, Some, None}
use Rattle.std.specs.Prelude.{replicate, slice_get, slice_set, ◌&&◌, if◌then◌else◌}
use Rattle.lua_num.specs.Bytes.{Text}
use Rattle.lua_tree.specs.Names.{is_name}
use Rattle.opcode.specs.declared.op.Op.{Op}
use Rattle.proto.specs.declared.parts.Constant.{Constant}
use Rattle.core_expr.specs.Counting.{taken_behind_values}
use Rattle.core_expr.specs.Places.{local_name, place, upvalue_name}
use Rattle.core_expr.specs.Targets.{TargetValue, global_target, index_target, local_target, upvalue_target}
use Rattle.core_expr.specs.Counting.{left_by_values}
use Rattle.core_expr.specs.Writing.{can_write_values}
use Rattle.recover_expr.specs.Entries.{Entries, single_of}
use Rattle.recover_expr.specs.Lists.{Straight, assigned_values, first_place}
use Rattle.recover_expr.specs.Situation.{Function, Situation, place_in_step, with_left}
use Rattle.recover_expr.specs.Stores.{Assigning}
use Rattle.recover_expr.specs.Writing.{WroteList}
use Rattle.recover_expr.specs.declared.stores.Place as stores
use Rattle.recover_expr.specs.declared.stores.Store.{Store}
use Rattle.scheme.specs.declared.making.Piece.{Piece}
use Rattle.scheme_stands.specs.Words.{Fn, Same, Seq, Stretch, WordAt}
use Rattle.reads_back.specs.Acted.{Assigned, can_write_last, left_by_last, named_behind, taken_behind_last, words_assigned}
use Rattle.reads_back.proofs.BothOperands.{counted}
use Rattle.reads_back.proofs.HeldOperands.{Kept, in_word, in_local, in_next, operand_of}
use Rattle.reads_back.proofs.PartsRead.{left_of, value_of}
use Rattle.reads_back.proofs.StoresRead.{IsValueKept}

-- ---- targets

-- what a name means; or a table and its key, with the fields of the word that says them
pub data Destination : Type 0 where
  to_local to_upvalue to_global : ℕ → Destination
  to_part : (on key : Kept) → (x y : ℕ) → Destination

abbrev pub target_to : Destination → TargetValue
target_to (to_local r) = local_target r
target_to (to_upvalue slot) = upvalue_target slot
target_to (to_global number) = global_target number
target_to (to_part on key x y) = index_target (value_of on) (operand_of key)

abbrev pub targets_to : List Destination → List TargetValue
targets_to [] = []
targets_to (d ∷ ds) = target_to d ∷ targets_to ds

abbrev pub place_to : Destination → stores.Place
place_to (to_local r) = stores.Place.Local r
place_to (to_upvalue slot) = stores.Place.Upvalue slot
place_to (to_global number) = stores.Place.Global number
place_to (to_part on key x y) = stores.Place.Index x y

abbrev pub store_to : (pc : ℕ) → Destination → Store
store_to pc d = record { pc = pc; place = place_to d }

-- the name of a global, which the function has
pub record IsGlobalName (f : Function) (number : ℕ) (text : Text) : Type 0 where
  pub there : slice_get f.of.constants number ≡ Some (Constant.Text text)
  pub named : is_name text ≡ true

-- ---- their parts

-- what is kept stands in a field of a word: a constant that the function has, a local with a name, or a register of the step, where so many locals are below it and these entries stand in it; it leaves those when it is taken as a part of a target
abbrev pub HeldAt : Function → (count : ℕ) → (listed : List ℕ) → Entries → Kept → (x : ℕ) → Entries → Type 0
HeldAt f count listed entries (in_word number) x behind = (x ≡ number + 256) × (number < length f.of.constants) × (behind ≡ entries)
HeldAt f count listed entries (in_local r) x behind = (x ≡ r) × (r < count) × (count ≤ 250) × (text : Text) × (local_name (place f.of listed f.short) r ≡ Some text) × (behind ≡ entries)
HeldAt f count listed entries (in_next entry v) x behind =
    (n : ℕ) × (x ≡ count + n) × (x < 250) × (slice_get entries n ≡ Some entry) × (single_of entry ≡ Some v) × (behind ≡ slice_set entries n (left_of entry))

-- the function has a name for it; or a table and a key stand in these entries, and leave those
abbrev pub IsThere : Function → (count : ℕ) → (listed : List ℕ) → Entries → Destination → Entries → Type 0
IsThere f count listed entries (to_local r) behind = (r < count) × (text : Text) × (local_name (place f.of listed f.short) r ≡ Some text) × (behind ≡ entries)
IsThere f count listed entries (to_upvalue slot) behind = (text : Text) × (upvalue_name (place f.of listed f.short) slot ≡ Some text) × (behind ≡ entries)
IsThere f count listed entries (to_global number) behind = (text : Text) × IsGlobalName f number text × (behind ≡ entries)
IsThere f count listed entries (to_part on key x y) behind = (mid : Entries) × IsValueKept on × HeldAt f count listed entries on x mid × HeldAt f count listed mid key y behind

-- from the first one on
abbrev pub AreThere : Function → (count : ℕ) → (listed : List ℕ) → Entries → List Destination → Entries → Type 0
AreThere f count listed entries [] behind = behind ≡ entries
AreThere f count listed entries (d ∷ ds) behind = (mid : Entries) × IsThere f count listed entries d mid × AreThere f count listed mid ds behind

-- ---- the registers that they use

-- the register of the step in a field of a word is used
abbrev pub with_used : (count : ℕ) → Kept → (x : ℕ) → List Bool → List Bool
with_used count (in_next entry v) x used = slice_set used (x - count) true
with_used count kept x used = used

abbrev pub used_by : (count : ℕ) → Destination → List Bool → List Bool
used_by count (to_part on key x y) used = with_used count key y (with_used count on x used)
used_by count d used = used

-- from the last one back
abbrev pub used_by_all : (count : ℕ) → List Destination → List Bool → List Bool
used_by_all count [] used = used
used_by_all count (d ∷ ds) used = used_by count d (used_by_all count ds used)

-- how many are not used yet
abbrev pub unused : List Bool → ℕ
unused [] = 0
unused (true ∷ used) = unused used
unused (false ∷ used) = suc (unused used)

-- behind the first store, where so many values are not stored yet; these parts of targets are used, and these registers of values
abbrev pub first_stored : (pc : ℕ) → Destination → (parts : List Bool) → (left : ℕ) → (used : List Bool) → Assigning
first_stored pc d parts left used = record { stores = store_to pc d ∷ []; low = length parts + left; used = parts ++ (replicate left false ++ used); left = unused parts + left }

-- none of so many parts is used but those of this target
abbrev pub parts_used : (count : ℕ) → (parts : ℕ) → Destination → List Bool
parts_used count parts d = used_by count d (replicate parts false)

-- ---- the words of their stores

abbrev pub store_piece : Destination → (r : ℕ) → Piece
store_piece (to_local x) r = Piece.Abc Op.Move x r 0
store_piece (to_upvalue slot) r = Piece.Abc Op.SetUpval r slot 0
store_piece (to_global number) r = Piece.Abx Op.SetGlobal r number
store_piece (to_part on key x y) r = Piece.Abc Op.SetTable x y r

abbrev pub StoreWordAt : Fn → Destination → (r : ℕ) → Stretch
StoreWordAt g d r = WordAt g (store_piece d r)

-- registers from r on are stored there, from the last one back
abbrev pub StoreWordsAt : Fn → (r : ℕ) → List Destination → Stretch
StoreWordsAt g r [] = Same
StoreWordsAt g r (d ∷ ds) = Seq (StoreWordsAt g (suc r) ds) (StoreWordAt g d r)

-- a store takes the name of a global, and a key that is a constant
abbrev pub seen_with : Destination → ℕ → ℕ
seen_with (to_part on key x y) n = max n (counted y)
seen_with d n = named_behind (target_to d) n

abbrev pub seen_with_all : List Destination → ℕ → ℕ
seen_with_all [] n = n
seen_with_all (d ∷ ds) n = seen_with d (seen_with_all ds n)

-- ---- what is written of the values

abbrev pub assigned_written : Function → (taken : ℕ) → Assigned → Situation → WroteList
assigned_written f n to s =
    if can_write_values (place_in_step f s) s.left to.values && can_write_last (place_in_step f s) (left_by_values to.values s.left) to.last
    then Some (words_assigned (place_in_step f s) n s.left to.values to.all to.last, taken_behind_last to.last (taken_behind_values to.values n), with_left (left_by_last to.last (left_by_values to.values s.left)) s)
    else None

-- of what stands in the registers of the step, and of what goes straight to the last one of so many targets, these values are written
abbrev pub WritesValues : Function → Entries → Option Straight → (last : Destination) → (count : ℕ) → Assigned → Type 0
WritesValues f entries straight last count to =
    (written : List Store) (n : ℕ) (s : Situation) → first_place written ≡ Some (place_to last) → length written ≡ count → assigned_values f written n entries straight s ≡ assigned_written f n to s
