-- Which registers of the step the stores of an assignment use: those of the values, from the last one down, and those of the parts of their targets.
use Rattle.std.proofs.Common.{◌≡◌, ℕ, zero, suc, ◌+◌, ◌-◌, ◌<◌, ◌==◌, ◌&&◌, nat_le, nat_lt, Bool, true, false, List, [], ◌∷◌, ◌++◌, append-nil, append_assoc, get_or, length, length-append, Option, Some, None, refl, sym, ap, ap₂, ◌∙◌, arith, eq-eqb, le-leb, lt-ltb}
use Rattle.std.proofs.lemmas.Bool.Decides.{nat_tests}
use Rattle.std.proofs.lemmas.List.{length-replicate, length-set, replicate-append-replicate}
use Rattle.std.proofs.lemmas.Option.{same_Some, slice_get-get_or, slice_get_within}
use Rattle.std.specs.Prelude.{slice_get, slice_set, replicate, option_map, option_and_then, if◌then◌else◌}
use Rattle.recover_expr.specs.Entries.{Entries, is_temporary, place_in}
use Rattle.recover_expr.specs.Situation.{Function, Situation}
use Rattle.recover_expr.specs.Stores.{Assigning, add, add_further, and_store, from_register, is_unused, none_used, register_stored, straight, use_part, use_part_at, use_place, use_unused}
use Rattle.recover_expr.specs.declared.stores.Store.{Store}
use Rattle.reads_back.proofs.HeldOperands.{Kept, in_word, in_local, in_next}
use Rattle.reads_back.proofs.PartsRead.{left_of}
use Rattle.reads_back.proofs.StoredTargets.{AreThere, Destination, HeldAt, IsThere, first_stored, parts_used, store_to, to_global, to_local, to_part, to_upvalue, unused, used_by, used_by_all, with_used}
use Rattle.reads_back.proofs.StoresRead.{IsInStep, no_place}
use Rattle.reads_back.proofs.TableItems.{set_place}
use Rattle.reads_back.proofs.TakenEntries.{at_place}
use Rattle.reads_back.proofs.Tests.{and_not, both_hold}
use Rattle.reads_back.proofs.ValueWords.{place_of_next}

-- ---- lists

-- what stands in front is found and set there
pub get_front : {A : Type 0} (front behind : List A) (n : ℕ) → n < length front → slice_get (front ++ behind) n ≡ slice_get front n
get_front [] behind n within = absurd (omega arith)
get_front (x ∷ front) behind zero within = refl
get_front (x ∷ front) behind (suc n) within = get_front front behind n (omega arith)

pub set_front : {A : Type 0} (front behind : List A) (n : ℕ) (x : A) → n < length front → slice_set (front ++ behind) n x ≡ slice_set front n x ++ behind
set_front [] behind n x within = absurd (omega arith)
set_front (y ∷ front) behind zero x within = refl
set_front (y ∷ front) behind (suc n) x within = ap (λ rest. y ∷ rest) (set_front front behind n x (omega arith))

-- what is there already is set again
pub set_again : {A : Type 0} (xs : List A) (n : ℕ) (x : A) → slice_get xs n ≡ Some x → slice_set xs n x ≡ xs
set_again [] n x there = refl
set_again (y ∷ xs) zero x there = ap (λ y. y ∷ xs) (sym (same_Some y x there))
set_again (y ∷ xs) (suc n) x there = ap (λ rest. y ∷ rest) (set_again xs n x there)

-- ---- how many entries there are, and how many parts

pub held_length : (f : Function) (count : ℕ) (listed : List ℕ) (entries behind : Entries) (kept : Kept) (x : ℕ) → HeldAt f count listed entries kept x behind → length behind ≡ length entries
held_length f count listed entries behind (in_word number) x held = ap length held.2
held_length f count listed entries behind (in_local r) x held = ap length held.5
held_length f count listed entries behind (in_next entry v) x held = ap length held.5 ∙ length-set entries held.0 (left_of entry)

pub there_length : (f : Function) (count : ℕ) (listed : List ℕ) (entries behind : Entries) (d : Destination) → IsThere f count listed entries d behind → length behind ≡ length entries
there_length f count listed entries behind (to_local r) there = ap length there.3
there_length f count listed entries behind (to_upvalue slot) there = ap length there.2
there_length f count listed entries behind (to_global number) there = ap length there.2
there_length f count listed entries behind (to_part on key x y) there = held_length f count listed there.0 behind key y there.3 ∙ held_length f count listed entries there.0 on x there.2

pub all_there_length : (f : Function) (count : ℕ) (listed : List ℕ) (entries behind : Entries) (ds : List Destination) → AreThere f count listed entries ds behind → length behind ≡ length entries
all_there_length f count listed entries behind [] there = ap length there
all_there_length f count listed entries behind (d ∷ ds) there = all_there_length f count listed there.0 behind ds there.2 ∙ there_length f count listed entries there.0 d there.1

pub part_length : (count : ℕ) (kept : Kept) (x : ℕ) (parts : List Bool) → length (with_used count kept x parts) ≡ length parts
part_length count (in_word number) x parts = refl
part_length count (in_local r) x parts = refl
part_length count (in_next entry v) x parts = length-set parts (x - count) true

used_length : (count : ℕ) (d : Destination) (parts : List Bool) → length (used_by count d parts) ≡ length parts
used_length count (to_local r) parts = refl
used_length count (to_upvalue slot) parts = refl
used_length count (to_global number) parts = refl
used_length count (to_part on key x y) parts = part_length count key y (with_used count on x parts) ∙ part_length count on x parts

pub all_used_length : (count : ℕ) (ds : List Destination) (parts : List Bool) → length (used_by_all count ds parts) ≡ length parts
all_used_length count [] parts = refl
all_used_length count (d ∷ ds) parts = used_length count d (used_by_all count ds parts) ∙ all_used_length count ds parts

pub parts_length : (count parts : ℕ) (d : Destination) → length (parts_used count parts d) ≡ parts
parts_length count parts d = used_length count d (replicate parts false) ∙ length-replicate parts false

-- the last target uses its parts first
pub used_with_last : (count : ℕ) (ds : List Destination) (d : Destination) (parts : List Bool) → used_by_all count (ds ++ d ∷ []) parts ≡ used_by_all count ds (used_by count d parts)
used_with_last count [] d parts = refl
used_with_last count (e ∷ ds) d parts = ap (used_by count e) (used_with_last count ds d parts)

-- ---- registers that are left

-- these stores are read; of the registers of the step these hold parts of targets, so many values that are not stored yet, and these others
abbrev pub walked : List Store → (parts : List Bool) → (left : ℕ) → (used : List Bool) → Assigning
walked stores parts left used = record { stores = stores; low = length parts + left; used = parts ++ (replicate left false ++ used); left = unused parts + left }

pub none_unused : (n : ℕ) → unused (replicate n false) ≡ n
none_unused zero = refl
none_unused (suc n) = ap suc (none_unused n)

pub all_used : (n : ℕ) → unused (replicate n true) ≡ 0
all_used zero = refl
all_used (suc n) = all_used n

pub fewer_unused : (parts : List Bool) (n : ℕ) → slice_get parts n ≡ Some false → unused parts ≡ suc (unused (slice_set parts n true))
fewer_unused [] n there = cc
fewer_unused (true ∷ parts) zero there = cc
fewer_unused (false ∷ parts) zero there = refl
fewer_unused (true ∷ parts) (suc n) there = fewer_unused parts n there
fewer_unused (false ∷ parts) (suc n) there = ap suc (fewer_unused parts n there)

-- at first none is used
pub none_walked : (parts k : ℕ) → none_used (parts + k) ≡ walked [] (replicate parts false) k []
none_walked parts k =
    let used : replicate (parts + k) false ≡ replicate parts false ++ (replicate k false ++ []) =
    sym (replicate-append-replicate parts k false) ∙ ap (λ rest. replicate parts false ++ rest) (sym (append-nil (replicate k false))) in
    let low : parts + k ≡ length (replicate parts false) + k = omega (arith, length-replicate parts false) in
    let left : parts + k ≡ unused (replicate parts false) + k = omega (arith, none_unused parts) in
    ap (λ used. record { stores = []; low = parts + k; used = used; left = parts + k }) used
    ∙ ap₂ (λ (low left : ℕ). record { stores = []; low = low; used = replicate parts false ++ (replicate k false ++ []); left = left }) low left

-- the last register that is left is the first one not used below the others
more_unused : (n : ℕ) (used : List Bool) → replicate (suc n) false ++ used ≡ replicate n false ++ false ∷ used
more_unused zero used = refl
more_unused (suc n) used = ap (λ rest. false ∷ rest) (more_unused n used)

next_unused : (parts : List Bool) (k : ℕ) (used : List Bool) → parts ++ (replicate (suc k) false ++ used) ≡ (parts ++ replicate k false) ++ false ∷ used
next_unused parts k used = ap (λ rest. parts ++ rest) (more_unused k used) ∙ sym (append_assoc parts (replicate k false) (false ∷ used))

front_length : (parts : List Bool) (k : ℕ) → length parts + k ≡ length (parts ++ replicate k false)
front_length parts k = ap (λ (n : ℕ). length parts + n) (sym (length-replicate k false)) ∙ sym (length-append parts (replicate k false))

-- its value is stored
further_used : (base k : ℕ) (store : Store) (before : List Store) (parts used : List Bool) → add_further base store (register_stored (length parts + k)) (walked before parts (suc k) used) ≡ add base store (walked before parts k (true ∷ used))
further_used base k store before parts used =
    let n = length parts + k in
    let front = parts ++ replicate k false in
    let all = front ++ false ∷ used in
    let a : List Bool → Assigning = λ used. record { stores = before; low = length parts + suc k; used = used; left = unused parts + suc k } in
    let b : Assigning = record { stores = before; low = n; used = slice_set all n true; left = unused parts + suc k - 1 } in
    let next : n + 1 ≡ length parts + suc k = omega arith in
    let fewer : unused parts + suc k - 1 ≡ unused parts + k = omega arith in
    let there : slice_get all n ≡ Some false = ap (slice_get all) (front_length parts k) ∙ at_place front false used in
    let set : slice_set all n true ≡ parts ++ (replicate k false ++ true ∷ used) =
    ap (λ n. slice_set all n true) (front_length parts k) ∙ set_place front false true used ∙ append_assoc parts (replicate k false) (true ∷ used) in
    ap (λ used. add_further base store (register_stored n) (a used)) (next_unused parts k used)
    ∙ ap (λ there. if (n + 1 == length parts + suc k) && is_unused there then add base store (record (use_unused n (a all) there) { low = n }) else None) there
    ∙ ap (λ same. if same && true then add base store b else None) (eq-eqb (n + 1) (length parts + suc k) next)
    ∙ ap₂ (λ (used : List Bool) (left : ℕ). add base store (record { stores = before; low = n; used = used; left = left })) set fewer

-- ---- parts of targets

-- a part is used, or used again
place_used : (n k : ℕ) (is_used : Bool) (before : List Store) (parts used : List Bool) → n < length parts → slice_get parts n ≡ Some is_used → use_unused n (walked before parts k used) (Some is_used) ≡ walked before (slice_set parts n true) k used
place_used n k true before parts used within there = ap (λ parts. walked before parts k used) (sym (set_again parts n true there))
place_used n k false before parts used within there =
    let set = slice_set parts n true in
    let rest : List Bool = replicate k false ++ used in
    let low : length parts + k ≡ length set + k = omega (arith, length-set parts n true) in
    let left : unused parts + k - 1 ≡ unused set + k = omega (arith, fewer_unused parts n there) in
    ap (λ used. record { stores = before; low = length parts + k; used = used; left = unused parts + k - 1 }) (set_front parts rest n true within)
    ∙ ap₂ (λ (low left : ℕ). record { stores = before; low = low; used = set ++ rest; left = left }) low left

uses_place : (n k : ℕ) (before : List Store) (parts used : List Bool) → n < length parts → use_place n (walked before parts k used) ≡ walked before (slice_set parts n true) k used
uses_place n k before parts used within =
    let there : slice_get parts n ≡ Some (get_or parts n true) = slice_get-get_or parts n true within in
    ap (use_unused n (walked before parts k used)) (get_front parts (replicate k false ++ used) n within ∙ there) ∙ place_used n k (get_or parts n true) before parts used within there

not_under : (m n : ℕ) → n < suc m → nat_lt m n ≡ false
not_under m n over = grind (arith, nat_tests)

no_part : (base x : ℕ) (a : Assigning) (place : Option ℕ) → is_temporary base x ≡ false → use_part_at base x a place ≡ Some a
no_part base x a None high = refl
no_part base x a (Some place) high = ap (λ temporary. if temporary then (if nat_lt place (length a.used) then Some (use_place place a) else None) else Some a) high

module _ {f : Function} {count : ℕ} {listed : List ℕ} {s : Situation} (step : IsInStep f count listed s) (k : ℕ) (before : List Store) (used : List Bool) where
  part_used : (kept : Kept) (x : ℕ) (entries behind : Entries) (parts : List Bool) → HeldAt f count listed entries kept x behind → length parts ≡ length entries →
      use_part s.base x (walked before parts k used) ≡ Some (walked before (with_used count kept x parts) k used)
  part_used (in_word number) x entries behind parts held same =
      let far : nat_lt x 256 ≡ false = not_under x 256 (omega (arith, held.0)) in
      no_part s.base x (walked before parts k used) (place_in s.base x) (ap (λ small. nat_le s.base x && small) far ∙ and_not (nat_le s.base x))
  part_used (in_local r) x entries behind parts held same = ap (use_part_at s.base x (walked before parts k used)) (ap (place_in s.base) held.0 ∙ no_place step r held.1)
  part_used (in_next entry v) x entries behind parts held same =
      let n = held.0 in
      let a = walked before parts k used in
      let within : n < length parts = omega (arith, same, slice_get_within entries n entry held.3) in
      let there : n < length (parts ++ (replicate k false ++ used)) = omega (arith, within, length-append parts (replicate k false ++ used)) in
      let at : n ≡ x - count = omega (arith, held.1) in
      ap (use_part_at s.base x a) (place_of_next s.base n x (omega (arith, held.1, step.base)))
      ∙ ap (λ temporary. if temporary then (if nat_lt n (length a.used) then Some (use_place n a) else None) else Some a)
      (both_hold _ _ (le-leb s.base x (omega (arith, held.1, step.base))) (lt-ltb x 256 (omega (arith, held.2))))
      ∙ ap (λ within. if within then Some (use_place n a) else None) (lt-ltb n (length (parts ++ (replicate k false ++ used))) there)
      ∙ ap Some (uses_place n k before parts used within)
      ∙ ap (λ n. Some (walked before (slice_set parts n true) k used)) at

  -- a store uses the parts of its target
  target_added : (d : Destination) (pc : ℕ) (entries behind : Entries) (parts : List Bool) → IsThere f count listed entries d behind → length parts ≡ length entries →
      add s.base (store_to pc d) (walked before parts k used) ≡ Some (walked (before ++ store_to pc d ∷ []) (used_by count d parts) k used)
  target_added (to_local r) pc entries behind parts there same = refl
  target_added (to_upvalue slot) pc entries behind parts there same = refl
  target_added (to_global number) pc entries behind parts there same = refl
  target_added (to_part on key x y) pc entries behind parts there same =
      let store = store_to pc (to_part on key x y) in
      let mid : length (with_used count on x parts) ≡ length there.0 = part_length count on x parts ∙ same ∙ sym (held_length f count listed entries there.0 on x there.2) in
      ap (λ a. option_map (and_store store) (option_and_then (use_part s.base y) a)) (part_used on x entries there.0 parts there.2 same)
      ∙ ap (option_map (and_store store)) (part_used key y there.0 behind (with_used count on x parts) there.3 mid)

module _ {f : Function} {count : ℕ} {listed : List ℕ} {s : Situation} (step : IsInStep f count listed s) (d : Destination) (pc k : ℕ) (entries behind : Entries) (there : IsThere f count listed entries d behind) where
  -- the value in the last register that is left goes to a target
  pub further_added : (before : List Store) (parts used : List Bool) → length parts ≡ length entries →
      add_further s.base (store_to pc d) (register_stored (length parts + k)) (walked before parts (suc k) used) ≡ Some (walked (before ++ store_to pc d ∷ []) (used_by count d parts) k (true ∷ used))
  further_added before parts used same = further_used s.base k (store_to pc d) before parts used ∙ target_added step k before (true ∷ used) d pc entries behind parts there same

  -- the first store is that of a register, or needs none
  pub begins_in_register : (size : ℕ) → length entries + k < size → from_register s.base size (store_to pc d) (length entries + k) ≡ Some (first_stored pc d (parts_used count (length entries) d) k (true ∷ []))
  begins_in_register size below =
      let n = length entries + k in
      let store = store_to pc d in
      let none : List Bool = replicate (length entries) false in
      let next : n + 1 ≡ length entries + suc k = omega arith in
      let place : n ≡ length none + k = omega (arith, length-replicate (length entries) false) in
      ap (λ within. if within then add_further s.base store (register_stored n) (none_used (n + 1)) else None) (lt-ltb n size below)
      ∙ ap (λ (low : ℕ). add_further s.base store (register_stored n) (none_used low)) next
      ∙ ap (add_further s.base store (register_stored n)) (none_walked (length entries) (suc k))
      ∙ ap (λ (n : ℕ). add_further s.base store (register_stored n) (walked [] none (suc k) [])) place
      ∙ further_added [] none [] (length-replicate (length entries) false)

  pub begins_straight : straight s.base (length entries + k) (store_to pc d) ≡ Some (first_stored pc d (parts_used count (length entries) d) k [])
  begins_straight =
      ap (add s.base (store_to pc d)) (none_walked (length entries) k)
      ∙ target_added step k [] [] d pc entries behind (replicate (length entries) false) there (length-replicate (length entries) false)
