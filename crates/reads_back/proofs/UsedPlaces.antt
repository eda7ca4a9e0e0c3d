-- The stores of an assignment use the lowest register of the statement: they store it, or it is a part of a target.
use Rattle.std.proofs.Common.{◌≡◌, ℕ, zero, suc, ◌+◌, ◌<◌, ◌≤◌, ◌&&◌, Bool, true, false, nat_lt, List, [], ◌∷◌, ◌++◌, length, length-append, length-set, Option, Some, None, refl, sym, ap, ap₂, ◌∙◌, subst, arith, inl, inr, ◌⊎◌, if◌then◌else◌}
use Rattle.std.proofs.Math.Bool.{or_assoc}
use Rattle.std.proofs.lemmas.Bool.Decides.{nat_tests}
use Rattle.std.proofs.lemmas.List.Folds.{list_any-append}
use Rattle.std.specs.List.{list_any}
use Rattle.std.specs.Prelude.{◌==◌, ◌||◌, slice_get, slice_set}
use Rattle.recover_expr.specs.Entries.{Entries, is_temporary, place_in}
use Rattle.recover_expr.specs.Situation.{Function, Situation, see, word_at}
use Rattle.recover_expr.specs.Stores.{Assigning, StoredValue, add, add_further, are_all, is_unused, operand_stored, register_stored, store_of, use_part, use_part_at, use_place, use_target, use_unused}
use Rattle.recover_expr.specs.Assigning.{further_store, further_stores}
use Rattle.recover_expr.specs.declared.stores.Place.{Place}
use Rattle.recover_expr.specs.declared.stores.Store.{Store}
use Rattle.reads_back.proofs.EachSome.{Each, each_either, each_map, each_next, each_none, each_of, each_some, each_tested, each_then, each_where}
use Rattle.reads_back.proofs.OwnWords.{sees_entries}
use Rattle.reads_back.proofs.PartsUsed.{fewer_unused}
use Rattle.reads_back.proofs.ScopesRead.{sees_kept}
use Rattle.reads_back.proofs.StoredTargets.{unused}
use Rattle.reads_back.proofs.Tests.{first_of_both, not_so, or_first, or_second, second_of_both}

-- ---- parts of targets in the lowest register

abbrev pub is_lowest : Option ℕ → Bool
is_lowest None = false
is_lowest (Some zero) = true
is_lowest (Some (suc place)) = false

abbrev pub part_lowest : (base operand : ℕ) → Bool
part_lowest base o = is_temporary base o && is_lowest (place_in base o)

abbrev pub place_lowest : (base : ℕ) → Place → Bool
place_lowest base (Place.Index on key) = part_lowest base on || part_lowest base key
place_lowest base place = false

abbrev pub stores_lowest : (base : ℕ) → List Store → Bool
stores_lowest base stores = list_any (λ (store : Store). place_lowest base store.place) stores

-- ---- places that are used

-- from one to the other places are used, the lowest only where this says so
record Uses (lowest : Bool) (a b : Assigning) : Type 0 where
  stores : b.stores ≡ a.stores
  low : b.low ≡ a.low
  left : a.left ≡ unused a.used → b.left ≡ unused b.used
  fewer : unused b.used ≤ unused a.used
  as_many : length b.used ≡ length a.used
  first : slice_get b.used 0 ≡ Some true → (slice_get a.used 0 ≡ Some true) ⊎ (lowest ≡ true)

uses_none : (lowest : Bool) (a : Assigning) → Uses lowest a a
uses_none lowest a = record { stores = refl; low = refl; left = λ is. is; fewer = omega arith; as_many = refl; first = λ is. inl is }

uses_then : {one more : Bool} {a b c : Assigning} → Uses one a b → Uses more b c → Uses (one || more) a c
uses_then {one} {more} {a} {b} {c} first second =
    let few = first.fewer in
    let fewer = second.fewer in
    record {
      stores = second.stores ∙ first.stores;
      low = second.low ∙ first.low;
      left = λ is. second.left (first.left is);
      fewer = omega (arith, few, fewer);
      as_many = second.as_many ∙ first.as_many;
      first = λ is. earlier (second.first is);
    }
  where
    earlier : (slice_get b.used 0 ≡ Some true) ⊎ (more ≡ true) → (slice_get a.used 0 ≡ Some true) ⊎ ((one || more) ≡ true)
    earlier (inl before) = here (first.first before)
      where
        here : (slice_get a.used 0 ≡ Some true) ⊎ (one ≡ true) → (slice_get a.used 0 ≡ Some true) ⊎ ((one || more) ≡ true)
        here (inl old) = inl old
        here (inr lowest) = inr (or_first one more lowest)
    earlier (inr lowest) = inr (or_second one more lowest)

set_lowest : (used : List Bool) (place : ℕ) → slice_get (slice_set used place true) 0 ≡ Some true → (slice_get used 0 ≡ Some true) ⊎ (is_lowest (Some place) ≡ true)
set_lowest used zero is = inr refl
set_lowest [] (suc place) is = inl is
set_lowest (one ∷ used) (suc place) is = inl is

place_uses : (place : ℕ) (a : Assigning) → Uses (is_lowest (Some place)) a (use_place place a)
place_uses place a = by (slice_get a.used place) refl
  where
    by : (there : Option Bool) → slice_get a.used place ≡ there → Uses (is_lowest (Some place)) a (use_unused place a there)
    by None is = uses_none _ a
    by (Some true) is = uses_none _ a
    by (Some false) is =
        let fewer = fewer_unused a.used place is in
        record { stores = refl; low = refl; left = λ left. omega (arith, left, fewer); fewer = omega (arith, fewer); as_many = length-set a.used place true; first = λ set. set_lowest a.used place set }

part_uses : (base o : ℕ) (a : Assigning) → Each (Uses (part_lowest base o) a) (use_part base o a)
part_uses base o a = by (place_in base o)
  where
    on : (place : ℕ) (temporary : Bool) → Each (Uses (temporary && is_lowest (Some place)) a) (if temporary then (if nat_lt place (length a.used) then Some (use_place place a) else None) else Some a)
    on place true = each_where (nat_lt place (length a.used)) (each_some (place_uses place a))
    on place false = each_some (uses_none false a)

    by : (place : Option ℕ) → Each (Uses (is_temporary base o && is_lowest place) a) (use_part_at base o a place)
    by None = each_some (uses_none _ a)
    by (Some place) = on place (is_temporary base o)

target_uses : (base : ℕ) (place : Place) (a : Assigning) → Each (Uses (place_lowest base place) a) (use_target base place a)
target_uses base (Place.Index on key) a = each_then (part_uses base on a) (λ b first. each_of (part_uses base key b) (λ c second. uses_then first second))
target_uses base place a = each_some (uses_none _ a)

-- ---- stores that are read

-- so many places are not used yet, and the lowest is used only where it is stored or a part of a target
pub record Accounts (base : ℕ) (a : Assigning) : Type 0 where
  pub left : a.left ≡ unused a.used
  pub some : 0 < length a.used
  pub first : slice_get a.used 0 ≡ Some true → (is_lowest (Some a.low) || stores_lowest base a.stores) ≡ true

pub record Added (base : ℕ) (a b : Assigning) : Type 0 where
  pub accounts : Accounts base b
  pub fewer : unused b.used ≤ unused a.used
  pub many : length b.stores + b.low ≡ suc (length a.stores + a.low)

pub add_counts : (base : ℕ) (store : Store) (a : Assigning) → Accounts base a → Each (Added base a) (add base store a)
add_counts base store a accounts = each_map _ (target_uses base store.place a) (λ b uses.
    let fewer = uses.fewer in
    let as_many : length b.used ≡ length a.used = uses.as_many in
    let some = accounts.some in
    let more : length (b.stores ++ store ∷ []) ≡ length b.stores + 1 = length-append b.stores (store ∷ []) in
    let many : length b.stores ≡ length a.stores = ap length uses.stores in
    let low = uses.low in
    record {
      accounts = record { left = uses.left accounts.left; some = omega (arith, some, as_many); first = λ set. lowest b uses (uses.first set) };
      fewer = fewer;
      many = omega (arith, more, many, low);
    })
  where
    appended : (stores : List Store) → stores_lowest base (stores ++ store ∷ []) ≡ (stores_lowest base stores || (place_lowest base store.place || false))
    appended stores = list_any-append (λ (store : Store). place_lowest base store.place) stores (store ∷ [])

    lowest : (b : Assigning) → Uses (place_lowest base store.place) a b → (slice_get a.used 0 ≡ Some true) ⊎ (place_lowest base store.place ≡ true) → (is_lowest (Some b.low) || stores_lowest base (b.stores ++ store ∷ [])) ≡ true
    lowest b uses (inl before) =
        let old : (is_lowest (Some b.low) || stores_lowest base b.stores) ≡ true = ap₂ (λ (low : ℕ) (stores : List Store). is_lowest (Some low) || stores_lowest base stores) uses.low uses.stores ∙ accounts.first before in
        ap (λ stored. is_lowest (Some b.low) || stored) (appended b.stores) ∙ sym (or_assoc (is_lowest (Some b.low)) (stores_lowest base b.stores) (place_lowest base store.place || false)) ∙ or_first _ _ old
    lowest b uses (inr part) =
        or_second (is_lowest (Some b.low)) (stores_lowest base (b.stores ++ store ∷ [])) (appended b.stores ∙ or_second (stores_lowest base b.stores) (place_lowest base store.place || false) (or_first (place_lowest base store.place) false part))

pub record Further (base : ℕ) (a b : Assigning) : Type 0 where
  pub accounts : Accounts base b
  pub fewer : unused b.used < unused a.used
  pub many : length b.stores + b.low ≡ length a.stores + a.low

unused_there : (there : Option Bool) → is_unused there ≡ true → there ≡ Some false
unused_there None is = not_so is
unused_there (Some true) is = not_so is
unused_there (Some false) is = refl

low_is : (place low : ℕ) → (place + 1 == low) ≡ true → low ≡ suc place
low_is place low is = grind (arith, nat_tests)

pub further_counts : (base : ℕ) (store : Store) (stored : StoredValue) (a : Assigning) → Accounts base a → Each (Further base a) (add_further base store stored a)
further_counts base store (operand_stored o) a accounts = each_none
further_counts base store (register_stored place) a accounts = each_tested ((place + 1 == a.low) && is_unused (slice_get a.used place)) (λ holds.
    let low = low_is place a.low (first_of_both (place + 1 == a.low) (is_unused (slice_get a.used place)) holds) in
    let there = unused_there (slice_get a.used place) (second_of_both (place + 1 == a.low) (is_unused (slice_get a.used place)) holds) in
    let uses = place_uses place a in
    let as_many : length (use_place place a).used ≡ length a.used = uses.as_many in
    let some = accounts.some in
    let begins : Accounts base (record (use_place place a) { low = place }) = record { left = uses.left accounts.left; some = omega (arith, some, as_many); first = λ set. lowest low (uses.first set) } in
    let fewer : unused a.used ≡ suc (unused (use_place place a).used) = fewer_unused a.used place there ∙ ap (λ (there : Option Bool). suc (unused (use_unused place a there).used)) (sym there) in
    let stores : length (use_place place a).stores ≡ length a.stores = ap length uses.stores in
    each_of (add_counts base store (record (use_place place a) { low = place }) begins) (λ b added.
    let few = added.fewer in
    let many = added.many in
    record { accounts = added.accounts; fewer = omega (arith, few, fewer); many = omega (arith, many, stores, low) }))
  where
    lowest : a.low ≡ suc place → (slice_get a.used 0 ≡ Some true) ⊎ (is_lowest (Some place) ≡ true) → (is_lowest (Some place) || stores_lowest base (use_place place a).stores) ≡ true
    lowest low (inl before) =
        let stored : stores_lowest base a.stores ≡ true = ap (λ (low : ℕ). is_lowest (Some low) || stores_lowest base a.stores) (sym low) ∙ accounts.first before in
        or_second (is_lowest (Some place)) _ (ap (stores_lowest base) (place_uses place a).stores ∙ stored)
    lowest low (inr is) = or_first (is_lowest (Some place)) _ is

-- ---- all stores of the assignment

-- all places are used, and these entries stand there
pub record AllUsed (base : ℕ) (entries : Entries) (total : ℕ) (q : Assigning × ℕ × Situation) : Type 0 where
  pub accounts : Accounts base q.0
  pub none : q.0.left ≡ 0
  pub many : length q.0.stores + q.0.low ≡ total
  pub at : q.2.base ≡ base
  pub same : q.2.entries ≡ entries

-- one store more
record OneMore (base : ℕ) (entries : Entries) (a : Assigning) (q : Assigning × ℕ × Situation) : Type 0 where
  further : Further base a q.0
  at : q.2.base ≡ base
  same : q.2.entries ≡ entries

one_more : (f : Function) (a : Assigning) (pc : ℕ) (s : Situation) → Accounts s.base a → Each (OneMore s.base s.entries a) (further_store f a pc s)
one_more f a pc s accounts = each_where (nat_lt pc f.last) (each_next (word_at f pc) (λ w. each_next (store_of f w (see w.instr s)) (λ store.
    let seen = (sees_kept w.instr s).base in
    each_map _ (subst (λ (base : ℕ). Each (Further s.base a) (add_further base store.0 store.1 a)) (sym seen) (further_counts s.base store.0 store.1 a accounts)) (λ b further. record { further = further; at = seen; same = sees_entries w.instr s }))))

no_more : (left : ℕ) → (left == 0) ≡ true → left ≡ 0
no_more left is = grind (arith, nat_tests)

pub all_counted : (f : Function) (count : ℕ) (p : Assigning × ℕ × Situation) → Accounts p.2.base p.0 → unused p.0.used ≤ count → Each (AllUsed p.2.base p.2.entries (length p.0.stores + p.0.low)) (further_stores f count p)
all_counted f zero p accounts few = let left = accounts.left in each_some (record { accounts = accounts; none = omega (arith, left, few); many = refl; at = refl; same = refl })
all_counted f (suc count) p accounts few =
    each_either (are_all p.0) (λ all. each_some (record { accounts = accounts; none = no_more p.0.left all; many = refl; at = refl; same = refl }))
    (each_then (one_more f p.0 p.1 p.2 accounts) (λ q one.
    let fewer = one.further.fewer in
    each_of (all_counted f count q (subst (λ (base : ℕ). Accounts base q.0) (sym one.at) one.further.accounts) (omega (arith, fewer, few))) (λ r all.
    record { accounts = subst (λ (base : ℕ). Accounts base r.0) one.at all.accounts; none = all.none; many = all.many ∙ one.further.many; at = all.at ∙ one.at; same = all.same ∙ one.same })))
