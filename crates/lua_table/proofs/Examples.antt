-- The definitions, computed.
use Rattle.std.proofs.Common.{◌≡◌, ◌<◌, ◌+◌, ℕ, zero, suc, arith, true, false, [], ◌∷◌, Some, None, refl}
use Rattle.lua_model.specs.declared.Value.TheVariants.{Nil, Bool as Boolean}
use Rattle.lua_table.specs.Entries.{Entries, entry, has_place, with_entry, next_of, number_key, IsBorder, is_nil_value}
use Rattle.lua_table.specs.Laws.{IsWalk, live}

-- keys in the order of their first values; the value of 1 was set to nil
abbrev pairs : Entries
pairs = (number_key 2, number_key 20) ∷ (number_key 1, Nil) ∷ (Boolean true, number_key 30) ∷ []

-- a nil entry keeps its place, also where it gets a value again
kept : with_entry pairs (number_key 1) (number_key 10) ≡ (number_key 2, number_key 20) ∷ (number_key 1, number_key 10) ∷ (Boolean true, number_key 30) ∷ []
kept = refl

emptied : with_entry pairs (number_key 2) Nil ≡ (number_key 2, Nil) ∷ (number_key 1, Nil) ∷ (Boolean true, number_key 30) ∷ []
emptied = refl

-- a new key goes last, and nil on it changes nothing
appended : with_entry pairs (number_key 3) (Boolean false) ≡ (number_key 2, number_key 20) ∷ (number_key 1, Nil) ∷ (Boolean true, number_key 30) ∷ (number_key 3, Boolean false) ∷ []
appended = refl

not_appended : with_entry pairs (number_key 3) Nil ≡ pairs
not_appended = refl

-- the entry of a key, and whether it has a place
entries : (entry pairs (Boolean true) ≡ number_key 30) × (entry pairs (number_key 1) ≡ Nil) × (entry pairs (Boolean false) ≡ Nil)
entries = (refl, refl, refl)

placed : (has_place pairs (number_key 1) ≡ true) × (has_place pairs (number_key 3) ≡ false)
placed = (refl, refl)

-- the first pair, the one behind the nil entry, the end, and a key with no place
walked : (next_of pairs Nil ≡ Some (Some (number_key 2, number_key 20))) × (next_of pairs (number_key 2) ≡ Some (Some (Boolean true, number_key 30))) × (next_of pairs (Boolean true) ≡ Some None)
walked = (refl, refl, refl)

behind_nil : next_of pairs (number_key 1) ≡ Some (Some (Boolean true, number_key 30))
behind_nil = refl

unknown : next_of pairs (number_key 3) ≡ None
unknown = refl

whole_walk : IsWalk pairs Nil (live pairs)
whole_walk = (refl, (refl, refl))

-- the border: 0 where 1 has no value, and 2 once it has one
empty_border : IsBorder pairs 0
empty_border = record { ends = refl; goes = λ m l. absurd (omega arith) }

filled_border : IsBorder (with_entry pairs (number_key 1) (number_key 10)) 2
filled_border = record { ends = refl; goes = goes }
  where
    goes : (m : ℕ) → m < 2 → is_nil_value (entry (with_entry pairs (number_key 1) (number_key 10)) (number_key (m + 1))) ≡ false
    goes zero l = refl
    goes (suc zero) l = refl
    goes (suc (suc m)) l = absurd (omega arith)
