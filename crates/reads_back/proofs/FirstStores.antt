-- The first store of an assignment is no item of the constructor that its target indexes: the word behind it stores too, or the statement is over.
use Rattle.std.proofs.Common.{◌≡◌, ◌⊎◌, ℕ, suc, ◌+◌, ◌-◌, ◌<◌, ◌≤◌, nat_le, nat_lt, Bool, true, false, not, List, [], ◌∷◌, ◌&&◌, ◌||◌, ◌++◌, length, Option, Some, None, refl, sym, ap, ◌∙◌, subst, arith, inl, inr, ⊎_elim, le-leb, lt-ltb}
use Rattle.std.proofs.lemmas.Bool.{eqb-true}
use Rattle.std.proofs.lemmas.Option.{slice_get_within}
use Rattle.std.specs.Prelude.{if◌then◌else◌, option_and_then, slice_get}
use Rattle.recover_expr.specs.Constructors.{maker_at}
use Rattle.recover_expr.specs.Entries.{Entries, is_at, is_maker, is_place, is_single, is_temporary, place_in}
use Rattle.recover_expr.specs.Items.{below_operand, below_top, is_item_at, is_item_below, is_item_of_height, is_so, is_wanted, stores_as, stores_next}
use Rattle.recover_expr.specs.Locals.{starting}
use Rattle.recover_expr.specs.Situation.{Function, Situation, instr_at}
use Rattle.recover_expr.specs.declared.function.Word.{Word}
use Rattle.scheme_stands.specs.Words.{Fn, Spot}
use Rattle.reads_back.proofs.BehindWords.{SameLocals, starting_same}
use Rattle.reads_back.proofs.Comes.{IsOver}
use Rattle.reads_back.proofs.HeldOperands.{Kept, StandsIn, entries_in, in_local, in_next, in_word}
use Rattle.reads_back.proofs.PartsCome.{before_or_behind}
use Rattle.reads_back.proofs.PartsUsed.{get_front, held_length}
use Rattle.reads_back.proofs.StoredTargets.{AreThere, Destination, HeldAt, IsThere, StoreWordAt, StoreWordsAt, to_global, to_local, to_part, to_upvalue}
use Rattle.reads_back.proofs.StoresRead.{IsInStep, no_place}
use Rattle.reads_back.proofs.TableItems.{not_lower, wants_as_lowest}
use Rattle.reads_back.proofs.TargetsStored.{IsNoItem, count_words, store_word}
use Rattle.reads_back.proofs.Tests.{and_not, both_hold, first_of_both, nor, not_below, second_of_both}
use Rattle.reads_back.proofs.ValueWords.{place_of_next}
use Rattle.reads_back.proofs.WordsBegin.{instr_is, lowest_same}
use Rattle.reads_back.proofs.WordsRead.{IsFunction, abc_is_read, abx_is_read}

-- ---- what is known of the first store

-- where a constructor stands in the register of its table, that is the lowest, and nothing stands above it but the key
abbrev pub IsLowest : (base : ℕ) → Entries → Destination → Type 0
IsLowest base parts (to_part (in_next entry v) key x y) = (n : ℕ) → x ≡ base + n → is_at is_maker (slice_get parts n) ≡ true → (n ≡ 0) × (length parts ≤ suc (length (entries_in key)))
IsLowest base parts d = Unit {0}

-- behind the first store stands another where so many others are left; where none is, the statement is over
pub record Follows (f : Function) (s : Situation) (others : ℕ) (d : Destination) (next : ℕ) : Type 0 where
  pub stores : 0 < others → stores_next f s.base next ≡ true
  pub over : others ≡ 0 → IsOver f s.scope s.base next
  pub lowest : others ≡ 0 → IsLowest s.base s.entries d

-- a statement is over behind words too
pub over_same : {f : Function} {base pc : ℕ} (s t : Situation) → SameLocals s.scope t.scope → IsOver f s.scope base pc → IsOver f t.scope base pc
over_same {f} {base} {pc} s t same over = record { starts = starting_same f.of.locals pc same ∙ over.starts; unwanted = lowest_same f base pc same ∙ over.unwanted }

-- ---- how high the entries are without its operands

-- a key in a register of the step stands in one of the lowest, of which there are so many
abbrev KeyStands : (base size : ℕ) → Kept → (y : ℕ) → Type 0
KeyStands base size (in_next entry v) y = (m : ℕ) × (y ≡ base + m) × (y < 256) × (m < size)
KeyStands base size key y = is_temporary base y ≡ false

-- what is stored stands straight in the word, where so many entries stand; or it is in a register, with so many below it
abbrev pub ValueStands : (base height z : ℕ) → Entries → Type 0
ValueStands base height z entries = ((is_temporary base z ≡ false) × (length entries ≡ height)) ⊎ ((z ≡ base + height) × (z < 256))

abbrev IsHeight : (h : ℕ) → Option ℕ → Type 0
IsHeight h None = Unit {0}
IsHeight h (Some height) = height ≡ h

-- an operand in a register is on top there
on_top : (base m z height : ℕ) (some rest : Bool) → z ≡ base + m → (some && (is_place (place_in base z) (height - 1) && rest)) ≡ true → height - 1 ≡ m
on_top base m z height some rest at is =
    let there = first_of_both (is_place (place_in base z) (height - 1)) rest (second_of_both some _ is) in
    sym (eqb-true m (height - 1) (sym (ap (λ place. is_place place (height - 1)) (place_of_next base m z at)) ∙ there))

value_below : (base place height z : ℕ) (entries : Entries) → ValueStands base height z entries → IsHeight height (below_operand base place z entries (length entries))
value_below base place height z entries (inl (not, counts)) =
    subst (IsHeight height) (sym (ap (λ top. if top then below_top base place z entries (length entries) else Some (length entries)) not)) counts
value_below base place height z entries (inr (at, small)) =
    let some = nat_lt 0 (length entries) in
    let rest = is_at is_single (slice_get entries (length entries - 1)) && nat_lt place (length entries - 1) in
    let temporary : is_temporary base z ≡ true = both_hold _ _ (le-leb base z (omega (arith, at))) (lt-ltb z 256 small) in
    subst (IsHeight height) (sym (ap (λ top. if top then below_top base place z entries (length entries) else Some (length entries)) temporary))
    (by (some && (is_place (place_in base z) (length entries - 1) && rest)) (on_top base height z (length entries) some rest at))
  where
    by : (top : Bool) → (top ≡ true → length entries - 1 ≡ height) → IsHeight height (if top then Some (length entries - 1) else None)
    by true is = is refl
    by false is = tt

-- ---- it is no item

module _ (f : Function) (w : Word) (t : Situation) (n size others : ℕ) (at : w.instr.a ≡ t.base + n) (within : n < size) (stores : 0 < others → stores_next f t.base w.next ≡ true) (over : others ≡ 0 → IsOver f t.scope t.base w.next) where
  -- where others are left, their values stand above the constructor
  none_before : (height : ℕ) → 0 < others → suc n < height → is_item_below f w t n height ≡ false
  none_before height some above =
      let last = nat_lt 0 n || (nat_lt 0 (starting f.of.locals w.next t.scope) || is_wanted f t.scope t.base w) in
      ap (λ more. if more then not (stores_next f t.base w.next) else last) (lt-ltb (n + 1) height (omega (arith, above))) ∙ ap (λ stores. not stores) (stores some)

  none_last : (height : ℕ) → others ≡ 0 → n ≡ 0 → height ≤ 1 → is_item_below f w t n height ≡ false
  none_last height none lowest low =
      let ended = over none in
      let last = nat_lt 0 n || (nat_lt 0 (starting f.of.locals w.next t.scope) || is_wanted f t.scope t.base w) in
      ap (λ more. if more then not (stores_next f t.base w.next) else last) (not_lower (n + 1) height (omega (arith, low)))
      ∙ nor (nat_lt 0 n) _ (ap (λ n. nat_lt 0 n) lowest)
      (nor _ _ (ap (λ n. nat_lt 0 n) ended.starts) (wants_as_lowest f t.scope t.base w.next w (instr_at f w.next) (omega (arith, at, lowest)) refl ∙ ended.unwanted))

  straight_below : (height : ℕ) → (others ≡ 0 → (n ≡ 0) × (size ≤ 1)) → height ≡ size + others → is_item_below f w t n height ≡ false
  straight_below height lowest is =
      ⊎_elim (λ some. none_before height some (omega (arith, is, some, within))) (λ few. let none : others ≡ 0 = omega (arith, few) in let low = lowest none in none_last height none low.0 (omega (arith, is, none, low.1)))
      (before_or_behind 0 others)

  key_below : (key : Kept) (y height : ℕ) → KeyStands t.base size key y → (others ≡ 0 → (n ≡ 0) × (size ≤ suc (length (entries_in key)))) → height ≡ size + others →
      is_item_of_height f w t n (below_operand t.base n y t.entries height) ≡ false
  key_below (in_word number) y height not lowest is = ap (λ top. is_item_of_height f w t n (if top then below_top t.base n y t.entries height else Some height)) not ∙ straight_below height lowest is
  key_below (in_local r) y height not lowest is = ap (λ top. is_item_of_height f w t n (if top then below_top t.base n y t.entries height else Some height)) not ∙ straight_below height lowest is
  key_below (in_next entry v) y height stands lowest is =
      let some = nat_lt 0 height in
      let rest = is_at is_single (slice_get t.entries (height - 1)) && nat_lt n (height - 1) in
      let temporary : is_temporary t.base y ≡ true = both_hold _ _ (le-leb t.base y (omega (arith, stands.1))) (lt-ltb y 256 stands.2) in
      ap (λ top. is_item_of_height f w t n (if top then below_top t.base n y t.entries height else Some height)) temporary
      ∙ by (some && (is_place (place_in t.base y) (height - 1) && rest)) (on_top t.base stands.0 y height some rest stands.1)
    where
      by : (top : Bool) → (top ≡ true → height - 1 ≡ stands.0) → is_item_of_height f w t n (if top then Some (height - 1) else None) ≡ false
      by false top = refl
      by true top =
          let at_key : height - 1 ≡ stands.0 = top refl in
          let none : others ≡ 0 = omega (arith, is, at_key, stands.3) in
          let low = lowest none in
          none_last (height - 1) none low.0 (omega (arith, is, none, low.1))

  all_below : (key : Kept) (y : ℕ) (first : Option ℕ) → KeyStands t.base size key y → (others ≡ 0 → (n ≡ 0) × (size ≤ suc (length (entries_in key)))) → IsHeight (size + others) first →
      is_item_of_height f w t n (option_and_then (below_operand t.base n y t.entries) first) ≡ false
  all_below key y None stands lowest is = refl
  all_below key y (Some height) stands lowest is = key_below key y height stands lowest is

-- ---- the word of the store

-- a constant or a local is in no register of the step
far_away : (base y : ℕ) → 256 ≤ y → is_temporary base y ≡ false
far_away base y far = ap (λ small. nat_le base y && small) (not_lower y 256 far) ∙ and_not (nat_le base y)

lower_than : (base y : ℕ) → y < base → is_temporary base y ≡ false
lower_than base y below = ap (λ above. above && nat_lt y 256) (not_below y base below)

pub not_temporary : (f : Function) (count : ℕ) (listed : List ℕ) (base free z free1 : ℕ) (kept : Kept) → base ≡ count → StandsIn f count listed free z free1 kept → entries_in kept ≡ [] → is_temporary base z ≡ false
not_temporary f count listed base free z free1 (in_word number) is stands none = far_away base z (omega (arith, stands.0))
not_temporary f count listed base free z free1 (in_local r) is stands none = lower_than base z (omega (arith, is, stands.0, stands.1))
not_temporary f count listed base free z free1 (in_next entry v) is stands none = cc

module _ {f : Function} {count : ℕ} {listed : List ℕ} {t : Situation} (step : IsInStep f count listed t) where
  key_stands : (size : ℕ) (key : Kept) (y : ℕ) (mid behind : Entries) → length mid ≡ size → HeldAt f count listed mid key y behind → KeyStands t.base size key y
  key_stands size (in_word number) y mid behind same held = far_away t.base y (omega (arith, held.0))
  key_stands size (in_local r) y mid behind same held = lower_than t.base y (omega (arith, held.0, held.1, step.base))
  key_stands size (in_next entry v) y mid behind same held =
      let within : held.0 < length mid = slice_get_within mid held.0 entry held.3 in
      (held.0, omega (arith, held.1, step.base), omega (arith, held.2), omega (arith, same, within))

  -- what stands above the parts is taken for what is stored
  pub first_no_item : (s : Situation) (d : Destination) (others pc next z : ℕ) (parts behind more : Entries) → IsThere f count listed parts d behind → length parts ≡ length s.entries →
      t.entries ≡ s.entries ++ more → SameLocals s.scope t.scope → s.base ≡ t.base → next ≡ suc pc →
      Follows f s others d next → ValueStands t.base (length s.entries + others) z t.entries → IsNoItem f t pc z d
  first_no_item s (to_part (in_word number) key x y) others pc next z parts behind more there same are locals base is follows value = absurd there.1
  first_no_item s (to_part (in_local r) key x y) others pc next z parts behind more there same are locals base is follows value =
      ap (λ place. is_item_at f (store_word pc (to_part (in_local r) key x y) z) t (maker_at t.entries place)) (ap (place_in t.base) there.2.0 ∙ no_place step r there.2.1)
  first_no_item s (to_part (in_next entry v) key x y) others pc next z parts behind more there same are locals base is follows value =
      let w = store_word pc (to_part (in_next entry v) key x y) z in
      let n = there.2.0 in
      let at : x ≡ t.base + n = omega (arith, there.2.1, step.base) in
      let within : n < length s.entries = omega (arith, same, slice_get_within parts n entry there.2.3) in
      let stores : 0 < others → stores_next f t.base (suc pc) ≡ true = λ some. subst (λ (base : ℕ). stores_next f base (suc pc) ≡ true) base (subst (λ (pc : ℕ). stores_next f s.base pc ≡ true) is (follows.stores some)) in
      let over : others ≡ 0 → IsOver f t.scope t.base (suc pc) = λ none. over_same s t locals (subst (λ (base : ℕ). IsOver f s.scope base (suc pc)) base (subst (λ (pc : ℕ). IsOver f s.scope s.base pc) is (follows.over none))) in
      let front : slice_get t.entries n ≡ slice_get s.entries n = ap (λ entries. slice_get entries n) are ∙ get_front s.entries more n within in
      let key_there : KeyStands t.base (length s.entries) key y = key_stands (length s.entries) key y there.0 behind (held_length f count listed parts there.0 (in_next entry v) x there.2 ∙ same) there.3 in
      let by : (maker : Bool) → is_at is_maker (slice_get t.entries n) ≡ maker → is_item_at f w t (if maker then Some n else None) ≡ false =
      λ maker. elim maker as (λ maker. is_at is_maker (slice_get t.entries n) ≡ maker → is_item_at f w t (if maker then Some n else None) ≡ false) [
        | false ↦ λ is. refl
        | true ↦ λ is.
            all_below f w t n (length s.entries) others at within stores over key y (below_operand t.base n z t.entries (length t.entries)) key_there
            (λ none. follows.lowest none n (omega (arith, at, base)) (ap (is_at is_maker) (sym front) ∙ is)) (value_below t.base n (length s.entries + others) z t.entries value)
      ] in
      ap (λ place. is_item_at f w t (maker_at t.entries place)) (place_of_next t.base n x at) ∙ by (is_at is_maker (slice_get t.entries n)) refl
  first_no_item s (to_local r) others pc next z parts behind more there same are locals base is follows value = tt
  first_no_item s (to_upvalue slot) others pc next z parts behind more there same are locals base is follows value = tt
  first_no_item s (to_global number) others pc next z parts behind more there same are locals base is follows value = tt

-- ---- where other stores follow

module _ {f : Function} {g : Fn} (is_function : IsFunction f g) (count : ℕ) (listed : List ℕ) (base : ℕ) (same : base ≡ count) where
  store_stores : (d : Destination) (r : ℕ) (p q : Spot) (entries behind : Entries) → IsThere f count listed entries d behind → base ≤ r → r < 256 → StoreWordAt g d r p q → stores_next f base p.pc ≡ true
  store_stores (to_local x) r p q entries behind there above small at =
      let below : x < base = omega (arith, there.0, same) in
      ap (is_so (λ i. stores_as i.op i base)) (instr_is is_function at (abc_is_read is_function at)) ∙ lt-ltb x base below
  store_stores (to_upvalue slot) r p q entries behind there above small at = ap (is_so (λ i. stores_as i.op i base)) (instr_is is_function at (abc_is_read is_function at))
  store_stores (to_global number) r p q entries behind there above small at = ap (is_so (λ i. stores_as i.op i base)) (instr_is is_function at (abx_is_read is_function at))
  store_stores (to_part on key x y) r p q entries behind there above small at =
      ap (is_so (λ i. stores_as i.op i base)) (instr_is is_function at (abc_is_read is_function at)) ∙ both_hold _ _ (le-leb base r above) (lt-ltb r 256 small)

  -- the first of them stores
  others_store : (ds : List Destination) (r : ℕ) (p q : Spot) (entries behind : Entries) → 0 < length ds → AreThere f count listed entries ds behind → base ≤ r → r + length ds ≤ 250 → StoreWordsAt g r ds p q →
      stores_next f base p.pc ≡ true
  others_store [] r p q entries behind some there above low at = absurd (omega (arith, some))
  others_store (d ∷ []) r p q entries behind some there above low at = subst (λ (pc : ℕ). stores_next f base pc ≡ true) at.first_at.pc (store_stores d r at.mid q entries there.0 there.1 above (omega (arith, low)) at.second_at)
  others_store (d ∷ e ∷ ds) r p q entries behind some there above low at = others_store (e ∷ ds) (suc r) p at.mid there.0 behind (omega arith) there.2 (omega (arith, above)) (omega (arith, low)) at.first_at

  -- the last store is followed by the others, or the statement is over behind it
  pub follows_words : (s : Situation) (ds : List Destination) (d : Destination) (r : ℕ) (p q : Spot) (entries behind : Entries) → s.base ≡ base → AreThere f count listed entries ds behind →
      base ≤ r → r + length ds ≤ 250 → StoreWordsAt g r ds p q → IsOver f s.scope base q.pc → (length ds ≡ 0 → IsLowest base s.entries d) → Follows f s (length ds) d p.pc
  follows_words s ds d r p q entries behind is there above low at over lowest = record {
    stores = λ some. subst (λ (base : ℕ). stores_next f base p.pc ≡ true) (sym is) (others_store ds r p q entries behind some there above low at);
    over = λ none. subst (λ (base : ℕ). IsOver f s.scope base p.pc) (sym is) (subst (IsOver f s.scope base) (omega (arith, none, count_words g r ds p q at)) over);
    lowest = λ none. subst (λ (base : ℕ). IsLowest base s.entries d) (sym is) (lowest none);
  }
