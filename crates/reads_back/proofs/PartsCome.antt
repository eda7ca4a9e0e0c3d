-- Targets whose parts stand among entries of the step: those of the first targets may be taken, and the others still stand.
use Rattle.std.proofs.Common.{◌≡◌, ℕ, zero, suc, ◌+◌, ◌-◌, ◌<◌, ◌≤◌, ◌⊎◌, max, Bool, true, false, List, [], ◌∷◌, ◌++◌, length, Some, refl, sym, ap, ap₂, ◌∙◌, subst, arith, inl, inr, ⊎_elim}
use Rattle.std.proofs.lemmas.List.{length-replicate}
use Rattle.std.proofs.lemmas.Option.{same_Some}
use Rattle.std.specs.Prelude.{replicate, slice_get, slice_set}
use Rattle.lua_num.specs.Bytes.{Text}
use Rattle.proto.specs.declared.parts.Constant.{Constant}
use Rattle.core_expr.specs.Places.{local_name, place, upvalue_name}
use Rattle.core_expr.specs.Targets.{TargetValue}
use Rattle.recover_expr.specs.Entries.{Entries, EntryValue, is_maker, single_of}
use Rattle.recover_expr.specs.Items.{all_stay}
use Rattle.recover_expr.specs.Locals.{Scope}
use Rattle.recover_expr.specs.Situation.{Function, Situation}
use Rattle.scheme.specs.Expressions.{Target, name_target, part_target}
use Rattle.scheme.specs.Making.{in_globals, in_register, in_upvalue}
use Rattle.scheme_stands.specs.Words.{Fn}
use Rattle.reads_back.specs.Acted.{all_named_behind, taken_behind_targets}
use Rattle.reads_back.specs.Cores.{HasNumber}
use Rattle.reads_back.proofs.BehindWords.{SameLocals}
use Rattle.reads_back.proofs.Comes.{BeginsOrNone, IsWanted}
use Rattle.reads_back.proofs.HeldOperands.{Kept, in_word, in_local, in_next}
use Rattle.reads_back.proofs.PartsRead.{left_of}
use Rattle.reads_back.proofs.PartsUsed.{all_used_length, part_length}
use Rattle.reads_back.proofs.Reaches.{Reaches}
use Rattle.reads_back.proofs.StoredTargets.{AreThere, Destination, HeldAt, IsGlobalName, IsThere, seen_with_all, targets_to, to_global, to_local, to_part, to_upvalue, used_by, used_by_all, with_used}
use Rattle.reads_back.proofs.StoresRead.{IsValueKept}
use Rattle.reads_back.proofs.ValueWords.{next_free}
use Rattle.reads_back.proofs.WordsBegin.{begins_same, begins_wants}
use Rattle.reads_back.proofs.WordsRead.{IsQuiet, stays_to}

pub before_or_behind : (n place : ℕ) → (n < place) ⊎ (place ≤ n)
before_or_behind n zero = inr (omega arith)
before_or_behind zero (suc place) = inl (omega arith)
before_or_behind (suc n) (suc place) = ⊎_elim (λ before. inl (omega (arith, before))) (λ behind. inr (omega (arith, behind))) (before_or_behind n place)

-- ---- lists

-- another place is set, or the same one to what stands there
set_elsewhere : {A : Type 0} (xs : List A) (n m : ℕ) (x y : A) → slice_get xs m ≡ Some x → (n ≡ m → y ≡ x) → slice_get (slice_set xs n y) m ≡ Some x
set_elsewhere [] n m x y there same = there
set_elsewhere (z ∷ xs) zero zero x y there same = ap Some (same refl)
set_elsewhere (z ∷ xs) zero (suc m) x y there same = there
set_elsewhere (z ∷ xs) (suc n) zero x y there same = there
set_elsewhere (z ∷ xs) (suc n) (suc m) x y there same = set_elsewhere xs n m x y there (λ is. same (ap suc is))

set_there : {A : Type 0} (xs : List A) (n : ℕ) (y : A) → n < length xs → slice_get (slice_set xs n y) n ≡ Some y
set_there [] n y within = absurd (omega (arith, within))
set_there (x ∷ xs) zero y within = refl
set_there (x ∷ xs) (suc n) y within = set_there xs n y (omega (arith, within))

all_true : (used : List Bool) (count : ℕ) → length used ≡ count → ((n : ℕ) → n < count → slice_get used n ≡ Some true) → used ≡ replicate count true
all_true [] zero counts all = refl
all_true [] (suc count) counts all = absurd (omega (arith, counts))
all_true (one ∷ used) zero counts all = absurd (omega (arith, counts))
all_true (one ∷ used) (suc count) counts all =
    ap₂ (λ (one : Bool) (used : List Bool). one ∷ used) (same_Some one true (all 0 (omega arith))) (all_true used count (omega (arith, counts)) (λ n below. all (suc n) (omega (arith, below))))

-- what stands in the first entries stands in the others
abbrev pub Grows : (entries more : Entries) → Type 0
Grows entries more = (n : ℕ) (entry : EntryValue) → slice_get entries n ≡ Some entry → slice_get more n ≡ Some entry

pub grows_by : (entries more : Entries) → Grows entries (entries ++ more)
grows_by (entry ∷ entries) more zero other there = there
grows_by (entry ∷ entries) more (suc n) other there = grows_by entries more n other there
grows_by [] more n other there = cc

-- ---- words that follow

-- words go on from a register to another; where there are any the first one makes a value for that register, or for the second one above it
pub record Leads (f : Function) (free free1 first last : ℕ) : Type 0 where
  pub forward : first ≤ last
  pub up : free ≤ free1
  pub begins : last ≤ f.last → BeginsOrNone f free free1 first last

begins_then : {f : Function} {free free1 free2 first mid last : ℕ} → BeginsOrNone f free free1 first mid → BeginsOrNone f free1 free2 mid last → BeginsOrNone f free free2 first last
begins_then (inr begins) rest = inr begins
begins_then (inl none) (inl more) = inl (none.0 ∙ more.0, more.1 ∙ none.1)
begins_then (inl none) (inr begins) = inr (begins_same (sym none.1) none.0 begins)

pub leads_then : {f : Function} {free free1 free2 first mid last : ℕ} → Leads f free free1 first mid → Leads f free1 free2 mid last → Leads f free free2 first last
leads_then one two = record {
  forward = omega (arith, one.forward, two.forward);
  up = omega (arith, one.up, two.up);
  begins = λ within. begins_then (one.begins (omega (arith, two.forward, within))) (two.begins within);
}

pub leads_nowhere : {f : Function} {free free1 first last : ℕ} → free1 ≡ free → last ≡ first → Leads f free free1 first last
leads_nowhere at_free same = record { forward = omega (arith, same); up = omega (arith, at_free); begins = λ within. inl (sym same, at_free) }

-- no local is over behind words that go to a register, and what stands alone in the next one is wanted there
abbrev pub WantedBehind : Function → Situation → (free free1 last : ℕ) → Type 0
WantedBehind f s free free1 last = (all_stay f s.scope last ≡ true) × (free1 ≡ suc free → IsWanted f s last)

-- what is wanted behind words is wanted before them, or by the first one
pub leads_wanted : {f : Function} {free free1 free2 first mid last : ℕ} (s : Situation) → IsQuiet f s.scope first last → first ≤ mid → Leads f free1 free2 mid last → free ≡ next_free s →
    WantedBehind f s free free2 last → WantedBehind f s free free1 mid
leads_wanted {f} {free} {free1} {free2} {first} {mid} {last} s quiet from leads next wanted = (stay, λ one. by one (leads.begins quiet.within))
  where
    stay : all_stay f s.scope mid ≡ true
    stay = stays_to quiet wanted.0 mid from leads.forward

    by : free1 ≡ suc free → BeginsOrNone f free1 free2 mid last → IsWanted f s mid
    by one (inl none) = subst (IsWanted f s) (sym none.0) (wanted.1 (none.1 ∙ one))
    by one (inr begins) = begins_wants s stay begins (λ none. omega (arith, one, next, none))

-- ---- where parts stand

-- What is kept is a constant that the function has, a local with a name, or stands among entries, where so many locals are below them. The places of those that do not stay when they are taken go up, from a lowest one on.
abbrev pub KeptIn : Function → (count : ℕ) → (listed : List ℕ) → Entries → (low : ℕ) → Kept → (x high : ℕ) → Type 0
KeptIn f count listed entries low (in_word number) x high = (x ≡ number + 256) × (number < length f.of.constants) × (low ≤ high)
KeptIn f count listed entries low (in_local r) x high = (x ≡ r) × (r < count) × (count ≤ 250) × (low ≤ high) × (text : Text) × (local_name (place f.of listed f.short) r ≡ Some text)
KeptIn f count listed entries low (in_next entry v) x high =
    (n : ℕ) × (x ≡ count + n) × (x < 250) × (slice_get entries n ≡ Some entry) × (single_of entry ≡ Some v) × (((low ≤ n) × (suc n ≤ high)) ⊎ ((left_of entry ≡ entry) × (low ≤ high)))

-- a table that stands in a register as a constructor is lower than its key
abbrev pub IsLower : (on : Kept) → (x : ℕ) → (key : Kept) → (y : ℕ) → Type 0
IsLower (in_next entry v) x (in_next other w) y = is_maker entry ≡ true → x < y
IsLower on x key y = Unit {0}

pub record PartPlaced (f : Function) (count : ℕ) (listed : List ℕ) (entries : Entries) (low t k : ℕ) (on key : Kept) (x y high : ℕ) : Type 0 where
  pub at_on : x ≡ t
  pub at_key : y ≡ k
  pub value : IsValueKept on
  pub lower : IsLower on x key y
  pub mid : ℕ
  pub on_in : KeptIn f count listed entries low on x mid
  pub key_in : KeptIn f count listed entries mid key y high

-- a target of words is this one
abbrev pub IsPlaced : Function → Fn → (count : ℕ) → (listed : List ℕ) → Entries → (low : ℕ) → Target → Destination → (high : ℕ) → Type 0
IsPlaced f g count listed entries low (name_target text (in_register x)) (to_local r) high = (r ≡ x) × (r < count) × (local_name (place f.of listed f.short) r ≡ Some text) × (low ≤ high)
IsPlaced f g count listed entries low (name_target text (in_upvalue slot)) (to_upvalue u) high = (u ≡ slot) × (upvalue_name (place f.of listed f.short) u ≡ Some text) × (low ≤ high)
IsPlaced f g count listed entries low (name_target text in_globals) (to_global number) high = HasNumber g (Constant.Text text) number × IsGlobalName f number text × (low ≤ high)
IsPlaced f g count listed entries low (part_target t k on_local key_local) (to_part on key x y) high = PartPlaced f count listed entries low t k on key x y high
IsPlaced f g count listed entries low to d high = ⊥

-- from the first one on
abbrev pub ArePlaced : Function → Fn → (count : ℕ) → (listed : List ℕ) → Entries → (low : ℕ) → List Target → List Destination → Type 0
ArePlaced f g count listed entries low [] [] = Unit {0}
ArePlaced f g count listed entries low (to ∷ places) (d ∷ ds) = (mid : ℕ) × IsPlaced f g count listed entries low to d mid × ArePlaced f g count listed entries mid places ds
ArePlaced f g count listed entries low places ds = ⊥

-- ---- more entries

module _ (f : Function) (count : ℕ) (listed : List ℕ) (entries more : Entries) (grows : Grows entries more) where
  pub kept_grows : (kept : Kept) (low x high : ℕ) → KeptIn f count listed entries low kept x high → KeptIn f count listed more low kept x high
  kept_grows (in_word number) low x high at = at
  kept_grows (in_local r) low x high at = at
  kept_grows (in_next entry v) low x high at = (at.0, at.1, at.2, grows at.0 entry at.3, at.4, at.5)

  part_grows : {low t k x y high : ℕ} {on key : Kept} → PartPlaced f count listed entries low t k on key x y high → PartPlaced f count listed more low t k on key x y high
  part_grows {low} {t} {k} {x} {y} {high} {on} {key} at = record {
    at_on = at.at_on;
    at_key = at.at_key;
    value = at.value;
    lower = at.lower;
    mid = at.mid;
    on_in = kept_grows on low x at.mid at.on_in;
    key_in = kept_grows key at.mid y high at.key_in;
  }

  pub target_grows : (g : Fn) (low high : ℕ) (to : Target) (d : Destination) → IsPlaced f g count listed entries low to d high → IsPlaced f g count listed more low to d high
  target_grows g low high (name_target text (in_register x)) (to_local r) at = at
  target_grows g low high (name_target text (in_upvalue slot)) (to_upvalue u) at = at
  target_grows g low high (name_target text in_globals) (to_global number) at = at
  target_grows g low high (part_target t k on_local key_local) (to_part on key x y) at = part_grows at
  target_grows g low high to d at = absurd at

-- ---- parts are taken

-- these entries are still there by now, from a place on, and all that stay when they are taken
abbrev Agrees : (entries now : Entries) → (low : ℕ) → Type 0
Agrees entries now low = (n : ℕ) (entry : EntryValue) → slice_get entries n ≡ Some entry → (low ≤ n) ⊎ (left_of entry ≡ entry) → slice_get now n ≡ Some entry

pub agrees_all : (entries : Entries) (low : ℕ) → Agrees entries entries low
agrees_all entries low n entry there stays = there

lower : {A : Type 0} {low high n : ℕ} → low ≤ high → (high ≤ n) ⊎ A → (low ≤ n) ⊎ A
lower up (inl above) = inl (omega (arith, up, above))
lower up (inr stays) = inr stays

agrees_from : (entries now : Entries) (low high : ℕ) → low ≤ high → Agrees entries now low → Agrees entries now high
agrees_from entries now low high up agrees n entry there stays = agrees n entry there (lower up stays)

-- it goes, or stays when it is taken
abbrev Goes : (low n high : ℕ) → EntryValue → Type 0
Goes low n high entry = ((low ≤ n) × (suc n ≤ high)) ⊎ ((left_of entry ≡ entry) × (low ≤ high))

goes_up : (low n high : ℕ) (entry : EntryValue) → Goes low n high entry → low ≤ high
goes_up low n high entry (inl goes) = omega (arith, goes.0, goes.1)
goes_up low n high entry (inr stays) = stays.1

goes_there : (low n high : ℕ) (entry : EntryValue) → Goes low n high entry → (low ≤ n) ⊎ (left_of entry ≡ entry)
goes_there low n high entry (inl goes) = inl goes.0
goes_there low n high entry (inr stays) = inr stays.0

-- what is asked for behind it stays
goes_stays : (low n high : ℕ) (entry : EntryValue) → Goes low n high entry → (high ≤ n) ⊎ (left_of entry ≡ entry) → left_of entry ≡ entry
goes_stays low n high entry (inr stays) asked = stays.0
goes_stays low n high entry (inl goes) (inl above) = absurd (omega (arith, goes.1, above))
goes_stays low n high entry (inl goes) (inr stays) = stays

record Taken (f : Function) (count : ℕ) (listed : List ℕ) (entries now : Entries) (kept : Kept) (x high : ℕ) : Type 0 where
  behind : Entries
  held : HeldAt f count listed now kept x behind
  agrees : Agrees entries behind high

record TargetTaken (f : Function) (count : ℕ) (listed : List ℕ) (entries now : Entries) (d : Destination) (high : ℕ) : Type 0 where
  behind : Entries
  there : IsThere f count listed now d behind
  agrees : Agrees entries behind high

pub record AllTaken (f : Function) (count : ℕ) (listed : List ℕ) (now : Entries) (ds : List Destination) : Type 0 where
  pub behind : Entries
  pub there : AreThere f count listed now ds behind

module _ (f : Function) (count : ℕ) (listed : List ℕ) (entries : Entries) where
  kept_taken : (now : Entries) (kept : Kept) (low x high : ℕ) → KeptIn f count listed entries low kept x high → Agrees entries now low → Taken f count listed entries now kept x high
  kept_taken now (in_word number) low x high at agrees = record { behind = now; held = (at.0, at.1, refl); agrees = agrees_from entries now low high at.2 agrees }
  kept_taken now (in_local r) low x high at agrees = record { behind = now; held = (at.0, at.1, at.2, at.4, at.5, refl); agrees = agrees_from entries now low high at.3 agrees }
  kept_taken now (in_next entry v) low x high at agrees = record {
    behind = slice_set now at.0 (left_of entry);
    held = (at.0, at.1, at.2, agrees at.0 entry at.3 (goes_there low at.0 high entry at.5), at.4, refl);
    agrees = λ m other there stays.
        set_elsewhere now at.0 m other (left_of entry) (agrees m other there (lower (goes_up low at.0 high entry at.5) stays))
        (λ is.
        let same : entry ≡ other = same_Some entry other (sym at.3 ∙ ap (slice_get entries) is ∙ there) in
        let asked = subst (λ (e : EntryValue). (high ≤ at.0) ⊎ (left_of e ≡ e)) (sym same) (subst (λ (m : ℕ). (high ≤ m) ⊎ (left_of other ≡ other)) (sym is) stays) in
        goes_stays low at.0 high entry at.5 asked ∙ same);
  }

  target_taken : (g : Fn) (now : Entries) (low high : ℕ) (to : Target) (d : Destination) → IsPlaced f g count listed entries low to d high → Agrees entries now low → TargetTaken f count listed entries now d high
  target_taken g now low high (name_target text (in_register x)) (to_local r) at agrees = record { behind = now; there = (at.1, text, at.2, refl); agrees = agrees_from entries now low high at.3 agrees }
  target_taken g now low high (name_target text (in_upvalue slot)) (to_upvalue u) at agrees = record { behind = now; there = (text, at.1, refl); agrees = agrees_from entries now low high at.2 agrees }
  target_taken g now low high (name_target text in_globals) (to_global number) at agrees = record { behind = now; there = (text, at.1, refl); agrees = agrees_from entries now low high at.2 agrees }
  target_taken g now low high (part_target t k on_local key_local) (to_part on key x y) at agrees =
      let one = kept_taken now on low x at.mid at.on_in agrees in
      let two = kept_taken one.behind key at.mid y high at.key_in one.agrees in
      record { behind = two.behind; there = (one.behind, at.value, one.held, two.held); agrees = two.agrees }
  target_taken g now low high to d at agrees = absurd at

  -- one after the other
  pub are_there : (g : Fn) (now : Entries) (low : ℕ) (places : List Target) (ds : List Destination) → ArePlaced f g count listed entries low places ds → Agrees entries now low → AllTaken f count listed now ds
  are_there g now low [] [] at agrees = record { behind = now; there = refl }
  are_there g now low (to ∷ places) (d ∷ ds) at agrees =
      let one = target_taken g now low at.0 to d at.1 agrees in
      let rest = are_there g one.behind at.0 places ds at.2 one.agrees in
      record { behind = rest.behind; there = (one.behind, one.there, rest.there) }
  are_there g now low [] (d ∷ ds) at agrees = absurd at
  are_there g now low (to ∷ places) [] at agrees = absurd at

-- ---- the registers that are used

abbrev pub UsesKept : (count : ℕ) → Kept → (x n : ℕ) → Type 0
UsesKept count (in_next entry v) x n = x ≡ count + n
UsesKept count kept x n = ⊥

abbrev pub UsesTarget : (count : ℕ) → Destination → (n : ℕ) → Type 0
UsesTarget count (to_part on key x y) n = UsesKept count on x n ⊎ UsesKept count key y n
UsesTarget count d n = ⊥

-- one of the targets uses the register at this place
abbrev pub UsesAny : (count : ℕ) → List Destination → (n : ℕ) → Type 0
UsesAny count [] n = ⊥
UsesAny count (d ∷ ds) n = UsesTarget count d n ⊎ UsesAny count ds n

module _ (count n : ℕ) where
  kept_used : (kept : Kept) (x : ℕ) (used : List Bool) → n < length used → UsesKept count kept x n → slice_get (with_used count kept x used) n ≡ Some true
  kept_used (in_next entry v) x used within is =
      let at : x - count ≡ n = omega (arith, is) in
      ap (λ at. slice_get (slice_set used at true) n) at ∙ set_there used n true within
  kept_used (in_word number) x used within is = absurd is
  kept_used (in_local r) x used within is = absurd is

  kept_still : (kept : Kept) (x : ℕ) (used : List Bool) → slice_get used n ≡ Some true → slice_get (with_used count kept x used) n ≡ Some true
  kept_still (in_next entry v) x used is = set_elsewhere used (x - count) n true true is (λ same. refl)
  kept_still (in_word number) x used is = is
  kept_still (in_local r) x used is = is

  target_used : (d : Destination) (used : List Bool) → n < length used → UsesTarget count d n → slice_get (used_by count d used) n ≡ Some true
  target_used (to_part on key x y) used within (inl is) = kept_still key y (with_used count on x used) (kept_used on x used within is)
  target_used (to_part on key x y) used within (inr is) = kept_used key y (with_used count on x used) (omega (arith, within, part_length count on x used)) is
  target_used (to_local r) used within is = absurd is
  target_used (to_upvalue slot) used within is = absurd is
  target_used (to_global number) used within is = absurd is

  target_still : (d : Destination) (used : List Bool) → slice_get used n ≡ Some true → slice_get (used_by count d used) n ≡ Some true
  target_still (to_part on key x y) used is = kept_still key y (with_used count on x used) (kept_still on x used is)
  target_still d used is = is

  any_used : (ds : List Destination) (used : List Bool) → n < length used → UsesAny count ds n → slice_get (used_by_all count ds used) n ≡ Some true
  any_used [] used within is = absurd is
  any_used (d ∷ ds) used within (inl is) = target_used d (used_by_all count ds used) (omega (arith, within, all_used_length count ds used)) is
  any_used (d ∷ ds) used within (inr is) = target_still d (used_by_all count ds used) (any_used ds used within is)

-- they use them all
pub all_used : (count : ℕ) (ds : List Destination) (size : ℕ) → ((n : ℕ) → n < size → UsesAny count ds n) → used_by_all count ds (replicate size false) ≡ replicate size true
all_used count ds size uses =
    let counts = length-replicate size false in
    all_true (used_by_all count ds (replicate size false)) size (all_used_length count ds (replicate size false) ∙ counts) (λ n below. any_used count n ds (replicate size false) (omega (arith, below, counts)) (uses n below))

-- ---- what words come to

-- Words come to these entries, in which the targets stand.
pub record PartsCome (f : Function) (g : Fn) (count : ℕ) (listed : List ℕ) (Are : List TargetValue → Type 0) (places : List Target) (s : Situation) (free first last : ℕ) : Type 0 where
  pub ds : List Destination
  pub entries : Entries
  pub scope : Scope
  pub same : SameLocals s.scope scope
  pub seen : ℕ
  pub keys : ℕ
  pub reaches : Reaches f first s last (record s { scope = scope; entries = entries; seen = seen })
  pub counts : free ≡ count + length entries
  pub grows : Grows s.entries entries
  pub are : Are (targets_to ds)
  pub placed : ArePlaced f g count listed entries (length s.entries) places ds
  pub uses : (n : ℕ) → length s.entries ≤ n → n < length entries → UsesAny count ds n
  pub taken : taken_behind_targets (targets_to ds) s.seen ≡ max seen keys
  pub named : (n : ℕ) → seen_with_all ds n ≡ all_named_behind (targets_to ds) (max n keys)
