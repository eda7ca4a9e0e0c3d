-- Behind the targets of an assignment the lowest register of the step is wanted: by the first word of a value, or by a store.
use Rattle.std.proofs.Common.{◌≡◌, ◌⊎◌, ℕ, zero, suc, ◌+◌, ◌<◌, ◌≤◌, ◌||◌, nat_le, Bool, true, false, List, [], ◌∷◌, length, refl, sym, ap, ◌∙◌, subst, subst₂, arith, le-leb, lt-ltb, inl, inr, is_some}
use Rattle.lua_tree.specs.Syntax as syntax
use Rattle.lua_tree.specs.Syntax.{Expression, Expressions, field_expression, index_expression, name_expression, no_expressions}
use Rattle.lua_tree.specs.WellFormed.{depth_of_expression, depth_of_expressions}
use Rattle.opcode.specs.declared.op.Op.{Op}
use Rattle.opcode.specs.declared.word.Instr.{Instr}
use Rattle.core_expr.specs.Places.{place}
use Rattle.core_expr.specs.Values.{OperandValue}
use Rattle.recover_expr.specs.Effects.{is_from, makes_value, reads_from}
use Rattle.recover_expr.specs.Entries.{Entries}
use Rattle.recover_expr.specs.Items.{all_stay, is_so, stores_alone_as}
use Rattle.recover_expr.specs.Situation.{Function, Situation, instr_at}
use Rattle.scheme.specs.Expressions.{Target, name_target, part_target}
use Rattle.scheme.specs.Making.{in_globals, in_register, in_upvalue}
use Rattle.scheme.specs.Statements.{clashes, is_part_of}
use Rattle.scheme.specs.declared.making.Active.{Active}
use Rattle.scheme.specs.declared.making.Piece.{Piece}
use Rattle.scheme_stands.specs.Expressions.{OneAt, PartTargetAt, RkAt, RkTextAt, local_at}
use Rattle.scheme_stands.specs.Relation.{all_related, related}
use Rattle.scheme_stands.specs.Statements.{CopiesAt, CopyBy, EachStoredAt, NoTargetsAt, StoreAt, StoreRegisterAt, TargetsAt}
use Rattle.scheme_stands.specs.Words.{Fn, Spot, Stretch, WordAt, instr_by}
use Rattle.reads_back.specs.Acted.{AreActTargets, IsActTarget}
use Rattle.reads_back.specs.Cores.{AllHaveCores, Counted, HasCore}
use Rattle.reads_back.proofs.BehindWords.{HasLocals}
use Rattle.reads_back.proofs.Comes.{BeginsOrNone, IsWanted, ReadsCore}
use Rattle.reads_back.proofs.EachStored.{EachAt, all_fit, all_said, destinations_of, each_at, is_said}
use Rattle.reads_back.proofs.FirstWords.{BeginsFor, value_first}
use Rattle.reads_back.proofs.GivenLists.{AllRead, all_forward}
use Rattle.reads_back.proofs.HeldOperands.{IsTaken, ReadsHeld, operand_held, rk_held, text_held}
use Rattle.reads_back.proofs.LastStored.{store_reads}
use Rattle.reads_back.proofs.NameReads.{AreListed}
use Rattle.reads_back.proofs.StoredTargets.{Destination, IsThere, StoreWordAt, StoreWordsAt, store_piece}
use Rattle.reads_back.proofs.TargetsCome.{Fits, ReadsTarget, ReadsTargets}
use Rattle.reads_back.proofs.TargetsStored.{count_words}
use Rattle.reads_back.proofs.Tests.{and_not, both_hold, or_first, or_second}
use Rattle.reads_back.proofs.ValueReads.{each_read, reads_all}
use Rattle.reads_back.proofs.WordsLater.{value_later}
use Rattle.reads_back.proofs.WordsBegin.{begins_wants, instr_is, store_wants, word_wants}
use Rattle.reads_back.proofs.WordsRead.{IsFunction, IsQuiet, abc_is_read, abx_is_read}

-- ---- the words of stores

module _ {f : Function} {g : Fn} (is_function : IsFunction f g) where
  pub store_next : (d : Destination) (r : ℕ) (p q : Spot) → StoreWordAt g d r p q → q.pc ≡ suc p.pc
  store_next d r p q at = let word : WordAt g (store_piece d r) p q = at in word.next

  -- the first of several stores reads a register
  pub first_reads : (base : ℕ) (ds : List Destination) → 0 < length ds → (r : ℕ) (p q : Spot) → base ≤ r → r + length ds ≤ 250 → StoreWordsAt g r ds p q → (is_so (λ i. reads_from i base) (instr_at f p.pc) ≡ true) × (p.pc < q.pc)
  first_reads base [] some r p q above low at = absurd (omega (arith, some))
  first_reads base (d ∷ []) some r p q above low at =
      let there : at.mid.pc ≡ p.pc = at.first_at.pc in
      (ap (λ (pc : ℕ). is_so (λ i. reads_from i base) (instr_at f pc)) (sym there) ∙ store_reads base d r at.mid q is_function above (omega (arith, low)) at.second_at, omega (arith, there, store_next d r at.mid q at.second_at))
  first_reads base (d ∷ b ∷ ds) some r p q above low at =
      let rest = first_reads base (b ∷ ds) (omega arith) (suc r) p at.mid (omega (arith, above)) (omega (arith, low)) at.first_at in
      (rest.0, omega (arith, rest.1, store_next d r at.mid q at.second_at))

-- ---- the lowest register of the step is wanted

-- a word that makes a value for a local is a store
makes_alone : (op : Op) (i : Instr) (base : ℕ) → makes_value op ≡ true → i.a < base → stores_alone_as op i base ≡ true
makes_alone Op.SetGlobal i base makes below = refl
makes_alone Op.SetUpval i base makes below = refl
makes_alone Op.SetTable i base makes below = refl
makes_alone op i base makes below = both_hold _ _ makes (lt-ltb i.a base below)

-- a local that is a target is one of so many
abbrev IsBelow : (count : ℕ) → Target → Type 0
IsBelow count (name_target text (in_register r)) = r < count
IsBelow count place = Unit {0}

pub is_below : (f : Function) (count : ℕ) (listed : List ℕ) (entries behind : Entries) (place : Target) (d : Destination) → Fits place d → IsThere f count listed entries d behind → IsBelow count place
is_below f count listed entries behind (name_target text (in_register r)) d fits there = let local = subst (λ (d : Destination). IsThere f count listed entries d behind) fits there in local.0
is_below f count listed entries behind place d fits there = tt

module _ {f : Function} {g : Fn} {active : List Active} {listed : List ℕ} (is_function : IsFunction f g) (all : AreListed f g active listed) (e : Expression) (has : HasCore e) (few : depth_of_expression e ≤ 200) where
  value_reads : ReadsCore f g active listed e
  value_reads = (reads_all is_function all e has few).one

  -- the words up to the store are one or more
  pub stored_later : (place : Target) (free : ℕ) (p q : Spot) → StoreAt g place (related g e) active free p q → p.pc < q.pc
  stored_later (name_target text (in_register r)) free p q at = value_later is_function all e has few free r p q at
  stored_later (name_target text (in_upvalue slot)) free p q at = omega (arith, (operand_held is_function all e value_reads).forward free at.x at.free1 p at.mid at.operand_at, at.words_at.next)
  stored_later (name_target text in_globals) free p q at = let word = at.words_at.word in omega (arith, (operand_held is_function all e value_reads).forward free at.x at.free1 p at.mid at.operand_at, word.next)
  stored_later (part_target on key on_local key_local) free p q at = omega (arith, (rk_held is_function all e value_reads).forward free at.x at.free1 p at.mid at.operand_at, at.words_at.next)

  -- before the last value: by its first word, or by the store behind its own, which reads a register
  module _ (s : Situation) (locals : HasLocals active listed s) (q : Spot) (before : q.pc < f.last) (behind : is_so (λ i. reads_from i s.base) (instr_at f q.pc) ≡ true) (free : ℕ) (next : length s.entries ≡ 0 → free ≡ s.base + 1) (p : Spot)
      (stays : (pc : ℕ) → p.pc ≤ pc → pc ≤ q.pc → all_stay f s.scope pc ≡ true) where
    local_wants : (r : ℕ) → r < s.base → p.pc < q.pc → BeginsFor f free r p.pc q.pc → IsWanted f s p.pc
    local_wants r below value_on (inl begins) = begins_wants s (stays p.pc (omega arith) (omega (arith, value_on))) begins next
    local_wants r below value_on (inr alone) =
        store_wants f p.pc q.pc alone.instr s (stays p.pc (omega arith) (omega (arith, alone.next))) alone.there (makes_alone alone.instr.op alone.instr s.base alone.makes (omega (arith, alone.register, below))) alone.next before behind

    -- the word of the store is one that stores
    far_wants : {Is : Counted OperandValue} {to : (free x free1 : ℕ) → Stretch} (operand : ReadsHeld f g active listed Is to) (words : ℕ → Stretch) →
        ((x : ℕ) (mid : Spot) → words x mid q → (mid.pc < q.pc) × (all_stay f s.scope mid.pc ≡ true → IsWanted f s mid.pc)) → OneAt to free words p q → IsWanted f s p.pc
    far_wants operand words stores at =
        let store = stores at.x at.mid at.words_at in
        let on = operand.forward free at.x at.free1 p at.mid at.operand_at in
        by_operand at.mid (omega (arith, on, store.0)) (store.1 (stays at.mid.pc on (omega (arith, store.0)))) (operand.begins free at.x at.free1 p at.mid (omega (arith, store.0, before)) at.operand_at)
      where
        by_operand : {free1 : ℕ} (mid : Spot) → p.pc ≤ q.pc → IsWanted f s mid.pc → BeginsOrNone f free free1 p.pc mid.pc → IsWanted f s p.pc
        by_operand mid on wanted (inl none) = subst (IsWanted f s) (sym none.0) wanted
        by_operand mid on wanted (inr begins) = begins_wants s (stays p.pc (omega arith) on) begins next

    pub last_wants : (place : Target) → IsBelow (length active) place → StoreAt g place (related g e) active free p q → IsWanted f s p.pc
    last_wants (name_target text (in_register r)) below at = local_wants r (omega (arith, below, locals.base)) (value_later is_function all e has few free r p q at) (value_first is_function all e has few free r p q (omega (arith, before)) at)
    last_wants (name_target text (in_upvalue slot)) below at =
        far_wants (operand_held is_function all e value_reads) (StoreRegisterAt g (name_target text (in_upvalue slot)))
        (λ x mid at. (omega (arith, at.next), λ stay. store_wants f mid.pc q.pc (instr_by mid.pc (Piece.Abc Op.SetUpval x slot 0)) s stay (instr_is is_function at (abc_is_read is_function at)) refl (omega (arith, at.next)) before behind)) at
    last_wants (name_target text in_globals) below at =
        far_wants (operand_held is_function all e value_reads) (StoreRegisterAt g (name_target text in_globals))
        (λ x mid at. let word = at.word in
        (omega (arith, word.next), λ stay. store_wants f mid.pc q.pc (instr_by mid.pc (Piece.Abx Op.SetGlobal x at.number)) s stay (instr_is is_function word (abx_is_read is_function word)) refl (omega (arith, word.next)) before behind)) at
    last_wants (part_target on key on_local key_local) below at =
        far_wants (rk_held is_function all e value_reads) (StoreRegisterAt g (part_target on key on_local key_local))
        (λ x mid at. (omega (arith, at.next), λ stay. store_wants f mid.pc q.pc (instr_by mid.pc (Piece.Abc Op.SetTable on key x)) s stay (instr_is is_function at (abc_is_read is_function at)) refl (omega (arith, at.next)) before behind)) at

  -- one value that goes to the only target: its store reads a register of the target
  module _ (s : Situation) (locals : HasLocals active listed s) where
    stores_part : (t k v : ℕ) (p q : Spot) → all_stay f s.scope p.pc ≡ true → (s.base ≤ t) ⊎ ((s.base ≤ k) × (k < 256)) → WordAt g (Piece.Abc Op.SetTable t k v) p q → IsWanted f s p.pc
    stores_part t k v p q stay (inl table) at = word_wants s stay is_function at (abc_is_read is_function at) (or_first (nat_le s.base t) _ (le-leb s.base t table))
    stores_part t k v p q stay (inr key) at =
        word_wants s stay is_function at (abc_is_read is_function at) (or_second (nat_le s.base t) _ (or_first (is_from k s.base) _ (both_hold _ _ (le-leb s.base k key.0) (lt-ltb k 256 key.1))))

    taken_of_two : (free t free1 k free2 : ℕ) → s.base ≡ free → free < free2 → IsTaken free t free1 → IsTaken free1 k free2 → (s.base ≤ t) ⊎ ((s.base ≤ k) × (k < 256))
    taken_of_two free t free1 k free2 base more (inl none) (inl also) = absurd (omega (arith, more, none, also))
    taken_of_two free t free1 k free2 base more (inl none) (inr key) = inr (omega (arith, base, none, key.0), omega (arith, key.0, key.1))
    taken_of_two free t free1 k free2 base more (inr table) key = inl (omega (arith, base, table.0))

    part_wants : {Key : Counted OperandValue} (on : Expression) → ReadsCore f g active listed on → (key_at : List Active → (free x free1 : ℕ) → Stretch) → ReadsHeld f g active listed Key (key_at active) → (key_local : List Active → Spot → Bool) (to : Target) (free1 : ℕ) (p mid last q : Spot) →
        PartTargetAt g (related g on) key_at key_local active (length active) to free1 p mid → free1 ≡ suc (length active) → IsQuiet f s.scope last.pc q.pc → StoreAt g to (related g e) active free1 last q → IsWanted f s last.pc
    part_wants on on_reads key_at keys key_local to free1 p mid last q part more within at =
        let tables = operand_held is_function all on on_reads in
        let taken = taken_of_two (length active) part.t part.free1 part.k free1 locals.base (omega (arith, more)) (tables.takes (length active) part.t part.free1 p part.mid part.on_at) (keys.takes part.free1 part.k free1 part.mid mid part.key_at) in
        stored (is_some (local_at (related g on).form active p)) (key_local active part.mid) taken (subst (λ (to : Target). StoreAt g to (related g e) active free1 last q) part.is at)
      where
        stored : (on_local key_is_local : Bool) → (s.base ≤ part.t) ⊎ ((s.base ≤ part.k) × (part.k < 256)) → StoreAt g (part_target part.t part.k on_local key_is_local) (related g e) active free1 last q → IsWanted f s last.pc
        stored on_local key_is_local taken one =
            let word = one.words_at in
            let on = (rk_held is_function all e value_reads).forward free1 one.x one.free1 last one.mid one.operand_at in
            let stay = within.stays one.mid.pc on (omega (arith, word.next)) in
            by_operand one.mid (omega (arith, on, word.next)) (stores_part part.t part.k one.x one.mid q stay taken word) ((rk_held is_function all e value_reads).begins free1 one.x one.free1 last one.mid (omega (arith, within.within, word.next)) one.operand_at)
          where
            by_operand : {free2 : ℕ} (mid : Spot) → last.pc < q.pc → IsWanted f s mid.pc → BeginsOrNone f free1 free2 last.pc mid.pc → IsWanted f s last.pc
            by_operand mid later wanted (inl none) = subst (IsWanted f s) (sym none.0) wanted
            by_operand mid later wanted (inr begins) = begins_wants s (within.stays last.pc (omega arith) later) begins (λ none. omega (arith, more, locals.base))

    target_wants : (target : Expression) → IsActTarget target → ReadsTarget f g active listed target → (to : Target) (free1 : ℕ) (p mid last q : Spot) → (related g target).target active (length active) to free1 p mid → free1 ≡ suc (length active) → IsQuiet f s.scope last.pc q.pc →
        StoreAt g to (related g e) active free1 last q → IsWanted f s last.pc
    target_wants (name_expression line text) is reads to free1 p mid last q part more within at = absurd (omega (arith, part.at_free, more))
    target_wants (index_expression line on key) is reads to free1 p mid last q part more within at =
        part_wants on reads.0 (λ active. RkAt g active (related g key)) (rk_held is_function all key reads.1) (λ active p. is_some (local_at (related g key).form active p)) to free1 p mid last q part more within at
    target_wants (field_expression line on text) is reads to free1 p mid last q part more within at =
        part_wants on reads (λ active. RkTextAt g text) (text_held is_function text) (λ active p. false) to free1 p mid last q part more within at
    target_wants target is reads to free1 p mid last q part more within at = absurd is

-- ---- what the targets take

clashes_not : (x : ℕ) (to : Target) → clashes x (to ∷ []) ≡ false
clashes_not x to = ap (λ clash. clash || false) (and_not (is_part_of x to))

-- targets of which none clashes need no copy of a local
no_copies : (g : Fn) (to : List Target) → ((x : ℕ) → clashes x to ≡ false) → (count : ℕ) (places : List Target) (free free1 : ℕ) (p q : Spot) → CopiesAt g count to places free free1 p q → NoTargetsAt to places free free1 p q
no_copies g to none zero places free free1 p q at = at
no_copies g to none (suc count) places free free1 p q at =
    let before = no_copies g to none count at.between free at.free1 p at.mid at.earlier_at in
    let behind = subst (λ (clash : Bool). CopyBy clash g count at.between places at.free1 free1 at.mid q) (none count) at.later_at in
    record {
      is = behind.is ∙ before.is;
      at_free = behind.at_free ∙ before.at_free;
      same = record { pc = behind.same.pc ∙ before.same.pc; ahead = behind.same.ahead ∙ before.same.ahead; functions = behind.same.functions ∙ before.same.functions };
    }

taken_low : {free x free1 : ℕ} → IsTaken free x free1 → free ≤ 250 → free1 ≤ 250
taken_low (inl same) low = omega (arith, same, low)
taken_low (inr next) low = omega (arith, next.1, next.2)

copy_fits : (clash : Bool) (g : Fn) → g.size ≤ 250 → (x : ℕ) (to places : List Target) (free free1 : ℕ) (p q : Spot) → free ≤ 250 → CopyBy clash g x to places free free1 p q → free1 ≤ 250
copy_fits true g few x to places free free1 p q low at = omega (arith, at.at_free, at.room, few)
copy_fits false g few x to places free free1 p q low at = omega (arith, at.at_free, low)

pub copies_fit : (g : Fn) → g.size ≤ 250 → (count : ℕ) (to places : List Target) (free free1 : ℕ) (p q : Spot) → free ≤ 250 → CopiesAt g count to places free free1 p q → free1 ≤ 250
copies_fit g few zero to places free free1 p q low at = omega (arith, at.at_free, low)
copies_fit g few (suc x) to places free free1 p q low at =
    copy_fits (clashes x to) g few x at.between places at.free1 free1 at.mid q (copies_fit g few x to at.between free at.free1 p at.mid low at.earlier_at) at.later_at

module _ {f : Function} {g : Fn} {active : List Active} {listed : List ℕ} (is_function : IsFunction f g) (all : AreListed f g active listed) where
  part_fits : {Key : Counted OperandValue} (on : Expression) → ReadsCore f g active listed on → (key_at : List Active → (free x free1 : ℕ) → Stretch) → ReadsHeld f g active listed Key (key_at active) → (key_local : List Active → Spot → Bool) (to : Target) (free free1 : ℕ) (p q : Spot) →
      PartTargetAt g (related g on) key_at key_local active free to free1 p q → free ≤ 250 → free1 ≤ 250
  part_fits on reads key_at keys key_local to free free1 p q at low =
      taken_low (keys.takes at.free1 at.k free1 at.mid q at.key_at) (taken_low ((operand_held is_function all on reads).takes free at.t at.free1 p at.mid at.on_at) low)

  target_fits : (target : Expression) → IsActTarget target → ReadsTarget f g active listed target → (to : Target) (free free1 : ℕ) (p q : Spot) → (related g target).target active free to free1 p q → free ≤ 250 → free1 ≤ 250
  target_fits (name_expression line text) is reads to free free1 p q at low = omega (arith, at.at_free, low)
  target_fits (index_expression line on key) is reads to free free1 p q at low =
      part_fits on reads.0 (λ active. RkAt g active (related g key)) (rk_held is_function all key reads.1) (λ active p. is_some (local_at (related g key).form active p)) to free free1 p q at low
  target_fits (field_expression line on text) is reads to free free1 p q at low = part_fits on reads (λ active. RkTextAt g text) (text_held is_function text) (λ active p. false) to free free1 p q at low
  target_fits target is reads to free free1 p q at low = absurd is

  pub targets_fit : (targets : Expressions) → AreActTargets targets → ReadsTargets f g active listed targets → (to : List Target) (free free1 : ℕ) (p q : Spot) → TargetsAt (all_related g targets) active to free free1 p q → free ≤ 250 → free1 ≤ 250
  targets_fit no_expressions are reads to free free1 p q at low = omega (arith, at.at_free, low)
  targets_fit (syntax.expression target targets) are reads to free free1 p q at low =
      targets_fit targets are.1 reads.1 at.others at.free1 free1 at.mid q at.others_at (target_fits target are.0 reads.0 at.target free at.free1 p at.mid at.target_at low)

  -- the only target takes registers: the lowest one is wanted by the value or its store
  single_wants : (targets : Expressions) → AreActTargets targets → ReadsTargets f g active listed targets → length (all_related g targets) ≡ 1 → (e : Expression) → HasCore e → depth_of_expression e ≤ 200 → (s : Situation) → HasLocals active listed s →
      (to places : List Target) (free1 free2 : ℕ) (p mid last q : Spot) → TargetsAt (all_related g targets) active to (length active) free1 p mid → CopiesAt g (length active) to places free1 free2 mid last → free2 ≡ suc (length active) → IsQuiet f s.scope last.pc q.pc →
      EachStoredAt g places (related g e ∷ []) active free2 last q → IsWanted f s last.pc
  single_wants (syntax.expression target no_expressions) are reads one e has few s locals to places free1 free2 p mid last q at copies_at more within stores =
      let only : to ≡ at.target ∷ [] = at.is ∙ ap (λ (others : List Target). at.target ∷ others) at.others_at.is in
      let copies = no_copies g (at.target ∷ []) (λ x. clashes_not x at.target) (length active) places free1 free2 mid last (subst (λ (to : List Target). CopiesAt g (length active) to places free1 free2 mid last) only copies_at) in
      let free : free2 ≡ at.free1 = copies.at_free ∙ at.others_at.at_free in
      target_wants is_function all e has few s locals target are.0 reads.0 at.target at.free1 p at.mid last q at.target_at (omega (arith, free, more)) within
      (subst₂ (λ (places : List Target) (free : ℕ). EachStoredAt g places (related g e ∷ []) active free last q) copies.is free stores)
  single_wants no_expressions are reads one e has few s locals to places free1 free2 p mid last q at copies_at more within stores = cc
  single_wants (syntax.expression target (syntax.expression other targets)) are reads one e has few s locals to places free1 free2 p mid last q at copies_at more within stores = absurd (omega (arith, one))

-- ---- as many values as targets

module _ {f : Function} {g : Fn} {active : List Active} {listed : List ℕ} (is_function : IsFunction f g) (all : AreListed f g active listed) where
  module _ (es : Expressions) (few : depth_of_expressions es ≤ 199) (ds : List Destination) (free : ℕ) (p q : Spot) (at : EachAt g active ds es free p q) where
    abbrev pub above : ℕ
    above = free + length (all_related g at.front)

    pub fronts : AllRead f g active listed 200 at.front
    fronts = each_read is_function all at.front at.parts.has_front (omega arith) (omega (arith, few, at.parts.shallow_front))

    pub last_read : ReadsCore f g active listed at.last
    last_read = (reads_all is_function all at.last at.parts.has_last (omega (arith, few, at.parts.shallow_last))).one

    pub front_on : p.pc ≤ at.mid.pc
    front_on = all_forward f g active listed 200 at.front fronts free p at.mid at.parts.front_at

    pub last_on : at.mid.pc < at.stored.pc
    last_on = stored_later is_function all at.last at.parts.has_last (omega (arith, few, at.parts.shallow_last)) at.place above at.mid at.stored at.last_at

    pub others_on : at.stored.pc ≤ q.pc
    others_on = omega (arith, count_words g free at.vs at.stored q at.others_at)

  pub each_forward : (places : List Target) (es : Expressions) → AllHaveCores es → depth_of_expressions es ≤ 199 → 0 < length places → length (all_related g es) ≡ length places → (free : ℕ) (p q : Spot) → EachStoredAt g places (all_related g es) active free p q → p.pc < q.pc
  each_forward places es has few some same free p q at =
      let ds = destinations_of g places in
      let each = each_at g active places ds es (all_said g places) (all_fit g places) has some same free p q at in
      omega (arith, front_on es few ds free p q each, last_on es few ds free p q each, others_on es few ds free p q each)

  -- whatever targets there are
  pub each_wants : (targets es : Expressions) → AreActTargets targets → ReadsTargets f g active listed targets → AllHaveCores es → depth_of_expressions es ≤ 199 → 0 < length (all_related g targets) → length (all_related g es) ≡ length (all_related g targets) → (s : Situation) → HasLocals active listed s →
      (to places : List Target) (free1 free2 : ℕ) (p mid last q : Spot) → length places ≡ length (all_related g targets) → TargetsAt (all_related g targets) active to (length active) free1 p mid → CopiesAt g (length active) to places free1 free2 mid last →
      free2 ≡ suc (length active) → IsQuiet f s.scope last.pc q.pc → EachStoredAt g places (all_related g es) active free2 last q → IsWanted f s last.pc
  each_wants targets (syntax.expression e no_expressions) are reads has few some same s locals to places free1 free2 p mid last q counts at copies more within stores =
      single_wants is_function all targets are reads (sym same) e has.0 (omega (arith, few)) s locals to places free1 free2 p mid last q at copies more within stores
  each_wants targets (syntax.expression e (syntax.expression d es)) are reads has few some same s locals to (place ∷ other ∷ places) free1 free2 p mid last q counts at copies more within stores =
      let words = stores.others in
      let rest = each_forward (other ∷ places) (syntax.expression d es) has.1 (omega (arith, few)) (omega arith) (omega (arith, same, counts)) (free2 + 1) stores.mid words.mid words.first_at in
      let next = store_next is_function _ free2 words.mid q (is_said g place free2 words.mid q words.second_at) in
      let first = (reads_all is_function all e has.0 (omega (arith, few))).one in
      let on = first.forward free2 free2 last stores.mid stores.first in
      begins_wants s (within.stays last.pc (omega arith) (omega (arith, on, rest, next))) (first.begins free2 last stores.mid (omega (arith, rest, next, within.within)) stores.first) (λ none. omega (arith, more, locals.base))
  each_wants targets (syntax.expression e (syntax.expression d es)) are reads has few some same s locals to [] free1 free2 p mid last q counts at copies more within stores = absurd (omega (arith, counts, some))
  each_wants targets (syntax.expression e (syntax.expression d es)) are reads has few some same s locals to (place ∷ []) free1 free2 p mid last q counts at copies more within stores = absurd (omega (arith, counts, same))
  each_wants targets no_expressions are reads has few some same s locals to places free1 free2 p mid last q counts at copies more within stores = absurd (omega (arith, same, some))
