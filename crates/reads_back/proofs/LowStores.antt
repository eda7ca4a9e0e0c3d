-- How the words of an assignment begin: with the only word of it, or with a value for the free register; or `...` goes to several targets.
use Rattle.std.proofs.Common.{◌≡◌, ◌≤◌, ◌⊎◌, inl, inr, ℕ, suc, ◌+◌, ◌-◌, Bool, true, false, ◌||◌, nat_le, nat_lt, List, [], ◌∷◌, length, None, Some, refl, sym, ◌∙◌, arith, subst, lt-ltb}
use Rattle.std.specs.Prelude.{◌==◌}
use Rattle.lua_tree.specs.Syntax as syntax
use Rattle.lua_tree.specs.Syntax.{Expression, Expressions, no_expressions}
use Rattle.lua_tree.specs.WellFormed.{has_expressions}
use Rattle.opcode.specs.declared.op.Op.{Op}
use Rattle.opcode.specs.declared.word.Instr.{Instr}
use Rattle.recover_expr.specs.Effects.{is_from, makes_value, reads_from}
use Rattle.recover_expr.specs.Items.{further_words, stores_alone}
use Rattle.recover_expr.specs.Situation.{Function, instr_at}
use Rattle.scheme.specs.Expressions.{Target, count_field, name_target, part_target}
use Rattle.scheme.specs.Making.{in_globals, in_register, in_upvalue}
use Rattle.scheme.specs.declared.making.Active.{Active}
use Rattle.scheme.specs.declared.making.Piece.{Piece}
use Rattle.scheme_stands.specs.Lists.{AdjustAt, AdjustBy, FilledAt, NilsAt, rels_open}
use Rattle.scheme_stands.specs.Relation.{all_related, related}
use Rattle.scheme_stands.specs.Statements.{AssignAt, EachStoredAt, StoreAt, StoreRegisterAt, StoredFromAt, StoresBy}
use Rattle.scheme_stands.specs.Words.{Fn, IsRead, Seq, Spot, WordAt, instr_by}
use Rattle.reads_back.specs.Acted.{Assigns}
use Rattle.reads_back.specs.Cores.{AllHaveCores, HasCore}
use Rattle.reads_back.proofs.LowTargets.{AreLowTargets, IsLowTarget, copies_row, target_lasts, targets_row}
use Rattle.reads_back.proofs.LowValues.{FirstOrRest, LowValue, low_list, low_value, operand_row, rest_first, rk_row, two_begun}
use Rattle.reads_back.proofs.LowWords.{Alone, Begun, First, IsLow, NoneOrBegun, ReadsBelow, Row, alone_then, begun_later, begun_reads, below_later, first_later, first_then, low_later, no_words, one_word, operands_low, row_word, there_below, word_alone, word_below, words}
use Rattle.reads_back.proofs.NameReads.{AreListed}
use Rattle.reads_back.proofs.Tests.{nor, not_below}
use Rattle.reads_back.proofs.WordsBegin.{instr_is}
use Rattle.reads_back.proofs.WordsRead.{IsFunction, abc_is_read, abx_is_read}

-- ---- how the words of a statement begin

-- the only word between, but for its further words: what it makes is for no register behind the free one
pub record Whole (f : Function) (low free first last : ℕ) : Type 0 where
  pub instr : Instr
  pub there : instr_at f first ≡ Some instr
  pub reads : reads_from instr low ≡ false
  pub makes : makes_value instr.op ≡ true → instr.a ≤ free
  pub next : last ≡ first + 1 + further_words f instr.op instr

-- a word that makes no value and is no store
pub record Plain (f : Function) (low first : ℕ) : Type 0 where
  pub instr : Instr
  pub there : instr_at f first ≡ Some instr
  pub reads : reads_from instr low ≡ false
  pub makes : makes_value instr.op ≡ false
  pub stores : (base : ℕ) → stores_alone instr base ≡ false

-- two or more values of `...` come to the registers from the free one on
pub record Spreads (f : Function) (free first : ℕ) : Type 0 where
  pub field : ℕ
  pub there : instr_at f first ≡ Some (instr_by first (Piece.Abc Op.Vararg free field 0))
  pub several : 3 ≤ field

pub data Opens (f : Function) (low free first last : ℕ) : Type 0 where
  whole : Whole f low free first last → Opens f low free first last
  begun : Begun f low free first → Opens f low free first last
  spreads : Spreads f free first → Opens f low free first last
  plain : Plain f low first → Opens f low free first last

-- of a list of values that is adjusted: there may be none where there is no value
abbrev pub Adjusted : Expressions → Function → (low free first last : ℕ) → Type 0
Adjusted no_expressions f low free first last = (first ≡ last) ⊎ First f low free free first last
Adjusted (syntax.expression e es) f low free first last = First f low free free first last

-- there may be none
abbrev pub NoneOrOpens : Function → (low free first last : ℕ) → Type 0
NoneOrOpens f low free first last = (first ≡ last) ⊎ Opens f low free first last

pub opens_reads : {f : Function} {low free first last : ℕ} → Opens f low free first last → ReadsBelow f low first
opens_reads {f} {low} {first = first} (whole one) = there_below f low first one.instr one.there one.reads
opens_reads (begun first) = begun_reads first
opens_reads {f} {low} {free} {first} (spreads rest) = there_below f low first (instr_by first (Piece.Abc Op.Vararg free rest.field 0)) rest.there refl
opens_reads {f} {low} {first = first} (plain one) = there_below f low first one.instr one.there one.reads

alone_whole : {f : Function} {low free r first last : ℕ} → r ≤ free → Alone f low r first last → Whole f low free first last
alone_whole few one = record { instr = one.instr; there = one.there; reads = one.reads; makes = λ makes. omega (arith, few, one.register); next = one.next }

pub first_opens : {f : Function} {low free r first last : ℕ} → r ≤ free → First f low free r first last → Opens f low free first last
first_opens few (inl one) = whole (alone_whole few one)
first_opens few (inr first) = begun first

pub word_opens : {f : Function} {Known : Type 0} {low free first mid last : ℕ} → NoneOrBegun f Known low free first mid → (Known → Opens f low free mid last) → Opens f low free first last
word_opens {f} {low = low} {free} {last = last} (inl none) word = subst (λ pc. Opens f low free pc last) (sym none.0) (word none.1)
word_opens (inr first) word = begun first

pub word_whole : {f : Function} {g : Fn} {w : Piece} {p q : Spot} (low free : ℕ) → IsFunction f g → WordAt g w p q → IsRead p.pc w → reads_from (instr_by p.pc w) low ≡ false → (makes_value (instr_by p.pc w).op ≡ true → (instr_by p.pc w).a ≤ free) →
    further_words f (instr_by p.pc w).op (instr_by p.pc w) ≡ 0 → Whole f low free p.pc q.pc
word_whole {w = w} {p} low free is_function at read reads makes none =
    record { instr = instr_by p.pc w; there = instr_is is_function at read; reads = reads; makes = makes; next = omega (arith, none, at.next) }

-- others stand behind words that take registers
row_opens : {f : Function} {Names : ℕ → Type 0} {low free free1 first mid last : ℕ} → low ≤ free → Row f Names low free free1 first mid → ((n : ℕ) → low ≤ n → n ≤ free1 → Names n → NoneOrOpens f n free1 mid last) → NoneOrOpens f low free first last
row_opens {f} {low = low} {free} {free1} {first} {mid} {last} less (no_words same free_same named) others = by (others low (omega arith) (omega (arith, less, free_same)) named)
  where
    by : NoneOrOpens f low free1 mid last → NoneOrOpens f low free first last
    by (inl none) = inl (same ∙ none)
    by (inr opens) = inr (subst (λ pc. Opens f low free pc last) (sym same) (subst (λ n. Opens f low n mid last) free_same opens))
row_opens {f} {low = low} {free} {free1} {first} {mid} {last} less (one_word one free_is named) others = by (others (suc free) (omega (arith, less)) (omega (arith, free_is)) named)
  where
    by : NoneOrOpens f (suc free) free1 mid last → NoneOrOpens f low free first last
    by (inl none) = inr (whole (alone_whole (omega arith) (subst (λ pc. Alone f low free first pc) none one)))
    by (inr opens) = inr (begun (alone_then one (opens_reads opens)))
row_opens less (words more first) others = inr (begun first)

module _ {f : Function} {g : Fn} {active : List Active} {listed : List ℕ} (is_function : IsFunction f g) (all : AreListed f g active listed) where
  abbrev count : ℕ
  count = length active

  -- ---- one store

  -- from a register
  register_below : (target : Target) (free : ℕ) (p q : Spot) → IsLowTarget (suc free) target → StoreRegisterAt g target free p q → ReadsBelow f (suc free) p.pc
  register_below (name_target text (in_register x)) free p q low at = word_below (suc free) is_function at (abc_is_read is_function at) (not_below free (suc free) (omega arith))
  register_below (name_target text (in_upvalue slot)) free p q low at = word_below (suc free) is_function at (abc_is_read is_function at) (not_below free (suc free) (omega arith))
  register_below (name_target text in_globals) free p q low at = word_below (suc free) is_function at.word (abx_is_read is_function at.word) (not_below free (suc free) (omega arith))
  register_below (part_target on key on_local key_local) free p q low at =
      let n = suc free in
      word_below n is_function at (abc_is_read is_function at) (nor (nat_le n on) (is_from key n || is_from free n) (not_below on n low.0) (operands_low n key free low.1 (inl (omega arith))))

  -- of a value
  store_opens : (target : Target) (e : Expression) → LowValue f g active e → (low free : ℕ) (p q : Spot) → count ≤ low → low ≤ free → IsLowTarget low target → StoreAt g target (related g e) active free p q → Opens f low free p.pc q.pc
  store_opens (name_target text (in_register x)) e has low free p q least less below at = first_opens (omega (arith, below, less)) (first_later count low least (has.value free x p q (omega (arith, least, less)) at))
  store_opens (name_target text (in_upvalue slot)) e has low free p q least less below at =
      let word = at.words_at in
      let read = abc_is_read is_function word in
      let row = operand_row is_function all e has low free at.x at.free1 p at.mid least less at.operand_at in
      word_opens (row_word row less (λ n more below. word_below n is_function word read (not_below at.x n below))) (λ known. whole (word_whole low free is_function word read (not_below at.x low known.1) (λ makes. absurd cc) refl))
  store_opens (name_target text in_globals) e has low free p q least less below at =
      let word = at.words_at.word in
      let read = abx_is_read is_function word in
      let row = operand_row is_function all e has low free at.x at.free1 p at.mid least less at.operand_at in
      word_opens (row_word row less (λ n more below. word_below n is_function word read (not_below at.x n below))) (λ known. whole (word_whole low free is_function word read (not_below at.x low known.1) (λ makes. absurd cc) refl))
  store_opens (part_target on key on_local key_local) e has low free p q least less below at =
      let word = at.words_at in
      let read = abc_is_read is_function word in
      let row = rk_row is_function all e has low free at.x at.free1 p at.mid least less at.operand_at in
      let reads = λ (n : ℕ) (more : low ≤ n) (value : IsLow n at.x). nor (nat_le n on) (is_from key n || is_from at.x n) (not_below on n (omega (arith, below.0, more))) (operands_low n key at.x (low_later low n key more below.1) value) in
      word_opens (row_word row less (λ n more value. word_below n is_function word read (reads n more value))) (λ known. whole (word_whole low free is_function word read (reads low (omega arith) known.1) (λ makes. absurd cc) refl))

  -- ---- as many values as targets

  each_opens : (targets : List Target) (es : Expressions) → AllHaveCores es → (low free : ℕ) (p q : Spot) → count ≤ low → low ≤ free → AreLowTargets targets low → EachStoredAt g targets (all_related g es) active free p q → NoneOrOpens f low free p.pc q.pc
  each_opens [] es has low free p q least less are at = inl (sym at.pc)
  each_opens (target ∷ []) no_expressions has low free p q least less are at = inl (sym at.pc)
  each_opens (target ∷ []) (syntax.expression e es) has low free p q least less are at = inr (store_opens target e (low_value is_function all e has.0) low free p q least less are.0 at)
  each_opens (target ∷ other ∷ targets) no_expressions has low free p q least less are at = inl (sym at.pc)
  each_opens (target ∷ other ∷ targets) (syntax.expression e es) has low free p q least less are at =
      let one = first_later count low least ((low_value is_function all e has.0).value free free p at.mid (omega (arith, least, less)) at.first) in
      let others = at.others in
      inr (begun (first_then one (by (each_opens (other ∷ targets) es has.1 low (free + 1) at.mid others.mid least (omega (arith, less)) are.1 others.first_at) (register_below target free others.mid q (target_lasts target low (suc free) (omega (arith, less)) are.0) others.second_at))))
    where
      by : {free1 first mid : ℕ} → NoneOrOpens f low free1 first mid → ReadsBelow f (suc free) mid → ReadsBelow f (suc free) first
      by (inl none) behind = subst (ReadsBelow f (suc free)) (sym none) behind
      by (inr opens) behind = below_later low (suc free) (omega (arith, less)) (opens_reads opens)

  -- ---- more values than targets, or fewer

  nils_below : (low free n : ℕ) (p q : Spot) → NilsAt g free n p q → ReadsBelow f low p.pc
  nils_below low free n p q at = word_below low is_function at.word (abc_is_read is_function at.word) refl

  two_adjusted : (e d : Expression) (es : Expressions) → AllHaveCores (syntax.expression e (syntax.expression d es)) → (fewer : Bool) (n free : ℕ) (p q : Spot) → count ≤ free → AdjustBy fewer g (all_related g (syntax.expression e (syntax.expression d es))) n active free p q → Begun f count free p.pc
  two_adjusted e d es has true n free p q least at = filled (rels_open (all_related g (syntax.expression e (syntax.expression d es)))) (n - length (all_related g (syntax.expression e (syntax.expression d es)))) at
    where
      filled : (is_open : Bool) (missing : ℕ) → FilledAt is_open g (all_related g (syntax.expression e (syntax.expression d es))) missing active free p q → Begun f count free p.pc
      filled true missing at = two_begun is_function all e d es has true Op.Call (Some (missing + 1)) free p q least (inl refl) at
      filled false missing at = two_begun is_function all e d es has false Op.Call None free p at.mid least (inl refl) at.first_at
  two_adjusted e d es has false n free p q least at = two_begun is_function all e d es has false Op.Call None free p q least (inl refl) at

  -- one value, and the others of its results or nil
  one_filled : (e : Expression) → HasCore e → (is_open : Bool) (missing free : ℕ) (p q : Spot) → count ≤ free → FilledAt is_open g (related g e ∷ []) missing active free p q → FirstOrRest f (Some (missing + 1)) count free p.pc q.pc
  one_filled e has true missing free p q least at = (low_value is_function all e has).multi free Op.Call (Some (missing + 1)) p q least (inl refl) at
  one_filled e has false missing free p q least at =
      let values = at.first_at in
      let one = (low_value is_function all e has).value free free p values.mid least values.first in
      inr (first_then one (subst (ReadsBelow f (suc free)) values.others.pc (nils_below (suc free) (free + 1) missing at.mid q at.second_at)))

  -- of a list that is adjusted
  pub adjusted : (es : Expressions) → AllHaveCores es → (fewer : Bool) (n free : ℕ) (p q : Spot) → count ≤ free → AdjustBy fewer g (all_related g es) n active free p q → Adjusted es f count free p.pc q.pc
  adjusted no_expressions has true n free p q least at =
      let nils = at.second_at in
      inr (inl (subst (λ pc. Alone f count free pc q.pc) at.first_at.pc (word_alone count free is_function nils.word (abc_is_read is_function nils.word) refl refl (omega arith) refl)))
  adjusted no_expressions has false n free p q least at = inl (sym at.pc)
  adjusted (syntax.expression e no_expressions) has true n free p q least at = rest_first (one_filled e has.0 (rels_open (related g e ∷ [])) (n - 1) free p q least at)
  adjusted (syntax.expression e no_expressions) has false n free p q least at = low_list is_function all (syntax.expression e no_expressions) has false Op.Call None free p q least (inl refl) at
  adjusted (syntax.expression e (syntax.expression d es)) has fewer n free p q least at = inr (two_adjusted e d es has fewer n free p q least at)

  module _ (low free : ℕ) (p q : Spot) (least : count ≤ low) (less : low ≤ free) where
    -- several values of one go to several targets
    several_opens : (e : Expression) → HasCore e → (n : ℕ) → 2 ≤ n → (fewer : Bool) → nat_lt 1 n ≡ fewer → AdjustBy fewer g (related g e ∷ []) n active free p q → {last : ℕ} → Opens f low free p.pc last
    several_opens e has n more true is at = by (one_filled e has (rels_open (related g e ∷ [])) (n - 1) free p q (omega (arith, least, less)) at)
      where
        by : {last : ℕ} → FirstOrRest f (Some (n - 1 + 1)) count free p.pc q.pc → Opens f low free p.pc last
        by (inl rest) = spreads (record { field = count_field 1 (Some (n - 1 + 1)); there = rest.there; several = omega (arith, more) })
        by (inr first) = begun (begun_later count low least first)
    several_opens e has n more false is at = absurd cc (sym (lt-ltb 1 n more) ∙ is)

  few_opens : (places : List Target) (es : Expressions) → has_expressions es ≡ true → AllHaveCores es → (low free : ℕ) (p q : Spot) → count ≤ low → low ≤ free → AreLowTargets places low → Seq (AdjustAt g (all_related g es) (length places) active free) (StoredFromAt g free places) p q → Opens f low free p.pc q.pc
  few_opens places no_expressions some has low free p q least less are at = absurd cc
  few_opens [] (syntax.expression e no_expressions) some has low free p q least less are at =
      subst (λ pc. Opens f low free p.pc pc) (sym at.second_at.pc) (first_opens (omega arith) (first_later count low least (adjusted (syntax.expression e no_expressions) has (nat_lt 1 0) 0 free p at.mid (omega (arith, least, less)) at.first_at)))
  few_opens (target ∷ []) (syntax.expression e no_expressions) some has low free p q least less are at =
      let one = first_later count low least (adjusted (syntax.expression e no_expressions) has (nat_lt 1 1) 1 free p at.mid (omega (arith, least, less)) at.first_at) in
      let stores = at.second_at in
      begun (first_then one (subst (ReadsBelow f (suc free)) stores.first_at.pc (register_below target free stores.mid q (target_lasts target low (suc free) (omega (arith, less)) are.0) stores.second_at)))
  few_opens (target ∷ other ∷ targets) (syntax.expression e no_expressions) some has low free p q least less are at =
      let n = length (target ∷ other ∷ targets) in several_opens low free p at.mid least less e has.0 n (omega arith) (nat_lt 1 n) refl at.first_at
  few_opens places (syntax.expression e (syntax.expression d es)) some has low free p q least less are at =
      begun (begun_later count low least (two_adjusted e d es has (nat_lt (length (all_related g (syntax.expression e (syntax.expression d es)))) (length places)) (length places) free p at.mid (omega (arith, least, less)) at.first_at))

  -- ---- the whole assignment

  stores_open : (as_many : Bool) (places : List Target) (es : Expressions) → has_expressions es ≡ true → AllHaveCores es → (low free : ℕ) (p q : Spot) → count ≤ low → low ≤ free → AreLowTargets places low → StoresBy as_many g places (all_related g es) active free p q → NoneOrOpens f low free p.pc q.pc
  stores_open true places es some has low free p q least less are at = each_opens places es has low free p q least less are at
  stores_open false places es some has low free p q least less are at = inr (few_opens places es some has low free p q least less are at)

  pub assignment_opens : (targets es : Expressions) → Assigns targets es → (p q : Spot) → AssignAt g (all_related g targets) (all_related g es) active p q → NoneOrOpens f count count p.pc q.pc
  assignment_opens targets es assigns p q at =
      let row = copies_row is_function all p.pc count (omega arith) count (omega arith) at.parts at.places at.free1 at.free2 at.mid at.last (targets_row is_function all targets assigns.targets at.parts count at.free1 p at.mid (omega arith) at.targets_at) at.copies_at in
      row_opens (omega arith) row (λ n more few low. stores_open (length (all_related g es) == length (all_related g targets)) at.places es assigns.given assigns.values n at.free2 at.last q more few low at.stores_at)
