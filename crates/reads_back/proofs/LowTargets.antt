-- How the targets of an assignment and the copies of locals begin, and that what they name is in registers in use.
use Rattle.std.proofs.Common.{◌≡◌, ◌<◌, ◌≤◌, inl, ℕ, zero, suc, Bool, true, false, cond, ◌&&◌, List, [], ◌∷◌, length, refl, sym, ◌∙◌, arith, subst}
use Rattle.std.specs.Prelude.{◌==◌}
use Rattle.lua_num.specs.Bytes.{Text}
use Rattle.lua_tree.specs.Syntax as syntax
use Rattle.lua_tree.specs.Syntax.{Expression, Expressions, no_expressions, name_expression, index_expression, field_expression}
use Rattle.recover_expr.specs.Situation.{Function}
use Rattle.scheme.specs.Expressions.{Target, name_target, part_target}
use Rattle.scheme.specs.Making.{Where, in_globals, in_register, in_upvalue}
use Rattle.scheme.specs.Statements.{clashes, is_among, renamed, with_copy}
use Rattle.scheme.specs.declared.making.Active.{Active}
use Rattle.scheme_stands.specs.Expressions.{PartTargetAt}
use Rattle.scheme_stands.specs.Relation.{all_related, related}
use Rattle.scheme_stands.specs.Statements.{CopiesAt, CopyAt, CopyBy, TargetsAt}
use Rattle.scheme_stands.specs.Words.{Fn, Means, Spot, Stretch, meaning}
use Rattle.reads_back.specs.Acted.{AreActTargets, IsActTarget}
use Rattle.reads_back.proofs.LowValues.{LowValue, low_value, operand_row, rk_row, text_row}
use Rattle.reads_back.proofs.LowWords.{Alone, IsLow, Lasting, Row, alone_then, below_lasts, low_lasts, low_later, no_words, one_word, row_names, row_then, row_up, word_alone, word_below, words}
use Rattle.reads_back.proofs.NameReads.{AreListed}
use Rattle.reads_back.proofs.Tests.{not_below}
use Rattle.reads_back.proofs.WordsRead.{IsFunction, abc_is_read}

-- ---- targets in registers that are in use

-- a local below so many registers, or a part whose table is in one of them and whose key is in one or a constant
abbrev pub IsLowTarget : (low : ℕ) → Target → Type 0
IsLowTarget low (name_target text (in_register x)) = x < low
IsLowTarget low (name_target text (in_upvalue slot)) = Unit {0}
IsLowTarget low (name_target text in_globals) = Unit {0}
IsLowTarget low (part_target on key on_local key_local) = (on < low) × IsLow low key

abbrev pub AreLowTargets : List Target → (low : ℕ) → Type 0
AreLowTargets [] low = Unit {0}
AreLowTargets (target ∷ targets) low = IsLowTarget low target × AreLowTargets targets low

pub target_lasts : (target : Target) → Lasting (λ n. IsLowTarget n target)
target_lasts (name_target text (in_register x)) a b less below = omega (arith, less, below)
target_lasts (name_target text (in_upvalue slot)) a b less below = tt
target_lasts (name_target text in_globals) a b less below = tt
target_lasts (part_target on key on_local key_local) a b less low = (omega (arith, less, low.0), low_later a b key less low.1)

pub targets_last : (targets : List Target) → Lasting (AreLowTargets targets)
targets_last [] a b less low = tt
targets_last (target ∷ targets) a b less low = (target_lasts target a b less low.0, targets_last targets a b less low.1)

-- a copy takes the place of a local
copied_below : (chosen : Bool) (x copy low : ℕ) → copy < low → x < low → cond chosen copy x < low
copied_below true x copy low below other = below
copied_below false x copy low below other = other

copied_low : (chosen : Bool) (x copy low : ℕ) → copy < low → IsLow low x → IsLow low (cond chosen copy x)
copied_low true x copy low below other = inl below
copied_low false x copy low below other = other

renamed_low : (x copy low : ℕ) (target : Target) → copy < low → IsLowTarget low target → IsLowTarget low (renamed x copy target)
renamed_low x copy low (name_target text w) below is = is
renamed_low x copy low (part_target on key on_local key_local) below is = (copied_below (on_local && (on == x)) on copy low below is.0, copied_low (key_local && (key == x)) key copy low below is.1)

chosen_low : (chosen : Bool) (low : ℕ) (one other : Target) → IsLowTarget low one → IsLowTarget low other → IsLowTarget low (cond chosen one other)
chosen_low true low one other is also = is
chosen_low false low one other is also = also

with_copy_low : (x copy low : ℕ) (targets : List Target) → copy < low → AreLowTargets targets low → AreLowTargets (with_copy x copy targets) low
with_copy_low x copy low [] below are = tt
with_copy_low x copy low (target ∷ targets) below are = (chosen_low (is_among x targets) low (renamed x copy target) target (renamed_low x copy low target below are.0) are.0, with_copy_low x copy low targets below are.1)

module _ {f : Function} {g : Fn} {active : List Active} {listed : List ℕ} (is_function : IsFunction f g) (all : AreListed f g active listed) where
  abbrev count : ℕ
  count = length active

  -- ---- one target

  name_low : (text : Text) (w : Where) → Means g.law active text w → IsLowTarget count (name_target text w)
  name_low text (in_register x) means = (all.listed_as text (in_register x) means).0
  name_low text (in_upvalue slot) means = tt
  name_low text in_globals means = tt

  part_row : (on : Expression) → LowValue f g active on → (key_at : List Active → (free x free1 : ℕ) → Stretch) (key_local : List Active → Spot → Bool) →
      ((low free x free1 : ℕ) (p q : Spot) → count ≤ low → low ≤ free → key_at active free x free1 p q → Row f (λ n. IsLow n x) low free free1 p.pc q.pc) →
      (target : Target) (free free1 : ℕ) (p q : Spot) → count ≤ free → PartTargetAt g (related g on) key_at key_local active free target free1 p q → Row f (λ n. IsLowTarget n target) count free free1 p.pc q.pc
  part_row on has key_at key_local key_row target free free2 p q least at =
      let one = operand_row is_function all on has count free at.t at.free1 p at.mid (omega arith) least at.on_at in
      let more = row_up one in
      let two = key_row count at.free1 at.k free2 at.mid q (omega arith) (omega (arith, least, more)) at.key_at in
      row_names (λ n low. subst (IsLowTarget n) (sym at.is) low) (row_then (below_lasts at.t) (low_lasts at.k) least one two)

  target_row : (e : Expression) → IsActTarget e → (target : Target) (free free1 : ℕ) (p q : Spot) → count ≤ free → (related g e).target active free target free1 p q → Row f (λ n. IsLowTarget n target) count free free1 p.pc q.pc
  target_row (name_expression line text) is target free free1 p q least at = no_words (sym at.passed.pc) at.at_free (subst (IsLowTarget count) (sym at.is) (name_low text (meaning active p) at.means))
  target_row (index_expression line on key) is target free free1 p q least at = part_row on (low_value is_function all on is.0) _ _ (rk_row is_function all key (low_value is_function all key is.1)) target free free1 p q least at
  target_row (field_expression line on text) is target free free1 p q least at =
      part_row on (low_value is_function all on is) _ _ (λ low free x free1 p q least less at. text_row is_function all text low free x free1 p q at) target free free1 p q least at
  target_row e is target free free1 p q least at = absurd is

  -- ---- all targets

  pub targets_row : (es : Expressions) → AreActTargets es → (targets : List Target) (free free1 : ℕ) (p q : Spot) → count ≤ free → TargetsAt (all_related g es) active targets free free1 p q → Row f (AreLowTargets targets) count free free1 p.pc q.pc
  targets_row no_expressions are targets free free1 p q least at = no_words (sym at.same.pc) at.at_free (subst (λ targets. AreLowTargets targets count) (sym at.is) tt)
  targets_row (syntax.expression e es) are targets free free2 p q least at =
      let one = target_row e are.0 at.target free at.free1 p at.mid least at.target_at in
      let more = row_up one in
      let rest = targets_row es are.1 at.others at.free1 free2 at.mid q (omega (arith, least, more)) at.others_at in
      row_names (λ n low. subst (λ targets. AreLowTargets targets n) (sym at.is) low) (row_then (target_lasts at.target) (targets_last at.others) least one rest)

  -- ---- copies of locals

  module _ (first free : ℕ) (least : count ≤ free) where
    copied_row : (x : ℕ) (targets places : List Target) (free1 free2 : ℕ) (p q : Spot) → x < count → Row f (AreLowTargets targets) count free free1 first p.pc → CopyAt g x targets places free1 free2 p q → Row f (AreLowTargets places) count free free2 first q.pc
    copied_row x targets places free1 free2 p q below (no_words same free_same low) at =
        let copy : Alone f count free1 p.pc q.pc = word_alone count free1 is_function at.word (abc_is_read is_function at.word) (not_below x count below) refl refl refl in
        let alone = subst (λ n. Alone f count n first q.pc) free_same (subst (λ pc. Alone f count free1 pc q.pc) (sym same) copy) in
        let copied = with_copy_low x free1 (suc free) targets (omega (arith, free_same)) (targets_last targets count (suc free) (omega (arith, least)) low) in
        one_word alone (omega (arith, at.at_free, free_same)) (subst (λ targets. AreLowTargets targets (suc free)) (sym at.is) copied)
    copied_row x targets places free1 free2 p q below (one_word one free_is low) at =
        words (omega (arith, at.at_free, free_is)) (alone_then one (word_below (suc free) is_function at.word (abc_is_read is_function at.word) (not_below x (suc free) (omega (arith, below, least)))))
    copied_row x targets places free1 free2 p q below (words more begun) at = words (omega (arith, at.at_free, more)) begun

    kept_row : (targets places : List Target) (free1 free2 pc last : ℕ) → places ≡ targets → free2 ≡ free1 → last ≡ pc → Row f (AreLowTargets targets) count free free1 first pc → Row f (AreLowTargets places) count free free2 first last
    kept_row targets places free1 free2 pc last is at_free same (no_words none free_same low) = no_words (none ∙ sym same) (at_free ∙ free_same) (subst (λ targets. AreLowTargets targets count) (sym is) low)
    kept_row targets places free1 free2 pc last is at_free same (one_word one free_is low) =
        one_word (subst (λ pc. Alone f count free first pc) (sym same) one) (at_free ∙ free_is) (subst (λ targets. AreLowTargets targets (suc free)) (sym is) low)
    kept_row targets places free1 free2 pc last is at_free same (words more begun) = words (omega (arith, at_free, more)) begun

    copy_row : (chosen : Bool) (x : ℕ) (targets places : List Target) (free1 free2 : ℕ) (p q : Spot) → x < count → Row f (AreLowTargets targets) count free free1 first p.pc → CopyBy chosen g x targets places free1 free2 p q → Row f (AreLowTargets places) count free free2 first q.pc
    copy_row true x targets places free1 free2 p q below row at = copied_row x targets places free1 free2 p q below row at
    copy_row false x targets places free1 free2 p q below row at = kept_row targets places free1 free2 p.pc q.pc at.is at.at_free at.same.pc row

    -- behind the targets
    pub copies_row : (copied : ℕ) → copied ≤ count → (targets places : List Target) (free1 free2 : ℕ) (p q : Spot) → Row f (AreLowTargets targets) count free free1 first p.pc → CopiesAt g copied targets places free1 free2 p q → Row f (AreLowTargets places) count free free2 first q.pc
    copies_row zero most targets places free1 free2 p q row at = kept_row targets places free1 free2 p.pc q.pc at.is at.at_free at.same.pc row
    copies_row (suc x) most targets places free1 free2 p q row at =
        copy_row (clashes x targets) x at.between places at.free1 free2 at.mid q (omega (arith, most)) (copies_row x (omega (arith, most)) targets at.between free1 at.free1 p at.mid row at.earlier_at) at.later_at
