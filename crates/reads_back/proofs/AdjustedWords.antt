-- The words of values that are adjusted to so many registers: they go on, the first one begins a value for a free register, and there is room for all.
use Rattle.std.proofs.Common.{◌≡◌, ℕ, ◌+◌, ◌-◌, ◌<◌, ◌≤◌, nat_lt, Bool, true, false, length, Some, List, refl, sym, ◌∙◌, arith}
use Rattle.std.proofs.lemmas.Bool.{ltb-false, ltb-true}
use Rattle.lua_tree.specs.Syntax as syntax
use Rattle.lua_tree.specs.Syntax.{Expressions, Expression, no_expressions, call_expression, method_call, vararg_expression}
use Rattle.lua_tree.specs.WellFormed.{depth_of_expressions, has_expressions}
use Rattle.opcode.specs.declared.op.Op.{Op}
use Rattle.recover_expr.specs.Situation.{Function}
use Rattle.scheme.specs.Expressions.{is_multiple}
use Rattle.scheme.specs.declared.making.Active.{Active}
use Rattle.scheme_stands.specs.Lists.{AdjustAt, AdjustBy, AllMultiAt, AllNextAt, FilledAt, rels_open}
use Rattle.scheme_stands.specs.Relation.{all_related, related}
use Rattle.scheme_stands.specs.Words.{Fn, Spot}
use Rattle.reads_back.specs.Cores.{AllHaveCores, ends_open}
use Rattle.reads_back.proofs.Comes.{Begins}
use Rattle.reads_back.proofs.GivenLists.{all_forward, opens_by_last}
use Rattle.reads_back.proofs.NameReads.{AreListed}
use Rattle.reads_back.proofs.SeveralValues.{several_begins, several_later}
use Rattle.reads_back.proofs.Tests.{not_so}
use Rattle.reads_back.proofs.ValueReads.{each_read, reads_all}
use Rattle.reads_back.proofs.WordsRead.{IsFunction}

-- ---- room

module _ (g : Fn) (active : List Active) (few : g.size ≤ 250) where
  pub next_fit : (es : Expressions) (free : ℕ) (p q : Spot) → free ≤ 250 → AllNextAt g (all_related g es) active free p q → free + length (all_related g es) ≤ 250
  next_fit no_expressions free p q low at = omega (arith, low)
  next_fit (syntax.expression e es) free p q low at = omega (arith, next_fit es (free + 1) at.mid q (omega (arith, at.room, few)) at.others)

  last_fits : (e : Expression) → is_multiple e ≡ true → (free n : ℕ) (p q : Spot) → (related g e).multi active free Op.Call (Some n) p q → free + n ≤ 250
  last_fits (vararg_expression line) many free n p q at = omega (arith, at.results, few)
  last_fits (call_expression line on args on_line) many free n p q at = omega (arith, at.results, few)
  last_fits (method_call line on name args on_line) many free n p q at = omega (arith, at.results, few)
  last_fits e many free n p q at = not_so many

  several_fit : (es : Expressions) → true ≡ ends_open es → (free n : ℕ) (p q : Spot) → AllMultiAt g Op.Call (Some (n + 1)) (all_related g es) active free p q → free + (length (all_related g es) + n) ≤ 250
  several_fit no_expressions ends free n p q at = not_so (sym ends)
  several_fit (syntax.expression e no_expressions) ends free n p q at = omega (arith, last_fits e (sym ends) free (n + 1) p q at)
  several_fit (syntax.expression e (syntax.expression d es)) ends free n p q at = omega (arith, several_fit (syntax.expression d es) ends (free + 1) n at.mid q at.others)

  filled_fit : (is_open : Bool) (es : Expressions) → rels_open (all_related g es) ≡ is_open → (free n : ℕ) (p q : Spot) → FilledAt is_open g (all_related g es) n active free p q → free + (length (all_related g es) + n) ≤ 250
  filled_fit true es opens free n p q at = several_fit es (sym opens ∙ opens_by_last g es) free n p q at
  filled_fit false es opens free n p q at = omega (arith, at.second_at.room, few)

  adjusted_fit : (fewer : Bool) (es : Expressions) (count : ℕ) → nat_lt (length (all_related g es)) count ≡ fewer → (free : ℕ) (p q : Spot) → free ≤ 250 → AdjustBy fewer g (all_related g es) count active free p q → free + count ≤ 250
  adjusted_fit true es count is_fewer free p q low at =
      let n = count - length (all_related g es) in
      omega (arith, ltb-true (length (all_related g es)) count is_fewer, filled_fit (rels_open (all_related g es)) es refl free n p q at)
  adjusted_fit false es count is_fewer free p q low at = omega (arith, ltb-false (length (all_related g es)) count is_fewer, next_fit es free p q low at)

  pub adjust_fits : (es : Expressions) (count free : ℕ) (p q : Spot) → free ≤ 250 → AdjustAt g (all_related g es) count active free p q → free + count ≤ 250
  adjust_fits es count free p q low at = adjusted_fit (nat_lt (length (all_related g es)) count) es count refl free p q low at

-- ---- the first word

module _ {f : Function} {g : Fn} {active : List Active} {listed : List ℕ} (is_function : IsFunction f g) (all : AreListed f g active listed) where
  singles_begin : (es : Expressions) → AllHaveCores es → depth_of_expressions es ≤ 200 → has_expressions es ≡ true → (free : ℕ) (p q : Spot) → q.pc ≤ f.last → AllNextAt g (all_related g es) active free p q → Begins f free p.pc
  singles_begin no_expressions has few given free p q within at = not_so given
  singles_begin (syntax.expression e es) has few given free p q within at =
      let rest = all_forward f g active listed 200 es (each_read is_function all es has.1 (omega arith) (omega (arith, few))) (free + 1) at.mid q at.others in
      (reads_all is_function all e has.0 (omega (arith, few))).one.begins free p at.mid (omega (arith, rest, within)) at.first

  module _ (es : Expressions) (has : AllHaveCores es) (few : depth_of_expressions es ≤ 200) (given : has_expressions es ≡ true) (count free : ℕ) (p q : Spot) where
    singles_on : AllNextAt g (all_related g es) active free p q → p.pc ≤ q.pc
    singles_on at = all_forward f g active listed 200 es (each_read is_function all es has (omega arith) few) free p q at

    filled_on : (is_open : Bool) → rels_open (all_related g es) ≡ is_open → (n : ℕ) → 0 < n → FilledAt is_open g (all_related g es) n active free p q → p.pc ≤ q.pc
    filled_on true opens n some at = let later = several_later is_function all n some es has few (sym opens ∙ opens_by_last g es) free p q at in omega (arith, later)
    filled_on false opens n some at =
        let words = at.second_at in
        omega (arith, all_forward f g active listed 200 es (each_read is_function all es has (omega arith) few) free p at.mid at.first_at, words.word.next)

    filled_begin : (is_open : Bool) → rels_open (all_related g es) ≡ is_open → (n : ℕ) → 0 < n → q.pc ≤ f.last → FilledAt is_open g (all_related g es) n active free p q → Begins f free p.pc
    filled_begin true opens n some within at = several_begins is_function all n some es has few (sym opens ∙ opens_by_last g es) free p q at within
    filled_begin false opens n some within at =
        let words = at.second_at in
        singles_begin es has few given free p at.mid (omega (arith, words.word.next, within)) at.first_at

    adjusted_on : (fewer : Bool) → nat_lt (length (all_related g es)) count ≡ fewer → AdjustBy fewer g (all_related g es) count active free p q → p.pc ≤ q.pc
    adjusted_on true is_fewer at = filled_on (rels_open (all_related g es)) refl (count - length (all_related g es)) (omega (arith, ltb-true (length (all_related g es)) count is_fewer)) at
    adjusted_on false is_fewer at = singles_on at

    adjusted_begin : (fewer : Bool) → nat_lt (length (all_related g es)) count ≡ fewer → q.pc ≤ f.last → AdjustBy fewer g (all_related g es) count active free p q → Begins f free p.pc
    adjusted_begin true is_fewer within at =
        filled_begin (rels_open (all_related g es)) refl (count - length (all_related g es)) (omega (arith, ltb-true (length (all_related g es)) count is_fewer)) within at
    adjusted_begin false is_fewer within at = singles_begin es has few given free p q within at

    pub adjust_forward : AdjustAt g (all_related g es) count active free p q → p.pc ≤ q.pc
    adjust_forward at = adjusted_on (nat_lt (length (all_related g es)) count) refl at

    pub adjust_begins : q.pc ≤ f.last → AdjustAt g (all_related g es) count active free p q → Begins f free p.pc
    adjust_begins within at = adjusted_begin (nat_lt (length (all_related g es)) count) refl within at
