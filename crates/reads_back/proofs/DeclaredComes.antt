-- The values of a declaration come to the registers of its locals, with what is written of them.
use Rattle.std.proofs.Common.{◌≡◌, ℕ, suc, ◌-◌, ◌<◌, ◌≤◌, nat_lt, Bool, true, false, ◌&&◌, List, [], ◌++◌, append-nil, length, Some, refl, sym, ap, ap₂, ◌∙◌, arith, lt-ltb, eq-eqb}
use Rattle.std.proofs.lemmas.Bool.{le-ltb, ltb-false, ltb-true, ne_eqb}
use Rattle.std.specs.Prelude.{◌==◌, not}
use Rattle.lua_tree.specs.Syntax.{Expressions}
use Rattle.lua_tree.specs.WellFormed.{depth_of_expressions}
use Rattle.core_expr.specs.Counting.{taken_behind_values}
use Rattle.core_expr.specs.Values.{Values}
use Rattle.recover_expr.specs.Declaring.{captures_itself, without_nil as without_last}
use Rattle.recover_expr.specs.Entries.{Entries, missing_entry, more_entry, more}
use Rattle.recover_expr.specs.Lists.{adjusted_list, value_count}
use Rattle.recover_expr.specs.Locals.{Scope}
use Rattle.recover_expr.specs.Situation.{Function, Situation}
use Rattle.scheme.specs.declared.making.Active.{Active}
use Rattle.scheme_stands.specs.Expressions.{Rel}
use Rattle.scheme_stands.specs.Lists.{AdjustAt, AdjustBy, FilledAt, rels_open}
use Rattle.scheme_stands.specs.Relation.{all_related}
use Rattle.scheme_stands.specs.Words.{Fn, Spot}
use Rattle.reads_back.specs.Acted.{declared_values, ends_with_nil, filled, with_nil, without_nil}
use Rattle.reads_back.specs.Cores.{AllHaveCores, AreCores, ends_open}
use Rattle.reads_back.proofs.AdjustedComes.{AdjustedComes, AdjustedForm, adjusted_comes, as_many, enough_entries, further_behind, missing_behind, nil_behind}
use Rattle.reads_back.proofs.AdjustedEntries.{AreNotOwn, none_more, not_own, singles_are, taken_with, taken_without, with_further, with_left_out, with_missing, with_singles}
use Rattle.reads_back.proofs.BehindWords.{HasLocals, SameLocals, behind_words}
use Rattle.reads_back.proofs.Comes.{AreEntries, IsWanted}
use Rattle.reads_back.proofs.GivenLists.{all_forward, opens_by_last}
use Rattle.reads_back.proofs.NameReads.{AreListed}
use Rattle.reads_back.proofs.Reaches.{Reaches}
use Rattle.reads_back.proofs.SeveralValues.{several_later, singles_later}
use Rattle.reads_back.proofs.TakenEntries.{count_of_entries}
use Rattle.reads_back.proofs.Tests.{and_not, second_of_both}
use Rattle.reads_back.proofs.ValueReads.{each_read}
use Rattle.reads_back.proofs.ValueWords.{next_free}
use Rattle.reads_back.proofs.WordsRead.{IsFunction, IsQuiet}

-- ---- what comes for so many locals

-- entries come for as many, which are the values that are written of those of the statement
pub record DeclaredComes (f : Function) (g : Fn) (active : List Active) (es : Expressions) (before behind : ℕ) (s : Situation) (count first last : ℕ) : Type 0 where
  pub from : Values
  pub are : AreCores g active es before behind from
  pub values : Values
  pub all : Bool
  pub written : declared_values count (ends_open es) from ≡ record { values = values; all = all }
  pub scope : Scope
  pub same : SameLocals s.scope scope
  pub seen : ℕ
  pub taken : taken_behind_values values s.seen ≡ seen
  pub entries : Entries
  pub reaches : Reaches f first s last (behind_words scope seen entries s)
  pub enough : count ≤ length entries
  pub listed : adjusted_list count true (without_last count entries) ≡ Some (record { values = values; all = all })
  pub plain : AreNotOwn values → captures_itself entries ≡ false

-- ---- which values are written

module _ (count : ℕ) (from : Values) where
  written_as_many : (is_open : Bool) → count ≤ value_count from → declared_values count is_open from ≡ filled false count false from
  written_as_many is_open enough =
      ap₂ (λ (some one : Bool). filled some count one from)
      (ap (λ fewer. not is_open && fewer) (le-ltb (suc (value_count from)) count (omega (arith, enough))) ∙ and_not (not is_open))
      (ap (λ same. not is_open && same) (ne_eqb (suc (value_count from)) count (λ same. omega (arith, enough, same))) ∙ and_not (not is_open))

  written_one : suc (value_count from) ≡ count → declared_values count false from ≡ filled false count true from
  written_one same = ap₂ (λ (some one : Bool). filled some count one from) (le-ltb (suc (value_count from)) count (omega (arith, same))) (eq-eqb (suc (value_count from)) count same)

  written_missing : suc (value_count from) < count → declared_values count false from ≡ record { values = from; all = false }
  written_missing fewer = ap (λ some. filled some count (suc (value_count from) == count) from) (lt-ltb (suc (value_count from)) count fewer)

  written_open : value_count from < count → declared_values count true from ≡ record { values = from; all = true }
  written_open fewer = ap (λ same. without_nil (same && ends_with_nil from) from) (ne_eqb (value_count from) count (λ same. omega (arith, fewer, same)))

-- ---- by what comes

module _ {f : Function} {g : Fn} {active : List Active} {es : Expressions} {made_before made_behind : ℕ} {s : Situation} {count first last : ℕ} (come : AdjustedComes f g active es made_before made_behind s count first last) where
  -- single values, of which a nil may be missing
  singles_declared : (missing_one : Bool) → declared_values count (ends_open es) come.from ≡ filled false count missing_one come.from → AreEntries come.entries (with_nil missing_one come.from) → DeclaredComes f g active es made_before made_behind s count first last
  singles_declared missing_one written singles =
      let every = with_nil missing_one come.from in
      let left_out = (value_count every == count) && ends_with_nil every in
      let ends = second_of_both (value_count every == count) (ends_with_nil every) in
      let list = without_nil left_out every in
      let enough = enough_entries come.form in
      record {
        from = come.from;
        are = come.are;
        values = list.values;
        all = list.all;
        written = written;
        scope = come.scope;
        same = come.same;
        seen = come.seen;
        taken = taken_without left_out every s.seen ends ∙ taken_with missing_one come.from s.seen ∙ come.taken;
        entries = come.entries;
        reaches = come.reaches;
        enough = enough;
        listed = with_singles count come.entries every singles enough;
        plain = λ plain. ap captures_itself (sym (append-nil come.entries)) ∙ not_own come.entries every (singles_are come.entries every singles) (with_left_out left_out every ends plain) [] refl;
      }

  -- single values, and others behind them that are missing or further ones of the last
  behind_declared : (all : Bool) (singles behind : Entries) → declared_values count (ends_open es) come.from ≡ record { values = come.from; all = all } → AreEntries singles come.from → come.entries ≡ singles ++ behind →
      captures_itself behind ≡ false → adjusted_list count true (without_last count (singles ++ behind)) ≡ Some (record { values = come.from; all = all }) → DeclaredComes f g active es made_before made_behind s count first last
  behind_declared all singles behind written are is none listed = record {
    from = come.from;
    are = come.are;
    values = come.from;
    all = all;
    written = written;
    scope = come.scope;
    same = come.same;
    seen = come.seen;
    taken = come.taken;
    entries = come.entries;
    reaches = come.reaches;
    enough = enough_entries come.form;
    listed = ap (λ entries. adjusted_list count true (without_last count entries)) is ∙ listed;
    plain = λ plain. ap captures_itself is ∙ not_own singles come.from (singles_are singles come.from are) plain behind none;
  }

  by_form : AdjustedForm (ends_open es) count come.from come.entries → DeclaredComes f g active es made_before made_behind s count first last
  by_form (as_many are enough) = singles_declared false (written_as_many count come.from (ends_open es) enough) are
  by_form (nil_behind are closed counts) = singles_declared true (ap (λ is_open. declared_values count is_open come.from) closed ∙ written_one count come.from counts) are
  by_form (missing_behind singles n are is closed counts) =
      let written = ap (λ is_open. declared_values count is_open come.from) closed ∙ written_missing count come.from (omega (arith, counts)) in
      let size = count_of_entries singles come.from are in
      behind_declared false singles (more (suc (suc n)) missing_entry) written are is (none_more missing_entry refl (suc (suc n))) (with_missing count (suc n) singles come.from are (omega (arith, counts, size)))
  by_form (further_behind singles n are is opens several counts) =
      let written = ap (λ is_open. declared_values count is_open come.from) opens ∙ written_open count come.from (omega (arith, counts)) in
      let size = count_of_entries singles come.from are in
      behind_declared true singles (more (suc n) more_entry) written are is (none_more more_entry refl (suc n)) (with_further count n singles come.from are (omega (arith, counts, size)) several)

-- ---- they come

module _ {f : Function} {g : Fn} {active : List Active} {listed : List ℕ} (is_function : IsFunction f g) (all : AreListed f g active listed)
    (es : Expressions) (has : AllHaveCores es) (few : depth_of_expressions es ≤ 200) (count : ℕ) (p q : Spot) where
  abbrev rels : List Rel
  rels = all_related g es

  abbrev free : ℕ
  free = length active

  -- the words go on from p, and are one or more where there is a local
  filled_on : (is_open : Bool) → rels_open rels ≡ is_open → (n : ℕ) → 0 < n → FilledAt is_open g rels n active free p q → p.pc < q.pc
  filled_on true opens n some at = several_later is_function all n some es has few (sym opens ∙ opens_by_last g es) free p q at
  filled_on false opens n some at =
      let words = at.second_at in
      omega (arith, all_forward f g active listed 200 es (each_read is_function all es has (omega arith) few) free p at.mid at.first_at, words.word.next)

  adjust_on : (fewer : Bool) → nat_lt (length rels) count ≡ fewer → AdjustBy fewer g rels count active free p q → (p.pc ≤ q.pc) × (0 < count → p.pc < q.pc)
  adjust_on true is_fewer at =
      let below = ltb-true (length rels) count is_fewer in
      let later = filled_on (rels_open rels) refl (count - length rels) (omega (arith, below)) at in
      (omega (arith, later), λ some. later)
  adjust_on false is_fewer at =
      let enough = ltb-false (length rels) count is_fewer in
      (all_forward f g active listed 200 es (each_read is_function all es has (omega arith) few) free p q at, λ some. singles_later is_function all es has few free p q at (omega (arith, some, enough)))

  pub declared_on : AdjustAt g rels count active free p q → (p.pc ≤ q.pc) × (0 < count → p.pc < q.pc)
  declared_on at = adjust_on (nat_lt (length rels) count) refl at

  module _ (s : Situation) (locals : HasLocals active listed s) (is : free ≡ next_free s) (quiet : IsQuiet f s.scope p.pc q.pc) where
    pub declared_comes : IsWanted f s q.pc → AdjustAt g rels count active free p q → DeclaredComes f g active es p.functions q.functions s count p.pc q.pc
    declared_comes wanted at = let come = adjusted_comes is_function all es has few count free p q s locals is quiet wanted at in by_form come come.form
