-- Values of an assignment that are not as many as its targets come to the registers of the step, as those of a declaration do.
use Rattle.std.proofs.Common.{◌≡◌, ◌≢◌, ℕ, suc, ◌<◌, ◌≤◌, nat_lt, Bool, true, false, ◌&&◌, List, length, Option, Some, None, refl, sym, ap, ap₂, ◌∙◌, subst, subst₂, arith, lt-ltb, eq-eqb}
use Rattle.std.proofs.lemmas.Bool.{le-ltb, ne_eqb}
use Rattle.std.specs.Prelude.{◌==◌, not, if◌then◌else◌}
use Rattle.lua_tree.specs.Syntax.{Expressions}
use Rattle.lua_tree.specs.WellFormed.{depth_of_expressions, has_expressions}
use Rattle.core_expr.specs.Counting.{taken_behind_values}
use Rattle.core_expr.specs.Targets.{TargetValue, index_target, local_target}
use Rattle.core_expr.specs.Values.{Values, nil_value}
use Rattle.recover_expr.specs.Entries.{Entries, and_last_value}
use Rattle.recover_expr.specs.Lists.{value_count}
use Rattle.recover_expr.specs.Locals.{Scope}
use Rattle.recover_expr.specs.Situation.{Function, Situation}
use Rattle.scheme.specs.declared.making.Active.{Active}
use Rattle.scheme_stands.specs.Lists.{AdjustAt}
use Rattle.scheme_stands.specs.Relation.{all_related}
use Rattle.scheme_stands.specs.Words.{Fn, Spot}
use Rattle.reads_back.specs.Acted.{Assigned, some_missing, taken_behind_last, values_assigned, with_last_nil}
use Rattle.reads_back.specs.Cores.{AllHaveCores, AreCores, ends_open}
use Rattle.reads_back.proofs.AdjustedComes.{AdjustedComes, AdjustedForm, adjusted_comes, as_many, each_entry, enough_entries, further_behind, missing_behind, nil_behind, some_related}
use Rattle.reads_back.proofs.AdjustedEntries.{count_last, taken_end}
use Rattle.reads_back.proofs.AssignedValues.{further_written, last_written, missing_written, more_written, nil_written, singles_written}
use Rattle.reads_back.proofs.BehindWords.{HasLocals, SameLocals, behind_words}
use Rattle.reads_back.proofs.Comes.{AreEntries, IsWanted}
use Rattle.reads_back.proofs.NameReads.{AreListed}
use Rattle.reads_back.proofs.Reaches.{Reaches}
use Rattle.reads_back.proofs.StoredTargets.{Destination, WritesValues, target_to, to_local, to_part}
use Rattle.reads_back.proofs.Tests.{and_not}
use Rattle.reads_back.proofs.ValueWords.{next_free}
use Rattle.reads_back.proofs.WordsRead.{IsFunction, IsQuiet}

-- entries come for so many targets, of which these values are written
pub record AssignedComes (f : Function) (g : Fn) (active : List Active) (es : Expressions) (before behind : ℕ) (s : Situation) (last : Destination) (count first end : ℕ) : Type 0 where
  pub from : Values
  pub are : AreCores g active es before behind from
  pub other : value_count from ≢ count
  pub to : Assigned
  pub written : values_assigned count (Some (target_to last)) (ends_open es) from ≡ to
  pub scope : Scope
  pub same : SameLocals s.scope scope
  pub seen : ℕ
  pub taken : taken_behind_last to.last (taken_behind_values to.values s.seen) ≡ seen
  pub entries : Entries
  pub reaches : Reaches f first s end (behind_words scope seen entries s)
  pub enough : count ≤ length entries
  pub each : length (all_related g es) ≤ length entries
  pub writes : WritesValues f entries None last count to

-- ---- which values are written

-- values alone
abbrev only : Values → (all : Bool) → Assigned
only vs all = record { values = vs; all = all; last = None }

module _ (count : ℕ) (target : Option TargetValue) (from : Values) where
  abbrev written_by : (fewer one : Bool) → Assigned
  written_by fewer one = if fewer then some_missing one target from else only from true

  written_as_many : (is_open : Bool) → count ≤ value_count from → values_assigned count target is_open from ≡ only from true
  written_as_many is_open enough = ap (λ fewer. written_by fewer (suc (value_count from) == count)) (ap (λ fewer. not is_open && fewer) (le-ltb (value_count from) count enough) ∙ and_not (not is_open))

  -- one is missing, or more are
  written_fewer : (is_open : Bool) → is_open ≡ false → value_count from < count → (one : Bool) → (suc (value_count from) == count) ≡ one → values_assigned count target is_open from ≡ some_missing one target from
  written_fewer is_open closed fewer one is =
      ap (λ is_open. written_by (not is_open && nat_lt (value_count from) count) (suc (value_count from) == count)) closed ∙ ap₂ written_by (lt-ltb (value_count from) count fewer) is

-- ---- by what comes

-- a nil takes no constant
nil_taken : (target : Option TargetValue) (vs : Values) (n : ℕ) → let to = with_last_nil target vs in taken_behind_last to.last (taken_behind_values to.values n) ≡ taken_behind_values vs n
nil_taken (Some (local_target r)) vs n = refl
nil_taken (Some (index_target on key)) vs n = refl
nil_taken target vs n = taken_end vs nil_value n

-- a nil behind the values is written where it does not go to a local
nil_writes : (f : Function) (entries : Entries) (last : Destination) (from : Values) → AreEntries entries (and_last_value from nil_value) → 0 < value_count from →
    WritesValues f entries None last (suc (value_count from)) (with_last_nil (Some (target_to last)) from)
nil_writes f entries (to_local r) from are some = nil_written f entries r from are some
nil_writes f entries (to_part on key x y) from are some = last_written f entries (to_part on key x y) (suc (value_count from)) from nil_value are refl refl
nil_writes f entries last from are some = singles_written f entries last (suc (value_count from)) (and_last_value from nil_value) are (count_last from nil_value) refl (λ r is several. cc)

module _ {f : Function} {g : Fn} {active : List Active} {es : Expressions} {before behind : ℕ} {s : Situation} {count first end : ℕ} (come : AdjustedComes f g active es before behind s count first end) (last : Destination) (given : has_expressions es ≡ true)
    (other : length (all_related g es) ≢ count) where
  abbrev target : Option TargetValue
  target = Some (target_to last)

  abbrev ComeHere : Type 0
  ComeHere = AssignedComes f g active es before behind s last count first end

  some : 0 < value_count come.from
  some = omega (arith, come.counts, some_related g es given)

  assigned_as : (to : Assigned) → values_assigned count target (ends_open es) come.from ≡ to → taken_behind_last to.last (taken_behind_values to.values s.seen) ≡ come.seen → WritesValues f come.entries None last count to → ComeHere
  assigned_as to written taken writes = record {
    from = come.from;
    are = come.are;
    other = λ same. other (sym come.counts ∙ same);
    to = to;
    written = written;
    scope = come.scope;
    same = come.same;
    seen = come.seen;
    taken = taken;
    entries = come.entries;
    reaches = come.reaches;
    enough = enough_entries come.form;
    each = omega (arith, come.counts, each_entry come.form);
    writes = writes;
  }

  by_form : AdjustedForm (ends_open es) count come.from come.entries → ComeHere
  by_form (as_many are enough) =
      assigned_as (only come.from true) (written_as_many count target come.from (ends_open es) enough) come.taken (more_written f come.entries last count come.from are (omega (arith, enough, come.counts, other)))
  by_form (nil_behind are closed counts) =
      let to = with_last_nil target come.from in
      let written = written_fewer count target come.from (ends_open es) closed (omega (arith, counts)) true (eq-eqb (suc (value_count come.from)) count counts) in
      assigned_as to written (nil_taken target come.from s.seen ∙ come.taken) (subst (λ (count : ℕ). WritesValues f come.entries None last count to) counts (nil_writes f come.entries last come.from are some))
  by_form (missing_behind singles n are is closed counts) =
      let to = only come.from false in
      let written = written_fewer count target come.from (ends_open es) closed (omega (arith, counts)) false (ne_eqb (suc (value_count come.from)) count (λ same. omega (arith, counts, same))) in
      assigned_as to written come.taken
      (subst₂ (λ (entries : Entries) (count : ℕ). WritesValues f entries None last count to) (sym is) (sym counts) (missing_written f singles last (suc n) come.from are some))
  by_form (further_behind singles n are is opens several counts) =
      let to = only come.from true in
      assigned_as to (ap (λ is_open. values_assigned count target is_open come.from) opens) come.taken
      (subst₂ (λ (entries : Entries) (count : ℕ). WritesValues f entries None last count to) (sym is) (sym counts) (further_written f singles last n come.from are several))

-- ---- they come

module _ {f : Function} {g : Fn} {active : List Active} {listed : List ℕ} (is_function : IsFunction f g) (all : AreListed f g active listed)
    (es : Expressions) (has : AllHaveCores es) (given : has_expressions es ≡ true) (few : depth_of_expressions es ≤ 200) where
  pub assigned_come : (last : Destination) (count free : ℕ) (p q : Spot) (s : Situation) → length (all_related g es) ≢ count → HasLocals active listed s → free ≡ next_free s → IsQuiet f s.scope p.pc q.pc → IsWanted f s q.pc →
      AdjustAt g (all_related g es) count active free p q → AssignedComes f g active es p.functions q.functions s last count p.pc q.pc
  assigned_come last count free p q s other locals is quiet wanted at =
      let come = adjusted_comes is_function all es has few count free p q s locals is quiet wanted at in
      by_form come last given other come.form
