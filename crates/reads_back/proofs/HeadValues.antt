-- The values of the head of a loop come to the registers of its three hidden locals, with what is written of them.
use Rattle.std.proofs.Common.{◌≡◌, ℕ, suc, ◌<◌, ◌≤◌, nat_lt, Bool, true, false, ◌&&◌, List, length, pos, Option, Some, refl, ap, ap₂, ◌∙◌, arith, lt-ltb, eq-eqb, inl}
use Rattle.std.proofs.lemmas.Bool.{le-ltb, ne_eqb}
use Rattle.std.specs.Prelude.{◌==◌, not}
use Rattle.lua_tree.specs.Syntax as syntax
use Rattle.lua_tree.specs.Syntax.{Expressions, no_expressions, Expression, number_literal}
use Rattle.lua_tree.specs.WellFormed.{depth_of_expressions, has_expressions}
use Rattle.core_expr.specs.Counting.{taken_behind_values}
use Rattle.core_expr.specs.Places.{Place}
use Rattle.core_expr.specs.Values.{Values, Inner}
use Rattle.core_expr.specs.Writing.{Wordings, word_values}
use Rattle.recover_expr.specs.Declaring.{head_list}
use Rattle.recover_expr.specs.Entries.{Entries, Listed}
use Rattle.recover_expr.specs.Lists.{adjusted_list, value_count}
use Rattle.recover_expr.specs.Locals.{Scope}
use Rattle.recover_expr.specs.Situation.{Function, Situation}
use Rattle.scheme.specs.declared.making.Active.{Active}
use Rattle.scheme_stands.specs.Lists.{AdjustAt}
use Rattle.scheme_stands.specs.Relation.{all_related, related}
use Rattle.scheme_stands.specs.Words.{Fn, Seq, Spot}
use Rattle.reads_back.specs.Acted.{with_nil}
use Rattle.reads_back.specs.Cores.{AllHaveCores, AreCores, Counted, IsCore, ends_open}
use Rattle.reads_back.specs.Stepped.{CountedAt}
use Rattle.reads_back.proofs.AdjustedComes.{AdjustedComes, AdjustedForm, adjusted_comes, as_many, enough_entries, further_behind, missing_behind, nil_behind, some_related}
use Rattle.reads_back.proofs.AdjustedEntries.{further_adjusted, missing_adjusted, singles_adjusted, taken_with}
use Rattle.reads_back.proofs.BehindWords.{HasLocals, SameLocals, behind_words, locals_then, quiet_same}
use Rattle.reads_back.proofs.Comes.{IsWanted, comes_next, behind_one}
use Rattle.reads_back.proofs.GivenLists.{AllCome, AllRead, more_come, next_behind, none_come, some_behind}
use Rattle.reads_back.proofs.NameReads.{AreListed}
use Rattle.reads_back.proofs.Reaches.{Reaches}
use Rattle.reads_back.proofs.TakenEntries.{count_of_entries}
use Rattle.reads_back.proofs.Tests.{and_not, not_so}
use Rattle.reads_back.proofs.ValueReads.{each_read}
use Rattle.reads_back.proofs.ValueWords.{next_free}
use Rattle.reads_back.proofs.WordsBegin.{begins_wants}
use Rattle.reads_back.proofs.WordsRead.{IsFunction, IsQuiet, quiet_before, quiet_from}
use Rattle.reads_back.proofs.FurtherWords.{value_further}

-- ---- which values are written

-- three expressions
abbrev pub three_of : (first last by : Expression) → Expressions
three_of first last by = syntax.expression first (syntax.expression last (syntax.expression by no_expressions))

-- the values of a loop over numbers, with the step that is 1 where none is said
abbrev pub counted_list : Expressions → Expressions
counted_list (syntax.expression first (syntax.expression last no_expressions)) = three_of first last (number_literal 1 (pos 1))
counted_list (syntax.expression first (syntax.expression last (syntax.expression by rest))) = three_of first last by
counted_list es = es

-- several that are missing are left out, and a single one is written as a nil
abbrev pub headed_by : (missing_some missing_one : Bool) → Values → Listed
headed_by true missing_one vs = record { values = vs; all = false }
headed_by false missing_one vs = record { values = with_nil missing_one vs; all = true }

-- the three values of any other loop as they are read and written: they are fewer, or the last one may give several
abbrev pub headed_values : (is_open : Bool) → Values → Listed
headed_values is_open vs = headed_by (not is_open && nat_lt (suc (value_count vs)) 3) (not is_open && (suc (value_count vs) == 3)) vs

-- these are the values of a head
abbrev pub IsHeaded : Fn → List Active → (numeric : Bool) → Expressions → Counted Listed
IsHeaded g active true es before behind headed = AreCores g active (counted_list es) before behind headed.values × (headed.all ≡ true)
IsHeaded g active false es before behind headed = (from : Values) × AreCores g active es before behind from × (headed_values (ends_open es) from ≡ headed)

-- what is written of them, where so many constants are taken and these functions are left
abbrev pub head_wording : (numeric : Bool) → Place → ℕ → List (Option Inner) → Listed → Wordings
head_wording numeric at n fs headed = head_list numeric (word_values at n fs headed.values headed.all)

module _ (from : Values) where
  head_as_many : (is_open : Bool) → 3 ≤ value_count from → headed_values is_open from ≡ record { values = from; all = true }
  head_as_many is_open enough =
      ap₂ (λ (some one : Bool). headed_by some one from)
      (ap (λ fewer. not is_open && fewer) (le-ltb (suc (value_count from)) 3 (omega (arith, enough))) ∙ and_not (not is_open))
      (ap (λ same. not is_open && same) (ne_eqb (suc (value_count from)) 3 (λ same. omega (arith, enough, same))) ∙ and_not (not is_open))

  head_one : suc (value_count from) ≡ 3 → headed_values false from ≡ record { values = with_nil true from; all = true }
  head_one same = ap₂ (λ (some one : Bool). headed_by some one from) (le-ltb (suc (value_count from)) 3 (omega (arith, same))) (eq-eqb (suc (value_count from)) 3 same)

  head_missing : suc (value_count from) < 3 → headed_values false from ≡ record { values = from; all = false }
  head_missing fewer = ap (λ some. headed_by some (suc (value_count from) == 3) from) (lt-ltb (suc (value_count from)) 3 fewer)

-- ---- what comes

-- entries come which are the values that are written; for a loop over numbers they are three
pub record HeadComes (f : Function) (g : Fn) (active : List Active) (numeric : Bool) (es : Expressions) (before behind : ℕ) (s : Situation) (first last : ℕ) : Type 0 where
  pub headed : Listed
  pub is : IsHeaded g active numeric es before behind headed
  pub scope : Scope
  pub same : SameLocals s.scope scope
  pub seen : ℕ
  pub taken : taken_behind_values headed.values s.seen ≡ seen
  pub entries : Entries
  pub reaches : Reaches f first s last (behind_words scope seen entries s)
  pub listed : adjusted_list 3 false entries ≡ Some headed
  pub three : numeric ≡ true → (length entries ≡ 3) × (value_count headed.values ≡ 3)

module _ {f : Function} {g : Fn} {active : List Active} {es : Expressions} {made_before made_behind : ℕ} {s : Situation} {first last : ℕ} (come : AdjustedComes f g active es made_before made_behind s 3 first last) where
  abbrev HeadComesHere : Type 0
  HeadComesHere = HeadComes f g active false es made_before made_behind s first last

  -- these values, of which a nil may be written more
  values_head : (headed : Listed) → headed_values (ends_open es) come.from ≡ headed → taken_behind_values headed.values s.seen ≡ come.seen → adjusted_list 3 false come.entries ≡ Some headed → HeadComesHere
  values_head headed written taken listed = record {
    headed = headed;
    is = (come.from, come.are, written);
    scope = come.scope;
    same = come.same;
    seen = come.seen;
    taken = taken;
    entries = come.entries;
    reaches = come.reaches;
    listed = listed;
    three = λ is. not_so is;
  }

  by_form : 0 < value_count come.from → AdjustedForm (ends_open es) 3 come.from come.entries → HeadComesHere
  by_form some (as_many are enough) =
      values_head (record { values = come.from; all = true }) (head_as_many come.from (ends_open es) enough) come.taken
      (singles_adjusted 3 false come.entries come.from are (omega (arith, enough, count_of_entries come.entries come.from are)))
  by_form some (nil_behind are closed counts) =
      values_head (record { values = with_nil true come.from; all = true }) (ap (λ is_open. headed_values is_open come.from) closed ∙ head_one come.from counts) (taken_with true come.from s.seen ∙ come.taken)
      (singles_adjusted 3 false come.entries (with_nil true come.from) are (enough_entries come.form))
  by_form some (missing_behind singles n are is closed counts) =
      let size = count_of_entries singles come.from are in
      values_head (record { values = come.from; all = false }) (ap (λ is_open. headed_values is_open come.from) closed ∙ head_missing come.from (omega (arith, counts))) come.taken
      (ap (adjusted_list 3 false) is ∙ missing_adjusted 3 false (suc n) singles come.from are (lt-ltb 0 (length singles) (omega (arith, some, size))) (omega (arith, counts, size)))
  by_form some (further_behind singles n are is opens several counts) =
      let size = count_of_entries singles come.from are in
      values_head (record { values = come.from; all = true }) (ap (λ is_open. headed_values is_open come.from) opens) come.taken
      (ap (adjusted_list 3 false) is ∙ further_adjusted 3 false n singles come.from are (omega (arith, counts, size)) several)

-- ---- they come

-- three single values, one behind the other
module _ {f : Function} {g : Fn} {active : List Active} {listed : List ℕ} (first last by : Expression) (reads : AllRead f g active listed 200 (three_of first last by)) where
  three_come : (free : ℕ) (p q : Spot) (s : Situation) → HasLocals active listed s → free ≡ next_free s → IsQuiet f s.scope p.pc q.pc →
      Seq ((related g first).to_reg active free free) (Seq ((related g last).to_reg active (suc free) (suc free)) ((related g by).to_reg active (suc (suc free)) (suc (suc free)))) p q →
      AllCome f (AreCores g active (three_of first last by) p.functions q.functions) 200 s 3 p.pc q.pc
  three_come free p q s locals is quiet at =
      let others = at.second_at in
      let on = reads.0.one.forward free free p at.mid at.first_at in
      let on_two = reads.1.0.one.forward (suc free) (suc free) at.mid others.mid others.first_at in
      let on_three = reads.1.1.0.one.forward (suc (suc free)) (suc (suc free)) others.mid q others.second_at in
      let begins = reads.1.0.one.begins (suc free) at.mid others.mid (omega (arith, on_three, quiet.within)) others.first_at in
      let later = value_further reads.1.0.one (suc free) at.mid others.mid s locals (omega (arith, is)) (omega (arith, on_three, quiet.within)) others.first_at in
      let wanted = begins_wants s (quiet.stays at.mid.pc on (omega (arith, later, on_three))) begins (λ none. omega (arith, is, none)) in
      let one = comes_next reads.0.one free p at.mid s locals is (quiet_before at.mid.pc (omega (arith, on_two, on_three)) quiet) wanted at.first_at in
      let there = behind_one one in
      let next : suc free ≡ next_free there = omega (arith, next_behind free one is) in
      let quiet_there = quiet_same one.same (quiet_from at.mid.pc on quiet) in
      let two = comes_next reads.1.0.one (suc free) at.mid others.mid there (locals_then one.same locals) next (quiet_before others.mid.pc on_three quiet_there) (inl (some_behind one)) others.first_at in
      let behind = behind_one two in
      let next_two : suc (suc free) ≡ next_free behind = omega (arith, next_behind (suc free) two next) in
      let three = comes_next reads.1.1.0.one (suc (suc free)) others.mid q behind (locals_then {s = there} two.same (locals_then one.same locals)) next_two (quiet_same two.same (quiet_from others.mid.pc on_two quiet_there)) (inl (some_behind two)) others.second_at in
      let none = none_come f g active 200 (behind_one three) q q refl refl in
      more_come (IsCore g active first) (AreCores g active (syntax.expression last (syntax.expression by no_expressions))) one
      (more_come (IsCore g active last) (AreCores g active (syntax.expression by no_expressions)) two (more_come (IsCore g active by) (AreCores g active no_expressions) three none))

-- they are the values of a loop over numbers
three_head : {f : Function} {g : Fn} {active : List Active} {es : Expressions} {before behind : ℕ} {s : Situation} {first last : ℕ} → AllCome f (AreCores g active (counted_list es) before behind) 200 s 3 first last → HeadComes f g active true es before behind s first last
three_head come =
    let size = count_of_entries come.entries come.values come.singles in
    record {
      headed = record { values = come.values; all = true };
      is = (come.are, refl);
      scope = come.scope;
      same = come.same;
      seen = come.seen;
      taken = come.taken;
      entries = come.entries;
      reaches = come.reaches;
      listed = singles_adjusted 3 false come.entries come.values come.singles (omega (arith, size, come.counts));
      three = λ is. (omega (arith, size, come.counts), come.counts);
    }

module _ {f : Function} {g : Fn} {active : List Active} {listed : List ℕ} (is_function : IsFunction f g) (all : AreListed f g active listed) (es : Expressions) (p q : Spot) (s : Situation)
    (locals : HasLocals active listed s) (quiet : IsQuiet f s.scope p.pc q.pc) where
  -- as many as three values, where there is one at least
  pub generic_comes : AllHaveCores es → depth_of_expressions es ≤ 200 → has_expressions es ≡ true → (free : ℕ) → free ≡ next_free s → IsWanted f s q.pc → AdjustAt g (all_related g es) 3 active free p q →
      HeadComes f g active false es p.functions q.functions s p.pc q.pc
  generic_comes has few some free is wanted at =
      let come = adjusted_comes is_function all es has few 3 free p q s locals is quiet wanted at in
      by_form come (omega (arith, some_related g es some, come.counts)) come.form

  -- three values, the last of which is 1 where it is not said
  pub counted_comes : AllHaveCores es → depth_of_expressions es ≤ 200 → (free : ℕ) → free ≡ next_free s → CountedAt g es active free p q → HeadComes f g active true es p.functions q.functions s p.pc q.pc
  counted_comes has few free is at = by es has few at
    where
      by : (es : Expressions) → AllHaveCores es → depth_of_expressions es ≤ 200 → CountedAt g es active free p q → HeadComes f g active true es p.functions q.functions s p.pc q.pc
      by (syntax.expression first (syntax.expression last no_expressions)) has few at =
          let one : Expression = number_literal 1 (pos 1) in
          let reads = each_read is_function all (three_of first last one) (has.0, (has.1.0, (refl, tt))) {deep = 200} (omega arith) (omega (arith, few)) in
          three_head (three_come first last one reads free p q s locals is quiet at)
      by (syntax.expression first (syntax.expression last (syntax.expression step rest))) has few at =
          let reads = each_read is_function all (three_of first last step) (has.0, (has.1.0, (has.1.1.0, tt))) {deep = 200} (omega arith) (omega (arith, few)) in
          three_head (three_come first last step reads free p q s locals is quiet at)
      by no_expressions has few at = absurd at
      by (syntax.expression first no_expressions) has few at = absurd at
