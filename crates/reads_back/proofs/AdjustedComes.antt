-- The values of a list come to as many registers as are wanted: they are as many or more, or the last one gives further ones, or words clear the registers that are left.
use Rattle.std.proofs.Common.{◌≡◌, ℕ, zero, suc, ◌+◌, ◌-◌, ◌<◌, ◌≤◌, nat_lt, nat_le, Bool, true, false, List, [], ◌∷◌, ◌++◌, append_assoc, length, length-append, Option, Some, None, refl, sym, ap, ◌∙◌, subst, arith, le-leb, eq-eqb}
use Rattle.std.proofs.lemmas.Bool.{ltb-false, ltb-true, ne_eqb}
use Rattle.std.specs.Prelude.{option_and_then, option_map, if◌then◌else◌}
use Rattle.lua_tree.specs.Syntax as syntax
use Rattle.lua_tree.specs.Syntax.{Expressions, no_expressions}
use Rattle.lua_tree.specs.WellFormed.{depth_of_expressions, has_expressions}
use Rattle.opcode.specs.declared.op.Op.{Op}
use Rattle.core_expr.specs.Counting.{taken_behind_values}
use Rattle.core_expr.specs.Values.{Values, nil_value}
use Rattle.recover_expr.specs.Drafts.{goes, makes}
use Rattle.recover_expr.specs.Entries.{Entries, EntryValue, and_last_value, value_entry, missing_entry, more_entry, more}
use Rattle.recover_expr.specs.Lists.{ends_multiple, value_count}
use Rattle.recover_expr.specs.Locals.{Scope}
use Rattle.recover_expr.specs.Reading.{Turn, on as goes_to, turned}
use Rattle.recover_expr.specs.Situation.{Function, Situation}
use Rattle.recover_expr.specs.Words.{Done, gone, load_nil, with_more, with_register}
use Rattle.recover_expr.specs.declared.function.Word.{Word}
use Rattle.scheme.specs.declared.making.Active.{Active}
use Rattle.scheme.specs.declared.making.Piece.{Piece}
use Rattle.scheme_stands.specs.Expressions.{Rel}
use Rattle.scheme_stands.specs.Lists.{AdjustAt, AdjustBy, AllMultiAt, AllNextAt, FilledAt, NilsAt, rels_open}
use Rattle.scheme_stands.specs.Relation.{all_related}
use Rattle.scheme_stands.specs.Words.{Fn, Spot}
use Rattle.reads_back.specs.Cores.{AllHaveCores, AreCores, ends_open}
use Rattle.reads_back.proofs.AdjustedEntries.{count_last, entries_end, length_more}
use Rattle.reads_back.proofs.BehindWords.{HasLocals, SameLocals, behind_words, quiet_same}
use Rattle.reads_back.proofs.Comes.{AreEntries, IsWanted}
use Rattle.reads_back.proofs.GivenLists.{AllCome, all_come, all_forward, opens_by_last}
use Rattle.reads_back.proofs.NameReads.{AreListed}
use Rattle.reads_back.proofs.Reaches.{Reaches, here, reaches_then, word}
use Rattle.reads_back.proofs.SeveralValues.{behind_all, entries_put, several_come, singles_come}
use Rattle.reads_back.proofs.TakenEntries.{count_of_entries}
use Rattle.reads_back.proofs.ValueReads.{each_read}
use Rattle.reads_back.proofs.ValueWords.{makes_turn, next_free}
use Rattle.reads_back.proofs.WordsBegin.{word_begins}
use Rattle.reads_back.proofs.WordsRead.{IsFunction, IsQuiet, abc_is_read, quiet_before, quiet_from, turn_there, word_of, word_there}

-- ---- a word that clears registers

abbrev clear_word : (pc free n : ℕ) → Word
clear_word pc free n = word_of pc (Piece.Abc Op.LoadNil free (free + n - 1) 0)

-- one is read as a nil
clears_one : (w : Word) (s : Situation) → w.instr.a ≡ w.instr.b → load_nil w s ≡ Some (makes nil_value w.next, s)
clears_one w s same =
    let several = if nat_le w.instr.a w.instr.b then gone w.next (option_map (with_more (more (w.instr.b - w.instr.a) missing_entry)) (with_register w.instr.a missing_entry s)) else None in
    ap (λ one. if one then Some (makes nil_value w.next, s) else several) (eq-eqb w.instr.a w.instr.b same)

-- several are missing
clears_several : (w : Word) (s : Situation) (n : ℕ) → w.instr.b ≡ w.instr.a + suc n → w.instr.a ≡ next_free s →
    load_nil w s ≡ Some (goes w.next, record s { entries = s.entries ++ more (suc (suc n)) missing_entry })
clears_several w s n last is =
    let put = λ (n : ℕ). gone w.next (option_map (with_more (more n missing_entry)) (with_register w.instr.a missing_entry s)) in
    let fewer : w.instr.b - w.instr.a ≡ suc n = omega (arith, last) in
    let some = if nat_le w.instr.a w.instr.b then put (w.instr.b - w.instr.a) else None in
    ap (λ one. if one then Some (makes nil_value w.next, s) else some) (ne_eqb w.instr.a w.instr.b (λ same. omega (arith, last, same)))
    ∙ ap (λ up. if up then put (w.instr.b - w.instr.a) else None) (le-leb w.instr.a w.instr.b (omega (arith, last)))
    ∙ ap put fewer
    ∙ ap (gone w.next) (entries_put missing_entry missing_entry (suc n) w.instr.a s is)

module _ {f : Function} {g : Fn} (is_function : IsFunction f g) (free : ℕ) (p q : Spot) (s : Situation) (is : free ≡ next_free s) (quiet : IsQuiet f s.scope p.pc q.pc) where
  one_cleared : NilsAt g free 1 p q → Reaches f p.pc s q.pc (record s { entries = s.entries ++ value_entry nil_value ∷ [] })
  one_cleared at =
      let w = clear_word p.pc free 1 in
      let later : p.pc < q.pc = omega (arith, at.word.next) in
      let one : free ≡ free + 1 - 1 = omega arith in
      let turn =
      turn_there p.pc s quiet (omega arith) later (word_there is_function at.word (abc_is_read is_function at.word) (omega (arith, later, quiet.within)))
      ∙ makes_turn f w nil_value (suc p.pc) s s (clears_one w s one) is
      ∙ ap (λ (next : ℕ). Some (goes_to next, record s { entries = s.entries ++ value_entry nil_value ∷ [] })) (sym at.word.next) in
      word later turn here

  several_cleared : (n : ℕ) → NilsAt g free (suc (suc n)) p q → Reaches f p.pc s q.pc (record s { entries = s.entries ++ more (suc (suc n)) missing_entry })
  several_cleared n at =
      let w = clear_word p.pc free (suc (suc n)) in
      let does : Done → Option (Turn × Situation) = option_and_then (λ p. turned f w p.1 p.0) in
      let later : p.pc < q.pc = omega (arith, at.word.next) in
      let last : free + suc (suc n) - 1 ≡ free + suc n = omega arith in
      let turn =
      turn_there p.pc s quiet (omega arith) later (word_there is_function at.word (abc_is_read is_function at.word) (omega (arith, later, quiet.within)))
      ∙ ap does (clears_several w s n last is)
      ∙ ap (λ (next : ℕ). Some (goes_to next, record s { entries = s.entries ++ more (suc (suc n)) missing_entry })) (sym at.word.next) in
      word later turn here

-- ---- what comes for so many places

-- what stands in entries for so many of these values
pub data AdjustedForm (is_open : Bool) (count : ℕ) (from : Values) (entries : Entries) : Type 0 where
  -- these alone, as many or more
  as_many : AreEntries entries from → count ≤ value_count from → AdjustedForm is_open count from entries
  -- and a nil, the only one that is missing
  nil_behind : AreEntries entries (and_last_value from nil_value) → is_open ≡ false → suc (value_count from) ≡ count → AdjustedForm is_open count from entries
  -- and two or more that are missing
  missing_behind : (singles : Entries) (n : ℕ) → AreEntries singles from → entries ≡ singles ++ more (suc (suc n)) missing_entry → is_open ≡ false → count ≡ value_count from + suc (suc n) → AdjustedForm is_open count from entries
  -- and further ones of the last
  further_behind : (singles : Entries) (n : ℕ) → AreEntries singles from → entries ≡ singles ++ more (suc n) more_entry → is_open ≡ true → ends_multiple from ≡ true → count ≡ value_count from + suc n → AdjustedForm is_open count from entries

more_counted : (entries singles : Entries) (entry : EntryValue) (n : ℕ) (from : Values) → AreEntries singles from → entries ≡ singles ++ more n entry → length entries ≡ value_count from + n
more_counted entries singles entry n from are is = omega (arith, ap length is, length-append singles (more n entry), count_of_entries singles from are, length_more n entry)

pub enough_entries : {is_open : Bool} {count : ℕ} {from : Values} {entries : Entries} → AdjustedForm is_open count from entries → count ≤ length entries
enough_entries {from = from} {entries = entries} (as_many are enough) = omega (arith, enough, count_of_entries entries from are)
enough_entries {from = from} {entries = entries} (nil_behind are closed counts) = omega (arith, counts, count_last from nil_value, count_of_entries entries (and_last_value from nil_value) are)
enough_entries {from = from} {entries = entries} (missing_behind singles n are is closed counts) = omega (arith, counts, more_counted entries singles missing_entry (suc (suc n)) from are is)
enough_entries {from = from} {entries = entries} (further_behind singles n are is opens several counts) = omega (arith, counts, more_counted entries singles more_entry (suc n) from are is)

-- and for each value
pub each_entry : {is_open : Bool} {count : ℕ} {from : Values} {entries : Entries} → AdjustedForm is_open count from entries → value_count from ≤ length entries
each_entry {from = from} {entries = entries} (as_many are enough) = omega (arith, count_of_entries entries from are)
each_entry {from = from} {entries = entries} (nil_behind are closed counts) = omega (arith, count_last from nil_value, count_of_entries entries (and_last_value from nil_value) are)
each_entry {from = from} {entries = entries} (missing_behind singles n are is closed counts) = omega (arith, more_counted entries singles missing_entry (suc (suc n)) from are is)
each_entry {from = from} {entries = entries} (further_behind singles n are is opens several counts) = omega (arith, more_counted entries singles more_entry (suc n) from are is)

-- the values of a list come, and with them entries for so many
pub record AdjustedComes (f : Function) (g : Fn) (active : List Active) (es : Expressions) (before behind : ℕ) (s : Situation) (count first last : ℕ) : Type 0 where
  pub from : Values
  pub are : AreCores g active es before behind from
  pub counts : value_count from ≡ length (all_related g es)
  pub scope : Scope
  pub same : SameLocals s.scope scope
  pub seen : ℕ
  pub taken : taken_behind_values from s.seen ≡ seen
  pub entries : Entries
  pub form : AdjustedForm (ends_open es) count from entries
  pub reaches : Reaches f first s last (behind_words scope seen entries s)

-- ---- they come

module _ {f : Function} {g : Fn} {active : List Active} {listed : List ℕ} (is_function : IsFunction f g) (all : AreListed f g active listed)
    (es : Expressions) (has : AllHaveCores es) (few : depth_of_expressions es ≤ 200) (count free : ℕ) (p q : Spot) (s : Situation)
    (locals : HasLocals active listed s) (is : free ≡ next_free s) (quiet : IsQuiet f s.scope p.pc q.pc) where
  abbrev rels : List Rel
  rels = all_related g es

  abbrev ComeHere : Type 0
  ComeHere = AdjustedComes f g active es p.functions q.functions s count p.pc q.pc

  -- as many values as are wanted, or more
  come_alone : IsWanted f s q.pc → count ≤ length rels → AllNextAt g rels active free p q → ComeHere
  come_alone wanted enough at =
      let come = all_come f g active listed 200 es (each_read is_function all es has (omega arith) few) free p q s locals is quiet (λ only. wanted) at in
      record {
        from = come.values;
        are = come.are;
        counts = come.counts;
        scope = come.scope;
        same = come.same;
        seen = come.seen;
        taken = come.taken;
        entries = come.entries;
        form = as_many come.singles (omega (arith, enough, come.counts));
        reaches = come.reaches;
      }

  -- fewer, of which the last one gives further ones
  with_several : (n : ℕ) → 0 < n → count ≡ length rels + n → rels_open rels ≡ true → AllMultiAt g Op.Call (Some (n + 1)) rels active free p q → ComeHere
  with_several zero some counts opens at = absurd (omega (arith, some))
  with_several (suc n) some counts opens at =
      let ends : true ≡ ends_open es = sym opens ∙ opens_by_last g es in
      let come = several_come is_function all (suc n) some es has few ends free p q at s locals is quiet in
      record {
        from = come.values;
        are = come.are;
        counts = come.counts;
        scope = come.scope;
        same = come.same;
        seen = come.seen;
        taken = come.taken;
        entries = come.entries ++ more (suc n) more_entry;
        form = further_behind come.entries n come.singles refl (sym ends) come.several (omega (arith, counts, come.counts));
        reaches = come.reaches;
      }

  module _ (closed : ends_open es ≡ false) (mid : Spot) (front : AllCome f (AreCores g active es p.functions mid.functions) 200 s (length rels) p.pc mid.pc)
      (next : free + length rels ≡ next_free (behind_all front)) (behind : IsQuiet f front.scope mid.pc q.pc) where
    -- others come above the values
    and_more : (more : Entries) → q.functions ≡ mid.functions → Reaches f mid.pc (behind_all front) q.pc (record (behind_all front) { entries = (behind_all front).entries ++ more }) → AdjustedForm (ends_open es) count front.values (front.entries ++ more) → ComeHere
    and_more more none_made reaches form = record {
      from = front.values;
      are = subst (λ (behind : ℕ). AreCores g active es p.functions behind front.values) (sym none_made) front.are;
      counts = front.counts;
      scope = front.scope;
      same = front.same;
      seen = front.seen;
      taken = front.taken;
      entries = front.entries ++ more;
      form = form;
      reaches =
          reaches_then front.reaches
          (subst (λ (entries : Entries). Reaches f mid.pc (behind_all front) q.pc (record (behind_all front) { entries = entries })) (append_assoc s.entries front.entries more) reaches);
    }

    then_cleared : (n : ℕ) → 0 < n → count ≡ length rels + n → NilsAt g (free + length rels) n mid q → ComeHere
    then_cleared zero some counts at = absurd (omega (arith, some))
    then_cleared (suc zero) some counts at =
        and_more (value_entry nil_value ∷ []) at.word.functions (one_cleared is_function (free + length rels) mid q (behind_all front) next behind at)
        (nil_behind (entries_end front.entries front.values nil_value front.singles) closed (omega (arith, counts, front.counts)))
    then_cleared (suc (suc n)) some counts at =
        and_more (more (suc (suc n)) missing_entry) at.word.functions (several_cleared is_function (free + length rels) mid q (behind_all front) next behind n at)
        (missing_behind front.entries n front.singles refl closed (omega (arith, counts, front.counts)))

  -- fewer, and the registers above them are cleared
  cleared_behind : (n : ℕ) → 0 < n → count ≡ length rels + n → rels_open rels ≡ false → (mid : Spot) → AllNextAt g rels active free p mid → NilsAt g (free + length rels) n mid q → ComeHere
  cleared_behind n some counts opens mid front_at at =
      let reads = each_read is_function all es has {deep = 200} (omega arith) few in
      let on = all_forward f g active listed 200 es reads free p mid front_at in
      let back : mid.pc ≤ q.pc = omega (arith, at.word.next) in
      let begins = word_begins (free + length rels) is_function at.word (abc_is_read is_function at.word) refl (omega arith) in
      let front = singles_come f g active listed 200 es reads free p mid s locals is (quiet_before mid.pc back quiet) (quiet.stays mid.pc on (omega (arith, at.word.next))) begins front_at in
      let size = count_of_entries front.entries front.values front.singles in
      let next : free + length rels ≡ next_free (behind_all front) = omega (arith, is, length-append s.entries front.entries, size, front.counts) in
      then_cleared (sym (opens_by_last g es) ∙ opens) mid front next (quiet_same front.same (quiet_from mid.pc on quiet)) n some counts at

  by_filled : (is_open : Bool) → rels_open rels ≡ is_open → (n : ℕ) → 0 < n → count ≡ length rels + n → FilledAt is_open g rels n active free p q → ComeHere
  by_filled true opens n some counts at = with_several n some counts opens at
  by_filled false opens n some counts at = cleared_behind n some counts opens at.mid at.first_at at.second_at

  by_adjust : IsWanted f s q.pc → (fewer : Bool) → nat_lt (length rels) count ≡ fewer → AdjustBy fewer g rels count active free p q → ComeHere
  by_adjust wanted true is_fewer at =
      let below = ltb-true (length rels) count is_fewer in
      by_filled (rels_open rels) refl (count - length rels) (omega (arith, below)) (omega (arith, below)) at
  by_adjust wanted false is_fewer at = come_alone wanted (ltb-false (length rels) count is_fewer) at

  pub adjusted_comes : IsWanted f s q.pc → AdjustAt g rels count active free p q → ComeHere
  adjusted_comes wanted at = by_adjust wanted (nat_lt (length rels) count) refl at

-- where there are expressions, there are some
pub some_related : (g : Fn) (es : Expressions) → has_expressions es ≡ true → 0 < length (all_related g es)
some_related g no_expressions some = absurd cc
some_related g (syntax.expression e es) some = omega arith
