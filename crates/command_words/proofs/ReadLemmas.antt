-- clap's command of a form reads words as the definition does.
use Rattle.std.proofs.Common.{◌≡◌, ◌∙◌, ◌+◌, ◌++◌, ℕ, Bool, true, false, true≢false, List, [], ◌∷◌, Option, Some, None, min, drop, option_map, refl, ap, ap₂, sym, subst, zero-add}
use Rattle.std.specs.Prelude.{codes}
use Rattle.std.proofs.lemmas.Str.{IsUtf8-string_bytes}
use Rattle.lua_num.specs.Bytes.{Text}
use Rattle.clap.specs.Lexer.{usize_max}
use Rattle.clap.specs.Walk.{Row, Rule, arg_by_index, idle, nothing_held, option, rows_after, settled_rows}
use Rattle.clap.specs.Simple.{App, matches_of, names_of}
use Rattle.clap.specs.Faults.{built_fault, fault_of, level_fault}
use Rattle.clap.proofs.FaultLemmas.{leaf_fault}
use Rattle.command_words.specs.declared.reading.Form.{Form}
use Rattle.command_words.specs.Arguments.{Arguments, Words, arguments, arguments_in, behind_flag, files_alone, is_flag, texts, with_file, with_strip}
use Rattle.command_words.specs.Parser.{app_for}
use Rattle.command_words.proofs.RuleLemmas.{Finds, built_app, built_file, built_out, built_shape, built_strip, finds, is_built, present, rules_for}
use Rattle.command_words.proofs.TurnLemmas.{IsPlace, Valued, alone, alone_turn, by_id, dashes_turn, end_turn, joined_turn, layout, mark_of, name_of, outcome, outcome_is, past, plain_stray, plain_turn, rule_at, settling, settling_value, standing, steps, strip_turn, trailing_stray, trailing_turn, unfilled_end, unfilled_long, unfilled_none, using, value_turn, wanting, wants}
use Rattle.command_words.proofs.KindLemmas.{AreTexts, IsPlain, Kind, dashes, joined, kind_of, lone, plain, plain_of, refused, strip}
use Rattle.command_words.proofs.RowLemmas.{Holds, Seen, file_used, nothing_holds, out_used, strip_again, strip_used, value_again, value_at, value_used, with_value}
use Rattle.command_words.proofs.SettleLemmas.{Taker, mark_long, mark_more, nobody, settled_free, settled_trailing, taker, unknown_fails}
use Rattle.command_words.proofs.AskedLemmas.{Place, Shows, Stands, add_value, after, asked, file_over, file_taken, file_third, never, no_file, one_file, out_taken, passed_on, read_nothing, read_on, strip_repeated, strip_taken, strip_unwanted, two_files, value_flag, value_repeated, value_taken, value_unwanted}
use Rattle.command_words.proofs.EndLemmas.{at_end}

carried : (r s : Option (List Row)) (o p : Option Arguments) → r ≡ s → p ≡ o → Shows s p → Shows r o
carried r s o p rows asks shows = subst (λ (x : Option (List Row)). Shows x o) (sym rows) (subst (λ (q : Option Arguments). Shows s q) asks shows)

-- what stays of the other flags where a file or `--strip` comes
kept_values : (form : Form) (seen now : Seen) → now.steps ≡ seen.steps → now.layout ≡ seen.layout → ((k : Valued) (v : Text) → value_at k seen ≡ Some v → wants form k ≡ true)
    → (k : Valued) (v : Text) → value_at k now ≡ Some v → wants form k ≡ true
kept_values form seen now s l values steps v is = values steps v (sym s ∙ is)
kept_values form seen now s l values layout v is = values layout v (sym l ∙ is)

module _ (form : Form) where
  abbrev c : List Rule
  c = rules_for form

  abbrev f : Finds form c
  f = finds form

  first_place : IsPlace c 1 built_file
  first_place = record { is = f.first; several = refl; multiple = refl; trailing = refl }

  second_place : form.out ≡ true → IsPlace c 2 built_out
  second_place out = record { is = f.second ∙ ap (λ b. present b built_out) out; several = refl; multiple = refl; trailing = refl }

  no_second : form.out ≡ false → arg_by_index c 2 ≡ None
  no_second out = f.second ∙ ap (λ b. present b built_out) out

  second_taker : (b : Bool) → form.out ≡ b → Taker c 2
  second_taker true e = taker built_out (second_place e)
  second_taker false e = nobody (no_second e)

  taker_at : (seen : Seen) (position : ℕ) → Place form seen position → Taker c position
  taker_at seen position (no_file at none no_out) = subst (Taker c) (sym at) (taker built_file first_place)
  taker_at seen position (one_file v at some no_out) = subst (Taker c) (sym at) (second_taker form.out refl)
  taker_at seen position (two_files v w at some other out) = subst (Taker c) (sym at) (nobody f.third)

  -- ---- a word that stands for a file, behind `--` or before it

  module _ (t : Bool) (word : Text) (rest : List Text) (o : Option Arguments)
      (takes : (position : ℕ) (a : Rule) → IsPlace c position a → (rows : List Row) → outcome c (standing rows None idle position t) (word ∷ rest) ≡ outcome c (standing rows (Some (a.id, word ∷ [])) idle (min (position + 1) usize_max) t) rest)
      (strays : (position : ℕ) → arg_by_index c position ≡ None → (rows : List Row) → outcome c (standing rows None idle position t) (word ∷ rest) ≡ None)
      (settles : (position : ℕ) → Taker c position → (rows : List Row) (pending : Option (Text × List Text)) → outcome c (standing rows pending idle position t) rest ≡ settling c rows pending (λ r. outcome c (standing r None idle position t) rest))
      (further : (rows : List Row) (seen : Seen) (position : ℕ) → Holds rows seen → Stands form seen position → Shows (outcome c (standing rows None idle position t) rest) (read_on form (asked seen) o)) where
    abbrev Claim : List Row → Seen → ℕ → Type 0
    Claim rows seen position = Shows (outcome c (standing rows None idle position t) (word ∷ rest)) (read_on form (asked seen) (option_map (with_file word) o))

    file_first : (rows : List Row) (seen : Seen) (position : ℕ) → Holds rows seen → Stands form seen position → seen.file ≡ None → seen.out ≡ None → Claim rows seen 1
    file_first rows seen position h stands none no_out =
        let next = λ (r : List Row). outcome c (standing r None idle 2 t) rest in
        let now : Seen = record seen { file = Some word } in
        let used = file_used rows seen h word next none in
        let is : outcome c (standing rows None idle 1 t) (word ∷ rest) ≡ next used.0 = takes 1 built_file first_place rows ∙ settles 2 (second_taker form.out refl) rows (Some (codes "file", word ∷ []))
        ∙ settling_value c built_file rows (codes "file") (word ∷ []) next f.file_id ∙ used.1 in
        let placed : Stands form now 2 = record { place = one_file word refl refl no_out; strips = stands.strips; values = kept_values form seen now refl refl stands.values } in
        carried _ _ _ _ is (passed_on form (asked seen) (asked now) (with_file word) (file_taken seen word none no_out) o) (further used.0 now 2 used.2 placed)

    file_second : (rows : List Row) (seen : Seen) (position : ℕ) (v : Text) → Holds rows seen → Stands form seen position → seen.file ≡ Some v → seen.out ≡ None → (b : Bool) → form.out ≡ b → Claim rows seen 2
    file_second rows seen position v h stands some none true out =
        let next = λ (r : List Row). outcome c (standing r None idle 3 t) rest in
        let now : Seen = record seen { out = Some word } in
        let used = out_used rows seen h word next none in
        let is : outcome c (standing rows None idle 2 t) (word ∷ rest) ≡ next used.0 = takes 2 built_out (second_place out) rows ∙ settles 3 (nobody f.third) rows (Some (codes "out", word ∷ []))
        ∙ settling_value c built_out rows (codes "out") (word ∷ []) next (f.out_id ∙ ap (λ b. present b built_out) out) ∙ used.1 in
        let placed : Stands form now 3 = record { place = two_files v word refl some refl out; strips = stands.strips; values = kept_values form seen now refl refl stands.values } in
        carried _ _ _ _ is (passed_on form (asked seen) (asked now) (with_file word) (out_taken seen v word some none) o) (further used.0 now 3 used.2 placed)
    file_second rows seen position v h stands some none false out =
        carried _ None _ _ (strays 2 (no_second out) rows) refl (never form (asked seen) (with_file word) (file_over form seen v word some none out) o)

    file_word : (rows : List Row) (seen : Seen) (position : ℕ) → Holds rows seen → Stands form seen position → Claim rows seen position
    file_word rows seen position h stands = go stands.place
      where
        go : Place form seen position → Claim rows seen position
        go (no_file at none no_out) = subst (Claim rows seen) (sym at) (file_first rows seen position h stands none no_out)
        go (one_file v at some no_out) = subst (Claim rows seen) (sym at) (file_second rows seen position v h stands some no_out form.out refl)
        go (two_files v w at some other out) =
            subst (Claim rows seen) (sym at) (carried _ None _ _ (strays 3 f.third rows) refl (never form (asked seen) (with_file word) (file_third form seen v w word some other) o))

  -- ---- behind `--`

  ends_here : (t : Bool) (rows : List Row) (seen : Seen) (position : ℕ) → Holds rows seen → Stands form seen position → Shows (outcome c (standing rows None idle position t) []) (read_on form (asked seen) (Some (files_alone [])))
  ends_here t rows seen position h stands = carried _ _ _ _ (end_turn c rows None idle position t) refl (at_end form rows seen position h stands)

  read_trailing : (words : List Text) (rows : List Row) (seen : Seen) (position : ℕ) → Holds rows seen → Stands form seen position
      → Shows (outcome c (standing rows None idle position true) words) (read_on form (asked seen) (Some (files_alone words)))
  read_trailing [] rows seen position h stands = ends_here true rows seen position h stands
  read_trailing (word ∷ rest) rows seen position h stands = file_word true word rest (Some (files_alone rest))
      (λ p a place r. trailing_turn c p a place r None idle word rest)
      (λ p none r. trailing_stray c p none r None idle word rest)
      (λ p to r pending. settled_trailing c r pending p idle to rest)
      (read_trailing rest) rows seen position h stands

  -- ---- before it

  abbrev Reads : List Text → Type 0
  Reads words = AreTexts words → (rows : List Row) (seen : Seen) (position : ℕ) → Holds rows seen → Stands form seen position → Shows (outcome c (standing rows None idle position false) words) (read_on form (asked seen) (arguments words))

  abbrev ReadsBehind : List Text → Type 0
  ReadsBehind [] = Unit {0}
  ReadsBehind (value ∷ words) = Reads words

  reads_alone : (k : Valued) (rest : List Text) → arguments (alone k ∷ rest) ≡ behind_flag (add_value k) rest
  reads_alone steps rest = refl
  reads_alone layout rest = refl

  reads_joined : (k : Valued) (v : Text) (rest : List Text) → arguments ((mark_of k ++ v) ∷ rest) ≡ option_map (add_value k v) (arguments rest)
  reads_joined steps v rest = refl
  reads_joined layout v rest = refl

  module _ (rows : List Row) (seen : Seen) (position : ℕ) (h : Holds rows seen) (stands : Stands form seen position) where
    abbrev Here : List Text → Type 0
    Here words = Shows (outcome c (standing rows None idle position false) words) (read_on form (asked seen) (arguments words))

    stands_with : (k : Valued) (v : Text) → wants form k ≡ true → Stands form (with_value k v seen) position
    stands_with steps v wanted = record { place = place stands.place; strips = stands.strips; values = values }
      where
        place : Place form seen position → Place form (with_value steps v seen) position
        place (no_file at none no_out) = no_file at none no_out
        place (one_file w at some no_out) = one_file w at some no_out
        place (two_files w x at some other out) = two_files w x at some other out

        values : (k : Valued) (w : Text) → value_at k (with_value steps v seen) ≡ Some w → wants form k ≡ true
        values steps w is = wanted
        values layout w is = stands.values layout w is
    stands_with layout v wanted = record { place = place stands.place; strips = stands.strips; values = values }
      where
        place : Place form seen position → Place form (with_value layout v seen) position
        place (no_file at none no_out) = no_file at none no_out
        place (one_file w at some no_out) = one_file w at some no_out
        place (two_files w x at some other out) = two_files w x at some other out

        values : (k : Valued) (w : Text) → value_at k (with_value layout v seen) ≡ Some w → wants form k ≡ true
        values steps w is = stands.values steps w is
        values layout w is = wanted

    -- a value of a flag
    value_word : (k : Valued) (v : Text) (rest : List Text) (r : Option (List Row)) → AreTexts rest → Reads rest
        → r ≡ wanting (wants form k) (using (rule_at k) (v ∷ []) rows (λ now. outcome c (standing now None idle position false) rest))
        → Shows r (read_on form (asked seen) (option_map (add_value k v) (arguments rest)))
    value_word k v rest r utf8 further is = go (wants form k) refl (value_at k seen) refl is
      where
        next : List Row → Option (List Row)
        next now = outcome c (standing now None idle position false) rest

        go : (b : Bool) → wants form k ≡ b → (o : Option Text) → value_at k seen ≡ o → r ≡ wanting b (using (rule_at k) (v ∷ []) rows next) → Shows r (read_on form (asked seen) (option_map (add_value k v) (arguments rest)))
        go false unwanted o at e = carried r None _ _ e refl (never form (asked seen) (add_value k v) (value_unwanted form seen k v unwanted) (arguments rest))
        go true wanted (Some w) at e = carried r None _ _ (e ∙ value_again rows seen h k v w next at) refl (never form (asked seen) (add_value k v) (value_repeated form seen k v w at) (arguments rest))
        go true wanted None at e =
            let used = value_used rows seen h k v next at in
            carried r (next used.0) _ _ (e ∙ used.1) (passed_on form (asked seen) (asked (with_value k v seen)) (add_value k v) (value_taken seen k v at) (arguments rest))
            (further utf8 used.0 (with_value k v seen) position used.2 (stands_with k v wanted))

    strip_word : (rest : List Text) → AreTexts rest → Reads rest → Here (codes "--strip" ∷ rest)
    strip_word rest utf8 further = go form.strip refl seen.strip refl (strip_turn form c f rows None position rest)
      where
        next : List Row → Option (List Row)
        next now = outcome c (standing now None idle position false) rest

        place : Place form seen position → Place form (record seen { strip = true }) position
        place (no_file at none no_out) = no_file at none no_out
        place (one_file w at some no_out) = one_file w at some no_out
        place (two_files w x at some other out) = two_files w x at some other out

        go : (b : Bool) → form.strip ≡ b → (s : Bool) → seen.strip ≡ s → outcome c (standing rows None idle position false) (codes "--strip" ∷ rest) ≡ wanting b (using built_strip [] rows next) → Here (codes "--strip" ∷ rest)
        go false unwanted s at e = carried _ None _ _ e refl (never form (asked seen) with_strip (strip_unwanted form seen unwanted) (arguments rest))
        go true wanted true at e = carried _ None _ _ (e ∙ strip_again rows seen h next at) refl (never form (asked seen) with_strip (strip_repeated form seen at) (arguments rest))
        go true wanted false at e =
            let used = strip_used rows seen h next at in
            let now : Seen = record seen { strip = true } in
            let placed : Stands form now position = record { place = place stands.place; strips = λ s. wanted; values = kept_values form seen now refl refl stands.values } in
            carried _ (next used.0) _ _ (e ∙ used.1) (passed_on form (asked seen) (asked now) with_strip (strip_taken seen at) (arguments rest)) (further utf8 used.0 now position used.2 placed)

    -- what comes behind a flag that wants a value, where it is a flag too
    flag_behind : (k : Valued) (word : Text) (words : List Text) → wants form k ≡ true → Kind word → (is_flag word ≡ false → ⊥)
        → outcome c (standing rows (Some (name_of k, [])) (option (name_of k)) position false) (word ∷ words) ≡ None
    flag_behind k word words wanted (dashes is) flag = subst (λ (w : Text). outcome c (standing rows (Some (name_of k, [])) (option (name_of k)) position false) (w ∷ words) ≡ None) (sym is)
        (dashes_turn c rows (Some (name_of k, [])) (option (name_of k)) position words
        ∙ settled_trailing c rows (Some (name_of k, [])) position (option (name_of k)) (taker_at seen position stands.place) words
        ∙ unfilled_none form c f k rows (outcome c (standing (settled_rows c (Some (name_of k, [])) rows) None idle position true) words) wanted)
    flag_behind k word words wanted (strip is) flag = subst (λ (w : Text). outcome c (standing rows (Some (name_of k, [])) (option (name_of k)) position false) (w ∷ words) ≡ None) (sym is)
        (unfilled_long form c f k rows position (codes "--strip") (codes "strip") None words wanted refl refl)
    flag_behind k word words wanted (lone j is) flag = subst (λ (w : Text). outcome c (standing rows (Some (name_of k, [])) (option (name_of k)) position false) (w ∷ words) ≡ None) (sym is) (go j)
      where
        go : (j : Valued) → outcome c (standing rows (Some (name_of k, [])) (option (name_of k)) position false) (alone j ∷ words) ≡ None
        go steps = unfilled_long form c f k rows position (codes "--steps") (codes "steps") None words wanted refl refl
        go layout = unfilled_long form c f k rows position (codes "--layout") (codes "layout") None words wanted refl refl
    flag_behind k word words wanted (joined j v is) flag = subst (λ (w : Text). outcome c (standing rows (Some (name_of k, [])) (option (name_of k)) position false) (w ∷ words) ≡ None) (sym is)
        (unfilled_long form c f k rows position (mark_of j ++ v) (name_of j) (Some v) words wanted (mark_more j v) (mark_long j v))
    flag_behind k word words wanted (refused r) flag = unknown_fails form c f rows (Some (name_of k, [])) (option (name_of k)) position word words r.more r.how
    flag_behind k word words wanted (plain p) flag = absurd (flag p.flag)

    lone_word : (k : Valued) (rest : List Text) → AreTexts rest → ReadsBehind rest → Here (alone k ∷ rest)
    lone_word k [] utf8 further = carried _ None _ None (alone_turn form c f k rows None position [] ∙ go (wants form k) refl) (sym (ap (read_on form (asked seen)) (reads_alone k []))) refl
      where
        go : (b : Bool) → wants form k ≡ b → wanting b (outcome c (standing rows (Some (name_of k, [])) (option (name_of k)) position false) []) ≡ None
        go true wanted = unfilled_end form c f k rows (option (name_of k)) position false wanted
        go false unwanted = refl
    lone_word k (value ∷ words) utf8 further =
        carried _ _ _ _ (alone_turn form c f k rows None position (value ∷ words)) (sym (ap (read_on form (asked seen)) (reads_alone k (value ∷ words)))) (go (wants form k) refl (is_flag value) refl)
      where
        here : Option (List Row)
        here = outcome c (standing rows (Some (name_of k, [])) (option (name_of k)) position false) (value ∷ words)

        Claim : Option (List Row) → Type 0
        Claim r = Shows r (read_on form (asked seen) (option_map (add_value k value) (arguments words)))

        next : List Row → Option (List Row)
        next now = outcome c (standing now None idle position false) words

        taken : IsPlain value → wants form k ≡ true → here ≡ wanting (wants form k) (using (rule_at k) (value ∷ []) rows next)
        taken p wanted = value_turn form c f k rows position value words wanted p.more p.long p.short
            ∙ settled_free c rows (Some (name_of k, value ∷ [])) position form f words (taker_at seen position stands.place) utf8.1
            ∙ settling_value c (rule_at k) rows (name_of k) (value ∷ []) next (by_id form c f k ∙ ap (λ b. present b (rule_at k)) wanted)
            ∙ ap (λ b. wanting b (using (rule_at k) (value ∷ []) rows next)) (sym wanted)

        go : (b : Bool) → wants form k ≡ b → (flag : Bool) → is_flag value ≡ flag → Claim (wanting b here)
        go false unwanted flag is = never form (asked seen) (add_value k value) (value_unwanted form seen k value unwanted) (arguments words)
        go true wanted true is =
            carried here None _ _ (flag_behind k value words wanted (kind_of value utf8.0) (λ unwanted. true≢false (sym is ∙ unwanted))) refl (never form (asked seen) (add_value k value) (value_flag form seen k value is) (arguments words))
        go true wanted false is = value_word k value words here utf8.1 further (taken (plain_of value (kind_of value utf8.0) is) wanted)

    word_reads : (word : Text) (rest : List Text) → Kind word → AreTexts rest → Reads rest → ReadsBehind rest → Here (word ∷ rest)
    word_reads word rest (dashes is) utf8 further behind = subst (λ (w : Text). Here (w ∷ rest)) (sym is) (carried _ _ _ _ (dashes_turn c rows None idle position rest) refl (read_trailing rest rows seen position h stands))
    word_reads word rest (strip is) utf8 further behind = subst (λ (w : Text). Here (w ∷ rest)) (sym is) (strip_word rest utf8 further)
    word_reads word rest (lone k is) utf8 further behind = subst (λ (w : Text). Here (w ∷ rest)) (sym is) (lone_word k rest utf8 behind)
    word_reads word rest (joined k v is) utf8 further behind = subst (λ (w : Text). Here (w ∷ rest)) (sym is) (carried _ _ _ _ refl (sym (ap (read_on form (asked seen)) (reads_joined k v rest)))
        (value_word k v rest _ utf8 further (joined_turn form c f k rows None position (mark_of k ++ v) v rest (mark_more k v) (mark_long k v))))
    word_reads word rest (refused r) utf8 further behind = carried _ None _ None (unknown_fails form c f rows None idle position word rest r.more r.how) (sym (ap (read_on form (asked seen)) (r.unread rest))) refl
    word_reads word rest (plain p) utf8 further behind = carried _ _ _ _ refl (sym (ap (read_on form (asked seen)) (p.reads rest)))
        (file_word false word rest (arguments rest)
        (λ q a place r. plain_turn c q a place r None word rest p.more p.long p.short)
        (λ q none r. plain_stray c q none r None word rest p.more p.long p.short)
        (λ q to r pending. settled_free c r pending q form f rest to utf8)
        (further utf8) rows seen position h stands)

  mutual
    read_free : (words : List Text) → Reads words
    read_free [] utf8 rows seen position h stands = ends_here false rows seen position h stands
    read_free (word ∷ rest) utf8 rows seen position h stands = word_reads rows seen position h stands word rest (kind_of word utf8.0) utf8.1 (read_free rest) (read_behind rest)

    read_behind : (words : List Text) → ReadsBehind words
    read_behind [] = tt
    read_behind (value ∷ words) = read_free words

  -- ---- the whole parse

  nothing_seen : Stands form (record { file = None; out = None; strip = false; steps = None; layout = None }) 1
  nothing_seen = record { place = no_file refl refl refl; strips = λ e. absurd (true≢false (sym e)); values = values }
    where
      values : (k : Valued) (v : Text) → value_at k (record { file = None; out = None; strip = false; steps = None; layout = None }) ≡ Some v → wants form k ≡ true
      values steps v e = cc
      values layout v e = cc

  after_none : (later : Arguments) → after (asked (record { file = None; out = None; strip = false; steps = None; layout = None })) later ≡ later
  after_none later = ap (λ n. record later { strips = n }) (zero-add later.strips)

  fault_is : (words : List Text) → fault_of (app_for form) words ≡ level_fault (built_shape c) [] nothing_held (drop 1 words) false []
  fault_is words = ap₂ (λ (a : App) (ws : List Text). built_fault a nothing_held ws) (is_built form).is ((is_built form).words words) ∙ leaf_fault (built_app form) nothing_held (drop 1 words) refl

  rows_are : (words : List Text) → matches_of (app_for form) words ≡ rows_after c [] (drop 1 words)
  rows_are words = ap₂ (λ (a : App) (ws : List Text). rows_after a.top.rules (names_of a) ws) (is_built form).is ((is_built form).words words)

  -- a parse that passes gives the arguments, and one that fails finds no command of the form
  pub parse_reads : (words : List Text) → AreTexts (drop 1 words) → Shows (past (fault_of (app_for form) words) (Some (matches_of (app_for form) words))) (arguments_in form (drop 1 words))
  parse_reads words utf8 = carried _ _ _ _
      (ap₂ (λ ks (rows : List Row). past ks (Some rows)) (fault_is words) (rows_are words) ∙ sym (outcome_is c (drop 1 words)))
      (read_nothing form (asked (record { file = None; out = None; strip = false; steps = None; layout = None })) after_none (arguments (drop 1 words)))
      (read_free (drop 1 words) utf8 [] (record { file = None; out = None; strip = false; steps = None; layout = None }) 1 nothing_holds nothing_seen)

pub all_texts : (words : Words) → AreTexts (texts words)
all_texts [] = tt
all_texts (word ∷ words) = (IsUtf8-string_bytes word, all_texts words)

pub texts_behind : (words : List Text) → AreTexts words → AreTexts (drop 1 words)
texts_behind [] utf8 = tt
texts_behind (word ∷ words) utf8 = utf8.1
