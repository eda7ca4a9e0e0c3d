-- What clap makes of a word at a time, by the rows that it has and the argument whose values it reads.
use Rattle.std.proofs.Common.{◌≡◌, ◌∙◌, ◌+◌, ◌&&◌, ℕ, Bool, true, false, List, [], ◌∷◌, Option, Some, None, min, fold, refl, ap, sym, is_some, true≢false}
use Rattle.std.specs.Prelude.{codes, slice_get, if◌then◌else◌}
use Rattle.std.specs.Str.{bytes_eq, chars}
use Rattle.clap.specs.Lexer.{long_of, short_of, usize_max}
use Rattle.clap.specs.Kinds.{Kinds, or_else}
use Rattle.clap.specs.Walk.{Held, Row, Rule, Text, Waiting, Walk, after_flag, after_step, arg_by_id, arg_by_index, arg_by_long, bundle_met, finished, is_multiple, is_pending, long_met, settled, settled_rows, takes_several, used, walked, with_default}
use Rattle.clap.specs.Walk.{idle, option, positional, takes_values}
use Rattle.clap.specs.Faults.{check_fault, defaults_fault, flags_fault, level_fault, long_fault, option_fault, react_fault, settle_fault, step_fault, turn_fault, use_fault, walk_fault}
use Rattle.clap.specs.declared.error.kind.ErrorKind.TheVariants as kind
use Rattle.command_words.specs.declared.reading.Form.{Form}
use Rattle.command_words.specs.Arguments.{layout_mark, steps_mark}
use Rattle.command_words.proofs.RuleLemmas.{Finds, built_layout, built_shape, built_steps, built_strip, present}

-- what comes of a step that fails by these kinds
abbrev pub past : Kinds → Option (List Row) → Option (List Row)
past [] o = o
past (k ∷ ks) o = None

past_both : (a b : Kinds) (o : Option (List Row)) → past (or_else a b) o ≡ past a (past b o)
past_both [] b o = refl
past_both (k ∷ a) b o = refl

past_three : (a b e : Kinds) (o : Option (List Row)) → past (or_else (or_else a b) e) o ≡ past a (past (or_else b e) o)
past_three [] b e o = refl
past_three (k ∷ a) b e o = refl

pub past_none : (a : Kinds) → past a None ≡ None
past_none [] = refl
past_none (k ∷ a) = refl

abbrev refuses : Kinds → Bool
refuses [] = false
refuses (k ∷ ks) = true

past_refused : (a b : Kinds) (o : Option (List Row)) → refuses a ≡ true → past (or_else a b) o ≡ None
past_refused [] b o e = absurd (true≢false (sym e))
past_refused (k ∷ a) b o e = refl

-- a walk between two words
abbrev pub standing : List Row → Option (Text × List Text) → Waiting → ℕ → Bool → Walk
standing rows pending waiting position is_trailing = record {
  held = record { rows = rows; pending = pending; skip = 0 };
  waiting = waiting;
  position = position;
  is_trailing = is_trailing;
  stopped = None;
}

abbrev pub ended : List Rule → List Row → Option (List Row)
ended c rows = past (or_else (defaults_fault rows c) (check_fault (built_shape c) (fold with_default rows c) false)) (Some (fold with_default rows c))

-- the rows of a whole parse, by the words from here on, where none is refused
pub outcome : List Rule → Walk → List Text → Option (List Row)
outcome c w [] = past (settle_fault c false w.held) (ended c (settled c w.held).rows)
outcome c w (word ∷ rest) = past (turn_fault (built_shape c) [] w word) (outcome c (walked c [] w word) rest)

abbrev last_faults : List Rule → Held → Kinds
last_faults c h = or_else [] (or_else (settle_fault c false h) (or_else (defaults_fault (settled c h).rows c) (check_fault (built_shape c) (finished c h) false)))

outcome_from : (c : List Rule) (w : Walk) (words : List Text) →
    outcome c w words ≡ past (or_else (walk_fault (built_shape c) [] w words) (last_faults c (fold (walked c []) w words).held)) (Some (finished c (fold (walked c []) w words).held))
unfolding outcome walk_fault
outcome_from c w [] = sym (past_both (settle_fault c false w.held) _ _)
outcome_from c w (word ∷ rest) =
    ap (past (turn_fault (built_shape c) [] w word)) (outcome_from c (walked c [] w word) rest)
    ∙ sym (past_three (turn_fault (built_shape c) [] w word) (walk_fault (built_shape c) [] (walked c [] w word) rest) _ _)

-- the outcome of all words is what clap says of them
pub outcome_is : (c : List Rule) (words : List Text) → outcome c (standing [] None idle 1 false) words ≡ past (level_fault (built_shape c) [] (record { rows = []; pending = None; skip = 0 }) words false []) (Some (finished c (fold (walked c []) (standing [] None idle 1 false) words).held))
outcome_is c words = outcome_from c (standing [] None idle 1 false) words

-- ---- what is settled, and what is used

abbrev pub settling : List Rule → List Row → Option (Text × List Text) → (List Row → Option (List Row)) → Option (List Row)
settling c rows pending next = past (settle_fault c false (record { rows = rows; pending = pending; skip = 0 })) (next (settled_rows c pending rows))

abbrev pub using : Rule → List Text → List Row → (List Row → Option (List Row)) → Option (List Row)
using a values rows next = past (use_fault false a values rows) (next (used a values rows))

abbrev pub wanting : Bool → Option (List Row) → Option (List Row)
wanting true o = o
wanting false o = None

pub settling_value : (c : List Rule) (a : Rule) (rows : List Row) (id : Text) (values : List Text) (next : List Row → Option (List Row)) → arg_by_id c id ≡ Some a
    → settling c rows (Some (id, values)) next ≡ using a values rows next
settling_value c a rows id values next is = rw is refl

pub end_turn : (c : List Rule) (rows : List Row) (pending : Option (Text × List Text)) (waiting : Waiting) (position : ℕ) (is_trailing : Bool)
    → outcome c (standing rows pending waiting position is_trailing) [] ≡ settling c rows pending (ended c)
unfolding outcome
end_turn c rows pending waiting position is_trailing = refl

-- ---- words

pub dashes_turn : (c : List Rule) (rows : List Row) (pending : Option (Text × List Text)) (waiting : Waiting) (position : ℕ) (rest : List Text)
    → outcome c (standing rows pending waiting position false) (codes "--" ∷ rest) ≡ outcome c (standing rows pending waiting position true) rest
unfolding outcome walked
dashes_turn c rows pending idle position rest = refl
dashes_turn c rows pending (option id) position rest = refl
dashes_turn c rows pending positional position rest = refl

-- a long word, by the rule of its name
abbrev by_rule : List Rule → List Row → Option (Text × List Text) → Waiting → ℕ → Text → Option Rule → Option Text → List Text → Option (List Row)
by_rule c rows pending waiting position word found v rest =
    let w = standing rows pending waiting position false in
    let met = after_flag c waiting word (long_met c found v w.held).0 (long_met c found v w.held).1 in
    past (or_else (long_fault c false found v w.held) (step_fault (built_shape c) position met.0 met.1)) (outcome c (after_step c word w met.0 met.1) rest)

long_turn : (c : List Rule) (rows : List Row) (pending : Option (Text × List Text)) (waiting : Waiting) (position : ℕ) (word name : Text) (v : Option Text) (rest : List Text)
    → bytes_eq word (codes "--") ≡ false → long_of word ≡ Some (name, v)
    → outcome c (standing rows pending waiting position false) (word ∷ rest) ≡ by_rule c rows pending waiting position word (arg_by_long c name) v rest
unfolding outcome walked
long_turn c rows pending idle position word name v rest more is = rw (more, is) refl
long_turn c rows pending (option id) position word name v rest more is = rw (more, is) refl
long_turn c rows pending positional position word name v rest more is = rw (more, is) refl

-- a name that no rule has
pub unknown_turn : (c : List Rule) (rows : List Row) (pending : Option (Text × List Text)) (waiting : Waiting) (position : ℕ) (word name : Text) (v : Option Text) (rest : List Text)
    → bytes_eq word (codes "--") ≡ false → long_of word ≡ Some (name, v) → arg_by_long c name ≡ None
    → outcome c (standing rows pending waiting position false) (word ∷ rest) ≡ None
unknown_turn c rows pending waiting position word name v rest more is none =
    long_turn c rows pending waiting position word name v rest more is ∙ ap (λ o. by_rule c rows pending waiting position word o v rest) none

module _ (form : Form) (c : List Rule) (f : Finds form c) where
  -- a flag with no value, to which a value is given
  pub valued_turn : (rows : List Row) (pending : Option (Text × List Text)) (waiting : Waiting) (position : ℕ) (word v : Text) (rest : List Text)
      → bytes_eq word (codes "--") ≡ false → long_of word ≡ Some (codes "strip", Some v)
      → outcome c (standing rows pending waiting position false) (word ∷ rest) ≡ None
  valued_turn rows pending waiting position word v rest more is =
      long_turn c rows pending waiting position word (codes "strip") (Some v) rest more is
      ∙ ap (λ o. by_rule c rows pending waiting position word o (Some v) rest) f.strip ∙ go form.strip
    where
      go : (b : Bool) → by_rule c rows pending waiting position word (present b built_strip) (Some v) rest ≡ None
      go true = refl
      go false = refl

  -- a short word
  pub short_turn : (rows : List Row) (pending : Option (Text × List Text)) (waiting : Waiting) (position : ℕ) (word : Text) (y x : ℕ) (flags : Text) (rest : List Text)
      → bytes_eq word (codes "--") ≡ false → long_of word ≡ None → short_of word ≡ Some (y ∷ flags) → slice_get (chars (y ∷ flags)) 0 ≡ Some x
      → outcome c (standing rows pending waiting position false) (word ∷ rest) ≡ None
  unfolding outcome walked flags_fault bundle_met
  short_turn rows pending idle position word y x flags rest more long short first = rw (more, long, short, first, f.short x) refl
  short_turn rows pending (option id) position word y x flags rest more long short first = rw (more, long, short, first, f.short x) refl
  short_turn rows pending positional position word y x flags rest more long short first = rw (more, long, short, first, f.short x) refl

  pub strip_turn : (rows : List Row) (pending : Option (Text × List Text)) (position : ℕ) (rest : List Text)
      → outcome c (standing rows pending idle position false) (codes "--strip" ∷ rest)
      ≡ settling c rows pending (λ r. wanting form.strip (using built_strip [] r (λ now. outcome c (standing now None idle position false) rest)))
  strip_turn rows pending position rest =
      long_turn c rows pending idle position (codes "--strip") (codes "strip") None rest refl refl
      ∙ ap (λ o. by_rule c rows pending idle position (codes "--strip") o None rest) f.strip ∙ go form.strip
    where
      go : (b : Bool) → by_rule c rows pending idle position (codes "--strip") (present b built_strip) None rest
          ≡ settling c rows pending (λ r. wanting b (using built_strip [] r (λ now. outcome c (standing now None idle position false) rest)))
      go true = past_three (settle_fault c false (record { rows = rows; pending = pending; skip = 0 })) _ [] _
          ∙ ap (past (settle_fault c false (record { rows = rows; pending = pending; skip = 0 }))) (past_both (use_fault false built_strip [] (settled_rows c pending rows)) [] _)
      go false = sym (past_none (settle_fault c false (record { rows = rows; pending = pending; skip = 0 })))

-- a flag with a value that is one of the command's
pub data Valued : Type 0 where
  steps : Valued
  layout : Valued

abbrev pub name_of : Valued → Text
name_of steps = codes "steps"
name_of layout = codes "layout"

abbrev pub rule_at : Valued → Rule
rule_at steps = built_steps
rule_at layout = built_layout

abbrev pub wants : Form → Valued → Bool
wants form steps = form.steps
wants form layout = form.layout

abbrev pub alone : Valued → Text
alone steps = codes "--steps"
alone layout = codes "--layout"

abbrev pub mark_of : Valued → Text
mark_of steps = steps_mark
mark_of layout = layout_mark

module _ (form : Form) (c : List Rule) (f : Finds form c) where
  by_name : (k : Valued) → arg_by_long c (name_of k) ≡ present (wants form k) (rule_at k)
  by_name steps = f.steps
  by_name layout = f.layout

  pub by_id : (k : Valued) → arg_by_id c (name_of k) ≡ present (wants form k) (rule_at k)
  by_id steps = f.steps_id
  by_id layout = f.layout_id

  -- the value stands in the same word
  pub joined_turn : (k : Valued) (rows : List Row) (pending : Option (Text × List Text)) (position : ℕ) (word v : Text) (rest : List Text)
      → bytes_eq word (codes "--") ≡ false → long_of word ≡ Some (name_of k, Some v)
      → outcome c (standing rows pending idle position false) (word ∷ rest)
      ≡ settling c rows pending (λ r. wanting (wants form k) (using (rule_at k) (v ∷ []) r (λ now. outcome c (standing now None idle position false) rest)))
  joined_turn k rows pending position word v rest more is =
      long_turn c rows pending idle position word (name_of k) (Some v) rest more is
      ∙ ap (λ o. by_rule c rows pending idle position word o (Some v) rest) (by_name k) ∙ go (wants form k) k
    where
      go : (b : Bool) (k : Valued) → by_rule c rows pending idle position word (present b (rule_at k)) (Some v) rest
          ≡ settling c rows pending (λ r. wanting b (using (rule_at k) (v ∷ []) r (λ now. outcome c (standing now None idle position false) rest)))
      go true steps = past_three (settle_fault c false (record { rows = rows; pending = pending; skip = 0 })) _ [] _
          ∙ ap (past (settle_fault c false (record { rows = rows; pending = pending; skip = 0 }))) (past_both (use_fault false built_steps (v ∷ []) (settled_rows c pending rows)) [] _)
      go true layout = past_three (settle_fault c false (record { rows = rows; pending = pending; skip = 0 })) _ [] _
          ∙ ap (past (settle_fault c false (record { rows = rows; pending = pending; skip = 0 }))) (past_both (use_fault false built_layout (v ∷ []) (settled_rows c pending rows)) [] _)
      go false k = sym (past_none (settle_fault c false (record { rows = rows; pending = pending; skip = 0 })))

  -- the value is to be the next word
  pub alone_turn : (k : Valued) (rows : List Row) (pending : Option (Text × List Text)) (position : ℕ) (rest : List Text)
      → outcome c (standing rows pending idle position false) (alone k ∷ rest)
      ≡ settling c rows pending (λ r. wanting (wants form k) (outcome c (standing r (Some (name_of k, [])) (option (name_of k)) position false) rest))
  alone_turn k rows pending position rest = start k ∙ ap (λ o. by_rule c rows pending idle position (alone k) o None rest) (by_name k) ∙ go (wants form k) k
    where
      start : (k : Valued) → outcome c (standing rows pending idle position false) (alone k ∷ rest) ≡ by_rule c rows pending idle position (alone k) (arg_by_long c (name_of k)) None rest
      start steps = long_turn c rows pending idle position (codes "--steps") (codes "steps") None rest refl refl
      start layout = long_turn c rows pending idle position (codes "--layout") (codes "layout") None rest refl refl

      go : (b : Bool) (k : Valued) → by_rule c rows pending idle position (alone k) (present b (rule_at k)) None rest
          ≡ settling c rows pending (λ r. wanting b (outcome c (standing r (Some (name_of k, [])) (option (name_of k)) position false) rest))
      go true steps = past_both (settle_fault c false (record { rows = rows; pending = pending; skip = 0 })) [] _
      go true layout = past_both (settle_fault c false (record { rows = rows; pending = pending; skip = 0 })) [] _
      go false k = sym (past_none (settle_fault c false (record { rows = rows; pending = pending; skip = 0 })))

  -- what comes next is no flag: it is the value
  pub value_turn : (k : Valued) (rows : List Row) (position : ℕ) (word : Text) (rest : List Text)
      → wants form k ≡ true → bytes_eq word (codes "--") ≡ false → long_of word ≡ None → short_of word ≡ None
      → outcome c (standing rows (Some (name_of k, [])) (option (name_of k)) position false) (word ∷ rest)
      ≡ outcome c (standing rows (Some (name_of k, word ∷ [])) idle position false) rest
  unfolding outcome walked
  value_turn k rows position word rest wanted more long short = go k (by_id k ∙ ap (λ b. present b (rule_at k)) wanted)
    where
      go : (k : Valued) → arg_by_id c (name_of k) ≡ Some (rule_at k) → outcome c (standing rows (Some (name_of k, [])) (option (name_of k)) position false) (word ∷ rest)
          ≡ outcome c (standing rows (Some (name_of k, word ∷ [])) idle position false) rest
      go steps is = rw (more, long, short, is) refl
      go layout is = rw (more, long, short, is) refl

  -- ---- a flag that has no value yet, where what comes next is no value

  unfilled_fails : (k : Valued) (rows : List Row) → wants form k ≡ true → settle_fault c false (record { rows = rows; pending = Some (name_of k, []); skip = 0 }) ≡ kind.InvalidValue ∷ []
  unfilled_fails k rows wanted = go k (by_id k ∙ ap (λ b. present b (rule_at k)) wanted)
    where
      go : (k : Valued) → arg_by_id c (name_of k) ≡ Some (rule_at k) → settle_fault c false (record { rows = rows; pending = Some (name_of k, []); skip = 0 }) ≡ kind.InvalidValue ∷ []
      go steps is = rw is refl
      go layout is = rw is refl

  pub unfilled_end : (k : Valued) (rows : List Row) (waiting : Waiting) (position : ℕ) (is_trailing : Bool) → wants form k ≡ true
      → outcome c (standing rows (Some (name_of k, [])) waiting position is_trailing) [] ≡ None
  unfolding outcome
  unfilled_end k rows waiting position is_trailing wanted = rw (unfilled_fails k rows wanted) refl

  pub unfilled_long : (k : Valued) (rows : List Row) (position : ℕ) (word name : Text) (v : Option Text) (rest : List Text) → wants form k ≡ true
      → bytes_eq word (codes "--") ≡ false → long_of word ≡ Some (name, v)
      → outcome c (standing rows (Some (name_of k, [])) (option (name_of k)) position false) (word ∷ rest) ≡ None
  unfilled_long k rows position word name v rest wanted more is =
      long_turn c rows (Some (name_of k, [])) (option (name_of k)) position word name v rest more is ∙ go (arg_by_long c name) v
    where
      by : (b : Bool) (a : Rule) (v : Option Text) → refuses (if b then option_fault c false a v (record { rows = rows; pending = Some (name_of k, []); skip = 0 }) else (if is_some v then kind.TooManyValues ∷ [] else react_fault c false a [] (record { rows = rows; pending = Some (name_of k, []); skip = 0 }))) ≡ true
      by true a (Some v) = rw (unfilled_fails k rows wanted) refl
      by true a None = rw (unfilled_fails k rows wanted) refl
      by false a (Some v) = refl
      by false a None = rw (unfilled_fails k rows wanted) refl

      go : (o : Option Rule) (v : Option Text) → by_rule c rows (Some (name_of k, [])) (option (name_of k)) position word o v rest ≡ None
      go None v = refl
      go (Some a) v = past_refused (long_fault c false (Some a) v (record { rows = rows; pending = Some (name_of k, []); skip = 0 })) _ _ (by (takes_values a) a v)

  pub unfilled_none : (k : Valued) (rows : List Row) (o : Option (List Row)) → wants form k ≡ true → past (settle_fault c false (record { rows = rows; pending = Some (name_of k, []); skip = 0 })) o ≡ None
  unfilled_none k rows o wanted = rw (unfilled_fails k rows wanted) refl

-- ---- a word that goes to a positional

-- a positional that takes one value
pub record IsPlace (c : List Rule) (position : ℕ) (a : Rule) : Type 0 where
  pub is : arg_by_index c position ≡ Some a
  pub several : takes_several a ≡ false
  pub multiple : is_multiple a ≡ false
  pub trailing : a.trailing_var_arg ≡ false

both_false : (x y : Bool) → y ≡ false → (x && y) ≡ false
both_false true y e = e
both_false false y e = refl

module _ (c : List Rule) (position : ℕ) (a : Rule) (place : IsPlace c position a) where
  abbrev taken : Text → List Row → Option (Text × List Text) → Bool → List Text → Option (List Row)
  taken word rows pending is_trailing rest = settling c rows pending (λ r. outcome c (standing r (Some (a.id, word ∷ [])) idle (min (position + 1) usize_max) is_trailing) rest)

  not_more : (pending : Option (Text × List Text)) → (is_pending a pending && takes_several a) ≡ false
  not_more pending = both_false (is_pending a pending) (takes_several a) place.several

  -- behind `--`
  pub trailing_turn : (rows : List Row) (pending : Option (Text × List Text)) (waiting : Waiting) (word : Text) (rest : List Text)
      → outcome c (standing rows pending waiting position true) (word ∷ rest) ≡ taken word rows pending true rest
  unfolding outcome walked
  trailing_turn rows pending waiting word rest = rw (place.is, not_more pending, place.multiple) refl

  -- before it, a word that is no flag
  pub plain_turn : (rows : List Row) (pending : Option (Text × List Text)) (word : Text) (rest : List Text)
      → bytes_eq word (codes "--") ≡ false → long_of word ≡ None → short_of word ≡ None
      → outcome c (standing rows pending idle position false) (word ∷ rest) ≡ taken word rows pending false rest
  unfolding outcome walked
  plain_turn rows pending word rest more long short = rw (more, long, short, place.is, not_more pending, place.multiple, place.trailing) refl

module _ (c : List Rule) (position : ℕ) (none : arg_by_index c position ≡ None) where
  -- no positional is left
  pub trailing_stray : (rows : List Row) (pending : Option (Text × List Text)) (waiting : Waiting) (word : Text) (rest : List Text)
      → outcome c (standing rows pending waiting position true) (word ∷ rest) ≡ None
  unfolding outcome walked
  trailing_stray rows pending waiting word rest = rw none refl

  pub plain_stray : (rows : List Row) (pending : Option (Text × List Text)) (word : Text) (rest : List Text)
      → bytes_eq word (codes "--") ≡ false → long_of word ≡ None → short_of word ≡ None
      → outcome c (standing rows pending idle position false) (word ∷ rest) ≡ None
  unfolding outcome walked
  plain_stray rows pending word rest more long short = rw (more, long, short, none) refl
