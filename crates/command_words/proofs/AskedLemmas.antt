-- What the words so far ask for, and which words behind them make a command of the form.
use Rattle.std.proofs.Common.{◌≡◌, ◌∙◌, ◌+◌, ◌&&◌, ◌++◌, ℕ, zero, suc, Bool, true, false, List, [], ◌∷◌, Option, Some, None, option_map, refl, ap, ap₂, sym, arith, append-nil}
use Rattle.std.specs.Prelude.{option_and_then}
use Rattle.lua_num.specs.Bytes.{Text}
use Rattle.clap.specs.Walk.{Row}
use Rattle.command_words.specs.declared.reading.Form.{Form}
use Rattle.command_words.specs.Arguments.{Arguments, files_alone, files_fit, fits, fitting, is_flag, strips_fit, times, values_fit, with_file, with_layout, with_steps, with_strip}
use Rattle.command_words.specs.Parser.{AreRowsOf, in_option, with_plain_values}
use Rattle.command_words.proofs.TurnLemmas.{Valued, layout, steps, wants}
use Rattle.command_words.proofs.RowLemmas.{Seen, value_at, with_value}

abbrev pub asked : Seen → Arguments
asked seen = record {
  files = in_option seen.file ++ in_option seen.out;
  strips = times seen.strip;
  steps = in_option seen.steps;
  layouts = in_option seen.layout;
}

-- the arguments of some words, with those of the words behind them
abbrev pub after : Arguments → Arguments → Arguments
after before later = record {
  files = before.files ++ later.files;
  strips = before.strips + later.strips;
  steps = before.steps ++ later.steps;
  layouts = before.layouts ++ later.layouts;
}

abbrev pub read_on : Form → Arguments → Option Arguments → Option Arguments
read_on form before later = option_and_then (fitting form) (option_map (after before) later)

-- the rows are those of the arguments, but for a value that is a flag
abbrev pub Shows : Option (List Row) → Option Arguments → Type 0
Shows None o = o ≡ None
Shows (Some rows) o = (found : Arguments) × AreRowsOf rows found × (with_plain_values found ≡ o)

-- how many files stand so far, by the positional that takes the next
pub data Place (form : Form) (seen : Seen) (position : ℕ) : Type 0 where
  no_file : position ≡ 1 → seen.file ≡ None → seen.out ≡ None → Place form seen position
  one_file : (f : Text) → position ≡ 2 → seen.file ≡ Some f → seen.out ≡ None → Place form seen position
  two_files : (f o : Text) → position ≡ 3 → seen.file ≡ Some f → seen.out ≡ Some o → form.out ≡ true → Place form seen position

-- the words so far stand in a command of the form
pub record Stands (form : Form) (seen : Seen) (position : ℕ) : Type 0 where
  pub place : Place form seen position
  pub strips : seen.strip ≡ true → form.strip ≡ true
  pub values : (k : Valued) (v : Text) → value_at k seen ≡ Some v → wants form k ≡ true

pub read_nothing : (form : Form) (a : Arguments) → ((later : Arguments) → after a later ≡ later) → (o : Option Arguments) → read_on form a o ≡ option_and_then (fitting form) o
read_nothing form a same None = refl
read_nothing form a same (Some later) = ap (fitting form) (same later)

pub never : (form : Form) (before : Arguments) (more : Arguments → Arguments) → ((later : Arguments) → fits form (after before (more later)) ≡ false) → (o : Option Arguments) → read_on form before (option_map more o) ≡ None
never form before more unfit None = refl
never form before more unfit (Some later) = rw (unfit later) refl

pub passed_on : (form : Form) (before now : Arguments) (more : Arguments → Arguments) → ((later : Arguments) → after now later ≡ after before (more later)) → (o : Option Arguments)
    → read_on form now o ≡ read_on form before (option_map more o)
passed_on form before now more same None = refl
passed_on form before now more same (Some later) = ap (fitting form) (same later)

-- ---- what fits no form

and_first : (a b c d : Bool) → a ≡ false → (a && b && c && d) ≡ false
and_first a b c d e = rw e refl

and_second : (a b c d : Bool) → b ≡ false → (a && b && c && d) ≡ false
and_second true b c d e = rw e refl
and_second false b c d e = refl

and_third : (a b c d : Bool) → c ≡ false → (a && b && c && d) ≡ false
and_third true true c d e = rw e refl
and_third true false c d e = refl
and_third false b c d e = refl

and_fourth : (a b c d : Bool) → d ≡ false → (a && b && c && d) ≡ false
and_fourth true true true d e = e
and_fourth true true false d e = refl
and_fourth true false c d e = refl
and_fourth false b c d e = refl

pub unfit_files : (form : Form) (a : Arguments) → files_fit form.out a.files ≡ false → fits form a ≡ false
unfit_files form a e = and_first (files_fit form.out a.files) (strips_fit form.strip a.strips) (values_fit form.steps a.steps) (values_fit form.layout a.layouts) e

pub unfit_strips : (form : Form) (a : Arguments) → strips_fit form.strip a.strips ≡ false → fits form a ≡ false
unfit_strips form a e = and_second (files_fit form.out a.files) (strips_fit form.strip a.strips) (values_fit form.steps a.steps) (values_fit form.layout a.layouts) e

unfit_steps : (form : Form) (a : Arguments) → values_fit form.steps a.steps ≡ false → fits form a ≡ false
unfit_steps form a e = and_third (files_fit form.out a.files) (strips_fit form.strip a.strips) (values_fit form.steps a.steps) (values_fit form.layout a.layouts) e

unfit_layouts : (form : Form) (a : Arguments) → values_fit form.layout a.layouts ≡ false → fits form a ≡ false
unfit_layouts form a e = and_fourth (files_fit form.out a.files) (strips_fit form.strip a.strips) (values_fit form.steps a.steps) (values_fit form.layout a.layouts) e

-- ---- `--strip`

strip_over : (n : ℕ) → strips_fit false (suc n) ≡ false
strip_over zero = refl
strip_over (suc n) = refl

strip_twice : (b : Bool) (n : ℕ) → strips_fit b (suc (suc n)) ≡ false
strip_twice b n = refl

pub strip_unwanted : (form : Form) (seen : Seen) → form.strip ≡ false → (later : Arguments) → fits form (after (asked seen) (with_strip later)) ≡ false
strip_unwanted form seen unwanted later =
    let one_more : times seen.strip + suc later.strips ≡ suc (times seen.strip + later.strips) = omega arith in
    unfit_strips form (after (asked seen) (with_strip later)) (ap (λ b. strips_fit b (times seen.strip + suc later.strips)) unwanted ∙ ap (strips_fit false) one_more ∙ strip_over (times seen.strip + later.strips))

pub strip_repeated : (form : Form) (seen : Seen) → seen.strip ≡ true → (later : Arguments) → fits form (after (asked seen) (with_strip later)) ≡ false
strip_repeated form seen some later =
    let two : 1 + suc later.strips ≡ suc (suc later.strips) = omega arith in
    unfit_strips form (after (asked seen) (with_strip later)) (ap (λ b. strips_fit form.strip (times b + suc later.strips)) some ∙ ap (strips_fit form.strip) two ∙ strip_twice form.strip later.strips)

pub strip_taken : (seen : Seen) → seen.strip ≡ false → (later : Arguments) → after (asked (record seen { strip = true })) later ≡ after (asked seen) (with_strip later)
strip_taken seen none later =
    let one : 1 + later.strips ≡ 0 + suc later.strips = omega arith in
    let strips : 1 + later.strips ≡ times seen.strip + suc later.strips = one ∙ ap (λ b. times b + suc later.strips) (sym none) in
    λ i. record {
      files = (in_option seen.file ++ in_option seen.out) ++ later.files;
      strips = strips i;
      steps = in_option seen.steps ++ later.steps;
      layouts = in_option seen.layout ++ later.layouts;
    }

-- ---- a flag with a value

abbrev pub add_value : Valued → Text → Arguments → Arguments
add_value steps v = with_steps v
add_value layout v = with_layout v

values_unwanted : (o : Option Text) (v : Text) (later : List Text) → values_fit false (in_option o ++ v ∷ later) ≡ false
values_unwanted None v [] = refl
values_unwanted None v (x ∷ later) = refl
values_unwanted (Some w) v later = refl

values_flag : (wanted : Bool) (o : Option Text) (v : Text) (later : List Text) → is_flag v ≡ true → values_fit wanted (in_option o ++ v ∷ later) ≡ false
values_flag true None v [] flag = rw flag refl
values_flag false None v [] flag = refl
values_flag wanted None v (x ∷ later) flag = refl
values_flag wanted (Some w) v later flag = refl

unfit_values : (form : Form) (seen : Seen) (k : Valued) (v : Text) (later : Arguments)
    → ((older : List Text) → values_fit (wants form k) (in_option (value_at k seen) ++ v ∷ older) ≡ false) → fits form (after (asked seen) (add_value k v later)) ≡ false
unfit_values form seen steps v later e = unfit_steps form (after (asked seen) (with_steps v later)) (e later.steps)
unfit_values form seen layout v later e = unfit_layouts form (after (asked seen) (with_layout v later)) (e later.layouts)

pub value_unwanted : (form : Form) (seen : Seen) (k : Valued) (v : Text) → wants form k ≡ false → (later : Arguments) → fits form (after (asked seen) (add_value k v later)) ≡ false
value_unwanted form seen k v unwanted later =
    unfit_values form seen k v later (λ older. ap (λ b. values_fit b (in_option (value_at k seen) ++ v ∷ older)) unwanted ∙ values_unwanted (value_at k seen) v older)

pub value_flag : (form : Form) (seen : Seen) (k : Valued) (v : Text) → is_flag v ≡ true → (later : Arguments) → fits form (after (asked seen) (add_value k v later)) ≡ false
value_flag form seen k v flag later = unfit_values form seen k v later (λ older. values_flag (wants form k) (value_at k seen) v older flag)

pub value_repeated : (form : Form) (seen : Seen) (k : Valued) (v w : Text) → value_at k seen ≡ Some w → (later : Arguments) → fits form (after (asked seen) (add_value k v later)) ≡ false
value_repeated form seen k v w some later = unfit_values form seen k v later (λ older. ap (λ o. values_fit (wants form k) (in_option o ++ v ∷ older)) some)

pub value_taken : (seen : Seen) (k : Valued) (v : Text) → value_at k seen ≡ None → (later : Arguments) → after (asked (with_value k v seen)) later ≡ after (asked seen) (add_value k v later)
value_taken seen steps v none later =
    let values : v ∷ later.steps ≡ in_option seen.steps ++ v ∷ later.steps = ap (λ (o : Option Text). in_option o ++ v ∷ later.steps) (sym none) in
    λ i. record {
      files = (in_option seen.file ++ in_option seen.out) ++ later.files;
      strips = times seen.strip + later.strips;
      steps = values i;
      layouts = in_option seen.layout ++ later.layouts;
    }
value_taken seen layout v none later =
    let values : v ∷ later.layouts ≡ in_option seen.layout ++ v ∷ later.layouts = ap (λ (o : Option Text). in_option o ++ v ∷ later.layouts) (sym none) in
    λ i. record {
      files = (in_option seen.file ++ in_option seen.out) ++ later.files;
      strips = times seen.strip + later.strips;
      steps = in_option seen.steps ++ later.steps;
      layouts = values i;
    }

-- ---- files

files_many : (out : Bool) (f o v : Text) (later : List Text) → files_fit out (f ∷ o ∷ v ∷ later) ≡ false
files_many true f o v later = refl
files_many false f o v later = refl

two_for_one : (f v : Text) (later : List Text) → files_fit false (f ∷ v ∷ later) ≡ false
two_for_one f v later = refl

pub file_over : (form : Form) (seen : Seen) (f v : Text) → seen.file ≡ Some f → seen.out ≡ None → form.out ≡ false → (later : Arguments) → fits form (after (asked seen) (with_file v later)) ≡ false
file_over form seen f v some none unwanted later =
    unfit_files form (after (asked seen) (with_file v later))
    (ap₂ (λ (a b : Option Text). files_fit form.out ((in_option a ++ in_option b) ++ v ∷ later.files)) some none ∙ ap (λ b. files_fit b (f ∷ v ∷ later.files)) unwanted ∙ two_for_one f v later.files)

pub file_third : (form : Form) (seen : Seen) (f o v : Text) → seen.file ≡ Some f → seen.out ≡ Some o → (later : Arguments) → fits form (after (asked seen) (with_file v later)) ≡ false
file_third form seen f o v some other later =
    unfit_files form (after (asked seen) (with_file v later))
    (ap₂ (λ (a b : Option Text). files_fit form.out ((in_option a ++ in_option b) ++ v ∷ later.files)) some other ∙ files_many form.out f o v later.files)

files_taken : (seen now : Seen) (v : Text) (later : Arguments) → (in_option now.file ++ in_option now.out) ++ later.files ≡ (in_option seen.file ++ in_option seen.out) ++ v ∷ later.files
    → now.strip ≡ seen.strip → now.steps ≡ seen.steps → now.layout ≡ seen.layout → after (asked now) later ≡ after (asked seen) (with_file v later)
files_taken seen now v later files same_strip same_steps same_layout = λ i. record {
  files = files i;
  strips = times (same_strip i) + later.strips;
  steps = in_option (same_steps i) ++ later.steps;
  layouts = in_option (same_layout i) ++ later.layouts;
}

pub file_taken : (seen : Seen) (v : Text) → seen.file ≡ None → seen.out ≡ None → (later : Arguments) → after (asked (record seen { file = Some v })) later ≡ after (asked seen) (with_file v later)
file_taken seen v none no_out later = files_taken seen (record seen { file = Some v }) v later
    (ap (λ o. (v ∷ in_option o) ++ later.files) no_out ∙ sym (ap₂ (λ (a b : Option Text). (in_option a ++ in_option b) ++ v ∷ later.files) none no_out)) refl refl refl

pub out_taken : (seen : Seen) (f v : Text) → seen.file ≡ Some f → seen.out ≡ None → (later : Arguments) → after (asked (record seen { out = Some v })) later ≡ after (asked seen) (with_file v later)
out_taken seen f v some none later = files_taken seen (record seen { out = Some v }) v later
    (ap (λ o. (in_option o ++ v ∷ []) ++ later.files) some ∙ sym (ap₂ (λ (a b : Option Text). (in_option a ++ in_option b) ++ v ∷ later.files) some none)) refl refl refl

-- ---- nothing comes behind

pub after_nothing : (a : Arguments) → after a (files_alone []) ≡ a
after_nothing a =
    let n : a.strips + 0 ≡ a.strips = omega arith in
    λ i. record { files = append-nil a.files i; strips = n i; steps = append-nil a.steps i; layouts = append-nil a.layouts i }
