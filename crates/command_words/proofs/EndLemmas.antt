-- The end of the words: defaults are put, and what is required has to be there.
use Rattle.std.proofs.Common.{◌≡◌, ◌∙◌, ◌&&◌, ◌||◌, ◌++◌, ◌⊎◌, inl, inr, Bool, true, false, not, true≢false, is_some, List, [], ◌∷◌, Option, Some, None, fold, refl, ap, ap₂, sym, subst, ℕ}
use Rattle.std.specs.Prelude.{codes, option_and_then, if◌then◌else◌}
use Rattle.std.specs.List.{list_any}
use Rattle.lua_num.specs.Bytes.{Text}
use Rattle.clap.specs.Kinds.{Kinds, or_else}
use Rattle.clap.specs.Values.{bool_text}
use Rattle.clap.specs.Walk.{Row, Rule, first_of, has_row, more_values, one_of, row_text, with_default}
use Rattle.clap.specs.Takes.{is_given}
use Rattle.clap.specs.Faults.{check_fault, default_fault, defaults_fault}
use Rattle.clap.specs.declared.builder.value_parser.Reading.TheVariants.{AsWritten}
use Rattle.clap.specs.declared.parser.matches.ValueSource.TheVariants.{DefaultValue}
use Rattle.clap.specs.declared.error.kind.ErrorKind.TheVariants as kind
use Rattle.command_words.specs.declared.reading.Form.{Form}
use Rattle.command_words.specs.Arguments.{Arguments, files_alone, files_fit, fits, fitting, is_flag, strips_fit, times, values_fit}
use Rattle.command_words.specs.Parser.{AreRowsOf, in_option, with_plain_values}
use Rattle.command_words.proofs.RuleLemmas.{before_rest, built_file, built_layout, built_out, built_shape, built_steps, built_strip, rules_for}
use Rattle.command_words.proofs.TurnLemmas.{ended, layout, past, steps}
use Rattle.command_words.proofs.RowLemmas.{Holds, Seen, at_missing, has_row_is, row_in, row_in_new, row_in_other, strip_row, value_row}
use Rattle.command_words.proofs.AskedLemmas.{Place, Shows, Stands, after_nothing, asked, no_file, one_file, read_on, two_files, unfit_files}

either_way : {X : Type 0} (b : Bool) (x : X) → (if b then x else x) ≡ x
either_way true x = refl
either_way false x = refl

-- ---- no default is refused

abbrev IsClean : List Rule → Type 0
IsClean rules = (rows : List Row) → defaults_fault rows rules ≡ []

clean_more : (rule : Rule) (rest : List Rule) → ((rows : List Row) → default_fault rows rule ≡ []) → IsClean rest → IsClean (rule ∷ rest)
unfolding defaults_fault
clean_more rule rest one clean rows = rw (one rows) (clean (with_default rows rule))

clean_rest : (wanted : Bool) (rule : Rule) (rest : List Rule) → ((rows : List Row) → default_fault rows rule ≡ []) → IsClean rest → IsClean (before_rest wanted rule rest)
clean_rest true rule rest one clean = clean_more rule rest one clean
clean_rest false rule rest one clean = clean

clean_end : IsClean []
unfolding defaults_fault
clean_end rows = refl

-- the rules from `--layout`, from `--steps`, from `--strip` and from the second file on
abbrev from_layout : Form → List Rule
from_layout form = before_rest form.layout built_layout []

abbrev from_steps : Form → List Rule
from_steps form = before_rest form.steps built_steps (from_layout form)

abbrev from_strip : Form → List Rule
from_strip form = before_rest form.strip built_strip (from_steps form)

abbrev from_out : Form → List Rule
from_out form = before_rest form.out built_out (from_strip form)

defaults_pass : (form : Form) → IsClean (rules_for form)
defaults_pass form = clean_more built_file (from_out form) (λ rows. either_way (has_row (codes "file") rows || true) [])
    (clean_rest form.out built_out (from_strip form) (λ rows. either_way (has_row (codes "out") rows || true) [])
    (clean_rest form.strip built_strip (from_steps form) (λ rows. either_way (has_row (codes "strip") rows || false) [])
    (clean_rest form.steps built_steps (from_layout form) (λ rows. either_way (has_row (codes "steps") rows || true) [])
    (clean_rest form.layout built_layout [] (λ rows. either_way (has_row (codes "layout") rows || true) []) clean_end))))

-- ---- only `--strip` has a default

folds_past : (wanted : Bool) (rule : Rule) (rest : List Rule) (rows : List Row) → with_default rows rule ≡ rows → fold with_default rows (before_rest wanted rule rest) ≡ fold with_default rows rest
folds_past true rule rest rows same = ap (λ (r : List Row). fold with_default r rest) same
folds_past false rule rest rows same = refl

abbrev with_strip_default : Bool → List Row → List Row
with_strip_default true rows = with_default rows built_strip
with_strip_default false rows = rows

folds_strip : (wanted : Bool) (rest : List Rule) (rows : List Row) → ((r : List Row) → fold with_default r rest ≡ r) → fold with_default rows (before_rest wanted built_strip rest) ≡ with_strip_default wanted rows
folds_strip true rest rows same = same (with_default rows built_strip)
folds_strip false rest rows same = same rows

final_rows : (form : Form) (rows : List Row) → fold with_default rows (rules_for form) ≡ with_strip_default form.strip rows
final_rows form rows =
    ap (λ (r : List Row). fold with_default r (from_out form)) (either_way (has_row (codes "file") rows) rows)
    ∙ folds_past form.out built_out (from_strip form) rows (either_way (has_row (codes "out") rows) rows)
    ∙ folds_strip form.strip (from_steps form) rows (λ r. folds_past form.steps built_steps (from_layout form) r (either_way (has_row (codes "steps") r) r) ∙ folds_past form.layout built_layout [] r (either_way (has_row (codes "layout") r) r))

-- ---- what is required

abbrev is_missing : List Row → Rule → Bool
is_missing rows a = a.required && not (is_given a.id rows)

any_past : (rows : List Row) (wanted : Bool) (rule : Rule) (rest : List Rule) → is_missing rows rule ≡ false → list_any (is_missing rows) (before_rest wanted rule rest) ≡ list_any (is_missing rows) rest
any_past rows true rule rest none = rw none refl
any_past rows false rule rest none = refl

-- whether the second file is wanted and lacking
abbrev lacks_out : Bool → List Row → Bool
lacks_out true rows = not (is_given (codes "out") rows)
lacks_out false rows = false

or_nothing : (a b : Bool) → b ≡ false → (a || b) ≡ a
or_nothing true b none = refl
or_nothing false b none = none

any_out : (rows : List Row) (wanted : Bool) (rest : List Rule) → list_any (is_missing rows) rest ≡ false → list_any (is_missing rows) (before_rest wanted built_out rest) ≡ lacks_out wanted rows
any_out rows true rest none = or_nothing (not (is_given (codes "out") rows)) (list_any (is_missing rows) rest) none
any_out rows false rest none = none

what_lacks : (form : Form) (rows : List Row) → list_any (is_missing rows) (rules_for form) ≡ (not (is_given (codes "file") rows) || lacks_out form.out rows)
what_lacks form rows = ap (λ b. not (is_given (codes "file") rows) || b) (any_out rows form.out (from_strip form)
    (any_past rows form.strip built_strip (from_steps form) refl ∙ any_past rows form.steps built_steps (from_layout form) refl ∙ any_past rows form.layout built_layout [] refl))

abbrev needed : Bool → Kinds
needed wants_argument = if wants_argument then kind.MissingRequiredArgument ∷ [] else []

-- the end of the words, by what is lacking
pub ended_is : (form : Form) (rows : List Row)
    → ended (rules_for form) rows ≡ past (needed (not (is_given (codes "file") (with_strip_default form.strip rows)) || lacks_out form.out (with_strip_default form.strip rows))) (Some (with_strip_default form.strip rows))
ended_is form rows =
    ap (λ ks. past (or_else ks (check_fault (built_shape (rules_for form)) (fold with_default rows (rules_for form)) false)) (Some (fold with_default rows (rules_for form)))) (defaults_pass form rows)
    ∙ ap (λ (r : List Row). past (check_fault (built_shape (rules_for form)) r false) (Some r)) (final_rows form rows)
    ∙ ap (λ b. past (needed b) (Some (with_strip_default form.strip rows))) (what_lacks form (with_strip_default form.strip rows))

-- ---- the rows at the end

record Ends (rows : List Row) (seen : Seen) : Type 0 where
  file : row_in (codes "file") rows ≡ value_row (codes "file") seen.file
  out : row_in (codes "out") rows ≡ value_row (codes "out") seen.out
  strip : (one_of (codes "strip") rows ≡ Some (bool_text seen.strip)) ⊎ ((one_of (codes "strip") rows ≡ None) × (seen.strip ≡ false))
  steps : row_in (codes "steps") rows ≡ value_row (codes "steps") seen.steps
  layout : row_in (codes "layout") rows ≡ value_row (codes "layout") seen.layout

strip_one : (rows : List Row) (o : Option Row) → row_in (codes "strip") rows ≡ o → one_of (codes "strip") rows ≡ option_and_then row_text o
strip_one rows o is = ap (option_and_then row_text) is

-- no `--strip` in the form
ends_plain : (rows : List Row) (seen : Seen) → Holds rows seen → seen.strip ≡ false → Ends rows seen
ends_plain rows seen h none = record {
  file = h.file;
  out = h.out;
  strip = inr (strip_one rows None (h.strip ∙ ap strip_row none), none);
  steps = h.steps;
  layout = h.layout;
}

abbrev default_row : Row
default_row = record { id = codes "strip"; values = codes "false" ∷ []; count = None; source = Some DefaultValue; reading = AsWritten }

ends_default : (rows : List Row) (seen : Seen) → Holds rows seen → (b : Bool) → seen.strip ≡ b → Ends (with_default rows built_strip) seen
ends_default rows seen h true some =
    let there : row_in (codes "strip") rows ≡ strip_row true = h.strip ∙ ap strip_row some in
    let has : has_row (codes "strip") rows ≡ true = has_row_is (codes "strip") rows ∙ ap is_some there in
    rw has (record {
      file = h.file;
      out = h.out;
      strip = inl (strip_one rows (strip_row true) there ∙ ap (λ b. Some (bool_text b)) (sym some));
      steps = h.steps;
      layout = h.layout;
    })
ends_default rows seen h false none =
    let free : row_in (codes "strip") rows ≡ None = h.strip ∙ ap strip_row none in
    let lacks : has_row (codes "strip") rows ≡ false = has_row_is (codes "strip") rows ∙ ap is_some free in
    rw lacks (rw (at_missing (codes "strip") (more_values DefaultValue (codes "false" ∷ [])) (default_row ∷ []) rows lacks) (record {
      file = row_in_other (codes "file") default_row rows refl ∙ h.file;
      out = row_in_other (codes "out") default_row rows refl ∙ h.out;
      strip = inl (strip_one (rows ++ default_row ∷ []) (Some default_row) (row_in_new (codes "strip") default_row rows refl free) ∙ ap (λ b. Some (bool_text b)) (sym none));
      steps = row_in_other (codes "steps") default_row rows refl ∙ h.steps;
      layout = row_in_other (codes "layout") default_row rows refl ∙ h.layout;
    }))

false_from : (a b : Bool) → (a ≡ true → b ≡ true) → b ≡ false → a ≡ false
false_from true b h none = absurd (true≢false (sym (h refl) ∙ none))
false_from false b h none = refl

ends : (form : Form) (rows : List Row) (seen : Seen) → Holds rows seen → (seen.strip ≡ true → form.strip ≡ true) → Ends (with_strip_default form.strip rows) seen
ends form rows seen h stands = go form.strip refl
  where
    go : (b : Bool) → form.strip ≡ b → Ends (with_strip_default b rows) seen
    go true e = ends_default rows seen h seen.strip refl
    go false e = ends_plain rows seen h (false_from seen.strip form.strip stands e)

given_is : (id : Text) (rows : List Row) (o : Option Text) → row_in id rows ≡ value_row id o → is_given id rows ≡ is_some o
given_is id rows None is = rw is refl
given_is id rows (Some v) is = rw is refl

first_is : (id : Text) (rows : List Row) (o : Option Text) → row_in id rows ≡ value_row id o → first_of id rows ≡ o
first_is id rows None is = rw is refl
first_is id rows (Some v) is = rw is refl

-- ---- what fits

value_fits : (wanted : Bool) (o : Option Text) → ((v : Text) → o ≡ Some v → wanted ≡ true) → values_fit wanted (in_option o) ≡ not (list_any is_flag (in_option o))
value_fits wanted None h = refl
value_fits wanted (Some v) h = ap (λ b. values_fit b (v ∷ [])) (h v refl) ∙ ap not (sym (or_nothing (is_flag v) false refl))

strip_fits : (wanted b : Bool) → (b ≡ true → wanted ≡ true) → strips_fit wanted (times b) ≡ true
strip_fits wanted true h = h refl
strip_fits wanted false h = refl

choice : (a : Arguments) (x y : Bool) → (if x || y then None else Some a) ≡ (if true && true && not x && not y then Some a else None)
choice a true y = refl
choice a false true = refl
choice a false false = refl

four : {f g s t u v x y : Bool} → f ≡ g → s ≡ t → u ≡ v → x ≡ y → (f && s && u && x) ≡ (g && t && v && y)
four a b c d = λ i. a i && b i && c i && d i

module _ (form : Form) (rows : List Row) (seen : Seen) (position : ℕ) (h : Holds rows seen) (stands : Stands form seen position) where
  abbrev last : List Row
  last = with_strip_default form.strip rows

  the_ends : Ends last seen
  the_ends = ends form rows seen h stands.strips

  plain_is_fitting : files_fit form.out (asked seen).files ≡ true → with_plain_values (asked seen) ≡ fitting form (asked seen)
  plain_is_fitting files =
      let is : fits form (asked seen) ≡ (true && true && not (list_any is_flag (in_option seen.steps)) && not (list_any is_flag (in_option seen.layout))) = four files (strip_fits form.strip seen.strip stands.strips)
      (value_fits form.steps seen.steps (stands.values steps)) (value_fits form.layout seen.layout (stands.values layout)) in
      choice (asked seen) (list_any is_flag (in_option seen.steps)) (list_any is_flag (in_option seen.layout)) ∙ ap (λ b. if b then Some (asked seen) else None) (sym is)

  rows_are : is_some seen.file ≡ true → AreRowsOf last (asked seen)
  rows_are some = record {
    strip = seen.strip;
    file = ap is_some (first_is (codes "file") last seen.file the_ends.file) ∙ some;
    files = ap₂ (λ (a b : Option Text). in_option a ++ in_option b) (first_is (codes "file") last seen.file the_ends.file) (first_is (codes "out") last seen.out the_ends.out);
    is_strip = the_ends.strip;
    strips = refl;
    steps = ap in_option (first_is (codes "steps") last seen.steps the_ends.steps);
    layouts = ap in_option (first_is (codes "layout") last seen.layout the_ends.layout);
  }

  file_given : is_given (codes "file") last ≡ is_some seen.file
  file_given = given_is (codes "file") last seen.file the_ends.file

  out_given : is_given (codes "out") last ≡ is_some seen.out
  out_given = given_is (codes "out") last seen.out the_ends.out

  no_fit : files_fit form.out (asked seen).files ≡ false → fitting form (asked seen) ≡ None
  no_fit files = ap (λ b. if b then Some (asked seen) else None) (unfit_files form (asked seen) files)

  -- the end, by whether a file is lacking
  abbrev at_last : Bool → Option (List Row)
  at_last lacking = past (needed lacking) (Some last)

  abbrev lack : Bool
  lack = not (is_given (codes "file") last) || lacks_out form.out last

  with_out : lacks_out form.out last ≡ (form.out && not (is_given (codes "out") last))
  with_out = go form.out
    where
      go : (b : Bool) → lacks_out b last ≡ (b && not (is_given (codes "out") last))
      go true = refl
      go false = refl

  lack_is : lack ≡ (not (is_some seen.file) || (form.out && not (is_some seen.out)))
  lack_is = ap₂ (λ (a b : Bool). not a || b) file_given (with_out ∙ ap (λ (b : Bool). form.out && not b) out_given)

  abbrev Claim : Bool → Type 0
  Claim lacking = Shows (at_last lacking) (fitting form (asked seen))

  full : is_some seen.file ≡ true → files_fit form.out (asked seen).files ≡ true → Claim false
  full some files = (asked seen, rows_are some, plain_is_fitting files)

  by_place : Place form seen position → Claim (not (is_some seen.file) || (form.out && not (is_some seen.out)))
  by_place (no_file at none no_out) =
      let empty : (asked seen).files ≡ [] = ap₂ (λ (a b : Option Text). in_option a ++ in_option b) none no_out in
      let lacking : (not (is_some seen.file) || (form.out && not (is_some seen.out))) ≡ true = ap (λ (o : Option Text). not (is_some o) || (form.out && not (is_some seen.out))) none in
      subst Claim (sym lacking) (no_fit (ap (files_fit form.out) empty ∙ go form.out))
    where
      go : (b : Bool) → files_fit b [] ≡ false
      go true = refl
      go false = refl
  by_place (one_file f at some no_out) =
      let one : (asked seen).files ≡ f ∷ [] = ap₂ (λ (a b : Option Text). in_option a ++ in_option b) some no_out in
      let there : is_some seen.file ≡ true = ap is_some some in
      let lacking : (not (is_some seen.file) || (form.out && not (is_some seen.out))) ≡ (form.out && true) = ap₂ (λ (a b : Bool). not a || (form.out && not b)) there (ap is_some no_out) in
      subst Claim (sym lacking) (go form.out refl one there)
    where
      go : (b : Bool) → form.out ≡ b → (asked seen).files ≡ f ∷ [] → is_some seen.file ≡ true → Claim (b && true)
      go true e one there = no_fit (ap₂ files_fit e one)
      go false e one there = full there (ap₂ files_fit e one)
  by_place (two_files f o at some other out) =
      let two : (asked seen).files ≡ f ∷ o ∷ [] = ap₂ (λ (a b : Option Text). in_option a ++ in_option b) some other in
      let there : is_some seen.file ≡ true = ap is_some some in
      let lacking : (not (is_some seen.file) || (form.out && not (is_some seen.out))) ≡ (form.out && false) = ap₂ (λ (a b : Bool). not a || (form.out && not b)) there (ap is_some other) in
      let enough : (form.out && false) ≡ false = ap (λ (b : Bool). b && false) out in
      subst Claim (sym (lacking ∙ enough)) (full there (ap₂ files_fit out two))

  -- the words end here
  pub at_end : Shows (ended (rules_for form) rows) (read_on form (asked seen) (Some (files_alone [])))
  at_end = subst (λ (r : Option (List Row)). Shows r (read_on form (asked seen) (Some (files_alone [])))) (sym (ended_is form rows))
      (subst (λ (o : Option Arguments). Shows (at_last lack) o) (sym (ap (fitting form) (after_nothing (asked seen)))) (subst Claim (sym lack_is) (by_place stands.place)))
