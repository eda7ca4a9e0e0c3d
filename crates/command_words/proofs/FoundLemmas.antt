-- What is read of the matches.
use Rattle.std.proofs.Common.{◌≡◌, ◌∙◌, ◌||◌, ◌++◌, ⊎_elim, Bool, true, false, true≢false, is_some, List, ◌∷◌, Option, Some, None, IfNone, IfSome, option_map, ap, sym}
use Rattle.std.specs.Prelude.{codes, if◌then◌else◌}
use Rattle.std.specs.List.{list_any}
use Rattle.std.specs.Borrow.{Bor}
use Rattle.lua_num.specs.Bytes.{Text}
use Rattle.clap.specs.Values.{bool_text}
use Rattle.clap.specs.Matches.{first_value, one_text}
use Rattle.clap.specs.Walk.{Row, first_of, one_of, rows_of}
use Rattle.clap.specs.declared.parser.matches.Found.{Found as Matched}
use Rattle.clap.proofs.WalkLemmas.{first_value-rows, one_text-rows}
use Rattle.command_words.specs.declared.reading.Found.{Found}
use Rattle.command_words.specs.Arguments.{Arguments, asked_of, in_list, is_flag, times}
use Rattle.command_words.specs.Parser.{AreRowsOf, in_option, with_plain_values}

-- what the getters gave, by the rows
pub record Gives (rows : List Row) (found : Found) : Type 0 where
  pub file : Some found.file.now ≡ first_of (codes "file") rows
  pub out : option_map (λ s. s.now) found.out ≡ first_of (codes "out") rows
  pub steps : option_map (λ s. s.now) found.steps ≡ first_of (codes "steps") rows
  pub layout : option_map (λ s. s.now) found.layout ≡ first_of (codes "layout") rows
  pub lacking : one_of (codes "strip") rows ≡ None → found.strip ≡ false
  pub yes : one_of (codes "strip") rows ≡ Some (codes "true") → found.strip ≡ true
  pub no : one_of (codes "strip") rows ≡ Some (codes "false") → found.strip ≡ false

listed : (o : Option (Bor Text)) (p : Option Text) → option_map (λ s. s.now) o ≡ p → in_list o ≡ in_option p
listed None p is = ap in_option is
listed (Some s) p is = ap in_option is

module _ (rows : List Row) (found : Found) (asked : Arguments) (gives : Gives rows found) (are : AreRowsOf rows asked) where
  strip_is : found.strip ≡ are.strip
  strip_is = ⊎_elim (λ e. go are.strip e) (λ p. gives.lacking p.0 ∙ sym p.1) are.is_strip
    where
      go : (b : Bool) → one_of (codes "strip") rows ≡ Some (bool_text b) → found.strip ≡ b
      go true e = gives.yes e
      go false e = gives.no e

  files_are : found.file.now ∷ in_list found.out ≡ asked.files
  files_are = ap (λ (o : List Text). found.file.now ∷ o) (listed found.out (first_of (codes "out") rows) gives.out)
      ∙ ap (λ (o : Option Text). in_option o ++ in_option (first_of (codes "out") rows)) gives.file ∙ are.files

  asked_is : asked_of found ≡ asked
  asked_is =
      let strips = ap times strip_is ∙ are.strips in
      let steps = listed found.steps (first_of (codes "steps") rows) gives.steps ∙ are.steps in
      let layouts = listed found.layout (first_of (codes "layout") rows) gives.layout ∙ are.layouts in
      λ i. record { files = files_are i; strips = strips i; steps = steps i; layouts = layouts i }

  pub with_flag : (list_any is_flag (in_list found.steps) || list_any is_flag (in_list found.layout)) ≡ true → None ≡ with_plain_values asked
  with_flag flag = sym (ap (λ b. if b then None else Some (asked_of found)) flag) ∙ ap with_plain_values asked_is

  pub without_flag : (list_any is_flag (in_list found.steps) || list_any is_flag (in_list found.layout)) ≡ false → Some (asked_of found) ≡ with_plain_values asked
  without_flag flag = sym (ap (λ b. if b then None else Some (asked_of found)) flag) ∙ ap with_plain_values asked_is

pub no_rows : (rows : List Row) (asked : Arguments) → AreRowsOf rows asked → first_of (codes "file") rows ≡ None → ⊥
no_rows rows asked are none = true≢false (sym are.file ∙ ap is_some none)

-- the getters' clauses, by the rows
pub gives_from : (f : Matched) (file : Bor Text) (out steps layout g : Option (Bor Text)) (strip : Bool) → g ≡ Some file
    → option_map (λ s. s.now) g ≡ first_value f (codes "file") → option_map (λ s. s.now) out ≡ first_value f (codes "out")
    → option_map (λ s. s.now) steps ≡ first_value f (codes "steps") → option_map (λ s. s.now) layout ≡ first_value f (codes "layout")
    → (one_text f (codes "strip") ≡ None → strip ≡ false) → (one_text f (codes "strip") ≡ Some (codes "true") → strip ≡ true) → (one_text f (codes "strip") ≡ Some (codes "false") → strip ≡ false)
    → Gives (rows_of f) (record { file = file; out = out; strip = strip; steps = steps; layout = layout })
gives_from f file out steps layout g strip is file_is out_is steps_is layout_is none_is true_is false_is = record {
  file = sym (ap (option_map (λ (s : Bor Text). s.now)) is) ∙ file_is ∙ first_value-rows f (codes "file");
  out = out_is ∙ first_value-rows f (codes "out");
  steps = steps_is ∙ first_value-rows f (codes "steps");
  layout = layout_is ∙ first_value-rows f (codes "layout");
  lacking = λ e. none_is (one_text-rows f (codes "strip") ∙ e);
  yes = λ e. true_is (one_text-rows f (codes "strip") ∙ e);
  no = λ e. false_is (one_text-rows f (codes "strip") ∙ e);
}

pub nothing_given : (f : Matched) (g : Option (Bor Text)) (asked : Arguments) → g ≡ None → option_map (λ s. s.now) g ≡ first_value f (codes "file") → AreRowsOf (rows_of f) asked → ⊥
nothing_given f g asked none is are = no_rows (rows_of f) asked are (sym (first_value-rows f (codes "file")) ∙ sym is ∙ ap (option_map (λ (s : Bor Text). s.now)) none)

-- what was found, or nothing
pub some_found : (r : Option Found) (o : Option Arguments) → option_map asked_of r ≡ o → IfSome r (λ found. o ≡ Some (asked_of found))
some_found None o is = tt
some_found (Some found) o is = sym is

pub none_found : (r : Option Found) (o : Option Arguments) → option_map asked_of r ≡ o → IfNone r (o ≡ None)
none_found None o is = sym is
none_found (Some found) o is = tt
