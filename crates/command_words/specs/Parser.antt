-- The `clap` command of a form, and what is read of the rows that it finds.
use Rattle.std.specs.Prelude.{◌||◌, ◌≡◌, ◌⊎◌, Bool, true, false, List, [], ◌∷◌, ◌++◌, Option, Some, None, is_some, codes, if◌then◌else◌}
use Rattle.std.specs.List.{list_any}
use Rattle.lua_num.specs.Bytes.{Text}
use Rattle.clap.specs.Values.{bool_text}
use Rattle.clap.specs.Walk.{Row, Rule, first_of, one_of}
use Rattle.clap.specs.Simple.{App, new_app, new_rule, on_top, with_rule}
use Rattle.clap.specs.declared.builder.action.ArgAction.TheVariants.{Set, SetTrue}
use Rattle.command_words.specs.declared.reading.Form.{Form}
use Rattle.command_words.specs.Arguments.{Arguments, is_flag, times}

abbrev pub file_rule : Rule
file_rule = record (new_rule (codes "file")) { required = true; action = Some Set }

abbrev pub out_rule : Rule
out_rule = record (new_rule (codes "out")) { required = true; action = Some Set }

abbrev pub strip_rule : Rule
strip_rule = record (new_rule (codes "strip")) { long = Some (codes "strip"); action = Some SetTrue }

abbrev pub steps_rule : Rule
steps_rule = record (new_rule (codes "steps")) { long = Some (codes "steps"); action = Some Set }

abbrev pub layout_rule : Rule
layout_rule = record (new_rule (codes "layout")) { long = Some (codes "layout"); action = Some Set }

-- a command of one file, with no help
abbrev pub plain_app : App
plain_app = with_rule (on_top (λ s. record s { disable_help_flag = true; disable_version_flag = true }) (new_app (codes "luasuite"))) file_rule

abbrev pub with_wanted : Bool → Rule → App → App
with_wanted wanted rule app = if wanted then with_rule app rule else app

-- the command of the form
abbrev pub app_for : Form → App
app_for form = with_wanted form.layout layout_rule (with_wanted form.steps steps_rule (with_wanted form.strip strip_rule (with_wanted form.out out_rule plain_app)))

abbrev pub in_option : Option Text → List Text
in_option None = []
in_option (Some text) = text ∷ []

-- the rows are those of the arguments
pub record AreRowsOf (rows : List Row) (asked : Arguments) : Type 0 where
  pub strip : Bool
  pub file : is_some (first_of (codes "file") rows) ≡ true
  pub files : in_option (first_of (codes "file") rows) ++ in_option (first_of (codes "out") rows) ≡ asked.files
  pub is_strip : (one_of (codes "strip") rows ≡ Some (bool_text strip)) ⊎ ((one_of (codes "strip") rows ≡ None) × (strip ≡ false))
  pub strips : times strip ≡ asked.strips
  pub steps : in_option (first_of (codes "steps") rows) ≡ asked.steps
  pub layouts : in_option (first_of (codes "layout") rows) ≡ asked.layouts

-- the arguments, where no value is a flag
abbrev pub with_plain_values : Arguments → Option Arguments
with_plain_values asked = if list_any is_flag asked.steps || list_any is_flag asked.layouts then None else Some asked
