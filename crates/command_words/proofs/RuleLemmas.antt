-- The rules of a form's command once it is built, and which of them clap finds by a name, an id and a place.
use Rattle.std.proofs.Common.{◌≡◌, ◌∙◌, ◌&&◌, ◌||◌, ◌==◌, not, is_some, ℕ, Bool, true, false, List, [], ◌∷◌, Option, Some, None, refl}
use Rattle.std.specs.Prelude.{codes, find, drop}
use Rattle.std.specs.Option.{option_map_or}
use Rattle.std.specs.Str.{bytes_eq}
use Rattle.clap.specs.Walk.{Rule, Text, arg_by_id, arg_by_index, arg_by_long, arg_by_short, has_long, has_short}
use Rattle.clap.specs.Simple.{App, Shape, argument_words, built, filled, with_index}
use Rattle.clap.specs.Faults.{is_simple_and_free}
use Rattle.command_words.specs.declared.reading.Form.{Form}
use Rattle.command_words.specs.Parser.{app_for, file_rule, layout_rule, out_rule, steps_rule, strip_rule}

-- the rules as they are built: a file is the first positional, the other file the second
abbrev pub built_file : Rule
built_file = with_index 1 (filled file_rule)

abbrev pub built_out : Rule
built_out = with_index 2 (filled out_rule)

abbrev pub built_strip : Rule
built_strip = filled strip_rule

abbrev pub built_steps : Rule
built_steps = filled steps_rule

abbrev pub built_layout : Rule
built_layout = filled layout_rule

abbrev pub before_rest : Bool → Rule → List Rule → List Rule
before_rest true rule rest = rule ∷ rest
before_rest false rule rest = rest

abbrev pub rules_for : Form → List Rule
rules_for form = built_file ∷ before_rest form.out built_out (before_rest form.strip built_strip (before_rest form.steps built_steps (before_rest form.layout built_layout [])))

abbrev pub built_shape : List Rule → Shape
built_shape rules = record {
  name = codes "luasuite";
  aliases = [];
  rules = rules;
  is_plain = true;
  is_leaf = true;
  no_binary_name = false;
  disable_help_flag = true;
  disable_help_subcommand = true;
  disable_version_flag = true;
  propagate_version = false;
  has_version = false;
  has_long_version = false;
  args_override_self = false;
  arg_required_else_help = false;
  subcommand_required = false;
  subcommand_negates_reqs = false;
  is_built = true;
}

abbrev pub built_app : Form → App
built_app form = record { top = built_shape (rules_for form); subs = [] }

-- clap's own account of the command holds, and this is what it makes of it
pub record IsBuilt (form : Form) : Type 0 where
  pub is : built (app_for form) ≡ built_app form
  pub simple : is_simple_and_free (app_for form) ≡ true
  pub words : (ws : List Text) → argument_words (app_for form) ws ≡ drop 1 ws

built_by : (out strip steps layout : Bool) → IsBuilt (record { out = out; strip = strip; steps = steps; layout = layout })
built_by true true true true = record { is = refl; simple = refl; words = λ ws. refl }
built_by true true true false = record { is = refl; simple = refl; words = λ ws. refl }
built_by true true false true = record { is = refl; simple = refl; words = λ ws. refl }
built_by true true false false = record { is = refl; simple = refl; words = λ ws. refl }
built_by true false true true = record { is = refl; simple = refl; words = λ ws. refl }
built_by true false true false = record { is = refl; simple = refl; words = λ ws. refl }
built_by true false false true = record { is = refl; simple = refl; words = λ ws. refl }
built_by true false false false = record { is = refl; simple = refl; words = λ ws. refl }
built_by false true true true = record { is = refl; simple = refl; words = λ ws. refl }
built_by false true true false = record { is = refl; simple = refl; words = λ ws. refl }
built_by false true false true = record { is = refl; simple = refl; words = λ ws. refl }
built_by false true false false = record { is = refl; simple = refl; words = λ ws. refl }
built_by false false true true = record { is = refl; simple = refl; words = λ ws. refl }
built_by false false true false = record { is = refl; simple = refl; words = λ ws. refl }
built_by false false false true = record { is = refl; simple = refl; words = λ ws. refl }
built_by false false false false = record { is = refl; simple = refl; words = λ ws. refl }

pub is_built : (form : Form) → IsBuilt form
is_built form = built_by form.out form.strip form.steps form.layout

-- ---- what is found

abbrev pub present : Bool → Rule → Option Rule
present true rule = Some rule
present false rule = None

module _ (test : Rule → Bool) where
  skips : (wanted : Bool) (rule : Rule) (rest : List Rule) → test rule ≡ false → find test (before_rest wanted rule rest) ≡ find test rest
  skips true rule rest fails = rw fails refl
  skips false rule rest fails = refl

  meets : (wanted : Bool) (rule : Rule) (rest : List Rule) → test rule ≡ true → find test rest ≡ None → find test (before_rest wanted rule rest) ≡ present wanted rule
  meets true rule rest passes none = rw passes refl
  meets false rule rest passes none = none

-- a long name alone, with no alias
no_long : (long name : Text) → bytes_eq long name ≡ false → (bytes_eq long name || false) ≡ false
no_long long name fails = rw fails refl

-- what clap finds among the rules, by the form
pub record Finds (form : Form) (rules : List Rule) : Type 0 where
  pub strip : arg_by_long rules (codes "strip") ≡ present form.strip built_strip
  pub steps : arg_by_long rules (codes "steps") ≡ present form.steps built_steps
  pub layout : arg_by_long rules (codes "layout") ≡ present form.layout built_layout
  pub other : (name : Text) → bytes_eq (codes "strip") name ≡ false → bytes_eq (codes "steps") name ≡ false → bytes_eq (codes "layout") name ≡ false → arg_by_long rules name ≡ None
  pub short : (x : ℕ) → arg_by_short rules x ≡ None
  pub file_id : arg_by_id rules (codes "file") ≡ Some built_file
  pub out_id : arg_by_id rules (codes "out") ≡ present form.out built_out
  pub steps_id : arg_by_id rules (codes "steps") ≡ present form.steps built_steps
  pub layout_id : arg_by_id rules (codes "layout") ≡ present form.layout built_layout
  pub first : arg_by_index rules 1 ≡ Some built_file
  pub second : arg_by_index rules 2 ≡ present form.out built_out
  pub third : arg_by_index rules 3 ≡ None

pub finds : (form : Form) → Finds form (rules_for form)
finds form = record {
  strip = skips (λ a. not (is_some a.index) && has_long a (codes "strip")) form.out built_out (before_rest form.strip built_strip (before_rest form.steps built_steps (before_rest form.layout built_layout []))) refl
      ∙ meets (λ a. not (is_some a.index) && has_long a (codes "strip")) form.strip built_strip (before_rest form.steps built_steps (before_rest form.layout built_layout [])) refl (skips (λ a. not (is_some a.index) && has_long a (codes "strip")) form.steps built_steps (before_rest form.layout built_layout []) refl ∙ skips (λ a. not (is_some a.index) && has_long a (codes "strip")) form.layout built_layout [] refl);
  steps = skips (λ a. not (is_some a.index) && has_long a (codes "steps")) form.out built_out (before_rest form.strip built_strip (before_rest form.steps built_steps (before_rest form.layout built_layout []))) refl
      ∙ skips (λ a. not (is_some a.index) && has_long a (codes "steps")) form.strip built_strip (before_rest form.steps built_steps (before_rest form.layout built_layout [])) refl
      ∙ meets (λ a. not (is_some a.index) && has_long a (codes "steps")) form.steps built_steps (before_rest form.layout built_layout []) refl (skips (λ a. not (is_some a.index) && has_long a (codes "steps")) form.layout built_layout [] refl);
  layout = skips (λ a. not (is_some a.index) && has_long a (codes "layout")) form.out built_out (before_rest form.strip built_strip (before_rest form.steps built_steps (before_rest form.layout built_layout []))) refl
      ∙ skips (λ a. not (is_some a.index) && has_long a (codes "layout")) form.strip built_strip (before_rest form.steps built_steps (before_rest form.layout built_layout [])) refl
      ∙ skips (λ a. not (is_some a.index) && has_long a (codes "layout")) form.steps built_steps (before_rest form.layout built_layout []) refl
      ∙ meets (λ a. not (is_some a.index) && has_long a (codes "layout")) form.layout built_layout [] refl (refl);
  other = λ name s t l. skips (λ a. not (is_some a.index) && has_long a name) form.out built_out (before_rest form.strip built_strip (before_rest form.steps built_steps (before_rest form.layout built_layout []))) refl
      ∙ skips (λ a. not (is_some a.index) && has_long a name) form.strip built_strip (before_rest form.steps built_steps (before_rest form.layout built_layout [])) (no_long (codes "strip") name s)
      ∙ skips (λ a. not (is_some a.index) && has_long a name) form.steps built_steps (before_rest form.layout built_layout []) (no_long (codes "steps") name t)
      ∙ skips (λ a. not (is_some a.index) && has_long a name) form.layout built_layout [] (no_long (codes "layout") name l);
  short = λ x. skips (λ a. not (is_some a.index) && has_short a x) form.out built_out (before_rest form.strip built_strip (before_rest form.steps built_steps (before_rest form.layout built_layout []))) refl
      ∙ skips (λ a. not (is_some a.index) && has_short a x) form.strip built_strip (before_rest form.steps built_steps (before_rest form.layout built_layout [])) refl
      ∙ skips (λ a. not (is_some a.index) && has_short a x) form.steps built_steps (before_rest form.layout built_layout []) refl
      ∙ skips (λ a. not (is_some a.index) && has_short a x) form.layout built_layout [] refl;
  file_id = refl;
  out_id = meets (λ a. bytes_eq a.id (codes "out")) form.out built_out (before_rest form.strip built_strip (before_rest form.steps built_steps (before_rest form.layout built_layout []))) refl (skips (λ a. bytes_eq a.id (codes "out")) form.strip built_strip (before_rest form.steps built_steps (before_rest form.layout built_layout [])) refl ∙ skips (λ a. bytes_eq a.id (codes "out")) form.steps built_steps (before_rest form.layout built_layout []) refl ∙ skips (λ a. bytes_eq a.id (codes "out")) form.layout built_layout [] refl);
  steps_id = skips (λ a. bytes_eq a.id (codes "steps")) form.out built_out (before_rest form.strip built_strip (before_rest form.steps built_steps (before_rest form.layout built_layout []))) refl
      ∙ skips (λ a. bytes_eq a.id (codes "steps")) form.strip built_strip (before_rest form.steps built_steps (before_rest form.layout built_layout [])) refl
      ∙ meets (λ a. bytes_eq a.id (codes "steps")) form.steps built_steps (before_rest form.layout built_layout []) refl (skips (λ a. bytes_eq a.id (codes "steps")) form.layout built_layout [] refl);
  layout_id = skips (λ a. bytes_eq a.id (codes "layout")) form.out built_out (before_rest form.strip built_strip (before_rest form.steps built_steps (before_rest form.layout built_layout []))) refl
      ∙ skips (λ a. bytes_eq a.id (codes "layout")) form.strip built_strip (before_rest form.steps built_steps (before_rest form.layout built_layout [])) refl
      ∙ skips (λ a. bytes_eq a.id (codes "layout")) form.steps built_steps (before_rest form.layout built_layout []) refl
      ∙ meets (λ a. bytes_eq a.id (codes "layout")) form.layout built_layout [] refl (refl);
  first = refl;
  second = meets (λ a. option_map_or (λ k. k == 2) a.index false) form.out built_out (before_rest form.strip built_strip (before_rest form.steps built_steps (before_rest form.layout built_layout []))) refl (skips (λ a. option_map_or (λ k. k == 2) a.index false) form.strip built_strip (before_rest form.steps built_steps (before_rest form.layout built_layout [])) refl ∙ skips (λ a. option_map_or (λ k. k == 2) a.index false) form.steps built_steps (before_rest form.layout built_layout []) refl ∙ skips (λ a. option_map_or (λ k. k == 2) a.index false) form.layout built_layout [] refl);
  third = skips (λ a. option_map_or (λ k. k == 3) a.index false) form.out built_out (before_rest form.strip built_strip (before_rest form.steps built_steps (before_rest form.layout built_layout []))) refl
      ∙ skips (λ a. option_map_or (λ k. k == 3) a.index false) form.strip built_strip (before_rest form.steps built_steps (before_rest form.layout built_layout [])) refl
      ∙ skips (λ a. option_map_or (λ k. k == 3) a.index false) form.steps built_steps (before_rest form.layout built_layout []) refl
      ∙ skips (λ a. option_map_or (λ k. k == 3) a.index false) form.layout built_layout [] refl;
}
