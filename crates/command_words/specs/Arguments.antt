-- To be believed. How the words behind a command's name are read.
use Rattle.std.specs.Prelude.{◌==◌, ◌&&◌, ℕ, zero, suc, Bool, true, false, not, nat_lt, List, [], ◌∷◌, length, map, take, drop, Option, Some, None, option_map, option_and_then, codes, String, if◌then◌else◌}
use Rattle.std.specs.Borrow.{Bor}
use Rattle.std.specs.Str.{bytes_eq}
use Rattle.std.specs.String.{string_bytes}
use Rattle.std.specs.declared.alloc.Global.{Global}
use Rattle.lua_num.specs.Bytes.{Text}
use Rattle.command_words.specs.declared.reading.Form.{Form}
use Rattle.command_words.specs.declared.reading.Found.{Found}

abbrev pub Words : Type 0
Words = List (String Global)

abbrev pub texts : Words → List Text
texts words = map string_bytes words

-- a word that begins with `-` and is longer
abbrev pub is_flag : Text → Bool
is_flag [] = false
is_flag (byte ∷ text) = (byte == 45) && nat_lt 0 (length text)

-- the words behind the first one: those that stand for files, how many are `--strip`, and what stands behind each `--steps` and each `--layout`, all in order
pub record Arguments : Type 0 where
  pub files : List Text
  pub strips : ℕ
  pub steps : List Text
  pub layouts : List Text

abbrev pub with_file : Text → Arguments → Arguments
with_file word found = record found { files = word ∷ found.files }

abbrev pub with_strip : Arguments → Arguments
with_strip found = record found { strips = suc found.strips }

abbrev pub with_steps : Text → Arguments → Arguments
with_steps number found = record found { steps = number ∷ found.steps }

abbrev pub with_layout : Text → Arguments → Arguments
with_layout name found = record found { layouts = name ∷ found.layouts }

abbrev pub files_alone : List Text → Arguments
files_alone words = record { files = words; strips = 0; steps = []; layouts = [] }

-- `--steps=` and `--layout=`, before a value in one word
abbrev pub steps_mark : Text
steps_mark = codes "--steps="

abbrev pub layout_mark : Text
layout_mark = codes "--layout="

-- Behind `--` all words stand for files. Before it no flag but `--strip`, `--steps N`, `--steps=N`, `--layout L` and `--layout=L` stands in a command.
abbrev mutual
  pub arguments : List Text → Option Arguments
  arguments [] = Some (files_alone [])
  arguments (word ∷ words) =
      if bytes_eq word (codes "--") then Some (files_alone words)
      else (if bytes_eq word (codes "--strip") then option_map with_strip (arguments words)
      else (if bytes_eq word (codes "--steps") then behind_flag with_steps words
      else (if bytes_eq (take 8 word) steps_mark then option_map (with_steps (drop 8 word)) (arguments words)
      else (if bytes_eq word (codes "--layout") then behind_flag with_layout words
      else (if bytes_eq (take 9 word) layout_mark then option_map (with_layout (drop 9 word)) (arguments words)
      else (if is_flag word then None else option_map (with_file word) (arguments words)))))))

  -- the value of a flag is the next word
  pub behind_flag : (Text → Arguments → Arguments) → List Text → Option Arguments
  behind_flag with_value [] = None
  behind_flag with_value (value ∷ words) = option_map (with_value value) (arguments words)

-- one file, or one and OUT
abbrev pub files_fit : (out : Bool) → List Text → Bool
files_fit false (file ∷ []) = true
files_fit true (file ∷ out ∷ []) = true
files_fit out files = false

-- not at all, or once where it stands in the command
abbrev pub strips_fit : (strip : Bool) → ℕ → Bool
strips_fit strip zero = true
strips_fit strip (suc zero) = strip
strips_fit strip (suc (suc more)) = false

-- no value, or one where the flag stands in the command; no value is a flag
abbrev pub values_fit : Bool → List Text → Bool
values_fit flag [] = true
values_fit flag (value ∷ []) = flag && not (is_flag value)
values_fit flag (value ∷ other ∷ more) = false

-- a command of this form has these arguments
abbrev pub fits : Form → Arguments → Bool
fits form found =
    files_fit form.out found.files && strips_fit form.strip found.strips && values_fit form.steps found.steps && values_fit form.layout found.layouts

abbrev pub fitting : Form → Arguments → Option Arguments
fitting form found = if fits form found then Some found else None

-- what the words behind a command's name are, where a command of this form may have them
abbrev pub arguments_in : Form → List Text → Option Arguments
arguments_in form words = option_and_then (fitting form) (arguments words)

abbrev pub in_list : Option (Bor Text) → List Text
in_list None = []
in_list (Some text) = text.now ∷ []

abbrev pub times : Bool → ℕ
times false = 0
times true = 1

-- the arguments that were found
abbrev pub asked_of : Found → Arguments
asked_of found = record {
  files = found.file.now ∷ in_list found.out;
  strips = times found.strip;
  steps = in_list found.steps;
  layouts = in_list found.layout;
}
