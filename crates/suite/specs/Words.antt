-- To be believed. How the words are read, and what they ask for.
use Rattle.std.specs.Prelude.{◌≡◌, ◌==◌, ◌&&◌, ◌||◌, ◌-◌, ◌^◌, ℕ, zero, suc, Bool, true, false, nat_lt, nat_le, List, [], ◌∷◌, length, Option, Some, None, option_map, option_and_then, codes, if◌then◌else◌}
use Rattle.std.specs.Str.{bytes_eq}
use Rattle.std.specs.String.{string_bytes}
use Rattle.std.specs.FinMap.{get}
use Rattle.lua_num.specs.Bytes.{Text, is_digit}
use Rattle.lua_num.specs.Numeral.{worth_of, digits_value}
use Rattle.suite_io.specs.Contents.{Contents}
use Rattle.made_source.specs.Made.{made}
use Rattle.chunk_io.specs.declared.layout.Layout.{Layout}
use Rattle.chunk_io.specs.Items.{le4, le8, be4, be8}
pub use Rattle.command_words.specs.Arguments.{Words, texts}
use Rattle.command_words.specs.Arguments.{Arguments, arguments}
use Rattle.suite.specs.declared.product.Product.{Product}
use Rattle.suite.specs.declared.words.Command.{Command}

-- what words ask for: to run a file for at most so many steps, to put a text that is made of it, or to store one as another file; or to make a source with so many functions, and to try the suite
-- on it
pub data Job : Type 0 where
  run_file : (file : Text) (steps : ℕ) → Job
  put_product : Product → (file : Text) → Job
  store_product : Product → (file out : Text) → Job
  make_source : (count : ℕ) → Job

-- the name of a made source, which no file has
abbrev pub made_name : Text
made_name = codes "made"

-- the file that is fetched, or that name
abbrev pub file_of : Job → Text
file_of (run_file file steps) = file
file_of (put_product product file) = file
file_of (store_product product file out) = file
file_of (make_source count) = made_name

-- what a command asks for
abbrev pub job_of : Command → Job
job_of (Command.Run file steps) = run_file (string_bytes file) steps
job_of (Command.Put product file) = put_product product (string_bytes file)
job_of (Command.Store product file out) = store_product product (string_bytes file) (string_bytes out)
job_of (Command.Make count) = make_source count

abbrev pub below_2_63 : ℕ → Option ℕ
below_2_63 n = if nat_lt n (2 ^ 63) then Some n else None

-- the number of 1 to 19 decimal digits, where it is below 2^63
abbrev pub steps_in : Text → Option ℕ
steps_in text = if nat_le (length text) 19 then option_and_then below_2_63 (worth_of is_digit digits_value text) else None

-- how many steps a run has where no number is given
abbrev pub default_steps : ℕ
default_steps = 1000000000

-- one file, and no flag
abbrev pub one_file : List Text → (strips : ℕ) (steps layouts : List Text) → Option Text
one_file (file ∷ []) zero [] [] = Some file
one_file files strips steps layouts = None

-- the number of steps that is given once, or none
abbrev pub steps_given : List Text → Option ℕ
steps_given [] = Some default_steps
steps_given (number ∷ []) = steps_in number
steps_given numbers = None

-- one file, with a number of steps or none
abbrev pub run_of : List Text → (strips : ℕ) (steps layouts : List Text) → Option Job
run_of (file ∷ []) zero numbers [] = option_map (run_file file) (steps_given numbers)
run_of files strips steps layouts = None

-- `--strip` once or not at all
abbrev pub strip_in : ℕ → Option Bool
strip_in zero = Some false
strip_in (suc zero) = Some true
strip_in strips = None

-- the layout of a name
abbrev pub layout_named : Text → Option Layout
layout_named name =
    if bytes_eq name (codes "le4") then Some le4
    else (if bytes_eq name (codes "le8") then Some le8
    else (if bytes_eq name (codes "be4") then Some be4
    else (if bytes_eq name (codes "be8") then Some be8 else None)))

-- the layout that is named once, or else this suite's own
abbrev pub layout_in : List Text → Option Layout
layout_in [] = Some le8
layout_in (name ∷ []) = layout_named name
layout_in names = None

-- sizes of 4 bytes tell no source name of a longer file's name
abbrev pub has_room : Layout → Text → Bool
has_room layout file = (layout.size == 8) || nat_lt (length file) (2 ^ 32 - 2)

abbrev pub spelling_as : (file out : Text) (strip : Bool) → Layout → Option Job
spelling_as file out strip layout = if has_room layout file then Some (store_product (Product.Spelling strip layout) file out) else None

-- two files, with `--strip` and a layout or without
abbrev pub compilation : List Text → (strips : ℕ) (steps layouts : List Text) → Option Job
compilation (file ∷ out ∷ []) strips [] layouts = option_and_then (λ strip. option_and_then (spelling_as file out strip) (layout_in layouts)) (strip_in strips)
compilation files strips steps layouts = None

-- two files, and no flag
abbrev pub two_files : Product → List Text → (strips : ℕ) (steps layouts : List Text) → Option Job
two_files product (file ∷ out ∷ []) zero [] [] = Some (store_product product file out)
two_files product files strips steps layouts = None

-- a made source has 1 to 20,000 functions
abbrev pub in_reach : ℕ → Option ℕ
in_reach n = if nat_lt 0 n && nat_le n 20000 then Some n else None

-- the number of 1 to 5 decimal digits, where it is in reach
abbrev pub count_in : Text → Option ℕ
count_in text = if nat_le (length text) 5 then option_and_then in_reach (worth_of is_digit digits_value text) else None

-- one number, and no flag
abbrev pub making : List Text → (strips : ℕ) (steps layouts : List Text) → Option Job
making (number ∷ []) zero [] [] = option_map make_source (count_in number)
making words strips steps layouts = None

-- ---- what a command asks for, with the arguments behind its name

abbrev pub running : Arguments → Option Job
running found = run_of found.files found.strips found.steps found.layouts

abbrev pub putting : Product → Arguments → Option Job
putting product found = option_map (put_product product) (one_file found.files found.strips found.steps found.layouts)

abbrev pub compiling : Arguments → Option Job
compiling found = compilation found.files found.strips found.steps found.layouts

abbrev pub storing : Product → Arguments → Option Job
storing product found = two_files product found.files found.strips found.steps found.layouts

abbrev pub making_source : Arguments → Option Job
making_source found = making found.files found.strips found.steps found.layouts

-- what the first word asks for, with the arguments behind it
abbrev pub job_with : Text → Arguments → Option Job
job_with first found =
    if bytes_eq first (codes "run") then running found
    else (if bytes_eq first (codes "list") then putting Product.Listing found
    else (if bytes_eq first (codes "verify") then putting Product.Verdict found
    else (if bytes_eq first (codes "globals") then putting Product.Globals found
    else (if bytes_eq first (codes "compile") then compiling found
    else (if bytes_eq first (codes "decompile") then storing Product.Source found
    else (if bytes_eq first (codes "assemble") then storing Product.Assembly found
    else (if bytes_eq first (codes "make-source") then making_source found else None)))))))

-- what words ask for, where they are a command
abbrev pub job_in : List Text → Option Job
job_in [] = None
job_in (first ∷ rest) = option_and_then (job_with first) (arguments rest)

abbrev pub Reads : Words → Job → Type 0
Reads words job = job_in (texts words) ≡ Some job

abbrev pub NoCommand : Words → Type 0
NoCommand words = job_in (texts words) ≡ None

abbrev pub file_or_none : Option Job → Text
file_or_none (Some job) = file_of job
file_or_none None = []

-- the file that the words name, where they are a command
abbrev pub named : Words → Text
named words = file_or_none (job_in (texts words))

-- the file has these bytes, where that is told
abbrev pub Tells : Option Contents → Text → List ℕ → Type 0
Tells (Some held) file bytes = get held file ≡ Some bytes
Tells None file bytes = ⊥

-- a job is done with these bytes: those that its file is told to have, or the made source
abbrev pub IsDoneWith : Option Contents → Job → List ℕ → Type 0
IsDoneWith contents (make_source count) bytes = bytes ≡ made count
IsDoneWith contents job bytes = Tells contents (file_of job) bytes

-- the words ask for this, which is done with these bytes
pub record Asks (words : Words) (contents : Option Contents) (job : Job) (bytes : List ℕ) : Type 0 where
  pub reads : Reads words job
  pub told : IsDoneWith contents job bytes
