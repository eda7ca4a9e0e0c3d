-- Arguments of a command that has a form, and of one that has not.
use Rattle.std.proofs.Common.{◌≡◌, ◌≤◌, ℕ, zero, suc, Bool, true, false, List, [], ◌∷◌, length, get_or, None, Some, refl, ap, subst, sym, ◌∙◌, arith}
use Rattle.std.specs.Prelude.{◌==◌, ◌&&◌, not, nat_le, nat_lt, Option, option_map, option_and_then, codes, String, if◌then◌else◌}
use Rattle.std.specs.Str.{bytes_eq}
use Rattle.std.specs.String.{string_bytes}
use Rattle.std.specs.declared.alloc.Global.{Global}
use Rattle.std.specs.Borrow.{Bor}
use Rattle.std.proofs.lemmas.Bool.{eqb-true}
use Rattle.std.proofs.lemmas.Slice.Eq.{bytes_eq-Decides}
use Rattle.lua_num.specs.Bytes.{Text, is_digit}
use Rattle.lua_num.specs.Numeral.{worth_of, digits_value}
use Rattle.chunk_io.specs.declared.layout.Layout.{Layout}
use Rattle.command_words.specs.declared.reading.Form.{Form}
use Rattle.command_words.specs.declared.reading.Found.{Found}
use Rattle.command_words.specs.Arguments.{Arguments, arguments, is_flag, values_fit, fits, fitting, in_list, times, asked_of}
use Rattle.suite.specs.declared.product.Product.{Product}
use Rattle.suite.specs.Words.{Words, texts, job_with, job_in, NoCommand, Job, run_file, put_product, store_product, make_source, one_file, run_of, steps_in, steps_given, below_2_63, strip_in, layout_in, layout_named, has_room, spelling_as, compilation, two_files, making, count_in, running, putting, compiling, storing, making_source}

-- ---- the forms of the commands

abbrev pub run_form : Form
run_form = record { out = false; strip = false; steps = true; layout = false }

abbrev pub compile_form : Form
compile_form = record { out = true; strip = true; steps = false; layout = true }

abbrev pub one_form : Form
one_form = record { out = false; strip = false; steps = false; layout = false }

abbrev pub two_form : Form
two_form = record { out = true; strip = false; steps = false; layout = false }

abbrev arguments_of : List Text → ℕ → List Text → List Text → Arguments
arguments_of files strips steps layouts = record { files = files; strips = strips; steps = steps; layouts = layouts }

-- ---- what has a form, and what has none

its_arguments : (form : Form) (o : Option Arguments) (found : Arguments) → option_and_then (fitting form) o ≡ Some found → (o ≡ Some found) × (fits form found ≡ true)
its_arguments form None found e = absurd (cc)
its_arguments form (Some all) found e = by (fits form all) refl e
  where
    by : (b : Bool) → fits form all ≡ b → (if b then Some all else None) ≡ Some found → (Some all ≡ Some found) × (fits form found ≡ true)
    by true is same = let one : all ≡ found = cc in (same, subst (λ (x : Arguments). fits form x ≡ true) one is)
    by false is none = absurd (cc)

-- where arguments have the form, what is asked is that of them
with_form : (form : Form) (ask : Arguments → Option Job) (o : Option Arguments) (found : Arguments) (job : Option Job) → option_and_then (fitting form) o ≡ Some found → (fits form found ≡ true → ask found ≡ job) → option_and_then ask o ≡ job
with_form form ask o found job e is = let its = its_arguments form o found e in ap (option_and_then ask) its.0 ∙ is its.1

-- where they have not, nothing is asked
without_form : (form : Form) (ask : Arguments → Option Job) (o : Option Arguments) → ((found : Arguments) → fits form found ≡ false → ask found ≡ None) → option_and_then (fitting form) o ≡ None → option_and_then ask o ≡ None
without_form form ask None misses e = refl
without_form form ask (Some all) misses e = by (fits form all) refl e
  where
    by : (b : Bool) → fits form all ≡ b → (if b then Some all else None) ≡ None → ask all ≡ None
    by true is none = absurd (cc)
    by false is none = misses all is

never_both : (b : Bool) → (b && false) ≡ true → ⊥
never_both true e = cc
never_both false e = cc

-- ---- a value that is a flag is no number and no layout

flag_begins : (byte : ℕ) (rest : Bool) → ((byte == 45) && rest) ≡ true → byte ≡ 45
flag_begins byte rest e = eqb-true byte 45 (by (byte == 45) rest e)
  where
    by : (a b : Bool) → (a && b) ≡ true → a ≡ true
    by true b e = refl
    by false b e = cc

flag_no_steps : (text : Text) → is_flag text ≡ true → steps_in text ≡ None
flag_no_steps [] e = absurd (cc)
flag_no_steps (byte ∷ text) e = subst (λ (b : ℕ). steps_in (b ∷ text) ≡ None) (sym (flag_begins byte (nat_lt 0 (length text)) e)) (by (nat_le (length (45 ∷ text)) 19))
  where
    by : (b : Bool) → (if b then option_and_then below_2_63 (worth_of is_digit digits_value (45 ∷ text)) else None) ≡ None
    by true = refl
    by false = refl

flag_no_layout : (text : Text) → is_flag text ≡ true → layout_named text ≡ None
flag_no_layout [] e = absurd (cc)
flag_no_layout (byte ∷ text) e = subst (λ (b : ℕ). layout_named (b ∷ text) ≡ None) (sym (flag_begins byte (nat_lt 0 (length text)) e)) refl

is_true_flag : (b : Bool) → not b ≡ false → b ≡ true
is_true_flag true e = refl
is_true_flag false e = cc

and_true : (b : Bool) → (b && true) ≡ b
and_true true = refl
and_true false = refl

no_steps_given : (numbers : List Text) → values_fit true numbers ≡ false → steps_given numbers ≡ None
no_steps_given [] e = absurd (cc)
no_steps_given (number ∷ []) e = flag_no_steps number (is_true_flag (is_flag number) e)
no_steps_given (number ∷ other ∷ more) e = refl

no_layout_given : (names : List Text) → values_fit true names ≡ false → layout_in names ≡ None
no_layout_given [] e = absurd (cc)
no_layout_given (name ∷ []) e = flag_no_layout name (is_true_flag (is_flag name) e)
no_layout_given (name ∷ other ∷ more) e = refl

-- ---- run

run_misses : (files : List Text) (strips : ℕ) (steps layouts : List Text) → fits run_form (arguments_of files strips steps layouts) ≡ false → run_of files strips steps layouts ≡ None
run_misses [] strips steps layouts e = refl
run_misses (file ∷ other ∷ files) strips steps layouts e = refl
run_misses (file ∷ []) (suc n) steps layouts e = refl
run_misses (file ∷ []) zero steps (name ∷ layouts) e = refl
run_misses (file ∷ []) zero steps [] e = ap (option_map (run_file file)) (no_steps_given steps (sym (and_true (values_fit true steps)) ∙ e))

run_has : (file : Text) (out : Option (Bor Text)) (strip : Bool) (steps : List Text) (layout : Option (Bor Text)) → fits run_form (arguments_of (file ∷ in_list out) (times strip) steps (in_list layout)) ≡ true → run_of (file ∷ in_list out) (times strip) steps (in_list layout) ≡ option_map (run_file file) (steps_given steps)
run_has file None false steps None e = refl
run_has file None false steps (Some name) e = absurd (never_both (values_fit true steps) e)
run_has file None true steps layout e = absurd (cc)
run_has file (Some other) strip steps layout e = absurd (cc)

pub run_asked : (o : Option Arguments) (found : Found) (job : Option Job) → option_and_then (fitting run_form) o ≡ Some (asked_of found) → option_map (run_file found.file.now) (steps_given (in_list found.steps)) ≡ job → option_and_then running o ≡ job
run_asked o found job e is = with_form run_form running o (asked_of found) job e (λ fit. run_has found.file.now found.out found.strip (in_list found.steps) found.layout fit ∙ is)

pub no_run : (o : Option Arguments) → option_and_then (fitting run_form) o ≡ None → option_and_then running o ≡ None
no_run o e = without_form run_form running o (λ found misses. run_misses found.files found.strips found.steps found.layouts misses) e

-- ---- one word

one_misses : (files : List Text) (strips : ℕ) (steps layouts : List Text) → fits one_form (arguments_of files strips steps layouts) ≡ false → one_file files strips steps layouts ≡ None
one_misses [] strips steps layouts e = refl
one_misses (file ∷ other ∷ files) strips steps layouts e = refl
one_misses (file ∷ []) (suc n) steps layouts e = refl
one_misses (file ∷ []) zero (number ∷ steps) layouts e = refl
one_misses (file ∷ []) zero [] (name ∷ layouts) e = refl
one_misses (file ∷ []) zero [] [] e = absurd (cc)

making_misses : (files : List Text) (strips : ℕ) (steps layouts : List Text) → fits one_form (arguments_of files strips steps layouts) ≡ false → making files strips steps layouts ≡ None
making_misses [] strips steps layouts e = refl
making_misses (file ∷ other ∷ files) strips steps layouts e = refl
making_misses (file ∷ []) (suc n) steps layouts e = refl
making_misses (file ∷ []) zero (number ∷ steps) layouts e = refl
making_misses (file ∷ []) zero [] (name ∷ layouts) e = refl
making_misses (file ∷ []) zero [] [] e = absurd (cc)

one_has : (file : Text) (out : Option (Bor Text)) (strip : Bool) (steps layout : Option (Bor Text)) → fits one_form (arguments_of (file ∷ in_list out) (times strip) (in_list steps) (in_list layout)) ≡ true → one_file (file ∷ in_list out) (times strip) (in_list steps) (in_list layout) ≡ Some file
one_has file None false None None e = refl
one_has file None false None (Some name) e = absurd (cc)
one_has file None false (Some number) layout e = absurd (cc)
one_has file None true steps layout e = absurd (cc)
one_has file (Some other) strip steps layout e = absurd (cc)

making_has : (file : Text) (out : Option (Bor Text)) (strip : Bool) (steps layout : Option (Bor Text)) → fits one_form (arguments_of (file ∷ in_list out) (times strip) (in_list steps) (in_list layout)) ≡ true → making (file ∷ in_list out) (times strip) (in_list steps) (in_list layout) ≡ option_map make_source (count_in file)
making_has file None false None None e = refl
making_has file None false None (Some name) e = absurd (cc)
making_has file None false (Some number) layout e = absurd (cc)
making_has file None true steps layout e = absurd (cc)
making_has file (Some other) strip steps layout e = absurd (cc)

pub put_asked : (p : Product) (o : Option Arguments) (found : Found) → option_and_then (fitting one_form) o ≡ Some (asked_of found) → option_and_then (putting p) o ≡ Some (put_product p found.file.now)
put_asked p o found e =
    with_form one_form (putting p) o (asked_of found) (Some (put_product p found.file.now)) e (λ fit. ap (option_map (put_product p)) (one_has found.file.now found.out found.strip found.steps found.layout fit))

pub no_put : (p : Product) (o : Option Arguments) → option_and_then (fitting one_form) o ≡ None → option_and_then (putting p) o ≡ None
no_put p o e = without_form one_form (putting p) o (λ found misses. ap (option_map (put_product p)) (one_misses found.files found.strips found.steps found.layouts misses)) e

pub make_asked : (o : Option Arguments) (found : Found) (job : Option Job) → option_and_then (fitting one_form) o ≡ Some (asked_of found) → option_map make_source (count_in found.file.now) ≡ job → option_and_then making_source o ≡ job
make_asked o found job e is = with_form one_form making_source o (asked_of found) job e (λ fit. making_has found.file.now found.out found.strip found.steps found.layout fit ∙ is)

pub no_making : (o : Option Arguments) → option_and_then (fitting one_form) o ≡ None → option_and_then making_source o ≡ None
no_making o e = without_form one_form making_source o (λ found misses. making_misses found.files found.strips found.steps found.layouts misses) e

-- ---- two words

two_misses : (p : Product) (files : List Text) (strips : ℕ) (steps layouts : List Text) → fits two_form (arguments_of files strips steps layouts) ≡ false → two_files p files strips steps layouts ≡ None
two_misses p [] strips steps layouts e = refl
two_misses p (file ∷ []) strips steps layouts e = refl
two_misses p (file ∷ out ∷ other ∷ files) strips steps layouts e = refl
two_misses p (file ∷ out ∷ []) (suc n) steps layouts e = refl
two_misses p (file ∷ out ∷ []) zero (number ∷ steps) layouts e = refl
two_misses p (file ∷ out ∷ []) zero [] (name ∷ layouts) e = refl
two_misses p (file ∷ out ∷ []) zero [] [] e = absurd (cc)

two_has : (p : Product) (file : Text) (out : Option (Bor Text)) (name : Bor Text) (strip : Bool) (steps layout : Option (Bor Text)) → out ≡ Some name → fits two_form (arguments_of (file ∷ in_list out) (times strip) (in_list steps) (in_list layout)) ≡ true → two_files p (file ∷ in_list out) (times strip) (in_list steps) (in_list layout) ≡ Some (store_product p file name.now)
two_has p file None name strip steps layout is e = absurd (cc)
two_has p file (Some out) name false None None is e = let same : out ≡ name = cc in ap (λ (n : Bor Text). Some (store_product p file n.now)) same
two_has p file (Some out) name false None (Some layout) is e = absurd (cc)
two_has p file (Some out) name false (Some number) layout is e = absurd (cc)
two_has p file (Some out) name true steps layout is e = absurd (cc)

no_second : (file : Text) (strip : Bool) (steps layout : Option (Bor Text)) → fits two_form (arguments_of (file ∷ []) (times strip) (in_list steps) (in_list layout)) ≡ true → ⊥
no_second file strip steps layout e = cc

pub store_asked : (p : Product) (o : Option Arguments) (found : Found) (name : Bor Text) → option_and_then (fitting two_form) o ≡ Some (asked_of found) → found.out ≡ Some name → option_and_then (storing p) o ≡ Some (store_product p found.file.now name.now)
store_asked p o found name e is =
    with_form two_form (storing p) o (asked_of found) (Some (store_product p found.file.now name.now)) e (λ fit. two_has p found.file.now found.out name found.strip found.steps found.layout is fit)

pub store_without : (p : Product) (o : Option Arguments) (found : Found) → option_and_then (fitting two_form) o ≡ Some (asked_of found) → found.out ≡ None → option_and_then (storing p) o ≡ None
store_without p o found e is =
    let its = its_arguments two_form o (asked_of found) e in
    absurd (no_second found.file.now found.strip found.steps found.layout (subst (λ (out : Option (Bor Text)). fits two_form (arguments_of (found.file.now ∷ in_list out) (times found.strip) (in_list found.steps) (in_list found.layout)) ≡ true) is its.1))

pub no_storing : (p : Product) (o : Option Arguments) → option_and_then (fitting two_form) o ≡ None → option_and_then (storing p) o ≡ None
no_storing p o e = without_form two_form (storing p) o (λ found misses. two_misses p found.files found.strips found.steps found.layouts misses) e

-- ---- compile

compile_misses : (files : List Text) (strips : ℕ) (steps layouts : List Text) → fits compile_form (arguments_of files strips steps layouts) ≡ false → compilation files strips steps layouts ≡ None
compile_misses [] strips steps layouts e = refl
compile_misses (file ∷ []) strips steps layouts e = refl
compile_misses (file ∷ out ∷ other ∷ files) strips steps layouts e = refl
compile_misses (file ∷ out ∷ []) strips (number ∷ steps) layouts e = refl
compile_misses (file ∷ out ∷ []) zero [] layouts e = ap (option_and_then (spelling_as file out false)) (no_layout_given layouts e)
compile_misses (file ∷ out ∷ []) (suc zero) [] layouts e = ap (option_and_then (spelling_as file out true)) (no_layout_given layouts e)
compile_misses (file ∷ out ∷ []) (suc (suc n)) [] layouts e = refl

strip_given : (strip : Bool) → strip_in (times strip) ≡ Some strip
strip_given true = refl
strip_given false = refl

-- two files, with the layout that is given
compile_has : (file : Text) (out : Option (Bor Text)) (name : Bor Text) (strip : Bool) (steps : Option (Bor Text)) (layouts : List Text) → out ≡ Some name → fits compile_form (arguments_of (file ∷ in_list out) (times strip) (in_list steps) layouts) ≡ true → compilation (file ∷ in_list out) (times strip) (in_list steps) layouts ≡ option_and_then (spelling_as file name.now strip) (layout_in layouts)
compile_has file None name strip steps layouts is e = absurd (cc)
compile_has file (Some out) name true (Some number) layouts is e = absurd (cc)
compile_has file (Some out) name false (Some number) layouts is e = absurd (cc)
compile_has file (Some out) name strip None layouts is e =
    let same : out ≡ name = cc in
    ap (option_and_then (λ s. option_and_then (spelling_as file out.now s) (layout_in layouts))) (strip_given strip) ∙ ap (λ (n : Bor Text). option_and_then (spelling_as file n.now strip) (layout_in layouts)) same

spelled_so : (file out : Text) (strip : Bool) (layout : Layout) → has_room layout file ≡ true → spelling_as file out strip layout ≡ Some (store_product (Product.Spelling strip layout) file out)
spelled_so file out strip layout room = rw room refl

not_spelled : (file out : Text) (strip : Bool) (layout : Layout) → has_room layout file ≡ false → spelling_as file out strip layout ≡ None
not_spelled file out strip layout room = rw room refl

pub compile_asked : (o : Option Arguments) (found : Found) (name : Bor Text) (layout : Layout) → option_and_then (fitting compile_form) o ≡ Some (asked_of found) → found.out ≡ Some name → layout_in (in_list found.layout) ≡ Some layout → has_room layout found.file.now ≡ true → option_and_then compiling o ≡ Some (store_product (Product.Spelling found.strip layout) found.file.now name.now)
compile_asked o found name layout e is given room =
    with_form compile_form compiling o (asked_of found) (Some (store_product (Product.Spelling found.strip layout) found.file.now name.now)) e (λ fit.
    compile_has found.file.now found.out name found.strip found.steps (in_list found.layout) is fit
    ∙ ap (option_and_then (spelling_as found.file.now name.now found.strip)) given
    ∙ spelled_so found.file.now name.now found.strip layout room)

pub compile_without_room : (o : Option Arguments) (found : Found) (name : Bor Text) (layout : Layout) → option_and_then (fitting compile_form) o ≡ Some (asked_of found) → found.out ≡ Some name → layout_in (in_list found.layout) ≡ Some layout → has_room layout found.file.now ≡ false → option_and_then compiling o ≡ None
compile_without_room o found name layout e is given room =
    with_form compile_form compiling o (asked_of found) None e (λ fit.
    compile_has found.file.now found.out name found.strip found.steps (in_list found.layout) is fit
    ∙ ap (option_and_then (spelling_as found.file.now name.now found.strip)) given
    ∙ not_spelled found.file.now name.now found.strip layout room)

pub compile_without_layout : (o : Option Arguments) (found : Found) → option_and_then (fitting compile_form) o ≡ Some (asked_of found) → layout_in (in_list found.layout) ≡ None → option_and_then compiling o ≡ None
compile_without_layout o found e none = with_form compile_form compiling o (asked_of found) None e (λ fit. by found.out refl fit)
  where
    by : (out : Option (Bor Text)) → found.out ≡ out → fits compile_form (asked_of found) ≡ true → compiling (asked_of found) ≡ None
    by (Some name) is fit =
        compile_has found.file.now found.out name found.strip found.steps (in_list found.layout) is fit
        ∙ ap (option_and_then (spelling_as found.file.now name.now found.strip)) none
    by None is fit = ap (λ (out : Option (Bor Text)). compilation (found.file.now ∷ in_list out) (times found.strip) (in_list found.steps) (in_list found.layout)) is

pub compile_without : (o : Option Arguments) (found : Found) → option_and_then (fitting compile_form) o ≡ Some (asked_of found) → found.out ≡ None → option_and_then compiling o ≡ None
compile_without o found e is =
    with_form compile_form compiling o (asked_of found) None e (λ fit.
    ap (λ (out : Option (Bor Text)). compilation (found.file.now ∷ in_list out) (times found.strip) (in_list found.steps) (in_list found.layout)) is)

pub no_compilation : (o : Option Arguments) → option_and_then (fitting compile_form) o ≡ None → option_and_then compiling o ≡ None
no_compilation o e = without_form compile_form compiling o (λ found misses. compile_misses found.files found.strips found.steps found.layouts misses) e

-- ---- the first word

no_such : (first : Text) (o : Option Arguments) → bytes_eq first (codes "run") ≡ false → bytes_eq first (codes "list") ≡ false → bytes_eq first (codes "verify") ≡ false → bytes_eq first (codes "globals") ≡ false → bytes_eq first (codes "compile") ≡ false → bytes_eq first (codes "decompile") ≡ false → bytes_eq first (codes "assemble") ≡ false → bytes_eq first (codes "make-source") ≡ false → option_and_then (job_with first) o ≡ None
no_such first None run list verify globals compile decompile assemble make = refl
no_such first (Some found) run list verify globals compile decompile assemble make = rw (run, list, verify, globals, compile, decompile, assemble, make) refl

not_named : (first name : Text) → (first ≡ name → ⊥) → bytes_eq first name ≡ false
not_named first name other = by (bytes_eq first name) refl
  where
    by : (b : Bool) → bytes_eq first name ≡ b → bytes_eq first name ≡ false
    by true e = absurd (other ((bytes_eq-Decides first name).0 e))
    by false e = e

-- one that is the name of no command
pub no_command : (words : Words) (word : String Global) (first : Text) → 1 ≤ length words → word ≡ get_or words 0 word → first ≡ string_bytes word → (first ≡ codes "run" → ⊥) → (first ≡ codes "list" → ⊥) → (first ≡ codes "verify" → ⊥) → (first ≡ codes "globals" → ⊥) → (first ≡ codes "compile" → ⊥) → (first ≡ codes "decompile" → ⊥) → (first ≡ codes "assemble" → ⊥) → (first ≡ codes "make-source" → ⊥) → NoCommand words
no_command [] word first some is text run list verify globals compile decompile assemble make = absurd (omega (arith, some))
no_command (w ∷ words) word first some is text run list verify globals compile decompile assemble make =
    subst (λ (t : Text). job_in (t ∷ texts words) ≡ None) (text ∙ ap string_bytes is)
    (no_such first (arguments (texts words)) (not_named first _ run) (not_named first _ list) (not_named first _ verify) (not_named first _ globals) (not_named first _ compile) (not_named first _ decompile) (not_named first _ assemble) (not_named first _ make))
