-- The listing of a chunk is lines that show its places.
use Rattle.std.proofs.Common.{◌≡◌, ◌≢◌, ℕ, suc, ◌-◌, ◌≤◌, cond, pos, Bool, true, false, List, [], ◌∷◌, ◌++◌, length, Option, None, Some, refl, sym, ap, subst, ◌∙◌, append_assoc, arith, codes}
use Rattle.std.specs.Prelude.{slice_get, ◌+ℤ◌}
use Rattle.std.specs.List.{flat_map, AllByRecursion}
use Rattle.std.proofs.lemmas.List.{append-nil}
use Rattle.std.proofs.lemmas.Grind.{flat_map-append}
use Rattle.std.specs.Fmt.{decimal}
use Rattle.lua_num.specs.Bytes.{Text}
use Rattle.lua_num.specs.Numeral.{decimal_text}
use Rattle.opcode.specs.declared.word.Instr.{Instr}
use Rattle.proto.specs.declared.parts.Constant.{Constant}
use Rattle.proto.specs.declared.parts.LocVar.{LocVar}
use Rattle.proto.specs.Chunk.{Own, Chunk, function, Functions, no_functions, and_function, function_count}
use Rattle.lister.specs.Listing.{digits, line, spaced, quoted, constant_text, source_text, local_text, line_number, shown, is_block_next, op_name, Shape, shows_constant, shows_function, shows_jump, shows_two, shape_of, is_constant, field_text, fields_text, constants_shown, constant_or, constants_comment, comment, word_text, code_lines, numbered, counted_line, own_listing, function_listing, inner_listing, listing}
use Rattle.asm_text.specs.Lines.{Place, begin, name, source, defined, shape, count, word, constant, lines, local, upvalue_name, words_from, constants_from, locals_from, names_from, own_places, function_places, each_places, listed, bare_text, is_some_list, names_something, has_comment, IsWord, ShowsWord, Allowed, IsOneLine, together, Show}
use Rattle.asm_text.proofs.Places.{ShowsLine, shows_more, show_both}
use Rattle.asm_text.proofs.Plain.{Plain, OneLine, all_append, line_append, one_line, no_spaces, no_brackets, plain_byte, plain_decimal, some_name, line_signed, line_spaced, line_quoted, line_constant, line_source, line_local, literal, line_op}

-- a text is lines that show these places
pub record InLines (places : List Place) (text : Text) : Type 0 where
  pub texts : List Text
  pub is : text ≡ together texts
  pub shows : Show places texts

no_lines : InLines [] []
no_lines = record { texts = []; is = refl; shows = tt }

line_and : (p : Place) (t : Text) (ps : List Place) (rest : Text) → ShowsLine p t → InLines ps rest → InLines (p ∷ ps) (line t ++ rest)
line_and p t ps rest s more = record { texts = t ∷ more.texts; is = ap (λ (r : Text). line t ++ r) more.is; shows = shows_more p t ps more.texts s more.shows }

both : (ps qs : List Place) (a b : Text) → InLines ps a → InLines qs b → InLines (ps ++ qs) (a ++ b)
both ps qs a b s t = record {
  texts = s.texts ++ t.texts;
  is = (λ i. s.is i ++ t.is i) ∙ sym (flat_map-append line s.texts t.texts);
  shows = show_both ps qs s.texts t.texts s.shows t.shows;
}

pub all_first : (ps qs : List Place) → AllByRecursion Allowed (ps ++ qs) → AllByRecursion Allowed ps
all_first [] qs h = tt
all_first (p ∷ ps) qs h = (h.0, all_first ps qs h.1)

pub all_second : (ps qs : List Place) → AllByRecursion Allowed (ps ++ qs) → AllByRecursion Allowed qs
all_second [] qs h = h
all_second (p ∷ ps) qs h = all_second ps qs h.1

-- ---- the line of a word

bracket_plain : (o : Option ℕ) → Plain (line_number o)
bracket_plain None = (plain_byte 45 (omega arith) (omega arith), tt)
bracket_plain (Some n) = plain_decimal n

constant_or_line : (o : Option Constant) → OneLine (constant_or o)
constant_or_line None = (λ e. omega (arith, e), tt)
constant_or_line (Some c) = line_constant c

shown_line : (constants : List Constant) (ks : List ℕ) → OneLine (flat_map (λ k. 32 ∷ constant_or (slice_get constants k)) ks)
shown_line constants [] = tt
shown_line constants (k ∷ ks) = (λ e. omega (arith, e), line_append (constant_or (slice_get constants k)) (flat_map (λ k. 32 ∷ constant_or (slice_get constants k)) ks) (constant_or_line (slice_get constants k)) (shown_line constants ks))

-- a comment, or none where none is due
abbrev Commented : Bool → Text → Type 0
Commented false t = t ≡ []
Commented true t = (c : Text) × (t ≡ codes " ; " ++ c) × OneLine c

constants_commented : (constants : List Constant) (ks : List ℕ) → Commented (is_some_list ks) (constants_comment constants ks)
constants_commented constants [] = refl
constants_commented constants (k ∷ ks) =
    let first = constant_or (slice_get constants k) in
    let rest = flat_map (λ k. 32 ∷ constant_or (slice_get constants k)) ks in
    (first ++ rest, refl, line_append first rest (constant_or_line (slice_get constants k)) (shown_line constants ks))

commented : (constants : List Constant) (pc : ℕ) (s : Shape) (i : Instr) → Commented (names_something s i) (comment constants pc s i)
commented constants pc shows_jump i = let to = decimal_text (pos (suc pc) +ℤ i.sbx) in (codes "to " ++ to, refl, (λ e. omega (arith, e), (λ e. omega (arith, e), (λ e. omega (arith, e), line_signed (pos (suc pc) +ℤ i.sbx)))))
commented constants pc shows_constant i = constants_commented constants (constants_shown shows_constant i)
commented constants pc shows_function i = refl
commented constants pc (shows_two b c) i = constants_commented constants (constants_shown (shows_two b c) i)

field_line : (may_be : Bool) (n : ℕ) → OneLine (field_text may_be n)
field_line may_be n = by (is_constant may_be n) where
  by : (d : Bool) → OneLine (cond d (codes " k" ++ digits (n - 256)) (32 ∷ digits n))
  by true = (λ e. omega (arith, e), (λ e. omega (arith, e), one_line (decimal (n - 256)) (plain_decimal (n - 256))))
  by false = (λ e. omega (arith, e), one_line (decimal n) (plain_decimal n))

fields_line : (s : Shape) (i : Instr) → OneLine (fields_text s i)
fields_line shows_constant i = (λ e. omega (arith, e), (λ e. omega (arith, e), one_line (decimal i.bx) (plain_decimal i.bx)))
fields_line shows_function i = (λ e. omega (arith, e), (λ e. omega (arith, e), one_line (decimal i.bx) (plain_decimal i.bx)))
fields_line shows_jump i = (λ e. omega (arith, e), line_signed i.sbx)
fields_line (shows_two b c) i = line_append (field_text b i.b) (field_text c i.c) (field_line b i.b) (field_line c i.c)

bare_line : (w : ℕ) (o : Option Instr) → OneLine (bare_text w o)
bare_line w None = line_append (codes "WORD ") (decimal w) (literal (codes "WORD ") refl) (one_line (decimal w) (plain_decimal w))
bare_line w (Some i) = line_append (op_name i.op) ((32 ∷ digits i.a) ++ fields_text (shape_of i.op) i) (line_op i.op) ((λ e. omega (arith, e), line_append (decimal i.a) (fields_text (shape_of i.op) i) (one_line (decimal i.a) (plain_decimal i.a)) (fields_line (shape_of i.op) i)))

-- the text of a word is its bare text and the comment
split_word : (constants : List Constant) (pc w : ℕ) (o : Option Instr) → (rest : Text) × (word_text constants pc w o ≡ bare_text w o ++ rest) × Commented (has_comment o) rest
split_word constants pc w None = ([], sym (append-nil (bare_text w None)), refl)
split_word constants pc w (Some i) =
    let rest = comment constants pc (shape_of i.op) i in
    let fields = fields_text (shape_of i.op) i in (
      rest,
      append_assoc (op_name i.op) (32 ∷ digits i.a) (fields ++ rest) ∙ ap (λ (t : Text). op_name i.op ++ t) (sym (append_assoc (32 ∷ digits i.a) fields rest)) ∙ sym (append_assoc (op_name i.op) ((32 ∷ digits i.a) ++ fields) rest),
      commented constants pc (shape_of i.op) i,
    )

shows_word : (pc : ℕ) (bare rest bracket t : Text) (d : Bool) → Plain bracket → OneLine bare → t ≡ digits pc ++ (codes " [" ++ (bracket ++ (codes "] " ++ (bare ++ rest)))) → Commented d rest → IsOneLine t × ShowsWord pc bare d t
shows_word pc bare rest bracket t false plain one here c =
    let whole : t ≡ digits pc ++ (codes " [" ++ (bracket ++ (codes "] " ++ bare))) = here ∙ ap (λ (r : Text). digits pc ++ (codes " [" ++ (bracket ++ (codes "] " ++ (bare ++ r))))) c ∙ ap (λ (r : Text). digits pc ++ (codes " [" ++ (bracket ++ (codes "] " ++ r)))) (append-nil bare) in (
      subst IsOneLine (sym whole) (line_append (decimal pc) (codes " [" ++ (bracket ++ (codes "] " ++ bare))) (one_line (decimal pc) (plain_decimal pc)) (λ e. omega (arith, e), (λ e. omega (arith, e), line_append bracket (codes "] " ++ bare) (one_line bracket plain) (λ e. omega (arith, e), (λ e. omega (arith, e), one))))),
      (bracket, no_brackets bracket plain, whole),
    )
shows_word pc bare rest bracket t true plain one here c =
    let more = codes " ; " ++ c.0 in
    let more_line : OneLine more = (λ e. omega (arith, e), (λ e. omega (arith, e), (λ e. omega (arith, e), c.2))) in
    let whole : t ≡ digits pc ++ (codes " [" ++ (bracket ++ (codes "] " ++ (bare ++ more)))) = here ∙ ap (λ (r : Text). digits pc ++ (codes " [" ++ (bracket ++ (codes "] " ++ (bare ++ r))))) c.1 in (
      subst IsOneLine (sym whole) (line_append (decimal pc) (codes " [" ++ (bracket ++ (codes "] " ++ (bare ++ more)))) (one_line (decimal pc) (plain_decimal pc)) (λ e. omega (arith, e), (λ e. omega (arith, e), line_append bracket (codes "] " ++ (bare ++ more)) (one_line bracket plain) (λ e. omega (arith, e), (λ e. omega (arith, e), line_append bare more one more_line))))),
      (bracket, no_brackets bracket plain, (c.0, whole)),
    )

abbrev text_of_code : Own → Bool → ℕ → ℕ → Text
text_of_code f raw pc w = digits pc ++ (codes " [" ++ (line_number (slice_get f.lines pc) ++ (codes "] " ++ word_text f.constants pc w (shown raw w))))

word_shown : (f : Own) (raw : Bool) (pc w : ℕ) → Allowed (word raw pc w) → ShowsLine (word raw pc w) (text_of_code f raw pc w)
word_shown f raw pc w allowed =
    let bracket = line_number (slice_get f.lines pc) in
    let s = split_word f.constants pc w (shown raw w) in
    let here : text_of_code f raw pc w ≡ digits pc ++ (codes " [" ++ (bracket ++ (codes "] " ++ (bare_text w (shown raw w) ++ s.0)))) = ap (λ (r : Text). digits pc ++ (codes " [" ++ (bracket ++ (codes "] " ++ r)))) s.1 in
    let both = shows_word pc (bare_text w (shown raw w)) s.0 bracket (text_of_code f raw pc w) (has_comment (shown raw w)) (bracket_plain (slice_get f.lines pc)) (bare_line w (shown raw w)) here s.2 in
    record { one = both.0; allowed = allowed; shows = both.1 }

words_shown : (f : Own) (raw : Bool) (pc : ℕ) (ws : List ℕ) → AllByRecursion Allowed (words_from raw pc ws) → InLines (words_from raw pc ws) (code_lines f raw pc ws)
words_shown f raw pc [] h = no_lines
words_shown f raw pc (w ∷ ws) h =
    line_and (word raw pc w) (text_of_code f raw pc w) (words_from (is_block_next (shown raw w)) (suc pc) ws) (code_lines f (is_block_next (shown raw w)) (suc pc) ws) (word_shown f raw pc w h.0) (words_shown f (is_block_next (shown raw w)) (suc pc) ws h.1)

-- ---- items

item_line : (n : ℕ) (t : Text) → OneLine t → OneLine (digits n ++ (32 ∷ t))
item_line n t h = line_append (decimal n) (32 ∷ t) (one_line (decimal n) (plain_decimal n)) (λ e. omega (arith, e), h)

constants_shown_in : (n : ℕ) (cs : List Constant) → AllByRecursion Allowed (constants_from n cs) → InLines (constants_from n cs) (numbered constant_text n cs)
constants_shown_in n [] h = no_lines
constants_shown_in n (c ∷ cs) h = line_and (constant n c) (digits n ++ (32 ∷ constant_text c)) (constants_from (suc n) cs) (numbered constant_text (suc n) cs) (record { one = item_line n (constant_text c) (line_constant c); allowed = h.0; shows = refl }) (constants_shown_in (suc n) cs h.1)

locals_shown : (n : ℕ) (vs : List LocVar) → AllByRecursion Allowed (locals_from n vs) → InLines (locals_from n vs) (numbered local_text n vs)
locals_shown n [] h = no_lines
locals_shown n (v ∷ vs) h = line_and (local n v) (digits n ++ (32 ∷ local_text v)) (locals_from (suc n) vs) (numbered local_text (suc n) vs) (record { one = item_line n (local_text v) (line_local v); allowed = h.0; shows = refl }) (locals_shown (suc n) vs h.1)

names_shown : (n : ℕ) (ts : List Text) → AllByRecursion Allowed (names_from n ts) → InLines (names_from n ts) (numbered quoted n ts)
names_shown n [] h = no_lines
names_shown n (t ∷ ts) h = line_and (upvalue_name n t) (digits n ++ (32 ∷ quoted t)) (names_from (suc n) ts) (numbered quoted (suc n) ts) (record { one = item_line n (quoted t) (line_quoted t); allowed = h.0; shows = refl }) (names_shown (suc n) ts h.1)

count_shown : (what : Text) (n : ℕ) (ps : List Place) (rest : Text) → OneLine what → Allowed (count what n) → InLines ps rest → InLines (count what n ∷ ps) (counted_line what n ++ rest)
count_shown what n ps rest h allowed more =
    line_and (count what n) (what ++ (32 ∷ digits n)) ps rest (record { one = line_append what (32 ∷ digits n) h (λ e. omega (arith, e), one_line (decimal n) (plain_decimal n)); allowed = allowed; shows = refl }) more

-- ---- functions

pub record IsName (text : Text) : Type 0 where
  pub is_word : IsWord text
  pub one : OneLine text

front_line : (front t : Text) → OneLine front → OneLine t → OneLine (front ++ t)
front_line front t h g = line_append front t h g

own_shown : (title : Text) (f : Own) (functions : ℕ) → IsName title → AllByRecursion Allowed (own_places f functions) → InLines (own_places f functions) (own_listing title f functions)
own_shown title f functions named h =
    let behind_words = h.1.1.1.1.1 in
    let words = all_first (words_from false 0 f.code) _ behind_words in
    let from_constants = all_second (words_from false 0 f.code) _ behind_words in
    let constants = all_first (constants_from 0 f.constants) _ from_constants.1 in
    let from_functions = all_second (constants_from 0 f.constants) _ from_constants.1 in
    let from_locals = from_functions.1.1 in
    let locals = all_first (locals_from 0 f.locals) _ from_locals.1 in
    let from_names = all_second (locals_from 0 f.locals) _ from_locals.1 in
    line_and name (codes "function " ++ title) _ _ (record { one = front_line (codes "function ") title (literal (codes "function ") refl) named.one; allowed = tt; shows = (title, named.is_word, refl) })
    (line_and (source f.source) (codes "source " ++ source_text f.source) _ _ (record { one = front_line (codes "source ") (source_text f.source) (literal (codes "source ") refl) (line_source f.source); allowed = h.1.0; shows = refl })
    (line_and (defined f.line_defined f.last_line) (codes "defined" ++ spaced (f.line_defined ∷ f.last_line ∷ [])) _ _ (record { one = front_line (codes "defined") (spaced (f.line_defined ∷ f.last_line ∷ [])) (literal (codes "defined") refl) (line_spaced (f.line_defined ∷ f.last_line ∷ [])); allowed = h.1.1.0; shows = refl })
    (line_and (shape f.upvalues f.params f.flags f.registers) (codes "shape" ++ spaced (f.upvalues ∷ f.params ∷ f.flags ∷ f.registers ∷ [])) _ _ (record { one = front_line (codes "shape") (spaced (f.upvalues ∷ f.params ∷ f.flags ∷ f.registers ∷ [])) (literal (codes "shape") refl) (line_spaced (f.upvalues ∷ f.params ∷ f.flags ∷ f.registers ∷ [])); allowed = h.1.1.1.0; shows = refl })
    (count_shown (codes "code") (length f.code) _ _ (literal (codes "code") refl) h.1.1.1.1.0
    (both (words_from false 0 f.code) _ (code_lines f false 0 f.code) _ (words_shown f false 0 f.code words)
    (count_shown (codes "constants") (length f.constants) _ _ (literal (codes "constants") refl) from_constants.0
    (both (constants_from 0 f.constants) _ (numbered constant_text 0 f.constants) _ (constants_shown_in 0 f.constants constants)
    (count_shown (codes "functions") functions _ _ (literal (codes "functions") refl) from_functions.0
    (line_and (lines f.lines) (codes "lines " ++ (digits (length f.lines) ++ (58 ∷ spaced f.lines))) _ _ (record { one = front_line (codes "lines ") (digits (length f.lines) ++ (58 ∷ spaced f.lines)) (literal (codes "lines ") refl) (line_append (decimal (length f.lines)) (58 ∷ spaced f.lines) (one_line (decimal (length f.lines)) (plain_decimal (length f.lines))) (λ e. omega (arith, e), line_spaced f.lines)); allowed = from_functions.1.0; shows = refl })
    (count_shown (codes "locals") (length f.locals) _ _ (literal (codes "locals") refl) from_locals.0
    (both (locals_from 0 f.locals) _ (numbered local_text 0 f.locals) _ (locals_shown 0 f.locals locals)
    (count_shown (codes "names") (length f.upvalue_names) (names_from 0 f.upvalue_names) (numbered quoted 0 f.upvalue_names) (literal (codes "names") refl) from_names.0 (names_shown 0 f.upvalue_names from_names.1)))))))))))))

-- what stands in front of the numbers of the functions in one
record IsFront (before : Text) : Type 0 where
  no_space : AllByRecursion (λ byte. byte ≢ 32) before
  one : OneLine before

inner_name : (before : Text) (n : ℕ) → IsFront before → IsName (before ++ digits n)
inner_name before n h = record {
  is_word = (some_name before n, all_append (λ byte. byte ≢ 32) before (decimal n) h.no_space (no_spaces (decimal n) (plain_decimal n)));
  one = line_append before (decimal n) h.one (one_line (decimal n) (plain_decimal n));
}

inner_front : (title : Text) → IsName title → IsFront (title ++ 46 ∷ [])
inner_front title h = record {
  no_space = all_append (λ byte. byte ≢ 32) title (46 ∷ []) h.is_word.1 (λ e. omega (arith, e), tt);
  one = line_append title (46 ∷ []) h.one (λ e. omega (arith, e), tt);
}

begun_lines : (nesting : ℕ) (ps : List Place) (text : Text) → nesting ≤ 200 → InLines ps text → InLines (begin nesting ∷ ps) text
begun_lines nesting ps text le s = record { texts = s.texts; is = s.is; shows = (le, s.shows) }

mutual
  function_shown : (title before : Text) (nesting : ℕ) (c : Chunk) → IsName title → IsFront before → AllByRecursion Allowed (function_places nesting c) → InLines (function_places nesting c) (function_listing title before c)
  function_shown title before nesting (function f inner) named front h =
      let own = all_first (own_places f (function_count inner)) (each_places (suc nesting) inner) h.1 in
      let rest = all_second (own_places f (function_count inner)) (each_places (suc nesting) inner) h.1 in
      begun_lines nesting _ _ h.0
      (both (own_places f (function_count inner)) (each_places (suc nesting) inner) (own_listing title f (function_count inner)) (inner_listing before 0 inner) (own_shown title f (function_count inner) named own) (inner_shown before 0 (suc nesting) inner front rest))

  inner_shown : (before : Text) (n nesting : ℕ) (fs : Functions) → IsFront before → AllByRecursion Allowed (each_places nesting fs) → InLines (each_places nesting fs) (inner_listing before n fs)
  inner_shown before n nesting no_functions front h = no_lines
  inner_shown before n nesting (and_function c rest) front h =
      let named = inner_name before n front in
      both (function_places nesting c) (each_places nesting rest) _ _
      (function_shown (before ++ digits n) ((before ++ digits n) ++ 46 ∷ []) nesting c named (inner_front (before ++ digits n) named) (all_first (function_places nesting c) (each_places nesting rest) h))
      (inner_shown before (suc n) nesting rest front (all_second (function_places nesting c) (each_places nesting rest) h))

main_name : IsName (codes "main")
main_name = record { is_word = (λ e. cc, (λ e. omega (arith, e), (λ e. omega (arith, e), (λ e. omega (arith, e), (λ e. omega (arith, e), tt))))); one = literal (codes "main") refl }

pub listing_shown : (c : Chunk) → AllByRecursion Allowed (listed c) → InLines (listed c) (listing c)
listing_shown c h = function_shown (codes "main") [] 1 c main_name (record { no_space = tt; one = tt }) h
