-- The lines of a chunk that some bytes spell are allowed, and a chunk with such lines is spelled by some bytes.
use Rattle.std.proofs.Common.{◌≡◌, ℕ, suc, ◌+◌, ◌<◌, ◌≤◌, Bool, true, false, cond, eqb, ◌||◌, List, [], ◌∷◌, ◌++◌, length, Option, None, Some, refl, ap, subst, arith, codes}
use Rattle.std.specs.Int.{w32, w64, to_le_bytes, cast_unsigned}
use Rattle.std.specs.List.{flat_map, AllByRecursion}
use Rattle.std.proofs.lemmas.List.{length-append}
use Rattle.lua_num.specs.Bytes.{Text}
use Rattle.proto.specs.declared.parts.Constant.{Constant}
use Rattle.proto.specs.declared.parts.LocVar.{LocVar}
use Rattle.proto.specs.Chunk.{Own, Chunk, function, Functions, no_functions, and_function, function_count}
use Rattle.lister.specs.Listing.{digits, line, spaced, quoted_byte, quoted, three_digits, local_text, shown, is_block_next}
use Rattle.chunk_io.specs.declared.layout.Layout.{Layout}
use Rattle.chunk_io.specs.Items.{Item, shape as shapes, int, instruction, end as ends, flag, bytes_of, Allowed as AllowedItem, header, string_items, source_items, constant_items, local_items, counted, shape_items, front_items, debug_items, function_items, each_items, items, spelling, IsChunkOf, le8}
use Rattle.asm_text.specs.Lines.{Place, begin, source, constant, local, upvalue_name, words_from, constants_from, locals_from, names_from, own_places, function_places, each_places, listed, Shows, AreBytes, Allowed, together, Show}
use Rattle.asm_text.proofs.Whole.{AreLines}

abbrev GoodItem : Item → Type 0
GoodItem i = AllowedItem i × AreBytes (bytes_of i)

abbrev Good : List Item → Type 0
Good is = AllByRecursion GoodItem is

good_both : (xs ys : List Item) → Good xs → Good ys → Good (xs ++ ys)
good_both [] ys a b = b
good_both (x ∷ xs) ys a b = (a.0, good_both xs ys a.1 b)

good_first : (xs ys : List Item) → Good (xs ++ ys) → Good xs
good_first [] ys a = tt
good_first (x ∷ xs) ys a = (a.0, good_first xs ys a.1)

good_second : (xs ys : List Item) → Good (xs ++ ys) → Good ys
good_second [] ys a = a
good_second (x ∷ xs) ys a = good_second xs ys a.1

abbrev AllAllowed : List Place → Type 0
AllAllowed ps = AllByRecursion Allowed ps

all_both : (ps qs : List Place) → AllAllowed ps → AllAllowed qs → AllAllowed (ps ++ qs)
all_both [] qs a b = b
all_both (p ∷ ps) qs a b = (a.0, all_both ps qs a.1 b)

-- ---- from items to places

module _ (l : Layout) where
  source_allowed : (s : Option Text) → Good (source_items l s) → Allowed (source s)
  source_allowed None h = tt
  source_allowed (Some t) h = h.1.0.1

  lines_allowed : (ns : List ℕ) → Good (flat_map (λ n. int l n ∷ []) ns) → AllByRecursion (λ n. n < 2147483648) ns
  lines_allowed [] h = tt
  lines_allowed (n ∷ ns) h = (h.0.0, lines_allowed ns h.1)

  words_allowed : (raw : Bool) (pc : ℕ) (ws : List ℕ) → Good (flat_map (λ w. instruction l w ∷ []) ws) → AllAllowed (words_from raw pc ws)
  words_allowed raw pc [] h = tt
  words_allowed raw pc (w ∷ ws) h = (h.0.0, words_allowed (is_block_next (shown raw w)) (suc pc) ws h.1)

  constant_allowed : (n : ℕ) (c : Constant) → Good (constant_items l c) → Allowed (constant n c)
  constant_allowed n Constant.Nil h = tt
  constant_allowed n (Constant.Bool b) h = tt
  constant_allowed n (Constant.Number z) h = h.1.0.0
  constant_allowed n (Constant.Text t) h = h.1.1.0.1

  constants_allowed : (n : ℕ) (cs : List Constant) → Good (flat_map (constant_items l) cs) → AllAllowed (constants_from n cs)
  constants_allowed n [] h = tt
  constants_allowed n (c ∷ cs) h = (constant_allowed n c (good_first (constant_items l c) (flat_map (constant_items l) cs) h), constants_allowed (suc n) cs (good_second (constant_items l c) (flat_map (constant_items l) cs) h))

  locals_allowed : (n : ℕ) (vs : List LocVar) → Good (flat_map (local_items l) vs) → AllAllowed (locals_from n vs)
  locals_allowed n [] h = tt
  locals_allowed n (v ∷ vs) h = ((h.1.0.1, h.1.1.1.0.0, h.1.1.1.1.0.0), locals_allowed (suc n) vs h.1.1.1.1.1)

  names_allowed : (n : ℕ) (ts : List Text) → Good (flat_map (string_items l) ts) → AllAllowed (names_from n ts)
  names_allowed n [] h = tt
  names_allowed n (t ∷ ts) h = (h.1.0.1, names_allowed (suc n) ts h.1.1.1)

  own_allowed : (f : Own) (functions : ℕ) → Good (front_items l f) → Good (counted l (λ w. instruction l w ∷ []) f.code) → Good (counted l (constant_items l) f.constants) → functions < 2147483648 → Good (debug_items l f) → AllAllowed (own_places f functions)
  own_allowed f functions front code constants few debug =
      let ints = good_second (source_items l f.source) (int l f.line_defined ∷ int l f.last_line ∷ shape_items f) front in
      let lined = good_first (counted l (λ n. int l n ∷ []) f.lines) (counted l (local_items l) f.locals ++ counted l (string_items l) f.upvalue_names) debug in
      let rest = good_second (counted l (λ n. int l n ∷ []) f.lines) (counted l (local_items l) f.locals ++ counted l (string_items l) f.upvalue_names) debug in
      let locals = good_first (counted l (local_items l) f.locals) (counted l (string_items l) f.upvalue_names) rest in
      let names = good_second (counted l (local_items l) f.locals) (counted l (string_items l) f.upvalue_names) rest in (
        tt,
        (
          source_allowed f.source (good_first (source_items l f.source) (int l f.line_defined ∷ int l f.last_line ∷ shape_items f) front),
          (
            (ints.0.0, ints.1.0.0),
            (
              (ints.1.1.0.0, ints.1.1.1.0.0, ints.1.1.1.1.0.0, ints.1.1.1.1.1.0.0),
              (
                code.0.0,
                all_both (words_from false 0 f.code) _ (words_allowed false 0 f.code code.1) (
                  constants.0.0,
                  all_both (constants_from 0 f.constants) _ (constants_allowed 0 f.constants constants.1) (
                    few,
                    (
                      (lined.0.0, lines_allowed f.lines lined.1),
                      (
                        locals.0.0,
                        all_both (locals_from 0 f.locals) _ (locals_allowed 0 f.locals locals.1)
                            (names.0.0, names_allowed 0 f.upvalue_names names.1),
                      ),
                    ),
                  ),
                ),
              ),
            ),
          ),
        ),
      )

  mutual
    function_allowed : (nesting : ℕ) (c : Chunk) → Good (function_items l nesting c) → AllAllowed (function_places nesting c)
    function_allowed nesting (function f inner) h =
        let code = counted l (λ w. instruction l w ∷ []) f.code in
        let constants = counted l (constant_items l) f.constants in
        let behind_front = good_second (front_items l f) _ h.1 in
        let behind_code = good_second code _ behind_front in
        let behind_constants = good_second constants _ behind_code in
        let inside = good_first (each_items l (suc nesting) inner) (debug_items l f) behind_constants.1 in
        let debug = good_second (each_items l (suc nesting) inner) (debug_items l f) behind_constants.1 in (
          h.0.0,
          all_both (own_places f (function_count inner)) (each_places (suc nesting) inner)
              (own_allowed f (function_count inner) (good_first (front_items l f) _ h.1) (good_first code _ behind_front) (good_first constants _ behind_code) behind_constants.0.0 debug)
              (each_allowed (suc nesting) inner inside),
        )

    each_allowed : (nesting : ℕ) (fs : Functions) → Good (each_items l nesting fs) → AllAllowed (each_places nesting fs)
    each_allowed nesting no_functions h = tt
    each_allowed nesting (and_function c rest) h =
        all_both (function_places nesting c) (each_places nesting rest) (function_allowed nesting c (good_first (function_items l nesting c) (each_items l nesting rest) h)) (each_allowed nesting rest (good_second (function_items l nesting c) (each_items l nesting rest) h))

bytes_first : (xs ys : Text) → AreBytes (xs ++ ys) → AreBytes xs × AreBytes ys
bytes_first [] ys h = (tt, h)
bytes_first (x ∷ xs) ys h = let r = bytes_first xs ys h.1 in ((h.0, r.0), r.1)

good_items : (is : List Item) → AllByRecursion AllowedItem is → AreBytes (spelling is) → Good is
good_items [] a b = tt
good_items (i ∷ is) a b = let r = bytes_first (bytes_of i) (spelling is) b in ((a.0, r.0), good_items is a.1 r.1)

-- the lines of a chunk that some bytes spell
pub spelled_allowed : (bytes : List ℕ) (c : Chunk) → AreBytes bytes → IsChunkOf bytes c → AllByRecursion Allowed (listed c)
spelled_allowed bytes c are (l, s) =
    let good = good_items (items l c) s.fits (subst AreBytes s.is are) in
    let body = good_second (header l) (function_items l 1 c ++ ends ∷ []) good in
    function_allowed l 1 c (good_first (function_items l 1 c) (ends ∷ []) body)

-- ---- from places to items

-- a text whose size can be written
abbrev SizeFits : Text → Type 0
SizeFits t = suc (length t) < 18446744073709551616

abbrev Short : Place → Type 0
Short (source (Some t)) = SizeFits t
Short (constant n (Constant.Text t)) = SizeFits t
Short (local n v) = SizeFits v.name
Short (upvalue_name n t) = SizeFits t
Short p = Unit {0}

abbrev Fine : Place → Type 0
Fine p = Allowed p × Short p

abbrev AllFine : List Place → Type 0
AllFine ps = AllByRecursion Fine ps

fine_first : (ps qs : List Place) → AllFine (ps ++ qs) → AllFine ps
fine_first [] qs h = tt
fine_first (p ∷ ps) qs h = (h.0, fine_first ps qs h.1)

fine_second : (ps qs : List Place) → AllFine (ps ++ qs) → AllFine qs
fine_second [] qs h = h
fine_second (p ∷ ps) qs h = fine_second ps qs h.1

four_bytes : (n : ℕ) → AreBytes (to_le_bytes w32 n)
four_bytes n = (omega arith, (omega arith, (omega arith, (omega arith, tt))))

eight_bytes : (n : ℕ) → AreBytes (to_le_bytes w64 n)
eight_bytes n = (omega arith, (omega arith, (omega arith, (omega arith, (omega arith, (omega arith, (omega arith, (omega arith, tt))))))))

int_good : (n : ℕ) → n < 2147483648 → GoodItem (int le8 n)
int_good n h = (h, four_bytes n)

string_good : (t : Text) → AreBytes t → SizeFits t → Good (string_items le8 t)
string_good t h s = ((s, eight_bytes (suc (length t))), ((tt, h), ((tt, (omega arith, tt)), tt)))

source_good : (s : Option Text) → Fine (source s) → Good (source_items le8 s)
source_good None h = ((omega arith, eight_bytes 0), tt)
source_good (Some t) h = ((h.1, eight_bytes (suc (length t))), ((tt, h.0), ((tt, (omega arith, tt)), tt)))

lines_good : (ns : List ℕ) → AllByRecursion (λ n. n < 2147483648) ns → Good (flat_map (λ n. int le8 n ∷ []) ns)
lines_good [] h = tt
lines_good (n ∷ ns) h = (int_good n h.0, lines_good ns h.1)

words_good : (raw : Bool) (pc : ℕ) (ws : List ℕ) → AllFine (words_from raw pc ws) → Good (flat_map (λ w. instruction le8 w ∷ []) ws)
words_good raw pc [] h = tt
words_good raw pc (w ∷ ws) h = ((h.0.0, four_bytes w), words_good (is_block_next (shown raw w)) (suc pc) ws h.1)

flag_good : (b : Bool) → GoodItem (flag b)
flag_good true = (tt, (omega arith, tt))
flag_good false = (tt, (omega arith, tt))

constant_good : (n : ℕ) (c : Constant) → Fine (constant n c) → Good (constant_items le8 c)
constant_good n Constant.Nil h = ((tt, (omega arith, tt)), tt)
constant_good n (Constant.Bool b) h = ((tt, (omega arith, tt)), (flag_good b, tt))
constant_good n (Constant.Number z) h = ((tt, (omega arith, tt)), ((h.0, eight_bytes (cast_unsigned w64 z)), tt))
constant_good n (Constant.Text t) h = ((tt, (omega arith, tt)), string_good t h.0 h.1)

constants_good : (n : ℕ) (cs : List Constant) → AllFine (constants_from n cs) → Good (flat_map (constant_items le8) cs)
constants_good n [] h = tt
constants_good n (c ∷ cs) h = good_both (constant_items le8 c) (flat_map (constant_items le8) cs) (constant_good n c h.0) (constants_good (suc n) cs h.1)

local_good : (n : ℕ) (v : LocVar) → Fine (local n v) → Good (local_items le8 v)
local_good n v h = good_both (string_items le8 v.name) (int le8 v.start ∷ int le8 v.end ∷ []) (string_good v.name h.0.0 h.1) (int_good v.start h.0.1, (int_good v.end h.0.2, tt))

locals_good : (n : ℕ) (vs : List LocVar) → AllFine (locals_from n vs) → Good (flat_map (local_items le8) vs)
locals_good n [] h = tt
locals_good n (v ∷ vs) h = good_both (local_items le8 v) (flat_map (local_items le8) vs) (local_good n v h.0) (locals_good (suc n) vs h.1)

names_good : (n : ℕ) (ts : List Text) → AllFine (names_from n ts) → Good (flat_map (string_items le8) ts)
names_good n [] h = tt
names_good n (t ∷ ts) h = good_both (string_items le8 t) (flat_map (string_items le8) ts) (string_good t h.0.0 h.0.1) (names_good (suc n) ts h.1)

byte_good : (n : ℕ) → n < 256 → GoodItem (shapes n)
byte_good n h = (h, (h, tt))

-- the parts of a function's own items
record OwnGood (f : Own) (functions : ℕ) : Type 0 where
  front : Good (front_items le8 f)
  code : Good (counted le8 (λ w. instruction le8 w ∷ []) f.code)
  constants : Good (counted le8 (constant_items le8) f.constants)
  few : functions < 2147483648
  debug : Good (debug_items le8 f)

own_good : (f : Own) (functions : ℕ) → AllFine (own_places f functions) → OwnGood f functions
own_good f functions h =
    let d = h.1.1.0.0 in
    let s = h.1.1.1.0.0 in
    let behind_words = h.1.1.1.1.1 in
    let words = fine_first (words_from false 0 f.code) _ behind_words in
    let from_constants = fine_second (words_from false 0 f.code) _ behind_words in
    let constants = fine_first (constants_from 0 f.constants) _ from_constants.1 in
    let from_functions = fine_second (constants_from 0 f.constants) _ from_constants.1 in
    let lined = from_functions.1.0.0 in
    let from_locals = from_functions.1.1 in
    let locals = fine_first (locals_from 0 f.locals) _ from_locals.1 in
    let from_names = fine_second (locals_from 0 f.locals) _ from_locals.1 in
    record {
      front = good_both (source_items le8 f.source) (int le8 f.line_defined ∷ int le8 f.last_line ∷ shape_items f) (source_good f.source h.1.0) (int_good f.line_defined d.0, (int_good f.last_line d.1, (byte_good f.upvalues s.0, (byte_good f.params s.1, (byte_good f.flags s.2, (byte_good f.registers s.3, tt))))));
      code = (int_good (length f.code) h.1.1.1.1.0.0, words_good false 0 f.code words);
      constants = (int_good (length f.constants) from_constants.0.0, constants_good 0 f.constants constants);
      few = from_functions.0.0;
      debug = good_both (counted le8 (λ n. int le8 n ∷ []) f.lines) (counted le8 (local_items le8) f.locals ++ counted le8 (string_items le8) f.upvalue_names)
          (int_good (length f.lines) lined.0, lines_good f.lines lined.1)
          (good_both (counted le8 (local_items le8) f.locals) (counted le8 (string_items le8) f.upvalue_names) (int_good (length f.locals) from_locals.0.0, locals_good 0 f.locals locals) (int_good (length f.upvalue_names) from_names.0.0, names_good 0 f.upvalue_names from_names.1));
    }

mutual
  function_good : (nesting : ℕ) (c : Chunk) → AllFine (function_places nesting c) → Good (function_items le8 nesting c)
  function_good nesting (function f inner) h =
      let o = own_good f (function_count inner) (fine_first (own_places f (function_count inner)) (each_places (suc nesting) inner) h.1) in
      let rest = each_good (suc nesting) inner (fine_second (own_places f (function_count inner)) (each_places (suc nesting) inner) h.1) in (
        (h.0.0, tt),
        good_both (front_items le8 f) _ o.front
            (good_both (counted le8 (λ w. instruction le8 w ∷ []) f.code) _ o.code
            (good_both (counted le8 (constant_items le8) f.constants) _ o.constants
            (int_good (function_count inner) o.few, good_both (each_items le8 (suc nesting) inner) (debug_items le8 f) rest o.debug))),
      )

  each_good : (nesting : ℕ) (fs : Functions) → AllFine (each_places nesting fs) → Good (each_items le8 nesting fs)
  each_good nesting no_functions h = tt
  each_good nesting (and_function c rest) h =
      good_both (function_items le8 nesting c) (each_items le8 nesting rest) (function_good nesting c (fine_first (function_places nesting c) (each_places nesting rest) h)) (each_good nesting rest (fine_second (function_places nesting c) (each_places nesting rest) h))

-- ---- texts are shorter than the lines in which they stand

some_either : (d : Bool) (xs ys : Text) → 0 < length xs → 0 < length ys → 0 < length (cond d xs ys)
some_either true xs ys h g = h
some_either false xs ys h g = g

some_byte : (b : ℕ) → 0 < length (quoted_byte b)
some_byte b = some_either ((eqb b 34) || (eqb b 92)) (92 ∷ b ∷ []) _ (omega arith) (some_either (eqb b 10) (codes "\\n") _ (omega arith) (some_either _ (92 ∷ three_digits b) (b ∷ []) (omega arith) (omega arith)))

inside_long : (t : Text) → length t ≤ length (flat_map quoted_byte t)
inside_long [] = omega arith
inside_long (b ∷ t) = omega (arith, length-append (quoted_byte b) (flat_map quoted_byte t), some_byte b, inside_long t)

quoted_long : (t : Text) → suc (length t) < length (quoted t)
quoted_long t = omega (arith, length-append (flat_map quoted_byte t) (34 ∷ []), inside_long t)

behind_long : (front t : Text) → length t ≤ length (front ++ t)
behind_long front t = omega (arith, length-append front t)

before_long : (t rest : Text) → length t ≤ length (t ++ rest)
before_long t rest = omega (arith, length-append t rest)

short_in : (t front line_text : Text) → line_text ≡ front ++ quoted t → length line_text < 18446744073709551616 → SizeFits t
short_in t front line_text e h =
    let long : length line_text ≡ length (front ++ quoted t) = ap (λ (x : Text). length x) e in
    omega (arith, long, quoted_long t, behind_long front (quoted t), h)

short_place : (p : Place) (t : Text) → Shows p t → length t < 18446744073709551616 → Short p
short_place (source (Some q)) t s h = short_in q (codes "source ") t s h
short_place (constant n (Constant.Text q)) t s h = omega (arith, ap (λ (x : Text). length x) s, behind_long (digits n) (32 ∷ quoted q), quoted_long q, h)
short_place (local n v) t s h =
    omega (arith, ap (λ (x : Text). length x) s, behind_long (digits n) (32 ∷ local_text v), before_long (quoted v.name) (spaced (v.start ∷ v.end ∷ [])), quoted_long v.name, h)
short_place (upvalue_name n q) t s h = omega (arith, ap (λ (x : Text). length x) s, behind_long (digits n) (32 ∷ quoted q), quoted_long q, h)
short_place p t s h = tt

then_fine : (p : Place) (ps : List Place) (ts : List Text) → ((us : List Text) → Show ps us → length (together us) < 18446744073709551616 → AllFine ps) → Show (p ∷ ps) ts → length (together ts) < 18446744073709551616 → AllFine (p ∷ ps)
then_fine (begin n) ps ts go h small = ((h.0, tt), go ts h.1 small)
then_fine p ps [] go h small = absurd h
then_fine p ps (t ∷ ts) go h small =
    let both : length (together (t ∷ ts)) ≡ length (line t) + length (together ts) = length-append (line t) (together ts) in
    let one : length (line t) ≡ length t + 1 = length-append t (10 ∷ []) in
    ((h.1, short_place p t h.2 (omega (arith, both, one, small))), go ts h.3 (omega (arith, both, small)))

all_fine : (ps : List Place) (ts : List Text) → Show ps ts → length (together ts) < 18446744073709551616 → AllFine ps
all_fine [] ts h small = tt
all_fine (p ∷ ps) ts h small = then_fine p ps ts (λ us k s. all_fine ps us k s) h small

only_allowed : (ps : List Place) → AllFine ps → AllByRecursion Allowed ps
only_allowed [] h = tt
only_allowed (p ∷ ps) h = (h.0.0, only_allowed ps h.1)

bytes_both : (xs ys : Text) → AreBytes xs → AreBytes ys → AreBytes (xs ++ ys)
bytes_both [] ys a b = b
bytes_both (x ∷ xs) ys a b = (a.0, bytes_both xs ys a.1 b)

allowed_items : (is : List Item) → Good is → AllByRecursion AllowedItem is
allowed_items [] h = tt
allowed_items (i ∷ is) h = (h.0.0, allowed_items is h.1)

spelled_bytes : (is : List Item) → Good is → AreBytes (spelling is)
spelled_bytes [] h = tt
spelled_bytes (i ∷ is) h = bytes_both (bytes_of i) (spelling is) h.0.1 (spelled_bytes is h.1)

header_good : Good (header le8)
header_good = search arith

pub lines_allowed_in : (bytes : List ℕ) (c : Chunk) → length bytes < 18446744073709551616 → AreLines bytes c → AllByRecursion Allowed (listed c)
lines_allowed_in bytes c small s = only_allowed (listed c) (all_fine (listed c) s.given s.shown (subst (λ (b : List ℕ). length b < 18446744073709551616) s.here small))

-- a chunk whose lines these are is spelled by some bytes
pub lines_spelled : (bytes : List ℕ) (c : Chunk) → length bytes < 18446744073709551616 → AreLines bytes c → (spelled : List ℕ) × AreBytes spelled × IsChunkOf spelled c
lines_spelled bytes c small s =
    let fine = all_fine (listed c) s.given s.shown (subst (λ (b : List ℕ). length b < 18446744073709551616) s.here small) in
    let good = good_both (header le8) (function_items le8 1 c ++ ends ∷ []) header_good (good_both (function_items le8 1 c) (ends ∷ []) (function_good 1 c fine) ((tt, tt), tt)) in
    (spelling (items le8 c), spelled_bytes (items le8 c) good, (le8, record { fits = allowed_items (items le8 c) good; is = refl }))
