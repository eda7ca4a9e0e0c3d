-- Serves the bodies. Reading a listing line by line, with the first line that is missed. A place is how many bytes are left there.
use Rattle.std.specs.Prelude.{◌≡◌, ℕ, zero, suc, ◌+◌, ◌-◌, ◌*◌, ◌==◌, ◌||◌, ◌&&◌, not, nat_lt, Bool, true, false, List, [], ◌∷◌, length, take, Result, Ok, Err, Option, Some, None, option_map, ℤ, pos, neg_ℤ, codes, if◌then◌else◌}
use Rattle.std.specs.Str.{bytes_eq}
use Rattle.lua_num.specs.Bytes.{Text, is_digit, is_within}
use Rattle.opcode.specs.declared.op.Op.{Op}
use Rattle.opcode.specs.declared.word.Instr.{Instr}
use Rattle.opcode.specs.Word.{word_of}
use Rattle.opcode.specs.Reading.{opcodes}
use Rattle.proto.specs.declared.parts.Constant.{Constant}
use Rattle.proto.specs.declared.parts.LocVar.{LocVar}
use Rattle.proto.specs.Chunk.{Own, Chunk, function, functions_of}
use Rattle.lister.specs.Listing.{digits, shown, is_block_next, op_name, shape_of, Shape as Shape', shows_constant, shows_function, shows_jump, shows_two}
use Rattle.asm_text.specs.Lines.{names_something}
use Rattle.asm_text.specs.declared.front.Front.{Front}
use Rattle.asm_text.specs.declared.shape.Shape.{Shape}
use Rattle.asm_text.specs.declared.quoted.Spot.{Spot}
use Rattle.asm_text.specs.declared.quoted.Step.{Step}
use Rattle.asm_text.specs.declared.fault.ListFault.{ListFault}
use Rattle.asm_text.specs.declared.fault.ListFault.TheVariants as faults
use Rattle.asm_text.specs.declared.miss.Miss.{Miss}
use Rattle.asm_text.specs.declared.miss.ReadError.{ReadError}
use Rattle.asm_text.specs.declared.miss.ReadError.TheVariants as errors
use Rattle.asm_text.specs.declared.miss.Unread.{Unread}
use Rattle.asm_text.specs.declared.miss.Unread.TheVariants as unreads

-- the same of the line, with so many bytes left where it begins
abbrev pub missed_at : Unread → (left : ℕ) → ReadError
missed_at unreads.Memory left = errors.Memory
missed_at unreads.BadForm left = errors.Miss (Miss.BadLine left)

-- ---- in one line

-- the value at the front of a text, and what is left
abbrev pub Cut : Type 0 → Type 0
Cut A = Text → Option (A × Text)

infixl 10 ◌&>=◌
abbrev pub ◌&>=◌ : {A B : Type 0} → Option A → (A → Option B) → Option B
(Some x) &>= f = f x
None &>= f = None

-- What a function returned, seen by view, is what cutting gives, unless memory ran out.
abbrev pub Refuses : {Y : Type 0} → Unread → Option Y → Type 0
Refuses unreads.Memory cut = Unit {0}
Refuses unreads.BadForm cut = cut ≡ None

abbrev pub Cuts : {X Y : Type 0} → (X → Y) → Result X Unread → Option Y → Type 0
Cuts view (Ok x) cut = cut ≡ Some (view x)
Cuts view (Err e) cut = Refuses e cut

abbrev pub then_cut : {A B : Type 0} → Cut A → (A → Cut B) → Cut (A × B)
then_cut first second text = first text &>= λ x. second x.0 x.1 &>= λ y. Some ((x.0, y.0), y.1)

abbrev pub as_cut : {A B : Type 0} → (A → B) → Cut A → Cut B
as_cut f cut text = cut text &>= λ x. Some (f x.0, x.1)

abbrev pub if_empty : {A : Type 0} → A → Text → Option A
if_empty a [] = Some a
if_empty a (byte ∷ rest) = None

-- a value that is the whole text
abbrev pub whole : {A : Type 0} → Cut A → Text → Option A
whole cut text = cut text &>= λ x. if_empty x.0 x.1

abbrev pub with_byte : ℕ → Option (Text × Text) → Option (Text × Text)
with_byte byte found = option_map (λ x. (byte ∷ x.0, x.1)) found

-- what stands before the first of these bytes, and behind it
unfoldable pub cut_at : (mark : ℕ) → Cut Text
cut_at mark [] = None
cut_at mark (byte ∷ rest) = if byte == mark then Some ([], rest) else with_byte byte (cut_at mark rest)

-- what stands behind a text
unfoldable pub after : Text → Text → Option Text
after [] text = Some text
after (p ∷ ps) [] = None
after (p ∷ ps) (byte ∷ rest) = if byte == p then after ps rest else None

abbrev pub behind : {A : Type 0} → Text → (Text → Option A) → Text → Option A
behind front cut text = after front text &>= cut

-- ---- numbers

abbrev pub if_below : (limit n : ℕ) → Option ℕ
if_below limit n = if nat_lt n limit then Some n else None

-- the digits at the front, behind those of a number, where the whole is below the limit
unfoldable pub digits_from : (limit value : ℕ) → Cut ℕ
digits_from limit value [] = Some (value, [])
digits_from limit value (byte ∷ rest) =
    if is_digit byte then (if_below limit (value * 10 + (byte - 48)) &>= λ longer. digits_from limit longer rest) else Some (value, byte ∷ rest)

abbrev pub begins_digit : Text → Bool
begins_digit [] = false
begins_digit (byte ∷ rest) = is_digit byte

abbrev pub number_from : (limit byte : ℕ) → (rest : Text) → Option (ℕ × Text)
number_from limit byte rest = if is_digit byte then (if (byte == 48) && begins_digit rest then None else digits_from limit (byte - 48) rest) else None

-- a number below the limit, without leading zeros
unfoldable pub number_at : (limit : ℕ) → Cut ℕ
number_at limit [] = None
number_at limit (byte ∷ rest) = number_from limit byte rest

unfoldable pub spaced_at : (limit : ℕ) → Cut ℕ
spaced_at limit = behind (codes " ") (number_at limit)

unfoldable pub spaced_many : (limit count : ℕ) → Cut (List ℕ)
spaced_many limit zero text = Some ([], text)
spaced_many limit (suc n) text = spaced_at limit text &>= λ x. spaced_many limit n x.1 &>= λ xs. Some (x.0 ∷ xs.0, xs.1)

abbrev pub negated : ℕ × Text → Option (ℤ × Text)
negated (zero, rest) = None
negated (suc n, rest) = Some (neg_ℤ (pos (suc n)), rest)

abbrev pub signed_from : (low high : ℕ) → Text → Option Text → Option (ℤ × Text)
signed_from low high text None = as_cut (λ n. pos n) (number_at high) text
signed_from low high text (Some rest) = number_at low rest &>= negated

-- a number below high, or above minus low
unfoldable pub signed_at : (low high : ℕ) → Cut ℤ
signed_at low high text = signed_from low high text (after (codes "-") text)

-- ---- quoted texts

-- a byte that stands for itself, where it is no `"` and no `\`
abbrev pub is_plain : ℕ → Bool
is_plain byte = is_within 32 126 byte

abbrev pub code_of : (x y z : ℕ) → ℕ
code_of x y z = (x - 48) * 100 + (y - 48) * 10 + (z - 48)

abbrev pub escaped : ℕ → Step
escaped code = if nat_lt code 256 && not (is_plain code) && not (code == 10) then Step.Byte code else Step.Wrong

abbrev pub step_of : Spot → ℕ → Step
step_of Spot.Plain byte = if byte == 34 then Step.Close else (if byte == 92 then Step.Go Spot.Escape else (if is_plain byte then Step.Byte byte else Step.Wrong))
step_of Spot.Escape byte = if (byte == 34) || (byte == 92) then Step.Byte byte else (if byte == 110 then Step.Byte 10 else (if is_digit byte then Step.Go (Spot.One byte) else Step.Wrong))
step_of (Spot.One x) byte = if is_digit byte then Step.Go (Spot.Two x byte) else Step.Wrong
step_of (Spot.Two x y) byte = if is_digit byte then escaped (code_of x y byte) else Step.Wrong

-- the bytes that a text between quotes has from a spot on
unfoldable pub scan_at : Spot → Cut Text
scan_at spot [] = None
scan_at spot (byte ∷ rest) = elim (step_of spot byte) [ Step.Close ↦ Some ([], rest) | Step.Byte value ↦ with_byte value (scan_at Spot.Plain rest) | Step.Go next ↦ scan_at next rest | Step.Wrong ↦ None ]

unfoldable pub quoted_at : Cut Text
quoted_at = behind (codes "\"") (scan_at Spot.Plain)

unfoldable pub whole_quoted_at : Text → Option Text
whole_quoted_at = whole quoted_at

abbrev pub begins_quote : Text → Bool
begins_quote [] = false
begins_quote (byte ∷ rest) = byte == 34

unfoldable pub whole_number_at : Text → Option ℤ
whole_number_at = whole (signed_at 9223372036854775809 9223372036854775808)

unfoldable pub constant_at : Text → Option Constant
constant_at text =
    if bytes_eq text (codes "nil") then Some Constant.Nil
    else (if bytes_eq text (codes "true") then Some (Constant.Bool true)
    else (if bytes_eq text (codes "false") then Some (Constant.Bool false)
    else (if begins_quote text then (whole_quoted_at text &>= λ t. Some (Constant.Text t)) else (whole_number_at text &>= λ n. Some (Constant.Number n)))))

-- ---- instructions

abbrev pub meant : Shape → Shape'
meant Shape.Constant = shows_constant
meant Shape.Function = shows_function
meant Shape.Jump = shows_jump
meant (Shape.Two b c) = shows_two b c

unfoldable pub op_among : List Op → Text → Option Op
op_among [] text = None
op_among (op ∷ ops) text = if bytes_eq text (op_name op) then Some op else op_among ops text

unfoldable pub op_at : Text → Option Op
op_at text = op_among opcodes text

abbrev pub field_from : (may_be : Bool) → Text → Option Text → Option (ℕ × Text)
field_from may_be text None = number_at (if may_be then 256 else 512) text
field_from true text (Some rest) = as_cut (λ n. n + 256) (number_at 256) rest
field_from false text (Some rest) = None

-- a field, with a space before it
unfoldable pub field_at : (may_be : Bool) → Cut ℕ
field_at may_be = behind (codes " ") (λ text. field_from may_be text (after (codes "k") text))

abbrev pub instr : Op → (a b c bx : ℕ) → ℤ → Instr
instr op a b c bx sbx = record { op = op; a = a; b = b; c = c; bx = bx; sbx = sbx }

unfoldable pub fields_at : Shape' → Op → (a : ℕ) → Cut Instr
fields_at shows_constant op a = as_cut (λ n. instr op a 0 0 n (pos 0)) (behind (codes " k") (number_at 262144))
fields_at shows_function op a = as_cut (λ n. instr op a 0 0 n (pos 0)) (behind (codes " f") (number_at 262144))
fields_at shows_jump op a = as_cut (λ z. instr op a 0 0 0 z) (behind (codes " ") (signed_at 131072 131073))
fields_at (shows_two b c) op a = as_cut (λ p. instr op a p.0 p.1 0 (pos 0)) (then_cut (field_at b) (λ n. field_at c))

unfoldable pub instr_at : Cut Instr
instr_at text = cut_at 32 text &>= λ x. op_at x.0 &>= λ op. number_at 256 x.1 &>= λ a. fields_at (shape_of op) op a.0 a.1

abbrev pub is_some_text : Option Text → Bool
is_some_text None = false
is_some_text (Some text) = true

abbrev pub is_empty : Text → Bool
is_empty [] = true
is_empty (byte ∷ rest) = false

-- whether a text is a comment where one is due, and else empty
abbrev pub ends_line : (commented : Bool) → Text → Bool
ends_line true text = is_some_text (after (codes " ; ") text)
ends_line false text = is_empty text

abbrev pub if_ends : Instr → Text → Option ℕ
if_ends i text = if ends_line (names_something (shape_of i.op) i) text then Some (word_of i) else None

abbrev pub if_not_shown : Option Instr → ℕ → Option ℕ
if_not_shown None w = Some w
if_not_shown (Some i) w = None

unfoldable pub plain_word_at : (raw : Bool) → Text → Option ℕ
plain_word_at raw text = whole (number_at 4294967296) text &>= λ w. if_not_shown (shown raw w) w

unfoldable pub shown_word_at : Text → Option ℕ
shown_word_at text = instr_at text &>= λ x. if_ends x.0 x.1

abbrev pub bare_from : (raw : Bool) → Text → Option Text → Option ℕ
bare_from raw text (Some rest) = plain_word_at raw rest
bare_from true text None = None
bare_from false text None = shown_word_at text

-- the word that is shown behind the brackets
unfoldable pub bare_at : (raw : Bool) → Text → Option ℕ
bare_at raw text = bare_from raw text (after (codes "WORD ") text)

unfoldable pub word_at : (raw : Bool) → (pc : ℕ) → Text → Option ℕ
word_at raw pc = behind (digits pc) (behind (codes " [") (λ text. cut_at 93 text &>= λ x. behind (codes " ") (bare_at raw) x.1))

-- ---- other lines

abbrev pub is_some_cut : Option (Text × Text) → Bool
is_some_cut None = false
is_some_cut (Some x) = true

-- one or more bytes, and no space among them
abbrev pub is_word : Text → Bool
is_word text = not (is_empty text) && not (is_some_cut (cut_at 32 text))

abbrev pub if_word : Text → Option (Unit {0})
if_word text = if is_word text then Some tt else None

unfoldable pub name_at : Text → Option (Unit {0})
name_at = behind (codes "function ") if_word

abbrev pub source_from : Text → Option (Option Text)
source_from text = if bytes_eq text (codes "none") then Some None else (whole_quoted_at text &>= λ t. Some (Some t))

unfoldable pub source_at : Text → Option (Option Text)
source_at = behind (codes "source ") source_from

unfoldable pub defined_at : Text → Option (ℕ × ℕ)
defined_at = behind (codes "defined") (whole (then_cut (spaced_at 2147483648) (λ first. spaced_at 2147483648)))

unfoldable pub four_at : Cut (ℕ × (ℕ × (ℕ × ℕ)))
four_at = then_cut (spaced_at 256) (λ upvalues. then_cut (spaced_at 256) (λ params. then_cut (spaced_at 256) (λ flags. spaced_at 256)))

unfoldable pub shape_at : Text → Option (ℕ × (ℕ × (ℕ × ℕ)))
shape_at = behind (codes "shape") (whole four_at)

unfoldable pub count_at : Text → Text → Option ℕ
count_at what = behind what (whole (spaced_at 2147483648))

unfoldable pub counted_lines : Cut (List ℕ)
counted_lines = as_cut (λ p. p.1) (then_cut (number_at 2147483648) (λ n. behind (codes ":") (spaced_many 2147483648 n)))

unfoldable pub lines_at : Text → Option (List ℕ)
lines_at = behind (codes "lines ") (whole counted_lines)

-- an item behind its number
abbrev pub item_at : {A : Type 0} → (Text → Option A) → (number : ℕ) → Text → Option A
item_at parse n = behind (digits n) (behind (codes " ") parse)

unfoldable pub local_at : Text → Option LocVar
local_at text = whole (then_cut quoted_at (λ name. then_cut (spaced_at 2147483648) (λ start. spaced_at 2147483648))) text &>= λ p. Some (record { name = p.0; start = p.1.0; end = p.1.1 })

-- ---- lines

abbrev pub Read : Type 0 → Type 0
Read A = List ℕ → Result (A × List ℕ) Miss

infixl 10 ◌>>=◌
abbrev pub ◌>>=◌ : {A B : Type 0} → Result A Miss → (A → Result B Miss) → Result B Miss
(Ok x) >>= f = f x
(Err e) >>= f = Err e

-- What a function returned, seen by view, is what reading gives, unless memory ran out.
abbrev pub Fails : {Y : Type 0} → ReadError → Result Y Miss → Type 0
Fails errors.Memory read = Unit {0}
Fails (errors.Miss miss) read = read ≡ Err miss

abbrev pub Gives : {X Y : Type 0} → (X → Y) → Result X ReadError → Result Y Miss → Type 0
Gives view (Ok x) read = read ≡ Ok (view x)
Gives view (Err e) read = Fails e read

abbrev pub then_at : {A B : Type 0} → Read A → (A → Read B) → Read (A × B)
then_at first second bytes = first bytes >>= λ x. second x.0 x.1 >>= λ y. Ok ((x.0, y.0), y.1)

abbrev pub as_at : {A B : Type 0} → (A → B) → Read A → Read B
as_at f read bytes = read bytes >>= λ x. Ok (f x.0, x.1)

-- as many parts as a count says, each by the state that those before it leave
unfoldable pub many_at : {S A : Type 0} → (S → Read A) → (S → A → S) → S → ℕ → Read (List A)
many_at one next s zero bytes = Ok ([], bytes)
many_at one next s (suc n) bytes = one s bytes >>= λ x. many_at one next (next s x.0) n x.1 >>= λ xs. Ok (x.0 ∷ xs.0, xs.1)

abbrev pub if_cut : (left : ℕ) → Option (Text × Text) → Result (Text × List ℕ) Miss
if_cut left None = Err (Miss.BadLine left)
if_cut left (Some x) = Ok x

-- a line that ends, without its end
unfoldable pub one_line_at : Read Text
one_line_at bytes = if_cut (length bytes) (cut_at 10 bytes)

abbrev pub if_parsed : {A : Type 0} → (left : ℕ) → (rest : List ℕ) → Option A → Result (A × List ℕ) Miss
if_parsed left rest None = Err (Miss.BadLine left)
if_parsed left rest (Some a) = Ok (a, rest)

-- a line, as what it says
abbrev pub line_at : {A : Type 0} → (Text → Option A) → Read A
line_at parse bytes = one_line_at bytes >>= λ x. if_parsed (length bytes) x.1 (parse x.0)

-- how many lines follow, and then each
abbrev pub counted_at : {S A : Type 0} → (what : Text) → (S → Read A) → (S → A → S) → S → Read (List A)
counted_at what one next s = as_at (λ p. p.1) (then_at (line_at (count_at what)) (λ n. many_at one next s n))

-- ---- functions

abbrev pub word_line : Bool × ℕ → Read ℕ
word_line s = line_at (word_at s.0 s.1)

abbrev pub next_word : Bool × ℕ → ℕ → Bool × ℕ
next_word s w = (is_block_next (shown s.0 w), suc s.1)

abbrev pub next_number : {A : Type 0} → ℕ → A → ℕ
next_number n x = suc n

unfoldable pub code_at : Read (List ℕ)
code_at = counted_at (codes "code") word_line next_word (false, 0)

unfoldable pub constants_at : Read (List Constant)
constants_at = counted_at (codes "constants") (λ n. line_at (item_at constant_at n)) next_number 0

unfoldable pub locals_at : Read (List LocVar)
locals_at = counted_at (codes "locals") (λ n. line_at (item_at local_at n)) next_number 0

unfoldable pub names_at : Read (List Text)
names_at = counted_at (codes "names") (λ n. line_at (item_at whole_quoted_at n)) next_number 0

unfoldable pub front_at : Read Front
front_at =
    as_at (λ p. record { source = p.1.0; line_defined = p.1.1.0.0; last_line = p.1.1.0.1; upvalues = p.1.1.1.0; params = p.1.1.1.1.0; vararg = p.1.1.1.1.1.0; registers = p.1.1.1.1.1.1 })
    (then_at (line_at name_at) (λ u. then_at (line_at source_at) (λ source. then_at (line_at defined_at) (λ defined. line_at shape_at))))

-- the lines, the locals and the names of upvalues
unfoldable pub debug_at : Read (List ℕ × (List LocVar × List Text))
debug_at = then_at (line_at lines_at) (λ lines. then_at locals_at (λ locals. names_at))

abbrev pub own_of : Front → List ℕ → List Constant → List ℕ × (List LocVar × List Text) → Own
own_of f code constants debug = record { source = f.source; line_defined = f.line_defined; last_line = f.last_line; upvalues = f.upvalues; params = f.params; flags = f.vararg; registers = f.registers; code = code; constants = constants; lines = debug.0; locals = debug.1.0; upvalue_names = debug.1.1 }

-- what a function has beside the functions in it, and how many those are
unfoldable pub own_at : Read (Own × ℕ)
own_at =
    as_at (λ p. (own_of p.0 p.1.0 p.1.1.0 p.1.1.1.1, p.1.1.1.0))
    (then_at front_at (λ front. then_at code_at (λ code. then_at constants_at (λ constants. then_at (line_at (count_at (codes "functions"))) (λ count. debug_at)))))

abbrev pub no_state : Unit {0} → Chunk → Unit {0}
no_state u c = tt

-- a function, with room for so many nestings, its own among them
unfoldable pub chunk_at : (room : ℕ) → Read Chunk
chunk_at zero bytes = Err (Miss.TooDeep (length bytes))
chunk_at (suc room) bytes =
    as_at (λ p. function p.0.0 (functions_of p.1)) (then_at own_at (λ own. many_at (λ u. chunk_at room) no_state tt own.1)) bytes

unfoldable pub all_of : List ℕ → Result Chunk Miss
all_of bytes = chunk_at 200 bytes >>= λ x. if length x.1 == 0 then Ok x.0 else Err (Miss.BadLine (length x.1))

-- ---- faults

unfoldable pub line_ends : List ℕ → ℕ
line_ends [] = 0
line_ends (byte ∷ rest) = if byte == 10 then suc (line_ends rest) else line_ends rest

-- the line that begins where so many bytes are left
abbrev pub line_number : List ℕ → (left : ℕ) → ℕ
line_number text left = suc (line_ends (take (length text - left) text))

abbrev pub fault_of : List ℕ → Miss → ListFault
fault_of text (Miss.BadLine left) = faults.BadLine (line_number text left)
fault_of text (Miss.TooDeep left) = faults.TooDeep (line_number text left)

-- the first line in which two texts differ
unfoldable pub differing_line : List ℕ → List ℕ → ℕ
differing_line [] others = 1
differing_line (byte ∷ rest) [] = 1
differing_line (byte ∷ rest) (other ∷ others) = if byte == other then (if byte == 10 then suc (differing_line rest others) else differing_line rest others) else 1
