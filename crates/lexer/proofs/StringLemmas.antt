-- What stands at a place between the quotes of a short string.
use Rattle.std.proofs.Common.{◌≡◌, ◌||◌, ◌&&◌, ℕ, zero, suc, one-add, ◌+◌, ◌-◌, ◌<◌, ◌≤◌, Bool, true, false, not, cond, List, [], ◌∷◌, ◌++◌, length, get_or, take, drop, refl, sym, ap, ◌∙◌, ◌==◌, arith}
use Rattle.std.specs.List.{prefix_len}
use Rattle.std.proofs.Math.Seq.{take-length}
use Rattle.std.proofs.lemmas.List.{length-take-le, take-append-drop}
use Rattle.lua_num.specs.Numeral.{digits_value}
use Rattle.lua_num.specs.Bytes.{is_digit, Each, BeginsWith, BeginsWithout}
use Rattle.lua_tree.specs.Bytes.{ends_line}
use Rattle.lua_tree.specs.Lines.{line_end}
use Rattle.lua_tree.specs.Strings.{Plain, Escaped, EscapedEnd, Decimal, IsCode, escape_of}
use Rattle.lexer.specs.StringParts.{HasItem}

-- a text is its first byte and the rest
pub first_and_rest : (text : List ℕ) → 1 ≤ length text → text ≡ get_or text 0 0 ∷ take (length text - 1) (drop 1 text)
first_and_rest [] some = absurd (omega (arith, some))
first_and_rest (byte ∷ text) some =
    let size : length (byte ∷ text) - 1 ≡ length text = omega arith in
    ap (λ t. byte ∷ t) (sym (rw size (take-length text)))

-- a byte that means itself
pub plain_item : (quote byte : ℕ) (text after : List ℕ) → text ≡ byte ∷ after → ((byte == quote) || (byte == 92) || ends_line byte) ≡ false → HasItem quote byte 1 text
plain_item quote byte text after whole fits = record { item = Plain byte; after = after; whole = whole; fits = fits; value_is = refl; size_is = refl }

-- a backslash and a byte
pub escaped_item : (quote byte : ℕ) (text after : List ℕ) → text ≡ byte ∷ after → (is_digit byte || ends_line byte) ≡ false → HasItem quote (escape_of byte) 2 (92 ∷ text)
escaped_item quote byte text after whole fits = record { item = Escaped byte; after = after; whole = ap (λ t. 92 ∷ t) whole; fits = fits; value_is = refl; size_is = refl }

-- a line end is one byte at least, and no longer than the text
record TakesSome (size : ℕ) (text : List ℕ) : Type 0 where
  some : 0 < size
  within : size ≤ length text

line_end_takes_some : (byte : ℕ) (text : List ℕ) → ends_line byte ≡ true → TakesSome (line_end (byte ∷ text)) (byte ∷ text)
line_end_takes_some byte [] ends = rw ends (record { some = omega arith; within = omega arith })
line_end_takes_some byte (next ∷ text) ends = rw ends (by (ends_line next && not (byte == next)))
  where
    by : (pair : Bool) → TakesSome (cond pair 2 1) (byte ∷ next ∷ text)
    by true = record { some = omega arith; within = omega arith }
    by false = record { some = omega arith; within = omega arith }

-- a backslash and a line end
pub line_end_item : (quote byte size : ℕ) (text after : List ℕ) → text ≡ byte ∷ after → ends_line byte ≡ true → size ≡ line_end text → HasItem quote 10 (1 + size) (92 ∷ text)
line_end_item quote byte size text after whole ends size_is =
    let takes : TakesSome size text = rw (size_is, whole) (line_end_takes_some byte after ends) in
    let bytes : length (take size text) ≡ size = length-take-le size text takes.within in
    let parts : take size text ++ drop size text ≡ text = take-append-drop size text in
    record {
      item = EscapedEnd (take size text);
      after = drop size text;
      whole = ap (λ t. 92 ∷ t) (sym parts);
      fits = (omega (arith, bytes, takes.some), bytes ∙ (size_is ∙ ap line_end (sym parts)));
      value_is = refl;
      size_is = omega (arith, bytes);
    }

-- a run of bytes that pass, as many as stand there up to a limit
record IsRunUpTo (test : ℕ → Bool) (limit : ℕ) (run after : List ℕ) : Type 0 where
  each : Each test run
  few : length run ≤ limit
  all : length run < limit → BeginsWithout test after

run_longer : (test : ℕ → Bool) (limit byte : ℕ) (text : List ℕ) (n : ℕ) → test byte ≡ true → IsRunUpTo test limit (take n text) (drop n text) → IsRunUpTo test (suc limit) (take (1 + n) (byte ∷ text)) (drop (1 + n) (byte ∷ text))
run_longer test limit byte text n passes more = rw one-add (record {
  each = (passes, more.each);
  few = omega (arith, more.few);
  all = λ less. more.all (omega (arith, less));
})

run_from : (test : ℕ → Bool) (limit byte : ℕ) (text : List ℕ) (n : ℕ) (passes : Bool) → test byte ≡ passes → IsRunUpTo test limit (take n text) (drop n text) → IsRunUpTo test (suc limit) (take (cond passes (1 + n) 0) (byte ∷ text)) (drop (cond passes (1 + n) 0) (byte ∷ text))
run_from test limit byte text n true passes more = run_longer test limit byte text n passes more
run_from test limit byte text n false fails more = record { each = tt; few = omega arith; all = λ less. fails }

run_up_to : (test : ℕ → Bool) (limit : ℕ) (text : List ℕ) → IsRunUpTo test limit (take (prefix_len test (take limit text)) text) (drop (prefix_len test (take limit text)) text)
run_up_to test zero text = record { each = tt; few = omega arith; all = λ less. absurd (omega (arith, less)) }
run_up_to test (suc limit) [] = record { each = tt; few = omega arith; all = λ less. tt }
run_up_to test (suc limit) (byte ∷ text) = run_from test limit byte text (prefix_len test (take limit text)) (test byte) refl (run_up_to test limit text)

some_digit : (limit : ℕ) (text : List ℕ) → BeginsWith is_digit text → 0 < length (take (prefix_len is_digit (take (suc limit) text)) text)
some_digit limit [] begins = absurd begins
some_digit limit (byte ∷ text) begins = rw begins (rw one-add (omega arith))

-- the digits at the front, up to three, are a code
pub code_here : (text front back : List ℕ) (n : ℕ) → BeginsWith is_digit text → n ≡ prefix_len is_digit (take 3 text) → front ≡ take n text → back ≡ drop n text → IsCode front back
code_here text front back n begins n_is front_is back_is =
    let run : IsRunUpTo is_digit 3 (take (prefix_len is_digit (take 3 text)) text) (drop (prefix_len is_digit (take 3 text)) text) = run_up_to is_digit 3 text in
    rw (front_is, back_is, n_is) (record { digits_are = run.each; some = some_digit 2 text begins; few = run.few; all = run.all })

-- a backslash and a code
pub decimal_item : (quote value n : ℕ) (text front : List ℕ) (back : List ℕ) → IsCode front back → front ≡ take n text → back ≡ drop n text → value ≡ digits_value front → value < 256 → HasItem quote value (1 + length front) (92 ∷ text)
decimal_item quote value n text front back code front_is back_is value_is small = record {
  item = Decimal front;
  after = back;
  whole = ap (λ t. 92 ∷ t) (sym (take-append-drop n text)) ∙ ap (λ t. 92 ∷ t) (cc);
  fits = (code, omega (arith, value_is, small));
  value_is = value_is;
  size_is = omega arith;
}
