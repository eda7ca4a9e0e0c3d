-- To be believed. The values of Lua (manual 2.2), and what they are taken as (2.2.1). A string is its bytes; tables, closures,
-- built-in functions and hosts are numbers.
use Rattle.std.specs.Prelude.{ℕ, zero, suc, ℤ, Bool, true, false, List, [], ◌∷◌, drop, Option, Some, None, codes, nat_eq}
use Rattle.std.specs.Bool.{beq as bool_eq}
use Rattle.std.specs.Ordering.{int_eq}
use Rattle.std.specs.Str.{bytes_eq}
use Rattle.lua_num.specs.Bytes.{Text}
use Rattle.lua_num.specs.Numeral.{text_number, decimal_text}

-- a table or closure is its place in the order of creation, from 0; a built-in function or host its place in their list
pub data Datum : Type 0 where
  nil : Datum
  boolean : Bool → Datum
  number : ℤ → Datum
  text : Text → Datum
  table : ℕ → Datum
  closure : ℕ → Datum
  native : ℕ → Datum
  host : ℕ → Datum

abbrev pub is_nil : Datum → Bool
is_nil nil = true
is_nil _ = false

-- nil and false are the false values
abbrev pub is_true : Datum → Bool
is_true nil = false
is_true (boolean b) = b
is_true _ = true

abbrev pub is_function : Datum → Bool
is_function (closure c) = true
is_function (native n) = true
is_function (host h) = true
is_function _ = false

-- equality that asks no handler
abbrev pub raw_equal : Datum → Datum → Bool
raw_equal nil nil = true
raw_equal (boolean a) (boolean b) = bool_eq a b
raw_equal (number a) (number b) = int_eq a b
raw_equal (text a) (text b) = bytes_eq a b
raw_equal (table a) (table b) = nat_eq a b
raw_equal (closure a) (closure b) = nat_eq a b
raw_equal (native a) (native b) = nat_eq a b
raw_equal (host a) (host b) = nat_eq a b
raw_equal _ _ = false

-- the name of a value's kind
abbrev pub kind_name : Datum → Text
kind_name nil = codes "nil"
kind_name (boolean b) = codes "boolean"
kind_name (number n) = codes "number"
kind_name (text t) = codes "string"
kind_name (table t) = codes "table"
kind_name _ = codes "function"

-- the first value of a list, nil where there is none
abbrev pub first_of : List Datum → Datum
first_of [] = nil
first_of (v ∷ vs) = v

-- so many values: further ones are left out, and missing ones are nil (manual 2.5)
abbrev pub adjusted : ℕ → List Datum → List Datum
adjusted zero vs = []
adjusted (suc n) [] = nil ∷ adjusted n []
adjusted (suc n) (v ∷ vs) = v ∷ adjusted n vs

-- the arguments behind the parameters, where the function keeps them (manual 2.5.9)
abbrev pub extra_of : (keeps : Bool) → (params : ℕ) → List Datum → List Datum
extra_of true params args = drop params args
extra_of false params args = []

-- the number that a value is taken as, by arithmetic and the numeric `for`, and where a built-in function wants a number
abbrev pub to_number : Datum → Option ℤ
to_number (number n) = Some n
to_number (text t) = text_number t
to_number _ = None

-- the text that a value is taken as, by `..`, and where a built-in function wants a string
abbrev pub to_text : Datum → Option Text
to_text (text t) = Some t
to_text (number n) = Some (decimal_text n)
to_text _ = None
