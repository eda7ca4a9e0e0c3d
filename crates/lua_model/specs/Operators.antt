-- To be believed. The operators with their handlers (manual 2.5 and 2.8).
use Rattle.std.specs.Prelude.{ℕ, zero, suc, ℤ, pos, int_lt, int_le, nat_lt, ◌==◌, ◌||◌, Bool, true, false, not, List, [], ◌∷◌, ◌++◌, length, Option, Some, None, Result, Ok, Err, codes, if◌then◌else◌}
use Rattle.std.specs.Str.{bytes_eq}
use Rattle.lua_num.specs.declared.arith.ArithOp.{ArithOp}
use Rattle.lua_num.specs.declared.arith.CompareOp.{CompareOp}
use Rattle.lua_num.specs.declared.arith.NumFault.{NumFault}
use Rattle.lua_num.specs.Bytes.{Text}
use Rattle.lua_num.specs.Arith.{outcome, negation}
use Rattle.lua_model.specs.Datum.{Datum, nil, boolean, number, text, table, is_nil, is_function, raw_equal, kind_name, to_number, to_text}
use Rattle.lua_model.specs.Pairs.{border_from}
use Rattle.lua_model.specs.Store.{Store, table_at, raw_get, raw_set}
use Rattle.lua_model.specs.Acts.{Use, take, truth, negated, discard, Act, value, call, failure, fail_text, Callee, plain, through, no_function}

-- ---- handlers (manual 2.8)

-- the metatable's entry of this name; only tables have metatables
abbrev pub handler : Store → Datum → Text → Datum
handler s (table t) event = elim (table_at s t).meta [ None ↦ nil | Some m ↦ raw_get s m (text event) ]
handler s _ event = nil

-- the first operand's handler, else the second's
abbrev pub either_handler : Store → Datum → Datum → Text → Datum
either_handler s a b event = if is_nil (handler s a event) then handler s b event else handler s a event

-- the one handler of both operands, nil where theirs are not raw equal
abbrev pub common_handler : Store → Datum → Datum → Text → Datum
common_handler s a b event = if raw_equal (handler s a event) (handler s b event) then handler s a event else nil

-- the handler is asked where there is one
abbrev pub ask_or : Datum → List Datum → Use → Act → Act
ask_or h args use_of other = if is_nil h then other else call h args use_of

-- ---- arithmetic (manual 2.5.1)

abbrev pub fault_text : NumFault → Text
fault_text NumFault.DivideByZero = codes "attempt to divide by zero"
fault_text NumFault.NegativeExponent = codes "negative exponent"

abbrev pub of_numbers : Result ℤ NumFault → Act
of_numbers (Ok n) = value (number n)
of_numbers (Err fault) = fail_text (fault_text fault)

abbrev pub event_of : ArithOp → Text
event_of ArithOp.Add = codes "__add"
event_of ArithOp.Sub = codes "__sub"
event_of ArithOp.Mul = codes "__mul"
event_of ArithOp.Div = codes "__div"
event_of ArithOp.Rem = codes "__mod"
event_of ArithOp.Pow = codes "__pow"

abbrev pub no_arithmetic : Datum → Act
no_arithmetic v = fail_text (codes "attempt to perform arithmetic on a " ++ kind_name v ++ codes " value")

-- the first operand that is taken as nothing of the wanted kind
abbrev pub culprit : {A : Type 0} → Option A → Datum → Datum → Datum
culprit None a b = a
culprit (Some x) a b = b

abbrev pub arith_on : Store → ArithOp → Datum → Datum → Option ℤ → Option ℤ → Act
arith_on s op a b (Some x) (Some y) = of_numbers (outcome op x y)
arith_on s op a b x y = ask_or (either_handler s a b (event_of op)) (a ∷ b ∷ []) take (no_arithmetic (culprit x a b))

abbrev pub arith : Store → ArithOp → Datum → Datum → Act
arith s op a b = arith_on s op a b (to_number a) (to_number b)

-- unary minus gives its handler the operand twice
abbrev pub negate_on : Store → Datum → Option ℤ → Act
negate_on s a (Some x) = value (number (negation x))
negate_on s a None = ask_or (handler s a (codes "__unm")) (a ∷ a ∷ []) take (no_arithmetic a)

abbrev pub negate : Store → Datum → Act
negate s a = negate_on s a (to_number a)

-- ---- concatenation (manual 2.5.4) and length (2.5.5)

abbrev pub join_on : Store → Datum → Datum → Option Text → Option Text → Act
join_on s a b (Some x) (Some y) = value (text (x ++ y))
join_on s a b x y =
    ask_or (either_handler s a b (codes "__concat")) (a ∷ b ∷ []) take
    (fail_text (codes "attempt to concatenate a " ++ kind_name (culprit x a b) ++ codes " value"))

abbrev pub join : Store → Datum → Datum → Act
join s a b = join_on s a b (to_text a) (to_text b)

-- the least n of at least 0 whose entry n + 1 is nil: it is at most the number of pairs
abbrev pub border : List (Datum × Datum) → ℕ
border pairs = border_from raw_equal nil is_nil (λ n. number (pos n)) pairs (length pairs) 0

abbrev pub size : Store → Datum → Act
size s (text t) = value (number (pos (length t)))
size s (table t) = value (number (pos (border (table_at s t).pairs)))
size s v = fail_text (codes "attempt to get length of a " ++ kind_name v ++ codes " value")

-- ---- comparison (manual 2.5.2)

-- strings are ordered by their bytes
abbrev pub text_less : Text → Text → Bool
text_less [] [] = false
text_less [] (y ∷ ys) = true
text_less (x ∷ xs) [] = false
text_less (x ∷ xs) (y ∷ ys) = if x == y then text_less xs ys else nat_lt x y

abbrev pub incomparable : Datum → Datum → Act
incomparable a b =
    if bytes_eq (kind_name a) (kind_name b) then fail_text (codes "attempt to compare two " ++ kind_name a ++ codes " values") else fail_text (codes "attempt to compare " ++ kind_name a ++ codes " with " ++ kind_name b)

abbrev pub equal : Store → Datum → Datum → Act
equal s (table a) (table b) =
    if raw_equal (table a) (table b) then value (boolean true) else ask_or (common_handler s (table a) (table b) (codes "__eq")) (table a ∷ table b ∷ []) truth (value (boolean false))
equal s a b = value (boolean (raw_equal a b))

abbrev pub less : Store → Datum → Datum → Act
less s (number a) (number b) = value (boolean (int_lt a b))
less s (text a) (text b) = value (boolean (text_less a b))
less s a b = ask_or (common_handler s a b (codes "__lt")) (a ∷ b ∷ []) truth (incomparable a b)

-- a missing `__le` is the negation of `__lt` with swapped operands
abbrev pub at_most : Store → Datum → Datum → Act
at_most s (number a) (number b) = value (boolean (int_le a b))
at_most s (text a) (text b) = value (boolean (not (text_less b a)))
at_most s a b =
    ask_or (common_handler s a b (codes "__le")) (a ∷ b ∷ []) truth
    (ask_or (common_handler s a b (codes "__lt")) (b ∷ a ∷ []) negated (incomparable a b))

abbrev pub compare : Store → CompareOp → Datum → Datum → Act
compare s CompareOp.Eq a b = equal s a b
compare s CompareOp.Lt a b = less s a b
compare s CompareOp.Le a b = at_most s a b

-- ---- indexing (manual 2.8, "index" and "newindex")

-- the failure of a read or a write at a value that is no table
abbrev pub index_fault : Datum → Datum
index_fault v = text (codes "attempt to index a " ++ kind_name v ++ codes " value")

-- how many values an index may try, which is this suite's own
abbrev pub chain_limit : ℕ
chain_limit = 100

-- reading v[k], where so many values may be tried
abbrev pub index_within : ℕ → Store → Datum → Datum → Act
index_within zero s v k = fail_text (codes "loop in gettable")
index_within (suc more) s (table t) k =
    let entry = raw_get s t k in
    let h = handler s (table t) (codes "__index") in
    if not (is_nil entry) then value entry else (if is_nil h then value nil else (if is_function h then call h (table t ∷ k ∷ []) take else index_within more s h k))
index_within (suc more) s v k = failure (index_fault v)

abbrev pub index : Store → Datum → Datum → Act
index s v k = index_within chain_limit s v k

-- writing v[k] = x, where so many values may be tried: what is done, and the store after it; a nil key fails at once
abbrev pub set_index_within : ℕ → Store → Datum → Datum → Datum → Act × Store
set_index_within zero s v k x = (fail_text (codes "loop in settable"), s)
set_index_within (suc more) s (table t) nil x = (fail_text (codes "table index is nil"), s)
set_index_within (suc more) s (table t) k x =
    let h = handler s (table t) (codes "__newindex") in
    if not (is_nil (raw_get s t k)) || is_nil h then (value nil, raw_set s t k x) else (if is_function h then (call h (table t ∷ k ∷ x ∷ []) discard, s) else set_index_within more s h k x)
set_index_within (suc more) s v k x = (failure (index_fault v), s)

abbrev pub set_index : Store → Datum → Datum → Datum → Act × Store
set_index s v k x = set_index_within chain_limit s v k x

-- ---- calls (manual 2.8, "call")

-- This suite's own: how deep a call of a function of the source may be, how many protected calls may stand directly in one another, and the failure
-- of a call that passes one of these
abbrev pub depth_limit : ℕ
depth_limit = 20000

abbrev pub protection_limit : ℕ
protection_limit = 200

abbrev pub stack_overflow : Datum
stack_overflow = text (codes "stack overflow")

-- a table stands for its handler, which must be a function
abbrev pub callee : Store → Datum → Callee
callee s f =
    if is_function f then plain f else (if is_function (handler s f (codes "__call")) then through (handler s f (codes "__call")) else no_function (text (codes "attempt to call a " ++ kind_name f ++ codes " value")))

-- the arguments of a call: a table that stands for its handler is put before them
abbrev pub with_called : Callee → Datum → List Datum → List Datum
with_called (through handler) f args = f ∷ args
with_called _ f args = args

-- ---- the numeric `for` (manual 2.4.5)

-- the initial value, the limit and the step, or the text of a failure
pub data LoopNumbers : Type 0 where
  counts : (first limit step : ℤ) → LoopNumbers
  no_count : Text → LoopNumbers

abbrev pub loop_numbers_of : Option ℤ → Option ℤ → Option ℤ → LoopNumbers
loop_numbers_of None limit step = no_count (codes "'for' initial value must be a number")
loop_numbers_of (Some i) None step = no_count (codes "'for' limit must be a number")
loop_numbers_of (Some i) (Some limit) None = no_count (codes "'for' step must be a number")
loop_numbers_of (Some i) (Some limit) (Some step) = counts i limit step

-- they are checked in this order
abbrev pub loop_numbers : Datum → Datum → Datum → LoopNumbers
loop_numbers first limit step = loop_numbers_of (to_number first) (to_number limit) (to_number step)

-- whether a loop goes on at i
abbrev pub goes_on : (i limit step : ℤ) → Bool
goes_on i limit step = if int_lt (pos 0) step then int_le i limit else int_le limit i
