-- The definitions, computed.
use Rattle.std.proofs.Common.{◌≡◌, ◌^◌, ◌+◌, ◌-◌, ℕ, zero, suc, pos, negsuc, true, false, List, [], ◌∷◌, Some, refl}
use Rattle.std.specs.Prelude.{codes}
use Rattle.std.specs.Fmt.{digits}
use Rattle.lua_num.specs.declared.arith.ArithOp.{ArithOp}
use Rattle.lua_num.specs.declared.arith.CompareOp.{CompareOp}
use Rattle.lua_model.specs.Datum.{nil, boolean, number, text, table, closure, host}
use Rattle.lua_model.specs.declared.plain.Plain.{Plain}
use Rattle.lua_model.specs.Store.{Store, Host, raw_set, new_table, with_metatable, with_pair}
use Rattle.lua_model.specs.Acts.{value, call, failure, take, negated, discard, through, results, asks, fails, protects, closes}
use Rattle.lua_model.specs.Operators.{arith, negate, compare, index, set_index, callee, border}
use Rattle.lua_model.specs.Builtins.{start, native, call_host}

-- ---- numbers

quotients : (arith (start []) ArithOp.Div (number (pos 7)) (number (negsuc 1)) ≡ value (number (negsuc 2))) × (arith (start []) ArithOp.Div (number (negsuc (2 ^ 63 - 1))) (number (negsuc 0)) ≡ value (number (negsuc (2 ^ 63 - 1))))
quotients = (refl, refl)

no_numbers : (arith (start []) ArithOp.Rem (number (pos 7)) (text (codes "0")) ≡ failure (text (codes "attempt to divide by zero"))) × (arith (start []) ArithOp.Pow (number (pos 2)) (number (negsuc 0)) ≡ failure (text (codes "negative exponent")))
no_numbers = (refl, refl)

-- ---- tables: an entry set to nil keeps its place, and nil on a new key changes nothing

places : with_pair (with_pair (with_pair (with_pair [] (text (codes "a")) (boolean true)) (text (codes "b")) (boolean true)) (text (codes "a")) nil) (text (codes "c")) nil ≡ (text (codes "a"), nil) ∷ (text (codes "b"), boolean true) ∷ []
places = refl

border_is_least : border ((number (pos 2), boolean true) ∷ (number (pos 1), boolean true) ∷ (number (pos 4), boolean true) ∷ []) ≡ 2
border_is_least = refl

-- ---- a store with a chain: each of n tables has the one before it as its `__index` and `__newindex`

-- table 0 has `x`, and table n + 1 the metatable 102 + n, whose handlers are table n
abbrev linked : ℕ → Store → Store
linked zero s = s
linked (suc n) s =
    let t = linked n s in
    with_metatable (raw_set (raw_set t (102 + n) (text (codes "__index")) (table n)) (102 + n) (text (codes "__newindex")) (table n)) (suc n) (Some (102 + n))

abbrev tables : ℕ → Store → Store
tables zero s = s
tables (suc n) s = tables n (new_table s)

abbrev chain : Store
chain = raw_set (linked 100 (tables 204 (start []))) 0 (text (codes "x")) (number (pos 5))

-- the hundredth value is tried, the next one is not
hundredth_read : index chain (table 99) (text (codes "x")) ≡ value (number (pos 5))
hundredth_read = refl

loop_read : index chain (table 100) (text (codes "x")) ≡ failure (text (codes "loop in gettable"))
loop_read = refl

loop_write : (set_index chain (table 100) (text (codes "y")) (boolean true)).0 ≡ failure (text (codes "loop in settable"))
loop_write = refl

no_further : index chain (table 0) (text (codes "y")) ≡ value nil
no_further = refl

-- ---- handlers: table 1 is the metatable of table 0, and its handlers are closure 3

abbrev with_handler : List ℕ → Store
with_handler event = with_metatable (raw_set (new_table (new_table (start []))) 1 (text event) (closure 3)) 0 (Some 1)

right_handler : arith (with_handler (codes "__add")) ArithOp.Add (text (codes "x")) (table 0) ≡ call (closure 3) (text (codes "x") ∷ table 0 ∷ []) take
right_handler = refl

minus_handler : negate (with_handler (codes "__unm")) (table 0) ≡ call (closure 3) (table 0 ∷ table 0 ∷ []) take
minus_handler = refl

missing_le : compare (with_handler (codes "__lt")) CompareOp.Le (table 0) (table 0) ≡ call (closure 3) (table 0 ∷ table 0 ∷ []) negated
missing_le = refl

other_kind : compare (with_handler (codes "__lt")) CompareOp.Lt (table 0) (number (pos 1)) ≡ failure (text (codes "attempt to compare table with number"))
other_kind = refl

written_by_handler : (set_index (with_handler (codes "__newindex")) (table 0) (boolean true) nil).0 ≡ call (closure 3) (table 0 ∷ boolean true ∷ nil ∷ []) discard
written_by_handler = refl

through_handler : callee (with_handler (codes "__call")) (table 0) ≡ through (closure 3)
through_handler = refl

numeric_text_counts : arith (start []) ArithOp.Add (text (codes "1")) nil ≡ failure (text (codes "attempt to perform arithmetic on a nil value"))
numeric_text_counts = refl

-- ---- built-in functions and hosts

unpack_limit : native 13 (table 0 ∷ number (pos 1) ∷ number (pos 8001) ∷ []) (new_table (start [])) ≡ fails (text (codes "too many results to unpack"))
unpack_limit = refl

-- the count does not wrap
unpack_far : native 13 (table 0 ∷ number (negsuc (2 ^ 63 - 1)) ∷ number (pos (2 ^ 63 - 1)) ∷ []) (new_table (start [])) ≡ fails (text (codes "too many results to unpack"))
unpack_far = refl

ipairs_wraps : native 16 (table 0 ∷ number (pos (2 ^ 63 - 1)) ∷ []) (raw_set (new_table (start [])) 0 (number (negsuc (2 ^ 63 - 1))) (boolean true)) ≡ results (number (negsuc (2 ^ 63 - 1)) ∷ boolean true ∷ []) (raw_set (new_table (start [])) 0 (number (negsuc (2 ^ 63 - 1))) (boolean true))
ipairs_wraps = refl

hosts : List Host
hosts = record { name = codes "ask"; live = true } ∷ record { name = codes "gone"; live = false } ∷ []

asked_host : call_host 0 (number (pos 1) ∷ []) (start hosts) ≡ asks 0 (Plain.Number (pos 1) ∷ [])
unfolding hosts
asked_host = refl

closed_host : call_host 1 (table 0 ∷ []) (start hosts) ≡ fails (text (codes "host is closed"))
unfolding hosts
closed_host = refl

first_not_plain : call_host 0 (nil ∷ table 0 ∷ host 0 ∷ []) (start hosts) ≡ fails (text (codes "bad argument #2 to 'ask' (plain value expected, got table)"))
unfolding hosts digits
first_not_plain = refl

protected_call : native 17 (text (codes "f") ∷ nil ∷ []) (start []) ≡ protects (text (codes "f")) (nil ∷ [])
protected_call = refl

nothing_to_protect : native 17 [] (start []) ≡ fails (text (codes "bad argument #1 to 'pcall' (value expected)"))
unfolding digits
nothing_to_protect = refl

closing : native 18 (text (codes "ask") ∷ []) (start hosts) ≡ closes 0 (record (start hosts) { hosts = record { name = codes "ask"; live = false } ∷ record { name = codes "gone"; live = false } ∷ [] })
unfolding hosts
closing = refl

closing_no_live_host : native 18 (text (codes "gone") ∷ []) (start hosts) ≡ results (boolean false ∷ []) (start hosts)
unfolding hosts
closing_no_live_host = refl
