-- To be believed. The built-in functions and the hosts (manual 5.1).
use Rattle.std.specs.Prelude.{slice_set, ◌&&◌, ℕ, zero, suc, ◌-◌, ◌==◌, ℤ, pos, negsuc, ◌+ℤ◌, ◌-ℤ◌, int_lt, nat_lt, Bool, true, false, List, [], ◌∷◌, ◌++◌, length, map, drop, Option, Some, None, slice_get, get_or, unwrap_or, codes, if◌then◌else◌}
use Rattle.std.specs.List.{join_with_byte}
use Rattle.std.specs.Str.{bytes_eq}
use Rattle.lua_num.specs.Bytes.{Text}
use Rattle.lua_num.specs.Arith.{wrap}
use Rattle.lua_num.specs.Numeral.{decimal_text}
use Rattle.lua_model.specs.Datum.{Datum, nil, boolean, number, text, table, closure, native as built_in, host, is_nil, is_true, raw_equal, kind_name, first_of, to_number, to_text}
use Rattle.lua_model.specs.Pairs.{set, first, after}
use Rattle.lua_model.specs.declared.plain.Plain.{Plain}
use Rattle.lua_model.specs.Store.{Store, Host, as_plain, table_at, raw_get, raw_set, with_metatable}
use Rattle.lua_model.specs.Acts.{NativeAct, results, prints, asks, fails, protects, closes}
use Rattle.lua_model.specs.Operators.{border}

-- ---- their names

-- in the order of their numbers; all but `ipairs_next` are globals at the start
abbrev pub builtin_names : List Text
builtin_names =
    codes "print" ∷ codes "type" ∷ codes "tostring" ∷ codes "tonumber" ∷ codes "error" ∷ codes "assert" ∷ codes "select" ∷ codes "rawget" ∷ codes "rawset" ∷ codes "rawequal" ∷ codes "next" ∷ codes "pairs" ∷ codes "ipairs" ∷ codes "unpack" ∷ codes "setmetatable" ∷ codes "getmetatable" ∷ codes "ipairs_next" ∷ codes "pcall" ∷ codes "host_close" ∷ []

abbrev pub next_number : ℕ
next_number = 10

abbrev pub ipairs_next_number : ℕ
ipairs_next_number = 16

abbrev pub builtin_name : ℕ → Text
builtin_name n = get_or builtin_names n []

abbrev pub no_host : Host
no_host = record { name = []; live = false }

abbrev pub host_at : Store → ℕ → Host
host_at s h = get_or s.hosts h no_host

-- ---- texts of values

abbrev pub numbered : Text → ℕ → Text
numbered kind n = kind ++ codes ": " ++ decimal_text (pos (suc n))

-- the text of a value, by `tostring`
abbrev pub shown : Store → Datum → Text
shown s nil = codes "nil"
shown s (boolean true) = codes "true"
shown s (boolean false) = codes "false"
shown s (number n) = decimal_text n
shown s (text t) = t
shown s (table t) = numbered (codes "table") t
shown s (closure c) = numbered (codes "function") c
shown s (built_in n) = codes "function: builtin " ++ builtin_name n
shown s (host h) = codes "function: host " ++ (host_at s h).name

-- the text of a failure with this value
abbrev pub failure_text : Datum → Text
failure_text v = unwrap_or (to_text v) (codes "(error object is not a string)")

-- ---- arguments

abbrev pub fails_with : Text → NativeAct
fails_with t = fails (text t)

abbrev pub bad_argument : ℕ → Text → Text → NativeAct
bad_argument i f what = fails_with (codes "bad argument #" ++ decimal_text (pos i) ++ codes " to '" ++ f ++ codes "' (" ++ what ++ codes ")")

abbrev pub argument : ℕ → List Datum → Option Datum
argument i args = slice_get args (i - 1)

-- what was got in the place of an argument
abbrev pub got : Option Datum → Text
got None = codes "no value"
got (Some v) = kind_name v

abbrev pub wrong_argument : ℕ → Text → Text → List Datum → NativeAct
wrong_argument i f wanted args = bad_argument i f (wanted ++ codes " expected, got " ++ got (argument i args))

-- argument i where any value is taken
abbrev pub any_value : ℕ → Text → List Datum → (Datum → NativeAct) → NativeAct
any_value i f args k = elim (argument i args) [ None ↦ bad_argument i f (codes "value expected") | Some v ↦ k v ]

abbrev pub as_table : Option Datum → Option ℕ
as_table (Some (table t)) = Some t
as_table _ = None

-- argument i where a table is taken
abbrev pub a_table : ℕ → Text → List Datum → (ℕ → NativeAct) → NativeAct
a_table i f args k = elim (as_table (argument i args)) [ None ↦ wrong_argument i f (codes "table") args | Some t ↦ k t ]

-- argument i where a number is taken, or a string that is one
abbrev pub a_number : ℕ → Text → List Datum → (ℤ → NativeAct) → NativeAct
a_number i f args k = elim (to_number (unwrap_or (argument i args) nil)) [ None ↦ wrong_argument i f (codes "number") args | Some n ↦ k n ]

-- argument i where a string is taken, or a number as its text
abbrev pub a_string : ℕ → Text → List Datum → (Text → NativeAct) → NativeAct
a_string i f args k = elim (to_text (unwrap_or (argument i args) nil)) [ None ↦ wrong_argument i f (codes "string") args | Some t ↦ k t ]

-- argument i where a number is taken, and another one stands for nil or no value
abbrev pub number_or : ℤ → ℕ → Text → List Datum → (ℤ → NativeAct) → NativeAct
number_or other i f args k = if is_nil (unwrap_or (argument i args) nil) then k other else a_number i f args k

abbrev pub one_result : Datum → Store → NativeAct
one_result v s = results (v ∷ []) s

-- ---- the functions

abbrev pub print : List Datum → Store → NativeAct
print args s = prints (join_with_byte 9 (map (shown s) args) ++ 10 ∷ [])

abbrev pub type_of : List Datum → Store → NativeAct
type_of args s = any_value 1 (codes "type") args λ v. one_result (text (kind_name v)) s

abbrev pub tostring : List Datum → Store → NativeAct
tostring args s = any_value 1 (codes "tostring") args λ v. one_result (text (shown s v)) s

abbrev pub number_or_nil : Option ℤ → Datum
number_or_nil None = nil
number_or_nil (Some n) = number n

abbrev pub tonumber : List Datum → Store → NativeAct
tonumber args s =
    any_value 1 (codes "tonumber") args λ v.
    if is_nil (unwrap_or (argument 2 args) nil) then one_result (number_or_nil (to_number v)) s else bad_argument 2 (codes "tonumber") (codes "base is not supported")

abbrev pub error : List Datum → Store → NativeAct
error args s = fails (first_of args)

abbrev pub assert : List Datum → Store → NativeAct
assert args s =
    any_value 1 (codes "assert") args λ v.
    if is_true v then results args s else (if is_nil (unwrap_or (argument 2 args) nil) then fails_with (codes "assertion failed!") else a_string 2 (codes "assert") args fails_with)

abbrev pub is_count_mark : Datum → Bool
is_count_mark v = raw_equal v (text (codes "#"))

abbrev pub out_of_range : NativeAct
out_of_range = bad_argument 1 (codes "select") (codes "index out of range")

-- the values from the n-th on, or the last -n
abbrev pub selected : ℤ → List Datum → Store → NativeAct
selected (pos zero) others s = out_of_range
selected (pos (suc before)) others s = results (drop before others) s
selected (negsuc less) others s =
    if nat_lt less (length others) then results (drop (length others - suc less) others) s else out_of_range

abbrev pub select : List Datum → Store → NativeAct
select args s =
    if is_count_mark (first_of args) then one_result (number (pos (length (drop 1 args)))) s else a_number 1 (codes "select") args λ n. selected n (drop 1 args) s

abbrev pub rawget : List Datum → Store → NativeAct
rawget args s = a_table 1 (codes "rawget") args λ t. any_value 2 (codes "rawget") args λ k. one_result (raw_get s t k) s

abbrev pub rawset : List Datum → Store → NativeAct
rawset args s =
    a_table 1 (codes "rawset") args λ t. any_value 2 (codes "rawset") args λ k. any_value 3 (codes "rawset") args λ v.
    if is_nil k then fails_with (codes "table index is nil") else one_result (table t) (raw_set s t k v)

abbrev pub rawequal : List Datum → Store → NativeAct
rawequal args s = any_value 1 (codes "rawequal") args λ a. any_value 2 (codes "rawequal") args λ b. one_result (boolean (raw_equal a b)) s

-- a key and its value, or nil
abbrev pub pair_or_nil : Option (Datum × Datum) → List Datum
pair_or_nil None = nil ∷ []
pair_or_nil (Some p) = p.0 ∷ p.1 ∷ []

-- the first pair whose value is not nil, behind the place of a key where one is given
abbrev pub next_pair : List (Datum × Datum) → Datum → Store → NativeAct
next_pair pairs nil s = results (pair_or_nil (first raw_equal nil is_nil pairs)) s
next_pair pairs k s = elim (after raw_equal nil is_nil pairs k) [ None ↦ fails_with (codes "invalid key to 'next'") | Some p ↦ results (pair_or_nil p) s ]

abbrev pub next : List Datum → Store → NativeAct
next args s = a_table 1 (codes "next") args λ t. next_pair (table_at s t).pairs (unwrap_or (argument 2 args) nil) s

abbrev pub pairs : List Datum → Store → NativeAct
pairs args s = a_table 1 (codes "pairs") args λ t. results (built_in next_number ∷ table t ∷ nil ∷ []) s

abbrev pub ipairs : List Datum → Store → NativeAct
ipairs args s = a_table 1 (codes "ipairs") args λ t. results (built_in ipairs_next_number ∷ table t ∷ number (pos 0) ∷ []) s

abbrev pub entry_at : ℤ → Datum → List Datum
entry_at i v = if is_nil v then nil ∷ [] else number i ∷ v ∷ []

abbrev pub ipairs_next : List Datum → Store → NativeAct
ipairs_next args s =
    a_table 1 (codes "ipairs_next") args λ t. a_number 2 (codes "ipairs_next") args λ i.
    results (entry_at (wrap (i +ℤ pos 1)) (raw_get s t (number (wrap (i +ℤ pos 1))))) s

-- so many raw entries from i on
abbrev pub entries : Store → ℕ → ℤ → (count : ℕ) → List Datum
entries s t i zero = []
entries s t i (suc count) = raw_get s t (number i) ∷ entries s t (i +ℤ pos 1) count

abbrev pub natural : ℤ → ℕ
natural (pos n) = n
natural (negsuc n) = 0

abbrev pub unpacked : Store → ℕ → (first last : ℤ) → NativeAct
unpacked s t first last =
    if int_lt (pos 8000) (last -ℤ first +ℤ pos 1) then fails_with (codes "too many results to unpack") else results (entries s t first (natural (last -ℤ first +ℤ pos 1))) s

abbrev pub unpack : List Datum → Store → NativeAct
unpack args s =
    a_table 1 (codes "unpack") args λ t. number_or (pos 1) 2 (codes "unpack") args λ i.
    number_or (pos (border (table_at s t).pairs)) 3 (codes "unpack") args λ j. unpacked s t i j

-- the raw field `__metatable` of a metatable
abbrev pub protection : Store → Option ℕ → Datum
protection s None = nil
protection s (Some m) = raw_get s m (text (codes "__metatable"))

abbrev pub change_metatable : Store → ℕ → Option ℕ → NativeAct
change_metatable s t m =
    if is_nil (protection s (table_at s t).meta) then one_result (table t) (with_metatable s t m) else fails_with (codes "cannot change a protected metatable")

abbrev pub set_metatable_to : Store → ℕ → Option Datum → NativeAct
set_metatable_to s t (Some nil) = change_metatable s t None
set_metatable_to s t (Some (table m)) = change_metatable s t (Some m)
set_metatable_to s t _ = bad_argument 2 (codes "setmetatable") (codes "nil or table expected")

abbrev pub setmetatable : List Datum → Store → NativeAct
setmetatable args s = a_table 1 (codes "setmetatable") args λ t. set_metatable_to s t (argument 2 args)

abbrev pub metatable_of : Store → Datum → Option ℕ
metatable_of s (table t) = (table_at s t).meta
metatable_of s _ = None

abbrev pub table_or_nil : Option ℕ → Datum
table_or_nil None = nil
table_or_nil (Some m) = table m

abbrev pub getmetatable : List Datum → Store → NativeAct
getmetatable args s =
    any_value 1 (codes "getmetatable") args λ v.
    let m = metatable_of s v in
    one_result (if is_nil (protection s m) then table_or_nil m else protection s m) s

abbrev pub pcall : List Datum → Store → NativeAct
pcall args s = any_value 1 (codes "pcall") args λ f. protects f (drop 1 args)

-- the live host of this name
abbrev pub live_host : List Host → ℕ → Text → Option ℕ
live_host [] n name = None
live_host (h ∷ hs) n name = if bytes_eq h.name name && h.live then Some n else live_host hs (suc n) name

abbrev pub with_closed : Store → ℕ → Store
with_closed s h = record s { hosts = slice_set s.hosts h (record (host_at s h) { live = false }) }

abbrev pub host_close : List Datum → Store → NativeAct
host_close args s =
    a_string 1 (codes "host_close") args λ name.
    elim (live_host s.hosts 0 name) [ None ↦ one_result (boolean false) s | Some h ↦ closes h (with_closed s h) ]

-- ---- calls of them

-- in the order of their numbers
abbrev pub builtins : List (List Datum → Store → NativeAct)
builtins =
    print ∷ type_of ∷ tostring ∷ tonumber ∷ error ∷ assert ∷ select ∷ rawget ∷ rawset ∷ rawequal ∷ next ∷ pairs ∷ ipairs ∷ unpack ∷ setmetatable ∷ getmetatable ∷ ipairs_next ∷ pcall ∷ host_close ∷ []

abbrev pub native : ℕ → List Datum → Store → NativeAct
native n args s = elim (slice_get builtins n) [ None ↦ results [] s | Some f ↦ f args s ]

-- the arguments from the i-th on as plain values
abbrev pub plain_values : ℕ → Text → List Datum → (List Plain → NativeAct) → NativeAct
plain_values i f [] k = k []
plain_values i f (v ∷ vs) k =
    elim (as_plain v) [
      | None ↦ bad_argument i f (codes "plain value expected, got " ++ kind_name v)
      | Some p ↦ plain_values (suc i) f vs λ ps. k (p ∷ ps)
    ]

-- a call of a host; one that was closed, or that is given another value than a plain one, is not asked
abbrev pub call_host : ℕ → List Datum → Store → NativeAct
call_host h args s = if (host_at s h).live then plain_values 1 (host_at s h).name args (asks h) else fails_with (codes "host is closed")

-- ---- the start

abbrev pub with_builtins : List Text → ℕ → List (Text × Datum) → List (Text × Datum)
with_builtins [] n globals = globals
with_builtins (name ∷ names) n globals = with_builtins names (suc n) (if n == ipairs_next_number then globals else set bytes_eq nil is_nil globals name (built_in n))

-- a live host's name is a global
abbrev pub with_hosts : List Host → ℕ → List (Text × Datum) → List (Text × Datum)
with_hosts [] n globals = globals
with_hosts (h ∷ hs) n globals = with_hosts hs (suc n) (if h.live then set bytes_eq nil is_nil globals h.name (host n) else globals)

-- the store at the start: built-in functions by their names, and the live hosts, whose names replace those
abbrev pub start : List Host → Store
start hosts = record {
  tables = [];
  globals = with_hosts hosts 0 (with_builtins builtin_names 0 []);
  hosts = hosts;
}
