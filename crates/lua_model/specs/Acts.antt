-- To be believed. What operators and built-in functions answer (manual 2.8 and 5.1).
use Rattle.std.specs.Prelude.{ℕ, not, List}
use Rattle.lua_num.specs.Bytes.{Text}
use Rattle.lua_model.specs.Datum.{Datum, nil, boolean, text, is_true}
use Rattle.lua_model.specs.declared.plain.Plain.{Plain}
use Rattle.lua_model.specs.Store.{Store}

-- what is done with the first result of a handler: it is taken, taken as a truth value, as the negation of one, or left
pub data Use : Type 0 where
  take truth negated discard : Use

-- an operator has a value, or asks a handler, or fails with a value
pub data Act : Type 0 where
  value : Datum → Act
  call : (handler : Datum) → (args : List Datum) → Use → Act
  failure : Datum → Act

-- a call goes to a function, or through a handler which is one, or fails with a value
pub data Callee : Type 0 where
  plain : Datum → Callee
  through : Datum → Callee
  no_function : Datum → Callee

-- a built-in function has results and leaves a store, or prints a piece, or fails with a value, or makes a protected call, or closes
-- a host; a host is asked
pub data NativeAct : Type 0 where
  results : List Datum → Store → NativeAct
  prints : Text → NativeAct
  asks : (host : ℕ) → List Plain → NativeAct
  fails : Datum → NativeAct
  protects : Datum → List Datum → NativeAct
  closes : (host : ℕ) → Store → NativeAct

-- the value of an operator, from the first result of its handler
abbrev pub used : Use → Datum → Datum
used take v = v
used truth v = boolean (is_true v)
used negated v = boolean (not (is_true v))
used discard v = nil

abbrev pub fail_text : Text → Act
fail_text t = failure (text t)
