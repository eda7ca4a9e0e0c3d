-- Operators ask nothing of hosts: beside any hosts they answer as beside none.
use Rattle.std.proofs.Common.{◌≡◌, ℕ, zero, suc, Bool, true, false, List, [], ◌∷◌, ◌++◌, Option, Some, None, codes, refl, ap}
use Rattle.std.specs.Prelude.{ℤ, not, ◌||◌, if◌then◌else◌}
use Rattle.lua_num.specs.declared.arith.ArithOp.{ArithOp}
use Rattle.lua_num.specs.declared.arith.CompareOp.{CompareOp}
use Rattle.lua_num.specs.Bytes.{Text}
use Rattle.lua_model.specs.Datum.{Datum, nil, boolean, number, text, table, closure, native, host, is_nil, is_function, raw_equal, to_number, to_text, kind_name}
use Rattle.lua_model.specs.Store.{Store, Host, raw_get, raw_set}
use Rattle.lua_model.specs.Acts.{Act, take, truth, negated, discard, value, call, fail_text, plain, through, no_function}
use Rattle.lua_model.specs.Operators.{handler, either_handler, common_handler, ask_or, arith_on, arith, event_of, no_arithmetic, negate_on, negate, join_on, join, size, equal, less, at_most, compare, incomparable, index_within, set_index_within, index, set_index, chain_limit, callee}
use Rattle.lua_heap.specs.State.{HeapState, store_of, own_store}

abbrev no_join : Datum → Act
no_join v = fail_text (codes "attempt to concatenate a " ++ kind_name v ++ codes " value")

module _ (h : HeapState) (hosts : List Host) where
  abbrev s : Store
  s = store_of h hosts

  abbrev o : Store
  o = own_store h

  handler_beside : (v : Datum) (event : Text) → handler s v event ≡ handler o v event
  handler_beside nil event = refl
  handler_beside (boolean b) event = refl
  handler_beside (number n) event = refl
  handler_beside (text t) event = refl
  handler_beside (table t) event = refl
  handler_beside (closure c) event = refl
  handler_beside (native n) event = refl
  handler_beside (host k) event = refl

  either_beside : (a b : Datum) (event : Text) → either_handler s a b event ≡ either_handler o a b event
  either_beside a b event = λ i. if is_nil (handler_beside a event i) then handler_beside b event i else handler_beside a event i

  common_beside : (a b : Datum) (event : Text) → common_handler s a b event ≡ common_handler o a b event
  common_beside a b event = λ i. if raw_equal (handler_beside a event i) (handler_beside b event i) then handler_beside a event i else nil

  arith_on_beside : (op : ArithOp) (a b : Datum) (x y : Option ℤ) → arith_on s op a b x y ≡ arith_on o op a b x y
  arith_on_beside op a b (Some x) (Some y) = refl
  arith_on_beside op a b (Some x) None = ap (λ f. ask_or f (a ∷ b ∷ []) take (no_arithmetic b)) (either_beside a b (event_of op))
  arith_on_beside op a b None y = ap (λ f. ask_or f (a ∷ b ∷ []) take (no_arithmetic a)) (either_beside a b (event_of op))

  pub arith_beside : (op : ArithOp) (a b : Datum) → arith s op a b ≡ arith o op a b
  arith_beside op a b = arith_on_beside op a b (to_number a) (to_number b)

  negate_on_beside : (a : Datum) (x : Option ℤ) → negate_on s a x ≡ negate_on o a x
  negate_on_beside a (Some x) = refl
  negate_on_beside a None = ap (λ f. ask_or f (a ∷ a ∷ []) take (no_arithmetic a)) (handler_beside a (codes "__unm"))

  pub negate_beside : (a : Datum) → negate s a ≡ negate o a
  negate_beside a = negate_on_beside a (to_number a)

  join_on_beside : (a b : Datum) (x y : Option Text) → join_on s a b x y ≡ join_on o a b x y
  join_on_beside a b (Some x) (Some y) = refl
  join_on_beside a b (Some x) None = λ i. ask_or (either_beside a b (codes "__concat") i) (a ∷ b ∷ []) take (no_join b)
  join_on_beside a b None y = λ i. ask_or (either_beside a b (codes "__concat") i) (a ∷ b ∷ []) take (no_join a)

  pub join_beside : (a b : Datum) → join s a b ≡ join o a b
  join_beside a b = join_on_beside a b (to_text a) (to_text b)

  pub size_beside : (v : Datum) → size s v ≡ size o v
  size_beside nil = refl
  size_beside (boolean b) = refl
  size_beside (number n) = refl
  size_beside (text t) = refl
  size_beside (table t) = refl
  size_beside (closure c) = refl
  size_beside (native n) = refl
  size_beside (host k) = refl

  equal_beside : (a b : Datum) → equal s a b ≡ equal o a b
  equal_beside (table a) (table b) = λ i.
      if raw_equal (table a) (table b) then value (boolean true) else ask_or (common_beside (table a) (table b) (codes "__eq") i) (table a ∷ table b ∷ []) truth (value (boolean false))
  equal_beside a b = refl

  less_beside : (a b : Datum) → less s a b ≡ less o a b
  less_beside (number a) (number b) = refl
  less_beside (text a) (text b) = refl
  less_beside a b = λ i. ask_or (common_beside a b (codes "__lt") i) (a ∷ b ∷ []) truth (incomparable a b)

  at_most_beside : (a b : Datum) → at_most s a b ≡ at_most o a b
  at_most_beside (number a) (number b) = refl
  at_most_beside (text a) (text b) = refl
  at_most_beside a b = λ i.
      ask_or (common_beside a b (codes "__le") i) (a ∷ b ∷ []) truth (ask_or (common_beside a b (codes "__lt") i) (b ∷ a ∷ []) negated (incomparable a b))

  pub compare_beside : (op : CompareOp) (a b : Datum) → compare s op a b ≡ compare o op a b
  compare_beside CompareOp.Eq a b = equal_beside a b
  compare_beside CompareOp.Lt a b = less_beside a b
  compare_beside CompareOp.Le a b = at_most_beside a b

  index_within_beside : (n : ℕ) (v k : Datum) → index_within n s v k ≡ index_within n o v k
  index_within_beside zero v k = refl
  index_within_beside (suc n) (table t) k = λ i.
      let entry = raw_get o t k in
      let f = handler o (table t) (codes "__index") in
      if not (is_nil entry) then value entry else (if is_nil f then value nil else (if is_function f then call f (table t ∷ k ∷ []) take else index_within_beside n f k i))
  index_within_beside (suc n) v k = refl

  pub index_beside : (v k : Datum) → index s v k ≡ index o v k
  index_beside v k = index_within_beside chain_limit v k

  -- of a write the store behind it has the hosts
  abbrev pub with_hosts : Act × Store → Act × Store
  with_hosts written = (written.0, record written.1 { hosts = hosts })

  either_way : (b c : Bool) (first second : Act × Store) (rest rest' : Act × Store) → rest ≡ with_hosts rest' → (if b then with_hosts first else (if c then with_hosts second else rest)) ≡ with_hosts (if b then first else (if c then second else rest'))
  either_way true c first second rest rest' e = refl
  either_way false true first second rest rest' e = refl
  either_way false false first second rest rest' e = e

  set_index_within_beside : (n : ℕ) (v k x : Datum) → set_index_within n s v k x ≡ with_hosts (set_index_within n o v k x)
  set_index_within_beside zero v k x = refl
  set_index_within_beside (suc n) (table t) nil x = refl
  set_index_within_beside (suc n) (table t) k x =
      let f = handler o (table t) (codes "__newindex") in
      either_way (not (is_nil (raw_get o t k)) || is_nil f) (is_function f) (value nil, raw_set o t k x) (call f (table t ∷ k ∷ x ∷ []) discard, o) (set_index_within n s f k x) (set_index_within n o f k x) (set_index_within_beside n f k x)
  set_index_within_beside (suc n) v k x = refl

  pub set_index_beside : (v k x : Datum) → set_index s v k x ≡ with_hosts (set_index o v k x)
  set_index_beside v k x = set_index_within_beside chain_limit v k x

  pub callee_beside : (f : Datum) → callee s f ≡ callee o f
  callee_beside f = λ i.
      let called = handler_beside f (codes "__call") i in
      if is_function f then plain f else (if is_function called then through called else no_function (text (codes "attempt to call a " ++ kind_name f ++ codes " value")))
