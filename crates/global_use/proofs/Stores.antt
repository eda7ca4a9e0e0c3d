-- What operators and built-in functions answer does not look at the globals, and leaves them as they are.
use Rattle.std.proofs.Common.{◌≡◌, ℕ, zero, suc, ℤ, pos, negsuc, ◌+ℤ◌, ◌-ℤ◌, int_lt, nat_lt, Bool, true, false, cond, not, ◌||◌, List, [], ◌∷◌, ◌++◌, length, drop, None, Some, codes, refl, ap}
use Rattle.std.specs.Prelude.{Option, slice_get, unwrap_or}
use Rattle.lua_num.specs.Bytes.{Text}
use Rattle.lua_model.specs.Datum.{Datum, nil, boolean, number, table, is_nil, is_true, is_function, first_of, to_number, to_text, raw_equal, kind_name}
use Rattle.lua_model.specs.Pairs.{after}
use Rattle.lua_model.specs.declared.plain.Plain.{Plain}
use Rattle.lua_model.specs.Store.{Store, as_plain, table_at, raw_get, raw_set, with_items}
use Rattle.lua_model.specs.Acts.{Act, value, call, take, discard, NativeAct, results, prints, asks, fails, protects, closes}
use Rattle.lua_model.specs.Operators.{handler, index_within, set_index_within, border}
use Rattle.lua_model.specs.Builtins as rule
use Rattle.lua_model.specs.Builtins.{argument, as_table, any_value, a_table, a_number, a_string, number_or, protection, plain_values, live_host, builtins}
use Rattle.global_use.specs.Runs.{Globals}

abbrev pub with_globals : Store → Globals → Store
with_globals s g = record s { globals = g }

module _ (g : Globals) where
  -- what is answered, with these globals in the store that is left
  abbrev pub answer_with : NativeAct → NativeAct
  answer_with (results vs s) = results vs (with_globals s g)
  answer_with (prints t) = prints t
  answer_with (asks h vs) = asks h vs
  answer_with (fails v) = fails v
  answer_with (protects f vs) = protects f vs
  answer_with (closes h s) = closes h (with_globals s g)

  abbrev pub written_with : Act × Store → Act × Store
  written_with p = (p.0, with_globals p.1 g)

  pub with_items_with : (s : Store) (t : ℕ) (k : ℤ) (vs : List Datum) → with_items (with_globals s g) t k vs ≡ with_globals (with_items s t k vs) g
  with_items_with s t k [] = refl
  with_items_with s t k (v ∷ vs) = with_items_with (raw_set s t (number k) v) t (k +ℤ pos 1) vs

  pub index_with : (more : ℕ) (s : Store) (v k : Datum) → index_within more (with_globals s g) v k ≡ index_within more s v k
  index_with zero s v k = refl
  index_with (suc more) s (table t) k =
      let h = handler s (table t) (codes "__index") in
      ap (λ act. cond (not (is_nil (raw_get s t k))) (value (raw_get s t k)) (cond (is_nil h) (value nil) (cond (is_function h) (call h (table t ∷ k ∷ []) take) act))) (index_with more s h k)
  index_with (suc more) s v k = refl

  either : (a b : Bool) (p q r r1 : Act × Store) → r1 ≡ written_with r → cond a (written_with p) (cond b (written_with q) r1) ≡ written_with (cond a p (cond b q r))
  either true b p q r r1 e = refl
  either false true p q r r1 e = refl
  either false false p q r r1 e = e

  pub set_index_with : (more : ℕ) (s : Store) (v k x : Datum) → set_index_within more (with_globals s g) v k x ≡ written_with (set_index_within more s v k x)
  set_index_with zero s v k x = refl
  set_index_with (suc more) s (table t) nil x = refl
  set_index_with (suc more) s (table t) k x =
      let h = handler s (table t) (codes "__newindex") in
      either (not (is_nil (raw_get s t k)) || is_nil h) (is_function h) (value nil, raw_set s t k x) (call h (table t ∷ k ∷ x ∷ []) discard, s) (set_index_within more s h k x) (set_index_within more (with_globals s g) h k x) (set_index_with more s h k x)
  set_index_with (suc more) s v k x = refl

  -- arguments: what is done with one
  any_value_with : (i : ℕ) (f : Text) (args : List Datum) (k k1 : Datum → NativeAct) → ((v : Datum) → k1 v ≡ answer_with (k v)) → any_value i f args k1 ≡ answer_with (any_value i f args k)
  any_value_with i f args k k1 e = go (argument i args)
    where
      go : (o : Option Datum) → elim o [ None ↦ rule.bad_argument i f (codes "value expected") | Some v ↦ k1 v ] ≡ answer_with (elim o [ None ↦ rule.bad_argument i f (codes "value expected") | Some v ↦ k v ])
      go None = refl
      go (Some v) = e v

  a_table_with : (i : ℕ) (f : Text) (args : List Datum) (k k1 : ℕ → NativeAct) → ((v : ℕ) → k1 v ≡ answer_with (k v)) → a_table i f args k1 ≡ answer_with (a_table i f args k)
  a_table_with i f args k k1 e = go (as_table (argument i args))
    where
      go : (o : Option ℕ) → elim o [ None ↦ rule.wrong_argument i f (codes "table") args | Some v ↦ k1 v ] ≡ answer_with (elim o [ None ↦ rule.wrong_argument i f (codes "table") args | Some v ↦ k v ])
      go None = refl
      go (Some v) = e v

  a_number_with : (i : ℕ) (f : Text) (args : List Datum) (k k1 : ℤ → NativeAct) → ((v : ℤ) → k1 v ≡ answer_with (k v)) → a_number i f args k1 ≡ answer_with (a_number i f args k)
  a_number_with i f args k k1 e = go (to_number (unwrap_or (argument i args) nil))
    where
      go : (o : Option ℤ) → elim o [ None ↦ rule.wrong_argument i f (codes "number") args | Some v ↦ k1 v ] ≡ answer_with (elim o [ None ↦ rule.wrong_argument i f (codes "number") args | Some v ↦ k v ])
      go None = refl
      go (Some v) = e v

  a_string_with : (i : ℕ) (f : Text) (args : List Datum) (k k1 : Text → NativeAct) → ((v : Text) → k1 v ≡ answer_with (k v)) → a_string i f args k1 ≡ answer_with (a_string i f args k)
  a_string_with i f args k k1 e = go (to_text (unwrap_or (argument i args) nil))
    where
      go : (o : Option Text) → elim o [ None ↦ rule.wrong_argument i f (codes "string") args | Some v ↦ k1 v ] ≡ answer_with (elim o [ None ↦ rule.wrong_argument i f (codes "string") args | Some v ↦ k v ])
      go None = refl
      go (Some v) = e v

  choice : (b : Bool) (x y x1 y1 : NativeAct) → x1 ≡ answer_with x → y1 ≡ answer_with y → cond b x1 y1 ≡ answer_with (cond b x y)
  choice true x y x1 y1 e d = e
  choice false x y x1 y1 e d = d

  number_or_with : (other : ℤ) (i : ℕ) (f : Text) (args : List Datum) (k k1 : ℤ → NativeAct) → ((v : ℤ) → k1 v ≡ answer_with (k v)) → number_or other i f args k1 ≡ answer_with (number_or other i f args k)
  number_or_with other i f args k k1 e = choice (is_nil (unwrap_or (argument i args) nil)) _ _ _ _ (e other) (a_number_with i f args k k1 e)

  abbrev pub Keeps : (List Datum → Store → NativeAct) → Type 0
  Keeps f = (args : List Datum) (s : Store) → f args (with_globals s g) ≡ answer_with (f args s)

  tonumber_with : Keeps rule.tonumber
  tonumber_with args s =
      any_value_with 1 (codes "tonumber") args _ _ (λ v. choice (is_nil (unwrap_or (argument 2 args) nil)) _ _ _ _ refl refl)

  string_fails : (i : ℕ) (f : Text) (args : List Datum) → a_string i f args rule.fails_with ≡ answer_with (a_string i f args rule.fails_with)
  string_fails i f args = a_string_with i f args _ _ (λ v. refl)

  assert_with : Keeps rule.assert
  assert_with args s =
      any_value_with 1 (codes "assert") args _ _ (λ v. choice (is_true v) _ _ _ _ refl (choice (is_nil (unwrap_or (argument 2 args) nil)) _ _ _ _ refl (string_fails 2 (codes "assert") args)))

  selected_with : (n : ℤ) (others : List Datum) (s : Store) → rule.selected n others (with_globals s g) ≡ answer_with (rule.selected n others s)
  selected_with (pos zero) others s = refl
  selected_with (pos (suc before)) others s = refl
  selected_with (negsuc less) others s = choice (nat_lt less (length others)) _ _ _ _ refl refl

  select_with : Keeps rule.select
  select_with args s =
      choice (rule.is_count_mark (first_of args)) _ _ _ _ refl (a_number_with 1 (codes "select") args _ _ (λ n. selected_with n (drop 1 args) s))

  rawget_with : Keeps rule.rawget
  rawget_with args s = a_table_with 1 (codes "rawget") args _ _ (λ t. any_value_with 2 (codes "rawget") args _ _ (λ k. refl))

  rawset_with : Keeps rule.rawset
  rawset_with args s =
      a_table_with 1 (codes "rawset") args _ _ (λ t. any_value_with 2 (codes "rawset") args _ _ (λ k. any_value_with 3 (codes "rawset") args _ _ (λ v.
      choice (is_nil k) _ _ _ _ refl refl)))

  rawequal_with : Keeps rule.rawequal
  rawequal_with args s = any_value_with 1 (codes "rawequal") args _ _ (λ a. any_value_with 2 (codes "rawequal") args _ _ (λ b. refl))

  next_pair_with : (pairs : List (Datum × Datum)) (k : Datum) (s : Store) → rule.next_pair pairs k (with_globals s g) ≡ answer_with (rule.next_pair pairs k s)
  next_pair_with pairs nil s = refl
  next_pair_with pairs k s = go (after raw_equal nil is_nil pairs k)
    where
      go : (o : Option (Option (Datum × Datum))) → elim o [ None ↦ rule.fails_with (codes "invalid key to 'next'") | Some p ↦ results (rule.pair_or_nil p) (with_globals s g) ] ≡ answer_with (elim o [ None ↦ rule.fails_with (codes "invalid key to 'next'") | Some p ↦ results (rule.pair_or_nil p) s ])
      go None = refl
      go (Some p) = refl

  next_with : Keeps rule.next
  next_with args s = a_table_with 1 (codes "next") args _ _ (λ t. next_pair_with (table_at s t).pairs (unwrap_or (argument 2 args) nil) s)

  pairs_with : Keeps rule.pairs
  pairs_with args s = a_table_with 1 (codes "pairs") args _ _ (λ t. refl)

  ipairs_with : Keeps rule.ipairs
  ipairs_with args s = a_table_with 1 (codes "ipairs") args _ _ (λ t. refl)

  ipairs_next_with : Keeps rule.ipairs_next
  ipairs_next_with args s = a_table_with 1 (codes "ipairs_next") args _ _ (λ t. a_number_with 2 (codes "ipairs_next") args _ _ (λ i. refl))

  entries_with : (s : Store) (t : ℕ) (i : ℤ) (count : ℕ) → rule.entries (with_globals s g) t i count ≡ rule.entries s t i count
  entries_with s t i zero = refl
  entries_with s t i (suc count) = ap (λ vs. raw_get s t (number i) ∷ vs) (entries_with s t (i +ℤ pos 1) count)

  unpacked_with : (s : Store) (t : ℕ) (first last : ℤ) → rule.unpacked (with_globals s g) t first last ≡ answer_with (rule.unpacked s t first last)
  unpacked_with s t first last =
      choice (int_lt (pos 8000) (last -ℤ first +ℤ pos 1)) _ _ _ _ refl (ap (λ vs. results vs (with_globals s g)) (entries_with s t first (rule.natural (last -ℤ first +ℤ pos 1))))

  unpack_with : Keeps rule.unpack
  unpack_with args s =
      a_table_with 1 (codes "unpack") args _ _ (λ t. number_or_with (pos 1) 2 (codes "unpack") args _ _ (λ i.
      number_or_with (pos (border (table_at s t).pairs)) 3 (codes "unpack") args _ _ (λ j. unpacked_with s t i j)))

  change_metatable_with : (s : Store) (t : ℕ) (m : Option ℕ) → rule.change_metatable (with_globals s g) t m ≡ answer_with (rule.change_metatable s t m)
  change_metatable_with s t m = choice (is_nil (protection s (table_at s t).meta)) _ _ _ _ refl refl

  set_metatable_to_with : (s : Store) (t : ℕ) (o : Option Datum) → rule.set_metatable_to (with_globals s g) t o ≡ answer_with (rule.set_metatable_to s t o)
  set_metatable_to_with s t (Some nil) = change_metatable_with s t None
  set_metatable_to_with s t (Some (table m)) = change_metatable_with s t (Some m)
  set_metatable_to_with s t _ = refl

  setmetatable_with : Keeps rule.setmetatable
  setmetatable_with args s = a_table_with 1 (codes "setmetatable") args _ _ (λ t. set_metatable_to_with s t (argument 2 args))

  getmetatable_with : Keeps rule.getmetatable
  getmetatable_with args s = any_value_with 1 (codes "getmetatable") args _ _ (λ v. refl)

  host_close_with : Keeps rule.host_close
  host_close_with args s = a_string_with 1 (codes "host_close") args _ _ (λ name. go (live_host s.hosts 0 name))
    where
      go : (o : Option ℕ) → elim o [ None ↦ rule.one_result (boolean false) (with_globals s g) | Some h ↦ closes h (rule.with_closed (with_globals s g) h) ] ≡ answer_with (elim o [ None ↦ rule.one_result (boolean false) s | Some h ↦ closes h (rule.with_closed s h) ])
      go None = refl
      go (Some h) = refl

  -- each of some functions
  abbrev AllKeep : List (List Datum → Store → NativeAct) → Type 0
  AllKeep [] = Unit {0}
  AllKeep (f ∷ fs) = Keeps f × (AllKeep fs)

  one_keeps : (fs : List (List Datum → Store → NativeAct)) → AllKeep fs → (n : ℕ) (args : List Datum) (s : Store) → elim (slice_get fs n) [ None ↦ results [] (with_globals s g) | Some f ↦ f args (with_globals s g) ] ≡ answer_with (elim (slice_get fs n) [ None ↦ results [] s | Some f ↦ f args s ])
  one_keeps [] all n args s = refl
  one_keeps (f ∷ fs) all zero args s = all.0 args s
  one_keeps (f ∷ fs) all (suc n) args s = one_keeps fs all.1 n args s

  builtins_keep : AllKeep builtins
  builtins_keep = (
    (λ args s. refl),
    (
      (λ args s. any_value_with 1 (codes "type") args _ _ (λ v. refl)),
      (
        (λ args s. any_value_with 1 (codes "tostring") args _ _ (λ v. refl)),
        (
          tonumber_with,
          (
            (λ args s. refl),
            (
              assert_with,
              (
                select_with,
                (
                  rawget_with,
                  (
                    rawset_with,
                    (
                      rawequal_with,
                      (
                        next_with,
                        (
                          pairs_with,
                          (
                            ipairs_with,
                            (
                              unpack_with,
                              (
                                setmetatable_with,
                                (
                                  getmetatable_with,
                                  (
                                    ipairs_next_with,
                                    ((λ args s. any_value_with 1 (codes "pcall") args _ _ (λ f. refl)), (host_close_with, tt)),
                                  ),
                                ),
                              ),
                            ),
                          ),
                        ),
                      ),
                    ),
                  ),
                ),
              ),
            ),
          ),
        ),
      ),
    ),
  )

  pub native_with : (n : ℕ) (args : List Datum) (s : Store) → rule.native n args (with_globals s g) ≡ answer_with (rule.native n args s)
  native_with n args s = one_keeps builtins builtins_keep n args s

  plain_values_with : (i : ℕ) (f : Text) (vs : List Datum) (k k1 : List Plain → NativeAct) → ((ps : List Plain) → k1 ps ≡ answer_with (k ps)) → plain_values i f vs k1 ≡ answer_with (plain_values i f vs k)
  plain_values_with i f [] k k1 e = e []
  plain_values_with i f (v ∷ vs) k k1 e = go (λ p. plain_values_with (suc i) f vs (λ ps. k (p ∷ ps)) (λ ps. k1 (p ∷ ps)) (λ ps. e (p ∷ ps))) (as_plain v)
    where
      go : ((p : Plain) → plain_values (suc i) f vs (λ ps. k1 (p ∷ ps)) ≡ answer_with (plain_values (suc i) f vs (λ ps. k (p ∷ ps)))) → (o : Option Plain) → elim o [ None ↦ rule.bad_argument i f (codes "plain value expected, got " ++ kind_name v) | Some p ↦ plain_values (suc i) f vs (λ ps. k1 (p ∷ ps)) ] ≡ answer_with (elim o [ None ↦ rule.bad_argument i f (codes "plain value expected, got " ++ kind_name v) | Some p ↦ plain_values (suc i) f vs (λ ps. k (p ∷ ps)) ])
      go rest None = refl
      go rest (Some p) = rest p

  pub call_host_with : (h : ℕ) (args : List Datum) (s : Store) → rule.call_host h args (with_globals s g) ≡ answer_with (rule.call_host h args s)
  call_host_with h args s =
      choice (rule.host_at s h).live _ _ _ _ (plain_values_with 1 (rule.host_at s h).name args (asks h) (asks h) (λ ps. refl)) refl
