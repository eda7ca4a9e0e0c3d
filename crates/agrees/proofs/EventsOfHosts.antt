-- Where a table is called or handed no host is asked. The arguments of a handler always hold a table, so that no landing ever waits.
use Rattle.std.proofs.Common.{◌≡◌, ℕ, zero, suc, Bool, true, false, inl, inr, List, [], ◌∷◌, ◌++◌, length, Option, Some, None, refl, sym, subst, ℤ, pos, negsuc}
use Rattle.std.specs.Prelude.{slice_get, drop, unwrap_or, if◌then◌else◌, codes, nat_lt, int_lt, ◌-ℤ◌, ◌+ℤ◌}
use Rattle.lua_num.specs.Bytes.{Text}
use Rattle.lua_model.specs.Datum.{Datum, nil, boolean, number, text, table, closure, native, host, is_nil, is_true, first_of, to_number, to_text, is_function, kind_name}
use Rattle.lua_model.specs.declared.plain.Plain.{Plain}
use Rattle.lua_model.specs.Pairs.{after}
use Rattle.lua_model.specs.Datum.{raw_equal}
use Rattle.lua_model.specs.Store.{Store, as_plain, table_at, raw_set}
use Rattle.lua_model.specs.Acts.{NativeAct, results, asks, protects, closes, Callee, plain, through, no_function}
use Rattle.lua_model.specs.Operators.{handler, callee, border}
use Rattle.lua_model.specs.Builtins as built
use Rattle.lua_model.specs.Builtins.{argument, any_value, a_table, a_number, a_string, number_or, as_table, builtins, plain_values, call_host, host_at, live_host, selected, next_pair, set_metatable_to, protection, entries}
use Rattle.agrees.proofs.Tasks.{IsTable, HasTable}

-- what a built-in function answers to arguments: it asks no host, and protects its first argument's call with the others
abbrev pub Plainly : List Datum → NativeAct → Type 0
Plainly args (asks h vs) = ⊥
Plainly args (protects g xs) = args ≡ g ∷ xs
Plainly args _ = Unit {0}

module _ (args : List Datum) where
  by_if : (b : Bool) (x y : NativeAct) → Plainly args x → Plainly args y → Plainly args (if b then x else y)
  by_if true x y p q = p
  by_if false x y p q = q

  by_any : (i : ℕ) (f : Text) (k : Datum → NativeAct) → ((v : Datum) → Plainly args (k v)) → Plainly args (any_value i f args k)
  by_any i f k h = go (argument i args)
    where
      go : (o : Option Datum) → Plainly args (elim o [ None ↦ built.bad_argument i f (codes "value expected") | Some v ↦ k v ])
      go None = tt
      go (Some v) = h v

  by_table : (i : ℕ) (f : Text) (k : ℕ → NativeAct) → ((t : ℕ) → Plainly args (k t)) → Plainly args (a_table i f args k)
  by_table i f k h = go (as_table (argument i args))
    where
      go : (o : Option ℕ) → Plainly args (elim o [ None ↦ built.wrong_argument i f (codes "table") args | Some v ↦ k v ])
      go None = tt
      go (Some v) = h v

  by_number : (i : ℕ) (f : Text) (k : ℤ → NativeAct) → ((t : ℤ) → Plainly args (k t)) → Plainly args (a_number i f args k)
  by_number i f k h = go (to_number (unwrap_or (argument i args) nil))
    where
      go : (o : Option ℤ) → Plainly args (elim o [ None ↦ built.wrong_argument i f (codes "number") args | Some v ↦ k v ])
      go None = tt
      go (Some v) = h v

  by_string : (i : ℕ) (f : Text) (k : Text → NativeAct) → ((t : Text) → Plainly args (k t)) → Plainly args (a_string i f args k)
  by_string i f k h = go (to_text (unwrap_or (argument i args) nil))
    where
      go : (o : Option Text) → Plainly args (elim o [ None ↦ built.wrong_argument i f (codes "string") args | Some v ↦ k v ])
      go None = tt
      go (Some v) = h v

  by_number_or : (other : ℤ) (i : ℕ) (f : Text) (k : ℤ → NativeAct) → ((t : ℤ) → Plainly args (k t)) → Plainly args (number_or other i f args k)
  by_number_or other i f k h = by_if (is_nil (unwrap_or (argument i args) nil)) (k other) (a_number i f args k) (h other) (by_number i f k h)

  by_selected : (n : ℤ) (others : List Datum) (s : Store) → Plainly args (selected n others s)
  by_selected (pos zero) others s = tt
  by_selected (pos (suc n)) others s = tt
  by_selected (negsuc n) others s = by_if (nat_lt n (length others)) _ _ tt tt

  after_key : (o : Option (Option (Datum × Datum))) (s : Store) → Plainly args (elim o [ None ↦ built.fails_with (codes "invalid key to 'next'") | Some p ↦ results (built.pair_or_nil p) s ])
  after_key None s = tt
  after_key (Some p) s = tt

  by_next : (pairs : List (Datum × Datum)) (k : Datum) (s : Store) → Plainly args (next_pair pairs k s)
  by_next pairs nil s = tt
  by_next pairs k s = after_key (after raw_equal nil is_nil pairs k) s

  by_set_metatable : (s : Store) (t : ℕ) (o : Option Datum) → Plainly args (set_metatable_to s t o)
  by_set_metatable s t None = tt
  by_set_metatable s t (Some nil) = by_if (is_nil (protection s (table_at s t).meta)) _ _ tt tt
  by_set_metatable s t (Some (table m)) = by_if (is_nil (protection s (table_at s t).meta)) _ _ tt tt
  by_set_metatable s t (Some (boolean b)) = tt
  by_set_metatable s t (Some (number b)) = tt
  by_set_metatable s t (Some (text b)) = tt
  by_set_metatable s t (Some (closure b)) = tt
  by_set_metatable s t (Some (native b)) = tt
  by_set_metatable s t (Some (host b)) = tt

  by_live : (o : Option ℕ) (s : Store) → Plainly args (elim o [ None ↦ built.one_result (boolean false) s | Some h ↦ closes h (built.with_closed s h) ])
  by_live None s = tt
  by_live (Some h) s = tt

  by_assert : (s : Store) (v : Datum) → Plainly args (if is_true v then results args s else (if is_nil (unwrap_or (argument 2 args) nil) then built.fails_with (codes "assertion failed!") else a_string 2 (codes "assert") args built.fails_with))
  by_assert s v = by_if (is_true v) _ _ tt (by_if (is_nil (unwrap_or (argument 2 args) nil)) _ _ tt (by_string 2 (codes "assert") built.fails_with (λ t. tt)))

  by_rawset : (s : Store) (t : ℕ) (k v : Datum) → Plainly args (if is_nil k then built.fails_with (codes "table index is nil") else built.one_result (table t) (raw_set s t k v))
  by_rawset s t k v = by_if (is_nil k) _ _ tt tt

abbrev Every : List (List Datum → Store → NativeAct) → Type 0
Every [] = Unit {0}
Every (f ∷ fs) = ((args : List Datum) (s : Store) → Plainly args (f args s)) × Every fs

by_pcall : (args : List Datum) (s : Store) → Plainly args (built.pcall args s)
by_pcall [] s = tt
by_pcall (f ∷ rest) s = refl

every : Every builtins
every = (
  (λ args s. tt),
  (
    (λ args s. by_any args 1 (codes "type") _ (λ v. tt)),
    (
      (λ args s. by_any args 1 (codes "tostring") _ (λ v. tt)),
      (
        (λ args s. by_any args 1 (codes "tonumber") _ (λ v. by_if args (is_nil (unwrap_or (argument 2 args) nil)) _ _ tt tt)),
        (
          (λ args s. tt),
          (
            (λ args s. by_any args 1 (codes "assert") _ (by_assert args s)),
            (
              (λ args s. by_if args (built.is_count_mark (first_of args)) _ _ tt (by_number args 1 (codes "select") _ (λ n. by_selected args n (drop 1 args) s))),
              (
                (λ args s. by_table args 1 (codes "rawget") _ (λ t. by_any args 2 (codes "rawget") _ (λ k. tt))),
                (
                  (λ args s. by_table args 1 (codes "rawset") _ (λ t. by_any args 2 (codes "rawset") _ (λ k. by_any args 3 (codes "rawset") _ (λ v. by_rawset args s t k v)))),
                  (
                    (λ args s. by_any args 1 (codes "rawequal") _ (λ a. by_any args 2 (codes "rawequal") _ (λ b. tt))),
                    (
                      (λ args s. by_table args 1 (codes "next") _ (λ t. by_next args (table_at s t).pairs (unwrap_or (argument 2 args) nil) s)),
                      (
                        (λ args s. by_table args 1 (codes "pairs") _ (λ t. tt)),
                        (
                          (λ args s. by_table args 1 (codes "ipairs") _ (λ t. tt)),
                          (
                            (λ args s. by_table args 1 (codes "unpack") _ (λ t. by_number_or args (pos 1) 2 (codes "unpack") _ (λ i. by_number_or args (pos (border (table_at s t).pairs)) 3 (codes "unpack") _ (λ j. by_if args (int_lt (pos 8000) (j -ℤ i +ℤ pos 1)) (built.fails_with (codes "too many results to unpack")) (results (entries s t i (built.natural (j -ℤ i +ℤ pos 1))) s) tt tt)))),
                            (
                              (λ args s. by_table args 1 (codes "setmetatable") _ (λ t. by_set_metatable args s t (argument 2 args))),
                              (
                                (λ args s. by_any args 1 (codes "getmetatable") _ (λ v. tt)),
                                (
                                  (λ args s. by_table args 1 (codes "ipairs_next") _ (λ t. by_number args 2 (codes "ipairs_next") _ (λ i. tt))),
                                  (
                                    by_pcall,
                                    (
                                      (λ args s. by_string args 1 (codes "host_close") _ (λ name. by_live args (live_host s.hosts 0 name) s)),
                                      tt,
                                    ),
                                  ),
                                ),
                              ),
                            ),
                          ),
                        ),
                      ),
                    ),
                  ),
                ),
              ),
            ),
          ),
        ),
      ),
    ),
  ),
)

found : (fs : List (List Datum → Store → NativeAct)) → Every fs → (n : ℕ) (args : List Datum) (s : Store) → Plainly args (elim (slice_get fs n) [ None ↦ results [] s | Some f ↦ f args s ])
found [] h n args s = tt
found (f ∷ fs) h zero args s = h.0 args s
found (f ∷ fs) h (suc n) args s = found fs h.1 n args s

pub natives_ask_none : (n : ℕ) (args : List Datum) (s : Store) → Plainly args (built.native n args s)
natives_ask_none n args s = found builtins every n args s

-- ## hosts

abbrev pub AsksNone : NativeAct → Type 0
AsksNone (asks h vs) = ⊥
AsksNone (protects g xs) = ⊥
AsksNone _ = Unit {0}

no_plain : (i : ℕ) (f : Text) (args : List Datum) (k : List Plain → NativeAct) → HasTable args → AsksNone (plain_values i f args k)
no_plain i f [] k h = absurd h
no_plain i f (v ∷ vs) k (inl h) = subst (λ v1. AsksNone (plain_values i f (v1 ∷ vs) k)) (sym h.1) tt
no_plain i f (v ∷ vs) k (inr h) = go (as_plain v) (λ p. no_plain (suc i) f vs (λ ps. k (p ∷ ps)) h)
  where
    go : (o : Option Plain) → ((p : Plain) → AsksNone (plain_values (suc i) f vs (λ ps. k (p ∷ ps)))) → AsksNone (elim o [ None ↦ built.bad_argument i f (codes "plain value expected, got " ++ kind_name v) | Some p ↦ plain_values (suc i) f vs (λ ps. k (p ∷ ps)) ])
    go None ih = tt
    go (Some p) ih = ih p

pub hosts_take_no_table : (h : ℕ) (args : List Datum) (s : Store) → HasTable args → AsksNone (call_host h args s)
hosts_take_no_table h args s has = go (host_at s h).live
  where
    go : (b : Bool) → AsksNone (if b then plain_values 1 (host_at s h).name args (asks h) else built.fails_with (codes "host is closed"))
    go true = no_plain 1 (host_at s h).name args (asks h) has
    go false = tt

abbrev pub ProtectsNone : NativeAct → Type 0
ProtectsNone (protects g xs) = ⊥
ProtectsNone _ = Unit {0}

plain_protects_none : (i : ℕ) (f : Text) (args : List Datum) (k : List Plain → NativeAct) → ((ps : List Plain) → ProtectsNone (k ps)) → ProtectsNone (plain_values i f args k)
plain_protects_none i f [] k h = h []
plain_protects_none i f (v ∷ vs) k h = go (as_plain v) (λ p. plain_protects_none (suc i) f vs (λ ps. k (p ∷ ps)) (λ ps. h (p ∷ ps)))
  where
    go : (o : Option Plain) → ((p : Plain) → ProtectsNone (plain_values (suc i) f vs (λ ps. k (p ∷ ps)))) → ProtectsNone (elim o [ None ↦ built.bad_argument i f (codes "plain value expected, got " ++ kind_name v) | Some p ↦ plain_values (suc i) f vs (λ ps. k (p ∷ ps)) ])
    go None ih = tt
    go (Some p) ih = ih p

pub hosts_protect_none : (h : ℕ) (args : List Datum) (s : Store) → ProtectsNone (call_host h args s)
hosts_protect_none h args s = go (host_at s h).live
  where
    go : (b : Bool) → ProtectsNone (if b then plain_values 1 (host_at s h).name args (asks h) else built.fails_with (codes "host is closed"))
    go true = plain_protects_none 1 (host_at s h).name args (asks h) (λ ps. tt)
    go false = tt

-- ## what is called

-- only a table stands for its handler; a function is called as it is
abbrev pub CalleeFine : Datum → Callee → Type 0
CalleeFine f (plain g) = (g ≡ f) × (is_function f ≡ true)
CalleeFine f (through h) = IsTable f × (is_function h ≡ true)
CalleeFine f (no_function v) = Unit {0}

handled_table : (s : Store) (f : Datum) (event : Text) → is_function (handler s f event) ≡ true → IsTable f
handled_table s nil event e = cc
handled_table s (boolean b) event e = cc
handled_table s (number b) event e = cc
handled_table s (text b) event e = cc
handled_table s (table t) event e = (t, refl)
handled_table s (closure b) event e = cc
handled_table s (native b) event e = cc
handled_table s (host b) event e = cc

pub callee_fine : (s : Store) (f : Datum) → CalleeFine f (callee s f)
callee_fine s f = go (is_function f) refl (is_function (handler s f (codes "__call"))) refl
  where
    go : (a : Bool) → is_function f ≡ a → (b : Bool) → is_function (handler s f (codes "__call")) ≡ b → CalleeFine f (if a then plain f else (if b then through (handler s f (codes "__call")) else no_function (text (codes "attempt to call a " ++ kind_name f ++ codes " value"))))
    go true e b q = (refl, e)
    go false e true q = (handled_table s f (codes "__call") q, q)
    go false e false q = tt
