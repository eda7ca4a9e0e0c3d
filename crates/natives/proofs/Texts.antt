-- The texts and the truth of values.
use Rattle.std.proofs.Common.{◌≡◌, true, false, List, [], ◌∷◌, ◌++◌, map, get_or, codes, refl, sym, ap, ◌∙◌}
use Rattle.std.proofs.Math.ListN.{get_or-map}
use Rattle.lua_num.specs.Bytes.{Text}
use Rattle.lua_model.specs.declared.Value.{Value}
use Rattle.lua_model.specs.declared.Value.TheVariants.{Nil, Bool, Number, Text as TextValue, Table, Closure, Native, Host as HostValue}
use Rattle.lua_model.specs.Datum.{Datum, nil, boolean, number, text, table, closure, native, host, is_true}
use Rattle.lua_model.specs.Value.{is_true_value}
use Rattle.lua_model.specs.Store.{Store, Host}
use Rattle.lua_model.specs.Builtins.{shown, no_host}
use Rattle.lua_heap.specs.State.{HeapState, datum}
use Rattle.natives.specs.Shown.{shown_beside}

pub shown_is : (s : Store) (names : List Text) → map (λ k. k.name) s.hosts ≡ names → (d : Datum) → shown s d ≡ shown_beside names d
shown_is s names e nil = refl
shown_is s names e (boolean true) = refl
shown_is s names e (boolean false) = refl
shown_is s names e (number n) = refl
shown_is s names e (text t) = refl
shown_is s names e (table t) = refl
shown_is s names e (closure c) = refl
shown_is s names e (native n) = refl
shown_is s names e (host k) = ap (λ n. codes "function: host " ++ n) (sym (get_or-map (λ (h : Host). h.name) s.hosts k no_host) ∙ ap (λ l. get_or l k []) e)

pub all_shown : (s : Store) (names : List Text) → map (λ k. k.name) s.hosts ≡ names → (h : HeapState) (vs : List Value) → map (shown s) (map (datum h) vs) ≡ map (λ v. shown_beside names (datum h v)) vs
all_shown s names e h [] = refl
all_shown s names e h (v ∷ vs) = rw (shown_is s names e (datum h v), all_shown s names e h vs) refl

pub is_true_is : (h : HeapState) (v : Value) → is_true_value v ≡ is_true (datum h v)
is_true_is h Nil = refl
is_true_is h (Bool b) = refl
is_true_is h (Number n) = refl
is_true_is h (TextValue t) = refl
is_true_is h (Table t) = refl
is_true_is h (Closure c) = refl
is_true_is h (Native n) = refl
is_true_is h (HostValue k) = refl
