-- The globals at the beginning of a run: the built-in functions and then the hosts, one after another.
use Rattle.std.proofs.Common.{None, ◌≡◌, ℕ, suc, ◌+◌, ◌<◌, ◌≤◌, ◌==◌, Bool, true, false, List, [], ◌∷◌, ◌++◌, length, append_assoc, map, take, drop, get_or, sym, ap, ◌∙◌, arith}
use Rattle.std.specs.Prelude.{if◌then◌else◌}
use Rattle.std.specs.Str.{bytes_eq}
use Rattle.std.proofs.Math.Seq.{drop-cons}
use Rattle.std.proofs.lemmas.Bool.{eq-eqb, ne_eqb}
use Rattle.std.proofs.lemmas.List.{drop_all, length-map, map-append, take_more}
use Rattle.lua_num.specs.Bytes.{Text}
use Rattle.lua_model.specs.Datum.{Datum, nil, native, host, is_nil}
use Rattle.lua_model.specs.Pairs.{set}
use Rattle.lua_model.specs.Store.{Host, Store}
use Rattle.lua_model.specs.Builtins.{ipairs_next_number, no_host, with_builtins, with_hosts}
use Rattle.lua_heap.specs.State.{HeapState, empty, store_of}
use Rattle.host.specs.Hosts.{HostState, name_at, is_live_at, names_of}
use Rattle.machine.specs.Outside.{host_of}
use Rattle.machine.proofs.HostsBeside.{host_is}

abbrev Globals : Type 0
Globals = List (Text × Datum)

abbrev with_value : Globals → Text → Datum → Globals
with_value globals name v = set bytes_eq nil is_nil globals name v

one_less : (n : ℕ) → n + 1 ≡ suc n
one_less n = omega arith

-- only the texts and the globals are others, where the globals are known
others : (old now : HeapState) (globals : Globals) → now ≡ record old { texts = now.texts; globals = globals } → now ≡ record old { texts = now.texts; globals = now.globals }
others old now globals is = is ∙ (λ i. record old { texts = now.texts; globals = same i })
  where
    same : globals ≡ now.globals
    same = sym (ap (λ (h : HeapState). h.globals) is)

-- ---- the built-in functions

-- those below a number are globals, of these names
pub record BuiltinsSet (names : List Text) (old now : HeapState) (n : ℕ) : Type 0 where
  pub state : now ≡ record old { texts = now.texts; globals = now.globals }
  pub left : with_builtins (drop n names) n now.globals ≡ with_builtins names 0 old.globals

next_builtin : (names : List Text) (n : ℕ) (globals : Globals) (passed : Bool) → n < length names → (n == ipairs_next_number) ≡ passed → with_builtins (drop (n + 1) names) (n + 1) (if passed then globals else with_value globals (get_or names n []) (native n)) ≡ with_builtins (drop n names) n globals
next_builtin names n globals passed within is =
    (λ i. with_builtins (drop (one_less n i) names) (one_less n i) (if sym is i then globals else with_value globals (get_or names n []) (native n)))
    ∙ ap (λ ns. with_builtins ns n globals) (sym (drop-cons names n [] within))

pub builtin_passed : {names : List Text} {old now : HeapState} {n : ℕ} → BuiltinsSet names old now n → n < length names → n ≡ ipairs_next_number → BuiltinsSet names old now (n + 1)
builtin_passed {names = names} {now = now} {n = n} so within is = record {
  state = so.state;
  left = next_builtin names n now.globals true within (eq-eqb n ipairs_next_number is) ∙ so.left;
}

pub builtin_set : {names : List Text} {old now : HeapState} {n : ℕ} (behind : HeapState) (name : Text) → BuiltinsSet names old now n → n < length names → (n ≡ ipairs_next_number → ⊥) → name ≡ get_or names n [] → behind ≡ record now { texts = behind.texts; globals = with_value now.globals name (native n) } → BuiltinsSet names old behind (n + 1)
builtin_set {names = names} {old = old} {now = now} {n = n} behind name so within other named is = record {
  state = others now behind _ is ∙ ap (λ (h : HeapState). record h { texts = behind.texts; globals = behind.globals }) so.state;
  left =
      ap (with_builtins (drop (n + 1) names) (n + 1)) (ap (λ (h : HeapState). h.globals) is ∙ ap (λ t. with_value now.globals t (native n)) named)
      ∙ next_builtin names n now.globals false within (ne_eqb n ipairs_next_number other)
      ∙ so.left;
}

pub builtins_set : {names : List Text} {old now : HeapState} {n : ℕ} → BuiltinsSet names old now n → length names ≤ n → now ≡ record old { texts = now.texts; globals = with_builtins names 0 old.globals }
builtins_set {names = names} {old = old} {now = now} {n = n} so all =
    so.state ∙ ap (λ globals. record old { texts = now.texts; globals = globals }) (ap (λ ns. with_builtins ns n now.globals) (sym (drop_all n names all)) ∙ so.left)

-- ---- the hosts

-- those below a number are named, and the live ones of them are globals by their names
pub record HostsSet (hosts : List HostState) (old now : HeapState) (n : ℕ) : Type 0 where
  pub state : now ≡ record old { texts = now.texts; globals = now.globals; host_names = old.host_names ++ names_of (take n hosts) }
  pub left : with_hosts (drop n (map host_of hosts)) n now.globals ≡ with_hosts (map host_of hosts) 0 old.globals

-- the value of a host's name, where it is live
abbrev with_host_set : Text → ℕ → Bool → Globals → Globals
with_host_set name n live globals = if live then with_value globals name (host n) else globals

next_host : (hosts : List HostState) (n : ℕ) (globals : Globals) (live : Bool) → n < length hosts → live ≡ is_live_at hosts n → with_hosts (drop (n + 1) (map host_of hosts)) (n + 1) (with_host_set (name_at hosts n) n live globals) ≡ with_hosts (drop n (map host_of hosts)) n globals
next_host hosts n globals live within is =
    (λ i. with_hosts (drop (one_less n i) (map host_of hosts)) (one_less n i) (with_host_set (name_at hosts n) n (is i) globals))
    ∙ ap (λ (k : Host). with_hosts (drop (suc n) (map host_of hosts)) (suc n) (if k.live then with_value globals k.name (host n) else globals)) (sym (host_is hosts n))
    ∙ ap (λ hs. with_hosts hs n globals) (sym (drop-cons (map host_of hosts) n no_host (omega (arith, within, length-map hosts host_of))))

names_more : (hosts : List HostState) (n : ℕ) → n < length hosts → names_of (take n hosts) ++ name_at hosts n ∷ [] ≡ names_of (take (n + 1) hosts)
names_more hosts n within =
    let no_one : HostState = record { name = []; live = None } in
    sym (ap names_of (take_more hosts n no_one within) ∙ map-append (λ (k : HostState). k.name) (take n hosts) (get_or hosts n no_one ∷ []))

-- one more is named
abbrev named : HeapState → Text → HeapState
named h name = record h { host_names = h.host_names ++ name ∷ [] }

-- the next one is named, and its name a global where it is live
pub host_set : {hosts : List HostState} {old now : HeapState} {n : ℕ} (between behind : HeapState) (name : Text) (live : Bool) → HostsSet hosts old now n → n < length hosts → name ≡ name_at hosts n → live ≡ is_live_at hosts n → between ≡ named now name → behind ≡ record between { texts = behind.texts; globals = with_host_set name n live between.globals } → HostsSet hosts old behind (n + 1)
host_set {hosts = hosts} {old = old} {now = now} {n = n} between behind name live so within name_is live_is named_is is = record {
  state =
      others between behind _ is
      ∙ ap (λ (h : HeapState). record h { texts = behind.texts; globals = behind.globals }) named_is
      ∙ ap (λ (h : HeapState). record h { texts = behind.texts; globals = behind.globals; host_names = h.host_names ++ name ∷ [] }) so.state
      ∙ ap (λ names. record old { texts = behind.texts; globals = behind.globals; host_names = names }) names_are;
  left =
      ap (with_hosts (drop (n + 1) (map host_of hosts)) (n + 1)) (ap (λ (h : HeapState). h.globals) is ∙ (λ i. with_host_set (name_is i) n live (named_is i).globals))
      ∙ next_host hosts n now.globals live within live_is
      ∙ so.left;
}
  where
    names_are : (old.host_names ++ names_of (take n hosts)) ++ name ∷ [] ≡ old.host_names ++ names_of (take (n + 1) hosts)
    names_are =
        append_assoc old.host_names (names_of (take n hosts)) (name ∷ [])
        ∙ ap (λ names. old.host_names ++ names) (ap (λ t. names_of (take n hosts) ++ t ∷ []) name_is ∙ names_more hosts n within)

-- ---- the store

-- that of a heap in which all were set, behind one with nothing
pub all_set : (names : List Text) (hosts : List Host) (host_names : List Text) (new between behind : HeapState) → new ≡ empty → between ≡ record new { texts = between.texts; globals = with_builtins names 0 new.globals } → behind ≡ record between { texts = behind.texts; globals = with_hosts hosts 0 between.globals; host_names = host_names } → store_of behind hosts ≡ record { tables = []; globals = with_hosts hosts 0 (with_builtins names 0 []); hosts = hosts }
all_set names hosts host_names new between behind none builtins named_hosts =
    let told : HeapState → Store = λ h. record { tables = h.tables; globals = with_hosts hosts 0 h.globals; hosts = hosts } in
    ap (λ h. store_of h hosts) named_hosts ∙ ap told builtins ∙ ap (λ (h : HeapState). told (record h { globals = with_builtins names 0 h.globals })) none
