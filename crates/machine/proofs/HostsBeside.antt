-- The hosts of a set as the definitions have them: their names, which are live, and what a call and a closing leave of them.
use Rattle.std.proofs.Common.{◌≡◌, ◌≢◌, refl, sym, ap, ◌∙◌, inl, inr, ℕ, zero, suc, ◌+◌, ◌<◌, Bool, true, false, ◌&&◌, List, [], ◌∷◌, length, map, get_or, Option, Some, None, is_some, arith}
use Rattle.std.specs.Prelude.{option_map, slice_set, if◌then◌else◌}
use Rattle.std.specs.Str.{bytes_eq}
use Rattle.std.proofs.Math.ListN.{get_or-map}
use Rattle.std.proofs.Math.Seq.{map-set_same}
use Rattle.std.proofs.lemmas.Bool.{false_from_ne_true, cases_lt}
use Rattle.std.proofs.lemmas.List.{length-map, map-set}
use Rattle.std.proofs.lemmas.List.Folds.{list_any_at}
use Rattle.std.proofs.lemmas.List.Quantifiers.{position-Some}
use Rattle.std.proofs.lemmas.Simd.{map-map}
use Rattle.std.proofs.lemmas.Slice.Eq.{bytes_eq-Decides}
use Rattle.lua_num.specs.Bytes.{Text}
use Rattle.lua_model.specs.declared.plain.Plain.{Plain}
use Rattle.lua_model.specs.declared.plain.Reply.{Reply as HostReply}
use Rattle.lua_model.specs.Store.{Host}
use Rattle.lua_model.specs.Builtins.{live_host, no_host}
use Rattle.lua_heap.specs.State.{HeapState}
use Rattle.host.specs.Heard.{heard_after}
use Rattle.host.specs.Hosts.{HostState, HostSetState, NamesDiffer, host_at, name_at, is_live_at, names_of, number_of, host_called, called, closed}
use Rattle.host.proofs.Names.{is_some-position}
use Rattle.machine.specs.Outside.{host_of, hosts_of, AreNamed}

-- behind the last host
abbrev no_one : HostState
no_one = record { name = []; live = None }

pub names_are : (h : HeapState) (set : HostSetState) → AreNamed h set → map (λ k. k.name) (hosts_of set) ≡ h.host_names
names_are h set named = map-map (λ (k : Host). k.name) host_of set.hosts ∙ sym named

pub host_is : (hosts : List HostState) (k : ℕ) → get_or (map host_of hosts) k no_host ≡ host_of (host_at hosts k)
host_is hosts k = get_or-map host_of hosts k no_one

-- ---- a call

is_some_mapped : {A B : Type 0} (f : A → B) (o : Option A) → is_some (option_map f o) ≡ is_some o
is_some_mapped f None = refl
is_some_mapped f (Some x) = refl

-- it leaves the hosts as the definitions have them
pub hosts_called : (set : HostSetState) (k : ℕ) (args : List Plain) (reply : HostReply) → hosts_of (called set k args reply) ≡ hosts_of set
hosts_called set k args reply =
    map-set_same host_of set.hosts k (host_called (host_at set.hosts k) args reply) no_one (λ i. record { name = name_at set.hosts k; live = is_some_mapped (option_map (λ heard. heard_after heard args reply)) (host_at set.hosts k).live i })

pub names_called : (set : HostSetState) (k : ℕ) (args : List Plain) (reply : HostReply) → names_of (called set k args reply).hosts ≡ names_of set.hosts
names_called set k args reply = map-set_same (λ host. host.name) set.hosts k (host_called (host_at set.hosts k) args reply) no_one refl

-- ---- a closing

pub names_closed : (set : HostSetState) (k : ℕ) → names_of (closed set k).hosts ≡ names_of set.hosts
names_closed set k = map-set_same (λ host. host.name) set.hosts k (record (host_at set.hosts k) { live = None }) no_one refl

-- of a live host
pub hosts_closed : (set : HostSetState) (k : ℕ) → hosts_of (closed set k) ≡ slice_set (hosts_of set) k (record (get_or (hosts_of set) k no_host) { live = false })
hosts_closed set k =
    map-set host_of set.hosts k (record (host_at set.hosts k) { live = None })
    ∙ ap (λ (host : Host). slice_set (hosts_of set) k (record host { live = false })) (sym (host_is set.hosts k))

-- of a closed one
pub hosts_closed_again : (set : HostSetState) (k : ℕ) → is_live_at set.hosts k ≡ false → hosts_of (closed set k) ≡ hosts_of set
hosts_closed_again set k was =
    map-set_same host_of set.hosts k (record (host_at set.hosts k) { live = None }) no_one (λ i. record { name = name_at set.hosts k; live = sym was i })

-- ---- the live host of a name

none_live : (hosts : List HostState) (n : ℕ) (name : Text) → ((k : ℕ) → k < length hosts → bytes_eq (name_at hosts k) name ≡ false) → live_host (map host_of hosts) n name ≡ None
none_live [] n name other = refl
none_live (h ∷ hosts) n name other =
    ap (λ b. if b && is_some h.live then Some n else live_host (map host_of hosts) (suc n) name) (other zero (omega arith))
    ∙ none_live hosts (suc n) name (λ k within. other (suc k) (omega arith))

one_live : (hosts : List HostState) (n k : ℕ) (name : Text) → k < length hosts → bytes_eq (name_at hosts k) name ≡ true → ((j : ℕ) → j < length hosts → j ≢ k → bytes_eq (name_at hosts j) name ≡ false) → live_host (map host_of hosts) n name ≡ (if is_live_at hosts k then Some (n + k) else None)
one_live [] n k name within is other = absurd (omega arith)
one_live (h ∷ hosts) n zero name within is other =
    let none = none_live hosts (suc n) name (λ j low. other (suc j) (omega arith) (λ e. omega (arith, e))) in
    let place : n ≡ n + 0 = omega arith in
    λ i. if is i && is_some h.live then Some (place i) else none i
one_live (h ∷ hosts) n (suc k) name within is other =
    let place : suc n + k ≡ n + suc k = omega arith in
    ap (λ b. if b && is_some h.live then Some n else live_host (map host_of hosts) (suc n) name) (other zero (omega arith) (λ e. omega (arith, e)))
    ∙ one_live hosts (suc n) k name (omega arith) is (λ j low differs. other (suc j) (omega arith) (λ e. differs (omega (arith, e))))
    ∙ ap (λ m. if is_live_at hosts k then Some m else None) place

none_found : (hosts : List HostState) (name : Text) → number_of name hosts ≡ None → (k : ℕ) → k < length hosts → bytes_eq (name_at hosts k) name ≡ false
none_found hosts name none k within = false_from_ne_true _ (λ is.
    let test : HostState → Bool = λ host. bytes_eq host.name name in
    let found : is_some (number_of name hosts) ≡ true = is_some-position test hosts ∙ list_any_at test hosts k no_one within is in
    let clash : false ≡ true = sym (ap is_some none) ∙ found in
    cc)

others_differ : (hosts : List HostState) (name : Text) (k : ℕ) → NamesDiffer (names_of hosts) → k < length hosts → bytes_eq (name_at hosts k) name ≡ true → (j : ℕ) → j < length hosts → j ≢ k → bytes_eq (name_at hosts j) name ≡ false
others_differ hosts name k differ within is j low not_k = false_from_ne_true _ (λ also.
    let at : (n : ℕ) → get_or (names_of hosts) n [] ≡ name_at hosts n = λ n. get_or-map (λ host. host.name) hosts n no_one in
    let count : length (names_of hosts) ≡ length hosts = length-map hosts (λ host. host.name) in
    let this : name_at hosts k ≡ name = (bytes_eq-Decides (name_at hosts k) name).0 is in
    let that : name_at hosts j ≡ name = (bytes_eq-Decides (name_at hosts j) name).0 also in
    let same : get_or (names_of hosts) j [] ≡ get_or (names_of hosts) k [] = at j ∙ that ∙ sym this ∙ sym (at k) in
    elim (cases_lt j k) [
      | inl before ↦ differ j k before (omega (arith, count)) same
      | inr behind ↦ differ k j (omega (arith, not_k)) (omega (arith, count)) (sym same)
    ])

-- no host has the name
pub no_live : (set : HostSetState) (name : Text) → number_of name set.hosts ≡ None → live_host (hosts_of set) 0 name ≡ None
no_live set name none = none_live set.hosts 0 name (none_found set.hosts name none)

-- the first one that has it is the only one
pub found_live : (set : HostSetState) (name : Text) (k : ℕ) → NamesDiffer (names_of set.hosts) → number_of name set.hosts ≡ Some k → live_host (hosts_of set) 0 name ≡ (if is_live_at set.hosts k then Some k else None)
found_live set name k differ found =
    let there = position-Some (λ host. bytes_eq host.name name) set.hosts k no_one found in
    let place : 0 + k ≡ k = omega arith in
    one_live set.hosts 0 k name there.0 there.1 (others_differ set.hosts name k differ there.0 there.1)
    ∙ ap (λ m. if is_live_at set.hosts k then Some m else None) place
