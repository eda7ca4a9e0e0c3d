-- The hosts of a set, seen through what the boxed hosts tell.
use Rattle.std.proofs.Common.{◌≡◌, refl, arith, suc, ◌-◌, ap, sym, ◌∙◌, subst, ℕ, ◌<◌, false, List, [], ◌∷◌, ◌++◌, Option, None, length, map, get_or, position}
use Rattle.std.proofs.Math.ListN.{set}
use Rattle.std.proofs.Math.Seq.{map-set_same}
use Rattle.std.proofs.lemmas.List.{map-append, length-map}
use Rattle.std.proofs.lemmas.Simd.{map-map}
use Rattle.std.specs.List.{list_any}
use Rattle.std.specs.Str.{bytes_eq}
use Rattle.std.specs.declared.alloc.Global.{Global}
use Rattle.std.specs.declared.dyn_box.DynBox.{DynBox}
use Rattle.lua_model.specs.declared.plain.Plain.{Plain}
use Rattle.lua_model.specs.declared.plain.Reply.{Reply}
use Rattle.host.specs.declared.log.LogEntry.{LogEntry}
use Rattle.host.specs.declared.set.HostSet.{HostSet}
use Rattle.host.specs.declared.slot.HostSlot.{HostSlot}
use Rattle.host.specs.Heard.{Exchange}
use Rattle.host.specs.Hosts.{HostState, HostSetState, NamesDiffer, host_at, names_of, has_name, number_of, host_called, called, last_reply}
use Rattle.host.specs.Views.{slot_state, set_state}
use Rattle.host.proofs.Names.{NamesDiffer-push, list_any-map, position-map, map-set_changed}

-- the names
abbrev pub slot_names : {X : Type 0} {F : X → Type 0} → List (HostSlot X F) → List (List ℕ)
slot_names slots = map (λ slot. slot.name) slots

pub names_of-slots : {X : Type 0} {F : X → Type 0} (told : DynBox X Global F → Option (List Exchange)) (slots : List (HostSlot X F)) → names_of (map (slot_state told) slots) ≡ slot_names slots
names_of-slots told slots = map-map (λ host. host.name) (slot_state told) slots

-- who has a name
pub number_of-slots : {X : Type 0} {F : X → Type 0} (told : DynBox X Global F → Option (List Exchange)) (slots : List (HostSlot X F)) (name : List ℕ)
    → number_of name (map (slot_state told) slots) ≡ position (λ other. bytes_eq other name) (slot_names slots)
number_of-slots told slots name =
    position-map (λ host. bytes_eq host.name name) (slot_state told) slots ∙ sym (position-map (λ other. bytes_eq other name) (λ slot. slot.name) slots)

has_name-slots : {X : Type 0} {F : X → Type 0} (told : DynBox X Global F → Option (List Exchange)) (slots : List (HostSlot X F)) (name : List ℕ)
    → has_name name (map (slot_state told) slots) ≡ list_any (λ other. bytes_eq other name) (slot_names slots)
has_name-slots told slots name =
    list_any-map (λ host. bytes_eq host.name name) (slot_state told) slots ∙ sym (list_any-map (λ other. bytes_eq other name) (λ slot. slot.name) slots)

-- names still differ behind a host of a new name, and where a host is changed that keeps its name
pub differ-pushed : {X : Type 0} {F : X → Type 0} (told : DynBox X Global F → Option (List Exchange)) (slots more : List (HostSlot X F)) (slot : HostSlot X F) (name : List ℕ)
    → NamesDiffer (slot_names slots) → has_name name (map (slot_state told) slots) ≡ false → more ≡ slots ++ slot ∷ [] → slot.name ≡ name → NamesDiffer (slot_names more)
differ-pushed told slots more slot name differ new is named =
    let names : slot_names more ≡ slot_names slots ++ name ∷ [] = ap slot_names is ∙ map-append (λ slot. slot.name) slots (slot ∷ []) ∙ ap (λ last. slot_names slots ++ last ∷ []) named in
    subst NamesDiffer (sym names) (NamesDiffer-push (slot_names slots) name differ (sym (has_name-slots told slots name) ∙ new))

pub differ-changed : {X : Type 0} {F : X → Type 0} (slots : List (HostSlot X F)) (number : ℕ) (slot new : HostSlot X F)
    → NamesDiffer (slot_names slots) → slot ≡ get_or slots number slot → new.name ≡ slot.name → NamesDiffer (slot_names (set slots number new))
differ-changed slots number slot new differ is named =
    let names : slot_names (set slots number new) ≡ slot_names slots = map-set_same (λ slot. slot.name) slots number new slot (named ∙ ap (λ slot. slot.name) is) in
    subst NamesDiffer (sym names) differ

-- one host is changed, as its state shows
pub changed-slot : {X : Type 0} {F : X → Type 0} (told : DynBox X Global F → Option (List Exchange)) (change : HostState → HostState) (slots : List (HostSlot X F)) (number : ℕ) (slot new : HostSlot X F)
    → number < length (map (slot_state told) slots) → slot ≡ get_or slots number slot → slot_state told new ≡ change (slot_state told slot)
    → map (slot_state told) (set slots number new) ≡ set (map (slot_state told) slots) number (change (host_at (map (slot_state told) slots) number))
changed-slot told change slots number slot new within is changed =
    let inside : number < length slots = rw (length-map slots (slot_state told)) at within in
    map-set_changed (slot_state told) change slots number slot new (record { name = []; live = None }) inside is changed

-- the reply of an entry that is pushed
pub last_reply-push : (log : List LogEntry) (entry : LogEntry) → last_reply (log ++ entry ∷ []) ≡ entry.reply
last_reply-push [] entry = refl
last_reply-push (first ∷ []) entry = refl
last_reply-push (first ∷ next ∷ log) entry = last_reply-push (next ∷ log) entry

-- and that of the entry in the last place
pub last_reply-at : (log : List LogEntry) (d : LogEntry) → 0 < length log → (get_or log (length log - 1) d).reply ≡ last_reply log
last_reply-at [] d some = absurd (omega arith)
last_reply-at (entry ∷ []) d some = refl
last_reply-at (entry ∷ next ∷ log) d some =
    let place : length (entry ∷ next ∷ log) - 1 ≡ suc (length (next ∷ log) - 1) = omega arith in
    ap (λ n. (get_or (entry ∷ next ∷ log) n d).reply) place ∙ last_reply-at (next ∷ log) d (omega arith)

-- a set after a call, from the parts that the call changed
pub called-set : {X : Type 0} {F : X → Type 0} (told : DynBox X Global F → Option (List Exchange)) (held old : HostSet X F) (number : ℕ) (slot new : HostSlot X F) (args : List Plain) (given : List Plain) (reply : Reply) (entries more : List LogEntry)
    → held ≡ old → number < length (set_state told old).hosts → slot ≡ get_or held.hosts.items number slot → slot_state told new ≡ host_called (slot_state told slot) given reply → given ≡ args
    → more ≡ entries ++ record { host = number; args = args; reply = reply } ∷ [] → entries ≡ held.log
    → record { hosts = map (slot_state told) (set held.hosts.items number new); log = more } ≡ called (set_state told old) number args (last_reply more)
called-set told held old number slot new args given reply entries more same within is changed passed pushed kept =
    let state : List HostState → List LogEntry → HostSetState = λ hosts log. record { hosts = hosts; log = log } in
    let entry : LogEntry = record { host = number; args = args; reply = reply } in
    let inside : number < length (set_state told held).hosts = subst (λ s. number < length (set_state told s).hosts) (sym same) within in
    let hosts = changed-slot told (λ host. host_called host args reply) held.hosts.items number slot new inside is (changed ∙ ap (λ xs. host_called (slot_state told slot) xs reply) passed) in
    ap (λ log. state (map (slot_state told) (set held.hosts.items number new)) log) (pushed ∙ ap (λ log. log ++ entry ∷ []) kept)
    ∙ ap (λ hosts. state hosts (held.log ++ entry ∷ [])) hosts
    ∙ ap (λ s. called (set_state told s) number args reply) same
    ∙ ap (called (set_state told old) number args) (sym (ap last_reply pushed ∙ last_reply-push entries entry))
