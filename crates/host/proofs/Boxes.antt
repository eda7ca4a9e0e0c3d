-- What the boxed hosts of a set hear behind a change of one of them.
use Rattle.std.proofs.Common.{◌≡◌, ◌≢◌, ap, sym, ◌∙◌, subst, ℕ, ◌<◌, List, [], ◌∷◌, ◌++◌, Option, None, length, map, get_or}
use Rattle.std.proofs.Math.ListN.{set}
use Rattle.std.proofs.lemmas.List.{get_or-map, get_or-set_same, get_or-set_other, length-map, map-set}
use Rattle.std.specs.declared.alloc.Global.{Global}
use Rattle.std.specs.declared.dyn_box.DynBox.{DynBox}
use Rattle.lua_model.specs.declared.plain.Plain.{Plain}
use Rattle.lua_model.specs.declared.plain.Reply.{Reply}
use Rattle.host.specs.declared.log.LogEntry.{LogEntry}
use Rattle.host.specs.declared.set.HostSet.{HostSet}
use Rattle.host.specs.declared.slot.HostSlot.{HostSlot}
use Rattle.host.specs.Heard.{Exchange}
use Rattle.host.specs.Hosts.{last_reply}
use Rattle.host.specs.Views.{slot_state, set_state, BoxHears, HostHears}
use Rattle.host.proofs.Slots.{last_reply-push}

-- the boxes
abbrev pub slot_boxes : {X : Type 0} {F : X → Type 0} → List (HostSlot X F) → List (Option (DynBox X Global F))
slot_boxes slots = map (λ slot. slot.live) slots

-- where one is changed, the others hear the same
pub others_hear : {X : Type 0} {F : X → Type 0} (hears : DynBox X Global F → List Exchange → Type 0) (slots : List (HostSlot X F)) (number other : ℕ) (new : HostSlot X F) (exchanges : List Exchange)
    → other ≢ number → BoxHears hears (get_or (slot_boxes slots) other None) exchanges → BoxHears hears (get_or (slot_boxes (set slots number new)) other None) exchanges
others_hear hears slots number other new exchanges differs h =
    subst (λ box. BoxHears hears box exchanges)
    (sym (ap (λ boxes. get_or boxes other None) (map-set (λ slot. slot.live) slots number new) ∙ get_or-set_other (slot_boxes slots) number other new.live None differs)) h

-- and that one hears what the change makes of what it heard
changed_hears : {X : Type 0} {F : X → Type 0} (hears : DynBox X Global F → List Exchange → Type 0) (slots : List (HostSlot X F)) (number : ℕ) (slot new : HostSlot X F) (before behind : List Exchange)
    → number < length slots → slot ≡ get_or slots number slot → (BoxHears hears slot.live before → BoxHears hears new.live behind)
    → BoxHears hears (get_or (slot_boxes slots) number None) before → BoxHears hears (get_or (slot_boxes (set slots number new)) number None) behind
changed_hears hears slots number slot new before behind within is change h =
    let held : get_or (slot_boxes slots) number None ≡ slot.live = get_or-map (λ slot. slot.live) slots number slot None within ∙ ap (λ slot. slot.live) (sym is) in
    let inside : number < length (slot_boxes slots) = subst (λ n. number < n) (sym (length-map slots (λ slot. slot.live))) within in
    let left : get_or (slot_boxes (set slots number new)) number None ≡ new.live =
    ap (λ boxes. get_or boxes number None) (map-set (λ slot. slot.live) slots number new) ∙ get_or-set_same (slot_boxes slots) number new.live None inside in
    subst (λ box. BoxHears hears box behind) (sym left) (change (subst (λ box. BoxHears hears box before) held h))

-- behind a call, from the parts that the call changed
pub called_hears : {X : Type 0} {F : X → Type 0} (hears : DynBox X Global F → List Exchange → Type 0) (told : DynBox X Global F → Option (List Exchange)) (held old : HostSet X F) (number : ℕ) (slot new : HostSlot X F)
    (args given : List Plain) (reply : Reply) (entries more : List LogEntry) (before : List Exchange)
    → held ≡ old → number < length (set_state told old).hosts → slot ≡ get_or held.hosts.items number slot
    → (BoxHears hears slot.live before → BoxHears hears new.live (before ++ record { args = given; reply = reply } ∷ [])) → given ≡ args
    → more ≡ entries ++ record { host = number; args = args; reply = reply } ∷ [] → HostHears hears old number before
    → BoxHears hears (get_or (slot_boxes (set held.hosts.items number new)) number None) (before ++ record { args = args; reply = last_reply more } ∷ [])
called_hears hears told held old number slot new args given reply entries more before same within is change passed pushed h =
    let exchange : List Plain → Reply → Exchange = λ args reply. record { args = args; reply = reply } in
    let behind : Exchange → List Exchange = λ last. before ++ last ∷ [] in
    let states : number < length (set_state told held).hosts = subst (λ s. number < length (set_state told s).hosts) (sym same) within in
    let inside : number < length held.hosts.items = rw (length-map held.hosts.items (slot_state told)) at states in
    let last : exchange given reply ≡ exchange args (last_reply more) = ap (λ xs. exchange xs reply) passed ∙ ap (exchange args) (sym (ap last_reply pushed ∙ last_reply-push entries _)) in
    subst (λ e. BoxHears hears (get_or (slot_boxes (set held.hosts.items number new)) number None) (behind e)) last
    (changed_hears hears held.hosts.items number slot new before (behind (exchange given reply)) inside is change (subst (λ s. HostHears hears s number before) (sym same) h))
