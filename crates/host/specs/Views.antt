-- To be believed. What a set of hosts is, given what the boxed hosts tell, and what they hear.
use Rattle.std.specs.Prelude.{ℕ, List, Option, Some, None, map, option_map, slice_index_or}
use Rattle.std.specs.declared.alloc.Global.{Global}
use Rattle.std.specs.declared.dyn_box.DynBox.{DynBox}
use Rattle.host.specs.declared.slot.HostSlot.{HostSlot}
use Rattle.host.specs.declared.set.HostSet.{HostSet}
use Rattle.host.specs.Heard.{Exchange}
use Rattle.host.specs.Hosts.{HostState, HostSetState}

-- one host of a set
abbrev pub slot_state : {X : Type 0} {F : X → Type 0} → (DynBox X Global F → Option (List Exchange)) → HostSlot X F → HostState
slot_state told slot = record { name = slot.name; live = option_map told slot.live }

-- the set
abbrev pub set_state : {X : Type 0} {F : X → Type 0} → (DynBox X Global F → Option (List Exchange)) → HostSet X F → HostSetState
set_state told set = record { hosts = map (slot_state told) set.hosts.items; log = set.log }

-- the set in crates above, where no signature shows the boxes: what is told there is that of a value with its type's table
abbrev pub set_told : {X : Type 0} {F : X → Type 0} → ((x : X) × F x → Option (List Exchange)) → HostSet X F → HostSetState
set_told told set = set_state (λ b. told (b.vtable, b.value)) set

-- the box of this number, while it is live
abbrev pub box_at : {X : Type 0} {F : X → Type 0} → HostSet X F → ℕ → Option (DynBox X Global F)
box_at set number = slice_index_or (map (λ slot. slot.live) set.hosts.items) number None

-- there is a box, and it hears these exchanges
abbrev pub BoxHears : {B : Type 0} → (B → List Exchange → Type 0) → Option B → List Exchange → Type 0
BoxHears hears None exchanges = ⊥
BoxHears hears (Some b) exchanges = hears b exchanges

-- the host of this number is live, and its box hears these exchanges
abbrev pub HostHears : {X : Type 0} {F : X → Type 0} → (DynBox X Global F → List Exchange → Type 0) → HostSet X F → ℕ → List Exchange → Type 0
HostHears hears set number exchanges = BoxHears hears (box_at set number) exchanges

-- the same in crates above
abbrev pub HostHearsTold : {X : Type 0} {F : X → Type 0} → ((x : X) × F x → List Exchange → Type 0) → HostSet X F → ℕ → List Exchange → Type 0
HostHearsTold hears set number exchanges = HostHears (λ b. hears (b.vtable, b.value)) set number exchanges
