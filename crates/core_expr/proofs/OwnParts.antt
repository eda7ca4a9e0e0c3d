-- What a function has beside the functions in it, and what a slice gives of it.
use Rattle.std.proofs.Common.{◌≡◌, refl, sym, ap, ◌∙◌, ℕ, List, Option, Some, None, Bor, length, min, take, true, arith}
use Rattle.std.proofs.lemmas.List.{take_min}
use Rattle.std.specs.List.{slice_get}
use Rattle.std.specs.Option.{option_copied}
use Rattle.std.specs.Prelude.{is_some}
use Rattle.std.specs.Slice.{IsItemAt}
use Rattle.std.proofs.lemmas.Option.{slice_get_read, slice_get_past}
use Rattle.lua_num.specs.Bytes.{Text}
use Rattle.proto.proofs.Views.{own_fields, view_proto_fields}
use Rattle.proto.specs.Chunk.{own}
use Rattle.proto.specs.View.{view_proto}
use Rattle.proto.specs.declared.parts.Constant.{Constant}
use Rattle.proto.specs.declared.parts.LocVar.{LocVar}
use Rattle.proto.specs.declared.proto.Proto.{Proto, out-Proto}
use Rattle.core_expr.specs.Places.{Place, as_text, as_name, name_of_local, name_of_entry, local_name}

pub own_is : (p : Proto) → own (view_proto p) ≡ own_fields p
own_is p = ap own (view_proto_fields p)

pub constants_are : (p : Proto) → (out-Proto p).constants ≡ (own (view_proto p)).constants
constants_are p = ap (λ f. f.constants) (sym (own_is p))

pub locals_are : (p : Proto) → (out-Proto p).locals ≡ (own (view_proto p)).locals
locals_are p = ap (λ f. f.locals) (sym (own_is p))

pub upvalue_names_are : (p : Proto) → (out-Proto p).upvalue_names ≡ (own (view_proto p)).upvalue_names
upvalue_names_are p = ap (λ f. f.upvalue_names) (sym (own_is p))

-- what a slice gives at an index
pub got : {A : Type 0} (items : List A) (i : ℕ) (found : Option (Bor A)) → IsItemAt items i found → option_copied found ≡ slice_get items i
got items i None is = sym (slice_get_past items i is.3)
got items i (Some item) is = sym (slice_get_read items (length items) i item.now refl is.3.0 is.1)

pub got_of : {A : Type 0} {items whole : List A} (i : ℕ) (found : Option (Bor A)) → IsItemAt items i found → items ≡ whole → option_copied found ≡ slice_get whole i
got_of {items = items} i found is same = got items i found is ∙ ap (λ those. slice_get those i) same

-- the name of a local by its entry
pub local_is : (at : Place) (r entry : ℕ) (local : Option LocVar) → Some entry ≡ slice_get at.entries r → local ≡ slice_get at.of.locals entry → name_of_local local ≡ local_name at r
local_is at r entry local entry_is is = ap name_of_local is ∙ ap (name_of_entry at) entry_is

-- a constant that is a name is there
pub name_there : (found : Option Constant) {name : Text} → Some name ≡ as_name (as_text found) → is_some found ≡ true
name_there None is = cc
name_there (Some constant) is = refl

-- as many as there are of the first ones
pub first_small : {A : Type 0} (items : List A) (count : ℕ) → count ≡ min (length items) 256 → take count items ≡ take 256 items
first_small items count is = let e : count ≡ min 256 (length items) = omega (arith, is) in ap (λ n. take n items) e ∙ take_min 256 items
