-- The upvalues of a function that stands in another are named as what they capture, by names that a source can write.
use Rattle.std.proofs.Common.{◌≡◌, ℕ, zero, suc, Bool, true, false, cond, List, [], ◌∷◌, map, Option, Some, None, sym, ap, ◌∙◌, subst, if◌then◌else◌}
use Rattle.std.proofs.lemmas.Option.{get_or_from_slice_get}
use Rattle.std.proofs.lemmas.Slice.Eq.{bytes_eq-Decides}
use Rattle.std.specs.Prelude.{get_or, slice_get}
use Rattle.lua_num.specs.Bytes.{Text}
use Rattle.lua_tree.specs.Names.{is_name}
use Rattle.lua_tree.specs.Scoping.{Use, global_use, local_use, upvalue_use}
use Rattle.core_expr.specs.Places.{as_name, place}
use Rattle.recover_expr.specs.Situation.{Function}
use Rattle.scheme.specs.Functions.{name_of}
use Rattle.scheme.specs.Making.{Where, in_register, in_upvalue, is_declaration, register_among, where_is}
use Rattle.scheme.specs.declared.making.Active.{Active}
use Rattle.scheme_stands.specs.Functions.{captured_name}
use Rattle.scheme_stands.specs.Words.{Captured, CapturedBy, Fn, IsCaptured, Law, Means, MeansBy, Names}
use Rattle.reads_back.proofs.ListedLocals.{own_named}
use Rattle.reads_back.proofs.NameReads.{AreListed}
use Rattle.reads_back.proofs.Tests.{given_is, second_of_both}
use Rattle.reads_back.proofs.WrittenFormed.{as_named, entry_as_name}

-- ---- the name of a declaration

-- it is that of the local in its register, if there is one
declared_by : (is : Bool) (one : Active) (others : List Active) (register : ℕ) (name : Text) (x : Active) → (slice_get others register ≡ Some x → name ≡ x.local.name) → slice_get (one ∷ others) (cond is 0 (suc register)) ≡ Some x → cond is one.local.name name ≡ x.local.name
declared_by true one others register name x further there = let same : one ≡ x = cc in ap (λ (x : Active). x.local.name) same
declared_by false one others register name x further there = further there

pub declared_name : (declaration : ℕ) (active : List Active) (x : Active) → slice_get active (register_among declaration active) ≡ Some x → name_of declaration active ≡ x.local.name
declared_name declaration [] x there = cc
declared_name declaration (one ∷ others) x there =
    declared_by (is_declaration declaration one.local) one others (register_among declaration others) (name_of declaration others) x (declared_name declaration others x) there

-- ---- what is listed is a name

-- something has this name, which a source can write
pub record IsNameOf (name : Option Text) (text : Text) : Type 0 where
  pub is : name ≡ Some text
  pub good : is_name text ≡ true

pub is_name_of : (name : Option Text) (text : Text) → as_name name ≡ Some text → IsNameOf name text
is_name_of None text is = cc
is_name_of (Some name) text is =
    let same = given_is (is_name name) name text is in
    record { is = ap Some same; good = as_named (Some name) text is }

written : (name text : Text) → name ≡ text → is_name text ≡ true → as_name (Some name) ≡ Some text
written name text same good = ap (λ name. as_name (Some name)) same ∙ ap (λ good. if good then Some text else None) good

-- ---- what is captured

module _ {f : Function} {g : Fn} {active : List Active} {listed : List ℕ} (n : Names) (law : g.law ≡ Some n) (all : AreListed f g active listed) (same : f.of.upvalue_names ≡ g.upvalue_names) where
  as_meant : (text : Text) (w : Where) → MeansBy n active text w → Means g.law active text w
  as_meant text w means = subst (λ (law : Law). Means law active text w) (sym law) means

  name_inside : (text : Text) (one : Use) → IsCaptured n active text (where_is one active) → as_name (Some (captured_name active g.upvalue_names one)) ≡ Some text
  name_inside text (local_use declaration) captured =
      let r = register_among declaration active in
      let found = own_named text active r captured.0 in
      let name : text ≡ found.local.local.name = (bytes_eq-Decides text found.local.local.name).0 (second_of_both _ _ found.named) in
      let there = all.listed_as text (in_register r) (as_meant text (in_register r) captured.0) in
      written (name_of declaration active) text (declared_name declaration active found.local found.there ∙ sym name) (entry_as_name (place f.of listed f.short) (slice_get listed r) text there.1)
  name_inside text (upvalue_use slot) captured =
      let there = is_name_of (slice_get f.of.upvalue_names slot) text (all.listed_as text (in_upvalue slot) (as_meant text (in_upvalue slot) captured)) in
      written (get_or g.upvalue_names slot []) text (get_or_from_slice_get g.upvalue_names slot text [] (ap (λ (names : List Text). slice_get names slot) (sym same) ∙ there.is)) there.good
  name_inside text global_use captured = absurd captured

  names_inside : (names : List Text) (uses : List Use) → CapturedBy n active names uses → (text : Text) (slot : ℕ) → slice_get names slot ≡ Some text → as_name (slice_get (map (captured_name active g.upvalue_names) uses) slot) ≡ Some text
  names_inside [] uses captured text slot is = cc
  names_inside (name ∷ names) [] captured text slot is = absurd captured
  names_inside (name ∷ names) (one ∷ uses) captured text zero is = name_inside name one captured.0 ∙ is
  names_inside (name ∷ names) (one ∷ uses) captured text (suc slot) is = names_inside names uses captured.1 text slot is

-- where what is around is named by names that a source can write
pub named_inside : {f : Function} {g : Fn} {active : List Active} {listed : List ℕ} (n : Names) → g.law ≡ Some n → AreListed f g active listed → (names : List Text) (uses : List Use) → Captured g.law active names uses → f.of.upvalue_names ≡ g.upvalue_names →
    (text : Text) (slot : ℕ) → slice_get names slot ≡ Some text → as_name (slice_get (map (captured_name active g.upvalue_names) uses) slot) ≡ Some text
named_inside {f} {g} {active} n law all names uses captured same = names_inside n law all same names uses (subst (λ (law : Law). Captured law active names uses) law captured)
