-- Where locals start, that the names of a source are shown, and that locals are declared one behind the other.
use Rattle.std.proofs.Common.{◌≡◌, ℕ, suc, ◌≤◌, Bool, true, false, List, [], ◌∷◌, ◌++◌, length, length-append, append_assoc, Option, refl, ap₂, ◌∙◌, subst, arith}
use Rattle.std.proofs.lemmas.Bool.Decides.{nat_tests}
use Rattle.std.specs.List.{AllByRecursion}
use Rattle.std.specs.Prelude.{◌==◌}
use Rattle.lua_num.specs.Bytes.{Text}
use Rattle.lua_tree.specs.Names.{is_name}
use Rattle.proto.specs.declared.parts.LocVar.{LocVar}
use Rattle.recover_expr.specs.Locals.{Scope, begins_hidden, entered, innermost}
use Rattle.recover_expr.specs.declared.locals.Declared.{Declared}
use Rattle.reads_back.proofs.ActsRead.{Declares, numbers_from}

-- ---- where they start

-- none of these starts before a pc
abbrev pub StartFrom : (pc : ℕ) → List LocVar → Type 0
StartFrom pc entries = AllByRecursion (λ (entry : LocVar). pc ≤ entry.start) entries

pub start_both : (pc : ℕ) (entries others : List LocVar) → StartFrom pc entries → StartFrom pc others → StartFrom pc (entries ++ others)
start_both pc [] others first second = second
start_both pc (entry ∷ entries) others first second = (first.0, start_both pc entries others first.1 second)

pub start_later : (pc more : ℕ) (entries : List LocVar) → pc ≤ more → StartFrom more entries → StartFrom pc entries
start_later pc more [] before all = tt
start_later pc more (entry ∷ entries) before all = (omega (arith, before, all.0), start_later pc more entries before all.1)

-- ---- their names

-- a name that a source can write does not begin with a parenthesis
pub shown_name : (text : Text) → is_name text ≡ true → begins_hidden text ≡ false
shown_name [] good = refl
shown_name (byte ∷ text) good = by (byte == 40) refl
  where
    by : (hidden : Bool) → (byte == 40) ≡ hidden → (byte == 40) ≡ false
    by false is = is
    by true is = let same : byte ≡ 40 = grind (arith, nat_tests) in absurd (no_letter (subst (λ byte. is_name (byte ∷ text) ≡ true) same good))
      where
        no_letter : is_name (40 ∷ text) ≡ true → ⊥
        no_letter good = cc

-- ---- they are declared

pub one_declared : (step : Option ℕ) (scope : Scope) → Declares 1 scope (entered step scope)
one_declared step scope =
    let one : Declared = record { outer = innermost scope; register = length scope.active; step = step; captured = false } in
    record { declared_more = length-append scope.declared (one ∷ []); active_more = refl }

pub more_declared : (count : ℕ) (scope mid behind : Scope) → Declares 1 scope mid → Declares count mid behind → Declares (suc count) scope behind
more_declared count scope mid behind one more = record {
  declared_more = omega (arith, one.declared_more, more.declared_more);
  active_more =
      let next : length mid.declared ≡ suc (length scope.declared) = omega (arith, one.declared_more) in
      more.active_more
      ∙ ap₂ (λ active first. active ++ numbers_from first count) one.active_more next
      ∙ append_assoc scope.active (length scope.declared ∷ []) (numbers_from (suc (length scope.declared)) count);
}
