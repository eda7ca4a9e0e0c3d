-- Mentions with their roles, and how many of them are of one role and name and mean a global, by what the names ahead mean.
use Rattle.std.proofs.Common.{◌≡◌, ℕ, ◌+◌, Bool, true, false, List, [], ◌∷◌, ◌++◌, refl, sym, ap, ◌∙◌, arith, drop}
use Rattle.std.specs.Prelude.{◌&&◌, if◌then◌else◌}
use Rattle.std.specs.Str.{bytes_eq}
use Rattle.lua_num.specs.Bytes.{Text}
use Rattle.lua_tree.specs.Scoping.{Use, local_use, upvalue_use, global_use}
use Rattle.scheme.specs.Making.{head_or}
use Rattle.source_globals.specs.Named.{Role, is_role}

abbrev pub Mention : Type 0
Mention = Role × Text

abbrev pub is_global : Use → Bool
is_global (local_use declaration) = false
is_global (upvalue_use slot) = false
is_global global_use = true

abbrev pub one_if : Bool → ℕ
one_if b = if b then 1 else 0

-- whether a mention whose name means this is one of this role and name, and of a global
abbrev pub is_mine : Role → Text → Mention → Use → Bool
is_mine role name m means = is_role role m.0 && (bytes_eq name m.1 && is_global means)

-- how many mentions are, by what the next names mean
abbrev pub owed : Role → Text → List Mention → List Use → ℕ
owed role name [] uses = 0
owed role name (m ∷ ms) uses = one_if (is_mine role name m (head_or global_use uses)) + owed role name ms (drop 1 uses)

-- the names behind them
abbrev pub passed : List Mention → List Use → List Use
passed [] uses = uses
passed (m ∷ ms) uses = passed ms (drop 1 uses)

pub passed_both : (xs ys : List Mention) (uses : List Use) → passed (xs ++ ys) uses ≡ passed ys (passed xs uses)
passed_both [] ys uses = refl
passed_both (x ∷ xs) ys uses = passed_both xs ys (drop 1 uses)

pub owed_both : (role : Role) (name : Text) (xs ys : List Mention) (uses : List Use) → owed role name (xs ++ ys) uses ≡ owed role name xs uses + owed role name ys (passed xs uses)
owed_both role name [] ys uses = omega arith
owed_both role name (x ∷ xs) ys uses =
    let h = owed_both role name xs ys (drop 1 uses) in
    let one = one_if (is_mine role name x (head_or global_use uses)) in
    ap (λ n. one + n) h ∙ omega arith

-- what is no global is not counted, and of a global the role and the name decide
none_by : (a b c : Bool) → c ≡ false → one_if (a && (b && c)) ≡ 0
none_by false b c e = refl
none_by true false c e = refl
none_by true true c e = ap one_if e

pub not_mine : (role : Role) (name : Text) (m : Mention) (means : Use) → is_global means ≡ false → one_if (is_mine role name m means) ≡ 0
not_mine role name m means e = none_by (is_role role m.0) (bytes_eq name m.1) (is_global means) e

one_by : (a b c : Bool) → c ≡ true → one_if (a && (b && c)) ≡ one_if (a && b)
one_by false b c e = refl
one_by true false c e = refl
one_by true true c e = ap one_if e

pub mine : (role : Role) (name : Text) (m : Mention) (means : Use) → is_global means ≡ true → one_if (is_mine role name m means) ≡ one_if (is_role role m.0 && bytes_eq name m.1)
mine role name m means e = one_by (is_role role m.0) (bytes_eq name m.1) (is_global means) e
