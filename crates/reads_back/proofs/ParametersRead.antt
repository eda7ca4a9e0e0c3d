-- Where a function begins: its parameters are active, and nothing else is made.
use Rattle.std.proofs.Common.{◌≡◌, List, [], ◌∷◌, length, refl, ap, ◌∙◌, arith}
use Rattle.lua_num.specs.Bytes.{Text}
use Rattle.scheme.specs.Functions.{empty_maker, with_params}
use Rattle.scheme.specs.Making.{Ahead, Maker, activate, declare}
use Rattle.scheme.specs.declared.making.Local.{Local}
use Rattle.scheme_stands.proofs.Lines.{activate_length, declare_length}

-- what is known of a function in the making whose parameters are active
pub record BeginsWith (params names : List Text) (ahead : Ahead) (m : Maker) : Type 0 where
  pub as_many : length m.active ≡ length params
  pub items : m.items ≡ []
  pub functions : m.functions ≡ []
  pub constants : m.constants ≡ []
  pub labels : m.labels ≡ []

-- only what is ahead changes where locals are declared
declare_keeps : (texts : List Text) (m : Maker) → (declare texts m).after ≡ record m { ahead = (declare texts m).after.ahead }
declare_keeps [] m = refl
declare_keeps (text ∷ texts) m = declare_keeps texts _

-- only the active locals and the list change where locals become active
activate_keeps : (locals : List Local) (m : Maker) → activate locals m ≡ record m { active = (activate locals m).active; locals = (activate locals m).locals }
activate_keeps [] m = refl
activate_keeps (local ∷ locals) m = activate_keeps locals _

pub begins_with : (params names : List Text) (ahead : Ahead) → BeginsWith params names ahead (with_params params (empty_maker ahead names))
begins_with params names ahead =
    let m = empty_maker ahead names in
    let d = declare params m in
    let declared = declare_keeps params m in
    let kept = activate_keeps d.value d.after in
    let active : d.after.active ≡ [] = ap (λ (m : Maker). m.active) declared in
    record {
      as_many = omega (arith, activate_length d.value d.after, declare_length params m, ap length active);
      items = ap (λ (m : Maker). m.items) kept ∙ ap (λ (m : Maker). m.items) declared;
      functions = ap (λ (m : Maker). m.functions) kept ∙ ap (λ (m : Maker). m.functions) declared;
      constants = ap (λ (m : Maker). m.constants) kept ∙ ap (λ (m : Maker). m.constants) declared;
      labels = ap (λ (m : Maker). m.labels) kept ∙ ap (λ (m : Maker). m.labels) declared;
    }
