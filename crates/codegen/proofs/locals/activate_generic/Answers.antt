use Rattle.std.proofs.Common.{◌≡◌, ap, subst}
use Rattle.std.specs.Prelude.{OnOk}
use Rattle.scheme.specs.Making as making
use Rattle.scheme.specs.Making.{Maker}
use Rattle.code_builder.specs.Made.{maker_of}
use Rattle.codegen.proofs.locals.activate_generic.Goals as goal

pub returns : goal.returns
returns c =
    let P : Maker → Type 0 = λ m. OnOk c.activate.result (maker_of c.activate.new.self ≡ m) in
    subst P (ap (λ ls. making.activate ls (maker_of c.args.builder.now)) c.in_ok-locals.ensures) c.activate.ensures
