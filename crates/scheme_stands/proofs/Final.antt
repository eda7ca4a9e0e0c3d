-- The chunk of a source that fits stands as the relation says, with every function in it.
use Rattle.std.proofs.Common.{refl}
use Rattle.std.specs.Prelude.{None, Some, true, []}
use Rattle.lua_num.specs.Bytes.{Text}
use Rattle.lua_tree.specs.Syntax.{Source}
use Rattle.lua_tree.specs.Resolved.{resolved}
use Rattle.scheme.specs.Functions.{Heading}
use Rattle.scheme.specs.Scheme.{scheme, scheme_of, Fits, statements_made, ahead_of}
use Rattle.scheme_stands.specs.Relation.{MainAt, StatementsAt}
use Rattle.scheme_stands.proofs.Statements.{grow_statements}
use Rattle.scheme_stands.proofs.Every.{statements_at}
use Rattle.scheme_stands.proofs.Whole.{whole_stands}

pub scheme_stands : (source : Source) (name : Text) → Fits source → MainAt None source (scheme source name)
scheme_stands source name fits =
    let heading : Heading = record { source = Some name; first_line = 0; last_line = 0; params = 0; vararg = true } in (
      (scheme_of source name).ahead,
      whole_stands heading source.last_line [] (statements_made source.body None) (λ f. StatementsAt f None source.body) (grow_statements source.body None) (λ z. statements_at z source.body None) refl [] (ahead_of (resolved source)) fits,
    )
