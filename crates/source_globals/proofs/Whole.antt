-- The chunk of an accepted source uses each global as often as the source does.
use Rattle.std.proofs.Common.{◌≡◌, ℕ, true, List, [], ap, ◌∙◌, sym, refl}
use Rattle.std.specs.Prelude.{Some, None}
use Rattle.lua_num.specs.Bytes.{Text}
use Rattle.lua_tree.specs.Outline.{beginning, outline}
use Rattle.lua_tree.specs.Resolved.{resolved}
use Rattle.lua_tree.specs.Syntax.{Source}
use Rattle.lua_tree.specs.WellFormed.{formed_statements}
use Rattle.scheme.specs.Accepts.{Accepts}
use Rattle.scheme.specs.Scheme.{scheme, Fits, statements_made, ahead_of}
use Rattle.scheme_stands.proofs.Statements.{grow_statements}
use Rattle.global_use.specs.Uses.{uses}
use Rattle.source_globals.specs.Named.{Role, gets_it, sets_it, named_so, source_roles, mentions_among, GlobalsOfSource}
use Rattle.source_globals.proofs.Pieces.{does}
use Rattle.source_globals.proofs.Tally.{End}
use Rattle.source_globals.proofs.Mentions.{statements_said, says_statements}
use Rattle.source_globals.proofs.Functions.{function_speaks}
use Rattle.source_globals.proofs.Every.{statements_speak}
use Rattle.source_globals.proofs.Counting.{counted}

pub source_uses : (role : Role) (name : Text) (source : Source) (source_name : Text) → formed_statements source.body ≡ true → Fits source →
    uses (does role) name (scheme source source_name) ≡ named_so role name (source_roles source) (mentions_among (outline source))
source_uses role name source source_name formed fits =
    let z : End = record { role = role; name = name; constants = []; functions = [] } in
    let ms = statements_said source.body in
    let inner = function_speaks (record { source = Some source_name; first_line = 0; last_line = 0; params = 0; vararg = true }) source.last_line [] (statements_made source.body None)
    ms (grow_statements source.body None) (λ y. statements_speak y source.body formed None) z in
    let says = says_statements source.body in
    inner.uses_are [] (ahead_of (resolved source)) fits
    ∙ sym (counted role name (outline source) (outline source) ms (says.names_are beginning))
    ∙ ap (λ roles. named_so role name roles (mentions_among (outline source))) says.roles_are

pub globals_of_source : GlobalsOfSource
globals_of_source bytes source source_name a name =
    let formed = a.parsed.well_formed.formed in
    (source_uses gets_it name source source_name formed a.fits, source_uses sets_it name source source_name formed a.fits)
