-- A source has a sound chunk where what is ahead of it fits its tree.
use Rattle.std.proofs.Common.{true, List, [], length, ap, arith}
use Rattle.std.specs.Prelude.{None, Some}
use Rattle.lua_num.specs.Bytes.{Text}
use Rattle.lua_tree.specs.Syntax.{Source}
use Rattle.lua_tree.specs.Resolved.{resolved}
use Rattle.rules.specs.Sound.{Sound}
use Rattle.scheme.specs.Making.{Ahead}
use Rattle.scheme.specs.Functions.{whole_function, empty_maker, misfits_of}
use Rattle.scheme.specs.Scheme.{statements_made, ahead_of, scheme, Fits}
use Rattle.scheme.specs.declared.making.Local.{Local}
use Rattle.scheme_stands.proofs.Growth.{front_empty, back_empty}
use Rattle.scheme_sound.proofs.Fitting.{StatementsFit}
use Rattle.scheme_sound.proofs.Finished.{sound_of}
use Rattle.scheme_sound.proofs.Functions.{whole_made}
use Rattle.scheme_sound.proofs.Whole.{statements_keep}

-- what is ahead of a source fits its tree
pub record SourceFits (source : Source) : Type 0 where
  pub inner : List Local
  pub behind : Ahead
  pub body_fits : StatementsFit source.body (record { locals = []; upvalues = 0; vararg = true }) inner (ahead_of (resolved source)) behind

pub fitting_sound : (source : Source) (name : Text) → SourceFits source → Fits source → Sound (scheme source name)
fitting_sound source name o fits =
    let a = ahead_of (resolved source) in
    let w = whole_made source.last_line [] true (statements_made source.body) (StatementsFit source.body) (statements_keep source.body) a [] o.inner o.behind o.body_fits in
    let m = whole_function source.last_line [] (statements_made source.body None) (empty_maker a []) in
    sound_of true (record { source = Some name; first_line = 0; last_line = 0; params = 0; vararg = true }) m w.ghost w.ready (back_empty m.misfits (misfits_of 0 m) fits) (w.functions (front_empty m.misfits (misfits_of 0 m) fits)) (omega arith) w.extra (λ e. ap length w.upvalues)
