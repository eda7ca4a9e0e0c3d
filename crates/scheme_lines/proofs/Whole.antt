-- A source and its bare form are alike, both ways; so are two with one bare form, and two that are the same on one line.
use Rattle.std.proofs.Common.{◌≡◌, ℕ, List, [], ◌∷◌, ◌++◌, map, refl, sym, ap, ap₂, ◌∙◌, subst}
use Rattle.std.specs.Prelude.{Some, None, true}
use Rattle.lua_num.specs.Bytes.{Text}
use Rattle.lua_tree.specs.OneLine.{on_one_line}
use Rattle.lua_tree.specs.Resolved.{Resolved, resolved}
use Rattle.lua_tree.specs.Scoping.{Scoped}
use Rattle.lua_tree.specs.Syntax.{Source}
use Rattle.proto.specs.Chunk.{Chunk, function, Functions, no_functions, and_function, each, each_of, no_lines, SameButLines}
use Rattle.scheme.specs.Making.{Maker, Misfit, too_many_registers}
use Rattle.scheme.specs.Functions.{Heading, chunk_of, misfits_of, whole_function, empty_maker}
use Rattle.scheme.specs.Scheme.{statements_made, ahead_of, scheme_of, scheme}
use Rattle.scheme_lines.specs.Alike.{AreAlike}
use Rattle.scheme_lines.specs.Bare.{bare, bare_statements}
use Rattle.scheme_lines.proofs.Makers.{one_line_own, one_line_chunk, one_line_misfit, one_line}
use Rattle.scheme_lines.proofs.Functions.{chunk_same, append_same, misfits_told, misfits_same, same_whole}
use Rattle.scheme_lines.proofs.Every.{statements_same}
use Rattle.scheme_lines.proofs.Again.{bare_again}
use Rattle.scheme_lines.proofs.Scopes.{resolved_same, scoped_to_bare, scoped_from_bare}

-- ---- chunks

lines_gone : (lines : List ℕ) → map {B = ℕ} (λ line. 0) (map {B = ℕ} (λ line. 1) lines) ≡ map {B = ℕ} (λ line. 0) lines
lines_gone [] = refl
lines_gone (line ∷ lines) = ap (λ others. 0 ∷ others) (lines_gone lines)

mutual
  chunk_gone : (c : Chunk) → each no_lines (one_line_chunk c) ≡ each no_lines c
  chunk_gone (function f inner) = ap₂ (λ (lines : List ℕ) (others : Functions). function (record (no_lines f) { lines = lines }) others) (lines_gone f.lines) (functions_gone inner)

  functions_gone : (inner : Functions) → each_of no_lines (each_of one_line_own inner) ≡ each_of no_lines inner
  functions_gone no_functions = refl
  functions_gone (and_function c rest) = ap₂ and_function (chunk_gone c) (functions_gone rest)

main_same : (heading : Heading) (m : Maker) → SameButLines (chunk_of heading m) (chunk_of heading (one_line m))
main_same heading m = sym (chunk_gone (chunk_of heading m)) ∙ ap (each no_lines) (chunk_same heading m)

-- ---- a source, and its bare form

abbrev heading : Text → Heading
heading name = record { source = Some name; first_line = 0; last_line = 0; params = 0; vararg = true }

-- the main function of a source
abbrev made : Source → Maker
made source = whole_function source.last_line [] (statements_made source.body None) (empty_maker (ahead_of (resolved source)) [])

made_same : (source : Source) → one_line (made source) ≡ made (bare source)
made_same source =
    (same_whole source.last_line [] (statements_same source.body None)).same (empty_maker (ahead_of (resolved source)) [])
    ∙ ap (λ (scopes : Resolved). whole_function 1 [] (statements_made (bare_statements source.body) None) (empty_maker (ahead_of scopes) [])) (resolved_same source)

scheme_same : (source : Source) (name : Text) → SameButLines (scheme source name) (scheme (bare source) name)
scheme_same source name = main_same (heading name) (made source) ∙ ap (λ m. each no_lines (chunk_of (heading name) m)) (made_same source)

once : (misfit : Misfit) → one_line_misfit (one_line_misfit misfit) ≡ one_line_misfit misfit
once (too_many_registers line reached) = refl
once misfit = refl

told_once : (misfits : List Misfit) → map one_line_misfit (map one_line_misfit misfits) ≡ map one_line_misfit misfits
told_once [] = refl
told_once (misfit ∷ misfits) = ap₂ (λ m l. m ∷ l) (once misfit) (told_once misfits)

abbrev misfits : Source → List Misfit
misfits source = (scheme_of source []).misfits

main_misfits_same : (m : Maker) → map one_line_misfit (m.misfits ++ misfits_of 0 m) ≡ map one_line_misfit ((one_line m).misfits ++ misfits_of 0 (one_line m))
main_misfits_same m =
    append_same m.misfits (misfits_of 0 m) refl (misfits_same 0 m)
    ∙ sym (append_same (one_line m).misfits (misfits_of 0 (one_line m)) (told_once m.misfits) (misfits_told 0 (one_line m)))

misfits_all_same : (source : Source) → map one_line_misfit (misfits source) ≡ map one_line_misfit (misfits (bare source))
misfits_all_same source = main_misfits_same (made source) ∙ ap (λ (m : Maker). map one_line_misfit (m.misfits ++ misfits_of 0 m)) (made_same source)

none_told : (misfits : List Misfit) → map one_line_misfit misfits ≡ [] → misfits ≡ []
none_told [] e = refl
none_told (misfit ∷ misfits) e = cc

-- ---- two sources

pub alike : (a b : Source) → bare a ≡ bare b → AreAlike a b
alike a b e = record {
  scoped = λ scoped. scoped_from_bare b (subst Scoped e (scoped_to_bare a scoped));
  fits = λ fits. none_told (misfits b) (misfits_all_same b ∙ ap (λ source. map one_line_misfit (misfits source)) (sym e) ∙ sym (misfits_all_same a) ∙ ap (map one_line_misfit) fits);
  same = λ name. scheme_same a name ∙ ap (λ source. each no_lines (scheme source name)) e ∙ sym (scheme_same b name);
}

pub alike_on_one_line : (a b : Source) → on_one_line a ≡ on_one_line b → AreAlike a b
alike_on_one_line a b e = alike a b (sym (bare_again a) ∙ ap bare e ∙ bare_again b)
