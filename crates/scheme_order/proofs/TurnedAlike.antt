-- A plain source in which comparisons of locals are turned is alike to the source.
use Rattle.std.proofs.Common.{◌≡◌, true, List, [], None, Some, sym, ap, ap₂, ◌∙◌}
use Rattle.std.specs.Prelude.{drop}
use Rattle.std.proofs.lemmas.List.{append-nil}
use Rattle.lua_num.specs.Bytes.{Text}
use Rattle.lua_tree.specs.Resolved.{Resolved, resolved}
use Rattle.lua_tree.specs.Scoping.{Use}
use Rattle.lua_tree.specs.Syntax.{Source}
use Rattle.lua_tree.specs.WellFormed.{WellFormed}
use Rattle.proto.specs.Chunk.{each, no_lines}
use Rattle.scheme.specs.Functions.{Finished, Heading, function_from}
use Rattle.scheme.specs.Making.{Ahead}
use Rattle.scheme.specs.Scheme.{ahead_of, scheme_of, statements_made}
use Rattle.scheme_lines.specs.Alike.{AreAlike}
use Rattle.scheme_order.specs.Turned.{TurnedAreAlike, turned}
use Rattle.scheme_order.proofs.Every.{function_same}
use Rattle.scheme_order.proofs.TurnedForms.{turned_formed}
use Rattle.scheme_order.proofs.TurnedScopes.{turned_resolved}

module _ (source : Source) (well : WellFormed source) where
  abbrev here : Resolved
  here = resolved source

  abbrev there : Resolved
  there = resolved (turned source)

  -- with these names ahead
  abbrev named : List Use → Ahead
  named names = record { names = names; captures = here.captured; sources = drop 1 here.upvalues; declarations = 0 }

  ahead_there : ahead_of there ≡ named there.names
  ahead_there =
      let known = turned_resolved source well in
      ap₂ (λ captured (upvalues : List (List Use)). record { names = there.names; captures = captured; sources = drop 1 upvalues; declarations = 0 }) known.0 known.1

  made_same : (name : Text) → scheme_of source name ≡ scheme_of (turned source) name
  made_same name =
      let main : Heading = record { source = Some name; first_line = 0; last_line = 0; params = 0; vararg = true } in
      let made = λ (of : Source) (ahead : Ahead). function_from main source.last_line [] (statements_made of.body None) [] ahead in
      ap (λ names. made source (named names)) (sym (append-nil here.names))
      ∙ function_same main source.last_line [] [] source.body here.names there.names well.formed (turned_resolved source well).3 [] (named []) []
      ∙ ap (λ names. made (turned source) (named names)) (append-nil there.names)
      ∙ ap (made (turned source)) (sym ahead_there)

  are_alike : AreAlike source (turned source)
  are_alike = record {
    scoped = λ scoped. (turned_resolved source well).2 ∙ scoped;
    fits = λ fits. ap (λ (made : Finished). made.misfits) (sym (made_same [])) ∙ fits;
    same = λ name. ap (λ (made : Finished). each no_lines made.chunk) (made_same name);
  }

pub turned_alike : TurnedAreAlike
turned_alike source well plain = (turned_formed source well plain, are_alike source well)
