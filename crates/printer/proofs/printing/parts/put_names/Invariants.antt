use Rattle.std.proofs.Common.{◌≡◌, Some, drop}
use Rattle.lua_tree.specs.Spelling.{more_names}
use Rattle.printer.specs.Layout.{tokens}
use Rattle.printer.specs.Sheets.{put_pieces}
use Rattle.printer.proofs.printing.parts.put_names.Given as goal

abbrev pub invariant-loop-name : goal.invariant-loop-name
invariant-loop-name l =
    put_pieces (tokens (more_names l.mark (drop l.name-index l.rest))) (Some l.out) ≡ put_pieces (tokens (more_names l.mark l.rest)) (Some l.initial.out)
