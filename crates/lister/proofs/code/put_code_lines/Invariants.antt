use Rattle.std.proofs.Common.{◌≡◌, ◌++◌, drop}
use Rattle.lister.specs.Listing.{code_lines}
use Rattle.lister.specs.Parts.{with_lists}
use Rattle.lister.proofs.code.put_code_lines.Given as goal

abbrev pub invariant-loop-pc : goal.invariant-loop-pc
invariant-loop-pc l =
    l.out ++ code_lines (with_lists l.lines l.constants) l.raw l.pc (drop l.pc l.code) ≡ l.initial.out ++ code_lines (with_lists l.lines l.constants) l.initial.raw 0 l.code
