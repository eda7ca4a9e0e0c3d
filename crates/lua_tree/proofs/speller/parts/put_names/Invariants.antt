use Rattle.std.proofs.Common.{◌≡◌, ◌++◌, drop}
use Rattle.lua_tree.specs.Spelling.{more_names}
use Rattle.lua_tree.specs.TreeLists.{mark_of}
use Rattle.lua_tree.proofs.speller.parts.put_names.Given as goal

abbrev pub invariant-loop-name : goal.invariant-loop-name
invariant-loop-name l =
    l.out ++ more_names (mark_of l.mark) (drop l.name-index l.rest) ≡ l.initial.out ++ more_names (mark_of l.mark) l.rest
