use Rattle.std.proofs.Common.{◌≡◌, ◌++◌, drop}
use Rattle.lua_tree.specs.Outline.{all_params}
use Rattle.codegen.proofs.functions.all_params.Given as goal

abbrev pub invariant-loop-name : goal.invariant-loop-name
invariant-loop-name l = l.names ++ drop l.name-index l.params ≡ all_params l.method l.params
