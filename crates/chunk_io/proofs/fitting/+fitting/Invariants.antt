use Rattle.std.proofs.Common.{drop}
use Rattle.chunk_io.proofs.FittedFunctions.{FitSoFar}
use Rattle.chunk_io.proofs.fitting.+fitting.Given as goal

abbrev pub invariant-functions_fit-loop-function : goal.invariant-functions_fit-loop-function
invariant-functions_fit-loop-function l = FitSoFar l.layout l.nesting l.functions (drop l.function-index l.functions)
