-- To be believed. What the place shows at which a chunk is rejected.
use Rattle.std.specs.Prelude.{ℕ, List, ◌++◌, codes}
use Rattle.std.specs.Fmt.{decimal}
use Rattle.proto.specs.Paths.{path_text}
use Rattle.rules.specs.Names.{rule_name}
use Rattle.suite.specs.declared.rejection.Rejection.{Rejection}

abbrev pub rejection_text : Rejection → List ℕ
rejection_text rejection = codes "rejected: function " ++ (path_text rejection.path ++ (codes " pc " ++ (decimal rejection.pc ++ (codes ": " ++ rule_name rejection.rule))))
