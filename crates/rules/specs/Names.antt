-- To be believed. The names of the rules.
use Rattle.std.specs.Prelude.{ℕ, List, codes}
use Rattle.rules.specs.declared.rule.Rule.{Rule}

abbrev pub rule_name : Rule → List ℕ
rule_name Rule.BadWord = codes "BadWord"
rule_name Rule.Register = codes "Register"
rule_name Rule.Constant = codes "Constant"
rule_name Rule.Function = codes "Function"
rule_name Rule.Upvalue = codes "Upvalue"
rule_name Rule.JumpTarget = codes "JumpTarget"
rule_name Rule.NameConstant = codes "NameConstant"
rule_name Rule.OpenResults = codes "OpenResults"
rule_name Rule.LoopNumbers = codes "LoopNumbers"
rule_name Rule.LoopCaptured = codes "LoopCaptured"
rule_name Rule.FurtherWord = codes "FurtherWord"
rule_name Rule.NoJump = codes "NoJump"
rule_name Rule.Shape = codes "Shape"
rule_name Rule.FallsOff = codes "FallsOff"
