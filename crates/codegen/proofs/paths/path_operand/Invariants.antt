use Rattle.std.proofs.Common.{◌≡◌, take}
use Rattle.scheme.specs.Expressions as expressions
use Rattle.scheme.specs.Statements as parts
use Rattle.code_builder.specs.Made.{maker_of}
use Rattle.codegen.specs.Targets.{first_text}
use Rattle.codegen.proofs.paths.path_operand.Given as goal

abbrev pub invariant-loop-name : goal.invariant-loop-name
invariant-loop-name l = record {
  base : l.base ≡ (maker_of l.fn.builder).free;
  value : l.t ≡ (expressions.operand (parts.with_fields l.line (expressions.coded_name l.line (first_text l.path)) (take l.name-index l.name-items)) (maker_of l.fn.builder)).value;
  local : l.local ≡ expressions.is_local (parts.with_fields l.line (expressions.coded_name l.line (first_text l.path)) (take l.name-index l.name-items)).e (maker_of l.fn.builder);
  made : maker_of l.builder ≡ (expressions.operand (parts.with_fields l.line (expressions.coded_name l.line (first_text l.path)) (take l.name-index l.name-items)) (maker_of l.fn.builder)).after;
}
