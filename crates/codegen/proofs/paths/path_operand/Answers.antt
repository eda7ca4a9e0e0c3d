use Rattle.std.proofs.Common.{take, refl, ap, sym, ◌∙◌}
use Rattle.scheme.specs.Making.{free_from, take_registers}
use Rattle.scheme.specs.Expressions as expressions
use Rattle.scheme.specs.Statements as parts
use Rattle.code_builder.specs.Made.{maker_of}
use Rattle.codegen.specs.Targets.{first_text}
use Rattle.codegen.proofs.FieldPaths.{with_fields-next, operand-field, operand-field_value, is_local-field}
use Rattle.codegen.proofs.paths.path_operand.Goals as goal

pub loop-name-preserved : goal.loop-name-preserved
loop-name-preserved c =
    let m = maker_of c.args.builder.now in
    let first = expressions.coded_name c.args.line (first_text c.args.path.now) in
    let on = parts.with_fields c.args.line first (take c.loop-name.name-index c.fields_of_path-name-items.result.now) in
    let text = c.bytes.result.now in
    let more = sym (with_fields-next c.args.line first c.loop-name.name-index c.fields_of_path-name-items.result.now text c.name-item.result c.loop-name-test.true (c.bytes.ensures ∙ c.name-item.is)) in
    let put_it = ap (free_from c.args.builder.now.free) c.in_ok-put_abc.ensures in
    record {
      base = refl;
      value = operand-field_value c.args.line on text m ∙ ap (λ x. (expressions.operand x m).value) more;
      local = is_local-field c.args.line on text m ∙ ap (λ x. expressions.is_local x.e m) more;
      made =
          c.in_ok-take_registers.ensures ∙ ap (take_registers 1) (c.free_from.ensures ∙ put_it)
          ∙ operand-field c.args.line on text m _ _ _ _ c.loop-name.invariant.value c.loop-name.invariant.made c.in_ok-k.ensures.value c.in_ok-k.ensures.made
          ∙ ap (λ x. (expressions.operand x m).after) more;
    }
