-- Serves the bodies. Lists of a source, one behind the other.
use Rattle.lua_tree.specs.Syntax.{Statements, no_statements, statement, Branches, no_branches, branch, Expressions, no_expressions, expression, Fields, no_fields, positional, named, keyed}

abbrev pub join_statements : Statements → Statements → Statements
join_statements no_statements more = more
join_statements (statement line semi s rest) more = statement line semi s (join_statements rest more)

abbrev pub join_branches : Branches → Branches → Branches
join_branches no_branches more = more
join_branches (branch cond block rest) more = branch cond block (join_branches rest more)

abbrev pub join_expressions : Expressions → Expressions → Expressions
join_expressions no_expressions more = more
join_expressions (expression e rest) more = expression e (join_expressions rest more)

abbrev pub join_fields : Fields → Fields → Fields
join_fields no_fields more = more
join_fields (positional e separator rest) more = positional e separator (join_fields rest more)
join_fields (named name e separator rest) more = named name e separator (join_fields rest more)
join_fields (keyed key e separator rest) more = keyed key e separator (join_fields rest more)
