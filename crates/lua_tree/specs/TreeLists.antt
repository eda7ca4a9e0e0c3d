-- Serves the bodies. Lists of the program's parts as parts of a source, and tokens with no place.
use Rattle.std.specs.Prelude.{List, [], ◌∷◌, Option, Some, None}
use Rattle.lua_tree.specs.Syntax.{Statements, no_statements, statement, Branches, no_branches, Expressions, no_expressions, expression, Fields, no_fields}
use Rattle.lua_tree.specs.View.{view_exp, view_statement, view_arm, view_item, view_block}
use Rattle.lua_tree.specs.Spelling.{Kinds, spell_expression, spell_statements}
use Rattle.lua_tree.specs.declared.token.TokenKind.{TokenKind}
use Rattle.lua_tree.specs.declared.token.Token.{Token}
use Rattle.lua_tree.specs.declared.tree.Exp.{Exp}
use Rattle.lua_tree.specs.declared.tree.Stat.{Stat}
use Rattle.lua_tree.specs.declared.tree.Arm.{Arm}
use Rattle.lua_tree.specs.declared.tree.Item.{Item}
use Rattle.lua_tree.specs.declared.tree.Block.{Block}
use Rattle.lua_tree.specs.declared.speller.parts.Mark.{Mark}

-- tokens of these kinds, with no place
abbrev pub unplaced : Kinds → List Token
unplaced [] = []
unplaced (kind ∷ kinds) = record { kind = kind; at = 0; line = 0 } ∷ unplaced kinds

-- the kinds of tokens
abbrev pub kinds_of : List Token → Kinds
kinds_of [] = []
kinds_of (token ∷ tokens) = token.kind ∷ kinds_of tokens

-- the mark between two names
abbrev pub mark_of : Mark → TokenKind
mark_of Mark.Comma = TokenKind.Comma
mark_of Mark.Dot = TokenKind.Dot

-- the statements of a block
abbrev pub statements_of : List Stat → Statements
statements_of [] = no_statements
statements_of (stat ∷ stats) = statement stat.line stat.semi (view_statement stat.kind) (statements_of stats)

-- the arms of an `if`
abbrev pub branches_of : List Arm → Branches
branches_of [] = no_branches
branches_of (arm ∷ arms) = view_arm arm (branches_of arms)

-- a list of expressions
abbrev pub expressions_of : List Exp → Expressions
expressions_of [] = no_expressions
expressions_of (exp ∷ exps) = expression (view_exp exp) (expressions_of exps)

-- the items of a constructor
abbrev pub fields_of : List Item → Fields
fields_of [] = no_fields
fields_of (item ∷ items) = view_item item.kind item.sep (fields_of items)

-- `else` and its block, where there is one
abbrev pub spell_else_of : Option Block → Kinds
spell_else_of None = []
spell_else_of (Some block) = TokenKind.Else ∷ spell_statements (view_block block)

-- the step of a numeric `for`, where there is one
abbrev pub spell_step_of : Option Exp → Kinds
spell_step_of None = []
spell_step_of (Some exp) = TokenKind.Comma ∷ spell_expression (view_exp exp)
