-- One turn of each of the parser's loops: what the rest answers, with one part more before it, the whole answers.
use Rattle.std.proofs.Common.{if◌then◌else◌, ◌≡◌, ℕ, ◌+◌, max, Bool, true, false, List, [], ◌∷◌, ◌++◌, refl, sym, ◌∙◌, ap, subst, arith, append_assoc}
use Rattle.lua_tree.specs.Syntax.{Statements, no_statements, statement, Statement, Branches, no_branches, branch, Expressions, no_expressions, expression, Expression, Fields, no_fields, positional, named, keyed, if_statement, function_statement, local_statement, generic_for}
use Rattle.lua_num.specs.Bytes.{Text}
use Rattle.lua_tree.specs.Joins.{join_statements, join_branches, join_expressions, join_fields}
use Rattle.lua_tree.specs.Spelled.{statement_phrase, block_phrase, expressions_phrase, branches_phrase, Field, positional_field, named_field, keyed_field}
use Rattle.lua_tree.specs.WellFormed.{depth_of_statements, depth_of_statement, depth_of_branches, depth_of_expressions, depth_of_expression, depth_of_fields, is_target, ends_block}
use Rattle.lua_tree.specs.declared.token.Token.{Token}
use Rattle.lua_tree.specs.declared.token.TokenKind.{TokenKind}
use Rattle.lua_tree.specs.View.{view_item, view_arm}
use Rattle.lua_tree.specs.declared.tree.Arm.{Arm, Arm'}
use Rattle.lua_tree.specs.declared.tree.ItemKind.{ItemKind, Positional', Named', Keyed'}
use Rattle.lua_tree.specs.declared.tree.Separator.{Separator}
use Rattle.parser.specs.declared.cursor.Halt.{Halt}
use Rattle.parser.specs.Classes.{Role, is_block_end}
use Rattle.parser.specs.Operators.{Infix, infix_expression}
use Rattle.parser.specs.Fields.{depth_of_field, field_of, cond_of, inside_of}
use Rattle.parser.specs.Program.{Program, give, stop, skip, want, choose, call, reads, one_name, more_names_by, method_name, body, values, expressions_at, generic_of, first_parameter, whole, more_expressions_at, fields, one_field, separator, fields_after, add_field, block, one_statement, semicolon, branches, prefix, targets}
use Rattle.parser.specs.Runs.{kind_of, line_of}
use Rattle.parser.specs.Loops.{names_with, parameters_with, expressions_with, fields_with, block_with, targets_with, if_with}
use Rattle.parser.specs.Finds.{Accepts, Takes, Tests, Outcome, found, halted, Leads, Finds, FindsArm, FindsNames}
use Rattle.parser.proofs.SoundLists.{add_depth}
use Rattle.parser.proofs.Steps.{finds, refuses, lead_look, lead_give, lead_stop, lead_skip, lead_yes, lead_no, lead_accept, lead_leave, lead_call, lead_call_not, lead_more, lead_through, lead_then, lead_else}

-- lists that grow at their end

expressions_grow : (read more : Expressions) (e : Expression) → join_expressions (join_expressions read (expression e no_expressions)) more ≡ join_expressions read (expression e more)
expressions_grow no_expressions more e = refl
expressions_grow (expression x read) more e = ap (expression x) (expressions_grow read more e)

pub expressions_end : (read : Expressions) → join_expressions read no_expressions ≡ read
expressions_end no_expressions = refl
expressions_end (expression x read) = ap (expression x) (expressions_end read)

pub expressions_depth : (read : Expressions) (e : Expression) → depth_of_expressions (join_expressions read (expression e no_expressions)) ≡ max (depth_of_expressions read) (depth_of_expression e)
expressions_depth no_expressions e = omega arith
expressions_depth (expression x read) e = let h = expressions_depth read e in omega arith

statements_grow : (read more : Statements) (line : ℕ) (semi : Bool) (s : Statement) → join_statements (join_statements read (statement line semi s no_statements)) more ≡ join_statements read (statement line semi s more)
statements_grow no_statements more line semi s = refl
statements_grow (statement l b x read) more line semi s = ap (statement l b x) (statements_grow read more line semi s)

pub statements_end : (read : Statements) → join_statements read no_statements ≡ read
statements_end no_statements = refl
statements_end (statement l b x read) = ap (statement l b x) (statements_end read)

pub statements_depth : (read : Statements) (line : ℕ) (semi : Bool) (s : Statement) → depth_of_statements (join_statements read (statement line semi s no_statements)) ≡ max (depth_of_statements read) (depth_of_statement s + 1)
statements_depth no_statements line semi s = omega arith
statements_depth (statement l b x read) line semi s = let h = statements_depth read line semi s in omega arith

branches_grow : (read more : Branches) (cond : Expression) (inside : Statements) → join_branches (join_branches read (branch cond inside no_branches)) more ≡ join_branches read (branch cond inside more)
branches_grow no_branches more cond inside = refl
branches_grow (branch c b read) more cond inside = ap (branch c b) (branches_grow read more cond inside)

pub branches_end : (read : Branches) → join_branches read no_branches ≡ read
branches_end no_branches = refl
branches_end (branch c b read) = ap (branch c b) (branches_end read)

pub branches_depth : (read : Branches) (cond : Expression) (inside : Statements) → depth_of_branches (join_branches read (branch cond inside no_branches)) ≡ max (depth_of_branches read) (max (depth_of_expression cond) (depth_of_statements inside))
branches_depth no_branches cond inside = omega arith
branches_depth (branch c b read) cond inside = let h = branches_depth read cond inside in omega arith

add_grows : (read more : Fields) (item : Field) (mark : Separator) → join_fields (join_fields read (add_field item mark no_fields)) more ≡ join_fields read (add_field item mark more)
add_grows no_fields more (positional_field e) mark = refl
add_grows no_fields more (named_field name e) mark = refl
add_grows no_fields more (keyed_field key e) mark = refl
add_grows (positional x s read) more item mark = ap (positional x s) (add_grows read more item mark)
add_grows (named n x s read) more item mark = ap (named n x s) (add_grows read more item mark)
add_grows (keyed k x s read) more item mark = ap (keyed k x s) (add_grows read more item mark)

pub fields_end : (read : Fields) → join_fields read no_fields ≡ read
fields_end no_fields = refl
fields_end (positional x s read) = ap (positional x s) (fields_end read)
fields_end (named n x s read) = ap (named n x s) (fields_end read)
fields_end (keyed k x s read) = ap (keyed k x s) (fields_end read)

pub fields_depth : (read : Fields) (item : Field) (mark : Separator) → depth_of_fields (join_fields read (add_field item mark no_fields)) ≡ max (depth_of_fields read) (depth_of_field item)
fields_depth no_fields item mark = let h = add_depth item mark no_fields in omega arith
fields_depth (positional x s read) item mark = let h = fields_depth read item mark in omega arith
fields_depth (named n x s read) item mark = let h = fields_depth read item mark in omega arith
fields_depth (keyed k x s read) item mark = let h = fields_depth read item mark in omega arith

-- a program for each list that is read, after one part more
after_name : {mark : TokenKind} {line : ℕ} {rest : List Token} {outcome : Outcome _} (read : List Text) (name : Text) →
    Leads (names_with mark (read ++ name ∷ [])) line rest outcome → Leads (call (more_names_by mark) (λ more. give (read ++ name ∷ more))) line rest outcome
after_name read name l = simp append_assoc at l

pub name_turn : {mark : TokenKind} {next : Bool} {before middle line : ℕ} {tokens between rest : List Token} {name : Text} {outcome : Outcome _} (read : List Text) →
    Accepts mark before tokens middle between next → next ≡ true → Finds one_name middle between name line rest →
    Leads (names_with mark (read ++ name ∷ [])) line rest outcome → Leads (names_with mark read) before tokens outcome
name_turn {name} read t n f l = lead_more (λ more. name ∷ more) (λ all m. lead_accept t n (lead_call f m)) (after_name read name l)

pub parameters_from : {line : ℕ} {rest : List Token} {outcome : Outcome _} (read : List Text) (name : Text) →
    Leads (parameters_with (read ++ name ∷ [])) line rest outcome → Leads (call first_parameter (λ more. give (record { names = read ++ name ∷ more.names; vararg = more.vararg }))) line rest outcome
parameters_from read name l = simp append_assoc at l

-- a name and a comma before another parameter
pub parameter_turn : {dots comma : Bool} {before first between line : ℕ} {tokens here after rest : List Token} {name : Text} {outcome : Outcome _} (read : List Text) →
    Accepts TokenKind.DotDotDot before tokens first here dots → dots ≡ false → Finds one_name first here name between after →
    Accepts TokenKind.Comma between after line rest comma → comma ≡ true →
    Leads (parameters_with (read ++ name ∷ [])) line rest outcome → Leads (parameters_with read) before tokens outcome
parameter_turn {name} read d dn f t n l =
    lead_more (λ more. record { names = name ∷ more.names; vararg = more.vararg })
    (λ all m. lead_leave d dn (lead_call f (lead_more (λ more. more) (λ every e. lead_accept t n e) m))) (parameters_from read name l)

after_expression : {depth line : ℕ} {rest : List Token} {outcome : Outcome _} (read : Expressions) (e : Expression) →
    Leads (expressions_with depth (join_expressions read (expression e no_expressions))) line rest outcome → Leads (call (more_expressions_at depth) (λ more. give (join_expressions read (expression e more)))) line rest outcome
after_expression read e l = simp expressions_grow at l

pub expression_turn : {next : Bool} {depth needed before middle line : ℕ} {tokens between rest : List Token} {e : Expression} {outcome : Outcome _} (read : Expressions) →
    Tests TokenKind.Comma tokens next → next ≡ true → Takes needed tokens middle between → depth + 1 ≡ needed → Finds (whole depth 0) middle between e line rest →
    Leads (expressions_with depth (join_expressions read (expression e no_expressions))) line rest outcome → Leads (expressions_with depth read) before tokens outcome
expression_turn {e} read t n k d f l = lead_more (expression e) (λ all m. lead_yes t n (lead_skip k d (lead_call f m))) (after_expression read e l)

after_field : {depth line : ℕ} {rest : List Token} {outcome : Outcome _} (read : Fields) (item : Field) (mark : Separator) →
    Leads (fields_with depth (join_fields read (add_field item mark no_fields))) line rest outcome → Leads (call (fields depth) (λ more. give (join_fields read (add_field item mark more)))) line rest outcome
after_field read item mark l = simp add_grows at l

after_mark : {depth line : ℕ} {rest : List Token} {all : Outcome _} (item : Field) (mark : Separator) → (mark ≡ Separator.Missing → ⊥) →
    Leads (call (fields depth) (λ more. give (add_field item mark more))) line rest all → Leads (fields_after depth item mark) line rest all
after_mark item Separator.Comma n l = l
after_mark item Separator.Semicolon n l = l
after_mark item Separator.Missing n l = absurd (n refl)

pub field_turn : {close : Bool} {depth before between line : ℕ} {tokens marks rest : List Token} {item : Field} {mark : Separator} {outcome : Outcome _} (read : Fields) →
    Tests TokenKind.CloseBrace tokens close → close ≡ false → Finds (one_field depth) before tokens item between marks → Finds separator between marks mark line rest → (mark ≡ Separator.Missing → ⊥) →
    Leads (fields_with depth (join_fields read (add_field item mark no_fields))) line rest outcome → Leads (fields_with depth read) before tokens outcome
field_turn {item} {mark} read t n f s m l =
    lead_more (add_field item mark) (λ all e. lead_no t n (lead_call f (lead_call s (after_mark item mark m e)))) (after_field read item mark l)

pub field_last : {close : Bool} {depth before between line : ℕ} {tokens marks rest : List Token} {item : Field} {mark : Separator} (read : Fields) →
    Tests TokenKind.CloseBrace tokens close → close ≡ false → Finds (one_field depth) before tokens item between marks → Finds separator between marks mark line rest → mark ≡ Separator.Missing →
    Leads (fields_with depth read) before tokens (found (join_fields read (add_field item mark no_fields)) line rest)
field_last {depth} {before} {line} {tokens} {rest} {item} {mark} read t n f s m =
    let g : Leads (fields_after depth item mark) line rest (found (add_field item mark no_fields) line rest) = subst (λ x. Leads (fields_after depth item x) line rest (found (add_field item x no_fields) line rest)) (sym m) lead_give in
    lead_call (finds (lead_no t n (lead_call f (lead_call s g)))) lead_give

after_statement : {depth line : ℕ} {rest : List Token} {outcome : Outcome _} (read : Statements) (on : ℕ) (semi : Bool) (s : Statement) →
    Leads (block_with depth (join_statements read (statement on semi s no_statements))) line rest outcome → Leads (call (block depth) (λ more. give (join_statements read (statement on semi s more)))) line rest outcome
after_statement read on semi s l = simp statements_grow at l

-- a statement of a block and what follows it
block_from : {depth before between line : ℕ} {tokens marks rest : List Token} {s : Statement} {semi : Bool} {all : Outcome block_phrase} (ends : Bool) → ends ≡ is_block_end (kind_of tokens) → ends ≡ false →
    Finds (one_statement (depth + 1)) before tokens s between marks → Finds semicolon between marks semi line rest →
    Leads {answer = block_phrase} (if ends_block s then give (statement (line_of tokens) semi s no_statements) else call (block depth) (λ more. give (statement (line_of tokens) semi s more))) line rest all → Leads (reads (block depth)) before tokens all
block_from ends e n f g l = lead_look (lead_else _ _ _ (sym e ∙ n) (lead_call f (lead_call g l)))

pub statement_turn : {ends : Bool} {depth before between line : ℕ} {tokens marks rest : List Token} {s : Statement} {semi : Bool} {outcome : Outcome _} (read : Statements) →
    ends ≡ is_block_end (kind_of tokens) → ends ≡ false → Finds (one_statement (depth + 1)) before tokens s between marks → Finds semicolon between marks semi line rest → ends_block s ≡ false →
    Leads (block_with depth (join_statements read (statement (line_of tokens) semi s no_statements))) line rest outcome → Leads (block_with depth read) before tokens outcome
statement_turn {tokens} {s} {semi} read e n f g b l =
    lead_more (statement (line_of tokens) semi s) (λ all m. block_from _ e n f g (lead_else _ _ _ b m)) (after_statement read (line_of tokens) semi s l)

pub statement_last : {ends : Bool} {depth before between line : ℕ} {tokens marks rest : List Token} {s : Statement} {semi : Bool} (read : Statements) →
    ends ≡ is_block_end (kind_of tokens) → ends ≡ false → Finds (one_statement (depth + 1)) before tokens s between marks → Finds semicolon between marks semi line rest → ends_block s ≡ true →
    Leads (block_with depth read) before tokens (found (join_statements read (statement (line_of tokens) semi s no_statements)) line rest)
statement_last read e n f g b = lead_call (finds (block_from _ e n f g (lead_then _ _ _ b lead_give))) lead_give

pub block_done : {ends : Bool} {depth before : ℕ} {tokens : List Token} (read : Statements) → ends ≡ is_block_end (kind_of tokens) → ends ≡ true →
    Leads (block_with depth read) before tokens (found read before tokens)
block_done {depth} {before} {tokens} read e n =
    subst (λ x. Leads (block_with depth read) before tokens (found x before tokens)) (statements_end read) (lead_call (finds (lead_look (lead_then _ _ _ (sym e ∙ n) lead_give))) lead_give)

after_target : {depth line : ℕ} {rest : List Token} {outcome : Outcome _} (read : Expressions) (e next : Expression) →
    Leads (targets_with depth (join_expressions read (expression e no_expressions)) next) line rest outcome → Leads (call (targets depth next) (λ more. give (join_expressions read (expression e more)))) line rest outcome
after_target read e next l = simp expressions_grow at l

-- what may stand behind a target
abbrev pub behind_target : ℕ → Expression → Program expressions_phrase
behind_target depth e = choose TokenKind.Comma (skip (depth + 1) (call (prefix depth Role.Target) (λ next. call (targets depth next) (λ rest. give (expression e rest))))) (choose TokenKind.Equal (give (expression e no_expressions)) stop)

target_from : {depth before : ℕ} {tokens : List Token} {all : Outcome expressions_phrase} (e : Expression) → is_target e ≡ true → Leads (behind_target depth e) before tokens all → Leads (reads (targets depth e)) before tokens all
target_from e i l = lead_then _ _ _ i l

pub target_turn : {comma : Bool} {depth needed before middle line : ℕ} {tokens between rest : List Token} {next : Expression} {outcome : Outcome _} (read : Expressions) (e : Expression) →
    is_target e ≡ true → Tests TokenKind.Comma tokens comma → comma ≡ true → Takes needed tokens middle between → depth + 1 ≡ needed → Finds (prefix depth Role.Target) middle between next line rest →
    Leads (targets_with depth (join_expressions read (expression e no_expressions)) next) line rest outcome → Leads (targets_with depth read e) before tokens outcome
target_turn {next} read e i t n k d f l =
    lead_more (expression e) (λ all m. target_from e i (lead_yes t n (lead_skip k d (lead_call f m)))) (after_target read e next l)

pub target_last : {comma equal : Bool} {depth before : ℕ} {tokens : List Token} (read : Expressions) (e : Expression) →
    is_target e ≡ true → Tests TokenKind.Comma tokens comma → comma ≡ false → Tests TokenKind.Equal tokens equal → equal ≡ true →
    Leads (targets_with depth read e) before tokens (found (join_expressions read (expression e no_expressions)) before tokens)
target_last read e i t n u m = lead_call (finds (target_from e i (lead_no t n (lead_yes u m lead_give)))) lead_give

-- a target goal that halts
pub target_halts : {depth before : ℕ} {tokens rest : List Token} {halt : Halt} (read : Expressions) (e : Expression) →
    is_target e ≡ true → Leads (behind_target depth e) before tokens (halted halt rest) → Leads (targets_with depth read e) before tokens (halted halt rest)
target_halts read e i l = lead_call_not (refuses (target_from e i l))

pub no_target : {depth before : ℕ} {tokens : List Token} (read : Expressions) (e : Expression) → is_target e ≡ false → Leads (targets_with depth read e) before tokens (halted Halt.Unexpected tokens)
no_target read e i = lead_call_not (refuses (lead_else _ _ _ i lead_stop))

after_branch : {depth line : ℕ} {rest : List Token} {outcome : Outcome _} (read : Branches) (cond : Expression) (inside : Statements) →
    Leads (if_with depth (join_branches read (branch cond inside no_branches))) line rest outcome →
    Leads (call (branches depth) (λ left. want TokenKind.End (give (if_statement (join_branches read (branch cond inside left.branches)) left.last)))) line rest outcome
after_branch read cond inside l = simp branches_grow at l

-- `elseif` before another branch
pub branch_turn : {next : Bool} {depth needed before middle line : ℕ} {tokens between rest : List Token} {cond : Expression} {inside : Statements} {outcome : Outcome _} (read : Branches) →
    Tests TokenKind.Elseif tokens next → next ≡ true → Takes needed tokens middle between → depth + 1 ≡ needed → FindsArm depth middle between cond inside line rest →
    Leads (if_with depth (join_branches read (branch cond inside no_branches))) line rest outcome → Leads (if_with depth read) before tokens outcome
branch_turn {depth} {cond} {inside} read t n k d f l =
    lead_more (λ left. record { branches = branch cond inside left.branches; last = left.last })
    (λ all m. lead_yes t n (lead_skip k d (f.leads branches_phrase (λ cond inside. call (branches depth) (λ left. give (record { branches = branch cond inside left.branches; last = left.last }))) all m)))
    (after_branch read cond inside l)

-- what follows the names of a function's path, of a `for` and of locals
pub lead_path : {depth on before last : ℕ} {tokens rest : List Token} {name : Text} {names : List Text} {outcome : Outcome statement_phrase} → FindsNames TokenKind.Dot name before tokens names last rest →
    Leads (call method_name (λ method. call (body depth on) (λ b. give (function_statement names method b)))) last rest outcome →
    Leads (call (more_names_by TokenKind.Dot) (λ more. call method_name (λ method. call (body depth on) (λ b. give (function_statement (name ∷ more) method b))))) before tokens outcome
lead_path {depth} {on} {name} f l = lead_through (λ all. call method_name (λ method. call (body depth on) (λ b. give (function_statement all method b)))) (λ more. name ∷ more) f.leads l

pub lead_locals : {depth before last : ℕ} {tokens rest : List Token} {name : Text} {names : List Text} {outcome : Outcome statement_phrase} → FindsNames TokenKind.Comma name before tokens names last rest →
    Leads (call (values depth) (λ es. give (local_statement names es))) last rest outcome →
    Leads (call (more_names_by TokenKind.Comma) (λ more. call (values depth) (λ es. give (local_statement (name ∷ more) es)))) before tokens outcome
lead_locals {depth} {name} f l = lead_through (λ all. call (values depth) (λ es. give (local_statement all es))) (λ more. name ∷ more) f.leads l

-- a generic `for` behind its names
abbrev pub generic_behind : ℕ → List Text → Program statement_phrase
generic_behind depth names = choose TokenKind.In (skip (depth + 1) (call (expressions_at depth) (λ es. want TokenKind.Do (call (block depth) (λ inside. want TokenKind.End (give (generic_for names es inside))))))) stop

pub lead_generic : {depth before last : ℕ} {tokens rest : List Token} {name : Text} {names : List Text} {outcome : Outcome statement_phrase} → FindsNames TokenKind.Comma name before tokens names last rest →
    Leads (generic_behind depth names) last rest outcome → Leads (reads (generic_of depth name)) before tokens outcome
lead_generic {depth} {name} f l = lead_through (generic_behind depth) (λ more. name ∷ more) f.leads l

pub view_add : (kind : ItemKind) (mark : Separator) (rest : Fields) → view_item kind mark rest ≡ add_field (field_of kind) mark rest
view_add (Positional' l k) mark rest = refl
view_add (Named' n l k) mark rest = refl
view_add (Keyed' l k l' k') mark rest = refl

pub infix_height : (start line : ℕ) (op : Infix) (left right : Expression) (a b m : ℕ) → a ≡ depth_of_expression left → b ≡ depth_of_expression right → m ≡ max a b → m + 1 ≡ depth_of_expression (infix_expression start line op left right)
infix_height start line Infix.And left right a b m h k e = omega arith
infix_height start line Infix.Or left right a b m h k e = omega arith
infix_height start line (Infix.Binary op) left right a b m h k e = omega arith

pub arm_view : (arm : Arm) (rest : Branches) → view_arm arm rest ≡ branch (cond_of arm) (inside_of arm) rest
arm_view (Arm' l k b) rest = refl
