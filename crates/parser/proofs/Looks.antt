-- Steps of a run that look at what the next token begins.
use Rattle.std.proofs.Common.{◌≡◌, ℕ, true, false, List, Option, Some, None, is_some, sym, subst, nat_lt, arith, ap, ◌<◌, ◌≤◌, pos}
use Rattle.std.proofs.lemmas.Bool.Decides.{nat_tests}
use Rattle.lua_tree.specs.Syntax.{Statements, Expression, nil_literal, true_literal, false_literal, vararg_expression, number_literal, text_literal}
use Rattle.lua_num.specs.Bytes.{Text}
use Rattle.lua_tree.specs.WellFormed.{depth_of_expression}
use Rattle.lua_tree.specs.Spelled.{Phrase, block_phrase}
use Rattle.lua_tree.specs.declared.token.Token.{Token}
use Rattle.lua_tree.specs.declared.token.TokenKind.{TokenKind}
use Rattle.lua_tree.specs.declared.tree.UnaryOp.{UnaryOp}
use Rattle.parser.specs.declared.cursor.Halt.{Halt}
use Rattle.parser.specs.Classes.{Role, Start, Suffix, start_of, suffix_of, literal_of, name_of, text_of}
use Rattle.parser.specs.Operators.{Infix, infix_of, unary_of}
use Rattle.parser.specs.Program.{Program, look, reads, one_name, name_on, text_on, one_statement, statement_on, whole, whole_on, climb, climb_on, simple, simple_on, prefix, prefix_on, suffix, suffix_on, one_field, field_on, main_on}
use Rattle.parser.specs.Runs.{kind_of, line_of}
use Rattle.parser.specs.Finds.{Outcome, Leads, found, halted}
use Rattle.parser.proofs.Steps.{lead_look, lead_stop, lead_give}

look_by : {A : Type 0} {answer : Phrase} (class : Option TokenKind → A) (then : ℕ → A → ℕ → Program answer) (next : A) {before : ℕ} {tokens : List Token} {outcome : Outcome answer} →
    next ≡ class (kind_of tokens) → Leads (then before next (line_of tokens)) before tokens outcome → Leads (look (λ before kind line. then before (class kind) line)) before tokens outcome
look_by class then next {before} {tokens} {outcome} n l = lead_look (subst (λ x. Leads (then before x (line_of tokens)) before tokens outcome) n l)

pub lead_name : {next : Option Text} {before : ℕ} {tokens : List Token} {outcome : Outcome _} → next ≡ name_of (kind_of tokens) → Leads (name_on next) before tokens outcome → Leads (reads one_name) before tokens outcome
lead_name {next} n l = look_by name_of (λ before x line. name_on x) next n l

pub lead_statement : {depth before : ℕ} {tokens : List Token} {outcome : Outcome _} (next : Start) → next ≡ start_of (kind_of tokens) → Leads (statement_on depth next) before tokens outcome → Leads (reads (one_statement depth)) before tokens outcome
lead_statement {depth} next n l = look_by start_of (λ before x line. statement_on depth x) next n l

pub lead_whole : {depth limit before : ℕ} {tokens : List Token} {outcome : Outcome _} (next : Option UnaryOp) → next ≡ unary_of (kind_of tokens) → Leads (whole_on depth limit (line_of tokens) next) before tokens outcome → Leads (reads (whole depth limit)) before tokens outcome
lead_whole {depth} {limit} next n l = look_by unary_of (λ before x line. whole_on depth limit line x) next n l

pub lead_climb : {before : ℕ} {tokens : List Token} {outcome : Outcome _} (depth limit start : ℕ) (left : Expression) (next : Option Infix) → next ≡ infix_of (kind_of tokens) → Leads (climb_on depth limit start left (line_of tokens) next) before tokens outcome → Leads (reads (climb depth limit start left)) before tokens outcome
lead_climb depth limit start left next n l = look_by infix_of (λ before x line. climb_on depth limit start left line x) next n l

pub lead_simple : {depth before : ℕ} {tokens : List Token} {outcome : Outcome _} (next : Option Expression) → next ≡ literal_of (line_of tokens) (kind_of tokens) → Leads (simple_on depth next) before tokens outcome → Leads (reads (simple depth)) before tokens outcome
lead_simple {depth} {before} {tokens} {outcome} next n l = lead_look (subst (λ x. Leads (simple_on depth x) before tokens outcome) n l)

pub lead_prefix : {depth before : ℕ} {role : Role} {tokens : List Token} {outcome : Outcome _} (next : Option Text) → next ≡ name_of (kind_of tokens) → Leads (prefix_on depth role next (line_of tokens)) before tokens outcome → Leads (reads (prefix depth role)) before tokens outcome
lead_prefix {depth} {role = role} next n l = look_by name_of (λ before x line. prefix_on depth role x line) next n l

pub lead_suffix : {before : ℕ} {tokens : List Token} {outcome : Outcome _} (depth : ℕ) (role : Role) (on : Expression) (next : Suffix) → next ≡ suffix_of (kind_of tokens) → Leads (suffix_on depth role on next) before tokens outcome → Leads (reads (suffix depth role on)) before tokens outcome
lead_suffix depth role on next n l = look_by suffix_of (λ before x line. suffix_on depth role on x) next n l

pub lead_field : {depth before : ℕ} {tokens : List Token} {outcome : Outcome _} (next : Option Text) → next ≡ name_of (kind_of tokens) → Leads (field_on depth next (line_of tokens)) before tokens outcome → Leads (reads (one_field depth)) before tokens outcome
lead_field {depth} next n l = look_by name_of (λ before x line. field_on depth x line) next n l

pub lead_text : {needed before : ℕ} {tokens : List Token} {outcome : Outcome _} (next : Option Text) → next ≡ text_of (kind_of tokens) → Leads (text_on needed next) before tokens outcome → Leads (look (λ before kind line. text_on needed (text_of kind))) before tokens outcome
lead_text {needed} next n l = look_by text_of (λ before x line. text_on needed x) next n l

-- whether an operator binds more strongly than the limit, as the programs test it
pub power_above : {limit power shown : ℕ} → limit < shown → shown ≡ power → nat_lt limit power ≡ true
power_above {limit} {power} {shown} h e = let m : limit < power = omega arith in grind (arith, nat_tests)

pub power_below : {limit power shown : ℕ} → shown ≤ limit → shown ≡ power → nat_lt limit power ≡ false
power_below {limit} {power} {shown} h e = let m : power ≤ limit = omega arith in grind (arith, nat_tests)

pub literal_height : (line : ℕ) (kind : Option TokenKind) (e : Expression) → Some e ≡ literal_of line kind → 1 ≡ depth_of_expression e
literal_height line (Some TokenKind.Nil) e l = let q : e ≡ nil_literal line = cc in ap depth_of_expression (sym q)
literal_height line (Some TokenKind.True) e l = let q : e ≡ true_literal line = cc in ap depth_of_expression (sym q)
literal_height line (Some TokenKind.False) e l = let q : e ≡ false_literal line = cc in ap depth_of_expression (sym q)
literal_height line (Some TokenKind.DotDotDot) e l = let q : e ≡ vararg_expression line = cc in ap depth_of_expression (sym q)
literal_height line (Some (TokenKind.Number (pos n))) e l = let q : e ≡ number_literal line (pos n) = cc in ap depth_of_expression (sym q)
literal_height line (Some (TokenKind.Text text)) e l = let q : e ≡ text_literal line text = cc in ap depth_of_expression (sym q)
literal_height line kind e l = cc

-- behind the block of a source no token stands
pub lead_past : {before : ℕ} {tokens : List Token} (inside : Statements) (next : Option TokenKind) → next ≡ kind_of tokens → is_some next ≡ true → Leads {answer = block_phrase} (look (λ before kind line. main_on inside kind)) before tokens (halted Halt.Unexpected tokens)
lead_past inside (Some kind) n some = look_by (λ k. k) (λ before k line. main_on inside k) (Some kind) n lead_stop
lead_past inside None n some = cc

pub lead_end : {before : ℕ} {tokens : List Token} (inside : Statements) (next : Option TokenKind) → next ≡ kind_of tokens → is_some next ≡ false → Leads {answer = block_phrase} (look (λ before kind line. main_on inside kind)) before tokens (found inside before tokens)
lead_end inside None n none = look_by (λ k. k) (λ before k line. main_on inside k) None n lead_give
lead_end inside (Some kind) n none = cc
