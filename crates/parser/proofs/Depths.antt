-- What a run finds lies within the depth.
use Rattle.std.proofs.Common.{◌≡◌, ℕ, ◌+◌, ◌≤◌, max, Bool, true, false, List, Option, Some, None, pos, if◌then◌else◌, ◌==◌, nat_lt, refl, sym, ◌∙◌, ap, subst, arith}
use Rattle.lua_tree.specs.Syntax.{Statements, Expression, Fields, no_fields}
use Rattle.lua_num.specs.Bytes.{Text}
use Rattle.lua_tree.specs.WellFormed.{is_target, is_call, ends_block, depth_of_statements, depth_of_statement, depth_of_branches, depth_of_otherwise, depth_of_step, depth_of_body, depth_of_expressions, depth_of_expression, depth_of_arguments, depth_of_fields}
use Rattle.lua_tree.specs.Spelled.{Phrase, Meant, Field, positional_field, named_field, keyed_field}
use Rattle.lua_tree.specs.declared.token.Token.{Token}
use Rattle.lua_tree.specs.declared.token.TokenKind.{TokenKind}
use Rattle.lua_tree.specs.declared.tree.UnaryOp.{UnaryOp}
use Rattle.lua_tree.specs.declared.tree.Separator.{Separator}
use Rattle.parser.specs.Classes.{Role, Start, Suffix, start_of, suffix_of, literal_of, name_of, text_of, is_block_end}
use Rattle.parser.specs.Operators.{Infix, infix_of, unary_of, left_power}
use Rattle.parser.specs.Program.{Goal, Program, give, stop, look, skip, want, choose, call, reads, main_chunk, block, one_statement, if_of, while_of, do_of, for_of, repeat_of, function_of, local_of, return_of, break_of, numeric_of, generic_of, local_function_of, local_names_of, expression_statement, branches, step, values, results, targets, body, expressions_at, more_expressions_at, whole, climb, simple, prefix, suffix, function_value, table_of, paren_of, field_of, index_of, method_of, call_of, arguments, listed, fields, one_field, keyed_of, named_of, call_spare, paren_spare, statement_on, text_on, whole_on, climb_on, simple_on, prefix_on, suffix_on, add_field, fields_after, field_on, main_on}
use Rattle.parser.specs.Fields.{depth_of_field}
use Rattle.parser.specs.Runs.{End, done, fault, Runs, gives, stops, looks, skips, deep, ends, wants, misses, chooses, passes, calls, fails}
use Rattle.parser.proofs.Small.{two_fit, two_fit_below, with_none, under, less_one, without, infix_depth}

-- how deep what is found lies
abbrev pub Fits : ℕ → {answer : Phrase} → Goal answer → Meant answer → Type 0
Fits most (block d) b = d ≤ most → d + depth_of_statements b ≤ most
Fits most (one_statement d) s = d + depth_of_statement s ≤ most
Fits most (if_of d) s = d + depth_of_statement s ≤ most
Fits most (while_of d) s = d + depth_of_statement s ≤ most
Fits most (do_of d) s = d + depth_of_statement s ≤ most
Fits most (for_of d) s = d + depth_of_statement s ≤ most
Fits most (repeat_of d) s = d + depth_of_statement s ≤ most
Fits most (function_of d) s = d + depth_of_statement s ≤ most
Fits most (local_of d) s = d + depth_of_statement s ≤ most
Fits most (return_of d) s = d + depth_of_statement s ≤ most
Fits most (break_of d) s = d + depth_of_statement s ≤ most
Fits most (numeric_of d name) s = d + depth_of_statement s ≤ most
Fits most (generic_of d name) s = d + depth_of_statement s ≤ most
Fits most (local_function_of d) s = d + depth_of_statement s ≤ most
Fits most (local_names_of d) s = d ≤ most → d + depth_of_statement s ≤ most
Fits most (expression_statement d) s = d + depth_of_statement s ≤ most
Fits most (branches d) b = d ≤ most → d + max (depth_of_branches b.branches) (depth_of_otherwise b.last) ≤ most
Fits most (step d) s = d ≤ most → d + depth_of_step s ≤ most
Fits most (values d) es = d ≤ most → d + depth_of_expressions es ≤ most
Fits most (results d) es = d ≤ most → d + depth_of_expressions es ≤ most
Fits most (targets d e) es = d + depth_of_expression e ≤ most → d + depth_of_expressions es ≤ most
Fits most (body d line) b = d ≤ most → d + depth_of_body b ≤ most
Fits most (expressions_at d) es = d + depth_of_expressions es ≤ most
Fits most (more_expressions_at d) es = d ≤ most → d + depth_of_expressions es ≤ most
Fits most (whole d limit) e = d + depth_of_expression e ≤ most
Fits most (climb d limit start left) e = d + depth_of_expression left ≤ most → d + depth_of_expression e ≤ most
Fits most (simple d) e = d + depth_of_expression e ≤ most
Fits most (prefix d role) e = d + depth_of_expression e ≤ most
Fits most (suffix d role on) e = d + depth_of_expression on ≤ most → d + depth_of_expression e ≤ most
Fits most (function_value d) e = d + depth_of_expression e ≤ most
Fits most (table_of d) e = d + depth_of_expression e ≤ most
Fits most (paren_of d role) e = d + paren_spare role + depth_of_expression e ≤ most
Fits most (field_of d on) e = d + depth_of_expression e ≤ most
Fits most (index_of d on) e = d + depth_of_expression e ≤ most
Fits most (method_of d role on) e = d + call_spare role + depth_of_expression e ≤ most
Fits most (call_of d role on) e = d + call_spare role + depth_of_expression e ≤ most
Fits most (arguments d needed) args = needed ≤ most × (d ≤ most → d + depth_of_arguments args ≤ most)
Fits most (listed d) es = d ≤ most → d + depth_of_expressions es ≤ most
Fits most (fields d) items = d ≤ most → d + depth_of_fields items ≤ most
Fits most (one_field d) item = d + depth_of_field item ≤ most
Fits most (keyed_of d) item = d + depth_of_field item ≤ most
Fits most (named_of d start name) item = d + 1 ≤ most → d + depth_of_field item ≤ most
Fits most goal meant = Unit {0}

-- what holds of each answer of a program, by what holds of its calls
abbrev pub Keeps : ℕ → {answer : Phrase} → Program answer → (Meant answer → Type 0) → Type 0
Keeps most (give meant) q = q meant
Keeps most stop q = Unit {0}
Keeps most (look after) q = (before : ℕ) (kind : Option TokenKind) (line : ℕ) → Keeps most (after before kind line) q
Keeps most (skip depth after) q = depth ≤ most → Keeps most after q
Keeps most (want kind after) q = Keeps most after q
Keeps most (choose kind this other) q = Keeps most this q × Keeps most other q
Keeps most (call {inner} goal after) q = (meant : Meant inner) → Fits most goal meant → Keeps most (after meant) q

abbrev pub AllKeep : ℕ → Type 0
AllKeep most = (answer : Phrase) (goal : Goal answer) → Keeps most (reads goal) (Fits most goal)

abbrev answer_in : {answer : Phrase} → Meant answer → End answer → Meant answer
answer_in other (done meant last rest) = meant
answer_in other (fault why rest) = other

-- what a program keeps holds of each answer that it comes to
end_keeps : {most : ℕ} {answer : Phrase} {program : Program answer} {before : ℕ} {tokens : List Token} {end : End answer} → AllKeep most → Runs most answer program before tokens end →
    (meant : Meant answer) (last : ℕ) (rest : List Token) → end ≡ done meant last rest → (q : Meant answer → Type 0) → Keeps most program q → q meant
end_keeps all (gives {meant = found}) meant last rest e q k = subst (λ x. q x) (ap (λ x. answer_in found x) e) k
end_keeps all stops meant last rest e q k = cc
end_keeps all (looks a) meant last rest e q k = end_keeps all a meant last rest e q (k _ _ _)
end_keeps all (skips h a) meant last rest e q k = end_keeps all a meant last rest e q (k h)
end_keeps all (deep h) meant last rest e q k = cc
end_keeps all ends meant last rest e q k = cc
end_keeps all (wants h a) meant last rest e q k = end_keeps all a meant last rest e q k
end_keeps all (misses h) meant last rest e q k = cc
end_keeps all (chooses h a) meant last rest e q k = end_keeps all a meant last rest e q k.0
end_keeps all (passes h a) meant last rest e q k = end_keeps all a meant last rest e q k.1
end_keeps {most} all (calls {inner} {goal} {last = between} {rest = left} {meant = found} a b) meant last rest e q k =
    end_keeps all b meant last rest e q (k found (end_keeps all a found between left refl (Fits most goal) (all inner goal)))
end_keeps all (fails a) meant last rest e q k = cc

-- every program keeps what always holds
keep_nothing : (most : ℕ) {answer : Phrase} (program : Program answer) → Keeps most program (λ meant. Unit {0})
keep_nothing most (give meant) = tt
keep_nothing most stop = tt
keep_nothing most (look after) = λ before kind line. keep_nothing most (after before kind line)
keep_nothing most (skip depth after) = λ h. keep_nothing most after
keep_nothing most (want kind after) = keep_nothing most after
keep_nothing most (choose kind this other) = (keep_nothing most this, keep_nothing most other)
keep_nothing most (call goal after) = λ meant h. keep_nothing most (after meant)

keep_if : (most : ℕ) {answer : Phrase} (test : Bool) (this other : Program answer) (q : Meant answer → Type 0) → Keeps most this q → Keeps most other q → Keeps most (if test then this else other) q
keep_if most true this other q h i = h
keep_if most false this other q h i = i

join_if : (d a b c e most : ℕ) → d + a ≤ most → d + b ≤ most → d + max c e ≤ most → d + max (max (max a b) c) e ≤ most
join_if d a b c e most h i j = omega arith

join_four : (d a b c e most : ℕ) → d + a ≤ most → d + b ≤ most → d + c ≤ most → d + e ≤ most → d + max (max a b) (max c e) ≤ most
join_four d a b c e most h i j k = two_fit d (max a b) (max c e) most (two_fit d a b most h i) (two_fit d c e most j k)

drop_spare : (d spare a most : ℕ) → d + spare + a ≤ most → d + a ≤ most
drop_spare d spare a most h = omega arith

-- the parts that go on by a test of the next token
keep_main : (most : ℕ) (inside : Statements) (kind : Option TokenKind) → Keeps most (main_on inside kind) (λ b. Unit {0})
keep_main most inside None = tt
keep_main most inside (Some kind) = tt

keep_statement : (most d : ℕ) (start : Start) → Keeps most (statement_on d start) (λ s. d + depth_of_statement s ≤ most)
keep_statement most d Start.If = λ s h. h
keep_statement most d Start.While = λ s h. h
keep_statement most d Start.Do = λ s h. h
keep_statement most d Start.For = λ s h. h
keep_statement most d Start.Repeat = λ s h. h
keep_statement most d Start.Function = λ s h. h
keep_statement most d Start.Local = λ s h. h
keep_statement most d Start.Return = λ s h. h
keep_statement most d Start.Break = λ s h. h
keep_statement most d Start.Expression = λ s h. h

keep_whole : (most d limit line : ℕ) (op : Option UnaryOp) → Keeps most (whole_on d limit line op) (λ e. d + depth_of_expression e ≤ most)
keep_whole most d limit line (Some op) = λ h e f more g. g (under d (depth_of_expression e) most f)
keep_whole most d limit line None = λ e f more g. g f

keep_climb : (most d limit start : ℕ) (left : Expression) (line : ℕ) (op : Option Infix) → Keeps most (climb_on d limit start left line op) (λ e. d + depth_of_expression left ≤ most → d + depth_of_expression e ≤ most)
keep_climb most d limit start left line None = λ h. h
keep_climb most d limit start left line (Some op) = keep_if most (nat_lt limit (left_power op)) _ _ _
    (λ h right f e g i. g (subst (λ x. d + x ≤ most) (sym (infix_depth op start line left right)) (two_fit_below d (depth_of_expression left) (depth_of_expression right) most h f)))
    (λ h. h)

-- a literal is one deep
abbrev depth_of_some : Option Expression → ℕ
depth_of_some None = 1
depth_of_some (Some e) = depth_of_expression e

literal_depth : (line : ℕ) (kind : Option TokenKind) → depth_of_some (literal_of line kind) ≡ 1
literal_depth line (Some TokenKind.Nil) = refl
literal_depth line (Some TokenKind.True) = refl
literal_depth line (Some TokenKind.False) = refl
literal_depth line (Some TokenKind.DotDotDot) = refl
literal_depth line (Some (TokenKind.Number (pos n))) = refl
literal_depth line (Some (TokenKind.Text text)) = refl
literal_depth line kind = refl

keep_simple : (most d line : ℕ) (kind : Option TokenKind) (e : Option Expression) → literal_of line kind ≡ e → Keeps most (simple_on d e) (λ e. d + depth_of_expression e ≤ most)
keep_simple most d line kind None i = (λ e h. h, (λ e h. h, λ e h. h))
keep_simple most d line kind (Some e) i = λ h. subst (λ x. d + x ≤ most) (sym (sym (ap (λ x. depth_of_some x) i) ∙ literal_depth line kind)) h

keep_prefix : (most d : ℕ) (role : Role) (name : Option Text) (line : ℕ) → Keeps most (prefix_on d role name line) (λ e. d + depth_of_expression e ≤ most)
keep_prefix most d role (Some name) line = λ h e g. g h
keep_prefix most d role None line = (λ e f more g. g (drop_spare d (paren_spare role) (depth_of_expression e) most f), tt)

keep_suffix : (most d : ℕ) (role : Role) (on : Expression) (kind : Suffix) → Keeps most (suffix_on d role on kind) (λ e. d + depth_of_expression on ≤ most → d + depth_of_expression e ≤ most)
keep_suffix most d role on Suffix.Field = λ e f more g i. g f
keep_suffix most d role on Suffix.Index = λ e f more g i. g f
keep_suffix most d role on Suffix.Method = λ e f more g i. g (drop_spare d (call_spare role) (depth_of_expression e) most f)
keep_suffix most d role on Suffix.Call = λ e f more g i. g (drop_spare d (call_spare role) (depth_of_expression e) most f)
keep_suffix most d role on Suffix.Missing = λ i. i

keep_text : (most d needed : ℕ) (text : Option Text) → Keeps most (text_on needed text) (λ args. needed ≤ most × (d ≤ most → d + depth_of_arguments args ≤ most))
keep_text most d needed (Some text) = λ h. (h, λ i. with_none d most i)
keep_text most d needed None = tt

with_item : (d most : ℕ) (item : Field) (mark : Separator) (rest : Fields) → d + depth_of_field item ≤ most → d + depth_of_fields rest ≤ most → d + depth_of_fields (add_field item mark rest) ≤ most
with_item d most (positional_field e) mark rest h i = two_fit d (depth_of_expression e) (depth_of_fields rest) most h i
with_item d most (named_field name e) mark rest h i = two_fit d (depth_of_expression e) (depth_of_fields rest) most h i
with_item d most (keyed_field key e) mark rest h i = two_fit d (max (depth_of_expression key) (depth_of_expression e)) (depth_of_fields rest) most h i

keep_fields : (most d : ℕ) (item : Field) (mark : Separator) → d + depth_of_field item ≤ most → Keeps most (fields_after d item mark) (λ items. d ≤ most → d + depth_of_fields items ≤ most)
keep_fields most d item Separator.Missing h = λ i. with_item d most item Separator.Missing no_fields h (with_none d most i)
keep_fields most d item Separator.Comma h = λ rest g i. with_item d most item Separator.Comma rest h (g i)
keep_fields most d item Separator.Semicolon h = λ rest g i. with_item d most item Separator.Semicolon rest h (g i)

keep_field : (most d : ℕ) (name : Option Text) (line : ℕ) → Keeps most (field_on d name line) (λ item. d + depth_of_field item ≤ most)
keep_field most d (Some name) line = λ h item g. g h
keep_field most d None line = (λ item h. h, λ e h. h)

-- the answers of each goal fit
keeps : (most : ℕ) (answer : Phrase) (goal : Goal answer) → Keeps most (reads goal) (Fits most goal)
keeps most answer main_chunk = λ inside f before kind line. keep_main most inside kind
keeps most answer (block d) = λ before kind line. keep_if most (is_block_end kind) _ _ _ (λ h. with_none d most h)
    (λ s f semi u. keep_if most (ends_block s) _ _ _ (λ h. two_fit d (1 + depth_of_statement s) 0 most (under d (depth_of_statement s) most f) (with_none d most h))
    (λ rest g h. two_fit d (1 + depth_of_statement s) (depth_of_statements rest) most (under d (depth_of_statement s) most f) (g h)))
keeps most answer (one_statement d) = λ before kind line. keep_statement most d (start_of kind)
keeps most answer (if_of d) = λ h e f b g left i.
    join_if d (depth_of_expression e) (depth_of_statements b) (depth_of_branches left.branches) (depth_of_otherwise left.last) most f (g (less_one d most h)) (i (less_one d most h))
keeps most answer (while_of d) = λ h e f b g. two_fit d (depth_of_expression e) (depth_of_statements b) most f (g (less_one d most h))
keeps most answer (do_of d) = λ h b g. g h
keeps most answer (for_of d) = λ h name u. (λ s i. i, λ s i. i)
keeps most answer (numeric_of d name) = λ h e f e' f' by i b g.
    join_four d (depth_of_expression e) (depth_of_expression e') (depth_of_step by) (depth_of_statements b) most f f' (i (less_one d most h)) (g (less_one d most h))
keeps most answer (generic_of d name) = λ names u. (λ h es f b g. two_fit d (depth_of_expressions es) (depth_of_statements b) most f (g (less_one d most h)), tt)
keeps most answer (repeat_of d) = λ h b g e f. two_fit d (depth_of_statements b) (depth_of_expression e) most (g (less_one d most h)) f
keeps most answer (function_of d) = λ before kind line h name u names u' method u'' b g. under d (depth_of_body b) most (g h)
keeps most answer (local_of d) = λ h. (λ s i. i, λ s i. i h)
keeps most answer (local_function_of d) = λ before kind line h name u b g. under d (depth_of_body b) most (g h)
keeps most answer (local_names_of d) = λ name u names u' es g. g
keeps most answer (return_of d) = λ h es g. g h
keeps most answer (break_of d) = λ h. with_none d most h
keeps most answer (expression_statement d) = λ e f. keep_if most (is_call e) _ _ _ f (λ lefts g rights h. two_fit d (depth_of_expressions lefts) (depth_of_expressions rights) most (g f) h)
keeps most answer (branches d) = (
  λ h e f b g left i j. join_if d (depth_of_expression e) (depth_of_statements b) (depth_of_branches left.branches) (depth_of_otherwise left.last) most f (g j) (i j),
  (λ h b g j. two_fit d 0 (depth_of_statements b) most (with_none d most j) (g j), λ j. two_fit d 0 0 most (with_none d most j) (with_none d most j)),
)
keeps most answer (step d) = (λ h e f i. f, λ i. with_none d most i)
keeps most answer (values d) = (λ h es f i. f, λ i. with_none d most i)
keeps most answer (results d) = (λ i. with_none d most i, λ before kind line. keep_if most (is_block_end kind) _ _ _ (λ i. with_none d most i) (λ es f i. f))
keeps most answer (targets d e) = keep_if most (is_target e) _ _ _
    (λ h next f rest g i. two_fit d (depth_of_expression e) (depth_of_expressions rest) most i (g f), (λ i. two_fit d (depth_of_expression e) 0 most i (with_none d most (without d (depth_of_expression e) most i)), tt))
    tt
keeps most answer (body d first) = λ params u b g last kind line. g
keeps most answer (expressions_at d) = λ e f rest g. two_fit d (depth_of_expression e) (depth_of_expressions rest) most f (g (without d (depth_of_expression e) most f))
keeps most answer (more_expressions_at d) = (λ h e f rest g i. two_fit d (depth_of_expression e) (depth_of_expressions rest) most f (g i), λ i. with_none d most i)
keeps most answer (whole d limit) = λ before kind line. keep_whole most d limit line (unary_of kind)
keeps most answer (climb d limit start left) = λ before kind line. keep_climb most d limit start left line (infix_of kind)
keeps most answer (simple d) = λ before kind line. keep_simple most d line kind (literal_of line kind) refl
keeps most answer (prefix d role) = λ before kind line. keep_prefix most d role (name_of kind) line
keeps most answer (suffix d role on) = λ before kind line. keep_suffix most d role on (suffix_of kind)
keeps most answer (function_value d) = λ before kind line h b g. under d (depth_of_body b) most (g h)
keeps most answer (table_of d) = λ before kind line h items g. under d (depth_of_fields items) most (g h)
keeps most answer (paren_of d role) = λ before kind line h e f. under (d + paren_spare role) (depth_of_expression e) most f
keeps most answer (field_of d on) = λ before kind line h name u. under d (depth_of_expression on) most h
keeps most answer (index_of d on) = λ before kind line h key f. two_fit_below d (depth_of_expression on) (depth_of_expression key) most h f
keeps most answer (method_of d role on) = λ h name u on_line kind line args f.
    two_fit_below (d + call_spare role) (depth_of_expression on) (depth_of_arguments args) most h (f.1 (without (d + call_spare role + 1) (depth_of_expression on) most h))
keeps most answer (call_of d role on) = λ before kind line args f.
    two_fit_below (d + call_spare role) (depth_of_expression on) (depth_of_arguments args) most f.0 (f.1 (without (d + call_spare role + 1) (depth_of_expression on) most f.0))
keeps most answer (arguments d needed) = (
  λ before kind line. keep_if most (before == line) _ _ _ (λ h es g. (h, g)) tt,
  (λ h items g. (h, g), λ before kind line. keep_text most d needed (text_of kind)),
)
keeps most answer (listed d) = (λ i. with_none d most i, λ es h i. h)
keeps most answer (fields d) = (λ i. with_none d most i, λ item f mark u. keep_fields most d item mark f)
keeps most answer (one_field d) = λ before kind line. keep_field most d (name_of kind) line
keeps most answer (keyed_of d) = λ h key f e g. two_fit d (depth_of_expression key) (depth_of_expression e) most f g
keeps most answer (named_of d start name) = (λ h e f i. f, λ e f more g i. g (f i))
keeps most answer goal = keep_nothing most (reads goal)

-- what a run finds fits
pub fits : {most : ℕ} {answer : Phrase} (goal : Goal answer) {before last : ℕ} {tokens rest : List Token} {meant : Meant answer} → Runs most answer (reads goal) before tokens (done meant last rest) → Fits most goal meant
fits {most} {answer} goal {last} {rest} {meant} a = end_keeps (keeps most) a meant last rest refl (Fits most goal) (keeps most answer goal)
