-- Each list of names, parameters, expressions, targets, arguments and items is read where it is spelled, if its parts are.
use Rattle.std.proofs.Common.{◌≡◌, ◌==◌, ℕ, ◌+◌, ◌≤◌, max, Bool, true, false, List, [], ◌∷◌, Option, Some, None, refl, sym, ◌∙◌, ap, subst, arith}
use Rattle.std.proofs.lemmas.Bool.Decides.{nat_tests}
use Rattle.lua_tree.specs.Syntax.{Statements, function_body, Expressions, no_expressions, expression, Expression, name_expression, call_expression, method_call, parenthesized, argument_list, text_argument, table_argument, Fields, no_fields, positional, named, keyed}
use Rattle.lua_num.specs.Bytes.{Text}
use Rattle.lua_tree.specs.Names.{is_name, are_names}
use Rattle.lua_tree.specs.WellFormed.{is_target, are_targets, has_expressions, takes_arguments, last_takes_arguments, ends_item, depth_of_expressions, depth_of_expression, depth_of_fields}
use Rattle.lua_tree.specs.Spelled.{Phrase, Meant, more_names_phrase, parameters_phrase, more_parameters_phrase, field_phrase, fields_phrase, expression_phrase, body_phrase, Field, positional_field, named_field, keyed_field, Spelled, more_names_parts, parameters_parts, more_parameters_parts, more_expressions_parts, expression_parts, field_parts, fields_parts, separator_parts, by_word, by_word_on, by_phrase, no_part}
use Rattle.lua_tree.specs.declared.token.TokenKind.{TokenKind}
use Rattle.lua_tree.specs.declared.token.Token.{Token}
use Rattle.lua_tree.specs.declared.tree.Separator.{Separator}
use Rattle.parser.specs.Classes.{Role, Suffix, suffix_of, literal_of, name_of, is_block_end}
use Rattle.parser.specs.Operators.{infix_of, unary_of}
use Rattle.parser.specs.Program.{Goal, Program, give, prefix, look, skip, choose, call, become, reads, parameters, more_parameters, more_names_by, fields, one_field, separator, whole, climb, suffix, whole_on, simple_on, prefix_on, field_on, add_field, fields_after}
use Rattle.parser.specs.Runs.{kind_of, line_of, End, done, Runs, gives, looks, skips, wants, chooses, passes, calls}
use Rattle.parser.proofs.Small.{and_left, and_right, not_it, none_is, depth_positive}
use Rattle.parser.proofs.Ends.{one_end, left}
use Rattle.parser.proofs.RunSteps.{look_at, choose_at, pass_at, pass_on, tail}
use Rattle.parser.proofs.SoundSteps.{name_kind}
use Rattle.parser.proofs.FirstTokens.{in_class, begins_expression, expression_first}
use Rattle.parser.proofs.Reading.{needed, PrefixReads, Closed, ExpressionReads, ExpressionsReads, MoreReads, TargetsReads, ArgumentsReads, FieldsReads, BodyReads, BlockReads}
use Rattle.parser.proofs.FoundExpressions.{if_true, climb_stops, suffix_stops, name_reads, good_name, closes}

-- names behind a mark
pub more_names_reads : (most : ℕ) (mark : TokenKind) (names : List Text) {pv last : ℕ} {ts rest : List Token} → are_names names ≡ true → Spelled (more_names_parts mark names) pv ts last rest → (kind_of rest ≡ Some mark → ⊥) →
    Runs most (more_names_phrase mark) (reads (more_names_by mark)) pv ts (done names last rest)
more_names_reads most mark [] f no_part n = passes n gives
more_names_reads most mark (name ∷ names) f (by_word k (by_word i (by_phrase s no_part))) n =
    choose_at k (skips (omega arith) (calls (name_reads i (and_left _ _ f)) (calls (more_names_reads most mark names (and_right _ _ f) s n) gives)))

-- parameters behind the first, up to a `)`
more_parameters_reads : (most : ℕ) (names : List Text) (vararg : Bool) {pv last : ℕ} {ts rest : List Token} → are_names names ≡ true → Spelled (more_parameters_parts names vararg) pv ts last rest → kind_of rest ≡ Some TokenKind.CloseParen →
    Runs most more_parameters_phrase (reads more_parameters) pv ts (done (record { names = names; vararg = vararg }) last rest)
more_parameters_reads most [] false f no_part e = pass_on e (λ q. cc) gives
more_parameters_reads most [] true f (by_word k (by_word m no_part)) e = choose_at k (skips (omega arith) (calls (choose_at m (skips (omega arith) gives)) gives))
more_parameters_reads most (name ∷ names) vararg f (by_word k (by_word i (by_phrase s no_part))) e =
    choose_at k (skips (omega arith) (calls (pass_at i (λ q. cc) (calls (name_reads i (and_left _ _ f)) (calls (more_parameters_reads most names vararg (and_right _ _ f) s e) gives))) gives))

-- all parameters, up to a `)`
parameters_reads : (most : ℕ) (names : List Text) (vararg : Bool) {pv last : ℕ} {ts rest : List Token} → are_names names ≡ true → Spelled (parameters_parts names vararg) pv ts last rest → kind_of rest ≡ Some TokenKind.CloseParen →
    Runs most parameters_phrase (reads parameters) pv ts (done (record { names = names; vararg = vararg }) last rest)
parameters_reads most [] false f no_part e = chooses e gives
parameters_reads most [] true f (by_word m no_part) e = pass_at m (λ q. cc) (tail (choose_at m (skips (omega arith) gives)))
parameters_reads most (name ∷ names) vararg f (by_word i (by_phrase s no_part)) e =
    pass_at i (λ q. cc) (tail (pass_at i (λ q. cc) (calls (name_reads i (and_left _ _ f)) (calls (more_parameters_reads most names vararg (and_right _ _ f) s e) gives))))

-- a function body
pub body_reads : (most : ℕ) (params : List Text) (vararg : Bool) (b : Statements) (first end : ℕ) → are_names params ≡ true → BlockReads most b → BodyReads most (function_body params vararg b first end)
body_reads most params vararg b first end f inner d pv last ts rest (by_word o (by_phrase p (by_word c (by_phrase s (by_word_on {token} {tokens} e l no_part))))) h =
    wants o (calls (parameters_reads most params vararg f p (ap Some c)) (wants c (calls (inner d _ _ _ _ s h (in_class is_block_end e refl)) (wants e
    (subst (λ x. Runs most body_phrase (look (λ last kind line. give (function_body params vararg b first last))) token.line tokens (done (function_body params vararg b first x) token.line tokens)) l (looks gives))))))

-- what follows an expression of a list
more_closed : (e : Expression) (es : Expressions) {pv last : ℕ} {ts rest : List Token} → Spelled (more_expressions_parts es) pv ts last rest → Closed (last_takes_arguments (expression e es)) rest → Closed (takes_arguments e) ts
more_closed e no_expressions no_part c = c
more_closed e (expression next es) (by_word k s) c = closes k refl refl

rest_closed : (e : Expression) (es : Expressions) {rest : List Token} → Closed (last_takes_arguments (expression e es)) rest → Closed (last_takes_arguments es) rest
rest_closed e no_expressions c = record { operator = c.operator; suffix = λ q. cc }
rest_closed e (expression next es) c = c

pub fits_list : (d a b most : ℕ) → d + max a b ≤ most → (d + a ≤ most) × (d + b ≤ most)
fits_list d a b most h = (omega arith, omega arith)

-- more expressions of a list, each behind a `,`
pub more_none : (most : ℕ) → MoreReads most no_expressions
more_none most d pv last ts rest no_part h c n = passes n gives

pub more_next : (most : ℕ) (e : Expression) (es : Expressions) → ExpressionReads most e → MoreReads most es → MoreReads most (expression e es)
more_next most e es one others d pv last ts rest (by_word k (by_phrase s (by_phrase t no_part))) h c n =
    let p = fits_list d (depth_of_expression e) (depth_of_expressions es) most h in
    let q = depth_positive e in
    choose_at k (skips (omega arith) (calls (one d _ _ _ _ s p.0 (more_closed e es t c)) (calls (others d _ _ _ _ t p.1 (rest_closed e es c) n) gives)))

-- a list of expressions
pub expressions_next : (most : ℕ) (e : Expression) (es : Expressions) → ExpressionReads most e → MoreReads most es → ExpressionsReads most (expression e es)
expressions_next most e es one others d pv last ts rest (by_phrase s (by_phrase t no_part)) h c n =
    let p = fits_list d (depth_of_expression e) (depth_of_expressions es) most h in
    calls (one d _ _ _ _ s p.0 (more_closed e es t c)) (calls (others d _ _ _ _ t p.1 (rest_closed e es c) n) gives)

-- targets
target_needs : (role : Role) (e : Expression) → is_target e ≡ true → needed role e ≡ 0
target_needs role (call_expression line on args on_line) h = cc
target_needs role (method_call line on name args on_line) h = cc
target_needs role (parenthesized line e) h = cc
target_needs role e h = refl

-- a target stands before `,` or `=`
pub behind_target : (es : Expressions) {pv last : ℕ} {ts rest : List Token} → Spelled (more_expressions_parts es) pv ts last rest → kind_of rest ≡ Some TokenKind.Equal → suffix_of (kind_of ts) ≡ Suffix.Missing
behind_target no_expressions no_part e = ap suffix_of e
behind_target (expression next es) (by_word k s) e = ap (λ x. suffix_of (Some x)) k

-- a target is read up to the `,` or `=` behind it
pub target_reads : (most : ℕ) (role : Role) (e : Expression) → is_target e ≡ true → PrefixReads most e → (d pv last : ℕ) (ts rest : List Token) → Spelled (expression_parts e) pv ts last rest → d + depth_of_expression e ≤ most →
    suffix_of (kind_of rest) ≡ Suffix.Missing → Runs most expression_phrase (reads (prefix d role)) pv ts (done e last rest)
target_reads most role e t before d pv last ts rest s h m =
    before role d pv last ts rest _ s (subst (λ x. d + x + depth_of_expression e ≤ most) (sym (target_needs role e t)) (omega arith)) (suffix_stops m)

-- more targets, up to the `=`
pub targets_none : (most : ℕ) → TargetsReads most no_expressions
targets_none most e d pv last ts rest t no_part h k = if_true (is_target e) _ _ t (pass_on k (λ q. cc) (chooses k gives))

pub targets_next : (most : ℕ) (e : Expression) (es : Expressions) → is_target e ≡ true → PrefixReads most e → TargetsReads most es → TargetsReads most (expression e es)
targets_next most e es g one others before d pv last ts rest t (by_word k (by_phrase s (by_phrase u no_part))) h q =
    let p = fits_list d (depth_of_expression e) (depth_of_expressions es) most h in
    let i = depth_positive e in
    if_true (is_target before) _ _ t (choose_at k (skips (omega arith) (calls (target_reads most Role.Target e g one d _ _ _ _ s p.0 (behind_target es u q))
    (calls (others e d _ _ _ _ g u p.1 q) gives))))

-- what is known of a list of expressions
pub record ExpressionsFound (most : ℕ) (es : Expressions) : Type 0 where
  pub first : has_expressions es ≡ true → ExpressionsReads most es
  pub more : MoreReads most es
  pub targets : are_targets es ≡ true → TargetsReads most es

-- arguments
pub list_reads : (most : ℕ) (es : Expressions) → ExpressionsFound most es → ArgumentsReads most (argument_list es)
list_reads most no_expressions inner d least pv last ts rest (by_word {token} k (by_phrase no_part (by_word c no_part))) l h e =
    choose_at k (looks (if_true (pv == token.line) _ _ (grind (arith, nat_tests)) (skips l (calls (choose_at c gives) (wants c gives)))))
list_reads most (expression e es) inner d least pv last ts rest (by_word {token} k (by_phrase (by_phrase s t) (by_word c no_part))) l h i =
    choose_at k (looks (if_true (pv == token.line) _ _ (grind (arith, nat_tests)) (skips l (calls
    (pass_on refl (not_it begins_expression (expression_first e s) refl) (tail (inner.first refl d _ _ _ _ (by_phrase s t) h (closes c refl refl) (λ q. cc))))
    (wants c gives)))))

-- a text as the argument
pub text_reads : (most : ℕ) (text : Text) → ArgumentsReads most (text_argument text)
text_reads most text d least pv last ts rest (by_word k no_part) l h e = pass_at k (λ q. cc) (pass_at k (λ q. cc) (look_at k (skips l gives)))

-- a constructor as the argument
pub table_reads : (most : ℕ) (items : Fields) → FieldsReads most items → ArgumentsReads most (table_argument items)
table_reads most items inner d least pv last ts rest (by_word k (by_phrase s (by_word c no_part))) l h e =
    pass_at k (λ q. cc) (choose_at k (skips l (calls (inner d _ _ _ _ s h (ap Some c)) (wants c gives))))

-- what stands behind an item of a constructor
abbrev pub after_item : Option TokenKind → Bool
after_item (Some TokenKind.Comma) = true
after_item (Some TokenKind.Semicolon) = true
after_item (Some TokenKind.CloseBrace) = true
after_item next = false

item_closed : {takes : Bool} (rest : List Token) → after_item (kind_of rest) ≡ true → Closed takes rest
item_closed rest h = record { operator = operator (kind_of rest) h; suffix = λ t. nothing (kind_of rest) h }
  where
    operator : (next : Option TokenKind) → after_item next ≡ true → infix_of next ≡ None
    operator (Some TokenKind.Comma) h = refl
    operator (Some TokenKind.Semicolon) h = refl
    operator (Some TokenKind.CloseBrace) h = refl
    operator next h = cc

    nothing : (next : Option TokenKind) → after_item next ≡ true → suffix_of next ≡ Suffix.Missing
    nothing (Some TokenKind.Comma) h = refl
    nothing (Some TokenKind.Semicolon) h = refl
    nothing (Some TokenKind.CloseBrace) h = refl
    nothing next h = cc

-- what a run says of its parts
look_in : {most : ℕ} {answer : Phrase} {then : ℕ → Option TokenKind → ℕ → Program answer} {before : ℕ} {tokens : List Token} {end : End answer} →
    Runs most answer (look then) before tokens end → Runs most answer (then before (kind_of tokens) (line_of tokens)) before tokens end
look_in (looks r) = r

pass_in : {most : ℕ} {answer : Phrase} {kind : TokenKind} {one other : Program answer} {before : ℕ} {tokens : List Token} {end : End answer} →
    (kind_of tokens ≡ Some kind → ⊥) → Runs most answer (choose kind one other) before tokens end → Runs most answer other before tokens end
pass_in n (chooses k r) = absurd (n k)
pass_in n (passes k r) = r

record Called (most : ℕ) {answer inner : Phrase} (goal : Goal inner) (then : Meant inner → Program answer) (before : ℕ) (tokens : List Token) (end : End answer) : Type 0 where
  meant : Meant inner
  last : ℕ
  rest : List Token
  first : Runs most inner (reads goal) before tokens (done meant last rest)
  after : Runs most answer (then meant) last rest end

call_in : {most : ℕ} {answer inner : Phrase} {goal : Goal inner} {then : Meant inner → Program answer} {before last : ℕ} {tokens rest : List Token} {meant : Meant answer} →
    Runs most answer (call goal then) before tokens (done meant last rest) → Called most goal then before tokens (done meant last rest)
call_in (calls {last} {rest} {meant} a b) = record { meant = meant; last = last; rest = rest; first = a; after = b }

become_in : {most : ℕ} {answer : Phrase} {goal : Goal answer} {before last : ℕ} {tokens rest : List Token} {meant : Meant answer} →
    Runs most answer (become goal) before tokens (done meant last rest) → Runs most answer (reads goal) before tokens (done meant last rest)
become_in (calls a gives) = a

record Skipped (most : ℕ) {answer : Phrase} (depth : ℕ) (then : Program answer) (token : Token) (tokens : List Token) (end : End answer) : Type 0 where
  fits : depth ≤ most
  after : Runs most answer then token.line tokens end

skip_in : {most : ℕ} {answer : Phrase} {depth : ℕ} {then : Program answer} {before last : ℕ} {token : Token} {tokens rest : List Token} {meant : Meant answer} →
    Runs most answer (skip depth then) before (token ∷ tokens) (done meant last rest) → Skipped most depth then token tokens (done meant last rest)
skip_in (skips h r) = record { fits = h; after = r }

-- a run of an expression that begins with a name
record NamedRun (most d : ℕ) (name : Text) (token : Token) (tokens : List Token) (e : Expression) (last : ℕ) (rest : List Token) : Type 0 where
  operand : Expression
  line : ℕ
  middle : List Token
  fits : d + 1 ≤ most
  suffixes : Runs most expression_phrase (reads (suffix d Role.Operand (name_expression token.line name))) token.line tokens (done operand line middle)
  operators : Runs most expression_phrase (reads (climb d 0 token.line operand)) line middle (done e last rest)

named_run : (most d pv last : ℕ) (name : Text) (token : Token) (tokens rest : List Token) (e : Expression) → token.kind ≡ TokenKind.Name name → name_of (Some token.kind) ≡ Some name →
    Runs most expression_phrase (reads (whole d 0)) pv (token ∷ tokens) (done e last rest) → NamedRun most d name token tokens e last rest
named_run most d pv last name token tokens rest e k n r =
    let no_function : Some token.kind ≡ Some TokenKind.Function → ⊥ = λ q. cc in
    let no_brace : Some token.kind ≡ Some TokenKind.OpenBrace → ⊥ = λ q. cc in
    let c = call_in (subst (λ x. Runs most expression_phrase (whole_on d 0 token.line x) pv (token ∷ tokens) (done e last rest)) (ap (λ x. unary_of (Some x)) k) (look_in r)) in
    let s = subst (λ x. Runs most expression_phrase (simple_on d x) pv (token ∷ tokens) (done c.meant c.last c.rest)) (ap (λ x. literal_of token.line (Some x)) k) (look_in c.first) in
    let p = look_in (become_in (pass_in no_brace (pass_in no_function s))) in
    let q = skip_in (subst (λ x. Runs most expression_phrase (prefix_on d Role.Operand x token.line) pv (token ∷ tokens) (done c.meant c.last c.rest)) n p) in
    record { operand = c.meant; line = c.last; middle = c.rest; fits = q.fits; suffixes = become_in q.after; operators = become_in c.after }

-- an item that is an expression
abbrev FieldReads : ℕ → Field → ℕ → Type 0
FieldReads most item depth =
    (d pv last : ℕ) (ts rest : List Token) → Spelled (field_parts item) pv ts last rest → d + depth ≤ most → after_item (kind_of rest) ≡ true →
    Runs most field_phrase (reads (one_field d)) pv ts (done item last rest)

-- where a lone name is followed by `=`, the expression ends before it
no_equal : (most d : ℕ) (name : Text) (token : Token) (tokens : List Token) (e : Expression) (last : ℕ) (rest : List Token) → NamedRun most d name token tokens e last rest → kind_of tokens ≡ Some TokenKind.Equal → kind_of rest ≡ Some TokenKind.Equal
no_equal most d name token tokens e last rest r q =
    let a : r.middle ≡ tokens = ap left (one_end r.suffixes (suffix_stops (ap suffix_of q))) in
    let at_middle : kind_of r.middle ≡ Some TokenKind.Equal = ap kind_of a ∙ q in
    let b : rest ≡ r.middle = ap left (one_end r.operators (climb_stops most d 0 token.line r.operand r.line r.middle (λ op i. absurd (none_is op (sym (ap infix_of at_middle) ∙ i))))) in
    ap kind_of b ∙ at_middle

named_item : (most d pv last : ℕ) (name : Text) (token : Token) (tokens rest : List Token) (e : Expression) → name_of (Some token.kind) ≡ Some name → after_item (kind_of rest) ≡ true →
    NamedRun most d name token tokens e last rest → Runs most field_phrase (reads (one_field d)) pv (token ∷ tokens) (done (positional_field e) last rest)
named_item most d pv last name token tokens rest e n a r =
    looks (subst (λ x. Runs most field_phrase (field_on d x token.line) pv (token ∷ tokens) (done (positional_field e) last rest)) (sym n)
    (skips r.fits (tail (passes (λ q. not_it after_item a refl (no_equal most d name token tokens e last rest r q)) (calls r.suffixes (calls r.operators gives))))))

positional_reads : (most : ℕ) (e : Expression) → ExpressionReads most e → FieldReads most (positional_field e) (depth_of_expression e)
positional_reads most e inner d pv last ts rest (by_phrase s no_part) h a = by (name_of (kind_of ts)) refl
  where
    run : Runs most expression_phrase (reads (whole d 0)) pv ts (done e last rest)
    run = inner d pv last ts rest s h (item_closed rest a)

    at_name : (name : Text) (ts : List Token) → name_of (kind_of ts) ≡ Some name → Runs most expression_phrase (reads (whole d 0)) pv ts (done e last rest) → Runs most field_phrase (reads (one_field d)) pv ts (done (positional_field e) last rest)
    at_name name [] n r = cc
    at_name name (token ∷ tokens) n r =
        let k : Some token.kind ≡ Some (TokenKind.Name name) = (name_kind (Some token.kind) name n).is in
        named_item most d pv last name token tokens rest e n a (named_run most d pv last name token tokens rest e (cc) n r)

    by : (found : Option Text) → name_of (kind_of ts) ≡ found → Runs most field_phrase (reads (one_field d)) pv ts (done (positional_field e) last rest)
    by None n = looks (subst (λ x. Runs most field_phrase (field_on d x (line_of ts)) pv ts (done (positional_field e) last rest)) (sym n)
        (pass_on refl (not_it begins_expression (expression_first e s) refl) (calls run gives)))
    by (Some name) n = at_name name ts n run

-- an item `name = expression`
named_reads : (most : ℕ) (name : Text) (e : Expression) → is_name name ≡ true → ExpressionReads most e → FieldReads most (named_field name e) (depth_of_expression e)
named_reads most name e f inner d pv last ts rest (by_word {token} {tokens} i (by_word k (by_phrase s no_part))) h a =
    let p = depth_positive e in
    looks (subst (λ x. Runs most field_phrase (field_on d x token.line) pv (token ∷ tokens) (done (named_field name e) last rest)) (sym (good_name i f))
    (skips (omega arith) (tail (choose_at k (skips (omega arith) (calls (inner d _ _ _ _ s h (item_closed rest a)) gives))))))

-- an item `[key] = expression`
keyed_reads : (most : ℕ) (key e : Expression) → ExpressionReads most key → ExpressionReads most e → FieldReads most (keyed_field key e) (max (depth_of_expression key) (depth_of_expression e))
keyed_reads most key e one inner d pv last ts rest (by_word k (by_phrase s (by_word c (by_word i (by_phrase t no_part))))) h a =
    let p = fits_list d (depth_of_expression key) (depth_of_expression e) most h in
    let q = depth_positive key in
    look_at k (choose_at k (tail (skips (omega arith) (calls (one d _ _ _ _ s p.0 (closes c refl refl)) (wants c (wants i (calls (inner d _ _ _ _ t p.1 (item_closed rest a)) gives)))))))

-- what stands behind an item
behind_item : (mark : Separator) (items : Fields) {pv between last : ℕ} {ts middle rest : List Token} → ends_item mark items ≡ true → Spelled (separator_parts mark) pv ts between middle → Spelled (fields_parts items) between middle last rest →
    kind_of rest ≡ Some TokenKind.CloseBrace → after_item (kind_of ts) ≡ true
behind_item Separator.Comma items f (by_word k s) t e = in_class after_item k refl
behind_item Separator.Semicolon items f (by_word k s) t e = in_class after_item k refl
behind_item Separator.Missing no_fields f no_part no_part e = ap after_item e
behind_item Separator.Missing (positional e other rest) f s t i = cc
behind_item Separator.Missing (named name e other rest) f s t i = cc
behind_item Separator.Missing (keyed key e other rest) f s t i = cc

-- the separator and the items behind an item
after_reads : (most d : ℕ) (item : Field) (mark : Separator) (items : Fields) {between middle last : ℕ} {us vs rest : List Token} → ends_item mark items ≡ true → FieldsReads most items → Spelled (separator_parts mark) between us middle vs → Spelled (fields_parts items) middle vs last rest →
    d + depth_of_fields items ≤ most → kind_of rest ≡ Some TokenKind.CloseBrace → Runs most fields_phrase (call separator (λ mark. fields_after d item mark)) between us (done (add_field item mark items) last rest)
after_reads most d item Separator.Comma items f others (by_word k no_part) t h e = calls (choose_at k (skips (omega arith) gives)) (calls (others d _ _ _ _ t h e) gives)
after_reads most d item Separator.Semicolon items f others (by_word k no_part) t h e = calls (pass_at k (λ q. cc) (choose_at k (skips (omega arith) gives))) (calls (others d _ _ _ _ t h e) gives)
after_reads most d item Separator.Missing no_fields f others no_part no_part h e = calls (pass_on e (λ q. cc) (pass_on e (λ q. cc) gives)) gives
after_reads most d item Separator.Missing (positional a other rest) f others m t h e = cc
after_reads most d item Separator.Missing (named name a other rest) f others m t h e = cc
after_reads most d item Separator.Missing (keyed key a other rest) f others m t h e = cc

-- an item and what is behind it
items_next : (most : ℕ) (item : Field) (depth : ℕ) (mark : Separator) (items : Fields) → FieldReads most item depth → ends_item mark items ≡ true → FieldsReads most items →
    (d pv between middle last : ℕ) (ts us vs rest : List Token) → (kind_of ts ≡ Some TokenKind.CloseBrace → ⊥) → Spelled (field_parts item) pv ts between us → Spelled (separator_parts mark) between us middle vs → Spelled (fields_parts items) middle vs last rest →
    d + depth ≤ most → d + depth_of_fields items ≤ most → kind_of rest ≡ Some TokenKind.CloseBrace → Runs most fields_phrase (reads (fields d)) pv ts (done (add_field item mark items) last rest)
items_next most item depth mark items one f others d pv between middle last ts us vs rest n s m t h i e =
    passes n (calls (one d pv between ts us s h (behind_item mark items f m t e)) (after_reads most d item mark items f others m t i e))

-- the items of a constructor, up to its `}`
pub fields_none : (most : ℕ) → FieldsReads most no_fields
fields_none most d pv last ts rest no_part h e = chooses e gives

pub positional_next : (most : ℕ) (e : Expression) (mark : Separator) (items : Fields) → ends_item mark items ≡ true → ExpressionReads most e → FieldsReads most items → FieldsReads most (positional e mark items)
positional_next most e mark items f one others d pv last ts rest (by_phrase (by_phrase s no_part) (by_phrase m (by_phrase t no_part))) h i =
    let p = fits_list d (depth_of_expression e) (depth_of_fields items) most h in
    items_next most (positional_field e) (depth_of_expression e) mark items (positional_reads most e one) f others d pv _ _ last ts _ _ rest (not_it begins_expression (expression_first e s) refl) (by_phrase s no_part) m t p.0 p.1 i

pub named_next : (most : ℕ) (name : Text) (e : Expression) (mark : Separator) (items : Fields) → ends_item mark items ≡ true → is_name name ≡ true → ExpressionReads most e → FieldsReads most items → FieldsReads most (named name e mark items)
named_next most name e mark items f g one others d pv last ts rest (by_phrase (by_word k s) (by_phrase m (by_phrase t no_part))) h i =
    let p = fits_list d (depth_of_expression e) (depth_of_fields items) most h in
    items_next most (named_field name e) (depth_of_expression e) mark items (named_reads most name e g one) f others d pv _ _ last _ _ _ rest (λ q. cc) (by_word k s) m t p.0 p.1 i

pub keyed_next : (most : ℕ) (key e : Expression) (mark : Separator) (items : Fields) → ends_item mark items ≡ true → ExpressionReads most key → ExpressionReads most e → FieldsReads most items → FieldsReads most (keyed key e mark items)
keyed_next most key e mark items f first one others d pv last ts rest (by_phrase (by_word k s) (by_phrase m (by_phrase t no_part))) h i =
    let p = fits_list d (max (depth_of_expression key) (depth_of_expression e)) (depth_of_fields items) most h in
    items_next most (keyed_field key e) (max (depth_of_expression key) (depth_of_expression e)) mark items (keyed_reads most key e first one) f others d pv _ _ last _ _ _ rest (λ q. cc) (by_word k s) m t p.0 p.1 i
