-- Each expression is read where it is spelled, if its parts are.
use Rattle.std.proofs.Common.{◌≡◌, ℕ, pos, ◌+◌, ◌<◌, ◌≤◌, max, min, nat_lt, Bool, true, false, cond, List, ◌∷◌, Option, Some, None, refl, sym, ◌∙◌, ap, subst, arith}
use Rattle.std.proofs.lemmas.Bool.Decides.{nat_tests}
use Rattle.lua_tree.specs.Syntax.{FunctionBody, Expression, nil_literal, true_literal, false_literal, vararg_expression, number_literal, text_literal, name_expression, function_expression, index_expression, field_expression, call_expression, method_call, and_expression, or_expression, binary_expression, unary_expression, constructor, parenthesized, Arguments, Fields}
use Rattle.lua_num.specs.Bytes.{Text}
use Rattle.lua_tree.specs.Names.{is_name}
use Rattle.lua_tree.specs.WellFormed.{is_prefix, on_its_line, takes_arguments, formed_expression, depth_of_expression, depth_of_arguments}
use Rattle.lua_tree.specs.Precedence.{left_binds}
use Rattle.lua_tree.specs.Spelling.{spell_op, spell_unary}
use Rattle.lua_tree.specs.Spelled.{Phrase, name_phrase, expression_phrase, Spelled, expression_parts, by_word, by_word_on, by_next, by_last, by_phrase, no_part}
use Rattle.lua_tree.specs.declared.token.TokenKind.{TokenKind}
use Rattle.lua_tree.specs.declared.token.Token.{Token}
use Rattle.lua_tree.specs.declared.tree.BinaryOp.{BinaryOp}
use Rattle.lua_tree.specs.declared.tree.UnaryOp.{UnaryOp}
use Rattle.parser.specs.Classes.{Role, Suffix, suffix_of, literal_of, name_of}
use Rattle.parser.specs.Operators.{Infix, infix_of, unary_of, left_power, right_power, infix_expression}
use Rattle.parser.specs.Program.{Program, call_spare, paren_spare, reads, one_name, body, whole, climb, simple, suffix, name_on, whole_on, climb_on, simple_on, prefix_on, suffix_on}
use Rattle.parser.specs.Runs.{kind_of, line_of, End, done, Runs, gives, looks, skips, wants, calls}
use Rattle.parser.proofs.Small.{not_it, none_is, depth_positive}
use Rattle.parser.proofs.RunSteps.{look_at, choose_at, pass_at, pass_on, tail}
use Rattle.parser.proofs.Following.{left_edge, right_edge, Formed, right_open, unary_open, zero_open, operator_follows}
use Rattle.parser.proofs.FirstTokens.{begins_prefix, prefix_first, arguments_first}
use Rattle.parser.proofs.Reading.{needed, PrefixReads, WholeReads, Closed, ExpressionReads, ArgumentsReads, FieldsReads, BodyReads}

-- a test that passes
pub if_true : {most : ℕ} {answer : Phrase} {before : ℕ} {tokens : List Token} {end : End answer} (b : Bool) (one other : Program answer) → b ≡ true → Runs most answer one before tokens end → Runs most answer (cond b one other) before tokens end
if_true true one other h r = r
if_true false one other h r = cc

pub if_false : {most : ℕ} {answer : Phrase} {before : ℕ} {tokens : List Token} {end : End answer} (b : Bool) (one other : Program answer) → b ≡ false → Runs most answer other before tokens end → Runs most answer (cond b one other) before tokens end
if_false true one other h r = cc
if_false false one other h r = r

call_spare_small : (role : Role) → call_spare role ≤ 1
call_spare_small Role.Target = omega arith
call_spare_small role = omega arith

paren_spare_small : (role : Role) → paren_spare role ≤ 1
paren_spare_small Role.Operand = omega arith
paren_spare_small role = omega arith

-- what an expression needs beyond its depth is at most one
needed_small : (role : Role) (e : Expression) → needed role e ≤ 1
needed_small role (call_expression line on args on_line) = call_spare_small role
needed_small role (method_call line on name args on_line) = call_spare_small role
needed_small role (parenthesized line e) = paren_spare_small role
needed_small role e = omega arith

needed_operand : (e : Expression) → needed Role.Operand e ≡ 0
needed_operand (call_expression line on args on_line) = refl
needed_operand (method_call line on name args on_line) = refl
needed_operand (parenthesized line e) = refl
needed_operand e = refl

-- no operator that is next is taken
pub climb_stops : (most d limit start : ℕ) (e : Expression) (before : ℕ) (rest : List Token) → ((op : Infix) → infix_of (kind_of rest) ≡ Some op → left_power op ≤ limit) →
    Runs most expression_phrase (reads (climb d limit start e)) before rest (done e before rest)
climb_stops most d limit start e before rest small = looks (by (infix_of (kind_of rest)) small)
  where
    by : (next : Option Infix) → ((op : Infix) → next ≡ Some op → left_power op ≤ limit) → Runs most expression_phrase (climb_on d limit start e (line_of rest) next) before rest (done e before rest)
    by None small = gives
    by (Some op) small =
        let n : left_power op ≤ limit = small op refl in
        if_false (nat_lt limit (left_power op)) _ _ (grind (arith, nat_tests)) gives

-- what a look finds, by what the next token begins
suffix_look : {most d : ℕ} {role : Role} {e : Expression} {before : ℕ} {tokens : List Token} {end : End expression_phrase} {is : Suffix} →
    suffix_of (kind_of tokens) ≡ is → Runs most expression_phrase (suffix_on d role e is) before tokens end → Runs most expression_phrase (reads (suffix d role e)) before tokens end
suffix_look {most} {d} {role} {e} {before} {tokens} {end} h r = looks (subst (λ x. Runs most expression_phrase (suffix_on d role e x) before tokens end) (sym h) r)

whole_look : {most d limit before : ℕ} {tokens : List Token} {end : End expression_phrase} {is : Option UnaryOp} →
    unary_of (kind_of tokens) ≡ is → Runs most expression_phrase (whole_on d limit (line_of tokens) is) before tokens end → Runs most expression_phrase (reads (whole d limit)) before tokens end
whole_look {most} {d} {limit} {before} {tokens} {end} h r = looks (subst (λ x. Runs most expression_phrase (whole_on d limit (line_of tokens) x) before tokens end) (sym h) r)

simple_look : {most d before : ℕ} {tokens : List Token} {end : End expression_phrase} {is : Option Expression} →
    literal_of (line_of tokens) (kind_of tokens) ≡ is → Runs most expression_phrase (simple_on d is) before tokens end → Runs most expression_phrase (reads (simple d)) before tokens end
simple_look {most} {d} {before} {tokens} {end} h r = looks (subst (λ x. Runs most expression_phrase (simple_on d x) before tokens end) (sym h) r)

-- nothing that is next is taken as a suffix
pub suffix_stops : {most d : ℕ} {role : Role} {e : Expression} {before : ℕ} {rest : List Token} → suffix_of (kind_of rest) ≡ Suffix.Missing →
    Runs most expression_phrase (reads (suffix d role e)) before rest (done e before rest)
suffix_stops h = suffix_look h gives

pub good_name : {kind : TokenKind} {name : Text} → kind ≡ TokenKind.Name name → is_name name ≡ true → name_of (Some kind) ≡ Some name
good_name {kind} {name} k n = ap (λ x. name_of (Some x)) k ∙ ap (λ b. cond b (Some name) None) n

-- a name, and no keyword, is read
pub name_reads : {most before : ℕ} {token : Token} {tokens : List Token} {name : Text} → token.kind ≡ TokenKind.Name name → is_name name ≡ true →
    Runs most name_phrase (reads one_name) before (token ∷ tokens) (done name token.line tokens)
name_reads {most} {before} {token} {tokens} {name} k n =
    looks (subst (λ x. Runs most name_phrase (name_on x) before (token ∷ tokens) (done name token.line tokens)) (sym (good_name k n)) (skips (omega arith) gives))

-- an expression that a token which does not go on with it follows
pub whole_ends : (most : ℕ) (e : Expression) → WholeReads most e → ExpressionReads most e
whole_ends most e reads d pv last ts rest s h c =
    reads d 0 pv last ts rest _ s h (zero_open e) (record { operators = λ op i. absurd (none_is op (sym c.operator ∙ i)); suffix = c.suffix })
    (climb_stops most d 0 (line_of ts) e last rest (λ op i. absurd (none_is op (sym c.operator ∙ i))))

-- a token that goes on with no expression
pub closes : {takes : Bool} {token : Token} {tokens : List Token} {kind : TokenKind} → token.kind ≡ kind → infix_of (Some kind) ≡ None → suffix_of (Some kind) ≡ Suffix.Missing → Closed takes (token ∷ tokens)
closes k o s = record { operator = ap (λ x. infix_of (Some x)) k ∙ o; suffix = λ t. ap (λ x. suffix_of (Some x)) k ∙ s }

fits_two : (d n a b most : ℕ) → d + n + (1 + max a b) ≤ most → (d + n + 1 + a ≤ most) × (d + n + 1 + b ≤ most)
fits_two d n a b most h = (omega arith, omega arith)

-- what may be indexed or called: a name, parentheses, an index, a field, a call and a method call
pub name_prefix : (most line : ℕ) (name : Text) → is_name name ≡ true → PrefixReads most (name_expression line name)
name_prefix most line name f role d pv last ts rest end (by_word_on {token} {tokens} k l no_part) h r =
    looks (subst (λ x. Runs most expression_phrase (prefix_on d role x token.line) pv (token ∷ tokens) end) (sym (good_name k f))
    (skips (omega arith) (tail (subst (λ x. Runs most expression_phrase (reads (suffix d role (name_expression x name))) token.line tokens end) (sym l) r))))

pub paren_prefix : (most line : ℕ) (e : Expression) → ExpressionReads most e → PrefixReads most (parenthesized line e)
paren_prefix most line e inner role d pv last ts rest end (by_word_on {token} {tokens} k l (by_phrase s (by_word {token = close} {tokens = others} c no_part))) h r =
    let p = depth_positive e in
    look_at k (choose_at k (calls (looks (skips (omega arith) (calls (inner (d + paren_spare role + 1) _ _ _ _ s (omega arith) (closes c refl refl)) (wants c gives))))
    (tail (subst (λ x. Runs most expression_phrase (reads (suffix d role (parenthesized x e))) close.line others end) (sym l) r))))

pub index_prefix : (most line : ℕ) (on key : Expression) → PrefixReads most on → ExpressionReads most key → PrefixReads most (index_expression line on key)
index_prefix most line on key before inner role d pv last ts rest end (by_phrase s (by_word_on {token} {tokens} k l (by_phrase t (by_word {token = close} {tokens = others} c no_part)))) h r =
    let p = fits_two d 0 (depth_of_expression on) (depth_of_expression key) most h in
    let n = needed_small role on in
    let q = depth_positive key in
    before role d pv _ ts _ end s (omega arith)
    (look_at k (calls (looks (skips (omega arith) (calls (inner (d + 1) _ _ _ _ t (omega arith) (closes c refl refl)) (wants c gives))))
    (tail (subst (λ x. Runs most expression_phrase (reads (suffix d role (index_expression x on key))) close.line others end) (sym l) r))))

pub field_prefix : (most line : ℕ) (on : Expression) (name : Text) → PrefixReads most on → is_name name ≡ true → PrefixReads most (field_expression line on name)
field_prefix most line on name before f role d pv last ts rest end (by_phrase s (by_word_on {token} {tokens} k l (by_word {token = close} {tokens = others} c no_part))) h r =
    let n = needed_small role on in
    before role d pv _ ts _ end s (omega arith)
    (look_at k (calls (looks (skips (omega arith) (calls (name_reads c f) gives)))
    (tail (subst (λ x. Runs most expression_phrase (reads (suffix d role (field_expression x on name))) close.line others end) (sym l) r))))

pub call_prefix : (most line on_line : ℕ) (on : Expression) (args : Arguments) → PrefixReads most on → ArgumentsReads most args → on_its_line args line on_line ≡ true → PrefixReads most (call_expression line on args on_line)
call_prefix most line on_line on args before inner f role d pv last ts rest end (by_phrase {between} s (by_last a (by_next {token} {tokens} l (by_phrase t no_part)))) h r =
    let p = fits_two d (call_spare role) (depth_of_expression on) (depth_of_arguments args) most h in
    let n = needed_small role on in
    before role d pv _ ts _ end s (omega arith)
    (suffix_look (arguments_first args t) (calls (looks (calls
    (inner (d + call_spare role + 1) (d + call_spare role + 1 + depth_of_expression on) _ _ _ _ t (omega arith) (omega arith)
    (ap (λ x. on_its_line args token.line x) a ∙ ap (λ x. on_its_line args x on_line) l ∙ f))
    gives))
    (tail (subst (λ x. Runs most expression_phrase (reads (suffix d role (call_expression x on args between))) last rest end) (sym l)
    (subst (λ x. Runs most expression_phrase (reads (suffix d role (call_expression line on args x))) last rest end) (sym a) r)))))

pub method_prefix : (most line on_line : ℕ) (on : Expression) (name : Text) (args : Arguments) → PrefixReads most on → is_name name ≡ true → ArgumentsReads most args → on_its_line args line on_line ≡ true →
    PrefixReads most (method_call line on name args on_line)
method_prefix most line on_line on name args before g inner f role d pv last ts rest end (by_phrase s (by_word k (by_word_on {token = named} n a (by_next {token} l (by_phrase t no_part))))) h r =
    let p = fits_two d (call_spare role) (depth_of_expression on) (depth_of_arguments args) most h in
    let n' = needed_small role on in
    before role d pv _ ts _ end s (omega arith)
    (look_at k (calls (skips (omega arith) (calls (name_reads n g) (looks (calls
    (inner (d + call_spare role + 1) 0 _ _ _ _ t (omega arith) (omega arith)
    (ap (λ x. on_its_line args token.line x) a ∙ ap (λ x. on_its_line args x on_line) l ∙ f))
    gives))))
    (tail (subst (λ x. Runs most expression_phrase (reads (suffix d role (method_call x on name args named.line))) last rest end) (sym l)
    (subst (λ x. Runs most expression_phrase (reads (suffix d role (method_call line on name args x))) last rest end) (sym a) r)))))

prefix_unary : (next : Option TokenKind) → begins_prefix next ≡ true → unary_of next ≡ None
prefix_unary (Some (TokenKind.Name name)) h = refl
prefix_unary (Some TokenKind.OpenParen) h = refl
prefix_unary next h = cc

prefix_literal : (line : ℕ) (next : Option TokenKind) → begins_prefix next ≡ true → literal_of line next ≡ None
prefix_literal line (Some (TokenKind.Name name)) h = refl
prefix_literal line (Some TokenKind.OpenParen) h = refl
prefix_literal line next h = cc

prefix_takes : (e : Expression) → is_prefix e ≡ true → takes_arguments e ≡ true
prefix_takes (binary_expression line op left right) p = cc
prefix_takes (and_expression line left right) p = cc
prefix_takes (or_expression line left right) p = cc
prefix_takes (unary_expression line op of) p = cc
prefix_takes e p = p

-- an operand without an operator
whole_simple : {most d limit pv last : ℕ} {ts rest : List Token} {e : Expression} {end : End expression_phrase} → unary_of (kind_of ts) ≡ None →
    Runs most expression_phrase (reads (simple d)) pv ts (done e last rest) → Runs most expression_phrase (reads (climb d limit (line_of ts) e)) last rest end → Runs most expression_phrase (reads (whole d limit)) pv ts end
whole_simple u s r = whole_look u (calls s (tail r))

-- a prefix expression that is a whole one
pub prefix_whole : (most : ℕ) (e : Expression) → is_prefix e ≡ true → formed_expression e ≡ true → PrefixReads most e → WholeReads most e
prefix_whole most e p f before d limit pv last ts rest end s h o b r =
    let first = prefix_first e p f s in
    whole_simple (prefix_unary _ first)
    (simple_look (prefix_literal (line_of ts) _ first)
    (pass_on refl (not_it begins_prefix first refl) (pass_on refl (not_it begins_prefix first refl)
    (tail (before Role.Operand d pv last ts rest _ s (subst (λ x. d + x + depth_of_expression e ≤ most) (sym (needed_operand e)) (omega arith)) (suffix_stops (b.suffix (prefix_takes e p))))))))
    r

-- a token that is an expression
literal_whole : {most d limit pv : ℕ} {token : Token} {tokens : List Token} {end : End expression_phrase} (e : Expression) → unary_of (Some token.kind) ≡ None → literal_of token.line (Some token.kind) ≡ Some e → d + 1 ≤ most →
    Runs most expression_phrase (reads (climb d limit token.line e)) token.line tokens end → Runs most expression_phrase (reads (whole d limit)) pv (token ∷ tokens) end
literal_whole e u k h r = whole_simple u (simple_look k (skips h gives)) r

pub nil_whole : (most line : ℕ) → WholeReads most (nil_literal line)
nil_whole most line d limit pv last ts rest end (by_word_on {token} k l no_part) h o b r =
    literal_whole (nil_literal line) (ap (λ x. unary_of (Some x)) k) (ap (λ x. literal_of token.line (Some x)) k ∙ ap (λ x. Some (nil_literal x)) l) h r

pub true_whole : (most line : ℕ) → WholeReads most (true_literal line)
true_whole most line d limit pv last ts rest end (by_word_on {token} k l no_part) h o b r =
    literal_whole (true_literal line) (ap (λ x. unary_of (Some x)) k) (ap (λ x. literal_of token.line (Some x)) k ∙ ap (λ x. Some (true_literal x)) l) h r

pub false_whole : (most line : ℕ) → WholeReads most (false_literal line)
false_whole most line d limit pv last ts rest end (by_word_on {token} k l no_part) h o b r =
    literal_whole (false_literal line) (ap (λ x. unary_of (Some x)) k) (ap (λ x. literal_of token.line (Some x)) k ∙ ap (λ x. Some (false_literal x)) l) h r

pub vararg_whole : (most line : ℕ) → WholeReads most (vararg_expression line)
vararg_whole most line d limit pv last ts rest end (by_word_on {token} k l no_part) h o b r =
    literal_whole (vararg_expression line) (ap (λ x. unary_of (Some x)) k) (ap (λ x. literal_of token.line (Some x)) k ∙ ap (λ x. Some (vararg_expression x)) l) h r

pub number_whole : (most line n : ℕ) → WholeReads most (number_literal line (pos n))
number_whole most line n d limit pv last ts rest end (by_word_on {token} k l no_part) h o b r =
    literal_whole (number_literal line (pos n)) (ap (λ x. unary_of (Some x)) k) (ap (λ x. literal_of token.line (Some x)) k ∙ ap (λ x. Some (number_literal x (pos n))) l) h r

pub text_whole : (most line : ℕ) (text : Text) → WholeReads most (text_literal line text)
text_whole most line text d limit pv last ts rest end (by_word_on {token} k l no_part) h o b r =
    literal_whole (text_literal line text) (ap (λ x. unary_of (Some x)) k) (ap (λ x. literal_of token.line (Some x)) k ∙ ap (λ x. Some (text_literal x text)) l) h r

-- a function, whose line is that of its `function`
pub function_whole : (most line : ℕ) (b : FunctionBody) → BodyReads most b → WholeReads most (function_expression line b)
function_whole most line b inner d limit pv last ts rest end (by_next l (by_word_on {token} {tokens} k m (by_phrase s no_part))) h o c r =
    whole_simple (ap (λ x. unary_of (Some x)) k)
    (simple_look (ap (λ x. literal_of token.line (Some x)) k) (choose_at k (tail (looks (skips (omega arith) (calls
    (subst (λ x. Runs most _ (reads (body (d + 1) x)) token.line tokens (done b last rest)) (sym m) (inner (d + 1) _ _ _ _ s (omega arith)))
    gives))))))
    (subst (λ x. Runs most expression_phrase (reads (climb d limit token.line (function_expression x b))) last rest end) (sym l) r)

-- a constructor of a table
pub constructor_whole : (most line : ℕ) (items : Fields) → FieldsReads most items → WholeReads most (constructor line items)
constructor_whole most line items inner d limit pv last ts rest end (by_word_on {token} {tokens} k l (by_phrase s (by_word {token = close} c no_part))) h o b r =
    whole_simple (ap (λ x. unary_of (Some x)) k)
    (simple_look (ap (λ x. literal_of token.line (Some x)) k) (pass_at k (λ q. cc) (choose_at k (tail (looks (skips (omega arith) (calls
    (inner (d + 1) _ _ _ _ s (omega arith) (ap Some c))
    (wants c gives))))))))
    (subst (λ x. Runs most expression_phrase (reads (climb d limit token.line (constructor x items))) close.line rest end) (sym l) r)

unary_is : (op : UnaryOp) → unary_of (Some (spell_unary op)) ≡ Some op
unary_is UnaryOp.Neg = refl
unary_is UnaryOp.Not = refl
unary_is UnaryOp.Len = refl

fits_unary : (d a most : ℕ) → 1 ≤ a → d + (1 + a) ≤ most → (d + 2 ≤ most) × (d + 1 + a ≤ most)
fits_unary d a most p h = (omega arith, omega arith)

-- a unary operator before its operand
pub unary_whole : (most line : ℕ) (op : UnaryOp) (e : Expression) → left_binds 7 false e ≡ true → formed_expression e ≡ true → WholeReads most e → WholeReads most (unary_expression line op e)
unary_whole most line op e w f inner d limit pv last ts rest end (by_word_on {token} {tokens} k l (by_phrase s no_part)) h o b r =
    let p = fits_unary d (depth_of_expression e) most (depth_positive e) h in
    whole_look (ap (λ x. unary_of (Some x)) k ∙ unary_is op)
    (skips p.0 (calls
    (inner (d + 1) 8 _ _ _ _ _ s p.1 (unary_open e w f)
    (record { operators = λ other i. let n = b.operators other i in omega arith; suffix = b.suffix })
    (climb_stops most (d + 1) 8 (line_of tokens) e last rest (λ other i. let n = b.operators other i in omega arith)))
    (tail (subst (λ x. Runs most expression_phrase (reads (climb d limit token.line (unary_expression x op e))) last rest end) (sym l) r))))

-- an operator between two operands
infix_whole : (most : ℕ) (op : Infix) (left right : Expression) → Formed op left right → WholeReads most left → WholeReads most right →
    (d limit pv between last : ℕ) (ts tokens rest : List Token) (token : Token) (end : End expression_phrase) →
    Spelled (expression_parts left) pv ts between (token ∷ tokens) → infix_of (Some token.kind) ≡ Some op → Spelled (expression_parts right) token.line tokens last rest →
    d + 0 + (1 + max (depth_of_expression left) (depth_of_expression right)) ≤ most → limit < min (left_power op) (left_edge left) →
    ((other : Infix) → infix_of (kind_of rest) ≡ Some other → left_power other ≤ min (right_power op) (right_edge right)) → (takes_arguments right ≡ true → suffix_of (kind_of rest) ≡ Suffix.Missing) →
    Runs most expression_phrase (reads (climb d limit (line_of ts) (infix_expression (line_of ts) token.line op left right))) last rest end → Runs most expression_phrase (reads (whole d limit)) pv ts end
infix_whole most op left right f before inner d limit pv between last ts tokens rest token end s k t h o operators after r =
    let p = fits_two d 0 (depth_of_expression left) (depth_of_expression right) most h in
    let q = depth_positive right in
    let above : limit < left_power op = omega arith in
    before d limit pv between ts (token ∷ tokens) end s (omega arith) (omega arith) (operator_follows op left (token ∷ tokens) k f.left_binds f.left_formed)
    (looks (subst (λ x. Runs most expression_phrase (climb_on d limit (line_of ts) left token.line x) between (token ∷ tokens) end) (sym k)
    (if_true (nat_lt limit (left_power op)) _ _ (grind (arith, nat_tests)) (skips (omega arith) (calls
    (inner (d + 1) (right_power op) _ _ _ _ _ t (omega arith) (right_open op right f.right_binds f.right_formed)
    (record { operators = λ other i. let n = operators other i in omega arith; suffix = after })
    (climb_stops most (d + 1) (right_power op) (line_of tokens) right last rest (λ other i. let n = operators other i in omega arith)))
    (tail r))))))

binary_is : (op : BinaryOp) → infix_of (Some (spell_op op)) ≡ Some (Infix.Binary op)
binary_is BinaryOp.Add = refl
binary_is BinaryOp.Sub = refl
binary_is BinaryOp.Mul = refl
binary_is BinaryOp.Div = refl
binary_is BinaryOp.Rem = refl
binary_is BinaryOp.Pow = refl
binary_is BinaryOp.Concat = refl
binary_is BinaryOp.Eq = refl
binary_is BinaryOp.Ne = refl
binary_is BinaryOp.Lt = refl
binary_is BinaryOp.Le = refl
binary_is BinaryOp.Gt = refl
binary_is BinaryOp.Ge = refl

fits_zero : (d a most : ℕ) → d + a ≤ most → d + 0 + a ≤ most
fits_zero d a most h = omega arith

-- the operators between two operands: binary ones, `and` and `or`
pub binary_whole : (most line : ℕ) (op : BinaryOp) (left right : Expression) → Formed (Infix.Binary op) left right → WholeReads most left → WholeReads most right → WholeReads most (binary_expression line op left right)
binary_whole most line op left right f before inner d limit pv last ts rest end (by_phrase s (by_word_on {token} k l (by_phrase t no_part))) h o b r =
    infix_whole most (Infix.Binary op) left right f before inner d limit pv _ last ts _ rest token end s (ap (λ x. infix_of (Some x)) k ∙ binary_is op) t (fits_zero d _ most h) o b.operators b.suffix
    (subst (λ x. Runs most expression_phrase (reads (climb d limit (line_of ts) (binary_expression x op left right))) last rest end) (sym l) r)

pub and_whole : (most line : ℕ) (left right : Expression) → Formed Infix.And left right → WholeReads most left → WholeReads most right → WholeReads most (and_expression line left right)
and_whole most line left right f before inner d limit pv last ts rest end (by_next {token = first} l (by_phrase s (by_word {token} k (by_phrase t no_part)))) h o b r =
    infix_whole most Infix.And left right f before inner d limit pv _ last _ _ rest token end s (ap (λ x. infix_of (Some x)) k) t (fits_zero d _ most h) o b.operators b.suffix
    (subst (λ x. Runs most expression_phrase (reads (climb d limit first.line (and_expression x left right))) last rest end) (sym l) r)

pub or_whole : (most line : ℕ) (left right : Expression) → Formed Infix.Or left right → WholeReads most left → WholeReads most right → WholeReads most (or_expression line left right)
or_whole most line left right f before inner d limit pv last ts rest end (by_next {token = first} l (by_phrase s (by_word {token} k (by_phrase t no_part)))) h o b r =
    infix_whole most Infix.Or left right f before inner d limit pv _ last _ _ rest token end s (ap (λ x. infix_of (Some x)) k) t (fits_zero d _ most h) o b.operators b.suffix
    (subst (λ x. Runs most expression_phrase (reads (climb d limit first.line (or_expression x left right))) last rest end) (sym l) r)
