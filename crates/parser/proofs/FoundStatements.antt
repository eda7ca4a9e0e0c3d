-- Each statement and each block is read where it is spelled, if its parts are.
use Rattle.std.proofs.Common.{◌≡◌, ◌&&◌, not, if◌then◌else◌, ◌⊎◌, inl, inr, ℕ, ◌+◌, ◌≤◌, max, Bool, true, false, List, [], ◌∷◌, Option, Some, None, refl, sym, ◌∙◌, ap, subst, arith}
use Rattle.lua_tree.specs.Syntax.{Statements, no_statements, statement, Statement, assignment, call_statement, do_block, while_loop, repeat_loop, if_statement, numeric_for, generic_for, function_statement, local_function, local_statement, return_statement, break_statement, Branches, no_branches, branch, Otherwise, no_otherwise, otherwise, ForStep, no_step, by_step, FunctionBody, function_body, Expressions, no_expressions, expression, Expression, call_expression, method_call}
use Rattle.lua_num.specs.Bytes.{Text}
use Rattle.lua_tree.specs.Names.{is_name, are_names}
use Rattle.lua_tree.specs.WellFormed.{is_target, is_call, is_optional_name, last_takes_arguments, statement_begins_with_paren, statement_takes_arguments, ends_block, may_follow, formed_expression, formed_statement, formed_statements, depth_of_statements, depth_of_statement, depth_of_branches, depth_of_otherwise, depth_of_step, depth_of_expressions, depth_of_expression}
use Rattle.lua_tree.specs.Spelled.{block_phrase, statement_phrase, body_phrase, method_phrase, values_phrase, expressions_phrase, semicolon_phrase, Spelled, block_parts, body_parts, method_parts, more_names_parts, semicolon_parts, step_parts, values_parts, expressions_parts, by_word, by_word_on, by_next, by_phrase, no_part}
use Rattle.lua_tree.specs.declared.token.TokenKind.{TokenKind}
use Rattle.lua_tree.specs.declared.token.Token.{Token}
use Rattle.parser.specs.Classes.{Role, Start, start_of, suffix_of, is_block_end}
use Rattle.parser.specs.Operators.{infix_of}
use Rattle.parser.specs.Program.{give, call, reads, block, one_statement, expression_statement, statement_on, method_name, values, results, body, semicolon}
use Rattle.parser.specs.Runs.{kind_of, done, Runs, gives, looks, skips, wants, chooses, passes, calls}
use Rattle.parser.proofs.Small.{and_left, and_right, not_it, depth_positive}
use Rattle.parser.proofs.RunSteps.{look_at, choose_at, pass_at, pass_on, tail}
use Rattle.parser.proofs.FirstTokens.{in_class, begins_prefix, prefix_first, begins_expression, expression_first, begins_statement, stands_after, statement_first, statement_paren, start_no_end, expression_no_end, start_stands, end_stands, stands_operator, stands_suffix, branches_first, call_is_prefix, target_is_prefix}
use Rattle.parser.proofs.Reading.{needed, PrefixReads, Closed, ExpressionReads, ExpressionsReads, TargetsReads, BodyReads, BlockReads, Behind, StatementReads, BranchesReads, StepReads}
use Rattle.parser.proofs.FoundExpressions.{if_true, if_false, suffix_stops, name_reads, closes}
use Rattle.parser.proofs.FoundLists.{more_names_reads, behind_target, target_reads, ExpressionsFound, fits_list}

not_twice : (a b : Bool) → not (a && b) ≡ true → a ≡ true → b ≡ true → ⊥
not_twice true true h i j = cc
not_twice true false h i j = cc
not_twice false b h i j = cc

not_true : (a : Bool) → not a ≡ true → a ≡ true → ⊥
not_true true h i = cc
not_true false h i = cc

-- what stands behind a statement of a block
behind_statement : (s : Statement) (semi : Bool) (others : Statements) {between middle last : ℕ} {us vs rest : List Token} → may_follow s semi others ≡ true → formed_statements others ≡ true →
    Spelled (semicolon_parts semi) between us middle vs → Spelled (block_parts others) middle vs last rest → is_block_end (kind_of rest) ≡ true → Behind s (kind_of us)
behind_statement s true others m f (by_word k no_part) t e = record { stands = in_class stands_after k refl; no_paren = λ i q. cc; ended = λ i n. absurd (n (ap Some k)) }
behind_statement s false no_statements m f no_part no_part e = record { stands = end_stands _ e; no_paren = λ i q. not_it is_block_end e refl q; ended = λ i n. e }
behind_statement s false (statement line semi next others) m f no_part (by_next {token} l (by_phrase t more)) e =
    let g = and_left _ _ f in
    record {
      stands = start_stands (Some token.kind) (statement_first next g t);
      no_paren = λ i q. not_twice (statement_takes_arguments s) (statement_begins_with_paren next) (and_right (not (ends_block s)) _ m) i (statement_paren next g t q);
      ended = λ i n. absurd (not_true (ends_block s) (and_left (not (ends_block s)) _ m) i);
    }

-- a semicolon, or none
semicolon_reads : (most : ℕ) (semi : Bool) (others : Statements) {between middle last : ℕ} {us vs rest : List Token} → formed_statements others ≡ true →
    Spelled (semicolon_parts semi) between us middle vs → Spelled (block_parts others) middle vs last rest → is_block_end (kind_of rest) ≡ true → Runs most semicolon_phrase (reads semicolon) between us (done semi middle vs)
semicolon_reads most true others f (by_word k no_part) t e = choose_at k (skips (omega arith) gives)
semicolon_reads most false no_statements f no_part no_part e = passes (not_it is_block_end e refl) gives
semicolon_reads most false (statement line semi next others) f no_part (by_next l (by_phrase t more)) e = passes (not_it begins_statement (statement_first next (and_left _ _ f) t) refl) gives

-- a block, up to a token that ends one
pub block_none : (most : ℕ) → BlockReads most no_statements
block_none most d pv last ts rest no_part h e = looks (if_true (is_block_end (kind_of ts)) _ _ e gives)

-- the depth that a block's statements need
record BlockFits (d first others most : ℕ) : Type 0 where
  here : d + 1 ≤ most
  inside : d + 1 + first ≤ most
  behind : d + others ≤ most

fits_block : (d first others most : ℕ) → d + max (1 + first) others ≤ most → BlockFits d first others most
fits_block d first others most h = record { here = omega arith; inside = omega arith; behind = omega arith }

not_is_false : (a : Bool) → not a ≡ true → a ≡ false
not_is_false true h = cc
not_is_false false h = refl

-- what is behind a statement and its semicolon: `return` and `break` are the last
block_after : (most d line : ℕ) (semi : Bool) (s : Statement) (others : Statements) {middle last : ℕ} {vs rest : List Token} → may_follow s semi others ≡ true → BlockReads most others → Spelled (block_parts others) middle vs last rest →
    d + depth_of_statements others ≤ most → is_block_end (kind_of rest) ≡ true →
    Runs most block_phrase (if ends_block s then give (statement line semi s no_statements) else call (block d) (λ rest. give (statement line semi s rest))) middle vs (done (statement line semi s others) last rest)
block_after most d line semi s no_statements {middle} {vs} m more no_part h e = by (ends_block s)
  where
    by : (b : Bool) → Runs most block_phrase (if b then give (statement line semi s no_statements) else call (block d) (λ rest. give (statement line semi s rest))) middle vs (done (statement line semi s no_statements) middle vs)
    by true = gives
    by false = calls (more d middle middle vs vs no_part h e) gives
block_after most d line semi s (statement next_line next_semi next others) m more t h e =
    if_false (ends_block s) _ _ (not_is_false (ends_block s) (and_left (not (ends_block s)) _ m)) (calls (more d _ _ _ _ t h e) gives)

pub block_next : (most line : ℕ) (semi : Bool) (s : Statement) (others : Statements) → formed_statement s ≡ true → may_follow s semi others ≡ true → formed_statements others ≡ true → StatementReads most s → BlockReads most others →
    BlockReads most (statement line semi s others)
block_next most line semi s others f m g one more d pv last ts rest (by_next {token} {tokens} l (by_phrase a (by_phrase c (by_phrase t no_part)))) h e =
    let p = fits_block d (depth_of_statement s) (depth_of_statements others) most h in
    subst (λ x. Runs most block_phrase (reads (block d)) pv (token ∷ tokens) (done (statement x semi s others) last rest)) l
    (looks (if_false (is_block_end (Some token.kind)) _ _ (start_no_end (Some token.kind) (statement_first s f a)) (calls (one (d + 1) _ _ _ _ a p.here p.inside (behind_statement s semi others m g c t e))
    (calls (semicolon_reads most semi others g c t e) (block_after most d token.line semi s others m more t p.behind e)))))

-- what a statement's last expression is followed by
behind_closed : (s : Statement) (rest : List Token) → Behind s (kind_of rest) → Closed (statement_takes_arguments s) rest
behind_closed s rest b = record { operator = stands_operator _ b.stands; suffix = λ t. stands_suffix _ b.stands (b.no_paren t) }

-- each statement that begins with a keyword
pub do_reads : (most : ℕ) (b : Statements) → BlockReads most b → StatementReads most (do_block b)
do_reads most b inner d pv last ts rest (by_word k (by_phrase s (by_word e no_part))) n h a =
    look_at k (tail (skips n (calls (inner d _ _ _ _ s h (in_class is_block_end e refl)) (wants e gives))))

pub while_reads : (most : ℕ) (cond : Expression) (b : Statements) → ExpressionReads most cond → BlockReads most b → StatementReads most (while_loop cond b)
while_reads most cond b test inner d pv last ts rest (by_word k (by_phrase c (by_word o (by_phrase s (by_word e no_part))))) n h a =
    let p = fits_list d (depth_of_expression cond) (depth_of_statements b) most h in
    let q = depth_positive cond in
    look_at k (tail (skips (omega arith) (calls (test d _ _ _ _ c p.0 (closes o refl refl)) (wants o (calls (inner d _ _ _ _ s p.1 (in_class is_block_end e refl)) (wants e gives))))))

pub repeat_reads : (most : ℕ) (b : Statements) (cond : Expression) → BlockReads most b → ExpressionReads most cond → StatementReads most (repeat_loop b cond)
repeat_reads most b cond inner test d pv last ts rest (by_word k (by_phrase s (by_word u (by_phrase c no_part)))) n h a =
    let p = fits_list d (depth_of_statements b) (depth_of_expression cond) most h in
    let q = depth_positive cond in
    look_at k (tail (skips (omega arith) (calls (inner d _ _ _ _ s p.0 (in_class is_block_end u refl)) (wants u (calls (test d _ _ _ _ c p.1 (behind_closed (repeat_loop b cond) rest a)) gives)))))

-- the branches of an `if` that are left, up to its `end`
pub no_otherwise_reads : (most : ℕ) → BranchesReads most no_branches no_otherwise
no_otherwise_reads most d pv line ts rest token e no_part h i = pass_at e (λ q. cc) (pass_at e (λ q. cc) gives)

pub otherwise_reads : (most : ℕ) (b : Statements) → BlockReads most b → BranchesReads most no_branches (otherwise b)
otherwise_reads most b inner d pv line ts rest token e (by_word k (by_phrase s no_part)) h i =
    pass_at k (λ q. cc) (choose_at k (skips (omega arith) (calls (inner d _ _ _ _ s i (in_class is_block_end e refl)) gives)))

-- the depth that a branch and those behind it need
record BranchFits (d cond inside others most : ℕ) : Type 0 where
  cond_fits : d + cond ≤ most
  inside_fits : d + inside ≤ most
  others_fit : d + others ≤ most

fits_branch : (d cond inside others most : ℕ) → d + max (max cond inside) others ≤ most → BranchFits d cond inside others most
fits_branch d cond inside others most h = record { cond_fits = omega arith; inside_fits = omega arith; others_fit = omega arith }

pub branch_reads : (most : ℕ) (cond : Expression) (b : Statements) (bs : Branches) (last : Otherwise) → ExpressionReads most cond → BlockReads most b → BranchesReads most bs last → BranchesReads most (branch cond b bs) last
branch_reads most cond b bs last test inner others d pv line ts rest token e (by_word k (by_phrase c (by_word t (by_phrase s (by_phrase l no_part))))) h i =
    let p = fits_branch d (depth_of_expression cond) (depth_of_statements b) (depth_of_branches bs) most h in
    let q = depth_positive cond in
    choose_at k (skips (omega arith) (calls (test d _ _ _ _ c p.cond_fits (closes t refl refl)) (wants t (calls (inner d _ _ _ _ s p.inside_fits (branches_first bs last token e l)) (calls (others d _ _ _ _ token e l p.others_fit i) gives)))))

-- an `if`, which has a branch
pub if_reads : (most : ℕ) (cond : Expression) (b : Statements) (bs : Branches) (last : Otherwise) → ExpressionReads most cond → BlockReads most b → BranchesReads most bs last → StatementReads most (if_statement (branch cond b bs) last)
if_reads most cond b bs last test inner others d pv line ts rest (by_word k (by_phrase c (by_word t (by_phrase s (by_phrase l (by_word {token} e no_part)))))) n h a =
    let o = fits_list d (depth_of_branches (branch cond b bs)) (depth_of_otherwise last) most h in
    let p = fits_branch d (depth_of_expression cond) (depth_of_statements b) (depth_of_branches bs) most o.0 in
    let q = depth_positive cond in
    look_at k (tail (skips (omega arith) (calls (test d _ _ _ _ c p.cond_fits (closes t refl refl)) (wants t (calls (inner d _ _ _ _ s p.inside_fits (branches_first bs last token e l)) (calls (others d _ _ _ _ token e l p.others_fit o.1) (wants e gives)))))))

-- the step of a `for`, up to its `do`
pub no_step_reads : (most : ℕ) → StepReads most no_step
no_step_reads most d pv last ts rest no_part h e = pass_on e (λ q. cc) gives

pub by_step_reads : (most : ℕ) (e : Expression) → ExpressionReads most e → StepReads most (by_step e)
by_step_reads most e inner d pv last ts rest (by_word k (by_phrase s no_part)) h i =
    let q = depth_positive e in
    choose_at k (skips (omega arith) (calls (inner d _ _ _ _ s h (record { operator = ap infix_of i; suffix = λ t. ap suffix_of i })) gives))

-- what stands behind the last number of a `for`
step_first : {takes : Bool} (by : ForStep) {pv last : ℕ} {ts rest : List Token} → Spelled (step_parts by) pv ts last rest → kind_of rest ≡ Some TokenKind.Do → Closed takes ts
step_first no_step no_part e = record { operator = ap infix_of e; suffix = λ t. ap suffix_of e }
step_first (by_step e) (by_word k s) i = closes k refl refl

-- the depth that the parts of a `for` need
record ForFits (d low high by inside most : ℕ) : Type 0 where
  low_fits : d + low ≤ most
  high_fits : d + high ≤ most
  step_fits : d + by ≤ most
  inside_fits : d + inside ≤ most

fits_for : (d low high by inside most : ℕ) → d + max (max low high) (max by inside) ≤ most → ForFits d low high by inside most
fits_for d low high by inside most h = record { low_fits = omega arith; high_fits = omega arith; step_fits = omega arith; inside_fits = omega arith }

-- a `for` over numbers
pub numeric_reads : (most : ℕ) (name : Text) (low high : Expression) (by : ForStep) (b : Statements) → is_name name ≡ true → ExpressionReads most low → ExpressionReads most high → StepReads most by → BlockReads most b →
    StatementReads most (numeric_for name low high by b)
numeric_reads most name low high by b f from to steps inner d pv last ts rest (by_word k (by_word i (by_word q (by_phrase x (by_word c (by_phrase y (by_phrase z (by_word o (by_phrase s (by_word e no_part)))))))))) n h a =
    let p = fits_for d (depth_of_expression low) (depth_of_expression high) (depth_of_step by) (depth_of_statements b) most h in
    let j = depth_positive low in
    look_at k (tail (skips (omega arith) (calls (name_reads i f) (choose_at q (tail (skips (omega arith) (calls (from d _ _ _ _ x p.low_fits (closes c refl refl)) (wants c (calls (to d _ _ _ _ y p.high_fits (step_first by z (ap Some o)))
    (calls (steps d _ _ _ _ z p.step_fits (ap Some o)) (wants o (calls (inner d _ _ _ _ s p.inside_fits (in_class is_block_end e refl)) (wants e gives)))))))))))))

-- what stands behind a name of a list
after_name : (class : Option TokenKind → Bool) (mark : TokenKind) (names : List Text) {pv last : ℕ} {ts rest : List Token} → class (Some mark) ≡ true → Spelled (more_names_parts mark names) pv ts last rest → class (kind_of rest) ≡ true → class (kind_of ts) ≡ true
after_name class mark [] c no_part h = h
after_name class mark (name ∷ names) c (by_word k s) h = in_class class k c

-- behind the names of a `for`
abbrev in_for : Option TokenKind → Bool
in_for (Some TokenKind.Comma) = true
in_for (Some TokenKind.In) = true
in_for next = false

-- a `for` over the values of expressions
pub generic_reads : (most : ℕ) (name : Text) (names : List Text) (es : Expressions) (b : Statements) → is_name name ≡ true → are_names names ≡ true → 1 ≤ depth_of_expressions es → ExpressionsReads most es → BlockReads most b →
    StatementReads most (generic_for (name ∷ names) es b)
generic_reads most name names es b f g j list inner d pv last ts rest (by_word k (by_phrase (by_word i (by_phrase m no_part)) (by_word t (by_phrase v (by_word o (by_phrase s (by_word e no_part))))))) n h a =
    let p = fits_list d (depth_of_expressions es) (depth_of_statements b) most h in
    look_at k (tail (skips (omega arith) (calls (name_reads i f)
    (passes (not_it in_for (after_name in_for TokenKind.Comma names refl m (in_class in_for t refl)) refl)
    (tail (calls (more_names_reads most TokenKind.Comma names g m (λ q. cc))
    (choose_at t (skips (omega arith) (calls (list d _ _ _ _ v p.0 (closes o refl refl) (λ q. cc)) (wants o (calls (inner d _ _ _ _ s p.1 (in_class is_block_end e refl)) (wants e gives))))))))))))

-- a function body begins with `(`
body_first : (b : FunctionBody) {pv last : ℕ} {ts rest : List Token} → Spelled (body_parts b) pv ts last rest → kind_of ts ≡ Some TokenKind.OpenParen
body_first (function_body params vararg inside first end) (by_word k s) = ap Some k

method_first : (method : Option Text) {pv last : ℕ} {ts rest : List Token} → Spelled (method_parts method) pv ts last rest → kind_of rest ≡ Some TokenKind.OpenParen → kind_of ts ≡ Some TokenKind.Dot → ⊥
method_first None no_part e q = cc
method_first (Some name) (by_word k s) e q = cc

-- the name of a method, or none
method_reads : (most : ℕ) (method : Option Text) {pv last : ℕ} {ts rest : List Token} → is_optional_name method ≡ true → Spelled (method_parts method) pv ts last rest → kind_of rest ≡ Some TokenKind.OpenParen →
    Runs most method_phrase (reads method_name) pv ts (done method last rest)
method_reads most None f no_part e = pass_on e (λ q. cc) gives
method_reads most (Some name) f (by_word k (by_word i no_part)) e = choose_at k (skips (omega arith) (calls (name_reads i f) gives))

-- a function with a path of names
pub function_reads : (most : ℕ) (name : Text) (names : List Text) (method : Option Text) (b : FunctionBody) → is_name name ≡ true → are_names names ≡ true → is_optional_name method ≡ true → BodyReads most b →
    StatementReads most (function_statement (name ∷ names) method b)
function_reads most name names method b f g w inner d pv last ts rest (by_word_on {token} k l (by_phrase (by_word i (by_phrase m no_part)) (by_phrase {between} {middle} x (by_phrase s no_part)))) n h a =
    look_at k (tail (looks (skips (omega arith) (calls (name_reads i f) (calls (more_names_reads most TokenKind.Dot names g m (method_first method x (body_first b s)))
    (calls (method_reads most method w x (body_first b s))
    (calls (subst (λ y. Runs most body_phrase (reads (body (d + 1) y)) between middle (done b last rest)) (sym l) (inner (d + 1) _ _ _ _ s (omega arith))) gives)))))))

-- a local function
pub local_function_reads : (most : ℕ) (name : Text) (b : FunctionBody) → is_name name ≡ true → BodyReads most b → StatementReads most (local_function name b)
local_function_reads most name b f inner d pv last ts rest (by_word k (by_word_on {token} o l (by_word {token = named} {tokens} i (by_phrase s no_part)))) n h a =
    look_at k (tail (skips n (choose_at o (tail (looks (skips (omega arith) (calls (name_reads i f)
    (calls (subst (λ y. Runs most body_phrase (reads (body (d + 1) y)) named.line tokens (done b last rest)) (sym l) (inner (d + 1) _ _ _ _ s (omega arith))) gives))))))))

-- what stands behind the names of a `local`
values_first : (es : Expressions) {pv last : ℕ} {ts rest : List Token} → Spelled (values_parts es) pv ts last rest → stands_after (kind_of rest) ≡ true → kind_of ts ≡ Some TokenKind.Comma → ⊥
values_first no_expressions no_part h q = not_it stands_after h refl q
values_first (expression e es) (by_word k s) h q = cc

pub expressions_positive : (e : Expression) (es : Expressions) → 1 ≤ depth_of_expressions (expression e es)
expressions_positive e es = let p = depth_positive e in omega arith

-- the values of a `local`, or none
values_reads : (most : ℕ) (es : Expressions) → ExpressionsFound most es → (d pv last : ℕ) (ts rest : List Token) → Spelled (values_parts es) pv ts last rest → d + depth_of_expressions es ≤ most → stands_after (kind_of rest) ≡ true → Closed (last_takes_arguments es) rest →
    Runs most values_phrase (reads (values d)) pv ts (done es last rest)
values_reads most no_expressions inner d pv last ts rest no_part h a c = passes (not_it stands_after a refl) gives
values_reads most (expression e es) inner d pv last ts rest (by_word k (by_phrase s no_part)) h a c =
    let p = expressions_positive e es in
    choose_at k (skips (omega arith) (calls (inner.first refl d _ _ _ _ s h c (not_it stands_after a refl)) gives))

-- a `local` of names
pub local_reads : (most : ℕ) (name : Text) (names : List Text) (es : Expressions) → is_name name ≡ true → are_names names ≡ true → ExpressionsFound most es → StatementReads most (local_statement (name ∷ names) es)
local_reads most name names es f g inner d pv last ts rest (by_word k (by_phrase (by_word i (by_phrase m no_part)) (by_phrase v no_part))) n h a =
    look_at k (tail (skips n (pass_at i (λ q. cc) (tail (calls (name_reads i f) (calls (more_names_reads most TokenKind.Comma names g m (values_first es v a.stands))
    (calls (values_reads most es inner d _ _ _ _ v h a.stands (behind_closed (local_statement (name ∷ names) es) rest a)) gives)))))))

-- a semicolon is next, or not
semicolon_or_not : (next : Option TokenKind) → (next ≡ Some TokenKind.Semicolon) ⊎ (next ≡ Some TokenKind.Semicolon → ⊥)
semicolon_or_not (Some TokenKind.Semicolon) = inl refl
semicolon_or_not next = inr (λ q. cc)

-- behind `return` no arguments follow
return_closed : {takes : Bool} (es : Expressions) (rest : List Token) → Behind (return_statement es) (kind_of rest) → Closed takes rest
return_closed es rest b = record { operator = stands_operator _ b.stands; suffix = λ t. stands_suffix _ b.stands (no_paren (semicolon_or_not (kind_of rest))) }
  where
    no_paren : (kind_of rest ≡ Some TokenKind.Semicolon) ⊎ (kind_of rest ≡ Some TokenKind.Semicolon → ⊥) → kind_of rest ≡ Some TokenKind.OpenParen → ⊥
    no_paren (inl e) q = let i : Some TokenKind.Semicolon ≡ Some TokenKind.OpenParen = sym e ∙ q in cc
    no_paren (inr n) q = not_it is_block_end (b.ended refl n) refl q

-- what a `return` gives, or nothing
results_reads : (most : ℕ) (es : Expressions) → ExpressionsFound most es → (d pv last : ℕ) (ts rest : List Token) → Spelled (expressions_parts es) pv ts last rest → d + depth_of_expressions es ≤ most → Behind (return_statement es) (kind_of rest) →
    Runs most expressions_phrase (reads (results d)) pv ts (done es last rest)
results_reads most no_expressions inner d pv last ts rest no_part h a = by (semicolon_or_not (kind_of ts))
  where
    by : (kind_of ts ≡ Some TokenKind.Semicolon) ⊎ (kind_of ts ≡ Some TokenKind.Semicolon → ⊥) → Runs most expressions_phrase (reads (results d)) pv ts (done no_expressions pv ts)
    by (inl e) = chooses e gives
    by (inr n) = passes n (looks (if_true (is_block_end (kind_of ts)) _ _ (a.ended refl n) gives))
results_reads most (expression e es) inner d pv last ts rest (by_phrase s t) h a =
    let first = expression_first e s in
    passes (not_it begins_expression first refl) (looks (if_false (is_block_end (kind_of ts)) _ _ (expression_no_end _ first)
    (tail (inner.first refl d _ _ _ _ (by_phrase s t) h (return_closed (expression e es) rest a) (not_it stands_after a.stands refl)))))

pub return_reads : (most : ℕ) (es : Expressions) → ExpressionsFound most es → StatementReads most (return_statement es)
return_reads most es inner d pv last ts rest (by_word k (by_phrase s no_part)) n h a = look_at k (tail (skips n (calls (results_reads most es inner d _ _ _ _ s h a) gives)))

pub break_reads : (most : ℕ) → StatementReads most break_statement
break_reads most d pv last ts rest (by_word k no_part) n h a = look_at k (tail (skips n gives))

-- a statement that begins with a prefix expression
starts_expression : (next : Option TokenKind) → begins_prefix next ≡ true → start_of next ≡ Start.Expression
starts_expression (Some (TokenKind.Name name)) h = refl
starts_expression (Some TokenKind.OpenParen) h = refl
starts_expression next h = cc

start_look : {most d before : ℕ} {tokens rest : List Token} {s : Statement} {last : ℕ} → start_of (kind_of tokens) ≡ Start.Expression →
    Runs most statement_phrase (reads (expression_statement d)) before tokens (done s last rest) → Runs most statement_phrase (reads (one_statement d)) before tokens (done s last rest)
start_look {most} {d} {before} {tokens} {rest} {s} {last} e r = looks (subst (λ x. Runs most statement_phrase (statement_on d x) before tokens (done s last rest)) (sym e) (tail r))

call_needs : (e : Expression) → is_call e ≡ true → needed Role.Statement e ≡ 0
call_needs (call_expression line on args on_line) h = refl
call_needs (method_call line on name args on_line) h = refl
call_needs e h = cc

-- a call as a statement
pub call_reads : (most : ℕ) (e : Expression) → is_call e ≡ true → formed_expression e ≡ true → PrefixReads most e → StatementReads most (call_statement e)
call_reads most e c f before d pv last ts rest (by_phrase s no_part) n h a =
    start_look (starts_expression _ (prefix_first e (call_is_prefix e c) f s))
    (calls (before Role.Statement d _ _ _ _ _ s (subst (λ x. d + x + depth_of_expression e ≤ most) (sym (call_needs e c)) (omega arith)) (suffix_stops (stands_suffix _ a.stands (a.no_paren refl))))
    (if_true (is_call e) _ _ c gives))

target_no_call : (e : Expression) → is_target e ≡ true → is_call e ≡ false
target_no_call (call_expression line on args on_line) h = cc
target_no_call (method_call line on name args on_line) h = cc
target_no_call e h = refl

-- an assignment
pub assignment_reads : (most : ℕ) (e : Expression) (es : Expressions) (right : Expressions) → is_target e ≡ true → formed_expression e ≡ true → PrefixReads most e → TargetsReads most es → ExpressionsReads most right → StatementReads most (assignment (expression e es) right)
assignment_reads most e es right t f before others list d pv last ts rest (by_phrase (by_phrase s (by_phrase u no_part)) (by_word q (by_phrase v no_part))) n h a =
    let o = fits_list d (depth_of_expressions (expression e es)) (depth_of_expressions right) most h in
    let p = fits_list d (depth_of_expression e) (depth_of_expressions es) most o.0 in
    start_look (starts_expression _ (prefix_first e (target_is_prefix e t) f s))
    (calls (target_reads most Role.Statement e t before d _ _ _ _ s p.0 (behind_target es u (ap Some q)))
    (if_false (is_call e) _ _ (target_no_call e t) (calls (others e d _ _ _ _ t u p.1 (ap Some q)) (wants q
    (calls (list d _ _ _ _ v o.1 (behind_closed (assignment (expression e es) right) rest a) (not_it stands_after a.stands refl)) gives)))))
