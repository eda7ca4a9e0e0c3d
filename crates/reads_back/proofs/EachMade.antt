-- Each function that a statement mentions is made where it comes next.
use Rattle.std.proofs.Common.{◌≡◌, ℕ, max, ◌≤◌, ◌<◌, ◌⊎◌, inl, inr, Bool, List, [], ◌∷◌, ◌++◌, arith, true, if◌then◌else◌, suc, false, refl, ◌+◌}
use Rattle.std.proofs.lemmas.Bool.{cases_lt}
use Rattle.lua_num.specs.Bytes.{Text}
use Rattle.lua_tree.specs.Syntax as syntax
use Rattle.lua_tree.specs.Syntax.{Arguments, Expression, Expressions, FunctionBody, Statement, argument_list, assignment, binary_expression, call_expression, call_statement, constructor, Fields, no_fields, positional, named, keyed, table_argument, field_expression, function_expression, index_expression, local_statement, method_call, name_expression, no_expressions, parenthesized, return_statement, text_argument, unary_expression, nil_literal, true_literal, false_literal, vararg_expression, number_literal, text_literal, local_function}
use Rattle.lua_tree.specs.WellFormed.{depth_of_arguments, depth_of_body, depth_of_expression, depth_of_expressions, depth_of_fields}
use Rattle.recover_expr.specs.Situation.{Function}
use Rattle.scheme.specs.declared.making.Active.{Active}
use Rattle.scheme_stands.specs.Words.{Fn}
use Rattle.same_flow.specs.Space.{space_of_arguments, space_of_body, space_of_expression, space_of_expressions, space_of_fields}
use Rattle.reads_back.specs.Acted.{IsAct, is_path, lean_assignment, lean_depth}
use Rattle.reads_back.specs.Assignments.{with_self}
use Rattle.reads_back.specs.Coming.{Coming, IsMadeNext, IsOwnNext, inside_local}
use Rattle.reads_back.specs.Cores.{AllHaveCores, HasCore, HaveCores, HaveItems, IsPlainBody}
use Rattle.reads_back.proofs.Mentions.{AreMeant, Mention, behind_mention, coming_behind, function_mention, locals_mention, mentions_given, mentions_in, mentions_in_all, mentions_of_fields, name_mention, own_mention}
use Rattle.reads_back.proofs.NameReads.{AreListed}
use Rattle.reads_back.proofs.OneLineActs.{targets_have_cores}
use Rattle.reads_back.proofs.Rewriting.{mentions_of_statement, OwnListed}
use Rattle.reads_back.proofs.Rooms.{inside_room, lean_room, lean_room_assignment, left_room, of_room}
use Rattle.reads_back.proofs.Tests.{first_of_both}

-- ---- the levels of what is mentioned

-- each function that is mentioned is plain, and has fewer levels than so many, and less room than that
abbrev pub AreLowMentions : (high roomy : ℕ) → List Mention → Type 0
AreLowMentions high roomy [] = Unit {0}
AreLowMentions high roomy (name_mention text ∷ mentions) = AreLowMentions high roomy mentions
AreLowMentions high roomy (function_mention body method ∷ mentions) = (IsPlainBody (with_self method body) × (depth_of_body body < high) × (space_of_body body < roomy)) × AreLowMentions high roomy mentions
AreLowMentions high roomy (locals_mention texts ∷ mentions) = AreLowMentions high roomy mentions
AreLowMentions high roomy (own_mention text body ∷ mentions) = ⊥

lower : (high higher roomy more : ℕ) (mentions : List Mention) → high ≤ higher → roomy ≤ more → AreLowMentions high roomy mentions → AreLowMentions higher more mentions
lower high higher roomy more [] up wider are = tt
lower high higher roomy more (name_mention text ∷ mentions) up wider are = lower high higher roomy more mentions up wider are
lower high higher roomy more (function_mention body method ∷ mentions) up wider are = ((are.0.0, omega (arith, are.0.1, up), omega (arith, are.0.2, wider)), lower high higher roomy more mentions up wider are.1)
lower high higher roomy more (locals_mention texts ∷ mentions) up wider are = lower high higher roomy more mentions up wider are
lower high higher roomy more (own_mention text body ∷ mentions) up wider are = absurd are

low_then : (high roomy : ℕ) (mentions others : List Mention) → AreLowMentions high roomy mentions → AreLowMentions high roomy others → AreLowMentions high roomy (mentions ++ others)
low_then high roomy [] others first second = second
low_then high roomy (name_mention text ∷ mentions) others first second = low_then high roomy mentions others first second
low_then high roomy (function_mention body method ∷ mentions) others first second = (first.0, low_then high roomy mentions others first.1 second)
low_then high roomy (locals_mention texts ∷ mentions) others first second = low_then high roomy mentions others first second
low_then high roomy (own_mention text body ∷ mentions) others first second = absurd first

-- what two parts mention, where both have no more levels than so many
pub both_low : (one other high little few roomy : ℕ) (mentions others : List Mention) → max one other ≤ high → max little few ≤ roomy → AreLowMentions one little mentions → AreLowMentions other few others → AreLowMentions high roomy (mentions ++ others)
both_low one other high little few roomy mentions others up wider first second = low_then high roomy mentions others (lower one high little roomy mentions (omega (arith, up)) (omega (arith, wider)) first) (lower other high few roomy others (omega (arith, up)) (omega (arith, wider)) second)

mutual
  pub low_in : (e : Expression) → HasCore e → AreLowMentions (depth_of_expression e) (space_of_expression e) (mentions_in e)
  low_in (nil_literal line) has = tt
  low_in (true_literal line) has = tt
  low_in (false_literal line) has = tt
  low_in (vararg_expression line) has = tt
  low_in (number_literal line n) has = tt
  low_in (text_literal line text) has = tt
  low_in (name_expression line text) has = tt
  low_in (function_expression line body) has = ((has, omega arith, omega arith), tt)
  low_in (index_expression line on key) has = both_low (depth_of_expression on) (depth_of_expression key) _ (space_of_expression on) (space_of_expression key) _ (mentions_in on) (mentions_in key) (omega arith) (omega arith) (low_in on has.0) (low_in key has.1)
  low_in (field_expression line on text) has = lower (depth_of_expression on) _ (space_of_expression on) _ (mentions_in on) (omega arith) (omega arith) (low_in on has)
  low_in (call_expression line on args on_line) has = both_low (depth_of_expression on) (depth_of_arguments args) _ (space_of_expression on) (space_of_arguments args) _ (mentions_in on) (mentions_given args) (omega arith) (omega arith) (low_in on has.0) (low_given args has.1)
  low_in (method_call line on name args on_line) has = both_low (depth_of_expression on) (depth_of_arguments args) _ (space_of_expression on) (space_of_arguments args) _ (mentions_in on) (mentions_given args) (omega arith) (omega arith) (low_in on has.1) (low_given args has.2)
  low_in (binary_expression line op left right) has = both_low (depth_of_expression left) (depth_of_expression right) _ (space_of_expression left) (space_of_expression right) _ (mentions_in left) (mentions_in right) (omega arith) (left_room line op left right) (low_in left has.1) (low_in right has.2)
  low_in (unary_expression line op e) has = lower (depth_of_expression e) _ (space_of_expression e) _ (mentions_in e) (omega arith) (of_room line op e) (low_in e has)
  low_in (constructor line fields) has = lower (depth_of_fields fields) _ (space_of_fields fields) _ (mentions_of_fields fields) (omega arith) (omega arith) (low_of_fields fields has)
  low_in (parenthesized line e) has = lower (depth_of_expression e) _ (space_of_expression e) _ (mentions_in e) (omega arith) (inside_room line e) (low_in e has)
  low_in e has = absurd has

  low_given : (args : Arguments) → HaveCores args → AreLowMentions (depth_of_arguments args) (space_of_arguments args) (mentions_given args)
  low_given (argument_list es) have = low_in_all es have
  low_given (text_argument text) have = tt
  low_given (table_argument fields) have = low_of_fields fields have

  low_of_fields : (fields : Fields) → HaveItems fields → AreLowMentions (depth_of_fields fields) (space_of_fields fields) (mentions_of_fields fields)
  low_of_fields no_fields have = tt
  low_of_fields (positional e separator rest) have = both_low (depth_of_expression e) (depth_of_fields rest) _ (space_of_expression e) (space_of_fields rest) _ (mentions_in e) (mentions_of_fields rest) (omega arith) (omega arith) (low_in e have.0) (low_of_fields rest have.1)
  low_of_fields (named text e separator rest) have = both_low (depth_of_expression e) (depth_of_fields rest) _ (space_of_expression e) (space_of_fields rest) _ (mentions_in e) (mentions_of_fields rest) (omega arith) (omega arith) (low_in e have.0) (low_of_fields rest have.1)
  low_of_fields (keyed key e separator rest) have =
      let item = both_low (depth_of_expression key) (depth_of_expression e) (max (depth_of_expression key) (depth_of_expression e)) (space_of_expression key) (space_of_expression e) (max (space_of_expression key) (space_of_expression e)) (mentions_in key) (mentions_in e) (omega arith) (omega arith) (low_in key have.0) (low_in e have.1) in
      both_low (max (depth_of_expression key) (depth_of_expression e)) (depth_of_fields rest) _ (max (space_of_expression key) (space_of_expression e)) (space_of_fields rest) _ (mentions_in key ++ mentions_in e) (mentions_of_fields rest) (omega arith) (omega arith) item (low_of_fields rest have.2)

  pub low_in_all : (es : Expressions) → AllHaveCores es → AreLowMentions (depth_of_expressions es) (space_of_expressions es) (mentions_in_all es)
  low_in_all no_expressions have = tt
  low_in_all (syntax.expression e es) have = both_low (depth_of_expression e) (depth_of_expressions es) _ (space_of_expression e) (space_of_expressions es) _ (mentions_in e) (mentions_in_all es) (omega arith) (omega arith) (low_in e have.0) (low_in_all es have.1)

-- a path mentions none
path_low : (target : Expression) (high roomy : ℕ) → is_path target ≡ true → AreLowMentions high roomy (mentions_in target)
path_low (name_expression line text) high roomy is = tt
path_low (field_expression line on text) high roomy is = path_low on high roomy (first_of_both _ _ is)
path_low target high roomy is = cc

-- of an assignment
assigned_low : (targets es : Expressions) → AllHaveCores targets → AllHaveCores es → AreLowMentions (lean_assignment targets es) (lean_room_assignment targets es) (mentions_in_all targets ++ mentions_in_all es)
assigned_low (syntax.expression target no_expressions) (syntax.expression (function_expression line body) no_expressions) to from = by (is_path target) refl
  where
    by : (path : Bool) → is_path target ≡ path → AreLowMentions (if path then suc (depth_of_body body) else max (depth_of_expression target) (suc (depth_of_body body))) (if path then suc (space_of_body body) else max (space_of_expression target) (suc (space_of_body body))) ((mentions_in target ++ []) ++ (function_mention body false ∷ []))
    by true is =
        let high = suc (depth_of_body body) in
        let roomy = suc (space_of_body body) in
        low_then high roomy (mentions_in target ++ []) (function_mention body false ∷ []) (low_then high roomy (mentions_in target) [] (path_low target high roomy is) tt) ((from.0, omega arith, omega arith), tt)
    by false is =
        let high = max (depth_of_expression target) (suc (depth_of_body body)) in
        let roomy = max (space_of_expression target) (suc (space_of_body body)) in
        both_low (depth_of_expressions (syntax.expression target no_expressions)) (suc (depth_of_body body)) high (space_of_expressions (syntax.expression target no_expressions)) (suc (space_of_body body)) roomy (mentions_in target ++ []) (function_mention body false ∷ []) (omega arith) (omega arith) (low_in_all (syntax.expression target no_expressions) to) ((from.0, omega arith, omega arith), tt)
assigned_low targets es to from = both_low (depth_of_expressions targets) (depth_of_expressions es) _ (space_of_expressions targets) (space_of_expressions es) _ (mentions_in_all targets) (mentions_in_all es) (omega arith) (omega arith) (low_in_all targets to) (low_in_all es from)

-- no local function, which alone mentions one of its own
abbrev IsNotLocal : Statement → Type 0
IsNotLocal (local_function text body) = ⊥
IsNotLocal s = Unit {0}

mentions_low : (s : Statement) → IsAct s → IsNotLocal s → AreLowMentions (lean_depth s) (lean_room s) (mentions_of_statement s)
mentions_low (call_statement e) is other = low_in e is.1
mentions_low (assignment targets es) is other = assigned_low targets es (targets_have_cores IsPlainBody targets is.targets) is.values
mentions_low (local_statement names es) is other = low_in_all es is.1
mentions_low (return_statement es) is other = low_in_all es is
mentions_low (local_function text body) is other = absurd other
mentions_low s is other = absurd is

-- ---- where a function is made

-- the function of a number is made where so many were made, with fewer levels than so many and less room than that
pub record IsMadeAt (f : Function) (g : Fn) (high roomy number : ℕ) : Type 0 where
  pub active : List Active
  -- the places in the list of the locals that are active there
  pub listed : List ℕ
  pub all : AreListed f g active listed
  pub body : FunctionBody
  pub method : Bool
  pub c : Coming
  pub is : IsMadeNext g active body method c
  pub number_is : c.functions ≡ number
  pub plain : IsPlainBody (with_self method body)
  pub low : depth_of_body body < high
  pub in_room : space_of_body body < roomy

-- and so with fewer levels than more
pub made_lower : {f : Function} {g : Fn} (high higher roomy more number : ℕ) → high ≤ higher → roomy ≤ more → IsMadeAt f g high roomy number → IsMadeAt f g higher more number
made_lower high higher roomy more number up wider made =
    record { active = made.active; listed = made.listed; all = made.all; body = made.body; method = made.method; c = made.c; is = made.is; number_is = made.number_is; plain = made.plain; low = omega (arith, made.low, up); in_room = omega (arith, made.in_room, wider) }

-- each function of what is mentioned is made
pub mentioned_made : {f : Function} (g : Fn) (active : List Active) {listed : List ℕ} → AreListed f g active listed → (high roomy : ℕ) (mentions : List Mention) (c : Coming) → AreMeant g active mentions c → AreLowMentions high roomy mentions →
    (number : ℕ) → c.functions ≤ number → number < (coming_behind active g.upvalue_names mentions c).functions → IsMadeAt f g high roomy number
mentioned_made g active all high roomy [] c meant low number from below = absurd (omega (arith, from, below))
mentioned_made g active all high roomy (name_mention text ∷ mentions) c meant low number from below = mentioned_made g active all high roomy mentions (behind_mention active g.upvalue_names (name_mention text) c) meant.1 low number from below
mentioned_made {f} g active {listed} all high roomy (function_mention body method ∷ mentions) c meant low number from below =
    by (cases_lt c.functions number) (λ later. mentioned_made g active all high roomy mentions (behind_mention active g.upvalue_names (function_mention body method) c) meant.1 low.1 number (omega (arith, later)) below)
  where
    by : (c.functions < number) ⊎ (number ≤ c.functions) → (c.functions < number → IsMadeAt f g high roomy number) → IsMadeAt f g high roomy number
    by (inl later) others = others later
    by (inr here) others = record { active = active; listed = listed; all = all; body = body; method = method; c = c; is = meant.0; number_is = omega (arith, from, here); plain = low.0.0; low = low.0.1; in_room = low.0.2 }
mentioned_made g active all high roomy (own_mention text body ∷ mentions) c meant low number from below = absurd low
mentioned_made g active all high roomy (locals_mention texts ∷ mentions) c meant low number from below = mentioned_made g active all high roomy mentions (behind_mention active g.upvalue_names (locals_mention texts) c) meant.1 low number from below

-- that of a local function
own_made : {f : Function} (g : Fn) (active : List Active) (text : Text) (body : FunctionBody) (c : Coming) → OwnListed f g active (local_function text body) → IsPlainBody body → IsOwnNext g active text body c → (number : ℕ) → c.functions ≤ number → number < suc c.functions → IsMadeAt f g (1 + depth_of_body body) (1 + space_of_body body) number
own_made g active text body c listed plain own number from below =
    let all = listed own.local c.ahead own.is_local in
    record { active = active ++ own.local ∷ []; listed = all.0; all = all.1; body = body; method = false; c = inside_local text c; is = own.next; number_is = omega (arith, from, below); plain = plain; low = omega arith; in_room = omega arith }

pub statement_made_at : {f : Function} (g : Fn) (active : List Active) {listed : List ℕ} → AreListed f g active listed → (s : Statement) → IsAct s → OwnListed f g active s → (c : Coming) → AreMeant g active (mentions_of_statement s) c →
    (number : ℕ) → c.functions ≤ number → number < (coming_behind active g.upvalue_names (mentions_of_statement s) c).functions → IsMadeAt f g (lean_depth s) (lean_room s) number
statement_made_at g active all (local_function text body) is own c meant number from below = own_made g active text body c own is.1 meant.0 number from below
statement_made_at g active all (call_statement e) is own c meant number from below = mentioned_made g active all _ _ (mentions_of_statement (call_statement e)) c meant (mentions_low (call_statement e) is tt) number from below
statement_made_at g active all (assignment targets es) is own c meant number from below = mentioned_made g active all _ _ (mentions_of_statement (assignment targets es)) c meant (mentions_low (assignment targets es) is tt) number from below
statement_made_at g active all (local_statement names es) is own c meant number from below = mentioned_made g active all _ _ (mentions_of_statement (local_statement names es)) c meant (mentions_low (local_statement names es) is tt) number from below
statement_made_at g active all (return_statement es) is own c meant number from below = mentioned_made g active all _ _ (mentions_of_statement (return_statement es)) c meant (mentions_low (return_statement es) is tt) number from below
statement_made_at g active all s is own c meant number from below = absurd is
