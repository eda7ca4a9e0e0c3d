-- What is made of an expression passes the names that it mentions, one by one, and declares nothing.
use Rattle.std.proofs.Common.{◌≡◌, ℕ, Bool, true, false, cond, List, [], ◌∷◌, ◌++◌, Option, Some, None, refl, sym, ap, ◌∙◌, subst, ap₂, get_or, map, length}
use Rattle.std.specs.Prelude.{◌==◌, ◌&&◌, ◌+◌, ◌-◌, ◌/◌, suc, nat_le, nat_lt, ℤ, not}
use Rattle.lua_num.specs.Bytes.{Text}
use Rattle.lua_tree.specs.OneLine.{one_line_expression, one_line_expressions, one_line_arguments, one_line_fields}
use Rattle.lua_tree.specs.Syntax as syntax
use Rattle.lua_tree.specs.Syntax.{Expressions, no_expressions, Arguments, argument_list, text_argument, table_argument, Expression, nil_literal, true_literal, false_literal, vararg_expression, number_literal, text_literal, name_expression, index_expression, field_expression, call_expression, method_call, binary_expression, unary_expression, parenthesized, constructor, Fields, no_fields, positional, named, keyed, FunctionBody, function_expression}
use Rattle.lua_tree.specs.declared.tree.BinaryOp.{BinaryOp}
use Rattle.lua_tree.specs.declared.tree.UnaryOp.{UnaryOp}
use Rattle.opcode.specs.declared.op.Op.{Op}
use Rattle.proto.specs.declared.parts.Constant.{Constant}
use Rattle.scheme.specs.Expressions.{Coded, Want, is_name, arith_op, arithmetic, binary_spine, binary_value, concat, fold, indexed_value, is_comparison, is_multiple, is_small, literal, load_or, local_register, name_value, next_reg, next_text, number_or, operand, operand_by, plain_literal, read_where, register_of, rk, rk_by, rk_text, small_constant, unary_value}
use Rattle.scheme.specs.Lists.{Given, all_multi, all_next, by_base, call_at, coded_call, ends_open, entries_from, is_last, keyed_item, large_block, method_at, moved, open_entry, open_list, other_count, pending_after, positional_count, results_at, set_list, size_hint, small_block, table_at}
use Rattle.scheme.specs.Making.{Asks, Maker, Part, Where, in_globals, in_register, in_upvalue, free_from, freeing, next_name, pass_name, put, take_registers, when, where_is}
use Rattle.scheme.specs.Scheme.{all_coded, coded, entries, given, inner}
use Rattle.scheme.specs.declared.making.Piece.{Piece}
use Rattle.reads_back.specs.Cores.{AllHaveCores, HasCore, HaveCores, HaveItems}
use Rattle.reads_back.proofs.Rooms.{folded_both, folded_one}
use Rattle.reads_back.proofs.Mentions.{AskingPasses, Passed, Passes, mentions_given, mentions_in, mentions_in_all, mentions_of_fields, passed_none, passed_then, Mention, name_mention, function_mention}
use Rattle.reads_back.proofs.Rewriting.{code}
use Rattle.reads_back.proofs.Tests.{first_of_both, second_of_both}
use Rattle.reads_back.proofs.WordsSame.{coded_is}
use Rattle.lua_tree.specs.Scoping.{Use, local_use, upvalue_use, global_use}
use Rattle.scheme.specs.Functions.{closure, further_word, further_words, name_of, next_sources, source_names, with_function, without_sources}
use Rattle.scheme_stands.specs.Functions.{captured_name}
use Rattle.scheme_stands.proofs.Growth.{length_end}

-- each part of an expression with these names
pub record PassesMentions (mentions : List Mention) (c : Coded) : Type 0 where
  pub to_reg : (r : ℕ) → Passes mentions (c.to_reg r)
  pub spine : Passes mentions c.spine
  -- several values are asked only of what can give them
  pub multi : is_multiple c.e ≡ true → (op : Op) (want : Want) → Passes mentions (c.multi op want)
  -- a name is one, and a literal has none
  pub named : is_name c.e ≡ true → (text : Text) × (mentions ≡ name_mention text ∷ [])
  pub nameless : (k : Constant) → literal c.e ≡ Some k → mentions ≡ []

-- ---- what a part passes

-- a part that changes no name, behind these
passed_on : {mentions : List Mention} {m n o : Maker} → Passed mentions m n → Passed [] n o → Passed mentions m o
passed_on first second = record { around = second.around ∙ first.around; behind = second.behind ∙ first.behind }

-- the same names
passed_as : {mentions others : List Mention} {m n : Maker} → mentions ≡ others → Passed others m n → Passed mentions m n
passed_as {mentions} {others} {m} {n} are passed = subst (λ (mentions : List Mention). Passed mentions m n) (sym are) passed

freeing_passes : {mentions : List Mention} (part : Part) → Passes mentions part → Passes mentions (freeing part)
freeing_passes part passes m = passed_on (passes m) (record { around = refl; behind = refl })

cond_passes : (mentions : List Mention) (b : Bool) (one other : Part) → (b ≡ true → Passes mentions one) → (b ≡ false → Passes mentions other) → Passes mentions (cond b one other)
cond_passes mentions true one other first second = first refl
cond_passes mentions false one other first second = second refl

cond_asks : {A : Type 0} (mentions : List Mention) (b : Bool) (one other : Asks A) → AskingPasses mentions one → AskingPasses mentions other → AskingPasses mentions (cond b one other)
cond_asks mentions true one other first second = first
cond_asks mentions false one other first second = second

pub when_passes : (b : Bool) (part : Part) → Passes [] part → Passes [] (when b part)
when_passes true part passes m = passes m
when_passes false part passes m = passed_none

-- ---- names

pub pass_passes : (text : Text) → Passes (name_mention text ∷ []) pass_name
pass_passes text m = record { around = refl; behind = refl }

read_passes : (line r : ℕ) (text : Text) (w : Where) → Passes [] (read_where line r text w)
read_passes line r text (in_register x) m = record { around = refl; behind = refl }
read_passes line r text (in_upvalue slot) m = record { around = refl; behind = refl }
read_passes line r text in_globals m = record { around = refl; behind = refl }

name_passes : (line : ℕ) (text : Text) (r : ℕ) → Passes (name_mention text ∷ []) (name_value line text r)
name_passes line text r m = passed_on (pass_passes text m) (read_passes line r text (next_name m) (pass_name m))

-- ---- operands

next_by : (mentions : List Mention) (c : Coded) → ((r : ℕ) → Passes mentions (c.to_reg r)) → Passes mentions (next_reg c)
next_by mentions c passes m = passed_on (passes m.free m) (record { around = refl; behind = refl })

pub next_passes : (mentions : List Mention) (c : Coded) → PassesMentions mentions c → Passes mentions (next_reg c)
next_passes mentions c passes m = next_by mentions c passes.to_reg m

-- only a name is a local
local_named : (named : Bool) (local : Option ℕ) (r : ℕ) → cond named local None ≡ Some r → named ≡ true
local_named true local r is = refl
local_named false local r is = cc

operand_by_passes : (mentions : List Mention) (local : Option ℕ) (c : Coded) → PassesMentions mentions c → (m : Maker) → local_register c.e m ≡ local → Passed mentions m (operand_by local c m).after
operand_by_passes mentions (Some r) c passes m is =
    let one = passes.named (local_named (is_name c.e) (register_of (next_name m)) r is) in
    passed_as one.1 (pass_passes one.0 m)
operand_by_passes mentions None c passes m is = next_passes mentions c passes m

pub operand_passes : (mentions : List Mention) (c : Coded) → PassesMentions mentions c → AskingPasses mentions (operand c)
operand_passes mentions c passes m = operand_by_passes mentions (local_register c.e m) c passes m refl

rk_by_passes : (mentions : List Mention) (k : Option Constant) (c : Coded) → PassesMentions mentions c → literal c.e ≡ k → AskingPasses mentions (rk_by k c)
rk_by_passes mentions (Some k) c passes is m =
    cond_asks mentions (is_small k m) (small_constant k) (operand c) (λ n. passed_as (passes.nameless k is) (record { around = refl; behind = refl })) (operand_passes mentions c passes) m
rk_by_passes mentions None c passes is m = operand_passes mentions c passes m

pub rk_passes : (mentions : List Mention) (c : Coded) → PassesMentions mentions c → AskingPasses mentions (rk c)
rk_passes mentions c passes m = rk_by_passes mentions (literal c.e) c passes refl m

pub rk_text_passes : (line : ℕ) (text : Text) → AskingPasses [] (rk_text line text)
rk_text_passes line text m =
    cond_asks [] (is_small (Constant.Text text) m) (small_constant (Constant.Text text)) (λ n. record { value = n.free; after = next_text line text n }) (λ n. record { around = refl; behind = refl }) (λ n. record { around = refl; behind = refl }) m

-- ---- expressions from their parts

-- what is no name, and gives one value: its value goes to the next register
value_passes : (mentions : List Mention) (c : Coded) → ((r : ℕ) → Passes mentions (c.to_reg r)) → c.spine ≡ next_reg c → is_name c.e ≡ false → is_multiple c.e ≡ false → ((k : Constant) → literal c.e ≡ Some k → mentions ≡ []) → PassesMentions mentions c
value_passes mentions c passes spine unnamed multiple nameless = record {
  to_reg = passes;
  spine = subst (λ (part : Part). Passes mentions part) (sym spine) (next_by mentions c passes);
  multi = λ is. cc;
  named = λ is. cc;
  nameless = nameless;
}

-- what is loaded has no names
loaded_passes : (c : Coded) → ((r : ℕ) → Passes [] (c.to_reg r)) → c.spine ≡ next_reg c → is_name c.e ≡ false → is_multiple c.e ≡ false → PassesMentions [] c
loaded_passes c passes spine unnamed multiple = value_passes [] c passes spine unnamed multiple (λ k is. refl)

indexed_passes : (mentions keys : List Mention) (line : ℕ) (on : Coded) (key : Asks ℕ) → PassesMentions mentions on → AskingPasses keys key → (r : ℕ) → Passes (mentions ++ keys) (indexed_value line on key r)
indexed_passes mentions keys line on key passes then_key r m = passed_on (passed_then mentions keys (operand_passes mentions on passes m) (then_key (operand on m).after)) (record { around = refl; behind = refl })

-- the name of a field is none of these names
field_passes : (mentions : List Mention) (line : ℕ) (on : Coded) (text : Text) → PassesMentions mentions on → (r : ℕ) → Passes mentions (indexed_value line on (rk_text line text) r)
field_passes mentions line on text passes r m = passed_on (passed_on (operand_passes mentions on passes m) (rk_text_passes line text (operand on m).after)) (record { around = refl; behind = refl })

load_or_passes : (mentions : List Mention) (folded : Option ℤ) (line : ℕ) (to : ℕ → Part) → ((n : ℤ) → folded ≡ Some n → mentions ≡ []) → ((r : ℕ) → Passes mentions (to r)) → (r : ℕ) → Passes mentions (load_or folded line to r)
load_or_passes mentions (Some n) line to nameless passes r m = passed_as (nameless n refl) (record { around = refl; behind = refl })
load_or_passes mentions None line to nameless passes r m = passes r m

-- only numbers are folded
folded_nameless : (mentions : List Mention) (x : Expression) → PassesMentions mentions (coded x) → (n : ℤ) → fold x ≡ Some n → mentions ≡ []
folded_nameless mentions x passes n is = passes.nameless (Constant.Number n) (ap literal (coded_is x) ∙ ap (λ folded. number_or folded (plain_literal x)) is)

-- what is a literal only where it is folded
literal_folded : (folded : Option ℤ) (k : Constant) → number_or folded None ≡ Some k → (n : ℤ) × (folded ≡ Some n)
literal_folded (Some n) k is = (n, refl)
literal_folded None k is = cc

arithmetic_passes : (mentions others : List Mention) (line : ℕ) (op : Op) (left right : Coded) → PassesMentions mentions left → PassesMentions others right → (r : ℕ) → Passes (mentions ++ others) (arithmetic line op left right r)
arithmetic_passes mentions others line op left right first second r m =
    passed_on (passed_then mentions others (rk_passes mentions left first m) (rk_passes others right second (rk left m).after)) (record { around = refl; behind = refl })

operands_pass : (mentions others : List Mention) (left right : Coded) → PassesMentions mentions left → PassesMentions others right → Passes (mentions ++ others) (λ m. right.spine (next_reg left m))
operands_pass mentions others left right first second m = passed_then mentions others (next_passes mentions left first m) (second.spine (next_reg left m))

concat_passes : (mentions others : List Mention) (line : ℕ) (left right : Coded) → PassesMentions mentions left → PassesMentions others right → (r : ℕ) → Passes (mentions ++ others) (concat line left right r)
concat_passes mentions others line left right first second r m = passed_on (operands_pass mentions others left right first second m) (record { around = refl; behind = refl })

binary_value_passes : (mentions others : List Mention) (line : ℕ) (op : BinaryOp) (left right : Coded) → is_comparison op ≡ false → PassesMentions mentions left → PassesMentions others right → (r : ℕ) → Passes (mentions ++ others) (binary_value line op left right r)
binary_value_passes mentions others line BinaryOp.Add left right plain first second = arithmetic_passes mentions others line Op.Add left right first second
binary_value_passes mentions others line BinaryOp.Sub left right plain first second = arithmetic_passes mentions others line Op.Sub left right first second
binary_value_passes mentions others line BinaryOp.Mul left right plain first second = arithmetic_passes mentions others line Op.Mul left right first second
binary_value_passes mentions others line BinaryOp.Div left right plain first second = arithmetic_passes mentions others line Op.Div left right first second
binary_value_passes mentions others line BinaryOp.Rem left right plain first second = arithmetic_passes mentions others line Op.Mod left right first second
binary_value_passes mentions others line BinaryOp.Pow left right plain first second = arithmetic_passes mentions others line Op.Pow left right first second
binary_value_passes mentions others line BinaryOp.Concat left right plain first second = concat_passes mentions others line left right first second
binary_value_passes mentions others line op left right plain first second = absurd cc

spine_passes : (mentions : List Mention) (op : BinaryOp) (of_concat of_value : Part) → Passes mentions of_concat → Passes mentions of_value → Passes mentions (binary_spine op of_concat of_value)
spine_passes mentions BinaryOp.Concat of_concat of_value first second = first
spine_passes mentions op of_concat of_value first second = second

binary_passes : (mentions others : List Mention) (op : BinaryOp) (l r : Expression) → is_comparison op ≡ false → PassesMentions mentions (coded l) → PassesMentions others (coded r) → PassesMentions (mentions ++ others) (coded (binary_expression 1 op l r))
binary_passes mentions others op l r plain first second = record {
  to_reg = to;
  spine = spine_passes (mentions ++ others) op _ _ (operands_pass mentions others (coded l) (coded r) first second) (λ m. passed_on (to m.free m) (record { around = refl; behind = refl }));
  multi = λ is. cc;
  named = λ is. cc;
  nameless = λ k is. let folded = literal_folded (fold (binary_expression 1 op l r)) k is in nameless folded.0 folded.1;
}
  where
    nameless : (n : ℤ) → fold (binary_expression 1 op l r) ≡ Some n → mentions ++ others ≡ []
    nameless n is =
        let both = folded_both (arith_op op) (fold l) (fold r) n is in
        ap (λ (mentions : List Mention). mentions ++ others) (folded_nameless mentions l first both.0.0 both.0.1) ∙ folded_nameless others r second both.1.0 both.1.1

    to : (register : ℕ) → Passes (mentions ++ others) (freeing (load_or (fold (binary_expression 1 op l r)) 1 (binary_value 1 op (coded l) (coded r)) register))
    to register = freeing_passes _ (load_or_passes (mentions ++ others) (fold (binary_expression 1 op l r)) 1 (binary_value 1 op (coded l) (coded r)) nameless (binary_value_passes mentions others 1 op (coded l) (coded r) plain first second) register)

unary_passes : (mentions : List Mention) (op : UnaryOp) (x : Expression) → PassesMentions mentions (coded x) → PassesMentions mentions (coded (unary_expression 1 op x))
unary_passes mentions op x passes =
    value_passes mentions (coded (unary_expression 1 op x)) (λ r. freeing_passes _ (load_or_passes mentions (fold (unary_expression 1 op x)) 1 (unary_value 1 op (coded x)) nameless to r)) refl refl refl
    (λ k is. let folded = literal_folded (fold (unary_expression 1 op x)) k is in nameless folded.0 folded.1)
  where
    nameless : (n : ℤ) → fold (unary_expression 1 op x) ≡ Some n → mentions ≡ []
    nameless n is = let inside = folded_one op (fold x) n is in folded_nameless mentions x passes inside.0 inside.1

    to : (r : ℕ) → Passes mentions (unary_value 1 op (coded x) r)
    to r m = passed_on (operand_passes mentions (coded x) passes m) (record { around = refl; behind = refl })

-- a name in parentheses is a name; of several values there is one
parenthesized_passes : (mentions : List Mention) (x : Expression) → PassesMentions mentions (coded x) → PassesMentions mentions (coded (parenthesized 1 x))
parenthesized_passes mentions x passes = record {
  to_reg = passes.to_reg;
  spine = next_passes mentions (coded x) passes;
  multi = λ is. cc;
  named = λ is. passes.named (ap is_name (coded_is x) ∙ is);
  nameless = λ k is. let folded = literal_folded (fold x) k is in folded_nameless mentions x passes folded.0 folded.1;
}

-- ---- lists and calls

abbrev EachPasses : Expressions → Type 0
EachPasses no_expressions = Unit {0}
EachPasses (syntax.expression e es) = PassesMentions (mentions_in e) (code e) × EachPasses es

next_each_passes : (es : Expressions) → EachPasses es → Passes (mentions_in_all es) (all_next (all_coded (one_line_expressions es)))
next_each_passes no_expressions passes m = passed_none
next_each_passes (syntax.expression e es) passes m = passed_then (mentions_in e) (mentions_in_all es) (next_passes (mentions_in e) (code e) passes.0 m) (next_each_passes es passes.1 (next_reg (code e) m))

-- the last one gives several values
multi_each_passes : (op : Op) (want : Want) (es : Expressions) → EachPasses es → ends_open (all_coded (one_line_expressions es)) ≡ true → Passes (mentions_in_all es) (all_multi op want (all_coded (one_line_expressions es)))
multi_each_passes op want no_expressions passes is m = passed_none
multi_each_passes op want (syntax.expression e no_expressions) passes is m = passed_then (mentions_in e) [] (passes.0.multi is op want m) passed_none
multi_each_passes op want (syntax.expression e (syntax.expression d es)) passes is m =
    passed_then (mentions_in e) (mentions_in_all (syntax.expression d es)) (next_passes (mentions_in e) (code e) passes.0 m) (multi_each_passes op want (syntax.expression d es) passes.1 is (next_reg (code e) m))

open_passes : (es : Expressions) → EachPasses es → Passes (mentions_in_all es) (open_list (all_coded (one_line_expressions es)))
open_passes es passes =
    let cs = all_coded (one_line_expressions es) in
    cond_passes (mentions_in_all es) (ends_open cs) (all_multi Op.Call None cs) (all_next cs) (λ is. multi_each_passes Op.Call None es passes is) (λ is. next_each_passes es passes)

results_pass : (base : ℕ) (want : Want) → Passes [] (results_at base want)
results_pass base None m = record { around = refl; behind = refl }
results_pass base (Some n) m = record { around = refl; behind = refl }

call_passes : (mentions others : List Mention) (on : Coded) (args : Given) → PassesMentions mentions on → Passes others args.part → (op : Op) (want : Want) → Passes (mentions ++ others) (call_at 1 on args op want)
call_passes mentions others on args first second op want m =
    let both : Passed (mentions ++ others) m (args.part (next_reg on m)) = passed_then mentions others (next_passes mentions on first m) (second (next_reg on m)) in
    let call = passed_on both (record { around = refl; behind = refl }) in
    passed_on call (results_pass m.free want _)

method_passes : (mentions others : List Mention) (on : Coded) (text : Text) (args : Given) → PassesMentions mentions on → Passes others args.part → (op : Op) (want : Want) → Passes (mentions ++ others) (method_at 1 on text args op want)
method_passes mentions others on text args first second op want m =
    let x = operand on m in
    let n : Maker = take_registers 2 (free_from m.free x.after) in
    let y = rk_text 1 text n in
    let o : Maker = free_from (m.free + 2) (put 1 (Piece.Abc Op.Self_ m.free x.value y.value) y.after) in
    let self : Passed mentions m n = passed_on (operand_passes mentions on first m) (record { around = refl; behind = refl }) in
    let key : Passed mentions m o = passed_on (passed_on self (rk_text_passes 1 text n)) (record { around = refl; behind = refl }) in
    let call = passed_on (passed_then mentions others key (second o)) (record { around = refl; behind = refl }) in
    passed_on call (results_pass m.free want _)

moved_passes : (line base r : ℕ) → Passes [] (moved line base r)
moved_passes line base r = when_passes (not (base == r)) (put line (Piece.Abc Op.Move r base 0)) (λ m. record { around = refl; behind = refl })

by_base_passes : (mentions : List Mention) (at_base : Part) → Passes mentions at_base → (r : ℕ) → Passes mentions (by_base 1 at_base r)
by_base_passes mentions at_base passes r m = passed_on (passes m) (moved_passes 1 m.free r (at_base m))

called_passes : (mentions : List Mention) (e : Expression) (at : Op → Want → Part) → is_name e ≡ false → literal e ≡ None → ((op : Op) (want : Want) → Passes mentions (at op want)) → PassesMentions mentions (coded_call 1 e at)
called_passes mentions e at unnamed none passes = record {
  to_reg = to;
  spine = next_by mentions (coded_call 1 e at) to;
  multi = λ is. passes;
  named = λ is. absurd cc;
  nameless = λ k is. absurd cc;
}
  where
    to : (r : ℕ) → Passes mentions (freeing (by_base 1 (at Op.Call (Some 1)) r))
    to r = freeing_passes _ (by_base_passes mentions (at Op.Call (Some 1)) (passes Op.Call (Some 1)) r)

-- ---- functions

further_pass : (uses : List Use) → Passes [] (further_words 1 uses)
further_pass [] m = passed_none
further_pass (one ∷ uses) m = passed_on (record { around = refl; behind = refl }) (further_pass uses (put 1 (further_word (where_is one m.active)) m))

pub sources_named : (m : Maker) (uses : List Use) → source_names m uses ≡ map (captured_name m.active m.upvalue_names) uses
sources_named m [] = refl
sources_named m (local_use declaration ∷ uses) = ap (λ names. name_of declaration m.active ∷ names) (sources_named m uses)
sources_named m (upvalue_use slot ∷ uses) = ap (λ names. get_or m.upvalue_names slot [] ∷ names) (sources_named m uses)
sources_named m (global_use ∷ uses) = ap (λ names. [] ∷ names) (sources_named m uses)

closure_passes : (body : FunctionBody) (method : Bool) (r : ℕ) → Passes (function_mention body method ∷ []) (closure 1 (inner body method) r)
closure_passes body method r m =
    let made = inner body method (source_names m (next_sources m)) (without_sources m.ahead) in
    let named = sources_named m (next_sources m) in
    passed_on (record {
      around = refl;
      behind =
          ap₂ (λ (names : List Text) (functions : ℕ). record { ahead = (inner body method names (without_sources m.ahead)).ahead; functions = functions }) named (length_end m.functions made.chunk);
    }) (further_pass (next_sources m) (put 1 (Piece.Abx Op.Closure r (length m.functions)) (with_function made m)))

-- ---- constructors

pub set_list_passes : (t n done : ℕ) → Passes [] (set_list 1 t n done)
set_list_passes t n done m =
    let block = (done - 1) / 50 + 1 in
    passed_on (cond_passes [] (nat_le block 511) (small_block 1 t n block) (large_block 1 t n block) (λ is m. record { around = refl; behind = refl }) (λ is m. record { around = refl; behind = refl }) m) (record { around = refl; behind = refl })

pub item_passes : (t : ℕ) (keys mentions : List Mention) (key : Asks ℕ) (c : Coded) → AskingPasses keys key → PassesMentions mentions c → Passes (keys ++ mentions) (freeing (keyed_item 1 t key c))
item_passes t keys mentions key c first second m = passed_on (passed_then keys mentions (first m) (rk_passes mentions c second (key m).after)) (record { around = refl; behind = refl })

abbrev ItemsPass : Fields → Type 0
ItemsPass no_fields = Unit {0}
ItemsPass (positional e separator rest) = PassesMentions (mentions_in e) (code e) × ItemsPass rest
ItemsPass (named text e separator rest) = PassesMentions (mentions_in e) (code e) × ItemsPass rest
ItemsPass (keyed key e separator rest) = PassesMentions (mentions_in key) (code key) × PassesMentions (mentions_in e) (code e) × ItemsPass rest

-- no names stand behind the last item
last_nameless : (fields : Fields) → is_last (entries (one_line_fields fields)) ≡ true → mentions_of_fields fields ≡ []
last_nameless no_fields is = refl
last_nameless (positional e separator rest) is = cc
last_nameless (named text e separator rest) is = cc
last_nameless (keyed key e separator rest) is = cc

items_pass_by : (fields : Fields) → ItemsPass fields → (t done pending : ℕ) → Passes (mentions_of_fields fields) (entries_from 1 t done pending (entries (one_line_fields fields)))
items_pass_by no_fields passes t done pending m = when_passes (nat_lt 0 pending) (set_list 1 t pending done) (set_list_passes t pending done) m
items_pass_by (positional e separator rest) passes t done pending m =
    let last = is_last (entries (one_line_fields rest)) in
    let c = code e in
    cond_passes (mentions_in e ++ mentions_of_fields rest) (last && is_multiple c.e) (open_entry 1 t done c) _
    (λ is m.
    let several = passes.0.multi (second_of_both last (is_multiple c.e) is) Op.Call None m in
    passed_then (mentions_in e) (mentions_of_fields rest) several (passed_as (last_nameless rest (first_of_both last (is_multiple c.e) is)) (set_list_passes t 0 (suc done) _)))
    (λ is m.
    let next = passed_on (next_passes (mentions_in e) c passes.0 m) (when_passes (suc pending == 50) (set_list 1 t 50 (suc done)) (set_list_passes t 50 (suc done)) (next_reg c m)) in
    passed_then (mentions_in e) (mentions_of_fields rest) next (items_pass_by rest passes.1 t (suc done) (pending_after (suc pending)) _))
    m
items_pass_by (named text e separator rest) passes t done pending m =
    passed_then (mentions_in e) (mentions_of_fields rest) (item_passes t [] (mentions_in e) (rk_text 1 text) (code e) (rk_text_passes 1 text) passes.0 m) (items_pass_by rest passes.1 t done pending _)
items_pass_by (keyed key e separator rest) passes t done pending m =
    passed_then (mentions_in key ++ mentions_in e) (mentions_of_fields rest) (item_passes t (mentions_in key) (mentions_in e) (rk (code key)) (code e) (rk_passes (mentions_in key) (code key) passes.0) passes.1 m) (items_pass_by rest passes.2 t done pending _)

table_passes : (fields : Fields) → ItemsPass fields → Passes (mentions_of_fields fields) (table_at 1 (entries (one_line_fields fields)))
table_passes items passes m =
    let entries = entries (one_line_fields items) in
    let n : Maker = take_registers 1 (put 1 (Piece.Abc Op.NewTable m.free (size_hint (positional_count entries)) (size_hint (other_count entries))) m) in
    let new : Passed [] m n = record { around = refl; behind = refl } in
    passed_on (passed_then [] (mentions_of_fields items) new (items_pass_by items passes m.free 0 0 n)) (record { around = refl; behind = refl })

-- ---- every expression that has a core

mutual
  pub mentions_passed : (e : Expression) → HasCore e → PassesMentions (mentions_in e) (code e)
  mentions_passed (nil_literal line) has = loaded_passes (code (nil_literal line)) (λ r m. record { around = refl; behind = refl }) refl refl refl
  mentions_passed (true_literal line) has = loaded_passes (code (true_literal line)) (λ r m. record { around = refl; behind = refl }) refl refl refl
  mentions_passed (false_literal line) has = loaded_passes (code (false_literal line)) (λ r m. record { around = refl; behind = refl }) refl refl refl
  mentions_passed (vararg_expression line) has = record {
    to_reg = λ r m. record { around = refl; behind = refl };
    spine = λ m. record { around = refl; behind = refl };
    multi = λ is op want m. passed_on (record { around = refl; behind = refl }) (results_pass m.free want _);
    named = λ is. cc;
    nameless = λ k is. refl;
  }
  mentions_passed (number_literal line n) has = loaded_passes (code (number_literal line n)) (λ r m. record { around = refl; behind = refl }) refl refl refl
  mentions_passed (text_literal line text) has = loaded_passes (code (text_literal line text)) (λ r m. record { around = refl; behind = refl }) refl refl refl
  mentions_passed (name_expression line text) has = record {
    to_reg = λ r. freeing_passes (name_value 1 text r) (name_passes 1 text r);
    spine = next_by (name_mention text ∷ []) (code (name_expression line text)) (λ r. freeing_passes (name_value 1 text r) (name_passes 1 text r));
    multi = λ is. cc;
    named = λ is. (text, refl);
    nameless = λ k is. cc;
  }
  mentions_passed (function_expression line body) has =
      value_passes _ (code (function_expression line body))
      (λ r. freeing_passes _ (subst (λ (body' : FunctionBody). Passes (function_mention body false ∷ []) (closure 1 (inner body' false) r)) (sym has.on_line) (closure_passes body false r))) refl refl refl (λ k is. cc)
  mentions_passed (index_expression line on key) has =
      let value = indexed_passes (mentions_in on) (mentions_in key) 1 (code on) (rk (code key)) (mentions_passed on has.0) (rk_passes (mentions_in key) (code key) (mentions_passed key has.1)) in
      value_passes _ (code (index_expression line on key)) (λ r. freeing_passes _ (value r)) refl refl refl (λ k is. cc)
  mentions_passed (field_expression line on text) has =
      let value = field_passes (mentions_in on) 1 (code on) text (mentions_passed on has) in
      value_passes _ (code (field_expression line on text)) (λ r. freeing_passes _ (value r)) refl refl refl (λ k is. cc)
  mentions_passed (call_expression line on args on_line) has =
      let call = call_passes (mentions_in on) (mentions_given args) (code on) (given (one_line_arguments args) 1) (mentions_passed on has.0) (given_passed args has.1) in
      called_passes _ (one_line_expression (call_expression line on args on_line)) (call_at 1 (code on) (given (one_line_arguments args) 1)) refl refl call
  mentions_passed (method_call line on name args on_line) has =
      let call = method_passes (mentions_in on) (mentions_given args) (code on) name (given (one_line_arguments args) 1) (mentions_passed on has.1) (given_passed args has.2) in
      called_passes _ (one_line_expression (method_call line on name args on_line)) (method_at 1 (code on) name (given (one_line_arguments args) 1)) refl refl call
  mentions_passed (binary_expression line op left right) has = binary_passes (mentions_in left) (mentions_in right) op (one_line_expression left) (one_line_expression right) has.0 (mentions_passed left has.1) (mentions_passed right has.2)
  mentions_passed (unary_expression line op e) has = unary_passes (mentions_in e) op (one_line_expression e) (mentions_passed e has)
  mentions_passed (constructor line fields) has =
      let value = by_base_passes (mentions_of_fields fields) (table_at 1 (entries (one_line_fields fields))) (table_passes fields (items_passed fields has)) in
      value_passes _ (code (constructor line fields)) (λ r. freeing_passes _ (value r)) refl refl refl (λ k is. cc)
  mentions_passed (parenthesized line e) has = parenthesized_passes (mentions_in e) (one_line_expression e) (mentions_passed e has)
  mentions_passed e has = absurd has

  given_passed : (args : Arguments) → HaveCores args → Passes (mentions_given args) (given (one_line_arguments args) 1).part
  given_passed (argument_list es) have = open_passes es (each_passed es have)
  given_passed (text_argument text) have = λ m. record { around = refl; behind = refl }
  given_passed (table_argument fields) have = table_passes fields (items_passed fields have)

  items_passed : (fields : Fields) → HaveItems fields → ItemsPass fields
  items_passed no_fields have = tt
  items_passed (positional e separator rest) have = (mentions_passed e have.0, items_passed rest have.1)
  items_passed (named text e separator rest) have = (mentions_passed e have.0, items_passed rest have.1)
  items_passed (keyed key e separator rest) have = (mentions_passed key have.0, mentions_passed e have.1, items_passed rest have.2)

  each_passed : (es : Expressions) → AllHaveCores es → EachPasses es
  each_passed no_expressions have = tt
  each_passed (syntax.expression e es) have = (mentions_passed e have.0, each_passed es have.1)
