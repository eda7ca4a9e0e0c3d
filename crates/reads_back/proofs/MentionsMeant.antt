-- Where words of an expression stand with their law, each name that it mentions means what the scope finds by it, and the names are passed one by one.
use Rattle.std.proofs.Common.{◌≡◌, ℕ, suc, inl, inr, Bool, true, false, cond, List, [], ◌∷◌, ◌++◌, length, Option, Some, None, refl, sym, ap, ap₂, ◌∙◌, subst}
use Rattle.std.specs.Prelude.{◌==◌, ◌&&◌, ◌+◌, ◌-◌, ◌/◌, nat_le, nat_lt, ℤ}
use Rattle.lua_num.specs.Bytes.{Text}
use Rattle.lua_tree.specs.Syntax as syntax
use Rattle.lua_tree.specs.Syntax.{Expressions, no_expressions, Arguments, argument_list, text_argument, table_argument, Expression, nil_literal, true_literal, false_literal, vararg_expression, number_literal, text_literal, name_expression, index_expression, field_expression, call_expression, method_call, binary_expression, unary_expression, parenthesized, constructor, Fields, no_fields, positional, named, keyed, FunctionBody, function_expression, function_body}
use Rattle.lua_tree.specs.declared.tree.BinaryOp.{BinaryOp}
use Rattle.lua_tree.specs.declared.tree.UnaryOp.{UnaryOp}
use Rattle.opcode.specs.declared.op.Op.{Op}
use Rattle.proto.specs.declared.parts.Constant.{Constant}
use Rattle.scheme.specs.Expressions.{Want, arith_op, fold, is_comparison, literal, number_or, plain_literal, register_of}
use Rattle.scheme.specs.Lists.{pending_after}
use Rattle.scheme.specs.Making.{Ahead, Where, in_globals, in_register, in_upvalue, head_or}
use Rattle.scheme.specs.declared.making.Active.{Active}
use Rattle.scheme.specs.declared.making.Piece.{Piece}
use Rattle.scheme_stands.proofs.Forms.{form_is}
use Rattle.scheme_stands.specs.Expressions.{ArithmeticAt, BinaryAt, BinarySpine, ConcatAt, Form, IndexAt, LoadOr, NameBy, OperandAt, OperandBy, Rel, RkAt, RkBy, RkTextAt, SpineAt, TwoAt, UnaryAt, form_of, in_next, several}
use Rattle.scheme_stands.specs.Lists.{AdjustAt, AdjustBy, AllMultiAt, AllNextAt, CallAt, FilledAt, FirstAt, GivenRel, ItemBy, KeyedAt, MethodAt, MovedFrom, OpenBy, OpenListAt, SetListAt, SetListBy, SetListIf, TableAt, is_last_item, rel_call, rels_open}
use Rattle.scheme_stands.specs.Relation.{ItemsAt, all_related, given_rel, related, FunctionOf}
use Rattle.scheme_stands.specs.Words as words
use Rattle.scheme_stands.specs.Words.{Fn, Same, Spot, Stretch, WordAt, meaning}
use Rattle.reads_back.specs.Cores.{AllHaveCores, HasCore, HaveCores, HaveItems}
use Rattle.reads_back.proofs.Rooms.{folded_both, folded_one}
use Rattle.reads_back.specs.Coming.{coming_at, IsMadeNext}
use Rattle.reads_back.proofs.Mentions.{AreMeant, Mention, behind_both, both_meant, coming_behind, mentions_given, mentions_in, mentions_in_all, mentions_of_fields, name_mention, function_mention}
use Rattle.lua_tree.specs.Scoping.{Use}
use Rattle.proto.specs.Chunk.{own}
use Rattle.scheme.specs.Functions.{Finished, without_sources}
use Rattle.scheme.specs.Scheme.{inner}
use Rattle.scheme_stands.specs.Functions.{ClosureAt, FurtherAt}

-- ---- what a stretch of words means and passes

-- the mentions come next before it, and are passed behind it; nothing else is
pub record IsMeant (g : Fn) (active : List Active) (mentions : List Mention) (p q : Spot) : Type 0 where
  pub meant : AreMeant g active mentions (coming_at p)
  pub behind : coming_at q ≡ coming_behind active g.upvalue_names mentions (coming_at p)

abbrev pub Meant : Fn → List Active → List Mention → Stretch → Type 0
Meant g active mentions part = (p q : Spot) → part p q → IsMeant g active mentions p q

-- words that mention nothing
abbrev pub Keeps : (p q : Spot) → Type 0
Keeps p q = coming_at q ≡ coming_at p

keep_both : (p q : Spot) → q.ahead ≡ p.ahead → q.functions ≡ p.functions → Keeps p q
keep_both p q ahead functions = ap₂ (λ (ahead : Ahead) (functions : ℕ). record { ahead = ahead; functions = functions }) ahead functions

pub word_keeps : {g : Fn} {w : Piece} {p q : Spot} → WordAt g w p q → Keeps p q
word_keeps {p = p} {q} at = keep_both p q at.ahead at.functions

pub same_keeps : {p q : Spot} → Same p q → Keeps p q
same_keeps {p} {q} same = keep_both p q same.ahead same.functions

-- a name is passed
pub name_is_passed : (active : List Active) (names : List Text) {p q : Spot} (text : Text) → words.Passed p q → coming_at q ≡ coming_behind active names (name_mention text ∷ []) (coming_at p)
name_is_passed active names text passed = ap₂ (λ (ahead : Ahead) (functions : ℕ). record { ahead = ahead; functions = functions }) passed.ahead passed.functions

module _ {g : Fn} {active : List Active} where
  pub meant_none : {p q : Spot} → Keeps p q → IsMeant g active [] p q
  meant_none same = record { meant = tt; behind = same }

  pub meant_then : {p m q : Spot} (mentions others : List Mention) → IsMeant g active mentions p m → IsMeant g active others m q → IsMeant g active (mentions ++ others) p q
  meant_then {p} {m} {q} mentions others first second = record {
    meant = both_meant g active mentions others (coming_at p) first.meant (subst (AreMeant g active others) first.behind second.meant);
    behind = second.behind ∙ ap (coming_behind active g.upvalue_names others) first.behind ∙ sym (behind_both active g.upvalue_names mentions others (coming_at p));
  }

  -- words that mention nothing, behind these or before them
  pub meant_on : {p m q : Spot} {mentions : List Mention} → IsMeant g active mentions p m → Keeps m q → IsMeant g active mentions p q
  meant_on first same = record { meant = first.meant; behind = same ∙ first.behind }

  pub meant_from : {p m q : Spot} {mentions : List Mention} → Keeps p m → IsMeant g active mentions m q → IsMeant g active mentions p q
  meant_from {p} {m} {q} {mentions} same second = record {
    meant = subst (AreMeant g active mentions) same second.meant;
    behind = second.behind ∙ ap (coming_behind active g.upvalue_names mentions) same;
  }

  -- the same mentions
  pub meant_as : {p q : Spot} {mentions others : List Mention} → mentions ≡ others → IsMeant g active others p q → IsMeant g active mentions p q
  meant_as {p} {q} are meant = subst (λ (mentions : List Mention). IsMeant g active mentions p q) (sym are) meant

-- ---- literals name nothing

both_none : (mentions others : List Mention) → mentions ≡ [] → others ≡ [] → mentions ++ others ≡ []
both_none mentions others first second = ap₂ (λ (mentions others : List Mention). mentions ++ others) first second

-- only numbers are folded
pub folded_nameless : (e : Expression) (n : ℤ) → fold e ≡ Some n → mentions_in e ≡ []
folded_nameless (number_literal line x) n is = refl
folded_nameless (parenthesized line e) n is = folded_nameless e n is
folded_nameless (unary_expression line op e) n is = let inside = folded_one op (fold e) n is in folded_nameless e inside.0 inside.1
folded_nameless (binary_expression line op left right) n is =
    let sides = folded_both (arith_op op) (fold left) (fold right) n is in
    both_none (mentions_in left) (mentions_in right) (folded_nameless left sides.0.0 sides.0.1) (folded_nameless right sides.1.0 sides.1.1)
folded_nameless e n is = cc

plain_nameless : (e : Expression) (k : Constant) → plain_literal e ≡ Some k → mentions_in e ≡ []
plain_nameless (nil_literal line) k is = refl
plain_nameless (true_literal line) k is = refl
plain_nameless (false_literal line) k is = refl
plain_nameless (text_literal line text) k is = refl
plain_nameless e k is = cc

literal_nameless_by : (folded : Option ℤ) (e : Expression) (k : Constant) → fold e ≡ folded → number_or folded (plain_literal e) ≡ Some k → mentions_in e ≡ []
literal_nameless_by (Some n) e k folded is = folded_nameless e n folded
literal_nameless_by None e k folded is = plain_nameless e k is

pub literal_nameless : (e : Expression) (k : Constant) → literal e ≡ Some k → mentions_in e ≡ []
literal_nameless e k is = literal_nameless_by (fold e) e k refl is

-- ---- the uses of an expression

-- each use of an expression that mentions these names
pub record MeansMentions (g : Fn) (active : List Active) (mentions : List Mention) (c : Rel) : Type 0 where
  pub to_reg : (free r : ℕ) → Meant g active mentions (c.to_reg active free r)
  pub spine : (free free1 : ℕ) → Meant g active mentions (c.spine active free free1)
  -- several values are asked only of what can give them
  pub multi : several c.form ≡ true → (free : ℕ) (op : Op) (want : Want) → Meant g active mentions (c.multi active free op want)
  -- only a name is an operand as it is, and a literal mentions none
  pub bare : c.form.name ≡ true → Meant g active mentions (c.bare active)
  pub nameless : (k : Constant) → c.form.literal ≡ Some k → mentions ≡ []

abbrev EachMeant : Fn → List Active → Expressions → Type 0
EachMeant g active no_expressions = Unit {0}
EachMeant g active (syntax.expression e es) = MeansMentions g active (mentions_in e) (related g e) × EachMeant g active es

abbrev ItemsMeant : Fn → List Active → Fields → Type 0
ItemsMeant g active no_fields = Unit {0}
ItemsMeant g active (positional e separator rest) = MeansMentions g active (mentions_in e) (related g e) × ItemsMeant g active rest
ItemsMeant g active (named text e separator rest) = MeansMentions g active (mentions_in e) (related g e) × ItemsMeant g active rest
ItemsMeant g active (keyed key e separator rest) = MeansMentions g active (mentions_in key) (related g key) × MeansMentions g active (mentions_in e) (related g e) × ItemsMeant g active rest

-- what goes into a table that is made passes none
set_list_by_passes : (g : Fn) (small : Bool) (t n block : ℕ) (p q : Spot) → SetListBy small g t n block p q → Keeps p q
set_list_by_passes g true t n block p q at = word_keeps at
set_list_by_passes g false t n block p q at = word_keeps at.second_at ∙ word_keeps at.first_at

set_list_passes : (g : Fn) (t n done : ℕ) (p q : Spot) → SetListAt g t n done p q → Keeps p q
set_list_passes g t n done p q at = let block = (done - 1) / 50 + 1 in set_list_by_passes g (nat_le block 511) t n block p q at

set_list_if_passes : (g : Fn) (are : Bool) (t n done : ℕ) (p q : Spot) → SetListIf are g t n done p q → Keeps p q
set_list_if_passes g true t n done p q at = set_list_passes g t n done p q at
set_list_if_passes g false t n done p q at = same_keeps at

-- no names stand behind the last item
last_nameless : (fields : Fields) → is_last_item fields ≡ true → mentions_of_fields fields ≡ []
last_nameless no_fields is = refl
last_nameless items is = cc

-- what reads a name, or stores to it, passes none
name_by : (g : Fn) (text : Text) (w : Where) (r : ℕ) (p q : Spot) → NameBy g text w r p q → Keeps p q
name_by g text (in_register x) r p q at = word_keeps at
name_by g text (in_upvalue slot) r p q at = word_keeps at
name_by g text in_globals r p q at = word_keeps at.word

further_keep : (g : Fn) (active : List Active) (uses : List Use) (p q : Spot) → FurtherAt g active uses p q → Keeps p q
further_keep g active [] p q at = same_keeps at
further_keep g active (one ∷ uses) p q at = further_keep g active uses at.mid q at.second_at ∙ keep_both p at.mid at.first_at.ahead at.first_at.functions

module _ {g : Fn} {active : List Active} where
  -- ---- functions

  function_meant_as : (body : FunctionBody) (method : Bool) (free r : ℕ) (p q : Spot) (at : ClosureAt g (FunctionOf body method) active free r p q) → IsMadeNext g active body method (coming_at p) →
      inner body method (own at.chunk).upvalue_names (without_sources p.ahead) ≡ record { chunk = at.chunk; ahead = at.mid.ahead; misfits = [] } → IsMeant g active (function_mention body method ∷ []) p q
  function_meant_as body method free r p q at next made = record {
    meant = (next, tt);
    behind =
        further_keep g active (head_or [] p.ahead.sources) at.mid q at.further
        ∙ ap₂ (λ (ahead : Ahead) (functions : ℕ). record { ahead = ahead; functions = functions }) (ap (λ (made : Finished). made.ahead) (sym made)) (at.one_more ∙ ap suc at.word.functions)
        ∙ ap (λ (names : List Text). record { ahead = (inner body method names (without_sources p.ahead)).ahead; functions = suc p.functions }) at.named;
  }

  pub function_meant : (body : FunctionBody) (method : Bool) (free r : ℕ) → Meant g active (function_mention body method ∷ []) (ClosureAt g (FunctionOf body method) active free r)
  function_meant (function_body params vararg block first last) method free r p q at =
      function_meant_as (function_body params vararg block first last) method free r p q at
      (record { chunk = at.chunk; is = at.is; names = at.names; captured = at.captured; named = at.named; behind = at.mid.ahead; made_at = at.made_at }) at.made_at.is

  -- ---- operands

  operand_by : (mentions : List Mention) (c : Rel) → MeansMentions g active mentions c → (named : Bool) (local : Option ℕ) → c.form.name ≡ named → (free x free1 : ℕ) → Meant g active mentions (OperandBy (cond named local None) g active c free x free1)
  operand_by mentions c means true (Some r) is free x free1 p q at = means.bare is p q at.passed
  operand_by mentions c means true None is free x free1 p q at = means.to_reg free free p q at.value_at
  operand_by mentions c means false local is free x free1 p q at = means.to_reg free free p q at.value_at

  pub operand_meant : (mentions : List Mention) (c : Rel) → MeansMentions g active mentions c → (free x free1 : ℕ) → Meant g active mentions (OperandAt g active c free x free1)
  operand_meant mentions c means free x free1 p q at = operand_by mentions c means c.form.name (register_of (meaning active p)) refl free x free1 p q at

  rk_by : (mentions : List Mention) (c : Rel) → MeansMentions g active mentions c → (k : Option Constant) → c.form.literal ≡ k → (free x free1 : ℕ) → Meant g active mentions (RkBy k g active c free x free1)
  rk_by mentions c means (Some k) is free x free1 p q (inl at) = meant_as (means.nameless k is) (meant_none (same_keeps at.same))
  rk_by mentions c means (Some k) is free x free1 p q (inr (large, at)) = operand_meant mentions c means free x free1 p q at
  rk_by mentions c means None is free x free1 p q at = operand_meant mentions c means free x free1 p q at

  pub rk_meant : (mentions : List Mention) (c : Rel) → MeansMentions g active mentions c → (free x free1 : ℕ) → Meant g active mentions (RkAt g active c free x free1)
  rk_meant mentions c means = rk_by mentions c means c.form.literal refl

  -- the name of a field is none of these names
  pub text_meant : (text : Text) (free x free1 : ℕ) → Meant g active [] (RkTextAt g text free x free1)
  text_meant text free x free1 p q (inl at) = meant_none (same_keeps at.same)
  text_meant text free x free1 p q (inr (large, at)) = meant_none (word_keeps at.value_at.word)

  -- two parts, and words behind them that pass no name
  two_meant : (mentions others : List Mention) (left right : (free x free1 : ℕ) → Stretch) (words : (x y : ℕ) → Stretch) → ((free x free1 : ℕ) → Meant g active mentions (left free x free1)) → ((free x free1 : ℕ) → Meant g active others (right free x free1)) →
      ((x y : ℕ) (p q : Spot) → words x y p q → Keeps p q) → (free : ℕ) → Meant g active (mentions ++ others) (TwoAt left right free words)
  two_meant mentions others left right words first second same free p q at =
      meant_on (meant_then mentions others (first free at.x at.free1 p at.mid at.left_at) (second at.free1 at.y at.free2 at.mid at.last at.right_at)) (same at.x at.y at.last q at.words_at)

  -- ---- expressions from their parts

  -- what is no name, and gives one value: its value goes to the next register
  value_meant : (mentions : List Mention) (c : Rel) → ((free r : ℕ) → Meant g active mentions (c.to_reg active free r)) → ((free free1 : ℕ) (p q : Spot) → c.spine active free free1 p q → in_next g c.to_reg active free free1 p q) →
      several c.form ≡ false → c.form.name ≡ false → ((k : Constant) → c.form.literal ≡ Some k → mentions ≡ []) → MeansMentions g active mentions c
  value_meant mentions c means spine single unnamed nameless = record {
    to_reg = means;
    spine = λ free free1 p q at. means free free p q (spine free free1 p q at).value_at;
    multi = λ is. absurd cc;
    bare = λ is. absurd cc;
    nameless = nameless;
  }

  -- what is loaded has no names
  loaded_meant : (c : Rel) → ((free r : ℕ) (p q : Spot) → c.to_reg active free r p q → Keeps p q) → ((free free1 : ℕ) (p q : Spot) → c.spine active free free1 p q → in_next g c.to_reg active free free1 p q) →
      several c.form ≡ false → c.form.name ≡ false → MeansMentions g active [] c
  loaded_meant c same spine single unnamed = value_meant [] c (λ free r p q at. meant_none (same free r p q at)) spine single unnamed (λ k is. refl)

  name_meant : (line : ℕ) (text : Text) → MeansMentions g active (name_mention text ∷ []) (related g (name_expression line text))
  name_meant line text = record {
    to_reg = λ free r. to r;
    spine = λ free free1 p q at. to free p q at.value_at;
    multi = λ is. absurd cc;
    bare = λ is p q at. record { meant = (at.means, tt); behind = name_is_passed active g.upvalue_names text at.passed };
    nameless = λ k is. absurd cc;
  }
    where
      to : (r : ℕ) → Meant g active (name_mention text ∷ []) ((related g (name_expression line text)).to_reg active 0 r)
      to r p q at = record { meant = (at.0, tt); behind = name_by g text (meaning active p) r at.1.mid q at.1.second_at ∙ name_is_passed active g.upvalue_names text at.1.first_at }

  indexed_meant : (mentions keys : List Mention) (on : Rel) (key : List Active → (free x free1 : ℕ) → Stretch) → MeansMentions g active mentions on → ((free x free1 : ℕ) → Meant g active keys (key active free x free1)) →
      (free r : ℕ) → Meant g active (mentions ++ keys) (IndexAt g on key active free r)
  indexed_meant mentions keys on key means then_key free r = two_meant mentions keys (OperandAt g active on) (key active) _ (operand_meant mentions on means) then_key (λ x y p q at. word_keeps at) free

  -- the name of a field is passed over
  field_meant : (mentions : List Mention) (on : Rel) (text : Text) → MeansMentions g active mentions on → (free r : ℕ) → Meant g active mentions (IndexAt g on (λ active. RkTextAt g text) active free r)
  field_meant mentions on text means free r p q at =
      let first = operand_meant mentions on means free at.x at.free1 p at.mid at.left_at in
      let key = text_meant text at.free1 at.y at.free2 at.mid at.last at.right_at in
      meant_on first (word_keeps at.words_at ∙ key.behind)

  load_or_meant : (mentions : List Mention) (folded : Option ℤ) (to : List Active → (free r : ℕ) → Stretch) → ((n : ℤ) → folded ≡ Some n → mentions ≡ []) → ((free r : ℕ) → Meant g active mentions (to active free r)) →
      (free r : ℕ) → Meant g active mentions (LoadOr folded g to active free r)
  load_or_meant mentions (Some n) to nameless means free r p q at = meant_as (nameless n refl) (meant_none (word_keeps at.word))
  load_or_meant mentions None to nameless means free r p q at = means free r p q at

  arithmetic_meant : (mentions others : List Mention) (op : Op) (left right : Rel) → MeansMentions g active mentions left → MeansMentions g active others right → (free r : ℕ) → Meant g active (mentions ++ others) (ArithmeticAt g op left right active free r)
  arithmetic_meant mentions others op left right first second free r = two_meant mentions others (RkAt g active left) (RkAt g active right) _ (rk_meant mentions left first) (rk_meant others right second) (λ x y p q at. word_keeps at) free

  operands_meant : (mentions others : List Mention) (left right : Rel) → MeansMentions g active mentions left → MeansMentions g active others right → (free free1 : ℕ) → Meant g active (mentions ++ others) (SpineAt g left right active free free1)
  operands_meant mentions others left right first second free free1 p q at = meant_then mentions others (first.to_reg free free p at.mid at.first) (second.spine (free + 1) free1 at.mid q at.rest)

  concat_meant : (mentions others : List Mention) (left right : Rel) → MeansMentions g active mentions left → MeansMentions g active others right → (free r : ℕ) → Meant g active (mentions ++ others) (ConcatAt g left right active free r)
  concat_meant mentions others left right first second free r p q at = meant_on (operands_meant mentions others left right first second free at.free1 p at.last at.operands) (word_keeps at.word)

  binary_value_meant : (mentions others : List Mention) (op : BinaryOp) (left right : Rel) → is_comparison op ≡ false → MeansMentions g active mentions left → MeansMentions g active others right →
      (free r : ℕ) → Meant g active (mentions ++ others) (BinaryAt g op left right active free r)
  binary_value_meant mentions others BinaryOp.Add left right plain first second = arithmetic_meant mentions others Op.Add left right first second
  binary_value_meant mentions others BinaryOp.Sub left right plain first second = arithmetic_meant mentions others Op.Sub left right first second
  binary_value_meant mentions others BinaryOp.Mul left right plain first second = arithmetic_meant mentions others Op.Mul left right first second
  binary_value_meant mentions others BinaryOp.Div left right plain first second = arithmetic_meant mentions others Op.Div left right first second
  binary_value_meant mentions others BinaryOp.Rem left right plain first second = arithmetic_meant mentions others Op.Mod left right first second
  binary_value_meant mentions others BinaryOp.Pow left right plain first second = arithmetic_meant mentions others Op.Pow left right first second
  binary_value_meant mentions others BinaryOp.Concat left right plain first second = concat_meant mentions others left right first second
  binary_value_meant mentions others op left right plain first second = absurd cc

  binary_spine_meant : (mentions others : List Mention) (op : BinaryOp) (left right value : Rel) → MeansMentions g active mentions left → MeansMentions g active others right → ((free free1 : ℕ) → Meant g active (mentions ++ others) (value.spine active free free1)) →
      (free free1 : ℕ) → Meant g active (mentions ++ others) (BinarySpine g op left right value active free free1)
  binary_spine_meant mentions others BinaryOp.Concat left right value first second means = operands_meant mentions others left right first second
  binary_spine_meant mentions others op left right value first second means = means

  binary_meant : (line : ℕ) (op : BinaryOp) (l r : Expression) → is_comparison op ≡ false → MeansMentions g active (mentions_in l) (related g l) → MeansMentions g active (mentions_in r) (related g r) →
      MeansMentions g active (mentions_in l ++ mentions_in r) (related g (binary_expression line op l r))
  binary_meant line op l r plain first second = record {
    to_reg = to;
    spine = binary_spine_meant (mentions_in l) (mentions_in r) op (related g l) (related g r) _ first second (λ free free1 p q at. to free free p q at.value_at);
    multi = λ is. absurd cc;
    bare = λ is. absurd cc;
    nameless = literal_nameless (binary_expression line op l r);
  }
    where
      to : (free r1 : ℕ) → Meant g active (mentions_in l ++ mentions_in r) ((related g (binary_expression line op l r)).to_reg active free r1)
      to = load_or_meant _ (fold (binary_expression line op l r)) (BinaryAt g op (related g l) (related g r)) (folded_nameless (binary_expression line op l r))
          (binary_value_meant (mentions_in l) (mentions_in r) op (related g l) (related g r) plain first second)

  unary_meant : (line : ℕ) (op : UnaryOp) (e : Expression) → MeansMentions g active (mentions_in e) (related g e) → MeansMentions g active (mentions_in e) (related g (unary_expression line op e))
  unary_meant line op e means = value_meant (mentions_in e) (related g (unary_expression line op e)) to (λ free free1 p q at. at) refl refl (literal_nameless (unary_expression line op e))
    where
      value : (free r : ℕ) → Meant g active (mentions_in e) (UnaryAt g op (related g e) active free r)
      value free r p q at = meant_on (operand_meant (mentions_in e) (related g e) means free at.x at.free1 p at.mid at.operand_at) (word_keeps at.words_at)

      to : (free r : ℕ) → Meant g active (mentions_in e) ((related g (unary_expression line op e)).to_reg active free r)
      to = load_or_meant (mentions_in e) (fold (unary_expression line op e)) (UnaryAt g op (related g e)) (folded_nameless (unary_expression line op e)) value

  -- a name in parentheses is a name; of several values there is one
  parenthesized_meant : (line : ℕ) (e : Expression) → MeansMentions g active (mentions_in e) (related g e) → MeansMentions g active (mentions_in e) (related g (parenthesized line e))
  parenthesized_meant line e means = record {
    to_reg = means.to_reg;
    spine = λ free free1 p q at. means.to_reg free free p q at.value_at;
    multi = λ is. absurd cc;
    bare = λ is. means.bare (ap (λ (form : Form). form.name) (form_is g e) ∙ is);
    nameless = literal_nameless (parenthesized line e);
  }

  -- ---- lists and calls

  next_meant : (mentions others : List Mention) (c : Rel) (free : ℕ) (rest : Stretch) → MeansMentions g active mentions c → Meant g active others rest → Meant g active (mentions ++ others) (FirstAt g c active free rest)
  next_meant mentions others c free rest first second p q at = meant_then mentions others (first.to_reg free free p at.mid at.first) (second at.mid q at.others)

  next_each_meant : (es : Expressions) → EachMeant g active es → (free : ℕ) → Meant g active (mentions_in_all es) (AllNextAt g (all_related g es) active free)
  next_each_meant no_expressions each free p q at = meant_none (same_keeps at)
  next_each_meant (syntax.expression e es) each free p q at = next_meant (mentions_in e) (mentions_in_all es) (related g e) free _ each.0 (next_each_meant es each.1 (free + 1)) p q at

  -- the last one gives several values
  multi_each_meant : (op : Op) (want : Want) (es : Expressions) → EachMeant g active es → rels_open (all_related g es) ≡ true → (free : ℕ) → Meant g active (mentions_in_all es) (AllMultiAt g op want (all_related g es) active free)
  multi_each_meant op want no_expressions each is free p q at = meant_none (same_keeps at)
  multi_each_meant op want (syntax.expression e no_expressions) each is free p q at = meant_then (mentions_in e) [] (each.0.multi is free op want p q at) (meant_none refl)
  multi_each_meant op want (syntax.expression e (syntax.expression d es)) each is free p q at =
      next_meant (mentions_in e) (mentions_in_all (syntax.expression d es)) (related g e) free _ each.0 (multi_each_meant op want (syntax.expression d es) each.1 is (free + 1)) p q at

  open_by_meant : (several : Bool) (es : Expressions) → EachMeant g active es → rels_open (all_related g es) ≡ several → (free : ℕ) → Meant g active (mentions_in_all es) (OpenBy several g (all_related g es) active free)
  open_by_meant true es each is = multi_each_meant Op.Call None es each is
  open_by_meant false es each is = next_each_meant es each

  pub open_meant : (es : Expressions) → EachMeant g active es → (free : ℕ) → Meant g active (mentions_in_all es) (OpenListAt g (all_related g es) active free)
  open_meant es each = open_by_meant (rels_open (all_related g es)) es each refl

  filled_meant : (several : Bool) (es : Expressions) (missing : ℕ) → EachMeant g active es → rels_open (all_related g es) ≡ several → (free : ℕ) → Meant g active (mentions_in_all es) (FilledAt several g (all_related g es) missing active free)
  filled_meant true es missing each is free p q at = multi_each_meant Op.Call (Some (missing + 1)) es each is free p q at
  filled_meant false es missing each is free p q at = meant_on (next_each_meant es each free p at.mid at.first_at) (word_keeps at.second_at.word)

  adjust_by_meant : (fewer : Bool) (es : Expressions) (n : ℕ) → EachMeant g active es → (free : ℕ) → Meant g active (mentions_in_all es) (AdjustBy fewer g (all_related g es) n active free)
  adjust_by_meant true es n each = filled_meant (rels_open (all_related g es)) es (n - length (all_related g es)) each refl
  adjust_by_meant false es n each = next_each_meant es each

  pub adjust_meant : (es : Expressions) (n : ℕ) → EachMeant g active es → (free : ℕ) → Meant g active (mentions_in_all es) (AdjustAt g (all_related g es) n active free)
  adjust_meant es n = adjust_by_meant (nat_lt (length (all_related g es)) n) es n

  call_meant : (mentions others : List Mention) (on : Rel) (given : GivenRel) → MeansMentions g active mentions on → ((free : ℕ) → Meant g active others (given.part active free)) → (free : ℕ) (op : Op) (want : Want) →
      Meant g active (mentions ++ others) (CallAt g on given active free op want)
  call_meant mentions others on given first second free op want p q at = meant_on (meant_then mentions others (first.to_reg free free p at.mid at.on_at) (second (free + 1) at.mid at.last at.given_at)) (word_keeps at.word)

  method_meant : (mentions others : List Mention) (on : Rel) (text : Text) (given : GivenRel) → MeansMentions g active mentions on → ((free : ℕ) → Meant g active others (given.part active free)) → (free : ℕ) (op : Op) (want : Want) →
      Meant g active (mentions ++ others) (MethodAt g on text given active free op want)
  method_meant mentions others on text given first second free op want p q at =
      let key = text_meant text (free + 2) at.y at.free2 at.mid at.named at.name_at in
      let self : IsMeant g active mentions p at.begun = meant_on (operand_meant mentions on first free at.x at.free1 p at.mid at.on_at) (word_keeps at.self_at ∙ key.behind) in
      meant_on (meant_then mentions others self (second (free + 2) at.begun at.last at.given_at)) (word_keeps at.word)

  moved_meant : (mentions : List Mention) (part : Stretch) (free r : ℕ) → Meant g active mentions part → Meant g active mentions (MovedFrom g part free r)
  moved_meant mentions part free r means p q (inl at) = means p q at.1
  moved_meant mentions part free r means p q (inr at) = meant_on (means p at.1.mid at.1.first_at) (word_keeps at.1.second_at)

  called_meant : (mentions : List Mention) (form : Form) (part : List Active → (free : ℕ) → Op → Want → Stretch) → form.name ≡ false → form.literal ≡ None → ((free : ℕ) (op : Op) (want : Want) → Meant g active mentions (part active free op want)) →
      MeansMentions g active mentions (rel_call g form part)
  called_meant mentions form part unnamed none means = record {
    to_reg = to;
    spine = λ free free1 p q at. to free free p q at.value_at;
    multi = λ is. means;
    bare = λ is. absurd cc;
    nameless = λ k is. absurd cc;
  }
    where
      to : (free r : ℕ) → Meant g active mentions ((rel_call g form part).to_reg active free r)
      to free r = moved_meant mentions (part active free Op.Call (Some 1)) free r (means free Op.Call (Some 1))

  -- ---- constructors

  keyed_meant : (mentions others : List Mention) (key : (free x free1 : ℕ) → Stretch) (c : Rel) → ((free x free1 : ℕ) → Meant g active mentions (key free x free1)) → MeansMentions g active others c → (t pending : ℕ) →
      Meant g active (mentions ++ others) (KeyedAt g key c active t pending)
  keyed_meant mentions others key c first second t pending = two_meant mentions others key (RkAt g active c) _ first (rk_meant others c second) (λ x y p q at. word_keeps at) (t + suc pending)

  first_item : (e : Expression) (rest : Fields) → MeansMentions g active (mentions_in e) (related g e) → (t done pending : ℕ) (others : Stretch) → Meant g active (mentions_of_fields rest) others →
      Meant g active (mentions_in e ++ mentions_of_fields rest) (ItemBy false g (related g e) active t done pending others)
  first_item e rest means t done pending others second =
      next_meant (mentions_in e) (mentions_of_fields rest) (related g e) (t + suc pending) _ means (λ p q at. meant_from (set_list_if_passes g (suc pending == 50) t 50 (suc done) p at.mid at.first_at) (second at.mid q at.second_at))

  item_by_meant : (last several_values : Bool) (e : Expression) (rest : Fields) → MeansMentions g active (mentions_in e) (related g e) → is_last_item rest ≡ last → several (form_of e) ≡ several_values →
      (t done pending : ℕ) (others : Stretch) → Meant g active (mentions_of_fields rest) others → Meant g active (mentions_in e ++ mentions_of_fields rest) (ItemBy (last && several_values) g (related g e) active t done pending others)
  item_by_meant true true e rest means last is t done pending others second p q at =
      let several_are = ap several (form_is g e) ∙ is in
      let first : IsMeant g active (mentions_in e) p q = meant_on (means.multi several_are (t + suc pending) Op.Call None p at.mid at.first_at) (set_list_passes g t 0 (suc done) at.mid q at.second_at) in
      meant_then (mentions_in e) (mentions_of_fields rest) first (meant_as (last_nameless rest last) (meant_none refl))
  item_by_meant true false e rest means last is t done pending others second p q at = first_item e rest means t done pending others second p q at
  item_by_meant false several_values e rest means last is t done pending others second p q at = first_item e rest means t done pending others second p q at

  items_meant : (fields : Fields) → ItemsMeant g active fields → (t done pending : ℕ) → Meant g active (mentions_of_fields fields) (ItemsAt g fields active t done pending)
  items_meant no_fields means t done pending p q at = meant_none (set_list_if_passes g (nat_lt 0 pending) t pending done p q at)
  items_meant (positional e separator rest) means t done pending p q at =
      item_by_meant (is_last_item rest) (several (form_of e)) e rest means.0 refl refl t done pending _ (items_meant rest means.1 t (suc done) (pending_after (suc pending))) p q at
  items_meant (named text e separator rest) means t done pending p q at =
      meant_then (mentions_in e) (mentions_of_fields rest) (keyed_meant [] (mentions_in e) (RkTextAt g text) (related g e) (text_meant text) means.0 t pending p at.mid at.first_at) (items_meant rest means.1 t done pending at.mid q at.second_at)
  items_meant (keyed key e separator rest) means t done pending p q at =
      meant_then (mentions_in key ++ mentions_in e) (mentions_of_fields rest) (keyed_meant (mentions_in key) (mentions_in e) (RkAt g active (related g key)) (related g e) (rk_meant (mentions_in key) (related g key) means.0) means.1 t pending p at.mid at.first_at)
      (items_meant rest means.2 t done pending at.mid q at.second_at)

  table_meant : (fields : Fields) → ItemsMeant g active fields → (free : ℕ) → Meant g active (mentions_of_fields fields) (TableAt g (λ t. ItemsAt g fields active t 0 0) free)
  table_meant fields means free p q at = meant_from (word_keeps at.word) (items_meant fields means free 0 0 at.mid q at.items_at)

-- ---- every expression that has a core

mutual
  pub mentions_meant : (g : Fn) (active : List Active) (e : Expression) → HasCore e → MeansMentions g active (mentions_in e) (related g e)
  mentions_meant g active (nil_literal line) has = loaded_meant (related g (nil_literal line)) (λ free r p q at. word_keeps at) (λ free free1 p q at. at) refl refl
  mentions_meant g active (true_literal line) has = loaded_meant (related g (true_literal line)) (λ free r p q at. word_keeps at) (λ free free1 p q at. at) refl refl
  mentions_meant g active (false_literal line) has = loaded_meant (related g (false_literal line)) (λ free r p q at. word_keeps at) (λ free free1 p q at. at) refl refl
  mentions_meant g active (vararg_expression line) has = record {
    to_reg = λ free r p q at. meant_none (word_keeps at);
    spine = λ free free1 p q at. meant_none (word_keeps at.value_at);
    multi = λ is free op want p q at. meant_none (word_keeps at.word);
    bare = λ is. absurd cc;
    nameless = λ k is. refl;
  }
  mentions_meant g active (number_literal line n) has = loaded_meant (related g (number_literal line n)) (λ free r p q at. word_keeps at.word) (λ free free1 p q at. at) refl refl
  mentions_meant g active (text_literal line text) has = loaded_meant (related g (text_literal line text)) (λ free r p q at. word_keeps at.word) (λ free free1 p q at. at) refl refl
  mentions_meant g active (name_expression line text) has = name_meant line text
  mentions_meant g active (function_expression line body) has =
      value_meant _ (related g (function_expression line body)) (function_meant body false) (λ free free1 p q at. at) refl refl (λ k is. absurd cc)
  mentions_meant g active (index_expression line on key) has =
      let value = indexed_meant (mentions_in on) (mentions_in key) (related g on) (λ active. RkAt g active (related g key)) (mentions_meant g active on has.0) (rk_meant (mentions_in key) (related g key) (mentions_meant g active key has.1)) in
      value_meant _ (related g (index_expression line on key)) value (λ free free1 p q at. at) refl refl (λ k is. cc)
  mentions_meant g active (field_expression line on text) has =
      value_meant _ (related g (field_expression line on text)) (field_meant (mentions_in on) (related g on) text (mentions_meant g active on has)) (λ free free1 p q at. at) refl refl (λ k is. cc)
  mentions_meant g active (call_expression line on args on_line) has =
      let call = call_meant (mentions_in on) (mentions_given args) (related g on) (given_rel g args) (mentions_meant g active on has.0) (given_meant g active args has.1) in
      called_meant _ (form_of (call_expression line on args on_line)) (CallAt g (related g on) (given_rel g args)) refl refl call
  mentions_meant g active (method_call line on name args on_line) has =
      let call = method_meant (mentions_in on) (mentions_given args) (related g on) name (given_rel g args) (mentions_meant g active on has.1) (given_meant g active args has.2) in
      called_meant _ (form_of (method_call line on name args on_line)) (MethodAt g (related g on) name (given_rel g args)) refl refl call
  mentions_meant g active (binary_expression line op left right) has = binary_meant line op left right has.0 (mentions_meant g active left has.1) (mentions_meant g active right has.2)
  mentions_meant g active (unary_expression line op e) has = unary_meant line op e (mentions_meant g active e has)
  mentions_meant g active (constructor line fields) has =
      let table = table_meant fields (items_meant_all g active fields has) in
      value_meant _ (related g (constructor line fields)) (λ free r. moved_meant _ (TableAt g (λ t. ItemsAt g fields active t 0 0) free) free r (table free)) (λ free free1 p q at. at) refl refl (λ k is. cc)
  mentions_meant g active (parenthesized line e) has = parenthesized_meant line e (mentions_meant g active e has)
  mentions_meant g active e has = absurd has

  given_meant : (g : Fn) (active : List Active) (args : Arguments) → HaveCores args → (free : ℕ) → Meant g active (mentions_given args) ((given_rel g args).part active free)
  given_meant g active (argument_list es) have = open_meant es (each_meant g active es have)
  given_meant g active (text_argument text) have = λ free p q at. meant_none (word_keeps at.value_at.word)
  given_meant g active (table_argument fields) have = table_meant fields (items_meant_all g active fields have)

  items_meant_all : (g : Fn) (active : List Active) (fields : Fields) → HaveItems fields → ItemsMeant g active fields
  items_meant_all g active no_fields have = tt
  items_meant_all g active (positional e separator rest) have = (mentions_meant g active e have.0, items_meant_all g active rest have.1)
  items_meant_all g active (named text e separator rest) have = (mentions_meant g active e have.0, items_meant_all g active rest have.1)
  items_meant_all g active (keyed key e separator rest) have = (mentions_meant g active key have.0, mentions_meant g active e have.1, items_meant_all g active rest have.2)

  pub each_meant : (g : Fn) (active : List Active) (es : Expressions) → AllHaveCores es → EachMeant g active es
  each_meant g active no_expressions have = tt
  each_meant g active (syntax.expression e es) have = (mentions_meant g active e have.0, each_meant g active es have.1)
