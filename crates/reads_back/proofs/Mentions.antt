-- What an expression mentions, in its order: names and functions; that what comes next in a function that is being made means what the scope finds by it; and what a part passes of it.
use Rattle.std.proofs.Common.{◌≡◌, suc, Bool, false, List, [], ◌∷◌, ◌++◌, refl, sym, ap, ap₂, ◌∙◌, subst, drop, length, ℕ, map, cond}
use Rattle.lua_num.specs.Bytes.{Text}
use Rattle.lua_tree.specs.Scoping.{global_use, Use, local_use, upvalue_use}
use Rattle.lua_tree.specs.Syntax as syntax
use Rattle.lua_tree.specs.Syntax.{Expressions, no_expressions, Arguments, argument_list, text_argument, table_argument, Expression, name_expression, index_expression, field_expression, call_expression, method_call, binary_expression, unary_expression, parenthesized, constructor, Fields, no_fields, positional, named, keyed, FunctionBody, function_expression}
use Rattle.proto.specs.declared.parts.LocVar.{LocVar}
use Rattle.scheme.specs.Functions.{without_sources, name_of}
use Rattle.scheme.specs.Making.{Ahead, Asks, Maker, Part, head_or, where_is, is_declaration, declare}
use Rattle.scheme.specs.Scheme.{inner}
use Rattle.scheme.specs.declared.making.Active.{Active}
use Rattle.scheme.specs.declared.making.Local.{Local}
use Rattle.scheme_stands.specs.Functions.{captured_name}
use Rattle.scheme_stands.specs.Words.{Fn, Means}
use Rattle.reads_back.specs.Coming.{Coming, IsMadeNext, captured_names, behind_locals, IsOwnNext, inside_local, declared_local}

-- ---- what is mentioned

pub data Mention : Type 0 where
  name_mention : Text → Mention
  -- a function, as a method or not
  function_mention : FunctionBody → (method : Bool) → Mention
  -- names that are declared
  locals_mention : List Text → Mention
  -- a local that is declared, and the function in which it is active
  own_mention : Text → FunctionBody → Mention

abbrev mutual
  pub mentions_in : Expression → List Mention
  mentions_in (name_expression line text) = name_mention text ∷ []
  mentions_in (function_expression line body) = function_mention body false ∷ []
  mentions_in (index_expression line on key) = mentions_in on ++ mentions_in key
  mentions_in (field_expression line on text) = mentions_in on
  mentions_in (call_expression line on args on_line) = mentions_in on ++ mentions_given args
  mentions_in (method_call line on name args on_line) = mentions_in on ++ mentions_given args
  mentions_in (binary_expression line op left right) = mentions_in left ++ mentions_in right
  mentions_in (unary_expression line op e) = mentions_in e
  mentions_in (constructor line fields) = mentions_of_fields fields
  mentions_in (parenthesized line e) = mentions_in e
  mentions_in e = []

  pub mentions_given : Arguments → List Mention
  mentions_given (argument_list es) = mentions_in_all es
  mentions_given (text_argument text) = []
  mentions_given (table_argument fields) = mentions_of_fields fields

  pub mentions_of_fields : Fields → List Mention
  mentions_of_fields no_fields = []
  mentions_of_fields (positional e separator rest) = mentions_in e ++ mentions_of_fields rest
  mentions_of_fields (named text e separator rest) = mentions_in e ++ mentions_of_fields rest
  mentions_of_fields (keyed key e separator rest) = (mentions_in key ++ mentions_in e) ++ mentions_of_fields rest

  pub mentions_in_all : Expressions → List Mention
  mentions_in_all no_expressions = []
  mentions_in_all (syntax.expression e es) = mentions_in e ++ mentions_in_all es

-- ---- what comes next

abbrev pub coming : Maker → Coming
coming m = record { ahead = m.ahead; functions = length m.functions }

abbrev pub behind_mention : List Active → (upvalue_names : List Text) → Mention → Coming → Coming
behind_mention active names (name_mention text) c = record c { ahead = record (c.ahead) { names = drop 1 c.ahead.names } }
behind_mention active names (function_mention body method) c = record { ahead = (inner body method (captured_names active names c.ahead) (without_sources c.ahead)).ahead; functions = suc c.functions }
behind_mention active names (locals_mention texts) c = record c { ahead = behind_locals texts c.ahead }
behind_mention active names (own_mention text body) c =
    let inside = (inside_local text c).ahead in
    record { ahead = (inner body false (captured_names (active ++ record { local = declared_local text c.ahead; listed = length active } ∷ []) names inside) (without_sources inside)).ahead; functions = suc c.functions }

abbrev pub coming_behind : List Active → (upvalue_names : List Text) → List Mention → Coming → Coming
coming_behind active names [] c = c
coming_behind active names (mention ∷ mentions) c = coming_behind active names mentions (behind_mention active names mention c)

pub behind_both : (active : List Active) (names : List Text) (mentions others : List Mention) (c : Coming) → coming_behind active names (mentions ++ others) c ≡ coming_behind active names others (coming_behind active names mentions c)
behind_both active names [] others c = refl
behind_both active names (mention ∷ mentions) others c = behind_both active names mentions others (behind_mention active names mention c)

-- the names of what a function captures are the same, wherever the last local is listed
captured_name_same : (active : List Active) (x y : Active) → x.local ≡ y.local → (names : List Text) (one : Use) → captured_name (active ++ x ∷ []) names one ≡ captured_name (active ++ y ∷ []) names one
captured_name_same active x y same names (local_use d) = among active
  where
    among : (others : List Active) → name_of d (others ++ x ∷ []) ≡ name_of d (others ++ y ∷ [])
    among [] = ap (λ (local : Local). cond (is_declaration d local) local.name []) same
    among (one ∷ others) = ap (cond (is_declaration d one.local) one.local.name) (among others)
captured_name_same active x y same names (upvalue_use slot) = refl
captured_name_same active x y same names global_use = refl

pub captured_same : (active : List Active) (x y : Active) → x.local ≡ y.local → (names : List Text) (ahead : Ahead) → captured_names (active ++ x ∷ []) names ahead ≡ captured_names (active ++ y ∷ []) names ahead
captured_same active x y same names ahead = all (head_or [] ahead.sources)
  where
    all : (uses : List Use) → map (captured_name (active ++ x ∷ []) names) uses ≡ map (captured_name (active ++ y ∷ []) names) uses
    all [] = refl
    all (one ∷ uses) = ap₂ (λ (text : Text) (texts : List Text). text ∷ texts) (captured_name_same active x y same names one) (all uses)

-- how many functions were made behind these, where so many were made before
abbrev pub made_behind : List Mention → ℕ → ℕ
made_behind [] made = made
made_behind (name_mention text ∷ mentions) made = made_behind mentions made
made_behind (function_mention body method ∷ mentions) made = made_behind mentions (suc made)
made_behind (locals_mention texts ∷ mentions) made = made_behind mentions made
made_behind (own_mention text body ∷ mentions) made = made_behind mentions (suc made)

pub made_both : (mentions others : List Mention) (made : ℕ) → made_behind (mentions ++ others) made ≡ made_behind others (made_behind mentions made)
made_both [] others made = refl
made_both (name_mention text ∷ mentions) others made = made_both mentions others made
made_both (function_mention body method ∷ mentions) others made = made_both mentions others (suc made)
made_both (locals_mention texts ∷ mentions) others made = made_both mentions others made
made_both (own_mention text body ∷ mentions) others made = made_both mentions others (suc made)

made_is : (active : List Active) (names : List Text) (mentions : List Mention) (c : Coming) → (coming_behind active names mentions c).functions ≡ made_behind mentions c.functions
made_is active names [] c = refl
made_is active names (name_mention text ∷ mentions) c = made_is active names mentions (behind_mention active names (name_mention text) c)
made_is active names (function_mention body method ∷ mentions) c = made_is active names mentions (behind_mention active names (function_mention body method) c)
made_is active names (locals_mention texts ∷ mentions) c = made_is active names mentions (behind_mention active names (locals_mention texts) c)
made_is active names (own_mention text body ∷ mentions) c = made_is active names mentions (behind_mention active names (own_mention text body) c)

-- ---- what it means

abbrev IsMentionMeant : Fn → List Active → Mention → Coming → Type 0
IsMentionMeant g active (name_mention text) c = Means g.law active text (where_is (head_or global_use c.ahead.names) active)
IsMentionMeant g active (function_mention body method) c = IsMadeNext g active body method c
IsMentionMeant g active (locals_mention texts) c = Unit {0}
IsMentionMeant g active (own_mention text body) c = IsOwnNext g active text body c

-- each of these mentions, which come next, means what the scope finds by it
abbrev pub AreMeant : Fn → List Active → List Mention → Coming → Type 0
AreMeant g active [] c = Unit {0}
AreMeant g active (mention ∷ mentions) c = IsMentionMeant g active mention c × AreMeant g active mentions (behind_mention active g.upvalue_names mention c)

front_meant : (g : Fn) (active : List Active) (mentions others : List Mention) (c : Coming) → AreMeant g active (mentions ++ others) c → AreMeant g active mentions c
front_meant g active [] others c are = tt
front_meant g active (mention ∷ mentions) others c are = (are.0, front_meant g active mentions others (behind_mention active g.upvalue_names mention c) are.1)

rest_meant : (g : Fn) (active : List Active) (mentions others : List Mention) (c : Coming) → AreMeant g active (mentions ++ others) c → AreMeant g active others (coming_behind active g.upvalue_names mentions c)
rest_meant g active [] others c are = are
rest_meant g active (mention ∷ mentions) others c are = rest_meant g active mentions others (behind_mention active g.upvalue_names mention c) are.1

pub both_meant : (g : Fn) (active : List Active) (mentions others : List Mention) (c : Coming) → AreMeant g active mentions c → AreMeant g active others (coming_behind active g.upvalue_names mentions c) → AreMeant g active (mentions ++ others) c
both_meant g active [] others c first rest = rest
both_meant g active (mention ∷ mentions) others c first rest = (first.0, both_meant g active mentions others (behind_mention active g.upvalue_names mention c) first.1 rest)

-- ---- what a part passes

-- what no part of an expression changes
pub record Around : Type 0 where
  pub active : List Active
  pub locals : List LocVar
  pub upvalue_names : List Text

abbrev around_of : Maker → Around
around_of m = record { active = m.active; locals = m.locals; upvalue_names = m.upvalue_names }

-- these mentions are passed
pub record Passed (mentions : List Mention) (m n : Maker) : Type 0 where
  pub around : around_of n ≡ around_of m
  pub behind : coming n ≡ coming_behind m.active m.upvalue_names mentions (coming m)

pub passed_none : {m : Maker} → Passed [] m m
passed_none = record { around = refl; behind = refl }

pub passed_then : {m n o : Maker} (mentions others : List Mention) → Passed mentions m n → Passed others n o → Passed (mentions ++ others) m o
passed_then {m} {n} {o} mentions others first second = record {
  around = second.around ∙ first.around;
  behind =
      second.behind
      ∙ ap₂ (λ (around : Around) (c : Coming). coming_behind around.active around.upvalue_names others c) first.around first.behind
      ∙ sym (behind_both m.active m.upvalue_names mentions others (coming m));
}

abbrev pub Passes : List Mention → Part → Type 0
Passes mentions part = (m : Maker) → Passed mentions m (part m)

abbrev pub AskingPasses : {A : Type 0} → List Mention → Asks A → Type 0
AskingPasses mentions ask = (m : Maker) → Passed mentions m (ask m).after

-- a declaration of locals passes their names
pub declare_passes : (texts : List Text) → AskingPasses (locals_mention texts ∷ []) (declare texts)
declare_passes [] m = record { around = refl; behind = refl }
declare_passes (text ∷ texts) m =
    let later = record m { ahead = record (m.ahead) { captures = drop 1 m.ahead.captures; declarations = suc m.ahead.declarations } } in
    let others = declare_passes texts later in
    record { around = others.around; behind = others.behind }

-- ---- what is known ahead of a part

-- these locals are active, so many functions were made, and these mentions come next
pub record IsAhead (g : Fn) (active : List Active) (made : ℕ) (mentions : List Mention) (m : Maker) : Type 0 where
  pub active_are : m.active ≡ active
  pub upvalues_are : m.upvalue_names ≡ g.upvalue_names
  pub made_are : length m.functions ≡ made
  pub meant : AreMeant g active mentions (coming m)

-- as much is known ahead of its first part, and behind it of the rest
pub ahead_front : {g : Fn} {active : List Active} {made : ℕ} {m : Maker} (mentions others : List Mention) → IsAhead g active made (mentions ++ others) m → IsAhead g active made mentions m
ahead_front {g} {active} {m = m} mentions others ahead =
    record { active_are = ahead.active_are; upvalues_are = ahead.upvalues_are; made_are = ahead.made_are; meant = front_meant g active mentions others (coming m) ahead.meant }

pub ahead_behind : {g : Fn} {active : List Active} {made behind : ℕ} {m n : Maker} (mentions others : List Mention) → behind ≡ made_behind mentions made → Passed mentions m n → IsAhead g active made (mentions ++ others) m → IsAhead g active behind others n
ahead_behind {g} {active} {m = m} {n} mentions others counts passed ahead = record {
  active_are = ap (λ (around : Around). around.active) passed.around ∙ ahead.active_are;
  upvalues_are = ap (λ (around : Around). around.upvalue_names) passed.around ∙ ahead.upvalues_are;
  made_are = ap (λ (c : Coming). c.functions) passed.behind ∙ made_is m.active m.upvalue_names mentions (coming m) ∙ ap (made_behind mentions) ahead.made_are ∙ sym counts;
  meant =
      let same : coming n ≡ coming_behind active g.upvalue_names mentions (coming m) = passed.behind ∙ ap₂ (λ active names. coming_behind active names mentions (coming m)) ahead.active_are ahead.upvalues_are in
      subst (AreMeant g active others) (sym same) (rest_meant g active mentions others (coming m) ahead.meant);
}
