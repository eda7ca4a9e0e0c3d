-- Where words of a statement stand with their law, each name that it mentions means what the scope finds by it.
use Rattle.std.proofs.Common.{◌≡◌, ℕ, suc, Bool, true, false, List, [], ◌∷◌, ◌++◌, append-nil, length, Some, None, refl, sym, ap, ◌∙◌, drop, ap₂, subst₂}
use Rattle.std.proofs.lemmas.Bool.{eqb-true}
use Rattle.std.specs.Prelude.{◌==◌, ◌||◌, ◌+◌}
use Rattle.lua_num.specs.Bytes.{Text}
use Rattle.lua_tree.specs.Syntax as syntax
use Rattle.lua_tree.specs.Syntax.{Expressions, no_expressions, Expression, name_expression, index_expression, field_expression, Statement, assignment, call_statement, local_statement, return_statement, FunctionBody, local_function}
use Rattle.opcode.specs.declared.op.Op.{Op}
use Rattle.scheme.specs.Expressions.{Target, is_vararg, name_target, part_target}
use Rattle.scheme.specs.Making.{Ahead, Where, in_globals, in_register, in_upvalue}
use Rattle.scheme.specs.declared.making.Active.{Active}
use Rattle.scheme.specs.declared.making.Local.{Local}
use Rattle.scheme_stands.proofs.Forms.{form_is}
use Rattle.scheme_stands.specs.Expressions.{several}
use Rattle.scheme_stands.specs.Functions.{Declared, Activated}
use Rattle.scheme_stands.specs.Relation.{StatementAt, all_related, related, FunctionOf}
use Rattle.scheme_stands.specs.Statements.{AssignAt, EachStoredAt, ReturnAt, ReturnBy, SetAt, StoreAt, StoreNameAt, StoreRegisterAt, StoredFromAt, StoresBy, TargetsAt, LocalFunctionAt}
use Rattle.scheme_stands.specs.Words.{Fn, Spot}
use Rattle.reads_back.specs.Acted.{AreActTargets, Assigns, IsAct, IsActTarget}
use Rattle.reads_back.specs.Cores.{AllHaveCores, HasCore}
use Rattle.reads_back.specs.Coming.{coming_at, declared_local, inside_local, Coming, IsMadeNext}
use Rattle.reads_back.specs.Coming.{behind_locals}
use Rattle.scheme.specs.Functions.{without_sources}
use Rattle.scheme.specs.Scheme.{inner}
use Rattle.reads_back.proofs.Mentions.{coming_behind, locals_mention, mentions_in, mentions_in_all, own_mention, function_mention, captured_same}
use Rattle.reads_back.proofs.MentionsMeant.{IsMeant, Keeps, Meant, adjust_meant, each_meant, meant_as, meant_from, meant_none, meant_on, meant_then, name_is_passed, mentions_meant, open_meant, operand_meant, rk_meant, same_keeps, text_meant, word_keeps, function_meant}
use Rattle.reads_back.proofs.Rewriting.{mentions_of_statement}
use Rattle.reads_back.proofs.TargetsStand.{copies_stand, targets_count}

-- the value goes to what a name means
set_by : (g : Fn) (text : Text) (w : Where) (r : ℕ) (p q : Spot) → SetAt g text w r p q → Keeps p q
set_by g text (in_register x) r p q at = word_keeps at
set_by g text (in_upvalue slot) r p q at = word_keeps at
set_by g text in_globals r p q at = word_keeps at.word

-- locals are declared
declared_behind : (texts : List Text) (before behind : Ahead) (locals : List Local) → Declared texts before locals behind → behind ≡ behind_locals texts before
declared_behind [] before behind locals declared = declared.1
declared_behind (text ∷ texts) before behind locals declared = declared_behind texts (record before { captures = drop 1 before.captures; declarations = suc before.declarations }) behind declared.0 declared.2

module _ (g : Fn) (active : List Active) where
  target_meant : (target : Expression) → IsActTarget target → (free : ℕ) (to : Target) (free1 : ℕ) → Meant g active (mentions_in target) ((related g target).target active free to free1)
  target_meant (name_expression line text) is free to free1 p q at = record { meant = (at.means, tt); behind = name_is_passed active g.upvalue_names text at.passed }
  target_meant (index_expression line on key) is free to free1 p q at =
      let first = operand_meant (mentions_in on) (related g on) (mentions_meant g active on is.0) free at.t at.free1 p at.mid at.on_at in
      meant_then (mentions_in on) (mentions_in key) first (rk_meant (mentions_in key) (related g key) (mentions_meant g active key is.1) at.free1 at.k free1 at.mid q at.key_at)
  target_meant (field_expression line on text) is free to free1 p q at =
      let key = text_meant {active = active} text at.free1 at.k free1 at.mid q at.key_at in
      meant_on (operand_meant (mentions_in on) (related g on) (mentions_meant g active on is) free at.t at.free1 p at.mid at.on_at) key.behind
  target_meant target is free to free1 p q at = absurd is

  module _ (e : Expression) (has : HasCore e) (free : ℕ) where
    store_name_meant : (text : Text) (w : Where) → Meant g active (mentions_in e) (StoreNameAt g text w (related g e) active free)
    store_name_meant text (in_register x) p q at = (mentions_meant g active e has).to_reg free x p q at
    store_name_meant text (in_upvalue slot) p q at = meant_on (operand_meant (mentions_in e) (related g e) (mentions_meant g active e has) free at.x at.free1 p at.mid at.operand_at) (set_by g text (in_upvalue slot) at.x at.mid q at.words_at)
    store_name_meant text in_globals p q at = meant_on (operand_meant (mentions_in e) (related g e) (mentions_meant g active e has) free at.x at.free1 p at.mid at.operand_at) (set_by g text in_globals at.x at.mid q at.words_at)

    store_meant : (to : Target) → Meant g active (mentions_in e) (StoreAt g to (related g e) active free)
    store_meant (name_target text w) p q at = store_name_meant text w p q at
    store_meant (part_target on key on_local key_local) p q at = meant_on (rk_meant (mentions_in e) (related g e) (mentions_meant g active e has) free at.x at.free1 p at.mid at.operand_at) (word_keeps at.words_at)

  -- ---- names

  targets_meant : (targets : Expressions) → AreActTargets targets → (to : List Target) (free free1 : ℕ) → Meant g active (mentions_in_all targets) (TargetsAt (all_related g targets) active to free free1)
  targets_meant no_expressions are to free free1 p q at = meant_none (same_keeps at.same)
  targets_meant (syntax.expression target targets) are to free free1 p q at =
      meant_then (mentions_in target) (mentions_in_all targets) (target_meant target are.0 free at.target at.free1 p at.mid at.target_at) (targets_meant targets are.1 at.others at.free1 free1 at.mid q at.others_at)

  register_set : (target : Target) (r : ℕ) (p q : Spot) → StoreRegisterAt g target r p q → Keeps p q
  register_set (name_target text w) r p q at = set_by g text w r p q at
  register_set (part_target on key on_local key_local) r p q at = word_keeps at

  all_set : (targets : List Target) (r : ℕ) (p q : Spot) → StoredFromAt g r targets p q → Keeps p q
  all_set [] r p q at = same_keeps at
  all_set (target ∷ targets) r p q at = register_set target r at.mid q at.second_at ∙ all_set targets (suc r) p at.mid at.first_at

  each_meant_stored : (targets : List Target) (es : Expressions) → AllHaveCores es → (free : ℕ) → length (all_related g es) ≡ length targets → Meant g active (mentions_in_all es) (EachStoredAt g targets (all_related g es) active free)
  each_meant_stored [] no_expressions have free same p q at = meant_none (same_keeps at)
  each_meant_stored [] (syntax.expression e es) have free same p q at = cc
  each_meant_stored (target ∷ targets) no_expressions have free same p q at = cc
  each_meant_stored (target ∷ []) (syntax.expression e no_expressions) have free same p q at = meant_as (append-nil (mentions_in e)) (store_meant e have.0 free target p q at)
  each_meant_stored (target ∷ []) (syntax.expression e (syntax.expression d es)) have free same p q at = cc
  each_meant_stored (target ∷ other ∷ targets) (syntax.expression e es) have free same p q at =
      let rest = at.others in
      let values = each_meant_stored (other ∷ targets) es have.1 (free + 1) (cc) at.mid rest.mid rest.first_at in
      let first = (mentions_meant g active e have.0).to_reg free free p at.mid at.first in
      meant_then (mentions_in e) (mentions_in_all es) first (meant_on values (register_set target free rest.mid q rest.second_at))

  stores_meant : (targets : List Target) (es : Expressions) → AllHaveCores es → (count : ℕ) → length targets ≡ count → (as_many : Bool) → (length (all_related g es) == count) ≡ as_many → (free : ℕ) →
      Meant g active (mentions_in_all es) (StoresBy as_many g targets (all_related g es) active free)
  stores_meant targets es have count counts true is free p q at = each_meant_stored targets es have free (eqb-true _ _ is ∙ sym counts) p q at
  stores_meant targets es have count counts false is free p q at =
      meant_on (adjust_meant es (length targets) (each_meant g active es have) free p at.mid at.first_at) (all_set targets free at.mid q at.second_at)

  assignment_meant : (targets es : Expressions) → Assigns targets es → Meant g active (mentions_in_all targets ++ mentions_in_all es) (AssignAt g (all_related g targets) (all_related g es) active)
  assignment_meant targets es assigns p q at =
      let copies = copies_stand g (length active) at.parts at.places at.free1 at.free2 at.mid at.last at.copies_at in
      let counts = copies.0 ∙ targets_count g active targets at.parts (length active) at.free1 p at.mid at.targets_at in
      meant_then (mentions_in_all targets) (mentions_in_all es) (targets_meant targets assigns.targets at.parts (length active) at.free1 p at.mid at.targets_at)
      (meant_from copies.1 (stores_meant at.places es assigns.values (length (all_related g targets)) counts _ refl at.free2 at.last q at.stores_at))

  return_by_meant : (call dots : Bool) (e : Expression) → HasCore e → (related g e).form.call ≡ call → Meant g active (mentions_in_all (syntax.expression e no_expressions)) (ReturnBy call dots g (related g e) active)
  return_by_meant true dots e has is p q at =
      let values = (mentions_meant g active e has).multi (ap (λ call. call || (related g e).form.dots) is) (length active) Op.TailCall None p at.mid at.first_at in
      meant_then (mentions_in e) [] values (meant_none (word_keeps at.second_at))
  return_by_meant false true e has is p q at = meant_on (open_meant (syntax.expression e no_expressions) (mentions_meant g active e has, tt) (length active) p at.mid at.first_at) (word_keeps at.second_at)
  return_by_meant false false e has is p q at =
      let value = operand_meant (mentions_in e) (related g e) (mentions_meant g active e has) (length active) at.x at.free1 p at.mid at.operand_at in
      meant_then (mentions_in e) [] value (meant_none (word_keeps at.words_at))

  return_meant : (es : Expressions) → AllHaveCores es → Meant g active (mentions_in_all es) (ReturnAt g (all_related g es) active)
  return_meant no_expressions have p q at = meant_none (word_keeps at)
  return_meant (syntax.expression e no_expressions) have p q at = return_by_meant (related g e).form.call (related g e).form.dots e have.0 refl p q at
  return_meant (syntax.expression e (syntax.expression d es)) have p q at =
      meant_on (open_meant (syntax.expression e (syntax.expression d es)) (each_meant g active (syntax.expression e (syntax.expression d es)) have) (length active) p at.mid at.first_at) (word_keeps at.second_at)

-- the local of a local function, which is active in it
pub record OwnActive (active : List Active) (text : Text) (after : List Active) (p mid : Spot) : Type 0 where
  pub local : Active
  pub is_local : local.local ≡ declared_local text p.ahead
  pub is_after : after ≡ active ++ local ∷ []
  pub inside : coming_at mid ≡ inside_local text (coming_at p)

own_activated : (active : List Active) (text : Text) (after : List Active) (p mid : Spot) (locals : List Local) → Declared (text ∷ []) p.ahead locals mid.ahead → Activated locals active after → mid.functions ≡ p.functions → OwnActive active text after p mid
own_activated active text after p mid [] declared activated as_many = cc
own_activated active text after p mid (one ∷ []) declared (x, is, same) as_many =
    let local : one ≡ declared_local text p.ahead = let first = declared.1 in cc in
    record {
      local = x;
      is_local = is ∙ local;
      is_after = same;
      inside = ap₂ (λ (ahead : Ahead) (functions : ℕ). record { ahead = ahead; functions = functions }) (declared_behind (text ∷ []) p.ahead mid.ahead (one ∷ []) declared) as_many;
    }
own_activated active text after p mid (one ∷ other ∷ locals) declared activated as_many = let others = declared.1 in let none = declared.2.0 in cc

pub own_active : {g : Fn} {active : List Active} {text : Text} (body : FunctionBody) {after : List Active} {p q : Spot} (at : LocalFunctionAt g text (FunctionOf body false) active after p q) → OwnActive active text after p at.mid
own_active {active = active} {text} body {after} {p} at = own_activated active text after p at.mid at.locals at.declared at.activated at.as_many

own_meant : (g : Fn) (active : List Active) (text : Text) (body : FunctionBody) (after : List Active) (p q : Spot) → LocalFunctionAt g text (FunctionOf body false) active after p q → IsMeant g active (own_mention text body ∷ []) p q
own_meant g active text body after p q at =
    let own = own_active body at in
    let meant = function_meant {active = after} body false (length active + 1) (length active) at.mid q at.closure_at in
    let next = subst₂ (λ after (c : Coming). IsMadeNext g after body false c) own.is_after own.inside meant.meant.0 in
    record {
      meant = (record { local = own.local; is_local = own.is_local; next = next }, tt);
      behind =
          meant.behind
          ∙ ap₂ (λ after (c : Coming). coming_behind after g.upvalue_names (function_mention body false ∷ []) c) own.is_after own.inside
          ∙ ap (λ names. record { ahead = (inner body false names (without_sources (inside_local text (coming_at p)).ahead)).ahead; functions = suc p.functions })
          (captured_same active own.local (record { local = declared_local text p.ahead; listed = length active }) own.is_local g.upvalue_names (inside_local text (coming_at p)).ahead);
    }

-- where the words of a statement stand, what it mentions means what the scope finds
pub statement_meant : (g : Fn) (s : Statement) → IsAct s → (active after : List Active) (p q : Spot) → StatementAt g None s active after p q → IsMeant g active (mentions_of_statement s) p q
statement_meant g (call_statement e) is active after p q at = (mentions_meant g active e is.1).multi (ap several (form_is g e) ∙ ap (λ call. call || is_vararg e) is.0) (length active) Op.Call (Some 0) p q at.part_at
statement_meant g (assignment targets es) is active after p q at = assignment_meant g active targets es is p q at.part_at
statement_meant g (local_statement names es) is active after p q at =
    meant_then (locals_mention names ∷ []) (mentions_in_all es) (record { meant = (tt, tt); behind = keep_declared })
    (adjust_meant es (length names) (each_meant g active es is.1) (length active) at.mid q at.values_at)
  where
    keep_declared : coming_at at.mid ≡ coming_behind active g.upvalue_names (locals_mention names ∷ []) (coming_at p)
    keep_declared = ap₂ (λ (ahead : Ahead) (functions : ℕ). record { ahead = ahead; functions = functions }) (declared_behind names p.ahead at.mid.ahead at.locals at.declared) at.as_many
statement_meant g (local_function text body) is active after p q at = own_meant g active text body after p q at
statement_meant g (return_statement es) is active after p q at = return_meant g active es is p q at.part_at
statement_meant g s is active after p q at = absurd is
