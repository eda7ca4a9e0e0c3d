-- So in a statement without blocks, by its expressions; and what keeps a name from the active locals.
use Rattle.std.proofs.Common.{◌≡◌, ℕ, Bool, true, false, List, [], ◌∷◌, ◌++◌, length, Option, Some, None, refl, sym, ap, ◌∙◌, subst, subst₂}
use Rattle.std.proofs.lemmas.Bool.{eqb-true, or_parts}
use Rattle.std.specs.Prelude.{◌==◌, ◌&&◌, ◌||◌, ◌+◌, is_some}
use Rattle.std.specs.Str.{bytes_eq}
use Rattle.lua_num.specs.Bytes.{Text}
use Rattle.lua_tree.specs.Syntax as syntax
use Rattle.lua_tree.specs.Syntax.{Expressions, no_expressions, Expression, name_expression, field_expression, function_expression, Statement, Statements, no_statements, local_function, local_statement, FunctionBody, function_body}
use Rattle.opcode.specs.declared.op.Op.{Op}
use Rattle.scheme.specs.Expressions.{Target, name_target, part_target}
use Rattle.scheme.specs.Making.{Ahead, Where, in_globals, in_register, in_upvalue}
use Rattle.scheme.specs.declared.making.Active.{Active}
use Rattle.scheme.specs.declared.making.Local.{Local}
use Rattle.scheme_stands.specs.Expressions.{Rel, rel_name}
use Rattle.scheme_stands.specs.Functions.{Activated, Declared, rel_function}
use Rattle.scheme_stands.specs.Relation.{FunctionOf, StatementAt, StatementsAt, all_related, related}
use Rattle.scheme_stands.specs.Statements.{AssignAt, EachStoredAt, LoopAt, ReturnAt, ReturnBy, StoreAt, StoreNameAt, StoresBy, TargetsAt, no_path, rel_method, rel_path}
use Rattle.scheme_stands.specs.Words.{Fn, Names, Spot, asking, is_among, own_register}
use Rattle.reads_back.specs.Assignments.{fields_behind, path_target, with_method_name, with_self}
use Rattle.reads_back.proofs.FreeFound.{EachFinds, Finds, IsCapturedInside, IsOutside, UsesFind, adjust_finds, field_finds, name_finds, none_then, open_finds, operand_finds, operand_found, rk_finds, function_uses}
use Rattle.reads_back.proofs.FreeNames.{begins_with, brings, brings_in_block, free_in, free_in_all, free_in_body}
use Rattle.reads_back.proofs.SameStatements.{path_related, self_related}
use Rattle.reads_back.proofs.TargetsStand.{copies_stand, targets_count}
use Rattle.reads_back.proofs.Tests.{not_so, or_first, or_second, of_either}

-- ---- active locals of which none has the name

module _ (text : Text) where
  -- none of these locals has it
  abbrev pub AreApart : List Local → Type 0
  AreApart [] = Unit {0}
  AreApart (one ∷ locals) = ((is_some one.declaration && bytes_eq text one.name) ≡ false) × AreApart locals

  pub none_activated : (locals : List Local) (active after : List Active) → AreApart locals → Activated locals active after → own_register text active ≡ None → own_register text after ≡ None
  none_activated [] active after apart activated none = ap (own_register text) activated ∙ none
  none_activated (one ∷ locals) active after apart (x, is, activated) none =
      none_activated locals (active ++ x ∷ []) after apart.1 activated (none_then text active x (ap (λ (local : Local). is_some local.declaration && bytes_eq text local.name) is ∙ apart.0) none)

  pub declared_apart : (names : List Text) (before : Ahead) (locals : List Local) (behind : Ahead) → Declared names before locals behind → is_among text names ≡ false → AreApart locals
  declared_apart [] before locals behind declared apart = subst AreApart (sym declared.0) tt
  declared_apart (name ∷ names) before locals behind (others, is, declared) apart =
      let parts = or_parts (bytes_eq text name) (is_among text names) apart in
      subst AreApart (sym is) (parts.0, declared_apart names _ others behind declared parts.1)

  or_false : (a : Bool) → a ≡ false → (a || false) ≡ false
  or_false a is = cc

  -- behind a statement that does not bring it
  pub statement_keeps_none : (g : Fn) (loop : Option LoopAt) (s : Statement) (active after : List Active) (p q : Spot) → StatementAt g loop s active after p q → brings text s ≡ false →
      own_register text active ≡ None → own_register text after ≡ None
  statement_keeps_none g loop (local_statement names es) active after p q at apart none = none_activated at.locals active after (declared_apart names p.ahead at.locals at.mid.ahead at.declared apart) at.activated none
  statement_keeps_none g loop (local_function name body) active after p q at apart none =
      none_activated at.locals active after (declared_apart (name ∷ []) p.ahead at.locals at.mid.ahead at.declared (or_false (bytes_eq text name) apart)) at.activated none
  statement_keeps_none g loop s active after p q at apart none = ap (own_register text) at.stays ∙ none

  pub block_keeps_none : (g : Fn) (loop : Option LoopAt) (block : Statements) (active after : List Active) (p q : Spot) → StatementsAt g loop block active after p q →
      brings_in_block text block ≡ false → own_register text active ≡ None → own_register text after ≡ None
  block_keeps_none g loop no_statements active after p q at apart none = ap (own_register text) at.stays ∙ none
  block_keeps_none g loop (syntax.statement line semi s rest) active after p q at apart none =
      let parts = or_parts (brings text s) (brings_in_block text rest) apart in
      block_keeps_none g loop rest at.between after at.mid q at.rest_at parts.1 (statement_keeps_none g loop s active at.between p at.mid at.first_at parts.0 none)

-- ---- assignments

module _ (text : Text) (n : Names) (f : Fn) (active : List Active) where
  abbrev g : Fn
  g = asking n f

  targets_find : (targets : Expressions) → EachFinds text n f active targets → (to : List Target) (from behind : ℕ) →
      Finds text n (free_in_all text targets) (TargetsAt (all_related g targets) active to from behind)
  targets_find no_expressions each to from behind p q at = not_so
  targets_find (syntax.expression e targets) each to from behind p q at = λ is.
      of_either (free_in text e) _ is (each.0.target from at.target at.free1 p at.mid at.target_at) (targets_find targets each.1 at.others at.free1 behind at.mid q at.others_at)

  module _ (free : Bool) (c : Rel) (finds : UsesFind text n free active c) (from : ℕ) where
    store_name_finds : (name : Text) (w : Where) → Finds text n free (StoreNameAt g name w c active from)
    store_name_finds name (in_register x) p q at = finds.to_reg from x p q at
    store_name_finds name (in_upvalue slot) p q at = operand_finds text n f active free c finds from at.x at.free1 p at.mid at.operand_at
    store_name_finds name in_globals p q at = operand_finds text n f active free c finds from at.x at.free1 p at.mid at.operand_at

    store_finds : (to : Target) → Finds text n free (StoreAt g to c active from)
    store_finds (name_target name w) p q at = store_name_finds name w p q at
    store_finds (part_target on key on_local key_local) p q at = rk_finds text n f active free c finds from at.x at.free1 p at.mid at.operand_at

  each_stored_finds : (to : List Target) (es : Expressions) → EachFinds text n f active es → (from : ℕ) → length (all_related g es) ≡ length to →
      Finds text n (free_in_all text es) (EachStoredAt g to (all_related g es) active from)
  each_stored_finds [] no_expressions each from same p q at = not_so
  each_stored_finds [] (syntax.expression e es) each from same p q at = cc
  each_stored_finds (target ∷ to) no_expressions each from same p q at = not_so
  each_stored_finds (target ∷ []) (syntax.expression e no_expressions) each from same p q at = λ is. of_either (free_in text e) false is (store_finds (free_in text e) (related g e) each.0 from target p q at) not_so
  each_stored_finds (target ∷ []) (syntax.expression e (syntax.expression d es)) each from same p q at = cc
  each_stored_finds (target ∷ other ∷ to) (syntax.expression e es) each from same p q at = λ is.
      of_either (free_in text e) _ is (each.0.to_reg from from p at.mid at.first) (each_stored_finds (other ∷ to) es each.1 (from + 1) (cc) at.mid at.others.mid at.others.first_at)

  stores_find : (to : List Target) (es : Expressions) → EachFinds text n f active es → (count : ℕ) → length to ≡ count → (as_many : Bool) → (length (all_related g es) == count) ≡ as_many →
      (from : ℕ) →
      Finds text n (free_in_all text es) (StoresBy as_many g to (all_related g es) active from)
  stores_find to es each count counts true is from p q at = each_stored_finds to es each from (eqb-true _ _ is ∙ sym counts) p q at
  stores_find to es each count counts false is from p q at = adjust_finds text n f active es (length to) each from p at.mid at.first_at

  pub assignment_finds : (targets es : Expressions) → EachFinds text n f active targets → EachFinds text n f active es →
      Finds text n (free_in_all text targets || free_in_all text es) (AssignAt g (all_related g targets) (all_related g es) active)
  assignment_finds targets es first second p q at is =
      let copies = copies_stand g (length active) at.parts at.places at.free1 at.free2 at.mid at.last at.copies_at in
      let counts = copies.0 ∙ targets_count g active targets at.parts (length active) at.free1 p at.mid at.targets_at in
      of_either (free_in_all text targets) _ is (targets_find targets first at.parts (length active) at.free1 p at.mid at.targets_at)
      (stores_find at.places es second (length (all_related g targets)) counts _ refl at.free2 at.last q at.stores_at)

  -- ---- returns

  return_by_finds : (call dots : Bool) (e : Expression) → UsesFind text n (free_in text e) active (related g e) → Finds text n (free_in text e) (ReturnBy call dots g (related g e) active)
  return_by_finds true dots e finds p q at = finds.multi (length active) Op.TailCall None p at.mid at.first_at
  return_by_finds false true e finds p q at = λ is. open_finds text n f active (syntax.expression e no_expressions) (finds, tt) (length active) p at.mid at.first_at (or_first (free_in text e) false is)
  return_by_finds false false e finds p q at = operand_finds text n f active (free_in text e) (related g e) finds (length active) at.x at.free1 p at.mid at.operand_at

  pub return_finds : (es : Expressions) → EachFinds text n f active es → Finds text n (free_in_all text es) (ReturnAt g (all_related g es) active)
  return_finds no_expressions each p q at = not_so
  return_finds (syntax.expression e no_expressions) each p q at = λ is. of_either (free_in text e) false is (return_by_finds (related g e).form.call (related g e).form.dots e each.0 p q at) not_so
  return_finds (syntax.expression e (syntax.expression d es)) each p q at = open_finds text n f active (syntax.expression e (syntax.expression d es)) each (length active) p at.mid at.first_at

  -- ---- function statements

  fields_find : (on : Expression) (names : List Text) → UsesFind text n (free_in text on) active (related g on) →
      UsesFind text n (free_in text (fields_behind on names)) active (related g (fields_behind on names))
  fields_find on [] finds = finds
  fields_find on (name ∷ names) finds = fields_find (field_expression 1 on name) names (field_finds text n f active 1 on name finds)

  method_name_finds : (on : Expression) (method : Option Text) → UsesFind text n (free_in text on) active (related g on) →
      UsesFind text n (free_in text (with_method_name on method)) active (related g (with_method_name on method))
  method_name_finds on None finds = finds
  method_name_finds on (Some name) finds = field_finds text n f active 1 on name finds

  fields_same : (on : Expression) (names : List Text) → free_in text (fields_behind on names) ≡ free_in text on
  fields_same on [] = refl
  fields_same on (name ∷ names) = fields_same (field_expression 1 on name) names

  method_same : (on : Expression) (method : Option Text) → free_in text (with_method_name on method) ≡ free_in text on
  method_same on None = refl
  method_same on (Some name) = refl

  -- `self` is among the parameters
  inside_self : (method : Bool) (body : FunctionBody) → IsCapturedInside text body method → IsCapturedInside text (with_self method body) false
  inside_self true (function_body params vararg block first last) inside = inside
  inside_self false body inside = inside

  self_same : (method : Bool) (body : FunctionBody) → free_in_body text false (with_self method body) ≡ free_in_body text method body
  self_same true (function_body params vararg block first last) = refl
  self_same false body = refl

  -- a path has a name
  no_path_found : (method : Option Text) (to : List Target) (from behind : ℕ) → Finds text n true (TargetsAt (rel_method g (rel_path g []) method ∷ []) active to from behind)
  no_path_found None to from behind p q at = absurd at.target_at
  no_path_found (Some name) to from behind p q at =
      operand_found text n f active true (no_path g (rel_name g [])) (λ from r p q at. absurd at) (λ is p q at. absurd at) from at.target_at.t at.target_at.free1 p at.target_at.mid at.target_at.on_at

  pub function_statement_finds : IsOutside text n active → (path : List Text) (method : Option Text) (body : FunctionBody) → IsCapturedInside text body (is_some method) →
      Finds text n (begins_with text path || free_in_body text (is_some method) body) (AssignAt g (rel_method g (rel_path g path) method ∷ []) (rel_function g (FunctionOf body (is_some method)) ∷ []) active)
  function_statement_finds outside [] method body inside p q at = λ is. no_path_found method at.parts (length active) at.free1 p at.mid at.targets_at refl
  function_statement_finds outside (name ∷ names) method body inside p q at = λ is.
      let target = path_target (name ∷ names) method in
      let own = with_self (is_some method) body in
      let path : UsesFind text n (free_in text target) active (related g target) = method_name_finds (fields_behind (name_expression 1 name) names) method (fields_find (name_expression 1 name) names (name_finds text n f active outside name)) in
      let value = function_uses text n f active outside 1 own (inside_self (is_some method) body inside) in
      let as_path : free_in text target ≡ bytes_eq text name = method_same (fields_behind (name_expression 1 name) names) method ∙ fields_same (name_expression 1 name) names in
      assignment_finds (syntax.expression target no_expressions) (syntax.expression (function_expression 1 own) no_expressions) (path, tt) (value, tt) p q
      (subst₂ (λ (target value : Rel). AssignAt g (target ∷ []) (value ∷ []) active p q) (sym (path_related g name names method)) (sym (self_related g (is_some method) body)) at)
      (of_either (bytes_eq text name) _ is
      (λ is. or_first (free_in text target || false) _ (or_first (free_in text target) false (as_path ∙ is)))
      (λ is. or_second (free_in text target || false) (free_in_body text false own || false) (or_first (free_in_body text false own) false (self_same (is_some method) body ∙ is))))
