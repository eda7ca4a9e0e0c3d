-- There are registers for the values of a list.
use Rattle.std.proofs.Common.{◌≡◌, ◌≤◌, ◌<◌, ℕ, suc, ◌+◌, ◌-◌, Bool, true, false, List, [], ◌∷◌, length, refl, sym, true≢false, arith}
use Rattle.std.specs.Prelude.{Some, nat_lt}
use Rattle.std.proofs.lemmas.Bool.{ltb-true, ltb-false}
use Rattle.lua_tree.specs.Syntax as syntax
use Rattle.lua_tree.specs.Syntax.{Expressions, no_expressions, Expression, nil_literal, true_literal, false_literal, vararg_expression, number_literal, text_literal, name_expression, function_expression, index_expression, field_expression, call_expression, method_call, and_expression, or_expression, binary_expression, unary_expression, constructor, parenthesized}
use Rattle.opcode.specs.declared.op.Op.{Op}
use Rattle.scheme.specs.Expressions.{Want}
use Rattle.scheme.specs.declared.making.Active.{Active}
use Rattle.scheme_stands.specs.Words.{Fn, Spot}
use Rattle.scheme_stands.specs.Expressions.{Rel, several}
use Rattle.scheme_stands.specs.Lists.{ResultRoom, AllNextAt, AllMultiAt, rels_open, FilledAt, AdjustBy, AdjustAt}
use Rattle.scheme_stands.specs.Relation.{related, all_related}

-- a call or `...` has room for its results
multi_room : (f : Fn) (e : Expression) (active : List Active) (free : ℕ) (op : Op) (want : Want) (p q : Spot) → several (related f e).form ≡ true → (related f e).multi active free op want p q → ResultRoom f free want
multi_room f (call_expression line on args on_line) active free op want p q h t = t.results
multi_room f (method_call line on text args on_line) active free op want p q h t = t.results
multi_room f (vararg_expression line) active free op want p q h t = t.results
multi_room f (nil_literal line) active free op want p q h t = absurd (true≢false (sym h))
multi_room f (true_literal line) active free op want p q h t = absurd (true≢false (sym h))
multi_room f (false_literal line) active free op want p q h t = absurd (true≢false (sym h))
multi_room f (number_literal line n) active free op want p q h t = absurd (true≢false (sym h))
multi_room f (text_literal line text) active free op want p q h t = absurd (true≢false (sym h))
multi_room f (name_expression line text) active free op want p q h t = absurd (true≢false (sym h))
multi_room f (function_expression line body) active free op want p q h t = absurd (true≢false (sym h))
multi_room f (index_expression line on key) active free op want p q h t = absurd (true≢false (sym h))
multi_room f (field_expression line on text) active free op want p q h t = absurd (true≢false (sym h))
multi_room f (and_expression line left right) active free op want p q h t = absurd (true≢false (sym h))
multi_room f (or_expression line left right) active free op want p q h t = absurd (true≢false (sym h))
multi_room f (binary_expression line op' left right) active free op want p q h t = absurd (true≢false (sym h))
multi_room f (unary_expression line op' e) active free op want p q h t = absurd (true≢false (sym h))
multi_room f (constructor line items) active free op want p q h t = absurd (true≢false (sym h))
multi_room f (parenthesized line e) active free op want p q h t = absurd (true≢false (sym h))

-- each value in a register of its own
pub next_room : (f : Fn) (cs : List Rel) (active : List Active) (free : ℕ) (p q : Spot) → 0 < length cs → AllNextAt f cs active free p q → free + length cs ≤ f.size
next_room f [] active free p q l t = absurd (omega (arith, l))
next_room f (c ∷ []) active free p q l t = let r = t.room in omega (arith, r)
next_room f (c ∷ d ∷ cs) active free p q l t = let h = next_room f (d ∷ cs) active (free + 1) t.mid q (omega arith) t.others in omega (arith, h)

-- the last one gives k values
all_multi_room : (f : Fn) (es : Expressions) (op : Op) (k : ℕ) (active : List Active) (free : ℕ) (p q : Spot) → rels_open (all_related f es) ≡ true → AllMultiAt f op (Some k) (all_related f es) active free p q → free + length (all_related f es) + k ≤ suc f.size
all_multi_room f no_expressions op k active free p q h t = absurd (true≢false (sym h))
all_multi_room f (syntax.expression e no_expressions) op k active free p q h t = let r = multi_room f e active free op (Some k) p q h t in omega (arith, r)
all_multi_room f (syntax.expression e (syntax.expression d rest)) op k active free p q h t =
    let r = all_multi_room f (syntax.expression d rest) op k active (free + 1) t.mid q h t.others in
    omega (arith, r)

filled_room : (b : Bool) (f : Fn) (es : Expressions) (missing : ℕ) (active : List Active) (free : ℕ) (p q : Spot) → rels_open (all_related f es) ≡ b → FilledAt b f (all_related f es) missing active free p q → free + length (all_related f es) + missing ≤ f.size
filled_room true f es missing active free p q h t = let r = all_multi_room f es Op.Call (missing + 1) active free p q h t in omega (arith, r)
filled_room false f es missing active free p q h t = let n = t.second_at in n.room

adjust_by : (b : Bool) (f : Fn) (es : Expressions) (n : ℕ) (active : List Active) (free : ℕ) (p q : Spot) → nat_lt (length (all_related f es)) n ≡ b → 0 < n → AdjustBy b f (all_related f es) n active free p q → free + n ≤ f.size
adjust_by true f es n active free p q h l t =
    let r = filled_room (rels_open (all_related f es)) f es (n - length (all_related f es)) active free p q refl t in
    let k = ltb-true (length (all_related f es)) n h in
    omega (arith, r, k)
adjust_by false f es n active free p q h l t =
    let k = ltb-false (length (all_related f es)) n h in
    let r = next_room f (all_related f es) active free p q (omega (arith, k, l)) t in
    omega (arith, r, k)

-- the n values of a list
pub adjust_room : (f : Fn) (es : Expressions) (n : ℕ) (active : List Active) (free : ℕ) (p q : Spot) → 0 < n → AdjustAt f (all_related f es) n active free p q → free + n ≤ f.size
adjust_room f es n active free p q l t = adjust_by (nat_lt (length (all_related f es)) n) f es n active free p q refl l t
