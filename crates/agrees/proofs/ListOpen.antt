-- All values of a list of expressions, of which the last one may be left open; an item in the next register.
use Rattle.std.proofs.Common.{◌≡◌, ◌≤◌, ◌<◌, ℕ, suc, ◌+◌, Bool, true, false, List, [], ◌∷◌, length, Some, None, cond, refl, ap, ◌∙◌, arith}
use Rattle.std.specs.Prelude.{slice_get}
use Rattle.opcode.specs.declared.op.Op.{Op}
use Rattle.proto.specs.Chunk.{own}
use Rattle.lua_tree.specs.Syntax as syntax
use Rattle.lua_tree.specs.Syntax.{Expressions, no_expressions, Expression, nil_literal, true_literal, false_literal, vararg_expression, number_literal, text_literal, name_expression, function_expression, index_expression, field_expression, call_expression, method_call, and_expression, or_expression, binary_expression, unary_expression, constructor, parenthesized}
use Rattle.scheme.specs.Expressions.{Want}
use Rattle.lua_model.specs.Datum.{Datum, first_of}
use Rattle.lua_model.specs.Store.{Outside}
use Rattle.source_meaning.specs.State.{State as SourceState}
use Rattle.source_meaning.specs.Tasks.{item}
use Rattle.source_meaning.specs.Programs.{Prog, ask}
use Rattle.source_meaning.specs.Meaning.{items}
use Rattle.agrees.proofs.NextRegister.{to_next}
use Rattle.agrees.proofs.Tasks.{Above, Simulates, scope}
use Rattle.agrees.proofs.Posts.{Keeps, ListPost, fail_of}
use Rattle.agrees.proofs.Lists.{some_same}
use Rattle.rules.specs.Run.{after}
use Rattle.scheme_stands.specs.Words.{Fn, Spot}
use Rattle.scheme_stands.specs.Expressions.{several, form_of}
use Rattle.scheme_stands.specs.Lists.{AllMultiAt, rels_open, rels_count, OpenBy, OpenListAt, AdjustAt}
use Rattle.scheme_stands.specs.Relation.{related, all_related}
use Rattle.agrees.proofs.Accounts.{Place, Now, Post, Self, Goes, goes_from, goes_post, goes_earning}
use Rattle.agrees.proofs.Sizes.{size_e, inner_list}
use Rattle.agrees.proofs.Picture.{code_of, Setup, Ghost, Site, raised, at, Ok}
use Rattle.agrees.proofs.ListAdjusted as values
use Rattle.agrees.proofs.ListAdjusted.{ValuesPost, values_next, values_open}

-- how many expressions, and how many values where the last one gives so many
abbrev pub count : Expressions → ℕ
count no_expressions = 0
count (syntax.expression e rest) = suc (count rest)

pub count_is : (f : Fn) (es : Expressions) → length (all_related f es) ≡ count es
count_is f no_expressions = refl
count_is f (syntax.expression e rest) = ap suc (count_is f rest)

-- all values of a list; of one that is not open it is known how many they are
pub record OpenPost (z : Setup) (x : Site) (want : Want) (k free q : ℕ) (vs : List Datum) (s : SourceState) (o : Outside) (p : Place) : Type 0 where
  pub list : ListPost z x want k free q vs s o p
  pub exact : (n : ℕ) → want ≡ Some n → length vs ≡ n

module _ (z : Setup) (self : Self) (ih : Simulates z self) where
  -- an item in the next register, and what follows it
  pub item_next : {B : Type 0} (e : Expression) (s : SourceState) (o : Outside) (g : Ghost) (x : Site) (k free : ℕ) (p mid : Spot) (j S : ℕ) (P : Post B) (go : List Datum → SourceState → Prog B) → Ok z s g x → free ≡ length x.a.slots + k → size_e e ≤ z.bound → free < (own x.a.chunk).registers → (related (code_of x.a) e).to_reg x.a.active free free p mid → ((vs : List Datum) (s1 : SourceState) (o1 : Outside) (g1 : Ghost) (high : List Datum) → Keeps k x.high high → Ok z s1 g1 (raised x high) → slice_get high k ≡ Some (first_of vs) → (several (form_of e) ≡ false → vs ≡ first_of vs ∷ []) → Goes z.bound self (fail_of z x) (6 + j) S o1 (Now (at s1 o1 g1 (raised x high) mid.pc)) P (go vs s1)) → Goes z.bound self (fail_of z x) j (suc (size_e e) + S) o (Now (at s o g x p.pc)) P (ask (item (scope x) e) s go)
  item_next e s o g x k free p mid j S P go ok fr small room w after =
      goes_earning z.bound self (fail_of z x) 6 (suc (size_e e)) j (6 + j) S o (Now (at s o g x p.pc)) (item (scope x) e) s _ P go (omega arith)
      (ih.one_item e s o g x k free free p mid ok (record { is = fr; within = omega arith }) small room w)
      (λ vs s1 o1 p1 h.
      let n = to_next z x k free mid.pc vs s1 o1 p1 fr room h.0 in
      goes_from z.bound self (fail_of z x) (6 + j) S o1 p1 _ P (go vs s1) n.is
      (after vs s1 o1 n.g n.high n.keeps n.ok n.has h.1))

  -- all values of a list, a last multiple one left open
  pub open_goes : (es : Expressions) (s : SourceState) (o : Outside) (g : Ghost) (x : Site) (k free : ℕ) (p q : Spot) → Ok z s g x → Above x k free → inner_list es ≤ z.bound → OpenListAt (code_of x.a) (all_related (code_of x.a) es) x.a.active free p q → Goes z.bound self (fail_of z x) 0 (inner_list es) o (Now (at s o g x p.pc)) (OpenPost z x (rels_count (all_related (code_of x.a) es)) k free q.pc) (items es (scope x) s)
  open_goes es s o g x k free p q ok ab small w = by (rels_open (all_related (code_of x.a) es)) refl w
    where
      by : (b : Bool) → rels_open (all_related (code_of x.a) es) ≡ b → OpenBy b (code_of x.a) (all_related (code_of x.a) es) x.a.active free p q → Goes z.bound self (fail_of z x) 0 (inner_list es) o (Now (at s o g x p.pc)) (OpenPost z x (cond b None (Some (length (all_related (code_of x.a) es)))) k free q.pc) (items es (scope x) s)
      by true t w = opens es t w ok small
        where
          none_some : (n : ℕ) → None ≡ Some n → ⊥
          none_some n e = cc

          opens : (es1 : Expressions) → rels_open (all_related (code_of x.a) es1) ≡ true → AllMultiAt (code_of x.a) Op.Call None (all_related (code_of x.a) es1) x.a.active free p q → Ok z s g x → inner_list es1 ≤ z.bound → Goes z.bound self (fail_of z x) 0 (inner_list es1) o (Now (at s o g x p.pc)) (OpenPost z x None k free q.pc) (items es1 (scope x) s)
          opens no_expressions t1 w1 ok1 small1 = absurd (let e : false ≡ true = t1 in cc)
          opens (syntax.expression e1 rest) t1 w1 ok1 small1 =
              goes_post z.bound self (fail_of z x) 0 (inner_list (syntax.expression e1 rest)) o _ (ListPost z x None k free q.pc) _ _
              (λ vs s1 o1 p1 h. record { list = h; exact = λ n e. absurd (none_some n e) })
              (values_open z self ih e1 rest s o g x k free p q ok1 ab.is ab.within small1 w1)
      by false t w =
          goes_post z.bound self (fail_of z x) 0 (inner_list es) o _ (λ vs s1 o1 p1. ValuesPost z x k (length (all_related (code_of x.a) es)) q.pc vs s1 o1 p1 × (rels_open (all_related (code_of x.a) es) ≡ false → length vs ≡ length (all_related (code_of x.a) es))) _ _
          (λ vs s1 o1 p1 h. record {
            list = record { g = h.0.g; high = h.0.high; keeps = h.0.keeps; held = (h.0.row, h.0.is); ok = h.0.ok };
            exact = λ n e. h.1 t ∙ some_same (length (all_related (code_of x.a) es)) n e;
          })
          (values_next z self ih es s o g x k free p q ok ab.is small w)

  -- Adjust: so many values
  pub adjust_goes : (es : Expressions) (n : ℕ) (s : SourceState) (o : Outside) (g : Ghost) (x : Site) (k free : ℕ) (p q : Spot) → Ok z s g x → Above x k free → inner_list es ≤ z.bound → AdjustAt (code_of x.a) (all_related (code_of x.a) es) n x.a.active free p q → Goes z.bound self (fail_of z x) 1 (inner_list es) o (Now (at s o g x p.pc)) (ListPost z x (Some n) k free q.pc) (items es (scope x) s)
  adjust_goes es n s o g x k free p q ok ab small w =
      goes_post z.bound self (fail_of z x) 1 (inner_list es) o _ (ValuesPost z x k n q.pc) (ListPost z x (Some n) k free q.pc) (items es (scope x) s)
      (λ vs s1 o1 p1 h. record { g = h.g; high = h.high; keeps = h.keeps; held = (h.row, h.is); ok = h.ok })
      (values.adjust_goes z self ih es n s o g x k free p q ok ab.is ab.within small w)
