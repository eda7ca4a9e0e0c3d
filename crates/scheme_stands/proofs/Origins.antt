-- Where the bindings come from that a part of a source mentions: from the scope at its place, or from inside it.
use Rattle.std.proofs.Common.{◌≡◌, ◌≤◌, ◌<◌, ◌⊎◌, inl, inr, ℕ, zero, suc, ◌+◌, Bool, true, false, ◌||◌, List, [], ◌∷◌, ◌++◌, length, refl, sym, ap, ◌∙◌, subst, true≢false, append_assoc, append-nil, arith}
use Rattle.std.specs.Prelude.{Option, Some, None, ◌==◌, is_some, if◌then◌else◌}
use Rattle.std.specs.Str.{bytes_eq}
use Rattle.std.proofs.lemmas.Bool.{eq-eqb}
use Rattle.lua_num.specs.Bytes.{Text}
use Rattle.lua_tree.specs.Outline as outline
use Rattle.lua_tree.specs.Outline.{Binding, Scope, Mark, mention, local_name, hidden_local, dots, leave, opened, innermost, Place, with_name, with_names, both, within, nothing, stay, in_loop, in_function, with_locals, come, declares, reaching, marked, mentions, path_part, all_params, statements_part, statement_part, branches_part, otherwise_part, step_part, body_part, expressions_part, expression_part, arguments_part, fields_part, beginning}
use Rattle.lua_tree.specs.Scoping.{is_one_of}
use Rattle.lua_tree.specs.Syntax as syntax
use Rattle.lua_tree.specs.Syntax.{Expressions, no_expressions, Arguments, argument_list, text_argument, table_argument, Fields, no_fields, positional, named, keyed, Statements, no_statements, Statement, assignment, call_statement, do_block, while_loop, repeat_loop, if_statement, numeric_for, generic_for, function_statement, local_function, local_statement, return_statement, break_statement, Branches, no_branches, branch, Otherwise, no_otherwise, otherwise, ForStep, no_step, by_step, FunctionBody, function_body, Expression, nil_literal, true_literal, false_literal, vararg_expression, number_literal, text_literal, name_expression, function_expression, index_expression, field_expression, call_expression, method_call, and_expression, or_expression, binary_expression, unary_expression, constructor, parenthesized}
use Rattle.scheme_stands.specs.Places.{Mentions, AllOf, Origin, seen, of_inside, declared_behind, OriginOf, From, Below, Behind, Between, Counted, inside_part, is_vararg_body}
use Rattle.scheme_stands.proofs.Counting.{reached_next, declared_both, opened_both}

-- ---- lists of numbers and of marks

pub all_more : (P Q : ℕ → Type 0) → ((g : ℕ) → P g → Q g) → (xs : List ℕ) → AllOf P xs → AllOf Q xs
all_more P Q f [] h = tt
all_more P Q f (x ∷ xs) h = (f x h.0, all_more P Q f xs h.1)

all_both : (P : ℕ → Type 0) (xs ys : List ℕ) → AllOf P xs → AllOf P ys → AllOf P (xs ++ ys)
all_both P [] ys g h = h
all_both P (x ∷ xs) ys g h = (g.0, all_both P xs ys g.1 h)

pub mentions_both : (P : Option Binding → List ℕ → Type 0) (xs ys : List Mark) → Mentions P xs → Mentions P ys → Mentions P (xs ++ ys)
mentions_both P [] ys g h = h
mentions_both P (mention line name means around ∷ xs) ys g h = (g.0, mentions_both P xs ys g.1 h)
mentions_both P (local_name line reached ∷ xs) ys g h = mentions_both P xs ys g h
mentions_both P (hidden_local line reached ∷ xs) ys g h = mentions_both P xs ys g h
mentions_both P (dots line vararg ∷ xs) ys g h = mentions_both P xs ys g h
mentions_both P (leave line looped ∷ xs) ys g h = mentions_both P xs ys g h
mentions_both P (opened outer ∷ xs) ys g h = mentions_both P xs ys g h

pub mentions_more : (P Q : Option Binding → List ℕ → Type 0) → ((means : Option Binding) (around : List ℕ) → P means around → Q means around) → (xs : List Mark) → Mentions P xs → Mentions Q xs
mentions_more P Q f [] h = tt
mentions_more P Q f (mention line name means around ∷ xs) h = (f means around h.0, mentions_more P Q f xs h.1)
mentions_more P Q f (local_name line reached ∷ xs) h = mentions_more P Q f xs h
mentions_more P Q f (hidden_local line reached ∷ xs) h = mentions_more P Q f xs h
mentions_more P Q f (dots line vararg ∷ xs) h = mentions_more P Q f xs h
mentions_more P Q f (leave line looped ∷ xs) h = mentions_more P Q f xs h
mentions_more P Q f (opened outer ∷ xs) h = mentions_more P Q f xs h

no_names : (P : Option Binding → List ℕ → Type 0) (line k n : ℕ) → Mentions P (reaching (local_name line) k n)
no_names P line k zero = tt
no_names P line k (suc n) = no_names P line (suc k) n

no_hidden : (P : Option Binding → List ℕ → Type 0) (line k n : ℕ) → Mentions P (reaching (hidden_local line) k n)
no_hidden P line k zero = tt
no_hidden P line k (suc n) = no_hidden P line (suc k) n

-- ---- scopes that grow

abbrev pub Fresh : Place → Binding → Type 0
Fresh base b = (b.home ≡ innermost base.around) × (base.declarations ≤ b.declaration)

-- a place behind another one, in the same function
pub record Derived (base place : Place) : Type 0 where
  pub around : place.around ≡ base.around
  pub functions : base.functions ≤ place.functions
  pub declarations : base.declarations ≤ place.declarations
  pub scope : (name : Text) (b : Binding) → place.scope name ≡ Some b → (base.scope name ≡ Some b) ⊎ Fresh base b

pub itself : (base : Place) → Derived base base
itself base = record { around = refl; functions = omega arith; declarations = omega arith; scope = λ name b h. inl h }

abbrev Named : Scope → (number home : ℕ) → Text → Binding → Type 0
Named scope number home name b = (scope name ≡ Some b) ⊎ ((b.home ≡ home) × (number ≤ b.declaration))

name_by : (t : Bool) (new : Binding) (other : Option Binding) (b : Binding) → (if t then Some new else other) ≡ Some b → (other ≡ Some b) ⊎ (new ≡ b)
name_by true new other b h = inr (cc)
name_by false new other b h = inl h

names_by : (names : List Text) (number home : ℕ) (scope : Scope) (name : Text) (b : Binding) → with_names names number home scope name ≡ Some b → Named scope number home name b
names_by [] number home scope name b h = inl h
names_by (x ∷ xs) number home scope name b h = go (names_by xs (suc number) home (with_name x (record { declaration = number; home = home }) scope) name b h)
  where
    new : Binding
    new = record { declaration = number; home = home }

    one : (scope name ≡ Some b) ⊎ (record { declaration = number; home = home } ≡ b) → Named scope number home name b
    one (inl h) = inl h
    one (inr e) = inr (sym (ap (λ (x : Binding). x.home) e), let d = ap (λ (x : Binding). x.declaration) e in omega (arith, d))

    go : Named (with_name x (record { declaration = number; home = home }) scope) (suc number) home name b → Named scope number home name b
    go (inl h) = one (name_by (bytes_eq x name) (record { declaration = number; home = home }) (scope name) b h)
    go (inr h) = inr (h.0, let l = h.1 in omega (arith, l))

derived_locals : (base place : Place) (hidden : ℕ) (names : List Text) (number : ℕ) → base.declarations ≤ number → Derived base place → Derived base (with_locals hidden names number place)
derived_locals base place hidden names number l d = record {
  around = d.around;
  functions = d.functions;
  declarations = d.declarations;
  scope = λ name b h. go name b (names_by names number (innermost place.around) place.scope name b h);
}
  where
    go : (name : Text) (b : Binding) → Named place.scope number (innermost place.around) name b → (base.scope name ≡ Some b) ⊎ Fresh base b
    go name b (inl h) = d.scope name b h
    go name b (inr h) = inr (h.0 ∙ ap innermost d.around, let n = h.1 in omega (arith, l, n))

-- ---- walks

pub record Walked (base : Place) (part : outline.Part) (place : Place) : Type 0 where
  pub from : Mentions (From base) (part place).marks
  pub upto : Mentions (Below (part place).next.functions) (part place).marks
  pub derived : Derived base (part place).next
  pub around : AllOf (λ g. g < (part place).next.functions) (part place).next.around
  pub grown : place.functions ≤ (part place).next.functions
  pub more : place.declarations ≤ (part place).next.declarations

abbrev pub Start : Place → Place → Type 0
Start base place = Derived base place × AllOf (λ g. g < place.functions) place.around

next : (base : Place) (part : outline.Part) (place : Place) → Walked base part place → Start base (part place).next
next base part place w = (w.derived, w.around)

pub below_more : (n k : ℕ) → n ≤ k → (xs : List ℕ) → AllOf (λ g. g < n) xs → AllOf (λ g. g < k) xs
below_more n k l xs h = all_more (λ g. g < n) (λ g. g < k) (λ g b. omega (arith, b, l)) xs h

pub walked_row : (base : Place) (a b : outline.Part) (place : Place) → Walked base a place → Walked base b (a place).next → Walked base (both a b) place
walked_row base a b place v w =
    let x = a place in
    let y = b x.next in
    let g = w.grown in
    record {
      from = mentions_both (From base) x.marks y.marks v.from w.from;
      upto = mentions_both (Below y.next.functions) x.marks y.marks (mentions_more (Below x.next.functions) (Below y.next.functions) (λ means around h. below_more x.next.functions y.next.functions g around h) x.marks v.upto) w.upto;
      derived = w.derived;
      around = w.around;
      grown = let h = v.grown in omega (arith, g, h);
      more = let h = v.more in let k = w.more in omega (arith, h, k);
    }

pub walked_still : (base place : Place) → Start base place → Walked base nothing place
walked_still base place s = record { from = tt; upto = tt; derived = s.0; around = s.1; grown = omega arith; more = omega arith }

pub walked_inner : (base : Place) (enter : Place → Place) (part : outline.Part) (place : Place) → (enter place).declarations ≡ place.declarations → (enter place).functions ≡ place.functions → Start base place → Walked base part (enter place) → Walked base (within enter part) place
walked_inner base enter part place d n s w =
    let end = (part (enter place)).next in
    let g = w.grown in
    let k = w.more in
    let o = s.0 in
    let of = o.functions in
    let od = o.declarations in
    record {
      from = w.from;
      upto = w.upto;
      derived = record { around = o.around; functions = omega (arith, g, n, of); declarations = omega (arith, k, d, od); scope = o.scope };
      around = below_more place.functions end.functions (omega (arith, g, n)) place.around s.1;
      grown = omega (arith, g, n);
      more = omega (arith, k, d);
    }

pub declares_walked : (base : Place) (line hidden : ℕ) (names : List Text) (place : Place) → Start base place → Walked base (declares line hidden names) place
declares_walked base line hidden names place s =
    let a = reaching (hidden_local line) place.active hidden in
    let b = reaching (local_name line) (place.active + hidden) (length names) in
    let o = s.0 in
    let od = o.declarations in
    record {
      from = mentions_both (From base) a b (no_hidden (From base) line place.active hidden) (no_names (From base) line (place.active + hidden) (length names));
      upto = mentions_both (Below place.functions) a b (no_hidden (Below place.functions) line place.active hidden) (no_names (Below place.functions) line (place.active + hidden) (length names));
      derived = record { around = o.around; functions = o.functions; declarations = omega (arith, od); scope = o.scope };
      around = s.1;
      grown = omega arith;
      more = omega arith;
    }

pub come_walked : (base : Place) (hidden : ℕ) (names : List Text) (number : ℕ) (place : Place) → base.declarations ≤ number → Start base place → Walked base (come hidden names number) place
come_walked base hidden names number place l s = record { from = tt; upto = tt; derived = derived_locals base place hidden names number l s.0; around = s.1; grown = omega arith; more = omega arith }

pub mentions_walked : (base : Place) (line : ℕ) (name : Text) (place : Place) → Start base place → Walked base (mentions line name) place
mentions_walked base line name place s = record {
  from = (record { inside = []; later = tt; is = o.around; origin = go (place.scope name) refl }, tt);
  upto = (s.1, tt);
  derived = o;
  around = s.1;
  grown = omega arith;
  more = omega arith;
}
  where
    o : Derived base place
    o = s.0

    which : (b : Binding) → (base.scope name ≡ Some b) ⊎ Fresh base b → Origin base [] b
    which b (inl h) = seen name h
    which b (inr h) = declared_behind h.0 h.1

    go : (means : Option Binding) → place.scope name ≡ means → OriginOf base [] means
    go None h = tt
    go (Some b) h = let d : Derived base place = s.0 in which b (d.scope name b h)

pub path_walked : (base : Place) (line : ℕ) (path : List Text) (place : Place) → Start base place → Walked base (path_part line path) place
path_walked base line [] place s = walked_still base place s
path_walked base line (name ∷ texts) place s = mentions_walked base line name place s

-- ---- functions inside

one_front : (n : ℕ) (xs ys : List ℕ) → is_one_of n xs ≡ true → is_one_of n (xs ++ ys) ≡ true
one_front n [] ys h = absurd (true≢false (sym h))
one_front n (x ∷ xs) ys h = go (n == x) refl (one_front n xs ys)
  where
    go : (b : Bool) → (n == x) ≡ b → (is_one_of n xs ≡ true → is_one_of n (xs ++ ys) ≡ true) → (n == x) || is_one_of n (xs ++ ys) ≡ true
    go true e k = ap (λ b. b || is_one_of n (xs ++ ys)) e
    go false e k = ap (λ b. b || is_one_of n (xs ++ ys)) e ∙ k (sym (ap (λ b. b || is_one_of n xs) e) ∙ h)

one_end : (n : ℕ) (xs : List ℕ) → is_one_of n (xs ++ n ∷ []) ≡ true
one_end n [] = ap (λ b. b || false) (eq-eqb n n refl)
one_end n (x ∷ xs) = go (n == x) (one_end n xs)
  where
    go : (b : Bool) → is_one_of n (xs ++ n ∷ []) ≡ true → b || is_one_of n (xs ++ n ∷ []) ≡ true
    go true h = refl
    go false h = h

-- a mention inside a function that is opened at a place is one behind a place before it
outwards : (base place : Place) (vararg : Bool) → Derived base place → (means : Option Binding) (around : List ℕ) → From (in_function vararg place) means around → From base means around
outwards base place vararg d means around h = record {
  inside = h.inside ++ n ∷ [];
  later = all_both (λ g. base.functions ≤ g) h.inside (n ∷ []) (all_more (λ g. suc n ≤ g) (λ g. base.functions ≤ g) (λ g l. let k = d.functions in omega (arith, l, k)) h.inside h.later) (d.functions, tt);
  is = h.is ∙ ap (λ xs. h.inside ++ n ∷ xs) d.around ∙ sym (append_assoc h.inside (n ∷ []) base.around);
  origin = go means h.origin;
}
  where
    n : ℕ
    n = place.functions

    which : (b : Binding) → (name : Text) → (base.scope name ≡ Some b) ⊎ Fresh base b → Origin base (h.inside ++ place.functions ∷ []) b
    which b name (inl k) = seen name k
    which b name (inr k) = declared_behind k.0 k.1

    one : (b : Binding) → Origin (in_function vararg place) h.inside b → Origin base (h.inside ++ place.functions ∷ []) b
    one b (seen name k) = which b name (d.scope name b k)
    one b (of_inside k) = of_inside (one_front b.home h.inside (place.functions ∷ []) k)
    one b (declared_behind k l) = of_inside (ap (λ m. is_one_of m (h.inside ++ place.functions ∷ [])) k ∙ one_end place.functions h.inside)

    go : (means : Option Binding) → OriginOf (in_function vararg place) h.inside means → OriginOf base (h.inside ++ place.functions ∷ []) means
    go None k = tt
    go (Some b) k = one b k

pub entered : (vararg : Bool) (place : Place) → AllOf (λ g. g < place.functions) place.around → Start (in_function vararg place) (in_function vararg place)
entered vararg place h = (itself (in_function vararg place), (omega arith, below_more place.functions (suc place.functions) (omega arith) place.around h))

function_walked : (base : Place) (vararg : Bool) (part : outline.Part) (place : Place) → Start base place → Walked (in_function vararg place) part (in_function vararg place) → Walked base (both (marked (λ place. opened (innermost place.around))) (within (in_function vararg) part)) place
function_walked base vararg part place s w =
    let inside = part (in_function vararg place) in
    let o = s.0 in
    let of = o.functions in
    let od = o.declarations in
    let g = w.grown in
    let k = w.more in
    record {
      from = mentions_more (From (in_function vararg place)) (From base) (outwards base place vararg s.0) inside.marks w.from;
      upto = w.upto;
      derived = record { around = o.around; functions = omega (arith, of, g); declarations = omega (arith, od, k); scope = o.scope };
      around = below_more place.functions inside.next.functions (omega (arith, g)) place.around s.1;
      grown = omega (arith, g);
      more = omega (arith, k);
    }

-- ---- the tree

looped : (base place : Place) → Derived base place → Derived base (in_loop place)
looped base place d = record { around = d.around; functions = d.functions; declarations = d.declarations; scope = d.scope }

pub start_loop : (base place : Place) → Start base place → Start base (in_loop place)
start_loop base place s = (looped base place s.0, s.1)

pub start_with : (base place : Place) (names : List Text) (number : ℕ) → base.declarations ≤ number → Start base place → Start base (in_loop (with_locals 3 names number place))
start_with base place names number l s = (looped base (with_locals 3 names number place) (derived_locals base place 3 names number l s.0), s.1)

pub marked_walked : (base : Place) (mark : Place → Mark) (place : Place) → Mentions (From base) (mark place ∷ []) → Mentions (Below place.functions) (mark place ∷ []) → Start base place → Walked base (marked mark) place
marked_walked base mark place g h s = record { from = g; upto = h; derived = s.0; around = s.1; grown = omega arith; more = omega arith }

inside_by : (params : List Text) (vararg : Bool) (block : Statements) (first last : ℕ) (method : Bool) (base place : Place) → ((p : Place) → Start base p → Walked base (statements_part block) p) → Start base place → Walked base (inside_part method (function_body params vararg block first last)) place
inside_by params vararg block first last method base place g s =
    let o = s.0 in
    let ps = all_params method params in
    let w1 = declares_walked base first 0 ps place s in
    let p1 = (declares first 0 ps place).next in
    let w2 = come_walked base 0 ps place.declarations p1 o.declarations (next base (declares first 0 ps) place w1) in
    let p2 = (come 0 ps place.declarations p1).next in
    let w = walked_row base (declares first 0 ps) (both (come 0 ps place.declarations) (statements_part block)) place w1 (walked_row base (come 0 ps place.declarations) (statements_part block) p1 w2 (g p2 (next base (come 0 ps place.declarations) p1 w2))) in
    record { from = w.from; upto = w.upto; derived = w.derived; around = w.around; grown = w.grown; more = w.more }

mutual
  pub statements_walked : (base : Place) (ss : Statements) (place : Place) → Start base place → Walked base (statements_part ss) place
  statements_walked base no_statements place s = walked_still base place s
  statements_walked base (syntax.statement line semi one rest) place s =
      let w = statement_walked base line one place s in
      walked_row base (statement_part line one) (statements_part rest) place w (statements_walked base rest _ (next base (statement_part line one) place w))

  pub statement_walked : (base : Place) (line : ℕ) (one : Statement) (place : Place) → Start base place → Walked base (statement_part line one) place
  statement_walked base line (assignment targets es) place s =
      let w = expressions_walked base targets place s in
      walked_row base (expressions_part targets) (expressions_part es) place w (expressions_walked base es _ (next base (expressions_part targets) place w))
  statement_walked base line (call_statement e) place s = expression_walked base e place s
  statement_walked base line (do_block block) place s = walked_inner base stay (statements_part block) place refl refl s (statements_walked base block place s)
  statement_walked base line (while_loop e block) place s =
      let w = expression_walked base e place s in
      let t = next base (expression_part e) place w in
      walked_row base (expression_part e) (within in_loop (statements_part block)) place w (walked_inner base in_loop (statements_part block) _ refl refl t (statements_walked base block _ (start_loop base _ t)))
  statement_walked base line (repeat_loop block e) place s =
      let t = start_loop base place s in
      let w = statements_walked base block (in_loop place) t in
      walked_inner base in_loop (both (statements_part block) (expression_part e)) place refl refl s (walked_row base (statements_part block) (expression_part e) (in_loop place) w (expression_walked base e _ (next base (statements_part block) (in_loop place) w)))
  statement_walked base line (if_statement branches last) place s =
      let w = branches_walked base branches place s in
      walked_row base (branches_part branches) (otherwise_part last) place w (otherwise_walked base last _ (next base (branches_part branches) place w))
  statement_walked base line (numeric_for name first last step block) place s =
      let o = s.0 in
      let low = o.declarations in
      let enter = λ (inside : Place). in_loop (with_locals 3 (name ∷ []) place.declarations inside) in
      let rest = both (expression_part last) (step_part step) in
      let values = both (expression_part first) rest in
      let w1 = declares_walked base line 3 (name ∷ []) place s in
      let p1 = (declares line 3 (name ∷ []) place).next in
      let w2 = expression_walked base first p1 (next base (declares line 3 (name ∷ [])) place w1) in
      let p2 = (expression_part first p1).next in
      let w3 = expression_walked base last p2 (next base (expression_part first) p1 w2) in
      let p3 = (expression_part last p2).next in
      let w4 = step_walked base step p3 (next base (expression_part last) p2 w3) in
      let wv = walked_row base (expression_part first) rest p1 w2 (walked_row base (expression_part last) (step_part step) p2 w3 w4) in
      let p4 = (values p1).next in
      let t = next base values p1 wv in
      let wb = walked_inner base enter (statements_part block) p4 refl refl t (statements_walked base block (enter p4) (start_with base p4 (name ∷ []) place.declarations low t)) in
      let w = walked_row base (declares line 3 (name ∷ [])) (both values (within enter (statements_part block))) place w1 (walked_row base values (within enter (statements_part block)) p1 wv wb) in
      record { from = w.from; upto = w.upto; derived = w.derived; around = w.around; grown = w.grown; more = w.more }
  statement_walked base line (generic_for names es block) place s =
      let o = s.0 in
      let low = o.declarations in
      let enter = λ (inside : Place). in_loop (with_locals 3 names place.declarations inside) in
      let w1 = declares_walked base line 3 names place s in
      let p1 = (declares line 3 names place).next in
      let wv = expressions_walked base es p1 (next base (declares line 3 names) place w1) in
      let p4 = (expressions_part es p1).next in
      let t = next base (expressions_part es) p1 wv in
      let wb = walked_inner base enter (statements_part block) p4 refl refl t (statements_walked base block (enter p4) (start_with base p4 names place.declarations low t)) in
      let w = walked_row base (declares line 3 names) (both (expressions_part es) (within enter (statements_part block))) place w1 (walked_row base (expressions_part es) (within enter (statements_part block)) p1 wv wb) in
      record { from = w.from; upto = w.upto; derived = w.derived; around = w.around; grown = w.grown; more = w.more }
  statement_walked base line (function_statement path method body) place s =
      let w = path_walked base line path place s in
      walked_row base (path_part line path) (body_part (is_some method) body) place w (body_walked base (is_some method) body _ (next base (path_part line path) place w))
  statement_walked base line (local_function name body) place s =
      let o = s.0 in
      let w1 = declares_walked base line 0 (name ∷ []) place s in
      let p1 = (declares line 0 (name ∷ []) place).next in
      let w2 = come_walked base 0 (name ∷ []) place.declarations p1 o.declarations (next base (declares line 0 (name ∷ [])) place w1) in
      let p2 = (come 0 (name ∷ []) place.declarations p1).next in
      let w3 = body_walked base false body p2 (next base (come 0 (name ∷ []) place.declarations) p1 w2) in
      let w = walked_row base (declares line 0 (name ∷ [])) (both (come 0 (name ∷ []) place.declarations) (body_part false body)) place w1 (walked_row base (come 0 (name ∷ []) place.declarations) (body_part false body) p1 w2 w3) in
      record { from = w.from; upto = w.upto; derived = w.derived; around = w.around; grown = w.grown; more = w.more }
  statement_walked base line (local_statement names es) place s =
      let o = s.0 in
      let w1 = declares_walked base line 0 names place s in
      let p1 = (declares line 0 names place).next in
      let w2 = expressions_walked base es p1 (next base (declares line 0 names) place w1) in
      let p2 = (expressions_part es p1).next in
      let w3 = come_walked base 0 names place.declarations p2 o.declarations (next base (expressions_part es) p1 w2) in
      let w = walked_row base (declares line 0 names) (both (expressions_part es) (come 0 names place.declarations)) place w1 (walked_row base (expressions_part es) (come 0 names place.declarations) p1 w2 w3) in
      record { from = w.from; upto = w.upto; derived = w.derived; around = w.around; grown = w.grown; more = w.more }
  statement_walked base line (return_statement es) place s = expressions_walked base es place s
  statement_walked base line break_statement place s = marked_walked base (λ place. leave line place.looped) place tt tt s

  pub branches_walked : (base : Place) (branches : Branches) (place : Place) → Start base place → Walked base (branches_part branches) place
  branches_walked base no_branches place s = walked_still base place s
  branches_walked base (branch e block others) place s =
      let w = expression_walked base e place s in
      let p = (expression_part e place).next in
      let t = next base (expression_part e) place w in
      let v = walked_inner base stay (statements_part block) p refl refl t (statements_walked base block p t) in
      walked_row base (expression_part e) (both (within stay (statements_part block)) (branches_part others)) place w (walked_row base (within stay (statements_part block)) (branches_part others) p v (branches_walked base others _ (next base (within stay (statements_part block)) p v)))

  pub otherwise_walked : (base : Place) (last : Otherwise) (place : Place) → Start base place → Walked base (otherwise_part last) place
  otherwise_walked base no_otherwise place s = walked_still base place s
  otherwise_walked base (otherwise block) place s = walked_inner base stay (statements_part block) place refl refl s (statements_walked base block place s)

  pub step_walked : (base : Place) (step : ForStep) (place : Place) → Start base place → Walked base (step_part step) place
  step_walked base no_step place s = walked_still base place s
  step_walked base (by_step e) place s = expression_walked base e place s

  pub body_walked : (base : Place) (method : Bool) (body : FunctionBody) (place : Place) → Start base place → Walked base (body_part method body) place
  body_walked base method (function_body params vararg block first last) place s =
      function_walked base vararg (inside_part method (function_body params vararg block first last)) place s (inside_by params vararg block first last method (in_function vararg place) (in_function vararg place) (statements_walked (in_function vararg place) block) (entered vararg place s.1))

  pub expressions_walked : (base : Place) (es : Expressions) (place : Place) → Start base place → Walked base (expressions_part es) place
  expressions_walked base no_expressions place s = walked_still base place s
  expressions_walked base (syntax.expression e rest) place s =
      let w = expression_walked base e place s in
      walked_row base (expression_part e) (expressions_part rest) place w (expressions_walked base rest _ (next base (expression_part e) place w))

  pub expression_walked : (base : Place) (e : Expression) (place : Place) → Start base place → Walked base (expression_part e) place
  expression_walked base (nil_literal line) place s = walked_still base place s
  expression_walked base (true_literal line) place s = walked_still base place s
  expression_walked base (false_literal line) place s = walked_still base place s
  expression_walked base (vararg_expression line) place s = marked_walked base (λ place. dots line place.vararg) place tt tt s
  expression_walked base (number_literal line n) place s = walked_still base place s
  expression_walked base (text_literal line text) place s = walked_still base place s
  expression_walked base (name_expression line text) place s = mentions_walked base line text place s
  expression_walked base (function_expression line body) place s = body_walked base false body place s
  expression_walked base (index_expression line on key) place s =
      let w = expression_walked base on place s in
      walked_row base (expression_part on) (expression_part key) place w (expression_walked base key _ (next base (expression_part on) place w))
  expression_walked base (field_expression line on text) place s = expression_walked base on place s
  expression_walked base (call_expression line on args on_line) place s =
      let w = expression_walked base on place s in
      walked_row base (expression_part on) (arguments_part args) place w (arguments_walked base args _ (next base (expression_part on) place w))
  expression_walked base (method_call line on text args on_line) place s =
      let w = expression_walked base on place s in
      walked_row base (expression_part on) (arguments_part args) place w (arguments_walked base args _ (next base (expression_part on) place w))
  expression_walked base (and_expression line left right) place s =
      let w = expression_walked base left place s in
      walked_row base (expression_part left) (expression_part right) place w (expression_walked base right _ (next base (expression_part left) place w))
  expression_walked base (or_expression line left right) place s =
      let w = expression_walked base left place s in
      walked_row base (expression_part left) (expression_part right) place w (expression_walked base right _ (next base (expression_part left) place w))
  expression_walked base (binary_expression line op left right) place s =
      let w = expression_walked base left place s in
      walked_row base (expression_part left) (expression_part right) place w (expression_walked base right _ (next base (expression_part left) place w))
  expression_walked base (unary_expression line op e) place s = expression_walked base e place s
  expression_walked base (constructor line items) place s = fields_walked base items place s
  expression_walked base (parenthesized line e) place s = expression_walked base e place s

  pub arguments_walked : (base : Place) (args : Arguments) (place : Place) → Start base place → Walked base (arguments_part args) place
  arguments_walked base (argument_list es) place s = expressions_walked base es place s
  arguments_walked base (text_argument text) place s = walked_still base place s
  arguments_walked base (table_argument items) place s = fields_walked base items place s

  pub fields_walked : (base : Place) (items : Fields) (place : Place) → Start base place → Walked base (fields_part items) place
  fields_walked base no_fields place s = walked_still base place s
  fields_walked base (positional e separator rest) place s =
      let w = expression_walked base e place s in
      walked_row base (expression_part e) (fields_part rest) place w (fields_walked base rest _ (next base (expression_part e) place w))
  fields_walked base (named text e separator rest) place s =
      let w = expression_walked base e place s in
      walked_row base (expression_part e) (fields_part rest) place w (fields_walked base rest _ (next base (expression_part e) place w))
  fields_walked base (keyed key e separator rest) place s =
      let w = expression_walked base key place s in
      let p = (expression_part key place).next in
      let v = expression_walked base e p (next base (expression_part key) place w) in
      let x = walked_row base (expression_part key) (expression_part e) place w v in
      walked_row base (both (expression_part key) (expression_part e)) (fields_part rest) place x (fields_walked base rest _ (next base (both (expression_part key) (expression_part e)) place x))

pub inside_walked : (method : Bool) (body : FunctionBody) (base place : Place) → Start base place → Walked base (inside_part method body) place
inside_walked method (function_body params vararg block first last) base place s = inside_by params vararg block first last method base place (statements_walked base block) s

-- ---- a part between what is before it and behind it

one_of_all : (xs : List ℕ) → AllOf (λ g. is_one_of g xs ≡ true) xs
one_of_all [] = tt
one_of_all (x ∷ xs) = (ap (λ b. b || is_one_of x xs) (eq-eqb x x refl), all_more (λ g. is_one_of g xs ≡ true) (λ g. is_one_of g (x ∷ xs) ≡ true) (λ g h. later (g == x) g h) xs (one_of_all xs))
  where
    later : (b : Bool) (g : ℕ) → is_one_of g xs ≡ true → b || is_one_of g xs ≡ true
    later true g h = refl
    later false g h = h

behind_from : (place : Place) (means : Option Binding) (around : List ℕ) → From place means around → Behind place means around
behind_from place means around h =
    let P = λ (g : ℕ). (is_one_of g place.around ≡ true) ⊎ (place.functions ≤ g) in
    subst (AllOf P) (sym h.is)
    (all_both P h.inside place.around (all_more (λ g. place.functions ≤ g) P (λ g l. inr l) h.inside h.later) (all_more (λ g. is_one_of g place.around ≡ true) P (λ g l. inl l) place.around (one_of_all place.around)))

behind_before : (earlier later : Place) → later.around ≡ earlier.around → earlier.functions ≤ later.functions → (means : Option Binding) (around : List ℕ) → Behind later means around → Behind earlier means around
behind_before earlier later same l means around h =
    all_more (λ g. (is_one_of g later.around ≡ true) ⊎ (later.functions ≤ g)) (λ g. (is_one_of g earlier.around ≡ true) ⊎ (earlier.functions ≤ g)) one around h
  where
    one : (g : ℕ) → (is_one_of g later.around ≡ true) ⊎ (later.functions ≤ g) → (is_one_of g earlier.around ≡ true) ⊎ (earlier.functions ≤ g)
    one g (inl h) = inl (sym (ap (is_one_of g) same) ∙ h)
    one g (inr h) = inr (omega (arith, h, l))

-- what a part does by itself where it stands: the functions around its mentions, and those behind it
pub record Passes (part : outline.Part) (place : Place) : Type 0 where
  pub behind : Mentions (Behind place) (part place).marks
  pub upto : Mentions (Below (part place).next.functions) (part place).marks
  pub same : (part place).next.around ≡ place.around
  pub around : AllOf (λ g. g < (part place).next.functions) (part place).next.around
  pub grown : place.functions ≤ (part place).next.functions

abbrev pub Walks : outline.Part → Place → Type 0
Walks part place = AllOf (λ g. g < place.functions) place.around → Passes part place

-- a place as if nothing were declared before it: a part is walked from there
abbrev pub bare : Place → Place
bare place = record place { declarations = 0 }

pub bare_start : (place : Place) → AllOf (λ g. g < place.functions) place.around → Start (bare place) place
bare_start place h = (record { around = refl; functions = omega arith; declarations = omega arith; scope = λ name b e. inl e }, h)

pub passes_by : (part : outline.Part) (place : Place) → Walked (bare place) part place → Passes part place
passes_by part place w =
    let d = w.derived in
    record {
      behind = mentions_more (From (bare place)) (Behind place) (behind_from (bare place)) (part place).marks w.from;
      upto = w.upto;
      same = d.around;
      around = w.around;
      grown = w.grown;
    }

-- the first of two parts
pub between_first : (all : List Mark) (a b : outline.Part) (place : Place) (rest : List Mark) → Walks a place → Walks b (a place).next → Between all (both a b) place rest → Between all a place ((b (a place).next).marks ++ rest)
between_first all a b place rest wa wb t =
    let x = a place in
    let y = b x.next in
    let r = t.reached in
    let v = wa t.around_it in
    let w = wb v.around in
    record {
      reached = record { before = r.before; is = r.is ∙ ap (λ marks. r.before ++ marks) (append_assoc x.marks y.marks rest); declarations = r.declarations; functions = r.functions };
      before_it = t.before_it;
      around_it = t.around_it;
      behind_it = mentions_both (Behind x.next) y.marks rest w.behind (mentions_more (Behind y.next) (Behind x.next) (behind_before x.next y.next w.same w.grown) rest t.behind_it);
    }

-- the second
pub between_second : (all : List Mark) (a b : outline.Part) (place : Place) (rest : List Mark) → Counted a place → Walks a place → Between all (both a b) place rest → Between all b (a place).next rest
between_second all a b place rest c wa t =
    let x = a place in
    let y = b x.next in
    let r = t.reached in
    let v = wa t.around_it in
    record {
      reached = reached_next all a place (y.marks ++ rest) c (record { before = r.before; is = r.is ∙ ap (λ marks. r.before ++ marks) (append_assoc x.marks y.marks rest); declarations = r.declarations; functions = r.functions });
      before_it = mentions_both (Below x.next.functions) r.before x.marks (mentions_more (Below place.functions) (Below x.next.functions) (λ means around h. below_more place.functions x.next.functions v.grown around h) r.before t.before_it) v.upto;
      around_it = v.around;
      behind_it = t.behind_it;
    }

-- one inside
pub between_within : (all : List Mark) (enter : Place → Place) (part : outline.Part) (place : Place) (rest : List Mark) → (enter place).declarations ≡ place.declarations → (enter place).functions ≡ place.functions → (enter place).around ≡ place.around → Walks part (enter place) → Between all (within enter part) place rest → Between all part (enter place) rest
between_within all enter part place rest d n a wp t =
    let r = t.reached in
    let end = (part (enter place)).next in
    let around : AllOf (λ g. g < (enter place).functions) (enter place).around = subst (λ k. AllOf (λ g. g < k) (enter place).around) (sym n) (subst (AllOf (λ g. g < place.functions)) (sym a) t.around_it) in
    let v = wp around in
    record {
      reached = record { before = r.before; is = r.is; declarations = r.declarations ∙ sym d; functions = r.functions ∙ sym n };
      before_it = subst (λ k. Mentions (Below k) r.before) (sym n) t.before_it;
      around_it = around;
      behind_it = mentions_more (Behind (within enter part place).next) (Behind end) (behind_before end (within enter part place).next (sym a ∙ sym v.same) (omega arith)) rest t.behind_it;
    }

-- the same part, written otherwise
pub between_as : (all : List Mark) (part other : outline.Part) (place : Place) (rest : List Mark) → part place ≡ other place → Between all part place rest → Between all other place rest
between_as all part other place rest e t =
    let r = t.reached in
    record {
      reached = record { before = r.before; is = r.is ∙ ap (λ w. r.before ++ (w.marks ++ rest)) e; declarations = r.declarations; functions = r.functions };
      before_it = t.before_it;
      around_it = t.around_it;
      behind_it = subst (λ w. Mentions (Behind w.next) rest) e t.behind_it;
    }

-- inside a function that is opened
pub between_function : (all : List Mark) (method : Bool) (body : FunctionBody) (place : Place) (rest : List Mark) → Between all (body_part method body) place rest → Between all (inside_part method body) (in_function (is_vararg_body body) place) rest
between_function all method (function_body params vararg block first last) place rest t =
    let r = t.reached in
    let part = inside_part method (function_body params vararg block first last) in
    let inside = in_function vararg place in
    let end = (part inside).next in
    let n = r.functions in
    let d = r.declarations in
    let w = inside_walked method (function_body params vararg block first last) inside inside (entered vararg place t.around_it) in
    let o = w.derived in
    record {
      reached = record {
        before = r.before ++ opened (innermost place.around) ∷ [];
        is = r.is ∙ sym (append_assoc r.before (opened (innermost place.around) ∷ []) ((part inside).marks ++ rest));
        declarations = let k = declared_both r.before (opened (innermost place.around) ∷ []) in omega (arith, k, d);
        functions = let k = opened_both r.before (opened (innermost place.around) ∷ []) in omega (arith, k, n);
      };
      before_it = mentions_both (Below (suc place.functions)) r.before (opened (innermost place.around) ∷ []) (mentions_more (Below place.functions) (Below (suc place.functions)) (λ means around h. below_more place.functions (suc place.functions) (omega arith) around h) r.before t.before_it) tt;
      around_it = (entered vararg place t.around_it).1;
      behind_it = mentions_more (Behind (body_part method (function_body params vararg block first last) place).next) (Behind end) (more end o.around) rest t.behind_it;
    }
  where
    one : (end : Place) → end.around ≡ place.functions ∷ place.around → (g : ℕ) → (is_one_of g place.around ≡ true) ⊎ (end.functions ≤ g) → (is_one_of g end.around ≡ true) ⊎ (end.functions ≤ g)
    one end a g (inl h) = inl (ap (is_one_of g) a ∙ front (g == place.functions) h)
      where
        front : (b : Bool) → is_one_of g place.around ≡ true → b || is_one_of g place.around ≡ true
        front true h = refl
        front false h = h
    one end a g (inr h) = inr h

    more : (end : Place) → end.around ≡ place.functions ∷ place.around → (means : Option Binding) (around : List ℕ) → AllOf (λ g. (is_one_of g place.around ≡ true) ⊎ (end.functions ≤ g)) around → Behind end means around
    more end a means around h = all_more (λ g. (is_one_of g place.around ≡ true) ⊎ (end.functions ≤ g)) (λ g. (is_one_of g end.around ≡ true) ⊎ (end.functions ≤ g)) (one end a) around h

-- the whole source stands between nothing and nothing
pub between_all : (ss : Statements) → Between (statements_part ss beginning).marks (statements_part ss) beginning []
between_all ss = record {
  reached = record { before = []; is = sym (append-nil (statements_part ss beginning).marks); declarations = refl; functions = refl };
  before_it = tt;
  around_it = (omega arith, tt);
  behind_it = tt;
}
