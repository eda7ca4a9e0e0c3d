-- What the marks of a part capture of what was declared before it: only what is in scope there, and of a function's body what the sources of its upvalues say.
use Rattle.std.proofs.Common.{◌≡◌, ◌≤◌, ◌<◌, inl, inr, ℕ, suc, Bool, true, false, not, ◌&&◌, ◌||◌, List, [], ◌∷◌, ◌++◌, Option, Some, None, refl, sym, ap, ap₂, ◌∙◌, subst, arith, if◌then◌else◌}
use Rattle.std.proofs.lemmas.Bool.{eqb-true, eq-eqb}
use Rattle.std.specs.List.{list_any}
use Rattle.std.specs.Prelude.{◌==◌}
use Rattle.lua_num.specs.Bytes.{Text}
use Rattle.lua_tree.specs.Outline as outline
use Rattle.lua_tree.specs.Outline.{Binding, Scope, Mark, mention, local_name, hidden_local, dots, leave, opened, innermost, Place, with_name, with_names, both, within, nothing, stay, in_loop, in_function, with_locals, come, declares, reaching, marked, mentions, path_part, all_params, statements_part, statement_part, branches_part, otherwise_part, step_part, body_part, expressions_part, expression_part, arguments_part, fields_part}
use Rattle.lua_tree.specs.Scoping.{Use, local_use, upvalue_use, global_use, use_in, uses_by, inside_of, is_captured, is_known, is_one_of, slot_of, upvalues_of}
use Rattle.lua_tree.specs.Syntax.{Expressions, Statements, FunctionBody, function_body}
use Rattle.scheme.specs.Making.{head_or}
use Rattle.scheme_stands.specs.Places.{AllOf, From, Here, Mentions, KnownFrom, Seen, inside_part}
use Rattle.scheme_stands.specs.Words.{Spot}
use Rattle.scheme_stands.proofs.KnownMarks.{Leads, MeansFrom, expressions_lead, inside_leads, same_place, statements_lead}
use Rattle.scheme_stands.proofs.Names.{sources_are}
use Rattle.scheme_stands.proofs.Origins.{all_more, entered, inside_walked}
use Rattle.scheme_stands.proofs.Upvalues.{AllBindings, Knows, captured_among, differ, knows_all, mentions_back, mentions_front, mentions_two, upvalues_all, upvalues_seen}
use Rattle.reads_back.proofs.Tests.{or_second, same_truth, first_of_both}

-- ---- lists of marks

-- a mention that captures a declaration, of which so much is known
record Capturing (P : Option Binding → List ℕ → Type 0) (declaration : ℕ) : Type 0 where
  binding : Binding
  around : List ℕ
  same : binding.declaration ≡ declaration
  known : P (Some binding) around

capturing : (P : Option Binding → List ℕ → Type 0) (d : ℕ) (marks : List Mark) → Mentions P marks → is_captured d marks ≡ true → Capturing P d
capturing P d [] each h = cc
capturing P d (mention line name (Some b) around ∷ marks) each h = by ((b.declaration == d) && not (b.home == innermost around)) refl h (capturing P d marks each.1)
  where
    by : (here : Bool) → ((b.declaration == d) && not (b.home == innermost around)) ≡ here → (here || is_captured d marks) ≡ true → (is_captured d marks ≡ true → Capturing P d) → Capturing P d
    by true e h later =
        record { binding = b; around = around; same = eqb-true b.declaration d (first_of_both (b.declaration == d) (not (b.home == innermost around)) e); known = each.0 }
    by false e h later = later h
capturing P d (mention line name None around ∷ marks) each h = capturing P d marks each.1 h
capturing P d (local_name line reached ∷ marks) each h = capturing P d marks each h
capturing P d (hidden_local line reached ∷ marks) each h = capturing P d marks each h
capturing P d (dots line vararg ∷ marks) each h = capturing P d marks each h
capturing P d (leave line looped ∷ marks) each h = capturing P d marks each h
capturing P d (opened outer ∷ marks) each h = capturing P d marks each h

-- ---- what is captured and was declared before is in scope

-- a declaration that is in scope at a place
abbrev pub InScope : Place → (declaration : ℕ) → Type 0
InScope place d = (name : Text) × (b : Binding) × (place.scope name ≡ Some b) × (b.declaration ≡ d)

in_scope : (place : Place) (d : ℕ) → d < place.declarations → Capturing (MeansFrom place) d → InScope place d
in_scope place d before c = by (c.known c.binding refl)
  where
    by : KnownFrom place c.binding → InScope place d
    by (inl there) = (there.0, c.binding, there.1, c.same)
    by (inr later) = let same = c.same in absurd (omega (arith, before, later, same))

pub captured_in_scope : (part : outline.Part) (place : Place) → Leads place part → (d : ℕ) → is_captured d (part place).marks ≡ true → d < place.declarations → InScope place d
captured_in_scope part place leads d is before = in_scope place d before (capturing (MeansFrom place) d (part place).marks (leads place (same_place place)).from is)

pub expressions_captured : (es : Expressions) (place : Place) (d : ℕ) → is_captured d (expressions_part es place).marks ≡ true → d < place.declarations → InScope place d
expressions_captured es place = captured_in_scope (expressions_part es) place (expressions_lead place es)

-- what is in scope with this declaration is of the running function
abbrev pub OnlyOwn : Place → (declaration : ℕ) → Type 0
OnlyOwn place d = (name : Text) (b : Binding) → place.scope name ≡ Some b → b.declaration ≡ d → b.home ≡ innermost place.around

-- ---- what a function captures that is opened at a place

abbrev pub is_local_use : (declaration : ℕ) → Use → Bool
is_local_use d (local_use declaration) = d == declaration
is_local_use d (upvalue_use slot) = false
is_local_use d global_use = false

-- a function makes an upvalue of what is mentioned in it, or in one inside it, and is declared in one around it
makes_upvalue : (home n : ℕ) (xs ys : List ℕ) → AllOf (λ g. g ≡ home → ⊥) xs → (n ≡ home → ⊥) → is_one_of n (inside_of home (xs ++ n ∷ ys)) ≡ true
makes_upvalue home n [] ys others apart =
    ap (λ b. is_one_of n (if b then [] else n ∷ inside_of home ys)) (differ n home apart) ∙ ap (λ b. b || is_one_of n (inside_of home ys)) (eq-eqb n n refl)
makes_upvalue home n (x ∷ xs) ys others apart =
    ap (λ b. is_one_of n (if b then [] else x ∷ inside_of home (xs ++ n ∷ ys))) (differ x home others.0)
    ∙ or_second (n == x) (is_one_of n (inside_of home (xs ++ n ∷ ys))) (makes_upvalue home n xs ys others.1 apart)

-- of upvalues of which this declaration is of the running function, it is one as its local
local_among : (f : ℕ) (all : List Mark) (d : ℕ) (bs : List Binding) → AllBindings (λ b. b.declaration ≡ d → b.home ≡ f) bs → list_any (is_local_use d) (uses_by f all bs) ≡ is_known d bs
local_among f all d [] each = refl
local_among f all d (b ∷ bs) each = ap₂ (λ (one others : Bool). one || others) (by (d == b.declaration) refl) (local_among f all d bs each.1)
  where
    other : (home : Bool) → (d == b.declaration) ≡ false → is_local_use d (if home then local_use b.declaration else upvalue_use (slot_of b.declaration (upvalues_of f all))) ≡ false
    other true e = e
    other false e = refl

    by : (same : Bool) → (d == b.declaration) ≡ same → is_local_use d (use_in f all (Some b)) ≡ same
    by true e =
        ap (λ home. is_local_use d (if home then local_use b.declaration else upvalue_use (slot_of b.declaration (upvalues_of f all)))) (eq-eqb b.home f (each.0 (sym (eqb-true d b.declaration e)))) ∙ e
    by false e = other (b.home == f) e

bindings_more : (P Q : Binding → Type 0) → ((b : Binding) → P b → Q b) → (bs : List Binding) → AllBindings P bs → AllBindings Q bs
bindings_more P Q more [] h = tt
bindings_more P Q more (b ∷ bs) h = (more b h.0, bindings_more P Q more bs h.1)

-- what is known is one of the bindings
known_one : (d : ℕ) (Q : Binding → Type 0) (bs : List Binding) → AllBindings Q bs → is_known d bs ≡ true → (b : Binding) × (b.declaration ≡ d) × Q b
known_one d Q [] each h = cc
known_one d Q (b ∷ bs) each h = by (d == b.declaration) refl h (known_one d Q bs each.1)
  where
    by : (here : Bool) → (d == b.declaration) ≡ here → (here || is_known d bs) ≡ true → (is_known d bs ≡ true → (b : Binding) × (b.declaration ≡ d) × Q b) → (b : Binding) × (b.declaration ≡ d) × Q b
    by true e h later = (b, sym (eqb-true d b.declaration e), each.0)
    by false e h later = later h

module _ (all : List Mark) (method : Bool) (params : List Text) (vararg : Bool) (block : Statements) (first last : ℕ) (place : Place) (rest : List Mark) (p : Spot) (h : Here all (body_part method (function_body params vararg block first last)) place rest p)
    (d : ℕ) (before : d < place.declarations) (own : OnlyOwn place d) where
  abbrev body : FunctionBody
  body = function_body params vararg block first last

  abbrev inner : Place
  inner = in_function vararg place

  abbrev inner_marks : List Mark
  inner_marks = (inside_part method body inner).marks

  -- a mention that captures it makes an upvalue
  abbrev Mentioned : Option Binding → List ℕ → Type 0
  Mentioned means around = From inner means around × MeansFrom place means around × Knows place.functions (upvalues_of place.functions all) means around

  each_mention : Mentions Mentioned inner_marks
  each_mention =
      let t = h.between in
      let r = t.reached in
      let n = place.functions in
      let known = upvalues_of n all in
      let w = inside_walked method body inner inner (entered vararg place t.around_it) in
      let led = inside_leads place params vararg block first last method (statements_lead place block) inner (record { declarations = omega arith; scope = λ name b e. inl (name, e) }) in
      let every : Mentions (Knows n known) (r.before ++ opened (innermost place.around) ∷ (inner_marks ++ rest)) = subst (λ marks. Mentions (Knows n known) marks) r.is (knows_all n [] all) in
      let inside = mentions_front (Knows n known) inner_marks rest (mentions_back (Knows n known) r.before (opened (innermost place.around) ∷ (inner_marks ++ rest)) every) in
      mentions_two (From inner) (λ means around. MeansFrom place means around × Knows n known means around) Mentioned (λ means around a b. (a, b.0, b.1)) inner_marks w.from
      (mentions_two (MeansFrom place) (Knows n known) (λ means around. MeansFrom place means around × Knows n known means around) (λ means around a b. (a, b)) inner_marks led.from inside)

  known_upvalue : is_captured d inner_marks ≡ true → is_known d (upvalues_of place.functions all) ≡ true
  known_upvalue is = by (capturing Mentioned d inner_marks each_mention is)
    where
      home_of : (c : Capturing Mentioned d) → KnownFrom place c.binding → c.binding.home ≡ innermost place.around
      home_of c (inl there) = own there.0 c.binding there.1 c.same
      home_of c (inr later) = let same = c.same in absurd (omega (arith, before, later, same))

      by : Capturing Mentioned d → is_known d (upvalues_of place.functions all) ≡ true
      by c =
          let n = place.functions in
          let k = c.known in
          let from : From inner (Some c.binding) c.around = k.0 in
          let s = h.scope in
          let t = h.between in
          let low = t.around_it in
          let home : c.binding.home ≡ s.function = home_of c (k.1 c.binding refl) ∙ ap innermost s.is in
          let below : s.function < n = (subst (AllOf (λ g. g < n)) s.is low).0 in
          let others : AllOf (λ g. g ≡ c.binding.home → ⊥) from.inside = all_more (λ g. suc n ≤ g) (λ g. g ≡ c.binding.home → ⊥) (λ g l e. omega (arith, l, e, home, below)) from.inside from.later in
          let makes : is_one_of n (inside_of c.binding.home c.around) ≡ true =
          ap (λ xs. is_one_of n (inside_of c.binding.home xs)) from.is ∙ makes_upvalue c.binding.home n from.inside place.around others (λ e. omega (arith, e, home, below)) in
          ap (λ e. is_known e (upvalues_of n all)) (sym c.same) ∙ k.2 c.binding refl makes

  captured_upvalue : is_known d (upvalues_of place.functions all) ≡ true → is_captured d inner_marks ≡ true
  captured_upvalue is =
      let Q : Binding → Type 0 = λ b. is_captured b.declaration inner_marks ≡ true in
      let one = known_one d Q (upvalues_of place.functions all) (upvalues_all all method body place rest h.between Q (captured_among place.functions inner_marks [] inner_marks refl)) is in
      ap (λ e. is_captured e inner_marks) (sym one.1) ∙ one.2

  opened_by : is_captured d inner_marks ≡ list_any (is_local_use d) (head_or [] p.ahead.sources)
  opened_by =
      let t = h.between in
      let f = innermost place.around in
      let known = upvalues_of place.functions all in
      same_truth (is_captured d inner_marks) (is_known d known) known_upvalue captured_upvalue
      ∙ sym (local_among f all d known (bindings_more (Seen place) (λ b. b.declaration ≡ d → b.home ≡ f) (λ b there same. own there.0 b there.1 same) known (upvalues_seen all method body place rest t)))
      ∙ ap (λ uses. list_any (is_local_use d) uses) (sym (sources_are all method body place rest p t.reached h.ahead))

-- a function that is opened at a place captures of the locals of the running function those that are sources of its upvalues
pub opened_captures : (all : List Mark) (method : Bool) (body : FunctionBody) (place : Place) (rest : List Mark) (p : Spot) → Here all (body_part method body) place rest p → (d : ℕ) → d < place.declarations → OnlyOwn place d →
    is_captured d (body_part method body place).marks ≡ list_any (is_local_use d) (head_or [] p.ahead.sources)
opened_captures all method (function_body params vararg block first last) place rest p h d before own = opened_by all method params vararg block first last place rest p h d before own
