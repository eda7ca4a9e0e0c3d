-- A source that keeps the rules of scoping has at most 60 upvalues in each function, and each break of it stands in a loop.
use Rattle.std.proofs.Common.{◌≡◌, ◌≤◌, ℕ, Bool, true, false, not, ◌&&◌, ◌||◌, List, [], ◌∷◌, ◌++◌, length, refl, sym, ap, ◌∙◌, subst, append_assoc, append-nil, true≢false, arith}
use Rattle.std.specs.Prelude.{Option, Some, None, nat_lt, ◌==◌, if◌then◌else◌}
use Rattle.std.specs.Option.{option_or}
use Rattle.std.proofs.lemmas.Bool.{ltb-false, eqb-true}
use Rattle.lua_tree.specs.Outline.{Mark, mention, local_name, hidden_local, dots, leave, opened, outline}
use Rattle.lua_tree.specs.Scoping.{Breach, too_many_upvalues, upvalue_breach, breach_at, first_breach, Scoped, upvalues_of, is_known, is_one_of, inside_of}
use Rattle.lua_tree.specs.Syntax.{Source}
use Rattle.scheme_stands.specs.Placed.{RulesKept}
use Rattle.scheme_stands.proofs.Names.{behind_both}

first_none : (a b : Option Breach) → option_or a b ≡ None → a ≡ None
first_none None b h = refl
first_none (Some x) b h = cc

second_none : (a b : Option Breach) → option_or a b ≡ None → b ≡ None
second_none None b h = h
second_none (Some x) b h = cc

within_by : (b : Bool) (x : Breach) → (if b then Some x else None) ≡ None → b ≡ false
within_by true x h = cc
within_by false x h = refl

few_by : (line : ℕ) (marks : List Mark) (functions : List ℕ) (f : ℕ) → upvalue_breach line marks functions ≡ None → is_one_of f functions ≡ true → length (upvalues_of f marks) ≤ 60
few_by line marks [] f h k = absurd (true≢false (sym k))
few_by line marks (g ∷ functions) f h k = go (f == g) refl (few_by line marks functions f (second_none _ _ h))
  where
    go : (b : Bool) → (f == g) ≡ b → (is_one_of f functions ≡ true → length (upvalues_of f marks) ≤ 60) → length (upvalues_of f marks) ≤ 60
    go true e r =
        let few : length (upvalues_of g marks) ≤ 60 = ltb-false 60 (length (upvalues_of g marks)) (within_by (nat_lt 60 (length (upvalues_of g marks))) (too_many_upvalues line (length (upvalues_of g marks))) (first_none _ _ h)) in
        subst (λ n. length (upvalues_of n marks) ≤ 60) (sym (eqb-true f g e)) few
    go false e r = r (sym (ap (λ b. b || is_one_of f functions) e) ∙ k)

-- one mark more
few_next : (before : List Mark) (mark : Mark) (f : ℕ) → breach_at before mark ≡ None → length (upvalues_of f before) ≤ 60 → length (upvalues_of f (before ++ mark ∷ [])) ≤ 60
few_next before (mention line name (Some b) around) f h l = go (is_one_of f (inside_of b.home around)) refl
  where
    go : (c : Bool) → is_one_of f (inside_of b.home around) ≡ c → length (upvalues_of f (before ++ mention line name (Some b) around ∷ [])) ≤ 60
    go true e = few_by line (before ++ mention line name (Some b) around ∷ []) (inside_of b.home around) f h e
    go false e =
        let same : upvalues_of f (before ++ mention line name (Some b) around ∷ []) ≡ upvalues_of f before =
        behind_both f [] before (mention line name (Some b) around ∷ [])
        ∙ ap (λ c. if c && not (is_known b.declaration (upvalues_of f before)) then upvalues_of f before ++ b ∷ [] else upvalues_of f before) e in
        subst (λ us. length us ≤ 60) (sym same) l
few_next before (mention line name None around) f h l = subst (λ us. length us ≤ 60) (sym (behind_both f [] before (mention line name None around ∷ []))) l
few_next before (local_name line reached) f h l = subst (λ us. length us ≤ 60) (sym (behind_both f [] before (local_name line reached ∷ []))) l
few_next before (hidden_local line reached) f h l = subst (λ us. length us ≤ 60) (sym (behind_both f [] before (hidden_local line reached ∷ []))) l
few_next before (dots line vararg) f h l = subst (λ us. length us ≤ 60) (sym (behind_both f [] before (dots line vararg ∷ []))) l
few_next before (leave line looped) f h l = subst (λ us. length us ≤ 60) (sym (behind_both f [] before (leave line looped ∷ []))) l
few_next before (opened outer) f h l = subst (λ us. length us ≤ 60) (sym (behind_both f [] before (opened outer ∷ []))) l

few_all : (before marks : List Mark) (f : ℕ) → first_breach before marks ≡ None → length (upvalues_of f before) ≤ 60 → length (upvalues_of f (before ++ marks)) ≤ 60
few_all before [] f h l = subst (λ ms. length (upvalues_of f ms) ≤ 60) (sym (append-nil before)) l
few_all before (mark ∷ marks) f h l =
    subst (λ ms. length (upvalues_of f ms) ≤ 60) (append_assoc before (mark ∷ []) marks)
    (few_all (before ++ mark ∷ []) marks f (second_none (breach_at before mark) (first_breach (before ++ mark ∷ []) marks) h) (few_next before mark f (first_none (breach_at before mark) (first_breach (before ++ mark ∷ []) marks) h) l))

upvalues_few : (source : Source) (f : ℕ) → Scoped source → length (upvalues_of f (outline source)) ≤ 60
upvalues_few source f h = few_all [] (outline source) f h (omega arith)

-- each break stands in a loop
leave_looped : (before xs : List Mark) (line : ℕ) (looped : Bool) (rest : List Mark) → first_breach before (xs ++ leave line looped ∷ rest) ≡ None → looped ≡ true
leave_looped before [] line true rest h = refl
leave_looped before [] line false rest h = let no = first_none (breach_at before (leave line false)) (first_breach (before ++ leave line false ∷ []) rest) h in cc
leave_looped before (mark ∷ xs) line looped rest h = leave_looped (before ++ mark ∷ []) xs line looped rest (second_none (breach_at before mark) (first_breach (before ++ mark ∷ []) (xs ++ leave line looped ∷ rest)) h)

pub kept : (source : Source) → Scoped source → RulesKept (outline source)
kept source h = record { few = λ f. upvalues_few source f h; in_loop = λ before line looped rest is. leave_looped [] before line looped rest (sym (ap (first_breach []) is) ∙ h) }
