-- The order of two texts by their bytes is that of std; an order of other operands asks a handler.
use Rattle.std.proofs.Common.{◌≡◌, ℕ, Bool, List, [], ◌∷◌, codes, refl, ap, sym, ◌∙◌, arith}
use Rattle.std.proofs.lemmas.Cmp.{same_from_slice_cmp_tested}
use Rattle.std.proofs.lemmas.Bool.Decides.{nat_tests}
use Rattle.std.specs.Cmp.Lexicographic.{slice_partial_cmp}
use Rattle.std.specs.Ordering.{nat_cmp, is_lt, is_some_and}
use Rattle.std.specs.Prelude.{true, None, Some, Result, Ok, Err, IfOk, if◌then◌else◌}
use Rattle.std.specs.declared.alloc.AllocError.{AllocError}
use Rattle.lua_model.specs.Datum.{Datum, number, text, is_nil}
use Rattle.lua_model.specs.Store.{Store}
use Rattle.lua_model.specs.Acts.{Act, call, truth, negated}
use Rattle.lua_heap.specs.State.{HeapState}
use Rattle.meta_ops.specs.declared.act.Act.{Act as Answer}
use Rattle.meta_ops.specs.Acts.{act_of}
use Rattle.lua_model.specs.Operators.{text_less, common_handler, ask_or, less, at_most, incomparable}
use Rattle.meta_ops.specs.Orders.{less_of, at_most_of}

pub is_text_less : (xs ys : List ℕ) (r : Bool) → r ≡ is_some_and is_lt (slice_partial_cmp (λ x y. Some (nat_cmp x y)) xs ys) → r ≡ text_less xs ys
is_text_less =
    same_from_slice_cmp_tested nat_cmp is_lt text_less refl (λ _ _. refl) (λ _ _. refl) (λ x y xs ys o h. grind (arith, nat_tests))

-- where the operands are neither two numbers nor two strings, a handler is asked

pub less_asks : (s : Store) (a b : Datum) → None ≡ less_of a b → less s a b ≡ ask_or (common_handler s a b (codes "__lt")) (a ∷ b ∷ []) truth (incomparable a b)
less_asks s (number a) (number b) h = cc
less_asks s (text a) (text b) h = cc
less_asks s a b h = refl

pub at_most_asks : (s : Store) (a b : Datum) → None ≡ at_most_of a b → at_most s a b ≡ ask_or (common_handler s a b (codes "__le")) (a ∷ b ∷ []) truth (ask_or (common_handler s a b (codes "__lt")) (b ∷ a ∷ []) negated (incomparable a b))
at_most_asks s (number a) (number b) h = cc
at_most_asks s (text a) (text b) h = cc
at_most_asks s a b h = refl

-- where there is no handler `__le`
pub at_most_swaps : (s : Store) (a b : Datum) → None ≡ at_most_of a b → is_nil (common_handler s a b (codes "__le")) ≡ true → ask_or (common_handler s a b (codes "__lt")) (b ∷ a ∷ []) negated (incomparable a b) ≡ at_most s a b
at_most_swaps s a b none absent =
    let choice : Bool → Act = λ v. if v then ask_or (common_handler s a b (codes "__lt")) (b ∷ a ∷ []) negated (incomparable a b) else call (common_handler s a b (codes "__le")) (a ∷ b ∷ []) truth in
    sym (ap choice absent) ∙ sym (at_most_asks s a b none)

pub acts_alike : (h : HeapState) (r : Result Answer AllocError) (x y : Act) → x ≡ y → IfOk r (λ a. act_of h a ≡ x) → IfOk r (λ a. act_of h a ≡ y)
acts_alike h (Ok a) x y e f = f ∙ e
acts_alike h (Err fault) x y e f = f
