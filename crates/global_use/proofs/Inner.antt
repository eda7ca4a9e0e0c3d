-- The functions in one, by their numbers.
use Rattle.std.proofs.Common.{◌∙◌, ◌≡◌, ℕ, zero, suc, ◌<◌, ◌≤◌, true, false, List, [], ◌∷◌, length, map, Some, None, refl, sym, ap, get_or, not-suc-le-zero, le_of_suc-le-suc}
use Rattle.std.specs.Prelude.{nat_lt, option_map}
use Rattle.std.proofs.lemmas.Bool.{ltb-true, ltb-false}
use Rattle.proto.specs.Chunk.{own, Functions, functions_of, function_at}
use Rattle.proto.specs.View.{view_proto}
use Rattle.proto.specs.declared.proto.Proto.{Proto}

some_at : (xs : List Proto) (n : ℕ) (x : Proto) → n < length xs → x ≡ get_or xs n x → function_at (functions_of (map view_proto xs)) n ≡ Some (view_proto x)
some_at [] n x low is = absurd (not-suc-le-zero low)
some_at (y ∷ xs) zero x low is = ap (λ z. Some (view_proto z)) (sym is)
some_at (y ∷ xs) (suc n) x low is = some_at xs n x (le_of_suc-le-suc low) is

none_at : (xs : List Proto) (n : ℕ) → length xs ≤ n → function_at (functions_of (map view_proto xs)) n ≡ None
none_at [] n high = refl
none_at (y ∷ xs) zero high = absurd (not-suc-le-zero high)
none_at (y ∷ xs) (suc n) high = none_at xs n (le_of_suc-le-suc high)

pub inner_there : (inner : Functions) (xs : List Proto) (n upvalues : ℕ) (x : Proto) → inner ≡ functions_of (map view_proto xs) → true ≡ nat_lt n (length xs) → x ≡ get_or xs n x → upvalues ≡ (own (view_proto x)).upvalues → Some upvalues ≡ option_map (λ f. (own f).upvalues) (function_at inner n)
inner_there inner xs n upvalues x is low at has =
    ap Some has ∙ sym (ap (λ fs. option_map (λ f. (own f).upvalues) (function_at fs n)) is ∙ ap (option_map (λ f. (own f).upvalues)) (some_at xs n x (ltb-true n (length xs) (sym low)) at))

pub inner_past : (inner : Functions) (xs : List Proto) (n : ℕ) → inner ≡ functions_of (map view_proto xs) → false ≡ nat_lt n (length xs) → None ≡ option_map (λ f. (own f).upvalues) (function_at inner n)
inner_past inner xs n is high =
    sym (ap (λ fs. option_map (λ f. (own f).upvalues) (function_at fs n)) is ∙ ap (option_map (λ f. (own f).upvalues)) (none_at xs n (ltb-false n (length xs) (sym high))))
