-- There is one text that tells what a chunk uses.
use Rattle.std.proofs.Common.{◌≡◌, Bool, true, false, List, refl, sym, ap, ◌∙◌, true≢false}
use Rattle.std.specs.Prelude.{Contains}
use Rattle.std.specs.Bool.{Decides}
use Rattle.std.specs.BTreeSet.{BTreeSet}
use Rattle.std.specs.Cmp.Lexicographic.{slice_cmp}
use Rattle.std.specs.List.{flat_map}
use Rattle.std.specs.List.Sorted.{IsStrictlySortedBy}
use Rattle.std.specs.Ordering.{nat_cmp, eq_by_cmp}
use Rattle.std.specs.Set.{is_member}
use Rattle.std.proofs.lemmas.Cmp.{nat_list_cmp_total}
use Rattle.std.proofs.lemmas.Map.Lookups.{btree_set_from_contains, exact_bytes}
use Rattle.std.proofs.lemmas.Map.Made.{is_member-Decides}
use Rattle.std.proofs.lemmas.Map.Text.{is_eq-slice_cmp}
use Rattle.std.proofs.lemmas.Slice.Eq.{bytes_eq-Decides}
use Rattle.lua_num.specs.Bytes.{Text}
use Rattle.proto.specs.Chunk.{Chunk}
use Rattle.global_use.specs.Uses.{gets, sets, use_line, IsUseText}

abbrev pub text_eq : Text → Text → Bool
text_eq = eq_by_cmp (slice_cmp nat_cmp)

pub text_eq-Decides : (a b : Text) → Decides (text_eq a b) (a ≡ b)
text_eq-Decides a b = ((λ e. (bytes_eq-Decides a b).0 (sym (is_eq-slice_cmp a b) ∙ e)), (λ e. is_eq-slice_cmp a b ∙ (bytes_eq-Decides a b).1 e))

same_tests : (a b : Bool) → (a ≡ true → b ≡ true) → (b ≡ true → a ≡ true) → a ≡ b
same_tests true b there back = sym (there refl)
same_tests false true there back = absurd (true≢false (sym (back refl)))
same_tests false false there back = refl

-- lists in order that have the same names are one
same_names : (xs ys : List Text) → IsStrictlySortedBy (slice_cmp nat_cmp) xs → IsStrictlySortedBy (slice_cmp nat_cmp) ys → ((q : Text) → Contains xs q → Contains ys q) → ((q : Text) → Contains ys q → Contains xs q) → xs ≡ ys
same_names xs ys first second there back =
    let one : BTreeSet Text = record { keys = xs } in
    let other : BTreeSet Text = record { keys = ys } in
    let same : (q : Text) → is_member text_eq xs q ≡ is_member text_eq ys q = λ q.
    same_tests _ _ (λ e. (is_member-Decides text_eq-Decides ys q).1 (there q ((is_member-Decides text_eq-Decides xs q).0 e))) (λ e. (is_member-Decides text_eq-Decides xs q).1 (back q ((is_member-Decides text_eq-Decides ys q).0 e))) in
    btree_set_from_contains nat_list_cmp_total one other first second same exact_bytes

pub one_text : (chunk : Chunk) (a b : Text) → IsUseText chunk a → IsUseText chunk b → a ≡ b
one_text chunk a b first second =
    let names : first.names ≡ second.names =
    same_names first.names second.names first.are_used.ordered second.are_used.ordered
    (λ q has. (second.are_used.used q).1 ((first.are_used.used q).0 has)) (λ q has. (first.are_used.used q).1 ((second.are_used.used q).0 has)) in
    first.lines ∙ (ap (λ ns. flat_map (λ name. use_line name (gets chunk name) (sets chunk name)) ns) names ∙ sym second.lines)
