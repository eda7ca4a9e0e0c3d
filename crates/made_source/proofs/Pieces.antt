-- Texts that grew piece by piece.
use Rattle.std.proofs.Common.{◌≡◌, List, ℕ, ◌++◌, ap, ◌∙◌, append_assoc}

pub two_more : (t u v a b : List ℕ) → u ≡ t ++ a → v ≡ u ++ b → v ≡ t ++ (a ++ b)
two_more t u v a b one other = other ∙ ap (λ (x : List ℕ). x ++ b) one ∙ append_assoc t a b

pub three_more : (t u v w a b c : List ℕ) → u ≡ t ++ a → v ≡ u ++ b → w ≡ v ++ c → w ≡ t ++ (a ++ (b ++ c))
three_more t u v w a b c one other last = two_more t u w a (b ++ c) one (two_more u v w b c other last)

pub four_more : (t u v w z a b c d : List ℕ) → u ≡ t ++ a → v ≡ u ++ b → w ≡ v ++ c → z ≡ w ++ d → z ≡ t ++ (a ++ (b ++ (c ++ d)))
four_more t u v w z a b c d one other third last = two_more t u z a (b ++ (c ++ d)) one (three_more u v w z b c d other third last)
