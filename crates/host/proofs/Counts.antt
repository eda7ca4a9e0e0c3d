-- Counts that stand still at their end.
use Rattle.std.proofs.Common.{◌≡◌, ◌<◌, ◌≤◌, ◌+◌, ◌-◌, ◌^◌, ℕ, arith}
use Rattle.host.specs.Lines.{counted}

-- one count behind another
pub counted_more : (count now later k n : ℕ) → counted now 0 ≡ counted count k → later ≡ counted now n → counted later 0 ≡ counted count (k + n)
counted_more count now later k n so_far is = omega arith

-- a count of all that a line may have
pub counted_full : (count later k : ℕ) → counted later 0 ≡ counted count k → (0 < k → later ≤ 2 ^ 64 - 1) → k ≤ 67108864 → 67108864 ≤ k → later ≡ counted count 67108864
counted_full count later k so_far fits within full =
    let low : later ≤ 2 ^ 64 - 1 = fits (omega arith) in
    let is : k ≡ 67108864 = omega arith in
    omega arith
