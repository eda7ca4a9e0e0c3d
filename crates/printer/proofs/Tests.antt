-- Tests that hold together.
use Rattle.std.proofs.Common.{◌≡◌, Bool, true, false, ◌&&◌, refl, ◌∙◌}

pub and_left : (a b : Bool) → a && b ≡ true → a ≡ true
and_left true b h = refl
and_left false b h = cc

pub and_right : (a b : Bool) → a && b ≡ true → b ≡ true
and_right true b h = h
and_right false b h = cc

pub both : (a b : Bool) → a ≡ true → b ≡ true → a && b ≡ true
both a b h i = rw (h, i) refl

-- what keeps two tests keeps both
pub kept : {a b c d : Bool} → (a ≡ true → c ≡ true) → (b ≡ true → d ≡ true) → a && b ≡ true → c && d ≡ true
kept {a} {b} {c} {d} one other h = both c d (one (and_left a b h)) (other (and_right a b h))

pub so : {a b : Bool} → b ≡ a → a ≡ true → b ≡ true
so e h = e ∙ h
