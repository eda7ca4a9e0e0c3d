-- Targets that are stored from registers, from right to left.
use Rattle.std.proofs.Common.{◌≡◌, ℕ, List, [], ◌∷◌, length, drop, refl, sym, ap, ◌∙◌}
use Rattle.std.proofs.Math.Seq.{drop-length}
use Rattle.scheme.specs.Making.{Maker}
use Rattle.scheme.specs.Expressions as parts
use Rattle.codegen.specs.Targets.{stored_back}

pub stored_back-none : (line : ℕ) (targets : List parts.Target) (m : Maker) → stored_back line targets [] m ≡ m
stored_back-none line [] m = refl
stored_back-none line (target ∷ targets) m = refl

pub stored_back-end : (line : ℕ) (targets : List parts.Target) (rs : List ℕ) (m : Maker) → m ≡ stored_back line targets (drop (length rs) rs) m
stored_back-end line targets rs m = sym (stored_back-none line targets m) ∙ ap (λ xs. stored_back line targets xs m) (sym (drop-length rs))
