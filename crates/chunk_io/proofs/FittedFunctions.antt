-- The functions of a list, of which each is looked at in turn.
use Rattle.std.proofs.Common.{◌≡◌, ℕ, ◌+◌, ◌<◌, ◌≤◌, List, ◌∷◌, length, get_or, drop, drop-cons, map, refl, add-one}
use Rattle.std.proofs.lemmas.List.{drop_all}
use Rattle.proto.specs.Chunk.{functions_of}
use Rattle.proto.specs.View.{view_proto}
use Rattle.proto.specs.declared.proto.Proto.{Proto}
use Rattle.chunk_io.specs.declared.layout.Layout.{Layout}
use Rattle.chunk_io.specs.Items.{function_items, each_items}
use Rattle.chunk_io.proofs.Joined.{all_both, all_first, all_second}
use Rattle.chunk_io.proofs.Fitted.{All}

abbrev pub Fit : Layout → ℕ → List Proto → Type 0
Fit l nesting protos = All (each_items l nesting (functions_of (map view_proto protos)))

-- those before the rest fit
pub record FitSoFar (l : Layout) (nesting : ℕ) (protos rest : List Proto) : Type 0 where
  pub left : Fit l nesting protos → Fit l nesting rest
  pub all : Fit l nesting rest → Fit l nesting protos

first_of_rest : (protos : List Proto) (i : ℕ) (p : Proto) → i < length protos → p ≡ get_or protos i p → drop i protos ≡ p ∷ drop (i + 1) protos
first_of_rest protos i p lt is = rw (add-one, drop-cons protos i p, ← is) refl

pub fit_next : (l : Layout) (nesting : ℕ) (protos : List Proto) (i : ℕ) (p : Proto) → i < length protos → p ≡ get_or protos i p
    → FitSoFar l nesting protos (drop i protos) → All (function_items l nesting (view_proto p)) → FitSoFar l nesting protos (drop (i + 1) protos)
fit_next l nesting protos i p lt is so_far fits =
    let s = rw (first_of_rest protos i p lt is) at so_far in
    let items = function_items l nesting (view_proto p) in
    record { left = λ h. all_second items _ (s.left h); all = λ h. s.all (all_both items _ fits h) }

pub fit_misses : (l : Layout) (nesting : ℕ) (protos : List Proto) (i : ℕ) (p : Proto) → i < length protos → p ≡ get_or protos i p
    → FitSoFar l nesting protos (drop i protos) → ¬ (All (function_items l nesting (view_proto p))) → ¬ (Fit l nesting protos)
fit_misses l nesting protos i p lt is so_far fails = λ h.
    let s = rw (first_of_rest protos i p lt is) at so_far in
    fails (all_first (function_items l nesting (view_proto p)) _ (s.left h))

pub fit_all : (l : Layout) (nesting : ℕ) (protos : List Proto) (i : ℕ) → length protos ≤ i → FitSoFar l nesting protos (drop i protos) → Fit l nesting protos
fit_all l nesting protos i le so_far = let s = rw (drop_all i protos le) at so_far in s.all tt
