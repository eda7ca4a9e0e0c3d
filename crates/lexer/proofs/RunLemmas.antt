-- A text begins with the run of bytes that std counts.
use Rattle.std.proofs.Common.{◌≡◌, ℕ, suc, ◌+◌, Bool, true, false, cond, List, [], ◌∷◌, length, take, refl, ap, one-add}
use Rattle.std.specs.List.{prefix_len}
use Rattle.std.proofs.lemmas.List.Folds.{length-prefix_len}
use Rattle.lexer.specs.Fronts.{RunFront}

run_longer : (test : ℕ → Bool) (byte n : ℕ) (text : List ℕ) → test byte ≡ true → RunFront test n text → RunFront test (1 + n) (byte ∷ text)
run_longer test byte n text passes run = record {
  front = byte ∷ run.front;
  after = run.after;
  is_front = record { whole = ap (λ t. byte ∷ t) run.is_front.whole; length_is = rw one-add (ap suc run.is_front.length_is) };
  run = record { each = (passes, run.run.each); longest = run.run.longest };
}

run_from : (test : ℕ → Bool) (byte : ℕ) (text : List ℕ) (passes : Bool) → test byte ≡ passes → RunFront test (prefix_len test text) text → RunFront test (cond passes (1 + prefix_len test text) 0) (byte ∷ text)
run_from test byte text true passes run = run_longer test byte (prefix_len test text) text passes run
run_from test byte text false passes run = record {
  front = [];
  after = byte ∷ text;
  is_front = record { whole = refl; length_is = refl };
  run = record { each = tt; longest = passes };
}

-- the first `prefix_len test text` bytes are the run
pub run_front : (test : ℕ → Bool) (text : List ℕ) → RunFront test (prefix_len test text) text
run_front test [] = record {
  front = [];
  after = [];
  is_front = record { whole = refl; length_is = refl };
  run = record { each = tt; longest = tt };
}
run_front test (byte ∷ text) = run_from test byte text (test byte) refl (run_front test text)

-- the run, where a count of `take_while` tells its length
pub counted_run : (test : ℕ → Bool) (n : ℕ) (text : List ℕ) → n ≡ length (take (prefix_len test text) text) → RunFront test n text
counted_run test n text counted = rw (counted, length-prefix_len test text) (run_front test text)
