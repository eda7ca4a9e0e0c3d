-- What is found of the functions in one, one after the other.
use Rattle.std.proofs.Common.{◌∙◌, ◌≡◌, ℕ, suc, ◌+◌, ◌<◌, ◌≤◌, false, List, [], ◌∷◌, ◌++◌, length, length-append, map, drop, None, Some, refl, sym, ap, subst, arith, append_assoc}
use Rattle.std.specs.Prelude.{Option, IfSome, IfNone, get_or}
use Rattle.std.proofs.Math.Seq.{drop-cons, drop-length}
use Rattle.proto.specs.Chunk.{Functions, no_functions, and_function, functions_of}
use Rattle.proto.specs.View.{view_proto}
use Rattle.proto.specs.declared.proto.Proto.{Proto}
use Rattle.rules.specs.declared.rule.Rule.{Rule}
use Rattle.rules.specs.Sound.{IsSound, AreSound, IsRejected, AreRejected}
use Rattle.verifier.specs.Verify.{AllJudged}
use Rattle.verifier.specs.declared.scan.Broken.{Broken}

-- all functions before the rest, which are k, are sound
pub record SoFar (inner rest : Functions) (k : ℕ) : Type 0 where
  pub sound : AreSound rest → AreSound inner
  pub rejected : (n : ℕ) (path : List ℕ) (pc : ℕ) (rule : Rule) → AreRejected rest n path pc rule → AreRejected inner (k + n) path pc rule

abbrev pub left_of : List Proto → ℕ → Functions
left_of protos k = functions_of (map view_proto (drop k protos))

pub none_yet : (inner : Functions) → SoFar inner inner 0
none_yet inner = record { sound = λ s. s; rejected = λ n path pc rule r. subst (λ m. AreRejected inner m path pc rule) (from_zero n) r }
  where
    from_zero : (n : ℕ) → n ≡ 0 + n
    from_zero n = omega arith

left_at : (protos : List Proto) (k : ℕ) (x : Proto) → k < length protos → x ≡ get_or protos k x → left_of protos k ≡ and_function (view_proto x) (left_of protos (k + 1))
left_at protos k x low at = ap (λ ps. functions_of (map view_proto ps)) (drop-cons protos k x low) ∙ ap (λ y. and_function (view_proto y) (left_of protos (suc k))) (sym at) ∙ ap (λ n. and_function (view_proto x) (left_of protos n)) (one_more k)
  where
    one_more : (n : ℕ) → suc n ≡ n + 1
    one_more n = omega arith

pub one_sound : (inner : Functions) (protos : List Proto) (k : ℕ) (x : Proto) → k < length protos → x ≡ get_or protos k x → IsSound (view_proto x) false → SoFar inner (left_of protos k) k → SoFar inner (left_of protos (k + 1)) (k + 1)
one_sound inner protos k x low at is so = go (subst (λ rest. SoFar inner rest k) (left_at protos k x low at) so)
  where
    go : SoFar inner (and_function (view_proto x) (left_of protos (k + 1))) k → SoFar inner (left_of protos (k + 1)) (k + 1)
    go s = record { sound = λ rest. s.sound (is, rest); rejected = λ n path pc rule r. subst (λ m. AreRejected inner m path pc rule) (shifted n) (s.rejected (suc n) path pc rule (is, r)) }
      where
        shifted : (n : ℕ) → k + suc n ≡ (k + 1) + n
        shifted n = omega arith

pub one_rejected : (inner : Functions) (protos : List Proto) (k : ℕ) (x : Proto) (before pushed now : List ℕ) (broken : Broken) → k < length protos → x ≡ get_or protos k x → SoFar inner (left_of protos k) k → pushed ≡ before ++ k ∷ [] → ((path : List ℕ) × (now ≡ pushed ++ path) × IsRejected (view_proto x) false path broken.pc broken.rule) → AllJudged inner before now (Some broken)
one_rejected inner protos k x before pushed now broken low at so pushes r =
    (k, r.0, r.1 ∙ ap (λ p. p ++ r.0) pushes ∙ append_assoc before (k ∷ []) r.0, go (subst (λ rest. SoFar inner rest k) (left_at protos k x low at) so))
  where
    go : SoFar inner (and_function (view_proto x) (left_of protos (k + 1))) k → AreRejected inner k r.0 broken.pc broken.rule
    go s = subst (λ m. AreRejected inner m r.0 broken.pc broken.rule) (from_k k) (s.rejected 0 r.0 broken.pc broken.rule r.2)
      where
        from_k : (n : ℕ) → n + 0 ≡ n
        from_k n = omega arith

pub all_sound : (inner : Functions) (protos : List Proto) (k : ℕ) → length protos ≤ k → k ≤ length protos → SoFar inner (left_of protos k) k → AreSound inner
all_sound inner protos k past within so = so.sound (subst AreSound (sym none) tt)
  where
    same : k ≡ length protos
    same = omega (arith, past, within)

    none : left_of protos k ≡ no_functions
    none = ap (left_of protos) same ∙ ap (λ ps. functions_of (map view_proto ps)) (drop-length protos)

front : List ℕ → List ℕ
front [] = []
front (x ∷ []) = []
front (x ∷ (y ∷ rest)) = x ∷ front (y ∷ rest)

front-push : (xs : List ℕ) (x : ℕ) → front (xs ++ x ∷ []) ≡ xs
unfolding front
front-push [] x = refl
front-push (y ∷ []) x = refl
front-push (y ∷ (z ∷ rest)) x = ap (λ ys. y ∷ ys) (front-push (z ∷ rest) x)

-- a path whose last number is taken away again
pub popped : (last : Option ℕ) (base pushed now after : List ℕ) (k : ℕ) → pushed ≡ base ++ k ∷ [] → now ≡ pushed → IfSome last (λ n. now ≡ after ++ n ∷ []) → IfNone last ((now ≡ []) × (after ≡ [])) → after ≡ base
popped None base pushed now after k pushes same some none = absurd (omega (arith, ap length (sym pushes ∙ sym same ∙ none.0), length-append base (k ∷ [])))
popped (Some n) base pushed now after k pushes same some none = sym (front-push after n) ∙ ap front (sym some ∙ same ∙ pushes) ∙ front-push base k
