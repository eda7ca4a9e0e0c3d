-- Lists that are adjusted to a number of values: they add the uses of their mentions, and there are registers for the values.
use Rattle.std.proofs.Common.{◌≡◌, ◌≤◌, ◌<◌, ℕ, zero, suc, ◌+◌, ◌-◌, Bool, true, false, cond, List, [], ◌∷◌, ◌++◌, length, refl, sym, ap, ◌∙◌, subst, arith, true≢false}
use Rattle.std.specs.Prelude.{Some, None, nat_lt}
use Rattle.std.proofs.lemmas.Bool.{ltb-true, ltb-false}
use Rattle.opcode.specs.declared.op.Op.{Op}
use Rattle.scheme.specs.Making.{Maker, Part, free_from}
use Rattle.scheme.specs.Expressions.{Coded, next_reg}
use Rattle.scheme.specs.Lists.{all_next, all_multi, ends_open, nils, filled, adjust}
use Rattle.scheme_stands.proofs.Growth.{calm, Grown}
use Rattle.scheme_stands.proofs.Parts.{Grows, grows_all, grows_multi}
use Rattle.scheme_stands.proofs.Lines.{all_next_free}
use Rattle.source_globals.proofs.Owed.{Mention}
use Rattle.source_globals.proofs.Tally.{End, Last, Fine, Told, back, untake, still, both, on_abc}
use Rattle.source_globals.proofs.Values.{Speaks, next_low}
use Rattle.source_globals.proofs.Calls.{joined, AllSpeak, all_grow, all_next_told, all_multi_told}

module _ (z : End) where
  -- ---- the words

  filled_by_told : (b : Bool) (line : ℕ) (mss : List (List Mention)) (cs : List Coded) → AllSpeak z mss cs → ends_open cs ≡ b → (missing : ℕ) (m : Maker) →
      let part = cond b (all_multi Op.Call (Some (missing + 1)) cs) (λ m. nils line missing (all_next cs m)) in
      Last z (part m) → Fine z m → Told z (joined mss) m (part m)
  filled_by_told true line mss cs s o missing m l f = all_multi_told z (Some (missing + 1)) mss cs s o m l f
  filled_by_told false line mss cs s o missing m l f = on_abc z line Op.LoadNil _ _ 0 refl (all_next_told z mss cs s m (untake z (all_next cs m) _ l) f)

  adjust_by_told : (b : Bool) (line : ℕ) (mss : List (List Mention)) (cs : List Coded) → AllSpeak z mss cs → (n : ℕ) (m : Maker) →
      let part = cond b (filled line cs (n - length cs)) (λ k. free_from (m.free + n) (all_next cs k)) in
      Last z (part m) → Fine z m → Told z (joined mss) m (part m)
  adjust_by_told true line mss cs s n m l f = filled_by_told (ends_open cs) line mss cs s refl (n - length cs) m l f
  adjust_by_told false line mss cs s n m l f = all_next_told z mss cs s m l f

  pub adjust_told : (line : ℕ) (mss : List (List Mention)) (cs : List Coded) → AllSpeak z mss cs → (n : ℕ) (m : Maker) → Last z (adjust line cs n m) → Fine z m → Told z (joined mss) m (adjust line cs n m)
  adjust_told line mss cs s n m l f = adjust_by_told (nat_lt (length cs) n) line mss cs s n m l f

  -- ---- the registers

  all_next_low : (mss : List (List Mention)) (cs : List Coded) → AllSpeak z mss cs → 1 ≤ length cs → (m : Maker) → Last z (all_next cs m) → m.free + length cs ≤ 250
  all_next_low mss [] s k m l = absurd (omega (arith, k))
  all_next_low [] (c ∷ cs) s k m l = absurd s
  all_next_low (ms ∷ rest) (c ∷ []) s k m l = let low = next_low z c s.0.value m (back z (next_reg c m) _ (grows_all [] tt (next_reg c m)) l) in omega (arith, low)
  all_next_low (ms ∷ rest) (c ∷ d ∷ cs) s k m l =
      let h = all_next_low rest (d ∷ cs) s.1 (omega arith) (next_reg c m) l in
      let free = s.0.grows.to_free m.free m in
      omega (arith, h, free)

  all_multi_low : (n : ℕ) (mss : List (List Mention)) (cs : List Coded) → AllSpeak z mss cs → ends_open cs ≡ true → (m : Maker) → Last z (all_multi Op.Call (Some n) cs m) → m.free + length cs + n ≤ 251
  all_multi_low n mss [] s o m l = absurd (true≢false (sym o))
  all_multi_low n [] (c ∷ cs) s o m l = absurd s
  all_multi_low n (ms ∷ rest) (c ∷ []) s o m l = let low = s.0.multi_low o n m l in omega (arith, low)
  all_multi_low n (ms ∷ rest) (c ∷ d ∷ cs) s o m l =
      let h = all_multi_low n rest (d ∷ cs) s.1 o (next_reg c m) l in
      let free = s.0.grows.to_free m.free m in
      omega (arith, h, free)

  filled_low : (b : Bool) (line : ℕ) (mss : List (List Mention)) (cs : List Coded) → AllSpeak z mss cs → ends_open cs ≡ b → (missing : ℕ) (m : Maker) →
      Last z (cond b (all_multi Op.Call (Some (missing + 1)) cs) (λ m. nils line missing (all_next cs m)) m) → m.free + length cs + missing ≤ 250
  filled_low true line mss cs s o missing m l = let h = all_multi_low (missing + 1) mss cs s o m l in omega (arith, h)
  filled_low false line mss cs s o missing m l =
      let high = l.low in
      let free = all_next_free cs (all_grow z mss cs s) m in
      omega (arith, high, free)

  adjust_by_low : (b : Bool) (line : ℕ) (mss : List (List Mention)) (cs : List Coded) → AllSpeak z mss cs → (n : ℕ) → 1 ≤ n → nat_lt (length cs) n ≡ b → (m : Maker) →
      Last z (cond b (filled line cs (n - length cs)) (λ k. free_from (m.free + n) (all_next cs k)) m) → m.free + n ≤ 250
  adjust_by_low true line mss cs s n k e m l =
      let h = filled_low (ends_open cs) line mss cs s refl (n - length cs) m l in
      let less = ltb-true (length cs) n e in
      omega (arith, h, less)
  adjust_by_low false line mss cs s n k e m l =
      let more = ltb-false (length cs) n e in
      let h = all_next_low mss cs s (omega (arith, more, k)) m l in
      omega (arith, h, more)

  pub adjust_low : (line : ℕ) (mss : List (List Mention)) (cs : List Coded) → AllSpeak z mss cs → (n : ℕ) → 1 ≤ n → (m : Maker) → Last z (adjust line cs n m) → m.free + n ≤ 250
  adjust_low line mss cs s n k m l = adjust_by_low (nat_lt (length cs) n) line mss cs s n k refl m l
