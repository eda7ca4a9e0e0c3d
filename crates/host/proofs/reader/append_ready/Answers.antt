use Rattle.std.proofs.Common.{◌≡◌, ◌≢◌, ◌≤◌, ◌<◌, Bool, true, false, Result, refl, ◌-◌, All, Ok, take, drop, sym, ap, subst, ◌∙◌, rules, arith, eq-eqb, eqb-true, get_or, get_or-take, length, length-take-le, []}
use Rattle.std.proofs.lemmas.List.Elements.{All-more}
use Rattle.std.specs.Io.{StopsAt, IsEmptyOrEndsWith}
use Rattle.std.specs.Io.KnownBytes.{Consumes}
use Rattle.std.specs.Io.BufRead.{FillKeeps, DropsConsumable}
use Rattle.std.proofs.KnownBytes.{Consumes-nil, Consumes-kept}
use Rattle.std.proofs.BufReadLemmas.{Consumes_shown, zero_unless_positive}
use Rattle.std.proofs.Transfers.{starts_with_of_eq, starts_with_of_append, drop-appended, StopsAt-of_none_appended, StopsAt-take, All-of_none_appended}
use Rattle.host.proofs.LineFronts.{nothing_appended, none_appended}
use Rattle.host.proofs.reader.append_ready.Goals.{then-end-eq0, else-end-eq0}
use Rattle.host.proofs.reader.append_ready.Goals as goal

-- an answer is not both
apart : {E : Type 0} (result : Result Bool E) (b : Bool) → result ≡ Ok b → result ≡ Ok false → b ≡ true → ⊥
apart result b is is_not holds = cc

pub returns-in_err-extend_from_slice : goal.returns-in_err-extend_from_slice
returns-in_err-extend_from_slice g c =
    let items = c.in_err-extend_from_slice.ensures.items in
    let old = c.args.line.now.items in
    let new = c.extend_from_slice.new.self.items in
    record {
      appends = starts_with_of_eq new old items;
      within = none_appended old new c.args.most items;
      stops = StopsAt-of_none_appended old new 10 items;
      bytes = subst (Consumes _ _) (sym (nothing_appended old new items)) (Consumes-kept _ _ _ [] (Consumes-nil _) c.fill_buf.follows.holds-at-none.0);
      end = search rules;
      unfinished = λ _. All-of_none_appended old new 10 items;
      done = search rules;
      some = search rules;
      nothing = search rules;
    }

pub returns : goal.returns
returns g c =
    let items = c.in_ok-extend_from_slice.ensures.items in
    let old = c.args.line.now.items in
    let new = c.extend_from_slice.new.self.items in
    let end = c.len_through-end in
    let tail : take end.result c.in-Ok.available.now ≡ drop (length old) new = sym (drop-appended old new _ items) in
    let rested = c.fill_buf.follows.lender-at-none in
    let filled = subst (FillKeeps _ (g.R.Read.remaining rested) (g.R.BufRead.consumable_len rested)) c.in-Ok.is c.fill_buf.follows.holds-at-none in
    let same : c.if-end-eq0.reader ≡ rested = search rules in
    let drops = subst (λ r. DropsConsumable (g.R.Read.remaining r) (g.R.Read.remaining c.consume.new.self) (g.R.BufRead.consumable_len r) end.result) same c.consume.ensures.bytes in
    let moved = Consumes_shown _ _ _ _ c.in-Ok.available.now end.result end.ensures.bound c.in-Ok.ensures.front c.in-Ok.ensures.end filled.0 filled.1 drops in
    let long = length-take-le end.result c.in-Ok.available.now end.ensures.bound in
    record {
      appends = starts_with_of_append _ _ _ items;
      within = subst (λ l. length l ≤ c.args.most) tail (omega (arith, long, end.ensures.within));
      stops = subst (λ l. StopsAt l 10) tail (StopsAt-take _ _ _ end.ensures.bound end.ensures.before);
      bytes = subst (Consumes _ _) tail moved.0;
      end = λ _ room none.
          let zero : end.result ≡ 0 = sym long ∙ ap length tail ∙ none in
          moved.1 (zero_unless_positive _ _ (λ some. end.ensures.some some room) zero);
      unfinished = λ more. subst (All (λ x. x ≢ 10)) tail (elim c.if-end-eq0.branch [
        | then-end-eq0 w ↦ absurd (more (ap Ok (search rules)))
        | else-end-eq0 w ↦ subst (λ k. All (λ x. x ≢ 10) (take k c.in-Ok.available.now)) (omega (arith, w.if-end-eq0.false))
            (All-more (λ x. x ≢ 10) _ (end.result - 1) 0 (omega (arith, w.if-end-eq0.false, end.ensures.bound)) end.ensures.before (λ e. more (ap Ok (w.is_done-is ∙ eq-eqb _ _ e))))
      ]);
      done = λ done. subst (λ l. IsEmptyOrEndsWith l 10) tail (λ some.
          elim c.if-end-eq0.branch [
            | then-end-eq0 w ↦ absurd (omega (arith, w.if-end-eq0.true))
            | else-end-eq0 w ↦ ap (λ n. get_or (take end.result c.in-Ok.available.now) (n - 1) 0) long
                ∙ get_or-take end.result c.in-Ok.available.now (end.result - 1) 0 (omega arith) ∙ eqb-true _ _ (sym w.is_done-is ∙ search rules)
          ]);
      some = λ more. subst (λ l. 0 < length l) tail (elim c.if-end-eq0.branch [
        | then-end-eq0 w ↦ absurd (apart _ _ refl more (search rules))
        | else-end-eq0 w ↦ omega (arith, long, w.if-end-eq0.false)
      ]);
      nothing = search rules;
    }
