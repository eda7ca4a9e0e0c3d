use Rattle.std.proofs.Common.{◌≡◌, ◌∙◌, ◌<◌, ◌≤◌, ap, sym, ℕ, suc, ◌-◌, false, length, drop, inl, inr, arith}
use Rattle.std.proofs.lemmas.Bool.{cases_lt}
use Rattle.std.proofs.lemmas.List.{drop_all}
use Rattle.recover_expr.specs.Entries.{Entries, entries_of, any_held}
use Rattle.recover_expr.proofs.EntriesAt.{behind_last, behind_none, none_here}
use Rattle.recover_expr.proofs.stack.Stack.behind_held.Goals as goal

-- none is held from the first place on, which can be behind all
none_from : (entries : Entries) (first above : ℕ) → any_held (drop above entries) ≡ false → above ≤ first → (first ≤ length entries → first ≤ above) → any_held (drop first entries) ≡ false
none_from entries first above none down up = elim (cases_lt (length entries) first) as (λ _. any_held (drop first entries) ≡ false) [
  | inl past ↦ ap any_held (drop_all first entries (omega (arith, past)))
  | inr within ↦ let here : first ≡ above = omega (arith, down, up within) in ap (λ n. any_held (drop n entries)) here ∙ none
]

pub returns-then-is_held : goal.returns-then-is_held
returns-then-is_held c = λ inside.
    let k = c.loop-above.above - 1 in
    let here : suc k ≡ c.loop-above.above = omega (arith, c.loop-above-test.true) in
    let above : c.args.place < k = omega (arith, inside, c.loop-above-test.true, c.saturating_add-first.ensures) in
    let result_is : c.saturating_add.result ≡ suc k = omega (arith, here, c.saturating_add.ensures, c.loop-above.auto.above, c.len-above.type_inv) in
    let none = ap (λ n. any_held (drop n (entries_of c.args.self.now))) here ∙ c.loop-above.invariant.none in
    result_is ∙ sym (behind_last (entries_of c.args.self.now) c.args.place k above (sym c.is_held.ensures ∙ c.if-is_held.true) none)

pub loop-above-preserved : goal.loop-above-preserved
loop-above-preserved c =
    let all = entries_of c.args.self.now in
    let k = c.loop-above.above - 1 in
    let here : suc k ≡ c.loop-above.above = omega (arith, c.loop-above-test.true) in
    record {
      none = none_here all k (sym c.is_held.ensures ∙ c.if-is_held.false) (ap (λ n. any_held (drop n all)) here ∙ c.loop-above.invariant.none);
      low = λ _. omega (arith, c.loop-above-test.true);
    }

pub returns : goal.returns
returns c = λ inside.
    let all = entries_of c.args.self.now in
    let first_is : c.saturating_add-first.result ≡ suc c.args.place = omega (arith, inside, c.saturating_add-first.ensures) in
    let none = none_from all c.saturating_add-first.result c.loop-above.above c.loop-above.invariant.none c.loop-above-test.false (λ (within : _). c.loop-above.invariant.low (omega (arith, within, c.len-above.ensures))) in
    first_is ∙ sym (behind_none all c.args.place (ap (λ n. any_held (drop n all)) (sym first_is) ∙ none))
