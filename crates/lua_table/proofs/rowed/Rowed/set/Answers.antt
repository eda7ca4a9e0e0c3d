use Rattle.std.proofs.Common.{◌≡◌, ◌+◌, ◌<◌, false, List, length, sym, ap, subst, ◌∙◌, arith, Result, Ok, Err, OnOk, OnErr}
use Rattle.std.proofs.lemmas.Result.{on_ok_weaker}
use Rattle.lua_model.specs.declared.Value.{Value}
use Rattle.lua_table.specs.Entries.{has_place, with_entry, number_key}
use Rattle.lua_table.specs.Rows.{Split, marked, around, IsRowed, IsOutside}
use Rattle.lua_table.proofs.Mapped.{nil_kept}
use Rattle.lua_table.proofs.Around.{row_hit, rest_hit, set_rowed, written_rowed, grown}
use Rattle.lua_table.proofs.rowed.Rowed.set.Goals as goal

-- where a write ends either way
either_way : {E : Type 0} (r : Result (Unit {0}) E) (P : Split → Type 0) (new old written : Split) → OnOk r (new ≡ written) → OnErr r (new ≡ old) → P written → P old → P new
either_way (Ok x) P new old written p q w o = subst P (sym p) w
either_way (Err e) P new old written p q w o = subst P (sym q) o

pub invariant_of-self : goal.invariant_of-self
invariant_of-self c = set_rowed c.self.inside.rest c.self.inside.row.items c.in-Some.i c.args.value c.self.invariant

pub returns-in-Some-clause-pairs : goal.returns-in-Some-clause-pairs
returns-in-Some-clause-pairs c =
    let h = row_hit c.self.inside.rest c.self.inside.row.items c.in-Some.i c.args.key c.self.invariant (omega (arith, c.in-Some.ensures.found.0, c.len.ensures)) c.in-Some.ensures.found.1 in
    sym (h.written c.args.value) ∙ ap (λ ps. with_entry ps c.args.key c.args.value) c.self.view_is

pub invariant_of-self-then-not-goes_on : goal.invariant_of-self-then-not-goes_on
invariant_of-self-then-not-goes_on c =
    let s = c.self.inside.rest in
    let vs = c.self.inside.row.items in
    let outside : IsOutside (length vs) c.args.key = λ i l. c.in_default.ensures.missing i (omega (arith, l, c.len.ensures)) in
    either_way c.set.result (λ t. IsRowed t vs) c.set.new.self s (record s { pairs = with_entry s.pairs c.args.key c.args.value }) c.set.ensures.pairs c.set.ensures.refused (written_rowed s vs c.args.key c.args.value c.self.invariant outside) c.self.invariant

pub returns-then-not-goes_on-clause-pairs : goal.returns-then-not-goes_on-clause-pairs
returns-then-not-goes_on-clause-pairs c =
    let vs = c.self.inside.row.items in
    let m = rest_hit c.self.inside.rest vs c.args.key c.self.invariant.within (λ i l. c.in_default.ensures.missing i (omega (arith, l, c.len.ensures))) in
    on_ok_weaker c.set.result (λ p. ap (λ (t : Split). around t vs) p ∙ sym (m.written c.args.value) ∙ ap (λ ps. with_entry ps c.args.key c.args.value) c.self.view_is) c.set.ensures.pairs

pub returns-then-not-goes_on-clause-memory : goal.returns-then-not-goes_on-clause-memory
returns-then-not-goes_on-clause-memory c =
    let m = rest_hit c.self.inside.rest c.self.inside.row.items c.args.key c.self.invariant.within (λ i l. c.in_default.ensures.missing i (omega (arith, l, c.len.ensures))) in
    λ full. let r = c.set.ensures.memory full in (ap (λ ps. has_place ps c.args.key) (sym c.self.view_is) ∙ m.placed ∙ r.0, r.1)

pub returns-then-is_nil-clause-pairs : goal.returns-then-is_nil-clause-pairs
returns-then-is_nil-clause-pairs c =
    let m = rest_hit c.self.inside.rest c.self.inside.row.items c.args.key c.self.invariant.within (λ i l. c.in_default.ensures.missing i (omega (arith, l, c.len.ensures))) in
    let absent : has_place c.args.self.now c.args.key ≡ false = ap (λ ps. has_place ps c.args.key) (sym c.self.view_is) ∙ m.placed ∙ c.goes_on.ensures.apart c.if-not-goes_on.false in
    sym (nil_kept c.args.self.now c.args.key c.args.value absent (sym c.is_nil.ensures ∙ c.if-is_nil.true))

pub returns-in_err-push-clause-memory : goal.returns-in_err-push-clause-memory
returns-in_err-push-clause-memory c =
    let m = rest_hit c.self.inside.rest c.self.inside.row.items c.args.key c.self.invariant.within (λ i l. c.in_default.ensures.missing i (omega (arith, l, c.len.ensures))) in
    let absent : has_place c.args.self.now c.args.key ≡ false = ap (λ ps. has_place ps c.args.key) (sym c.self.view_is) ∙ m.placed ∙ c.goes_on.ensures.apart c.if-not-goes_on.false in
    λ full. (absent, sym c.is_nil.ensures ∙ c.if-is_nil.false)

pub returns-clause-pairs : goal.returns-clause-pairs
returns-clause-pairs c =
    let s = c.self.inside.rest in
    let vs = c.self.inside.row.items in
    let k = c.args.key in
    let outside : IsOutside (length vs) k = λ i l. c.in_default.ensures.missing i (omega (arith, l, c.len.ensures)) in
    let key : k ≡ number_key (length vs + 1) = subst (λ (ws : List Value). k ≡ number_key (length ws + 1)) c.as_slice.ensures.value (c.goes_on.ensures.next c.if-not-goes_on.false) in
    let last : 0 < length vs → s.before ≡ length s.pairs = subst (λ (ws : List Value). 0 < length ws → s.before ≡ length s.pairs) c.as_slice.ensures.value (c.goes_on.ensures.last c.if-not-goes_on.false) in
    ap (λ (t : Split). around t c.push.new.self.items) c.mark.ensures
    ∙ ap (λ ws. around (marked s) ws) c.in_ok-push.ensures.items
    ∙ grown s vs k c.args.value outside last (c.goes_on.ensures.apart c.if-not-goes_on.false) key (sym c.is_nil.ensures ∙ c.if-is_nil.false)
    ∙ ap (λ ps. with_entry ps k c.args.value) c.self.view_is
