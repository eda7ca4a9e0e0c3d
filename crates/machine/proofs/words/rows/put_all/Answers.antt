use Rattle.std.proofs.Common.{◌≡◌, ◌∙◌, ◌+◌, suc, ap, subst, sym, arith, length-set}
use Rattle.std.specs.Prelude.{slice_set}
use Rattle.std.proofs.lemmas.List.Elements.{All-set}
use Rattle.lua_model.specs.declared.Value.{Value}
use Rattle.lua_model.specs.Datum.{adjusted}
use Rattle.lua_heap.specs.State.{IsOf}
use Rattle.rules.specs.State.{spliced}
use Rattle.rules.proofs.Lists.{length-adjusted}
use Rattle.machine.specs.Frames.{data_of}
use Rattle.machine.proofs.Rows.{put_next, nil_or_known, put_is}
use Rattle.machine.proofs.words.rows.put_all.Goals as goal

pub loop-k-preserved : goal.loop-k-preserved
loop-k-preserved c =
    let before = c.args.registers.now in
    let now = c.loop-k.registers in
    let k = c.loop-k.k in
    let place = c.args.first + k in
    let values = c.args.values.now in
    let v = c.value_or_nil.result in
    let so_far = c.loop-k.invariant in
    record {
      put = λ h.
          let next : suc k ≡ k + 1 = omega arith in
          ap (λ (w : Value). data_of h (slice_set now place w)) c.value_or_nil.ensures
          ∙ put_next h before now c.args.first k values (so_far.put h)
          ∙ ap (λ n. spliced (data_of h before) c.args.first (adjusted n (data_of h values))) next;
      known = λ h b vs. All-set (IsOf h) now place v (subst (IsOf h) (sym c.value_or_nil.ensures) (nil_or_known h values k vs)) (so_far.known h b vs);
      length_is = length-set now place v ∙ so_far.length_is;
    }

pub returns-clause-put : goal.returns-clause-put
returns-clause-put c h m =
    let vs = data_of h c.args.values.now in
    let whole : c.loop-k.k ≡ c.args.count = omega arith in
    put_is m h c.args.registers.now c.loop-k.registers c.args.first c.args.count (adjusted c.args.count vs) (length-adjusted c.args.count vs) c.requires.there (c.loop-k.invariant.put h ∙ ap (λ n. spliced (data_of h c.args.registers.now) c.args.first (adjusted n vs)) whole)
