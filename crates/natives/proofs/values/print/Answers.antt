-- Each value is shown beside the names of the hosts.
use Rattle.std.proofs.Common.{[], ◌∷◌, ◌++◌, ap, sym, ◌∙◌}
use Rattle.std.specs.List.{join_with_byte}
use Rattle.lua_model.specs.Acts.{prints}
use Rattle.lua_heap.specs.State.{store_of}
use Rattle.natives.proofs.Texts.{all_shown}
use Rattle.natives.proofs.values.print.Goals as goal

pub returns : goal.returns
returns c =
    let h = c.args.heap.now in (
      (λ hosts e.
          let texts = ap (join_with_byte 9) (all_shown (store_of h hosts) h.host_names e h c.args.args.now) in
          ap (λ t. prints (t ++ 10 ∷ [])) (texts ∙ sym c.in_ok-piece.ensures) ∙ ap prints (sym c.in_ok-push.ensures.ok)),
      tt,
    )
