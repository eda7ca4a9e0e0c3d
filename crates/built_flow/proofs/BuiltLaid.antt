-- What is built of a plan that lies on the steps of a function stands on them, where comparisons are on line 1 and the registers of variables are numbers of a step.
use Rattle.std.proofs.Common.{ℕ, false, List, [], length, map, sym, ap, ◌∙◌, arith}
use Rattle.std.specs.Prelude.{None, replicate}
use Rattle.lua_num.specs.Bytes.{Text}
use Rattle.lua_tree.specs.Syntax.{no_statements}
use Rattle.recover_expr.specs.Placing.{Steps}
use Rattle.scheme.specs.Making.{Ahead, Maker, active_count}
use Rattle.scheme.specs.Statements.{settle}
use Rattle.scheme.specs.declared.making.Item.{Item}
use Rattle.same_flow.specs.Renaming.{renamed_item}
use Rattle.same_flow.specs.SameFlow.{begun_of}
use Rattle.same_flow.proofs.FlowSame.{begun_settled, no_items}
use Rattle.same_flow.proofs.BlocksFollowed.{replicated, replicate_lasts}
use Rattle.same_flow.proofs.Endings.{numbered, end_none}
use Rattle.same_flow.proofs.Followed.{Follows, nought, append_nothing, settle_same}
use Rattle.built_flow.specs.BuiltLaid.{BuiltAreLaid}
use Rattle.built_flow.proofs.BlocksBuilt.{Block}
use Rattle.built_flow.proofs.ForsBuilt.{for_stands}
use Rattle.built_flow.proofs.LoopsBuilt.{at_start}
use Rattle.built_flow.proofs.PartsTaken.{all_of}
use Rattle.built_flow.proofs.PlansBuilt.{body_built}
use Rattle.built_flow.proofs.StepsTold.{run_of}

-- ---- the beginning

module _ (code : Steps) (params names : List Text) (ahead : Ahead) where
  abbrev begun : Maker
  begun = begun_of params names ahead

  abbrev last : ℕ
  last = length code.steps

  abbrev ends : List ℕ
  ends = replicate (active_count begun) last

  starts : Follows (run_of code params names ahead) nought nought begun ends 0
  starts = record {
    behind = [];
    all_ends = sym (append_nothing ends);
    count = replicated (active_count begun) last;
    gone = tt;
    same =
        ap (λ (items : List Item). record begun { items = items; labels = [] }) (ap (map (renamed_item nought)) (no_items params names ahead) ∙ sym (ap (map (renamed_item nought)) (no_items params names ahead)))
        ∙ ap (numbered nought) (sym (ap settle (end_none begun) ∙ settle_same begun (begun_settled params names ahead)));
  }

  abbrev whole : Block (run_of code params names ahead)
  whole = record { exit = None; stop = last; loop = None; maker = begun; ends = ends; from = 0; follows = starts; matches = tt; lasts = replicate_lasts (active_count begun) last }

-- what is built of a plan that lies stands on the steps
pub built_are_laid : BuiltAreLaid
built_are_laid code plain one few params names ahead told plans lies block behind e =
    let own_block = whole code params names ahead in
    (body_built code params names ahead told plain one
    (λ around_block step numeric to body parts builds of h lying made f. for_stands code params names ahead told plain one few around_block step numeric to body parts builds of h lying made f)
    plans own_block no_statements 0 (length code.steps) false code.parts
    (at_start code params names ahead told plain own_block code.parts (all_of code.parts)) (omega arith) lies (block, behind) e).laid
