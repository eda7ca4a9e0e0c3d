-- Blocks, their ends and the jumps around them stand, with their law, from the words that are made before them to those with them.
use Rattle.std.proofs.Common.{◌≡◌, ◌≤◌, ℕ, Bool, true, false, List, length, refl, ◌∙◌, arith}
use Rattle.std.specs.Prelude.{Option, Some, None, is_some}
use Rattle.lua_tree.specs.Outline.{Mark, Place, in_loop, stay, statements_part, within}
use Rattle.lua_tree.specs.Syntax.{Statements}
use Rattle.lua_tree.specs.WellFormed.{formed_statements}
use Rattle.opcode.specs.declared.op.Op.{Op}
use Rattle.scheme.specs.Making.{Maker, active_count, captured_from, end_locals, jump_to, when}
use Rattle.scheme.specs.Scheme.{statements_made}
use Rattle.scheme.specs.Statements.{Loop, block_part, close_from, end_block}
use Rattle.scheme.specs.declared.making.Active.{Active}
use Rattle.scheme.specs.declared.making.Piece.{Piece}
use Rattle.scheme_stands.specs.Placed.{RulesKept}
use Rattle.scheme_stands.specs.Relation.{StatementsAt}
use Rattle.scheme_stands.specs.Statements.{BlockAt}
use Rattle.scheme_stands.specs.Words.{Names, Plain, Spot, WordAt, asking}
use Rattle.scheme_stands.proofs.Blocks.{Settled, before_end, block_at, close_at, loop_at}
use Rattle.scheme_stands.proofs.Entering.{looped}
use Rattle.scheme_stands.proofs.Every.{statements_at}
use Rattle.scheme_stands.proofs.Growth.{Final, before, before_free, calm, fn_of, on_put, put_at, spot, start}
use Rattle.scheme_stands.proofs.Here.{here_loop, here_stay, tame_statements}
use Rattle.scheme_stands.proofs.Lifts.{Stands}
use Rattle.scheme_stands.proofs.Parts.{grows_when}
use Rattle.scheme_stands.proofs.Small.{Setting, field_a}
use Rattle.scheme_stands.proofs.Statements.{grow_statements}
use Rattle.scheme_stands.proofs.Words.{Lifted, abc_lift, alone, close_lift, jmp_lift}
use Rattle.reads_back.proofs.ExpressionsLawful.{statements_lift}
use Rattle.reads_back.specs.Through as through
use Rattle.reads_back.specs.Through.{BodyThrough, EndsThrough, JumpThrough, WordThrough}

-- the loop around, by its label or by the place of this
pub loop_same : (z : Maker) (loop : Option Loop) → loop_at z loop ≡ through.loop_at z loop
loop_same z None = refl
loop_same z (Some loop) = refl

pub loop_some : (z : Maker) (loop : Option Loop) → is_some (loop_at z loop) ≡ is_some loop
loop_some z None = refl
loop_some z (Some loop) = refl

-- before the end of a block
pub before_ends : {k : ℕ} {z : Maker} (line n : ℕ) (m : Maker) → Final k (end_block line n m) z → Final k m z
before_ends {k} {z} line n m final =
    let b = captured_from n m in
    let ended = end_locals n m in
    let grown = grows_when b (close_from line n) ended (on_put {v = calm} line (Piece.Abc Op.Close n 0 0) (start ended)) in
    before_end n m (before grown (before_free n (when b (close_from line n) ended) final))

module _ (all : List Mark) (rules : RulesKept all) (n : Names) (z : Maker) (setting : Setting n (fn_of z)) where
  -- ---- words

  pub jump_lifted : {k : ℕ} (line label : ℕ) (m : Maker) → Final k (jump_to line label m) z → Plain (fn_of z) (length m.items) → Lifted (fn_of z) (WordThrough (asking n (fn_of z)) z Op.Jmp 0 label line m) (spot (jump_to line label m))
  jump_lifted line label m final plain = jmp_lift n (fn_of z) (through.pc_of_label z label) (spot m) (spot (jump_to line label m)) plain (put_at line (Piece.Jump Op.Jmp 0 label) m final)

  pub jump_if_lifted : {k : ℕ} (more : Bool) (line label : ℕ) (m : Maker) → Final k (when more (jump_to line label) m) z → Plain (fn_of z) (length m.items) → Lifted (fn_of z) (JumpThrough (asking n (fn_of z)) z more line label m) (spot (when more (jump_to line label) m))
  jump_if_lifted true line label m final plain = jump_lifted line label m final plain
  jump_if_lifted false line label m final plain = record { is = tt; plain = plain }

  pub close_lifted : {k : ℕ} (line register : ℕ) (m : Maker) → register ≤ (fn_of z).size → Final k (close_from line register m) z → Plain (fn_of z) (length m.items) →
      Lifted (fn_of z) (WordAt (asking n (fn_of z)) (Piece.Abc Op.Close register 0 0) (spot m) (spot (close_from line register m))) (spot (close_from line register m))
  close_lifted line register m room final plain =
      abc_lift n (fn_of z) Op.Close register 0 0 (alone Op.Close refl) (field_a n (fn_of z) register setting room) (omega arith) (omega arith) (spot m) (spot (close_from line register m)) plain (put_at line (Piece.Abc Op.Close register 0 0) m final)

  pub ends_lifted : {k : ℕ} (line first : ℕ) (m : Maker) → first ≤ (fn_of z).size → Final k (end_block line first m) z → Plain (fn_of z) (length m.items) → Lifted (fn_of z) (EndsThrough (asking n (fn_of z)) line first m) (spot (end_block line first m))
  ends_lifted line first m room final plain =
      let b = captured_from first m in
      let ended = end_locals first m in
      close_lift n (fn_of z) b first (λ e. field_a n (fn_of z) first setting room) (spot m) (spot (end_block line first m)) plain (close_at z b line first ended (before_free first (when b (close_from line first) ended) final))

  -- ---- the statements of a block

  pub in_turn : (block : Statements) (at : Place) (rest : List Mark) (active : List Active) (p : Spot) → Stands all n (fn_of z) (within in_loop (statements_part block)) at rest active p → Stands all n (fn_of z) (statements_part block) (in_loop at) rest active p
  in_turn block at rest active p s = record { here = here_loop all (statements_part block) at rest p (tame_statements block) s.here; active_at = looped at active s.active_at; named = s.named; room = s.room; plain = s.plain }

  pub in_block : (block : Statements) (at : Place) (rest : List Mark) (active : List Active) (p : Spot) → Stands all n (fn_of z) (within stay (statements_part block)) at rest active p → Stands all n (fn_of z) (statements_part block) at rest active p
  in_block block at rest active p s = record { here = here_stay all (statements_part block) at rest p (tame_statements block) s.here; active_at = s.active_at; named = s.named; room = s.room; plain = s.plain }

  -- what is shown of the statements of a block
  abbrev pub IsThrough : Statements → Type 0
  IsThrough block =
      (loop : Option Loop) (m : Maker) (at : Place) (rest : List Mark) → formed_statements block ≡ true → Settled m → Final (length m.labels) (statements_made block loop m) z → is_some loop ≡ at.looped
      → Stands all n (fn_of z) (statements_part block) at rest m.active (spot m) → BodyThrough (asking n (fn_of z)) z loop block m

  pub statements_plain : (block : Statements) (loop : Option Loop) (m : Maker) (at : Place) (rest : List Mark) → formed_statements block ≡ true → Settled m → Final (length m.labels) (statements_made block loop m) z → is_some loop ≡ at.looped →
      Stands all n (fn_of z) (statements_part block) at rest m.active (spot m) → Plain (fn_of z) (length (statements_made block loop m).items)
  statements_plain block loop m at rest formed settled final some stands =
      let made = statements_made block loop m in
      let lifted = statements_lift all rules block formed n (fn_of z) setting (loop_at z loop) at rest m.active made.active (spot m) (spot made) (loop_some z loop ∙ some) stands (statements_at z block loop m settled final) in
      lifted.plain

  -- a block, and its end
  pub block_lifted : (line : ℕ) (block : Statements) → IsThrough block → (loop : Option Loop) (m : Maker) (at : Place) (rest : List Mark) → formed_statements block ≡ true → Settled m → Final (length m.labels) (block_part line (statements_made block loop) m) z → is_some loop ≡ at.looped →
      Stands all n (fn_of z) (statements_part block) at rest m.active (spot m) →
      Lifted (fn_of z) (BodyThrough (asking n (fn_of z)) z loop block m × EndsThrough (asking n (fn_of z)) line (active_count m) (statements_made block loop m)) (spot (block_part line (statements_made block loop) m))
  block_lifted line block through loop m at rest formed settled final some stands =
      let made = statements_made block loop m in
      let inside = before_ends line (active_count m) made final in
      let ends = ends_lifted line (active_count m) made stands.room final (statements_plain block loop m at rest formed settled inside some stands) in
      record { is = (through loop m at rest formed settled inside some stands, ends.is); plain = ends.plain }

  -- its words, with nothing asked of them
  pub block_words : (line : ℕ) (block : Statements) (loop : Option Loop) (m : Maker) → Settled m → Final (length m.labels) (block_part line (statements_made block loop) m) z → BlockAt (fn_of z) (StatementsAt (fn_of z) (loop_at z loop) block) m.active (spot m) (spot (block_part line (statements_made block loop) m))
  block_words line block loop m settled final = block_at z line (statements_made block loop) (StatementsAt (fn_of z) (loop_at z loop) block) (grow_statements block loop) (statements_at z block loop) m settled final
