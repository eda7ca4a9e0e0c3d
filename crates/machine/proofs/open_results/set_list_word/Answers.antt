use Rattle.std.proofs.Common.{◌≡◌, ◌∙◌, ◌+◌, suc, length, get_or, Option, Some, refl, ap, arith}
use Rattle.std.specs.Prelude.{ℕ, slice_get, if◌then◌else◌}
use Rattle.std.proofs.lemmas.Bool.{eq-eqb, ne_eqb}
use Rattle.std.proofs.lemmas.Option.{slice_get-get_or, slice_get_read, get_or_from_slice_get}
use Rattle.std.proofs.lemmas.Result.{IfOk-weaker}
use Rattle.opcode.specs.declared.op.Op.TheVariants as op
use Rattle.opcode.specs.declared.word.Instr.{Instr}
use Rattle.proto.specs.Chunk.{own}
use Rattle.rules.specs.State.{State, need, at_pc}
use Rattle.rules.specs.Calls.{skip}
use Rattle.rules.specs.Step.{effect, do_setlist}
use Rattle.machine.specs.Seen.{seen}
use Rattle.machine.proofs.SeenWords.{top_function, top_runs, seen_from}
use Rattle.machine.proofs.open_results.set_list_word.Goals as goal

pub set_list_block-requires : goal.set_list_block-requires
set_list_block-requires c =
    let safe = c.requires.safe in
    let f = top_function c.args.functions.now c.args.running.now safe in
    let fits = c.requires.fits f.0 f.1 in
    record { shares = safe.shares; results = safe.top_frame.results; a = fits.0; field = fits.1; block = omega (arith, c.if-i-ne0.true); there = fits.2 }

-- the block number is in C
block_in_word : (m : State) (i : Instr) → (i.c ≡ 0 → ⊥) → effect op.SetList m i ≡ do_setlist m i i.c
block_in_word m i some = ap (λ b. if b then need (slice_get (own m.top.function).code m.top.pc) (λ block. do_setlist (skip m) i block) else do_setlist m i i.c) (ne_eqb i.c 0 some)

-- or behind the word
block_behind : (m : State) (i : Instr) (block : ℕ) → i.c ≡ 0 → slice_get (own m.top.function).code m.top.pc ≡ Some block → effect op.SetList m i ≡ do_setlist (at_pc m (m.top.pc + 1)) i block
block_behind m i block none at =
    let behind : suc m.top.pc ≡ m.top.pc + 1 = omega arith in
    ap (λ b. if b then need (slice_get (own m.top.function).code m.top.pc) (λ block. do_setlist (skip m) i block) else do_setlist m i i.c) (eq-eqb i.c 0 none)
    ∙ ap (λ (o : Option ℕ). need o (λ block. do_setlist (skip m) i block)) at
    ∙ ap (λ n. do_setlist (at_pc m n) i block) behind

pub returns-then-i-ne0 : goal.returns-then-i-ne0
returns-then-i-ne0 c =
    let old = c.args.running.now in
    let fs = c.args.functions.now in
    let i = c.args.i in
    let f = top_function fs old c.requires.safe in
    record {
      does = IfOk-weaker c.set_list_block.result _ _ (λ did does.
          seen_from fs (λ m. effect op.SetList m i) (λ m. do_setlist m i i.c) old c.set_list_block.new.running old.top.pc did
          (λ chunk a whole. block_in_word (seen chunk a old) i c.if-i-ne0.true) (does fs f.0 f.1)) c.set_list_block.ensures;
    }

pub index-block-requires : goal.index-block-requires
index-block-requires c =
    let n = c.args.running.now.top.function in
    let fs = c.args.functions.now in
    let f = get_or fs n c.index-functions-running.result in
    let fits = c.requires.fits f (slice_get-get_or fs n c.index-functions-running.result c.requires.safe.top_frame.function) in
    omega (arith, f.code.ok.0, (fits.3 c.if-i-ne0.false).0)

pub overflow_add-running : goal.overflow_add-running
overflow_add-running c =
    let n = c.args.running.now.top.function in
    let fs = c.args.functions.now in
    let f = get_or fs n c.index-functions-running.result in
    let fits = c.requires.fits f (slice_get-get_or fs n c.index-functions-running.result c.requires.safe.top_frame.function) in
    omega (arith, f.code.ok.0, f.code.ok.1, f.code.small, (fits.3 c.if-i-ne0.false).0)

pub set_list_block-requires-2 : goal.set_list_block-requires-2
set_list_block-requires-2 c =
    let safe = c.requires.safe in
    let pc = c.args.running.now.top.pc in
    let n = c.args.running.now.top.function in
    let fs = c.args.functions.now in
    let f = get_or fs n c.index-functions-running.result in
    let fits = c.requires.fits f (slice_get-get_or fs n c.index-functions-running.result safe.top_frame.function) in
    let behind = fits.3 c.if-i-ne0.false in
    let block = slice_get_read f.code.items (length f.code.items) pc c.index-block.result.now refl behind.0 c.index-block.ensures in
    let is = get_or_from_slice_get f.code.items pc c.index-block.result.now 0 block in
    record { shares = safe.shares; results = safe.top_frame.results; a = fits.0; field = fits.1; block = omega (arith, is, behind.1); there = fits.2 }

pub returns : goal.returns
returns c =
    let old = c.args.running.now in
    let fs = c.args.functions.now in
    let i = c.args.i in
    let block = c.index-block.result.now in
    let f = get_or fs old.top.function c.index-functions-running.result in
    let at = slice_get-get_or fs old.top.function c.index-functions-running.result c.requires.safe.top_frame.function in
    let behind = (c.requires.fits f at).3 c.if-i-ne0.false in
    let word = slice_get_read f.code.items (length f.code.items) old.top.pc block refl behind.0 c.index-block.ensures in
    record {
      does = IfOk-weaker c.set_list_block-2.result _ _ (λ did does.
          seen_from fs (λ m. effect op.SetList m i) (λ m. do_setlist m i block) old c.set_list_block-2.new.running (old.top.pc + 1) did
          (λ chunk a whole.
          let m = seen chunk a old in
          let runs = top_runs chunk a fs old f whole at in
          block_behind m i block c.if-i-ne0.false (ap (λ code. slice_get code old.top.pc) runs.code ∙ word))
          (does fs f at)) c.set_list_block-2.ensures;
    }
