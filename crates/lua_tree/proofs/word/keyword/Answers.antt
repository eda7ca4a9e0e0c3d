-- The word differs from each keyword.
use Rattle.std.proofs.Common.{refl}
use Rattle.lua_tree.proofs.WordLemmas.{rejects}
use Rattle.lua_tree.proofs.word.keyword.Goals as goal

pub returns-clause-none : goal.returns-clause-none
returns-clause-none c =
    rejects _ c.args.word.now _ _ c.as_slice.ensures c.if-eq.ensures (
    rejects _ c.args.word.now _ _ c.as_slice-2.ensures c.if-eq-2.ensures (
    rejects _ c.args.word.now _ _ c.as_slice-3.ensures c.if-eq-3.ensures (
    rejects _ c.args.word.now _ _ c.as_slice-4.ensures c.if-eq-4.ensures (
    rejects _ c.args.word.now _ _ c.as_slice-5.ensures c.if-eq-5.ensures (
    rejects _ c.args.word.now _ _ c.as_slice-6.ensures c.if-eq-6.ensures (
    rejects _ c.args.word.now _ _ c.as_slice-7.ensures c.if-eq-7.ensures (
    rejects _ c.args.word.now _ _ c.as_slice-8.ensures c.if-eq-8.ensures (
    rejects _ c.args.word.now _ _ c.as_slice-9.ensures c.if-eq-9.ensures (
    rejects _ c.args.word.now _ _ c.as_slice-10.ensures c.if-eq-10.ensures (
    rejects _ c.args.word.now _ _ c.as_slice-11.ensures c.if-eq-11.ensures (
    rejects _ c.args.word.now _ _ c.as_slice-12.ensures c.if-eq-12.ensures (
    rejects _ c.args.word.now _ _ c.as_slice-13.ensures c.if-eq-13.ensures (
    rejects _ c.args.word.now _ _ c.as_slice-14.ensures c.if-eq-14.ensures (
    rejects _ c.args.word.now _ _ c.as_slice-15.ensures c.if-eq-15.ensures (
    rejects _ c.args.word.now _ _ c.as_slice-16.ensures c.if-eq-16.ensures (
    rejects _ c.args.word.now _ _ c.as_slice-17.ensures c.if-eq-17.ensures (
    rejects _ c.args.word.now _ _ c.as_slice-18.ensures c.if-eq-18.ensures (
    rejects _ c.args.word.now _ _ c.as_slice-19.ensures c.if-eq-19.ensures (
    rejects _ c.args.word.now _ _ c.as_slice-20.ensures c.if-eq-20.ensures (
    rejects _ c.args.word.now _ _ c.as_slice-21.ensures c.if-eq-21.ensures (
    refl)))))))))))))))))))))
