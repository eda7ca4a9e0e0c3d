use Rattle.proto.specs.View.{view_proto}
use Rattle.global_use.proofs.Sums.{counting_begins, counting_goes}
use Rattle.global_use.proofs.counting.counted.Goals as goal

pub loop-word-init : goal.loop-word-init
loop-word-init c =
    counting_begins (view_proto c.args.proto.now) c.in_ok-counts.counts.items c.code_of-words.result.now c.constants_of-constants.result.now
    (c.in_ok-counts.ensures.items_if_clones_equal (λ y is. is)) c.constants_of-constants.ensures c.code_of-words.ensures

pub loop-word-preserved : goal.loop-word-preserved
loop-word-preserved c =
    counting_goes (view_proto c.args.proto.now) c.loop-word.counts.items c.as_mut_slice.result.now c.count_word.new.counts c.loop-word.counts.len c.loop-word.left c.left_behind-left.result c.loop-word.word-index c.code_of-words.result.now
    c.as_mut_slice.ensures.value c.loop-word.counts.ok.0 c.count_word.auto.counts c.in_ok-count_word.ensures c.left_behind-left.ensures c.loop-word-test.true c.loop-word.invariant
