use Rattle.std.proofs.Common.{rules, arith, ◌≡◌, ◌≢◌, ◌<◌, ◌≤◌, ◌+◌, All, Ok, true, length, drop, sym, ap, ◌∙◌, subst, [], IfSome, inr, refl, length-append}
use Rattle.std.proofs.lemmas.List.Elements.{All-append}
use Rattle.std.specs.Io.KnownBytes.{Consumes}
use Rattle.std.specs.Io.BufRead.{take_through, strip_last}
use Rattle.std.proofs.KnownBytes.{starts_with_rest, Consumes-trans, Consumes-nil}
use Rattle.std.proofs.BufReadLemmas.{Consumes_through}
use Rattle.host.specs.Lines.{counted}
use Rattle.host.proofs.Counts.{counted_more, counted_full}
use Rattle.host.proofs.LineFronts.{short_line, long_front}
use Rattle.host.proofs.lines.read_line.Goals as goal

pub loop-line-init : goal.loop-line-init
loop-line-init g c =
    let none : c.new-line.result.items ≡ [] = c.new-line.ensures.items in
    let long : length c.new-line.result.items ≡ 0 = ap length none in
    record {
      within = omega (arith, long);
      unended = λ k d within. absurd (omega (arith, long, within));
      lost = subst (Consumes _ _) (sym none) (Consumes-nil _);
      counts = ap (counted _) (sym long);
      fits = λ some. absurd (omega (arith, long, some));
      quiet = refl;
    }

pub returns-in-Ok-true-clause-bytes : goal.returns-in-Ok-true-clause-bytes
returns-in-Ok-true-clause-bytes g c =
    let step = c.append_part.ensures in
    let done : c.append_part.result ≡ Ok true = search rules in
    let line = c.loop-line.line.items in
    let new = c.append_part.new.line.items in
    let read = Consumes_through 10 _ _ _ line (drop (length line) new) c.loop-line.invariant.lost c.loop-line.invariant.unended step.bytes step.stops (step.done done) (step.end done (search rules)) in
    subst (λ l. IfSome (g.R.LineReader.remaining c.args.reader.now) (λ bytes. l ≡ take_through 10 bytes)) (sym (starts_with_rest new line step.appends)) read.0

pub returns-in-Ok-true-clause-short : goal.returns-in-Ok-true-clause-short
returns-in-Ok-true-clause-short g c =
    let step = c.append_part.ensures in
    let done : c.append_part.result ≡ Ok true = search rules in
    let line = c.loop-line.line.items in
    let new = c.append_part.new.line.items in
    subst (λ l. length (strip_last 10 l) < 67108864) (sym (starts_with_rest new line step.appends)) (short_line line (drop (length line) new) (search rules) (search rules) (step.done done))

pub returns-in-Ok-true-clause-rest : goal.returns-in-Ok-true-clause-rest
returns-in-Ok-true-clause-rest g c =
    let step = c.append_part.ensures in
    let done : c.append_part.result ≡ Ok true = search rules in
    let line = c.loop-line.line.items in
    let new = c.append_part.new.line.items in
    (Consumes_through 10 _ _ _ line (drop (length line) new) c.loop-line.invariant.lost c.loop-line.invariant.unended step.bytes step.stops (step.done done) (step.end done (search rules))).1

pub loop-line-preserved : goal.loop-line-preserved
loop-line-preserved g c =
    let step = c.append_part.ensures in
    let line = c.loop-line.line.items in
    let new = c.append_part.new.line.items in
    let before = c.loop-line.invariant in
    let whole = sym (starts_with_rest new line step.appends) in
    let long : length new ≡ length line + length (drop (length line) new) = sym (ap length whole) ∙ length-append line (drop (length line) new) in
    record {
      within = omega (arith, long, step.within, c.loop-line-test.true);
      unended = subst (All (λ x. x ≢ 10)) whole (All-append (λ x. x ≢ 10) line _ before.unended (step.unfinished (search rules)));
      lost = subst (Consumes _ _) whole (Consumes-trans _ _ _ line _ before.lost step.bytes);
      counts = rw long (counted_more _ _ _ _ _ before.counts step.counts);
      fits = λ some. omega (arith, step.counts);
      quiet = search rules;
    }

pub returns-clause-failed : goal.returns-clause-failed
returns-clause-failed g c = λ failed.
    let before = c.loop-line.invariant in
    let long : 67108864 ≤ length c.loop-line.line.items = search rules in
    inr (long_front _ _ _ before.lost before.unended long, counted_full _ _ _ before.counts before.fits before.within long)
