use Rattle.std.proofs.Common.{◌∙◌, sym}
use Rattle.clap.specs.Words.{found_of, rows_of}
use Rattle.command_words.proofs.FoundLemmas.{gives_from, nothing_given, with_flag, without_flag}
use Rattle.command_words.proofs.reading.found_in.Goals as goal

pub returns-in_err-file : goal.returns-in_err-file
returns-in_err-file c asked are = absurd (nothing_given (found_of c.args.matches.now) c.get_str.result asked c.in_err-file.was c.get_str.ensures are)

pub returns-then-has_flag : goal.returns-then-has_flag
returns-then-has_flag c asked are =
    with_flag (rows_of (found_of c.args.matches.now)) _ asked
    (gives_from (found_of c.args.matches.now) c.in_ok-file.file c.get_str-2.result c.get_str-3.result c.get_str-4.result c.get_str.result c.get_flag.result c.in_ok-file.was
    c.get_str.ensures c.get_str-2.ensures c.get_str-3.ensures c.get_str-4.ensures c.get_flag.ensures.none c.get_flag.ensures.value c.get_flag.ensures.other)
    are (sym c.has_flag.ensures ∙ c.if-has_flag.true)

pub returns-else-has_flag : goal.returns-else-has_flag
returns-else-has_flag c asked are =
    without_flag (rows_of (found_of c.args.matches.now)) _ asked
    (gives_from (found_of c.args.matches.now) c.in_ok-file.file c.get_str-2.result c.get_str-3.result c.get_str-4.result c.get_str.result c.get_flag.result c.in_ok-file.was
    c.get_str.ensures c.get_str-2.ensures c.get_str-3.ensures c.get_str-4.ensures c.get_flag.ensures.none c.get_flag.ensures.value c.get_flag.ensures.other)
    are (sym c.has_flag.ensures ∙ c.if-has_flag.false)
