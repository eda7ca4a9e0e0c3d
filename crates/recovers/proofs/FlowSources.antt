-- Sources are recovered, whose functions may have blocks at any depth.
use Rattle.proto.specs.Chunk.{function}
use Rattle.scheme_lines.specs.Alike.{SemicolonsDoNotMatter}
use Rattle.reads_back.proofs.ThroughFunctions.{NamesStand}
use Rattle.recovers.specs.Found.{FlowSourcesAreRecovered}
use Rattle.recovers.proofs.FlowLikes.{FlowLaws}
use Rattle.recovers.proofs.MainFlow.{main_read, main_told, none_lost_in_main}
use Rattle.recovers.proofs.SourceRecovered.{source_recovered}

pub flow_sources_recovered : NamesStand → SemicolonsDoNotMatter → FlowLaws → FlowSourcesAreRecovered
flow_sources_recovered stand semicolons laws (function mine functions) of short =
    source_recovered semicolons mine functions of (main_read stand semicolons mine functions of short laws)
    (none_lost_in_main stand semicolons mine functions of short laws) (main_told stand semicolons mine functions of short)
