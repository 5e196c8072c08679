-- The numbers of a drill as code holds them.
use Rattle.inspect_replay.specs.declared.counts.Known.{Known as HeldKnown}
use Rattle.inspect_replay.specs.declared.counts.Tally.{Tally as HeldTally}
use Rattle.inspect_replay.specs.Tallies.{Known, Tally}

-- of nodes
abbrev pub known_of : HeldKnown → Known
known_of k = record { nodes = k.nodes; opened = k.opened }

-- all six
abbrev pub tally_seen : HeldTally → Tally
tally_seen t = record { known = known_of t.known; sheets = t.sheets; replies = t.replies; errors = t.errors; pauses = t.pauses }
