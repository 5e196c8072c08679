-- What is said so far, and what is said of those that are left, make up the whole.
use Rattle.std.proofs.Common.{◌≡◌, drop}
use Rattle.sheet_reader.specs.Around.{held_from, held}
use Rattle.cascade_match.specs.MediaHeld.{media_holds}
use Rattle.cascade_match.proofs.media_held.held_among.Given as goal

abbrev pub invariant-loop-rule : goal.invariant-loop-rule
invariant-loop-rule l =
    held_from (media_holds l.text l.medium) l.list.items (drop l.rule-index l.media) ≡ held (media_holds l.text l.medium) l.media
