-- The numbers are those of before.
use Rattle.back_end.proofs.SpliceSeats.{put-below}
use Rattle.back_end.proofs.sheets.PageSheets.put_back.Goals as goal

pub invariant_of-self : goal.invariant_of-self
invariant_of-self c = put-below c.put_back.result c.args.splice c.self.inside.next c.self.inside.book c.put_back.new.book c.self.invariant
    c.put_back.ensures.done c.put_back.ensures.unchanged
