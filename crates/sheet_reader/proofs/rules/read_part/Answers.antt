use Rattle.std.proofs.Common.{sym, subst, arith}
use Rattle.css_tokens.specs.Marks.{IsPieceOf}
use Rattle.sheet_reader.specs.Ends.{AreEnds}
use Rattle.sheet_reader.specs.Seen.{part_seen, frame_seen}
use Rattle.sheet_reader.proofs.SheetLemmas.{part_all, part_fits, part_first}
use Rattle.sheet_reader.proofs.FrameForms.{first_all, others_all, part_done, none_left}
use Rattle.sheet_reader.proofs.EndForms.{ends_later}
use Rattle.sheet_reader.proofs.rules.read_part.Goals as goal

pub returns-in_default-clause-same : goal.returns-in_default-clause-same
returns-in_default-clause-same c =
    none_left c.args.text.now c.args.frame.around c.args.frame.left.now c.args.sheet.now c.args.frames.now c.in_default.len_below

pub returns-in_default-clause-each : goal.returns-in_default-clause-each
returns-in_default-clause-each c = others_all c.args.text.now (frame_seen c.args.frame) c.args.frames.now c.requires.each

pub behind-requires : goal.behind-requires
behind-requires c =
    let fits = part_fits c.level_of.result c.args.frame.left.now _ (part_seen c.in_ok-part.part)
    (omega (arith, c.in-len1-up.len_at_least)) c.in_ok-part.ensures in
    omega (arith, fits, c.part_len.ensures)

pub add_part-requires : goal.add_part-requires
add_part-requires c =
    part_all c.level_of.result (IsPieceOf c.args.text.now) c.args.frame.left.now _ (part_seen c.in_ok-part.part)
    (omega (arith, c.in-len1-up.len_at_least)) c.in_ok-part.ensures
    (first_all c.args.text.now (frame_seen c.args.frame) c.args.frames.now c.requires.each)

pub open_media-requires-clause-pieces : goal.open_media-requires-clause-pieces
open_media-requires-clause-pieces c =
    part_all c.level_of.result (IsPieceOf c.args.text.now) c.args.frame.left.now _ (part_seen c.in_ok-part.part)
    (omega (arith, c.in-len1-up.len_at_least)) c.in_ok-part.ensures
    (first_all c.args.text.now (frame_seen c.args.frame) c.args.frames.now c.requires.each)

pub push-requires : goal.push-requires
push-requires c = subst (AreEnds c.args.frame.ends) (sym c.behind.ensures)
    (ends_later c.args.frame.ends c.part_len.result c.args.frame.left.now c.requires.ends)

pub open_media-requires-clause-first : goal.open_media-requires-clause-first
open_media-requires-clause-first c = part_first c.level_of.result c.args.frame.left.now _ (part_seen c.in_ok-part.part)
    (omega (arith, c.in-len1-up.len_at_least)) c.in_ok-part.ensures

pub returns-clause-same : goal.returns-clause-same
returns-clause-same c =
    let done = part_done c.args.text.now c.args.frame.around c.level_of.result c.args.frame.left.now c.behind.result.now _
    (part_seen c.in_ok-part.part) c.part_len.result c.args.frames.now c.push.new.self c.open_media.new.frames
    c.args.sheet.now c.add_part.new.sheet c.open_media.new.sheet
    (omega (arith, c.in-len1-up.len_at_least)) c.level_of.ensures c.in_ok-part.ensures c.part_len.ensures c.behind.ensures
    c.in_ok-push.ensures c.in_ok-add_part.ensures c.in_ok-open_media.ensures.frames c.in_ok-open_media.ensures.sheet c.requires.each in
    done.same

pub returns-clause-smaller : goal.returns-clause-smaller
returns-clause-smaller c =
    let done = part_done c.args.text.now c.args.frame.around c.level_of.result c.args.frame.left.now c.behind.result.now _
    (part_seen c.in_ok-part.part) c.part_len.result c.args.frames.now c.push.new.self c.open_media.new.frames
    c.args.sheet.now c.add_part.new.sheet c.open_media.new.sheet
    (omega (arith, c.in-len1-up.len_at_least)) c.level_of.ensures c.in_ok-part.ensures c.part_len.ensures c.behind.ensures
    c.in_ok-push.ensures c.in_ok-add_part.ensures c.in_ok-open_media.ensures.frames c.in_ok-open_media.ensures.sheet c.requires.each in
    done.smaller

pub returns-clause-each : goal.returns-clause-each
returns-clause-each c =
    let done = part_done c.args.text.now c.args.frame.around c.level_of.result c.args.frame.left.now c.behind.result.now _
    (part_seen c.in_ok-part.part) c.part_len.result c.args.frames.now c.push.new.self c.open_media.new.frames
    c.args.sheet.now c.add_part.new.sheet c.open_media.new.sheet
    (omega (arith, c.in-len1-up.len_at_least)) c.level_of.ensures c.in_ok-part.ensures c.part_len.ensures c.behind.ensures
    c.in_ok-push.ensures c.in_ok-add_part.ensures c.in_ok-open_media.ensures.frames c.in_ok-open_media.ensures.sheet c.requires.each in
    done.each
