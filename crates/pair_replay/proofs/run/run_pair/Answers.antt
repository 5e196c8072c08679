-- A whole script with two front ends is carried out.
use Rattle.std.proofs.Common.{◌≡◌, refl, sym, subst, ◌∙◌, ◌∷◌, ◌^◌, map, arith}
use Rattle.page_forms.specs.Pages.{loaded_page}
use Rattle.replay_script.specs.Lines.{lines_of}
use Rattle.replay_parts.specs.Answers.{RunTells}
use Rattle.pair_replay.specs.PairAnswers.{PairRunTook, RoomTold, pair_since, moment_of}
use Rattle.std.specs.Io.KnownBytes.{Appends}
use Rattle.pipe_frames.proofs.WholeLemmas.{Appends-nil}
use Rattle.pair_replay.proofs.LinesTell.{read-folds}
use Rattle.pair_replay.proofs.ScriptLemmas.{report-loads, refused-loads, room-loads, judged-loads, unread-stops}
use Rattle.pair_replay.proofs.ScriptLemmas.{unread-took, unread-room, unread-judged, no-lines-stop, no-lines-report, no-lines-room}
use Rattle.pair_replay.proofs.ScriptLemmas.{no-lines-judged, start-well}
use Rattle.replay_parts.proofs.CauseLemmas.{unread-cause}
use Rattle.replay_parts.proofs.InputLemmas.{few-lines, few-bytes}
use Rattle.pair_replay.proofs.run.run_pair.Goals as goal

pub run_loaded-requires-clause-can : goal.run_loaded-requires-clause-can
run_loaded-requires-clause-can g c = (c.in-Ok.ensures {u = tt}).can

pub run_loaded-requires-clause-few : goal.run_loaded-requires-clause-few
run_loaded-requires-clause-few g c =
    few-lines c.args.input.now c.in-Some.first.now c.next_line.new.lines (2 ^ 26)
    (sym c.new-lines.ensures ∙ c.in-Some.ensures.some) c.requires.few

pub run_loaded-requires-clause-short : goal.run_loaded-requires-clause-short
run_loaded-requires-clause-short g c =
    few-bytes c.args.input.now c.in-Some.first.now c.next_line.new.lines (2 ^ 26)
    (sym c.new-lines.ensures ∙ c.in-Some.ensures.some) c.requires.few

pub returns-in-Ok-clause-took : goal.returns-in-Ok-clause-took
returns-in-Ok-clause-took g c = λ honest up_level down_level.
    let lines : lines_of c.args.input.now ≡ c.in-Some.first.now ∷ c.next_line.new.lines = sym c.new-lines.ensures
    ∙ c.in-Some.ensures.some in
    let read = c.in-Ok.ensures {u = tt} in
    subst (λ text. PairRunTook c.run_loaded.result (g.K.Sink.taken c.args.out.now) (g.K.Sink.taken c.run_loaded.new.out) text)
    (sym (report-loads (map g.P.Panel.kind_of c.args.panels.items) c.args.input.now c.in-Some.first.now c.next_line.new.lines
    (loaded_page c.in-Ok.form) lines read.good read.form))
    (c.run_loaded.ensures.took honest up_level down_level)

pub returns-in-Ok-clause-stops : goal.returns-in-Ok-clause-stops
returns-in-Ok-clause-stops g c = λ honest up_level down_level.
    let lines : lines_of c.args.input.now ≡ c.in-Some.first.now ∷ c.next_line.new.lines = sym c.new-lines.ensures
    ∙ c.in-Some.ensures.some in
    let read = c.in-Ok.ensures {u = tt} in
    subst (λ bad. RunTells c.run_loaded.result bad)
    (sym (refused-loads (map g.P.Panel.kind_of c.args.panels.items) c.args.input.now c.in-Some.first.now c.next_line.new.lines
    (loaded_page c.in-Ok.form) lines read.good read.form))
    (c.run_loaded.ensures.stops honest up_level down_level)

pub returns-in-Ok-clause-room : goal.returns-in-Ok-clause-room
returns-in-Ok-clause-room g c = λ honest up_level down_level.
    let lines : lines_of c.args.input.now ≡ c.in-Some.first.now ∷ c.next_line.new.lines = sym c.new-lines.ensures
    ∙ c.in-Some.ensures.some in
    let read = c.in-Ok.ensures {u = tt} in
    subst (λ (R : Type 0). RoomTold c.run_loaded.result R)
    (sym (room-loads (map g.P.Panel.kind_of c.args.panels.items) c.args.input.now c.in-Some.first.now c.next_line.new.lines
    (loaded_page c.in-Ok.form) lines read.good read.form))
    (c.run_loaded.ensures.room honest up_level down_level)

pub returns-in-Ok-clause-tells : goal.returns-in-Ok-clause-tells
returns-in-Ok-clause-tells g c =
    let lines : lines_of c.args.input.now ≡ c.in-Some.first.now ∷ c.next_line.new.lines = sym c.new-lines.ensures
    ∙ c.in-Some.ensures.some in
    let read = c.in-Ok.ensures {u = tt} in
    judged-loads (map g.P.Panel.kind_of c.args.panels.items) c.args.input.now c.in-Some.first.now c.next_line.new.lines
    (loaded_page c.in-Ok.form) lines read.good read.form c.run_loaded.result
    (moment_of (g.L.Link.up c.args.link.now) (g.L.Link.down c.args.link.now) (g.L.Link.up c.run_loaded.new.link)
    (g.L.Link.down c.run_loaded.new.link)) c.run_loaded.ensures.tells

pub returns-in-Err-clause-took : goal.returns-in-Err-clause-took
returns-in-Err-clause-took g c = λ honest up_level down_level.
    unread-took (map g.P.Panel.kind_of c.args.panels.items) c.args.input.now c.in-Some.first.now c.next_line.new.lines
    (sym c.new-lines.ensures ∙ c.in-Some.ensures.some) c.in-Err.stop (g.K.Sink.taken c.args.out.now) c.in-Err.ensures.bad

pub returns-in-Err-clause-stops : goal.returns-in-Err-clause-stops
returns-in-Err-clause-stops g c = λ honest up_level down_level.
    unread-stops (map g.P.Panel.kind_of c.args.panels.items) c.args.input.now c.in-Some.first.now c.next_line.new.lines
    (sym c.new-lines.ensures ∙ c.in-Some.ensures.some) c.in-Err.stop c.in-Err.ensures.bad

pub returns-in-Err-clause-room : goal.returns-in-Err-clause-room
returns-in-Err-clause-room g c = λ honest up_level down_level.
    unread-room (map g.P.Panel.kind_of c.args.panels.items) c.args.input.now c.in-Some.first.now c.next_line.new.lines
    (sym c.new-lines.ensures ∙ c.in-Some.ensures.some) c.in-Err.stop c.in-Err.ensures.bad

pub returns-in-Err-clause-tells : goal.returns-in-Err-clause-tells
returns-in-Err-clause-tells g c =
    unread-judged (map g.P.Panel.kind_of c.args.panels.items) c.args.input.now c.in-Some.first.now c.next_line.new.lines
    (sym c.new-lines.ensures ∙ c.in-Some.ensures.some) c.in-Err.stop _ c.in-Err.ensures.bad

pub returns-in-Err-clause-refused : goal.returns-in-Err-clause-refused
returns-in-Err-clause-refused g c =
    let up = g.L.Link.up c.args.link.now in
    let down = g.L.Link.down c.args.link.now in
    read-folds c.in-Err.stop 1 _ (pair_since up down up down) c.in-Err.ensures.bad (start-well up down)

pub returns-in-Err-clause-cause : goal.returns-in-Err-clause-cause
returns-in-Err-clause-cause g c = unread-cause c.in-Err.stop 1 _ _ _ _ _ refl refl c.in-Err.ensures.bad

pub returns-in_default-clause-took : goal.returns-in_default-clause-took
returns-in_default-clause-took g c = λ honest up_level down_level.
    let taken = g.K.Sink.taken c.args.out.now in
    subst (λ t. Appends taken taken t)
    (sym (no-lines-report (map g.P.Panel.kind_of c.args.panels.items) c.args.input.now
    (sym c.new-lines.ensures ∙ (c.in_default.ensures {u = tt}).none refl))) (Appends-nil taken)

pub returns-in_default-clause-stops : goal.returns-in_default-clause-stops
returns-in_default-clause-stops g c = λ honest up_level down_level.
    no-lines-stop (map g.P.Panel.kind_of c.args.panels.items) c.args.input.now
    (sym c.new-lines.ensures ∙ (c.in_default.ensures {u = tt}).none refl)

pub returns-in_default-clause-room : goal.returns-in_default-clause-room
returns-in_default-clause-room g c = λ honest up_level down_level.
    no-lines-room (map g.P.Panel.kind_of c.args.panels.items) c.args.input.now
    (sym c.new-lines.ensures ∙ (c.in_default.ensures {u = tt}).none refl)

pub returns-in_default-clause-tells : goal.returns-in_default-clause-tells
returns-in_default-clause-tells g c =
    no-lines-judged (map g.P.Panel.kind_of c.args.panels.items) c.args.input.now
    (sym c.new-lines.ensures ∙ (c.in_default.ensures {u = tt}).none refl) _

pub returns-in_default-clause-refused : goal.returns-in_default-clause-refused
returns-in_default-clause-refused g c = start-well (g.L.Link.up c.args.link.now) (g.L.Link.down c.args.link.now)

pub returns-in-Ok-clause-honest : goal.returns-in-Ok-clause-honest
returns-in-Ok-clause-honest g c = c.run_loaded.ensures.honest

pub returns-in-Ok-clause-cause : goal.returns-in-Ok-clause-cause
returns-in-Ok-clause-cause g c = c.run_loaded.ensures.cause

pub returns-in-Ok-clause-refused : goal.returns-in-Ok-clause-refused
returns-in-Ok-clause-refused g c = c.run_loaded.ensures.refused

pub returns-in-Ok-clause-closes : goal.returns-in-Ok-clause-closes
returns-in-Ok-clause-closes g c = c.run_loaded.ensures.closes

pub returns-in-Ok-clause-replies : goal.returns-in-Ok-clause-replies
returns-in-Ok-clause-replies g c = c.run_loaded.ensures.replies

pub returns-in-Err-clause-honest : goal.returns-in-Err-clause-honest
returns-in-Err-clause-honest g c = λ honest. honest

pub returns-in-Err-clause-closes : goal.returns-in-Err-clause-closes
returns-in-Err-clause-closes g c = tt

pub returns-in-Err-clause-replies : goal.returns-in-Err-clause-replies
returns-in-Err-clause-replies g c = tt

pub returns-in_default-clause-honest : goal.returns-in_default-clause-honest
returns-in_default-clause-honest g c = λ honest. honest

pub returns-in_default-clause-closes : goal.returns-in_default-clause-closes
returns-in_default-clause-closes g c = tt

pub returns-in_default-clause-replies : goal.returns-in_default-clause-replies
returns-in_default-clause-replies g c = tt

pub returns-in_default-clause-cause : goal.returns-in_default-clause-cause
returns-in_default-clause-cause g c = record { sink_later = omega arith; link_later = omega arith; rose = tt; others = (refl, refl, refl) }
