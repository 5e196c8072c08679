-- The replies that came to the front end since they were told last are printed, and count as told.
use Rattle.std.proofs.Common.{rules, ℕ, refl, sym, ap, Ok, Err}
use Rattle.front_mirror.specs.Front.{FrontState}
use Rattle.replay_script.specs.Forms.{show_replies}
use Rattle.replay_parts.specs.Moments.{moment}
use Rattle.pair_replay.specs.PairStarts.{line_on}
use Rattle.pair_replay.proofs.StopLemmas.{settled-printed, refused-cause, bad-session-well, ok-cause}
use Rattle.pair_replay.proofs.StopLemmas.{stop-cause}
use Rattle.pair_replay.proofs.LineFaults.{tells-not}
use Rattle.pair_replay.proofs.LineRuns.{is-show-replies, show-settles, settle-stops, show-refused, show-carries}
use Rattle.pair_replay.proofs.LineFollows.{passing-on, keeps-passes, settled-passes, told-passes, none-tells, show-tells}
use Rattle.pair_replay.proofs.ShowLemmas.{replies-said, replies-stop, told-run}
use Rattle.replay_parts.proofs.StopLemmas.{some-printed}
use Rattle.replay_parts.proofs.CauseLemmas.{settled-stop}
use Rattle.pair_replay.proofs.shows.show_replies.Goals as goal

pub returns-in-Err-clause-plays : goal.returns-in-Err-clause-plays
returns-in-Err-clause-plays g c =
    let old = moment (g.L.Link.honest c.args.link.now) (g.L.Link.up c.args.link.now) (g.L.Link.down c.args.link.now) c.args.ends.now in
    let mid = moment (g.L.Link.honest c.settle.new.link) (g.L.Link.up c.settle.new.link)
    (g.L.Link.down c.settle.new.link) c.settle.new.self in
    record {
      honest = search rules;
      cause = settled-stop c.in-Err.stop _ _ _ c.in-Err.ensures.cause;
      follows = keeps-passes (Err c.in-Err.stop) (line_on c.args.second show_replies) old mid
          (λ start. passing-on c.args.second show_replies start (λ panels. refl)) c.in-Err.ensures.follows;
      some = tt;
      runs = settle-stops c.in-Err.stop old mid (g.K.Sink.taken c.args.out.now) c.args.number (line_on c.args.second show_replies) 0 0 _ _
          (show-settles c.args.second show_replies is-show-replies) c.in-Err.ensures.cause c.in-Err.ensures.steps;
    }

pub returns-in-Err-clause-tells : goal.returns-in-Err-clause-tells
returns-in-Err-clause-tells g c =
    let old = moment (g.L.Link.honest c.args.link.now) (g.L.Link.up c.args.link.now) (g.L.Link.down c.args.link.now) c.args.ends.now in
    let mid = moment (g.L.Link.honest c.settle.new.link) (g.L.Link.up c.settle.new.link)
    (g.L.Link.down c.settle.new.link) c.settle.new.self in
    tells-not c.in-Err.stop c.args.number (line_on c.args.second show_replies) old mid 0 0 _ _ c.in-Err.ensures.cause

pub returns-in_default-clause-plays : goal.returns-in_default-clause-plays
returns-in_default-clause-plays g c =
    let old = moment (g.L.Link.honest c.args.link.now) (g.L.Link.up c.args.link.now) (g.L.Link.down c.args.link.now) c.args.ends.now in
    let mid = moment (g.L.Link.honest c.settle.new.link) (g.L.Link.up c.settle.new.link)
    (g.L.Link.down c.settle.new.link) c.settle.new.self in
    record {
      honest = search rules;
      cause = refused-cause c.bad_session.result c.args.number _ _ _ _ c.bad_session.ensures c.in-Ok.ensures.cause;
      follows = settled-passes (Err c.bad_session.result) (line_on c.args.second show_replies) old mid
          (λ start. passing-on c.args.second show_replies start (λ panels. refl))
          (bad-session-well c.bad_session.result c.args.number c.bad_session.ensures)
          c.in-Ok.ensures.follows;
      some = tt;
      runs = show-refused c.args.second show_replies c.bad_session.result old mid
          (g.K.Sink.taken c.args.out.now) c.args.number is-show-replies
          c.bad_session.ensures (sym (c.in_default.ensures {u = tt}).stands) c.in-Ok.ensures.steps;
    }

pub returns-in_default-clause-tells : goal.returns-in_default-clause-tells
returns-in_default-clause-tells g c =
    let old = moment (g.L.Link.honest c.args.link.now) (g.L.Link.up c.args.link.now) (g.L.Link.down c.args.link.now) c.args.ends.now in
    let mid = moment (g.L.Link.honest c.settle.new.link) (g.L.Link.up c.settle.new.link)
    (g.L.Link.down c.settle.new.link) c.settle.new.self in
    none-tells c.args.second show_replies c.bad_session.result c.args.number old mid (λ panels. refl) c.bad_session.ensures
    (sym (c.in_default.ensures {u = tt}).stands) c.in-Ok.ensures.follows

pub returns-in-Ok-print_new_replies-clause-plays : goal.returns-in-Ok-print_new_replies-clause-plays
returns-in-Ok-print_new_replies-clause-plays g c =
    let old = moment (g.L.Link.honest c.args.link.now) (g.L.Link.up c.args.link.now) (g.L.Link.down c.args.link.now) c.args.ends.now in
    let mid = moment (g.L.Link.honest c.settle.new.link) (g.L.Link.up c.settle.new.link)
    (g.L.Link.down c.settle.new.link) c.settle.new.self in
    let after = moment (g.L.Link.honest c.settle.new.link) (g.L.Link.up c.settle.new.link)
    (g.L.Link.down c.settle.new.link) c.tell.new.self in
    let there = sym c.in-Some.ensures.stands in
    let taken = g.K.Sink.taken c.args.out.now in
    let taken1 = g.K.Sink.taken c.print_new_replies.new.out in
    let told = c.told-told.result in
    let n = c.in-Ok-print_new_replies.replies in
    record {
      honest = search rules;
      cause = settled-printed (Ok tt) _ _ _ _ c.in-Ok.ensures.cause (ok-cause n _ _ c.in-Ok-print_new_replies.ensures.cause);
      follows = told-passes (line_on c.args.second show_replies) old mid after
          (λ start. passing-on c.args.second show_replies start (λ panels. refl))
          (λ start up0 down0 run.
          told-run c.args.second start up0 down0 mid.up mid.down c.settle.new.self c.tell.new.self _ c.tell.ensures run)
          c.in-Ok.ensures.follows;
      some = some-printed (Ok n) _ _ _ c.in-Ok-print_new_replies.ensures.ok;
      runs = show-carries c.args.second show_replies
          (Ok tt) old mid after taken taken1 c.args.number is-show-replies there c.in-Ok.ensures.steps tt
          (replies-said c.args.second mid taken taken1 c.args.number 0 0 0 0 there c.words_of-heading.result.now told c.told-told.ensures
          c.in-Some.front.now.value.replies c.tell.new.self n c.words_of-heading.ensures
          (ap (λ (f : FrontState). f.value.replies) c.in-Some.ensures.front) c.in-Ok-print_new_replies.ensures.all c.tell.ensures
          c.in-Ok-print_new_replies.ensures.ok);
    }

pub returns-in-Ok-print_new_replies-clause-tells : goal.returns-in-Ok-print_new_replies-clause-tells
returns-in-Ok-print_new_replies-clause-tells g c =
    let old = moment (g.L.Link.honest c.args.link.now) (g.L.Link.up c.args.link.now) (g.L.Link.down c.args.link.now) c.args.ends.now in
    let mid = moment (g.L.Link.honest c.settle.new.link) (g.L.Link.up c.settle.new.link)
    (g.L.Link.down c.settle.new.link) c.settle.new.self in
    show-tells c.args.second show_replies (Ok tt) c.args.number old mid _ _ 0 0 (λ panels. refl) (λ came. refl)
    (ok-cause c.in-Ok-print_new_replies.replies _ _ c.in-Ok-print_new_replies.ensures.cause)
    (sym c.in-Some.ensures.stands) c.in-Ok.ensures.follows

pub returns-in-Err-print_new_replies-clause-plays : goal.returns-in-Err-print_new_replies-clause-plays
returns-in-Err-print_new_replies-clause-plays g c =
    let old = moment (g.L.Link.honest c.args.link.now) (g.L.Link.up c.args.link.now) (g.L.Link.down c.args.link.now) c.args.ends.now in
    let mid = moment (g.L.Link.honest c.settle.new.link) (g.L.Link.up c.settle.new.link)
    (g.L.Link.down c.settle.new.link) c.settle.new.self in
    let there = sym c.in-Some.ensures.stands in
    let taken = g.K.Sink.taken c.args.out.now in
    let taken1 = g.K.Sink.taken c.print_new_replies.new.out in
    let stop = c.in-Err-print_new_replies.stop in
    let cause = stop-cause {T = ℕ} stop _ _ c.in-Err-print_new_replies.ensures.cause in
    record {
      honest = search rules;
      cause = settled-printed (Err stop) _ _ _ _ c.in-Ok.ensures.cause cause;
      follows = settled-passes (Err stop) (line_on c.args.second show_replies) old mid
          (λ start. passing-on c.args.second show_replies start (λ panels. refl)) c.in-Err-print_new_replies.ensures.never
          c.in-Ok.ensures.follows;
      some = tt;
      runs = show-carries c.args.second show_replies
          (Err stop) old mid mid taken taken1 c.args.number is-show-replies there c.in-Ok.ensures.steps
          c.in-Err-print_new_replies.ensures.never
          (replies-stop c.args.second mid taken taken1 c.args.number _ _ 0 0 there c.words_of-heading.result.now c.told-told.result
          c.told-told.ensures c.in-Some.front.now.value.replies stop c.words_of-heading.ensures
          (ap (λ (f : FrontState). f.value.replies) c.in-Some.ensures.front) cause c.in-Err-print_new_replies.ensures.never
          c.in-Err-print_new_replies.ensures.err);
    }

pub returns-in-Err-print_new_replies-clause-tells : goal.returns-in-Err-print_new_replies-clause-tells
returns-in-Err-print_new_replies-clause-tells g c =
    let old = moment (g.L.Link.honest c.args.link.now) (g.L.Link.up c.args.link.now) (g.L.Link.down c.args.link.now) c.args.ends.now in
    let mid = moment (g.L.Link.honest c.settle.new.link) (g.L.Link.up c.settle.new.link)
    (g.L.Link.down c.settle.new.link) c.settle.new.self in
    tells-not c.in-Err-print_new_replies.stop c.args.number (line_on c.args.second show_replies) old mid _ _ 0 0
    (stop-cause {T = ℕ} c.in-Err-print_new_replies.stop _ _ c.in-Err-print_new_replies.ensures.cause)
