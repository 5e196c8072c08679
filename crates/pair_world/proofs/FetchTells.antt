-- Who was told what changes nothing else of a run with fetches, nor whether there is room for its steps.
use Rattle.std.proofs.Common.{◌≡◌, ℕ, Bool, true, false, cond, List, [], ◌∷◌, Option, Some, None, Result, Ok, Err, refl, sym, ◌∙◌, ap}
use Rattle.std.proofs.Common.{subst}
use Rattle.front_mirror.specs.declared.faults.FrontKind.{FrontKind}
use Rattle.replay_script.specs.Forms as forms
use Rattle.replay_script.specs.Forms.{LineForm, load, ask, up, down, settle, show_front, show_page, show_sheets, show_replies, show_pauses}
use Rattle.replay_script.specs.Forms.{show_panels, show_styles, close}
use Rattle.replay_script.specs.PairLines.{PairForm, attach_session, detach_session, of_first, of_second}
use Rattle.replay_script.specs.declared.faults.LineFault.{LineFault}
use Rattle.session_runs.specs.World.{sent_up}
use Rattle.session_runs.specs.Passages.{sending, turning, delivering_up, delivering_down, settling}
use Rattle.session_runs.specs.Fetches.{Fetcher, front_in, fetched, fetched_if, all_fetched, stale_in, refreshed}
use Rattle.session_runs.specs.PairRuns.{passing, targeting}
use Rattle.pair_world.specs.PairRuns.{PairSpent, PairAudience, PairRun, pair_settled, PairDeed, after_deed_by, after_deeds_by}
use Rattle.pair_world.specs.PairScripts.{deeds, first_deeds, second_deeds, pair_telling, told_after, after_pair_line, pair_lacking}
use Rattle.pair_world.specs.PairFresh.{FrontValues, no_fronts, pair_runner, first_fetcher, second_fetcher, second_fetched, pair_refreshes}
use Rattle.pair_world.specs.PairFresh.{fresh_pair_line, SecondFetchesHaveRoom, RefreshHasRoom, DeedHasRoom, DeedsHaveRoom, WhereTrue}
use Rattle.pair_world.specs.PairFresh.{pair_settles_first, line_or, LinesHaveRoom}

module _ (n : PairAudience) where
  -- ---- what is fetched

  if-retold : (fetcher : Fetcher FrontValues PairSpent) (number : ℕ) (r : Result FrontValues FrontKind) (w : PairRun)
      → fetched_if pair_runner fetcher r number (pair_telling n w) ≡ pair_telling n (fetched_if pair_runner fetcher r number w)
  if-retold fetcher number (Err fault) w = refl
  if-retold fetcher number (Ok p) w = by (fetcher.knows p number) where
    by : (known : Bool) → cond known (fetched pair_runner fetcher number (pair_telling n w)) (pair_telling n w)
        ≡ pair_telling n (cond known (fetched pair_runner fetcher number w) w)
    by true = refl
    by false = refl

  all-retold : (fetcher : Fetcher FrontValues PairSpent) (numbers : List ℕ) (w : PairRun)
      → all_fetched pair_runner fetcher no_fronts numbers (pair_telling n w)
      ≡ pair_telling n (all_fetched pair_runner fetcher no_fronts numbers w)
  all-retold fetcher [] w = refl
  all-retold fetcher (number ∷ numbers) w =
      ap (all_fetched pair_runner fetcher no_fronts numbers) (if-retold fetcher number (front_in pair_runner no_fronts w) w)
      ∙ all-retold fetcher numbers (fetched_if pair_runner fetcher (front_in pair_runner no_fronts w) number w)

  first-retold : (w : PairRun)
      → refreshed pair_runner first_fetcher no_fronts (pair_telling n w)
      ≡ pair_telling n (refreshed pair_runner first_fetcher no_fronts w)
  first-retold w =
      all-retold first_fetcher (stale_in first_fetcher (front_in pair_runner no_fronts (pair_settled w))) (pair_settled w)

  second-retold : (o : Option ℕ) (w : PairRun) → second_fetched o (pair_telling n w) ≡ pair_telling n (second_fetched o w)
  second-retold None w = refl
  second-retold (Some k) w =
      all-retold (second_fetcher k) (stale_in (second_fetcher k) (front_in pair_runner no_fronts w)) w

  pub refreshes-retold : (w : PairRun) → pair_refreshes (pair_telling n w) ≡ pair_telling n (pair_refreshes w)
  refreshes-retold w =
      let first = refreshed pair_runner first_fetcher no_fronts w in
      ap (λ (x : PairRun). second_fetched x.state.attached x) (first-retold w) ∙ second-retold first.state.attached first

  -- ---- parts of a run

  deed-retold : (d : PairDeed) (w : PairRun)
      → after_deed_by pair_refreshes d (pair_telling n w) ≡ pair_telling n (after_deed_by pair_refreshes d w)
  deed-retold (passing (sending text more)) w = refl
  deed-retold (passing (turning x)) w = refl
  deed-retold (passing (delivering_up k)) w = refl
  deed-retold (passing (delivering_down k)) w = refl
  deed-retold (passing settling) w = refreshes-retold w
  deed-retold (targeting text more) w =
      ap (λ x. pair_refreshes (sent_up text more x)) (refreshes-retold w) ∙ refreshes-retold (sent_up text more (pair_refreshes w))

  deeds-retold : (ds : List PairDeed) (w : PairRun)
      → after_deeds_by pair_refreshes ds (pair_telling n w) ≡ pair_telling n (after_deeds_by pair_refreshes ds w)
  deeds-retold [] w = refl
  deeds-retold (d ∷ ds) w = ap (after_deeds_by pair_refreshes ds) (deed-retold d w) ∙ deeds-retold ds (after_deed_by pair_refreshes d w)

  -- ---- room

  refresh-room : (w : PairRun) → RefreshHasRoom w → RefreshHasRoom (pair_telling n w)
  refresh-room w room =
      let first = refreshed pair_runner first_fetcher no_fronts w in (
        room.0,
        room.1,
        subst (λ (x : PairRun). SecondFetchesHaveRoom x.state.attached x) (sym (first-retold w)) (by first.state.attached first room.2),
      )
    where
      by : (o : Option ℕ) (x : PairRun) → SecondFetchesHaveRoom o x → SecondFetchesHaveRoom o (pair_telling n x)
      by None x room = room
      by (Some k) x room = room

  deed-room : (d : PairDeed) (w : PairRun) → DeedHasRoom d w → DeedHasRoom d (pair_telling n w)
  deed-room (passing (sending text more)) w room = room
  deed-room (passing (turning x)) w room = room
  deed-room (passing (delivering_up k)) w room = room
  deed-room (passing (delivering_down k)) w room = room
  deed-room (passing settling) w room = refresh-room w room
  deed-room (targeting text more) w room = (
    refresh-room w room.0,
    subst (λ x. RefreshHasRoom (sent_up text more x)) (sym (refreshes-retold w))
        (refresh-room (sent_up text more (pair_refreshes w)) room.1),
  )

  deeds-room : (ds : List PairDeed) (w : PairRun) → DeedsHaveRoom ds w → DeedsHaveRoom ds (pair_telling n w)
  deeds-room [] w room = room
  deeds-room (d ∷ ds) w room = (
    deed-room d w room.0,
    subst (DeedsHaveRoom ds) (sym (deed-retold d w)) (deeds-room ds (after_deed_by pair_refreshes d w) room.1),
  )

  -- ---- lines

  first-same : (form : LineForm) (w : PairRun) → first_deeds form (pair_telling n w) ≡ first_deeds form w
  first-same (load page) w = refl
  first-same (forms.act a) w = refl
  first-same (ask a) w = refl
  first-same (forms.raw text) w = refl
  first-same (up k) w = refl
  first-same (down k) w = refl
  first-same settle w = refl
  first-same show_front w = refl
  first-same show_page w = refl
  first-same show_sheets w = refl
  first-same show_replies w = refl
  first-same show_pauses w = refl
  first-same show_panels w = refl
  first-same (show_styles k) w = refl
  first-same (close k) w = refl

  second-same : (form : LineForm) (w : PairRun) → second_deeds form (pair_telling n w) ≡ second_deeds form w
  second-same (load page) w = refl
  second-same (forms.act a) w = refl
  second-same (ask a) w = refl
  second-same (forms.raw text) w = refl
  second-same (up k) w = refl
  second-same (down k) w = refl
  second-same settle w = refl
  second-same show_front w = refl
  second-same show_page w = refl
  second-same show_sheets w = refl
  second-same show_replies w = refl
  second-same show_pauses w = refl
  second-same show_panels w = refl
  second-same (show_styles k) w = refl
  second-same (close k) w = refl

  deeds-same : (line : PairForm) (w : PairRun) → deeds line (pair_telling n w) ≡ deeds line w
  deeds-same attach_session w = refl
  deeds-same detach_session w = refl
  deeds-same (of_first form) w = first-same form w
  deeds-same (of_second form) w = second-same form w

  -- a line leads to the same run, but for who was told what
  pub line-retold : (line : PairForm) (w : PairRun)
      → fresh_pair_line line (pair_telling n w)
      ≡ pair_telling (told_after line (after_deeds_by pair_refreshes (deeds line (pair_telling n w)) (pair_telling n w)))
      (fresh_pair_line line w)
  line-retold line w =
      let told = told_after line (after_deeds_by pair_refreshes (deeds line (pair_telling n w)) (pair_telling n w)) in
      ap (λ ds. pair_telling told (after_deeds_by pair_refreshes ds (pair_telling n w))) (deeds-same line w)
      ∙ ap (pair_telling told) (deeds-retold (deeds line w) w)

  pub line-room : (line : PairForm) (w : PairRun) → DeedsHaveRoom (deeds line w) w
      → DeedsHaveRoom (deeds line (pair_telling n w)) (pair_telling n w)
  line-room line w room =
      subst (λ ds. DeedsHaveRoom ds (pair_telling n w)) (sym (deeds-same line w)) (deeds-room (deeds line w) w room)
