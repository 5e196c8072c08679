-- The laws of runs, from what each part of one keeps.
use Rattle.std.proofs.Common.{◌≡◌, true, Ok}
use Rattle.session_runs.specs.World.{settled}
use Rattle.session_runs.specs.Fetches.{front_in, refreshed, refreshed_both}
use Rattle.session_runs.specs.Agreement.{IsAtRest}
use Rattle.session_runs.specs.Passages.{sending, turning, delivering_up, delivering_down, settling}
use Rattle.session_runs.specs.RunLaws.{HasRoomBy, IsNextBy, IsTurnBy, FitBy, FitsBy, StartsFit, PassagesFit, SettlesShow, PassagesTogether}
use Rattle.session_runs.specs.RunLaws.{SettlesRefresh, SettlesRefreshBoth}
use Rattle.session_runs.proofs.Worlds.{fits-first, fits-settled}
use Rattle.session_runs.proofs.Passages.{passages-fit}
use Rattle.session_runs.proofs.FetchLemmas.{settled-rests, front-rests, fit-rests, IsRefreshed, refreshed-made}
use Rattle.session_runs.proofs.TwoFetches.{BothRefreshed, both-refreshed}
use Rattle.session_runs.proofs.TogetherLemmas.{together-sent_up, together-turned, together-delivered_up, together-delivered_down}
use Rattle.session_runs.proofs.TogetherLemmas.{together-settled}

module _ {S F E X N L : Type 0} where
  pub starts-fit : StartsFit S F E X N L
  starts-fit machine t laws start nothing told state fit =
      fits-first machine (HasRoomBy t) (IsNextBy t) (IsTurnBy t) (FitBy t) laws start nothing told state fit

  pub runs-fit : PassagesFit S F E X N L
  runs-fit machine t laws start w fits ps may n =
      passages-fit machine (HasRoomBy t) (IsNextBy t) (IsTurnBy t) (FitBy t) laws start n ps w may fits

  pub settles-show : SettlesShow S F E X N L
  settles-show machine t laws start w fits room =
      let w1 = settled machine.step w in
      let fits1 : FitsBy machine t start w1 =
      fits-settled machine (HasRoomBy t) (IsNextBy t) (IsTurnBy t) (FitBy t) laws start w room fits in
      let rests : IsAtRest w1 = settled-rests machine (FitBy t) start w fits1 in
      let is : ◌≡◌ (front_in machine start w1) (Ok fits1.front) = front-rests machine (FitBy t) start w1 fits1 rests in
      record { front = fits1.front; front_is = is; fit = fit-rests machine (FitBy t) start w1 fits1.front fits1 rests is }

module _ {S F E X N L A M R : Type 0} where
  pub runs-together : PassagesTogether S F E X N L A M R
  runs-together machine t laws fetcher c sheets most fetching start w v both (sending text more) may may1 fresh =
      together-sent_up machine (HasRoomBy t) (IsNextBy t) (IsTurnBy t) (FitBy t) laws c.plainly fetcher c.seen c.rest sheets most fetching
      (λ frame. c.is_plain frame ≡ true) start text more w v may.0 fresh.0 fresh.1 may.1 may1.1 both
  runs-together machine t laws fetcher c sheets most fetching start w v both (turning x) may may1 fresh =
      together-turned machine (HasRoomBy t) (IsNextBy t) (IsTurnBy t) (FitBy t) laws c.plainly fetcher c.seen c.rest sheets most fetching
      (λ frame. c.is_plain frame ≡ true) start x w v may.0 may1.0 may.1 may1.1 both
  runs-together machine t laws fetcher c sheets most fetching start w v both (delivering_up n) may may1 fresh =
      together-delivered_up machine (HasRoomBy t) (IsNextBy t) (IsTurnBy t) (FitBy t) laws c.plainly fetcher c.seen c.rest sheets most
      fetching (λ frame. c.is_plain frame ≡ true) start n w v may may1 both
  runs-together machine t laws fetcher c sheets most fetching start w v both (delivering_down n) may may1 fresh =
      together-delivered_down machine (HasRoomBy t) (IsNextBy t) (IsTurnBy t) (FitBy t) laws c.plainly fetcher c.seen c.rest sheets most
      fetching (λ frame. c.is_plain frame ≡ true) start n w v both
  runs-together machine t laws fetcher c sheets most fetching start w v both settling may may1 fresh =
      together-settled machine (HasRoomBy t) (IsNextBy t) (IsTurnBy t) (FitBy t) laws c.plainly fetcher c.seen c.rest sheets most fetching
      (λ frame. c.is_plain frame ≡ true) start w v fresh.0 may may1 fresh.1 both

  pub settles-refresh : SettlesRefresh S F E X N L A M R
  settles-refresh machine t laws fetcher c sheets most fetching start w v both may may1 fresh =
      let v1 = refreshed machine fetcher start v in
      let made : IsRefreshed machine (HasRoomBy t) (IsNextBy t) (IsTurnBy t) (FitBy t) laws c.plainly fetcher c.seen c.rest sheets most
      fetching start w v v1 =
      refreshed-made machine (HasRoomBy t) (IsNextBy t) (IsTurnBy t) (FitBy t) laws c.plainly fetcher c.seen c.rest sheets most fetching
      start w v both.fits both.fits_fresh both.agrees fresh.0 may may1 fresh.1 in
      record {
        front = made.agrees.fresh;
        front_is = made.agrees.fresh_is;
        fit = fit-rests machine (FitBy t) start v1 made.agrees.fresh made.fits made.rests made.agrees.fresh_is;
        fresh = made.none;
      }

  pub settles-refresh-both : SettlesRefreshBoth S F E X N L A M R
  settles-refresh-both machine t laws one two c sheets most fetching fetching_two start w v both may may1 fresh left =
      let v1 = refreshed_both machine one two start v in
      let made : BothRefreshed machine (HasRoomBy t) (IsNextBy t) (IsTurnBy t) (FitBy t) laws c.plainly one two c.seen c.rest sheets most
      fetching fetching_two start w v1 =
      both-refreshed machine (HasRoomBy t) (IsNextBy t) (IsTurnBy t) (FitBy t) laws c.plainly one two c.seen c.rest sheets most fetching
      fetching_two start w v both.fits both.fits_fresh both.agrees fresh.0 left may may1 fresh.1 in
      record {
        front = made.agrees.fresh;
        front_is = made.agrees.fresh_is;
        fit = fit-rests machine (FitBy t) start v1 made.agrees.fresh made.fits made.rests made.agrees.fresh_is;
        fresh = made.none;
        fresh_two = made.none_two;
      }
