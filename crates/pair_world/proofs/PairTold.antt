-- What was told, the panels, and a page that was just loaded are in the ends as the run has them.
use Rattle.std.proofs.Common.{◌≡◌, ℕ, List, [], Option, refl, sym, subst, arith}
use Rattle.std.proofs.lemmas.List.Elements.{All-nil}
use Rattle.pipe_frames.specs.Pipe.{Pipe}
use Rattle.page_forms.specs.Pages.{LoadedPage, CanLoadPage}
use Rattle.page_forms.specs.Texts.{PageHasTexts}
use Rattle.front_mirror.specs.declared.panels.PanelKind.{PanelKind}
use Rattle.session_runs.specs.PairFit.{neither}
use Rattle.session_runs.proofs.LinkRuns.{link-first}
use Rattle.multi_replay.specs.States.{FrontsState, first_fronts}
use Rattle.multi_replay.proofs.BothLemmas.{both-begin}
use Rattle.back_end.specs.declared.mux.Mux.{Mux}
use Rattle.back_end.specs.declared.side.PageSide.{PageSide}
use Rattle.back_end.specs.States.{loaded_side}
use Rattle.back_end.specs.Laws.{IsTurn}
use Rattle.back_end.specs.PairSeats.{PairStandsFor, IsNewMux}
use Rattle.back_end.proofs.StartLemmas.{IsState-first}
use Rattle.back_end.proofs.PairLemmas.{new-pairs-stand}
use Rattle.inspect_world.specs.World.{AlreadyTold, nothing_told}
use Rattle.pair_world.specs.FrameLaws.{IsUsual}
use Rattle.pair_world.specs.PairFits.{pair_loaded}
use Rattle.pair_world.specs.PairRuns.{PairRun, pair_nothing_spent, pair_audience, pair_loaded_run}
use Rattle.pair_world.specs.PairFresh.{pair_runner, PairIsCalm, PairRoom, no_fronts}
use Rattle.pair_world.specs.PairHeld.{up_reads, PairEnds, CountsNone, PairMode, calm, targeted, fit_in, KnowSession, InPairWorld}
use Rattle.pair_world.proofs.ClientLemmas.{shows-fresh}
use Rattle.pair_world.proofs.SameSteps.{starts-are-same}
use Rattle.pair_world.proofs.PairEndLemmas.{next_in, laws_in}

-- ---- what was told

-- so much was told of each front end, which says nothing of the link
pub world-told : (mode : PairMode) (up0 down0 up down : Pipe) (w : PairRun) (frames : List (List ℕ)) (e : PairEnds)
    (first second : AlreadyTold)
    → InPairWorld mode up0 down0 up down w frames e
    → InPairWorld mode up0 down0 up down (record w { told = record { first = first; second = second; panels = w.told.panels } }) frames
    (record e { first_told = first; second_told = second })
world-told mode up0 down0 up down w frames e first second in_world =
    let on = in_world.on_link in
    record {
      on_link = record {
        up_is = on.up_is;
        down_is = on.down_is;
        back_is = on.back_is;
        up_left = on.up_left;
        down_left = on.down_left;
        fits = record {
          front = on.fits.front;
          is_fold = on.fits.is_fold;
          fit = on.fits.fit;
          up_whole = on.fits.up_whole;
          down_whole = on.fits.down_whole;
        };
      };
      usual = in_world.usual;
      stands = in_world.stands;
      fronts_are = in_world.fronts_are;
      numbered = in_world.numbered;
      session = in_world.session;
      alive = in_world.alive;
      first_alive = in_world.first_alive;
      panels = in_world.panels;
      first_told = refl;
      second_told = refl;
    }

-- ---- the panels

-- the first front end has other panels
abbrev pub panels_on : List (Option PanelKind) → FrontsState → FrontsState
panels_on panels s = record s { pair = record s.pair { one = record s.pair.one { panels = panels } } }

-- panels say nothing of the link either
pub world-panels : (mode : PairMode) (up0 down0 up down : Pipe) (w : PairRun) (frames : List (List ℕ)) (e : PairEnds)
    (panels : List (Option PanelKind))
    → InPairWorld mode up0 down0 up down w frames e
    → InPairWorld mode up0 down0 up down (record w { told = record w.told { panels = panels } }) frames
    (record e { fronts = panels_on panels e.fronts })
world-panels mode up0 down0 up down w frames e panels in_world =
    let on = in_world.on_link in
    let fold = in_world.fronts_are in
    let num = in_world.numbered in
    record {
      on_link = record {
        up_is = on.up_is;
        down_is = on.down_is;
        back_is = on.back_is;
        up_left = on.up_left;
        down_left = on.down_left;
        fits = record {
          front = on.fits.front;
          is_fold = on.fits.is_fold;
          fit = on.fits.fit;
          up_whole = on.fits.up_whole;
          down_whole = on.fits.down_whole;
        };
      };
      usual = in_world.usual;
      stands = in_world.stands;
      fronts_are = record {
        asked = fold.asked;
        value = fold.value;
        taken = fold.taken;
        rest = fold.rest;
        well = fold.well;
        unread = fold.unread;
        whole = fold.whole;
        were_attached = fold.were_attached;
        second = fold.second;
      };
      numbered = record {
        asks = num.asks;
        fetches = num.fetches;
        second = num.second;
        attaching = num.attaching;
        targets = num.targets;
      };
      session = known mode in_world.session;
      alive = in_world.alive;
      first_alive = in_world.first_alive;
      panels = refl;
      first_told = in_world.first_told;
      second_told = in_world.second_told;
    }
  where
    known : (mode : PairMode) → KnowSession mode e.fronts.pair w.state.attached
        → KnowSession mode (panels_on panels e.fronts).pair w.state.attached
    known calm k = k
    known targeted k = tt

-- ---- the start

-- a page was loaded, and nothing was sent since the pipes had nothing left to give
pub world-first : (up0 down0 : Pipe) (kinds : List PanelKind) (page : LoadedPage) (mux : Mux) (side : PageSide) → CanLoadPage page
    → PageHasTexts page → up0.given ≡ up0.sent → down0.given ≡ down0.sent → IsNewMux mux side page
    → InPairWorld calm up0 down0 up0 down0 (pair_loaded_run kinds page) []
    (record {
      mux = mux;
      side = side;
      back_rest = [];
      fronts = first_fronts kinds;
      up_there = 0;
      down_there = 0;
      first_told = nothing_told;
      second_told = nothing_told;
    })
world-first up0 down0 kinds page mux side can texts up_level down_level new = record {
  on_link = link-first pair_runner PairRoom (next_in calm) (λ n. IsTurn) (fit_in calm) (laws_in calm) no_fronts
      (record { up = up0; down = down0 }) pair_nothing_spent (pair_audience kinds) (pair_loaded page) up_level down_level
      begins;
  usual = All-nil IsUsual;
  stands = subst (PairStandsFor mux side) (sym (starts-are-same page)) (new-pairs-stand mux side page can texts new);
  fronts_are = both-begin up_reads kinds;
  numbered = record {
    asks = refl;
    fetches = refl;
    second = tt;
    attaching = All-nil (CountsNone pair_nothing_spent);
    targets = refl;
  };
  session = (refl, tt);
  alive = refl;
  first_alive = refl;
  panels = refl;
  first_told = refl;
  second_told = refl;
} where
  begins : PairIsCalm pair_nothing_spent no_fronts (pair_loaded page) []
  begins = record {
    one = shows-fresh (loaded_side 1 1 page) (IsState-first page can texts);
    two = neither;
    calm = tt;
    none_waiting = refl;
    top = omega arith;
    attached_told = refl;
    asked = λ k low more. refl;
  }
