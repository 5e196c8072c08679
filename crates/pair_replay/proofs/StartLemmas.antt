-- A page with two front ends was just loaded: the run begins, and the ends follow the link.
use Rattle.std.proofs.Common.{◌≡◌, ℕ, ◌+◌, ◌*◌, ◌^◌, ◌≤◌, List, [], ◌++◌, length, map, Some, refl, sym, ap, subst, arith}
use Rattle.std.proofs.Common.{append-nil}
use Rattle.std.proofs.lemmas.List.Elements.{All-nil}
use Rattle.front_mirror.specs.declared.panels.Panel.{Ghosts}
use Rattle.front_mirror.specs.declared.panels.PanelKind.{PanelKind}
use Rattle.pipe_frames.specs.Pipe.{Pipe, IsLevel}
use Rattle.pipe_frames.specs.Frames.{frames_of}
use Rattle.page_tree.specs.Forms.{max_nodes}
use Rattle.page_forms.specs.Pages.{LoadedPage, CanLoadPage}
use Rattle.page_forms.specs.Sheets.{max_sheets}
use Rattle.page_forms.specs.Texts.{PageHasTexts}
use Rattle.back_end.specs.States.{loaded_state}
use Rattle.back_end.specs.Pairs.{loaded_pair}
use Rattle.back_end.specs.PairSeats.{PairStandsFor}
use Rattle.back_end.proofs.PairLemmas.{new-pairs-stand}
use Rattle.session_runs.specs.Stream.{awaited}
use Rattle.multi_replay.specs.States.{first_fronts}
use Rattle.multi_replay.proofs.BothLemmas.{both-begin}
use Rattle.inspect_world.specs.Fits.{most_bytes}
use Rattle.inspect_world.specs.World.{nothing_told}
use Rattle.inspect_world.proofs.Scripts.{fit-first}
use Rattle.pair_world.specs.FrameLaws.{IsUsual}
use Rattle.pair_world.specs.PairRuns.{pair_nothing_spent, pair_audience, pair_loaded_run, none_more}
use Rattle.pair_world.specs.PairHeld as held
use Rattle.pair_world.specs.PairHeld.{CountsNone, calm, up_reads, InPairWorld}
use Rattle.pair_world.specs.PairLinks.{LinkMoment, PairStarted, pair_started, DrewOne, FollowsPair}
use Rattle.pair_world.proofs.PairLemmas.{pairs-fit}
use Rattle.pair_world.proofs.SameSteps.{starts-are-same}
use Rattle.replay_parts.specs.LinkEnds.{LinkEnds}
use Rattle.pair_replay.specs.declared.two_fronts.TwoFronts.{TwoFronts}
use Rattle.pair_replay.specs.PairStarts.{AreNewEnds}
use Rattle.pair_replay.specs.Running.{pair_ends_of, InPairRun, InPairPlay}
use Rattle.pair_replay.specs.Following.{FollowsPairRun}
use Rattle.pair_replay.proofs.PairTheory.{loaded-together}

-- ---- the ends

-- nothing was sent, given or told
abbrev first_held : List PanelKind → held.PairEnds → held.PairEnds
first_held kinds h = record {
  mux = h.mux;
  side = h.side;
  back_rest = [];
  fronts = first_fronts kinds;
  up_there = 0;
  down_there = 0;
  first_told = nothing_told;
  second_told = nothing_told;
}

ends-first : {P : Type 0} {g : Ghosts P} (e : TwoFronts P g) (kinds : List PanelKind) (page : LoadedPage) → AreNewEnds e kinds page
    → pair_ends_of e ≡ first_held kinds (pair_ends_of e)
ends-first e kinds page new = λ i. record {
  mux = e.mux;
  side = e.side;
  back_rest = (new.ends i).splitter.rest;
  fronts = new.fronts i;
  up_there = (new.ends i).up_there;
  down_there = (new.ends i).down_there;
  first_told = new.first_told i;
  second_told = new.second_told i;
}

-- ---- over an honest link

nothing-awaited : (kinds : List PanelKind) (page : LoadedPage) → awaited (pair_loaded_run kinds page).up ≡ []
unfolding frames_of
nothing-awaited kinds page = refl

world-first : (up down : Pipe) (kinds : List PanelKind) (page : LoadedPage) (h : held.PairEnds) → CanLoadPage page → PageHasTexts page
    → IsLevel up → IsLevel down → PairStandsFor h.mux h.side (loaded_pair page)
    → InPairWorld calm up down up down (pair_loaded_run kinds page) (awaited (pair_loaded_run kinds page).up) (first_held kinds h)
unfolding frames_of
world-first up down kinds page h can texts up_level down_level stands = record {
  on_link = record {
    up_is = record { level = up_level; sent_is = sym (append-nil up.sent); given_is = sym (append-nil up.given) };
    down_is = record { level = down_level; sent_is = sym (append-nil down.sent); given_is = sym (append-nil down.given) };
    back_is = refl;
    up_left = refl;
    down_left = refl;
    fits = pairs-fit none_more pair_nothing_spent (pair_audience kinds) page can texts [] tt 0;
  };
  usual = All-nil IsUsual;
  stands = subst (PairStandsFor h.mux h.side) (sym (starts-are-same page)) stands;
  fronts_are = both-begin up_reads kinds;
  numbered = record {
    asks = refl;
    fetches = refl;
    second = tt;
    attaching = All-nil (CountsNone pair_nothing_spent);
    targets = refl;
  };
  session = (refl, tt);
  alive = refl;
  first_alive = refl;
  panels = refl;
  first_told = refl;
  second_told = refl;
}

module _ {P : Type 0} {g : Ghosts P} (honest : Type 0) (up down : Pipe) (kinds : List PanelKind) (page : LoadedPage) (e : TwoFronts P g)
    (is_honest : honest) (can : CanLoadPage page) (texts : PageHasTexts page) (up_level : IsLevel up) (down_level : IsLevel down)
    (new : AreNewEnds e kinds page) where
  none : e.ends.splitter.whole ≡ []
  none = ap (λ (x : LinkEnds). x.splitter.whole) new.ends

  pub begins : InPairRun calm honest up down up down (pair_loaded_run kinds page) e
  begins = record {
    so_far = record {
      is_honest = is_honest;
      in_world = subst
          (λ whole. InPairWorld calm up down up down (pair_loaded_run kinds page) (whole ++ awaited (pair_loaded_run kinds page).up)
          (pair_ends_of e)) (sym none)
          (subst (λ h. InPairWorld calm up down up down (pair_loaded_run kinds page) (awaited (pair_loaded_run kinds page).up) h)
          (sym (ends-first e kinds page new))
          (world-first up down kinds page (pair_ends_of e) can texts up_level down_level
          (new-pairs-stand e.mux e.side page can texts new.mux)));
    };
    none_whole = none;
  }

  -- so both runs begin, with room for lines of so many bytes
  pub play-begins : (bytes : ℕ) → bytes ≤ most_bytes
      → InPairPlay honest up down up down bytes (pair_loaded_run kinds page) (pair_loaded_run kinds page) e
  play-begins bytes few = record { both = loaded-together bytes kinds page can texts few; in_run = begins }

-- ---- over every link

-- nothing was sent or given yet
abbrev pub no_moment : LinkMoment
no_moment = record { sent_up = []; given_down = [] }

follows-first : (up down : Pipe) (kinds : List PanelKind) (page : LoadedPage) (lines : ℕ) (h : held.PairEnds)
    → length up.given ≤ length up.sent → length down.given ≤ length down.sent → CanLoadPage page → PageHasTexts page → lines ≤ 2 ^ 26
    → PairStandsFor h.mux h.side (loaded_pair page)
    → FollowsPair (pair_started (loaded_pair page) lines (map Some kinds) no_moment) up down up down [] (first_held kinds h)
unfolding frames_of
follows-first up down kinds page lines h up_within down_within can texts few stands =
    let fit = fit-first page can texts in
    let serials : (loaded_state page).side.page.next + 0 * (max_nodes + 1) ≤ (0 + 1) * (max_nodes + 1) = fit.serials in
    let numbers : (loaded_state page).side.next_sheet + 0 * max_sheets ≤ (0 + 1) * max_sheets + 1 = fit.numbers in
    let drew : DrewOne (loaded_state page) 0 0 0 = record { ids = omega arith; trees = omega arith; edits = omega arith } in
    record {
      sent_up = [];
      given_up = [];
      sent_down = [];
      given_down = [];
      up_is = record { within = up_within; sent_is = sym (append-nil up.sent); given_is = sym (append-nil up.given) };
      down_is = record { within = down_within; sent_is = sym (append-nil down.sent); given_is = sym (append-nil down.given) };
      later = record { more_sent = []; more_given = []; sent_is = refl; given_is = refl };
      fronts_are = both-begin up_reads kinds;
      alive = refl;
      first_alive = refl;
      panels = refl;
      events = [];
      frames_are = refl;
      back_is = refl;
      pair = loaded_pair page;
      pair_is = refl;
      sent_is = refl;
      replies_are = refl;
      down_whole = refl;
      stands = stands;
      up_left = refl;
      down_left = refl;
      few_asked = omega arith;
      few_second = tt;
      few_targets = omega arith;
      few_made = omega (arith, few);
      drew = record { root = drew; second = drew };
      few_serials = omega (arith, serials);
      few_numbers = omega (arith, numbers);
      few_searches = omega arith;
      few_second_searches = omega arith;
      few_sessions = omega arith;
    }

pub run-first : {P : Type 0} {g : Ghosts P} (up down : Pipe) (kinds : List PanelKind) (page : LoadedPage) (lines : ℕ) (e : TwoFronts P g)
    → length up.given ≤ length up.sent → length down.given ≤ length down.sent → CanLoadPage page → PageHasTexts page → lines ≤ 2 ^ 26
    → AreNewEnds e kinds page
    → FollowsPairRun (pair_started (loaded_pair page) lines (map Some kinds) no_moment) up down up down e
run-first up down kinds page lines e up_within down_within can texts few new =
    let start : PairStarted = pair_started (loaded_pair page) lines (map Some kinds) no_moment in
    let none : e.ends.splitter.whole ≡ [] = ap (λ (x : LinkEnds). x.splitter.whole) new.ends in
    record {
      so_far = subst (λ h. FollowsPair start up down up down e.ends.splitter.whole h) (sym (ends-first e kinds page new))
          (subst (λ frames. FollowsPair start up down up down frames (first_held kinds (pair_ends_of e))) (sym none)
          (follows-first up down kinds page lines (pair_ends_of e) up_within down_within can texts few
          (new-pairs-stand e.mux e.side page can texts new.mux)));
      none_whole = none;
    }
