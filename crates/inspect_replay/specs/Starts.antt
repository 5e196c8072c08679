-- Ends of a page that was just loaded, before anything was sent.
use Rattle.std.specs.Prelude.{◌≡◌, List}
use Rattle.front_mirror.specs.declared.panels.Panel.{Ghosts}
use Rattle.page_forms.specs.Pages.{LoadedPage}
use Rattle.front_mirror.specs.declared.panels.PanelKind.{PanelKind}
use Rattle.front_mirror.specs.Front.{first_state}
use Rattle.back_end.specs.Starts.{IsNewSeat}
use Rattle.replay_parts.specs.LinkEnds.{unused_ends}
use Rattle.inspect_replay.specs.declared.one_front.OneFront.{OneFront}

-- a new side of this page, a new seat, and panels of these kinds: nothing was sent, given or told
pub record IsNew {P : Type 0} {g : Ghosts P} (e : OneFront P g) (kinds : List PanelKind) (page : LoadedPage) : Type 0 where
  pub side : IsNewSeat e.seat e.side page
  pub ends : e.ends ≡ unused_ends
  pub front : e.front ≡ first_state kinds
  pub told : e.told ≡ 0
  pub told_pauses : e.told_pauses ≡ 0
