-- Ends of a page that was just loaded, before anything was sent, and what the front ends' parts of the ends are.
use Rattle.std.specs.Prelude.{◌≡◌, ℕ, Bool, true, false, List, [], ◌∷◌, ◌++◌, codes, Option, Some, None}
use Rattle.front_mirror.specs.declared.panels.Panel.{Ghosts}
use Rattle.front_mirror.specs.declared.panels.PanelKind.{PanelKind}
use Rattle.page_forms.specs.Pages.{LoadedPage}
use Rattle.front_mirror.specs.Front.{FrontState}
use Rattle.front_mirror.specs.Outline.{outline_text, seen_line}
use Rattle.session_runs.specs.Pairs.{Second}
use Rattle.back_end.specs.PairSeats.{IsNewMux}
use Rattle.multi_replay.specs.States.{StatePair, first_fronts}
use Rattle.inspect_world.specs.World.{nothing_told}
use Rattle.replay_script.specs.Forms.{LineForm}
use Rattle.replay_script.specs.PairLines.{PairForm, of_first, of_second}
pub use Rattle.pair_world.specs.PairSendings.{may_ask_on}
use Rattle.replay_parts.specs.LinkEnds.{unused_ends}
use Rattle.pair_replay.specs.declared.two_fronts.TwoFronts.{TwoFronts}
use Rattle.pair_replay.specs.declared.two_fronts.ToldCounts.{ToldCounts}
use Rattle.pair_replay.specs.Tellings.{told_seen}

-- a new side of this page with two new seats, and the first front end with panels of these kinds: nothing was sent, given or told
pub record AreNewEnds {P : Type 0} {g : Ghosts P} (e : TwoFronts P g) (kinds : List PanelKind) (page : LoadedPage) : Type 0 where
  pub mux : IsNewMux e.mux e.side page
  pub ends : e.ends ≡ unused_ends
  pub fronts : e.fronts ≡ first_fronts kinds
  pub first_told : told_seen e.first_told ≡ nothing_told
  pub second_told : told_seen e.second_told ≡ nothing_told

-- what was told of the front end that is meant
abbrev pub told_held : {P : Type 0} {g : Ghosts P} → Bool → TwoFronts P g → ToldCounts
told_held false e = e.first_told
told_held true e = e.second_told

-- so much was told of it
abbrev pub with_told_held : {P : Type 0} {g : Ghosts P} → Bool → ToldCounts → TwoFronts P g → TwoFronts P g
with_told_held false told e = record e { first_told = told }
with_told_held true told e = record e { second_told = told }

-- a line of any script that names this front end
abbrev pub line_on : Bool → LineForm → PairForm
line_on false form = of_first form
line_on true form = of_second form

-- the outline of the second front end, where it stands
abbrev pub second_end_text : Option (Second FrontState (List ℕ)) → List ℕ
second_end_text None = []
second_end_text (Some w) = codes "# end 2" ++ 10 ∷ outline_text seen_line w.value.value.tree

-- the closing part of what two front ends show
abbrev pub ends_text : StatePair → List ℕ
ends_text p = codes "# end" ++ 10 ∷ outline_text seen_line p.one.value.tree ++ second_end_text p.two
