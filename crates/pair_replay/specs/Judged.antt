-- Which line of a script with two front ends is refused, over every link: each line that is in form is judged by what the fold of the two
-- front ends comes to at a moment, later lines by later moments, and the one that is refused by that of the exit.
use Rattle.std.specs.Prelude.{◌≡◌, ℕ, ◌+◌, List, [], ◌∷◌, map, Option, Some, None}
use Rattle.front_mirror.specs.declared.panels.PanelKind.{PanelKind}
use Rattle.replay_script.specs.Lines.{lines_of}
use Rattle.replay_script.specs.Script.{panels_after}
use Rattle.replay_script.specs.PairLines.{PairForm, attach_session, detach_session, of_first, of_second, pair_line_form, pair_line_fault}
use Rattle.replay_script.specs.PairLines.{pair_want_fault}
use Rattle.replay_script.specs.declared.faults.LineFault.{LineFault}
use Rattle.replay_script.specs.declared.faults.LineFault.TheVariants.{NotLoad}
use Rattle.pair_world.specs.PairLinks.{LinkMoment, AreInOrderTo, pair_fold_of, met_by}

-- the panels after a line: those of the first front end
abbrev pub pair_panels_after : {K : Type 0} → PairForm → List (Option K) → List (Option K)
pair_panels_after attach_session panels = panels
pair_panels_after detach_session panels = panels
pair_panels_after (of_first form) panels = panels_after form panels
pair_panels_after (of_second form) panels = panels

-- the fault of a line in form, at a moment
abbrev pub fault_at : LinkMoment → List (Option PanelKind) → PairForm → Option LineFault
fault_at m panels form = pair_want_fault (met_by (pair_fold_of m.sent_up m.given_down) panels) form

-- a line that met a fault is the last that was judged, at the last moment; `Later` says of those behind it
abbrev pub LastOr : Option LineFault → ℕ → LinkMoment → LinkMoment → List LinkMoment → Option (ℕ × LineFault) → Type 0 → Type 0
LastOr None number m last ms bad Later = Later
LastOr (Some fault) number m last ms bad Later = (ms ≡ []) × (m ≡ last) × (bad ≡ Some (number, fault))

-- a line that is refused by its form
abbrev pub IsBadForm : ℕ → Option LineFault → Option (ℕ × LineFault) → Type 0
IsBadForm number None bad = ⊥
IsBadForm number (Some fault) bad = bad ≡ Some (number, fault)

-- the form of a line that is not refused by it
abbrev pub judged_form : Option LineFault → Option PairForm → Option PairForm
judged_form None form = form
judged_form (Some fault) form = None

-- a line in form is judged at that moment, and those behind it at later ones
abbrev pub JudgedLine : LinkMoment → ℕ → List (Option PanelKind) → Option PairForm → LinkMoment → List LinkMoment
    → Option (ℕ × LineFault) → (List (Option PanelKind) → Type 0) → Type 0
JudgedLine last number panels None m ms bad later = ⊥
JudgedLine last number panels (Some form) m ms bad later =
    LastOr (fault_at m panels form) number m last ms bad (later (pair_panels_after form panels))

-- Of lines after the load, the first of which has this number and these open panels, `bad` is the first that is refused: each before it was
-- judged at one of the moments.
abbrev pub AreJudged : LinkMoment → ℕ → List (Option PanelKind) → List (List ℕ) → List LinkMoment → Option (ℕ × LineFault) → Type 0
AreJudged last number panels [] [] bad = bad ≡ None
AreJudged last number panels [] (m ∷ ms) bad = ⊥
AreJudged last number panels (line ∷ lines) [] bad = IsBadForm number (pair_line_fault number line) bad
AreJudged last number panels (line ∷ lines) (m ∷ ms) bad =
    JudgedLine last number panels (judged_form (pair_line_fault number line) (pair_line_form line)) m ms bad
    (λ panels1. AreJudged last (number + 1) panels1 lines ms bad)

-- a first line that is refused, or those after it
abbrev pub FirstOr : Option LineFault → Option (ℕ × LineFault) → Type 0 → Type 0
FirstOr None bad Later = Later
FirstOr (Some fault) bad Later = bad ≡ Some (1, fault)

-- an input without a line has no load
abbrev pub LinesJudged : LinkMoment → List (Option PanelKind) → List (List ℕ) → List LinkMoment → Option (ℕ × LineFault) → Type 0
LinesJudged last panels [] ms bad = bad ≡ Some (1, NotLoad)
LinesJudged last panels (line ∷ lines) ms bad = FirstOr (pair_line_fault 1 line) bad (AreJudged last 2 panels lines ms bad)

-- Of an input, with panels of these kinds, `bad` is the first line that is refused, by some moments up to the exit.
pub record IsJudged (exit : LinkMoment) (kinds : List PanelKind) (input : List ℕ) (bad : Option (ℕ × LineFault)) : Type 0 where
  pub moments : List LinkMoment
  pub in_order : AreInOrderTo exit moments
  pub judged : LinesJudged exit (map Some kinds) (lines_of input) moments bad
