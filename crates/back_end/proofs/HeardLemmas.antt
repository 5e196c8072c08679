-- What is heard of another client's edits, each of which empties the history, is the outside step, after which it is empty.
use Rattle.std.proofs.Common.{◌≡◌, ℕ, List, [], ◌∷◌, ◌++◌, map, Bool, true, false, ◌||◌, Option, Some, None, refl, sym, ap, ◌∙◌}
use Rattle.dom_breakpoints.specs.declared.pauses.Pause.{Pause}
use Rattle.dom_breakpoints.specs.Pauses.{pause_of}
use Rattle.page_tree.specs.declared.edits.TreeEdit.{TreeEdit}
use Rattle.undo_marks.specs.Marks.{Marks, crossed_over}
use Rattle.undo_marks.specs.Changes.{HistoryEntry as Entry}
use Rattle.undo_marks.specs.Saved.{Saved}
use Rattle.undo_marks.specs.declared.inverse_lists.Inverse.{Inverse}
use Rattle.undo_marks.specs.declared.inverse_lists.Inverse.TheVariants.{Tree, Sheet}
use Rattle.back_end.specs.States.{State}
use Rattle.back_end.specs.Steps.{Step, with_page, with_marks, push_step, push_steps, met_step, pause_step, edit_step, followed_by}
use Rattle.back_end.specs.Steps.{script_step, script_steps, with_crossed}
use Rattle.back_end.specs.Outside.{made, turned, outside_one, outside_all, crossing_by}
use Rattle.back_end.specs.Guests.{heard_all, OutsideIsHeard}

-- a history of saved pages
abbrev History : Type 0
History = Marks (Entry Saved Inverse)

-- the same step with another history at its end
abbrev pub marked_step : History → Step → Step
marked_step m done = record done { state = with_marks m done.state }

-- ---- no edit looks at the history

target-marked : (e : TreeEdit) (p : Pause) (o : Option ℕ) (m : History) (state : State)
    → followed_by (followed_by (followed_by (push_step p.node (with_marks m state)) (push_steps o)) (met_step p)) (edit_step e)
    ≡ marked_step m (followed_by (followed_by (followed_by (push_step p.node state) (push_steps o)) (met_step p)) (edit_step e))
target-marked e p None m state = refl
target-marked e p (Some target) m state = refl

paused-marked : (e : TreeEdit) (o : Option Pause) (m : History) (state : State)
    → followed_by (pause_step o (with_marks m state)) (edit_step e) ≡ marked_step m (followed_by (pause_step o state) (edit_step e))
paused-marked e None m state = refl
paused-marked e (Some p) m state = target-marked e p p.target m state

one-marked : (e : Inverse) (m : History) (state : State) → outside_one e (with_marks m state) ≡ marked_step m (outside_one e state)
one-marked (Tree e) m state = paused-marked e (pause_of state.client.watched state.side.page.tree e) m state
one-marked (Sheet s) m state = refl

all-marked : (es : List Inverse) (m : History) (state : State)
    → outside_all es (with_marks m state) ≡ marked_step m (outside_all es state)
all-marked [] m state = refl
all-marked (e ∷ es) m state =
    ap (λ (d : Step). followed_by d (outside_all es)) (one-marked e m state)
    ∙ ap (λ (later : Step). record later { moves = (outside_one e state).moves ++ later.moves })
    (all-marked es m (outside_one e state).state)

-- so that they leave it as it is
pub outside-marks : (es : List Inverse) (state : State) → (outside_all es state).state.client.marks ≡ state.client.marks
outside-marks es state = ap (λ (d : Step). d.state.client.marks) (all-marked es state.client.marks state)

-- ---- emptied once more, it is the same

or_false : (b : Bool) → (b || false) ≡ b
or_false true = refl
or_false false = refl

pub crossed-twice : (m : History) → crossed_over (crossed_over m) ≡ crossed_over m
crossed-twice m =
    ap (λ (b : Bool). record { past = []; future = []; going = false; crossed = b }) (or_false (crossed_over m).crossed)

-- ---- edits, one after the other

last-crossed : (es : List Inverse) (done : Step) (m : History) → done.state.client.marks ≡ m
    → crossing_by es (marked_step (crossed_over m) done) ≡ marked_step (crossed_over m) done
last-crossed [] done m same = refl
last-crossed (e ∷ es) done m same = ap (λ (x : History). marked_step x done) (crossed-twice m)

pub heard-is : (es : List Inverse) (state : State) → heard_all es state ≡ crossing_by es (outside_all es state)
heard-is [] state = refl
heard-is (e ∷ es) state =
    let first : Step = outside_one e state in
    let rest : Step = outside_all es first.state in
    let marks : History = first.state.client.marks in
    let behind : Step → Step = λ later. record later { moves = first.moves ++ later.moves } in
    ap behind
    (heard-is es (with_crossed first.state)
    ∙ ap (crossing_by es) (all-marked es (crossed_over marks) first.state)
    ∙ last-crossed es rest marks (outside-marks es first.state)
    ∙ ap (λ (m : History). marked_step (crossed_over m) rest) (sym (outside-marks es first.state)))

pub outside-is-heard : OutsideIsHeard
outside-is-heard (made page es) state = heard-is es (with_page page state)
outside-is-heard (turned x) state = refl

-- ---- edits of the tree

pub scripts-are : (es : List TreeEdit) (state : State) → outside_all (map (λ e. Tree e) es) state ≡ script_steps es state
scripts-are [] state = refl
scripts-are (e ∷ es) state =
    let first : Step = script_step e state in
    ap (λ (later : Step). record later { moves = first.moves ++ later.moves }) (scripts-are es first.state)
