-- What a guest hears of edits out of another client's history, one after the other.
use Rattle.std.proofs.Common.{true, ◌≡◌, ℕ, ◌+◌, ◌*◌, ◌^◌, ◌<◌, List, [], ◌∷◌, ◌++◌, length, Option, Some, None, refl, sym, ap, subst}
use Rattle.std.proofs.Common.{◌∙◌, not, ◌&&◌}
use Rattle.std.proofs.Common.{append-nil, append_assoc, arith}
use Rattle.std.proofs.Math.Logic.{∥∥₁_elim, ∥∥₁_map}
use Rattle.std.proofs.Props.{props}
use Rattle.node_tree.specs.Nodes.{none}
use Rattle.page_forms.specs.Mediums.{usual_medium}
use Rattle.client_views.specs.Moves.{Move}
use Rattle.style_edits.specs.declared.splice.Splice.{Splice}
use Rattle.undo_marks.specs.Marks.{Marks, handed_out, groups_of}
use Rattle.undo_marks.specs.declared.histories.Direction.{Direction}
use Rattle.undo_marks.specs.Changes.{AllTaken}
use Rattle.undo_marks.specs.declared.inverse_lists.Inverse.{Inverse}
use Rattle.undo_marks.specs.declared.inverse_lists.Inverse.TheVariants.{Tree, Sheet}
use Rattle.undo_marks.specs.SavedEdits.{page_after}
use Rattle.back_end.specs.declared.desk.Desk.{Desk}
use Rattle.back_end.specs.declared.guest.Guest.{Guest}
use Rattle.back_end.specs.declared.side.PageSide.{PageSide}
use Rattle.back_end.specs.States.{State, TakesWell, loaded_state}
use Rattle.back_end.specs.Steps.{Step, telling_first, taking_command}
use Rattle.back_end.specs.Outside.{taken_outward, command_outward}
use Rattle.back_end.specs.Seats.{BothStandFor, StandsFor}
use Rattle.back_end.specs.Guests.{heard_one, heard_all, GuestStands, Hears, CanHear}
use Rattle.back_end.proofs.SheetSeats.{dom-on}
use Rattle.back_end.proofs.HistoryLemmas.{taken-out}
use Rattle.back_end.proofs.UndoSeats.{saved_at, TakesAll, Turned, rest-taken, tree-can, is-taking}
use Rattle.back_end.proofs.GuestSeats.{hears-nothing, hears-stands, hears-then, hear-fewer, can-hear-on}
use Rattle.back_end.proofs.GuestSteps.{outward-is}

-- ---- ids are left for the others

left-spliced : (n : ℕ) (x : Splice) (g h : Guest) (s s1 : PageSide) (state : State) → StandsFor g.seat s state
    → g.seat.desk.agent.next + 200001 * (n + 1) < 2 ^ 51
    → StandsFor h.seat s1 (heard_one (Sheet x) state).state → h.seat.desk.agent.next + 200001 * n < 2 ^ 51
left-spliced n x g h s s1 state both ids after =
    let first : g.seat.desk.agent.next ≡ length state.client.session.pushed + 1 = both.stands.stands.next_is in
    let last : h.seat.desk.agent.next ≡ length state.client.session.pushed + 1 = after.stands.stands.next_is in
    omega (arith, first, last, ids)

can-hear-spliced : (n : ℕ) (x : Splice) (a b : Option Guest) (s s1 : PageSide) → CanHear (n + 1) a s
    → ((state : State) → GuestStands a s state → Hears a b s1 (heard_one (Sheet x) state)) → CanHear n b s1
can-hear-spliced n x None None s s1 can told = tt
can-hear-spliced n x None (Some h) s s1 can told =
    absurd (told (loaded_state (record { nodes = none; medium = usual_medium; sheets = [] })) tt)
can-hear-spliced n x (Some g) None s s1 can told = absurd (∥∥₁_elim can.0 (hlevel props) (λ p. told p.0 p.1))
can-hear-spliced n x (Some g) (Some h) s s1 can told = (
  ∥∥₁_map can.0 (λ p. ((heard_one (Sheet x) p.0).state, (told p.0 p.1).0)),
  ∥∥₁_elim can.0 (hlevel props) (λ p. left-spliced n x g h s s1 p.0 p.1 can.1 (told p.0 p.1).0),
)

-- after an edit out of a history
can-hear-kept : (n : ℕ) (e : Inverse) (a b : Option Guest) (s s1 : PageSide) → CanHear (n + 1) a s
    → TakesWell s.page.next e (saved_at s) → s.page.next < 2 ^ 51 → s.sheets.next < 2 ^ 51
    → ((state : State) → GuestStands a s state → Hears a b s1 (heard_one e state)) → CanHear n b s1
can-hear-kept n (Tree t) a b s s1 can takes serials sheets told =
    can-hear-on n t a b s s1 can (tree-can s (Tree t) t refl ∣ takes ∣₁) takes.own serials sheets told
can-hear-kept n (Sheet x) a b s s1 can takes serials sheets told = can-hear-spliced n x a b s s1 can told

can-hear-taken : (n : ℕ) (e : Inverse) (a b : Option Guest) (s s1 : PageSide) → CanHear (n + 1) a s
    → ∥ TakesWell s.page.next e (saved_at s) ∥₁ → s.page.next < 2 ^ 51 → s.sheets.next < 2 ^ 51
    → ((state : State) → GuestStands a s state → TakesWell s.page.next e (saved_at s) → Hears a b s1 (heard_one e state)) → CanHear n b s1
can-hear-taken n e a None s s1 can taken serials sheets told = tt
can-hear-taken n e a (Some h) s s1 can taken serials sheets told = (
  ∥∥₁_elim taken (hlevel props)
      (λ t. (can-hear-kept n e a (Some h) s s1 can t serials sheets (λ state stands. told state stands t)).0),
  ∥∥₁_elim taken (hlevel props)
      (λ t. (can-hear-kept n e a (Some h) s s1 can t serials sheets (λ state stands. told state stands t)).1),
)

-- ---- edits, one after the other

-- what the guest heard of them, with these edits left
pub record HeardOf (all rest : List Inverse) (a b : Option Guest) (s : PageSide) (other : State) : Type 0 where
  pub mid : State
  pub told : List Move
  pub hears : Hears a b s (record { state = mid; moves = told })
  pub taken : AllTaken page_after (TakesWell s.page.next) rest (saved_at s)
  pub whole : heard_all all other ≡ telling_first told (heard_all rest mid)

-- how far the guest has come, with these edits left, each of which it can hear
pub record HeardWay (all rest : List Inverse) (a b : Option Guest) (s0 s : PageSide) : Type 0 where
  pub can : CanHear (length rest) b s
  pub serials : s.page.next < 2 ^ 51
  pub sheets : s.sheets.next < 2 ^ 51
  pub steps : (other : State) → GuestStands a s0 other → TakesAll s0 all → HeardOf all rest a b s other

heard-start : (all : List Inverse) (a : Option Guest) (s : PageSide) → CanHear (length all) a s → s.page.next < 2 ^ 51
    → s.sheets.next < 2 ^ 51 → HeardWay all all a a s s
heard-start all a s can serials sheets = record {
  can = can;
  serials = serials;
  sheets = sheets;
  steps = λ other stands takes. record {
    mid = other;
    told = [];
    hears = hears-nothing a s other stands;
    taken = takes;
    whole = refl;
  };
}

pub heard-begin : (all rest : List Inverse) (a : Option Guest) (s : PageSide) → rest ≡ all → CanHear (length all) a s → s.page.next < 2 ^ 51
    → s.sheets.next < 2 ^ 51 → HeardWay all rest a a s s
heard-begin all rest a s rest_is can serials sheets =
    subst (λ (l : List Inverse). HeardWay all l a a s s) (sym rest_is) (heard-start all a s can serials sheets)

-- one more
heard-on : (all rest : List Inverse) (e back : Inverse) (a b c : Option Guest) (d d1 : Desk) (s0 s s1 : PageSide) (out new : List ℕ)
    → HeardWay all (e ∷ rest) a b s0 s → ∥ TakesWell s.page.next e (saved_at s) ∥₁ → Turned e back d d1 s s1 out new
    → ((other : State) → GuestStands b s other → TakesWell s.page.next e (saved_at s) → Hears b c s1 (heard_one e other))
    → HeardWay all rest a c s0 s1
heard-on all rest e back a b c d d1 s0 s s1 out new w takes t told = record {
  can = can-hear-taken (length rest) e b c s s1 (hear-fewer (length (e ∷ rest)) (length rest + 1) b s (omega arith) w.can) takes w.serials
      w.sheets told;
  serials = omega (arith, t.next, w.serials);
  sheets = omega (arith, t.numbers, w.sheets);
  steps = λ other stands all_taken.
      let r = w.steps other stands all_taken in
      let before : Step = record { state = r.mid; moves = r.told } in
      let one : Step = heard_one e r.mid in
      let later : Step = heard_all rest one.state in
      record {
        mid = one.state;
        told = r.told ++ one.moves;
        hears = hears-then a b c s s1 before (heard_one e) r.hears (told r.mid (hears-stands a b s before r.hears) r.taken.0);
        taken = rest-taken e back rest d d1 s s1 out new t r.taken;
        whole = r.whole ∙ (λ i. record { state = later.state; moves = sym (append_assoc r.told one.moves later.moves) i });
      };
}

-- a step of the loop, by what is left
pub heard-turn : (all rest later : List Inverse) (e back : Inverse) (a b c : Option Guest) (d d1 : Desk) (s0 s s1 : PageSide)
    (out new : List ℕ) → rest ≡ e ∷ later → HeardWay all rest a b s0 s → ∥ TakesWell s.page.next e (saved_at s) ∥₁
    → Turned e back d d1 s s1 out new
    → ((other : State) → GuestStands b s other → TakesWell s.page.next e (saved_at s) → Hears b c s1 (heard_one e other))
    → HeardWay all later a c s0 s1
heard-turn all rest later e back a b c d d1 s0 s s1 out new is w takes t told =
    heard-on all later e back a b c d d1 s0 s s1 out new (subst (λ (l : List Inverse). HeardWay all l a b s0 s) is w) takes t told

-- the next edit can be heard
pub heard-next : (all rest later : List Inverse) (e : Inverse) (a b : Option Guest) (s0 s : PageSide) → rest ≡ e ∷ later
    → HeardWay all rest a b s0 s → CanHear 1 b s
heard-next all rest later e a b s0 s is w =
    hear-fewer (length (e ∷ later)) 1 b s (omega arith) (subst (λ (l : List Inverse). CanHear (length l) b s) is w.can)

-- at its end
pub heard-end : (all rest : List Inverse) (a b : Option Guest) (s0 s : PageSide) → length rest ≡ 0 → HeardWay all rest a b s0 s
    → (other : State) → GuestStands a s0 other → TakesAll s0 all → Hears a b s (heard_all all other)
heard-end all (e ∷ rest) a b s0 s empty w other stands takes = absurd (omega arith)
heard-end all [] a b s0 s empty w other stands takes =
    let r = w.steps other stands takes in
    subst (λ (done : Step). Hears a b s done)
    ((λ i. record { state = r.mid; moves = sym (append-nil r.told) i }) ∙ sym r.whole) r.hears

-- ---- what an undo and a redo are to the page

pub taking-outward : (way : Direction) (d : Desk) (h : Marks Inverse) (s : PageSide) (state : State) (o : Option (List Inverse))
    → BothStandFor d h s state → d.is_on ≡ true → handed_out (groups_of way h) ≡ o
    → command_outward (taking_command way) state ≡ taken_outward o state
taking-outward way d h s state o both on out =
    outward-is (taking_command way) state (dom-on (taking_command way) d s state both.stands on)
    (ap (λ b. b && not state.client.css_on) (is-taking way state).plain)
    ∙ (is-taking way state).outward
    ∙ ap (λ (x : Option (List Inverse)). taken_outward x state) (taken-out way h o state both.kept out)
