-- A watch is set, or taken away: the step is well.
use Rattle.std.proofs.Common.{◌≡◌, ℕ, ◌<◌, ◌==◌, Bool, true, false, not, ◌||◌, [], Option, Some, None, ◌⊎◌, inl, inr, ⊎_elim, refl, sym}
use Rattle.std.proofs.Common.{◌∙◌, subst, arith}
use Rattle.std.specs.FinSet as set
use Rattle.std.specs.Ordering.{nat_cmp, eq_by_cmp}
use Rattle.std.specs.Cmp.{nat_cmp_total, Equal-is}
use Rattle.std.proofs.lemmas.Bool.{and_parts}
use Rattle.cdp_json.specs.Kinds.{is_counted}
use Rattle.node_tree.specs.Nodes.{Nodes}
use Rattle.node_tree.specs.Keys.{has}
use Rattle.node_tree.proofs.KeyLemmas.{has-there}
use Rattle.page_tree.specs.Pages.{PageRow, row_serial}
use Rattle.node_binding.specs.Counts.{times}
use Rattle.node_binding.specs.Sessions.{Session, session_ids, known_by}
use Rattle.node_binding.proofs.Known.{known-tally}
use Rattle.node_binding.proofs.PairLemmas.{find-there}
use Rattle.cdp_messages.specs.declared.down.ReplyBody.TheVariants.{Nothing}
use Rattle.client_views.specs.Moves.{replied, CanBeTold, ends, goes}
use Rattle.node_tree.specs.declared.watches.WatchKind.{WatchKind}
use Rattle.node_tree.specs.declared.watches.WatchKind.TheVariants.{Subtree, Attribute, Removed}
use Rattle.dom_breakpoints.specs.Watched.{Serials, Watched, is_watched, with_watch, without_watch}
use Rattle.back_end.specs.States.{State, nodes_shown, view_of, HoldsNow}
use Rattle.back_end.specs.Steps.{with_client, serial_now, watch_step}
use Rattle.back_end.proofs.PushSteps.{not-begun, begun-known}
use Rattle.back_end.proofs.WellSteps.{Well, HasNumbers, told-view}

-- ---- watches after a change

-- what is watched after a change of the watches of one node was watched before, or is that node
abbrev pub AddsOne : (ℕ → Watched → Watched) → Type 0
AddsOne change = (kind : WatchKind) (node s : ℕ) (w : Watched) → is_watched kind (change node w) s ≡ true
    → (s ≡ node) ⊎ (is_watched kind w s ≡ true)

either-set : (a b : Bool) → (a || b) ≡ true → (a ≡ true) ⊎ (b ≡ true)
either-set true b h = inl refl
either-set false b h = inr h

inserted : (serials : Serials) (node s : ℕ) → set.contains (set.insert serials node) s ≡ true → (s ≡ node) ⊎ (set.contains serials s ≡ true)
inserted serials node s h =
    ⊎_elim (λ same. inl (set.nat_cmp-IsAntisymmetric s node ((Equal-is (nat_cmp s node)).0 same))) (λ was. inr was)
    (either-set (eq_by_cmp nat_cmp s node) (set.contains serials s) (sym (set.contains-insert nat_cmp_total serials node s) ∙ h))

removed : (serials : Serials) (node s : ℕ) → set.contains (set.remove serials node) s ≡ true → set.contains serials s ≡ true
removed serials node s h = (and_parts (not (eq_by_cmp nat_cmp s node)) (set.contains serials s)
    (sym (set.contains-remove nat_cmp_total serials node s) ∙ h)).1

pub with-adds : (kind : WatchKind) → AddsOne (with_watch kind)
with-adds Subtree Subtree node s w h = inserted w.subtree node s h
with-adds Subtree Attribute node s w h = inr h
with-adds Subtree Removed node s w h = inr h
with-adds Attribute Subtree node s w h = inr h
with-adds Attribute Attribute node s w h = inserted w.attribute node s h
with-adds Attribute Removed node s w h = inr h
with-adds Removed Subtree node s w h = inr h
with-adds Removed Attribute node s w h = inr h
with-adds Removed Removed node s w h = inserted w.removed node s h

pub without-adds : (kind : WatchKind) → AddsOne (without_watch kind)
without-adds Subtree Subtree node s w h = inr (removed w.subtree node s h)
without-adds Subtree Attribute node s w h = inr h
without-adds Subtree Removed node s w h = inr h
without-adds Attribute Subtree node s w h = inr h
without-adds Attribute Attribute node s w h = inr (removed w.attribute node s h)
without-adds Attribute Removed node s w h = inr h
without-adds Removed Subtree node s w h = inr h
without-adds Removed Attribute node s w h = inr h
without-adds Removed Removed node s w h = inr (removed w.removed node s h)

-- ---- known nodes

-- a known node is one of those that are shown
pub there-by : (o : Option (ℕ → Bool)) (n : Nodes PageRow) (s : ℕ) → 0 < times s (known_by o n) → has row_serial s n ≡ true
there-by None n s h = absurd (omega (arith, h))
there-by (Some o) n s h = has-there row_serial s n (omega (arith, h, known-tally o s n))

pub known-there : (state : State) (id serial : ℕ) → serial_now state id ≡ Some serial → has row_serial serial (nodes_shown state) ≡ true
known-there state id serial h =
    let w : Session = state.client.session in
    let p = λ (s : ℕ). session_ids w s == id in
    there-by w.opened (nodes_shown state) serial (find-there p (known_by w.opened (nodes_shown state)) serial h).0

-- ---- the step

-- the state with other watches
abbrev pub with_watches : Watched → State → State
with_watches watched state = with_client (record state.client { watched = watched }) state

pub watches-are : (change : ℕ → Watched → Watched) (state : State) (id serial : ℕ) → AddsOne change → serial_now state id ≡ Some serial
    → HoldsNow state
    → HoldsNow (with_watches (change serial state.client.watched) state)
watches-are change state id serial adds h is = record {
  page = is.page;
  texts = is.texts;
  sheets = is.sheets;
  session = is.session;
  off = is.off;
  css_off = is.css_off;
  all_shown = is.all_shown;
  watched = λ kind s e.
      ⊎_elim (λ same. subst (λ (k : ℕ). has row_serial k (nodes_shown state) ≡ true) (sym same) (known-there state id serial h))
      (λ was. is.watched kind s was)
      (adds kind serial s state.client.watched e);
  none_watched = λ e. not-begun state.client.session (begun-known state.client.session state id serial h) e;
}

pub watch-well : (id : ℕ) (change : ℕ → Watched → Watched) (state : State) (node serial : ℕ) → AddsOne change
    → serial_now state node ≡ Some serial
    → HoldsNow state → HasNumbers state → is_counted id ≡ true → Well state (watch_step id change (Some serial) state) 0 0 0
watch-well id change state node serial adds h is low small =
    let told : CanBeTold (view_of state) = told-view state is low in
    record {
      now = watches-are change state node serial adds h is;
      course = goes (replied id Nothing) [] (view_of state) (view_of state) (view_of state) told
          (refl, record { id_fits = small; plain = refl; fits = refl; texts = tt; levels = omega arith }) (ends (view_of state) told);
      few_ids = omega arith;
      few_serials = omega arith;
      few_sheets = omega arith;
      given = refl;
    }
