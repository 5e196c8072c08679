-- The binding stands for the session after each change.
use Rattle.std.proofs.Common.{◌≡◌, ◌≢◌, ℕ, ◌<◌, Bool, true, false, cond, not, ◌&&◌, ◌==◌, List, [], Option, Some, None, IsSome, unwrap_or}
use Rattle.std.proofs.Common.{refl, sym, ap, subst, ◌∙◌, inl, inr, arith}
use Rattle.std.proofs.lemmas.Bool.{eqb-true}
use Rattle.std.specs.FinMap as map
use Rattle.node_tree.specs.Nodes.{Nodes, none, node, Branch, alone}
use Rattle.node_tree.specs.Labels.{Label, holds}
use Rattle.node_tree.specs.Keys.{tally, has, At}
use Rattle.node_tree.proofs.KeyLemmas.{tally-at, has-there, has-find, found_key, find-stands}
use Rattle.page_tree.specs.Pages.{PageRow, row_serial, PageValue, IsValid, find_in, node_at, parent_at}
use Rattle.page_tree.specs.Edits.{after, changed_at, relabelled, with_child, without_child}
use Rattle.page_tree.specs.declared.edits.TreeEdit.TheVariants.{Attach, Detach}
use Rattle.node_binding.specs.Counts.{times}
use Rattle.node_binding.specs.Cuts.{known}
use Rattle.node_binding.specs.Openings.{containers_within}
use Rattle.node_binding.specs.Sessions.{Session, IsSession, session_of, is_open, id_at, attached, detached}
use Rattle.shown_pages.specs.declared.modes.Mode.{Mode}
use Rattle.node_binding.specs.Bindings.{BindingValue, Stands, in_mode, with_bound, all_forgotten}
use Rattle.node_binding.specs.Changes.{BindingStandsFor, BindingBegins, Resets, ChangesMode, Starts, OpensDown, BindsChild, PassesAttach}
use Rattle.node_binding.specs.Changes.{Forgets, PassesLabel}
use Rattle.node_binding.proofs.Places.{is_in-times}
use Rattle.node_binding.proofs.Known.{known-tally}
use Rattle.node_binding.proofs.StartLemmas.{root_holds, distinct-alone}
use Rattle.node_binding.proofs.StandsLemmas.{Stands-begun, Stands-reset, Stands-document_opened}
use Rattle.node_binding.proofs.SessionLemmas.{IsSession-begun, IsSession-reset, IsSession-document_opened}
use Rattle.node_binding.proofs.OpeningLemmas.{AreDistinct, reached-tally}
use Rattle.node_binding.proofs.OpenedLemmas.{IsSession-opened}
use Rattle.node_binding.proofs.LawLemmas.{Stands-open_down}
use Rattle.node_binding.proofs.ChangedLemmas.{IsAlike, known-at, known_below_it, IsOpenedSet-at, IsSession-same, Stands-same}
use Rattle.node_binding.proofs.AttachLemmas.{IsSession-attached, Stands-attached, IsSession-apart, Stands-apart}
use Rattle.node_binding.proofs.DetachLemmas.{IsOneOf, first, later, IsSession-detached, Stands-detached_at}
use Rattle.node_binding.proofs.ForgetLemmas.{forgotten-ids, forgotten-opened, forgotten-next, IsPaired-all_forgotten}
use Rattle.node_binding.proofs.PairLemmas.{IsPaired-stands, serials-paired}
use Rattle.node_tree.proofs.ChangeLemmas.{at-put_root, child_of, Held, held}

pub begins : BindingBegins
begins page = record { session = IsSession-begun (alone page.tree); stands = Stands-begun (alone page.tree) }

pub resets : Resets
resets page other w b for = record {
  session = IsSession-reset (alone other.tree) w;
  stands = Stands-reset (alone page.tree) (alone other.tree) w b for.stands;
}

pub starts : Starts
starts d page other w b left valid for = record {
  session = IsSession-document_opened d other.tree.row other.tree.children w (distinct-alone other valid) (root_holds other valid) left;
  stands = Stands-document_opened d (alone other.tree) w b (distinct-alone other valid) for.stands.next_is;
}

pub opens_down : OpensDown
opens_down d page x o pushed since b left valid can for = record {
  session = IsSession-opened d (alone page.tree) x o pushed since (distinct-alone page valid) left can for.session;
  stands = Stands-open_down d (alone page.tree) x o pushed since b (distinct-alone page valid) left can for.session for.stands;
}

-- ---- one node of the page is changed

-- where nothing is known, the page says nothing
Stands-unknown : (n m : Nodes PageRow) (pushed : List ℕ) (since : ℕ) (b : BindingValue)
    → Stands n (record { opened = None; pushed = pushed; since = since }) b
    → Stands m (record { opened = None; pushed = pushed; since = since }) b
Stands-unknown n m pushed since b stands = record {
  opened_is = stands.opened_is;
  ids_are = stands.ids_are;
  serials_are = stands.serials_are;
  next_is = stands.next_is;
}

IsSession-unknown : (n m : Nodes PageRow) (pushed : List ℕ) (since : ℕ)
    → IsSession n (record { opened = None; pushed = pushed; since = since })
    → IsSession m (record { opened = None; pushed = pushed; since = since })
IsSession-unknown n m pushed since session = record { opened_set = tt; since_then = session.since_then; known_stand = session.known_stand }

some_none : {A : Type 0} {x : A} → ¬ (Some x ≡ None)
some_none e = cc

changes_mode_by : (mode : Mode) (page other : PageValue) (opened : Option (ℕ → Bool)) (pushed : List ℕ) (since : ℕ) (b : BindingValue)
    → opened ≡ None → BindingStandsFor page (record { opened = opened; pushed = pushed; since = since }) b
    → BindingStandsFor other (record { opened = opened; pushed = pushed; since = since }) (in_mode mode b)
changes_mode_by mode page other None pushed since b nothing for =
    let stands = Stands-unknown (alone page.tree) (alone other.tree) pushed since b for.stands in
    record {
      session = IsSession-unknown (alone page.tree) (alone other.tree) pushed since for.session;
      stands = record {
        opened_is = stands.opened_is;
        ids_are = stands.ids_are;
        serials_are = stands.serials_are;
        next_is = stands.next_is;
      };
    }
changes_mode_by mode page other (Some o) pushed since b nothing for = absurd (some_none nothing)

pub changes_mode : ChangesMode
changes_mode mode page other w b nothing for = changes_mode_by mode page other w.opened w.pushed w.since b nothing for

or_nothing : (v : Bool) → cond {A = Option ℕ} v None None ≡ None
or_nothing true = refl
or_nothing false = refl

and_nothing : (v : Bool) → (v && false) ≡ false
and_nothing true = refl
and_nothing false = refl

Stands-forgotten : (n m : Nodes PageRow) (x : Branch PageRow) (pushed : List ℕ) (since : ℕ) (b : BindingValue)
    → IsSession n (record { opened = None; pushed = pushed; since = since })
    → Stands n (record { opened = None; pushed = pushed; since = since }) b
    → Stands m (record { opened = None; pushed = pushed; since = since }) (all_forgotten (alone x) b)
Stands-forgotten n m x pushed since b session stands =
    let w : Session = record { opened = None; pushed = pushed; since = since } in
    let ids : (s : ℕ) → map.get (all_forgotten (alone x) b).ids s
    ≡ id_at w m s = λ s. forgotten-ids (alone x) b s ∙ ap (cond (has row_serial s (alone x)) None) (stands.ids_are s) ∙ or_nothing
    (has row_serial s (alone x)) in
    record {
      opened_is = λ s. forgotten-opened (alone x) b s ∙ ap (λ v. not (has row_serial s (alone x)) && v) (stands.opened_is s) ∙ and_nothing
          (not (has row_serial s (alone x)));
      ids_are = ids;
      serials_are = serials-paired m w (all_forgotten (alone x) b) ids
          (IsPaired-all_forgotten (alone x) b (IsPaired-stands n w session b stands));
      next_is = forgotten-next (alone x) b ∙ stands.next_is;
    }

-- the node that a serial names
pub record Named (serial : ℕ) (tree p : Branch PageRow) : Type 0 where
  pub found : find_in serial tree ≡ Some p
  pub at : node_at serial tree ≡ p
  pub serial_is : p.row.serial ≡ serial

named : (serial : ℕ) (tree p : Branch PageRow) → find_in serial tree ≡ Some p → Named serial tree p
named serial tree p found = record {
  found = found;
  at = ap (λ o. unwrap_or o tree) found;
  serial_is = found_key row_serial serial (alone tree) p found;
}

named_some : (serial : ℕ) (tree : Branch PageRow) → IsSome (find_in serial tree) → Named serial tree (node_at serial tree)
named_some serial tree there = go (find_in serial tree) refl there
  where
    go : (o : Option (Branch PageRow)) → find_in serial tree ≡ o → IsSome o → Named serial tree (node_at serial tree)
    go None e h = absurd (cc)
    go (Some p) e h = subst (Named serial tree) (sym (ap (λ o. unwrap_or o tree) e)) (named serial tree p e)

named_opened : (o : ℕ → Bool) (tree : Branch PageRow) (serial : ℕ) → 0 < tally row_serial serial (alone tree) → IsSome (find_in serial tree)
named_opened o tree serial h = subst (λ b. b ≡ true)
    (sym (has-there row_serial serial (alone tree) h) ∙ has-find row_serial serial (alone tree)) refl

changed : (serial : ℕ) (change : Branch PageRow → Branch PageRow) (tree : Branch PageRow) → IsSome (find_in serial tree)
    → (depth : ℕ) × At (node_at serial tree) (change (node_at serial tree)) depth (alone tree) (alone (changed_at serial change tree))
changed serial change tree there =
    let it = named_some serial tree there in at-put_root row_serial serial (change (node_at serial tree)) tree
    (node_at serial tree) it.found

-- ---- attach

module _ (page : PageValue) (parent before : ℕ) (x : Branch PageRow) (valid : IsValid page)
    (valid_after : IsValid (after (Attach parent before x) page)) where
  abbrev n : Nodes PageRow
  n = alone page.tree

  abbrev m : Nodes PageRow
  m = alone (after (Attach parent before x) page).tree

  attached_below : (o : ℕ → Bool) (pushed : List ℕ) (since : ℕ) (b : BindingValue) → IsSome (find_in parent page.tree) → o parent ≡ true
      → BindingStandsFor page (session_of o pushed since) b
      → BindingStandsFor (after (Attach parent before x) page) (attached x.row.serial (session_of o pushed since))
      (with_bound x.row.serial b)
  attached_below o pushed since b there is for =
      let at = changed parent (with_child before x) page.tree there in
      let it = named_some parent page.tree there in
      let open_parent : o (node_at parent page.tree).row.serial ≡ true = ap o it.serial_is ∙ is in
      record {
        session = IsSession-attached n m (node_at parent page.tree) x before at.0 at.1
            (distinct-alone (after (Attach parent before x) page) valid_after) o pushed since for.session open_parent;
        stands = Stands-attached n m (node_at parent page.tree) x before at.0 at.1
            (distinct-alone (after (Attach parent before x) page) valid_after) o pushed since for.session open_parent b for.stands;
      }

  attached_apart : (o : ℕ → Bool) (pushed : List ℕ) (since : ℕ) (b : BindingValue) → IsSome (find_in parent page.tree) → o parent ≡ false
      → BindingStandsFor page (session_of o pushed since) b
      → BindingStandsFor (after (Attach parent before x) page) (session_of o pushed since) b
  attached_apart o pushed since b there is for =
      let at = changed parent (with_child before x) page.tree there in
      let it = named_some parent page.tree there in
      let shut_parent : o (node_at parent page.tree).row.serial ≡ false = ap o it.serial_is ∙ is in
      record {
        session = IsSession-apart n m (node_at parent page.tree) x before at.0 at.1
            (distinct-alone (after (Attach parent before x) page) valid_after) o pushed since for.session shut_parent;
        stands = Stands-apart n m (node_at parent page.tree) x before at.0 at.1
            (distinct-alone (after (Attach parent before x) page) valid_after) o pushed since for.session shut_parent b for.stands;
      }

  -- an opened node is live
  opened_there : (o : ℕ → Bool) (pushed : List ℕ) (since : ℕ) → IsSession n (session_of o pushed since) → o parent ≡ true
      → IsSome (find_in parent page.tree)
  opened_there o pushed since session is =
      named_opened o page.tree parent
      (omega (arith, is_in-times (containers_within None n) parent (session.opened_set.live parent is), reached-tally None parent n))

  pub binds_child_by : (opened : Option (ℕ → Bool)) (pushed : List ℕ) (since : ℕ) (b : BindingValue) → is_open opened parent ≡ true
      → BindingStandsFor page (record { opened = opened; pushed = pushed; since = since }) b
      → BindingStandsFor (after (Attach parent before x) page)
      (attached x.row.serial (record { opened = opened; pushed = pushed; since = since })) (with_bound x.row.serial b)
  binds_child_by None pushed since b is for = cc
  binds_child_by (Some o) pushed since b is for = attached_below o pushed since b (opened_there o pushed since for.session is) is for

  pub passes_attach_by : (opened : Option (ℕ → Bool)) (pushed : List ℕ) (since : ℕ) (b : BindingValue) → IsSome (find_in parent page.tree)
      → is_open opened parent ≡ false → BindingStandsFor page (record { opened = opened; pushed = pushed; since = since }) b
      → BindingStandsFor (after (Attach parent before x) page) (record { opened = opened; pushed = pushed; since = since }) b
  passes_attach_by None pushed since b there is for = record {
    session = IsSession-unknown n m pushed since for.session;
    stands = Stands-unknown n m pushed since b for.stands;
  }
  passes_attach_by (Some o) pushed since b there is for = attached_apart o pushed since b there is for

pub binds_child : BindsChild
binds_child page parent before x w b valid valid_after is for = binds_child_by page parent before x valid valid_after w.opened w.pushed
    w.since b is for

pub passes_attach : PassesAttach
passes_attach page parent before x w b valid valid_after there is for = passes_attach_by page parent before x valid valid_after w.opened
    w.pushed w.since b there is for

-- ---- detach

one_of : (k : ℕ) (c : Nodes PageRow) (x : Branch PageRow) → child_of row_serial k c ≡ Some x → IsOneOf x c
one_of k none x e = cc
one_of k (node r c t) x e =
    (elim (r.serial == k) as (λ v. cond v (Some (record { row = r; children = c })) (child_of row_serial k t) ≡ Some x
    → IsOneOf x (node r c t)) [
      | true ↦ λ e. (let same : ◌≡◌ {A = Branch PageRow} (record { row = r; children = c }) x = cc in subst
          (λ (y : Branch PageRow). IsOneOf y (node r c t)) same (first t))
      | false ↦ λ e. later r c t (one_of k t x e)
    ]) e

-- where a node stands that is not the document
record Place (page : PageValue) (serial : ℕ) (x : Branch PageRow) : Type 0 where
  holder : Branch PageRow
  depth : ℕ
  at : At holder (without_child x.row.serial holder) depth (alone page.tree) (alone (after (Detach serial) page).tree)
  one : IsOneOf x holder.children

module _ (page : PageValue) (serial : ℕ) (valid : IsValid page) (there : IsSome (find_in serial page.tree))
    (other : serial ≢ page.tree.row.serial) where
  abbrev x : Branch PageRow
  x = node_at serial page.tree

  place_of : Held row_serial serial 0 (alone page.tree) x → Place page serial x
  place_of h =
      let k : ℕ = h.holder.row.serial in
      let above : parent_at serial page.tree ≡ k = ap (λ o. unwrap_or o 0) h.parent in
      let found : find_in k page.tree
      ≡ Some h.holder = find-stands row_serial h.holder (alone page.tree) h.stands (distinct-alone page valid k) in
      let it = named k page.tree h.holder found in
      let live : IsSome (find_in k page.tree) = subst (λ (o : Option (Branch PageRow)). IsSome o) (sym found) refl in
      let at = changed k (without_child serial) page.tree live in
      let same : x.row.serial ≡ serial = (named_some serial page.tree there).serial_is in
      let by_holder : At h.holder (without_child serial h.holder) at.0 (alone page.tree)
      (alone (changed_at k (without_child serial) page.tree)) =
      subst (λ (q : Branch PageRow). At q (without_child serial q) at.0 (alone page.tree)
      (alone (changed_at k (without_child serial) page.tree))) it.at at.1 in
      record {
        holder = h.holder;
        depth = at.0;
        at = subst (λ (s : ℕ). At h.holder (without_child s h.holder) at.0 (alone page.tree) (alone (after (Detach serial) page).tree))
            (sym same)
            (subst (λ (j : ℕ). At h.holder (without_child serial h.holder) at.0 (alone page.tree)
            (alone (changed_at j (without_child serial) page.tree))) (sym above) by_holder);
        one = one_of serial h.holder.children x h.child;
      }

  place : Place page serial x
  place = elim (held row_serial serial 0 (alone page.tree) x (named_some serial page.tree there).found) [
    | inl top ↦ absurd (other (sym (document_of serial page.tree x top.0)))
    | inr h ↦ place_of h
  ]
    where
      document_of : (k : ℕ) (tree y : Branch PageRow) → child_of row_serial k (alone tree) ≡ Some y → tree.row.serial ≡ k
      document_of k tree y e = (elim (tree.row.serial == k) as
          (λ v. (tree.row.serial == k) ≡ v → cond v (Some (record { row = tree.row; children = tree.children })) None ≡ Some y
          → tree.row.serial ≡ k) [
            | true ↦ λ is _. eqb-true tree.row.serial k is
            | false ↦ λ _ e. cc
          ]) refl e

  pub forgets_by : (opened : Option (ℕ → Bool)) (pushed : List ℕ) (since : ℕ) (b : BindingValue)
      → BindingStandsFor page (record { opened = opened; pushed = pushed; since = since }) b
      → BindingStandsFor (after (Detach serial) page) (detached x (record { opened = opened; pushed = pushed; since = since }))
      (all_forgotten (alone x) b)
  forgets_by None pushed since b for = record {
    session = IsSession-unknown (alone page.tree) (alone (after (Detach serial) page).tree) pushed since for.session;
    stands = Stands-forgotten (alone page.tree) (alone (after (Detach serial) page).tree) x pushed since b for.session for.stands;
  }
  forgets_by (Some o) pushed since b for = record {
    session = IsSession-detached (alone page.tree) (alone (after (Detach serial) page).tree) place.holder x place.depth place.at place.one
        (distinct-alone page valid) o pushed since for.session;
    stands = Stands-detached_at (alone page.tree) (alone (after (Detach serial) page).tree) place.holder x place.depth place.at place.one
        (distinct-alone page valid) o pushed since for.session b for.stands;
  }

pub forgets : Forgets
forgets page serial w b valid there other for = forgets_by page serial valid there other w.opened w.pushed w.since b for

-- ---- labels

module _ (page : PageValue) (serial : ℕ) (label : Label → Label) (kept : (l : Label) → (label l).kind ≡ l.kind) (valid : IsValid page)
    (there : IsSome (find_in serial page.tree)) where
  abbrev relabelled_page : PageValue
  relabelled_page = record page { tree = changed_at serial (relabelled label) page.tree }

  abbrev q : Branch PageRow
  q = node_at serial page.tree

  alike : IsAlike q (relabelled label q)
  alike = record { serial = refl; kind = kept q.row.label }

  at_label : (depth : ℕ) × At q (relabelled label q) depth (alone page.tree) (alone relabelled_page.tree)
  at_label = changed serial (relabelled label) page.tree there

  distinct_label : AreDistinct (alone relabelled_page.tree)
  distinct_label s = omega (arith, tally-at row_serial s at_label.1, distinct-alone page valid s)

  known_label : (o : ℕ → Bool) (s : ℕ) → times s (known o (alone relabelled_page.tree)) ≡ times s (known o (alone page.tree))
  known_label o s =
      let at = known-at o alike at_label.1 in
      let same : times s (known_below_it o (relabelled label q))
      ≡ times s (known_below_it o q) = ap (λ k. times s (cond (cond (holds k) (o q.row.serial) false) (known o q.children) []))
      (kept q.row.label) in
      omega (arith, at.counts s, ap (λ k. cond {A = ℕ} at.in_view k 0) same)

  pub passes_label_by : (opened : Option (ℕ → Bool)) (pushed : List ℕ) (since : ℕ) (b : BindingValue)
      → BindingStandsFor page (record { opened = opened; pushed = pushed; since = since }) b
      → BindingStandsFor relabelled_page (record { opened = opened; pushed = pushed; since = since }) b
  passes_label_by None pushed since b for = record {
    session = IsSession-unknown (alone page.tree) (alone relabelled_page.tree) pushed since for.session;
    stands = Stands-unknown (alone page.tree) (alone relabelled_page.tree) pushed since b for.stands;
  }
  passes_label_by (Some o) pushed since b for =
      let set = IsOpenedSet-at o alike (λ e. e) (λ e. e) (λ s. omega arith) at_label.1 for.session.opened_set in
      record {
        session = IsSession-same (alone page.tree) (alone relabelled_page.tree) o pushed since (known_label o) set for.session;
        stands = Stands-same (alone page.tree) (alone relabelled_page.tree) o pushed since (known_label o)
            (λ s. omega (arith, known-tally o s (alone relabelled_page.tree), distinct_label s)) b for.session for.stands;
      }

pub passes_label : PassesLabel
passes_label page serial label w b kept valid there for = passes_label_by page serial label kept valid there w.opened w.pushed w.since b for
