-- What a session shows of a page can be told by messages.
use Rattle.std.proofs.Common.{◌≡◌, ℕ, suc, ◌+◌, ◌<◌, ◌≤◌, ◌^◌, Bool, true, false, not, ◌&&◌, ◌||◌, cond, List, [], ◌∷◌, ◌++◌, length, drop}
use Rattle.std.proofs.Common.{Option, Some, None, refl, ap, arith, lt-ltb}
use Rattle.std.specs.List.{list_all}
use Rattle.std.proofs.lemmas.Bool.{and_parts, and_from}
use Rattle.node_tree.specs.declared.Kind.{Kind}
use Rattle.node_tree.specs.declared.Kind.TheVariants.{Document, Element, Text, Comment, Doctype}
use Rattle.node_tree.specs.Names.{is_element_name, is_attribute_name}
use Rattle.node_tree.specs.Levels.{max_level, most_levels}
use Rattle.node_tree.specs.Nodes.{Nodes, none, node, alone, width, height, node_count, map_rows, is_no_node}
use Rattle.node_tree.specs.Keys.{tally}
use Rattle.node_tree.specs.Labels.{Pair, is_document, is_element, holds, has_name, is_empty as is_nothing, is_ascending, is_formed_label}
use Rattle.node_tree.specs.Labels.{is_named_label}
use Rattle.node_tree.specs.Seen.{Hold, Seen, leaf, counted, opened, is_opened}
use Rattle.node_tree.proofs.NodeLemmas.{height-map_rows, width_le-node_count}
use Rattle.page_tree.specs.Forms.{may_stand, are_formed, are_named}
use Rattle.page_tree.specs.Pages.{PageRow, row_label, row_serial, PageValue, IsValid, times_in}
use Rattle.node_binding.specs.Counts.{times, last_standing}
use Rattle.node_binding.specs.Cuts.{opens, known, hold_cut, seen_of, cut}
use Rattle.node_binding.specs.Sessions.{Session, IsSession, session_of, session_ids, view}
use Rattle.node_binding.proofs.Places.{times-is_in, first}
use Rattle.node_binding.proofs.StartLemmas.{count-alone, distinct-alone}
use Rattle.node_binding.proofs.OpeningLemmas.{self_times}
use Rattle.node_binding.proofs.SessionLemmas.{times-known, known_below, view-ids, view-serials, view-above, height-view}
use Rattle.dom_objects.specs.NodeObject.{same}
use Rattle.dom_objects.specs.Told.{count_in}
use Rattle.dom_objects.specs.Tellable.{suits_hold, suits_row, suits_nodes}
use Rattle.client_views.specs.Views.{ShownSheet, IsView, is_bare}
use Rattle.client_views.specs.Moves.{SeenHaveUtf8, suits_view, IsTellable}
use Rattle.dom_agent.specs.Laws.{RowsHaveUtf8, CanTell, CanTellSheets}
use Rattle.dom_agent.proofs.StepLemmas.{CanSay, ids-below}

-- ---- one row

-- what is shown below a row, with children that are shown where it is an opened container
abbrev hold_as : Bool → Bool → ℕ → Hold
hold_as container o w = cond container (cond o opened (counted w)) leaf

abbrev kids_as : Bool → Bool → Nodes Seen → Nodes Seen
kids_as container o kids = cond (cond container o false) kids none

hold_suits : (container o : Bool) (w : ℕ) → suits_hold (hold_as container o w) container ≡ true
hold_suits true true w = refl
hold_suits true false w = refl
hold_suits false o w = refl

count_small : (container o : Bool) (w : ℕ) (kids : Nodes Seen) → width kids ≡ w
    → count_in (hold_as container o w) (kids_as container o kids) ≤ w
count_small true true w kids e = omega arith
count_small true false w kids e = omega arith
count_small false o w kids e = omega arith

below_suits : (container o : Bool) (w : ℕ) (kids : Nodes Seen)
    → cond (is_opened (hold_as container o w)) true (is_no_node (kids_as container o kids)) ≡ true
below_suits true true w kids = refl
below_suits true false w kids = refl
below_suits false o w kids = refl

kids_suit : (b : Bool) (kids : Nodes Seen) → (b ≡ true → suits_nodes kids ≡ true) → suits_nodes (cond b kids none) ≡ true
kids_suit true kids e = e refl
kids_suit false kids e = refl

width-cut : (o : ℕ → Bool) (i : ℕ → ℕ) (n : Nodes PageRow) → width (cut o i n) ≡ width n
width-cut o i none = refl
width-cut o i (node r c t) = ap suc (width-cut o i t)

-- ---- all rows

module _ (o : ℕ → Bool) (i : ℕ → ℕ) (small : (s : ℕ) → i s < 2 ^ 53) where
  pub record FitRow (r : PageRow) (c : Nodes PageRow) : Type 0 where
    pub id : 0 < i r.serial
    pub least : 1 ≤ r.serial
    pub below : r.serial < 2 ^ 53
    pub formed : is_formed_label r.label ≡ true
    pub named : is_named_label r.label ≡ true
    pub room : node_count c ≤ 100000

  abbrev kids_of : PageRow → Nodes PageRow → Nodes Seen
  kids_of r c = cond (opens o r) (cut o i c) none

  row_suits : (top : Bool) (r : PageRow) (c : Nodes PageRow) → same (is_document r.label.kind) top ≡ true → FitRow r c
      → suits_row top (seen_of o i r c) (count_in (hold_cut o r c) (kids_of r c)) ≡ true
  row_suits top r c at f =
      let wide : width (cut o i c) ≡ width c = width-cut o i c in
      let few : width c ≤ node_count c = width_le-node_count c in
      let n : count_in (hold_cut o r c) (kids_of r c)
      ≤ width c = count_small (holds r.label.kind) (o r.serial) (width c) (cut o i c) wide in
      let room : node_count c ≤ 100000 = f.room in
      let one : 1 ≤ r.serial = f.least in
      and_from _ _
      (and_from _ _ (and_from _ _ (and_from _ _ (and_from _ _ (and_from _ _ (and_from _ _ (and_from _ _
      (lt-ltb (i r.serial) (2 ^ 53) (small r.serial))
      (lt-ltb r.serial (2 ^ 53) f.below))
      (lt-ltb (count_in (hold_cut o r c) (kids_of r c)) (2 ^ 53) (omega (arith, n, few, room))))
      (lt-ltb 0 (i r.serial) f.id))
      (lt-ltb 0 r.serial (omega arith)))
      f.formed) f.named) at)
      (hold_suits (holds r.label.kind) (o r.serial) (width c))

  -- the rows of some trees of a page
  pub record Fitting (top : Bool) (n : Nodes PageRow) : Type 0 where
    pub formed : are_formed top (map_rows row_label n) ≡ true
    pub named : are_named (map_rows row_label n) ≡ true
    pub room : node_count n ≤ 100000
    pub serials : (s : ℕ) → 0 < tally row_serial s n → (1 ≤ s) × (s < 2 ^ 53)
    pub ids : (s : ℕ) → 0 < times s (known o n) → 0 < i s

  pub record Parts (top : Bool) (r : PageRow) (c t : Nodes PageRow) : Type 0 where
    pub label : is_formed_label r.label ≡ true
    pub stands : may_stand top r.label.kind ≡ true
    pub below : are_formed false (map_rows row_label c) ≡ true
    pub later : are_formed top (map_rows row_label t) ≡ true

  pub formed_parts : (top : Bool) (r : PageRow) (c t : Nodes PageRow) → are_formed top (map_rows row_label (node r c t)) ≡ true
      → Parts top r c t
  formed_parts top r c t e =
      let p4 = and_parts (is_formed_label r.label && may_stand top r.label.kind
      && (holds r.label.kind || is_no_node (map_rows row_label c)) && are_formed false (map_rows row_label c))
      (are_formed top (map_rows row_label t)) e in
      let p3 = and_parts (is_formed_label r.label && may_stand top r.label.kind
      && (holds r.label.kind || is_no_node (map_rows row_label c))) (are_formed false (map_rows row_label c)) p4.0 in
      let p2 = and_parts (is_formed_label r.label && may_stand top r.label.kind)
      (holds r.label.kind || is_no_node (map_rows row_label c)) p3.0 in
      let p1 = and_parts (is_formed_label r.label) (may_stand top r.label.kind) p2.0 in
      record { label = p1.0; stands = p1.1; below = p3.1; later = p4.1 }

  ids_first : (r : PageRow) (c t : Nodes PageRow) → 0 < times r.serial (known o (node r c t))
  ids_first r c t = first r.serial (cond (opens o r) (known o c) [] ++ known o t)

  ids_below : (r : PageRow) (c t : Nodes PageRow) (s : ℕ) → opens o r ≡ true → 0 < times s (known o c) → 0 < times s (known o (node r c t))
  ids_below r c t s e h = rw (times-known o i s r c t) (known_below o i (opens o r) _ s _ _ e h)

  ids_later : (r : PageRow) (c t : Nodes PageRow) (s : ℕ) → 0 < times s (known o t) → 0 < times s (known o (node r c t))
  ids_later r c t s h = rw (times-known o i s r c t) (omega (arith, h))

  -- what stands below the document is no document
  pub no_document : (top : Bool) (k : Kind) → may_stand top k ≡ true → same (is_document k) false ≡ true
  no_document top k e = alone_not (is_document k) (and_parts (not (is_document k)) _ e).0
    where
      alone_not : (b : Bool) → not b ≡ true → same b false ≡ true
      alone_not true e = e
      alone_not false e = refl

  pub named_parts : (r : PageRow) (c t : Nodes PageRow) → are_named (map_rows row_label (node r c t)) ≡ true
      → ((is_named_label r.label && are_named (map_rows row_label c)) ≡ true) × (are_named (map_rows row_label t) ≡ true)
  named_parts r c t e = and_parts (is_named_label r.label && are_named (map_rows row_label c)) (are_named (map_rows row_label t)) e

  pub fitting_row : (top : Bool) (r : PageRow) (c t : Nodes PageRow) → Fitting top (node r c t) → FitRow r c
  fitting_row top r c t f =
      let s = f.serials r.serial (omega (arith, self_times r.serial)) in
      let all : suc (node_count c + node_count t) ≤ 100000 = f.room in
      record {
        id = f.ids r.serial (ids_first r c t);
        least = s.0;
        below = s.1;
        formed = (formed_parts top r c t f.formed).label;
        named = (and_parts (is_named_label r.label) (are_named (map_rows row_label c)) (named_parts r c t f.named).0).0;
        room = omega (arith, all);
      }

  fitting_below : (top : Bool) (r : PageRow) (c t : Nodes PageRow) → Fitting top (node r c t) → opens o r ≡ true → Fitting false c
  fitting_below top r c t f e =
      let all : suc (node_count c + node_count t) ≤ 100000 = f.room in
      record {
        formed = (formed_parts top r c t f.formed).below;
        named = (and_parts (is_named_label r.label) (are_named (map_rows row_label c)) (named_parts r c t f.named).0).1;
        room = omega (arith, all);
        serials = λ s h. f.serials s (omega (arith, h));
        ids = λ s h. f.ids s (ids_below r c t s e h);
      }

  pub fitting_later : (top : Bool) (r : PageRow) (c t : Nodes PageRow) → Fitting top (node r c t) → Fitting top t
  fitting_later top r c t f =
      let all : suc (node_count c + node_count t) ≤ 100000 = f.room in
      record {
        formed = (formed_parts top r c t f.formed).later;
        named = (named_parts r c t f.named).1;
        room = omega (arith, all);
        serials = λ s h. f.serials s (omega (arith, h));
        ids = λ s h. f.ids s (ids_later r c t s h);
      }

  nodes_suit : (top : Bool) (n : Nodes PageRow) → Fitting top n → suits_nodes (cut o i n) ≡ true
  nodes_suit top none f = refl
  nodes_suit top (node r c t) f =
      and_from _ _
      (and_from _ _
      (and_from _ _ (row_suits false r c (no_document top r.label.kind (formed_parts top r c t f.formed).stands) (fitting_row top r c t f))
      (below_suits (holds r.label.kind) (o r.serial) (width c) (cut o i c)))
      (kids_suit (opens o r) (cut o i c) (λ e. nodes_suit false c (fitting_below top r c t f e))))
      (nodes_suit top t (fitting_later top r c t f))

  -- the texts of a cut
  shown_utf8 : (b : Bool) (kids : Nodes Seen) → (b ≡ true → SeenHaveUtf8 kids) → SeenHaveUtf8 (cond b kids none)
  shown_utf8 true kids u = u refl
  shown_utf8 false kids u = tt

  cut_utf8 : (n : Nodes PageRow) → RowsHaveUtf8 n → SeenHaveUtf8 (cut o i n)
  cut_utf8 none u = tt
  cut_utf8 (node r c t) u = (u.0, shown_utf8 (opens o r) (cut o i c) (λ _. cut_utf8 c u.1), cut_utf8 t u.2)

-- a cut shows children below opened nodes alone
bare_below : (container o : Bool) (w : ℕ) (c : Nodes Seen) → is_bare c ≡ true
    → ((is_opened (hold_as container o w) || is_no_node (kids_as container o c)) && is_bare (kids_as container o c)) ≡ true
bare_below true true w c e = e
bare_below true false w c e = refl
bare_below false o w c e = refl

is_bare-cut : (o : ℕ → Bool) (i : ℕ → ℕ) (n : Nodes PageRow) → is_bare (cut o i n) ≡ true
is_bare-cut o i none = refl
is_bare-cut o i (node r c t) = and_from _ _ (bare_below (holds r.label.kind) (o r.serial) (width c) (cut o i c) (is_bare-cut o i c))
    (is_bare-cut o i t)

-- ---- the document

document_named : (k : Kind) (name : List ℕ) (ps : List Pair) → is_document k ≡ true
    → cond (is_element k) (is_ascending ps) (is_nothing ps) ≡ true
    → (cond (has_name k) (is_element_name name) true && list_all (λ (p : Pair). is_attribute_name p.0) ps) ≡ true
document_named Document name [] d f = refl
document_named Document name (p ∷ ps) d f = let bad : false ≡ true = f in cc
document_named Element name ps d f = let bad : false ≡ true = d in cc
document_named Text name ps d f = let bad : false ≡ true = d in cc
document_named Comment name ps d f = let bad : false ≡ true = d in cc
document_named Doctype name ps d f = let bad : false ≡ true = d in cc

module _ (page : PageValue) (valid : IsValid page) (next : page.next ≤ 2 ^ 53) where
  abbrev n : Nodes PageRow
  n = alone page.tree

  pub serials_there : (s : ℕ) → 0 < tally row_serial s n → (1 ≤ s) × (s < 2 ^ 53)
  serials_there s h =
      let there : 0 < times_in s page.tree = omega (arith, h) in
      let a : 1 ≤ s = valid.least s there in
      let b : s < page.next = valid.below_next s there in
      (a, omega (arith, b, next))

  pub document_named_label : is_named_label page.tree.row.label ≡ true
  document_named_label =
      let r : PageRow = page.tree.row in
      let d = and_parts (is_document r.label.kind) (is_formed_label r.label) valid.root in
      let label = and_parts (cond (is_element r.label.kind) (is_ascending r.label.attributes) (is_nothing r.label.attributes)) _
      (and_parts (cond (is_element r.label.kind) (is_ascending r.label.attributes) (is_nothing r.label.attributes) && _) _ d.1).0 in
      document_named r.label.kind r.label.name r.label.attributes d.0 label.0

  pub tall : height n ≤ most_levels
  tall =
      let h : height (map_rows row_label page.tree.children) ≤ max_level = valid.nodes.levels in
      let e : height (map_rows row_label page.tree.children) ≡ height page.tree.children = height-map_rows row_label page.tree.children in
      omega (arith, h, e)

  bare-view : (o : Option (ℕ → Bool)) (pushed : List ℕ) (since : ℕ)
      → is_bare (view (record { opened = o; pushed = pushed; since = since }) n) ≡ true
  bare-view None pushed since = refl
  bare-view (Some o) pushed since = is_bare-cut o (session_ids (session_of o pushed since)) n

  IsView-session : (w : Session) → IsSession n w → IsView (view w n)
  IsView-session w session =
      let distinct = distinct-alone page valid in
      record {
        ids = view-ids n w.pushed w.since distinct w.opened session;
        serials = view-serials n w.pushed w.since distinct w.opened;
        above = view-above n w.pushed w.since distinct w.opened session;
        levels = let h : height (view w n) ≤ height n = height-view n w.pushed w.since distinct w.opened in omega (arith, h, tall);
        bare = bare-view w.opened w.pushed w.since;
      }

  document_suits : (o : ℕ → Bool) (pushed : List ℕ) (since : ℕ) → IsSession n (session_of o pushed since) → length pushed < 2 ^ 53
      → suits_view (view (session_of o pushed since) n) ≡ true
  document_suits o pushed since session few =
      let w : Session = session_of o pushed since in
      let r : PageRow = page.tree.row in
      let c : Nodes PageRow = page.tree.children in
      let i : ℕ → ℕ = session_ids w in
      let small : (s : ℕ) → i s < 2 ^ 53 = λ s. omega (arith, ids-below n w s session, few) in
      let there : (s : ℕ) → 0 < times s (known o n)
      → 0 < i s = λ s h. (let a : 0 < last_standing (drop since pushed) s = session.known_stand s
      (times-is_in (known o n) s h) in omega (arith, a)) in
      let d = and_parts (is_document r.label.kind) (is_formed_label r.label) valid.root in
      let room : node_count n ≤ 100000 = count-alone page valid in
      let s = serials_there r.serial (omega (arith, self_times r.serial)) in
      let row : FitRow o i small r c = record {
        id = there r.serial (ids_first o i small r c none);
        least = s.0;
        below = s.1;
        formed = d.1;
        named = document_named_label;
        room = omega (arith, room);
      } in
      and_from _ _
      (and_from _ _
      (and_from _ _ (row_suits o i small true r c (rw d.0 refl) row) (below_suits (holds r.label.kind) (o r.serial) (width c) (cut o i c)))
      (kids_suit (opens o r) (cut o i c)
      (λ e. nodes_suit o i small true c (record {
        formed = valid.nodes.formed;
        named = valid.nodes.named;
        room = omega (arith, room);
        serials = λ s h. serials_there s (omega (arith, h));
        ids = λ s h. there s (ids_below o i small r c none s e h);
      }))))
      refl

  -- what a session shows that has not pushed too much
  pub tellable : (o : Option (ℕ → Bool)) (pushed : List ℕ) (since : ℕ) → RowsHaveUtf8 n
      → IsSession n (record { opened = o; pushed = pushed; since = since }) → length pushed < 2 ^ 53
      → IsTellable (view (record { opened = o; pushed = pushed; since = since }) n)
  tellable None pushed since texts session few = record {
    view = IsView-session
        (record { opened = None; pushed = pushed; since = since }) session;
    forms = refl;
    texts = tt;
  }
  tellable (Some o) pushed since texts session few =
      let w : Session = session_of o pushed since in
      record {
        view = IsView-session w session;
        forms = document_suits o pushed since session few;
        texts = cut_utf8 o (session_ids w) (λ s. omega (arith, ids-below n w s session, few)) n texts;
      }

pub can_say : (page : PageValue) (w : Session) (sheets : List ShownSheet) → IsValid page → CanTell page w → CanTellSheets sheets
    → CanSay (alone page.tree) (length w.pushed + node_count (alone page.tree)) sheets
can_say page w sheets valid can can_sheets = λ v session few. record {
  tree = tellable page valid can.serials v.opened v.pushed v.since can.texts session (omega (arith, few, can.ids));
  sheets = can_sheets.are;
  apart = can_sheets.apart;
}
