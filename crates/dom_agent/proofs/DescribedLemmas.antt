-- A node that is described is one that a message can tell.
use Rattle.std.proofs.Common.{◌≡◌, ℕ, zero, suc, ◌+◌, ◌<◌, ◌≤◌, ◌^◌, Bool, true, false, not, ◌&&◌, ◌||◌, cond, Option, Some, ⊎_elim, refl}
use Rattle.std.proofs.Common.{sym, subst, arith, lt-ltb}
use Rattle.std.specs.Prelude.{⊤}
use Rattle.std.proofs.lemmas.Bool.{and_parts, and_from, eq-eqb}
use Rattle.node_tree.specs.Nodes.{Nodes, none, node, Branch, alone, width, height, node_count, map_rows, is_no_node}
use Rattle.node_tree.specs.Keys.{find}
use Rattle.node_tree.specs.Names.{is_element_name}
use Rattle.node_tree.specs.Labels.{Label, is_document, is_element, holds, has_name, is_empty, is_ascending, is_formed_label, is_named_label}
use Rattle.node_tree.specs.Seen.{Hold, Seen, leaf, counted, opened, is_opened}
use Rattle.node_tree.proofs.NodeLemmas.{width_le-node_count}
use Rattle.page_tree.specs.Forms.{are_formed, are_named}
use Rattle.page_tree.specs.Pages.{PageRow, row_label, row_serial, PageValue, IsValid}
use Rattle.node_tree.specs.Levels.{most_told}
use Rattle.node_binding.specs.Openings.{less, is_spent}
use Rattle.node_binding.specs.Deals.{capped, more_told}
use Rattle.node_binding.proofs.DealLemmas.{capped_some}
use Rattle.node_binding.specs.Sessions.{Session}
use Rattle.node_binding.proofs.StartLemmas.{count-alone}
use Rattle.node_binding.proofs.OpeningLemmas.{self_times}
use Rattle.node_binding.proofs.AnewLemmas.{at_or_other, found_here, found_later}
use Rattle.cdp_messages.specs.declared.down.ReplyBody.TheVariants.{Attributes, Node as ReplyNode}
use Rattle.node_tree.specs.Labels.{LabelHasUtf8}
use Rattle.dom_objects.specs.NodeTexts.{NodesHaveUtf8}
use Rattle.cdp_messages.specs.Results.{are_attributes}
use Rattle.dom_objects.proofs.TellableLaws.{width-told_nodes}
use Rattle.dom_objects.specs.NodeObject.{is_counted_row, fits_hold, fits_described}
use Rattle.dom_objects.specs.NodeData.{fits_described_nodes, fits_described_tree}
use Rattle.dom_objects.specs.Told.{Told, count_in, told_nodes}
use Rattle.dom_agent.specs.Described.{shows_children, row_to, shown_to, kids_to, no_ids, described}
use Rattle.dom_agent.specs.Laws.{RowsHaveUtf8, CanTell}
use Rattle.dom_agent.proofs.StepLemmas.{CanSpell}
use Rattle.dom_agent.proofs.WritingLemmas.{width-shown_to}
use Rattle.dom_agent.proofs.TellableLemmas.{Fitting, fitting_row, fitting_later, formed_parts, named_parts, serials_there}
use Rattle.dom_agent.proofs.TellableLemmas.{document_named_label}

-- ---- what a message can tell of a page

-- of one node, above these children
record RowTells (r : PageRow) (c : Nodes PageRow) : Type 0 where
  pub least : 1 ≤ r.serial
  pub below : r.serial < 2 ^ 53
  pub formed : is_formed_label r.label ≡ true
  pub named : is_named_label r.label ≡ true
  pub room : node_count c ≤ 100000
  pub texts : LabelHasUtf8 r.label

-- none of these trees has a document on top
abbrev NoDocuments : Nodes PageRow → Type 0
NoDocuments none = ⊤
NoDocuments (node r c t) = (not (is_document r.label.kind) ≡ true) × NoDocuments t

-- of all nodes
abbrev AllTell : Nodes PageRow → Type 0
AllTell none = ⊤
AllTell (node r c t) = RowTells r c × NoDocuments c × AllTell c × AllTell t

-- sound trees, whatever is known of them
abbrev Sound : Bool → Nodes PageRow → Type 0
Sound top n = Fitting (λ _. true) (λ _. 1) (λ _. omega arith) top n

no-documents : (top : Bool) (n : Nodes PageRow) → are_formed top (map_rows row_label n) ≡ true → NoDocuments n
no-documents top none e = tt
no-documents top (node r c t) e =
    let parts = formed_parts (λ _. true) (λ _. 1) (λ _. omega arith) top r c t e in
    ((and_parts (not (is_document r.label.kind)) _ parts.stands).0, no-documents top t parts.later)

sound-below : (top : Bool) (r : PageRow) (c t : Nodes PageRow) → Sound top (node r c t) → Sound false c
sound-below top r c t f =
    let all : suc (node_count c + node_count t) ≤ 100000 = f.room in
    record {
      formed = (formed_parts (λ _. true) (λ _. 1) (λ _. omega arith) top r c t f.formed).below;
      named = (and_parts (is_named_label r.label) (are_named (map_rows row_label c))
          (named_parts (λ _. true) (λ _. 1) (λ _. omega arith) r c t f.named).0).1;
      room = omega (arith, all);
      serials = λ s h. f.serials s (omega (arith, h));
      ids = λ s h. omega arith;
    }

all-tell : (top : Bool) (n : Nodes PageRow) → Sound top n → RowsHaveUtf8 n → AllTell n
all-tell top none f u = tt
all-tell top (node r c t) f u =
    let row = fitting_row (λ _. true) (λ _. 1) (λ _. omega arith) top r c t f in (
      record { least = row.least; below = row.below; formed = row.formed; named = row.named; room = row.room; texts = u.0 },
      no-documents false c (formed_parts (λ _. true) (λ _. 1) (λ _. omega arith) top r c t f.formed).below,
      all-tell false c (sound-below top r c t f) u.1,
      all-tell top t (fitting_later (λ _. true) (λ _. 1) (λ _. omega arith) top r c t f) u.2,
    )

page-tells : (page : PageValue) (w : Session) → IsValid page → CanTell page w → AllTell (alone page.tree)
page-tells page w valid can =
    let s = serials_there page valid can.serials page.tree.row.serial (omega (arith, self_times page.tree.row.serial)) in
    let room : node_count (alone page.tree) ≤ 100000 = count-alone page valid in
    let u : RowsHaveUtf8 (alone page.tree) = can.texts in (
      record {
        least = s.0;
        below = s.1;
        formed = (and_parts (is_document page.tree.row.label.kind) (is_formed_label page.tree.row.label) valid.root).1;
        named = document_named_label page valid can.serials;
        room = omega (arith, room);
        texts = u.0;
      },
      no-documents true page.tree.children valid.nodes.formed,
      all-tell true page.tree.children
          (record {
            formed = valid.nodes.formed;
            named = valid.nodes.named;
            room = omega (arith, room);
            serials = λ k h. serials_there page valid can.serials k (omega (arith, h));
            ids = λ k h. omega arith;
          })
          u.1,
      tt,
    )

tells-found : (s : ℕ) (n : Nodes PageRow) (x : Branch PageRow) → AllTell n → find row_serial s n ≡ Some x → AllTell (alone x)
tells-found s none x a e = cc
tells-found s (node r c t) x a e =
    at_or_other r.serial s
    (λ here. subst (λ (y : Branch PageRow). AllTell (alone y)) (found_here s r c t x here e) (a.0, a.1, a.2, tt))
    (λ other. ⊎_elim (λ in_c. tells-found s c x a.2 in_c) (λ in_t. tells-found s t x a.3 in_t) (found_later s r c t x other e))

-- ---- one row

-- what is shown below a row that may have children, where levels are left
abbrev hold_for : Bool → Bool → ℕ → Hold
hold_for container left w = cond container (cond (container && left) opened (counted w)) leaf

hold_fits : (container left : Bool) (w : ℕ) (kids : Nodes Seen) → width kids ≡ w
    → fits_hold (hold_for container left w) container (count_in (hold_for container left w) (cond (container && left) kids none))
    (width (told_nodes 0 (cond (container && left) kids none))) ≡ true
hold_fits true true w kids e = eq-eqb (width kids) (width (told_nodes 0 kids)) (sym (width-told_nodes 0 kids))
hold_fits true false w kids e = eq-eqb w w refl
hold_fits false left w kids e = refl

count_few : (container left : Bool) (w : ℕ) (kids : Nodes Seen) → width kids ≡ w
    → count_in (hold_for container left w) (cond (container && left) kids none) ≤ w
count_few true true w kids e = omega arith
count_few true false w kids e = omega arith
count_few false left w kids e = omega arith

below_fits : (container left : Bool) (w : ℕ) (kids : Nodes Seen)
    → cond (is_opened (hold_for container left w)) true (is_no_node (told_nodes 0 (cond (container && left) kids none))) ≡ true
below_fits true true w kids = refl
below_fits true false w kids = refl
below_fits false left w kids = refl

-- a row as it is told of a described node
abbrev told_row : Option ℕ → PageRow → Nodes PageRow → Told
told_row levels r c = record {
  parent = 0;
  count = count_in (row_to no_ids levels r c).hold (kids_to no_ids levels (record { row = r; children = c }));
  seen = row_to no_ids levels r c;
}

row_described : (top : Bool) (levels : Option ℕ) (r : PageRow) (c : Nodes PageRow) → RowTells r c
    → (top || not (is_document r.label.kind)) ≡ true
    → (is_counted_row (told_row levels r c)
    && fits_described top (width (told_nodes 0 (kids_to no_ids levels (record { row = r; children = c })))) (told_row levels r c))
    ≡ true
row_described top levels r c a place =
    let h : Bool = holds r.label.kind in
    let left : Bool = not (is_spent levels) in
    let kids : Nodes Seen = shown_to no_ids (less levels) c in
    let wide : width kids ≡ width c = width-shown_to no_ids (less levels) c in
    let few : count_in (hold_for h left (width c)) (cond (h && left) kids none) ≤ width c = count_few h left (width c) kids wide in
    let all : width c ≤ node_count c = width_le-node_count c in
    let room : node_count c ≤ 100000 = a.room in
    let least : 1 ≤ r.serial = a.least in
    and_from _ _
    (and_from _ _ (and_from _ _ (and_from _ _ (lt-ltb 0 (2 ^ 53) (omega arith)) (lt-ltb r.serial (2 ^ 53) a.below))
    (lt-ltb (told_row levels r c).count (2 ^ 53) (omega (arith, few, all, room)))) (lt-ltb 0 (2 ^ 53) (omega arith)))
    (and_from _ _ (and_from _ _ (and_from _ _
    (and_from _ _ (and_from _ _ (and_from _ _ refl (lt-ltb 0 r.serial (omega (arith, least)))) a.formed) a.named) place) refl)
    (hold_fits h left (width c) kids wide))

-- ---- all rows

kids_fit : (b : Bool) (kids : Nodes Seen) → fits_described_nodes (told_nodes 0 kids) ≡ true
    → fits_described_nodes (told_nodes 0 (cond b kids none)) ≡ true
kids_fit true kids e = e
kids_fit false kids e = refl

nodes_described : (levels : Option ℕ) (n : Nodes PageRow) → AllTell n → NoDocuments n
    → fits_described_nodes (told_nodes 0 (shown_to no_ids levels n)) ≡ true
nodes_described levels none a apart = refl
nodes_described levels (node r c t) a apart =
    and_from _ _
    (and_from _ _
    (and_from _ _ (row_described false levels r c a.0 apart.0)
    (below_fits (holds r.label.kind) (not (is_spent levels)) (width c) (shown_to no_ids (less levels) c)))
    (kids_fit (shows_children levels r) (shown_to no_ids (less levels) c) (nodes_described (less levels) c a.2 a.1)))
    (nodes_described levels t a.3 apart.1)

described_fits : (levels : Option ℕ) (x : Branch PageRow) → AllTell (alone x) → fits_described_tree (described levels x) ≡ true
described_fits levels x a =
    and_from _ _
    (and_from _ _ (row_described true levels x.row x.children a.0 refl)
    (below_fits (holds x.row.label.kind) (not (is_spent levels)) (width x.children) (shown_to no_ids (less levels) x.children)))
    (kids_fit (shows_children levels x.row) (shown_to no_ids (less levels) x.children) (nodes_described (less levels) x.children a.2 a.1))

kids_utf8 : (b : Bool) (kids : Nodes Seen) → NodesHaveUtf8 (told_nodes 0 kids) → NodesHaveUtf8 (told_nodes 0 (cond b kids none))
kids_utf8 true kids u = u
kids_utf8 false kids u = tt

nodes_utf8 : (levels : Option ℕ) (n : Nodes PageRow) → AllTell n → NodesHaveUtf8 (told_nodes 0 (shown_to no_ids levels n))
nodes_utf8 levels none a = tt
nodes_utf8 levels (node r c t) a = (
  a.0.texts,
  kids_utf8 (shows_children levels r) (shown_to no_ids (less levels) c)
      (nodes_utf8 (less levels) c a.2),
  nodes_utf8 levels t a.3,
)

described_utf8 : (levels : Option ℕ) (x : Branch PageRow) → AllTell (alone x) → NodesHaveUtf8 (alone (described levels x))
described_utf8 levels x a = (
  a.0.texts,
  kids_utf8 (shows_children levels x.row) (shown_to no_ids (less levels) x.children)
      (nodes_utf8 (less levels) x.children a.2),
  tt,
)

kids_height : (b : Bool) (kids : Nodes Seen) (h : ℕ) → height (told_nodes 0 kids) ≤ h → height (told_nodes 0 (cond b kids none)) ≤ h
kids_height true kids h e = e
kids_height false kids h e = omega arith

-- trees shown to j levels below their roots have one level more
nodes_height : (j : ℕ) (n : Nodes PageRow) → height (told_nodes 0 (shown_to no_ids (Some j) n)) ≤ suc j
nodes_height j none = omega arith
nodes_height zero (node r c t) =
    let below : height (told_nodes 0 (cond (shows_children (Some 0) r) (shown_to no_ids (Some 0) c) none)) ≤ 0 =
    none_shown (holds r.label.kind) (shown_to no_ids (Some 0) c) in
    omega (arith, below, nodes_height zero t)
  where
    none_shown : (h : Bool) (kids : Nodes Seen) → height (told_nodes 0 (cond (h && false) kids none)) ≤ 0
    none_shown true kids = omega arith
    none_shown false kids = omega arith
nodes_height (suc j) (node r c t) =
    let below : height (told_nodes 0 (cond (shows_children (Some (suc j)) r) (shown_to no_ids (Some j) c) none)) ≤ suc j =
    kids_height (shows_children (Some (suc j)) r) (shown_to no_ids (Some j) c) (suc j) (nodes_height j c) in
    omega (arith, below, nodes_height (suc j) t)

described_height : (j : ℕ) (x : Branch PageRow) → height (alone (described (Some j) x)) ≤ suc j
described_height zero x =
    let h = nodes_height zero (alone x) in omega (arith, h)
described_height (suc j) x =
    let h = nodes_height (suc j) (alone x) in omega (arith, h)

-- ---- nodes of a page

label_attributes : (l : Label) → is_element l.kind ≡ true → is_formed_label l ≡ true → is_named_label l ≡ true
    → are_attributes l.attributes ≡ true
label_attributes l element formed named =
    let p2 = and_parts (cond (is_element l.kind) (is_ascending l.attributes) (is_empty l.attributes)) _
    (and_parts (cond (is_element l.kind) (is_ascending l.attributes) (is_empty l.attributes) && _) _ formed).0 in
    let ascending : is_ascending l.attributes
    ≡ true = subst (λ (b : Bool). cond b (is_ascending l.attributes) (is_empty l.attributes) ≡ true) element p2.0 in
    and_from _ _ ascending (and_parts (cond (has_name l.kind) (is_element_name l.name) true) _ named).1

module _ (page : PageValue) (w : Session) (valid : IsValid page) (s : ℕ) (x : Branch PageRow)
    (found : find row_serial s (alone page.tree) ≡ Some x) where
  tells : CanTell page w → AllTell (alone x)
  tells can = tells-found s (alone page.tree) x (page-tells page w valid can) found

  -- a node that is described to no more levels than a message tells can be told
  pub described-spells : (levels : Option ℕ) → CanTell page w → CanSpell (ReplyNode (described (capped most_told levels) x))
  described-spells levels can =
      let c = capped_some more_told levels in
      subst (λ (e : Option ℕ). CanSpell (ReplyNode (described e x))) (sym c.1)
      (record {
        fits = described_fits (Some c.0) x (tells can);
        texts = described_utf8 (Some c.0) x (tells can);
        levels = omega (arith, described_height c.0 x, c.2);
      })

  -- and so can the attributes of an element
  pub attributes-spell : is_element x.row.label.kind ≡ true → CanTell page w → CanSpell (Attributes x.row.label.attributes)
  attributes-spell element can =
      let row = (tells can).0 in
      record { fits = label_attributes x.row.label element row.formed row.named; texts = row.texts.2; levels = omega arith }
