-- That a message can tell a change of a shown node, and the ids of shown nodes.
use Rattle.std.proofs.Common.{◌≡◌, ℕ, zero, suc, ◌<◌, ◌≤◌, ◌==◌, nat_lt, nat_le, Bool, true, false, not, ◌&&◌, ◌||◌, List}
use Rattle.std.proofs.Common.{[], ◌∷◌, slice_index, Option, Some, None, is_some, nat_cmp, Ordering, Less, Equal, Greater, refl}
use Rattle.std.proofs.Common.{sym, ap, ◌∙◌, subst, arith, ltb-true}
use Rattle.std.specs.Str.{IsUtf8}
use Rattle.std.specs.List.{list_all}
use Rattle.std.specs.Ordering.{match_ordering}
use Rattle.std.specs.Cmp.Lexicographic.{slice_cmp}
use Rattle.std.proofs.lemmas.Bool.{eqb-true}
use Rattle.std.proofs.lemmas.Str.{IsUtf8-from_ascii}
use Rattle.std.proofs.lemmas.Bool.{leb-true}
use Rattle.cdp_json.specs.Kinds.{is_counted}
use Rattle.node_tree.specs.Nodes.{Nodes, none, node, Branch, alone, height, is_no_node}
use Rattle.node_tree.specs.Names.{is_delimiter, is_upper_case, is_attribute_byte, is_attribute_name}
use Rattle.node_tree.specs.Labels.{Pair, is_document, holds, is_formed_label, is_named_label}
use Rattle.node_tree.specs.Keys.{has, find, At, here, within, past}
use Rattle.node_tree.specs.Seen.{Seen, is_opened, seen_id}
use Rattle.node_tree.proofs.KeyLemmas.{has-find, at-put, found_key}
use Rattle.node_tree.proofs.ChangeLemmas.{at-back}
use Rattle.node_tree.specs.LabelChanges.{placed}
use Rattle.dom_objects.specs.Told.{count_in, told_nodes, told_branch}
use Rattle.dom_objects.specs.NodeObject.{same}
use Rattle.dom_objects.specs.NodeData.{fits_tree}
use Rattle.cdp_messages.specs.Events.{News, fits_news}
use Rattle.dom_objects.specs.Tellable.{suits_hold, suits_row, suits_below, suits_nodes, suits_tree}
use Rattle.node_tree.specs.Labels.{PairsHaveUtf8}
use Rattle.dom_objects.specs.NodeTexts.{NodesHaveUtf8}
use Rattle.cdp_messages.specs.Laws.{NewsHaveUtf8, news_height}
use Rattle.client_views.specs.Moves.{Change, shows, inserts, removes, counts, sets, drops, says, changed, suits_change, has_tree}
use Rattle.client_views.specs.Moves.{nodes_told, change_news, has_named_attribute, ChangesNode, SeenHaveUtf8, suits_view, IsTellable}
use Rattle.node_tree.specs.Levels.{most_told}
use Rattle.dom_objects.proofs.TellableLaws.{fits-told_nodes}
use Rattle.cdp_messages.proofs.NewsLaws.{shown_children_fit}
use Rattle.client_views.proofs.InsertedLemmas.{Inserted, first, later, inserted_after, taken_out}
use Rattle.client_views.proofs.InsertedLemmas.{all-inserted}
use Rattle.client_views.proofs.BoolLemmas.{and_left, and_right, both}

-- telling keeps the levels
pub height-told : (p : ℕ) (n : Nodes Seen) → height (told_nodes p n) ≡ height n
height-told p none = refl
height-told p (node r c t) = rw (height-told r.id c, height-told p t) refl

-- ---- that a message can tell it

-- the id is from 1 to 2^53-1
pub record IsId (id : ℕ) : Type 0 where
  pub counted : is_counted id ≡ true
  pub positive : nat_lt 0 id ≡ true

record RowParts (r : Seen) (count : ℕ) : Type 0 where
  own : IsId r.id
  number : is_counted count ≡ true

row_parts : (top : Bool) (r : Seen) (count : ℕ) → suits_row top r count ≡ true → RowParts r count
row_parts top r count s =
    let p7 = and_left _ (suits_hold r.hold (holds r.label.kind)) s in
    let p6 = and_left _ (same (is_document r.label.kind) top) p7 in
    let p5 = and_left _ (is_named_label r.label) p6 in
    let p4 = and_left _ (is_formed_label r.label) p5 in
    let p3 = and_left _ (nat_lt 0 r.serial) p4 in
    let p2 = and_left _ (nat_lt 0 r.id) p3 in
    let p1 = and_left _ (is_counted count) p2 in
    record {
      own = record {
        counted = and_left (is_counted r.id) (is_counted r.serial) p1;
        positive = and_right (is_counted r.id && is_counted r.serial && is_counted count) (nat_lt 0 r.id) p3;
      };
      number = and_right (is_counted r.id && is_counted r.serial) (is_counted count) p2;
    }

tree_row : (top : Bool) (b : Branch Seen) → suits_tree top b ≡ true → RowParts b.row (count_in b.row.hold b.children)
tree_row top b s = row_parts top b.row _ (and_left _ (suits_below b.row b.children) (and_left _ (suits_nodes b.children) s))

tree_below : (top : Bool) (b : Branch Seen) → suits_tree top b ≡ true → suits_nodes b.children ≡ true
tree_below top b s = and_right (suits_row top b.row (count_in b.row.hold b.children) && suits_below b.row b.children)
    (suits_nodes b.children) s

-- a node that suits a message, at the top or below
pub record Suited (b : Branch Seen) : Type 0 where
  pub top : Bool
  pub suits : suits_tree top b ≡ true

suited_nodes-at : {old new : Branch Seen} {depth : ℕ} {n m : Nodes Seen} → At old new depth n m → suits_nodes n ≡ true → Suited old
suited_nodes-at (here t) s = record { top = false; suits = and_left _ (suits_nodes t) s }
suited_nodes-at (within depth r c m t e) s =
    suited_nodes-at e (and_right (suits_row false r (count_in r.hold c) && suits_below r c) (suits_nodes c) (and_left _ (suits_nodes t) s))
suited_nodes-at (past depth r c t m e) s =
    suited_nodes-at e (and_right (suits_row false r (count_in r.hold c) && suits_below r c && suits_nodes c) (suits_nodes t) s)

none-at : {old new : Branch Seen} {depth : ℕ} {n m : Nodes Seen} → At old new depth n m → is_no_node n ≡ false
none-at (here t) = refl
none-at (within depth r c m t e) = refl
none-at (past depth r c t m e) = refl

pub suited-at : {old new : Branch Seen} {depth : ℕ} {n m : Nodes Seen} → At old new depth n m → suits_view n ≡ true → Suited old
suited-at (here t) s = record { top = true; suits = and_left _ (is_no_node t) s }
suited-at (within depth r c m t e) s =
    suited_nodes-at e (and_right (suits_row true r (count_in r.hold c) && suits_below r c) (suits_nodes c) (and_left _ (is_no_node t) s))
suited-at (past depth r c t m e) s =
    let gone = and_right (suits_row true r (count_in r.hold c) && suits_below r c && suits_nodes c) (is_no_node t) s in
    let there = none-at e in
    absurd (cc)

texts-at : {old new : Branch Seen} {depth : ℕ} {n m : Nodes Seen} → At old new depth n m → SeenHaveUtf8 n → SeenHaveUtf8 (alone old)
texts-at (here t) u = (u.0, u.1, tt)
texts-at (within depth r c m t e) u = texts-at e u.1
texts-at (past depth r c t m e) u = texts-at e u.2

-- texts that are told are those that are shown
pub texts-told : (parent : ℕ) (n : Nodes Seen) → SeenHaveUtf8 n → NodesHaveUtf8 (told_nodes parent n)
texts-told parent none u = tt
texts-told parent (node r c t) u = (u.0, texts-told r.id c u.1, texts-told parent t u.2)

texts-inserted : {w : Branch Seen} {n m : Nodes Seen} → Inserted w n m → SeenHaveUtf8 m → SeenHaveUtf8 (alone w)
texts-inserted (first n) u = (u.0, u.1, tt)
texts-inserted (later r c t m e) u = texts-inserted e u.2

-- of a tree put among others, or that stands among them
suits-inserted : {w : Branch Seen} {n m : Nodes Seen} → Inserted w n m → suits_nodes m ≡ true → suits_tree false w ≡ true
suits-inserted {w = w} {n = n} e s =
    and_left (suits_tree false w) (suits_nodes n)
    (sym (all-inserted suits_nodes (λ r c. suits_row false r (count_in r.hold c) && suits_below r c) (λ r c t. refl) e) ∙ s)

child_id : (id : ℕ) (n : Nodes Seen) → has_tree id n ≡ true → suits_nodes n ≡ true → IsId id
child_id id n h s =
    let o = taken_out id n h in
    subst IsId o.named (tree_row false o.tree (suits-inserted o.stood s)).own

previous_counted : (v : Bool) (previous : ℕ) (n : Nodes Seen) → (previous == 0) ≡ v → (v || has_tree previous n) ≡ true
    → suits_nodes n ≡ true → is_counted previous ≡ true
previous_counted true previous n is e s = ap is_counted (eqb-true previous 0 is)
previous_counted false previous n is e s = (child_id previous n e s).counted

below_ascii : (b : ℕ) → is_attribute_byte b ≡ true → b < 128
below_ascii b e =
    let k : b ≤ 126 = leb-true b 126
    (and_right (nat_le 33 b) (nat_le b 126) (and_left _ (not (is_delimiter b)) (and_left _ (not (is_upper_case b)) e))) in
    omega arith

names_ascii : (bs : List ℕ) → list_all is_attribute_byte bs ≡ true → (i : ℕ) → slice_index bs i < 128
names_ascii [] e i = omega arith
names_ascii (b ∷ bs) e zero = below_ascii b (and_left (is_attribute_byte b) _ e)
names_ascii (b ∷ bs) e (suc i) = names_ascii bs (and_right (is_attribute_byte b) _ e) i

pub name_utf8 : (name : List ℕ) → is_attribute_name name ≡ true → IsUtf8 name
name_utf8 name e = IsUtf8-from_ascii name (names_ascii name (and_right _ (list_all is_attribute_byte name) e))

value_at : (o : Ordering) (name value : List ℕ) (q : Pair) (qs rest : List Pair)
    → PairsHaveUtf8 (match_ordering o ((name, value) ∷ q ∷ qs) ((q.0, value) ∷ qs) (q ∷ rest))
    → (PairsHaveUtf8 rest → IsUtf8 value) → IsUtf8 value
value_at Less name value q qs rest u f = u.1
value_at Equal name value q qs rest u f = u.1
value_at Greater name value q qs rest u f = f u.2

value_placed : (name value : List ℕ) (qs : List Pair) → PairsHaveUtf8 (placed (name, value) qs) → IsUtf8 value
value_placed name value [] u = u.1
value_placed name value (q ∷ qs) u = value_at (slice_cmp nat_cmp name q.0) name value q qs (placed (name, value) qs) u
    (value_placed name value qs)

id_fits : (id : ℕ) → IsId id → (is_counted id && nat_lt 0 id) ≡ true
id_fits id i = both i.counted i.positive

told_inserted : (id : ℕ) (w : Branch Seen) → IsId id → suits_tree false w ≡ true → fits_tree false (told_branch id w) ≡ true
told_inserted id w i s = and_left (fits_tree false (told_branch id w)) true
    (fits-told_nodes id (alone w) i.counted i.positive (both s refl))

news_fit : (id : ℕ) (c : Change) (old : Branch Seen) → suits_change c old ≡ true → has_named_attribute c ≡ true → Suited old
    → Suited (changed c old) → old.row.id ≡ id → fits_news (change_news id c) ≡ true
news_fit id c old s n b a is = fits c s n a
  where
    own : IsId id
    own = subst IsId is (tree_row b.top old b.suits).own

    kids : suits_nodes old.children ≡ true
    kids = tree_below b.top old b.suits

    fits : (c : Change) → suits_change c old ≡ true → has_named_attribute c ≡ true → Suited (changed c old)
        → fits_news (change_news id c) ≡ true
    fits (shows n) s k a = shown_children_fit id n own.counted (ltb-true 0 id own.positive)
        (tree_below a.top (changed (shows n) old) a.suits)
    fits (inserts previous w) s k a =
        let p = and_left _ (not (is_opened w.row.hold)) s in
        let there = and_right (is_opened old.row.hold) (previous == 0 || has_tree previous old.children) p in
        let placed_in = inserted_after previous w old.children there in
        both (both (told_inserted id w own (suits-inserted placed_in (tree_below a.top (changed (inserts previous w) old) a.suits)))
        (and_right _ (not (is_opened w.row.hold)) s))
        (both (id_fits id own) (both (previous_counted (previous == 0) previous old.children refl there kids) refl))
    fits (removes child) s k a =
        both (id_fits child (child_id child old.children (and_right (is_opened old.row.hold) (has_tree child old.children) s) kids))
        (both (id_fits id own) refl)
    fits (counts n) s k a = both (tree_row a.top (changed (counts n) old) a.suits).number (both (id_fits id own) refl)
    fits (sets name value) s k a = both k (both (id_fits id own) refl)
    fits (drops name) s k a = both k (both (id_fits id own) refl)
    fits (says value) s k a = both (id_fits id own) refl

news_texts : (id : ℕ) (c : Change) (old : Branch Seen) → suits_change c old ≡ true → has_named_attribute c ≡ true
    → SeenHaveUtf8 (alone (changed c old)) → NewsHaveUtf8 (change_news id c)
news_texts id (shows n) old s k u = texts-told id n u.1
news_texts id (inserts previous w) old s k u =
    texts-told id (alone w) (texts-inserted
    (inserted_after previous w old.children (and_right (is_opened old.row.hold) _ (and_left _ (not (is_opened w.row.hold)) s))) u.1)
news_texts id (removes child) old s k u = tt
news_texts id (counts n) old s k u = tt
news_texts id (sets name value) old s k u = (name_utf8 name k, value_placed name value old.row.label.attributes u.0.2)
news_texts id (drops name) old s k u = name_utf8 name k
news_texts id (says value) old s k u = u.0.1

news_levels : (id : ℕ) (c : Change) → news_height (change_news id c) ≡ height (told_nodes id (nodes_told c))
news_levels id (shows n) = refl
news_levels id (inserts previous w) = refl
news_levels id (removes child) = refl
news_levels id (counts n) = refl
news_levels id (sets name value) = refl
news_levels id (drops name) = refl
news_levels id (says value) = refl

-- what is told of a change
pub record CanTellNews (n : News) : Type 0 where
  pub fits : fits_news n ≡ true
  pub texts : NewsHaveUtf8 n
  pub levels : news_height n ≤ most_told

pub told_change_news : (u w : Nodes Seen) (id : ℕ) (c : Change) → IsTellable u → IsTellable w → ChangesNode id c u w
    → CanTellNews (change_news id c)
told_change_news u w id c before after move = record {
  fits = news_fit id c move.old move.suits move.named (suited-at move.at before.forms) (suited-at (at-back move.at) after.forms) move.is;
  texts = news_texts id c move.old move.suits move.named (texts-at (at-back move.at) after.texts);
  levels = let h = move.low in let k = news_levels id c in let j = height-told id (nodes_told c) in omega arith;
}

-- a node that is shown has an id that a message can name
some_branch : (o : Option (Branch Seen)) → is_some o ≡ true → (b : Branch Seen) × (o ≡ Some b)
some_branch None e = cc
some_branch (Some b) e = (b, refl)

pub shown_id : (id : ℕ) (u : Nodes Seen) → has seen_id id u ≡ true → suits_view u ≡ true → IsId id
shown_id id u there s =
    let found = some_branch (find seen_id id u) (sym (has-find seen_id id u) ∙ there) in
    let b = found.0 in
    let at_b = at-put seen_id id b u b found.1 in
    let suited = suited-at at_b.1 s in
    subst IsId (found_key seen_id id u b found.1) (tree_row suited.top b suited.suits).own
