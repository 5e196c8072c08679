-- How many nodes pass a test, before and after one change.
use Rattle.std.proofs.Common.{◌≡◌, ℕ, suc, ◌+◌, ◌<◌, ◌≤◌, ◌^◌, Bool, true, false, refl, sym, ap, ◌∙◌, subst, arith, Result, Ok, Err}
use Rattle.std.specs.Prelude.{IfOk}
use Rattle.node_tree.specs.Nodes.{Nodes, none, node, Branch, alone, node_count, branch_count}
use Rattle.node_tree.specs.declared.Kind.{Kind}
use Rattle.node_tree.specs.Labels.{is_element, is_doctype}
use Rattle.node_tree.specs.Keys.{At, here, within, past}
use Rattle.node_tree.specs.Seen.{Hold, leaf, counted, opened, Seen, shows_count}
use Rattle.client_views.specs.Views.{IsMirror}
use Rattle.front_mirror.specs.Shown.{known_at, root_id}
use Rattle.front_mirror.specs.Panels.{NodeTurns, Opens, Gains, Differs, hold_form, count_where, Numbers, numbers_of, is_text, is_comment}
use Rattle.front_mirror.specs.Panels.{numbers_text, counts_text, one_where}
use Rattle.front_mirror.proofs.GrowLemmas.{Grown, first, deeper, further, grown_place, grown-at}
use Rattle.panels.specs.Numbers.{AreSmall, plus}
use Rattle.panels.proofs.ChangedNodes.{bare-at, unopened_none, shut_unopened, grown-stands}
use Rattle.panels.proofs.NumberLemmas.{same_numbers}
use Rattle.panels.proofs.RootLemmas.{root_alone}
use Rattle.panels.proofs.SpliceLemmas.{known-new}

one-low : (b : Bool) → one_where b ≤ 1
one-low true = omega arith
one-low false = omega arith

module _ (test : Seen → Bool) where
  -- one node changed
  pub counts-at : {old new : Branch Seen} {depth : ℕ} {n m : Nodes Seen} → At old new depth n m
      → count_where test n + count_where test (alone new) ≡ count_where test m + count_where test (alone old)
  counts-at (here t) = omega arith
  counts-at (within depth r c m t e) = let h = counts-at e in omega arith
  counts-at (past depth r c t m e) = let h = counts-at e in omega arith

  -- a tree came in
  pub counts-grown : {w : Branch Seen} {depth : ℕ} {n m : Nodes Seen} → Grown w depth n m
      → count_where test m ≡ count_where test n + count_where test (alone w)
  counts-grown (first t) = omega arith
  counts-grown (deeper depth r c m t g) = let h = counts-grown g in omega arith
  counts-grown (further depth r c t m g) = let h = counts-grown g in omega arith

  -- there are as many nodes at least
  pub counts-few : (n : Nodes Seen) → count_where test n ≤ node_count n
  counts-few none = omega arith
  counts-few (node r c t) = omega (arith, one-low (test r), counts-few c, counts-few t)

  -- a node without known children became one with some
  opened-counts : {old new : Branch Seen} {depth : ℕ} {n m : Nodes Seen} → At old new depth n m → old.children ≡ none
      → count_where test n + (one_where (test new.row) + count_where test new.children) ≡ count_where test m + one_where (test old.row)
  opened-counts e empty = let h = counts-at e in let k = ap (count_where test) empty in omega arith

  -- a node was counted the same before
  same-counts : {old new : Branch Seen} {depth : ℕ} {n m : Nodes Seen} → At old new depth n m → test new.row ≡ test old.row
      → new.children ≡ old.children → count_where test m ≡ count_where test n
  same-counts e row kids =
      let h = counts-at e in
      let k = ap (count_where test) kids in
      let l = ap one_where row in
      omega arith

sizes-at : {old new : Branch Seen} {depth : ℕ} {n m : Nodes Seen} → At old new depth n m
    → node_count n + branch_count new ≡ node_count m + branch_count old
sizes-at (here t) = omega arith
sizes-at (within depth r c m t e) = let h = sizes-at e in omega arith
sizes-at (past depth r c t m e) = let h = sizes-at e in omega arith

sizes-grown : {w : Branch Seen} {depth : ℕ} {n m : Nodes Seen} → Grown w depth n m → node_count n ≤ node_count m
sizes-grown (first t) = omega arith
sizes-grown (deeper depth r c m t g) = let h = sizes-grown g in omega arith
sizes-grown (further depth r c t m g) = let h = sizes-grown g in omega arith

-- numbers of few nodes are small
pub small_numbers : (n : Nodes Seen) → node_count n < 2 ^ 64 → AreSmall (numbers_of n)
small_numbers n few = record {
  elements = omega (arith, counts-few (λ r. is_element r.label.kind) n);
  texts = omega (arith, counts-few (λ r. is_text r.label.kind) n);
  comments = omega (arith, counts-few (λ r. is_comment r.label.kind) n);
  doctypes = omega (arith, counts-few (λ r. is_doctype r.label.kind) n);
  unopened = omega (arith, counts-few (λ r. shows_count r.hold) n);
}

-- the size of the document is that of all
pub root_size : (n : Nodes Seen) → IsMirror n → (n ≡ none → ⊥) → branch_count (known_at (root_id n) n) ≡ node_count n
root_size n is there =
    let e : node_count (alone (known_at (root_id n) n)) ≡ node_count n = ap (λ (m : Nodes Seen). node_count m) (root_alone n is there) in
    omega arith

-- where one node changed, there is a document before and after
pub text-before : {old new : Branch Seen} {depth : ℕ} {n m : Nodes Seen} → At old new depth n m
    → counts_text n ≡ numbers_text (numbers_of n)
text-before (here t) = refl
text-before (within depth r c m t e) = refl
text-before (past depth r c t m e) = refl

pub text-after : {old new : Branch Seen} {depth : ℕ} {n m : Nodes Seen} → At old new depth n m
    → counts_text m ≡ numbers_text (numbers_of m)
text-after (here t) = refl
text-after (within depth r c m t e) = refl
text-after (past depth r c t m e) = refl

-- numbers of the mirror make its line
pub line_turned : {E : Type 0} (r : Result Bool E) (new : Numbers) (n : Nodes Seen) → counts_text n ≡ numbers_text (numbers_of n)
    → IfOk r (λ done. done ≡ true → new ≡ numbers_of n) → IfOk r (λ done. done ≡ true → numbers_text new ≡ counts_text n)
line_turned (Ok done) new n e f = λ yes. ap numbers_text (f yes) ∙ sym e
line_turned (Err stop) new n e f = f

form_shows : (h : Hold) → shows_count h ≡ shows_count (hold_form h)
form_shows leaf = refl
form_shows (counted n) = refl
form_shows opened = refl

-- a node that changed is of the same kind, and unopened as little or as much as before
pub changed_text : (id : ℕ) (before after : Nodes Seen) → NodeTurns Differs id before after → counts_text after ≡ counts_text before
changed_text id before after t =
    let kind : (test : Kind → Bool) → count_where (λ r. test r.label.kind) after ≡ count_where (λ r. test r.label.kind) before =
    λ test. same-counts (λ r. test r.label.kind) t.at (ap test t.turns.kind) t.turns.children
    in
    let shut : shows_count t.new.row.hold ≡ shows_count t.old.row.hold =
    form_shows t.new.row.hold ∙ ap shows_count t.turns.hold ∙ sym (form_shows t.old.row.hold)
    in
    text-after t.at
    ∙ ap numbers_text (same_numbers (numbers_of after) (numbers_of before) (kind is_element) (kind is_text) (kind is_comment)
    (kind is_doctype) (same-counts (λ r. shows_count r.hold) t.at shut t.turns.children))
    ∙ sym (text-before t.at)

-- a node was opened
module _ (id : ℕ) (before after : Nodes Seen) (was : IsMirror before) (is : IsMirror after) (t : NodeTurns Opens id before after) where
  opened_empty : t.old.children ≡ none
  opened_empty = unopened_none t.old.row.hold t.old.children (shut_unopened t.old.row.hold t.turns.shut) (bare-at t.at was.view.bare)

  opened_known : known_at id after ≡ t.new
  opened_known =
      let same : t.new.row.id ≡ id = ap (λ (r : Seen). r.id) t.turns.row ∙ t.named in
      subst (λ x. known_at x after ≡ t.new) same (known-new t.at is)

  opened_kinds : (test : Kind → Bool) → count_where (λ r. test r.label.kind) after
      ≡ count_where (λ r. test r.label.kind) before + count_where (λ r. test r.label.kind) (known_at id after).children
  opened_kinds test =
      let h = opened-counts (λ r. test r.label.kind) t.at opened_empty in
      let k = ap (λ (r : Seen). one_where (test r.label.kind)) t.turns.row in
      let c = ap (λ (b : Branch Seen). count_where (λ r. test r.label.kind) b.children) opened_known in
      omega arith

  opened_shut : suc (count_where (λ r. shows_count r.hold) after)
      ≡ count_where (λ r. shows_count r.hold) before + count_where (λ r. shows_count r.hold) (known_at id after).children
  opened_shut =
      let h = opened-counts (λ r. shows_count r.hold) t.at opened_empty in
      let k : one_where (shows_count t.new.row.hold) ≡ 0 = ap (λ (r : Seen). one_where (shows_count r.hold)) t.turns.row in
      let l : one_where (shows_count t.old.row.hold) ≡ 1 = ap one_where t.turns.shut in
      let c = ap (λ (b : Branch Seen). count_where (λ r. shows_count r.hold) b.children) opened_known in
      omega arith

  -- it is unopened no longer, and all below it came in
  pub numbers_opened : (old new : Numbers) (unopened : ℕ) → old ≡ numbers_of before → suc unopened ≡ old.unopened
      → new ≡ plus (record old { unopened = unopened }) (numbers_of (known_at id after).children) → new ≡ numbers_of after
  numbers_opened old new unopened o d p =
      same_numbers new (numbers_of after)
      (omega (arith, opened_kinds is_element, ap (λ (x : Numbers). x.elements) o, ap (λ (x : Numbers). x.elements) p))
      (omega (arith, opened_kinds is_text, ap (λ (x : Numbers). x.texts) o, ap (λ (x : Numbers). x.texts) p))
      (omega (arith, opened_kinds is_comment, ap (λ (x : Numbers). x.comments) o, ap (λ (x : Numbers). x.comments) p))
      (omega (arith, opened_kinds is_doctype, ap (λ (x : Numbers). x.doctypes) o, ap (λ (x : Numbers). x.doctypes) p))
      (omega (arith, opened_shut, d, ap (λ (x : Numbers). x.unopened) o, ap (λ (x : Numbers). x.unopened) p))

  pub opened_few : node_count after < 2 ^ 64 → node_count before < 2 ^ 64
  opened_few few =
      let h = sizes-at t.at in
      let k = ap (λ (c : Nodes Seen). node_count c) opened_empty in
      omega arith

-- a child came in
module _ (child parent : ℕ) (before after : Nodes Seen) (is : IsMirror after) (t : NodeTurns (Gains child) parent before after) where
  inserted_grown : Grown t.turns.gained (suc t.depth) before after
  inserted_grown =
      let w = t.turns.gained in
      grown-at w t.at t.turns.row
      (subst (λ (o : Nodes Seen). Grown w 0 o t.new.children) t.turns.others (grown_place t.turns.place w t.new.children t.turns.there))

  inserted_known : known_at child after ≡ t.turns.gained
  inserted_known =
      subst (λ x. known_at x after ≡ t.turns.gained) t.turns.named (known-new (grown-stands inserted_grown) is)

  inserted_counts : (test : Seen → Bool) → count_where test after
      ≡ count_where test before + count_where test (alone (known_at child after))
  inserted_counts test =
      let h = counts-grown test inserted_grown in
      let c = ap (λ (b : Branch Seen). count_where test (alone b)) inserted_known in
      omega arith

  -- its numbers are more
  pub numbers_inserted : numbers_of after ≡ plus (numbers_of before) (numbers_of (alone (known_at child after)))
  numbers_inserted =
      same_numbers (numbers_of after) (plus (numbers_of before) (numbers_of (alone (known_at child after))))
      (inserted_counts (λ r. is_element r.label.kind)) (inserted_counts (λ r. is_text r.label.kind))
      (inserted_counts (λ r. is_comment r.label.kind)) (inserted_counts (λ r. is_doctype r.label.kind))
      (inserted_counts (λ r. shows_count r.hold))

  pub inserted_few : node_count after < 2 ^ 64 → node_count before < 2 ^ 64
  inserted_few few = let h = sizes-grown inserted_grown in omega arith
