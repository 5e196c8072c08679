-- The texts of a page stay UTF-8 when it is edited with UTF-8 texts.
use Rattle.std.proofs.Common.{ℕ, ◌+◌, ◌==◌, cond, List, [], ◌∷◌, Bool, true, false, bytes_eq, Option, Some, None, Ordering, Less, Equal}
use Rattle.std.proofs.Common.{Greater, nat_cmp}
use Rattle.std.specs.Prelude.{unwrap_or}
use Rattle.std.specs.Ordering.{match_ordering}
use Rattle.std.specs.Cmp.Lexicographic.{slice_cmp}
use Rattle.page_tree.specs.Loads.{placed}
use Rattle.std.specs.Str.{IsUtf8}
use Rattle.node_tree.specs.Nodes.{Nodes, none, node, Branch, alone, node_count, map_rows}
use Rattle.node_tree.specs.Labels.{Pair, Label}
use Rattle.node_tree.specs.Keys as keys
use Rattle.node_tree.specs.Keys.{first_of}
use Rattle.page_tree.specs.Pages.{PageRow, row_label, row_serial, find_in, node_at, parent_at, numbered}
use Rattle.page_tree.specs.Edits.{pairs_without, with_attribute, without_attribute, with_value, relabelled, put_before, taken_out}
use Rattle.page_tree.specs.Edits.{with_child, without_child, put_in, changed_at, after_tree, form_at, numbered_branch}
use Rattle.page_tree.specs.declared.edits.TreeEdit.{TreeEdit}
use Rattle.page_tree.specs.declared.edits.TreeEdit.TheVariants.{SetAttr, DropAttr, SetText, Attach, Detach}
use Rattle.node_tree.specs.Labels.{PairsHaveUtf8, LabelHasUtf8}
use Rattle.dom_agent.specs.Laws.{RowsHaveUtf8}
use Rattle.cdp_json.proofs.ReadTexts.{IfSome}
use Rattle.back_end.specs.Texts.{HaveTexts, FormHasTexts, EditHasTexts}

-- ---- labels

placed-at : (o : Ordering) (p q : Pair) (qs : List Pair) → IsUtf8 p.0 → IsUtf8 p.1 → IsUtf8 q.0 → IsUtf8 q.1 → PairsHaveUtf8 qs
    → PairsHaveUtf8 (placed p qs)
    → PairsHaveUtf8 (match_ordering o (p ∷ q ∷ qs) ((q.0, p.1) ∷ qs) (q ∷ placed p qs))
placed-at Less p q qs pn pv qn qv us later = (pn, pv, (qn, qv, us))
placed-at Equal p q qs pn pv qn qv us later = (qn, pv, us)
placed-at Greater p q qs pn pv qn qv us later = (qn, qv, later)

placed-texts : (p : Pair) (qs : List Pair) → IsUtf8 p.0 → IsUtf8 p.1 → PairsHaveUtf8 qs → PairsHaveUtf8 (placed p qs)
placed-texts p [] pn pv us = (pn, pv, tt)
placed-texts p (q ∷ qs) pn pv us = placed-at (slice_cmp nat_cmp p.0 q.0) p q qs pn pv us.0 us.1 us.2 (placed-texts p qs pn pv us.2)

pairs-without : (name : List ℕ) (ps : List Pair) → PairsHaveUtf8 ps → PairsHaveUtf8 (pairs_without name ps)
pairs-without name [] us = tt
pairs-without name (p ∷ ps) us = at (bytes_eq p.0 name) (pairs-without name ps us.2) where
  at : (b : Bool) → PairsHaveUtf8 (pairs_without name ps) → PairsHaveUtf8 (cond b ps (p ∷ pairs_without name ps))
  at true later = us.2
  at false later = (us.0, us.1, later)

label-set : (name value : List ℕ) (l : Label) → IsUtf8 name → IsUtf8 value → LabelHasUtf8 l → LabelHasUtf8 (with_attribute name value l)
label-set name value l n v us = (us.0, us.1, placed-texts (name, value) l.attributes n v us.2)

label-dropped : (name : List ℕ) (l : Label) → LabelHasUtf8 l → LabelHasUtf8 (without_attribute name l)
label-dropped name l us = (us.0, us.1, pairs-without name l.attributes us.2)

label-said : (value : List ℕ) (l : Label) → IsUtf8 value → LabelHasUtf8 l → LabelHasUtf8 (with_value value l)
label-said value l v us = (us.0, v, us.2)

-- ---- trees

abbrev TextTree : Branch PageRow → Type 0
TextTree b = RowsHaveUtf8 (alone b)

-- the first of the nodes that is found
found-either : (o p : Option (Branch PageRow)) → IfSome TextTree o → IfSome TextTree p → IfSome TextTree (first_of o p)
found-either None p u v = v
found-either (Some x) p u v = u

found-texts : (serial : ℕ) (n : Nodes PageRow) → RowsHaveUtf8 n → IfSome TextTree (keys.find row_serial serial n)
found-texts serial none us = tt
found-texts serial (node r c t) us = at (r.serial == serial) (found-texts serial c us.1) (found-texts serial t us.2) where
  at : (b : Bool) → IfSome TextTree (keys.find row_serial serial c) → IfSome TextTree (keys.find row_serial serial t)
      → IfSome TextTree (cond b (Some (record { row = r; children = c }))
      (first_of (keys.find row_serial serial c) (keys.find row_serial serial t)))
  at true below beside = (us.0, us.1, tt)
  at false below beside = found-either (keys.find row_serial serial c) (keys.find row_serial serial t) below beside

or-tree : (o : Option (Branch PageRow)) (tree : Branch PageRow) → IfSome TextTree o → TextTree tree → TextTree (unwrap_or o tree)
or-tree None tree u v = v
or-tree (Some x) tree u v = u

pub node_at-texts : (serial : ℕ) (tree : Branch PageRow) → TextTree tree → TextTree (node_at serial tree)
node_at-texts serial tree us = or-tree (find_in serial tree) tree (found-texts serial (alone tree) us) us

-- another tree in the place of one
put-texts : (serial : ℕ) (w : Branch PageRow) (n : Nodes PageRow) → TextTree w → RowsHaveUtf8 n
    → RowsHaveUtf8 (keys.put row_serial serial w n)
put-texts serial w none u us = tt
put-texts serial w (node r c t) u us = at (r.serial == serial) (keys.has row_serial serial c) (put-texts serial w c u us.1)
    (put-texts serial w t u us.2) where
      at : (b d : Bool) → RowsHaveUtf8 (keys.put row_serial serial w c) → RowsHaveUtf8 (keys.put row_serial serial w t)
          → RowsHaveUtf8 (cond b (node w.row w.children t)
          (cond d (node r (keys.put row_serial serial w c) t) (node r c (keys.put row_serial serial w t))))
      at true d below beside = (u.0, u.1, us.2)
      at false true below beside = (us.0, below, us.2)
      at false false below beside = (us.0, us.1, beside)

put_in-texts : (serial : ℕ) (w tree : Branch PageRow) → TextTree w → TextTree tree → TextTree (put_in serial w tree)
put_in-texts serial w tree u us = at (tree.row.serial == serial) where
  at : (b : Bool) → TextTree (cond b w (record { row = tree.row; children = keys.put row_serial serial w tree.children }))
  at true = u
  at false = (us.0, put-texts serial w tree.children u us.1, tt)

changed-texts : (serial : ℕ) (change : Branch PageRow → Branch PageRow) (tree : Branch PageRow)
    → ((b : Branch PageRow) → TextTree b → TextTree (change b)) → TextTree tree
    → TextTree (changed_at serial change tree)
changed-texts serial change tree keeps us =
    put_in-texts serial (change (node_at serial tree)) tree (keeps (node_at serial tree) (node_at-texts serial tree us)) us

relabelled-texts : (f : Label → Label) → ((l : Label) → LabelHasUtf8 l → LabelHasUtf8 (f l)) → (b : Branch PageRow) → TextTree b
    → TextTree (relabelled f b)
relabelled-texts f keeps b us = (keeps b.row.label us.0, us.1, tt)

put_before-texts : (before : ℕ) (w : Branch PageRow) (n : Nodes PageRow) → TextTree w → RowsHaveUtf8 n
    → RowsHaveUtf8 (put_before before w n)
put_before-texts before w none u us = u
put_before-texts before w (node r c t) u us = at (r.serial == before) (put_before-texts before w t u us.2) where
  at : (b : Bool) → RowsHaveUtf8 (put_before before w t)
      → RowsHaveUtf8 (cond b (node w.row w.children (node r c t)) (node r c (put_before before w t)))
  at true later = (u.0, u.1, us)
  at false later = (us.0, us.1, later)

taken_out-texts : (serial : ℕ) (n : Nodes PageRow) → RowsHaveUtf8 n → RowsHaveUtf8 (taken_out serial n)
taken_out-texts serial none us = tt
taken_out-texts serial (node r c t) us = at (r.serial == serial) (taken_out-texts serial t us.2) where
  at : (b : Bool) → RowsHaveUtf8 (taken_out serial t) → RowsHaveUtf8 (cond b t (node r c (taken_out serial t)))
  at true later = us.2
  at false later = (us.0, us.1, later)

-- ---- edits

pub after-texts : (e : TreeEdit) (tree : Branch PageRow) → EditHasTexts e → TextTree tree → TextTree (after_tree e tree)
after-texts (SetAttr serial name value) tree has us =
    changed-texts serial (relabelled (with_attribute name value)) tree
    (relabelled-texts (with_attribute name value) (λ l ls. label-set name value l has.0 has.1 ls)) us
after-texts (DropAttr serial name) tree has us =
    changed-texts serial (relabelled (without_attribute name)) tree (relabelled-texts (without_attribute name) (label-dropped name)) us
after-texts (SetText serial value) tree has us =
    changed-texts serial (relabelled (with_value value)) tree (relabelled-texts (with_value value) (λ l ls. label-said value l has ls)) us
after-texts (Attach parent before w) tree has us =
    changed-texts parent (with_child before w) tree (λ b bs. (bs.0, put_before-texts before w b.children has bs.1, tt)) us
after-texts (Detach serial) tree has us =
    changed-texts (parent_at serial tree) (without_child serial) tree (λ b bs. (bs.0, taken_out-texts serial b.children bs.1, tt)) us

-- ---- new nodes

pub numbered-texts : (first : ℕ) (n : Nodes Label) → HaveTexts n → RowsHaveUtf8 (numbered first n)
numbered-texts first none texts = tt
numbered-texts first (node l c t) texts =
    (texts.0, numbered-texts (first + 1) c texts.1, numbered-texts (first + 1 + node_count c) t texts.2)

pub branch-texts : (first : ℕ) (form : Branch Label) → FormHasTexts form → TextTree (numbered_branch first form)
branch-texts first form texts = (texts.0, numbered-texts (first + 1) form.children texts.1, tt)

-- ---- a copy

rows-texts : (n : Nodes PageRow) → RowsHaveUtf8 n → HaveTexts (map_rows row_label n)
rows-texts none texts = tt
rows-texts (node r c t) texts = (texts.0, rows-texts c texts.1, rows-texts t texts.2)

-- the form of a node of the page has its texts
pub form-texts : (serial : ℕ) (tree : Branch PageRow) → RowsHaveUtf8 (alone tree) → FormHasTexts (form_at serial tree)
form-texts serial tree texts = let has = node_at-texts serial tree texts in (has.0, rows-texts (node_at serial tree).children has.1)
