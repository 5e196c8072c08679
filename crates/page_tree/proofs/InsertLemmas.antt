-- The edits that an insert and a copy mean are taken.
use Rattle.std.proofs.Common.{◌≡◌, ◌⊎◌, ℕ, zero, suc, ◌+◌, ◌<◌, ◌≤◌, max, Bool, true, false, ◌&&◌, inl, inr, subst, refl, sym, ap, ◌∙◌}
use Rattle.std.proofs.Common.{arith}
use Rattle.std.proofs.lemmas.Bool.{not-false, not_from_true, cases_lt}
use Rattle.node_tree.specs.Nodes.{Nodes, none, node, Branch, alone, node_count, branch_count, map_branch}
use Rattle.node_tree.specs.Labels.{Label}
use Rattle.node_tree.specs.Keys.{tally, first_true}
use Rattle.node_tree.proofs.KeyLemmas.{tally_row, tally_below}
use Rattle.page_tree.specs.Pages.{PageRow, row_serial, row_label, PageValue, numbered, times_in, IsValid}
use Rattle.page_tree.specs.Edits.{after, greatest_serial, numbered_branch, form_at}
use Rattle.page_tree.specs.EditFaults.{is_live, is_live_or_0, CanInsert, CanAttach, CanApply, attach_faults, edit_faults, copy_faults}
use Rattle.page_tree.specs.EditLaws.{NextLaw, InsertLaw, CopyLaw}
use Rattle.page_tree.specs.declared.edits.TreeEdit.TheVariants.{SetAttr, DropAttr, SetText, Attach, Detach}
use Rattle.node_tree.proofs.PairLemmas.{both}
use Rattle.page_tree.proofs.NumberLemmas.{map_rows-numbered, tally-numbered_once, tally-numbered_below, tally-numbered_above}
use Rattle.page_tree.proofs.WholeLemmas.{whole-valid}
use Rattle.page_tree.proofs.EditLemmas.{clear, unfaulted}
use Rattle.page_tree.proofs.BackLemmas.{form-sound, form-named}

-- ---- the next serial

greatest-below : (bound : ℕ) (n : Nodes PageRow) → 0 < bound → ((x : ℕ) → 0 < tally row_serial x n → x < bound) → greatest_serial n < bound
greatest-below bound none some h = some
greatest-below bound (node r c t) some h =
    let here = h r.serial (tally_row row_serial r.serial r c t refl) in
    let u = greatest-below bound c some (λ x p. h x (let k = tally_below row_serial x r c t in omega arith)) in
    let v = greatest-below bound t some (λ x p. h x (let k = tally_below row_serial x r c t in omega arith)) in
    omega arith

pub next-stays : NextLaw
next-stays page (SetAttr serial name value) can = refl
next-stays page (DropAttr serial name) can = refl
next-stays page (SetText serial value) can = refl
next-stays page (Attach parent before w) can =
    let here = tally_row row_serial w.row.serial w.row w.children none refl in
    let some = can.ready.below_next w.row.serial (omega arith) in
    let g = greatest-below page.next (alone w) (omega arith) (λ x p. can.ready.below_next x (omega arith)) in
    omega arith
next-stays page (Detach serial) can = refl

greatest-numbered : (from : ℕ) (n : Nodes Label) → 1 ≤ from → max from (suc (greatest_serial (numbered from n))) ≡ from + node_count n
greatest-numbered from none h = omega arith
greatest-numbered from (node l c t) h =
    let u = greatest-numbered (from + 1) c (omega arith) in
    let v = greatest-numbered (from + 1 + node_count c) t (omega arith) in
    omega arith

-- ---- an insert

module _ (page : PageValue) (form : Branch Label) (valid : IsValid page) where
  pub form-numbered : map_branch row_label (numbered_branch page.next form) ≡ form
  form-numbered = ap (λ (c : Nodes Label). record { row = form.row; children = c }) (map_rows-numbered (page.next + 1) form.children)

  next_least : 1 ≤ page.next
  next_least =
      let whole = whole-valid page valid in
      let b = whole.below page.tree.row.serial (tally_row row_serial page.tree.row.serial page.tree.row page.tree.children none refl) in
      omega arith

  -- a new serial is none of those before
  new_serial : (x : ℕ) → 0 < times_in x (numbered_branch page.next form) → page.next ≤ x
  new_serial x p = elim (cases_lt x page.next) [
    | inl lt ↦ absurd
        (let e = tally-numbered_below x page.next (alone form) lt in omega arith)
    | inr ge ↦ omega arith
  ]

  pub numbered-ready : CanInsert form → CanAttach (page.next + branch_count form) (numbered_branch page.next form) page.tree
  numbered-ready can = record {
    formed = subst (λ (f : Branch Label). CanInsert f) (sym form-numbered) can;
    distinct = λ x. let o = tally-numbered_once x page.next (alone form) in omega arith;
    least = λ x p. let n = new_serial x p in let l = next_least in omega arith;
    below_next = λ x p. elim (cases_lt x (page.next + branch_count form)) [
      | inl lt ↦ lt
      | inr ge ↦ absurd
          (let e = tally-numbered_above x page.next (alone form) (omega arith) in omega arith)
    ];
    apart = λ x p. let n = new_serial x p in elim
        (some_times x) [ inl z ↦ z | inr q ↦ absurd (let b = valid.below_next x q in omega arith) ];
  }
    where
      zero_or_more : (k : ℕ) → (k ≡ 0) ⊎ (0 < k)
      zero_or_more zero = inl refl
      zero_or_more (suc k) = inr (omega arith)

      some_times : (x : ℕ) → (times_in x page.tree ≡ 0) ⊎ (0 < times_in x page.tree)
      some_times x = zero_or_more (times_in x page.tree)

pub insert-leads : InsertLaw
insert-leads page parent before form valid can clear_of = record {
  taken = (
    record {
      fits = ap (λ (f : Branch Label). first_true (attach_faults parent before f page.tree)) (form-numbered page form valid) ∙ clear_of;
      ready = numbered-ready page form valid can;
    },
    tt,
  );
  ends = ap (λ (n : ℕ). record (after (Attach parent before (numbered_branch page.next form)) page) { next = n }) same_next;
}
  where
    same_next : max (page.next + branch_count form) (suc (greatest_serial (alone (numbered_branch page.next form))))
        ≡ max page.next (suc (greatest_serial (alone (numbered_branch page.next form))))
    same_next = let g = greatest-numbered page.next (alone form) (next_least page form valid) in omega arith

-- ---- a copy

pub all_three : (a b c : Bool) → (a && b && c) ≡ true → (a ≡ true) × (b ≡ true) × (c ≡ true)
all_three true true c e = (refl, refl, e)
all_three true false c e = absurd (cc)
all_three false b c e = absurd (cc)

pub copy-leads : CopyLaw
copy-leads page serial parent before valid clear_of =
    let tests = clear (copy_faults serial parent before page.tree) clear_of in
    let lives = all_three (is_live serial page.tree) (is_live parent page.tree) (is_live_or_0 before page.tree) (not-false _ tests.0) in
    let whole = whole-valid page valid in
    let detach : CanApply page.next
    (Detach serial) page.tree = record {
      fits = unfaulted (edit_faults (Detach serial) page.tree)
          (not_from_true _ lives.0, (tests.1.0, tt));
      ready = tt;
    } in
    insert-leads page parent before (form_at serial page.tree) valid (form-sound page.tree whole serial detach)
    (unfaulted (attach_faults parent before (form_at serial page.tree) page.tree) (
      not_from_true _ (both _ _ lives.1 lives.2),
      (
        tests.1.1.0,
        (
          tests.1.1.1.0,
          (
            tests.1.1.1.1.0,
            (not_from_true _ (form-named page.tree whole serial detach), (tests.1.1.1.1.1.0, tt)),
          ),
        ),
      ),
    ))
