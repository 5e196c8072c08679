use Rattle.std.proofs.Common.{◌≡◌, ◌-◌, ◌<◌, length, Some, string_bytes, sym, ap, ◌∙◌, arith, rules}
use Rattle.json.specs.Json.{parse_map, after_end_array, read_key, items, members, value}
use Rattle.json.proofs.Grammar.{read_key-shorter}
use Rattle.serde_json.specs.Data.{put}
use Rattle.serde_json.specs.Read.{of_items, of_members, converted}
use Rattle.serde_json.specs.View.{view, items_view, members_view}
use Rattle.serde_json.proofs.Views.{view-Array, view-Object, members_view-insert_entry}
use Rattle.short_json.proofs.Converted.{object_read, array_read, item_read, items_over, member_read, members_over, items_before}
use Rattle.short_json.proofs.Converted.{items_before-no_items, one_more_item, none_before}
use Rattle.short_json.proofs.Values.{no_end}
use Rattle.short_json.proofs.value.+read.Goals as goal

pub object_value-returns-clause-ok : goal.object_value-returns-clause-ok
object_value-returns-clause-ok t c =
    object_read c.args.depth c.args.reader.now c.begin_object.new.self c.read_members.new.reader
    (members_view c.in_ok-found.found.entries) (omega arith) c.in-Some.ensures.some c.in_ok-found.ensures.ok
    ∙ ap (λ d. Some (d, c.read_members.new.reader)) (sym (view-Object c.in_ok-found.found))

pub array_value-returns-clause-ok : goal.array_value-returns-clause-ok
array_value-returns-clause-ok t c =
    array_read c.args.depth c.args.reader.now c.begin_array.new.self c.read_items.new.reader
    (items_view c.in_ok-found.found.items) (omega arith) c.in-Some.ensures.some c.in_ok-found.ensures.ok
    ∙ ap (λ d. Some (d, c.read_items.new.reader)) (sym (view-Array c.in_ok-found.found))

pub read_items-items-init : goal.read_items-items-init
read_items-items-init t c =
    let all = converted of_items (items (value c.args.depth) (length c.args.reader.now) c.args.reader.now) in (
      length c.args.reader.now,
      omega arith,
      none_before all ∙ ap (λ vs. parse_map (items_before vs) all) (sym c.new-found.ensures.items),
      omega arith,
    )

pub read_items-items-preserved : goal.read_items-items-preserved
read_items-items-preserved t c =
    let p = value c.args.depth in
    let l = c.items in
    let n = l.invariant.0 in
    let done = c.in_ok-item.ensures in
    let v = c.in_ok-item.item in
    let r = c.read.new.reader in
    let less : length r < length l.reader = done.shorter in
    let going = no_end c.args.depth l.reader (view v, r) done.ok in
    let turn = item_read p n l.reader r (view v) (omega (arith, l.invariant.1)) going done.ok in (
      n - 1,
      omega (arith, l.invariant.1),
      l.invariant.2 ∙ ap (parse_map (items_before l.found.items)) turn ∙ one_more_item l.found.items v _
          ∙ ap (λ vs. parse_map (items_before vs) (converted of_items (items p (n - 1) r))) (sym c.in_ok-push.ensures.items),
      omega (arith, l.invariant.3),
    )

pub read_items-returns-clause-ok : goal.read_items-returns-clause-ok
read_items-returns-clause-ok t c =
    let p = value c.args.depth in
    let l = c.items in
    let n = l.invariant.0 in
    let r = c.end_array.new.self in
    l.invariant.2
    ∙ ap (parse_map (items_before l.found.items)) (items_over p n l.reader r l.invariant.1 (ap after_end_array c.in-Some.ensures.some))
    ∙ ap (λ ds. Some (ds, r)) (items_before-no_items l.found.items)

pub read_members-members-init : goal.read_members-members-init
read_members-members-init t c =
    let all = members (value c.args.depth) (length c.args.reader.now) c.args.reader.now in (
      length c.args.reader.now,
      omega arith,
      ap (λ es. converted (λ ms. of_members ms (members_view es)) all) (sym c.new-found.ensures.empty),
      omega arith,
    )

pub read_members-members-preserved : goal.read_members-members-preserved
read_members-members-preserved t c =
    let p = value c.args.depth in
    let l = c.members in
    let n = l.invariant.0 in
    let old = members_view l.found.entries in
    let k = c.in-Some.name.now in
    let s = c.name.new.self in
    let named : read_key l.reader ≡ Some (Some k, s) = ap read_key c.in-Some.ensures.some in
    let done = c.in_ok-member.ensures in
    let v = c.in_ok-member.member in
    let r = c.read.new.reader in
    let less = read_key-shorter l.reader (Some k) s named in
    let lesser = done.shorter in
    let copied : string_bytes c.in_ok-key.key ≡ k = search rules in
    let inserted : members_view c.insert.new.self.entries ≡ put k (view v) old =
    ap members_view c.in_ok-insert.ensures.entries ∙ members_view-insert_entry l.found.entries c.in_ok-key.key v
    ∙ ap (λ name. put name (view v) old) copied in (
      n - 1,
      omega (arith, l.invariant.1),
      l.invariant.2 ∙ member_read p old n k l.reader s r (view v) (omega (arith, l.invariant.1)) named done.ok
          ∙ ap (λ found. converted (λ ms. of_members ms found) (members p (n - 1) r)) (sym inserted),
      omega (arith, l.invariant.3),
    )

pub read_members-returns-clause-ok : goal.read_members-returns-clause-ok
read_members-returns-clause-ok t c =
    let p = value c.args.depth in
    let l = c.members in
    let n = l.invariant.0 in
    let old = members_view l.found.entries in
    l.invariant.2
    ∙ members_over p old n l.reader c.end_object.new.self l.invariant.1 (ap read_key c.in-Some-end_object.ensures.some)
