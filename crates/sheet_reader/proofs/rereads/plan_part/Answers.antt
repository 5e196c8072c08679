use Rattle.std.proofs.Common.{◌+◌, ◌-◌, ◌≤◌, ◌≡◌, List, ℕ, length, refl, sym, ap, subst, ◌∙◌, arith, nat_eq}
use Rattle.sheet_reader.specs.Repairs.{IsStretch, StandsAlone}
use Rattle.sheet_reader.proofs.OrderForms.{sheet_order}
use Rattle.sheet_reader.proofs.RepairForms.{part_leads, own_bounds, new_short}
use Rattle.sheet_reader.proofs.rereads.plan_part.Goals as goal

pub new_part-requires-clause-sorted : goal.new_part-requires-clause-sorted
new_part-requires-clause-sorted c = sheet_order c.args.old_text.now c.args.old.now c.utf8.old_text c.requires.read

pub new_part-requires-clause-rules : goal.new_part-requires-clause-rules
new_part-requires-clause-rules c = (own_bounds c.in-Some-get.text.now c.in_ok-sheet.sheet c.in_ok-sheet.ensures).rules

pub new_part-requires-clause-places : goal.new_part-requires-clause-places
new_part-requires-clause-places c = (own_bounds c.in-Some-get.text.now c.in_ok-sheet.sheet c.in_ok-sheet.ensures).places

pub new_part-requires-clause-media : goal.new_part-requires-clause-media
new_part-requires-clause-media c = (own_bounds c.in-Some-get.text.now c.in_ok-sheet.sheet c.in_ok-sheet.ensures).media

pub new_part-requires-clause-around : goal.new_part-requires-clause-around
new_part-requires-clause-around c = (own_bounds c.in-Some-get.text.now c.in_ok-sheet.sheet c.in_ok-sheet.ensures).around

pub new_part-requires-clause-inside : goal.new_part-requires-clause-inside
new_part-requires-clause-inside c = (own_bounds c.in-Some-get.text.now c.in_ok-sheet.sheet c.in_ok-sheet.ensures).inside

pub returns : goal.returns
returns c =
    let text = c.args.old_text.now in
    let put = c.args.put.now in
    let new_text = c.args.new_text.now in
    let part = c.args.part in
    let stretch = c.in-Some.stretch in
    let old = c.args.old.now in
    let own_text = c.in-Some-get.text.now in
    let own = c.in_ok-sheet.sheet in
    let last = nat_eq stretch.end (length text) in
    let there : IsStretch text old.places part stretch =
    subst (λ (xs : List ℕ). IsStretch xs old.places part stretch) c.as_bytes.ensures.value
    (subst (λ (xs : List ℕ). IsStretch c.as_bytes.result.now xs part stretch) c.as_slice.ensures c.in-Some.ensures) in
    let alone : StandsAlone own_text own.places last =
    subst (λ (xs : List ℕ). StandsAlone xs own.places last) c.as_bytes-2.ensures.value
    (subst (λ (xs : List ℕ). StandsAlone c.as_bytes-2.result.now xs last) c.as_slice-2.ensures
    (c.stands_alone.ensures c.if-not-stands_alone.false)) in
    let fits : part.end ≤ length text = omega (arith, there.ends, there.inside) in
    record {
      leads = part_leads text put new_text own_text old part stretch own c.in_ok-new_part.field-0
          (stretch.end - (part.end - part.start) + length put) c.requires.read c.requires.new there refl c.in-Some-get.ensures.cases.0
          c.in_ok-sheet.ensures alone c.in_ok-new_part.ensures
          (new_short text put new_text part c.requires.new there.order fits c.requires.short);
    }
