use Rattle.std.proofs.Common.{◌≡◌, ◌+◌, ℕ, suc, List, All, length, take, drop, map, sym, ap, ◌∙◌, subst, arith}
use Rattle.std.proofs.lemmas.List.{length-map}
use Rattle.std.specs.Prelude.{slice_get, IfSome}
use Rattle.sheet_reader.specs.declared.sheet.StyleRule.{StyleRule}
use Rattle.sheet_reader.specs.Filings.{AreDigests}
use Rattle.sheet_reader.specs.Forms.{rule_seen, RuleForm}
use Rattle.selectors.specs.Moves.{cut, moved_place, CanPlace}
use Rattle.sheet_reader.specs.Moves.{moved_rules, moved_by, CanPlaceRule, CanPlaceHead, IsPropertyWithin}
use Rattle.sheet_reader.proofs.FilingForms.{digests-moved}
use Rattle.sheet_reader.proofs.MoveAround.{asked, lent}
use Rattle.sheet_reader.proofs.moves.move_body.Goals as goal

pub move_around-requires-clause-there : goal.move_around-requires-clause-there
move_around-requires-clause-there c =
    let same = ap (λ (ys : List StyleRule). length ys) c.deref_mut.ensures.value in
    omega (
      arith,
      same,
      c.requires.there,
      length-map c.into_vec-rules.result.items rule_seen,
      ap length (c.into_vec-rules.ensures ∙ c.take_digests-digests.ensures.same),
    )

pub move_around-requires-clause-before : goal.move_around-requires-clause-before
move_around-requires-clause-before c =
    let a = asked c.args.old c.args.rule c.args.properties.items c.args.size c.into_vec-rules.result.items c.index.result.now
    (c.into_vec-rules.ensures ∙ c.take_digests-digests.ensures.same) c.index.ensures c.requires.there c.requires.whole in
    let rules : map rule_seen c.deref_mut.result.now ≡ c.args.old.rules = ap (map rule_seen) c.deref_mut.ensures.value
    ∙ (c.into_vec-rules.ensures ∙ c.take_digests-digests.ensures.same) in
    subst (λ (rs : List RuleForm). All (CanPlaceRule (cut c.index.result.now.body.start c.index.result.now.body.end c.args.size))
    (take c.args.rule rs))
    (sym rules) a.0.before

pub move_around-requires-clause-head : goal.move_around-requires-clause-head
move_around-requires-clause-head c =
    let a = asked c.args.old c.args.rule c.args.properties.items c.args.size c.into_vec-rules.result.items c.index.result.now
    (c.into_vec-rules.ensures ∙ c.take_digests-digests.ensures.same) c.index.ensures c.requires.there c.requires.whole in
    let rules : map rule_seen c.deref_mut.result.now ≡ c.args.old.rules = ap (map rule_seen) c.deref_mut.ensures.value
    ∙ (c.into_vec-rules.ensures ∙ c.take_digests-digests.ensures.same) in
    subst (λ o. IfSome o (CanPlaceHead (cut c.index.result.now.body.start c.index.result.now.body.end c.args.size)))
    (sym (ap (λ (rs : List RuleForm). slice_get rs c.args.rule) rules ∙ a.1)) a.0.head

pub move_around-requires-clause-behind : goal.move_around-requires-clause-behind
move_around-requires-clause-behind c =
    let a = asked c.args.old c.args.rule c.args.properties.items c.args.size c.into_vec-rules.result.items c.index.result.now
    (c.into_vec-rules.ensures ∙ c.take_digests-digests.ensures.same) c.index.ensures c.requires.there c.requires.whole in
    let rules : map rule_seen c.deref_mut.result.now ≡ c.args.old.rules = ap (map rule_seen) c.deref_mut.ensures.value
    ∙ (c.into_vec-rules.ensures ∙ c.take_digests-digests.ensures.same) in
    let next : suc c.args.rule ≡ c.args.rule + 1 = omega arith in
    subst (λ (rs : List RuleForm). All (CanPlaceRule (cut c.index.result.now.body.start c.index.result.now.body.end c.args.size))
    (drop (c.args.rule + 1) rs))
    (sym rules) (subst (λ (k : ℕ). All (CanPlaceRule (cut c.index.result.now.body.start c.index.result.now.body.end c.args.size))
    (drop k c.args.old.rules)) next a.0.behind)

pub move_around-requires-clause-within : goal.move_around-requires-clause-within
move_around-requires-clause-within c =
    let a = asked c.args.old c.args.rule c.args.properties.items c.args.size c.into_vec-rules.result.items c.index.result.now
    (c.into_vec-rules.ensures ∙ c.take_digests-digests.ensures.same) c.index.ensures c.requires.there c.requires.whole in
    subst (All (IsPropertyWithin c.args.size)) (sym c.new.ensures) a.0.properties

pub move_around-requires-clause-fits : goal.move_around-requires-clause-fits
move_around-requires-clause-fits c =
    let a = asked c.args.old c.args.rule c.args.properties.items c.args.size c.into_vec-rules.result.items c.index.result.now
    (c.into_vec-rules.ensures ∙ c.take_digests-digests.ensures.same) c.index.ensures c.requires.there c.requires.whole in
    a.0.fits

pub move_places-requires : goal.move_places-requires
move_places-requires c =
    let a = asked c.args.old c.args.rule c.args.properties.items c.args.size c.into_vec-rules.result.items c.index.result.now
    (c.into_vec-rules.ensures ∙ c.take_digests-digests.ensures.same) c.index.ensures c.requires.there c.requires.whole in
    subst (All (CanPlace (cut c.index.result.now.body.start c.index.result.now.body.end c.args.size)))
    (sym (c.deref_mut-2.ensures.value ∙ c.into_vec-places.ensures)) a.0.places

pub move_behind-requires : goal.move_behind-requires
move_behind-requires c =
    let a = asked c.args.old c.args.rule c.args.properties.items c.args.size c.into_vec-rules.result.items c.index.result.now
    (c.into_vec-rules.ensures ∙ c.take_digests-digests.ensures.same) c.index.ensures c.requires.there c.requires.whole in
    a.0.media

pub with_digests-requires : goal.with_digests-requires
with_digests-requires c =
    let rules : map rule_seen c.deref_mut.result.now ≡ c.args.old.rules = ap (map rule_seen) c.deref_mut.ensures.value
    ∙ (c.into_vec-rules.ensures ∙ c.take_digests-digests.ensures.same) in
    let gap = cut c.index.result.now.body.start c.index.result.now.body.end c.args.size in
    let kept : length c.move_around.new.rules ≡ length c.deref_mut.result.now = c.move_around.auto.rules in
    let back = lent c.into_vec-rules.result.len c.move_around.new.rules c.into_vec-rules.result.items (kept ∙ c.deref_mut.ensures.len)
    (kept ∙ ap length c.deref_mut.ensures.value) in
    let made : moved_rules gap c.args.properties.items c.args.rule c.args.old.rules ≡ map rule_seen _ =
    sym (ap (map rule_seen) back ∙ c.move_around.ensures ∙ (λ i. moved_rules gap (c.new.ensures i) c.args.rule (rules i))) in
    subst (AreDigests c.take_digests-digests.result.items) made
    (digests-moved gap c.args.properties.items c.args.rule c.take_digests-digests.result.items c.args.old.rules
    c.take_digests-digests.ensures.digests)

pub returns : goal.returns
returns c =
    let a = asked c.args.old c.args.rule c.args.properties.items c.args.size c.into_vec-rules.result.items c.index.result.now
    (c.into_vec-rules.ensures ∙ c.take_digests-digests.ensures.same) c.index.ensures c.requires.there c.requires.whole in
    let rules : map rule_seen c.deref_mut.result.now ≡ c.args.old.rules = ap (map rule_seen) c.deref_mut.ensures.value
    ∙ (c.into_vec-rules.ensures ∙ c.take_digests-digests.ensures.same) in
    let places : c.deref_mut-2.result.now ≡ c.args.old.places = c.deref_mut-2.ensures.value ∙ c.into_vec-places.ensures in
    let gap = cut c.index.result.now.body.start c.index.result.now.body.end c.args.size in
    let kept : length c.move_around.new.rules ≡ length c.deref_mut.result.now = c.move_around.auto.rules in
    let kept2 : length c.move_places.new.places ≡ length c.deref_mut-2.result.now = c.move_places.auto.places in
    let len : length c.deref_mut.result.now ≡ c.into_vec-rules.result.len = c.deref_mut.ensures.len in
    let len2 : length c.deref_mut-2.result.now ≡ c.into_vec-places.result.len = c.deref_mut-2.ensures.len in
    let back = lent c.into_vec-rules.result.len c.move_around.new.rules c.into_vec-rules.result.items (kept ∙ len)
    (kept ∙ ap length c.deref_mut.ensures.value) in
    let back2 = lent c.into_vec-places.result.len c.move_places.new.places c.into_vec-places.result.items (kept2 ∙ len2)
    (kept2 ∙ ap length c.deref_mut-2.ensures.value) in
    let r : c.with_digests.result ≡ moved_rules gap c.args.properties.items c.args.rule c.args.old.rules =
    c.with_digests.ensures ∙ ap (map rule_seen) back ∙ c.move_around.ensures
    ∙ (λ i. moved_rules gap (c.new.ensures i) c.args.rule (rules i)) in
    let p : c.new-2.result ≡ map (moved_place gap) c.args.old.places =
    c.new-2.ensures ∙ back2 ∙ c.move_places.ensures ∙ ap (map (moved_place gap)) places in
    let m = c.move_behind.ensures.moved in
    record {
      moved = (λ i. record { rules = r i; places = p i; media = m i })
          ∙ ap (moved_by c.args.old c.args.rule c.args.properties.items c.args.size) (sym a.1);
    }
