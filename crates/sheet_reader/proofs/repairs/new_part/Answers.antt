use Rattle.std.proofs.Common.{◌≡◌, ◌+◌, ◌≤◌, ℕ, All, List, length, map, drop, refl, ap, sym, subst, ◌∙◌, arith}
use Rattle.std.specs.List.Sorted.{IsNonDecreasing}
use Rattle.std.proofs.lemmas.List.{length-map}
use Rattle.sheet_reader.specs.declared.sheet.MediaRule.{MediaRule}
use Rattle.sheet_reader.specs.Forms.{RuleForm, rule_seen}
use Rattle.sheet_reader.specs.Joins.{behind_rule, behind_media}
use Rattle.sheet_reader.specs.Repairs.{IsShareOf, body_starts, prelude_ends}
use Rattle.sheet_reader.proofs.OrderForms.{bodies_order, order_by}
use Rattle.sheet_reader.proofs.RepairLaw.{share_within}
use Rattle.sheet_reader.proofs.RepairMoves.{share_seen, all_behind}
use Rattle.sheet_reader.proofs.repairs.new_part.Goals as goal

pub raised_places-requires-clause-within : goal.raised_places-requires-clause-within
raised_places-requires-clause-within c =
    subst (All (λ (place : ℕ). place ≤ c.args.size)) (sym (c.but_first.ensures ∙ ap (drop 1) c.as_slice.ensures))
    (all_behind c.args.size c.args.own.places c.requires.places)

pub share_of_rules-rule_share-requires : goal.share_of_rules-rule_share-requires
share_of_rules-rule_share-requires c =
    bodies_order c.as_slice-rules.result.now c.args.old.now.rules c.as_slice-rules.ensures c.requires.sorted.rules

pub share_of_places-place_share-requires : goal.share_of_places-place_share-requires
share_of_places-place_share-requires c = subst IsNonDecreasing (sym c.as_slice-places.ensures) c.requires.sorted.places

pub share_of_media-media_share-requires : goal.share_of_media-media_share-requires
share_of_media-media_share-requires c =
    order_by (λ (m : MediaRule). m.prelude.end) c.as_slice-media.result.now
    (subst (λ (ms : List MediaRule). IsNonDecreasing (prelude_ends ms)) (sym c.as_slice-media.ensures) c.requires.sorted.media)

pub returns : goal.returns
returns c =
    let stretch = c.args.stretch in
    let s = c.args.old.now in
    let own_media = c.as_slice-own_media.ensures in
    let rules = c.as_slice-rules.ensures in
    let media = c.as_slice-media.ensures in
    let places = c.as_slice-places.ensures in
    let rule_share : IsShareOf (body_starts s.rules) stretch c.share_of_rules-rule_share.result =
    share_seen c.as_slice-rules.result.now s.rules stretch c.share_of_rules-rule_share.result
    rules c.share_of_rules-rule_share.ensures.share in
    let place_share : IsShareOf s.places stretch c.share_of_places-place_share.result =
    subst (λ (xs : List ℕ). IsShareOf xs stretch c.share_of_places-place_share.result) places c.share_of_places-place_share.ensures.share in
    let media_share : IsShareOf (prelude_ends s.media) stretch c.share_of_media-media_share.result =
    subst (λ (ms : List MediaRule). IsShareOf (prelude_ends ms) stretch c.share_of_media-media_share.result) media
    c.share_of_media-media_share.ensures.share in
    let rules_in = share_within (body_starts s.rules) stretch c.share_of_rules-rule_share.result c.requires.order rule_share in
    let places_in = share_within s.places stretch c.share_of_places-place_share.result c.requires.order place_share in
    let media_in = share_within (prelude_ends s.media) stretch c.share_of_media-media_share.result c.requires.order media_share in
    let body_size = length-map s.rules (λ (r : RuleForm). r.body.start) in
    let prelude_size = length-map s.media (λ (m : MediaRule). m.prelude.end) in
    let rule_size = ap (λ (rs : List RuleForm). length rs) rules in
    let seen_size = length-map c.as_slice-rules.result.now rule_seen in
    let place_size = ap (λ (xs : List ℕ). length xs) places in
    let media_size = ap (λ (ms : List MediaRule). length ms) media in
    record {
      start = refl;
      end = refl;
      size = refl;
      rule_share = rule_share;
      place_share = place_share;
      media_share = media_share;
      rules = c.in_ok-new_rules.ensures
          ∙ ap (map (behind_rule stretch.start c.share_of_media-media_share.result.before)) c.into_vec.ensures;
      places = c.in_ok-new_places.ensures
          ∙ ap (map (λ place. stretch.start + place)) (c.but_first.ensures ∙ ap (drop 1) c.as_slice.ensures);
      media = c.in_ok-new_media.ensures
          ∙ ap (map (behind_media stretch.start c.share_of_media-media_share.result.before)) own_media;
      rule_room = record {
        front = omega (
          arith,
          c.in_ok-with_capacity.ensures.capacity,
          c.with_reserve.ensures,
          rule_size,
          seen_size,
          body_size,
          rules_in.order,
          rules_in.inside,
        );
        back = omega (arith, c.in_ok-with_capacity-2.ensures.capacity, rule_size, seen_size, body_size, rules_in.inside);
      };
      place_room = record {
        front = omega (
          arith,
          c.in_ok-with_capacity-3.ensures.capacity,
          c.with_reserve-2.ensures,
          place_size,
          places_in.order,
          places_in.inside,
        );
        back = omega (arith, c.in_ok-with_capacity-4.ensures.capacity, place_size, places_in.inside);
      };
      media_room = record {
        front = omega (
          arith,
          c.in_ok-with_capacity-5.ensures.capacity,
          c.with_reserve-3.ensures,
          media_size,
          prelude_size,
          media_in.order,
          media_in.inside,
        );
        back = omega (arith, c.in_ok-with_capacity-6.ensures.capacity, media_size, prelude_size, media_in.inside);
      };
      empty = record {
        rules = (c.in_ok-with_capacity.ensures.items, c.in_ok-with_capacity-2.ensures.items);
        places = (c.in_ok-with_capacity-3.ensures.items, c.in_ok-with_capacity-4.ensures.items);
        media = (c.in_ok-with_capacity-5.ensures.items, c.in_ok-with_capacity-6.ensures.items);
      };
    }
