-- The plan for a part that is read anew leads to the reading of the new text.
use Rattle.std.proofs.Common.{◌≡◌, ◌⊎◌, inl, inr, ℕ, suc, ◌+◌, ◌-◌, ◌<◌, ◌≤◌, Bool, true, false, List, [], ◌∷◌, ◌++◌, map}
use Rattle.std.proofs.Common.{take, drop}
use Rattle.std.proofs.Common.{length, All, Option, Some, None, refl, sym, ap, subst, ◌∙◌, length-append, arith, nat_eq}
use Rattle.std.specs.Prelude.{nat_le, nat_lt, slice_get, slice_range, IfSome}
use Rattle.std.proofs.lemmas.Bool.{eqb-true}
use Rattle.std.proofs.lemmas.List.{length-map, length-take-le, length-drop}
use Rattle.std.proofs.lemmas.List.Elements.{All-nil, All-cons, All-head, All-tail}
use Rattle.std.proofs.lemmas.Bool.Decides.{nat_tests}
use Rattle.node_tree.specs.Numbers.{number_limit}
use Rattle.css_tokens.specs.declared.token.Range.{Range}
use Rattle.selectors.specs.Moves.{Cut, cut, moved_place, CanPlace}
use Rattle.sheet_reader.specs.declared.repairs.NewPart.{NewPart}
use Rattle.sheet_reader.specs.declared.repairs.Share.{Share}
use Rattle.sheet_reader.specs.declared.rereads.Rereading.TheVariants.{Part}
use Rattle.sheet_reader.specs.declared.sheet.MediaRule.{MediaRule}
use Rattle.sheet_reader.specs.declared.sheet.Sheet.{Sheet}
use Rattle.sheet_reader.specs.declared.sheet.StyleRule.{StyleRule}
use Rattle.sheet_reader.specs.Around.{IsBelow, AreBelow}
use Rattle.sheet_reader.specs.Forms.{RuleForm, rule_seen}
use Rattle.sheet_reader.specs.Joins.{is_shut_text, behind_rule, behind_media}
use Rattle.sheet_reader.specs.Moves.{IsWithin, replaced}
use Rattle.sheet_reader.specs.Repairs.{shared, moved_number, renumbered_rule, renumbered_media, part_cut, repaired, CanRenumberRule}
use Rattle.sheet_reader.specs.Repairs.{CanRenumberMedia, CanRepair, IsRuleWithin, IsShutPlace, IsStretch, StandsAlone, IsNewPart}
use Rattle.sheet_reader.specs.Rereads.{LeadsTo}
use Rattle.sheet_reader.specs.Sheets.{sheet_of}
use Rattle.sheet_reader.proofs.AroundForms.{sheet_there}
use Rattle.sheet_reader.proofs.RepairSeams.{Between, between, ends_there, new_between, empty_rules, empty_media, empty_places}
use Rattle.sheet_reader.proofs.RepairBounds.{AreFrom, all_within, medias_within, places_from}
use Rattle.sheet_reader.proofs.RepairLaw.{rules_can, media_can, places_can, IsSecondOf, shared_is, share_fits, places_of, media_count}
use Rattle.sheet_reader.proofs.RepairLaw.{numbers_of, far_rule, far_media, far_places, cut_at, three_rules, three_media, three_places}
use Rattle.sheet_reader.proofs.RepairLaw.{rules_second, media_second, places_second, far_rules_go, far_media_go, far_places_go}

-- ---- media rules around others are below their number
below_wide : (n d : ℕ) (o : Option ℕ) → n ≤ d → IsBelow n o → IsBelow d o
below_wide n d None fits below = tt
below_wide n d (Some x) fits below = let less : x < n = below in omega (arith, fits, less)

below_all : (n d : ℕ) (ms : List MediaRule) → n + length ms ≤ d → AreBelow n ms → All (λ m. IsBelow d m.inside) ms
below_all n d [] fits below = All-nil (λ (m : MediaRule). IsBelow d m.inside)
below_all n d (m ∷ ms) fits below =
    All-cons (λ (m : MediaRule). IsBelow d m.inside) m ms (below_wide n d m.inside (omega (arith, fits)) below.0)
    (below_all (suc n) d ms (omega (arith, fits)) below.1)

media_below : (text : List ℕ) → All (λ m. IsBelow (length (sheet_of text).media) m.inside) (sheet_of text).media
media_below text = below_all 0 (length (sheet_of text).media) (sheet_of text).media (omega arith) (sheet_there text).media

no_length : {X : Type 0} (xs : List X) → length xs ≡ 0 → xs ≡ []
no_length [] e = refl
no_length (x ∷ xs) e = absurd (omega (arith, e))

-- ---- the part
module _ (front own new behind : List ℕ) (front_shut : is_shut_text front ≡ true) (own_shut : (is_shut_text own ≡ true) ⊎ (behind ≡ []))
    (some : (0 < length front + length own) ⊎ (behind ≡ [])) (new_shut : (is_shut_text new ≡ true) ⊎ (behind ≡ []))
    (short : length front + length new + length behind < number_limit)
    (stretch : Range) (part : NewPart) (is : IsNewPart (sheet_of (front ++ (own ++ behind))) stretch (sheet_of new) (length new) part)
    (start : length front ≡ stretch.start) (end : length front + length own ≡ stretch.end)
  where
    rules_are : IsSecondOf (sheet_of front).rules (map (behind_rule (length front) (media_count front)) (sheet_of own).rules)
        (map (far_rule front own) (sheet_of behind).rules) (sheet_of (front ++ (own ++ behind))).rules part.rule_share
    rules_are = rules_second front own behind front_shut own_shut stretch start end part.rule_share is.rule_share

    media_are : IsSecondOf (sheet_of front).media (map (behind_media (length front) (media_count front)) (sheet_of own).media)
        (map (far_media front own) (sheet_of behind).media) (sheet_of (front ++ (own ++ behind))).media part.media_share
    media_are = media_second front own behind front_shut own_shut stretch start end part.media_share is.media_share

    places_are : IsSecondOf (0 ∷ places_of front) (map (λ x. length front + x) (places_of own)) (far_places front own (places_of behind))
        (sheet_of (front ++ (own ++ behind))).places part.place_share
    places_are = places_second front own behind front_shut own_shut stretch start end part.place_share is.place_share

    cuts : cut_at front own new ≡ part_cut part
    cuts = λ i. cut 0 ((end ∙ sym is.end) i) ((start ∙ sym is.start) i + sym is.size i)

    -- its share of the media rules
    numbers : numbers_of front own ≡ part.media_share
    numbers =
        let size = length-map (sheet_of own).media (behind_media (length front) (media_count front)) in
        let before : media_count front ≡ part.media_share.before = sym media_are.before in
        let to : media_count front + media_count own ≡ part.media_share.to = omega (arith, media_are.to, size) in
        λ i. record { before = before i; to = to i }

    number_before : part.media_share.before ≡ media_count front
    number_before = media_are.before

    new_count : media_count new ≡ length part.media.items
    new_count =
        let size = length-map (sheet_of new).media (behind_media stretch.start part.media_share.before) in
        omega (arith, ap (λ (ms : List MediaRule). length ms) is.media, size)

    pub part_is : repaired (sheet_of (front ++ (own ++ behind))) part ≡ sheet_of (front ++ (new ++ behind))
    part_is =
        let f = moved_place (part_cut part) in
        let g = moved_number part.media_share (length part.media.items) in
        let new_rules : map rule_seen part.rules.items
        ≡ map (behind_rule (length front) (media_count front)) (sheet_of new).rules =
        is.rules ∙ (λ i. map (behind_rule (sym start i) (number_before i)) (sheet_of new).rules) in
        let new_media : part.media.items ≡ map (behind_media (length front) (media_count front)) (sheet_of new).media =
        is.media ∙ (λ i. map (behind_media (sym start i) (number_before i)) (sheet_of new).media) in
        let new_places : part.places.items ≡ map (λ x. length front + x) (places_of new) =
        is.places ∙ ap (λ (x : ℕ). map (λ y. x + y) (places_of new)) (sym start) in
        let far_rules : map (renumbered_rule f g) (map (far_rule front own) (sheet_of behind).rules)
        ≡ map (far_rule front new) (sheet_of behind).rules =
        (λ i. map (renumbered_rule (moved_place (sym cuts i)) (moved_number (sym numbers i) (sym new_count i)))
        (map (far_rule front own) (sheet_of behind).rules)) ∙ sym (far_rules_go front own new behind some) in
        let far_media_is : map (renumbered_media f g) (map (far_media front own) (sheet_of behind).media)
        ≡ map (far_media front new) (sheet_of behind).media =
        (λ i. map (renumbered_media (moved_place (sym cuts i)) (moved_number (sym numbers i) (sym new_count i)))
        (map (far_media front own) (sheet_of behind).media)) ∙ sym (far_media_go front own new behind some) in
        let far_places_is : map f (far_places front own (places_of behind)) ≡ far_places front new (places_of behind) =
        (λ i. map (moved_place (sym cuts i)) (far_places front own (places_of behind))) ∙ sym (far_places_go front own new behind some) in
        let rules = (shared_is (renumbered_rule f g) part.rule_share (map rule_seen part.rules.items) (sheet_of front).rules
        (map (behind_rule (length front) (media_count front)) (sheet_of own).rules) (map (far_rule front own) (sheet_of behind).rules)
        (sheet_of (front ++ (own ++ behind))).rules rules_are).0
        ∙ (λ i. (sheet_of front).rules ++ (new_rules i ++ far_rules i)) ∙ sym (three_rules front new behind front_shut new_shut) in
        let places = (shared_is f part.place_share part.places.items (0 ∷ places_of front) (map (λ x. length front + x) (places_of own))
        (far_places front own (places_of behind)) (sheet_of (front ++ (own ++ behind))).places places_are).0
        ∙ (λ i. (0 ∷ places_of front) ++ (new_places i ++ far_places_is i)) ∙ sym (three_places front new behind front_shut new_shut) in
        let media = (shared_is (renumbered_media f g) part.media_share part.media.items (sheet_of front).media
        (map (behind_media (length front) (media_count front)) (sheet_of own).media) (map (far_media front own) (sheet_of behind).media)
        (sheet_of (front ++ (own ++ behind))).media media_are).0
        ∙ (λ i. (sheet_of front).media ++ (new_media i ++ far_media_is i)) ∙ sym (three_media front new behind front_shut new_shut) in
        λ i. record { rules = rules i; places = places i; media = media i }

    few : media_count front + media_count new + media_count behind < number_limit
    few =
        let all = ap (λ (ms : List MediaRule). length ms) (three_media front own behind front_shut own_shut) in
        let own_media = map (behind_media (length front) (media_count front)) (sheet_of own).media in
        let far = map (far_media front own) (sheet_of behind).media in
        let sum = length-append (sheet_of front).media (own_media ++ far) in
        let sum2 = length-append own_media far in
        let size = length-map (sheet_of behind).media (far_media front own) in
        let room = is.media_room in
        let before = media_are.before in
        let to = media_are.to in
        let own_size = length-map (sheet_of own).media (behind_media (length front) (media_count front)) in
        omega (arith, all, sum, sum2, size, own_size, room.front, before, to, new_count, part.media_room.small)

    rules_there : All (CanRenumberRule (cut_at front own new) (numbers_of front own) (media_count new))
        (map (far_rule front own) (sheet_of behind).rules)
    rules_there =
        let P = CanRenumberRule (cut_at front own new) (numbers_of front own) (media_count new) in
        elim some [
          | inl less ↦ rules_can (length front) (length own) (length new) (media_count front) (media_count own) (media_count new) less
              (length behind) (media_count behind) (sheet_of behind).rules short few (all_within behind) (sheet_there behind).rules
          | inr e ↦
              let gone : (sheet_of behind).rules ≡ [] = ap (λ (t : List ℕ). (sheet_of t).rules) e ∙ empty_rules in
              subst (λ (rs : List RuleForm). All P (map (far_rule front own) rs)) (sym gone) (All-nil P)
        ]

    media_there : All (CanRenumberMedia (cut_at front own new) (numbers_of front own) (media_count new))
        (map (far_media front own) (sheet_of behind).media)
    media_there =
        let P = CanRenumberMedia (cut_at front own new) (numbers_of front own) (media_count new) in
        elim some [
          | inl less ↦ media_can (length front) (length own) (length new) (media_count front) (media_count own) (media_count new) less
              (length behind) (media_count behind) (sheet_of behind).media short few (medias_within behind) (media_below behind)
          | inr e ↦
              let gone : (sheet_of behind).media ≡ [] = ap (λ (t : List ℕ). (sheet_of t).media) e ∙ empty_media in
              subst (λ (ms : List MediaRule). All P (map (far_media front own) ms)) (sym gone) (All-nil P)
        ]

    places_there : All (CanPlace (cut_at front own new)) (far_places front own (places_of behind))
    places_there =
        elim some [
          | inl less ↦ places_can (length front) (length own) (length new) (media_count front) (media_count own) (media_count new) less
              (length behind) (places_of behind) short (places_from behind)
          | inr e ↦
              let gone : places_of behind ≡ [] = ap (λ (t : List ℕ). drop 1 (sheet_of t).places) e ∙ ap (drop 1) empty_places in
              subst (λ (xs : List ℕ). All (CanPlace (cut_at front own new)) (far_places front own xs)) (sym gone)
              (All-nil (CanPlace (cut_at front own new)))
        ]

    pub part_can : CanRepair (sheet_of (front ++ (own ++ behind))) part
    part_can =
        let f = moved_place (part_cut part) in
        let g = moved_number part.media_share (length part.media.items) in
        let left_rules = (shared_is (renumbered_rule f g) part.rule_share [] (sheet_of front).rules
        (map (behind_rule (length front) (media_count front)) (sheet_of own).rules) (map (far_rule front own) (sheet_of behind).rules)
        (sheet_of (front ++ (own ++ behind))).rules rules_are).1 in
        let left_media = (shared_is (renumbered_media f g) part.media_share [] (sheet_of front).media
        (map (behind_media (length front) (media_count front)) (sheet_of own).media) (map (far_media front own) (sheet_of behind).media)
        (sheet_of (front ++ (own ++ behind))).media media_are).1 in
        let left_places = (shared_is f part.place_share [] (0 ∷ places_of front) (map (λ x. length front + x) (places_of own))
        (far_places front own (places_of behind)) (sheet_of (front ++ (own ++ behind))).places places_are).1 in
        let rules_moved : All (CanRenumberRule (part_cut part) part.media_share (length part.media.items))
        (map (far_rule front own) (sheet_of behind).rules) =
        subst (λ (n : ℕ). All (CanRenumberRule (part_cut part) part.media_share n) (map (far_rule front own) (sheet_of behind).rules))
        new_count
        (subst (λ (s : Share). All (CanRenumberRule (part_cut part) s (media_count new))
        (map (far_rule front own) (sheet_of behind).rules)) numbers
        (subst (λ (c : Cut). All (CanRenumberRule c (numbers_of front own) (media_count new))
        (map (far_rule front own) (sheet_of behind).rules)) cuts rules_there)) in
        let media_moved : All (CanRenumberMedia (part_cut part) part.media_share (length part.media.items))
        (map (far_media front own) (sheet_of behind).media) =
        subst (λ (n : ℕ). All (CanRenumberMedia (part_cut part) part.media_share n) (map (far_media front own) (sheet_of behind).media))
        new_count
        (subst (λ (s : Share). All (CanRenumberMedia (part_cut part) s (media_count new))
        (map (far_media front own) (sheet_of behind).media)) numbers
        (subst (λ (c : Cut). All (CanRenumberMedia c (numbers_of front own) (media_count new))
        (map (far_media front own) (sheet_of behind).media)) cuts media_there)) in
        let places_moved : All (CanPlace (part_cut part)) (far_places front own (places_of behind)) =
        subst (λ (c : Cut). All (CanPlace c) (far_places front own (places_of behind))) cuts places_there in
        record {
          rule_share = share_fits part.rule_share (sheet_of front).rules
              (map (behind_rule (length front) (media_count front)) (sheet_of own).rules) (map (far_rule front own) (sheet_of behind).rules)
              (sheet_of (front ++ (own ++ behind))).rules rules_are;
          place_share = share_fits part.place_share (0 ∷ places_of front) (map (λ x. length front + x) (places_of own))
              (far_places front own (places_of behind)) (sheet_of (front ++ (own ++ behind))).places places_are;
          media_share = share_fits part.media_share (sheet_of front).media
              (map (behind_media (length front) (media_count front)) (sheet_of own).media)
              (map (far_media front own) (sheet_of behind).media)
              (sheet_of (front ++ (own ++ behind))).media media_are;
          rule_room = is.rule_room;
          place_room = is.place_room;
          media_room = is.media_room;
          empty = is.empty;
          fits = omega (arith, is.start, is.size, start, short);
          rules = subst (All (CanRenumberRule (part_cut part) part.media_share (length part.media.items))) (sym left_rules) rules_moved;
          places = subst (All (CanPlace (part_cut part))) (sym left_places) places_moved;
          media = subst (All (CanRenumberMedia (part_cut part) part.media_share (length part.media.items))) (sym left_media) media_moved;
        }

-- the plan that was made of what the code tests
pub part_leads : (text put new_text own_text : List ℕ) (old : Sheet) (range stretch : Range) (own : Sheet) (new : NewPart) (stop : ℕ)
    → old ≡ sheet_of text → new_text ≡ replaced text range put → IsStretch text old.places range stretch
    → stop ≡ stretch.end - (range.end - range.start) + length put → own_text ≡ slice_range new_text stretch.start stop
    → own ≡ sheet_of own_text → StandsAlone own_text own.places (nat_eq stretch.end (length text))
    → IsNewPart old stretch own (length own_text) new → length new_text < number_limit → LeadsTo (sheet_of new_text) old (Part new)
part_leads text put new_text own_text old range stretch own new stop read replaces st stop_is own_is reads alone is short =
    subst (λ (s : Sheet). LeadsTo (sheet_of new_text) s (Part new)) (sym read) (by there)
  where
    seams : IsStretch text (sheet_of text).places range stretch
    seams = subst (λ (s : Sheet). IsStretch text s.places range stretch) read st

    there : Between text stretch.start stretch.end
    there = between text stretch.start stretch.end (omega (arith, st.starts, st.order, st.ends)) seams.front seams.back

    by : Between text stretch.start stretch.end → LeadsTo (sheet_of new_text) (sheet_of text) (Part new)
    by b =
        let old_is = ap (λ (t : List ℕ). replaced t range put) b.is in
        let spelled : new_text ≡ b.front ++ (slice_range new_text (length b.front) stop ++ b.behind) =
        new_between b.front b.own b.behind put new_text range (replaces ∙ old_is)
        (omega (arith, b.size, st.starts)) st.order (omega (arith, st.ends, b.size, b.stop)) stop
        (omega (arith, stop_is, b.size, b.stop)) in
        let part_is_text : slice_range new_text (length b.front) stop ≡ own_text =
        ap (λ (x : ℕ). slice_range new_text x stop) b.size ∙ sym own_is in
        let new_is : new_text ≡ b.front ++ (own_text ++ b.behind) =
        spelled ∙ ap (λ (x : List ℕ). b.front ++ (x ++ b.behind)) part_is_text in
        let sheet : StandsAlone own_text (sheet_of own_text).places (nat_eq stretch.end (length text)) =
        subst (λ (s : Sheet). StandsAlone own_text s.places (nat_eq stretch.end (length text))) reads alone in
        let total = ap (λ (x : List ℕ). length x) b.is ∙ length-append b.front (b.own ++ b.behind) in
        let total2 = length-append b.own b.behind in
        let shut : (is_shut_text own_text ≡ true) ⊎ (b.behind ≡ []) = elim sheet [
          | inl last ↦ inr (no_length b.behind
              (let e = eqb-true stretch.end (length text) last in omega (arith, e, total, total2, b.size, b.stop)))
          | inr seam ↦ inl (ends_there own_text seam)
        ] in
        let sizes = ap (λ (x : List ℕ). length x) new_is ∙ length-append b.front (own_text ++ b.behind) in
        let sizes2 = length-append own_text b.behind in
        let room : length b.front + length own_text + length b.behind < number_limit = omega (arith, sizes, sizes2, short) in
        let made : IsNewPart (sheet_of (b.front ++ (b.own ++ b.behind))) stretch (sheet_of own_text) (length own_text) new =
        subst (λ (t : List ℕ). IsNewPart (sheet_of t) stretch (sheet_of own_text) (length own_text) new) b.is
        (subst (λ (s : Sheet). IsNewPart (sheet_of text) stretch s (length own_text) new) reads
        (subst (λ (s : Sheet). IsNewPart s stretch own (length own_text) new) read is)) in
        let end : length b.front + length b.own ≡ stretch.end = omega (arith, b.size, b.stop) in
        let can = part_can b.front b.own own_text b.behind b.front_shut b.own_shut b.some shut room stretch new made b.size end in
        let same = part_is b.front b.own own_text b.behind b.front_shut b.own_shut b.some shut room stretch new made b.size end in
        record {
          can = subst (λ (t : List ℕ). CanRepair (sheet_of t) new) (sym b.is) can;
          is = ap (λ (t : List ℕ). repaired (sheet_of t) new) b.is ∙ same ∙ sym (ap sheet_of new_is);
        }

-- ---- what the code asks of a part

-- a replaced text has no more bytes than both texts together
pub new_length : (text put new_text : List ℕ) (range : Range) → new_text ≡ replaced text range put → range.start ≤ range.end
    → range.end ≤ length text → length new_text ≡ range.start + length put + (length text - range.end)
new_length text put new_text range e order fits =
    let size = ap (λ (x : List ℕ). length x) e in
    let one = length-append (take range.start text) (put ++ drop range.end text) in
    let two = length-append put (drop range.end text) in
    let front = length-take-le range.start text (omega (arith, order, fits)) in
    let back = length-drop range.end text in
    omega (arith, size, one, two, front, back)

pub new_short : (text put new_text : List ℕ) (range : Range) → new_text ≡ replaced text range put → range.start ≤ range.end
    → range.end ≤ length text → nat_lt (length text + length put) (number_limit - 1) ≡ true → length new_text < number_limit
new_short text put new_text range e order fits short =
    let size = new_length text put new_text range e order fits in
    let small : length text + length put < number_limit = less (length text + length put) short in
    omega (arith, size, small, order, fits)
  where
    less : (a : ℕ) → nat_lt a (number_limit - 1) ≡ true → a < number_limit
    less a e = grind (arith, nat_tests, e)

-- what a text of its own says
pub record OwnBounds (n : ℕ) (own : Sheet) : Type 0 where
  pub rules : All (IsRuleWithin n) own.rules
  pub places : All (λ place. place ≤ n) own.places
  pub media : All (λ m. IsWithin n m.prelude) own.media
  pub around : All (λ r. IsBelow (length own.media) r.media) own.rules
  pub inside : All (λ m. IsBelow (length own.media) m.inside) own.media

pub own_bounds : (own_text : List ℕ) (own : Sheet) → own ≡ sheet_of own_text → OwnBounds (length own_text) own
own_bounds own_text own reads = subst (OwnBounds (length own_text)) (sym reads) (record {
  rules = all_within own_text;
  places = All-cons (λ (place : ℕ). place ≤ length own_text) 0 (places_of own_text) (omega arith)
      (each (places_of own_text) (places_from own_text));
  media = medias_within own_text;
  around = (sheet_there own_text).rules;
  inside = media_below own_text;
})
  where
    each : (xs : List ℕ) → AreFrom 0 (length own_text) xs → All (λ place. place ≤ length own_text) xs
    each [] all = All-nil (λ (place : ℕ). place ≤ length own_text)
    each (x ∷ xs) all = All-cons (λ (place : ℕ). place ≤ length own_text) x xs all.1 (each xs all.2)
