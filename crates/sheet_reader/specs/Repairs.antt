-- What a reading becomes where a part of the sheet, between two ends of parts at top level, is read anew.
use Rattle.std.specs.Prelude.{◌≡◌, ◌⊎◌, ℕ, ◌+◌, ◌-◌, ◌<◌, ◌≤◌, nat_le, true, Bool, All, List, [], ◌++◌, IfSome, option_map}
use Rattle.std.specs.Prelude.{map, take, drop, length, slice_get, Some, vec_capacity}
use Rattle.std.specs.List.{prefix_len}
use Rattle.std.specs.List.Sorted.{IsNonDecreasing}
use Rattle.node_tree.specs.Numbers.{number_limit}
use Rattle.css_tokens.specs.declared.token.Range.{Range}
use Rattle.selectors.specs.Moves.{Cut, cut, moved_place, placed_range, placed_selector, CanPlace}
use Rattle.sheet_reader.specs.declared.repairs.NewPart.{NewPart}
use Rattle.sheet_reader.specs.declared.repairs.Share.{Share}
use Rattle.sheet_reader.specs.declared.sheet.MediaRule.{MediaRule}
use Rattle.sheet_reader.specs.declared.sheet.Sheet.{Sheet}
use Rattle.sheet_reader.specs.Forms.{RuleForm, rule_seen}
use Rattle.sheet_reader.specs.Joins.{behind_rule, behind_media}
use Rattle.sheet_reader.specs.Moves.{IsWithin, IsPropertyWithin, placed_property, CanPlaceRule, CanPlaceMedia}

-- ---- what is read anew

-- a list with new elements in the place of a share of it, and what stands behind them moved
abbrev pub shared : {A : Type 0} → (A → A) → Share → List A → List A → List A
shared f share new xs = take share.before xs ++ (new ++ map f (drop share.to xs))

-- All up to the end of a part makes way for all up to the end of the part that is read anew: what stands behind it is moved so, also
-- what stands right behind its end.
abbrev pub part_cut : NewPart → Cut
part_cut new = cut 0 new.end (new.start + new.size)

-- the number of a media rule behind a share of the media rules, where n others stand in the place of the share
abbrev pub moved_number : Share → ℕ → ℕ → ℕ
moved_number share n number = number - share.to + (share.before + n)

-- a style rule with its places moved, and the number of the media rule around it
abbrev pub renumbered_rule : (ℕ → ℕ) → (ℕ → ℕ) → RuleForm → RuleForm
renumbered_rule f g r = record {
  prelude = placed_range f r.prelude;
  selectors = map (placed_selector f) r.selectors;
  body = placed_range f r.body;
  properties = map (placed_property f) r.properties;
  media = option_map g r.media;
}

-- a media rule with its places moved, and the number of the media rule around it
abbrev pub renumbered_media : (ℕ → ℕ) → (ℕ → ℕ) → MediaRule → MediaRule
renumbered_media f g m = record { prelude = placed_range f m.prelude; inside = option_map g m.inside }

-- the sheet with the rules, places and media rules of the part that was read anew, and all else behind it moved
abbrev pub repaired : Sheet → NewPart → Sheet
repaired s new = record {
  rules = shared (renumbered_rule (moved_place (part_cut new)) (moved_number new.media_share (length new.media.items))) new.rule_share
      (map rule_seen new.rules.items) s.rules;
  places = shared (moved_place (part_cut new)) new.place_share new.places.items s.places;
  media = shared (renumbered_media (moved_place (part_cut new)) (moved_number new.media_share (length new.media.items))) new.media_share
      new.media.items s.media;
}

-- the share is one of a list of this length
pub record IsShare (n : ℕ) (share : Share) : Type 0 where
  pub order : share.before ≤ share.to
  pub inside : share.to ≤ n

-- memory is taken for a list of which a share makes way for others
pub record HasRoom (n new room rest : ℕ) (share : Share) : Type 0 where
  pub front : share.before + new + (n - share.to) ≤ room
  pub back : n - share.to ≤ rest

-- the number of a media rule can be moved
pub record CanNumber (share : Share) (n number : ℕ) : Type 0 where
  pub behind : share.to ≤ number
  pub fits : moved_number share n number < number_limit

-- a style rule behind the part can be moved
pub record CanRenumberRule (c : Cut) (share : Share) (n : ℕ) (r : RuleForm) : Type 0 where
  pub places : CanPlaceRule c r
  pub number : IfSome r.media (CanNumber share n)

-- a media rule behind the part can be moved
pub record CanRenumberMedia (c : Cut) (share : Share) (n : ℕ) (m : MediaRule) : Type 0 where
  pub places : CanPlaceMedia c m
  pub number : IfSome m.inside (CanNumber share n)

-- the memory that was taken for a part holds nothing yet
pub record AreEmpty (new : NewPart) : Type 0 where
  pub rules : (new.rule_room.items ≡ []) × (new.rule_rest.items ≡ [])
  pub places : (new.place_room.items ≡ []) × (new.place_rest.items ≡ [])
  pub media : (new.media_room.items ≡ []) × (new.media_rest.items ≡ [])

-- the part can be put in
pub record CanRepair (s : Sheet) (new : NewPart) : Type 0 where
  pub rule_share : IsShare (length s.rules) new.rule_share
  pub place_share : IsShare (length s.places) new.place_share
  pub media_share : IsShare (length s.media) new.media_share
  pub rule_room : HasRoom (length s.rules) (length new.rules.items) (vec_capacity new.rule_room) (vec_capacity new.rule_rest) new.rule_share
  pub place_room : HasRoom (length s.places) (length new.places.items) (vec_capacity new.place_room) (vec_capacity new.place_rest)
      new.place_share
  pub media_room : HasRoom (length s.media) (length new.media.items) (vec_capacity new.media_room) (vec_capacity new.media_rest)
      new.media_share
  pub empty : AreEmpty new
  pub fits : new.start + new.size < number_limit
  pub rules : All (CanRenumberRule (part_cut new) new.media_share (length new.media.items)) (drop new.rule_share.to s.rules)
  pub places : All (CanPlace (part_cut new)) (drop new.place_share.to s.places)
  pub media : All (CanRenumberMedia (part_cut new) new.media_share (length new.media.items)) (drop new.media_share.to s.media)

-- ---- where it stands

-- the end of a part at top level, of which these are the ends, that ends with a `}`
pub record IsShutPlace (text places : List ℕ) (place : ℕ) : Type 0 where
  pub number : ℕ
  pub there : slice_get places number ≡ Some place
  pub some : 0 < place
  pub shut : slice_get text (place - 1) ≡ Some 125

-- the beginning of the text, or such an end
abbrev pub IsSeam : List ℕ → List ℕ → ℕ → Type 0
IsSeam text places place = (place ≡ 0) ⊎ IsShutPlace text places place

-- the end of the text, or such an end
abbrev pub IsSecondSeam : List ℕ → List ℕ → ℕ → Type 0
IsSecondSeam text places place = (place ≡ length text) ⊎ IsShutPlace text places place

-- a stretch of a text between two seams, in which the range stands
pub record IsStretch (text places : List ℕ) (part stretch : Range) : Type 0 where
  pub front : IsSeam text places stretch.start
  pub back : IsSecondSeam text places stretch.end
  pub starts : stretch.start ≤ part.start
  pub order : part.start ≤ part.end
  pub ends : part.end ≤ stretch.end
  pub inside : stretch.end ≤ length text

-- the ranges of a rule end at or before a length
pub record IsRuleWithin (n : ℕ) (r : RuleForm) : Type 0 where
  pub prelude : IsWithin n r.prelude
  pub selectors : All (λ s. IsWithin n s.range) r.selectors
  pub body : IsWithin n r.body
  pub properties : All (IsPropertyWithin n) r.properties

-- a text may stand before others: it is the last part, or ends with the `}` of a part at top level, of which these are the ends
abbrev pub StandsAlone : List ℕ → List ℕ → Bool → Type 0
StandsAlone text places last = (last ≡ true) ⊎ IsShutPlace text places (length text)

-- where the bodies of style rules start
abbrev pub body_starts : List RuleForm → List ℕ
body_starts rs = map (λ r. r.body.start) rs

-- where the preludes of media rules end
abbrev pub prelude_ends : List MediaRule → List ℕ
prelude_ends ms = map (λ m. m.prelude.end) ms

-- what a sheet has stands in the order of the text: its style rules by their bodies, its places, and its media rules by their preludes
pub record IsInOrder (s : Sheet) : Type 0 where
  pub rules : IsNonDecreasing (body_starts s.rules)
  pub places : IsNonDecreasing s.places
  pub media : IsNonDecreasing (prelude_ends s.media)

-- the share of what has these places that a stretch has: behind its start, and not behind its end
pub record IsShareOf (places : List ℕ) (stretch : Range) (share : Share) : Type 0 where
  pub before : share.before ≡ prefix_len (λ place. nat_le place stretch.start) places
  pub to : share.to ≡ prefix_len (λ place. nat_le place stretch.end) places

-- what a part is that became a text of this length, with this reading, where the sheet said s
pub record IsNewPart (s : Sheet) (stretch : Range) (own : Sheet) (n : ℕ) (new : NewPart) : Type 0 where
  pub start : new.start ≡ stretch.start
  pub end : new.end ≡ stretch.end
  pub size : new.size ≡ n
  pub rule_share : IsShareOf (body_starts s.rules) stretch new.rule_share
  pub place_share : IsShareOf s.places stretch new.place_share
  pub media_share : IsShareOf (prelude_ends s.media) stretch new.media_share
  pub rules : map rule_seen new.rules.items ≡ map (behind_rule stretch.start new.media_share.before) own.rules
  pub places : new.places.items ≡ map (λ place. stretch.start + place) (drop 1 own.places)
  pub media : new.media.items ≡ map (behind_media stretch.start new.media_share.before) own.media
  pub rule_room : HasRoom (length s.rules) (length new.rules.items) (vec_capacity new.rule_room) (vec_capacity new.rule_rest) new.rule_share
  pub place_room : HasRoom (length s.places) (length new.places.items) (vec_capacity new.place_room) (vec_capacity new.place_rest)
      new.place_share
  pub media_room : HasRoom (length s.media) (length new.media.items) (vec_capacity new.media_room) (vec_capacity new.media_rest)
      new.media_share
  pub empty : AreEmpty new
