-- What stands before a cut is in the new text what it is in the old one.
use Rattle.std.proofs.Common.{◌≡◌, ℕ, ◌≤◌, List, [], ◌∷◌, map, Option, Some, sym, ap, subst, ◌∙◌}
use Rattle.std.specs.Prelude.{option_map}
use Rattle.std.proofs.lemmas.List.{append-nil}
use Rattle.selectors.specs.Moves.{Cut, moved_place}
use Rattle.sheet_reader.specs.Parts.{block, PartForm, at_rule, part_pieces}
use Rattle.sheet_reader.specs.Layout.{MediaForm, media_form, media_in, Laid, AreLaid}
use Rattle.sheet_reader.specs.Moves.{placed_media, placed_rule}
use Rattle.sheet_reader.specs.Sheets.{rules_in, places_in}
use Rattle.sheet_reader.proofs.LaidMoves.{laid_in, laid_again, stays, token_kept, tokens_kept, part_kept, parts_kept, laid_kept}
use Rattle.sheet_reader.proofs.Raised.{raised_laid, raised_media, flat}
use Rattle.sheet_reader.proofs.ReadMoves.{AllTokens, LaidIn, LaidMoved, form_in, form_same, rules_same, media_same, places_same}
use Rattle.sheet_reader.proofs.UsableForms.{media_is}
use Rattle.sheet_reader.proofs.WordMoves.{SamePart}

-- places before the cut
pub keep : (c : Cut) (x : ℕ) → 0 ≤ x → x ≤ c.start → moved_place c x ≡ x
keep c x a b = stays c x b

module _ (text other : List ℕ) (c : Cut) (same : SamePart text other (moved_place c) 0 c.start) where
  -- what is laid out there says the same rules and media rules
  pub front_rules : (front : List Laid) → LaidIn 0 c.start front → LaidMoved text other (moved_place c) front
      → rules_in other front ≡ map (placed_rule (moved_place c)) (rules_in text front)
  front_rules front all moved =
      sym (ap (rules_in other) (laid_kept (moved_place c) 0 c.start (keep c) front all))
      ∙ rules_same text other (moved_place c) 0 c.start same front all moved

  pub front_media : (front : List Laid) → LaidIn 0 c.start front
      → media_in other front ≡ map (placed_media (moved_place c)) (media_in text front)
  front_media front all =
      sym (ap (media_in other) (laid_kept (moved_place c) 0 c.start (keep c) front all))
      ∙ media_same text other (moved_place c) 0 c.start same front all

  -- a part there ends at the same place, if it ends at one
  pub front_places : (p : PartForm) → AllTokens 0 c.start (part_pieces p)
      → places_in other (p ∷ []) ≡ map (moved_place c) (places_in text (p ∷ []))
  front_places p all =
      let both = subst (AllTokens 0 c.start) (sym (append-nil (part_pieces p))) all in
      sym (ap (places_in other) (parts_kept (moved_place c) 0 c.start (keep c) (p ∷ []) both))
      ∙ places_same text other (moved_place c) 0 c.start same (p ∷ []) both

  -- and is the same media rule, if it is one
  pub form_kept : (p : PartForm) → AllTokens 0 c.start (part_pieces p)
      → media_form other p ≡ option_map (raised_media (moved_place c)) (media_form text p)
  form_kept p all =
      sym (ap (media_form other) (part_kept (moved_place c) 0 c.start (keep c) p all))
      ∙ form_same text other (moved_place c) 0 c.start same p all

  pub media_kept : (p : PartForm) (m : MediaForm) → media_form text p ≡ Some m → AllTokens 0 c.start (part_pieces p)
      → raised_media (moved_place c) m ≡ m
  media_kept p m e all =
      let i = media_is text p m e in
      let tokens : AllTokens 0 c.start (part_pieces (at_rule m.keyword m.prelude (block i.first m.inside i.close))) =
      subst (λ (x : PartForm). AllTokens 0 c.start (part_pieces x)) i.is all in
      let both = form_in text 0 c.start p m e all in
      let a = token_kept (moved_place c) 0 c.start (keep c) m.keyword (tokens.0, tt) in
      let b = tokens_kept (moved_place c) 0 c.start (keep c) m.prelude both.0 in
      let d = tokens_kept (moved_place c) 0 c.start (keep c) m.inside both.1 in
      λ k. record { keyword = a k; prelude = b k; inside = d k }

  -- the laying out of what stays
  pub laid_stays : (around : Option ℕ) (k : ℕ) (ps : List PartForm) (ls : List Laid) → AreLaid text around k ps ls
      → AllTokens 0 c.start (flat ps) → AreLaid other around k ps ls
  laid_stays around k ps ls are all =
      subst (AreLaid other around k ps) (laid_kept (moved_place c) 0 c.start (keep c) ls (laid_in 0 c.start text around k ps ls are all))
      (subst (λ (qs : List PartForm). AreLaid other around k qs (map (raised_laid (moved_place c)) ls))
      (parts_kept (moved_place c) 0 c.start (keep c) ps all)
      (laid_again text other (moved_place c) 0 c.start same around k ps ls are all))
