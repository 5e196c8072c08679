-- The way to a part in a sheet, through the media rules around it; and the sheet in which other pieces stand before that part's `{`.
use Rattle.std.proofs.Common.{◌≡◌, ℕ, suc, ◌+◌, Bool, true, cond, List, [], ◌∷◌, ◌++◌, map, length, Option, Some, None, refl, sym, ap}
use Rattle.std.proofs.Common.{subst, ◌∙◌, append_assoc, length-append, arith}
use Rattle.std.specs.Prelude.{option_map, option_to_list}
use Rattle.css_tokens.specs.declared.token.Token.{Token}
use Rattle.css_tokens.specs.declared.token.TokenKind.TheVariants as tokens
use Rattle.selectors.specs.Moves.{Cut, moved_place}
use Rattle.sheet_reader.specs.declared.sheet.MediaRule.{MediaRule}
use Rattle.sheet_reader.specs.Brackets.{stops_at, until}
use Rattle.sheet_reader.specs.Forms.{RuleForm}
use Rattle.sheet_reader.specs.Parts.{block, PartForm, at_rule, part_pieces}
use Rattle.sheet_reader.specs.Layout.{names_media, MediaForm, media_form, media_rule, media_in, Laid, laid, level_of}
use Rattle.sheet_reader.specs.Layout.{AreLaid, part_laid, media_laid}
use Rattle.sheet_reader.specs.Sheets.{closing_place, place_of, rules_in, places_in}
use Rattle.sheet_reader.specs.Grammar.{outside, IsEnding, IsPart, at_rule_part, AreParts, AreNested}
use Rattle.sheet_reader.specs.Moves.{placed_media, placed_rule}
use Rattle.sheet_reader.proofs.ExchangeForms.{reaches}
use Rattle.sheet_reader.proofs.FrameForms.{media_append, media_cons}
use Rattle.sheet_reader.proofs.KeptFronts.{keep, front_rules, front_media, front_places, form_kept, media_kept, laid_stays}
use Rattle.sheet_reader.proofs.LaidMoves.{laid_in, laid_again, flat_raised, flat_again, token_kept, tokens_kept}
use Rattle.sheet_reader.proofs.LaidMoves.{any_moved}
use Rattle.sheet_reader.proofs.MovedParts.{places_cons}
use Rattle.sheet_reader.proofs.OpenForms.{opens, opens_append, values_shut}
use Rattle.sheet_reader.proofs.PartMoves.{AreFlat, flat_of, flat_parts, cons_follows, append_follows, values_rest, part_rest}
use Rattle.sheet_reader.proofs.PartMoves.{to_list_raised, map_append, map_length}
use Rattle.sheet_reader.proofs.Raised.{raised, raised_part, raised_laid, raised_media, flat}
use Rattle.sheet_reader.proofs.ReadMoves.{AllTokens, tokens_split, LaidIn, form_in, names_same, rules_same, media_same}
use Rattle.sheet_reader.proofs.ReadMoves.{media_rule_same, places_same}
use Rattle.sheet_reader.proofs.SpotPaths.{OpensMedia, opens_media, names_media_is}
use Rattle.sheet_reader.proofs.Spots as spots
use Rattle.sheet_reader.proofs.Spots.{Spot, at_spot, cut_is}
use Rattle.sheet_reader.proofs.UsableForms.{rules_append, no_rule}
use Rattle.sheet_reader.proofs.ValueForms.{until_is}
use Rattle.sheet_reader.proofs.WordMoves.{SamePart}
use Rattle.sheet_laws.proofs.HeadBlocks.{part_quiet, Depth, no_block, depth_keeps, deeper, spread, block_again}
use Rattle.sheet_reader.proofs.Names.{Follows, Bracket, Level, block_level, block_or_semicolon, block_end}

-- A part that stands before: one that is no media rule, or a media rule with what is laid out from its block. Before it stand k media
-- rules, and behind it j.
pub data Before (text : List ℕ) : ℕ → ℕ → PartForm → List Laid → Type 0 where
  plain_before : {k : ℕ} (p : PartForm) → media_form text p ≡ None → Before text k k p []
  media_before : {k : ℕ} (p : PartForm) (m : MediaForm) (inner : List PartForm) (within : List Laid) → media_form text p ≡ Some m
      → AreParts block_level inner m.inside → AreLaid text (Some k) (suc k) inner within
      → Before text k (suc k + length (media_in text within)) p within

-- What is sought is the first of these parts, or stands in the block of a media rule among them. Before it stand these rules, these media
-- rules and these pieces; and behind the `{` that belongs to it these further ones.
pub data Way (text : List ℕ) (Here : Option ℕ → ℕ → List PartForm → List Laid → List Token → Type 0)
    : Option ℕ → ℕ → List PartForm → List Laid → List RuleForm → List MediaRule → List Token → List Token → Type 0 where
  here : {around : Option ℕ} {k : ℕ} (ps : List PartForm) (ls : List Laid) (zs : List Token) → Here around k ps ls zs
      → Way text Here around k ps ls [] [] [] zs
  past : {around : Option ℕ} {k j : ℕ} (p : PartForm) (ps : List PartForm) (within ls : List Laid) (rs : List RuleForm)
      (ms : List MediaRule) (xs zs : List Token) → Before text k j p within → Way text Here around j ps ls rs ms xs zs
      → Way text Here around k (p ∷ ps) (laid around p ∷ (within ++ ls)) (rules_in text (laid around p ∷ within) ++ rs)
      (media_in text (laid around p ∷ within) ++ ms) (part_pieces p ++ xs) zs
  into : {around : Option ℕ} {k : ℕ} (m : MediaForm) (first : Token) (last : Option Token) (inner ps : List PartForm)
      (within ls : List Laid) (rs : List RuleForm) (ms : List MediaRule) (xs zs : List Token)
      → media_form text (at_rule m.keyword m.prelude (block first m.inside last)) ≡ Some m → AreParts block_level inner m.inside
      → Way text Here (Some k) (suc k) inner within rs ms xs zs → AreLaid text around (suc k + length (media_in text within)) ps ls
      → Way text Here around k (at_rule m.keyword m.prelude (block first m.inside last) ∷ ps)
      (laid around (at_rule m.keyword m.prelude (block first m.inside last)) ∷ (within ++ ls)) rs (media_rule text around m ∷ ms)
      (m.keyword ∷ (m.prelude ++ first ∷ xs)) (zs ++ (option_to_list last ++ flat ps))

-- the way's end as a place between parts
pub record SpotAt (text : List ℕ) (Here : Option ℕ → ℕ → List PartForm → List Laid → List Token → Type 0) (around : Option ℕ) (k : ℕ)
    (xs : List Token) : Type 0 where
  pub a : Option ℕ
  pub j : ℕ
  pub rs : List RuleForm
  pub spot : Spot text around k a j rs xs
  pub ps : List PartForm
  pub ls : List Laid
  pub zs : List Token
  pub is : Here a j ps ls zs
  pub all : AreFlat (level_of a) ps

module _ (text : List ℕ) (Here : Option ℕ → ℕ → List PartForm → List Laid → List Token → Type 0) (head : List Token) (brace : Token)
    (starts : (around : Option ℕ) (k : ℕ) (ps : List PartForm) (ls : List Laid) (zs : List Token) → Here around k ps ls zs
    → flat ps ≡ head ++ brace ∷ zs)
  where
    -- the pieces before it, its own, its `{` and those behind it
    pub way_flat : (around : Option ℕ) (k : ℕ) (ps : List PartForm) (ls : List Laid) (rs : List RuleForm) (ms : List MediaRule)
        (xs zs : List Token) → Way text Here around k ps ls rs ms xs zs → flat ps ≡ xs ++ (head ++ brace ∷ zs)
    way_flat around k _ _ _ _ _ _ (here ps ls zs h) = starts around k ps ls zs h
    way_flat around k _ _ _ _ _ _ (past {j = j} p ps within ls rs ms xs zs before way) =
        ap (λ (ys : List Token). part_pieces p ++ ys) (way_flat around j ps ls rs ms xs zs way)
        ∙ sym (append_assoc (part_pieces p) xs (head ++ brace ∷ zs))
    way_flat around k _ _ _ _ _ _ (into m first last inner ps within ls rs ms xs zs is own way are) =
        let inner_is = (flat_of block_level inner m.inside own).0 ∙ way_flat (Some k) (suc k) inner within rs ms xs zs way in
        let behind = option_to_list last ++ flat ps in
        sym (cut_is m.keyword first m.prelude xs (head ++ brace ∷ (zs ++ behind)) m.inside (option_to_list last) (flat ps)
        (sym (spread xs head brace zs behind) ∙ ap (λ (ys : List Token). ys ++ behind) (sym inner_is)))

    follows : (around : Option ℕ) (k : ℕ) (ps : List PartForm) (ls : List Laid) (rs : List RuleForm) (ms : List MediaRule)
        (xs zs : List Token) → Way text Here around k ps ls rs ms xs zs → Follows (flat ps)
    follows around k ps ls rs ms xs zs way none =
        append_follows xs (head ++ brace ∷ zs) (append_follows head (brace ∷ zs) (cons_follows brace zs))
        (sym (way_flat around k ps ls rs ms xs zs way) ∙ none)

    -- how far the search goes in the block of a media rule on the way
    block_fits : (k : ℕ) (m : MediaForm) (first : Token) (last : Option Token) (inner : List PartForm) (within : List Laid)
        (rs : List RuleForm) (ms : List MediaRule) (xs zs rest : List Token) → AreParts block_level inner m.inside
        → Way text Here (Some k) (suc k) inner within rs ms xs zs → OpensMedia m first last rest
        → until block_end (xs ++ (head ++ (brace ∷ (zs ++ (option_to_list last ++ rest))))) ≡ length (xs ++ (head ++ brace ∷ zs))
    block_fits k m first last inner within rs ms xs zs rest own way o =
        let inside_is = (flat_of block_level inner m.inside own).0 ∙ way_flat (Some k) (suc k) inner within rs ms xs zs way in
        let behind = option_to_list last ++ rest in
        ap (until block_end) (sym (spread xs head brace zs behind))
        ∙ ap (λ (ys : List Token). until block_end (ys ++ behind)) (sym inside_is) ∙ o.fits
        ∙ ap (λ (ys : List Token). length ys) inside_is

    size_is : (xs zs : List Token) → length (xs ++ (head ++ brace ∷ zs)) ≡ length xs + (length head + suc (length zs))
    size_is xs zs = omega (arith, length-append xs (head ++ brace ∷ zs), length-append head (brace ∷ zs))

    spot_past : (around a : Option ℕ) (k j g : ℕ) (p : PartForm) (within : List Laid) (rs : List RuleForm) (xs : List Token)
        → Before text k j p within → ((rest : List Token) → IsPart (level_of around) p rest) → Spot text around j a g rs xs
        → (qs : List RuleForm) × Spot text around k a g qs (part_pieces p ++ xs)
    spot_past around a k _ g _ _ rs xs (plain_before p none) any spot =
        (rules_in text (laid around p ∷ []) ++ rs, spots.past_part p rs xs any none spot)
    spot_past around a k _ g _ _ rs xs (media_before p m inner within is own are) any spot =
        (rules_in text (laid around p ∷ within) ++ rs, spots.past_media p m inner within rs xs any is own are spot)

    pub spot_at : (around : Option ℕ) (k : ℕ) (ps : List PartForm) (ls : List Laid) (rs : List RuleForm) (ms : List MediaRule)
        (xs zs : List Token) → Way text Here around k ps ls rs ms xs zs → AreFlat (level_of around) ps → SpotAt text Here around k xs
    spot_at around k _ _ _ _ _ _ (here ps ls zs h) all =
        record { a = around; j = k; rs = []; spot = at_spot; ps = ps; ls = ls; zs = zs; is = h; all = all }
    spot_at around k _ _ _ _ _ _ (past {j = j} p ps within ls rs ms xs zs before way) all =
        let s = spot_at around j ps ls rs ms xs zs way all.1 in
        let any = λ (rest : List Token). part_rest (level_of around) p (flat ps) rest (follows around j ps ls rs ms xs zs way) all.0 in
        let n = spot_past around s.a k j s.j p within s.rs xs before any s.spot in
        record { a = s.a; j = s.j; rs = n.0; spot = n.1; ps = s.ps; ls = s.ls; zs = s.zs; is = s.is; all = s.all }
    spot_at around k _ _ _ _ _ _ (into m first last inner ps within ls rs ms xs zs is own way are) all =
        let o = opens_media (level_of around) m first last (flat ps) all.0 in
        let s = spot_at (Some k) (suc k) inner within rs ms xs zs way (flat_of block_level inner m.inside own).1 in
        let cut = block_fits k m first last inner within rs ms xs zs (flat ps) own way o in
        record {
          a = s.a;
          j = s.j;
          rs = s.rs;
          spot = spots.in_media m.keyword m.prelude first s.rs xs o.at (names_media_is text m.keyword m.prelude first m.inside last m is)
              o.values o.curly
              (λ others. reaches block_end xs (head ++ (brace ∷ (zs ++ (option_to_list last ++ flat ps)))) others []
              (omega (arith, cut, size_is xs zs))) s.spot;
          ps = s.ps;
          ls = s.ls;
          zs = s.zs;
          is = s.is;
          all = s.all;
        }

    -- how deep in blocks it stands
    pub way_depth : (around : Option ℕ) (k : ℕ) (ps : List PartForm) (ls : List Laid) (rs : List RuleForm) (ms : List MediaRule)
        (xs zs : List Token) → Way text Here around k ps ls rs ms xs zs → AreFlat (level_of around) ps → Depth head (opens [] xs)
    unfolding opens
    way_depth around k _ _ _ _ _ _ (here ps ls zs h) all = no_block
    way_depth around k _ _ _ _ _ _ (past {j = j} p ps within ls rs ms xs zs before way) all =
        let quiet = part_quiet (level_of around) p (flat ps) (follows around j ps ls rs ms xs zs way) all.0 in
        subst (Depth head) (sym (opens_append (part_pieces p) xs [] ∙ ap (λ (bs : List Bracket). opens bs xs) quiet))
        (way_depth around j ps ls rs ms xs zs way all.1)
    way_depth around k _ _ _ _ _ _ (into m first last inner ps within ls rs ms xs zs is own way are) all =
        let o = opens_media (level_of around) m first last (flat ps) all.0 in
        let cut = block_fits k m first last inner within rs ms xs zs (flat ps) own way o in
        let none = values_shut block_or_semicolon m.prelude first []
        (until_is block_or_semicolon m.prelude (first ∷ []) (o.values []) (ap (stops_at block_or_semicolon) o.curly)) in
        deeper head m.keyword first m.prelude xs (brace ∷ (zs ++ (option_to_list last ++ flat ps))) o.at none o.curly
        (omega (arith, cut, size_is xs zs, length-append xs head))
        (way_depth (Some k) (suc k) inner within rs ms xs zs way (flat_of block_level inner m.inside own).1)

-- ---- the exchange

-- parts with other pieces before that `{`, and what is laid out from them
pub record Exchanged (text other : List ℕ) (f : ℕ → ℕ) (new : List Token) (brace : Token) (own own2 : List RuleForm)
    (inside inside2 : List MediaRule) (around : Option ℕ) (k : ℕ) (ps : List PartForm) (ls : List Laid) (rs : List RuleForm)
    (ms : List MediaRule) (xs zs : List Token) : Type 0 where
  pub parts : List PartForm
  pub out : List Laid
  pub rules : List RuleForm
  pub media : List MediaRule
  pub flat_is : flat parts ≡ xs ++ (new ++ brace ∷ map (raised f) zs)
  pub all : AreFlat (level_of around) parts
  pub are_laid : AreLaid other around k parts out
  pub old_rules : rules_in text ls ≡ rs ++ (own ++ rules)
  pub new_rules : rules_in other out ≡ map (placed_rule f) rs ++ (own2 ++ map (placed_rule f) rules)
  pub old_media : media_in text ls ≡ ms ++ (inside ++ media)
  pub new_media : media_in other out ≡ map (placed_media f) ms ++ (inside2 ++ map (placed_media f) media)
  pub new_places : places_in other parts ≡ map f (places_in text ps)

-- four lists one behind the other
regroup : {A : Type 0} (a b c d : List A) → (a ++ (b ++ c)) ++ d ≡ a ++ (b ++ (c ++ d))
regroup {A = A} a b c d = append_assoc a (b ++ c) d ∙ ap (λ (ys : List A). a ++ ys) (append_assoc b c d)

-- the place behind a block, moved
pub closing_same : (f : ℕ → ℕ) (last : Option Token) → option_to_list (closing_place (option_map (raised f) last))
    ≡ map f (option_to_list (closing_place last))
closing_same f None = refl
closing_same f (Some t) = refl

at_rule_again : (level : Level) (keyword first : Token) (prelude within own : List Token) (last last2 : Option Token)
    (rest rest2 : List Token)
    → (IsEnding (block first within last) rest → IsEnding (block first own last2) rest2)
    → IsPart level (at_rule keyword prelude (block first within last)) rest
    → IsPart level (at_rule keyword prelude (block first own last2)) rest2
at_rule_again level keyword first prelude within own last last2 rest rest2 again (at_rule_part _ _ _ e r) =
    at_rule_part keyword prelude (block first own last2) e (record {
      values = values_rest (outside block_or_semicolon) prelude (first ∷ ((within ++ option_to_list last) ++ rest))
          (first ∷ ((own ++ option_to_list last2) ++ rest2)) (cons_follows first _) r.values;
      stopped = r.stopped;
      ends = again r.ends;
    })

module _ (text other : List ℕ) (c : Cut) (lo hi : ℕ) (same : SamePart text other (moved_place c) 0 c.start)
    (back : SamePart text other (moved_place c) lo hi) (ended : moved_place c (length text) ≡ length other)
    (Here : Option ℕ → ℕ → List PartForm → List Laid → List Token → Type 0) (head new : List Token) (brace brace2 : Token)
    (starts : (around : Option ℕ) (k : ℕ) (ps : List PartForm) (ls : List Laid) (zs : List Token) → Here around k ps ls zs
    → flat ps ≡ head ++ brace ∷ zs)
    (curly : brace.kind ≡ tokens.OpenCurly) (curly2 : brace2.kind ≡ tokens.OpenCurly) (none : opens [] head ≡ []) (nested : AreNested new)
    (own own2 : List RuleForm) (inside inside2 : List MediaRule) (count : length inside ≡ length inside2)
    (target : (around : Option ℕ) (k : ℕ) (ps : List PartForm) (ls : List Laid) (zs : List Token) → Here around k ps ls zs
    → AreFlat (level_of around) ps → AllTokens lo hi zs
    → Exchanged text other (moved_place c) new brace2 own own2 inside inside2 around k ps ls [] [] [] zs)
  where
    -- a part that stands before stays
    record BeforeToo (around : Option ℕ) (k j : ℕ) (p : PartForm) (within : List Laid) : Type 0 where
      within_in : LaidIn 0 c.start within
      are : (qs : List PartForm) (out : List Laid) → AreLaid other around j qs out
          → AreLaid other around k (p ∷ qs) (laid around p ∷ (within ++ out))

    before_too : (around : Option ℕ) (k j : ℕ) (p : PartForm) (within : List Laid) → Before text k j p within
        → AllTokens 0 c.start (part_pieces p) → BeforeToo around k j p within
    before_too around k _ _ _ (plain_before p is_none) all = record {
      within_in = tt;
      are = λ qs out are. part_laid p qs out
          (form_kept text other c same p all ∙ ap (option_map (raised_media (moved_place c))) is_none) are;
    }
    before_too around k _ _ _ (media_before p m inner within is own_parts inner_are) all =
        let inner_flat = flat_of block_level inner m.inside own_parts in
        let inner_tokens : AllTokens 0 c.start (flat inner) = subst (AllTokens 0 c.start) inner_flat.0
        (form_in text 0 c.start p m is all).1 in
        let within_all = laid_in 0 c.start text (Some k) (suc k) inner within inner_are inner_tokens in
        let number : length (media_in text within) ≡ length (media_in other within) =
        sym (ap (λ (ms : List MediaRule). length ms) (front_media text other c same within within_all)
        ∙ map_length _ (media_in text within)) in
        let form : media_form other p ≡ Some m =
        form_kept text other c same p all ∙ ap (option_map (raised_media (moved_place c))) is
        ∙ ap Some (media_kept text other c same p m is all) in
        record {
          within_in = within_all;
          are = λ qs out are.
              media_laid p m inner qs within out form own_parts
              (laid_stays text other c same (Some k) (suc k) inner within inner_are inner_tokens)
              (subst (λ (i : ℕ). AreLaid other around (suc k + i) qs out) number are);
        }

    behind_front : (around : Option ℕ) (k j : ℕ) (p : PartForm) (ps : List PartForm) (within ls : List Laid) (rs : List RuleForm)
        (ms : List MediaRule) (xs zs : List Token)
        → (n : Exchanged text other (moved_place c) new brace2 own own2 inside inside2 around j ps ls rs ms xs zs)
        → AllTokens 0 c.start (part_pieces p) → BeforeToo around k j p within → IsPart (level_of around) p (flat n.parts)
        → Exchanged text other (moved_place c) new brace2 own own2 inside inside2 around k (p ∷ ps) (laid around p ∷ (within ++ ls))
        (rules_in text (laid around p ∷ within) ++ rs) (media_in text (laid around p ∷ within) ++ ms) (part_pieces p ++ xs) zs
    behind_front around k j p ps within ls rs ms xs zs n all too part =
        let front = laid around p ∷ within in
        let a = front_rules text other c same front (all, too.within_in) (any_moved text other (moved_place c) ended front) in
        let b = front_media text other c same front (all, too.within_in) in
        let d = front_places text other c same p all in
        record {
          parts = p ∷ n.parts;
          out = laid around p ∷ (within ++ n.out);
          rules = n.rules;
          media = n.media;
          flat_is = ap (λ (ys : List Token). part_pieces p ++ ys) n.flat_is ∙ sym (append_assoc (part_pieces p) xs _);
          all = (part, n.all);
          are_laid = too.are n.parts n.out n.are_laid;
          old_rules = rules_append text front ls ∙ ap (λ (ys : List RuleForm). rules_in text front ++ ys) n.old_rules
              ∙ sym (append_assoc (rules_in text front) rs (own ++ n.rules));
          new_rules = rules_append other front n.out ∙ (λ i. a i ++ n.new_rules i)
              ∙ sym (append_assoc (map (placed_rule (moved_place c)) (rules_in text front)) (map (placed_rule (moved_place c)) rs) _)
              ∙ ap (λ (ys : List RuleForm). ys ++ (own2 ++ map (placed_rule (moved_place c)) n.rules))
              (sym (map_append (placed_rule (moved_place c)) (rules_in text front) rs));
          old_media = media_append text front ls ∙ ap (λ (ys : List MediaRule). media_in text front ++ ys) n.old_media
              ∙ sym (append_assoc (media_in text front) ms (inside ++ n.media));
          new_media = media_append other front n.out ∙ (λ i. b i ++ n.new_media i)
              ∙ sym (append_assoc (map (placed_media (moved_place c)) (media_in text front)) (map (placed_media (moved_place c)) ms) _)
              ∙ ap (λ (ys : List MediaRule). ys ++ (inside2 ++ map (placed_media (moved_place c)) n.media))
              (sym (map_append (placed_media (moved_place c)) (media_in text front) ms));
          new_places = places_cons other p n.parts ∙ (λ i. d i ++ n.new_places i)
              ∙ sym (map_append (moved_place c) (places_in text (p ∷ [])) (places_in text ps))
              ∙ ap (map (moved_place c)) (sym (places_cons text p ps));
        }

    -- a media rule with the exchanged pieces somewhere in its block
    around_it : (around : Option ℕ) (k : ℕ) (m : MediaForm) (first : Token) (last : Option Token) (inner ps : List PartForm)
        (within ls : List Laid) (rs : List RuleForm) (ms : List MediaRule) (xs zs : List Token)
        → media_form text (at_rule m.keyword m.prelude (block first m.inside last)) ≡ Some m → m.inside ≡ xs ++ (head ++ brace ∷ zs)
        → opens (opens [] xs) head ≡ opens [] xs
        → AreLaid text around (suc k + length (media_in text within)) ps ls
        → AreFlat (level_of around) (at_rule m.keyword m.prelude (block first m.inside last) ∷ ps)
        → AllTokens 0 c.start (m.keyword ∷ m.prelude) → AllTokens lo hi (flat ps)
        → Exchanged text other (moved_place c) new brace2 own own2 inside inside2 (Some k) (suc k) inner within rs ms xs zs
        → Exchanged text other (moved_place c) new brace2 own own2 inside inside2 around k
        (at_rule m.keyword m.prelude (block first m.inside last) ∷ ps)
        (laid around (at_rule m.keyword m.prelude (block first m.inside last)) ∷ (within ++ ls)) rs (media_rule text around m ∷ ms)
        (m.keyword ∷ (m.prelude ++ first ∷ xs)) (zs ++ (option_to_list last ++ flat ps))
    unfolding places_in place_of media_form
    around_it around k m first last inner ps within ls rs ms xs zs form inside_is keeps are all lead tail n =
        let ps2 = map (raised_part (moved_place c)) ps in
        let ls2 = map (raised_laid (moved_place c)) ls in
        let last2 = option_map (raised (moved_place c)) last in
        let m2 : MediaForm = record { keyword = m.keyword; prelude = m.prelude; inside = flat n.parts } in
        let p = at_rule m.keyword m.prelude (block first m.inside last) in
        let p2 = at_rule m.keyword m.prelude (block first (flat n.parts) last2) in
        let flat_ps2 = flat_raised (moved_place c) ps in
        let keyword_kept = token_kept (moved_place c) 0 c.start (keep c) m.keyword (lead.0, tt) in
        let prelude_kept = tokens_kept (moved_place c) 0 c.start (keep c) m.prelude lead.1 in
        let named : names_media other m.keyword m.keyword.kind ≡ true =
        sym (ap (λ (t : Token). names_media other t m.keyword.kind) keyword_kept)
        ∙ names_same text other (moved_place c) 0 c.start same m.keyword m.keyword.kind lead.0
        ∙ names_media_is text m.keyword m.prelude first m.inside last m form in
        let form2 : media_form other p2 ≡ Some m2 = ap (λ (b : Bool). cond b (Some m2) None) named in
        let in_tail = laid_in lo hi text around (suc k + length (media_in text within)) ps ls are tail in
        let rules = rules_same text other (moved_place c) lo hi back ls in_tail (any_moved text other (moved_place c) ended ls) in
        let media = media_same text other (moved_place c) lo hi back ls in_tail in
        let places = places_same text other (moved_place c) lo hi back ps tail in
        let number : length (media_in text within) ≡ length (media_in other n.out) = omega (
          arith,
          count,
          ap (λ (ys : List MediaRule). length ys) n.old_media,
          ap (λ (ys : List MediaRule). length ys) n.new_media,
          length-append ms (inside ++ n.media),
          length-append inside n.media,
          length-append (map (placed_media (moved_place c)) ms) (inside2 ++ map (placed_media (moved_place c)) n.media),
          length-append inside2 (map (placed_media (moved_place c)) n.media),
          map_length (placed_media (moved_place c)) ms,
          map_length (placed_media (moved_place c)) n.media,
        ) in
        let own_media : media_rule other around m2 ≡ placed_media (moved_place c) (media_rule text around m) =
        (λ i. media_rule other around (record { keyword = sym keyword_kept i; prelude = sym prelude_kept i; inside = flat n.parts }))
        ∙ media_rule_same text other (moved_place c) 0 c.start same around m lead.1 in
        let tail_is : map (raised (moved_place c)) (zs ++ (option_to_list last ++ flat ps))
        ≡ map (raised (moved_place c)) zs
        ++ (map (raised (moved_place c)) (option_to_list last) ++ map (raised (moved_place c)) (flat ps)) =
        map_append (raised (moved_place c)) zs (option_to_list last ++ flat ps)
        ∙ ap (λ (ys : List Token). map (raised (moved_place c)) zs ++ ys)
        (map_append (raised (moved_place c)) (option_to_list last) (flat ps)) in
        let cut : xs ++ (new ++ brace2 ∷ map (raised (moved_place c)) (zs ++ (option_to_list last ++ flat ps)))
        ≡ flat n.parts ++ (option_to_list last2 ++ flat ps2) =
        ap (λ (ys : List Token). xs ++ (new ++ brace2 ∷ ys)) tail_is
        ∙ sym (spread xs new brace2 (map (raised (moved_place c)) zs)
        (map (raised (moved_place c)) (option_to_list last) ++ map (raised (moved_place c)) (flat ps)))
        ∙ (λ i. sym n.flat_is i ++ (sym (to_list_raised (moved_place c) last) i ++ sym flat_ps2 i)) in
        let again : IsEnding (block first m.inside last) (flat ps) → IsEnding (block first (flat n.parts) last2) (flat ps2) = λ old.
        subst (IsEnding (block first (flat n.parts) last2)) (sym flat_ps2)
        (subst (λ (ys : List Token). IsEnding (block first ys last2) (map (raised (moved_place c)) (flat ps))) (sym n.flat_is)
        (block_again first brace brace2 m.inside xs head new zs (flat ps) last (moved_place c) inside_is curly curly2 keeps nested old)) in
        record {
          parts = p2 ∷ ps2;
          out = laid around p2 ∷ (n.out ++ ls2);
          rules = n.rules ++ rules_in text ls;
          media = n.media ++ media_in text ls;
          flat_is = sym (cut_is m.keyword first m.prelude xs
              (new ++ brace2 ∷ map (raised (moved_place c)) (zs ++ (option_to_list last ++ flat ps)))
              (flat n.parts) (option_to_list last2) (flat ps2) cut);
          all = (
            at_rule_again (level_of around) m.keyword first m.prelude m.inside (flat n.parts) last last2 (flat ps)
                (flat ps2) again all.0,
            flat_again (level_of around) (moved_place c) ps all.1,
          );
          are_laid = media_laid p2 m2 n.parts ps2 n.out ls2 form2 (flat_parts block_level n.parts n.all) n.are_laid
              (subst (λ (j : ℕ). AreLaid other around (suc k + j) ps2 ls2) number
              (laid_again text other (moved_place c) lo hi back around (suc k + length (media_in text within)) ps ls are tail));
          old_rules = no_rule text around p m (within ++ ls) (record { first = first; close = last; is = refl })
              ∙ rules_append text within ls ∙ ap (λ (ys : List RuleForm). ys ++ rules_in text ls) n.old_rules
              ∙ regroup rs own n.rules (rules_in text ls);
          new_rules = no_rule other around p2 m2 (n.out ++ ls2) (record { first = first; close = last2; is = refl })
              ∙ rules_append other n.out ls2 ∙ (λ i. n.new_rules i ++ rules i)
              ∙ regroup (map (placed_rule (moved_place c)) rs) own2 (map (placed_rule (moved_place c)) n.rules)
              (map (placed_rule (moved_place c)) (rules_in text ls))
              ∙ ap (λ (ys : List RuleForm). map (placed_rule (moved_place c)) rs ++ (own2 ++ ys))
              (sym (map_append (placed_rule (moved_place c)) n.rules (rules_in text ls)));
          old_media = media_cons text around p (within ++ ls) (Some m) form
              ∙ ap (λ (ys : List MediaRule). media_rule text around m ∷ ys)
              (media_append text within ls ∙ ap (λ (ys : List MediaRule). ys ++ media_in text ls) n.old_media
              ∙ regroup ms inside n.media (media_in text ls));
          new_media = media_cons other around p2 (n.out ++ ls2) (Some m2) form2
              ∙ (λ i. own_media i ∷ media_append other n.out ls2 i)
              ∙ ap (λ (ys : List MediaRule). placed_media (moved_place c) (media_rule text around m) ∷ ys)
              ((λ i. n.new_media i ++ media i)
              ∙ regroup (map (placed_media (moved_place c)) ms) inside2 (map (placed_media (moved_place c)) n.media)
              (map (placed_media (moved_place c)) (media_in text ls))
              ∙ ap (λ (ys : List MediaRule). map (placed_media (moved_place c)) ms ++ (inside2 ++ ys))
              (sym (map_append (placed_media (moved_place c)) n.media (media_in text ls))));
          new_places = (λ i. closing_same (moved_place c) last i ++ places i)
              ∙ sym (map_append (moved_place c) (option_to_list (closing_place last)) (places_in text ps));
        }

    pub exchange : (around : Option ℕ) (k : ℕ) (ps : List PartForm) (ls : List Laid) (rs : List RuleForm) (ms : List MediaRule)
        (xs zs : List Token) → Way text Here around k ps ls rs ms xs zs → AreFlat (level_of around) ps → AllTokens 0 c.start xs
        → AllTokens lo hi zs
        → Exchanged text other (moved_place c) new brace2 own own2 inside inside2 around k ps ls rs ms xs zs
    exchange around k _ _ _ _ _ _ (here ps ls zs h) all lead tail = target around k ps ls zs h all tail
    exchange around k _ _ _ _ _ _ (past {j = j} p ps within ls rs ms xs zs before way) all lead tail =
        let both = tokens_split 0 c.start (part_pieces p) xs lead in
        let n = exchange around j ps ls rs ms xs zs way all.1 both.1 tail in
        behind_front around k j p ps within ls rs ms xs zs n both.0 (before_too around k j p within before both.0)
        (part_rest (level_of around) p (flat ps) (flat n.parts) (follows text Here head brace starts around j ps ls rs ms xs zs way) all.0)
    exchange around k _ _ _ _ _ _ (into m first last inner ps within ls rs ms xs zs is own_parts way are) all lead tail =
        let both = tokens_split 0 c.start m.prelude (first ∷ xs) lead.1 in
        let halves = tokens_split lo hi zs (option_to_list last ++ flat ps) tail in
        let behind = tokens_split lo hi (option_to_list last) (flat ps) halves.1 in
        let inner_flat = flat_of block_level inner m.inside own_parts in
        let inside_is = inner_flat.0 ∙ way_flat text Here head brace starts (Some k) (suc k) inner within rs ms xs zs way in
        let depth = way_depth text Here head brace starts (Some k) (suc k) inner within rs ms xs zs way inner_flat.1 in
        around_it around k m first last inner ps within ls rs ms xs zs is inside_is (depth_keeps head (opens [] xs) none depth) are all
        (lead.0, both.0) behind.1
        (exchange (Some k) (suc k) inner within rs ms xs zs way inner_flat.1 both.1.1 halves.0)
