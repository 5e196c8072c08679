-- The reading of a sheet where the prelude of a media rule is replaced by a sealed one is the old reading with its places moved.
use Rattle.std.proofs.Common.{◌≡◌, ℕ, zero, suc, ◌+◌, ◌-◌, ◌<◌, true, false, List, [], ◌∷◌, ◌++◌, map, take, drop}
use Rattle.std.proofs.Common.{length, Option, Some, None, refl, sym, ap, subst, ◌∙◌, append_assoc, length-append, arith}
use Rattle.std.specs.Prelude.{option_map, option_to_list, slice_get, codes, fold}
use Rattle.std.specs.List.{find}
use Rattle.std.specs.Char.{to_ascii_lowercase}
use Rattle.std.specs.Str.{bytes_eq}
use Rattle.std.proofs.Math.Seq.{drop-append_seam, take-append_seam}
use Rattle.css_tokens.specs.declared.token.Range.{Range}
use Rattle.css_tokens.specs.declared.token.Token.{Token}
use Rattle.css_tokens.specs.declared.token.TokenKind.{TokenKind}
use Rattle.css_tokens.specs.declared.token.TokenKind.TheVariants as tokens
use Rattle.css_tokens.specs.Escapes.{unescaped}
use Rattle.css_tokens.specs.Pieces.{pieces, pieces_after}
use Rattle.css_tokens.specs.Rows.{piece, first_piece}
use Rattle.css_tokens.specs.Seams.{IsWholeBefore}
use Rattle.css_tokens.proofs.Cuts.{piece_first}
use Rattle.css_tokens.proofs.SeamPieces.{pieces_at}
use Rattle.selectors.specs.Words.{words_after, words_of, between}
use Rattle.selectors.specs.Reading.{range_of}
use Rattle.selectors.specs.Moves.{Cut, moved_place, placed_range}
use Rattle.sheet_reader.specs.declared.sheet.MediaRule.{MediaRule}
use Rattle.sheet_reader.specs.declared.sheet.Sheet.{Sheet}
use Rattle.sheet_reader.specs.Brackets.{open_after, stops_at, until}
use Rattle.sheet_reader.specs.Forms.{range, RuleForm}
use Rattle.sheet_reader.specs.Grammar.{AreParts, plain_and, IsPart, at_rule_part, is_at_keyword}
use Rattle.sheet_reader.specs.Layout.{names_media, MediaForm, media_form, media_rule, prelude_range, media_in, Laid, laid, laid_out}
use Rattle.sheet_reader.specs.Layout.{level_of}
use Rattle.sheet_reader.specs.Layout.{AreLaid, none_laid, part_laid, media_laid}
use Rattle.sheet_reader.specs.Moves.{placed_media, placed_rule, replaced}
use Rattle.sheet_reader.specs.Parts.{block, PartForm, at_rule, part_pieces, parts}
use Rattle.sheet_reader.specs.Preludes.{ends_keyword, spaces_by, spaces_behind, spaces_at}
use Rattle.sheet_reader.specs.Sealing.{is_sealed_prelude}
use Rattle.sheet_reader.specs.Sheets.{closing_place, place_of, rules_in, places_in, sheet_of}
use Rattle.sheet_reader.proofs.FrameForms.{media_append, media_cons}
use Rattle.sheet_reader.proofs.Gaps.{Gap}
use Rattle.sheet_reader.proofs.GrammarForms.{parts_only, parts_spelled}
use Rattle.sheet_reader.proofs.KeyNames.{SaysMedia, KeyName}
use Rattle.sheet_reader.proofs.LaidMoves.{laid_in, laid_in_append, laid_again, parts_again, flat_raised, flat_again, stays, any_moved}
use Rattle.sheet_reader.proofs.LayoutForms.{laid_spelled, laid_only}
use Rattle.sheet_reader.proofs.NewKeys.{spaces_for, NewKey, new_key, key_text, spaces_white, find_key}
use Rattle.sheet_reader.proofs.MediaTexts.{MediaText, media_text, pieces_in}
use Rattle.sheet_reader.proofs.OpenForms.{opens, values_shut}
use Rattle.sheet_reader.proofs.PartMoves.{AreFlat, flat_of, flat_parts, to_list_raised, map_append, map_length}
use Rattle.sheet_reader.proofs.Raised.{raised, raised_part, raised_laid, flat}
use Rattle.sheet_reader.proofs.ReadMoves.{AllTokens, tokens_split, rules_same, media_same, places_same}
use Rattle.sheet_reader.proofs.RulePaths.{Side, on_left, on_right, side}
use Rattle.sheet_reader.proofs.SpotPaths.{opens_media, names_media_is}
use Rattle.sheet_reader.proofs.Spots.{values_at, media_named}
use Rattle.sheet_reader.proofs.TextMoves.{whole_tokens, widen}
use Rattle.sheet_reader.proofs.UsableForms.{media_is, no_rule}
use Rattle.sheet_reader.proofs.ValueForms.{until_is}
use Rattle.sheet_reader.proofs.WordMoves.{SamePart}
use Rattle.sheet_laws.specs.Heads.{ends_in_return, range_cut, changed_at, repreluded, moved_media, media_moved_by}
use Rattle.sheet_laws.proofs.HeadPaths as paths
use Rattle.sheet_laws.proofs.HeadPaths.{closing_same, plain_before, media_before, Way, past, into, Exchanged, SpotAt, way_flat, spot_at}
use Rattle.sheet_laws.proofs.HeadPaths.{exchange}
use Rattle.sheet_laws.proofs.HeadCuts.{front_again, brace_at, pieces_there, put_in_both, with_head, behind_brace}
use Rattle.sheet_laws.proofs.HeadCuts.{head_cut, moves, ends_move, front_stands, end_stands}
use Rattle.sheet_laws.proofs.HeadLaw.{changed_append, rebraced, replaced_at}
use Rattle.sheet_laws.specs.Keywords.{last_end, keyword_end, new_keyword_end}
use Rattle.sheet_laws.proofs.KeyCuts.{find_none, end_found}
use Rattle.sheet_laws.proofs.MediaPuts.{NewPrelude, with_words, without_words}
use Rattle.sheet_reader.proofs.Names.{Level, top_level, block_level, block_or_semicolon}

-- ---- the media rule on its way

-- the part that is the media rule: its keyword, its prelude, its `{`, what is in its block, and its `}` if it has one
record MediaPart : Type 0 where
  keyword : Token
  prelude : List Token
  brace : Token
  inside : List Token
  close : Option Token

abbrev media_part : MediaPart → PartForm
media_part q = at_rule q.keyword q.prelude (block q.brace q.inside q.close)

abbrev form_of : MediaPart → MediaForm
form_of q = record { keyword = q.keyword; prelude = q.prelude; inside = q.inside }

-- the media rule is the first part, with these pieces behind its `{`
data MediaHere (text : List ℕ) (m : MediaRule) (q : MediaPart) : Option ℕ → ℕ → List PartForm → List Laid → List Token → Type 0 where
  media_here : {around : Option ℕ} {k : ℕ} (inner ps : List PartForm) (within ls : List Laid)
      → media_form text (media_part q) ≡ Some (form_of q) → AreParts block_level inner q.inside → AreLaid text (Some k) (suc k) inner within
      → AreLaid text around (suc k + length (media_in text within)) ps ls → media_rule text around (form_of q) ≡ m
      → MediaHere text m q around k (media_part q ∷ ps) (laid around (media_part q) ∷ (within ++ ls))
      (q.inside ++ (option_to_list q.close ++ flat ps))

record MediaWay (text : List ℕ) (m : MediaRule) (around : Option ℕ) (k : ℕ) (ps : List PartForm) (ls : List Laid) (i : ℕ) : Type 0 where
  q : MediaPart
  rs : List RuleForm
  ms : List MediaRule
  xs : List Token
  zs : List Token
  way : Way text (MediaHere text m q) around k ps ls rs ms xs zs
  number : length ms ≡ i

no_media : (text : List ℕ) → media_in text [] ≡ []
unfolding media_in
no_media text = refl

none_at : (i : ℕ) (m : MediaRule) → ◌≡◌ {A = Option MediaRule} (slice_get [] i) (Some m) → ⊥
none_at zero m e = cc
none_at (suc i) m e = cc

find_here : (text : List ℕ) (m : MediaRule) (around : Option ℕ) (k : ℕ) (p : PartForm) (form : MediaForm) (inner ps : List PartForm)
    (within ls : List Laid) → media_form text p ≡ Some form → AreParts block_level inner form.inside
    → AreLaid text (Some k) (suc k) inner within
    → AreLaid text around (suc k + length (media_in text within)) ps ls → media_rule text around form ≡ m
    → MediaWay text m around k (p ∷ ps) (laid around p ∷ (within ++ ls)) 0
find_here text m around k p form inner ps within ls is own inner_are are same =
    let i = media_is text p form is in
    let q : MediaPart = record {
      keyword = form.keyword;
      prelude = form.prelude;
      brace = i.first;
      inside = form.inside;
      close = i.close;
    } in
    let zs = form.inside ++ (option_to_list i.close ++ flat ps) in
    subst (λ (x : PartForm). MediaWay text m around k (x ∷ ps) (laid around x ∷ (within ++ ls)) 0) (sym i.is)
    (record {
      q = q;
      rs = [];
      ms = [];
      xs = [];
      zs = zs;
      way = paths.here (media_part q ∷ ps) (laid around (media_part q) ∷ (within ++ ls)) zs
          (media_here inner ps within ls (ap (media_form text) (sym i.is) ∙ is) own inner_are are same);
      number = refl;
    })

find_within : (text : List ℕ) (m : MediaRule) (around : Option ℕ) (k : ℕ) (p : PartForm) (form : MediaForm) (inner ps : List PartForm)
    (within ls : List Laid) (i : ℕ) → media_form text p ≡ Some form → AreParts block_level inner form.inside
    → AreLaid text around (suc k + length (media_in text within)) ps ls → MediaWay text m (Some k) (suc k) inner within i
    → MediaWay text m around k (p ∷ ps) (laid around p ∷ (within ++ ls)) (suc i)
find_within text m around k p form inner ps within ls i is own are w =
    let f = media_is text p form is in
    subst (λ (x : PartForm). MediaWay text m around k (x ∷ ps) (laid around x ∷ (within ++ ls)) (suc i)) (sym f.is)
    (record {
      q = w.q;
      rs = w.rs;
      ms = media_rule text around form ∷ w.ms;
      xs = form.keyword ∷ (form.prelude ++ f.first ∷ w.xs);
      zs = w.zs ++ (option_to_list f.close ++ flat ps);
      way = into form f.first f.close inner ps within ls w.rs w.ms w.xs w.zs (ap (media_form text) (sym f.is) ∙ is) own w.way are;
      number = ap suc w.number;
    })

media_way : (text : List ℕ) (m : MediaRule) (around : Option ℕ) (k : ℕ) (ps : List PartForm) (ls : List Laid) → AreLaid text around k ps ls
    → (i : ℕ) → slice_get (media_in text ls) i ≡ Some m → MediaWay text m around k ps ls i
unfolding media_in
media_way text m around k _ _ none_laid i e = absurd (none_at i m e)
media_way text m around k _ _ (part_laid p ps ls none are) i e =
    let w = media_way text m around k ps ls are i
    (ap (λ (ms : List MediaRule). slice_get ms i) (sym (media_cons text around p ls None none)) ∙ e) in
    let empty : media_in text (laid around p ∷ []) ≡ [] = media_cons text around p [] None none ∙ no_media text in
    record {
      q = w.q;
      rs = rules_in text (laid around p ∷ []) ++ w.rs;
      ms = media_in text (laid around p ∷ []) ++ w.ms;
      xs = part_pieces p ++ w.xs;
      zs = w.zs;
      way = past p ps [] ls w.rs w.ms w.xs w.zs (plain_before p none) w.way;
      number = ap (λ (ms : List MediaRule). length (ms ++ w.ms)) empty ∙ w.number;
    }
media_way text m around k _ _ (media_laid p form inner ps within ls is own inner_are are) i e =
    let list : media_in text (laid around p ∷ (within ++ ls)) ≡ media_rule text around form ∷ (media_in text within ++ media_in text ls) =
    media_cons text around p (within ++ ls) (Some form) is
    ∙ ap (λ (ms : List MediaRule). media_rule text around form ∷ ms) (media_append text within ls) in
    by i (ap (λ (ms : List MediaRule). slice_get ms i) (sym list) ∙ e)
    (λ x g. media_way text m (Some k) (suc k) inner within inner_are x g)
    (λ x g. media_way text m around (suc k + length (media_in text within)) ps ls are x g)
  where
    by : (i : ℕ) → slice_get (media_rule text around form ∷ (media_in text within ++ media_in text ls)) i ≡ Some m
        → ((x : ℕ) → slice_get (media_in text within) x ≡ Some m → MediaWay text m (Some k) (suc k) inner within x)
        → ((x : ℕ) → slice_get (media_in text ls) x ≡ Some m → MediaWay text m around (suc k + length (media_in text within)) ps ls x)
        → MediaWay text m around k (p ∷ ps) (laid around p ∷ (within ++ ls)) i
    by zero g inside behind =
        let same : media_rule text around form ≡ m = cc in
        find_here text m around k p form inner ps within ls is own inner_are are same
    by (suc i) g inside behind = which (side (media_in text within) (media_in text ls) i m g)
      where
        which : Side (media_in text within) (media_in text ls) i m
            → MediaWay text m around k (p ∷ ps) (laid around p ∷ (within ++ ls)) (suc i)
        which (on_left h) = find_within text m around k p form inner ps within ls i is own are (inside i h)
        which (on_right x sum h) =
            let w = behind x h in
            let front = media_in text (laid around p ∷ within) in
            let size : length front ≡ suc (length (media_in text within)) =
            ap (λ (ms : List MediaRule). length ms) (media_cons text around p within (Some form) is) in
            record {
              q = w.q;
              rs = rules_in text (laid around p ∷ within) ++ w.rs;
              ms = front ++ w.ms;
              xs = part_pieces p ++ w.xs;
              zs = w.zs;
              way = past p ps within ls w.rs w.ms w.xs w.zs (media_before p form inner within is own inner_are) w.way;
              number = omega (arith, length-append front w.ms, size, sum, w.number);
            }

media_starts : (text : List ℕ) (m : MediaRule) (q : MediaPart) (around : Option ℕ) (k : ℕ) (ps : List PartForm) (ls : List Laid)
    (zs : List Token) → MediaHere text m q around k ps ls zs → flat ps ≡ (q.keyword ∷ q.prelude) ++ q.brace ∷ zs
media_starts text m q around k _ _ _ (media_here inner ps within ls form own inner_are are same) =
    ap (λ (ys : List Token). q.keyword ∷ ys)
    (append_assoc q.prelude (q.brace ∷ (q.inside ++ option_to_list q.close)) (flat ps)
    ∙ ap (λ (ys : List Token). q.prelude ++ q.brace ∷ ys) (append_assoc q.inside (option_to_list q.close) (flat ps)))

-- what is known of it
record MediaKnown (text : List ℕ) (m : MediaRule) (q : MediaPart) : Type 0 where
  at : q.keyword.kind ≡ tokens.AtKeyword
  curly : q.brace.kind ≡ tokens.OpenCurly
  none : opens [] (q.keyword ∷ q.prelude) ≡ []
  named : names_media text q.keyword q.keyword.kind ≡ true
  prelude : prelude_range q.keyword (range_of (words_after text false q.prelude)) ≡ m.prelude

media_there : (text : List ℕ) (m : MediaRule) (q : MediaPart) (around : Option ℕ) (k : ℕ) (xs : List Token)
    → SpotAt text (MediaHere text m q) around k xs → MediaKnown text m q
unfolding opens
media_there text m q around k xs s = by s.is s.all
  where
    by : {a : Option ℕ} {j : ℕ} {ps : List PartForm} {ls : List Laid} {zs : List Token} → MediaHere text m q a j ps ls zs
        → AreFlat (level_of a) ps → MediaKnown text m q
    by {a = a} (media_here inner ps within ls form own inner_are are same) all =
        let o = opens_media (level_of a) (form_of q) q.brace q.close (flat ps) all.0 in
        let quiet = values_shut block_or_semicolon q.prelude q.brace []
        (until_is block_or_semicolon q.prelude (q.brace ∷ []) (o.values []) (ap (stops_at block_or_semicolon) o.curly)) in
        record {
          at = o.at;
          curly = o.curly;
          none = ap (λ (kind : TokenKind). opens (open_after [] kind) q.prelude) o.at ∙ quiet;
          named = names_media_is text q.keyword q.prelude q.brace q.inside q.close (form_of q) form;
          prelude = ap (λ (x : MediaRule). x.prelude) same;
        }

-- ---- the media rule with another prelude

-- its part with its ending moved, behind another prelude
part_again : (level : Level) (f : ℕ → ℕ) (q : MediaPart) (ps : List PartForm) (keyword : Token) (prelude : List Token) (brace : Token)
    → keyword.kind ≡ tokens.AtKeyword → brace.kind ≡ tokens.OpenCurly
    → ((rest : List Token) → until block_or_semicolon (prelude ++ brace ∷ rest) ≡ length prelude)
    → AreFlat level (media_part q ∷ ps)
    → AreFlat level
    (at_rule keyword prelude (block brace (map (raised f) q.inside) (option_map (raised f) q.close)) ∷ map (raised_part f) ps)
part_again level f q ps keyword prelude brace at curly ends all =
    let moved = flat_again level f (media_part q ∷ ps) all in
    (by moved.0, moved.1)
  where
    within : List Token
    within = map (raised f) q.inside

    close : Option Token
    close = option_map (raised f) q.close

    rest : List Token
    rest = flat (map (raised_part f) ps)

    by : IsPart level (raised_part f (media_part q)) rest → IsPart level (at_rule keyword prelude (block brace within close)) rest
    by (at_rule_part _ _ _ k r) =
        at_rule_part keyword prelude (block brace within close) at
        (record {
          values = values_at block_or_semicolon prelude (brace ∷ ((within ++ option_to_list close) ++ rest))
              (ends ((within ++ option_to_list close) ++ rest));
          stopped = ap (stops_at block_or_semicolon) curly;
          ends = rebraced (raised f q.brace) brace within close rest curly r.ends;
        })

module _ (text other : List ℕ) (m : MediaRule) (q : MediaPart) (lo hi : ℕ) (c : Cut)
    (back : SamePart text other (moved_place c) lo hi) (ended : moved_place c (length text) ≡ length other)
    (keyword : Token) (prelude : List Token) (brace : Token) (at : keyword.kind ≡ tokens.AtKeyword)
    (named : names_media other keyword keyword.kind ≡ true) (curly : brace.kind ≡ tokens.OpenCurly)
    (ends : (rest : List Token) → until block_or_semicolon (prelude ++ brace ∷ rest) ≡ length prelude) (made : Range)
    (read : prelude_range keyword (range_of (words_after other false prelude)) ≡ made) where
  media_target : (around : Option ℕ) (k : ℕ) (ps : List PartForm) (ls : List Laid) (zs : List Token) → MediaHere text m q around k ps ls zs
      → AreFlat (level_of around) ps → AllTokens lo hi zs
      → Exchanged text other (moved_place c) (keyword ∷ prelude) brace [] [] (m ∷ []) (repreluded made m ∷ []) around k ps ls [] [] [] zs
  unfolding places_in place_of
  media_target around k _ _ _ (media_here inner ps within ls form own inner_are are same) all more =
      let inside2 = map (raised (moved_place c)) q.inside in
      let last2 = option_map (raised (moved_place c)) q.close in
      let p2 = at_rule keyword prelude (block brace inside2 last2) in
      let form2 : MediaForm = record { keyword = keyword; prelude = prelude; inside = inside2 } in
      let ps2 = map (raised_part (moved_place c)) ps in
      let ls2 = map (raised_laid (moved_place c)) ls in
      let within2 = map (raised_laid (moved_place c)) within in
      let inner_flat = flat_of block_level inner q.inside own in
      let halves = tokens_split lo hi q.inside (option_to_list q.close ++ flat ps) more in
      let behind = (tokens_split lo hi (option_to_list q.close) (flat ps) halves.1).1 in
      let inner_tokens : AllTokens lo hi (flat inner) = subst (AllTokens lo hi) inner_flat.0 halves.0 in
      let in_within = laid_in lo hi text (Some k) (suc k) inner within inner_are inner_tokens in
      let in_tail = laid_in lo hi text around (suc k + length (media_in text within)) ps ls are behind in
      let in_both = laid_in_append lo hi within ls in_within in_tail in
      let rules = rules_same text other (moved_place c) lo hi back (within ++ ls) in_both
      (any_moved text other (moved_place c) ended (within ++ ls)) in
      let medias = media_same text other (moved_place c) lo hi back (within ++ ls) in_both in
      let places = places_same text other (moved_place c) lo hi back ps behind in
      let out_is : map (raised_laid (moved_place c)) (within ++ ls) ≡ within2 ++ ls2 = map_append (raised_laid (moved_place c)) within ls in
      let is2 : media_form other p2 ≡ Some form2 = media_named other keyword prelude brace inside2 last2 named in
      let count : length (media_in text within) ≡ length (media_in other within2) =
      sym (ap (λ (ms : List MediaRule). length ms) (media_same text other (moved_place c) lo hi back within in_within)
      ∙ map_length (placed_media (moved_place c)) (media_in text within)) in
      let own_media : media_rule other around form2 ≡ repreluded made m =
      (λ i. record { prelude = read i; inside = ap (λ (x : MediaRule). x.inside) same i }) in
      let flat_ps2 = flat_raised (moved_place c) ps in
      let close2 = to_list_raised (moved_place c) q.close in
      let tail_is : map (raised (moved_place c)) (q.inside ++ (option_to_list q.close ++ flat ps))
      ≡ inside2 ++ (map (raised (moved_place c)) (option_to_list q.close) ++ map (raised (moved_place c)) (flat ps)) =
      map_append (raised (moved_place c)) q.inside (option_to_list q.close ++ flat ps)
      ∙ ap (λ (ys : List Token). inside2 ++ ys) (map_append (raised (moved_place c)) (option_to_list q.close) (flat ps)) in
      record {
        parts = p2 ∷ ps2;
        out = laid around p2 ∷ (within2 ++ ls2);
        rules = rules_in text (within ++ ls);
        media = media_in text (within ++ ls);
        flat_is = ap (λ (ys : List Token). keyword ∷ ys)
            (append_assoc prelude (brace ∷ (inside2 ++ option_to_list last2)) (flat ps2)
            ∙ ap (λ (ys : List Token). prelude ++ brace ∷ ys)
            (append_assoc inside2 (option_to_list last2) (flat ps2)
            ∙ (λ i. inside2 ++ (close2 i ++ flat_ps2 i)) ∙ sym tail_is));
        all = part_again (level_of around) (moved_place c) q ps keyword prelude brace at curly ends all;
        are_laid = media_laid p2 form2 (map (raised_part (moved_place c)) inner) ps2 within2 ls2 is2
            (parts_again block_level (moved_place c) inner q.inside own)
            (laid_again text other (moved_place c) lo hi back (Some k) (suc k) inner within inner_are inner_tokens)
            (subst (λ (j : ℕ). AreLaid other around (suc k + j) ps2 ls2) count
            (laid_again text other (moved_place c) lo hi back around (suc k + length (media_in text within)) ps ls are behind));
        old_rules = no_rule text around (media_part q) (form_of q) (within ++ ls) (record { first = q.brace; close = q.close; is = refl });
        new_rules = no_rule other around p2 form2 (within2 ++ ls2) (record { first = brace; close = last2; is = refl })
            ∙ ap (rules_in other) (sym out_is) ∙ rules;
        old_media = media_cons text around (media_part q) (within ++ ls) (Some (form_of q)) form
            ∙ ap (λ (x : MediaRule). x ∷ media_in text (within ++ ls)) same;
        new_media = media_cons other around p2 (within2 ++ ls2) (Some form2) is2
            ∙ (λ i. own_media i ∷ media_in other (sym out_is i)) ∙ ap (λ (ys : List MediaRule). repreluded made m ∷ ys) medias;
        new_places = (λ i. closing_same (moved_place c) q.close i ++ places i)
            ∙ sym (map_append (moved_place c) (option_to_list (closing_place q.close)) (places_in text ps));
      }

-- ---- the sheet

-- the sheet of the new text, by what it is laid out in
reading_is : (text other : List ℕ) (c : Cut) (new : List Token) (brace : Token) (m : MediaRule) (k size : ℕ) (made : Range)
    (rs : List RuleForm) (ms : List MediaRule) (xs zs : List Token)
    → (x : Exchanged text other (moved_place c) new brace [] [] (m ∷ []) (repreluded made m ∷ []) None 0 (parts top_level (pieces text))
    (laid_out text None 0 (pieces text)) rs ms xs zs) → pieces other ≡ xs ++ (new ++ brace ∷ map (raised (moved_place c)) zs)
    → length ms ≡ k → c ≡ range_cut m.prelude size
    → sheet_of other ≡ media_moved_by (sheet_of text) k made size (Some m)
reading_is text other c new brace m k size made rs ms xs zs x is number cuts =
    let ls = laid_out text None 0 (pieces text) in
    let parts_new : x.parts ≡ parts top_level (pieces other) =
    parts_only top_level x.parts (flat x.parts) (flat_parts top_level x.parts x.all) ∙ ap (parts top_level) (x.flat_is ∙ sym is) in
    let out_new : x.out ≡ laid_out other None 0 (pieces other) =
    laid_only other None 0 (pieces other) x.out (subst (λ (ps : List PartForm). AreLaid other None 0 ps x.out) parts_new x.are_laid) in
    let rules_new : rules_in other (laid_out other None 0 (pieces other)) ≡ map (placed_rule (moved_place c)) (rules_in text ls) =
    sym (ap (rules_in other) out_new) ∙ x.new_rules ∙ sym (map_append (placed_rule (moved_place c)) rs x.rules)
    ∙ ap (map (placed_rule (moved_place c))) (sym x.old_rules) in
    let media_new : media_in other (laid_out other None 0 (pieces other))
    ≡ changed_at (repreluded made) (placed_media (moved_place c)) k (media_in text ls) =
    sym (ap (media_in other) out_new) ∙ x.new_media
    ∙ sym (changed_append (repreluded made) (placed_media (moved_place c)) ms m x.media)
    ∙ (λ i. changed_at (repreluded made) (placed_media (moved_place c)) (number i) (sym x.old_media i)) in
    let places_new : places_in other (parts top_level (pieces other))
    ≡ map (moved_place c) (places_in text (parts top_level (pieces text))) =
    sym (ap (places_in other) parts_new) ∙ x.new_places in
    let zero_stays : 0 ≡ moved_place c 0 = sym (stays c 0 (omega arith)) in
    (λ i. record { rules = rules_new i; places = zero_stays i ∷ places_new i; media = media_new i })
    ∙ ap (λ (d : Cut). record {
      rules = map (placed_rule (moved_place d)) (rules_in text ls);
      places = map (moved_place d) (0 ∷ places_in text (parts top_level (pieces text)));
      media = changed_at (repreluded made) (placed_media (moved_place d)) k (media_in text ls);
    }) cuts

-- ---- the law

-- the keyword in the new text
record KeyAt (text put : List ℕ) (m : MediaRule) (front key lead v : List ℕ) : Type 0 where
  own : NewKey key lead (spaces_at text m.prelude.start) (put ++ v)
  end : length front + length (64 ∷ own.name) ≡ new_keyword_end text m.prelude.start

key_at : (text put : List ℕ) (m : MediaRule) (q : MediaPart) (xs zs : List Token)
    → pieces text ≡ xs ++ (q.keyword ∷ (q.prelude ++ q.brace ∷ zs)) → MediaKnown text m q
    → (h : MediaText text m.prelude xs q.keyword q.brace zs) → KeyAt text put m h.front h.key h.lead (h.gap ++ 123 ∷ h.rest)
key_at text put m q xs zs old_pieces known h = record {
  own = made;
  end = omega (arith, last, h.key_end, made.size loose);
}
  where
    v : List ℕ
    v = h.gap ++ 123 ∷ h.rest

    all_before : AllTokens 0 (0 + length h.front) xs
    all_before = whole_tokens (h.key ++ (h.lead ++ (h.prelude ++ v))) 0 h.front xs h.whole

    others_behind : AllTokens m.prelude.start h.hi h.others
    others_behind = subst (λ (n : ℕ). AllTokens n h.hi h.others) (sym h.start) h.behind

    says : (n : KeyName h.key (h.lead ++ (h.prelude ++ v))) → SaysMedia (drop 1 h.key)
    says n =
        let rest = h.lead ++ (h.prelude ++ v) in
        let is : text ≡ h.front ++ ((64 ∷ n.name) ++ rest) = h.is ∙ ap (λ (x : List ℕ). h.front ++ (x ++ rest)) n.is in
        let size : length h.front + length h.key ≡ length h.front + length (64 ∷ n.name) =
        ap (λ (x : List ℕ). length h.front + length x) n.is in
        let own_name : between text (q.keyword.start + 1) q.keyword.end ≡ n.name =
        (λ x. between (is x) (h.key_start x + 1) ((h.key_end ∙ size) x)) ∙ key_text h.front n.name rest in
        subst SaysMedia (sym (ap (drop 1) n.is))
        (sym (ap (λ (t : List ℕ). bytes_eq (map to_ascii_lowercase (unescaped t)) (codes "media")) own_name)
        ∙ sym (ap (names_media text q.keyword) known.at) ∙ known.named)

    tight : h.lead ≡ [] → spaces_at text m.prelude.start ≡ spaces_for h.key
    tight none =
        let at : m.prelude.start ≡ q.keyword.end = h.start ∙ omega (arith, ap length none, h.key_end) in
        let found : find (ends_keyword m.prelude.start) (pieces text) ≡ Some q.keyword =
        ap (find (ends_keyword m.prelude.start)) old_pieces
        ∙ find_key m.prelude.start (0 + length h.front) xs q.keyword (q.prelude ++ q.brace ∷ zs) all_before
        (omega (arith, at, h.key_end, h.some)) known.at (sym at) in
        let size : q.keyword.end - q.keyword.start ≡ length h.key = omega (arith, h.key_end, h.key_start) in
        let behind : drop q.keyword.start text ≡ h.key ++ (h.lead ++ (h.prelude ++ v)) =
        (λ x. drop (h.key_start x) (h.is x)) ∙ drop-append_seam h.front (h.key ++ (h.lead ++ (h.prelude ++ v))) in
        let key_is : between text q.keyword.start q.keyword.end ≡ h.key =
        (λ x. take (size x) (behind x)) ∙ take-append_seam h.key (h.lead ++ (h.prelude ++ v)) in
        ap (spaces_by text) found ∙ ap spaces_behind key_is

    loose : 0 < length h.lead → spaces_at text m.prelude.start ≡ []
    loose some =
        ap (spaces_by text)
        (ap (find (ends_keyword m.prelude.start)) h.cut
        ∙ find_none m.prelude.start (0 + length h.front) h.hi xs q.keyword h.blanks h.others all_before (omega (arith, h.start, h.some))
        (omega (arith, h.start, h.key_end, some)) h.passed others_behind)

    made : NewKey h.key h.lead (spaces_at text m.prelude.start) (put ++ v)
    made = new_key h.key h.lead (h.prelude ++ v) (spaces_at text m.prelude.start) (put ++ v) q.keyword.kind (ap is_at_keyword known.at)
        h.found (omega (arith, length-append h.prelude v, length-append h.gap (123 ∷ h.rest))) h.open_lead
        (spaces_white text (find (ends_keyword m.prelude.start) (pieces text))) tight says

    last : keyword_end text m.prelude.start ≡ q.keyword.end
    last =
        ap (fold (last_end m.prelude.start) 0) h.cut
        ∙ end_found m.prelude.start h.hi xs q.keyword h.blanks h.others known.at (omega (arith, h.start, h.key_end)) h.passed others_behind

-- the new text behind what stands before the keyword
key_tail : (front key lead old put spaces v name gap : List ℕ)
    → key ++ (lead ++ (spaces ++ (put ++ v))) ≡ (64 ∷ name) ++ (gap ++ (put ++ v))
    → (front ++ (key ++ lead)) ++ ((spaces ++ put) ++ v) ≡ front ++ ((64 ∷ name) ++ (gap ++ (put ++ v)))
key_tail front key lead old put spaces v name gap is =
    append_assoc front (key ++ lead) ((spaces ++ put) ++ v)
    ∙ ap (λ (x : List ℕ). front ++ x)
    (append_assoc key lead ((spaces ++ put) ++ v) ∙ ap (λ (x : List ℕ). key ++ (lead ++ x)) (append_assoc spaces put v) ∙ is)

-- where what takes the place begins, behind the spaces
gap_ends : (front key lead put spaces v name gap : List ℕ)
    → key ++ (lead ++ (spaces ++ (put ++ v))) ≡ (64 ∷ name) ++ (gap ++ (put ++ v))
    → length front + length (64 ∷ name) + length gap ≡ length (front ++ (key ++ lead)) + length spaces
gap_ends front key lead put spaces v name gap is = omega (
  arith,
  ap (λ (x : List ℕ). length x) is,
  length-append front (key ++ lead),
  length-append key lead,
  length-append key (lead ++ (spaces ++ (put ++ v))),
  length-append lead (spaces ++ (put ++ v)),
  length-append spaces (put ++ v),
  length-append (64 ∷ name) (gap ++ (put ++ v)),
  length-append gap (put ++ v),
)

-- the pieces of a text with this keyword
key_pieces : (front name tail : List ℕ) (xs : List Token)
    → first_piece ((64 ∷ name) ++ tail) ≡ Some (piece tokens.AtKeyword (length (64 ∷ name)))
    → IsWholeBefore ((64 ∷ name) ++ tail) 0 front xs
    → pieces (front ++ ((64 ∷ name) ++ tail))
    ≡ xs ++ (record { kind = tokens.AtKeyword; start = length front; end = length front + length (64 ∷ name) })
    ∷ pieces_after (length front + length (64 ∷ name)) 0 tail
key_pieces front name tail xs found whole =
    let size = length (64 ∷ name) in
    pieces_at ((64 ∷ name) ++ tail) front xs whole
    ∙ ap (λ (ys : List Token). xs ++ ys)
    (piece_first ((64 ∷ name) ++ tail) (length front) (piece tokens.AtKeyword size) found (omega arith)
    (omega (arith, length-append (64 ∷ name) tail))
    ∙ ap (λ (t : List ℕ). (record { kind = tokens.AtKeyword; start = length front; end = length front + size })
    ∷ pieces_after (length front + size) 0 t)
    (drop-append_seam (64 ∷ name) tail))

-- the reading of one text where it is another
read_there : (a b : List ℕ) (s : Sheet) → a ≡ b → sheet_of b ≡ s → sheet_of a ≡ s
read_there a b s e is = ap sheet_of e ∙ is

-- at a media rule whose way is known, where it is known what the text put in is as a prelude
media_at : (text put : List ℕ) (k : ℕ) (m : MediaRule) (made : Range) (q : MediaPart) (rs : List RuleForm) (ms : List MediaRule)
    (xs zs : List Token)
    → Way text (MediaHere text m q) None 0 (parts top_level (pieces text)) (laid_out text None 0 (pieces text)) rs ms xs zs → length ms ≡ k
    → pieces text ≡ xs ++ (q.keyword ∷ (q.prelude ++ q.brace ∷ zs)) → MediaKnown text m q
    → SpotAt text (MediaHere text m q) None 0 xs
    → (h : MediaText text m.prelude xs q.keyword q.brace zs) → KeyAt text put m h.front h.key h.lead (h.gap ++ 123 ∷ h.rest)
    → ((gap behind rest : List ℕ) (n e : ℕ) → Gap block_level gap → Gap block_level behind → n + length gap + length put + length behind ≡ e
    → n + length gap ≡ m.prelude.start + length (spaces_at text m.prelude.start) → n ≡ new_keyword_end text m.prelude.start
    → NewPrelude put gap behind rest n e made)
    → sheet_of (replaced text m.prelude (spaces_at text m.prelude.start ++ put))
    ≡ media_moved_by (sheet_of text) k made (length (spaces_at text m.prelude.start ++ put)) (Some m)
media_at text put k m made q rs ms xs zs way number old_pieces known spot h keys make =
    read_there (replaced text m.prelude own) other (media_moved_by (sheet_of text) k made (length own) (Some m))
    (replaced_at front h.prelude v own text m.prelude text_is start_is end_is)
    (reading_is text other c (keyword ∷ w.prelude) brace m k (length own) made rs ms xs zs exchanged pieces_are number cuts)
  where
    v : List ℕ
    v = h.gap ++ 123 ∷ h.rest

    spaces : List ℕ
    spaces = spaces_at text m.prelude.start

    own : List ℕ
    own = spaces ++ put

    front : List ℕ
    front = h.front ++ (h.key ++ h.lead)

    front_size : length front ≡ length h.front + length h.key + length h.lead
    front_size = omega (arith, length-append h.front (h.key ++ h.lead), length-append h.key h.lead)

    text_is : text ≡ with_head front h.prelude h.gap h.rest
    text_is = h.is ∙ ap (λ (x : List ℕ). h.front ++ x) (sym (append_assoc h.key h.lead (h.prelude ++ v)))
        ∙ sym (append_assoc h.front (h.key ++ h.lead) (h.prelude ++ v))

    start_is : m.prelude.start ≡ length front
    start_is = omega (arith, h.start, front_size)

    end_is : m.prelude.end ≡ length front + length h.prelude
    end_is = omega (arith, h.end, front_size)

    other : List ℕ
    other = with_head front own h.gap h.rest

    c : Cut
    c = head_cut front h.prelude own

    cuts : c ≡ range_cut m.prelude (length own)
    cuts = λ i. record { start = sym start_is i; end = sym end_is i; size = length own }

    name : List ℕ
    name = keys.own.name

    gap : List ℕ
    gap = keys.own.gap

    n : ℕ
    n = length h.front + length (64 ∷ name)

    keyword : Token
    keyword = record { kind = tokens.AtKeyword; start = length h.front; end = n }

    behind_key : List ℕ
    behind_key = (64 ∷ name) ++ (gap ++ (put ++ v))

    other_is : other ≡ h.front ++ behind_key
    other_is = key_tail h.front h.key h.lead h.prelude put spaces v name gap keys.own.is

    named : names_media other keyword keyword.kind ≡ true
    named =
        ap (λ (t : List ℕ). bytes_eq (map to_ascii_lowercase (unescaped t)) (codes "media"))
        (ap (λ (t : List ℕ). between t (length h.front + 1) n) other_is ∙ key_text h.front name (gap ++ (put ++ v))) ∙ keys.own.says

    gap_end : n + length gap ≡ length front + length spaces
    gap_end = gap_ends h.front h.key h.lead put spaces v name gap keys.own.is

    brace_place : ℕ
    brace_place = length front + length own + length h.gap

    brace : Token
    brace = brace_at brace_place

    w : NewPrelude put gap h.gap h.rest n brace_place made
    w = make gap h.gap h.rest n brace_place keys.own.open_gap h.blank (omega (arith, gap_end, length-append spaces put))
        (gap_end ∙ ap (λ (x : ℕ). x + length spaces) (sym start_is)) keys.end

    old_end : ℕ
    old_end = behind_brace front h.prelude h.gap

    new_end : ℕ
    new_end = behind_brace front own h.gap

    back : SamePart text other (moved_place c) old_end (old_end + length h.rest)
    back = subst (λ (t : List ℕ). SamePart t other (moved_place c) old_end (old_end + length h.rest)) (sym text_is)
        (end_stands front h.prelude own h.gap h.rest)

    same : SamePart text other (moved_place c) 0 (length front)
    same = subst (λ (t : List ℕ). SamePart t other (moved_place c) 0 (length front)) (sym text_is)
        (front_stands front h.prelude own h.gap h.rest)

    ended : moved_place c (length text) ≡ length other
    ended = ap (λ (t : List ℕ). moved_place c (length t)) text_is ∙ ends_move front h.prelude own h.gap h.rest

    old_left : zs ≡ pieces_after old_end 0 h.rest
    old_left = h.left ∙ ap (λ (x : ℕ). pieces_after x 0 h.rest) (omega (arith, front_size))

    left : pieces_after new_end 0 h.rest ≡ map (raised (moved_place c)) zs
    left = pieces_there (moved_place c) old_end new_end h.rest (moves front h.prelude own h.gap h.rest)
        ∙ ap (map (raised (moved_place c))) (sym old_left)

    front_whole : IsWholeBefore behind_key 0 h.front xs
    front_whole = front_again text h.front (h.key ++ (h.lead ++ (h.prelude ++ v))) spot.a spot.j spot.rs xs h.is
        (omega (arith, h.some, length-append h.key (h.lead ++ (h.prelude ++ v)))) h.whole spot.spot behind_key refl

    pieces_are : pieces other ≡ xs ++ ((keyword ∷ w.prelude) ++ brace ∷ map (raised (moved_place c)) zs)
    pieces_are =
        ap pieces other_is ∙ key_pieces h.front name (gap ++ (put ++ v)) xs keys.own.found front_whole
        ∙ ap (λ (ys : List Token). xs ++ keyword ∷ ys) (w.is ∙ ap (λ (ys : List Token). w.prelude ++ brace ∷ ys) left)

    put_stands : SamePart put other (λ x. n + length gap + x) 0 (length put)
    put_stands =
        let whole : other ≡ (front ++ spaces) ++ (put ++ v) =
        ap (λ (x : List ℕ). front ++ x) (append_assoc spaces put v) ∙ sym (append_assoc front spaces (put ++ v)) in
        let size : length (front ++ spaces) ≡ n + length gap = length-append front spaces ∙ sym gap_end in
        subst (λ (t : List ℕ). SamePart put t (λ x. n + length gap + x) 0 (length put)) (sym whole)
        (subst (λ (d : ℕ). SamePart put ((front ++ spaces) ++ (put ++ v)) (λ x. d + x) 0 (length put)) size
        (put_in_both (front ++ spaces) put v))

    lead : AllTokens 0 (length front) xs
    lead = widen 0 (0 + length h.front) 0 (length front) xs (omega arith) (omega (arith, front_size))
        (whole_tokens (h.key ++ (h.lead ++ (h.prelude ++ v))) 0 h.front xs h.whole)

    behind : AllTokens old_end (old_end + length h.rest) zs
    behind = subst (AllTokens old_end (old_end + length h.rest)) (sym old_left) (pieces_in old_end h.rest)

    exchanged : Exchanged text other (moved_place c) (keyword ∷ w.prelude) brace [] [] (m ∷ []) (repreluded made m ∷ []) None 0
        (parts top_level (pieces text)) (laid_out text None 0 (pieces text)) rs ms xs zs
    exchanged =
        exchange text other c old_end (old_end + length h.rest) same back ended (MediaHere text m q) (q.keyword ∷ q.prelude)
        (keyword ∷ w.prelude) q.brace brace (media_starts text m q) known.curly refl known.none
        (plain_and keyword w.prelude refl refl w.nested) [] [] (m ∷ []) (repreluded made m ∷ []) refl
        (media_target text other m q old_end (old_end + length h.rest) c back ended keyword w.prelude brace refl named refl
        (λ rest. w.ends brace rest refl) made (w.read other keyword refl put_stands))
        None 0 (parts top_level (pieces text)) (laid_out text None 0 (pieces text)) rs ms xs zs way
        (flat_of top_level (parts top_level (pieces text)) (pieces text) (parts_spelled top_level (pieces text))).1 lead behind

-- at media rule k
media_known : (text put : List ℕ) (k : ℕ) (m : MediaRule) (made : Range) → slice_get (sheet_of text).media k ≡ Some m
    → ((gap behind rest : List ℕ) (n e : ℕ) → Gap block_level gap → Gap block_level behind → n + length gap + length put + length behind ≡ e
    → n + length gap ≡ m.prelude.start + length (spaces_at text m.prelude.start) → n ≡ new_keyword_end text m.prelude.start
    → NewPrelude put gap behind rest n e made)
    → sheet_of (replaced text m.prelude (spaces_at text m.prelude.start ++ put))
    ≡ moved_media (sheet_of text) k made (length (spaces_at text m.prelude.start ++ put))
media_known text put k m made e make =
    media_at text put k m made way.q way.rs way.ms way.xs way.zs way.way way.number old_pieces known spot h
    (key_at text put m way.q way.xs way.zs old_pieces known h) make
    ∙ ap (media_moved_by (sheet_of text) k made (length (spaces_at text m.prelude.start ++ put))) (sym e)
  where
    ps : List PartForm
    ps = parts top_level (pieces text)

    ls : List Laid
    ls = laid_out text None 0 (pieces text)

    both : (pieces text ≡ flat ps) × AreFlat top_level ps
    both = flat_of top_level ps (pieces text) (parts_spelled top_level (pieces text))

    way : MediaWay text m None 0 ps ls k
    way = media_way text m None 0 ps ls (laid_spelled text None 0 (pieces text)) k e

    head : List Token
    head = way.q.keyword ∷ way.q.prelude

    spot : SpotAt text (MediaHere text m way.q) None 0 way.xs
    spot = spot_at text (MediaHere text m way.q) head way.q.brace
        (media_starts text m way.q) None 0 ps ls way.rs way.ms way.xs way.zs way.way
        both.1

    known : MediaKnown text m way.q
    known = media_there text m way.q None 0 way.xs spot

    old_pieces : pieces text ≡ way.xs ++ (way.q.keyword ∷ (way.q.prelude ++ way.q.brace ∷ way.zs))
    old_pieces = both.0
        ∙ way_flat text (MediaHere text m way.q) head way.q.brace
        (media_starts text m way.q) None 0 ps ls way.rs way.ms way.xs way.zs way.way

    h : MediaText text m.prelude way.xs way.q.keyword way.q.brace way.zs
    h = subst (λ (r : Range). MediaText text r way.xs way.q.keyword way.q.brace way.zs) known.prelude
        (media_text text way.xs way.q.keyword way.q.prelude way.q.brace way.zs old_pieces known.curly)

-- where the text put in has words
pub media_holds : (text put : List ℕ) (k : ℕ) (m : MediaRule) (head : Range) → slice_get (sheet_of text).media k ≡ Some m
    → is_sealed_prelude put ≡ true → ends_in_return put ≡ false → range_of (words_of put) ≡ Some head
    → sheet_of (replaced text m.prelude (spaces_at text m.prelude.start ++ put))
    ≡ moved_media (sheet_of text) k (placed_range (λ place. m.prelude.start + length (spaces_at text m.prelude.start) + place) head)
    (length (spaces_at text m.prelude.start ++ put))
media_holds text put k m head e sealed no_return spans =
    media_known text put k m (placed_range (λ place. m.prelude.start + length (spaces_at text m.prelude.start) + place) head) e
    (λ gap behind rest n place open_gap blank at start ends.
    subst (λ (g : ℕ). NewPrelude put gap behind rest n place (placed_range (λ x. g + x) head)) start
    (with_words put gap behind rest n place head sealed no_return spans open_gap blank at))

-- where it has none
pub blank_holds : (text put : List ℕ) (k : ℕ) (m : MediaRule) → slice_get (sheet_of text).media k ≡ Some m
    → is_sealed_prelude put ≡ true → ends_in_return put ≡ false → range_of (words_of put) ≡ None
    → sheet_of (replaced text m.prelude (spaces_at text m.prelude.start ++ put))
    ≡ moved_media (sheet_of text) k (range (new_keyword_end text m.prelude.start) (new_keyword_end text m.prelude.start))
    (length (spaces_at text m.prelude.start ++ put))
blank_holds text put k m e sealed no_return spans =
    media_known text put k m (range (new_keyword_end text m.prelude.start) (new_keyword_end text m.prelude.start)) e
    (λ gap behind rest n place open_gap blank at start ends.
    subst (λ (x : ℕ). NewPrelude put gap behind rest n place (range x x)) ends
    (without_words put gap behind rest n place sealed no_return spans open_gap blank at))
