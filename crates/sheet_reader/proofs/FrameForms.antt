-- A sheet that is being read says in the end what it says before and after each part.
use Rattle.std.proofs.Common.{◌≡◌, ℕ, suc, ◌+◌, ◌<◌, Bool, true, false, cond, List, [], ◌∷◌, ◌++◌, length, take, drop, All}
use Rattle.std.proofs.Common.{Option, Some, None, get_or, refl, sym, ap, subst, ◌∙◌, append_assoc, append-nil, length-append, length-drop}
use Rattle.std.proofs.Common.{arith}
use Rattle.std.specs.Prelude.{option_to_list, option_map}
use Rattle.std.proofs.lemmas.List.Elements.{All-cons, All-head, All-tail, All-drop}
use Rattle.css_tokens.specs.declared.token.Token.{Token}
use Rattle.css_tokens.specs.declared.token.TokenKind.{TokenKind}
use Rattle.css_tokens.specs.declared.token.TokenKind.TheVariants as tokens
use Rattle.css_tokens.specs.Marks.{IsPieceOf}
use Rattle.css_tokens.specs.Pieces.{pieces}
use Rattle.selectors.proofs.Choices.{none_some, some_is}
use Rattle.sheet_reader.specs.declared.brackets.Stop.TheVariants as stops
use Rattle.sheet_reader.specs.declared.parts.Level.{Level}
use Rattle.sheet_reader.specs.declared.parts.Level.TheVariants.{Top}
use Rattle.sheet_reader.specs.declared.sheet.Sheet.{Sheet}
use Rattle.sheet_reader.specs.declared.sheet.MediaRule.{MediaRule}
use Rattle.sheet_reader.specs.Parts.{EndingForm, text_end, semicolon, block, PartForm, passed, at_rule, qualified, part_at, part_pieces}
use Rattle.sheet_reader.specs.Parts.{parts}
use Rattle.sheet_reader.specs.Parts.{parts_after, ending_pieces, is_passed, ending_at, qualified_at, part_by}
use Rattle.sheet_reader.specs.Brackets.{until}
use Rattle.sheet_reader.specs.Layout.{MediaForm, names_media, media_by, media_form, media_rule, media_of, media_in, Laid, laid, level_of}
use Rattle.sheet_reader.specs.Layout.{laid_behind, laid_to, laid_out}
use Rattle.sheet_reader.specs.Sheets.{rule_of, place_of, rules_in, places_in, sheet_of}
use Rattle.sheet_reader.specs.Frames.{FrameForm, frame, top_place, with_part, with_media, opened, laid_left, places_left, read_on}
use Rattle.sheet_reader.specs.Frames.{left_size, left_at_top, AreLeftOf, empty_sheet}
use Rattle.sheet_reader.proofs.PartLemmas.{part_front, part_some, parts_step, front_fits, front_all, all_left, all_right, block_inside}
use Rattle.sheet_reader.proofs.LayoutForms.{media_short, block_laid, rest_of, laid_step}

pub media_append : (text : List ℕ) (xs ys : List Laid) → media_in text (xs ++ ys) ≡ media_in text xs ++ media_in text ys
unfolding media_in
media_append text [] ys = refl
media_append text (l ∷ ls) ys =
    ap (λ (ms : List MediaRule). option_to_list (media_of text l) ++ ms) (media_append text ls ys)
    ∙ sym (append_assoc (option_to_list (media_of text l)) (media_in text ls) (media_in text ys))

-- the first of these media rules is the part's, if it is one
pub media_cons : (text : List ℕ) (around : Option ℕ) (p : PartForm) (ls : List Laid) (o : Option MediaForm) → media_form text p ≡ o
    → media_in text (laid around p ∷ ls) ≡ option_to_list (option_map (media_rule text around) o) ++ media_in text ls
unfolding media_in
media_cons text around p ls o e =
    ap (λ (x : Option MediaForm). option_to_list (option_map (media_rule text around) x) ++ media_in text ls) e

-- what is left behind a first part of what is left in a frame
abbrev then_left : List ℕ → ℕ → List Laid → List FrameForm → List Laid
then_left text k xs fs = xs ++ laid_left text (k + length (media_in text xs)) fs

left_none : (text : List ℕ) (around : Option ℕ) (k : ℕ) (t : Token) (ts : List Token) (fs : List FrameForm)
    → media_form text (part_at (level_of around) t ts) ≡ None
    → laid_left text k (frame around (t ∷ ts) ∷ fs)
    ≡ laid around (part_at (level_of around) t ts) ∷ laid_left text k (frame around (rest_of around t ts) ∷ fs)
left_none text around k t ts fs e =
    let p = part_at (level_of around) t ts in
    let ys = laid_out text around k (rest_of around t ts) in
    let step : laid_out text around k (t ∷ ts) ≡ laid around p ∷ ys =
    laid_step text around k t ts
    ∙ ap (λ (o : Option MediaForm). laid around p ∷ laid_behind text (block_laid text) k o
    (λ j. laid_out text around j (rest_of around t ts))) e in
    ap (λ (xs : List Laid). then_left text k xs fs) step
    ∙ ap (λ (ms : List MediaRule). laid around p ∷ (ys ++ laid_left text (k + length ms) fs)) (media_cons text around p ys None e)

left_some : (text : List ℕ) (around : Option ℕ) (k : ℕ) (t : Token) (ts : List Token) (fs : List FrameForm) (m : MediaForm)
    → media_form text (part_at (level_of around) t ts) ≡ Some m
    → laid_left text k (frame around (t ∷ ts) ∷ fs)
    ≡ laid around (part_at (level_of around) t ts)
    ∷ laid_left text (suc k) (frame (Some k) m.inside ∷ frame around (rest_of around t ts) ∷ fs)
left_some text around k t ts fs m e =
    let p = part_at (level_of around) t ts in
    let w = block_laid text k m.inside in
    let n = suc k + length (media_in text w) in
    let ys = laid_out text around n (rest_of around t ts) in
    let step : laid_out text around k (t ∷ ts) ≡ laid around p ∷ (w ++ ys) =
    laid_step text around k t ts
    ∙ ap (λ (o : Option MediaForm). laid around p ∷ laid_behind text (block_laid text) k o
    (λ j. laid_out text around j (rest_of around t ts))) e in
    let first = ap (λ (ms : List MediaRule). length ms) (media_cons text around p (w ++ ys) (Some m) e) in
    let both = ap (λ (ms : List MediaRule). length ms) (media_append text w ys) ∙ length-append (media_in text w) (media_in text ys) in
    let count : k + length (media_in text (laid around p ∷ (w ++ ys))) ≡ n + length (media_in text ys) = omega (arith, first, both) in
    ap (λ (xs : List Laid). then_left text k xs fs) step
    ∙ ap (λ (j : ℕ). laid around p ∷ ((w ++ ys) ++ laid_left text j fs)) count
    ∙ ap (λ (xs : List Laid). laid around p ∷ xs) (append_assoc w ys (laid_left text (n + length (media_in text ys)) fs))

left_places : (text : List ℕ) (around : Option ℕ) (t : Token) (ts : List Token) (fs : List FrameForm) (before : List ℕ)
    → before ++ places_left text (frame around (t ∷ ts) ∷ fs)
    ≡ (before ++ option_to_list (top_place text around (part_at (level_of around) t ts)))
    ++ places_left text (frame around (rest_of around t ts) ∷ fs)
unfolding places_in
left_places text (Some place) t ts fs before = ap (λ (ns : List ℕ). ns ++ places_left text fs) (sym (append-nil before))
left_places text None t ts fs before =
    let p = part_at Top t ts in
    let own = option_to_list (place_of text p) in
    let others = places_in text (parts Top (rest_of None t ts)) in
    ap (λ (ps : List PartForm). before ++ (places_in text ps ++ places_left text fs)) (parts_step Top t ts)
    ∙ ap (λ (ns : List ℕ). before ++ ns) (append_assoc own others (places_left text fs))
    ∙ sym (append_assoc before own (others ++ places_left text fs))

one_more : (xs : List MediaRule) (x : MediaRule) → suc (length xs) ≡ length (xs ++ x ∷ [])
one_more xs x = let n = length-append xs (x ∷ []) in omega (arith, n)

-- a first part passes from what is left to what the sheet says
pub part_passes : (text : List ℕ) (around : Option ℕ) (t : Token) (ts : List Token) (fs : List FrameForm) (s : Sheet) (o : Option MediaForm)
    → media_form text (part_at (level_of around) t ts) ≡ o
    → read_on text (with_media text around o (with_part text around (part_at (level_of around) t ts) s))
    (opened (length s.media) o (frame around (rest_of around t ts) ∷ fs))
    ≡ read_on text s (frame around (t ∷ ts) ∷ fs)
unfolding rules_in
part_passes text around t ts fs s None e =
    let p = part_at (level_of around) t ts in
    let k = length s.media in
    let new = laid_left text k (frame around (rest_of around t ts) ∷ fs) in
    let left = left_none text around k t ts fs e in
    let rules : (s.rules ++ option_to_list (rule_of text around p)) ++ rules_in text new
    ≡ s.rules ++ rules_in text (laid_left text k (frame around (t ∷ ts) ∷ fs)) =
    append_assoc s.rules (option_to_list (rule_of text around p)) (rules_in text new)
    ∙ ap (λ (ls : List Laid). s.rules ++ rules_in text ls) (sym left) in
    let media : s.media ++ media_in text new ≡ s.media ++ media_in text (laid_left text k (frame around (t ∷ ts) ∷ fs)) =
    ap (λ (ms : List MediaRule). s.media ++ ms)
    (sym (ap (media_in text) left ∙ media_cons text around p new None e)) in
    let places = sym (left_places text around t ts fs s.places) in
    λ i. record { rules = rules i; places = places i; media = media i }
part_passes text around t ts fs s (Some m) e =
    let p = part_at (level_of around) t ts in
    let k = length s.media in
    let r = media_rule text around m in
    let now = frame (Some k) m.inside ∷ frame around (rest_of around t ts) ∷ fs in
    let new = laid_left text (suc k) now in
    let left = left_some text around k t ts fs m e in
    let count = one_more s.media r in
    let rules : (s.rules ++ option_to_list (rule_of text around p)) ++ rules_in text (laid_left text (length (s.media ++ r ∷ [])) now)
    ≡ s.rules ++ rules_in text (laid_left text k (frame around (t ∷ ts) ∷ fs)) =
    ap (λ (j : ℕ). (s.rules ++ option_to_list (rule_of text around p)) ++ rules_in text (laid_left text j now)) (sym count)
    ∙ append_assoc s.rules (option_to_list (rule_of text around p)) (rules_in text new)
    ∙ ap (λ (ls : List Laid). s.rules ++ rules_in text ls) (sym left) in
    let media : (s.media ++ r ∷ []) ++ media_in text (laid_left text (length (s.media ++ r ∷ [])) now)
    ≡ s.media ++ media_in text (laid_left text k (frame around (t ∷ ts) ∷ fs)) =
    ap (λ (j : ℕ). (s.media ++ r ∷ []) ++ media_in text (laid_left text j now)) (sym count)
    ∙ append_assoc s.media (r ∷ []) (media_in text new)
    ∙ ap (λ (ms : List MediaRule). s.media ++ ms)
    (sym (ap (media_in text) left ∙ media_cons text around p new (Some m) e)) in
    let places = sym (left_places text around t ts fs s.places) in
    λ i. record { rules = rules i; places = places i; media = media i }

-- less is left
pub part_less : (text : List ℕ) (around : Option ℕ) (k : ℕ) (t : Token) (ts : List Token) (fs : List FrameForm) (o : Option MediaForm)
    → media_form text (part_at (level_of around) t ts) ≡ o
    → left_size (opened k o (frame around (rest_of around t ts) ∷ fs)) < left_size (frame around (t ∷ ts) ∷ fs)
part_less text around k t ts fs None e =
    let p = part_at (level_of around) t ts in
    let some = part_some (level_of around) t ts in
    let cut = length-drop (length (part_pieces p)) (t ∷ ts) in
    omega (arith, some, cut)
part_less text around k t ts fs (Some m) e =
    let p = part_at (level_of around) t ts in
    let short = media_short text p m e in
    let own = front_fits (part_pieces p) (t ∷ ts) (part_front (level_of around) t ts) in
    let cut = length-drop (length (part_pieces p)) (t ∷ ts) in
    omega (arith, short, own, cut)

-- ---- what is left are pieces of the text

media_all : (P : Token → Type 0) (keyword : Token) (prelude : List Token) (ending : EndingForm) (m : MediaForm)
    → media_by keyword prelude ending ≡ Some m → All P (part_pieces (at_rule keyword prelude ending)) → All P m.prelude × All P m.inside
media_all P keyword prelude text_end m e all = absurd (none_some m e)
media_all P keyword prelude (semicolon t) m e all = absurd (none_some m e)
media_all P keyword prelude (block first inside close) m e all =
    let same = some_is (record { keyword = keyword; prelude = prelude; inside = inside }) m e in
    let behind = All-tail P keyword (prelude ++ ending_pieces (block first inside close)) all in (
      subst (λ (x : MediaForm). All P x.prelude) same (all_left P prelude (ending_pieces (block first inside close)) behind),
      subst (λ (x : MediaForm). All P x.inside) same
          (block_inside P first inside close (all_right P prelude (ending_pieces (block first inside close)) behind)),
    )

-- the pieces of a media rule are those of its part
pub form_all : (P : Token → Type 0) (text : List ℕ) (p : PartForm) (m : MediaForm) → media_form text p ≡ Some m → All P (part_pieces p)
    → All P m.prelude × All P m.inside
unfolding media_form
form_all P text (passed t) m e all = absurd (none_some m e)
form_all P text (qualified prelude ending) m e all = absurd (none_some m e)
form_all P text (at_rule keyword prelude ending) m e all = by (names_media text keyword keyword.kind) e
  where
    by : (b : Bool) → cond b (media_by keyword prelude ending) None ≡ Some m → All P m.prelude × All P m.inside
    by false e = absurd (none_some m e)
    by true e = media_all P keyword prelude ending m e all

pub part_stays : (text : List ℕ) (around : Option ℕ) (k : ℕ) (t : Token) (ts : List Token) (fs : List FrameForm) (o : Option MediaForm)
    → media_form text (part_at (level_of around) t ts) ≡ o → AreLeftOf text (frame around (t ∷ ts) ∷ fs)
    → AreLeftOf text (opened k o (frame around (rest_of around t ts) ∷ fs))
part_stays text around k t ts fs o e all = by o e
  where
    Own : FrameForm → Type 0
    Own f = All (IsPieceOf text) f.left

    first : All (IsPieceOf text) (t ∷ ts)
    first = All-head Own (frame around (t ∷ ts)) fs all

    rest : AreLeftOf text (frame around (rest_of around t ts) ∷ fs)
    rest = All-cons Own (frame around (rest_of around t ts)) fs
        (All-drop (IsPieceOf text) (length (part_pieces (part_at (level_of around) t ts))) (t ∷ ts) first)
        (All-tail Own (frame around (t ∷ ts)) fs all)

    by : (x : Option MediaForm) → media_form text (part_at (level_of around) t ts) ≡ x
        → AreLeftOf text (opened k x (frame around (rest_of around t ts) ∷ fs))
    by None e = rest
    by (Some m) e = All-cons Own (frame (Some k) m.inside) (frame around (rest_of around t ts) ∷ fs)
        (form_all (IsPieceOf text) text (part_at (level_of around) t ts) m e
        (front_all (IsPieceOf text) (part_pieces (part_at (level_of around) t ts)) (t ∷ ts) (part_front (level_of around) t ts) first)).1
        rest

-- ---- an empty frame, the beginning and the end

pub frame_over : (text : List ℕ) (around : Option ℕ) (s : Sheet) (fs : List FrameForm)
    → read_on text s fs ≡ read_on text s (frame around [] ∷ fs)
unfolding laid_to media_in parts_after places_in
frame_over text None s fs =
    let none : length s.media ≡ length s.media + 0 = omega arith in
    λ i. record {
      rules = s.rules ++ rules_in text (laid_left text (none i) fs);
      places = s.places ++ places_left text fs;
      media = s.media ++ media_in text (laid_left text (none i) fs);
    }
frame_over text (Some place) s fs =
    let none : length s.media ≡ length s.media + 0 = omega arith in
    λ i. record {
      rules = s.rules ++ rules_in text (laid_left text (none i) fs);
      places = s.places ++ places_left text fs;
      media = s.media ++ media_in text (laid_left text (none i) fs);
    }

pub read_begins : (text : List ℕ) → read_on text empty_sheet (frame None (pieces text) ∷ []) ≡ sheet_of text
read_begins text =
    let laid_same = append-nil (laid_out text None 0 (pieces text)) in
    let places_same = append-nil (places_in text (parts Top (pieces text))) in
    λ i. record {
      rules = rules_in text (laid_same i);
      places = 0 ∷ places_same i;
      media = media_in text (laid_same i);
    }

pub read_ends : (text : List ℕ) (s : Sheet) → read_on text s [] ≡ s
unfolding rules_in media_in
read_ends text s =
    let rules = append-nil s.rules in
    let places = append-nil s.places in
    let media = append-nil s.media in
    λ i. record { rules = rules i; places = places i; media = media i }

-- ---- one step of reading

pub record Passed (text : List ℕ) (now : List FrameForm) (s new_sheet : Sheet) (new_frames : List FrameForm) : Type 0 where
  pub same : read_on text new_sheet new_frames ≡ read_on text s now
  pub smaller : left_size new_frames < left_size now
  pub each : AreLeftOf text new_frames

pub first_all : (text : List ℕ) (f : FrameForm) (fs : List FrameForm) → AreLeftOf text (f ∷ fs) → All (IsPieceOf text) f.left
first_all text f fs all = All-head (λ (x : FrameForm). All (IsPieceOf text) x.left) f fs all

pub others_all : (text : List ℕ) (f : FrameForm) (fs : List FrameForm) → AreLeftOf text (f ∷ fs) → AreLeftOf text fs
others_all text f fs all = All-tail (λ (x : FrameForm). All (IsPieceOf text) x.left) f fs all

pub part_done : (text : List ℕ) (around : Option ℕ) (level : Level) (left rest : List Token) (d : Token) (part : PartForm) (n : ℕ)
    (fs mid_frames new_frames : List FrameForm) (s mid_sheet new_sheet : Sheet)
    → 0 < length left → level ≡ level_of around → part ≡ part_at level (get_or left 0 d) (drop 1 left) → n ≡ length (part_pieces part)
    → rest ≡ drop n left → mid_frames ≡ frame around rest ∷ fs → mid_sheet ≡ with_part text around part s
    → new_frames ≡ opened (length mid_sheet.media) (media_form text part) mid_frames
    → new_sheet ≡ with_media text around (media_form text part) mid_sheet
    → AreLeftOf text (frame around left ∷ fs) → Passed text (frame around left ∷ fs) s new_sheet new_frames
part_done text around level [] rest d part n fs mid_frames new_frames s mid_sheet new_sheet some is_level is_part is_n is_rest is_mid_frames
    is_mid_sheet is_frames is_sheet all =
    absurd (omega (arith, some))
part_done text around level
    (t ∷ ts) rest d part n fs mid_frames new_frames s mid_sheet new_sheet some is_level is_part is_n is_rest is_mid_frames is_mid_sheet
    is_frames is_sheet all =
    let p = part_at (level_of around) t ts in
    let part_is : part ≡ p = is_part ∙ ap (λ (l : Level). part_at l t ts) is_level in
    let rest_is : rest ≡ rest_of around t ts =
    is_rest ∙ ap (λ (j : ℕ). drop j (t ∷ ts)) (is_n ∙ ap (λ (x : PartForm). length (part_pieces x)) part_is) in
    let frames_are : new_frames ≡ opened (length s.media) (media_form text p) (frame around (rest_of around t ts) ∷ fs) =
    is_frames ∙ (λ i. opened (length (is_mid_sheet i).media) (media_form text (part_is i)) (is_mid_frames i))
    ∙ ap (λ (xs : List Token). opened (length s.media) (media_form text p) (frame around xs ∷ fs)) rest_is in
    let sheet_is : new_sheet ≡ with_media text around (media_form text p) (with_part text around p s) =
    is_sheet ∙ (λ i. with_media text around (media_form text (part_is i)) (is_mid_sheet i))
    ∙ ap (λ (x : PartForm). with_media text around (media_form text p) (with_part text around x s)) part_is in
    record {
      same = (λ i. read_on text (sheet_is i) (frames_are i)) ∙ part_passes text around t ts fs s (media_form text p) refl;
      smaller = subst (λ (x : List FrameForm). left_size x < left_size (frame around (t ∷ ts) ∷ fs)) (sym frames_are)
          (part_less text around (length s.media) t ts fs (media_form text p) refl);
      each = subst (AreLeftOf text) (sym frames_are) (part_stays text around (length s.media) t ts fs (media_form text p) refl all);
    }

pub none_left : (text : List ℕ) (around : Option ℕ) (left : List Token) (s : Sheet) (fs : List FrameForm) → length left < 1
    → read_on text s fs ≡ read_on text s (frame around left ∷ fs)
none_left text around [] s fs none = frame_over text around s fs
none_left text around (t ∷ ts) s fs none = absurd (omega (arith, none))

-- ---- parts at top level in front of all media rules

plain_none : (text : List ℕ) (b : Bool) (t : Token) (ts : List Token) → media_form text (cond b (passed t) (qualified_at (t ∷ ts))) ≡ None
unfolding media_form
plain_none text true t ts = refl
plain_none text false t ts = refl

-- a part that does not begin with `media` is no media rule
unnamed_by : (text : List ℕ) (level : Level) (kind : TokenKind) (t : Token) (ts : List Token) → names_media text t t.kind ≡ false
    → media_form text (part_by level t ts kind) ≡ None
unfolding media_form
unnamed_by text level tokens.AtKeyword t ts e =
    let prelude = take (until stops.BlockOrSemicolon ts) ts in
    let ending = ending_at (drop (until stops.BlockOrSemicolon ts) ts) in
    ap (λ (b : Bool). cond b (media_by t prelude ending) None) e
unnamed_by text level kind t ts e = plain_none text (is_passed level kind) t ts

unnamed : (text : List ℕ) (level : Level) (t : Token) (ts : List Token) → names_media text t t.kind ≡ false
    → media_form text (part_at level t ts) ≡ None
unfolding part_at
unnamed text level t ts e = unnamed_by text level t.kind t ts e

-- one part more of them
pub front_more : (text : List ℕ) (left rest : List Token) (d : Token) (part : PartForm) (n : ℕ) (s new_sheet total : Sheet)
    → 0 < length left → names_media text (get_or left 0 d) (get_or left 0 d).kind ≡ false
    → part ≡ part_at Top (get_or left 0 d) (drop 1 left) → n ≡ length (part_pieces part) → rest ≡ drop n left
    → new_sheet ≡ with_part text None part s → read_on text s (left_at_top left) ≡ total
    → read_on text new_sheet (left_at_top rest) ≡ total
front_more text [] rest d part n s new_sheet total some name is_part is_n is_rest is_sheet so_far = absurd (omega (arith, some))
front_more text (t ∷ ts) rest d part n s new_sheet total some name is_part is_n is_rest is_sheet so_far =
    let count = is_n ∙ ap (λ (x : PartForm). length (part_pieces x)) is_part in
    let rest_is : rest ≡ rest_of None t ts = is_rest ∙ ap (λ (j : ℕ). drop j (t ∷ ts)) count in
    let sheet_is : new_sheet ≡ with_part text None (part_at Top t ts) s =
    is_sheet ∙ ap (λ (x : PartForm). with_part text None x s) is_part in
    (λ i. read_on text (sheet_is i) (left_at_top (rest_is i)))
    ∙ part_passes text None t ts [] s None (unnamed text Top t ts name) ∙ so_far

-- what is said of the whole text, where this is left behind its front
pub front_read : (text : List ℕ) (all left : List Token) (begun front : Sheet) → all ≡ pieces text → begun ≡ empty_sheet
    → read_on text front (left_at_top left) ≡ read_on text begun (left_at_top all)
    → read_on text front (left_at_top left) ≡ sheet_of text
front_read text all left begun front is_all is_begun same =
    same ∙ (λ i. read_on text (is_begun i) (left_at_top (is_all i))) ∙ read_begins text
