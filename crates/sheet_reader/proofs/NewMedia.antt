-- Where the prelude of a media rule is replaced by a sealed text with no `{` or `;` outside brackets, the media rule is there.
use Rattle.std.proofs.Common.{◌≡◌, ℕ, suc, ◌+◌, ◌-◌, ◌<◌, ◌≤◌, true, false, List, [], ◌∷◌, ◌++◌, map}
use Rattle.std.proofs.Common.{length, take, drop, Option, Some, None, refl, sym, ap, subst, ◌∙◌, append_assoc, length-append}
use Rattle.std.proofs.Common.{arith}
use Rattle.std.specs.Prelude.{slice_get, option_map, option_to_list, codes, IsSome}
use Rattle.std.specs.List.{find}
use Rattle.std.specs.Char.{to_ascii_lowercase}
use Rattle.std.specs.Str.{bytes_eq}
use Rattle.std.proofs.lemmas.List.{take-append-drop}
use Rattle.std.proofs.Math.Seq.{drop-append_seam, take-append_seam}
use Rattle.css_tokens.specs.declared.token.Token.{Token}
use Rattle.css_tokens.specs.declared.token.TokenKind.TheVariants as tokens
use Rattle.css_tokens.specs.Escapes.{unescaped}
use Rattle.css_tokens.specs.Pieces.{pieces, pieces_after}
use Rattle.css_tokens.specs.Rows.{piece}
use Rattle.css_tokens.specs.Seams.{IsWholeBefore}
use Rattle.css_tokens.proofs.Cuts.{piece_first}
use Rattle.css_tokens.proofs.SeamPieces.{pieces_at}
use Rattle.selectors.specs.Words.{words_after, between}
use Rattle.selectors.specs.Reading.{range_of}
use Rattle.sheet_reader.specs.declared.brackets.Bracket.{Bracket}
use Rattle.sheet_reader.specs.declared.brackets.Stop.TheVariants as stops
use Rattle.sheet_reader.specs.declared.parts.Level.TheVariants.{Inner}
use Rattle.sheet_reader.specs.declared.sheet.MediaRule.{MediaRule}
use Rattle.sheet_reader.specs.Brackets.{opened_by, closed_by, stops_at, until_in, until}
use Rattle.sheet_reader.specs.Forms.{RuleForm}
use Rattle.sheet_reader.specs.Grammar.{outside, AreValues, EndsBefore, IsEnding, in_block, in_open_block, IsPart, passed_part, at_rule_part}
use Rattle.sheet_reader.specs.Grammar.{AreNested, plain_and, is_at_keyword}
use Rattle.sheet_reader.specs.Layout.{names_media, MediaForm, media_form, media_rule, media_of, media_in, Laid, laid, level_of, laid_out}
use Rattle.sheet_reader.specs.Layout.{prelude_range, media_laid}
use Rattle.sheet_reader.specs.Moves.{replaced}
use Rattle.sheet_reader.specs.Preludes.{KeepsMedia, ends_keyword, spaces_behind, spaces_by, spaces_at}
use Rattle.sheet_reader.specs.Parts.{block, PartForm, passed, at_rule, parts}
use Rattle.sheet_reader.specs.Sealing.{is_sealed_prelude}
use Rattle.sheet_reader.specs.Sheets.{sheet_of}
use Rattle.sheet_reader.proofs.FrameForms.{media_append}
use Rattle.sheet_reader.proofs.Gaps.{AllPassed}
use Rattle.sheet_reader.proofs.Gaps.{gap_of, skips}
use Rattle.sheet_reader.proofs.GrammarForms.{parts_spelled}
use Rattle.sheet_reader.proofs.KeyNames.{SaysMedia, KeyName, key_name}
use Rattle.sheet_reader.proofs.LayoutForms.{laid_spelled}
use Rattle.sheet_reader.proofs.MadePreludes.{Placed, placed_with, ends_whole, front_same, curly_on}
use Rattle.sheet_reader.proofs.MediaPreludes.{new_prelude}
use Rattle.sheet_reader.proofs.MediaSpots.{spot_other, LedLaid, out_is, laid_past, reads_laid}
use Rattle.sheet_reader.proofs.MediaStarts.{StartFrom, from_append, laid_from, up_to_all}
use Rattle.sheet_reader.proofs.UsableForms.{sheet_usable}
use Rattle.std.specs.Str.{IsUtf8}
use Rattle.std.specs.List.{prefix_len}
use Rattle.std.specs.Prelude.{nat_le}
use Rattle.css_tokens.specs.declared.token.Range.{Range}
use Rattle.selectors.specs.Ranges.{AreBetween}
use Rattle.sheet_reader.proofs.ReadMoves.{tokens_split}
use Rattle.sheet_reader.proofs.OldMedia.{OldMedia, old_media}
use Rattle.sheet_reader.proofs.PreludeWords.{passed_nested, nested_append}
use Rattle.sheet_reader.proofs.PutPieces.{WholeParts, whole_split}
use Rattle.sheet_reader.proofs.ReadMoves.{AllTokens}
use Rattle.sheet_reader.proofs.SpotEnds.{strip}
use Rattle.sheet_reader.proofs.Spots.{Spot, nested_stays, closing, media_named, cut_is, values_at}
use Rattle.sheet_reader.proofs.TextMoves.{whole_tokens}
use Rattle.sheet_reader.proofs.ValueForms.{until_splits}
use Rattle.sheet_reader.proofs.WordMoves.{SamePart}
use Rattle.sheet_reader.proofs.NewKeys.{spaces_for, NewKey, new_key, key_text, spaces_white, find_key}

-- ---- the media rule at a place between parts

no_media_in : (text : List ℕ) → media_in text [] ≡ []
unfolding media_in
no_media_in text = refl

-- it has this keyword and this prelude
abbrev IsMedia : List ℕ → Token → List Token → Laid → Type 0
IsMedia text keyword prelude l =
    (m : MediaRule) × (media_of text l ≡ Some m) × (m.prelude ≡ prelude_range keyword (range_of (words_after text false prelude)))

module _ (text : List ℕ) (a : Option ℕ) (j : ℕ) (keyword : Token) (prelude : List Token) (brace : Token)
    (at : keyword.kind ≡ tokens.AtKeyword)
    (named : names_media text keyword keyword.kind ≡ true) (curly : brace.kind ≡ tokens.OpenCurly)
    (ends : (rest : List Token) → until stops.BlockOrSemicolon (prelude ++ brace ∷ rest) ≡ length prelude) (hi : ℕ) where
  led_by : (zs inside : List Token) (last : Option Token) (rest : List Token) → zs ≡ inside ++ (option_to_list last ++ rest)
      → IsEnding (block brace inside last) rest → AllTokens brace.end hi zs
      → LedLaid text (IsMedia text keyword prelude) brace.end j j (laid_out text a j (keyword ∷ (prelude ++ brace ∷ zs)))
  led_by zs inside last rest cut closed all =
      let p : PartForm = at_rule keyword prelude (block brace inside last) in
      let m : MediaForm = record { keyword = keyword; prelude = prelude; inside = inside } in
      let within = laid_out text (Some j) (suc j) inside in
      let i = suc j + length (media_in text within) in
      let ls = laid_out text a i rest in
      let part : IsPart (level_of a) p rest = at_rule_part keyword prelude (block brace inside last) at
      (record {
        values = values_at stops.BlockOrSemicolon prelude (brace ∷ ((inside ++ option_to_list last) ++ rest))
            (ends ((inside ++ option_to_list last) ++ rest));
        stopped = ap (stops_at stops.BlockOrSemicolon) curly;
        ends = closed;
      }) in
      let form : media_form text p ≡ Some m = media_named text keyword prelude brace inside last named in
      let both = tokens_split brace.end hi inside (option_to_list last ++ rest) (subst (AllTokens brace.end hi) cut all) in
      let left = tokens_split brace.end hi (option_to_list last) rest both.1 in
      let out = out_is text (IsMedia text keyword prelude) brace.end hi a j p (keyword ∷ (prelude ++ brace ∷ zs)) rest
      (laid a p ∷ (within ++ ls))
      (ap (λ (l : List Token). keyword ∷ l) (sym (append_assoc prelude (brace ∷ []) zs))
      ∙ cut_is keyword brace prelude [] zs inside (option_to_list last) rest cut) part
      (media_laid p m (parts Inner inside) (parts (level_of a) rest) within ls form (parts_spelled Inner inside)
      (laid_spelled text (Some j) (suc j) inside) (laid_spelled text a i rest)) in
      record {
        before = [];
        here = laid a p;
        after = within ++ ls;
        is = sym out;
        count = omega (arith, ap (λ (ms : List MediaRule). length ms) (no_media_in text));
        own = (media_rule text a m, ap (option_map (media_rule text a)) form, refl);
        behind = subst (StartFrom brace.end) (sym (media_append text within ls))
            (from_append brace.end (media_in text within) (media_in text ls) (laid_from text brace.end hi (Some j) (suc j) inside both.0)
            (laid_from text brace.end hi a i rest left.1));
      }

  led_here : (zs : List Token) → AllTokens brace.end hi zs
      → LedLaid text (IsMedia text keyword prelude) brace.end j j (laid_out text a j (keyword ∷ (prelude ++ brace ∷ zs)))
  led_here zs all = by (drop n zs) refl
    where
      n : ℕ
      n = until stops.BlockEnd zs

      by : (left : List Token) → drop n zs ≡ left
          → LedLaid text (IsMedia text keyword prelude) brace.end j j (laid_out text a j (keyword ∷ (prelude ++ brace ∷ zs)))
      by [] e =
          let s = until_splits stops.BlockEnd zs in
          led_by zs (take n zs) None [] (sym (take-append-drop n zs) ∙ ap (λ (l : List Token). take n zs ++ l) e)
          (in_open_block brace (take n zs) curly (subst (AreValues (outside stops.BlockEnd) (take n zs)) e s.values) refl) all
      by (c ∷ rest) e =
          let s = until_splits stops.BlockEnd zs in
          led_by zs (take n zs) (Some c) rest (sym (take-append-drop n zs) ∙ ap (λ (l : List Token). take n zs ++ l) e)
          (in_block brace c (take n zs) curly (subst (AreValues (outside stops.BlockEnd) (take n zs)) e s.values)
          (closing c.kind (subst (EndsBefore (outside stops.BlockEnd)) e s.stopped))) all

  led_behind : (lead : List Token) → AllPassed (level_of a) lead → (zs : List Token) → AllTokens brace.end hi zs
      → LedLaid text (IsMedia text keyword prelude) brace.end j j (laid_out text a j (lead ++ keyword ∷ (prelude ++ brace ∷ zs)))
  unfolding media_form
  led_behind [] all zs left = led_here zs left
  led_behind (x ∷ lead) all zs left =
      let rest = lead ++ keyword ∷ (prelude ++ brace ∷ zs) in
      laid_past text (IsMedia text keyword prelude) brace.end hi a j j (passed x) (x ∷ rest) rest refl (passed_part x all.0) refl
      (led_behind lead all.1 zs left)

  -- so it is there, with so many media rules before it
  pub media_there : (rs : List RuleForm) (own lead : List Token) → Spot text None 0 a j rs own → AllPassed (level_of a) lead
      → AreNested prelude
      → (zs : List Token) → AllTokens brace.end hi zs
      → LedLaid text (IsMedia text keyword prelude) brace.end 0 j
      (laid_out text None 0 (own ++ (lead ++ keyword ∷ (prelude ++ brace ∷ zs))))
  media_there rs own lead spot quiet nested zs left =
      subst (λ (l : List Token). LedLaid text (IsMedia text keyword prelude) brace.end 0 j (laid_out text None 0 (own ++ l))) (core_is zs)
      (reads_laid text core (IsMedia text keyword prelude) brace.end hi a j stays leads rs own spot zs left)
    where
      core : List Token
      core = lead ++ (keyword ∷ (prelude ++ brace ∷ []))

      core_is : (ys : List Token) → core ++ ys ≡ lead ++ keyword ∷ (prelude ++ brace ∷ ys)
      core_is ys = append_assoc lead (keyword ∷ (prelude ++ brace ∷ [])) ys
          ∙ ap (λ (l : List Token). lead ++ keyword ∷ l) (append_assoc prelude (brace ∷ []) ys)

      plain : AreNested (keyword ∷ prelude)
      plain = plain_and keyword prelude (ap opened_by at) (ap closed_by at) nested

      all : AreNested (lead ++ keyword ∷ prelude)
      all = nested_append lead (keyword ∷ prelude) (passed_nested (level_of a) lead quiet) plain

      stays : (bs : List Bracket) (ys : List Token) → length core ≤ until_in stops.BlockEnd bs (core ++ ys)
      stays bs ys =
          let cut : until_in stops.BlockEnd bs (core ++ ys) ≡ until_in stops.BlockEnd bs ((lead ++ keyword ∷ prelude) ++ brace ∷ ys) =
          ap (until_in stops.BlockEnd bs) (core_is ys ∙ sym (append_assoc lead (keyword ∷ prelude) (brace ∷ ys))) in
          let on = nested_stays (lead ++ keyword ∷ prelude) all bs (brace ∷ ys) in
          let one = curly_on bs brace ys curly in
          let size : length core ≡ length (lead ++ keyword ∷ prelude) + 1 =
          ap (λ (l : List Token). length l) (sym (append_assoc lead (keyword ∷ prelude) (brace ∷ [])))
          ∙ length-append (lead ++ keyword ∷ prelude) (brace ∷ []) in
          omega (arith, cut, on, one, size)

      leads : (ys : List Token) → AllTokens brace.end hi ys
          → LedLaid text (IsMedia text keyword prelude) brace.end j j (laid_out text a j (core ++ ys))
      leads ys more =
          subst (λ (l : List Token). LedLaid text (IsMedia text keyword prelude) brace.end j j (laid_out text a j l)) (sym (core_is ys))
          (led_behind lead quiet ys more)

-- ---- put together

some_at : (k : ℕ) (text : List ℕ) (ls : List Laid) (m : MediaRule) (here : Laid) (before after : List Laid)
    → ls ≡ before ++ here ∷ after → length (media_in text before) ≡ k → media_of text here ≡ Some m
    → slice_get (media_in text ls) k ≡ Some m
unfolding media_in
some_at k text ls m here before after is count own =
    ap (λ (xs : List Laid). slice_get (media_in text xs) k) is
    ∙ ap (λ (ms : List MediaRule). slice_get ms k) (media_append text before (here ∷ after)
    ∙ ap (λ (o : Option MediaRule). media_in text before ++ (option_to_list o ++ media_in text after)) own)
    ∙ get (media_in text before) count
  where
    get : (ms : List MediaRule) → length ms ≡ k → slice_get (ms ++ m ∷ media_in text after) k ≡ Some m
    get ms e = ap (slice_get (ms ++ m ∷ media_in text after)) (sym e) ∙ own_get ms
      where
        own_get : (xs : List MediaRule) → slice_get (xs ++ m ∷ media_in text after) (length xs) ≡ Some m
        own_get [] = refl
        own_get (x ∷ xs) = own_get xs

media_split : (text : List ℕ) (ls : List Laid) (m : MediaRule) (here : Laid) (before after : List Laid) → ls ≡ before ++ here ∷ after
    → media_of text here ≡ Some m → media_in text ls ≡ media_in text before ++ m ∷ media_in text after
unfolding media_in
media_split text ls m here before after is own =
    ap (media_in text) is ∙ media_append text before (here ∷ after)
    ∙ ap (λ (o : Option MediaRule). media_in text before ++ (option_to_list o ++ media_in text after)) own

-- media rule i of the new text, the last one whose prelude does not start behind a place
record MadeIn (text : List ℕ) (i place : ℕ) : Type 0 where
  rule : MediaRule
  there : slice_get (sheet_of text).media i ≡ Some rule
  last : prefix_len (λ (m : MediaRule). nat_le m.prelude.start place) (sheet_of text).media ≡ i + 1

media_made_in : (text : List ℕ) (i : ℕ) (rule : MediaRule) (o : OldMedia text i rule) (put spaces : List ℕ) → is_sealed_prelude put ≡ true
    → NewKey o.key o.lead spaces (put ++ (o.gap ++ 123 ∷ o.rest))
    → IsUtf8 (o.front ++ (o.key ++ (o.lead ++ (spaces ++ (put ++ (o.gap ++ 123 ∷ o.rest))))))
    → MadeIn (o.front ++ (o.key ++ (o.lead ++ (spaces ++ (put ++ (o.gap ++ 123 ∷ o.rest)))))) i
    (length o.front + length o.key + length o.lead + (length spaces + length put))
media_made_in text i rule o put spaces sealed key utf8 =
    let same = subst (λ (t : List ℕ). SamePart t new (λ x. x) 0 n) (sym o.is) (front_same o.front old behind) in
    let all = subst (λ (m : ℕ). AllTokens 0 m o.before) (omega arith) (whole_tokens old 0 o.front o.before o.whole) in
    let s = spot_other text new n same o.rs o.before o.spot all in
    let l = placed_with new o.a o.j o.before (strip new s.0 o.before s.1) in
    by l.0 l.1 (whole_split old 0 o.front (l.0).own (l.0).lead (subst (IsWholeBefore old 0 o.front) (l.0).is o.whole))
  where
    v : List ℕ
    v = o.gap ++ 123 ∷ o.rest

    old : List ℕ
    old = o.key ++ (o.lead ++ (o.prelude ++ v))

    behind : List ℕ
    behind = o.key ++ (o.lead ++ (spaces ++ (put ++ v)))

    new : List ℕ
    new = o.front ++ behind

    n : ℕ
    n = length o.front

    Y : List ℕ
    Y = (64 ∷ key.name) ++ (key.gap ++ (put ++ v))

    by : (l : Placed new o.before) → l.j ≡ o.j → WholeParts old 0 o.front l.own l.lead
        → MadeIn new i (length o.front + length o.key + length o.lead + (length spaces + length put))
    by l number w =
        let after = w.behind ++ old in
        let text_is : text ≡ w.front ++ after =
        o.is ∙ ap (λ (t : List ℕ). t ++ old) w.is ∙ append_assoc w.front w.behind old in
        let some : 0 < length old =
        omega (
          arith,
          length-append o.key (o.lead ++ (o.prelude ++ v)),
          length-append o.lead (o.prelude ++ v),
          length-append o.prelude v,
          length-append o.gap (123 ∷ o.rest),
        ) in
        let gap = gap_of (level_of l.a) old some (0 + length w.front) w.behind l.lead w.second l.passed in
        let k = (skips (level_of l.a) Y refl w.behind gap (length w.front)).start in
        let at : length w.front + length w.behind ≡ n = sym (length-append w.front w.behind) ∙ sym (ap length w.is) in
        let new_is : new ≡ w.front ++ (w.behind ++ Y) =
        (λ x. w.is x ++ key.is x) ∙ append_assoc w.front w.behind Y in
        let whole = ends_whole text w.front after l.own text_is w.first l.ends (w.behind ++ Y) in
        let size = length (64 ∷ key.name) in
        let first = piece_first Y n (piece tokens.AtKeyword size) key.found (omega arith)
        (omega (arith, length-append (64 ∷ key.name) (key.gap ++ (put ++ v)))) in
        let left : drop size Y ≡ key.gap ++ (put ++ v) = drop-append_seam (64 ∷ key.name) (key.gap ++ (put ++ v)) in
        let p = new_prelude put o.gap o.rest key.gap sealed o.blank key.open_gap (n + size) in
        let keyword : Token = record { kind = tokens.AtKeyword; start = n; end = n + size } in
        let pieces_are : pieces new ≡ l.own ++ (k.lead ++ keyword ∷ (p.prelude ++ p.brace ∷ p.zs)) =
        ap pieces new_is ∙ pieces_at (w.behind ++ Y) w.front l.own whole
        ∙ ap (λ (ts : List Token). l.own ++ ts)
        (k.is ∙ ap (λ (ts : List Token). k.lead ++ ts)
        (ap (λ (m : ℕ). pieces_after m 0 Y) at ∙ first
        ∙ ap (λ (ts : List Token). keyword ∷ ts) (ap (pieces_after (n + size) 0) left ∙ p.is))) in
        let whole_is : new ≡ o.front ++ Y = ap (λ (t : List ℕ). o.front ++ t) key.is in
        let name_is : between new (n + 1) (n + size) ≡ key.name =
        ap (λ (t : List ℕ). between t (n + 1) (n + size)) whole_is ∙ key_text o.front key.name (key.gap ++ (put ++ v)) in
        let named : names_media new keyword keyword.kind ≡ true =
        ap (λ (t : List ℕ). bytes_eq (map to_ascii_lowercase (unescaped t)) (codes "media")) name_is ∙ key.says in
        let led =
        media_there new l.a l.j keyword p.prelude p.brace refl named p.curly p.ends p.hi l.rs l.own k.lead
        l.spot k.passed p.nested p.zs p.left in
        let ls = laid_out new None 0 (l.own ++ (k.lead ++ keyword ∷ (p.prelude ++ p.brace ∷ p.zs))) in
        let media_is : (sheet_of new).media ≡ media_in new led.before ++ led.own.0 ∷ media_in new led.after =
        ap (λ (ts : List Token). media_in new (laid_out new None 0 ts)) pieces_are
        ∙ media_split new ls led.own.0 led.here led.before led.after led.is led.own.1 in
        let place = length o.front + length o.key + length o.lead + (length spaces + length put) in
        let same_place : n + size + (length key.gap + length put) ≡ place =
        omega (
          arith,
          ap length key.is,
          length-append o.key (o.lead ++ (spaces ++ (put ++ v))),
          length-append o.lead (spaces ++ (put ++ v)),
          length-append spaces (put ++ v),
          length-append put v,
          length-append (64 ∷ key.name) (key.gap ++ (put ++ v)),
          length-append key.gap (put ++ v),
        ) in
        let starts = p.starts new keyword (omega arith) in
        let start_is : (led.own.0).prelude.start ≡ (prelude_range keyword (range_of (words_after new false p.prelude))).start =
        ap (λ (r : Range). r.start) led.own.2 in
        let order = subst (λ (ms : List MediaRule). AreBetween new 0 (length new) (map (λ (m : MediaRule). m.prelude) ms)) media_is
        (sheet_usable new utf8).media in
        let up = up_to_all new 0 (length new) place p.brace.end (media_in new led.before) led.own.0 (media_in new led.after) order
        (omega (arith, starts, start_is, same_place)) (omega (arith, p.far, same_place)) led.behind in
        record {
          rule = led.own.0;
          last = ap (prefix_len (λ (m : MediaRule). nat_le m.prelude.start place)) media_is ∙ up
              ∙ omega (arith, led.count, number, o.number);
          there = ap (λ (ts : List Token). slice_get (media_in new (laid_out new None 0 ts)) i) pieces_are
              ∙ some_at i new (laid_out new None 0 (l.own ++ (k.lead ++ keyword ∷ (p.prelude ++ p.brace ∷ p.zs)))) led.own.0 led.here
              led.before led.after led.is (omega (arith, led.count, number, o.number)) led.own.1;
        }

-- where the prelude of a media rule is replaced, it is there under its number
pub media_stays : (text put : List ℕ) (i : ℕ) (rule : MediaRule) → slice_get (sheet_of text).media i ≡ Some rule
    → is_sealed_prelude put ≡ true → IsUtf8 (replaced text rule.prelude (spaces_at text rule.prelude.start ++ put))
    → KeepsMedia i (rule.prelude.start + length (spaces_at text rule.prelude.start ++ put))
    (sheet_of (replaced text rule.prelude (spaces_at text rule.prelude.start ++ put))).media
media_stays text put i rule e sealed utf8 =
    let o = old_media text i rule e in
    let v = o.gap ++ 123 ∷ o.rest in
    let s = rule.prelude.start in
    let spaces = spaces_at text s in
    let n = new_key o.key o.lead (o.prelude ++ v) spaces (put ++ v) o.keyword.kind (ap is_at_keyword o.at) o.found
    (omega (arith, length-append o.prelude v, length-append o.gap (123 ∷ o.rest))) o.open_lead
    (spaces_white text (find (ends_keyword s) (pieces text)))
    (λ none. spaces_are o none) (λ name. says o name) in
    there o spaces n utf8
  where
    -- what stands right before it
    spaces_are : (o : OldMedia text i rule) → o.lead ≡ [] → spaces_at text rule.prelude.start ≡ spaces_for o.key
    spaces_are o none =
        let at : rule.prelude.start ≡ o.keyword.end = o.start ∙ omega (arith, ap length none, o.key_end) in
        let some = key_name o.key (o.lead ++ (o.prelude ++ (o.gap ++ 123 ∷ o.rest))) o.keyword.kind (ap is_at_keyword o.at) o.found in
        let all = whole_tokens (o.key ++ (o.lead ++ (o.prelude ++ (o.gap ++ 123 ∷ o.rest)))) 0 o.front o.before o.whole in
        let found : find (ends_keyword rule.prelude.start) (pieces text) ≡ Some o.keyword =
        ap (find (ends_keyword rule.prelude.start)) o.pieces_are
        ∙ find_key rule.prelude.start (0 + length o.front) o.before o.keyword o.more all
        (omega (arith, at, o.key_end, ap length some.is)) o.at (sym at) in
        ap (spaces_by text) found ∙ ap spaces_behind (key_is o)
      where
        key_is : (o : OldMedia text i rule) → between text o.keyword.start o.keyword.end ≡ o.key
        key_is o =
            let size : o.keyword.end - o.keyword.start ≡ length o.key = omega (arith, o.key_end, o.key_start) in
            let behind : drop o.keyword.start text ≡ o.key ++ (o.lead ++ (o.prelude ++ (o.gap ++ 123 ∷ o.rest))) =
            (λ x. drop (o.key_start x) (o.is x)) ∙ drop-append_seam o.front (o.key ++ (o.lead ++ (o.prelude ++ (o.gap ++ 123 ∷ o.rest)))) in
            (λ x. take (size x) (behind x)) ∙ take-append_seam o.key (o.lead ++ (o.prelude ++ (o.gap ++ 123 ∷ o.rest)))

    says : (o : OldMedia text i rule) → KeyName o.key (o.lead ++ (o.prelude ++ (o.gap ++ 123 ∷ o.rest))) → SaysMedia (drop 1 o.key)
    says o name =
        let rest = o.lead ++ (o.prelude ++ (o.gap ++ 123 ∷ o.rest)) in
        let text_is : text ≡ o.front ++ ((64 ∷ name.name) ++ rest) = o.is ∙ ap (λ (k : List ℕ). o.front ++ (k ++ rest)) name.is in
        let size : length o.front + length o.key ≡ length o.front + length (64 ∷ name.name) =
        ap (λ (k : List ℕ). length o.front + length k) name.is in
        let cut : between text (o.keyword.start + 1) o.keyword.end ≡ name.name =
        (λ x. between (text_is x) (o.key_start x + 1) ((o.key_end ∙ size) x)) ∙ key_text o.front name.name rest in
        subst SaysMedia (sym (ap (drop 1) name.is))
        (sym (ap (λ (t : List ℕ). bytes_eq (map to_ascii_lowercase (unescaped t)) (codes "media")) cut)
        ∙ sym (ap (names_media text o.keyword) o.at) ∙ o.named)

    there : (o : OldMedia text i rule) (spaces : List ℕ) → NewKey o.key o.lead spaces (put ++ (o.gap ++ 123 ∷ o.rest))
        → IsUtf8 (replaced text rule.prelude (spaces ++ put))
        → KeepsMedia i (rule.prelude.start + length (spaces ++ put)) (sheet_of (replaced text rule.prelude (spaces ++ put))).media
    there o spaces n whole =
        let v = o.gap ++ 123 ∷ o.rest in
        let lead = (o.front ++ o.key) ++ o.lead in
        let size : length lead ≡ rule.prelude.start =
        omega (arith, length-append (o.front ++ o.key) o.lead, length-append o.front o.key, o.start) in
        let one : text ≡ lead ++ (o.prelude ++ v) =
        o.is ∙ sym (append_assoc (o.front ++ o.key) o.lead (o.prelude ++ v) ∙ append_assoc o.front o.key (o.lead ++ (o.prelude ++ v))) in
        let size2 : length (lead ++ o.prelude) ≡ rule.prelude.end = omega (arith, length-append lead o.prelude, size, o.start, o.end) in
        let before : take rule.prelude.start text ≡ lead = (λ x. take (sym size x) (one x)) ∙ take-append_seam lead (o.prelude ++ v) in
        let behind : drop rule.prelude.end text ≡ v =
        (λ x. drop (sym size2 x) ((one ∙ sym (append_assoc lead o.prelude v)) x)) ∙ drop-append_seam (lead ++ o.prelude) v in
        let new_is : take rule.prelude.start text ++ ((spaces ++ put) ++ drop rule.prelude.end text)
        ≡ o.front ++ (o.key ++ (o.lead ++ (spaces ++ (put ++ v)))) =
        (λ x. before x ++ ((spaces ++ put) ++ behind x))
        ∙ append_assoc (o.front ++ o.key) o.lead ((spaces ++ put) ++ v)
        ∙ append_assoc o.front o.key (o.lead ++ ((spaces ++ put) ++ v))
        ∙ ap (λ (t : List ℕ). o.front ++ (o.key ++ (o.lead ++ t))) (append_assoc spaces put v) in
        let m = media_made_in text i rule o put spaces sealed n (subst IsUtf8 new_is whole) in
        let place : length o.front + length o.key + length o.lead + (length spaces + length put)
        ≡ rule.prelude.start + length (spaces ++ put) = omega (arith, o.start, length-append spaces put) in
        subst (λ (t : List ℕ). KeepsMedia i (rule.prelude.start + length (spaces ++ put)) (sheet_of t).media) (sym new_is)
        (subst (λ (p : ℕ). KeepsMedia i p (sheet_of (o.front ++ (o.key ++ (o.lead ++ (spaces ++ (put ++ v)))))).media) place
        (record { there = subst (λ (x : Option MediaRule). IsSome x) (sym m.there) refl; last = m.last }))
