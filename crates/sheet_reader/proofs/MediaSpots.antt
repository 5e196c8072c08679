-- The place of a media rule in a sheet, through the media rules around it, and what is laid out there.
use Rattle.std.proofs.Common.{◌≡◌, ℕ, zero, suc, ◌+◌, ◌-◌, ◌≤◌, List, [], ◌∷◌, ◌++◌, length, take, drop, Option, Some, None, refl, sym, ap}
use Rattle.std.proofs.Common.{true, subst, ◌∙◌, append_assoc, length-append, arith}
use Rattle.std.specs.Prelude.{slice_get, option_map, option_to_list}
use Rattle.std.proofs.lemmas.List.{take-append-drop}
use Rattle.css_tokens.specs.declared.token.Token.{Token}
use Rattle.css_tokens.specs.declared.token.TokenKind.TheVariants as tokens
use Rattle.sheet_reader.specs.declared.brackets.Bracket.{Bracket}
use Rattle.sheet_reader.specs.declared.brackets.Stop.TheVariants as stops
use Rattle.sheet_reader.specs.declared.parts.Level.TheVariants.{Inner}
use Rattle.sheet_reader.specs.declared.sheet.MediaRule.{MediaRule}
use Rattle.sheet_reader.specs.Brackets.{stops_at, until_in, until}
use Rattle.sheet_reader.specs.Forms.{RuleForm}
use Rattle.sheet_reader.specs.Parts.{block, PartForm, at_rule, part_pieces, parts}
use Rattle.sheet_reader.specs.Layout.{names_media, MediaForm, media_form, media_rule, media_in, Laid, laid, level_of, laid_out, AreLaid}
use Rattle.sheet_reader.specs.Layout.{none_laid, part_laid, media_laid}
use Rattle.sheet_reader.specs.Sheets.{rules_in}
use Rattle.sheet_reader.specs.Grammar.{outside, AreValues, EndsBefore, IsEnding, in_block, in_open_block, IsPart, at_rule_part}
use Rattle.sheet_reader.proofs.ExchangeForms.{reaches}
use Rattle.sheet_reader.proofs.FrameForms.{media_append, media_cons}
use Rattle.sheet_reader.proofs.GrammarForms.{parts_spelled, parts_only}
use Rattle.sheet_reader.proofs.LayoutForms.{laid_spelled, laid_only}
use Rattle.sheet_reader.proofs.MediaStarts.{StartFrom, from_append, take_tokens, drop_tokens, laid_from}
use Rattle.sheet_reader.proofs.OpenForms.{opens, passes}
use Rattle.sheet_reader.proofs.PartMoves.{AreFlat, flat_of, cons_follows, append_follows, part_rest}
use Rattle.sheet_reader.proofs.Raised.{raised_media, flat}
use Rattle.sheet_reader.proofs.ReadMoves.{AllTokens, tokens_split, form_in, names_same}
use Rattle.sheet_reader.proofs.RulePaths.{Side, on_left, on_right, side}
use Rattle.sheet_reader.proofs.SpotPaths.{opens_media, names_media_is, form_stays, media_stays, laid_too}
use Rattle.sheet_reader.proofs.Spots.{Spot, at_spot, past_part, past_media, in_media, take_front, closing, media_named, cut_is}
use Rattle.sheet_reader.proofs.UsableForms.{media_is}
use Rattle.sheet_reader.proofs.ValueForms.{until_splits}
use Rattle.sheet_reader.proofs.WordMoves.{SamePart}

-- ---- a place is one in a text that is the same up to there

pub spot_other : (text other : List ℕ) (s : ℕ) → SamePart text other (λ x. x) 0 s → {around a : Option ℕ} {k j : ℕ} (rs : List RuleForm)
    (xs : List Token) → Spot text around k a j rs xs → AllTokens 0 s xs → (qs : List RuleForm) × Spot other around k a j qs xs
spot_other text other s same _ _ at_spot all = ([], at_spot)
spot_other text other s same {around = around} {k = k} _ _ (past_part p rs xs part none spot) all =
    let both = tokens_split 0 s (part_pieces p) xs all in
    let sub = spot_other text other s same rs xs spot both.1 in (
      rules_in other (laid around p ∷ []) ++ sub.0,
      past_part p sub.0 xs part (form_stays text other s same p both.0 ∙ ap (option_map (raised_media (λ x. x))) none) sub.1,
    )
spot_other text other s same {around = around} {a = a} {k = k} {j = j} _ _ (past_media p m inner within rs xs part is own are spot) all =
    let both = tokens_split 0 s (part_pieces p) xs all in
    let sub = spot_other text other s same rs xs spot both.1 in
    let inner_all = subst (AllTokens 0 s) (flat_of Inner inner m.inside own).0 (form_in text 0 s p m is both.0).1 in
    let too = laid_too text other s same k inner within are inner_all in (
      rules_in other (laid around p ∷ within) ++ sub.0,
      past_media p m inner within sub.0 xs part (media_stays text other s same p m is both.0) own too.are
          (subst (λ (n : ℕ). Spot other around (suc k + n) a j sub.0 xs) too.count sub.1),
    )
spot_other text other s same {k = k} _ _ (in_media keyword prelude first rs xs at named values curly over spot) all =
    let sub = spot_other text other s same rs xs spot (tokens_split 0 s prelude (first ∷ xs) all.1).1.1 in (
      sub.0,
      in_media keyword prelude first sub.0 xs at
          (names_same text other (λ x. x) 0 s same keyword keyword.kind all.0 ∙ named) values curly over sub.1,
    )

-- ---- where a media rule stands

-- the place of a media rule among these pieces, and its keyword, its prelude and its `{` behind the place
pub record MediaSpot (text : List ℕ) (around : Option ℕ) (k : ℕ) (ts : List Token) (i : ℕ) (rule : MediaRule) : Type 0 where
  pub a : Option ℕ
  pub j : ℕ
  pub rs : List RuleForm
  pub front : List Token
  pub m : MediaForm
  pub first : Token
  pub rest : List Token
  pub is : ts ≡ front ++ (m.keyword ∷ (m.prelude ++ first ∷ rest))
  pub spot : Spot text around k a j rs front
  pub number : j ≡ k + i
  pub own : media_rule text a m ≡ rule
  pub named : names_media text m.keyword m.keyword.kind ≡ true
  pub at : m.keyword.kind ≡ tokens.AtKeyword
  pub values : (others : List Token) → AreValues (outside stops.BlockOrSemicolon) m.prelude (first ∷ others)
  pub curly : first.kind ≡ tokens.OpenCurly

media_tail : (keyword first : Token) (prelude inside last rest : List Token)
    → ◌≡◌ {A = List Token} ((keyword ∷ (prelude ++ first ∷ (inside ++ last))) ++ rest)
    (keyword ∷ (prelude ++ first ∷ (inside ++ (last ++ rest))))
media_tail keyword first prelude inside last rest =
    ap (λ (l : List Token). keyword ∷ l)
    (append_assoc prelude (first ∷ (inside ++ last)) rest ∙ ap (λ (l : List Token). prelude ++ first ∷ l) (append_assoc inside last rest))

module _ (text : List ℕ) (rule : MediaRule) where
  behind_part : (around : Option ℕ) (k n i j : ℕ) (p : PartForm) (ls : List Laid) (ts : List Token) → n + i ≡ j
      → IsPart (level_of around) p ts
      → ((s : MediaSpot text around (k + n) ts i rule) → ((rest : List Token) → IsPart (level_of around) p rest)
      → (rs : List RuleForm) × Spot text around k s.a s.j rs (part_pieces p ++ s.front))
      → MediaSpot text around (k + n) ts i rule → MediaSpot text around k (part_pieces p ++ ts) j rule
  behind_part around k n i j p ls ts sum part put s =
      let spot = put s (λ rest. part_rest (level_of around) p ts rest
      (λ none. append_follows s.front (s.m.keyword ∷ (s.m.prelude ++ s.first ∷ s.rest))
      (cons_follows s.m.keyword (s.m.prelude ++ s.first ∷ s.rest)) (sym s.is ∙ none)) part) in
      record {
        a = s.a;
        j = s.j;
        rs = spot.0;
        front = part_pieces p ++ s.front;
        m = s.m;
        first = s.first;
        rest = s.rest;
        is = ap (λ (l : List Token). part_pieces p ++ l) s.is
            ∙ sym (append_assoc (part_pieces p) s.front (s.m.keyword ∷ (s.m.prelude ++ s.first ∷ s.rest)));
        spot = spot.1;
        number = omega (arith, s.number, sum);
        own = s.own;
        named = s.named;
        at = s.at;
        values = s.values;
        curly = s.curly;
      }

  spot_here : (around : Option ℕ) (k : ℕ) (p : PartForm) (m : MediaForm) (ts : List Token) → media_form text p ≡ Some m
      → IsPart (level_of around) p ts → media_rule text around m ≡ rule → MediaSpot text around k (part_pieces p ++ ts) 0 rule
  spot_here around k p m ts e part own =
      let i = media_is text p m e in
      let o = opens_media (level_of around) m i.first i.close ts (subst (λ (x : PartForm). IsPart (level_of around) x ts) i.is part) in
      record {
        a = around;
        j = k;
        rs = [];
        front = [];
        m = m;
        first = i.first;
        rest = m.inside ++ (option_to_list i.close ++ ts);
        is = ap (λ (x : PartForm). part_pieces x ++ ts) i.is
            ∙ media_tail m.keyword i.first m.prelude m.inside (option_to_list i.close) ts;
        spot = at_spot;
        number = omega arith;
        own = own;
        named = names_media_is text m.keyword m.prelude i.first m.inside i.close m (ap (media_form text) (sym i.is) ∙ e);
        at = o.at;
        values = o.values;
        curly = o.curly;
      }

  spot_within : (around : Option ℕ) (k i : ℕ) (p : PartForm) (m : MediaForm) (inner : List Token) (ts : List Token)
      → media_form text p ≡ Some m → m.inside ≡ inner → IsPart (level_of around) p ts → MediaSpot text (Some k) (suc k) inner i rule
      → MediaSpot text around k (part_pieces p ++ ts) (suc i) rule
  spot_within around k i p m inner ts e inside part s =
      let f = media_is text p m e in
      let o = opens_media (level_of around) m f.first f.close ts (subst (λ (x : PartForm). IsPart (level_of around) x ts) f.is part) in
      let own = s.m.keyword ∷ (s.m.prelude ++ s.first ∷ s.rest) in
      let behind = option_to_list f.close ++ ts in
      let inside_is : m.inside ≡ s.front ++ own = inside ∙ s.is in
      let cut : until stops.BlockEnd (s.front ++ (own ++ behind)) ≡ length (s.front ++ own) =
      ap (until stops.BlockEnd) (sym (append_assoc s.front own behind))
      ∙ ap (λ (l : List Token). until stops.BlockEnd (l ++ behind)) (sym inside_is) ∙ o.fits
      ∙ ap (λ (l : List Token). length l) inside_is in
      record {
        a = s.a;
        j = s.j;
        rs = s.rs;
        front = m.keyword ∷ (m.prelude ++ f.first ∷ s.front);
        m = s.m;
        first = s.first;
        rest = s.rest ++ behind;
        is = ap (λ (x : PartForm). part_pieces x ++ ts) f.is
            ∙ media_tail m.keyword f.first m.prelude m.inside (option_to_list f.close) ts
            ∙ ap (λ (l : List Token). m.keyword ∷ (m.prelude ++ f.first ∷ l))
            (ap (λ (l : List Token). l ++ behind) inside_is ∙ append_assoc s.front own behind
            ∙ ap (λ (l : List Token). s.front ++ s.m.keyword ∷ l) (append_assoc s.m.prelude (s.first ∷ s.rest) behind))
            ∙ ap (λ (l : List Token). m.keyword ∷ l)
            (sym (append_assoc m.prelude (f.first ∷ s.front) (s.m.keyword ∷ (s.m.prelude ++ s.first ∷ (s.rest ++ behind)))));
        spot = in_media m.keyword m.prelude f.first s.rs s.front o.at
            (names_media_is text m.keyword m.prelude f.first m.inside f.close m (ap (media_form text) (sym f.is) ∙ e)) o.values o.curly
            (λ others. reaches stops.BlockEnd s.front (own ++ behind) others []
            (omega (arith, cut, length-append s.front own))) s.spot;
        number = omega (arith, s.number);
        own = s.own;
        named = s.named;
        at = s.at;
        values = s.values;
        curly = s.curly;
      }

  no_media_at : (j : ℕ) → ◌≡◌ {A = Option MediaRule} (slice_get [] j) (Some rule) → ⊥
  no_media_at zero e = cc
  no_media_at (suc j) e = cc

  pub media_spot : (around : Option ℕ) (k : ℕ) (ps : List PartForm) (ls : List Laid) → AreLaid text around k ps ls
      → AreFlat (level_of around) ps → (i : ℕ) → slice_get (media_in text ls) i ≡ Some rule → MediaSpot text around k (flat ps) i rule
  unfolding media_in
  media_spot around k _ _ none_laid all i e = absurd (no_media_at i e)
  media_spot around k _ _ (part_laid p ps ls none are) all i e =
      let more = ap (λ (ms : List MediaRule). slice_get ms i) (sym (media_cons text around p ls None none)) ∙ e in
      let same : k ≡ k + 0 = omega arith in
      behind_part around k 0 i i p ls (flat ps) (omega arith) all.0
      (λ s any. (
        rules_in text (laid around p ∷ []) ++ s.rs,
        past_part p s.rs s.front any none (subst (λ (n : ℕ). Spot text around n s.a s.j s.rs s.front) (sym same) s.spot),
      ))
      (subst (λ (n : ℕ). MediaSpot text around n (flat ps) i rule) same (media_spot around k ps ls are all.1 i more))
  media_spot around k _ _ (media_laid p m inner ps within ls is own inner_are are) all i e =
      let own_flat = flat_of Inner inner m.inside own in
      let n = suc k + length (media_in text within) in
      let list : media_in text (laid around p ∷ (within ++ ls)) ≡ media_rule text around m ∷ (media_in text within ++ media_in text ls) =
      media_cons text around p (within ++ ls) (Some m) is
      ∙ ap (λ (ms : List MediaRule). media_rule text around m ∷ ms) (media_append text within ls) in
      by i (ap (λ (ms : List MediaRule). slice_get ms i) (sym list) ∙ e)
      (λ x f. spot_within around k x p m (flat inner) (flat ps) is own_flat.0 all.0
      (media_spot (Some k) (suc k) inner within inner_are own_flat.1 x f))
      (λ x f. media_spot around n ps ls are all.1 x f)
    where
      by : (i : ℕ) → slice_get (media_rule text around m ∷ (media_in text within ++ media_in text ls)) i ≡ Some rule
          → ((x : ℕ) → slice_get (media_in text within) x ≡ Some rule → MediaSpot text around k (flat (p ∷ ps)) (suc x) rule)
          → ((x : ℕ) → slice_get (media_in text ls) x ≡ Some rule
          → MediaSpot text around (suc k + length (media_in text within)) (flat ps) x rule)
          → MediaSpot text around k (flat (p ∷ ps)) i rule
      by zero f inside behind = let same : media_rule text around m ≡ rule = cc in spot_here around k p m (flat ps) is all.0 same
      by (suc i) f inside behind = which (side (media_in text within) (media_in text ls) i rule f)
        where
          which : Side (media_in text within) (media_in text ls) i rule → MediaSpot text around k (flat (p ∷ ps)) (suc i) rule
          which (on_left g) = inside i g
          which (on_right x sum g) =
              let same : suc k + length (media_in text within) ≡ k + suc (length (media_in text within)) = omega arith in
              behind_part around k (suc (length (media_in text within))) x (suc i) p ls (flat ps) (omega (arith, sum)) all.0
              (λ s any. (
                rules_in text (laid around p ∷ within) ++ s.rs,
                past_media p m inner within s.rs s.front any is own inner_are
                    (subst (λ (n : ℕ). Spot text around n s.a s.j s.rs s.front) (sym same) s.spot),
              ))
              (subst (λ (n : ℕ). MediaSpot text around n (flat ps) x rule) same (behind x g))

-- ---- what is laid out there

-- such a part is laid out, behind so many media rules
pub record LedLaid (text : List ℕ) (Own : Laid → Type 0) (place k j : ℕ) (ls : List Laid) : Type 0 where
  pub before : List Laid
  pub here : Laid
  pub after : List Laid
  pub is : ls ≡ before ++ here ∷ after
  pub count : k + length (media_in text before) ≡ j
  pub own : Own here
  -- the media rules that are laid out behind it start from a place on
  pub behind : StartFrom place (media_in text after)

module _ (text : List ℕ) (Own : Laid → Type 0) (place hi : ℕ) where
  pub out_is : (around : Option ℕ) (k : ℕ) (p : PartForm) (ts rest : List Token) (ls : List Laid) → ts ≡ part_pieces p ++ rest
      → IsPart (level_of around) p rest → AreLaid text around k (p ∷ parts (level_of around) rest) ls → ls ≡ laid_out text around k ts
  out_is around k p ts rest ls cut part are =
      let same : p ∷ parts (level_of around) rest ≡ parts (level_of around) ts =
      parts_only (level_of around) (p ∷ parts (level_of around) rest) ts (rest, cut, part, parts_spelled (level_of around) rest) in
      laid_only text around k ts ls (subst (λ (ps : List PartForm). AreLaid text around k ps ls) same are)

  pub laid_past : (around : Option ℕ) (k j : ℕ) (p : PartForm) (ts rest : List Token) → ts ≡ part_pieces p ++ rest
      → IsPart (level_of around) p rest → media_form text p ≡ None → LedLaid text Own place k j (laid_out text around k rest)
      → LedLaid text Own place k j (laid_out text around k ts)
  laid_past around k j p ts rest cut part none l =
      let ls = laid_out text around k rest in
      let out = out_is around k p ts rest (laid around p ∷ ls) cut part
      (part_laid p (parts (level_of around) rest) ls none (laid_spelled text around k rest)) in
      record {
        before = laid around p ∷ l.before;
        here = l.here;
        after = l.after;
        is = sym out ∙ ap (λ (xs : List Laid). laid around p ∷ xs) l.is;
        count = ap (λ (ms : List MediaRule). k + length ms) (media_cons text around p l.before None none) ∙ l.count;
        own = l.own;
        behind = l.behind;
      }

module _ (text : List ℕ) (core : List Token) (Own : Laid → Type 0) (place hi : ℕ) (a : Option ℕ) (j : ℕ)
    (stays : (bs : List Bracket) (rest : List Token) → length core ≤ until_in stops.BlockEnd bs (core ++ rest))
    (leads : (zs : List Token) → AllTokens place hi zs → LedLaid text Own place j j (laid_out text a j (core ++ zs))) where
  laid_in : (around : Option ℕ) (k : ℕ) (keyword first : Token) (prelude xs zs : List Token)
      → keyword.kind ≡ tokens.AtKeyword → names_media text keyword keyword.kind ≡ true
      → ((rest : List Token) → AreValues (outside stops.BlockOrSemicolon) prelude (first ∷ rest)) → first.kind ≡ tokens.OpenCurly
      → length (xs ++ core) ≤ until stops.BlockEnd (xs ++ (core ++ zs))
      → AllTokens place hi zs
      → ((others : List Token) → AllTokens place hi others
      → LedLaid text Own place (suc k) j (laid_out text (Some k) (suc k) (xs ++ (core ++ others))))
      → LedLaid text Own place k j (laid_out text around k ((keyword ∷ (prelude ++ first ∷ xs)) ++ (core ++ zs)))
  laid_in around k keyword first prelude xs zs at named values curly fits all next =
      by (drop n whole) refl
    where
      whole : List Token
      whole = xs ++ (core ++ zs)

      n : ℕ
      n = until stops.BlockEnd whole

      inside : List Token
      inside = take n whole

      within : List Laid
      within = laid_out text (Some k) (suc k) inside

      short : List Token
      short = take (n - length (xs ++ core)) zs

      inside_is : inside ≡ xs ++ (core ++ short)
      inside_is = ap (take n) (sym (append_assoc xs core zs)) ∙ take_front (xs ++ core) zs n fits ∙ append_assoc xs core short

      l : LedLaid text Own place (suc k) j within
      l = subst (λ (ts : List Token). LedLaid text Own place (suc k) j (laid_out text (Some k) (suc k) ts)) (sym inside_is)
          (next short (take_tokens place hi (n - length (xs ++ core)) zs all))

      put : (last : Option Token) (rest : List Token) → whole ≡ inside ++ (option_to_list last ++ rest)
          → IsEnding (block first inside last) rest → AllTokens place hi rest
          → LedLaid text Own place k j (laid_out text around k ((keyword ∷ (prelude ++ first ∷ xs)) ++ (core ++ zs)))
      put last rest cut ends left =
          let p : PartForm = at_rule keyword prelude (block first inside last) in
          let m : MediaForm = record { keyword = keyword; prelude = prelude; inside = inside } in
          let i : ℕ = suc k + length (media_in text within) in
          let ls : List Laid = laid_out text around i rest in
          let part : IsPart (level_of around) p rest = at_rule_part keyword prelude (block first inside last) at
          (record {
            values = values ((inside ++ option_to_list last) ++ rest);
            stopped = ap (stops_at stops.BlockOrSemicolon) curly;
            ends = ends;
          }) in
          let is : media_form text p ≡ Some m = media_named text keyword prelude first inside last named in
          let out = out_is text Own place hi around k p ((keyword ∷ (prelude ++ first ∷ xs)) ++ (core ++ zs)) rest
          (laid around p ∷ (within ++ ls))
          (cut_is keyword first prelude xs (core ++ zs) inside (option_to_list last) rest cut) part
          (media_laid p m (parts Inner inside) (parts (level_of around) rest) within ls is (parts_spelled Inner inside)
          (laid_spelled text (Some k) (suc k) inside) (laid_spelled text around i rest)) in
          let list = ap (λ (ms : List MediaRule). length ms) (media_cons text around p l.before (Some m) is) in
          record {
            before = laid around p ∷ l.before;
            here = l.here;
            after = l.after ++ ls;
            is = sym out ∙ ap (λ (ys : List Laid). laid around p ∷ ys)
                (ap (λ (ys : List Laid). ys ++ ls) l.is ∙ append_assoc l.before (l.here ∷ l.after) ls);
            count = omega (arith, list, l.count);
            own = l.own;
            behind = subst (StartFrom place) (sym (media_append text l.after ls))
                (from_append place (media_in text l.after) (media_in text ls) l.behind (laid_from text place hi around i rest left));
          }

      rest_of : (left : List Token) → drop n whole ≡ left → AllTokens place hi left
      rest_of left e =
          let q = n - length (xs ++ core) in
          let cut : drop n whole ≡ drop q zs =
          ap (drop n) (sym (append_assoc xs core zs)) ∙ drop_front (xs ++ core) zs n fits in
          subst (AllTokens place hi) (sym cut ∙ e) (drop_tokens place hi q zs all)
        where
          drop_front : (xs ys : List Token) (n : ℕ) → length xs ≤ n → drop n (xs ++ ys) ≡ drop (n - length xs) ys
          drop_front [] ys n less = let same : n ≡ n - 0 = omega arith in ap (λ (m : ℕ). drop m ys) same
          drop_front (x ∷ xs) ys zero less = absurd (omega (arith, less))
          drop_front (x ∷ xs) ys (suc n) less =
              let same : n - length xs ≡ suc n - suc (length xs) = omega arith in
              drop_front xs ys n (omega (arith, less)) ∙ ap (λ (m : ℕ). drop m ys) same

      by : (left : List Token) → drop n whole ≡ left
          → LedLaid text Own place k j (laid_out text around k ((keyword ∷ (prelude ++ first ∷ xs)) ++ (core ++ zs)))
      by [] e =
          let s = until_splits stops.BlockEnd whole in
          put None [] (sym (take-append-drop n whole) ∙ ap (λ (ts : List Token). inside ++ ts) e)
          (in_open_block first inside curly (subst (AreValues (outside stops.BlockEnd) inside) e s.values) refl) tt
      by (c ∷ rest) e =
          let s = until_splits stops.BlockEnd whole in
          put (Some c) rest (sym (take-append-drop n whole) ∙ ap (λ (ts : List Token). inside ++ ts) e)
          (in_block first c inside curly (subst (AreValues (outside stops.BlockEnd) inside) e s.values)
          (closing c.kind (subst (EndsBefore (outside stops.BlockEnd)) e s.stopped))) (rest_of (c ∷ rest) e).1

  -- What is laid out at the place is laid out there.
  pub reads_laid : {around : Option ℕ} {k : ℕ} (rs : List RuleForm) (xs : List Token) → Spot text around k a j rs xs → (zs : List Token)
      → AllTokens place hi zs
      → LedLaid text Own place k j (laid_out text around k (xs ++ (core ++ zs)))
  reads_laid _ _ at_spot zs all = leads zs all
  reads_laid {around = around} {k = k} _ _ (past_part p rs xs part none spot) zs all =
      let rest = xs ++ (core ++ zs) in
      laid_past text Own place hi around k j p ((part_pieces p ++ xs) ++ (core ++ zs)) rest (append_assoc (part_pieces p) xs (core ++ zs))
      (part rest)
      none (reads_laid rs xs spot zs all)
  reads_laid {around = around} {k = k} _ _ (past_media p m inner within rs xs part is own are spot) zs all =
      let rest = xs ++ (core ++ zs) in
      let i = suc k + length (media_in text within) in
      let ls = laid_out text around i rest in
      let l = reads_laid rs xs spot zs all in
      let out = out_is text Own place hi around k p ((part_pieces p ++ xs) ++ (core ++ zs)) rest (laid around p ∷ (within ++ ls))
      (append_assoc (part_pieces p) xs (core ++ zs)) (part rest)
      (media_laid p m inner (parts (level_of around) rest) within ls is own are (laid_spelled text around i rest)) in
      let list = ap (λ (ms : List MediaRule). length ms) (media_cons text around p (within ++ l.before) (Some m) is)
      in
      let sum = ap (λ (ms : List MediaRule). length ms) (media_append text within l.before) ∙ length-append (media_in text within)
      (media_in text l.before) in
      record {
        before = laid around p ∷ (within ++ l.before);
        here = l.here;
        after = l.after;
        is = sym out ∙ ap (λ (ys : List Laid). laid around p ∷ ys)
            (ap (λ (ys : List Laid). within ++ ys) l.is ∙ sym (append_assoc within l.before (l.here ∷ l.after)));
        count = omega (arith, list, sum, l.count);
        own = l.own;
        behind = l.behind;
      }
  reads_laid {around = around} {k = k} _ _ (in_media keyword prelude first rs xs at named values curly over spot) zs all =
      let on = passes stops.BlockEnd xs (core ++ zs) [] (over (core ++ zs)) in
      let here = stays (opens [] xs) zs in
      laid_in around k keyword first prelude xs zs at named values curly (omega (arith, on, here, length-append xs core)) all
      (λ others more. reads_laid rs xs spot others more)
