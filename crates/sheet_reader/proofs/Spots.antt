-- A place between parts, in media rules too: what stands there is read as it is read there, whatever follows.
use Rattle.std.proofs.Common.{◌≡◌, ℕ, zero, suc, ◌+◌, ◌-◌, ◌≤◌, Bool, true, false, ◌&&◌, List, [], ◌∷◌, ◌++◌, length, take, drop, Option}
use Rattle.std.proofs.Common.{Some}
use Rattle.std.proofs.Common.{None, refl, sym, ap, subst, ◌∙◌, append_assoc, length-append, arith}
use Rattle.std.specs.Prelude.{option_to_list}
use Rattle.std.proofs.lemmas.List.{take-append-drop}
use Rattle.std.proofs.Math.Seq.{drop-append_seam, take-append_seam}
use Rattle.css_tokens.specs.declared.token.Range.{Range}
use Rattle.css_tokens.specs.declared.token.Token.{Token}
use Rattle.css_tokens.specs.declared.token.TokenKind.{TokenKind}
use Rattle.css_tokens.specs.declared.token.TokenKind.TheVariants as tokens
use Rattle.sheet_reader.specs.declared.brackets.Bracket.{Bracket}
use Rattle.sheet_reader.specs.declared.brackets.Stop.{Stop}
use Rattle.sheet_reader.specs.declared.brackets.Stop.TheVariants as stops
use Rattle.selectors.specs.Words.{word_reading, words_after}
use Rattle.selectors.specs.Forms.{SelectorForm, ◌>>=◌}
use Rattle.selectors.specs.Reading.{range_of, selector_list_of}
use Rattle.sheet_reader.specs.Declarations.{declarations}
use Rattle.sheet_reader.specs.declared.parts.Level.TheVariants.{Inner}
use Rattle.sheet_reader.specs.Brackets.{stops_at, until_in, until, open_by, is_none_open, opened_by, closed_by}
use Rattle.sheet_reader.specs.Forms.{range, RuleForm}
use Rattle.sheet_reader.specs.Parts.{block, PartForm, passed, at_rule, qualified, is_passed, part_pieces, parts}
use Rattle.sheet_reader.specs.Layout.{names_media, MediaForm, media_form, media_in, Laid, laid, level_of, laid_out, AreLaid, part_laid}
use Rattle.sheet_reader.specs.Layout.{media_laid}
use Rattle.sheet_reader.specs.Sheets.{body_end, rule_of, rules_in}
use Rattle.sheet_reader.specs.Grammar.{outside, AreValues, EndsBefore, IsEnding, in_block, in_open_block, IsPart, at_rule_part, AreParts}
use Rattle.sheet_reader.specs.Grammar.{is_at_keyword, passed_part, qualified_part}
use Rattle.sheet_reader.specs.Grammar.{AreNested, none_nested, plain_and, nested_and}
use Rattle.sheet_reader.proofs.BracketLemmas.{go_on}
use Rattle.sheet_reader.proofs.GrammarForms.{parts_spelled, parts_only}
use Rattle.sheet_reader.proofs.LayoutForms.{laid_spelled, laid_only}
use Rattle.sheet_reader.proofs.NestingForms.{plain_stays}
use Rattle.sheet_reader.proofs.OpenForms.{opens, passes}
use Rattle.sheet_reader.proofs.ExchangeForms.{nested_on}
use Rattle.sheet_reader.proofs.Gaps.{AllPassed}
use Rattle.sheet_reader.proofs.UsableForms.{MediaIs, no_rule, rules_append}
use Rattle.sheet_reader.proofs.ValueForms.{closes_one, until_splits}

-- From outside, where this media rule is around and k stand before, to a place with that one around and j before. Before it stand
-- these rules and these pieces.
pub data Spot (text : List ℕ) : Option ℕ → ℕ → Option ℕ → ℕ → List RuleForm → List Token → Type 0 where
  at_spot : {around : Option ℕ} {k : ℕ} → Spot text around k around k [] []
  past_part : {around a : Option ℕ} {k j : ℕ} (p : PartForm) (rs : List RuleForm) (xs : List Token)
      → ((rest : List Token) → IsPart (level_of around) p rest) → media_form text p ≡ None → Spot text around k a j rs xs
      → Spot text around k a j (rules_in text (laid around p ∷ []) ++ rs) (part_pieces p ++ xs)
  past_media : {around a : Option ℕ} {k j : ℕ} (p : PartForm) (m : MediaForm) (inner : List PartForm) (within : List Laid)
      (rs : List RuleForm) (xs : List Token)
      → ((rest : List Token) → IsPart (level_of around) p rest) → media_form text p ≡ Some m → AreParts Inner inner m.inside
      → AreLaid text (Some k) (suc k) inner within → Spot text around (suc k + length (media_in text within)) a j rs xs
      → Spot text around k a j (rules_in text (laid around p ∷ within) ++ rs) (part_pieces p ++ xs)
  in_media : {around a : Option ℕ} {k j : ℕ} (keyword : Token) (prelude : List Token) (first : Token) (rs : List RuleForm)
      (xs : List Token) → keyword.kind ≡ tokens.AtKeyword → names_media text keyword keyword.kind ≡ true
      → ((rest : List Token) → AreValues (outside stops.BlockOrSemicolon) prelude (first ∷ rest)) → first.kind ≡ tokens.OpenCurly
      → ((rest : List Token) → length xs ≤ until stops.BlockEnd (xs ++ rest)) → Spot text (Some k) (suc k) a j rs xs
      → Spot text around k a j rs (keyword ∷ (prelude ++ first ∷ xs))

-- such a rule stands behind these rules
pub record Led (text : List ℕ) (Own : RuleForm → Type 0) (rs : List RuleForm) (ls : List Laid) : Type 0 where
  pub rule : RuleForm
  pub more : List RuleForm
  pub is : rules_in text ls ≡ rs ++ rule ∷ more
  pub own : Own rule

pub take_front : (xs ys : List Token) (n : ℕ) → length xs ≤ n → take n (xs ++ ys) ≡ xs ++ take (n - length xs) ys
take_front [] ys n fits = let same : n ≡ n - 0 = omega arith in ap (λ (m : ℕ). take m ys) same
take_front (x ∷ xs) ys zero fits = absurd (omega (arith, fits))
take_front (x ∷ xs) ys (suc n) fits =
    let same : n - length xs ≡ suc n - suc (length xs) = omega arith in
    ap (λ (l : List Token). x ∷ l) (take_front xs ys n (omega (arith, fits)) ∙ ap (λ (m : ℕ). xs ++ take m ys) same)

pub closing : (k : TokenKind) → stops_at stops.BlockEnd k ≡ true → k ≡ tokens.CloseCurly
closing tokens.CloseCurly e = refl
closing _ e = absurd (cc)

pub media_named : (text : List ℕ) (keyword : Token) (prelude : List Token) (first : Token) (inside : List Token) (last : Option Token)
    → names_media text keyword keyword.kind ≡ true
    → media_form text (at_rule keyword prelude (block first inside last))
    ≡ Some (record { keyword = keyword; prelude = prelude; inside = inside })
unfolding media_form
media_named text keyword prelude first inside last named = rw named refl

-- a text's pieces cut at the end of a block
pub cut_is : (keyword first : Token) (prelude xs core inside last rest : List Token) → xs ++ core ≡ inside ++ (last ++ rest)
    → ◌≡◌ {A = List Token} ((keyword ∷ (prelude ++ first ∷ xs)) ++ core) ((keyword ∷ (prelude ++ first ∷ (inside ++ last))) ++ rest)
cut_is keyword first prelude xs core inside last rest e =
    ap (λ (l : List Token). keyword ∷ l)
    (append_assoc prelude (first ∷ xs) core
    ∙ ap (λ (l : List Token). prelude ++ first ∷ l) (e ∙ sym (append_assoc inside last rest))
    ∙ sym (append_assoc prelude (first ∷ (inside ++ last)) rest))

module _ (text : List ℕ) (Own : RuleForm → Type 0) where
  -- one more part before
  led_past : (around : Option ℕ) (k : ℕ) (p : PartForm) (front : List Laid) (rs : List RuleForm) (ts rest : List Token) (ls : List Laid)
      → ts ≡ part_pieces p ++ rest → IsPart (level_of around) p rest
      → AreLaid text around k (p ∷ parts (level_of around) rest) (front ++ ls) → Led text Own rs ls
      → Led text Own (rules_in text front ++ rs) (laid_out text around k ts)
  led_past around k p front rs ts rest ls cut part are led =
      let same : p ∷ parts (level_of around) rest ≡ parts (level_of around) ts =
      parts_only (level_of around) (p ∷ parts (level_of around) rest) ts (rest, cut, part, parts_spelled (level_of around) rest) in
      let out : front ++ ls ≡ laid_out text around k ts =
      laid_only text around k ts (front ++ ls) (subst (λ (ps : List PartForm). AreLaid text around k ps (front ++ ls)) same are) in
      record {
        rule = led.rule;
        more = led.more;
        is = sym (ap (rules_in text) out)
            ∙ rules_append text front ls
            ∙ ap (λ (l : List RuleForm). rules_in text front ++ l) led.is
            ∙ sym (append_assoc (rules_in text front) rs (led.rule ∷ led.more));
        own = led.own;
      }

module _ (text : List ℕ) (core : List Token) (Own : RuleForm → Type 0) (a : Option ℕ) (j : ℕ)
    (stays : (bs : List Bracket) (rest : List Token) → length core ≤ until_in stops.BlockEnd bs (core ++ rest))
    (leads : (zs : List Token) → Led text Own [] (laid_out text a j (core ++ zs))) where
  -- in a media rule that is still open
  led_in : (around : Option ℕ) (k : ℕ) (keyword first : Token) (prelude xs zs : List Token) (rs : List RuleForm)
      → keyword.kind ≡ tokens.AtKeyword → names_media text keyword keyword.kind ≡ true
      → ((rest : List Token) → AreValues (outside stops.BlockOrSemicolon) prelude (first ∷ rest)) → first.kind ≡ tokens.OpenCurly
      → length (xs ++ core) ≤ until stops.BlockEnd (xs ++ (core ++ zs))
      → ((others : List Token) → Led text Own rs (laid_out text (Some k) (suc k) (xs ++ (core ++ others))))
      → Led text Own rs (laid_out text around k ((keyword ∷ (prelude ++ first ∷ xs)) ++ (core ++ zs)))
  led_in around k keyword first prelude xs zs rs at named values curly fits next =
      by (drop n whole) refl
    where
      whole : List Token
      whole = xs ++ (core ++ zs)

      n : ℕ
      n = until stops.BlockEnd whole

      inside : List Token
      inside = take n whole

      within : List Laid
      within = laid_out text (Some k) (suc k) inside

      short : List Token
      short = take (n - length (xs ++ core)) zs

      inside_is : inside ≡ xs ++ (core ++ short)
      inside_is = ap (take n) (sym (append_assoc xs core zs)) ∙ take_front (xs ++ core) zs n fits ∙ append_assoc xs core short

      led : Led text Own rs within
      led = subst (λ (l : List Token). Led text Own rs (laid_out text (Some k) (suc k) l)) (sym inside_is) (next short)

      put : (last : Option Token) (rest : List Token) → whole ≡ inside ++ (option_to_list last ++ rest)
          → IsEnding (block first inside last) rest
          → Led text Own rs (laid_out text around k ((keyword ∷ (prelude ++ first ∷ xs)) ++ (core ++ zs)))
      put last rest cut ends =
          let p : PartForm = at_rule keyword prelude (block first inside last) in
          let m : MediaForm = record { keyword = keyword; prelude = prelude; inside = inside } in
          let ts : List Token = (keyword ∷ (prelude ++ first ∷ xs)) ++ (core ++ zs) in
          let i : ℕ = suc k + length (media_in text within) in
          let ls : List Laid = laid_out text around i rest in
          let is : ts ≡ part_pieces p ++ rest = cut_is keyword first prelude xs (core ++ zs) inside (option_to_list last) rest cut in
          let part : IsPart (level_of around) p rest = at_rule_part keyword prelude (block first inside last) at
          (record {
            values = values ((inside ++ option_to_list last) ++ rest);
            stopped = ap (stops_at stops.BlockOrSemicolon) curly;
            ends = ends;
          }) in
          let are : AreLaid text around k (p ∷ parts (level_of around) rest) (laid around p ∷ (within ++ ls)) =
          media_laid p m (parts Inner inside) (parts (level_of around) rest) within ls
          (media_named text keyword prelude first inside last named) (parts_spelled Inner inside)
          (laid_spelled text (Some k) (suc k) inside)
          (laid_spelled text around i rest) in
          let same : p ∷ parts (level_of around) rest ≡ parts (level_of around) ts =
          parts_only (level_of around) (p ∷ parts (level_of around) rest) ts (rest, is, part, parts_spelled (level_of around) rest) in
          let out : laid around p ∷ (within ++ ls) ≡ laid_out text around k ts =
          laid_only text around k ts (laid around p ∷ (within ++ ls))
          (subst (λ (ps : List PartForm). AreLaid text around k ps (laid around p ∷ (within ++ ls))) same are) in
          let form : MediaIs p m = record { first = first; close = last; is = refl } in
          record {
            rule = led.rule;
            more = led.more ++ rules_in text ls;
            is = sym (ap (rules_in text) out)
                ∙ no_rule text around p m (within ++ ls) form
                ∙ rules_append text within ls
                ∙ ap (λ (l : List RuleForm). l ++ rules_in text ls) led.is
                ∙ append_assoc rs (led.rule ∷ led.more) (rules_in text ls);
            own = led.own;
          }

      by : (left : List Token) → drop n whole ≡ left
          → Led text Own rs (laid_out text around k ((keyword ∷ (prelude ++ first ∷ xs)) ++ (core ++ zs)))
      by [] e =
          let s = until_splits stops.BlockEnd whole in
          put None [] (sym (take-append-drop n whole) ∙ ap (λ (l : List Token). inside ++ l) e)
          (in_open_block first inside curly (subst (AreValues (outside stops.BlockEnd) inside) e s.values) refl)
      by (c ∷ rest) e =
          let s = until_splits stops.BlockEnd whole in
          put (Some c) rest (sym (take-append-drop n whole) ∙ ap (λ (l : List Token). inside ++ l) e)
          (in_block first c inside curly (subst (AreValues (outside stops.BlockEnd) inside) e s.values)
          (closing c.kind (subst (EndsBefore (outside stops.BlockEnd)) e s.stopped)))

  -- What stands at the place is read there.
  pub reads : {around : Option ℕ} {k : ℕ} (rs : List RuleForm) (xs : List Token) → Spot text around k a j rs xs → (zs : List Token)
      → Led text Own rs (laid_out text around k (xs ++ (core ++ zs)))
  reads _ _ at_spot zs = leads zs
  reads {around = around} {k = k} _ _ (past_part p rs xs part none spot) zs =
      let rest = xs ++ (core ++ zs) in
      led_past text Own around k p (laid around p ∷ []) rs ((part_pieces p ++ xs) ++ (core ++ zs)) rest (laid_out text around k rest)
      (append_assoc (part_pieces p) xs (core ++ zs)) (part rest)
      (part_laid p (parts (level_of around) rest) (laid_out text around k rest) none (laid_spelled text around k rest))
      (reads rs xs spot zs)
  reads {around = around} {k = k} _ _ (past_media p m inner within rs xs part is own are spot) zs =
      let rest = xs ++ (core ++ zs) in
      let i = suc k + length (media_in text within) in
      led_past text Own around k p (laid around p ∷ within) rs ((part_pieces p ++ xs) ++ (core ++ zs)) rest (laid_out text around i rest)
      (append_assoc (part_pieces p) xs (core ++ zs)) (part rest)
      (media_laid p m inner (parts (level_of around) rest) within (laid_out text around i rest) is own are
      (laid_spelled text around i rest))
      (reads rs xs spot zs)
  reads {around = around} {k = k} _ _ (in_media keyword prelude first rs xs at named values curly over spot) zs =
      let on = passes stops.BlockEnd xs (core ++ zs) [] (over (core ++ zs)) in
      let here = stays (opens [] xs) zs in
      led_in around k keyword first prelude xs zs rs at named values curly (omega (arith, on, here, length-append xs core))
      (λ others. reads rs xs spot others)

-- nested pieces and a `{` end no block
pub nested_stays : (ts : List Token) → AreNested ts → (bs : List Bracket) (rest : List Token)
    → until_in stops.BlockEnd bs (ts ++ rest) ≡ length ts + until_in stops.BlockEnd bs rest
nested_stays _ none_nested bs rest = omega arith
nested_stays _ (plain_and t ts a b more_nested) bs rest =
    let on = go_on stops.BlockEnd bs t (ts ++ rest) (ends_none (is_none_open bs) t.kind b) in
    let same = ap (λ (x : List Bracket). until_in stops.BlockEnd x (ts ++ rest)) (plain_stays bs t.kind a b) in
    let others = nested_stays ts more_nested bs rest in
    omega (arith, on, same, others)
  where
    ends_none : (x : Bool) (k : TokenKind) → closed_by k ≡ None → (x && stops_at stops.BlockEnd k) ≡ false
    ends_none false k e = refl
    ends_none true tokens.CloseCurly e = absurd (cc)
    ends_none true _ e = refl
nested_stays all (nested_and t close within ts b whole opened own closes more_nested) bs rest =
    let split = ap (λ (xs : List Token). until_in stops.BlockEnd bs (xs ++ rest)) whole
    ∙ ap (λ (xs : List Token). until_in stops.BlockEnd bs (t ∷ xs)) (append_assoc within (close ∷ ts) rest) in
    let on = go_on stops.BlockEnd bs t (within ++ close ∷ (ts ++ rest)) (opens_none (is_none_open bs) t.kind b opened) in
    let deeper = ap (λ (x : List Bracket). until_in stops.BlockEnd x (within ++ close ∷ (ts ++ rest)))
    (ap (λ (o : Option Bracket). open_by bs o (closed_by t.kind)) opened) in
    let inside = nested_on stops.BlockEnd within (close ∷ (ts ++ rest)) b bs own in
    let last = go_on stops.BlockEnd (b ∷ bs) close (ts ++ rest) refl in
    let back = ap (λ (x : List Bracket). until_in stops.BlockEnd x (ts ++ rest)) (closes_one b bs close.kind closes) in
    let others = nested_stays ts more_nested bs rest in
    let size = ap (λ (xs : List Token). length xs) whole in
    let sum = length-append within (close ∷ ts) in
    omega (arith, split, on, deeper, inside, last, back, others, size, sum)
  where
    opens_none : (x : Bool) (k : TokenKind) (c : Bracket) → opened_by k ≡ Some c → (x && stops_at stops.BlockEnd k) ≡ false
    opens_none false k c e = refl
    opens_none true tokens.CloseCurly c e = absurd (cc)
    opens_none true _ c e = refl

-- a place where component values end as the search says
pub values_at : (stop : Stop) (front rest : List Token) → until stop (front ++ rest) ≡ length front → AreValues (outside stop) front rest
values_at stop front rest e =
    let s = until_splits stop (front ++ rest) in
    let taken : take (until stop (front ++ rest)) (front ++ rest) ≡ front =
    ap (λ (n : ℕ). take n (front ++ rest)) e ∙ take-append_seam front rest in
    let left : drop (until stop (front ++ rest)) (front ++ rest) ≡ rest =
    ap (λ (n : ℕ). drop n (front ++ rest)) e ∙ drop-append_seam front rest in
    subst (λ (xs : List Token). AreValues (outside stop) xs rest) taken
    (subst (AreValues (outside stop) (take (until stop (front ++ rest)) (front ++ rest))) left s.values)

-- Pieces that are passed over, a prelude that is a list of selectors, and a `{`: the style rule that begins so is the first.
module _ (text : List ℕ) (a : Option ℕ) (t : Token) (ts : List Token) (brace : Token) (curly : brace.kind ≡ tokens.OpenCurly)
    (solid : is_passed (level_of a) t.kind ≡ false) (no_at : is_at_keyword t.kind ≡ false)
    (ends : (rest : List Token) → until stops.Block ((t ∷ ts) ++ brace ∷ rest) ≡ length (t ∷ ts)) (place : Range) (ss : List SelectorForm)
    (ranged : range_of (words_after text false (t ∷ ts)) ≡ Some place)
    (listed : selector_list_of (word_reading text (words_after text false (t ∷ ts))) ≡ Some ss) where
  -- this prelude, and these selectors
  abbrev pub Own : RuleForm → Type 0
  Own r = (r.prelude ≡ place) × (r.selectors ≡ ss) × (r.body.start ≡ brace.end)

  led_by : (j : ℕ) (zs inside : List Token) (last : Option Token) (rest : List Token) → zs ≡ inside ++ (option_to_list last ++ rest)
      → IsEnding (block brace inside last) rest → Led text Own [] (laid_out text a j ((t ∷ ts) ++ brace ∷ zs))
  unfolding rules_in rule_of media_form
  led_by j zs inside last rest cut closed =
      let p : PartForm = qualified (t ∷ ts) (block brace inside last) in
      let all : List Token = (t ∷ ts) ++ brace ∷ zs in
      let ls : List Laid = laid_out text a j rest in
      let is : all ≡ part_pieces p ++ rest =
      ap (λ (l : List Token). (t ∷ ts) ++ brace ∷ l) (cut ∙ sym (append_assoc inside (option_to_list last) rest))
      ∙ sym (append_assoc (t ∷ ts) (brace ∷ (inside ++ option_to_list last)) rest) in
      let part : IsPart (level_of a) p rest = qualified_part (t ∷ ts) (block brace inside last) (solid, no_at)
      (record {
        values = values_at stops.Block (t ∷ ts) (brace ∷ ((inside ++ option_to_list last) ++ rest))
            (ends ((inside ++ option_to_list last) ++ rest));
        stopped = ap (stops_at stops.Block) curly;
        ends = closed;
      }) in
      let same : p ∷ parts (level_of a) rest ≡ parts (level_of a) all =
      parts_only (level_of a) (p ∷ parts (level_of a) rest) all (rest, is, part, parts_spelled (level_of a) rest) in
      let out : laid a p ∷ ls ≡ laid_out text a j all =
      laid_only text a j all (laid a p ∷ ls)
      (subst (λ (ps : List PartForm). AreLaid text a j ps (laid a p ∷ ls)) same
      (part_laid p (parts (level_of a) rest) ls refl (laid_spelled text a j rest))) in
      let rule : RuleForm = record {
        prelude = place;
        selectors = ss;
        body = range brace.end (body_end text last);
        properties = declarations text inside;
        media = a;
      } in
      let found : rule_of text a p ≡ Some rule = λ i. ranged i >>= λ prelude. listed i >>= λ selectors.
      Some (record {
        prelude = prelude;
        selectors = selectors;
        body = range brace.end (body_end text last);
        properties = declarations text inside;
        media = a;
      }) in
      record {
        rule = rule;
        more = rules_in text ls;
        is = sym (ap (rules_in text) out) ∙ ap (λ (o : Option RuleForm). option_to_list o ++ rules_in text ls) found;
        own = (refl, refl, refl);
      }

  led_here : (j : ℕ) (zs : List Token) → Led text Own [] (laid_out text a j ((t ∷ ts) ++ brace ∷ zs))
  led_here j zs = by (drop n zs) refl
    where
      n : ℕ
      n = until stops.BlockEnd zs

      by : (left : List Token) → drop n zs ≡ left → Led text Own [] (laid_out text a j ((t ∷ ts) ++ brace ∷ zs))
      by [] e =
          let s = until_splits stops.BlockEnd zs in
          led_by j zs (take n zs) None [] (sym (take-append-drop n zs) ∙ ap (λ (l : List Token). take n zs ++ l) e)
          (in_open_block brace (take n zs) curly (subst (AreValues (outside stops.BlockEnd) (take n zs)) e s.values) refl)
      by (c ∷ rest) e =
          let s = until_splits stops.BlockEnd zs in
          led_by j zs (take n zs) (Some c) rest (sym (take-append-drop n zs) ∙ ap (λ (l : List Token). take n zs ++ l) e)
          (in_block brace c (take n zs) curly (subst (AreValues (outside stops.BlockEnd) (take n zs)) e s.values)
          (closing c.kind (subst (EndsBefore (outside stops.BlockEnd)) e s.stopped)))

  pub led_lead : (lead : List Token) → AllPassed (level_of a) lead → (j : ℕ) (zs : List Token)
      → Led text Own [] (laid_out text a j (lead ++ ((t ∷ ts) ++ brace ∷ zs)))
  unfolding rules_in rule_of media_form
  led_lead [] all j zs = led_here j zs
  led_lead (x ∷ lead) all j zs =
      let rest : List Token = lead ++ ((t ∷ ts) ++ brace ∷ zs) in
      led_past text Own a j (passed x) (laid a (passed x) ∷ []) [] (x ∷ rest) rest (laid_out text a j rest) refl (passed_part x all.0)
      (part_laid (passed x) (parts (level_of a) rest) (laid_out text a j rest) refl (laid_spelled text a j rest))
      (led_lead lead all.1 j zs)
