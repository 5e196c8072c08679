-- The place of a rule, in a text that goes on otherwise from the rule's prelude on.
use Rattle.std.proofs.Common.{◌≡◌, ℕ, suc, ◌+◌, ◌≤◌, Bool, true, false, cond, List, [], ◌∷◌, ◌++◌, map, length, Option, Some, None, refl}
use Rattle.std.proofs.Common.{sym}
use Rattle.std.proofs.Common.{ap, subst, ◌∙◌, append_assoc, length-append, arith}
use Rattle.std.specs.Prelude.{option_map, option_to_list}
use Rattle.css_tokens.specs.declared.token.Token.{Token}
use Rattle.css_tokens.specs.declared.token.TokenKind.TheVariants as tokens
use Rattle.sheet_reader.specs.declared.brackets.Stop.TheVariants as stops
use Rattle.sheet_reader.specs.declared.parts.Level.{Level}
use Rattle.sheet_reader.specs.declared.parts.Level.TheVariants.{Inner}
use Rattle.sheet_reader.specs.declared.sheet.MediaRule.{MediaRule}
use Rattle.sheet_reader.specs.Brackets.{stops_at, until}
use Rattle.sheet_reader.specs.Forms.{RuleForm}
use Rattle.sheet_reader.specs.Parts.{block, PartForm, at_rule, part_pieces}
use Rattle.sheet_reader.specs.Layout.{names_media, MediaForm, media_form, media_in, Laid, laid, level_of, AreLaid}
use Rattle.sheet_reader.specs.Sheets.{rule_of, rules_in}
use Rattle.sheet_reader.specs.Grammar.{outside, AreValues, IsEnding, in_block, in_open_block, IsPart, at_rule_part}
use Rattle.sheet_reader.proofs.Raised.{raised_laid, raised_media, flat}
use Rattle.sheet_reader.proofs.ExchangeForms.{reaches}
use Rattle.sheet_reader.proofs.LaidMoves.{laid_in, laid_again, tokens_kept, part_kept, parts_kept, laid_kept}
use Rattle.sheet_reader.proofs.PartMoves.{AreFlat, flat_of, cons_follows, append_follows, values_rest, part_rest, map_length}
use Rattle.sheet_reader.proofs.ReadMoves.{AllTokens, tokens_split, form_in, form_same, names_same, media_same}
use Rattle.sheet_reader.proofs.RulePaths.{RulePart, rule_part, Path, here, past_part, past_media, in_media, path_flat}
use Rattle.sheet_reader.proofs.Spots as spots
use Rattle.sheet_reader.proofs.Spots.{Spot, at_spot}
use Rattle.sheet_reader.proofs.ValueForms.{until_is}
use Rattle.sheet_reader.proofs.WordMoves.{SamePart}

-- the rule's place in the other text, with what stands before its prelude
pub record SpotOf (text other : List ℕ) (r : RuleForm) (q : RulePart) (around : Option ℕ) (k : ℕ) (xs : List Token) : Type 0 where
  pub a : Option ℕ
  pub j : ℕ
  pub rs : List RuleForm
  pub front : List Token
  pub parted : xs ≡ front ++ q.prelude
  pub spot : Spot other around k a j rs front
  pub rule : rule_of text a (rule_part q) ≡ Some r
  pub rest : List Token
  pub part : IsPart (level_of a) (rule_part q) rest

pub names_media_is : (text : List ℕ) (keyword : Token) (prelude : List Token) (first : Token) (within : List Token) (last : Option Token)
    (m : MediaForm)
    → media_form text (at_rule keyword prelude (block first within last)) ≡ Some m → names_media text keyword keyword.kind ≡ true
unfolding media_form
names_media_is text keyword prelude first within last m e = by (names_media text keyword keyword.kind) refl e
  where
    by : (b : Bool) → names_media text keyword keyword.kind ≡ b
        → cond b (Some (record { keyword = keyword; prelude = prelude; inside = within })) None ≡ Some m
        → names_media text keyword keyword.kind ≡ true
    by true is e = is
    by false is e = absurd (cc)

-- a media rule's keyword, prelude and `{`, whatever stands behind
pub record OpensMedia (m : MediaForm) (first : Token) (last : Option Token) (rest : List Token) : Type 0 where
  pub at : m.keyword.kind ≡ tokens.AtKeyword
  pub values : (others : List Token) → AreValues (outside stops.BlockOrSemicolon) m.prelude (first ∷ others)
  pub curly : first.kind ≡ tokens.OpenCurly
  pub fits : until stops.BlockEnd (m.inside ++ (option_to_list last ++ rest)) ≡ length m.inside

pub opens_media : (level : Level) (m : MediaForm) (first : Token) (last : Option Token) (rest : List Token)
    → IsPart level (at_rule m.keyword m.prelude (block first m.inside last)) rest → OpensMedia m first last rest
opens_media level m first last rest (at_rule_part _ _ _ at r) =
    let b = ended r.ends in
    record {
      at = at;
      values = λ others. values_rest (outside stops.BlockOrSemicolon) m.prelude (first ∷ ((m.inside ++ option_to_list last) ++ rest))
          (first ∷ others) (cons_follows first ((m.inside ++ option_to_list last) ++ rest)) r.values;
      curly = b.0;
      fits = b.1;
    }
  where
    ended : {last : Option Token} → IsEnding (block first m.inside last) rest
        → (first.kind ≡ tokens.OpenCurly) × (until stops.BlockEnd (m.inside ++ (option_to_list last ++ rest)) ≡ length m.inside)
    ended (in_block _ c _ k vs closed) = (k, until_is stops.BlockEnd m.inside (c ∷ rest) vs (ap (stops_at stops.BlockEnd) closed))
    ended (in_open_block _ _ k vs over) =
        (k, ap (λ (l : List Token). until stops.BlockEnd (m.inside ++ l)) over ∙ until_is stops.BlockEnd m.inside [] vs tt)

module _ (text other : List ℕ) (s : ℕ) (same : SamePart text other (λ x. x) 0 s) where
  keep : (x : ℕ) → 0 ≤ x → x ≤ s → x ≡ x
  keep x a b = refl

  pub form_stays : (p : PartForm) → AllTokens 0 s (part_pieces p)
      → media_form other p ≡ option_map (raised_media (λ x. x)) (media_form text p)
  form_stays p all =
      sym (ap (media_form other) (part_kept (λ x. x) 0 s keep p all)) ∙ form_same text other (λ x. x) 0 s same p all

  pub media_stays : (p : PartForm) (m : MediaForm) → media_form text p ≡ Some m → AllTokens 0 s (part_pieces p)
      → media_form other p ≡ Some m
  media_stays p m e all =
      let both = form_in text 0 s p m e all in
      let b = tokens_kept (λ x. x) 0 s keep m.prelude both.0 in
      let d = tokens_kept (λ x. x) 0 s keep m.inside both.1 in
      form_stays p all ∙ ap (option_map (raised_media (λ x. x))) e
      ∙ (λ i. Some (record { keyword = m.keyword; prelude = b i; inside = d i }))

  pub record LaidToo (k : ℕ) (inner : List PartForm) (within : List Laid) : Type 0 where
    pub are : AreLaid other (Some k) (suc k) inner within
    pub count : length (media_in text within) ≡ length (media_in other within)

  pub laid_too : (k : ℕ) (inner : List PartForm) (within : List Laid)
      → AreLaid text (Some k) (suc k) inner within → AllTokens 0 s (flat inner)
      → LaidToo k inner within
  laid_too k inner within own all =
      let inside = laid_in 0 s text (Some k) (suc k) inner within own all in
      let kept = laid_kept (λ x. x) 0 s keep within inside in
      record {
        are = subst (AreLaid other (Some k) (suc k) inner) kept
            (subst (λ (ps : List PartForm). AreLaid other (Some k) (suc k) ps (map (raised_laid (λ x. x)) within))
            (parts_kept (λ x. x) 0 s keep inner all)
            (laid_again text other (λ x. x) 0 s same (Some k) (suc k) inner within own all));
        count = sym (ap (λ (ms : List MediaRule). length ms) (media_same text other (λ x. x) 0 s same within inside)
            ∙ map_length _ (media_in text within))
            ∙ ap (λ (ls : List Laid). length (media_in other ls)) kept;
      }

module _ (text other : List ℕ) (s : ℕ) (same : SamePart text other (λ x. x) 0 s) (r : RuleForm) (q : RulePart) where
  -- a part with the rule behind it is one whatever stands behind
  any_rest : (level : Level) (p : PartForm) (ps : List PartForm) (xs more : List Token)
      → flat ps ≡ xs ++ q.brace ∷ (q.body ++ (option_to_list q.close ++ more)) → IsPart level p (flat ps)
      → (others : List Token) → IsPart level p others
  any_rest level p ps xs more is part others =
      part_rest level p (flat ps) others (λ none. append_follows xs (q.brace ∷ (q.body ++ (option_to_list q.close ++ more)))
      (cons_follows q.brace (q.body ++ (option_to_list q.close ++ more))) (sym is ∙ none)) part

  pub spot_of : (around : Option ℕ) (k : ℕ) (ps : List PartForm) (ls : List Laid) (rs : List RuleForm) (xs more : List Token)
      → Path text r q around k ps ls rs xs more → AreFlat (level_of around) ps
      → ((front : List Token) → xs ≡ front ++ q.prelude → AllTokens 0 s front) → SpotOf text other r q around k xs
  spot_of around k _ _ _ _ _ (here ps ls are e) all inside = record {
    a = around;
    j = k;
    rs = [];
    front = [];
    parted = refl;
    spot = at_spot;
    rule = e;
    rest = flat ps;
    part = all.0;
  }
  spot_of around k _ _ _ _ _ (past_part p ps ls rs xs more none path) all inside =
      let join : (front : List Token) → xs ≡ front ++ q.prelude → part_pieces p ++ xs ≡ (part_pieces p ++ front) ++ q.prelude =
      λ front e. ap (λ (l : List Token). part_pieces p ++ l) e ∙ sym (append_assoc (part_pieces p) front q.prelude) in
      let sub = spot_of around k ps ls rs xs more path all.1
      (λ front e. (tokens_split 0 s (part_pieces p) front (inside (part_pieces p ++ front) (join front e))).1) in
      let own = (tokens_split 0 s (part_pieces p) sub.front (inside (part_pieces p ++ sub.front) (join sub.front sub.parted))).0 in
      record {
        a = sub.a;
        j = sub.j;
        rs = rules_in other (laid around p ∷ []) ++ sub.rs;
        front = part_pieces p ++ sub.front;
        parted = join sub.front sub.parted;
        spot = spots.past_part p sub.rs sub.front
            (any_rest (level_of around) p ps xs more (path_flat text r q around k ps ls rs xs more path) all.0)
            (form_stays text other s same p own ∙ ap (option_map (raised_media (λ x. x))) none) sub.spot;
        rule = sub.rule;
        rest = sub.rest;
        part = sub.part;
      }
  spot_of around k _ _ _ _ _ (past_media p m inner ps within ls rs xs more is parts_own are path) all inside =
      let join : (front : List Token) → xs ≡ front ++ q.prelude → part_pieces p ++ xs ≡ (part_pieces p ++ front) ++ q.prelude =
      λ front e. ap (λ (l : List Token). part_pieces p ++ l) e ∙ sym (append_assoc (part_pieces p) front q.prelude) in
      let i : ℕ = suc k + length (media_in text within) in
      let sub = spot_of around i ps ls rs xs more path all.1
      (λ front e. (tokens_split 0 s (part_pieces p) front (inside (part_pieces p ++ front) (join front e))).1) in
      let own = (tokens_split 0 s (part_pieces p) sub.front (inside (part_pieces p ++ sub.front) (join sub.front sub.parted))).0 in
      let inner_all : AllTokens 0 s (flat inner) =
      subst (AllTokens 0 s) (flat_of Inner inner m.inside parts_own).0 (form_in text 0 s p m is own).1 in
      let too = laid_too text other s same k inner within are inner_all in
      record {
        a = sub.a;
        j = sub.j;
        rs = rules_in other (laid around p ∷ within) ++ sub.rs;
        front = part_pieces p ++ sub.front;
        parted = join sub.front sub.parted;
        spot = spots.past_media p m inner within sub.rs sub.front
            (any_rest (level_of around) p ps xs more (path_flat text r q around i ps ls rs xs more path) all.0)
            (media_stays text other s same p m is own) parts_own too.are
            (subst (λ (n : ℕ). Spot other around (suc k + n) sub.a sub.j sub.rs sub.front) too.count sub.spot);
        rule = sub.rule;
        rest = sub.rest;
        part = sub.part;
      }
  spot_of around k _ _ _ _ _ (in_media m first last inner ps within ls rs xs more is parts_own path are) all inside =
      let join : (front : List Token) → xs ≡ front ++ q.prelude
      → m.keyword ∷ (m.prelude ++ first ∷ xs) ≡ (m.keyword ∷ (m.prelude ++ first ∷ front)) ++ q.prelude =
      λ front e. ap (λ (l : List Token). m.keyword ∷ (m.prelude ++ first ∷ l)) e
      ∙ ap (λ (l : List Token). m.keyword ∷ l) (sym (append_assoc m.prelude (first ∷ front) q.prelude)) in
      let both = flat_of Inner inner m.inside parts_own in
      let sub = spot_of (Some k) (suc k) inner within rs xs more path both.1
      (λ front e. (tokens_split 0 s m.prelude (first ∷ front) (inside (m.keyword ∷ (m.prelude ++ first ∷ front)) (join front e)).1).1.1) in
      let lead = inside (m.keyword ∷ (m.prelude ++ first ∷ sub.front)) (join sub.front sub.parted) in
      let o = opens_media (level_of around) m first last (flat ps) all.0 in
      let inside_is : m.inside ≡ sub.front ++ (q.prelude ++ q.brace ∷ (q.body ++ (option_to_list q.close ++ more))) =
      both.0 ∙ path_flat text r q (Some k) (suc k) inner within rs xs more path
      ∙ ap (λ (l : List Token). l ++ q.brace ∷ (q.body ++ (option_to_list q.close ++ more))) sub.parted
      ∙ append_assoc sub.front q.prelude (q.brace ∷ (q.body ++ (option_to_list q.close ++ more))) in
      let tail : List Token = q.prelude ++ q.brace ∷ (q.body ++ (option_to_list q.close ++ more)) in
      let behind : List Token = option_to_list last ++ flat ps in
      let cut : until stops.BlockEnd (sub.front ++ (tail ++ behind)) ≡ length (sub.front ++ tail) =
      ap (until stops.BlockEnd) (sym (append_assoc sub.front tail behind))
      ∙ ap (λ (l : List Token). until stops.BlockEnd (l ++ behind)) (sym inside_is) ∙ o.fits
      ∙ ap (λ (l : List Token). length l) inside_is in
      record {
        a = sub.a;
        j = sub.j;
        rs = sub.rs;
        front = m.keyword ∷ (m.prelude ++ first ∷ sub.front);
        parted = join sub.front sub.parted;
        spot = spots.in_media m.keyword m.prelude first sub.rs sub.front o.at
            (names_same text other (λ x. x) 0 s same m.keyword m.keyword.kind lead.0
            ∙ names_media_is text m.keyword m.prelude first m.inside last m is) o.values o.curly
            (λ others. reaches stops.BlockEnd sub.front (tail ++ behind) others []
            (omega (arith, cut, length-append sub.front tail))) sub.spot;
        rule = sub.rule;
        rest = sub.rest;
        part = sub.part;
      }
