-- Pieces whose places are moved, with the text that they stand in: what is read from them is the same, with its ranges moved.
use Rattle.std.proofs.Common.{◌≡◌, ℕ, zero, suc, ◌+◌, ◌-◌, ◌<◌, ◌≤◌, ◌==◌, Bool, true, false, cond, ◌&&◌, ◌||◌, not, nat_lt}
use Rattle.std.proofs.Common.{nat_le, List, [], ◌∷◌, ◌++◌, map, take}
use Rattle.std.proofs.Common.{length, Option, Some, None, refl, ap, sym, ◌∙◌, subst, arith}
use Rattle.std.specs.Prelude.{slice_get, slice_index, option_map, option_to_list, codes}
use Rattle.std.specs.Str.{bytes_eq}
use Rattle.std.specs.Char.{to_ascii_lowercase}
use Rattle.css_tokens.specs.Escapes.{unescaped}
use Rattle.std.specs.List.{list_any}
use Rattle.std.proofs.lemmas.Bool.Decides.{nat_tests}
use Rattle.css_tokens.specs.declared.token.Range.{Range}
use Rattle.css_tokens.specs.declared.token.Token.{Token}
use Rattle.css_tokens.specs.declared.token.TokenKind.{TokenKind}
use Rattle.css_tokens.specs.declared.token.TokenKind.TheVariants as tokens
use Rattle.selectors.specs.declared.words.Word.{Word}
use Rattle.selectors.specs.declared.words.WordKind.{WordKind}
use Rattle.selectors.specs.declared.words.WordKind.TheVariants.{Ident}
use Rattle.selectors.specs.Words.{word_reading, word_kind, word_of, passed_over, words_by, words_after, is_mark, between}
use Rattle.selectors.specs.Forms.{SelectorForm, ◌>>=◌}
use Rattle.selectors.specs.Reading.{word_value, range_of, is_over, selector_list_of}
use Rattle.sheet_reader.specs.declared.sheet.Property.{Property}
use Rattle.sheet_reader.specs.declared.brackets.Bracket.{Bracket}
use Rattle.sheet_reader.specs.declared.brackets.Nesting.{Nesting}
use Rattle.sheet_reader.specs.declared.brackets.Nesting.TheVariants.{Stray}
use Rattle.sheet_reader.specs.Forms.{range, RuleForm}
use Rattle.sheet_reader.specs.Brackets.{open_after, is_stray, nesting_in}
use Rattle.sheet_reader.specs.Parts.{EndingForm, text_end, semicolon, block, PartForm, passed, at_rule, qualified}
use Rattle.sheet_reader.specs.Parts.{part_pieces}
use Rattle.sheet_reader.specs.Declarations as body
use Rattle.sheet_reader.specs.Declarations.{items_after, names_important, is_important_by, is_important, plain_value, is_bad_kind}
use Rattle.sheet_reader.specs.Declarations.{is_stray_nesting, holds_bad}
use Rattle.sheet_reader.specs.Declarations.{is_custom, name_by, value_range, property, unless_empty, declared_by, declared_in}
use Rattle.sheet_reader.specs.Declarations.{declaration_of, item_property, properties_in}
use Rattle.sheet_reader.specs.Declarations.{declarations, item_pieces}
use Rattle.sheet_reader.specs.Grammar.{AreItems}
use Rattle.sheet_reader.specs.Sheets.{body_end, style_rule, rule_by, rule_of, is_closed_comment, passed_place, ending_place}
use Rattle.sheet_reader.specs.Sheets.{place_of}
use Rattle.sheet_reader.specs.Sheets.{rules_in, places_in}
use Rattle.sheet_reader.proofs.Raised.{raised, raised_word, raised_ending, raised_part, raised_item, raised_laid, raised_media, flat}
use Rattle.selectors.specs.Moves.{placed_range, placed_selector}
use Rattle.sheet_reader.specs.declared.sheet.MediaRule.{MediaRule}
use Rattle.sheet_reader.specs.Layout.{MediaForm, names_media, media_by, media_form, prelude_range, media_rule, Laid, media_of, media_in}
use Rattle.sheet_reader.specs.Moves.{placed_property, placed_rule, placed_media}
use Rattle.sheet_reader.proofs.ItemForms.{items_spelled}
use Rattle.sheet_reader.proofs.UsableForms.{media_is}
use Rattle.sheet_reader.proofs.PartMoves.{map_take, map_get, map_length, items_raised}
use Rattle.sheet_reader.proofs.WordMoves as words
use Rattle.sheet_reader.proofs.WordMoves.{SamePart, InWord, AllIn}

-- a piece between two places
abbrev pub InToken : ℕ → ℕ → Token → Type 0
InToken lo hi t = (lo ≤ t.start) × (t.start < t.end) × (t.end ≤ hi)

abbrev pub AllTokens : ℕ → ℕ → List Token → Type 0
AllTokens lo hi [] = Unit {0}
AllTokens lo hi (t ∷ ts) = InToken lo hi t × AllTokens lo hi ts

pub tokens_split : (lo hi : ℕ) (xs ys : List Token) → AllTokens lo hi (xs ++ ys) → AllTokens lo hi xs × AllTokens lo hi ys
tokens_split lo hi [] ys all = (tt, all)
tokens_split lo hi (x ∷ xs) ys all = let more = tokens_split lo hi xs ys all.1 in ((all.0, more.0), more.1)

-- a body that the text's end ends has its end where the text's end is moved to
abbrev pub CloseMoved : List ℕ → List ℕ → (ℕ → ℕ) → Option Token → Type 0
CloseMoved text other f None = f (length text) ≡ length other
CloseMoved text other f (Some c) = Unit {0}

abbrev pub EndingMoved : List ℕ → List ℕ → (ℕ → ℕ) → EndingForm → Type 0
EndingMoved text other f text_end = Unit {0}
EndingMoved text other f (semicolon t) = Unit {0}
EndingMoved text other f (block first inside close) = CloseMoved text other f close

abbrev pub PartMoved : List ℕ → List ℕ → (ℕ → ℕ) → PartForm → Type 0
PartMoved text other f (passed t) = Unit {0}
PartMoved text other f (at_rule keyword prelude ending) = Unit {0}
PartMoved text other f (qualified prelude ending) = EndingMoved text other f ending

-- the pieces of all that is laid out
abbrev pub LaidIn : ℕ → ℕ → List Laid → Type 0
LaidIn lo hi [] = Unit {0}
LaidIn lo hi (l ∷ ls) = AllTokens lo hi (part_pieces l.part) × LaidIn lo hi ls

-- and the ends of the bodies among it
abbrev pub LaidMoved : List ℕ → List ℕ → (ℕ → ℕ) → List Laid → Type 0
LaidMoved text other f [] = Unit {0}
LaidMoved text other f (l ∷ ls) = PartMoved text other f l.part × LaidMoved text other f ls

four_far : (p q a b lo f : ℕ) → p ≡ f + (a - lo) → q ≡ f + (b - lo) → lo ≤ a → lo ≤ b → nat_le (a + 4) b ≡ nat_le (p + 4) q
four_far p q a b lo f e g h k = grind (arith, nat_tests)

four_fits : (a b : ℕ) → nat_le (a + 4) b ≡ true → a + 4 ≤ b
four_fits a b e = grind (arith, nat_tests)

and_same : (a c b d : Bool) → a ≡ c → (a ≡ true → b ≡ d) → (a && b) ≡ (c && d)
and_same true true b d e h = h refl
and_same false false b d e h = refl
and_same true false b d e h = cc
and_same false true b d e h = cc

pub nesting_raised : (f : ℕ → ℕ) (bs : List Bracket) (ts : List Token) → nesting_in bs (map (raised f) ts) ≡ nesting_in bs ts
unfolding nesting_in
nesting_raised f bs [] = refl
nesting_raised f bs (t ∷ ts) = ap (λ (n : Nesting). cond (is_stray bs t.kind) Stray n) (nesting_raised f (open_after bs t.kind) ts)

bad_raised : (f : ℕ → ℕ) (ts : List Token) → list_any (λ (t : Token). is_bad_kind t.kind) (map (raised f) ts)
    ≡ list_any (λ (t : Token). is_bad_kind t.kind) ts
bad_raised f [] = refl
bad_raised f (t ∷ ts) = ap (λ (b : Bool). is_bad_kind t.kind || b) (bad_raised f ts)

holds_bad_raised : (f : ℕ → ℕ) (ts : List Token) → holds_bad (map (raised f) ts) ≡ holds_bad ts
holds_bad_raised f ts =
    let a = bad_raised f ts in
    let b = nesting_raised f [] ts in
    λ i. a i || is_stray_nesting (b i)

-- the prelude of a media rule and what is in its block stand among its pieces
pub form_in : (text : List ℕ) (lo hi : ℕ) (p : PartForm) (m : MediaForm) → media_form text p ≡ Some m → AllTokens lo hi (part_pieces p)
    → AllTokens lo hi m.prelude × AllTokens lo hi m.inside
form_in text lo hi p m e all =
    let i = media_is text p m e in
    let within : AllTokens lo hi (m.keyword ∷ (m.prelude ++ i.first ∷ (m.inside ++ option_to_list i.close))) =
    subst (λ (q : PartForm). AllTokens lo hi (part_pieces q)) i.is all in
    let both = tokens_split lo hi m.prelude (i.first ∷ (m.inside ++ option_to_list i.close)) within.1 in
    (both.0, (tokens_split lo hi m.inside (option_to_list i.close) both.1.1).0)

module _ (text other : List ℕ) (f : ℕ → ℕ) (lo hi : ℕ) (same : SamePart text other f lo hi) where
  -- ---- words
  word_is : (spaced : Bool) (t : Token) → InToken lo hi t → word_of other spaced (raised f t) ≡ raised_word f (word_of text spaced t)
  word_is spaced t i =
      ap (λ (c : ℕ). record { kind = word_kind t.kind c; start = f t.start; end = f t.end; spaced = spaced })
      (sym (same.code t.start i.0 (omega (arith, i.1, i.2))))

  pub words_same : (spaced : Bool) (ts : List Token) → AllTokens lo hi ts
      → words_after other spaced (map (raised f) ts) ≡ map (raised_word f) (words_after text spaced ts)
  unfolding words_after
  words_same spaced [] all = refl
  words_same spaced (t ∷ ts) all =
      ap (λ (w : Word). words_by (passed_over t.kind spaced) w (λ s. words_after other s (map (raised f) ts))) (word_is spaced t all.0)
      ∙ by (passed_over t.kind spaced) (λ s. words_same s ts all.1)
    where
      by : (o : Option Bool) → ((s : Bool) → words_after other s (map (raised f) ts) ≡ map (raised_word f) (words_after text s ts))
          → words_by o (raised_word f (word_of text spaced t)) (λ s. words_after other s (map (raised f) ts))
          ≡ map (raised_word f) (words_by o (word_of text spaced t) (λ s. words_after text s ts))
      by None more = ap (λ (ws : List Word). raised_word f (word_of text spaced t) ∷ ws) (more false)
      by (Some s) more = more s

  pub words_in : (spaced : Bool) (ts : List Token) → AllTokens lo hi ts → AllIn lo hi (words_after text spaced ts)
  unfolding words_after
  words_in spaced [] all = tt
  words_in spaced (t ∷ ts) all = by (passed_over t.kind spaced) (λ s. words_in s ts all.1)
    where
      by : (o : Option Bool) → ((s : Bool) → AllIn lo hi (words_after text s ts))
          → AllIn lo hi (words_by o (word_of text spaced t) (λ s. words_after text s ts))
      by None more = (all.0, more false)
      by (Some s) more = more s

  get_in : (ws : List Word) (n : ℕ) (w : Word) → AllIn lo hi ws → slice_get ws n ≡ Some w → InWord lo hi w
  get_in [] zero w all e = absurd (cc)
  get_in [] (suc n) w all e = absurd (cc)
  get_in (x ∷ ws) zero w all e = let at : x ≡ w = cc in subst (InWord lo hi) at all.0
  get_in (x ∷ ws) (suc n) w all e = get_in ws n w all.1 e

  take_in : (n : ℕ) (ws : List Word) → AllIn lo hi ws → AllIn lo hi (take n ws)
  take_in zero ws all = tt
  take_in (suc n) [] all = tt
  take_in (suc n) (w ∷ ws) all = (all.0, take_in n ws all.1)

  -- ---- declarations
  named_same : (w : Word) (k : WordKind) → InWord lo hi w → names_important other (raised_word f w) k ≡ names_important text w k
  named_same w Ident i = ap (λ (v : List ℕ). bytes_eq v (codes "important")) (sym (words.lower_same text other f lo hi same w i))
  named_same w _ i = refl

  important_by_same : (a b : Option Word) → ((w : Word) → b ≡ Some w → InWord lo hi w)
      → is_important_by other (option_map (raised_word f) a) (option_map (raised_word f) b) ≡ is_important_by text a b
  important_by_same None b i = refl
  important_by_same (Some a) None i = refl
  important_by_same (Some a) (Some b) i = ap (λ (x : Bool). is_mark 33 a.kind && x) (named_same b b.kind (i b refl))

  important_same : (ws : List Word) → AllIn lo hi ws → is_important other (map (raised_word f) ws) ≡ is_important text ws
  important_same ws all =
      ap (λ (n : ℕ). nat_lt 1 n && is_important_by other (slice_get (map (raised_word f) ws) (n - 2))
      (slice_get (map (raised_word f) ws) (n - 1)))
      (map_length (raised_word f) ws)
      ∙ ap (λ (o : Option Word). nat_lt 1 (length ws) && is_important_by other o (slice_get (map (raised_word f) ws) (length ws - 1)))
      (map_get (raised_word f) (length ws - 2) ws)
      ∙ ap (λ (o : Option Word). nat_lt 1 (length ws) && is_important_by other
      (option_map (raised_word f) (slice_get ws (length ws - 2))) o)
      (map_get (raised_word f) (length ws - 1) ws)
      ∙ ap (λ (b : Bool). nat_lt 1 (length ws) && b) (important_by_same (slice_get ws (length ws - 2)) (slice_get ws (length ws - 1))
      (λ w e. get_in ws (length ws - 1) w all e))

  plain_same : (b : Bool) (ws : List Word) → plain_value b (map (raised_word f) ws) ≡ map (raised_word f) (plain_value b ws)
  plain_same true ws = ap (λ (n : ℕ). take (n - 2) (map (raised_word f) ws)) (map_length (raised_word f) ws)
      ∙ map_take (raised_word f) (length ws - 2) ws
  plain_same false ws = refl

  value_range_same : (colon : Word) (o : Option Range) → value_range (raised_word f colon) (option_map (placed_range f) o)
      ≡ placed_range f (value_range colon o)
  value_range_same colon (Some r) = refl
  value_range_same colon None = refl

  over_same : (ws : List Word) → is_over (map (raised_word f) ws) ≡ is_over ws
  over_same [] = refl
  over_same (w ∷ ws) = refl

  unless_same : (ws : List Word) (p : Property) → unless_empty (map (raised_word f) ws) (placed_property f p)
      ≡ option_map (placed_property f) (unless_empty ws p)
  unless_same ws p = ap (λ (b : Bool). cond (b && not (is_custom p.name)) None (Some (placed_property f p))) (over_same ws)
      ∙ by (is_over ws && not (is_custom p.name))
    where
      by : (b : Bool) → cond b None (Some (placed_property f p)) ≡ option_map (placed_property f) (cond b None (Some p))
      by true = refl
      by false = refl

  declared_same : (ws : List Word) (whole : Range) → AllIn lo hi ws
      → declared_by other (map (raised_word f) ws) (placed_range f whole) ≡ option_map (placed_property f) (declared_by text ws whole)
  declared_same [] whole all = refl
  declared_same (name ∷ []) whole all = refl
  declared_same (name ∷ colon ∷ value) whole all =
      let i = important_same value all.1.1 in
      let n = sym (words.value_same text other f lo hi same name all.0) in
      let plain = plain_value (is_important text value) value in
      let p = ap (λ (b : Bool). plain_value b (map (raised_word f) value)) i ∙ plain_same (is_important text value) value in
      let r = ap range_of p ∙ words.range_same text other f lo hi same plain in
      let v = ap (value_range (raised_word f colon)) r ∙ value_range_same colon (range_of plain) in
      let made : property (name_by (word_value other (raised_word f name))) (raised_word f colon)
      (is_important other (map (raised_word f) value))
      (plain_value (is_important other (map (raised_word f) value)) (map (raised_word f) value)) (placed_range f whole)
      ≡ placed_property f (property (name_by (word_value text name)) colon (is_important text value) plain whole) =
      λ k. record { name = name_by (n k); value = v k; important = i k; whole = placed_range f whole } in
      (λ k. cond (is_mark 58 colon.kind) (unless_empty (p k) (made k)) None) ∙ by (is_mark 58 colon.kind) plain
      (property (name_by (word_value text name)) colon (is_important text value) plain whole)
    where
      by : (b : Bool) (ws : List Word) (p : Property) → cond b (unless_empty (map (raised_word f) ws) (placed_property f p)) None
          ≡ option_map (placed_property f) (cond b (unless_empty ws p) None)
      by true ws p = unless_same ws p
      by false ws p = refl

  declared_in_same : (ws : List Word) → AllIn lo hi ws
      → declared_in other (map (raised_word f) ws) ≡ option_map (placed_property f) (declared_in text ws)
  declared_in_same ws all =
      ap (λ (o : Option Range). o >>= λ whole. declared_by other (map (raised_word f) ws) whole)
      (words.range_same text other f lo hi same ws)
      ∙ by (range_of ws)
    where
      by : (o : Option Range) → (option_map (placed_range f) o >>= λ whole. declared_by other (map (raised_word f) ws) whole)
          ≡ option_map (placed_property f) (o >>= λ whole. declared_by text ws whole)
      by None = refl
      by (Some r) = declared_same ws r all

  declaration_same : (ts : List Token) → AllTokens lo hi ts
      → declaration_of other (map (raised f) ts) ≡ option_map (placed_property f) (declaration_of text ts)
  unfolding declaration_of
  declaration_same ts all =
      let a = holds_bad_raised f ts in
      let b = ap (declared_in other) (words_same false ts all) ∙ declared_in_same (words_after text false ts) (words_in false ts all) in
      (λ k. cond (a k) None (b k)) ∙ by (holds_bad ts) (declared_in text (words_after text false ts))
    where
      by : (b : Bool) (o : Option Property) → cond b None (option_map (placed_property f) o)
          ≡ option_map (placed_property f) (cond b None o)
      by true o = refl
      by false o = refl

  item_same : (x : body.ItemForm) → AllTokens lo hi (item_pieces x)
      → item_property other (raised_item f x) ≡ option_map (placed_property f) (item_property text x)
  item_same (body.candidate ts) all = declaration_same ts all
  item_same (body.passed t) all = refl
  item_same (body.at_rule p) all = refl
  item_same (body.other ts) all = refl

  properties_same : (xs : List body.ItemForm) (ts : List Token) → AreItems xs ts → AllTokens lo hi ts
      → properties_in other (map (raised_item f) xs) ≡ map (placed_property f) (properties_in text xs)
  unfolding properties_in
  properties_same [] ts are all = refl
  properties_same (x ∷ xs) ts are all =
      let both = tokens_split lo hi (item_pieces x) are.0 (subst (AllTokens lo hi) are.1 all) in
      let a = item_same x both.0 in
      let b = properties_same xs are.0 are.3 both.1 in
      (λ k. option_to_list (a k) ++ b k) ∙ joined (item_property text x) (properties_in text xs)
    where
      joined : (o : Option Property) (ps : List Property) → option_to_list (option_map (placed_property f) o) ++ map (placed_property f) ps
          ≡ map (placed_property f) (option_to_list o ++ ps)
      joined None ps = refl
      joined (Some p) ps = refl

  pub declarations_same : (ts : List Token) → AllTokens lo hi ts
      → declarations other (map (raised f) ts) ≡ map (placed_property f) (declarations text ts)
  declarations_same ts all = ap (properties_in other) (items_raised f 0 ts) ∙ properties_same (items_after 0 ts) ts (items_spelled ts) all

  -- ---- rules
  pub end_same : (close : Option Token) → CloseMoved text other f close → body_end other (option_map (raised f) close)
      ≡ f (body_end text close)
  end_same None e = sym e
  end_same (Some c) e = refl

  pub rule_by_same : (around : Option ℕ) (prelude inside : List Token) (first : Token) (close : Option Token) → AllTokens lo hi prelude
      → AllTokens lo hi inside
      → CloseMoved text other f close
      → rule_by other around (map (raised f) prelude) (raised_ending f (block first inside close))
      ≡ option_map (placed_rule f) (rule_by text around prelude (block first inside close))
  rule_by_same around prelude inside first close all own end =
      let ws = words_after text false prelude in
      let w = words_same false prelude all in
      let e = end_same close end in
      let d = declarations_same inside own in
      let r = words.range_same text other f lo hi same ws in
      let l = words.list_same text other f lo hi same ws (words_in false prelude all) in
      (λ k. style_rule other around (w k) (range (f first.end) (e k)) (map (raised f) inside))
      ∙ (λ k. r k >>= λ prelude. l k >>= λ selectors. Some
      (record {
        prelude = prelude;
        selectors = selectors;
        body = range (f first.end)
            (f (body_end text close));
        properties = d k;
        media = around;
      }))
      ∙ by (range_of ws) (selector_list_of (word_reading text ws))
    where
      by : (o : Option Range) (l : Option (List SelectorForm))
          → (option_map (placed_range f) o >>= λ prelude. option_map (map (placed_selector f)) l >>= λ selectors.
          Some (record {
            prelude = prelude;
            selectors = selectors;
            body = range (f first.end) (f (body_end text close));
            properties = map
                (placed_property f) (declarations text inside);
            media = around;
          }))
          ≡ option_map (placed_rule f) (o >>= λ prelude. l >>= λ selectors.
          Some (record {
            prelude = prelude;
            selectors = selectors;
            body = range first.end
                (body_end text close);
            properties = declarations text inside;
            media = around;
          }))
      by None l = refl
      by (Some r) None = refl
      by (Some r) (Some ss) = refl

  rule_same : (around : Option ℕ) (p : PartForm) → AllTokens lo hi (part_pieces p) → PartMoved text other f p
      → rule_of other around (raised_part f p) ≡ option_map (placed_rule f) (rule_of text around p)
  unfolding rule_of
  rule_same around (passed t) all moved = refl
  rule_same around (at_rule keyword prelude ending) all moved = refl
  rule_same around (qualified prelude text_end) all moved = refl
  rule_same around (qualified prelude (semicolon t)) all moved = refl
  rule_same around (qualified prelude (block first inside close)) all moved =
      let both = tokens_split lo hi prelude (first ∷ (inside ++ option_to_list close)) all in
      rule_by_same around prelude inside first close both.0 (tokens_split lo hi inside (option_to_list close) both.1.1).0 moved

  pub rules_same : (ls : List Laid) → LaidIn lo hi ls → LaidMoved text other f ls
      → rules_in other (map (raised_laid f) ls) ≡ map (placed_rule f) (rules_in text ls)
  unfolding rules_in
  rules_same [] all moved = refl
  rules_same (l ∷ ls) all moved =
      let a = rule_same l.around l.part all.0 moved.0 in
      let b = rules_same ls all.1 moved.1 in
      (λ k. option_to_list (a k) ++ b k) ∙ joined (rule_of text l.around l.part) (rules_in text ls)
    where
      joined : (o : Option RuleForm) (rs : List RuleForm) → option_to_list (option_map (placed_rule f) o) ++ map (placed_rule f) rs
          ≡ map (placed_rule f) (option_to_list o ++ rs)
      joined None rs = refl
      joined (Some r) rs = refl

  -- ---- media rules
  pub names_same : (t : Token) (kind : TokenKind) → InToken lo hi t → names_media other (raised f t) kind ≡ names_media text t kind
  names_same t tokens.AtKeyword i =
      let at = same.shift t.start 1 i.0 (omega (arith, i.1, i.2)) in
      ap (λ (xs : List ℕ). bytes_eq (map to_ascii_lowercase (unescaped xs)) (codes "media"))
      (ap (λ (n : ℕ). between other n (f t.end)) (sym at)
      ∙ sym (same.cut (t.start + 1) t.end (omega (arith, i.0)) (omega (arith, i.1, i.2)) (omega (arith, i.0, i.1)) i.2))
  names_same t _ i = refl

  media_by_same : (keyword : Token) (prelude : List Token) (ending : EndingForm)
      → media_by (raised f keyword) (map (raised f) prelude) (raised_ending f ending)
      ≡ option_map (raised_media f) (media_by keyword prelude ending)
  media_by_same keyword prelude text_end = refl
  media_by_same keyword prelude (semicolon t) = refl
  media_by_same keyword prelude (block first inside close) = refl

  pub form_same : (p : PartForm) → AllTokens lo hi (part_pieces p)
      → media_form other (raised_part f p) ≡ option_map (raised_media f) (media_form text p)
  unfolding media_form
  form_same (passed t) all = refl
  form_same (qualified prelude ending) all = refl
  form_same (at_rule keyword prelude ending) all =
      let a = names_same keyword keyword.kind all.0 in
      let b = media_by_same keyword prelude ending in
      (λ k. cond (a k) (b k) None) ∙ by (names_media text keyword keyword.kind) (media_by keyword prelude ending)
    where
      by : (b : Bool) (o : Option MediaForm) → cond b (option_map (raised_media f) o) None ≡ option_map (raised_media f) (cond b o None)
      by true o = refl
      by false o = refl

  prelude_range_same : (keyword : Token) (o : Option Range)
      → prelude_range (raised f keyword) (option_map (placed_range f) o) ≡ placed_range f (prelude_range keyword o)
  prelude_range_same keyword (Some r) = refl
  prelude_range_same keyword None = refl

  pub media_rule_same : (around : Option ℕ) (m : MediaForm) → AllTokens lo hi m.prelude
      → media_rule other around (raised_media f m) ≡ placed_media f (media_rule text around m)
  media_rule_same around m all =
      let ws = words_after text false m.prelude in
      let w = ap range_of (words_same false m.prelude all) ∙ words.range_same text other f lo hi same ws in
      let r = ap (prelude_range (raised f m.keyword)) w ∙ prelude_range_same m.keyword (range_of ws) in
      λ k. record { prelude = r k; inside = around }

  media_of_same : (l : Laid) → AllTokens lo hi (part_pieces l.part) → media_of other (raised_laid f l)
      ≡ option_map (placed_media f) (media_of text l)
  media_of_same l all =
      ap (option_map (media_rule other l.around)) (form_same l.part all)
      ∙ by (media_form text l.part) (λ m e. (form_in text lo hi l.part m e all).0)
    where
      by : (o : Option MediaForm) → ((m : MediaForm) → o ≡ Some m → AllTokens lo hi m.prelude)
          → option_map (media_rule other l.around) (option_map (raised_media f) o)
          ≡ option_map (placed_media f) (option_map (media_rule text l.around) o)
      by None own = refl
      by (Some m) own = ap Some (media_rule_same l.around m (own m refl))

  pub media_same : (ls : List Laid) → LaidIn lo hi ls → media_in other (map (raised_laid f) ls) ≡ map (placed_media f) (media_in text ls)
  unfolding media_in
  media_same [] all = refl
  media_same (l ∷ ls) all =
      let a = media_of_same l all.0 in
      let b = media_same ls all.1 in
      (λ k. option_to_list (a k) ++ b k) ∙ joined (media_of text l) (media_in text ls)
    where
      joined : (o : Option MediaRule) (ms : List MediaRule) → option_to_list (option_map (placed_media f) o) ++ map (placed_media f) ms
          ≡ map (placed_media f) (option_to_list o ++ ms)
      joined None ms = refl
      joined (Some m) ms = refl

  -- ---- places
  comment_same : (t : Token) → InToken lo hi t → is_closed_comment other (raised f t) ≡ is_closed_comment text t
  comment_same t i =
      sym (and_same _ _ _ _ (four_far (f t.start) (f t.end) t.start t.end lo (f lo)
      (words.place_at text other f lo hi same t.start i.0 (omega (arith, i.1, i.2)))
      (words.place_at text other f lo hi same t.end (omega (arith, i.0, i.1)) i.2) i.0 (omega (arith, i.0, i.1))) (λ e.
      let long = four_fits t.start t.end e in
      let two : t.end - 2 + 2 ≡ t.end = omega (arith, long) in
      let one : t.end - 1 + 1 ≡ t.end = omega (arith, long) in
      let c = same.shift (t.end - 2) 2 (omega (arith, i.0, long)) (omega (arith, i.2, long)) in
      let d = same.shift (t.end - 1) 1 (omega (arith, i.0, long)) (omega (arith, i.2, long)) in
      let g : f (t.end - 2) ≡ f t.end - 2 = omega (arith, c, ap f two) in
      let h : f (t.end - 1) ≡ f t.end - 1 = omega (arith, d, ap f one) in
      let a = same.code (t.end - 2) (omega (arith, i.0, long)) (omega (arith, i.2, long)) ∙ ap (slice_index other) g in
      let b = same.code (t.end - 1) (omega (arith, i.0, long)) (omega (arith, i.2, long)) ∙ ap (slice_index other) h in
      λ k. a k == 42 && b k == 47))

  passed_same : (t : Token) (kind : TokenKind) → InToken lo hi t → passed_place other (raised f t) kind
      ≡ option_map f (passed_place text t kind)
  passed_same t tokens.Comment i = ap (λ (b : Bool). cond b (Some (f t.end)) None) (comment_same t i) ∙ by (is_closed_comment text t)
    where
      by : (b : Bool) → cond b (Some (f t.end)) None ≡ option_map f (cond b (Some t.end) None)
      by true = refl
      by false = refl
  passed_same t _ i = refl

  pub ending_place_same : (e : EndingForm) → ending_place (raised_ending f e) ≡ option_map f (ending_place e)
  ending_place_same text_end = refl
  ending_place_same (semicolon t) = refl
  ending_place_same (block first inside None) = refl
  ending_place_same (block first inside (Some c)) = refl

  place_same : (p : PartForm) → AllTokens lo hi (part_pieces p) → place_of other (raised_part f p) ≡ option_map f (place_of text p)
  unfolding place_of
  place_same (passed t) all = passed_same t t.kind all.0
  place_same (at_rule keyword prelude ending) all = ending_place_same ending
  place_same (qualified prelude ending) all = ending_place_same ending

  pub places_same : (ps : List PartForm) → AllTokens lo hi (flat ps) → places_in other (map (raised_part f) ps) ≡ map f (places_in text ps)
  unfolding places_in
  places_same [] all = refl
  places_same (p ∷ ps) all =
      let both = tokens_split lo hi (part_pieces p) (flat ps) all in
      let a = place_same p both.0 in
      let b = places_same ps both.1 in
      (λ k. option_to_list (a k) ++ b k) ∙ joined (place_of text p) (places_in text ps)
    where
      joined : (o : Option ℕ) (xs : List ℕ) → option_to_list (option_map f o) ++ map f xs ≡ map f (option_to_list o ++ xs)
      joined None xs = refl
      joined (Some x) xs = refl
