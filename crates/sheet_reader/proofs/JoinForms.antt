-- Parts of two texts, one behind the other, and what they lay out.
use Rattle.std.proofs.Common.{◌≡◌, ◌⊎◌, inl, inr, ℕ, suc, ◌+◌, true, false, List, [], ◌∷◌, ◌++◌, map, length}
use Rattle.std.proofs.Common.{Option, Some, None, refl, sym, ap, subst, ◌∙◌, append_assoc, length-append, arith}
use Rattle.std.specs.Prelude.{option_map, option_to_list}
use Rattle.css_tokens.specs.declared.token.Range.{Range}
use Rattle.css_tokens.specs.declared.token.Token.{Token}
use Rattle.css_tokens.specs.declared.token.TokenKind.TheVariants as tokens
use Rattle.selectors.specs.Words.{word_reading, words_after}
use Rattle.selectors.specs.Forms.{SelectorForm, ◌>>=◌}
use Rattle.selectors.specs.Reading.{range_of, selector_list_of}
use Rattle.sheet_reader.specs.declared.brackets.Stop.{Stop}
use Rattle.sheet_reader.specs.declared.brackets.Stop.TheVariants as stops
use Rattle.sheet_reader.specs.declared.parts.Level.{Level}
use Rattle.sheet_reader.specs.declared.sheet.MediaRule.{MediaRule}
use Rattle.sheet_reader.specs.Forms.{range, RuleForm}
use Rattle.sheet_reader.specs.Parts.{EndingForm, text_end, semicolon, block, PartForm, passed, at_rule, qualified, ending_pieces}
use Rattle.sheet_reader.specs.Parts.{part_pieces}
use Rattle.sheet_reader.specs.Layout.{MediaForm, media_form, media_rule, media_of, media_in, Laid, laid}
use Rattle.sheet_reader.specs.Layout.{AreLaid, none_laid, part_laid, media_laid}
use Rattle.sheet_reader.specs.Declarations.{declarations}
use Rattle.sheet_reader.specs.Lone.{is_closed_ending}
use Rattle.sheet_reader.specs.Joins.{is_shut_part, ends_shut}
use Rattle.sheet_reader.specs.Sheets.{body_end, rule_of, place_of, rules_in, places_in}
use Rattle.sheet_reader.specs.Grammar.{outside, AreValues, EndsBefore, IsEnding, at_text_end, at_semicolon, in_block, in_open_block, IsRule}
use Rattle.sheet_reader.specs.Grammar.{IsPart}
use Rattle.sheet_reader.specs.Grammar.{BeginsQualified, passed_part, at_rule_part, qualified_part, AreShut}
use Rattle.sheet_reader.proofs.Raised.{flat}
use Rattle.sheet_reader.proofs.FrameForms.{media_append, media_cons}
use Rattle.sheet_reader.proofs.PartMoves.{AreFlat, cons_follows, values_rest, part_rest}
use Rattle.sheet_reader.proofs.LaidMoves.{part_shut}

-- ---- a rule that has its `}` is one whatever stands behind it
closed_rest : (stop : Stop) (prelude : List Token) (ending : EndingForm) (rest other : List Token) → is_closed_ending ending ≡ true
    → IsRule stop prelude ending rest → IsRule stop prelude ending other
closed_rest stop prelude ending rest other shut r = by r.ends r.values r.stopped shut
  where
    by : {ending : EndingForm} → IsEnding ending rest → AreValues (outside stop) prelude (ending_pieces ending ++ rest)
        → EndsBefore (outside stop) (ending_pieces ending ++ rest) → is_closed_ending ending ≡ true → IsRule stop prelude ending other
    by (at_text_end over) vs stopped shut = cc
    by (at_semicolon t e) vs stopped shut = cc
    by (in_open_block first within e own over) vs stopped shut = cc
    by (in_block first close within e own closed) vs stopped shut = record {
      values = values_rest (outside stop) prelude (first ∷ ((within ++ close ∷ []) ++ rest)) (first ∷ ((within ++ close ∷ []) ++ other))
          (cons_follows first _) vs;
      stopped = stopped;
      ends = in_block first close within e
          (values_rest (outside stops.BlockEnd) within (close ∷ rest) (close ∷ other) (cons_follows close rest) own) closed;
    }

pub shut_rest : (level : Level) (p : PartForm) (rest other : List Token) → is_shut_part p ≡ true → IsPart level p rest
    → IsPart level p other
shut_rest level _ rest other shut (passed_part t e) = cc
shut_rest level _ rest other shut (at_rule_part keyword prelude ending e r) =
    at_rule_part keyword prelude ending e (closed_rest stops.BlockOrSemicolon prelude ending rest other shut r)
shut_rest level _ rest other shut (qualified_part prelude ending begins r) =
    qualified_part prelude ending begins (closed_rest stops.Block prelude ending rest other shut r)

-- a part has a piece
pub some_piece : (level : Level) (p : PartForm) (rest more : List Token) → IsPart level p rest → part_pieces p ++ more ≡ [] → ⊥
some_piece level _ rest more (passed_part t e) is = cc
some_piece level _ rest more (at_rule_part keyword prelude ending e r) is = cc
some_piece level _ rest more (qualified_part prelude ending begins r) is = by prelude (ending_pieces ending) begins is
  where
    by : (xs ys : List Token) → BeginsQualified level (xs ++ ys) → (xs ++ ys) ++ more ≡ [] → ⊥
    by [] [] b e = absurd b
    by [] (y ∷ ys) b e = cc
    by (x ∷ xs) ys b e = cc

pub flat_append : (ps qs : List PartForm) → flat (ps ++ qs) ≡ flat ps ++ flat qs
flat_append [] qs = refl
flat_append (p ∷ ps) qs = ap (λ (ts : List Token). part_pieces p ++ ts) (flat_append ps qs)
    ∙ sym (append_assoc (part_pieces p) (flat ps) (flat qs))

-- parts that end with a rule's `}`, and others behind them
pub flat_join : (level : Level) (ps qs : List PartForm) → ends_shut ps ≡ true → AreFlat level ps → AreFlat level qs
    → AreFlat level (ps ++ qs)
flat_join level [] qs shut all more = more
flat_join level (p ∷ []) qs shut all more = (shut_rest level p [] (flat qs) shut all.0, more)
flat_join level (p ∷ q ∷ ps) qs shut all more = (
  subst (IsPart level p) (sym (flat_append (q ∷ ps) qs))
      (part_rest level p (flat (q ∷ ps)) (flat (q ∷ ps) ++ flat qs) (some_piece level q (flat ps) (flat ps) all.1.0) all.0),
  flat_join level (q ∷ ps) qs shut all.1 more,
)

pub all_shut : (level : Level) (ps : List PartForm) → ends_shut ps ≡ true → AreFlat level ps → AreShut ps
all_shut level [] shut all = tt
all_shut level (p ∷ []) shut all = (
  part_shut level p (p_token p ∷ []) (cons_follows (p_token p) []) (shut_rest level p [] (p_token p ∷ []) shut all.0),
  tt,
)
  where
    p_token : PartForm → Token
    p_token p = record { kind = tokens.Comment; start = 0; end = 0 }
all_shut level (p ∷ q ∷ ps) shut all =
    (part_shut level p (flat (q ∷ ps)) (some_piece level q (flat ps) (flat ps) all.1.0) all.0, all_shut level (q ∷ ps) shut all.1)

-- the last piece of parts that end with a rule's `}`
pub record LastClose (ts : List Token) : Type 0 where
  pub front : List Token
  pub close : Token
  pub is : ts ≡ front ++ close ∷ []
  pub kind : close.kind ≡ tokens.CloseCurly

close_behind : (xs ts : List Token) → LastClose ts → LastClose (xs ++ ts)
close_behind xs ts l = record {
  front = xs ++ l.front;
  close = l.close;
  is = ap (λ (ys : List Token). xs ++ ys) l.is ∙ sym (append_assoc xs l.front (l.close ∷ []));
  kind = l.kind;
}

ending_close : (ending : EndingForm) (rest : List Token) → is_closed_ending ending ≡ true → IsEnding ending rest
    → LastClose (ending_pieces ending)
ending_close _ rest shut (at_text_end over) = cc
ending_close _ rest shut (at_semicolon t e) = cc
ending_close _ rest shut (in_open_block first within e own over) = cc
ending_close _ rest shut (in_block first close within e own closed) =
    record { front = first ∷ within; close = close; is = refl; kind = closed }

part_close : (level : Level) (p : PartForm) (rest : List Token) → is_shut_part p ≡ true → IsPart level p rest → LastClose (part_pieces p)
part_close level _ rest shut (passed_part t e) = cc
part_close level _ rest shut (at_rule_part keyword prelude ending e r) =
    close_behind (keyword ∷ prelude) (ending_pieces ending) (ending_close ending rest shut r.ends)
part_close level _ rest shut (qualified_part prelude ending begins r) =
    close_behind prelude (ending_pieces ending) (ending_close ending rest shut r.ends)

pub parts_close : (level : Level) (ps : List PartForm) → ends_shut ps ≡ true → AreFlat level ps → (ps ≡ []) ⊎ LastClose (flat ps)
parts_close level [] shut all = inl refl
parts_close level (p ∷ []) shut all =
    inr (subst LastClose (sym (append_nil_of (part_pieces p))) (part_close level p [] shut all.0))
  where
    append_nil_of : (xs : List Token) → xs ++ [] ≡ xs
    append_nil_of [] = refl
    append_nil_of (x ∷ xs) = ap (λ (ys : List Token). x ∷ ys) (append_nil_of xs)
parts_close level (p ∷ q ∷ ps) shut all =
    elim (parts_close level (q ∷ ps) shut all.1) [
      | inl none ↦ absurd (cc)
      | inr l ↦ inr (close_behind (part_pieces p) (flat (q ∷ ps)) l)
    ]

-- ---- what is laid out from parts and others behind them
count_none : (text : List ℕ) (around : Option ℕ) (p : PartForm) (ls : List Laid) → media_form text p ≡ None
    → length (media_in text (laid around p ∷ ls)) ≡ length (media_in text ls)
count_none text around p ls e = ap length (media_cons text around p ls None e)

pub laid_join : (text : List ℕ) (around : Option ℕ) (k j : ℕ) (ps qs : List PartForm) (ls ms : List Laid) → AreLaid text around k ps ls
    → k + length (media_in text ls) ≡ j → AreLaid text around j qs ms → AreLaid text around k (ps ++ qs) (ls ++ ms)
unfolding media_in
laid_join text around k j _ qs _ ms none_laid at more =
    let same : j ≡ k = omega (arith, at) in subst (λ (n : ℕ). AreLaid text around n qs ms) same more
laid_join text around k j _ qs _ ms (part_laid p ps ls e are) at more =
    part_laid p (ps ++ qs) (ls ++ ms) e
    (laid_join text around k j ps qs ls ms are (omega (arith, at, count_none text around p ls e)) more)
laid_join text around k j _ qs _ ms (media_laid p m inner ps within ls e is own are) at more =
    let count = ap length (media_cons text around p (within ++ ls) (Some m) e) in
    let both = ap length (media_append text within ls) ∙ length-append (media_in text within) (media_in text ls) in
    subst (λ (xs : List Laid). AreLaid text around k (p ∷ (ps ++ qs)) (laid around p ∷ xs)) (sym (append_assoc within ls ms))
    (media_laid p m inner (ps ++ qs) within (ls ++ ms) e is own
    (laid_join text around (suc k + length (media_in text within)) j ps qs ls ms are (omega (arith, at, count, both)) more))

-- ---- behind other media rules
abbrev pub numbered : ℕ → Laid → Laid
numbered n l = laid (option_map (λ m. n + m) l.around) l.part

abbrev pub rule_numbered : ℕ → RuleForm → RuleForm
rule_numbered n r = record {
  prelude = r.prelude;
  selectors = r.selectors;
  body = r.body;
  properties = r.properties;
  media = option_map (λ m. n + m) r.media;
}

abbrev pub media_numbered : ℕ → MediaRule → MediaRule
media_numbered n m = record { prelude = m.prelude; inside = option_map (λ m. n + m) m.inside }

rule_again : (text : List ℕ) (n : ℕ) (around : Option ℕ) (p : PartForm)
    → rule_of text (option_map (λ m. n + m) around) p ≡ option_map (rule_numbered n) (rule_of text around p)
unfolding rule_of
rule_again text n around (passed t) = refl
rule_again text n around (at_rule keyword prelude ending) = refl
rule_again text n around (qualified prelude text_end) = refl
rule_again text n around (qualified prelude (semicolon t)) = refl
rule_again text n around (qualified prelude (block first within close)) =
    by (range_of (words_after text false prelude)) (selector_list_of (word_reading text (words_after text false prelude)))
  where
    by : (o : Option Range) (l : Option (List SelectorForm))
        → (o >>= λ prelude. l >>= λ selectors. Some (record {
          prelude = prelude;
          selectors = selectors;
          body = range first.end (body_end text close);
          properties = declarations text within;
          media = option_map (λ m. n + m) around;
        }))
        ≡ option_map (rule_numbered n) (o >>= λ prelude. l >>= λ selectors. Some (record {
          prelude = prelude;
          selectors = selectors;
          body = range first.end (body_end text close);
          properties = declarations text within;
          media = around;
        }))
    by None l = refl
    by (Some r) None = refl
    by (Some r) (Some ss) = refl

list_again : {X : Type 0} (f : X → X) (o : Option X) (xs : List X)
    → option_to_list (option_map f o) ++ map f xs ≡ map f (option_to_list o ++ xs)
list_again f None xs = refl
list_again f (Some x) xs = refl

pub rules_numbered : (text : List ℕ) (n : ℕ) (ls : List Laid)
    → rules_in text (map (numbered n) ls) ≡ map (rule_numbered n) (rules_in text ls)
unfolding rules_in
rules_numbered text n [] = refl
rules_numbered text n (l ∷ ls) =
    let a = rule_again text n l.around l.part in
    let b = rules_numbered text n ls in
    (λ i. option_to_list (a i) ++ b i) ∙ list_again (rule_numbered n) (rule_of text l.around l.part) (rules_in text ls)

media_again : (text : List ℕ) (n : ℕ) (around : Option ℕ) (o : Option MediaForm)
    → option_map (media_rule text (option_map (λ m. n + m) around)) o
    ≡ option_map (media_numbered n) (option_map (media_rule text around) o)
media_again text n around None = refl
media_again text n around (Some m) = refl

pub medias_numbered : (text : List ℕ) (n : ℕ) (ls : List Laid)
    → media_in text (map (numbered n) ls) ≡ map (media_numbered n) (media_in text ls)
unfolding media_in
medias_numbered text n [] = refl
medias_numbered text n (l ∷ ls) =
    let a = media_again text n l.around (media_form text l.part) in
    let b = medias_numbered text n ls in
    (λ i. option_to_list (a i) ++ b i) ∙ list_again (media_numbered n) (media_of text l) (media_in text ls)

pub map_append : {X Y : Type 0} (f : X → Y) (xs ys : List X) → map f (xs ++ ys) ≡ map f xs ++ map f ys
map_append f [] ys = refl
map_append f (x ∷ xs) ys = ap (λ zs. f x ∷ zs) (map_append f xs ys)

map_length : {X Y : Type 0} (f : X → Y) (xs : List X) → length (map f xs) ≡ length xs
map_length f [] = refl
map_length f (x ∷ xs) = ap suc (map_length f xs)

pub laid_numbered : (text : List ℕ) (n : ℕ) (around : Option ℕ) (k : ℕ) (ps : List PartForm) (ls : List Laid) → AreLaid text around k ps ls
    → AreLaid text (option_map (λ m. n + m) around) (n + k) ps (map (numbered n) ls)
laid_numbered text n around k _ _ none_laid = none_laid
laid_numbered text n around k _ _ (part_laid p ps ls e are) =
    part_laid p ps (map (numbered n) ls) e (laid_numbered text n around k ps ls are)
laid_numbered text n around k _ _ (media_laid p m inner ps within ls e is own are) =
    let here : n + suc k ≡ suc (n + k) = omega arith in
    let count = ap length (medias_numbered text n within) ∙ map_length (media_numbered n) (media_in text within) in
    let behind : n + (suc k + length (media_in text within)) ≡ suc (n + k) + length (media_in text (map (numbered n) within)) =
    omega (arith, count) in
    let around2 = option_map (λ m. n + m) around in
    subst (λ (xs : List Laid). AreLaid text around2 (n + k) (p ∷ ps) (laid around2 p ∷ xs)) (sym (map_append (numbered n) within ls))
    (media_laid p m inner ps (map (numbered n) within) (map (numbered n) ls) e is
    (subst (λ (j : ℕ). AreLaid text (Some (n + k)) j inner (map (numbered n) within)) here
    (laid_numbered text n (Some k) (suc k) inner within own))
    (subst (λ (j : ℕ). AreLaid text around2 j ps (map (numbered n) ls)) behind
    (laid_numbered text n around (suc k + length (media_in text within)) ps ls are)))

pub places_append : (text : List ℕ) (ps qs : List PartForm) → places_in text (ps ++ qs) ≡ places_in text ps ++ places_in text qs
unfolding places_in
places_append text [] qs = refl
places_append text (p ∷ ps) qs =
    ap (λ (ns : List ℕ). option_to_list (place_of text p) ++ ns) (places_append text ps qs)
    ∙ sym (append_assoc (option_to_list (place_of text p)) (places_in text ps) (places_in text qs))
