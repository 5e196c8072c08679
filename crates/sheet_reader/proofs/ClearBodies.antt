-- Nothing but its own declarations stands inside the body of a rule, in any reading.
use Rattle.std.proofs.Common.{◌≡◌, ◌⊎◌, inl, inr, ℕ, suc, ◌+◌, ◌<◌, ◌≤◌, Bool, true, false, cond, nat_le, List, [], ◌∷◌, ◌++◌, map}
use Rattle.std.proofs.Common.{take, drop, All}
use Rattle.std.proofs.Common.{length, Option, Some, None, refl, ap, sym, ◌∙◌, subst, append_assoc, length-append, arith}
use Rattle.std.specs.Prelude.{slice_get, slice_index, option_map, option_to_list}
use Rattle.std.proofs.lemmas.List.{append-nil}
use Rattle.std.proofs.lemmas.List.Elements.{All-nil, All-cons}
use Rattle.std.proofs.lemmas.Bool.Decides.{nat_tests}
use Rattle.std.proofs.Math.Seq.{take-append_seam}
use Rattle.node_tree.specs.Numbers.{number_limit}
use Rattle.css_tokens.specs.declared.token.Range.{Range}
use Rattle.css_tokens.specs.declared.token.Token.{Token}
use Rattle.css_tokens.specs.Pieces.{pieces}
use Rattle.selectors.specs.declared.words.Word.{Word}
use Rattle.selectors.specs.Words.{between, words_after, word_reading}
use Rattle.selectors.specs.Forms.{SelectorForm}
use Rattle.selectors.specs.Reading.{range_of, selector_list_of}
use Rattle.selectors.specs.Moves.{Cut, placed_range, placed_selector, CanPlace, CanPlaceRange}
use Rattle.sheet_reader.specs.declared.sheet.Property.{Property}
use Rattle.sheet_reader.specs.declared.sheet.MediaRule.{MediaRule}
use Rattle.sheet_reader.specs.declared.parts.Level.TheVariants.{Top, Inner}
use Rattle.sheet_reader.specs.Forms.{range, RuleForm}
use Rattle.sheet_reader.specs.Parts.{block, PartForm, at_rule, part_pieces, parts}
use Rattle.sheet_reader.specs.Layout.{MediaForm, media_form, media_rule, media_in, Laid, laid, laid_out}
use Rattle.sheet_reader.specs.Declarations.{declarations, style_of}
use Rattle.sheet_reader.specs.Sheets.{body_end, rule_of, closing_place, place_of, rules_in, places_in, sheet_of}
use Rattle.sheet_reader.proofs.Raised.{raised_word, flat}
use Rattle.sheet_reader.specs.Moves.{placed_property, placed_media, placed_rule, body_cut, CanPlaceMedia, CanPlaceProperty}
use Rattle.sheet_reader.specs.Moves.{CanPlaceRule, IsPropertyWithin, CanMoveBody}
use Rattle.sheet_reader.proofs.GrammarForms.{parts_spelled}
use Rattle.sheet_reader.proofs.LayoutForms.{laid_spelled}
use Rattle.sheet_reader.proofs.FrameForms.{media_append, media_cons}
use Rattle.sheet_reader.proofs.UsableForms.{rules_append, no_rule}
use Rattle.sheet_reader.proofs.SealedCuts.{split_at}
use Rattle.sheet_reader.proofs.PartMoves.{flat_of, map_append}
use Rattle.sheet_reader.proofs.WordMoves.{SamePart, list_same, range_same}
use Rattle.sheet_reader.proofs.ReadMoves.{AllTokens, tokens_split, LaidIn, form_in, words_same, words_in, declarations_same, rules_same}
use Rattle.sheet_reader.proofs.ReadMoves.{media_same, media_rule_same, places_same}
use Rattle.sheet_reader.proofs.TextMoves.{widen, whole_tokens}
use Rattle.sheet_reader.proofs.LaidMoves.{laid_in, stays, goes, token_kept, tokens_kept, parts_kept, laid_kept, any_moved}
use Rattle.sheet_reader.proofs.RulePaths.{RulePart, rule_part, Path, here, past_part, past_media, in_media, find, path_flat, path_ends}
use Rattle.sheet_reader.proofs.RulePaths.{path_over}
use Rattle.sheet_reader.proofs.MovedParts.{places_cons}
use Rattle.sheet_reader.proofs.MovedLaw.{head_of, path_body, apart, tail_of, text_len}

pub same_self : (text : List ℕ) (f : ℕ → ℕ) (lo hi : ℕ) → ((x : ℕ) → lo ≤ x → x ≤ hi → f x ≡ x) → SamePart text text f lo hi
same_self text f lo hi keep = record {
  cut = λ a b la ah lb bh. λ i. between text (sym (keep a la ah) i) (sym (keep b lb bh) i);
  code = λ a la ah. ap (slice_index text) (sym (keep a la (omega (arith, ah))));
  shift = λ x k lx h. keep (x + k) (omega (arith, lx)) h ∙ ap (λ (y : ℕ). y + k) (sym (keep x lx (omega (arith, h))));
}

-- ---- what a function keeps stays in a reading
module _ (text : List ℕ) (g : ℕ → ℕ) (lo hi : ℕ) (keep : (x : ℕ) → lo ≤ x → x ≤ hi → g x ≡ x) (ended : g (length text) ≡ length text) where
  pub rules_kept : (ls : List Laid) → LaidIn lo hi ls → rules_in text ls ≡ map (placed_rule g) (rules_in text ls)
  rules_kept ls all =
      sym (ap (rules_in text) (laid_kept g lo hi keep ls all))
      ∙ rules_same text text g lo hi (same_self text g lo hi keep) ls all (any_moved text text g ended ls)

  pub media_kept : (ls : List Laid) → LaidIn lo hi ls → media_in text ls ≡ map (placed_media g) (media_in text ls)
  media_kept ls all =
      sym (ap (media_in text) (laid_kept g lo hi keep ls all)) ∙ media_same text text g lo hi (same_self text g lo hi keep) ls all

  pub places_kept : (ps : List PartForm) → AllTokens lo hi (flat ps) → places_in text ps ≡ map g (places_in text ps)
  places_kept ps all =
      sym (ap (places_in text) (parts_kept g lo hi keep ps all)) ∙ places_same text text g lo hi (same_self text g lo hi keep) ps all

  prelude_kept : (around : Option ℕ) (m : MediaForm) → AllTokens lo hi (m.keyword ∷ m.prelude)
      → media_rule text around m ≡ placed_media g (media_rule text around m)
  prelude_kept around m all =
      let a = token_kept g lo hi keep m.keyword (all.0, tt) in
      let b = tokens_kept g lo hi keep m.prelude all.1 in
      (λ i. media_rule text around (record { keyword = sym a i; prelude = sym b i; inside = m.inside }))
      ∙ media_rule_same text text g lo hi (same_self text g lo hi keep) around m all.1

  closing_kept : (close : Option Token) → AllTokens lo hi (option_to_list close)
      → option_to_list (closing_place close) ≡ map g (option_to_list (closing_place close))
  closing_kept None all = refl
  closing_kept (Some t) all =
      let i = all.0 in ap (λ (x : ℕ). x ∷ []) (sym (keep t.end (omega (arith, i.0, i.1)) i.2))

-- what a function keeps of all that is read but the rule itself
record Kept (text : List ℕ) (g : ℕ → ℕ) (r : RuleForm) (ps : List PartForm) (ls : List Laid) (rs : List RuleForm) : Type 0 where
  rules : List RuleForm
  is : rules_in text ls ≡ rs ++ r ∷ rules
  before : rs ≡ map (placed_rule g) rs
  behind : rules ≡ map (placed_rule g) rules
  media : media_in text ls ≡ map (placed_media g) (media_in text ls)
  places : places_in text ps ≡ map g (places_in text ps)

both_kept : {X : Type 0} (f : X → X) (xs ys : List X) → xs ≡ map f xs → ys ≡ map f ys → xs ++ ys ≡ map f (xs ++ ys)
both_kept f xs ys a b = (λ i. a i ++ b i) ∙ sym (map_append f xs ys)

module _ (text : List ℕ) (g : ℕ → ℕ) (r : RuleForm) (q : RulePart) (s lo hi : ℕ) (keep : (x : ℕ) → 0 ≤ x → x ≤ s → g x ≡ x)
    (keep_behind : (x : ℕ) → lo ≤ x → x ≤ hi → g x ≡ x) (ended : g (length text) ≡ length text)
    (close_in : AllTokens lo hi (option_to_list q.close)) where
  past : (around : Option ℕ) (p : PartForm) (ps : List PartForm) (within ls : List Laid) (rs : List RuleForm)
      → Kept text g r ps ls rs → AllTokens 0 s (part_pieces p) → LaidIn 0 s within
      → Kept text g r (p ∷ ps) (laid around p ∷ (within ++ ls)) (rules_in text (laid around p ∷ within) ++ rs)
  past around p ps within ls rs n all within_all =
      let front = laid around p ∷ within in
      let one : AllTokens 0 s (flat (p ∷ [])) = subst (AllTokens 0 s) (sym (append-nil (part_pieces p))) all in
      record {
        rules = n.rules;
        is = rules_append text front ls ∙ ap (λ (ys : List RuleForm). rules_in text front ++ ys) n.is
            ∙ sym (append_assoc (rules_in text front) rs (r ∷ n.rules));
        before = both_kept (placed_rule g) (rules_in text front) rs (rules_kept text g 0 s keep ended front (all, within_all)) n.before;
        behind = n.behind;
        media = media_append text front ls
            ∙ both_kept (placed_media g) (media_in text front) (media_in text ls)
            (media_kept text g 0 s keep ended front (all, within_all)) n.media
            ∙ ap (map (placed_media g)) (sym (media_append text front ls));
        places = places_cons text p ps
            ∙ both_kept g (places_in text (p ∷ [])) (places_in text ps) (places_kept text g 0 s keep ended (p ∷ []) one) n.places
            ∙ ap (map g) (sym (places_cons text p ps));
      }

  path_kept : (around : Option ℕ) (k : ℕ) (ps : List PartForm) (ls : List Laid) (rs : List RuleForm) (xs more : List Token)
      → Path text r q around k ps ls rs xs more → AllTokens 0 s xs → AllTokens lo hi more → Kept text g r ps ls rs
  unfolding rules_in places_in place_of media_form
  path_kept around k _ _ _ _ _ (here ps ls are e) lead tail =
      let all = laid_in lo hi text around k ps ls are tail in
      record {
        rules = rules_in text ls;
        is = ap (λ (o : Option RuleForm). option_to_list o ++ rules_in text ls) e;
        before = refl;
        behind = rules_kept text g lo hi keep_behind ended ls all;
        media = media_cons text around (rule_part q) ls None refl ∙ media_kept text g lo hi keep_behind ended ls all
            ∙ ap (map (placed_media g)) (sym (media_cons text around (rule_part q) ls None refl));
        places = both_kept g (option_to_list (closing_place q.close)) (places_in text ps)
            (closing_kept text g lo hi keep_behind ended q.close close_in) (places_kept text g lo hi keep_behind ended ps tail);
      }
  path_kept around k _ _ _ _ _ (past_part p ps ls rs xs more none path) lead tail =
      let both = tokens_split 0 s (part_pieces p) xs lead in
      past around p ps [] ls rs (path_kept around k ps ls rs xs more path both.1 tail) both.0 tt
  path_kept around k _ _ _ _ _ (past_media p m inner ps within ls rs xs more is own inner_are path) lead tail =
      let both = tokens_split 0 s (part_pieces p) xs lead in
      let inner_tokens : AllTokens 0 s (flat inner) =
      subst (AllTokens 0 s) (flat_of Inner inner m.inside own).0 (form_in text 0 s p m is both.0).1 in
      past around p ps within ls rs (path_kept around (suc k + length (media_in text within)) ps ls rs xs more path both.1 tail) both.0
      (laid_in 0 s text (Some k) (suc k) inner within inner_are inner_tokens)
  path_kept around k _ _ _ _ _ (in_media m first last inner ps within ls rs xs more is own path are) lead tail =
      let p = at_rule m.keyword m.prelude (block first m.inside last) in
      let both = tokens_split 0 s m.prelude (first ∷ xs) lead.1 in
      let halves = tokens_split lo hi more (option_to_list last ++ flat ps) tail in
      let back = tokens_split lo hi (option_to_list last) (flat ps) halves.1 in
      let n = path_kept (Some k) (suc k) inner within rs xs more path both.1.1 halves.0 in
      let all = laid_in lo hi text around (suc k + length (media_in text within)) ps ls are back.1 in
      let cons = media_cons text around p (within ++ ls) (Some m) is
      ∙ ap (λ (ys : List MediaRule). media_rule text around m ∷ ys) (media_append text within ls) in
      record {
        rules = n.rules ++ rules_in text ls;
        is = no_rule text around p m (within ++ ls) (record { first = first; close = last; is = refl })
            ∙ rules_append text within ls ∙ ap (λ (ys : List RuleForm). ys ++ rules_in text ls) n.is
            ∙ append_assoc rs (r ∷ n.rules) (rules_in text ls);
        before = n.before;
        behind = both_kept (placed_rule g) n.rules (rules_in text ls) n.behind (rules_kept text g lo hi keep_behind ended ls all);
        media = cons
            ∙ (λ i. prelude_kept text g 0 s keep ended around m (lead.0, both.0) i
            ∷ both_kept (placed_media g) (media_in text within) (media_in text ls) n.media
            (media_kept text g lo hi keep_behind ended ls all) i)
            ∙ ap (map (placed_media g)) (sym cons);
        places = both_kept g (option_to_list (closing_place last)) (places_in text ps)
            (closing_kept text g lo hi keep_behind ended last back.0) (places_kept text g lo hi keep_behind ended ps back.1);
      }

-- ---- what is kept can be placed
module _ (g : ℕ → ℕ) (c : Cut) (can : (x : ℕ) → x ≡ g x → CanPlace c x) where
  can_range : (r : Range) → r ≡ placed_range g r → CanPlaceRange c r
  can_range r e = record { front = can r.start (ap (λ (x : Range). x.start) e); back = can r.end (ap (λ (x : Range). x.end) e) }

  can_selectors : (ss : List SelectorForm) → ss ≡ map (placed_selector g) ss → All (λ s. CanPlaceRange c s.range) ss
  can_selectors [] e = All-nil (λ (s : SelectorForm). CanPlaceRange c s.range)
  can_selectors (s ∷ ss) e =
      let one : s ≡ placed_selector g s = cc in
      All-cons (λ (s : SelectorForm). CanPlaceRange c s.range) s ss (can_range s.range (ap (λ (x : SelectorForm). x.range) one))
      (can_selectors ss (cc))

  can_properties : (ps : List Property) → ps ≡ map (placed_property g) ps → All (CanPlaceProperty c) ps
  can_properties [] e = All-nil (CanPlaceProperty c)
  can_properties (p ∷ ps) e =
      let one : p ≡ placed_property g p = cc in
      All-cons (CanPlaceProperty c) p ps (record {
        value = can_range p.value (ap (λ (x : Property). x.value) one);
        whole = can_range p.whole (ap (λ (x : Property). x.whole) one);
      }) (can_properties ps (cc))

  can_rules : (rs : List RuleForm) → rs ≡ map (placed_rule g) rs → All (CanPlaceRule c) rs
  can_rules [] e = All-nil (CanPlaceRule c)
  can_rules (r ∷ rs) e =
      let one : r ≡ placed_rule g r = cc in
      All-cons (CanPlaceRule c) r rs (record {
        head = record {
          prelude = can_range r.prelude (ap (λ (x : RuleForm). x.prelude) one);
          selectors = can_selectors r.selectors (ap (λ (x : RuleForm). x.selectors) one);
        };
        body = can_range r.body (ap (λ (x : RuleForm). x.body) one);
        properties = can_properties r.properties (ap (λ (x : RuleForm). x.properties) one);
      }) (can_rules rs (cc))

  can_media : (ms : List MediaRule) → ms ≡ map (placed_media g) ms → All (CanPlaceMedia c) ms
  can_media [] e = All-nil (CanPlaceMedia c)
  can_media (m ∷ ms) e =
      let one : m ≡ placed_media g m = cc in
      All-cons (CanPlaceMedia c) m ms (can_range m.prelude (ap (λ (x : MediaRule). x.prelude) one)) (can_media ms (cc))

  can_places : (xs : List ℕ) → xs ≡ map g xs → All (CanPlace c) xs
  can_places [] e = All-nil (CanPlace c)
  can_places (x ∷ xs) e =
      let one : x ≡ g x = cc in
      All-cons (CanPlace c) x xs (can x one) (can_places xs (cc))

-- ---- the declarations of a text
-- a place, or the last one where it is behind that
unfoldable pub up_to : ℕ → ℕ → ℕ
up_to n x = cond (nat_le x n) x n

pub up_to_keeps : (n x : ℕ) → 0 ≤ x → x ≤ n → up_to n x ≡ x
unfolding up_to
up_to_keeps n x a b = grind (arith, nat_tests)

pub up_to_fixed : (n x : ℕ) → x ≡ up_to n x → x ≤ n
unfolding up_to
up_to_fixed n x e = subst (λ (y : ℕ). y ≤ n) (sym e) (most n x)
  where
    most : (n x : ℕ) → cond (nat_le x n) x n ≤ n
    most n x = grind (arith, nat_tests)

pub properties_within : (n : ℕ) (ps : List Property) → ps ≡ map (placed_property (up_to n)) ps → All (IsPropertyWithin n) ps
properties_within n [] e = All-nil (IsPropertyWithin n)
properties_within n (p ∷ ps) e =
    let one : p ≡ placed_property (up_to n) p = cc in
    All-cons (IsPropertyWithin n) p ps (record {
      value = record {
        front = up_to_fixed n p.value.start (ap (λ (x : Property). x.value.start) one);
        back = up_to_fixed n p.value.end (ap (λ (x : Property). x.value.end) one);
      };
      whole = record {
        front = up_to_fixed n p.whole.start (ap (λ (x : Property). x.whole.start) one);
        back = up_to_fixed n p.whole.end (ap (λ (x : Property). x.whole.end) one);
      };
    }) (properties_within n ps (cc))

-- the ranges of a text's declarations end at or before its end
pub style_within : (put : List ℕ) → All (IsPropertyWithin (length put)) (style_of put)
style_within put =
    let n = length put in
    let s = split_at (pieces put) [] 0 put (sym (append-nil (pieces put))) in
    let all : AllTokens 0 n (pieces put) = widen 0 (0 + length s.front) 0 n (pieces put) (omega arith)
    (omega (arith, ap length s.is, length-append s.front s.after)) (whole_tokens s.after 0 s.front (pieces put) s.whole) in
    let keep = up_to_keeps n in
    properties_within n (style_of put)
    (sym (ap (declarations put) (tokens_kept (up_to n) 0 n keep (pieces put) all))
    ∙ declarations_same put put (up_to n) 0 n (same_self put (up_to n) 0 n keep) (pieces put) all)

-- ---- the body of a rule
-- a place that is not inside a body, and not behind the text
unfoldable outside_body : ℕ → ℕ → ℕ → ℕ → ℕ
outside_body s e hi x = cond (nat_le x s) x (cond (nat_le e x) (cond (nat_le x hi) x hi) s)

front_kept : (s e hi x : ℕ) → 0 ≤ x → x ≤ s → outside_body s e hi x ≡ x
unfolding outside_body
front_kept s e hi x a b = grind (arith, nat_tests)

back_kept : (s e hi x : ℕ) → e ≤ x → x ≤ hi → outside_body s e hi x ≡ x
unfolding outside_body
back_kept s e hi x a b = by (nat_le x s) (yes e x a) (yes x hi b)
  where
    yes : (a b : ℕ) → a ≤ b → nat_le a b ≡ true
    yes a b e = grind (arith, nat_tests)

    by : (w : Bool) → nat_le e x ≡ true → nat_le x hi ≡ true → cond w x (cond (nat_le e x) (cond (nat_le x hi) x hi) s) ≡ x
    by true a b = refl
    by false a b = ap (λ (u : Bool). cond u (cond (nat_le x hi) x hi) s) a ∙ ap (λ (u : Bool). cond u x hi) b

fixed_outside : (s e hi x : ℕ) → x ≡ outside_body s e hi x → (x ≤ s) ⊎ ((e ≤ x) × (x ≤ hi))
unfolding outside_body
fixed_outside s e hi x is = by (nat_le x s) (nat_le e x) (nat_le x hi) refl refl refl is
  where
    le : (a b : ℕ) → nat_le a b ≡ true → a ≤ b
    le a b e = grind (arith, nat_tests)

    gt : (a b : ℕ) → nat_le a b ≡ false → b < a
    gt a b e = grind (arith, nat_tests)

    by : (u v w : Bool) → nat_le x s ≡ u → nat_le e x ≡ v → nat_le x hi ≡ w → x ≡ cond u x (cond v (cond w x hi) s)
        → (x ≤ s) ⊎ ((e ≤ x) × (x ≤ hi))
    by true v w a b d is = inl (le x s a)
    by false true true a b d is = inr (le e x b, le x hi d)
    by false true false a b d is = let far = gt x hi d in absurd (omega (arith, is, far))
    by false false w a b d is = let far = gt x s a in absurd (omega (arith, is, far))

drop_behind : {X : Type 0} (xs : List X) (r : X) (ys : List X) → drop (suc (length xs)) (xs ++ r ∷ ys) ≡ ys
drop_behind [] r ys = refl
drop_behind (x ∷ xs) r ys = drop_behind xs r ys

-- what a function keeps of the head of a rule whose prelude has these pieces
head_kept : (text : List ℕ) (around : Option ℕ) (q : RulePart) (r : RuleForm) (g : ℕ → ℕ) (s : ℕ) → ((x : ℕ) → 0 ≤ x → x ≤ s → g x ≡ x)
    → rule_of text around (rule_part q) ≡ Some r → AllTokens 0 s q.prelude
    → (r.prelude ≡ placed_range g r.prelude) × (r.selectors ≡ map (placed_selector g) r.selectors)
unfolding rule_of
head_kept text around q r g s keep e all =
    let same = same_self text g 0 s keep in
    let ws = words_after text false q.prelude in
    let h = head_of text around ws (range q.brace.end (body_end text q.close)) q.body r e in
    let w : ws ≡ map (raised_word g) ws =
    sym (ap (words_after text false) (tokens_kept g 0 s keep q.prelude all)) ∙ words_same text text g 0 s same false q.prelude all in
    let range_fixed : Some r.prelude ≡ Some (placed_range g r.prelude) =
    sym h.prelude ∙ ap range_of w ∙ range_same text text g 0 s same ws ∙ ap (option_map (placed_range g)) h.prelude in
    let list_fixed : Some r.selectors ≡ Some (map (placed_selector g) r.selectors) =
    sym h.selectors ∙ ap (λ (x : List Word). selector_list_of (word_reading text x)) w
    ∙ list_same text text g 0 s same ws (words_in text text g 0 s same false q.prelude all)
    ∙ ap (option_map (map (placed_selector g))) h.selectors in
    (cc, cc)

path_head : (text : List ℕ) (r : RuleForm) (q : RulePart) (g : ℕ → ℕ) (s : ℕ) (around : Option ℕ) (k : ℕ) (ps : List PartForm)
    (ls : List Laid) (rs : List RuleForm) (xs more : List Token) → ((x : ℕ) → 0 ≤ x → x ≤ s → g x ≡ x)
    → Path text r q around k ps ls rs xs more → AllTokens 0 s xs
    → (r.prelude ≡ placed_range g r.prelude) × (r.selectors ≡ map (placed_selector g) r.selectors)
path_head text r q g s around k _ _ _ _ _ keep (here ps ls are e) lead = head_kept text around q r g s keep e lead
path_head text r q g s around k _ _ _ _ _ keep (past_part p ps ls rs xs more none path) lead =
    path_head text r q g s around k ps ls rs xs more keep path (tokens_split 0 s (part_pieces p) xs lead).1
path_head text r q g s around k _ _ _ _ _ keep (past_media p m inner ps within ls rs xs more is own inner_are path) lead =
    path_head text r q g s around (suc k + length (media_in text within)) ps ls rs xs more keep path
    (tokens_split 0 s (part_pieces p) xs lead).1
path_head text r q g s around k _ _ _ _ _ keep (in_media m first last inner ps within ls rs xs more is own path are) lead =
    path_head text r q g s (Some k) (suc k) inner within rs xs more keep path (tokens_split 0 s m.prelude (first ∷ xs) lead.1).1.1

-- the body of a rule may be replaced in every reading
pub body_clear : (text : List ℕ) (k : ℕ) (r : RuleForm) (ps : List Property) (n : ℕ) → slice_get (sheet_of text).rules k ≡ Some r
    → All (IsPropertyWithin n) ps → length text + n < number_limit → CanMoveBody (sheet_of text) k ps n r
body_clear text k r ps n e within small =
    let top = parts Top (pieces text) in
    let ls = laid_out text None 0 (pieces text) in
    let f = find text r None 0 top ls (laid_spelled text None 0 (pieces text)) k e in
    let q = f.q in
    let both = flat_of Top top (pieces text) (parts_spelled Top (pieces text)) in
    let is = both.0 ∙ path_flat text r q None 0 top ls f.rs f.xs f.more f.path in
    let ends = path_ends text r q None 0 top ls f.rs f.xs f.more f.path Top both.1 in
    let over = path_over text r q None 0 top ls f.rs f.xs f.more f.path Top both.1 in
    let a = apart text f.xs q.brace q.body (option_to_list q.close ++ f.more) is ends.kind in
    let t = tail_of a.front a.body [] a.behind q f.more ends.shut over a.left in
    let s = length a.front + 1 in
    let stop = s + length a.body in
    let hi = length text in
    let size : hi ≡ stop + length a.behind = ap length a.is ∙ text_len a.front a.body a.behind in
    let own = path_body text r q None 0 top ls f.rs f.xs f.more f.path in
    let starts : r.body.start ≡ s = ap (λ (x : Range). x.start) own ∙ ap (λ (x : Token). x.end) a.brace_is in
    let stops : r.body.end ≡ stop = ap (λ (x : Range). x.end) own ∙ ap (λ (x : List ℕ). body_end x q.close) a.is ∙ t.old_end in
    let c = body_cut r n in
    let g = outside_body s stop hi in
    let keep = front_kept s stop hi in
    let keep_behind = back_kept s stop hi in
    let ended : g hi ≡ hi = keep_behind hi (omega (arith, size)) (omega arith) in
    let lead : AllTokens 0 s f.xs = widen 0 (0 + length a.front) 0 s f.xs (omega arith) (omega arith)
    (whole_tokens (123 ∷ (a.body ++ a.behind)) 0 a.front f.xs a.whole) in
    let split = split_at (option_to_list q.close ++ f.more) [] stop a.behind
    (sym a.left ∙ sym (append-nil (option_to_list q.close ++ f.more))) in
    let tail : AllTokens stop hi (option_to_list q.close ++ f.more) =
    widen stop (stop + length split.front) stop hi (option_to_list q.close ++ f.more) (omega arith)
    (omega (arith, size, ap length split.is, length-append split.front split.after))
    (whole_tokens split.after stop split.front (option_to_list q.close ++ f.more) split.whole) in
    let halves = tokens_split stop hi (option_to_list q.close) f.more tail in
    let kept = path_kept text g r q s stop hi keep keep_behind ended halves.0 None 0 top ls f.rs f.xs f.more f.path lead halves.1 in
    let head = path_head text r q g s None 0 top ls f.rs f.xs f.more keep f.path lead in
    let can : (x : ℕ) → x ≡ g x → CanPlace c x = λ x fixed. elim (fixed_outside s stop hi x fixed) [
      | inl most ↦ record {
        outside = λ past. absurd (omega (arith, past, most, starts));
        fits = let same = stays c x (omega (arith, most, starts)) in omega (arith, same, most, size, small);
      }
      | inr two ↦ record {
        outside = λ _. omega (arith, two.0, stops);
        fits = elim (less c.start x) [
          | inl past ↦ let same = goes c x past in omega (arith, same, two.1, two.0, starts, stops, small, size)
          | inr before ↦ let same = stays c x before in omega (arith, same, two.1, small)
        ];
      }
    ] in
    let taken : take k (rules_in text ls) ≡ f.rs =
    ap (λ (j : ℕ). take j (rules_in text ls)) (sym f.number) ∙ ap (take (length f.rs)) kept.is ∙ take-append_seam f.rs (r ∷ kept.rules) in
    let left : drop (suc k) (rules_in text ls) ≡ kept.rules =
    ap (λ (j : ℕ). drop (suc j) (rules_in text ls)) (sym f.number) ∙ ap (drop (suc (length f.rs))) kept.is
    ∙ drop_behind f.rs r kept.rules in
    record {
      order = omega (arith, starts, stops);
      fits = omega (arith, starts, small, size);
      head = record { prelude = can_range g c can r.prelude head.0; selectors = can_selectors g c can r.selectors head.1 };
      before = subst (All (CanPlaceRule c)) (sym taken) (can_rules g c can f.rs kept.before);
      behind = subst (All (CanPlaceRule c)) (sym left) (can_rules g c can kept.rules kept.behind);
      places = All-cons (CanPlace c) 0 (places_in text top) (can 0 (sym (keep 0 (omega arith) (omega arith))))
          (can_places g c can (places_in text top) kept.places);
      media = can_media g c can (media_in text ls) kept.media;
      properties = within;
    }
  where
    less : (a b : ℕ) → (a < b) ⊎ (b ≤ a)
    less a b = grind arith
