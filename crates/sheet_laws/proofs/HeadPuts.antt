-- A sealed list of selectors that begins with no white space and no comment, and the pieces that it is as a prelude.
use Rattle.std.proofs.Common.{◌≡◌, ◌⊎◌, inl, inr, ℕ, ◌+◌, ◌≤◌, true, false, not, List, [], ◌∷◌, ◌++◌, map, length, Some}
use Rattle.std.proofs.Common.{refl, sym, ap, subst, ◌∙◌, append_assoc, length-append, arith}
use Rattle.std.specs.Prelude.{option_map, slice_get}
use Rattle.std.proofs.lemmas.List.{append-nil}
use Rattle.css_tokens.specs.declared.token.Range.{Range}
use Rattle.css_tokens.specs.declared.token.Token.{Token}
use Rattle.css_tokens.specs.declared.token.TokenKind.{TokenKind}
use Rattle.css_tokens.specs.declared.token.TokenKind.TheVariants as tokens
use Rattle.css_tokens.specs.Pieces.{pieces}
use Rattle.css_tokens.specs.Seams.{IsWholeBefore}
use Rattle.selectors.specs.declared.words.Word.{Word}
use Rattle.selectors.specs.Words.{word_reading, words_after, words_of}
use Rattle.selectors.specs.Forms.{SelectorForm}
use Rattle.selectors.specs.Reading.{range_of, selector_list_of, selectors_of}
use Rattle.selectors.specs.Moves.{placed_range, placed_selector}
use Rattle.sheet_reader.specs.Brackets.{stops_at, until, until_in, nesting, nesting_of}
use Rattle.sheet_reader.specs.Grammar.{AreNested}
use Rattle.sheet_reader.specs.Lone.{is_blank_kind}
use Rattle.sheet_reader.specs.Parts.{is_passed}
use Rattle.sheet_reader.specs.Sealing.{is_sealed, kind_passes}
use Rattle.sheet_reader.proofs.BracketLemmas.{stop_here}
use Rattle.sheet_reader.proofs.ExchangeForms.{reaches}
use Rattle.sheet_reader.proofs.FreeWords.{selectors_pass, closed_opens}
use Rattle.sheet_reader.proofs.Gaps.{AllPassed}
use Rattle.sheet_reader.proofs.MovedLaw.{sealed_nesting}
use Rattle.sheet_reader.proofs.NestingForms.{closed_nested}
use Rattle.sheet_reader.proofs.OpenForms.{passes}
use Rattle.sheet_reader.proofs.PartMoves.{map_length}
use Rattle.sheet_reader.proofs.PreludeWords.{trail_words, first_word, BeginsPrelude, begins_prelude, passed_until, passed_nested}
use Rattle.sheet_reader.proofs.PreludeWords.{nested_append, until_front}
use Rattle.sheet_reader.proofs.Raised.{raised, raised_word}
use Rattle.sheet_reader.proofs.ReadMoves.{AllTokens, words_same, words_in, nesting_raised}
use Rattle.sheet_reader.proofs.SpaceUnits.{Facts}
use Rattle.sheet_reader.proofs.SealedCuts.{AllWhite}
use Rattle.sheet_reader.proofs.WordMoves.{SamePart, AllIn, list_same, range_same}
use Rattle.sheet_laws.specs.Heads.{starts_solid, ends_in_return}
use Rattle.sheet_laws.proofs.HeadCuts.{PutCut, put_cut, put_words}
use Rattle.sheet_reader.proofs.Names.{Bracket, block_level, at_block}

-- the search for a block passes its pieces but for white space at its end
us_pass : (put : List ℕ) (ss : List SelectorForm) → selectors_of put ≡ Some ss → is_sealed put ≡ true → (p : PutCut put) → (ys : List Token)
    → until at_block (p.us ++ ys) ≡ length p.us + until at_block ys
us_pass put ss found sealed p ys =
    passes at_block p.us ys [] (by p.either)
    ∙ ap (λ (bs : List Bracket). length p.us + until_in at_block bs ys) (closed_opens [] p.us p.closed)
  where
    all : (rest : List Token) → until at_block (pieces put ++ rest) ≡ length (pieces put) + until at_block rest
    all rest = selectors_pass put ss found (sealed_nesting put sealed) rest

    by : (pieces put ≡ p.us) ⊎ ((w : Token) × (pieces put ≡ p.us ++ w ∷ []) × (w.kind ≡ tokens.WhiteSpace))
        → length p.us ≤ until at_block (p.us ++ ys)
    by (inl e) =
        let h = all ys in
        subst (λ (ts : List Token). length ts ≤ until at_block (ts ++ ys)) e (omega (arith, h))
    by (inr w) =
        let h = all [] in
        let cut : until at_block (pieces put ++ []) ≡ until at_block (p.us ++ (w.0 ∷ [])) =
        ap (λ (ts : List Token). until at_block ts) (append-nil (pieces put) ∙ w.1) in
        reaches at_block p.us (w.0 ∷ []) ys []
        (omega (arith, h, cut, ap (λ (ts : List Token). length ts) w.1, length-append p.us (w.0 ∷ [])))

-- its first piece
pub record SolidPut (put : List ℕ) : Type 0 where
  pub first : Token
  pub others : List Token
  pub front : List ℕ
  pub trail : List ℕ
  pub parted : put ≡ front ++ trail
  pub blank : AllWhite trail
  pub whole : (v : List ℕ) → Facts v → IsWholeBefore (trail ++ v) 0 front (first ∷ others)
  pub closed : nesting (first ∷ others) ≡ nesting_of []
  pub inside : AllTokens 0 (length put) (first ∷ others)
  pub solid : is_passed block_level first.kind ≡ false
  pub begins : BeginsPrelude first.kind
  pub words : words_of put ≡ words_after put false (first ∷ others)
  pub pass : (ys : List Token) → until at_block ((first ∷ others) ++ ys) ≡ length (first ∷ others) + until at_block ys

not_blank : (k : TokenKind) → not (is_blank_kind k) ≡ true → is_passed block_level k ≡ false
not_blank tokens.Comment e = absurd (cc)
not_blank tokens.WhiteSpace e = absurd (cc)
not_blank _ e = refl

pub solid_put : (put : List ℕ) (ss : List SelectorForm) → is_sealed put ≡ true → starts_solid put ≡ true → ends_in_return put ≡ false
    → selectors_of put ≡ Some ss → SolidPut put
solid_put put ss sealed starts no_return found = by p.us refl
  where
    p : PutCut put
    p = put_cut put sealed no_return

    white : (k : TokenKind) → k ≡ tokens.WhiteSpace → not (is_blank_kind k) ≡ true → ⊥
    white tokens.WhiteSpace e h = cc
    white _ e h = cc

    first_kind : (ts : List Token) → pieces put ≡ ts → kind_passes (λ kind. not (is_blank_kind kind)) (slice_get ts 0) ≡ true
    first_kind ts e = subst (λ (xs : List Token). kind_passes (λ kind. not (is_blank_kind kind)) (slice_get xs 0) ≡ true) e starts

    none : p.us ≡ [] → (pieces put ≡ p.us) ⊎ ((w : Token) × (pieces put ≡ p.us ++ w ∷ []) × (w.kind ≡ tokens.WhiteSpace)) → ⊥
    none e (inl is) = let h : false ≡ true = first_kind [] (is ∙ e) in cc
    none e (inr w) =
        white (w.0).kind w.2 (first_kind (w.0 ∷ []) (w.1 ∙ ap (λ (ts : List Token). ts ++ w.0 ∷ []) e))

    kind_of : (t : Token) (ts : List Token) → p.us ≡ t ∷ ts
        → (pieces put ≡ p.us) ⊎ ((w : Token) × (pieces put ≡ p.us ++ w ∷ []) × (w.kind ≡ tokens.WhiteSpace))
        → not (is_blank_kind t.kind) ≡ true
    kind_of t ts e (inl is) = first_kind (t ∷ ts) (is ∙ e)
    kind_of t ts e (inr w) = first_kind (t ∷ (ts ++ w.0 ∷ [])) (w.1 ∙ ap (λ (xs : List Token). xs ++ w.0 ∷ []) e)

    by : (us : List Token) → p.us ≡ us → SolidPut put
    by [] e = absurd (none e p.either)
    by (t ∷ ts) e =
        let solid = not_blank t.kind (kind_of t ts e p.either) in
        let words : words_of put ≡ words_after put false (t ∷ ts) = put_words put p ∙ ap (words_after put false) e in
        record {
          first = t;
          others = ts;
          front = p.front;
          trail = p.trail;
          parted = p.parted;
          blank = p.blank;
          whole = λ v f. subst (IsWholeBefore (p.trail ++ v) 0 p.front) e (p.whole v f);
          closed = ap nesting (sym e) ∙ p.closed;
          inside = subst (AllTokens 0 (length put)) e p.inside;
          solid = solid;
          begins = begins_prelude put t (words_after put false ts) ss solid
              (ap (λ (ws : List Word). selector_list_of (word_reading put ws)) (sym (first_word put false t ts solid) ∙ sym words) ∙ found);
          words = words;
          pass = λ ys. subst (λ (us : List Token). until at_block (us ++ ys) ≡ length us + until at_block ys) e
              (us_pass put ss found sealed p ys);
        }

-- ---- as a prelude

module _ (put : List ℕ) (p : SolidPut put) (n : ℕ) (tail : List Token) (passed : AllPassed block_level tail) where
  -- its pieces behind n codes, and white space and comments behind them
  abbrev pub new_head : List Token
  new_head = map (raised (λ x. n + x)) (p.first ∷ p.others) ++ tail

  pub head_nested : AreNested new_head
  head_nested =
      let own = map (raised (λ x. n + x)) (p.first ∷ p.others) in
      nested_append own tail (closed_nested own (nesting_raised (λ x. n + x) [] (p.first ∷ p.others) ∙ p.closed))
      (passed_nested block_level tail passed)

  -- the search for its `{`
  pub head_ends : (brace : Token) (rest : List Token) → brace.kind ≡ tokens.OpenCurly
      → until at_block (new_head ++ brace ∷ rest) ≡ length new_head
  head_ends brace rest curly =
      let ts = p.first ∷ p.others in
      let f = λ (x : ℕ). n + x in
      let whole = ap (until at_block) (append_assoc (map (raised f) ts) tail (brace ∷ rest)) in
      let front = until_front at_block f [] ts (tail ++ brace ∷ rest) in
      let own = p.pass (tail ++ brace ∷ rest) in
      let on = passed_until block_level tail passed [] (brace ∷ rest) in
      let here = stop_here at_block [] brace rest (ap (stops_at at_block) curly) in
      omega (arith, whole, front, own, on, here, length-append (map (raised f) ts) tail, map_length (raised f) ts)

  -- what is read from them
  pub record HeadRead (other : List ℕ) (head : Range) (ss : List SelectorForm) : Type 0 where
    pub ranged : range_of (words_after other false new_head) ≡ Some (placed_range (λ x. n + x) head)
    pub listed : selector_list_of (word_reading other (words_after other false new_head))
        ≡ Some (map (placed_selector (λ x. n + x)) ss)

  pub head_read : (other : List ℕ) (head : Range) (ss : List SelectorForm) → SamePart put other (λ x. n + x) 0 (length put)
      → range_of (words_of put) ≡ Some head → selectors_of put ≡ Some ss → HeadRead other head ss
  head_read other head ss same spans found =
      let f = λ (x : ℕ). n + x in
      let ts = p.first ∷ p.others in
      let ws = words_of put in
      let words : words_after other false new_head ≡ map (raised_word f) ws =
      trail_words other false (map (raised f) ts) tail passed
      ∙ words_same put other f 0 (length put) same false ts p.inside
      ∙ ap (map (raised_word f)) (sym p.words) in
      let inside = subst (λ (xs : List Word). AllIn 0 (length put) xs) (sym p.words)
      (words_in put other f 0 (length put) same false ts p.inside) in
      record {
        ranged = ap range_of words ∙ range_same put other f 0 (length put) same ws ∙ ap (option_map (placed_range f)) spans;
        listed = ap (λ (xs : List Word). selector_list_of (word_reading other xs)) words
            ∙ list_same put other f 0 (length put) same ws inside ∙ ap (option_map (map (placed_selector f))) found;
      }
