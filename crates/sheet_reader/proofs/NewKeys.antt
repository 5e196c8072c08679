-- The keyword of a media rule before a new prelude, with the spaces that are put between them.
use Rattle.std.proofs.Common.{◌≡◌, ℕ, suc, ◌+◌, ◌-◌, ◌<◌, ◌==◌, ◌&&◌, Bool, true, false, cond, List, [], ◌∷◌, ◌++◌, map}
use Rattle.std.proofs.Common.{length, take, drop, Option, Some, None, refl, sym, ap, subst, ◌∙◌, append_assoc, append-nil, length-append}
use Rattle.std.proofs.Common.{arith}
use Rattle.std.specs.Prelude.{codes}
use Rattle.std.specs.List.{list_all, find}
use Rattle.std.specs.Char.{to_ascii_lowercase}
use Rattle.std.specs.Str.{bytes_eq}
use Rattle.std.proofs.lemmas.Bool.Decides.{nat_tests}
use Rattle.std.proofs.lemmas.Bool.{eq-eqb}
use Rattle.std.proofs.Math.Seq.{drop-append_seam, take-append_seam}
use Rattle.css_tokens.specs.declared.token.Token.{Token}
use Rattle.css_tokens.specs.declared.token.TokenKind.{TokenKind}
use Rattle.css_tokens.specs.declared.token.TokenKind.TheVariants as tokens
use Rattle.css_tokens.specs.Codes.{is_white}
use Rattle.css_tokens.specs.Escapes.{escape_len}
use Rattle.css_tokens.specs.Forms.{Units, NameUnit}
use Rattle.css_tokens.specs.Pieces.{pieces, pieces_after}
use Rattle.css_tokens.specs.Rows.{piece, first_piece}
use Rattle.css_tokens.specs.Runs.{name_unit, starts_ident}
use Rattle.css_tokens.proofs.Cuts.{piece_first}
use Rattle.selectors.specs.Words.{between}
use Rattle.sheet_reader.specs.declared.parts.Level.TheVariants.{Inner}
use Rattle.sheet_reader.specs.Grammar.{is_at_keyword}
use Rattle.sheet_reader.specs.Preludes.{ends_keyword, takes_space, spaces_by}
use Rattle.sheet_reader.proofs.Gaps.{Gap, no_gap, gap_white, gap_comment, gap_mark, gap_append, gap_whites, white_codes, white_first}
use Rattle.sheet_reader.proofs.KeyNames.{units_front, Moves, stays, grows, units_move, SaysMedia, starts_media, KeyName, key_name}
use Rattle.sheet_reader.proofs.KeyNames.{key_piece}
use Rattle.sheet_reader.proofs.MediaPreludes.{and_no}
use Rattle.sheet_reader.proofs.ReadMoves.{AllTokens}

-- ---- the keyword, before the new prelude

-- the first code of such a text goes on no name
gap_code : (c : ℕ) (x y all : List ℕ) → all ≡ c ∷ x → Gap Inner all → name_unit (c ∷ y) ≡ 0
unfolding escape_len
gap_code c x y _ e no_gap = absurd (cc)
gap_code c x y _ e (gap_white d z w g) =
    let same : d ≡ c = cc in
    white_codes (λ (n : ℕ). name_unit (n ∷ y) ≡ 0) refl refl refl refl refl c (subst (λ (n : ℕ). is_white n ≡ true) same w)
gap_code c x y all e (gap_comment inner z _ is own g) =
    let same : 47 ∷ ((42 ∷ inner) ++ z) ≡ c ∷ x = sym is ∙ e in
    let first : 47 ≡ c = cc in
    subst (λ (n : ℕ). name_unit (n ∷ y) ≡ 0) first refl
gap_code c x y all e (gap_mark first inner z _ k is top over solid own g) = absurd (cc)

space_unit : (x : List ℕ) → name_unit (32 ∷ x) ≡ 0
unfolding escape_len
space_unit x = refl

-- the spaces that go before a text put right behind a keyword
abbrev pub spaces_for : List ℕ → List ℕ
spaces_for key = cond (length (pieces (key ++ 32 ∷ [])) == 1) (32 ∷ 32 ∷ []) (32 ∷ [])

-- the keyword before the new text, and what is passed over between
pub record NewKey (key lead spaces behind : List ℕ) : Type 0 where
  pub name : List ℕ
  pub gap : List ℕ
  pub is : key ++ (lead ++ (spaces ++ behind)) ≡ (64 ∷ name) ++ (gap ++ behind)
  pub open_gap : Gap Inner gap
  pub found : first_piece ((64 ∷ name) ++ (gap ++ behind)) ≡ Some (piece tokens.AtKeyword (length (64 ∷ name)))
  pub says : SaysMedia name
  -- it takes the first of two spaces, where none are needed behind what stands between
  pub size : (0 < length lead → spaces ≡ []) → length (64 ∷ name) ≡ length key + (length spaces - 1)

two_pieces : (key : List ℕ) (k : TokenKind) → 0 < length key → first_piece (key ++ 32 ∷ []) ≡ Some (piece k (length key))
    → (length (pieces (key ++ 32 ∷ [])) == 1) ≡ false
unfolding pieces_after
two_pieces key k some found =
    let first = piece_first (key ++ 32 ∷ []) 0 (piece k (length key)) found some (omega (arith, length-append key (32 ∷ []))) in
    let left : drop (length key) (key ++ 32 ∷ []) ≡ 32 ∷ [] = drop-append_seam key (32 ∷ []) in
    let size : length (pieces (key ++ 32 ∷ [])) ≡ 1 + length (pieces_after (0 + length key) 0 (32 ∷ [])) =
    omega (arith, ap (λ (ts : List Token). length ts) first, ap (λ (x : List ℕ). length (pieces_after (0 + length key) 0 x)) left) in
    by (length (pieces_after (0 + length key) 0 (32 ∷ []))) (some_piece (0 + length key)) (length (pieces (key ++ 32 ∷ []))) size
  where
    some_piece : (n : ℕ) → 0 < length (pieces_after n 0 (32 ∷ []))
    some_piece n =
        let e = piece_first (32 ∷ []) n (piece tokens.WhiteSpace 1) (white_first 32 [] refl) (omega arith) (omega arith) in
        omega (arith, ap (λ (ts : List Token). length ts) e)

    by : (m : ℕ) → 0 < m → (n : ℕ) → n ≡ 1 + m → (n == 1) ≡ false
    by m some n e = grind (arith, nat_tests)

one_piece : (key : List ℕ) (k : TokenKind) → 0 < length key → first_piece key ≡ Some (piece k (length key))
    → (length (pieces key) == 1) ≡ true
unfolding pieces_after
one_piece key k some found =
    let first = piece_first key 0 (piece k (length key)) found some (omega arith) in
    let left : drop (length key) key ≡ [] = ap (drop (length key)) (sym (append-nil key)) ∙ drop-append_seam key [] in
    let size : length (pieces key) ≡ 1 = ap (λ (ts : List Token). length ts) first
    ∙ ap (λ (x : List ℕ). suc (length (pieces_after (0 + length key) 0 x))) left in
    ap (λ (n : ℕ). n == 1) size

-- it is there
pub new_key : (key lead old spaces behind : List ℕ) (k : TokenKind) → is_at_keyword k ≡ true
    → first_piece (key ++ (lead ++ old)) ≡ Some (piece k (length key))
    → 0 < length old → Gap Inner lead → list_all is_white spaces ≡ true → (lead ≡ [] → spaces ≡ spaces_for key)
    → (KeyName key (lead ++ old) → SaysMedia (drop 1 key)) → NewKey key lead spaces behind
new_key key lead old spaces behind k at found some open_lead white fits says = by lead refl (key_name key (lead ++ old) k at found)
  where
    name_says : (n : KeyName key (lead ++ old)) → SaysMedia n.name
    name_says n = subst SaysMedia (ap (drop 1) n.is) (says n)

    -- where something stands between
    apart : (c : ℕ) (x : List ℕ) → lead ≡ c ∷ x → KeyName key (lead ++ old) → NewKey key lead spaces behind
    apart c x e n =
        let after = x ++ (spaces ++ behind) in
        let units = units_front n.name c (x ++ old) after (subst (λ (t : List ℕ). Units NameUnit n.name (t ++ old)) e n.units) in
        let starts = starts_media n.name (lead ++ old) (c ∷ after) (name_says n) n.starts in
        let piece_is = key_piece n.name (c ∷ after) starts units (gap_code c x after lead e open_lead) in
        let whole : lead ++ (spaces ++ behind) ≡ (lead ++ spaces) ++ behind = sym (append_assoc lead spaces behind) in
        record {
          name = n.name;
          gap = lead ++ spaces;
          is = ap (λ (t : List ℕ). t ++ (lead ++ (spaces ++ behind))) n.is ∙ ap (λ (t : List ℕ). (64 ∷ n.name) ++ t) whole;
          open_gap = gap_append Inner lead spaces open_lead (gap_whites Inner spaces white);
          found = ap (λ (t : List ℕ). first_piece ((64 ∷ n.name) ++ t)) (sym whole ∙ ap (λ (t : List ℕ). t ++ (spaces ++ behind)) e)
              ∙ piece_is;
          says = name_says n;
          size = λ loose. omega (arith, ap length n.is, ap length (loose (omega (arith, ap length e))));
        }

    -- where nothing does
    tight : lead ≡ [] → (d : ℕ) (x : List ℕ) → old ≡ d ∷ x → KeyName key (lead ++ old) → NewKey key lead spaces behind
    tight none d x e n = moves (units_move n.name d x (subst (Units NameUnit n.name) (ap (λ (t : List ℕ). t ++ old) none ∙ e) n.units))
      where
        start : (t : List ℕ) → starts_ident (n.name ++ t) ≡ true
        start t = starts_media n.name (lead ++ old) t (name_says n) n.starts

        moves : Moves n.name → NewKey key lead spaces behind
        moves (stays f) =
            let alone = key_piece n.name (32 ∷ []) (start (32 ∷ [])) (f []) (space_unit []) in
            let takes = ap (λ (t : List ℕ). length (pieces (t ++ 32 ∷ [])) == 1) n.is
            ∙ two_pieces (64 ∷ n.name) tokens.AtKeyword (omega arith) alone in
            let spaces_is : spaces ≡ 32 ∷ [] = fits none ∙ ap (λ (b : Bool). cond b (32 ∷ 32 ∷ []) (32 ∷ [])) takes in
            record {
              name = n.name;
              gap = 32 ∷ [];
              is = (λ i. n.is i ++ (none i ++ (spaces_is i ++ behind)));
              open_gap = gap_white 32 [] refl no_gap;
              found = key_piece n.name (32 ∷ behind) (start (32 ∷ behind)) (f behind) (space_unit behind);
              says = name_says n;
              size = λ loose. omega (arith, ap length n.is, ap length spaces_is);
            }
        moves (grows f same) =
            let long = n.name ++ 32 ∷ [] in
            let begin : (t : List ℕ) → starts_ident (long ++ t) ≡ true =
            λ t. ap starts_ident (append_assoc n.name (32 ∷ []) t) ∙ start (32 ∷ t) in
            let alone = key_piece long [] (begin []) (f []) refl in
            let whole : key ++ 32 ∷ [] ≡ 64 ∷ long = ap (λ (t : List ℕ). t ++ 32 ∷ []) n.is in
            let takes = ap (λ (t : List ℕ). length (pieces t) == 1) whole
            ∙ one_piece (64 ∷ long) tokens.AtKeyword (omega arith) (ap first_piece (sym (append-nil (64 ∷ long))) ∙ alone) in
            let spaces_is : spaces ≡ 32 ∷ 32 ∷ [] = fits none ∙ ap (λ (b : Bool). cond b (32 ∷ 32 ∷ []) (32 ∷ [])) takes in
            record {
              name = long;
              gap = 32 ∷ [];
              is = (λ i. n.is i ++ (none i ++ (spaces_is i ++ behind)))
                  ∙ ap (λ (t : List ℕ). 64 ∷ t) (sym (append_assoc n.name (32 ∷ []) (32 ∷ behind)));
              open_gap = gap_white 32 [] refl no_gap;
              found = key_piece long (32 ∷ behind) (begin (32 ∷ behind)) (f (32 ∷ behind)) (space_unit behind);
              says = ap (λ (t : List ℕ). says_by t) same ∙ name_says n;
              size = λ loose. omega (arith, ap length n.is, ap length spaces_is, length-append n.name (32 ∷ []));
            }
          where
            says_by : List ℕ → Bool
            says_by t = bytes_eq (map to_ascii_lowercase t) (codes "media")

    by : (t : List ℕ) → lead ≡ t → KeyName key (lead ++ old) → NewKey key lead spaces behind
    by (c ∷ x) e n = apart c x e n
    by [] e n = first old refl
      where
        first : (o : List ℕ) → old ≡ o → NewKey key lead spaces behind
        first [] g = absurd (omega (arith, some, ap length g))
        first (d ∷ x) g = tight e d x g n

-- the codes of the keyword behind its `@`
pub key_text : (front name rest : List ℕ)
    → between (front ++ ((64 ∷ name) ++ rest)) (length front + 1) (length front + length (64 ∷ name)) ≡ name
key_text front name rest =
    let size : length front + length (64 ∷ name) - (length front + 1) ≡ length name = omega arith in
    let head : length (front ++ 64 ∷ []) ≡ length front + 1 = length-append front (64 ∷ []) in
    let behind : drop (length front + 1) (front ++ ((64 ∷ name) ++ rest)) ≡ name ++ rest =
    (λ i. drop (sym head i) (sym (append_assoc front (64 ∷ []) (name ++ rest)) i)) ∙ drop-append_seam (front ++ 64 ∷ []) (name ++ rest) in
    (λ i. take (size i) (behind i)) ∙ take-append_seam name rest

-- ---- the spaces

pub spaces_white : (text : List ℕ) (o : Option Token) → list_all is_white (spaces_by text o) ≡ true
spaces_white text None = refl
spaces_white text (Some t) = by (takes_space (between text t.start t.end))
  where
    by : (b : Bool) → list_all is_white (cond b (32 ∷ 32 ∷ []) (32 ∷ [])) ≡ true
    by true = refl
    by false = refl

-- the keyword is the one that is found
pub find_key : (place lo : ℕ) (before : List Token) (keyword : Token) (more : List Token) → AllTokens 0 lo before → lo < place
    → keyword.kind ≡ tokens.AtKeyword → keyword.end ≡ place → find (ends_keyword place) (before ++ keyword ∷ more) ≡ Some keyword
find_key place lo [] keyword more all less at end =
    let here : ends_keyword place keyword ≡ true =
    ap (λ (k : TokenKind). is_at_keyword k && keyword.end == place) at ∙ eq-eqb keyword.end place end in rw here refl
find_key place lo (t ∷ before) keyword more all less at end =
    let apart : (t.end == place) ≡ false = far t.end place (omega (arith, all.0.2, less)) in
    let none : ends_keyword place t ≡ false =
    ap (λ (b : Bool). is_at_keyword t.kind && b) apart ∙ and_no (is_at_keyword t.kind) false refl in
    rw none (find_key place lo before keyword more all.1 less at end)
  where
    far : (a b : ℕ) → a < b → (a == b) ≡ false
    far a b e = grind (arith, nat_tests)
