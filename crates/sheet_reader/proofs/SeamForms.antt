-- A text ends at the `}` of each of its parts at top level: a place of a sheet before which a `}` stands is such an end.
use Rattle.std.proofs.Common.{◌≡◌, ℕ, zero, suc, ◌+◌, ◌-◌, ◌<◌, ◌≤◌, nat_le, Bool, true, false, cond, ◌&&◌, ◌==◌, List, [], ◌∷◌, ◌++◌}
use Rattle.std.proofs.Common.{length, take, drop, Option, Some, None, refl, sym, ap, subst, ◌∙◌, append_assoc, length-append, arith}
use Rattle.std.specs.Prelude.{slice_get, slice_index, option_to_list}
use Rattle.std.specs.List.{list_all}
use Rattle.std.proofs.lemmas.Bool.{eqb-true}
use Rattle.std.proofs.lemmas.List.{append-nil, take-append-drop, length-take-le}
use Rattle.std.proofs.lemmas.Option.{get_or_from_slice_get}
use Rattle.css_tokens.specs.declared.token.Token.{Token}
use Rattle.css_tokens.specs.declared.token.TokenKind.{TokenKind}
use Rattle.css_tokens.specs.declared.token.TokenKind.TheVariants as tokens
use Rattle.css_tokens.specs.Codes.{is_white}
use Rattle.css_tokens.specs.Rows.{piece, first_piece}
use Rattle.css_tokens.specs.Pieces.{pieces, pieces_after}
use Rattle.css_tokens.specs.Seams.{IsWholeBefore}
use Rattle.css_tokens.proofs.SeamPieces.{pieces_at, whole_before}
use Rattle.sheet_reader.specs.declared.parts.Level.TheVariants.{Top}
use Rattle.sheet_reader.specs.Parts.{EndingForm, text_end, semicolon, block, PartForm, passed, at_rule, qualified, is_passed, ending_pieces}
use Rattle.sheet_reader.specs.Parts.{part_pieces, parts}
use Rattle.sheet_reader.specs.Grammar.{IsEnding, at_text_end, at_semicolon, in_block, in_open_block, IsPart, passed_part, at_rule_part}
use Rattle.sheet_reader.specs.Grammar.{qualified_part}
use Rattle.sheet_reader.specs.Lone.{is_closed_ending}
use Rattle.sheet_reader.specs.Joins.{is_shut_part, ends_shut, is_shut_text}
use Rattle.sheet_reader.specs.Sheets.{is_closed_comment, passed_place, ending_place, place_of, places_in, sheet_of}
use Rattle.sheet_reader.proofs.Raised.{flat}
use Rattle.sheet_reader.proofs.GrammarForms.{parts_only, parts_spelled}
use Rattle.sheet_reader.proofs.JoinForms.{flat_append}
use Rattle.sheet_reader.proofs.MarkTexts.{semi_first}
use Rattle.sheet_reader.proofs.PartMoves.{AreFlat, flat_of, flat_parts}
use Rattle.sheet_reader.proofs.PassedTexts.{PassedForm, a_comment, white, an_opening, a_closing, piece_form}
use Rattle.sheet_reader.proofs.SealedCuts.{split_at, first_of, close_first, close_piece, one_more}
use Rattle.sheet_reader.proofs.ShutForms.{flat_front, ends_last}

-- ---- elements of lists

pub no_element : {X : Type 0} (k : ℕ) (x : X) → slice_get [] k ≡ Some x → ⊥
no_element zero x e = cc
no_element (suc k) x e = cc

pub got_front : {X : Type 0} (xs ys : List X) (k : ℕ) → k < length xs → slice_get (xs ++ ys) k ≡ slice_get xs k
got_front [] ys k less = absurd (omega (arith, less))
got_front (x ∷ xs) ys zero less = refl
got_front (x ∷ xs) ys (suc k) less = got_front xs ys k (omega (arith, less))

pub got_behind : {X : Type 0} (xs ys : List X) (k : ℕ) → length xs ≤ k → slice_get (xs ++ ys) k ≡ slice_get ys (k - length xs)
got_behind [] ys k fits = let same : k ≡ k - 0 = omega arith in ap (slice_get ys) same
got_behind (x ∷ xs) ys zero fits = absurd (omega (arith, fits))
got_behind (x ∷ xs) ys (suc k) fits =
    let same : suc k - suc (length xs) ≡ k - length xs = omega arith in
    got_behind xs ys k (omega (arith, fits)) ∙ ap (slice_get ys) (sym same)

all_passes : (p : ℕ → Bool) (xs : List ℕ) (k c : ℕ) → list_all p xs ≡ true → slice_get xs k ≡ Some c → p c ≡ true
all_passes p [] k c all e = absurd (no_element k c e)
all_passes p (x ∷ xs) zero c all e = first (p x) refl all
  where
    first : (b : Bool) → p x ≡ b → (b && list_all p xs) ≡ true → p c ≡ true
    first true is h = let same : x ≡ c = cc in ap p (sym same) ∙ is
    first false is h = absurd (cc)
all_passes p (x ∷ xs) (suc k) c all e = all_passes p xs k c (more (p x) all) e
  where
    more : (b : Bool) → (b && list_all p xs) ≡ true → list_all p xs ≡ true
    more true h = h
    more false h = absurd (cc)

-- ---- the codes of a piece

-- where a piece stands in the text
record TokenAt (text : List ℕ) (t : Token) : Type 0 where
  before : List ℕ
  own : List ℕ
  after : List ℕ
  is : text ≡ before ++ (own ++ after)
  found : first_piece (own ++ after) ≡ Some (piece t.kind (length own))
  end : t.end ≡ length before + length own
  some : 0 < length own

token_at : (text : List ℕ) (us ts : List Token) (t : Token) → pieces text ≡ us ++ t ∷ ts → TokenAt text t
token_at text us ts t spelled =
    let s = split_at us (t ∷ ts) 0 text spelled in
    let f = first_of s.after (0 + length s.front) t ts (sym s.left) in
    let n = f.p.len in
    let size : n ≡ length (take n s.after) = sym (length-take-le n s.after f.fits) in
    let kind : f.p.kind ≡ t.kind = ap (λ (u : Token). u.kind) f.head in
    let whole : Some f.p ≡ Some (piece t.kind (length (take n s.after))) = λ i. Some (piece (kind i) (size i)) in
    let end : 0 + length s.front + n ≡ t.end = ap (λ (u : Token). u.end) f.head in
    record {
      before = s.front;
      own = take n s.after;
      after = drop n s.after;
      is = s.is ∙ ap (λ (x : List ℕ). s.front ++ x) (sym (take-append-drop n s.after));
      found = ap first_piece (take-append-drop n s.after) ∙ f.found ∙ whole;
      end = omega (arith, end, size);
      some = omega (arith, size, f.some);
    }

-- its last code
last_code : (text : List ℕ) (t : Token) (a : TokenAt text t) (c : ℕ) → slice_get text (t.end - 1) ≡ Some c
    → slice_get a.own (length a.own - 1) ≡ Some c
last_code text t a c e =
    let some = a.some in
    let at : t.end - 1 ≡ length a.before + (length a.own - 1) = omega (arith, a.end, some) in
    let left : length a.before + (length a.own - 1) - length a.before ≡ length a.own - 1 = omega arith in
    sym (got_front a.own a.after (length a.own - 1) (omega (arith, some)))
    ∙ sym (ap (slice_get (a.own ++ a.after)) left)
    ∙ sym (got_behind a.before (a.own ++ a.after) (length a.before + (length a.own - 1)) (omega arith))
    ∙ (λ i. slice_get (sym a.is i) (sym at i)) ∙ e

-- a comment
abbrev is_comment : TokenKind → Bool
is_comment tokens.Comment = true
is_comment _ = false

last_of : (front xs : List ℕ) (n : ℕ) → front ≡ xs → length xs ≡ suc n → slice_get front (length front - 1) ≡ slice_get xs n
last_of front xs n is size =
    let at : length front - 1 ≡ n = omega (arith, ap (λ (x : List ℕ). length x) is, size) in λ i. slice_get (is i) (at i)

-- a piece that is passed over and is no comment does not end with a `}`
open_end : (k : TokenKind) (front rest : List ℕ) → PassedForm k front rest → is_comment k ≡ false
    → slice_get front (length front - 1) ≡ Some 125 → ⊥
open_end k front rest (a_comment f) solid e =
    let wrong : is_comment tokens.Comment ≡ false = sym (ap is_comment f.named) ∙ solid in cc
open_end k front rest (white f) solid e =
    let wrong : is_white 125 ≡ true = all_passes is_white front (length front - 1) 125 f.run.0 e in cc
open_end k front rest (an_opening f) solid e =
    let wrong : ◌≡◌ {A = Option ℕ} (Some 45) (Some 125) = sym (last_of front (60 ∷ 33 ∷ 45 ∷ 45 ∷ []) 3 f.is (omega arith)) ∙ e in
    let same : ◌≡◌ {A = ℕ} 45 125 = cc in
    omega (arith, same)
open_end k front rest (a_closing f) solid e =
    let wrong : ◌≡◌ {A = Option ℕ} (Some 62) (Some 125) = sym (last_of front (45 ∷ 45 ∷ 62 ∷ []) 2 f.is (omega arith)) ∙ e in
    let same : ◌≡◌ {A = ℕ} 62 125 = cc in
    omega (arith, same)

-- the code before a comment's end
comment_end : (text : List ℕ) (t : Token) (place : ℕ) → passed_place text t tokens.Comment ≡ Some place
    → slice_get text (place - 1) ≡ Some 125 → ⊥
comment_end text t place own code =
    by (nat_le (t.start + 4) t.end) (slice_index text (t.end - 2) == 42) (slice_index text (t.end - 1) == 47) refl own
  where
    by : (a b c : Bool) → (slice_index text (t.end - 1) == 47) ≡ c → cond (a && (b && c)) (Some t.end) None ≡ Some place → ⊥
    by true true true is e =
        let same : t.end ≡ place = cc in
        let slash = eqb-true (slice_index text (t.end - 1)) 47 is in
        let brace = get_or_from_slice_get text (t.end - 1) 125 0 (ap (λ (n : ℕ). slice_get text (n - 1)) same ∙ code) in
        omega (arith, slash, brace)
    by true true false is e = cc
    by true false c is e = cc
    by false b c is e = cc

passed_end : (text : List ℕ) (us ts : List Token) (t : Token) (place : ℕ) → pieces text ≡ us ++ t ∷ ts
    → is_passed Top t.kind ≡ true → passed_place text t t.kind ≡ Some place → slice_get text (place - 1) ≡ Some 125 → ⊥
passed_end text us ts t place spelled over own code = by t.kind refl own
  where
    other : is_comment t.kind ≡ false → t.end ≡ place → ⊥
    other solid same =
        let a = token_at text us ts t spelled in
        let g = piece_form a.own a.after t.kind a.found over in
        open_end t.kind a.own g.0 g.2 solid (last_code text t a 125 (ap (λ (n : ℕ). slice_get text (n - 1)) same ∙ code))

    by : (k : TokenKind) → t.kind ≡ k → passed_place text t k ≡ Some place → ⊥
    by tokens.Comment e h = comment_end text t place h code
    by _ e h = other (ap is_comment e) (cc)

-- ---- the part that ends there

-- a part that has its place there
record PlaceOf (text : List ℕ) (ps : List PartForm) (place : ℕ) : Type 0 where
  before : List PartForm
  own : PartForm
  rest : List PartForm
  is : ps ≡ before ++ own ∷ rest
  there : place_of text own ≡ Some place

place_there : (text : List ℕ) (ps : List PartForm) (i place : ℕ) → slice_get (places_in text ps) i ≡ Some place → PlaceOf text ps place
unfolding places_in
place_there text [] i place e = absurd (no_element i place e)
place_there text (p ∷ ps) i place e = by (place_of text p) refl i e (λ j h. place_there text ps j place h)
  where
    later : PlaceOf text ps place → PlaceOf text (p ∷ ps) place
    later m = record {
      before = p ∷ m.before;
      own = m.own;
      rest = m.rest;
      is = ap (λ (qs : List PartForm). p ∷ qs) m.is;
      there = m.there;
    }

    by : (o : Option ℕ) → place_of text p ≡ o → (i : ℕ) → slice_get (option_to_list o ++ places_in text ps) i ≡ Some place
        → ((j : ℕ) → slice_get (places_in text ps) j ≡ Some place → PlaceOf text ps place) → PlaceOf text (p ∷ ps) place
    by None is i e more = later (more i e)
    by (Some x) is zero e more =
        let same : x ≡ place = cc in
        record { before = []; own = p; rest = ps; is = refl; there = is ∙ ap (λ (n : ℕ). Some n) same }
    by (Some x) is (suc i) e more = later (more i e)

-- pieces that end with a `}` at a place
record ClosesAt (ts : List Token) (place : ℕ) : Type 0 where
  front : List Token
  close : Token
  is : ts ≡ front ++ close ∷ []
  kind : close.kind ≡ tokens.CloseCurly
  end : close.end ≡ place

closes_behind : (xs ts : List Token) (place : ℕ) → ClosesAt ts place → ClosesAt (xs ++ ts) place
closes_behind xs ts place l = record {
  front = xs ++ l.front;
  close = l.close;
  is = ap (λ (ys : List Token). xs ++ ys) l.is ∙ sym (append_assoc xs l.front (l.close ∷ []));
  kind = l.kind;
  end = l.end;
}

ending_closes : (text : List ℕ) (us : List Token) (ending : EndingForm) (rest : List Token) (place : ℕ) → IsEnding ending rest
    → pieces text ≡ us ++ (ending_pieces ending ++ rest) → ending_place ending ≡ Some place → slice_get text (place - 1) ≡ Some 125
    → ClosesAt (ending_pieces ending) place × (is_closed_ending ending ≡ true)
ending_closes text us _ rest place (at_text_end over) spelled own code = absurd (cc)
ending_closes text us _ rest place (at_semicolon t e) spelled own code =
    let s = split_at us (t ∷ rest) 0 text spelled in
    let m = semi_first s.after (0 + length s.front) t rest e (sym s.left) in
    let same : t.end ≡ place = cc in
    let at : place - 1 ≡ length s.front = omega (arith, same, m.end) in
    let left : length s.front - length s.front ≡ 0 = omega arith in
    let first : slice_get text (place - 1) ≡ slice_get s.after 0 =
    (λ i. slice_get (s.is i) (at i)) ∙ got_behind s.front s.after (length s.front) (omega arith) ∙ ap (slice_get s.after) left in
    let wrong : ◌≡◌ {A = Option ℕ} (Some 59) (Some 125) = sym (ap (λ (x : List ℕ). slice_get x 0) m.is) ∙ sym first ∙ code in
    let semi : ◌≡◌ {A = ℕ} 59 125 = cc in
    absurd (omega (arith, semi))
ending_closes text us _ rest place (in_open_block first within e own over) spelled there code = absurd (cc)
ending_closes text us _ rest place (in_block first close within e own closed) spelled there code =
    let same : close.end ≡ place = cc in
    (record { front = first ∷ within; close = close; is = refl; kind = closed; end = same }, refl)

part_closes : (text : List ℕ) (us : List Token) (p : PartForm) (rest : List Token) (place : ℕ) → IsPart Top p rest
    → pieces text ≡ us ++ (part_pieces p ++ rest) → place_of text p ≡ Some place → slice_get text (place - 1) ≡ Some 125
    → ClosesAt (part_pieces p) place × (is_shut_part p ≡ true)
unfolding place_of
part_closes text us _ rest place (passed_part t e) spelled own code = absurd (passed_end text us rest t place spelled e own code)
part_closes text us _ rest place (at_rule_part keyword prelude ending e r) spelled own code =
    let front = keyword ∷ prelude in
    let c = ending_closes text (us ++ front) ending rest place r.ends
    (spelled ∙ ap (λ (ts : List Token). us ++ ts) (append_assoc front (ending_pieces ending) rest)
    ∙ sym (append_assoc us front (ending_pieces ending ++ rest))) own code in
    (closes_behind front (ending_pieces ending) place c.0, c.1)
part_closes text us _ rest place (qualified_part prelude ending begins r) spelled own code =
    let c = ending_closes text (us ++ prelude) ending rest place r.ends
    (spelled ∙ ap (λ (ts : List Token). us ++ ts) (append_assoc prelude (ending_pieces ending) rest)
    ∙ sym (append_assoc us prelude (ending_pieces ending ++ rest))) own code in
    (closes_behind prelude (ending_pieces ending) place c.0, c.1)

-- ---- the text up to there

-- a text up to a place, where a part at top level ends with a `}`
pub record SeamAt (text : List ℕ) (place : ℕ) : Type 0 where
  pub front : List ℕ
  pub behind : List ℕ
  pub is : text ≡ front ++ behind
  pub size : length front ≡ place
  pub shut : is_shut_text front ≡ true

flat_there : (before : List PartForm) (p : PartForm) (rest : List PartForm) → AreFlat Top (before ++ p ∷ rest) → IsPart Top p (flat rest)
flat_there [] p rest all = all.0
flat_there (x ∷ before) p rest all = flat_there before p rest all.1

shut_there : (text : List ℕ) (before : List PartForm) (p : PartForm) (rest : List PartForm) (place : ℕ)
    → AreFlat Top (before ++ p ∷ rest) → is_shut_part p ≡ true → (l : ClosesAt (part_pieces p) place)
    → pieces text ≡ flat before ++ (part_pieces p ++ flat rest) → SeamAt text place
unfolding pieces_after
shut_there text before p rest place all shut l spelled =
    let us = flat before ++ l.front in
    let c = l.close in
    let cut : (ys : List Token) → flat before ++ (part_pieces p ++ ys) ≡ us ++ c ∷ ys = λ ys.
    ap (λ (xs : List Token). flat before ++ (xs ++ ys)) l.is
    ∙ ap (λ (xs : List Token). flat before ++ xs) (append_assoc l.front (c ∷ []) ys)
    ∙ sym (append_assoc (flat before) l.front (c ∷ ys)) in
    let s = split_at us (c ∷ flat rest) 0 text (spelled ∙ cut (flat rest)) in
    let m = close_first s.after (0 + length s.front) c (flat rest) l.kind (sym s.left) in
    let front = s.front ++ 125 ∷ [] in
    let ps = before ++ p ∷ [] in
    let seam : IsWholeBefore (125 ∷ []) 0 s.front us = whole_before 125 refl m.behind [] 0 s.front us
    (subst (λ (x : List ℕ). IsWholeBefore x 0 s.front us) m.is s.whole) in
    let token : ◌≡◌ {A = Token} (record { kind = tokens.CloseCurly; start = 0 + length s.front; end = 0 + length s.front + 1 }) c =
    λ i. record { kind = sym l.kind i; start = sym m.start i; end = sym m.end i } in
    let own : us ++ (record { kind = tokens.CloseCurly; start = 0 + length s.front; end = 0 + length s.front + 1 }) ∷ [] ≡ flat ps =
    ap (λ (u : Token). us ++ u ∷ []) token ∙ sym (flat_append before (p ∷ []) ∙ cut []) in
    let whole : IsWholeBefore [] 0 front (flat ps) = subst (IsWholeBefore [] 0 front) own
    (one_more [] (125 ∷ []) (piece tokens.CloseCurly 1) 0 s.front us seam refl (close_piece [])) in
    let spelled_front : pieces front ≡ flat ps =
    sym (ap pieces (append-nil front)) ∙ pieces_at [] front (flat ps) whole ∙ append-nil (flat ps) in
    let new_parts : ps ≡ parts Top (pieces front) =
    parts_only Top ps (flat ps) (flat_parts Top ps (flat_front Top before p rest shut all)) ∙ ap (parts Top) (sym spelled_front) in
    record {
      front = front;
      behind = m.behind;
      is = s.is ∙ ap (λ (x : List ℕ). s.front ++ x) m.is ∙ sym (append_assoc s.front (125 ∷ []) m.behind);
      size = omega (arith, length-append s.front (125 ∷ []), m.end, l.end);
      shut = sym (ap ends_shut new_parts) ∙ ends_last before p ∙ shut;
    }

pub seam_at : (text : List ℕ) (i place : ℕ) → slice_get (sheet_of text).places i ≡ Some place → 0 < place
    → slice_get text (place - 1) ≡ Some 125 → SeamAt text place
seam_at text zero place e some code = let same : 0 ≡ place = cc in absurd (omega (arith, same, some))
seam_at text (suc i) place e some code =
    let ps = parts Top (pieces text) in
    let both = flat_of Top ps (pieces text) (parts_spelled Top (pieces text)) in
    let f = place_there text ps i place e in
    let all : AreFlat Top (f.before ++ f.own ∷ f.rest) = subst (AreFlat Top) f.is both.1 in
    let spelled : pieces text ≡ flat f.before ++ (part_pieces f.own ++ flat f.rest) =
    both.0 ∙ ap flat f.is ∙ flat_append f.before (f.own ∷ f.rest) in
    let c = part_closes text (flat f.before) f.own (flat f.rest) place (flat_there f.before f.own f.rest all) spelled f.there code in
    shut_there text f.before f.own f.rest place all c.1 c.0 spelled
