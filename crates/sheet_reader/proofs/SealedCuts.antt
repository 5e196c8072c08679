-- A sealed text is cut into the same whole pieces by itself, before a stop, and before the text's end.
use Rattle.std.proofs.Common.{◌≡◌, ◌⊎◌, inl, inr, ℕ, ◌+◌, ◌-◌, ◌<◌, ◌≤◌, ◌==◌, Bool, true, false, cond, ◌&&◌, List, [], ◌∷◌}
use Rattle.std.proofs.Common.{◌++◌}
use Rattle.std.proofs.Common.{length, take, drop, Some, None, refl, ap, sym, ◌∙◌, subst, append_assoc, length-append, arith, nat_eq}
use Rattle.std.specs.Prelude.{slice_get, slice_index}
use Rattle.std.specs.List.{list_all}
use Rattle.std.proofs.lemmas.List.{take-append-drop, length-take-le, length-drop, append-nil}
use Rattle.std.proofs.lemmas.Bool.Decides.{nat_tests}
use Rattle.std.proofs.Math.Seq.{take-append_seam}
use Rattle.css_tokens.specs.declared.token.Token.{Token}
use Rattle.css_tokens.specs.declared.token.TokenKind.{TokenKind}
use Rattle.css_tokens.specs.declared.token.TokenKind.TheVariants.{WhiteSpace, CloseCurly, OpenCurly}
use Rattle.css_tokens.specs.declared.token.TokenKind.TheVariants as tokens
use Rattle.css_tokens.specs.Marks.{HasMarks}
use Rattle.css_tokens.specs.Codes.{begins, is_white}
use Rattle.css_tokens.specs.Escapes.{escape_len}
use Rattle.css_tokens.specs.Runs.{number_len}
use Rattle.css_tokens.specs.Rows.{piece, first_piece, comment, white_space, mark_kind, string, bad_string, hash, numeric, cdc}
use Rattle.css_tokens.specs.Rows.{url, bad_url}
use Rattle.css_tokens.specs.Rows.{opens_url, ident, cdo, at_keyword, mark}
use Rattle.css_tokens.proofs.Unescaping.{same_code}
use Rattle.css_tokens.specs.Pieces.{pieces, pieces_after}
use Rattle.css_tokens.specs.Seams.{IsWholeBefore, no_more, piece_and}
use Rattle.css_tokens.specs.Forms.{a_percentage, a_dimension, a_number, WhiteSpaceForm}
use Rattle.css_tokens.specs.Table.{PieceRow, comment_row, white_space_row, string_row, bad_string_row, hash_row, numeric_row, cdc_row}
use Rattle.css_tokens.specs.Table.{url_row, bad_url_row, ident_row, cdo_row, at_keyword_row, mark_row, FormOf}
use Rattle.css_tokens.proofs.Cuts.{piece_first, none_at_end}
use Rattle.css_tokens.proofs.Ends.{first_whole}
use Rattle.css_tokens.proofs.RowForms.{white_row_law}
use Rattle.css_tokens.proofs.TableForms.{first_fits, first_is_first}
use Rattle.css_tokens.proofs.SeamPieces.{pieces_at}
use Rattle.css_tokens.proofs.SeamUnits.{stop_facts}
use Rattle.sheet_reader.specs.Sealing.{is_white_kind, is_close_kind, is_closed_nesting, kind_passes, last_is, all_but_last, ends_sealed}
use Rattle.sheet_reader.specs.Sealing.{is_sealed}
use Rattle.sheet_reader.specs.Brackets.{nesting}
use Rattle.sheet_reader.proofs.Behind.{spaced, IsBehind, at_end, at_stop, Piece}
use Rattle.sheet_reader.proofs.SpaceUnits.{ends_return, both, Facts, facts_behind, Apart, apart_behind, apart_behind_front}
use Rattle.sheet_reader.proofs.SpaceNames.{piece_kept}

-- ---- the first piece of a text with pieces
pub record FirstOf (text : List ℕ) (place : ℕ) (t : Token) (ts : List Token) : Type 0 where
  pub p : Piece
  pub found : first_piece text ≡ Some p
  pub some : 0 < p.len
  pub fits : p.len ≤ length text
  pub head : ◌≡◌ {A = Token} (record { kind = p.kind; start = place; end = place + p.len }) t
  pub more : pieces_after (place + p.len) 0 (drop p.len text) ≡ ts

no_token : (text : List ℕ) (place : ℕ) (t : Token) (ts : List Token) → text ≡ [] → pieces_after place 0 text ≡ t ∷ ts → ⊥
unfolding pieces_after
no_token [] place t ts e same = cc
no_token (c ∷ text) place t ts e same = cc

pub first_of : (text : List ℕ) (place : ℕ) (t : Token) (ts : List Token) → pieces_after place 0 text ≡ t ∷ ts → FirstOf text place t ts
first_of text place t ts e =
    elim (first_piece text) as (λ o. first_piece text ≡ o → FirstOf text place t ts) [
      | None ↦ λ none. absurd (no_token text place t ts (none_at_end text none) e)
      | Some p ↦ λ found.
          let fits = first_fits text 0 p (omega arith) found in
          let both = sym (piece_first text place p found fits.0 fits.1) ∙ e in
          record { p = p; found = found; some = fits.0; fits = fits.1; head = cc; more = cc }
    ] refl

pub no_pieces : (text : List ℕ) (place : ℕ) → pieces_after place 0 text ≡ [] → text ≡ []
no_pieces text place e =
    elim (first_piece text) as (λ o. first_piece text ≡ o → text ≡ []) [
      | None ↦ λ none. none_at_end text none
      | Some p ↦ λ found.
          let fits = first_fits text 0 p (omega arith) found in
          absurd (clash _ _ (sym (piece_first text place p found fits.0 fits.1) ∙ e))
    ] refl
  where
    clash : (t : Token) (ts : List Token) → ◌≡◌ {A = List Token} (t ∷ ts) [] → ⊥
    clash t ts e = cc

-- pieces in front, and the text apart behind them
pub record Split (text : List ℕ) (place : ℕ) (ts more : List Token) : Type 0 where
  pub front : List ℕ
  pub after : List ℕ
  pub is : text ≡ front ++ after
  pub whole : IsWholeBefore after place front ts
  pub left : more ≡ pieces_after (place + length front) 0 after

pub split_at : (ts more : List Token) (place : ℕ) (text : List ℕ) → pieces_after place 0 text ≡ ts ++ more → Split text place ts more
split_at [] more place text e = record {
  front = [];
  after = text;
  is = refl;
  whole = no_more;
  left = sym e ∙ ap (λ (n : ℕ). pieces_after n 0 text) (omega arith);
}
split_at (t ∷ ts) more place text e =
    let f = first_of text place t (ts ++ more) e in
    let n = f.p.len in
    let s = split_at ts more (place + n) (drop n text) f.more in
    let size : n ≡ length (take n text) = sym (length-take-le n text f.fits) in
    let is : text ≡ (take n text ++ s.front) ++ s.after =
    sym (take-append-drop n text) ∙ ap (λ (x : List ℕ). take n text ++ x) s.is ∙ sym (append_assoc (take n text) s.front s.after) in
    record {
      front = take n text ++ s.front;
      after = s.after;
      is = is;
      whole = subst (λ (u : Token). IsWholeBefore s.after place (take n text ++ s.front) (u ∷ ts)) f.head
          (piece_and f.p (take n text) s.front refl size (ap first_piece (sym is) ∙ f.found) s.whole);
      left = s.left ∙ ap (λ (k : ℕ). pieces_after k 0 s.after) (omega (arith, size, length-append (take n text) s.front));
    }

-- ---- the end of a sealed text
data Snoc : List Token → Type 0 where
  snoc_none : Snoc []
  snoc_last : (front : List Token) (t : Token) → Snoc (front ++ t ∷ [])

snoc_of : (ts : List Token) → Snoc ts
snoc_of [] = snoc_none
snoc_of (t ∷ ts) = more (snoc_of ts)
  where
    more : {ts : List Token} → Snoc ts → Snoc (t ∷ ts)
    more snoc_none = snoc_last [] t
    more (snoc_last front u) = snoc_last (t ∷ front) u

get_last : (front : List Token) (t : Token) → slice_get (front ++ t ∷ []) (length front) ≡ Some t
get_last [] t = refl
get_last (u ∷ front) t = get_last front t

record LastIs (p : TokenKind → Bool) (ts : List Token) : Type 0 where
  front : List Token
  last : Token
  is : ts ≡ front ++ last ∷ []
  passes : p last.kind ≡ true
  but_last : all_but_last ts ≡ front

last_split : (p : TokenKind → Bool) (ts : List Token) → last_is p ts ≡ true → LastIs p ts
last_split p ts e = by (snoc_of ts) e
  where
    by : {ts : List Token} → Snoc ts → last_is p ts ≡ true → LastIs p ts
    by snoc_none e = cc
    by (snoc_last front t) e =
        let size : length (front ++ t ∷ []) - 1 ≡ length front = omega (arith, length-append front (t ∷ [])) in
        let last : slice_get (front ++ t ∷ []) (length (front ++ t ∷ []) - 1) ≡ Some t =
        ap (slice_get (front ++ t ∷ [])) size ∙ get_last front t in
        record {
          front = front;
          last = t;
          is = refl;
          passes = sym (ap (kind_passes p) last) ∙ e;
          but_last = ap (λ (n : ℕ). take n (front ++ t ∷ [])) size ∙ take-append_seam front (t ∷ []);
        }

-- the pieces of a sealed text with the space and `}` behind it
record SealedEnd (ts : List Token) : Type 0 where
  us : List Token
  white : Token
  close : Token
  is : ts ≡ us ++ white ∷ close ∷ []
  is_white : is_white_kind white.kind ≡ true
  is_close : is_close_kind close.kind ≡ true
  nested : is_closed_nesting (nesting (us ++ white ∷ [])) ≡ true

sealed_end : (ts : List Token) → ends_sealed ts ≡ true → SealedEnd ts
sealed_end ts e =
    let one = both _ _ e in
    let two = both _ _ one.1 in
    let c = last_split is_close_kind ts one.0 in
    let w = last_split is_white_kind (all_but_last ts) two.0 in
    let front : c.front ≡ w.front ++ w.last ∷ [] = sym c.but_last ∙ w.is in
    record {
      us = w.front;
      white = w.last;
      close = c.last;
      is = c.is ∙ ap (λ (xs : List Token). xs ++ c.last ∷ []) front ∙ append_assoc w.front (w.last ∷ []) (c.last ∷ []);
      is_white = w.passes;
      is_close = c.passes;
      nested = sym (ap (λ (xs : List Token). is_closed_nesting (nesting xs)) w.is) ∙ two.1;
    }

pub close_is : (k : TokenKind) → is_close_kind k ≡ true → k ≡ CloseCurly
close_is CloseCurly e = refl
close_is _ e = absurd (cc)

pub white_is : (k : TokenKind) → is_white_kind k ≡ true → k ≡ WhiteSpace
white_is WhiteSpace e = refl
white_is _ e = absurd (cc)

-- a `}` is one code
pub one_code : (text : List ℕ) (place : ℕ) (t : Token) → is_close_kind t.kind ≡ true → pieces_after place 0 text ≡ t ∷ [] → length text ≡ 1
one_code text place t is_close e =
    let f = first_of text place t [] e in
    let kind : f.p.kind ≡ CloseCurly = ap (λ (u : Token). u.kind) f.head ∙ close_is t.kind is_close in
    let one = by f.p.kind kind f.p.len (first_whole text f.p f.found).marks in
    let none = no_pieces (drop f.p.len text) (place + f.p.len) f.more in
    omega (arith, one, ap length none, length-drop f.p.len text, f.fits)
  where
    by : (k : TokenKind) → k ≡ CloseCurly → (n : ℕ) → HasMarks k text 0 n → n ≡ 1
    by CloseCurly e n h = omega (arith, h.one)
    by _ e n h = absurd (cc)

split_text : (t f g : List ℕ) → t ++ spaced ≡ f ++ g → 2 ≤ length g → (x : List ℕ) × (t ≡ f ++ x) × (g ≡ x ++ spaced)
split_text t [] g e long = (t, refl, sym e)
split_text [] (a ∷ f) g e long =
    let size : 2 ≡ length (a ∷ (f ++ g)) = ap length e in
    absurd (omega (arith, size, long, length-append f g))
split_text (b ∷ t) (a ∷ f) g e long =
    let more = split_text t f g (cc) long in
    let same : b ≡ a = cc in
    (more.0, (λ i. same i ∷ more.1 i), more.2)

-- ---- what stands before the white space at the end stays
pub whole_kept : (v : List ℕ) → Facts v → (g : List ℕ) (place : ℕ) (f : List ℕ) (us : List Token) → Apart (f ++ g) v
    → IsWholeBefore (g ++ spaced) place f us → IsWholeBefore (g ++ v) place f us
whole_kept v b g place f us m no_more = no_more
whole_kept v b g place text us m (piece_and {ts = more} p front rest is len found whole) =
    let fits = first_fits (text ++ (g ++ spaced)) 0 p (omega arith) found in
    let here : first_piece ((text ++ g) ++ spaced) ≡ Some p = ap first_piece (append_assoc text g spaced) ∙ found in
    let there = piece_kept v b (text ++ g) p m fits.0
    (omega (arith, len, ap length is, length-append front rest, length-append text g)) here in
    piece_and p front rest is len (sym (ap first_piece (append_assoc text g v)) ∙ there)
    (whole_kept v b g (place + p.len) rest more
    (apart_behind_front v front (rest ++ g) (ap (λ (x : List ℕ). ends_return x && begins (λ d. d == 10) v)
    (sym (append_assoc front rest g) ∙ ap (λ (x : List ℕ). x ++ g) (sym is)) ∙ m)) whole)

keep_whole : (v : List ℕ) → IsBehind v → (g : List ℕ) (place : ℕ) (f : List ℕ) (us : List Token)
    → IsWholeBefore (g ++ spaced) place f us → IsWholeBefore (g ++ v) place f us
keep_whole v b g place f us whole = whole_kept v (facts_behind v b) g place f us (apart_behind v b (f ++ g)) whole

not_white : (k kind : TokenKind) → kind ≡ k → is_white_kind k ≡ false → is_white_kind kind ≡ true → ⊥
not_white k kind e a b = clash (is_white_kind kind) b (ap is_white_kind e ∙ a)
  where
    clash : (b : Bool) → b ≡ true → b ≡ false → ⊥
    clash true e g = cc
    clash false e g = cc

kinds : (a b d e f g h i j : Bool) → TokenKind
kinds a b d e f g h i j = cond a tokens.Colon (cond b tokens.Semicolon (cond d tokens.Comma (cond e tokens.OpenSquare
    (cond f tokens.CloseSquare (cond g tokens.OpenRound (cond h tokens.CloseRound (cond i tokens.OpenCurly
    (cond j tokens.CloseCurly tokens.Delim))))))))

kinds_solid : (a b d e f g h i j : Bool) → is_white_kind (kinds a b d e f g h i j) ≡ false
unfolding kinds
kinds_solid true b d e f g h i j = refl
kinds_solid false true d e f g h i j = refl
kinds_solid false false true e f g h i j = refl
kinds_solid false false false true f g h i j = refl
kinds_solid false false false false true g h i j = refl
kinds_solid false false false false false true h i j = refl
kinds_solid false false false false false false true i j = refl
kinds_solid false false false false false false false true j = refl
kinds_solid false false false false false false false false true = refl
kinds_solid false false false false false false false false false = refl

mark_white : (c : ℕ) → is_white_kind (mark_kind c) ≡ false
unfolding kinds
mark_white c = kinds_solid (c == 58) (c == 59) (c == 44) (c == 91) (c == 93) (c == 40) (c == 41) (c == 123) (c == 125)

pub white_row : (row : PieceRow) (kind : TokenKind) (front rest : List ℕ) → is_white_kind kind ≡ true → FormOf row kind front rest
    → WhiteSpaceForm kind front rest
white_row white_space_row kind front rest e f = f
white_row comment_row kind front rest e f = absurd (not_white _ kind f.named refl e)
white_row string_row kind front rest e f = absurd (not_white _ kind f.named refl e)
white_row bad_string_row kind front rest e f = absurd (not_white _ kind f.named refl e)
white_row hash_row kind front rest e f = absurd (not_white _ kind f.named refl e)
white_row numeric_row kind front rest e (a_percentage number l is) = cc
white_row numeric_row kind front rest e (a_dimension number name l is s n) = cc
white_row numeric_row kind front rest e (a_number l a b) = cc
white_row cdc_row kind front rest e f = absurd (not_white _ kind f.named refl e)
white_row url_row kind front rest e f = absurd (not_white _ kind f.named refl e)
white_row bad_url_row kind front rest e f = absurd (not_white _ kind f.named refl e)
white_row ident_row kind front rest e f =
    elim f.kinds [ inl a ↦ absurd (not_white _ kind a.0 refl e) | inr b ↦ absurd (not_white _ kind b.0 refl e) ]
white_row cdo_row kind front rest e f = absurd (not_white _ kind f.named refl e)
white_row at_keyword_row kind front rest e f = absurd (not_white _ kind f.named refl e)
white_row mark_row kind front rest e f = absurd (not_white _ kind f.named (mark_white f.character) e)

pub equal_halves : (a b c d : List ℕ) → a ++ b ≡ c ++ d → length a ≡ length c → (a ≡ c) × (b ≡ d)
equal_halves [] b [] d e size = (refl, e)
equal_halves [] b (y ∷ c) d e size = absurd (omega (arith, size))
equal_halves (x ∷ a) b [] d e size = absurd (omega (arith, size))
equal_halves (x ∷ a) b (y ∷ c) d e size =
    let more = equal_halves a b c d (cc) (omega (arith, size)) in
    let same : x ≡ y = cc in
    ((λ i. same i ∷ more.0 i), more.1)

all_front : (g h : List ℕ) → list_all is_white (g ++ h) ≡ true → list_all is_white g ≡ true
all_front [] h e = refl
all_front (a ∷ g) h e =
    let t = both (is_white a) (list_all is_white (g ++ h)) e in
    let one = t.0 in rw one (all_front g h t.1)

no_white : (v : List ℕ) → IsBehind v → begins is_white v ≡ false
no_white _ at_end = refl
no_white _ (at_stop c rest stop) = (stop_facts c stop).white

-- a piece of white space up to and with the space begins with white space alone
trail_white : (a : ℕ) (g : List ℕ) (p : Piece) → is_white_kind p.kind ≡ true → p.len ≡ length (a ∷ g) + 1
    → first_piece ((a ∷ g) ++ spaced) ≡ Some p → list_all is_white (a ∷ g) ≡ true
trail_white a g p kind size found =
    let first = first_is_first ((a ∷ g) ++ spaced) p found in
    let l = first.longest in
    let form = white_row first.row p.kind l.front l.rest kind l.form in
    let is : l.front ++ l.rest ≡ ((a ∷ g) ++ 32 ∷ []) ++ 125 ∷ [] = sym l.is ∙ sym (append_assoc (a ∷ g) (32 ∷ []) (125 ∷ [])) in
    let halves = equal_halves l.front l.rest ((a ∷ g) ++ 32 ∷ []) (125 ∷ []) is
    (omega (arith, l.len, size, length-append (a ∷ g) (32 ∷ []))) in
    all_front (a ∷ g) (32 ∷ []) (sym (ap (list_all is_white) halves.0) ∙ form.run.0)

-- white space before the space is white space before what stands behind
white_there : (v : List ℕ) → IsBehind v → (a : ℕ) (g : List ℕ) (p : Piece) → is_white_kind p.kind ≡ true
    → p.len ≡ length (a ∷ g) + 1 → first_piece ((a ∷ g) ++ spaced) ≡ Some p → first_piece ((a ∷ g) ++ v)
    ≡ Some (piece WhiteSpace (length (a ∷ g)))
unfolding first_piece comment
white_there v b a g p kind size found =
    let first = first_is_first ((a ∷ g) ++ spaced) p found in
    let l = first.longest in
    let form = white_row first.row p.kind l.front l.rest kind l.form in
    let is : l.front ++ l.rest ≡ ((a ∷ g) ++ 32 ∷ []) ++ 125 ∷ [] = sym l.is ∙ sym (append_assoc (a ∷ g) (32 ∷ []) (125 ∷ [])) in
    let halves = equal_halves l.front l.rest ((a ∷ g) ++ 32 ∷ []) (125 ∷ []) is
    (omega (arith, l.len, size, length-append (a ∷ g) (32 ∷ []))) in
    let all : list_all is_white (a ∷ g) ≡ true = all_front (a ∷ g) (32 ∷ []) (sym (ap (list_all is_white) halves.0) ∙ form.run.0) in
    let there = white_row_law.only WhiteSpace (a ∷ g) v
    (record { named = refl; some = omega arith; run = (all, no_white v b) }) in
    let no_slash : nat_eq 47 a ≡ false = apart a (both (is_white a) (list_all is_white g) all).0 in
    rw no_slash (rw there refl)
  where
    apart : (a : ℕ) → is_white a ≡ true → nat_eq 47 a ≡ false
    apart a e = grind (arith, nat_tests)

-- ---- a sealed text
abbrev pub AllWhite : List ℕ → Type 0
AllWhite xs = list_all is_white xs ≡ true

-- the pieces of a text that is sealed, whole before whatever stands behind
pub record SealedPieces (t : List ℕ) : Type 0 where
  pub us : List Token
  pub white : Token
  pub own : List Token
  pub is_white : is_white_kind white.kind ≡ true
  pub nested : is_closed_nesting (nesting (us ++ white ∷ [])) ≡ true
  pub either : (own ≡ us) ⊎ ((w : Token) × (own ≡ us ++ w ∷ []) × (w.kind ≡ WhiteSpace))
  pub whole : (v : List ℕ) → IsBehind v → IsWholeBefore v 0 t own
  -- the text without white space at its end, which joins with white space behind
  pub front : List ℕ
  pub trail : List ℕ
  pub parted : t ≡ front ++ trail
  pub blank : AllWhite trail
  pub spaces : IsWholeBefore (trail ++ spaced) 0 front us

pub one_more : (after g : List ℕ) (p : Piece) (place : ℕ) (f : List ℕ) (us : List Token)
    → IsWholeBefore (g ++ after) place f us → p.len ≡ length g → first_piece (g ++ after) ≡ Some p
    → IsWholeBefore after place (f ++ g) (us ++ (record { kind = p.kind; start = place + length f; end = place + length f + p.len }) ∷ [])
one_more after g p place f us no_more len found =
    let at : place + 0 ≡ place = omega arith in
    rw at (piece_and p g [] (sym (append-nil g)) len found no_more)
one_more after g p place text us (piece_and {ts = more} q front rest is size first whole) len found =
    let at : place + q.len + length rest ≡ place + length text = omega (arith, size, ap length is, length-append front rest) in
    let below = one_more after g p (place + q.len) rest more whole len found in
    piece_and q front (rest ++ g) (ap (λ (x : List ℕ). x ++ g) is ∙ append_assoc front rest g) size
    (ap first_piece (append_assoc text g after) ∙ first)
    (subst (λ (n : ℕ). IsWholeBefore after (place + q.len) (rest ++ g)
    (more ++ (record { kind = p.kind; start = n; end = n + p.len }) ∷ [])) at below)

pub sealed_pieces : (t : List ℕ) → is_sealed t ≡ true → SealedPieces t
sealed_pieces t e =
    let end = sealed_end (pieces (t ++ spaced)) e in
    let s = split_at end.us (end.white ∷ end.close ∷ []) 0 (t ++ spaced) end.is in
    let w = first_of s.after (0 + length s.front) end.white (end.close ∷ []) (sym s.left) in
    let one = one_code (drop w.p.len s.after) (0 + length s.front + w.p.len) end.close end.is_close w.more in
    let size : length s.after ≡ w.p.len + 1 = omega (arith, one, length-drop w.p.len s.after, w.fits) in
    let x = split_text t s.front s.after s.is (omega (arith, size, w.some)) in
    let kind : is_white_kind w.p.kind ≡ true = ap (λ (u : Token). is_white_kind u.kind) w.head ∙ end.is_white in
    let whole : IsWholeBefore (x.0 ++ spaced) 0 s.front end.us = subst (λ (a : List ℕ). IsWholeBefore a 0 s.front end.us) x.2 s.whole in
    let found : first_piece (x.0 ++ spaced) ≡ Some w.p = sym (ap first_piece x.2) ∙ w.found in
    let len : w.p.len ≡ length x.0 + 1 = omega (arith, size, ap length x.2, length-append x.0 spaced) in
    by x.0 end.us s.front w.p x.1 end.white end.is_white end.nested kind whole found len
  where
    by : (g : List ℕ) (us : List Token) (f : List ℕ) (p : Piece) → t ≡ f ++ g → (w : Token) → is_white_kind w.kind ≡ true
        → is_closed_nesting (nesting (us ++ w ∷ [])) ≡ true → is_white_kind p.kind ≡ true → IsWholeBefore (g ++ spaced) 0 f us
        → first_piece (g ++ spaced) ≡ Some p → p.len ≡ length g + 1 → SealedPieces t
    by [] us f p is w white nested kind whole found len = record {
      us = us;
      white = w;
      own = us;
      is_white = white;
      nested = nested;
      either = inl refl;
      whole = λ v b. subst (λ (x : List ℕ). IsWholeBefore v 0 x us) (sym (is ∙ append-nil f)) (keep_whole v b [] 0 f us whole);
      front = f;
      trail = [];
      parted = is;
      blank = refl;
      spaces = whole;
    }
    by (a ∷ g) us f p is w white nested kind whole found len = record {
      us = us;
      white = w;
      own = us ++ (record { kind = WhiteSpace; start = 0 + length f; end = 0 + length f + length (a ∷ g) }) ∷ [];
      is_white = white;
      nested = nested;
      either = inr (record { kind = WhiteSpace; start = 0 + length f; end = 0 + length f + length (a ∷ g) }, refl, refl);
      whole = λ v b. subst (λ (x : List ℕ). IsWholeBefore v 0 x
          (us ++ (record { kind = WhiteSpace; start = 0 + length f; end = 0 + length f + length (a ∷ g) }) ∷ [])) (sym is)
          (one_more v (a ∷ g) (piece WhiteSpace (length (a ∷ g))) 0 f us (keep_whole v b (a ∷ g) 0 f us whole) refl
          (white_there v b a g p kind len found));
      front = f;
      trail = a ∷ g;
      parted = is;
      blank = trail_white a g p kind len found;
      spaces = whole;
    }

-- alone it has just these pieces
pub sealed_own : (t : List ℕ) (s : SealedPieces t) → pieces t ≡ s.own
unfolding pieces_after
sealed_own t s = sym (ap pieces (append-nil t)) ∙ pieces_at [] t s.own (s.whole [] at_end) ∙ append-nil s.own

-- they are those before white space behind it, and white space at its end
pub sealed_either : (t : List ℕ) (s : SealedPieces t)
    → (pieces t ≡ s.us) ⊎ ((w : Token) × (pieces t ≡ s.us ++ w ∷ []) × (w.kind ≡ WhiteSpace))
sealed_either t s = by s.either
  where
    by : (s.own ≡ s.us) ⊎ ((w : Token) × (s.own ≡ s.us ++ w ∷ []) × (w.kind ≡ WhiteSpace))
        → (pieces t ≡ s.us) ⊎ ((w : Token) × (pieces t ≡ s.us ++ w ∷ []) × (w.kind ≡ WhiteSpace))
    by (inl e) = inl (sealed_own t s ∙ e)
    by (inr w) = inr (w.0, sealed_own t s ∙ w.1, w.2)

-- a sealed text is whole before whatever may stand behind it, by its own pieces
pub sealed_whole : (t : List ℕ) → is_sealed t ≡ true → (v : List ℕ) → IsBehind v → IsWholeBefore v 0 t (pieces t)
sealed_whole t e v b = let s = sealed_pieces t e in subst (IsWholeBefore v 0 t) (sym (sealed_own t s)) (s.whole v b)

-- ---- a `{`
abbrev pub is_open_kind : TokenKind → Bool
is_open_kind OpenCurly = true
is_open_kind _ = false

kinds_open : (a b d e f g h i j : Bool) → is_open_kind (kinds a b d e f g h i j) ≡ true → i ≡ true
unfolding kinds
kinds_open true b d e f g h i j is = cc
kinds_open false true d e f g h i j is = cc
kinds_open false false true e f g h i j is = cc
kinds_open false false false true f g h i j is = cc
kinds_open false false false false true g h i j is = cc
kinds_open false false false false false true h i j is = cc
kinds_open false false false false false false true i j is = cc
kinds_open false false false false false false false true j is = refl
kinds_open false false false false false false false false true is = cc
kinds_open false false false false false false false false false is = cc

mark_open : (c : ℕ) → mark_kind c ≡ OpenCurly → c ≡ 123
unfolding kinds
mark_open c e = same_code c 123
    (kinds_open (c == 58) (c == 59) (c == 44) (c == 91) (c == 93) (c == 40) (c == 41) (c == 123) (c == 125) (ap is_open_kind e))

kinds_close : (a b d e f g h i j : Bool) → is_close_kind (kinds a b d e f g h i j) ≡ true → j ≡ true
unfolding kinds
kinds_close true b d e f g h i j is = cc
kinds_close false true d e f g h i j is = cc
kinds_close false false true e f g h i j is = cc
kinds_close false false false true f g h i j is = cc
kinds_close false false false false true g h i j is = cc
kinds_close false false false false false true h i j is = cc
kinds_close false false false false false false true i j is = cc
kinds_close false false false false false false false true j is = cc
kinds_close false false false false false false false false true is = refl
kinds_close false false false false false false false false false is = cc

mark_close : (c : ℕ) → mark_kind c ≡ CloseCurly → c ≡ 125
unfolding kinds
mark_close c e = same_code c 125
    (kinds_close (c == 58) (c == 59) (c == 44) (c == 91) (c == 93) (c == 40) (c == 41) (c == 123) (c == 125) (ap is_close_kind e))

-- a text whose first piece is this mark
pub record MarkFirst (mark : ℕ) (text : List ℕ) (place : ℕ) (t : Token) (ts : List Token) : Type 0 where
  pub behind : List ℕ
  pub is : text ≡ mark ∷ behind
  pub start : t.start ≡ place
  pub end : t.end ≡ place + 1
  pub more : pieces_after (place + 1) 0 behind ≡ ts

open_marks : (k : TokenKind) (text : List ℕ) (n : ℕ) → k ≡ OpenCurly → HasMarks k text 0 n → (n ≡ 1) × (slice_index text 0 ≡ 123)
open_marks OpenCurly text n e h = (omega (arith, h.one), mark_open (slice_index text 0) (sym h.gives))
open_marks _ text n e h = absurd (cc)

pub close_marks : (k : TokenKind) (text : List ℕ) (n : ℕ) → k ≡ CloseCurly → HasMarks k text 0 n → (n ≡ 1) × (slice_index text 0 ≡ 125)
close_marks CloseCurly text n e h = (omega (arith, h.one), mark_close (slice_index text 0) (sym h.gives))
close_marks _ text n e h = absurd (cc)

mark_first : (mark : ℕ) (text : List ℕ) (place : ℕ) (t : Token) (ts : List Token) (f : FirstOf text place t ts) → f.p.len ≡ 1
    → slice_index text 0 ≡ mark → MarkFirst mark text place t ts
mark_first mark [] place t ts f one code = absurd (omega (arith, f.fits, f.some))
mark_first mark (c ∷ rest) place t ts f one code = record {
  behind = rest;
  is = ap (λ (x : ℕ). x ∷ rest) code;
  start = sym (ap (λ (u : Token). u.start) f.head);
  end = sym (ap (λ (u : Token). u.end) f.head) ∙ ap (λ (n : ℕ). place + n) one;
  more = sym (ap (λ (n : ℕ). pieces_after (place + n) 0 (drop n (c ∷ rest))) one) ∙ f.more;
}

pub open_first : (text : List ℕ) (place : ℕ) (t : Token) (ts : List Token) → t.kind ≡ OpenCurly → pieces_after place 0 text ≡ t ∷ ts
    → MarkFirst 123 text place t ts
open_first text place t ts kind e =
    let f = first_of text place t ts e in
    let m = open_marks f.p.kind text f.p.len (ap (λ (u : Token). u.kind) f.head ∙ kind) (first_whole text f.p f.found).marks in
    mark_first 123 text place t ts f m.0 m.1

pub close_first : (text : List ℕ) (place : ℕ) (t : Token) (ts : List Token) → t.kind ≡ CloseCurly → pieces_after place 0 text ≡ t ∷ ts
    → MarkFirst 125 text place t ts
close_first text place t ts kind e =
    let f = first_of text place t ts e in
    let m = close_marks f.p.kind text f.p.len (ap (λ (u : Token). u.kind) f.head ∙ kind) (first_whole text f.p f.found).marks in
    mark_first 125 text place t ts f m.0 m.1

-- `{` and `}` are pieces by themselves, whatever stands behind them
pub open_piece : (rest : List ℕ) → first_piece (123 ∷ rest) ≡ Some (piece OpenCurly 1)
unfolding first_piece comment white_space string bad_string hash numeric number_len cdc url bad_url opens_url ident cdo at_keyword mark
    escape_len
open_piece rest = refl

pub close_piece : (rest : List ℕ) → first_piece (125 ∷ rest) ≡ Some (piece CloseCurly 1)
unfolding first_piece comment white_space string bad_string hash numeric number_len cdc url bad_url opens_url ident cdo at_keyword mark
    escape_len
close_piece rest = refl
