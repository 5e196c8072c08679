-- The reading of a sheet where the body of a rule is replaced by a sealed text is the old one with its places moved.
use Rattle.std.proofs.Common.{◌≡◌, ◌⊎◌, inl, inr, ℕ, suc, ◌+◌, true, false, cond, List, [], ◌∷◌, ◌++◌, map, take, drop}
use Rattle.std.proofs.Common.{length}
use Rattle.std.proofs.Common.{Option, Some, None, refl, ap, sym, ◌∙◌, subst, append_assoc, length-append, arith}
use Rattle.std.specs.Prelude.{slice_get, option_map, option_to_list}
use Rattle.std.proofs.lemmas.List.{append-nil}
use Rattle.std.proofs.Math.Seq.{drop-append_seam, take-append_seam}
use Rattle.css_tokens.specs.declared.token.Range.{Range}
use Rattle.css_tokens.specs.declared.token.Token.{Token}
use Rattle.css_tokens.specs.declared.token.TokenKind.TheVariants as tokens
use Rattle.css_tokens.specs.Pieces.{pieces, pieces_after}
use Rattle.css_tokens.specs.Seams.{IsWholeBefore}
use Rattle.css_tokens.proofs.Cuts.{piece_first}
use Rattle.css_tokens.proofs.SeamPieces.{pieces_at, whole_before}
use Rattle.selectors.specs.declared.words.Word.{Word}
use Rattle.selectors.specs.Words.{word_reading, words_after}
use Rattle.selectors.specs.Forms.{SelectorForm, ◌>>=◌}
use Rattle.selectors.specs.Reading.{range_of, selector_list_of}
use Rattle.selectors.specs.Moves.{Cut, moved_place, placed_range, placed_selector}
use Rattle.sheet_reader.specs.declared.sheet.Property.{Property}
use Rattle.sheet_reader.specs.declared.brackets.Nesting.{Nesting}
use Rattle.sheet_reader.specs.declared.brackets.Nesting.TheVariants.{Closed, Stray}
use Rattle.sheet_reader.specs.declared.brackets.Bracket.{Bracket}
use Rattle.css_tokens.specs.declared.token.TokenKind.{TokenKind}
use Rattle.sheet_reader.specs.declared.parts.Level.TheVariants.{Top}
use Rattle.sheet_reader.specs.Forms.{range, RuleForm}
use Rattle.sheet_reader.specs.Brackets.{nesting, nesting_in, is_stray, open_after}
use Rattle.sheet_reader.specs.Parts.{PartForm, parts}
use Rattle.sheet_reader.specs.Layout.{Laid, media_in, laid_out, AreLaid}
use Rattle.sheet_reader.specs.Declarations.{declarations, style_of}
use Rattle.sheet_reader.specs.Grammar.{AreNested}
use Rattle.sheet_reader.specs.Sealing.{is_closed_nesting, is_sealed}
use Rattle.sheet_reader.specs.Sheets.{body_end, style_rule, rule_of, closing_place, rules_in, places_in, sheet_of}
use Rattle.sheet_reader.proofs.Behind.{IsBehind, at_end, at_stop}
use Rattle.sheet_reader.proofs.Raised.{raised, raised_word, flat}
use Rattle.sheet_reader.specs.Moves.{placed_property, placed_media, placed_rule, rebodied, moved_rules, body_cut, moved_by, moved_sheet}
use Rattle.sheet_reader.specs.Moves.{replaced}
use Rattle.sheet_reader.proofs.GrammarForms.{parts_only, parts_spelled}
use Rattle.sheet_reader.proofs.LayoutForms.{laid_spelled, laid_only}
use Rattle.sheet_reader.proofs.NestingForms.{closed_nested}
use Rattle.sheet_reader.proofs.SealedCuts.{split_at, open_first, close_first, open_piece, close_piece, sealed_pieces, sealed_own}
use Rattle.sheet_reader.proofs.SealedCuts.{sealed_whole, no_pieces, white_is}
use Rattle.sheet_reader.proofs.PartMoves.{flat_of, flat_parts, map_append}
use Rattle.sheet_reader.proofs.WordMoves.{SamePart, list_same, range_same}
use Rattle.sheet_reader.proofs.ReadMoves.{AllTokens, nesting_raised, words_same, words_in, declarations_same}
use Rattle.sheet_reader.proofs.TextMoves.{pieces_moved, pieces_from, widen, whole_tokens, same_part}
use Rattle.sheet_reader.proofs.BlockMoves.{BodyShut}
use Rattle.sheet_reader.proofs.LaidMoves.{stays, goes, tokens_kept}
use Rattle.sheet_reader.proofs.RulePaths.{RulePart, rule_part, Path, here, past_part, past_media, in_media, find, path_flat, path_ends}
use Rattle.sheet_reader.proofs.RulePaths.{path_over}
use Rattle.sheet_reader.proofs.MovedParts.{far, new_part, MovedParts, moved_parts}

-- what a style rule's head says
pub record HeadOf (text : List ℕ) (around : Option ℕ) (ws : List Word) (b : Range) (r : RuleForm) : Type 0 where
  pub prelude : range_of ws ≡ Some r.prelude
  pub selectors : selector_list_of (word_reading text ws) ≡ Some r.selectors
  pub body : b ≡ r.body
  pub media : around ≡ r.media

pub head_of : (text : List ℕ) (around : Option ℕ) (ws : List Word) (b : Range) (within : List Token) (r : RuleForm)
    → style_rule text around ws b within ≡ Some r → HeadOf text around ws b r
head_of text around ws b within r e = by (range_of ws) (selector_list_of (word_reading text ws)) refl refl e
  where
    by : (o : Option Range) (l : Option (List SelectorForm)) → range_of ws ≡ o → selector_list_of (word_reading text ws) ≡ l
        → (o >>= λ prelude. l >>= λ selectors.
        Some (record { prelude = prelude; selectors = selectors; body = b; properties = declarations text within; media = around }))
        ≡ Some r
        → HeadOf text around ws b r
    by None l a c e = absurd (cc)
    by (Some p) None a c e = absurd (cc)
    by (Some p) (Some ss) a c e =
        let same : (record { prelude = p; selectors = ss; body = b; properties = declarations text within; media = around }) ≡ r = cc in
        record {
          prelude = a ∙ ap (λ (x : RuleForm). Some x.prelude) same;
          selectors = c ∙ ap (λ (x : RuleForm). Some x.selectors) same;
          body = ap (λ (x : RuleForm). x.body) same;
          media = ap (λ (x : RuleForm). x.media) same;
        }

moved_append : (c : Cut) (ps : List Property) (xs : List RuleForm) (r : RuleForm) (ys : List RuleForm)
    → moved_rules c ps (length xs) (xs ++ r ∷ ys)
    ≡ map (placed_rule (moved_place c)) xs ++ rebodied c ps r ∷ map (placed_rule (moved_place c)) ys
moved_append c ps [] r ys = refl
moved_append c ps (x ∷ xs) r ys = ap (λ (rs : List RuleForm). placed_rule (moved_place c) x ∷ rs) (moved_append c ps xs r ys)

raised_twice : (f g h : ℕ → ℕ) → ((x : ℕ) → f (g x) ≡ h x) → (ts : List Token) → map (raised f) (map (raised g) ts) ≡ map (raised h) ts
raised_twice f g h e [] = refl
raised_twice f g h e (t ∷ ts) =
    let more = raised_twice f g h e ts in
    λ i. (record { kind = t.kind; start = e t.start i; end = e t.end i }) ∷ more i

-- ---- a sealed text is nested
pub white_last : (bs : List Bracket) (us : List Token) (w : Token) → w.kind ≡ tokens.WhiteSpace → nesting_in bs (us ++ w ∷ [])
    ≡ nesting_in bs us
unfolding nesting_in
white_last bs [] w e = by w.kind e
  where
    by : (k : TokenKind) → k ≡ tokens.WhiteSpace → cond (is_stray bs k) Stray (nesting_in (open_after bs k) []) ≡ nesting_in bs []
    by tokens.WhiteSpace e = refl
    by _ e = absurd (cc)
white_last bs (u ∷ us) w e = ap (λ (n : Nesting). cond (is_stray bs u.kind) Stray n) (white_last (open_after bs u.kind) us w e)

pub closed_is : (n : Nesting) → is_closed_nesting n ≡ true → n ≡ Closed
closed_is Closed e = refl
closed_is _ e = absurd (cc)

pub sealed_nesting : (t : List ℕ) → is_sealed t ≡ true → nesting (pieces t) ≡ Closed
sealed_nesting t e =
    let s = sealed_pieces t e in
    let us : nesting s.us ≡ Closed =
    sym (white_last [] s.us s.white (white_is s.white.kind s.is_white)) ∙ closed_is (nesting (s.us ++ s.white ∷ [])) s.nested in
    ap nesting (sealed_own t s) ∙ elim s.either [
      | inl own ↦ ap nesting own ∙ us
      | inr w ↦ ap nesting w.1 ∙ white_last [] s.us w.0 w.2 ∙ us
    ]

-- ---- the text taken apart at the body
abbrev brace_at : ℕ → Token
brace_at n = record { kind = tokens.OpenCurly; start = n; end = n + 1 }

-- the text with a body between what stands before the `{` and what stands behind the body
abbrev pub with_body : List ℕ → List ℕ → List ℕ → List ℕ
with_body front body behind = front ++ 123 ∷ (body ++ behind)

-- the cut at that body
abbrev pub cut_of : List ℕ → List ℕ → List ℕ → Cut
cut_of front body put = record { start = length front + 1; end = length front + 1 + length body; size = length put }

pub record Apart (text : List ℕ) (xs : List Token) (brace : Token) (tail : List Token) : Type 0 where
  pub front : List ℕ
  pub body : List ℕ
  pub behind : List ℕ
  pub is : text ≡ with_body front body behind
  pub whole : IsWholeBefore (123 ∷ (body ++ behind)) 0 front xs
  pub brace_is : brace ≡ brace_at (length front)
  pub left : tail ≡ pieces_after (length front + 1 + length body) 0 behind

pub apart : (text : List ℕ) (xs : List Token) (brace : Token) (within tail : List Token) → pieces text ≡ xs ++ brace ∷ (within ++ tail)
    → brace.kind ≡ tokens.OpenCurly → Apart text xs brace tail
apart text xs brace within tail is kind =
    let s = split_at xs (brace ∷ (within ++ tail)) 0 text is in
    let m = open_first s.after (0 + length s.front) brace (within ++ tail) kind (sym s.left) in
    let d = split_at within tail (0 + length s.front + 1) m.behind m.more in
    let rest : s.after ≡ 123 ∷ (d.front ++ d.after) = m.is ∙ ap (λ (x : List ℕ). 123 ∷ x) d.is in
    let start : brace.start ≡ length s.front = omega (arith, m.start) in
    let end : brace.end ≡ length s.front + 1 = omega (arith, m.end) in
    let at : 0 + length s.front + 1 + length d.front ≡ length s.front + 1 + length d.front = omega arith in
    record {
      front = s.front;
      body = d.front;
      behind = d.after;
      is = s.is ∙ ap (λ (x : List ℕ). s.front ++ x) rest;
      whole = subst (λ (x : List ℕ). IsWholeBefore x 0 s.front xs) rest s.whole;
      brace_is = λ i. record { kind = kind i; start = start i; end = end i };
      left = d.left ∙ ap (λ (x : ℕ). pieces_after x 0 d.after) at;
    }

pub replaced_is : (front body behind put : List ℕ)
    → replaced (with_body front body behind) (range (length front + 1) (length front + 1 + length body)) put ≡ with_body front put behind
replaced_is front body behind put =
    let text = with_body front body behind in
    let head = front ++ 123 ∷ [] in
    let one : text ≡ head ++ (body ++ behind) = sym (append_assoc front (123 ∷ []) (body ++ behind)) in
    let two : text ≡ (head ++ body) ++ behind = one ∙ sym (append_assoc head body behind) in
    let size : length head ≡ length front + 1 = length-append front (123 ∷ []) in
    let size2 : length (head ++ body) ≡ length front + 1 + length body = omega (arith, size, length-append head body) in
    let taken : take (length front + 1) text ≡ head =
    ap (λ (k : ℕ). take k text) (sym size) ∙ ap (take (length head)) one ∙ take-append_seam head (body ++ behind) in
    let left : drop (length front + 1 + length body) text ≡ behind =
    ap (λ (k : ℕ). drop k text) (sym size2) ∙ ap (drop (length (head ++ body))) two ∙ drop-append_seam (head ++ body) behind in
    (λ i. taken i ++ (put ++ left i)) ∙ append_assoc front (123 ∷ []) (put ++ behind)

-- ---- what stands in both texts
pub front_same : (front body behind put : List ℕ)
    → SamePart (with_body front body behind) (with_body front put behind) (moved_place (cut_of front body put)) 0 (length front + 1)
front_same front body behind put =
    let c = cut_of front body put in
    let head = front ++ 123 ∷ [] in
    let size : length head ≡ length front + 1 = length-append front (123 ∷ []) in
    let both : SamePart (head ++ (body ++ behind)) (head ++ (put ++ behind)) (moved_place c) 0 (0 + length head) =
    same_part [] head (body ++ behind) [] (put ++ behind) (moved_place c)
    (λ x fits. let z : 0 + x ≡ x = omega arith in ap (moved_place c) z ∙ stays c x (omega (arith, fits, size)) ∙ sym z) in
    let hi_is : 0 + length head ≡ length front + 1 = omega (arith, size) in
    subst (λ (m : ℕ). SamePart (with_body front body behind) (with_body front put behind) (moved_place c) 0 m) hi_is
    (subst (λ (x : List ℕ). SamePart x (with_body front put behind) (moved_place c) 0 (0 + length head))
    (append_assoc front (123 ∷ []) (body ++ behind))
    (subst (λ (x : List ℕ). SamePart (head ++ (body ++ behind)) x (moved_place c) 0 (0 + length head))
    (append_assoc front (123 ∷ []) (put ++ behind)) both))

own_same : (front behind put : List ℕ) → SamePart put (with_body front put behind) (λ x. length front + 1 + x) 0 (length put)
own_same front behind put =
    let head = front ++ 123 ∷ [] in
    let size : length head ≡ length front + 1 = length-append front (123 ∷ []) in
    let both : SamePart (put ++ []) (head ++ (put ++ behind)) (λ x. length front + 1 + x) 0 (0 + length put) =
    same_part [] put [] head behind (λ x. length front + 1 + x) (λ x _. let z : 0 + x ≡ x = omega arith in
    ap (λ (m : ℕ). length front + 1 + m) z ∙ ap (λ (m : ℕ). m + x) (sym size)) in
    let n_is : 0 + length put ≡ length put = omega arith in
    subst (λ (m : ℕ). SamePart put (with_body front put behind) (λ x. length front + 1 + x) 0 m) n_is
    (subst (λ (x : List ℕ). SamePart x (with_body front put behind) (λ x. length front + 1 + x) 0 (0 + length put)) (append-nil put)
    (subst (λ (x : List ℕ). SamePart (put ++ []) x (λ x. length front + 1 + x) 0 (0 + length put))
    (append_assoc front (123 ∷ []) (put ++ behind)) both))

pub tail_same : (front body rest put : List ℕ) (d : ℕ)
    → SamePart (with_body front body (d ∷ rest)) (with_body front put (d ∷ rest)) (moved_place (cut_of front body put))
    (length front + 1 + length body + 1) (length front + 1 + length body + 1 + length rest)
tail_same front body rest put d =
    let c = cut_of front body put in
    let head = front ++ 123 ∷ [] in
    let p = (head ++ body) ++ d ∷ [] in
    let p2 = (head ++ put) ++ d ∷ [] in
    let size : length p ≡ length front + 1 + length body + 1 =
    omega (arith, length-append (head ++ body) (d ∷ []), length-append head body, length-append front (123 ∷ [])) in
    let size2 : length p2 ≡ length front + 1 + length put + 1 =
    omega (arith, length-append (head ++ put) (d ∷ []), length-append head put, length-append front (123 ∷ [])) in
    let both : SamePart (p ++ (rest ++ [])) (p2 ++ (rest ++ [])) (moved_place c) (length p) (length p + length rest) =
    same_part p rest [] p2 [] (moved_place c)
    (λ x _. goes c (length p + x) (omega (arith, size)) ∙ omega (arith, size, size2)) in
    let old : p ++ (rest ++ []) ≡ with_body front body (d ∷ rest) = spread body in
    let new : p2 ++ (rest ++ []) ≡ with_body front put (d ∷ rest) = spread put in
    subst (λ (n : ℕ). SamePart (with_body front body (d ∷ rest)) (with_body front put (d ∷ rest)) (moved_place c) n (n + length rest)) size
    (subst (λ (x : List ℕ). SamePart x (with_body front put (d ∷ rest)) (moved_place c) (length p) (length p + length rest)) old
    (subst (λ (x : List ℕ). SamePart (p ++ (rest ++ [])) x (moved_place c) (length p) (length p + length rest)) new both))
  where
    spread : (b : List ℕ) → (((front ++ 123 ∷ []) ++ b) ++ d ∷ []) ++ (rest ++ []) ≡ with_body front b (d ∷ rest)
    spread b =
        ap (λ (x : List ℕ). (((front ++ 123 ∷ []) ++ b) ++ d ∷ []) ++ x) (append-nil rest)
        ∙ ap (λ (x : List ℕ). x ++ rest) (append_assoc (front ++ 123 ∷ []) b (d ∷ []))
        ∙ append_assoc (front ++ 123 ∷ []) (b ++ d ∷ []) rest
        ∙ ap (λ (x : List ℕ). (front ++ 123 ∷ []) ++ x) (append_assoc b (d ∷ []) rest)
        ∙ append_assoc front (123 ∷ []) (b ++ d ∷ rest)

-- ---- what stands behind the body
pub record Tail (front body put behind : List ℕ) (close : Option Token) (more : List Token) : Type 0 where
  lo : ℕ
  hi : ℕ
  back : SamePart (with_body front body behind) (with_body front put behind) (moved_place (cut_of front body put)) lo hi
  inside : AllTokens lo hi more
  ended : (more ≡ []) ⊎ (moved_place (cut_of front body put) (length (with_body front body behind)) ≡ length (with_body front put behind))
  pieces_are : pieces_after (length front + 1 + length put) 0 behind
      ≡ option_to_list (option_map (raised (far (cut_of front body put))) close) ++ map (raised (moved_place (cut_of front body put))) more
  pub old_end : body_end (with_body front body behind) close ≡ length front + 1 + length body
  new_end : body_end (with_body front put behind) (option_map (raised (far (cut_of front body put))) close) ≡ length front + 1 + length put
  place : option_to_list (closing_place (option_map (raised (far (cut_of front body put))) close))
      ≡ map (moved_place (cut_of front body put)) (option_to_list (closing_place close))
  stop : IsBehind behind

pub text_len : (front body behind : List ℕ) → length (with_body front body behind) ≡ length front + 1 + length body + length behind
text_len front body behind = omega (arith, length-append front (123 ∷ (body ++ behind)), length-append body behind)

closed_tail : (front body put rest : List ℕ) (c : Token) (more : List Token) → c.kind ≡ tokens.CloseCurly
    → c.start ≡ length front + 1 + length body → c.end ≡ length front + 1 + length body + 1
    → pieces_after (length front + 1 + length body + 1) 0 rest ≡ more → Tail front body put (125 ∷ rest) (Some c) more
closed_tail front body put rest c more kind start end is =
    let cut = cut_of front body put in
    let e = length front + 1 + length body in
    let n = length front + 1 + length put in
    let split = split_at more [] (e + 1) rest (is ∙ sym (append-nil more)) in
    let tokens_in : AllTokens (e + 1) (e + 1 + length rest) more =
    widen (e + 1) (e + 1 + length split.front) (e + 1) (e + 1 + length rest) more (omega arith)
    (omega (arith, ap length split.is, length-append split.front split.after))
    (whole_tokens split.after (e + 1) split.front more split.whole) in
    let at : (x : ℕ) → moved_place cut (e + 1 + x) ≡ n + 1 + x = λ x. goes cut (e + 1 + x) (omega arith) ∙ omega arith in
    let old : more ≡ map (raised (λ x. e + 1 + x)) (pieces rest) = sym is ∙ pieces_from (e + 1) rest in
    let new : pieces_after (n + 1) 0 rest ≡ map (raised (moved_place cut)) more =
    pieces_from (n + 1) rest
    ∙ sym (raised_twice (moved_place cut) (λ x. e + 1 + x) (λ x. n + 1 + x) at (pieces rest))
    ∙ sym (ap (map (raised (moved_place cut))) old) in
    let far_start : n ≡ far cut c.start = omega (arith, start) in
    let far_end : n + 1 ≡ far cut c.end = omega (arith, end) in
    let brace : ◌≡◌ {A = Token} (record { kind = tokens.CloseCurly; start = n; end = n + 1 }) (raised (far cut) c) =
    λ i. record { kind = sym kind i; start = far_start i; end = far_end i } in
    let goes_end : far cut c.end ≡ moved_place cut c.end = sym (goes cut c.end (omega (arith, end))) in
    record {
      lo = e + 1;
      hi = e + 1 + length rest;
      back = tail_same front body rest put 125;
      inside = tokens_in;
      ended = inr (ap (moved_place cut) (text_len front body (125 ∷ rest)) ∙ goes cut (e + length (125 ∷ rest)) (omega arith)
          ∙ omega (arith, text_len front put (125 ∷ rest)));
      pieces_are = piece_first (125 ∷ rest) n _ (close_piece rest) (omega arith) (omega arith)
          ∙ (λ i. brace i ∷ new i);
      old_end = start;
      new_end = sym far_start;
      place = ap (λ (x : ℕ). x ∷ []) goes_end;
      stop = at_stop 125 rest refl;
    }

open_tail : (front body put : List ℕ) → Tail front body put [] None []
unfolding pieces_after
open_tail front body put = record {
  lo = 0;
  hi = length front + 1;
  back = front_same front body [] put;
  inside = tt;
  ended = inl refl;
  pieces_are = refl;
  old_end = omega (arith, text_len front body []);
  new_end = omega (arith, text_len front put []);
  place = refl;
  stop = at_end;
}

pub tail_of : (front body put behind : List ℕ) (q : RulePart) (more : List Token) → BodyShut q.body q.close → (q.close ≡ None → more ≡ [])
    → option_to_list q.close ++ more ≡ pieces_after (length front + 1 + length body) 0 behind → Tail front body put behind q.close more
tail_of front body put behind q more shut over left = by q.close shut over left
  where
    by : (close : Option Token) → BodyShut q.body close → (close ≡ None → more ≡ [])
        → option_to_list close ++ more ≡ pieces_after (length front + 1 + length body) 0 behind → Tail front body put behind close more
    by (Some c) shut over left =
        let m = close_first behind (length front + 1 + length body) c more shut.0 (sym left) in
        subst (λ (b : List ℕ). Tail front body put b (Some c) more) (sym m.is)
        (closed_tail front body put m.behind c more shut.0 m.start m.end m.more)
    by None shut over left =
        let none = over refl in
        let gone : behind ≡ [] = no_pieces behind (length front + 1 + length body) (sym left ∙ none) in
        subst (λ (b : List ℕ). Tail front body put b None more) (sym gone)
        (subst (Tail front body put [] None) (sym none) (open_tail front body put))

-- ---- the rule itself
unfoldable own_pieces : List ℕ → List ℕ → List Token
own_pieces front put = map (raised (λ x. length front + 1 + x)) (pieces put)

own_nested : (front put : List ℕ) → is_sealed put ≡ true → AreNested (own_pieces front put)
unfolding own_pieces
own_nested front put sealed =
    closed_nested (map (raised (λ x. length front + 1 + x)) (pieces put))
    (nesting_raised (λ x. length front + 1 + x) [] (pieces put) ∙ sealed_nesting put sealed)

own_declared : (front behind put : List ℕ) → is_sealed put ≡ true
    → declarations (with_body front put behind) (own_pieces front put) ≡ map (placed_property (λ x. length front + 1 + x)) (style_of put)
unfolding own_pieces
own_declared front behind put sealed =
    let n = length put in
    let put_tokens : AllTokens 0 n (pieces put) = widen 0 (0 + n) 0 n (pieces put) (omega arith) (omega arith)
    (whole_tokens [] 0 put (pieces put) (sealed_whole put sealed [] at_end)) in
    declarations_same put (with_body front put behind) (λ x. length front + 1 + x) 0 n (own_same front behind put) (pieces put) put_tokens

rule_again : (front body behind put : List ℕ) (q : RulePart) (more : List Token) (r : RuleForm) → is_sealed put ≡ true
    → q.brace ≡ brace_at (length front) → Tail front body put behind q.close more
    → (around : Option ℕ) → rule_of (with_body front body behind) around (rule_part q) ≡ Some r → AllTokens 0 (length front + 1) q.prelude
    → rule_of (with_body front put behind) around (rule_part (new_part (cut_of front body put) (own_pieces front put) q))
    ≡ Some (rebodied (cut_of front body put) (style_of put) r)
unfolding rule_of
rule_again front body behind put q more r sealed brace t around e lead =
    let text = with_body front body behind in
    let other = with_body front put behind in
    let c = cut_of front body put in
    let s = length front + 1 in
    let same = front_same front body behind put in
    let ws = words_after text false q.prelude in
    let h = head_of text around ws (range q.brace.end (body_end text q.close)) q.body r e in
    let kept = tokens_kept (moved_place c) 0 s (λ x _ b. stays c x b) q.prelude lead in
    let w : words_after other false q.prelude ≡ map (raised_word (moved_place c)) ws =
    sym (ap (words_after other false) kept) ∙ words_same text other (moved_place c) 0 s same false q.prelude lead in
    let new_range : range_of (map (raised_word (moved_place c)) ws) ≡ Some (placed_range (moved_place c) r.prelude) =
    range_same text other (moved_place c) 0 s same ws ∙ ap (option_map (placed_range (moved_place c))) h.prelude in
    let new_list : selector_list_of (word_reading other (map (raised_word (moved_place c)) ws))
    ≡ Some (map (placed_selector (moved_place c)) r.selectors) =
    list_same text other (moved_place c) 0 s same ws (words_in text other (moved_place c) 0 s same false q.prelude lead)
    ∙ ap (option_map (map (placed_selector (moved_place c)))) h.selectors in
    let declared = own_declared front behind put sealed in
    let first : q.brace.end ≡ s = ap (λ (u : Token). u.end) brace in
    (λ i. style_rule other around (w i) (range (first i) (t.new_end i)) (own_pieces front put))
    ∙ (λ i. new_range i >>= λ prelude. new_list i >>= λ selectors.
    Some (record { prelude = prelude; selectors = selectors; body = range s (s + length put); properties = declared i; media = h.media i }))

-- ---- the reading
reading_is : (text other put : List ℕ) (c : Cut) (own : List Token) (r : RuleForm) (q : RulePart) (rs : List RuleForm)
    (xs more : List Token)
    → (m : MovedParts text other c own (style_of put) r q None 0 (parts Top (pieces text)) (laid_out text None 0 (pieces text)) rs xs more)
    → pieces other ≡ flat m.parts → c ≡ body_cut r (length put)
    → sheet_of other ≡ moved_by (sheet_of text) (length rs) (style_of put) (length put) (Some r)
reading_is text other put c own r q rs xs more m is cuts =
    let parts_new : m.parts ≡ parts Top (pieces other) =
    parts_only Top m.parts (flat m.parts) (flat_parts Top m.parts m.all) ∙ ap (parts Top) (sym is) in
    let out_new : m.out ≡ laid_out other None 0 (pieces other) =
    laid_only other None 0 (pieces other) m.out (subst (λ (ps : List PartForm). AreLaid other None 0 ps m.out) parts_new m.are_laid) in
    let ls = laid_out text None 0 (pieces text) in
    let rules_new : rules_in other (laid_out other None 0 (pieces other)) ≡ moved_rules c (style_of put) (length rs) (rules_in text ls) =
    sym (ap (rules_in other) out_new) ∙ m.new_rules ∙ sym (moved_append c (style_of put) rs r m.rules)
    ∙ ap (moved_rules c (style_of put) (length rs)) (sym m.old_rules) in
    let media_new : media_in other (laid_out other None 0 (pieces other)) ≡ map (placed_media (moved_place c)) (media_in text ls) =
    sym (ap (media_in other) out_new) ∙ m.new_media in
    let places_new : places_in other (parts Top (pieces other)) ≡ map (moved_place c) (places_in text (parts Top (pieces text))) =
    sym (ap (places_in other) parts_new) ∙ m.new_places in
    let zero_stays : 0 ≡ moved_place c 0 = sym (stays c 0 (omega arith)) in
    (λ i. record { rules = rules_new i; places = zero_stays i ∷ places_new i; media = media_new i })
    ∙ ap (λ (d : Cut). record {
      rules = moved_rules d (style_of put) (length rs) (rules_in text ls);
      places = map (moved_place d) (0 ∷ places_in text (parts Top (pieces text)));
      media = map (placed_media (moved_place d)) (media_in text ls);
    }) cuts

new_pieces : (front body behind put : List ℕ) (q : RulePart) (xs more : List Token) → is_sealed put ≡ true → q.brace
    ≡ brace_at (length front)
    → IsWholeBefore (123 ∷ (body ++ behind)) 0 front xs → Tail front body put behind q.close more
    → pieces (with_body front put behind)
    ≡ xs ++ q.brace ∷ (own_pieces front put ++ (option_to_list (option_map (raised (far (cut_of front body put))) q.close)
    ++ map (raised (moved_place (cut_of front body put))) more))
unfolding own_pieces
new_pieces front body behind put q xs more sealed brace whole t =
    let s = length front + 1 in
    let put_pieces : pieces (put ++ behind) ≡ pieces put ++ pieces_after (length put) 0 behind =
    pieces_at behind put (pieces put) (sealed_whole put sealed behind t.stop) in
    let inner = pieces_from s (put ++ behind) ∙ ap (map (raised (λ x. s + x))) put_pieces
    ∙ map_append (raised (λ x. s + x)) (pieces put) (pieces_after (length put) 0 behind)
    ∙ ap (λ (zs : List Token). map (raised (λ x. s + x)) (pieces put) ++ zs) (sym (pieces_moved s (length put) 0 behind) ∙ t.pieces_are) in
    pieces_at (123 ∷ (put ++ behind)) front xs (whole_before 123 refl (body ++ behind) (put ++ behind) 0 front xs whole)
    ∙ ap (λ (zs : List Token). xs ++ zs)
    (piece_first (123 ∷ (put ++ behind)) (length front) _ (open_piece (put ++ behind)) (omega arith) (omega arith)
    ∙ (λ i. sym brace i ∷ inner i))

-- the law at a text that is taken apart
moved_at : (front body behind put : List ℕ) (r : RuleForm) (q : RulePart) (rs : List RuleForm) (xs more : List Token)
    → Path (with_body front body behind) r q None 0 (parts Top (pieces (with_body front body behind)))
    (laid_out (with_body front body behind) None 0 (pieces (with_body front body behind))) rs xs more
    → q.brace ≡ brace_at (length front) → IsWholeBefore (123 ∷ (body ++ behind)) 0 front xs
    → option_to_list q.close ++ more ≡ pieces_after (length front + 1 + length body) 0 behind
    → r.body ≡ range (length front + 1) (body_end (with_body front body behind) q.close) → is_sealed put ≡ true
    → sheet_of (replaced (with_body front body behind) r.body put)
    ≡ moved_by (sheet_of (with_body front body behind)) (length rs) (style_of put) (length put) (Some r)
moved_at front body behind put r q rs xs more path brace whole left own_body sealed =
    let text = with_body front body behind in
    let other = with_body front put behind in
    let c = cut_of front body put in
    let s = length front + 1 in
    let both = flat_of Top (parts Top (pieces text)) (pieces text) (parts_spelled Top (pieces text)) in
    let ends = path_ends text r q None 0 (parts Top (pieces text)) (laid_out text None 0 (pieces text)) rs xs more path Top both.1 in
    let over = path_over text r q None 0 (parts Top (pieces text)) (laid_out text None 0 (pieces text)) rs xs more path Top both.1 in
    let t = tail_of front body put behind q more ends.shut over left in
    let nested = own_nested front put sealed in
    let lead : AllTokens 0 s xs = widen 0 (0 + length front) 0 s xs (omega arith) (omega arith)
    (whole_tokens (123 ∷ (body ++ behind)) 0 front xs whole) in
    let m = moved_parts text other c (own_pieces front put) (style_of put) r q t.lo t.hi
    (front_same front body behind put) t.back ends nested
    (rule_again front body behind put q more r sealed brace t) t.place None 0 (parts Top (pieces text)) (laid_out text None 0 (pieces text))
    rs xs more path both.1 lead t.inside t.ended in
    let body_is : r.body ≡ range s (s + length body) = own_body ∙ ap (range s) t.old_end in
    let cuts : c ≡ body_cut r (length put) = λ i. record { start = (sym body_is i).start; end = (sym body_is i).end; size = length put } in
    ap (λ (x : Range). sheet_of (replaced text x put)) body_is ∙ ap sheet_of (replaced_is front body behind put)
    ∙ reading_is text other put c (own_pieces front put) r q rs xs more m
    (new_pieces front body behind put q xs more sealed brace whole t ∙ sym m.flat_is) cuts

-- the range of the rule's body
pub path_body : (text : List ℕ) (r : RuleForm) (q : RulePart) (around : Option ℕ) (k : ℕ) (ps : List PartForm) (ls : List Laid)
    (rs : List RuleForm) (xs more : List Token) → Path text r q around k ps ls rs xs more
    → r.body ≡ range q.brace.end (body_end text q.close)
unfolding rule_of
path_body text r q around k _ _ _ _ _ (here ps ls are e) =
    sym (head_of text around (words_after text false q.prelude) (range q.brace.end (body_end text q.close)) q.body r e).body
path_body text r q around k _ _ _ _ _ (past_part p ps ls rs xs more none path) = path_body text r q around k ps ls rs xs more path
path_body text r q around k _ _ _ _ _ (past_media p m inner ps within ls rs xs more is own inner_are path) =
    path_body text r q around (suc k + length (media_in text within)) ps ls rs xs more path
path_body text r q around k _ _ _ _ _ (in_media m first last inner ps within ls rs xs more is own path are) =
    path_body text r q (Some k) (suc k) inner within rs xs more path

pub moved_holds : (text put : List ℕ) (k : ℕ) (r : RuleForm) → slice_get (sheet_of text).rules k ≡ Some r → is_sealed put ≡ true
    → sheet_of (replaced text r.body put) ≡ moved_sheet (sheet_of text) k (style_of put) (length put)
moved_holds text put k r e sealed =
    let f = find text r None 0 (parts Top (pieces text)) (laid_out text None 0 (pieces text))
    (laid_spelled text None 0 (pieces text)) k e in
    let q = f.q in
    let both = flat_of Top (parts Top (pieces text)) (pieces text) (parts_spelled Top (pieces text)) in
    let is = both.0 ∙ path_flat text r q None 0 (parts Top (pieces text)) (laid_out text None 0 (pieces text)) f.rs f.xs f.more f.path in
    let ends = path_ends text r q None 0 (parts Top (pieces text))
    (laid_out text None 0 (pieces text)) f.rs f.xs f.more f.path Top both.1 in
    let a = apart text f.xs q.brace q.body (option_to_list q.close ++ f.more) is ends.kind in
    let own_body : r.body ≡ range (length a.front + 1) (body_end text q.close) =
    path_body text r q None 0 (parts Top (pieces text)) (laid_out text None 0 (pieces text)) f.rs f.xs f.more f.path
    ∙ ap (λ (u : Token). range u.end (body_end text q.close)) a.brace_is in
    let moves : sheet_of (replaced text r.body put) ≡ moved_by (sheet_of text) (length f.rs) (style_of put) (length put) (Some r) =
    subst (λ (t : List ℕ). Path t r q None 0 (parts Top (pieces t)) (laid_out t None 0 (pieces t)) f.rs f.xs f.more
    → r.body ≡ range (length a.front + 1) (body_end t q.close)
    → sheet_of (replaced t r.body put) ≡ moved_by (sheet_of t) (length f.rs) (style_of put) (length put) (Some r)) (sym a.is)
    (λ path own. moved_at a.front a.body a.behind put r q f.rs f.xs f.more path a.brace_is a.whole a.left own sealed) f.path own_body in
    moves ∙ ap (λ (j : ℕ). moved_by (sheet_of text) j (style_of put) (length put) (Some r)) f.number
    ∙ ap (moved_by (sheet_of text) k (style_of put) (length put)) (sym e)
