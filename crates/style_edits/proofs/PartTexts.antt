-- The text of the first part of a sheet, where the text's end does not cut it short.
use Rattle.std.proofs.Common.{◌≡◌, ℕ, ◌+◌, ◌-◌, ◌<◌, ◌≤◌, ◌==◌, ◌&&◌, nat_le, Bool, true, false, cond, List, [], ◌∷◌, ◌++◌, length}
use Rattle.std.proofs.Common.{take, drop, Option, Some, None, refl, sym, ap, subst, ◌∙◌, append_assoc, append-nil, length-append}
use Rattle.std.proofs.Common.{length-take, arith}
use Rattle.std.specs.Prelude.{IsSome, slice_index}
use Rattle.std.proofs.lemmas.Bool.{eqb-true}
use Rattle.std.proofs.lemmas.Bool.Decides.{nat_tests}
use Rattle.std.proofs.lemmas.List.{take-append-drop}
use Rattle.node_tree.specs.Numbers.{number_limit}
use Rattle.css_tokens.specs.declared.token.Token.{Token}
use Rattle.css_tokens.specs.declared.token.TokenKind.{TokenKind}
use Rattle.css_tokens.specs.declared.token.TokenKind.TheVariants as tokens
use Rattle.css_tokens.specs.Pieces.{pieces, pieces_after}
use Rattle.css_tokens.specs.Rows.{piece, first_piece}
use Rattle.css_tokens.specs.Seams.{IsWholeBefore}
use Rattle.css_tokens.proofs.Ends.{and_true}
use Rattle.css_tokens.proofs.SeamPieces.{pieces_at}
use Rattle.sheet_reader.specs.Grammar.{IsEnding, at_text_end, at_semicolon, in_block, in_open_block, IsRule, IsPart, passed_part}
use Rattle.sheet_reader.specs.Grammar.{at_rule_part, qualified_part}
use Rattle.sheet_reader.specs.Joins.{is_shut_part, ends_shut, is_shut_text}
use Rattle.sheet_reader.specs.Layout.{media_by, media_form, level_of, names_media}
use Rattle.sheet_reader.specs.Parts.{EndingForm, semicolon, block, PartForm, passed, at_rule, qualified, part_pieces, parts}
use Rattle.sheet_reader.specs.Sealing.{is_sealed}
use Rattle.sheet_reader.specs.Sheets.{is_closed_comment, passed_place, rule_of, place_of}
use Rattle.sheet_reader.proofs.GrammarForms.{parts_only}
use Rattle.sheet_reader.proofs.Raised.{flat}
use Rattle.sheet_reader.proofs.PartMoves.{cons_follows, values_rest}
use Rattle.sheet_reader.proofs.SealedCuts.{first_of, close_first, close_piece}
use Rattle.sheet_reader.proofs.JoinForms.{shut_rest}
use Rattle.sheet_reader.proofs.MarkTexts.{mark_part, semi_piece, semi_first}
use Rattle.sheet_reader.proofs.PassedTexts.{over, comment_closed}
use Rattle.style_edits.proofs.LoneRules.{OneRule}
use Rattle.style_edits.proofs.Fronts.{Fronts, passed_fronts, part_front}
use Rattle.style_edits.proofs.PassedPieces.{piece_front}
use Rattle.style_edits.proofs.ShutFronts.{shut_front}

-- the first part's text, behind which every text is read as it is alone
pub record FirstPart (text : List ℕ) (p : PartForm) (qs : List PartForm) : Type 0 where
  pub front : List ℕ
  pub after : List ℕ
  pub is : text ≡ front ++ after
  pub left : flat qs ≡ pieces_after (length front) 0 after
  pub place : (x : ℕ) → place_of text p ≡ Some x → x ≡ length front
  pub fronts : (other : List ℕ) → Fronts front other

-- ---- pieces that are passed over

-- where one ends
passed_ends : (kind : TokenKind) (text : List ℕ) (t : Token) (n : ℕ) → passed_place text t kind ≡ Some n → t.end ≡ n
passed_ends tokens.Comment text t n e = by (is_closed_comment text t) e
  where
    by : (b : Bool) → cond b (Some t.end) None ≡ Some n → t.end ≡ n
    by true h = cc
    by false h = absurd (cc)
passed_ends _ text t n e = cc

-- a comment at the end of a text that has its `*/`
marked : (text : List ℕ) (t : Token) (k : TokenKind) → k ≡ tokens.Comment → t.start ≡ 0 → t.end ≡ length text
    → IsSome (passed_place text t k)
    → (4 ≤ length text) × (slice_index text (length text - 2) ≡ 42) × (slice_index text (length text - 1) ≡ 47)
marked text t tokens.Comment e start end some = by (is_closed_comment text t) refl some
  where
    by : (b : Bool) → is_closed_comment text t ≡ b → IsSome (cond b (Some t.end) None)
        → (4 ≤ length text) × (slice_index text (length text - 2) ≡ 42) × (slice_index text (length text - 1) ≡ 47)
    by false is h = absurd (cc)
    by true is h =
        let a = and_true (nat_le (t.start + 4) t.end) (slice_index text (t.end - 2) == 42 && slice_index text (t.end - 1) == 47) is in
        let b = and_true (slice_index text (t.end - 2) == 42) (slice_index text (t.end - 1) == 47) a.1 in
        let fits : t.start + 4 ≤ t.end = grind (arith, nat_tests, a.0) in (
          omega (arith, fits, start, end),
          ap (λ (n : ℕ). slice_index text (n - 2)) (sym end) ∙ eqb-true (slice_index text (t.end - 2)) 42 b.0,
          ap (λ (n : ℕ). slice_index text (n - 1)) (sym end) ∙ eqb-true (slice_index text (t.end - 1)) 47 b.1,
        )
marked text t _ e start end some = absurd (cc)

no_pieces_left : (place : ℕ) → pieces_after place 0 [] ≡ []
unfolding pieces_after
no_pieces_left place = refl

passed_first : (text : List ℕ) (t : Token) (qs : List PartForm) → pieces text ≡ t ∷ flat qs → over t.kind ≡ true
    → (flat qs ≡ [] → IsSome (place_of text (passed t))) → FirstPart text (passed t) qs
unfolding place_of
passed_first text t qs cuts h whole =
    let f = first_of text 0 t (flat qs) cuts in
    let n = f.p.len in
    let front = take n text in
    let after = drop n text in
    let size : length front ≡ n = omega (arith, length-take n text, f.fits) in
    let zero_is : 0 + n ≡ n = omega arith in
    let kind : f.p.kind ≡ t.kind = ap (λ (u : Token). u.kind) f.head in
    let start : t.start ≡ 0 = sym (ap (λ (u : Token). u.start) f.head) in
    let end : t.end ≡ length front = sym (ap (λ (u : Token). u.end) f.head) ∙ zero_is ∙ sym size in
    let is : front ++ after ≡ text = take-append-drop n text in
    let found : first_piece (front ++ after) ≡ Some (piece t.kind (length front)) =
    ap first_piece is ∙ f.found ∙ (λ i. Some (piece (kind i) (sym size i))) in
    let left : flat qs ≡ pieces_after (length front) 0 after =
    sym f.more ∙ ap (λ (m : ℕ). pieces_after m 0 after) (zero_is ∙ sym size) in
    record {
      front = front;
      after = after;
      is = sym is;
      left = left;
      place = λ x e. sym (passed_ends t.kind text t x e) ∙ end;
      fronts = λ other. passed_fronts front other (piece_front front after t.kind found h
          (comment_closed front after t.kind found h (λ c none. last front after is end start left none c)) other);
    }
  where
    last : (front after : List ℕ) → front ++ after ≡ text → t.end ≡ length front → t.start ≡ 0
        → flat qs ≡ pieces_after (length front) 0 after → after ≡ [] → t.kind ≡ tokens.Comment
        → (4 ≤ length front) × (slice_index front (length front - 2) ≡ 42) × (slice_index front (length front - 1) ≡ 47)
    last front after is end start left none c =
        let same : front ≡ text = sym (append-nil front) ∙ sym (ap (λ (x : List ℕ). front ++ x) none) ∙ is in
        let no_more : flat qs ≡ [] = left ∙ ap (pieces_after (length front) 0) none ∙ no_pieces_left (length front) in
        subst (λ (x : List ℕ). (4 ≤ length x) × (slice_index x (length x - 2) ≡ 42) × (slice_index x (length x - 1) ≡ 47)) (sym same)
        (marked text t t.kind c start (end ∙ ap (λ (x : List ℕ). length x) same) (whole no_more))

-- ---- parts that end with a mark

-- a rule that ends with a semicolon is one whatever stands behind it
semi_kind : (t : Token) (rest : List Token) → IsEnding (semicolon t) rest → t.kind ≡ tokens.Semicolon
semi_kind _ rest (at_semicolon t kind) = kind

semi_rest : {stop : _} (prelude : List Token) (t : Token) (rest other : List Token) → IsRule stop prelude (semicolon t) rest
    → IsRule stop prelude (semicolon t) other
semi_rest prelude t rest other r = record {
  values = values_rest _ prelude (t ∷ rest) (t ∷ other) (cons_follows t rest) r.values;
  stopped = r.stopped;
  ends = at_semicolon t (semi_kind t rest r.ends);
}

at_rule_rest : (keyword : Token) (prelude : List Token) (t : Token) (rest other : List Token)
    → IsPart (level_of None) (at_rule keyword prelude (semicolon t)) rest
    → IsPart (level_of None) (at_rule keyword prelude (semicolon t)) other
at_rule_rest keyword prelude t rest other (at_rule_part _ _ _ e r) =
    at_rule_part keyword prelude (semicolon t) e (semi_rest prelude t rest other r)

qualified_rest : (prelude : List Token) (t : Token) (rest other : List Token)
    → IsPart (level_of None) (qualified prelude (semicolon t)) rest → IsPart (level_of None) (qualified prelude (semicolon t)) other
qualified_rest prelude t rest other (qualified_part _ _ begins r) =
    qualified_part prelude (semicolon t) begins (semi_rest prelude t rest other r)

no_media : (keyword : Token) (prelude : List Token) (t : Token) (text : List ℕ)
    → media_form text (at_rule keyword prelude (semicolon t)) ≡ None
unfolding media_form
no_media keyword prelude t text = by (names_media text keyword keyword.kind)
  where
    by : (b : Bool) → cond b (media_by keyword prelude (semicolon t)) None ≡ None
    by true = refl
    by false = refl

-- the pieces up to a mark that ends the part
cut_at : (text : List ℕ) (p : PartForm) (us : List Token) (t : Token) (qs : List PartForm) → pieces text ≡ flat (p ∷ qs)
    → us ++ t ∷ [] ≡ part_pieces p → pieces text ≡ us ++ t ∷ flat qs
cut_at text p us t qs cuts own = cuts ∙ ap (λ (ts : List Token). ts ++ flat qs) (sym own) ∙ append_assoc us (t ∷ []) (flat qs)

-- a part that ends with a semicolon
semi_part : (text : List ℕ) (p : PartForm) (us : List Token) (t : Token) (qs : List PartForm) → pieces text ≡ flat (p ∷ qs)
    → us ++ t ∷ [] ≡ part_pieces p → t.kind ≡ tokens.Semicolon → ((rest : List Token) → IsPart (level_of None) p rest)
    → ((other : List ℕ) → media_form other p ≡ None) → ((other : List ℕ) → rule_of other None p ≡ None)
    → ((x : ℕ) → place_of text p ≡ Some x → x ≡ t.end) → FirstPart text p qs
semi_part text p us t qs cuts own kind is_part none_media no_rule place =
    let m = mark_part 59 tokens.Semicolon refl semi_piece semi_first text us t (flat qs) (cut_at text p us t qs cuts own) kind in
    record {
      front = m.front;
      after = m.after;
      is = m.is;
      left = m.left;
      place = λ x e. place x e ∙ m.end;
      fronts = λ other. passed_fronts m.front other
          (part_front m.front other p (subst (λ (ts : List Token). IsWholeBefore other 0 m.front ts) own (m.whole other)) is_part
          (none_media (m.front ++ other)) (no_rule (m.front ++ other)));
    }

-- a part with a block that has its `}`
block_part : (put : List ℕ) → OneRule put → is_sealed put ≡ true → (text : List ℕ) → length text + 0 < number_limit → (p : PartForm)
    (us : List Token) (t : Token) (qs : List PartForm) → pieces text ≡ flat (p ∷ qs) → us ++ t ∷ [] ≡ part_pieces p
    → t.kind ≡ tokens.CloseCurly → IsPart (level_of None) p (flat qs) → is_shut_part p ≡ true
    → ((x : ℕ) → place_of text p ≡ Some x → x ≡ t.end) → FirstPart text p qs
block_part put o sealed text small p us t qs cuts own kind is_part shut place =
    let m = mark_part 125 tokens.CloseCurly refl close_piece close_first text us t (flat qs) (cut_at text p us t qs cuts own) kind in
    let alone : pieces m.front ≡ part_pieces p =
    ap pieces (sym (append-nil m.front)) ∙ pieces_at [] m.front (us ++ t ∷ []) (m.whole [])
    ∙ ap (λ (ts : List Token). (us ++ t ∷ []) ++ ts) (no_pieces_left (length m.front)) ∙ append-nil (us ++ t ∷ []) ∙ own in
    let one : p ∷ [] ≡ parts (level_of None) (pieces m.front) =
    parts_only (level_of None) (p ∷ []) (pieces m.front)
    ([], alone ∙ sym (append-nil (part_pieces p)), shut_rest (level_of None) p (flat qs) [] shut is_part, refl) in
    let is_shut : is_shut_text m.front ≡ true = ap ends_shut (sym one) ∙ shut in
    let fits : length m.front + 0 < number_limit = omega (arith, small, ap length m.is, length-append m.front m.after) in
    record {
      front = m.front;
      after = m.after;
      is = m.is;
      left = m.left;
      place = λ x e. place x e ∙ m.end;
      fronts = λ other. shut_front m.front other put fits o sealed is_shut;
    }

some_is : (a b : ℕ) → ◌≡◌ {A = Option ℕ} (Some a) (Some b) → b ≡ a
some_is a b e = let same : a ≡ b = cc in sym same

no_some : IsSome {T = ℕ} None → ⊥
no_some e = absurd (cc)

-- each part that the text's end does not cut short
pub first_part : (put : List ℕ) → OneRule put → is_sealed put ≡ true → (text : List ℕ) → length text + 0 < number_limit → (p : PartForm)
    (qs : List PartForm) → pieces text ≡ flat (p ∷ qs) → IsPart (level_of None) p (flat qs)
    → (flat qs ≡ [] → IsSome (place_of text p)) → FirstPart text p qs
unfolding place_of rule_of media_form
first_part put o sealed text small _ qs cuts (passed_part t e) whole = passed_first text t qs cuts e whole
first_part put o sealed text small _ qs cuts (at_rule_part keyword prelude ending e r) whole =
    by r.ends cuts (at_rule_part keyword prelude ending e r) whole
  where
    by : {ending : EndingForm} → IsEnding ending (flat qs) → pieces text ≡ flat (at_rule keyword prelude ending ∷ qs)
        → IsPart (level_of None) (at_rule keyword prelude ending) (flat qs)
        → (flat qs ≡ [] → IsSome (place_of text (at_rule keyword prelude ending))) → FirstPart text (at_rule keyword prelude ending) qs
    by (at_text_end over) cuts is whole = absurd (no_some (whole over))
    by (in_open_block first within kind own over) cuts is whole = absurd (no_some (whole over))
    by (at_semicolon t kind) cuts is whole =
        semi_part text (at_rule keyword prelude (semicolon t)) (keyword ∷ prelude) t qs cuts refl kind
        (λ rest. at_rule_rest keyword prelude t (flat qs) rest is) (no_media keyword prelude t) (λ other. refl)
        (λ x h. some_is t.end x h)
    by (in_block first close within kind own closed) cuts is whole =
        block_part put o sealed text small (at_rule keyword prelude (block first within (Some close)))
        (keyword ∷ (prelude ++ first ∷ within)) close qs cuts
        (ap (λ (ts : List Token). keyword ∷ ts) (append_assoc prelude (first ∷ within) (close ∷ []))) closed is refl
        (λ x h. some_is close.end x h)
first_part put o sealed text small _ qs cuts (qualified_part prelude ending begins r) whole =
    by r.ends cuts (qualified_part prelude ending begins r) whole
  where
    by : {ending : EndingForm} → IsEnding ending (flat qs) → pieces text ≡ flat (qualified prelude ending ∷ qs)
        → IsPart (level_of None) (qualified prelude ending) (flat qs)
        → (flat qs ≡ [] → IsSome (place_of text (qualified prelude ending))) → FirstPart text (qualified prelude ending) qs
    by (at_text_end over) cuts is whole = absurd (no_some (whole over))
    by (in_open_block first within kind own over) cuts is whole = absurd (no_some (whole over))
    by (at_semicolon t kind) cuts is whole =
        semi_part text (qualified prelude (semicolon t)) prelude t qs cuts refl kind
        (λ rest. qualified_rest prelude t (flat qs) rest is) (λ other. refl) (λ other. refl)
        (λ x h. some_is t.end x h)
    by (in_block first close within kind own closed) cuts is whole =
        block_part put o sealed text small (qualified prelude (block first within (Some close)))
        (prelude ++ first ∷ within) close qs cuts (append_assoc prelude (first ∷ within) (close ∷ [])) closed is refl
        (λ x h. some_is close.end x h)
