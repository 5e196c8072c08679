-- Where a text ends with a rule, what stands behind it is read as it is alone.
use Rattle.std.proofs.Common.{◌≡◌, inl, inr, ℕ, ◌+◌, true, List, [], ◌∷◌, ◌++◌, map, length}
use Rattle.std.proofs.Common.{None, refl, sym, ap, subst, ◌∙◌, length-append, arith}
use Rattle.std.proofs.lemmas.List.{append-nil}
use Rattle.css_tokens.specs.declared.token.Token.{Token}
use Rattle.css_tokens.specs.declared.token.TokenKind.TheVariants as tokens
use Rattle.css_tokens.specs.Rows.{piece}
use Rattle.css_tokens.specs.Pieces.{pieces, pieces_after}
use Rattle.css_tokens.specs.Seams.{IsWholeBefore, no_more}
use Rattle.css_tokens.proofs.SeamPieces.{pieces_at, whole_before}
use Rattle.selectors.specs.Moves.{placed_selector}
use Rattle.sheet_reader.specs.declared.parts.Level.TheVariants.{Top}
use Rattle.sheet_reader.specs.Forms.{RuleForm}
use Rattle.sheet_reader.specs.Grammar.{AreShut}
use Rattle.sheet_reader.specs.Parts.{PartForm, parts}
use Rattle.sheet_reader.specs.Layout.{media_in, Laid, laid_out, AreLaid}
use Rattle.sheet_reader.specs.Joins.{is_shut_text, behind_rule, behind_media, joined}
use Rattle.sheet_reader.specs.Moves.{placed_property, placed_media, placed_rule}
use Rattle.sheet_reader.specs.Sheets.{rules_in, places_in, sheet_of}
use Rattle.sheet_reader.proofs.Raised.{raised, raised_part, raised_laid, flat}
use Rattle.sheet_reader.proofs.GrammarForms.{parts_only, parts_spelled}
use Rattle.sheet_reader.proofs.LayoutForms.{laid_spelled, laid_only}
use Rattle.sheet_reader.proofs.FrameForms.{media_append}
use Rattle.sheet_reader.proofs.UsableForms.{rules_append}
use Rattle.sheet_reader.proofs.SealedCuts.{split_at, no_pieces, close_first, close_piece, one_more}
use Rattle.sheet_reader.proofs.PartMoves.{AreFlat, flat_of, flat_parts}
use Rattle.sheet_reader.proofs.WordMoves.{SamePart}
use Rattle.sheet_reader.proofs.ReadMoves.{AllTokens, rules_same, media_same, places_same}
use Rattle.sheet_reader.proofs.TextMoves.{pieces_from, whole_tokens, widen, same_part}
use Rattle.sheet_reader.proofs.LaidMoves.{laid_in, laid_again, flat_raised, flat_again, parts_kept, laid_kept, laid_shut, any_moved}
use Rattle.sheet_reader.proofs.JoinForms.{flat_append, flat_join, all_shut, parts_close, laid_join, numbered, rule_numbered}
use Rattle.sheet_reader.proofs.JoinForms.{media_numbered, rules_numbered, medias_numbered, laid_numbered, places_append}

-- a text whose last piece is a `}` is whole before anything
pub closed_whole : (t : List ℕ) (us : List Token) (c : Token) → pieces t ≡ us ++ c ∷ [] → c.kind ≡ tokens.CloseCurly → (after : List ℕ)
    → IsWholeBefore after 0 t (pieces t)
closed_whole t us c is kind after =
    let s = split_at us (c ∷ []) 0 t is in
    let m = close_first s.after (0 + length s.front) c [] kind (sym s.left) in
    let none : m.behind ≡ [] = no_pieces m.behind (0 + length s.front + 1) m.more in
    let last : s.after ≡ 125 ∷ [] = m.is ∙ ap (λ (x : List ℕ). 125 ∷ x) none in
    let seam : IsWholeBefore (125 ∷ after) 0 s.front us = whole_before 125 refl [] after 0 s.front us
    (subst (λ (x : List ℕ). IsWholeBefore x 0 s.front us) last s.whole) in
    let token : ◌≡◌ {A = Token} (record { kind = tokens.CloseCurly; start = 0 + length s.front; end = 0 + length s.front + 1 }) c =
    λ i. record { kind = sym kind i; start = sym m.start i; end = sym m.end i } in
    let own : us ++ (record { kind = tokens.CloseCurly; start = 0 + length s.front; end = 0 + length s.front + 1 }) ∷ [] ≡ pieces t =
    ap (λ (u : Token). us ++ u ∷ []) token ∙ sym is in
    subst (λ (x : List ℕ). IsWholeBefore after 0 x (pieces t)) (sym (s.is ∙ ap (λ (x : List ℕ). s.front ++ x) last))
    (subst (IsWholeBefore after 0 (s.front ++ 125 ∷ [])) own
    (one_more after (125 ∷ []) (piece tokens.CloseCurly 1) 0 s.front us seam refl (close_piece after)))

-- a text that ends with a rule is whole before anything
pub shut_whole : (text : List ℕ) → is_shut_text text ≡ true → (after : List ℕ) → IsWholeBefore after 0 text (pieces text)
unfolding pieces_after
shut_whole text shut after =
    let both = flat_of Top (parts Top (pieces text)) (pieces text) (parts_spelled Top (pieces text)) in
    elim (parts_close Top (parts Top (pieces text)) shut both.1) [
      | inl none ↦
          let empty : pieces text ≡ [] = both.0 ∙ ap flat none in
          let gone : text ≡ [] = no_pieces text 0 empty in
          subst (λ (t : List ℕ). IsWholeBefore after 0 t (pieces t)) (sym gone) no_more
      | inr l ↦ closed_whole text l.front l.close (both.0 ∙ l.is) l.kind after
    ]

-- ---- nothing moves
pub same_list : {X : Type 0} (f : X → X) → ((x : X) → f x ≡ x) → (xs : List X) → map f xs ≡ xs
same_list f e [] = refl
same_list f e (x ∷ xs) = let a = e x in let more = same_list f e xs in λ i. a i ∷ more i

pub same_rule : (r : RuleForm) → placed_rule (λ x. x) r ≡ r
same_rule r =
    let ss = same_list (placed_selector (λ x. x)) (λ s. refl) r.selectors in
    let ps = same_list (placed_property (λ x. x)) (λ p. refl) r.properties in
    λ i. record { prelude = r.prelude; selectors = ss i; body = r.body; properties = ps i; media = r.media }

pub map_both : {X : Type 0} (f g h : X → X) → ((x : X) → f (g x) ≡ h x) → (xs : List X) → map f (map g xs) ≡ map h xs
map_both f g h e [] = refl
map_both f g h e (x ∷ xs) = let a = e x in let more = map_both f g h e xs in λ i. a i ∷ more i

-- ---- the two texts in the one
front_same : (text other : List ℕ) → SamePart text (text ++ other) (λ x. x) 0 (length text)
front_same text other =
    let both : SamePart ([] ++ (text ++ [])) ([] ++ (text ++ other)) (λ x. x) 0 (0 + length text) =
    same_part [] text [] [] other (λ x. x) (λ x fits. refl) in
    let at : 0 + length text ≡ length text = omega arith in
    subst (λ (n : ℕ). SamePart text (text ++ other) (λ x. x) 0 n) at
    (subst (λ (t : List ℕ). SamePart t (text ++ other) (λ x. x) 0 (0 + length text)) (append-nil text) both)

behind_same : (text other : List ℕ) → SamePart other (text ++ other) (λ x. length text + x) 0 (length other)
behind_same text other =
    let both : SamePart ([] ++ (other ++ [])) (text ++ (other ++ [])) (λ x. length text + x) 0 (0 + length other) =
    same_part [] other [] text [] (λ x. length text + x) (λ x fits. let z : 0 + x ≡ x = omega arith in ap (λ (m : ℕ). length text + m) z) in
    let at : 0 + length other ≡ length other = omega arith in
    subst (λ (n : ℕ). SamePart other (text ++ other) (λ x. length text + x) 0 n) at
    (subst (λ (t : List ℕ). SamePart t (text ++ other) (λ x. length text + x) 0 (0 + length other)) (append-nil other)
    (subst (λ (t : List ℕ). SamePart (other ++ []) (text ++ t) (λ x. length text + x) 0 (0 + length other)) (append-nil other) both))

-- what a text says in front of another
record InFront (text other : List ℕ) : Type 0 where
  laid_there : AreLaid (text ++ other) None 0 (parts Top (pieces text)) (laid_out text None 0 (pieces text))
  rules : rules_in (text ++ other) (laid_out text None 0 (pieces text)) ≡ rules_in text (laid_out text None 0 (pieces text))
  media : media_in (text ++ other) (laid_out text None 0 (pieces text)) ≡ media_in text (laid_out text None 0 (pieces text))
  places : places_in (text ++ other) (parts Top (pieces text)) ≡ places_in text (parts Top (pieces text))

pub all_there : (after text : List ℕ) → IsWholeBefore after 0 text (pieces text) → AllTokens 0 (length text) (pieces text)
all_there after text whole =
    widen 0 (0 + length text) 0 (length text) (pieces text) (omega arith) (omega arith) (whole_tokens after 0 text (pieces text) whole)

in_front : (text other : List ℕ) → IsWholeBefore other 0 text (pieces text) → AreShut (parts Top (pieces text)) → InFront text other
in_front text other whole shut =
    let n = length text in
    let ps = parts Top (pieces text) in
    let ls = laid_out text None 0 (pieces text) in
    let both = flat_of Top ps (pieces text) (parts_spelled Top (pieces text)) in
    let all : AllTokens 0 n (flat ps) = subst (AllTokens 0 n) both.0 (all_there other text whole) in
    let same = front_same text other in
    let are = laid_spelled text None 0 (pieces text) in
    let laid_all = laid_in 0 n text None 0 ps ls are all in
    let moved = laid_shut text (text ++ other) (λ x. x) None 0 ps ls are Top both.1 shut in
    let parts_stay = parts_kept (λ x. x) 0 n (λ x a b. refl) ps all in
    let laid_stay = laid_kept (λ x. x) 0 n (λ x a b. refl) ls laid_all in
    record {
      laid_there = subst (AreLaid (text ++ other) None 0 ps) laid_stay
          (subst (λ (qs : List PartForm). AreLaid (text ++ other) None 0 qs (map (raised_laid (λ x. x)) ls)) parts_stay
          (laid_again text (text ++ other) (λ x. x) 0 n same None 0 ps ls are all));
      rules = sym (ap (rules_in (text ++ other)) laid_stay) ∙ rules_same text (text ++ other) (λ x. x) 0 n same ls laid_all moved
          ∙ same_list (placed_rule (λ x. x)) same_rule (rules_in text ls);
      media = sym (ap (media_in (text ++ other)) laid_stay) ∙ media_same text (text ++ other) (λ x. x) 0 n same ls laid_all
          ∙ same_list (placed_media (λ x. x)) (λ m. refl) (media_in text ls);
      places = sym (ap (places_in (text ++ other)) parts_stay) ∙ places_same text (text ++ other) (λ x. x) 0 n same ps all
          ∙ same_list (λ x. x) (λ x. refl) (places_in text ps);
    }

-- alone a text has whole pieces
pub whole_alone : (text : List ℕ) → IsWholeBefore [] 0 text (pieces text)
whole_alone text =
    let s = split_at (pieces text) [] 0 text (sym (append-nil (pieces text))) in
    let none : s.after ≡ [] = no_pieces s.after (0 + length s.front) (sym s.left) in
    let is : s.front ≡ text = sym (append-nil s.front) ∙ sym (ap (λ (x : List ℕ). s.front ++ x) none) ∙ sym s.is in
    subst (λ (x : List ℕ). IsWholeBefore [] 0 x (pieces text)) is
    (subst (λ (x : List ℕ). IsWholeBefore x 0 s.front (pieces text)) none s.whole)

-- what a text says behind another, and behind k media rules
record Behind (text other : List ℕ) (k : ℕ) : Type 0 where
  qs : List PartForm
  ms : List Laid
  flat_is : flat qs ≡ map (raised (λ x. length text + x)) (pieces other)
  all : AreFlat Top qs
  laid_there : AreLaid (text ++ other) None k qs ms
  rules : rules_in (text ++ other) ms ≡ map (behind_rule (length text) k) (rules_in other (laid_out other None 0 (pieces other)))
  media : media_in (text ++ other) ms ≡ map (behind_media (length text) k) (media_in other (laid_out other None 0 (pieces other)))
  places : places_in (text ++ other) qs ≡ map (λ x. length text + x) (places_in other (parts Top (pieces other)))

behind : (text other : List ℕ) (k : ℕ) → Behind text other k
behind text other k =
    let n = length other in
    let f = λ (x : ℕ). length text + x in
    let ps = parts Top (pieces other) in
    let ls = laid_out other None 0 (pieces other) in
    let both = flat_of Top ps (pieces other) (parts_spelled Top (pieces other)) in
    let all : AllTokens 0 n (flat ps) = subst (AllTokens 0 n) both.0 (all_there [] other (whole_alone other)) in
    let same = behind_same text other in
    let are = laid_spelled other None 0 (pieces other) in
    let laid_all = laid_in 0 n other None 0 ps ls are all in
    let ended : f (length other) ≡ length (text ++ other) = sym (length-append text other) in
    let moved = any_moved other (text ++ other) f ended ls in
    let there = laid_numbered (text ++ other) k None 0 (map (raised_part f) ps) (map (raised_laid f) ls)
    (laid_again other (text ++ other) f 0 n same None 0 ps ls are all) in
    let zero_is : k + 0 ≡ k = omega arith in
    record {
      qs = map (raised_part f) ps;
      ms = map (numbered k) (map (raised_laid f) ls);
      flat_is = flat_raised f ps ∙ ap (map (raised f)) (sym both.0);
      all = flat_again Top f ps both.1;
      laid_there = subst (λ (j : ℕ). AreLaid (text ++ other) None j (map (raised_part f) ps) (map (numbered k) (map (raised_laid f) ls)))
          zero_is there;
      rules = rules_numbered (text ++ other) k (map (raised_laid f) ls)
          ∙ ap (map (rule_numbered k)) (rules_same other (text ++ other) f 0 n same ls laid_all moved)
          ∙ map_both (rule_numbered k) (placed_rule f) (behind_rule (length text) k) (λ r. refl) (rules_in other ls);
      media = medias_numbered (text ++ other) k (map (raised_laid f) ls)
          ∙ ap (map (media_numbered k)) (media_same other (text ++ other) f 0 n same ls laid_all)
          ∙ map_both (media_numbered k) (placed_media f) (behind_media (length text) k) (λ m. refl) (media_in other ls);
      places = places_same other (text ++ other) f 0 n same ps all;
    }

-- a text that is whole before another, of parts that are parts before others too
pub joined_whole : (text other : List ℕ) → IsWholeBefore other 0 text (pieces text) → AreShut (parts Top (pieces text))
    → ((qs : List PartForm) → AreFlat Top qs → AreFlat Top (parts Top (pieces text) ++ qs))
    → sheet_of (text ++ other) ≡ joined (length text) (sheet_of text) (sheet_of other)
joined_whole text other whole shut join =
    let both_texts = text ++ other in
    let n = length text in
    let ps = parts Top (pieces text) in
    let ls = laid_out text None 0 (pieces text) in
    let k = length (media_in text ls) in
    let a = in_front text other whole shut in
    let b = behind text other k in
    let both = flat_of Top ps (pieces text) (parts_spelled Top (pieces text)) in
    let tokens : pieces both_texts ≡ flat (ps ++ b.qs) =
    pieces_at other text (pieces text) whole
    ∙ ap (λ (ts : List Token). pieces text ++ ts) (pieces_from n other ∙ sym b.flat_is)
    ∙ ap (λ (ts : List Token). ts ++ flat b.qs) both.0 ∙ sym (flat_append ps b.qs) in
    let new_parts : ps ++ b.qs ≡ parts Top (pieces both_texts) =
    parts_only Top (ps ++ b.qs) (flat (ps ++ b.qs)) (flat_parts Top (ps ++ b.qs) (join b.qs b.all))
    ∙ ap (parts Top) (sym tokens) in
    let count : 0 + length (media_in both_texts ls) ≡ k = omega (arith, ap length a.media) in
    let new_laid : ls ++ b.ms ≡ laid_out both_texts None 0 (pieces both_texts) =
    laid_only both_texts None 0 (pieces both_texts) (ls ++ b.ms)
    (subst (λ (qs : List PartForm). AreLaid both_texts None 0 qs (ls ++ b.ms)) new_parts
    (laid_join both_texts None 0 k ps b.qs ls b.ms a.laid_there count b.laid_there)) in
    let rules = sym (ap (rules_in both_texts) new_laid) ∙ rules_append both_texts ls b.ms ∙ (λ i. a.rules i ++ b.rules i) in
    let media = sym (ap (media_in both_texts) new_laid) ∙ media_append both_texts ls b.ms ∙ (λ i. a.media i ++ b.media i) in
    let places = sym (ap (places_in both_texts) new_parts) ∙ places_append both_texts ps b.qs ∙ (λ i. a.places i ++ b.places i) in
    λ i. record { rules = rules i; places = 0 ∷ places i; media = media i }

pub joined_holds : (text other : List ℕ) → is_shut_text text ≡ true
    → sheet_of (text ++ other) ≡ joined (length text) (sheet_of text) (sheet_of other)
joined_holds text other shut =
    let ps = parts Top (pieces text) in
    let both = flat_of Top ps (pieces text) (parts_spelled Top (pieces text)) in
    joined_whole text other (shut_whole text shut other) (all_shut Top ps shut both.1) (λ qs all. flat_join Top ps qs shut both.1 all)
