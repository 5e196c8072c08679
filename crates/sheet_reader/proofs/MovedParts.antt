-- The parts of a sheet where the body of one rule is replaced, through the media rules around it.
use Rattle.std.proofs.Common.{◌≡◌, ◌⊎◌, inl, inr, ℕ, suc, ◌+◌, ◌-◌, Bool, true, false, cond, List, [], ◌∷◌, ◌++◌, map, length}
use Rattle.std.proofs.Common.{Option, Some, None, refl, sym, ap, subst, ◌∙◌, append_assoc}
use Rattle.std.specs.Prelude.{option_map, option_to_list}
use Rattle.std.proofs.lemmas.List.{append-nil}
use Rattle.css_tokens.specs.declared.token.Token.{Token}
use Rattle.selectors.specs.Moves.{Cut, moved_place}
use Rattle.sheet_reader.specs.declared.sheet.Property.{Property}
use Rattle.sheet_reader.specs.declared.sheet.MediaRule.{MediaRule}
use Rattle.sheet_reader.specs.declared.parts.Level.{Level}
use Rattle.sheet_reader.specs.declared.parts.Level.TheVariants.{Inner}
use Rattle.sheet_reader.specs.declared.brackets.Stop.TheVariants as stops
use Rattle.sheet_reader.specs.Forms.{RuleForm}
use Rattle.sheet_reader.specs.Parts.{block, PartForm, at_rule, part_pieces}
use Rattle.sheet_reader.specs.Layout.{names_media, MediaForm, media_form, media_rule, media_in, Laid, laid, level_of}
use Rattle.sheet_reader.specs.Layout.{AreLaid, part_laid, media_laid}
use Rattle.sheet_reader.specs.Sheets.{rule_of, closing_place, place_of, rules_in, places_in}
use Rattle.sheet_reader.specs.Grammar.{outside, IsEnding, IsPart, at_rule_part, AreNested}
use Rattle.sheet_reader.proofs.Raised.{raised, raised_part, raised_laid, raised_media, flat}
use Rattle.sheet_reader.specs.Moves.{placed_media, placed_rule, rebodied}
use Rattle.sheet_reader.proofs.FrameForms.{media_append, media_cons}
use Rattle.sheet_reader.proofs.UsableForms.{rules_append, no_rule}
use Rattle.sheet_reader.proofs.PartMoves.{AreFlat, flat_of, flat_parts, cons_follows, values_rest, part_rest, new_rule, to_list_raised}
use Rattle.sheet_reader.proofs.PartMoves.{map_append, map_length}
use Rattle.sheet_reader.proofs.WordMoves.{SamePart}
use Rattle.sheet_reader.proofs.ReadMoves.{AllTokens, tokens_split, LaidIn, LaidMoved, form_in, names_same, rules_same}
use Rattle.sheet_reader.proofs.ReadMoves.{media_same}
use Rattle.sheet_reader.proofs.ReadMoves.{media_rule_same, places_same}
use Rattle.sheet_reader.proofs.BlockMoves.{ends_again}
use Rattle.sheet_reader.proofs.KeptFronts.{keep, front_rules, front_media, front_places, form_kept, media_kept, laid_stays}
use Rattle.sheet_reader.proofs.LaidMoves.{laid_in, laid_again, flat_raised, flat_again, token_kept, tokens_kept}
use Rattle.sheet_reader.proofs.LaidMoves.{part_shut, shut_moved, media_shut, laid_shut, none_behind}
use Rattle.sheet_reader.proofs.RulePaths.{RulePart, rule_part, Path, here, past_part, past_media, in_media, path_flat, path_over, RuleEnds}
use Rattle.sheet_reader.proofs.RulePaths.{nested_flat}

-- a place behind the cut, or at its end
abbrev pub far : Cut → ℕ → ℕ
far c x = x - c.end + c.start + c.size

-- the rule with these pieces for its body
abbrev pub new_part : Cut → List Token → RulePart → RulePart
new_part c own q = record { prelude = q.prelude; brace = q.brace; body = own; close = option_map (raised (far c)) q.close }

-- parts with the new body, and what is laid out from them
pub record MovedParts (text other : List ℕ) (c : Cut) (own : List Token) (declared : List Property) (r : RuleForm) (q : RulePart)
    (around : Option ℕ) (k : ℕ) (ps : List PartForm) (ls : List Laid) (rs : List RuleForm) (xs more : List Token) : Type 0 where
  pub parts : List PartForm
  pub out : List Laid
  pub rules : List RuleForm
  pub flat_is : flat parts
      ≡ xs ++ q.brace ∷ (own ++ (option_to_list (option_map (raised (far c)) q.close) ++ map (raised (moved_place c)) more))
  pub all : AreFlat (level_of around) parts
  pub are_laid : AreLaid other around k parts out
  pub old_rules : rules_in text ls ≡ rs ++ r ∷ rules
  pub new_rules : rules_in other out
      ≡ map (placed_rule (moved_place c)) rs ++ rebodied c declared r ∷ map (placed_rule (moved_place c)) rules
  pub new_media : media_in other out ≡ map (placed_media (moved_place c)) (media_in text ls)
  pub new_places : places_in other parts ≡ map (moved_place c) (places_in text ps)

append_some : (xs : List Token) (t : Token) (ys : List Token) → xs ++ t ∷ ys ≡ [] → ⊥
append_some [] t ys e = cc
append_some (x ∷ xs) t ys e = cc

none_both : (xs ys : List Token) → xs ++ ys ≡ [] → (xs ≡ []) × (ys ≡ [])
none_both [] ys e = (refl, e)
none_both (x ∷ xs) ys e = absurd (cc)

names_true : (text : List ℕ) (keyword : Token) (prelude : List Token) (first : Token) (within : List Token) (last : Option Token)
    (m : MediaForm)
    → media_form text (at_rule keyword prelude (block first within last)) ≡ Some m → names_media text keyword keyword.kind ≡ true
unfolding media_form
names_true text keyword prelude first within last m e = by (names_media text keyword keyword.kind) refl e
  where
    by : (b : Bool) → names_media text keyword keyword.kind ≡ b
        → cond b (Some (record { keyword = keyword; prelude = prelude; inside = within })) None ≡ Some m
        → names_media text keyword keyword.kind ≡ true
    by true is e = is
    by false is e = absurd (cc)

closing_same : (f : ℕ → ℕ) (last : Option Token) → option_to_list (closing_place (option_map (raised f) last))
    ≡ map f (option_to_list (closing_place last))
closing_same f None = refl
closing_same f (Some t) = refl

at_rule_again : (level : Level) (keyword first : Token) (prelude within own : List Token) (last last2 : Option Token)
    (rest rest2 : List Token)
    → (IsEnding (block first within last) rest → IsEnding (block first own last2) rest2)
    → IsPart level (at_rule keyword prelude (block first within last)) rest
    → IsPart level (at_rule keyword prelude (block first own last2)) rest2
at_rule_again level keyword first prelude within own last last2 rest rest2 again (at_rule_part _ _ _ e r) =
    at_rule_part keyword prelude (block first own last2) e (record {
      values = values_rest (outside stops.BlockOrSemicolon) prelude (first ∷ ((within ++ option_to_list last) ++ rest))
          (first ∷ ((own ++ option_to_list last2) ++ rest2)) (cons_follows first _) r.values;
      stopped = r.stopped;
      ends = again r.ends;
    })

pub places_cons : (text : List ℕ) (p : PartForm) (ps : List PartForm) → places_in text (p ∷ ps)
    ≡ places_in text (p ∷ []) ++ places_in text ps
unfolding places_in
places_cons text p ps = ap (λ (ns : List ℕ). ns ++ places_in text ps) (sym (append-nil (option_to_list (place_of text p))))

module _ (text other : List ℕ) (c : Cut) (own : List Token) (declared : List Property) (r : RuleForm) (q : RulePart) (lo hi : ℕ)
    (same : SamePart text other (moved_place c) 0 c.start) (back : SamePart text other (moved_place c) lo hi) (ends : RuleEnds q)
    (nested : AreNested own)
    (rule : (around : Option ℕ) → rule_of text around (rule_part q) ≡ Some r → AllTokens 0 c.start q.prelude
    → rule_of other around (rule_part (new_part c own q)) ≡ Some (rebodied c declared r))
    (place : option_to_list (closing_place (option_map (raised (far c)) q.close))
    ≡ map (moved_place c) (option_to_list (closing_place q.close)))
  where
    -- what stands before stays
    past : (around : Option ℕ) (k j : ℕ) (p : PartForm) (ps : List PartForm) (within ls : List Laid) (rs : List RuleForm)
        (xs more : List Token)
        → (m : MovedParts text other c own declared r q around j ps ls rs xs more)
        → AllTokens 0 c.start (part_pieces p) → LaidIn 0 c.start within
        → LaidMoved text other (moved_place c) (laid around p ∷ within)
        → (front_rest : IsPart (level_of around) p (flat m.parts))
        → AreLaid other around k (p ∷ m.parts) (laid around p ∷ (within ++ m.out))
        → MovedParts text other c own declared r q around k (p ∷ ps) (laid around p ∷ (within ++ ls))
        (rules_in text (laid around p ∷ within) ++ rs)
        (part_pieces p ++ xs) more
    unfolding places_in
    past around k j p ps within ls rs xs more m all within_all moved front_rest are =
        let front = laid around p ∷ within in
        let a = front_rules text other c same front (all, within_all) moved in
        let b = front_media text other c same front (all, within_all) in
        let d = front_places text other c same p all in
        record {
          parts = p ∷ m.parts;
          out = laid around p ∷ (within ++ m.out);
          rules = m.rules;
          flat_is = ap (λ (ys : List Token). part_pieces p ++ ys) m.flat_is ∙ sym (append_assoc (part_pieces p) xs _);
          all = (front_rest, m.all);
          are_laid = are;
          old_rules = rules_append text front ls ∙ ap (λ (ys : List RuleForm). rules_in text front ++ ys) m.old_rules
              ∙ sym (append_assoc (rules_in text front) rs (r ∷ m.rules));
          new_rules = rules_append other front m.out ∙ (λ i. a i ++ m.new_rules i)
              ∙ sym (append_assoc (map (placed_rule (moved_place c)) (rules_in text front)) (map (placed_rule (moved_place c)) rs) _)
              ∙ ap (λ (ys : List RuleForm). ys ++ rebodied c declared r ∷ map (placed_rule (moved_place c)) m.rules)
              (sym (map_append (placed_rule (moved_place c)) (rules_in text front) rs));
          new_media = media_append other front m.out ∙ (λ i. b i ++ m.new_media i)
              ∙ sym (map_append (placed_media (moved_place c)) (media_in text front) (media_in text ls))
              ∙ ap (map (placed_media (moved_place c))) (sym (media_append text front ls));
          new_places = places_cons other p m.parts ∙ (λ i. d i ++ m.new_places i)
              ∙ sym (map_append (moved_place c) (places_in text (p ∷ [])) (places_in text ps))
              ∙ ap (map (moved_place c)) (sym (places_cons text p ps));
        }

    -- the rule's own part, with the parts behind it
    at_rule_itself : (around : Option ℕ) (k : ℕ) (ps : List PartForm) (ls : List Laid) → AreLaid text around k ps ls
        → rule_of text around (rule_part q) ≡ Some r → AreFlat (level_of around) (rule_part q ∷ ps) → AllTokens 0 c.start q.prelude
        → AllTokens lo hi (flat ps) → (flat ps ≡ []) ⊎ (moved_place c (length text) ≡ length other)
        → MovedParts text other c own declared r q around k (rule_part q ∷ ps) (laid around (rule_part q) ∷ ls) [] q.prelude (flat ps)
    unfolding rules_in places_in place_of media_form
    at_rule_itself around k ps ls are e all lead more ended =
        let q2 = rule_part (new_part c own q) in
        let ps2 = map (raised_part (moved_place c)) ps in
        let flat_ps2 = flat_raised (moved_place c) ps in
        let close2 = option_to_list (option_map (raised (far c)) q.close) in
        let rules = rules_same text other (moved_place c) lo hi back ls (laid_in lo hi text around k ps ls are more)
        (none_behind text other (moved_place c) around k (level_of around) ps ls all.1 are ended) in
        let new = rule around e lead in
        let places = places_same text other (moved_place c) lo hi back ps more in
        record {
          parts = q2 ∷ ps2;
          out = laid around q2 ∷ map (raised_laid (moved_place c)) ls;
          rules = rules_in text ls;
          flat_is = append_assoc q.prelude (q.brace ∷ (own ++ close2)) (flat ps2)
              ∙ ap (λ (ys : List Token). q.prelude ++ q.brace ∷ ys)
              (append_assoc own close2 (flat ps2) ∙ ap (λ (ys : List Token). own ++ (close2 ++ ys)) flat_ps2);
          all = (
            new_rule (level_of around) q.prelude q.brace q.body own q.close (far c) (flat ps) (flat ps2) nested
                (λ over. flat_ps2 ∙ ap (map (raised (moved_place c))) over) all.0,
            flat_again (level_of around) (moved_place c) ps all.1,
          );
          are_laid = part_laid q2 ps2 (map (raised_laid (moved_place c)) ls) refl
              (laid_again text other (moved_place c) lo hi back around k ps ls are more);
          old_rules = ap (λ (o : Option RuleForm). option_to_list o ++ rules_in text ls) e;
          new_rules = λ i. option_to_list (new i) ++ rules i;
          new_media = media_cons other around q2 (map (raised_laid (moved_place c)) ls) None refl
              ∙ media_same text other (moved_place c) lo hi back ls (laid_in lo hi text around k ps ls are more)
              ∙ ap (map (placed_media (moved_place c))) (sym (media_cons text around (rule_part q) ls None refl));
          new_places = (λ i. place i ++ places i) ∙ sym
              (map_append (moved_place c) (option_to_list (closing_place q.close)) (places_in text ps));
        }

    -- a media rule with the new body somewhere in its block
    around_it : (around : Option ℕ) (k : ℕ) (m : MediaForm) (first : Token) (last : Option Token) (inner ps : List PartForm)
        (within ls : List Laid) (rs : List RuleForm) (xs more : List Token)
        → media_form text (at_rule m.keyword m.prelude (block first m.inside last)) ≡ Some m → m.inside ≡ flat inner
        → Path text r q (Some k) (suc k) inner within rs xs more
        → AreLaid text around (suc k + length (media_in text within)) ps ls
        → AreFlat (level_of around) (at_rule m.keyword m.prelude (block first m.inside last) ∷ ps)
        → (q.close ≡ None → more ++ (option_to_list last ++ flat ps) ≡ [])
        → AllTokens 0 c.start (m.keyword ∷ m.prelude) → AllTokens lo hi (flat ps)
        → (flat ps ≡ []) ⊎ (moved_place c (length text) ≡ length other)
        → MovedParts text other c own declared r q (Some k) (suc k) inner within rs xs more
        → MovedParts text other c own declared r q around k (at_rule m.keyword m.prelude (block first m.inside last) ∷ ps)
        (laid around (at_rule m.keyword m.prelude (block first m.inside last)) ∷ (within ++ ls)) rs
        (m.keyword ∷ (m.prelude ++ first ∷ xs)) (more ++ (option_to_list last ++ flat ps))
    unfolding places_in place_of media_form
    around_it around k m first last inner ps within ls rs xs more form inner_is path are all over lead tail ended n =
        let ps2 = map (raised_part (moved_place c)) ps in
        let ls2 = map (raised_laid (moved_place c)) ls in
        let last2 = option_map (raised (moved_place c)) last in
        let m2 : MediaForm = record { keyword = m.keyword; prelude = m.prelude; inside = flat n.parts } in
        let p = at_rule m.keyword m.prelude (block first m.inside last) in
        let p2 = at_rule m.keyword m.prelude (block first (flat n.parts) last2) in
        let close2 = option_to_list (option_map (raised (far c)) q.close) in
        let flat_ps2 = flat_raised (moved_place c) ps in
        let keyword_kept = token_kept (moved_place c) 0 c.start (keep c) m.keyword (lead.0, tt) in
        let prelude_kept = tokens_kept (moved_place c) 0 c.start (keep c) m.prelude lead.1 in
        let named : names_media other m.keyword m.keyword.kind ≡ true =
        sym (ap (λ (t : Token). names_media other t m.keyword.kind) keyword_kept)
        ∙ names_same text other (moved_place c) 0 c.start same m.keyword m.keyword.kind lead.0
        ∙ names_true text m.keyword m.prelude first m.inside last m form in
        let form2 : media_form other p2 ≡ Some m2 = ap (λ (b : Bool). cond b (Some m2) None) named in
        let in_tail = laid_in lo hi text around (suc k + length (media_in text within)) ps ls are tail in
        let rules = rules_same text other (moved_place c) lo hi back ls in_tail
        (none_behind text other (moved_place c) around (suc k + length (media_in text within)) (level_of around) ps ls all.1 are ended) in
        let media = media_same text other (moved_place c) lo hi back ls in_tail in
        let places = places_same text other (moved_place c) lo hi back ps tail in
        let count : length (media_in text within) ≡ length (media_in other n.out) = sym
        (ap length n.new_media ∙ map_length _ (media_in text within)) in
        let own_media : media_rule other around m2 ≡ placed_media (moved_place c) (media_rule text around m) =
        (λ i. media_rule other around (record { keyword = sym keyword_kept i; prelude = sym prelude_kept i; inside = flat n.parts }))
        ∙ media_rule_same text other (moved_place c) 0 c.start same around m lead.1 in
        let tail_again : map (raised (moved_place c)) more
        ++ (map (raised (moved_place c)) (option_to_list last) ++ map (raised (moved_place c)) (flat ps))
        ≡ map (raised (moved_place c)) (more ++ (option_to_list last ++ flat ps)) =
        ap (λ (ys : List Token). map (raised (moved_place c)) more ++ ys)
        (sym (map_append (raised (moved_place c)) (option_to_list last) (flat ps)))
        ∙ sym (map_append (raised (moved_place c)) more (option_to_list last ++ flat ps)) in
        let again : IsEnding (block first m.inside last) (flat ps) → IsEnding (block first (flat n.parts) last2) (flat ps2) = λ old.
        subst (IsEnding (block first (flat n.parts) last2)) (sym flat_ps2)
        (subst (λ (ys : List Token). IsEnding (block first ys last2) (map (raised (moved_place c)) (flat ps))) (sym n.flat_is)
        (ends_again first q.brace m.inside xs q.body own more (flat ps) last q.close (moved_place c) (far c)
        (inner_is ∙ path_flat text r q (Some k) (suc k) inner within rs xs more path) ends.kind ends.shut nested over old)) in
        record {
          parts = p2 ∷ ps2;
          out = laid around p2 ∷ (n.out ++ ls2);
          rules = n.rules ++ rules_in text ls;
          flat_is = (λ i. m.keyword ∷ ((m.prelude ++ first ∷ (n.flat_is i ++ to_list_raised (moved_place c) last i)) ++ flat_ps2 i))
              ∙ nested_flat m.keyword first q.brace m.prelude xs own close2 (map (raised (moved_place c)) more)
              (map (raised (moved_place c)) (option_to_list last)) (map (raised (moved_place c)) (flat ps))
              ∙ ap (λ (ys : List Token). (m.keyword ∷ (m.prelude ++ first ∷ xs)) ++ q.brace ∷ (own ++ (close2 ++ ys))) tail_again;
          all = (
            at_rule_again (level_of around) m.keyword first m.prelude m.inside (flat n.parts) last last2 (flat ps)
                (flat ps2) again all.0,
            flat_again (level_of around) (moved_place c) ps all.1,
          );
          are_laid = media_laid p2 m2 n.parts ps2 n.out ls2 form2 (flat_parts Inner n.parts n.all) n.are_laid
              (subst (λ (j : ℕ). AreLaid other around (suc k + j) ps2 ls2) count
              (laid_again text other (moved_place c) lo hi back around (suc k + length (media_in text within)) ps ls are tail));
          old_rules = no_rule text around p m (within ++ ls) (record { first = first; close = last; is = refl })
              ∙ rules_append text within ls ∙ ap (λ (ys : List RuleForm). ys ++ rules_in text ls) n.old_rules
              ∙ append_assoc rs (r ∷ n.rules) (rules_in text ls);
          new_rules = no_rule other around p2 m2 (n.out ++ ls2) (record { first = first; close = last2; is = refl })
              ∙ rules_append other n.out ls2 ∙ (λ i. n.new_rules i ++ rules i)
              ∙ append_assoc (map (placed_rule (moved_place c)) rs) (rebodied c declared r ∷ map (placed_rule (moved_place c)) n.rules)
              (map (placed_rule (moved_place c)) (rules_in text ls))
              ∙ ap (λ (ys : List RuleForm). map (placed_rule (moved_place c)) rs ++ rebodied c declared r ∷ ys)
              (sym (map_append (placed_rule (moved_place c)) n.rules (rules_in text ls)));
          new_media = media_cons other around p2 (n.out ++ ls2) (Some m2) form2
              ∙ (λ i. own_media i ∷ media_append other n.out ls2 i)
              ∙ (λ i. placed_media (moved_place c) (media_rule text around m) ∷ (n.new_media i ++ media i))
              ∙ ap (λ (ys : List MediaRule). placed_media (moved_place c) (media_rule text around m) ∷ ys)
              (sym (map_append (placed_media (moved_place c)) (media_in text within) (media_in text ls))
              ∙ ap (map (placed_media (moved_place c))) (sym (media_append text within ls)))
              ∙ ap (map (placed_media (moved_place c))) (sym (media_cons text around p (within ++ ls) (Some m) form));
          new_places = (λ i. closing_same (moved_place c) last i ++ places i)
              ∙ sym (map_append (moved_place c) (option_to_list (closing_place last)) (places_in text ps));
        }

    pub moved_parts : (around : Option ℕ) (k : ℕ) (ps : List PartForm) (ls : List Laid) (rs : List RuleForm) (xs more : List Token)
        → Path text r q around k ps ls rs xs more → AreFlat (level_of around) ps → AllTokens 0 c.start xs → AllTokens lo hi more
        → (more ≡ []) ⊎ (moved_place c (length text) ≡ length other)
        → MovedParts text other c own declared r q around k ps ls rs xs more
    moved_parts around k _ _ _ _ _ (here ps ls are e) all lead tail ended = at_rule_itself around k ps ls are e all lead tail ended
    moved_parts around k _ _ _ _ _ (past_part p ps ls rs xs more none path) all lead tail ended =
        let both = tokens_split 0 c.start (part_pieces p) xs lead in
        let n = moved_parts around k ps ls rs xs more path all.1 both.1 tail ended in
        let some : flat ps ≡ [] → ⊥ = λ e. append_some xs q.brace _ (sym (path_flat text r q around k ps ls rs xs more path) ∙ e) in
        let form = form_kept text other c same p both.0 ∙ ap (option_map (raised_media (moved_place c))) none in
        past around k k p ps [] ls rs xs more n both.0 tt
        (shut_moved text other (moved_place c) p (part_shut (level_of around) p (flat ps) some all.0), tt)
        (part_rest (level_of around) p (flat ps) (flat n.parts) some all.0)
        (part_laid p n.parts n.out form n.are_laid)
    moved_parts around k _ _ _ _ _ (past_media p m inner ps within ls rs xs more is own_parts inner_are path) all lead tail ended =
        let both = tokens_split 0 c.start (part_pieces p) xs lead in
        let j = suc k + length (media_in text within) in
        let n = moved_parts around j ps ls rs xs more path all.1 both.1 tail ended in
        let some : flat ps ≡ [] → ⊥ = λ e. append_some xs q.brace _ (sym (path_flat text r q around j ps ls rs xs more path) ∙ e) in
        let shut = part_shut (level_of around) p (flat ps) some all.0 in
        let inner_flat = flat_of Inner inner m.inside own_parts in
        let inner_tokens : AllTokens 0 c.start (flat inner) = subst (AllTokens 0 c.start) inner_flat.0
        (form_in text 0 c.start p m is both.0).1 in
        let within_in = laid_in 0 c.start text (Some k) (suc k) inner within inner_are inner_tokens in
        let count : length (media_in text within) ≡ length (media_in other within) =
        sym (ap length (front_media text other c same within within_in) ∙ map_length _ (media_in text within)) in
        let form : media_form other p ≡ Some m =
        form_kept text other c same p both.0 ∙ ap (option_map (raised_media (moved_place c))) is
        ∙ ap Some (media_kept text other c same p m is both.0) in
        past around k j p ps within ls rs xs more n both.0 within_in (
          shut_moved text other (moved_place c) p shut,
          laid_shut text other (moved_place c) (Some k) (suc k) inner within inner_are Inner inner_flat.1
              (media_shut (level_of around) text p m inner (flat ps) is own_parts all.0 shut),
        )
        (part_rest (level_of around) p (flat ps) (flat n.parts) some all.0)
        (media_laid p m inner n.parts within n.out form own_parts
        (laid_stays text other c same (Some k) (suc k) inner within inner_are inner_tokens)
        (subst (λ (i : ℕ). AreLaid other around (suc k + i) n.parts n.out) count n.are_laid))
    moved_parts around k _ _ _ _ _ (in_media m first last inner ps within ls rs xs more is own_parts path are) all lead tail ended =
        let whole = in_media m first last inner ps within ls rs xs more is own_parts path are in
        let both = tokens_split 0 c.start m.prelude (first ∷ xs) lead.1 in
        let halves = tokens_split lo hi more (option_to_list last ++ flat ps) tail in
        let behind = tokens_split lo hi (option_to_list last) (flat ps) halves.1 in
        let inner_flat = flat_of Inner inner m.inside own_parts in
        let n = moved_parts (Some k) (suc k) inner within rs xs more path inner_flat.1 both.1.1 halves.0
        (sooner more (option_to_list last ++ flat ps) ended) in
        around_it around k m first last inner ps within ls rs xs more is inner_flat.0 path are all
        (path_over text r q around k (at_rule m.keyword m.prelude (block first m.inside last) ∷ ps) _ rs _ _ whole (level_of around) all)
        (lead.0, both.0) behind.1 (later more (option_to_list last) (flat ps) ended) n
      where
        sooner : (xs ys : List Token) → (xs ++ ys ≡ []) ⊎ (moved_place c (length text) ≡ length other)
            → (xs ≡ []) ⊎ (moved_place c (length text) ≡ length other)
        sooner xs ys (inl e) = inl (none_both xs ys e).0
        sooner xs ys (inr e) = inr e

        later : (xs ys zs : List Token) → (xs ++ (ys ++ zs) ≡ []) ⊎ (moved_place c (length text) ≡ length other)
            → (zs ≡ []) ⊎ (moved_place c (length text) ≡ length other)
        later xs ys zs (inl e) = inl (none_both ys zs (none_both xs (ys ++ zs) e).1).1
        later xs ys zs (inr e) = inr e
