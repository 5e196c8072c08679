-- A text up to one of its places, in front of another.
use Rattle.std.proofs.Common.{◌≡◌, ◌⊎◌, inl, inr, ℕ, zero, suc, ◌+◌, ◌<◌, ◌≤◌, true, All, List, [], ◌∷◌, ◌++◌, map, length, take, Option}
use Rattle.std.proofs.Common.{Some}
use Rattle.std.proofs.Common.{None, refl, sym, ap, subst, ◌∙◌, append_assoc, length-append, arith}
use Rattle.std.proofs.Math.Seq.{take-append_seam}
use Rattle.std.specs.Prelude.{IsSome, option_to_list}
use Rattle.std.proofs.lemmas.List.{length-map}
use Rattle.std.proofs.lemmas.List.Elements.{All-head, All-tail, All-nil, All-cons, All-append, All-weaker}
use Rattle.node_tree.specs.Numbers.{number_limit}
use Rattle.css_tokens.specs.Pieces.{pieces}
use Rattle.sheet_reader.specs.Forms.{RuleForm}
use Rattle.sheet_reader.specs.Grammar.{AreParts}
use Rattle.sheet_reader.specs.Layout.{level_of}
use Rattle.sheet_reader.specs.Parts.{PartForm, parts}
use Rattle.sheet_reader.specs.Sealing.{is_sealed}
use Rattle.sheet_reader.specs.Sheets.{place_of, places_in, sheet_of}
use Rattle.sheet_reader.proofs.GrammarForms.{parts_only, parts_spelled}
use Rattle.sheet_reader.proofs.JoinForms.{some_piece}
use Rattle.sheet_reader.proofs.JoinedLaw.{all_there, whole_alone}
use Rattle.sheet_reader.proofs.PartMoves.{AreFlat, flat_of, flat_parts, parts_raised}
use Rattle.sheet_reader.proofs.Raised.{raised_part, flat}
use Rattle.sheet_reader.proofs.ReadMoves.{AllTokens, places_same}
use Rattle.sheet_reader.proofs.TextMoves.{pieces_from}
use Rattle.style_edits.proofs.LoneRules.{OneRule}
use Rattle.style_edits.proofs.Fronts.{AreMoved, moved_more, StartsBefore, Fronts, passed_fronts, nothing_front, behind_same}
use Rattle.style_edits.proofs.PartTexts.{FirstPart, first_part}

-- ---- two texts in front of a third

record Parted (n : ℕ) (xs ys zs : List RuleForm) : Type 0 where
  first : List RuleForm
  second : List RuleForm
  both : zs ≡ first ++ second
  one : AreMoved n xs first
  two : AreMoved n ys second

parted : (n : ℕ) (xs ys zs : List RuleForm) → AreMoved n (xs ++ ys) zs → Parted n xs ys zs
parted n [] ys zs m = record { first = []; second = zs; both = refl; one = tt; two = m }
parted n (x ∷ xs) ys [] m = absurd m
parted n (x ∷ xs) ys (z ∷ zs) m =
    let p = parted n xs ys zs m.1 in
    record { first = z ∷ p.first; second = p.second; both = ap (λ (rs : List RuleForm). z ∷ rs) p.both; one = (m.0, p.one); two = p.two }

starts_moved : (n m k : ℕ) → n + m ≡ k → (xs zs : List RuleForm) → AreMoved n xs zs → All (StartsBefore m) xs → All (StartsBefore k) zs
starts_moved n m k sum [] [] moved all = All-nil (StartsBefore k)
starts_moved n m k sum [] (z ∷ zs) moved all = absurd moved
starts_moved n m k sum (x ∷ xs) [] moved all = absurd moved
starts_moved n m k sum (x ∷ xs) (z ∷ zs) moved all =
    let own = All-head (StartsBefore m) x xs all in
    All-cons (StartsBefore k) z zs (omega (arith, sum, moved.0.start, own))
    (starts_moved n m k sum xs zs moved.1 (All-tail (StartsBefore m) x xs all))

both_fronts : (front mid other : List ℕ) → Fronts front (mid ++ other) → Fronts mid other → Fronts (front ++ mid) other
both_fronts front mid other a b =
    let n = length front in
    let k = length (front ++ mid) in
    let sum : n + length mid ≡ k = sym (length-append front mid) in
    let p = parted n b.own b.rest a.rest (subst (λ (rs : List RuleForm). AreMoved n rs a.rest) b.is a.moved) in
    record {
      own = a.own ++ p.first;
      starts = All-append (StartsBefore k) a.own p.first
          (All-weaker (StartsBefore n) (StartsBefore k) (λ r h. omega (arith, h, sum)) a.own a.starts)
          (starts_moved n (length mid) k sum b.own p.first p.one b.starts);
      rest = p.second;
      is = ap (λ (t : List ℕ). (sheet_of t).rules) (append_assoc front mid other) ∙ a.is
          ∙ ap (λ (rs : List RuleForm). a.own ++ rs) p.both ∙ sym (append_assoc a.own p.first p.second);
      moved = moved_more n (length mid) k (sheet_of other).rules b.rest p.second sum b.moved p.two;
    }

-- ---- places

-- one of these
abbrev pub Among : ℕ → List ℕ → Type 0
Among x [] = ⊥
Among x (y ∷ ys) = (x ≡ y) ⊎ Among x ys

among_map : (n x : ℕ) (ys : List ℕ) → Among x (map (λ y. n + y) ys) → (y : ℕ) × (x ≡ n + y) × Among y ys
among_map n x [] h = absurd h
among_map n x (y ∷ ys) (inl e) = (y, e, inl refl)
among_map n x (y ∷ ys) (inr h) = let m = among_map n x ys h in (m.0, m.1, inr m.2)

take_past : (front after : List ℕ) (y : ℕ) → take (length front + y) (front ++ after) ≡ front ++ take y after
take_past [] after y = let zero_is : 0 + y ≡ y = omega arith in ap (λ (n : ℕ). take n after) zero_is
take_past (c ∷ front) after y =
    let next : length (c ∷ front) + y ≡ suc (length front + y) = omega arith in
    ap (λ (n : ℕ). take n (c ∷ (front ++ after))) next ∙ ap (λ (xs : List ℕ). c ∷ xs) (take_past front after y)

-- the first place, or a later one
first_or : (text : List ℕ) (x : ℕ) (p : PartForm) (qs : List PartForm) (o : Option ℕ) → place_of text p ≡ o
    → Among x (option_to_list o ++ places_in text qs) → (place_of text p ≡ Some x) ⊎ Among x (places_in text qs)
first_or text x p qs None is a = inr a
first_or text x p qs (Some y) is (inl e) = inl (is ∙ ap (λ (n : ℕ). Some n) (sym e))
first_or text x p qs (Some y) is (inr h) = inr h

-- where a later place is, there are later pieces
no_flat : (text : List ℕ) (x : ℕ) (qs : List PartForm) → Among x (places_in text qs) → AreFlat (level_of None) qs → flat qs ≡ [] → ⊥
unfolding places_in
no_flat text x [] a all e = a
no_flat text x (q ∷ qs) a all e = some_piece (level_of None) q (flat qs) (flat qs) all.0 e

-- the later places, as those of what stands behind the first part
record Behind (text : List ℕ) (x : ℕ) (p : PartForm) (qs : List PartForm) (f : FirstPart text p qs) : Type 0 where
  place : ℕ
  sum : x ≡ length f.front + place
  among : Among place (places_in f.after (parts (level_of None) (pieces f.after)))
  count : length (parts (level_of None) (pieces f.after)) ≡ length qs

behind : (text : List ℕ) (x : ℕ) (p : PartForm) (qs : List PartForm) (f : FirstPart text p qs) → AreFlat (level_of None) qs
    → Among x (places_in text qs) → Behind text x p qs f
behind text x p qs f all a =
    let n = length f.front in
    let g = λ (y : ℕ). n + y in
    let own = parts (level_of None) (pieces f.after) in
    let qs_is : qs ≡ map (raised_part g) own =
    parts_only (level_of None) qs (flat qs) (flat_parts (level_of None) qs all)
    ∙ ap (parts (level_of None)) (f.left ∙ pieces_from n f.after) ∙ parts_raised (level_of None) g (pieces f.after) in
    let both = flat_of (level_of None) own (pieces f.after) (parts_spelled (level_of None) (pieces f.after)) in
    let there : AllTokens 0 (length f.after) (flat own) =
    subst (AllTokens 0 (length f.after)) both.0 (all_there [] f.after (whole_alone f.after)) in
    let places : places_in text qs ≡ map g (places_in f.after own) =
    (λ i. places_in (f.is i) (qs_is i))
    ∙ places_same f.after (f.front ++ f.after) g 0 (length f.after) (behind_same f.front f.after) own there in
    let m = among_map n x (places_in f.after own) (subst (Among x) places a) in
    record {
      place = m.0;
      sum = m.1;
      among = m.2;
      count = sym (length-map own (raised_part g)) ∙ sym (ap (λ (ps : List PartForm). length ps) qs_is);
    }

-- no part, no place
none_there : (text : List ℕ) (x : ℕ) (ps : List PartForm) → length ps ≤ 0 → Among x (places_in text ps) → ⊥
unfolding places_in
none_there text x [] count a = a
none_there text x (p ∷ ps) count a = absurd (omega (arith, count))

fronts_at : (put : List ℕ) → OneRule put → is_sealed put ≡ true → (other : List ℕ) (n : ℕ) (text : List ℕ)
    → length (parts (level_of None) (pieces text)) ≤ n → length text + 0 < number_limit → (x : ℕ)
    → Among x (places_in text (parts (level_of None) (pieces text))) → Fronts (take x text) other
unfolding places_in
fronts_at put o sealed other zero text count small x a =
    absurd (none_there text x (parts (level_of None) (pieces text)) count a)
fronts_at put o sealed other (suc n) text count small x a =
    by (parts (level_of None) (pieces text)) refl count a (λ t c s y b. fronts_at put o sealed other n t c s y b)
  where
    Rest : Type 0
    Rest = (t : List ℕ) → length (parts (level_of None) (pieces t)) ≤ n → length t + 0 < number_limit → (y : ℕ)
        → Among y (places_in t (parts (level_of None) (pieces t))) → Fronts (take y t) other

    here : (p : PartForm) (qs : List PartForm) → place_of text p ≡ Some x → FirstPart text p qs → Fronts (take x text) other
    here p qs e f =
        let size = f.place x e in
        subst (λ (t : List ℕ). Fronts t other) (sym ((λ i. take (size i) (f.is i)) ∙ take-append_seam f.front f.after)) (f.fronts other)

    later : (p : PartForm) (qs : List PartForm) → length (p ∷ qs) ≤ suc n → (f : FirstPart text p qs) → Behind text x p qs f → Rest
        → Fronts (take x text) other
    later p qs c f b rest =
        let size = ap length f.is ∙ length-append f.front f.after in
        let own = rest f.after (omega (arith, c, b.count)) (omega (arith, small, size)) b.place b.among in
        subst (λ (t : List ℕ). Fronts t other) (sym ((λ i. take (b.sum i) (f.is i)) ∙ take_past f.front f.after b.place))
        (both_fronts f.front (take b.place f.after) other (f.fronts (take b.place f.after ++ other)) own)

    by : (ps : List PartForm) → parts (level_of None) (pieces text) ≡ ps → length ps ≤ suc n → Among x (places_in text ps) → Rest
        → Fronts (take x text) other
    by [] is c a rest = absurd a
    by (p ∷ qs) is c a rest =
        let both = flat_of (level_of None) (p ∷ qs) (pieces text)
        (subst (λ (ps : List PartForm). AreParts (level_of None) ps (pieces text)) is (parts_spelled (level_of None) (pieces text))) in
        elim (first_or text x p qs (place_of text p) refl a) [
          | inl e ↦ here p qs e
              (first_part put o sealed text small p qs both.0 both.1.0 (λ none. subst (λ (o : Option ℕ). IsSome o) (sym e) refl))
          | inr h ↦
              let f = first_part put o sealed text small p qs both.0 both.1.0 (λ none. absurd (no_flat text x qs h both.1.1 none)) in
              later p qs c f (behind text x p qs f both.1.1 h) rest
        ]

-- up to each of its places
pub place_fronts : (put : List ℕ) → OneRule put → is_sealed put ≡ true → (text : List ℕ) → length text + 0 < number_limit → (x : ℕ)
    → Among x (sheet_of text).places → (other : List ℕ) → Fronts (take x text) other
place_fronts put o sealed text small x (inl e) other =
    subst (λ (n : ℕ). Fronts (take n text) other) (sym e) (passed_fronts [] other (nothing_front other))
place_fronts put o sealed text small x (inr a) other =
    fronts_at put o sealed other (length (parts (level_of None) (pieces text))) text (omega arith) small x a
