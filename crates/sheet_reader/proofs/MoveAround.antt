-- A list of rules of which one is replaced and the others are moved, in three steps.
use Rattle.std.proofs.Common.{◌≡◌, ℕ, zero, suc, ◌+◌, ◌-◌, ◌<◌, ◌≤◌, List, [], ◌∷◌, ◌++◌, map, take, drop, set, length, get_or, refl}
use Rattle.std.proofs.Common.{sym, ap, subst}
use Rattle.std.proofs.Common.{◌∙◌, arith, Some}
use Rattle.std.specs.Prelude.{slice_get, IfSome}
use Rattle.std.proofs.lemmas.List.{length-map, length-drop, take_all, drop_all, append-nil}
use borrow.Rule.Slice.PartMut.{put_mid}
use Rattle.std.proofs.Common.{append_assoc, length-append}
use Rattle.sheet_reader.proofs.PartMoves.{map_append}
use Rattle.sheet_reader.specs.declared.sheet.Property.{Property}
use Rattle.std.specs.Prelude.{Option}
use Rattle.sheet_reader.specs.declared.sheet.Sheet.{Sheet}
use Rattle.sheet_reader.specs.declared.sheet.StyleRule.{StyleRule}
use Rattle.sheet_reader.specs.Forms.{RuleForm, rule_seen}
use Rattle.selectors.specs.Moves.{Cut, moved_place}
use Rattle.sheet_reader.specs.Moves.{placed_rule, rebodied, moved_rules, CanMoveBody}

pub suc_is : (n : ℕ) → suc n ≡ n + 1
suc_is n = omega arith

pub seam_get : {X : Type 0} (front rs : List X) (own : ℕ) (d : X) → length front ≡ own → get_or (front ++ drop own rs) own d
    ≡ get_or rs own d
seam_get [] rs zero d size = refl
seam_get [] rs (suc own) d size = absurd (omega (arith, size))
seam_get (x ∷ front) rs zero d size = absurd (omega (arith, size))
seam_get {X = X} (x ∷ front) [] (suc own) d size = nothing front own (omega (arith, size))
  where
    nothing : (front : List X) (own : ℕ) → length front ≡ own → get_or (front ++ []) own d ≡ d
    nothing [] zero e = refl
    nothing [] (suc own) e = absurd (omega (arith, e))
    nothing (x ∷ front) zero e = absurd (omega (arith, e))
    nothing (x ∷ front) (suc own) e = nothing front own (omega (arith, e))
seam_get (x ∷ front) (y ∷ rs) (suc own) d size = seam_get front rs own d (omega (arith, size))

set_seam : {X : Type 0} (front rs : List X) (own : ℕ) (r : X) → length front ≡ own → own < length rs
    → set (front ++ drop own rs) own r ≡ front ++ r ∷ drop (suc own) rs
set_seam [] [] zero r size inside = absurd (omega (arith, inside))
set_seam [] (y ∷ rs) zero r size inside = refl
set_seam [] rs (suc own) r size inside = absurd (omega (arith, size))
set_seam (x ∷ front) rs zero r size inside = absurd (omega (arith, size))
set_seam (x ∷ front) [] (suc own) r size inside = absurd (omega (arith, inside))
set_seam (x ∷ front) (y ∷ rs) (suc own) r size inside = ap (λ zs. x ∷ zs)
    (set_seam front rs own r (omega (arith, size)) (omega (arith, inside)))

pub seam_set : {X : Type 0} (front rs : List X) (own : ℕ) (r : X) → length front ≡ own → own < length rs
    → set (front ++ drop own rs) own r ≡ front ++ r ∷ drop (own + 1) rs
seam_set front rs own r size inside = set_seam front rs own r size inside ∙ ap (λ (k : ℕ). front ++ r ∷ drop k rs) (suc_is own)

drop_seam : {X : Type 0} (front : List X) (r : X) (behind : List X) (own : ℕ) → length front ≡ own
    → drop (suc own) (front ++ r ∷ behind) ≡ behind
drop_seam [] r behind zero size = refl
drop_seam [] r behind (suc own) size = absurd (omega (arith, size))
drop_seam (x ∷ front) r behind zero size = absurd (omega (arith, size))
drop_seam (x ∷ front) r behind (suc own) size = drop_seam front r behind own (omega (arith, size))

pub seam_drop : {X : Type 0} (front : List X) (r : X) (behind : List X) (own : ℕ) → length front ≡ own
    → drop (own + 1) (front ++ r ∷ behind) ≡ behind
seam_drop front r behind own size = ap (λ (k : ℕ). drop k (front ++ r ∷ behind)) (sym (suc_is own)) ∙ drop_seam front r behind own size

take_seam : {X : Type 0} (front : List X) (r : X) (behind : List X) (own : ℕ) → length front ≡ own
    → take (suc own) (front ++ r ∷ behind) ≡ front ++ r ∷ []
take_seam [] r behind zero size = refl
take_seam [] r behind (suc own) size = absurd (omega (arith, size))
take_seam (x ∷ front) r behind zero size = absurd (omega (arith, size))
take_seam (x ∷ front) r behind (suc own) size = ap (λ zs. x ∷ zs) (take_seam front r behind own (omega (arith, size)))

pub seam_take : {X : Type 0} (front : List X) (r : X) (behind : List X) (own : ℕ) → length front ≡ own
    → take (own + 1) (front ++ r ∷ behind) ≡ front ++ r ∷ []
seam_take front r behind own size = ap (λ (k : ℕ). take k (front ++ r ∷ behind)) (sym (suc_is own)) ∙ take_seam front r behind own size

-- the rules that are moved, in three parts
parts_moved : {X : Type 0} (see : X → RuleForm) (c : Cut) (ps : List Property) (rs : List X) (own : ℕ) (d : X) → own < length rs
    → map (placed_rule (moved_place c)) (map see (take own rs)) ++ rebodied c ps (see (get_or rs own d))
    ∷ map (placed_rule (moved_place c)) (map see (drop (suc own) rs)) ≡ moved_rules c ps own (map see rs)
parts_moved see c ps [] own d inside = absurd (omega (arith, inside))
parts_moved see c ps (r ∷ rs) zero d inside = refl
parts_moved see c ps (r ∷ rs) (suc own) d inside =
    ap (λ (zs : List RuleForm). placed_rule (moved_place c) (see r) ∷ zs) (parts_moved see c ps rs own d (omega (arith, inside)))

pub moved_parts : {X : Type 0} (see : X → RuleForm) (c : Cut) (ps : List Property) (rs : List X) (own : ℕ) (d : X) → own < length rs
    → map (placed_rule (moved_place c)) (map see (take own rs)) ++ rebodied c ps (see (get_or rs own d))
    ∷ map (placed_rule (moved_place c)) (map see (drop (own + 1) rs)) ≡ moved_rules c ps own (map see rs)
moved_parts see c ps rs own d inside =
    ap (λ (k : ℕ). map (placed_rule (moved_place c)) (map see (take own rs)) ++ rebodied c ps (see (get_or rs own d))
    ∷ map (placed_rule (moved_place c)) (map see (drop k rs))) (sym (suc_is own)) ∙ parts_moved see c ps rs own d inside

-- what holds of the one that is found, holds of the one that is read
pub found_holds : {X : Type 0} (see : X → RuleForm) (P : RuleForm → Type 0) (rs : List X) (own : ℕ) (d : X) → own < length rs
    → IfSome (slice_get (map see rs) own) P → P (see (get_or rs own d))
found_holds see P [] own d inside h = absurd (omega (arith, inside))
found_holds see P (r ∷ rs) zero d inside h = h
found_holds see P (r ∷ rs) (suc own) d inside h = found_holds see P rs own d (omega (arith, inside)) h

pub map_front : {X Y : Type 0} (see : X → Y) (n : ℕ) (rs : List X) → map see (take n rs) ≡ take n (map see rs)
map_front see zero rs = refl
map_front see (suc n) [] = refl
map_front see (suc n) (r ∷ rs) = ap (λ zs. see r ∷ zs) (map_front see n rs)

pub map_back : {X Y : Type 0} (see : X → Y) (n : ℕ) (rs : List X) → map see (drop n rs) ≡ drop n (map see rs)
map_back see zero rs = refl
map_back see (suc n) [] = refl
map_back see (suc n) (r ∷ rs) = map_back see n rs

-- what stands behind the one that is set, all of it
pub behind_set : {X : Type 0} (front rs : List X) (own : ℕ) (r : X) → length front ≡ own → own < length rs
    → take (length (set (front ++ drop own rs) own r) - (own + 1)) (drop (own + 1) (set (front ++ drop own rs) own r)) ≡ drop (own + 1) rs
behind_set {X = X} front rs own r size inside =
    let at = seam_set front rs own r size inside in
    let left : drop (own + 1) (set (front ++ drop own rs) own r) ≡ drop (own + 1) rs =
    ap (drop (own + 1)) at ∙ seam_drop front r (drop (own + 1) rs) own size in
    let len = length-drop (own + 1) (set (front ++ drop own rs) own r) in
    take_all (length (set (front ++ drop own rs) own r) - (own + 1)) (drop (own + 1) (set (front ++ drop own rs) own r))
    (omega (arith, len)) ∙ left

pub put_all : {X : Type 0} (a : ℕ) (xs ys : List X) → a ≤ length xs → put_mid a (length xs - a) xs ys ≡ take a xs ++ ys
put_all a xs ys fits =
    let len = length-drop a xs in
    ap (λ (zs : List _). take a xs ++ (ys ++ zs)) (drop_all (length xs - a) (drop a xs) (omega (arith, len)))
    ∙ ap (λ (zs : List _). take a xs ++ zs) (append-nil ys)

-- the three steps together
pub around : {X : Type 0} (see : X → RuleForm) (c : Cut) (ps : List Property) (rs front behind : List X) (own : ℕ) (d r : X)
    → length front ≡ own → own < length rs
    → map see front ≡ map (placed_rule (moved_place c)) (map see (take own rs))
    → see r ≡ rebodied c ps (see (get_or (front ++ drop own rs) own d))
    → map see behind ≡ map (placed_rule (moved_place c)) (map see (take (length (set (front ++ drop own rs) own r) - (own + 1))
    (drop (own + 1) (set (front ++ drop own rs) own r))))
    → map see (put_mid (own + 1) (length (set (front ++ drop own rs) own r) - (own + 1)) (set (front ++ drop own rs) own r) behind)
    ≡ moved_rules c ps own (map see rs)
around {X = X} see c ps rs front behind own d r size inside before here after =
    let xs = set (front ++ drop own rs) own r in
    let at : xs ≡ front ++ r ∷ drop (own + 1) rs = seam_set front rs own r size inside in
    let long : length xs ≡ length rs = ap length at
    ∙ omega (arith, length-append front (r ∷ drop (own + 1) rs), length-drop (own + 1) rs, size, inside) in
    let taken : take (own + 1) xs ≡ front ++ r ∷ [] = ap (take (own + 1)) at ∙ seam_take front r (drop (own + 1) rs) own size in
    let whole : put_mid (own + 1) (length xs - (own + 1)) xs behind ≡ front ++ r ∷ behind =
    put_all (own + 1) xs behind (omega (arith, long, inside)) ∙ ap (λ (zs : List X). zs ++ behind) taken
    ∙ append_assoc front (r ∷ []) behind in
    let last : map see behind ≡ map (placed_rule (moved_place c)) (map see (drop (own + 1) rs)) =
    after ∙ ap (λ (zs : List X). map (placed_rule (moved_place c)) (map see zs)) (behind_set front rs own r size inside) in
    let one : see r ≡ rebodied c ps (see (get_or rs own d)) = here ∙ ap (λ (x : X). rebodied c ps (see x)) (seam_get front rs own d size) in
    ap (map see) whole ∙ map_append see front (r ∷ behind) ∙ (λ i. before i ++ one i ∷ last i) ∙ moved_parts see c ps rs own d inside

pub found_is : {X : Type 0} (see : X → RuleForm) (rs : List X) (own : ℕ) (d : X) → own < length rs
    → slice_get (map see rs) own ≡ Some (see (get_or rs own d))
found_is see [] own d inside = absurd (omega (arith, inside))
found_is see (r ∷ rs) zero d inside = refl
found_is see (r ∷ rs) (suc own) d inside = found_is see rs own d (omega (arith, inside))

-- what is asked of a sheet, at the rule that is read
pub asked : (s : Sheet) (k : ℕ) (ps : List Property) (n : ℕ) (rs : List StyleRule) (x : StyleRule) → map rule_seen rs ≡ s.rules
    → x ≡ get_or rs k x → k < length s.rules → IfSome (slice_get s.rules k) (CanMoveBody s k ps n)
    → CanMoveBody s k ps n (rule_seen x) × (slice_get s.rules k ≡ Some (rule_seen x))
asked s k ps n rs x are is inside h =
    let len = length-map rs rule_seen in
    let at : slice_get s.rules k ≡ Some (rule_seen x) =
    sym (ap (λ (ys : List RuleForm). slice_get ys k) are) ∙ found_is rule_seen rs k x (omega (arith, len, ap length are, inside))
    ∙ ap (λ (y : StyleRule). Some (rule_seen y)) (sym is) in
    (subst (λ (o : Option RuleForm). IfSome o (CanMoveBody s k ps n)) at h, at)

-- a list that was lent whole and came back
pub lent : {X : Type 0} (n : ℕ) (new items : List X) → length new ≡ n → length new ≡ length items → take n (new ++ drop (length new) items)
    ≡ new
lent n new items a b =
    ap (λ (zs : List _). take n (new ++ zs)) (drop_all (length new) items (omega (arith, b))) ∙ ap (take n) (append-nil new)
    ∙ take_all n new (omega (arith, a))
