-- Where lines end in a text, and lines put in place of others.
use Rattle.std.proofs.Common.{◌≡◌, ℕ, zero, suc, ◌+◌, ◌-◌, ◌<◌, ◌≤◌, ◌==◌, ◌&&◌, cond}
use Rattle.std.proofs.Common.{nat_le, Bool, true, false, List, [], ◌∷◌, ◌++◌, length, take, drop, count_by}
use Rattle.std.proofs.Common.{get_or, refl, sym, ap, ◌∙◌, arith, append_assoc, length-append, length-drop, take-append-drop, drop-drop}
use Rattle.std.proofs.Common.{take_all, take_at, drop_at, take-add}
use Rattle.std.specs.List.{list_all, concat, replace_range}
use Rattle.std.proofs.lemmas.Bool.Decides.{nat_tests}
use Rattle.std.proofs.lemmas.List.Sums.{sum_by-cons, sum_by-append, count_by-le-length}
use Rattle.panels.specs.Lines.{is_line}
use Rattle.panels.specs.Chunks.{is_feed, lines_length}

and_true : (a b : Bool) → (a && b) ≡ true → (a ≡ true) × (b ≡ true)
and_true true true e = (refl, refl)
and_true true false e = absurd cc
and_true false b e = absurd cc

not_true : (t : Bool) → (t ≡ true → ⊥) → t ≡ false
not_true true f = absurd (f refl)
not_true false f = refl

concat_append : (xs ys : List (List ℕ)) → concat (xs ++ ys) ≡ concat xs ++ concat ys
concat_append [] ys = refl
concat_append (x ∷ xs) ys = ap (λ l. x ++ l) (concat_append xs ys) ∙ sym (append_assoc x (concat xs) (concat ys))

-- ---- one byte more

byte_ends : (k x : ℕ) (xs : List ℕ) → is_feed x ≡ true → lines_length (suc k) (x ∷ xs) ≡ suc (lines_length k xs)
byte_ends k x xs e = ap (λ t. suc (cond t (lines_length k xs) (lines_length (suc k) xs))) e

byte_stays : (k x : ℕ) (xs : List ℕ) → is_feed x ≡ false → lines_length (suc k) (x ∷ xs) ≡ suc (lines_length (suc k) xs)
byte_stays k x xs e = ap (λ t. suc (cond t (lines_length k xs) (lines_length (suc k) xs))) e

suc_plus : (m n : ℕ) → suc (m + n) ≡ suc m + n
suc_plus m n = omega arith

-- ---- lines behind lines

no_lines : (k : ℕ) → lines_length k [] ≡ 0
no_lines zero = refl
no_lines (suc k) = refl

add_step : (t : Bool) (a b x : ℕ) (xs : List ℕ)
    → lines_length (a + b) xs ≡ lines_length a xs + lines_length b (drop (lines_length a xs) xs)
    → lines_length (suc (a + b)) xs ≡ lines_length (suc a) xs + lines_length b (drop (lines_length (suc a) xs) xs)
    → suc (cond t (lines_length (a + b) xs) (lines_length (suc (a + b)) xs))
    ≡ suc (cond t (lines_length a xs) (lines_length (suc a) xs))
    + lines_length b (drop (suc (cond t (lines_length a xs) (lines_length (suc a) xs))) (x ∷ xs))
add_step true a b x xs h k = ap suc h ∙ suc_plus (lines_length a xs) (lines_length b (drop (lines_length a xs) xs))
add_step false a b x xs h k = ap suc k ∙ suc_plus (lines_length (suc a) xs) (lines_length b (drop (lines_length (suc a) xs) xs))

pub lines_add : (a b : ℕ) (xs : List ℕ) → lines_length (a + b) xs ≡ lines_length a xs + lines_length b (drop (lines_length a xs) xs)
lines_add zero b xs = let e : 0 + b ≡ b = omega arith in ap (λ k. lines_length k xs) e ∙ omega arith
lines_add (suc a) b [] =
    let e : suc a + b ≡ suc (a + b) = omega arith in
    let n = no_lines b in
    ap (λ k. lines_length k []) e ∙ sym n ∙ omega arith
lines_add (suc a) b (x ∷ xs) =
    let e : suc a + b ≡ suc (a + b) = omega arith in
    let k : lines_length (suc (a + b)) xs ≡ lines_length (suc a) xs + lines_length b (drop (lines_length (suc a) xs) xs) =
    ap (λ n. lines_length n xs) (sym e) ∙ lines_add (suc a) b xs
    in
    ap (λ n. lines_length n (x ∷ xs)) e ∙ add_step (is_feed x) a b x xs (lines_add a b xs) k

-- ---- the lines behind some bytes

skip_step : (t : Bool) (m c left n x : ℕ) (xs : List ℕ) → is_feed x ≡ t → m ≡ cond t 1 0 + c → 0 < left
    → lines_length (c + left) xs ≡ n + lines_length left (drop n xs)
    → lines_length (m + left) (x ∷ xs) ≡ suc n + lines_length left (drop (suc n) (x ∷ xs))
skip_step true m c left n x xs e one more h =
    let s : m ≡ 1 + c = one in
    let k : m + left ≡ suc (c + left) = omega (arith, s) in
    ap (λ i. lines_length i (x ∷ xs)) k ∙ byte_ends (c + left) x xs e ∙ ap suc h ∙ suc_plus n (lines_length left (drop n xs))
skip_step false m c left n x xs e one more h =
    let s : m ≡ 0 + c = one in
    let k : m + left ≡ suc (c + left - 1) = omega (arith, s, more) in
    let l : suc (c + left - 1) ≡ c + left = omega (arith, more) in
    ap (λ i. lines_length i (x ∷ xs)) k ∙ byte_stays (c + left - 1) x xs e ∙ ap (λ i. suc (lines_length i xs)) l
    ∙ ap suc h ∙ suc_plus n (lines_length left (drop n xs))

pub lines_skip : (n left : ℕ) (xs : List ℕ) → n ≤ length xs → 0 < left
    → lines_length (count_by is_feed (take n xs) + left) xs ≡ n + lines_length left (drop n xs)
lines_skip zero left xs low more = let e : 0 + left ≡ left = omega arith in ap (λ k. lines_length k xs) e ∙ omega arith
lines_skip (suc n) left [] low more = absurd (omega arith)
lines_skip (suc n) left (x ∷ xs) low more =
    skip_step (is_feed x) (count_by is_feed (x ∷ take n xs)) (count_by is_feed (take n xs)) left n x xs refl
    (sum_by-cons (λ b. cond (is_feed b) 1 0) x (take n xs)) more (lines_skip n left xs (omega arith) more)

-- one chunk more was passed over
pub left_turn : (place byte bytes lines left : ℕ) (text : List ℕ) → bytes ≤ length (drop byte text)
    → lines ≡ count_by is_feed (take bytes (drop byte text)) → lines < left
    → lines_length place text ≡ byte + lines_length left (drop byte text)
    → lines_length place text ≡ byte + bytes + lines_length (left - lines) (drop (byte + bytes) text)
left_turn place byte bytes lines left text low counted less before =
    let s = lines_skip bytes (left - lines) (drop byte text) low (omega arith) in
    let k : count_by is_feed (take bytes (drop byte text)) + (left - lines) ≡ left = omega (arith, counted, less) in
    let t : lines_length left (drop byte text) ≡ bytes + lines_length (left - lines) (drop bytes (drop byte text)) =
    ap (λ i. lines_length i (drop byte text)) (sym k) ∙ s
    in
    let d : lines_length (left - lines) (drop bytes (drop byte text)) ≡ lines_length (left - lines) (drop (byte + bytes) text) =
    ap (λ l. lines_length (left - lines) l) (drop-drop bytes byte text)
    in
    omega (arith, before, t, d)

-- ---- the first line feed

-- it ends the first line
first_line : (text : List ℕ) (i : ℕ) → i < length text → (get_or text i 0 == 10) ≡ true
    → ((j : ℕ) → j < i → (get_or text j 0 == 10) ≡ true → ⊥) → lines_length 1 text ≡ i + 1
first_line [] i less here none_before = absurd (omega arith)
first_line (x ∷ xs) zero less here none_before = byte_ends 0 x xs here ∙ omega arith
first_line (x ∷ xs) (suc i) less here none_before =
    let other : is_feed x ≡ false = not_true (is_feed x) (λ e. none_before 0 (omega arith) e) in
    let h = first_line xs i (omega arith) here (λ j low. none_before (suc j) (omega arith)) in
    byte_stays 0 x xs other ∙ ap suc h ∙ omega arith

-- the rest of a list, as a slice is seen
pub rest_is : (bytes : List ℕ) (end : ℕ) → take (length bytes - end) (drop end bytes) ≡ drop end bytes
rest_is bytes end = take_all (length bytes - end) (drop end bytes) (let l = length-drop end bytes in omega arith)

-- one line more
pub end_turn : (bytes : List ℕ) (start end len k : ℕ) → end ≡ start + lines_length k (drop start bytes)
    → len < length (take (length bytes - end) (drop end bytes))
    → (get_or (take (length bytes - end) (drop end bytes)) len 0 == 10) ≡ true
    → ((j : ℕ) → 0 ≤ j → j < len → (get_or (take (length bytes - end) (drop end bytes)) j 0 == 10) ≡ true → ⊥)
    → end + (len + 1) ≡ start + lines_length (k + 1) (drop start bytes)
end_turn bytes start end len k at less here none_before =
    let one : lines_length 1 (drop end bytes) ≡ len + 1 =
    ap (λ l. lines_length 1 l) (sym (rest_is bytes end))
    ∙ first_line (take (length bytes - end) (drop end bytes)) len less here (λ j low. none_before j (omega arith) low)
    in
    let add = lines_add k 1 (drop start bytes) in
    let behind : drop (lines_length k (drop start bytes)) (drop start bytes) ≡ drop end bytes =
    drop-drop (lines_length k (drop start bytes)) start bytes ∙ ap (λ i. drop i bytes) (sym at)
    in
    let last : lines_length 1 (drop (lines_length k (drop start bytes)) (drop start bytes)) ≡ len + 1 =
    ap (λ l. lines_length 1 l) behind ∙ one
    in
    omega (arith, at, add, last)

-- ---- how many lines end in a text

count_cons : (x : ℕ) (xs : List ℕ) → count_by is_feed (x ∷ xs) ≡ cond (is_feed x) 1 0 + count_by is_feed xs
count_cons x xs = sum_by-cons (λ b. cond (is_feed b) 1 0) x xs

count_parts : (start : ℕ) (text : List ℕ) → count_by is_feed text ≡ count_by is_feed (take start text) + count_by is_feed (drop start text)
count_parts start text =
    ap (λ (l : List ℕ). count_by is_feed l) (sym (take-append-drop start text))
    ∙ sum_by-append (λ b. cond (is_feed b) 1 0) (take start text) (drop start text)

one_feed : (text : List ℕ) (i : ℕ) → i < length text → (get_or text i 0 == 10) ≡ true
    → ((j : ℕ) → j < i → (get_or text j 0 == 10) ≡ true → ⊥) → count_by is_feed (take (suc i) text) ≡ 1
one_feed [] i less here none_before = absurd (omega arith)
one_feed (x ∷ xs) zero less here none_before = count_cons x [] ∙ ap (λ t. cond t 1 0 + 0) here
one_feed (x ∷ xs) (suc i) less here none_before =
    let other : is_feed x ≡ false = not_true (is_feed x) (λ e. none_before 0 (omega arith) e) in
    let h = one_feed xs i (omega arith) here (λ j low. none_before (suc j) (omega arith)) in
    count_cons x (take (suc i) xs) ∙ (λ j. cond (other j) 1 0 + h j)

no_feed : (text : List ℕ) → ((j : ℕ) → j < length text → (get_or text j 0 == 10) ≡ true → ⊥) → count_by is_feed text ≡ 0
no_feed [] none_there = refl
no_feed (x ∷ xs) none_there =
    let other : is_feed x ≡ false = not_true (is_feed x) (λ e. none_there 0 (omega arith) e) in
    let h = no_feed xs (λ j low. none_there (suc j) (omega arith)) in
    count_cons x xs ∙ (λ j. cond (other j) 1 0 + h j)

-- one more
pub count_turn : (bytes : List ℕ) (start len lines : ℕ) → lines ≡ count_by is_feed (take start bytes)
    → len < length (take (length bytes - start) (drop start bytes))
    → (get_or (take (length bytes - start) (drop start bytes)) len 0 == 10) ≡ true
    → ((j : ℕ) → 0 ≤ j → j < len → (get_or (take (length bytes - start) (drop start bytes)) j 0 == 10) ≡ true → ⊥)
    → lines + 1 ≡ count_by is_feed (take (start + (len + 1)) bytes)
count_turn bytes start len lines before less here none_before =
    let rest = take (length bytes - start) (drop start bytes) in
    let one : count_by is_feed (take (suc len) (drop start bytes)) ≡ 1 =
    ap (λ (l : List ℕ). count_by is_feed (take (suc len) l)) (sym (rest_is bytes start))
    ∙ one_feed rest len less here (λ j low. none_before j (omega arith) low)
    in
    let s : start + (len + 1) ≡ start + suc len = omega arith in
    let sum : count_by is_feed (take (start + (len + 1)) bytes)
    ≡ count_by is_feed (take start bytes) + count_by is_feed (take (suc len) (drop start bytes)) =
    ap (λ n. count_by is_feed (take n bytes)) s
    ∙ ap (λ (l : List ℕ). count_by is_feed l) (take-add start (suc len) bytes)
    ∙ sum_by-append (λ b. cond (is_feed b) 1 0) (take start bytes) (take (suc len) (drop start bytes))
    in
    omega (arith, before, one, sum)

-- and none is left
pub count_end : (bytes : List ℕ) (start lines : ℕ) → lines ≡ count_by is_feed (take start bytes)
    → ((j : ℕ) → 0 ≤ j → j < length (take (length bytes - start) (drop start bytes))
    → (get_or (take (length bytes - start) (drop start bytes)) j 0 == 10) ≡ true → ⊥)
    → lines ≡ count_by is_feed bytes
count_end bytes start lines before none_there =
    let rest : count_by is_feed (drop start bytes) ≡ 0 =
    ap (λ (l : List ℕ). count_by is_feed l) (sym (rest_is bytes start))
    ∙ no_feed (take (length bytes - start) (drop start bytes)) (λ j low. none_there j (omega arith) low)
    in
    let parts = count_parts start bytes in
    omega (arith, before, rest, parts)

-- or all bytes were line feeds
pub count_all : (bytes : List ℕ) (start lines : ℕ) → lines ≡ count_by is_feed (take start bytes) → length bytes ≤ lines
    → length bytes ≡ count_by is_feed bytes
count_all bytes start lines before past =
    let most = count_by-le-length is_feed bytes in
    let parts = count_parts start bytes in
    omega (arith, before, past, most, parts)

-- where the slice that is searched ends
pub end_within : (bytes : List ℕ) (end len : ℕ) → end ≤ length bytes → len < length (take (length bytes - end) (drop end bytes))
    → end + (len + 1) ≤ length bytes
end_within bytes end len inside less =
    let h = ap (λ (t : List ℕ). length t) (rest_is bytes end) in
    let l = length-drop end bytes in
    omega arith

-- ---- the lines of a text of lines

line_first : (line tail : List ℕ) (k : ℕ) → is_line line ≡ true
    → lines_length (suc k) (line ++ tail) ≡ length line + lines_length k tail
line_first [] tail k e = absurd cc
line_first (b ∷ []) tail k e = byte_ends k b tail e ∙ omega arith
line_first (b ∷ c ∷ bs) tail k e =
    let s = and_true (nat_le 32 b) (is_line (c ∷ bs)) e in
    let other : (b == 10) ≡ false = grind (arith, nat_tests, s.0) in
    byte_stays k b (c ∷ (bs ++ tail)) other ∙ ap suc (line_first (c ∷ bs) tail k s.1)
    ∙ suc_plus (length (c ∷ bs)) (lines_length k tail)

lines_first : (k : ℕ) (lines : List (List ℕ)) → list_all is_line lines ≡ true → k ≤ length lines
    → lines_length k (concat lines) ≡ length (concat (take k lines))
lines_first zero lines all low = refl
lines_first (suc k) [] all low = absurd (omega arith)
lines_first (suc k) (l ∷ ls) all low =
    let s = and_true (is_line l) (list_all is_line ls) all in
    line_first l (concat ls) k s.0 ∙ ap (λ n. length l + n) (lines_first k ls s.1 (omega arith))
    ∙ sym (length-append l (concat (take k ls)))

split_lines : (k : ℕ) (lines : List (List ℕ)) → concat lines ≡ concat (take k lines) ++ concat (drop k lines)
split_lines k lines =
    ap (λ (l : List (List ℕ)). concat l) (sym (take-append-drop k lines)) ∙ concat_append (take k lines) (drop k lines)

take_lines : (k : ℕ) (lines : List (List ℕ)) → take (length (concat (take k lines))) (concat lines) ≡ concat (take k lines)
take_lines k lines =
    ap (take (length (concat (take k lines)))) (split_lines k lines)
    ∙ take_at (concat (take k lines)) (concat (drop k lines)) (length (concat (take k lines))) refl

drop_lines : (k : ℕ) (lines : List (List ℕ)) → drop (length (concat (take k lines))) (concat lines) ≡ concat (drop k lines)
drop_lines k lines =
    ap (drop (length (concat (take k lines)))) (split_lines k lines)
    ∙ drop_at (concat (take k lines)) (concat (drop k lines)) (length (concat (take k lines))) refl

-- the text with another part in its midst
pub spliced_text : (text : List ℕ) (lines : List (List ℕ)) (place count from to : ℕ) (more : List ℕ) → text ≡ concat lines
    → list_all is_line lines ≡ true → place + count ≤ length lines → from ≡ lines_length place text
    → to ≡ from + lines_length count (drop from text)
    → replace_range text from to more ≡ concat (take place lines) ++ (more ++ concat (drop (place + count) lines))
spliced_text text lines place count from to more is all fits first second =
    let from_is : from ≡ length (concat (take place lines)) =
    first ∙ ap (λ l. lines_length place l) is ∙ lines_first place lines all (omega arith)
    in
    let to_is : to ≡ length (concat (take (place + count) lines)) =
    second ∙ (λ i. first i + lines_length count (drop (first i) text)) ∙ sym (lines_add place count text)
    ∙ ap (λ l. lines_length (place + count) l) is ∙ lines_first (place + count) lines all fits
    in
    let head : take from text ≡ concat (take place lines) = (λ i. take (from_is i) (is i)) ∙ take_lines place lines in
    let tail : drop to text ≡ concat (drop (place + count) lines) = (λ i. drop (to_is i) (is i)) ∙ drop_lines (place + count) lines in
    (λ i. (head i ++ more) ++ tail i) ∙ append_assoc (concat (take place lines)) more (concat (drop (place + count) lines))
