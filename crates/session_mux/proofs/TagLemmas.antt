-- A property whose name comes after all others stands last in an object's text, before the closing brace, and comes off again.
use Rattle.std.proofs.Common.{◌≡◌, ℕ, ◌-◌, List, [], ◌∷◌, ◌++◌, length, take, Bool, true, false, cond, bytes_eq, Some, None, refl, sym}
use Rattle.std.proofs.Common.{◌∙◌, ap, append_assoc, length-append, arith}
use Rattle.std.specs.Prelude.{codes, ⊤}
use Rattle.std.specs.declared.cmp.Ordering.TheVariants.{Greater}
use Rattle.std.specs.Cmp.Lexicographic.{slice_cmp, nat_list_eq_equiv}
use Rattle.std.specs.Ordering.{is_eq, nat_cmp, match_ordering}
use Rattle.std.proofs.lemmas.Map.Text.{is_eq-slice_cmp}
use Rattle.std.proofs.Math.Seq.{take-append_seam}
use Rattle.json.specs.Print.{quoted}
use Rattle.serde_json.specs.Data.{Data, string, object, Members, no_members, member, put}
use Rattle.serde_json.specs.Written.{compact_text, members_text, comma_if}
use Rattle.pipe_frames.specs.Frames.{framed}
use Rattle.cdp_json.specs.Kinds.{whole}
use Rattle.cdp_messages.specs.Events.{event_name, news_form}
use Rattle.cdp_messages.specs.Replies.{reply, fault, event, error_kind}
use Rattle.cdp_messages.specs.SessionFrames.{session_name, without, without_session}
use Rattle.session_mux.specs.Sessions.{session_text}
use Rattle.session_mux.specs.Tags.{with_session}
use Rattle.session_mux.specs.TaggedTexts.{session_end, tagged_frame}
use Rattle.session_mux.specs.Laws.{TagsStandLast, TagsComeOff}

-- each name comes before this one
abbrev AreBefore : List ℕ → Members → Type 0
AreBefore k no_members = ⊤
AreBefore k (member l d ms) = (slice_cmp nat_cmp k l ≡ Greater) × AreBefore k ms

-- a member more, at the end
abbrev put_end : List ℕ → Data → Members → Members
put_end k d no_members = member k d no_members
put_end k d (member l e ms) = member l e (put_end k d ms)

put-last : (k : List ℕ) (d : Data) (ms : Members) → AreBefore k ms → put k d ms ≡ put_end k d ms
put-last k d no_members before = refl
put-last k d (member l e ms) before =
    ap (λ o. match_ordering o (member k d (member l e ms)) (member l d ms) (member l e (put k d ms))) before.0
    ∙ ap (λ xs. member l e xs) (put-last k d ms before.1)

-- the text up to the closing brace
abbrev text_open : Bool → Members → List ℕ
text_open later no_members = []
text_open later (member k d ms) = comma_if later ++ (quoted k ++ 58 ∷ (compact_text d ++ text_open true ms))

shift : (a q c o : List ℕ) (e : List ℕ) → a ++ (q ++ 58 ∷ (c ++ (o ++ e))) ≡ (a ++ (q ++ 58 ∷ (c ++ o))) ++ e
shift a q c o e =
    ap (λ xs. a ++ (q ++ 58 ∷ xs)) (sym (append_assoc c o e))
    ∙ ap (λ xs. a ++ xs) (sym (append_assoc q (58 ∷ (c ++ o)) e))
    ∙ sym (append_assoc a (q ++ 58 ∷ (c ++ o)) e)

text-closed : (later : Bool) (ms : Members) → members_text later ms ≡ text_open later ms ++ 125 ∷ []
text-closed later no_members = refl
text-closed later (member k d ms) =
    ap (λ xs. comma_if later ++ (quoted k ++ 58 ∷ (compact_text d ++ xs))) (text-closed true ms)
    ∙ shift (comma_if later) (quoted k) (compact_text d) (text_open true ms) (125 ∷ [])

-- a member behind others, and the closing brace
abbrev member_end : List ℕ → Data → List ℕ
member_end k d = 44 ∷ (quoted k ++ 58 ∷ (compact_text d ++ 125 ∷ []))

-- with a member more, behind another one
text-longer : (k : List ℕ) (d : Data) (ms : Members) → members_text true (put_end k d ms) ≡ text_open true ms ++ member_end k d
text-longer k d no_members = refl
text-longer k d (member l e ms) =
    ap (λ xs. comma_if true ++ (quoted l ++ 58 ∷ (compact_text e ++ xs))) (text-longer k d ms)
    ∙ shift (comma_if true) (quoted l) (compact_text e) (text_open true ms) (member_end k d)

-- all but the last byte
take-front : (xs : List ℕ) (x : ℕ) → take (length (xs ++ x ∷ []) - 1) (xs ++ x ∷ []) ≡ xs
take-front xs x =
    let count : length (xs ++ x ∷ []) - 1 ≡ length xs = ap (λ n. n - 1) (length-append xs (x ∷ [])) ∙ omega arith in
    ap (λ n. take n (xs ++ x ∷ [])) count ∙ take-append_seam xs (x ∷ [])

same : (k : List ℕ) → bytes_eq k k ≡ true
same k = nat_list_eq_equiv.refl k

apart : (k l : List ℕ) → slice_cmp nat_cmp k l ≡ Greater → bytes_eq k l ≡ false
apart k l h = sym (is_eq-slice_cmp k l) ∙ ap is_eq h

without-last : (k : List ℕ) (d : Data) (ms : Members) → AreBefore k ms → without k (put_end k d ms) ≡ ms
without-last k d no_members before = ap (λ b. cond b no_members (member k d no_members)) (same k)
without-last k d (member l e ms) before =
    ap (λ b. cond b (put_end k d ms) (member l e (without k (put_end k d ms)))) (apart k l before.0)
    ∙ ap (λ xs. member l e xs) (without-last k d ms before.1)

-- ---- objects

-- a session behind the properties of an object
abbrev with_end : ℕ → Members → Members
with_end n ms = put_end session_name (string (session_text n)) ms

-- the text of an object that is not empty, with a session: what stands before the closing brace, and then the session
object-text : (n : ℕ) (l : List ℕ) (d : Data) (ms : Members) → AreBefore session_name (member l d ms)
    → framed (compact_text (with_session n (object (member l d ms))))
    ≡ tagged_frame (session_end n) (compact_text (object (member l d ms)))
object-text n l d ms before =
    let s = string (session_text n) in
    let all : Members = member l d ms in
    let front = 123 ∷ text_open false all in
    let plain : compact_text (object all) ≡ front ++ 125 ∷ [] = ap (λ xs. 123 ∷ xs) (text-closed false all) in
    let longer : compact_text (with_session n (object all)) ≡ front ++ member_end session_name s
    = ap (λ xs. compact_text (object xs)) (put-last session_name s all before)
    ∙ ap (λ xs. 123 ∷ (quoted l ++ 58 ∷ (compact_text d ++ xs))) (text-longer session_name s ms)
    ∙ ap (λ xs. 123 ∷ xs) (shift [] (quoted l) (compact_text d) (text_open true ms) (member_end session_name s)) in
    let ended : member_end session_name s ++ 0 ∷ [] ≡ session_end n
    = ap (λ xs. 44 ∷ xs) (append_assoc (quoted session_name) (58 ∷ (quoted (session_text n) ++ 125 ∷ [])) (0 ∷ [])
    ∙ ap (λ xs. quoted session_name ++ 58 ∷ xs) (append_assoc (quoted (session_text n)) (125 ∷ []) (0 ∷ []))) in
    ap framed longer
    ∙ append_assoc front (member_end session_name s) (0 ∷ [])
    ∙ ap (λ xs. front ++ xs) ended
    ∙ ap (λ xs. xs ++ session_end n) (sym (ap (λ xs. take (length xs - 1) xs) plain ∙ take-front front 125))

object-off : (n : ℕ) (ms : Members) → AreBefore session_name ms → without_session (with_session n (object ms)) ≡ object ms
object-off n ms before =
    ap (λ xs. object (without session_name xs)) (put-last session_name (string (session_text n)) ms before)
    ∙ ap object (without-last session_name (string (session_text n)) ms before)

-- ---- messages: each name in them comes before that of a session

pub tags-last : TagsStandLast
tags-last n (reply id result) =
    object-text n (codes "id") (whole.spell id) (member (codes "result") result no_members) (refl, (refl, tt))
tags-last n (fault None code said) = object-text n (codes "error") (error_kind.spell (code, (said, tt))) no_members (refl, tt)
tags-last n (fault (Some id) code said) =
    object-text n (codes "error") (error_kind.spell (code, (said, tt))) (member (codes "id") (whole.spell id) no_members) (refl, (refl, tt))
tags-last n (event news) =
    object-text n (codes "method") (string (event_name (news_form news).name)) (member (codes "params") (news_form news).params no_members)
    (refl, (refl, tt))

pub tags-off : TagsComeOff
tags-off n (reply id result) =
    object-off n (member (codes "id") (whole.spell id) (member (codes "result") result no_members)) (refl, (refl, tt))
tags-off n (fault None code said) = object-off n (member (codes "error") (error_kind.spell (code, (said, tt))) no_members) (refl, tt)
tags-off n (fault (Some id) code said) =
    object-off n (member (codes "error") (error_kind.spell (code, (said, tt))) (member (codes "id") (whole.spell id) no_members))
    (refl, (refl, tt))
tags-off n (event news) =
    object-off n (member (codes "method") (string (event_name (news_form news).name))
    (member (codes "params") (news_form news).params no_members)) (refl, (refl, tt))
