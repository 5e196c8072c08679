-- Asks that wait, none of which is a fetch: each reply is kept.
use Rattle.std.proofs.Common.{◌≡◌, ℕ, ◌==◌, Bool, true, false, cond, List, [], ◌∷◌, ◌++◌, Option, Some, None, option_and_then, refl, ap}
use Rattle.std.specs.Prelude.{⊤}
use Rattle.std.specs.List.{All}
use Rattle.std.proofs.lemmas.List.Elements.{All-head, All-tail}
use Rattle.front_mirror.specs.declared.replies.Ask.{Ask}
use Rattle.front_mirror.specs.Front.{FrontValue, ask_under, method_waiting, fetched_sheet, asks_without, reply_kept, unless_fetch}
use Rattle.front_mirror.specs.Front.{kept_reply}
use Rattle.front_mirror.specs.Laws.{without_all}
use Rattle.session_runs.specs.Fold.{asks_joined}
use Rattle.inspect_world.specs.Fits.{ask_of_frame, IsPlainFrame, with_ask, join}

-- none of them is a fetch
abbrev pub ArePlain : List Ask → Type 0
ArePlain [] = ⊤
ArePlain (ask ∷ asks) = (ask.sheet ≡ None) × ArePlain asks

found-plain : (b : Bool) (ask : Ask) (o : Option Ask) → ask.sheet ≡ None → option_and_then (λ (x : Ask). x.sheet) o ≡ None
    → option_and_then (λ (x : Ask). x.sheet) (cond b (Some ask) o) ≡ None
found-plain true ask o one rest = one
found-plain false ask o one rest = rest

no-fetch : (id : ℕ) (asks : List Ask) → ArePlain asks → fetched_sheet id asks ≡ None
no-fetch id [] plain = refl
no-fetch id (ask ∷ asks) plain = found-plain (ask.id == id) ask (ask_under id asks) plain.0 (no-fetch id asks plain.1)

-- a reply to one of them is kept
pub kept-plain : (id : ℕ) (asks : List Ask) (frame : List ℕ) (good : Bool) → ArePlain asks
    → kept_reply id asks frame good ≡ reply_kept (Some id) (method_waiting id asks) frame good ∷ []
kept-plain id asks frame good plain = ap (λ (o : Option ℕ). unless_fetch o (reply_kept (Some id) (method_waiting id asks) frame good))
    (no-fetch id asks plain)

either-plain : (b : Bool) (xs ys : List Ask) → ArePlain xs → ArePlain ys → ArePlain (cond b xs ys)
either-plain true xs ys first second = first
either-plain false xs ys first second = second

-- and the others are none either
pub without-plain : (id : ℕ) (asks : List Ask) → ArePlain asks → ArePlain (asks_without id asks)
without-plain id [] plain = tt
without-plain id (ask ∷ asks) plain = either-plain (ask.id == id) asks (ask ∷ asks_without id asks) plain.1
    (plain.0, without-plain id asks plain.1)

pub without_all-plain : (ids : List ℕ) (asks : List Ask) → ArePlain asks → ArePlain (without_all ids asks)
without_all-plain [] asks plain = plain
without_all-plain (id ∷ ids) asks plain = without_all-plain ids (asks_without id asks) (without-plain id asks plain)

last-plain : (asks : List Ask) (ask : Ask) → ArePlain asks → ask.sheet ≡ None → ArePlain (asks ++ ask ∷ [])
last-plain [] ask plain one = (one, tt)
last-plain (first ∷ asks) ask plain one = (plain.0, last-plain asks ask plain.1 one)

with_ask-plain : (v : FrontValue) (o : Option Ask) → option_and_then (λ (x : Ask). x.sheet) o ≡ None → ArePlain v.asks
    → ArePlain (with_ask v o).asks
with_ask-plain v None one plain = plain
with_ask-plain v (Some ask) one plain = last-plain v.asks ask plain one

-- the asks of frames that are no fetches are none
pub joined-plain : (v : FrontValue) (frames : List (List ℕ)) → All IsPlainFrame frames → ArePlain v.asks
    → ArePlain (asks_joined join v frames).asks
joined-plain v [] all plain = plain
joined-plain v (frame ∷ frames) all plain =
    joined-plain (join v frame) frames (All-tail IsPlainFrame frame frames all)
    (with_ask-plain v (ask_of_frame frame) (All-head IsPlainFrame frame frames all) plain)
