-- A service answers the frames that came, in whatever pieces they come.
use Rattle.std.proofs.Common.{◌≡◌, ℕ, List, [], ◌∷◌, ◌++◌, Option, None, Result, Ok, Err, refl, sym, ◌∙◌, ap, subst, append_assoc}
use Rattle.std.proofs.Common.{append-nil, arith}
use Rattle.std.specs.Result.{OnOk, IsErrAnd}
use Rattle.std.proofs.lemmas.Result.{err_from_is_err_and}
use Rattle.std.specs.Io.KnownBytes.{Appends}
use Rattle.pipe_frames.specs.Frames.{Frames, frames_of, continued, frames_from, held_after}
use Rattle.pipe_frames.specs.Whole.{WrotePart}
use Rattle.pipe_frames.proofs.FrameLemmas.{frames_of-append}
use Rattle.pipe_frames.proofs.WholeLemmas.{Appends-nil, Appends-append, WrotePart-after}
use Rattle.std.specs.Str.{IsUtf8}
use Rattle.std.proofs.lemmas.List.Elements.{All-nil}
use Rattle.page_forms.specs.declared.sheets.SheetForm.{SheetForm}
use Rattle.page_forms.specs.Pages.{CanLoadPage}
use Rattle.page_forms.specs.Texts.{PageHasTexts}
use Rattle.back_end.specs.Seats.{first_page}
use Rattle.session_runs.specs.World.{Stepped, steps}
use Rattle.inspect_replay.specs.declared.service.Service.{Service}
use Rattle.replay_parts.specs.declared.stop.Stop.{Stop}
use Rattle.replay_parts.specs.declared.stop.Stop.TheVariants.{Line, TooLong, ReadFault, WriteFault, LinkFault, FrontRefused, NoRoom}
use Rattle.replay_parts.specs.declared.stop.Stop.TheVariants.{Memory}
use Rattle.inspect_replay.specs.Served.{Served, served_step, served_run, served, HasRoomFor, RoomForEach, ClientsStandFor}
use Rattle.inspect_replay.specs.Serving.{AllAnswered, EndsBy, HaltedIn, IsServing, ServeMoment, serve_moment, SoFar, with_more}
use Rattle.inspect_replay.specs.Serving.{Serves, Answered, PartServed, ServesOn}
use Rattle.replay_parts.proofs.StopLemmas.{wrote-none}

-- ---- steps on frames

-- steps on some frames, and then on others
pub steps-append : {S : Type 0} (step : S → List ℕ → Stepped S) (s : S) (xs ys : List (List ℕ))
    → steps step s (xs ++ ys) ≡ record {
      state = (steps step (steps step s xs).state ys).state;
      sent = (steps step s xs).sent ++ (steps step (steps step s xs).state ys).sent;
    }
steps-append step s [] ys = refl
steps-append step s (x ∷ xs) ys =
    let first = step s x in
    let front = steps step first.state xs in
    let back = steps step front.state ys in
    ap (λ (later : Stepped _). record { state = later.state; sent = first.sent ++ later.sent }) (steps-append step first.state xs ys)
    ∙ ap (λ sent. record { state = back.state; sent = sent }) (sym (append_assoc first.sent front.sent back.sent))

room-append : (now : Served) (xs ys : List (List ℕ)) → RoomForEach now xs → RoomForEach (steps served_step now xs).state ys
    → RoomForEach now (xs ++ ys)
room-append now [] ys front back = back
room-append now (x ∷ xs) ys front back = (front.0, room-append (served_step now x).state xs ys front.1 back)

-- all of these are answered, and then all of those
pub all-append : (now : Served) (xs ys : List (List ℕ)) (before middle after : Option (List ℕ)) → AllAnswered now xs before middle
    → AllAnswered (steps served_step now xs).state ys middle after
    → AllAnswered now (xs ++ ys) before after
all-append now xs ys before middle after front back = record {
  room = room-append now xs ys front.room back.room;
  wrote = subst (λ (done : Stepped Served). Appends before after done.sent) (sym (steps-append served_step now xs ys))
      (Appends-append before middle after (steps served_step now xs).sent
      (steps served_step (steps served_step now xs).state ys).sent front.wrote back.wrote);
}

-- none is answered, where there is none
pub all-none : (now : Served) (taken : Option (List ℕ)) → AllAnswered now [] taken taken
all-none now taken = record { room = tt; wrote = Appends-nil taken }

ends-after : (stop : Stop) (done : Stepped Served) (others : List (List ℕ)) (before middle after : Option (List ℕ)) (sent : List ℕ)
    → Appends before middle sent → EndsBy stop done others middle after
    → EndsBy stop (record { state = done.state; sent = sent ++ done.sent }) others before after
ends-after (Line number fault) done others before middle after sent front back = absurd back
ends-after TooLong done others before middle after sent front back = absurd back
ends-after ReadFault done others before middle after sent front back = absurd back
ends-after WriteFault done others before middle after sent front back = WrotePart-after before middle after sent done.sent front back
ends-after LinkFault done others before middle after sent front back = absurd back
ends-after (FrontRefused place fault) done others before middle after sent front back = absurd back
ends-after NoRoom done others before middle after sent front back = (
  back.0,
  Appends-append before middle after sent done.sent front back.1,
)
ends-after Memory done others before middle after sent front back = WrotePart-after before middle after sent done.sent front back

-- all of these are answered, and then answering stops within those
pub halted-after : (stop : Stop) (now : Served) (xs ys : List (List ℕ)) (before middle after : Option (List ℕ))
    → AllAnswered now xs before middle → HaltedIn stop (steps served_step now xs).state ys middle after
    → HaltedIn stop now (xs ++ ys) before after
halted-after stop now xs ys before middle after front back =
    let later = steps served_step (steps served_step now xs).state back.answered in
    record {
      answered = xs ++ back.answered;
      others = back.others;
      cut = ap (λ frames. xs ++ frames) back.cut ∙ sym (append_assoc xs back.answered back.others);
      room = room-append now xs back.answered front.room back.room;
      ends = subst (λ (done : Stepped Served). EndsBy stop done back.others before after)
          (sym (steps-append served_step now xs back.answered))
          (ends-after stop later back.others before middle after (steps served_step now xs).sent front.wrote back.ends);
    }

ends-longer : (stop : Stop) (done : Stepped Served) (others more : List (List ℕ)) (before after : Option (List ℕ))
    → EndsBy stop done others before after → EndsBy stop done (others ++ more) before after
ends-longer (Line number fault) done others more before after ends = absurd ends
ends-longer TooLong done others more before after ends = absurd ends
ends-longer ReadFault done others more before after ends = absurd ends
ends-longer WriteFault done others more before after ends = ends
ends-longer LinkFault done others more before after ends = absurd ends
ends-longer (FrontRefused place fault) done others more before after ends = absurd ends
ends-longer NoRoom done others more before after ends = (
  record {
    frame = ends.0.frame;
    later = ends.0.later ++ more;
    others_are = ap (λ frames. frames ++ more) ends.0.others_are;
    full = ends.0.full;
  },
  ends.1,
)
ends-longer Memory done others more before after ends = ends

-- answering stops within these, whatever comes behind them
pub halted-longer : (stop : Stop) (now : Served) (xs more : List (List ℕ)) (before after : Option (List ℕ))
    → HaltedIn stop now xs before after → HaltedIn stop now (xs ++ more) before after
halted-longer stop now xs more before after halted = record {
  answered = halted.answered;
  others = halted.others ++ more;
  cut = ap (λ frames. frames ++ more) halted.cut ∙ append_assoc halted.answered halted.others more;
  room = halted.room;
  ends = ends-longer stop (steps served_step now halted.answered) halted.others more before after halted.ends;
}

-- no memory is left for the first of them
pub lost-first : (now : Served) (frames : List (List ℕ)) (taken : Option (List ℕ)) → HaltedIn Memory now frames taken taken
lost-first now frames taken = record { answered = []; others = frames; cut = refl; room = tt; ends = wrote-none taken [] }

-- there is no room for it
pub full-first : (now : Served) (frame : List ℕ) (taken : Option (List ℕ)) → (HasRoomFor now → ⊥)
    → HaltedIn NoRoom now (frame ∷ []) taken taken
full-first now frame taken full = record {
  answered = [];
  others = frame ∷ [];
  cut = refl;
  room = tt;
  ends = (record { frame = frame; later = []; others_are = refl; full = full }, Appends-nil taken);
}

-- ---- what came

-- what is answered to a piece, after these bytes
abbrev pub answers_after : Served → List ℕ → List ℕ → Stepped Served
answers_after first bytes piece = steps served_step (served_run first bytes).state (frames_from (frames_of bytes).rest piece)

run-more : (first : Served) (bytes piece : List ℕ)
    → served_run first (bytes ++ piece) ≡ record {
      state = (answers_after first bytes piece).state;
      sent = served first bytes ++ (answers_after first bytes piece).sent;
    }
run-more first bytes piece =
    ap (λ (f : Frames). steps served_step first f.whole) (frames_of-append bytes piece)
    ∙ steps-append served_step first (frames_of bytes).whole (frames_from (frames_of bytes).rest piece)

state-more : (first : Served) (bytes piece : List ℕ)
    → (served_run first (bytes ++ piece)).state ≡ (answers_after first bytes piece).state
state-more first bytes piece = ap (λ (done : Stepped Served). done.state) (run-more first bytes piece)

-- the whole frames, with a piece more
pub whole-more : (bytes piece : List ℕ)
    → (frames_of (bytes ++ piece)).whole ≡ (frames_of bytes).whole ++ frames_from (frames_of bytes).rest piece
whole-more bytes piece = ap (λ (f : Frames). f.whole) (frames_of-append bytes piece)

rest-more : (bytes piece : List ℕ) → (frames_of (bytes ++ piece)).rest ≡ held_after (frames_of bytes).rest piece
rest-more bytes piece = ap (λ (f : Frames). f.rest) (frames_of-append bytes piece)

-- ---- the start

-- no frame is whole in no bytes
pub none-whole : (frames_of []).whole ≡ []
unfolding frames_of
none-whole = refl

none-held : (frames_of []).rest ≡ []
unfolding frames_of
none-held = refl

pub nothing-loaded : CanLoadPage (first_page None)
nothing-loaded = record { nodes = record { formed = refl; named = refl; levels = omega arith; room = omega arith }; sheets = refl }

pub no-texts : PageHasTexts (first_page None)
no-texts = record { nodes = tt; sheets = All-nil (λ (sheet : SheetForm). IsUtf8 sheet.text) }

pub starts-serving : (first : Served) (service : Service) → ClientsStandFor service.clients service.side first
    → service.splitter ≡ record { whole = []; rest = [] } → IsServing first service []
starts-serving first service stands cut = record {
  cut = cut ∙ ap (λ rest. record { whole = []; rest = rest }) (sym none-held);
  stands = subst (λ frames. ClientsStandFor service.clients service.side (steps served_step first frames).state) (sym none-whole) stands;
}

-- before anything came
pub serves-nothing : (first : Served) (service : Service) (taken : Option (List ℕ)) → IsServing first service []
    → Serves (record { first = first; start = taken; bytes = [] }) (serve_moment service taken)
serves-nothing first service taken is = record {
  is_serving = is;
  answered = subst (λ frames. AllAnswered first frames taken taken) (sym none-whole) (all-none first taken);
}

-- ---- one frame

frame-sent : (now : Served) (frame old message : List ℕ) → old ≡ [] → message ≡ old ++ (served_step now frame).sent
    → message ≡ (steps served_step now (frame ∷ [])).sent
frame-sent now frame old message none is =
    is ∙ ap (λ start. start ++ (served_step now frame).sent) none ∙ sym (append-nil (served_step now frame).sent)

pub frame-answered : (now : Served) (frame old message piece : List ℕ) (before : Option (List ℕ)) (new : ServeMoment) → HasRoomFor now
    → old ≡ [] → message ≡ old ++ (served_step now frame).sent → piece ≡ message
    → ClientsStandFor new.service.clients new.service.side (served_step now frame).state → Appends before new.taken piece
    → Answered {T = Unit {0}} now (frame ∷ []) before new (Ok tt)
frame-answered now frame old message piece before new room none is same stands wrote = (
  stands,
  record {
    room = (room, tt);
    wrote = subst (λ bytes. Appends before new.taken bytes) (same ∙ frame-sent now frame old message none is) wrote;
  },
)

-- a front part of the answer was written
pub frame-in-part : (now : Served) (frame old message piece : List ℕ) (before after : Option (List ℕ)) → old ≡ []
    → message ≡ old ++ (served_step now frame).sent → piece ≡ message → WrotePart before after piece
    → WrotePart before after (steps served_step now (frame ∷ [])).sent
frame-in-part now frame old message piece before after none is same wrote =
    subst (λ bytes. WrotePart before after bytes) (same ∙ frame-sent now frame old message none is) wrote

-- and answering stops by that
pub frame-halted : (stop : Stop) (now : Served) (frame : List ℕ) (before after : Option (List ℕ)) → HasRoomFor now
    → EndsBy stop (steps served_step now (frame ∷ [])) [] before after
    → HaltedIn stop now (frame ∷ []) before after
frame-halted stop now frame before after room ends = record {
  answered = frame ∷ [];
  others = [];
  cut = refl;
  room = (room, tt);
  ends = ends;
}

-- ---- frames that are whole

-- some of them are answered, and the splitter holds the others
pub record AnswersSoFar (before : Option (List ℕ)) (at : ServeMoment) (now : Served) (all : List (List ℕ)) : Type 0 where
  pub answered : List (List ℕ)
  pub cut : all ≡ answered ++ at.service.splitter.whole
  pub stands : ClientsStandFor at.service.clients at.service.side (steps served_step now answered).state
  pub done : AllAnswered now answered before at.taken

pub none-answered : (old : ServeMoment) (now : Served) → ClientsStandFor old.service.clients old.service.side now
    → AnswersSoFar old.taken old now old.service.splitter.whole
none-answered old now stands = record { answered = []; cut = refl; stands = stands; done = all-none now old.taken }

-- the next frame, after those that were answered
next-frame : (at : ServeMoment) (now : Served) (all : List (List ℕ)) (before : Option (List ℕ)) (frame : List ℕ) (others : List (List ℕ))
    → (so_far : AnswersSoFar before at now all) → at.service.splitter.whole ≡ frame ∷ others
    → all ≡ (so_far.answered ++ frame ∷ []) ++ others
next-frame at now all before frame others so_far first =
    so_far.cut ∙ ap (λ whole. so_far.answered ++ whole) first ∙ sym (append_assoc so_far.answered (frame ∷ []) others)

pub one-answered : (at new : ServeMoment) (now : Served) (all : List (List ℕ)) (before : Option (List ℕ)) (frame : List ℕ)
    (others : List (List ℕ))
    → AnswersSoFar before at now all → at.service.splitter.whole ≡ frame ∷ others → new.service.splitter.whole ≡ others
    → ((next : Served) → ClientsStandFor at.service.clients at.service.side next
    → Answered {T = Unit {0}} next (frame ∷ []) at.taken new (Ok tt))
    → AnswersSoFar before new now all
one-answered at new now all before frame others so_far first left answers =
    let middle = (steps served_step now so_far.answered).state in
    let both = answers middle so_far.stands in
    record {
      answered = so_far.answered ++ frame ∷ [];
      cut = next-frame at now all before frame others so_far first ∙ ap (λ whole. (so_far.answered ++ frame ∷ []) ++ whole) (sym left);
      stands = subst (λ (done : Stepped Served). ClientsStandFor new.service.clients new.service.side done.state)
          (sym (steps-append served_step now so_far.answered (frame ∷ []))) both.0;
      done = all-append now so_far.answered (frame ∷ []) before at.taken new.taken so_far.done both.1;
    }

pub one-halted : (stop : Stop) (at : ServeMoment) (after : Option (List ℕ)) (now : Served) (all : List (List ℕ)) (before : Option (List ℕ))
    (frame : List ℕ) (others : List (List ℕ))
    → AnswersSoFar before at now all → at.service.splitter.whole ≡ frame ∷ others
    → ((next : Served) → ClientsStandFor at.service.clients at.service.side next → HaltedIn stop next (frame ∷ []) at.taken after)
    → HaltedIn stop now all before after
one-halted stop at after now all before frame others so_far first halted =
    let middle = (steps served_step now so_far.answered).state in
    subst (λ frames. HaltedIn stop now frames before after) (sym (next-frame at now all before frame others so_far first))
    (halted-longer stop now (so_far.answered ++ frame ∷ []) others before after
    (halted-after stop now so_far.answered (frame ∷ []) before at.taken after so_far.done (halted middle so_far.stands)))

pub all-answered : (at new : ServeMoment) (now : Served) (all : List (List ℕ)) (before : Option (List ℕ))
    → AnswersSoFar before at now all → at.service.splitter.whole ≡ [] → new.service.clients ≡ at.service.clients
    → new.service.side ≡ at.service.side → new.taken ≡ at.taken
    → Answered {T = Unit {0}} now all before new (Ok tt)
all-answered at new now all before so_far none same_clients same_side same_taken =
    let whole : all ≡ so_far.answered = so_far.cut ∙ ap (λ others. so_far.answered ++ others) none ∙ append-nil so_far.answered in
    let stands : ClientsStandFor at.service.clients at.service.side (steps served_step now all).state =
    subst (λ frames. ClientsStandFor at.service.clients at.service.side (steps served_step now frames).state) (sym whole) so_far.stands in
    let done : AllAnswered now all before at.taken = subst (λ frames. AllAnswered now frames before at.taken) (sym whole) so_far.done in (
      subst (λ side. ClientsStandFor new.service.clients side (steps served_step now all).state) (sym same_side)
          (subst (λ clients. ClientsStandFor clients at.service.side (steps served_step now all).state) (sym same_clients) stands),
      subst (λ taken. AllAnswered now all before taken) (sym same_taken) done,
    )

-- ---- a piece

-- the splitter has taken a piece: these frames are whole
pub record HasTaken (so_far : SoFar) (piece : List ℕ) (split : Frames) : Type 0 where
  pub whole_is : split.whole ≡ frames_from (frames_of so_far.bytes).rest piece
  pub rest_is : split.rest ≡ (frames_of (so_far.bytes ++ piece)).rest

pub has-taken : (so_far : SoFar) (old : ServeMoment) (piece : List ℕ) (split : Frames) → Serves so_far old
    → split ≡ continued old.service.splitter piece → HasTaken so_far piece split
has-taken so_far old piece split serves is =
    let cut = is ∙ ap (λ frames. continued frames piece) serves.is_serving.cut in
    record {
      whole_is = ap (λ (f : Frames). f.whole) cut;
      rest_is = ap (λ (f : Frames). f.rest) cut ∙ sym (rest-more so_far.bytes piece);
    }

pub piece-served : (so_far : SoFar) (old new : ServeMoment) (piece : List ℕ) (split : Frames) → Serves so_far old
    → HasTaken so_far piece split
    → new.service.splitter ≡ record { whole = []; rest = split.rest }
    → ((now : Served) → ClientsStandFor old.service.clients old.service.side now
    → Answered {T = Unit {0}} now split.whole old.taken new (Ok tt))
    → Serves (with_more so_far piece) new
piece-served so_far old new piece split serves taken left answers =
    let first = so_far.first in
    let before = served_run first so_far.bytes in
    let both = answers before.state serves.is_serving.stands in
    record {
      is_serving = record {
        cut = left ∙ ap (λ rest. record { whole = []; rest = rest }) taken.rest_is;
        stands = subst (λ now. ClientsStandFor new.service.clients new.service.side now) (sym (state-more first so_far.bytes piece))
            (subst (λ frames. ClientsStandFor new.service.clients new.service.side
            (steps served_step before.state frames).state) taken.whole_is both.0);
      };
      answered = subst (λ frames. AllAnswered first frames so_far.start new.taken) (sym (whole-more so_far.bytes piece))
          (all-append first (frames_of so_far.bytes).whole (frames_from (frames_of so_far.bytes).rest piece) so_far.start old.taken
          new.taken serves.answered (subst (λ frames. AllAnswered before.state frames old.taken new.taken) taken.whole_is both.1));
    }

-- answering stopped within a piece
piece-stopped : (stop : Stop) (so_far : SoFar) (old : ServeMoment) (after : Option (List ℕ)) (piece : List ℕ) → Serves so_far old
    → HaltedIn stop (served_run so_far.first so_far.bytes).state (frames_from (frames_of so_far.bytes).rest piece) old.taken after
    → PartServed stop (with_more so_far piece) after
piece-stopped stop so_far old after piece serves halted =
    subst (λ frames. HaltedIn stop so_far.first frames so_far.start after) (sym (whole-more so_far.bytes piece))
    (halted-after stop so_far.first (frames_of so_far.bytes).whole (frames_from (frames_of so_far.bytes).rest piece) so_far.start
    old.taken after serves.answered halted)

pub piece-in-part : (stop : Stop) (so_far : SoFar) (old : ServeMoment) (after : Option (List ℕ)) (piece : List ℕ) (split : Frames)
    → Serves so_far old → HasTaken so_far piece split
    → ((now : Served) → ClientsStandFor old.service.clients old.service.side now → HaltedIn stop now split.whole old.taken after)
    → PartServed stop (with_more so_far piece) after
piece-in-part stop so_far old after piece split serves taken part =
    let before = served_run so_far.first so_far.bytes in
    piece-stopped stop so_far old after piece serves
    (subst (λ frames. HaltedIn stop before.state frames old.taken after) taken.whole_is (part before.state serves.is_serving.stands))

-- nothing of a piece was answered
pub piece-lost : (so_far : SoFar) (old : ServeMoment) (piece : List ℕ) → Serves so_far old
    → PartServed Memory (with_more so_far piece) old.taken
piece-lost so_far old piece serves =
    piece-stopped Memory so_far old old.taken piece serves
    (lost-first (served_run so_far.first so_far.bytes).state (frames_from (frames_of so_far.bytes).rest piece) old.taken)

-- the end of a piece, by what its frames came to
pub piece-ends : {T : Type 0} (result : Result T Stop) (so_far : SoFar) (old new : ServeMoment) (piece : List ℕ) (split : Frames)
    → Serves so_far old → HasTaken so_far piece split
    → OnOk result (new.service.splitter ≡ record { whole = []; rest = split.rest })
    → ((now : Served) → ClientsStandFor old.service.clients old.service.side now → Answered now split.whole old.taken new result)
    → ServesOn (with_more so_far piece) new result
piece-ends (Ok value) so_far old new piece split serves taken left answers = piece-served so_far old new piece split serves taken left
    answers
piece-ends (Err stop) so_far old new piece split serves taken left answers = piece-in-part stop so_far old new.taken piece split serves
    taken answers

-- a frame that no memory was left for
pub frame-lost : {T : Type 0} (result : Result T Stop) (now : Served) (frames : List (List ℕ)) (taken : Option (List ℕ))
    (service : Service) → IsErrAnd result (λ stop. stop ≡ Memory)
    → Answered now frames taken (serve_moment service taken) result
frame-lost result now frames taken service lost =
    let p = err_from_is_err_and result lost in
    let is : result ≡ Err Memory = p.1 ∙ ap (λ (stop : Stop). Err stop) p.2 in
    subst (λ (r : Result _ Stop). Answered now frames taken (serve_moment service taken) r) (sym is) (lost-first now frames taken)
