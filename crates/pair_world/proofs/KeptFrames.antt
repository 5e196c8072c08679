-- A front end that has sent no fetch has kept the replies and the pauses among the frames that came to it.
use Rattle.std.proofs.Common.{◌≡◌, ℕ, ◌<◌, Bool, true, false, cond, List, [], ◌∷◌, ◌++◌, map, All, Some, None, option_map, Ok}
use Rattle.std.proofs.Common.{refl, sym, ◌∙◌, ap, subst}
use Rattle.std.specs.List.{flat_map}
use Rattle.std.specs.Option.{option_to_list}
use Rattle.std.proofs.lemmas.List.Elements.{All-head, All-tail}
use Rattle.front_mirror.specs.declared.replies.Ask.{Ask}
use Rattle.front_mirror.specs.Front.{FrontValue, first_value, take_frame, seen_pause}
use Rattle.session_mux.specs.Sessions.{session_text}
use Rattle.session_runs.specs.Fold.{folded, asks_joined}
use Rattle.session_runs.specs.Pairs.{Way, to_root, to_session, attaches, detaches, Down, bare, of_session, asks_of_session}
use Rattle.session_runs.specs.Pairs.{take_pair}
use Rattle.session_runs.specs.Pairs.{join_two, join_way, join_pair}
use Rattle.session_runs.specs.PairCame as came
use Rattle.session_runs.specs.PairCame.{of_first, first_came, of_that}
use Rattle.session_runs.proofs.PairFolds.{asks-later}
use Rattle.session_runs.proofs.CameLemmas.{first-took, second-took}
use Rattle.multi_replay.specs.Folds.{asks_more}
use Rattle.multi_replay.specs.Incoming.{frame_down, session_number}
use Rattle.inspect_world.specs.ShownReplies.{reply_shown, replies_among}
use Rattle.inspect_world.specs.ShownPauses.{pauses_in_frame}
use Rattle.inspect_world.specs.Fits.{ask_of_frame}
use Rattle.inspect_world.proofs.PlainAsks.{ArePlain}
use Rattle.inspect_world.proofs.Replies.{replies-folded}
use Rattle.inspect_world.proofs.Growing.{Grows, grows-folded}
use Rattle.pair_world.specs.SessionWays.{frame_way}
use Rattle.pair_world.specs.Clients.{pair_reads}
use Rattle.pair_world.specs.Shown.{IsSessionNumber}
use Rattle.pair_world.specs.PairRuns.{of_root, in_session}
use Rattle.pair_world.specs.PairFresh.{FrontValues, no_fronts}
use Rattle.pair_world.specs.FetchShown.{asks_in_way, IsPlainOfPair}
use Rattle.pair_world.proofs.ClientLemmas.{read_laws}
use Rattle.pair_world.proofs.TargetTexts.{number-read}
use Rattle.pair_world.proofs.FetchBoth.{number_laws}

-- ---- which frames come to which

-- the first front end's among some frames
abbrev pub to_first : List (List ℕ) → List (List ℕ)
to_first frames = flat_map (λ frame. of_root frame (frame_down frame)) frames

-- those of the session of that text
abbrev pub to_that : List ℕ → List (List ℕ) → List (List ℕ)
to_that t frames = flat_map (λ frame. in_session t (frame_down frame)) frames

root-same : (frame : List ℕ) (down : Down (List ℕ)) → of_first pair_reads frame down ≡ of_root frame down
root-same frame (bare None) = refl
root-same frame (bare (Some id)) = refl
root-same frame (of_session t text) = refl

that-same : (t : List ℕ) (down : Down (List ℕ)) → of_that pair_reads t down ≡ in_session t down
that-same t (bare id) = refl
that-same t (of_session u text) = refl

first-same : (frames : List (List ℕ)) → first_came pair_reads frames ≡ to_first frames
first-same [] = refl
first-same (frame ∷ frames) =
    ap (λ xs. xs ++ first_came pair_reads frames) (root-same frame (frame_down frame))
    ∙ ap (λ ys. of_root frame (frame_down frame) ++ ys) (first-same frames)

session-same : (t : List ℕ) (frames : List (List ℕ)) → came.session_came pair_reads t frames ≡ to_that t frames
session-same t [] = refl
session-same t (frame ∷ frames) =
    ap (λ xs. xs ++ came.session_came pair_reads t frames) (that-same t (frame_down frame))
    ∙ ap (λ ys. in_session t (frame_down frame) ++ ys) (session-same t frames)

-- ---- asks that are no fetches

all-plain : (asks : List Ask) → All (λ (a : Ask). a.sheet ≡ None) asks → ArePlain asks
all-plain [] all = tt
all-plain (ask ∷ asks) all = (
  All-head (λ (a : Ask). a.sheet ≡ None) ask asks all,
  all-plain asks (All-tail (λ (a : Ask). a.sheet ≡ None) ask asks all),
)

more-plain : (first second : List Ask) → ArePlain first → ArePlain second → ArePlain (first ++ second)
more-plain [] second a b = b
more-plain (ask ∷ first) second a b = (a.0, more-plain first second a.1 b)

some-plain : (b : Bool) (asks : List Ask) → ArePlain asks → ArePlain (cond b asks [])
some-plain true asks plain = plain
some-plain false asks plain = tt

-- Two front ends that were given nothing yet, whatever was sent: the first has kept nothing, no second stands, and no ask is a fetch.
pub record HaveBegun (p : FrontValues) : Type 0 where
  pub plain : ArePlain p.one.asks
  pub replies : p.one.replies ≡ []
  pub pauses : p.one.pauses ≡ []
  pub two : p.two ≡ None
  pub top : p.top ≡ 0
  pub asked : (t : List ℕ) → ArePlain (asks_of_session pair_reads t p.asked)

way-begun : (way : Way (List ℕ)) (p : FrontValues) → ArePlain (asks_in_way way) → HaveBegun p → HaveBegun (join_way pair_reads way p)
way-begun (to_root text) p plain begun = record {
  plain = more-plain p.one.asks (option_to_list (ask_of_frame text)) begun.plain plain;
  replies = begun.replies;
  pauses = begun.pauses;
  two = begun.two;
  top = begun.top;
  asked = begun.asked;
}
way-begun (to_session session text) p plain begun =
    let asks = option_to_list (ask_of_frame text) in
    record {
      plain = begun.plain;
      replies = begun.replies;
      pauses = begun.pauses;
      two = ap (option_map (join_two pair_reads session asks)) begun.two;
      top = begun.top;
      asked = λ t.
          subst ArePlain (sym (asks-later pair_reads read_laws t session asks p.asked))
          (more-plain (asks_of_session pair_reads t p.asked) (cond (pair_reads.same session t) asks []) (begun.asked t)
          (some-plain (pair_reads.same session t) asks plain));
    }
way-begun (attaches id) p plain begun = record {
  plain = begun.plain;
  replies = begun.replies;
  pauses = begun.pauses;
  two = begun.two;
  top = begun.top;
  asked = begun.asked;
}
way-begun (detaches id session) p plain begun = record {
  plain = begun.plain;
  replies = begun.replies;
  pauses = begun.pauses;
  two = begun.two;
  top = begun.top;
  asked = begun.asked;
}

joined-begun : (frames : List (List ℕ)) (p : FrontValues) → HaveBegun p → All IsPlainOfPair frames
    → HaveBegun (asks_joined (join_pair pair_reads) p frames)
joined-begun [] p begun all = begun
joined-begun (frame ∷ frames) p begun all =
    joined-begun frames (join_pair pair_reads p frame)
    (way-begun (frame_way frame) p (all-plain (asks_in_way (frame_way frame)) (All-head IsPlainOfPair frame frames all)) begun)
    (All-tail IsPlainOfPair frame frames all)

-- ---- what is kept

-- a front end has kept the replies and the pauses among these frames
pub record HasKept (v : FrontValue) (frames : List (List ℕ)) : Type 0 where
  pub told : map reply_shown v.replies ≡ replies_among frames
  pub pauses : v.pauses ≡ map seen_pause (flat_map pauses_in_frame frames)

kept-from : (v w : FrontValue) (frames : List (List ℕ)) → ArePlain v.asks → v.replies ≡ [] → v.pauses ≡ []
    → folded take_frame v frames ≡ Ok w → HasKept w frames
kept-from v w frames plain replies pauses e =
    let grows : Grows v (flat_map pauses_in_frame frames) w = grows-folded frames v w e in
    record {
      told = replies-folded frames v w plain e ∙ ap (λ ks. map reply_shown ks ++ replies_among frames) replies;
      pauses = grows.pauses ∙ ap (λ ps. ps ++ map seen_pause (flat_map pauses_in_frame frames)) pauses;
    }

module _ (sent_frames frames : List (List ℕ)) (q : FrontValues) (all : All IsPlainOfPair sent_frames)
    (is : folded (take_pair pair_reads) (asks_joined (join_pair pair_reads) no_fronts sent_frames) frames ≡ Ok q) where
  abbrev start : FrontValues
  start = asks_joined (join_pair pair_reads) no_fronts sent_frames

  begun : HaveBegun start
  begun =
      joined-begun sent_frames no_fronts
      (record { plain = tt; replies = refl; pauses = refl; two = refl; top = refl; asked = λ t. tt }) all

  -- The first front end has kept what came to it.
  pub first-kept : HasKept q.one (to_first frames)
  first-kept =
      kept-from start.one q.one (to_first frames) begun.plain begun.replies begun.pauses
      (ap (folded take_frame start.one) (sym (first-same frames)) ∙ first-took pair_reads frames start q is)

  -- The second has kept what came in its session.
  pub second-kept : (k : ℕ) (v : FrontValue) → IsSessionNumber k → q.two ≡ Some (record { text = session_text k; value = v })
      → HasKept v (to_that (session_text k) frames)
  second-kept k v small stands =
      let t = session_text k in
      let first : FrontValue = asks_more (first_value []) (asks_of_session pair_reads t start.asked) in
      let low : 0 < k = small.0 in
      kept-from first v (to_that t frames) (begun.asked t) refl refl
      (ap (folded take_frame first) (sym (session-same t frames))
      ∙ second-took pair_reads session_number number_laws t k (number-read k small) frames start q v begun.two
      (subst (λ n. n < k) (sym begun.top) low) is stands)
