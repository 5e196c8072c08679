-- A front takes one whole frame.
use Rattle.std.proofs.Common.{◌≡◌, ℕ, ◌+◌, List, [], ◌∷◌, ◌++◌, Option, Some, None, refl, sym, ◌∙◌, ap, Result, Ok, Err}
use Rattle.cdp_json.specs.Lookups.{then_ok}
use Rattle.pipe_frames.specs.Frames.{IsText, framed, frames_of}
use Rattle.pipe_frames.proofs.FrameLemmas.{frames_of-one}
use Rattle.front_mirror.specs.declared.faults.FrontKind.{FrontKind}
use Rattle.front_mirror.specs.declared.faults.FrontFault.{FrontFault}
use Rattle.front_mirror.specs.Front.{FrontValue, take_frame, FrontState, after_message, front_folded, after_bytes, unless_refused}
use Rattle.front_mirror.specs.Front.{after_take}
use Rattle.multi_replay.specs.Folds.{take_whole}
use Rattle.multi_replay.specs.States.{at_rest}
use Rattle.multi_replay.specs.Held.{IsReady}

-- the front after a frame, by what came of it
abbrev ended : FrontState → Result FrontValue FrontKind → FrontState
ended s (Ok v) = record s { value = v; rest = []; fault = None }
ended s (Err kind) = record s { rest = []; fault = Some (record { place = s.value.taken + 1; kind = kind }) }

-- bytes that are one frame, which a front takes that holds none
folded-one : (s : FrontState) (frame piece : List ℕ) → IsReady s → IsText frame → piece ≡ framed frame
    → after_take s piece ≡ ended s (take_frame s.value frame)
folded-one s frame piece ready letters is =
    let frames : frames_of (s.rest ++ piece) ≡ record { whole = frame ∷ []; rest = [] } =
    ap (λ rest. frames_of (rest ++ piece)) ready.0 ∙ ap frames_of is ∙ frames_of-one frame letters in
    ap (λ f. unless_refused f s (after_bytes s piece)) ready.1
    ∙ ap (λ cut. let end = front_folded s.value cut.whole in record s { value = end.value; rest = cut.rest; fault = end.fault }) frames
    ∙ at (take_frame s.value frame)
  where
    at : (result : Result FrontValue FrontKind)
        → ◌≡◌ {A = FrontState}
        (let end = after_message s.value (λ w. front_folded w []) result in record s { value = end.value; rest = []; fault = end.fault })
        (ended s result)
    at (Ok v) = refl
    at (Err kind) = refl

ended-well : (s new : FrontState) (result : Result FrontValue FrontKind) → new ≡ ended s result → new.fault ≡ None
    → (then_ok {E = FrontKind} result (λ v. Ok (record (at_rest s) { value = v })) ≡ Ok (at_rest new)) × IsReady new
ended-well s new (Ok v) is well = (ap (λ t. Ok (at_rest t)) (sym is), (ap (λ t. t.rest) is, well))
ended-well s new (Err kind) is well = let no : ◌≡◌ {A = Option FrontFault} (Some (record { place = s.value.taken + 1; kind = kind })) None
    = ap (λ t. t.fault) (sym is) ∙ well in absurd cc

ended-refused : (s new : FrontState) (f : FrontFault) (result : Result FrontValue FrontKind) → new ≡ ended s result
    → new.fault ≡ Some f
    → (then_ok {E = FrontKind} result (λ v. Ok (record (at_rest s) { value = v })) ≡ Err f.kind) × (at_rest new ≡ at_rest s)
ended-refused s new f (Ok v) is met = let no : ◌≡◌ {A = Option FrontFault} None (Some f) = ap (λ t. t.fault) (sym is) ∙ met in absurd cc
ended-refused s new f (Err kind) is met =
    let same : ◌≡◌ {A = Option FrontFault} (Some (record { place = s.value.taken + 1; kind = kind })) (Some f) =
    ap (λ t. t.fault) (sym is) ∙ met in
    let fault : ◌≡◌ {A = FrontFault} (record { place = s.value.taken + 1; kind = kind }) f = cc in
    (ap (λ (g : FrontFault). Err g.kind) fault, ap at_rest is)

-- it takes the frame
pub whole-taken : (s new : FrontState) (frame piece : List ℕ) → IsReady s → IsText frame → piece ≡ framed frame
    → new ≡ after_take s piece → new.fault ≡ None
    → (take_whole (at_rest s) frame ≡ Ok (at_rest new)) × IsReady new
whole-taken s new frame piece ready letters is after well =
    ended-well s new (take_frame s.value frame) (after ∙ folded-one s frame piece ready letters is) well

-- or refuses it, and stays as it was
pub whole-refused : (s new : FrontState) (f : FrontFault) (frame piece : List ℕ) → IsReady s → IsText frame → piece ≡ framed frame
    → new ≡ after_take s piece → new.fault ≡ Some f
    → (take_whole (at_rest s) frame ≡ Err f.kind) × (at_rest new ≡ at_rest s)
whole-refused s new f frame piece ready letters is after met =
    ended-refused s new f (take_frame s.value frame) (after ∙ folded-one s frame piece ready letters is) met
