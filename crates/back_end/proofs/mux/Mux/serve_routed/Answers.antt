-- The step is by whose the frame is.
use Rattle.std.proofs.Common.{◌≡◌, ◌^◌, ◌<◌, ◌++◌, List, ℕ, sym, ap, subst, ◌∙◌, arith}
use Rattle.std.specs.Result.{OnOk}
use Rattle.std.proofs.Math.Logic.{∥∥₁_map}
use Rattle.cdp_messages.specs.Replies.{message_frames}
use Rattle.session_runs.specs.World.{Stepped}
use Rattle.session_mux.specs.declared.router.Routed.TheVariants.{Root, Attached, Answered}
use Rattle.session_mux.specs.Sessions.{Sessions}
use Rattle.session_mux.specs.Routes.{routing}
use Rattle.back_end.specs.Pairs.{Pair, pair_step}
use Rattle.back_end.specs.PairSeats.{SeatsStandFor, PairStandsFor}
use Rattle.back_end.proofs.PairLemmas.{answered-stands, step-by, left-same, left-out, root-left, attached-left}
use Rattle.back_end.proofs.PairSteps.{attached-there}
use Rattle.back_end.proofs.mux.Mux.serve_routed.Goals as goal

pub route-requires : goal.route-requires
route-requires c =
    let low : c.args.self.now.router.next < 2 ^ 50 = c.requires.room.2 in
    let high : c.args.self.now.router.next < 2 ^ 60 = omega (arith, low) in
    high

-- ---- a frame of the root

pub serve_root-requires-clause-room : goal.serve_root-requires-clause-room
serve_root-requires-clause-room c =
    let same = left-same Root c.args.bytes.now root-left (sym c.in-Root.is ∙ c.in_ok-route.ensures.routed) c.in_ok-route.ensures.sessions in
    (c.requires.room.0, c.requires.room.1, subst (λ (s : Sessions). s.next < 2 ^ 50) (sym same) c.requires.room.2)

pub serve_root-requires-clause-seated : goal.serve_root-requires-clause-seated
serve_root-requires-clause-seated c =
    let same = left-same Root c.args.bytes.now root-left (sym c.in-Root.is ∙ c.in_ok-route.ensures.routed) c.in_ok-route.ensures.sessions in
    ∥∥₁_map c.requires.seated (λ (x : ((p : Pair) × PairStandsFor c.args.self.now c.args.side.now p)).
    (x.0, subst (λ (s : Sessions). SeatsStandFor c.args.self.now.root c.args.self.now.second s c.args.side.now x.0) (sym same) x.1))

pub returns-in-Root-clause-stands : goal.returns-in-Root-clause-stands
returns-in-Root-clause-stands c = λ p stands.
    let routed = sym c.in-Root.is ∙ c.in_ok-route.ensures.routed in
    let same = left-same Root c.args.bytes.now root-left routed c.in_ok-route.ensures.sessions in
    subst (λ (done : Stepped Pair). OnOk c.serve_root.result (PairStandsFor c.serve_root.new.self c.serve_root.new.side done.state))
    (step-by Root c.args.own c.args.bytes.now p c.args.self.now.router routed stands.sessions_are)
    (c.serve_root.ensures.stands p
    (subst (λ (s : Sessions). SeatsStandFor c.args.self.now.root c.args.self.now.second s c.args.side.now p) (sym same) stands))

pub returns-in-Root-clause-sent : goal.returns-in-Root-clause-sent
returns-in-Root-clause-sent c = λ p stands.
    let routed = sym c.in-Root.is ∙ c.in_ok-route.ensures.routed in
    let same = left-same Root c.args.bytes.now root-left routed c.in_ok-route.ensures.sessions in
    subst (λ (bs : List ℕ). OnOk c.serve_root.result (c.serve_root.new.out.items ≡ bs ++ (pair_step c.args.own c.args.bytes.now p).sent))
    (left-out Root c.args.bytes.now c.args.self.now.router c.args.out.now.items root-left routed c.in_ok-route.ensures.said)
    (subst (λ (done : Stepped Pair). OnOk c.serve_root.result (c.serve_root.new.out.items ≡ c.route.new.out.items ++ done.sent))
    (step-by Root c.args.own c.args.bytes.now p c.args.self.now.router routed stands.sessions_are)
    (c.serve_root.ensures.sent p
    (subst (λ (s : Sessions). SeatsStandFor c.args.self.now.root c.args.self.now.second s c.args.side.now p) (sym same) stands)))

-- ---- a frame of the attached session

pub serve_attached-requires-clause-room : goal.serve_attached-requires-clause-room
serve_attached-requires-clause-room c =
    let routed = sym c.in-Attached.is ∙ c.in_ok-route.ensures.routed in
    let same = left-same Attached c.args.bytes.now attached-left routed c.in_ok-route.ensures.sessions in
    (c.requires.room.0, c.requires.room.1, subst (λ (s : Sessions). s.next < 2 ^ 50) (sym same) c.requires.room.2)

pub serve_attached-requires-clause-seated : goal.serve_attached-requires-clause-seated
serve_attached-requires-clause-seated c =
    let routed = sym c.in-Attached.is ∙ c.in_ok-route.ensures.routed in
    let same = left-same Attached c.args.bytes.now attached-left routed c.in_ok-route.ensures.sessions in
    ∥∥₁_map c.requires.seated (λ (x : ((p : Pair) × PairStandsFor c.args.self.now c.args.side.now p)).
    (x.0, subst (λ (s : Sessions). SeatsStandFor c.args.self.now.root c.args.self.now.second s c.args.side.now x.0) (sym same) x.1))

pub returns-in-Attached-clause-stands : goal.returns-in-Attached-clause-stands
returns-in-Attached-clause-stands c = λ p stands.
    let routed = sym c.in-Attached.is ∙ c.in_ok-route.ensures.routed in
    let same = left-same Attached c.args.bytes.now attached-left routed c.in_ok-route.ensures.sessions in
    let there =
    attached-there c.args.bytes.now p (sym (routed ∙ ap (λ (s : Sessions). (routing c.args.bytes.now s).routed) stands.sessions_are)) in
    subst
    (λ (done : Stepped Pair). OnOk c.serve_attached.result (PairStandsFor c.serve_attached.new.self c.serve_attached.new.side done.state))
    (step-by Attached c.args.own c.args.bytes.now p c.args.self.now.router routed stands.sessions_are)
    (c.serve_attached.ensures.stands p there.0 there.1
    (subst (λ (s : Sessions). SeatsStandFor c.args.self.now.root c.args.self.now.second s c.args.side.now p) (sym same) stands))

pub returns-in-Attached-clause-sent : goal.returns-in-Attached-clause-sent
returns-in-Attached-clause-sent c = λ p stands.
    let routed = sym c.in-Attached.is ∙ c.in_ok-route.ensures.routed in
    let same = left-same Attached c.args.bytes.now attached-left routed c.in_ok-route.ensures.sessions in
    let there =
    attached-there c.args.bytes.now p (sym (routed ∙ ap (λ (s : Sessions). (routing c.args.bytes.now s).routed) stands.sessions_are)) in
    subst
    (λ (bs : List ℕ). OnOk c.serve_attached.result
    (c.serve_attached.new.out.items ≡ bs ++ (pair_step c.args.own c.args.bytes.now p).sent))
    (left-out Attached c.args.bytes.now c.args.self.now.router c.args.out.now.items attached-left routed c.in_ok-route.ensures.said)
    (subst (λ (done : Stepped Pair). OnOk c.serve_attached.result (c.serve_attached.new.out.items ≡ c.route.new.out.items ++ done.sent))
    (step-by Attached c.args.own c.args.bytes.now p c.args.self.now.router routed stands.sessions_are)
    (c.serve_attached.ensures.sent p there.0 there.1
    (subst (λ (s : Sessions). SeatsStandFor c.args.self.now.root c.args.self.now.second s c.args.side.now p) (sym same) stands)))

-- ---- a frame that is answered at once

pub returns-in-Answered-clause-stands : goal.returns-in-Answered-clause-stands
returns-in-Answered-clause-stands c = λ p stands.
    let routed = sym c.in-Answered.is ∙ c.in_ok-route.ensures.routed in
    subst (λ (done : Stepped Pair). PairStandsFor c.renew.new.self c.args.side.now done.state)
    (step-by Answered c.args.own c.args.bytes.now p c.args.self.now.router routed stands.sessions_are)
    (answered-stands p c.args.bytes.now c.args.side.now c.args.self.now.root c.args.self.now.second c.args.self.now.router c.route.new.self
    c.renew.new.self stands c.in_ok-route.ensures.sessions c.renew.ensures.root c.renew.ensures.second c.renew.ensures.router)

pub returns-in-Answered-clause-sent : goal.returns-in-Answered-clause-sent
returns-in-Answered-clause-sent c = λ p stands.
    let routed = sym c.in-Answered.is ∙ c.in_ok-route.ensures.routed in
    subst (λ (done : Stepped Pair). c.route.new.out.items ≡ c.args.out.now.items ++ done.sent)
    (step-by Answered c.args.own c.args.bytes.now p c.args.self.now.router routed stands.sessions_are)
    (c.in_ok-route.ensures.said
    ∙ ap (λ (s : Sessions). c.args.out.now.items ++ message_frames (routing c.args.bytes.now s).said) stands.sessions_are)
