-- All that waits is handed over.
use Rattle.std.proofs.Common.{◌≡◌, ◌∙◌, ap, ◌≤◌, length, length-append, arith}
use Rattle.pipe_frames.specs.Pipe.{waiting}
use Rattle.pipe_frames.specs.Calls.{Flow, pipe_of}
use Rattle.pipe_frames.proofs.FlowLemmas.{waiting-count}
use Rattle.pipe_frames.proofs.channel.Channel.get.Goals as goal

pub returns-clause-within : goal.returns-clause-within
returns-clause-within c =
    rw (← c.self.view_is) (omega (arith, c.self.invariant, length-append c.self.inside.given.bytes c.self.inside.bytes.items))

pub returns-clause-passed : goal.returns-clause-passed
returns-clause-passed c =
    let within : c.args.self.now.passed ≤ length c.args.self.now.sent = returns-clause-within c in
    let piece : length c.in-Some.piece.items ≡ length (waiting (pipe_of c.args.self.now)) = ap length (c.in-Some.ensures {u = tt}).some.0 in
    let count : c.len-count.result ≡ length (waiting (pipe_of c.args.self.now)) =
    omega (arith, c.len-count.ensures, piece, c.in-Some.piece.ok) in
    ap (λ (f : Flow). f.passed) (c.in-Some.ensures {u = tt}).passed ∙ waiting-count c.args.self.now c.len-count.result within count
