-- With other words, and for clients, nothing is sent over the link, and the fold of nothing meets no fault.
use Rattle.std.proofs.Common.{map, sym, refl, true≢false, ◌∙◌}
use Rattle.std.specs.Prelude.{string_bytes}
use Rattle.inspect_replay.specs.Followed.{fold_since}
use Rattle.replay_parts.specs.Says.{says}
use Rattle.inspect_replay.proofs.FollowLemmas.{start-good, less-at}
use Rattle.inspect_replay.proofs.AnswerLemmas.{serve-honest}
use Rattle.inspect_replay.proofs.ServeEnds.{serve-folds}
use Rattle.inspect_replay.proofs.WordLemmas.{words-drill}
use Rattle.inspect_replay.proofs.PairLemmas.{pair-less}
use Rattle.inspect_replay.proofs.FaultAnswers.{source-still, link-still}
use Rattle.inspect_replay.proofs.program.inspect.Goals as goal

pub returns-clause-refused : goal.returns-clause-refused
returns-clause-refused g c = λ shared paired. (start-good (g.L.Link.up c.args.link.now) (g.L.Link.down c.args.link.now)).0

pub returns-clause-less : goal.returns-clause-less
returns-clause-less g c = (start-good (g.L.Link.up c.args.link.now) (g.L.Link.down c.args.link.now)).1

pub returns-then-is_serve-clause-refused : goal.returns-then-is_serve-clause-refused
returns-then-is_serve-clause-refused g c = λ shared paired. serve-folds c.serve.result
    (fold_since (g.L.Link.up c.args.link.now) (g.L.Link.down c.args.link.now) (g.L.Link.up c.args.link.now)
    (g.L.Link.down c.args.link.now)) c.serve.ensures.only (start-good (g.L.Link.up c.args.link.now) (g.L.Link.down c.args.link.now)).0

pub returns-then-is_serve-clause-less : goal.returns-then-is_serve-clause-less
returns-then-is_serve-clause-less g c = less-at (says c.serve.result).phase
    (fold_since (g.L.Link.up c.args.link.now) (g.L.Link.down c.args.link.now) (g.L.Link.up c.args.link.now)
    (g.L.Link.down c.args.link.now)) (start-good (g.L.Link.up c.args.link.now) (g.L.Link.down c.args.link.now)).1

pub returns-then-is_serve-clause-cause : goal.returns-then-is_serve-clause-cause
returns-then-is_serve-clause-cause g c = c.serve.ensures.cause _ _

pub returns-then-is_serve-clause-sound : goal.returns-then-is_serve-clause-sound
returns-then-is_serve-clause-sound g c = λ shared paired honest up_level down_level. serve-honest c.serve.result c.serve.ensures.only

pub drill-requires : goal.drill-requires
drill-requires g c =
    words-drill (map string_bytes c.args.words.now) c.in-Some.divs (sym c.drill_in.ensures ∙ c.in-Some.is)

pub returns-in-Some-clause-cause : goal.returns-in-Some-clause-cause
returns-in-Some-clause-cause g c = c.drill.ensures.cause _ _

pub returns-then-is_serve-clause-answered : goal.returns-then-is_serve-clause-answered
returns-then-is_serve-clause-answered g c = link-still (g.L.Link.faults c.args.link.now) _ c.serve.result c.serve.ensures.answered

pub returns-in-Some-clause-answered : goal.returns-in-Some-clause-answered
returns-in-Some-clause-answered g c = source-still (g.S.Source.faults c.args.src.now) (g.S.Source.faults c.args.src.now) _ c.drill.result
    refl c.drill.ensures.answered

pub returns-then-is_share-clause-refused : goal.returns-then-is_share-clause-refused
returns-then-is_share-clause-refused g c = λ shared. absurd (true≢false (sym (sym c.is_share.ensures.is ∙ c.if-is_share.true) ∙ shared))

pub returns-then-is_share-clause-sound : goal.returns-then-is_share-clause-sound
returns-then-is_share-clause-sound g c = λ shared. absurd (true≢false (sym (sym c.is_share.ensures.is ∙ c.if-is_share.true) ∙ shared))

pub returns-then-is_share-clause-less : goal.returns-then-is_share-clause-less
returns-then-is_share-clause-less g c = less-at (says c.share.result).phase
    (fold_since (g.L.Link.up c.args.link.now) (g.L.Link.down c.args.link.now) (g.L.Link.up c.args.link.now)
    (g.L.Link.down c.args.link.now)) (start-good (g.L.Link.up c.args.link.now) (g.L.Link.down c.args.link.now)).1

pub returns-then-is_share-clause-cause : goal.returns-then-is_share-clause-cause
returns-then-is_share-clause-cause g c = c.share.ensures.cause _ _

pub returns-then-is_share-clause-answered : goal.returns-then-is_share-clause-answered
returns-then-is_share-clause-answered g c = link-still (g.L.Link.faults c.args.link.now) _ c.share.result c.share.ensures.answered

pub returns-then-is_pair-clause-refused : goal.returns-then-is_pair-clause-refused
returns-then-is_pair-clause-refused g c = λ shared paired. absurd (true≢false (sym (sym c.is_pair.ensures ∙ c.if-is_pair.true) ∙ paired))

pub returns-then-is_pair-clause-sound : goal.returns-then-is_pair-clause-sound
returns-then-is_pair-clause-sound g c = λ shared paired. absurd (true≢false (sym (sym c.is_pair.ensures ∙ c.if-is_pair.true) ∙ paired))

pub returns-then-is_pair-clause-less : goal.returns-then-is_pair-clause-less
returns-then-is_pair-clause-less g c = pair-less c.pair.result (g.L.Link.up c.args.link.now) (g.L.Link.down c.args.link.now)
    (g.L.Link.up c.pair.new.link) (g.L.Link.down c.pair.new.link) c.pair.ensures.less
