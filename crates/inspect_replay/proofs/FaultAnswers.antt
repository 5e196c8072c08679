-- No fault is hidden: the answer of the whole call is the one fault that rose.
use Rattle.std.proofs.Common.{◌≡◌, ◌<◌, ◌∙◌, ℕ, Vec, Result, Ok, Err, arith, refl, sym, ap, subst}
use Rattle.std.specs.declared.alloc.Global.{Global}
use Rattle.replay_parts.specs.declared.status.Status.{Status}
use Rattle.replay_parts.specs.declared.status.Status.TheVariants as answers
use Rattle.replay_parts.specs.declared.stop.Stop.{Stop}
use Rattle.replay_parts.specs.declared.stop.Stop.TheVariants.{ReadFault}
use Rattle.replay_parts.specs.Says.{Counts, OthersStill, says, status_of}
use Rattle.replay_parts.specs.Answers.{AnswersFaults}

-- where no count rose, none is to be told
pub no-faults : (c : Counts) (status : Status) → c.source_after ≡ c.source_before → c.sink_after ≡ c.sink_before
    → c.link_after ≡ c.link_before → AnswersFaults c status
no-faults c status source sink link = record {
  source_told = λ rose. absurd (omega (arith, rose, source));
  sink_told = λ rose. absurd (omega (arith, rose, sink));
  link_told = λ rose. absurd (omega (arith, rose, link));
}

-- where no count rose but that of the part that the answer says to have failed, the answer is that fault
pub answers-faults : (c : Counts) (status : Status) → OthersStill c (says status).failed → AnswersFaults c status
answers-faults c answers.Done others = no-faults c answers.Done others.0 others.1 others.2
answers-faults c answers.Usage others = no-faults c answers.Usage others.0 others.1 others.2
answers-faults c (answers.Line number fault) others = no-faults c (answers.Line number fault) others.0 others.1 others.2
answers-faults c answers.TooLong others = no-faults c answers.TooLong others.0 others.1 others.2
answers-faults c answers.ReadFault others = record {
  source_told = λ rose. refl;
  sink_told = λ rose. absurd (omega (arith, rose, others.0));
  link_told = λ rose. absurd (omega (arith, rose, others.1));
}
answers-faults c answers.WriteFault others = record {
  source_told = λ rose. absurd (omega (arith, rose, others.0));
  sink_told = λ rose. refl;
  link_told = λ rose. absurd (omega (arith, rose, others.1));
}
answers-faults c answers.LinkFault others = record {
  source_told = λ rose. absurd (omega (arith, rose, others.0));
  sink_told = λ rose. absurd (omega (arith, rose, others.1));
  link_told = λ rose. refl;
}
answers-faults c (answers.FrontRefused place kind) others = no-faults c (answers.FrontRefused place kind) others.0 others.1 others.2
answers-faults c answers.NoRoom others = no-faults c answers.NoRoom others.0 others.1 others.2
answers-faults c answers.Memory others = no-faults c answers.Memory others.0 others.1 others.2

-- the same of a stop
pub stop-answers : (c : Counts) (stop : Stop) (status : Status) → status ≡ status_of stop
    → OthersStill c (says (status_of stop)).failed → AnswersFaults c status
stop-answers c stop status is others = subst (λ s. AnswersFaults c s) (sym is) (answers-faults c (status_of stop) others)

-- a source that was not read, or that did not fail, is beside it
pub source-still : (before after : ℕ) (c : Counts) (status : Status) → after ≡ before → AnswersFaults c status
    → AnswersFaults (record c { source_before = before; source_after = after }) status
source-still before after c status same told = record {
  source_told = λ rose. absurd (omega (arith, rose, same));
  sink_told = told.sink_told;
  link_told = told.link_told;
}

-- a link that was not used
pub link-still : (faults : ℕ) (c : Counts) (status : Status) → AnswersFaults c status
    → AnswersFaults (record c { link_before = faults; link_after = faults }) status
link-still faults c status told = record {
  source_told = told.source_told;
  sink_told = told.sink_told;
  link_told = λ rose. absurd (omega (arith, rose));
}

-- an input that was read: the source did not fail
pub read-still : (before after : ℕ) (read : Vec ℕ Global) (c : Counts) (status : Status)
    → (before < after → ◌≡◌ {A = Result (Vec ℕ Global) Stop} (Ok read) (Err ReadFault)) → AnswersFaults c status
    → AnswersFaults (record c { source_before = before; source_after = after }) status
read-still before after read c status failed told = record {
  source_told = λ rose. (let no : ◌≡◌ {A = Result (Vec ℕ Global) Stop} (Ok read) (Err ReadFault) = failed rose in absurd cc);
  sink_told = told.sink_told;
  link_told = told.link_told;
}

-- an input that was not read: nothing else was used
pub read-answers : (before after sink link : ℕ) (stop : Stop) (status : Status) → status ≡ status_of stop
    → (before < after → ◌≡◌ {A = Result (Vec ℕ Global) Stop} (Err stop) (Err ReadFault))
    → AnswersFaults (record {
      source_before = before;
      source_after = after;
      sink_before = sink;
      sink_after = sink;
      link_before = link;
      link_after = link;
    }) status
read-answers before after sink link stop status is failed = record {
  source_told = λ rose.
      let both : ◌≡◌ {A = Result (Vec ℕ Global) Stop} (Err stop) (Err ReadFault) = failed rose in
      let fault : stop ≡ ReadFault = cc in is ∙ ap status_of fault;
  sink_told = λ rose. absurd (omega (arith, rose));
  link_told = λ rose. absurd (omega (arith, rose));
}
