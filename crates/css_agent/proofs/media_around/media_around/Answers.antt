use Rattle.std.proofs.Common.{ℕ, ◌++◌, length, List, Option, sym, ap, ◌∙◌, append-nil}
use Rattle.sheet_reader.specs.declared.sheet.MediaRule.{MediaRule}
use Rattle.css_agent.specs.MediaAround.{media_around}
use Rattle.css_agent.proofs.AroundLemmas.{around-none, place-there, step-smaller, inside-there, around-turn}
use Rattle.css_agent.proofs.media_around.media_around.Goals as goal

pub loop-at-init : goal.loop-at-init
loop-at-init c = record {
  found = ap (λ (l : List MediaRule). l ++ media_around c.args.media.now c.args.around) c.new-found.ensures.items;
  there = c.requires.around;
}

pub media_in-rule-requires : goal.media_in-rule-requires
media_in-rule-requires c = place-there (length c.args.media.now) c.loop-at.at c.in-Some.place c.in-Some.is c.loop-at.invariant.there

pub loop-at-smaller : goal.loop-at-smaller
loop-at-smaller c = step-smaller c.args.media.now c.loop-at.at c.in-Some.place c.media_in-rule.result c.requires.media c.in-Some.is
    c.media_in-rule.ensures

pub loop-at-preserved : goal.loop-at-preserved
loop-at-preserved c = record {
  found =
      around-turn c.args.media.now c.in-Some.place c.media_in-rule.result c.loop-at.found.items c.push.new.self.items c.requires.media
      c.media_in-rule.ensures c.in_ok-push.ensures.items
      ∙ ap (λ (o : Option ℕ). c.loop-at.found.items ++ media_around c.args.media.now o) (sym c.in-Some.is) ∙ c.loop-at.invariant.found;
  there = inside-there c.args.media.now c.in-Some.place c.media_in-rule.result c.requires.media c.media_in-rule.ensures;
}

pub returns : goal.returns
returns c =
    sym (append-nil c.loop-at.found.items)
    ∙ ap (λ (l : List MediaRule). c.loop-at.found.items ++ l) (sym (around-none c.args.media.now))
    ∙ ap (λ (o : Option ℕ). c.loop-at.found.items ++ media_around c.args.media.now o) (sym c.in_default.is) ∙ c.loop-at.invariant.found
