-- What a guest was told is tagged with its session.
use Rattle.std.proofs.Common.{List, ℕ, Option, sym, subst, ◌∙◌}
use Rattle.std.specs.Prelude.{IfSome}
use Rattle.session_mux.specs.Tags.{AreMessages}
use Rattle.back_end.specs.declared.guest.Guest.{Guest}
use Rattle.back_end.proofs.PairLemmas.{tell-session}
use Rattle.back_end.proofs.mux.Mux.reseat_second.Goals as goal

pub tag-requires : goal.tag-requires
tag-requires c = record {
  messages = subst (λ (bytes : List ℕ). ∥ AreMessages bytes ∥₁) (sym c.deref.ensures.value)
      (subst (λ (o : Option Guest). IfSome o (λ g. ∥ AreMessages g.out.items ∥₁)) c.in-Some.is c.requires.messages);
}

pub returns-in-Some-attached-clause-sent : goal.returns-in-Some-attached-clause-sent
returns-in-Some-attached-clause-sent c = λ messages told.
    tell-session c.tag.result c.args.self.now.router.attached c.in-Some-attached.session c.args.guest c.in-Some.guest messages
    c.deref.result.now c.args.out.now.items c.tag.new.out.items (sym c.attached.ensures ∙ c.in-Some-attached.is) c.in-Some.is
    c.deref.ensures.value told c.tag.ensures.tagged
