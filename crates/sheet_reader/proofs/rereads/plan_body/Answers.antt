use Rattle.std.proofs.Common.{List, refl, sym, subst, ◌∙◌}
use Rattle.std.specs.Prelude.{slice_get, IsSomeAnd}
use Rattle.sheet_reader.specs.Forms.{RuleForm}
use Rattle.sheet_reader.specs.Rereads.{HasBody}
use Rattle.sheet_reader.proofs.RereadForms.{body_leads}
use Rattle.sheet_reader.proofs.rereads.plan_body.Goals as goal

pub returns : goal.returns
returns c = record {
  leads = body_leads c.args.old_text.now c.args.put.now c.args.new_text.now c.args.old.now c.args.part _ c.requires.read c.requires.new
      (subst (λ (rs : List RuleForm). IsSomeAnd (slice_get rs c.in-Some.rule) (HasBody c.args.part)) c.as_slice.ensures c.in-Some.ensures)
      (sym c.in_ok-is_sealed.ensures ∙ c.if-not-is_sealed.false) c.in_ok-properties.ensures refl c.requires.short;
}
