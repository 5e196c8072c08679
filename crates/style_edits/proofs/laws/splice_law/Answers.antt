use Rattle.style_edits.proofs.SpliceForms.{fits_splice, takes_back, leads_back, back_back}
use Rattle.style_edits.proofs.laws.splice_law.Goals as goal

pub returns : goal.returns
returns c = record { fits = fits_splice; takes_back = takes_back; leads_back = leads_back; back_back = back_back }
