use Rattle.inspect_world.proofs.Inputs.{inputs-fit}
use Rattle.inspect_world.proofs.Scripts.{lines-fit, bare-frames-fit, turns-fit, deliveries-fit, settled-shows}
use Rattle.inspect_world.proofs.FetchesFit.{fresh-lines, fresh-inputs, refreshed-all, inputs-show-texts}
use Rattle.inspect_world.proofs.RestoreLemmas.{restores-in-runs}
use Rattle.inspect_world.proofs.laws.fits_law.Goals as goal

pub returns : goal.returns
returns c = record {
  lines = lines-fit;
  inputs = inputs-fit;
  restores = restores-in-runs;
  bare_frames = bare-frames-fit;
  turns = turns-fit;
  deliveries = deliveries-fit;
  settled = settled-shows;
  fresh_lines = fresh-lines;
  fresh_inputs = fresh-inputs;
  refreshed = refreshed-all;
  texts = inputs-show-texts;
}
