use Rattle.cdp_json.proofs.ReadBack.{read-compact_text, IsUtf8-compact_text}
use Rattle.cdp_json.proofs.laws.read_back_law.Goals as goal

pub returns : goal.returns
returns c = record { read = read-compact_text; utf8 = IsUtf8-compact_text }
