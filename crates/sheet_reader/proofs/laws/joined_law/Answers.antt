use Rattle.std.proofs.Common.{◌≡◌, ℕ, ◌+◌, true, List, length, take, sym, ap, ◌∙◌, arith}
use Rattle.std.proofs.Math.Seq.{take-append_seam}
use Rattle.sheet_reader.specs.Forms.{RuleForm}
use Rattle.sheet_reader.specs.Joins.{is_shut_text}
use Rattle.sheet_reader.specs.Sheets.{sheet_of}
use Rattle.sheet_reader.proofs.JoinedLaw.{joined_holds}
use Rattle.sheet_reader.proofs.SeamForms.{SeamAt, seam_at}
use Rattle.sheet_reader.proofs.ShutForms.{ShutAt, shut_at}
use Rattle.sheet_reader.proofs.laws.joined_law.Goals as goal

front_is : (text : List ℕ) (k : ℕ) (r : RuleForm) → (s : ShutAt text k r) → take (r.body.end + 1) text ≡ s.front
front_is text k r s =
    let size : r.body.end + 1 ≡ length s.front = omega (arith, s.size) in
    ap (λ (n : ℕ). take n text) size ∙ ap (take (length s.front)) s.is ∙ take-append_seam s.front s.behind

shut_taken : (text : List ℕ) (place : ℕ) → SeamAt text place → is_shut_text (take place text) ≡ true
shut_taken text place s =
    ap is_shut_text (ap (λ (n : ℕ). take n text) (sym s.size) ∙ ap (take (length s.front)) s.is ∙ take-append_seam s.front s.behind)
    ∙ s.shut

pub returns : goal.returns
returns c = record {
  joined = joined_holds;
  closes = λ text place s. shut_taken text place (seam_at text s.number place s.there s.some s.shut);
  ends = λ text k r is none closed. let s = shut_at text k r is none closed in ap is_shut_text (front_is text k r s) ∙ s.shut;
  rules = λ text k r is none closed. let s = shut_at text k r is none closed in
      ap (λ (x : List ℕ). length (sheet_of x).rules) (front_is text k r s) ∙ s.number ∙ omega arith;
}
