use Rattle.std.proofs.Common.{Result, Ok, Err, List, ℕ, string_bytes}
use Rattle.std.specs.Prelude.{IfOk}
use Rattle.panels.proofs.WatchLemmas.{by_serial_found, by_serial_known, by_serial_text, unknown_text}
use Rattle.panels.proofs.watch.bare_line.Goals as goal

if_ok : {A E : Type 0} (r : Result A E) (see : A → List ℕ) (p q : List ℕ → Type 0) → ((l : List ℕ) → p l → q l)
    → IfOk r (λ a. p (see a)) → IfOk r (λ a. q (see a))
if_ok (Ok a) see p q f h = f (see a) h
if_ok (Err e) see p q f h = h

pub mirror_line-requires : goal.mirror_line-requires
mirror_line-requires c = record {
  known = by_serial_known c.args.serial c.in-Some.id c.args.mirror.now
      (by_serial_found c.args.serial c.in-Some.id c.args.mirror.now c.valid.ensures c.in-Some.ensures);
}

pub returns-in-Some : goal.returns-in-Some
returns-in-Some c = if_ok c.mirror_line.result string_bytes _ _
    (by_serial_text c.args.serial c.in-Some.id c.args.mirror.now
    (by_serial_found c.args.serial c.in-Some.id c.args.mirror.now c.valid.ensures c.in-Some.ensures)) c.mirror_line.ensures

pub returns-in-None : goal.returns-in-None
returns-in-None c = if_ok c.unknown_line.result string_bytes _ _ (unknown_text c.args.serial c.args.mirror.now c.in-None.ensures)
    c.unknown_line.ensures
