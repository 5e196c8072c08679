use Rattle.std.proofs.Common.{◌≡◌, drop}
use Rattle.std.specs.Str.{bytes_eq, str_to_ascii_uppercase}
use Rattle.dom_agent.proofs.paths.is_in_upper_case.Given as goal

abbrev pub invariant-loop-i : goal.invariant-loop-i
invariant-loop-i l = bytes_eq (str_to_ascii_uppercase (drop l.i l.text)) (drop l.i l.upper)
    ≡ bytes_eq (str_to_ascii_uppercase l.text) l.upper
