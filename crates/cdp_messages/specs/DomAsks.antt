-- What the DOM agent is asked, as a command.
use Rattle.std.specs.Prelude.{ℕ, List, Bool}
use Rattle.cdp_messages.specs.declared.command.Command.TheVariants.{AskDom}
use Rattle.cdp_messages.specs.declared.dom_ask.DomAsk.{DomAsk}
use Rattle.cdp_messages.specs.Asked.{method_name, fits_command}

-- the name of the method of an ask
abbrev pub ask_name : DomAsk → List ℕ
ask_name a = method_name (AskDom a)

-- each parameter is in its range
abbrev pub fits_ask : DomAsk → Bool
fits_ask a = fits_command (AskDom a)
