-- What the readers answer, beside the definitions; want of memory may come at any time.
use Rattle.std.specs.Prelude.{◌≡◌, Result, Ok, Err, ⊤}
use Rattle.cdp_messages.specs.declared.command.Asked.{Asked}
use Rattle.cdp_messages.specs.declared.command.ReadErr.{ReadErr}
use Rattle.cdp_messages.specs.declared.command.ReadErr.TheVariants as read_err
use Rattle.cdp_messages.specs.declared.command.CommandErr.{CommandErr}
use Rattle.cdp_messages.specs.declared.command.CommandErr.TheVariants as command_err
use Rattle.cdp_messages.specs.declared.command.Why.{Why}
use Rattle.cdp_messages.specs.declared.command.Refused.{Refused}
use Rattle.dom_objects.specs.declared.down_err.DownErr.TheVariants.{Memory}

-- a command is answered as what was asked, a refusal as what is refused
abbrev pub ReadsAsked : Result Asked ReadErr → Result Asked Refused → Type 0
ReadsAsked (Ok a) r = r ≡ Ok a
ReadsAsked (Err (read_err.Refused x)) r = r ≡ Err x
ReadsAsked (Err read_err.Memory) r = ⊤

-- a method with its parameters is answered as the command, or as the first refusal
abbrev pub Commands : {T : Type 0} → Result T CommandErr → Result T Why → Type 0
Commands (Ok c) r = r ≡ Ok c
Commands (Err (command_err.Refused why)) r = r ≡ Err why
Commands (Err command_err.Memory) r = ⊤
