-- The names of faults, as a status line prints them.
use Rattle.std.specs.Prelude.{ℕ, List, codes}
use Rattle.page_tree.specs.declared.faults.LoadFault.{LoadFault}
use Rattle.page_tree.specs.declared.faults.LoadFault.TheVariants as load
use Rattle.replay_script.specs.declared.faults.LineFault.{LineFault}
use Rattle.replay_script.specs.declared.faults.LineFault.TheVariants.{NotJson, NotLoad, BadForm, BadLoad, BadRaw, BadSession}
use Rattle.replay_script.specs.declared.faults.LineFault.TheVariants.{NoPanel, NoStyles}

-- how a status line names the fault of a load
abbrev pub load_fault_name : LoadFault → List ℕ
load_fault_name load.BadForm = codes "BadLoad BadForm"
load_fault_name load.TooDeep = codes "BadLoad TooDeep"
load_fault_name load.TooMany = codes "BadLoad TooMany"
load_fault_name load.BadName = codes "BadLoad BadName"

-- how a status line names the fault of a line
abbrev pub fault_name : LineFault → List ℕ
fault_name NotJson = codes "NotJson"
fault_name NotLoad = codes "NotLoad"
fault_name BadForm = codes "BadForm"
fault_name (BadLoad fault) = load_fault_name fault
fault_name BadRaw = codes "BadRaw"
fault_name BadSession = codes "BadSession"
fault_name NoPanel = codes "NoPanel"
fault_name NoStyles = codes "NoStyles"
