-- What the program says of each status: its line on standard error, and its exit status.
use Rattle.std.specs.Prelude.{ℕ, List, [], ◌++◌, codes, decimal}
use Rattle.replay_script.specs.Names.{fault_name}
use Rattle.front_mirror.specs.declared.faults.FrontKind.{FrontKind}
use Rattle.front_mirror.specs.declared.faults.FrontKind.TheVariants.{NotMessage, UnknownNode, NotChild, IdTaken, UnknownSheet, TooDeep}
use Rattle.replay_parts.specs.declared.status.Status.{Status}
use Rattle.replay_parts.specs.declared.status.Status.TheVariants.{Done, Usage, Line, TooLong, ReadFault, WriteFault, LinkFault}
use Rattle.replay_parts.specs.declared.status.Status.TheVariants.{FrontRefused, NoRoom, Memory}

-- how a status line names the fault of a message
abbrev pub kind_name : FrontKind → List ℕ
kind_name NotMessage = codes "NotMessage"
kind_name UnknownNode = codes "UnknownNode"
kind_name NotChild = codes "NotChild"
kind_name IdTaken = codes "IdTaken"
kind_name UnknownSheet = codes "UnknownSheet"
kind_name TooDeep = codes "TooDeep"

-- the line on standard error
abbrev pub line_of_status : Status → List ℕ
line_of_status Done = []
line_of_status Usage = codes "usage: inspect replay, inspect serve, inspect drill N, inspect pair or inspect share"
line_of_status (Line number fault) = codes "line " ++ decimal number ++ codes ": " ++ fault_name fault
line_of_status TooLong = codes "input too long"
line_of_status ReadFault = codes "read fault"
line_of_status WriteFault = codes "write fault"
line_of_status LinkFault = codes "link fault"
line_of_status (FrontRefused place fault) = codes "front refused message " ++ decimal place ++ codes ": " ++ kind_name fault
line_of_status NoRoom = codes "no room"
line_of_status Memory = codes "out of memory"

-- the exit status
abbrev pub code_of_status : Status → ℕ
code_of_status Done = 0
code_of_status Usage = 2
code_of_status (Line number fault) = 3
code_of_status TooLong = 4
code_of_status ReadFault = 5
code_of_status WriteFault = 6
code_of_status LinkFault = 7
code_of_status (FrontRefused place fault) = 8
code_of_status NoRoom = 10
code_of_status Memory = 9
