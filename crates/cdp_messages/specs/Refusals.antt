-- The codes and the texts of refusals.
use Rattle.std.specs.Prelude.{ℕ, ℤ, negsuc, List, [], ◌++◌, codes}
use Rattle.cdp_messages.specs.declared.command.Param.{Param}
use Rattle.cdp_messages.specs.declared.command.Param.TheVariants as param
use Rattle.cdp_messages.specs.declared.command.Why.{Why}
use Rattle.cdp_messages.specs.declared.command.Why.TheVariants.{NotJson, NoId, BadRequest, NoSession, NoMethod, BadParam, DomOff, CssOff}
use Rattle.cdp_messages.specs.declared.command.Why.TheVariants.{UnknownNode, NotPushed, NoPath, BadQuery, Crossed, NoNode, NotElement}
use Rattle.cdp_messages.specs.declared.command.Why.TheVariants.{NotText, IsDocument, NotChild, Inside, TooDeep, TooMany, BadName, NoAttr}
use Rattle.cdp_messages.specs.declared.command.Why.TheVariants.{NotContainer, NoSheet, NotMutable, BadRange, BadText, BadSelector, BadPlace}
use Rattle.cdp_messages.specs.declared.command.Why.TheVariants.{TooBig, NoSearch, BadSearchRange, NoTarget, SessionTaken, NoTargetSession}

-- a parameter's name in a command
abbrev pub param_name : Param → List ℕ
param_name param.BackendNodeId = codes "backendNodeId"
param_name param.BackendNodeIds = codes "backendNodeIds"
param_name param.Depth = codes "depth"
param_name param.Edits = codes "edits"
param_name param.Flatten = codes "flatten"
param_name param.FromIndex = codes "fromIndex"
param_name param.IncludeUserAgentShadowDom = codes "includeUserAgentShadowDOM"
param_name param.IncludeWhitespace = codes "includeWhitespace"
param_name param.InsertBeforeNodeId = codes "insertBeforeNodeId"
param_name param.Location = codes "location"
param_name param.Name = codes "name"
param_name param.NodeId = codes "nodeId"
param_name param.Params = codes "params"
param_name param.Path = codes "path"
param_name param.Pierce = codes "pierce"
param_name param.Query = codes "query"
param_name param.Range = codes "range"
param_name param.RuleText = codes "ruleText"
param_name param.SearchId = codes "searchId"
param_name param.Selector = codes "selector"
param_name param.SessionId = codes "sessionId"
param_name param.StyleSheetId = codes "styleSheetId"
param_name param.TargetId = codes "targetId"
param_name param.TargetNodeId = codes "targetNodeId"
param_name param.Text = codes "text"
param_name param.ToIndex = codes "toIndex"
param_name param.Type = codes "type"
param_name param.Value = codes "value"

-- the code of each kind of refusal (JSON-RPC 2.0, section 5.1); `negsuc n` is -1 - n
abbrev pub code_of : Why → ℤ
code_of NotJson = negsuc 32699
code_of NoId = negsuc 32599
code_of BadRequest = negsuc 32599
code_of NoSession = negsuc 32000
code_of NoMethod = negsuc 32600
code_of (BadParam p) = negsuc 32601
code_of DomOff = negsuc 31999
code_of CssOff = negsuc 31999
code_of UnknownNode = negsuc 31999
code_of NotPushed = negsuc 31999
code_of NoPath = negsuc 31999
code_of BadQuery = negsuc 31999
code_of NoSearch = negsuc 31999
code_of BadSearchRange = negsuc 31999
code_of NoTarget = negsuc 31999
code_of SessionTaken = negsuc 31999
code_of NoTargetSession = negsuc 31999
code_of Crossed = negsuc 31999
code_of NoNode = negsuc 31999
code_of NotElement = negsuc 31999
code_of NotText = negsuc 31999
code_of IsDocument = negsuc 31999
code_of NotChild = negsuc 31999
code_of Inside = negsuc 31999
code_of TooDeep = negsuc 31999
code_of TooMany = negsuc 31999
code_of BadName = negsuc 31999
code_of NoAttr = negsuc 31999
code_of NotContainer = negsuc 31999
code_of NoSheet = negsuc 31999
code_of NotMutable = negsuc 31999
code_of BadRange = negsuc 31999
code_of BadText = negsuc 31999
code_of BadSelector = negsuc 31999
code_of BadPlace = negsuc 31999
code_of TooBig = negsuc 31999

-- the text of a refusal, but for a parameter's name
abbrev pub said_first : Why → List ℕ
said_first NotJson = codes "not JSON"
said_first NoId = codes "no usable id"
said_first BadRequest = codes "bad request"
said_first NoSession = codes "unknown session"
said_first NoMethod = codes "unknown method"
said_first (BadParam p) = codes "bad parameter: "
said_first DomOff = codes "DOM is off"
said_first CssOff = codes "CSS is off"
said_first UnknownNode = codes "unknown node"
said_first NotPushed = codes "document not pushed"
said_first NoPath = codes "no such path"
said_first BadQuery = codes "bad selector"
said_first NoSearch = codes "no such search"
said_first BadSearchRange = codes "bad search range"
said_first NoTarget = codes "no such target"
said_first SessionTaken = codes "session is taken"
said_first NoTargetSession = codes "no such session"
said_first Crossed = codes "Crossed"
said_first NoNode = codes "NoNode"
said_first NotElement = codes "NotElement"
said_first NotText = codes "NotText"
said_first IsDocument = codes "IsDocument"
said_first NotChild = codes "NotChild"
said_first Inside = codes "Inside"
said_first TooDeep = codes "TooDeep"
said_first TooMany = codes "TooMany"
said_first BadName = codes "BadName"
said_first NoAttr = codes "NoAttr"
said_first NotContainer = codes "NotContainer"
said_first NoSheet = codes "NoSheet"
said_first NotMutable = codes "NotMutable"
said_first BadRange = codes "BadRange"
said_first BadText = codes "BadText"
said_first BadSelector = codes "BadSelector"
said_first BadPlace = codes "BadPlace"
said_first TooBig = codes "TooBig"

-- the name of the parameter that is refused
abbrev pub said_of_param : Why → List ℕ
said_of_param NotJson = []
said_of_param NoId = []
said_of_param BadRequest = []
said_of_param NoSession = []
said_of_param NoMethod = []
said_of_param (BadParam p) = param_name p
said_of_param DomOff = []
said_of_param CssOff = []
said_of_param UnknownNode = []
said_of_param NotPushed = []
said_of_param NoPath = []
said_of_param BadQuery = []
said_of_param NoSearch = []
said_of_param BadSearchRange = []
said_of_param NoTarget = []
said_of_param SessionTaken = []
said_of_param NoTargetSession = []
said_of_param Crossed = []
said_of_param NoNode = []
said_of_param NotElement = []
said_of_param NotText = []
said_of_param IsDocument = []
said_of_param NotChild = []
said_of_param Inside = []
said_of_param TooDeep = []
said_of_param TooMany = []
said_of_param BadName = []
said_of_param NoAttr = []
said_of_param NotContainer = []
said_of_param NoSheet = []
said_of_param NotMutable = []
said_of_param BadRange = []
said_of_param BadText = []
said_of_param BadSelector = []
said_of_param BadPlace = []
said_of_param TooBig = []

-- the text of a refusal
abbrev pub refusal_words : Why → List ℕ
refusal_words why = said_first why ++ said_of_param why
