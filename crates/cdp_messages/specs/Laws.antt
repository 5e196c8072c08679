-- The laws of the messages: what is written is read as what was written, and nothing else is read.
use Rattle.std.specs.Prelude.{◌≡◌, ◌≢◌, All, ℕ, ℤ, ◌≤◌, ◌<◌, List, ⊤, Bool, true, false, not, ◌&&◌, Option, Some, None, Ok, IsUtf8}
use Rattle.serde_json.specs.Data.{Data, object, Members, depth}
use Rattle.serde_json.specs.Read.{max_depth}
use Rattle.serde_json.specs.Written.{compact_text}
use Rattle.cdp_json.specs.Plain.{is_plain}
use Rattle.cdp_json.specs.Kinds.{is_counted, is_signed, holds_of_some}
use Rattle.node_tree.specs.Nodes.{Nodes, alone, height}
use Rattle.node_tree.specs.Levels.{most_told, most_told_root}
use Rattle.node_tree.specs.Seen.{Seen}
use Rattle.dom_objects.specs.Told.{told_nodes}
use Rattle.dom_objects.specs.Tellable.{suits_nodes}
use Rattle.cdp_messages.specs.declared.command.Command.{Command}
use Rattle.cdp_messages.specs.declared.command.Asked.{Asked}
use Rattle.cdp_messages.specs.declared.command.Refused.{Refused}
use Rattle.cdp_messages.specs.Methods.{is_own, method_named}
use Rattle.cdp_messages.specs.declared.down.ReplyBody.{ReplyBody}
use Rattle.cdp_messages.specs.declared.down.ReplyBody.TheVariants.{Nothing}
use Rattle.cdp_messages.specs.Asked.{asked, asked_by, command_of, method_of, method_name, parameters, fits_command, command_value}
use Rattle.cdp_messages.specs.Asked.{command_text, json_of}
use Rattle.cdp_messages.specs.Events.{News, attribute_modified, attribute_removed, text_modified, count_updated, inserted, removed}
use Rattle.cdp_messages.specs.Events.{set_children, document_updated, sheet_added, sheet_changed, sheet_removed, paused}
use Rattle.cdp_messages.specs.Events.{news_data, fits_news}
use Rattle.cdp_messages.specs.declared.method.Method.{Method}
use Rattle.cdp_messages.specs.Methods.{result_form}
use Rattle.cdp_messages.specs.Results.{is_form, body_data, fits_body, form_of_body, Spells, BodyHasUtf8, body_height}
use Rattle.cdp_messages.specs.Replies.{Message, reply, fault, event, event_text, message_data, fits_message, message_in, down_of, result_of}
use Rattle.cdp_messages.specs.Replies.{reply_text, refusal_message, refused_text}
use Rattle.dom_objects.specs.NodeTexts.{NodesHaveUtf8}

-- JSON nests as deep as it is read
abbrev pub Shallow : Data → Type 0
Shallow d = depth d ≤ max_depth

-- a frame that was written is asked as its method, its parameters and its session say
abbrev pub AsksAreAsked : Type 0
AsksAreAsked = (own : Bool) (id : ℕ) (method : List ℕ) (params session : Option Data) → is_counted id ≡ true
    → holds_of_some is_plain params ≡ true → holds_of_some is_plain session ≡ true
    → Shallow (command_value id method params session) → IsUtf8 (command_text id method params session)
    → asked (command_text id method params session) own ≡ asked_by id (command_of own method params session)

-- a command with its parameters is that command, where its method is known
abbrev pub ParametersAreRead : Type 0
ParametersAreRead = (own : Bool) (c : Command) → fits_command c ≡ true → (is_own (method_of c) && not own) ≡ false
    → command_of own (method_name c) (Some (parameters c)) None ≡ Ok c

-- the parameters of the protocol's commands are plain: those of our own two methods are as they were given
abbrev pub ParametersArePlain : Type 0
ParametersArePlain = (c : Command) → fits_command c ≡ true → is_own (method_of c) ≡ false → is_plain (parameters c) ≡ true

-- a command that was written with its parameters is asked as that command, where its method is known
abbrev pub CommandsAreAsked : Type 0
CommandsAreAsked = (own : Bool) (id : ℕ) (c : Command) → is_counted id ≡ true → fits_command c ≡ true
    → (is_own (method_of c) && not own) ≡ false → is_plain (parameters c) ≡ true
    → Shallow (command_value id (method_name c) (Some (parameters c)) None)
    → IsUtf8 (command_text id (method_name c) (Some (parameters c)) None)
    → asked (command_text id (method_name c) (Some (parameters c)) None) own ≡ Ok (record { id = id; command = c })

-- a command that is asked by a method is one of that method, with its parameters in their ranges
abbrev pub CommandsAreNamed : Type 0
CommandsAreNamed = (own : Bool) (method : List ℕ) (params session : Option Data) (c : Command)
    → command_of own method params session ≡ Ok c → (method ≡ method_name c) × (fits_command c ≡ true)

-- what any bytes ask has an id below 2^53, and its parameters in their ranges
abbrev pub AsksFit : Type 0
AsksFit = (own : Bool) (bytes : List ℕ) (a : Asked) → asked bytes own ≡ Ok a → (is_counted a.id ≡ true) × (fits_command a.command ≡ true)

-- no text of plain JSON has a zero byte
abbrev pub TextsHaveNoZero : Type 0
TextsHaveNoZero = (d : Data) → is_plain d ≡ true → All (λ byte. byte ≢ 0) (compact_text d)

-- a reply is read as that reply
abbrev pub RepliesAreRead : Type 0
RepliesAreRead = (id : ℕ) (body : ReplyBody) → is_counted id ≡ true → fits_body body ≡ true
    → Shallow (message_data (reply id (body_data body))) → IsUtf8 (reply_text id body)
    → down_of (reply_text id body) ≡ Some (reply id (body_data body))

-- ---- UTF-8

-- the texts that an event tells are UTF-8
abbrev pub NewsHaveUtf8 : News → Type 0
NewsHaveUtf8 (attribute_modified id name value) = IsUtf8 name × IsUtf8 value
NewsHaveUtf8 (attribute_removed id name) = IsUtf8 name
NewsHaveUtf8 (text_modified id value) = IsUtf8 value
NewsHaveUtf8 (count_updated id count) = ⊤
NewsHaveUtf8 (inserted parent previous b) = NodesHaveUtf8 (alone b)
NewsHaveUtf8 (removed parent id) = ⊤
NewsHaveUtf8 (set_children parent nodes) = NodesHaveUtf8 nodes
NewsHaveUtf8 document_updated = ⊤
NewsHaveUtf8 (sheet_added header) = ⊤
NewsHaveUtf8 (sheet_changed sheet) = ⊤
NewsHaveUtf8 (sheet_removed sheet) = ⊤
NewsHaveUtf8 (paused why) = ⊤

-- the text of a reply is UTF-8 where the texts in it are
abbrev pub RepliesAreUtf8 : Type 0
RepliesAreUtf8 = (id : ℕ) (body : ReplyBody) → is_counted id ≡ true → fits_body body ≡ true → BodyHasUtf8 body → IsUtf8 (reply_text id body)

-- the text of an event is UTF-8 where the texts in it are
abbrev pub EventsAreUtf8 : Type 0
EventsAreUtf8 = (n : News) → fits_news n ≡ true → NewsHaveUtf8 n → IsUtf8 (event_text n)

-- ---- further laws

-- shown children of a node with this id that suit a message are told in a form that fits
abbrev pub ShownChildrenFit : Type 0
ShownChildrenFit = (parent : ℕ) (n : Nodes Seen) → is_counted parent ≡ true → 0 < parent → suits_nodes n ≡ true
    → fits_news (set_children parent (told_nodes parent n)) ≡ true

-- a reply with nodes of as many levels as there may be nests at most 124 deep
abbrev pub RepliesAreShallow : Type 0
RepliesAreShallow = (id : ℕ) (body : ReplyBody) → body_height body ≤ most_told_root → Shallow (message_data (reply id (body_data body)))

-- how many levels of nodes an event tells
abbrev pub news_height : News → ℕ
news_height (attribute_modified id name value) = 0
news_height (attribute_removed id name) = 0
news_height (text_modified id value) = 0
news_height (count_updated id count) = 0
news_height (inserted parent previous b) = height (alone b)
news_height (removed parent id) = 0
news_height (set_children parent nodes) = height nodes
news_height document_updated = 0
news_height (sheet_added header) = 0
news_height (sheet_changed sheet) = 0
news_height (sheet_removed sheet) = 0
news_height (paused why) = 0

-- an event nests less deep than JSON may where its nodes have one level less
abbrev pub EventsAreShallow : Type 0
EventsAreShallow = (n : News) → news_height n ≤ most_told → Shallow (news_data n)

-- an event is read as that event
abbrev pub EventsAreRead : Type 0
EventsAreRead = (n : News) → fits_news n ≡ true → Shallow (news_data n) → IsUtf8 (event_text n) → down_of (event_text n) ≡ Some (event n)

-- a refusal is read as that refusal
abbrev pub RefusalsAreRead : Type 0
RefusalsAreRead = (r : Refused) → holds_of_some is_counted r.id ≡ true → down_of (refused_text r) ≡ Some (refusal_message r)

-- the compact text of a message of whole numbers is read as that message
abbrev pub MessagesAreRead : Type 0
MessagesAreRead = (m : Message) → fits_message m ≡ true → is_plain (message_data m) ≡ true → Shallow (message_data m)
    → IsUtf8 (compact_text (message_data m))
    → down_of (compact_text (message_data m)) ≡ Some m

-- what spells a message is read as that message, of any value: with any result that is an object, with any code and any text
abbrev pub ValuesAreRead : Type 0
ValuesAreRead = (m : Message) → fits_message m ≡ true → message_in (message_data m) ≡ Some m

-- and so is every text of such a value, compact or not, whatever its numbers
abbrev pub SpellingsAreRead : Type 0
SpellingsAreRead = (m : Message) (bytes : List ℕ) → fits_message m ≡ true → json_of bytes ≡ Some (message_data m)
    → down_of bytes ≡ Some m

-- an error of any code and any text is read as that error
abbrev pub FaultsAreRead : Type 0
FaultsAreRead = (id : Option ℕ) (code : ℤ) (text : List ℕ) → holds_of_some is_counted id ≡ true → is_signed code ≡ true → IsUtf8 text
    → down_of (compact_text (message_data (fault id code text))) ≡ Some (fault id code text)

-- the result of a method, if it is one, has the form of this one
abbrev pub has_result : Option Method → ReplyBody → Bool
has_result None body = false
has_result (Some m) body = is_form (result_form m) (form_of_body body)

-- the method of that name has such a result
abbrev pub answers : List ℕ → ReplyBody → Bool
answers method body = has_result (method_named method) body

-- any object is the empty result of a method that has it
abbrev pub ObjectsAreEmpty : Type 0
ObjectsAreEmpty = (method : List ℕ) (ms : Members) → answers method Nothing ≡ true → result_of method (object ms) ≡ Some Nothing

-- a result is read as that result
abbrev pub ResultsAreRead : Type 0
ResultsAreRead = (method : List ℕ) (body : ReplyBody) → answers method body ≡ true → fits_body body ≡ true
    → result_of method (body_data body) ≡ Some body

-- a message that is read is spelled so
abbrev pub MessagesAreSpelled : Type 0
MessagesAreSpelled = (d : Data) (m : Message) → message_in d ≡ Some m → (message_data m ≡ d) × (fits_message m ≡ true)

-- a result that is read is spelled so, and is one of that method
abbrev pub ResultsAreSpelled : Type 0
ResultsAreSpelled = (method : List ℕ) (d : Data) (body : ReplyBody) → result_of method d ≡ Some body
    → Spells body d × (fits_body body ≡ true) × (answers method body ≡ true)

-- no value spells two messages
abbrev pub OneMessage : Type 0
OneMessage = (m n : Message) → fits_message m ≡ true → fits_message n ≡ true → message_data m ≡ message_data n → m ≡ n

-- no value spells two results
abbrev pub OneResult : Type 0
OneResult = (a b : ReplyBody) → fits_body a ≡ true → fits_body b ≡ true → body_data a ≡ body_data b → a ≡ b
