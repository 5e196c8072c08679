-- The parts and items of the code, without where their pieces lie in memory.
use Rattle.sheet_reader.specs.declared.parts.Ending.{Ending}
use Rattle.sheet_reader.specs.declared.parts.Ending.TheVariants as endings
use Rattle.sheet_reader.specs.declared.parts.Part.{Part}
use Rattle.sheet_reader.specs.declared.parts.Part.TheVariants as part_kinds
use Rattle.sheet_reader.specs.declared.declarations.Item.{Item}
use Rattle.sheet_reader.specs.declared.declarations.Item.TheVariants as item_kinds
use Rattle.sheet_reader.specs.Declarations as items
use Rattle.sheet_reader.specs.declared.media.Media.{Media}
use Rattle.sheet_reader.specs.declared.frames.Frame.{Frame}
use Rattle.sheet_reader.specs.Layout.{MediaForm}
use Rattle.sheet_reader.specs.Frames.{FrameForm}
use Rattle.sheet_reader.specs.Parts.{EndingForm, text_end, semicolon, block, PartForm, passed, at_rule, qualified}

-- the ending of a rule, a block's body as the list of its pieces
abbrev pub ending_seen : Ending → EndingForm
ending_seen endings.TextEnd = text_end
ending_seen (endings.Semicolon t) = semicolon t
ending_seen (endings.Block first body close) = block first body.now close

-- a part of a sheet, its prelude and its block's body as lists of their pieces
abbrev pub part_seen : Part → PartForm
part_seen (part_kinds.Passed t) = passed t
part_seen (part_kinds.AtRule keyword prelude ending) = at_rule keyword prelude.now (ending_seen ending)
part_seen (part_kinds.Qualified prelude ending) = qualified prelude.now (ending_seen ending)

-- a media rule, its prelude and its block as lists of their pieces
abbrev pub media_seen : Media → MediaForm
media_seen m = record { keyword = m.keyword; prelude = m.prelude.now; inside = m.inside.now }

-- pieces that are left, as their list
abbrev pub frame_seen : Frame → FrameForm
frame_seen f = record { left = f.left.now; around = f.around }

-- an item of a body, its pieces as a list
abbrev pub item_seen : Item → items.ItemForm
item_seen (item_kinds.Passed t) = items.passed t
item_seen (item_kinds.AtRule part) = items.at_rule (part_seen part)
item_seen (item_kinds.Candidate own) = items.candidate own.now
item_seen (item_kinds.Other own) = items.other own.now
