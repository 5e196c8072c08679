-- The media rules of a sheet, as they hold of a medium.
use Rattle.std.specs.Prelude.{ℕ, Bool, List}
use Rattle.selectors.specs.Words.{between}
use Rattle.sheet_reader.specs.declared.sheet.MediaRule.{MediaRule}
use Rattle.sheet_reader.specs.Sheets.{sheet_of}
use Rattle.sheet_reader.specs.Around.{held}
use Rattle.media_rules.specs.declared.medium.Medium.{Medium}
use Rattle.media_rules.specs.Readings.{holds_of}

-- what a media rule of the text asks for holds of the medium
abbrev pub media_holds : List ℕ → Medium → MediaRule → Bool
media_holds text m r = holds_of (between text r.prelude.start r.prelude.end) m

-- for each media rule of the text, whether it and every one around it holds of the medium
abbrev pub media_held : Medium → List ℕ → List Bool
media_held m text = held (media_holds text m) (sheet_of text).media
