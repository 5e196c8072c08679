-- What a search finds, and that it stays.
use Rattle.back_end.proofs.FoundShown.{searches-find-shown, searches-keep-found}
use Rattle.back_end.proofs.KeptSearches.{edits-keep-found, asks-keep-found, found-forgotten}
use Rattle.back_end.proofs.laws.search_law.Goals as goal

pub returns-clause-finds : goal.returns-clause-finds
returns-clause-finds c = searches-find-shown

pub returns-clause-keeps : goal.returns-clause-keeps
returns-clause-keeps c = searches-keep-found

pub returns-clause-edits : goal.returns-clause-edits
returns-clause-edits c = edits-keep-found

pub returns-clause-asks : goal.returns-clause-asks
returns-clause-asks c = asks-keep-found

pub returns-clause-forgets : goal.returns-clause-forgets
returns-clause-forgets c = found-forgotten
