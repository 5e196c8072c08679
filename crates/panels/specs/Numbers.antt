-- Numbers of nodes as code holds them, and their sums.
use Rattle.std.specs.Prelude.{◌≡◌, ◌<◌, ℕ, ◌+◌, Bool, true, List, [], ◌∷◌, ◌++◌, codes, Option, Some, None, Result, IfOk}
use Rattle.std.specs.declared.alloc.AllocError.{AllocError}
use Rattle.node_tree.specs.Numbers.{number_limit}
use Rattle.node_tree.specs.Nodes.{Nodes}
use Rattle.node_tree.specs.Labels.{is_element, is_doctype}
use Rattle.node_tree.specs.Seen.{Seen, shows_count}
use Rattle.front_mirror.specs.declared.panels.Change.{Change}
use Rattle.front_mirror.specs.Panels.{one_where, Numbers, numbers_of, numbers_text, is_text, is_comment, Turns}
use Rattle.panels.specs.declared.numbers.Tally.{Tally}

-- the numbers that code holds
abbrev pub numbers_in : Tally → Numbers
numbers_in t = record {
  elements = t.elements;
  texts = t.texts;
  comments = t.comments;
  doctypes = t.doctypes;
  unopened = t.unopened;
}

-- no nodes
abbrev pub no_numbers : Numbers
no_numbers = record { elements = 0; texts = 0; comments = 0; doctypes = 0; unopened = 0 }

-- the numbers of one node
abbrev pub row_numbers : Seen → Numbers
row_numbers r = record {
  elements = one_where (is_element r.label.kind);
  texts = one_where (is_text r.label.kind);
  comments = one_where (is_comment r.label.kind);
  doctypes = one_where (is_doctype r.label.kind);
  unopened = one_where (shows_count r.hold);
}

-- the numbers of both
abbrev pub plus : Numbers → Numbers → Numbers
plus n m = record {
  elements = n.elements + m.elements;
  texts = n.texts + m.texts;
  comments = n.comments + m.comments;
  doctypes = n.doctypes + m.doctypes;
  unopened = n.unopened + m.unopened;
}

-- numbers that code can hold
pub record AreSmall (n : Numbers) : Type 0 where
  pub elements : n.elements < number_limit
  pub texts : n.texts < number_limit
  pub comments : n.comments < number_limit
  pub doctypes : n.doctypes < number_limit
  pub unopened : n.unopened < number_limit

-- what is shown of the numbers, if there is a document
abbrev pub tally_text : Option Tally → List ℕ
tally_text None = codes "no document" ++ 10 ∷ []
tally_text (Some t) = numbers_text (numbers_in t)

-- the numbers after a change, where those before were the mirror's and the call says that it is done
abbrev pub NumbersTurned : Change → Numbers → Numbers → Nodes Seen → Result Bool AllocError → Type 0
NumbersTurned change old new after result =
    (before : Nodes Seen) → Turns before change after → old ≡ numbers_of before → IfOk result (λ done. done ≡ true → new ≡ numbers_of after)
