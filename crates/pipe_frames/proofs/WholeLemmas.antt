-- What a sink has taken, and a source has given, over calls that follow one another.
use Rattle.std.proofs.Common.{◌≡◌, ℕ, ◌+◌, ◌≤◌, ◌<◌, List, [], ◌++◌, length, take, drop, Some, None, refl, sym, ◌∙◌, ap, append_assoc}
use Rattle.std.proofs.Common.{append-nil, arith, length-append}
use Rattle.std.specs.Prelude.{Option}
use Rattle.std.specs.Io.KnownBytes.{Appends, Consumes, Keeps, IsAtEnd}
use Rattle.std.proofs.lemmas.List.{take-append-drop, nil_from_length}
use Rattle.pipe_frames.specs.Whole.{IsAllOf, HasMoreThan, ReadPart, WrotePart}

-- nothing is taken by no call
pub Appends-nil : (taken : Option (List ℕ)) → Appends taken taken []
Appends-nil None = tt
Appends-nil (Some bytes) = sym (append-nil bytes)

-- what is taken by two calls
pub Appends-append : (before between after : Option (List ℕ)) (first second : List ℕ)
    → Appends before between first → Appends between after second → Appends before after (first ++ second)
Appends-append None between after first second one two = tt
Appends-append (Some xs) None after first second one two = absurd one
Appends-append (Some xs) (Some ys) None first second one two = absurd two
Appends-append (Some xs) (Some ys) (Some zs) first second one two =
    two ∙ ap (λ bytes. bytes ++ second) one ∙ append_assoc xs first second

-- a sink that took a whole text took the front part of any that begins with it
pub WrotePart-all : (before after : Option (List ℕ)) (text more : List ℕ)
    → Appends before after text → WrotePart before after (text ++ more)
WrotePart-all before after text more wrote = record { part = text; rest = more; whole = refl; wrote = wrote }

-- the front part of a text is that of a longer one
pub WrotePart-longer : (before after : Option (List ℕ)) (text more : List ℕ)
    → WrotePart before after text → WrotePart before after (text ++ more)
WrotePart-longer before after text more wrote = record {
  part = wrote.part;
  rest = wrote.rest ++ more;
  whole = ap (λ bytes. bytes ++ more) wrote.whole ∙ append_assoc wrote.part wrote.rest more;
  wrote = wrote.wrote;
}

-- a whole text, and then the front part of the next
pub WrotePart-after : (before between after : Option (List ℕ)) (text more : List ℕ)
    → Appends before between text → WrotePart between after more → WrotePart before after (text ++ more)
WrotePart-after before between after text more first wrote = record {
  part = text ++ wrote.part;
  rest = wrote.rest;
  whole = ap (λ bytes. text ++ bytes) wrote.whole ∙ sym (append_assoc text wrote.part wrote.rest);
  wrote = Appends-append before between after text wrote.part first wrote.wrote;
}

-- a sink has taken all of a piece but the rest
pub record Writes (before after : Option (List ℕ)) (piece rest : List ℕ) : Type 0 where
  pub part : List ℕ
  pub whole : piece ≡ part ++ rest
  pub wrote : Appends before after part

pub Writes-more : (before between after : Option (List ℕ)) (piece rest : List ℕ) (count : ℕ)
    → Writes before between piece rest → Appends between after (take count rest) → Writes before after piece (drop count rest)
Writes-more before between after piece rest count writes more = record {
  part = writes.part ++ take count rest;
  whole =
      writes.whole
      ∙ ap (λ bytes. writes.part ++ bytes) (sym (take-append-drop count rest))
      ∙ sym (append_assoc writes.part (take count rest) (drop count rest));
  wrote = Appends-append before between after writes.part (take count rest) writes.wrote more;
}

-- no call takes nothing from a source
pub Consumes-nil : (left : Option (List ℕ)) → Consumes left left []
Consumes-nil None = tt
Consumes-nil (Some bytes) = refl

-- what is taken from a source by two calls
pub Consumes-append : (before between after : Option (List ℕ)) (first second : List ℕ)
    → Consumes before between first → Consumes between after second → Consumes before after (first ++ second)
Consumes-append None between after first second one two = tt
Consumes-append (Some xs) None after first second one two = absurd one
Consumes-append (Some xs) (Some ys) None first second one two = absurd two
Consumes-append (Some xs) (Some ys) (Some zs) first second one two =
    one ∙ ap (λ bytes. first ++ bytes) two ∙ sym (append_assoc first second zs)

-- what a call that failed took is a part too
pub ReadPart-after : (before between after : Option (List ℕ)) (bytes : List ℕ) (room limit : ℕ)
    → Consumes before between bytes → ReadPart between after room → length bytes + room ≤ limit → ReadPart before after limit
ReadPart-after before between after bytes room limit read more within = record {
  part = bytes ++ more.part;
  count = let count : length more.part ≤ room = more.count in rw length-append (omega arith);
  read = Consumes-append before between after bytes more.part read more.read;
}
