-- What rows stand for, and which of them hold numbers in range.
use Rattle.std.specs.Prelude.{Bool, List, None, Option, Some, [], drop, nat_le, nat_lt, suc, take, true, zero, ℕ, ◌&&◌, ◌∷◌}
use Rattle.tl_dom_spec.specs.Marks.{marked}
use Rattle.tl_tree.specs.Inner.Gathering.{Flat, flat}
use Rattle.tl_tree.specs.Inner.Store.{doctype_at, tag_at}
use Rattle.tl_tree.specs.Inner.Within.{Sizes, span_is_within}
use Rattle.tl_tree.specs.Rows as rows
use Rattle.tl_tree.specs.declared.row.Held.{Held}
use Rattle.tl_tree.specs.declared.row.Held.TheVariants.{Comment, Contents, Doctype, Element, Text}
use Rattle.tl_tree.specs.declared.row.Row.{Row}
use Rattle.tl_tree.specs.declared.span.Span.{Span}
use Rattle.tl_tree.specs.declared.store.Store.{Store}

abbrev pub held_is_within : Sizes → Held → Bool
held_is_within z (Element tag) = nat_lt tag z.tags
held_is_within z Contents = true
held_is_within z (Text own) = span_is_within z.page z.side own.span
held_is_within z (Comment own) = span_is_within z.page z.side own.span
held_is_within z (Doctype n source) = nat_lt n z.doctypes

abbrev pub row_is_within : Sizes → Row → Bool
row_is_within z row = held_is_within z row.held

-- bytes of a text
abbrev pub bytes_in : List ℕ → Span → List ℕ
bytes_in text span = take span.len (drop span.start text)

-- what is held, where the text is that of the store or begins with it
abbrev pub held_in : Store → List ℕ → Held → rows.Node
held_in s text (Element tag) = rows.an_element (tag_at s tag)
held_in s text Contents = rows.contents
held_in s text (Text own) = rows.a_text (marked own.source (bytes_in text own.span))
held_in s text (Comment own) = rows.a_comment (marked own.source (bytes_in text own.span))
held_in s text (Doctype n source) = rows.a_doctype (marked source (doctype_at s n))

-- a number and one more, or 0 for none
abbrev pub parent_of : ℕ → Option ℕ
parent_of zero = None
parent_of (suc n) = Some n

abbrev pub row_in : Store → List ℕ → Row → rows.Row
row_in s text row = record {
  node = held_in s text row.held;
  parent = parent_of row.parent;
  end = row.end;
}

-- a row as it is written first, where `end` counts what comes behind it
abbrev pub flat_in : Store → List ℕ → Row → Flat
flat_in s text row = flat (held_in s text row.held) row.end

-- each row stands in one before it, and ends behind itself, where the first one has a number
abbrev pub are_in_order : ℕ → List Row → Bool
are_in_order number [] = true
are_in_order number (row ∷ rows) =
    nat_le row.parent number && (nat_lt number row.end && are_in_order (suc number) rows)
