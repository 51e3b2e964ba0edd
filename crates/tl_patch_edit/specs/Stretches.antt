-- The bytes of a page that its elements have, by its end tags.
use Rattle.std.specs.List.{slice_get}
use Rattle.std.specs.Option.{option_map, unwrap_or}
use Rattle.std.specs.Prelude.{List, if◌then◌else◌, length, map, suc, ℕ, ◌==◌, ◌||◌}
use Rattle.tl_html_spec.specs.Pieces.{Piece}
use Rattle.tl_patch_edit.specs.Errors.{pieces_in, placed_pieces}
use Rattle.tl_patch_edit.specs.declared.reach.Stretch.{Stretch}
use Rattle.tl_patch_spec.specs.Elements.{Element}
use Rattle.tl_patch_spec.specs.Tail.{elements_up_to_tail, is_tail_name, tail_from}

-- the byte where the piece of a number begins, or where the page ends
abbrev pub begin_of : List ℕ → ℕ → ℕ
begin_of page number =
    unwrap_or
    (option_map (λ (p : ℕ × Piece). p.0) (slice_get (placed_pieces page) number))
    (length page)

-- the number of the first piece behind an element
abbrev pub past : Element → ℕ
past e = if e.has_end_tag || (e.end == e.start) then suc e.end else e.end

-- from its start tag up to its end, behind its own end tag if it has one
abbrev pub stretch_of : List ℕ → Element → Stretch
stretch_of page e = record { start = begin_of page e.start; end = begin_of page (past e) }

-- those of the elements of a page, up to its tail
abbrev pub stretches : List ℕ → List Stretch
stretches page = map (stretch_of page) (elements_up_to_tail (pieces_in page))

-- where the end tags of `body` and `html` begin that stand last in a page, or where it ends
abbrev pub tail_begin : List ℕ → ℕ
tail_begin page = begin_of page (tail_from is_tail_name 0 (pieces_in page))
