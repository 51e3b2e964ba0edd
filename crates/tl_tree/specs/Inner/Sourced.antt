-- What a reader keeps of the marks that it took.
use Rattle.std.specs.Prelude.{List, [], if◌then◌else◌, length, map, ℕ, ◌++◌, ◌≡◌, ◌≤◌, ◌∷◌}
use Rattle.tl_dom_spec.specs.Builder as dom
use Rattle.tl_dom_spec.specs.Builder.{end_of_file}
use Rattle.tl_dom_spec.specs.Dispatcher.{token_done}
use Rattle.tl_html_tokens.specs.Modes.{state_of}
use Rattle.tl_html_tokens.specs.declared.front.Front.{Front}
use Rattle.tl_tree.specs.Inner.Builders.{builder_of}
use Rattle.tl_tree.specs.Sources.{IsNext, Mark, Reached, Reads, bounds_in, is_mark}
use Rattle.tl_tree.specs.declared.reader.Reader.{Reader}
use Rattle.tl_tree.specs.declared.source.Bounds.{Bounds}

abbrev pub reached_of : Reader → List Mark → Reached
reached_of r marks = record {
  at = r.at;
  state = state_of r.mode;
  built = builder_of r.builder;
  marks = marks;
}

-- places of marks, with that of what stands in front
abbrev pub with_source : List Bounds → ℕ → Front → List Bounds
with_source sources start front =
    if is_mark front.kind
    then sources ++ record { start = start; end = front.end } ∷ []
    else sources

abbrev pub bounds_of : Mark → Bounds
bounds_of m = record { start = m.start; end = m.end }

-- where the page begins, and its marks
abbrev pub places_of : ℕ → List Mark → List Bounds
places_of begin marks = record { start = 0; end = begin } ∷ map bounds_of marks

-- what was read from a begin on, with the places of the marks in it
pub record IsSourced (begin : Reached) (r : Reader) : Type 0 where
  pub marks : List Mark
  pub read : Reads r.page.now begin (reached_of r marks)
  pub sources : bounds_in r.sources ≡ places_of begin.at marks

-- a reader took what stood next, with the marks that it had taken before
pub record IsFurther (begin : ℕ) (marks : List Mark) (r s : Reader) : Type 0 where
  pub taken : List Mark
  pub next : IsNext r.page.now (reached_of r marks) (reached_of s taken)
  pub sources : bounds_in s.sources ≡ places_of begin taken

-- whatever these are
abbrev pub TakesNext : Reader → Reader → Type 0
TakesNext r s =
    (begin : ℕ) (marks : List Mark) →
    bounds_in r.sources ≡ places_of begin marks → IsFurther begin marks r s

-- the page is read to its end, and these are the places of its marks
pub record AreSources (page : List ℕ) (begin : Reached) (built : dom.Builder)
    (places : List Bounds) : Type 0 where
  pub last : Reached
  pub read : Reads page begin last
  pub whole : length page ≤ last.at
  pub done : built ≡ token_done last.built end_of_file
  pub sources : places ≡ places_of begin.at last.marks
