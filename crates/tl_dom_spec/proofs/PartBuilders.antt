-- The partial builder of `tl_tree_spec` and the whole one, side by side: what they hold alike, and what is done to both.
use Rattle.std.proofs.Common.{◌≡◌, ℕ, suc, Bool, true, false, ◌==◌, List, [], ◌∷◌, map, Option, None, Some}
use Rattle.std.specs.Prelude.{⊤, ◌<◌}
use Rattle.tl_tree_spec.specs.Builder as P
use Rattle.tl_tree_spec.specs.Groups as G
use Rattle.tl_dom_spec.specs.Tags.{Tag, html_space}
use Rattle.tl_dom_spec.specs.Groups as D
use Rattle.tl_dom_spec.specs.Partial.{begins_in_flow}
use Rattle.tl_dom_spec.specs.Builder as B
use Rattle.tl_dom_spec.proofs.PartPaths.{IsStack, frames_of, name_of, path_of, tag_of}
use Rattle.tl_dom_spec.proofs.PartSources.{bare_entries, bare_path}

-- the mode where no part of a table is open, in a `caption` as the context element or in another one
abbrev pub first_mode : Bool → B.Mode
first_mode true = B.in_caption
first_mode false = B.in_body

abbrev pub mode_is : Bool → P.Mode → B.Mode
mode_is v P.in_body = first_mode v
mode_is v P.in_table = B.in_table
mode_is v P.in_caption = B.in_caption
mode_is v P.in_column_group = B.in_column_group
mode_is v P.in_table_body = B.in_table_body
mode_is v P.in_row = B.in_row
mode_is v P.in_cell = B.in_cell

abbrev pub entry_of : P.Entry → B.Entry
entry_of P.marker = B.marker
entry_of (P.formatting e) = B.formatting (suc e.number) (tag_of e.own)

-- what may be listed
abbrev pub is_formatting_group : G.Group → Bool
is_formatting_group G.a_format = true
is_formatting_group G.an_anchor = true
is_formatting_group G.a_nobr = true
is_formatting_group _ = false

-- numbers of entries are lower than the next one, no two are the same, and names are those of formatting elements
abbrev pub AreListed : ℕ → List P.Entry → Type 0
AreListed next [] = ⊤
AreListed next (P.marker ∷ entries) = AreListed next entries
AreListed next (P.formatting e ∷ entries) =
    (is_formatting_group (G.group e.own.name) ≡ true) × (P.is_listed e.number entries ≡ false) × (e.number < next) × AreListed next entries

-- an element that is open and listed is one
abbrev pub Agrees : P.Frame → List P.Entry → Type 0
Agrees f [] = ⊤
Agrees f (P.marker ∷ entries) = Agrees f entries
Agrees f (P.formatting e ∷ entries) = ((f.element.number == e.number) ≡ true → f.element.own ≡ e.own) × Agrees f entries

abbrev pub AreNumbered : ℕ → List P.Entry → List P.Frame → Type 0
AreNumbered next entries [] = ⊤
AreNumbered next entries (f ∷ fs) = (f.element.number < next) × Agrees f entries × AreNumbered next entries fs

-- which element stands right in which: parts of a table in one another, and nothing else in a table, a row or what is around rows. A `col` is never open

abbrev pub is_cell_or_caption : G.Group → Bool
is_cell_or_caption G.a_cell = true
is_cell_or_caption G.a_caption = true
is_cell_or_caption _ = false

-- where the rules of "in body" are used
abbrev pub is_flow_group : G.Group → Bool
is_flow_group G.a_table = false
is_flow_group G.a_table_body = false
is_flow_group G.a_row = false
is_flow_group G.a_column_group = false
is_flow_group _ = true

abbrev pub stands_in : G.Group → G.Group → Bool
stands_in G.a_table_body around = G.is_table_group around
stands_in G.a_column_group around = G.is_table_group around
stands_in G.a_caption around = G.is_table_group around
stands_in G.a_row around = G.is_table_body_group around
stands_in G.a_cell around = G.is_row_group around
stands_in G.a_column around = false
stands_in inner around = is_flow_group around

abbrev pub Stand : P.Frame → List P.Frame → Type 0
Stand f [] = ⊤
Stand f (o ∷ os) = (stands_in (G.group (name_of f)) (G.group (name_of o)) ≡ true) × Stand o os

-- what holds of the partial builder
pub record Sound (b : P.Builder) : Type 0 where
  pub stack : IsStack b.stack.current b.stack.others
  pub stand : Stand b.stack.current b.stack.others
  pub entries : AreListed b.next b.active
  pub numbers : AreNumbered b.next b.active (frames_of b.stack)
  pub mode : b.mode ≡ P.mode_of (P.names b.stack)

-- the element as one of HTML
abbrev pub as_html : Tag → Tag
as_html tag = record tag { space = html_space }

-- the context element is one of HTML in which the first rules are those of "in body" or "in caption"
pub record IsFlow (context : Option Tag) : Type 0 where
  pub tag : Tag
  pub is : context ≡ Some (as_html tag)
  pub begins : begins_in_flow (D.group tag.name) ≡ true

abbrev pub is_caption_group : D.Group → Bool
is_caption_group D.a_caption = true
is_caption_group _ = false

-- whether it is a `caption`
abbrev pub in_caption : Option Tag → Bool
in_caption None = false
in_caption (Some tag) = is_caption_group (D.group tag.name)

-- what the whole builder holds besides is no matter, nor are the numbers of start tags
pub record Like (b : P.Builder) (c : B.Builder) : Type 0 where
  pub path : bare_path c.path ≡ path_of (frames_of b.stack)
  pub active : bare_entries c.active ≡ map entry_of b.active
  pub next : c.next ≡ suc b.next
  pub mode : c.mode ≡ mode_is (in_caption c.context) b.mode
  pub skips : c.skips ≡ b.skips
  pub fostering : c.is_fostering ≡ false
  pub quirks : c.is_quirks ≡ b.reading.is_quirks
  pub templates : c.templates ≡ []
  pub context : IsFlow c.context
  pub search : c.flags.counts_search ≡ b.reading.counts_search

-- both
pub record Alike (b : P.Builder) (c : B.Builder) : Type 0 where
  pub sound : Sound b
  pub like : Like b c
