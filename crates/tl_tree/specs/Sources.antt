-- Where the marks of a page stand, by the tokens that tree construction takes of it: each piece of
-- the page is taken from where the one before it ends, in the state that the tokenizer goes on in.
-- Marks are all tokens but characters and the end of the page.
use Rattle.std.specs.Option.{option_and_then, option_map, unwrap_or}
use Rattle.std.specs.Prelude.{Bool, List, None, Option, Some, [], false, if◌then◌else◌, length, map, slice_get, suc, true, zero, ℕ, ◌++◌, ◌∷◌, ◌≡◌, ◌≤◌}
use Rattle.tl_dom_spec.specs.Builder.{Builder, Flags, end_of_file}
use Rattle.tl_dom_spec.specs.Dispatcher.{token_done}
use Rattle.tl_dom_spec.specs.Driver.{builder}
use Rattle.tl_dom_spec.specs.HtmlTree.{Context, context_state, fragment_start, is_little, page_start}
use Rattle.tl_html_spec.specs.Driven.{Emission, characters, taken}
use Rattle.tl_html_spec.specs.HtmlTokenizer.{State, data_state, with_feeds}
use Rattle.tl_html_tokens.specs.Driving.{opens_section, state_set}
use Rattle.tl_html_tokens.specs.Emits.{AreEmits, front_bytes}
use Rattle.tl_html_tokens.specs.Fronts.{IsFront}
use Rattle.tl_html_tokens.specs.Modes.{state_of}
use Rattle.tl_html_tokens.specs.Sections.{IsSection, section_text}
use Rattle.tl_html_tokens.specs.Tokens.{mark_len}
use Rattle.tl_html_tokens.specs.declared.front.Front.{Front}
use Rattle.tl_html_tokens.specs.declared.mode.Mode.{Mode}
use Rattle.tl_html_tokens.specs.declared.section.Section.{Section}
use Rattle.tl_html_tokens.specs.declared.stage.TokenKind.{TokenKind}
use Rattle.tl_html_tokens.specs.declared.stage.TokenKind.TheVariants as kind
use Rattle.tl_tree.specs.Asked.{node_at}
use Rattle.tl_tree.specs.Places.{bounds_at}
use Rattle.tl_tree.specs.Rows.{Node, a_comment, a_doctype, a_text, an_element, contents}
use Rattle.tl_tree.specs.TreeView.{rows_in}
use Rattle.tl_tree.specs.declared.places.Places.{Places}
use Rattle.tl_tree.specs.declared.source.Bounds.{Bounds}
use Rattle.tl_tree.specs.declared.source.Source.{Source}
use Rattle.tl_tree.specs.declared.tree.Tree.{Tree}

-- What is read

-- a mark, and where it stands
pub record Mark : Type 0 where
  pub kind : TokenKind
  pub start : ℕ
  pub end : ℕ

-- how far a page is read: how the tokenizer goes on there, what the tree builder holds, and the
-- marks so far, of which the first has the number 0
pub record Reached : Type 0 where
  pub at : ℕ
  pub state : State
  pub built : Builder
  pub marks : List Mark

-- before the first token of a page, behind a byte order mark
abbrev pub page_begin : Flags → List ℕ → Reached
page_begin flags page = record {
  at = mark_len page;
  state = data_state;
  built = page_start flags;
  marks = [];
}

-- before the first token of a fragment
abbrev pub fragment_begin : Flags → Context → Reached
fragment_begin flags context = record {
  at = 0;
  state = context_state flags context.tag;
  built = fragment_start flags context;
  marks = [];
}

-- what stands there, in front, is one token or a text, and no CDATA section
pub record Stands (page : List ℕ) (r : Reached) (mode : Mode) (front : Front) : Type 0 where
  pub state : state_of mode ≡ r.state
  pub piece : IsFront page r.at mode front
  pub no_section : opens_section builder r.built page r.at mode ≡ false

abbrev pub is_mark : TokenKind → Bool
is_mark kind.Text = false
is_mark kind.Nothing = false
is_mark _ = true

-- with what stands in front at a place, if it is a mark
abbrev pub with_mark : List Mark → ℕ → Front → List Mark
with_mark marks start front =
    if is_mark front.kind
    then marks ++ record { kind = front.kind; start = start; end = front.end } ∷ []
    else marks

-- behind it, once its tokens were taken
abbrev pub behind_front : Reached → Front → List Emission → Reached
behind_front r front emits = record {
  at = front.end;
  state = state_set builder (taken builder r.built emits) front;
  built = taken builder r.built emits;
  marks = with_mark r.marks r.at front;
}

-- behind a CDATA section
abbrev pub behind_section : List ℕ → Reached → Section → Reached
behind_section page r section = record {
  at = section.end;
  state = data_state;
  built = taken builder r.built (characters (with_feeds (section_text page r.at section)));
  marks = r.marks;
}

-- what stands next is taken: a token, a text or a CDATA section
pub data IsNext (page : List ℕ) (r : Reached) : Reached → Type 0 where
  past_front : (mode : Mode) (front : Front) (emits : List Emission) →
      Stands page r mode front →
      AreEmits mode (front_bytes page r.at front) front.kind emits →
      IsNext page r (behind_front r front emits)
  past_section : (section : Section) →
      r.state ≡ data_state → builder.is_foreign r.built ≡ true → IsSection page r.at section →
      IsNext page r (behind_section page r section)

-- how far a page is read from its begin on, one piece after the other
pub data Reads (page : List ℕ) (begin : Reached) : Reached → Type 0 where
  at_begin : Reads page begin begin
  further : (r s : Reached) → Reads page begin r → IsNext page r s → Reads page begin s

-- how far it is read where it is first out of proportion: behind a piece, or at its end
pub data IsOutOfProportionAt (page : List ℕ) (begin : Reached) : ℕ → Type 0 where
  behind_piece : (r s : Reached) → Reads page begin r → is_little r.built.excess ≡ true →
      IsNext page r s → is_little s.built.excess ≡ false → IsOutOfProportionAt page begin s.at
  at_end : (r : Reached) → Reads page begin r → length page ≤ r.at →
      is_little r.built.excess ≡ true →
      is_little (token_done r.built end_of_file).excess ≡ false →
      IsOutOfProportionAt page begin r.at

-- What a tree answers, by the places that it keeps: where the page begins, and its marks

abbrev pub bounds_in : Places → List Bounds
bounds_in places = map (bounds_at places.long.items) places.short.items

abbrev pub source_of : Bounds → Source
source_of bounds = record { start = bounds.start; end = bounds.end }

abbrev pub place_at : Tree → ℕ → Option Source
place_at tree index = option_map source_of (slice_get (bounds_in tree.sources) index)

-- where the next mark begins, or the end of the page
abbrev pub start_or : ℕ → Option Source → ℕ
start_or end source = unwrap_or (option_map (λ (s : Source). s.start) source) end

-- what stands behind so many marks
abbrev pub gap_at : Tree → ℕ → Option Source
gap_at tree marks =
    option_map
    (λ (before : Source).
    record {
      start = before.end;
      end = start_or tree.page_end (place_at tree (suc marks));
    })
    (place_at tree marks)

abbrev pub start_tag_at : Tree → Option ℕ → Option Source
start_tag_at tree None = None
start_tag_at tree (Some number) = place_at tree (suc number)

abbrev pub node_source : Tree → Node → Option Source
node_source tree (an_element tag) = start_tag_at tree tag.source
node_source tree contents = None
node_source tree (a_text own) = gap_at tree own.source
node_source tree (a_comment own) = place_at tree (suc own.source)
node_source tree (a_doctype own) = place_at tree (suc own.source)

-- where a row comes from
abbrev pub source_at : Tree → ℕ → Option Source
source_at tree row = option_and_then (node_source tree) (node_at (rows_in tree) row)

-- What that is, where a page is read

-- the mark of a number is of a kind, and stands there
abbrev pub IsMarkAt : List Mark → TokenKind → ℕ → Option Source → Type 0
IsMarkAt marks kind number None = ⊥
IsMarkAt marks kind number (Some source) =
    slice_get marks number ≡ Some (record { kind = kind; start = source.start; end = source.end })

-- the start tag of an element, if one stands for it
abbrev pub IsStartTagAt : List Mark → Option ℕ → Option Source → Type 0
IsStartTagAt marks None source = source ≡ None
IsStartTagAt marks (Some number) source = IsMarkAt marks kind.StartTag number source

-- where the marks before a number end: the page begins there, or the one before it ends
abbrev pub gap_start : ℕ → List Mark → ℕ → ℕ
gap_start begin marks zero = begin
gap_start begin marks (suc number) =
    unwrap_or (option_map (λ (m : Mark). m.end) (slice_get marks number)) begin

-- where the mark of a number begins, or else the page ends
abbrev pub gap_end : ℕ → List Mark → ℕ → ℕ
gap_end end marks number =
    unwrap_or (option_map (λ (m : Mark). m.start) (slice_get marks number)) end

-- what stands behind so many marks, and before the next one
abbrev pub IsGapAt : ℕ → ℕ → List Mark → ℕ → Option Source → Type 0
IsGapAt begin end marks number None = ⊥
IsGapAt begin end marks number (Some source) =
    (number ≤ length marks)
    × (source.start ≡ gap_start begin marks number)
    × (source.end ≡ gap_end end marks number)

-- an answer is where a node comes from: of an element its start tag, of a comment and a doctype its
-- token, of a text what stands between two marks
abbrev pub IsSourceOf : ℕ → ℕ → List Mark → Node → Option Source → Type 0
IsSourceOf begin end marks (an_element tag) source = IsStartTagAt marks tag.source source
IsSourceOf begin end marks contents source = source ≡ None
IsSourceOf begin end marks (a_text own) source = IsGapAt begin end marks own.source source
IsSourceOf begin end marks (a_comment own) source =
    IsMarkAt marks kind.Comment own.source source
IsSourceOf begin end marks (a_doctype own) source =
    IsMarkAt marks kind.Doctype own.source source

-- where the page is read to its end, so is that of each row; no other row has one (`source_at`)
pub record AreSourced (page : List ℕ) (begin : Reached) (tree : Tree) : Type 0 where
  pub last : Reached
  pub read : Reads page begin last
  pub whole : length page ≤ last.at
  pub each : (row : ℕ) (node : Node) → node_at (rows_in tree) row ≡ Some node →
      IsSourceOf begin.at (length page) last.marks node (source_at tree row)
