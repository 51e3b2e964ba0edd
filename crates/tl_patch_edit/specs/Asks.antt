-- What the code asks for, as the definitions have it.
use Rattle.std.specs.Prelude.{◌≡◌, ℕ, suc, ◌||◌, Bool, true, false, List, [], ◌∷◌, ◌++◌, length, drop, map, codes, Option, Some, None, ⊤}
use Rattle.std.specs.List.{slice_get}
use Rattle.std.specs.Option.{option_to_list}
use Rattle.std.specs.Str.{bytes_eq}
use Rattle.tl_html_spec.specs.HtmlTokenizer.{EndTag, HtmlToken}
use Rattle.tl_html_spec.specs.Pieces.{Piece, bytes_of, runs}
use Rattle.tl_html_parts.specs.Parts.{name_of}
use Rattle.tl_html_tokens.specs.Characters.{characters_of}
use Rattle.tl_html_tokens.specs.Kinds.{IsEndTag, IsKind}
use Rattle.tl_html_tokens.specs.Whole.{IsWhole, is_tag_kind}
use Rattle.tl_html_tokens.specs.declared.stage.TokenKind.TheVariants as kind
use Rattle.tl_html_tokens.specs.declared.mode.Mode.{Mode}
use Rattle.tl_html_tokens.specs.declared.mode.Mode.TheVariants as mode
use Rattle.tl_patch_edit.specs.declared.ask.Ask.{Ask}
use Rattle.tl_patch_edit.specs.declared.ask.PlacedAsk.{PlacedAsk}
use Rattle.tl_patch_edit.specs.declared.ask.Planned.{Planned}
use Rattle.tl_patch_edit.specs.declared.ask.Start.{Start}
use Rattle.tl_patch_edit.specs.declared.ask.Put.{Put as CodePut}
use Rattle.tl_patch_edit.specs.declared.ask.Put.TheVariants as put
use Rattle.tl_patch_edit.specs.declared.tag.ReadyAsk.{ReadyAsk}
use Rattle.tl_patch_edit.specs.declared.ask.Turn.{Turn}
use Rattle.tl_patch_edit.specs.Inner.Parts.{ArePieces, Give, IsPieceOf, Part, Says, with_end_part}
use Rattle.tl_patch_edit.specs.Inner.Seams.{HoldTexts, SameBefore, SameEdges}
use Rattle.tl_patch_edit.specs.Sayings.{sayings}
use Rattle.tl_patch_edit.specs.Seams.{AreSeparatedFrom}
use Rattle.tl_patch_edit.specs.View.{content_view}
use Rattle.tl_patch_spec.specs.Markup.{text_markup}
use Rattle.tl_patch_spec.specs.Patches.{ArePut, Alone, Changed, Content, Dropped, Extent, Implied, Markup, NewContent, NewEndTag, Put, Text, Unclosed, Whole, is_page_name, put_instead}
use Rattle.tl_patch_spec.specs.TagNames.{IsNamed}
use Rattle.tl_patch_spec.specs.Splices.{Splice, are_ordered, with_splices_from}
use Rattle.tl_patch_spec.specs.TagChanges.{Rename, changed_token}

-- what is put
abbrev pub puts_view : CodePut → List Put
puts_view put.Nothing = []
puts_view (put.Content content) = NewContent (content_view content) ∷ []
puts_view (put.LeftOut raw) = NewEndTag (name_of raw.now) ∷ []
puts_view (put.EndTag name) = NewEndTag name.now ∷ []
puts_view (put.Renamed name) = Changed (Rename name.now) ∷ []

abbrev pub ask_view : Ask → Splice Put
ask_view a = record { from = a.from; until = a.until; put = puts_view a.put }

abbrev pub planned_view : Planned → List (Splice Put)
planned_view p = ask_view p.first ∷ map ask_view (option_to_list p.second)

-- what is asked of elements, without them
abbrev pub asks_view : List PlacedAsk → List (Splice Put)
asks_view asks = map (λ (p : PlacedAsk). ask_view p.ask) asks

abbrev pub placed_at : Start → Turn → Ask → PlacedAsk
placed_at start turn ask = record { start = start; turn = turn; ask = ask }

-- of the element of this start tag
abbrev pub placed_view : Start → Turn → Planned → List PlacedAsk
placed_view start turn p =
    placed_at start turn p.first ∷ map (placed_at start turn) (option_to_list p.second)

-- a text as it stands where it is read in this mode
abbrev pub text_form : Mode → List ℕ → List ℕ
text_form mode.Data text = text_markup text
text_form mode.Title text = text_markup text
text_form mode.Textarea text = text_markup text
text_form mode.ContextText text = text_markup text
text_form _ text = text

-- parts are what is put before a piece, or in its place
abbrev pub GivePut : List Put → Part → List Part → Type 0
GivePut puts place parts =
    (p : Piece) → IsPieceOf place p →
    (put : List Piece) × ArePut p puts put × Give parts (bytes_of put) (sayings put)
    × SameEdges parts (runs put)

-- where an element ends, with its own end tag, if its bytes are its own
abbrev pub until_of : ℕ → Extent → Option ℕ
until_of n Dropped = None
until_of n Alone = Some (suc n)
until_of n (Whole m) = Some (suc m)
until_of n (Implied m) = Some m
until_of n (Unclosed m) = None

-- where what is in it ends
abbrev pub inner_end : Extent → Option ℕ
inner_end (Whole m) = Some m
inner_end (Implied m) = Some m
inner_end _ = None

-- also of one that is not closed
abbrev pub inside_end : Extent → Option ℕ
inside_end (Whole m) = Some m
inside_end (Implied m) = Some m
inside_end (Unclosed m) = Some m
inside_end _ = None

-- whether an element goes to the end of the page, so that nothing can stand after it
abbrev pub ends_page : Extent → List ℕ → Bool
ends_page (Whole m) name = is_page_name name
ends_page (Implied m) name = is_page_name name
ends_page _ name = false

-- the same in the place of the start tag, and of its own end tag
abbrev pub tags_asked : ℕ → Extent → List Put → Option (List (Splice Put))
tags_asked n Alone put = Some (put_instead n (suc n) put ∷ [])
tags_asked n (Whole m) put =
    Some (put_instead n (suc n) put ∷ put_instead m (suc m) put ∷ [])
tags_asked n (Implied m) put = Some (put_instead n (suc n) put ∷ [])
tags_asked n _ put = None

abbrev pub text_of : Content → List ℕ
text_of (Text text) = text
text_of (Markup markup) = []

-- the text that is put, if one is
abbrev pub text_put : CodePut → List ℕ
text_put (put.Content content) = text_of (content_view content)
text_put _ = []

-- an end tag by itself
abbrev pub end_tag_bytes : List ℕ → List ℕ
end_tag_bytes name = codes "</" ++ (name ++ codes ">")

pub record IsEndTagOf (name tag : List ℕ) : Type 0 where
  pub is : tag ≡ end_tag_bytes name
  pub whole : IsWhole mode.Data tag (EndTag name ∷ [])

-- an end tag with another name: where the old one is an end tag by itself, so is the new one
pub record IsRenamedEnd (name tag new : List ℕ) : Type 0 where
  pub named : IsNamed name tag new
  pub whole : (tokens : List HtmlToken) → IsWhole mode.Data tag tokens → IsEndTag tokens →
      IsWhole mode.Data new (EndTag name ∷ [])

-- a tag of a page with another name: it says what it said but for that
pub record IsRenamedTag (name : List ℕ) (place : Part) (new : List ℕ) : Type 0 where
  pub tag : is_tag_kind place.kind ≡ true
  pub named : IsNamed name place.bytes new
  pub in_data : place.mode ≡ mode.Data
  pub says : (ts : List HtmlToken) → IsKind place.kind ts →
      Says place.kind place.mode place.bytes ts →
      Says place.kind mode.Data new (map (changed_token (Rename name)) ts)

-- the tag that is put at a part, by itself
abbrev pub IsTagFor : CodePut → Part → List ℕ → Type 0
IsTagFor put.Nothing place tag = ⊤
IsTagFor (put.Content content) place tag = ⊤
IsTagFor (put.LeftOut raw) place tag = IsEndTagOf (name_of raw.now) tag
IsTagFor (put.EndTag name) place tag = IsEndTagOf name.now tag
IsTagFor (put.Renamed name) place tag = IsRenamedTag name.now place tag

abbrev pub IsTagAt : List Part → Ask → List ℕ → Type 0
IsTagAt parts ask tag =
    (place : Part) → slice_get (with_end_part parts) ask.from ≡ Some place →
    IsTagFor ask.put place tag

-- parts are what is put for an ask
abbrev pub GivePutFor : Ask → List Part → List Part → Type 0
GivePutFor ask parts put = (place : Part) → slice_get (with_end_part parts) ask.from ≡ Some place →
    GivePut (puts_view ask.put) place put

abbrev pub IsTagged : List Part → ReadyAsk → Type 0
IsTagged parts ready = IsTagAt parts ready.placed.ask ready.tag.items

abbrev pub placed_of : List ReadyAsk → List PlacedAsk
placed_of ready = map (λ (r : ReadyAsk). r.placed) ready

-- with the text that is put as it stands in markup
abbrev pub IsEscaped : ReadyAsk → Type 0
IsEscaped ready = ready.escaped.items ≡ text_markup (text_put ready.placed.ask.put)

-- a text that is read as it was given
pub record IsTextPart (m : Mode) (text : List ℕ) (part : Part) : Type 0 where
  pub is : part ≡ record { kind = kind.Text; mode = m; bytes = text_form m text }
  pub said : characters_of m (text_form m text) ≡ text

-- parts are pieces from a place on, with the splices that are asked for, behind what was written
pub record IsSplicedFrom (before : Option Piece) (done : ℕ) (asks : List (Splice Put))
    (ps : List Piece) (wanted : List Part) : Type 0 where
  pub splices : List (Splice Piece)
  pub ordered : are_ordered done (length ps) asks ≡ true
  pub asked : AreSeparatedFrom before done ps asks splices
  pub gives : Give wanted (bytes_of (with_splices_from done (drop done ps) splices))
      (sayings (with_splices_from done (drop done ps) splices))

abbrev pub IsWantedFrom
    : Option Part → ℕ → List (Splice Put) → List Part → List Part → Type 0
IsWantedFrom before done asks parts wanted =
    (ps : List Piece) → ArePieces parts ps → HoldTexts ps → (b : Option Piece) →
    SameBefore before b → IsSplicedFrom b done asks ps wanted

-- parts are a page with the splices that are asked for
abbrev pub IsWanted : List (Splice Put) → List Part → List Part → Type 0
IsWanted asks parts wanted = IsWantedFrom None 0 asks parts wanted

abbrev pub is_document_name : List ℕ → Bool
is_document_name name =
    bytes_eq name (codes "html") || bytes_eq name (codes "head") || bytes_eq name (codes "body")

abbrev pub is_script_name : List ℕ → Bool
is_script_name name = bytes_eq name (codes "script") || bytes_eq name (codes "plaintext")
