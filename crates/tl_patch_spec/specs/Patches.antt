-- What a patch asks for: which pieces of a page give way to which others.
use Rattle.std.specs.Prelude.{◌≡◌, ℕ, suc, Bool, ◌||◌, ◌&&◌, not, ◌==◌, List, [], ◌∷◌, ◌++◌, flat_map, map, codes, Option, Some, None, option_map, if◌then◌else◌, ⊤}
use Rattle.std.specs.List.{slice_get}
use Rattle.tl_names.specs.Elements.{implied_ends, is_among, table_parts}
use Rattle.tl_spec.specs.Lex.ByteClass.{is_void}
use Rattle.tl_html_spec.specs.HtmlTokenizer.{Character, EndTag, HtmlToken, StartTag, State, data_state, plaintext, raw, rcdata}
use Rattle.tl_html_spec.specs.Balanced.{is_one_of, is_raw}
use Rattle.tl_html_spec.specs.Pieces.{Piece, piece, pieces_of}
use Rattle.tl_patch_spec.specs.Elements.{Element}
use Rattle.tl_patch_spec.specs.Markup.{separator_piece, text_markup}
use Rattle.tl_patch_spec.specs.Splices.{Splice, with_splices}
use Rattle.tl_patch_spec.specs.TagChanges.{Rename, Set, TagChange, Unset, changed_token}
use Rattle.tl_patch_spec.specs.TagNames.{IsNamed}
use Rattle.tl_patch_spec.specs.Tail.{elements_up_to_tail}

pub data Content : Type 0 where
  Text : List ℕ → Content
  Markup : List ℕ → Content

-- what is done with an element: a key gets a value, or goes; the element gets another name; it
-- goes, or its tags alone; something stands in its place, or in the place of what is in it, or
-- first or last in it, or before or after it
pub data Patch : Type 0 where
  SetAttribute : List ℕ → List ℕ → Patch
  UnsetAttribute : List ℕ → Patch
  RenameElement : List ℕ → Patch
  Remove : Patch
  Unwrap : Patch
  ReplaceWith : Content → Patch
  Fill : Content → Patch
  Prepend : Content → Patch
  Append : Content → Patch
  PutBefore : Content → Patch
  PutAfter : Content → Patch

-- how far the element of a start tag goes: `balanced` drops the tag; the element is that piece; it
-- goes up to its own end tag; it ends before a piece, and its end tag may be left out (13.1.2.4),
-- or may not
pub data Extent : Type 0 where
  Dropped : Extent
  Alone : Extent
  Whole : ℕ → Extent
  Implied : ℕ → Extent
  Unclosed : ℕ → Extent

abbrev pub may_lack_end_tag : List ℕ → Bool
may_lack_end_tag name = is_among implied_ends name || is_among table_parts name
    || is_one_of (codes "html head body") name

abbrev pub extent_of : Element → Extent
extent_of e =
    if e.end == e.start then Alone
    else if e.has_end_tag then Whole e.end
    else if may_lack_end_tag e.name then Implied e.end
    else Unclosed e.end

abbrev pub extent_in : ℕ → List Element → Extent
extent_in place [] = Dropped
extent_in place (e ∷ es) = if e.start == place then extent_of e else extent_in place es

-- what is put: the tag that stood there with a change, an end tag, or content
pub data Put : Type 0 where
  Changed : TagChange → Put
  NewEndTag : List ℕ → Put
  NewContent : Content → Put

abbrev pub put_at : ℕ → List Put → Splice Put
put_at place put = record { from = place; until = place; put = put }

abbrev pub put_instead : ℕ → ℕ → List Put → Splice Put
put_instead from until put = record { from = from; until = until; put = put }

abbrev pub cut_out : ℕ → ℕ → Splice Put
cut_out from until = put_instead from until []

abbrev pub change_tag : ℕ → TagChange → Splice Put
change_tag place change = put_instead place (suc place) (Changed change ∷ [])

-- an element that holds a text alone keeps its name, and none gets such a name; a void one stays
-- void
abbrev pub may_be_renamed : List ℕ → List ℕ → Bool
may_be_renamed name new =
    not (is_raw name || is_raw new) && (if is_void name then is_void new else not (is_void new))

-- what stands behind the end tag of such an element is in the body, so nothing can stand after it
abbrev pub is_page_name : List ℕ → Bool
is_page_name name = is_one_of (codes "html body") name

-- the splices of a patch on the element that begins at place n, by how far it goes; none where the
-- patch can't be meant
abbrev pub asked : Patch → ℕ → Extent → List ℕ → Option (List (Splice Put))
asked (SetAttribute key value) n extent name = Some (change_tag n (Set key value) ∷ [])
asked (UnsetAttribute key) n extent name = Some (change_tag n (Unset key) ∷ [])
asked (RenameElement new) n Alone name =
    if may_be_renamed name new then Some (change_tag n (Rename new) ∷ []) else None
asked (RenameElement new) n (Whole m) name =
    if may_be_renamed name new then Some
    (change_tag n (Rename new) ∷ change_tag m (Rename new) ∷ [])
    else None
asked (RenameElement new) n (Implied m) name =
    if may_be_renamed name new then Some
    (change_tag n (Rename new) ∷ put_at m (NewEndTag new ∷ []) ∷ [])
    else None
asked Remove n Alone name = Some (cut_out n (suc n) ∷ [])
asked Remove n (Whole m) name = Some (cut_out n (suc m) ∷ [])
asked Remove n (Implied m) name = Some (cut_out n m ∷ [])
asked Unwrap n Alone name = Some (cut_out n (suc n) ∷ [])
asked Unwrap n (Whole m) name = Some (cut_out n (suc n) ∷ cut_out m (suc m) ∷ [])
asked Unwrap n (Implied m) name = Some (cut_out n (suc n) ∷ [])
asked (ReplaceWith c) n Alone name = Some (put_instead n (suc n) (NewContent c ∷ []) ∷ [])
asked (ReplaceWith c) n (Whole m) name = Some (put_instead n (suc m) (NewContent c ∷ []) ∷ [])
asked (ReplaceWith c) n (Implied m) name = Some (put_instead n m (NewContent c ∷ []) ∷ [])
asked (Fill c) n (Whole m) name = Some (put_instead (suc n) m (NewContent c ∷ []) ∷ [])
asked (Fill c) n (Implied m) name = Some (put_instead (suc n) m (NewContent c ∷ []) ∷ [])
asked (Prepend c) n (Whole m) name = Some (put_at (suc n) (NewContent c ∷ []) ∷ [])
asked (Prepend c) n (Implied m) name = Some (put_at (suc n) (NewContent c ∷ []) ∷ [])
asked (Prepend c) n (Unclosed m) name = Some (put_at (suc n) (NewContent c ∷ []) ∷ [])
asked (Append c) n (Whole m) name = Some (put_at m (NewContent c ∷ []) ∷ [])
asked (Append c) n (Implied m) name = Some (put_at m (NewContent c ∷ []) ∷ [])
asked (PutBefore c) n extent name = Some (put_at n (NewContent c ∷ []) ∷ [])
asked (PutAfter c) n Alone name = Some (put_at (suc n) (NewContent c ∷ []) ∷ [])
asked (PutAfter c) n (Whole m) name =
    if is_page_name name then None
    else Some (put_at (suc m) (NewContent c ∷ []) ∷ [])
asked (PutAfter c) n (Implied m) name =
    if is_page_name name then None
    else Some (put_at m (NewContent c ∷ []) ∷ [])
asked _ n extent name = None

-- the name of a piece that is a start tag
abbrev pub start_name : List HtmlToken → Option (List ℕ)
start_name (StartTag name attributes closes ∷ []) = Some name
start_name _ = None

abbrev pub asked_by_name : Patch → ℕ → Extent → Option (List ℕ) → Option (List (Splice Put))
asked_by_name patch place extent None = None
asked_by_name patch place extent (Some name) = asked patch place extent name

abbrev pub tokens_of_piece : Option Piece → List HtmlToken
tokens_of_piece None = []
tokens_of_piece (Some p) = p.tokens

-- the splices of a patch on the element whose start tag is the piece of this number
abbrev pub asked_of : List Piece → ℕ → Patch → Option (List (Splice Put))
asked_of ps place patch =
    asked_by_name patch place (extent_in place (elements_up_to_tail ps))
    (start_name (tokens_of_piece (slice_get ps place)))

-- an end tag in `data`
abbrev pub end_tag_piece : List ℕ → Piece
end_tag_piece name = piece data_state (codes "</" ++ (name ++ codes ">")) (EndTag name ∷ [])

-- content where the tokenizer is in this state: in a title a text is written as elsewhere, in a
-- script as it is; markup stands in `data` alone
abbrev pub content_pieces : State → Content → Option (List Piece)
content_pieces data_state (Markup markup) = Some (pieces_of markup)
content_pieces data_state (Text text) =
    Some (piece data_state (text_markup text) (map Character text) ∷ [])
content_pieces (raw (rcdata name)) (Text text) =
    Some (piece (raw (rcdata name)) (text_markup text) (map Character text) ∷ [])
content_pieces (raw r) (Text text) = Some (piece (raw r) text (map Character text) ∷ [])
content_pieces plaintext (Text text) = Some (piece plaintext text (map Character text) ∷ [])
content_pieces _ _ = None

-- these pieces are what is put before a piece, or in its place
abbrev pub IsPut : Piece → Put → List Piece → Type 0
IsPut p (Changed (Rename name)) put =
    (q : Piece) × (put ≡ q ∷ []) × (q.rest ≡ p.rest)
    × (q.tokens ≡ map (changed_token (Rename name)) p.tokens) × IsNamed name p.bytes q.bytes
IsPut p (Changed change) put =
    (q : Piece) × (put ≡ q ∷ []) × (q.rest ≡ p.rest)
    × (q.tokens ≡ map (changed_token change) p.tokens)
IsPut p (NewEndTag name) put = put ≡ end_tag_piece name ∷ []
IsPut p (NewContent content) put = content_pieces p.rest content ≡ Some put

abbrev pub ArePut : Piece → List Put → List Piece → Type 0
ArePut p [] put = put ≡ []
ArePut p (first ∷ more) put =
    (here later : List Piece) × (put ≡ here ++ later) × IsPut p first here × ArePut p more later

abbrev pub separator_if : Bool → List Piece
separator_if needed = if needed then separator_piece ∷ [] else []

-- where the page ends: what is put there stands in `data`
abbrev pub end_piece : Piece
end_piece = piece data_state [] []

-- the pieces at which something is put: those of a page, and its end
abbrev pub with_end : List Piece → List Piece
with_end ps = ps ++ end_piece ∷ []

-- a splice is as it is asked for; a separator may stand before what is put, and after it
pub record IsAsked (ps : List Piece) (ask : Splice Put) (splice : Splice Piece) : Type 0 where
  pub from : splice.from ≡ ask.from
  pub until : splice.until ≡ ask.until
  pub place : Piece
  pub stands : slice_get (with_end ps) ask.from ≡ Some place
  pub put : List Piece
  pub are_put : ArePut place ask.put put
  pub before : Bool
  pub after : Bool
  pub is : splice.put ≡ separator_if before ++ (put ++ separator_if after)

abbrev pub AreAskedOne : List Piece → List (Splice Put) → List (Splice Piece) → Type 0
AreAskedOne ps [] [] = ⊤
AreAskedOne ps (ask ∷ asks) (splice ∷ splices) =
    IsAsked ps ask splice × AreAskedOne ps asks splices
AreAskedOne ps _ _ = ⊥

-- the splices of pieces are those that a patch asks for
abbrev pub AreAsked : List Piece → ℕ → Patch → List (Splice Piece) → Type 0
AreAsked ps place patch splices =
    (asks : List (Splice Put)) × (asked_of ps place patch ≡ Some asks)
    × AreAskedOne ps asks splices

-- the tokens that are asked for, if there is such a patch

abbrev pub content_tokens : Option (List Piece) → List HtmlToken
content_tokens None = []
content_tokens (Some ps) = flat_map (λ (p : Piece). p.tokens) ps

abbrev pub put_tokens : Option Piece → Put → List HtmlToken
put_tokens None put = []
put_tokens (Some p) (Changed change) = map (changed_token change) p.tokens
put_tokens (Some p) (NewEndTag name) = EndTag name ∷ []
put_tokens (Some p) (NewContent content) = content_tokens (content_pieces p.rest content)

abbrev pub token_splice : List Piece → Splice Put → Splice (List HtmlToken)
token_splice ps ask = record {
  from = ask.from;
  until = ask.until;
  put = map (put_tokens (slice_get (with_end ps) ask.from)) ask.put;
}

abbrev pub tokens_asked : List Piece → ℕ → Patch → Option (List HtmlToken)
tokens_asked ps place patch = option_map
    (λ asks. flat_map (λ (tokens : List HtmlToken). tokens)
    (with_splices (map (λ (p : Piece). p.tokens) ps) (map (token_splice ps) asks)))
    (asked_of ps place patch)
