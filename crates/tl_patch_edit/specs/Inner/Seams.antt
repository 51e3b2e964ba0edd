-- Where a separator has to stand between two parts, in the terms of the code.
use Rattle.std.specs.Prelude.{◌≡◌, ℕ, Bool, true, false, ◌&&◌, not, List, [], ◌∷◌, ◌++◌, Option, Some, None, if◌then◌else◌, is_none, ⊤}
use Rattle.tl_html_spec.specs.HtmlTokenizer.{data_state}
use Rattle.tl_html_spec.specs.Pieces.{Piece, are_characters, first_byte}
use Rattle.tl_patch_spec.specs.Seams.{begins_with_mark, is_apart, is_data_state}
use Rattle.tl_patch_edit.specs.Inner.Parts.{Part, is_data, is_text_kind, separator_parts}
use Rattle.tl_patch_edit.specs.Inner.Within.{goes_on_with, is_markup, within_text}
use Rattle.tl_patch_edit.specs.Seams.{first_of, is_empty, last_of}

-- whether what stands before goes on with a byte
abbrev pub part_goes : Option Part → ℕ → Bool
part_goes None n = false
part_goes (Some x) n =
    is_text_kind x.kind && (is_data x.mode && goes_on_with (within_text x.bytes) n)

abbrev pub piece_goes : Option Piece → ℕ → Bool
piece_goes None n = false
piece_goes (Some p) n =
    are_characters p.tokens && (is_data_state p.rest && is_apart p.bytes n)

-- the first byte of what stands behind, in markup
abbrev pub part_byte : Option Part → Option ℕ
part_byte None = None
part_byte (Some y) = if is_data y.mode then first_byte y.bytes else None

abbrev pub piece_byte : Option Piece → Option ℕ
piece_byte None = None
piece_byte (Some q) = if is_data_state q.rest then first_byte q.bytes else None

-- whether it begins with a byte order mark
abbrev pub part_mark : Option Part → Bool
part_mark None = false
part_mark (Some y) = begins_with_mark y.bytes

abbrev pub piece_mark : Option Piece → Bool
piece_mark None = false
piece_mark (Some q) = begins_with_mark q.bytes

-- whether a separator stands, where nothing stands before, or what goes on with some bytes
abbrev pub seam_by : Bool → (ℕ → Bool) → Option ℕ → Bool → Bool
seam_by true goes byte mark = mark
seam_by false goes None mark = false
seam_by false goes (Some n) mark = goes n

abbrev pub part_seam : Option Part → Option Part → Bool
part_seam x y = seam_by (is_none x) (part_goes x) (part_byte y) (part_mark y)

-- parts with the separators that have to stand around them
abbrev pub parted : Option Part → List Part → Option Part → List Part
parted x xs y = separator_parts (part_seam x (first_of xs y))
    ++ (xs ++ separator_parts (not (is_empty xs) && part_seam (last_of None xs) y))

-- a part and a piece that stand before alike
pub record SameBefore (x : Option Part) (p : Option Piece) : Type 0 where
  pub none : is_none x ≡ is_none p
  pub goes : (n : ℕ) → part_goes x n ≡ piece_goes p n

-- and that stand behind alike
pub record SameAfter (y : Option Part) (q : Option Piece) : Type 0 where
  pub byte : part_byte y ≡ piece_byte q
  pub mark : part_mark y ≡ piece_mark q

-- parts and pieces that stand alike between others
pub record SameEdges (xs : List Part) (ps : List Piece) : Type 0 where
  pub empty : is_empty xs ≡ is_empty ps
  pub last : (x : Option Part) (p : Option Piece) → SameBefore x p →
      SameBefore (last_of x xs) (last_of p ps)
  pub first : (y : Option Part) (q : Option Piece) → SameAfter y q →
      SameAfter (first_of xs y) (first_of ps q)

-- a text in `data` holds no tag and no comment
abbrev pub HoldsText : Piece → Type 0
HoldsText p = p.rest ≡ data_state → are_characters p.tokens ≡ true →
    is_markup (within_text p.bytes) ≡ false

abbrev pub HoldTexts : List Piece → Type 0
HoldTexts [] = ⊤
HoldTexts (p ∷ ps) = HoldsText p × HoldTexts ps
