-- The tail of a page, found from its end on.
use Rattle.std.specs.Prelude.{◌≡◌, ℕ, Bool, true, false, ◌||◌, List, codes, drop}
use Rattle.std.specs.List.{list_all, slice_get}
use Rattle.std.specs.Str.{bytes_eq}
use Rattle.tl_html_spec.specs.HtmlTokenizer.{HtmlToken}
use Rattle.tl_html_spec.specs.Pieces.{Piece}
use Rattle.tl_patch_spec.specs.Tail.{are_end_tag, is_end_of, is_tail_name, is_tail_token, tail_end, tail_from}
use Rattle.tl_patch_edit.specs.declared.tail.End.{End}
use Rattle.tl_patch_edit.specs.declared.tail.Tail.{Tail}
use Rattle.tl_patch_edit.specs.declared.tail.TailPart.{TailPart}
use Rattle.tl_patch_edit.specs.declared.tail.TailPart.TheVariants as part

abbrev pub is_in_tail : TailPart → Bool
is_in_tail part.Other = false
is_in_tail _ = true

abbrev pub is_body_end : TailPart → Bool
is_body_end part.BodyEnd = true
is_body_end _ = false

abbrev pub is_html_end : TailPart → Bool
is_html_end part.HtmlEnd = true
is_html_end _ = false

-- what the tokens of a piece are to the tail
pub record IsTailPart (part : TailPart) (ts : List HtmlToken) : Type 0 where
  pub within : list_all is_tail_token ts ≡ is_in_tail part
  pub first : are_end_tag is_tail_name ts ≡ (is_body_end part || is_html_end part)
  pub body : are_end_tag (bytes_eq (codes "body")) ts ≡ is_body_end part
  pub html : are_end_tag (bytes_eq (codes "html")) ts ≡ is_html_end part

abbrev pub end_at : ℕ → Bool → End
end_at place is_own = record { place = place; is_own = is_own }

-- the tail with a part that stands before what it was found in
abbrev pub with_part : Tail → TailPart → ℕ → Tail
with_part tail part.BodyEnd n = record { body = end_at n true; html = tail.html }
with_part tail part.HtmlEnd n = record { body = end_at n false; html = end_at n true }
with_part tail _ n = tail

-- the tail of the pieces from a number on
pub record IsTailFrom (n : ℕ) (ps : List Piece) (tail : Tail) : Type 0 where
  pub body : tail.body.place ≡ tail_from is_tail_name n (drop n ps)
  pub body_own : tail.body.is_own ≡ is_end_of (codes "body") (slice_get ps tail.body.place)
  pub html : tail.html.place ≡ tail_from (bytes_eq (codes "html")) n (drop n ps)
  pub html_own : tail.html.is_own ≡ is_end_of (codes "html") (slice_get ps tail.html.place)

-- where an element of this name ends that is open in the tail
pub record IsEndFor (ps : List Piece) (name : List ℕ) (end : End) : Type 0 where
  pub place : end.place ≡ tail_end ps name
  pub is_own : end.is_own ≡ is_end_of name (slice_get ps (tail_end ps name))
