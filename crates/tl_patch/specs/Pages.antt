-- A page with changes of its tags.
use Rattle.std.specs.Prelude.{◌≡◌, ℕ, List, [], ◌∷◌, ◌++◌, map}
use Rattle.std.specs.List.{All}
use Rattle.tl_html_spec.specs.HtmlTokenizer.{html_tokens, without_mark}
use Rattle.tl_html_spec.specs.Pieces.{Piece, bytes_of, pieces, placed, runs, tokens_in}
use Rattle.tl_html_tokens.specs.Kinds.{IsStartTag}
use Rattle.tl_html_tokens.specs.Tokens.{mark_len}
use Rattle.tl_patch.specs.PatchView.{PlacedChange, change_of}
use Rattle.tl_patch_spec.specs.Splices.{Splice, with_splices}
use Rattle.tl_patch_spec.specs.TagChanges.{TagChange, changed_token}
use Rattle.tl_patch.specs.StartTags.{IsPut}
use Rattle.tl_patch.specs.Taken.{AreTaken}

-- a piece that is a start tag, with a change: its token is changed, and each byte but what is put
-- is as it was
pub record IsChangedPiece (change : TagChange) (p q : Piece) : Type 0 where
  pub start : IsStartTag p.tokens
  pub rest : q.rest ≡ p.rest
  pub splices : List (Splice ℕ)
  pub bytes : q.bytes ≡ with_splices p.bytes splices
  pub put : All (IsPut change) splices
  pub taken : AreTaken change p.bytes splices
  pub tokens : q.tokens ≡ map (changed_token change) p.tokens

-- with changes one after the other
abbrev pub AreMade : List TagChange → Piece → Piece → Type 0
AreMade [] p q = q ≡ p
AreMade (change ∷ changes) p q =
    (between : Piece) × IsChangedPiece change p between × AreMade changes between q

-- pieces with their places, and what becomes of them: each change is made of the piece at its
-- place, and each other piece is as it was
abbrev pub AreChanged : List (ℕ × Piece) → List Piece → List PlacedChange → Type 0
AreChanged [] [] changes = changes ≡ []
AreChanged (p ∷ ps) (q ∷ qs) changes =
    (here later : List PlacedChange) × (changes ≡ here ++ later)
    × All (λ (c : PlacedChange). c.place ≡ p.0) here × AreMade (map change_of here) p.1 q
    × AreChanged ps qs later
AreChanged _ _ changes = ⊥

-- text is the page with these changes of its tags, and no other byte; its tokens are those of the
-- page with just these changed
pub record IsPatched (changes : List PlacedChange) (page text : List ℕ) : Type 0 where
  pub becomes : List Piece
  pub changed : AreChanged (placed (mark_len page) (runs (pieces page))) becomes changes
  pub mark : mark_len text ≡ mark_len page
  pub bytes : without_mark text ≡ bytes_of becomes
  pub tokens : html_tokens text ≡ tokens_in becomes
