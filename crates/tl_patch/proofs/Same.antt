-- A page without patches, and why one isn't patched, by the error.
use Rattle.std.proofs.Common.{◌≡◌, ℕ, ◌+◌, List, [], ◌∷◌, length, map, refl, sym, subst, ◌∙◌, arith, Result, Err, IfErr}
use Rattle.std.specs.List.{All}
use Rattle.tl_html_spec.specs.Pieces.{Piece, pieces, placed, runs}
use Rattle.tl_html_spec.proofs.Cutting.{bytes_are, runs_bytes, runs_tokens, tokens_are}
use Rattle.tl_html_tokens.specs.Tokens.{mark_len}
use Rattle.tl_patch.specs.Pages.{AreChanged, IsPatched}
use Rattle.tl_patch.specs.Refused.{IsPlaced, IsUnplaced, IsReason}
use Rattle.tl_patch.specs.PatchView.{PlacedChange, patch_view}
use Rattle.tl_patch.specs.declared.tag_patch.TagPatch.{TagPatch}
use Rattle.tl_patch.specs.declared.error.PatchError.{PatchError}
use Rattle.tl_patch.specs.declared.error.PatchError.TheVariants.{NoStartTag, NotWritten}

all_none : (P : PlacedChange → Type 0) → All P []
all_none P k d l = absurd (omega arith)

same_pieces : (place : ℕ) (ps : List Piece) → AreChanged (placed place ps) ps []
same_pieces place [] = refl
same_pieces place (p ∷ ps) = ([], [], refl, all_none (λ c. c.place ≡ place), refl, same_pieces (place + length p.bytes) ps)

pub same_page : (page : List ℕ) → IsPatched [] page page
same_page page = record {
  becomes = runs (pieces page);
  changed = same_pieces (mark_len page) (runs (pieces page));
  mark = refl;
  bytes = sym (runs_bytes (pieces page) ∙ bytes_are page);
  tokens = sym (runs_tokens (pieces page) ∙ tokens_are page);
}

pub no_start_of : {A : Type 0} (r : Result A PatchError) (changes : List PlacedChange) (page : List ℕ) (place : ℕ) → IfErr r (IsReason changes page) → r ≡ Err (NoStartTag place) → IsUnplaced place changes page
no_start_of r changes page place h e = subst (λ x. IfErr x (IsReason changes page)) e h

pub not_written_of : {A : Type 0} (r : Result A PatchError) (changes : List PlacedChange) (page : List ℕ) (place : ℕ) → IfErr r (IsReason changes page) → r ≡ Err (NotWritten place) → IsPlaced place changes page
not_written_of r changes page place h e = subst (λ x. IfErr x (IsReason changes page)) e h

pub nothing_changed : (xs : List TagPatch) (page text : List ℕ) → xs ≡ [] → text ≡ page → IsPatched (map patch_view xs) page text
nothing_changed xs page text e t = subst (λ (ys : List TagPatch). IsPatched (map patch_view ys) page text) (sym e) (subst (IsPatched [] page) (sym t) (same_page page))

pub none_of : (xs : List TagPatch) → length xs ≡ 0 → xs ≡ []
none_of [] e = refl
none_of (x ∷ xs) e = absurd (omega (arith, e))
