-- Where the tokens of a page begin.
use Rattle.std.proofs.Common.{List, None, Option, Some, [], ap, arith, get_or, length, refl, slice_get, suc, sym, ℕ, ◌+◌, ◌<◌, ◌∷◌, ◌≡◌, ◌≤◌}
use Rattle.std.proofs.lemmas.Option.{slice_get-get_or, slice_get_past}
use Rattle.std.specs.Option.{option_map, unwrap_or}
use Rattle.tl_html_spec.specs.Pieces.{Piece, pieces, placed, runs}
use Rattle.tl_html_tokens.specs.Tokens.{AreTokensOf, mark_len}
use Rattle.tl_html_tokens.specs.declared.token.Token.{Token}
use Rattle.tl_patch_edit.specs.Errors.{placed_pieces}
use Rattle.tl_patch_edit.specs.Stretches.{begin_of}
use Rattle.tl_patch_edit.proofs.Edited.{Meant, token_meant}
use Rattle.tl_patch_edit.proofs.Tails.{count_pieces}

pub begins_token : (page : List ℕ) (tokens : List Token) (number : ℕ) (t : Token) → AreTokensOf page tokens → slice_get tokens number ≡ Some t → t.start ≡ begin_of page number
begins_token page tokens number t h e =
    let m : Meant page t (mark_len page) number (runs (pieces page)) = token_meant page tokens number t h e in
    sym (ap (λ (o : Option (ℕ × Piece)). unwrap_or (option_map (λ (p : ℕ × Piece). p.0) o) (length page)) m.begins)

pub begins_at : (page : List ℕ) (tokens : List Token) (number : ℕ) (d : Token) → AreTokensOf page tokens → number < length tokens → (get_or tokens number d).start ≡ begin_of page number
begins_at page tokens number d h l = begins_token page tokens number (get_or tokens number d) h (slice_get-get_or tokens number d l)

length_placed : (ps : List Piece) (place : ℕ) → length (placed place ps) ≡ length ps
length_placed [] place = refl
length_placed (p ∷ ps) place = ap suc (length_placed ps (place + length p.bytes))

pub begins_none : (page : List ℕ) (tokens : List Token) (number : ℕ) → AreTokensOf page tokens → length tokens ≤ number → length page ≡ begin_of page number
begins_none page tokens number h past =
    let count : length (runs (pieces page)) ≡ length tokens = count_pieces page tokens h in
    let same : length (placed_pieces page) ≡ length (runs (pieces page)) = length_placed (runs (pieces page)) (mark_len page) in
    let none : slice_get (placed_pieces page) number ≡ None = slice_get_past (placed_pieces page) number (omega (arith, count, same, past)) in
    sym (ap (λ (o : Option (ℕ × Piece)). unwrap_or (option_map (λ (p : ℕ × Piece). p.0) o) (length page)) none)
