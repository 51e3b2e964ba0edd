-- Where pieces stand.
use Rattle.std.proofs.Common.{◌≡◌, ℕ, ◌+◌, List, [], ◌∷◌, ◌++◌, length, ap, ◌∙◌, arith, length-append}
use Rattle.tl_html_spec.specs.Pieces.{Piece, bytes_of, placed}

abbrev from_place : ℕ → Piece → List Piece → List (ℕ × Piece)
from_place n p rest = (n, p) ∷ placed (n + length p.bytes) rest

pub placed_after : (n : ℕ) (front : List Piece) (p : Piece) (rest : List Piece) →
    placed n (front ++ p ∷ rest) ≡ placed n front ++ (n + length (bytes_of front), p) ∷ placed (n + length (bytes_of front) + length p.bytes) rest
placed_after n [] p rest = let e : n ≡ n + 0 = omega arith in ap (λ m. from_place m p rest) e
placed_after n (q ∷ front) p rest =
    let e : n + length q.bytes + length (bytes_of front) ≡ n + length (q.bytes ++ bytes_of front) =
    let both = length-append q.bytes (bytes_of front) in omega arith in
    ap (λ ps. (n, q) ∷ ps) (placed_after (n + length q.bytes) front p rest ∙ ap (λ m. placed (n + length q.bytes) front ++ from_place m p rest) e)
