-- Facts of places of a text.
use Rattle.std.proofs.Common.{◌≡◌, ℕ, ◌+◌, ◌<◌, ◌≤◌, false, List, ◌∷◌, length, drop, arith, length-drop, ap}
use Rattle.tl_spec.specs.Lex.ByteClass.{is_blank, is_closing}
use Rattle.tl_spec.specs.Lex.Attribute.{Pair, attribute, skip_blanks}
use Rattle.tl_spec.proofs.Lex.Bytes.{drop_while-le}
use Rattle.tl_spec.proofs.Lex.Shrinks.{attribute-lt}

-- an attribute takes something, by the places where it stands
pub later : (t : List ℕ) (i b n end : ℕ) (pair : Pair) → (b ∷ drop (i + 1) t) ≡ drop i t → is_closing b ≡ false → i ≤ length t → end ≤ length t
    → (pair, drop n t) ≡ attribute (drop i t) → drop end t ≡ skip_blanks (drop n t) → i < end
later t i b n end pair first open_ le within read rest =
    let less : length (attribute (drop i t)).1 < length (drop i t) = rw (← first) (attribute-lt b (drop (i + 1) t) open_) in
    let after : length (drop n t) ≡ length (attribute (drop i t)).1 = ap (λ (found : Pair × List ℕ). length found.1) read in
    let blanks : length (drop end t) ≤ length (drop n t) = rw rest (drop_while-le is_blank (drop n t)) in
    let whole = length-drop i t in
    let left = length-drop end t in
    omega arith
