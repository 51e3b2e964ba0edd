-- Bytes that are written as they are.
use Rattle.std.proofs.Common.{Bool, List, [], ap, ap₂, arith, false, get_or, inl, inr, length, refl, suc, ℕ, ◌+◌, ◌++◌, ◌<◌, ◌||◌, ◌∙◌, ◌≡◌, ◌≤◌, ◌∷◌}
use Rattle.std.proofs.lemmas.Bool.{cases_eq, cases_lt, cond-false, cond-true, not-false, or_parts}
use Rattle.std.specs.Prelude.{flat_map}
use Rattle.tl_tree_extract.specs.Inner.Marked.{AreUnmarked, is_marked}
use Rattle.tl_tree_extract.specs.Notation.{is_plain, name_byte, string_byte}
use Rattle.tl_tree_extract.specs.declared.written_bytes.Written.{Written}
use Rattle.tl_tree_extract.specs.declared.written_bytes.Written.TheVariants.{CssName, CssString}

pub one_more : (w : Written) (text : List ℕ) (start count : ℕ) (found : Bool) → (found ≡ false → AreUnmarked w text start (start + count)) → (found || is_marked w (get_or text (start + count) 0)) ≡ false → AreUnmarked w text start (start + (count + 1))
one_more w text start count found before none k low high =
    let parts = or_parts found (is_marked w (get_or text (start + count) 0)) none in
    elim (cases_eq k (start + count)) [
      | inl same ↦ ap (λ n. is_marked w (get_or text n 0)) same ∙ parts.1
      | inr other ↦ before parts.0 k low (omega arith)
    ]

pub joined : (w : Written) (text : List ℕ) (a b c d : ℕ) → AreUnmarked w text a b → AreUnmarked w text c d → c ≤ b → AreUnmarked w text a d
joined w text a b c d p q meets k low high =
    elim (cases_lt k b) [
      | inl below ↦ p k low below
      | inr above ↦ q k (omega arith) high
    ]

pub name_stands : (d : List ℕ) → ((k : ℕ) → k < length d → is_marked CssName (get_or d k 0) ≡ false) → flat_map name_byte d ≡ d
name_stands [] h = refl
name_stands (x ∷ xs) h =
    ap₂ (λ u v. u ++ v)
    (cond-true (is_plain x) _ _ (not-false (is_plain x) (h 0 (omega arith))))
    (name_stands xs (λ k l. h (suc k) (omega arith)))

pub string_stands : (d : List ℕ) → ((k : ℕ) → k < length d → is_marked CssString (get_or d k 0) ≡ false) → flat_map string_byte d ≡ d
string_stands [] h = refl
string_stands (x ∷ xs) h =
    ap₂ (λ u v. u ++ v)
    (cond-false (is_marked CssString x) _ _ (h 0 (omega arith)))
    (string_stands xs (λ k l. h (suc k) (omega arith)))

pub each : (w : Written) (d : List ℕ) → AreUnmarked w d 0 (length d) → (k : ℕ) → k < length d → is_marked w (get_or d k 0) ≡ false
each w d h k l = h k (omega arith) l
