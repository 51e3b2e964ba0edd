-- What is none of the names of elements has the box of none of them.
use Rattle.std.proofs.Common.{Bool, List, None, Option, Some, [], ap, arith, codes, false, get_or, if◌then◌else◌, inl, inr, nat_eq, refl, sym, true, ℕ, ◌++◌, ◌∙◌, ◌≡◌, ◌||◌, ◌∷◌}
use Rattle.std.proofs.lemmas.Bool.{and_parts, cases_Bool, cond-false, eqb-true}
use Rattle.std.proofs.lemmas.Slice.Eq.{bytes_eq-Decides}
use Rattle.std.specs.List.{list_all}
use Rattle.std.specs.Option.{option_map, unwrap_or}
use Rattle.std.specs.Prelude.{map, replicate}
use Rattle.std.specs.Str.{bytes_eq}
use Rattle.tl_html_spec.specs.Balanced.{is_one_of, words}
use Rattle.tl_names.proofs.ElementNames.{by_row, not_any}
use Rattle.tl_names.specs.ElementNames.{element_names, name_of, number_of}
use Rattle.tl_names.specs.Elements.{is_among}
use Rattle.tl_names.specs.declared.element_name.ElementName.{ElementName}
use Rattle.tl_tree.proofs.NumberedNames.{one-told}
use Rattle.tl_tree_extract.specs.Boxes.{block_names, common_box, hidden_names, kept_names, rare_box, unless_inline}
use Rattle.tl_tree_extract.specs.declared.text.display.Display.{Display}
use Rattle.tl_tree_extract.specs.declared.text.display.Display.TheVariants.{Block, Hidden, Inline, LineBreak, Paragraph, Preformatted, TableBox, TableCell, TableRow}
use Rattle.tl_tree_extract.specs.declared.text.display.TheConstants.{BOXES}

past : (b : Bool) (x y z : Display) → b ≡ false → y ≡ z → (if b then x else y) ≡ z
past b x y z h e = cond-false b x y h ∙ e

box-outside : (n : List ℕ) → is_among element_names n ≡ false → common_box n ≡ Inline
unfolding element_names
box-outside n o =
    past _ _ _ Inline (not_any (words (codes "p")) n refl o) (
    past _ _ _ Inline (not_any (words (codes "br")) n refl o) (
    past _ _ _ Inline (not_any (words (codes "table")) n refl o) (
    past _ _ _ Inline (not_any (words (codes "tr")) n refl o) (
    past _ _ _ Inline (not_any (words (codes "td th")) n refl o) (
    past _ _ _ Inline (not_any (words kept_names) n refl o) (
    past _ _ _ Inline (not_any (words block_names) n refl o) (
    past _ _ _ Inline (not_any (words hidden_names) n refl o) (
    refl))))))))

none-outside : common_box [] ≡ Inline
none-outside = refl

outside : (n : List ℕ) → is_among element_names n ≡ false → common_box n ≡ common_box []
outside n o = box-outside n o ∙ sym none-outside

-- by computing
each-row : map (λ (box : Display). box) BOXES ≡ map common_box (element_names ++ replicate 97 [])
unfolding element_names
each-row = refl

-- a name has the box of its number
pub box-told : (n : List ℕ) → get_or BOXES (number_of (name_of n)) Hidden ≡ common_box n
box-told n = by_row (λ box. box) common_box BOXES Hidden 97 (omega arith) each-row outside n

pub box-of-other : (name : ElementName) (n : List ℕ) → name ≡ name_of n → nat_eq name.number 159 ≡ true → common_box n ≡ Inline
box-of-other name n e other =
    sym (box-told n) ∙ ap (λ (k : ℕ). get_or BOXES k Hidden) (ap (λ (own : ElementName). number_of own) (sym e) ∙ eqb-true name.number 159 other)

-- None of the names of elements is one of the rare ones

is-inline : Display → Bool
is-inline Inline = true
is-inline _ = false

inline-is : (d : Display) → is-inline d ≡ true → d ≡ Inline
unfolding is-inline
inline-is Inline e = refl
inline-is Hidden e = cc
inline-is LineBreak e = cc
inline-is Paragraph e = cc
inline-is Block e = cc
inline-is Preformatted e = cc
inline-is TableBox e = cc
inline-is TableRow e = cc
inline-is TableCell e = cc

among-holds : (p : List ℕ → Bool) (names : List (List ℕ)) (n : List ℕ) → list_all p names ≡ true → is_among names n ≡ true → p n ≡ true
among-holds p [] n h m = cc
among-holds p (x ∷ names) n h m =
    let q = and_parts (p x) (list_all p names) h in
    elim (cases_Bool (bytes_eq n x)) [
      | inl same ↦ ap p ((bytes_eq-Decides n x).0 same) ∙ q.0
      | inr other ↦ among-holds p names n q.1 (sym (ap (λ b. b || is_among names n) other) ∙ m)
    ]

each-inline : list_all (λ n. is-inline (rare_box n)) element_names ≡ true
unfolding element_names is-inline
each-inline = refl

pub rare-none : (n : List ℕ) → is_among element_names n ≡ true → rare_box n ≡ Inline
rare-none n m = inline-is (rare_box n) (among-holds (λ v. is-inline (rare_box v)) element_names n each-inline m)

pub when-inline : (d e : Display) → e ≡ Inline → unless_inline d e ≡ d
when-inline Inline e h = h
when-inline Hidden e h = refl
when-inline LineBreak e h = refl
when-inline Paragraph e h = refl
when-inline Block e h = refl
when-inline Preformatted e h = refl
when-inline TableBox e h = refl
when-inline TableRow e h = refl
when-inline TableCell e h = refl

-- the name of a number that is known
pub known-said : (said : Option (List ℕ)) (known : ElementName) → option_map name_of said ≡ Some known → known ≡ name_of (unwrap_or said [])
known-said None known e = cc
known-said (Some n) known e = cc

or-none : (b : Bool) → b ≡ (b || false)
or-none true = refl
or-none false = refl

pub dialog-told : (known : ElementName) (n : List ℕ) → known ≡ name_of n → nat_eq known.number 31 ≡ is_one_of (codes "dialog") n
unfolding element_names name_of
dialog-told known n e = one-told (codes "dialog") known n refl e ∙ or-none (bytes_eq n (codes "dialog"))
