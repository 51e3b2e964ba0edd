-- The table of the classes: each bit says whether a name is of a class.
use Rattle.std.proofs.Common.{◌≡◌, ◌<◌, ◌∙◌, ◌/◌, ◌^◌, ℕ, Bool, true, false, ◌&&◌, List, [], ◌∷◌, suc, zero, length, get_or, nat_eq, bit_and, refl, sym, arith, true≢false}
use Rattle.std.proofs.lemmas.Bool.{and_parts}
use Rattle.std.specs.List.{list_all}
use denote.Enum.Declared.{tag_of}
use mathlib.Core.Bool.{beq}
use Rattle.tl_names.specs.contracts.class.Class.{the_type}
use Rattle.tl_names.specs.declared.class.Class.{Class}
use Rattle.tl_names.specs.declared.class.Class.TheVariants.{Special, Scope, ListScope, ButtonScope, TableScope, AddressDivParagraph, Implied, ImpliedThoroughly, Heading, FosterTarget, Void, Rcdata, RawText, Verbatim, TableSection, TablePart, TableBodyContext, TableRowContext, Cell, Description, MathText, MathMark, MathGlyph, SvgMark, SvgCased, Breakout, Decisive}
use Rattle.tl_names.specs.declared.element_name.ElementName.{ElementName}
use Rattle.tl_names.specs.declared.element_tables.TheConstants.{CLASSES}
use Rattle.tl_names.specs.ElementNames.{bytes_of, element_names, name_of}
use Rattle.tl_names.specs.Elements.{is_among}
use Rattle.tl_names.specs.TagSets.{is_of, names_in}
use Rattle.tl_names.proofs.ElementNames.{by_name, not_any}

-- whether the bits of the rows say which of the names, and of the empty ones behind them, are among
-- some
abbrev pub rows_agree : (ℕ → Bool) → List (List ℕ) → List (List ℕ) → List ℕ → Bool
rows_agree test members names [] = true
rows_agree test members [] (bits ∷ rows) = beq (test bits) (is_among members []) && rows_agree test members [] rows
rows_agree test members (own ∷ names) (bits ∷ rows) = beq (test bits) (is_among members own) && rows_agree test members names rows

beq_same : (a b : Bool) → beq a b ≡ true → a ≡ b
beq_same true true h = refl
beq_same true false h = absurd (true≢false (sym h))
beq_same false true h = absurd (true≢false (sym h))
beq_same false false h = refl

row_agrees : (test : ℕ → Bool) (members names : List (List ℕ)) (rows : List ℕ) → rows_agree test members names rows ≡ true →
    (k : ℕ) → k < length rows → test (get_or rows k 0) ≡ is_among members (get_or names k [])
row_agrees test members names [] h k lt = absurd (omega arith)
row_agrees test members [] (bits ∷ rows) h zero lt = beq_same (test bits) (is_among members []) (and_parts (beq (test bits) (is_among members [])) (rows_agree test members [] rows) h).0
row_agrees test members [] (bits ∷ rows) h (suc k) lt = row_agrees test members [] rows (and_parts (beq (test bits) (is_among members [])) (rows_agree test members [] rows) h).1 k (omega arith)
row_agrees test members (own ∷ names) (bits ∷ rows) h zero lt = beq_same (test bits) (is_among members own) (and_parts (beq (test bits) (is_among members own)) (rows_agree test members names rows) h).0
row_agrees test members (own ∷ names) (bits ∷ rows) h (suc k) lt = row_agrees test members names rows (and_parts (beq (test bits) (is_among members own)) (rows_agree test members names rows) h).1 k (omega arith)

abbrev pub bit : ℕ → ℕ → Bool
bit place bits = nat_eq (bit_and (bits / 2 ^ place) 1) 1

-- by computing, the bit of each class says which names are in it
each_agrees : (class : Class) → rows_agree (bit (tag_of the_type class)) (names_in class) element_names CLASSES ≡ true
unfolding element_names names_in
each_agrees Special = refl
each_agrees Scope = refl
each_agrees ListScope = refl
each_agrees ButtonScope = refl
each_agrees TableScope = refl
each_agrees AddressDivParagraph = refl
each_agrees Implied = refl
each_agrees ImpliedThoroughly = refl
each_agrees Heading = refl
each_agrees FosterTarget = refl
each_agrees Void = refl
each_agrees Rcdata = refl
each_agrees RawText = refl
each_agrees Verbatim = refl
each_agrees TableSection = refl
each_agrees TablePart = refl
each_agrees TableBodyContext = refl
each_agrees TableRowContext = refl
each_agrees Cell = refl
each_agrees Description = refl
each_agrees MathText = refl
each_agrees MathMark = refl
each_agrees MathGlyph = refl
each_agrees SvgMark = refl
each_agrees SvgCased = refl
each_agrees Breakout = refl
each_agrees Decisive = refl

-- the bit of a class in the row of a name says whether it is of it
pub bit_of_row : (class : Class) (name : ElementName) → name.number < 256 → bit (tag_of the_type class) (get_or CLASSES name.number 0) ≡ is_of class name
unfolding bytes_of is_of
bit_of_row class name lt = row_agrees (bit (tag_of the_type class)) (names_in class) element_names CLASSES (each_agrees class) name.number lt

-- by computing, each name of a class is one of the table
each_listed : (class : Class) → list_all (is_among element_names) (names_in class) ≡ true
unfolding element_names names_in
each_listed Special = refl
each_listed Scope = refl
each_listed ListScope = refl
each_listed ButtonScope = refl
each_listed TableScope = refl
each_listed AddressDivParagraph = refl
each_listed Implied = refl
each_listed ImpliedThoroughly = refl
each_listed Heading = refl
each_listed FosterTarget = refl
each_listed Void = refl
each_listed Rcdata = refl
each_listed RawText = refl
each_listed Verbatim = refl
each_listed TableSection = refl
each_listed TablePart = refl
each_listed TableBodyContext = refl
each_listed TableRowContext = refl
each_listed Cell = refl
each_listed Description = refl
each_listed MathText = refl
each_listed MathMark = refl
each_listed MathGlyph = refl
each_listed SvgMark = refl
each_listed SvgCased = refl
each_listed Breakout = refl
each_listed Decisive = refl

each_filled : (class : Class) → is_among (names_in class) [] ≡ false
unfolding names_in
each_filled Special = refl
each_filled Scope = refl
each_filled ListScope = refl
each_filled ButtonScope = refl
each_filled TableScope = refl
each_filled AddressDivParagraph = refl
each_filled Implied = refl
each_filled ImpliedThoroughly = refl
each_filled Heading = refl
each_filled FosterTarget = refl
each_filled Void = refl
each_filled Rcdata = refl
each_filled RawText = refl
each_filled Verbatim = refl
each_filled TableSection = refl
each_filled TablePart = refl
each_filled TableBodyContext = refl
each_filled TableRowContext = refl
each_filled Cell = refl
each_filled Description = refl
each_filled MathText = refl
each_filled MathMark = refl
each_filled MathGlyph = refl
each_filled SvgMark = refl
each_filled SvgCased = refl
each_filled Breakout = refl
each_filled Decisive = refl

-- the class of a name is told by its number
pub class_of_name : (class : Class) (n : List ℕ) → is_of class (name_of n) ≡ is_among (names_in class) n
unfolding is_of
class_of_name class n = by_name (is_among (names_in class)) outside n
  where
    outside : (n : List ℕ) → is_among element_names n ≡ false → is_among (names_in class) n ≡ is_among (names_in class) []
    outside n o = not_any (names_in class) n (each_listed class) o ∙ sym (each_filled class)
