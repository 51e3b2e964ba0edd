-- Where in a page something stands, by the marks before it: the tokens that are no characters, and
-- not the end of the page.
use Rattle.std.specs.Prelude.{ℕ}

-- what a text, a comment or a doctype says, with a number of marks. That of a comment and of a
-- doctype is the number of its own token, from 0 on; that of a text is how many marks stand before
-- its first character. No rule asks for it
pub record Marked (A : Type 0) : Type 0 where
  pub said : A
  pub source : ℕ

abbrev pub marked : {A : Type 0} → ℕ → A → Marked A
marked source said = record { said = said; source = source }

-- as a token has it: the number is given where it is taken
abbrev pub unmarked : {A : Type 0} → A → Marked A
unmarked said = marked 0 said
