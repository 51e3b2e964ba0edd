-- What a reader answers.
use Rattle.std.specs.Prelude.{ℕ, ◌==◌, if◌then◌else◌, List, [], ◌∷◌, length, Option, Some, None, Result, Ok, Err}
use Rattle.tl_css.specs.declared.error.Wrong.{Wrong}
use Rattle.tl_css.specs.declared.error.Cause.{Cause}

-- what stands at the front of a text, and what stands after it; or how many bytes are left from the
-- first wrong one on, and the cause
abbrev pub Read : Type 0 → Type 0
Read A = Result (A × List ℕ) Wrong

-- the text is wrong where so many bytes are left
abbrev pub wrong_at : {A : Type 0} → ℕ → Cause → Result A Wrong
wrong_at left cause = Err (record { left = left; cause = cause })

-- the text is wrong where these bytes begin
abbrev pub wrong : {A : Type 0} → List ℕ → Cause → Result A Wrong
wrong s cause = wrong_at (length s) cause

infixl 10 ◌>>=◌
abbrev pub ◌>>=◌ : {A B : Type 0} → Result A Wrong → (A → Result B Wrong) → Result B Wrong
(Ok x) >>= f = f x
(Err e) >>= f = Err e

-- what stands after this byte, where it stands first
abbrev pub after_byte : ℕ → List ℕ → Option (List ℕ)
after_byte b [] = None
after_byte b (c ∷ s) = if c == b then Some s else None
