-- Pages, which are bytes.
use Rattle.std.specs.Prelude.{ℕ, ◌≤◌, Bool, List, length, ◌&&◌, nat_le, if◌then◌else◌, IsUtf8}
use Rattle.std.specs.Str.{is_utf8}
use Rattle.tl_spec.specs.Lex.ByteClass.{largest_u32}
use Rattle.tl_spec.specs.Tree.Document.{Document, document}
use Rattle.tl_page.specs.Outcome.{Outcome, not_understood, success}

-- bytes that are a text which is not too long
abbrev pub IsPage : List ℕ → Type 0
IsPage page = IsUtf8 page × (length page ≤ largest_u32)

-- whether they are
abbrev pub is_page : List ℕ → Bool
is_page page = is_utf8 page && nat_le (length page) largest_u32

-- what is made of the document of a page; what is none is not understood
abbrev pub outcome_in : {X : Type 0} → (Document → Outcome X) → List ℕ → Outcome X
outcome_in make page = if is_page page then make (document page) else not_understood

-- the document of a page
abbrev pub document_in : List ℕ → Outcome Document
document_in = outcome_in success
