-- What holds of each token that the tokenizer emits.
use Rattle.std.specs.Prelude.{◌≡◌, ℕ, List, [], ◌∷◌, ◌++◌, Some, codes, ⊤}
use Rattle.tl_spec.specs.Lex.Runs.{after_needle}
use Rattle.tl_html_spec.specs.HtmlTokenizer.{HtmlAttribute, HtmlToken, Character, StartTag, EndTag, CommentToken, DoctypeToken}

abbrev pub IsSome : List ℕ → Type 0
IsSome [] = ⊥
IsSome (b ∷ s) = ⊤

abbrev pub HaveKeys : List HtmlAttribute → Type 0
HaveKeys [] = ⊤
HaveKeys (a ∷ more) = IsSome a.0 × HaveKeys more

-- names and keys are not empty, and no comment is cut by a `-->` before its end
abbrev pub IsSound : HtmlToken → Type 0
IsSound (Character b) = ⊤
IsSound (StartTag name attributes closes) = IsSome name × HaveKeys attributes
IsSound (EndTag name) = IsSome name
IsSound (CommentToken bytes) =
    after_needle (codes "-->") (codes "--" ++ (bytes ++ codes "-->")) ≡ Some []
IsSound DoctypeToken = ⊤

abbrev pub AreSound : List HtmlToken → Type 0
AreSound [] = ⊤
AreSound (token ∷ tokens) = IsSound token × AreSound tokens
