-- The tokens of a text, and where they stand.
use Rattle.std.specs.Prelude.{ℕ, Bool, true, false, ◌==◌, ◌-◌, List, [], ◌∷◌, length, drop, Option, Some, None, option_map, take_while, codes, if◌then◌else◌, ⊤}
use Rattle.std.specs.List.{before_first, starts_with}
use Rattle.std.specs.Str.{str_eq_ignore_ascii_case}
use Rattle.tl_spec.specs.Lex.ByteClass.{is_ident, is_name, less, greater, slash, bang}
use Rattle.tl_spec.specs.Lex.Runs.{drop_while, drop_until, before_rest, after_needle, read_many}
use Rattle.tl_spec.specs.Lex.Attribute.{Pair, skip_blanks, attributes}

-- a start tag says its name, its attributes and whether it ends with `/>`; a doctype says whether
-- it is that of HTML5
pub data Token : Type 0 where
  Text : List ℕ → Token
  End : List ℕ → Token
  Comment : List ℕ → Token
  Doctype : Bool → Token
  Start : List ℕ → List Pair → Bool → Token
  Nothing : Token

-- a token, and the span where it stands
pub record PlacedToken : Type 0 where
  pub token : Token
  pub from : ℕ
  pub to : ℕ

-- after the `/` that ends the attributes: `>` has to follow
abbrev pub token_after_slash : List ℕ → List Pair → List ℕ → Token × List ℕ
token_after_slash name pairs [] = (Nothing, [])
token_after_slash name pairs (b ∷ s) =
    if b == greater then (Start name pairs true, s) else (Nothing, b ∷ s)

-- after the attributes: `>` or `/` or the end of the text
abbrev pub token_after_attributes : List ℕ → List Pair → List ℕ → Token × List ℕ
token_after_attributes name pairs [] = (Nothing, [])
token_after_attributes name pairs (b ∷ s) =
    if b == greater then (Start name pairs false, s) else token_after_slash name pairs s

-- a start tag from its name on: its name, blanks, its attributes, its end
abbrev pub start_tag : List ℕ → Token × List ℕ
start_tag s = let a = attributes (skip_blanks (drop_while is_name s)) in
    token_after_attributes (take_while is_name s) a.0 a.1

-- an end tag after its `/`: all bytes up to `>`, which is consumed if it is there
abbrev pub end_tag : List ℕ → Token × List ℕ
end_tag s = (End (before_first (λ b. b == greater) s), drop 1 (drop_until (λ b. b == greater) s))

-- a comment, where `rest` stands after its end; one without an end has no bytes and takes all
abbrev pub comment_token : List ℕ → Option (List ℕ) → Token × List ℕ
comment_token whole None = (Comment [], [])
comment_token whole (Some rest) = (Comment (before_rest rest whole), rest)

-- a doctype after its first word and blanks: a second word, blanks, and one byte whatever it is
abbrev pub doctype : List ℕ → Token × List ℕ
doctype s = (
  Doctype (str_eq_ignore_ascii_case (take_while is_ident s) (codes "html")),
  drop 1 (skip_blanks (drop_while is_ident s)),
)

-- after `!` without `--`: a doctype, or another word and blanks, of which nothing comes
abbrev pub word : List ℕ → Token × List ℕ
word s = let rest = skip_blanks (drop_while is_ident s) in
    if str_eq_ignore_ascii_case (take_while is_ident s) (codes "doctype") then doctype rest
    else (Nothing, rest)

-- after `!`: a comment from its `--` on, whose end may share these dashes
abbrev pub declaration : List ℕ → List ℕ → Token × List ℕ
declaration whole s = if starts_with ◌==◌ s (codes "--") then comment_token whole
    (after_needle (codes "-->") s) else word s

-- after `<` and blanks, where `whole` begins with that `<`
abbrev pub markup : List ℕ → List ℕ → Token × List ℕ
markup whole [] = (Nothing, [])
markup whole (b ∷ s) =
    if b == slash then end_tag s
    else if b == bang then declaration whole s
    else start_tag (b ∷ s)

-- a text up to the first `<`
abbrev pub text_token : List ℕ → Token × List ℕ
text_token s = (Text (before_first (λ b. b == less) s), drop_until (λ b. b == less) s)

-- the token at the front, and what stands after it; none at the end
abbrev pub next_token : List ℕ → Option (Token × List ℕ)
next_token [] = None
next_token (b ∷ s) = Some (if b == less then markup (b ∷ s) (skip_blanks s) else text_token (b ∷ s))

-- the next token with its span, where s is the last part of a text of n bytes
abbrev pub next_placed : ℕ → List ℕ → Option (PlacedToken × List ℕ)
next_placed n s = option_map (λ found.
    (record { token = found.0; from = n - length s; to = n - length found.1 }, found.1))
    (next_token s)

-- the tokens of a text
abbrev pub tokens : List ℕ → List PlacedToken
tokens t = (read_many (next_placed (length t)) (length t) t).0

-- a token that is no doctype
abbrev pub IsNoDoctype : Token → Type 0
IsNoDoctype (Doctype html) = ⊥
IsNoDoctype _ = ⊤

-- no token is a doctype
abbrev pub AreNoDoctypes : List PlacedToken → Type 0
AreNoDoctypes [] = ⊤
AreNoDoctypes (k ∷ ks) = IsNoDoctype k.token × AreNoDoctypes ks
