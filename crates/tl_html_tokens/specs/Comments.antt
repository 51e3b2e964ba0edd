-- What a comment of a page says: its data.
use Rattle.std.specs.Prelude.{ℕ, Bool, not, ◌||◌, ◌==◌, List, [], ◌∷◌, codes, drop, take_while, if◌then◌else◌}
use Rattle.std.specs.List.{starts_with}
use Rattle.std.specs.Str.{bytes_eq}
use Rattle.tl_html_spec.specs.HtmlTokenizer.{with_feeds}
use Rattle.tl_html_tokens.specs.Characters.{without_nul}

-- the end of a comment, or what the end of the page left of one
abbrev pub is_end : List ℕ → Bool
is_end s = starts_with ◌==◌ (codes "--!>") s || bytes_eq s (codes "-->")

-- up to where its end alone stands
abbrev pub before_end : List ℕ → List ℕ
before_end [] = []
before_end (b ∷ s) = if is_end (b ∷ s) then [] else b ∷ before_end s

-- what stands after `<!--`, which ends at once where it begins with `>` or `->`
abbrev pub inside : List ℕ → List ℕ
inside s = if bytes_eq s (codes ">") || bytes_eq s (codes "->") then [] else before_end s

abbrev pub not_greater : ℕ → Bool
not_greater b = not (b == 62)

-- markup that is none: what stands after `<!` or `</`, up to the first `>`; of `<?` the `?` is said
abbrev pub bogus : List ℕ → List ℕ
bogus s = take_while not_greater (drop (if starts_with ◌==◌ s (codes "<?") then 1 else 2) s)

-- what stands in a comment
abbrev pub content : List ℕ → List ℕ
content s = if starts_with ◌==◌ s (codes "<!--") then inside (drop 4 s) else bogus s

-- the data of a comment whose line ends are line feeds
abbrev pub data_of : List ℕ → List ℕ
data_of s = without_nul (content s)

abbrev pub comment_of : List ℕ → List ℕ
comment_of bytes = data_of (with_feeds bytes)
