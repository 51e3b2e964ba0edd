-- The label in a page's XML declaration, as the HTML standard gets it where its prescan finds none
-- ("get an XML encoding"), and the declarations in UTF-16 that the prescan looks for first.
use Rattle.std.specs.Prelude.{ℕ, Bool, ◌&&◌, List, [], ◌∷◌, Option, Some, None, codes, drop, not, if◌then◌else◌}
use Rattle.std.specs.List.{list_any}
use Rattle.std.specs.Option.{option_and_then}
use Rattle.tl_encoding.specs.Charset.{head, is_empty, label_known}
use Rattle.tl_encoding.specs.Content.{until}
use Rattle.tl_encoding.specs.Runs.{after, after_equals, begins, from_word, is_of, is_quote}
use Rattle.tl_encoding.specs.declared.encoding.ByteOrder.{ByteOrder}
use Rattle.tl_encoding.specs.declared.encoding.ByteOrder.TheVariants.{BigEndian, LittleEndian}
use Rattle.tl_encoding.specs.declared.run.ByteClass.TheVariants.{Blank, Except}

-- `<?x` in UTF-16, and its order of bytes: the standard looks at no more of it
abbrev pub utf_16_declared : List ℕ → Option ByteOrder
utf_16_declared page =
    if begins (0x3C ∷ 0 ∷ 0x3F ∷ 0 ∷ 0x78 ∷ 0 ∷ []) page then Some LittleEndian
    else if begins (0 ∷ 0x3C ∷ 0 ∷ 0x3F ∷ 0 ∷ 0x78 ∷ []) page then Some BigEndian
    else None

-- a declaration stands in front, and a `>` after it
abbrev pub is_declaration : List ℕ → Bool
is_declaration bytes = begins (codes "<?xml") bytes && not (is_empty (after (Except 62) bytes))

-- what stands after the first `encoding`. The standard finds that `>` and then doesn't ask for it
-- again, so `encoding` may stand after it
abbrev pub after_encoding : List ℕ → List ℕ
after_encoding bytes = drop 8 (from_word (codes "encoding") bytes)

-- what stands between quotes, if a quote is next and comes again
abbrev pub quoted : List ℕ → Option (List ℕ)
quoted [] = None
quoted (b ∷ s) = if is_quote b then until b s else None

-- a label of the encoding standard, without spaces and control characters anywhere
abbrev pub unbroken : List ℕ → Option (List ℕ)
unbroken label = if list_any (is_of Blank) label then None else label_known label

-- the label that a declaration says
abbrev pub xml_label : List ℕ → Option (List ℕ)
xml_label bytes =
    if is_declaration bytes
    then option_and_then unbroken
    (option_and_then quoted (after_equals Blank (after_encoding bytes)))
    else None

-- the standard looks at the bytes that its prescan looks at
abbrev pub label_declared : List ℕ → Option (List ℕ)
label_declared page = xml_label (head page)
