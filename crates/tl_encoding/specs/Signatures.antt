-- What bytes are that hold no page, by the patterns of the MIME sniffing standard (6.1, 6.4, 7.1).
use Rattle.std.specs.Prelude.{ℕ, Bool, ◌&&◌, List, [], ◌∷◌, Option, Some, None, codes, drop, if◌then◌else◌}
use Rattle.tl_encoding.specs.Runs.{begins}
use Rattle.tl_encoding.specs.declared.signature.Media.{Media}
use Rattle.tl_encoding.specs.declared.signature.Media.TheVariants.{Gif, Gzip, Jpeg, Pdf, Png, WebP, Zip}

-- WebP's pattern has four bytes that may be any, the length
abbrev pub is_webp : List ℕ → Bool
is_webp bytes = begins (codes "RIFF") bytes && begins (codes "WEBPVP") (drop 8 bytes)

abbrev pub media_of : List ℕ → Option Media
media_of bytes =
    if begins (codes "GIF87a") bytes then Some Gif
    else if begins (codes "GIF89a") bytes then Some Gif
    else if is_webp bytes then Some WebP
    else if begins (0x89 ∷ 0x50 ∷ 0x4E ∷ 0x47 ∷ 0x0D ∷ 0x0A ∷ 0x1A ∷ 0x0A ∷ []) bytes then Some Png
    else if begins (0xFF ∷ 0xD8 ∷ 0xFF ∷ []) bytes then Some Jpeg
    else if begins (codes "%PDF-") bytes then Some Pdf
    else if begins (0x1F ∷ 0x8B ∷ 0x08 ∷ []) bytes then Some Gzip
    else if begins (0x50 ∷ 0x4B ∷ 0x03 ∷ 0x04 ∷ []) bytes then Some Zip
    else None
