-- Words for worked rows: a quoted text stands for its bytes. No contract cites them.
use Prim.Native.String.{String}
use Rattle.std.specs.Prelude.{◌≡◌, ℕ, List, Some, None, codes, encode_utf8_all}
use Rattle.tl_encoding.specs.Charset.{charset_of}
use Rattle.tl_encoding.specs.Declaration.{label_declared}
use Rattle.tl_encoding.specs.Decoders.{decoded}
use Rattle.tl_encoding.specs.Encodings.{encoding_said}
use Rattle.tl_encoding.specs.declared.encoding.Encoding.{Encoding}
use Rattle.tl_encoding.specs.declared.encoding.Encoding.TheVariants.{SingleByte}
use Rattle.tl_encoding.specs.declared.single_byte.SingleByte.TheVariants.{Windows1252}

-- what pages mean that say Latin-1
abbrev pub latin_1 : Encoding
latin_1 = SingleByte Windows1252

-- the label that a page says
abbrev pub Says : String → String → Type 0
Says page label = charset_of (codes page) ≡ Some (codes label)

abbrev pub SaysNothing : String → Type 0
SaysNothing page = charset_of (codes page) ≡ None

-- the label that a page declares
abbrev pub Declares : String → String → Type 0
Declares page label = label_declared (codes page) ≡ Some (codes label)

abbrev pub DeclaresNothing : String → Type 0
DeclaresNothing page = label_declared (codes page) ≡ None

-- the encoding that it says
abbrev pub Means : String → Encoding → Type 0
Means page encoding = encoding_said (codes page) ≡ encoding

-- the code points that bytes stand for
abbrev pub Decodes : Encoding → List ℕ → List ℕ → Type 0
Decodes encoding bytes points = decoded encoding bytes ≡ encode_utf8_all points
