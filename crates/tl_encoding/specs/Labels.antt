-- Labels of encodings, as the encoding standard gets an encoding by one.
use Rattle.std.specs.Prelude.{ℕ, Bool, ◌-◌, ◌++◌, List, [], ◌∷◌, Option, Some, None, drop, is_some, length, map, take, if◌then◌else◌}
use Rattle.std.specs.Char.{is_ascii_whitespace}
use Rattle.std.specs.List.{prefix_len, suffix_len}
use Rattle.tl_names.specs.Elements.{words}
use Rattle.tl_spec.specs.Lex.ByteClass.{is_among_in_any_case}
use Rattle.tl_encoding.specs.declared.encoding.ByteOrder.TheVariants.{BigEndian, LittleEndian}
use Rattle.tl_encoding.specs.declared.encoding.Encoding.{Encoding}
use Rattle.tl_encoding.specs.declared.encoding.Encoding.TheVariants.{Utf8, Utf16, SingleByte, MultiByte, Iso2022Jp, UserDefined, Replacement}
use Rattle.tl_encoding.specs.declared.labels.Row.{Row}
use Rattle.tl_encoding.specs.declared.multi_byte.MultiByte.TheVariants.{Big5, EucJp, EucKr, Gb18030, Gbk, ShiftJis}
use Rattle.tl_encoding.specs.declared.single_byte.SingleByte.TheVariants.{Ibm866, Iso8859_2, Iso8859_3, Iso8859_4, Iso8859_5, Iso8859_6, Iso8859_7, Iso8859_8, Iso8859_8I, Iso8859_10, Iso8859_13, Iso8859_14, Iso8859_15, Iso8859_16, Koi8R, Koi8U, Macintosh, Windows874, Windows1250, Windows1251, Windows1252, Windows1253, Windows1254, Windows1255, Windows1256, Windows1257, Windows1258, XMacCyrillic}

-- white space at the end goes
abbrev pub without_end : List ℕ → List ℕ
without_end bytes = take (length bytes - suffix_len is_ascii_whitespace bytes) bytes

-- and in front
abbrev pub trimmed : List ℕ → List ℕ
trimmed bytes = without_end (drop (prefix_len is_ascii_whitespace bytes) bytes)

-- the labels of each encoding, as the encoding standard lists them (4.2)
unfoldable pub labels : List (Encoding × List (List ℕ))
labels = (
  Utf8,
  words "utf-8 utf8 unicode-1-1-utf-8 unicode11utf8 unicode20utf8"
      ++ words "x-unicode20utf8",
) ∷
    (SingleByte Ibm866, words "866 cp866 csibm866 ibm866") ∷ (
      SingleByte Iso8859_2,
      words "csisolatin2 iso-8859-2 iso-ir-101 iso8859-2 iso88592"
          ++ words "iso_8859-2 iso_8859-2:1987 l2 latin2",
    ) ∷ (
      SingleByte Iso8859_3,
      words "csisolatin3 iso-8859-3 iso-ir-109 iso8859-3 iso88593"
          ++ words "iso_8859-3 iso_8859-3:1988 l3 latin3",
    ) ∷ (
      SingleByte Iso8859_4,
      words "csisolatin4 iso-8859-4 iso-ir-110 iso8859-4 iso88594"
          ++ words "iso_8859-4 iso_8859-4:1988 l4 latin4",
    ) ∷ (
      SingleByte Iso8859_5,
      words "csisolatincyrillic cyrillic iso-8859-5 iso-ir-144 iso8859-5"
          ++ words "iso88595 iso_8859-5 iso_8859-5:1988",
    ) ∷ (
      SingleByte Iso8859_6,
      words "arabic asmo-708 csiso88596e csiso88596i csisolatinarabic"
          ++ words "ecma-114 iso-8859-6 iso-8859-6-e iso-8859-6-i iso-ir-127"
          ++ words "iso8859-6 iso88596 iso_8859-6 iso_8859-6:1987",
    ) ∷ (
      SingleByte Iso8859_7,
      words "csisolatingreek ecma-118 elot_928 greek greek8 iso-8859-7"
          ++ words "iso-ir-126 iso8859-7 iso88597 iso_8859-7 iso_8859-7:1987"
          ++ words "sun_eu_greek",
    ) ∷ (
      SingleByte Iso8859_8,
      words "csiso88598e csisolatinhebrew hebrew iso-8859-8 iso-8859-8-e"
          ++ words "iso-ir-138 iso8859-8 iso88598 iso_8859-8 iso_8859-8:1988"
          ++ words "visual",
    ) ∷
    (SingleByte Iso8859_8I, words "csiso88598i iso-8859-8-i logical") ∷ (
      SingleByte Iso8859_10,
      words "csisolatin6 iso-8859-10 iso-ir-157 iso8859-10 iso885910 l6"
          ++ words "latin6",
    ) ∷
    (SingleByte Iso8859_13, words "iso-8859-13 iso8859-13 iso885913") ∷
    (SingleByte Iso8859_14, words "iso-8859-14 iso8859-14 iso885914") ∷
    (SingleByte Iso8859_15, words "csisolatin9 iso-8859-15 iso8859-15 iso885915 iso_8859-15 l9") ∷
    (SingleByte Iso8859_16, words "iso-8859-16") ∷
    (SingleByte Koi8R, words "cskoi8r koi koi8 koi8-r koi8_r") ∷
    (SingleByte Koi8U, words "koi8-ru koi8-u") ∷
    (SingleByte Macintosh, words "csmacintosh mac macintosh x-mac-roman") ∷
    (SingleByte Windows874, words "dos-874 iso-8859-11 iso8859-11 iso885911 tis-620 windows-874") ∷
    (SingleByte Windows1250, words "cp1250 windows-1250 x-cp1250") ∷
    (SingleByte Windows1251, words "cp1251 windows-1251 x-cp1251") ∷ (
      SingleByte Windows1252,
      words "windows-1252 cp1252 x-cp1252 iso-8859-1 iso8859-1 iso88591"
          ++ words "iso_8859-1 iso_8859-1:1987 iso-ir-100 latin1 l1 csisolatin1"
          ++ words "cp819 ibm819 us-ascii ascii ansi_x3.4-1968",
    ) ∷
    (SingleByte Windows1253, words "cp1253 windows-1253 x-cp1253") ∷ (
      SingleByte Windows1254,
      words "cp1254 csisolatin5 iso-8859-9 iso-ir-148 iso8859-9 iso88599"
          ++ words "iso_8859-9 iso_8859-9:1989 l5 latin5 windows-1254 x-cp1254",
    ) ∷
    (SingleByte Windows1255, words "cp1255 windows-1255 x-cp1255") ∷
    (SingleByte Windows1256, words "cp1256 windows-1256 x-cp1256") ∷
    (SingleByte Windows1257, words "cp1257 windows-1257 x-cp1257") ∷
    (SingleByte Windows1258, words "cp1258 windows-1258 x-cp1258") ∷
    (SingleByte XMacCyrillic, words "x-mac-cyrillic x-mac-ukrainian") ∷ (
      MultiByte Gbk,
      words "chinese csgb2312 csiso58gb231280 gb2312 gb_2312"
          ++ words "gb_2312-80 gbk iso-ir-58 x-gbk",
    ) ∷
    (MultiByte Gb18030, words "gb18030") ∷
    (MultiByte Big5, words "big5 big5-hkscs cn-big5 csbig5 x-x-big5") ∷
    (MultiByte EucJp, words "cseucpkdfmtjapanese euc-jp x-euc-jp") ∷
    (Iso2022Jp, words "csiso2022jp iso-2022-jp") ∷ (
      MultiByte ShiftJis,
      words "csshiftjis ms932 ms_kanji shift-jis shift_jis"
          ++ words "sjis windows-31j x-sjis",
    ) ∷ (
      MultiByte EucKr,
      words "cseuckr csksc56011987 euc-kr iso-ir-149 korean"
          ++ words "ks_c_5601-1987 ks_c_5601-1989 ksc5601 ksc_5601 windows-949",
    ) ∷
    (Utf16 BigEndian, words "unicodefffe utf-16be") ∷ (
      Utf16 LittleEndian,
      words "csunicode iso-10646-ucs-2 ucs-2 unicode unicodefeff utf-16"
          ++ words "utf-16le",
    ) ∷
    (UserDefined, words "x-user-defined") ∷ (
      Replacement,
      words "csiso2022kr hz-gb-2312 iso-2022-cn iso-2022-cn-ext iso-2022-kr"
          ++ words "replacement",
    ) ∷ []

-- a row of the code's table
abbrev pub labels_of : Row → Encoding × List (List ℕ)
labels_of row = (row.encoding, map (λ own. own.now) row.labels.now)

-- the encoding of the first that have a label among theirs
abbrev pub named_in : List (Encoding × List (List ℕ)) → List ℕ → Option Encoding
named_in [] label = None
named_in (row ∷ rows) label =
    if is_among_in_any_case row.1 label then Some row.0 else named_in rows label

-- the encoding of a label that has no white space around it
abbrev pub encoding_named : List ℕ → Option Encoding
encoding_named label = named_in labels label

-- whether the encoding standard has the label
abbrev pub is_label : List ℕ → Bool
is_label label = is_some (encoding_named label)
