-- The names of the encodings (encoding standard, 4.2).
use Rattle.std.specs.Prelude.{ℕ, List, codes}
use Rattle.tl_encoding.specs.declared.encoding.ByteOrder.TheVariants.{BigEndian, LittleEndian}
use Rattle.tl_encoding.specs.declared.encoding.Encoding.{Encoding}
use Rattle.tl_encoding.specs.declared.encoding.Encoding.TheVariants.{Utf8, Utf16, SingleByte, MultiByte, Iso2022Jp, UserDefined, Replacement}
use Rattle.tl_encoding.specs.declared.multi_byte.MultiByte.{MultiByte as MultiName}
use Rattle.tl_encoding.specs.declared.multi_byte.MultiByte.TheVariants.{Big5, EucJp, EucKr, Gb18030, Gbk, ShiftJis}
use Rattle.tl_encoding.specs.declared.single_byte.SingleByte.{SingleByte as SingleName}
use Rattle.tl_encoding.specs.declared.single_byte.SingleByte.TheVariants.{Ibm866, Iso8859_2, Iso8859_3, Iso8859_4, Iso8859_5, Iso8859_6, Iso8859_7, Iso8859_8, Iso8859_8I, Iso8859_10, Iso8859_13, Iso8859_14, Iso8859_15, Iso8859_16, Koi8R, Koi8U, Macintosh, Windows874, Windows1250, Windows1251, Windows1252, Windows1253, Windows1254, Windows1255, Windows1256, Windows1257, Windows1258, XMacCyrillic}

abbrev pub single_name : SingleName → List ℕ
single_name Ibm866 = codes "IBM866"
single_name Iso8859_2 = codes "ISO-8859-2"
single_name Iso8859_3 = codes "ISO-8859-3"
single_name Iso8859_4 = codes "ISO-8859-4"
single_name Iso8859_5 = codes "ISO-8859-5"
single_name Iso8859_6 = codes "ISO-8859-6"
single_name Iso8859_7 = codes "ISO-8859-7"
single_name Iso8859_8 = codes "ISO-8859-8"
single_name Iso8859_8I = codes "ISO-8859-8-I"
single_name Iso8859_10 = codes "ISO-8859-10"
single_name Iso8859_13 = codes "ISO-8859-13"
single_name Iso8859_14 = codes "ISO-8859-14"
single_name Iso8859_15 = codes "ISO-8859-15"
single_name Iso8859_16 = codes "ISO-8859-16"
single_name Koi8R = codes "KOI8-R"
single_name Koi8U = codes "KOI8-U"
single_name Macintosh = codes "macintosh"
single_name Windows874 = codes "windows-874"
single_name Windows1250 = codes "windows-1250"
single_name Windows1251 = codes "windows-1251"
single_name Windows1252 = codes "windows-1252"
single_name Windows1253 = codes "windows-1253"
single_name Windows1254 = codes "windows-1254"
single_name Windows1255 = codes "windows-1255"
single_name Windows1256 = codes "windows-1256"
single_name Windows1257 = codes "windows-1257"
single_name Windows1258 = codes "windows-1258"
single_name XMacCyrillic = codes "x-mac-cyrillic"

abbrev pub multi_name : MultiName → List ℕ
multi_name Big5 = codes "Big5"
multi_name EucJp = codes "EUC-JP"
multi_name EucKr = codes "EUC-KR"
multi_name Gb18030 = codes "gb18030"
multi_name Gbk = codes "GBK"
multi_name ShiftJis = codes "Shift_JIS"

abbrev pub name_of : Encoding → List ℕ
name_of Utf8 = codes "UTF-8"
name_of (Utf16 BigEndian) = codes "UTF-16BE"
name_of (Utf16 LittleEndian) = codes "UTF-16LE"
name_of (SingleByte name) = single_name name
name_of (MultiByte name) = multi_name name
name_of Iso2022Jp = codes "ISO-2022-JP"
name_of UserDefined = codes "x-user-defined"
name_of Replacement = codes "replacement"
