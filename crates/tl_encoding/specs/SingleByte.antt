-- The single-byte encodings (encoding standard, 9).
use Rattle.std.specs.Prelude.{ℕ, ◌-◌, List, nat_lt, slice_index, if◌then◌else◌}
use Rattle.tl_encoding.specs.Indexes.{ibm866, iso_8859_2, iso_8859_3, iso_8859_4, iso_8859_5, iso_8859_6, iso_8859_7, iso_8859_8, iso_8859_10, iso_8859_13, iso_8859_14, iso_8859_15, iso_8859_16, koi8_r, koi8_u, macintosh, windows_874, windows_1250, windows_1251, windows_1252, windows_1253, windows_1254, windows_1255, windows_1256, windows_1257, windows_1258, x_mac_cyrillic}
use Rattle.tl_encoding.specs.declared.single_byte.SingleByte.{SingleByte}
use Rattle.tl_encoding.specs.declared.single_byte.SingleByte.TheVariants.{Ibm866, Iso8859_2, Iso8859_3, Iso8859_4, Iso8859_5, Iso8859_6, Iso8859_7, Iso8859_8, Iso8859_8I, Iso8859_10, Iso8859_13, Iso8859_14, Iso8859_15, Iso8859_16, Koi8R, Koi8U, Macintosh, Windows874, Windows1250, Windows1251, Windows1252, Windows1253, Windows1254, Windows1255, Windows1256, Windows1257, Windows1258, XMacCyrillic}

-- the index of each: that of ISO-8859-8-I is that of ISO-8859-8
abbrev pub index : SingleByte → List ℕ
index Ibm866 = ibm866
index Iso8859_2 = iso_8859_2
index Iso8859_3 = iso_8859_3
index Iso8859_4 = iso_8859_4
index Iso8859_5 = iso_8859_5
index Iso8859_6 = iso_8859_6
index Iso8859_7 = iso_8859_7
index Iso8859_8 = iso_8859_8
index Iso8859_8I = iso_8859_8
index Iso8859_10 = iso_8859_10
index Iso8859_13 = iso_8859_13
index Iso8859_14 = iso_8859_14
index Iso8859_15 = iso_8859_15
index Iso8859_16 = iso_8859_16
index Koi8R = koi8_r
index Koi8U = koi8_u
index Macintosh = macintosh
index Windows874 = windows_874
index Windows1250 = windows_1250
index Windows1251 = windows_1251
index Windows1252 = windows_1252
index Windows1253 = windows_1253
index Windows1254 = windows_1254
index Windows1255 = windows_1255
index Windows1256 = windows_1256
index Windows1257 = windows_1257
index Windows1258 = windows_1258
index XMacCyrillic = x_mac_cyrillic

-- the decoder: a byte below 0x80 stands for itself, another for what the index has
abbrev pub of_index : List ℕ → ℕ → ℕ
of_index table byte = if nat_lt byte 0x80 then byte else slice_index table (byte - 0x80)
