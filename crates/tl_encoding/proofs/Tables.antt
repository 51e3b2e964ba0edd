-- The indexes of the single-byte encodings: each entry is found by its character.
use Rattle.std.proofs.Common.{◌≡◌, length, refl, true}
use Rattle.tl_encoding.specs.Indexes.{ibm866, iso_8859_10, iso_8859_13, iso_8859_14, iso_8859_15, iso_8859_16, iso_8859_2, iso_8859_3, iso_8859_4, iso_8859_5, iso_8859_6, iso_8859_7, iso_8859_8, koi8_r, koi8_u, macintosh, windows_1250, windows_1251, windows_1252, windows_1253, windows_1254, windows_1255, windows_1256, windows_1257, windows_1258, windows_874, x_mac_cyrillic}
use Rattle.tl_encoding.specs.SingleByte.{index}
use Rattle.tl_encoding.specs.declared.single_byte.SingleByte.{SingleByte}
use Rattle.tl_encoding.specs.declared.single_byte.SingleByte.TheVariants.{Ibm866, Iso8859_2, Iso8859_3, Iso8859_4, Iso8859_5, Iso8859_6, Iso8859_7, Iso8859_8, Iso8859_8I, Iso8859_10, Iso8859_13, Iso8859_14, Iso8859_15, Iso8859_16, Koi8R, Koi8U, Macintosh, Windows874, Windows1250, Windows1251, Windows1252, Windows1253, Windows1254, Windows1255, Windows1256, Windows1257, Windows1258, XMacCyrillic}
use Rattle.tl_encoding.proofs.Pointers.{are_good}

good_ibm866 : (are_good ibm866 0 ibm866 ≡ true) × (length ibm866 ≡ 128)
unfolding ibm866
good_ibm866 = (refl, refl)

good_iso_8859_10 : (are_good iso_8859_10 0 iso_8859_10 ≡ true) × (length iso_8859_10 ≡ 128)
unfolding iso_8859_10
good_iso_8859_10 = (refl, refl)

good_iso_8859_13 : (are_good iso_8859_13 0 iso_8859_13 ≡ true) × (length iso_8859_13 ≡ 128)
unfolding iso_8859_13
good_iso_8859_13 = (refl, refl)

good_iso_8859_14 : (are_good iso_8859_14 0 iso_8859_14 ≡ true) × (length iso_8859_14 ≡ 128)
unfolding iso_8859_14
good_iso_8859_14 = (refl, refl)

good_iso_8859_15 : (are_good iso_8859_15 0 iso_8859_15 ≡ true) × (length iso_8859_15 ≡ 128)
unfolding iso_8859_15
good_iso_8859_15 = (refl, refl)

good_iso_8859_16 : (are_good iso_8859_16 0 iso_8859_16 ≡ true) × (length iso_8859_16 ≡ 128)
unfolding iso_8859_16
good_iso_8859_16 = (refl, refl)

good_iso_8859_2 : (are_good iso_8859_2 0 iso_8859_2 ≡ true) × (length iso_8859_2 ≡ 128)
unfolding iso_8859_2
good_iso_8859_2 = (refl, refl)

good_iso_8859_3 : (are_good iso_8859_3 0 iso_8859_3 ≡ true) × (length iso_8859_3 ≡ 128)
unfolding iso_8859_3
good_iso_8859_3 = (refl, refl)

good_iso_8859_4 : (are_good iso_8859_4 0 iso_8859_4 ≡ true) × (length iso_8859_4 ≡ 128)
unfolding iso_8859_4
good_iso_8859_4 = (refl, refl)

good_iso_8859_5 : (are_good iso_8859_5 0 iso_8859_5 ≡ true) × (length iso_8859_5 ≡ 128)
unfolding iso_8859_5
good_iso_8859_5 = (refl, refl)

good_iso_8859_6 : (are_good iso_8859_6 0 iso_8859_6 ≡ true) × (length iso_8859_6 ≡ 128)
unfolding iso_8859_6
good_iso_8859_6 = (refl, refl)

good_iso_8859_7 : (are_good iso_8859_7 0 iso_8859_7 ≡ true) × (length iso_8859_7 ≡ 128)
unfolding iso_8859_7
good_iso_8859_7 = (refl, refl)

good_iso_8859_8 : (are_good iso_8859_8 0 iso_8859_8 ≡ true) × (length iso_8859_8 ≡ 128)
unfolding iso_8859_8
good_iso_8859_8 = (refl, refl)

good_koi8_r : (are_good koi8_r 0 koi8_r ≡ true) × (length koi8_r ≡ 128)
unfolding koi8_r
good_koi8_r = (refl, refl)

good_koi8_u : (are_good koi8_u 0 koi8_u ≡ true) × (length koi8_u ≡ 128)
unfolding koi8_u
good_koi8_u = (refl, refl)

good_macintosh : (are_good macintosh 0 macintosh ≡ true) × (length macintosh ≡ 128)
unfolding macintosh
good_macintosh = (refl, refl)

good_windows_1250 : (are_good windows_1250 0 windows_1250 ≡ true) × (length windows_1250 ≡ 128)
unfolding windows_1250
good_windows_1250 = (refl, refl)

good_windows_1251 : (are_good windows_1251 0 windows_1251 ≡ true) × (length windows_1251 ≡ 128)
unfolding windows_1251
good_windows_1251 = (refl, refl)

good_windows_1252 : (are_good windows_1252 0 windows_1252 ≡ true) × (length windows_1252 ≡ 128)
unfolding windows_1252
good_windows_1252 = (refl, refl)

good_windows_1253 : (are_good windows_1253 0 windows_1253 ≡ true) × (length windows_1253 ≡ 128)
unfolding windows_1253
good_windows_1253 = (refl, refl)

good_windows_1254 : (are_good windows_1254 0 windows_1254 ≡ true) × (length windows_1254 ≡ 128)
unfolding windows_1254
good_windows_1254 = (refl, refl)

good_windows_1255 : (are_good windows_1255 0 windows_1255 ≡ true) × (length windows_1255 ≡ 128)
unfolding windows_1255
good_windows_1255 = (refl, refl)

good_windows_1256 : (are_good windows_1256 0 windows_1256 ≡ true) × (length windows_1256 ≡ 128)
unfolding windows_1256
good_windows_1256 = (refl, refl)

good_windows_1257 : (are_good windows_1257 0 windows_1257 ≡ true) × (length windows_1257 ≡ 128)
unfolding windows_1257
good_windows_1257 = (refl, refl)

good_windows_1258 : (are_good windows_1258 0 windows_1258 ≡ true) × (length windows_1258 ≡ 128)
unfolding windows_1258
good_windows_1258 = (refl, refl)

good_windows_874 : (are_good windows_874 0 windows_874 ≡ true) × (length windows_874 ≡ 128)
unfolding windows_874
good_windows_874 = (refl, refl)

good_x_mac_cyrillic : (are_good x_mac_cyrillic 0 x_mac_cyrillic ≡ true) × (length x_mac_cyrillic ≡ 128)
unfolding x_mac_cyrillic
good_x_mac_cyrillic = (refl, refl)

pub good : (name : SingleByte) → (are_good (index name) 0 (index name) ≡ true) × (length (index name) ≡ 128)
good Ibm866 = good_ibm866
good Iso8859_2 = good_iso_8859_2
good Iso8859_3 = good_iso_8859_3
good Iso8859_4 = good_iso_8859_4
good Iso8859_5 = good_iso_8859_5
good Iso8859_6 = good_iso_8859_6
good Iso8859_7 = good_iso_8859_7
good Iso8859_8 = good_iso_8859_8
good Iso8859_8I = good_iso_8859_8
good Iso8859_10 = good_iso_8859_10
good Iso8859_13 = good_iso_8859_13
good Iso8859_14 = good_iso_8859_14
good Iso8859_15 = good_iso_8859_15
good Iso8859_16 = good_iso_8859_16
good Koi8R = good_koi8_r
good Koi8U = good_koi8_u
good Macintosh = good_macintosh
good Windows874 = good_windows_874
good Windows1250 = good_windows_1250
good Windows1251 = good_windows_1251
good Windows1252 = good_windows_1252
good Windows1253 = good_windows_1253
good Windows1254 = good_windows_1254
good Windows1255 = good_windows_1255
good Windows1256 = good_windows_1256
good Windows1257 = good_windows_1257
good Windows1258 = good_windows_1258
good XMacCyrillic = good_x_mac_cyrillic
