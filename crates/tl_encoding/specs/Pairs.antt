-- What a lead byte and another one stand for in GBK, gb18030, Big5, EUC-JP, Shift_JIS and EUC-KR
-- (encoding standard, 10 to 13).
use Rattle.std.specs.Prelude.{ℕ, ◌+◌, ◌-◌, ◌*◌, ◌==◌, ◌&&◌, List, [], ◌∷◌, Option, Some, None, nat_lt, if◌then◌else◌}
use Rattle.std.specs.Int.{is_in_range}
use Rattle.tl_indexes.specs.Indexes.{code_point}
use Rattle.tl_indexes.specs.declared.index.Index.{Index}
use Rattle.tl_indexes.specs.declared.index.Index.TheVariants as index
use Rattle.tl_encoding.specs.declared.multi_byte.MultiByte.{MultiByte}
use Rattle.tl_encoding.specs.declared.multi_byte.MultiByte.TheVariants.{Big5, EucJp, EucKr, Gb18030, Gbk, ShiftJis}
use Rattle.tl_encoding.specs.declared.pairs.Points.{Points}
use Rattle.tl_encoding.specs.declared.pairs.Points.TheVariants as points

-- the code point of a half-width katakana by its number, the first of which is U+FF61
abbrev pub katakana : ℕ → ℕ
katakana number = 0xFF61 + number

-- the code points that the code's word for them has
abbrev pub points_of : Points → List ℕ
points_of points.Nothing = []
points_of (points.One point) = point ∷ []
points_of (points.Two first second) = first ∷ second ∷ []

-- the pointer of a lead byte and another one
abbrev pub big5_pointer : ℕ → ℕ → Option ℕ
big5_pointer lead byte =
    if is_in_range 0x40 0x7E byte then Some ((lead - 0x81) * 157 + (byte - 0x40))
    else if is_in_range 0xA1 0xFE byte then Some ((lead - 0x81) * 157 + (byte - 0x62))
    else None

abbrev pub euc_jp_pointer : ℕ → ℕ → Option ℕ
euc_jp_pointer lead byte =
    if is_in_range 0xA1 0xFE lead && is_in_range 0xA1 0xFE byte
    then Some ((lead - 0xA1) * 94 + (byte - 0xA1))
    else None

abbrev pub euc_kr_pointer : ℕ → ℕ → Option ℕ
euc_kr_pointer lead byte =
    if is_in_range 0x41 0xFE byte then Some ((lead - 0x81) * 190 + (byte - 0x41)) else None

abbrev pub gb_pointer : ℕ → ℕ → Option ℕ
gb_pointer lead byte =
    if is_in_range 0x40 0x7E byte then Some ((lead - 0x81) * 190 + (byte - 0x40))
    else if is_in_range 0x80 0xFE byte then Some ((lead - 0x81) * 190 + (byte - 0x41))
    else None

abbrev pub shift_jis_lead : ℕ → ℕ
shift_jis_lead lead = if nat_lt lead 0xA0 then lead - 0x81 else lead - 0xC1

abbrev pub shift_jis_pointer : ℕ → ℕ → Option ℕ
shift_jis_pointer lead byte =
    if is_in_range 0x40 0x7E byte then Some (shift_jis_lead lead * 188 + (byte - 0x40))
    else if is_in_range 0x80 0xFC byte then Some (shift_jis_lead lead * 188 + (byte - 0x41))
    else None

-- the code points of a pointer, of which there are none, one or two
abbrev pub one : Option ℕ → List ℕ
one None = []
one (Some point) = point ∷ []

abbrev pub in_index : Index → Option ℕ → List ℕ
in_index name None = []
in_index name (Some pointer) = one (code_point name pointer)

abbrev pub in_big5 : Option ℕ → List ℕ
in_big5 None = []
in_big5 (Some pointer) =
    if pointer == 1133 then 0xCA ∷ 0x304 ∷ []
    else if pointer == 1135 then 0xCA ∷ 0x30C ∷ []
    else if pointer == 1164 then 0xEA ∷ 0x304 ∷ []
    else if pointer == 1166 then 0xEA ∷ 0x30C ∷ []
    else one (code_point index.Big5 pointer)

-- pointers of Shift_JIS that stand for characters of private use
abbrev pub in_shift_jis : Option ℕ → List ℕ
in_shift_jis None = []
in_shift_jis (Some pointer) =
    if is_in_range 8836 10715 pointer then (0xE000 + (pointer - 8836)) ∷ []
    else one (code_point index.Jis0208 pointer)

-- the code points of a lead byte and another one
abbrev pub euc_jp_pair : ℕ → ℕ → List ℕ
euc_jp_pair lead byte =
    if lead == 0x8E && is_in_range 0xA1 0xDF byte then katakana (byte - 0xA1) ∷ []
    else in_index index.Jis0208 (euc_jp_pointer lead byte)

abbrev pub pair : MultiByte → ℕ → ℕ → List ℕ
pair Big5 lead byte = in_big5 (big5_pointer lead byte)
pair EucJp lead byte = euc_jp_pair lead byte
pair EucKr lead byte = in_index index.EucKr (euc_kr_pointer lead byte)
pair Gb18030 lead byte = in_index index.Gb18030 (gb_pointer lead byte)
pair Gbk lead byte = in_index index.Gb18030 (gb_pointer lead byte)
pair ShiftJis lead byte = in_shift_jis (shift_jis_pointer lead byte)

-- those of a lead byte and another one behind 0x8F in EUC-JP
abbrev pub jis0212_pair : ℕ → ℕ → List ℕ
jis0212_pair lead byte = in_index index.Jis0212 (euc_jp_pointer lead byte)
