-- What an index has for a pointer (encoding standard, 5).
use Rattle.std.specs.Prelude.{ℕ, ◌==◌, List, Option, Some, None, if◌then◌else◌, slice_get}
use Rattle.tl_indexes.specs.Big5.{big5}
use Rattle.tl_indexes.specs.EucKr.{euc_kr}
use Rattle.tl_indexes.specs.Gb18030.{gb18030}
use Rattle.tl_indexes.specs.Jis0208.{jis0208}
use Rattle.tl_indexes.specs.Jis0212.{jis0212}
use Rattle.tl_indexes.specs.declared.index.Index.{Index}
use Rattle.tl_indexes.specs.declared.index.Index.TheVariants.{Big5, EucKr, Gb18030, Jis0208, Jis0212}

abbrev pub index : Index → List ℕ
index Big5 = big5
index EucKr = euc_kr
index Gb18030 = gb18030
index Jis0208 = jis0208
index Jis0212 = jis0212

-- U+FFFD stands where an index has none
abbrev pub known : Option ℕ → Option ℕ
known None = None
known (Some point) = if point == 0xFFFD then None else Some point

-- "index code point"
abbrev pub code_point : Index → ℕ → Option ℕ
code_point name pointer = known (slice_get (index name) pointer)
