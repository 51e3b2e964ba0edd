-- The words of an index.
use Rattle.std.specs.Prelude.{ℕ, List}
use Rattle.tl_safe_fit.specs.Rows.{words_in}
use Rattle.tl_safe_fit.specs.declared.words.index.WordIndex.{WordIndex}

abbrev pub indexed_words : WordIndex → List (List ℕ)
indexed_words index = words_in index.rows.items
