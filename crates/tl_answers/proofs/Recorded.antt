-- Lines of values, one more.
use Rattle.std.proofs.Common.{Bool, List, [], ap, append-nil, arith, false, flat_map, get_or, length, map, refl, sym, take, true, ℕ, ◌+◌, ◌++◌, ◌<◌, ◌∙◌, ◌≡◌, ◌∷◌}
use Rattle.std.proofs.lemmas.List.{take_more}
use Rattle.std.proofs.lemmas.List.Concat.{flat_map-append}
use Rattle.std.proofs.Math.ListN.{length-map}
use Rattle.std.specs.Prelude.{if◌then◌else◌}
use Rattle.tl_answers.proofs.Joined.{flat_map_next}
use Rattle.tl_answers.specs.Lines.{is_html_at}
use Rattle.tl_answers.specs.Records.{later_values, record_line, values_by, values_written}
use Rattle.tl_answers.specs.declared.field.Key.{Key}
use Rattle.tl_answers.specs.declared.records.Records.{Records}
use Rattle.tl_tree.specs.Rows.{Row}
use Rattle.tl_tree_extract.specs.Fields.{field_said, more_columns, record_written, records_written}
use Rattle.tl_tree_extract.specs.declared.column.Columns.{Columns}
use Rattle.tl_tree_extract.specs.declared.fields.Field.{Field}

later_is : (columns : Columns) (rows : List Row) (n : ℕ) (fields : List Field) → more_columns columns rows n fields ≡ later_values columns (map (field_said rows n) fields)
later_is columns rows n [] = refl
later_is columns rows n (field ∷ fields) = let e = later_is columns rows n fields in cc

-- the record of a node is the line of what its fields say
record_is : (columns : Columns) (rows : List Row) (n : ℕ) (fields : List Field) → record_written columns rows fields n ≡ values_written columns (map (field_said rows n) fields)
record_is columns rows n [] = refl
record_is columns rows n (field ∷ fields) =
    let later = later_is columns rows n fields in
    let many : length (map (field_said rows n) fields) ≡ length fields = length-map fields (field_said rows n) in
    cc

module _ (own : Records) (rows : List Row) (html other : List Field) where
  -- what is asked of a node is what its values are
  picked : (is_html : Bool) (n : ℕ)
      → map (field_said rows n) html ≡ values_by true own.keys.now own.has_text rows n
      → map (field_said rows n) other ≡ values_by false own.keys.now own.has_text rows n
      → map (field_said rows n) (if is_html then html else other) ≡ values_by is_html own.keys.now own.has_text rows n
  picked true n own-html own-other = own-html
  picked false n own-html own-other = own-other

  -- a node more
  pub record_next : (numbers : List ℕ) (i : ℕ) (fields : List Field) (old new : List ℕ) → i < length numbers
      → ((n : ℕ) → map (field_said rows n) html ≡ values_by true own.keys.now own.has_text rows n)
      → ((n : ℕ) → map (field_said rows n) other ≡ values_by false own.keys.now own.has_text rows n)
      → fields ≡ (if is_html_at rows (get_or numbers i 0) then html else other)
      → old ≡ flat_map (record_line own rows) (take i numbers)
      → new ≡ old ++ records_written own.columns rows fields (get_or numbers i 0 ∷ [])
      → new ≡ flat_map (record_line own rows) (take (i + 1) numbers)
  record_next numbers i fields old new within own-html own-other is so_far more =
      let n : ℕ = get_or numbers i 0 in
      let said : map (field_said rows n) fields ≡ values_by (is_html_at rows n) own.keys.now own.has_text rows n =
      ap (map (field_said rows n)) is ∙ picked (is_html_at rows n) n (own-html n) (own-other n) in
      let line : records_written own.columns rows fields (n ∷ []) ≡ record_line own rows n =
      append-nil (record_written own.columns rows fields n) ∙ record_is own.columns rows n fields ∙ ap (values_written own.columns) said in
      more ∙ ap (λ (bytes : List ℕ). bytes ++ records_written own.columns rows fields (n ∷ [])) so_far
      ∙ ap (λ (bytes : List ℕ). flat_map (record_line own rows) (take i numbers) ++ bytes) line
      ∙ flat_map_next (record_line own rows) numbers i within
