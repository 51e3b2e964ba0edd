use Rattle.std.proofs.Common.{List, arith, get_or, length, rules, ℕ, ◌++◌, ◌<◌, ◌≡◌, ◌∷◌, []}
use Rattle.std.specs.Prelude.{if◌then◌else◌}
use Rattle.tl_answers.proofs.Recorded.{record_next}
use Rattle.tl_answers.specs.Lines.{is_html_at}
use Rattle.tl_tree.specs.TreeView.{rows_in}
use Rattle.tl_tree_extract.specs.Fields.{records_written}
use Rattle.tl_tree_extract.specs.declared.fields.Field.{Field}
use Rattle.tl_answers.proofs.records.record_lines.Goals as goal

pub loop-number-preserved : goal.loop-number-preserved
loop-number-preserved c =
    let rows = rows_in c.args.tree.now in
    let numbers : List ℕ = c.args.numbers.now in
    let i : ℕ = c.loop-number.number-index in
    let html : List Field = c.in_ok-html.html.items in
    let other : List Field = c.in_ok-other.other.items in
    let fields : List Field = c.fields_at-fields.result.now in
    let within : i < length numbers = omega (arith, c.loop-number-test.true) in
    let is : fields ≡ (if is_html_at rows (get_or numbers i 0) then html else other) = search rules in
    let more : c.write_fields.new.out.items ≡ c.loop-number.lines.items ++ records_written c.args.own.columns rows fields (get_or numbers i 0 ∷ []) = search rules in
    record_next c.args.own rows html other numbers i fields c.loop-number.lines.items c.write_fields.new.out.items within
    (λ n. c.in_ok-html.ensures rows n) (λ n. c.in_ok-other.ensures rows n) is c.loop-number.invariant more
