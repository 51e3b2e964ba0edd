use Rattle.std.proofs.Common.{List, ap, rules, ℕ, ◌++◌, ◌∙◌, ◌≡◌}
use Rattle.json.specs.Print.{print}
use Rattle.tl_tree.specs.Sources.{source_at}
use Rattle.tl_tree.specs.TreeView.{rows_in}
use Rattle.tl_tree_extract.proofs.Sinks.{text_of}
use Rattle.tl_tree_extract.specs.Json.{array_tokens}
use Rattle.tl_tree_extract.proofs.json_array.write_json_array.Goals as goal

pub returns : goal.returns
returns c =
    let o : List ℕ = c.new-text.result.out.items in
    let start : o ≡ c.args.out.now.items = c.new-text.ensures.out ∙ ap (λ v. v.items) c.replace.ensures.value in
    let said = array_tokens c.args.form (source_at c.args.tree.now) (rows_in c.args.tree.now) c.args.numbers.now in
    c.into_inner.ensures
    ∙ text_of o c.put_array.new.out.out.items c.new-text.result.after_value c.put_array.new.out.after_value said c.new-text.ensures.place c.in_ok-put_array.ensures.adds
    ∙ ap (λ l. l ++ print said) start
