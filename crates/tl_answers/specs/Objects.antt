-- Nodes as JSON.
use Rattle.json.specs.Print.{print}
use Rattle.std.specs.Prelude.{List, Option, ℕ, ◌++◌}
use Rattle.tl_tree.specs.Rows.{Row}
use Rattle.tl_tree.specs.declared.source.Source.{Source}
use Rattle.tl_tree_extract.specs.Json.{array_tokens}
use Rattle.tl_tree_extract.specs.declared.json_form.JsonForm.{JsonForm}

-- the text of an array of nodes, each of which comes from somewhere in the page, and what ends it
abbrev pub array_line : JsonForm → List ℕ → (ℕ → Option Source) → List Row → List ℕ → List ℕ
array_line form end sources rows numbers =
    print (array_tokens form sources rows numbers) ++ end
