-- What is known of where nodes come from.
use Rattle.std.specs.Prelude.{if◌then◌else◌, length, nat_lt, ℕ, ◌-◌, ◌≡◌, ◌≤◌}
use Rattle.tl_patch_select.specs.Selected.{first_place}
use Rattle.tl_patch_select.specs.declared.partly.Known.{Known}
use Rattle.tl_tree.specs.TreeView.{rows_in}
use Rattle.tl_tree.specs.declared.tree.Tree.{Tree}

-- the first node from a row on comes from this place
pub record IsKnown (tree : Tree) (page_len : ℕ) (known : Known) : Type 0 where
  pub within : known.row ≤ length (rows_in tree)
  pub place : known.place
      ≡ first_place tree page_len known.row (length (rows_in tree) - known.row)

-- a place that is known from an earlier row on, or else what was known
abbrev pub known_from : Known → ℕ → ℕ → Known
known_from known number place =
    if nat_lt number known.row then record { row = number; place = place } else known
