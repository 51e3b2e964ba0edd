-- Words for worked rows. No contract cites them.
use Rattle.std.specs.Prelude.{List, [], codes, false, ℕ, ◌++◌, ◌∷◌}
use Rattle.tl_dom_spec.specs.HtmlForest.{no_trees}
use Rattle.tl_tree.specs.Examples.{an, node_shown, says}
use Rattle.tl_tree.specs.Rows.{Row, rows_of}
use Rattle.tl_tree_edit.specs.Changes.{Change, Edit, Put, Trees, edited}
use Rattle.tl_tree_edit.specs.Events as event
use Rattle.tl_tree_edit.specs.Events.{Event, events}
use Rattle.tl_tree_edit.specs.Operations.{context}
use Rattle.tl_tree_edit.specs.declared.position.Position.{Position}

-- the beginning of an element as its name in brackets, an end as a stroke
abbrev pub shown : List Event → List ℕ
shown [] = []
shown (event.begins node ∷ events) = codes "<" ++ node_shown node ++ codes ">" ++ shown events
shown (event.says byte ∷ events) = byte ∷ shown events
shown (event.ends ∷ events) = codes "/" ++ shown events

-- `<p>a<b>c</b>d</p>e`
abbrev pub page : List Row
page = rows_of (an "p" (says "a" (an "b" (says "c" no_trees) (says "d" no_trees))) (says "e" no_trees))

-- `x<i></i>`
abbrev pub put_in : Put
put_in = Trees (rows_of (says "x" (an "i" no_trees no_trees)))

abbrev pub edit : ℕ → Change → Edit
edit number change = record { number = number; change = change }

abbrev pub page_shown : List ℕ
page_shown = shown (events page)

-- with one change, and with two
abbrev pub with_one : ℕ → Change → List ℕ
with_one number change = shown (edited (edit number change ∷ []) page)

abbrev pub with_two : ℕ → Change → ℕ → Change → List ℕ
with_two number change other more =
    shown (edited (edit number change ∷ edit other more ∷ []) page)

-- `<form><b></b></form><i></i>`
abbrev pub formed : List Row
formed = rows_of (an "form" (an "b" no_trees no_trees) (an "i" no_trees no_trees))

-- `<html><body></body></html>`
abbrev pub whole : List Row
whole = rows_of (an "html" (an "body" no_trees no_trees) no_trees)

-- `<template>a</template>`
abbrev pub templated : List Row
templated = rows_of (an "template" (says "a" no_trees) no_trees)

-- the name of the element in which is read what is put there
abbrev pub read_name : List Row → Position → ℕ → List ℕ
read_name rows position n = (context rows false position n).tag.name
