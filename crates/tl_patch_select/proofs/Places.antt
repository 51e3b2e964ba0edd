-- Where nodes of a tree come from.
use Rattle.std.proofs.Common.{None, ap, arith, inl, inr, length, refl, suc, sym, ℕ, ◌+◌, ◌-◌, ◌<◌, ◌∙◌, ◌≡◌, ◌≤◌}
use Rattle.std.proofs.lemmas.Bool.{cases_Bool, ltb-true}
use Rattle.tl_patch_select.specs.Inner.Known.{IsKnown, known_from}
use Rattle.tl_patch_select.specs.Selected.{first_place, place_of}
use Rattle.tl_patch_select.specs.declared.partly.Known.{Known}
use Rattle.tl_tree.specs.TreeView.{rows_in}
use Rattle.tl_tree.specs.declared.tree.Tree.{Tree}
use lib.Dec.{ltb}

pub none_here : (tree : Tree) (page_len number count : ℕ) → number < count → place_of tree number ≡ None →
    first_place tree page_len number (count - number) ≡ first_place tree page_len (number + 1) (count - (number + 1))
none_here tree page_len number count within none =
    let is : count - number ≡ suc (count - (number + 1)) = omega (arith, within) in
    rw is (rw (none, first_place) refl)

-- what is known from an earlier row on
pub known_on : (tree : Tree) (page_len : ℕ) (known : Known) (number place : ℕ) → IsKnown tree page_len known → place ≡ first_place tree page_len number (length (rows_in tree) - number) →
    IsKnown tree page_len (known_from known number place)
known_on tree page_len known number place k e = elim (cases_Bool (ltb number known.row)) [
  | inl y ↦
      let less : number < known.row = ltb-true number known.row y in
      let within : known.row ≤ length (rows_in tree) = k.within in
      let is : IsKnown tree page_len (record { row = number; place = place }) = record { within = omega (arith, less, within); place = e } in
      rw y is
  | inr y ↦ rw y k
]

-- the place that is known, where no row before has one
pub known_there : (tree : Tree) (page_len : ℕ) (known : Known) (number later : ℕ) → IsKnown tree page_len known → later ≡ known.row →
    first_place tree page_len number (length (rows_in tree) - number) ≡ first_place tree page_len later (length (rows_in tree) - later) →
    known.place ≡ first_place tree page_len number (length (rows_in tree) - number)
known_there tree page_len known number later k e i = k.place ∙ sym (i ∙ ap (λ n. first_place tree page_len n (length (rows_in tree) - n)) e)
