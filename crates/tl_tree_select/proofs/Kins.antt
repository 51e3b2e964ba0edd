-- The links that steps follow are there where those are that are needed.
use Rattle.std.proofs.Common.{◌≡◌, true, not, List, refl, slice_index_or}
use Rattle.std.proofs.lemmas.Bool.{and_from, not_from_false}
use Rattle.std.proofs.lemmas.List.Folds.{list_any_at}
use Rattle.tl_css.specs.declared.selector.Link.{Link}
use Rattle.tl_css.specs.declared.selector.Link.TheVariants.{Parent, Sibling, Twin}
use Rattle.tl_css.specs.declared.selector.Step.{Step}
use Rattle.tl_css.specs.declared.selector.Step.TheVariants.{Ask, Keep, Turn, Meet, Unite, Shift, Count}
use Rattle.tl_tree_select.specs.Inner.Kin.{AreKin, AreLinksOf, HasLinks, follows, is_read, is_same, links_of, needs}
use Rattle.tl_tree_select.specs.declared.kin.Kin.{Kin}
use Rattle.tl_tree_select.specs.Page.{Page}

module _ (page : Page) (kin : Kin) (steps : List Step) where
  abbrev pub AreWhereNeeded : Link → Type 0
  AreWhereNeeded link = needs steps link ≡ true → AreLinksOf page link (links_of kin link)

  pub kin_of : AreWhereNeeded Parent → AreWhereNeeded Sibling → AreWhereNeeded Twin → AreKin page kin steps
  kin_of parents siblings twins k d w = by_step (slice_index_or steps k d) (λ link f. list_any_at (follows link) steps k d w f)
    where
      by_link : (link : Link) → needs steps link ≡ true → AreLinksOf page link (links_of kin link)
      by_link Parent h = parents h
      by_link Sibling h = siblings h
      by_link Twin h = twins h

      same : (link : Link) → is_same link link ≡ true
      same Parent = refl
      same Sibling = refl
      same Twin = refl

      by_step : (step : Step) → ((link : Link) → follows link step ≡ true → needs steps link ≡ true) → HasLinks page kin step
      by_step (Ask t) h = tt
      by_step (Keep t) h = tt
      by_step Turn h = tt
      by_step Meet h = tt
      by_step Unite h = tt
      by_step (Shift way link reach) h = λ kept. by_link link (h link (and_from (not (is_read way link)) (is_same link link) (not_from_false (is_read way link) kept) (same link)))
      by_step (Count way link formula) h = by_link link (h link (same link))
