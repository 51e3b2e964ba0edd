use Rattle.std.proofs.Common.{◌≡◌, ◌∙◌, ◌++◌, ℕ, List, length, take, drop, map, ap, ap₂, sym, is_some}
use Rattle.std.proofs.lemmas.List.{take_rest}
use Rattle.tl_patch.specs.View.{splice_view}
use Rattle.tl_patch_spec.specs.Splices.{Splice, are_ordered, with_splices}
use Rattle.tl_patch.specs.Inner.Cuts.{cuts_of}
use Rattle.tl_patch.specs.AttributePlaces.{places_of}
use Rattle.tl_patch.specs.declared.stage.Place.{Place}
use Rattle.tl_patch.proofs.Begins.{start_alone}
use Rattle.tl_patch.proofs.Dropped.{IsUnset, is_unset}
use Rattle.tl_patch.proofs.key_change.without_named.Goals as goal

pub returns-in_default-clause-some : goal.returns-in_default-clause-some
returns-in_default-clause-some c =
    let tag : List ℕ = c.args.tag.now in
    let start : ℕ = c.args.start in
    let key : List ℕ = c.args.key.now in
    let s : IsUnset tag start key = is_unset tag start c.requires.start (start_alone tag c.requires.tag) key in
    let gone : map splice_view c.as_slice-2.result.now ≡ (cuts_of (drop start tag) key 0 (places_of (drop start tag))).splices =
    ap (map splice_view) c.as_slice-2.ensures.value ∙ c.in_ok-gone.ensures
    ∙ ap₂ (λ (xs : List ℕ) (ps : List Place). (cuts_of xs key 0 ps).splices) (take_rest tag start)
    (c.as_slice.ensures.value ∙ c.in_ok-attributes.ensures ∙ ap places_of (take_rest tag start)) in
    sym (ap is_some c.in_default.is) ∙ c.in_ok-new_rest.ensures.some
    ∙ ap₂ (λ (xs : List ℕ) (ss : List (Splice ℕ)). are_ordered 0 (length xs) ss) (take_rest tag start) gone
    ∙ s.ordered

pub returns-clause-changed : goal.returns-clause-changed
returns-clause-changed c =
    let tag : List ℕ = c.args.tag.now in
    let start : ℕ = c.args.start in
    let key : List ℕ = c.args.key.now in
    let s : IsUnset tag start key = is_unset tag start c.requires.start (start_alone tag c.requires.tag) key in
    let gone : map splice_view c.as_slice-2.result.now ≡ (cuts_of (drop start tag) key 0 (places_of (drop start tag))).splices =
    ap (map splice_view) c.as_slice-2.ensures.value ∙ c.in_ok-gone.ensures
    ∙ ap₂ (λ (xs : List ℕ) (ps : List Place). (cuts_of xs key 0 ps).splices) (take_rest tag start)
    (c.as_slice.ensures.value ∙ c.in_ok-attributes.ensures ∙ ap places_of (take_rest tag start)) in
    let text = rw c.in-Some.is at c.in_ok-new_rest.ensures.text in
    s.changed _
    (c.in_ok-extend_from_slice-2.ensures.items
    ∙ ap₂ (λ (xs ys : List ℕ). xs ++ ys) (c.in_ok-extend_from_slice.ensures.items ∙ ap (λ xs. xs ++ take start tag) c.new-new.ensures.items)
    (c.as_slice-3.ensures.value ∙ text ∙ ap₂ (λ (xs : List ℕ) (ss : List (Splice ℕ)). with_splices xs ss) (take_rest tag start) gone))
