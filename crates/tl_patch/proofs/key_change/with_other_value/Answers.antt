use Rattle.std.proofs.Common.{◌≤◌, ◌++◌, ℕ, List, length, take, drop, ap, ap₂, sym, subst, ◌∙◌}
use Rattle.std.proofs.lemmas.List.{take_rest}
use Rattle.tl_patch.specs.declared.stage.Place.{Place}
use Rattle.tl_patch.proofs.Begins.{start_alone}
use Rattle.tl_patch.proofs.Revalued.{IsSet, is_set}
use Rattle.tl_patch.proofs.key_change.with_other_value.Goals as goal

pub write_with-requires-clause-order : goal.write_with-requires-clause-order
write_with-requires-clause-order c =
    (is_set c.args.tag.now c.args.start c.requires.start (start_alone c.args.tag.now c.requires.tag) c.args.key.now c.args.value.now c.args.place c.requires.first c.requires.value).order

pub write_with-requires-clause-inside : goal.write_with-requires-clause-inside
write_with-requires-clause-inside c =
    let s = is_set c.args.tag.now c.args.start c.requires.start (start_alone c.args.tag.now c.requires.tag) c.args.key.now c.args.value.now c.args.place c.requires.first c.requires.value in
    subst (λ (xs : List ℕ). c.args.place.end ≤ length xs) (sym (take_rest c.args.tag.now c.args.start)) s.inside

pub returns : goal.returns
returns c =
    let tag : List ℕ = c.args.tag.now in
    let start : ℕ = c.args.start in
    let place : Place = c.args.place in
    let s : IsSet tag start c.args.key.now c.args.value.now place =
    is_set tag start c.requires.start (start_alone tag c.requires.tag) c.args.key.now c.args.value.now place c.requires.first c.requires.value in
    let put = c.as_slice.ensures.value ∙ c.in_ok-put.ensures in
    s.changed _
    (c.in_ok-write_with.ensures
    ∙ ap₂ (λ (xs ys : List ℕ). xs ++ (take place.value ys ++ (c.as_slice.result.now ++ drop place.end ys)))
    (c.in_ok-extend_from_slice.ensures.items ∙ ap (λ xs. xs ++ take start tag) c.new-new.ensures.items) (take_rest tag start)
    ∙ ap (λ (xs : List ℕ). take start tag ++ (take place.value (drop start tag) ++ (xs ++ drop place.end (drop start tag)))) put)
