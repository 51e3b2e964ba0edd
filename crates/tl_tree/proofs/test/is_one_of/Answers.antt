use Rattle.std.proofs.Common.{ap, rules, sym, tests, ◌≡◌, ◌∙◌, nat_eq}
use Rattle.std.proofs.lemmas.Iterator.Search.{any_from_yields_List}
use Rattle.std.proofs.lemmas.Iterator.Splits.{YieldsList-from_slice_split}
use Rattle.std.specs.List.{list_any, slice_split}
use Rattle.std.specs.Str.{bytes_eq}
use Rattle.tl_tree.proofs.Asked.{words-split}
use Rattle.tl_tree.proofs.test.is_one_of.Goals as goal

pub returns : goal.returns
returns c =
    let text = c.args.words.now in
    let name = c.args.name.now in
    let any : c.any.result ≡ list_any (λ part. bytes_eq name part) (slice_split (λ b. nat_eq b 32) text) =
    any_from_yields_List (λ part. bytes_eq name part) _ _ c.any.result c.any.ensures.ran
    (YieldsList-from_slice_split _ (λ b. nat_eq b 32) text c.split.ensures.rest c.split.ensures.done c.split.ensures.closure (λ x b q k. search (rules, tests)))
    (λ x b q k. search (rules, tests)) in
    any ∙ ap (list_any (λ part. bytes_eq name part)) (sym (words-split text))
