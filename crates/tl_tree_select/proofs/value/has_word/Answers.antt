use Rattle.std.proofs.Common.{◌≡◌, rules, tests}
use Rattle.std.specs.List.{list_any, slice_split}
use Rattle.std.specs.Str.{bytes_eq}
use Rattle.std.proofs.lemmas.Iterator.Search.{any_from_yields_List}
use Rattle.std.proofs.lemmas.Iterator.Splits.{YieldsList-from_slice_split}
use Rattle.tl_css.specs.Bytes.{is_white}
use Rattle.tl_tree_select.proofs.Values.{word_is}
use Rattle.tl_tree_select.proofs.value.has_word.Goals as goal

pub returns : goal.returns
returns c =
    let own = c.args.own.now in
    let word = c.args.word.now in
    let any : c.any.result ≡ list_any (λ part. bytes_eq part word) (slice_split is_white own) =
    any_from_yields_List (λ part. bytes_eq part word) _ _ c.any.result c.any.ensures.ran
    (YieldsList-from_slice_split _ is_white own c.split.ensures.rest c.split.ensures.done c.split.ensures.closure (λ x b q k. search (rules, tests)))
    (λ x b q k. search (rules, tests)) in
    word_is word (slice_split is_white own) c.any.result any
