use Rattle.std.proofs.Common.{◌≡◌, Option, None, Some, sym, ap, ◌∙◌, rules, tests}
use Rattle.std.specs.List.{find}
use Rattle.std.specs.Map.Iter.{deref_pair}
use Rattle.std.specs.Option.{option_copied, option_map}
use Rattle.std.specs.Str.{bytes_eq}
use Rattle.std.proofs.lemmas.Iterator.Consumers.{YieldsList-from_rest}
use Rattle.std.proofs.lemmas.Iterator.Search.{find_from_yields_List}
use Rattle.tl_bytes.specs.Held.{Kept}
use Rattle.tl_attributes.specs.AttributesView.{bytes_view, value_view}
use Rattle.tl.proofs.Elements.{lookup-shown}
use Rattle.tl.proofs.parser.element.value_among.Goals as goal

pub returns-in_err-pair : goal.returns-in_err-pair
returns-in_err-pair c =
    let key = c.args.key.now in
    let es = c.args.others.now.entries in
    let found : option_map deref_pair c.find.result ≡ find (λ (e : Kept × Option Kept). bytes_eq key (bytes_view e.0)) es =
    find_from_yields_List (λ (e : Kept × Option Kept). bytes_eq key (bytes_view e.0)) _ _ c.find.result c.find.ensures.ran (YieldsList-from_rest es c.iter.ensures.rest) (λ x b q k. search (rules, tests)) in
    let lost : c.find.result ≡ None = search rules in
    let none : c.from_residual.result ≡ None = search rules in
    ap (option_map option_copied) none ∙ sym (ap (λ r. option_map (λ (e : Kept × Option Kept). value_view e.1) (option_map deref_pair r)) lost)
    ∙ ap (option_map (λ (e : Kept × Option Kept). value_view e.1)) found ∙ lookup-shown key es

pub returns : goal.returns
returns c =
    let key = c.args.key.now in
    let es = c.args.others.now.entries in
    let found : option_map deref_pair c.find.result ≡ find (λ (e : Kept × Option Kept). bytes_eq key (bytes_view e.0)) es =
    find_from_yields_List (λ (e : Kept × Option Kept). bytes_eq key (bytes_view e.0)) _ _ c.find.result c.find.ensures.ran (YieldsList-from_rest es c.iter.ensures.rest) (λ x b q k. search (rules, tests)) in
    let pair : c.find.result ≡ Some c.in_ok-pair.pair = search rules in
    let shows : option_copied c.map.result ≡ value_view c.in_ok-pair.pair.1.now = search rules in
    ap Some shows ∙ sym (ap (λ r. option_map (λ (e : Kept × Option Kept). value_view e.1) (option_map deref_pair r)) pair)
    ∙ ap (option_map (λ (e : Kept × Option Kept). value_view e.1)) found ∙ lookup-shown key es
