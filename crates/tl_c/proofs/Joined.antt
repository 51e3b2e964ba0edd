-- Where a link leads from a base.
use Rattle.std.proofs.Common.{Bool, List, None, Option, Some, ap, sym, true, ℕ, ◌∙◌, ◌≡◌}
use Rattle.std.specs.Prelude.{if◌then◌else◌}
use Rattle.std.specs.Str.{is_utf8}
use Rattle.tl_c.specs.Extracts.{joined_of, target_of}
use Rattle.tl_c.specs.Queries.{outcome_of_some}
use Rattle.tl_page.specs.Outcome.{Outcome, not_understood, success}
use Rattle.tl_tree_extract.specs.Resolved.{resolved, url_of}
use Rattle.url.specs.Parser.{parse_url}
use Rattle.url.specs.Parts.{Parts, serialize}

some_of : (o : Option Parts) (url : Parts) → outcome_of_some success o ≡ success url → o ≡ Some url
some_of None url e = cc
some_of (Some own) url e = cc

pub joined_by : (base text link : List ℕ) (own url : Parts) (bytes : List ℕ) → is_utf8 base ≡ true → text ≡ base
    → outcome_of_some success (url_of (parse_url None text)) ≡ success own
    → outcome_of_some success (resolved own link) ≡ success url
    → bytes ≡ serialize url
    → joined_of base link ≡ success bytes
joined_by base text link own url bytes utf8 same read led written =
    let lead : Parts → Outcome (List ℕ) = λ o. outcome_of_some (λ (u : Parts). success (serialize u)) (resolved o link) in
    let base_is : url_of (parse_url None base) ≡ Some own = ap (λ (t : List ℕ). url_of (parse_url None t)) (sym same) ∙ some_of (url_of (parse_url None text)) own read in
    let url_is : resolved own link ≡ Some url = some_of (resolved own link) url led in
    ap (λ (v : Bool). if v then target_of base link else not_understood) utf8
    ∙ ap (outcome_of_some lead) base_is
    ∙ ap (outcome_of_some (λ (u : Parts). success (serialize u))) url_is
    ∙ ap (λ (b : List ℕ). success b) (sym written)
