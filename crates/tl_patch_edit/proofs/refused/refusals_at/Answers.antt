use Rattle.std.proofs.Common.{List, ap, arith, length, ◌∙◌, ◌≡◌, ℕ}
use Rattle.tl_patch_edit.specs.View.{patch_view, patches_view}
use Rattle.tl_patch_spec.specs.Patches.{Patch}
use Rattle.tl_patch_spec.specs.Together.{at_each}
use Rattle.tl_html_tokens.specs.Tokens.{mark_len}
use Rattle.tl_html_tokens.specs.declared.token.Token.{Token}
use Rattle.tl_patch_edit.specs.Errors.{pieces_in}
use Rattle.tl_patch_edit.specs.declared.ask.Extent.{Extent}
use Rattle.tl_patch_edit.proofs.Apart.{all_are_refused, if_ok, token_count}
use Rattle.tl_patch_edit.proofs.refused.refusals_at.Goals as goal

pub all_refused-requires-clause-within : goal.all_refused-requires-clause-within
all_refused-requires-clause-within c =
    let page : List ℕ = c.args.page.now in
    let tokens : List Token = c.in_ok-found.found.tokens.items in
    let count : length tokens ≡ length (pieces_in page) = token_count page tokens (mark_len page) (pieces_in page) c.in_ok-found.ensures.tokens in
    let same : length c.as_slice-tokens.result.now ≡ length tokens = ap (λ (xs : List Token). length xs) c.as_slice-tokens.ensures.value in
    let extents : length c.as_slice-2.result.now ≡ length c.in_ok-extents.extents.items = ap (λ (xs : List Extent). length xs) c.as_slice-2.ensures.value in
    let len = c.in_ok-extents.ensures.len in
    omega arith

pub returns-clause-refused : goal.returns-clause-refused
returns-clause-refused c =
    let page : List ℕ = c.args.page.now in
    let patches : List (ℕ × Patch) = at_each (patch_view c.args.patch) c.args.places.now in
    let same : patches_view c.as_slice-3.result.now ≡ patches = ap patches_view c.as_slice-3.ensures.value ∙ c.in_ok-patches.ensures in
    if_ok _ _ c.all_refused.result (λ errors e. all_are_refused page (patches_view c.as_slice-3.result.now) patches errors.items same e) c.all_refused.ensures
