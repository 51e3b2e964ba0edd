use Rattle.std.proofs.Common.{rules, arith, Err, ◌≡◌, ℕ, List, drop, length, subst, sym, ◌∙◌}
use Rattle.std.specs.List.{All}
use Rattle.tl_html_spec.specs.Pieces.{pieces, runs}
use Rattle.tl_html_tokens.specs.Tokens.{AreTokensOf}
use Rattle.tl_html_tokens.specs.declared.token.Token.{Token}
use Rattle.tl_patch_edit.specs.Asks.{asks_view}
use Rattle.tl_patch_edit.specs.Inner.Causes.{IsAsksError, IsPageError, IsPlanned, IsStartsError}
use Rattle.tl_patch_edit.specs.Found.{IsSplicedPageOf}
use Rattle.tl_patch_edit.specs.Inner.Limits.{AreKept, IsMisreadError}
use Rattle.tl_patch_edit.specs.Inner.Parts.{parts_view}
use Rattle.tl_patch_edit.specs.Several.{AreMeantAt, AreSorted, IsMeantOfPage, places_of}
use Rattle.tl_patch_edit.specs.View.{meant_view, patches_view}
use Rattle.tl_patch_edit.specs.declared.ask.MeantPatch.{MeantPatch}
use Rattle.tl_patch_edit.specs.declared.ask.PlacedAsk.{PlacedAsk}
use Rattle.tl_patch_edit.specs.declared.ask.PlacedPatch.{PlacedPatch}
use Rattle.tl_patch_edit.specs.declared.part.Part.{Part}
use Rattle.tl_patch_edit.proofs.Together.{meant_are, meant_begin, meant_given, several}
use Rattle.tl_patch_edit.proofs.Misread.{kept_where, misread_refused}
use Rattle.tl_patch_edit.proofs.Refusals.{asks_refused, err_is, splice_refused, starts_refused}
use Rattle.tl_patch_edit.proofs.Tails.{count_pieces}
use Rattle.tl_patch_edit.proofs.Unique.{tokens_of_page}
use Rattle.tl_patch_edit.proofs.patched.with_patches.Goals as goal

pub page_asks-requires-clause-meant : goal.page_asks-requires-clause-meant
page_asks-requires-clause-meant c =
    let page : List ℕ = c.args.own.page.now in
    let tokens : List Token = c.args.own.tokens.items in
    let meant : List MeantPatch = c.in_ok-meant.meant.items in
    let at : AreMeantAt 0 tokens c.args.patches.now meant =
    subst (λ (ts : List Token). AreMeantAt 0 ts c.args.patches.now meant) c.as_slice.ensures.value c.in_ok-meant.ensures.meant in
    subst (All (IsMeantOfPage page)) (sym c.as_slice-2.ensures.value) (meant_are page tokens c.args.patches.now 0 meant (tokens_of_page c.args.own.page.now c.args.own.tokens.items c.args.own.of_page) at)

pub page_asks-requires-clause-len : goal.page_asks-requires-clause-len
page_asks-requires-clause-len c = count_pieces c.args.own.page.now c.args.own.tokens.items (tokens_of_page c.args.own.page.now c.args.own.tokens.items c.args.own.of_page) ∙ (let is : length c.args.own.tokens.items ≡ c.len.result = first_of (search rules, omega arith) in is)

pub refuse_misread-requires : goal.refuse_misread-requires
refuse_misread-requires c =
    subst (λ (ts : List Token). AreTokensOf c.args.own.page.now ts) (sym c.as_slice-4.ensures.value) (tokens_of_page c.args.own.page.now c.args.own.tokens.items c.args.own.of_page)

pub returns-clause-edited : goal.returns-clause-edited
returns-clause-edited c =
    let page : List ℕ = c.args.own.page.now in
    let tokens : List Token = c.args.own.tokens.items in
    let patches : List PlacedPatch = c.args.patches.now in
    let meant : List MeantPatch = c.in_ok-meant.meant.items in
    let text : List ℕ = c.in_ok-text.text.items in
    let parts : List Part = c.in_ok-parts.parts.items in
    let asks : List PlacedAsk = c.in_ok-asks.asks.items in
    let at : AreMeantAt 0 tokens patches meant =
    subst (λ (ts : List Token). AreMeantAt 0 ts patches meant) c.as_slice.ensures.value c.in_ok-meant.ensures.meant in
    let sorted : AreSorted (runs (pieces page)) (meant_view meant) asks =
    subst (λ (ms : List MeantPatch). AreSorted (runs (pieces page)) (meant_view ms) asks) c.as_slice-2.ensures.value c.in_ok-asks.ensures.sorted in
    several page text tokens patches meant asks (parts_view parts) (tokens_of_page c.args.own.page.now c.args.own.tokens.items c.args.own.of_page) at sorted c.in_ok-parts.ensures
    (subst (λ (bs : List PlacedAsk). IsSplicedPageOf (asks_view bs) (parts_view parts) page text) c.as_slice-6.ensures.value c.in_ok-text.ensures.text)

pub returns-clause-kept : goal.returns-clause-kept
returns-clause-kept c =
    let page : List ℕ = c.args.own.page.now in
    let tokens : List Token = c.args.own.tokens.items in
    let patches : List PlacedPatch = c.args.patches.now in
    let meant : List MeantPatch = c.in_ok-meant.meant.items in
    let asks : List PlacedAsk = c.in_ok-asks.asks.items in
    let at : AreMeantAt 0 tokens patches meant =
    subst (λ (ts : List Token). AreMeantAt 0 ts patches meant) c.as_slice.ensures.value c.in_ok-meant.ensures.meant in
    let sorted : AreSorted (runs (pieces page)) (meant_view meant) asks =
    subst (λ (ms : List MeantPatch). AreSorted (runs (pieces page)) (meant_view ms) asks) c.as_slice-2.ensures.value c.in_ok-asks.ensures.sorted in
    kept_where page tokens patches meant asks (tokens_of_page c.args.own.page.now c.args.own.tokens.items c.args.own.of_page) at sorted
    (subst (λ (bs : List PlacedAsk). AreKept (runs (pieces page)) bs) c.as_slice-5.ensures.value c.in_ok-refuse_misread.ensures.kept)

pub returns-in_err-meant-clause-error : goal.returns-in_err-meant-clause-error
returns-in_err-meant-clause-error c =
    let tokens : List Token = c.args.own.tokens.items in
    let is : c.from_residual.result ≡ Err c.in_err-meant.field-0.0 = search rules in
    err_is _ _ _ is (starts_refused c.args.own.page.now tokens (patches_view c.args.patches.now) c.in_err-meant.field-0.0 (tokens_of_page c.args.own.page.now c.args.own.tokens.items c.args.own.of_page)
    (subst (λ (ts : List Token). IsStartsError ts (places_of (patches_view c.args.patches.now)) c.in_err-meant.field-0.0) c.as_slice.ensures.value c.in_err-meant.ensures.error))

pub returns-in_err-asks-clause-error : goal.returns-in_err-asks-clause-error
returns-in_err-asks-clause-error c =
    let page : List ℕ = c.args.own.page.now in
    let tokens : List Token = c.args.own.tokens.items in
    let patches : List PlacedPatch = c.args.patches.now in
    let meant : List MeantPatch = c.in_ok-meant.meant.items in
    let at : AreMeantAt 0 tokens patches meant =
    subst (λ (ts : List Token). AreMeantAt 0 ts patches meant) c.as_slice.ensures.value c.in_ok-meant.ensures.meant in
    let is : c.from_residual-in_err-asks.result ≡ Err c.in_err-asks.field-0.0 = search rules in
    err_is _ _ _ is (asks_refused page (patches_view patches) meant c.in_err-asks.field-0.0 (meant_are page tokens patches 0 meant (tokens_of_page c.args.own.page.now c.args.own.tokens.items c.args.own.of_page) at)
    (meant_given tokens patches 0 meant at)
    (subst (λ (ms : List MeantPatch). IsAsksError page ms c.in_err-asks.field-0.0) c.as_slice-2.ensures.value c.in_err-asks.ensures.error))

pub parts_of-requires : goal.parts_of-requires
parts_of-requires c =
    subst (λ (ts : List Token). AreTokensOf c.args.own.page.now ts) (sym c.as_slice-3.ensures.value) (tokens_of_page c.args.own.page.now c.args.own.tokens.items c.args.own.of_page)

pub returns-in_err-refuse_misread-clause-error : goal.returns-in_err-refuse_misread-clause-error
returns-in_err-refuse_misread-clause-error c =
    let page : List ℕ = c.args.own.page.now in
    let tokens : List Token = c.args.own.tokens.items in
    let patches : List PlacedPatch = c.args.patches.now in
    let meant : List MeantPatch = c.in_ok-meant.meant.items in
    let parts : List Part = c.in_ok-parts.parts.items in
    let asks : List PlacedAsk = c.in_ok-asks.asks.items in
    let at : AreMeantAt 0 tokens patches meant =
    subst (λ (ts : List Token). AreMeantAt 0 ts patches meant) c.as_slice.ensures.value c.in_ok-meant.ensures.meant in
    let is : c.from_residual-in_err-refuse_misread.result ≡ Err c.in_err-refuse_misread.field-0.0 = search rules in
    err_is _ _ _ is (misread_refused page tokens (patches_view patches) (parts_view parts) meant asks c.in_err-refuse_misread.field-0.0 (tokens_of_page c.args.own.page.now c.args.own.tokens.items c.args.own.of_page)
    (record {
      are_pieces = c.in_ok-parts.ensures;
      of_page = meant_are page tokens patches 0 meant (tokens_of_page c.args.own.page.now c.args.own.tokens.items c.args.own.of_page) at;
      are_given = meant_given tokens patches 0 meant at;
      begin = meant_begin page tokens patches 0 meant (tokens_of_page c.args.own.page.now c.args.own.tokens.items c.args.own.of_page) at;
      planned = subst (λ (ms : List MeantPatch). All (IsPlanned ms) asks) c.as_slice-2.ensures.value c.in_ok-asks.ensures.planned;
      sorted = subst (λ (ms : List MeantPatch). AreSorted (runs (pieces page)) (meant_view ms) asks) c.as_slice-2.ensures.value c.in_ok-asks.ensures.sorted;
    })
    (subst (λ (bs : List PlacedAsk). IsMisreadError (runs (pieces page)) tokens bs c.in_err-refuse_misread.field-0.0) c.as_slice-5.ensures.value
    (subst (λ (ts : List Token). IsMisreadError (runs (pieces page)) ts c.as_slice-5.result.now c.in_err-refuse_misread.field-0.0) c.as_slice-4.ensures.value
    c.in_err-refuse_misread.ensures.error)))

pub returns-in_err-text-clause-error : goal.returns-in_err-text-clause-error
returns-in_err-text-clause-error c =
    let page : List ℕ = c.args.own.page.now in
    let tokens : List Token = c.args.own.tokens.items in
    let patches : List PlacedPatch = c.args.patches.now in
    let meant : List MeantPatch = c.in_ok-meant.meant.items in
    let parts : List Part = c.in_ok-parts.parts.items in
    let asks : List PlacedAsk = c.in_ok-asks.asks.items in
    let at : AreMeantAt 0 tokens patches meant =
    subst (λ (ts : List Token). AreMeantAt 0 ts patches meant) c.as_slice.ensures.value c.in_ok-meant.ensures.meant in
    let is : c.from_residual-in_err-text.result ≡ Err c.in_err-text.field-0.0 = search rules in
    err_is _ _ _ is (splice_refused page c.first_of-place.result (places_of (patches_view (drop 1 patches))) (patches_view patches) (parts_view parts) meant asks c.in_err-text.field-0.0 c.first_of-place.ensures
    (record {
      are_pieces = c.in_ok-parts.ensures;
      of_page = meant_are page tokens patches 0 meant (tokens_of_page c.args.own.page.now c.args.own.tokens.items c.args.own.of_page) at;
      are_given = meant_given tokens patches 0 meant at;
      begin = meant_begin page tokens patches 0 meant (tokens_of_page c.args.own.page.now c.args.own.tokens.items c.args.own.of_page) at;
      planned = subst (λ (ms : List MeantPatch). All (IsPlanned ms) asks) c.as_slice-2.ensures.value c.in_ok-asks.ensures.planned;
      sorted = subst (λ (ms : List MeantPatch). AreSorted (runs (pieces page)) (meant_view ms) asks) c.as_slice-2.ensures.value c.in_ok-asks.ensures.sorted;
    })
    (subst (λ (bs : List PlacedAsk). IsPageError page c.first_of-place.result (parts_view parts) bs c.in_err-text.field-0.0) c.as_slice-6.ensures.value c.in_err-text.ensures.error))
