use Rattle.std.proofs.Common.{rules, Err, List, subst, ℕ, ◌≡◌}
use Rattle.tl_html_tokens.specs.declared.token.Token.{Token}
use Rattle.tl_patch_edit.specs.Asks.{asks_view}
use Rattle.tl_patch_edit.specs.Found.{IsNeverSplicedOf, IsSplicedPageOf}
use Rattle.tl_patch_edit.specs.Inner.CommentAsks.{AreAsksRefused, AreCommentAsks}
use Rattle.tl_patch_edit.specs.Inner.Parts.{parts_view}
use Rattle.tl_patch_edit.specs.declared.ask.PlacedAsk.{PlacedAsk}
use Rattle.tl_patch_edit.specs.declared.part.Part.{Part}
use Rattle.tl_patch_edit.proofs.Gone.{asks_refused, comments_gone, never_gone, never_page}
use Rattle.tl_patch_edit.proofs.comments.without_comments.Goals as goal

pub returns-in-Ok-clause-gone : goal.returns-in-Ok-clause-gone
returns-in-Ok-clause-gone c =
    let page : List ℕ = c.args.page.now in
    let text : List ℕ = c.in-Ok.text.items in
    let tokens : List Token = c.in_ok-tokens.tokens.items in
    let parts : List Part = c.in_ok-parts.parts.items in
    let asks : List PlacedAsk = c.in_ok-asks.asks.items in
    comments_gone page text tokens c.args.places.now asks (parts_view parts) c.in_ok-tokens.ensures.pieces
    (subst (λ (ts : List Token). AreCommentAsks 0 ts c.args.places.now asks) c.as_slice-2.ensures.value c.in_ok-asks.ensures.asks) c.in_ok-parts.ensures
    (subst (λ (bs : List PlacedAsk). IsSplicedPageOf (asks_view bs) (parts_view parts) page text) c.as_slice-3.ensures.value c.in-Ok.ensures.text)

pub returns-in_err-asks-clause-refused : goal.returns-in_err-asks-clause-refused
returns-in_err-asks-clause-refused c =
    let page : List ℕ = c.args.page.now in
    let tokens : List Token = c.in_ok-tokens.tokens.items in
    let why = c.in_err-asks.field-0.0 in
    let is : c.from_residual-in_err-asks.result ≡ Err why = search rules in
    rw is (asks_refused page tokens c.args.places.now why c.in_ok-tokens.ensures.pieces (subst (λ (ts : List Token). AreAsksRefused ts c.args.places.now why) c.as_slice-2.ensures.value c.in_err-asks.ensures.error))

pub returns-in-Err-ReadOtherwise-clause-refused : goal.returns-in-Err-ReadOtherwise-clause-refused
returns-in-Err-ReadOtherwise-clause-refused c =
    let page : List ℕ = c.args.page.now in
    let tokens : List Token = c.in_ok-tokens.tokens.items in
    let parts : List Part = c.in_ok-parts.parts.items in
    let asks : List PlacedAsk = c.in_ok-asks.asks.items in
    never_gone page tokens c.args.places.now asks (parts_view parts) c.in_ok-tokens.ensures.pieces
    (subst (λ (ts : List Token). AreCommentAsks 0 ts c.args.places.now asks) c.as_slice-2.ensures.value c.in_ok-asks.ensures.asks) c.in_ok-parts.ensures
    (subst (λ (bs : List PlacedAsk). IsNeverSplicedOf (asks_view bs) (parts_view parts) page) c.as_slice-3.ensures.value
    (never_page page 0 _ _ _ _ c.in-Err-ReadOtherwise.field-0-is c.in-Err-ReadOtherwise.ensures.error))
