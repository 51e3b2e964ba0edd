use Rattle.std.proofs.Common.{rules, Err, ◌≡◌, List, [], ◌∷◌, ◌++◌, length, take, ap, sym, subst, ◌∙◌}
use Rattle.std.specs.List.{All}
use Rattle.std.proofs.lemmas.List.{map-append, take_all, take_more}
use Rattle.std.proofs.lemmas.List.Elements.{All-push, Contains-get_or}
use Rattle.tl_patch_edit.specs.Asks.{IsEscaped, IsTagged, placed_of}
use Rattle.tl_patch_edit.specs.Inner.Causes.{IsWithin}
use Rattle.tl_patch_edit.proofs.Refusals.{err_is, one_refused}
use Rattle.tl_patch_edit.specs.Inner.Parts.{parts_view}
use Rattle.tl_patch_edit.specs.declared.ask.PlacedAsk.{PlacedAsk}
use Rattle.tl_patch_edit.specs.declared.tag.ReadyAsk.{ReadyAsk}
use Rattle.tl_patch_edit.proofs.tag.ready_asks.Goals as goal

pub loop-at-preserved : goal.loop-at-preserved
loop-at-preserved c =
    let asks : List PlacedAsk = c.args.asks.now in
    let old : List ReadyAsk = c.loop-at.ready.items in
    let one : ReadyAsk = c.in_ok-one.one in
    record {
      escaped = subst (All IsEscaped) (sym c.in_ok-push_ready.ensures)
          (All-push IsEscaped old one c.loop-at.invariant.escaped c.in_ok-one.ensures.escaped);
      asks = ap placed_of c.in_ok-push_ready.ensures
          ∙ map-append (λ (r : ReadyAsk). r.placed) old (one ∷ [])
          ∙ ap (λ (xs : List PlacedAsk). xs ++ one.placed ∷ []) c.loop-at.invariant.asks
          ∙ ap (λ (x : PlacedAsk). take c.loop-at.at asks ++ x ∷ []) c.in_ok-one.ensures.ask
          ∙ sym (take_more asks c.loop-at.at _ c.loop-at-test.true);
      within = subst (All (IsWithin (length c.args.parts.now))) (sym c.in_ok-push_ready.ensures)
          (All-push (IsWithin (length c.args.parts.now)) old one c.loop-at.invariant.within c.in_ok-one.ensures.within);
      tags = subst (All (IsTagged (parts_view c.args.parts.now))) (sym c.in_ok-push_ready.ensures)
          (All-push (IsTagged (parts_view c.args.parts.now)) old one c.loop-at.invariant.tags c.in_ok-one.ensures.tag);
    }

pub returns-clause-asks : goal.returns-clause-asks
returns-clause-asks c = c.loop-at.invariant.asks ∙ take_all c.loop-at.at c.args.asks.now c.loop-at-test.false

pub returns-in_err-one-clause-error : goal.returns-in_err-one-clause-error
returns-in_err-one-clause-error c =
    let is : c.from_residual-in_err-one.result ≡ Err c.in_err-one.field-0.0 = search rules in
    err_is _ _ _ is (one_refused (parts_view c.args.parts.now) c.args.asks.now _ _ (Contains-get_or c.args.asks.now c.loop-at.at _ c.loop-at-test.true) c.in_err-one.ensures.error)
