use Rattle.std.proofs.Common.{◌≡◌, false, get_or, subst, sym, ◌∙◌}
use Rattle.std.specs.List.{All}
use Rattle.std.proofs.lemmas.List.{take_all}
use Rattle.std.proofs.lemmas.List.Elements.{All-more}
use Rattle.tl_html_tokens.specs.declared.mode.Mode.TheVariants as mode
use Rattle.tl_html_tokens.specs.declared.stage.TokenKind.TheVariants as kind
use Rattle.tl_patch_edit.specs.Asks.{ask_view}
use Rattle.tl_patch_edit.specs.Inner.Limits.{is_misread_in}
use Rattle.tl_patch_edit.specs.declared.ask.PlacedAsk.{PlacedAsk}
use Rattle.tl_patch_edit.specs.declared.ask.Put.TheVariants as put
use Rattle.tl_patch_edit.proofs.Misread.{are_kept, cause_within, misread_by}
use Rattle.tl_patch_edit.proofs.raw_text.refuse_by_page.Goals as goal

-- what the goals have where no ask stands
abbrev nothing_asked : PlacedAsk
nothing_asked = record {
  start = record { number = 0; token = record { start = 0; end = 0; kind = kind.Text; mode = mode.Data } };
  turn = record { depth = 0; rank = 0; at = 0 };
  ask = record { from = 0; until = 0; put = put.Nothing };
}

pub begin_of-cause-requires : goal.begin_of-cause-requires
begin_of-cause-requires c =
    cause_within c.args.page.now c.args.tokens.now c.in_ok-limits.limits c.args.asks.now (get_or c.args.asks.now c.loop-at.at nothing_asked) c.cause.result c.requires c.in_ok-limits.ensures
    (sym c.is_misread-is_misread.ensures ∙ c.if-is_misread.true) c.cause.ensures

pub returns-then-is_misread-clause-error : goal.returns-then-is_misread-clause-error
returns-then-is_misread-clause-error c =
    misread_by c.args.page.now c.args.tokens.now c.in_ok-limits.limits c.args.asks.now c.loop-at.at c.cause.result c.begin_of-cause.result _ c.requires c.in_ok-limits.ensures c.loop-at-test.true
    (sym c.is_misread-is_misread.ensures ∙ c.if-is_misread.true) c.cause.ensures c.begin_of-cause.ensures

pub loop-at-preserved : goal.loop-at-preserved
loop-at-preserved c =
    All-more (λ (one : PlacedAsk). is_misread_in c.args.tokens.now c.in_ok-limits.limits (ask_view one.ask) ≡ false) c.args.asks.now c.loop-at.at _ c.loop-at-test.true c.loop-at.invariant
    (sym c.is_misread-is_misread.ensures ∙ c.if-is_misread.false)

pub returns-clause-kept : goal.returns-clause-kept
returns-clause-kept c =
    are_kept c.args.page.now c.args.tokens.now c.in_ok-limits.limits c.args.asks.now c.requires c.in_ok-limits.ensures
    (subst (All (λ (one : PlacedAsk). is_misread_in c.args.tokens.now c.in_ok-limits.limits (ask_view one.ask) ≡ false)) (take_all c.loop-at.at c.args.asks.now c.loop-at-test.false) c.loop-at.invariant)
