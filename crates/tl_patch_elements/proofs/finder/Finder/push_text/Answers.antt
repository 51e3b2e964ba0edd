use Rattle.std.proofs.Common.{◌≡◌, ℕ, List, ap, sym, ◌∙◌}
use Rattle.std.specs.List.{list_any}
use Rattle.tl_html_tokens.specs.Characters.{characters_of}
use Rattle.tl_html_balance.specs.View.{open_names}
use Rattle.tl_patch_elements.specs.Inner.Finding.{is_seen}
use Rattle.tl_patch_elements.proofs.Texts.{headless_kept, seen_count, text_found, unseen_kept}
use Rattle.tl_patch_elements.proofs.finder.Finder.push_text.Goals as goal

pub returns-then-not-is_in_head : goal.returns-then-not-is_in_head
returns-then-not-is_in_head c =
    headless_kept c.args.self.now c.args.at (characters_of c.args.mode c.args.bytes.now) (c.is_in_head-is_in_head.ensures c.if-not-is_in_head.true)

pub returns-then-not-is_any_seen : goal.returns-then-not-is_any_seen
returns-then-not-is_any_seen c =
    let s : List ℕ = characters_of c.args.mode c.args.bytes.now in
    let said : c.as_bytes.result.now ≡ s = c.as_bytes.ensures ∙ c.in_ok-text.ensures in
    unseen_kept c.args.self.now c.args.at s (ap (list_any is_seen) (sym said) ∙ sym c.is_any_seen-is_any_seen.ensures ∙ c.if-not-is_any_seen.true)

pub returns : goal.returns
returns c =
    let s : List ℕ = characters_of c.args.mode c.args.bytes.now in
    let said : c.as_bytes.result.now ≡ s = c.as_bytes.ensures ∙ c.in_ok-text.ensures in
    let k : ℕ = c.closed_before_text-count.result in
    text_found c.args.self.now c.close.new.self c.args.at k s
    (seen_count s (open_names c.args.self.now.open_tags) k (ap (list_any is_seen) (sym said) ∙ sym c.is_any_seen-is_any_seen.ensures ∙ c.if-not-is_any_seen.false) c.closed_before_text-count.ensures.value)
    c.in_ok-close.ensures.elements c.in_ok-close.ensures.names
